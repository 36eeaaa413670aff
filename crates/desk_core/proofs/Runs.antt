-- Where a line ends: at the first byte 10 from a place on, or with the input.
use Prim.Native.Nat.{ℕ, zero, suc, ◌+◌, ◌-◌, ◌≤◌, ◌<◌}
use mathlib.Core.Path.{◌≡◌, sym, ◌∙◌, ap, subst}
use mathlib.Core.Bool.{not}
use mathlib.Core.List.{List, [], ◌∷◌, ◌++◌}
use native.Mathlib.Omega.{arith}
use borrow.Author.Tests.{ne_eqb}
use lib.Dec.{T, eqb}
use lib.ListN.{length, take, drop, get_or, length-drop}
use lib.Seq.{take-suc, get_or-drop}
use Rattle.std.specs.List.{AllWithin, HoldsAt}
use Rattle.higman.specs.Text.{line_end}
use Rattle.higman.proofs.Tests.{T_of, all_cons}
use Rattle.desk.specs.Session.{unended}
use Rattle.desk_core.specs.Feeding.{LineEnd}

-- bytes that do not end a line, and one that does
abbrev pub Inner : ℕ → Type 0
Inner b = b ≡ line_end → ⊥

abbrev pub Last : ℕ → Type 0
Last b = b ≡ line_end

unended_front : (l : List ℕ) (i : ℕ) → i ≤ length l → ((k : ℕ) → k < i → Inner (get_or l k 0)) → T (unended (take i l))
unended_front l zero h inner = tt
unended_front [] (suc i) h inner = tt
unended_front (x ∷ l) (suc i) h inner =
    all_cons (λ b. not (eqb b line_end)) x (take i l) (T_of (ap not (ne_eqb x line_end (inner zero (omega arith)))))
    (unended_front l i (omega arith) (λ k b. inner (suc k) (omega arith)))

module _ (input : List ℕ) (at : ℕ) (h : at ≤ length input) where
  abbrev rest : List ℕ
  rest = drop at input

  ended_at : (n : ℕ) → n ≤ length rest → AllWithin Inner rest 0 n → T (unended (take (at + n - at) rest))
  ended_at n b inner =
      let run : n ≡ at + n - at = omega arith in
      subst (λ k. T (unended (take k rest))) run (unended_front rest n b (λ k c. inner k 0 (omega arith) c))

  pub ends_line : (n : ℕ) → n < length rest → HoldsAt Last rest n → AllWithin Inner rest 0 n → LineEnd input at (at + n)
  ends_line n b last inner =
      record {
        from = omega arith;
        inside = omega (arith, length-drop at input);
        line = ended_at n (omega arith) inner;
        ended = λ e. sym (get_or-drop at input n 0) ∙ last 0;
      }

  pub ends_input : AllWithin Inner rest 0 (length rest) → LineEnd input at (length input)
  ends_input inner =
      let whole : at + length rest ≡ length input = omega (arith, length-drop at input) in
      record {
        from = h;
        inside = omega arith;
        line = subst (λ k. T (unended (take (k - at) rest))) whole (ended_at (length rest) (omega arith) inner);
        ended = λ e. absurd (omega arith);
      }

module _ (input : List ℕ) (at i : ℕ) (h : at ≤ i) (k : i < length input) where
  byte_there : get_or (drop at input) (i - at) 0 ≡ get_or input i 0
  byte_there = let there : at + (i - at) ≡ i = omega arith in get_or-drop at input (i - at) 0 ∙ ap (λ j. get_or input j 0) there

  -- one more byte of the run
  pub run_next : take (i + 1 - at) (drop at input) ≡ take (i - at) (drop at input) ++ (get_or input i 0 ∷ [])
  run_next =
      let next : i + 1 - at ≡ suc (i - at) = omega arith in
      ap (λ n. take n (drop at input)) next
      ∙ take-suc (drop at input) (i - at) 0 (omega (arith, length-drop at input))
      ∙ ap (λ b. take (i - at) (drop at input) ++ (b ∷ [])) byte_there
