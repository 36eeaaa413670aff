-- Blocks of the columns: what a window of the columns shows after some words were written over them.
use Prim.Native.Nat.{ℕ, ◌+◌, ◌-◌, ◌≤◌}
use mathlib.Core.Path.{◌≡◌, refl, sym, ◌∙◌, ap}
use mathlib.Core.List.{List, ◌++◌, append_assoc}
use native.Mathlib.Omega.{arith}
use lib.ListN.{length, take, drop, length-append, length-drop, take-append-drop}
use lib.Seq.{length-take-le, take_at, drop_at, take-append-le, drop-append-le}
use lib.Seq.{drop-append-add, drop-drop}
use Rattle.higman.specs.Limits.{max_pairs}
use Rattle.higman.specs.Buffers.{written}
use Rattle.operations.specs.declared.Plan.{Plan}
use Rattle.slots.specs.Blocks.{InColumns, from_place, to_place, put}
use Rattle.columns.proofs.Limits.{pair_limit}

-- a window of a list that begins with p shows only p, where it stands within it
within_front : (p q : List ℕ) (b n : ℕ) → b + n ≤ length p → take n (drop b (p ++ q)) ≡ take n (drop b p)
within_front p q b n h =
    ap (take n) (drop-append-le b p q (omega arith))
    ∙ take-append-le n (drop b p) q (omega (arith, length-drop b p))

module _ (l : List ℕ) (at : ℕ) (ws : List ℕ) (fits : at + length ws ≤ length l) where
  -- the window where the words were written shows them
  pub shown_same : take (length ws) (drop at (written l at ws)) ≡ ws
  shown_same =
      ap (take (length ws)) (drop_at (take at l) (ws ++ drop (at + length ws) l) at (length-take-le at l (omega arith)))
      ∙ take_at ws (drop (at + length ws) l) (length ws) refl

  -- and one before or behind them what was there
  pub shown_before : (b n : ℕ) → b + n ≤ at → take n (drop b (written l at ws)) ≡ take n (drop b l)
  shown_before b n h =
      let front : length (take at l) ≡ at = length-take-le at l (omega arith) in
      let inside : b + n ≤ length (take at l) = omega arith in
      within_front (take at l) (ws ++ drop (at + length ws) l) b n inside
      ∙ sym (within_front (take at l) (drop at l) b n inside)
      ∙ ap (λ x. take n (drop b x)) (take-append-drop at l)

  pub shown_behind : (b n : ℕ) → at + length ws ≤ b → take n (drop b (written l at ws)) ≡ take n (drop b l)
  shown_behind b n h =
      let front = take at l ++ ws in
      let e : length front ≡ at + length ws = length-append (take at l) ws ∙ ap (λ k. k + length ws) (length-take-le at l (omega arith)) in
      let k = b - (at + length ws) in
      let there : length front + k ≡ b = omega arith in
      let back : at + length ws + k ≡ b = omega arith in
      ap (take n)
      (ap (drop b) (sym (append_assoc (take at l) ws (drop (at + length ws) l)))
      ∙ ap (λ j. drop j (front ++ drop (at + length ws) l)) (sym there)
      ∙ drop-append-add front (drop (at + length ws) l) k
      ∙ drop-drop k (at + length ws) l
      ∙ ap (λ j. drop j l) back)

  pub written_length : length (written l at ws) ≡ length l
  written_length =
      length-append (take at l) (ws ++ drop (at + length ws) l)
      ∙ omega (arith, length-take-le at l (omega arith), length-append ws (drop (at + length ws) l), length-drop (at + length ws) l)

-- The blocks after a plan was put into one of them.
module _ (l : List ℕ) (i : ℕ) (p : Plan) (inside : InColumns i l) (from : length p.from ≡ max_pairs) (to : length p.to ≡ max_pairs) where
  abbrev first : List ℕ
  first = written l (from_place i) p.from

  from_fits : from_place i + length p.from ≤ length l
  from_fits = omega (arith, pair_limit, inside.block, inside.sized)

  first_length : length first ≡ length l
  first_length = written_length l (from_place i) p.from from_fits

  to_fits : to_place i + length p.to ≤ length first
  to_fits = omega (arith, pair_limit, inside.block, inside.sized, first_length)

  pub put_length : length (put l i p) ≡ length l
  unfolding put
  put_length = written_length first (to_place i) p.to to_fits ∙ first_length

  pub put_from : take max_pairs (drop (from_place i) (put l i p)) ≡ p.from
  unfolding put
  put_from =
      shown_before first (to_place i) p.to to_fits (from_place i) max_pairs (omega (arith, pair_limit))
      ∙ ap (λ n. take n (drop (from_place i) first)) (sym from)
      ∙ shown_same l (from_place i) p.from from_fits

  pub put_to : take max_pairs (drop (to_place i) (put l i p)) ≡ p.to
  unfolding put
  put_to =
      ap (λ n. take n (drop (to_place i) (put l i p))) (sym to)
      ∙ shown_same first (to_place i) p.to to_fits

  -- another window that stands before or behind the block
  pub put_before : (b n : ℕ) → b + n ≤ from_place i → take n (drop b (put l i p)) ≡ take n (drop b l)
  unfolding put
  put_before b n h =
      shown_before first (to_place i) p.to to_fits b n (omega arith)
      ∙ shown_before l (from_place i) p.from from_fits b n h

  pub put_behind : (b n : ℕ) → to_place i + max_pairs ≤ b → take n (drop b (put l i p)) ≡ take n (drop b l)
  unfolding put
  put_behind b n h =
      shown_behind first (to_place i) p.to to_fits b n (omega arith)
      ∙ shown_behind l (from_place i) p.from from_fits b n (omega (arith, pair_limit))
