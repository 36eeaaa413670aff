-- The loop over fields of one byte each: so many are read, and the others are read of what is left.
use Prim.Native.Nat.{ℕ, suc, ◌+◌, ◌-◌, ◌≤◌, ◌<◌}
use mathlib.Core.Path.{◌≡◌, refl, sym, ◌∙◌, ap}
use mathlib.Core.List.{[], ◌∷◌, ◌++◌, append-nil, append_assoc}
use native.Mathlib.Omega.{arith}
use lib.ListN.{length, take, set, replicate, length-set, length-replicate}
use lib.Seq.{take_all}
use Rattle.std.proofs.lemmas.List.{take_more_set}
use Rattle.std.specs.Prelude.{Option, None, Some, option_map}
use Rattle.higman.specs.Text.{Bytes}
use Rattle.records.specs.Fields.{single, singles}

pub record SinglesSoFar (n : ℕ) (fields : Bytes) (i : ℕ) (items rest : Bytes) : Type 0 where
  pub size : length items ≡ n
  pub left : singles n fields ≡ option_map (λ bs. take i items ++ bs) (singles (n - i) rest)

pub so_far_begins : (n : ℕ) (fields : Bytes) → SinglesSoFar n fields 0 (replicate n 0) fields
so_far_begins n fields =
    let all_left : n - 0 ≡ n = omega arith in
    record { size = length-replicate n 0; left = rw all_left (by_rest (singles n fields)) }
  where
    by_rest : (o : Option Bytes) → o ≡ option_map (λ bs. bs) o
    by_rest None = refl
    by_rest (Some bs) = refl

module _ {n : ℕ} {fields : Bytes} {i : ℕ} {items rest : Bytes} (s : SinglesSoFar n fields i items rest) where
  module _ (h : i < n) where
    one_more : n - i ≡ suc (n - (i + 1))
    one_more = omega arith

    pub so_far_stops : single rest ≡ None → singles n fields ≡ None
    so_far_stops e = s.left ∙ rw (one_more, singles, e)

    pub so_far_goes_on : (b : ℕ) (l : Bytes) → single rest ≡ Some (b, l) → SinglesSoFar n fields (i + 1) (set items i b) l
    so_far_goes_on b l e = record {
      size = length-set items i b ∙ s.size;
      left =
          s.left ∙ rw (one_more, singles, e) (by_rest (singles (n - (i + 1)) l));
    }
      where
        by_rest : (o : Option Bytes)
            → option_map (λ bs. take i items ++ bs) (option_map (λ bs. b ∷ bs) o) ≡ option_map (λ bs. take (i + 1) (set items i b) ++ bs) o
        by_rest None = refl
        by_rest (Some bs) = ap Some
            (sym (ap (λ t. t ++ bs) (take_more_set items i b (omega (arith, s.size))) ∙ append_assoc (take i items) (b ∷ []) bs))

  module _ (h : n ≤ i) where
    none_more : n - i ≡ 0
    none_more = omega arith

    pub so_far_ends : length rest ≡ 0 → Some items ≡ singles n fields
    so_far_ends e = sym (s.left ∙ rw (none_more) (by_rest rest e))
      where
        by_rest : (l : Bytes) → length l ≡ 0 → option_map (λ bs. take i items ++ bs) (singles 0 l) ≡ Some items
        by_rest [] d = ap Some (append-nil (take i items) ∙ take_all i items (omega (arith, s.size)))
        by_rest (b ∷ l) d = absurd (omega arith)

    pub so_far_left : 0 < length rest → singles n fields ≡ None
    so_far_left e = s.left ∙ rw (none_more) (by_rest rest e)
      where
        by_rest : (l : Bytes) → 0 < length l → option_map (λ bs. take i items ++ bs) (singles 0 l) ≡ None
        by_rest [] d = absurd (omega arith)
        by_rest (b ∷ l) d = refl
