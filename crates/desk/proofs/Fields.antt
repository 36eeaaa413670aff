-- A line is its fields with tabs between them, and fields without a tab are the fields of the line that they make: `fields` and
-- `parted` of specs/Records.antt undo one another.
use Prim.Native.Nat.{ℕ}
use native.Mathlib.Omega.{arith}
use mathlib.Core.Path.{◌≡◌, refl, sym, ◌∙◌, ap, ap₂}
use mathlib.Core.Logic.{◌⊎◌, inl, inr}
use mathlib.Core.Bool.{Bool, true, false, not}
use mathlib.Core.List.{List, [], ◌∷◌, ◌++◌}
use lib.Dec.{T, eqb}
use borrow.Author.Tests.{eqb-true, ne_eqb, not-true}
use Rattle.higman.specs.Words.{Word}
use Rattle.higman.specs.Bases.{all}
use Rattle.higman.specs.Text.{Bytes, tab, digit_byte, word_bytes}
use Rattle.higman.proofs.Tests.{passes, so, T_of, all_head, all_tail, all_cons}
use Rattle.desk.specs.Records.{in_front, fields, parted, no_tab}

-- bytes without a tab, by the first of them
not_tab : (b : ℕ) (f : Bytes) → T (no_tab (b ∷ f)) → eqb b tab ≡ false
not_tab b f h = not-true (eqb b tab) (so (not (eqb b tab)) (all_head (λ c. not (eqb c tab)) b f h))

no_tab_behind : (b : ℕ) (f : Bytes) → T (no_tab (b ∷ f)) → T (no_tab f)
no_tab_behind b f h = all_tail (λ c. not (eqb c tab)) b f h

pub no_tab_cons : (b : ℕ) (f : Bytes) → eqb b tab ≡ false → T (no_tab f) → T (no_tab (b ∷ f))
no_tab_cons b f e h = all_cons (λ c. not (eqb c tab)) b f (T_of (ap not e)) h

pub word_no_tab : (w : Word) → T (no_tab (word_bytes w))
word_no_tab [] = tt
word_no_tab (d ∷ w) = no_tab_cons (digit_byte d) (word_bytes w) (ne_eqb (digit_byte d) tab (λ e. omega arith)) (word_no_tab w)

pub fields_of_last : (f : Bytes) → T (no_tab f) → fields f ≡ f ∷ []
fields_of_last [] h = refl
fields_of_last (b ∷ f) h = rw (not_tab b f h, fields, fields_of_last f (no_tab_behind b f h))

pub fields_of_first : (f rest : Bytes) → T (no_tab f) → fields (f ++ tab ∷ rest) ≡ f ∷ fields rest
fields_of_first [] rest h = refl
fields_of_first (b ∷ f) rest h = rw (not_tab b f h, fields, fields_of_first f rest (no_tab_behind b f h))

pub fields_of_parted : (f : Bytes) (fs : List Bytes) → T (all no_tab (f ∷ fs)) → fields (parted (f ∷ fs)) ≡ f ∷ fs
fields_of_parted f [] h = fields_of_last f (all_head no_tab f [] h)
fields_of_parted f (g ∷ fs) h =
    fields_of_first f (parted (g ∷ fs)) (all_head no_tab f (g ∷ fs) h)
    ∙ ap (λ rest. f ∷ rest) (fields_of_parted g fs (all_tail no_tab f (g ∷ fs) h))

parted_in_front : (b : ℕ) (fs : List Bytes) → parted (in_front b fs) ≡ b ∷ parted fs
parted_in_front b [] = refl
parted_in_front b (f ∷ []) = refl
parted_in_front b (f ∷ g ∷ fs) = refl

-- a line has a field, so a tab in front of it is an empty field more
parted_tab : (l : Bytes) → parted ([] ∷ fields l) ≡ tab ∷ parted (fields l)
parted_tab [] = refl
parted_tab (b ∷ l) = by_byte (eqb b tab) (fields l)
  where
    read : Bool → List Bytes → List Bytes
    read t fs = elim t [ true ↦ [] ∷ fs | false ↦ in_front b fs ]

    by_byte : (t : Bool) (fs : List Bytes) → parted ([] ∷ read t fs) ≡ tab ∷ parted (read t fs)
    by_byte true fs = refl
    by_byte false [] = refl
    by_byte false (f ∷ fs) = refl

pub parted_of_fields : (l : Bytes) → parted (fields l) ≡ l
parted_of_fields [] = refl
parted_of_fields (b ∷ l) = by_byte (passes (eqb b tab)) (parted_of_fields l)
  where
    by_byte : (eqb b tab ≡ true) ⊎ (eqb b tab ≡ false) → parted (fields l) ≡ l → parted (fields (b ∷ l)) ≡ b ∷ l
    by_byte (inl e) rest = rw (e, fields) (parted_tab l ∙ ap₂ ◌∷◌ (sym (eqb-true b tab e)) rest)
    by_byte (inr e) rest = rw (e, fields) (parted_in_front b (fields l) ∙ ap (λ x. b ∷ x) rest)

no_tab_in_front : (b : ℕ) (fs : List Bytes) → eqb b tab ≡ false → T (all no_tab fs) → T (all no_tab (in_front b fs))
no_tab_in_front b [] e h = all_cons no_tab (b ∷ []) [] (no_tab_cons b [] e tt) tt
no_tab_in_front b (f ∷ fs) e h = all_cons no_tab (b ∷ f) fs (no_tab_cons b f e (all_head no_tab f fs h)) (all_tail no_tab f fs h)

pub fields_no_tab : (l : Bytes) → T (all no_tab (fields l))
fields_no_tab [] = tt
fields_no_tab (b ∷ l) = by_byte (passes (eqb b tab)) (fields_no_tab l)
  where
    by_byte : (eqb b tab ≡ true) ⊎ (eqb b tab ≡ false) → T (all no_tab (fields l)) → T (all no_tab (fields (b ∷ l)))
    by_byte (inl e) rest = rw (e, fields) rest
    by_byte (inr e) rest = rw (e, fields) (no_tab_in_front b (fields l) e rest)
