-- What is read of the fields that stand behind a field, by the reader of the first of them: a field of one byte, one up to the next tab, or
-- the last.
use Prim.Native.Nat.{ℕ, suc, ◌+◌, ◌≤◌}
use mathlib.Core.Path.{◌≡◌, refl, sym, ◌∙◌, ap}
use mathlib.Core.Logic.{◌⊎◌, inl, inr, ◌≢◌}
use mathlib.Core.Bool.{Bool, true, false}
use mathlib.Core.List.{List, [], ◌∷◌}
use mathlib.Core.Option.{Option, none, some}
use native.Mathlib.Omega.{arith}
use lib.Dec.{eqb}
use borrow.Author.Tests.{eq-eqb, ne_eqb}
use native.Mathlib.Numerals.{add-one}
use lib.ListN.{length, get_or, take, drop}
use Rattle.std.specs.Prelude.{None, Some, option_map, option_and_then}
use Rattle.std.specs.Prelude as code
use Rattle.higman.specs.Text.{Bytes, tab, is_numeral}
use Rattle.higman.specs.Bases.{all}
use Rattle.higman.proofs.Tests.{passes, clash, T_of}
use Rattle.desk.specs.Records.{Record, Right, Form, slot_field, number_field, right_field, right_numbered, in_front, fields, field, no_more}
use Rattle.desk.specs.Records.{no_tab}
use Rattle.desk.proofs.Fields.{fields_of_last}
use Rattle.records.specs.declared.Record.{Record as Placed}
use Rattle.records.specs.Reading.{placed}
use Rattle.records.specs.Fields.{given, single, singles, first_field, first, last, digit, behind, placed_if}
use Rattle.records.proofs.fields.Numbers.{number_too_long, number_other_byte, number_spelled}

-- a byte in front of what stands behind it: a field of this byte alone, or a longer one
module _ (g : List Bytes → Option Record) (b : ℕ) (no : eqb b tab ≡ false)
    (longer : (c : ℕ) (f : Bytes) (fs : List Bytes) → g ((b ∷ c ∷ f) ∷ fs) ≡ none) where
  pub reads_in_front : (l : Bytes) → g (fields (b ∷ l)) ≡ behind (λ fs. g ((b ∷ []) ∷ fs)) l
  reads_in_front [] = rw (no, fields)
  reads_in_front (c ∷ l) = by_byte (passes (eqb c tab))
    where
      two_bytes : (fs : List Bytes) → g (in_front b (in_front c fs)) ≡ none
      two_bytes [] = longer c [] []
      two_bytes (f ∷ fs) = longer c f fs

      by_byte : (eqb c tab ≡ true) ⊎ (eqb c tab ≡ false) → g (fields (b ∷ c ∷ l)) ≡ behind (λ fs. g ((b ∷ []) ∷ fs)) (c ∷ l)
      by_byte (inl e) = rw (no, e, fields, behind)
      by_byte (inr e) = rw (no, e, fields, behind) (two_bytes (fields l))

-- nothing is read, whatever stands behind
nothing_behind : (l : Bytes) → behind (λ fs. none) l ≡ none
nothing_behind [] = refl
nothing_behind (t ∷ l) = by_test (eqb t tab)
  where
    by_test : (b : Bool) → ◌≡◌ {A = Option Record} (elim b [ true ↦ none | false ↦ none ]) none
    by_test true = refl
    by_test false = refl

-- A form that reads fields of one byte alone, by the byte.
pub record SingleForm {A : Type 0} (form : Form A) (value : ℕ → code.Option A) : Type 0 where
  pub empty : form [] ≡ none
  pub one : (b : ℕ) → given (form (b ∷ [])) ≡ value b
  pub longer : (b c : ℕ) (f : Bytes) → form (b ∷ c ∷ f) ≡ none

pub slot_single : SingleForm slot_field Some
slot_single = record { empty = refl; one = λ b. refl; longer = λ b c f. refl }

pub digit_single : SingleForm (number_field 1) digit
digit_single = record {
  empty = refl;
  one = λ b. by_byte b (passes (is_numeral b));
  longer =
      λ b c f. number_too_long 1 (b ∷ c ∷ f) (omega arith);
}
  where
    by_byte : (b : ℕ) → (is_numeral b ≡ true) ⊎ (is_numeral b ≡ false) → given (number_field 1 (b ∷ [])) ≡ digit b
    by_byte b (inl e) = ap given (number_spelled 1 (b ∷ []) (omega arith) refl (rw (e, all))) ∙ rw (e, digit) (ap Some (omega arith))
    by_byte b (inr e) = ap given (number_other_byte 1 (b ∷ []) (rw (e, all))) ∙ rw (e, digit)

-- a right by its digit
abbrev pub right_read : ℕ → code.Option Right
right_read n = given (right_numbered n)

right_of : Option ℕ → Option Right
right_of o = elim o [ none ↦ none | some n ↦ right_numbered n ]

pub right_single : SingleForm right_field (λ b. option_and_then right_read (digit b))
unfolding right_of
right_single =
    record {
      empty = refl;
      one = λ b. by_value b (number_field 1 (b ∷ [])) refl ∙ ap (option_and_then right_read) (digit_single.one b);
      longer = λ b c f. ap right_of (number_too_long 1 (b ∷ c ∷ f) (omega arith));
    }
  where
    by_value : (b : ℕ) (o : Option ℕ) → number_field 1 (b ∷ []) ≡ o → given (right_of (number_field 1 (b ∷ [])))
        ≡ option_and_then right_read (given (number_field 1 (b ∷ [])))
    by_value b none e = rw e
    by_value b (some n) e = rw e

-- the first field is what stands in front of its end
first_is_front : (l : Bytes) → take (length (first_field l)) l ≡ first_field l
first_is_front [] = refl
first_is_front (b ∷ l) = by_byte (passes (eqb b tab)) (first_is_front l)
  where
    by_byte : (eqb b tab ≡ true) ⊎ (eqb b tab ≡ false) → take (length (first_field l)) l ≡ first_field l
        → take (length (first_field (b ∷ l))) (b ∷ l) ≡ first_field (b ∷ l)
    by_byte (inl e) rest = rw (e, first_field)
    by_byte (inr e) rest = rw (e, first_field, rest)

pub first_at_tab : (b : ℕ) (l : Bytes) → b ≡ tab → length (first_field (b ∷ l)) ≡ 0
first_at_tab b l e = rw (eq-eqb b tab e, first_field)

pub first_goes_on : (b : ℕ) (l : Bytes) → b ≢ tab → length (first_field (b ∷ l)) ≡ length (first_field l) + 1
first_goes_on b l e = rw (ne_eqb b tab e, first_field) (sym (add-one (length (first_field l))))

pub first_split : (l rest : Bytes) (end : ℕ) → 1 ≤ length l → get_or l 0 0 ≡ tab → rest ≡ drop 1 l → end ≡ length (first_field rest)
    → first l ≡ Some (take end rest, drop end rest)
first_split [] rest end h t r e = absurd (omega arith)
first_split (b ∷ l) rest end h t r e =
    rw (eq-eqb b tab t, first)
    (sym (ap (λ k. Some (take k rest, drop k rest)) e ∙ ap (λ f. Some (f, drop (length (first_field rest)) rest)) (first_is_front rest)
    ∙ ap (λ m. Some (first_field m, drop (length (first_field m)) m)) r))

-- bytes have a field at least, and two where a tab stands among them
pub fields_some : (Q : List Bytes → Type 0) → ((f : Bytes) (fs : List Bytes) → Q (f ∷ fs)) → (l : Bytes) → Q (fields l)
fields_some Q h [] = h [] []
fields_some Q h (b ∷ l) = by_byte (eqb b tab) (fields l)
  where
    by_byte : (t : Bool) (fs : List Bytes) → Q (elim t [ true ↦ [] ∷ fs | false ↦ in_front b fs ])
    by_byte true fs = h [] fs
    by_byte false [] = h (b ∷ []) []
    by_byte false (f ∷ fs) = h (b ∷ f) fs

fields_two : (Q : List Bytes → Type 0) → ((f g : Bytes) (gs : List Bytes) → Q (f ∷ g ∷ gs)) → (l : Bytes) → no_tab l ≡ false → Q (fields l)
fields_two Q h [] t = absurd (clash refl t)
fields_two Q h (b ∷ l) t = by_byte (passes (eqb b tab)) (fields_two (λ fs. Q (in_front b fs)) (λ f g gs. h (b ∷ f) g gs) l)
  where
    by_byte : (eqb b tab ≡ true) ⊎ (eqb b tab ≡ false) → (no_tab l ≡ false → Q (in_front b (fields l))) → Q (fields (b ∷ l))
    by_byte (inl e) rest = rw (e, fields) (fields_some (λ fs. Q ([] ∷ fs)) (h []) l)
    by_byte (inr e) rest = rw (e, fields) (rest (rw (e, all) at t))

-- the first of some fields is up to the first tab, and the others are behind it
fields_first : (g : List Bytes → Option Record) (l : Bytes)
    → g (fields l) ≡ behind (λ fs. g (first_field l ∷ fs)) (drop (length (first_field l)) l)
fields_first g [] = refl
fields_first g (b ∷ l) = by_byte (passes (eqb b tab)) (fields_first (λ fs. g (in_front b fs)) l)
  where
    by_byte : (eqb b tab ≡ true) ⊎ (eqb b tab ≡ false)
        → g (in_front b (fields l)) ≡ behind (λ fs. g (in_front b (first_field l ∷ fs))) (drop (length (first_field l)) l)
        → g (fields (b ∷ l)) ≡ behind (λ fs. g (first_field (b ∷ l) ∷ fs)) (drop (length (first_field (b ∷ l))) (b ∷ l))
    by_byte (inl e) rest = rw (e, fields, first_field, behind, e, first_field, e)
    by_byte (inr e) rest = rw (e, fields, first_field) rest

-- What stands behind a field is read a field at a time: first what its reader finds, then its form's value, then what stands behind it.
module _ {A : Type 0} (form : Form A) (next : A → List Bytes → Option Record) where
  valued : Option A → Bytes → Option Record
  valued none l = none
  valued (some a) l = behind (next a) l

  value_behind : (o : Option A) (l : Bytes) → behind (λ fs. elim o [ none ↦ none | some a ↦ next a fs ]) l ≡ valued o l
  unfolding valued
  value_behind none l = nothing_behind l
  value_behind (some a) l = refl

  module _ {made : A → Bytes → code.Option Placed} (h : (a : A) (l : Bytes) → placed_if (behind (next a) l) ≡ made a l) where
    value_placed : (o : Option A) (l : Bytes) → placed_if (valued o l) ≡ option_and_then (λ a. made a l) (given o)
    unfolding valued
    value_placed none l = refl
    value_placed (some a) l = h a l

    pub then_single : {value : ℕ → code.Option A} → SingleForm form value → (l : Bytes)
        → placed_if (behind (field form next) l) ≡ option_and_then (λ p. option_and_then (λ a. made a p.1) (value p.0)) (single l)
    then_single s [] = refl
    then_single s (t ∷ []) = by_tab (passes (eqb t tab))
      where
        by_tab : (eqb t tab ≡ true) ⊎ (eqb t tab ≡ false) → placed_if (behind (field form next) (t ∷ [])) ≡ None
        by_tab (inl e) = rw (e, behind, field, s.empty)
        by_tab (inr e) = rw (e, behind)
    then_single {value} s (t ∷ b ∷ l) = by_bytes (passes (eqb t tab)) (passes (eqb b tab))
      where
        by_bytes : (eqb t tab ≡ true) ⊎ (eqb t tab ≡ false) → (eqb b tab ≡ true) ⊎ (eqb b tab ≡ false)
            → placed_if (behind (field form next) (t ∷ b ∷ l))
            ≡ option_and_then (λ p. option_and_then (λ a. made a p.1) (value p.0)) (single (t ∷ b ∷ l))
        by_bytes (inr e) w = rw (e, behind, single)
        by_bytes (inl e) (inl d) = rw (e, d, behind, single, fields, field, s.empty)
        by_bytes (inl e) (inr d) =
            rw (e, d, behind, single)
            (ap placed_if (reads_in_front (field form next) b d (λ c f fs. rw (field, s.longer b c f)) l ∙ value_behind (form (b ∷ [])) l)
            ∙ value_placed (form (b ∷ [])) l ∙ ap (option_and_then (λ a. made a l)) (s.one b))

    pub then_first : (l : Bytes)
        → placed_if (behind (field form next) l) ≡ option_and_then (λ p. option_and_then (λ a. made a p.1) (given (form p.0))) (first l)
    then_first [] = refl
    then_first (t ∷ l) = by_tab (passes (eqb t tab))
      where
        by_tab : (eqb t tab ≡ true) ⊎ (eqb t tab ≡ false)
            → placed_if (behind (field form next) (t ∷ l))
            ≡ option_and_then (λ p. option_and_then (λ a. made a p.1) (given (form p.0))) (first (t ∷ l))
        by_tab (inr e) = rw (e, behind, first)
        by_tab (inl e) =
            let rest = drop (length (first_field l)) l in
            rw (e, behind, first)
            (ap placed_if (fields_first (field form next) l ∙ value_behind (form (first_field l)) rest)
            ∙ value_placed (form (first_field l)) rest)

-- the last field is all that is left behind its tab
module _ {A : Type 0} (form : Form A) (make : A → Record) where
  abbrev end : A → List Bytes → Option Record
  end a = no_more (make a)

  pub then_last : (l : Bytes) → placed_if (behind (field form end) l)
      ≡ option_and_then (λ f. option_map (λ a. placed (make a)) (given (form f))) (last l)
  then_last [] = refl
  then_last (t ∷ l) = by_tab (passes (eqb t tab)) (passes (no_tab l))
    where
      two_left : (o : Option A) (f : Bytes) (fs : List Bytes) → ◌≡◌ {A =
          Option Record} (elim o [ none ↦ none | some a ↦ no_more (make a) (f ∷ fs) ]) none
      two_left none f fs = refl
      two_left (some a) f fs = refl

      one_left : (o : Option A) → placed_if (elim o [ none ↦ none | some a ↦ no_more (make a) [] ])
          ≡ option_map (λ a. placed (make a)) (given o)
      one_left none = refl
      one_left (some a) = refl

      by_tab : (eqb t tab ≡ true) ⊎ (eqb t tab ≡ false) → (no_tab l ≡ true) ⊎ (no_tab l ≡ false)
          → placed_if (behind (field form end) (t ∷ l))
          ≡ option_and_then (λ f. option_map (λ a. placed (make a)) (given (form f))) (last (t ∷ l))
      by_tab (inr e) w = rw (e, behind, last)
      by_tab (inl e) (inl d) = rw (e, d, behind, last, fields_of_last l (T_of d)) (one_left (form l))
      by_tab (inl e) (inr d) = rw (e, d, behind, last)
          (ap placed_if (fields_two (λ fs. field form end fs ≡ none) (λ f g gs. two_left (form f) g gs) l d))

-- nothing stands behind the last field
pub none_left : (r : Record) (t : ℕ) (l : Bytes) → behind (no_more r) (t ∷ l) ≡ none
none_left r t l = by_tab (eqb t tab)
  where
    by_tab : (b : Bool) → ◌≡◌ {A = Option Record} (elim b [ true ↦ no_more r (fields l) | false ↦ none ]) none
    by_tab true = fields_some (λ fs. no_more r fs ≡ none) (λ f fs. refl) l
    by_tab false = refl

-- So many fields of one byte each, and none behind them.
pub then_none : (r : Record) (l : Bytes) → placed_if (behind (no_more r) l) ≡ option_and_then (λ bs. Some (placed r)) (singles 0 l)
then_none r [] = refl
then_none r (t ∷ l) = ap placed_if (none_left r t l)

module _ {A : Type 0} {form : Form A} {value : ℕ → code.Option A} (s : SingleForm form value) (k : ℕ)
    (next : A → List Bytes → Option Record) (made : A → Bytes → code.Option Placed)
    (h : (a : A) (l : Bytes) → placed_if (behind (next a) l) ≡ option_and_then (made a) (singles k l)) where
  pub then_singles : (l : Bytes) → placed_if (behind (field form next) l)
      ≡ option_and_then (λ bs. option_and_then (λ a. made a (drop 1 bs)) (value (get_or bs 0 0))) (singles (suc k) l)
  then_singles l = then_single form next h s l ∙ by_single (single l)
    where
      by_value : (b : ℕ) (v : code.Option A) (q : code.Option Bytes) → value b ≡ v
          → option_and_then (λ a. option_and_then (made a) q) v
          ≡ option_and_then (λ bs. option_and_then (λ a. made a (drop 1 bs)) (value (get_or bs 0 0))) (option_map (λ bs. b ∷ bs) q)
      by_value b None None e = refl
      by_value b None (Some bs) e = rw e
      by_value b (Some a) None e = refl
      by_value b (Some a) (Some bs) e = rw e

      by_single : (o : code.Option (ℕ × Bytes))
          → option_and_then (λ p. option_and_then (λ a. option_and_then (made a) (singles k p.1)) (value p.0)) o
          ≡ option_and_then (λ bs. option_and_then (λ a. made a (drop 1 bs)) (value (get_or bs 0 0)))
          (elim o [ None ↦ None | Some p ↦ option_map (λ bs. p.0 ∷ bs) (singles k p.1) ])
      by_single None = refl
      by_single (Some p) = by_value p.0 (value p.0) (singles k p.1) refl
