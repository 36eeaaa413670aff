-- What is read is what is written: the terms of specs/Grammar.antt. From a line to a record: what a rule of the grammar makes of
-- fields is a record with just these fields. From a record to its line: by computation, with the laws of the number forms.
use Prim.Native.Nat.{ℕ, zero, suc}
use native.Mathlib.Omega.{arith}
use mathlib.Core.Path.{◌≡◌, refl, sym, ◌∙◌, ap, ap₂, subst}
use mathlib.Core.Logic.{◌⊎◌, inl, inr, ◌↔◌}
use mathlib.Core.Bool.{Bool, true, false, ◌&&◌}
use mathlib.Core.List.{List, [], ◌∷◌, ◌++◌, map, map-map}
use mathlib.Core.Option.{Option, none, some, none-ne-some, some-injective}
use lib.Dec.{T, eqb}
use lib.IntN.{nat_abs}
use lib.ListN.{length, length-map}
use borrow.Author.Tests.{eqb-true, ne_eqb}
use Rattle.higman.specs.Words.{spelled}
use Rattle.higman.specs.Bases.{all}
use Rattle.higman.specs.Text.{Bytes, bytes, tab, word_bytes, decimal}
use Rattle.higman.specs.Listing.{slot_byte, join_lines}
use Rattle.higman.specs.Places.{Placed}
use Rattle.higman.proofs.Tests.{passes, and_left, and_right, and_intro, all_cons}
use Rattle.desk.specs.Limits.{max_numeral, max_splits_numeral, max_seed_numeral}
use Rattle.desk.specs.Records.{Record, P, M, E, F, I, K, S, W, L, C, T as Tᴿ, U, X, Z, G, H, Form, slot_field, any_field}
use Rattle.desk.specs.Records.{number_field, Right, no_right, may_read, may_write, right_number, right_numbered, right_field}
use Rattle.desk.specs.Records.{field, no_more, Rule}
use Rattle.desk.specs.Records.{grammar, read_by, read_fields, parse, fields, parted, record_fields, record_text, no_tab, has_digits}
use Rattle.desk.specs.Records.{numbers_fit, well_formed}
use Rattle.desk.specs.Grammar.{GrammarExact, right_digit, RecordForms, NumbersFit, WellFormedExact, LineOf, RepliesWritten, TextExact}
use Rattle.desk.specs.Replies.{ok_number, Held, ok_block, surveys}
use Rattle.desk.specs.Bytes.{line_of, ok_line, counted, part_fields, held_fields, reply_bytes}
use Rattle.desk.proofs.Fields.{no_tab_cons, word_no_tab, fields_of_parted, parted_of_fields, fields_no_tab}
use Rattle.higman.proofs.Decimals.{decimals_exact}
use Rattle.higman.proofs.Listing.{slots_exact}
use Rattle.desk.proofs.NumberFields.{Written, ExactForm, number_exact, signed_exact, digits_below}

-- the two forms that are not numbers
slot_exact : ExactForm slot_field (λ b. b ∷ []) (λ b. true)
slot_exact = record { reads = λ b h. refl; only = only }
  where
    only : (f : Bytes) (b : ℕ) → slot_field f ≡ some b → Written (λ c. c ∷ []) (λ c. true) f b
    only [] b e = absurd (none-ne-some b e)
    only (c ∷ []) b e = record { own_text = ap (λ x. x ∷ []) (some-injective c b e); fit = tt }
    only (c ∷ d ∷ f) b e = absurd (none-ne-some b e)

right_exact : ExactForm right_field (λ x. decimal (right_number x)) (λ x. true)
unfolding right_number
right_exact = record { reads = reads; only = λ f x e. by_number f x (number_field 1 f) refl e }
  where
    reads : (x : Right) → T true → right_field (decimal (right_number x)) ≡ some x
    reads no_right h = refl
    reads may_read h = refl
    reads may_write h = refl

    typed : (f : Bytes) (n : ℕ) (x y : Right) → number_field 1 f ≡ some n → n ≡ right_number y → some y ≡ some x
        → Written (λ x. decimal (right_number x)) (λ x. true) f x
    typed f n x y e k p =
        let own = ((number_exact 1).only f n e).own_text ∙ ap decimal (k ∙ ap right_number (some-injective y x p)) in
        record { own_text = own; fit = tt }

    by_number : (f : Bytes) (x : Right) (o : Option ℕ) → number_field 1 f ≡ o
        → ◌≡◌ {A = Option Right} (elim o [ none ↦ none | some n ↦ right_numbered n ]) (some x)
        → Written (λ x. decimal (right_number x)) (λ x. true) f x
    by_number f x none e p = absurd (none-ne-some x p)
    by_number f x (some zero) e p = typed f 0 x no_right e refl p
    by_number f x (some (suc zero)) e p = typed f 1 x may_read e refl p
    by_number f x (some (suc (suc zero))) e p = typed f 2 x may_write e refl p
    by_number f x (some (suc (suc (suc n)))) e p = absurd (none-ne-some x p)

any_exact : ExactForm any_field (λ f. f) (λ f. true)
any_exact = record { reads = λ f h. refl; only = λ f g e. record { own_text = some-injective f g e; fit = tt } }

-- the four numbers of X
record ExerciseFits (n r s seed : ℕ) : Type 0 where
  ways : T (has_digits 1 n)
  belts : T (has_digits 1 r)
  splits : T (has_digits max_splits_numeral s)
  seeds : T (has_digits max_seed_numeral seed)

fits_of_test : (a n r s seed : ℕ) → T (numbers_fit (X a n r s seed)) → ExerciseFits n r s seed
fits_of_test a n r s seed h =
    let shape = has_digits 1 n && has_digits 1 r in
    let front = and_left (shape && has_digits max_splits_numeral s) (has_digits max_seed_numeral seed) h in
    let both = and_left shape (has_digits max_splits_numeral s) front in
    record {
      ways = and_left (has_digits 1 n) (has_digits 1 r) both;
      belts = and_right (has_digits 1 n) (has_digits 1 r) both;
      splits = and_right shape (has_digits max_splits_numeral s) front;
      seeds = and_right (shape && has_digits max_splits_numeral s) (has_digits max_seed_numeral seed) h;
    }

test_of_fits : (a n r s seed : ℕ) → ExerciseFits n r s seed → T (numbers_fit (X a n r s seed))
test_of_fits a n r s seed f =
    let shape = has_digits 1 n && has_digits 1 r in
    let both = and_intro (has_digits 1 n) (has_digits 1 r) f.ways f.belts in
    let front = and_intro shape (has_digits max_splits_numeral s) both f.splits in
    and_intro (shape && has_digits max_splits_numeral s) (has_digits max_seed_numeral seed) front f.seeds

-- what a record has to do with the fields that it was read from
record Typed (fs : List Bytes) (r : Record) : Type 0 where
  own_fields : record_fields r ≡ fs
  numbers_fit : T (numbers_fit r)

-- A reader reads only what is typed: `front` puts back the fields that were read before it.
abbrev Reader : Type 0
Reader = List Bytes → Option Record

record Only (front : List Bytes → List Bytes) (reader : Reader) : Type 0 where
  typed : (fs : List Bytes) (r : Record) → reader fs ≡ some r → Typed (front fs) r

only_no_more : {front : List Bytes → List Bytes} (r : Record) → record_fields r ≡ front [] → T (numbers_fit r) → Only front (no_more r)
only_no_more {front} r own fit = record { typed = none_left }
  where
    none_left : (fs : List Bytes) (q : Record) → no_more r fs ≡ some q → Typed (front fs) q
    none_left [] q e = subst (Typed (front [])) (some-injective r q e) (record { own_fields = own; numbers_fit = fit })
    none_left (f ∷ fs) q e = absurd (none-ne-some q e)

module _ {A : Type 0} {form : Form A} {written : A → Bytes} {fits : A → Bool} (exact : ExactForm form written fits) where
  only_field : {front : List Bytes → List Bytes} {next : A → Reader}
      → ((a : A) → T (fits a) → Only (λ fs. front (written a ∷ fs)) (next a)) → Only front (field form next)
  only_field {front} {next} rest = record { typed = one_more }
    where
      by_value : (f : Bytes) (fs : List Bytes) (r : Record) (o : Option A)
          → form f ≡ o → elim o [ none ↦ none | some a ↦ next a fs ] ≡ some r → Typed (front (f ∷ fs)) r
      by_value f fs r none p e = absurd (none-ne-some r e)
      by_value f fs r (some a) p e =
          let value = exact.only f a p in
          subst (λ g. Typed (front (g ∷ fs)) r) (sym value.own_text) ((rest a value.fit).typed fs r e)

      one_more : (fs : List Bytes) (r : Record) → field form next fs ≡ some r → Typed (front fs) r
      one_more [] r e = absurd (none-ne-some r e)
      one_more (f ∷ fs) r e = by_value f fs r (form f) refl e

only_slot : {front : List Bytes → List Bytes} {next : ℕ → Reader}
    → ((b : ℕ) → Only (λ fs. front ((b ∷ []) ∷ fs)) (next b)) → Only front (field slot_field next)
only_slot rest = only_field slot_exact (λ b h. rest b)

only_any : {front : List Bytes → List Bytes} {next : Bytes → Reader}
    → ((f : Bytes) → Only (λ fs. front (f ∷ fs)) (next f)) → Only front (field any_field next)
only_any rest = only_field any_exact (λ f h. rest f)

only_digit : {front : List Bytes → List Bytes} {next : ℕ → Reader}
    → ((n : ℕ) → T (has_digits 1 n) → Only (λ fs. front (decimal n ∷ fs)) (next n)) → Only front (field (number_field 1) next)
only_digit rest = only_field (number_exact 1) rest

-- each rule of a list, behind its letter
infixr 20 ◌and◌
data OnlyRules : List Rule → Type 0 where
  no_rule : OnlyRules []
  ◌and◌ : {rule : Rule} {rules : List Rule}
      → Only (λ fs. (rule.letter ∷ []) ∷ fs) rule.reads → OnlyRules rules → OnlyRules (rule ∷ rules)

-- P, M, E, F, I, K, S, W, L, C, T, U, X, Z, G and H
grammar_only : OnlyRules grammar
unfolding grammar
grammar_only =
    (only_slot λ a. only_digit λ n h. only_digit λ r k. only_no_more _ refl (and_intro (has_digits 1 n) (has_digits 1 r) h k)) and
    (only_any λ from. only_any λ to. only_no_more _ refl tt) and
    only_no_more _ refl tt and
    (only_slot λ a. only_slot λ b. only_slot λ c. only_no_more _ refl tt) and
    (only_slot λ a. only_slot λ c. only_no_more _ refl tt) and
    (only_slot λ a. only_field (signed_exact max_numeral) λ k h. only_slot λ c. only_no_more _ refl h) and
    (only_slot λ a. only_slot λ b. only_no_more _ refl tt) and
    (only_slot λ a. only_any λ code. only_no_more _ refl tt) and
    (only_slot λ a. only_no_more _ refl tt) and
    (only_slot λ a. only_no_more _ refl tt) and
    only_no_more _ refl tt and
    only_no_more _ refl tt and
    (only_slot λ a. only_digit λ n h. only_digit λ r k.
    only_field (number_exact max_splits_numeral) λ s l. only_field (number_exact max_seed_numeral) λ seed m.
    only_no_more _ refl (test_of_fits a n r s seed (record { ways = h; belts = k; splits = l; seeds = m }))) and
    (only_digit λ s h. only_no_more _ refl h) and
    (only_digit λ s h. only_slot λ a. only_field right_exact λ x k. only_no_more _ refl h) and
    only_no_more _ refl tt and
    no_rule

read_by_only : {rules : List Rule} → OnlyRules rules → (b : ℕ) → Only (λ fs. (b ∷ []) ∷ fs) (read_by rules b)
read_by_only no_rule b = record { typed = λ fs r e. absurd (none-ne-some r e) }
read_by_only (◌and◌ {rule} {rules} first others) b =
    record { typed = λ fs r e. by_letter fs r (passes (eqb b rule.letter)) (read_by_only others b) e }
  where
    by_letter : (fs : List Bytes) (r : Record) → (eqb b rule.letter ≡ true) ⊎ (eqb b rule.letter ≡ false)
        → Only (λ fs. (b ∷ []) ∷ fs) (read_by rules b) → read_by (rule ∷ rules) b fs ≡ some r → Typed ((b ∷ []) ∷ fs) r
    by_letter fs r (inl t) rest e =
        subst (λ c. Typed ((c ∷ []) ∷ fs) r) (sym (eqb-true b rule.letter t)) (first.typed fs r (rw (t, read_by) at e))
    by_letter fs r (inr t) rest e = rest.typed fs r (rw (t, read_by) at e)

read_fields_only : Only (λ fs. fs) read_fields
read_fields_only = record { typed = by_letter }
  where
    by_letter : (fs : List Bytes) (r : Record) → read_fields fs ≡ some r → Typed fs r
    by_letter [] r e = absurd (none-ne-some r e)
    by_letter ([] ∷ fs) r e = absurd (none-ne-some r e)
    by_letter ((b ∷ []) ∷ fs) r e = (read_by_only grammar_only b).typed fs r e
    by_letter ((b ∷ c ∷ f) ∷ fs) r e = absurd (none-ne-some r e)

-- From a record to its fields, and back.
read_fields_record_fields : (r : Record) → T (numbers_fit r) → read_fields (record_fields r) ≡ some r
unfolding grammar
read_fields_record_fields (P a n r) h =
    let number = number_exact 1 in
    rw (
      number.reads n (and_left (has_digits 1 n) (has_digits 1 r) h),
      field,
      number.reads r (and_right (has_digits 1 n) (has_digits 1 r) h),
      field,
    )
read_fields_record_fields (M from to) h = refl
read_fields_record_fields E h = refl
read_fields_record_fields (F a b c) h = refl
read_fields_record_fields (I a c) h = refl
read_fields_record_fields (K a k c) h = rw ((signed_exact max_numeral).reads k h, field)
read_fields_record_fields (S a b) h = refl
read_fields_record_fields (W a code) h = refl
read_fields_record_fields (L a) h = refl
read_fields_record_fields (C a) h = refl
read_fields_record_fields Record.T h = refl
read_fields_record_fields U h = refl
read_fields_record_fields (X a n r s seed) h =
    let fits = fits_of_test a n r s seed h in
    rw (
      (number_exact 1).reads n fits.ways,
      field,
      (number_exact 1).reads r fits.belts,
      field,
      (number_exact max_splits_numeral).reads s fits.splits,
      field,
      (number_exact max_seed_numeral).reads seed fits.seeds,
      field,
    )
read_fields_record_fields (Z s) h = rw ((number_exact 1).reads s h, field)
read_fields_record_fields (G s a x) h = rw ((number_exact 1).reads s h, field, right_exact.reads x tt, field)
read_fields_record_fields H h = refl

-- fields without a tab that are read as a record are a line that is parsed as it
parse_parted : (fs : List Bytes) (r : Record) → T (all no_tab fs) → read_fields fs ≡ some r → parse (parted fs) ≡ some r
unfolding parse
parse_parted [] r h e = absurd (none-ne-some r e)
parse_parted (f ∷ fs) r h e = ap read_fields (fields_of_parted f fs h) ∙ e

pub parse_text : (r : Record) → T (well_formed r) → parse (record_text r) ≡ some r
unfolding record_text well_formed
parse_text r h =
    let plain = all no_tab (record_fields r) in
    parse_parted (record_fields r) r (and_left plain (numbers_fit r) h) (read_fields_record_fields r (and_right plain (numbers_fit r) h))

pub text_of_parse : (line : Bytes) (r : Record) → parse line ≡ some r → T (well_formed r) × (line ≡ record_text r)
unfolding parse record_text well_formed
text_of_parse line r e =
    let typed = read_fields_only.typed (fields line) r e in
    let plain = subst (λ fs. T (all no_tab fs)) (sym typed.own_fields) (fields_no_tab line) in
    let own = sym (parted_of_fields line) ∙ ap parted (sym typed.own_fields) in
    (and_intro (all no_tab (record_fields r)) (numbers_fit r) plain typed.numbers_fit, own)

grammar_exact : GrammarExact
grammar_exact line r = (text_of_parse line r, λ h. ap parse h.1 ∙ parse_text r h.0)

-- the replies: lines of fields without a tab
decimal_no_tab : (k : ℕ) → T (no_tab (decimal k))
decimal_no_tab k = word_no_tab (spelled (suc k) k)

line_of_lem : (f : Bytes) (fs : List Bytes) → T (all no_tab (f ∷ fs)) → LineOf (line_of (f ∷ fs)) (f ∷ fs)
line_of_lem f fs h = record { text = parted (f ∷ fs); ended = refl; parts = fields_of_parted f fs h }

numbered_line : (f : Bytes) (n : ℕ) (fs : List Bytes) → T (no_tab f) → T (all no_tab fs)
    → LineOf (line_of (f ∷ decimal n ∷ fs)) (f ∷ decimal n ∷ fs)
numbered_line f n fs h k =
    line_of_lem f (decimal n ∷ fs) (all_cons no_tab f (decimal n ∷ fs) h (all_cons no_tab (decimal n) fs (decimal_no_tab n) k))

held_line : (h : Held) → LineOf (line_of (held_fields h)) (held_fields h)
held_line h =
    let slot = slot_byte h.slot ∷ [] in
    let n = decimal h.plan.shape.arity in
    let r = decimal h.plan.shape.roots in
    let m = decimal (length h.plan.rows) in
    let plain = no_tab_cons (slot_byte h.slot) [] (ne_eqb (slot_byte h.slot) tab (λ e. omega arith)) tt in
    let pairs = all_cons no_tab m [] (decimal_no_tab (length h.plan.rows)) tt in
    let roots = all_cons no_tab r (m ∷ []) (decimal_no_tab h.plan.shape.roots) pairs in
    let numbers = all_cons no_tab n (r ∷ m ∷ []) (decimal_no_tab h.plan.shape.arity) roots in
    line_of_lem slot (n ∷ r ∷ m ∷ []) (all_cons no_tab slot (n ∷ r ∷ m ∷ []) plain numbers)

part_line : (l : Placed) → LineOf (line_of (part_fields l)) (part_fields l)
part_line l =
    let from = word_bytes l.pair.from in
    let to = word_bytes l.pair.to in
    let place = decimal l.place in
    line_of_lem (bytes "B") (from ∷ to ∷ place ∷ [])
    (all_cons no_tab from (to ∷ place ∷ []) (word_no_tab l.pair.from)
    (all_cons no_tab to (place ∷ []) (word_no_tab l.pair.to) (all_cons no_tab place [] (decimal_no_tab l.place) tt)))

-- lines of fields, each made of something, and how many
counted_lines : {A : Type 0} (f : A → List Bytes) (l : List A)
    → counted (map f l) ≡ join_lines (map (λ x. line_of (f x)) l) ++ ok_line (decimal (length l) ∷ [])
counted_lines f l = ap₂ (λ ls n. join_lines ls ++ ok_line (decimal n ∷ [])) (map-map line_of f l) (length-map l f)

block_lines_lem : (ls : List Placed)
    → reply_bytes (ok_block ls) ≡ join_lines (map (λ l. line_of (part_fields l)) ls) ++ reply_bytes (ok_number (length ls))
unfolding reply_bytes
block_lines_lem ls = counted_lines part_fields ls

survey_lines : (hs : List Held)
    → reply_bytes (surveys hs) ≡ join_lines (map (λ h. line_of (held_fields h)) hs) ++ reply_bytes (ok_number (length hs))
unfolding reply_bytes
survey_lines hs = counted_lines held_fields hs

replies_written : RepliesWritten
unfolding reply_bytes
replies_written =
    record {
      ok_bytes = refl;
      no_bytes = refl;
      letters = refl;
      nothing = refl;
      done = line_of_lem (bytes "ok") [] tt;
      number = λ n. numbered_line (bytes "ok") n [] tt tt;
      image = λ w k. line_of_lem (bytes "ok") (word_bytes w ∷ decimal k ∷ [])
          (all_cons no_tab (word_bytes w) (decimal k ∷ []) (word_no_tab w) (all_cons no_tab (decimal k) [] (decimal_no_tab k) tt));
      part = part_line;
      block = block_lines_lem;
      plan = λ b p. refl;
      refusal = λ n. numbered_line (bytes "no") n [] tt tt;
      from_refusal = λ n. numbered_line (bytes "no") n (bytes "F" ∷ []) tt tt;
      to_refusal = λ n. numbered_line (bytes "no") n (bytes "T" ∷ []) tt tt;
      held = held_line;
      survey = survey_lines;
    }

-- the numbers of well-formed records
numbers_fit_lem : (r : Record) → T (numbers_fit r) ↔ NumbersFit r
unfolding max_numeral max_splits_numeral max_seed_numeral
numbers_fit_lem (P a n r) = (
  λ h. ((digits_below 0 n).0 (and_left (has_digits 1 n) (has_digits 1 r) h), (digits_below 0 r).0 (and_right (has_digits 1 n) (has_digits 1 r) h)),
  λ h. and_intro (has_digits 1 n) (has_digits 1 r) ((digits_below 0 n).1 h.0) ((digits_below 0 r).1 h.1),
)
numbers_fit_lem (M from to) = (λ _. tt, λ _. tt)
numbers_fit_lem E = (λ _. tt, λ _. tt)
numbers_fit_lem (F a b c) = (λ _. tt, λ _. tt)
numbers_fit_lem (I a c) = (λ _. tt, λ _. tt)
numbers_fit_lem (K a k c) = digits_below 3 (nat_abs k)
numbers_fit_lem (S a b) = (λ _. tt, λ _. tt)
numbers_fit_lem (W a code) = (λ _. tt, λ _. tt)
numbers_fit_lem (L a) = (λ _. tt, λ _. tt)
numbers_fit_lem (C a) = (λ _. tt, λ _. tt)
numbers_fit_lem Tᴿ = (λ _. tt, λ _. tt)
numbers_fit_lem U = (λ _. tt, λ _. tt)
numbers_fit_lem (X a n r s seed) = (
  λ h.
      let fits = fits_of_test a n r s seed h in
      ((digits_below 0 n).0 fits.ways, (digits_below 0 r).0 fits.belts, (digits_below 1 s).0 fits.splits, (digits_below 9 seed).0 fits.seeds),
  λ (below, below', below'', below''').
      test_of_fits a n r s seed
      (record {
        ways = (digits_below 0 n).1 below;
        belts = (digits_below 0 r).1 below';
        splits = (digits_below 1 s).1 below'';
        seeds = (digits_below 9 seed).1 below''';
      }),
)
numbers_fit_lem (Z s) = digits_below 0 s
numbers_fit_lem (G s a x) = digits_below 0 s
numbers_fit_lem H = (λ _. tt, λ _. tt)

well_formed_exact : WellFormedExact
unfolding well_formed
well_formed_exact r =
    let plain = all no_tab (record_fields r) in (
      λ h. (and_left plain (numbers_fit r) h, (numbers_fit_lem r).0 (and_right plain (numbers_fit r) h)),
      λ h. and_intro plain (numbers_fit r) h.0 ((numbers_fit_lem r).1 h.1),
    )

grant_text : (s a : ℕ) (x : Right) → record_text (G s a x) ≡ 71 ∷ 9 ∷ (decimal s ++ 9 ∷ a ∷ 9 ∷ right_digit x ∷ [])
unfolding record_text right_number
grant_text s a no_right = refl
grant_text s a may_read = refl
grant_text s a may_write = refl

record_forms : RecordForms
unfolding record_text
record_forms =
    record {
      P-text = λ a n r. refl;
      M-text = λ from to. refl;
      E-text = refl;
      F-text = λ a b c. refl;
      I-text = λ a c. refl;
      K-text = λ a k c. refl;
      K-text-below = λ a k c. refl;
      S-text = λ a b. refl;
      W-text = λ a code. refl;
      L-text = λ a. refl;
      C-text = λ a. refl;
      T-text = refl;
      U-text = refl;
      X-text = λ a n r s seed. refl;
      Z-text = λ s. refl;
      G-text = λ s a x. grant_text s a x;
      H-text = refl;
    }

pub text_exact : TextExact
text_exact =
    record {
      grammar = grammar_exact;
      forms = record_forms;
      well_formed_lem = well_formed_exact;
      slots = slots_exact;
      decimals = decimals_exact;
      replies = replies_written;
    }
