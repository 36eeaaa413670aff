-- The statements of specs/Theorems.antt on the normal form, the group's actions and the answers, each as one term.
use Prim.Native.Nat.{ℕ, suc, ◌≤◌}
use mathlib.Core.Path.{◌≡◌, refl, sym, ◌∙◌, ap, subst}
use mathlib.Core.Logic.{◌⊎◌, inl, inr, ◌↔◌}
use mathlib.Core.Bool.{Bool, true, false, ◌&&◌}
use mathlib.Core.List.Memᴰ
use mathlib.Core.List.{List, [], ◌∷◌, ◌++◌, append-nil, append_assoc, Memᴰ}
use mathlib.Core.Option.{Option, none, some, none-ne-some}
use native.Mathlib.Omega.{arith}
use lib.Dec.{T, leb}
use lib.ListN.{length, length-append}
use Rattle.higman.specs.Words.{Shape, Word, is_word}
use Rattle.higman.specs.Bases.{Basis, Column, all, overlap, gap}
use Rattle.higman.specs.Tables.{Pair, Table, froms, tos, image, same_table}
use Rattle.higman.specs.Normal.{keep, and_then, compose, inverse, power, Reduced, ordered}
use Rattle.higman.specs.Limits.{Plan, Bases, Kept, shape_in_range, granted, is_code, max_code}
use Rattle.higman.specs.Answers.{Reason, Verdict, Accepted, InFrom, InTo, fault, verdict, accepts, is_table_of, is_kept}
use Rattle.higman.specs.Answers.{followed, Granted, same, Alike, NotCompared, Comparison, same_shape, Route, Image, TooShort, NotRouted, routed}
use Rattle.higman.specs.Theorems.{NormalForm, GroupActs, AnswersExact, ActAlike}
use Rattle.higman.proofs.Tests.{passes, so, T_of, and_left, and_right, and_intro, IsWord, word_of_test, same_table_lem, same_table_refl}
use Rattle.higman.proofs.Proper.{Proper}
use Rattle.higman.proofs.Images.{row_of_image, longer_of_none}
use Rattle.higman.proofs.Expansions.{same_of_apart}
use Rattle.higman.proofs.Columns.{Comparable, comparable_of_proper, column_is_basis}
use Rattle.higman.proofs.Results.{identity_bases}
use Rattle.higman.proofs.Group.{keep_acts, keep_member, compose_acts, compose_member, inverse_acts, inverse_member}
use Rattle.higman.proofs.Group.{identity_acts, repeated_acts}
use Rattle.higman.proofs.Smallest.{keep_granted}
use Rattle.higman.proofs.KeptPlans.{element_of_bases, bases_of_element, keep_reduced, keep_ordered, own_of_reduced, arity_of_range}
use Rattle.higman.proofs.KeptPlans.{member_of_kept, kept_of_member}
use Rattle.higman.proofs.Joins.{any_joins}
use Rattle.higman.proofs.Reached.{reached}
use Rattle.higman.proofs.Answers.{followed_cases, powered_cases, power_refused, same_shape_refl}
use Rattle.higman.proofs.Demand3.{alike_rows, power_below}

pub normal_form_lem : NormalForm
normal_form_lem =
    record {
      acts = λ s n t b w v y e. keep_acts s n t (element_of_bases s t n b) w v (word_of_test s w y) e;
      bases = λ s n t b. bases_of_element s (keep s t) n (keep_member s n t (element_of_bases s t n b)).element;
      reduced = λ s n t. keep_reduced s t n;
      in_order = keep_ordered;
      own = λ s n t b. (
        λ h. own_of_reduced s t n (element_of_bases s t n b) h.0 h.1,
        λ e. (subst (Reduced s.arity) e (keep_reduced s t n), subst (λ u. ordered (froms u) ≡ true) e (keep_ordered s t)),
      );
      reached = reached;
      any_joins = any_joins;
    }

-- what is granted of two plans acts as the first and then the second
pub followed_acts : (a b c : Plan) → Kept a → Kept b → followed a b ≡ Granted c → (w v : Word) → T (is_word a.shape w)
    → and_then (image a.rows) (image b.rows) w ≡ some v → image c.rows w ≡ some v
followed_acts a b c A B g w v y e =
    let (same_shape, within, c-is) = followed_cases a b c g in
    let s = a.shape in
    let n = arity_of_range s A.in_range in
    let first = element_of_bases s a.rows n A.bases in
    let second = element_of_bases s b.rows n (subst (λ z. Bases z b.rows) (sym same_shape) B.bases) in
    subst (λ p. image p.rows w ≡ some v) (sym c-is) (compose_acts s n a.rows b.rows first second w v (word_of_test s w y) e)

pub group_acts : GroupActs
unfolding power
group_acts =
    record {
      compose_acts = λ s n a b A B w v y e. compose_acts s n a b (element_of_bases s a n A) (element_of_bases s b n B) w v (word_of_test s w y) e;
      compose_bases = λ s n a b A B. bases_of_element s (compose s a b) n (compose_member s n a b (element_of_bases s a n A) (element_of_bases s b n B)).element;
      inverse_acts = λ s n a A w v y e. inverse_acts s n a (element_of_bases s a n A) w v (word_of_test s w y) e;
      inverse_bases = λ s n a A. bases_of_element s (inverse s a) n (inverse_member s n a (element_of_bases s a n A)).element;
      identity_acts = λ s w y. identity_acts s w (word_of_test s w y);
      identity_bases = identity_bases;
      power_acts = λ s n a A k w v y e. repeated_acts s n a (element_of_bases s a n A) k w v (word_of_test s w y) e;
      power_acts_below = λ s n a A k w v y e. repeated_acts s n (inverse s a) (inverse_member s n a (element_of_bases s a n A)).element (suc k) w v (word_of_test s w y) e;
    }

-- a column of words in which nothing is at fault is a column, and the other way round
no_fault : (s : Shape) (c : List Word) → fault s c ≡ none → (overlap c ≡ false) × (gap s c ≡ false)
no_fault s c e = by_tests (passes (overlap c)) (passes (gap s c))
  where
    by_tests : (overlap c ≡ true) ⊎ (overlap c ≡ false) → (gap s c ≡ true) ⊎ (gap s c ≡ false) → (overlap c ≡ false) × (gap s c ≡ false)
    by_tests (inl o) g = absurd (none-ne-some _ (sym (rw (o, fault) at e)))
    by_tests (inr o) (inl g) = absurd (none-ne-some _ (sym (rw (o, g, fault) at e)))
    by_tests (inr o) (inr g) = (o, g)

fault_of_column : (s : Shape) (c : List Word) → Column s c → fault s c ≡ none
fault_of_column s c k = rw (k.apart, k.covers, fault)

abbrev is_accepted : Verdict → Type 0
is_accepted Accepted = Unit {0}
is_accepted (InFrom r) = ⊥
is_accepted (InTo r) = ⊥

accepted_columns : (s : Shape) (t : Table) → verdict s t ≡ Accepted → (fault s (froms t) ≡ none) × (fault s (tos t) ≡ none)
unfolding verdict
accepted_columns s t e = go (fault s (froms t)) (fault s (tos t)) e
  where
    go : (a b : Option Reason) → elim a as (λ _. Verdict) [ some r ↦ InFrom r | none ↦ elim b [ some r ↦ InTo r | none ↦ Accepted ] ] ≡ Accepted → (a ≡ none) × (b ≡ none)
    go (some r) b h = absurd (subst is_accepted (sym h) tt)
    go none (some r) h = absurd (subst is_accepted (sym h) tt)
    go none none h = (refl, refl)

verdict_of_columns : (s : Shape) (t : Table) → fault s (froms t) ≡ none → fault s (tos t) ≡ none → verdict s t ≡ Accepted
unfolding verdict
verdict_of_columns s t e f = rw (e, f, verdict)

accepted : (s : Shape) → 1 ≤ s.arity → (t : Table) → T (all (is_word s) (froms t)) → T (all (is_word s) (tos t)) → (verdict s t ≡ Accepted) ↔ Bases s t
accepted s n t y z = (to, from)
  where
    basis : (c : List Word) → T (all (is_word s) c) → fault s c ≡ none → Basis s c
    basis c y e = let (a, g) = no_fault s c e in (column_is_basis s n c).1 (record { words = y; apart = a; covers = g })

    to : verdict s t ≡ Accepted → Bases s t
    to e = let (p, q) = accepted_columns s t e in record { from_basis = basis (froms t) y p; to_basis = basis (tos t) z q }

    from : Bases s t → verdict s t ≡ Accepted
    from b =
        verdict_of_columns s t
        (fault_of_column s (froms t) ((column_is_basis s n (froms t)).0 b.from_basis))
        (fault_of_column s (tos t) ((column_is_basis s n (tos t)).0 b.to_basis))

keeps : (s : Shape) → T (shape_in_range s) → (t : Table) → Bases s t → T (granted t) → Kept (record { shape = s; rows = keep s t })
keeps s r t b g =
    let n = arity_of_range s r in
    let E = element_of_bases s t n b in
    kept_of_member (record { shape = s; rows = keep s t }) r (keep_granted s n t E g) (keep_member s n t E)

-- a table of words of a shape in range and within the limits: what an open plan is, and what a kept one is at least
pub record TableOf (s : Shape) (t : Table) : Type 0 where
  pub in_range : T (shape_in_range s)
  pub within : T (granted t)
  pub from_words : T (all (is_word s) (froms t))
  pub to_words : T (all (is_word s) (tos t))

module _ (s : Shape) (t : Table) where
  abbrev sized : Bool
  sized = shape_in_range s && granted t

  abbrev spelt : Bool
  spelt = sized && all (is_word s) (froms t)

  pub table_of : T (is_table_of s t) → TableOf s t
  table_of h =
      let front = and_left spelt (all (is_word s) (tos t)) h in
      let size = and_left sized (all (is_word s) (froms t)) front in
      record { in_range = and_left (shape_in_range s) (granted t) size; within = and_right (shape_in_range s) (granted t) size; from_words = and_right sized (all (is_word s) (froms t)) front; to_words = and_right spelt (all (is_word s) (tos t)) h }

  pub test_table : TableOf s t → T (is_table_of s t)
  test_table h = and_intro spelt (all (is_word s) (tos t)) (and_intro sized (all (is_word s) (froms t)) (and_intro (shape_in_range s) (granted t) h.in_range h.within) h.from_words) h.to_words

accepts_of : (v : Verdict) → v ≡ Accepted → T (accepts v)
accepts_of v e = subst (λ x. T (accepts x)) (sym e) tt

accepted_of : (v : Verdict) → T (accepts v) → v ≡ Accepted
accepted_of Accepted h = refl
accepted_of (InFrom r) h = absurd h
accepted_of (InTo r) h = absurd h

module _ (p : Plan) where
  abbrev s : Shape
  s = p.shape

  abbrev t : Table
  t = p.rows

  abbrev judged : Bool
  judged = is_table_of s t && accepts (verdict s t)

  kept_of_test : T (is_kept p) → Kept p
  unfolding is_kept
  kept_of_test h =
      let front = and_left judged (same_table (keep s t) t) h in
      let table = table_of s t (and_left (is_table_of s t) (accepts (verdict s t)) front) in
      let n = arity_of_range s table.in_range in
      let bases = (accepted s n t table.from_words table.to_words).0 (accepted_of (verdict s t) (and_right (is_table_of s t) (accepts (verdict s t)) front)) in
      let own = (normal_form_lem.own s n t bases).1 (same_table_lem (keep s t) t (and_right judged (same_table (keep s t) t) h)) in
      record { in_range = table.in_range; within = table.within; bases = bases; reduced = own.0; in_order = own.1 }

  test_of_kept : Kept p → T (is_kept p)
  unfolding is_kept
  test_of_kept h =
      let n = arity_of_range s h.in_range in
      let from_words = ((column_is_basis s n (froms t)).0 h.bases.from_basis).words in
      let to_words = ((column_is_basis s n (tos t)).0 h.bases.to_basis).words in
      let own = (normal_form_lem.own s n t h.bases).0 (h.reduced, h.in_order) in
      and_intro judged (same_table (keep s t) t)
      (and_intro (is_table_of s t) (accepts (verdict s t)) (test_table s t (record { in_range = h.in_range; within = h.within; from_words = from_words; to_words = to_words })) (accepts_of (verdict s t) ((accepted s n t from_words to_words).1 h.bases)))
      (subst (λ u. T (same_table u t)) (sym own) (same_table_refl t))

-- a route of a code is its image, or says that there is none
routed_is : (a : Plan) (w : Word) → T (is_code a.shape w) → (o : Option Word) → image a.rows w ≡ o → routed a w ≡ elim o as (λ _. Route) [ some v ↦ Image v | none ↦ TooShort ]
unfolding routed
routed_is a w c o e = rw (so (is_code a.shape w) c, routed) (ap (λ o. elim o as (λ _. Route) [ some v ↦ Image v | none ↦ TooShort ]) e)

word_of_code : (s : Shape) (w : Word) → T (is_code s w) → IsWord s w
unfolding is_code
word_of_code s w c = word_of_test s w (and_left (is_word s w) (leb (length w) max_code) c)

abbrev is_image : Route → Type 0
is_image (Image v) = Unit {0}
is_image TooShort = ⊥
is_image (NotRouted r) = ⊥

-- a word that begins a from-word properly
abbrev Begun : Plan → Word → Type 0
Begun a w = (p : Pair) × (i : ℕ) × (x : Word) × Memᴰ p a.rows × (p.from ≡ w ++ i ∷ x)

too_short : (a : Plan) → Kept a → (w : Word) → T (is_code a.shape w) → (routed a w ≡ TooShort) ↔ Begun a w
too_short a A w c = (to, from)
  where
    s : Shape
    s = a.shape

    P : Proper s (froms a.rows)
    P = (member_of_kept a A).element.from_proper

    -- a word without an image is no extension of a from-word, so one extends it
    under_a_pair : image a.rows w ≡ none → Begun a w
    under_a_pair e =
        let (u, m, k) = comparable_of_proper s (froms a.rows) (arity_of_range s A.in_range) P w (word_of_code s w c) in
        let (p, l, q) = Memᴰ.of_map (λ r. r.from) a.rows m in
        let (i, x, f) = longer_of_none a.rows P.apart w e p l (subst (Comparable w) (sym q) k) in
        (p, i, x, l, f)

    to : routed a w ≡ TooShort → Begun a w
    to e = go (image a.rows w) refl
      where
        go : (o : Option Word) → image a.rows w ≡ o → Begun a w
        go none f = under_a_pair f
        go (some v) f = absurd (subst is_image (sym (routed_is a w c (some v) f) ∙ e) tt)

    from : Begun a w → routed a w ≡ TooShort
    from (p, i, x, m, e) = go (image a.rows w) refl
      where
        -- a pair whose from-word begins w would begin that of p
        not_begun : (q : Pair) (z v : Word) → Memᴰ q a.rows → w ≡ q.from ++ z → ⊥
        not_begun q z v l f =
            let g : p.from ≡ q.from ++ (z ++ i ∷ x) = e ∙ ap (λ u. u ++ i ∷ x) f ∙ append_assoc q.from z (i ∷ x) in
            let h = same_of_apart (froms a.rows) P.apart q.from p.from (z ++ i ∷ x) (Memᴰ.map (λ r. r.from) l) (Memᴰ.map (λ r. r.from) m) g in
            omega (arith, ap length g, ap length h, length-append q.from (z ++ i ∷ x), length-append z (i ∷ x))

        go : (o : Option Word) → image a.rows w ≡ o → routed a w ≡ TooShort
        go none f = routed_is a w c none f
        go (some v) f = let (q, z, l, g, h) = row_of_image a.rows w v f in absurd (not_begun q z v l g)

same_is : (a b : Plan) → a.shape ≡ b.shape → same a b ≡ Alike (same_table a.rows b.rows)
unfolding same
same_is a b e = rw (subst (λ s. same_shape a.shape s ≡ true) e (same_shape_refl a.shape), same)

abbrev verdict_of : Comparison → Bool
verdict_of (Alike b) = b
verdict_of (NotCompared r) = false

alike : (a b : Plan) → Kept a → Kept b → a.shape ≡ b.shape → (same a b ≡ Alike true) ↔ ActAlike a b
alike a b A B e =
    let i = alike_rows a b A B e in
    let test = same_table a.rows b.rows in (
      λ p. i.0 (same_table_lem a.rows b.rows (T_of (ap verdict_of (sym (same_is a b e) ∙ p)))),
      λ h. same_is a b e ∙ ap Alike (so test (subst (λ t. T (same_table a.rows t)) (i.1 h) (same_table_refl a.rows))),
    )

pub answers_exact : AnswersExact
answers_exact =
    record {
      accepted = accepted;
      keeps = keeps;
      kept_test = λ p. (kept_of_test p, test_of_kept p);
      power_refused = power_refused;
      power_below = power_below;
      power_granted = λ a b k e. (powered_cases a b k e).0;
      too_short = too_short;
      alike = alike;
    }
