-- Demand 3: the laws of the group on what F, I and K grant, and equal listings exactly for equal actions. Each law comes from the
-- one over unlimited tables; the limits only say whether the plans that it names are granted.
use Prim.Native.Nat.{ℕ, zero, suc, ◌+◌, ◌≤◌}
use mathlib.Core.Path.{◌≡◌, refl, sym, ◌∙◌, ap, ap₂, subst}
use mathlib.Core.Logic.{◌↔◌}
use mathlib.Core.List.Memᴰ
use mathlib.Core.List.{[], ◌∷◌, Memᴰ}
use native.Mathlib.Nat.{le_refl, le_trans}
use native.Mathlib.Omega.{arith}
use lib.Dec.{T, leb, le→leb, lit≤}
use lib.ListN.{length, length-map}
use lib.IntN.{ℤ, pos, negsuc, ◌+ℤ◌, ◌*ℤ◌}
use Rattle.higman.specs.Words.{Shape, count}
use Rattle.higman.specs.Bases.{all}
use Rattle.higman.specs.Tables.{Pair, Table, swapped, image}
use Rattle.higman.specs.Normal.{compose, inverse, identity, repeated, power, gather, whole}
use Rattle.higman.specs.Limits.{Plan, Kept, shape_in_range, granted, max_pairs, max_digits, fits, pair_fits}
use Rattle.higman.specs.Answers.{Granted, followed, inverted, powered, identity_plan, grant}
use Rattle.higman.specs.Listing.{pair_records}
use Rattle.higman.specs.Theorems.{ActAlike, Demand3}
use Rattle.higman.proofs.Tests.{T_of, same_test, and_left, and_right, and_intro, all_at, all_of, test_of_word}
use Rattle.higman.proofs.Images.{long_enough_of_image}
use Rattle.higman.proofs.Actions.{Action, Same}
use Rattle.higman.proofs.Elements.{Element, element_action, element_swapped}
use Rattle.higman.proofs.Group.{Member, member_path, compose_member, inverse_member, identity_member, compose_assoc}
use Rattle.higman.proofs.Group.{compose_identity_left, compose_identity_right, compose_inverse_left, compose_inverse_right}
use Rattle.higman.proofs.Smallest.{keep_granted}
use Rattle.higman.proofs.KeptPlans.{in_range, arity_of_range, member_of_kept, kept_of_member}
use Rattle.higman.proofs.Powers.{GroupLaws, pow_in, pow_sum, pow_neg, pow_product, inv_unique, power_is_pow}
use Rattle.higman.proofs.Answers.{followed_is, followed_cases, grant_of, inverted_cases, powered_cases, powered_zero, powered_one}
use Rattle.higman.proofs.Answers.{powered_minus_one}
use Rattle.higman.proofs.Listing.{listing_faithful}

-- the group of one shape, for the laws of powers
pub group_laws : (s : Shape) → 1 ≤ s.arity → GroupLaws (Member s) (compose s) (identity s) (inverse s)
group_laws s n =
    record {
      unit_in = identity_member s n;
      op_in = λ a b A B. compose_member s n a b A.element B.element;
      inv_in = λ a A. inverse_member s n a A.element;
      assoc = compose_assoc s n;
      unit_left = compose_identity_left s n;
      unit_right = compose_identity_right s n;
      inv_right = compose_inverse_right s n;
      inv_left = compose_inverse_left s n;
    }

pub power_member : (s : Shape) → 1 ≤ s.arity → (a : Table) → Member s a → (k : ℤ) → Member s (power s a k)
power_member s n a A k = subst (Member s) (sym (power_is_pow s a k)) (pow_in (group_laws s n) a A k)

pub power_sum : (s : Shape) → 1 ≤ s.arity → (a : Table) → Member s a → (j k : ℤ) → compose s (power s a j) (power s a k) ≡ power s a (j +ℤ k)
power_sum s n a A j k = simp power_is_pow (pow_sum (group_laws s n) a A j k)

pub power_product : (s : Shape) → 1 ≤ s.arity → (a : Table) → Member s a → (j k : ℤ) → power s (power s a j) k ≡ power s a (j *ℤ k)
power_product s n a A j k = simp power_is_pow (pow_product (group_laws s n) a A j k)

-- swapping the columns keeps the limits
granted_swapped : (t : Table) → T (granted t) → T (granted (swapped t))
unfolding granted
granted_swapped t g =
    and_intro (leb (length (swapped t)) max_pairs) (all pair_fits (swapped t))
    (subst (λ j. T (leb j max_pairs)) (sym (length-map t (λ p. record { from = p.to; to = p.from }))) (and_left (leb (length t) max_pairs) (all pair_fits t) g))
    (all_of pair_fits (swapped t) (λ p m. at p (Memᴰ.of_map (λ q. record { from = q.to; to = q.from }) t m)))
  where
    at : (p : Pair) → (q : Pair) × Memᴰ q t × (record { from = q.to; to = q.from } ≡ p) → T (pair_fits p)
    at p (q, m, e) =
        let h = all_at pair_fits t (and_right (leb (length t) max_pairs) (all pair_fits t) g) q m in
        subst (λ r. T (pair_fits r)) e (and_intro (fits q.to) (fits q.from) (and_right (fits q.from) (fits q.to) h) (and_left (fits q.from) (fits q.to) h))

pub inverse_granted : (s : Shape) → 1 ≤ s.arity → (t : Table) → Element s t → T (granted t) → T (granted (inverse s t))
unfolding inverse
inverse_granted s n t E g = keep_granted s n (swapped t) (element_swapped s t E) (granted_swapped t g)

identity_length : (a m : ℕ) → length (gather (count a m) (λ b. whole (b ∷ []))) ≡ m
identity_length a zero = refl
identity_length a (suc m) = ap suc (identity_length (suc a) m)

identity_fits : (a m : ℕ) → T (all pair_fits (gather (count a m) (λ b. whole (b ∷ []))))
unfolding max_digits
identity_fits a zero = tt
identity_fits a (suc m) = identity_fits (suc a) m

-- the belts are within the limits of every shape
pub identity_granted : (s : Shape) → T (shape_in_range s) → T (granted (identity s))
unfolding granted identity max_pairs
identity_granted s r =
    let few : s.roots ≤ max_pairs = le_trans (in_range s r).roots_high (lit≤ tt) in
    and_intro (leb (length (identity s)) max_pairs) (all pair_fits (identity s))
    (le→leb (length (identity s)) max_pairs (subst (λ j. j ≤ max_pairs) (sym (identity_length 1 s.roots)) few))
    (identity_fits 1 s.roots)

plan : Shape → Table → Plan
plan s t = record { shape = s; rows = t }

-- F of two plans of one shape whose composition is a granted table
followed_granted : (a b : Plan) (t : Table) → a.shape ≡ b.shape → compose a.shape a.rows b.rows ≡ t → T (granted t) → followed a b ≡ Granted (plan a.shape t)
unfolding plan
followed_granted a b t e p g = followed_is a b e ∙ ap (grant a.shape) p ∙ grant_of a.shape t g

-- the table of a plan of another name for the shape
at_shape : (a b : Plan) → a.shape ≡ b.shape → Kept b → Member a.shape b.rows
at_shape a b e K = subst (λ s. Member s b.rows) (sym e) (member_of_kept b K)

kept_followed : (a b c : Plan) → Kept a → Kept b → followed a b ≡ Granted c → Kept c
kept_followed a b c A B e =
    let (q, g, p) = followed_cases a b c e in
    let n = arity_of_range a.shape A.in_range in
    subst Kept (sym p) (kept_of_member (record { shape = a.shape; rows = compose a.shape a.rows b.rows }) A.in_range g (compose_member a.shape n a.rows b.rows (member_of_kept a A).element (at_shape a b q B).element))

inverted_path : (a b : Plan) → inverted a ≡ Granted b → b ≡ plan a.shape (inverse a.shape a.rows)
unfolding plan
inverted_path a b e = inverted_cases a b e

kept_inverted : (a b : Plan) → Kept a → inverted a ≡ Granted b → Kept b
unfolding plan
kept_inverted a b A e =
    let n = arity_of_range a.shape A.in_range in
    let E = (member_of_kept a A).element in
    subst Kept (sym (inverted_path a b e)) (kept_of_member (plan a.shape (inverse a.shape a.rows)) A.in_range (inverse_granted a.shape n a.rows E A.within) (inverse_member a.shape n a.rows E))

-- a power that K grants keeps the limits: power 0 as the identity, any other as the last on the way
power_within : (a b : Plan) (k : ℤ) → Kept a → powered a k ≡ Granted b → T (granted (power a.shape a.rows k))
unfolding power repeated
power_within a b (pos zero) A e = identity_granted a.shape A.in_range
power_within a b (pos (suc k)) A e = T_of ((powered_cases a b (pos (suc k)) e).1 (suc k) (omega arith) (le_refl (suc k)))
power_within a b (negsuc k) A e = T_of ((powered_cases a b (negsuc k) e).1 (suc k) (omega arith) (le_refl (suc k)))

kept_powered : (a b : Plan) (k : ℤ) → Kept a → powered a k ≡ Granted b → Kept b
kept_powered a b k A e =
    let n = arity_of_range a.shape A.in_range in
    subst Kept (sym (powered_cases a b k e).0) (kept_of_member (record { shape = a.shape; rows = power a.shape a.rows k }) A.in_range (power_within a b k A e) (power_member a.shape n a.rows (member_of_kept a A) k))

associative : (a b c ab bc : Plan) → Kept a → Kept b → Kept c → followed a b ≡ Granted ab → followed b c ≡ Granted bc → followed ab c ≡ followed a bc
associative a b c ab bc A B C e f =
    let (p, g, q) = followed_cases a b ab e in
    let (p', g', q') = followed_cases b c bc f in
    ap (λ x. followed x c) q ∙ middle p p' ∙ ap (followed a) (sym (q' ∙ ap (λ s. record { shape = s; rows = compose s b.rows c.rows }) (sym p)))
  where
    s : Shape
    s = a.shape

    middle : a.shape ≡ b.shape → b.shape ≡ c.shape → followed (record { shape = s; rows = compose s a.rows b.rows }) c ≡ followed a (record { shape = s; rows = compose s b.rows c.rows })
    middle p p' =
        followed_is (record { shape = s; rows = compose s a.rows b.rows }) c (p ∙ p')
        ∙ ap (grant s) (compose_assoc s (arity_of_range s A.in_range) a.rows b.rows c.rows (member_of_kept a A) (at_shape a b p B) (at_shape a c (p ∙ p') C))
        ∙ sym (followed_is a (record { shape = s; rows = compose s b.rows c.rows }) refl)

identity_left : (a : Plan) → Kept a → followed (identity_plan a.shape) a ≡ Granted a
unfolding identity_plan plan
identity_left a A =
    followed_granted (identity_plan a.shape) a a.rows refl (compose_identity_left a.shape (arity_of_range a.shape A.in_range) a.rows (member_of_kept a A)) A.within

identity_right : (a : Plan) → Kept a → followed a (identity_plan a.shape) ≡ Granted a
unfolding identity_plan plan
identity_right a A =
    followed_granted a (identity_plan a.shape) a.rows refl (compose_identity_right a.shape (arity_of_range a.shape A.in_range) a.rows (member_of_kept a A)) A.within

inverse_left : (a b : Plan) → Kept a → inverted a ≡ Granted b → followed b a ≡ Granted (identity_plan a.shape)
unfolding identity_plan plan
inverse_left a b A e =
    let s = a.shape in
    ap (λ x. followed x a) (inverted_path a b e)
    ∙ followed_granted (plan s (inverse s a.rows)) a (identity s) refl (compose_inverse_left s (arity_of_range s A.in_range) a.rows (member_of_kept a A)) (identity_granted s A.in_range)

inverse_right : (a b : Plan) → Kept a → inverted a ≡ Granted b → followed a b ≡ Granted (identity_plan a.shape)
unfolding identity_plan plan
inverse_right a b A e =
    let s = a.shape in
    ap (followed a) (inverted_path a b e)
    ∙ followed_granted a (plan s (inverse s a.rows)) (identity s) refl (compose_inverse_right s (arity_of_range s A.in_range) a.rows (member_of_kept a A)) (identity_granted s A.in_range)

sum_of_powers : (a p q b : Plan) (j k : ℤ) → Kept a → powered a j ≡ Granted p → powered a k ≡ Granted q → powered a (j +ℤ k) ≡ Granted b → followed p q ≡ Granted b
unfolding plan
sum_of_powers a p q b j k A e f g =
    let s = a.shape in
    ap₂ followed (powered_cases a p j e).0 (powered_cases a q k f).0
    ∙ followed_granted (plan s (power s a.rows j)) (plan s (power s a.rows k)) (power s a.rows (j +ℤ k)) refl (power_sum s (arity_of_range s A.in_range) a.rows (member_of_kept a A) j k) (power_within a b (j +ℤ k) A g)
    ∙ ap Granted (sym (powered_cases a b (j +ℤ k) g).0)

product_of_powers : (a p q b : Plan) (j k : ℤ) → Kept a → powered a j ≡ Granted p → powered p k ≡ Granted q → powered a (j *ℤ k) ≡ Granted b → q ≡ b
product_of_powers a p q b j k A e f g =
    let s = a.shape in
    (powered_cases p q k f).0
    ∙ ap (λ x. record { shape = x.shape; rows = power x.shape x.rows k }) (powered_cases a p j e).0
    ∙ ap (λ t. record { shape = s; rows = t }) (power_product s (arity_of_range s A.in_range) a.rows (member_of_kept a A) j k)
    ∙ sym (powered_cases a b (j *ℤ k) g).0

-- plans that act alike have the same pairs: on long words both have an image
rows_of_alike : (a b : Plan) → Kept a → Kept b → a.shape ≡ b.shape → ActAlike a b → a.rows ≡ b.rows
rows_of_alike a b A B e h =
    member_path s n a.rows b.rows (member_of_kept a A) (at_shape a b e B) (suc (F.depth + G.depth)) same
  where
    s : Shape
    s = a.shape

    n : 1 ≤ s.arity
    n = arity_of_range s A.in_range

    F : Action s (image a.rows)
    F = (element_action s a.rows n (member_of_kept a A).element).0

    G : Action s (image b.rows)
    G = (element_action s b.rows n (at_shape a b e B).element).0

    same : Same s (suc (F.depth + G.depth)) (image a.rows) (image b.rows)
    same w y l =
        let (v, p) = F.total w y (omega arith) in
        let (u, q) = G.total w y (omega arith) in
        h w (test_of_word s w y) (T_of (long_enough_of_image a.rows w v p)) (T_of (long_enough_of_image b.rows w u q))

pub alike_rows : (a b : Plan) → Kept a → Kept b → a.shape ≡ b.shape → (a.rows ≡ b.rows) ↔ ActAlike a b
alike_rows a b A B e = (λ p w y l k. ap (λ t. image t w) p, rows_of_alike a b A B e)

same_listing : (a b : Plan) → Kept a → Kept b → a.shape ≡ b.shape → (pair_records a.rows ≡ pair_records b.rows) ↔ ActAlike a b
same_listing a b A B e =
    let r = listing_faithful.records a.rows b.rows in
    let i = alike_rows a b A B e in
    (λ p. i.0 (r.0 p), λ h. r.1 (i.1 h))

power_zero : (a : Plan) → powered a (pos 0) ≡ Granted (identity_plan a.shape)
unfolding identity_plan
power_zero a = powered_zero a

power_one : (a : Plan) → Kept a → powered a (pos 1) ≡ Granted a
power_one a A = powered_one a a.rows (compose_identity_left a.shape (arity_of_range a.shape A.in_range) a.rows (member_of_kept a A)) A.within

power_minus_one : (a : Plan) → Kept a → powered a (negsuc 0) ≡ inverted a
unfolding inverted
power_minus_one a A =
    let n = arity_of_range a.shape A.in_range in
    let E = (member_of_kept a A).element in
    powered_minus_one a (inverse a.shape a.rows) (compose_identity_left a.shape n (inverse a.shape a.rows) (inverse_member a.shape n a.rows E)) (inverse_granted a.shape n a.rows E A.within)

-- power −j is the inverse of power j
repeated_inverse : (s : Shape) → 1 ≤ s.arity → (a : Table) → Member s a → (j : ℕ) → inverse s (repeated s a j) ≡ repeated s (inverse s a) j
unfolding power repeated
repeated_inverse s n a A zero = ap (inverse s) (power_is_pow s a (pos 0)) ∙ pow_neg (group_laws s n) a A (pos 0) ∙ sym (power_is_pow s a (pos 0))
repeated_inverse s n a A (suc j) = ap (inverse s) (power_is_pow s a (pos (suc j))) ∙ pow_neg (group_laws s n) a A (pos (suc j)) ∙ sym (power_is_pow s a (negsuc j))

inverse_twice : (s : Shape) → 1 ≤ s.arity → (a : Table) → Member s a → inverse s (inverse s a) ≡ a
inverse_twice s n a A = inv_unique (group_laws s n) (inverse s a) a (inverse_member s n a A.element) A (compose_inverse_left s n a A)

pub power_below : (a : Plan) → Kept a → (j : ℕ) → granted (repeated a.shape (inverse a.shape a.rows) j) ≡ granted (repeated a.shape a.rows j)
unfolding power
power_below a A j = ap granted (sym (repeated_inverse s n a.rows M j)) ∙ same_test (granted (inverse s t)) (granted t) back (inverse_granted s n t R.element)
  where
    s : Shape
    s = a.shape

    n : 1 ≤ s.arity
    n = arity_of_range s A.in_range

    M : Member s a.rows
    M = member_of_kept a A

    t : Table
    t = repeated s a.rows j

    R : Member s t
    R = power_member s n a.rows M (pos j)

    back : T (granted (inverse s t)) → T (granted t)
    back g = subst (λ u. T (granted u)) (inverse_twice s n t R) (inverse_granted s n (inverse s t) (inverse_member s n t R.element).element g)

-- Demand 3, undivided.
pub demand3 : Demand3
demand3 =
    record {
      followed_kept = kept_followed;
      inverted_kept = kept_inverted;
      powered_kept = kept_powered;
      associative = associative;
      power_zero = power_zero;
      power_one = power_one;
      power_minus_one = power_minus_one;
      identity_left = identity_left;
      identity_right = identity_right;
      inverse_left = inverse_left;
      inverse_right = inverse_right;
      power_sum = sum_of_powers;
      power_product = product_of_powers;
      same_listing = same_listing;
    }
