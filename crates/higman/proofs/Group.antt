-- The laws of a group, over tables of any size that have bases for columns and are their own normal forms. No limit appears here.
-- Each law says that two actions do the same to every long word; the lemma of Actions.antt then makes the tables equal.
use Prim.Native.Nat.{ℕ, zero, suc, ◌+◌, ◌≤◌, zero-le}
use mathlib.Core.Path.{◌≡◌, refl, sym, ◌∙◌, ap, ap₂, subst}
use mathlib.Core.List.{◌++◌}
use mathlib.Core.Option.{some, some-injective}
use native.Mathlib.Nat.{le_of_eq}
use Rattle.higman.specs.Words.{Shape, Word}
use Rattle.higman.specs.Bases.{longest}
use Rattle.higman.specs.Tables.{Table, BlockMap, froms, swapped, image}
use Rattle.higman.specs.Normal.{normal_form, keep, and_then, times, compose, inverse, identity, repeated}
use Rattle.higman.proofs.Tests.{IsWord}
use Rattle.higman.proofs.Actions.{Action, Same, normal_form_unique, image_normal_form, and_then_some, and_then_cases}
use Rattle.higman.proofs.Actions.{and_then_action}
use Rattle.higman.proofs.Results.{identity_is}
use Rattle.higman.proofs.Elements.{Element, Mutual, element_action, element_swapped, element_mutual, and_then_mutual}
use Rattle.higman.proofs.Elements.{normal_form_element}

-- an element of G(n,r): a table with bases for columns that is its own normal form
pub record Member (s : Shape) (t : Table) : Type 0 where
  pub element : Element s t
  pub own : keep s t ≡ t

-- the map that moves nothing
nothing : (s : Shape) → Action s (λ w. some w)
nothing s =
    record {
      steady = λ w v x e. ap some (ap (λ u. u ++ x) (some-injective _ _ e));
      words = λ w v y e. subst (IsWord s) (some-injective _ _ e) y;
      depth = 0;
      total = λ w y l. (w, refl);
    }

pub identity_acts : (s : Shape) (w : Word) → IsWord s w → image (identity s) w ≡ some w
unfolding nothing
identity_acts s w y = ap (λ t. image t w) (identity_is s) ∙ image_normal_form s (λ u. some u) (nothing s) 0 zero-le w w y refl

module _ (s : Shape) (n : 1 ≤ s.arity) where
  abbrev action : (t : Table) → Element s t → Action s (image t)
  action t E = (element_action s t n E).0

  action_depth : (t : Table) (E : Element s t) → (action t E).depth ≤ longest (froms t)
  action_depth t E = le_of_eq (element_action s t n E).1

  -- keeping a table is taking the normal form of what it does, at any depth that is deep enough
  keep_is : (t : Table) (E : Element s t) (f : BlockMap) (F : Action s f) (d k : ℕ) → F.depth ≤ d → Same s k (image t) f → keep s t ≡ normal_form s d f
  unfolding keep
  keep_is t E f F d k h same =
      normal_form_unique s (image t) f (action t E) F (longest (froms t)) d k n (action_depth t E) h same

  -- a normal form does to long words what its map does
  same_normal_form : (f : BlockMap) (F : Action s f) (d : ℕ) → F.depth ≤ d → Same s (suc F.depth) (image (normal_form s d f)) f
  same_normal_form f F d h w y l = let (v, e) = F.total w y l in image_normal_form s f F d h w v y e ∙ sym e

  -- The normal form of an invertible action is an element of the group.
  pub member_of_action : (f g : BlockMap) (F : Action s f) → Action s g → (d : ℕ) → F.depth ≤ d → Mutual s f g → Member s (normal_form s d f)
  member_of_action f g F G d h m =
      let E = normal_form_element s f g F G d n h m in
      record { element = E; own = keep_is (normal_form s d f) E f F d (suc F.depth) h (same_normal_form f F d h) }

  -- Two elements that do the same to every long word are one table.
  pub member_path : (a b : Table) → Member s a → Member s b → (k : ℕ) → Same s k (image a) (image b) → a ≡ b
  member_path a b A B k same =
      sym A.own
      ∙ keep_is a A.element (image b) (action b B.element) (longest (froms b)) k (action_depth b B.element) same
      ∙ sym (keep_is b B.element (image b) (action b B.element) (longest (froms b)) 0 (action_depth b B.element) (λ w y l. refl))
      ∙ B.own

  pub keep_acts : (t : Table) → Element s t → (w v : Word) → IsWord s w → image t w ≡ some v → image (keep s t) w ≡ some v
  unfolding keep
  keep_acts t E w v y e = image_normal_form s (image t) (action t E) (longest (froms t)) (action_depth t E) w v y e

  pub keep_member : (t : Table) → Element s t → Member s (keep s t)
  unfolding keep
  keep_member t E =
      member_of_action (image t) (image (swapped t)) (action t E) (action (swapped t) (element_swapped s t E)) (longest (froms t)) (action_depth t E) (element_mutual s t E)

  -- the composition of two tables, as one action after the other
  both : (a b : Table) → Element s a → Element s b → (F : Action s (and_then (image a) (image b))) × (F.depth ≤ longest (froms a) + longest (froms b))
  both a b A B =
      let (F, p) = element_action s a n A in
      let (G, q) = element_action s b n B in
      let (H, r) = and_then_action s (image a) (image b) F G in
      (H, le_of_eq (r ∙ ap₂ ◌+◌ p q))

  pub compose_acts : (a b : Table) → Element s a → Element s b → (w v : Word) → IsWord s w → and_then (image a) (image b) w ≡ some v → image (compose s a b) w ≡ some v
  unfolding compose
  compose_acts a b A B w v y e =
      image_normal_form s (and_then (image a) (image b)) (both a b A B).0 (longest (froms a) + longest (froms b)) (both a b A B).1 w v y e

  pub compose_member : (a b : Table) → Element s a → Element s b → Member s (compose s a b)
  unfolding compose
  compose_member a b A B =
      member_of_action
      (and_then (image a) (image b))
      (and_then (image (swapped b)) (image (swapped a)))
      (both a b A B).0
      (and_then_action s (image (swapped b)) (image (swapped a)) (action (swapped b) (element_swapped s b B)) (action (swapped a) (element_swapped s a A))).0
      (longest (froms a) + longest (froms b))
      (both a b A B).1
      (and_then_mutual s (image a) (image b) (image (swapped a)) (image (swapped b)) (action a A) (action (swapped b) (element_swapped s b B)) (element_mutual s a A) (element_mutual s b B))

  pub inverse_member : (a : Table) → Element s a → Member s (inverse s a)
  unfolding inverse
  inverse_member a A = keep_member (swapped a) (element_swapped s a A)

  pub inverse_acts : (a : Table) → Element s a → (w v : Word) → IsWord s w → image a w ≡ some v → image (inverse s a) v ≡ some w
  unfolding inverse
  inverse_acts a A w v y e =
      keep_acts (swapped a) (element_swapped s a A) v w ((action a A).words w v y e) ((element_mutual s a A).undo w v y e)

  pub identity_member : Member s (identity s)
  unfolding nothing
  identity_member =
      subst (Member s) (sym (identity_is s))
      (member_of_action (λ w. some w) (λ w. some w) (nothing s) (nothing s) 0 zero-le
      (record { undo = λ w v y e. sym e; redo = λ w v y e. sym e }))

  -- repetitions: elements, which act so many times in a row
  pub repeated_element : (a : Table) → Element s a → (k : ℕ) → Element s (repeated s a k)
  unfolding repeated
  repeated_element a A zero = identity_member.element
  repeated_element a A (suc k) = (compose_member (repeated s a k) a (repeated_element a A k) A).element

  pub repeated_acts : (a : Table) → Element s a → (k : ℕ) (w v : Word) → IsWord s w → times k (image a) w ≡ some v → image (repeated s a k) w ≡ some v
  unfolding repeated
  repeated_acts a A zero w v y e = identity_acts s w y ∙ e
  repeated_acts a A (suc k) w v y e =
      let (u, p, q) = and_then_cases (times k (image a)) (image a) w v e in
      compose_acts (repeated s a k) a (repeated_element a A k) A w v y (and_then_some (image (repeated s a k)) (image a) w u (repeated_acts a A k w u y p) ∙ q)

  -- two members with the same action wherever a third map, total on long words, is defined
  pub by_common : (a b : Table) → Member s a → Member s b → (f : BlockMap) (F : Action s f) → ((w v : Word) → IsWord s w → f w ≡ some v → (image a w ≡ some v) × (image b w ≡ some v)) → a ≡ b
  by_common a b A B f F h =
      member_path a b A B (suc F.depth) (λ w y l. let (v, e) = F.total w y l in let (p, q) = h w v y e in p ∙ sym q)

  -- (a then b) then c is a then (b then c)
  pub compose_assoc : (a b c : Table) → Member s a → Member s b → Member s c → compose s (compose s a b) c ≡ compose s a (compose s b c)
  compose_assoc a b c A B C =
      let AB = compose_member a b A.element B.element in
      let BC = compose_member b c B.element C.element in
      by_common
      (compose s (compose s a b) c)
      (compose s a (compose s b c))
      (compose_member (compose s a b) c AB.element C.element)
      (compose_member a (compose s b c) A.element BC.element)
      (and_then (and_then (image a) (image b)) (image c))
      (and_then_action s (and_then (image a) (image b)) (image c) (both a b A.element B.element).0 (action c C.element)).0
      (λ w t y e.
      let (u, p, q) = and_then_cases (and_then (image a) (image b)) (image c) w t e in
      let (v, p₁, p₂) = and_then_cases (image a) (image b) w u p in
      let yv = (action a A.element).words w v y p₁ in (
        compose_acts (compose s a b) c AB.element C.element w t y (and_then_some (image (compose s a b)) (image c) w u (compose_acts a b A.element B.element w u y p) ∙ q),
        compose_acts a (compose s b c) A.element BC.element w t y (and_then_some (image a) (image (compose s b c)) w v p₁ ∙ compose_acts b c B.element C.element v t yv (and_then_some (image b) (image c) v u p₂ ∙ q)),
      ))

  pub compose_identity_left : (a : Table) → Member s a → compose s (identity s) a ≡ a
  compose_identity_left a A =
      let I = identity_member in
      by_common (compose s (identity s) a) a (compose_member (identity s) a I.element A.element) A (image a) (action a A.element)
      (λ w v y e.
      let composed = and_then_some (image (identity s)) (image a) w w (identity_acts s w y) ∙ e in
      (compose_acts (identity s) a I.element A.element w v y composed, e))

  pub compose_identity_right : (a : Table) → Member s a → compose s a (identity s) ≡ a
  compose_identity_right a A =
      let I = identity_member in
      by_common (compose s a (identity s)) a (compose_member a (identity s) A.element I.element) A (image a) (action a A.element)
      (λ w v y e.
      let composed = and_then_some (image a) (image (identity s)) w v e ∙ identity_acts s v ((action a A.element).words w v y e) in
      (compose_acts a (identity s) A.element I.element w v y composed, e))

  pub compose_inverse_right : (a : Table) → Member s a → compose s a (inverse s a) ≡ identity s
  compose_inverse_right a A =
      let A⁻ = inverse_member a A.element in
      member_path (compose s a (inverse s a)) (identity s) (compose_member a (inverse s a) A.element A⁻.element) identity_member (suc (action a A.element).depth)
      (λ w y l.
      let (v, e) = (action a A.element).total w y l in
      compose_acts a (inverse s a) A.element A⁻.element w w y (and_then_some (image a) (image (inverse s a)) w v e ∙ inverse_acts a A.element w v y e)
      ∙ sym (identity_acts s w y))

  pub compose_inverse_left : (a : Table) → Member s a → compose s (inverse s a) a ≡ identity s
  unfolding inverse
  compose_inverse_left a A =
      let A⁻ = inverse_member a A.element in
      let S = element_swapped s a A.element in
      member_path (compose s (inverse s a) a) (identity s) (compose_member (inverse s a) a A⁻.element A.element) identity_member (suc (action (swapped a) S).depth)
      (λ w y l.
      let (v, e) = (action (swapped a) S).total w y l in
      compose_acts (inverse s a) a A⁻.element A.element w w y (and_then_some (image (inverse s a)) (image a) w v (keep_acts (swapped a) S w v y e) ∙ (element_mutual s a A.element).redo w v y e)
      ∙ sym (identity_acts s w y))
