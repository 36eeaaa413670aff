-- The standard forms as trees: whether n trees are the parts of one word can be decided, so the operations can be computed. Their equality
-- can be decided.
use Prim.Native.Nat.{◌≤◌}
use mathlib.Core.Path.{◌≡◌, refl, sym, ◌∙◌, ap, ap₂, subst, fun_ext}
use mathlib.Core.Logic.{◌⊎◌, inl, inr}
use mathlib.Core.HLevel.{Discrete, Unit-prop, ×_prop, Π_prop, ¬_prop, Σ_prop_path, Σ_prop_discrete}
use mathlib.Core.List.{List, [], ◌∷◌, ◌++◌, concat-ne-nil}
use mathlib.Core.List.{head-eq_of_cons-eq, tail-eq_of_cons-eq}
use native.Mathlib.Nat.{le_refl}
use Rattle.higman.specs.Words.{Shape}
use Rattle.higman.specs.Algebras.{Way, Code}
use Rattle.higman.specs.StandardForms.{Tree, leaf, node, part_code, Parts, Standard, Form}
use Rattle.higman.proofs.Codes.{way_of_digit, code_path, code_discrete, decided_at_all}

abbrev is_leaf : {s : Shape} → Tree s → Type 0
is_leaf (leaf c) = Unit {0}
is_leaf (node k) = ⊥

abbrev code_or : {s : Shape} → Code s → Tree s → Code s
code_or d (leaf c) = c
code_or d (node k) = d

abbrev branches : {s : Shape} → (Way s.arity → Tree s) → Tree s → Way s.arity → Tree s
branches h (leaf c) = h
branches h (node k) = k

pub leaf_injective : {s : Shape} {c d : Code s} → leaf c ≡ leaf d → c ≡ d
leaf_injective {s} {c} {d} e = ap (code_or c) e

leaf_not_node : {s : Shape} {c : Code s} {k : Way s.arity → Tree s} → leaf c ≡ node k → ⊥
leaf_not_node e = subst is_leaf e tt

standard_prop : (s : Shape) (t : Tree s) → IsProp (Standard s t)
standard_prop s (leaf c) = Unit-prop
standard_prop s (node k) = ×_prop (Π_prop (λ i. standard_prop s (k i))) ¬_prop

tree_discrete : (s : Shape) → Discrete (Tree s)
tree_discrete s (leaf c) (leaf d) = go (code_discrete s c d)
  where
    go : Dec (c ≡ d) → Dec (leaf c ≡ leaf d)
    go (yes e) = yes (ap leaf e)
    go (no h) = no (λ e. h (leaf_injective e))
tree_discrete s (leaf c) (node k) = no leaf_not_node
tree_discrete s (node k) (leaf c) = no (λ e. leaf_not_node (sym e))
tree_discrete s (node k) (node h) = go (decided_at_all s.arity (λ i. k i ≡ h i) (λ i. tree_discrete s (k i) (h i)))
  where
    go : Dec ((i : Way s.arity) → k i ≡ h i) → Dec (node k ≡ node h)
    go (yes e) = yes (ap node (fun_ext e))
    go (no g) = no (λ e. g (λ i. ap (λ t. branches k t i) e))

-- a standard form is its tree
pub form_path : {s : Shape} {x y : Form s} → x.0 ≡ y.0 → x ≡ y
form_path {s} e = Σ_prop_path (standard_prop s) e

pub form_discrete : (s : Shape) → Discrete (Form s)
form_discrete s = Σ_prop_discrete (standard_prop s) (tree_discrete s)

-- a list is empty, or has a last element
last_or_empty : {A : Type 0} (l : List A) → (l ≡ []) ⊎ ((x : List A) × (a : A) × (l ≡ x ++ a ∷ []))
last_or_empty [] = inl refl
last_or_empty {A} (b ∷ l) = go (last_or_empty l)
  where
    go : (l ≡ []) ⊎ ((x : List A) × (a : A) × (l ≡ x ++ a ∷ [])) → (b ∷ l ≡ []) ⊎ ((x : List A) × (a : A) × (b ∷ l ≡ x ++ a ∷ []))
    go (inl e) = inr ([], b, ap (λ z. b ∷ z) e)
    go (inr (x, a, e)) = inr (b ∷ x, a, ap (λ z. b ∷ z) e)

init_path : {A : Type 0} (x y : List A) (a b : A) → x ++ a ∷ [] ≡ y ++ b ∷ [] → x ≡ y
init_path [] [] a b e = refl
init_path [] (d ∷ y) a b e = absurd (concat-ne-nil b y (sym (tail-eq_of_cons-eq e)))
init_path (c ∷ x) [] a b e = absurd (concat-ne-nil a x (tail-eq_of_cons-eq e))
init_path (c ∷ x) (d ∷ y) a b e = ap₂ ◌∷◌ (head-eq_of_cons-eq e) (init_path x y a b (tail-eq_of_cons-eq e))

-- words with one part in common are equal
pub part_injective : {s : Shape} (c d : Code s) (i j : Way s.arity) → part_code c i ≡ part_code d j → c ≡ d
part_injective {s} c d i j e =
    code_path (ap (λ (b : Code s). b.belt) e) (init_path c.ways d.ways i j (ap (λ (b : Code s). b.ways) e))

-- xα_i..α_jα_k, or the k-th of the trees
unfoldable pub part_tree : (s : Shape) → Way s.arity → (t : Tree s) → Standard s t → Form s
part_tree s i (leaf c) h = (leaf (part_code c i), tt)
part_tree s i (node k) h = (k i, h.0 i)

-- the word whose parts the trees are, or the trees under a λ
unfoldable pub unite_with : (s : Shape) (y : Way s.arity → Form s) → Dec (Parts s (λ i. (y i).0)) → Form s
unite_with s y (yes p) = (leaf p.0, tt)
unite_with s y (no h) = (node (λ i. (y i).0), (λ i. (y i).1, h))

module _ (s : Shape) (n : 1 ≤ s.arity) where
  pub first_way : Way s.arity
  first_way = way_of_digit s.arity 1 (le_refl 1, n)

  -- The word whose parts the trees are, if there is one: only the first tree's word without its last way can be it.
  pub parts_decided : (k : Way s.arity → Tree s) → Dec (Parts s k)
  parts_decided k = at (k first_way) refl
    where
      at : (t : Tree s) → k first_way ≡ t → Dec (Parts s k)
      at (node h) e = no (λ p. leaf_not_node (sym (p.1 first_way) ∙ e))
      at (leaf c) e = ending (last_or_empty c.ways)
        where
          part_of_first : (p : Parts s k) → part_code p.0 first_way ≡ c
          part_of_first p = leaf_injective (sym (p.1 first_way) ∙ e)

          ending : (c.ways ≡ []) ⊎ ((x : List (Way s.arity)) × (i : Way s.arity) × (c.ways ≡ x ++ i ∷ [])) → Dec (Parts s k)
          ending (inl q) = no (λ p. concat-ne-nil first_way p.0.ways (ap (λ (b : Code s). b.ways) (part_of_first p) ∙ q))
          ending (inr (x, i, q)) =
              all_parts (decided_at_all s.arity (λ j. k j ≡ leaf (part_code b j)) (λ j. tree_discrete s (k j) (leaf (part_code b j))))
            where
              b : Code s
              b = record { belt = c.belt; ways = x }

              only : (p : Parts s k) → p.0 ≡ b
              only p = part_injective p.0 b first_way i (part_of_first p ∙ code_path refl q)

              all_parts : Dec ((j : Way s.arity) → k j ≡ leaf (part_code b j)) → Dec (Parts s k)
              all_parts (yes p) = yes (b, p)
              all_parts (no h) = no (λ p. h (subst (λ (d : Code s). (j : Way s.arity) → k j ≡ leaf (part_code d j)) (only p) p.1))

  abbrev pub unite_form : (Way s.arity → Form s) → Form s
  unite_form y = unite_with s y (parts_decided (λ i. (y i).0))
