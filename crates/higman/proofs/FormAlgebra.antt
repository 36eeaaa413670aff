-- The standard forms as an algebra: the operations satisfy the two laws.
use Prim.Native.Nat.{◌≤◌}
use mathlib.Core.Path.{◌≡◌, refl, sym, ◌∙◌, ap}
use mathlib.Core.List.{List, [], ◌∷◌, append-nil, append_assoc}
use Rattle.higman.specs.Words.{Shape}
use Rattle.higman.specs.Algebras.{Way, Code, Algebra, along}
use Rattle.higman.specs.StandardForms.{Tree, leaf, node, part_code, Parts, Standard, Form}
use Rattle.higman.proofs.Codes.{code_path, further}
use Rattle.higman.proofs.StandardForms.{leaf_injective, form_path, part_injective, part_tree, unite_with, first_way, parts_decided, unite_form}

module _ (s : Shape) (n : 1 ≤ s.arity) where
  -- a standard form under a λ is what the operation gives
  pub node_united : (k : Way s.arity → Tree s) (h : Standard s (node k)) → unite_form s n (λ i. (k i, h.0 i)) ≡ (node k, h)
  unfolding unite_with
  node_united k h = go (parts_decided s n k)
    where
      go : (d : Dec (Parts s k)) → unite_with s (λ i. (k i, h.0 i)) d ≡ (node k, h)
      go (yes p) = absurd (h.1 p)
      go (no q) = form_path refl

  pub unite_parts : (y : Form s) → unite_form s n (λ i. part_tree s i y.0 y.1) ≡ y
  unfolding unite_with part_tree
  unite_parts (t, h) = at t h
    where
      at : (t : Tree s) (h : Standard s t) → unite_form s n (λ i. part_tree s i t h) ≡ (t, h)
      at (node k) h = node_united k h
      at (leaf c) h = go (parts_decided s n (λ i. leaf (part_code c i)))
        where
          go : (d : Dec (Parts s (λ i. leaf (part_code c i)))) → unite_with s (λ i. part_tree s i (leaf c) h) d ≡ (leaf c, h)
          go (yes p) = form_path (ap leaf (part_injective p.0 c (first_way s n) (first_way s n) (leaf_injective (sym (p.1 (first_way s n))))))
          go (no k) = absurd (k (c, λ i. refl))

  pub part_unite : (y : Way s.arity → Form s) (i : Way s.arity) → part_tree s i (unite_form s n y).0 (unite_form s n y).1 ≡ y i
  unfolding unite_with part_tree
  part_unite y i = go (parts_decided s n (λ j. (y j).0))
    where
      go : (d : Dec (Parts s (λ j. (y j).0))) → part_tree s i (unite_with s y d).0 (unite_with s y d).1 ≡ y i
      go (yes p) = form_path (sym (p.1 i))
      go (no h) = form_path refl

  -- THE ALGEBRA of the standard forms
  abbrev pub forms : Algebra s.arity
  forms =
      record {
        Element = Form s;
        part = λ i y. part_tree s i y.0 y.1;
        unite = unite_form s n;
        unite_parts = unite_parts;
        part_unite = part_unite;
      }

  -- below a word there are words
  pub along_leaf : (x : List (Way s.arity)) (c : Code s) → along forms x (leaf c, tt) ≡ (leaf (further c x), tt)
  unfolding part_tree
  along_leaf [] c = form_path (ap leaf (code_path refl (sym (append-nil c.ways))))
  along_leaf (i ∷ x) c = along_leaf x (part_code c i) ∙ form_path (ap leaf (code_path refl (append_assoc c.ways (i ∷ []) x)))
