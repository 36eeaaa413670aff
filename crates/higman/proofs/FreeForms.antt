-- The standard forms are free on the roots (document 004, Lemma 3.4): a form is evaluated in any algebra from the values of the
-- roots, and a homomorphism can do nothing else.
use Prim.Native.Nat.{◌≤◌}
use mathlib.Core.Path.{◌≡◌, refl, sym, ◌∙◌, ap, fun_ext}
use mathlib.Core.List.{[], ◌∷◌}
use Rattle.higman.specs.Words.{Shape}
use Rattle.higman.specs.Algebras.{Way, Code, Algebra, Homomorphism, Free, along}
use Rattle.higman.specs.StandardForms.{Tree, leaf, node, Parts, Standard, Form}
use Rattle.higman.proofs.Algebras.{along_append, to_along}
use Rattle.higman.proofs.StandardForms.{part_tree, unite_with, parts_decided, unite_form}
use Rattle.higman.proofs.FormAlgebra.{node_united, forms, along_leaf}

abbrev pub root_form : (s : Shape) → Way s.roots → Form s
root_form s a = (leaf (record { belt = a; ways = [] }), tt)

module _ (s : Shape) (n : 1 ≤ s.arity) (B : Algebra s.arity) where
  module _ (g : Way s.roots → B.Element) where
    -- a word along its ways, a node by the algebra's λ
    evaluated : Tree s → B.Element
    evaluated (leaf c) = along B c.ways (g c.belt)
    evaluated (node k) = B.unite (λ i. evaluated (k i))

    evaluated_part : (i : Way s.arity) (t : Tree s) (h : Standard s t) → evaluated (part_tree s i t h).0 ≡ B.part i (evaluated t)
    unfolding part_tree evaluated
    evaluated_part i (leaf c) h = along_append s.arity B c.ways (i ∷ []) (g c.belt)
    evaluated_part i (node k) h = sym (B.part_unite (λ j. evaluated (k j)) i)

    evaluated_unite : (y : Way s.arity → Form s) → evaluated (unite_form s n y).0 ≡ B.unite (λ i. evaluated (y i).0)
    unfolding unite_with evaluated
    evaluated_unite y = go (parts_decided s n (λ i. (y i).0))
      where
        go : (d : Dec (Parts s (λ i. (y i).0))) → evaluated (unite_with s y d).0 ≡ B.unite (λ i. evaluated (y i).0)
        go (no h) = refl
        go (yes (c, p)) =
            sym (B.unite_parts (evaluated (leaf c)))
            ∙ ap B.unite (fun_ext (λ i. sym (along_append s.arity B c.ways (i ∷ []) (g c.belt)) ∙ ap evaluated (sym (p i))))

    evaluation : Homomorphism s.arity (forms s n) B
    evaluation = record { to = λ y. evaluated y.0; on_part = λ i y. evaluated_part i y.0 y.1; on_unite = evaluated_unite }

    evaluation_root : (a : Way s.roots) → evaluation.to (root_form s a) ≡ g a
    unfolding evaluation evaluated
    evaluation_root a = refl

  module _ (f g : Homomorphism s.arity (forms s n) B) (e : (a : Way s.roots) → f.to (root_form s a) ≡ g.to (root_form s a)) where
    -- a word is reached from its root along its ways
    same_on_leaf : (c : Code s) → f.to (leaf c, tt) ≡ g.to (leaf c, tt)
    same_on_leaf c =
        let r = along_leaf s n c.ways (record { belt = c.belt; ways = [] }) in
        ap f.to (sym r)
        ∙ to_along s.arity (forms s n) B f c.ways (root_form s c.belt)
        ∙ ap (along B c.ways) (e c.belt)
        ∙ sym (to_along s.arity (forms s n) B g c.ways (root_form s c.belt))
        ∙ ap g.to r

    same_on_forms : (t : Tree s) (h : Standard s t) → f.to (t, h) ≡ g.to (t, h)
    same_on_forms (leaf c) h = same_on_leaf c
    same_on_forms (node k) h =
        ap f.to (sym (node_united s n k h))
        ∙ f.on_unite (λ i. (k i, h.0 i))
        ∙ ap B.unite (fun_ext (λ i. same_on_forms (k i) (h.0 i)))
        ∙ sym (g.on_unite (λ i. (k i, h.0 i)))
        ∙ ap g.to (node_united s n k h)

-- LEMMA 3.4: the standard forms are free on the roots.
pub standard_forms : (s : Shape) → 1 ≤ s.arity → Free s
standard_forms s n =
    record {
      algebra = forms s n;
      generator = root_form s;
      extend = λ B g. (evaluation s n B g, evaluation_root s n B g);
      unique = λ B f g e y. same_on_forms s n B f g e y.0 y.1;
    }

pub standard_elements : (s : Shape) (n : 1 ≤ s.arity) → (standard_forms s n).algebra.Element ≡ Form s
unfolding standard_forms
standard_elements s n = refl

-- the homomorphism that takes the roots to given elements
pub from_forms : (s : Shape) (n : 1 ≤ s.arity) (B : Algebra s.arity) (g : Way s.roots → B.Element)
    → (h : Homomorphism s.arity (forms s n) B) × ((a : Way s.roots) → h.to (root_form s a) ≡ g a)
from_forms s n B g = (evaluation s n B g, evaluation_root s n B g)
