-- Homomorphisms of a free algebra to itself as maps on blocks. Whatever the free algebra, its elements have standard forms; so an
-- endomorphism gives an action, which says of words just what the endomorphism does.
use Prim.Native.Nat.{ℕ, ◌≤◌}
use mathlib.Core.Path.{◌≡◌, sym, ◌∙◌, ap, subst}
use mathlib.Core.List.{[], ◌∷◌, ◌++◌}
use mathlib.Core.Option.{none, some, none-ne-some}
use native.Mathlib.Omega.{arith}
use lib.ListN.{length}
use Rattle.higman.specs.Words.{Shape, Word, is_digit}
use Rattle.higman.specs.Tables.{BlockMap}
use Rattle.higman.specs.Algebras.{Way, Code, Homomorphism, Free, spell_ways, spell_code, along, value}
use Rattle.higman.specs.StandardForms.{leaf, Form}
use Rattle.higman.proofs.Tests.{IsWord}
use Rattle.higman.proofs.Maps.{Steady}
use Rattle.higman.proofs.Actions.{Action}
use Rattle.higman.proofs.Codes.{spell_injective, word_of_code, code_of_word, length_spell, bound_of_ways}
use Rattle.higman.proofs.Algebras.{to_along, identity_homomorphism, homomorphisms_in_turn}
use Rattle.higman.proofs.StandardForms.{form_path, leaf_injective}
use Rattle.higman.proofs.FormAlgebra.{forms, along_leaf}
use Rattle.higman.proofs.FreeForms.{root_form, from_forms}
use Rattle.higman.proofs.Readings.{when_passed, when_passed_lem, when_some, word_of, word_of_some}
use Rattle.higman.proofs.Readings.{read, read_steady, read_spell, words_below}

module _ (s : Shape) (n : 1 ≤ s.arity) (F : Free s) where
  -- the elements of the free algebra by their standard forms, and back
  form_of : Homomorphism s.arity F.algebra (forms s n)
  form_of = (F.extend (forms s n) (root_form s)).0

  of_form : Homomorphism s.arity (forms s n) F.algebra
  of_form = (from_forms s n F.algebra F.generator).0

  form_of_value : (c : Code s) → form_of.to (value F c) ≡ (leaf c, tt)
  unfolding form_of
  form_of_value c =
      to_along s.arity F.algebra (forms s n) form_of c.ways (F.generator c.belt)
      ∙ ap (along (forms s n) c.ways) ((F.extend (forms s n) (root_form s)).1 c.belt)
      ∙ along_leaf s n c.ways (record { belt = c.belt; ways = [] })

  form_and_back : (y : F.algebra.Element) → of_form.to (form_of.to y) ≡ y
  unfolding form_of of_form
  form_and_back =
      F.unique F.algebra
      (homomorphisms_in_turn s.arity F.algebra (forms s n) form_of F.algebra of_form)
      (identity_homomorphism s.arity F.algebra)
      (λ a. ap of_form.to ((F.extend (forms s n) (root_form s)).1 a) ∙ (from_forms s n F.algebra F.generator).1 a)

  form_injective : (y z : F.algebra.Element) → form_of.to y ≡ form_of.to z → y ≡ z
  form_injective y z e = sym (form_and_back y) ∙ ap of_form.to e ∙ form_and_back z

  -- words are equal in a free algebra only where they are one word
  pub value_injective : (c d : Code s) → value F c ≡ value F d → c ≡ d
  value_injective c d e = leaf_injective (ap (λ (y : Form s). y.0) (sym (form_of_value c) ∙ ap form_of.to e ∙ form_of_value d))

  module _ (φ : Homomorphism s.arity F.algebra F.algebra) where
    -- the form that a generator goes to
    form_at : Way s.roots → Form s
    form_at a = form_of.to (φ.to (F.generator a))

    pub blocks : BlockMap
    blocks [] = none
    blocks (a ∷ x) = when_passed (is_digit s.roots a) (λ d. read (form_at (record { number = a; counts = d })).0 x)

    form_along : (c : Code s) → along (forms s n) c.ways (form_at c.belt) ≡ form_of.to (φ.to (value F c))
    unfolding form_at
    form_along c =
        let h = homomorphisms_in_turn s.arity F.algebra F.algebra φ (forms s n) form_of in
        sym (to_along s.arity F.algebra (forms s n) h c.ways (F.generator c.belt))

    blocks_spell : (c : Code s) → blocks (spell_code c) ≡ word_of (form_of.to (φ.to (value F c))).0
    unfolding blocks
    blocks_spell c =
        when_passed_lem (is_digit s.roots c.belt.number) c.belt.counts
        (λ d. read (form_at (record { number = c.belt.number; counts = d })).0 (spell_ways c.ways))
        ∙ read_spell s n (form_at c.belt).0 (form_at c.belt).1 c.ways
        ∙ ap (λ (y : Form s). word_of y.0) (form_along c)

    -- a word goes to a word
    pub blocks_code : (c : Code s) (v : Word) → blocks (spell_code c) ≡ some v → (d : Code s) × (spell_code d ≡ v)
    blocks_code c v e = let (d, p, q) = word_of_some (form_of.to (φ.to (value F c))).0 v (sym (blocks_spell c) ∙ e) in (d, q)

    -- The map on blocks says what the homomorphism does to words, and nothing else.
    pub blocks_follow : (c d : Code s) → blocks (spell_code c) ≡ some (spell_code d) → φ.to (value F c) ≡ value F d
    blocks_follow c d e =
        let (b, p, q) = word_of_some (form_of.to (φ.to (value F c))).0 (spell_code d) (sym (blocks_spell c) ∙ e) in
        form_injective (φ.to (value F c)) (value F d)
        (form_path (p ∙ ap leaf (spell_injective b d q)) ∙ sym (form_of_value d))

    pub blocks_of_lem : (c d : Code s) → φ.to (value F c) ≡ value F d → blocks (spell_code c) ≡ some (spell_code d)
    blocks_of_lem c d e = blocks_spell c ∙ ap (λ (y : Form s). word_of y.0) (ap form_of.to e ∙ form_of_value d)

    -- far enough below the belts the images of words are words
    words_deep : (b : ℕ) × ((a : Way s.roots) → (words_below s n (form_at a).0 (form_at a).1).0 ≤ b)
    words_deep = bound_of_ways s.roots (λ a. (words_below s n (form_at a).0 (form_at a).1).0)

    blocks_total : (c : Code s) → words_deep.0 ≤ length c.ways → (d : Code s) × (blocks (spell_code c) ≡ some (spell_code d))
    blocks_total c l =
        let (d, e) = (words_below s n (form_at c.belt).0 (form_at c.belt).1).1 c.ways (omega (arith, words_deep.1 c.belt)) in
        (d, blocks_spell c ∙ ap (λ (y : Form s). word_of y.0) (sym (form_along c)) ∙ ap word_of e)

    blocks_steady : Steady blocks
    unfolding blocks
    blocks_steady [] v x e = absurd (none-ne-some v e)
    blocks_steady (a ∷ w) v x e =
        when_some (is_digit s.roots a)
        (λ d. read (form_at (record { number = a; counts = d })).0 w)
        (λ d. read (form_at (record { number = a; counts = d })).0 (w ++ x))
        v (v ++ x)
        (λ d q. read_steady (form_at (record { number = a; counts = d })).0 w v x q)
        e

    -- THE ACTION of an endomorphism on blocks
    pub blocks_action : Action s blocks
    blocks_action =
        record {
          steady = blocks_steady;
          words = λ w v y e.
              let (c, p) = code_of_word s w y in
              let (d, q) = blocks_code c v (ap blocks p ∙ e) in
              subst (IsWord s) q (word_of_code d);
          depth = words_deep.0;
          total = λ w y l.
              let (c, p) = code_of_word s w y in
              let (d, e) = blocks_total c (omega (arith, length_spell c.ways, ap length p)) in
              (spell_code d, ap blocks (sym p) ∙ e);
        }
