-- Elements of Higman's algebras, seen d ways below: an element is determined by what is there, and any choice of what is there has
-- an element above it. And homomorphisms: they go along the ways, and follow one another.
use Prim.Native.Nat.{ℕ, zero, suc}
use mathlib.Core.Path.{◌≡◌, refl, sym, ◌∙◌, ap, fun_ext}
use mathlib.Core.List.{List, [], ◌∷◌, ◌++◌}
use native.Mathlib.Omega.{arith}
use lib.ListN.{length}
use Rattle.higman.specs.Algebras.{Way, Algebra, Homomorphism, along}

module _ (n : ℕ) (A : Algebra n) where
  pub along_append : (x z : List (Way n)) (y : A.Element) → along A (x ++ z) y ≡ along A z (along A x y)
  along_append [] z y = refl
  along_append (i ∷ x) z y = along_append x z (A.part i y)

  -- elements with the same parts d ways below are equal
  pub equal_of_equal_below : (d : ℕ) (y z : A.Element) → ((x : List (Way n)) → length x ≡ d → along A x y ≡ along A x z) → y ≡ z
  equal_of_equal_below zero y z h = h [] refl
  equal_of_equal_below (suc d) y z h =
      sym (A.unite_parts y)
      ∙ ap A.unite (fun_ext (λ i. equal_of_equal_below d (A.part i y) (A.part i z) (λ x e. h (i ∷ x) (ap suc e))))
      ∙ A.unite_parts z

  -- the element whose parts d ways below are given
  pub element_above : (d : ℕ) → ((x : List (Way n)) → length x ≡ d → A.Element) → A.Element
  element_above zero f = f [] refl
  element_above (suc d) f = A.unite (λ i. element_above d (λ x e. f (i ∷ x) (ap suc e)))

  -- and these are its parts there, whatever proof of the length they were given with
  pub along_element_above : (d : ℕ) (f : (x : List (Way n)) → length x ≡ d → A.Element) (x : List (Way n)) → length x ≡ d
      → (e : length x ≡ d) × (along A x (element_above d f) ≡ f x e)
  unfolding element_above
  along_element_above zero f [] e = (refl, refl)
  along_element_above zero f (i ∷ x) e = absurd (omega arith)
  along_element_above (suc d) f [] e = absurd (omega arith)
  along_element_above (suc d) f (i ∷ x) e =
      let (e', p) = along_element_above d (λ z q. f (i ∷ z) (ap suc q)) x (omega arith) in
      (ap suc e', ap (along A x) (A.part_unite (λ j. element_above d (λ z q. f (j ∷ z) (ap suc q))) i) ∙ p)

  abbrev pub identity_homomorphism : Homomorphism n A A
  identity_homomorphism = record { to = λ y. y; on_part = λ i y. refl; on_unite = λ y. refl }

module _ (n : ℕ) (A B : Algebra n) (h : Homomorphism n A B) where
  pub to_along : (x : List (Way n)) (y : A.Element) → h.to (along A x y) ≡ along B x (h.to y)
  to_along [] y = refl
  to_along (i ∷ x) y = to_along x (A.part i y) ∙ ap (along B x) (h.on_part i y)

  -- one homomorphism and then another
  abbrev pub homomorphisms_in_turn : (C : Algebra n) → Homomorphism n B C → Homomorphism n A C
  homomorphisms_in_turn C k =
      record {
        to = λ y. k.to (h.to y);
        on_part = λ i y. ap k.to (h.on_part i y) ∙ k.on_part i (h.to y);
        on_unite = λ y. ap k.to (h.on_unite y) ∙ k.on_unite (λ i. h.to (y i));
      }
