-- The plans are the elements of G(n,r), the group of automorphisms of V(n,r) (document 004, Definition 4.2): `PlansAreAutomorphisms`,
-- with its term in proofs/Automorphisms.antt. First the tables of any size, then what F, I and K answer. Read Cases.antt next.
use Rattle.std.specs.Prelude.{◌≤◌, ◌≡◌, ◌↔◌, T, ℤ}
use mathlib.Core.HLevel.{Discrete}
use Rattle.std.proofs.Math.Option.{some}
use Rattle.higman.specs.Words.{Shape}
use Rattle.higman.specs.Tables.{Table, image}
use Rattle.higman.specs.Normal.{keep, compose, inverse, identity, power}
use Rattle.higman.specs.Limits.{Plan, Bases, Kept, shape_in_range, granted}
use Rattle.higman.specs.Answers.{Granted, grant, followed, inverted, powered}
use Rattle.higman.specs.Theorems.{ReducedPlan}
use Rattle.higman.specs.Algebras.{Way, Homomorphism, Free, Isomorphism, Automorphism, power_map, Code, spell_code, value}
use Rattle.higman.specs.StandardForms.{Form}

-- The homomorphism sends the block of a word where the table sends it, as in Example 4.1: "xα_1²ψ = xα_1, xα_1α_2ψ = xα_2α_1".
abbrev pub Extends : (s : Shape) (F : Free s) → Table → Homomorphism s.arity F.algebra F.algebra → Type 0
Extends s F t h = (c d : Code s) → image t (spell_code c) ≡ some (spell_code d) → h.to (value F c) ≡ value F d

-- The tables of a shape and the automorphisms of an algebra that is free on its roots.
pub record TablesAreAutomorphisms (s : Shape) (F : Free s) : Type 0 where
  -- a table gives an automorphism, the only homomorphism that extends the table
  pub of : (t : Table) → Bases s t → Automorphism s F
  pub extends : (t : Table) (b : Bases s t) → Extends s F t (of t b).there
  pub only : (t : Table) (b : Bases s t) (h : Homomorphism s.arity F.algebra F.algebra)
      → Extends s F t h → (y : F.algebra.Element) → h.to y ≡ (of t b).there.to y
  -- "reduce and keep", "a then b" which applies a first, the inverse, the identity and the powers
  pub kept : (t : Table) (b : Bases s t) (k : Bases s (keep s t)) (y : F.algebra.Element)
      → (of (keep s t) k).there.to y ≡ (of t b).there.to y
  pub composed : (a b : Table) (A : Bases s a) (B : Bases s b) (C : Bases s (compose s a b)) (y : F.algebra.Element)
      → (of (compose s a b) C).there.to y ≡ (of b B).there.to ((of a A).there.to y)
  pub inverted_back : (a : Table) (A : Bases s a) (B : Bases s (inverse s a)) (y : F.algebra.Element)
      → (of (inverse s a) B).there.to y ≡ (of a A).back.to y
  pub fixed : (I : Bases s (identity s)) (y : F.algebra.Element) → (of (identity s) I).there.to y ≡ y
  pub raised : (a : Table) (A : Bases s a) (k : ℤ) (B : Bases s (power s a k)) (y : F.algebra.Element)
      → (of (power s a k) B).there.to y ≡ power_map F (of a A) k y
  -- two reduced plans give one automorphism exactly when they are equal
  pub faithful : (a b : Table) (A : ReducedPlan s a) (B : ReducedPlan s b)
      → ((y : F.algebra.Element) → (of a A.bases).there.to y ≡ (of b B.bases).there.to y) ↔ (a ≡ b)
  -- every automorphism comes from one
  pub onto : (φ : Automorphism s F)
      → (t : Table) × (P : ReducedPlan s t) × ((y : F.algebra.Element) → (of t P.bases).there.to y ≡ φ.there.to y)

-- the automorphism of a reduced plan
abbrev pub element : {s : Shape} {F : Free s} → TablesAreAutomorphisms s F → {t : Table} → ReducedPlan s t → Automorphism s F
element G {t} P = G.of t P.bases

-- What F, I and K answer is said by the automorphisms alone. Let c be the reduced plan of the composition, the inverse or the power:
-- F keeps it if it is in the limits and says 11 if not, I keeps it, and K keeps it or says no.
pub record AnswersAreElements (s : Shape) (F : Free s) (G : TablesAreAutomorphisms s F) : Type 0 where
  pub followed_element : (a b c : Table) (A : ReducedPlan s a) (B : ReducedPlan s b) (C : ReducedPlan s c)
      → ((y : F.algebra.Element) → (element G C).there.to y ≡ (element G B).there.to ((element G A).there.to y))
      → followed (record { shape = s; rows = a }) (record { shape = s; rows = b }) ≡ grant s c
  pub inverted_element : (a c : Table) (A : ReducedPlan s a) (C : ReducedPlan s c)
      → ((y : F.algebra.Element) → (element G C).there.to y ≡ (element G A).back.to y)
      → inverted (record { shape = s; rows = a }) ≡ Granted (record { shape = s; rows = c })
  pub powered_element : (a c : Table) (k : ℤ) (A : ReducedPlan s a) (C : ReducedPlan s c)
      → ((y : F.algebra.Element) → (element G C).there.to y ≡ power_map F (element G A) k y)
      → (p : Plan) → powered (record { shape = s; rows = a }) k ≡ Granted p → p ≡ record { shape = s; rows = c }

-- V(n,r) exists: the standard forms are one, with an equality that can be decided, and there is no other. And G(n,r), its group of
-- automorphisms, is the group of the reduced plans, of which the kept plans are those in the limits.
pub record PlansAreAutomorphisms : Type 1 where
  pub free : (s : Shape) → 1 ≤ s.arity → Free s
  pub forms : (s : Shape) (n : 1 ≤ s.arity) → (free s n).algebra.Element ≡ Form s
  pub forms_decided : (s : Shape) → Discrete (Form s)
  -- two algebras free on the roots are isomorphic, generator to generator
  pub one_free : (s : Shape) (F G : Free s)
      → (i : Isomorphism s.arity F.algebra G.algebra) × ((a : Way s.roots) → i.there.to (F.generator a) ≡ G.generator a)
  pub kept_plan : (p : Plan)
      → Kept p ↔ (T (shape_in_range p.shape) × T (granted p.rows) × ReducedPlan p.shape p.rows)
  -- the reduced plans are closed under the operations of the group
  pub keep_plan : (s : Shape) → 1 ≤ s.arity → (t : Table) → Bases s t → ReducedPlan s (keep s t)
  pub compose_plan : (s : Shape) → 1 ≤ s.arity → (a b : Table) → Bases s a → Bases s b → ReducedPlan s (compose s a b)
  pub inverse_plan : (s : Shape) → 1 ≤ s.arity → (a : Table) → Bases s a → ReducedPlan s (inverse s a)
  pub identity_plan_lem : (s : Shape) → 1 ≤ s.arity → ReducedPlan s (identity s)
  pub power_plan : (s : Shape) → 1 ≤ s.arity → (a : Table) → Bases s a → (k : ℤ) → ReducedPlan s (power s a k)
  -- and are the automorphisms, whichever free algebra is taken
  pub tables : (s : Shape) → 1 ≤ s.arity → (F : Free s) → TablesAreAutomorphisms s F
  pub answers : (s : Shape) (n : 1 ≤ s.arity) (F : Free s) → AnswersAreElements s F (tables s n F)
