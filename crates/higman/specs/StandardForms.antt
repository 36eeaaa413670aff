-- Higman's standard forms (document 004, Remark 3.3): the elements of V(n,r), each written in one way. Read Automorphisms.antt next.
use Rattle.std.specs.Prelude.{◌≡◌, refl, [], ◌∷◌, ◌++◌}
use Rattle.higman.specs.Words.{Shape}
use Rattle.higman.specs.Algebras.{Way, Code, spell_code}

-- "(i) xα_i1 .. α_ik", a word of at least a belt, or "(ii) w_1 .. w_nλ", n trees under a λ
pub data Tree (s : Shape) : Type 0 where
  leaf : Code s → Tree s
  node : (Way s.arity → Tree s) → Tree s

-- the i-th part of a word
abbrev pub part_code : {s : Shape} → Code s → Way s.arity → Code s
part_code c i = record { belt = c.belt; ways = c.ways ++ i ∷ [] }

-- the trees are the n parts of one word, in order
abbrev pub Parts : (s : Shape) → (Way s.arity → Tree s) → Type 0
Parts s k = (c : Code s) × ((i : Way s.arity) → k i ≡ leaf (part_code c i))

-- "If w_1, .., w_n are standard forms then so is w_1 .. w_nλ, unless there is a standard form u such that w_i = uα_i". (A u under a λ
-- has these trees for its parts only if it is this λ of them: so it is words that are meant.)
abbrev pub Standard : (s : Shape) → Tree s → Type 0
Standard s (leaf c) = Unit {0}
Standard s (node k) = ((i : Way s.arity) → Standard s (k i)) × (Parts s k → ⊥)

abbrev pub Form : Shape → Type 0
Form s = (t : Tree s) × Standard s t

-- the words 11 and 12, which are the parts of 1
abbrev shape21 : Shape
shape21 = record { arity = 2; roots = 1 }

abbrev belt1 : Code shape21
belt1 = record { belt = record { number = 1; counts = tt }; ways = [] }

part_code_example : (i : Way 2) → spell_code (part_code belt1 i) ≡ 1 ∷ i.number ∷ []
part_code_example i = refl

parts_example : Parts shape21 (λ i. leaf (part_code belt1 i))
parts_example = (belt1, λ i. refl)

-- so a λ of them is no standard form: it is 1 itself
not_standard_example : Standard shape21 (node (λ i. leaf (part_code belt1 i))) → ⊥
not_standard_example h = h.1 parts_example
