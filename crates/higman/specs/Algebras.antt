-- Higman's algebras (document 004, section 3): their operations and laws, homomorphisms, the free ones and their automorphisms with
-- their powers, and words as elements of a free one. Read StandardForms.antt next.
use Rattle.std.specs.Prelude.{ℕ, zero, suc, ◌≡◌, refl, List, [], ◌∷◌, map, T, ℤ, pos, negsuc}
use Rattle.higman.specs.Words.{Shape, Word, is_digit, spell}

-- a number from 1 to n: a way of a switch, or a belt
pub record Way (n : ℕ) : Type 0 where
  pub number : ℕ
  pub counts : T (is_digit n number)

-- Definition 3.1: "descending operations α_1, .., α_n", here `part`, and the "contraction operation λ", here `unite`, with two laws.
-- The elements may be of any type of the first universe; nothing is asked of its equality.
pub record Algebra (n : ℕ) : Type 1 where
  pub Element : Type 0
  pub part : Way n → Element → Element
  pub unite : (Way n → Element) → Element
  -- "wα_1 .. wα_nλ = w"
  pub unite_parts : (w : Element) → unite (λ i. part i w) ≡ w
  -- "w_1 .. w_nλα_i = w_i"
  pub part_unite : (w : Way n → Element) (i : Way n) → part i (unite w) ≡ w i

-- a map that keeps the operations
pub record Homomorphism (n : ℕ) (A B : Algebra n) : Type 0 where
  pub to : A.Element → B.Element
  pub on_part : (i : Way n) (y : A.Element) → to (A.part i y) ≡ B.part i (to y)
  pub on_unite : (y : Way n → A.Element) → to (A.unite y) ≡ B.unite (λ i. to (y i))

-- Definition 3.2: V(n,r) "is the free 𝒱_n-algebra" on r generators. What these go to may be chosen at will, in any algebra, and decides
-- the homomorphism.
pub record Free (s : Shape) : Type 1 where
  pub algebra : Algebra s.arity
  pub generator : Way s.roots → algebra.Element
  pub extend : (B : Algebra s.arity) (g : Way s.roots → B.Element)
      → (h : Homomorphism s.arity algebra B) × ((a : Way s.roots) → h.to (generator a) ≡ g a)
  pub unique : (B : Algebra s.arity) (h k : Homomorphism s.arity algebra B)
      → ((a : Way s.roots) → h.to (generator a) ≡ k.to (generator a)) → (y : algebra.Element) → h.to y ≡ k.to y

-- a homomorphism, and one that takes back what it does
pub record Isomorphism (n : ℕ) (A B : Algebra n) : Type 0 where
  pub there : Homomorphism n A B
  pub back : Homomorphism n B A
  pub back_there : (y : A.Element) → back.to (there.to y) ≡ y
  pub there_back : (y : B.Element) → there.to (back.to y) ≡ y

-- Definition 4.2: G(n,r) "is the group of Ω-algebra automorphisms of" V(n,r). Two are the same if they send each element to the same.
abbrev pub Automorphism : (s : Shape) → Free s → Type 0
Automorphism s F = Isomorphism s.arity F.algebra F.algebra

-- a map some times in a row
abbrev pub iterated : {A : Type 0} → (A → A) → ℕ → A → A
iterated f zero y = y
iterated f (suc k) y = f (iterated f k y)

-- Document 01: "for k above zero, k times in a row; .. below zero, the power −k of the inverse" (negsuc k is the number −(k + 1)).
abbrev pub power_map : {s : Shape} (F : Free s) → Automorphism s F → ℤ → F.algebra.Element → F.algebra.Element
power_map F φ (pos k) = iterated φ.there.to k
power_map F φ (negsuc k) = iterated φ.back.to (suc k)

-- a word of the shape by its parts: a belt, and ways
pub record Code (s : Shape) : Type 0 where
  pub belt : Way s.roots
  pub ways : List (Way s.arity)

-- its digits
abbrev pub spell_ways : {n : ℕ} → List (Way n) → Word
spell_ways x = map (λ i. i.number) x

abbrev pub spell_code : {s : Shape} → Code s → Word
spell_code c = c.belt.number ∷ spell_ways c.ways

-- yα_i..α_j, the operations in the order in which they are written
abbrev pub along : {n : ℕ} (A : Algebra n) → List (Way n) → A.Element → A.Element
along A [] y = y
along A (i ∷ x) y = along A x (A.part i y)

-- the word as an element of the algebra, xα_i..α_j
abbrev pub value : {s : Shape} (F : Free s) → Code s → F.algebra.Element
value F c = along F.algebra c.ways (F.generator c.belt)

-- the code 1122 by its parts
abbrev shape22 : Shape
shape22 = record { arity = 2; roots = 2 }

abbrev way : (i : ℕ) → T (is_digit 2 i) → Way 2
way i k = record { number = i; counts = k }

abbrev code1122 : Code shape22
code1122 = record { belt = way 1 tt; ways = way 1 tt ∷ way 2 tt ∷ way 2 tt ∷ [] }

spell_code_example : spell_code code1122 ≡ spell 1122
spell_code_example = refl

-- x_1α_1α_2α_2
value_example : (F : Free shape22)
    → value F code1122 ≡ F.algebra.part (way 2 tt) (F.algebra.part (way 2 tt) (F.algebra.part (way 1 tt) (F.generator (way 1 tt))))
value_example F = refl

power_map_example : (F : Free shape22) (φ : Automorphism shape22 F) (y : F.algebra.Element)
    → power_map F φ (negsuc 1) y ≡ φ.back.to (φ.back.to y)
power_map_example F φ y = refl
