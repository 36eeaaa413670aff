-- A standard form as a map on blocks: it sends each block that lies below one of its leaves to a block. Read along some ways, it
-- gives the word that is there, and far enough below there are words.
use Prim.Native.Nat.{ℕ, suc, ◌≤◌}
use mathlib.Core.Path.{◌≡◌, refl, sym, ◌∙◌, ap}
use mathlib.Core.Bool.{Bool, true, false}
use mathlib.Core.List.{List, [], ◌∷◌, ◌++◌, append_assoc}
use mathlib.Core.Option.{Option, none, some, none-ne-some, some-injective}
use native.Mathlib.Omega.{arith}
use lib.Dec.{T}
use lib.ListN.{length}
use Rattle.higman.specs.Words.{Shape, Word, is_digit}
use Rattle.higman.specs.Tables.{BlockMap}
use Rattle.higman.specs.Algebras.{Way, Code, spell_ways, spell_code, along}
use Rattle.higman.specs.StandardForms.{Tree, leaf, node, Standard, Form}
use Rattle.higman.proofs.Maps.{Steady}
use Rattle.higman.proofs.Codes.{further, spell_further, bound_of_ways}
use Rattle.higman.proofs.StandardForms.{part_tree}
use Rattle.higman.proofs.FormAlgebra.{forms, along_leaf}

-- a value that is there only where a test passes
abbrev pub when_passed : (b : Bool) → (T b → Option Word) → Option Word
when_passed true f = f tt
when_passed false f = none

pub when_passed_lem : (b : Bool) (t : T b) (f : T b → Option Word) → when_passed b f ≡ f t
when_passed_lem true t f = refl
when_passed_lem false t f = absurd t

pub when_some : (b : Bool) (f g : T b → Option Word) (v u : Word) → ((t : T b) → f t ≡ some v → g t ≡ some u)
    → when_passed b f ≡ some v → when_passed b g ≡ some u
when_some true f g v u h e = h tt e
when_some false f g v u h e = absurd (none-ne-some v e)

-- the word that a tree is, if it is one
abbrev pub word_of : {s : Shape} → Tree s → Option Word
word_of (leaf c) = some (spell_code c)
word_of (node k) = none

pub word_of_some : {s : Shape} (t : Tree s) (v : Word) → word_of t ≡ some v → (c : Code s) × (t ≡ leaf c) × (spell_code c ≡ v)
word_of_some (leaf c) v e = (c, refl, some-injective _ _ e)
word_of_some (node k) v e = absurd (none-ne-some v e)

-- where a tree sends a block below it
pub read : {s : Shape} → Tree s → BlockMap
read (leaf c) x = some (spell_code c ++ x)
read (node k) [] = none
read {s} (node k) (i ∷ x) = when_passed (is_digit s.arity i) (λ d. read (k (record { number = i; counts = d })) x)

pub read_steady : {s : Shape} (t : Tree s) → Steady (read t)
unfolding read
read_steady (leaf c) w v x e = ap some (sym (append_assoc (spell_code c) w x) ∙ ap (λ z. z ++ x) (some-injective _ _ e))
read_steady (node k) [] v x e = absurd (none-ne-some v e)
read_steady {s} (node k) (i ∷ w) v x e =
    when_some (is_digit s.arity i)
    (λ d. read (k (record { number = i; counts = d })) w)
    (λ d. read (k (record { number = i; counts = d })) (w ++ x))
    v (v ++ x)
    (λ d q. read_steady (k (record { number = i; counts = d })) w v x q)
    e

module _ (s : Shape) (n : 1 ≤ s.arity) where
  -- what is read along some ways is the word that is there
  pub read_spell : (t : Tree s) (h : Standard s t) (x : List (Way s.arity))
      → read t (spell_ways x) ≡ word_of (along (forms s n) x (t, h)).0
  unfolding read part_tree
  read_spell (leaf c) h x = ap some (sym (spell_further c x)) ∙ ap (λ (y : Form s). word_of y.0) (sym (along_leaf s n x c))
  read_spell (node k) h [] = refl
  read_spell (node k) h (i ∷ x) =
      when_passed_lem (is_digit s.arity i.number) i.counts (λ d. read (k (record { number = i.number; counts = d })) (spell_ways x))
      ∙ read_spell (k i) (h.0 i) x

  -- all that is at least d ways below the form are words
  abbrev pub WordsBelow : Form s → ℕ → Type 0
  WordsBelow y d = (x : List (Way s.arity)) → d ≤ length x → (c : Code s) × ((along (forms s n) x y).0 ≡ leaf c)

  pub words_below : (t : Tree s) (h : Standard s t) → (d : ℕ) × WordsBelow (t, h) d
  unfolding part_tree
  words_below (leaf c) h = (0, λ x l. (further c x, ap (λ (y : Form s). y.0) (along_leaf s n x c)))
  words_below (node k) h = go (λ i. words_below (k i) (h.0 i))
    where
      go : ((i : Way s.arity) → (d : ℕ) × WordsBelow (k i, h.0 i) d) → (d : ℕ) × WordsBelow (node k, h) d
      go deeper = let (b, g) = bound_of_ways s.arity (λ i. (deeper i).0) in (suc b, at b g)
        where
          at : (b : ℕ) → ((i : Way s.arity) → (deeper i).0 ≤ b) → WordsBelow (node k, h) (suc b)
          at b g [] l = absurd (omega arith)
          at b g (i ∷ x) l = (deeper i).1 x (omega (arith, g i))
