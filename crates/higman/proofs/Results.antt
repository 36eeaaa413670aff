-- What the operations give is reduced and in order, because it is a normal form, whatever map that is of: the term of
-- `ResultsReduced`. Of the tables nothing is known here, not even that their columns are bases. And the columns of the identity.
use Prim.Native.Nat.{ℕ, zero, suc, ◌+◌, ◌≤◌}
use mathlib.Core.Path.{◌≡◌, refl, sym, ap₂, subst}
use mathlib.Core.Bool.{true}
use mathlib.Core.List.Permᴰ
use mathlib.Core.List.{List, [], ◌∷◌, map}
use mathlib.Core.Option.{some}
use lib.IntN.{ℤ, pos, negsuc}
use Rattle.higman.specs.Words.{Shape, Word, count}
use Rattle.higman.specs.Bases.{Basis, root_words, longest}
use Rattle.higman.specs.Tables.{Pair, Table, BlockMap, froms, tos, swapped, image}
use Rattle.higman.specs.Normal.{gather, whole, normal, normal_form, keep, and_then, compose, inverse, identity}
use Rattle.higman.specs.Normal.{repeated, power, Reduced, ordered}
use Rattle.higman.specs.Limits.{Bases}
use Rattle.higman.specs.Theorems.{ResultsReduced}
use Rattle.higman.proofs.Ordered.{normal_form_ordered}
use Rattle.higman.proofs.Reduced.{normal_form_reduced}

-- moving nothing is the normal form of the map that moves nothing
pub identity_is : (s : Shape) → identity s ≡ normal_form s 0 (λ w. some w)
unfolding identity normal_form normal
identity_is s = refl

-- both columns of it are the roots, in order
root_column : (side : Pair → Word) → ((a : ℕ) → side (record { from = a ∷ []; to = a ∷ [] }) ≡ a ∷ []) → (a m : ℕ)
    → map side (gather (count a m) (λ i. whole (i ∷ []))) ≡ map (λ i. i ∷ []) (count a m)
root_column side root a zero = refl
root_column side root a (suc m) = ap₂ ◌∷◌ (root a) (root_column side root (suc a) m)

-- the roots themselves are a basis
basis_of_roots : (s : Shape) (c : List Word) → c ≡ root_words s → Basis s c
basis_of_roots s c e = record { folds = 0; expansion = c; expands = e; listing = Permᴰ.refl c }

pub identity_bases : (s : Shape) → Bases s (identity s)
unfolding identity
identity_bases s =
    record {
      from_basis = basis_of_roots s (froms (identity s)) (root_column (λ p. p.from) (λ a. refl) 1 s.roots);
      to_basis = basis_of_roots s (tos (identity s)) (root_column (λ p. p.to) (λ a. refl) 1 s.roots);
    }

-- what holds of every normal form holds of every result
module _ (s : Shape) (Q : Table → Type 0) (every : (d : ℕ) (f : BlockMap) → Q (normal_form s d f)) where
  compose_holds : (a b : Table) → Q (compose s a b)
  unfolding compose
  compose_holds a b = every (longest (froms a) + longest (froms b)) (and_then (image a) (image b))

  inverse_holds : (a : Table) → Q (inverse s a)
  unfolding inverse keep
  inverse_holds a = every (longest (froms (swapped a))) (image (swapped a))

  identity_holds : Q (identity s)
  identity_holds = subst Q (sym (identity_is s)) (every 0 (λ w. some w))

  repeated_holds : (a : Table) (k : ℕ) → Q (repeated s a k)
  unfolding repeated
  repeated_holds a zero = identity_holds
  repeated_holds a (suc k) = compose_holds (repeated s a k) a

  power_holds : (a : Table) (k : ℤ) → Q (power s a k)
  unfolding power
  power_holds a (pos k) = repeated_holds a k
  power_holds a (negsuc k) = repeated_holds (inverse s a) (suc k)

abbrev InOrder : Table → Type 0
InOrder t = ordered (froms t) ≡ true

pub results_reduced : ResultsReduced
results_reduced =
    record {
      compose_reduced = λ s n. compose_holds s (Reduced s.arity) (no_join s n);
      compose_in_order = λ s. compose_holds s InOrder (normal_form_ordered s);
      inverse_reduced = λ s n. inverse_holds s (Reduced s.arity) (no_join s n);
      inverse_in_order = λ s. inverse_holds s InOrder (normal_form_ordered s);
      identity_reduced = λ s n. identity_holds s (Reduced s.arity) (no_join s n);
      identity_in_order = λ s. identity_holds s InOrder (normal_form_ordered s);
      repeated_reduced = λ s n. repeated_holds s (Reduced s.arity) (no_join s n);
      repeated_in_order = λ s. repeated_holds s InOrder (normal_form_ordered s);
      power_reduced = λ s n. power_holds s (Reduced s.arity) (no_join s n);
      power_in_order = λ s. power_holds s InOrder (normal_form_ordered s);
    }
  where
    no_join : (s : Shape) → 1 ≤ s.arity → (d : ℕ) (f : BlockMap) → Reduced s.arity (normal_form s d f)
    no_join s n d f = normal_form_reduced s d f n
