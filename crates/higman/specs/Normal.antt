-- The reduced, ordered plan of a map on blocks, and the group that these plans form (document 01, "Plans"; document 004, section 4 to Lemma
-- 4.3). No limit appears here: the numbers of pairs and digits are free. To be believed: `Join`, `Reduced`, `ordered` and `and_then`. From
-- `normal` to `power` nothing need be: `NormalForm`, `Demand3`, `MinimalExpansion`, `PlansAreAutomorphisms` and `AnswersAreElements` fix
-- them. Read Limits.antt next.
use Rattle.std.specs.Prelude.{ℕ, zero, suc, ◌+◌, ◌≡◌, refl, Bool, true, false, ◌&&◌, ◌||◌, eqb, ltb, ℤ, pos, negsuc}
use mathlib.Core.List.{List, [], ◌∷◌, ◌++◌, map, Permᴰ, Memᴰ}
use Rattle.std.proofs.Math.Option.{Option, none, some}
use Rattle.higman.specs.Words.{Shape, Word, digits, child, spell}
use Rattle.higman.specs.Bases.{all, longest}
use Rattle.higman.specs.Tables.{Table, BlockMap, image, froms, swapped, same_table, row, φ, ψ}

-- the map as it is seen from the i-th part of the block
abbrev pub below : BlockMap → ℕ → BlockMap
below f i w = f (i ∷ w)

-- a table of the i-th part, as a table of the block
abbrev pub under : ℕ → Table → Table
under i t = map (λ p. record { from = i ∷ p.from; to = p.to }) t

-- the tables of several parts, one behind the other
abbrev pub gather : List ℕ → (ℕ → Table) → Table
gather [] g = []
gather (i ∷ is) g = under i (g i) ++ gather is g

-- the whole block to v
abbrev pub whole : Word → Table
whole v = record { from = []; to = v } ∷ []

-- the n parts of the block to the n parts of v, in the same order
abbrev pub parts : ℕ → Word → Table
parts n v = gather (digits n) (λ i. whole (child v i))

-- a word without its last digit, if at least a belt is left
abbrev pub parent : Word → Option Word
parent [] = none
parent (a ∷ w) = elim w [ [] ↦ none | b ∷ u ↦ elim (parent w) [ none ↦ some (a ∷ []) | some v ↦ some (a ∷ v) ] ]

-- "If n pairs have from-words w1, .., wn and to-words v1, .., vn in the same order, w and v being words of at least a belt, they
-- join into (w, v)": the v for which a table of the block is just these pairs.
abbrev pub joint : ℕ → Table → Option Word
joint n [] = none
joint n (p ∷ t) = elim (parent p.to) [ none ↦ none | some v ↦ elim (same_table (p ∷ t) (parts n v)) [ true ↦ some v | false ↦ none ] ]

unfoldable pub joined : ℕ → Table → Table
joined n t = elim (joint n t) [ none ↦ t | some v ↦ whole v ]

-- The reduced table of a map below a block, at most d ways deep. "The joins inside a block come before the join of the block
-- itself", and the parts come in digit order.
unfoldable pub normal : ℕ → ℕ → BlockMap → Table
normal n zero f = elim (f []) [ none ↦ [] | some v ↦ whole v ]
normal n (suc d) f = elim (f []) [ none ↦ joined n (gather (digits n) (λ i. normal n d (below f i))) | some v ↦ whole v ]

-- The same over all belts. Belts are not joined: there is no word above them.
unfoldable pub normal_form : Shape → ℕ → BlockMap → Table
normal_form s d f = gather (digits s.roots) (λ a. normal s.arity d (below f a))

-- "reduce and keep"
unfoldable pub keep : Shape → Table → Table
keep s t = normal_form s (longest (froms t)) (image t)

-- one map and then another
abbrev pub and_then : BlockMap → BlockMap → BlockMap
and_then f g w = elim (f w) [ none ↦ none | some v ↦ g v ]

-- a map some times in a row
abbrev pub times : ℕ → BlockMap → BlockMap
times zero f w = some w
times (suc k) f w = and_then (times k f) f w

-- "*a then b* applies a first"
unfoldable pub compose : Shape → Table → Table → Table
compose s a b = normal_form s (longest (froms a) + longest (froms b)) (and_then (image a) (image b))

-- "I⇥a⇥c keeps the inverse": the columns change places, and what comes of it is reduced and ordered
unfoldable pub inverse : Shape → Table → Table
inverse s a = keep s (swapped a)

-- "the plan that moves nothing (each belt to itself)"
unfoldable pub identity : Shape → Table
identity s = gather (digits s.roots) (λ a. whole (a ∷ []))

-- "for k above zero, k times in a row; 0 is the plan that moves nothing"
unfoldable pub repeated : Shape → Table → ℕ → Table
repeated s a zero = identity s
repeated s a (suc k) = compose s (repeated s a k) a

-- "below zero, the power −k of the inverse" (negsuc k is the number −(k + 1))
unfoldable pub power : Shape → Table → ℤ → Table
power s a (pos k) = repeated s a k
power s a (negsuc k) = repeated s (inverse s a) (suc k)

-- n pairs of the table join into (w, v)
abbrev pub Joinable : ℕ → Table → Word → Word → Type 0
Joinable n t w v = (i : ℕ) → Memᴰ i (digits n) → Memᴰ (record { from = child w i; to = child v i }) t

-- "A plan is reduced when no join is possible": none at a w and a v of at least a belt.
abbrev pub Reduced : ℕ → Table → Type 0
Reduced n t = (a b : ℕ) (w v : Word) → Joinable n t (a ∷ w) (b ∷ v) → ⊥

-- order by the first digit that differs
abbrev pub before : Word → Word → Bool
before [] v = false
before (a ∷ u) [] = false
before (a ∷ u) (b ∷ v) = ltb a b || (eqb a b && before u v)

-- each word before all that follow it
abbrev pub ordered : List Word → Bool
ordered [] = true
ordered (w ∷ c) = all (before w) c && ordered c

-- A join, wherever its pairs stand: n pairs taken out of the table, and the pair they join into put in.
pub record Join (n : ℕ) (t u : Table) : Type 0 where
  pub root : ℕ
  pub ways : Word
  pub root' : ℕ
  pub ways' : Word
  pub others : Table
  pub taken : Permᴰ t (map (λ i. record { from = child (root ∷ ways) i; to = child (root' ∷ ways') i }) (digits n) ++ others)
  pub put : Permᴰ u (record { from = root ∷ ways; to = root' ∷ ways' } ∷ others)

-- Some joins in a row, and the pairs listed in another order.
pub data Joins (n : ℕ) : Table → Table → Type 0 where
  reorder : {t u : Table} → Permᴰ t u → Joins n t u
  join : {t u v : Table} → Join n t u → Joins n u v → Joins n t v

-- document 01, "Plans to try"
abbrev shape21 : Shape
shape21 = record { arity = 2; roots = 1 }

keep_example : keep shape21 (row 11 11 ∷ row 12 12 ∷ []) ≡ row 1 1 ∷ []
unfolding keep normal_form normal joined
keep_example = refl

compose_example : compose shape21 φ φ ≡ row 111 112 ∷ row 112 111 ∷ row 121 122 ∷ row 122 121 ∷ []
unfolding compose normal_form normal joined
compose_example = refl

inverse_example : inverse shape21 φ ≡ row 11 12 ∷ row 121 112 ∷ row 122 111 ∷ []
unfolding inverse keep normal_form normal joined
inverse_example = refl

power_example : power shape21 ψ (pos 2) ≡ row 1111 11 ∷ row 1112 121 ∷ row 112 1221 ∷ row 12 1222 ∷ []
unfolding power repeated identity compose normal_form normal joined
power_example = refl

-- "below zero, the power −k of the inverse": ψ to the −2, the pairs above with their columns swapped
power_below_example : power shape21 ψ (negsuc 1) ≡ row 11 1111 ∷ row 121 1112 ∷ row 1221 112 ∷ row 1222 12 ∷ []
unfolding power repeated identity compose inverse keep normal_form normal joined
power_below_example = refl

identity_example : identity (record { arity = 2; roots = 3 }) ≡ row 1 1 ∷ row 2 2 ∷ row 3 3 ∷ []
unfolding identity
identity_example = refl

-- two parts with images in the same order join; with images in another order, or with no word above the images, they do not
joined_example : map (joined 2) ((row 1 121 ∷ row 2 122 ∷ []) ∷ (row 1 122 ∷ row 2 121 ∷ []) ∷ (row 1 1 ∷ row 2 2 ∷ []) ∷ []) ≡ whole (spell 12) ∷ (row 1 122 ∷ row 2 121 ∷ []) ∷ (row 1 1 ∷ row 2 2 ∷ []) ∷ []
unfolding joined
joined_example = refl

-- belts are not joined
belts_example : keep (record { arity = 2; roots = 2 }) (row 1 1 ∷ row 2 2 ∷ []) ≡ row 1 1 ∷ row 2 2 ∷ []
unfolding keep normal_form normal joined
belts_example = refl

times_example : times 2 (image ψ) (spell 112) ≡ some (spell 1221)
times_example = refl

ordered_example : map ordered ((spell 111 ∷ spell 112 ∷ spell 12 ∷ []) ∷ (spell 12 ∷ spell 11 ∷ []) ∷ []) ≡ true ∷ false ∷ []
ordered_example = refl
