-- The steps that make a normal form, below one block: the rows of `gather`, what `parent` and `joint` find, what `joined` leaves,
-- and the cases of `normal`. The files on normal forms lean on these laws, and on `normal_holds`, the induction over the blocks.
use Prim.Native.Nat.{ℕ, zero, suc, ◌≤◌}
use mathlib.Core.Path.{◌≡◌, refl, sym, ◌∙◌, ap, ap₂, subst}
use mathlib.Core.Logic.{◌⊎◌, inl, inr}
use mathlib.Core.Bool.{Bool, true, false}
use mathlib.Core.List.Memᴰ
use mathlib.Core.List.{List, [], ◌∷◌, ◌++◌, head-eq_of_cons-eq, tail-eq_of_cons-eq, Memᴰ}
use mathlib.Core.Option.{Option, none, some, none-ne-some, some-injective}
use native.Mathlib.Omega.{arith}
use Rattle.higman.specs.Words.{Word, digits, child}
use Rattle.higman.specs.Tables.{Pair, Table, BlockMap, same_table}
use Rattle.higman.specs.Normal.{below, under, gather, whole, parts, parent, joint, joined, normal}
use Rattle.higman.proofs.Tests.{so, T_of, pair_path, same_table_lem, same_table_refl}

-- a row of the i-th part, as a row of the block
abbrev pub row_under : ℕ → Pair → Pair
row_under i p = record { from = i ∷ p.from; to = p.to }

-- a row of `gather` is a row of one of its tables, under that table's digit
pub record Gathered (is : List ℕ) (g : ℕ → Table) (p : Pair) : Type 0 where
  pub digit : ℕ
  pub part : Pair
  pub among : Memᴰ digit is
  pub inside : Memᴰ part (g digit)
  pub stands : p ≡ row_under digit part

pub gathered : (is : List ℕ) (g : ℕ → Table) (p : Pair) → Memᴰ p (gather is g) → Gathered is g p
gathered [] g p m = absurd (Memᴰ.not-nil m)
gathered (i ∷ is) g p m = go (Memᴰ.append_cases (under i (g i)) m) (λ k. gathered is g p k)
  where
    go : Memᴰ p (under i (g i)) ⊎ Memᴰ p (gather is g) → (Memᴰ p (gather is g) → Gathered is g p) → Gathered (i ∷ is) g p
    go (inl k) rest =
        let r = Memᴰ.of_map (row_under i) (g i) k in
        record { digit = i; part = r.0; among = Memᴰ.head refl; inside = r.1; stands = sym r.2 }
    go (inr k) rest =
        let r = rest k in
        record { digit = r.digit; part = r.part; among = Memᴰ.tail r.among; inside = r.inside; stands = r.stands }

pub mem_gather : (is : List ℕ) (g : ℕ → Table) (i : ℕ) (p : Pair) → Memᴰ i is → Memᴰ p (g i)
    → Memᴰ (row_under i p) (gather is g)
mem_gather [] g i p m k = absurd (Memᴰ.not-nil m)
mem_gather (j ∷ is) g i p m k = go (Memᴰ.cases_cons m) (λ l. mem_gather is g i p l k)
  where
    go : (i ≡ j) ⊎ Memᴰ i is → (Memᴰ i is → Memᴰ (row_under i p) (gather is g))
        → Memᴰ (row_under i p) (under j (g j) ++ gather is g)
    go (inl e) rest = Memᴰ.append_left (gather is g) (subst (λ x. Memᴰ (row_under i p) (under x (g x))) e (Memᴰ.map (row_under i) k))
    go (inr l) rest = Memᴰ.append_right (under j (g j)) (rest l)

-- the rows under i in `gather` are those of the i-th table
pub part_of_gather : (is : List ℕ) (g : ℕ → Table) (i : ℕ) (p : Pair) → Memᴰ (row_under i p) (gather is g) → Memᴰ p (g i)
part_of_gather is g i p m =
    let r = gathered is g (row_under i p) m in
    let e = ap (λ q. q.from) r.stands in
    Memᴰ.cast
    (pair_path (tail-eq_of_cons-eq e) (ap (λ q. q.to) r.stands))
    (subst (λ j. Memᴰ r.part (g j)) (sym (head-eq_of_cons-eq e)) r.inside)

pub gather_path : (is : List ℕ) (g h : ℕ → Table) → ((i : ℕ) → Memᴰ i is → g i ≡ h i) → gather is g ≡ gather is h
gather_path [] g h e = refl
gather_path (i ∷ is) g h e =
    ap₂ (λ t u. under i t ++ u) (e i (Memᴰ.head refl)) (gather_path is g h (λ j m. e j (Memᴰ.tail m)))

-- a word of at least a belt
abbrev pub Belted : Word → Type 0
Belted v = (b : ℕ) × (u : Word) × (v ≡ b ∷ u)

pub parent_child : (b : ℕ) (v : Word) (i : ℕ) → parent (child (b ∷ v) i) ≡ some (b ∷ v)
parent_child b [] i = refl
parent_child b (c ∷ v) i = rw (parent_child c v i, parent)

parent_rooted : (w v : Word) → parent w ≡ some v → Belted v
parent_rooted [] v e = absurd (none-ne-some v e)
parent_rooted (a ∷ []) v e = absurd (none-ne-some v e)
parent_rooted (a ∷ b ∷ w) v e = go (parent (b ∷ w)) e
  where
    go : (o : Option Word) → elim o as (λ _. Option Word) [ none ↦ some (a ∷ []) | some u ↦ some (a ∷ u) ] ≡ some v → Belted v
    go none k = (a, [], sym (some-injective _ _ k))
    go (some u) k = (a, u, sym (some-injective _ _ k))

-- the parts of a block join
pub joint_of_parts : (n b : ℕ) (v : Word) → 1 ≤ n → joint n (parts n (b ∷ v)) ≡ some (b ∷ v)
joint_of_parts zero b v h = absurd (omega arith)
joint_of_parts (suc m) b v h =
    let t = parts (suc m) (b ∷ v) in
    rw (parent_child b v 1, joint) (rw (so (same_table t t) (same_table_refl t)))

-- and what joins are the parts of a block
parts_of_joint : (n : ℕ) (t : Table) (v : Word) → joint n t ≡ some v → Belted v × (t ≡ parts n v)
parts_of_joint n [] v e = absurd (none-ne-some v e)
parts_of_joint n (p ∷ t) v e = go (parent p.to) refl e
  where
    test : (x : Word) (b : Bool) → same_table (p ∷ t) (parts n x) ≡ b → elim b as (λ _. Option Word) [ true ↦ some x | false ↦ none ] ≡ some v
        → (x ≡ v) × (p ∷ t ≡ parts n x)
    test x true h k = (some-injective _ _ k, same_table_lem (p ∷ t) (parts n x) (T_of h))
    test x false h k = absurd (none-ne-some v k)

    go : (o : Option Word) → parent p.to ≡ o
        → elim o as (λ _. Option Word) [ none ↦ none | some x ↦ elim (same_table (p ∷ t) (parts n x)) [ true ↦ some x | false ↦ none ] ] ≡ some v
        → Belted v × (p ∷ t ≡ parts n v)
    go none h k = absurd (none-ne-some v k)
    go (some x) h k =
        let (q, r) = test x (same_table (p ∷ t) (parts n x)) refl k in
        (parent_rooted p.to v (h ∙ ap some q), r ∙ ap (parts n) q)

-- a join leaves the table alone, or the table is the parts of a block and one row is put for the whole
abbrev pub JoinCases : ℕ → Table → Type 0
JoinCases n t = ((joint n t ≡ none) × (joined n t ≡ t)) ⊎ ((v : Word) × Belted v × (t ≡ parts n v) × (joined n t ≡ whole v))

pub joined_cases : (n : ℕ) (t : Table) → JoinCases n t
unfolding joined
joined_cases n t = go (joint n t) refl
  where
    put : Option Word → Table
    put o = elim o [ none ↦ t | some v ↦ whole v ]

    go : (o : Option Word) → joint n t ≡ o → JoinCases n t
    go none e = inl (e, ap put e)
    go (some v) e = let (b, q) = parts_of_joint n t v e in inr (v, b, q, ap put e)

-- the n parts of a block to the n parts of v join into the block to v
pub joined_parts : (n : ℕ) (v : Word) → 1 ≤ n → (v ≡ [] → ⊥) → joined n (parts n v) ≡ whole v
unfolding joined
joined_parts n [] h k = absurd (k refl)
joined_parts n (b ∷ v) h k = rw (joint_of_parts n b v h, joined)

-- a map that sends the whole block somewhere
pub normal_whole : (n d : ℕ) (f : BlockMap) (v : Word) → f [] ≡ some v → normal n d f ≡ whole v
unfolding normal
normal_whole n zero f v e = rw (e, normal)
normal_whole n (suc d) f v e = rw (e, normal)

-- and one that does not
pub normal_parts : (n d : ℕ) (f : BlockMap) → f [] ≡ none → normal n (suc d) f ≡ joined n (gather (digits n) (λ i. normal n d (below f i)))
unfolding normal
normal_parts n d f e = rw (e, normal)

-- What holds of the empty table, of one row for the block, and of the gathered parts where they do not join, holds of `normal`.
-- One row is put where the map sends the whole block there, or by a join.
pub normal_holds : (n : ℕ) (Q : BlockMap → Table → Type 0) → ((f : BlockMap) → Q f [])
    → ((f : BlockMap) (v : Word) → (f [] ≡ some v) ⊎ Belted v → Q f (whole v))
    → ((f : BlockMap) (g : ℕ → Table) → ((i : ℕ) → Q (below f i) (g i)) → joint n (gather (digits n) g) ≡ none → Q f (gather (digits n) g))
    → (d : ℕ) (f : BlockMap) → Q f (normal n d f)
unfolding normal
normal_holds n Q empty one step zero f = go (f []) refl
  where
    go : (o : Option Word) → f [] ≡ o → Q f (elim o as (λ _. Table) [ none ↦ [] | some v ↦ whole v ])
    go none e = empty f
    go (some v) e = one f v (inl e)
normal_holds n Q empty one step (suc d) f = go (f []) refl (λ i. normal_holds n Q empty one step d (below f i))
  where
    g : ℕ → Table
    g i = normal n d (below f i)

    join : ((i : ℕ) → Q (below f i) (g i)) → JoinCases n (gather (digits n) g) → Q f (joined n (gather (digits n) g))
    join h (inl (e, k)) = rw k (step f g h e)
    join h (inr (v, b, e, k)) = rw k (one f v (inr b))

    go : (o : Option Word) → f [] ≡ o → ((i : ℕ) → Q (below f i) (g i)) → Q f (elim o as (λ _. Table) [ none ↦ joined n (gather (digits n) g) | some v ↦ whole v ])
    go none e h = join h (joined_cases n (gather (digits n) g))
    go (some v) e h = one f v (inl e)
