-- The normal form is reached by joins: the table is put in order, and then block by block, the joins inside a block before the join
-- of the block itself, its pairs join into those of the normal form.
use Prim.Native.Nat.{ℕ, zero, suc, ◌≤◌, ◌<◌}
use mathlib.Core.Path.{◌≡◌, refl, sym, ◌∙◌, ap, ap₂, subst, subst₂, fun_ext}
use mathlib.Core.Logic.{◌⊎◌, inl, inr}
use mathlib.Core.List.Memᴰ
use mathlib.Core.List.{List, [], ◌∷◌, ◌++◌, map, map-id, nil≢cons, append-nil, append_assoc, Memᴰ}
use mathlib.Core.List.Permᴰ
use mathlib.Core.List.{Permᴰ}
use mathlib.Core.Bool.{true, false}
use native.Mathlib.Omega.{arith}
use lib.Dec.{leb}
use borrow.Author.Tests.{leb-true, leb-false}
use Rattle.higman.specs.Words.{Shape, Word, digits, child}
use Rattle.higman.specs.Bases.{longest}
use Rattle.higman.specs.Tables.{Pair, Table, froms, image}
use Rattle.higman.specs.Normal.{below, under, gather, whole, parts, joined, normal, normal_form, keep, Join, Joins, reorder, join}
use Rattle.higman.specs.Limits.{Bases}
use Rattle.higman.proofs.Tests.{passes, pair_path, Digit, Ways, digit_of_mem}
use Rattle.higman.proofs.Prefixes.{child_append}
use Rattle.higman.proofs.Blocks.{row_under, gather_path, JoinCases, joined_cases, normal_parts}
use Rattle.higman.proofs.Proper.{ApartFrom, Apart}
use Rattle.higman.proofs.Ordered.{Before, Sorted}
use Rattle.higman.proofs.Columns.{deep_longest}
use Rattle.higman.proofs.Expansions.{mem_of_perm}
use Rattle.higman.proofs.Reduced.{in_part, mem_of_in_part, sorted_in_part, Headed, gather_in_parts, image_in_part, image_of_block}
use Rattle.higman.proofs.Reduced.{Covers, covers_in_part, block_or_parts, normal_of_whole, heads_of_proper, covers_of_deep}
use Rattle.higman.proofs.Elements.{Element}
use Rattle.higman.proofs.KeptPlans.{element_of_bases, keep_reduced, keep_ordered}
use Rattle.higman.proofs.Joins.{element_of_perm, any_joins}

-- of two words that do not begin one another, one is before the other
one_before : (u w : Word) → ((x : Word) → (w ≡ u ++ x → ⊥) × (u ≡ w ++ x → ⊥)) → Before u w ⊎ Before w u
one_before [] w h = absurd ((h w).0 refl)
one_before (a ∷ u) [] h = absurd ((h (a ∷ u)).1 refl)
one_before (a ∷ u) (b ∷ w) h = go (passes (leb (suc a) b)) (passes (leb (suc b) a)) (λ k. one_before u w k)
  where
    tails : a ≡ b → (x : Word) → (w ≡ u ++ x → ⊥) × (u ≡ w ++ x → ⊥)
    tails e x = (λ p. (h x).0 (ap₂ ◌∷◌ (sym e) p), λ p. (h x).1 (ap₂ ◌∷◌ e p))

    same : a ≡ b → Before u w ⊎ Before w u → Before (a ∷ u) (b ∷ w) ⊎ Before (b ∷ w) (a ∷ u)
    same e (inl k) = inl (inr (e, k))
    same e (inr k) = inr (inr (sym e, k))

    go : (leb (suc a) b ≡ true) ⊎ (leb (suc a) b ≡ false) → (leb (suc b) a ≡ true) ⊎ (leb (suc b) a ≡ false)
        → (((x : Word) → (w ≡ u ++ x → ⊥) × (u ≡ w ++ x → ⊥)) → Before u w ⊎ Before w u) → Before (a ∷ u) (b ∷ w) ⊎ Before (b ∷ w) (a ∷ u)
    go (inl l) r rest = inl (inl (leb-true (suc a) b l))
    go (inr l) (inl r) rest = inr (inl (leb-true (suc b) a r))
    go (inr l) (inr r) rest =
        let p : b < suc a = leb-false (suc a) b l in
        let q : a < suc b = leb-false (suc b) a r in
        let e : a ≡ b = omega arith in
        same e (rest (tails e))

before_trans : (u v w : Word) → Before u v → Before v w → Before u w
before_trans [] v w h k = absurd h
before_trans (a ∷ u) [] w h k = absurd h
before_trans (a ∷ u) (b ∷ v) [] h k = absurd k
before_trans (a ∷ u) (b ∷ v) (c ∷ w) h k = go h k (λ p q. before_trans u v w p q)
  where
    go : (a < b) ⊎ ((a ≡ b) × Before u v) → (b < c) ⊎ ((b ≡ c) × Before v w) → (Before u v → Before v w → Before u w) → (a < c) ⊎ ((a ≡ c) × Before u w)
    go (inl l) (inl r) rest = inl (omega arith)
    go (inl l) (inr (e, q)) rest = inl (omega arith)
    go (inr (e, p)) (inl r) rest = inl (omega arith)
    go (inr (e, p)) (inr (f, q)) rest = inr (e ∙ f, rest p q)

-- a table, put in order
record Arranged (t : Table) : Type 0 where
  table : Table
  rearranged : Permᴰ t table
  sorted : Sorted (froms table)

from_of : {t u : Table} (w : Word) → Permᴰ t u → Memᴰ w (froms u) → Memᴰ w (froms t)
from_of w p m = mem_of_perm (Permᴰ.symm (Permᴰ.map (λ r. r.from) p)) m

inserted : (p : Pair) (t : Table) → Sorted (froms t) → ApartFrom p.from (froms t) → Arranged (p ∷ t)
inserted p [] h a = record { table = p ∷ []; rearranged = Permᴰ.refl (p ∷ []); sorted = (λ u m. absurd (Memᴰ.not-nil m), tt) }
inserted p (q ∷ t) h a = go (one_before p.from q.from (a q.from (Memᴰ.head refl))) (inserted p t h.1 (λ u m. a u (Memᴰ.tail m)))
  where
    go : Before p.from q.from ⊎ Before q.from p.from → Arranged (p ∷ t) → Arranged (p ∷ q ∷ t)
    go (inl b) r = record { table = p ∷ q ∷ t; rearranged = Permᴰ.refl (p ∷ q ∷ t); sorted = (λ u m. first u (Memᴰ.cases_cons m), h) }
      where
        first : (u : Word) → (u ≡ q.from) ⊎ Memᴰ u (froms t) → Before p.from u
        first u (inl e) = subst (Before p.from) (sym e) b
        first u (inr m) = before_trans p.from q.from u b (h.0 u m)
    go (inr b) r =
        record {
          table = q ∷ r.table;
          rearranged = Permᴰ.trans (Permᴰ.swap refl refl) (Permᴰ.cons refl r.rearranged);
          sorted = (λ u m. first u (Memᴰ.cases_cons (from_of u r.rearranged m)), r.sorted);
        }
      where
        first : (u : Word) → (u ≡ p.from) ⊎ Memᴰ u (froms t) → Before q.from u
        first u (inl e) = subst (Before q.from) (sym e) b
        first u (inr m) = h.0 u m

arranged : (t : Table) → Apart (froms t) → Arranged t
arranged [] a = record { table = []; rearranged = Permᴰ.refl []; sorted = tt }
arranged (p ∷ t) a =
    let r = arranged t a.1 in
    let q = inserted p r.table r.sorted (λ u m. a.0 u (from_of u r.rearranged m)) in
    record { table = q.table; rearranged = Permᴰ.trans (Permᴰ.cons refl r.rearranged) q.rearranged; sorted = q.sorted }

-- joins behind a reordering, and behind other joins
reorder_then : {n : ℕ} {t u v : Table} → Permᴰ t u → Joins n u v → Joins n t v
reorder_then p (reorder q) = reorder (Permᴰ.trans p q)
reorder_then p (join j rest) =
    join (record { root = j.root; ways = j.ways; root' = j.root'; ways' = j.ways'; others = j.others; taken = Permᴰ.trans p j.taken; put = j.put }) rest

joins_then : {n : ℕ} {t u v : Table} → Joins n t u → Joins n u v → Joins n t v
joins_then (reorder p) k = reorder_then p k
joins_then (join j rest) k = join j (joins_then rest k)

-- the table of a block, below a word
abbrev at : Word → Table → Table
at w x = map (λ p. record { from = w ++ p.from; to = p.to }) x

at_under : (w : Word) (i : ℕ) (x : Table) → at w (under i x) ≡ at (child w i) x
at_under w i [] = refl
at_under w i (p ∷ x) = ap₂ ◌∷◌ (pair_path (sym (child_append w i p.from)) refl) (at_under w i x)

at_append : (w : Word) (x y : Table) → at w (x ++ y) ≡ at w x ++ at w y
at_append w [] y = refl
at_append w (p ∷ x) y = ap (λ z. record { from = w ++ p.from; to = p.to } ∷ z) (at_append w x y)

at_gather : (w : Word) (i : ℕ) (is : List ℕ) (g : ℕ → Table) (rest : Table) → at w (gather (i ∷ is) g) ++ rest ≡ at (child w i) (g i) ++ (at w (gather is g) ++ rest)
at_gather w i is g rest =
    ap (λ z. z ++ rest) (at_append w (under i (g i)) (gather is g) ∙ ap (λ z. z ++ at w (gather is g)) (at_under w i (g i)))
    ∙ append_assoc (at (child w i) (g i)) (at w (gather is g)) rest

swap_blocks : (a b c : Table) → Permᴰ (a ++ (b ++ c)) (b ++ (a ++ c))
swap_blocks [] b c = Permᴰ.refl (b ++ c)
swap_blocks (p ∷ a) b c = Permᴰ.trans (Permᴰ.cons refl (swap_blocks a b c)) (Permᴰ.symm (Permᴰ.middle p b (a ++ c)))

-- joins in each part are joins in what the parts are gathered to
gather_joins : (n : ℕ) (w : Word) (is : List ℕ) (g h : ℕ → Table) → ((i : ℕ) → Memᴰ i is → (rest : Table) → Joins n (at (child w i) (g i) ++ rest) (at (child w i) (h i) ++ rest))
    → (rest : Table) → Joins n (at w (gather is g) ++ rest) (at w (gather is h) ++ rest)
gather_joins n w [] g h k rest = reorder (Permᴰ.refl rest)
gather_joins n w (i ∷ is) g h k rest =
    subst₂ (Joins n) (sym (at_gather w i is g rest)) (sym (at_gather w i is h rest))
    (joins_then (k i (Memᴰ.head refl) (at w (gather is g) ++ rest))
    (reorder_then (swap_blocks (at (child w i) (h i)) (at w (gather is g)) rest)
    (joins_then (gather_joins n w is g h (λ j m. k j (Memᴰ.tail m)) (at (child w i) (h i) ++ rest)) (reorder (swap_blocks (at w (gather is h)) (at (child w i) (h i)) rest)))))

at_parts : (w v : Word) (is : List ℕ) → at w (gather is (λ i. whole (child v i))) ≡ map (λ i. record { from = child w i; to = child v i }) is
at_parts w v [] = refl
at_parts w v (i ∷ is) = ap (λ z. record { from = child w i; to = child v i } ∷ z) (at_parts w v is)

-- the join of a block itself
block_joins : (n a : ℕ) (w : Word) (x rest : Table) → Joins n (at (a ∷ w) x ++ rest) (at (a ∷ w) (joined n x) ++ rest)
block_joins n a w x rest = go (joined_cases n x)
  where
    go : JoinCases n x → Joins n (at (a ∷ w) x ++ rest) (at (a ∷ w) (joined n x) ++ rest)
    go (inl (e, k)) = subst (λ z. Joins n (at (a ∷ w) x ++ rest) (at (a ∷ w) z ++ rest)) (sym k) (reorder (Permᴰ.refl (at (a ∷ w) x ++ rest)))
    go (inr (v, (b, u, q), e, k)) =
        let rows : Table = map (λ i. record { from = child (a ∷ w) i; to = child (b ∷ u) i }) (digits n) in
        let path : at (a ∷ w) x ≡ rows = ap (at (a ∷ w)) (e ∙ ap (parts n) q) ∙ at_parts (a ∷ w) (b ∷ u) (digits n) in
        let one : Join n (at (a ∷ w) x ++ rest) (record { from = a ∷ w; to = b ∷ u } ∷ rest) = record { root = a; ways = w; root' = b; ways' = u; others = rest; taken = subst (λ z. Permᴰ (at (a ∷ w) x ++ rest) (z ++ rest)) path (Permᴰ.refl (at (a ∷ w) x ++ rest)); put = Permᴰ.refl (record { from = a ∷ w; to = b ∷ u } ∷ rest) } in
        subst (λ z. Joins n (at (a ∷ w) x ++ rest) (at (a ∷ w) z ++ rest)) (sym k)
        (join one (reorder (Permᴰ.cons (pair_path (sym (append-nil (a ∷ w))) (sym q)) (Permᴰ.refl rest))))

-- a table of a block, in order, that covers it in d ways
record Below (n d : ℕ) (t : Table) : Type 0 where
  sorted : Sorted (froms t)
  ways : (p : Pair) → Memᴰ p t → Ways n p.from
  covers : Covers n d t

below_in_part : (n d : ℕ) (t : Table) → Below n (suc d) t → Headed n t → (i : ℕ) → Digit n i → Below n d (in_part i t)
below_in_part n d t c h i l =
    record {
      sorted = sorted_in_part i t c.sorted;
      ways = λ q m. (c.ways (row_under i q) (mem_of_in_part i t q m)).1;
      covers = λ x k e. let r = c.covers (i ∷ x) (l, k) (ap suc e) in covers_in_part n t h i x r.0 r.1 r.2 r.3;
    }

-- it joins into its normal form
collect : (n d : ℕ) (x : Table) → Below n d x → (a : ℕ) (w : Word) (rest : Table) → Joins n (at (a ∷ w) x ++ rest) (at (a ∷ w) (normal n d (image x)) ++ rest)
collect n zero x c a w rest = go (block_or_parts n x c.sorted c.ways)
  where
    go : ((v : Word) × (x ≡ whole v)) ⊎ Headed n x → Joins n (at (a ∷ w) x ++ rest) (at (a ∷ w) (normal n zero (image x)) ++ rest)
    go (inl (v, e)) = subst (λ z. Joins n (at (a ∷ w) x ++ rest) (at (a ∷ w) z ++ rest)) (sym (normal_of_whole n zero x v e)) (reorder (Permᴰ.refl (at (a ∷ w) x ++ rest)))
    go (inr h) = let r = c.covers [] tt refl in absurd (nil≢cons (r.3 ∙ ap (λ z. z ++ r.1) (h r.0 r.2).3))
collect n (suc d) x c a w rest = go (block_or_parts n x c.sorted c.ways) (λ i k. collect n d (in_part i x) k a (w ++ (i ∷ [])))
  where
    after : ℕ → Table
    after i = normal n d (image (in_part i x))

    go : ((v : Word) × (x ≡ whole v)) ⊎ Headed n x
        → ((i : ℕ) → Below n d (in_part i x) → (more : Table) → Joins n (at (a ∷ (w ++ (i ∷ []))) (in_part i x) ++ more) (at (a ∷ (w ++ (i ∷ []))) (normal n d (image (in_part i x))) ++ more))
        → Joins n (at (a ∷ w) x ++ rest) (at (a ∷ w) (normal n (suc d) (image x)) ++ rest)
    go (inl (v, e)) part = subst (λ z. Joins n (at (a ∷ w) x ++ rest) (at (a ∷ w) z ++ rest)) (sym (normal_of_whole n (suc d) x v e)) (reorder (Permᴰ.refl (at (a ∷ w) x ++ rest)))
    go (inr h) part =
        let first = gather_in_parts n x h c.sorted in
        let last : normal n (suc d) (image x) ≡ joined n (gather (digits n) after) = normal_parts n d (image x) (image_of_block n x h) ∙ ap (joined n) (gather_path (digits n) (λ i. normal n d (below (image x) i)) after (λ i m. ap (normal n d) (fun_ext (image_in_part n x h i)))) in
        subst₂ (λ y z. Joins n (at (a ∷ w) y ++ rest) (at (a ∷ w) z ++ rest)) first (sym last)
        (joins_then (gather_joins n (a ∷ w) (digits n) (λ i. in_part i x) after (λ i m. part i (below_in_part n d x c h i (digit_of_mem n i m))) rest) (block_joins n a w (gather (digits n) after) rest))

-- a table in order, over all belts
sorted_joins : (s : Shape) → 1 ≤ s.arity → (t : Table) → Element s t → Sorted (froms t) → Joins s.arity t (keep s t)
unfolding keep normal_form
sorted_joins s n t E o =
    subst₂ (Joins s.arity) (whole_table (gather (digits s.roots) part) ∙ gather_in_parts s.roots t heads o) (whole_table (gather (digits s.roots) done) ∙ sym last)
    (gather_joins s.arity [] (digits s.roots) part done (λ a m. collect s.arity d (part a) (start a (digit_of_mem s.roots a m)) a []) [])
  where
    d : ℕ
    d = longest (froms t)

    part : ℕ → Table
    part a = in_part a t

    done : ℕ → Table
    done a = normal s.arity d (image (in_part a t))

    heads : Headed s.roots t
    heads = heads_of_proper s t E.from_proper

    start : (a : ℕ) → Digit s.roots a → Below s.arity d (in_part a t)
    start a l =
        record {
          sorted = sorted_in_part a t o;
          ways = λ q m. (E.from_proper.words (a ∷ q.from) (Memᴰ.map (λ r. r.from) (mem_of_in_part a t q m))).1;
          covers = covers_of_deep s t E.from_proper (deep_longest s (froms t) n E.from_proper) a l;
        }

    whole_table : (x : Table) → at [] x ++ [] ≡ x
    whole_table x = append-nil (at [] x) ∙ map-id x

    last : gather (digits s.roots) (λ a. normal s.arity d (below (image t) a)) ≡ gather (digits s.roots) done
    last = gather_path (digits s.roots) (λ a. normal s.arity d (below (image t) a)) done (λ a m. ap (normal s.arity d) (fun_ext (image_in_part s.roots t heads a)))

pub reached : (s : Shape) → 1 ≤ s.arity → (t : Table) → Bases s t → Joins s.arity t (keep s t)
reached s n t b =
    let E = element_of_bases s t n b in
    let r = arranged t E.from_proper.apart in
    let u = r.table in
    let j : Joins s.arity t (keep s u) = reorder_then r.rearranged (sorted_joins s n u (element_of_perm s r.rearranged E) r.sorted) in
    subst (Joins s.arity t) (any_joins s n t (keep s u) b j (keep_reduced s u n) (keep_ordered s u)) j
