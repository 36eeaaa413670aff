-- No join is possible in a normal form, whatever map it is of; and a proper table that is reduced and in order is its own normal
-- form. Both go block by block: a join below a block lies in one of its parts, or is the join of the block itself, and a table in
-- order is what its parts are gathered to.
use Prim.Native.Nat.{ℕ, zero, suc, ◌≤◌}
use mathlib.Core.Path.{◌≡◌, refl, sym, ◌∙◌, ap, ap₂, subst, subst₂, fun_ext}
use mathlib.Core.Logic.{◌⊎◌, inl, inr}
use mathlib.Core.Bool.{Bool, true, false}
use mathlib.Core.List.Memᴰ
use mathlib.Core.List.{[], ◌∷◌, ◌++◌, nil≢cons, append-nil, head-eq_of_cons-eq, tail-eq_of_cons-eq, Memᴰ}
use mathlib.Core.List.{concat-ne-nil}
use mathlib.Core.Option.{Option, none, some, none-ne-some}
use native.Mathlib.Omega.{arith}
use native.Mathlib.Nat.{le_refl}
use lib.Dec.{eqb}
use lib.ListN.{length}
use borrow.Author.Tests.{eqb-true, eq-eqb}
use Rattle.higman.specs.Words.{Shape, Word, digits, after, child}
use Rattle.higman.specs.Bases.{longest}
use Rattle.higman.specs.Tables.{Pair, Table, BlockMap, first_match, image, froms}
use Rattle.higman.specs.Normal.{below, gather, whole, parts, joint, joined, normal, normal_form, keep, Joinable, Reduced, ordered}
use Rattle.higman.proofs.Tests.{clash, Digit, Ways, IsWord, digit_of_mem, mem_of_digit, pair_path}
use Rattle.higman.proofs.Prefixes.{after_some_lem}
use Rattle.higman.proofs.Blocks.{row_under, gathered, mem_gather, part_of_gather, gather_path, joint_of_parts, JoinCases}
use Rattle.higman.proofs.Blocks.{joined_cases, normal_whole, normal_parts, normal_holds}
use Rattle.higman.proofs.Proper.{Deep, Proper}
use Rattle.higman.proofs.Ordered.{Before, BeforeAll, Sorted, sorted_of_test, before_froms, sorted_same, sorted_gather}

-- no join is possible below the block, nor of the block itself
abbrev NoJoin : ℕ → Table → Type 0
NoJoin n t = (w : Word) (b : ℕ) (v : Word) → Joinable n t w (b ∷ v) → ⊥

-- a row for the whole block is the only row
abbrev WholeAlone : Table → Type 0
WholeAlone t = (v : Word) → Memᴰ (record { from = []; to = v }) t → t ≡ whole v

first_digit_listed : (n : ℕ) → 1 ≤ n → Memᴰ 1 (digits n)
first_digit_listed n h = mem_of_digit n 1 (le_refl 1, h)

module _ (n : ℕ) (h : 1 ≤ n) where
  whole_no_join : (v : Word) → NoJoin n (whole v)
  whole_no_join v w b u j = concat-ne-nil 1 w (ap (λ p. p.from) (Memᴰ.eq_of_singleton (j 1 (first_digit_listed n h))))

  whole_alone : (v : Word) → WholeAlone (whole v)
  whole_alone v u m = ap whole (sym (ap (λ p. p.to) (Memᴰ.eq_of_singleton m)))

  gather_alone : (g : ℕ → Table) → WholeAlone (gather (digits n) g)
  gather_alone g v m = absurd (nil≢cons (ap (λ p. p.from) (gathered (digits n) g _ m).stands))

  -- if the parts of the block joined, each part would be one row, and the whole would have been joined
  gather_no_join : (g : ℕ → Table) → ((i : ℕ) → NoJoin n (g i) × WholeAlone (g i)) → joint n (gather (digits n) g) ≡ none
      → NoJoin n (gather (digits n) g)
  gather_no_join g k e [] b v j = none-ne-some (b ∷ v) (sym e ∙ ap (joint n) all_parts ∙ joint_of_parts n b v h)
    where
      all_parts : gather (digits n) g ≡ parts n (b ∷ v)
      all_parts = gather_path (digits n) g (λ i. whole (child (b ∷ v) i)) (λ i m. (k i).1 (child (b ∷ v) i) (part_of_gather (digits n) g i _ (j i m)))
  gather_no_join g k e (a ∷ w) b v j = (k a).0 w b v (λ i m. part_of_gather (digits n) g a _ (j i m))

  normal_no_join : (d : ℕ) (f : BlockMap) → NoJoin n (normal n d f) × WholeAlone (normal n d f)
  normal_no_join =
      normal_holds n (λ f t. NoJoin n t × WholeAlone t)
      (λ f. (λ w b v j. Memᴰ.not-nil (j 1 (first_digit_listed n h)), λ v m. absurd (Memᴰ.not-nil m)))
      (λ f v e. (whole_no_join v, whole_alone v))
      (λ f g k e. (gather_no_join g k e, gather_alone g))

-- no join is possible in a normal form
pub normal_form_reduced : (s : Shape) (d : ℕ) (f : BlockMap) → 1 ≤ s.arity → Reduced s.arity (normal_form s d f)
unfolding normal_form
normal_form_reduced s d f h a b w v j =
    (normal_no_join s.arity h d (below f a)).0 w b v (λ i m. part_of_gather (digits s.roots) (λ c. normal s.arity d (below f c)) a _ (j i m))

-- a table with one more row in front, if there is a from-word for it
abbrev with_row : Option Word → Word → Table → Table
with_row none v t = t
with_row (some u) v t = record { from = u; to = v } ∷ t

-- the table as it is seen from the i-th part of the block: the rows whose from-word starts with i, without that digit
abbrev pub in_part : ℕ → Table → Table
in_part i [] = []
in_part i (p ∷ t) = with_row (after (i ∷ []) p.from) p.to (in_part i t)

pub mem_of_in_part : (i : ℕ) (t : Table) (q : Pair) → Memᴰ q (in_part i t) → Memᴰ (row_under i q) t
mem_of_in_part i [] q m = absurd (Memᴰ.not-nil m)
mem_of_in_part i (p ∷ t) q m = go (after (i ∷ []) p.from) refl m (λ k. mem_of_in_part i t q k)
  where
    go : (o : Option Word) → after (i ∷ []) p.from ≡ o
        → Memᴰ q (with_row o p.to (in_part i t))
        → (Memᴰ q (in_part i t) → Memᴰ (row_under i q) t) → Memᴰ (row_under i q) (p ∷ t)
    go none e k rest = Memᴰ.tail (rest k)
    go (some u) e k rest = first (Memᴰ.cases_cons k)
      where
        first : (q ≡ record { from = u; to = p.to }) ⊎ Memᴰ q (in_part i t) → Memᴰ (row_under i q) (p ∷ t)
        first (inl f) = Memᴰ.head (ap (row_under i) f ∙ pair_path (sym (after_some_lem (i ∷ []) p.from u e)) refl)
        first (inr l) = Memᴰ.tail (rest l)

mem_in_part : (i : ℕ) (t : Table) (q : Pair) → Memᴰ (row_under i q) t → Memᴰ q (in_part i t)
mem_in_part i [] q m = absurd (Memᴰ.not-nil m)
mem_in_part i (p ∷ t) q m = go (Memᴰ.cases_cons m) (λ k. mem_in_part i t q k)
  where
    here : Memᴰ q (in_part i (row_under i q ∷ t))
    here = rw (eq-eqb i i refl, after, in_part) (Memᴰ.head refl)

    later : (o : Option Word) → Memᴰ q (in_part i t) → Memᴰ q (with_row o p.to (in_part i t))
    later none k = k
    later (some u) k = Memᴰ.tail k

    go : (row_under i q ≡ p) ⊎ Memᴰ (row_under i q) t → (Memᴰ (row_under i q) t → Memᴰ q (in_part i t)) → Memᴰ q (in_part i (p ∷ t))
    go (inl e) rest = subst (λ x. Memᴰ q (in_part i (x ∷ t))) e here
    go (inr l) rest = later (after (i ∷ []) p.from) (rest l)

pub sorted_in_part : (i : ℕ) (t : Table) → Sorted (froms t) → Sorted (froms (in_part i t))
sorted_in_part i [] h = tt
sorted_in_part i (p ∷ t) h = go (after (i ∷ []) p.from) refl (sorted_in_part i t h.1)
  where
    tails_before : (u v : Word) → Before (i ∷ u) (i ∷ v) → Before u v
    tails_before u v (inl l) = absurd (omega arith)
    tails_before u v (inr (e, k)) = k

    go : (o : Option Word) → after (i ∷ []) p.from ≡ o → Sorted (froms (in_part i t))
        → Sorted (froms (with_row o p.to (in_part i t)))
    go none e k = k
    go (some u) e k = (
      before_froms
          u
          (in_part i t)
          (λ q m.
          let b = h.0 (i ∷ q.from) (Memᴰ.map (λ r. r.from) (mem_of_in_part i t q m)) in
          tails_before u q.from (subst (λ x. Before x (i ∷ q.from)) (after_some_lem (i ∷ []) p.from u e) b)),
      k,
    )

-- every from-word starts with a digit from 1 to n
abbrev pub Headed : ℕ → Table → Type 0
Headed n t = (p : Pair) → Memᴰ p t → (i : ℕ) × (u : Word) × Digit n i × (p.from ≡ i ∷ u)

headed_tail : {n : ℕ} {p : Pair} {t : Table} → Headed n (p ∷ t) → Headed n t
headed_tail h q m = h q (Memᴰ.tail m)

-- a table in order is what its parts are gathered to
pub gather_in_parts : (n : ℕ) (t : Table) → Headed n t → Sorted (froms t) → gather (digits n) (λ i. in_part i t) ≡ t
gather_in_parts n t h k = sorted_same (gather (digits n) g) t (sorted_gather 1 n g (λ i. sorted_in_part i t k)) k forth back
  where
    g : ℕ → Table
    g i = in_part i t

    forth : (p : Pair) → Memᴰ p (gather (digits n) g) → Memᴰ p t
    forth p m = let r = gathered (digits n) g p m in Memᴰ.cast r.stands (mem_of_in_part r.digit t r.part r.inside)

    back : (p : Pair) → Memᴰ p t → Memᴰ p (gather (digits n) g)
    back p m =
        let r = h p m in
        let q : Pair = record { from = r.1; to = p.to } in
        let e : p ≡ row_under r.0 q = pair_path r.3 refl in
        Memᴰ.cast e (mem_gather (digits n) g r.0 q (mem_of_digit n r.0 r.2) (mem_in_part r.0 t q (Memᴰ.cast (sym e) m)))

-- the tail behind a prefix, if there is that prefix
abbrev after_some : Option Word → Word → Option Word
after_some none x = none
after_some (some u) x = after u x

-- a word that starts with a digit begins a word exactly as its tail begins the tail behind that digit
after_first : (i a : ℕ) (u x : Word) → after (a ∷ u) (i ∷ x) ≡ after_some (after (i ∷ []) (a ∷ u)) x
after_first i a u x = go (eqb a i) (eqb i a) refl refl
  where
    front : Bool → Option Word → Option Word
    front b o = elim b [ true ↦ o | false ↦ none ]

    go : (b c : Bool) → eqb a i ≡ b → eqb i a ≡ c → front b (after u x) ≡ after_some (front c (some u)) x
    go true true e f = refl
    go true false e f = absurd (clash (eq-eqb i a (sym (eqb-true a i e))) f)
    go false true e f = absurd (clash (eq-eqb a i (sym (eqb-true i a f))) e)
    go false false e f = refl

-- from the i-th part, a table acts as its i-th part
pub image_in_part : (n : ℕ) (t : Table) → Headed n t → (i : ℕ) (x : Word) → image t (i ∷ x) ≡ image (in_part i t) x
image_in_part n [] h i x = refl
image_in_part n (p ∷ t) h i x =
    ap (λ o. sent o (image t (i ∷ x))) first ∙ go (after (i ∷ []) p.from) (image_in_part n t (headed_tail h) i x)
  where
    sent : Option Word → Option Word → Option Word
    sent o k = elim o [ none ↦ k | some y ↦ some (p.to ++ y) ]

    first : after p.from (i ∷ x) ≡ after_some (after (i ∷ []) p.from) x
    first = let r = h p (Memᴰ.head refl) in rw r.3 (after_first i r.0 r.1 x)

    go : (o : Option Word) → image t (i ∷ x) ≡ image (in_part i t) x
        → sent (after_some o x) (image t (i ∷ x)) ≡ image (with_row o p.to (in_part i t)) x
    go none e = e
    go (some u) e = ap (sent (after u x)) e

-- no from-word is empty, so the block itself has no image
pub image_of_block : (n : ℕ) (t : Table) → Headed n t → image t [] ≡ none
image_of_block n [] h = refl
image_of_block n (p ∷ t) h = let r = h p (Memᴰ.head refl) in rw (r.3, first_match, after) (image_of_block n t (headed_tail h))

joined_no_join : (n : ℕ) (t : Table) → NoJoin n t → joined n t ≡ t
joined_no_join n t h = go (joined_cases n t)
  where
    rows : (v : Word) → Joinable n (parts n v) [] v
    rows v i m = mem_gather (digits n) (λ c. whole (child v c)) i (record { from = []; to = child v i }) m (Memᴰ.head refl)

    go : JoinCases n t → joined n t ≡ t
    go (inl (e, k)) = k
    go (inr (v, (b, u, q), e, k)) = absurd (h [] b u (subst₂ (λ x y. Joinable n x [] y) (sym e) q (rows v)))

-- if each part of a table is its own normal form, so is what they are gathered to
parts_own : (n m d : ℕ) (t : Table) → Headed m t → Sorted (froms t) → ((i : ℕ) → Digit m i → normal n d (image (in_part i t)) ≡ in_part i t)
    → gather (digits m) (λ i. normal n d (below (image t) i)) ≡ t
parts_own n m d t h k own =
    gather_path
    (digits m)
    (λ i. normal n d (below (image t) i))
    (λ i. in_part i t)
    (λ i l. ap (normal n d) (fun_ext (image_in_part m t h i)) ∙ own i (digit_of_mem m i l))
    ∙ gather_in_parts m t h k

-- every d ways begin with a from-word
abbrev pub Covers : ℕ → ℕ → Table → Type 0
Covers n d t = (x : Word) → Ways n x → length x ≡ d → (p : Pair) × (y : Word) × Memᴰ p t × (x ≡ p.from ++ y)

pub covers_in_part : (n : ℕ) (t : Table) → Headed n t → (i : ℕ) (x : Word) (p : Pair) (y : Word) → Memᴰ p t → i ∷ x ≡ p.from ++ y
    → (q : Pair) × (z : Word) × Memᴰ q (in_part i t) × (x ≡ q.from ++ z)
covers_in_part n t h i x p y m e =
    let r = h p m in
    let f = e ∙ ap (λ w. w ++ y) r.3 in
    let q : Pair = record { from = r.1; to = p.to } in
    let k : row_under i q ≡ p = pair_path (ap (λ j. j ∷ r.1) (head-eq_of_cons-eq f) ∙ sym r.3) refl in
    (q, y, mem_in_part i t q (Memᴰ.cast k m), tail-eq_of_cons-eq f)

-- a table in order is one row for the whole block, or each of its from-words starts with a way
pub block_or_parts : (n : ℕ) (t : Table) → Sorted (froms t) → ((p : Pair) → Memᴰ p t → Ways n p.from)
    → ((v : Word) × (t ≡ whole v)) ⊎ Headed n t
block_or_parts n [] h k = inr (λ p m. absurd (Memᴰ.not-nil m))
block_or_parts n (p ∷ t) h k = go p.from refl
  where
    alone : (u : Table) → BeforeAll [] (froms u) → u ≡ []
    alone [] b = refl
    alone (q ∷ u) b = absurd (b q.from (Memᴰ.head refl))

    starts : (w : Word) → Ways n w → (w ≡ [] → ⊥) → (i : ℕ) × (u : Word) × Digit n i × (w ≡ i ∷ u)
    starts [] l f = absurd (f refl)
    starts (i ∷ u) l f = (i, u, l.0, refl)

    not_empty : (a : ℕ) (u : Word) → p.from ≡ a ∷ u → (q : Pair) → (q ≡ p) ⊎ Memᴰ q t → q.from ≡ [] → ⊥
    not_empty a u e q (inl f) z = nil≢cons (sym z ∙ ap (λ r. r.from) f ∙ e)
    not_empty a u e q (inr m) z = subst (λ w. Before (a ∷ u) w) z (subst (λ w. Before w q.from) e (h.0 q.from (Memᴰ.map (λ r. r.from) m)))

    go : (w : Word) → p.from ≡ w → ((v : Word) × (p ∷ t ≡ whole v)) ⊎ Headed n (p ∷ t)
    go [] e = inl (p.to, ap₂ ◌∷◌ (pair_path e refl) (alone t (subst (λ w. BeforeAll w (froms t)) e h.0)))
    go (a ∷ u) e = inr (λ q m. starts q.from (k q m) (not_empty a u e q (Memᴰ.cases_cons m)))

-- what makes a table below a block its own normal form: `normal_own`
record Settled (n d : ℕ) (t : Table) : Type 0 where
  sorted : Sorted (froms t)
  ways : (p : Pair) → Memᴰ p t → Ways n p.from
  covers : Covers n d t
  no_join : NoJoin n t

settled_in_part : (n d : ℕ) (t : Table) → Settled n (suc d) t → Headed n t → (i : ℕ) → Digit n i → Settled n d (in_part i t)
settled_in_part n d t c h i l =
    record {
      sorted = sorted_in_part i t c.sorted;
      ways = λ q m. (c.ways (row_under i q) (mem_of_in_part i t q m)).1;
      covers = λ x k e. let r = c.covers (i ∷ x) (l, k) (ap suc e) in covers_in_part n t h i x r.0 r.1 r.2 r.3;
      no_join = λ w b v j. c.no_join (i ∷ w) b v (λ e m. mem_of_in_part i t _ (j e m));
    }

pub normal_of_whole : (n d : ℕ) (t : Table) (v : Word) → t ≡ whole v → normal n d (image t) ≡ t
normal_of_whole n d t v e = normal_whole n d (image t) v (ap (λ u. image u []) e ∙ ap some (append-nil v)) ∙ sym e

normal_own : (n d : ℕ) (t : Table) → Settled n d t → normal n d (image t) ≡ t
normal_own n zero t c = go (block_or_parts n t c.sorted c.ways)
  where
    go : ((v : Word) × (t ≡ whole v)) ⊎ Headed n t → normal n zero (image t) ≡ t
    go (inl (v, e)) = normal_of_whole n zero t v e
    go (inr h) = let r = c.covers [] tt refl in absurd (nil≢cons (r.3 ∙ ap (λ w. w ++ r.1) (h r.0 r.2).3))
normal_own n (suc d) t c = go (block_or_parts n t c.sorted c.ways) (λ i k. normal_own n d (in_part i t) k)
  where
    go : ((v : Word) × (t ≡ whole v)) ⊎ Headed n t → ((i : ℕ) → Settled n d (in_part i t) → normal n d (image (in_part i t)) ≡ in_part i t)
        → normal n (suc d) (image t) ≡ t
    go (inl (v, e)) rest = normal_of_whole n (suc d) t v e
    go (inr h) rest =
        normal_parts n d (image t) (image_of_block n t h)
        ∙ ap (joined n) (parts_own n n d t h c.sorted (λ i l. rest i (settled_in_part n d t c h i l)))
        ∙ joined_no_join n t c.no_join

-- the from-words of a proper table start with belts, and below each of these it covers what it covers
pub heads_of_proper : (s : Shape) (t : Table) → Proper s (froms t) → Headed s.roots t
heads_of_proper s t p q m = starts q.from (p.words q.from (Memᴰ.map (λ r. r.from) m))
  where
    starts : (w : Word) → IsWord s w → (i : ℕ) × (u : Word) × Digit s.roots i × (w ≡ i ∷ u)
    starts [] k = absurd k
    starts (i ∷ u) k = (i, u, k.0, refl)

pub covers_of_deep : (s : Shape) (t : Table) → Proper s (froms t) → Deep s (suc (longest (froms t))) (froms t) → (a : ℕ) → Digit s.roots a → Covers s.arity (longest (froms t)) (in_part a t)
covers_of_deep s t p c a l x k e =
    let (u, y, m, f) = c (a ∷ x) (l, k) (omega arith) in
    let (q, i, g) = Memᴰ.of_map (λ q. q.from) t m in
    covers_in_part s.roots t (heads_of_proper s t p) a x q y i (f ∙ ap (λ w. w ++ y) (sym g))

-- a proper table that is reduced and in order is its own normal form
pub keep_of_reduced : (s : Shape) (t : Table) → 1 ≤ s.arity → Proper s (froms t) → Deep s (suc (longest (froms t))) (froms t)
    → Reduced s.arity t → ordered (froms t) ≡ true → keep s t ≡ t
unfolding keep normal_form
keep_of_reduced s t h p c r o =
    parts_own s.arity s.roots (longest (froms t)) t heads sorted (λ a l. normal_own s.arity (longest (froms t)) (in_part a t) (settled a l))
  where
    sorted : Sorted (froms t)
    sorted = sorted_of_test (froms t) o

    heads : Headed s.roots t
    heads = heads_of_proper s t p

    settled : (a : ℕ) → Digit s.roots a → Settled s.arity (longest (froms t)) (in_part a t)
    settled a l =
        record {
          sorted = sorted_in_part a t sorted;
          ways = λ q m. (p.words (a ∷ q.from) (Memᴰ.map (λ r. r.from) (mem_of_in_part a t q m))).1;
          covers = covers_of_deep s t p c a l;
          no_join = λ w b v j. r a b w v (λ i m. mem_of_in_part a t _ (j i m));
        }
