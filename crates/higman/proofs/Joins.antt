-- The result does not depend on which join came first (document 004, Lemma 4.3). A reordering and a join leave bases for columns,
-- and each row of the table before lies below a row of the table after, so the action stays. Joins that end in a reduced table in
-- order therefore end in the normal form of the table they began with.
use Prim.Native.Nat.{ℕ, ◌≤◌}
use mathlib.Core.Path.{◌≡◌, refl, sym, ◌∙◌, ap, subst}
use mathlib.Core.Logic.{◌⊎◌, inl, inr}
use mathlib.Core.Bool.{true}
use mathlib.Core.List.Permᴰ
use mathlib.Core.List.{List, [], ◌∷◌, ◌++◌, map, map-map, map-append, append-nil, append_assoc, Permᴰ}
use mathlib.Core.List.Memᴰ
use mathlib.Core.List.{Memᴰ}
use mathlib.Core.Option.{some}
use native.Mathlib.Nat.{le_refl}
use Rattle.higman.specs.Words.{Shape, Word, digits, child, children}
use Rattle.higman.specs.Tables.{Pair, Table, froms, image}
use Rattle.higman.specs.Normal.{keep, Reduced, ordered, Join, Joins, reorder, join}
use Rattle.higman.specs.Limits.{Bases}
use Rattle.higman.proofs.Tests.{Digit, IsWord, mem_of_digit}
use Rattle.higman.proofs.Prefixes.{child_append, ways_left, word_right}
use Rattle.higman.proofs.Proper.{Apart, Proper}
use Rattle.higman.proofs.Images.{row_of_image, image_of_row}
use Rattle.higman.proofs.Expansions.{Begun, Separate, mem_of_perm, proper_of_perm}
use Rattle.higman.proofs.Elements.{Element, element_action}
use Rattle.higman.proofs.Group.{Member, keep_acts, keep_member, by_common}
use Rattle.higman.proofs.KeptPlans.{element_of_bases, own_of_reduced}

-- words of two columns that are apart when put together
apart_across : (c e : List Word) → Apart (c ++ e) → (w u : Word) → Memᴰ w c → Memᴰ u e → Separate u w
apart_across [] e h w u m k = absurd (Memᴰ.not-nil m)
apart_across (v ∷ c) e h w u m k = go (Memᴰ.cases_cons m) (λ l. apart_across c e h.1 w u l k)
  where
    go : (w ≡ v) ⊎ Memᴰ w c → (Memᴰ w c → Separate u w) → Separate u w
    go (inl q) rest = subst (Separate u) (sym q) (h.0 u (Memᴰ.append_right c k))
    go (inr l) rest = rest l

apart_right : (c e : List Word) → Apart (c ++ e) → Apart e
apart_right [] e h = h
apart_right (w ∷ c) e h = apart_right c e h.1

-- a word in place of all its children; proper-children of Expansions.antt is the other way round
proper_parent : (s : Shape) (a : ℕ) (ways : Word) (c : List Word) → 1 ≤ s.arity → Proper s (children s.arity (a ∷ ways) ++ c) → Proper s ((a ∷ ways) ∷ c)
proper_parent s a ways c n p =
    record {
      words = λ v m. words v (Memᴰ.cases_cons m);
      apart = (λ u m x. (onward u m x, backward u m x), apart_right parts c p.apart);
      depth = p.depth;
      deep = λ v y l. let (u, x, m, e) = p.deep v y l in begun v u x (Memᴰ.append_cases parts m) e;
    }
  where
    w : Word
    w = a ∷ ways

    parts : List Word
    parts = children s.arity w

    part : (i : ℕ) → Digit s.arity i → Memᴰ (child w i) parts
    part i d = Memᴰ.map (child w) (mem_of_digit s.arity i d)

    first : Memᴰ (child w 1) parts
    first = part 1 (le_refl 1, n)

    is_word_lem : IsWord s w
    is_word_lem = let y = p.words (child w 1) (Memᴰ.append_left c first) in (y.0, ways_left s.arity ways (1 ∷ []) y.1)

    words : (v : Word) → (v ≡ w) ⊎ Memᴰ v c → IsWord s v
    words v (inl e) = subst (IsWord s) (sym e) is_word_lem
    words v (inr m) = p.words v (Memᴰ.append_right parts m)

    -- what begins w begins the first child, and what goes on behind w goes on behind a child
    backward : (u : Word) → Memᴰ u c → (x : Word) → w ≡ u ++ x → ⊥
    backward u m x e =
        (apart_across parts c p.apart (child w 1) u first m (x ++ (1 ∷ []))).1 (ap (λ v. v ++ (1 ∷ [])) e ∙ append_assoc u x (1 ∷ []))

    onward : (u : Word) → Memᴰ u c → (x : Word) → u ≡ w ++ x → ⊥
    onward u m [] e = backward u m [] (sym (append-nil u ∙ e ∙ append-nil w))
    onward u m (i ∷ x) e =
        let d = (word_right s w (i ∷ x) is_word_lem (subst (IsWord s) e (p.words u (Memᴰ.append_right parts m)))).0 in
        (apart_across parts c p.apart (child w i) u (part i d) m x).0 (e ∙ sym (child_append w i x))

    begun : (v u x : Word) → Memᴰ u parts ⊎ Memᴰ u c → v ≡ u ++ x → Begun (w ∷ c) v
    begun v u x (inl m) e =
        let (i, k, q) = Memᴰ.of_map (child w) (digits s.arity) m in
        (w, i ∷ x, Memᴰ.head refl, e ∙ ap (λ z. z ++ x) (sym q) ∙ child_append w i x)
    begun v u x (inr m) e = (u, x, Memᴰ.tail m, e)

-- a column of a table, before and after a join
column_join : (s : Shape) (column : Pair → Word) (a : ℕ) (w : Word) {t u others : Table} {rows : ℕ → Pair} {p : Pair} → 1 ≤ s.arity
    → (λ i. column (rows i)) ≡ child (a ∷ w) → column p ≡ a ∷ w
    → Permᴰ t (map rows (digits s.arity) ++ others) → Permᴰ u (p ∷ others) → Proper s (map column t) → Proper s (map column u)
column_join s column a w n parts whole taken put c =
    let before = simp (map-append, map-map, parts) at (proper_of_perm s (Permᴰ.map column taken) c) in
    proper_of_perm s (Permᴰ.symm (Permᴰ.map column put)) (rw whole (proper_parent s a w _ n before))

element_of_join : (s : Shape) {t u : Table} → 1 ≤ s.arity → Join s.arity t u → Element s t → Element s u
element_of_join s n j E =
    record {
      from_proper = column_join s (λ p. p.from) j.root j.ways n refl refl j.taken j.put E.from_proper;
      to_proper = column_join s (λ p. p.to) j.root' j.ways' n refl refl j.taken j.put E.to_proper;
    }

pub element_of_perm : (s : Shape) {t u : Table} → Permᴰ t u → Element s t → Element s u
element_of_perm s p E =
    record { from_proper = proper_of_perm s (Permᴰ.map (λ r. r.from) p) E.from_proper; to_proper = proper_of_perm s (Permᴰ.map (λ r. r.to) p) E.to_proper }

-- a row of the table has this row below it: the same tail in both columns
abbrev Above : Table → Pair → Type 0
Above u q = (p : Pair) × (x : Word) × Memᴰ p u × (q.from ≡ p.from ++ x) × (q.to ≡ p.to ++ x)

abbrev Refines : Table → Table → Type 0
Refines t u = (q : Pair) → Memᴰ q t → Above u q

image_of_refined : (t u : Table) → Apart (froms u) → Refines t u → (w v : Word) → image t w ≡ some v → image u w ≡ some v
image_of_refined t u a r w v e =
    let (q, y, m, f, g) = row_of_image t w v e in
    let (p, x, k, f', g') = r q m in
    ap (image u) (f ∙ ap (λ z. z ++ y) f' ∙ append_assoc p.from x y) ∙ image_of_row u a p k (x ++ y) ∙ ap some (sym (g ∙ ap (λ z. z ++ y) g' ∙ append_assoc p.to x y))

above_of_mem : (u : Table) (q : Pair) → Memᴰ q u → Above u q
above_of_mem u q m = (q, [], m, sym (append-nil q.from), sym (append-nil q.to))

refines_of_join : (n : ℕ) {t u : Table} → Join n t u → Refines t u
refines_of_join n {u} j q m = go (Memᴰ.append_cases (map rows (digits n)) (mem_of_perm j.taken m))
  where
    rows : ℕ → Pair
    rows i = record { from = child (j.root ∷ j.ways) i; to = child (j.root' ∷ j.ways') i }

    whole : Pair
    whole = record { from = j.root ∷ j.ways; to = j.root' ∷ j.ways' }

    put : {p : Pair} → Memᴰ p (whole ∷ j.others) → Memᴰ p u
    put k = mem_of_perm (Permᴰ.symm j.put) k

    go : Memᴰ q (map rows (digits n)) ⊎ Memᴰ q j.others → Above u q
    go (inl k) =
        let (i, l, e) = Memᴰ.of_map rows (digits n) k in
        (whole, i ∷ [], put (Memᴰ.head refl), ap (λ r. r.from) (sym e), ap (λ r. r.to) (sym e))
    go (inr k) = above_of_mem u q (put (Memᴰ.tail k))

-- Some joins in a row lead to a table with bases for columns that acts as the first one did.
joins_keep : (s : Shape) {t u : Table} → 1 ≤ s.arity → Joins s.arity t u → Element s t → Element s u × ((w v : Word) → image t w ≡ some v → image u w ≡ some v)
joins_keep s n (reorder {t} {u} h) E = let U = element_of_perm s h E in (U, image_of_refined t u U.from_proper.apart (λ q m. above_of_mem u q (mem_of_perm h m)))
joins_keep s n (join {t} {u} h rest) E =
    let U = element_of_join s n h E in
    let (R, acts) = joins_keep s n rest U in
    (R, λ w v e. acts w v (image_of_refined t u U.from_proper.apart (refines_of_join s.arity h) w v e))

pub any_joins : (s : Shape) → 1 ≤ s.arity → (t u : Table) → Bases s t → Joins s.arity t u → Reduced s.arity u → ordered (froms u) ≡ true → u ≡ keep s t
any_joins s n t u b joins reduced order =
    let E = element_of_bases s t n b in
    let (U, acts) = joins_keep s n joins E in
    let own : Member s u = record { element = U; own = own_of_reduced s u n U reduced order } in
    by_common s n u (keep s t) own (keep_member s n t E) (image t) (element_action s t n E).0 (λ w v y e. (acts w v e, keep_acts s n t E w v y e))
