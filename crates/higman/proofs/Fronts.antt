-- The block of a front: which pairs it has, that they stand in order, and that it sends every longer code as the plan does. The term of the
-- statement of specs/Fronts.antt; for *a then b* by what compositions do.
use Prim.Native.Nat.{◌≤◌}
use mathlib.Core.Path.{◌≡◌, refl, sym, ◌∙◌, ap}
use mathlib.Core.Logic.{◌⊎◌, inl, inr}
use mathlib.Core.Bool.{Bool, true, false}
use mathlib.Core.List.Memᴰ
use mathlib.Core.List.{[], ◌∷◌, ◌++◌, Memᴰ}
use mathlib.Core.Option.{some}
use native.Mathlib.Omega.{arith}
use lib.Dec.{T}
use lib.ListN.{length}
use Rattle.higman.specs.Words.{Word, begins, begins_properly}
use Rattle.higman.specs.Tables.{Pair, Table, froms, image}
use Rattle.higman.specs.Normal.{ordered}
use Rattle.higman.specs.Limits.{Plan, Kept}
use Rattle.higman.specs.Answers.{followed, Granted, TooShort, routed}
use Rattle.higman.specs.Fronts.{block, SentByOne, BlockOf, SendsInTurn, FrontsExact}
use Rattle.higman.proofs.Tests.{so, T_of, clash}
use Rattle.higman.proofs.Prefixes.{tail_of_begins, comparable, proper_of_tail}
use Rattle.higman.proofs.Proper.{Apart}
use Rattle.higman.proofs.Images.{row_of_image, longer_of_none}
use Rattle.higman.proofs.Actions.{and_then_some}
use Rattle.higman.proofs.Smallest.{one_row}
use Rattle.higman.proofs.Columns.{overlap_of_apart}
use Rattle.higman.proofs.Ordered.{Before, Sorted, sorted_of_test, test_of_sorted, ordered_apart, before_froms}
use Rattle.higman.proofs.Answers.{none_of_short}
use Rattle.higman.proofs.Demand3.{demand3}
use Rattle.higman.proofs.Statements.{followed_acts, answers_exact}

-- the pairs of a table that a front properly begins, and no others
pub block_own : (t : Table) (w : Word) (p : Pair) → Memᴰ p (block t w) → Memᴰ p t × T (begins_properly w p.from)
unfolding block
block_own [] w p m = absurd (Memᴰ.not-nil m)
block_own (q ∷ t) w p m = by_test (begins_properly w q.from) refl m (block_own t w p)
  where
    further : Memᴰ p t × T (begins_properly w p.from) → Memᴰ p (q ∷ t) × T (begins_properly w p.from)
    further (n, h) = (Memᴰ.tail n, h)

    first : begins_properly w q.from ≡ true → (p ≡ q) ⊎ Memᴰ p (block t w)
        → (Memᴰ p (block t w) → Memᴰ p t × T (begins_properly w p.from)) → Memᴰ p (q ∷ t) × T (begins_properly w p.from)
    first e (inl f) rest = (Memᴰ.head f, T_of (ap (λ r. begins_properly w r.from) f ∙ e))
    first e (inr n) rest = further (rest n)

    by_test : (b : Bool) → begins_properly w q.from ≡ b → Memᴰ p (elim b as (λ _. Table) [ true ↦ q ∷ block t w | false ↦ block t w ])
        → (Memᴰ p (block t w) → Memᴰ p t × T (begins_properly w p.from)) → Memᴰ p (q ∷ t) × T (begins_properly w p.from)
    by_test true e n rest = first e (Memᴰ.cases_cons n) rest
    by_test false e n rest = further (rest n)

in_block : (t : Table) (w : Word) (p : Pair) → Memᴰ p t → T (begins_properly w p.from) → Memᴰ p (block t w)
unfolding block
in_block [] w p m h = absurd (Memᴰ.not-nil m)
in_block (q ∷ t) w p m h = by_test (begins_properly w q.from) refl (Memᴰ.cases_cons m) (λ n. in_block t w p n h)
  where
    by_test : (b : Bool) → begins_properly w q.from ≡ b → (p ≡ q) ⊎ Memᴰ p t → (Memᴰ p t → Memᴰ p (block t w))
        → Memᴰ p (elim b as (λ _. Table) [ true ↦ q ∷ block t w | false ↦ block t w ])
    by_test true e (inl f) rest = Memᴰ.head f
    by_test true e (inr n) rest = Memᴰ.tail (rest n)
    by_test false e (inl f) rest =
        absurd (clash (so (begins_properly w p.from) h) (ap (λ r. begins_properly w r.from) f ∙ e))
    by_test false e (inr n) rest = rest n

-- no more than the table has
pub block_few : (t : Table) (w : Word) → length (block t w) ≤ length t
unfolding block
block_few [] w = omega arith
block_few (q ∷ t) w = by_test (begins_properly w q.from) (block_few t w)
  where
    by_test : (b : Bool) → length (block t w) ≤ length t
        → length {A = Pair} (elim b as (λ _. Table) [ true ↦ q ∷ block t w | false ↦ block t w ]) ≤ length (q ∷ t)
    by_test true h = omega arith
    by_test false h = omega arith

-- in the order of the table
sorted_block : (t : Table) (w : Word) → Sorted (froms t) → Sorted (froms (block t w))
unfolding block
sorted_block [] w h = tt
sorted_block (q ∷ t) w h = by_test (begins_properly w q.from) (sorted_block t w h.1)
  where
    before_rest : (p : Pair) → Memᴰ p (block t w) → Before q.from p.from
    before_rest p m = h.0 p.from (Memᴰ.map (λ r. r.from) (block_own t w p m).0)

    by_test : (b : Bool) → Sorted (froms (block t w)) → Sorted (froms (elim b as (λ _. Table) [ true ↦ q ∷ block t w | false ↦ block t w ]))
    by_test true rest = (before_froms q.from (block t w) before_rest, rest)
    by_test false rest = rest

nonempty_of_mem : {p : Pair} {t : Table} → Memᴰ p t → 1 ≤ length t
nonempty_of_mem (Memᴰ.head e) = omega arith
nonempty_of_mem (Memᴰ.tail m) = omega arith

module _ (a : Plan) (A : Kept a) (w : Word) (short : routed a w ≡ TooShort) where
  rows_ordered : Sorted (froms a.rows)
  rows_ordered = sorted_of_test (froms a.rows) A.in_order

  block_ordered : ordered (froms (block a.rows w)) ≡ true
  block_ordered = test_of_sorted (froms (block a.rows w)) (sorted_block a.rows w rows_ordered)

  apart : Apart (froms a.rows)
  apart = ordered_apart (froms a.rows) A.in_order

  -- no from-word begins the front, so one that begins a longer code extends the front
  extends : (p : Pair) → Memᴰ p a.rows → (x y : Word) → w ++ x ≡ p.from ++ y → T (begins_properly w p.from)
  extends p m x y e =
      let (i, z, f) = longer_of_none a.rows apart w (none_of_short a w short).1 p m (comparable w p.from x y e) in
      T_of (proper_of_tail w p.from i z f)

  sends : (code v : Word) → T (begins w code) → image a.rows code ≡ some v → SentByOne (block a.rows w) code v
  sends code v b i =
      let (p, tail, m, f, g) = row_of_image a.rows code v i in
      let (x, e) = tail_of_begins w code (so (begins w code) b) in
      record {
        line = p;
        tail = tail;
        listed = in_block a.rows w p m (extends p m x tail (sym e ∙ f));
        begun = f;
        sent = g;
        only = only p tail m f;
      }
    where
      -- two from-words that begin one code are one, and so are their pairs
      only : (p : Pair) (tail : Word) → Memᴰ p a.rows → code ≡ p.from ++ tail → (q : Pair) → Memᴰ q (block a.rows w)
          → T (begins q.from code) → q ≡ p
      only p tail m f q n c =
          let (y, e) = tail_of_begins q.from code (so (begins q.from code) c) in
          one_row a.rows apart q p (block_own a.rows w q n).0 m y tail (sym e ∙ f)

  some_line : 1 ≤ length (block a.rows w)
  some_line =
      let (p, i, x, m, e) = (answers_exact.too_short a A w (none_of_short a w short).0).0 short in
      nonempty_of_mem (in_block a.rows w p m (T_of (proper_of_tail w p.from i x e)))

  block_of : BlockOf a w (block a.rows w)
  block_of =
      record {
        own = λ p. (block_own a.rows w p, λ h. in_block a.rows w p h.0 h.1);
        none_twice = overlap_of_apart (froms (block a.rows w)) (ordered_apart (froms (block a.rows w)) block_ordered);
        in_order = block_ordered;
        some_line = some_line;
        sends = sends;
      }

-- what the two plans do in turn, the composition does
composed : (a b c : Plan) → Kept a → Kept b → followed a b ≡ Granted c → (w : Word) → routed c w ≡ TooShort
    → BlockOf c w (block c.rows w) × SendsInTurn a b w (block c.rows w)
composed a b c A B g w short =
    let C = demand3.followed_kept a b c A B g in (
      block_of c C w short,
      λ code u v word front i j.
          sends c C w short code v front
          (followed_acts a b c A B g code v word (and_then_some (image a.rows) (image b.rows) code u i ∙ j)),
    )

pub fronts_exact : FrontsExact
fronts_exact =
    record {
      pairs = λ t w p. (block_own t w p, λ h. in_block t w p h.0 h.1);
      kept_plan = block_of;
      composed = composed;
    }
