-- Fronts of codes (change request E1): a code that no from-word begins has no image of its own, but in document 004 it has the images of
-- its parts. These are given by its block, the pairs whose from-words extend it. The block of every front under a kept plan, and under *a
-- then b*, is stated in `FrontsExact`, for every arity and every number of roots. `block` need not be believed: `FrontsExact` fixes it.
-- Read Places.antt next.
use Rattle.std.specs.Prelude.{◌≤◌, ◌≡◌, refl, ◌↔◌, ◌⊎◌, true, false, T, length}
use Rattle.std.proofs.Common.{subst, inl, inr}
use mathlib.Core.List.Memᴰ
use mathlib.Core.List.{[], ◌∷◌, ◌++◌, map, Memᴰ}
use Rattle.std.proofs.Math.Option.{some}
use Rattle.higman.specs.Words.{Word, is_word, begins, begins_properly, spell}
use Rattle.higman.specs.Bases.{overlap}
use Rattle.higman.specs.Tables.{Pair, Table, froms, image, row, ψ}
use Rattle.higman.specs.Normal.{ordered}
use Rattle.higman.specs.Limits.{Plan, Kept}
use Rattle.higman.specs.Answers.{followed, Granted, routed, TooShort}

-- "every pair whose from-word extends the code, in from order". A from-word that equals the code is no extension of it.
unfoldable pub block : Table → Word → Table
block [] w = []
block (p ∷ t) w = elim (begins_properly w p.from) [ true ↦ p ∷ block t w | false ↦ block t w ]

-- A code "begins with exactly one from-word of the lines, and that line's to-word with the tail is" the word v.
pub record SentByOne (lines : Table) (code v : Word) : Type 0 where
  pub line : Pair
  pub tail : Word
  pub listed : Memᴰ line lines
  pub begun : code ≡ line.from ++ tail
  pub sent : v ≡ line.to ++ tail
  pub only : (p : Pair) → Memᴰ p lines → T (begins p.from code) → p ≡ line

-- What lines say of a front w under a plan. A code is long enough for a plan if it has an image under it.
pub record BlockOf (a : Plan) (w : Word) (lines : Table) : Type 0 where
  -- they are the plan's own pairs, those that extend the front: none left out, and none twice
  pub own : (p : Pair) → Memᴰ p lines ↔ (Memᴰ p a.rows × T (begins_properly w p.from))
  pub none_twice : overlap (froms lines) ≡ false
  pub in_order : ordered (froms lines) ≡ true
  pub some_line : 1 ≤ length lines
  -- they send every code of any length that extends the front and is long enough
  pub sends : (code v : Word) → T (begins w code) → image a.rows code ≡ some v → SentByOne lines code v

-- "every code of any length that extends the front, is long enough for a and has an image under a long enough for b begins with exactly
-- one from-word of the lines, and that line's to-word with the tail is b's image of a's image"
abbrev pub SendsInTurn : Plan → Plan → Word → Table → Type 0
SendsInTurn a b w lines =
    (code u v : Word) → T (is_word a.shape code) → T (begins w code) → image a.rows code ≡ some u → image b.rows u ≡ some v
    → SentByOne lines code v

pub record FrontsExact : Type 0 where
  -- the block of any word under any table
  pub pairs : (t : Table) (w : Word) (p : Pair) → Memᴰ p (block t w) ↔ (Memᴰ p t × T (begins_properly w p.from))
  -- where the library's route of a code says 13, the plan has a block for it
  pub kept_plan : (a : Plan) → Kept a → (w : Word) → routed a w ≡ TooShort → BlockOf a w (block a.rows w)
  -- the block of "a kept a then b"
  pub composed : (a b c : Plan) → Kept a → Kept b → followed a b ≡ Granted c → (w : Word) → routed c w ≡ TooShort
      → BlockOf c w (block c.rows w) × SendsInTurn a b w (block c.rows w)

-- "`B⇥111⇥11`, `B⇥112⇥121`"; the belt alone; a from-word, and a code behind one
block_example : map (block ψ) (spell 11 ∷ spell 1 ∷ spell 12 ∷ spell 1112 ∷ [])
    ≡ (row 111 11 ∷ row 112 121 ∷ []) ∷ ψ ∷ [] ∷ [] ∷ []
unfolding block
block_example = refl

-- 1121 begins with 112 alone of the two, and goes to 1211
sent_example : SentByOne (row 111 11 ∷ row 112 121 ∷ []) (spell 1121) (spell 1211)
sent_example =
    record { line = row 112 121; tail = spell 1; listed = Memᴰ.tail (Memᴰ.head refl); begun = refl; sent = refl; only = only }
  where
    not_first : (p : Pair) → (p ≡ row 111 11) ⊎ Memᴰ p (row 112 121 ∷ []) → T (begins p.from (spell 1121)) → p ≡ row 112 121
    not_first p (inl e) b = absurd (subst (λ q. T (begins q.from (spell 1121))) e b)
    not_first p (inr m) b = Memᴰ.eq_of_singleton m

    only : (p : Pair) → Memᴰ p (row 111 11 ∷ row 112 121 ∷ []) → T (begins p.from (spell 1121)) → p ≡ row 112 121
    only p m b = not_first p (Memᴰ.cases_cons m) b
