-- The search that makes an image makes the place too: where it finds a pair, where it finds none, and where the words are apart, so that a
-- pair that begins the word is the first that does.
use Prim.Native.Nat.{ℕ, suc, ◌<◌}
use native.Mathlib.Omega.{arith}
use mathlib.Core.Path.{◌≡◌, refl, sym, ◌∙◌, ap}
use mathlib.Core.Bool.{true, false}
use mathlib.Core.Logic.{◌⊎◌, inl, inr}
use mathlib.Core.List.Memᴰ
use mathlib.Core.List.{[], ◌∷◌, ◌++◌}
use mathlib.Core.List.{Memᴰ}
use mathlib.Core.Option
use mathlib.Core.Option.{Option, none, some}
use lib.ListN.{length, get_or, take, drop, length-append, take-append-drop}
use lib.Seq.{drop-cons, length-take-le}
use Rattle.higman.specs.Words.{Word, after, begins}
use Rattle.higman.specs.Tables.{Pair, Table, froms, first_match, image}
use Rattle.higman.specs.Places.{place_of, AtPlace}
use Rattle.higman.proofs.Tests.{passes}
use Rattle.higman.proofs.Prefixes.{after_append, begins_append, tail_of_begins, comparable}
use Rattle.higman.proofs.Proper.{ApartFrom, Apart}
use Rattle.higman.proofs.Matches.{FirstAt, first_behind, match_found, match_nowhere, match_map}

-- where nothing stands at a place
abbrev pub no_pair : Pair
no_pair = record { from = []; to = [] }

-- the place found in a column is that found among its pairs
place_of_rows : (t : Table) (w : Word) → place_of (froms t) w ≡ Option.get_or (first_match (λ p. p.from) (λ before p tail. suc before) t w) 0
unfolding place_of
place_of_rows t w = ap (λ o. Option.get_or o 0) (match_map (λ u. u) (λ p. p.from) (λ before u tail. suc before) t w)

module _ (t : Table) (w : Word) (r : ℕ) (f : FirstAt (λ p. p.from) no_pair t w r) where
  module _ (h : r < length t) where
    abbrev pair_there : Pair
    pair_there = get_or t r no_pair

    pub there : AtPlace t (suc r) pair_there
    there =
        record {
          before = take r t;
          behind = drop (suc r) t;
          parts = sym (take-append-drop r t) ∙ ap (λ x. take r t ++ x) (drop-cons t r no_pair h);
          counted = ap suc (sym (length-take-le r t (omega arith)));
        }

    module _ (tail : Word) (e : after pair_there.from w ≡ some tail) where
      pub image_there : image t w ≡ some (pair_there.to ++ tail)
      image_there = match_found (λ p. p.from) no_pair (λ before p tail. p.to ++ tail) t w r f h tail e

      pub place_there : place_of (froms t) w ≡ suc r
      place_there =
          place_of_rows t w
          ∙ ap (λ o. Option.get_or o 0) (match_found (λ p. p.from) no_pair (λ before p tail. suc before) t w r f h tail e)

  module _ (h : r ≡ length t) where
    pub image_nowhere : image t w ≡ none
    image_nowhere = match_nowhere (λ p. p.from) no_pair (λ before p tail. p.to ++ tail) t w r f h

    pub place_nowhere : place_of (froms t) w ≡ 0
    place_nowhere =
        place_of_rows t w ∙ ap (λ o. Option.get_or o 0) (match_nowhere (λ p. p.from) no_pair (λ before p tail. suc before) t w r f h)

-- where words are apart, a pair that begins a word is the first that does
module _ (p : Pair) (behind : Table) (w tail : Word) (e : w ≡ p.from ++ tail) where
  not_before : (q : Pair) (before : Table) → ApartFrom q.from (froms (before ++ p ∷ behind)) → begins q.from w ≡ false
  not_before q before apart = by_test (passes (begins q.from w))
    where
      listed : Memᴰ p.from (froms (before ++ p ∷ behind))
      listed = Memᴰ.map (λ r. r.from) (Memᴰ.append_right before (Memᴰ.head refl))

      either : ((z : Word) × (p.from ≡ q.from ++ z)) ⊎ ((z : Word) × (q.from ≡ p.from ++ z)) → ⊥
      either (inl (z, f)) = (apart p.from listed z).0 f
      either (inr (z, f)) = (apart p.from listed z).1 f

      by_test : (begins q.from w ≡ true) ⊎ (begins q.from w ≡ false) → begins q.from w ≡ false
      by_test (inl b) =
          let (x, f) = tail_of_begins q.from w b in
          absurd (either (comparable q.from p.from x tail (sym f ∙ e)))
      by_test (inr b) = b

  first_there : (before : Table) → Apart (froms (before ++ p ∷ behind))
      → FirstAt (λ r. r.from) no_pair (before ++ p ∷ behind) w (length before)
  first_there [] apart =
      record {
        within = omega arith;
        earlier = λ j h. absurd (omega arith);
        found = λ h. ap (begins p.from) e ∙ begins_append p.from tail;
      }
  first_there (q ∷ before) apart =
      first_behind (λ r. r.from) no_pair q (before ++ p ∷ behind) w (length before) (not_before q before apart.0)
      (first_there before apart.1)

  pair_at_lem : (before : Table) → get_or (before ++ p ∷ behind) (length before) no_pair ≡ p
  pair_at_lem [] = refl
  pair_at_lem (q ∷ before) = pair_at_lem before

  tail_at : (before : Table) → after (get_or (before ++ p ∷ behind) (length before) no_pair).from w ≡ some tail
  tail_at before = ap (λ q. after q.from w) (pair_at_lem before) ∙ ap (after p.from) e ∙ after_append p.from tail

  pub image_apart : (before : Table) → Apart (froms (before ++ p ∷ behind)) → image (before ++ p ∷ behind) w ≡ some (p.to ++ tail)
  image_apart before apart =
      let t = before ++ p ∷ behind in
      let n = length before in
      image_there t w n (first_there before apart) (omega (arith, length-append before (p ∷ behind))) tail (tail_at before)
      ∙ ap (λ q. some (q.to ++ tail)) (pair_at_lem before)

  pub place_apart : (before : Table) → Apart (froms (before ++ p ∷ behind)) → place_of (froms (before ++ p ∷ behind)) w ≡ suc (length before)
  place_apart before apart =
      let t = before ++ p ∷ behind in
      let n = length before in
      place_there t w n (first_there before apart) (omega (arith, length-append before (p ∷ behind))) tail (tail_at before)
