-- A term of the statement of specs/Places.antt: the search that makes the image makes the place, and a block's lines keep the places that
-- the whole table gives them.
use Prim.Native.Nat.{ℕ, suc, ◌<◌}
use native.Mathlib.Omega.{arith}
use mathlib.Core.Path.{◌≡◌, refl, sym, ◌∙◌, ap, subst}
use mathlib.Core.Bool.{true, false}
use mathlib.Core.Logic.{◌↔◌, ◌⊎◌, inl, inr}
use mathlib.Core.List.{List, [], ◌∷◌, ◌++◌, append_assoc}
use mathlib.Core.Option.{Option, none, some, none-ne-some, some-injective}
use borrow.Author.Tests.{ltb-true, ltb-false}
use lib.Dec.{ltb}
use lib.ListN.{length, get_or}
use Rattle.higman.specs.Words.{Shape, Word, after, given, begins, begins_properly}
use Rattle.higman.specs.Tables.{Pair, Table, froms, image}
use Rattle.higman.specs.Limits.{Plan, Kept}
use Rattle.higman.specs.Listing.{open_record, pair_record, pair_records, close_record, join_lines, listing}
use Rattle.higman.specs.Places.{place_of, Placed, extending_in, placed_block, AtPlace, ListedAt, RoutesAt}
use Rattle.higman.specs.Places.{PlacesExact}
use Rattle.higman.proofs.Tests.{passes, clash}
use Rattle.higman.proofs.Prefixes.{after_some_lem, tail_of_begins}
use Rattle.higman.proofs.Proper.{Apart}
use Rattle.higman.proofs.Ordered.{ordered_apart}
use Rattle.higman.proofs.Listing.{listing_faithful}
use Rattle.higman.proofs.Matches.{FirstAt, first_place}
use Rattle.higman.proofs.PlacesFound.{no_pair, there, image_there, place_there, image_nowhere, place_nowhere, image_apart, place_apart}
use Rattle.higman.proofs.PlacedLines.{block_pairs, places}

-- a word is routed from its place, or nothing matches it and it has none
abbrev Found : Table → Word → Type 0
Found t w =
    ((v : Word) × (image t w ≡ some v) × RoutesAt t w v (place_of (froms t) w)) ⊎ ((image t w ≡ none) × (place_of (froms t) w ≡ 0))

found : (t : Table) (w : Word) → Found t w
found t w =
    let (r, f) = first_place (λ p. p.from) no_pair t w in
    by_end r f (passes (ltb r (length t)))
  where
    routed : (r : ℕ) (f : FirstAt (λ p. p.from) no_pair t w r) (h : r < length t) (o : Option Word) → after (get_or t r no_pair).from w ≡ o
        → given o ≡ true → Found t w
    routed r f h none e g = absurd (clash g refl)
    routed r f h (some tail) e g =
        let p = get_or t r no_pair in
        inl (
          p.to ++ tail,
          image_there t w r f h tail e,
          record {
            pair = p;
            tail = tail;
            there = subst (λ k. AtPlace t k p) (sym (place_there t w r f h tail e)) (there t w r f h);
            begun = after_some_lem p.from w tail e;
            sent = refl;
          },
        )

    by_end : (r : ℕ) → FirstAt (λ p. p.from) no_pair t w r → (ltb r (length t) ≡ true) ⊎ (ltb r (length t) ≡ false) → Found t w
    by_end r f (inl b) = let h = ltb-true r (length t) b in routed r f h (after (get_or t r no_pair).from w) refl (f.found h)
    by_end r f (inr b) =
        let end : r ≡ length t = omega (arith, f.within, ltb-false r (length t) b) in
        inr (image_nowhere t w r f end, place_nowhere t w r f end)

nowhere : (t : Table) (w : Word) → (place_of (froms t) w ≡ 0) ↔ (image t w ≡ none)
nowhere t w = (λ e. no_image (found t w) e, λ e. no_place (found t w) e)
  where
    no_image : Found t w → place_of (froms t) w ≡ 0 → image t w ≡ none
    no_image (inl (v, i, y)) e = absurd (omega (arith, y.there.counted, e))
    no_image (inr (i, k)) e = i

    no_place : Found t w → image t w ≡ none → place_of (froms t) w ≡ 0
    no_place (inl (v, i, y)) e = absurd (none-ne-some v (sym e ∙ i))
    no_place (inr (i, k)) e = k

routes : (t : Table) (w v : Word) → image t w ≡ some v → RoutesAt t w v (place_of (froms t) w)
routes t w v e = by_found (found t w)
  where
    by_found : Found t w → RoutesAt t w v (place_of (froms t) w)
    by_found (inl (u, i, y)) = subst (λ x. RoutesAt t w x (place_of (froms t) w)) (some-injective u v (sym i ∙ e)) y
    by_found (inr (i, k)) = absurd (none-ne-some v (sym i ∙ e))

only : (a : Plan) → Kept a → (w v : Word) (k : ℕ) → RoutesAt a.rows w v k
    → (image a.rows w ≡ some v) × (k ≡ place_of (froms a.rows) w)
only a A w v k r =
    let p = r.pair in
    let y = r.there in
    let e = r.begun in
    let apart = subst (λ t. Apart (froms t)) y.parts (ordered_apart (froms a.rows) A.in_order) in (
      ap (λ t. image t w) y.parts ∙ image_apart p y.behind w r.tail e y.before apart ∙ ap some (sym r.sent),
      y.counted ∙ sym (ap (λ t. place_of (froms t) w) y.parts ∙ place_apart p y.behind w r.tail e y.before apart),
    )

-- so a pair whose from-word begins a word stands at the word's place
pub only_place : (a : Plan) → Kept a → (w : Word) (k : ℕ) (p : Pair) → AtPlace a.rows k p → begins p.from w ≡ true
    → k ≡ place_of (froms a.rows) w
only_place a A w k p y b =
    let (tail, e) = tail_of_begins p.from w b in
    (only a A w (p.to ++ tail) k (record { pair = p; tail = tail; there = y; begun = e; sent = refl })).1

-- the lines of a block, one by one
module _ (l : Placed) (ls : List Placed) (w : Word) where
  pub line_taken : begins_properly w l.pair.from ≡ true → extending_in (l ∷ ls) w ≡ l ∷ extending_in ls w
  line_taken e = rw (e, extending_in)

  pub line_passed : begins_properly w l.pair.from ≡ false → extending_in (l ∷ ls) w ≡ extending_in ls w
  line_passed e = rw (e, extending_in)

-- lines of pairs, parted at a pair
lines_parted : (before : Table) (p : Pair) (behind : Table)
    → join_lines (pair_records (before ++ p ∷ behind)) ≡ join_lines (pair_records before) ++ (pair_record p ++ join_lines (pair_records behind))
lines_parted [] p behind = refl
lines_parted (q ∷ before) p behind =
    ap (λ x. pair_record q ++ x) (lines_parted before p behind)
    ∙ sym (append_assoc (pair_record q) (join_lines (pair_records before)) (pair_record p ++ join_lines (pair_records behind)))

listing_parted : (slot : ℕ) (s : Shape) (before behind : Table) (p : Pair)
    → listing slot (record { shape = s; rows = before ++ p ∷ behind })
    ≡ open_record slot s ++ (join_lines (pair_records before) ++ (pair_record p ++ (join_lines (pair_records behind) ++ close_record)))
listing_parted slot s before behind p =
    let first = join_lines (pair_records before) in
    let last = join_lines (pair_records behind) in
    ap (λ x. open_record slot s ++ (x ++ close_record)) (lines_parted before p behind)
    ∙ ap (λ x. open_record slot s ++ x)
    (append_assoc first (pair_record p ++ last) close_record ∙ ap (λ x. first ++ x) (append_assoc (pair_record p) last close_record))

unlisted : (a : Plan) (slot k : ℕ) (p : Pair) → ListedAt a slot k p → AtPlace a.rows k p
unlisted a slot k p y =
    let b : Plan = record { shape = a.shape; rows = y.before ++ p ∷ y.behind } in
    record {
      before = y.before;
      behind = y.behind;
      parts = ap (λ c. c.rows)
          ((listing_faithful.whole_listing slot a b).0 (y.lines ∙ sym (listing_parted slot a.shape y.before y.behind p)));
      counted = y.counted;
    }

listed : (a : Plan) (slot k : ℕ) (p : Pair) → AtPlace a.rows k p → ListedAt a slot k p
listed a slot k p y =
    record {
      before = y.before;
      behind = y.behind;
      lines = ap (λ t. listing slot (record { shape = a.shape; rows = t })) y.parts
          ∙ listing_parted slot a.shape y.before y.behind p;
      counted = y.counted;
    }

next : (t : Table) (k : ℕ) (p q : Pair) → AtPlace t k p → AtPlace (q ∷ t) (suc k) p
next t k p q y =
    record {
      before = q ∷ y.before;
      behind = y.behind;
      parts = ap (λ x. q ∷ x) y.parts;
      counted = ap suc y.counted;
    }

pub places_exact : PlacesExact
unfolding placed_block
places_exact =
    record {
      first = λ t p. record { before = []; behind = t; parts = refl; counted = refl };
      next = next;
      nowhere = nowhere;
      routes = routes;
      only = only;
      pairs = block_pairs;
      places = places;
      listed = λ a slot k p. (listed a slot k p, unlisted a slot k p);
    }
