-- The lines of a listing or a block: the lengths of lines and of whole listings; the lines of pairs that are left from a place of the two
-- columns on, which are that of the pair there and then those from the next place on; and a loop that writes them.
use Prim.Native.Nat.{ℕ, suc, ◌+◌, ◌^◌, ◌≤◌, ◌<◌}
use mathlib.Core.Path.{◌≡◌, refl, sym, ◌∙◌, ap, ap₂, subst}
use mathlib.Core.List.{List, [], ◌∷◌, ◌++◌, map, append-nil, append_assoc}
use native.Mathlib.Numerals.{add-one}
use native.Mathlib.Omega.{arith}
use lib.ListN.{length, get_or, drop, length-append, length-map, drop_of_length-le}
use lib.Seq.{drop-cons}
use Rattle.higman.specs.Words.{Shape}
use Rattle.higman.specs.Tables.{Pair, Table}
use Rattle.higman.specs.Limits.{max_digits}
use Rattle.higman.specs.Text.{tab, line_end, decimal}
use Rattle.higman.specs.Places.{Placed, placed_from}
use Rattle.higman.specs.Listing.{pair_fields, pair_record, pair_records, join_lines, close_record, listing}
use Rattle.words.proofs.Limit.{word_fits}
use Rattle.words.specs.Writing.{Wrote}
use Rattle.columns.specs.Packed.{pair_of, table}
use Rattle.words.proofs.Runs.{wrote_nothing, wrote_then}
use Rattle.tables.specs.Lines.{pair_lines, block_line, block_lines}

pub fields_size : (letter : ℕ) (p : Pair) → length (pair_fields letter p) ≡ 3 + length p.from + length p.to
fields_size letter p = simp (length-append, length-map) (omega arith)

pub pair_size : (p : Pair) → length (pair_record p) ≡ 4 + length p.from + length p.to
pair_size p = omega (arith, length-append (pair_fields 77 p) (line_end ∷ []), fields_size 77 p)

pub block_size : (l : Placed) → length (block_line l) ≡ 5 + length l.pair.from + length l.pair.to + length (decimal l.place)
block_size l =
    let place = decimal l.place in
    omega (
      arith,
      length-append (pair_fields 66 l.pair) (tab ∷ (place ++ line_end ∷ [])),
      length-append place (line_end ∷ []),
      fields_size 66 l.pair,
    )

-- two packed words have few digits
pub pair_small : (x y : ℕ) → x < 2 ^ 64 → y < 2 ^ 64 → length (pair_record (pair_of x y)) ≤ 36
unfolding max_digits
pair_small x y h k = omega (arith, pair_size (pair_of x y), word_fits x h, word_fits y k)

pub listing_size : (slot : ℕ) (s : Shape) (t : Table) → length (listing slot (record { shape = s; rows = t })) ≡ 10 + length (join_lines (pair_records t))
listing_size slot s t = omega (arith, length-append (join_lines (pair_records t)) close_record)

module _ (from to : List ℕ) (i : ℕ) where
  -- the M records from the next place on
  abbrev lines_behind : List ℕ
  lines_behind = pair_lines (drop (i + 1) from) (drop (i + 1) to)

  pub lines_none : length from ≤ i → pair_lines (drop i from) (drop i to) ≡ []
  lines_none h = ap (λ f. pair_lines f (drop i to)) (drop_of_length-le from h)

  pub block_none : (k : ℕ) → length from ≤ i → block_lines k (drop i from) (drop i to) ≡ []
  block_none k h = ap (λ f. block_lines k f (drop i to)) (drop_of_length-le from h)

  -- the words there
  module _ (h : i < length from) (e : length from ≡ length to) {x y : ℕ} (here : x ≡ get_or from i 0) (here' : y ≡ get_or to i 0) where
    rows_here : table (drop i from) (drop i to) ≡ pair_of x y ∷ table (drop (i + 1) from) (drop (i + 1) to)
    rows_here =
        ap₂ table (drop-cons from i 0 h) (drop-cons to i 0 (omega arith))
        ∙ ap (λ n. pair_of (get_or from i 0) (get_or to i 0) ∷ table (drop n from) (drop n to)) (sym (add-one i))
        ∙ ap₂ (λ f t. pair_of f t ∷ table (drop (i + 1) from) (drop (i + 1) to)) (sym here) (sym here')

    pub lines_step : pair_lines (drop i from) (drop i to) ≡ pair_record (pair_of x y) ++ lines_behind
    lines_step = ap (λ t. join_lines (pair_records t)) rows_here

    pub lines_size : length (pair_lines (drop i from) (drop i to)) ≡ length (pair_record (pair_of x y)) + length lines_behind
    lines_size = ap length lines_step ∙ length-append (pair_record (pair_of x y)) lines_behind

    -- the same of the lines of a block, where the pair there has the place k
    pub block_step : (k next : ℕ) → next ≡ suc k
        → block_lines k (drop i from) (drop i to)
        ≡ block_line (record { place = k; pair = pair_of x y }) ++ block_lines next (drop (i + 1) from) (drop (i + 1) to)
    block_step k next n =
        ap (λ t. join_lines (map block_line (placed_from k t))) rows_here
        ∙ ap (λ m. block_line (record { place = k; pair = pair_of x y }) ++ block_lines m (drop (i + 1) from) (drop (i + 1) to)) (sym n)

-- Lines that a loop writes one behind the other, where `lines i` are those that are left after i turns: those before are written.
pub record LinesWritten (lines : ℕ → List ℕ) (count : ℕ) (buffer : List ℕ) (at : ℕ) (out : List ℕ) (next i : ℕ) : Type 0 where
  pub done : List ℕ
  pub parts : lines 0 ≡ done ++ lines i
  pub wrote : Wrote done buffer at out next
  pub within : i ≤ count
  pub long : length out ≡ length buffer

module _ (lines : ℕ → List ℕ) (count : ℕ) (buffer : List ℕ) (at : ℕ) where
  pub none_written : LinesWritten lines count buffer at buffer at 0
  none_written = record { done = []; parts = refl; wrote = wrote_nothing _ _; within = omega arith; long = refl }

  module _ {out : List ℕ} {next i : ℕ} (v : LinesWritten lines count buffer at out next i) where
    module _ (line : List ℕ) (room : at + length (lines 0) ≤ length buffer) (step : lines i ≡ line ++ lines (i + 1)) where
      -- the next line has room
      pub line_room : next + length line ≤ length out
      line_room =
          omega (
            arith,
            ap length v.parts,
            length-append v.done (lines i),
            ap length step,
            length-append line (lines (i + 1)),
            v.wrote.place,
            v.long,
          )

      -- and once it is written, one more is
      pub line_written : {out' : List ℕ} {next' : ℕ} (turns : ℕ) → turns ≡ i + 1 → i < count → length out' ≡ length buffer
          → Wrote line out next out' next' → LinesWritten lines count buffer at out' next' turns
      line_written turns more h long w =
          record {
            done = v.done ++ line;
            parts =
                v.parts
                ∙ ap (λ x. v.done ++ x) step
                ∙ sym (append_assoc v.done line (lines (i + 1)))
                ∙ ap (λ k. (v.done ++ line) ++ lines k) (sym more);
            wrote = wrote_then (omega arith) v.wrote w;
            within = omega arith;
            long = long;
          }

    -- where none is left, all are written
    pub all_written : lines i ≡ [] → Wrote (lines 0) buffer at out next
    all_written e = subst (λ s. Wrote s buffer at out next) (sym (v.parts ∙ ap (λ x. v.done ++ x) e ∙ append-nil v.done)) v.wrote
