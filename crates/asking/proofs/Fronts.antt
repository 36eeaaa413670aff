-- The block of a code that no from-word begins, as two lent columns hold it: the code is short enough to be packed, its block is a run of
-- the columns' pairs, and its lines and their number have room in the output.
use Prim.Native.Nat.{ℕ, suc, ◌+◌, ◌-◌, ◌≤◌}
use mathlib.Core.Path.{◌≡◌, refl, sym, ◌∙◌, ap, subst}
use mathlib.Core.Bool.{true}
use mathlib.Core.List.{List, [], ◌∷◌, map, append_assoc}
use native.Mathlib.Omega.{arith}
use lib.ListN.{length, take, drop, length-append, length-drop}
use lib.Seq.{length-take-le, take_all}
use Rattle.higman.specs.Words.{Word}
use Rattle.higman.specs.Tables.{Table}
use Rattle.higman.specs.Limits.{Plan, Kept, max_pairs, max_digits, is_code}
use Rattle.higman.specs.Text.{word_of, decimal}
use Rattle.higman.specs.Answers.{routed, TooShort}
use Rattle.higman.specs.Listing.{join_lines}
use Rattle.higman.specs.Places.{Placed, placed_from, placed_block}
use Rattle.higman.proofs.Tests.{so}
use Rattle.higman.proofs.Statements.{answers_exact}
use Rattle.higman.proofs.Answers.{none_of_short}
use Rattle.words.specs.Packed.{unpack}
use Rattle.words.specs.Bytes.{shape}
use Rattle.words.specs.Writing.{Wrote}
use Rattle.words.proofs.Runs.{wrote_then}
use Rattle.columns.specs.Packed.{words_of, table, sorted}
use Rattle.columns.specs.Columns.{Extending}
use Rattle.columns.proofs.Rows.{table_length}
use Rattle.columns.proofs.Extensions.{block_run}
use Rattle.tables.specs.Lines.{block_line, block_lines, BlockFits}
use Rattle.tables.specs.Routing.{IsCode}
use Rattle.operations.specs.declared.lent.Lent.{Lent}
use Rattle.operations.specs.Plans.{lent_plan}
use Rattle.operations.proofs.KeptValues.{lent_kept}
use Rattle.operations.proofs.Codes.{searchable, code_digits}
use Rattle.desk.specs.Bytes.{line_of, ok_line, part_fields, reply_bytes}
use Rattle.desk.proofs.Grammar.{text_exact}
use Rattle.replies.specs.Sizes.{max_reply}
use Rattle.desk.proofs.Sums.{few_pairs}
use Rattle.replies.proofs.Sizes.{words_fit, from_fits, block_lines_fit, block_count_fits}
use Rattle.slots.proofs.Windows.{written_length}
use Rattle.asking.specs.Asked.{AskedOfFront, block_reply}

-- a code that begins a from-word has no more digits than that
short_fits : (p : Plan) → Kept p → (w : Word) → routed p w ≡ TooShort → length w ≤ max_digits
short_fits p k w short =
    let (q, i, x, m, e) = (answers_exact.too_short p k w (none_of_short p w short).0).0 short in
    omega (arith, from_fits q (words_fit p k q m), ap length e, length-append w (i ∷ x))

-- B⇥from⇥to⇥place
line_is_part : (l : Placed) → block_line l ≡ line_of (part_fields l)
line_is_part l = simp append_assoc

placed_length : (k : ℕ) (t : Table) → length (placed_from k t) ≡ length t
placed_length k [] = refl
placed_length k (p ∷ t) = ap suc (placed_length (suc k) t)

module _ {lent : Lent} {code out : List ℕ} (a : AskedOfFront lent code out) where
  abbrev plan : Plan
  plan = lent_plan lent

  abbrev from : List ℕ
  from = lent.from.now

  abbrev to : List ℕ
  to = lent.to.now

  kept : Kept plan
  kept = lent_kept lent

  abbrev inside : List Placed
  inside = placed_block (table from to) (word_of code)

  pub front_digits : IsCode code
  front_digits =
      code_digits lent code
      (so (is_code (shape lent.shape.arity lent.shape.roots) (word_of code)) (none_of_short plan (word_of code) a.short).0)

  pub front_sorted : sorted (words_of from) ≡ true
  front_sorted = (searchable lent code).in_order

  -- what is found of the packed front is found of the code
  pub front_whole : (u start end : ℕ) → unpack u ≡ take max_digits (word_of code) → Extending from (unpack u) start end
      → Extending from (word_of code) start end
  front_whole u start end f x =
      let whole = f ∙ take_all max_digits (word_of code) (short_fits plan kept (word_of code) a.short) in
      subst (λ w. Extending from w start end) whole x

  module _ {start end : ℕ} (x : Extending from (word_of code) start end) where
    abbrev run : List ℕ → List ℕ
    run column = take (end - start) (drop start column)

    -- the run of pairs that was found is the block, and its first place is behind those that are passed over
    run_block : placed_from (start + 1) (table (run from) (run to)) ≡ inside
    run_block = sym (block_run (word_of code) from to start end lent.paired x)

    run_length : length (run from) ≡ end - start
    run_length = length-take-le (end - start) (drop start from) (omega (arith, length-drop start from, x.within, x.forward))

    run_paired : length (run from) ≡ length (run to)
    run_paired =
        run_length
        ∙ sym (length-take-le (end - start) (drop start to) (omega (arith, length-drop start to, x.within, x.forward, lent.paired)))

    run_count : end - start ≡ length inside
    run_count =
        sym run_length
        ∙ sym (table_length (run from) (run to) run_paired)
        ∙ sym (placed_length (start + 1) (table (run from) (run to)))
        ∙ ap length run_block

    from_few : length from ≤ max_pairs
    from_few = omega (arith, table_length from to lent.paired, few_pairs plan kept)

    pub run_few : end - start ≤ max_pairs
    run_few = omega (arith, from_few, x.within)

    pub start_few : start + 1 ≤ suc max_pairs
    start_few = omega (arith, from_few, x.within, x.forward)

    abbrev lines : List ℕ
    lines = block_lines (start + 1) (run from) (run to)

    run_lines : lines ≡ join_lines (map (λ l. line_of (part_fields l)) inside)
    run_lines =
        ap (λ f. join_lines (map f (placed_from (start + 1) (table (run from) (run to))))) (λ i l. line_is_part l i)
        ∙ ap (λ ls. join_lines (map (λ l. line_of (part_fields l)) ls)) run_block

    lines_room : 0 + length lines ≤ length out
    unfolding max_reply max_pairs
    lines_room = omega (arith, a.space, ap length run_lines, block_lines_fit plan (word_of code) kept)

    pub lines_fit : BlockFits (start + 1) (run from) (run to) 0 (length out)
    lines_fit =
        record {
          paired = run_paired;
          places = omega (arith, run_length, from_few, x.within, x.forward);
          room = lines_room;
        }

    module _ {out' : List ℕ} {used : ℕ} (v : Wrote lines out 0 out' used) where
      pub count_room : used + length (ok_line (decimal (end - start) ∷ [])) ≤ length out'
      unfolding max_reply max_pairs
      count_room =
          let long = ap length v.contents ∙ written_length out 0 lines lines_room in
          omega (
            arith,
            a.space,
            v.place,
            ap length run_lines,
            block_lines_fit plan (word_of code) kept,
            ap (λ n. length (ok_line (decimal n ∷ []))) run_count,
            block_count_fits plan (word_of code) kept,
          )

      pub block_wrote : {out'' : List ℕ} {r : ℕ} → Wrote (ok_line (decimal (end - start) ∷ [])) out' used out'' r
          → Wrote (block_reply from to code) out 0 out'' r
      unfolding reply_bytes
      block_wrote {out''} {r} w =
          let last = subst (λ n. Wrote (ok_line (decimal n ∷ [])) out' used out'' r) run_count w in
          let first = subst (λ l. Wrote l out 0 out' used) run_lines v in
          subst (λ l. Wrote l out 0 out'' r) (sym (text_exact.replies.block inside)) (wrote_then (omega arith) first last)
