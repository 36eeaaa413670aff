-- The lines of a listing are the texts of P, an M for each pair and E, and the words of the M records are those of the plan. So what higman
-- says of the plan's pairs, that no table with the same action is shorter, is said of what L replies.
use Prim.Native.Nat.{ℕ}
use mathlib.Core.Path.{◌≡◌, refl, sym, ◌∙◌, ap, ap₂, subst}
use mathlib.Core.Bool.{not}
use mathlib.Core.List.{List, [], ◌∷◌, ◌++◌, map, append_assoc}
use mathlib.Core.Option.{some}
use lib.Dec.{T, leb, eqb, lit<}
use lib.ListN.{length}
use Rattle.higman.specs.Words.{Shape}
use Rattle.higman.specs.Bases.{all}
use Rattle.higman.specs.Tables.{Table, froms, tos}
use Rattle.higman.specs.Limits.{Plan, Kept, shape_in_range, granted, max_pairs, pair_fits}
use Rattle.higman.specs.Text.{Bytes, tab, line_end, word_bytes}
use Rattle.higman.specs.Listing.{slot_number, is_slot, pair_record, pair_records, join_lines, close_record, listing}
use Rattle.higman.specs.Shortest.{NotShorter}
use Rattle.higman.proofs.Tests.{T_of, and_right, all_cons}
use Rattle.higman.proofs.Columns.{column_is_basis}
use Rattle.higman.proofs.KeptPlans.{in_range, arity_of_range}
use Rattle.higman.proofs.Shortest.{kept_not_shorter}
use Rattle.desk.specs.Desk.{Desk, held}
use Rattle.desk.specs.Records.{M, E, record_text}
use Rattle.desk.specs.Replies.{lists}
use Rattle.desk.specs.Bytes.{reply_bytes}
use Rattle.desk.specs.Session.{lines_from, unended}
use Rattle.desk.specs.Theorems.{TypedPair, typed_table, typed_records, ShortestSheet, NoShorterSheet}
use Rattle.desk.proofs.Outcomes.{passed}
use Rattle.desk.proofs.Session.{lines_exact}
use Rattle.desk.proofs.ReadBack.{Without, open_line, open_text, open_line_inside, slot_plain, pair_line, pair_line_inside, pair_record_lem}
use Rattle.desk.proofs.ReadBack.{pair_back, Spelt, spelt}
use Rattle.desk.proofs.Replies.{show_steps}

-- the pairs of a table as they are printed
abbrev as_printed : Table → List TypedPair
as_printed t = map (λ p. record { from = word_bytes p.from; to = word_bytes p.to }) t

first_line : (line rest : Bytes) → Without line_end line → lines_from [] (line ++ line_end ∷ rest) ≡ line ∷ lines_from [] rest
first_line line rest h = lines_exact.ended line rest (inside line h)
  where
    inside : (l : Bytes) → Without line_end l → T (unended l)
    inside [] k = tt
    inside (b ∷ l) k = all_cons (λ c. not (eqb c line_end)) b l (T_of (ap not k.0)) (inside l k.1)

pair_lines_lem : (t : Table)
    → lines_from [] (join_lines (pair_records t) ++ close_record) ≡ map record_text (map (λ p. M p.from p.to) (as_printed t) ++ E ∷ [])
unfolding record_text
pair_lines_lem [] = refl
pair_lines_lem (p ∷ t) =
    let rest : Bytes = join_lines (pair_records t) ++ close_record in
    ap (lines_from []) (append_assoc (pair_record p) (join_lines (pair_records t)) close_record ∙ pair_record_lem p rest)
    ∙ first_line (pair_line p) rest (pair_line_inside p)
    ∙ ap (λ ls. pair_line p ∷ ls) (pair_lines_lem t)

pairs_back : (s : Shape) → T (shape_in_range s) → (t : Table) → Spelt s t → typed_table (as_printed t) ≡ t
pairs_back s r [] h = refl
pairs_back s r (p ∷ t) h = ap₂ ◌∷◌ (pair_back s r p h.0) (pairs_back s r t h.1)

module _ (a : Plan) (K : Kept a) where
  listing_lines : (c : ℕ) → T (is_slot c)
      → lines_from [] (listing c a) ≡ map record_text (typed_records c a.shape (as_printed a.rows))
  listing_lines c h =
      let range = in_range a.shape K.in_range in
      let text = open_text c a.shape (slot_plain c tab h (lit< tt)) range.arity_high range.roots_high in
      first_line (open_line c a.shape) (join_lines (pair_records a.rows) ++ close_record)
      (open_line_inside c a.shape (slot_plain c line_end h (lit< tt)))
      ∙ ap₂ ◌∷◌ (sym text) (pair_lines_lem a.rows)

  rows_spelt : Spelt a.shape a.rows
  unfolding granted
  rows_spelt =
      let n = arity_of_range a.shape K.in_range in
      let from_words = ((column_is_basis a.shape n (froms a.rows)).0 K.bases.from_basis).words in
      let to_words = ((column_is_basis a.shape n (tos a.rows)).0 K.bases.to_basis).words in
      spelt a.shape a.rows from_words to_words (and_right (leb (length a.rows) max_pairs) (all pair_fits a.rows) K.within)

  rows_back : typed_table (as_printed a.rows) ≡ a.rows
  rows_back = pairs_back a.shape K.in_range a.rows rows_spelt

  sheet_of_kept : (d : Desk) (c : ℕ) → T (is_slot c) → held d (slot_number c) ≡ some a → ShortestSheet d c (d, lists c a)
  unfolding reply_bytes
  sheet_of_kept d c h i =
      record {
        plan = a;
        in_slot = i;
        printed = as_printed a.rows;
        lines = listing_lines c h;
        spelled = rows_back;
        none_shorter = λ t acts. subst (λ u. NotShorter u t) (sym rows_back) (kept_not_shorter a K t acts);
      }

pub no_shorter_sheet : NoShorterSheet
no_shorter_sheet d D c e o =
    let shown = passed (show_steps d c) e o in
    let kept = D.kept (slot_number c) shown.plan shown.in_slot in
    subst (ShortestSheet d c) (sym shown.effect) (sheet_of_kept shown.plan kept d c shown.named shown.in_slot)
