-- What closing a draft answers, "reduce and keep": the verdict of higman on its pairs and, where they are accepted, the plan that is
-- kept of them. Read Routing.antt next.
use Rattle.std.specs.Prelude.{ℕ, ◌≤◌, ◌≡◌, refl, [], ◌∷◌, map, T, take, Result, Ok, Err}
use Rattle.std.proofs.Math.Option.{Option, none, some}
use Rattle.higman.specs.Words.{Shape}
use Rattle.higman.specs.Bases.{all}
use Rattle.higman.specs.Tables.{Table, row}
use Rattle.higman.specs.Normal.{joined, normal, normal_form, keep}
use Rattle.higman.specs.Limits.{shape_in_range, max_pairs, is_plan_word}
use Rattle.higman.specs.Refusals as Numbers
use Rattle.higman.specs.Answers as Of
use Rattle.words.specs.Packed.{pack_on, pack, unpack_in, unpack}
use Rattle.words.specs.Bytes.{shape}
use Rattle.columns.specs.Packed.{words_of}
use Rattle.operations.specs.declared.Plan.{Plan}
use Rattle.operations.specs.declared.Reason.{Reason}
use Rattle.operations.specs.declared.Reason.TheVariants.{Overlap, Gap}
use Rattle.operations.specs.declared.Column.{Column}
use Rattle.operations.specs.declared.Column.TheVariants.{From, To}
use Rattle.operations.specs.declared.Fault.{Fault}
use Rattle.operations.specs.declared.Fault.TheVariants.{InFrom, InTo}
use Rattle.operations.specs.declared.refusals.Refusal.{Refusal}
use Rattle.operations.specs.declared.refusals.Refusal.TheVariants.{WordsOverlap, RootUncovered}
use Rattle.operations.specs.Refusals.{number_of}
use Rattle.operations.specs.Plans.{shape_of, packed}
use Rattle.operations.specs.Answers.{value21}

abbrev pub reason_of : Of.Reason → Reason
reason_of Of.Overlap = Overlap
reason_of Of.Gap = Gap

-- the refusal of a column
abbrev pub refusal_of : Reason → Refusal
refusal_of Overlap = WordsOverlap
refusal_of Gap = RootUncovered

-- the number that a column is refused with
abbrev pub reason_number : Reason → ℕ
reason_number Overlap = Of.reason_number Of.Overlap
reason_number Gap = Of.reason_number Of.Gap

pub refusal_of_numbered : (r : Reason) → number_of (refusal_of r) ≡ reason_number r
refusal_of_numbered Overlap = refl
refusal_of_numbered Gap = refl

-- the letter that names a column
abbrev pub letter_of : Column → ℕ
letter_of From = Numbers.letter_byte Numbers.F
letter_of To = Numbers.letter_byte Numbers.T

-- the verdict on one column
abbrev pub fault_of : Option Of.Reason → Result (Unit {0}) Reason
fault_of none = Ok tt
fault_of (some r) = Err (reason_of r)

-- "the verdict on a plan names the column and, within it, the reason"
abbrev pub verdict_of : Of.Verdict → Result (Unit {0}) Fault
verdict_of Of.Accepted = Ok tt
verdict_of (Of.InFrom r) = Err (InFrom (reason_of r))
verdict_of (Of.InTo r) = Err (InTo (reason_of r))

-- what is kept of a table by the verdict on it
abbrev pub closed_by : Shape → Table → Result (Unit {0}) Fault → Result Plan Fault
closed_by s t (Ok x) = Ok (packed (record { shape = s; rows = keep s t }))
closed_by s t (Err f) = Err f

-- "E closes: reduce and keep."
unfoldable pub closing : Shape → Table → Result Plan Fault
closing s t = closed_by s t (verdict_of (Of.verdict s t))

-- The pairs of a draft as M takes them, of a shape in range: words that a plan of the shape may hold.
pub record DraftColumns (p : Plan) : Type 0 where
  pub few : p.pairs ≤ max_pairs
  pub in_range : T (shape_in_range (shape_of p))
  pub from_words : T (all (is_plan_word (shape_of p)) (words_of (take p.pairs p.from)))
  pub to_words : T (all (is_plan_word (shape_of p)) (words_of (take p.pairs p.to)))

-- "6, one word begins or equals another; 7, a belt isn't covered"
reason_number_example : map reason_number (Overlap ∷ Gap ∷ []) ≡ 6 ∷ 7 ∷ []
reason_number_example = refl

letter_of_example : map letter_of (From ∷ To ∷ []) ≡ 70 ∷ 84 ∷ []
letter_of_example = refl

-- "11→11, 12→12 is kept as 1→1, one pair"; "to column 1, 11: 6, T"; "no pairs: 7, F"
closing_example : map (closing (shape 2 1)) ((row 11 11 ∷ row 12 12 ∷ []) ∷ (row 11 1 ∷ row 12 11 ∷ []) ∷ [] ∷ [])
    ≡ Ok (value21 (row 1 1 ∷ [])) ∷ Err (InTo Overlap) ∷ Err (InFrom Gap) ∷ []
unfolding closing max_pairs Of.verdict keep normal_form normal joined pack_on pack unpack_in unpack packed
closing_example = refl
