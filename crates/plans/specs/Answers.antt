-- What the calls on plans answer: the answers of higman, with 15 before them for a value that is no draft or plan. Read Routing.antt
-- next.
use Rattle.std.specs.Prelude.{ℕ, ◌≡◌, refl, Bool, true, false, ◌&&◌, [], ◌∷◌, map, ℤ, pos, Result, Ok, Err}
use Rattle.higman.specs.Tables.{row, φ, ψ}
use Rattle.higman.specs.Normal.{joined, normal, normal_form, keep, compose, inverse, identity}
use Rattle.higman.specs.Limits.{shape_in_range, granted, max_pairs, max_digits, max_power}
use Rattle.higman.specs.Refusals.{invalid_value}
use Rattle.higman.specs.Answers as Of
use Rattle.words.specs.Packed.{pack_on, pack, unpack_in, unpack}
use Rattle.words.specs.Bytes.{shape}
use Rattle.operations.specs.declared.Plan.{Plan}
use Rattle.operations.specs.declared.Column.TheVariants.{From, To}
use Rattle.operations.specs.declared.Reason.TheVariants.{Overlap, Gap}
use Rattle.operations.specs.declared.Fault.{Fault}
use Rattle.operations.specs.declared.Fault.TheVariants.{InFrom, InTo}
use Rattle.operations.specs.declared.lent.Lent.{Lent}
use Rattle.operations.specs.declared.refusals.Refusal.{Refusal}
use Rattle.operations.specs.declared.refusals.Refusal.TheVariants as The
use Rattle.operations.specs.Plans.{shape_of, rows_of, plan_of, in_table, is_draft, is_plan, lent_plan, packed, blank}
use Rattle.operations.specs.Answers.{making, composing, likeness, value21}
use Rattle.operations.specs.Closing.{verdict_of, reason_number, letter_of}
use Rattle.plans.specs.declared.Rejection.{Rejection}
use Rattle.plans.specs.declared.Rejection.TheVariants.{NotADraft, Faulty}

-- the judgement on a draft, by the verdict on its columns
abbrev pub judgement_by : Result (Unit {0}) Fault → Result (Unit {0}) Rejection
judgement_by (Ok x) = Ok x
judgement_by (Err f) = Err (Faulty f)

abbrev pub judgement_of : Of.Verdict → Result (Unit {0}) Rejection
judgement_of v = judgement_by (verdict_of v)

-- the verdict on a draft: 15, and then "two checks, both made of the from column and after that both of the to column"
unfoldable pub judged : Plan → Result (Unit {0}) Rejection
judged p = elim (is_draft p) [ true ↦ judgement_of (Of.verdict (shape_of p) (rows_of p)) | false ↦ Err NotADraft ]

-- a draft with a fault in a column
abbrev pub faulty : Fault → Result (Unit {0}) Rejection
faulty f = Err (Faulty f)

-- the number that a draft is refused with
abbrev pub rejection_number : Rejection → ℕ
rejection_number NotADraft = invalid_value
rejection_number (Faulty (InFrom r)) = reason_number r
rejection_number (Faulty (InTo r)) = reason_number r

-- "those of E for a column add ⇥F or ⇥T (from, to)"
abbrev pub rejection_column : Rejection → ℕ
rejection_column NotADraft = 0
rejection_column (Faulty (InFrom r)) = letter_of From
rejection_column (Faulty (InTo r)) = letter_of To

-- the number and the letter of a judgement, 0 where it refuses nothing
abbrev pub judgement_number : Result (Unit {0}) Rejection → ℕ
judgement_number (Ok x) = 0
judgement_number (Err r) = rejection_number r

abbrev pub judgement_column : Result (Unit {0}) Rejection → ℕ
judgement_column (Ok x) = 0
judgement_column (Err r) = rejection_column r

-- the plan kept of a draft, "reduce and keep"
abbrev pub kept_of : Plan → Result (Unit {0}) Rejection → Result Plan Rejection
kept_of p (Ok x) = Ok (packed (record { shape = shape_of p; rows = keep (shape_of p) (rows_of p) }))
kept_of p (Err r) = Err r

unfoldable pub keeping : Plan → Result Plan Rejection
keeping p = kept_of p (judged p)

-- the verdict by what is kept
abbrev pub verdict_in : Result Plan Rejection → Result (Unit {0}) Rejection
verdict_in (Ok p) = Ok tt
verdict_in (Err r) = Err r

-- F: 15, 10, 11
unfoldable pub following : Plan → Plan → Result Plan Refusal
following a b = elim (is_plan a && is_plan b) [ true ↦ composing a b | false ↦ Err The.InvalidValue ]

-- I: 15
unfoldable pub inverting : Plan → Result Plan Refusal
inverting a = elim (is_plan a) [ true ↦ making (Of.inverted (plan_of a)) | false ↦ Err The.InvalidValue ]

-- K: 15, 12, 11
unfoldable pub raising : Plan → ℤ → Result Plan Refusal
raising a k = elim (is_plan a) [ true ↦ making (Of.powered (plan_of a) k) | false ↦ Err The.InvalidValue ]

-- S: 15, 10
unfoldable pub alike : Plan → Plan → Result Bool Refusal
alike a b = elim (is_plan a && is_plan b) [ true ↦ likeness (Of.same (plan_of a) (plan_of b)) | false ↦ Err The.InvalidValue ]

-- a value that a call takes for a plan, and 15 for any other
abbrev pub Checked : Plan → Result (Unit {0}) Refusal → Type 0
Checked p (Ok x) = is_plan p ≡ true
Checked p (Err e) = (is_plan p ≡ false) × (e ≡ The.InvalidValue)

-- the columns that it lends
abbrev pub LentBy : Plan → Result Lent Refusal → Type 0
LentBy p (Ok l) = (is_plan p ≡ true) × (lent_plan l ≡ plan_of p)
LentBy p (Err e) = (is_plan p ≡ false) × (e ≡ The.InvalidValue)

-- "6, one word begins or equals another; 7, a belt isn't covered", with the column's letter
judgement_number_example : map judgement_number (Ok tt ∷ faulty (InFrom Overlap) ∷ faulty (InTo Gap) ∷ Err NotADraft ∷ [])
    ≡ 0 ∷ 6 ∷ 7 ∷ 15 ∷ []
judgement_number_example = refl

judgement_column_example : map judgement_column (Ok tt ∷ faulty (InFrom Overlap) ∷ faulty (InTo Gap) ∷ Err NotADraft ∷ [])
    ≡ 0 ∷ 70 ∷ 84 ∷ 0 ∷ []
judgement_column_example = refl

-- "11→11, 12→12 is kept as 1→1, one pair"; "to column 1, 11: 6, T"; no draft
keeping_example : map keeping (value21 (row 11 11 ∷ row 12 12 ∷ []) ∷ value21 (row 11 1 ∷ row 12 11 ∷ []) ∷ blank ∷ [])
    ≡ Ok (value21 (row 1 1 ∷ [])) ∷ Err (Faulty (InTo Overlap)) ∷ Err NotADraft ∷ []
unfolding keeping judged is_draft in_table shape_in_range granted max_pairs max_digits Of.verdict keep normal_form normal joined packed blank pack pack_on unpack unpack_in
keeping_example = refl

-- φ squared; a plan of another shape; φ after what is no plan
following_example : map (λ a. following a (value21 φ)) (value21 φ ∷ packed (record { shape = shape 3 1; rows = row 1 1 ∷ [] }) ∷ blank ∷ [])
    ≡ Ok (value21 (row 111 112 ∷ row 112 111 ∷ row 121 122 ∷ row 122 121 ∷ [])) ∷ Err The.ShapesDiffer ∷ Err The.InvalidValue ∷ []
unfolding following is_plan in_table Of.is_kept shape_in_range granted max_pairs max_digits Of.verdict Of.followed compose keep normal_form normal joined packed blank pack pack_on unpack unpack_in
following_example = refl

-- "φ inverse: 11→12, 121→112, 122→111"
inverting_example : map inverting (value21 φ ∷ blank ∷ [])
    ≡ Ok (value21 (row 11 12 ∷ row 121 112 ∷ row 122 111 ∷ [])) ∷ Err The.InvalidValue ∷ []
unfolding inverting is_plan in_table Of.is_kept shape_in_range granted max_pairs max_digits Of.verdict Of.inverted inverse keep normal_form normal joined packed blank pack pack_on unpack unpack_in
inverting_example = refl

-- "φ to the fourth: 1→1"; 1001 is 12; "ψ .. to the 15th is 11"
raising_example : (map (raising (value21 φ)) (pos 4 ∷ pos 1001 ∷ []) ≡ Ok (value21 (row 1 1 ∷ [])) ∷ Err The.PowerOutside ∷ [])
    × (raising (value21 ψ) (pos 15) ≡ Err The.LimitBroken)
unfolding raising is_plan in_table Of.is_kept shape_in_range granted max_pairs max_digits max_power Of.verdict Of.powered Of.raised compose identity keep normal_form normal joined packed blank pack pack_on unpack unpack_in
raising_example = (refl, refl)

alike_example : map (alike (value21 φ)) (value21 φ ∷ value21 ψ ∷ blank ∷ []) ≡ Ok true ∷ Ok false ∷ Err The.InvalidValue ∷ []
unfolding alike is_plan in_table Of.is_kept shape_in_range granted max_pairs max_digits Of.verdict Of.same keep normal_form normal joined packed blank pack pack_on unpack unpack_in
alike_example = refl
