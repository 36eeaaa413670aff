-- What is answered where a plan is made or two are compared: the answers of higman, with the plan that is made or the refusal. Read
-- Closing.antt next.
use Rattle.std.specs.Prelude.{ℕ, ◌≡◌, refl, Bool, true, false, [], ◌∷◌, map, Result, Ok, Err}
use Rattle.std.specs.Result.{result_unwrap_or}
use Rattle.std.proofs.Math.Option.{Option, none, some}
use Rattle.higman.specs.Words.{Shape}
use Rattle.higman.specs.Tables.{Table, row, φ, ψ}
use Rattle.higman.specs.Normal.{joined, normal, normal_form, keep, compose, identity}
use Rattle.higman.specs.Limits.{Plan as PlanOf, granted, max_pairs, max_digits}
use Rattle.higman.specs.Answers as Of
use Rattle.words.specs.Packed.{pack_on, pack, unpack_in, unpack}
use Rattle.words.specs.Bytes.{shape}
use Rattle.operations.specs.declared.Plan.{Plan}
use Rattle.operations.specs.declared.refusals.Refusal.{Refusal}
use Rattle.operations.specs.declared.refusals.Refusal.TheVariants as The
use Rattle.operations.specs.Refusals.{refusal, answer_number}
use Rattle.operations.specs.Plans.{plan_of, packed}

-- the plan that is made, or the refusal
abbrev pub making : Of.Answer → Result Plan Refusal
making (Of.Granted p) = Ok (packed p)
making (Of.Refused r) = Err (refusal r)

-- two plans one after the other, where both are plans
abbrev pub composing : Plan → Plan → Result Plan Refusal
composing a b = making (Of.followed (plan_of a) (plan_of b))

-- a power by its pairs, which are none where a limit is broken on the way
abbrev pub repeated : Option Table → Shape → Result Plan Refusal
repeated (some t) s = making (Of.Granted (record { shape = s; rows = t }))
repeated none s = making (Of.Refused Of.LimitBroken)

-- n times a plan in a row
abbrev pub repeating : PlanOf → ℕ → Result Plan Refusal
repeating a n = repeated (Of.raised a.shape a.rows n) a.shape

-- whether two plans act alike, or the refusal
abbrev pub likeness : Of.Comparison → Result Bool Refusal
likeness (Of.Alike b) = Ok b
likeness (Of.NotCompared r) = Err (refusal r)

likeness_example : map likeness (Of.Alike true ∷ Of.NotCompared Of.ShapesDiffer ∷ []) ≡ Ok true ∷ Err The.ShapesDiffer ∷ []
likeness_example = refl

-- the number of a refusal, 0 where plans were compared, and what the comparison found
likeness_number_example : (map answer_number (Ok true ∷ Err The.ShapesDiffer ∷ []) ≡ 0 ∷ 10 ∷ [])
    × (map (λ r. result_unwrap_or r false) (Ok true ∷ Err The.ShapesDiffer ∷ []) ≡ true ∷ false ∷ [])
likeness_number_example = (refl, refl)

-- a value of shape (2,1), for examples
abbrev pub value21 : Table → Plan
value21 t = packed (record { shape = shape 2 1; rows = t })

-- φ squared; a plan of another shape
composing_example : map (λ a. composing a (value21 φ)) (value21 φ ∷ packed (record { shape = shape 3 1; rows = row 1 1 ∷ [] }) ∷ [])
    ≡ Ok (value21 (row 111 112 ∷ row 112 111 ∷ row 121 122 ∷ row 122 121 ∷ [])) ∷ Err The.ShapesDiffer ∷ []
unfolding Of.followed granted max_pairs max_digits compose keep normal_form normal joined packed pack pack_on unpack unpack_in
composing_example = refl

-- "φ to the fourth: 1→1"; "ψ .. to the 15th is 11"
repeating_example : (repeating (plan_of (value21 φ)) 4 ≡ Ok (value21 (row 1 1 ∷ [])))
    × (repeating (plan_of (value21 ψ)) 15 ≡ Err The.LimitBroken)
unfolding Of.raised granted max_pairs max_digits compose identity keep normal_form normal joined packed pack pack_on unpack unpack_in
repeating_example = (refl, refl)
