-- The ★ cases of document 01, "Plans to try", as one table: each line is a question and the reply that the paper gives to it. The
-- definitions of the other files compute the replies, and `StarCases` states that they are the paper's.
use Rattle.std.specs.Prelude.{ℕ, ◌≡◌, List, [], ◌∷◌, ℤ, pos}
use Rattle.std.proofs.Math.Option.{none, some}
use Rattle.higman.specs.Words.{Shape, Word, spell}
use Rattle.higman.specs.Tables.{Table, row, φ, ψ}
use Rattle.higman.specs.Normal.{keep}
use Rattle.higman.specs.Limits.{Plan}
use Rattle.higman.specs.Refusals.{Letter, F, T}
use Rattle.higman.specs.Answers.{Accepted, InFrom, InTo, reason_number, verdict, refusal_number, Answer, Granted, Refused, followed}
use Rattle.higman.specs.Answers.{inverted, powered, Route, Image, route_number, routed}

-- the plan kept, where a code is sent, or the number of a refusal, for E with the column
pub data Reply : Type 0 where
  keeps : Plan → Reply
  sends : Route → Reply
  refuses : ℕ → Reply
  refuses_column : ℕ → Letter → Reply

-- What E makes of these pairs, typed in; what F, I, K and the library's route make of the plans that other questions keep.
pub data Question : Type 0 where
  typed : Table → Question
  in_turn : Question → Question → Question
  inverse_of : Question → Question
  power_of : Question → ℤ → Question
  route_of : Question → Word → Question

infix 4 ◌gives◌
pub data Case : Type 0 where
  ◌gives◌ : Question → Reply → Case

-- "Shape (2,1)."
abbrev pub shape21 : Shape
shape21 = record { arity = 2; roots = 1 }

abbrev pub kept : Table → Reply
kept t = keeps (record { shape = shape21; rows = t })

abbrev pub answered : Answer → Reply
answered (Granted p) = keeps p
answered (Refused r) = refuses (refusal_number r)

abbrev pub sent : Route → Reply
sent r = elim (route_number r) [ none ↦ sends r | some n ↦ refuses n ]

-- E: the verdict on the columns, and then "reduce and keep"
abbrev pub closed : Shape → Table → Reply
closed s t =
    elim
    (verdict s t) [
      | Accepted ↦ keeps (record { shape = s; rows = keep s t })
      | InFrom r ↦ refuses_column (reason_number r) F
      | InTo r ↦ refuses_column (reason_number r) T
    ]

-- a call on the plan that a reply keeps; where it keeps none, that reply stands
abbrev pub on_kept : Reply → (Plan → Reply) → Reply
on_kept (keeps p) call = call p
on_kept (sends r) call = sends r
on_kept (refuses n) call = refuses n
on_kept (refuses_column n c) call = refuses_column n c

abbrev pub reply_to : Question → Reply
reply_to (typed t) = closed shape21 t
reply_to (in_turn a b) = on_kept (reply_to a) (λ p. on_kept (reply_to b) (λ q. answered (followed p q)))
reply_to (inverse_of a) = on_kept (reply_to a) (λ p. answered (inverted p))
reply_to (power_of a k) = on_kept (reply_to a) (λ p. answered (powered p k))
reply_to (route_of a c) = on_kept (reply_to a) (λ p. sent (routed p c))

abbrev pub Holds : Case → Type 0
Holds (q gives r) = reply_to q ≡ r

abbrev pub AllHold : List Case → Type 0
AllHold [] = Unit {0}
AllHold (c ∷ cs) = Holds c × AllHold cs

unfoldable pub star_cases : List Case
star_cases =
    -- "11→11, 12→12 is kept as 1→1, one pair."
    (typed (row 11 11 ∷ row 12 12 ∷ []) gives kept (row 1 1 ∷ [])) ∷
    -- "11→12, 12→11 keeps two."
    (typed (row 11 12 ∷ row 12 11 ∷ []) gives kept (row 11 12 ∷ row 12 11 ∷ [])) ∷
    -- "to column 1, 11: 6, T."
    (typed (row 11 1 ∷ row 12 11 ∷ []) gives refuses_column 6 T) ∷
    -- "no pairs: 7, F."
    (typed [] gives refuses_column 7 F) ∷
    -- "11→11, 121→121, 122→1221: 7, T."
    (typed (row 11 11 ∷ row 121 121 ∷ row 122 1221 ∷ []) gives refuses_column 7 T) ∷
    -- "φ squared: 111→112, 112→111, 121→122, 122→121."
    (power_of (typed φ) (pos 2) gives kept (row 111 112 ∷ row 112 111 ∷ row 121 122 ∷ row 122 121 ∷ [])) ∷
    -- "φ inverse: 11→12, 121→112, 122→111."
    (inverse_of (typed φ) gives kept (row 11 12 ∷ row 121 112 ∷ row 122 111 ∷ [])) ∷
    -- "φ to the fourth: 1→1."
    (power_of (typed φ) (pos 4) gives kept (row 1 1 ∷ [])) ∷
    -- "ψ then its inverse: 1→1."
    (in_turn (typed ψ) (inverse_of (typed ψ)) gives kept (row 1 1 ∷ [])) ∷
    -- "ψ on 12 gives 122"
    (route_of (typed ψ) (spell 12) gives sends (Image (spell 122))) ∷
    -- "on 11 gives 13."
    (route_of (typed ψ) (spell 11) gives refuses 13) ∷
    []

-- "The ★ cases stand in one table, proved through one statement about the definitions."
abbrev pub StarCases : Type 0
StarCases = AllHold star_cases
