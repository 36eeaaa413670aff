-- Why a record is refused, in code, and what it means for an operation of the desk. Read Works.antt next.
use Rattle.std.specs.Prelude.{ℕ, ◌≡◌, refl, Option, Some, None, Result, Ok, Err}
use Rattle.std.proofs.Math.Option.{Option as OptionOf, none, some}
use Rattle.higman.specs.Refusals.{Letter}
use Rattle.desk.specs.Replies.{Outcome, refuse, pass}
use Rattle.operations.specs.declared.refusals.Refusal.{Refusal}
use Rattle.operations.specs.declared.refusals.Refusal.TheVariants as The
use Rattle.operations.specs.declared.Column.{Column}
use Rattle.operations.specs.declared.Column.TheVariants.{From, To}
use Rattle.operations.specs.declared.Fault.{Fault}
use Rattle.operations.specs.declared.Fault.TheVariants.{InFrom, InTo}
use Rattle.operations.specs.Refusals.{number_of}
use Rattle.operations.specs.Closing.{refusal_of}
use Rattle.slots.specs.declared.Refused.{Refused}

-- a refusal that names no column
abbrev pub refused_for : Refusal → Refused
refused_for n = record { refusal = n; column = None }

-- and a result that is refused so
abbrev pub refusing : {A : Type 0} → Refusal → Result A Refused
refusing n = Err (refused_for n)

-- a refusal for a column: "those of E for a column add ⇥F or ⇥T (from, to)"
abbrev pub refused_in : Fault → Refused
refused_in (InFrom r) = record { refusal = refusal_of r; column = Some From }
refused_in (InTo r) = record { refusal = refusal_of r; column = Some To }

-- the letter of a column, and of the one that is named, if one is
abbrev pub letter : Column → Letter
letter From = Letter.F
letter To = Letter.T

abbrev pub letter_of : Option Column → OptionOf Letter
letter_of None = none
letter_of (Some c) = some (letter c)

-- what a result means: a refusal by its number and its letter, or the value
abbrev pub outcome_of : {A : Type 0} → Result A Refused → Outcome A
outcome_of (Ok a) = pass a
outcome_of (Err f) = refuse (number_of f.refusal) (letter_of f.column)

outcome_of_example : outcome_of {A = ℕ} (Err (record { refusal = The.RootUncovered; column = Some To })) ≡ refuse 7 (some Letter.T)
outcome_of_example = refl
