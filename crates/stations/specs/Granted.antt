-- G by its numbers, done on the head alone (change request E6).
use Rattle.std.specs.Prelude.{ℕ, List, Result}
use Rattle.desk.specs.Replies.{◌>>=◌, operation, grant_by}
use Rattle.slots.specs.declared.Head.{Head}
use Rattle.slots.specs.declared.Refused.{Refused}
use Rattle.slots.specs.Desks.{desk_of, HoldsDesk}
use Rattle.slots.specs.Works.{Work, DoneBy}

-- whatever the columns are: what is meant by a station, a slot and a right is done, or refused with 1 where there is no such right
abbrev pub GrantedByHead : ℕ → ℕ → ℕ → Head → Result Work Refused → Type 0
GrantedByHead s a x h w =
    (columns out : List ℕ) → HoldsDesk h columns
    → let d = desk_of h columns in DoneBy d (grant_by s a x >>= operation d) out h w columns out
