-- What can be said of a session in code: of the bytes that stand in the program's buffer, a piece is fed whole, and from whatever state
-- the reading starts, it ends in one that some bytes lead to from there. Where the bytes that a reader has left and those that a writer
-- holds are known, these bytes are the ones that the reader lost, and the writer holds the replies to them. Of standard input and output
-- they are not known: what read and write do there is the system's.
use Rattle.std.specs.Prelude.{ℕ, ◌≡◌, Bool, true, List, ◌++◌, [], Option}
use Rattle.std.specs.Io.KnownBytes.{Appends, Consumes}
use Rattle.higman.specs.Text.{Bytes}
use Rattle.desk.specs.Session.{feed as fedBy}
use Rattle.desk_core.specs.declared.feeding.State.{State}
use Rattle.desk_core.specs.Feeding.{state_of, HoldsState}

-- all of a piece was fed
pub record FedAll (s : State) (piece : List ℕ) (s' : State) : Type 0 where
  pub holds : HoldsState s'
  pub state : state_of s' ≡ (fedBy (state_of s) piece).0

-- Some bytes lead from one state to another. A loop that puts a fresh desk in place of the one it was given is not such a way.
pub record ReachedFrom (s s' : State) : Type 0 where
  pub input : Bytes
  pub fed : FedAll s input s'

-- the replies to some bytes that are fed to a state
abbrev pub replies_of : State → Bytes → Bytes
replies_of s piece = (fedBy (state_of s) piece).1

-- Some bytes were written behind what a writer held: all of them, or a beginning where a write failed.
pub record Sent (held held' : Option (List ℕ)) (bytes : Bytes) (whole : Bool) : Type 0 where
  pub sent : Bytes
  pub rest : Bytes
  pub appended : Appends held held' sent
  pub begin : bytes ≡ sent ++ rest
  pub all : whole ≡ true → rest ≡ []

-- Bytes that a reader lost were fed to a state, and the replies to them were written; of the replies it is a beginning at a fault.
pub record Conversed (s : State) (left left' held held' : Option (List ℕ)) (whole : Bool) (s' : State) : Type 0 where
  pub input : Bytes
  pub read : Consumes left left' input
  pub fed : whole ≡ true → FedAll s input s'
  pub replied : Sent held held' (replies_of s input) whole
