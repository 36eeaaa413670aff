-- Input in pieces: the state of desk's Session.antt that a state in code stands for, and what feeding and finishing promise.
use Rattle.std.specs.Prelude.{ℕ, ◌+◌, ◌-◌, ◌≤◌, ◌<◌, ◌≡◌, refl, Bool, true, false, List, [], ◌++◌, T, leb, length, take, drop, get_or}
use Rattle.higman.specs.Text.{Bytes, line_end, bytes}
use Rattle.words.specs.Writing.{Wrote}
use Rattle.desk.specs.Limits.{max_line}
use Rattle.desk.specs.Desk.{dropped}
use Rattle.desk.specs.Replies.{Effect}
use Rattle.desk.specs.Bytes.{reply_bytes}
use Rattle.desk.specs.Session.{unended, State as StateOf, effect_of, feed as fedBy, finish as finishedBy}
use Rattle.desk.specs.Feeds.{Fed as FedLines, fed_within}
use Rattle.replies.specs.Sizes.{max_reply}
use Rattle.slots.specs.Desks.{desk_of, HoldsDesk}
use Rattle.slots.specs.declared.Head.{Head}
use Rattle.lines.specs.declared.Stepped.{Stepped}
use Rattle.desk_core.specs.declared.feeding.Begun.{Begun}
use Rattle.desk_core.specs.declared.feeding.State.{State}
use Rattle.desk_core.specs.declared.feeding.Fed.{Fed}
use Rattle.desk_core.specs.declared.feeding.Finished.{Finished}
use Rattle.lines.specs.Lines.{Answered}

-- the desk, and what is held of the line that has begun
unfoldable pub state_of : State → StateOf
state_of s = record { desk = desk_of s.head s.columns; line = take s.begun s.line; overlong = s.overlong }

-- a state: a desk, and no more of a line than a line may have; of a line that is too long nothing is held
pub record HoldsState (s : State) : Type 0 where
  pub holds : HoldsDesk s.head s.columns
  pub lined : length s.line ≡ max_line
  pub fits : s.begun ≤ max_line
  pub let_go : s.overlong ≡ true → s.begun ≡ 0

-- the beginning of a line in its place
pub record Held (line : List ℕ) (begun : ℕ) (overlong : Bool) : Type 0 where
  pub lined : length line ≡ max_line
  pub fits : begun ≤ max_line
  pub let_go : overlong ≡ true → begun ≡ 0

-- a state by its parts
abbrev pub begun_at : Head → List ℕ → Bytes → Bool → StateOf
begun_at h columns line overlong = record { desk = desk_of h columns; line = line; overlong = overlong }

-- Some bytes of an input were fed to a state: the state after them is that of the definitions, and so are the bytes of the replies.
pub record FedTo (s₀ : State) (input out₀ : List ℕ) (s : State) (at : ℕ) (out : List ℕ) (used : ℕ) : Type 0 where
  pub holds : HoldsState s
  pub taken : at ≤ length input
  pub room : used ≤ length out
  pub long : length out ≡ length out₀
  pub state : state_of s ≡ (fedBy (state_of s₀) (take at input)).0
  pub wrote : Wrote (fedBy (state_of s₀) (take at input)).1 out₀ 0 out used

-- what many lines at once leave, of which the first bytes were taken and the beginning of a line is held
abbrev pub fed_up_to : StateOf → Bytes → ℕ → Bytes → FedLines
fed_up_to s input at output = record { desk = s.desk; overlong = s.overlong; rest = s.line ++ drop at input; output = output }

-- A piece of input was fed: all of it, or as much as there was room for the longest reply; and with room for one at first, just as far as
-- `fed_within` of desk's Feeds.antt says.
pub record FedBy (s : State) (input out : List ℕ) (r : Fed) (out' : List ℕ) : Type 0 where
  pub fed : FedTo s input out r.state r.taken out' r.used
  pub stopped : (r.taken ≡ length input → ⊥) → length out < r.used + max_reply
  pub within : max_reply ≤ length out
      → fed_within max_reply (length out) (state_of s) input
      ≡ fed_up_to (state_of r.state) input r.taken (fedBy (state_of s) (take r.taken input)).1

-- The input has ended.
pub record FinishedBy (s : State) (out : List ℕ) (r : Finished) (out' : List ℕ) : Type 0 where
  pub holds : HoldsDesk r.desk.head r.desk.columns
  pub desk : desk_of r.desk.head r.desk.columns ≡ (finishedBy (state_of s)).0
  pub wrote : Wrote (finishedBy (state_of s)).1 out 0 out' r.used

-- the last line was answered, and an open plan dropped
pub record LastAnswered (e : Effect) (out : List ℕ) (r : Finished) (out' : List ℕ) : Type 0 where
  pub holds : HoldsDesk r.desk.head r.desk.columns
  pub desk : desk_of r.desk.head r.desk.columns ≡ dropped e.0
  pub wrote : Wrote (reply_bytes e.1) out 0 out' r.used

-- where a line ends, from a place on
pub record LineEnd (input : List ℕ) (at end : ℕ) : Type 0 where
  pub from : at ≤ end
  pub inside : end ≤ length input
  pub line : T (unended (take (end - at) (drop at input)))
  pub ended : end < length input → get_or input end 0 ≡ line_end

-- the beginning of a line, grown by some bytes: what is held of it, and whether it is too long
abbrev pub grown_line : Bytes → Bool → Bytes → Bytes × Bool
grown_line l true part = (l, true)
grown_line l false part = elim (leb (length l + length part) max_line) [ true ↦ (l ++ part, false) | false ↦ ([], true) ]

grown_line_example : (grown_line (bytes "W\tA") false (bytes "\t1") ≡ (bytes "W\tA\t1", false)) × (grown_line [] true (bytes "1") ≡ ([], true))
unfolding max_line
grown_line_example = (refl, refl)

-- how that is done in place
pub record GrownBy (line : List ℕ) (begun : ℕ) (overlong : Bool) (part : Bytes) (r : Begun) (line' : List ℕ) : Type 0 where
  pub held : Held line' r.begun r.overlong
  pub grown : (take r.begun line', r.overlong) ≡ grown_line (take begun line) overlong part

abbrev pub grown_at : Head → List ℕ → Bytes × Bool → StateOf
grown_at h columns g = begun_at h columns g.0 g.1

-- a line is whole: its beginning, of which this is held, and the rest of it
abbrev pub LineAnswered : Head → List ℕ → Bytes → Bool → Bytes → List ℕ → Stepped → List ℕ → List ℕ → Type 0
LineAnswered h columns held overlong part out r columns' out' =
    Answered (effect_of (grown_at h columns (grown_line held overlong part))) out r columns' out'

-- a state, and room for any reply
pub record Finishing (s : State) (out : List ℕ) : Type 0 where
  pub state : HoldsState s
  pub room : max_reply ≤ length out
