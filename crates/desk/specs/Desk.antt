-- The desk (document 01, "Records"): eight slots, at most one open plan, the station that is named, each station's count of changes and
-- rights, and the sum of the pairs in all slots. What it is to be a desk, and the ways in which a record changes one: a slot is filled or
-- emptied, a plan is opened, gets a pair or is dropped, a station is named or given a right. To be believed: `Desk`, `IsRights`,
-- `IsControl` and `IsDesk`. `DeskTest` fixes the test, and `DeskParts`, `CountsOfStations`, `RightsExact` and `PairsHeld` the changes. Read
-- Records.antt next.
use Rattle.std.specs.Prelude.{ℕ, zero, suc, ◌+◌, ◌-◌, ◌≤◌, ◌<◌, ◌≡◌, refl, Bool, true, false, ◌&&◌, List, [], ◌∷◌, ◌++◌, map, T, leb, eqb, length, get_or, set, replicate}
use Rattle.std.proofs.Math.Option.{Option, none, some}
use Rattle.higman.specs.Words.{Shape, is_word}
use Rattle.higman.specs.Bases.{all}
use Rattle.higman.specs.Tables.{Pair, Table, froms, tos, row, ψ}
use Rattle.higman.specs.Normal.{joined, normal, normal_form, keep}
use Rattle.higman.specs.Limits.{Plan, Kept, shape_in_range, granted, max_pairs, max_digits, slot_count}
use Rattle.higman.specs.Answers.{verdict, is_table_of, is_kept}
use Rattle.desk.specs.Limits.{station_count, max_right, max_changes}

-- An open plan: the slot it is meant for, from 0 for A, its shape, and its pairs in the order in which M added them.
pub record Draft : Type 0 where
  pub slot : ℕ
  pub shape : Shape
  pub rows : Table

-- The rights of stations 1 to 7, for each the rights on slots A to H, "0 nothing, 1 read, 2 read and write" (change request E6). Nothing is
-- kept for station 0.
abbrev pub Rights : Type 0
Rights = List (List ℕ)

-- What a desk keeps beside its plans: the station that is named, from 0, "a count of changes" for each station (change request E5), the
-- rights of stations, and "the number of pairs in all slots" (change request E8)
pub record Control : Type 0 where
  pub station : ℕ
  pub changes : List ℕ
  pub rights : Rights
  pub pairs : ℕ

-- "The desk has slots A to H, at most one open plan", and a control block
pub record Desk : Type 0 where
  pub slots : List (Option Plan)
  pub draft : Option Draft
  pub control : Control

-- "Everyone starts with 2"
abbrev pub fresh_rights : Rights
fresh_rights = replicate (station_count - 1) (replicate slot_count max_right)

-- "A record Z⇥digit names the station for the records after it; before the first, it is station 0"; no station has made a change, and no
-- slot holds a pair
abbrev pub fresh_control : Control
fresh_control = record { station = 0; changes = replicate station_count 0; rights = fresh_rights; pairs = 0 }

-- the changes of a station, and those of the named one
abbrev pub changes_of : Control → ℕ → ℕ
changes_of c s = get_or c.changes s 0

abbrev pub count_in : Control → ℕ
count_in c = changes_of c c.station

-- "A fresh desk has empty slots and count 0."
unfoldable pub fresh_desk : Desk
fresh_desk = record { slots = replicate slot_count none; draft = none; control = fresh_control }

-- the station that is named
abbrev pub station_of : Desk → ℕ
station_of d = d.control.station

-- "the named station's own changes": what T tells and 16 goes by
abbrev pub count_of : Desk → ℕ
count_of d = count_in d.control

-- the right of a station on a slot: "station 0 always has 2"
abbrev pub right_of : Rights → ℕ → ℕ → ℕ
right_of rights zero i = max_right
right_of rights (suc s) i = get_or (get_or rights s []) i 0

-- that of the named station
abbrev pub own_right : Desk → ℕ → ℕ
own_right d i = right_of d.control.rights (station_of d) i

-- the plan in a slot, if it holds one
abbrev pub held : Desk → ℕ → Option Plan
held d i = get_or d.slots i none

-- the pairs of what a slot holds, and "the sum over the slots" (change request E8)
abbrev pub pairs_of_slot : Option Plan → ℕ
pairs_of_slot none = 0
pairs_of_slot (some p) = length p.rows

abbrev pub pairs_of_slots : List (Option Plan) → ℕ
pairs_of_slots [] = 0
pairs_of_slots (x ∷ l) = pairs_of_slot x + pairs_of_slots l

-- "Reading needs 1"
abbrev pub readable : Desk → ℕ → Bool
readable d i = leb 1 (own_right d i)

-- what the named station sees of the slots, where one that it can't read looks like an empty one
abbrev pub seen_from : Desk → ℕ → List (Option Plan) → List (Option Plan)
seen_from d i [] = []
seen_from d i (x ∷ l) = elim (readable d i) [ true ↦ x | false ↦ none ] ∷ seen_from d (suc i) l

unfoldable pub seen : Desk → List (Option Plan)
seen d = seen_from d 0 d.slots

-- An open plan as P and M make one: nothing is known of its columns but that they hold words.
pub record IsDraft (o : Draft) : Type 0 where
  pub slot_named : o.slot < slot_count
  pub in_range : T (shape_in_range o.shape)
  pub within : T (granted o.rows)
  pub from_words : T (all (is_word o.shape) (froms o.rows))
  pub to_words : T (all (is_word o.shape) (tos o.rows))

-- Rights: stations 1 to 7 have one on each of the slots A to H, and none is above 2.
pub record IsRights (rights : Rights) : Type 0 where
  pub each_station : length rights ≡ station_count - 1
  pub each_slot : (s : ℕ) → s < station_count - 1 → length (get_or rights s []) ≡ slot_count
  pub within : (s i : ℕ) → right_of rights s i ≤ max_right

-- What a desk keeps beside its plans: one of eight stations is named, and each has "a count of changes from 0 to 4,000,000,000", whether
-- or not it is the one that is named, and its rights.
pub record IsControl (c : Control) : Type 0 where
  pub named : c.station < station_count
  pub each : length c.changes ≡ station_count
  pub within : (s : ℕ) → changes_of c s ≤ max_changes
  pub rights : IsRights c.rights

-- "The desk has slots A to H, at most one open plan, and a count of changes". What a slot holds is a kept plan, and "A desk whose stored
-- sum is off is no desk". A library call that is handed anything else says 15.
pub record IsDesk (d : Desk) : Type 0 where
  pub eight : length d.slots ≡ slot_count
  pub kept : (i : ℕ) (p : Plan) → held d i ≡ some p → Kept p
  pub drafted : (o : Draft) → d.draft ≡ some o → IsDraft o
  pub control : IsControl d.control
  pub summed : d.control.pairs ≡ pairs_of_slots d.slots

-- one change more of the station that is named, by which so many pairs are lost and so many kept
abbrev pub raised_counts : Control → List ℕ
raised_counts c = set c.changes c.station (count_in c + 1)

abbrev pub counted : Control → ℕ → ℕ → Control
counted c lost kept =
    record { station = c.station; changes = raised_counts c; rights = c.rights; pairs = c.pairs - lost + kept }

-- A change: what one slot holds from now on. No plan is open afterwards, and "E, F, I, K and C raise the count by one", as X does. The
-- pairs that the slot held are taken off the sum, and those that it holds are put to it.
unfoldable pub changed : Desk → ℕ → Option Plan → Desk
changed d i content =
    let control = counted d.control (pairs_of_slot (held d i)) (pairs_of_slot content) in
    record { slots = set d.slots i content; draft = none; control = control }

unfoldable pub with_draft : Desk → Draft → Desk
with_draft d o = record { slots = d.slots; draft = some o; control = d.control }

-- "Any refusal drops an open plan and changes nothing else."
unfoldable pub dropped : Desk → Desk
dropped d = record { slots = d.slots; draft = none; control = d.control }

-- Z: this station is named, and nothing else changes
abbrev pub naming : Control → ℕ → Control
naming c s = record { station = s; changes = c.changes; rights = c.rights; pairs = c.pairs }

unfoldable pub at_station : Desk → ℕ → Desk
at_station d s = record { slots = d.slots; draft = d.draft; control = naming d.control s }

-- G: a station has another right on a slot, and nothing else changes
abbrev pub right_given : Rights → ℕ → ℕ → ℕ → Rights
right_given rights zero i x = rights
right_given rights (suc s) i x = set rights s (set (get_or rights s []) i x)

abbrev pub giving : Control → ℕ → ℕ → ℕ → Control
giving c s i x = record { station = c.station; changes = c.changes; rights = right_given c.rights s i x; pairs = c.pairs }

unfoldable pub with_right : Desk → ℕ → ℕ → ℕ → Desk
with_right d s i x = record { slots = d.slots; draft = d.draft; control = giving d.control s i x }

-- a desk with another count of the station that is named, for examples
abbrev pub at_count : Desk → ℕ → Desk
at_count d n =
    let c = d.control in
    let changes = set c.changes c.station n in
    let control : Control = record { station = c.station; changes = changes; rights = c.rights; pairs = c.pairs } in
    record { slots = d.slots; draft = d.draft; control = control }

-- a desk with another sum, for examples
abbrev pub with_sum : Desk → ℕ → Desk
with_sum d n =
    let c = d.control in
    let control : Control = record { station = c.station; changes = c.changes; rights = c.rights; pairs = n } in
    record { slots = d.slots; draft = d.draft; control = control }

-- "M⇥from⇥to adds a pair", behind those that are there
abbrev pub with_pair : Draft → Pair → Draft
with_pair o p = record { slot = o.slot; shape = o.shape; rows = o.rows ++ (p ∷ []) }

-- every plan in a slot is a kept one
abbrev pub all_held : List (Option Plan) → Bool
all_held [] = true
all_held (none ∷ l) = all_held l
all_held (some p ∷ l) = is_kept p && all_held l

-- the same as `IsDraft` of the open plan, if there is one, as a test that computes
abbrev pub is_draft : Option Draft → Bool
is_draft none = true
is_draft (some o) = leb (o.slot + 1) slot_count && is_table_of o.shape o.rows

-- one of the stations: "18, a digit above 7"
abbrev pub is_station : ℕ → Bool
is_station s = leb (s + 1) station_count

-- the same as `IsRights`
abbrev pub are_slot_rights : List ℕ → Bool
are_slot_rights l = eqb (length l) slot_count && all (λ x. leb x max_right) l

unfoldable pub are_rights : Rights → Bool
are_rights rights = eqb (length rights) (station_count - 1) && all are_slot_rights rights

-- the same as `IsControl`
unfoldable pub is_control : Control → Bool
is_control c =
    is_station c.station && eqb (length c.changes) station_count && all (λ n. leb n max_changes) c.changes && are_rights c.rights

-- the same as `IsDesk`
unfoldable pub is_desk : Desk → Bool
is_desk d =
    eqb (length d.slots) slot_count && all_held d.slots && is_draft d.draft && is_control d.control
    && eqb d.control.pairs (pairs_of_slots d.slots)

-- a fresh desk; one that holds ψ in slot B; one that holds a plan that is not reduced
is_desk_example : is_desk fresh_desk ≡ true
unfolding is_desk is_control are_rights fresh_desk slot_count station_count max_right max_changes
is_desk_example = refl

abbrev with_plan : Table → Desk
with_plan t = changed fresh_desk 1 (some (record { shape = record { arity = 2; roots = 1 }; rows = t }))

is_desk_held_example : map is_desk (with_plan ψ ∷ with_plan (row 11 11 ∷ row 12 12 ∷ []) ∷ []) ≡ true ∷ false ∷ []
unfolding is_desk is_control are_rights fresh_desk changed slot_count station_count max_right max_changes is_kept shape_in_range granted max_pairs
    max_digits verdict keep normal_form normal joined
is_desk_held_example = refl

-- ψ has three pairs: the sum as it is, one less and one more; and a plan of one pair put over it
is_desk_summed_example : (map (λ n. is_desk (with_sum (with_plan ψ) n)) (3 ∷ 2 ∷ 4 ∷ []) ≡ true ∷ false ∷ false ∷ [])
    × ((changed (with_plan ψ) 1 (some (record { shape = record { arity = 2; roots = 1 }; rows = row 1 1 ∷ [] }))).control.pairs ≡ 1)
unfolding is_desk is_control are_rights fresh_desk changed slot_count station_count max_right max_changes is_kept shape_in_range granted max_pairs
    max_digits verdict keep normal_form normal joined
is_desk_summed_example = (refl, refl)

abbrev at_five : ℕ → Control
at_five n = record { station = 0; changes = set fresh_control.changes 5 n; rights = fresh_rights; pairs = 0 }

-- station 7 is named; there is no station 8; a count at the limit, and one above it, of a station that isn't named
is_control_example : map is_control (naming fresh_control 7 ∷ naming fresh_control 8 ∷ at_five 4_000_000_000 ∷ at_five 4_000_000_001 ∷ [])
    ≡ true ∷ false ∷ true ∷ false ∷ []
unfolding is_control are_rights slot_count station_count max_right max_changes
is_control_example = refl

-- a right of station 7 on slot H: 0 and 2, and 3, which is none
are_rights_example : map (λ x. are_rights (right_given fresh_rights 7 7 x)) (0 ∷ 2 ∷ 3 ∷ []) ≡ true ∷ true ∷ false ∷ []
unfolding are_rights slot_count station_count max_right
are_rights_example = refl

-- what is given to one station on one slot changes no other right, and nothing is given to station 0
right_of_example : map (λ s. map (right_of (right_given (right_given fresh_rights 2 1 0) 0 1 0) s) (0 ∷ 1 ∷ [])) (0 ∷ 1 ∷ 2 ∷ 3 ∷ [])
    ≡ (2 ∷ 2 ∷ []) ∷ (2 ∷ 2 ∷ []) ∷ (2 ∷ 0 ∷ []) ∷ (2 ∷ 2 ∷ []) ∷ []
unfolding slot_count station_count max_right
right_of_example = refl
