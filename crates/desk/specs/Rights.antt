-- Who may see and touch a slot (change request E6), as one statement: what rights there are at first, what G gives and to whom, that
-- nothing else changes a right, and that whatever is done had the rights that it needs. What an unreadable slot holds is the matter of
-- Sights.antt. To be believed: the statement. Read Sights.antt next.
use Rattle.std.specs.Prelude.{ℕ, ◌≤◌, ◌<◌, ◌≡◌, false, T}
use mathlib.Core.List.{List, [], ◌∷◌, Memᴰ}
use Rattle.std.proofs.Math.Option.{none, some}
use Rattle.higman.specs.Bases.{all}
use Rattle.higman.specs.Limits.{slot_count}
use Rattle.higman.specs.Listing.{slot_number, is_slot}
use Rattle.higman.specs.Text.{Bytes}
use Rattle.desk.specs.Desk.{Rights, Desk, Draft, fresh_desk, station_of, right_of, own_right, held, IsDesk, with_right}
use Rattle.desk.specs.Records.{Right, no_right, may_read, may_write, right_number, Record, G, SlotUse, reads, target, mentions}
use Rattle.desk.specs.Records.{needed_right, slots_named, stations_named}
use Rattle.desk.specs.Records.{needs_open}
use Rattle.desk.specs.Replies.{ok, refuse, pass, Effect, operation, grant_by, respond_line, run, desk_after}

pub record RightsExact : Type 0 where
  -- "right being 0 nothing, 1 read, 2 read and write"; "Everyone starts with 2, and station 0 always has 2."
  pub numbers : (right_number no_right ≡ 0) × (right_number may_read ≡ 1) × (right_number may_write ≡ 2)
  pub within : (d : Desk) → IsDesk d → (s i : ℕ) → right_of d.control.rights s i ≤ 2
  pub fresh : (s i : ℕ) → s ≤ 7 → i < slot_count → right_of fresh_desk.control.rights s i ≡ 2
  pub first : (rights : Rights) (i : ℕ) → right_of rights 0 i ≡ 2
  -- what is asked is the right of the named station
  pub own : (d : Desk) (i : ℕ) → own_right d i ≡ right_of d.control.rights (station_of d) i
  -- G, from station 0 and for another, is done wherever no plan is open, and replies `ok`; no other G is: "19, G from another station or for
  -- station 0", whatever the rights are
  pub gives : (d : Desk) (s a : ℕ) (x : Right) → d.draft ≡ none → station_of d ≡ 0 → 1 ≤ s → s ≤ 7 → T (is_slot a)
      → operation d (G s a x) ≡ pass (with_right d s (slot_number a) (right_number x), ok)
  pub given : (d : Desk) (s a : ℕ) (x : Right) (e : Effect) → operation d (G s a x) ≡ pass e
      → (station_of d ≡ 0) × (1 ≤ s) × (s ≤ 7) × T (is_slot a) × (e ≡ (with_right d s (slot_number a) (right_number x), ok))
  pub not_given : (d : Desk) (s a : ℕ) (x : Right) → d.draft ≡ none → s ≤ 7 → T (is_slot a) → ((station_of d ≡ 0) × (1 ≤ s) → ⊥)
      → operation d (G s a x) ≡ refuse 19 none
  -- that right is given, no other changes, and nothing else does: "it counts no change"
  pub here : (d : Desk) → IsDesk d → (s i x : ℕ) → 1 ≤ s → s ≤ 7 → i < slot_count → right_of (with_right d s i x).control.rights s i ≡ x
  pub elsewhere : (d : Desk) (s i x t j : ℕ) → ((t ≡ s) × (j ≡ i) → ⊥)
      → right_of (with_right d s i x).control.rights t j ≡ right_of d.control.rights t j
  pub parts : (d : Desk) (s i x : ℕ)
      → ((with_right d s i x).slots ≡ d.slots) × ((with_right d s i x).draft ≡ d.draft) × (station_of (with_right d s i x) ≡ station_of d)
      × ((with_right d s i x).control.changes ≡ d.control.changes) × ((with_right d s i x).control.pairs ≡ d.control.pairs)
  -- no other record that is done changes a right; a refused line leaves them all (`refused` of `CountsOfStations`)
  pub only : (d : Desk) (r : Record) (e : Effect) → ((s a : ℕ) (x : Right) → r ≡ G s a x → ⊥) → operation d r ≡ pass e
      → e.0.control.rights ≡ d.control.rights
  -- G names its station, and by its numbers "a right above 2 is 1"
  pub names : (s a : ℕ) (x : Right) → stations_named (G s a x) ≡ s ∷ []
  pub by_number : (s a : ℕ) (x : Right) → grant_by s a (right_number x) ≡ pass (G s a x)
  pub above : (s a n : ℕ) → 2 < n → grant_by s a n ≡ refuse 1 none
  -- "Reading needs 1, P, X, C or a target needs 2, and G itself needs no right"
  pub needs : (needed_right reads ≡ 1) × (needed_right target ≡ 2) × (needed_right mentions ≡ 0)
  -- "20, a missing right, right after 8 wherever slots are named": 8 of any slot before it, and it before whatever else is amiss
  pub outside_first : (d : Desk) (r : Record) → d.draft ≡ none → needs_open r ≡ false → stations_named r ≡ [] → (u : SlotUse)
      → Memᴰ u (slots_named r) → (T (is_slot u.slot) → ⊥) → operation d r ≡ refuse 8 none
  pub missing : (d : Desk) (r : Record) → d.draft ≡ none → T (all (λ u. is_slot u.slot) (slots_named r)) → (u : SlotUse)
      → Memᴰ u (slots_named r) → own_right d (slot_number u.slot) < needed_right u.does → operation d r ≡ refuse 20 none
  -- so what is done had the right on every slot that it names
  pub had : (d : Desk) (r : Record) (e : Effect) → operation d r ≡ pass e → (u : SlotUse) → Memᴰ u (slots_named r)
      → needed_right u.does ≤ own_right d (slot_number u.slot)
  -- E keeps its plan in the slot that P named: from a fresh desk on, whoever has a plan open has the right 2 on its slot. And no line changes
  -- what a slot holds on which its station hasn't the right 2.
  pub opened : (ls : List Bytes) (o : Draft) → let d = desk_after fresh_desk (run fresh_desk ls) in d.draft
      ≡ some o → 2 ≤ own_right d o.slot
  pub untouched : (ls : List Bytes) (l : Bytes) (i : ℕ) → let d = desk_after fresh_desk (run fresh_desk ls) in own_right d i < 2
      → held (respond_line d l).0 i ≡ held d i
