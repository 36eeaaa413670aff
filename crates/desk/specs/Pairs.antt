-- The pairs that are held (change request E8): what each line kept and what it overwrote or emptied, by its reply and by what the slot held
-- before, and the statement that the stored sum is the one less the other, that it is the sum over the slots, and that H tells it to
-- station 0 alone. To be believed: `Tally` and the statement; `TallyExact` fixes what is tallied. Read Demands.antt next.
use Rattle.std.specs.Prelude.{ℕ, ◌+◌, ◌≡◌, refl, true, false, length}
use mathlib.Core.List.{List, [], ◌∷◌, map, Memᴰ}
use Rattle.std.proofs.Math.Option.{Option, none, some}
use Rattle.higman.specs.Limits.{Plan, slot_count, shape_in_range, is_plan_word, granted, max_pairs, max_digits, max_power}
use Rattle.higman.specs.Listing.{slot_number}
use Rattle.higman.specs.Answers.{verdict, raised, powered}
use Rattle.higman.specs.Normal.{joined, normal, normal_form, keep, identity}
use Rattle.higman.specs.Text.{Bytes, bytes, digit_of}
use Rattle.desk.specs.Limits.{station_count, max_right, max_changes, max_line, max_numeral}
use Rattle.desk.specs.Desk.{Draft, Desk, fresh_desk, station_of, held, pairs_of_slot, pairs_of_slots, IsDesk, changed, with_draft, dropped}
use Rattle.desk.specs.Desk.{at_station}
use Rattle.desk.specs.Records.{Record, H, SlotUse, reads, target, mentions, slots_named, needed_right, kind, parse, grammar}
use Rattle.desk.specs.Replies.{Reply, silent, ok, ok_number, ok_image, ok_block, lists, surveys, refuses, refuse, pass, ◌>>=◌, Effect}
use Rattle.desk.specs.Replies.{admission, job, operation, record_of, line_operation, respond_line, run, desk_after}
use Rattle.desk.specs.Bytes.{reply_bytes}
use Rattle.desk.specs.Buffers.{Work, lent_call, plain_call}
use Rattle.desk.specs.Stations.{made_change}

-- the pairs that a change kept, as its reply tells them: "`ok⇥` and the number of pairs kept" for E, F, I, K and X, and `ok` for C
abbrev pub pairs_told : Reply → ℕ
pairs_told silent = 0
pairs_told ok = 0
pairs_told (ok_number n) = n
pairs_told (ok_image w k) = 0
pairs_told (ok_block ls) = 0
pairs_told (lists b p) = 0
pairs_told (surveys hs) = 0
pairs_told (refuses n c) = 0

-- the slots that a change fills or empties: its targets or, of E, the slot of the open plan
abbrev pub target_slots : List SlotUse → List ℕ
target_slots [] = []
target_slots (u ∷ us) =
    elim u.does [ reads ↦ target_slots us | target ↦ slot_number u.slot ∷ target_slots us | mentions ↦ target_slots us ]

abbrev pub slots_changed : Desk → Record → List ℕ
slots_changed d r = elim d.draft [ some o ↦ o.slot ∷ [] | none ↦ target_slots (slots_named r) ]

abbrev pub pairs_at : Desk → List ℕ → ℕ
pairs_at d [] = 0
pairs_at d (i ∷ is) = pairs_of_slot (held d i) + pairs_at d is

-- "the pairs kept" and "the pairs overwritten or emptied"
pub record Tally : Type 0 where
  pub kept : ℕ
  pub lost : ℕ

-- those of a line: none, unless it made a change
abbrev pub no_pairs : Tally
no_pairs = record { kept = 0; lost = 0 }

abbrev pub tally_of : Desk → Bytes → Tally
tally_of d l =
    elim (made_change d l) [
      | false ↦ no_pairs
      | true ↦ elim (record_of l) [
        | refuse n c ↦ no_pairs
        | pass r ↦ record { kept = pairs_told (respond_line d l).1; lost = pairs_at d (slots_changed d r) }
      ]
    ]

-- and of some lines, one after the other
unfoldable pub tally : Desk → List Bytes → Tally
tally d [] = no_pairs
tally d (l ∷ ls) =
    let here = tally_of d l in
    let rest = tally (respond_line d l).0 ls in
    record { kept = here.kept + rest.kept; lost = here.lost + rest.lost }

-- What is tallied, by the slots alone and not by replies: of a change, the pairs that its target holds after it and those that the target
-- held before or, where a plan was open, those of the slot of that plan; of any other line, nothing. And what a change kept is the number
-- that its reply tells, where it tells one.
pub record TallyExact : Type 0 where
  pub no_lines : (d : Desk) → tally d [] ≡ record { kept = 0; lost = 0 }
  pub lines : (d : Desk) (l : Bytes) (ls : List Bytes)
      → ((tally d (l ∷ ls)).kept ≡ (tally_of d l).kept + (tally (respond_line d l).0 ls).kept)
      × ((tally d (l ∷ ls)).lost ≡ (tally_of d l).lost + (tally (respond_line d l).0 ls).lost)
  pub no_change : (d : Desk) (l : Bytes) → made_change d l ≡ false → tally_of d l ≡ record { kept = 0; lost = 0 }
  pub target_changed : (d : Desk) (l : Bytes) (r : Record) → IsDesk d → d.draft ≡ none → record_of l ≡ pass r → made_change d l ≡ true
      → (u : SlotUse) → Memᴰ u (slots_named r) → u.does ≡ target → let i = slot_number u.slot in tally_of d l
      ≡ record { kept = pairs_of_slot (held (respond_line d l).0 i); lost = pairs_of_slot (held d i) }
  pub plan_closed : (d : Desk) (l : Bytes) (o : Draft) → IsDesk d → d.draft ≡ some o → made_change d l ≡ true
      → tally_of d l ≡ record { kept = pairs_of_slot (held (respond_line d l).0 o.slot); lost = pairs_of_slot (held d o.slot) }
  pub replied : (d : Desk) (l : Bytes) (n : ℕ) → made_change d l ≡ true → (respond_line d l).1 ≡ ok_number n → (tally_of d l).kept ≡ n

pub record PairsHeld : Type 0 where
  -- "the number of pairs in all slots"
  pub of_slot : (pairs_of_slot none ≡ 0) × ((p : Plan) → pairs_of_slot (some p) ≡ length p.rows)
  pub of_slots : (pairs_of_slots [] ≡ 0)
      × ((x : Option Plan) (l : List (Option Plan)) → pairs_of_slots (x ∷ l) ≡ pairs_of_slot x + pairs_of_slots l)
  -- "let a record H from station 0 give it as `ok⇥` and the number": wherever no plan is open, whatever the rights are; it changes nothing
  pub tells : (d : Desk) → d.draft ≡ none → station_of d ≡ 0 → operation d H ≡ pass (d, ok_number d.control.pairs)
  pub told : (d : Desk) (e : Effect) → operation d H ≡ pass e → (station_of d ≡ 0) × (e ≡ (d, ok_number d.control.pairs))
  -- "Other stations get 19, after 1 and 2."
  pub not_told : (d : Desk) → d.draft ≡ none → (station_of d ≡ 0 → ⊥) → operation d H ≡ refuse 19 none
  -- "It equals the pairs kept less the pairs overwritten or emptied, counted from a fresh desk on"
  pub tallied : TallyExact
  pub counted : (ls : List Bytes)
      → (desk_after fresh_desk (run fresh_desk ls)).control.pairs + (tally fresh_desk ls).lost ≡ (tally fresh_desk ls).kept
  -- "and also the sum over the slots"
  pub summed : (ls : List Bytes) → let d = desk_after fresh_desk (run fresh_desk ls) in d.control.pairs ≡ pairs_of_slots d.slots
  -- "A desk whose stored sum is off is no desk (15)": it is left as it came
  pub off : (d : Desk) → (d.control.pairs ≡ pairs_of_slots d.slots → ⊥)
      → (IsDesk d → ⊥)
      × ((work : Work) (buffer : Bytes) → lent_call d work buffer ≡ (d, record { buffer = buffer; answer = refuse 15 none }))
      × ((work : Work) → plain_call d work ≡ (d, refuse 15 none))

-- ψ is kept in A and its power 0 in B, and then over ψ in A; a plan that is no basis is refused, A is emptied by station 1, and a slot that
-- is empty is not
abbrev kept_and_lost : List Bytes
kept_and_lost =
    map bytes
    ("P\tA\t2\t1" ∷ "M\t111\t11" ∷ "M\t112\t121" ∷ "M\t12\t122" ∷ "E" ∷ "K\tA\t0\tB" ∷ "H" ∷ "K\tA\t0\tA" ∷ "H"
    ∷ "P\tA\t2\t1" ∷ "M\t11\t1" ∷ "E" ∷ "H" ∷ "Z\t1" ∷ "C\tA" ∷ "C\tA" ∷ "H" ∷ "Z\t0" ∷ "H" ∷ "P\tA\t2\t1" ∷ "H" ∷ [])

pairs_example : (map (λ e. reply_bytes e.1) (run fresh_desk kept_and_lost)
    ≡ map bytes ("" ∷ "" ∷ "" ∷ "" ∷ "ok\t3\n" ∷ "ok\t1\n" ∷ "ok\t4\n" ∷ "ok\t1\n" ∷ "ok\t2\n"
    ∷ "" ∷ "" ∷ "no\t7\tF\n" ∷ "ok\t2\n" ∷ "ok\n" ∷ "ok\n" ∷ "no\t9\n" ∷ "no\t19\n" ∷ "ok\n" ∷ "ok\t1\n" ∷ "" ∷ "no\t2\n" ∷ []))
    × (tally fresh_desk kept_and_lost ≡ record { kept = 5; lost = 4 })
unfolding tally run reply_bytes ◌>>=◌ respond_line line_operation operation admission job kind needed_right parse grammar fresh_desk
    changed with_draft dropped at_station slot_count station_count max_right max_changes max_line max_numeral shape_in_range is_plan_word max_pairs
    max_digits max_power granted verdict digit_of powered raised identity keep normal_form normal joined
pairs_example = (refl, refl)
