-- A record that asks and is not refused: the desk is as it was, and the reply is that of the record's own job.
use Prim.Native.Nat.{ℕ}
use mathlib.Core.Path.{◌≡◌, sym, ◌∙◌, ap}
use mathlib.Core.Bool.{false, ◌&&◌}
use mathlib.Core.List.{List, []}
use Rattle.std.specs.Prelude.{Ok}
use Rattle.higman.specs.Buffers.{written}
use Rattle.desk.specs.Records.{Record, Kind, kind, of_slots, is_change}
use Rattle.desk.specs.Replies.{Reply as ReplyOf, pass, admission, at_limit, job}
use Rattle.slots.specs.declared.Head.{Head}
use Rattle.slots.specs.declared.Reply.{Reply}
use Rattle.slots.specs.Desks.{desk_of}
use Rattle.slots.specs.Works.{uses_of, AdmittedAs, direct, told, desk_after, reply_to, Tells}
use Rattle.slots.proofs.Steps.{at_end}

-- the tests that all records have in common are passed, and the record is no change
pub record Asks (h : Head) (columns : List ℕ) (r : Record) : Type 0 where
  pub admitted : admission (desk_of h columns) r ≡ pass tt
  pub unchanged : is_change r ≡ false

pub asks_by : (h : Head) (columns : List ℕ) (r : Record) (reads : List ℕ) → kind r ≡ of_slots (uses_of reads []) false
    → AdmittedAs h reads [] (Ok tt) → Asks h columns r
asks_by h columns r reads k a = record { admitted = a r false columns k; unchanged = ap (λ (x : Kind). x.change) k }

pub answered : (h : Head) (columns : List ℕ) (r : Record) (out : List ℕ) → Asks h columns r → (reply : ReplyOf)
    → job (desk_of h columns) r ≡ pass (desk_of h columns, reply) → (p : Reply) → pass p ≡ told reply → (out' : List ℕ)
    → out' ≡ written out 0 (direct reply) → Tells r h columns out (Ok p) out'
answered h columns r out asks reply j p t out' o =
    let d = desk_of h columns in
    let step = at_end d r asks.admitted (d, reply) j (ap (λ b. b && at_limit d) asks.unchanged) in
    record {
      desk = ap (desk_after d) step;
      reply = t ∙ ap (λ x. told (reply_to x)) (sym step);
      output = o ∙ ap (λ x. written out 0 (direct (reply_to x))) (sym step);
    }
