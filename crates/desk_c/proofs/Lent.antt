-- A line's call by its outcome: refused, also for want of room, or done.
use Prim.Native.Nat.{ℕ, ◌≤◌, ◌<◌}
use mathlib.Core.Path.{◌≡◌, refl, sym, ◌∙◌, ap, subst}
use mathlib.Core.Logic.{inl, inr}
use mathlib.Core.List.{List}
use mathlib.Core.Option.{Option, none}
use native.Mathlib.Omega.{arith}
use lib.ListN.{length, take}
use Rattle.std.specs.Prelude.{Ok, Err}
use Rattle.higman.specs.Refusals.{buffer_too_short, Letter}
use Rattle.higman.specs.Buffers.{written}
use Rattle.desk.specs.Desk.{Desk as DeskOf, dropped}
use Rattle.desk.specs.Replies.{Outcome, refuse, pass, Effect, settle, line_operation, respond_line}
use Rattle.desk.specs.Bytes.{reply_bytes}
use Rattle.desk.specs.Buffers.{Lent}
use Rattle.desk.proofs.Outcomes.{Passes, passes, line_answers, Answered as Replying}
use Rattle.desk.proofs.Calls.{lent_calls_exact}
use Rattle.operations.specs.declared.refusals.Refusal.TheVariants.{BufferTooShort}
use Rattle.operations.specs.Refusals.{number_of}
use Rattle.replies.specs.Sizes.{max_reply}
use Rattle.replies.proofs.EveryReply.{replies_fit}
use Rattle.slots.specs.declared.Head.{Head}
use Rattle.slots.specs.declared.Reply.{Reply}
use Rattle.slots.specs.declared.Refused.{Refused}
use Rattle.slots.specs.Desks.{desk_of, HoldsDesk}
use Rattle.slots.specs.Refused.{refused_for, letter_of, outcome_of}
use Rattle.slots.specs.Works.{Work, told, reply_to, desk_after, DoneBy}
use Rattle.slots.proofs.Windows.{shown_same}
use Rattle.lines.specs.declared.Stepped.{Stepped}
use Rattle.lines.specs.Lines.{dropped_head, SettledBy}
use Rattle.lines.proofs.Settled.{dropped_is, passes_told}
use Rattle.desk_values.specs.declared.Desk.{Desk}
use Rattle.desk_values.specs.Values.{packed_desk}
use Rattle.desk_c.specs.declared.Written.{Written}
use Rattle.desk_c.specs.declared.serving.Served.{Served}
use Rattle.desk_c.specs.Calls.{written_of, line_call, lent_of, LentBy}
use Rattle.desk_c.specs.Settling.{Replied, NotReplied}

-- an operation by what is told of its reply
pub passed_of : (o : Outcome Effect) (p : Reply) → pass p ≡ told (reply_to o) → (e : Effect) × (o ≡ pass e)
passed_of (refuse n c) p e = absurd (cc)
passed_of (pass x) p e = (x, refl)

pub refused_of : (o : Outcome Effect) → Passes Replying o → (n : ℕ) (c : Option Letter) → refuse n c ≡ told (reply_to o) → o ≡ refuse n c
refused_of (refuse m l) k n c e = cc
refused_of (pass x) (passes k) n c e = absurd (passes_told x.1 n c k (sym e))

module _ (d : DeskOf) (line out columns' out₁ : List ℕ) (h : Head) (room : ℕ) where
  pub line_refused : (f : Refused) → DoneBy d (line_operation d line) out h (Err f) columns' out₁ → NotReplied (line_operation d line) room f
  line_refused f k = inl (refused_of (line_operation d line) (line_answers d line) (number_of f.refusal) (letter_of f.column) k.reply)

  module _ (w : Work) (k : DoneBy d (line_operation d line) out h (Ok w) columns' out₁) (used : ℕ) (out' : List ℕ)
      (s : SettledBy (Ok w.reply) out₁ used out') where
    abbrev done : (e : Effect) × (line_operation d line ≡ pass e)
    done = passed_of (line_operation d line) w.reply k.reply

    pub line_short : room < used → NotReplied (line_operation d line) room (refused_for BufferTooShort)
    line_short r =
        let (e, p) = done in
        let wrote = s (reply_to (line_operation d line)) out k.reply k.output in
        inr (e, p, omega (arith, wrote.place, ap (λ o. length (reply_bytes (reply_to o))) p), refl)

    pub line_replied : used ≤ room → Replied (line_operation d line) room out (record { head = w.head; used = used }) columns' out'
    line_replied r =
        let (e, p) = done in
        let wrote = s (reply_to (line_operation d line)) out k.reply k.output in
        record {
          effect = e;
          passed = p;
          holds = k.holds;
          desk = k.desk ∙ ap (desk_after d) p;
          size = omega (arith, wrote.place, ap (λ o. length (reply_bytes (reply_to o))) p);
          fits = r;
          output = wrote.contents ∙ ap (λ o. written out 0 (reply_bytes (reply_to o))) p;
        }

-- a call by what it leaves
lent_by : (call : DeskOf × Lent) (d : DeskOf) (l : Lent) → call ≡ (d, l) → (r : Served Written) → r ≡ lent_of (d, l) → (out' : List ℕ)
    → out' ≡ l.buffer → LentBy call r out'
lent_by call d l e r p out' q = subst (λ c. LentBy c r out') (sym e) (record { left = p; buffer = q })

module _ (h : Head) (columns : List ℕ) (H : HoldsDesk h columns) (line out : List ℕ) where
  abbrev d : DeskOf
  d = desk_of h columns

  abbrev o : Outcome Effect
  o = line_operation d line

  abbrev call : DeskOf × Lent
  call = line_call d line out

  pub call_refused : (f : Refused) → NotReplied o (length out) f → (v : Desk) → v ≡ packed_desk (desk_of (dropped_head h) columns)
      → (a : Written) → a ≡ written_of (outcome_of (Err f)) → LentBy call (record { desk = v; answer = a }) out
  call_refused f (inl e) v p a q =
      let desk = p ∙ ap packed_desk (dropped_is h columns) in
      lent_by call (dropped d) (record { buffer = out; answer = outcome_of (Err f) })
      (lent_calls_exact.refused d (λ x. line_operation x line) out (number_of f.refusal) (letter_of f.column) H.is_desk_lem e)
      (record { desk = v; answer = a }) (λ i. record { desk = desk i; answer = q i }) out refl
  call_refused f (inr (e, k, r, g)) v p a q =
      let desk = p ∙ ap packed_desk (dropped_is h columns) in
      let answer = q ∙ ap (λ x. written_of (outcome_of (Err x))) g in
      lent_by call (dropped d) (record { buffer = out; answer = refuse buffer_too_short none })
      (lent_calls_exact.no_room d (λ x. line_operation x line) out e H.is_desk_lem k r)
      (record { desk = v; answer = a }) (λ i. record { desk = desk i; answer = answer i }) out refl

  module _ (out₀ columns' out' : List ℕ) (s : Stepped) (R : Replied o (length out) out₀ s columns' out') where
    -- any reply fits into as many bytes
    pub reply_fits : s.used ≤ max_reply
    unfolding respond_line
    reply_fits =
        let fits = replies_fit.every_reply d H.is_desk_lem line in
        let same = ap (λ x. length (reply_bytes (settle d x).1)) R.passed in
        omega (arith, R.size)

    pub call_done : s.used ≤ length out₀ → (v : Desk) → v ≡ packed_desk (desk_of s.head columns') → (out'' : List ℕ)
        → out'' ≡ written out 0 (take s.used out')
        → LentBy call (record { desk = v; answer = record { number = 0; column = 0; length = s.used } }) out''
    call_done k v p out'' q =
        let e = R.effect in
        let bytes = reply_bytes e.1 in
        let desk = p ∙ ap packed_desk R.desk in
        let size = R.size in
        let shown : take s.used out' ≡ bytes = ap (take s.used) R.output ∙ ap (λ m. take m (written out₀ 0 bytes)) size
        ∙ shown_same out₀ 0 bytes (omega arith) in
        lent_by call e.0 (record { buffer = written out 0 bytes; answer = pass (length bytes) })
        (lent_calls_exact.done d (λ x. line_operation x line) out e H.is_desk_lem R.passed (omega (arith, R.fits)))
        (record { desk = v; answer = record { number = 0; column = 0; length = s.used } })
        (λ i. record { desk = desk i; answer = record { number = 0; column = 0; length = size i } }) out'' (q ∙ ap (written out 0) shown)
