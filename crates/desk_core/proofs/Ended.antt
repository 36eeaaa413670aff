-- The end of input: whether a line has begun, and what is left of the desk then.
use Prim.Native.Nat.{ℕ}
use mathlib.Core.Path.{◌≡◌, refl, sym, ◌∙◌, ap, subst}
use mathlib.Core.Bool.{Bool, true, false}
use mathlib.Core.List.{List, [], ◌∷◌}
use native.Mathlib.Omega.{arith}
use lib.ListN.{length, take}
use lib.Seq.{length-take-le}
use Rattle.words.specs.Writing.{Wrote}
use Rattle.desk.specs.Desk.{Desk, dropped}
use Rattle.higman.specs.Text.{Bytes}
use Rattle.desk.specs.Bytes.{reply_bytes}
use Rattle.desk.specs.Session.{is_idle, effect_of, finish}
use Rattle.slots.specs.declared.Head.{Head}
use Rattle.slots.specs.Desks.{desk_of, HoldsDesk}
use Rattle.desk_core.specs.declared.feeding.State.{State}
use Rattle.desk_core.specs.declared.feeding.Finished.{Finished}
use Rattle.lines.specs.Lines.{dropped_head}
use Rattle.desk_core.specs.Feeding.{state_of, begun_at, HoldsState, LastAnswered, FinishedBy}
use Rattle.lines.proofs.Settled.{dropped_is, holds_dropped}

-- a line has begun where some of it is held or it is too long
pub ended_overlong : (s : State) → s.overlong ≡ true → is_idle (state_of s) ≡ false
unfolding state_of
ended_overlong s e = ap (λ b. is_idle (begun_at s.head s.columns (take s.begun s.line) b)) e

some_bytes : (l : List ℕ) → (length l ≡ 0 → ⊥) → elim l [ [] ↦ true | b ∷ r ↦ false ] ≡ false
some_bytes [] h = absurd (h refl)
some_bytes (b ∷ l) h = refl

pub ended_begun : (s : State) → HoldsState s → (s.begun ≡ 0 → ⊥) → is_idle (state_of s) ≡ false
unfolding state_of
ended_begun s H n = by s.overlong
  where
    size : length (take s.begun s.line) ≡ s.begun
    size = length-take-le s.begun s.line (omega (arith, H.lined, H.fits))

    by : (b : Bool) → is_idle (begun_at s.head s.columns (take s.begun s.line) b) ≡ false
    by true = refl
    by false = some_bytes (take s.begun s.line) (λ q. n (sym size ∙ q))

idle_state : (s : State) → s.overlong ≡ false → s.begun ≡ 0 → is_idle (state_of s) ≡ true
unfolding state_of
idle_state s e n =
    ap (λ b. is_idle (begun_at s.head s.columns (take s.begun s.line) b)) e
    ∙ ap (λ k. is_idle (begun_at s.head s.columns (take k s.line) false)) n

module _ (s : State) (out : List ℕ) where
  abbrev ending : Bool → Desk × Bytes
  ending b =
      elim b [ true ↦ (dropped (state_of s).desk, []) | false ↦ (dropped (effect_of (state_of s)).0, reply_bytes (effect_of (state_of s)).1) ]

  ends : (b : Bool) → is_idle (state_of s) ≡ b → finish (state_of s) ≡ ending b
  unfolding finish
  ends b e = ap ending e

  pub finished_line : (r : Finished) (out' : List ℕ) → is_idle (state_of s) ≡ false → LastAnswered (effect_of (state_of s)) out r out' → FinishedBy s out r out'
  finished_line r out' e k =
      let x = sym (ends false e) in
      record {
        holds = k.holds;
        desk = k.desk ∙ ap (λ (z : Desk × Bytes). z.0) x;
        wrote = subst (λ b. Wrote b out 0 out' r.used) (ap (λ (z : Desk × Bytes). z.1) x) k.wrote;
      }

  pub finished_idle : HoldsState s → (h : Head) → h ≡ dropped_head s.head → s.overlong ≡ false → s.begun ≡ 0
      → FinishedBy s out (record { desk = record { head = h; columns = s.columns }; used = 0 }) out
  unfolding state_of
  finished_idle H h q e n =
      let x = sym (ends true (idle_state s e n)) in
      record {
        holds = subst (λ z. HoldsDesk z s.columns) (sym q) (holds_dropped s.head s.columns H.holds);
        desk = ap (λ z. desk_of z s.columns) q ∙ dropped_is s.head s.columns ∙ ap (λ (z : Desk × Bytes). z.0) x;
        wrote = subst (λ b. Wrote b out 0 out 0) (ap (λ (z : Desk × Bytes). z.1) x) (record { place = refl; contents = refl });
      }
