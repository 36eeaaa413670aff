-- Bytes that stand in a buffer already: they are as good as written, and a run in front of them and one behind them are one run with
-- them. So W's image can be written first, and its line around it.
use Prim.Native.Nat.{ℕ, ◌+◌, ◌≤◌}
use mathlib.Core.Path.{◌≡◌, sym, ◌∙◌, ap, subst}
use mathlib.Core.List.{List, ◌++◌, append_assoc}
use native.Mathlib.Omega.{arith}
use lib.ListN.{length, take, drop, length-append, length-drop, take-append-drop}
use lib.Seq.{length-take-le, drop_at, drop-drop}
use Rattle.higman.specs.Buffers.{written}
use Rattle.words.specs.Writing.{Wrote}
use Rattle.words.proofs.Runs.{wrote_then}

pub wrote_standing : (l : List ℕ) (at n : ℕ) → at + n ≤ length l → Wrote (take n (drop at l)) l at l (at + n)
wrote_standing l at n h =
    let part = take n (drop at l) in
    let size : length part ≡ n = length-take-le n (drop at l) (omega (arith, length-drop at l)) in
    let whole : written l at part ≡ l =
    ap (λ k. take at l ++ (part ++ drop (at + k) l)) size
    ∙ ap (λ x. take at l ++ (part ++ x)) (sym (drop-drop n at l))
    ∙ ap (λ x. take at l ++ x) (take-append-drop n (drop at l))
    ∙ take-append-drop at l in
    record { place = omega arith; contents = sym whole }

-- writing leaves what stands behind it
pub behind_wrote : {s l l' : List ℕ} {at e : ℕ} → at ≤ length l → Wrote s l at l' e → drop e l' ≡ drop e l
behind_wrote {s = s} {l = l} {at = at} {e = e} h w =
    let front = take at l ++ s in
    let rest = drop (at + length s) l in
    let size : length front ≡ e = length-append (take at l) s ∙ ap (λ k. k + length s) (length-take-le at l h) ∙ sym w.place in
    ap (drop e) (w.contents ∙ sym (append_assoc (take at l) s rest))
    ∙ drop_at front rest e size
    ∙ ap (λ k. drop k l) (sym w.place)

-- a run, so many bytes that stand behind it, and a run behind these
pub wrote_around : {s t l l' l'' : List ℕ} {at m e : ℕ} (n : ℕ) → at ≤ length l → m + n ≤ length l' → Wrote s l at l' m
    → Wrote t l' (m + n) l'' e → Wrote (s ++ (take n (drop m l) ++ t)) l at l'' e
wrote_around {s = s} {t = t} {l = l} {l' = l'} {l'' = l''} {at = at} {m = m} {e = e} n h k v w =
    subst (λ x. Wrote (s ++ (take n x ++ t)) l at l'' e) (behind_wrote h v)
    (wrote_then h v (wrote_then (omega arith) (wrote_standing l' m n k) w))
