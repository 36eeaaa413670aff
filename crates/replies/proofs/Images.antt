-- W's reply as one run over the buffer that was lent: the image was written into the part behind `ok⇥`, and then the line around it.
use Prim.Native.Nat.{ℕ, ◌+◌, ◌-◌, ◌≤◌}
use mathlib.Core.Path.{◌≡◌, refl, sym, ◌∙◌, ap, ap₂, subst}
use mathlib.Core.List.{List, [], ◌∷◌, ◌++◌, append-nil}
use native.Mathlib.Nat.{zero-add}
use native.Mathlib.Omega.{arith}
use lib.ListN.{length, take, drop, length-append, length-drop, drop_of_length-le}
use lib.Seq.{length-take-le, take_all, drop_at, drop-drop, take-append_seam}
use Rattle.higman.specs.Buffers.{written}
use Rattle.higman.specs.Text.{Bytes}
use Rattle.words.specs.Writing.{Wrote}
use Rattle.desk.specs.Bytes.{ok_line}
use Rattle.replies.specs.Lines.{image_at}
use Rattle.replies.proofs.Standing.{behind_wrote}

-- bytes written at the start of the part of a buffer from a place on
pub written_in_part : (l t : List ℕ) (at : ℕ) → take at l ++ written (drop at l) 0 t ≡ written l at t
written_in_part l t at =
    ap (λ k. take at l ++ (t ++ drop k (drop at l))) (zero-add (length t))
    ∙ ap (λ x. take at l ++ (t ++ x)) (drop-drop (length t) at l)

-- the same where the part was lent and has come back
pub written_lent : (l t back : List ℕ) (at : ℕ) → back ≡ written (take (length l - at) (drop at l)) 0 t
    → take at l ++ (back ++ drop (length l - at) (drop at l)) ≡ written l at t
written_lent l t back at b =
    let part = drop at l in
    let size = length-drop at l in
    ap (λ x. take at l ++ (back ++ x)) (drop_of_length-le part {i = length l - at} (omega arith))
    ∙ ap (λ x. take at l ++ x) (append-nil back ∙ b ∙ ap (λ x. written x 0 t) (take_all (length l - at) part (omega arith)))
    ∙ written_in_part l t at

-- what was written is read back
pub read_written : (l t : List ℕ) (at : ℕ) → at ≤ length l → take (length t) (drop at (written l at t)) ≡ t
read_written l t at h =
    ap (take (length t)) (drop_at (take at l) (t ++ drop (at + length t) l) at (length-take-le at l h))
    ∙ take-append_seam t (drop (at + length t) l)

-- buffers that agree from a place on agree from any later place on
drop_further : (l m : List ℕ) (e k : ℕ) → e ≤ k → drop e l ≡ drop e m → drop k l ≡ drop k m
drop_further l m e k h q =
    let later : k ≡ e + (k - e) = omega arith in
    ap (λ n. drop n l) later
    ∙ sym (drop-drop (k - e) e l)
    ∙ ap (drop (k - e)) q
    ∙ drop-drop (k - e) e m
    ∙ ap (λ n. drop n m) (sym later)

-- a run from the front on covers what was written before it and ends no later
pub wrote_over : {s t l l' l'' : List ℕ} {at e r : ℕ} → at ≤ length l → Wrote s l at l' e → e ≤ length t → Wrote t l' 0 l'' r
    → Wrote t l 0 l'' r
wrote_over {t = t} {l = l} {l' = l'} {e = e} h v k w =
    let behind = drop_further l' l e (0 + length t) (omega arith) (behind_wrote h v) in
    record { place = w.place; contents = w.contents ∙ ap (λ x. t ++ x) behind }

-- "`ok⇥` and the image", and the place: what `ok_image` makes of a buffer into which an image of so many bytes was written
pub image_line : (out image place : Bytes) {out₁ out₂ : Bytes} {n r : ℕ} → image_at ≤ length out → n ≡ length image
    → out₁ ≡ written out image_at image → Wrote (ok_line (take n (drop image_at out₁) ∷ place ∷ [])) out₁ 0 out₂ r
    → Wrote (ok_line (image ∷ place ∷ [])) out 0 out₂ r
image_line out image place {out₁} {out₂} {n} {r} h size e w =
    let inside : Wrote image out image_at out₁ (image_at + length image) = record { place = refl; contents = e } in
    let read : take n (drop image_at out₁) ≡ image = ap₂ (λ k x. take k (drop image_at x)) size e ∙ read_written out image image_at h in
    let line = subst (λ x. Wrote (ok_line (x ∷ place ∷ [])) out₁ 0 out₂ r) read w in
    wrote_over h inside (simp length-append (omega arith)) line
