-- `replies::ok_image` meets its contract: `ok` and the tab, the image that stands behind them, the place and the line end are one run. A
-- place has at most three digits, so each has room.
use mathlib.Core.Path.{◌≡◌, sym, subst}
use mathlib.Core.List.{[], ◌∷◌, ◌++◌, append_assoc}
use native.Mathlib.Omega.{arith}
use lib.ListN.{take, drop}
use Rattle.higman.specs.Limits.{max_pairs}
use Rattle.higman.specs.Text.{bytes, tab, line_end, decimal}
use Rattle.words.specs.Writing.{Wrote}
use Rattle.words.proofs.Runs.{wrote_then}
use Rattle.replies.specs.Lines.{image_at}
use Rattle.replies.proofs.Lines.{place_size}
use Rattle.replies.proofs.Standing.{wrote_around}
use Rattle.replies.proofs.ok_image.Goals as goal

pub overflow_cast-place : goal.overflow_cast-place
unfolding max_pairs
overflow_cast-place c = omega arith

pub put_decimal-end_at-requires : goal.put_decimal-end_at-requires
put_decimal-end_at-requires c = omega (arith, place_size c.args.place c.requires.place_granted)

pub put-requires : goal.put-requires
put-requires c = omega (arith, place_size c.args.place c.requires.place_granted)

pub returns : goal.returns
returns c =
    let a = c.args in
    let out = a.out.now in
    let size = place_size a.place c.requires.place_granted in
    let front = wrote_then (omega arith) c.put_two-tab_at.ensures c.put-image_at.ensures in
    let behind = wrote_then (omega arith) c.put_decimal-end_at.ensures c.put.ensures in
    let start : c.put-image_at.result ≡ image_at = omega arith in
    let image = take a.n (drop image_at out) in
    let run =
    subst
    (λ m. Wrote (bytes "ok\t" ++ (take a.n (drop m out) ++ tab ∷ (decimal a.place ++ line_end ∷ []))) out 0 c.put.new.out c.put.result)
    start
    (wrote_around a.n (omega arith) (omega arith) front behind) in
    subst (λ x. Wrote (bytes "ok\t" ++ x) out 0 c.put.new.out c.put.result)
    (sym (append_assoc image (tab ∷ decimal a.place) (line_end ∷ []))) run
