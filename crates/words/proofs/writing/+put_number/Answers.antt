-- `words::writing::put_number`, which calls itself for the digits before the last, meets its contract.
use Prim.Native.Nat.{ℕ, ◌+◌, ◌/◌, ◌%◌, ◌≤◌, ◌<◌}
use mathlib.Core.Path.{◌≡◌, sym, ◌∙◌, ap, subst}
use mathlib.Core.List.{[], ◌∷◌}
use native.Mathlib.Omega.{arith}
use lib.ListN.{length, length-append}
use Rattle.higman.specs.Text.{digit_byte, decimal}
use Rattle.higman.proofs.Decimals.{decimal_digit, decimal_split}
use Rattle.words.specs.Writing.{Wrote}
use Rattle.words.proofs.Runs.{wrote_then}
use Rattle.words.proofs.writing.+put_number.Goals as goal

one_digit : (k : ℕ) → k < 10 → length (decimal k) ≡ 1
one_digit k h = ap length (decimal_digit k h)

one_digit_more : (k : ℕ) → 10 ≤ k → length (decimal k) ≡ length (decimal (k / 10)) + 1
one_digit_more k h = ap length (decimal_split k h) ∙ length-append (decimal (k / 10)) (digit_byte (k % 10) ∷ [])

pub put-requires : goal.put-requires
put-requires t c = omega (arith, one_digit c.args.k (omega arith))

pub returns-then-k-lt10 : goal.returns-then-k-lt10
returns-then-k-lt10 t c =
    subst (λ s. Wrote s c.args.out.now c.args.at c.put.new.out c.put.result) (sym (decimal_digit c.args.k (omega arith))) c.put.ensures

pub put_number-last_at-requires : goal.put_number-last_at-requires
put_number-last_at-requires t c =
    let more = one_digit_more c.args.k (omega arith) in
    (omega arith, omega (arith, more))

pub put-requires-2 : goal.put-requires-2
put-requires-2 t c = omega (arith, one_digit_more c.args.k (omega arith), c.put_number-last_at.ensures.place)

pub returns : goal.returns
returns t c =
    let whole = wrote_then (omega arith) c.put_number-last_at.ensures c.put-2.ensures in
    subst (λ s. Wrote s c.args.out.now c.args.at c.put-2.new.out c.put-2.result) (sym (decimal_split c.args.k (omega arith))) whole
