-- `words::writing::write` meets its contract: a turn puts the last digit that is left before those that stand.
use Rattle.std.proofs.Common.{◌≡◌, ◌+◌, ◌-◌, ◌/◌, ◌%◌, ◌<◌, ◌⊎◌, inl, inr, ℕ, ◌∷◌, ◌++◌, length, sym, ◌∙◌, ap, arith}
use mathlib.Core.Path.{ap₂}
use native.Mathlib.Nat.{eq-zero-or-pos}
use lib.ListN.{set, length-set}
use Rattle.higman.specs.Buffers.{written}
use Rattle.higman.specs.Text.{digit_byte, word_bytes}
use Rattle.words.specs.Packed.{unpack}
use Rattle.words.proofs.Packing.{unpack_step}
use Rattle.words.proofs.Sizes.{length_step, no_digit}
use Rattle.words.proofs.Children.{unpack_last}
use Rattle.words.proofs.Bytes.{bytes_child, written_before}
use Rattle.words.proofs.writing.write.Goals as goal

-- a number whose word has a digit
not_empty : (x : ℕ) → 0 < length (unpack x) → 0 < x
not_empty x h = go (eq-zero-or-pos x)
  where
    go : (x ≡ 0) ⊎ (0 < x) → 0 < x
    go (inl z) = absurd (omega (arith, no_digit x z))
    go (inr p) = p

pub byte-requires : goal.byte-requires
byte-requires c = omega (arith, unpack_last c.loop-i.front)

pub loop-i-preserved : goal.loop-i-preserved
loop-i-preserved c =
    let a = c.args in
    let v = c.loop-i.invariant in
    let f = c.loop-i.front in
    let i = c.loop-i.i in
    let p : 0 < f = not_empty f (omega (arith, v.place)) in
    let step = length_step f p in
    let d : ℕ = digit_byte (f % 16) in
    let byte : c.byte.result ≡ d = c.byte.ensures ∙ ap digit_byte (c.last.ensures ∙ sym (unpack_last f)) in
    let next : i ≡ i - 1 + 1 = omega arith in
    record {
      done = d ∷ v.done;
      bytes = v.bytes ∙ ap (λ u. word_bytes u ++ v.done) (unpack_step f p) ∙ bytes_child (unpack (f / 16)) (f % 16) v.done;
      stands =
          ap₂ (λ o b. set o (i - 1) b) (v.stands ∙ ap (λ n. written a.out.now n v.done) next) byte
          ∙ written_before a.out.now v.done (i - 1) d (omega arith);
      place = omega arith;
      within = omega arith;
      behind = v.behind;
      long = length-set c.loop-i.out (i - 1) c.byte.result ∙ v.long;
    }
