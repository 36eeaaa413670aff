-- `desk_values::tidied_sizes` meets its contract: each size is tidied, and then the last gives way.
use Prim.Native.Nat.{ℕ, zero, suc, ◌+◌, ◌<◌}
use mathlib.Core.Path.{◌≡◌, ◌∙◌, ap, ap₂}
use mathlib.Core.List.{List, [], ◌∷◌, ◌++◌, map}
use native.Mathlib.Omega.{arith}
use lib.ListN.{length, get_or, set, drop, drop_of_length-le}
use lib.Seq.{drop-cons}
use Rattle.std.proofs.Common.{rules}
use Rattle.higman.specs.Words.{count}
use Rattle.higman.specs.Limits.{slot_count}
use Rattle.slots.specs.Blocks.{no_size}
use Rattle.desk_values.specs.Values.{tidy_size}
use Rattle.desk_values.proofs.tidied_sizes.Goals as goal

-- a list of which all elements but the last are known, when the last gives way
last_set : {A : Type 0} (f : ℕ → A) (l : List A) (z y : A) (n a : ℕ) → length l ≡ a + n + 1 → ((i : ℕ) → i < a + n → get_or l i z ≡ f i)
    → set (drop a l) n y ≡ map f (count a n) ++ (y ∷ [])
last_set f l z y zero a h known =
    ap (λ k. set k 0 y) (drop-cons l a z (omega arith) ∙ ap (λ k. get_or l a z ∷ k) (drop_of_length-le l {i = suc a} (omega arith)))
last_set f l z y (suc n) a h known =
    ap (λ k. set k (suc n) y) (drop-cons l a z (omega arith))
    ∙ ap₂ ◌∷◌ (known a (omega arith)) (last_set f l z y n (suc a) (omega arith) (λ i b. known i (omega arith)))

pub returns : goal.returns
unfolding slot_count
returns c =
    last_set (λ i. tidy_size (get_or c.args.sizes i no_size)) c.map-next.result no_size c.args.draft 8 0 (omega (arith, c.map-next.ensures.items.long))
    (λ i b. let call = c.map-next.ensures.items.at i no_size no_size (omega arith) in search rules)
