-- Plans made of the first pairs of two columns: how a column is filled place by place, and that such a plan is the packed plan of the
-- words that its numbers hold.
use Prim.Native.Nat.{ℕ, ◌-◌, ◌≤◌}
use mathlib.Core.Path.{◌≡◌, sym, ◌∙◌, ap, ap₂}
use mathlib.Core.List.{List, ◌++◌}
use native.Mathlib.Omega.{arith}
use lib.ListN.{length, take, drop, replicate, length-map}
use Rattle.std.proofs.lemmas.List.{drop-replicate, take_at}
use lib.Seq.{length-take-le, take-length}
use Rattle.higman.specs.Limits.{max_pairs}
use Rattle.words.specs.Packed.{unpack}
use Rattle.words.specs.Bytes.{shape}
use Rattle.columns.specs.Packed.{words_of, table, rows}
use Rattle.columns.proofs.Rows.{rows_length}
use Rattle.columns.proofs.Rearranged.{froms_table, tos_table}
use Rattle.operations.specs.Plans.{column, packed}
use Rattle.operations.specs.Filled.{filling, filled_plan}
use Rattle.operations.proofs.Values.{packed_again}

pub filling_is : (n : ℕ) (l : List ℕ) → n ≤ max_pairs → n ≤ length l → take n l ++ drop n (replicate 128 0) ≡ filling n l
unfolding max_pairs
filling_is n l h k = ap (λ r. take n l ++ r) (drop-replicate n 128 0)

-- a column of the words that n numbers hold
column_of : (l : List ℕ) (n : ℕ) → length l ≡ n → column (words_of l) ≡ l ++ replicate (max_pairs - n) 0
column_of l n e = ap₂ (λ f k. f ++ replicate (max_pairs - k) 0) (packed_again l) (length-map l unpack ∙ e)

pub filled_packed : (arity roots n : ℕ) (from to : List ℕ) → n ≤ length from → n ≤ length to
    → filled_plan arity roots n from to ≡ packed (record { shape = shape arity roots; rows = rows n from to })
unfolding packed
filled_packed arity roots n from to h k =
    let f = length-take-le n from h in
    let t = length-take-le n to k in
    let count = rows_length n from to h k in
    let left = ap column (froms_table (take n from) (take n to) (f ∙ sym t)) ∙ column_of (take n from) n f in
    let right = ap column (tos_table (take n from) (take n to) (f ∙ sym t)) ∙ column_of (take n to) n t in
    sym (λ i. record { arity = arity; roots = roots; pairs = count i; from = left i; to = right i })

-- the words that are filled up with zeros stand in front
pub front_of_filling : (l : List ℕ) → take (length l) (filling (length l) l) ≡ l
front_of_filling l = take_at (take (length l) l) (replicate (max_pairs - length l) 0) (length l) (ap length (take-length l)) ∙ take-length l

-- two columns that are filled up are the packed plan of their pairs
pub filled_table : (arity roots : ℕ) (from to : List ℕ) → length from ≡ length to
    → filled_plan arity roots (length from) from to ≡ packed (record { shape = shape arity roots; rows = table from to })
filled_table arity roots from to e =
    filled_packed arity roots (length from) from to (omega arith) (omega arith)
    ∙ ap₂ (λ f t. packed (record { shape = shape arity roots; rows = table f t })) (take-length from)
    (ap (λ n. take n to) e ∙ take-length to)
