-- Joins on packed columns: when a number holds the i-th part of a word, when pairs are the parts of a block with the parts of a word
-- in the same order, and what a join makes of the pairs written last.
use Prim.Native.Nat.{ℕ, zero, suc, ◌+◌, ◌-◌, ◌≤◌, ◌<◌}
use mathlib.Core.Path.{◌≡◌, refl, sym, ◌∙◌, ap, ap₂, subst}
use mathlib.Core.Logic.{◌⊎◌, inl, inr}
use mathlib.Core.Bool.{Bool, true, false, ◌&&◌}
use mathlib.Core.List.{List, ◌++◌, nil≢cons, head-eq_of_cons-eq}
use native.Mathlib.Nat.{eq-zero-or-pos}
use native.Mathlib.Omega.{arith}
use lib.Dec.{T, eqb}
use lib.ListN.{length, get_or, set, length-append}
use borrow.Author.Tests.{eqb-true, eqb-false}
use Rattle.higman.specs.Words.{Word, count, child}
use Rattle.higman.specs.Bases.{same_word}
use Rattle.higman.specs.Tables.{Table, same_table}
use Rattle.higman.specs.Normal.{gather, whole, parts, parent, joined}
use Rattle.higman.proofs.Tests.{passes, so, T_of, clash, same_word_lem, same_word_refl, same_table_lem, same_table_refl}
use Rattle.higman.proofs.Blocks.{Belted, JoinCases, joined_cases, joined_parts}
use Rattle.words.specs.Packed.{unpack, or_empty, last}
use Rattle.words.proofs.Packing.{unpack_zero, unpack_step, unpack_injective}
use Rattle.words.proofs.Children.{last_child, parent_of_child, unpack_parent, unpack_last}
use Rattle.tables.specs.Reduction.{prefixed}
use Rattle.columns.specs.Packed.{rows, rows_at}
use Rattle.columns.proofs.Rows.{append_parts, rows_length, rows_add, rows_set, rows_at_suc}
use Rattle.tables.proofs.Cuts.{prefixed_length, prefixed_whole, prefixed_injective}

other_word : (u v : Word) → (u ≡ v → ⊥) → same_word u v ≡ false
other_word u v h = go (passes (same_word u v))
  where
    go : (same_word u v ≡ true) ⊎ (same_word u v ≡ false) → same_word u v ≡ false
    go (inl e) = absurd (h (same_word_lem u v (T_of e)))
    go (inr e) = e

-- a number with another last digit is not the i-th part
pub other_last : (x : ℕ) (w : Word) (i : ℕ) → (last (unpack x) ≡ i → ⊥) → same_word (unpack x) (child w i) ≡ false
other_last x w i h = other_word (unpack x) (child w i) (λ e. h (ap last e ∙ last_child w i))

-- one with that last digit is, if the rest is the word
pub part_of : (x p w i : ℕ) → 1 ≤ i → last (unpack x) ≡ i → unpack p ≡ or_empty (parent (unpack x)) → eqb p w ≡ same_word (unpack x) (child (unpack w) i)
part_of x p w i h l e = go (passes (eqb p w)) (eq-zero-or-pos x)
  where
    go : (eqb p w ≡ true) ⊎ (eqb p w ≡ false) → (x ≡ 0) ⊎ (0 < x) → eqb p w ≡ same_word (unpack x) (child (unpack w) i)
    go q (inl z) = absurd (omega (arith, sym l ∙ ap (λ y. last (unpack y)) z ∙ ap last unpack_zero))
    go (inl q) (inr y) =
        let u : unpack x ≡ child (unpack w) i =
        unpack_step x y ∙ ap₂ child (unpack_parent x ∙ sym e ∙ ap unpack (eqb-true p w q)) (unpack_last x ∙ l) in
        q ∙ sym (so (same_word (unpack x) (child (unpack w) i)) (subst (λ v. T (same_word (unpack x) v)) u (same_word_refl (unpack x))))
    go (inr q) (inr y) =
        q ∙ sym (other_word (unpack x) (child (unpack w) i)
        (λ u. eqb-false p w q (unpack_injective p w (e ∙ ap (λ v. or_empty (parent v)) u ∙ parent_of_child (unpack w) i))))

-- whether m pairs from the place k on are the parts of w with the parts of v, from the i-th on
abbrev pub alike : Word → Word → List ℕ → List ℕ → ℕ → ℕ → ℕ → Bool
alike w v f t k i m = same_table (rows_at k m f t) (prefixed w (gather (count i m) (λ j. whole (child v j))))

module _ (w v : Word) (f t : List ℕ) (k i m : ℕ) where
  pub alike_step : (k' i' m' : ℕ) → k' ≡ suc k → i' ≡ suc i → m ≡ suc m' → k < length f → k < length t
      → alike w v f t k i m ≡ (same_word (unpack (get_or f k 0)) (child w i) && same_word (unpack (get_or t k 0)) (child v i) && alike w v f t k' i' m')
  alike_step k' i' m' p q r h h' =
      ap (alike w v f t k i) r
      ∙ ap (λ l. same_table l (prefixed w (gather (count i (suc m')) (λ j. whole (child v j))))) (rows_at_suc k m' f t h h')
      ∙ ap₂ (λ x y. same_word (unpack (get_or f k 0)) (child w i) && same_word (unpack (get_or t k 0)) (child v i) && alike w v f t x y m') (sym p) (sym q)

pub parts_length : (v : Word) (a m : ℕ) → length (gather (count a m) (λ i. whole (child v i))) ≡ m
parts_length v a zero = refl
parts_length v a (suc m) = ap suc (parts_length v (suc a) m)

no_join : (n : ℕ) (b : Table) → ((v : Word) → Belted v → b ≡ parts n v → ⊥) → joined n b ≡ b
no_join n b h = go (joined_cases n b)
  where
    go : JoinCases n b → joined n b ≡ b
    go (inl (e, k)) = k
    go (inr (v, c, e, k)) = absurd (h v c e)

-- the pairs of the block w stand at the places from start up to end, behind those in front
pub record Laid (f t : List ℕ) (start end w n : ℕ) (front b : Table) : Type 0 where
  pub some_part : 1 ≤ n
  pub order : start ≤ end
  pub from_room : end ≤ length f
  pub to_room : end ≤ length t
  pub stands : rows end f t ≡ front ++ prefixed (unpack w) b
  pub long : length front ≡ start

module _ {f t : List ℕ} {start end w n : ℕ} {front b : Table} (x : Laid f t start end w n front b) where
  apart : (rows start f t ≡ front) × (rows_at start (end - start) f t ≡ prefixed (unpack w) b)
  apart =
      let all : start + (end - start) ≡ end = omega arith in
      append_parts (rows start f t) front (rows_at start (end - start) f t) (prefixed (unpack w) b)
      (sym (rows_add start (end - start) f t (omega arith) (omega arith)) ∙ ap (λ k. rows k f t) all ∙ x.stands)
      (rows_length start f t (omega arith) (omega arith) ∙ sym x.long)

  -- pairs that are the parts of no word of at least a belt are left as they are
  unjoined : ((v : Word) → Belted v → b ≡ parts n v → ⊥) → rows end f t ≡ front ++ prefixed (unpack w) (joined n b)
  unjoined k = x.stands ∙ ap (λ u. front ++ prefixed (unpack w) u) (sym (no_join n b k))

  pub other_number : (end - start ≡ n → ⊥) → rows end f t ≡ front ++ prefixed (unpack w) (joined n b)
  other_number k =
      unjoined
      (λ v c e.
      k (omega (
        arith,
        rows_length end f t x.from_room x.to_room,
        ap length x.stands,
        length-append front (prefixed (unpack w) b),
        prefixed_length (unpack w) b,
        ap length e,
        parts_length v 1 n,
      )))

  -- n pairs, and the word v above the first to-word
  module _ (number : end - start ≡ n) (v : ℕ) (above : unpack v ≡ or_empty (parent (unpack (get_or t start 0)))) where
    block : rows_at start n f t ≡ prefixed (unpack w) b
    block = ap (λ k. rows_at start k f t) (sym number) ∙ apart.1

    -- if the pairs are the parts of a word, it is v
    above_parts : (u : Word) → b ≡ parts n u → unpack v ≡ u
    above_parts u e = go n refl
      where
        go : (m : ℕ) → n ≡ m → unpack v ≡ u
        go zero q = absurd (omega (arith, x.some_part))
        go (suc m) q =
            let first =
            sym (rows_at_suc start m f t (omega arith) (omega arith))
            ∙ ap (λ k. rows_at start k f t) (sym q)
            ∙ block
            ∙ ap (prefixed (unpack w)) (e ∙ ap (λ k. parts k u) q) in
            above ∙ ap (λ y. or_empty (parent y)) (ap (λ p. p.to) (head-eq_of_cons-eq first)) ∙ parent_of_child u 1

    pub no_belt : v ≡ 0 → rows end f t ≡ front ++ prefixed (unpack w) (joined n b)
    no_belt z = unjoined (λ u c e. nil≢cons (sym unpack_zero ∙ ap unpack (sym z) ∙ above_parts u e ∙ c.2))

    pub other_parts : (r : Bool) → r ≡ same_table (rows_at start n f t) (prefixed (unpack w) (parts n (unpack v))) → r ≡ false
        → rows end f t ≡ front ++ prefixed (unpack w) (joined n b)
    other_parts r q k =
        unjoined
        (λ u c e.
        let same : rows_at start n f t ≡ prefixed (unpack w) (parts n (unpack v)) =
        block ∙ ap (prefixed (unpack w)) (e ∙ ap (parts n) (sym (above_parts u e))) in
        clash
        (so (same_table (rows_at start n f t) (prefixed (unpack w) (parts n (unpack v))))
        (subst (λ l. T (same_table (rows_at start n f t) l)) same (same_table_refl (rows_at start n f t))))
        (sym q ∙ k))

    -- pairs that are the parts of v are written over by the one pair of the block
    pub all_parts : (v ≡ 0 → ⊥) → (r : Bool) → r ≡ same_table (rows_at start n f t) (prefixed (unpack w) (parts n (unpack v))) → r ≡ true
        → rows (start + 1) (set f start w) (set t start v) ≡ front ++ prefixed (unpack w) (joined n b)
    all_parts k r q e =
        let same : b ≡ parts n (unpack v) =
        prefixed_injective (unpack w) b (parts n (unpack v))
        (sym block ∙ same_table_lem (rows_at start n f t) (prefixed (unpack w) (parts n (unpack v))) (T_of (sym q ∙ e))) in
        let one : joined n b ≡ whole (unpack v) =
        ap (joined n) same ∙ joined_parts n (unpack v) x.some_part (λ z. k (unpack_injective v 0 (z ∙ sym unpack_zero))) in
        rows_set start f t w v (omega (arith, x.some_part)) (omega (arith, x.some_part))
        ∙ ap₂ ◌++◌ apart.0 (sym (ap (prefixed (unpack w)) one ∙ prefixed_whole (unpack w) (unpack v)))
