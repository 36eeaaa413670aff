-- From a table that may be reduced to its blocks, and from its reduced blocks to `keep`: the roots cut the table into blocks, and the
-- reduced table does not depend on the depth at which it is looked for.
use Prim.Native.Nat.{ℕ, zero, suc, ◌^◌, ◌≤◌, ◌<◌}
use mathlib.Core.Path.{◌≡◌, refl, sym, ◌∙◌, ap, ap₂, subst, fun_ext}
use mathlib.Core.Logic.{◌⊎◌, inl, inr}
use mathlib.Core.List.Memᴰ
use mathlib.Core.List.{List, [], ◌∷◌, ◌++◌, nil≢cons, append-nil, Memᴰ}
use mathlib.Core.Option.{some}
use native.Mathlib.Nat.{le_refl, le_of_eq}
use native.Mathlib.Omega.{arith}
use lib.ListN.{length, get_or, length-append}
use Rattle.higman.specs.Words.{Shape, Word, count, digits, is_word}
use Rattle.higman.specs.Bases.{longest}
use Rattle.higman.specs.Tables.{Pair, Table, froms, tos, image}
use Rattle.higman.specs.Normal.{below, gather, whole, normal, normal_form, keep}
use Rattle.higman.specs.Limits.{max_digits}
use Rattle.higman.proofs.Tests.{Digit, Ways, IsWord, all_at, word_of_test, digit_of_mem}
use Rattle.higman.proofs.Proper.{Deep, Proper}
use Rattle.higman.proofs.Blocks.{row_under, gather_path}
use Rattle.higman.proofs.Columns.{Comparable, length_of_mem, comparable_of_proper, proper_of_column}
use Rattle.higman.proofs.Images.{image_of_row}
use Rattle.higman.proofs.Ordered.{Sorted, sorted_of_test}
use Rattle.higman.proofs.Actions.{Action, normal_form_unique}
use Rattle.higman.proofs.Elements.{table_action}
use Rattle.higman.proofs.Reduced.{in_part, Headed, Covers, mem_of_in_part, sorted_in_part, gather_in_parts, image_in_part, covers_in_part, block_or_parts}
use Rattle.words.proofs.Limit.{word_fits}
use Rattle.columns.specs.Packed.{table}
use Rattle.tables.specs.Reduction.{prefixed, Cut, listed, split, Parts, Reducible}
use Rattle.tables.proofs.Cuts.{prefixed_empty}

-- a table in order that covers a block cuts it
cut_of_sorted : (n d : ℕ) (t : Table) → Sorted (froms t) → ((p : Pair) → Memᴰ p t → Ways n p.from) → Covers n d t → Cut n d t
cut_of_sorted n zero t s w c = go (block_or_parts n t s w)
  where
    go : ((v : Word) × (t ≡ whole v)) ⊎ Headed n t → Cut n zero t
    go (inl (v, e)) = listed v e
    go (inr h) = let r = c [] tt refl in absurd (nil≢cons (r.3 ∙ ap (λ x. x ++ r.1) (h r.0 r.2).3))
cut_of_sorted n (suc d) t s w c =
    go (block_or_parts n t s w)
    (λ h i m.
    cut_of_sorted n d (in_part i t) (sorted_in_part i t s) (λ q k. (w (row_under i q) (mem_of_in_part i t q k)).1)
    (λ x k e. let r = c (i ∷ x) (digit_of_mem n i m, k) (ap suc e) in covers_in_part n t h i x r.0 r.1 r.2 r.3))
  where
    go : ((v : Word) × (t ≡ whole v)) ⊎ Headed n t → (Headed n t → (i : ℕ) → Memᴰ i (digits n) → Cut n d (in_part i t)) → Cut n (suc d) t
    go (inl (v, e)) deeper = listed v e
    go (inr h) deeper = split (λ i. in_part i t) (deeper h) (sym (gather_in_parts n t h s))

-- every word of as many digits as the longest of a basis begins with a word of it
deep_at : (s : Shape) (c : List Word) → 1 ≤ s.arity → Proper s c → (k : ℕ) → longest c ≤ k → Deep s k c
deep_at s c h p k l w y g = let (u, m, either) = comparable_of_proper s c h p w y in go u m either
  where
    short : (z : Word) → length z ≡ 0 → z ≡ []
    short [] e = refl
    short (a ∷ z) e = absurd (omega arith)

    go : (u : Word) → Memᴰ u c → Comparable w u → (u : Word) × (x : Word) × Memᴰ u c × (w ≡ u ++ x)
    go u m (inl (z, e)) =
        let none : length z ≡ 0 = omega (arith, length_of_mem u c m, simp length-append at (ap length e)) in
        (u, [], m, sym (append-nil w) ∙ ap (λ x. w ++ x) (sym (short z none)) ∙ sym e ∙ sym (append-nil u))
    go u m (inr (z, e)) = (u, z, m, e)

-- numbers of 64 bits hold no longer word
pub longest_fits : (f t : List ℕ) → ((i : ℕ) → get_or f i 0 < 2 ^ 64) → longest (froms (table f t)) ≤ max_digits
longest_fits [] t h = omega arith
longest_fits (x ∷ f) [] h = omega arith
longest_fits (x ∷ f) (y ∷ t) h = omega (arith, word_fits x (h 0), longest_fits f t (λ i. h (suc i)))

-- a table that may be reduced, with from-words of at most k ways
module _ (s : Shape) (t : Table) (h : 1 ≤ s.arity) (r : Reducible s t) (k : ℕ) (l : longest (froms t) ≤ suc k) where
  proper : Proper s (froms t)
  proper = proper_of_column s (froms t) h r.column

  sorted : Sorted (froms t)
  sorted = sorted_of_test (froms t) r.in_order

  heads : Headed s.roots t
  heads q m = starts q.from (proper.words q.from (Memᴰ.map (λ p. p.from) m))
    where
      starts : (w : Word) → IsWord s w → (i : ℕ) × (u : Word) × Digit s.roots i × (w ≡ i ∷ u)
      starts [] y = absurd y
      starts (i ∷ u) y = (i, u, y.0, refl)

  root_cut : (a : ℕ) → Memᴰ a (digits s.roots) → Cut s.arity k (in_part a t)
  root_cut a m =
      cut_of_sorted s.arity k (in_part a t) (sorted_in_part a t sorted)
      (λ q i. (proper.words (a ∷ q.from) (Memᴰ.map (λ p. p.from) (mem_of_in_part a t q i))).1)
      (λ x y e.
      let (u, z, i, f) = deep_at s (froms t) h proper (suc k) l (a ∷ x) (digit_of_mem s.roots a m, y) (omega arith) in
      let (q, j, g) = Memᴰ.of_map (λ p. p.from) t i in
      covers_in_part s.roots t heads a x q z j (f ∙ ap (λ w. w ++ z) (sym g)))

  -- the table is all parts of the empty word
  all_roots : t ≡ prefixed [] (gather (digits s.roots) (λ a. in_part a t)) ++ []
  all_roots =
      sym (gather_in_parts s.roots t heads sorted)
      ∙ sym (prefixed_empty (gather (digits s.roots) (λ a. in_part a t)))
      ∙ sym (append-nil (prefixed [] (gather (digits s.roots) (λ a. in_part a t))))

  to_words : (v : Word) → Memᴰ v (tos t) → IsWord s v
  to_words v m = word_of_test s v (all_at (is_word s) (tos t) r.to_words v m)

  -- the table acts on every word of more than k digits
  action : (f : Action s (image t)) × (f.depth ≡ longest (froms t))
  action = table_action s t h proper to_words

  abbrev shallow : Action s (image t)
  shallow = record { steady = action.0.steady; words = action.0.words; depth = k; total = total }
    where
      total : (w : Word) → IsWord s w → k < length w → (v : Word) × (image t w ≡ some v)
      total w y g =
          let (u, x, m, e) = deep_at s (froms t) h proper (suc k) l w y g in
          let (p, i, q) = Memᴰ.of_map (λ p. p.from) t m in
          (p.to ++ x, ap (image t) (e ∙ ap (λ z. z ++ x) (sym q)) ∙ image_of_row t proper.apart p i x)

  reduced_roots : prefixed [] (gather (digits s.roots) (λ a. normal s.arity k (image (in_part a t)))) ≡ keep s t
  unfolding keep normal_form
  reduced_roots =
      prefixed_empty (gather (digits s.roots) (λ a. normal s.arity k (image (in_part a t))))
      ∙ gather_path (digits s.roots) (λ a. normal s.arity k (image (in_part a t))) (λ a. normal s.arity k (below (image t) a))
      (λ a m. ap (normal s.arity k) (sym (fun_ext (image_in_part s.roots t heads a))))
      ∙ normal_form_unique s (image t) (image t) shallow action.0 k (longest (froms t)) 0 h (le_refl k) (le_of_eq action.1) (λ w y g. refl)

  module _ (w : Word) (m : ℕ) (e : w ≡ []) (f : m ≡ s.roots) where
    pub root_parts : Parts s.arity k w 1 m t
    root_parts =
        record {
          pairs = λ a. in_part a t;
          rest = [];
          cut = λ a i. root_cut a (subst (λ x. Memᴰ a (count 1 x)) f i);
          stands = all_roots ∙ ap₂ (λ x y. prefixed x (gather (count 1 y) (λ a. in_part a t)) ++ []) (sym e) (sym f);
        }

    -- the reduced blocks of the roots are the table that is kept
    pub keep_of_roots : prefixed w (gather (count 1 m) (λ a. normal s.arity k (image (root_parts.pairs a)))) ≡ keep s t
    unfolding root_parts
    keep_of_roots = ap₂ (λ x y. prefixed x (gather (count 1 y) (λ a. normal s.arity k (image (in_part a t))))) e f ∙ reduced_roots
