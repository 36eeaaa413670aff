-- How the pairs of a block lie: in front of the block's word, in one pair or part by part in digit order. What the first pair tells of
-- the block, and the reduced table of a block from those of its parts.
use Prim.Native.Nat.{ℕ, zero, suc, ◌+◌, ◌-◌, ◌≤◌, ◌<◌}
use mathlib.Core.Path.{◌≡◌, refl, sym, ◌∙◌, ap, ap₂, subst, fun_ext}
use mathlib.Core.List.{List, [], ◌∷◌, ◌++◌, nil≢cons, append-nil, append_assoc, append_cancel_left, head-eq_of_cons-eq, tail-eq_of_cons-eq, Memᴰ}
use mathlib.Core.Option.{none, some}
use native.Mathlib.Omega.{arith}
use lib.ListN.{length, get_or, drop}
use Rattle.higman.specs.Words.{Word, count, digits, child}
use Rattle.higman.specs.Tables.{Pair, Table, image}
use Rattle.higman.specs.Normal.{below, under, gather, whole, joined, normal}
use Rattle.higman.proofs.Tests.{pair_path}
use Rattle.higman.proofs.Prefixes.{child_append}
use Rattle.higman.proofs.Blocks.{row_under, gathered, gather_path, normal_whole, normal_parts}
use Rattle.higman.proofs.Images.{image_gather}
use Rattle.words.specs.Packed.{unpack}
use Rattle.columns.specs.Packed.{table}
use Rattle.tables.specs.Reduction.{prefixed, Cut, listed, split, Block, Parts, State, ahead}
use Rattle.columns.proofs.Rows.{Next, next_pair}

pub prefixed_length : (w : Word) (t : Table) → length (prefixed w t) ≡ length t
prefixed_length w [] = refl
prefixed_length w (p ∷ t) = ap suc (prefixed_length w t)

pub prefixed_append : (w : Word) (t u : Table) → prefixed w (t ++ u) ≡ prefixed w t ++ prefixed w u
prefixed_append w [] u = refl
prefixed_append w (p ∷ t) u = ap (λ l. record { from = w ++ p.from; to = p.to } ∷ l) (prefixed_append w t u)

pub prefixed_empty : (t : Table) → prefixed [] t ≡ t
prefixed_empty [] = refl
prefixed_empty (p ∷ t) = ap (λ l. p ∷ l) (prefixed_empty t)

-- the pairs of the i-th part, in front of the block's word and in front of the part's
pub prefixed_under : (w : Word) (i : ℕ) (t : Table) → prefixed w (under i t) ≡ prefixed (child w i) t
prefixed_under w i [] = refl
prefixed_under w i (p ∷ t) = ap₂ ◌∷◌ (pair_path (sym (child_append w i p.from)) refl) (prefixed_under w i t)

pub prefixed_whole : (w v : Word) → prefixed w (whole v) ≡ record { from = w; to = v } ∷ []
prefixed_whole w v = ap (λ u. record { from = u; to = v } ∷ []) (append-nil w)

pub prefixed_injective : (w : Word) (t u : Table) → prefixed w t ≡ prefixed w u → t ≡ u
prefixed_injective w [] [] e = refl
prefixed_injective w [] (q ∷ u) e = absurd (nil≢cons e)
prefixed_injective w (p ∷ t) [] e = absurd (nil≢cons (sym e))
prefixed_injective w (p ∷ t) (q ∷ u) e =
    let f = head-eq_of_cons-eq e in
    ap₂ ◌∷◌
    (pair_path (append_cancel_left w p.from q.from (ap (λ r. r.from) f)) (ap (λ r. r.to) f))
    (prefixed_injective w t u (tail-eq_of_cons-eq e))

-- a table that has a first pair
abbrev First : Table → Type 0
First t = (p : Pair) × (u : Table) × (t ≡ p ∷ u)

-- a block that is cut has a pair
first_pair : (n d : ℕ) (t : Table) → 1 ≤ n → Cut n d t → First t
first_pair n d t h (listed v e) = (record { from = []; to = v }, [], e)
first_pair zero (suc d) t h (split g c e) = absurd (omega arith)
first_pair (suc m) (suc d) t h (split g c e) =
    let (p, u, f) = first_pair (suc m) d (g 1) h (c 1 (Memᴰ.head refl)) in
    (row_under 1 p, under 1 u ++ gather (count 2 m) g, e ∙ ap (λ l. under 1 l ++ gather (count 2 m) g) f)

-- no pair of the parts has the block's own word
first_of_parts : (n : ℕ) (g : ℕ → Table) (w : Word) (p : Pair) (u : Table) → gather (digits n) g ≡ p ∷ u → w ++ p.from ≡ w → ⊥
first_of_parts n g w p u e f =
    let r = gathered (digits n) g p (subst (Memᴰ p) (sym e) (Memᴰ.head refl)) in
    nil≢cons (sym (append_cancel_left w p.from [] (f ∙ sym (append-nil w))) ∙ ap (λ q. q.from) r.stands)

image_under_block : (i : ℕ) (t u : Table) → image (under i t ++ u) [] ≡ image u []
image_under_block i [] u = refl
image_under_block i (p ∷ t) u = image_under_block i t u

image_gather_block : (is : List ℕ) (g : ℕ → Table) → image (gather is g) [] ≡ none
image_gather_block [] g = refl
image_gather_block (i ∷ is) g = image_under_block i (g i) (gather is g) ∙ image_gather_block is g

-- "The joins inside a block come before the join of the block itself": the reduced table of a block from those of its parts
normal_gather : (n d : ℕ) (g : ℕ → Table) → normal n (suc d) (image (gather (digits n) g)) ≡ joined n (gather (digits n) (λ i. normal n d (image (g i))))
normal_gather n d g =
    normal_parts n d (image (gather (digits n) g)) (image_gather_block (digits n) g)
    ∙ ap (joined n)
    (gather_path (digits n)
    (λ i. normal n d (below (image (gather (digits n) g)) i))
    (λ i. normal n d (image (g i)))
    (λ i m. ap (normal n d) (fun_ext (λ x. image_gather 1 n g i x m))))

normal_listed : (n d : ℕ) (v : Word) → normal n d (image (whole v)) ≡ whole v
normal_listed n d v = normal_whole n d (image (whole v)) v (ap some (append-nil v))

-- the block w, whose pairs are the next to read
module _ (n d : ℕ) (w : Word) (s : State) (h : 1 ≤ n) (paired : length s.from ≡ length s.to) (b : Block n d w (ahead s)) where
  next : (p : Pair) (u : Table) → b.pairs ≡ p ∷ u → Next s.read s.from s.to (record { from = w ++ p.from; to = p.to }) (prefixed w u ++ b.rest)
  next p u e = next_pair s.read s.from s.to _ _ paired (b.stands ∙ ap (λ l. prefixed w l ++ b.rest) e)

  pub block_place : s.read < length s.from
  block_place = let (p, u, e) = first_pair n d b.pairs h b.cut in (next p u e).place

  -- it has the block's own word: it is the block's only pair
  pub listed_block : unpack (get_or s.from s.read 0) ≡ w
      → (drop (s.read + 1) (table s.from s.to) ≡ b.rest)
      × (prefixed w (normal n d (image b.pairs)) ≡ record { from = w; to = unpack (get_or s.to s.read 0) } ∷ [])
  listed_block own = go d b.pairs refl b.cut
    where
      go : (e : ℕ) (l : Table) → b.pairs ≡ l → Cut n e l
          → (drop (s.read + 1) (table s.from s.to) ≡ b.rest)
          × (prefixed w (normal n d (image b.pairs)) ≡ record { from = w; to = unpack (get_or s.to s.read 0) } ∷ [])
      go e l p (listed v q) =
          let r = next (record { from = []; to = v }) [] (p ∙ q) in (
            r.behind,
            ap (λ l. prefixed w (normal n d (image l))) (p ∙ q)
                ∙ ap (prefixed w) (normal_listed n d v)
                ∙ prefixed_whole w v
                ∙ ap (λ x. record { from = w; to = x } ∷ []) (ap (λ x. x.to) r.stands),
          )
      go (suc e) l p (split g c q) =
          let (x, u, r) = first_pair n d b.pairs h b.cut in
          absurd (first_of_parts n g w x u (sym q ∙ sym p ∙ r) (ap (λ y. y.from) (next x u r).stands ∙ own))

  -- It has another word: the pairs are those of the n parts, and there is a way to go down.
  pub record Split (e m : ℕ) : Type 0 where
    pub deeper : d ≡ suc e
    pub parts : Parts n e w 1 m (ahead s)
    pub rest : parts.rest ≡ b.rest
    pub reduced : normal n d (image b.pairs) ≡ joined n (gather (count 1 m) (λ i. normal n e (image (parts.pairs i))))

  pub split_block : (unpack (get_or s.from s.read 0) ≡ w → ⊥) → (e m : ℕ) → e ≡ d - 1 → m ≡ n → Split e m
  split_block other e m p r = go d b.pairs refl refl b.cut
    where
      go : (d₁ : ℕ) (l : Table) → d ≡ d₁ → b.pairs ≡ l → Cut n d₁ l → Split e m
      go d₁ l q z (listed v u) =
          absurd (other (sym (ap (λ y. y.from) (next (record { from = []; to = v }) [] (z ∙ u)).stands) ∙ append-nil w))
      go (suc d₁) l q z (split g c u) =
          let deep : e ≡ d₁ = omega arith in
          record {
            deeper = q ∙ ap suc (sym deep);
            parts =
                record {
                  pairs = g;
                  rest = b.rest;
                  cut = λ i x. subst (λ y. Cut n y (g i)) (sym deep) (c i (subst (λ y. Memᴰ i (count 1 y)) r x));
                  stands = b.stands ∙ ap (λ l. prefixed w l ++ b.rest) (z ∙ u ∙ ap (λ y. gather (count 1 y) g) (sym r));
                };
            rest = refl;
            reduced =
                ap₂ (λ y l. normal n y (image l)) q (z ∙ u)
                ∙ normal_gather n d₁ g
                ∙ ap₂ (λ y z. joined n (gather (count 1 y) (λ i. normal n z (image (g i))))) (sym r) (sym deep);
          }

-- m parts of the block w, from the a-th on
module _ (n d : ℕ) (w : Word) (a m : ℕ) (l : Table) (b : Parts n d w a m l) where
  pub no_parts : m ≡ 0 → (l ≡ b.rest) × ((g : ℕ → Table) → prefixed w (gather (count a m) g) ≡ [])
  no_parts e = (b.stands ∙ ap (λ k. prefixed w (gather (count a k) b.pairs) ++ b.rest) e, λ g. ap (λ k. prefixed w (gather (count a k) g)) e)

  -- there is a part: u is its word, and m' parts are behind it
  module _ (u : Word) (a' m' : ℕ) (s : u ≡ child w a) (f : a' ≡ suc a) (e : m ≡ suc m') where
    pub gather_step : (g : ℕ → Table) → prefixed w (gather (count a m) g) ≡ prefixed u (g a) ++ prefixed w (gather (count a' m') g)
    gather_step g =
        ap (λ k. prefixed w (gather (count a k) g)) e
        ∙ prefixed_append w (under a (g a)) (gather (count (suc a) m') g)
        ∙ ap₂ ◌++◌ (prefixed_under w a (g a) ∙ ap (λ x. prefixed x (g a)) (sym s)) (ap (λ i. prefixed w (gather (count i m') g)) (sym f))

    abbrev pub first_part : Block n d u l
    first_part =
        record {
          pairs = b.pairs a;
          rest = prefixed w (gather (count a' m') b.pairs) ++ b.rest;
          cut = b.cut a (subst (λ k. Memᴰ a (count a k)) (sym e) (Memᴰ.head refl));
          stands =
              b.stands
              ∙ ap (λ t. t ++ b.rest) (gather_step b.pairs)
              ∙ append_assoc (prefixed u (b.pairs a)) (prefixed w (gather (count a' m') b.pairs)) b.rest;
        }

    abbrev pub parts_behind : (l' : Table) → l' ≡ first_part.rest → Parts n d w a' m' l'
    parts_behind l' p =
        record {
          pairs = b.pairs;
          rest = b.rest;
          cut = λ i x. b.cut i (subst (λ k. Memᴰ i (count a k)) (sym e) (Memᴰ.tail (subst (λ j. Memᴰ i (count j m')) f x)));
          stands = p;
        }
