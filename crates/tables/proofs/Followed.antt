-- *a then b* is its pairs before reduction, reduced: these pairs have bases for columns, stand in order, are at most as many as a
-- and b have together, and do what a and then b do.
use Prim.Native.Nat.{suc, ◌+◌, ◌≤◌}
use mathlib.Core.Path.{◌≡◌, refl, sym, ◌∙◌, ap, subst}
use mathlib.Core.Logic.{◌⊎◌, inl, inr}
use mathlib.Core.Bool.{true}
use mathlib.Core.List.Memᴰ
use mathlib.Core.List.{[], ◌∷◌, ◌++◌, append-nil, Memᴰ}
use mathlib.Core.Option.{some, some-injective}
use lib.ListN.{length}
use Rattle.higman.specs.Words.{Shape, Word}
use Rattle.higman.specs.Tables.{Pair, Table, BlockMap, froms, tos, swapped, image}
use Rattle.higman.specs.Normal.{keep, and_then, compose, ordered}
use Rattle.higman.proofs.Tests.{Ways, IsWord}
use Rattle.higman.proofs.Prefixes.{word_append, word_right}
use Rattle.higman.proofs.Proper.{ApartFrom, Apart, Proper}
use Rattle.higman.proofs.Images.{image_of_row}
use Rattle.higman.proofs.Maps.{Steady}
use Rattle.higman.proofs.Actions.{Action, and_then_action}
use Rattle.higman.proofs.Ordered.{sorted_of_test, test_of_sorted, ordered_apart}
use Rattle.higman.proofs.Elements.{Element, Mutual, element_action, element_swapped, element_mutual, and_then_mutual}
use Rattle.higman.proofs.Group.{Member, by_common, keep_acts, keep_member, compose_acts, compose_member}
use Rattle.higman.proofs.KeptPlans.{keep_ordered}
use Rattle.tables.specs.Spread.{spread}
use Rattle.tables.proofs.Spread.{Met, spread_met, spread_acts, spread_reaches, sorted_spread, length_of_spread}

pub member_ordered : (s : Shape) (t : Table) → Member s t → ordered (froms t) ≡ true
member_ordered s t M = subst (λ u. ordered (froms u) ≡ true) M.own (keep_ordered s t)

-- where a steady map takes each pair of a table back, to-words that begin one another have from-words that do
tos_apart_of_undone : (g : BlockMap) → Steady g → (t : Table) → ((r : Pair) → Memᴰ r t → g r.to ≡ some r.from) → Apart (froms t) → Apart (tos t)
tos_apart_of_undone g st [] back h = tt
tos_apart_of_undone g st (p ∷ t) back h = (here, tos_apart_of_undone g st t (λ r m. back r (Memᴰ.tail m)) h.1)
  where
    begun : (u v : Pair) (z : Word) → g u.to ≡ some u.from → g v.to ≡ some v.from → v.to ≡ u.to ++ z → v.from ≡ u.from ++ z
    begun u v z e f k = some-injective _ _ (sym f ∙ ap g k ∙ st u.to u.from z e)

    here : ApartFrom p.to (tos t)
    here u m x =
        let (q, k, e) = Memᴰ.of_map (λ r. r.to) t m in
        let first = back p (Memᴰ.head refl) in
        let later = back q (Memᴰ.tail k) in
        let apart = h.0 q.from (Memᴰ.map (λ r. r.from) k) x in
        (λ z. apart.0 (begun p q x first later (e ∙ z)), λ z. apart.1 (begun q p x later first (z ∙ ap (λ v. v ++ x) (sym e))))

module _ (s : Shape) (n : 1 ≤ s.arity) (a b : Table) (A : Member s a) (B : Member s b) where
  pub spread_ordered : ordered (froms (spread a b)) ≡ true
  spread_ordered =
      test_of_sorted (froms (spread a b))
      (sorted_spread a b (sorted_of_test (froms a) (member_ordered s a A)) (sorted_of_test (froms b) (member_ordered s b B)))

  pub spread_length : length (spread a b) ≤ length a + length b
  spread_length = length_of_spread a b A.element.to_proper.apart

  spread_apart : Apart (froms (spread a b))
  spread_apart = ordered_apart (froms (spread a b)) spread_ordered

  -- a and then b, and the way back
  pub forth : Action s (and_then (image a) (image b))
  forth = (and_then_action s (image a) (image b) (element_action s a n A.element).0 (element_action s b n B.element).0).0

  back : Action s (and_then (image (swapped b)) (image (swapped a)))
  back =
      (and_then_action s (image (swapped b)) (image (swapped a))
      (element_action s (swapped b) n (element_swapped s b B.element)).0
      (element_action s (swapped a) n (element_swapped s a A.element)).0).0

  there_and_back : Mutual s (and_then (image a) (image b)) (and_then (image (swapped b)) (image (swapped a)))
  there_and_back =
      and_then_mutual s (image a) (image b) (image (swapped a)) (image (swapped b))
      (element_action s a n A.element).0
      (element_action s (swapped b) n (element_swapped s b B.element)).0
      (element_mutual s a A.element)
      (element_mutual s b B.element)

  acts : (r : Pair) → Memᴰ r (spread a b) → and_then (image a) (image b) r.from ≡ some r.to
  acts = spread_acts a b A.element.from_proper.apart B.element.from_proper.apart

  from_word : (r : Pair) → Memᴰ r (spread a b) → IsWord s r.from
  from_word r m = let (p, k, h) = spread_met a b r m in go p k h
    where
      go : (p : Pair) → Memᴰ p a → Met p b r → IsWord s r.from
      go p k h =
          subst (IsWord s) (sym h.from_is)
          (word_append s p.from h.ahead (A.element.from_proper.words p.from (Memᴰ.map (λ t. t.from) k)) (ways h.one_side))
        where
          ways : (h.ahead ≡ []) ⊎ (h.behind ≡ []) → Ways s.arity h.ahead
          ways (inl e) = subst (Ways s.arity) (sym e) tt
          ways (inr e) =
              word_right s p.to h.ahead (A.element.to_proper.words p.to (Memᴰ.map (λ t. t.to) k))
              (subst (IsWord s) (sym (h.meets ∙ ap (λ x. h.second.from ++ x) e ∙ append-nil h.second.from))
              (B.element.from_proper.words h.second.from (Memᴰ.map (λ t. t.from) h.among)))

  from_column_lem : Proper s (froms (spread a b))
  from_column_lem =
      record {
        words = λ w m. let (r, k, e) = Memᴰ.of_map (λ t. t.from) (spread a b) m in subst (IsWord s) e (from_word r k);
        apart = spread_apart;
        depth = suc forth.depth;
        deep = λ w y l.
            let (u, e) = forth.total w y l in
            let (r, x, m, f, g) = spread_reaches a b B.element.from_proper.apart w u e in
            (r.from, x, Memᴰ.map (λ t. t.from) m, f);
      }

  to_column_lem : Proper s (tos (spread a b))
  to_column_lem =
      record {
        words = λ v m.
            let (r, k, e) = Memᴰ.of_map (λ t. t.to) (spread a b) m in
            subst (IsWord s) e (forth.words r.from r.to (from_word r k) (acts r k));
        apart = tos_apart_of_undone (and_then (image (swapped b)) (image (swapped a))) back.steady (spread a b) (λ r m. there_and_back.undo r.from r.to (from_word r m) (acts r m)) spread_apart;
        depth = suc back.depth;
        deep = λ v y l.
            let (w, e) = back.total v y l in
            let (r, x, m, f, g) = spread_reaches a b B.element.from_proper.apart w v (there_and_back.redo v w y e) in
            (r.to, x, Memᴰ.map (λ t. t.to) m, g);
      }

  pub spread_element : Element s (spread a b)
  spread_element = record { from_proper = from_column_lem; to_proper = to_column_lem }

  -- The pairs do what a and then b do.
  pub spread_image : (w u : Word) → and_then (image a) (image b) w ≡ some u → image (spread a b) w ≡ some u
  spread_image w u e =
      let (r, x, m, f, g) = spread_reaches a b B.element.from_proper.apart w u e in
      ap (image (spread a b)) f ∙ image_of_row (spread a b) spread_apart r m x ∙ ap some (sym g)

  pub compose_of_spread : compose s a b ≡ keep s (spread a b)
  compose_of_spread =
      by_common s n (compose s a b) (keep s (spread a b))
      (compose_member s n a b A.element B.element)
      (keep_member s n (spread a b) spread_element)
      (and_then (image a) (image b))
      forth
      (λ w v y e. (compose_acts s n a b A.element B.element w v y e, keep_acts s n (spread a b) spread_element w v y (spread_image w v e)))
