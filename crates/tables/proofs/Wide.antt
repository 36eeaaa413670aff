-- A pair of *a then b* that is longer than the pair of a, or of b, that it comes from is not joined: it is a pair of the composition.
-- So if it does not fit the limits, neither does the composition. The reason is `whole_block`: where a reduced, ordered table sends
-- a block whole, one of its pairs says so.
use Prim.Native.Nat.{ℕ, ◌+◌, ◌≤◌, ◌<◌}
use mathlib.Core.Path.{◌≡◌, refl, sym, ◌∙◌, ap, ap₂, subst}
use mathlib.Core.Logic.{◌⊎◌, inl, inr}
use mathlib.Core.Bool.{true, false}
use mathlib.Core.List.Memᴰ
use mathlib.Core.List.{[], ◌∷◌, ◌++◌, append-nil, append_assoc, append_cancel_left, append_cancel_right, concat-ne-nil, head-eq_of_cons-eq, tail-eq_of_cons-eq, Memᴰ}
use mathlib.Core.Option.{Option, none, some, none-ne-some, some-injective}
use native.Mathlib.Omega.{arith}
use native.Mathlib.Nat.{le_refl, le_of_eq}
use lib.Dec.{T, leb}
use lib.ListN.{length, length-append}
use Rattle.higman.specs.Words.{Shape, Word, after, child}
use Rattle.higman.specs.Bases.{all, longest}
use Rattle.higman.specs.Tables.{Pair, Table, BlockMap, froms, first_match, image}
use Rattle.higman.specs.Normal.{keep, and_then, compose}
use Rattle.higman.specs.Limits.{fits, pair_fits, granted, max_pairs}
use Rattle.higman.proofs.Tests.{passes, so, T_of, clash, and_left, and_right, and_intro, all_at, pair_path, Ways, IsWord}
use Rattle.higman.proofs.Prefixes.{after_append, after_some_lem, comparable, ways_append, ways_left, word_append, word_right, ones, ones_ways, ones_length}
use Rattle.higman.proofs.Proper.{Apart}
use Rattle.higman.proofs.Images.{row_of_image, image_of_row}
use Rattle.higman.proofs.Maps.{Steady}
use Rattle.higman.proofs.Expansions.{same_of_apart}
use Rattle.higman.proofs.Actions.{Action, Same, normal_form_unique, image_normal_form, and_then_some, and_then_cases}
use Rattle.higman.proofs.Elements.{element_action, element_mutual, word_length}
use Rattle.higman.proofs.Group.{Member, compose_acts, compose_member}
use Rattle.tables.specs.Spread.{spread}
use Rattle.tables.proofs.Spread.{Met, spread_met, spread_acts}
use Rattle.tables.proofs.Followed.{spread_element, forth}

-- a table with one more pair in front, for the block c
abbrev told : Word → Word → Table → Table
told c Q b = record { from = c; to = Q } ∷ b

told_here : (c Q : Word) (b : Table) (x : Word) → image (told c Q b) (c ++ x) ≡ some (Q ++ x)
told_here c Q b x = rw (after_append c x, first_match)

told_elsewhere : (c Q : Word) (b : Table) (w : Word) → after c w ≡ none → image (told c Q b) w ≡ image b w
told_elsewhere c Q b w e = rw (e, first_match)

in_block_or_not : (c w : Word) → ((x : Word) × (w ≡ c ++ x)) ⊎ (after c w ≡ none)
in_block_or_not c w = go (after c w) refl
  where
    go : (o : Option Word) → after c w ≡ o → ((x : Word) × (w ≡ c ++ x)) ⊎ (after c w ≡ none)
    go none e = inr e
    go (some x) e = inl (x, after_some_lem c w x e)

module _ (s : Shape) (n : 1 ≤ s.arity) (b : Table) (B : Member s b) (c Q : Word) (yc : IsWord s c) (yQ : IsWord s Q) (k : ℕ)
    (sends : (x : Word) → Ways s.arity x → k ≤ length x → image b (c ++ x) ≡ some (Q ++ x)) where
  seen : Action s (image b)
  seen = (element_action s b n B.element).0

  -- a word that begins the block and goes somewhere takes the block where its long words go
  agrees : (w v z : Word) → c ≡ w ++ z → image b w ≡ some v → v ++ z ≡ Q
  agrees w v z f e =
      append_cancel_right (v ++ z) Q (ones k)
      (some-injective _ _
      (sym (seen.steady c (v ++ z) (ones k) (ap (image b) f ∙ seen.steady w v z e))
      ∙ sends (ones k) (ones_ways s.arity k n) (le_of_eq (sym (ones_length k)))))

  told_steady : Steady (image (told c Q b))
  told_steady w v x e = go (in_block_or_not c w)
    where
      f : BlockMap
      f = image (told c Q b)

      go : ((y : Word) × (w ≡ c ++ y)) ⊎ (after c w ≡ none) → f (w ++ x) ≡ some (v ++ x)
      go (inl (y, g)) =
          ap f (ap (λ u. u ++ x) g ∙ append_assoc c y x)
          ∙ told_here c Q b (y ++ x)
          ∙ ap some (sym (append_assoc Q y x) ∙ ap (λ u. u ++ x) (some-injective _ _ (sym (told_here c Q b y) ∙ ap f (sym g) ∙ e)))
      go (inr h) = later (in_block_or_not c (w ++ x))
        where
          there : image b w ≡ some v
          there = sym (told_elsewhere c Q b w h) ∙ e

          either : (y : Word) → w ++ x ≡ c ++ y → ((z : Word) × (c ≡ w ++ z)) ⊎ ((z : Word) × (w ≡ c ++ z)) → Q ++ y ≡ v ++ x
          either y g (inl (z, d)) =
              ap (λ u. u ++ y) (sym (agrees w v z d there))
              ∙ append_assoc v z y
              ∙ ap (λ u. v ++ u) (append_cancel_left w (z ++ y) x (sym (g ∙ ap (λ u. u ++ y) d ∙ append_assoc w z y)))
          either y g (inr (z, d)) = absurd (none-ne-some z (sym h ∙ ap (after c) d ∙ after_append c z))

          later : ((y : Word) × (w ++ x ≡ c ++ y)) ⊎ (after c (w ++ x) ≡ none) → f (w ++ x) ≡ some (v ++ x)
          later (inl (y, g)) = ap f g ∙ told_here c Q b y ∙ ap some (either y g (comparable w c x y g))
          later (inr g) = told_elsewhere c Q b (w ++ x) g ∙ seen.steady w v x there

  told_action : Action s (image (told c Q b))
  told_action =
      record {
        steady = told_steady;
        words = λ w v y e. words w v y e (in_block_or_not c w);
        depth = seen.depth;
        total = λ w y l. total w y l (in_block_or_not c w);
      }
    where
      words : (w v : Word) → IsWord s w → image (told c Q b) w ≡ some v → ((x : Word) × (w ≡ c ++ x)) ⊎ (after c w ≡ none) → IsWord s v
      words w v y e (inl (x, g)) =
          subst (IsWord s) (some-injective _ _ (sym (told_here c Q b x) ∙ ap (image (told c Q b)) (sym g) ∙ e))
          (word_append s Q x yQ (word_right s c x yc (subst (IsWord s) g y)))
      words w v y e (inr h) = seen.words w v y (sym (told_elsewhere c Q b w h) ∙ e)

      total : (w : Word) → IsWord s w → seen.depth < length w → ((x : Word) × (w ≡ c ++ x)) ⊎ (after c w ≡ none) → (v : Word) × (image (told c Q b) w ≡ some v)
      total w y l (inl (x, g)) = (Q ++ x, ap (image (told c Q b)) g ∙ told_here c Q b x)
      total w y l (inr h) = let (v, e) = seen.total w y l in (v, told_elsewhere c Q b w h ∙ e)

  told_same : Same s (length c + k) (image b) (image (told c Q b))
  told_same w y l = go (in_block_or_not c w)
    where
      go : ((x : Word) × (w ≡ c ++ x)) ⊎ (after c w ≡ none) → image b w ≡ image (told c Q b) w
      go (inl (x, g)) =
          ap (image b) g
          ∙ sends x (word_right s c x yc (subst (IsWord s) g y)) (omega (arith, length-append c x, ap length g))
          ∙ sym (ap (image (told c Q b)) g ∙ told_here c Q b x)
      go (inr h) = sym (told_elsewhere c Q b w h)

  -- Where a reduced, ordered table sends a block whole, one of its pairs says so: told of the block, it reduces to the same table.
  pub whole_block : image b c ≡ some Q
  unfolding keep seen
  whole_block =
      let d = told_action.depth in
      ap (λ t. image t c) (sym B.own ∙ normal_form_unique s (image b) (image (told c Q b)) seen told_action (longest (froms b)) d (length c + k) n (le_of_eq (element_action s b n B.element).1) (le_refl d) told_same)
      ∙ image_normal_form s (image (told c Q b)) told_action d (le_refl d) c Q yc (ap (image (told c Q b)) (sym (append-nil c)) ∙ told_here c Q b [] ∙ ap some (append-nil Q))

last_digit : (x : Word) → (x ≡ []) ⊎ ((y : Word) × (i : ℕ) × (x ≡ child y i))
last_digit [] = inl refl
last_digit (a ∷ x) = inr (go (last_digit x))
  where
    go : (x ≡ []) ⊎ ((y : Word) × (i : ℕ) × (x ≡ child y i)) → (y : Word) × (i : ℕ) × (a ∷ x ≡ child y i)
    go (inl e) = ([], a, ap (λ z. a ∷ z) e)
    go (inr (y, i, e)) = (a ∷ y, i, ap (λ z. a ∷ z) e)

-- a part has one block above it
same_parent : (u v : Word) (i j : ℕ) → child u i ≡ child v j → u ≡ v
same_parent [] [] i j e = refl
same_parent [] (b ∷ v) i j e = absurd (concat-ne-nil j v (sym (tail-eq_of_cons-eq e)))
same_parent (a ∷ u) [] i j e = absurd (concat-ne-nil i u (tail-eq_of_cons-eq e))
same_parent (a ∷ u) (b ∷ v) i j e = ap₂ ◌∷◌ (head-eq_of_cons-eq e) (same_parent u v i j (tail-eq_of_cons-eq e))

same_front : (p q x y : Word) (i j : ℕ) → p ++ child x i ≡ q ++ child y j → p ++ x ≡ q ++ y
same_front p q x y i j e =
    same_parent (p ++ x) (q ++ y) i j (append_assoc p x (i ∷ []) ∙ e ∙ sym (append_assoc q y (j ∷ [])))

-- a word that is followed by ways, without the last of these
front_word : (s : Shape) (p x : Word) (i : ℕ) → IsWord s p → IsWord s (p ++ child x i) → IsWord s (p ++ x)
front_word s p x i y z =
    word_append s p x y (ways_left s.arity x (i ∷ []) (word_right s p (child x i) y z))

-- a table sends no block whole whose part is one of its from-words
no_image_above : (t : Table) → Apart (froms t) → (p : Pair) → Memᴰ p t → (c : Word) (i : ℕ) → p.from ≡ child c i → (v : Word) → image t c ≡ some v → ⊥
no_image_above t h p m c i e v f =
    let (q, x, k, g, _) = row_of_image t c v f in
    let d : p.from ≡ q.from ++ child x i = e ∙ ap (λ u. child u i) g ∙ append_assoc q.from x (i ∷ []) in
    let same = same_of_apart (froms t) h q.from p.from (child x i) (Memᴰ.map (λ r. r.from) k) (Memᴰ.map (λ r. r.from) m) d in
    concat-ne-nil i x (append_cancel_left q.from (child x i) [] (sym d ∙ sym same ∙ sym (append-nil q.from)))

-- each pair of a table within the limits fits them
row_fits : (t : Table) → T (granted t) → (p : Pair) → Memᴰ p t → T (pair_fits p)
unfolding granted
row_fits t g = all_at pair_fits t (and_right (leb (length t) max_pairs) (all pair_fits t) g)

module _ (s : Shape) (n : 1 ≤ s.arity) (a b : Table) (A : Member s a) (B : Member s b) where
  closed : Member s (compose s a b)
  closed = compose_member s n a b A.element B.element

  -- what a pair of the composition says, a and then b do to long words
  composed : (P : Pair) → Memᴰ P (compose s a b) → (x : Word) → Ways s.arity x → (forth s n a b A B).depth ≤ length x → and_then (image a) (image b) (P.from ++ x) ≡ some (P.to ++ x)
  composed P m x y l =
      let z = closed.element.from_proper.words P.from (Memᴰ.map (λ t. t.from) m) in
      let w = word_append s P.from x z y in
      let (u, e) = (forth s n a b A B).total (P.from ++ x) w (omega (arith, length-append P.from x, word_length s P.from z)) in
      e
      ∙ sym (compose_acts s n a b A.element B.element (P.from ++ x) u w e)
      ∙ image_of_row (compose s a b) closed.element.from_proper.apart P m x

  -- b sends no two words to one
  second_injective : (v w u : Word) → IsWord s v → IsWord s w → image b v ≡ some u → image b w ≡ some u → v ≡ w
  second_injective v w u y z e f =
      some-injective _ _ (sym ((element_mutual s b B.element).undo v u y e) ∙ (element_mutual s b B.element).undo w u z f)

  -- A pair of *a then b* is no proper part of a pair P of the composition where it was extended on its from side: b would send a
  -- block whole whose part is one of its from-words.
  from_side : (p q P : Pair) → Memᴰ p a → Memᴰ q b → Memᴰ P (compose s a b) → (x y : Word) (i j : ℕ)
      → p.to ++ child x i ≡ q.from → p.from ++ child x i ≡ P.from ++ child y j → q.to ≡ P.to ++ child y j → ⊥
  from_side p q P mp mq mP x y i j e f g =
      no_image_above b B.element.from_proper.apart q mq (p.to ++ x) i (sym e ∙ sym (append_assoc p.to x (i ∷ []))) (P.to ++ y)
      (whole_block s n b B (p.to ++ x) (P.to ++ y) c_word Q-word (forth s n a b A B).depth sends)
    where
      q_from : IsWord s q.from
      q_from = B.element.from_proper.words q.from (Memᴰ.map (λ t. t.from) mq)

      q_to : IsWord s q.to
      q_to = B.element.to_proper.words q.to (Memᴰ.map (λ t. t.to) mq)

      c_word : IsWord s (p.to ++ x)
      c_word = front_word s p.to x i (A.element.to_proper.words p.to (Memᴰ.map (λ t. t.to) mp)) (subst (IsWord s) (sym e) q_from)

      P-to : IsWord s P.to
      P-to = closed.element.to_proper.words P.to (Memᴰ.map (λ t. t.to) mP)

      Q-word : IsWord s (P.to ++ y)
      Q-word = front_word s P.to y j P-to (subst (IsWord s) g q_to)

      y_ways : Ways s.arity y
      y_ways = word_right s P.to y P-to Q-word

      sends : (z : Word) → Ways s.arity z → (forth s n a b A B).depth ≤ length z → image b (p.to ++ x ++ z) ≡ some (P.to ++ y ++ z)
      sends z w l =
          let there : P.from ++ (y ++ z) ≡ p.from ++ (x ++ z) = sym (append_assoc P.from y z) ∙ ap (λ u. u ++ z) (sym (same_front p.from P.from x y i j f)) ∙ append_assoc p.from x z in
          ap (image b) (append_assoc p.to x z)
          ∙ sym (and_then_some (image a) (image b) (p.from ++ (x ++ z)) (p.to ++ (x ++ z)) (image_of_row a A.element.from_proper.apart p mp (x ++ z)))
          ∙ ap (and_then (image a) (image b)) (sym there)
          ∙ composed P mP (y ++ z) (ways_append s.arity y z y_ways w) (omega (arith, length-append y z))
          ∙ ap some (sym (append_assoc P.to y z))

  -- Nor where it was extended on its to side: a would do so.
  to_side : (p q P : Pair) → Memᴰ p a → Memᴰ q b → Memᴰ P (compose s a b) → (x y : Word) (i j : ℕ)
      → p.to ≡ q.from ++ child x i → p.from ≡ P.from ++ child y j → q.to ++ child x i ≡ P.to ++ child y j → ⊥
  to_side p q P mp mq mP x y i j e f g =
      no_image_above a A.element.from_proper.apart p mp (P.from ++ y) j (f ∙ sym (append_assoc P.from y (j ∷ []))) (q.from ++ x)
      (whole_block s n a A (P.from ++ y) (q.from ++ x) c_word Q-word (forth s n a b A B).depth sends)
    where
      P-from : IsWord s P.from
      P-from = closed.element.from_proper.words P.from (Memᴰ.map (λ t. t.from) mP)

      c_word : IsWord s (P.from ++ y)
      c_word = front_word s P.from y j P-from (subst (IsWord s) f (A.element.from_proper.words p.from (Memᴰ.map (λ t. t.from) mp)))

      Q-word : IsWord s (q.from ++ x)
      Q-word =
          front_word s q.from x i (B.element.from_proper.words q.from (Memᴰ.map (λ t. t.from) mq))
          (subst (IsWord s) e (A.element.to_proper.words p.to (Memᴰ.map (λ t. t.to) mp)))

      y_ways : Ways s.arity y
      y_ways = word_right s P.from y P-from c_word

      sends : (z : Word) → Ways s.arity z → (forth s n a b A B).depth ≤ length z → image a (P.from ++ y ++ z) ≡ some (q.from ++ x ++ z)
      sends z w l =
          let (v, k, h) = and_then_cases (image a) (image b) (P.from ++ (y ++ z)) (P.to ++ (y ++ z)) (composed P mP (y ++ z) (ways_append s.arity y z y_ways w) (omega (arith, length-append y z))) in
          let v-word = (element_action s a n A.element).0.words (P.from ++ (y ++ z)) v (word_append s P.from (y ++ z) P-from (ways_append s.arity y z y_ways w)) k in
          let there : q.to ++ (x ++ z) ≡ P.to ++ (y ++ z) = sym (append_assoc q.to x z) ∙ ap (λ u. u ++ z) (same_front q.to P.to x y i j g) ∙ append_assoc P.to y z in
          let met = ap (image b) (append_assoc q.from x z) ∙ image_of_row b B.element.from_proper.apart q mq (x ++ z) ∙ ap some there in
          ap (image a) (append_assoc P.from y z)
          ∙ k
          ∙ ap some (second_injective v (q.from ++ x ++ z) (P.to ++ (y ++ z)) v-word (word_append s (q.from ++ x) z Q-word w) h met)

  -- A pair of *a then b* that was extended is a pair of the composition.
  pub wide_stays : (r : Pair) → Memᴰ r (spread a b) → (p : Pair) → Memᴰ p a → (h : Met p b r) → (h.ahead ≡ [] → h.behind ≡ [] → ⊥) → Memᴰ r (compose s a b)
  wide_stays r m p k h wide =
      let e = spread_acts a b A.element.from_proper.apart B.element.from_proper.apart r m in
      let c = compose_acts s n a b A.element B.element r.from r.to ((spread_element s n a b A B).from_proper.words r.from (Memᴰ.map (λ t. t.from) m)) e in
      let (P, y, l, f, g) = row_of_image (compose s a b) r.from r.to c in
      go P y l f g (last_digit y)
    where
      q : Pair
      q = h.second

      go : (P : Pair) (y : Word) → Memᴰ P (compose s a b) → r.from ≡ P.from ++ y → r.to ≡ P.to ++ y → (y ≡ []) ⊎ ((z : Word) × (j : ℕ) × (y ≡ child z j)) → Memᴰ r (compose s a b)
      go P y l f g (inl e) =
          Memᴰ.cast (pair_path (f ∙ ap (λ x. P.from ++ x) e ∙ append-nil P.from) (g ∙ ap (λ x. P.to ++ x) e ∙ append-nil P.to)) l
      go P y l f g (inr (z, j, e)) = absurd (sides h.one_side)
        where
          from_ends : r.from ≡ P.from ++ child z j
          from_ends = f ∙ ap (λ x. P.from ++ x) e

          to_ends : r.to ≡ P.to ++ child z j
          to_ends = g ∙ ap (λ x. P.to ++ x) e

          to_extended : h.ahead ≡ [] → (h.behind ≡ []) ⊎ ((x : Word) × (i : ℕ) × (h.behind ≡ child x i)) → ⊥
          to_extended short (inl o) = wide short o
          to_extended short (inr (x, i, o)) =
              to_side p q P k h.among l x z i j
              (sym (append-nil p.to) ∙ ap (λ u. p.to ++ u) (sym short) ∙ h.meets ∙ ap (λ u. q.from ++ u) o)
              (sym (append-nil p.from) ∙ ap (λ u. p.from ++ u) (sym short) ∙ sym h.from_is ∙ from_ends)
              (ap (λ u. q.to ++ u) (sym o) ∙ sym h.to_is ∙ to_ends)

          from_extended : h.behind ≡ [] → (h.ahead ≡ []) ⊎ ((x : Word) × (i : ℕ) × (h.ahead ≡ child x i)) → ⊥
          from_extended short (inl o) = wide o short
          from_extended short (inr (x, i, o)) =
              from_side p q P k h.among l x z i j
              (ap (λ u. p.to ++ u) (sym o) ∙ h.meets ∙ ap (λ u. q.from ++ u) short ∙ append-nil q.from)
              (ap (λ u. p.from ++ u) (sym o) ∙ sym h.from_is ∙ from_ends)
              (sym (append-nil q.to) ∙ ap (λ u. q.to ++ u) (sym short) ∙ sym h.to_is ∙ to_ends)

          sides : (h.ahead ≡ []) ⊎ (h.behind ≡ []) → ⊥
          sides (inl short) = to_extended short (last_digit h.behind)
          sides (inr short) = from_extended short (last_digit h.ahead)

  -- So it decides whether the composition is granted.
  pub not_granted_of_wide : (r : Pair) → Memᴰ r (spread a b) → T (granted a) → T (granted b) → pair_fits r ≡ false → granted (compose s a b) ≡ false
  not_granted_of_wide r m ga gb bad = let (p, k, h) = spread_met a b r m in go (passes (granted (compose s a b))) (wide_stays r m p k h (wide p k h))
    where
      wide : (p : Pair) → Memᴰ p a → (h : Met p b r) → h.ahead ≡ [] → h.behind ≡ [] → ⊥
      wide p k h e f =
          let q = h.second in
          let from_fits = and_left (fits p.from) (fits p.to) (row_fits a ga p k) in
          let to_fits = and_right (fits q.from) (fits q.to) (row_fits b gb q h.among) in
          let from-same = h.from_is ∙ ap (λ u. p.from ++ u) e ∙ append-nil p.from in
          let to_same = h.to_is ∙ ap (λ u. q.to ++ u) f ∙ append-nil q.to in
          clash (so (pair_fits r) (and_intro (fits r.from) (fits r.to) (subst (λ u. T (fits u)) (sym from-same) from_fits) (subst (λ u. T (fits u)) (sym to_same) to_fits))) bad

      go : (granted (compose s a b) ≡ true) ⊎ (granted (compose s a b) ≡ false) → Memᴰ r (compose s a b) → granted (compose s a b) ≡ false
      go (inl g) l = absurd (clash (so (pair_fits r) (row_fits (compose s a b) (T_of g) r l)) bad)
      go (inr g) l = g
