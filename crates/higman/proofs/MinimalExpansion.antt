-- A reduced plan stands on the minimal expansion (document 004, Lemma 4.3). It is the normal form of whatever table acts alike, so it
-- sends the from-words of that table whole. Of the table's to column only this is used, that no word of it is empty.
use Prim.Native.Nat.{suc, ◌+◌, ◌≤◌}
use mathlib.Core.Path.{◌≡◌, refl, sym, ◌∙◌, ap, subst}
use mathlib.Core.List.Memᴰ
use mathlib.Core.List.{[], ◌∷◌, ◌++◌, Memᴰ}
use mathlib.Core.Option.{some, some-injective}
use native.Mathlib.Nat.{le_of_eq}
use native.Mathlib.Omega.{arith}
use lib.Dec.{T}
use lib.ListN.{length-append}
use Rattle.higman.specs.Words.{Shape, Word}
use Rattle.higman.specs.Bases.{longest}
use Rattle.higman.specs.Tables.{Pair, Table, froms, image, long_enough}
use Rattle.higman.specs.Normal.{keep, normal_form}
use Rattle.higman.specs.Limits.{Plan}
use Rattle.higman.specs.Theorems.{ActAlike, MinimalExpansion}
use Rattle.higman.proofs.Tests.{IsWord, T_of, test_of_word}
use Rattle.higman.proofs.Prefixes.{ways_left, word_append, ones, ones_ways, ones_length}
use Rattle.higman.proofs.Proper.{Proper}
use Rattle.higman.proofs.Images.{image_of_row, image_of_from, long_enough_of_image}
use Rattle.higman.proofs.Actions.{Action, Same, normal_form_unique, image_normal_form}
use Rattle.higman.proofs.Elements.{Element, table_action, element_action, word_length}
use Rattle.higman.proofs.Group.{Member}
use Rattle.higman.proofs.KeptPlans.{element_of_bases, member_of_plan}

abbrev plan_of : Shape → Table → Plan
plan_of s t = record { shape = s; rows = t }

-- no to_word of the table is empty
abbrev pub Solid : Table → Type 0
Solid t = (p : Pair) → Memᴰ p t → p.to ≡ [] → ⊥

-- an element of the group, and a table with a basis on its left that acts alike
module _ (s : Shape) (n : 1 ≤ s.arity) (a : Table) (M : Member s a) (t : Table) (P : Proper s (froms t)) (solid : Solid t)
    (alike : ActAlike (plan_of s a) (plan_of s t)) where
  abbrev plan_acts : Action s (image a)
  plan_acts = (element_action s a n M.element).0

  -- where both have an image, it is the same
  images_agree : (w u v : Word) → IsWord s w → image a w ≡ some u → image t w ≡ some v → u ≡ v
  images_agree w u v y e f =
      let long = T_of (long_enough_of_image a w u e) in
      let long' = T_of (long_enough_of_image t w v f) in
      some-injective _ _ (sym e ∙ alike w (test_of_word s w y) long long' ∙ f)

  from_word : (p : Pair) → Memᴰ p t → IsWord s p.from
  from_word p m = P.words p.from (Memᴰ.map (λ q. q.from) m)

  -- the plan sends long words to words, so the to-words, which begin these, are words
  to_word : (p : Pair) → Memᴰ p t → IsWord s p.to
  to_word p m =
      front p.to (solid p m)
      (subst (IsWord s) (images_agree w u (p.to ++ tail) y e (image_of_row t P.apart p m tail)) (plan_acts.words w u y e))
    where
      tail : Word
      tail = ones plan_acts.depth

      w : Word
      w = p.from ++ tail

      y : IsWord s w
      y = word_append s p.from tail (from_word p m) (ones_ways s.arity plan_acts.depth n)

      sent : (v : Word) × (image a w ≡ some v)
      sent =
          plan_acts.total w y
          (omega (arith, length-append p.from tail, ones_length plan_acts.depth, word_length s p.from (from_word p m)))

      u : Word
      u = sent.0

      e : image a w ≡ some u
      e = sent.1

      front : (v : Word) → (v ≡ [] → ⊥) → IsWord s (v ++ tail) → IsWord s v
      front [] h k = absurd (h refl)
      front (i ∷ v) h k = (k.0, ways_left s.arity v tail k.1)

  table_acts : Action s (image t)
  table_acts =
      (table_action s t n P (λ v m. let (p, k, e) = Memᴰ.of_map (λ q. q.to) t m in subst (IsWord s) e (to_word p k))).0

  same_on_long : Same s (suc (plan_acts.depth + table_acts.depth)) (image a) (image t)
  same_on_long w y l =
      let (u, p) = plan_acts.total w y (omega arith) in
      let (v, q) = table_acts.total w y (omega arith) in
      p ∙ ap some (images_agree w u v y p q) ∙ sym q

  -- so the plan is the normal form of what the table does
  plan_is_normal_form : a ≡ normal_form s table_acts.depth (image t)
  unfolding keep
  plan_is_normal_form =
      sym M.own
      ∙ normal_form_unique s (image a) (image t) plan_acts table_acts (longest (froms a)) table_acts.depth
      (suc (plan_acts.depth + table_acts.depth)) n (le_of_eq (element_action s a n M.element).1) (le_of_eq refl) same_on_long

  -- and sends each from-word of the table to its to_word
  pub plan_sends_row : (p : Pair) → Memᴰ p t → image a p.from ≡ some p.to
  plan_sends_row p m =
      let own = image_of_from t P.apart p m in
      ap (λ u. image u p.from) plan_is_normal_form
      ∙ image_normal_form s (image t) table_acts table_acts.depth (le_of_eq refl) p.from p.to (from_word p m) own

  pub from_words_long_enough : (w : Word) → Memᴰ w (froms t) → T (long_enough a w)
  from_words_long_enough w m =
      let (p, k, e) = Memᴰ.of_map (λ q. q.from) t m in
      subst (λ u. T (long_enough a u)) e (T_of (long_enough_of_image a p.from p.to (plan_sends_row p k)))

pub minimal_expansion : MinimalExpansion
minimal_expansion s n a t A B alike = from_words_long_enough s n a (member_of_plan s a n A) t E.from_proper solid alike
  where
    E : Element s t
    E = element_of_bases s t n B

    solid : Solid t
    solid p m e = subst (IsWord s) e (E.to_proper.words p.to (Memᴰ.map (λ q. q.to) m))
