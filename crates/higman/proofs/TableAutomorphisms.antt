-- From a table with bases for columns to the automorphism that extends it. Reduction, composition, inverse, identity and powers of
-- tables are those of the automorphisms, and a table that is its own normal form can be read off its automorphism.
use Prim.Native.Nat.{ℕ, zero, suc, ◌+◌, ◌≤◌}
use mathlib.Core.Path.{◌≡◌, sym, ◌∙◌, ap, fun_ext}
use mathlib.Core.Option.{some}
use native.Mathlib.Omega.{arith}
use lib.IntN.{ℤ, pos, negsuc}
use lib.ListN.{length}
use Rattle.higman.specs.Words.{Shape}
use Rattle.higman.specs.Tables.{Table, BlockMap, swapped, image}
use Rattle.higman.specs.Normal.{keep, and_then, compose, inverse, identity, repeated, power}
use Rattle.higman.specs.Algebras.{Code, Homomorphism, Free, Automorphism, iterated, power_map, spell_code, value}
use Rattle.higman.proofs.Actions.{Action, and_then_cases, and_then_action}
use Rattle.higman.proofs.Elements.{Element, Mutual, element_action, element_swapped, element_mutual}
use Rattle.higman.proofs.Group.{member_path, keep_acts, compose_acts, inverse_member, identity_acts, repeated_element}
use Rattle.higman.proofs.Codes.{word_of_code, code_of_word, length_spell}
use Rattle.higman.proofs.Algebras.{identity_homomorphism, homomorphisms_in_turn}
use Rattle.higman.proofs.Extensions.{Follows, code_image, same_on_long, one_follower, follower, follower_follows}
use Rattle.higman.proofs.Endomorphisms.{value_injective}

module _ (s : Shape) (F : Free s) where
  -- a homomorphism of the algebra to itself
  abbrev pub Endomorphism : Type 0
  Endomorphism = Homomorphism s.arity F.algebra F.algebra

  -- one and then the other
  abbrev in_turn : Endomorphism → Endomorphism → Endomorphism
  in_turn h k = homomorphisms_in_turn s.arity F.algebra F.algebra h F.algebra k

  -- where a map takes back what another does, so do their followers
  followers_undo : (f g : BlockMap) (G : Action s f) (h k : Endomorphism) → Mutual s f g → Follows s F f h → Follows s F g k
      → (y : F.algebra.Element) → k.to (h.to y) ≡ y
  followers_undo f g G h k m p q =
      same_on_long s F F.algebra (in_turn h k) (identity_homomorphism s.arity F.algebra) G.depth
      (λ c l.
      let (d, e) = code_image s f G c l in
      ap k.to (p c d e) ∙ q d c (m.undo (spell_code c) (spell_code d) (word_of_code c) e))

  -- one map and then the other is followed by the one follower and then the other
  follows_then : (f g : BlockMap) (G : Action s f) (h k : Endomorphism) → Follows s F f h → Follows s F g k
      → Follows s F (and_then f g) (in_turn h k)
  follows_then f g G h k p q c d e =
      let (v, e₁, e₂) = and_then_cases f g (spell_code c) (spell_code d) e in
      let (b, r) = code_of_word s v (G.words (spell_code c) v (word_of_code c) e₁) in
      ap k.to (p c b (e₁ ∙ ap some (sym r))) ∙ q b d (ap g r ∙ e₂)

module _ (s : Shape) (n : 1 ≤ s.arity) (F : Free s) where
  module _ (t : Table) (E : Element s t) where
    abbrev table_acts : Action s (image t)
    table_acts = (element_action s t n E).0

    abbrev swapped_acts : Action s (image (swapped t))
    swapped_acts = (element_action s (swapped t) n (element_swapped s t E)).0

    -- THE AUTOMORPHISM of a table
    pub automorphism : Automorphism s F
    automorphism =
        let h = follower s F (image t) table_acts in
        let k = follower s F (image (swapped t)) swapped_acts in
        let p = follower_follows s F (image t) table_acts in
        let q = follower_follows s F (image (swapped t)) swapped_acts in
        let m = element_mutual s t E in
        record {
          there = h;
          back = k;
          back_there = followers_undo s F (image t) (image (swapped t)) table_acts h k m p q;
          there_back = followers_undo s F (image (swapped t)) (image t) swapped_acts k h (record { undo = m.redo; redo = m.undo }) q p;
        }

    pub automorphism_extends : Follows s F (image t) automorphism.there
    unfolding automorphism
    automorphism_extends = follower_follows s F (image t) table_acts

    automorphism_back : Follows s F (image (swapped t)) automorphism.back
    unfolding automorphism
    automorphism_back = follower_follows s F (image (swapped t)) swapped_acts

    pub automorphism_only : (h : Endomorphism s F) → Follows s F (image t) h
        → (y : F.algebra.Element) → h.to y ≡ automorphism.there.to y
    automorphism_only h p = one_follower s F (image t) table_acts h automorphism.there p automorphism_extends

  pub automorphism_kept : (t : Table) (E : Element s t) (K : Element s (keep s t)) (y : F.algebra.Element)
      → (automorphism (keep s t) K).there.to y ≡ (automorphism t E).there.to y
  automorphism_kept t E K =
      automorphism_only t E (automorphism (keep s t) K).there
      (λ c d e. automorphism_extends (keep s t) K c d (keep_acts s n t E (spell_code c) (spell_code d) (word_of_code c) e))

  pub automorphism_composed : (a b : Table) (A : Element s a) (B : Element s b) (C : Element s (compose s a b)) (y : F.algebra.Element)
      → (automorphism (compose s a b) C).there.to y ≡ (automorphism b B).there.to ((automorphism a A).there.to y)
  automorphism_composed a b A B C =
      let h = (automorphism a A).there in
      let k = (automorphism b B).there in
      one_follower s F (and_then (image a) (image b))
      (and_then_action s (image a) (image b) (table_acts a A) (table_acts b B)).0
      (automorphism (compose s a b) C).there
      (in_turn s F h k)
      (λ c d e. automorphism_extends (compose s a b) C c d (compose_acts s n a b A B (spell_code c) (spell_code d) (word_of_code c) e))
      (follows_then s F (image a) (image b) (table_acts a A) h k (automorphism_extends a A) (automorphism_extends b B))

  pub automorphism_inverted : (a : Table) (A : Element s a) (B : Element s (inverse s a)) (y : F.algebra.Element)
      → (automorphism (inverse s a) B).there.to y ≡ (automorphism a A).back.to y
  unfolding inverse
  automorphism_inverted a A B =
      let S = element_swapped s a A in
      one_follower s F (image (swapped a)) (swapped_acts a A) (automorphism (inverse s a) B).there (automorphism a A).back
      (λ c d e. automorphism_extends (inverse s a) B c d (keep_acts s n (swapped a) S (spell_code c) (spell_code d) (word_of_code c) e))
      (automorphism_back a A)

  pub automorphism_fixed : (I : Element s (identity s)) (y : F.algebra.Element) → (automorphism (identity s) I).there.to y ≡ y
  automorphism_fixed I =
      same_on_long s F F.algebra (automorphism (identity s) I).there (identity_homomorphism s.arity F.algebra) 0
      (λ c l. automorphism_extends (identity s) I c c (identity_acts s (spell_code c) (word_of_code c)))

  -- a repeated table gives the automorphism so many times in a row, since each repetition is composed with the table
  automorphism_repeated : (a : Table) (A : Element s a) (k : ℕ) (E : Element s (repeated s a k)) (y : F.algebra.Element)
      → (automorphism (repeated s a k) E).there.to y ≡ iterated (automorphism a A).there.to k y
  unfolding repeated
  automorphism_repeated a A zero E y = automorphism_fixed E y
  automorphism_repeated a A (suc k) E y =
      let R = repeated_element s n a A k in
      automorphism_composed (repeated s a k) a R A E y ∙ ap (automorphism a A).there.to (automorphism_repeated a A k R y)

  pub automorphism_raised : (a : Table) (A : Element s a) (k : ℤ) (E : Element s (power s a k)) (y : F.algebra.Element)
      → (automorphism (power s a k) E).there.to y ≡ power_map F (automorphism a A) k y
  unfolding power
  automorphism_raised a A (pos k) E y = automorphism_repeated a A k E y
  automorphism_raised a A (negsuc k) E y =
      let B = (inverse_member s n a A).element in
      automorphism_repeated (inverse s a) B (suc k) E y
      ∙ ap (λ f. iterated f (suc k) y) (fun_ext (automorphism_inverted a A B))

  -- what a table does to long words can be read off its automorphism
  pub automorphism_faithful : (a b : Table) (A : Element s a) (B : Element s b) → keep s a ≡ a → keep s b ≡ b
      → ((y : F.algebra.Element) → (automorphism a A).there.to y ≡ (automorphism b B).there.to y) → a ≡ b
  automorphism_faithful a b A B own own' h =
      let G = table_acts a A in
      let H = table_acts b B in
      member_path s n a b (record { element = A; own = own }) (record { element = B; own = own' }) (suc (G.depth + H.depth))
      (λ w y l.
      let (c, q) = code_of_word s w y in
      let (d, e) = code_image s (image a) G c (omega (arith, length_spell c.ways, ap length q)) in
      let (d', e') = code_image s (image b) H c (omega (arith, length_spell c.ways, ap length q)) in
      let p = sym (automorphism_extends a A c d e) ∙ h (value F c) ∙ automorphism_extends b B c d' e' in
      let r = value_injective s n F d d' p in
      ap (image a) (sym q) ∙ e ∙ ap (λ (z : Code s). some (spell_code z)) r ∙ sym e' ∙ ap (image b) q)
