-- Maps on blocks as homomorphisms of a free algebra. An action is followed by one homomorphism and no other; two homomorphisms are
-- equal as soon as they are equal on all long words.
use Prim.Native.Nat.{ℕ, ◌≤◌}
use mathlib.Core.Path.{◌≡◌, refl, sym, ◌∙◌, ap}
use mathlib.Core.List.{List}
use mathlib.Core.Option.{some, some-injective}
use native.Mathlib.Omega.{arith}
use native.Mathlib.Nat.{le_of_eq}
use lib.ListN.{length, take, drop, length-append, length-take, take-append-drop}
use Rattle.higman.specs.Words.{Shape}
use Rattle.higman.specs.Tables.{BlockMap}
use Rattle.higman.specs.Algebras.{Way, Code, Algebra, Homomorphism, Free, spell_ways, spell_code, along, value}
use Rattle.higman.proofs.Maps.{Steady}
use Rattle.higman.proofs.Actions.{Action}
use Rattle.higman.proofs.Codes.{code_path, further, spell_further, spell_injective, word_of_code, code_of_word, length_spell}
use Rattle.higman.proofs.Algebras.{along_append, equal_of_equal_below, element_above, along_element_above, to_along}

-- a map that sends a code to a code sends its parts along
pub steady_further : {s : Shape} (f : BlockMap) → Steady f → (c d : Code s) (x : List (Way s.arity))
    → f (spell_code c) ≡ some (spell_code d)
    → f (spell_code (further c x)) ≡ some (spell_code (further d x))
steady_further f st c d x e = ap f (spell_further c x) ∙ st (spell_code c) (spell_code d) (spell_ways x) e ∙ ap some (sym (spell_further d x))

-- an action sends every long code to a code
pub code_image : (s : Shape) (f : BlockMap) (G : Action s f) (c : Code s) → G.depth ≤ length c.ways
    → (d : Code s) × (f (spell_code c) ≡ some (spell_code d))
code_image s f G c l =
    let (v, e) = G.total (spell_code c) (word_of_code c) (omega (arith, length_spell c.ways)) in
    let (d, q) = code_of_word s v (G.words (spell_code c) v (word_of_code c) e) in
    (d, e ∙ ap some (sym q))

module _ (s : Shape) (F : Free s) where
  -- the homomorphism sends the block of a word where the map sends it
  abbrev pub Follows : BlockMap → Homomorphism s.arity F.algebra F.algebra → Type 0
  Follows f h = (c d : Code s) → f (spell_code c) ≡ some (spell_code d) → h.to (value F c) ≡ value F d

  pub value_further : (c : Code s) (x : List (Way s.arity)) → value F (further c x) ≡ along F.algebra x (value F c)
  value_further c x = along_append s.arity F.algebra c.ways x (F.generator c.belt)

  pub to_further : (B : Algebra s.arity) (h : Homomorphism s.arity F.algebra B) (c : Code s) (x : List (Way s.arity))
      → h.to (value F (further c x)) ≡ along B x (h.to (value F c))
  to_further B h c x = ap h.to (value_further c x) ∙ to_along s.arity F.algebra B h x (value F c)

  -- homomorphisms that are the same on all long words are the same
  pub same_on_long : (B : Algebra s.arity) (h k : Homomorphism s.arity F.algebra B) (d : ℕ)
      → ((c : Code s) → d ≤ length c.ways → h.to (value F c) ≡ k.to (value F c)) → (y : F.algebra.Element) → h.to y ≡ k.to y
  same_on_long B h k d p =
      F.unique B h k (λ a. equal_of_equal_below s.arity B d (h.to (F.generator a)) (k.to (F.generator a)) (λ x e.
      sym (to_along s.arity F.algebra B h x (F.generator a))
      ∙ p (record { belt = a; ways = x }) (le_of_eq (sym e))
      ∙ to_along s.arity F.algebra B k x (F.generator a)))

  module _ (f : BlockMap) (G : Action s f) where
    -- an action is followed by at most one homomorphism
    pub one_follower : (h k : Homomorphism s.arity F.algebra F.algebra) → Follows f h → Follows f k
        → (y : F.algebra.Element) → h.to y ≡ k.to y
    one_follower h k p q = same_on_long F.algebra h k G.depth (λ c l. let (d, e) = code_image s f G c l in p c d e ∙ sym (q c d e))

    -- the images of the words at the action's depth, and above them that of a generator
    image_at : (a : Way s.roots) (x : List (Way s.arity)) → length x ≡ G.depth → F.algebra.Element
    image_at a x e = value F (code_image s f G (record { belt = a; ways = x }) (le_of_eq (sym e))).0

    root_image : Way s.roots → F.algebra.Element
    root_image a = element_above s.arity F.algebra G.depth (image_at a)

    -- THE EXTENSION of an action to the free algebra
    pub follower : Homomorphism s.arity F.algebra F.algebra
    follower = (F.extend F.algebra root_image).0

    follower_at_depth : (c : Code s) → length c.ways ≡ G.depth
        → (d : Code s) × (f (spell_code c) ≡ some (spell_code d)) × (follower.to (value F c) ≡ value F d)
    unfolding follower root_image image_at
    follower_at_depth c e =
        let A = F.algebra in
        let (e', p) = along_element_above s.arity A G.depth (image_at c.belt) c.ways e in
        let (d, q) = code_image s f G c (le_of_eq (sym e')) in
        let r = (F.extend A root_image).1 c.belt in
        (d, q, to_along s.arity A A follower c.ways (F.generator c.belt) ∙ ap (along A c.ways) r ∙ p)

    follower_on_long : (c d : Code s) → G.depth ≤ length c.ways → f (spell_code c) ≡ some (spell_code d)
        → follower.to (value F c) ≡ value F d
    follower_on_long c d l e =
        let x = take G.depth c.ways in
        let y = drop G.depth c.ways in
        let b : Code s = record { belt = c.belt; ways = x } in
        let (b', p, q) = follower_at_depth b (length-take G.depth c.ways ∙ omega arith) in
        let r : further b y ≡ c = code_path refl (take-append-drop G.depth c.ways) in
        let seen = sym (steady_further f G.steady b b' y p) ∙ ap (λ (z : Code s). f (spell_code z)) r ∙ e in
        let same : further b' y ≡ d = spell_injective (further b' y) d (some-injective _ _ seen) in
        ap (λ (z : Code s). follower.to (value F z)) (sym r)
        ∙ to_further F.algebra follower b y
        ∙ ap (along F.algebra y) q
        ∙ sym (value_further b' y)
        ∙ ap (value F) same

    pub follower_follows : Follows f follower
    follower_follows c d e =
        equal_of_equal_below s.arity F.algebra G.depth (follower.to (value F c)) (value F d)
        (λ x l.
        sym (to_further F.algebra follower c x)
        ∙ follower_on_long (further c x) (further d x) (omega (arith, length-append c.ways x)) (steady_further f G.steady c d x e)
        ∙ value_further d x)
