-- Maps on blocks that act on the words of a shape, as tables with bases for columns do, and their normal forms: they act alike, two
-- actions that agree on all long words have one normal form, and one action after another is an action.
use Prim.Native.Nat.{ℕ, ◌+◌, ◌≤◌, ◌<◌}
use mathlib.Core.Path.{◌≡◌, refl, sym, ◌∙◌, ap, subst}
use mathlib.Core.List.{[], ◌∷◌, ◌++◌, append_cancel_right}
use mathlib.Core.Option.{Option, none, some, none-ne-some, some-injective}
use native.Mathlib.Omega.{arith}
use lib.ListN.{length, take, drop, length-append, length-take, length-drop, take-append-drop}
use Rattle.higman.specs.Words.{Shape, Word, digits}
use Rattle.higman.specs.Tables.{BlockMap, image}
use Rattle.higman.specs.Normal.{below, normal, normal_form, and_then}
use Rattle.higman.proofs.Tests.{Digit, Ways, IsWord, digit_of_mem, mem_of_digit}
use Rattle.higman.proofs.Prefixes.{ways_append, ways_left, ones, ones_ways, ones_length}
use Rattle.higman.proofs.Blocks.{gather_path}
use Rattle.higman.proofs.Images.{image_gather}
use Rattle.higman.proofs.Maps.{Total, Agree, Steady, normal_unique, image_normal}

-- The parts of a block follow it, words go to words, and every word of more than `depth` digits goes somewhere.
pub record Action (s : Shape) (f : BlockMap) : Type 0 where
  pub steady : Steady f
  pub words : (w v : Word) → IsWord s w → f w ≡ some v → IsWord s v
  pub depth : ℕ
  pub total : (w : Word) → IsWord s w → depth < length w → (v : Word) × (f w ≡ some v)

-- two maps give the same on every word of at least k digits
abbrev pub Same : Shape → ℕ → BlockMap → BlockMap → Type 0
Same s k f g = (w : Word) → IsWord s w → k ≤ length w → f w ≡ g w

total_below_root : (s : Shape) (f : BlockMap) (F : Action s f) (d : ℕ) → F.depth ≤ d → (a : ℕ) → Digit s.roots a → Total s.arity d (below f a)
total_below_root s f F d h a k =
    record {
      steady = λ w v x e. F.steady (a ∷ w) v x e;
      solid = λ w y e. F.words (a ∷ w) [] (k, y) e;
      total = λ w y e. F.total (a ∷ w) (k, y) (omega arith);
    }

-- maps that are the same on long words agree wherever both are defined, since a word can be made long
agree_of_same : (s : Shape) (f g : BlockMap) (k : ℕ) → 1 ≤ s.arity → Steady f → Steady g → Same s k f g → (a : ℕ) → Digit s.roots a → Agree s.arity (below f a) (below g a)
agree_of_same s f g k h sf sg same a d w v u y e e' =
    let x = ones k in
    let long : k ≤ length (a ∷ w ++ x) = omega (arith, length-append w x, ones_length k) in
    let p = same (a ∷ w ++ x) (d, ways_append s.arity w x y (ones_ways s.arity k h)) long in
    append_cancel_right v u x (some-injective _ _ (sym (sf (a ∷ w) v x e) ∙ p ∙ sg (a ∷ w) u x e'))

-- Two actions that are the same on all long words have one normal form, whatever the depths it is looked for at.
pub normal_form_unique : (s : Shape) (f g : BlockMap) (F : Action s f) (G : Action s g) (d e k : ℕ) → 1 ≤ s.arity → F.depth ≤ d → G.depth ≤ e → Same s k f g → normal_form s d f ≡ normal_form s e g
unfolding normal_form
normal_form_unique s f g F G d e k h p q same =
    gather_path (digits s.roots) (λ a. normal s.arity d (below f a)) (λ a. normal s.arity e (below g a)) (λ a m. at a (digit_of_mem s.roots a m))
  where
    at : (a : ℕ) → Digit s.roots a → normal s.arity d (below f a) ≡ normal s.arity e (below g a)
    at a m =
        normal_unique s.arity d e (below f a) (below g a) h
        (total_below_root s f F d p a m)
        (total_below_root s g G e q a m)
        (agree_of_same s f g k h F.steady G.steady same a m)

-- The normal form gives what the map gives.
pub image_normal_form : (s : Shape) (f : BlockMap) (F : Action s f) (d : ℕ) → F.depth ≤ d → (w v : Word) → IsWord s w → f w ≡ some v → image (normal_form s d f) w ≡ some v
unfolding normal_form
image_normal_form s f F d h [] v y e = absurd y
image_normal_form s f F d h (a ∷ w) v y e =
    image_gather 1 s.roots (λ b. normal s.arity d (below f b)) a w (mem_of_digit s.roots a y.0)
    ∙ image_normal s.arity d (below f a) (total_below_root s f F d h a y.0) w v y.1 e

-- a word longer than the depth by k goes to a word of more than k digits
long_image : (s : Shape) (f : BlockMap) (F : Action s f) (k : ℕ) (w v : Word) → IsWord s w → F.depth + k < length w → f w ≡ some v → k < length v
long_image s f F k [] v y h e = absurd y
long_image s f F k (a ∷ w) v y h e =
    let x = drop F.depth w in
    let u = a ∷ take F.depth w in
    let y' : IsWord s u = (y.0, ways_left s.arity (take F.depth w) x (subst (Ways s.arity) (sym (take-append-drop F.depth w)) y.1)) in
    let (v', e') = F.total u y' (omega (arith, length-take F.depth w)) in
    let p : v' ++ x ≡ v = some-injective _ _ (sym (F.steady u v' x e') ∙ ap (λ z. f (a ∷ z)) (take-append-drop F.depth w) ∙ e) in
    go v' (F.words u v' y' e') p
  where
    go : (v' : Word) → IsWord s v' → v' ++ drop F.depth w ≡ v → k < length v
    go [] z p = absurd z
    go (b ∷ v') z p = omega (arith, length-append v' (drop F.depth w), length-drop F.depth w, ap length p)

pub and_then_some : (f g : BlockMap) (w v : Word) → f w ≡ some v → and_then f g w ≡ g v
and_then_some f g w v e = rw (e, and_then)

-- where the two maps go one after the other
pub and_then_cases : (f g : BlockMap) (w u : Word) → and_then f g w ≡ some u → (v : Word) × (f w ≡ some v) × (g v ≡ some u)
and_then_cases f g w u e = go (f w) refl e
  where
    go : (o : Option Word) → f w ≡ o → elim o as (λ _. Option Word) [ none ↦ none | some v ↦ g v ] ≡ some u → (v : Word) × (f w ≡ some v) × (g v ≡ some u)
    go none p q = absurd (none-ne-some u q)
    go (some v) p q = (v, p, q)

-- One action after another is an action, as deep as both together.
pub and_then_action : (s : Shape) (f g : BlockMap) (F : Action s f) (G : Action s g) → (H : Action s (and_then f g)) × (H.depth ≡ F.depth + G.depth)
and_then_action s f g F G = (record { steady = st; words = ws; depth = F.depth + G.depth; total = to }, refl)
  where
    st : Steady (and_then f g)
    st w u x e = let (v, p, q) = and_then_cases f g w u e in and_then_some f g (w ++ x) (v ++ x) (F.steady w v x p) ∙ G.steady v u x q

    ws : (w u : Word) → IsWord s w → and_then f g w ≡ some u → IsWord s u
    ws w u y e = let (v, p, q) = and_then_cases f g w u e in G.words v u (F.words w v y p) q

    to : (w : Word) → IsWord s w → F.depth + G.depth < length w → (u : Word) × (and_then f g w ≡ some u)
    to w y h =
        let (v, p) = F.total w y (omega arith) in
        let (u, q) = G.total v (F.words w v y p) (long_image s f F G.depth w v y h p) in
        (u, and_then_some f g w v p ∙ q)
