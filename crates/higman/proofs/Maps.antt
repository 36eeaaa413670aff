-- The lemma that carries the group laws. Two maps on blocks that are steady, total below their depths and agree wherever both are
-- defined have the same normal form; and the normal form acts as the map it came from.
use Prim.Native.Nat.{ℕ, zero, suc, ◌≤◌}
use mathlib.Core.Path.{◌≡◌, refl, sym, ◌∙◌, ap}
use mathlib.Core.Logic.{inl, inr}
use mathlib.Core.List.{[], ◌∷◌, ◌++◌, concat-ne-nil}
use mathlib.Core.Option.{Option, none, some}
use lib.ListN.{length}
use Rattle.higman.specs.Words.{Word, digits, child}
use Rattle.higman.specs.Tables.{Table, BlockMap, image}
use Rattle.higman.specs.Normal.{below, gather, whole, joined, normal}
use Rattle.higman.proofs.Tests.{Digit, Ways, digit_of_mem, mem_of_digit}
use Rattle.higman.proofs.Prefixes.{child_append}
use Rattle.higman.proofs.Blocks.{gather_path, JoinCases, joined_cases, joined_parts, normal_whole, normal_parts}
use Rattle.higman.proofs.Images.{image_gather}

-- what a block goes to, its parts follow
abbrev pub Steady : BlockMap → Type 0
Steady f = (w v x : Word) → f w ≡ some v → f (w ++ x) ≡ some (v ++ x)

-- a map below a block: what a block goes to its parts follow, no block goes to the empty word, and every block d ways below goes somewhere
pub record Total (n d : ℕ) (f : BlockMap) : Type 0 where
  pub steady : Steady f
  pub solid : (w : Word) → Ways n w → f w ≡ some [] → ⊥
  pub total : (w : Word) → Ways n w → length w ≡ d → (v : Word) × (f w ≡ some v)

-- where both maps are defined they give the same
abbrev pub Agree : ℕ → BlockMap → BlockMap → Type 0
Agree n f g = (w v u : Word) → Ways n w → f w ≡ some v → g w ≡ some u → v ≡ u

total_below : (n d : ℕ) (f : BlockMap) → Total n (suc d) f → (i : ℕ) → Digit n i → Total n d (below f i)
total_below n d f h i k =
    record {
      steady = λ w v x e. h.steady (i ∷ w) v x e;
      solid = λ w y e. h.solid (i ∷ w) (k, y) e;
      total = λ w y e. h.total (i ∷ w) (k, y) (ap suc e);
    }

agree_below : (n : ℕ) (f g : BlockMap) → Agree n f g → (i : ℕ) → Digit n i → Agree n (below f i) (below g i)
agree_below n f g a i k w v u y e e' = a (i ∷ w) v u (k, y) e e'

agree_sym : (n : ℕ) (f g : BlockMap) → Agree n f g → Agree n g f
agree_sym n f g a w v u y e e' = sym (a w u v y e' e)

-- where f sends the whole block to v, the normal form of a map that agrees with f is that one pair, however deep the map is defined
normal_joins : (n e : ℕ) (f g : BlockMap) (v : Word) → 1 ≤ n → Steady f → (v ≡ [] → ⊥) → f [] ≡ some v → Total n e g → Agree n f g → normal n e g ≡ whole v
normal_joins n zero f g v h st k p tg a =
    let (u, q) = tg.total [] tt refl in
    normal_whole n zero g u q ∙ ap whole (sym (a [] v u tt p q))
normal_joins n (suc e) f g v h st k p tg a =
    go (g []) refl (λ i d. normal_joins n e (below f i) (below g i) (child v i) h (λ w u x. st (i ∷ w) u x) (concat-ne-nil i v) (st [] v (i ∷ []) p) (total_below n e g tg i d) (agree_below n f g a i d))
  where
    go : (o : Option Word) → g [] ≡ o → ((i : ℕ) → Digit n i → normal n e (below g i) ≡ whole (child v i)) → normal n (suc e) g ≡ whole v
    go (some u) q deeper = normal_whole n (suc e) g u q ∙ ap whole (sym (a [] v u tt p q))
    go none q deeper =
        normal_parts n e g q
        ∙ ap (joined n) (gather_path (digits n) (λ i. normal n e (below g i)) (λ i. whole (child v i)) (λ i m. deeper i (digit_of_mem n i m)))
        ∙ joined_parts n v h k

-- the same with both sides in their places: one map is defined on the whole block
normal_one_whole : (n d e : ℕ) (f g : BlockMap) (v : Word) → 1 ≤ n → Total n d f → Total n e g → Agree n f g → f [] ≡ some v → normal n d f ≡ normal n e g
normal_one_whole n d e f g v h tf tg a p =
    normal_whole n d f v p
    ∙ sym (normal_joins n e f g v h tf.steady (λ z. tf.solid [] tt (p ∙ ap some z)) p tg a)

-- Below a block, maps that agree have one normal form.
pub normal_unique : (n d e : ℕ) (f g : BlockMap) → 1 ≤ n → Total n d f → Total n e g → Agree n f g → normal n d f ≡ normal n e g
normal_unique n zero e f g h tf tg a = let (v, p) = tf.total [] tt refl in normal_one_whole n zero e f g v h tf tg a p
normal_unique n (suc d) zero f g h tf tg a =
    let (v, p) = tg.total [] tt refl in sym (normal_one_whole n zero (suc d) g f v h tg tf (agree_sym n f g a) p)
normal_unique n (suc d) (suc e) f g h tf tg a =
    go (f []) (g []) refl refl (λ i k. normal_unique n d e (below f i) (below g i) h (total_below n d f tf i k) (total_below n e g tg i k) (agree_below n f g a i k))
  where
    go : (o o' : Option Word) → f [] ≡ o → g [] ≡ o' → ((i : ℕ) → Digit n i → normal n d (below f i) ≡ normal n e (below g i)) → normal n (suc d) f ≡ normal n (suc e) g
    go (some v) o' p q deeper = normal_one_whole n (suc d) (suc e) f g v h tf tg a p
    go none (some v) p q deeper = sym (normal_one_whole n (suc e) (suc d) g f v h tg tf (agree_sym n f g a) q)
    go none none p q deeper =
        normal_parts n d f p
        ∙ ap (joined n) (gather_path (digits n) (λ i. normal n d (below f i)) (λ i. normal n e (below g i)) (λ i m. deeper i (digit_of_mem n i m)))
        ∙ sym (normal_parts n e g q)

-- a join leaves the images as they are
image_joined : (n : ℕ) (t : Table) (i : ℕ) (x v : Word) → Digit n i → image t (i ∷ x) ≡ some v → image (joined n t) (i ∷ x) ≡ some v
image_joined n t i x v k e = go (joined_cases n t)
  where
    go : JoinCases n t → image (joined n t) (i ∷ x) ≡ some v
    go (inl (h, q)) = rw q e
    go (inr (u, b, h, q)) =
        rw q
        (ap some (sym (child_append u i x))
        ∙ sym (image_gather 1 n (λ j. whole (child u j)) i x (mem_of_digit n i k))
        ∙ ap (λ r. image r (i ∷ x)) (sym h)
        ∙ e)

image_normal_whole : (n d : ℕ) (f : BlockMap) (u : Word) → f [] ≡ some u → Steady f → (w v : Word) → f w ≡ some v → image (normal n d f) w ≡ some v
image_normal_whole n d f u p st w v e = ap (λ t. image t w) (normal_whole n d f u p) ∙ sym (st [] u w p) ∙ e

-- Below a block, the normal form gives what the map gives.
pub image_normal : (n d : ℕ) (f : BlockMap) → Total n d f → (w v : Word) → Ways n w → f w ≡ some v → image (normal n d f) w ≡ some v
image_normal n zero f tf w v y e =
    let (u, p) = tf.total [] tt refl in image_normal_whole n zero f u p tf.steady w v e
image_normal n (suc d) f tf [] v y e = image_normal_whole n (suc d) f v e tf.steady [] v e
image_normal n (suc d) f tf (i ∷ x) v y e =
    go (f []) refl (image_normal n d (below f i) (total_below n d f tf i y.0) x v y.1 e)
  where
    go : (o : Option Word) → f [] ≡ o → image (normal n d (below f i)) x ≡ some v → image (normal n (suc d) f) (i ∷ x) ≡ some v
    go (some u) p deeper = image_normal_whole n (suc d) f u p tf.steady (i ∷ x) v e
    go none p deeper =
        ap (λ t. image t (i ∷ x)) (normal_parts n d f p)
        ∙ image_joined n (gather (digits n) (λ j. normal n d (below f j))) i x v y.0 (image_gather 1 n (λ j. normal n d (below f j)) i x (mem_of_digit n i y.0) ∙ deeper)
