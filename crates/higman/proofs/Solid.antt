-- No pair of a normal form has an empty to-word: a join leaves at least a belt on both sides.
use Prim.Native.Nat.{ℕ}
use mathlib.Core.Path.{◌≡◌, sym, ◌∙◌, ap}
use mathlib.Core.Logic.{◌⊎◌, inl, inr}
use mathlib.Core.List.Memᴰ
use mathlib.Core.List.{List, [], ◌∷◌, nil≢cons, Memᴰ}
use mathlib.Core.Option.{some}
use Rattle.higman.specs.Words.{Shape, Word, digits}
use Rattle.higman.specs.Tables.{Pair, Table, BlockMap}
use Rattle.higman.specs.Normal.{below, gather, normal, normal_form}
use Rattle.higman.proofs.Tests.{Ways, IsWord, digit_of_mem}
use Rattle.higman.proofs.Blocks.{gathered, Belted, normal_holds}

-- no pair of the table has an empty to-word
abbrev Solid : Table → Type 0
Solid t = (p : Pair) → Memᴰ p t → p.to ≡ [] → ⊥

gather_solid : (is : List ℕ) (g : ℕ → Table) → ((i : ℕ) → Memᴰ i is → Solid (g i)) → Solid (gather is g)
gather_solid is g h p m z =
    let r = gathered is g p m in h r.digit r.among r.part r.inside (ap (λ q. q.to) (sym r.stands) ∙ z)

-- the map sends no block to the empty word
abbrev NeverEmpty : ℕ → BlockMap → Type 0
NeverEmpty n f = (w : Word) → Ways n w → f w ≡ some [] → ⊥

normal_solid : (n d : ℕ) (f : BlockMap) → NeverEmpty n f → Solid (normal n d f)
normal_solid n =
    normal_holds n (λ f t. NeverEmpty n f → Solid t)
    (λ f h p m z. Memᴰ.not-nil m)
    (λ f v put h p m z. one f v put h (ap (λ q. q.to) (sym (Memᴰ.eq_of_singleton m)) ∙ z))
    (λ f g deeper e h. gather_solid (digits n) g (λ i m. deeper i (λ w y. h (i ∷ w) (digit_of_mem n i m, y))))
  where
    one : (f : BlockMap) (v : Word) → (f [] ≡ some v) ⊎ Belted v → NeverEmpty n f → v ≡ [] → ⊥
    one f v (inl e) h z = h [] tt (e ∙ ap some z)
    one f v (inr (b, u, e)) h z = nil≢cons (sym z ∙ e)

pub normal_form_solid : (s : Shape) (d : ℕ) (f : BlockMap) → ((w : Word) → IsWord s w → f w ≡ some [] → ⊥) → (p : Pair) → Memᴰ p (normal_form s d f) → p.to ≡ [] → ⊥
unfolding normal_form
normal_form_solid s d f h =
    gather_solid (digits s.roots) (λ a. normal s.arity d (below f a)) (λ a m. normal_solid s.arity d (below f a) (λ w y. h (a ∷ w) (digit_of_mem s.roots a m, y)))
