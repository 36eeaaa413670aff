-- The normal form of an invertible action has bases for columns. So tables with bases for columns are closed under reduction,
-- composition and inversion; and a table that is its own normal form is determined by what it does to long words.
use Prim.Native.Nat.{ℕ, suc, ◌≤◌, ◌<◌}
use mathlib.Core.Path.{◌≡◌, refl, sym, ◌∙◌, ap, subst}
use mathlib.Core.List.Memᴰ
use mathlib.Core.List.{[], ◌∷◌, ◌++◌, append_assoc, append_cancel_right, Memᴰ}
use mathlib.Core.Option.{some, some-injective}
use native.Mathlib.Omega.{arith}
use lib.ListN.{length, length-append}
use Rattle.higman.specs.Words.{Shape, Word}
use Rattle.higman.specs.Bases.{longest}
use Rattle.higman.specs.Tables.{Pair, Table, BlockMap, froms, tos, swapped, image}
use Rattle.higman.specs.Normal.{normal_form, and_then}
use Rattle.higman.proofs.Tests.{Ways, IsWord}
use Rattle.higman.proofs.Prefixes.{ways_append, ways_left, word_append, word_right, ones, ones_ways, ones_length}
use Rattle.higman.proofs.Proper.{ApartFrom, Apart, Proper}
use Rattle.higman.proofs.Images.{row_of_image, image_of_row, image_steady, froms_swapped, tos_swapped}
use Rattle.higman.proofs.Actions.{Action, image_normal_form, and_then_some, and_then_cases}
use Rattle.higman.proofs.Solid.{normal_form_solid}
use Rattle.higman.proofs.Columns.{deep_longest}
use Rattle.higman.proofs.Ordered.{ordered_apart, normal_form_ordered, normal_form_words}

-- both columns are bases
pub record Element (s : Shape) (t : Table) : Type 0 where
  pub from_proper : Proper s (froms t)
  pub to_proper : Proper s (tos t)

-- each map takes back what the other does
pub record Mutual (s : Shape) (f g : BlockMap) : Type 0 where
  pub undo : (w v : Word) → IsWord s w → f w ≡ some v → g v ≡ some w
  pub redo : (w v : Word) → IsWord s w → g w ≡ some v → f v ≡ some w

-- a table whose from column is proper and whose to-words are words acts, as deep as its longest from-word
pub table_action : (s : Shape) (t : Table) → 1 ≤ s.arity → Proper s (froms t) → ((v : Word) → Memᴰ v (tos t) → IsWord s v) → (F : Action s (image t)) × (F.depth ≡ longest (froms t))
table_action s t h c ws = (record { steady = image_steady t c.apart; words = to_words; depth = longest (froms t); total = to }, refl)
  where
    row_words : (p : Pair) (x w v : Word) → Memᴰ p t → w ≡ p.from ++ x → v ≡ p.to ++ x → IsWord s w → IsWord s v
    row_words p x w v m e e' y =
        subst (IsWord s) (sym e')
        (word_append s p.to x (ws p.to (Memᴰ.map (λ q. q.to) m))
        (word_right s p.from x (c.words p.from (Memᴰ.map (λ q. q.from) m)) (subst (IsWord s) e y)))

    to_words : (w v : Word) → IsWord s w → image t w ≡ some v → IsWord s v
    to_words w v y e = let (p, x, m, f, g) = row_of_image t w v e in row_words p x w v m f g y

    at : (w u x : Word) → Memᴰ u (froms t) → w ≡ u ++ x → (v : Word) × (image t w ≡ some v)
    at w u x m e =
        let (p, k, q) = Memᴰ.of_map (λ r. r.from) t m in
        (p.to ++ x, ap (image t) (e ∙ ap (λ z. z ++ x) (sym q)) ∙ image_of_row t c.apart p k x)

    to : (w : Word) → IsWord s w → longest (froms t) < length w → (v : Word) × (image t w ≡ some v)
    to w y l = let (u, x, m, e) = deep_longest s (froms t) h c w y l in at w u x m e

pub element_action : (s : Shape) (t : Table) → 1 ≤ s.arity → Element s t → (F : Action s (image t)) × (F.depth ≡ longest (froms t))
element_action s t h E = table_action s t h E.from_proper E.to_proper.words

pub element_swapped : (s : Shape) (t : Table) → Element s t → Element s (swapped t)
element_swapped s t E =
    record { from_proper = subst (Proper s) (sym (froms_swapped t)) E.to_proper; to_proper = subst (Proper s) (sym (tos_swapped t)) E.from_proper }

-- a table with its columns swapped takes back what the table does
undo_swapped : (s : Shape) (t : Table) → Apart (tos t) → (w v : Word) → image t w ≡ some v → image (swapped t) v ≡ some w
undo_swapped s t a w v e = let (p, x, m, f, g) = row_of_image t w v e in go p x m f g
  where
    go : (p : Pair) (x : Word) → Memᴰ p t → w ≡ p.from ++ x → v ≡ p.to ++ x → image (swapped t) v ≡ some w
    go p x m f g =
        ap (image (swapped t)) g
        ∙ image_of_row (swapped t) (subst Apart (sym (froms_swapped t)) a) (record { from = p.to; to = p.from }) (Memᴰ.map (λ q. record { from = q.to; to = q.from }) m) x
        ∙ ap some (sym f)

swapped_swapped : (t : Table) → swapped (swapped t) ≡ t
swapped_swapped [] = refl
swapped_swapped (p ∷ t) = ap (λ u. p ∷ u) (swapped_swapped t)

pub element_mutual : (s : Shape) (t : Table) → Element s t → Mutual s (image t) (image (swapped t))
element_mutual s t E =
    record {
      undo = λ w v y e. undo_swapped s t E.to_proper.apart w v e;
      redo = λ w v y e.
          ap (λ u. image u v) (sym (swapped_swapped t))
          ∙ undo_swapped s (swapped t) (subst Apart (sym (tos_swapped t)) E.from_proper.apart) w v e;
    }

pub and_then_mutual : (s : Shape) (f g f' g' : BlockMap) → Action s f → Action s g' → Mutual s f f' → Mutual s g g' → Mutual s (and_then f g) (and_then g' f')
and_then_mutual s f g f' g' F G' m k =
    record {
      undo = λ w u y e.
          let (v, p, q) = and_then_cases f g w u e in
          and_then_some g' f' u v (k.undo v u (F.words w v y p) q) ∙ m.undo w v y p;
      redo = λ w u y e.
          let (v, p, q) = and_then_cases g' f' w u e in
          and_then_some f g u v (m.redo v u (G'.words w v y p) q) ∙ k.redo w v y p;
    }

-- The normal form of an action, in its from column: the words are apart because they are in order, and deep because the action is total.
pub normal_form_from : (s : Shape) (f : BlockMap) (F : Action s f) (d : ℕ) → F.depth ≤ d → Proper s (froms (normal_form s d f))
normal_form_from s f F d h =
    record {
      words = λ w m. let (p, k, e) = Memᴰ.of_map (λ q. q.from) (normal_form s d f) m in subst (IsWord s) e (normal_form_words s d f p k);
      apart = ordered_apart (froms (normal_form s d f)) (normal_form_ordered s d f);
      depth = suc d;
      deep = λ w y l.
          let (v, e) = F.total w y (omega arith) in
          let (p, x, m, q, r) = row_of_image (normal_form s d f) w v (image_normal_form s f F d h w v y e) in
          (p.from, x, Memᴰ.map (λ q. q.from) m, q);
    }

pub word_length : (s : Shape) (w : Word) → IsWord s w → 1 ≤ length w
word_length s [] y = absurd y
word_length s (a ∷ w) y = omega arith

-- what a pair of the normal form says holds of the map, on long words
row_of_normal_form : (s : Shape) (f : BlockMap) (F : Action s f) (d : ℕ) → F.depth ≤ d → (p : Pair) → Memᴰ p (normal_form s d f) → (x : Word) → Ways s.arity x → F.depth ≤ length x → f (p.from ++ x) ≡ some (p.to ++ x)
row_of_normal_form s f F d h p m x y l =
    let t = normal_form s d f in
    let z = word_append s p.from x (normal_form_words s d f p m) y in
    let (v, e) = F.total (p.from ++ x) z (omega (arith, length-append p.from x, word_length s p.from (normal_form_words s d f p m))) in
    e ∙ sym (image_normal_form s f F d h (p.from ++ x) v z e) ∙ image_of_row t (normal_form_from s f F d h).apart p m x

normal_form_to_words : (s : Shape) (f : BlockMap) (F : Action s f) (d : ℕ) → 1 ≤ s.arity → F.depth ≤ d → (p : Pair) → Memᴰ p (normal_form s d f) → IsWord s p.to
normal_form_to_words s f F d n h p m =
    let x = ones F.depth in
    let y = ones_ways s.arity F.depth n in
    let e = row_of_normal_form s f F d h p m x y (omega (arith, ones_length F.depth)) in
    go p.to refl (F.words (p.from ++ x) (p.to ++ x) (word_append s p.from x (normal_form_words s d f p m) y) e)
  where
    go : (v : Word) → p.to ≡ v → IsWord s (v ++ ones F.depth) → IsWord s v
    go [] e z = absurd (normal_form_solid s d f (λ w y e. F.words w [] y e) p m e)
    go (b ∷ v) e z = (z.0, ways_left s.arity v (ones F.depth) z.1)

-- An invertible action sends two pairs whose to-words are comparable back to from-words that are, so the to column is apart where the from column is.
tos_apart : (s : Shape) (f g : BlockMap) (F : Action s f) (d : ℕ) → 1 ≤ s.arity → F.depth ≤ d → Mutual s f g → (l : Table) → ((p : Pair) → Memᴰ p l → Memᴰ p (normal_form s d f)) → Apart (froms l) → Apart (tos l)
tos_apart s f g F d n h k [] inside a = tt
tos_apart s f g F d n h k (p ∷ l) inside a = (here, tos_apart s f g F d n h k l (λ q m. inside q (Memᴰ.tail m)) a.1)
  where
    -- two pairs of the normal form, the to-word of one beginning that of the other
    begun : (p q : Pair) → Memᴰ p (normal_form s d f) → Memᴰ q (normal_form s d f) → (z : Word) → q.to ≡ p.to ++ z → q.from ≡ p.from ++ z
    begun p q m m' z e =
        let x = ones F.depth in
        let y = ones_ways s.arity F.depth n in
        let yz : Ways s.arity z = word_right s p.to z (normal_form_to_words s f F d n h p m) (subst (IsWord s) e (normal_form_to_words s f F d n h q m')) in
        let long : F.depth ≤ length x = omega (arith, ones_length F.depth) in
        let yzx = ways_append s.arity z x yz y in
        let e₁ = row_of_normal_form s f F d h p m (z ++ x) yzx (omega (arith, length-append z x)) in
        let e₂ = row_of_normal_form s f F d h q m' x y long in
        let u₁ = k.undo (p.from ++ (z ++ x)) (p.to ++ (z ++ x)) (word_append s p.from (z ++ x) (normal_form_words s d f p m) yzx) e₁ in
        let u₂ = k.undo (q.from ++ x) (q.to ++ x) (word_append s q.from x (normal_form_words s d f q m') y) e₂ in
        let same : q.to ++ x ≡ p.to ++ (z ++ x) = ap (λ v. v ++ x) e ∙ append_assoc p.to z x in
        append_cancel_right q.from (p.from ++ z) x
        (some-injective _ _ (sym u₂ ∙ ap g same ∙ u₁) ∙ sym (append_assoc p.from z x))

    here : ApartFrom p.to (tos l)
    here u m x =
        let (q, m', e) = Memᴰ.of_map (λ r. r.to) l m in
        let m₁ = inside p (Memᴰ.head refl) in
        let m₂ = inside q (Memᴰ.tail m') in
        let apart = a.0 q.from (Memᴰ.map (λ r. r.from) m') x in
        (λ z. apart.0 (begun p q m₁ m₂ x (e ∙ z)), λ z. apart.1 (begun q p m₂ m₁ x (z ∙ ap (λ v. v ++ x) (sym e))))

-- THE CLOSURE: the normal form of an invertible action has bases for columns.
pub normal_form_element : (s : Shape) (f g : BlockMap) (F : Action s f) (G : Action s g) (d : ℕ) → 1 ≤ s.arity → F.depth ≤ d → Mutual s f g → Element s (normal_form s d f)
normal_form_element s f g F G d n h k =
    record {
      from_proper = normal_form_from s f F d h;
      to_proper =
          record {
            words = λ v m. let (p, m', e) = Memᴰ.of_map (λ q. q.to) (normal_form s d f) m in subst (IsWord s) e (normal_form_to_words s f F d n h p m');
            apart = tos_apart s f g F d n h k (normal_form s d f) (λ p m. m) (normal_form_from s f F d h).apart;
            depth = suc G.depth;
            deep = λ v y l.
                let (w, e) = G.total v y l in
                let (p, x, m, q, r) = row_of_image (normal_form s d f) w v (image_normal_form s f F d h w v (G.words v w y e) (k.redo v w y e)) in
                (p.to, x, Memᴰ.map (λ q. q.to) m, r);
          };
    }
