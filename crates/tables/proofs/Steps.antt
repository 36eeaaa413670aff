-- The steps of the reduction, from state to state: a listed block is copied; the parts of any other are reduced one after the other
-- and then joined.
use Prim.Native.Nat.{ℕ, suc, ◌+◌, ◌-◌, ◌≤◌, ◌<◌}
use mathlib.Core.Path.{◌≡◌, refl, sym, ◌∙◌, ap, subst}
use mathlib.Core.List.{List, ◌++◌, append-nil, append_assoc}
use native.Mathlib.Omega.{arith}
use lib.ListN.{length, get_or, set, length-append, length-set}
use Rattle.higman.specs.Words.{Word, count, child}
use Rattle.higman.specs.Tables.{Table, image}
use Rattle.higman.specs.Normal.{gather, joined, normal}
use Rattle.words.specs.Packed.{unpack}
use Rattle.words.proofs.Packing.{unpack_injective}
use Rattle.tables.specs.Reduction.{prefixed, Block, Parts, State, state, ahead, done, Places, Step, ReducesBlock, ReducesParts}
use Rattle.columns.proofs.Rows.{rows_length, rows_set}
use Rattle.tables.proofs.Cuts.{listed_block, Split, split_block, no_parts, gather_step, first_part, parts_behind}

pub done_length : (s : State) → Places s → length (done s) ≡ s.write
done_length s p = rows_length s.write s.out_from s.out_to (omega arith) (omega arith)

-- what is written before a step is still there behind it
pub write_grows : (s s' : State) (rest reduced : Table) → Places s → Places s' → Step s s' rest reduced → s.write ≤ s'.write
write_grows s s' rest reduced p p' x =
    omega (arith, done_length s p, done_length s' p', ap length x.written, length-append (done s) reduced)

-- one pair is read and one written
abbrev pub copy : State → ℕ → State
copy s w = state s.from s.to (set s.out_from s.write w) (set s.out_to s.write (get_or s.to s.read 0)) (s.read + 1) (s.write + 1)

pub copy_places : (s : State) (w : ℕ) → Places s → s.read < length s.from → Places (copy s w)
copy_places s w p h =
    record {
      paired = p.paired;
      from_room = simp length-set p.from_room;
      to_room = simp length-set p.to_room;
      within = omega arith;
      behind = omega (arith, p.behind);
    }

-- pairs that were written are joined
pub join_places : (s : State) (of ot : List ℕ) (j : ℕ) → Places s → length of ≡ length s.out_from → length ot ≡ length s.out_to → j ≤ s.write
    → Places (state s.from s.to of ot s.read j)
join_places s of ot j p e e' h =
    record { paired = p.paired; from_room = omega (arith, p.from_room); to_room = omega (arith, p.to_room); within = p.within; behind = omega (arith, p.behind) }

module _ (s : State) (p : Places s) (n d w : ℕ) (h : 1 ≤ n) where
  -- a listed block is copied
  pub copied : get_or s.from s.read 0 ≡ w → s.read < length s.from → ReducesBlock n d (unpack w) s (copy s w)
  copied own inside b =
      let (rest, one) = listed_block n d (unpack w) s h p.paired b (ap unpack own) in
      record {
        remains = rest;
        written = rows_set s.write s.out_from s.out_to w (get_or s.to s.read 0) (omega arith) (omega arith) ∙ ap (λ l. done s ++ l) (sym one);
      }

  -- any other is cut into its parts
  pub divided : (get_or s.from s.read 0 ≡ w → ⊥) → (b : Block n d (unpack w) (ahead s)) → Split n d (unpack w) s h p.paired b (d - 1) n
  divided other b =
      split_block n d (unpack w) s h p.paired b (λ e. other (unpack_injective (get_or s.from s.read 0) w e)) (d - 1) n refl refl

  -- and its reduced parts are joined
  pub rejoined : (get_or s.from s.read 0 ≡ w → ⊥) → (s₁ s₂ : State) → ReducesParts n (d - 1) (unpack w) 1 n s s₁
      → ((front b : Table) → done s₁ ≡ front ++ prefixed (unpack w) b → length front ≡ s.write → done s₂ ≡ front ++ prefixed (unpack w) (joined n b))
      → ahead s₂ ≡ ahead s₁ → ReducesBlock n d (unpack w) s s₂
  rejoined other s₁ s₂ reduces joins same b =
      let x = divided other b in
      let y = reduces x.parts in
      record {
        remains = same ∙ y.remains ∙ x.rest;
        written =
            joins (done s) (gather (count 1 n) (λ i. normal n (d - 1) (image (x.parts.pairs i)))) y.written (done_length s p)
            ∙ ap (λ l. done s ++ prefixed (unpack w) l) (sym x.reduced);
      }

-- the parts of w from the a-th to the last
module _ (n d : ℕ) (w : Word) (a last : ℕ) where
  -- none
  pub passed : (s : State) → last < a → ReducesParts n d w a (last + 1 - a) s s
  passed s h b =
      let (rest, empty) = no_parts n d w a (last + 1 - a) (ahead s) b (omega arith) in
      record { remains = rest; written = sym (append-nil (done s)) ∙ ap (λ l. done s ++ l) (sym (empty (λ i. normal n d (image (b.pairs i))))) }

  module _ (h : a ≤ last) (u : Word) (e : u ≡ child w a) (l : Table) (b : Parts n d w a (last + 1 - a) l) where
    pub next_digit : a + 1 ≡ suc a
    next_digit = omega arith

    pub one_less : last + 1 - a ≡ suc (last + 1 - (a + 1))
    one_less = omega arith

    -- the first of them
    abbrev pub part : Block n d u l
    part = first_part n d w a (last + 1 - a) l b u (a + 1) (last + 1 - (a + 1)) e next_digit one_less

    -- those behind it, once it is read
    abbrev pub behind : (l' : Table) → l' ≡ part.rest → Parts n d w (a + 1) (last + 1 - (a + 1)) l'
    behind = parts_behind n d w a (last + 1 - a) l b u (a + 1) (last + 1 - (a + 1)) e next_digit one_less

    part_step : (g : ℕ → Table) → prefixed w (gather (count a (last + 1 - a)) g) ≡ prefixed u (g a) ++ prefixed w (gather (count (a + 1) (last + 1 - (a + 1))) g)
    part_step = gather_step n d w a (last + 1 - a) l b u (a + 1) (last + 1 - (a + 1)) e next_digit one_less

  -- the first, and then those behind it
  pub followed : (h : a ≤ last) (u : Word) (e : u ≡ child w a) (s s₁ s₂ : State) → ReducesBlock n d u s s₁
      → ReducesParts n d w (a + 1) (last + 1 - (a + 1)) s₁ s₂ → ReducesParts n d w a (last + 1 - a) s s₂
  followed h u e s s₁ s₂ first others b =
      let g : ℕ → Table = λ i. normal n d (image (b.pairs i)) in
      let x = first (part h u e (ahead s) b) in
      let y = others (behind h u e (ahead s) b (ahead s₁) x.remains) in
      record {
        remains = y.remains;
        written =
            y.written
            ∙ ap (λ l. l ++ prefixed w (gather (count (a + 1) (last + 1 - (a + 1))) g)) x.written
            ∙ append_assoc (done s) (prefixed u (g a)) (prefixed w (gather (count (a + 1) (last + 1 - (a + 1))) g))
            ∙ ap (λ l. done s ++ l) (sym (part_step h u e (ahead s) b g));
      }

-- The turns of a loop over the parts of w, from the state s₀ on: what is left is the parts from the a-th on, and with them all are reduced.
pub record Reducing (n d : ℕ) (w : Word) (last a : ℕ) (s₀ s : State) : Type 0 where
  pub places : Places s
  pub parts : Parts n d w a (last + 1 - a) (ahead s)
  pub whole : (s' : State) → ReducesParts n d w a (last + 1 - a) s s' → ReducesParts n d w 1 last s₀ s'

module _ (n d : ℕ) (w : Word) (last : ℕ) (s₀ : State) where
  pub reducing_start : Places s₀ → Parts n d w 1 last (ahead s₀) → Reducing n d w last 1 s₀ s₀
  reducing_start p b =
      let all : last ≡ last + 1 - 1 = omega arith in
      record {
        places = p;
        parts = subst (λ m. Parts n d w 1 m (ahead s₀)) all b;
        whole = λ s' r. subst (λ m. ReducesParts n d w 1 m s₀ s') (sym all) r;
      }

  module _ (a : ℕ) (s : State) (x : Reducing n d w last a s₀ s) where
    -- the block of a turn, and the turn
    module _ (h : a ≤ last) (u : Word) (e : u ≡ child w a) where
      abbrev pub reducing_block : Block n d u (ahead s)
      reducing_block = part n d w a last h u e (ahead s) x.parts

      pub reducing_step : (s₁ : State) → Places s₁ → ReducesBlock n d u s s₁ → Reducing n d w last (a + 1) s₀ s₁
      reducing_step s₁ p r =
          record {
            places = p;
            parts = behind n d w a last h u e (ahead s) x.parts (ahead s₁) (r reducing_block).remains;
            whole = λ s' others. x.whole s' (followed n d w a last h u e s s₁ s' r others);
          }

    -- and the end
    pub reducing_end : last < a → ReducesParts n d w 1 last s₀ s
    reducing_end h = x.whole s (passed n d w a last s h)
