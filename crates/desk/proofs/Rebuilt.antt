-- The desk as its station knows it (change request E6), made of what the station has of its own and of what it sees: it is alike to the desk.
use Prim.Native.Nat.{ℕ, zero, suc, ◌+◌, ◌≤◌, ◌<◌}
use native.Mathlib.Nat.{not-suc-le-zero, le_of_suc-le-suc}
use native.Mathlib.Omega.{arith}
use mathlib.Core.Path.{◌≡◌, refl, sym, ◌∙◌, ap, ap₂}
use mathlib.Core.Bool.{Bool, true, false}
use mathlib.Core.List.{List, [], ◌∷◌, ◌++◌, map}
use mathlib.Core.Option.{Option, none}
use lib.Dec.{leb, eqb, eqb_refl}
use borrow.Author.Tests.{ne_eqb, leb-true}
use lib.ListN.{length, get_or, set, replicate, length-replicate}
use Rattle.higman.specs.Words.{count}
use Rattle.higman.specs.Text.{Bytes}
use Rattle.higman.specs.Limits.{Plan, slot_count}
use Rattle.higman.proofs.Tests.{so}
use Rattle.desk.specs.Limits.{station_count, max_right}
use Rattle.desk.specs.Desk.{Draft, Rights, Control, Desk, station_of, count_of, changes_of, right_of, own_right, readable, held}
use Rattle.desk.specs.Desk.{seen_from, seen, IsDesk, pairs_of_slots}
use Rattle.desk.specs.Sights.{Sight, sight_of}
use Rattle.desk.proofs.Seen.{shown}

-- what a station has of its own: its changes, and while it is named the open plan
pub record Own : Type 0 where
  pub count : ℕ
  pub draft : Option Draft

abbrev pub own : ℕ → Desk → Own
own s d = record { count = changes_of d.control s; draft = elim (eqb (station_of d) s) [ true ↦ d.draft | false ↦ none ] }

module _ (s : ℕ) (d : Desk) where
  abbrev draft_if : Bool → Option Draft
  draft_if b = elim b [ true ↦ d.draft | false ↦ none ]

  pub own_here : station_of d ≡ s → own s d ≡ record { count = count_of d; draft = d.draft }
  own_here e =
      λ i. record {
        count = changes_of d.control (sym e i);
        draft = ap draft_if (ap (eqb (station_of d)) (sym e) ∙ so _ (eqb_refl (station_of d))) i;
      }

  pub own_away : (station_of d ≡ s → ⊥) → own s d ≡ record { count = changes_of d.control s; draft = none }
  own_away n = λ i. record { count = changes_of d.control s; draft = ap draft_if (ne_eqb (station_of d) s n) i }

  pub own_closed : d.draft ≡ none → own s d ≡ record { count = changes_of d.control s; draft = none }
  own_closed e = λ i. record { count = changes_of d.control s; draft = by (eqb (station_of d) s) i }
    where
      by : (b : Bool) → draft_if b ≡ none
      by true = e
      by false = refl

-- the rights of one station, at their place
abbrev rights_at : ℕ → List ℕ → Rights
rights_at zero row = []
rights_at (suc s) row = replicate s [] ++ (row ∷ [])

unfoldable pub rebuilt : ℕ → Own → Sight → Desk
rebuilt s o x =
    let changes = set (replicate station_count 0) s o.count in
    let control : Control = record { station = s; changes = changes; rights = rights_at s x.rights; pairs = pairs_of_slots x.slots } in
    record { slots = x.slots; draft = o.draft; control = control }

row_behind : (s : ℕ) (row : List ℕ) → get_or (replicate s [] ++ (row ∷ [])) s [] ≡ row
row_behind zero row = refl
row_behind (suc s) row = row_behind s row

counted_off : (f : ℕ → ℕ) (a n i : ℕ) → i < n → get_or (map f (count a n)) i 0 ≡ f (a + i)
counted_off f a zero i h = absurd (not-suc-le-zero h)
counted_off f a (suc n) zero h = ap f (omega arith)
counted_off f a (suc n) (suc i) h = counted_off f (suc a) n i (le_of_suc-le-suc h) ∙ ap f (omega arith)

-- what is seen twice is seen once
shown_twice : (b : Bool) (x : Option Plan) → shown b x ≡ shown b (shown b x)
shown_twice true x = refl
shown_twice false x = refl

pub seen_again : (d c : Desk) (k : ℕ) (l : List (Option Plan)) → ((i : ℕ) → k ≤ i → i < k + length l → own_right d i ≡ own_right c i)
    → seen_from d k l ≡ seen_from c k (seen_from d k l)
seen_again d c k [] h = refl
seen_again d c k (x ∷ l) h =
    ap₂ ◌∷◌
    (shown_twice (readable d k) x ∙ ap (λ n. shown (leb 1 n) (shown (readable d k) x)) (h k (omega arith) (omega arith)))
    (seen_again d c (suc k) l (λ i a b. h i (omega arith) (omega arith)))

-- station 0 sees what every slot holds
pub seen_all : (d : Desk) (k : ℕ) (l : List (Option Plan)) → ((i : ℕ) → readable d i ≡ true) → seen_from d k l ≡ l
seen_all d k [] h = refl
seen_all d k (x ∷ l) h = ap₂ ◌∷◌ (ap (λ b. shown b x) (h k)) (seen_all d (suc k) l h)

pub first_reads : (d : Desk) → station_of d ≡ 0 → (i : ℕ) → readable d i ≡ true
unfolding max_right
first_reads d e i = ap (λ s. leb 1 (right_of d.control.rights s i)) e

-- what two desks show
shown_same : (b : Bool) (x y : Option Plan) → (b ≡ true → x ≡ y) → shown b x ≡ shown b y
shown_same true x y h = h refl
shown_same false x y h = refl

pub seen_alike : (d c : Desk) (k : ℕ) (l m : List (Option Plan)) → length l ≡ length m
    → ((i : ℕ) → i < length l → own_right d (k + i) ≡ own_right c (k + i))
    → ((i : ℕ) → i < length l → readable d (k + i) ≡ true → get_or l i none ≡ get_or m i none) → seen_from d k l ≡ seen_from c k m
seen_alike d c k [] [] e r h = refl
seen_alike d c k [] (y ∷ m) e r h = absurd (omega (arith, e))
seen_alike d c k (x ∷ l) [] e r h = absurd (omega (arith, e))
seen_alike d c k (x ∷ l) (y ∷ m) e r h =
    let first : k + 0 ≡ k = omega arith in
    let next : (i : ℕ) → suc k + i ≡ k + suc i = λ i. omega arith in
    ap₂ ◌∷◌
    (shown_same (readable d k) x y (λ q. h 0 (omega arith) (ap (readable d) first ∙ q))
    ∙ ap (λ n. shown (leb 1 n) y) (ap (own_right d) (sym first) ∙ r 0 (omega arith) ∙ ap (own_right c) first))
    (seen_alike d c (suc k) l m (omega (arith, e)) (λ i b. ap (own_right d) (next i) ∙ r (suc i) (omega (arith, b))
    ∙ ap (own_right c) (sym (next i)))
    (λ i b q. h (suc i) (omega (arith, b)) (ap (readable d) (sym (next i)) ∙ q)))

map_same : (f g : ℕ → ℕ) (a n : ℕ) → ((i : ℕ) → i < a + n → f i ≡ g i) → map f (count a n) ≡ map g (count a n)
map_same f g a zero h = refl
map_same f g a (suc n) h = ap₂ ◌∷◌ (h a (omega arith)) (map_same f g (suc a) n (λ i b. h i (omega (arith, b))))

pub same_sight : (d c : Desk) (l : Bytes) → IsDesk d → IsDesk c → ((i : ℕ) → i < slot_count → own_right d i ≡ own_right c i)
    → ((i : ℕ) → i < slot_count → 1 ≤ own_right d i → held d i ≡ held c i) → sight_of d l ≡ sight_of c l
unfolding seen
same_sight d c l D H r h =
    let first : (i : ℕ) → 0 + i ≡ i = λ i. omega arith in
    let rights = map_same (own_right d) (own_right c) 0 slot_count (λ i b. r i (omega (arith, b))) in
    let slots = seen_alike d c 0 d.slots c.slots (D.eight ∙ sym H.eight)
    (λ i b. ap (own_right d) (first i) ∙ r i (omega (arith, b, D.eight)) ∙ ap (own_right c) (sym (first i)))
    (λ i b q. h i (omega (arith, b, D.eight)) (leb-true 1 (own_right d i) (ap (readable d) (sym (first i)) ∙ q))) in
    λ j. record { line = l; rights = rights j; slots = slots j }

module _ (d : Desk) (D : IsDesk d) (l : Bytes) where
  abbrev s : ℕ
  s = station_of d

  abbrev c : Desk
  c = rebuilt s (own s d) (sight_of d l)

  own_rights : (i : ℕ) → i < slot_count → (t : ℕ) → s ≡ t
      → own_right d i ≡ right_of (rights_at t (map (own_right d) (count 0 slot_count))) t i
  own_rights i h zero e = ap (λ t. right_of d.control.rights t i) e
  own_rights i h (suc k) e =
      let first : 0 + i ≡ i = omega arith in
      let row = map (own_right d) (count 0 slot_count) in
      sym (ap (λ r. get_or r i 0) (row_behind k row) ∙ counted_off (own_right d) 0 slot_count i h ∙ ap (own_right d) first)

  pub same_rights : (i : ℕ) → i < slot_count → own_right d i ≡ own_right c i
  unfolding rebuilt
  same_rights i h = own_rights i h s refl

  pub in_counts : s < length (replicate {A = ℕ} station_count 0)
  in_counts = omega (arith, D.control.named, length-replicate {A = ℕ} station_count 0)
