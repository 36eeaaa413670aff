-- What U lists: the slots that are seen are gone through by ascending number, so each held one is met once, and arranging them neither drops nor repeats
-- one. Two lists of the same slots in that order are equal: of the first lines of both, each would come before the other.
use Prim.Native.Nat.{ℕ, zero, suc, ◌+◌, ◌-◌, ◌≤◌, ◌<◌}
use native.Mathlib.Nat.{le_refl}
use native.Mathlib.Omega.{arith}
use mathlib.Core.Path.{◌≡◌, refl, sym, ◌∙◌, ap, ap₂, subst}
use mathlib.Core.Logic.{◌⊎◌, inl, inr}
use mathlib.Core.Bool.{true}
use mathlib.Core.List.Memᴰ
use mathlib.Core.List.Permᴰ
use mathlib.Core.List.{List, [], ◌∷◌, Memᴰ}
use mathlib.Core.Option.{Option, none, some, none-ne-some, some-injective}
use lib.ListN.{length, get_or}
use Rattle.higman.specs.Limits.{Plan}
use Rattle.higman.proofs.Expansions.{mem_of_perm}
use Rattle.desk.specs.Desk.{Desk, own_right, held, seen}
use Rattle.desk.specs.Replies.{Held, held_from, pairs_in, comes_before, surveyed}
use Rattle.desk.specs.Theorems.{Before, InOrder, NoneTwice, SurveyOf, SurveyExact}
use Rattle.desk.proofs.Replies.{replies_exact}
use Rattle.desk.proofs.Seen.{held_of_seen, seen_of_held}
use Rattle.desk.proofs.Arranged.{arranged_perm, arranged_sorted, Sorted, Comparable, before_of_test, first_transitive, first_other}

abbrev at : ℕ → Plan → Held
at i p = record { slot = i; plan = p }

listed : (l : List (Option Plan)) (k j : ℕ) (p : Plan) → get_or l j none ≡ some p → Memᴰ (at (k + j) p) (held_from k l)
listed [] k j p e = absurd (none-ne-some p e)
listed (none ∷ l) k zero p e = absurd (none-ne-some p e)
listed (some q ∷ l) k zero p e = let z : k + 0 ≡ k = omega arith in let y = sym (some-injective q p e) in Memᴰ.head (λ i. at (z i) (y i))
listed (none ∷ l) k (suc j) p e = let z : suc k + j ≡ k + suc j = omega arith in subst (λ n. Memᴰ (at n p) (held_from (suc k) l)) z (listed l (suc k) j p e)
listed (some q ∷ l) k (suc j) p e = let z : suc k + j ≡ k + suc j = omega arith in Memᴰ.tail (subst (λ n. Memᴰ (at n p) (held_from (suc k) l)) z (listed l (suc k) j p e))

-- back: what the list holds stands in the slot of its number
record Stands (l : List (Option Plan)) (k : ℕ) (h : Held) : Type 0 where
  from_here : k ≤ h.slot
  holds : get_or l (h.slot - k) none ≡ some h.plan

later : (x : Option Plan) (l : List (Option Plan)) (k : ℕ) (h : Held) → Stands l (suc k) h → Stands (x ∷ l) k h
later x l k h s =
    let b : suc k ≤ h.slot = s.from_here in
    let z : h.slot - k ≡ suc (h.slot - suc k) = omega arith in
    record { from_here = omega arith; holds = subst (λ n. get_or (x ∷ l) n none ≡ some h.plan) (sym z) s.holds }

here : (l : List (Option Plan)) (k : ℕ) (q : Plan) → Stands (some q ∷ l) k (at k q)
here l k q = let z : k - k ≡ 0 = omega arith in record { from_here = le_refl k; holds = subst (λ n. get_or (some q ∷ l) n none ≡ some q) (sym z) refl }

stands : (l : List (Option Plan)) (k : ℕ) (h : Held) → Memᴰ h (held_from k l) → Stands l k h
stands [] k h m = elim m [ ]
stands (none ∷ l) k h m = later none l k h (stands l (suc k) h m)
stands (some q ∷ l) k h (Memᴰ.head e) = subst (Stands (some q ∷ l) k) (sym e) (here l k q)
stands (some q ∷ l) k h (Memᴰ.tail m) = later (some q) l k h (stands l (suc k) h m)

listed_of_held : (l : List (Option Plan)) (i : ℕ) (p : Plan) → get_or l i none ≡ some p → Memᴰ (at i p) (held_from 0 l)
listed_of_held l i p e = let z : 0 + i ≡ i = omega arith in subst (λ n. Memᴰ (at n p) (held_from 0 l)) z (listed l 0 i p e)

held_of_listed : (l : List (Option Plan)) (i : ℕ) (p : Plan) → Memᴰ (at i p) (held_from 0 l) → get_or l i none ≡ some p
held_of_listed l i p m = let z : i - 0 ≡ i = omega arith in subst (λ n. get_or l n none ≡ some p) z (stands l 0 (at i p) m).holds

-- no slot is met twice, so any two are comparable apart
met_once : (l : List (Option Plan)) (i : ℕ) → NoneTwice (held_from i l)
met_once [] i = tt
met_once (none ∷ l) i = met_once l (suc i)
met_once (some q ∷ l) i = (λ k m e. let b : suc i ≤ k.slot = (stands l (suc i) k m).from_here in omega (arith, e), met_once l (suc i))

comparable : (hs : List Held) → NoneTwice hs → Comparable comes_before hs
comparable [] o = tt
comparable (h ∷ hs) o = (λ k m e. first_other (pairs_in h) h.slot (pairs_in k) k.slot (o.0 k m) e, comparable hs o.1)

before_transitive : (h k l : Held) → comes_before h k ≡ true → comes_before k l ≡ true → comes_before h l ≡ true
before_transitive h k l = first_transitive (pairs_in h) h.slot (pairs_in k) k.slot (pairs_in l) l.slot

-- slots by their numbers are slots by their letters
before : (h k : Held) → comes_before h k ≡ true → Before h k
before h k e = by (before_of_test (pairs_in h) h.slot (pairs_in k) k.slot e)
  where
    by : (pairs_in k < pairs_in h) ⊎ ((pairs_in h ≡ pairs_in k) × (h.slot < k.slot)) → Before h k
    by (inl f) = inl (omega arith)
    by (inr f) = inr (f.0, omega (arith, f.1))

in_order_lem : (hs : List Held) → Sorted comes_before hs → InOrder hs
in_order_lem [] s = tt
in_order_lem (h ∷ hs) s = (λ k m. before h k (s.0 k m), in_order_lem hs s.1)

-- of two, not each comes before the other; so none comes before itself
never_both : (h k : Held) → Before h k → Before k h → ⊥
never_both h k (inl a) (inl b) = omega arith
never_both h k (inl a) (inr b) = omega (arith, b.0)
never_both h k (inr a) (inl b) = omega (arith, a.0)
never_both h k (inr a) (inr b) = omega (arith, a.1, b.1)

-- two lists in order with the same lines begin with the same line, and go on with the same lines
abbrev Has : List Held → List Held → Type 0
Has hs ks = (h : Held) → Memᴰ h hs → Memᴰ h ks

same_first : (h k : Held) (hs ks : List Held) → InOrder (h ∷ hs) → InOrder (k ∷ ks) → Memᴰ h (k ∷ ks) → Memᴰ k (h ∷ hs) → h ≡ k
same_first h k hs ks a b (Memᴰ.head e) n = e
same_first h k hs ks a b (Memᴰ.tail m) (Memᴰ.head e) = sym e
same_first h k hs ks a b (Memᴰ.tail m) (Memᴰ.tail n) = absurd (never_both h k (a.0 k n) (b.0 h m))

same_rest : (h k : Held) (hs ks : List Held) → InOrder (h ∷ hs) → h ≡ k → Has (h ∷ hs) (k ∷ ks) → Has hs ks
same_rest h k hs ks a e s x m = by (s x (Memᴰ.tail m))
  where
    by : Memᴰ x (k ∷ ks) → Memᴰ x ks
    by (Memᴰ.head p) = let itself = subst (Before h) (p ∙ sym e) (a.0 x m) in absurd (never_both h h itself itself)
    by (Memᴰ.tail n) = n

same_list : (hs ks : List Held) → InOrder hs → InOrder ks → Has hs ks → Has ks hs → hs ≡ ks
same_list [] [] a b s t = refl
same_list [] (k ∷ ks) a b s t = absurd (Memᴰ.not-nil (t k (Memᴰ.head refl)))
same_list (h ∷ hs) [] a b s t = absurd (Memᴰ.not-nil (s h (Memᴰ.head refl)))
same_list (h ∷ hs) (k ∷ ks) a b s t =
    let e = same_first h k hs ks a b (s h (Memᴰ.head refl)) (t k (Memᴰ.head refl)) in
    ap₂ ◌∷◌ e (same_list hs ks a.1 b.1 (same_rest h k hs ks a e s) (same_rest k h ks hs b (sym e) t))

listed_in : (d : Desk) (hs ks : List Held) → SurveyOf d hs → SurveyOf d ks → Has hs ks
listed_in d hs ks a b h m = (b.each h.slot h.plan).0 ((a.each h.slot h.plan).1 m)

-- a slot holds one plan, so of two lines of one slot neither comes before the other
one_line : (d : Desk) (h k : Held) → held d h.slot ≡ some h.plan → held d k.slot ≡ some k.plan → Before h k → h.slot ≡ k.slot → ⊥
one_line d h k x y b e = by b
  where
    same : pairs_in h ≡ pairs_in k
    same = ap (λ p. length p.rows) (some-injective h.plan k.plan (sym x ∙ ap (held d) e ∙ y))

    by : Before h k → ⊥
    by (inl c) = omega (arith, same)
    by (inr c) = omega (arith, e, c.1)

once_each : (d : Desk) (hs : List Held) → ((h : Held) → Memᴰ h hs → held d h.slot ≡ some h.plan) → InOrder hs → NoneTwice hs
once_each d [] x a = tt
once_each d (h ∷ hs) x a =
    (λ k m. one_line d h k (x h (Memᴰ.head refl)) (x k (Memᴰ.tail m)) (a.0 k m), once_each d hs (λ k m. x k (Memᴰ.tail m)) a.1)

pub survey_of : (d : Desk) → SurveyOf d (surveyed d)
unfolding surveyed
survey_of d =
    let hs = held_from 0 (seen d) in
    let perm = arranged_perm comes_before hs in
    let shows : (i : ℕ) (p : Plan) → Memᴰ (at i p) (surveyed d) → (held d i ≡ some p) × (1 ≤ own_right d i) =
    λ i p m. held_of_seen d i p (held_of_listed (seen d) i p (mem_of_perm perm m)) in
    let ordered = in_order_lem (surveyed d) (arranged_sorted comes_before before_transitive hs (comparable hs (met_once (seen d) 0))) in
    record {
      each = λ i p. (λ (e, r). mem_of_perm (Permᴰ.symm perm) (listed_of_held (seen d) i p (seen_of_held d i p e r)), shows i p);
      once = once_each d (surveyed d) (λ h m. (shows h.slot h.plan m).0) ordered;
      in_order = ordered;
    }

pub survey_exact : SurveyExact
survey_exact =
    record {
      replied = λ d e o. (surveyed d, replies_exact.surveys d e o, survey_of d);
      determined = λ d hs ks a b. same_list hs ks a.in_order b.in_order (listed_in d hs ks a b) (listed_in d ks hs b a);
    }
