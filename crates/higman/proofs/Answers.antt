-- What a granted answer is: the composition, the inverse and the power of the group, within the limits. When a power is refused. And what
-- a route says of its code.
use Prim.Native.Nat.{ℕ, zero, suc, ◌≤◌}
use mathlib.Core.Path.{◌≡◌, refl, sym, ◌∙◌, ap, subst}
use mathlib.Core.Logic.{◌⊎◌, inl, inr, ⊎_elim, ◌↔◌}
use mathlib.Core.Bool.{Bool, true, false}
use mathlib.Core.Option.{Option, none, some, none-ne-some}
use native.Mathlib.Nat.{le_refl}
use native.Mathlib.Omega.{arith}
use lib.Dec.{T, leb, leb-zero, eqb, eqb_refl, eqb→eq}
use borrow.Author.Tests.{leb-true, leb-false}
use lib.IntN.{ℤ, pos, negsuc, nat_abs}
use Rattle.higman.specs.Words.{Shape, Word}
use Rattle.higman.specs.Tables.{Table, image}
use Rattle.higman.specs.Normal.{compose, inverse, identity, repeated, power}
use Rattle.higman.specs.Limits.{Plan, granted, is_code, max_power}
use Rattle.higman.specs.Answers.{Answer, Granted, Refused, Refusal, ShapesDiffer, LimitBroken, PowerOutside, refusal_number}
use Rattle.higman.specs.Answers.{same_shape, grant, followed, inverted, raised, repeatable, powered, BadCode}
use Rattle.higman.specs.Answers.{Route, Image, TooShort, NotRouted, routed}
use Rattle.higman.proofs.Tests.{passes, so, T_of, clash, and_left, and_right, and_intro}

abbrev IsGranted : Answer → Type 0
IsGranted (Granted p) = Unit {0}
IsGranted (Refused r) = ⊥

-- a refusal grants nothing
pub not_granted : (r : Refusal) (p : Plan) → Refused r ≡ Granted p → ⊥
not_granted r p e = subst IsGranted (sym e) tt

abbrev plan_of : Plan → Answer → Plan
plan_of other (Granted p) = p
plan_of other (Refused r) = other

pub granted_path : (p q : Plan) → Granted p ≡ Granted q → p ≡ q
granted_path p q e = ap (plan_of p) e

pub shape_path : (s u : Shape) → T (same_shape s u) → s ≡ u
shape_path s u t =
    let p = eqb→eq s.arity u.arity (and_left (eqb s.arity u.arity) (eqb s.roots u.roots) t) in
    let q = eqb→eq s.roots u.roots (and_right (eqb s.arity u.arity) (eqb s.roots u.roots) t) in
    λ i. record { arity = p i; roots = q i }

pub same_shape_refl : (s : Shape) → same_shape s s ≡ true
same_shape_refl s =
    so (same_shape s s) (and_intro (eqb s.arity s.arity) (eqb s.roots s.roots) (eqb_refl s.arity) (eqb_refl s.roots))

-- what `grant` grants
pub grant_cases : (s : Shape) (t : Table) (p : Plan) → grant s t ≡ Granted p → T (granted t) × (p ≡ record { shape = s; rows = t })
grant_cases s t p e = go (granted t) refl e
  where
    go : (b : Bool) → granted t ≡ b → elim b as (λ _. Answer) [ true ↦ Granted (record { shape = s; rows = t }) | false ↦ Refused LimitBroken ] ≡ Granted p → T (granted t) × (p ≡ record { shape = s; rows = t })
    go true h k = (T_of h, sym (granted_path _ p k))
    go false h k = absurd (not_granted LimitBroken p k)

pub grant_of : (s : Shape) (t : Table) → T (granted t) → grant s t ≡ Granted (record { shape = s; rows = t })
grant_of s t g = rw (so (granted t) g, grant)

pub followed_is : (a b : Plan) → a.shape ≡ b.shape → followed a b ≡ grant a.shape (compose a.shape a.rows b.rows)
unfolding followed
followed_is a b e = rw (subst (λ s. same_shape a.shape s ≡ true) e (same_shape_refl a.shape), followed)

-- what F grants: shapes are one, and the composition keeps the limits
pub followed_cases : (a b c : Plan) → followed a b ≡ Granted c → (a.shape ≡ b.shape) × T (granted (compose a.shape a.rows b.rows)) × (c ≡ record { shape = a.shape; rows = compose a.shape a.rows b.rows })
unfolding followed
followed_cases a b c e = go (same_shape a.shape b.shape) refl e
  where
    t : Table
    t = compose a.shape a.rows b.rows

    go : (x : Bool) → same_shape a.shape b.shape ≡ x → elim x as (λ _. Answer) [ true ↦ grant a.shape t | false ↦ Refused ShapesDiffer ] ≡ Granted c → (a.shape ≡ b.shape) × T (granted t) × (c ≡ record { shape = a.shape; rows = t })
    go true h k = let (g, p) = grant_cases a.shape t c k in (shape_path a.shape b.shape (T_of h), g, p)
    go false h k = absurd (not_granted ShapesDiffer c k)

-- what I gives
pub inverted_cases : (a b : Plan) → inverted a ≡ Granted b → b ≡ record { shape = a.shape; rows = inverse a.shape a.rows }
unfolding inverted
inverted_cases a b e = sym (granted_path (record { shape = a.shape; rows = inverse a.shape a.rows }) b e)

-- What `raised` says: a power that breaks a limit on the way, or the repetition itself with every power on the way within the limits.
abbrev pub Raised : Shape → Table → ℕ → Option Table → Type 0
Raised s a k none = (j : ℕ) × (1 ≤ j) × (j ≤ k) × (granted (repeated s a j) ≡ false)
Raised s a k (some t) = (t ≡ repeated s a k) × ((j : ℕ) → 1 ≤ j → j ≤ k → granted (repeated s a j) ≡ true)

raised_some : (s : Shape) (a t : Table) (k : ℕ) → raised s a k ≡ some t → raised s a (suc k) ≡ elim (granted (compose s t a)) as (λ _. Option Table) [ true ↦ some (compose s t a) | false ↦ none ]
unfolding raised
raised_some s a t k e = rw (e, raised)

raised_none : (s : Shape) (a : Table) (k : ℕ) → raised s a k ≡ none → raised s a (suc k) ≡ none
unfolding raised
raised_none s a k e = rw (e, raised)

pub raised_cases : (s : Shape) (a : Table) (k : ℕ) → Raised s a k (raised s a k)
unfolding repeated raised
raised_cases s a zero = (refl, λ j p q. absurd (omega arith))
raised_cases s a (suc k) = go (raised s a k) refl (raised_cases s a k)
  where
    again : (j : ℕ) → j ≤ suc k → (j ≤ k) ⊎ (j ≡ suc k)
    again j q = part (passes (leb j k))
      where
        part : (leb j k ≡ true) ⊎ (leb j k ≡ false) → (j ≤ k) ⊎ (j ≡ suc k)
        part (inl h) = inl (leb-true j k h)
        part (inr h) = let l = leb-false j k h in inr (omega arith)

    step : (t : Table) → raised s a k ≡ some t → t ≡ repeated s a k → ((j : ℕ) → 1 ≤ j → j ≤ k → granted (repeated s a j) ≡ true) → (b : Bool) → granted (compose s t a) ≡ b → Raised s a (suc k) (raised s a (suc k))
    step t e p h true g =
        let power : granted (repeated s a (suc k)) ≡ true = ap (λ r. granted (compose s r a)) (sym p) ∙ g in
        subst (Raised s a (suc k)) (sym (raised_some s a t k e ∙ ap (λ b. elim b as (λ _. Option Table) [ true ↦ some (compose s t a) | false ↦ none ]) g))
        (ap (λ r. compose s r a) p, λ j l q. ⊎_elim (λ q. h j l q) (λ q. ap (λ i. granted (repeated s a i)) q ∙ power) (again j q))
    step t e p h false g =
        subst (Raised s a (suc k)) (sym (raised_some s a t k e ∙ ap (λ b. elim b as (λ _. Option Table) [ true ↦ some (compose s t a) | false ↦ none ]) g))
        (suc k, omega arith, le_refl (suc k), ap (λ r. granted (compose s r a)) (sym p) ∙ g)

    go : (o : Option Table) → raised s a k ≡ o → Raised s a k o → Raised s a (suc k) (raised s a (suc k))
    go none e (j, l, q, g) = subst (Raised s a (suc k)) (sym (raised_none s a k e)) (j, l, omega arith, g)
    go (some t) e (p, h) = step t e p h (granted (compose s t a)) refl

power_is_repeated : (a : Plan) (k : ℤ) → repeated a.shape (repeatable a k) (nat_abs k) ≡ power a.shape a.rows k
unfolding power
power_is_repeated a (pos k) = refl
power_is_repeated a (negsuc k) = refl

-- what K answers, by what `raised` says
powered_is : (a : Plan) (k : ℤ) → leb (nat_abs k) max_power ≡ true → (o : Option Table) → raised a.shape (repeatable a k) (nat_abs k) ≡ o → powered a k ≡ elim o as (λ _. Answer) [ some t ↦ Granted (record { shape = a.shape; rows = t }) | none ↦ Refused LimitBroken ]
unfolding powered
powered_is a k h o e = rw (h, powered) (ap (λ o. elim o as (λ _. Answer) [ some t ↦ Granted (record { shape = a.shape; rows = t }) | none ↦ Refused LimitBroken ]) e)

powered_outside : (a : Plan) (k : ℤ) → leb (nat_abs k) max_power ≡ false → powered a k ≡ Refused PowerOutside
unfolding powered
powered_outside a k h = rw (h, powered)

-- what K grants: the power, with every power on the way within the limits
pub powered_cases : (a b : Plan) (k : ℤ) → powered a k ≡ Granted b → (b ≡ record { shape = a.shape; rows = power a.shape a.rows k }) × ((j : ℕ) → 1 ≤ j → j ≤ nat_abs k → granted (repeated a.shape (repeatable a k) j) ≡ true)
powered_cases a b k e = go (passes (leb (nat_abs k) max_power))
  where
    s : Shape
    s = a.shape

    at : leb (nat_abs k) max_power ≡ true → (o : Option Table) → raised s (repeatable a k) (nat_abs k) ≡ o → Raised s (repeatable a k) (nat_abs k) o
        → (b ≡ record { shape = s; rows = power s a.rows k }) × ((j : ℕ) → 1 ≤ j → j ≤ nat_abs k → granted (repeated s (repeatable a k) j) ≡ true)
    at h none p r = absurd (not_granted LimitBroken b (sym (powered_is a k h none p) ∙ e))
    at h (some t) p r =
        (sym (granted_path (record { shape = s; rows = t }) b (sym (powered_is a k h (some t) p) ∙ e)) ∙ ap (λ u. record { shape = s; rows = u }) (r.0 ∙ power_is_repeated a k), r.1)

    go : (leb (nat_abs k) max_power ≡ true) ⊎ (leb (nat_abs k) max_power ≡ false)
        → (b ≡ record { shape = s; rows = power s a.rows k }) × ((j : ℕ) → 1 ≤ j → j ≤ nat_abs k → granted (repeated s (repeatable a k) j) ≡ true)
    go (inl h) = at h (raised s (repeatable a k) (nat_abs k)) refl (raised_cases s (repeatable a k) (nat_abs k))
    go (inr h) = absurd (not_granted PowerOutside b (sym (powered_outside a k h) ∙ e))

abbrev number_of : Answer → ℕ
number_of (Granted p) = 0
number_of (Refused r) = refusal_number r

-- 11 is given exactly where a power on the way breaks a limit
pub power_refused : (a : Plan) (k : ℤ) → (powered a k ≡ Refused LimitBroken) ↔ (T (leb (nat_abs k) max_power) × ((j : ℕ) × (1 ≤ j) × (j ≤ nat_abs k) × (granted (repeated a.shape (repeatable a k) j) ≡ false)))
power_refused a k = (to, from)
  where
    s : Shape
    s = a.shape

    Broken : Type 0
    Broken = T (leb (nat_abs k) max_power) × ((j : ℕ) × (1 ≤ j) × (j ≤ nat_abs k) × (granted (repeated a.shape (repeatable a k) j) ≡ false))

    to : powered a k ≡ Refused LimitBroken → Broken
    to e = go (passes (leb (nat_abs k) max_power))
      where
        at : leb (nat_abs k) max_power ≡ true → (o : Option Table) → raised s (repeatable a k) (nat_abs k) ≡ o → Raised s (repeatable a k) (nat_abs k) o → Broken
        at h none p r = (T_of h, r)
        at h (some t) p r = absurd (not_granted LimitBroken _ (sym e ∙ powered_is a k h (some t) p))

        go : (leb (nat_abs k) max_power ≡ true) ⊎ (leb (nat_abs k) max_power ≡ false) → Broken
        go (inl h) = at h (raised s (repeatable a k) (nat_abs k)) refl (raised_cases s (repeatable a k) (nat_abs k))
        go (inr h) = let z : ◌≡◌ {A = ℕ} 12 11 = ap number_of (sym (powered_outside a k h) ∙ e) in absurd (omega arith)

    from : Broken → powered a k ≡ Refused LimitBroken
    from (t, (j, l, q, g)) = at (raised s (repeatable a k) (nat_abs k)) refl (raised_cases s (repeatable a k) (nat_abs k))
      where
        at : (o : Option Table) → raised s (repeatable a k) (nat_abs k) ≡ o → Raised s (repeatable a k) (nat_abs k) o → powered a k ≡ Refused LimitBroken
        at none p r = powered_is a k (so (leb (nat_abs k) max_power) t) none p
        at (some u) p r = absurd (clash (r.1 j l q) g)

pub powered_zero : (a : Plan) → powered a (pos 0) ≡ Granted (record { shape = a.shape; rows = identity a.shape })
unfolding raised
powered_zero a = powered_is a (pos 0) (leb-zero max_power) (some (identity a.shape)) refl

raised_one : (s : Shape) (b u : Table) → compose s (identity s) b ≡ u → T (granted u) → raised s b 1 ≡ some u
unfolding raised
raised_one s b u e g =
    raised_some s b (identity s) 0 refl
    ∙ ap {B = Option Table} (λ t. elim (granted t) as (λ _. Option Table) [ true ↦ some t | false ↦ none ]) e
    ∙ ap {B = Option Table} (λ x. elim x as (λ _. Option Table) [ true ↦ some u | false ↦ none ]) (so (granted u) g)

one_inside : leb 1 max_power ≡ true
unfolding max_power
one_inside = refl

-- the first power of a plan, and of its inverse
pub powered_one : (a : Plan) (u : Table) → compose a.shape (identity a.shape) a.rows ≡ u → T (granted u) → powered a (pos 1) ≡ Granted (record { shape = a.shape; rows = u })
powered_one a u e g = powered_is a (pos 1) one_inside (some u) (raised_one a.shape a.rows u e g)

pub powered_minus_one : (a : Plan) (u : Table) → compose a.shape (identity a.shape) (inverse a.shape a.rows) ≡ u → T (granted u) → powered a (negsuc 0) ≡ Granted (record { shape = a.shape; rows = u })
powered_minus_one a u e g = powered_is a (negsuc 0) one_inside (some u) (raised_one a.shape (inverse a.shape a.rows) u e g)

-- a route is of a code, and its answer says what the image is
abbrev route_by : Bool → Option Word → Route
route_by b o = elim b [ true ↦ elim o [ some v ↦ Image v | none ↦ TooShort ] | false ↦ NotRouted BadCode ]

abbrev image_in : Route → Option Word
image_in (Image v) = some v
image_in TooShort = none
image_in (NotRouted r) = none

abbrev is_short : Route → Type 0
is_short (Image v) = ⊥
is_short TooShort = Unit {0}
is_short (NotRouted r) = ⊥

module _ (a : Plan) (w : Word) where
  pub image_of_route : (v : Word) → routed a w ≡ Image v → T (is_code a.shape w) × (image a.rows w ≡ some v)
  unfolding routed
  image_of_route v e = by_tests (is_code a.shape w) (image a.rows w) (ap image_in e)
    where
      by_tests : (b : Bool) (o : Option Word) → image_in (route_by b o) ≡ some v → T b × (o ≡ some v)
      by_tests false o h = absurd (none-ne-some v h)
      by_tests true none h = absurd (none-ne-some v h)
      by_tests true (some u) h = (tt, h)

  pub none_of_short : routed a w ≡ TooShort → T (is_code a.shape w) × (image a.rows w ≡ none)
  unfolding routed
  none_of_short e = by_tests (is_code a.shape w) (image a.rows w) (subst is_short (sym e) tt)
    where
      by_tests : (b : Bool) (o : Option Word) → is_short (route_by b o) → T b × (o ≡ none)
      by_tests false o h = absurd h
      by_tests true none h = (tt, refl)
      by_tests true (some v) h = absurd h
