-- What the calls answer: the verdict on two columns, and a granted plan or a refusal for F, I, K, S and the library's route, which W asks
-- too; X's answer is in Exercises.antt. Each refusal has its number of Refusals.antt. The contracts of the calls cite these answers. To be
-- believed: the names of the answers. What is answered is fixed: the verdict by `ReasonsExact`, the plans by `Demand3` and
-- `AnswersAreElements`, the other refusals by `AnswersExact`. Read Listing.antt next.
use Rattle.std.specs.Prelude.{ℕ, zero, suc, ◌≡◌, refl, Bool, true, false, ◌&&◌, List, [], ◌∷◌, map, leb, eqb, ℤ, pos, negsuc, nat_abs}
use Rattle.std.proofs.Math.Option.{Option, none, some}
use Rattle.higman.specs.Words.{Shape, Word, is_word, spell}
use Rattle.higman.specs.Bases.{all, overlap, gap}
use Rattle.higman.specs.Tables.{Table, froms, tos, image, same_table, row, φ, ψ}
use Rattle.higman.specs.Normal.{joined, normal, normal_form, keep, compose, inverse, identity}
use Rattle.higman.specs.Refusals.{bad_word, words_overlap, root_uncovered, shapes_differ, limit_broken, power_outside, code_too_short}
use Rattle.higman.specs.Refusals.{pairs_full, seed_outside}
use Rattle.higman.specs.Limits.{Plan, shape_in_range, granted, is_code, max_pairs, max_digits, max_code, max_power, power_in_range}

-- "6, one word begins or equals another; 7, a belt isn't covered"
pub data Reason : Type 0 where
  Overlap : Reason
  Gap : Reason

-- "the verdict on a plan names the column and, within it, the reason"
pub data Verdict : Type 0 where
  Accepted : Verdict
  InFrom : Reason → Verdict
  InTo : Reason → Verdict

abbrev pub reason_number : Reason → ℕ
reason_number Overlap = words_overlap
reason_number Gap = root_uncovered

-- what is wrong with a column, overlap before gap
abbrev pub fault : Shape → List Word → Option Reason
fault s c = elim (overlap c) [ true ↦ some Overlap | false ↦ elim (gap s c) [ true ↦ some Gap | false ↦ none ] ]

-- "two checks, both made of the from column and after that both of the to column"
unfoldable pub verdict : Shape → Table → Verdict
verdict s t =
    elim (fault s (froms t)) [ some r ↦ InFrom r | none ↦ elim (fault s (tos t)) [ some r ↦ InTo r | none ↦ Accepted ] ]

abbrev pub accepts : Verdict → Bool
accepts Accepted = true
accepts (InFrom r) = false
accepts (InTo r) = false

abbrev pub is_table_of : Shape → Table → Bool
is_table_of s t = shape_in_range s && granted t && all (is_word s) (froms t) && all (is_word s) (tos t)

-- The same as `Kept`, as a test that computes: words of a shape in range, within the limits, and a plan that E would keep just as it is.
unfoldable pub is_kept : Plan → Bool
is_kept p = is_table_of p.shape p.rows && accepts (verdict p.shape p.rows) && same_table (keep p.shape p.rows) p.rows

-- the refusals of the calls that take kept plans, and of X, which makes one
pub data Refusal : Type 0 where
  BadCode : Refusal
  ShapesDiffer : Refusal
  LimitBroken : Refusal
  PowerOutside : Refusal
  SeedOutside : Refusal
  TooManyPairs : Refusal
  WordTooLong : Refusal

abbrev pub refusal_number : Refusal → ℕ
refusal_number BadCode = bad_word
refusal_number ShapesDiffer = shapes_differ
refusal_number LimitBroken = limit_broken
refusal_number PowerOutside = power_outside
refusal_number SeedOutside = seed_outside
refusal_number TooManyPairs = pairs_full
refusal_number WordTooLong = bad_word

-- the plan that F, I, K or X would keep, or why not
pub data Answer : Type 0 where
  Granted : Plan → Answer
  Refused : Refusal → Answer

abbrev pub same_shape : Shape → Shape → Bool
same_shape s u = eqb s.arity u.arity && eqb s.roots u.roots

-- "11, the reduced result breaks a limit"
abbrev pub grant : Shape → Table → Answer
grant s t = elim (granted t) [ true ↦ Granted (record { shape = s; rows = t }) | false ↦ Refused LimitBroken ]

-- F: "10, shapes differ; 11, the reduced result breaks a limit"
unfoldable pub followed : Plan → Plan → Answer
followed a b =
    elim (same_shape a.shape b.shape) [ true ↦ grant a.shape (compose a.shape a.rows b.rows) | false ↦ Refused ShapesDiffer ]

-- I: "keeps the inverse"; "I: then 8; 9; 16", and so nothing more to refuse
unfoldable pub inverted : Plan → Answer
inverted a = Granted (record { shape = a.shape; rows = inverse a.shape a.rows })

-- the k-th power, if every power from the first to it keeps the limits
unfoldable pub raised : Shape → Table → ℕ → Option Table
raised s a zero = some (identity s)
raised s a (suc k) =
    elim (raised s a k) [ none ↦ none | some t ↦ let u = compose s t a in elim (granted u) [ true ↦ some u | false ↦ none ] ]

-- what a power repeats: the plan, or below zero its inverse
abbrev pub repeatable : Plan → ℤ → Table
repeatable a (pos k) = a.rows
repeatable a (negsuc k) = inverse a.shape a.rows

-- K: "12, k outside −1,000 to 1,000; .. 11, some reduced power from 1 up to the size of k breaks a limit"
unfoldable pub powered : Plan → ℤ → Answer
powered a k =
    elim
    (power_in_range k) [
      | true ↦ elim (raised a.shape (repeatable a k) (nat_abs k)) [ some t ↦ Granted (record { shape = a.shape; rows = t }) | none ↦ Refused LimitBroken ]
      | false ↦ Refused PowerOutside
    ]

-- "0 is the plan that moves nothing"
unfoldable pub identity_plan : Shape → Plan
identity_plan s = record { shape = s; rows = identity s }

-- S: whether two plans act alike, or why that is not asked
pub data Comparison : Type 0 where
  Alike : Bool → Comparison
  NotCompared : Refusal → Comparison

unfoldable pub same : Plan → Plan → Comparison
same a b =
    elim (same_shape a.shape b.shape) [ true ↦ Alike (same_table a.rows b.rows) | false ↦ NotCompared ShapesDiffer ]

-- "A route replies with an image, a code too short, or another refusal."
pub data Route : Type 0 where
  Image : Word → Route
  TooShort : Route
  NotRouted : Refusal → Route

-- the number of a route's refusal; an image has none
abbrev pub route_number : Route → Option ℕ
route_number (Image w) = none
route_number TooShort = some code_too_short
route_number (NotRouted r) = some (refusal_number r)

-- the route of a single code: "4; 13, the code is a proper beginning of a from-word"
unfoldable pub routed : Plan → Word → Route
routed a c =
    elim
    (is_code a.shape c) [
      | true ↦ elim (image a.rows c) [ some v ↦ Image v | none ↦ TooShort ]
      | false ↦ NotRouted BadCode
    ]

-- a plan of shape (2,1), for examples
abbrev plan21 : Table → Plan
plan21 t = record { shape = record { arity = 2; roots = 1 }; rows = t }

verdict_example : verdict (record { arity = 2; roots = 1 }) (row 11 11 ∷ row 121 121 ∷ row 122 1221 ∷ []) ≡ InTo Gap
unfolding verdict
verdict_example = refl

-- ψ; and the plan that moves nothing on two pairs, which is not reduced
is_kept_example : map is_kept (plan21 ψ ∷ plan21 (row 11 11 ∷ row 12 12 ∷ []) ∷ []) ≡ true ∷ false ∷ []
unfolding is_kept shape_in_range granted max_pairs max_digits verdict keep normal_form normal joined
is_kept_example = refl

-- the from column first, and in a column the overlap
verdict_order_example : verdict (record { arity = 2; roots = 2 }) (row 11 1 ∷ row 111 11 ∷ []) ≡ InFrom Overlap
unfolding verdict
verdict_order_example = refl

routed_example : map (routed (plan21 ψ)) (spell 1122 ∷ spell 11 ∷ spell 13 ∷ []) ≡ Image (spell 1212) ∷ TooShort ∷ NotRouted BadCode ∷ []
unfolding routed is_code max_code
routed_example = refl

-- "k = 1000 passes the check of k, 1001 is 12"; φ to the fourth moves nothing, and so does φ to the 1000th
powered_example : map (powered (plan21 φ)) (negsuc 0 ∷ pos 1000 ∷ pos 1001 ∷ negsuc 1000 ∷ []) ≡ inverted (plan21 φ) ∷ Granted (plan21 (row 1 1 ∷ [])) ∷ Refused PowerOutside ∷ Refused PowerOutside ∷ []
unfolding powered raised inverted granted max_pairs max_digits max_power compose inverse keep identity normal_form normal joined
powered_example = refl

-- "ψ .. to the 15th is 11", and to the −15th
limit_example : map (powered (plan21 ψ)) (pos 15 ∷ negsuc 14 ∷ []) ≡ Refused LimitBroken ∷ Refused LimitBroken ∷ []
unfolding powered raised granted max_pairs max_digits max_power compose inverse keep identity normal_form normal joined
limit_example = refl

-- φ then ψ, ψ then ψ, and a plan of another shape
followed_example : map (λ p. followed p (plan21 ψ)) (plan21 φ ∷ plan21 ψ ∷ identity_plan (record { arity = 3; roots = 1 }) ∷ []) ≡ Granted (plan21 (row 111 1222 ∷ row 112 1221 ∷ row 121 11 ∷ row 122 121 ∷ [])) ∷ Granted (plan21 (row 1111 11 ∷ row 1112 121 ∷ row 112 1221 ∷ row 12 1222 ∷ [])) ∷ Refused ShapesDiffer ∷ []
unfolding followed identity_plan granted max_pairs max_digits compose normal_form normal joined
followed_example = refl

same_example : map (same (plan21 φ)) (plan21 φ ∷ plan21 ψ ∷ identity_plan (record { arity = 3; roots = 1 }) ∷ []) ≡ Alike true ∷ Alike false ∷ NotCompared ShapesDiffer ∷ []
unfolding same identity_plan
same_example = refl
