-- No table that acts as a reduced plan does is shorter. The plan sends each from-word of the table whole (MinimalExpansion), so that word
-- begins with one of the plan's; and a basis whose words each begin with a word of another has no fewer words (Smallest). The term of the
-- statement of specs/Shortest.antt.
use Prim.Native.Nat.{◌≤◌}
use mathlib.Core.Path.{refl, sym, ◌∙◌, ap, subst}
use mathlib.Core.List.Memᴰ
use mathlib.Core.List.{Memᴰ}
use native.Mathlib.Omega.{arith}
use lib.Dec.{T}
use lib.ListN.{length, length-map}
use Rattle.higman.specs.Words.{Shape, Word, begins}
use Rattle.higman.specs.Tables.{Pair, Table, froms}
use Rattle.higman.specs.Limits.{Plan, Kept}
use Rattle.higman.specs.Listing.{pair_record, pair_records}
use Rattle.higman.specs.Theorems.{ReducedPlan}
use Rattle.higman.specs.Shortest.{ActsAs, NotShorter, NoShorterTable}
use Rattle.higman.proofs.Tests.{T_of}
use Rattle.higman.proofs.Prefixes.{begins_append}
use Rattle.higman.proofs.Proper.{Proper}
use Rattle.higman.proofs.Images.{row_of_image}
use Rattle.higman.proofs.Expansions.{Begun}
use Rattle.higman.proofs.Columns.{proper_of_basis}
use Rattle.higman.proofs.Elements.{word_length}
use Rattle.higman.proofs.Group.{Member}
use Rattle.higman.proofs.Smallest.{length_le_of_begun, length_le_of_froms}
use Rattle.higman.proofs.KeptPlans.{arity_of_range, member_of_plan, plan_of_kept}
use Rattle.higman.proofs.MinimalExpansion.{Solid, plan_sends_row}

module _ (s : Shape) (n : 1 ≤ s.arity) (a t : Table) (A : ReducedPlan s a) (acts : ActsAs s a t) where
  member : Member s a
  member = member_of_plan s a n A

  from_proper : Proper s (froms t)
  from_proper = proper_of_basis s (froms t) n acts.from_basis

  solid : Solid t
  solid p m e = let long = acts.at_least_a_belt p.to (Memᴰ.map (λ q. q.to) m) in omega (arith, ap length e)

  -- each from-word of the table begins with one of the plan's
  begun_by_plan : (w : Word) → Memᴰ w (froms t) → Begun (froms a) w
  begun_by_plan w m =
      let (p, k, e) = Memᴰ.of_map (λ q. q.from) t m in
      let (q, x, l, f, g) = row_of_image a p.from p.to (plan_sends_row s n a member t from_proper solid acts.same_action p k) in
      (q.from, x, Memᴰ.map (λ r. r.from) l, sym e ∙ f)

  no_fewer_from_words : length (froms a) ≤ length (froms t)
  no_fewer_from_words = length_le_of_begun s (froms a) (froms t) n member.element.from_proper from_proper begun_by_plan

  not_shorter : NotShorter a t
  not_shorter =
      record {
        no_fewer_pairs = length_le_of_froms a t no_fewer_from_words;
        begun_by_listed = λ w m.
            let (u, x, l, e) = begun_by_plan w m in
            (u, l, subst (λ v. T (begins u v)) (sym e) (T_of (begins_append u x)));
      }

plan_acts_as_itself : (s : Shape) → 1 ≤ s.arity → (a : Table) → ReducedPlan s a → ActsAs s a a
plan_acts_as_itself s n a A =
    record {
      from_basis = A.bases.from_basis;
      at_least_a_belt = λ v m. word_length s v ((member_of_plan s a n A).element.to_proper.words v m);
      same_action = λ w y l k. refl;
    }

-- the same of the M records: there is one for each pair
module _ (a : Plan) (K : Kept a) (t : Table) (acts : ActsAs a.shape a.rows t) where
  pub kept_not_shorter : NotShorter a.rows t
  kept_not_shorter = not_shorter a.shape (arity_of_range a.shape K.in_range) a.rows t (plan_of_kept a K) acts

  no_more_records : length (pair_records a.rows) ≤ length t
  no_more_records = subst (λ j. j ≤ length t) (sym (length-map a.rows pair_record)) kept_not_shorter.no_fewer_pairs

  begun_by_record : (w : Word) → Memᴰ w (froms t)
      → (p : Pair) × Memᴰ (pair_record p) (pair_records a.rows) × T (begins p.from w)
  begun_by_record w m =
      let (u, l, b) = kept_not_shorter.begun_by_listed w m in
      let (p, k, e) = Memᴰ.of_map (λ q. q.from) a.rows l in
      (p, Memᴰ.map pair_record k, subst (λ v. T (begins v w)) (sym e) b)

pub no_shorter_table : NoShorterTable
no_shorter_table =
    record {
      reduced_plan = not_shorter;
      itself = plan_acts_as_itself;
      no_more_records = no_more_records;
      begun_by_record = begun_by_record;
    }
