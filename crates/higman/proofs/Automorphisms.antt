-- From an automorphism to the table that it comes from, what F, I and K answer as automorphisms, and the term of
-- `PlansAreAutomorphisms`: for every arity of at least 1 and every number of roots, the group of the reduced plans is G(n,r).
use Prim.Native.Nat.{suc, ◌≤◌}
use mathlib.Core.Path.{◌≡◌, refl, sym, ◌∙◌, ap, subst}
use mathlib.Core.Option.{some}
use native.Mathlib.Nat.{le_refl}
use lib.IntN.{ℤ, pos, negsuc}
use Rattle.higman.specs.Words.{Shape, Word}
use Rattle.higman.specs.Tables.{Table, BlockMap, image}
use Rattle.higman.specs.Normal.{normal_form, keep, compose, inverse, identity, power}
use Rattle.higman.specs.Limits.{Plan, Bases}
use Rattle.higman.specs.Answers.{Granted, grant, inverted}
use Rattle.higman.specs.Theorems.{ReducedPlan}
use Rattle.higman.specs.Algebras.{Way, Free, Isomorphism, Automorphism, spell_code, value}
use Rattle.higman.specs.Automorphisms.{TablesAreAutomorphisms, AnswersAreElements, PlansAreAutomorphisms}
use Rattle.higman.proofs.Tests.{IsWord}
use Rattle.higman.proofs.Actions.{Action, image_normal_form}
use Rattle.higman.proofs.Results.{results_reduced}
use Rattle.higman.proofs.Elements.{Element, Mutual}
use Rattle.higman.proofs.Group.{Member, member_of_action, keep_member, compose_member, inverse_member, identity_member}
use Rattle.higman.proofs.Group.{repeated_element}
use Rattle.higman.proofs.KeptPlans.{element_of_bases, bases_of_element, member_of_plan, plan_of_member, plan_of_kept}
use Rattle.higman.proofs.Answers.{followed_is, powered_cases}
use Rattle.higman.proofs.Codes.{word_of_code, code_of_word}
use Rattle.higman.proofs.Algebras.{identity_homomorphism, homomorphisms_in_turn}
use Rattle.higman.proofs.StandardForms.{form_discrete}
use Rattle.higman.proofs.FreeForms.{standard_forms, standard_elements}
use Rattle.higman.proofs.Extensions.{Follows, one_follower}
use Rattle.higman.proofs.Endomorphisms.{blocks, blocks_code, blocks_follow, blocks_of_lem, blocks_action}
use Rattle.higman.proofs.TableAutomorphisms.{Endomorphism, automorphism, automorphism_extends, automorphism_only, automorphism_kept}
use Rattle.higman.proofs.TableAutomorphisms.{automorphism_composed, automorphism_inverted, automorphism_fixed, automorphism_raised}
use Rattle.higman.proofs.TableAutomorphisms.{automorphism_faithful}

-- two algebras free on the roots are isomorphic: what takes generators to generators and back takes each generator to itself
generators_and_back : (s : Shape) (F G : Free s) (y : F.algebra.Element)
    → (G.extend F.algebra F.generator).0.to ((F.extend G.algebra G.generator).0.to y) ≡ y
generators_and_back s F G =
    let (h, p) = F.extend G.algebra G.generator in
    let (k, q) = G.extend F.algebra F.generator in
    F.unique F.algebra
    (homomorphisms_in_turn s.arity F.algebra G.algebra h F.algebra k)
    (identity_homomorphism s.arity F.algebra)
    (λ a. ap k.to (p a) ∙ q a)

one_free : (s : Shape) (F G : Free s)
    → (i : Isomorphism s.arity F.algebra G.algebra) × ((a : Way s.roots) → i.there.to (F.generator a) ≡ G.generator a)
one_free s F G =
    let (h, p) = F.extend G.algebra G.generator in
    let (k, q) = G.extend F.algebra F.generator in
    (record { there = h; back = k; back_there = generators_and_back s F G; there_back = generators_and_back s G F }, p)

module _ (s : Shape) (n : 1 ≤ s.arity) where
  abbrev element_of : (t : Table) → Bases s t → Element s t
  element_of t b = element_of_bases s t n b

  -- the reduced plans are closed under the operations
  keep_plan : (t : Table) → Bases s t → ReducedPlan s (keep s t)
  keep_plan t b = plan_of_member s (keep s t) n (keep_member s n t (element_of t b))

  compose_plan : (a b : Table) → Bases s a → Bases s b → ReducedPlan s (compose s a b)
  compose_plan a b A B = plan_of_member s (compose s a b) n (compose_member s n a b (element_of a A) (element_of b B))

  inverse_plan : (a : Table) → Bases s a → ReducedPlan s (inverse s a)
  inverse_plan a A = plan_of_member s (inverse s a) n (inverse_member s n a (element_of a A))

  identity_plan_lem : ReducedPlan s (identity s)
  identity_plan_lem = plan_of_member s (identity s) n (identity_member s n)

  power_element : (a : Table) → Element s a → (k : ℤ) → Element s (power s a k)
  unfolding power
  power_element a A (pos k) = repeated_element s n a A k
  power_element a A (negsuc k) = repeated_element s n (inverse s a) (inverse_member s n a A).element (suc k)

  power_plan : (a : Table) → Bases s a → (k : ℤ) → ReducedPlan s (power s a k)
  power_plan a A k =
      record {
        bases = bases_of_element s (power s a k) n (power_element a (element_of a A) k);
        reduced = results_reduced.power_reduced s n a k;
        in_order = results_reduced.power_in_order s a k;
      }

  module _ (F : Free s) where
    -- where an endomorphism takes back what another does, so do their maps on blocks
    blocks_undo : (h k : Endomorphism s F) → ((y : F.algebra.Element) → k.to (h.to y) ≡ y)
        → (w v : Word) → IsWord s w → blocks s n F h w ≡ some v → blocks s n F k v ≡ some w
    blocks_undo h k p w v y e =
        let (c, q) = code_of_word s w y in
        let (d, r) = blocks_code s n F h c v (ap (blocks s n F h) q ∙ e) in
        let z = blocks_follow s n F h c d (ap (blocks s n F h) q ∙ e ∙ ap some (sym r)) in
        ap (blocks s n F k) (sym r) ∙ blocks_of_lem s n F k d c (ap k.to (sym z) ∙ p (value F c)) ∙ ap some q

    module _ (φ : Automorphism s F) where
      abbrev blocks_of : BlockMap
      blocks_of = blocks s n F φ.there

      abbrev blocks_act : Action s blocks_of
      blocks_act = blocks_action s n F φ.there

      -- THE TABLE of an automorphism: the normal form of what it does to blocks
      table_of : Table
      table_of = normal_form s blocks_act.depth blocks_of

      table_member : Member s table_of
      unfolding table_of
      table_member =
          let m : Mutual s blocks_of (blocks s n F φ.back) =
          record { undo = blocks_undo φ.there φ.back φ.back_there; redo = blocks_undo φ.back φ.there φ.there_back } in
          member_of_action s n blocks_of (blocks s n F φ.back) blocks_act (blocks_action s n F φ.back) blocks_act.depth
          (le_refl blocks_act.depth) m

      table_acts_lem : (E : Element s table_of) (y : F.algebra.Element) → (automorphism s n F table_of E).there.to y ≡ φ.there.to y
      unfolding table_of
      table_acts_lem E =
          one_follower s F blocks_of blocks_act (automorphism s n F table_of E).there φ.there
          (λ c d e.
          let deep = le_refl blocks_act.depth in
          automorphism_extends s n F table_of E c d
          (image_normal_form s blocks_of blocks_act blocks_act.depth deep (spell_code c) (spell_code d) (word_of_code c) e))
          (blocks_follow s n F φ.there)

    -- the automorphism of a table with bases for columns, as a map
    abbrev map_of : (a : Table) → Bases s a → Endomorphism s F
    map_of a A = (automorphism s n F a (element_of a A)).there

    faithful_forth : (a b : Table) (A : ReducedPlan s a) (B : ReducedPlan s b)
        → ((y : F.algebra.Element) → (map_of a A.bases).to y ≡ (map_of b B.bases).to y) → a ≡ b
    faithful_forth a b A B h =
        automorphism_faithful s n F a b (element_of a A.bases) (element_of b B.bases)
        (member_of_plan s a n A).own (member_of_plan s b n B).own h

    faithful_back : (a b : Table) (A : ReducedPlan s a) (B : ReducedPlan s b)
        → a ≡ b → (y : F.algebra.Element) → (map_of a A.bases).to y ≡ (map_of b B.bases).to y
    faithful_back a b A B e =
        automorphism_only s n F b (element_of b B.bases) (map_of a A.bases)
        (subst (λ t. Follows s F (image t) (map_of a A.bases)) e (automorphism_extends s n F a (element_of a A.bases)))

    tables_are_automorphisms : TablesAreAutomorphisms s F
    tables_are_automorphisms =
        record {
          of = λ t b. automorphism s n F t (element_of t b);
          extends = λ t b. automorphism_extends s n F t (element_of t b);
          only = λ t b. automorphism_only s n F t (element_of t b);
          kept = λ t b k. automorphism_kept s n F t (element_of t b) (element_of (keep s t) k);
          composed = λ a b A B C. automorphism_composed s n F a b (element_of a A) (element_of b B) (element_of (compose s a b) C);
          inverted_back = λ a A B. automorphism_inverted s n F a (element_of a A) (element_of (inverse s a) B);
          fixed = λ I. automorphism_fixed s n F (element_of (identity s) I);
          raised = λ a A k B. automorphism_raised s n F a (element_of a A) k (element_of (power s a k) B);
          faithful = λ a b A B. (faithful_forth a b A B, faithful_back a b A B);
          onto = λ φ.
              let P = plan_of_member s (table_of φ) n (table_member φ) in
              (table_of φ, P, table_acts_lem φ (element_of (table_of φ) P.bases));
        }

    abbrev plan_of : Table → Plan
    plan_of t = record { shape = s; rows = t }

    inverted_is : (a : Table) → inverted (plan_of a) ≡ Granted (plan_of (inverse s a))
    unfolding inverted
    inverted_is a = refl

    -- The plan of a composition, inverse or power is what the operation on tables gives, as the automorphism has one plan.
    answers_are_elements : (G : TablesAreAutomorphisms s F) → AnswersAreElements s F G
    answers_are_elements G =
        record {
          followed_element = λ a b c A B C h.
              let K = compose_plan a b A.bases B.bases in
              let e = (G.faithful c (compose s a b) C K).0 (λ y. h y ∙ sym (G.composed a b A.bases B.bases K.bases y)) in
              followed_is (plan_of a) (plan_of b) refl ∙ ap (grant s) (sym e);
          inverted_element = λ a c A C h.
              let K = inverse_plan a A.bases in
              let e = (G.faithful c (inverse s a) C K).0 (λ y. h y ∙ sym (G.inverted_back a A.bases K.bases y)) in
              inverted_is a ∙ ap (λ t. Granted (plan_of t)) (sym e);
          powered_element = λ a c k A C h p q.
              let K = power_plan a A.bases k in
              let e = (G.faithful c (power s a k) C K).0 (λ y. h y ∙ sym (G.raised a A.bases k K.bases y)) in
              (powered_cases (plan_of a) p k q).0 ∙ ap plan_of (sym e);
        }

pub plans_are_automorphisms : PlansAreAutomorphisms
plans_are_automorphisms =
    record {
      free = standard_forms;
      forms = standard_elements;
      forms_decided = form_discrete;
      one_free = one_free;
      kept_plan = λ p. (
        λ K. (K.in_range, K.within, plan_of_kept p K),
        λ (r, g, P). record { in_range = r; within = g; bases = P.bases; reduced = P.reduced; in_order = P.in_order },
      );
      keep_plan = keep_plan;
      compose_plan = compose_plan;
      inverse_plan = inverse_plan;
      identity_plan_lem = identity_plan_lem;
      power_plan = power_plan;
      tables = tables_are_automorphisms;
      answers = λ s n F. answers_are_elements s n F (tables_are_automorphisms s n F);
    }
