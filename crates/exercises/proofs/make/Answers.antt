-- `exercises::make` meets its contract: each refusal is the first that holds, and the columns that are left are those of the plan.
use mathlib.Core.Path.{sym, ◌∙◌, ap}
use native.Mathlib.Omega.{arith}
use lib.Dec.{T}
use Rattle.std.proofs.Common.{Ok, Err}
use Rattle.higman.specs.Limits.{seed_in_range}
use Rattle.higman.proofs.Tests.{T_of}
use Rattle.higman.proofs.KeptPlans.{in_range}
use Rattle.words.specs.Bytes.{shape_of}
use Rattle.columns.proofs.Limits.{pair_limit}
use Rattle.operations.proofs.Exits.{returned}
use Rattle.exercises.proofs.Made.{refused_seed, refused_pairs, refused_from, first_growable, second_growable, refused_second, shufflable, reducible, granted}
use Rattle.exercises.proofs.make.Goals.{Else-not-is_seed}
use Rattle.exercises.proofs.make.Goals as goal

-- the seed, once it is tested
seeded : (c : Else-not-is_seed) → T (seed_in_range c.args.seed)
seeded c = T_of (sym c.is_seed.ensures ∙ c.if-not-is_seed.false)

pub returns-then-not-is_seed : goal.returns-then-not-is_seed
returns-then-not-is_seed c =
    sym (refused_seed (shape_of c.args.shape) c.requires c.args.splits c.args.seed (sym c.is_seed.ensures ∙ c.if-not-is_seed.true))

pub returns-then-pairs-gt-MAX_PAIRS : goal.returns-then-pairs-gt-MAX_PAIRS
returns-then-pairs-gt-MAX_PAIRS c =
    let seed = seeded (goal.at.returns-then-pairs-gt-MAX_PAIRS c).Else-not-is_seed in
    sym (refused_pairs (shape_of c.args.shape) c.requires c.args.splits c.args.seed seed (omega (arith, pair_limit)))

pub grow-requires : goal.grow-requires
grow-requires c =
    let seed = seeded (goal.at.grow-requires c).Else-not-is_seed in
    first_growable (shape_of c.args.shape) c.requires c.args.splits c.args.seed seed (omega (arith, pair_limit))

pub returns-in_err-from : goal.returns-in_err-from
returns-in_err-from c =
    let seed = seeded (goal.at.returns-in_err-from c).Else-not-is_seed in
    let (e, long) = c.in_err-from.ensures in
    returned c.from_residual.result c.in_err-from.field-0.0 c.from_residual.ensures.1
    ∙ ap Err e
    ∙ sym (refused_from (shape_of c.args.shape) c.requires c.args.splits c.args.seed seed (omega (arith, pair_limit)) long)

pub grow-requires-2 : goal.grow-requires-2
grow-requires-2 c =
    let seed = seeded (goal.at.grow-requires-2 c).Else-not-is_seed in
    second_growable (shape_of c.args.shape) c.requires c.args.splits c.args.seed seed (omega (arith, pair_limit)) c.in_ok-from.from c.in_ok-from.ensures

pub returns-in_err-to : goal.returns-in_err-to
returns-in_err-to c =
    let seed = seeded (goal.at.returns-in_err-to c).Else-not-is_seed in
    let (e, long) = c.in_err-to.ensures in
    returned c.from_residual-in_err-to.result c.in_err-to.field-0.0 c.from_residual-in_err-to.ensures.1
    ∙ ap Err e
    ∙ sym (refused_second (shape_of c.args.shape) c.requires c.args.splits c.args.seed seed (omega (arith, pair_limit)) c.in_ok-from.from c.in_ok-from.ensures long)

pub shuffle-values-requires : goal.shuffle-values-requires
shuffle-values-requires c =
    let seed = seeded (goal.at.shuffle-values-requires c).Else-not-is_seed in
    shufflable (shape_of c.args.shape) c.requires c.args.splits c.args.seed seed (omega (arith, pair_limit)) c.in_ok-from.from c.in_ok-from.ensures
    c.in_ok-to.to c.in_ok-to.ensures

pub keep_sorted-plan-requires : goal.keep_sorted-plan-requires
keep_sorted-plan-requires c =
    let seed = seeded (goal.at.keep_sorted-plan-requires c).Else-not-is_seed in
    reducible (shape_of c.args.shape) c.requires c.args.splits c.args.seed seed (omega (arith, pair_limit)) c.in_ok-from.from c.in_ok-from.ensures
    c.in_ok-to.to c.in_ok-to.ensures c.shuffle-values.result c.shuffle-values.ensures

pub returns : goal.returns
returns c =
    let seed = seeded (goal.at.returns c).Else-not-is_seed in
    ap Ok c.keep_sorted-plan.ensures
    ∙ granted (shape_of c.args.shape) c.requires c.args.splits c.args.seed seed (omega (arith, pair_limit)) c.in_ok-from.from c.in_ok-from.ensures
    c.in_ok-to.to c.in_ok-to.ensures c.shuffle-values.result c.shuffle-values.ensures

pub overflow_sub-pairs : goal.overflow_sub-pairs
overflow_sub-pairs c = omega (arith, (in_range (shape_of c.args.shape) c.requires).arity_low)
