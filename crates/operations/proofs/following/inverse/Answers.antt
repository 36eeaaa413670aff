-- `operations::following::inverse` meets its contract: what is kept of a plan with its columns exchanged.
use Rattle.operations.proofs.KeptValues.{pairs_few, kept}
use Rattle.operations.proofs.Exchanged.{exchanged_bases, inverse_kept}
use Rattle.operations.proofs.following.inverse.Goals as goal

pub keep-requires : goal.keep-requires
keep-requires c =
    let a = c.args.a in
    (pairs_few a c.requires, (kept a c.requires).in_range, exchanged_bases a c.requires)

pub returns : goal.returns
returns c = inverse_kept c.args.a c.keep.result c.keep.ensures
