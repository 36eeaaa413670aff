-- `desk_values::packed` meets its contract.
use Prim.Native.Nat.{ℕ, ◌<◌}
use mathlib.Core.Path.{◌∙◌, ap}
use lib.ListN.{get_or}
use Rattle.operations.specs.declared.Plan.{Plan}
use Rattle.slots.specs.Blocks.{size_of, put}
use Rattle.slots.specs.Desks.{draft_block}
use Rattle.desk_values.specs.Values.{tidy_sizes}
use Rattle.desk_values.proofs.Narrow.{narrow_rights}
use Rattle.desk_values.proofs.Blocks.{desk_packed}
use Rattle.desk_values.proofs.packed.Goals.{Start}
use Rattle.desk_values.proofs.packed.Goals as goal

narrow : (s : Start) (i : ℕ) → get_or s.args.head.control.rights i 0 < 65_536
narrow s = narrow_rights s.args.head.control.rights _ s.well_formed.0.1.1.1.1.0.1.1.1.1.0.1.1

pub returns : goal.returns
returns c =
    let t = c.before in
    let p = t.before.before.before in
    let o = p.before.before in
    let d = o.before.before in
    let s = d.before.before in
    let h = c.args.head in
    let draft = c.draft_of-draft.ensures in
    let sizes = c.tidied_sizes-sizes.ensures ∙ ap (λ (v : Plan). tidy_sizes h.sizes (size_of v)) draft in
    let words = c.put.ensures ∙ ap (put c.args.columns draft_block) draft in
    let opened = c.opened_by-opened.ensures in
    (λ i. record { blocks = sizes i; opened = opened i; control = h.control; columns = words i })
    ∙ desk_packed h c.args.columns c.requires (narrow s)
