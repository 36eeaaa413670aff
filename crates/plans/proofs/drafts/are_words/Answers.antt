-- `plans::drafts::are_words` meets its contract: the closure tests one number.
use mathlib.Core.Path.{◌∙◌}
use Rattle.std.proofs.Common.{rules, tests}
use Rattle.std.proofs.lemmas.Iterator.{YieldsList-from_slice}
use Rattle.std.proofs.lemmas.Iterator.Search.{all_from_yields_List}
use Rattle.higman.specs.Limits.{is_plan_word}
use Rattle.words.specs.Packed.{unpack}
use Rattle.words.specs.Bytes.{shape_of}
use Rattle.plans.proofs.Tested.{tested_map}
use Rattle.plans.proofs.drafts.are_words.Goals as goal

pub returns : goal.returns
returns c =
    let s = shape_of c.args.shape in
    let each = all_from_yields_List (λ x. is_plan_word s (unpack x)) _ _ c.all.result c.all.ensures.ran (YieldsList-from_slice c.args.column.now cc) (λ x b q k. search (rules, tests)) in
    each ∙ tested_map (is_plan_word s) unpack c.args.column.now
