-- `records::fields::no_tab` meets its contract. The invariant: no tab stands in the field exactly if none was seen so far and none stands
-- in what is left.
use mathlib.Core.Path.{◌≡◌}
use mathlib.Core.Bool.{◌&&◌}
use lib.ListN.{drop}
use Rattle.desk.specs.Records.{no_tab}
use Rattle.records.proofs.fields.no_tab.Given as goal

abbrev pub invariant-loop-b : goal.invariant-loop-b
invariant-loop-b l = no_tab l.field ≡ (l.none && no_tab (drop l.b-index l.field))
