-- `records::read_fields` meets its contract: each letter has its reader, and a letter without one is that of no record.
use borrow.Author.Rules.{rules}
use borrow.Author.Tests.{tests}
use Rattle.desk.specs.Records.{grammar}
use Rattle.records.proofs.Readers.{OtherThan, other_read}
use Rattle.records.proofs.read_fields.Goals as goal

pub returns-in_default-5 : goal.returns-in_default-5
unfolding grammar
returns-in_default-5 c = let other : OtherThan c.args.letter grammar =
    search (rules, tests) in other_read c.args.letter c.args.fields.now other
