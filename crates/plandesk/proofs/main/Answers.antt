-- `plandesk::main`: its buffer has room for any reply.
use Rattle.std.proofs.Common.{rules}
use Rattle.replies.specs.Sizes.{max_reply}
use Rattle.plandesk.proofs.main.Goals as goal

pub run-requires : goal.run-requires
unfolding max_reply
run-requires c = search rules
