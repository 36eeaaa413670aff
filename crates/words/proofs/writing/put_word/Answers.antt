-- `words::writing::put_word` meets its contract: the tab and the word are one run.
use native.Mathlib.Omega.{arith}
use Rattle.words.proofs.Runs.{wrote_then}
use Rattle.words.proofs.writing.put_word.Goals as goal

pub returns : goal.returns
returns c = wrote_then (omega arith) c.put-word_at.ensures c.write.ensures
