-- The measure of `put_number`, which calls itself for the digits before the last, is the number.
use Rattle.words.proofs.writing.+put_number.Given as goal

abbrev pub decreases-put_number : goal.decreases-put_number
decreases-put_number l = l.k
