-- The term of SlotsUsed, of specs/Demands.antt.
use Rattle.desk.specs.Demands.{SlotsUsed}
use Rattle.desk.proofs.Outcomes.{passed, passes_operation}
use Rattle.desk.proofs.Replies.{job_reads, job_spares, job_writes}

pub slots_used : SlotsUsed
slots_used =
    record {
      reads_held = λ d r e h. passed (passes_operation d r (λ _. job_reads d r)) e h;
      only_targets = λ d r e h. passed (passes_operation d r (λ _. job_spares d r)) e h;
      targets = λ d r e h. passed (passes_operation d r (λ _. job_writes d r)) e h;
    }
