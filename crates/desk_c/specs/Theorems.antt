-- What the calls leave of a desk is a desk for the next call, whatever was asked and whether it was refused. Read CallsExact.antt next.
use Rattle.std.specs.Prelude.{Bool, T}
use Rattle.higman.specs.Text.{Bytes}
use Rattle.desk_values.specs.declared.Desk.{Desk}
use Rattle.desk_values.specs.Values.{is_desk_value, Whole}
use Rattle.desk_c.specs.declared.Job.{Job}
use Rattle.desk_c.specs.Calls.{job_work, served, worked}
use Rattle.desk_c.specs.Feeding.{piece_fed}

pub record DeskLeft : Type 0 where
  pub by_line : (v : Desk) → Whole v → T (is_desk_value v) → (line out : Bytes) → T (is_desk_value (served line v out).desk)
  pub by_piece : (v : Desk) → Whole v → T (is_desk_value v) → (overlong : Bool) (input out : Bytes)
      → T (is_desk_value (piece_fed overlong input v out).desk)
  pub by_job : (v : Desk) → Whole v → T (is_desk_value v) → (j : Job) → T (is_desk_value (worked (job_work j) v).desk)
