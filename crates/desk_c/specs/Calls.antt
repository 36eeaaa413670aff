-- The calls of the library of the desk: `lent_call` and `plain_call` of desk's Buffers.antt on the desk that a value holds, with 15 for a
-- value that is none. What they leave of a desk is its one value (`DeskValues`), so that every field of it is determined. A caller in C
-- believes it; `DeskCallsExact` holds the answers to the paper's figures, and `DeskLayout` of desk_values the value. Read Feeding.antt
-- next.
use Rattle.std.specs.Prelude.{ℕ, ◌+◌, ◌*◌, ◌≡◌, refl, true, false, [], ◌∷◌, map, eqb, pos}
use Rattle.std.proofs.Math.Option.{Option, none, some}
use Rattle.higman.specs.Text.{Bytes, byte, bytes}
use Rattle.higman.specs.Limits.{max_pairs, slot_count}
use Rattle.higman.specs.Refusals.{no_record, invalid_value, Letter, letter_byte}
use Rattle.desk.specs.Limits.{station_count, max_changes, max_line, max_splits_numeral, max_right}
use Rattle.desk.specs.Desk.{Desk as DeskOf, is_control, is_desk, fresh_control, fresh_desk, dropped, are_rights}
use Rattle.desk.specs.Records.{Record, P, E, F, I, K, S, C, T, X, Z, H, parse, grammar, kind, has_digits, needed_right}
use Rattle.desk.specs.Replies.{Reply, silent, ok, ok_number, ok_image, ok_block, lists, surveys, refuses, Outcome, refuse, pass}
use Rattle.desk.specs.Replies.{◌>>=◌, admission, operation, line_operation}
use Rattle.desk.specs.Replies.{job as job_of, grant_by}
use Rattle.desk.specs.Bytes.{reply_bytes}
use Rattle.desk.specs.Buffers.{Work, Lent, lent, lent_call, plain_call}
use Rattle.operations.specs.Plans.{in_table, packed, blank}
use Rattle.slots.specs.Blocks.{block_count, columns_size, value_at}
use Rattle.slots.specs.Desks.{control_in, desk_of}
use Rattle.desks.specs.Tested.{sizes_sum, holds_test}
use Rattle.desk_values.specs.declared.Desk.{Desk}
use Rattle.desk_values.specs.Values.{desk_in, is_desk_value, packed_desk}
use Rattle.desk_c.specs.declared.Job.{Job}
use Rattle.desk_c.specs.declared.Written.{Written}
use Rattle.desk_c.specs.declared.Done.{Done}
use Rattle.desk_c.specs.declared.serving.Served.{Served}

-- the bytes of a desk in C: 16 for the size of each block, 4 for the letter with what fills it up, 4 for the station and for each count,
-- 2 for each station's rights and for the sum of pairs, and 8 for each word; tests/headers compares it with what C says
abbrev pub desk_size : ℕ
desk_size = block_count * 16 + 4 + (4 * (1 + 8) + 2 * (7 + 1)) + columns_size * 8

-- "those of E for a column add ⇥F or ⇥T (from, to)": the letter, or 0
abbrev pub column_byte : Option Letter → ℕ
column_byte none = 0
column_byte (some c) = letter_byte c

-- the bytes that a call wrote, or its refusal
abbrev pub written_of : Outcome ℕ → Written
written_of (refuse n c) = record { number = n; column = column_byte c; length = 0 }
written_of (pass k) = record { number = 0; column = 0; length = k }

-- the number of a reply `ok⇥` and a number
abbrev pub reply_number : Reply → ℕ
reply_number silent = 0
reply_number ok = 0
reply_number (ok_number n) = n
reply_number (ok_image w place) = 0
reply_number (ok_block ls) = 0
reply_number (lists b p) = 0
reply_number (surveys hs) = 0
reply_number (refuses n c) = 0

abbrev pub done_of : Outcome Reply → Done
done_of (refuse n c) = record { number = n; column = column_byte c; value = 0 }
done_of (pass p) = record { number = 0; column = 0; value = reply_number p }

-- X, where its splits have as many digits as a line has for them: "s one or two digits" (change request E3)
abbrev pub exercise_record : Job → Outcome Record
exercise_record j =
    elim
    (has_digits max_splits_numeral j.splits) [
      | true ↦ pass (X j.a j.b j.c j.splits j.seed)
      | false ↦ refuse no_record none
    ]

-- the record without text that a job is, by its letter
abbrev pub job_record : Job → Outcome Record
job_record j =
    elim (eqb j.letter (byte "P")) [
      | true ↦ pass (P j.a j.b j.c)
      | false ↦
          elim (eqb j.letter (byte "E")) [
            | true ↦ pass E
            | false ↦
                elim (eqb j.letter (byte "F")) [
                  | true ↦ pass (F j.a j.b j.c)
                  | false ↦
                      elim (eqb j.letter (byte "I")) [
                        | true ↦ pass (I j.a j.b)
                        | false ↦
                            elim (eqb j.letter (byte "K")) [
                              | true ↦ pass (K j.a j.k j.b)
                              | false ↦
                                  elim (eqb j.letter (byte "S")) [
                                    | true ↦ pass (S j.a j.b)
                                    | false ↦
                                        elim (eqb j.letter (byte "C")) [
                                          | true ↦ pass (C j.a)
                                          | false ↦
                                              elim (eqb j.letter (byte "T")) [
                                                | true ↦ pass T
                                                | false ↦
                                                    elim (eqb j.letter (byte "X")) [
                                                      | true ↦ exercise_record j
                                                      | false ↦
                                                          elim (eqb j.letter (byte "Z")) [
                                                            | true ↦ pass (Z j.a)
                                                            | false ↦
                                                                elim (eqb j.letter (byte "G")) [
                                                                  | true ↦ grant_by j.a j.b j.c
                                                                  | false ↦
                                                                      elim (eqb j.letter (byte "H")) [
                                                                        | true ↦ pass H
                                                                        | false ↦ refuse no_record none
                                                                      ]
                                                                ]
                                                          ]
                                                    ]
                                              ]
                                        ]
                                  ]
                            ]
                      ]
                ]
          ]
    ]

-- what it does on a desk
unfoldable pub job_work : Job → Work
job_work j d = job_record j >>= operation d

-- a line's call on a desk: what it leaves of the desk and of the buffer, and its answer
abbrev pub line_call : DeskOf → Bytes → Bytes → DeskOf × Lent
line_call d line out = lent_call d (λ x. line_operation x line) out

-- the same with the desk as a value
abbrev pub lent_of : DeskOf × Lent → Served Written
lent_of call = record { desk = packed_desk call.0; answer = written_of call.1.answer }

pub record LentBy (call : DeskOf × Lent) (r : Served Written) (out' : Bytes) : Type 0 where
  pub left : r ≡ lent_of call
  pub buffer : out' ≡ call.1.buffer

-- a refusal, and a desk beside it
abbrev pub refused_with : Desk → ℕ → ℕ → Served Written
refused_with d number column = record { desk = d; answer = record { number = number; column = column; length = 0 } }

-- What a line's call leaves of a value, and its answer. "15 before all these: a plan or desk handed in isn't one as described above; such a
-- desk .. is left as it came."
unfoldable pub served : Bytes → Desk → Bytes → Served Written
served line d out = elim (is_desk_value d) [ true ↦ lent_of (line_call (desk_in d) line out) | false ↦ refused_with d invalid_value 0 ]

-- and of the buffer
unfoldable pub buffer_after : Bytes → Desk → Bytes → Bytes
buffer_after line d out = elim (is_desk_value d) [ true ↦ (line_call (desk_in d) line out).1.buffer | false ↦ out ]

pub record ServedBy (line : Bytes) (d : Desk) (out : Bytes) (r : Served Written) (out' : Bytes) : Type 0 where
  pub left : r ≡ served line d out
  pub buffer : out' ≡ buffer_after line d out

-- a call that is lent nothing, with the desk as a value
abbrev pub plain_of : DeskOf × Outcome Reply → Served Done
plain_of call = record { desk = packed_desk call.0; answer = done_of call.1 }

-- What such a call leaves of a value, and its answer.
unfoldable pub worked : Work → Desk → Served Done
worked work d =
    elim
    (is_desk_value d) [
      | true ↦ plain_of (plain_call (desk_in d) work)
      | false ↦ record { desk = d; answer = done_of (refuse invalid_value none) }
    ]

desk_size_example : desk_size ≡ 18_632
desk_size_example = refl

-- E refused for its to column, and a job done
written_of_example : map written_of (refuse 7 (some Letter.T) ∷ pass 5 ∷ [])
    ≡ record { number = 7; column = 84; length = 0 } ∷ record { number = 0; column = 0; length = 5 } ∷ []
written_of_example = refl

abbrev job_with : ℕ → ℕ → Job
job_with splits letter = record { letter = letter; a = 65; b = 66; c = 67; k = pos 2; seed = 1; splits = splits }

abbrev job : ℕ → Job
job letter = job_with 3 letter

-- K⇥A⇥2⇥B; X by its numbers; Z with a number that is no digit; G with a right above 2; H; M is none of them
job_record_example : map (λ b. job_record (job b)) (byte "K" ∷ byte "X" ∷ byte "Z" ∷ byte "G" ∷ byte "H" ∷ byte "M" ∷ [])
    ≡ pass (K 65 (pos 2) 66) ∷ pass (X 65 66 67 3 1) ∷ pass (Z 65) ∷ refuse 1 none ∷ pass H ∷ refuse 1 none ∷ []
unfolding max_splits_numeral
job_record_example = refl

-- X with splits of two digits, and of three
exercise_record_example : map (λ s. exercise_record (job_with s (byte "X"))) (99 ∷ 100 ∷ []) ≡ pass (X 65 66 67 99 1) ∷ refuse 1 none ∷ []
unfolding max_splits_numeral
exercise_record_example = refl

-- T on a fresh desk, with room for its reply and with too little
served_example : map (served (bytes "T") (packed_desk fresh_desk)) (bytes "......." ∷ bytes "...." ∷ [])
    ≡ record { desk = packed_desk fresh_desk; answer = record { number = 0; column = 0; length = 5 } }
    ∷ refused_with (packed_desk fresh_desk) 14 0
    ∷ []
unfolding served is_desk_value desk_in packed_desk desk_of value_at holds_test sizes_sum in_table packed blank max_pairs slot_count station_count
    max_changes max_right are_rights is_control fresh_desk dropped lent_call lent is_desk line_operation operation admission job_of kind parse
    grammar max_line reply_bytes ◌>>=◌
served_example = refl

buffer_example : map (buffer_after (bytes "T") (packed_desk fresh_desk)) (bytes "......." ∷ bytes "...." ∷ [])
    ≡ bytes "ok\t0\n.." ∷ bytes "...." ∷ []
unfolding buffer_after is_desk_value desk_in packed_desk desk_of value_at holds_test sizes_sum in_table packed blank max_pairs slot_count station_count
    max_changes max_right are_rights is_control fresh_desk dropped lent_call lent is_desk line_operation operation admission job_of kind parse
    grammar max_line reply_bytes ◌>>=◌
buffer_example = refl

-- S of two empty slots: 9
worked_example : worked (job_work (job (byte "S"))) (packed_desk fresh_desk)
    ≡ record { desk = packed_desk fresh_desk; answer = record { number = 9; column = 0; value = 0 } }
unfolding worked job_work is_desk_value desk_in packed_desk desk_of value_at holds_test sizes_sum in_table packed blank max_pairs slot_count
    station_count max_changes max_right are_rights is_control fresh_desk dropped plain_call is_desk operation admission job_of kind needed_right ◌>>=◌
worked_example = refl

-- a value with a letter that is no slot's is no desk: 15, and it is left as it came
abbrev no_desk : Desk
no_desk = record { blocks = []; opened = 1; control = control_in fresh_control; columns = [] }

no_desk_example : (served (bytes "T") no_desk (bytes ".......") ≡ refused_with no_desk 15 0)
    × (buffer_after (bytes "T") no_desk (bytes ".") ≡ bytes ".")
unfolding served buffer_after is_desk_value slot_count
no_desk_example = (refl, refl)
