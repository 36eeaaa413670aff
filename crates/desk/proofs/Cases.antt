-- The sessions of specs/Cases.antt, each by computing.
use mathlib.Core.Path.{refl}
use Rattle.higman.specs.Normal.{joined, normal, normal_form, keep, compose, inverse, identity}
use Rattle.higman.specs.Limits.{max_pairs, max_digits, max_code, max_power, shape_in_range, granted, is_code, is_plan_word, slot_count}
use Rattle.higman.specs.Text.{digit_of}
use Rattle.higman.specs.Answers.{verdict, followed, inverted, raised, powered, same, routed}
use Rattle.higman.specs.Places.{place_of, placed_block}
use Rattle.desk.specs.Limits.{station_count, max_right, max_changes, max_line, max_numeral}
use Rattle.desk.specs.Desk.{fresh_desk, seen, changed, with_draft, dropped, at_station, with_right}
use Rattle.desk.specs.Records.{grammar, parse, needed_right, kind, right_number}
use Rattle.desk.specs.Replies.{◌>>=◌, job, surveyed, operation, admission, line_operation, respond_line, run}
use Rattle.desk.specs.Bytes.{reply_bytes}
use Rattle.desk.specs.Session.{session}
use Rattle.desk.specs.Cases.{star_sessions, other_sessions, survey_sessions, DeskCases, rights_sessions}

pub desk_cases : DeskCases
unfolding star_sessions other_sessions survey_sessions rights_sessions session run reply_bytes ◌>>=◌ respond_line line_operation operation
    admission job surveyed seen kind needed_right parse grammar fresh_desk changed with_draft dropped at_station with_right right_number slot_count
    station_count max_right max_changes max_line max_numeral is_plan_word digit_of max_pairs max_digits max_code max_power shape_in_range granted is_code
    verdict followed inverted raised powered same routed place_of placed_block keep compose inverse identity normal_form normal joined
desk_cases =
    record {
      star = (refl, (refl, (refl, (refl, (refl, (refl, (refl, (refl, (refl, (refl, tt))))))))));
      others = (refl, (refl, (refl, (refl, (refl, (refl, (refl, (refl, (refl, tt)))))))));
      survey = (refl, (refl, (refl, tt)));
      rights = (refl, (refl, tt));
    }
