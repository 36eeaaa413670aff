-- The term of StationsApart, of specs/Sights.antt.
use Rattle.desk.specs.Sights.{StationsApart}
use Rattle.desk.proofs.Turns.{whole_turns_lem, turns_whole, senders_named}
use Rattle.desk.proofs.Rebuilt.{same_sight}
use Rattle.desk.proofs.Apart.{replied, same_replies, seen_then, unseen}

pub stations_apart : StationsApart
stations_apart =
    record {
      same_replies = same_replies;
      replied = replied;
      unseen = unseen;
      sighted = seen_then;
      no_more_fact = same_sight;
      whole = λ d ls. (whole_turns_lem d ls, turns_whole d ls);
      senders = senders_named;
    }
