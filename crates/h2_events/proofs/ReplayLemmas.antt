-- An end after pieces were handed to it, and what that reports of the octets.
use Rattle.std.proofs.Common.{◌≡◌, ◌≢◌, ℕ, List, [], ◌∷◌, ◌++◌, take, drop, Option, Some, None}
use Rattle.std.proofs.Common.{Result, Ok, Err, IfOk, IfSome, refl, sym, subst, append-nil}
use Rattle.std.proofs.Common.{arith}
use Rattle.std.specs.Io.KnownBytes.{Consumes, IsAtEnd}
use Rattle.std.proofs.KnownBytes.{Consumes-trans, Consumes-whole}
use Rattle.h2_frame.specs.declared.code.Code.{Code}
use Rattle.h2_frame.specs.declared.code.Code.TheVariants.{InternalError}
use Rattle.h2_show.specs.declared.show.Shown.{Shown}
use Rattle.h2_spec_log.specs.declared.role.Role.{Role}
use Rattle.h2_spec_log.specs.Acts.{Values, AreInRange, TakeCalled, TakeAnswered}
use Rattle.h2_spec_log.specs.Log.{Log}
use Rattle.h2_spec_log.specs.LogCalls.{opened}
use Rattle.h2_spec_log.specs.LogSteps.{with_sent}
use Rattle.h2_laws_end.specs.Replays.{TakesAll, is_done, goes_on, has_fault}
use Rattle.h2_laws_end.specs.Replays.{starts, takes}
use Rattle.h2_laws_end.specs.Replays.{octets_of_acts}
use Rattle.h2_laws_end.proofs.TakeAnswers.{log_after_take}
use Rattle.h2_flow.specs.declared.config.Config.{Config}
use Rattle.h2_flow.specs.ConfigValues.{values_of}
use Rattle.h2_conn.specs.declared.conn.Conn.{Conn}
use Rattle.h2_conn.specs.Conn.{ConnRepresents}
use Rattle.h2_events.specs.Replayer.{first_values, EndReplays, HandsPiece, joined_pieces}
use Rattle.h2_events.specs.Report.{IsReplayOf, TakesInput, FailsInInput, ReplayReports}
use Rattle.h2_events.specs.Report.{ReplayReportsOctets, replay_status}
use Rattle.h2_laws_end.proofs.ReplayedLogs.{adds_all as turns_added}

-- The connection has failed with the code of a fault that is met in them, and with none otherwise.
failed_after : (log after : Log) (octets : List ℕ) (fault : Option Code)
    → TakesAll log octets fault after → after.failed ≡ fault
failed_after log after _ _ (is_done octets may) =
    let (prefix, unused, joined_pieces, much, input, reported, up) =
    log_after_take log after octets _ may in up
failed_after log after _ _ (goes_on {between = between} octets count event fault may more others) =
    failed_after between after (drop count octets) fault others
failed_after log after _ _ (has_fault octets code may) =
    let (prefix, unused, joined_pieces, input, reported, failed) =
    log_after_take log after octets _ may in failed

-- a replay of pieces with one more is one of all of them
taken_after : (role : Role) (pieces : List (List ℕ)) (old new : Conn) (piece : List ℕ)
    (fault : Option Code) → EndReplays role pieces old → HandsPiece old piece fault new
    → (log : Log) × IsReplayOf role (joined_pieces pieces ++ piece) log
    × (log.failed ≡ fault)
unfolding octets_of_acts
taken_after role pieces old new piece fault before takes_piece =
    let (after, all, represents) = takes_piece first_values before.log before.represents in
    let added = turns_added before.log after piece fault all in (
      after,
      record {
        pieces = piece ∷ pieces;
        turns = TakeAnswered fault ∷ added.news ++ TakeCalled piece ∷ before.turns;
        replay = takes before.replay piece fault all added.news added.turns;
        all = refl;
      },
      failed_after before.log after piece fault all,
    )

-- the first values are within their bounds
first_in_range : AreInRange first_values
first_in_range =
    record {
      table_limit = omega arith;
      least_window = omega arith;
      initial_window = omega arith;
      least_streams = omega arith;
      max_streams = omega arith;
      least_frame = omega arith;
      max_frame = omega arith;
    }

-- no piece was handed to a new end
pub replays_none : (role : Role) (conn : Conn)
    → ConnRepresents first_values conn (opened role first_values) → EndReplays role [] conn
unfolding opened with_sent
replays_none role conn represents =
    record {
      log = opened role first_values;
      turns = (opened role first_values).turns;
      represents = represents;
      replay = starts first_in_range;
      up = refl;
    }

-- a piece more
pub replays_more : (role : Role) (pieces : List (List ℕ)) (old new : Conn) (piece : List ℕ)
    → EndReplays role pieces old → HandsPiece old piece None new
    → EndReplays role (piece ∷ pieces) new
replays_more role pieces old new piece before takes_piece =
    let (after, all, represents) = takes_piece first_values before.log before.represents in
    let added = turns_added before.log after piece None all in
    record {
      log = after;
      turns = TakeAnswered None ∷ added.news ++ TakeCalled piece ∷ before.turns;
      represents = represents;
      replay = takes before.replay piece None all added.news added.turns;
      up = failed_after before.log after piece None all;
    }

-- what an end that hasn't failed reports of the octets of its pieces
pub takes_input : (role : Role) (pieces : List (List ℕ)) (conn : Conn) → EndReplays role pieces conn
    → TakesInput role (joined_pieces pieces)
takes_input role pieces conn now =
    record {
      log = now.log;
      replay = record { pieces = pieces; turns = now.turns; replay = now.replay; all = refl };
      up = now.up;
    }

-- what an end that fails in a piece reports of the octets, whatever follows
pub fails_in_input : (role : Role) (pieces : List (List ℕ)) (old new : Conn)
    (piece more : List ℕ) (code : Code) → EndReplays role pieces old
    → HandsPiece old piece (Some code) new → code ≢ InternalError
    → FailsInInput role ((joined_pieces pieces ++ piece) ++ more) code
fails_in_input role pieces old new piece more code before takes_piece theirs =
    let (log, replay, failed) = taken_after role pieces old new piece (Some code) before takes_piece
    in
    record {
      taken = joined_pieces pieces ++ piece;
      unread = more;
      split = refl;
      log = log;
      replay = replay;
      failed = failed;
      theirs = theirs;
    }

-- at the end of the input
pub end_reports : (role : Role) (pieces : List (List ℕ)) (conn : Conn)
    (before mid after : Option (List ℕ)) (buffer : List ℕ) (count : ℕ)
    → Consumes before mid (joined_pieces pieces) → Consumes mid after (take count buffer)
    → count ≡ 0
    → IsAtEnd after → EndReplays role pieces conn
    → IfSome before (λ octets. ReplayReports role octets None)
end_reports role pieces conn before mid after buffer count first none zero end now =
    let all : Consumes before after (joined_pieces pieces) =
    subst (Consumes before after) (append-nil (joined_pieces pieces))
    (Consumes-trans before mid after (joined_pieces pieces) [] first
    (subst (λ (n : ℕ). Consumes mid after (take n buffer)) zero none)) in
    Consumes-whole before after (joined_pieces pieces)
    (λ octets. ReplayReports role octets None) all end
    (takes_input role pieces conn now)

-- where the connection fails in a piece
pub fault_reports : (role : Role) (pieces : List (List ℕ)) (old new : Conn)
    (before after : Option (List ℕ)) (piece : List ℕ) (code : Code)
    → Consumes before after (joined_pieces pieces ++ piece) → EndReplays role pieces old
    → HandsPiece old piece (Some code) new → code ≢ InternalError
    → IfSome before (λ octets. ReplayReports role octets (Some code))
fault_reports role pieces old new None after piece code read now takes_piece theirs = tt
fault_reports role pieces old new (Some all) None piece code read now takes_piece theirs =
    absurd read
fault_reports role pieces old new (Some all) (Some left) piece code read now takes_piece theirs =
    subst (λ (octets : List ℕ). FailsInInput role octets code) (sym read)
    (fails_in_input role pieces old new piece left code now takes_piece theirs)

-- the status reports what came of the octets
pub status_reports : (role : Role) (octets : List ℕ) (fault : Option Code)
    → ReplayReports role octets fault → ReplayReportsOctets role octets (replay_status fault)
status_reports role octets None reports = reports
status_reports role octets (Some code) reports = (code, reports)

-- the values of the default configuration
pub values_first : (config : Config) → config.table_limit ≡ 4096 → config.initial_window ≡ 65535
    → config.max_streams ≡ 100 → config.max_frame ≡ 16384 → values_of config ≡ first_values
values_first config table window streams frame = rw (table, window, streams, frame) refl

-- a new end, if it could be made
pub new_replays : {E : Type 0} (role : Role) (config : Config) (result : Result Conn E)
    → (config.table_limit ≡ 4096) × (config.initial_window ≡ 65535)
    × (config.max_streams ≡ 100) × (config.max_frame ≡ 16384)
    → IfOk result (λ conn. ConnRepresents (values_of config) conn (opened role (values_of config)))
    → IfOk result (EndReplays role [])
new_replays role config (Err error) values represents = tt
new_replays role config (Ok conn) (table, window, streams, frame) represents =
    replays_none role conn
    (subst (λ (values : Values). ConnRepresents values conn (opened role values))
    (values_first config table window streams frame) represents)

-- one piece that was handed to a new end
pub piece_reports : (role : Role) (old new : Conn) (octets : List ℕ) → EndReplays role [] old
    → HandsPiece old octets None new → ReplayReports role octets None
unfolding octets_of_acts
piece_reports role old new octets before takes_piece =
    takes_input role (octets ∷ []) new (replays_more role [] old new octets before takes_piece)

-- one piece in which a new end fails
pub piece_fails : (role : Role) (old new : Conn) (octets : List ℕ) (code : Code)
    → EndReplays role [] old → HandsPiece old octets (Some code) new → code ≢ InternalError
    → ReplayReports role octets (Some code)
unfolding octets_of_acts
piece_fails role old new octets code before takes_piece theirs =
    subst (λ (all : List ℕ). FailsInInput role all code) (append-nil octets)
    (fails_in_input role [] old new octets [] code before takes_piece theirs)

-- the status of a result reports what came of the octets
pub result_reports : {E : Type 0} (role : Role) (octets : List ℕ) (fault : Option Code)
    (result : Result Shown E) → ReplayReports role octets fault
    → IfOk result (λ shown. shown.status ≡ replay_status fault)
    → IfOk result (λ shown. ReplayReportsOctets role octets shown.status)
result_reports role octets fault (Err error) reports is = tt
result_reports role octets fault (Ok shown) reports is =
    subst (ReplayReportsOctets role octets) (sym is) (status_reports role octets fault reports)

-- the same of the octets that a reader had
pub result_reports_all : {E : Type 0} (role : Role) (before : Option (List ℕ))
    (fault : Option Code) (result : Result Shown E)
    → IfSome before (λ octets. ReplayReports role octets fault)
    → IfOk result (λ shown. shown.status ≡ replay_status fault)
    → IfOk result (λ shown. IfSome before
    (λ octets. ReplayReportsOctets role octets shown.status))
result_reports_all {E = E} role before fault (Err error) reports is = tt
result_reports_all {E = E} role None fault (Ok shown) reports is = tt
result_reports_all {E = E} role (Some octets) fault (Ok shown) reports is =
    result_reports {E = E} role octets fault (Ok shown) reports is
