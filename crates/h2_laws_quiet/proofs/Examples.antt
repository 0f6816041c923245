-- Worked examples of the work that is left, of driving, and of what could go. Each computes.
use Rattle.std.proofs.Common.{◌≡◌, ℕ, zero, suc, ◌≤◌, ◌%◌, ◌==◌, true, false, List, [], ◌∷◌, None}
use Rattle.std.proofs.Common.{Some, length, refl, sym, subst, arith, pos, negsuc}
use Rattle.std.proofs.lemmas.Bool.{both_ways}
use Rattle.h2_frame.specs.Frames.{Data, Settings, Ping, WindowUpdate, Reset}
unfoldable use Rattle.h2_frame.specs.Encoding.{payload_of}
use Rattle.h2_block.specs.Grouping.{Item, alone, block}
use Rattle.h2_spec_log.specs.declared.role.Role.{Role}
use Rattle.h2_spec_log.specs.declared.role.Role.TheVariants.{Client, Server}
use Rattle.h2_spec_log.specs.Acts.{Values, Open, Number, Release, ResetStream, SendPing}
use Rattle.h2_spec_log.specs.Events.{DataEvent}
unfoldable use Rattle.h2_spec_log.specs.Items.{data_of, one_ping, total, greatest_block}
unfoldable use Rattle.h2_spec_log.specs.Settings.{one_settings}
use Rattle.h2_spec_log.specs.Log.{Log, granted, send_window}
unfoldable use Rattle.h2_spec_log.specs.Log.{widened}
unfoldable use Rattle.h2_spec_log.specs.Log.{owed}
unfoldable use Rattle.h2_spec_log.specs.LogCalls.{opened}
use Rattle.h2_spec_log.specs.LogCalls.{before_opening}
unfoldable use Rattle.h2_spec_log.specs.LogSteps.{with_sent}
unfoldable use Rattle.h2_spec_log.specs.States.{is_active}
use Rattle.h2_spec_log.specs.Settings.{value_read}
use Rattle.h2_spec_log.specs.Windows.{first_window, connection_send_window}
unfoldable use Rattle.h2_spec_log.proofs.Computing.{computing}
use Rattle.h2_message.specs.Messages.{SentMessage}
unfoldable use Rattle.h2_laws_log.specs.Sums.{sum_below}
use Rattle.h2_laws_log.proofs.ReaderStates.{active_parts}
use Rattle.h2_laws_log.proofs.StreamNumbers.{block_below}
use Rattle.h2_laws_pair.specs.Quiet.{CouldGo}
use Rattle.h2_laws_pair.specs.Tokens.{OctetToken, FieldsToken, EndToken, at_once}
unfoldable use Rattle.h2_laws_pair.specs.Tokens.{end_tokens, trailers_tokens, said_tokens}
unfoldable use Rattle.h2_laws_pair.specs.Tokens.{tokens_of_call, tokens_sent}
use Rattle.h2_laws_pair.proofs.examples.ChangedWindow.{delivered_pair, released_pair}
unfoldable use Rattle.h2_laws_pair.proofs.examples.Moves.{after_move, after_moves}
use Rattle.h2_ends.specs.Ends.{EndLog, tokens_waiting}
unfoldable use Rattle.h2_ends.specs.Ends.{said_for, tokens_given}
unfoldable use Rattle.h2_ends.specs.EndCalls.{octets_among, unsent_on}
use Rattle.h2_ends.specs.Represents.{new_end_log}
use Rattle.h2_joined.specs.Joints.{Requests, Calls, Pumps}
unfoldable use Rattle.h2_laws_quiet.specs.Driving.{IsDriving}
use Rattle.h2_laws_quiet.specs.Going.{most_sendable}
unfoldable use Rattle.h2_laws_quiet.specs.MostRounds.{shares}
use Rattle.h2_laws_quiet.specs.MostRounds.{most_rounds}
use Rattle.h2_laws_quiet.specs.OpenWindows.{HasOpenWindows}
use Rattle.h2_laws_quiet.specs.Room.{CreditHasRoom, streams_owed, window_ahead}
unfoldable use Rattle.h2_laws_quiet.specs.Work.{tokens_on}
use Rattle.h2_laws_quiet.specs.Work.{work_of_item, work_under_way, work_left}

-- An empty DATA, a WINDOW_UPDATE and an answer to a PING are read, and nothing comes of them.
empty_data : work_of_item (alone (Data 1 true [] None)) ≡ 1
unfolding data_of payload_of one_ping one_settings
empty_data = refl

more_window : work_of_item (alone (WindowUpdate 0 100)) ≡ 1
unfolding data_of one_ping one_settings
more_window = refl

answer : work_of_item (alone (Ping true (1 ∷ 2 ∷ 3 ∷ 4 ∷ 5 ∷ 6 ∷ 7 ∷ 8 ∷ []))) ≡ 1
unfolding data_of one_ping one_settings
answer = refl

-- A PING and SETTINGS are read and answered.
question : work_of_item (alone (Ping false (1 ∷ 2 ∷ 3 ∷ 4 ∷ 5 ∷ 6 ∷ 7 ∷ 8 ∷ []))) ≡ 2
unfolding data_of one_ping one_settings
question = refl

settings : work_of_item (alone (Settings false ((4, 100) ∷ []))) ≡ 2
unfolding data_of one_ping one_settings
settings = refl

-- DATA of three octets is read, and its credit goes back; padding and its length count (RFC 9113,
-- section 6.1).
three_octets : work_of_item (alone (Data 1 false (104 ∷ 101 ∷ 121 ∷ []) None)) ≡ 7
unfolding data_of payload_of one_ping one_settings
three_octets = refl

padded : work_of_item (alone (Data 1 false (104 ∷ 101 ∷ 121 ∷ []) (Some 2))) ≡ 13
unfolding data_of payload_of one_ping one_settings
padded = refl

-- Between two new ends the SETTINGS of both are under way, and each is to be answered.
new_ends : (client_values server_values : Values)
    → work_left (new_end_log Client client_values) (new_end_log Server server_values) ≡ 4
unfolding data_of one_ping one_settings total greatest_block owed sum_below tokens_on opened
    with_sent is_active
new_ends client_values server_values = refl

-- An acknowledgment of SETTINGS is read, and nothing comes of it.
acknowledged : work_of_item (alone (Settings true [])) ≡ 1
unfolding data_of one_ping one_settings
acknowledged = refl

-- a client's log in which these items were read and written, the newest first
abbrev log_of : (received sent : List Item) → Log
log_of received sent = record (before_opening Client) { received = received; sent = sent }

abbrev three_sent : Item
three_sent = alone (Data 1 false (104 ∷ 101 ∷ 121 ∷ []) None)

-- SETTINGS with this initial window
abbrev window_of : ℕ → Item
window_of n = alone (Settings false ((4, n) ∷ []))

-- What was received isn't under way any more: SETTINGS and DATA of three octets were sent, and the
-- SETTINGS were received. Nothing counts that the writer has received, or the reader has sent.
under_way :
    work_under_way (log_of (three_sent ∷ []) (three_sent ∷ window_of 10 ∷ []))
    (log_of (window_of 10 ∷ []) (three_sent ∷ [])) ≡ 7
unfolding total data_of payload_of one_ping one_settings
under_way = refl

-- a client that has sent five octets on a stream whose initial window is 0 now
abbrev below_none : Log
below_none =
    log_of (alone (WindowUpdate 0 5) ∷ window_of 0 ∷ [])
    (alone (Data 1 false (1 ∷ 2 ∷ 3 ∷ 4 ∷ 5 ∷ []) None) ∷ [])

-- A window below 0 lets nothing through, whatever the connection's is.
none_sendable :
    (send_window below_none 1 ≡ negsuc 4)
    × (connection_send_window below_none.received below_none.sent ≡ pos 65535)
    × (most_sendable below_none 1 ≡ 0)
unfolding computing
none_sendable = (refl, refl, refl)

-- Of the stream's window and the connection's the smaller one counts, whichever it is,
smaller_sendable :
    (most_sendable (log_of (window_of 10 ∷ []) []) 1 ≡ 10)
    × (most_sendable (log_of (window_of 100000 ∷ []) []) 1 ≡ 65535)
unfolding computing
smaller_sendable = (refl, refl)

-- and no more than 65,536 octets go where both are 100,000.
at_most_sendable :
    most_sendable (log_of (alone (WindowUpdate 0 34465) ∷ window_of 100000 ∷ []) []) 1 ≡ 65536
unfolding computing
at_most_sendable = refl

-- Where a stream's window is 0 no octet could go, but trailers could, and the end; at 1 an octet
-- could.
octet_could_not : CouldGo (log_of (window_of 0 ∷ []) []) 1 (OctetToken 104) → ⊥
unfolding computing
octet_could_not could = both_ways false refl could.0

others_could :
    CouldGo (log_of (window_of 0 ∷ []) []) 1 (FieldsToken [] true)
    × CouldGo (log_of (window_of 0 ∷ []) []) 1 EndToken
    × CouldGo (log_of (window_of 1 ∷ []) []) 1 (OctetToken 104)
unfolding computing
others_could = (tt, tt, (refl, refl))

-- a request with a body of three octets
abbrev asking : SentMessage
asking = record { head = []; body = 104 ∷ 101 ∷ 121 ∷ []; trailers = None }

-- A release drives two ends on; a reset, a PING and a request don't.
driving :
    IsDriving (Calls (Release 1 5)) × IsDriving Pumps × (IsDriving (Calls (ResetStream 1 8)) → ⊥)
    × (IsDriving (Calls (SendPing [])) → ⊥) × (IsDriving (Requests asking) → ⊥)
unfolding IsDriving
driving = (tt, tt, λ is. is, λ is. is, λ is. is)

-- a client that was given that request to send on stream 1 and has sent its head
abbrev asked_of : Log → EndLog
asked_of log = record {
  log = record log { calls = (Open [] false, Number 1) ∷ [] };
  accepted = (1, at_once asking) ∷ [];
  handed = [];
  turn = record { id = 0; rest = 0 };
  malformed = None;
}

-- Two octets of an answer were reported to it, and of what was discarded one isn't returned.
abbrev asked_end : EndLog
asked_end = asked_of (record (log_of (alone (Data 1 false (1 ∷ 2 ∷ []) None) ∷ [])
    (block 1 false [] ∷ []))
    { reported = DataEvent 1 (1 ∷ 2 ∷ []) 2 false ∷ []; unreturned = 1 })

-- the same after a reset of the stream
abbrev reset_end : EndLog
reset_end = asked_of (record (log_of (alone (Data 1 false (1 ∷ 2 ∷ []) None) ∷ [])
    (alone (Reset 1 8) ∷ block 1 false [] ∷ []))
    { reported = DataEvent 1 (1 ∷ 2 ∷ []) 2 false ∷ []; unreturned = 1 })

-- the server, which has read all that the client has sent but a reset, and has no more to say
abbrev answering_end : EndLog
answering_end = record (new_end_log Server (record {
  table_limit = 4096;
  initial_window = 65535;
  max_streams = 100;
  max_frame = 16384;
})) {
  log = record (before_opening Server) {
    received = block 1 false [] ∷ [];
    sent = alone (Data 1 false (1 ∷ 2 ∷ []) None) ∷ [];
  };
}

-- The three octets wait and the end, as long as the stream is active. On a stream that isn't no
-- token counts, though the rest of the message was not sent.
four_tokens :
    (tokens_on asked_end 1 ≡ 4) × (tokens_on reset_end 1 ≡ 0)
    × (tokens_waiting reset_end 1
    ≡ OctetToken 104 ∷ OctetToken 101 ∷ OctetToken 121 ∷ EndToken ∷ [])
unfolding computing tokens_on end_tokens trailers_tokens said_tokens tokens_of_call tokens_sent
    said_for tokens_given
four_tokens = (refl, refl, refl)

-- 3 for each of these four tokens, and 2 for each of the two octets that are owed and the one that
-- is not returned. After the reset that one is left, and the reset is under way.
left_at_ends :
    (work_left asked_end answering_end ≡ 18) × (work_left reset_end answering_end ≡ 3)
unfolding computing tokens_on end_tokens trailers_tokens said_tokens tokens_of_call tokens_sent
    said_for tokens_given sum_below
left_at_ends = (refl, refl)

-- Octets are cut into shares of a window: the last one may be less.
cut :
    (shares 11 5 11 ≡ 3) × (shares 10 5 10 ≡ 2) × (shares 3 65535 3 ≡ 1) × (shares 0 5 0 ≡ 0)
unfolding shares
cut = (refl, refl, refl, refl)

-- The window counts that the reader has set last, whatever it has received; and 65,535 of a
-- greater one.
ahead :
    (window_ahead (log_of (window_of 7 ∷ []) (window_of 10 ∷ window_of 20 ∷ [])) ≡ 10)
    × (window_ahead (log_of [] (window_of 100000 ∷ [])) ≡ 65535)
    × (window_ahead (log_of (window_of 7 ∷ []) []) ≡ 65535)
unfolding computing
ahead = (refl, refl, refl)

-- The three octets are one share, and they and the end are two pieces: 6 rounds and 10. After the
-- reset nothing waits on the stream.
rounds_at_ends :
    (most_rounds asked_end answering_end ≡ 16) × (most_rounds reset_end answering_end ≡ 10)
unfolding computing tokens_on end_tokens trailers_tokens said_tokens tokens_of_call tokens_sent
    said_for tokens_given sum_below shares unsent_on octets_among
rounds_at_ends = (refl, refl)

-- a request with a body of five octets and trailers
abbrev trailing : SentMessage
trailing = record { head = []; body = 1 ∷ 2 ∷ 3 ∷ 4 ∷ 5 ∷ []; trailers = Some [] }

-- a client that was given that request and has sent its head, and the server, whose initial window
-- is 2
abbrev trailing_end : EndLog
trailing_end = record (asked_of (log_of [] (block 1 false [] ∷ [])))
    { accepted = (1, at_once trailing) ∷ [] }

abbrev narrow_end : EndLog
narrow_end = record answering_end {
  log = record (before_opening Server) {
    received = block 1 false [] ∷ [];
    sent = window_of 2 ∷ [];
  };
}

-- The five octets are three shares of two, and one piece; the trailers and the end are two more.
rounds_by_a_narrow_window : most_rounds trailing_end narrow_end ≡ 22
unfolding computing tokens_on end_tokens trailers_tokens said_tokens tokens_of_call tokens_sent
    said_for tokens_given sum_below shares unsent_on octets_among
rounds_by_a_narrow_window = refl

-- A client that owes nothing has room for its credit; one whose output is full has none.
has_room : CreditHasRoom (log_of [] [])
unfolding computing
has_room = record { output = omega arith; none_unreturned = refl }

full_has_none : (octets : List ℕ) → length octets ≡ 65536
    → CreditHasRoom (record (log_of [] []) { written = octets }) → ⊥
unfolding computing
full_has_none octets full room = absurd (omega (arith, full, room.output))

-- Octets are owed on one stream, and after the reset on none; one octet is unreturned in both, so
-- neither has room.
owed_there :
    (streams_owed asked_end.log ≡ 1) × (streams_owed reset_end.log ≡ 0)
    × (CreditHasRoom asked_end.log → ⊥) × (CreditHasRoom reset_end.log → ⊥)
unfolding computing
owed_there = (
  refl,
  refl,
  λ room. absurd (omega (arith, room.none_unreturned)),
  λ room. absurd (omega (arith, room.none_unreturned)),
)

-- A number that is odd and 1 at most is 1.
only_first : (i : ℕ) → i ≤ 1 → i % 2 == 1 ≡ true → i ≡ 1
only_first zero low odd = absurd (both_ways false refl odd)
only_first (suc zero) low odd = refl
only_first (suc (suc i)) low odd = absurd (omega (arith, low))

-- A client that has opened one stream at most, 1, has open windows where that one's is, and the
-- connection's.
open_by : (log theirs : Log) → log.role ≡ Client → greatest_block log.sent ≤ 1
    → connection_send_window log.received log.sent ≡ pos (granted theirs)
    → send_window log 1 ≡ pos (value_read 4 first_window log.received)
    → 1 ≤ value_read 4 first_window log.received → HasOpenWindows log theirs
open_by log theirs client low connection here some = record {
  connection = connection;
  streams = λ i alive goes_on.
      let parts = active_parts Client i log.received log.sent log.reported
      (subst (λ (role : Role). is_active role i log.received log.sent log.reported ≡ true) client
      alive) in
      let below = block_below i log.sent parts.opened in
      subst (λ (j : ℕ). send_window log j ≡ pos (value_read 4 first_window log.received))
      (sym (only_first i (omega (arith, below, low)) parts.odd)) here;
  some = some;
}

-- The windows of the client whose server has changed its initial window to 10 are open once all is
-- released; before that its stream's window is below 0.
changed_open : HasOpenWindows released_pair.client.log released_pair.server.log
unfolding computing after_move after_moves widened
changed_open = open_by released_pair.client.log released_pair.server.log refl (omega arith) refl refl (omega arith)

changed_closed : HasOpenWindows delivered_pair.client.log delivered_pair.server.log → ⊥
unfolding computing after_move after_moves
changed_closed opened_all = let here = opened_all.streams 1 refl refl in cc
