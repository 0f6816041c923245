-- Memory that is refused.
use Rattle.std.proofs.Math.ListN.{get_or}
use Rattle.h2_spec_log.specs.CallRules.{sends_no_data}
use Rattle.h2_spec_log.specs.LogCalls.{MayAnswer}
use Rattle.h2_spec_log.specs.Memory.{KeepsOctets, credit_needs_memory, frame_needs_memory}
use Rattle.h2_spec_log.specs.Memory.{needs_memory, step_needs_memory}
use Rattle.h2_spec_log.proofs.Names
use Names.{Some, None, [], false, map, refl, replicate, true, ◌++◌, ◌∷◌, ◌≡◌, ℕ, List, pos, arith}
use Names.{ap, InternalError, NoError, Continuation, Data, GoAway, Headers, Ping, Priority, Reset}
use Names.{Settings, WindowUpdate, Done, Open, OutOfMemory, PutOut, Refuse, Refused, ResetStream}
use Names.{SendData, SendFields, SendPing, DataEvent, FieldsEvent, with_call, log_view, alone}
use Names.{completes, Log, NoEvent, Reported, ◌≤◌, ◌<◌, WrongLength, Unknown, preface}
use Names.{may_fail_for_memory, may_lack_memory, fails, lacks, took_out_of_memory, Memory}
use Rattle.h2_spec_log.proofs.Computing.{computing}
use Rattle.h2_spec_log.proofs.examples.Blocks.{resetting_server}
use Rattle.h2_spec_log.proofs.examples.Ends.{active_octets, active_output, active_server}
use Rattle.h2_spec_log.proofs.examples.Ends.{active_view, new_server, server_with_body}
use Rattle.h2_spec_log.proofs.examples.Ends.{server_with_release}
use Rattle.h2_spec_log.proofs.examples.Refusals.{connection_calls, stream_calls}
use Rattle.h2_spec_log.proofs.examples.Words.{abcd, body_frame, come_to, goaway_frame, one_to_eight}
use Rattle.h2_spec_log.proofs.examples.Words.{get_block, outcome, short_answer, short_request}

-- Out of memory while octets are taken, the connection fails with INTERNAL_ERROR (RFC 9113, section
-- 5.4.1).
out_of_memory_in_take :
    outcome (took_out_of_memory active_server []) ≡ come_to active_octets
    (FieldsEvent 1 short_request false ∷ [])
    (active_output ++ goaway_frame 1 2) (Some InternalError)
unfolding computing
out_of_memory_in_take = refl

-- So it does where a stream is refused.
out_of_memory_in_refuse :
    outcome (with_call (server_with_body false) (Refuse 1 1) OutOfMemory) ≡ come_to
    (active_octets ++ body_frame) (FieldsEvent 1 short_request false ∷ DataEvent 1 abcd 4 false ∷
    [])
    (active_output ++ goaway_frame 1 2) (Some InternalError)
unfolding computing
out_of_memory_in_refuse = refl

-- C12: any other call is refused where an allocation is, and changes nothing. Where a condition
-- holds, that refuses it.
refused_for_memory : MayAnswer active_server (SendPing one_to_eight) (Refused Memory)
unfolding computing
refused_for_memory = lacks refl refl refl

-- Calls that send nothing of a body, or put nothing out, aren't: no octets without the end of the
-- stream; a count of 0, or no output that waits. What is returned first may take memory, unless the
-- connection has failed.
-- rule: calls (own) A call that sends nothing takes no memory
calls_that_take_no_memory :
    (map (may_lack_memory active_view) (SendData 1 [] false ∷ SendData 1 [] true ∷ PutOut 0 ∷ [])
    ≡ false ∷ true ∷ false ∷ [])
    × (map (λ view. may_lack_memory view (PutOut 5)) (record active_view { waiting = 0 }
    ∷ record active_view { waiting = 1 } ∷ record active_view { waiting = 0; unreturned = 3 }
    ∷ record active_view {
      waiting = 0;
      unreturned = 3;
      failed = Some NoError;
    } ∷ [])
    ≡ false ∷ true ∷ true ∷ false ∷ [])
    × (map (λ view. may_lack_memory view (PutOut 0)) (record active_view { unreturned = 3 }
    ∷ record active_view { waiting = 65536; unreturned = 3 } ∷ [])
    ≡ true ∷ false ∷ [])
unfolding computing
calls_that_take_no_memory = (refl, refl, refl)

-- Refusing a stream isn't.
fails_for_memory : MayAnswer (server_with_body false) (Refuse 1 1) OutOfMemory
unfolding computing
fails_for_memory = fails refl refl refl

-- It takes memory where the stream is reset, and not where the connection fails of itself: at the
-- 1,001st reset, where RST_STREAM would bring the output above 262,144 octets, with code 2. No
-- other call makes the connection fail.
-- rule: 5.4 (own) Being out of memory hides no other fault of the connection
calls_that_fail_for_memory :
    (map (λ view. may_fail_for_memory view (Refuse 1 1)) (active_view
    ∷ record active_view { resets = 999 } ∷ record active_view { resets = 1000 }
    ∷ record active_view { waiting = 262131 } ∷ record active_view { waiting = 262132 } ∷ [])
    ≡ true ∷ true ∷ false ∷ true ∷ false ∷ [])
    × (map (may_fail_for_memory active_view) (Refuse 1 2 ∷ ResetStream 1 1 ∷ PutOut 1 ∷ [])
    ≡ replicate 3 false)
unfolding computing
calls_that_fail_for_memory = (refl, refl)

-- The calls that may be refused for it.
calls_refused_for_memory :
    (map (may_lack_memory active_view) (stream_calls 1 ++ connection_calls ++ Open [] true
    ∷ PutOut 1 ∷ Refuse 1 1 ∷ [])
    ≡ replicate 10 true ++ false ∷ [])
    × (outcome (with_call active_server (SendPing one_to_eight) (Refused Memory))
    ≡ outcome active_server)
unfolding computing
calls_refused_for_memory = (refl, refl)

-- Frames that may take memory, at a server with one active stream: those that are replied to, parts
-- of field blocks, and faults of a stream.
-- rule: 5.4 (own) Only blocks, replies, resets and returned credit take memory
frames_that_need_memory :
    map (frame_needs_memory active_server) (Ping false one_to_eight ∷ Settings false []
    ∷ Headers 3 true true get_block None None ∷ Headers 3 true false [] None None
    ∷ WindowUpdate 1 0 ∷ [])
    ≡ replicate 5 true
unfolding computing
frames_that_need_memory = refl

-- a server that has answered the request on its active stream, whole
abbrev answered_server : Log
answered_server = with_call active_server (SendFields 1 short_answer true) Done

-- DATA that ends a stream takes some where this end has ended it, too, and credit is returned: not
-- where it goes on, nor where no octets came and none are owed. RST_STREAM takes some where octets
-- are owed on its stream.
-- rule: 5.4 (own) Only blocks, replies, resets and returned credit take memory
ends_that_need_memory :
    (map (λ log. frame_needs_memory log (Data 1 true abcd None)) (active_server ∷ answered_server
    ∷ [])
    ≡ false ∷ true ∷ [])
    × (map (frame_needs_memory answered_server) (Data 1 false abcd None ∷ Data 1 true [] None
    ∷ Data 1 true [] (Some 0) ∷ [])
    ≡ false ∷ false ∷ true ∷ [])
    × (map (λ view. needs_memory view Reported (alone (Data 1 true abcd None)))
    (record (log_view answered_server) { waiting = 65535 }
    ∷ record (log_view answered_server) { waiting = 65536 } ∷ [])
    ≡ true ∷ false ∷ [])
    × (map (λ log. frame_needs_memory log (Reset 1 8)) (active_server ∷ server_with_body false
    ∷ server_with_release false ∷ [])
    ≡ false ∷ true ∷ false ∷ [])
unfolding computing
ends_that_need_memory = (refl, refl, refl, refl)

-- DATA on a stream that this end has reset takes some where it has octets, or padding: the
-- connection's window is returned.
-- rule: 5.4 (own) Only blocks, replies, resets and returned credit take memory
discarded_data_that_needs_memory :
    (map (frame_needs_memory resetting_server) (Data 1 false [] None ∷ Data 1 false abcd None
    ∷ Data 1 true [] (Some 0) ∷ [])
    ≡ false ∷ true ∷ true ∷ [])
    × (map (λ view. needs_memory view NoEvent (alone (Data 1 false abcd None)))
    (record (log_view resetting_server) { waiting = 65535 }
    ∷ record (log_view resetting_server) { waiting = 65536 } ∷ [])
    ≡ true ∷ false ∷ [])
unfolding computing
discarded_data_that_needs_memory = (refl, refl)

-- The end of a stream takes some where octets are owed on it, and less than the full output waits.
-- rule: 5.4 (own) Only blocks, replies, resets and returned credit take memory
credit_that_needs_memory :
    map (λ view. credit_needs_memory view 1) (active_view ∷ record active_view { unreturned = 3 }
    ∷ log_view (server_with_body false)
    ∷ record (log_view (server_with_body false)) { waiting = 65535 }
    ∷ record (log_view (server_with_body false)) { waiting = 65536 } ∷ [])
    ≡ false ∷ false ∷ true ∷ true ∷ false ∷ []
unfolding computing
credit_that_needs_memory = refl

-- Those that take none: a PING's answer, an acknowledgment, GOAWAY, PRIORITY, unknown types,
-- WINDOW_UPDATE without a fault, DATA that goes on, RST_STREAM that is ignored.
frames_that_need_none :
    map (frame_needs_memory (server_with_body false)) (Ping true one_to_eight ∷ Settings true []
    ∷ GoAway 0 0 [] ∷ Priority 3 (0 ∷ 0 ∷ 0 ∷ 0 ∷ 0 ∷ []) ∷ Unknown 66 0 0 abcd
    ∷ WindowUpdate 0 5 ∷ WindowUpdate 1 5 ∷ Data 1 false abcd None ∷ [])
    ≡ replicate 8 false
unfolding computing
frames_that_need_none = refl

ignored_reset_needs_none : frame_needs_memory resetting_server (Reset 1 8) ≡ false
unfolding computing
ignored_reset_needs_none = refl

-- So do faults of the connection, which being out of memory doesn't hide: increment 0 on the
-- connection, DATA on an idle stream, a CONTINUATION without a block.
faults_that_need_none :
    map (frame_needs_memory active_server) (WindowUpdate 0 0 ∷ Data 5 false abcd None
    ∷ Continuation 1 true [] ∷ Reset 5 8 ∷ [])
    ≡ replicate 4 false
unfolding computing
faults_that_need_none = refl

-- Nor those of a limit: an answer to PING above 262,144 octets, the 1,001st reset, DATA above the
-- connection's window.
-- rule: 5.4 (own) Being out of memory hides no other fault of the connection
limits_that_need_none :
    (map (λ view. step_needs_memory view (completes (alone (Ping false one_to_eight))))
    (record active_view { waiting = 262127 } ∷ record active_view { waiting = 262128 } ∷ [])
    ≡ true ∷ false ∷ [])
    × (map (λ view. step_needs_memory view (completes (alone (WindowUpdate 1 0))))
    (record active_view { resets = 999 } ∷ record active_view { resets = 1000 } ∷ [])
    ≡ true ∷ false ∷ [])
    × (step_needs_memory (record (log_view resetting_server) { recv_window = pos 3 })
    (completes (alone (Data 1 false abcd None))) ≡ false)
unfolding computing
limits_that_need_none = (refl, refl, refl)

-- The same of a first frame that may not be one.
first_frames_that_need_none :
    map (frame_needs_memory new_server) (Ping false one_to_eight
    ∷ Headers 1 true true get_block None None ∷ Settings false [] ∷ [])
    ≡ false ∷ false ∷ true ∷ []
unfolding computing
first_frames_that_need_none = refl

-- Octets of a frame that is cut in two have to be kept: a part of a head, or of a payload.
part_of_a_frame_is_kept : KeepsOctets active_server (0 ∷ 0 ∷ 1 ∷ 0 ∷ 0 ∷ 0 ∷ 0 ∷ 0 ∷ 1 ∷ [])
unfolding computing
part_of_a_frame_is_kept = record {
  some = λ none. cc;
  past_preface = λ inside. cc;
  no_faulty_head = λ fault faulty. let is : None ≡ Some fault = faulty.head.faulty in cc;
  cut_in_two = λ begins. let whole : 10 ≤ 9 = begins.whole in omega (arith, whole);
}

-- A frame that lies whole in the octets isn't, nor is a head at fault, nor are no octets.
whole_frame_is_not_kept : KeepsOctets active_server (0 ∷ 0 ∷ 0 ∷ 0 ∷ 0 ∷ 0 ∷ 0 ∷ 0 ∷ 1 ∷ []) → ⊥
unfolding computing
whole_frame_is_not_kept keeps =
    keeps.cut_in_two (record {
      sound = refl;
      with_preface = λ inside. cc;
      none_unparsed = λ past. refl;
      nine = omega arith;
      whole = omega arith;
    })

faulty_head_is_not_kept : KeepsOctets active_server (0 ∷ 0 ∷ 1 ∷ 6 ∷ 0 ∷ 0 ∷ 0 ∷ 0 ∷ 0 ∷ []) → ⊥
unfolding computing
faulty_head_is_not_kept keeps =
    keeps.no_faulty_head WrongLength (record {
      sound = refl;
      with_preface = λ inside. cc;
      begun = λ past. omega arith;
      head = record { nine = omega arith; faulty = refl };
    })

nothing_is_not_kept : KeepsOctets active_server [] → ⊥
nothing_is_not_kept keeps = keeps.some refl

-- Of the preface nothing is kept, nor where its last octet is the last of the piece.
-- rule: 3.4 (own) No octet of the preface is stored, so memory is not refused in it
preface_is_not_kept : KeepsOctets new_server (0x50 ∷ []) → ⊥
unfolding computing preface
preface_is_not_kept keeps =
    let (begins, past) = keeps.past_preface refl in
    let long : 24 < 1 = past in
    omega (arith, long)

whole_preface_is_not_kept : KeepsOctets new_server preface → ⊥
unfolding computing preface
whole_preface_is_not_kept keeps =
    let (begins, past) = keeps.past_preface refl in
    let long : 24 < 24 = past in
    omega (arith, long)

-- Nor do other octets, however many, go past it.
other_octets_are_not_kept : KeepsOctets new_server (replicate 25 0) → ⊥
unfolding computing preface
other_octets_are_not_kept keeps =
    let (begins, past) = keeps.past_preface refl in
    let first : 0 ≡ 0x50 = ap (λ (octets : List ℕ). get_or octets 0 0) begins.joined in
    omega (arith, first)

-- What follows it is.
octet_after_the_preface_is_kept : KeepsOctets new_server (preface ++ 0 ∷ [])
unfolding computing preface
octet_after_the_preface_is_kept = record {
  some = λ none. cc;
  past_preface = λ inside. (record { following = 0 ∷ []; joined = refl }, omega arith);
  no_faulty_head = λ code faulty. let nine : 9 ≤ 1 = faulty.head.nine in omega (arith, nine);
  cut_in_two = λ begins. let nine : 9 ≤ 1 = begins.nine in omega (arith, nine);
}

-- DATA of no octets sends nothing unless it ends the stream; nor does DATA without room.
data_that_sends_nothing :
    (sends_no_data active_view 1 [] false ≡ true)
    × (sends_no_data active_view 1 [] true ≡ false)
    × (sends_no_data active_view 1 abcd false ≡ false)
    × (map (sends_no_data (record active_view { send_window = pos 0 }) 1 abcd) (false ∷ true ∷ [])
    ≡ true ∷ true ∷ [])
unfolding computing
data_that_sends_nothing = (refl, refl, refl, refl)
