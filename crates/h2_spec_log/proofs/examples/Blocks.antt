-- Field blocks: how they are gathered, and the verdicts on them.
use Rattle.h2_frame.specs.declared.code.Code.TheVariants.{CompressionError, RefusedStream}
use Rattle.h2_block.specs.Grouping.{Begun}
use Rattle.h2_spec_log.proofs.Names
use Names.{List, None, Some, [], codes, false, map, refl, replicate, true, ℕ, ◌++◌, ◌+◌, ◌-◌, ◌∷◌}
use Names.{◌≡◌, empty_table, Entries, Field, Continuation, Data, Headers, Ping, Priority, Settings}
use Names.{EnhanceYourCalm, ProtocolError, alone, block, Done, ResetStream, FieldsEvent, ResetEvent}
use Names.{Decoded, completes, fails_with, frame_step, Log, active_count, state, with_call}
use Names.{took_frame, log_view, Active, Closed, ClosedByUs, Idle, ConnectionFault, NoEvent}
use Names.{Reported, StreamFault, takes, takes_block, Option, Unknown, StreamClosed, begins_block}
use Names.{opened_by}
use Rattle.h2_spec_log.proofs.Computing.{computing}
use Rattle.h2_spec_log.proofs.examples.Ends.{active_output, active_server, active_view, asking_view}
use Rattle.h2_spec_log.proofs.examples.Ends.{server_with_request, settled_server}
use Rattle.h2_spec_log.proofs.examples.Octets.{octets}
use Rattle.h2_spec_log.proofs.examples.Words.{abcd, acknowledgment, block_verdicts, client_settings}
use Rattle.h2_spec_log.proofs.examples.Words.{come_to, empty_settings, get_block, goaway_frame}
use Rattle.h2_spec_log.proofs.examples.Words.{one_to_eight, outcome, plain, preface_octets, request}
use Rattle.h2_spec_log.proofs.examples.Words.{request_octets, reset_frame, server_settings}
use Rattle.h2_spec_log.proofs.examples.Words.{short_answer, short_request, table_with_authority}
use Rattle.h2_spec_log.proofs.examples.Words.{verdicts}

-- HEADERS that doesn't end its block
abbrev pub begun_server : Log
begun_server = takes settled_server (Headers 1 true false (octets (codes "82")) None None)

-- a CONTINUATION that doesn't
abbrev pub longer_server : Log
longer_server = takes begun_server (Continuation 1 false (octets (codes "86")))

-- and one that does
abbrev pub server_with_three_frames : Log
server_with_three_frames =
    took_frame longer_server (octets (codes "000001 09 04 00000001 84"))
    (Some (record { fields = short_request; after = empty_table 4096 }))
    (Continuation 1 true (octets (codes "84")))

-- A block is the fragments of its frames, joined; it is one item, and one event (RFC 9113, sections
-- 4.3 and 6.10).
-- rule: 4.3 A field block is its HEADERS' fragment and those of CONTINUATION
joins_three_frames :
    (server_with_three_frames.received ≡ block 1 true get_block ∷ alone (Settings false []) ∷ [])
    × (outcome server_with_three_frames ≡ come_to (preface_octets ++ empty_settings ++ octets
    (codes "000001 01 01 00000001 82 000001 09 00 00000001 86 000001 09 04 00000001 84"))
    (FieldsEvent 1 short_request true ∷ []) active_output None)
    × (outcome longer_server ≡ come_to (preface_octets ++ empty_settings ++ octets
    (codes "000001 01 01 00000001 82 000001 09 00 00000001 86")) [] active_output None)
unfolding computing
joins_three_frames = (refl, refl, refl)

-- Inside a block only a CONTINUATION of its stream may come (section 6.10).
interruptions :
    (map (frame_step (log_view begun_server))
    (Ping false one_to_eight ∷ Unknown 66 0 0 [] ∷ Data 1 true abcd None ∷ Headers 1 true true
    [] None None
    ∷ Priority 1 [] ∷ Continuation 3 true get_block ∷ [])
    ≡ replicate 6 (fails_with ProtocolError))
    × (frame_step (log_view begun_server) (Continuation 1 true abcd)
    ≡ completes (block 1 true (octets (codes "82 61626364"))))
    × (frame_step (log_view begun_server) (Continuation 1 false abcd)
    ≡ begins_block (record { stream = 1; end = true; octets = octets (codes "82 61626364") }))
unfolding computing
interruptions = (refl, refl, refl)

-- PING inside a block ends the connection.
interrupted_by_a_ping :
    outcome (takes begun_server (Ping false one_to_eight))
    ≡ come_to (preface_octets ++ empty_settings ++ octets
    (codes "000001 01 01 00000001 82 000008 06 00 00000000 0102030405060708")) []
    (active_output ++ goaway_frame 0 1) (Some ProtocolError)
unfolding computing
interrupted_by_a_ping = refl

-- So does a CONTINUATION where no block has begun (section 6.10).
-- rule: 6.10 A CONTINUATION outside a block is PROTOCOL_ERROR
stray_continuation :
    outcome (takes settled_server (Continuation 1 true get_block)) ≡ come_to
    (preface_octets ++ empty_settings ++ octets (codes "000003 09 04 00000001 828684")) []
    (active_output ++ goaway_frame 0 1) (Some ProtocolError)
unfolding computing
stray_continuation = refl

-- a block of so many octets that has begun
abbrev pub begun_of : ℕ → Begun
begun_of = λ count. record { stream = 1; end = true; octets = replicate count 0 }

-- A block has at most 65,552 octets (own; section 10.5.1).
length_of_blocks :
    (frame_step (log_view settled_server) (Headers 1 true false (replicate 65552 0) None None)
    ≡ begins_block (begun_of 65552))
    × (frame_step (log_view settled_server) (Headers 1 true false (replicate 65553 0) None None)
    ≡ fails_with EnhanceYourCalm)
    × (frame_step (record active_view { begun = Some (begun_of 65551) }) (Continuation 1 false (0
    ∷ []))
    ≡ begins_block (begun_of 65552))
    × (frame_step (record active_view { begun = Some (begun_of 65552) }) (Continuation 1 true (0 ∷
    []))
    ≡ fails_with EnhanceYourCalm)
unfolding computing
length_of_blocks = (refl, refl, refl, refl)

-- a block whose only index is above the table's
abbrev pub undecodable_server : Log
undecodable_server = takes settled_server (Headers 1 true true (octets (codes "be")) None None)

-- A block that doesn't decode is a COMPRESSION_ERROR, in whatever state its stream is; it opens
-- none (section 4.3).
-- rule: 4.3 A block that does not decode is COMPRESSION_ERROR, of the connection
undecodable_block :
    (outcome undecodable_server ≡ come_to
    (preface_octets ++ empty_settings ++ octets (codes "000001 01 05 00000001 be")) []
    (active_output ++ goaway_frame 0 9) (Some CompressionError))
    × (verdicts active_view (block 1 true (octets (codes "be")) ∷ block 2 true [] ∷ block 3 true
    [] ∷ [])
    ≡ replicate 3 (ConnectionFault CompressionError))
unfolding computing
undecodable_block = (refl, refl)

-- a further block on a stream that the peer has ended
abbrev pub server_with_block_after_the_end : Log
server_with_block_after_the_end =
    takes_block server_with_request 1 true get_block short_request table_with_authority

-- A block after the peer's END_STREAM, on a stream that this end goes on with, is a STREAM_CLOSED
-- of the stream (section 5.1).
-- rule: 5.1 After the peer has ended a stream a field block is STREAM_CLOSED
block_after_the_end :
    (outcome server_with_block_after_the_end
    ≡ come_to (preface_octets ++ client_settings ++ request_octets
    ++ octets (codes "000003 01 05 00000001 828684"))
    (FieldsEvent 1 request true ∷ ResetEvent 1 5 true ∷ [])
    (server_settings ++ acknowledgment ++ reset_frame 1 5) None)
    × (state server_with_block_after_the_end 1 ≡ ClosedByUs)
unfolding computing
block_after_the_end = (refl, refl)

-- a client's first stream is stream 3
abbrev pub server_with_third : Log
server_with_third = takes_block settled_server 3 false get_block short_request (empty_table 4096)

-- a server that has reset stream 1
abbrev pub resetting_server : Log
resetting_server = with_call active_server (ResetStream 1 8) Done

-- Opening a stream closes lower idle ones (section 5.1.1).
-- rule (best): 5.1.1 A stream that is opened closes all lower idle ones
streams_passed_over :
    map (state server_with_third) (1 ∷ 2 ∷ 3 ∷ 5 ∷ []) ≡ Closed ∷ Idle ∷ Active ∷ Idle ∷ []
unfolding computing
streams_passed_over = refl

-- A block may come on an active stream, and on an odd idle one at a server, which it opens; not on
-- an even one or a closed one. On one that this end has reset it is ignored (sections 5.1 and
-- 5.1.1).
-- rule: 5.1 (own) On a closed stream a field block is PROTOCOL_ERROR
-- rule: 5.1.1 A field block on an idle number not the peer's is PROTOCOL_ERROR
blocks_by_state :
    (block_verdicts active_view short_request (block 1 true [] ∷ block 2 true [] ∷ block 3 true
    [] ∷ [])
    ≡ Reported ∷ ConnectionFault ProtocolError ∷ Reported ∷ [])
    × (block_verdicts (log_view server_with_third) short_request (block 1 true [] ∷ [])
    ≡ ConnectionFault ProtocolError ∷ [])
    × (block_verdicts (log_view resetting_server) short_request (block 1 true [] ∷ [])
    ≡ NoEvent ∷ [])
    × (block_verdicts asking_view short_answer (block 1 true [] ∷ block 2 true [] ∷ block 3 true
    [] ∷ [])
    ≡ Reported ∷ ConnectionFault ProtocolError ∷ ConnectionFault ProtocolError ∷ [])
unfolding computing
blocks_by_state = (refl, refl, refl, refl)

-- a list of this size
abbrev pub list_of_size : ℕ → List Field
list_of_size = λ size. plain (codes "a") (replicate (size - 33) 0x62) ∷ []

-- A list has a size of at most 65,536 (own; section 10.5.1).
-- rule: 10.5.1 A list above 65,536 octets is a stream error ENHANCE_YOUR_CALM
sizes_of_lists :
    (block_verdicts active_view (list_of_size 65536) (block 1 true [] ∷ block 3 true [] ∷ [])
    ≡ Reported ∷ Reported ∷ [])
    × (block_verdicts active_view (list_of_size 65537) (block 1 true [] ∷ block 3 true [] ∷ [])
    ≡ StreamFault EnhanceYourCalm ∷ StreamFault EnhanceYourCalm ∷ [])
unfolding computing
sizes_of_lists = (refl, refl)

-- A stream is refused where 100 are active; where this end has sent GOAWAY it is ignored first; a
-- large list comes last (sections 5.1.2 and 6.8).
openings_in_order :
    (block_verdicts (record active_view { active_count = 99 }) short_request (block 3 true [] ∷ [])
    ≡ Reported ∷ [])
    × (block_verdicts (record active_view { active_count = 100 }) (list_of_size 65537)
    (block 3 true [] ∷ block 1 true [] ∷ [])
    ≡ StreamFault RefusedStream ∷ StreamFault EnhanceYourCalm ∷ [])
    × (block_verdicts (record active_view { active_count = 100; goaway_sent = true })
    (list_of_size 65537)
    (block 3 true [] ∷ block 1 true [] ∷ []) ≡ NoEvent ∷ StreamFault EnhanceYourCalm ∷ [])
    × (block_verdicts (log_view server_with_request) (list_of_size 65537) (block 1 true [] ∷ [])
    ≡ StreamFault StreamClosed ∷ [])
unfolding computing
openings_in_order = (refl, refl, refl, refl)

-- what a short request decodes to
abbrev pub decoded_request : Option Decoded
decoded_request = Some (record { fields = short_request; after = empty_table 4096 })

-- A block opens its stream where that is idle, one of the peer's, and not refused or ignored
-- (section 5.1.1).
-- rule: 6.2 A field block on an idle odd number opens the stream at a server
what_opens_a_stream :
    (map (opened_by active_view decoded_request)
    (block 3 true [] ∷ block 1 true [] ∷ block 2 true [] ∷ alone (Data 3 true [] None) ∷ [])
    ≡ 3 ∷ 0 ∷ 0 ∷ 0 ∷ [])
    × (opened_by active_view None (block 3 true []) ≡ 0)
    × (opened_by (record active_view { active_count = 100 }) decoded_request (block 3 true []) ≡ 0)
    × (opened_by (record active_view { goaway_sent = true }) decoded_request (block 3 true []) ≡ 0)
    × (opened_by asking_view decoded_request (block 3 true []) ≡ 0)
unfolding computing
what_opens_a_stream = (refl, refl, refl, refl, refl)

-- a field of 4,033 octets by its size, and the table with it alone
abbrev pub large_field : Field
large_field = plain (codes "a") (replicate 4000 0x62)

abbrev pub full_table : Entries
full_table = record {
  entries = record { name = codes "a"; value = replicate 4000 0x62 } ∷ [];
  maximum = 4096;
}

-- the octets of a block that has it once, and so many times more from the table
abbrev pub large_block : ℕ → List ℕ
large_block count = octets (codes "4001617fa11e") ++ replicate 4000 0x62 ++ replicate count 0xbe

-- a server reads such a block
abbrev pub server_with_large : ℕ → Log
server_with_large count =
    takes_block settled_server 1 false (large_block count) (replicate
    (count + 1) large_field) full_table

-- A list that is too large resets its stream, and the table is kept: 16 such fields are reported,
-- and 17 are too many (section 10.5.1).
-- rule: 10.5.1 A list above 65,536 octets is a stream error ENHANCE_YOUR_CALM
large_lists :
    (outcome (server_with_large 16) ≡ come_to
    (preface_octets ++ empty_settings ++ octets (codes "000fb6 01 04 00000001") ++ large_block 16)
    (ResetEvent 1 11 true ∷ []) (active_output ++ reset_frame 1 11) None)
    × ((server_with_large 16).table ≡ full_table)
    × (outcome (server_with_large 15) ≡ come_to
    (preface_octets ++ empty_settings ++ octets (codes "000fb5 01 04 00000001") ++ large_block 15)
    (FieldsEvent 1 (replicate 16 large_field) false ∷ []) active_output None)
unfolding computing
large_lists = (refl, refl, refl)
