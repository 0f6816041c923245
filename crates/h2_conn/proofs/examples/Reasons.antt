-- Why a connection has failed, on worked rows (RFC 9113, section 5.4.1).
use Rattle.h2_conn.proofs.Names.{◌≡◌, true, false, List, [], ◌∷◌, None, Some, refl, Frame, Code}
use Rattle.h2_conn.proofs.Names.{InternalError, Log, with_call, log_view, Refuse, Done, View, Server}
use Rattle.h2_conn.proofs.Names.{Client, rule_of_frame, rule_of_octets, Why, PutOut, Count, arith}
use Rattle.h2_conn.proofs.Names.{drop}
use Rattle.std.specs.Prelude.{map, replicate, nat_lt, pos}
use Rattle.h2_frame.specs.Frames.{Data, Headers, Settings, Ping, WindowUpdate, Continuation, Reset}
use Rattle.h2_frame.specs.declared.code.Code.TheVariants.{ProtocolError, FlowControlError}
use Rattle.h2_frame.specs.declared.code.Code.TheVariants.{StreamClosed, CompressionError}
use Rattle.h2_frame.specs.declared.code.Code.TheVariants.{EnhanceYourCalm}
use Rattle.h2_frame.specs.declared.head_faults.HeadFault.TheVariants as heads
use Rattle.h2_wire.specs.declared.fault.WireFault.TheVariants as wire
use Rattle.h2_spec_log.specs.Acts.{Fail}
use Rattle.h2_spec_log.specs.LogCalls.{accepts}
use Rattle.h2_spec_log.specs.States.{Idle, Closed}
use Rattle.h2_spec_log.proofs.Computing.{computing}
use Rattle.h2_spec_log.proofs.examples.Blocks.{begun_of}
use Rattle.h2_spec_log.proofs.examples.Ends.{active_server, active_view, new_server}
use Rattle.h2_spec_log.proofs.examples.ServersCome.{active_server_comes, new_server_comes}
use Rattle.h2_spec_log.specs.LogSteps.{took_fault}
use Rattle.h2_wire.specs.Streams.{preface}
use Rattle.h2_spec_log.proofs.examples.Words.{abcd, default_values, get_block, one_to_eight}
use Rattle.h2_conn.specs.Why.{first_at_fault, rule_of_call, FailedFor, for_a_call, for_octets}
use Rattle.h2_conn.specs.Why.{still}
use Rattle.h2_conn.proofs.ReasonCodes.{why_code}
use Rattle.h2_conn.specs.declared.why.Why.TheVariants as whys
use Rattle.h2_conn.specs.declared.why.Why.TheVariants.{FirstFrameNotSettings, BlockInterrupted}
use Rattle.h2_conn.specs.declared.why.Why.TheVariants.{StrayContinuation, BlockTooLong}
use Rattle.h2_conn.specs.declared.why.Why.TheVariants.{FrameOnIdleStream, BlockOnClosedStream}
use Rattle.h2_conn.specs.declared.why.Why.TheVariants.{BlockOnIdleNumber, BadEnablePush}
use Rattle.h2_conn.specs.declared.why.Why.TheVariants.{DataAboveConnectionWindow}
use Rattle.h2_conn.specs.declared.why.Why.TheVariants.{DataAboveStreamWindow, BadInitialWindow}
use Rattle.h2_conn.specs.declared.why.Why.TheVariants.{BadMaxFrameSize, ShiftTooLarge}
use Rattle.h2_conn.specs.declared.why.Why.TheVariants.{TooManyResets, TooMuchOutput, OutOfMemory}

-- the rules that these frames break, each where it comes next and fails with this code
abbrev rules_of : View → Code → List Frame → List Why
rules_of view code frames = map (λ frame. rule_of_frame view frame code) frames

-- The first frame is SETTINGS without ACK: of any other no other rule is said.
-- rule: 5.4.1 (own) A connection that has failed says why
first_frames :
    rules_of (log_view new_server) ProtocolError (Ping false one_to_eight ∷ Settings true []
    ∷ Continuation 1 true [] ∷ WindowUpdate 0 0 ∷ Settings false ((2, 2) ∷ []) ∷ [])
    ≡ FirstFrameNotSettings ∷ FirstFrameNotSettings ∷ FirstFrameNotSettings
    ∷ FirstFrameNotSettings ∷ BadEnablePush ∷ []
unfolding computing rule_of_frame first_at_fault
first_frames = refl

-- a block of so many octets has begun on stream 1
abbrev inside : View
inside = record active_view { begun = Some (begun_of 16) }

-- Inside a block any frame but its CONTINUATION; a CONTINUATION outside one.
frames_in_a_block :
    (rules_of inside ProtocolError (Ping false one_to_eight ∷ Headers 1 true true [] None None
    ∷ Continuation 3 true [] ∷ WindowUpdate 0 0 ∷ []) ≡ replicate 4 BlockInterrupted)
    × (rules_of active_view ProtocolError (Continuation 1 true [] ∷ []) ≡ StrayContinuation ∷ [])
unfolding computing rule_of_frame
frames_in_a_block = (refl, refl)

-- A block of more than 65,552 octets, and one octet fewer, whose code says another limit.
lengths_of_blocks :
    (rule_of_frame active_view (Headers 3 true false (replicate 65553 0) None None) EnhanceYourCalm
    ≡ BlockTooLong)
    × (rule_of_frame (record active_view { begun = Some (begun_of 65552) })
    (Continuation 1 true (0 ∷ [])) EnhanceYourCalm ≡ BlockTooLong)
    × (rule_of_frame (record active_view { begun = Some (begun_of 65551) })
    (Continuation 1 true (0 ∷ [])) EnhanceYourCalm ≡ TooMuchOutput)
unfolding computing rule_of_frame
lengths_of_blocks = (refl, refl, refl)

-- A field block by its stream, and one that does not decode.
blocks_on_streams :
    (map (λ view. rule_of_frame view (Headers 2 true true get_block None None) ProtocolError)
    (record active_view { state = λ id. Idle } ∷ record active_view { state = λ id. Closed } ∷ [])
    ≡ BlockOnIdleNumber ∷ BlockOnClosedStream ∷ [])
    × (map (λ view. rule_of_frame view (Continuation 1 true []) ProtocolError)
    (record inside { state = λ id. Idle } ∷ record inside { state = λ id. Closed } ∷ [])
    ≡ BlockOnIdleNumber ∷ BlockOnClosedStream ∷ [])
    × (rules_of active_view CompressionError (Headers 3 true true [] None None ∷ [])
    ≡ whys.BlockNotDecoded ∷ [])
    × (rules_of inside CompressionError (Continuation 1 true [] ∷ []) ≡ whys.BlockNotDecoded ∷ [])
unfolding computing rule_of_frame
blocks_on_streams = (refl, refl, refl, refl)

-- Frames on an idle stream, DATA on a closed one, and WINDOW_UPDATE of the connection.
frames_on_streams :
    (rules_of active_view ProtocolError (Data 5 false abcd None ∷ Reset 5 8 ∷ WindowUpdate 5 1
    ∷ WindowUpdate 5 0 ∷ WindowUpdate 0 0 ∷ [])
    ≡ FrameOnIdleStream ∷ FrameOnIdleStream ∷ FrameOnIdleStream ∷ FrameOnIdleStream
    ∷ whys.ZeroConnectionIncrement ∷ [])
    × (rules_of active_view StreamClosed (Data 1 false abcd None ∷ Data 1 true [] (Some 3) ∷ [])
    ≡ whys.DataOnClosedStream ∷ whys.DataOnClosedStream ∷ [])
    × (rules_of active_view FlowControlError (WindowUpdate 0 2147483647 ∷ [])
    ≡ whys.ConnectionWindowTooLarge ∷ [])
unfolding computing rule_of_frame
frames_on_streams = (refl, refl, refl)

-- DATA of four octets, and of four with the length of its padding, above the connection's window
-- of this size, or not above it, so above its stream's.
data_above_windows :
    (map (λ window. rule_of_frame (record active_view { recv_window = pos window })
    (Data 1 false abcd None) FlowControlError) (3 ∷ 4 ∷ [])
    ≡ DataAboveConnectionWindow ∷ DataAboveStreamWindow ∷ [])
    × (map (λ window. rule_of_frame (record active_view { recv_window = pos window })
    (Data 1 false abcd (Some 0)) FlowControlError) (4 ∷ 5 ∷ [])
    ≡ DataAboveConnectionWindow ∷ DataAboveStreamWindow ∷ [])
unfolding computing rule_of_frame
data_above_windows = (refl, refl)

-- an initial window above 100 brings some stream's window above the greatest
abbrev shifting : View
shifting = record active_view { overflows = λ initial. nat_lt 100 initial }

-- SETTINGS by their values, at a server and at a client.
values_of_settings :
    (rules_of shifting ProtocolError (Settings false ((2, 2) ∷ [])
    ∷ Settings false ((5, 16383) ∷ []) ∷ Settings false ((5, 16777216) ∷ []) ∷ [])
    ≡ BadEnablePush ∷ BadMaxFrameSize ∷ BadMaxFrameSize ∷ [])
    × (rules_of (record shifting { role = Client }) ProtocolError
    (Settings false ((2, 1) ∷ []) ∷ []) ≡ BadEnablePush ∷ [])
    × (rules_of shifting FlowControlError (Settings false ((4, 2147483648) ∷ [])
    ∷ Settings false ((4, 101) ∷ []) ∷ []) ≡ BadInitialWindow ∷ ShiftTooLarge ∷ [])
unfolding computing rule_of_frame first_at_fault
values_of_settings = (refl, refl, refl)

-- The first pair that breaks a rule decides; values of other settings shift nothing.
first_pairs :
    map (first_at_fault shifting) (((4, 101) ∷ (4, 2147483648) ∷ [])
    ∷ ((4, 2147483648) ∷ (4, 101) ∷ []) ∷ ((5, 0) ∷ (4, 2147483648) ∷ [])
    ∷ ((4, 2147483648) ∷ (5, 0) ∷ []) ∷ ((3, 101) ∷ (4, 100) ∷ (2, 1) ∷ (2, 2) ∷ []) ∷ [])
    ≡ ShiftTooLarge ∷ BadInitialWindow ∷ BadMaxFrameSize ∷ BadInitialWindow ∷ BadEnablePush ∷ []
unfolding computing first_at_fault
first_pairs = refl

-- At a limit: SETTINGS and PING reset nothing; of what else is at fault the stream is reset, up to
-- 1,000 of them.
limits_reached :
    map (λ frame. map (λ count. rule_of_frame (record active_view { resets = count }) frame
    EnhanceYourCalm) (999 ∷ 1000 ∷ [])) (Settings false [] ∷ Ping false one_to_eight
    ∷ WindowUpdate 1 0 ∷ Data 1 false abcd None ∷ Headers 3 true true [] None None ∷ [])
    ≡ (TooMuchOutput ∷ TooMuchOutput ∷ []) ∷ (TooMuchOutput ∷ TooMuchOutput ∷ [])
    ∷ replicate 3 (TooMuchOutput ∷ TooManyResets ∷ [])
unfolding computing rule_of_frame
limits_reached = refl

-- So it is of the frame that ends a block.
limits_at_a_continuation :
    map (λ count. rule_of_frame (record inside { resets = count }) (Continuation 1 true [])
    EnhanceYourCalm) (999 ∷ 1000 ∷ []) ≡ TooMuchOutput ∷ TooManyResets ∷ []
unfolding computing rule_of_frame
limits_at_a_continuation = refl

-- Octets at fault.
octets_at_fault :
    map rule_of_octets (wire.BadPreface ∷ wire.HeadFault heads.TooLong
    ∷ wire.HeadFault heads.IsPushPromise ∷ wire.HeadFault heads.WrongStream
    ∷ wire.HeadFault heads.WrongLength ∷ wire.PayloadFault ProtocolError ∷ wire.Memory ∷ [])
    ≡ whys.BadPreface ∷ whys.FrameTooLong ∷ whys.PushPromise ∷ whys.WrongStream
    ∷ whys.WrongLength ∷ whys.PaddingTooLong ∷ OutOfMemory ∷ []
octets_at_fault = refl

-- Calls: the layer above ends the connection, whatever the code; or it refuses a stream.
calls_that_fail :
    (map (λ code. rule_of_call active_view (Fail code) code) (EnhanceYourCalm ∷ InternalError ∷ [])
    ≡ whys.EndedAbove EnhanceYourCalm ∷ whys.EndedAbove InternalError ∷ [])
    × (map (λ code. rule_of_call active_view (Refuse 1 code) InternalError) (1 ∷ 2 ∷ [])
    ≡ OutOfMemory ∷ OutOfMemory ∷ [])
    × (map (λ count. rule_of_call (record active_view { resets = count }) (Refuse 1 1)
    EnhanceYourCalm) (999 ∷ 1000 ∷ []) ≡ TooMuchOutput ∷ TooManyResets ∷ [])
calls_that_fail = (refl, refl, refl)

-- a server that its layer above has ended
abbrev ended_server : Log
ended_server = with_call active_server (Fail EnhanceYourCalm) Done

-- It has failed for that, and not for memory, since it has another code.
-- rule: 5.4.1 (own) A connection that has failed says why
ended_above :
    FailedFor Server default_values ended_server (whys.EndedAbove EnhanceYourCalm)
unfolding computing
ended_above =
    for_a_call active_server_comes refl (Fail EnhanceYourCalm) Done EnhanceYourCalm tt
    (accepts refl refl) refl

not_for_memory : FailedFor Server default_values ended_server OutOfMemory → ⊥
unfolding computing
not_for_memory is =
    let same : Some InternalError ≡ Some EnhanceYourCalm =
    why_code default_values ended_server (Some OutOfMemory) is in cc

-- A call that comes later leaves the reason: output is put out.
kept_since : FailedFor Server default_values (with_call ended_server (PutOut 5) (Count 5))
    (whys.EndedAbove EnhanceYourCalm)
unfolding computing
kept_since = still ended_above (PutOut 5) (Count 5) (omega arith) (accepts refl refl) refl

-- The first octet of the preface is wrong.
wrong_octet : FailedFor Server default_values (took_fault new_server (0x47 ∷ []) wire.BadPreface)
    whys.BadPreface
unfolding computing
wrong_octet =
    for_octets new_server_comes (record { up = refl; all_reported = refl }) (0x47 ∷ [])
    wire.BadPreface
    (record {
      within = omega arith;
      made = record {
        none = refl;
        prefix = [];
        right = 0x50;
        missing = drop 1 preface;
        wrong = 0x47;
        opens = refl;
        reads = refl;
        differs = λ is. let number : 0x47 ≡ 0x50 = is in omega (arith, number);
      };
    })
