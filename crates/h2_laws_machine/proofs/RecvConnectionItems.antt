-- What items make of an end and of its log that change nothing of its streams, but perhaps windows.
use Rattle.h2_laws_machine.proofs.Names
use Names.{◌≡◌, ℕ, Bool, true, false, List, [], Option, refl, arith, both_ways, Frame, Data, Reset}
use Names.{Settings, Ping, GoAway, WindowUpdate, stream_of, Item, alone, least_goaway, Log}
use Names.{newest_ping, stream_of_item, data_on, data_of, increment_on, is_block_on, ends, resets}
use Names.{one_reset, one_ping, is_goaway, is_goaway_below, greatest_block, one_settings, NoEvent}
use Names.{Decoded, replies_to, read, with_sent, with_reported, with_verdict, events_of}
use Names.{discarded_flow, End, end_view, after_ignored, goaway_sent_last}
use Rattle.h2_laws_machine.proofs.LogCore.{core, core_facts, Going}
use Rattle.h2_laws_machine.proofs.OwedAtClose.{none_owing, dead_owing, zero_dead}
use Rattle.h2_laws_machine.proofs.RecvRead.{IsQuietIn, quiet_read, active_read, reads}
use Rattle.h2_laws_machine.proofs.RecvReturnedCredit.{After, unsettled}
use Rattle.h2_laws_machine.proofs.SentConnectionItems.{ping_leaves}
use Rattle.h2_laws_machine.proofs.SentQuietItems.{IsQuietOut, quiet_wrote}
use Rattle.h2_laws_machine.proofs.WaitingOutput.{Waits, wrote_connection}

-- Whether a frame changes nothing of what an end keeps, where it is read.
abbrev pub is_plain : Frame → Bool
is_plain (Data stream end octets pad) = false
is_plain (Reset stream code) = false
is_plain (Settings ack pairs) = ack
is_plain (GoAway last code debug) = false
is_plain (WindowUpdate stream increment) = false
is_plain frame = true

-- Such a frame changes nothing.
pub plain_quiet : (frame : Frame) → is_plain frame ≡ true → IsQuietIn (alone frame)
unfolding is_block_on greatest_block ends resets is_goaway least_goaway one_settings data_on data_of
    increment_on
plain_quiet (Data stream end octets pad) is = absurd (both_ways false refl is)
plain_quiet (Reset stream code) is = absurd (both_ways false refl is)
plain_quiet (Settings false pairs) is = absurd (both_ways false refl is)
plain_quiet (GoAway last code debug) is = absurd (both_ways false refl is)
plain_quiet (WindowUpdate stream increment) is = absurd (both_ways false refl is)
plain_quiet frame is = assumption

-- What plain frames that need no answer make of an end.
pub plain_ignored : (e : End) (log : Log) (decoded : Option Decoded) (frame : Frame)
    → is_plain frame ≡ true → replies_to NoEvent (alone frame) ≡ []
    → Waits e log → Going e (core log) → After (after_ignored e decoded (alone frame))
    (with_verdict log decoded (alone frame) NoEvent)
unfolding with_verdict after_ignored replies_to events_of discarded_flow data_of with_sent
    with_reported
plain_ignored e log decoded (Data stream end octets pad) is none w g =
    absurd (both_ways false refl is)
plain_ignored e log decoded (Reset stream code) is none w g = absurd (both_ways false refl is)
plain_ignored e log decoded (Settings false pairs) is none w g = absurd (both_ways false refl is)
plain_ignored e log decoded (GoAway last code debug) is none w g = absurd (both_ways false refl is)
plain_ignored e log decoded (WindowUpdate stream increment) is none w g =
    absurd (both_ways false refl is)
plain_ignored e log decoded (Ping false octets) is none w g = absurd (cc)
plain_ignored e log decoded frame is none w g =
    let q = plain_quiet frame is in
    unsettled e (read log decoded (alone frame)) [] _ (omega (
      arith,
      none_owing log (read log decoded (alone frame)) (stream_of_item (alone frame))
          (active_read _ _ _ _ _ _ (q.apart _).blocks (q.apart _).ended (q.apart _).was_reset),
    )) w g.windows.unreturned (quiet_read (core_facts e) (core log) (alone frame) q g)

-- the answer to a PING changes nothing more
pong_quiet : (octets : List ℕ) → IsQuietOut (alone (Ping true octets))
unfolding is_block_on greatest_block ends resets is_goaway is_goaway_below goaway_sent_last
    newest_ping one_ping one_settings data_on data_of one_reset increment_on
pong_quiet octets = assumption (ping_leaves true octets)

-- it gives nothing
pong_none : (octets : List ℕ) (j : ℕ) → increment_on j (alone (Ping true octets)) ≡ 0
unfolding increment_on
pong_none octets j = refl

-- What an end makes of a PING that it answers.
pub ping_ignored : (e : End) (log : Log) (decoded : Option Decoded) (octets : List ℕ) → Waits e log
    → Going e (core log)
    → After (after_ignored e decoded (alone (Ping false octets))) (with_verdict log decoded
    (alone (Ping false octets)) NoEvent)
unfolding with_verdict after_ignored replies_to events_of discarded_flow data_of stream_of_item
    stream_of with_sent
ping_ignored e log decoded octets w g =
    let q = plain_quiet (Ping false octets) refl in
    let item : Item = alone (Ping false octets) in
    let dead = zero_dead (core log) in
    unsettled _ _ [] _ (omega (arith, dead_owing))
    (wrote_connection e.role e.failed e.output.waiting (read log decoded item)
    (end_view e).max_payload (Ping true octets) w) g.windows.unreturned
    (quiet_wrote (core_facts e) (reads (core log) item) (alone (Ping true octets)) e.windows.recv
    (pong_quiet octets) (λ j some. pong_none octets j) (omega (arith, pong_none octets 0))
    (quiet_read (core_facts e) (core log) item q g))
