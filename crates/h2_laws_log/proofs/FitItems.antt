-- Frames and items that come are fit: their numbers are those that their octets can hold.
use Rattle.h2_frame.specs.Heads.{head_of}
use Rattle.h2_frame.specs.Frames.{Priority, Unknown, Encodes}
use Rattle.h2_block.specs.declared.fault.BlockFault.{BlockFault}
use Rattle.h2_spec_log.specs.ItemRules.{grouped, grouping_step}
use Rattle.h2_wire.proofs.ReadingLemmas.{some_frames as frames_some}
use Rattle.h2_frame.proofs.HeadLemmas.{stream-head_of as head_low}
use Rattle.h2_laws_log.proofs.Names
use Names.{ap, subst, Code, Frame, Data, Headers, Reset, Settings, Ping, GoAway, WindowUpdate}
use Names.{Continuation, stream_of, Limits, AreFrames, Frames, Item, alone, block, Begun, Role}
use Names.{stream_of_item, Values, View, FrameStep, fails_with, begins_block, completes, frame_step}
use Names.{Decoded, answer_of, opened, called, used, with_sent, read, Log, log_view, IsLog, ◌≡◌, ℕ}
use Names.{◌+◌, ◌^◌, ◌<◌, Bool, true, false, if◌then◌else◌, List, [], ◌∷◌, ◌++◌, length, Option}
use Names.{Some, None, ◌∙◌, inl, inr, arith, TakesFrame, rules}
use Rattle.h2_laws_log.proofs.LogInduction.{IsPendingInvariant, pending_by_logs, Comes}

-- What is known of a frame that was read: its stream has 31 bits, and so has the last stream of
-- GOAWAY; and a PING has eight octets.
abbrev pub IsFit : Frame → Type 0
IsFit (Ping ack octets) = length octets ≡ 8
IsFit (GoAway last code debug) = last < 2 ^ 31
IsFit frame = stream_of frame < 2 ^ 31

-- the same of an item, and of a block that has begun
abbrev pub IsFitItem : Item → Type 0
IsFitItem (alone frame) = IsFit frame
IsFitItem (block stream end octets) = stream < 2 ^ 31

abbrev pub IsFitBegun : Option Begun → Type 0
IsFitBegun None = Unit {0}
IsFitBegun (Some begun) = begun.stream < 2 ^ 31

abbrev pub IsFitStep : FrameStep → Type 0
IsFitStep (fails_with code) = Unit {0}
IsFitStep (begins_block begun) = begun.stream < 2 ^ 31
IsFitStep (completes item) = IsFitItem item

-- The stream of a fit item has 31 bits.
pub stream_low : (item : Item) → IsFitItem item → stream_of_item item < 2 ^ 31
unfolding stream_of_item stream_of
stream_low (block stream end octets) fit = fit
stream_low (alone (Ping ack octets)) fit = omega arith
stream_low (alone (GoAway last code debug)) fit = omega arith
stream_low (alone frame) fit = fit

-- A number that is a head's stream.
same_low : (octets : List ℕ) (stream : ℕ) → stream ≡ (head_of octets).stream → stream < 2 ^ 31
same_low octets stream is = rw is (head_low octets)

-- A frame that octets encode is fit.
frame_fit : (frame : Frame) (octets : List ℕ) → Encodes frame octets → IsFit frame
unfolding stream_of
frame_fit (Data stream end payload pad) octets encodes = same_low octets stream (encodes.carried).1
frame_fit (Headers stream end last fragment pad priority) octets encodes =
    same_low octets stream (encodes.carried).1
frame_fit (Priority stream payload) octets encodes = same_low octets stream (encodes.carried).1
frame_fit (Reset stream code) octets encodes = same_low octets stream (encodes.carried).1
frame_fit (Settings ack pairs) octets encodes = omega arith
frame_fit (Ping ack payload) octets encodes = ap length (encodes.carried).4 ∙ (encodes.carried).3
frame_fit (GoAway last code debug) octets encodes =
    let number = (encodes.carried).3 in omega (arith, number)
frame_fit (WindowUpdate stream increment) octets encodes =
    same_low octets stream (encodes.carried).1
frame_fit (Continuation stream last fragment) octets encodes =
    same_low octets stream (encodes.carried).1
frame_fit (Unknown kind flags stream payload) octets encodes =
    same_low octets stream (encodes.carried).2

-- The last of frames is fit.
last_fit : (limits : Limits) (preceding : ℕ) (frames : List Frame) (frame : Frame)
    (octets : List ℕ) → AreFrames limits preceding (frames ++ frame ∷ []) octets → IsFit frame
last_fit limits preceding [] frame octets are = frame_fit frame are.0 (are.3).encodes
last_fit limits preceding (other ∷ frames) frame octets are =
    last_fit limits (preceding + length are.0) frames frame are.1 are.4

-- A frame that comes is fit.
taken_fit : (expects : Bool) (limits : Limits) (stream : List ℕ) (frames : List Frame)
    (frame : Frame) (unparsed : List ℕ)
    → Frames expects limits stream (frames ++ frame ∷ []) unparsed → IsFit frame
taken_fit expects limits stream frames frame unparsed (inl inside) =
    absurd (frames_some frames frame inside.none)
taken_fit expects limits stream frames frame unparsed (inr after) =
    last_fit limits _ frames frame _ (after.sound).framed

-- What it makes of the block that has begun is fit.
grouped_fit : (begun : Option Begun) (frame : Frame) → IsFit frame → IsFitBegun begun
    → IsFitStep (grouped begun frame)
unfolding grouped stream_of
grouped_fit None (Headers stream end true fragment pad priority) fit before = fit
grouped_fit (Some begun) (Continuation stream true fragment) fit before = before
grouped_fit (Some begun) (Continuation stream false fragment) fit before = before
grouped_fit begun frame fit before = fit

step_by : (begun : Option Begun) (frame : Frame) (fault : Option BlockFault) → IsFit frame
    → IsFitBegun begun → IsFitStep (grouping_step begun frame fault)
unfolding grouping_step
step_by begun frame None fit before = grouped_fit begun frame fit before
step_by begun frame (Some fault) fit before = tt

first_by : (b : Bool) (step : FrameStep) (code : Code) → IsFitStep step
    → IsFitStep (if b then fails_with code else step)
first_by true step code fit = tt
first_by false step code fit = fit

step_fit : (view : View) (frame : Frame) → IsFit frame → IsFitBegun view.begun
    → IsFitStep (frame_step view frame)
unfolding frame_step
step_fit view frame fit before = search (rules, first_by, step_by)

-- The block that has begun at a log is fit.
begun_kept : (role : Role) (values : Values)
    → IsPendingInvariant role values (λ events log. IsFitBegun log.begun)
unfolding opened with_sent used
begun_kept role values = record {
  opening = λ in_range. tt;
  used = λ log octets unparsed fit. fit;
  framed = λ log frames fit. fit;
  begun = λ log begun begins fit. subst IsFitStep begins.step (step_fit (log_view
      (used begins.before begins.octets [])) begins.frame
      (taken_fit _ _ _ begins.before.frames begins.frame [] begins.framed)
      (subst IsFitBegun begins.same fit));
  complete = λ log fit. tt;
  replied = λ log decoded item verdict replies fit. sent_begun (read log decoded item) _ fit;
  named = λ log is up some fit. fit;
  reported = λ log event events may fit. fit;
  unreturned = λ events log count fit. fit;
  returned = λ events log returns fit. fit;
  failed = λ log code last names fit. fit;
  sent = λ log act accepted fit.
      sent_begun (called log act (answer_of (log_view log) act)) _ fit;
  called = λ log act answer is none fit. fit;
  given = λ log more fit. fit;
}
  where
    sent_begun : (log : Log) (items : List Item) → IsFitBegun log.begun
        → IsFitBegun (with_sent log items).begun
    sent_begun log [] fit = fit
    sent_begun log (item ∷ items) fit = fit

-- An item that a frame completes is fit.
pub completed_fit : (role : Role) (values : Values) (log : Log) (octets : List ℕ) (frame : Frame)
    (item : Item) → IsLog role values log → TakesFrame role log octets frame
    → frame_step (log_view (used log octets [])) frame ≡ completes item → IsFitItem item
unfolding used
completed_fit role values log octets frame item is framed step =
    subst IsFitStep step (step_fit _ _ (taken_fit _ _ _ _ _ [] framed)
    (pending_by_logs _ _ (λ events log. IsFitBegun log.begun) (begun_kept _ _) _ is))

-- An item that comes is fit.
pub comes_fit : (role : Role) (values : Values) (log : Log) (decoded : Option Decoded) (item : Item)
    → Comes role values decoded item log → IsFitItem item
comes_fit role values log decoded item comes =
    completed_fit role values comes.before comes.octets comes.frame item comes.is comes.framed
    comes.step
