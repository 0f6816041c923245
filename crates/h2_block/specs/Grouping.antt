-- Field blocks in a list of frames (RFC 9113, sections 4.3, 6.2 and 6.10).
-- contract: h2_block::Gather::take
use Rattle.std.specs.Prelude.{◌≡◌, ◌⊎◌, ℕ, ◌+◌, ◌≤◌, ◌==◌, nat_lt, not, Bool, true, false}
use Rattle.std.specs.Prelude.{if◌then◌else◌, List, [], ◌∷◌, ◌++◌, length, Option, Some, None}
use Rattle.h2_frame.specs.Frames.{Frame, Data, Headers, Priority, Reset, Settings, Ping, GoAway}
use Rattle.h2_frame.specs.Frames.{WindowUpdate, Continuation, Unknown}
use Rattle.h2_block.specs.declared.fault.BlockFault.{BlockFault}
use Rattle.h2_block.specs.declared.fault.BlockFault.TheVariants.{Interrupted, Stray, TooLong}

-- the limit of a block's octets (own)
-- rule: 10.5 (own) A block of more than 65,552 octets is ENHANCE_YOUR_CALM
-- rule: 10.5 (own) What an end holds of a stream is bounded
abbrev pub max_block_octets : ℕ
max_block_octets = 65552

-- An item: a frame that is no part of a block, or a complete block with its stream, whether nothing
-- follows it on the stream, and its octets.
pub data Item : Type 0 where
  alone : (frame : Frame) → Item
  block : (stream : ℕ) (end : Bool) (octets : List ℕ) → Item

-- Whether a frame is no part of a block: it is neither HEADERS nor CONTINUATION.
-- rule: 4.3 Frames that are no part of a block pass and need no memory
unfoldable pub is_standalone : Frame → Bool
is_standalone (Data stream end octets pad) = true
is_standalone (Headers stream end whole fragment pad priority) = false
is_standalone (Priority stream octets) = true
is_standalone (Reset stream code) = true
is_standalone (Settings ack pairs) = true
is_standalone (Ping ack octets) = true
is_standalone (GoAway last code debug) = true
is_standalone (WindowUpdate stream increment) = true
is_standalone (Continuation stream whole fragment) = false
is_standalone (Unknown kind flags stream payload) = true

-- The frames are CONTINUATIONs of the stream, none of which ends the block, and the octets are
-- their fragments, joined.
abbrev pub AreContinuations : ℕ → List Frame → List ℕ → Type 0
AreContinuations stream [] octets = octets ≡ []
AreContinuations stream (frame ∷ frames) octets =
    (fragment others : List ℕ) × (frame ≡ Continuation stream false fragment)
    × (octets ≡ fragment ++ others) × AreContinuations stream frames others

-- The frames are a block that has begun and isn't complete: HEADERS that doesn't end it, and
-- CONTINUATIONs of the same stream. The octets are the fragments, joined.
-- rule: 4.3 A field block is its HEADERS' fragment and those of CONTINUATION
-- rule: 4.3 END_STREAM of a block is that of its HEADERS
pub record IsBegun (stream : ℕ) (end : Bool) (octets : List ℕ) (frames : List Frame) : Type 0 where
  pub fragment : List ℕ
  pub pad : Option ℕ
  pub priority : Option (List ℕ)
  pub following : List Frame
  pub others : List ℕ
  pub opened : frames ≡ Headers stream end false fragment pad priority ∷ following
  pub continued : AreContinuations stream following others
  pub joined : octets ≡ fragment ++ others

-- The frame is HEADERS that is a complete block by itself.
-- rule: 4.3 A field block ends with the frame that has END_HEADERS
pub record IsSingle (stream : ℕ) (end : Bool) (octets : List ℕ) (frames : List Frame) : Type 0 where
  pub pad : Option ℕ
  pub priority : Option (List ℕ)
  pub one : frames ≡ Headers stream end true octets pad priority ∷ []

-- The frames are a block that had begun, and a CONTINUATION that ends it.
-- rule: 4.3 A field block ends with the frame that has END_HEADERS
pub record IsEnded (stream : ℕ) (end : Bool) (octets : List ℕ) (frames : List Frame) : Type 0 where
  pub preceding : List Frame
  pub prefix : List ℕ
  pub last : List ℕ
  pub begun : IsBegun stream end prefix preceding
  pub ended : frames ≡ preceding ++ Continuation stream true last ∷ []
  pub joined : octets ≡ prefix ++ last

-- The frames are the item: a standalone frame, or a block within the limit.
-- rule: 4.3 A field block is its HEADERS' fragment and those of CONTINUATION
abbrev pub IsItem : Item → List Frame → Type 0
IsItem (alone frame) frames = (is_standalone frame ≡ true) × (frames ≡ frame ∷ [])
IsItem (block stream end octets) frames =
    (IsSingle stream end octets frames ⊎ IsEnded stream end octets frames)
    × (length octets ≤ max_block_octets)

-- The frames are these items, one after another.
abbrev pub AreItems : List Item → List Frame → Type 0
AreItems [] frames = frames ≡ []
AreItems (item ∷ items) frames =
    (first others : List Frame) × (frames ≡ first ++ others) × IsItem item first
    × AreItems items others

-- a block that has begun: its stream, whether nothing follows it on the stream, and its octets so
-- far
pub record Begun : Type 0 where
  pub stream : ℕ
  pub end : Bool
  pub octets : List ℕ

-- The frames at the end are a block that has begun, or none.
abbrev pub IsLeft : Option Begun → List Frame → Type 0
IsLeft None frames = frames ≡ []
IsLeft (Some begun) frames = IsBegun begun.stream begun.end begun.octets frames
    × (length begun.octets ≤ max_block_octets)

-- So far the frames are the items, and then a block that has begun, or none.
-- rule: 4.3 A field block is its HEADERS' fragment and those of CONTINUATION
-- rule (law): 4.3 Each list of frames groups or has a fault; prefixes agree
pub record Groups (frames : List Frame) (items : List Item) (begun : Option Begun) : Type 0 where
  pub complete : List Frame
  pub left : List Frame
  pub joined : frames ≡ complete ++ left
  pub grouped : AreItems items complete
  pub unfinished : IsLeft begun left

-- The fault of a frame outside blocks: CONTINUATION is stray (section 6.10), and HEADERS begin no
-- block above the limit.
-- rule: 6.10 A CONTINUATION outside a block is PROTOCOL_ERROR
-- rule: 10.5 (own) A block of more than 65,552 octets is ENHANCE_YOUR_CALM
unfoldable pub fault_outside : Frame → Option BlockFault
fault_outside (Data stream end octets pad) = None
fault_outside (Headers stream end whole fragment pad priority) =
    if nat_lt max_block_octets (length fragment) then Some TooLong else None
fault_outside (Priority stream octets) = None
fault_outside (Reset stream code) = None
fault_outside (Settings ack pairs) = None
fault_outside (Ping ack octets) = None
fault_outside (GoAway last code debug) = None
fault_outside (WindowUpdate stream increment) = None
fault_outside (Continuation stream whole fragment) = Some Stray
fault_outside (Unknown kind flags stream payload) = None

-- The fault of a frame inside a block: anything but a CONTINUATION of its stream, an unknown kind
-- too, interrupts it (section 6.10); and the block stays within the limit.
-- rule: 5.5 A frame of an unknown type inside a block is PROTOCOL_ERROR
-- rule: 6.10 Inside a block any frame but its CONTINUATION is PROTOCOL_ERROR
-- rule: 6.10 A CONTINUATION of another stream inside a block is PROTOCOL_ERROR
-- rule: 10.5 (own) A block of more than 65,552 octets is ENHANCE_YOUR_CALM
unfoldable pub fault_inside : Begun → Frame → Option BlockFault
fault_inside begun (Data stream end octets pad) = Some Interrupted
fault_inside begun (Headers stream end whole fragment pad priority) = Some Interrupted
fault_inside begun (Priority stream octets) = Some Interrupted
fault_inside begun (Reset stream code) = Some Interrupted
fault_inside begun (Settings ack pairs) = Some Interrupted
fault_inside begun (Ping ack octets) = Some Interrupted
fault_inside begun (GoAway last code debug) = Some Interrupted
fault_inside begun (WindowUpdate stream increment) = Some Interrupted
fault_inside begun (Continuation stream whole fragment) =
    if not (stream == begun.stream) then Some Interrupted
    else if nat_lt max_block_octets (length begun.octets + length fragment) then Some TooLong
    else None
fault_inside begun (Unknown kind flags stream payload) = Some Interrupted

-- the fault of the frame that comes next
-- rule: 6.10 Inside a block any frame but its CONTINUATION is PROTOCOL_ERROR
abbrev pub next_fault : Option Begun → Frame → Option BlockFault
next_fault None frame = fault_outside frame
next_fault (Some begun) frame = fault_inside begun frame

-- The last of the frames is at fault; those that precede it are the items, and then a block that
-- has begun, or none. Nothing from it on is an item.
-- rule: 6.10 Inside a block any frame but its CONTINUATION is PROTOCOL_ERROR
-- rule (law): 4.3 Each list of frames groups or has a fault; prefixes agree
pub record GroupingFaultAt (frames : List Frame) (items : List Item)
    (fault : BlockFault) : Type 0 where
  pub preceding : List Frame
  pub last : Frame
  pub begun : Option Begun
  pub joined : frames ≡ preceding ++ last ∷ []
  pub grouped : Groups preceding items begun
  pub faulty : next_fault begun last ≡ Some fault
