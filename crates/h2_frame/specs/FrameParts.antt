-- What is written of a frame, part by part.
use Rattle.std.specs.Prelude.{◌≡◌, ◌<◌, ◌^◌, ℕ, true, None, List, [], ◌++◌, flat_map}
use Rattle.std.specs.List.{AllByRecursion}
use Rattle.byteorder.specs.Endian.{big_bytes}
use Rattle.h2_frame.specs.declared.kind.Kind.{Kind}
use Rattle.h2_frame.specs.declared.frame_parts.FixedFields.{FixedFields}
use Rattle.h2_frame.specs.declared.frame_parts.FixedFields.TheVariants.{Nothing, Priority, Ping}
use Rattle.h2_frame.specs.declared.frame_parts.FixedFields.TheVariants.{Word, TwoWords}
use Rattle.h2_frame.specs.declared.frame_parts.Body.{Body}
use Rattle.h2_frame.specs.declared.frame_parts.Body.TheVariants.{Octets, Pairs}
use Rattle.h2_frame.specs.declared.frame_parts.FrameParts.{FrameParts}
use Rattle.h2_frame.specs.Frames.{Frame}
use Rattle.h2_frame.specs.Encoding.{kind_of_frame, stream_of, flags_of, payload_of, has_good_values}
use Rattle.h2_frame.specs.Encoding.{padded, pair_octets, IsTyped}

-- the octets of the fixed fields
abbrev pub fixed_octets : FixedFields → List ℕ
fixed_octets Nothing = []
fixed_octets (Priority octets) = octets
fixed_octets (Ping octets) = octets
fixed_octets (Word word) = big_bytes 4 word
fixed_octets (TwoWords first second) = big_bytes 4 first ++ big_bytes 4 second

-- the octets of a body
abbrev pub body_octets : Body → List ℕ
body_octets (Octets octets) = octets.now
body_octets (Pairs pairs) = flat_map pair_octets pairs.now

-- the octets of a payload
abbrev pub payload_octets : FrameParts → List ℕ
payload_octets parts = padded (fixed_octets parts.fixed_fields ++ body_octets parts.body) parts.pad

-- Each pair has 16 bits of identifier and 32 of value.
abbrev pub ArePairs : List (ℕ × ℕ) → Type 0
ArePairs pairs = AllByRecursion (λ pair. (pair.0 < 2 ^ 16) × (pair.1 < 2 ^ 32)) pairs

-- The parts are those of the frame, whose numbers fit its Rust types.
pub record Describes (parts : FrameParts) (frame : Frame) : Type 0 where
  pub kind : parts.kind ≡ kind_of_frame frame
  pub flags : parts.flags ≡ flags_of frame
  pub stream : parts.stream ≡ stream_of frame
  pub payload : payload_octets parts ≡ payload_of frame
  pub values : parts.has_good_values ≡ has_good_values frame
  pub typed : IsTyped frame

-- The parts are a body alone, with no flags.
pub record IsPlain (parts : FrameParts) (of_kind : Kind) (on : ℕ) (octets : List ℕ) : Type 0 where
  pub kind : parts.kind ≡ of_kind
  pub flags : parts.flags ≡ 0
  pub stream : parts.stream ≡ on
  pub values : parts.has_good_values ≡ true
  pub pad : parts.pad ≡ None
  pub fixed_fields : parts.fixed_fields ≡ Nothing
  pub body : body_octets parts.body ≡ octets
