-- The lines of `h2 show` as data: what each of them says, in whatever style it is printed.
use Rattle.std.specs.Prelude.{ℕ, ◌+◌, nat_le, if◌then◌else◌, List, length, Option, Some, None}
use Rattle.hpack.specs.declared.types.field.Field.{Field}
use Rattle.hpack.specs.declared.types.field.Decoded.{Decoded}
use Rattle.hpack.specs.declared.types.field.Decoded.TheVariants.{Whole, TooLarge}
use Rattle.hpack.specs.Lists.{list_size}
use Rattle.h2_frame.specs.declared.code.Code.{Code}
use Rattle.h2_frame.specs.Frames.{Frame}
use Rattle.h2_frame.specs.Encoding.{payload_of}

-- the fields of a block that are shown, or that they are too large for that
-- rule: show (own) A list above 65,536 octets has one line, without fields
pub data Listing : Type 0 where
  listed : (fields : List Field) → Listing
  too_large : Listing

-- A line: of the preface; of a frame, with the list of the block that it ends, where it ends one; of
-- a fault, with the number of the octet that is at fault; of the octets that are left of a frame or
-- of the preface; or of a block that has begun and isn't complete.
-- rule: show (own) An input has one output: preface, frames, then how it ends
pub data ShowLine : Type 0 where
  preface_shown : ShowLine
  frame_shown : (frame : Frame) (listing : Option Listing) → ShowLine
  fault_shown : (code : Code) (place : ℕ) → ShowLine
  rest_shown : (count : ℕ) → ShowLine
  unfinished_shown : ShowLine

-- the greatest size of a list that is shown (own)
-- rule: show (own) A list above 65,536 octets has one line, without fields
abbrev pub show_list_limit : ℕ
show_list_limit = 65536

-- what is shown of a block's fields
-- rule: show (own) A list above 65,536 octets has one line, without fields
abbrev pub listing_of : List Field → Listing
listing_of fields = if nat_le (list_size fields) show_list_limit then listed fields else too_large

-- what is shown of the block that a frame ends, where it ends one, by the list that a decoder gave
-- rule: show (own) A list above 65,536 octets has one line, without fields
abbrev pub decoded_listing : Option Decoded → List Field → Option Listing
decoded_listing None fields = None
decoded_listing (Some Whole) fields = Some (listed fields)
decoded_listing (Some TooLarge) fields = Some too_large

-- the octets of the input that a line shows: those of the preface, or of a frame with its head
-- rule: show (own) The words choose names, places, colors and JSON
abbrev pub octets_of_line : ShowLine → ℕ
octets_of_line preface_shown = 24
octets_of_line (frame_shown frame listing) = 9 + length (payload_of frame)
octets_of_line (fault_shown code place) = 0
octets_of_line (rest_shown count) = 0
octets_of_line unfinished_shown = 0
