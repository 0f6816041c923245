-- What an attribute `unfolding` opens at once: the rules of heads and payloads, and the parts of
-- each frame.
use Rattle.h2_frame.specs.Heads.{form_fault, fits_stream, fits_length}
use Rattle.h2_frame.specs.Frames.{payload_fault, pads_too_much, is_padded, pad_of}
use Rattle.h2_frame.specs.Encoding.{kind_of_frame, flags_of, stream_of, payload_of, has_good_values}

-- the rules of a head's form
unfoldable pub form_rules : Unit {0}
unfolding form_fault fits_stream fits_length
form_rules = tt

-- the rules of a head's form, and of its payload
unfoldable pub payload_rules : Unit {0}
unfolding form_fault fits_stream fits_length payload_fault pads_too_much is_padded pad_of
payload_rules = tt

-- what is written of each frame
unfoldable pub parts_of_frames : Unit {0}
unfolding kind_of_frame flags_of stream_of payload_of has_good_values
parts_of_frames = tt
