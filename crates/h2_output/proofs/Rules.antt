-- What an attribute `unfolding` opens at once: whether a frame is written, and its encoding.
use Rattle.h2_frame.specs.Heads.{fits_stream}
use Rattle.h2_frame.specs.Encoding.{encoding_of, refusal, kind_of_frame, flags_of, stream_of}
use Rattle.h2_frame.specs.Encoding.{payload_of, has_good_values}

-- whether a frame is written, and its encoding
unfoldable pub written_frames : Unit {0}
unfolding encoding_of refusal kind_of_frame flags_of stream_of payload_of has_good_values
    fits_stream
written_frames = tt
