-- A log that reads a frame in the encoding in which it is written (RFC 9113, section 4.1).
use Rattle.std.specs.Prelude.{ℕ, ◌==◌, ◌&&◌, Bool, true, List, ◌++◌, length, Some, None}
use Rattle.hpack.specs.declared.types.field.Field.{Field}
use Rattle.hpack.specs.Tables.{Entries}
use Rattle.h2_frame.specs.Frames.{Frame, Headers}
use Rattle.h2_frame.specs.Encoding.{encoding_of}
use Rattle.h2_wire.specs.Streams.{expected_preface}
use Rattle.h2_spec_log.specs.Settings.{is_server}
use Rattle.h2_spec_log.specs.Log.{Log}
use Rattle.h2_spec_log.specs.LogSteps.{took_frame}

-- what precedes a frame: a client's preface, where it is the first frame at a server (section 3.4)
unfoldable pub before : Log → List ℕ
before log = expected_preface (is_server log.role && length log.input == 0)

-- the log after a frame that completes no field block
unfoldable pub takes : Log → Frame → Log
takes log frame = took_frame log (before log ++ encoding_of frame) None frame

-- the log after a field block in one HEADERS frame; the block decodes to these fields and leaves
-- this table (sections 4.3 and 6.2)
unfoldable pub takes_block : Log → (stream : ℕ) (end : Bool) (octets : List ℕ) → List Field
    → Entries → Log
takes_block log stream end octets fields after =
    took_frame log (before log ++ encoding_of (Headers stream end true octets None None))
    (Some (record { fields = fields; after = after })) (Headers stream end true octets None None)
