-- The limits of this profile (own; RFC 9113, section 10.5).
use Rattle.std.specs.Prelude.{ℕ}

-- the greatest size of a header list that is reported or sent (section 6.5.2)
-- rule: 10.5.1 A list above 65,536 octets is a stream error ENHANCE_YOUR_CALM
abbrev pub max_list : ℕ
max_list = 65536

-- the waiting output from which calls are refused and no credit is returned
abbrev pub full_output : ℕ
full_output = 65536

-- the waiting output that no reply may exceed
-- rule: 10.5 (own) Replies above 262,144 waiting octets are ENHANCE_YOUR_CALM
abbrev pub max_output : ℕ
max_output = 262144

-- the most streams that an end resets on a connection
-- rule: 10.5 (own) An end that resets 1,001 streams ends with ENHANCE_YOUR_CALM
abbrev pub max_resets : ℕ
max_resets = 1000

-- the most octets of a frame's payload that an end sends, whatever its peer reads (section 4.2)
-- rule: 4.2 (own) Payloads of at most 65,536 octets are sent, where the peer reads them
abbrev pub max_frame_size_sent : ℕ
max_frame_size_sent = 65536

-- the most octets that one call sends of a body
abbrev pub max_data : ℕ
max_data = 65536

-- the bounds of the values of an end's own settings: the greatest table limit; the least and the
-- greatest number of streams, and frame. An initial window is from 1 to the greatest window.
abbrev pub max_table_limit : ℕ
max_table_limit = 65536

abbrev pub least_max_streams : ℕ
least_max_streams = 100

abbrev pub most_max_streams : ℕ
most_max_streams = 1000

abbrev pub least_max_frame : ℕ
least_max_frame = 16384

abbrev pub most_max_frame : ℕ
most_max_frame = 1048576
