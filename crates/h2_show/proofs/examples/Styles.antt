-- Lines with names, places and colors, and as JSON, written out.
use Rattle.h2_show.proofs.Names.{◌≡◌, List, ℕ, [], ◌∷◌, ◌++◌, true, false, Some, None, codes, refl}
use Rattle.h2_show.proofs.Names.{Reset, Settings, Ping, GoAway, preface_shown, frame_shown}
use Rattle.h2_show.proofs.Names.{fault_shown, rest_shown, unfinished_shown, styled_text, frame_words}
use Rattle.std.specs.Fmt.{digits}
use Rattle.std.specs.Str.{is_utf8}
use Rattle.json.specs.Print.{escape_byte, print_from}
use Rattle.h2_frame.specs.Encoding.{kind_of_frame, payload_of, stream_of}
use Rattle.h2_frame.specs.Frames.{Data, Headers}
use Rattle.h2_frame.specs.declared.code.Code.TheVariants.{FrameSizeError, ProtocolError}
use Rattle.h2_show.specs.declared.options.Style.TheVariants.{Plain, Text, Json}
use Rattle.h2_show.specs.ShownLines.{listed, too_large}
use Rattle.h2_show.specs.Named.{code_name, setting_name}
use Rattle.h2_show.specs.StyledLines.{named_words, styled_line, ten_digits}
use Rattle.h2_show.specs.JsonLines.{json_line, more_members}

-- rule: show (own) Settings and error codes have their names where words ask for them
named_settings : named_words (Settings false ((3, 100) ∷ (8, 1) ∷ (6, 9) ∷ []))
    ≡ codes "SETTINGS 0 18 MAX_CONCURRENT_STREAMS=100 8=1 MAX_HEADER_LIST_SIZE=9"
unfolding named_words digits
named_settings = refl

named_reset : named_words (Reset 1 8) ≡ codes "RST_STREAM 1 4 code=8 CANCEL"
unfolding named_words frame_words digits
named_reset = refl

-- rule: show (own) Settings and error codes have their names where words ask for them
unnamed_reset : named_words (Reset 1 14) ≡ codes "RST_STREAM 1 4 code=14"
unfolding named_words frame_words digits
unnamed_reset = refl

named_goaway : named_words (GoAway 3 13 []) ≡ codes "GOAWAY 0 8 last=3 code=13 HTTP_1_1_REQUIRED debug=0"
unfolding named_words digits
named_goaway = refl

last_setting : setting_name 6 ≡ Some (codes "MAX_HEADER_LIST_SIZE")
last_setting = refl

no_setting : setting_name 7 ≡ None
no_setting = refl

first_code : code_name 0 ≡ Some (codes "NO_ERROR")
first_code = refl

no_code : code_name 14 ≡ None
no_code = refl

-- rule: show (own) A frame's place is the number of its first octet, in ten digits
a_place : ten_digits 25 ≡ codes "0000000025"
unfolding digits
a_place = refl

a_long_place : ten_digits 12345678901 ≡ codes "12345678901"
unfolding digits
a_long_place = refl

-- The second frame follows the 9 octets of the first one's head and its payload.
places : styled_text (Text (record { names = false; places = true; colors = false }))
    (preface_shown ∷ frame_shown (Settings false ((3, 100) ∷ [])) None
    ∷ frame_shown (Reset 1 8) None ∷ fault_shown FrameSizeError 62 ∷ [])
    ≡ codes "0000000001 preface\n0000000025 SETTINGS 0 6 3=100\n0000000040 RST_STREAM 1 4 code=8\n"
    ++ codes "fault FRAME_SIZE_ERROR at 62\n"
unfolding frame_words payload_of digits
places = refl

-- ESC, the sequence's octet that codes can't write
abbrev esc : List ℕ
esc = 27 ∷ []

-- rule: show (own) Colors begin and end within each line
colored_frame : styled_line (record { names = false; places = false; colors = true }) 1
    (frame_shown (Headers 1 true true [] None None)
    (Some (listed (record { name = codes "a"; value = codes "b"; sensitive = false } ∷ []))))
    ≡ esc ++ codes "[1mHEADERS" ++ esc ++ codes "[0m 1 0 end whole\n" ++ esc ++ codes "[2m  a: b"
    ++ esc ++ codes "[0m\n"
unfolding frame_words digits
colored_frame = refl

colored_fault : styled_line (record { names = true; places = true; colors = true }) 1
    (fault_shown ProtocolError 9)
    ≡ esc ++ codes "[31mfault PROTOCOL_ERROR at 9" ++ esc ++ codes "[0m\n"
unfolding digits
colored_fault = refl

-- rule: show (own) With --json each line is a JSON object
json_preface : json_line 1 preface_shown ≡ codes "{\"at\":1,\"type\":\"preface\"}\n"
unfolding print_from escape_byte digits
json_preface = refl

json_reset : json_line 25 (frame_shown (Reset 1 8) None)
    ≡ codes "{\"at\":25,\"type\":\"RST_STREAM\",\"stream\":1,\"length\":4,\"code\":8,"
    ++ codes "\"name\":\"CANCEL\"}\n"
unfolding print_from escape_byte digits more_members kind_of_frame stream_of payload_of
json_reset = refl

json_fault : json_line 25 (fault_shown FrameSizeError 33)
    ≡ codes "{\"at\":33,\"type\":\"fault\",\"code\":6,\"name\":\"FRAME_SIZE_ERROR\"}\n"
unfolding print_from escape_byte digits
json_fault = refl

json_too_large : json_line 1 (frame_shown (Headers 1 true true [] None None) (Some too_large))
    ≡ codes "{\"at\":1,\"type\":\"HEADERS\",\"stream\":1,\"length\":0,\"end\":true,\"whole\":true,"
    ++ codes "\"priority\":false}\n{\"at\":1,\"type\":\"list too large\"}\n"
unfolding print_from escape_byte digits more_members kind_of_frame stream_of payload_of
json_too_large = refl
