-- A line of each kind of frame: what the definitions make of it, written out.
use Rattle.h2_show.proofs.Names.{◌≡◌, List, ℕ, [], ◌∷◌, true, false, Some, None, codes, refl, Reset}
use Rattle.h2_show.proofs.Names.{Settings, Ping, GoAway, WindowUpdate, frame_line, frame_words}
use Rattle.std.specs.Fmt.{digits}
use Rattle.hex.specs.Hex.{encode_with}
use Rattle.h2_frame.specs.Frames.{Data, Headers, Priority, Continuation, Unknown}

-- four octets
abbrev four : List ℕ
four = 97 ∷ 98 ∷ 99 ∷ 100 ∷ []

data_alone : frame_line (Data 1 false four None) ≡ codes "DATA 1 4\n"
unfolding frame_words digits
data_alone = refl

data_ends : frame_line (Data 1 true four None) ≡ codes "DATA 1 4 end\n"
unfolding frame_words digits
data_ends = refl

data_padded : frame_line (Data 2147483647 true four (Some 0))
    ≡ codes "DATA 2147483647 5 end pad=0\n"
unfolding frame_words digits
data_padded = refl

data_padded_most : frame_line (Data 1 false [] (Some 255)) ≡ codes "DATA 1 256 pad=255\n"
unfolding frame_words digits
data_padded_most = refl

headers_alone : frame_line (Headers 1 false false four None None) ≡ codes "HEADERS 1 4\n"
unfolding frame_words digits
headers_alone = refl

headers_end : frame_line (Headers 1 true false four None None) ≡ codes "HEADERS 1 4 end\n"
unfolding frame_words digits
headers_end = refl

headers_whole : frame_line (Headers 1 false true four None None) ≡ codes "HEADERS 1 4 whole\n"
unfolding frame_words digits
headers_whole = refl

-- rule (best): show (own) The line of a frame has its type, stream, octets and more
headers_all : frame_line (Headers 1 true true four (Some 2) (Some (2 ∷ 0 ∷ 0 ∷ 0 ∷ 15 ∷ [])))
    ≡ codes "HEADERS 1 12 end whole pad=2 priority\n"
unfolding frame_words digits
headers_all = refl

priority : frame_line (Priority 3 (0 ∷ 0 ∷ 0 ∷ 0 ∷ 200 ∷ [])) ≡ codes "PRIORITY 3 5\n"
unfolding frame_words digits
priority = refl

reset : frame_line (Reset 1 8) ≡ codes "RST_STREAM 1 4 code=8\n"
unfolding frame_words digits
reset = refl

settings_none : frame_line (Settings false []) ≡ codes "SETTINGS 0 0\n"
unfolding frame_words digits
settings_none = refl

settings_acknowledged : frame_line (Settings true []) ≡ codes "SETTINGS 0 0 ack\n"
unfolding frame_words digits
settings_acknowledged = refl

settings_three : frame_line (Settings false ((3, 100) ∷ (4, 65535) ∷ (5, 16384) ∷ []))
    ≡ codes "SETTINGS 0 18 3=100 4=65535 5=16384\n"
unfolding frame_words digits
settings_three = refl

ping : frame_line (Ping false (255 ∷ 160 ∷ 2 ∷ 3 ∷ 4 ∷ 5 ∷ 6 ∷ 7 ∷ []))
    ≡ codes "PING 0 8 ffa0020304050607\n"
unfolding frame_words digits encode_with
ping = refl

ping_acknowledged : frame_line (Ping true (0 ∷ 1 ∷ 2 ∷ 3 ∷ 4 ∷ 5 ∷ 6 ∷ 7 ∷ []))
    ≡ codes "PING 0 8 ack 0001020304050607\n"
unfolding frame_words digits encode_with
ping_acknowledged = refl

goaway : frame_line (GoAway 3 0 []) ≡ codes "GOAWAY 0 8 last=3 code=0 debug=0\n"
unfolding frame_words digits
goaway = refl

goaway_with_data : frame_line (GoAway 3 11 four) ≡ codes "GOAWAY 0 12 last=3 code=11 debug=4\n"
unfolding frame_words digits
goaway_with_data = refl

window : frame_line (WindowUpdate 0 2147483647) ≡ codes "WINDOW_UPDATE 0 4 add=2147483647\n"
unfolding frame_words digits
window = refl

continuation : frame_line (Continuation 1 false four) ≡ codes "CONTINUATION 1 4\n"
unfolding frame_words digits
continuation = refl

continuation_whole : frame_line (Continuation 1 true four) ≡ codes "CONTINUATION 1 4 whole\n"
unfolding frame_words digits
continuation_whole = refl

unknown : frame_line (Unknown 10 255 7 four) ≡ codes "KIND10 7 4 flags=255\n"
unfolding frame_words digits
unknown = refl
