-- A line of the common log format.
use Rattle.std.specs.Prelude.{◌≡◌, ◌≤◌, ◌⊎◌, ◌+◌, ◌/◌, ◌%◌, ◌==◌, ◌&&◌, ℕ, Bool, not, nat_lt}
use Rattle.std.specs.Prelude.{List, [], ◌∷◌, ◌++◌, codes, decimal, Option, Some, None, take, drop}
use Rattle.std.specs.Prelude.{if◌then◌else◌}
use Rattle.httpdate.specs.Date.{date_text, unix_secs}
use Rattle.httpdate.specs.declared.date.HttpDate.{HttpDate}
use Rattle.h2_folder.specs.declared.log.LogEntry.{LogEntry}

-- whether an octet stands for itself in quotes: it is printable ASCII, and no quote nor backslash
abbrev pub is_log_plain : ℕ → Bool
is_log_plain octet =
    nat_lt 31 octet && nat_lt octet 127 && not (octet == 34) && not (octet == 92)

-- the hexadecimal digit of a number below 16
abbrev pub log_digit : ℕ → ℕ
log_digit number = if nat_lt number 10 then number + 48 else number + 87

-- an octet in quotes: itself, or `\x` and two digits
-- rule: hosts (own) What a request says can't end its quotes in a log, nor its line
abbrev pub log_octet : ℕ → List ℕ
log_octet octet =
    if is_log_plain octet then octet ∷ []
    else codes "\\x" ++ log_digit (octet / 16) ∷ log_digit (octet % 16) ∷ []

-- octets in quotes
unfoldable pub log_octets : List ℕ → List ℕ
log_octets [] = []
log_octets (octet ∷ octets) = log_octet octet ++ log_octets octets

-- a time, of the text of its date: `Sun, 06 Nov 1994 08:49:37 GMT` is `06/Nov/1994:08:49:37 +0000`
abbrev pub log_time : (date : List ℕ) → List ℕ
log_time date =
    take 2 (drop 5 date) ++ codes "/" ++ take 3 (drop 8 date) ++ codes "/"
    ++ take 4 (drop 12 date) ++ codes ":" ++ take 8 (drop 17 date) ++ codes " +0000"

-- The text is that of a second; a dash from the year 10000 on.
abbrev pub IsLogTime : (seconds : ℕ) → List ℕ → Type 0
IsLogTime seconds text =
    ((date : HttpDate) × (unix_secs date ≡ seconds) × (text ≡ log_time (date_text date)))
    ⊎ ((253_402_300_800 ≤ seconds) × (text ≡ codes "-"))

-- a request, in its quotes
abbrev pub log_request : (method path : List ℕ) → List ℕ
log_request method path =
    codes "\"" ++ log_octets method ++ codes " " ++ log_octets path ++ codes " HTTP/2.0\""

-- a status, or a dash where there was no answer
abbrev pub status_or_dash : Option ℕ → List ℕ
status_or_dash None = codes "-"
status_or_dash (Some status) = decimal status

-- the answer: its status, and how many octets its body had; and the end of the line
abbrev pub log_answer : (status : Option ℕ) → (octets : ℕ) → List ℕ
log_answer status octets = status_or_dash status ++ codes " " ++ decimal octets ++ codes "\n"

-- The line of a request, whose time is written so.
-- rule: hosts (own) A line of the log has the peer, the time, the request and its answer
abbrev pub log_line : LogEntry → (time : List ℕ) → List ℕ
log_line entry time =
    entry.peer.now ++ codes " - - [" ++ time ++ codes "] "
    ++ log_request entry.method.now entry.path.now ++ codes " "
    ++ log_answer entry.status entry.octets

-- The line is that of a request.
-- rule: hosts (own) A line of the log has the peer, the time, the request and its answer
abbrev pub IsLogLine : LogEntry → List ℕ → Type 0
IsLogLine entry line =
    (time : List ℕ) × IsLogTime entry.time time × (line ≡ log_line entry time)
