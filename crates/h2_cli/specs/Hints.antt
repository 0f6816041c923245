-- Which hint is due beside the line of a failure, and its text.
use Rattle.std.specs.Prelude.{◌≡◌, ◌<◌, ℕ, Bool, ◌||◌, List, [], ◌∷◌, ◌++◌, Option, Some, None}
use Rattle.std.specs.Prelude.{MatchBool, codes, decimal, nat_eq}
use Rattle.std.specs.List.{starts_with}
use Rattle.std.specs.declared.io.ErrorKind.{ErrorKind}
use Rattle.std.specs.declared.io.ErrorKind.TheVariants as kinds
use Rattle.h2_frame.specs.Codes.{code_number, name_of}
use Rattle.h2_cli.specs.declared.hint.Hint.{Hint}
use Rattle.h2_cli.specs.declared.hint.Hint.TheVariants as hints

-- the octets begin with these
abbrev pub begins_with : List ℕ → List ℕ → Bool
begins_with octets first = starts_with nat_eq octets first

-- the octets are those of a capture in the format pcap: they begin with its magic number, of which
-- there are two, for times in microseconds and in nanoseconds, each in two orders of octets
abbrev pub is_pcap : List ℕ → Bool
is_pcap octets = begins_with octets (0xd4 ∷ 0xc3 ∷ 0xb2 ∷ 0xa1 ∷ [])
    || begins_with octets (0xa1 ∷ 0xb2 ∷ 0xc3 ∷ 0xd4 ∷ [])
    || begins_with octets (0x4d ∷ 0x3c ∷ 0xb2 ∷ 0xa1 ∷ [])
    || begins_with octets (0xa1 ∷ 0xb2 ∷ 0x3c ∷ 0x4d ∷ [])

-- the octets are those of a capture in the format pcapng: they begin with the type of its first
-- block
abbrev pub is_pcapng : List ℕ → Bool
is_pcapng octets = begins_with octets (0x0a ∷ 0x0d ∷ 0x0d ∷ 0x0a ∷ [])

-- the octets are those of a capture
abbrev pub is_capture : List ℕ → Bool
is_capture octets = is_pcap octets || is_pcapng octets

-- the octets are a response of HTTP/1.0 or HTTP/1.1 (RFC 9112, section 4)
abbrev pub answers_http1 : List ℕ → Bool
answers_http1 octets = begins_with octets (codes "HTTP/1")

-- the octets are a request of HTTP/1.0 or HTTP/1.1 (RFC 9112, section 3): they begin with a method
-- (RFC 9110, section 9; RFC 5789) and a space
abbrev pub asks_http1 : List ℕ → Bool
asks_http1 octets = begins_with octets (codes "GET ") || begins_with octets (codes "HEAD ")
    || begins_with octets (codes "POST ") || begins_with octets (codes "PUT ")
    || begins_with octets (codes "DELETE ") || begins_with octets (codes "OPTIONS ")
    || begins_with octets (codes "PATCH ")

-- The hint names the error code with this number (RFC 9113, section 7); there is none where no code
-- has it.
abbrev pub NamesCode : (number : ℕ) → Option Hint → Type 0
NamesCode number None = 13 < number
NamesCode number (Some (hints.ErrorCode code)) = code_number code ≡ number
NamesCode number (Some other) = ⊥

-- The hint that is due at a client whose connection has failed with this code, by the first octets
-- that the server sent.
abbrev pub IsDueAtClient : (number : ℕ) → (first : List ℕ) → Option Hint → Type 0
IsDueAtClient number first hint =
    MatchBool (answers_http1 first) (hint ≡ Some hints.Http1Server) (NamesCode number hint)

-- The hint that is due at a server whose connection has failed with this code, by the first octets
-- that the client sent.
abbrev pub IsDueAtServer : (number : ℕ) → (first : List ℕ) → Option Hint → Type 0
IsDueAtServer number first hint =
    MatchBool (asks_http1 first) (hint ≡ Some hints.Http1Client) (NamesCode number hint)

-- the hint for a call of a socket that has failed with an error of this kind, if there is one
abbrev pub device_hint : ErrorKind → Option Hint
device_hint kinds.ConnectionRefused = Some hints.ConnectionRefused
device_hint kinds.ConnectionReset = Some hints.ConnectionReset
device_hint kinds.ConnectionAborted = Some hints.ConnectionReset
device_hint kinds.BrokenPipe = Some hints.ConnectionReset
device_hint kinds.HostUnreachable = Some hints.HostUnreachable
device_hint kinds.NetworkUnreachable = Some hints.HostUnreachable
device_hint kinds.TimedOut = Some hints.HostUnreachable
device_hint kinds.AddrInUse = Some hints.PortInUse
device_hint kinds.PermissionDenied = Some hints.PortForbidden
device_hint kind = None

-- The same for a host that could not be connected to: its name is looked up first, and an error of
-- that has no kind of its own.
abbrev pub connect_hint : ErrorKind → Option Hint
connect_hint kinds.Uncategorized = Some hints.UnknownHost
connect_hint kind = device_hint kind

-- the text of a hint
abbrev pub hint_text : Hint → List ℕ
hint_text hints.Capture =
    codes "the input is a packet capture: see h2 show --help for how to read it"
hint_text hints.Http1Server = codes "the server speaks HTTP/1.1, not HTTP/2"
hint_text hints.Http1Client =
    codes "the client speaks HTTP/1.1: try curl --http2-prior-knowledge"
hint_text (hints.ErrorCode code) = decimal (code_number code) ++ (codes " is " ++ name_of code)
hint_text hints.ConnectionRefused = codes "connection refused: nothing is listening on that port"
hint_text hints.ConnectionReset = codes "connection reset by peer"
hint_text hints.HostUnreachable = codes "the host is unreachable"
hint_text hints.PortInUse = codes "the port is already in use"
hint_text hints.PortForbidden = codes "no permission to use the port"
hint_text hints.UnknownHost = codes "the host name could not be resolved"

-- the line of a hint
abbrev pub hint_line : Hint → List ℕ
hint_line hint = codes "hint: " ++ (hint_text hint ++ codes "\n")

-- the line of the hint that is due, if one is
abbrev pub lines_of_hint : Option Hint → List ℕ
lines_of_hint None = []
lines_of_hint (Some hint) = hint_line hint
