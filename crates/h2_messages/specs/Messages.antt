-- What `h2 replay --messages` prints of an input, and the status with it.
-- contract: h2_messages::messages_input
use Rattle.std.specs.Prelude.{◌≡◌, ◌≢◌, ◌⊎◌, ◌<◌, ℕ, List, [], ◌++◌, length, drop, codes, Option}
use Rattle.std.specs.Prelude.{Some, None, Ok, MatchBool}
use Rattle.hex.specs.Hex.{decode_of, encode_lower}
use Rattle.h2_frame.specs.declared.code.Code.{Code}
use Rattle.h2_frame.specs.declared.code.Code.TheVariants.{InternalError}
use Rattle.h2_frame.specs.Codes.{name_of}
use Rattle.h2_cli.specs.declared.status.Status.{Status}
use Rattle.h2_cli.specs.declared.status.Status.TheVariants as statuses
use Rattle.h2_cli.specs.Hexadecimal.{without_blanks}
use Rattle.h2_spec_log.specs.declared.role.Role.{Role}
use Rattle.h2_conn.specs.declared.why.Why.{Why}
use Rattle.h2_conn.specs.Why.{IsWhy}
use Rattle.h2_ends.specs.Ends.{EndLog, Handed, EndTook, EndFailed}
use Rattle.h2_ends.specs.EndTakes.{EndMayTake}
use Rattle.h2_ends.specs.Represents.{new_end_log}
use Rattle.h2_events.specs.declared.options.ReplayOptions.{ReplayOptions}
use Rattle.h2_events.specs.Replayer.{first_values}
use Rattle.h2_messages.specs.PartLines.{call_lines}

-- `take` of a client or a server is called with a piece, and again with the octets that it left,
-- until they are used and nothing is handed out, or until the connection fails. These lines are
-- printed: those of each call, in order.
-- rule: messages (own) Each call of take has its lines, until the input is used
pub data TakesMessages : EndLog → (piece : List ℕ) → (fault : Option Code) → (lines : List ℕ)
    → EndLog → Type 0 where
  is_done : {end after : EndLog} → (piece : List ℕ)
      → EndMayTake end piece (EndTook (length piece) None) after
      → TakesMessages end piece None (call_lines end after None) after
  goes_on : {end between after : EndLog} → (piece : List ℕ) (count : ℕ) (handed : Option Handed)
      (fault : Option Code) (lines : List ℕ) → EndMayTake end piece (EndTook count handed) between
      → (count < length piece) ⊎ (handed ≢ None)
      → TakesMessages between (drop count piece) fault lines after
      → TakesMessages end piece fault (call_lines end between handed ++ lines) after
  has_fault : {end after : EndLog} → (piece : List ℕ) (code : Code)
      → EndMayTake end piece (EndFailed code) after
      → TakesMessages end piece (Some code) (call_lines end after None) after

-- Octets were handed to a new client or server with the first values of its settings, in pieces of
-- any length, and no other call was made; these lines are printed, and this has happened at it.
-- rule: messages (own) Each call of take has its lines, until the input is used
pub data PrintsMessages (role : Role) : (octets : List ℕ) → (lines : List ℕ) → EndLog → Type 0
  where
    begins : PrintsMessages role [] [] (new_end_log role first_values)
    takes : {end after : EndLog} → {octets lines : List ℕ} → PrintsMessages role octets lines end
        → (piece more : List ℕ) → TakesMessages end piece None more after
        → PrintsMessages role (octets ++ piece) (lines ++ more) after

-- The end took all of the octets, and these lines are printed.
-- rule: messages (own) The status is 0 only where a client or a server took it all
pub record TakesAllMessages (role : Role) (octets lines : List ℕ) : Type 0 where
  pub end : EndLog
  pub prints : PrintsMessages role octets lines end
  pub up : end.log.failed ≡ None

-- The end took the first of the octets and failed in a piece that follows them, with this code,
-- which isn't that of an end without memory, and for this reason; and these lines are printed.
-- rule: messages (own) The status is 1 only where its connection has failed
pub record FailsInMessages (role : Role) (octets : List ℕ) (code : Code) (why : Option Why)
    (lines : List ℕ) : Type 0 where
  pub taken : List ℕ
  pub piece : List ℕ
  pub unread : List ℕ
  pub split : octets ≡ (taken ++ piece) ++ unread
  pub end : EndLog
  pub after : EndLog
  pub first : List ℕ
  pub last : List ℕ
  pub prints : PrintsMessages role taken first end
  pub fails : TakesMessages end piece (Some code) last after
  pub all : lines ≡ first ++ last
  pub failed : after.log.failed ≡ Some code
  pub theirs : code ≢ InternalError
  pub reason : IsWhy first_values after.log why

-- what came of the octets, by the code with which the connection failed
abbrev pub MessagesReport : Role → (octets : List ℕ) → (fault : Option Code) → (why : Option Why)
    → (lines : List ℕ) → Type 0
MessagesReport role octets None why lines = (why ≡ None) × TakesAllMessages role octets lines
MessagesReport role octets (Some code) why lines = FailsInMessages role octets code why lines

-- the line of the code with which the connection failed, if it did
-- rule: messages (own) The status is 1 only where its connection has failed
abbrev pub fault_lines : Option Code → List ℕ
fault_lines None = []
fault_lines (Some code) = codes "fault " ++ name_of code ++ codes "\n"

-- the line of what the end puts out
-- rule: messages (own) The last line is what the end puts out, in hexadecimal
abbrev pub output_line : List ℕ → List ℕ
output_line octets = codes "out " ++ encode_lower octets ++ codes "\n"

-- Of the octets all of this is printed, and the connection has failed with this code, if it has.
-- rule: messages (own) The last line is what the end puts out, in hexadecimal
pub record PrintsOfOctets (role : Role) (octets : List ℕ) (fault : Option Code)
    (why : Option Why) (output : List ℕ) : Type 0 where
  pub lines : List ℕ
  pub put_out : List ℕ
  pub report : MessagesReport role octets fault why lines
  pub all : output ≡ lines ++ (fault_lines fault ++ output_line put_out)

-- What the status, the reason and the output report of the octets.
abbrev pub MessagesOfOctets : Role → (octets : List ℕ) → Status → (why : Option Why)
    → (output : List ℕ) → Type 0
MessagesOfOctets role octets statuses.Good why output = PrintsOfOctets role octets None why output
MessagesOfOctets role octets statuses.Fault why output =
    (code : Code) × PrintsOfOctets role octets (Some code) why output
MessagesOfOctets role octets statuses.Usage why output = ⊥
MessagesOfOctets role octets statuses.Device why output = ⊥
MessagesOfOctets role octets statuses.Memory why output = ⊥

-- the same of text that gives the octets in hexadecimal
abbrev pub MessagesOfText : Role → (text : List ℕ) → Status → (why : Option Why)
    → (output : List ℕ) → Type 0
MessagesOfText role text status why output =
    (octets : List ℕ) × (decode_of (without_blanks text) ≡ Ok octets)
    × MessagesOfOctets role octets status why output

-- What the status, the reason and the output report of the input.
-- rule: messages (own) The status is 0 only where a client or a server took it all
abbrev pub MessagesOfInput : ReplayOptions → (given : List ℕ) → Status → (why : Option Why)
    → (output : List ℕ) → Type 0
MessagesOfInput options given status why output =
    MatchBool options.hex
    (MessagesOfText options.role given status why output)
    (MessagesOfOctets options.role given status why output)
