-- Settings that were read, and own ones that are in force (RFC 9113, section 6.5). Lists of items
-- have the newest first.
use Rattle.std.specs.Prelude.{ℕ, zero, suc, ◌+◌, ◌-◌, ◌^◌, ◌==◌, nat_lt, nat_le, ◌||◌, ◌&&◌, max}
use Rattle.std.specs.Prelude.{Bool, true}
use Rattle.std.specs.Prelude.{false, if◌then◌else◌, List, [], ◌∷◌, ◌++◌, take, Option, Some, None}
use Rattle.h2_frame.specs.declared.code.Code.{Code}
use Rattle.h2_frame.specs.declared.code.Code.TheVariants.{ProtocolError, FlowControlError}
use Rattle.h2_frame.specs.Frames.{Settings}
use Rattle.h2_block.specs.Grouping.{Item, alone}
use Rattle.h2_spec_log.specs.declared.role.Role.{Role}
use Rattle.h2_spec_log.specs.declared.role.Role.TheVariants.{Client, Server}

-- Whether the end is a server.
abbrev pub is_server : Role → Bool
is_server Client = false
is_server Server = true

-- the other end
abbrev pub peer_of : Role → Role
peer_of Client = Server
peer_of Server = Client

-- the fault of a value that an end of this role has sent: ENABLE_PUSH is 0 or 1, and 0 from a
-- server; an initial window is at most 2^31 - 1; a frame size is from 16,384 to 2^24 - 1 (section
-- 6.5.2). Other identifiers are ignored.
-- rule: 6.5.2 ENABLE_PUSH above 1 is PROTOCOL_ERROR
-- rule: 6.5.2 ENABLE_PUSH of 1 from a server is PROTOCOL_ERROR
-- rule: 6.5.2 INITIAL_WINDOW_SIZE above 2^31-1 is FLOW_CONTROL_ERROR
-- rule: 6.5.2 MAX_FRAME_SIZE below 16,384 or above 2^24-1 is PROTOCOL_ERROR
-- rule: 6.5.2 Settings of other identifiers are ignored
unfoldable pub value_fault : Role → ℕ × ℕ → Option Code
value_fault from pair =
    if pair.0 == 2 && (nat_lt 1 pair.1 || (is_server from && pair.1 == 1)) then Some ProtocolError
    else if pair.0 == 4 && nat_lt (2 ^ 31 - 1) pair.1 then Some FlowControlError
    else if pair.0 == 5 && (nat_lt pair.1 16384 || nat_lt 16777215 pair.1) then Some ProtocolError
    else None

-- the value of an identifier after these pairs, in order, where it was `before`: the last pair
-- decides
-- rule: 6.5.3 Settings apply in order: the first fault decides, the last value counts
unfoldable pub value_after : ℕ → ℕ → List (ℕ × ℕ) → ℕ
value_after id before [] = before
value_after id before (pair ∷ pairs) = value_after id (if pair.0 == id then pair.1
    else before) pairs

-- the value of an identifier after all SETTINGS of the items, where it was `first` before them
-- (section 6.5.3)
-- rule: 6.5.3 Settings apply in order: the first fault decides, the last value counts
unfoldable pub value_read : ℕ → ℕ → List Item → ℕ
value_read id first [] = first
value_read id first (alone (Settings false pairs) ∷ items) = value_after id
    (value_read id first items) pairs
value_read id first (_ ∷ items) = value_read id first items

-- 1 for SETTINGS that are no acknowledgment
unfoldable pub one_settings : Item → ℕ
one_settings (alone (Settings false pairs)) = 1
one_settings _ = 0

-- 1 for an acknowledgment of SETTINGS
unfoldable pub one_ack : Item → ℕ
one_ack (alone (Settings true pairs)) = 1
one_ack _ = 0

-- how many SETTINGS of the items are no acknowledgments
unfoldable pub settings_count : List Item → ℕ
settings_count [] = 0
settings_count (item ∷ items) = one_settings item + settings_count items

-- the pairs of each SETTINGS among the items that is no acknowledgment, the oldest first
unfoldable pub settings_of : List Item → List (List (ℕ × ℕ))
settings_of [] = []
settings_of (alone (Settings false pairs) ∷ items) = settings_of items ++ pairs ∷ []
settings_of (_ ∷ items) = settings_of items

-- the value of an identifier after these SETTINGS, in order, where it was `first` before them
unfoldable pub value_after_all : ℕ → ℕ → List (List (ℕ × ℕ)) → ℕ
value_after_all id first [] = first
value_after_all id first (pairs ∷ settings) =
    value_after_all id (value_after id first pairs) settings

-- The own value of an identifier, `count` of the own SETTINGS having been acknowledged: the value
-- after the first `count` of them. The k-th acknowledgment is of the k-th own SETTINGS (section
-- 6.5.3).
-- rule: 6.5.3 Own SETTINGS hold once they are acknowledged, and not before
-- rule: 6.9.3 Until a lower own window is acknowledged the one before it holds
abbrev pub own_value : ℕ → ℕ → ℕ → List Item → ℕ
own_value id first count sent = value_after_all id first (take count (settings_of sent))

-- the greatest of the values of the numbers from `first` to `first + more`
unfoldable pub greatest_from : (ℕ → ℕ) → (first more : ℕ) → ℕ
greatest_from value first zero = value first
greatest_from value first (suc more) = max (value first) (greatest_from value (suc first) more)

-- The most octets of a payload that may be read, `count` of the own SETTINGS having been
-- acknowledged: the greatest of the own frame sizes from the one that is in force on to the one
-- that was written last, since the peer may have applied these already (section 6.5.3). At first it
-- is 16,384.
-- rule: 4.2 The limit of an end is its greatest MAX_FRAME_SIZE of those in force
unfoldable pub payload_limit : ℕ → List Item → ℕ
payload_limit count sent =
    greatest_from (λ k. own_value 5 16384 k sent) count (settings_count sent - count)
