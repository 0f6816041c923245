-- The state of a stream, by what was read and written, and by what was reported (RFC 9113, section
-- 5.1). `Status` of h2_core draws the states and what leads from one to another.
use Rattle.std.specs.Prelude.{ℕ, zero, suc, min, ◌+◌, ◌-◌, ◌^◌, ◌%◌, ◌==◌, nat_lt, not, ◌||◌, ◌&&◌}
use Rattle.std.specs.Prelude.{Bool, true, false, if◌then◌else◌, List, [], ◌∷◌, Option, Some, None}
use Rattle.std.specs.List.{list_any}
use Rattle.h2_block.specs.Grouping.{Item, alone, block}
use Rattle.h2_spec_log.specs.declared.role.Role.{Role}
use Rattle.h2_spec_log.specs.declared.role.Role.TheVariants.{Client, Server}
use Rattle.h2_spec_log.specs.Items.{is_block_on, opens_from, ends, resets, is_goaway_below}
use Rattle.h2_spec_log.specs.Events.{Event, reports_unprocessed}

pub data State : Type 0 where
  -- "idle": nothing was opened with its number or a greater one
  Idle : State
  -- "open" or "half-closed": opened, and neither ended by both sides, nor reset, nor named
  -- unprocessed
  Active : State
  -- "closed": reset by this end, or above the last stream of this end's GOAWAY
  ClosedByUs : State
  -- "closed": over in any other way
  Closed : State

-- the greatest number of a stream (section 5.1.1)
abbrev pub greatest_number : ℕ
greatest_number = 2 ^ 31 - 1

-- one where the test holds
abbrev pub when : {A : Type 0} → Bool → A → Option A
when true one = Some one
when false one = None

-- the list that has the blocks which open streams: what the client wrote (section 5.1.1); a server
-- opens none, since this profile has no push
abbrev pub openings : Role → List Item → List Item → List Item
openings Client received sent = sent
openings Server received sent = received

-- Whether the number was used: it is odd, and a stream with it or with a greater number was opened,
-- or would have been if it hadn't been refused. Even numbers are never used.
-- rule: 5.1 A stream has one state, by what was received and sent
-- rule: 5.1.1 A stream that is opened closes all lower idle ones
unfoldable pub is_used : Role → ℕ → List Item → List Item → Bool
is_used role i received sent = i % 2 == 1 && list_any (opens_from i) (openings role received sent)

-- Whether the number is above the last stream of a GOAWAY that this end wrote, where the peer opens
-- the streams.
-- rule: 6.8 Streams above the last of an own GOAWAY are ignored
unfoldable pub is_above : Role → ℕ → List Item → Bool
is_above Client i sent = false
is_above Server i sent = list_any (is_goaway_below i) sent

-- Whether the stream is over: both sides have ended it, or one has reset it.
-- rule: 5.1 A stream has one state, by what was received and sent
unfoldable pub is_over : ℕ → List Item → List Item → Bool
is_over i received sent =
    (list_any (ends i) received && list_any (ends i) sent) || list_any
    (resets i) received || list_any (resets i) sent

-- Whether the stream is active: it was opened, isn't above an own GOAWAY's last stream, isn't over,
-- and wasn't named unprocessed.
-- rule: 5.1 A stream has one state, by what was received and sent
-- rule: 6.1 END_STREAM of DATA ends the stream of the sender
unfoldable pub is_active : Role → ℕ → List Item → List Item → List Event → Bool
is_active role i received sent reported =
    i % 2 == 1 && list_any (is_block_on i) (openings role received sent) && not
    (is_above role i sent) && not (is_over i received sent)
    && not (list_any (reports_unprocessed i) reported)

-- Whether this end has reset the stream, or has said that it won't take it.
-- rule: 5.1 A stream has one state, by what was received and sent
unfoldable pub is_closed_by_us : Role → ℕ → List Item → Bool
is_closed_by_us role i sent = list_any (resets i) sent || is_above role i sent

-- the first of the states that holds
-- rule: 5.1 A stream has one state, by what was received and sent
abbrev pub state_by : (used active closed_by_us : Bool) → State
state_by used active closed_by_us = if not used then Idle else if active then Active
    else if closed_by_us then ClosedByUs else Closed

-- the state of a stream
-- rule: 5.1 A stream has one state, by what was received and sent
abbrev pub stream_state : Role → ℕ → List Item → List Item → List Event → State
stream_state role i received sent reported = state_by (is_used role i received sent)
    (is_active role i received sent reported) (is_closed_by_us role i sent)

-- how many of the numbers below a bound pass
unfoldable pub count_below : ℕ → (ℕ → Bool) → ℕ
count_below zero test = 0
count_below (suc n) test = (if test n then 1 else 0) + count_below n test

-- the lesser of two numbers of streams, of which 0 is none
unfoldable pub lesser_number : ℕ → ℕ → ℕ
lesser_number i zero = i
lesser_number i (suc j) = min i (suc j)

-- the least number that passes, among those of the items' blocks, or 0
unfoldable pub least_block : (ℕ → Bool) → List Item → ℕ
least_block test [] = 0
least_block test (block stream end octets ∷ items) =
    if test stream then lesser_number stream (least_block test items) else least_block test items
least_block test (alone frame ∷ items) = least_block test items

-- Whether a number that passes is among those of the items' blocks.
unfoldable pub any_block : (ℕ → Bool) → List Item → Bool
any_block test [] = false
any_block test (block stream end octets ∷ items) = test stream || any_block test items
any_block test (alone frame ∷ items) = any_block test items
