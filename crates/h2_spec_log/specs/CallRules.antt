-- What an end answers to a call, and what it writes for it, by what it has so far.
use Rattle.std.specs.Prelude.{ℕ, zero, suc, ◌+◌, ◌==◌, nat_lt, nat_le, not, ◌||◌, ◌&&◌, min, Bool}
use Rattle.std.specs.Prelude.{false, true, if◌then◌else◌, ℤ, pos, negsuc, List, [], ◌∷◌, ◌++◌}
use Rattle.std.specs.Prelude.{length, take, drop, Option, Some, None, is_some, option_map}
use Rattle.hpack.specs.declared.types.field.Field.{Field}
use Rattle.hpack.specs.Lists.{EncoderState, list_size}
use Rattle.hpack.specs.Choice.{block_of, after_block}
use Rattle.h2_frame.specs.declared.code.Code.{Code}
use Rattle.h2_frame.specs.declared.code.Code.TheVariants.{InternalError, EnhanceYourCalm}
use Rattle.h2_frame.specs.Frames.{Data, Reset, Settings, Ping, GoAway, WindowUpdate}
use Rattle.h2_block.specs.Grouping.{Item, alone, block}
use Rattle.h2_spec_log.specs.declared.role.Role.{Role}
use Rattle.h2_spec_log.specs.declared.role.Role.TheVariants.{Client, Server}
use Rattle.h2_spec_log.specs.declared.refusal.Refusal.{Refusal}
use Rattle.h2_spec_log.specs.declared.refusal.Refusal.TheVariants.{Closed, NoSuchStream, Ended}
use Rattle.h2_spec_log.specs.declared.refusal.Refusal.TheVariants.{TooManyStreams, StreamsExhausted}
use Rattle.h2_spec_log.specs.declared.refusal.Refusal.TheVariants.{GoingAway, OutputFull, PingWaits}
use Rattle.h2_spec_log.specs.declared.refusal.Refusal.TheVariants.{TooManyResets, ListTooLarge}
use Rattle.h2_spec_log.specs.declared.refusal.Refusal.TheVariants.{NotOwed, SettingsWait}
use Rattle.h2_spec_log.specs.declared.refusal.Refusal.TheVariants.{WindowTooLarge}
use Rattle.h2_spec_log.specs.Acts.{Values, Act, Answer, Open, SendFields, SendData, Release}
use Rattle.h2_spec_log.specs.Acts.{ResetStream, Refuse, SendPing, SendGoAway, Fail, PutOut}
use Rattle.h2_spec_log.specs.Acts.{ChangeSettings, Widen, Number, Count, Done}
use Rattle.h2_spec_log.specs.Settings.{is_server}
use Rattle.h2_spec_log.specs.States.{greatest_number}
use Rattle.h2_spec_log.specs.Windows.{greatest_window}
use Rattle.h2_spec_log.specs.Limits.{max_list, full_output, max_output, max_resets, max_data}
use Rattle.h2_spec_log.specs.View.{StreamView, View, ended_in, ended_out, owed_on}
use Rattle.h2_frame.specs.Codes.{code_number}

-- The conditions, of which the first that holds refuses a call; being out of memory comes after all
-- of them.

-- the first refusal of a list of conditions
-- rule: calls (own) A call does what it says, or is refused for its first condition
unfoldable pub first_of : List (Bool × Refusal) → Option Refusal
first_of [] = None
first_of ((holds, refusal) ∷ conditions) = if holds then Some refusal else first_of conditions

-- C1: the connection has failed. Output is put out all the same.
abbrev pub has_failed : View → Bool
has_failed view = is_some view.failed

-- C2: the stream isn't active.
abbrev pub is_no_stream : View → ℕ → Bool
is_no_stream view id = not (is_some (view.stream id))

-- C4: a client has as many active streams as it may (section 5.1.2).
-- rule: 5.1.2 A client has at most as many active streams as the server allows
abbrev pub has_all_streams : View → Bool
has_all_streams view = not (is_server view.role) && nat_le view.streams_allowed view.active_count

-- C5: a server opens no stream, and a client none above the greatest number.
-- rule: 5.1.1 When the numbers of 31 bits are used up no stream is opened
abbrev pub has_no_number : View → Bool
has_no_number view = is_server view.role || nat_lt greatest_number view.next_number

-- C7: so much output waits that nothing may be added.
abbrev pub is_full : View → Bool
is_full view = nat_le full_output view.waiting

-- C9: as many streams were reset as may be.
-- rule: 6.4 (own) An end resets a stream on request, and counts it
-- rule: 10.5 (own) An end that resets 1,001 streams ends with ENHANCE_YOUR_CALM
abbrev pub has_all_resets : View → Bool
has_all_resets view = nat_le max_resets view.resets

-- C10: the list is larger than may be sent.
-- rule: 10.5 (own) An own list above 65,536 octets is refused
abbrev pub is_too_large : List Field → Bool
is_too_large fields = nat_lt max_list (list_size fields)

-- C11: no octets are released, or more than are owed on the stream.
abbrev pub is_not_owed : View → ℕ → ℕ → Bool
is_not_owed view id count = count == 0 || nat_lt (owed_on (view.stream id)) count

-- C14: the connection's window is widened by nothing, or to more than the greatest (section 6.9.1).
-- rule: 6.9.2 (own) The window of the connection is widened by a call, for good
abbrev pub is_too_wide : View → ℕ → Bool
is_too_wide view count = count == 0 || nat_lt greatest_window (view.granted + count)

-- each condition with its refusal
abbrev pub if_closed : View → Bool × Refusal
if_closed view = (has_failed view, Closed)

abbrev pub if_no_stream : View → ℕ → Bool × Refusal
if_no_stream view id = (is_no_stream view id, NoSuchStream)

abbrev pub if_ended : View → ℕ → Bool × Refusal
if_ended view id = (ended_out (view.stream id), Ended)

abbrev pub if_full : View → Bool × Refusal
if_full view = (is_full view, OutputFull)

abbrev pub if_too_large : List Field → Bool × Refusal
if_too_large fields = (is_too_large fields, ListTooLarge)

-- With INTERNAL_ERROR the layer above has run out of memory, whatever the stream.
abbrev pub if_none_to_refuse : View → ℕ → ℕ → Bool × Refusal
if_none_to_refuse view id code =
    (not (code == code_number InternalError) && is_no_stream view id, NoSuchStream)

-- the conditions of each call, in order
-- rule: 5.1.1 When the numbers of 31 bits are used up no stream is opened
-- rule: 5.1.2 A client has at most as many active streams as the server allows
-- rule: 6.4 (own) An end resets a stream on request, and counts it
-- rule: 6.5.3 (own) Own SETTINGS are changed once those before are acknowledged
-- rule: 6.7 (own) One own PING at a time awaits its answer
-- rule: 6.8 No stream is opened after GOAWAY was received
-- rule: 6.8 An own GOAWAY is sent once, with the greatest stream processed
-- rule: 10.5 (own) An own list above 65,536 octets is refused
-- rule: calls (own) A call does what it says, or is refused for its first condition
unfoldable pub conditions : View → Act → List (Bool × Refusal)
conditions view (Open fields end) =
    if_closed view ∷ (has_all_streams view, TooManyStreams) ∷ (has_no_number view, StreamsExhausted)
    ∷ (view.goaway_sent || is_some view.goaway_received, GoingAway) ∷ if_full view
    ∷ if_too_large fields ∷ []
conditions view (SendFields id fields end) =
    if_closed view ∷ if_no_stream view id ∷ if_ended view id ∷ if_full view ∷ if_too_large fields
    ∷ []
conditions view (SendData id octets end) =
    if_closed view ∷ if_no_stream view id ∷ if_ended view id ∷ if_full view ∷ []
conditions view (Release id count) =
    if_closed view ∷ if_no_stream view id ∷ if_full view ∷ (is_not_owed view id count, NotOwed) ∷ []
conditions view (ResetStream id code) =
    if_closed view ∷ if_no_stream view id ∷ if_full view ∷ (has_all_resets view, TooManyResets) ∷ []
conditions view (Refuse id code) =
    if_closed view ∷ if_none_to_refuse view id code ∷ []
conditions view (SendPing octets) =
    if_closed view ∷ if_full view ∷ (is_some view.ping, PingWaits) ∷ []
conditions view SendGoAway =
    if_closed view ∷ (view.goaway_sent, GoingAway) ∷ if_full view ∷ []
conditions view (Fail code) = if_closed view ∷ []
conditions view (PutOut count) = []
conditions view (ChangeSettings values) =
    if_closed view ∷ if_full view ∷ (view.settings_wait, SettingsWait) ∷ []
conditions view (Widen count) =
    if_closed view ∷ if_full view ∷ (is_too_wide view count, WindowTooLarge) ∷ []

-- the refusal of a call, being out of memory put aside
-- rule: 5.1.1 When the numbers of 31 bits are used up no stream is opened
-- rule: calls (own) A call does what it says, or is refused for its first condition
abbrev pub refusal_of : View → Act → Option Refusal
refusal_of view act = first_of (conditions view act)

-- Credit is returned where more is unreturned than before, and less than the full output waits
-- (own).
-- rule: 6.9 Nothing of the window of the connection is lost
abbrev pub returns_credit : (more waiting : ℕ) → Bool
returns_credit more waiting = nat_lt 0 more && nat_lt waiting full_output

-- Whether a call that puts output out writes first what is unreturned.
abbrev pub returns_before_put_out : View → Bool
returns_before_put_out view = not (has_failed view) && returns_credit view.unreturned view.waiting

-- the octets of WINDOW_UPDATE, and of RST_STREAM
abbrev pub update_size : ℕ
update_size = 13

-- rule: 6.4 (own) An end resets a stream on request, and counts it
abbrev pub reset_size : ℕ
reset_size = 13

-- the octets that a window lets through: none where it is negative
abbrev pub at_least_none : ℤ → ℕ
at_least_none (pos n) = n
at_least_none (negsuc n) = 0

-- How many octets of a body are sent: as many as there are, as both windows let through, and at
-- most 65,536.
-- rule: 6.9.1 DATA is sent within both windows
abbrev pub data_count : View → Option StreamView → ℕ → ℕ
data_count view None count = 0
data_count view (Some stream) count =
    min count (min (min (at_least_none stream.send_window)
    (at_least_none view.send_window)) max_data)

-- Whether a call that sends octets of a body sends nothing, and so takes no memory: none of the
-- octets may be sent, and it isn't that there are none and the stream ends.
-- rule: calls (own) A call that sends nothing takes no memory
abbrev pub sends_no_data : View → ℕ → List ℕ → Bool → Bool
sends_no_data view id octets end =
    data_count view (view.stream id) (length octets) == 0 && not (length octets == 0 && end)

-- the answer to a call that isn't refused
-- rule: calls (own) A call does what it says, or is refused for its first condition
abbrev pub answer_of : View → Act → Answer
answer_of view (Open fields end) = Number view.next_number
answer_of view (SendFields id fields end) = Done
answer_of view (SendData id octets end) = Count (data_count view (view.stream id) (length octets))
answer_of view (Release id count) = Done
answer_of view (ResetStream id code) = Done
answer_of view (Refuse id code) = Done
answer_of view (SendPing octets) = Done
answer_of view SendGoAway = Done
answer_of view (Fail code) = Done
answer_of view (PutOut count) = Count (min count (view.waiting +
    (if returns_before_put_out view then update_size else 0)))
answer_of view (ChangeSettings values) = Done
answer_of view (Widen count) = Done

-- the greatest frame, where it isn't the one that was written last, and then these pairs
-- rule: 6.5.2 (own) MAX_FRAME_SIZE is sent where it differs from the value sent last
unfoldable pub with_max_frame : (written max_frame : ℕ) → List (ℕ × ℕ) → List (ℕ × ℕ)
with_max_frame written max_frame pairs =
    if max_frame == written then pairs else (5, max_frame) ∷ pairs

-- the pairs of own SETTINGS. A client that opens says that it takes no push; both say in their
-- opening how large a list may be. Before it the greatest frame is 16,384 (section 6.5.2).
-- rule: 3.4 Both ends begin with SETTINGS
-- rule: 6.5.2 A client sends ENABLE_PUSH 0, and a server sends no ENABLE_PUSH
unfoldable pub opening_pairs : Role → Values → List (ℕ × ℕ)
opening_pairs Client values =
    (1, values.table_limit) ∷ (2, 0) ∷ (4, values.initial_window) ∷
    with_max_frame 16384 values.max_frame ((6, max_list) ∷ [])
opening_pairs Server values =
    (1, values.table_limit) ∷ (3, values.max_streams) ∷ (4, values.initial_window) ∷
    with_max_frame 16384 values.max_frame ((6, max_list) ∷ [])

-- the pairs of SETTINGS that change own values later, the greatest frame that was written last
-- being `written`: a server sends no ENABLE_PUSH, and a client leaves it as it was
-- rule: 6.5.2 A client sends ENABLE_PUSH 0, and a server sends no ENABLE_PUSH
unfoldable pub changed_pairs : Role → (written : ℕ) → Values → List (ℕ × ℕ)
changed_pairs Client written values =
    (1, values.table_limit) ∷ (4, values.initial_window) ∷
    with_max_frame written values.max_frame []
changed_pairs Server written values =
    (1, values.table_limit) ∷ (3, values.max_streams) ∷ (4, values.initial_window) ∷
    with_max_frame written values.max_frame []

-- The DATA frames of octets, newest first, each with the most octets but the last, which has
-- END_STREAM where `end` is set. `count` is how many there may be; as many as octets, and one, are
-- always enough.
unfoldable pub data_frames : (count most : ℕ) → ℕ → List ℕ → Bool → List Item
data_frames zero most id octets end = []
data_frames (suc count) most id octets end =
    if nat_le (length octets) most then alone (Data id end octets None) ∷ []
    else data_frames count most id (drop most octets) end ++ alone (Data id false
    (take most octets) None) ∷ []

-- what `count` octets of a body give: nothing where that is none of them, save for an empty DATA
-- where there are no octets and the stream ends
unfoldable pub data_items : (most id : ℕ) → List ℕ → Bool → ℕ → List Item
data_items most id octets end count =
    if count == 0 && not (length octets == 0 && end) then []
    else data_frames (suc count) most id (take count octets) (end && count == length octets)

-- What a layer above makes of the connection that refuses a stream: the code with which it fails,
-- where that layer has run out of memory or a limit is reached; where there is none the stream is
-- reset.
-- rule: 10.5 (own) An end that resets 1,001 streams ends with ENHANCE_YOUR_CALM
-- rule: calls (own) A stream that the layer above refuses is reset
unfoldable pub refuse_fault : View → ℕ → Option Code
refuse_fault view code =
    if code == code_number InternalError then Some InternalError
    else if has_all_resets view || nat_lt max_output
    (view.waiting + reset_size) then Some EnhanceYourCalm
    else None

-- the items that a call writes with its answer, newest first
-- rule: 6.8 An own GOAWAY is sent once, with the greatest stream processed
-- rule: calls (own) A call does what it says, or is refused for its first condition
unfoldable pub items_of : View → Act → Answer → List Item
items_of view (Open fields end) (Number id) = block id end (block_of view.encoder fields) ∷ []
items_of view (SendFields id fields end) Done = block id end (block_of view.encoder fields) ∷ []
items_of view (SendData id octets end)
    (Count count) = data_items view.max_payload id octets end count
items_of view (Release id count) Done =
    alone (WindowUpdate 0 count) ∷ (if ended_in (view.stream id) then [] else alone
    (WindowUpdate id count) ∷ [])
items_of view (ResetStream id code) Done = alone (Reset id code) ∷ []
items_of view (Refuse id code) Done = alone (Reset id code) ∷ []
items_of view (SendPing octets) Done = alone (Ping false octets) ∷ []
items_of view SendGoAway Done = alone (GoAway view.last_processed 0 []) ∷ []
items_of view (ChangeSettings values) Done = alone (Settings false
    (changed_pairs view.role view.max_frame_written values)) ∷ []
items_of view (Widen count) Done = alone (WindowUpdate 0 count) ∷ []
items_of view act answer = []

-- the stream that a call may close, or 0
unfoldable pub stream_of_act : Act → ℕ
stream_of_act (Open fields end) = 0
stream_of_act (SendFields id fields end) = id
stream_of_act (SendData id octets end) = id
stream_of_act (Release id count) = id
stream_of_act (ResetStream id code) = id
stream_of_act (Refuse id code) = id
stream_of_act (SendPing octets) = 0
stream_of_act SendGoAway = 0
stream_of_act (Fail code) = 0
stream_of_act (PutOut count) = 0
stream_of_act (ChangeSettings values) = 0
stream_of_act (Widen count) = 0

-- the own encoder after a call
unfoldable pub encoder_after_call : EncoderState → Act → Answer → EncoderState
encoder_after_call encoder (Open fields end) (Number id) = after_block encoder fields
encoder_after_call encoder (SendFields id fields end) Done = after_block encoder fields
encoder_after_call encoder act answer = encoder

-- Whether a call that no condition refuses may be refused since an allocation is: refusing a stream
-- isn't, nor ending the connection, nor a call that sends nothing of a body, or puts nothing out.
-- rule: calls (own) A call that sends nothing takes no memory
unfoldable pub may_lack_memory : View → Act → Bool
may_lack_memory view (Refuse id code) = false
may_lack_memory view (Fail code) = false
may_lack_memory view (SendData id octets end) = not (sends_no_data view id octets end)
may_lack_memory view (PutOut count) =
    returns_before_put_out view || nat_lt 0 (min count view.waiting)
may_lack_memory view act = true

-- Whether the connection may fail with INTERNAL_ERROR at a call that no condition refuses, since an
-- allocation is: where a stream is refused and the connection doesn't fail of itself.
-- rule: 5.4 (own) Being out of memory hides no other fault of the connection
unfoldable pub may_fail_for_memory : View → Act → Bool
may_fail_for_memory view (Refuse id code) = not (is_some (refuse_fault view code))
may_fail_for_memory view act = false

-- The readers: what an end answers of itself. Once the connection has failed only `waiting` goes
-- on.
-- rule: calls (own) An end answers of its state, and of little once it has failed
abbrev pub reader_room : View → ℕ → Option ℤ
reader_room view id =
    if has_failed view then None
    else if id == 0 then Some view.send_window
    else option_map (λ stream. stream.send_window) (view.stream id)

abbrev pub reader_owed : View → ℕ → ℕ
reader_owed view id = if has_failed view then 0 else owed_on (view.stream id)

abbrev pub reader_due : View → ℕ
reader_due view = if has_failed view then 0 else view.unreturned

abbrev pub reader_granted : View → ℕ
reader_granted view = if has_failed view then 0 else view.granted
