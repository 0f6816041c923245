-- The windows after a round, and how much a pump sends in the next one of the lowest stream on
-- which something waits.
use Rattle.h2_laws_quiet.proofs.WorkOfLogs.{KeepsCredit}
use Rattle.std.proofs.Common.{◌≡◌, ◌≢◌, inl, inr, ℕ, ◌+◌, ◌-◌, ◌≤◌, min, Bool, true}
use Rattle.std.proofs.Common.{false, List, [], ◌∷◌, ◌++◌, length, refl, sym, ap, ap₂, ◌∙◌, arith}
use Rattle.std.proofs.Common.{subst, pos, not, suc, ◌-ℤ◌, ◌+ℤ◌}
use Rattle.std.proofs.lemmas.Bool.{cases_Bool, false_from_ne_true, or_from}
use Rattle.std.proofs.lemmas.Bool.{and_parts}
use Rattle.std.proofs.lemmas.Int.{ints}
use Rattle.std.proofs.lemmas.List.{nil_from_length}
use Rattle.std.specs.List.{list_any}
use Rattle.h2_block.specs.Grouping.{Item}
use Rattle.h2_spec_log.specs.declared.role.Role.{Role}
use Rattle.h2_spec_log.specs.declared.role.Role.TheVariants.{Client, Server}
use Rattle.h2_spec_log.specs.Acts.{Values}
use Rattle.h2_spec_log.specs.Histories.{IsLog}
use Rattle.h2_spec_log.specs.Items.{data_of, data_on, increment_on, total, ends, resets}
use Rattle.h2_spec_log.specs.Items.{is_goaway_below}
use Rattle.h2_spec_log.specs.Limits.{max_data}
use Rattle.h2_spec_log.specs.Log.{Log, active, owed, send_window, state, next_unprocessed}
use Rattle.h2_spec_log.specs.Settings.{is_server, one_settings, value_read}
use Rattle.h2_spec_log.specs.States.{ClosedByUs, state_by, is_above}
unfoldable use Rattle.h2_spec_log.specs.States.{is_closed_by_us}
use Rattle.h2_spec_log.specs.Windows.{first_window, connection_send_window}
unfoldable use Rattle.h2_spec_log.specs.Windows.{given_on, given_on_connection}
use Rattle.h2_laws_log.proofs.ItemLists.{any_after, none_after}
use Rattle.h2_laws_log.proofs.LogViewLemmas.{client_above, natural_by}
use Rattle.h2_laws_log.proofs.ReaderStates.{active_parts, lasts_parts}
use Rattle.h2_laws_log.proofs.WindowsOfTwoEnds.{total-append}
use Rattle.h2_laws_end.specs.Over.{has_room}
use Rattle.h2_laws_pair.specs.Directions.{IsCarried}
use Rattle.h2_laws_pair.specs.Quiet.{NoneCouldGo}
use Rattle.h2_laws_pair.specs.Tokens.{Token, FieldsToken, OctetToken, EndToken}
use Rattle.h2_laws_pair.proofs.BothWays.{back_of, ends_of}
use Rattle.h2_laws_pair.proofs.CarriedItems.{way_of}
use Rattle.h2_laws_pair.proofs.HeardWhole.{above_server, least_below}
use Rattle.h2_laws_pair.proofs.NamedUnprocessed.{none_above}
use Rattle.h2_laws_pair.proofs.StreamWindows.{stream_conserved}
use Rattle.h2_ends.specs.Ends.{EndLog, said_for, tokens_out, tokens_waiting}
unfoldable use Rattle.h2_ends.specs.EndCalls.{octets_among}
use Rattle.h2_ends.specs.EndCalls.{IsStuckOn}
use Rattle.h2_ends.specs.Represents.{SendsInOrder}
use Rattle.h2_ends.proofs.EndOrder.{waiting_of}
use Rattle.h2_laws_quiet.specs.Going.{most_sendable}
use Rattle.h2_laws_quiet.specs.Work.{credit_left}
unfoldable use Rattle.h2_laws_quiet.specs.Work.{tokens_on}
use Rattle.h2_laws_quiet.proofs.FewItems.{value_stays}
use Rattle.h2_laws_quiet.proofs.FewTurns.{Between}
use Rattle.h2_laws_quiet.proofs.PumpGoes.{none_by}
use Rattle.h2_laws_quiet.proofs.QuietMessages.{goes_on_by}
use Rattle.h2_laws_quiet.proofs.WorkOfLogs.{credit_is}

-- What an end owes and has not returned, between two ends of a pair.
pub credit_between : (w r : EndLog) → Between w r
    → KeepsCredit r.log
credit_between w r b =
    let ends = ends_of _ _ b.direction in
    credit_is ends.reader_role ends.reader_values r.log ends.reader_log b.up

-- No more increments have come than were sent.
pub increments_between : (w r : EndLog) (i : ℕ) → Between w r
    → total (increment_on i) w.log.received ≤ total (increment_on i) r.log.sent
increments_between w r i b =
    let back = way_of _ _ (back_of _ _ b.direction) in
    omega (
      arith,
      ap (total (increment_on i)) back.1,
      total-append (increment_on i) back.0 w.log.received,
    )

-- On a stream that goes on the reader has returned, or owes, all DATA that it has read.
balanced : (given read_back taken way back owes value come : ℕ) → given ≡ value + read_back
    → ((pos given -ℤ pos taken) +ℤ pos way) +ℤ pos (back + owes) ≡ pos value
    → taken ≡ way + come → (back + read_back) + owes ≡ come
balanced given read_back taken way back owes value come is conserved sum =
    omega (arith, ints, is, conserved, sum)

pub stream_between : (w r : EndLog) (i : ℕ) → Between w r → IsCarried w.log r.log i
    → total (increment_on i) r.log.sent + owed r.log i ≡ total (data_on i) r.log.received
unfolding given_on
stream_between w r i b carried =
    let way = way_of _ _ b.direction in
    let back = way_of _ _ (back_of _ _ b.direction) in
    let sent = ap (total (data_on i)) way.1 ∙ total-append (data_on i) way.0 r.log.received in
    let sum = ap (total (increment_on i)) back.1
    ∙ total-append (increment_on i) back.0 w.log.received in
    let is = balanced (given_on i w.log.received) (total (increment_on i) w.log.received)
    (total (data_on i) w.log.sent) (total (data_on i) way.0) (total (increment_on i) back.0)
    (owed r.log i) (value_read 4 first_window w.log.received) (total (data_on i) r.log.received)
    refl (stream_conserved _ _ way.0 back.0 i (ends_of _ _ b.direction) way.1 back.1 carried) sent
    in
    omega (arith, sum, is)

-- A stream that an end has neither reset nor refused is not closed by it.
not_by_us : (used alive closed : Bool) → closed ≡ false → state_by used alive closed ≢ ClosedByUs
not_by_us false alive closed none is = cc
not_by_us true true closed none is = cc
not_by_us true false true none is = cc
not_by_us true false false none is = cc

other_is_client : (role : Role) → true ≡ not (is_server role) → role ≡ Client
other_is_client Client is = refl
other_is_client Server is = cc

above_none : (role other : Role) (w r : Log) (more : List Item) (i : ℕ) → w.role ≡ role
    → r.role ≡ other → is_server other ≡ not (is_server role)
    → (role ≡ Client → next_unprocessed w ≡ 0) → w.received ≡ more ++ r.sent
    → active w i ≡ true → is_above r.role i r.sent ≡ false
above_none role Client w r more i w_role r_role opposite reported read alive =
    client_above r.role i r.sent r_role
above_none role Server w r more i w_role r_role opposite reported read alive =
    false_from_ne_true _ (λ above.
    let own = other_is_client role opposite in
    let cut = above_server r.role i r.sent r_role above in
    let here = any_after (is_goaway_below i) more r.sent cut in
    none_above w i (w_role ∙ own) (reported own)
    (least_below i w.received (ap (list_any (is_goaway_below i)) read ∙ here)) alive)

-- A stream that stays active where all was read that an end has sent is not closed by that end.
pub stays_open : (role other : Role) (w r : Log) (more : List Item) (i : ℕ) → w.role ≡ role
    → r.role ≡ other → is_server other ≡ not (is_server role)
    → (role ≡ Client → next_unprocessed w ≡ 0) → w.received ≡ more ++ r.sent
    → active w i ≡ true → state r i ≢ ClosedByUs
unfolding is_closed_by_us
stays_open role other w r more i w_role r_role opposite reported read alive =
    let parts = active_parts w.role i w.received w.sent w.reported alive in
    let lasts = lasts_parts i w.received w.sent parts.lasts in
    not_by_us _ _ _ (or_from _ _
    (none_after (resets i) more r.sent (sym (ap (list_any (resets i)) read) ∙ lasts.unreset))
    (above_none role other w r more i w_role r_role opposite reported read alive))

-- Where tokens wait on a stream it is active.
pub alive_by : (end : EndLog) (i : ℕ) → tokens_on end i ≢ 0 → active end.log i ≡ true
unfolding tokens_on
alive_by end i some = elim (cases_Bool (active end.log i)) [
  | inl alive ↦ alive
  | inr over ↦ absurd (some (rw over refl))
]

some_wait : (end : EndLog) (i : ℕ) → tokens_on end i ≢ 0 → length (tokens_waiting end i) ≢ 0
unfolding tokens_on
some_wait end i some none = some (rw (alive_by end i some) none)

-- And where none do it is stuck.
pub stuck_by_none : (end : EndLog) (i : ℕ) → tokens_on end i ≡ 0 → IsStuckOn end i
unfolding tokens_on
stuck_by_none end i none = λ alive.
    subst (λ (tokens : List Token). NoneCouldGo end.log i tokens)
    (sym (nil_from_length (tokens_waiting end i) (rw alive at none))) tt

-- An end at which tokens wait on a stream has not ended it.
goes_with : (role : Role) (values : Values) (end : EndLog) (i : ℕ) (tokens : List Token)
    → IsLog role values end.log → (sends : SendsInOrder end i) → sends.waiting ≡ tokens
    → length tokens ≢ 0 → list_any (ends i) end.log.sent ≡ false
goes_with role values end i [] is sends waits some = absurd (some refl)
goes_with role values end i (token ∷ others) is sends waits some =
    goes_on_by role values end.log i (said_for i end.accepted) token others is
    (sends.prefix ∙ ap (λ (line : List Token). tokens_out end i ++ line) waits)

pub goes_by : (role : Role) (values : Values) (end : EndLog) (i : ℕ) → IsLog role values end.log
    → SendsInOrder end i → tokens_on end i ≢ 0 → list_any (ends i) end.log.sent ≡ false
goes_by role values end i is sends some =
    goes_with role values end i (tokens_waiting end i) is sends (sym (waiting_of end i sends))
    (some_wait end i some)

-- How many octets one call may send, by what was given and taken.
pub most_is : (log : Log) (i : ℕ) → most_sendable log i
    ≡ min (min (given_on i log.received - total (data_on i) log.sent)
    (given_on_connection log.received - total data_of log.sent)) max_data
most_is log i =
    ap₂ (λ (one other : ℕ). min (min one other) max_data)
    (natural_by (send_window log i) (given_on i log.received) (total (data_on i) log.sent) refl)
    (natural_by (connection_send_window log.received log.sent)
    (given_on_connection log.received) (total data_of log.sent) refl)

-- None, where what waits could not go.
none_could : (end : EndLog) (i : ℕ) (tokens : List Token) → NoneCouldGo end.log i tokens
    → min (octets_among tokens) (min (min (given_on i end.log.received
    - total (data_on i) end.log.sent) (given_on_connection end.log.received
    - total data_of end.log.sent)) max_data) ≡ 0
unfolding octets_among
none_could end i [] never = omega arith
none_could end i (FieldsToken list ended ∷ others) never = absurd (never tt)
none_could end i (EndToken ∷ others) never = absurd (never tt)
none_could end i (OctetToken octet ∷ others) never =
    none_by (suc (octets_among others)) (given_on i end.log.received)
    (total (data_on i) end.log.sent) (given_on_connection end.log.received)
    (total data_of end.log.sent)
    (false_from_ne_true (has_room end.log i) (λ room. never (and_parts _ _ room)))

pub stuck_sends_none : (end : EndLog) (i : ℕ) → active end.log i ≡ true → IsStuckOn end i
    → min (octets_among (tokens_waiting end i)) (most_sendable end.log i) ≡ 0
stuck_sends_none end i alive stuck =
    ap (min (octets_among (tokens_waiting end i))) (most_is end.log i)
    ∙ none_could end i (tokens_waiting end i) (stuck alive)

-- Items without SETTINGS leave the values, by their sums.
pub value_same : (before after : Log) (more : List Item) → after.sent ≡ more ++ before.sent
    → total one_settings after.sent ≡ total one_settings before.sent
    → value_read 4 first_window after.sent ≡ value_read 4 first_window before.sent
value_same before after more is same =
    let sum = ap (total one_settings) is ∙ total-append one_settings more before.sent in
    ap (value_read 4 first_window) is
    ∙ value_stays 4 first_window more before.sent (omega (arith, same, sum))
