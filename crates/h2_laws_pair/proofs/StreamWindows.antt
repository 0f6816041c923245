-- A stream's window is conserved between the ends of a pair.
use Rattle.std.proofs.Common.{◌-ℤ◌}
use Rattle.std.proofs.lemmas.Bool.{and_left, false_from_ne_true}
use Rattle.h2_spec_log.specs.Events.{reports_unprocessed}
use Rattle.h2_spec_log.specs.States.{ClosedByUs, state_by}
use Rattle.h2_laws_log.proofs.InvariantCalls.{active_some}
use Rattle.h2_laws_log.proofs.ItemLists.{none_after}
use Rattle.h2_laws_log.proofs.LogHistory.{history_of}
use Rattle.h2_laws_log.proofs.ReaderStates.{lasts_parts, opens_here}
use Rattle.h2_laws_log.proofs.WindowsOfTwoEnds.{stream_meets_read}
use Rattle.h2_laws_end.proofs.ReceiveWindows.{IsAccounted, opened_in}
use Rattle.h2_laws_end.proofs.ReceiveWindowCalls.{log_accounted}
use Rattle.h2_laws_end.proofs.OverRoom.{owed_active, owed_inactive}
use Rattle.h2_laws_pair.specs.Directions.{IsCarried}
use Rattle.h2_laws_pair.proofs.Names
use Names.{◌≡◌, ◌≢◌, inl, inr, ℕ, ◌+◌, ◌-◌, ◌≤◌, ◌%◌, ◌==◌, not, Bool, true, false, List, ◌++◌, ℤ}
use Names.{pos, ◌+ℤ◌, refl, sym, ap, ◌∙◌, arith, list_any, both_ways, cases_Bool, and_from}
use Names.{or_parts, ints, Item, Role, Client, Server, total, data_on, increment_on, is_block_on}
use Names.{ends, resets, is_goaway_below, is_server, AllowedHistory, Log, active, owed, unreleased}
use Names.{log_represents, any_after, active_parts, active_from, lasts_from, stream_of_log, Half}
use Names.{AreUnderWay, ConservesStream, openings, is_used, is_above, is_closed_by_us}
use Rattle.h2_laws_pair.proofs.BothWays.{AreEnds}
use Rattle.h2_laws_pair.proofs.DataOnStreams.{unopened_read}
use Rattle.h2_laws_pair.proofs.NamedUnprocessed.{log_named}

-- A used stream that isn't active, and isn't in the state that an end's own closing makes, isn't
-- closed by this end.
not_closed : (used active closed_by_us : Bool) → used ≡ true → active ≡ false
    → state_by used active closed_by_us ≢ ClosedByUs → closed_by_us ≡ false
not_closed used active false is_used ended stays = refl
not_closed true false true is_used ended stays = absurd (stays refl)
not_closed true true true is_used ended stays = absurd (both_ways true ended refl)
not_closed false active true is_used ended stays = absurd (both_ways false refl is_used)

-- A stream that was opened is used.
opened_used : (role : Role) (i : ℕ) (received sent : List Item) → i % 2 == 1 ≡ true
    → list_any (is_block_on i) (openings role received sent) ≡ true
    → is_used role i received sent ≡ true
unfolding is_used
opened_used role i received sent odd opened = and_from _ _ odd (opens_here _ _ odd opened)

-- What isn't closed by an end is neither reset by it nor above its GOAWAY.
unclosed_parts : (role : Role) (i : ℕ) (sent : List Item) → is_closed_by_us role i sent ≡ false
    → (list_any (resets i) sent ≡ false) × (is_above role i sent ≡ false)
unfolding is_closed_by_us
unclosed_parts role i sent unclosed = or_parts _ _ unclosed

-- A server has written no GOAWAY with a last stream below one that isn't above.
no_goaway_below : (role : Role) (i : ℕ) (sent : List Item) → is_server role ≡ true
    → is_above role i sent ≡ false → list_any (is_goaway_below i) sent ≡ false
unfolding is_above
no_goaway_below Client i sent server below = absurd (both_ways false refl server)
no_goaway_below Server i sent server below = below

-- Where one end is no server, the other one is.
other_server : (one other : Bool) → other ≡ not one → other ≡ false → one ≡ true
other_server true other opposite none = refl
other_server false other opposite none = absurd (both_ways other none opposite)

-- A stream that is active at the writer, and was opened at the reader, which hasn't closed it and
-- hasn't read its end, is active at the reader.
still_active : (writer reader : Log) (way : List Item) (i : ℕ)
    → is_server reader.role ≡ not (is_server writer.role)
    → AreUnderWay writer reader way → active writer i ≡ true
    → list_any (is_block_on i) (openings reader.role reader.received reader.sent) ≡ true
    → is_closed_by_us reader.role i reader.sent ≡ false → list_any (ends i) reader.received ≡ false
    → (list_any (reports_unprocessed i) reader.reported ≡ true
    → (is_server reader.role ≡ false) × (list_any (is_goaway_below i) reader.received ≡ true))
    → active reader i ≡ true
still_active writer reader way i opposite under_way alive opened unclosed goes named =
    let parts = active_parts writer.role i writer.received writer.sent writer.reported alive in
    let lasts = lasts_parts i writer.received writer.sent parts.lasts in
    let own = unclosed_parts reader.role i reader.sent unclosed in
    active_from reader.role i reader.received reader.sent reader.reported (record {
      odd = parts.odd;
      opened = opened;
      below = own.1;
      lasts = lasts_from i reader.received reader.sent (record {
        ended = and_left (list_any (ends i) reader.received) (list_any (ends i) reader.sent) goes;
        unreset = none_after (resets i) way reader.received
            (sym (ap (list_any (resets i)) under_way) ∙ lasts.kept);
        kept = own.0;
      });
      unnamed = false_from_ne_true (list_any (reports_unprocessed i) reader.reported) (λ here.
          let both = named here in
          both_ways _ (no_goaway_below writer.role i writer.sent
          (other_server (is_server writer.role) (is_server reader.role) opposite both.0)
          parts.below) (ap (list_any (is_goaway_below i)) under_way
          ∙ any_after (is_goaway_below i) way reader.received both.1));
    })

-- A stream that is active at the writer, and wasn't opened at the reader: the reader is a server,
-- and has read no DATA on it.
unopened_unread : (role other : Role) (i : ℕ)
    (received sent other_received other_sent way back : List Item) → is_server other
    ≡ not (is_server role) → AllowedHistory role received sent
    → sent ≡ way ++ other_received → other_sent ≡ back ++ received
    → list_any (is_block_on i) (openings role received sent) ≡ true
    → list_any (is_block_on i) (openings other other_received other_sent) ≡ false
    → total (data_on i) other_received ≡ 0
unopened_unread Client Server i received sent other_received other_sent way back opposite history
    under_way returned opened none = unopened_read _ _ _ _ other_received history under_way none
unopened_unread Server Client i received sent other_received other_sent way back opposite history
    under_way returned opened none = absurd (both_ways (list_any (is_block_on i) other_sent) none
    (ap (list_any (is_block_on i)) returned ∙ any_after (is_block_on i) back received opened))
unopened_unread Client Client i received sent other_received other_sent way back opposite history
    under_way returned opened none = absurd (both_ways false refl opposite)
unopened_unread Server Server i received sent other_received other_sent way back opposite history
    under_way returned opened none = absurd (both_ways true opposite refl)

-- The roles of two ends' logs are opposite.
roles_opposite : (writer reader : Half) → AreEnds writer reader
    → is_server reader.log.role ≡ not (is_server writer.log.role)
roles_opposite writer reader ends =
    let one = (stream_of_log _ _ writer.log ends.writer_log).role in
    let other = (stream_of_log _ _ reader.log ends.reader_log).role in
    ap is_server other ∙ ends.opposite ∙ ap (λ (r : Role). not (is_server r)) (sym one)

-- What was reported is what was returned, and what is left.
owed_left : (read reported returned calls : ℕ) → returned ≡ calls → reported ≡ read
    → calls ≤ reported → read ≡ returned + (reported - calls)
owed_left read reported returned calls one other within = omega arith

-- On an active stream all DATA was returned, or is owed.
active_balanced : (log : Log) (i : ℕ) → active log i ≡ true
    → list_any (ends i) log.received ≡ false → IsAccounted (history_of log) i
    → total (data_on i) log.received ≡ total (increment_on i) log.sent + owed log i
unfolding unreleased
active_balanced log i alive goes accounted =
    let both = accounted.whole alive goes in
    rw (owed_active log i alive) (owed_left _ _ _ _ both.0 both.1 accounted.within)

-- So it was at the reader.
read_balanced : (writer reader : Half) (way back : List Item) (i : ℕ) → AreEnds writer reader
    → AreUnderWay writer.log reader.log way → AreUnderWay reader.log writer.log back
    → IsCarried writer.log reader.log i → total (data_on i) reader.log.received
    ≡ total (increment_on i) reader.log.sent + owed reader.log i
read_balanced writer reader way back i ends under_way returned carried =
    let parts = active_parts writer.log.role i writer.log.received writer.log.sent
    writer.log.reported carried.active in
    let accounted = log_accounted ends.reader_role ends.reader_values reader.log i
    (active_some writer.log i carried.active) ends.reader_log in
    let opposite = roles_opposite writer reader ends in
    elim (cases_Bool (active reader.log i)) [
      | inl alive ↦ active_balanced reader.log i alive carried.goes_on accounted
      | inr ended ↦ elim (cases_Bool (opened_in (history_of reader.log) i)) [
        | inl opened ↦
            let unclosed = not_closed _ _ (is_closed_by_us reader.log.role i reader.log.sent)
            (opened_used reader.log.role i reader.log.received reader.log.sent parts.odd opened)
            ended carried.stays in
            absurd (both_ways (active reader.log i) ended
            (still_active writer.log reader.log way i opposite under_way carried.active opened
            unclosed carried.goes_on
            (log_named ends.reader_role ends.reader_values reader.log ends.reader_log i)))
        | inr none ↦
            let unread = unopened_unread writer.log.role reader.log.role i writer.log.received
            writer.log.sent reader.log.received reader.log.sent way back opposite
            (log_represents ends.writer_role ends.writer_values writer.log
            ends.writer_log).with_sent under_way returned parts.opened none in
            let unreturned = (accounted.unopened none).1 in
            let nothing = owed_inactive reader.log i ended in
            omega (arith, unread, unreturned, nothing)
      ]
    ]

-- What meets a window, with what is owed, is the initial window.
met_and_owed : (met : ℤ) (initial returned read back owes : ℕ)
    → met +ℤ pos back ≡ pos (initial + returned) -ℤ pos read → read ≡ returned + owes
    → met +ℤ pos (back + owes) ≡ pos initial
met_and_owed met initial returned read back owes meets balanced =
    omega (arith, ints, meets, balanced)

-- So the stream's window is conserved.
pub stream_conserved : (writer reader : Half) (way back : List Item) (i : ℕ)
    → AreEnds writer reader → AreUnderWay writer.log reader.log way
    → AreUnderWay reader.log writer.log back → IsCarried writer.log reader.log i
    → ConservesStream writer.log reader.log way back i
stream_conserved writer reader way back i ends under_way returned carried =
    met_and_owed _ _ _ _ _ _ (stream_meets_read _ _ _ _ _ _ _ under_way returned)
    (read_balanced _ _ _ _ _ ends under_way returned carried)
