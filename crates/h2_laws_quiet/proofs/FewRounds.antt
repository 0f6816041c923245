-- In two rounds one after another, in which the outputs have room and all credit comes back, as
-- much goes of the lowest stream on which something waits as a window lets through, or all.
use Rattle.h2_spec_log.specs.Log.{widened}
use Rattle.std.proofs.Common.{◌≡◌, ◌≢◌, inl, inr, ℕ, ◌+◌, ◌-◌, ◌≤◌, ◌<◌, min, max}
use Rattle.std.proofs.Common.{false, [], sym, ap, ◌∙◌, arith, subst}
use Rattle.std.specs.List.{list_any}
use Rattle.h2_block.specs.Grouping.{Item}
use Rattle.h2_spec_log.specs.declared.role.Role.{Role}
use Rattle.h2_spec_log.specs.Acts.{Values, PutOut, Count}
use Rattle.h2_spec_log.specs.Items.{data_of, data_on, increment_on, total, ends}
use Rattle.h2_spec_log.specs.Limits.{full_output}
use Rattle.h2_spec_log.specs.Log.{Log, owed, waiting}
use Rattle.h2_spec_log.specs.Settings.{one_settings, value_read}
unfoldable use Rattle.h2_spec_log.specs.Windows.{given_on, given_on_connection}
use Rattle.h2_spec_log.specs.Windows.{first_window}
use Rattle.h2_spec_log.proofs.StreamLemmas.{stream_of_log}
use Rattle.h2_laws_log.proofs.ItemLists.{none_after}
use Rattle.h2_laws_log.proofs.LogGrowth.{grows_call}
use Rattle.h2_laws_log.proofs.InvariantCalls.{active_some}
use Rattle.h2_laws_log.proofs.WindowsOfTwoEnds.{total-append}
use Rattle.h2_laws_pair.specs.Directions.{IsCarried}
use Rattle.h2_laws_pair.proofs.CarriedItems.{way_of}
use Rattle.h2_ends.specs.Ends.{EndLog, tokens_waiting}
use Rattle.h2_ends.specs.EndCalls.{octets_among}
use Rattle.h2_ends.specs.Pumping.{IsStuckBelow}
use Rattle.h2_ends.proofs.EndTokens.{no_part_tokens}
use Rattle.h2_ends.proofs.PumpStuck.{waiting_same}
use Rattle.h2_laws_quiet.specs.Rounds.{all_octets}
use Rattle.h2_laws_quiet.specs.Work.{credit_left, tokens_on}
use Rattle.h2_laws_quiet.proofs.FewCalls.{Keeps, release_all_keeps, PumpDoes, pump_is_ok}
use Rattle.h2_laws_quiet.proofs.FewCalls.{pump_does}
use Rattle.h2_laws_quiet.proofs.FewItems.{CountsNoAnswer, answers_count, answers_return}
use Rattle.h2_laws_quiet.proofs.FewItems.{put_out_counts, data_counts, stream_counts}
use Rattle.h2_laws_quiet.proofs.FewItems.{settings_counts, settings_no_part}
use Rattle.h2_laws_quiet.proofs.FewTurns.{Turn}
use Rattle.h2_laws_quiet.proofs.FewWindows.{credit_between, increments_between, stream_between}
use Rattle.h2_laws_quiet.proofs.FewWindows.{stays_open, alive_by, stuck_by_none, goes_by}
use Rattle.h2_laws_quiet.proofs.FewWindows.{most_is, stuck_sends_none, value_same}
use Rattle.h2_laws_quiet.proofs.PumpFirst.{could_or_stuck}
use Rattle.h2_laws_quiet.proofs.PumpGoes.{less_goes}
use Rattle.h2_laws_quiet.proofs.RoundSides.{put_out_end, none_owed_by_credit, owed_within}
use Rattle.h2_laws_quiet.proofs.RoundWork.{whole}
use Rattle.h2_laws_quiet.proofs.WorkOfEnds.{EndDrives}
unfoldable use Rattle.h2_laws_quiet.proofs.WorkOfEnds.{ends_twice, drives_twice}

-- After a round all that an end has sent has come, but for answers and credit of the connection.
pub record HasCome (w r : Log) : Type 0 where
  pub counts : (f : Item → ℕ) → CountsNoAnswer f → total f r.received ≡ total f w.sent
  pub back : (i : ℕ) → i ≢ 0 → total (increment_on i) w.received ≡ total (increment_on i) r.sent
  pub value : value_read 4 first_window w.received ≡ value_read 4 first_window r.sent

-- What an end sends in a round on a stream: what it sends waited there, all within the window of
-- the connection, and as much goes as one call may send.
pub record SendsOn (w0 w1 : EndLog) (i : ℕ) : Type 0 where
  pub leaves : total (data_on i) w1.log.sent + octets_among (tokens_waiting w1 i)
      ≡ total (data_on i) w0.log.sent + octets_among (tokens_waiting w0 i)
  pub within : total data_of w1.log.sent
      ≤ max (total data_of w0.log.sent) (given_on_connection w0.log.received)
  pub goes : octets_among (tokens_waiting w1 i)
      + min (octets_among (tokens_waiting w0 i)) (min (min (given_on i w0.log.received
      - total (data_on i) w0.log.sent) (given_on_connection w0.log.received
      - total data_of w0.log.sent)) 65536)
      ≤ octets_among (tokens_waiting w0 i)

module _ (role other : Role) (values others : Values) (w0 r0 w1 r1 : EndLog)
    (t : Turn role other values others w0 r0 w1 r1) where
  -- the ends once their output was given out
  abbrev pub w_moved : EndLog
  w_moved = put_out_end t.w_pumped all_octets t.given

  abbrev pub r_moved : EndLog
  r_moved = put_out_end t.r_pumped all_octets t.back

  -- Sums that count no answers are as after the pump.
  pub w_last : (f : Item → ℕ) → CountsNoAnswer f
      → total f w1.log.sent ≡ total f t.w_pumped.log.sent
  w_last f counts =
      let takes = t.writes.takes in
      let sum = ap (total f) takes.ends.drives.sent
      ∙ total-append f takes.ends.drives.written w_moved.log.sent in
      let none = answers_count f counts takes.ends.drives.written takes.answers in
      let put = put_out_counts f counts t.w_pumped.log all_octets t.given t.writes.moves in
      omega (arith, sum, none, put)

  pub w_out : (f : Item → ℕ) → CountsNoAnswer f → total f w_moved.log.sent ≡ total f w1.log.sent
  w_out f counts =
      let put = put_out_counts f counts t.w_pumped.log all_octets t.given t.writes.moves in
      put ∙ sym (w_last f counts)

  -- What was sent has come.
  r_sent_value : value_read 4 first_window r1.log.sent ≡ value_read 4 first_window r_moved.log.sent
  r_sent_value =
      let takes = t.reads.takes in
      let sum = ap (total one_settings) takes.ends.drives.sent
      ∙ total-append one_settings takes.ends.drives.written r_moved.log.sent in
      let none = answers_count one_settings settings_counts takes.ends.drives.written
      takes.answers in
      value_same r_moved.log r1.log takes.ends.drives.written takes.ends.drives.sent
      (omega (arith, sum, none))

  pub has_come : HasCome w1.log r1.log
  has_come = record {
    counts = λ f no_answer. ap (total f) t.came ∙ w_out f no_answer;
    back = λ i some.
        let takes = t.reads.takes in
        let sum = ap (total (increment_on i)) takes.ends.drives.sent
        ∙ total-append (increment_on i) takes.ends.drives.written r_moved.log.sent in
        let none = answers_return i takes.ends.drives.written some takes.answers in
        let came = ap (total (increment_on i)) t.returned in
        omega (arith, sum, none, came);
    value = ap (value_read 4 first_window) t.returned ∙ sym r_sent_value;
  }

  -- The reader sends no SETTINGS.
  r_to_moved : EndDrives r0 r_moved
  r_to_moved = ends_twice r0 t.r_pumped r_moved (ends_twice r0 t.r_released t.r_pumped
      t.r_stages.releases t.r_stages.pumps) t.r_stages.moves

  r_pump : PumpDoes t.r_released t.r_pumped 0
  r_pump =
      let may = pump_is_ok t.r_released t.r_pumped t.reads.pump t.reads.pumps t.reads.pump_had
      t.reads.up_released in
      pump_does t.r_released t.r_pumped may.0 0 may.1

  r_value : value_read 4 first_window r_moved.log.sent ≡ value_read 4 first_window r0.log.sent
  r_value =
      let released = (release_all_keeps one_settings settings_counts r0 t.r_released
      t.reads.release t.reads.releases).counted in
      let pumped = r_pump.counts one_settings settings_counts settings_no_part in
      let put = put_out_counts one_settings settings_counts t.r_pumped.log all_octets t.back
      t.reads.moves in
      value_same r0.log r_moved.log r_to_moved.drives.written r_to_moved.drives.sent
      (put ∙ (pumped ∙ released))

  pub value_kept : value_read 4 first_window r1.log.sent ≡ value_read 4 first_window r0.log.sent
  value_kept = r_sent_value ∙ r_value

  -- The reader reads nothing before the delivery.
  pub r_received : r_moved.log.received ≡ r0.log.received
  r_received =
      (grows_call t.r_pumped.log (PutOut all_octets) (Count t.back)).received
      ∙ (r_pump.received
      ∙ (release_all_keeps one_settings settings_counts r0 t.r_released t.reads.release
      t.reads.releases).received)

  module _ (i : ℕ) where
    pub released_keeps : (f : Item → ℕ) → CountsNoAnswer f → Keeps f w0 t.w_released
    released_keeps f counts =
        release_all_keeps f counts w0 t.w_released t.writes.release t.writes.releases

    pub w_count : ℕ
    w_count = (pump_is_ok t.w_released t.w_pumped t.writes.pump t.writes.pumps t.writes.pump_had
        t.writes.up_released).0

    pub w_pump : PumpDoes t.w_released t.w_pumped i
    w_pump =
        let may = pump_is_ok t.w_released t.w_pumped t.writes.pump t.writes.pumps
        t.writes.pump_had t.writes.up_released in
        pump_does t.w_released t.w_pumped may.0 i may.1

    -- What waits after the pump waits at the end of the round.
    pub last_waits : tokens_waiting w1 i ≡ tokens_waiting t.w_pumped i
    last_waits =
        t.writes.takes.ends.same t.writes.takes.none_gone i
        ∙ waiting_same t.w_pumped (PutOut all_octets) (Count t.given) i
        (no_part_tokens i (PutOut all_octets) (Count t.given) tt)

    -- Where tokens wait on a stream at the end, they do all the time.
    some_moved : tokens_on w1 i ≢ 0 → tokens_on w_moved i ≢ 0
    some_moved some none = some (omega (arith, none, t.writes.takes.ends.each i))

    some_pumped : tokens_on w1 i ≢ 0 → tokens_on t.w_pumped i ≢ 0
    some_pumped some none = some_moved some (omega (arith, none, t.w_stages.moves.each i))

    pub some_released : tokens_on w1 i ≢ 0 → tokens_on t.w_released i ≢ 0
    some_released some none = some_pumped some (omega (arith, none, t.w_stages.pumps.each i))

    pub some_first : tokens_on w1 i ≢ 0 → tokens_on w0 i ≢ 0
    some_first some none = some_released some (omega (arith, none, t.w_stages.releases.each i))

    pub none_below : ((j : ℕ) → j < i → tokens_on w0 j ≡ 0) → (j : ℕ) → j < i
        → tokens_on w1 j ≡ 0
    none_below none j low =
        omega (
          arith,
          none j low,
          t.w_stages.releases.each j,
          t.w_stages.pumps.each j,
          t.w_stages.moves.each j,
          t.w_stages.takes.ends.each j,
        )

    -- So much goes.
    goes_there : waiting t.w_released.log < full_output
        → ((j : ℕ) → j < i → tokens_on w0 j ≡ 0) → tokens_on w1 i ≢ 0
        → octets_among (tokens_waiting t.w_pumped i)
        + min (octets_among (tokens_waiting t.w_released i))
        (min (min (given_on i t.w_released.log.received - total (data_on i) t.w_released.log.sent)
        (given_on_connection t.w_released.log.received
        - total data_of t.w_released.log.sent)) 65536)
        ≤ octets_among (tokens_waiting t.w_released i)
    goes_there room none some =
        let may = pump_is_ok t.w_released t.w_pumped t.writes.pump t.writes.pumps
        t.writes.pump_had t.writes.up_released in
        let below : IsStuckBelow t.w_released i = λ j low. stuck_by_none t.w_released j
        (omega (arith, none j low, t.w_stages.releases.each j)) in
        let most = most_is t.w_released.log i in
        elim (could_or_stuck t.w_released i) [
          | inl could ↦
              let less = less_goes t.w_released t.w_pumped i may.0 may.1 room could below in
              omega (arith, less, most)
          | inr stuck ↦
              let nothing = stuck_sends_none t.w_released i
              (alive_by t.w_released i (some_released some)) stuck in
              let fewer = w_pump.fewer in
              omega (arith, nothing, most, fewer)
        ]

    pub sends_on : waiting t.w_released.log < full_output
        → ((j : ℕ) → j < i → tokens_on w0 j ≡ 0) → tokens_on w1 i ≢ 0 → SendsOn w0 w1 i
    sends_on room none some =
        let on = released_keeps (data_on i) (stream_counts i) in
        let all = released_keeps data_of data_counts in
        let waits = ap octets_among (on.waits i) in
        let last = ap octets_among last_waits in
        let on_given = ap (given_on i) on.received in
        let all_given = ap given_on_connection on.received in
        let leaves = w_pump.leaves in
        let within = w_pump.within in
        let goes = goes_there room none some in
        let on_last = w_last (data_on i) (stream_counts i) in
        let all_last = w_last data_of data_counts in
        let on_first = on.counted in
        let all_first = all.counted in
        record {
          leaves = omega (arith, leaves, last, waits, on_last, on_first);
          within = omega (arith, within, all_last, all_first, all_given);
          goes = subst (λ (n : ℕ). n + min (octets_among (tokens_waiting w0 i))
              (min (min (given_on i w0.log.received - total (data_on i) w0.log.sent)
              (given_on_connection w0.log.received - total data_of w0.log.sent)) 65536)
              ≤ octets_among (tokens_waiting w0 i)) (sym last)
              (omega (arith, goes, waits, on_first, all_first, on_given, all_given));
        }

    -- The stream goes on at the reader, too: at first,
    unended : tokens_on w1 i ≢ 0 → list_any (ends i) w1.log.sent ≡ false
    unended some = goes_by role values w1 i t.writes.log_last (t.order.sends i) some

    unended_read : tokens_on w1 i ≢ 0 → list_any (ends i) r0.log.received ≡ false
    unended_read some =
        let all = whole w0 t.w_released t.w_pumped w_moved w1 t.w_stages in
        let way = way_of _ _ t.first.direction in
        let none = none_after (ends i) all.drives.written w0.log.sent
        (sym (ap (list_any (ends i)) all.drives.sent) ∙ unended some) in
        none_after (ends i) way.0 r0.log.received (sym (ap (list_any (ends i)) way.1) ∙ none)

    w_role : w1.log.role ≡ role
    w_role = (stream_of_log role values w1.log t.writes.log_last).role

    pub first_carried : tokens_on w1 i ≢ 0 → IsCarried w0.log r0.log i
    first_carried some = record {
      active = alive_by w0 i (some_first some);
      stays = stays_open role other w1.log r0.log r_to_moved.drives.written i w_role
          (stream_of_log other others r0.log t.r_log).role t.opposite t.reported
          (t.returned ∙ r_to_moved.drives.sent) (alive_by w1 i some);
      goes_on = unended_read some;
    }

    -- and once all output is on the pipes.
    moved_carried : tokens_on w1 i ≢ 0 → IsCarried w_moved.log r_moved.log i
    moved_carried some = record {
      active = alive_by w_moved i (some_moved some);
      stays = stays_open role other w1.log r_moved.log [] i w_role
          ((grows_call t.r_pumped.log (PutOut all_octets) (Count t.back)).role
          ∙ (stream_of_log other others t.r_pumped.log t.reads.log_pumped).role) t.opposite
          t.reported t.returned (alive_by w1 i some);
      goes_on = ap (list_any (ends i)) r_received ∙ unended_read some;
    }

    -- Where all credit comes back in the round, what may be sent after it is what may be at first
    -- and what was taken before it: of the connection,
    pub all_given : credit_left r_moved.log ≡ 0 → HasCome w0.log r0.log
        → given_on_connection w1.log.received
        ≡ (first_window + widened r_moved.log.calls) + total data_of w0.log.sent
    unfolding given_on_connection
    all_given back come =
        let credit = credit_between w_moved r_moved t.moved in
        let same = ap (total data_of) r_received in
        let returned = ap (total (increment_on 0)) t.returned in
        let came = come.counts data_of data_counts in
        omega (arith, back, credit, same, returned, came)

    -- and of a stream.
    pub stream_given : credit_left r_moved.log ≡ 0 → HasCome w0.log r0.log
        → tokens_on w1 i ≢ 0
        → given_on i w1.log.received
        ≡ value_read 4 first_window w1.log.received + total (data_on i) w0.log.sent
    unfolding given_on
    stream_given back come some =
        let owes = none_owed_by_credit r_moved.log back i in
        let balanced = stream_between w_moved r_moved i t.moved (moved_carried some) in
        let same = ap (total (data_on i)) r_received in
        let returned = ap (total (increment_on i)) t.returned in
        let came = come.counts (data_on i) (stream_counts i) in
        omega (arith, owes, balanced, same, returned, came)

    -- Before it, what the reader owes is all that lacks.
    pub lacks_less : HasCome w0.log r0.log → i ≢ 0 → tokens_on w1 i ≢ 0
        → (given_on i w0.log.received + owed r0.log i
        ≡ value_read 4 first_window w0.log.received + total (data_on i) w0.log.sent)
        × (given_on_connection w0.log.received + credit_left r0.log
        ≤ (first_window + widened r0.log.calls) + total data_of w0.log.sent)
    unfolding given_on given_on_connection
    lacks_less come odd some =
        let balanced = stream_between w0 r0 i t.first (first_carried some) in
        let credit = credit_between w0 r0 t.first in
        let fewer = increments_between w0 r0 0 t.first in
        let back = come.back i odd in
        let on = come.counts (data_on i) (stream_counts i) in
        let all = come.counts data_of data_counts in
        (omega (arith, balanced, back, on), omega (arith, credit, fewer, all))

-- The numbers of two rounds.
less_by : (whole x0 n0 g0 d0 all0 x1 n1 g1 d1 all1 n2 v owes left : ℕ) → 65535 ≤ whole
    → x1 + n1 ≡ x0 + n0 → d1 ≤ max d0 all0
    → n1 + min n0 (min (min (g0 - x0) (all0 - d0)) 65536) ≤ n0
    → n2 + min n1 (min (min (g1 - x1) (all1 - d1)) 65536) ≤ n1
    → g1 ≡ v + x0 → all1 ≡ whole + d0 → g0 + owes ≡ v + x0 → owes ≤ left
    → all0 + left ≤ whole + d0
    → n2 ≤ n0 - min 65535 v
less_by whole x0 n0 g0 d0 all0 x1 n1 g1 d1 all1 n2 v owes left wide leaves within goes then on all
    was few lacks =
    omega (arith, wide, leaves, within, goes, then, on, all, was, few, lacks)

-- So in two rounds one after another a window goes, or all.
module _ (role other : Role) (values others : Values) (w0 r0 w1 r1 w2 r2 : EndLog)
    (a : Turn role other values others w0 r0 w1 r1)
    (b : Turn role other values others w1 r1 w2 r2) (i : ℕ)
    (come : HasCome w0.log r0.log) (back : credit_left (put_out_end a.r_pumped all_octets
    a.back).log ≡ 0) (room_a : waiting a.w_released.log < full_output)
    (room_b : waiting b.w_released.log < full_output)
    (none : (j : ℕ) → j < i → tokens_on w0 j ≡ 0) where
  odd_number : tokens_on w2 i ≢ 0 → i ≢ 0
  odd_number some = active_some w2.log i (alive_by w2 i some)

  pub window_goes : tokens_on w2 i ≢ 0
      → octets_among (tokens_waiting w2 i)
      ≤ octets_among (tokens_waiting w0 i)
      - min first_window (value_read 4 first_window r0.log.sent)
  window_goes some =
      let some_between = some_first role other values others w1 r1 w2 r2 b i some in
      let first = sends_on role other values others w0 r0 w1 r1 a i room_a none some_between in
      let then = sends_on role other values others w1 r1 w2 r2 b i room_b
      (none_below role other values others w0 r0 w1 r1 a i none) some in
      let lacks = lacks_less role other values others w0 r0 w1 r1 a i come (odd_number some)
      some_between in
      let on = stream_given role other values others w0 r0 w1 r1 a i back come some_between in
      let all = all_given role other values others w0 r0 w1 r1 a i back come in
      let was = come.value in
      let is = (has_come role other values others w0 r0 w1 r1 a).value
      ∙ value_kept role other values others w0 r0 w1 r1 a in
      let few = owed_within r0.log i in
      let wide = (r_to_moved role other values others w0 r0 w1 r1 a).drives.as_wide in
      less_by (first_window + widened r0.log.calls) (total (data_on i) w0.log.sent)
      (octets_among (tokens_waiting w0 i))
      (given_on i w0.log.received) (total data_of w0.log.sent)
      (given_on_connection w0.log.received) (total (data_on i) w1.log.sent)
      (octets_among (tokens_waiting w1 i)) (given_on i w1.log.received)
      (total data_of w1.log.sent) (given_on_connection w1.log.received)
      (octets_among (tokens_waiting w2 i)) (value_read 4 first_window r0.log.sent)
      (owed r0.log i) (credit_left r0.log) (omega arith) first.leaves first.within first.goes
      then.goes (omega (arith, on, is)) (omega (arith, all, wide)) (omega (arith, lacks.0, was)) few lacks.1
