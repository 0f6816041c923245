-- What a round leaves at its ends: how much output waits, and whether credit is unreturned.
use Rattle.std.proofs.Common.{◌≡◌, ◌⊎◌, inl, inr, ℕ, ◌+◌, ◌≤◌, ◌<◌, sym, ap}
use Rattle.std.proofs.Common.{◌∙◌, arith, ltb-true, ltb-false, nat_lt, true}
use Rattle.std.proofs.lemmas.Bool.{cases_Bool}
use Rattle.h2_block.specs.Grouping.{Item}
use Rattle.h2_spec_log.specs.declared.role.Role.{Role}
use Rattle.h2_spec_log.specs.Acts.{Values}
use Rattle.h2_spec_log.specs.Items.{data_of, total}
use Rattle.h2_spec_log.specs.Limits.{full_output}
use Rattle.h2_spec_log.specs.Log.{active, owed}
unfoldable use Rattle.h2_spec_log.specs.Log.{waiting, output}
use Rattle.h2_spec_log.specs.Windows.{first_window}
unfoldable use Rattle.h2_spec_log.specs.Windows.{given_on_connection}
use Rattle.h2_laws_machine.proofs.BoundedLogs.{few_active}
use Rattle.h2_laws_pair.proofs.BothWays.{ends_of}
use Rattle.h2_ends.specs.Ends.{EndLog, tokens_waiting}
use Rattle.h2_laws_quiet.specs.Rounds.{all_octets}
use Rattle.h2_laws_quiet.specs.Work.{credit_left, one_to_answer}
use Rattle.h2_laws_quiet.proofs.FewCounts.{none_owing, owed_active_few}
use Rattle.h2_laws_quiet.proofs.FewDue.{one_data}
use Rattle.h2_laws_quiet.proofs.FewFills.{with_owed}
use Rattle.h2_laws_quiet.proofs.FewFrames.{PumpFew, pump_few, others_among}
use Rattle.h2_laws_quiet.proofs.FewData.{frames_counts}
use Rattle.h2_laws_quiet.proofs.FewItems.{CountsNoAnswer, put_out_counts, data_counts, asks_count}
use Rattle.h2_laws_quiet.proofs.FewItems.{asks_no_part}
use Rattle.h2_laws_quiet.proofs.FewReleases.{release_all_waits, owes_none, none_unreturned_moved}
use Rattle.h2_laws_quiet.proofs.FewReleases.{none_left, moved_returns}
use Rattle.h2_laws_quiet.proofs.FewRounds.{HasCome, w_moved, r_moved, w_last, w_pump}
use Rattle.h2_laws_quiet.proofs.FewRounds.{released_keeps, r_received}
use Rattle.h2_laws_quiet.proofs.FewTurns.{Turn}
use Rattle.h2_laws_quiet.proofs.FewWindows.{credit_between, increments_between}
use Rattle.h2_laws_quiet.proofs.FewCalls.{pump_is_ok}
use Rattle.h2_laws_quiet.proofs.OutputGiven.{all_put_out, waits_as}

module _ (role other : Role) (values others : Values) (w0 r0 w1 r1 : EndLog)
    (t : Turn role other values others w0 r0 w1 r1) (come : HasCome w0.log r0.log) where
  abbrev w_out_end : EndLog
  w_out_end = w_moved role other values others w0 r0 w1 r1 t

  abbrev r_out_end : EndLog
  r_out_end = r_moved role other values others w0 r0 w1 r1 t

  abbrev first_same : (f : Item → ℕ) → CountsNoAnswer f
      → total f t.w_released.log.sent ≡ total f w0.log.sent
  first_same f counts =
      (released_keeps role other values others w0 r0 w1 r1 t 0 f counts).counted

  pub sends_few : PumpFew t.w_released t.w_pumped
  sends_few =
      let may = pump_is_ok t.w_released t.w_pumped t.writes.pump t.writes.pumps t.writes.pump_had
      t.writes.up_released in
      pump_few role values t.w_released t.w_pumped may.0 may.1 t.writes.log_released

  out_same : (f : Item → ℕ) → CountsNoAnswer f
      → total f w_out_end.log.sent ≡ total f t.w_pumped.log.sent
  out_same f counts =
      put_out_counts f counts t.w_pumped.log all_octets t.given t.writes.moves

  -- The reader reads few DATA, and nothing that is to be answered.
  reads_few : total one_data r1.log.received ≤ total one_data r0.log.received + 1007
  reads_few =
      let came = ap (total one_data) t.came in
      let out = out_same one_data frames_counts in
      let few = sends_few.frames in
      let first = first_same one_data frames_counts in
      let was = come.counts one_data frames_counts in
      omega (arith, came, out, few, first, was)

  pub reads_no_asks : total one_to_answer r1.log.received ≡ total one_to_answer r0.log.received
  reads_no_asks =
      let came = ap (total one_to_answer) t.came in
      let out = out_same one_to_answer asks_count in
      let pumped = (w_pump role other values others w0 r0 w1 r1 t 0).counts one_to_answer
      asks_count asks_no_part in
      let first = first_same one_to_answer asks_count in
      let was = come.counts one_to_answer asks_count in
      omega (arith, came, out, pumped, first, was)

  -- So its output is longer by what these bring.
  r_grows : with_owed r1.log ≤ with_owed r_out_end.log + 39273
  r_grows =
      let same = r_received role other values others w0 r0 w1 r1 t in
      let fills = t.reads.takes.fills.fills
      (reads_no_asks ∙ sym (ap (total one_to_answer) same)) in
      let frames = ap (total one_data) same in
      let few = reads_few in
      omega (arith, fills, frames, few)

  r_empty : waiting r_out_end.log ≡ 0
  r_empty =
      let all = all_put_out other others t.r_pumped.log all_octets t.back t.reads.log_pumped
      (omega arith) t.reads.moves in
      waits_as r_out_end.log 0 (omega (arith, all))

  -- After a round in which all that was sent before had come, there is room for all credit,
  pub r_room : with_owed r1.log < full_output
  r_room =
      let grows = r_grows in
      let none = r_empty in
      let ends = ends_of _ _ t.moved.direction in
      let few = few_active ends.reader_role ends.reader_values r_out_end.log ends.reader_log in
      let owing = owed_active_few r_out_end.log in
      omega (arith, grows, none, few, owing)

  -- and more after the next one.
  r_none_owed : with_owed r0.log < full_output
      → ((i : ℕ) → owed t.r_released.log i ≡ 0) × ((i : ℕ) → owed r_out_end.log i ≡ 0)
  r_none_owed room =
      owes_none other others r0 t.r_released t.r_pumped t.reads.release t.reads.pump all_octets
      t.back t.reads.releases t.reads.release_had t.reads.up_first t.r_log t.reads.log_released
      t.reads.log_pumped room t.reads.pumps t.typed t.reads.moves

  pub r_more_room : with_owed r0.log < full_output → with_owed r1.log ≤ 39273
  r_more_room room =
      let grows = r_grows in
      let none = r_empty in
      let owing = none_owing r_out_end.log (r_none_owed room).1 in
      omega (arith, grows, none, owing)

  -- Where nothing is unreturned at the reader, nothing is after the round, and all credit is back
  -- in it.
  pub r_returned : with_owed r0.log < full_output → r0.log.unreturned ≡ 0
      → credit_left r_out_end.log ≡ 0
  r_returned room none =
      let owes = r_none_owed room in
      none_left other others r_out_end.log owes.1
      (none_unreturned_moved other others r0 t.r_released t.r_pumped t.reads.release t.reads.pump
      all_octets t.back t.reads.releases t.r_log t.reads.log_released t.reads.pumps owes.0 none)

  pub r_stays : with_owed r0.log < full_output → r0.log.unreturned ≡ 0 → r1.log.unreturned ≡ 0
  r_stays room none =
      let owes = r_none_owed room in
      let after = r_room in
      t.reads.takes.fills.stays (omega (arith, after))
      (none_unreturned_moved other others r0 t.r_released t.r_pumped t.reads.release t.reads.pump
      all_octets t.back t.reads.releases t.r_log t.reads.log_released t.reads.pumps owes.0 none)

  -- A writer returns all in a round, or it sends trailers, or 17,200 octets.
  pub w_returns : with_owed w0.log ≤ 39273 → with_owed w1.log < full_output
      → (w1.log.unreturned ≡ 0)
      ⊎ ((total data_of w0.log.sent + 17200 ≤ total data_of w1.log.sent)
      ⊎ ((id : ℕ) × (active t.w_released.log id ≡ true)
      × (others_among (tokens_waiting t.w_pumped id)
      < others_among (tokens_waiting t.w_released id))))
  w_returns room room_after =
      let owes = (owes_none role values w0 t.w_released t.w_pumped t.writes.release t.writes.pump
      all_octets t.given t.writes.releases t.writes.release_had t.writes.up_first t.w_log
      t.writes.log_released t.writes.log_pumped (omega (arith, room)) t.writes.pumps t.typed
      t.writes.moves).0 in
      let waits = release_all_waits role values w0 t.w_released t.writes.release t.writes.releases
      t.w_log in
      let first = first_same data_of data_counts in
      let last = w_last role other values others w0 r0 w1 r1 t data_of data_counts in
      elim (sends_few.longer owes) [
        | inr trailers ↦ inr (inr trailers)
        | inl longer ↦ elim (cases_Bool (nat_lt (waiting t.w_pumped.log) full_output)) [
          | inr full ↦
              let much = ltb-false (waiting t.w_pumped.log) full_output full in
              inr (inl (omega (arith, longer, much, waits.0, room, first, last)))
          | inl few ↦ inl (t.writes.takes.fills.stays (omega (arith, room_after))
              (moved_returns role values t.w_pumped.log all_octets t.given t.writes.up_pumped
              (ltb-true (waiting t.w_pumped.log) full_output few)))
        ]
      ]
