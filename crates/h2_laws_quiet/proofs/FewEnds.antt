-- Where nothing waits and all credit comes back in a round, no work is left after it.
use Rattle.std.proofs.Common.{◌≡◌, ◌-◌, ◌≤◌, ap, ◌∙◌, arith}
use Rattle.h2_spec_log.specs.declared.role.Role.{Role}
use Rattle.h2_spec_log.specs.Acts.{Values}
use Rattle.h2_spec_log.specs.Items.{data_of, increment_on, total}
use Rattle.h2_laws_log.proofs.LogHistory.{sum_less}
use Rattle.h2_laws_log.proofs.WindowsOfTwoEnds.{total-append}
use Rattle.h2_ends.specs.Ends.{EndLog}
use Rattle.h2_laws_quiet.specs.MostRounds.{octets_left, pieces_left, pieces_on}
use Rattle.h2_laws_quiet.specs.Work.{above_streams, credit_left, one_to_answer, tokens_left}
use Rattle.h2_laws_quiet.specs.Work.{tokens_on, work_of_item}
use Rattle.h2_ends.specs.EndCalls.{unsent_on}
use Rattle.h2_laws_quiet.proofs.FewItems.{data_counts}
use Rattle.h2_laws_quiet.proofs.FewPieces.{turn_sends, unsent_within}
use Rattle.h2_laws_quiet.proofs.FewRounds.{HasCome, w_moved, r_moved, w_out, r_received}
use Rattle.h2_laws_quiet.proofs.FewSteps.{reads_no_asks}
use Rattle.h2_laws_quiet.proofs.FewTurns.{Turn}
use Rattle.h2_laws_quiet.proofs.FewWindows.{credit_between}
use Rattle.h2_laws_quiet.proofs.RoundWork.{whole}
use Rattle.h2_laws_quiet.proofs.WorkOfLogs.{credit_is}

-- Where no token waits at an end, neither octets nor pieces do.
pub none_waits_there : (end : EndLog) → tokens_left end ≡ 0
    → (octets_left end ≡ 0) × (pieces_left end ≡ 0)
none_waits_there end none =
    let octets = sum_less (above_streams end.log) (tokens_on end) (unsent_on end)
    (λ j low. unsent_within end j) in
    let pieces = sum_less (above_streams end.log) (tokens_on end) (pieces_on end)
    (λ j low. omega (arith, unsent_within end j)) in
    (omega (arith, none, octets), omega (arith, none, pieces))

module _ (role other : Role) (values others : Values) (w0 r0 w1 r1 : EndLog)
    (t : Turn role other values others w0 r0 w1 r1) (come : HasCome w0.log r0.log)
    (none : tokens_left w0 ≡ 0)
    (back : credit_left (r_moved role other values others w0 r0 w1 r1 t).log ≡ 0) where
  abbrev r_out_end : EndLog
  r_out_end = r_moved role other values others w0 r0 w1 r1 t

  -- No token waits after it at the writer,
  pub none_waits_then : tokens_left w1 ≡ 0
  none_waits_then =
      let all = whole w0 t.w_released t.w_pumped (w_moved role other values others w0 r0 w1 r1 t)
      w1 t.w_stages in
      let tokens = all.tokens in
      omega (arith, tokens, none)

  -- and the reader reads no DATA, so it owes nothing and writes nothing.
  reads_no_data : total data_of r1.log.received
      ≤ total data_of (r_moved role other values others w0 r0 w1 r1 t).log.received
  reads_no_data =
      let came = ap (total data_of) t.came in
      let out = w_out role other values others w0 r0 w1 r1 t data_of data_counts in
      let sends = turn_sends role other values others w0 r0 w1 r1 t in
      let nothing = (none_waits_there w0 none).0 in
      let was = come.counts data_of data_counts in
      let same = ap (total data_of) (r_received role other values others w0 r0 w1 r1 t) in
      omega (arith, came, out, sends, nothing, was, same)

  pub quiet_reader : (credit_left r1.log ≡ 0)
      × (total work_of_item r1.log.sent ≡ total work_of_item r_out_end.log.sent)
  quiet_reader =
      let takes = t.reads.takes in
      let moved = credit_between (w_moved role other values others w0 r0 w1 r1 t) r_out_end
      t.moved in
      let wide = takes.ends.drives.as_wide in
      let last = credit_is other others r1.log t.reads.log_last t.reads.up_last in
      let sum = ap (total (increment_on 0)) takes.ends.drives.sent
      ∙ total-append (increment_on 0) takes.ends.drives.written r_out_end.log.sent in
      let no_data = reads_no_data in
      let asks = reads_no_asks role other values others w0 r0 w1 r1 t come in
      let same = ap (total one_to_answer) (r_received role other values others w0 r0 w1 r1 t) in
      let read = ap (total one_to_answer) takes.ends.drives.received
      ∙ total-append one_to_answer takes.ends.drives.read r_out_end.log.received in
      let cheap = takes.ends.drives.cheap in
      let gone = takes.none_gone in
      let work = ap (total work_of_item) takes.ends.drives.sent
      ∙ total-append work_of_item takes.ends.drives.written r_out_end.log.sent in (
        omega (arith, back, moved, last, sum, no_data, wide),
        omega (arith, back, moved, last, sum, no_data, wide, asks, same, read, cheap, gone, work),
      )

  -- So nothing is under way to the writer.
  pub none_under_way : total work_of_item r1.log.sent - total work_of_item w1.log.received ≡ 0
  none_under_way =
      let quiet = quiet_reader in
      let returned = ap (total work_of_item) t.returned in
      omega (arith, quiet.1, returned)
