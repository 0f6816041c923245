-- At a quiet pair of which neither end has failed all windows are open, both ways.
use Rattle.std.proofs.Common.{◌≡◌, ◌≢◌, ℕ, ◌+◌, true, false, [], None, sym}
use Rattle.std.proofs.Common.{ap, ◌∙◌, arith, pos}
use Rattle.std.specs.List.{list_any}
use Rattle.h2_spec_log.specs.Acts.{Values}
use Rattle.h2_spec_log.specs.Items.{ends, data_on, data_of, increment_on, greatest_block, total}
use Rattle.h2_spec_log.specs.Log.{active, owed, granted, send_window}
use Rattle.h2_spec_log.specs.Settings.{value_read}
use Rattle.h2_spec_log.specs.States.{Active, ClosedByUs, openings}
use Rattle.h2_spec_log.specs.Windows.{first_window, connection_send_window}
use Rattle.h2_laws_log.specs.Sums.{sum_below}
use Rattle.h2_laws_log.proofs.InvariantLogs.{written_is_allowed}
use Rattle.h2_laws_log.proofs.ItemLists.{total_none}
use Rattle.h2_laws_pair.specs.Directions.{AreUnderWay}
use Rattle.h2_laws_pair.specs.Pairs.{Half, IsPair}
use Rattle.h2_laws_pair.specs.Quiet.{IsQuiet, IsQuietTo}
use Rattle.h2_laws_pair.proofs.BothWays.{AreEnds, ends_to_server, ends_to_client}
use Rattle.h2_laws_pair.proofs.ConnectionWindows.{connection_conserved}
use Rattle.h2_laws_pair.proofs.StreamWindows.{stream_conserved}
use Rattle.h2_laws_quiet.specs.OpenWindows.{HasOpenWindows}
use Rattle.h2_laws_pair.proofs.HeardQuiet.{some_window, plain_window, none_sum}
use Rattle.h2_laws_quiet.proofs.QuietStreams.{are_level, server_active, client_active, of_active}

module _ (writer reader : Half) (halves : AreEnds writer reader) (up : reader.log.failed ≡ None)
    (quiet : IsQuietTo writer reader) (way : AreUnderWay writer.log reader.log [])
    (back : AreUnderWay reader.log writer.log []) where
  -- The writer may send on the connection all that the reader has granted,
  connection_open : connection_send_window writer.log.received writer.log.sent
      ≡ pos (granted reader.log)
  connection_open =
      let log = reader.log in
      let bound = greatest_block (openings log.role log.received log.sent) + 1 in
      let owes : sum_below bound (owed log) + log.unreturned ≡ 0 = omega
      (arith, none_sum bound (owed log) quiet.none_owed, quiet.none_unreturned) in
      plain_window _ (total data_of []) (total (increment_on 0) []) _ (granted reader.log)
      (total_none data_of) (total_none (increment_on 0)) owes
      (connection_conserved writer reader [] [] bound halves up way back (omega arith))

  -- and the initial window on a stream that is active at both ends, and that it hasn't ended.
  stream_open : (i : ℕ) → active writer.log i ≡ true → active reader.log i ≡ true
      → list_any (ends i) writer.log.sent ≡ false
      → send_window writer.log i ≡ pos (value_read 4 first_window writer.log.received)
  stream_open i alive there goes_on =
      plain_window (send_window writer.log i) (total (data_on i) []) (total (increment_on i) [])
      (owed reader.log i) _ (total_none (data_on i)) (total_none (increment_on i))
      (quiet.none_owed i) (stream_conserved writer reader [] [] i halves way back (record {
        active = alive;
        stays = of_active (λ s. s ≢ ClosedByUs) reader.log i there
            (λ closed. let both : Active ≡ ClosedByUs = closed in cc);
        goes_on = ap (list_any (ends i)) (sym way) ∙ goes_on;
      }))

  -- So all its windows are open.
  open_windows : ((i : ℕ) → active writer.log i ≡ true → active reader.log i ≡ true)
      → HasOpenWindows writer.log reader.log
  open_windows level = record {
    connection = connection_open;
    streams = λ i alive goes_on. stream_open i alive (level i alive) goes_on;
    some = rw (← back) (some_window halves.reader_role reader.log.received reader.log.sent
        (written_is_allowed halves.reader_role halves.reader_values reader.log
        halves.reader_log));
  }

module _ (client_values server_values : Values) (client server : Half)
    (pair : IsPair client_values server_values client server)
    (client_up : client.log.failed ≡ None)
    (server_up : server.log.failed ≡ None) (quiet : IsQuiet client server) where
  pub client_open : HasOpenWindows client.log server.log
  client_open =
      let level = are_level client_values server_values client server pair client_up server_up
      quiet
      in
      open_windows client server (ends_to_server client_values server_values client server pair)
      server_up quiet.to_server (sym level.to_server) (sym level.to_client)
      (λ i alive. server_active client.log server.log i level alive)

  pub server_open : HasOpenWindows server.log client.log
  server_open =
      let level = are_level client_values server_values client server pair client_up server_up
      quiet
      in
      open_windows server client (ends_to_client client_values server_values client server pair)
      client_up quiet.to_client (sym level.to_client) (sym level.to_server)
      (λ i alive. client_active client.log server.log i level alive)
