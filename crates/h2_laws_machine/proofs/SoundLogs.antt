-- Every log that hasn't failed is sound.
use Rattle.h2_laws_machine.proofs.Names
use Names.{◌≡◌, ℕ, ◌≤◌, nat_lt, Bool, true, false, ◌&&◌, List, None, refl, ap, ◌∙◌, arith, list_any}
use Names.{Item, Role, Client, Server, is_goaway, greatest_block, Values, is_server, openings}
use Names.{is_above, when, Log, IsLog, AllowedHistory, is_beyond, goaway_sent_last, log_represents}
use Rattle.h2_laws_machine.proofs.GoAwaysSent.{active_processed, processed_at_server}
use Rattle.h2_laws_machine.proofs.LogCore.{core}
use Rattle.h2_laws_machine.proofs.NumberedLogs.{OneGoAway}
use Rattle.h2_laws_machine.proofs.NumberedSteps.{numbered_of}
use Rattle.h2_laws_machine.proofs.OneAwaited.{awaits_one}
use Rattle.h2_laws_machine.proofs.QuietNumbers.{AreOdd, used_is, written_odd, sent_quiet}
use Rattle.h2_laws_machine.proofs.RecvVerdict.{Sound}
use Rattle.h2_laws_machine.proofs.UpInvariant.{openings_server}

-- All openings have odd numbers.
odd_openings : (role : Role) (received sent : List Item) → AllowedHistory role received sent
    → (is_server role ≡ true → AreOdd received) → AreOdd (openings role received sent)
odd_openings Client received sent with_sent odd = written_odd Client received sent with_sent
odd_openings Server received sent with_sent odd = odd refl

-- A number is beyond the last stream of a GOAWAY that was sent.
beyond_by : (b : Bool) (last i : ℕ) → (b && nat_lt last i) ≡ is_beyond i (when b last)
beyond_by true last i = refl
beyond_by false last i = refl

-- A number is above an own GOAWAY's last stream as the newest one says, where there is one at most.
above_is : (role : Role) (i n : ℕ) (sent : List Item) → OneGoAway n sent
    → is_above role i sent
    ≡ (is_server role && is_beyond i (when (list_any is_goaway sent) (goaway_sent_last sent)))
unfolding is_above
above_is Client i n sent g = refl
above_is Server i n sent g = g.above i ∙ beyond_by _ _ i

-- What is no greater than the greatest number that was read is no greater than the greatest that
-- was used, at a server.
used_at_server : (role : Role) (received sent : List Item) (n : ℕ) → is_server role ≡ true
    → n ≤ greatest_block received → n ≤ greatest_block (openings role received sent)
used_at_server role received sent n server low =
    let same = ap greatest_block (openings_server role received sent server) in
    omega (arith, low, same)

-- Every log that hasn't failed is sound.
pub sound_log : (role : Role) (values : Values) (log : Log) → IsLog role values log
    → log.failed ≡ None → Sound (core log)
sound_log role values log came up =
    let represents = log_represents role values log came in
    let good = represents.good up in
    let f = numbered_of role values log came up in
    let one = awaits_one role values log came up in
    record {
      with_sent = represents.with_sent;
      used = λ i. used_is log.role i log.received log.sent
          (odd_openings log.role log.received log.sent represents.with_sent f.odd);
      above = λ i. above_is log.role i (greatest_block log.received) log.sent f.goaways;
      unread = λ i some unused.
          let heard = f.unread i some unused in
          let quiet = sent_quiet log.role i log.received log.sent represents.with_sent unused in
          assumption (heard, quiet);
      unnamed = f.unnamed;
      last = λ server some. used_at_server log.role log.received log.sent _ server
          (f.goaways.last some);
      last_processed = λ server. used_at_server log.role log.received log.sent _ server
          (f.processed server);
      active_taken = λ server i alive.
          let low = active_processed role values log came up server i alive in
          omega (arith, low, processed_at_server log server);
      pings = one.pings;
      settings = one.settings;
      released = f.released;
      unopened = good.opened;
    }
