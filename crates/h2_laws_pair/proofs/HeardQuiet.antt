-- Once an undisturbed pair is quiet, a message was heard whole, if what waits of it could not go.
use Rattle.std.proofs.Common.{int_lt}
use Rattle.std.proofs.lemmas.Bool.{false_from_ne_true, and_right}
use Rattle.h2_spec_log.specs.Events.{reports_unprocessed}
use Rattle.h2_laws_log.proofs.AllowedHistories.{opening_window, changed_window}
use Rattle.h2_laws_log.proofs.LogViewLemmas.{closed_by_us_is, client_above}
use Rattle.h2_laws_pair.specs.Quiet.{IsSending, IsStuck, CouldGo}
use Rattle.h2_laws_pair.proofs.Names
use Names.{◌≡◌, ◌≢◌, inl, inr, ℕ, zero, suc, ◌+◌, ◌≤◌, true, false, List, [], ◌∷◌, ◌++◌, None, refl}
use Names.{granted}
use Names.{sym, ap, ◌∙◌, append-nil, arith, length, ℤ, pos, ◌+ℤ◌, list_any, both_ways, cases_Bool}
use Names.{nat_tests, ints, Settings, Item, alone, Role, Client, Server, Values, AllowedHistory}
use Names.{Allowed, starts, reads, writes, ends, resets, total, data_on, data_of, increment_on}
use Names.{greatest_block, value_read, is_server, Log, active, owed, send_window, first_window}
use Names.{connection_send_window, IsLog, sum_below, written_is_allowed, total_none, active_from}
use Names.{lasts_from, lists_accepted, log_sent, Half, IsPair, AreUnderWay, IsUndisturbed, IsQuiet}
use Names.{WasReset, is_above, is_closed_by_us, openings, Token, FieldsToken}
use Names.{OctetToken, EndToken, tokens_sent, tokens_heard, Said, said_tokens}
use Rattle.h2_laws_pair.proofs.PairLogs.{both_logs}
use Rattle.h2_laws_pair.proofs.BothWays.{AreEnds, ends_to_server, ends_to_client}
use Rattle.h2_laws_pair.proofs.ConnectionWindows.{connection_conserved}
use Rattle.h2_laws_pair.proofs.NamedUnprocessed.{log_named}
use Rattle.h2_laws_pair.proofs.StreamWindows.{stream_conserved}
use Rattle.h2_laws_pair.proofs.HeardGoAways.{speaks}
use Rattle.h2_laws_pair.proofs.HeardLists.{blocks_of_lists}
use Rattle.h2_laws_pair.proofs.HeardMessages.{spoken_opened, silent_tokens, ended_tokens, unended}
use Rattle.h2_laws_pair.proofs.HeardSent.{tokens_carried}
use Rattle.h2_laws_pair.proofs.HeardWhole.{IsQuietStream, client_kept, server_kept, unnamed}
use Rattle.h2_laws_pair.proofs.HeardWhole.{closed_how, above_server, cut_off, pair_settled}
use Rattle.h2_laws_pair.proofs.HeardWhole.{server_hears_all, client_hears_all}

-- The initial window that an end has sent last is at least 1.
window_after : (role : Role) (received sent : List Item) (item : Item)
    → Allowed role received sent item → 1 ≤ value_read 4 first_window sent
    → 1 ≤ value_read 4 first_window (item ∷ sent)
unfolding value_read
window_after role received sent (alone (Settings false pairs)) allowed some =
    rw (allowed.1.changed, changed_window _ _ allowed.1.values _) allowed.1.in_range.least_window
window_after role received sent item allowed some = some

pub some_window : (role : Role) (received sent : List Item) → AllowedHistory role received sent
    → 1 ≤ value_read 4 first_window sent
unfolding value_read
some_window role _ _ (starts values ok) = rw (opening_window role values first_window)
    ok.least_window
some_window role _ sent (reads {received = received} item history) = some_window _ _ sent history
some_window role received _ (writes {sent = sent} item history allowed) =
    window_after role received sent item allowed (some_window role received sent history)

-- A window is what it is with nothing more.
pub plain_window : (window : ℤ) (under_way back owes value : ℕ) → under_way ≡ 0 → back ≡ 0 → owes ≡ 0
    → (window +ℤ pos under_way) +ℤ pos (back + owes) ≡ pos value → window ≡ pos value
plain_window window under_way back owes value none nothing paid is = omega (arith, ints)

above_none : (window : ℤ) (value : ℕ) → window ≡ pos value → 1 ≤ value
    → int_lt (pos 0) window ≡ true
above_none window value is some = rw is (grind (arith, nat_tests, ints))

-- A sum of nothing is nothing.
pub none_sum : (n : ℕ) (f : ℕ → ℕ) → ((j : ℕ) → f j ≡ 0) → sum_below n f ≡ 0
unfolding sum_below
none_sum zero f none = refl
none_sum (suc n) f none = omega (arith, none n, none_sum n f none)

-- What is known of two ends of which nothing is under way, and of a stream that goes on.
pub record IsIdle (writer reader : Half) (i : ℕ) : Type 0 where
  pub halves : AreEnds writer reader
  pub up : reader.log.failed ≡ None
  pub way : AreUnderWay writer.log reader.log []
  pub back : AreUnderWay reader.log writer.log []
  pub none_owed : (j : ℕ) → owed reader.log j ≡ 0
  pub none_unreturned : reader.log.unreturned ≡ 0
  pub alive : active writer.log i ≡ true
  pub unclosed : is_closed_by_us reader.log.role i reader.log.sent ≡ false
  pub goes_on : list_any (ends i) reader.log.received ≡ false

-- Both windows are open.
stream_open : (writer reader : Half) (i : ℕ) → IsIdle writer reader i
    → int_lt (pos 0) (send_window writer.log i) ≡ true
stream_open writer reader i idle =
    let value = value_read 4 first_window writer.log.received in
    let conserved = stream_conserved writer reader [] [] i idle.halves idle.way idle.back (record {
      active = idle.alive;
      stays = λ closed. both_ways _ idle.unclosed (closed_by_us_is _ _ _ closed);
      goes_on = idle.goes_on;
    }) in
    let is : send_window writer.log i ≡ pos value = plain_window (send_window writer.log i)
    (total (data_on i) []) (total (increment_on i) []) (owed reader.log i) value
    (total_none (data_on i)) (total_none (increment_on i)) (idle.none_owed i) conserved in
    let some : 1 ≤ value_read 4 first_window reader.log.sent = some_window idle.halves.reader_role _
    _ (written_is_allowed _ _ reader.log idle.halves.reader_log) in
    above_none (send_window writer.log i) value is (rw (sym idle.back) some)

connection_open : (writer reader : Half) (i : ℕ) → IsIdle writer reader i
    → int_lt (pos 0) (connection_send_window writer.log.received writer.log.sent) ≡ true
connection_open writer reader i idle =
    let window = connection_send_window writer.log.received writer.log.sent in
    let bound = greatest_block (openings reader.log.role reader.log.received reader.log.sent) + 1 in
    let conserved = connection_conserved writer reader [] [] bound idle.halves idle.up idle.way
    idle.back (omega arith) in
    let owes : sum_below bound (owed reader.log) + reader.log.unreturned ≡ 0 = omega
    (arith, none_sum bound (owed reader.log) idle.none_owed, idle.none_unreturned) in
    above_none window (granted reader.log) (plain_window _ (total data_of [])
    (total (increment_on 0) []) _ (granted reader.log) (total_none data_of)
    (total_none (increment_on 0)) owes conserved) (omega arith)

pub could_go : (writer reader : Half) (i : ℕ) (token : Token) → IsIdle writer reader i
    → CouldGo writer.log i token
could_go writer reader i (OctetToken octet) idle =
    (stream_open writer reader i idle, connection_open writer reader i idle)
could_go writer reader i (FieldsToken list end) idle = tt
could_go writer reader i EndToken idle = tt

-- An end that has sent something on a stream.
spoken_by : (role : Role) (values : Values) (log : Log) (i : ℕ) → IsLog role values log
    → tokens_sent i log.calls ≢ [] → list_any (speaks i) log.sent ≡ true
spoken_by role values log i is some = elim (cases_Bool (list_any (speaks i) log.sent)) [
  | inl spoken ↦ spoken
  | inr silent ↦ absurd (some (tokens_carried i role values log is
      ∙ silent_tokens i log.sent (lists_accepted log.calls) silent))
]

-- As long as something waits of a message, the stream wasn't ended.
pub goes_on_by : (role : Role) (values : Values) (log : Log) (i : ℕ) (said : Said)
    (token : Token) (others : List Token) → IsLog role values log
    → said_tokens said ≡ tokens_sent i log.calls ++ token ∷ others
    → list_any (ends i) log.sent ≡ false
goes_on_by role values log i said token others is waits =
    false_from_ne_true _ (λ here.
    let many : length (lists_accepted log.calls) ≡ _ = blocks_of_lists _ _ _ _ (log_sent _ _ _ is)
    in
    unended _ _ _ _ waits (rw (tokens_carried _ _ _ _ is) (ended_tokens _ _ _ many here)))

-- A stream is active on which something was sent, that wasn't ended, reset or named unprocessed.
active_by : (role : Role) (values : Values) (log : Log) (i : ℕ) → IsLog role values log
    → log.role ≡ role → list_any (speaks i) log.sent ≡ true → is_above role i log.sent ≡ false
    → list_any (ends i) log.sent ≡ false → list_any (resets i) log.received ≡ false
    → list_any (resets i) log.sent ≡ false → list_any (reports_unprocessed i) log.reported ≡ false
    → active log i ≡ true
active_by role values log i is own spoken below goes unreset kept unnamed =
    let opened = spoken_opened role i log.received log.sent (written_is_allowed _ _ _ is) spoken in
    rw own (active_from role i log.received log.sent log.reported (record {
      odd = opened.odd;
      opened = opened.opened;
      below = below;
      lasts = lasts_from i log.received log.sent (record {
        ended = and_right (list_any (ends i) log.received) _ goes;
        unreset = unreset;
        kept = kept;
      });
      unnamed = unnamed;
    }))

-- Where nothing waits, or what waits could go, all of a message was sent.
all_sent : (writer reader : Half) (i : ℕ) (said : Said) (waiting : List Token)
    → IsSending writer.log i said waiting → IsStuck writer.log i waiting
    → ((token : Token) (others : List Token)
    → said_tokens said ≡ tokens_sent i writer.log.calls ++ token ∷ others
    → IsIdle writer reader i)
    → tokens_sent i writer.log.calls ≡ said_tokens said
all_sent writer reader i said [] sending stuck idle = sym (append-nil _) ∙ sym sending.sent
all_sent writer reader i said (token ∷ others) sending stuck idle =
    let now = idle token others sending.sent in
    absurd (stuck now.alive (could_go writer reader i token now))

-- A server reports no stream as unprocessed.
server_unnamed : (values : Values) (log : Log) (i : ℕ) → IsLog Server values log
    → log.role ≡ Server → list_any (reports_unprocessed i) log.reported ≡ false
server_unnamed values log i is own = false_from_ne_true _ (λ here.
    both_ways _ (log_named Server values log is i here).0 (ap is_server own))

module _ (client_values server_values : Values) (client server : Half) (i : ℕ)
    (said : Said) where
  -- A stream of a client goes on at the server.
  client_idle : IsPair client_values server_values client server → IsQuiet client server
      → IsQuietStream client.log server.log i → tokens_sent i client.log.calls ≢ []
      → (token : Token) (others : List Token)
      → said_tokens said ≡ tokens_sent i client.log.calls ++ token ∷ others
      → IsIdle client server i
  client_idle pair quiet settled begun token others sent =
      let is = (both_logs client_values server_values client server pair).client_log in
      let spoken = spoken_by Client client_values client.log i is begun in
      let goes = goes_on_by Client client_values client.log i said token others is sent in
      let opened = spoken_opened Client i client.log.received client.log.sent settled.allowed
      spoken in
      record {
        halves = ends_to_server client_values server_values client server pair;
        up = settled.server_clean.up;
        way = sym settled.to_server;
        back = sym settled.to_client;
        none_owed = quiet.to_server.none_owed;
        none_unreturned = quiet.to_server.none_unreturned;
        alive = active_by Client client_values client.log i is settled.client_role spoken
            (client_above Client i client.log.sent refl) goes (ap (list_any (resets i))
            settled.to_client ∙ server_kept client.log server.log i settled)
            (client_kept client.log server.log i settled)
            (unnamed client.log server.log i settled);
        unclosed = false_from_ne_true _ (λ closed.
            elim (closed_how server.log.role i server.log.sent closed) [
              | inl reset ↦ both_ways _ (server_kept client.log server.log i settled) reset
              | inr above ↦ cut_off client.log server.log i settled opened.odd opened.opened
                  (above_server server.log.role i server.log.sent settled.server_role above)
            ]);
        goes_on = ap (list_any (ends i)) settled.to_server ∙ goes;
      }

  -- And one of a server at the client.
  server_idle : IsPair client_values server_values client server → IsQuiet client server
      → IsQuietStream client.log server.log i → tokens_sent i server.log.calls ≢ []
      → (token : Token) (others : List Token)
      → said_tokens said ≡ tokens_sent i server.log.calls ++ token ∷ others
      → IsIdle server client i
  server_idle pair quiet settled begun token others sent =
      let is = (both_logs client_values server_values client server pair).server_log in
      let spoken = spoken_by Server server_values server.log i is begun in
      let goes = goes_on_by Server server_values server.log i said token others is sent in
      record {
        halves = ends_to_client client_values server_values client server pair;
        up = settled.client_clean.up;
        way = sym settled.to_client;
        back = sym settled.to_server;
        none_owed = quiet.to_client.none_owed;
        none_unreturned = quiet.to_client.none_unreturned;
        alive = active_by Server server_values server.log i is settled.server_role spoken
            (false_from_ne_true _ (λ above. both_ways _ (settled.spoken i spoken).below
            (above_server Server i server.log.sent refl above))) goes (ap (list_any (resets i))
            settled.to_server ∙ client_kept client.log server.log i settled)
            (server_kept client.log server.log i settled)
            (server_unnamed server_values server.log i is settled.server_role);
        unclosed = false_from_ne_true _ (λ closed.
            elim (closed_how client.log.role i client.log.sent closed) [
              | inl reset ↦ both_ways _ (client_kept client.log server.log i settled) reset
              | inr above ↦ both_ways _ (client_above client.log.role i client.log.sent
                  settled.client_role) above
            ]);
        goes_on = ap (list_any (ends i)) settled.to_client ∙ goes;
      }

  -- A message was heard whole, at the server and at the client.
  pub server_hears_whole : (waiting : List Token)
      (pair : IsPair client_values server_values client server)
      → IsUndisturbed pair → IsQuiet client server → (WasReset client.log server.log i → ⊥)
      → IsSending client.log i said waiting → IsStuck client.log i waiting
      → tokens_heard i server.log.reported ≡ said_tokens said
  server_hears_whole waiting pair calm quiet unreset sending stuck =
      server_hears_all client_values server_values client server i pair calm quiet unreset
      ∙ all_sent client server i said waiting sending stuck (client_idle pair quiet
      (pair_settled client_values server_values client server i pair calm quiet unreset)
      sending.begun)

  pub client_hears_whole : (waiting : List Token)
      (pair : IsPair client_values server_values client server)
      → IsUndisturbed pair → IsQuiet client server → (WasReset client.log server.log i → ⊥)
      → IsSending server.log i said waiting → IsStuck server.log i waiting
      → tokens_heard i client.log.reported ≡ said_tokens said
  client_hears_whole waiting pair calm quiet unreset sending stuck =
      client_hears_all client_values server_values client server i pair calm quiet unreset
      ∙ all_sent server client i said waiting sending stuck (server_idle pair quiet
      (pair_settled client_values server_values client server i pair calm quiet unreset)
      sending.begun)
