-- Once an undisturbed pair is quiet, all that was sent on a stream that wasn't reset was heard.
use Rattle.std.proofs.lemmas.Bool.{false_from_ne_true}
use Rattle.h2_spec_log.specs.Events.{reports_unprocessed}
use Rattle.h2_laws_pair.proofs.Names
use Names.{◌≡◌, ◌⊎◌, inl, inr, ℕ, ◌<◌, ◌==◌, ◌%◌, nat_lt, true, false, List, [], ◌∷◌, ◌++◌, refl}
use Names.{sym, ap, ◌∙◌, append-nil, arith, subst, list_any, both_ways, or_cases, eqb-true}
use Names.{cases_Bool, and_parts, ltb-true, or_left, or_right, Field, Data, Reset, GoAway, Item}
use Names.{alone, block, Role, Client, Server, Values, Act, Answer, AllowedHistory, Event}
use Names.{UnprocessedEvent, is_block_on, ends, resets, is_goaway_below, Log, least_goaway}
use Names.{next_unprocessed, stream_of_log, written_is_allowed, active_from, lasts_from, Half}
use Names.{IsPair, IsUndisturbed, WasAsked, IsQuiet, WasReset, is_above, is_closed_by_us, Token}
use Names.{tokens_sent, tokens_written, tokens_heard, IsPrefixOfTokens}
use Rattle.h2_laws_pair.proofs.PairLogs.{both_logs}
use Rattle.h2_laws_pair.proofs.BothWays.{IsDirection, to_server, to_client, ends_of}
use Rattle.h2_laws_pair.proofs.CarriedOctets.{carried}
use Rattle.h2_laws_pair.proofs.Arrived.{all_arrived}
use Rattle.h2_laws_pair.proofs.Lists.{found, one_of_all}
use Rattle.h2_laws_pair.proofs.NamedUnprocessed.{none_above}
use Rattle.h2_laws_pair.proofs.HeardMessages.{silent_tokens, spoken_opened}
use Rattle.h2_laws_pair.proofs.FaultsInvariant.{IsAsked, LogIsClean}
use Rattle.h2_laws_pair.proofs.FaultsOfPairs.{pair_clean}
use Rattle.h2_laws_pair.proofs.HeardReads.{AreHeard, all_heard, some_heard}
use Rattle.h2_laws_pair.proofs.HeardPairs.{is_heard, given_in_order}
use Rattle.h2_laws_pair.proofs.HeardGoAways.{IsBelow, spoken_below, speaks}
use Rattle.h2_laws_end.proofs.ActivityOpened.{used_odd}
use Rattle.h2_laws_log.proofs.LogViewLemmas.{client_above}

-- A reset of the stream was asked for with its code.
reset_asked : (i : ℕ) (calls : List (Act × Answer)) (item : Item) → resets i item ≡ true
    → IsAsked calls item → (code : ℕ) × WasAsked calls i code
unfolding resets IsAsked
reset_asked i calls (alone (Reset stream code)) here asked =
    (code, subst (λ (j : ℕ). WasAsked calls j code) (eqb-true stream i here) asked)
reset_asked i calls item here asked = absurd (both_ways false refl here)

-- The event that names the stream unprocessed.
named_event : (i : ℕ) (event : Event) → reports_unprocessed i event ≡ true
    → event ≡ UnprocessedEvent i
unfolding reports_unprocessed
named_event i (UnprocessedEvent id) here = ap UnprocessedEvent (eqb-true id i here)
named_event i event here = absurd (both_ways false refl here)

-- Where a client has sent no block of a stream, it has sent nothing on it.
nothing_sent : (i : ℕ) (received sent : List Item) (lists : List (List Field))
    → AllowedHistory Client received sent → list_any (is_block_on i) sent ≡ false
    → tokens_written i sent lists ≡ []
nothing_sent i received sent lists history none =
    silent_tokens i sent lists (false_from_ne_true _ (λ spoken.
    both_ways _ none (spoken_opened Client i received sent history spoken).opened))

-- A GOAWAY below a number brings the least last stream below it.
pub least_below : (i : ℕ) (items : List Item) → list_any (is_goaway_below i) items ≡ true
    → least_goaway items < i
unfolding least_goaway is_goaway_below
least_below i [] here = absurd (both_ways false refl here)
least_below i (block stream end octets ∷ items) here = least_below i items here
least_below i (alone (GoAway last code debug) ∷ items) here =
    elim (or_cases (nat_lt last i) (list_any (is_goaway_below i) items) here) [
      | inl now ↦ let below = ltb-true last i now in omega arith
      | inr before ↦ let below = least_below i items before in omega arith
    ]
least_below i (alone frame ∷ items) here = least_below i items here

-- What is known of a quiet, undisturbed pair in which a stream wasn't reset.
pub record IsQuietStream (client server : Log) (i : ℕ) : Type 0 where
  pub client_role : client.role ≡ Client
  pub server_role : server.role ≡ Server
  pub client_clean : LogIsClean client
  pub server_clean : LogIsClean server
  pub to_server : server.received ≡ client.sent
  pub to_client : client.received ≡ server.sent
  pub all_reported : next_unprocessed client ≡ 0
  pub spoken : IsBelow server
  pub unreset : WasReset client server i → ⊥
  pub allowed : AllowedHistory Client client.received client.sent

-- An end without faults has reset the stream only where that was asked for.
kept_by : (log : Log) (i : ℕ) → LogIsClean log → (((code : ℕ) × WasAsked log.calls i code) → ⊥)
    → list_any (resets i) log.sent ≡ false
kept_by log i clean unasked = false_from_ne_true _ (λ here.
    let reset = found (resets i) log.sent here in
    unasked (reset_asked i log.calls reset.0 reset.2
    (one_of_all (IsAsked log.calls) log.sent reset.0 clean.asked reset.1)))

-- What ends a stream is part of a message.
one_ended : (i : ℕ) (item : Item) → ends i item ≡ true → speaks i item ≡ true
unfolding ends speaks
one_ended i (block stream end octets) here = (and_parts (stream == i) end here).0
one_ended i (alone (Data stream end octets pad)) here = (and_parts (stream == i) end here).0
one_ended i item here = absurd (both_ways false refl here)

pub ended_spoken : (i : ℕ) (items : List Item) → list_any (ends i) items ≡ true
    → list_any (speaks i) items ≡ true
ended_spoken i [] here = here
ended_spoken i (item ∷ items) here = elim (or_cases (ends i item) (list_any (ends i) items) here) [
  | inl now ↦ or_left (speaks i item) _ (one_ended i item now)
  | inr before ↦ or_right (speaks i item) _ (ended_spoken i items before)
]

-- A server has closed a stream by a reset, or has named a last stream below it.
pub closed_how : (role : Role) (i : ℕ) (sent : List Item) → is_closed_by_us role i sent ≡ true
    → (list_any (resets i) sent ≡ true) ⊎ (is_above role i sent ≡ true)
unfolding is_closed_by_us
closed_how role i sent closed = or_cases (list_any (resets i) sent) (is_above role i sent) closed

pub above_server : (role : Role) (i : ℕ) (sent : List Item) → role ≡ Server
    → is_above role i sent ≡ true → list_any (is_goaway_below i) sent ≡ true
unfolding is_above
above_server Client i sent server above = absurd (cc)
above_server Server i sent server above = above

-- A prefix of nothing is nothing.
none_heard : (tokens whole : List Token) → whole ≡ [] → IsPrefixOfTokens tokens whole
    → tokens ≡ whole
none_heard [] whole none prefix = sym none
none_heard (token ∷ tokens) whole none (rest, is) =
    let wrong : [] ≡ (token ∷ tokens) ++ rest = sym none ∙ is in absurd (cc)

-- Where all items were read, and all that they carry was heard, all that was given was.
hears_all : (writer reader : Half) (i : ℕ) → IsDirection writer reader
    → reader.log.received ≡ writer.log.sent → ((lists : List (List Field))
    → AreHeard reader.log.role i reader.log.received reader.log.sent reader.log.reported lists
    → tokens_heard i reader.log.reported ≡ tokens_written i reader.log.received lists)
    → tokens_heard i reader.log.reported ≡ tokens_sent i writer.log.calls
unfolding tokens_written
hears_all writer reader i is all whole =
    let heard = is_heard _ _ is in
    whole heard.lists (heard.heard i) ∙ sym (given_in_order _ _ _ _ _ [] (ends_of _ _ is).writer_log
    (sym all) heard ∙ append-nil _)

module _ (client server : Log) (i : ℕ) (settled : IsQuietStream client server i) where
  -- Neither end has reset the stream, and it wasn't named unprocessed.
  pub client_kept : list_any (resets i) client.sent ≡ false
  client_kept = kept_by client i settled.client_clean (λ asked. settled.unreset (inl asked))

  pub server_kept : list_any (resets i) server.sent ≡ false
  server_kept = kept_by server i settled.server_clean (λ asked. settled.unreset (inr (inl asked)))

  pub unnamed : list_any (reports_unprocessed i) client.reported ≡ false
  unnamed = false_from_ne_true _ (λ here.
      let named = found (reports_unprocessed i) client.reported here in
      settled.unreset (inr (inr (rw (named_event i named.0 named.2) at named.1))))

  -- A number that the client has opened is above no GOAWAY of the server.
  pub cut_off : i % 2 == 1 ≡ true → list_any (is_block_on i) client.sent ≡ true
      → list_any (is_goaway_below i) server.sent ≡ true → ⊥
  cut_off odd opened below =
      let read : list_any (is_goaway_below i) client.received ≡ true =
      ap (list_any (is_goaway_below i)) settled.to_client ∙ below in
      let unended : list_any (ends i) client.received ≡ false = false_from_ne_true _ (λ here.
      both_ways _ (settled.spoken i (ended_spoken i server.sent
      (sym (ap (list_any (ends i)) settled.to_client) ∙ here))).below below) in
      none_above client i settled.client_role settled.all_reported
      (least_below i client.received read)
      (active_from client.role i client.received client.sent client.reported (record {
        odd = odd;
        opened = rw settled.client_role opened;
        below = client_above client.role i client.sent settled.client_role;
        lasts = lasts_from i client.received client.sent (record {
          ended = rw unended refl;
          unreset = ap (list_any (resets i)) settled.to_client ∙ server_kept;
          kept = client_kept;
        });
        unnamed = unnamed;
      }))

  -- What a server has heard is all that the items carry.
  server_all : (lists : List (List Field))
      → AreHeard server.role i server.received server.sent server.reported lists
      → tokens_heard i server.reported ≡ tokens_written i server.received lists
  server_all lists (all_heard is) = is
  server_all lists (some_heard is rest) = elim (closed_how server.role i server.sent is.closed) [
    | inl reset ↦ absurd (both_ways _ server_kept reset)
    | inr above ↦ elim (cases_Bool (list_any (is_block_on i) client.sent)) [
      | inl opened ↦
          absurd (cut_off (used_odd server.role i server.received server.sent is.used) opened
          (above_server server.role i server.sent settled.server_role above))
      | inr unopened ↦
          none_heard _ _ (ap (λ (items : List Item). tokens_written i items lists) settled.to_server
          ∙ nothing_sent i client.received client.sent lists settled.allowed unopened) rest
    ]
  ]

  -- So is what a client has heard.
  client_all : (lists : List (List Field))
      → AreHeard client.role i client.received client.sent client.reported lists
      → tokens_heard i client.reported ≡ tokens_written i client.received lists
  client_all lists (all_heard is) = is
  client_all lists (some_heard gone _) = elim (closed_how client.role i client.sent gone.closed) [
    | inl reset ↦ absurd (both_ways _ client_kept reset)
    | inr above ↦
        absurd (both_ways _ (client_above client.role i client.sent settled.client_role) above)
  ]

module _ (client_values server_values : Values) (client server : Half) (i : ℕ)
    (pair : IsPair client_values server_values client server) where
  -- A quiet, undisturbed pair is settled.
  pub pair_settled : IsUndisturbed pair → IsQuiet client server
      → (WasReset client.log server.log i → ⊥) → IsQuietStream client.log server.log i
  pair_settled calm quiet unreset =
      let both = both_logs client_values server_values client server pair in
      let clean = pair_clean client_values server_values client server pair calm in
      record {
        client_role = (stream_of_log Client client_values client.log both.client_log).role;
        server_role = (stream_of_log Server server_values server.log both.server_log).role;
        client_clean = clean.client_clean;
        server_clean = clean.server_clean;
        to_server = all_arrived client server (ends_of client server (to_server pair))
            (carried client server (to_server pair)) clean.server_clean.up
            quiet.to_server.delivered quiet.to_server.given;
        to_client = all_arrived server client (ends_of server client (to_client pair))
            (carried server client (to_client pair)) clean.client_clean.up
            quiet.to_client.delivered quiet.to_client.given;
        all_reported = quiet.all_reported;
        spoken = spoken_below server_values server.log both.server_log clean.server_clean.up;
        unreset = unreset;
        allowed = written_is_allowed Client client_values client.log both.client_log;
      }

  -- All is heard, at the server and at the client.
  pub server_hears_all : IsUndisturbed pair → IsQuiet client server
      → (WasReset client.log server.log i → ⊥)
      → tokens_heard i server.log.reported ≡ tokens_sent i client.log.calls
  server_hears_all calm quiet unreset =
      let settled = pair_settled calm quiet unreset in
      hears_all client server i (to_server pair) settled.to_server
      (server_all client.log server.log i settled)

  pub client_hears_all : IsUndisturbed pair → IsQuiet client server
      → (WasReset client.log server.log i → ⊥)
      → tokens_heard i client.log.reported ≡ tokens_sent i server.log.calls
  client_hears_all calm quiet unreset =
      let settled = pair_settled calm quiet unreset in
      hears_all server client i (to_client pair) settled.to_client
      (client_all client.log server.log i settled)
