-- What a release of all, a pump and output that is put out leave as it was, and how much a pump
-- takes of the windows and of what waits.
use Rattle.std.proofs.Common.{◌≡◌, ◌≢◌, inl, inr, ℕ, ◌+◌, ◌≤◌, max, Bool, List}
use Rattle.std.proofs.Common.{length, Option, None, Some, Result, Ok, Err, refl, ap, ◌∙◌}
use Rattle.std.proofs.Common.{arith, true}
use Rattle.hpack.specs.declared.types.field.Field.{Field}
use Rattle.h2_block.specs.Grouping.{Item}
use Rattle.h2_spec_log.specs.declared.refusal.Refusal.{Refusal}
use Rattle.h2_spec_log.specs.declared.refusal.Refusal.TheVariants.{Closed, OutputFull, Memory}
use Rattle.h2_spec_log.specs.Acts.{SendFields, SendData, Release, Count, Done, Refused}
use Rattle.h2_spec_log.specs.Items.{data_of, data_on, total}
use Rattle.h2_spec_log.specs.Log.{owed}
use Rattle.h2_spec_log.specs.LogCalls.{MayAnswer}
unfoldable use Rattle.h2_spec_log.specs.LogCalls.{with_call}
use Rattle.h2_spec_log.specs.Windows.{given_on_connection}
use Rattle.h2_laws_log.proofs.LogGrowth.{grows_call}
use Rattle.h2_laws_log.proofs.LogViewLemmas.{count_by_sums}
use Rattle.h2_ends.specs.declared.refusal.EndRefusal.{EndRefusal}
use Rattle.h2_ends.specs.declared.refusal.EndRefusal.TheVariants as refusals
use Rattle.h2_ends.specs.Ends.{EndLog, tokens_waiting}
use Rattle.h2_ends.specs.EndCalls.{BodyWaits, TrailersWait, Pumps, pumps_no_more, pumps_data}
use Rattle.h2_ends.specs.EndCalls.{pumps_trailers, data_refused, trailers_refused, Releases}
use Rattle.h2_ends.specs.EndCalls.{releases_no_more, releases_one, releases_refused, octets_among}
unfoldable use Rattle.h2_ends.specs.EndCalls.{MayPump, MayReleaseAll}
use Rattle.h2_ends.specs.Pumping.{end_after_call}
use Rattle.h2_ends.proofs.EndTokens.{no_part_tokens, refused_tokens}
use Rattle.h2_ends.proofs.PumpStuck.{waiting_same}
use Rattle.h2_ends.proofs.PumpWindows.{data_accepted, data_active, data_within}
use Rattle.h2_laws_quiet.proofs.FewItems.{CountsNoAnswer, release_counts, fields_count}
use Rattle.h2_laws_quiet.proofs.FewItems.{CountsNoPart}
use Rattle.h2_laws_quiet.proofs.FewItems.{sent_of_all, sent_of_stream, body_counts_none}
use Rattle.h2_laws_quiet.proofs.FewItems.{fields_send_none}
use Rattle.h2_laws_quiet.proofs.PumpSent.{among_since, data_sent, trailers_sent}
use Rattle.h2_laws_quiet.proofs.PumpOctets.{among_data, among_fields}

-- A release of all adds nothing to a sum that counts no answers, reads nothing, and sends nothing
-- of what waits.
pub record Keeps (f : Item → ℕ) (before after : EndLog) : Type 0 where
  pub counted : total f after.log.sent ≡ total f before.log.sent
  pub received : after.log.received ≡ before.log.received
  pub waits : (i : ℕ) → tokens_waiting after i ≡ tokens_waiting before i

keeps_all : (f : Item → ℕ) (end : EndLog) → Keeps f end end
keeps_all f end = record { counted = refl; received = refl; waits = λ i. refl }

keeps_twice : (f : Item → ℕ) (one two three : EndLog) → Keeps f one two → Keeps f two three
    → Keeps f one three
keeps_twice f one two three a b = record {
  counted = b.counted ∙ a.counted;
  received = b.received ∙ a.received;
  waits = λ i. b.waits i ∙ a.waits i;
}

module _ (f : Item → ℕ) (counts : CountsNoAnswer f) where
  one_release : (end : EndLog) (id n : ℕ) → MayAnswer end.log (Release id n) Done
      → Keeps f end (end_after_call end (Release id n) Done)
  one_release end id n may = record {
    counted = release_counts f counts end.log id n may;
    received = (grows_call end.log (Release id n) Done).received;
    waits = λ i. waiting_same end (Release id n) Done i (no_part_tokens i (Release id n) Done tt);
  }

  refused_release : (end : EndLog) (id n : ℕ) (refusal : Refusal)
      → Keeps f end (end_after_call end (Release id n) (Refused refusal))
  unfolding with_call
  refused_release end id n refusal = record {
    counted = refl;
    received = refl;
    waits = λ i. waiting_same end (Release id n) (Refused refusal) i
        (refused_tokens i (Release id n) refusal);
  }

  releases_keep : (end after : EndLog) (refused : Option Refusal) → Releases end refused after
      → Keeps f end after
  releases_keep end _ _ (releases_no_more _) = keeps_all f end
  releases_keep end _ _ (releases_one _ id refused after next typed may releases) =
      let between = end_after_call end (Release id (owed end.log id)) Done in
      keeps_twice f end between after (one_release end id (owed end.log id) may)
      (releases_keep between after refused releases)
  releases_keep end _ _ (releases_refused _ id refusal next typed may) =
      refused_release end id (owed end.log id) refusal

  pub release_all_keeps : (end after : EndLog) (result : Result (Unit {0}) EndRefusal)
      → MayReleaseAll end result after → Keeps f end after
  unfolding MayReleaseAll
  release_all_keeps end after (Ok done) (up, releases, none) =
      releases_keep end after None releases
  release_all_keeps end after (Err (refusals.Conn Closed)) (down, same) = rw same (keeps_all f end)
  release_all_keeps end after (Err (refusals.Conn OutputFull)) (up, releases, full, some) =
      releases_keep end after (Some OutputFull) releases
  release_all_keeps end after (Err (refusals.Conn Memory)) (up, releases) =
      releases_keep end after (Some Memory) releases
  release_all_keeps end after (Err other) may = absurd may

-- A pump reads nothing, and adds nothing to a sum in which no part of a message counts. What it
-- sends of a stream's DATA waited there, and all its DATA is within the window of the connection.
pub record PumpDoes (end after : EndLog) (i : ℕ) : Type 0 where
  pub received : after.log.received ≡ end.log.received
  pub counts : (f : Item → ℕ) → CountsNoAnswer f → CountsNoPart f
      → total f after.log.sent ≡ total f end.log.sent
  pub leaves : total (data_on i) after.log.sent + octets_among (tokens_waiting after i)
      ≡ total (data_on i) end.log.sent + octets_among (tokens_waiting end i)
  pub fewer : octets_among (tokens_waiting after i) ≤ octets_among (tokens_waiting end i)
  pub within : total data_of after.log.sent
      ≤ max (total data_of end.log.sent) (given_on_connection end.log.received)

does_nothing : (end after : EndLog) (i : ℕ) → after.log.received ≡ end.log.received
    → after.log.sent ≡ end.log.sent → tokens_waiting after i ≡ tokens_waiting end i
    → PumpDoes end after i
does_nothing end after i received sent waits =
    let taken = ap (total data_of) sent in
    record {
      received = received;
      counts = λ f no_answer no_part. ap (total f) sent;
      leaves = omega (arith, ap (total (data_on i)) sent, ap octets_among waits);
      fewer = omega (arith, ap octets_among waits);
      within = omega (arith, taken);
    }

does_twice : (one two three : EndLog) (i : ℕ) → PumpDoes one two i → PumpDoes two three i
    → PumpDoes one three i
does_twice one two three i a b =
    let given = ap given_on_connection a.received in
    let first = a.within in
    let second = b.within in
    let leaves = a.leaves in
    let later = b.leaves in
    record {
      received = b.received ∙ a.received;
      counts = λ f no_answer no_part. b.counts f no_answer no_part ∙ a.counts f no_answer no_part;
      leaves = omega (arith, leaves, later);
      fewer = let here = a.fewer in let there = b.fewer in omega (arith, here, there);
      within = omega (arith, first, second, given);
    }

does_data : (end : EndLog) (id : ℕ) (octets : List ℕ) (ends : Bool) (n i : ℕ)
    → BodyWaits end id octets ends → MayAnswer end.log (SendData id octets ends) (Count n)
    → PumpDoes end (end_after_call end (SendData id octets ends) (Count n)) i
does_data end id octets ends n i waits may =
    let log = end.log in
    let after = end_after_call end (SendData id octets ends) (Count n) in
    let since = among_since end after i _ (data_sent end id n octets ends i waits) in
    let call = among_data i id octets ends n (data_within log id octets ends n may) in
    let on = sent_of_stream i log id octets ends n may in
    let all = sent_of_all log id octets ends n may in
    let count = (data_accepted log id octets ends n may).1
    ∙ count_by_sums log id (length octets) (data_active log id octets ends n may) in
    record {
      received = (grows_call log (SendData id octets ends) (Count n)).received;
      counts = λ f no_answer no_part.
          body_counts_none f no_answer no_part.data_none log id octets ends n may;
      leaves = omega (arith, since, call, on);
      fewer = omega (arith, since);
      within = omega (arith, all, count);
    }

does_fields : (end : EndLog) (id : ℕ) (list : List Field) (i : ℕ) → TrailersWait end id list
    → MayAnswer end.log (SendFields id list true) Done
    → PumpDoes end (end_after_call end (SendFields id list true) Done) i
does_fields end id list i wait may =
    let log = end.log in
    let after = end_after_call end (SendFields id list true) Done in
    let since = among_since end after i _ (trailers_sent end id list i wait) in
    let call = among_fields i id list in
    let none = fields_send_none i log id list true may in
    let all = none.0 in
    let on = none.1 in
    record {
      received = (grows_call log (SendFields id list true) Done).received;
      counts = λ f no_answer no_part.
          fields_count f no_answer no_part.block_none log id list true may;
      leaves = omega (arith, since, call, on);
      fewer = omega (arith, since);
      within = omega (arith, all);
    }

pumps_do : (end after : EndLog) (count : ℕ) (refused : Option Refusal) (i : ℕ)
    → Pumps end count refused after → PumpDoes end after i
unfolding with_call
pumps_do end _ _ _ i (pumps_no_more _) = does_nothing end end i refl refl refl
pumps_do end _ _ _ i (pumps_data _ id sent more octets ends refused after next typed waits may
    pumps) =
    let between = end_after_call end (SendData id octets ends) (Count sent) in
    does_twice end between after i (does_data end id octets ends sent i waits may)
    (pumps_do between after more refused i pumps)
pumps_do end _ _ _ i (pumps_trailers _ id more list refused after next typed wait may pumps) =
    let between = end_after_call end (SendFields id list true) Done in
    does_twice end between after i (does_fields end id list i wait may)
    (pumps_do between after more refused i pumps)
pumps_do end _ _ _ i (data_refused _ id octets ends refusal next typed waits may) =
    does_nothing end (end_after_call end (SendData id octets ends) (Refused refusal)) i refl refl
    (waiting_same end (SendData id octets ends) (Refused refusal) i
    (refused_tokens i (SendData id octets ends) refusal))
pumps_do end _ _ _ i (trailers_refused _ id list refusal next typed wait may) =
    does_nothing end (end_after_call end (SendFields id list true) (Refused refusal)) i refl refl
    (waiting_same end (SendFields id list true) (Refused refusal) i
    (refused_tokens i (SendFields id list true) refusal))

-- A pump of an end that is up, which was refused no memory, has answered how much it sent.
pub pump_is_ok : (end after : EndLog) (result : Result ℕ EndRefusal) → MayPump end result after
    → result ≢ Err (refusals.Conn Memory) → end.log.failed ≡ None
    → (count : ℕ) × MayPump end (Ok count) after
unfolding MayPump
pump_is_ok end after (Ok count) may had up = (count, may)
pump_is_ok end after (Err (refusals.Conn Closed)) (down, same) had up = absurd (down up)
pump_is_ok end after (Err (refusals.Conn Memory)) may had up = absurd (had refl)
pump_is_ok end after (Err other) may had up = absurd may

pub pump_does : (end after : EndLog) (count i : ℕ) → MayPump end (Ok count) after
    → PumpDoes end after i
unfolding MayPump
pump_does end after count i (up, inl full) = pumps_do end after count (Some OutputFull) i full.0
pump_does end after count i (up, inr done) = pumps_do end after count None i done.0
