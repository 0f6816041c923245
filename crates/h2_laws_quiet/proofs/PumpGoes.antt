-- A pump sends some of what could go, where the output isn't full at its start: of the lowest
-- stream of which something could go.
use Rattle.std.proofs.Common.{◌≡◌, ◌≢◌, ◌⊎◌, inl, inr, ℕ, zero, suc, ◌+◌, ◌-◌, ◌<◌, ◌≤◌, ◌==◌}
use Rattle.std.proofs.Common.{◌&&◌}
use Rattle.std.proofs.Common.{nat_lt, min, Bool, true, false, List, []}
use Rattle.std.proofs.Common.{◌∷◌, ◌++◌, length, Option, None, Some, Ok, refl, sym, ap, ◌∙◌}
use Rattle.std.proofs.Common.{arith, subst, map as each}
use Rattle.std.proofs.Common.{pos, ◌-ℤ◌}
use Rattle.std.proofs.lemmas.Bool.{both_ways, cases_Bool, cases_eq, and_parts, and_from, ne_eqb}
use Rattle.std.proofs.lemmas.Bool.{ltb-true, ltb-false}
use Rattle.std.proofs.lemmas.Bool.Decides.{nat_tests}
use Rattle.std.specs.Prelude.{int_lt}
use Rattle.hpack.specs.declared.types.field.Field.{Field}
use Rattle.h2_spec_log.specs.declared.refusal.Refusal.{Refusal}
use Rattle.h2_spec_log.specs.declared.refusal.Refusal.TheVariants.{OutputFull}
use Rattle.h2_spec_log.specs.Acts.{Act, SendFields, SendData, Count, Done}
use Rattle.h2_spec_log.specs.CallRules.{data_count}
use Rattle.h2_spec_log.specs.Items.{data_on, data_of, total}
use Rattle.h2_spec_log.specs.Limits.{full_output, max_data}
use Rattle.h2_spec_log.specs.Log.{Log, active, send_window}
unfoldable use Rattle.h2_spec_log.specs.Log.{waiting, output}
use Rattle.h2_spec_log.specs.LogCalls.{MayAnswer}
use Rattle.h2_spec_log.specs.LogView.{log_view}
use Rattle.h2_spec_log.specs.View.{StreamView}
use Rattle.h2_spec_log.specs.Windows.{given_on, given_on_connection, connection_send_window}
use Rattle.h2_laws_log.proofs.LogViewLemmas.{count_by_sums, stream_there}
use Rattle.h2_laws_end.proofs.OverCalls.{items_no_block}
use Rattle.h2_laws_end.proofs.OverRoom.{window_test}
use Rattle.h2_laws_end.specs.Over.{has_room}
use Rattle.h2_laws_pair.specs.Quiet.{CouldGo, NoneCouldGo}
use Rattle.h2_laws_pair.specs.Tokens.{Token, FieldsToken, OctetToken, EndToken, trailers_tokens}
unfoldable use Rattle.h2_laws_pair.specs.Tokens.{tokens_of_call, end_tokens}
use Rattle.h2_ends.specs.Ends.{EndLog, tokens_out, tokens_waiting}
use Rattle.h2_ends.specs.EndCalls.{BodyWaits, TrailersWait, IsStuckOn, Pumps}
use Rattle.h2_ends.specs.EndCalls.{pumps_no_more, pumps_data, pumps_trailers, data_refused}
use Rattle.h2_ends.specs.EndCalls.{trailers_refused}
unfoldable use Rattle.h2_ends.specs.EndCalls.{MayPump, octets_among, unsent_on}
use Rattle.h2_ends.specs.Pumping.{IsStuckBelow, end_after_call}
use Rattle.h2_ends.proofs.PumpStuck.{out_same, waiting_same, stuck_by}
use Rattle.h2_ends.proofs.PumpTokens.{begun_more, data_tokens, fields_tokens}
use Rattle.h2_ends.proofs.PumpWindows.{data_accepted, data_active, data_within}
use Rattle.h2_ends.proofs.PumpWindows.{none_without_room}
use Rattle.h2_ends.proofs.Unsent.{octets_then, tail_without}
use Rattle.h2_laws_quiet.specs.Going.{CouldGoOn, WentOn, most_sendable}
use Rattle.h2_laws_quiet.proofs.PumpFirst.{lowest_below, not_stuck}
use Rattle.h2_laws_quiet.proofs.CallsOfPumps.{asked, none_written, data_full, fields_full}
use Rattle.h2_laws_quiet.proofs.PumpOctets.{among_data_here}
use Rattle.h2_laws_quiet.proofs.PumpSent.{SentSince, among_since, sent_then, waits_then, data_sent}
use Rattle.h2_laws_quiet.proofs.PumpSent.{all_waited, trailers_sent, stays_out, none_later}

-- A body that waits has an octet first.
first_octet : (octets : List ℕ) (tail : List Token) → octets ≢ []
    → (octet : ℕ) × (rest : List Token)
    × (each OctetToken octets ++ tail ≡ OctetToken octet ∷ rest)
first_octet [] tail some = absurd (some refl)
first_octet (octet ∷ octets) tail some = (octet, each OctetToken octets ++ tail, refl)

-- Octets that wait on an active stream which is stuck have no room.
no_room_there : (end : EndLog) (i : ℕ) (octets : List ℕ) (ends : Bool)
    → BodyWaits end i octets ends → active end.log i ≡ true → IsStuckOn end i
    → has_room end.log i ≡ false
no_room_there end i octets ends waits alive stuck = elim (cases_Bool (has_room end.log i)) [
  | inl room ↦
      let first = first_octet octets _ waits.some in
      let never : NoneCouldGo end.log i (OctetToken first.0 ∷ first.1) =
      subst (λ (line : List Token). NoneCouldGo end.log i line) (waits.waits ∙ first.2)
      (stuck alive) in
      absurd (never (and_parts _ _ room))
  | inr none ↦ none
]

-- Where something could go and octets wait, they have room.
room_there : (end : EndLog) (i : ℕ) (octets : List ℕ) (ends : Bool)
    → BodyWaits end i octets ends → CouldGoOn end i → has_room end.log i ≡ true
room_there end i octets ends waits could = elim (cases_Bool (has_room end.log i)) [
  | inl room ↦ room
  | inr none ↦
      absurd (not_stuck end i could (λ alive.
      let first = first_octet octets _ waits.some in
      subst (λ (line : List Token). NoneCouldGo end.log i line)
      (sym (waits.waits ∙ first.2))
      (λ goes. both_ways _ none (and_from _ _ goes.0 goes.1))))
]

-- Where a stream has no room, no octet goes.
none_by_tests : (count given on given_all all : ℕ)
    → (nat_lt on given && nat_lt all given_all) ≡ false
    → min count (min (min (given - on) (given_all - all)) max_data) ≡ 0
none_by_tests count given on given_all all tests = grind (arith, nat_tests)

pub none_by : (count given on given_all all : ℕ)
    → (int_lt (pos 0) (pos given -ℤ pos on) && int_lt (pos 0) (pos given_all -ℤ pos all)) ≡ false
    → min count (min (min (given - on) (given_all - all)) max_data) ≡ 0
none_by count given on given_all all none =
    none_by_tests count given on given_all all
    (rw (window_test given on, window_test given_all all) at none)

sends_none : (log : Log) (id : ℕ) (octets : List ℕ) (ends : Bool) (n : ℕ)
    → MayAnswer log (SendData id octets ends) (Count n) → has_room log id ≡ false → n ≡ 0
sends_none log id octets ends n may none =
    (data_accepted log id octets ends n may).1
    ∙ (count_by_sums log id (length octets) (data_active log id octets ends n may)
    ∙ none_by (length octets) (given_on id log.received) (total (data_on id) log.sent)
    (given_on_connection log.received) (total data_of log.sent) none)

-- Octets that wait are one at least.
pub some_octets : (octets : List ℕ) → octets ≢ [] → length octets ≢ 0
some_octets [] some none = some refl
some_octets (octet ∷ octets) some none = omega (arith, none)

-- A call that sends none of some octets says nothing on any stream.
pub none_said : (i id : ℕ) (octets : List ℕ) (ends : Bool) → length octets ≢ 0
    → tokens_of_call i (SendData id octets ends) (Count 0) ≡ []
unfolding tokens_of_call end_tokens
none_said i id octets ends some = elim (cases_Bool (id == i)) [
  | inl same ↦ rw (same, ne_eqb 0 (length octets) (λ is. some (sym is))) (none_ended ends)
  | inr other ↦ rw other refl
]
  where
    none_ended : (b : Bool) → end_tokens (b && false) ≡ []
    none_ended true = refl
    none_ended false = refl

-- What could go can where both windows are as they were.
pub could_still : (log after : Log) (i : ℕ) (token : Token)
    → send_window after i ≡ send_window log i
    → connection_send_window after.received after.sent
    ≡ connection_send_window log.received log.sent
    → CouldGo log i token → CouldGo after i token
could_still log after i (OctetToken octet) stream connection could =
    (rw stream could.0, rw connection could.1)
could_still log after i (FieldsToken list end) stream connection could = tt
could_still log after i EndToken stream connection could = tt

-- After a call of a pump nothing has come of it for a stream: the output is no fuller, and there
-- the same could go.
record StaysSo (end after : EndLog) (id : ℕ) : Type 0 where
  few : waiting after.log < full_output
  could : CouldGoOn after id
  below : IsStuckBelow after id
  out : tokens_out after id ≡ tokens_out end id
  waits : tokens_waiting after id ≡ tokens_waiting end id
  most : most_sendable after.log id ≡ most_sendable end.log id

-- What could go on a stream can after a call that has sent none of some octets.
pub could_later : (end : EndLog) (id j : ℕ) (octets : List ℕ) (ends : Bool) → length octets ≢ 0
    → CouldGoOn end id → CouldGoOn (end_after_call end (SendData j octets ends) (Count 0)) id
could_later end id j octets ends some could =
    let act = SendData j octets ends in
    let same = none_written end.log j octets ends some in
    record {
      active = ap (λ (log : Log). active log id) same ∙ could.active;
      next = could.next;
      others = could.others;
      waits = waiting_same end act (Count 0) id (none_said id j octets ends some) ∙ could.waits;
      could_go = could_still end.log (end_after_call end act (Count 0)).log id could.next
          (ap (λ (log : Log). send_window log id) same)
          (ap (λ (log : Log). connection_send_window log.received log.sent) same)
          could.could_go;
    }

module _ (end : EndLog) (id j : ℕ) (octets : List ℕ) (ends : Bool) (some : length octets ≢ 0)
    (few : waiting end.log < full_output) (could : CouldGoOn end id) (below : IsStuckBelow end id)
  where
    -- the call, which has sent none of some octets
    abbrev asks : Act
    asks = SendData j octets ends

    abbrev asked_end : EndLog
    asked_end = end_after_call end asks (Count 0)

    same : asked_end.log ≡ asked end.log asks (Count 0)
    same = none_written end.log j octets ends some

    after_none : StaysSo end asked_end id
    unfolding waiting output
    after_none =
        let none = none_said id j octets ends some in
        record {
          few = rw same few;
          could = could_later end id j octets ends some could;
          below = λ i low. stuck_by end asks (Count 0) i
              (items_no_block i (log_view end.log) (SendData j octets ends) (Count 0)
              (λ fields ends other wrong answers. cc) (λ other fields ends wrong answers. cc))
              (none_said i j octets ends some) (below i low);
          out = out_same end asks (Count 0) id none;
          waits = waiting_same end asks (Count 0) id none;
          most = ap (λ (log : Log). most_sendable log id) same;
        }

    -- So it is where the count is 0.
    after_no : (n : ℕ) → n ≡ 0 → StaysSo end (end_after_call end asks (Count n)) id
    after_no n is =
        subst (λ (count : ℕ). StaysSo end (end_after_call end asks (Count count)) id) (sym is)
        after_none

-- A call that has sent something on a stream has brought it on, whatever comes after it in the
-- pump.
went_by : (end between after : EndLog) (i count : ℕ) (refused : Option Refusal)
    (first : List Token) → SentSince end between i first → first ≢ []
    → Pumps between count refused after → WentOn end after i
went_by end between after i count refused first since some pumps =
    let rest = stays_out between after count refused i pumps in
    let all = sent_then end between after i first rest.0 since rest.1 in
    record {
      more = first ++ rest.0;
      some = begun_more first rest.0 some;
      out = all.out;
      waited = all.waited;
    }

-- Octets that have room are sent, one at least.
octets_go : (end : EndLog) (id : ℕ) (octets : List ℕ) (ends : Bool) (sent : ℕ)
    → BodyWaits end id octets ends → CouldGoOn end id
    → MayAnswer end.log (SendData id octets ends) (Count sent) → 0 < sent
octets_go end id octets ends sent waits could may = elim (cases_eq sent 0) [
  | inl none ↦ absurd (both_ways _ (none_without_room end.log id octets ends (rw none at may)
      (some_octets octets waits.some)) (room_there end id octets ends waits could))
  | inr other ↦ omega (arith, other)
]

-- So something is said on their stream.
some_said : (id : ℕ) (octets : List ℕ) (ends : Bool) (sent : ℕ) → octets ≢ [] → 0 < sent
    → tokens_of_call id (SendData id octets ends) (Count sent) ≢ []
some_said id [] ends sent some more none = some refl
some_said id (octet ∷ octets) ends zero some more none = omega (arith, more)
some_said id (octet ∷ octets) ends (suc sent) some more none =
    let said = sym (data_tokens id (octet ∷ octets) ends (suc sent)) ∙ none in cc

fields_said : (id : ℕ) (list : List Field)
    → tokens_of_call id (SendFields id list true) Done ≢ []
fields_said id list none = let said = sym (fields_tokens id list) ∙ none in cc

-- Octets that wait are no trailers.
pub octets_no_list : (end : EndLog) (id : ℕ) (octets : List ℕ) (ends : Bool) (list : List Field)
    → BodyWaits end id octets ends → TrailersWait end id list → ⊥
octets_no_list end id octets ends list waits wait =
    let first = first_octet octets _ waits.some in
    let wrong = sym wait ∙ waits.waits ∙ first.2 in cc

-- The octets of a message are those of its body.
pub among_octets : (octets : List ℕ) (trailers : Option (List Field))
    → octets_among (each OctetToken octets ++ (trailers_tokens trailers ++ EndToken ∷ []))
    ≡ length octets
among_octets octets trailers =
    omega (
      arith,
      octets_then octets (trailers_tokens trailers ++ EndToken ∷ []),
      tail_without trailers,
    )

-- Of octets that wait as many go with a call as it may send.
amount_of : (end : EndLog) (id : ℕ) (octets : List ℕ) (ends : Bool) (sent more : ℕ)
    → BodyWaits end id octets ends → MayAnswer end.log (SendData id octets ends) (Count sent)
    → min (octets_among (tokens_waiting end id)) (most_sendable end.log id) ≤ sent + more
amount_of end id octets ends sent more waits may =
    let all = ap octets_among waits.waits ∙ among_octets octets waits.trailers in
    let count : sent ≡ min (length octets) (most_sendable end.log id) =
    (data_accepted end.log id octets ends sent may).1
    ∙ ap (λ (stream : Option StreamView). data_count (log_view end.log) stream (length octets))
    (stream_there end.log id (data_active end.log id octets ends sent may)) in
    omega (arith, all, count)

-- So many octets less wait after the pump.
less_wait : (end after : EndLog) (id : ℕ) (octets : List ℕ) (ends : Bool) (sent more : ℕ)
    (refused : Option Refusal) → BodyWaits end id octets ends
    → MayAnswer end.log (SendData id octets ends) (Count sent)
    → Pumps (end_after_call end (SendData id octets ends) (Count sent)) more refused after
    → octets_among (tokens_waiting after id)
    + min (octets_among (tokens_waiting end id)) (most_sendable end.log id)
    ≤ octets_among (tokens_waiting end id)
less_wait end after id octets ends sent more refused waits may pumps =
    let between = end_after_call end (SendData id octets ends) (Count sent) in
    let first = among_since end between id _ (data_sent end id sent octets ends id waits) in
    let call = among_data_here id octets ends sent (data_within end.log id octets ends sent may) in
    let stays = stays_out between after more refused id pumps in
    let rest = among_since between after id stays.0 stays.1 in
    let amount = amount_of end id octets ends sent 0 waits may in
    omega (arith, first, call, rest, amount)

-- Where trailers wait no octets do.
no_amount : (end : EndLog) (id : ℕ) (list : List Field) (more : ℕ) → TrailersWait end id list
    → min (octets_among (tokens_waiting end id)) (most_sendable end.log id) ≤ more
unfolding octets_among
no_amount end id list more wait =
    let none = ap octets_among wait in omega (arith, none)

-- Trailers that wait on an active stream could go, so it isn't stuck.
trailers_stuck : (end : EndLog) (id : ℕ) (list : List Field) → TrailersWait end id list
    → active end.log id ≡ true → IsStuckOn end id → ⊥
trailers_stuck end id list wait alive stuck =
    let never : NoneCouldGo end.log id (FieldsToken list true ∷ EndToken ∷ []) =
    subst (λ (line : List Token). NoneCouldGo end.log id line) wait (stuck alive) in
    never tt

-- how one number stands to another
data Stands (j id : ℕ) : Type 0 where
  is_lower : j < id → Stands j id
  is_same : j ≡ id → Stands j id
  is_higher : id < j → Stands j id

stands : (j id : ℕ) → Stands j id
stands j id = elim (cases_Bool (nat_lt j id)) [
  | inl low ↦ is_lower (ltb-true j id low)
  | inr not_low ↦ elim (cases_eq j id) [
    | inl same ↦ is_same same
    | inr other ↦ is_higher (let high = ltb-false j id not_low in omega (arith, high, other))
  ]
]

-- What a pump does for the lowest stream of which something could go at its start.
record GoesFor (end after : EndLog) (id count : ℕ) : Type 0 where
  went : WentOn end after id
  emptied : (list : List Field) → TrailersWait end id list → tokens_waiting after id ≡ []
  counted : (octets : List ℕ) (ends : Bool) → BodyWaits end id octets ends → 0 < count
  amount : min (octets_among (tokens_waiting end id)) (most_sendable end.log id) ≤ count
  less : octets_among (tokens_waiting after id)
      + min (octets_among (tokens_waiting end id)) (most_sendable end.log id)
      ≤ octets_among (tokens_waiting end id)

-- A pump is over since the output is full, or since nothing could go.
abbrev IsDone : Option Refusal → EndLog → Type 0
IsDone refused after =
    (refused ≡ Some OutputFull) ⊎ ((refused ≡ None) × ((i : ℕ) → IsStuckOn after i))

-- After a call that has sent nothing the pump goes on as if it had not been made.
goes_later : (end between after : EndLog) (id sent more : ℕ) → StaysSo end between id
    → GoesFor between after id more → GoesFor end after id (sent + more)
goes_later end between after id sent more so goes = record {
  went = record {
    more = goes.went.more;
    some = goes.went.some;
    out = goes.went.out ∙ ap (λ (line : List Token). line ++ goes.went.more) so.out;
    waited = sym so.waits ∙ goes.went.waited;
  };
  emptied = λ list wait. goes.emptied list (so.waits ∙ wait);
  counted = λ octets ends waits.
      let later = goes.counted octets ends (record {
        some = waits.some;
        trailers = waits.trailers;
        waits = so.waits ∙ waits.waits;
        ends_is = waits.ends_is;
      }) in
      omega (arith, later);
  amount =
      let later = goes.amount in
      let same = ap octets_among so.waits in
      let room = so.most in
      omega (arith, later, same, room);
  less =
      let later = goes.less in
      let same = ap octets_among so.waits in
      let room = so.most in
      omega (arith, later, same, room);
}

pump_goes : (end after : EndLog) (id count : ℕ) (refused : Option Refusal)
    → Pumps end count refused after → waiting end.log < full_output → CouldGoOn end id
    → IsStuckBelow end id → IsDone refused after → GoesFor end after id count
pump_goes end _ id _ _ (pumps_no_more _) few could below over = elim over [
  | inl wrong ↦ absurd (cc)
  | inr done ↦ absurd (not_stuck end id could (done.1 id))
]
pump_goes end _ id _ _ (pumps_data _ j sent more octets ends refused after next typed waits may
    pumps) few could below over =
    elim (stands j id) [
      | is_lower low ↦
          let none = sends_none end.log j octets ends sent may
          (no_room_there end j octets ends waits next.active (below j low)) in
          let so = after_no end id j octets ends (some_octets octets waits.some) few could below
          sent none in
          goes_later end (end_after_call end (SendData j octets ends) (Count sent)) after id sent
          more so (pump_goes (end_after_call end (SendData j octets ends) (Count sent)) after id
          more refused pumps so.few so.could so.below over)
      | is_same same ↦
          let goes = octets_go end j octets ends sent waits
          (subst (λ (i : ℕ). CouldGoOn end i) (sym same) could) may in
          record {
            went = subst (λ (i : ℕ). WentOn end after i) same
                (went_by end (end_after_call end (SendData j octets ends) (Count sent)) after j
                more refused _ (data_sent end j sent octets ends j waits)
                (some_said j octets ends sent waits.some goes) pumps);
            emptied = λ list wait.
                absurd (octets_no_list end j octets ends list waits
                (subst (λ (i : ℕ). TrailersWait end i list) (sym same) wait));
            counted = λ others more_ends body. omega (arith, goes);
            amount = subst (λ (i : ℕ). min (octets_among (tokens_waiting end i))
                (most_sendable end.log i) ≤ sent + more) same
                (amount_of end j octets ends sent more waits may);
            less = subst (λ (i : ℕ). octets_among (tokens_waiting after i)
                + min (octets_among (tokens_waiting end i)) (most_sendable end.log i)
                ≤ octets_among (tokens_waiting end i)) same
                (less_wait end after j octets ends sent more refused waits may pumps);
          }
      | is_higher high ↦ absurd (not_stuck end id could (next.below id high))
    ]
pump_goes end _ id _ _ (pumps_trailers _ j more list refused after next typed wait may pumps) few
    could below over =
    elim (stands j id) [
      | is_lower low ↦ absurd (trailers_stuck end j list wait next.active (below j low))
      | is_same same ↦ record {
        went = subst (λ (i : ℕ). WentOn end after i) same
            (went_by end (end_after_call end (SendFields j list true) Done) after j more refused
            _ (trailers_sent end j list j wait) (fields_said j list) pumps);
        emptied = λ other is. subst (λ (i : ℕ). tokens_waiting after i ≡ []) same
            (let rest = stays_out _ after more refused j pumps in
            none_later _ after j rest.0
            (waits_then end (SendFields j list true) Done j [] (all_waited end j list wait))
            rest.1);
        counted = λ octets ends body.
            absurd (octets_no_list end j octets ends list
            (subst (λ (i : ℕ). BodyWaits end i octets ends) (sym same) body) wait);
        amount = subst (λ (i : ℕ). min (octets_among (tokens_waiting end i))
            (most_sendable end.log i) ≤ more) same (no_amount end j list more wait);
        less = subst (λ (i : ℕ). octets_among (tokens_waiting after i)
            + min (octets_among (tokens_waiting end i)) (most_sendable end.log i)
            ≤ octets_among (tokens_waiting end i)) same
            (let none = no_amount end j list 0 wait in
            let between = end_after_call end (SendFields j list true) Done in
            let first = among_since end between j _ (trailers_sent end j list j wait) in
            let rest = stays_out between after more refused j pumps in
            let later = among_since between after j rest.0 rest.1 in
            omega (arith, none, first, later));
      }
      | is_higher high ↦ absurd (not_stuck end id could (next.below id high))
    ]
pump_goes end _ id _ _ (data_refused _ j octets ends refusal next typed waits may) few could below
    over = elim over [
      | inl is ↦
          let full : refusal ≡ OutputFull = cc in
          let much = data_full end.log j octets ends (rw full at may) in
          absurd (omega (arith, much, few))
      | inr done ↦ absurd (let wrong = done.0 in cc)
    ]
pump_goes end _ id _ _ (trailers_refused _ j list refusal next typed wait may) few could below over
    = elim over [
      | inl is ↦
          let full : refusal ≡ OutputFull = cc in
          let much = fields_full end.log j list true (rw full at may) in
          absurd (omega (arith, much, few))
      | inr done ↦ absurd (let wrong = done.0 in cc)
    ]

-- So it is with a pump that is refused no memory.
pump_answers : (end after : EndLog) (id count : ℕ) → MayPump end (Ok count) after
    → waiting end.log < full_output → CouldGoOn end id → IsStuckBelow end id
    → GoesFor end after id count
unfolding MayPump
pump_answers end after id count may few could below = elim may.1 [
  | inl full ↦ pump_goes end after id count (Some OutputFull) full.0 few could below (inl refl)
  | inr done ↦ pump_goes end after id count None done.0 few could below (inr (refl, done.1))
]

pub lowest_goes : (end after : EndLog) (id count : ℕ) → MayPump end (Ok count) after
    → waiting end.log < full_output → CouldGoOn end id → IsStuckBelow end id
    → WentOn end after id
lowest_goes end after id count may few could below =
    (pump_answers end after id count may few could below).went

pub octets_counted : (end after : EndLog) (id count : ℕ) (octets : List ℕ) (ends : Bool)
    → MayPump end (Ok count) after → waiting end.log < full_output → CouldGoOn end id
    → IsStuckBelow end id → BodyWaits end id octets ends → 0 < count
octets_counted end after id count octets ends may few could below =
    (pump_answers end after id count may few could below).counted octets ends

pub trailers_go : (end after : EndLog) (id count : ℕ) (list : List Field)
    → MayPump end (Ok count) after → waiting end.log < full_output → CouldGoOn end id
    → IsStuckBelow end id → TrailersWait end id list → tokens_waiting after id ≡ []
trailers_go end after id count list may few could below =
    (pump_answers end after id count may few could below).emptied list

pub some_goes : (end after : EndLog) (id count : ℕ) → MayPump end (Ok count) after
    → waiting end.log < full_output → CouldGoOn end id
    → (lowest : ℕ) × (lowest ≤ id) × WentOn end after lowest
some_goes end after id count may few could = elim (lowest_below end (suc id)) [
  | inl found ↦ (
    found.0,
    (let low = found.1.within in omega (arith, low)),
    lowest_goes end after found.0 count may few found.1.could found.1.below,
  )
  | inr none ↦ absurd (not_stuck end id could (none id (omega arith)))
]

pub amount_goes : (end after : EndLog) (id count : ℕ) → MayPump end (Ok count) after
    → waiting end.log < full_output → CouldGoOn end id → IsStuckBelow end id
    → min (unsent_on end id) (most_sendable end.log id) ≤ count
unfolding unsent_on
amount_goes end after id count may few could below =
    rw could.active (pump_answers end after id count may few could below).amount

-- As many octets less wait there after it as one call may send.
pub less_goes : (end after : EndLog) (id count : ℕ) → MayPump end (Ok count) after
    → waiting end.log < full_output → CouldGoOn end id → IsStuckBelow end id
    → octets_among (tokens_waiting after id)
    + min (octets_among (tokens_waiting end id)) (most_sendable end.log id)
    ≤ octets_among (tokens_waiting end id)
less_goes end after id count may few could below =
    (pump_answers end after id count may few could below).less
