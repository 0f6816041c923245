-- How many DATA a pump writes, and how long they make the output. A full output stops it.
use Rattle.std.proofs.Common.{◌≡◌, ◌≢◌, ◌⊎◌, inl, inr, ℕ, ◌+◌, ◌*◌, ◌-◌, ◌≤◌, ◌<◌, ◌&&◌, nat_lt}
use Rattle.std.proofs.Common.{min, Bool, true, false, List, [], ◌∷◌, length, length-append, Option}
use Rattle.std.proofs.Common.{None, Some, Ok, refl, sym, ap, ◌∙◌, arith, if◌then◌else◌}
use Rattle.std.proofs.lemmas.Bool.{both_ways, cases_Bool, cases_eq, and_parts, and_from, eq-eqb}
use Rattle.std.proofs.lemmas.Bool.{false_from_ne_true, lt-ltb, ltb-false, ltb-true, leb-false}
use Rattle.h2_block.specs.Grouping.{Item}
use Rattle.h2_spec_log.specs.declared.refusal.Refusal.{Refusal}
use Rattle.h2_spec_log.specs.declared.refusal.Refusal.TheVariants.{OutputFull}
use Rattle.h2_spec_log.specs.declared.role.Role.{Role}
use Rattle.h2_spec_log.specs.Acts.{Values, Act, Answer, SendFields, SendData, Count, Done}
use Rattle.h2_spec_log.specs.Acts.{Number, Refused}
unfoldable use Rattle.h2_spec_log.specs.CallRules.{conditions, items_of, data_frames, data_items}
unfoldable use Rattle.h2_spec_log.specs.CallRules.{stream_of_act}
use Rattle.h2_spec_log.specs.Histories.{IsLog, called_one}
use Rattle.h2_spec_log.specs.Items.{data_of, data_on}
unfoldable use Rattle.h2_spec_log.specs.Items.{total, encoding_of_items}
use Rattle.h2_spec_log.specs.Limits.{full_output, max_data}
use Rattle.h2_spec_log.specs.Log.{Log, active, owed, max_payload_sent}
unfoldable use Rattle.h2_spec_log.specs.Log.{active_count, waiting, output}
use Rattle.h2_spec_log.specs.LogCalls.{MayAnswer, called}
unfoldable use Rattle.h2_spec_log.specs.LogCalls.{with_call, with_items}
unfoldable use Rattle.h2_spec_log.specs.LogSteps.{with_sent}
use Rattle.h2_spec_log.specs.LogView.{log_view}
use Rattle.h2_spec_log.specs.States.{count_below}
use Rattle.h2_spec_log.specs.Windows.{given_on, given_on_connection}
use Rattle.h2_spec_log.proofs.SentPayloads.{most_between}
use Rattle.h2_laws_log.proofs.CallConditions.{none_holds}
use Rattle.h2_laws_log.proofs.ItemLists.{count_below_more}
use Rattle.h2_laws_log.proofs.ItemSizes.{size_of}
use Rattle.h2_laws_log.proofs.LogGrowth.{grows_call}
use Rattle.h2_laws_log.proofs.LogViewLemmas.{count_by_sums}
use Rattle.h2_laws_log.proofs.ReaderStates.{active_parts}
use Rattle.h2_laws_log.proofs.StreamNumbers.{block_below}
use Rattle.h2_laws_end.specs.Over.{has_room}
use Rattle.h2_laws_end.proofs.ActivityCalls.{inactive_by_call}
use Rattle.h2_laws_end.proofs.ActivityOwed.{none_owed_by_call}
use Rattle.h2_laws_end.proofs.OverRoom.{no_room_by_call, window_test}
use Rattle.h2_laws_machine.proofs.BoundedLogs.{few_active}
use Rattle.h2_laws_pair.proofs.StepsOfLogs.{given_within}
use Rattle.h2_laws_pair.specs.Tokens.{Token}
use Rattle.h2_ends.specs.Ends.{EndLog, tokens_waiting}
use Rattle.h2_ends.specs.EndCalls.{BodyWaits, Pumps, pumps_no_more, pumps_data}
use Rattle.h2_ends.specs.EndCalls.{pumps_trailers, data_refused, trailers_refused}
unfoldable use Rattle.h2_ends.specs.EndCalls.{octets_among}
unfoldable use Rattle.h2_ends.specs.EndCalls.{MayPump}
use Rattle.h2_ends.specs.Pumping.{end_after_call}
use Rattle.h2_ends.proofs.EndTokens.{refused_tokens}
use Rattle.h2_ends.proofs.PumpStuck.{waiting_same}
use Rattle.h2_ends.proofs.PumpTokens.{fields_tokens}
use Rattle.h2_ends.proofs.PumpWindows.{data_accepted, data_active, data_within, fields_wait}
use Rattle.h2_ends.proofs.PumpWindows.{data_waits as data_grow}
use Rattle.h2_laws_quiet.specs.Work.{above_streams}
use Rattle.h2_laws_quiet.proofs.FewCounts.{count_fewer}
unfoldable use Rattle.h2_laws_quiet.proofs.FewDue.{one_data}
use Rattle.h2_laws_quiet.proofs.FewItems.{body_counts, fields_count}
use Rattle.h2_laws_quiet.proofs.FewItems.{sent_of_all, sent_of_stream}
use Rattle.h2_laws_quiet.proofs.FewItems.{fields_send_none}
use Rattle.h2_laws_quiet.proofs.FewReleases.{no_due, data_due}
use Rattle.h2_laws_quiet.proofs.PumpGoes.{among_octets}
use Rattle.h2_laws_quiet.proofs.PumpSent.{SentSince, among_since, data_sent}
use Rattle.h2_laws_quiet.proofs.PumpGoes.{some_octets}
use Rattle.h2_laws_quiet.proofs.PumpSent.{stays_out, trailers_sent}
use Rattle.h2_laws_quiet.proofs.PumpOctets.{among_data_here, among_fields, among_within}
use Rattle.h2_laws_quiet.proofs.WorkOfEnds.{was_active}
use Rattle.h2_laws_quiet.proofs.FewData.{frames_counts, block_is_no_frame, body_few, body_fewer}
use Rattle.h2_laws_quiet.proofs.FewData.{body_none}

-- Whether octets wait on a stream and have room.
abbrev could_send : EndLog → ℕ → Bool
could_send end j =
    active end.log j && (nat_lt 0 (octets_among (tokens_waiting end j)) && has_room end.log j)

-- on how many streams below a number
abbrev pub ready : EndLog → ℕ → ℕ
ready end bound = count_below bound (could_send end)

-- the tokens that are no octets
abbrev pub others_among : List Token → ℕ
others_among tokens = length tokens - octets_among tokens

-- What a pump writes. Where nothing is owed, it has sent trailers, or the output is longer by its
-- octets and 9 for each DATA.
pub record PumpWrites (end after : EndLog) (bound : ℕ) : Type 0 where
  pub frames : 16384 * (total one_data after.log.sent + ready after bound)
      + total data_of end.log.sent
      ≤ 16384 * (total one_data end.log.sent + ready end bound) + total data_of after.log.sent
  pub longer : ((i : ℕ) → owed end.log i ≡ 0)
      → (waiting after.log + (9 * total one_data end.log.sent + total data_of end.log.sent)
      ≤ waiting end.log + (9 * total one_data after.log.sent + total data_of after.log.sent))
      ⊎ ((id : ℕ) × (active end.log id ≡ true)
      × (others_among (tokens_waiting after id) < others_among (tokens_waiting end id)))

-- What was sent since is no longer among what waits.
pub others_since : (before after : EndLog) (i : ℕ) (more : List Token)
    → SentSince before after i more → others_among (tokens_waiting before i)
    ≡ others_among more + others_among (tokens_waiting after i)
others_since before after i more since =
    let octets = among_since before after i more since in
    let all = ap length since.waited ∙ length-append more (tokens_waiting after i) in
    omega (arith, octets, all, among_within more, among_within (tokens_waiting after i))

-- Where octets could go on a stream after a call they could before it.
still_could : (end : EndLog) (act : Act) (answer : Answer) (j : ℕ) → MayAnswer end.log act answer
    → answer ≢ Number j
    → octets_among (tokens_waiting (end_after_call end act answer) j)
    ≤ octets_among (tokens_waiting end j)
    → could_send (end_after_call end act answer) j ≡ true → could_send end j ≡ true
still_could end act answer j may other fewer could =
    let parts = and_parts _ _ could in
    let later = and_parts _ _ parts.1 in
    let some = ltb-true 0 (octets_among (tokens_waiting (end_after_call end act answer) j))
    later.0 in
    and_from _ _ (elim (cases_Bool (active end.log j)) [
      | inl alive ↦ alive
      | inr over ↦ absurd (both_ways _ (inactive_by_call end.log act answer j may over other)
          parts.0)
    ]) (and_from _ _ (lt-ltb 0 _ (omega (arith, some, fewer)))
    (elim (cases_Bool (has_room end.log j)) [
      | inl room ↦ room
      | inr none ↦ absurd (both_ways _ (no_room_by_call end.log act answer j none) later.1)
    ]))

-- Items that are written make the output longer by their octets.
sent_waits : (log : Log) (items : List Item)
    → waiting (with_sent log items) ≤ waiting log + size_of (max_payload_sent log) items
unfolding with_sent waiting output
sent_waits log [] = omega arith
sent_waits log (item ∷ items) =
    omega (
      arith,
      length-append log.written
          (encoding_of_items (max_payload_sent log) (item ∷ items)),
    )

data_waits : (log : Log) (id : ℕ) (octets : List ℕ) (ends : Bool) (n : ℕ) → owed log id ≡ 0
    → waiting (with_call log (SendData id octets ends) (Count n))
    ≤ waiting log + size_of (max_payload_sent log)
    (items_of (log_view log) (SendData id octets ends) (Count n))
unfolding with_call stream_of_act waiting output
data_waits log id octets ends n none =
    let act = SendData id octets ends in
    let same = no_due log act (Count n) (data_due log id octets ends n none) in
    let longer = sent_waits (called log act (Count n)) (items_of (log_view log) act (Count n)) in
    omega (arith, longer, ap waiting same)

-- Where octets of a body were sent the output was not full.
has_space_for : (log : Log) (id : ℕ) (octets : List ℕ) (ends : Bool) (n : ℕ)
    → MayAnswer log (SendData id octets ends) (Count n) → waiting log < full_output
unfolding conditions
has_space_for log id octets ends n may =
    let none = none_holds _ (data_accepted log id octets ends n may).0 in
    leb-false full_output (waiting log) none.1.1.1.0

module _ (end : EndLog) (id : ℕ) (octets : List ℕ) (ends : Bool) (n : ℕ)
    (waits : BodyWaits end id octets ends)
    (may : MayAnswer end.log (SendData id octets ends) (Count n)) where
  abbrev sent_end : EndLog
  sent_end = end_after_call end (SendData id octets ends) (Count n)

  -- On each stream no more waits, and nothing more could go.
  data_fewer : (j : ℕ) → octets_among (tokens_waiting sent_end j)
      ≤ octets_among (tokens_waiting end j)
  data_fewer j =
      let since = among_since end sent_end j _ (data_sent end id n octets ends j waits) in
      omega (arith, since)

  data_still : (j : ℕ) → could_send sent_end j ≡ true → could_send end j ≡ true
  data_still j could =
      still_could end (SendData id octets ends) (Count n) j may (λ wrong. cc) (data_fewer j) could

  here_waits : octets_among (tokens_waiting end id) ≡ length octets
  here_waits = ap octets_among waits.waits ∙ among_octets octets waits.trailers

  sent_here : total (data_on id) sent_end.log.sent ≡ n + total (data_on id) end.log.sent
  sent_here = sent_of_stream id end.log id octets ends n may
      ∙ ap (λ (here : Bool). (if here then n else 0) + total (data_on id) end.log.sent)
      (eq-eqb id id refl)

  count_is : n ≡ min (length octets) (min (min (given_on id end.log.received
      - total (data_on id) end.log.sent) (given_on_connection end.log.received
      - total data_of end.log.sent)) max_data)
  count_is = (data_accepted end.log id octets ends n may).1
      ∙ count_by_sums end.log id (length octets) (data_active end.log id octets ends n may)

  -- Where some goes, octets could go there, and none can after it.
  could_before : 0 < n → could_send end id ≡ true
  could_before some =
      let count = count_is in
      and_from _ _ (data_active end.log id octets ends n may)
      (and_from _ _ (lt-ltb 0 _ (omega (arith, some, count, here_waits)))
      (and_from _ _ (window_test (given_on id end.log.received) (total (data_on id) end.log.sent)
      ∙ lt-ltb _ _ (omega (arith, some, count)))
      (window_test (given_on_connection end.log.received) (total data_of end.log.sent)
      ∙ lt-ltb _ _ (omega (arith, some, count)))))

  none_after_it : n < max_data → could_send sent_end id ≡ false
  none_after_it few = false_from_ne_true _ (λ could.
      let parts = and_parts _ _ (and_parts _ _ could).1 in
      let room = and_parts _ _ parts.1 in
      let left = ltb-true 0 (octets_among (tokens_waiting sent_end id)) parts.0 in
      let on = ltb-true (total (data_on id) sent_end.log.sent)
      (given_on id sent_end.log.received) (sym (window_test (given_on id sent_end.log.received)
      (total (data_on id) sent_end.log.sent)) ∙ room.0) in
      let all = ltb-true (total data_of sent_end.log.sent)
      (given_on_connection sent_end.log.received)
      (sym (window_test (given_on_connection sent_end.log.received)
      (total data_of sent_end.log.sent)) ∙ room.1) in
      let same = (grows_call end.log (SendData id octets ends) (Count n)).received in
      let since = among_since end sent_end id _ (data_sent end id n octets ends id waits) in
      let call = among_data_here id octets ends n (data_within end.log id octets ends n may) in
      omega (
        arith,
        few,
        left,
        on,
        all,
        ap (given_on id) same,
        ap given_on_connection same,
        count_is,
        here_waits,
        sent_here,
        sent_of_all end.log id octets ends n may,
        since,
        call,
      ))

  data_ready : (bound : ℕ) → (could_send end id ≡ true → id < bound) → n < max_data → 0 < n
      → ready sent_end bound + 1 ≤ ready end bound
  data_ready bound low few some =
      count_fewer bound id (could_send sent_end) (could_send end) (low (could_before some))
      data_still (could_before some) (none_after_it few)

  data_ready_still : (bound : ℕ) → ready sent_end bound ≤ ready end bound
  data_ready_still bound =
      count_below_more bound (could_send sent_end) (could_send end) data_still

  data_frames_few : (bound : ℕ) → (could_send end id ≡ true → id < bound)
      → 16384 * (total one_data sent_end.log.sent + ready sent_end bound)
      + total data_of end.log.sent
      ≤ 16384 * (total one_data end.log.sent + ready end bound)
      + total data_of sent_end.log.sent
  unfolding items_of
  data_frames_few bound low =
      let least = (most_between end.log.received).0 in
      let items = body_counts one_data frames_counts end.log id octets ends n may in
      let all = sent_of_all end.log id octets ends n may in
      let body = body_few 0 (max_payload_sent end.log) id octets ends n least
      (data_within end.log id octets ends n may) in
      elim (cases_eq n 0) [
        | inl nothing ↦
            let none = body_none (max_payload_sent end.log) id octets ends
            (some_octets octets waits.some) in
            let same = ap (λ (m : ℕ). total one_data
            (data_items (max_payload_sent end.log) id octets ends m)) nothing in
            omega (arith, items, all, none, same, nothing, data_ready_still bound)
        | inr other ↦ elim (cases_Bool (nat_lt n max_data)) [
          | inl few ↦
              let fewer = data_ready bound low (ltb-true n max_data few) (omega (arith, other)) in
              omega (arith, items, all, body.1, fewer)
          | inr many ↦
              let frames = body_fewer (max_payload_sent end.log) id octets ends n least
              (data_within end.log id octets ends n may) other in
              let most = ltb-false n max_data many in
              omega (arith, items, all, frames, most, count_is, data_ready_still bound)
        ]
      ]

  -- The octets wait, and were sent since the output was not full.
  data_waits_more : end.log.given ≤ length end.log.written
      → waiting end.log + n ≤ waiting sent_end.log
  data_waits_more given = data_grow end.log id octets ends n given may

  data_has_space : waiting end.log < full_output
  data_has_space = has_space_for end.log id octets ends n may

  data_longer : owed end.log id ≡ 0
      → waiting sent_end.log + (9 * total one_data end.log.sent + total data_of end.log.sent)
      ≤ waiting end.log + (9 * total one_data sent_end.log.sent
      + total data_of sent_end.log.sent)
  unfolding items_of
  data_longer none =
      let least = (most_between end.log.received).0 in
      let items = body_counts one_data frames_counts end.log id octets ends n may in
      let all = sent_of_all end.log id octets ends n may in
      let body = body_few (max_payload_sent end.log) (max_payload_sent end.log) id octets ends n
      least (data_within end.log id octets ends n may) in
      let longer = data_waits end.log id octets ends n none in
      omega (arith, items, all, body.0, longer)

module _ (role : Role) (values : Values) (bound : ℕ) where
  writes_nothing : (end after : EndLog) → after.log.sent ≡ end.log.sent
      → waiting after.log ≡ waiting end.log
      → ((j : ℕ) → could_send after j ≡ true → could_send end j ≡ true)
      → PumpWrites end after bound
  writes_nothing end after sent waits still =
      let frames_same = ap (total one_data) sent in
      let data_same = ap (total data_of) sent in
      let fewer = count_below_more bound (could_send after) (could_send end) still in
      record {
        frames = omega (arith, frames_same, data_same, fewer);
        longer = λ none. inl (omega (arith, frames_same, data_same, waits));
      }

  refused_writes : (end : EndLog) (act : Act) (refusal : Refusal)
      → MayAnswer end.log act (Refused refusal)
      → PumpWrites end (end_after_call end act (Refused refusal)) bound
  unfolding with_call waiting output
  refused_writes end act refusal may =
      writes_nothing end (end_after_call end act (Refused refusal)) refl refl (λ j could.
      still_could end act (Refused refusal) j may (λ wrong. cc)
      (omega (
        arith,
        ap octets_among (waiting_same end act (Refused refusal) j
            (refused_tokens j act refusal)),
      )) could)

  pumps_write : (end after : EndLog) (count : ℕ) (refused : Option Refusal)
      → Pumps end count refused after → IsLog role values end.log
      → ((j : ℕ) → could_send end j ≡ true → j < bound) → PumpWrites end after bound
  pumps_write end _ _ _ (pumps_no_more _) is low =
      writes_nothing end end refl refl (λ j could. could)
  pumps_write end _ _ _ (pumps_data _ id sent more octets ends refused after next typed waits may
      pumps) is low =
      let act = SendData id octets ends in
      let between = end_after_call end act (Count sent) in
      let rest = pumps_write between after more refused pumps
      (called_one is act (Count sent) typed may)
      (λ j could. low j (data_still end id octets ends sent waits may j could)) in
      let frames = data_frames_few end id octets ends sent waits may bound (low id) in
      let rest_frames = rest.frames in
      record {
        frames = omega (arith, frames, rest_frames);
        longer = λ none.
            let longer = data_longer end id octets ends sent waits may (none id) in
            elim (rest.longer (λ j.
            none_owed_by_call role values end.log act (Count sent) j is may (none j))) [
              | inl less ↦ inl (omega (arith, longer, less))
              | inr (j, alive, fewer) ↦ inr (
                j,
                was_active end.log act (Count sent) j may
                    (λ wrong. cc) alive,
                (let since = others_since end between j _ (data_sent end id sent octets ends j
                    waits) in omega (arith, since, fewer)),
              )
            ];
      }
  pumps_write end _ _ _ (pumps_trailers _ id more list refused after next typed wait may pumps) is
      low =
      let act = SendFields id list true in
      let between = end_after_call end act Done in
      let all = (fields_send_none 0 end.log id list true may).0 in
      let items = fields_count one_data frames_counts block_is_no_frame end.log id list true may in
      let still = λ (j : ℕ) (could : could_send between j ≡ true).
      still_could end act Done j may (λ wrong. cc)
      (let since = among_since end between j _ (trailers_sent end id list j wait) in
      omega (arith, since)) could in
      let rest = pumps_write between after more refused pumps (called_one is act Done typed may)
      (λ j could. low j (still j could)) in
      let fewer = count_below_more bound (could_send between) (could_send end) still in
      let rest_frames = rest.frames in
      let since = others_since end between id _ (trailers_sent end id list id wait) in
      let stays = stays_out between after more refused id pumps in
      let later = others_since between after id stays.0 stays.1 in
      let call = ap length (fields_tokens id list) in
      let no_octets = among_fields id id list in
      record {
        frames = omega (arith, all, items, fewer, rest_frames);
        longer = λ none. inr (id, next.active, omega (arith, since, later, call, no_octets));
      }
  pumps_write end _ _ _ (data_refused _ id octets ends refusal next typed waits may) is low =
      refused_writes end (SendData id octets ends) refusal may
  pumps_write end _ _ _ (trailers_refused _ id list refusal next typed wait may) is low =
      refused_writes end (SendFields id list true) refusal may

  could_low : (end : EndLog) (j : ℕ) → could_send end j ≡ true → j < above_streams end.log
  could_low end j could =
      let log = end.log in
      let alive = (and_parts _ _ could).0 in
      let low = block_below j _
      (active_parts log.role j log.received log.sent log.reported alive).opened in
      omega (arith, low)

-- So a pump writes 1,007 DATA at most, since it stops where the output is full.
pub record PumpFew (end after : EndLog) : Type 0 where
  pub frames : total one_data after.log.sent ≤ total one_data end.log.sent + 1007
  pub longer : ((i : ℕ) → owed end.log i ≡ 0)
      → (waiting after.log + total data_of end.log.sent
      ≤ waiting end.log + (9063 + total data_of after.log.sent))
      ⊎ ((id : ℕ) × (active end.log id ≡ true)
      × (others_among (tokens_waiting after id) < others_among (tokens_waiting end id)))

few_by : (role : Role) (values : Values) (end after : EndLog) → IsLog role values end.log
    → PumpWrites end after (above_streams end.log)
    → total data_of after.log.sent ≤ total data_of end.log.sent + 131071 → PumpFew end after
unfolding active_count
few_by role values end after is writes few =
    let frames = writes.frames in
    let ready_few = count_below_more (above_streams end.log) (could_send end) (active end.log)
    (λ j could. (and_parts _ _ could).0) in
    let active_few = few_active role values end.log is in
    let most : total one_data after.log.sent ≤ total one_data end.log.sent + 1007 =
    omega (arith, frames, ready_few, active_few, few) in
    record {
      frames = most;
      longer = λ none. elim (writes.longer none) [
        | inl less ↦ inl (omega (arith, less, most))
        | inr other ↦ inr other
      ];
    }

-- How much a pump sends where so much waits: no call at a full output, 65,536 octets by a call.
pub record SendsFew (end after : EndLog) : Type 0 where
  pub some : waiting end.log < full_output
      → total data_of after.log.sent + waiting end.log ≤ total data_of end.log.sent + 131071
  pub none : full_output ≤ waiting end.log
      → total data_of after.log.sent ≤ total data_of end.log.sent

-- More is sent before it, which waits.
sends_more : (before between after n wait follows : ℕ) → between ≡ n + before → n ≤ 65536
    → wait + n ≤ follows → wait < 65536 → (follows < 65536 → after + follows ≤ between + 131071)
    → (65536 ≤ follows → after ≤ between) → (b : Bool) → nat_lt follows 65536 ≡ b
    → after + wait ≤ before + 131071
sends_more before between after n wait follows is few waits space some none true test =
    let less = some (ltb-true follows 65536 test) in omega (arith, is, waits, less)
sends_more before between after n wait follows is few waits space some none false test =
    let less = none (ltb-false follows 65536 test) in omega (arith, is, few, space, less)

module _ (role : Role) (values : Values) where
  pumps_send_few : (end after : EndLog) (count : ℕ) (refused : Option Refusal)
      → Pumps end count refused after → IsLog role values end.log → SendsFew end after
  unfolding with_call
  pumps_send_few end _ _ _ (pumps_no_more _) is =
      record { some = λ few. omega (arith, few); none = λ full. omega arith }
  pumps_send_few end _ _ _ (pumps_data _ id sent more octets ends refused after next typed waits may
      pumps) is =
      let act = SendData id octets ends in
      let between = end_after_call end act (Count sent) in
      let all = sent_of_all end.log id octets ends sent may in
      let space = data_has_space end id octets ends sent waits may in
      let grows = data_waits_more end id octets ends sent waits may (given_within role values end.log
      is) in
      let count = count_is end id octets ends sent waits may in
      let rest = pumps_send_few between after more refused pumps
      (called_one is act (Count sent) typed may) in
      record {
        some = λ few. sends_more (total data_of end.log.sent) (total data_of between.log.sent)
            (total data_of after.log.sent) sent (waiting end.log) (waiting between.log) all
            (omega (arith, count)) grows few rest.some rest.none
            (nat_lt (waiting between.log) 65536) refl;
        none = λ full. absurd (omega (arith, full, space));
      }
  pumps_send_few end _ _ _ (pumps_trailers _ id more list refused after next typed wait may pumps)
      is =
      let act = SendFields id list true in
      let between = end_after_call end act Done in
      let all = (fields_send_none 0 end.log id list true may).0 in
      let grows = fields_wait end.log id list true (given_within role values end.log is) in
      let rest = pumps_send_few between after more refused pumps (called_one is act Done typed may)
      in
      record {
        some = λ few. sends_more (total data_of end.log.sent) (total data_of between.log.sent)
            (total data_of after.log.sent) 0 (waiting end.log) (waiting between.log)
            (omega (arith, all)) (omega arith) (omega (arith, grows)) few rest.some rest.none
            (nat_lt (waiting between.log) 65536) refl;
        none = λ full.
            let less = rest.none (omega (arith, full, grows)) in omega (arith, less, all);
      }
  pumps_send_few end _ _ _ (data_refused _ id octets ends refusal next typed waits may) is =
      record { some = λ few. omega (arith, few); none = λ full. omega arith }
  pumps_send_few end _ _ _ (trailers_refused _ id list refusal next typed wait may) is =
      record { some = λ few. omega (arith, few); none = λ full. omega arith }

  -- A pump sends 131,071 octets at most.
  sent_few : (end after : EndLog) (count : ℕ) (refused : Option Refusal)
      → Pumps end count refused after → IsLog role values end.log
      → total data_of after.log.sent ≤ total data_of end.log.sent + 131071
  sent_few end after count refused pumps is =
      let few = pumps_send_few end after count refused pumps is in
      elim (cases_Bool (nat_lt (waiting end.log) full_output)) [
        | inl space ↦
            let less = few.some (ltb-true (waiting end.log) full_output space) in
            omega (arith, less)
        | inr full ↦
            let less = few.none (ltb-false (waiting end.log) full_output full) in
            omega (arith, less)
      ]

pub pump_few : (role : Role) (values : Values) (end after : EndLog) (count : ℕ)
    → MayPump end (Ok count) after → IsLog role values end.log → PumpFew end after
unfolding MayPump
pump_few role values end after count (up, inl full) is =
    few_by role values end after is (pumps_write role values (above_streams end.log) end after
    count (Some OutputFull) full.0 is (could_low role values (above_streams end.log) end))
    (sent_few role values end after count (Some OutputFull) full.0 is)
pump_few role values end after count (up, inr done) is =
    few_by role values end after is (pumps_write role values (above_streams end.log) end after
    count None done.0 is (could_low role values (above_streams end.log) end))
    (sent_few role values end after count None done.0 is)
