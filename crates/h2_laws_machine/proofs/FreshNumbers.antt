-- What a log says of numbers that no stream had yet; and the law of calls.
use Rattle.h2_laws_machine.proofs.Names
use Names.{◌≡◌, ◌≢◌, ℕ, ◌<◌, false, List, [], ◌∷◌, None, refl, subst, ◌∙◌, arith, list_any}
use Names.{both_ways, ne_eqb, false_from_ne_true, Data, Item, alone, block, Role, Client, Server}
use Names.{data_on, is_block_on, ends, total, greatest_block, Values, Act, Answer, IsTypedAct}
use Names.{openings, flow_on, reported_total, Log, MayAnswer, with_call, IsLog, End, Represents}
use Names.{AllowedHistory, end_after, active_parts, block_below, resets_used, log_represents}
use Names.{total_one, starts, reads, writes, Allowed, increments_read}
use Rattle.h2_laws_machine.proofs.CallLaw.{IsSound, call_law}
use Rattle.h2_laws_machine.proofs.CallOpen.{IsClear}
use Rattle.h2_laws_machine.proofs.GoAwaysSent.{active_processed}
use Rattle.h2_laws_machine.proofs.LogCore.{core, kept_back}
use Rattle.h2_laws_machine.proofs.OneItemMore.{any_quiet}
use Rattle.h2_laws_machine.proofs.UpInvariant.{idle_above, greatest_after}
use Rattle.h2_laws_machine.proofs.UpInvariantLogs.{up_log_of}

-- an item that a client may write neither ends nor consumes anything of a number above all before
-- it
item_low : (received sent : List Item) (item : Item) (i : ℕ) → Allowed Client received sent item
    → greatest_block (item ∷ sent) < i
    → (ends i item ≡ false) × (data_on i item ≡ 0)
unfolding ends data_on greatest_block
item_low received sent (block stream end octets) i allowed above =
    (rw (ne_eqb stream i (λ same. omega arith)) refl, refl)
item_low received sent (alone (Data stream end octets pad)) i allowed above =
    let low = block_below _ _ (active_parts Client _ _ _ [] (allowed.1).goes_on.active).opened in
    let other : stream ≢ i = λ same. omega arith in
    (rw (ne_eqb _ _ other) refl, rw (ne_eqb _ _ other) refl)
item_low received sent item i allowed above = (refl, refl)

-- A client has ended nothing, and sent nothing, of a number above all that it used.
sent_low : (received sent : List Item) (i : ℕ) → AllowedHistory Client received sent
    → greatest_block sent < i → (list_any (ends i) sent ≡ false) × (total (data_on i) sent ≡ 0)
unfolding ends data_on total
sent_low _ _ i (starts values ok) above = (refl, refl)
sent_low _ sent i (reads {received = received} item with_sent) above =
    sent_low received sent i with_sent above
sent_low received _ i (writes {sent = sent} item with_sent allowed) above =
    let here = item_low _ _ item i allowed above in
    let before = sent_low received sent i with_sent
    (let low = greatest_after (item ∷ []) sent in omega arith) in (
      any_quiet (ends i) item sent here.0 ∙ before.0,
      omega (arith, total_one (data_on i) item sent, here.1, before.1),
    )

-- nothing is unreleased of nothing
unreleased_none : (log : Log) (i : ℕ) → reported_total (flow_on i) log.reported ≡ 0
    → kept_back (core log) i ≡ 0
unreleased_none log i none = omega (arith, none)

-- no block on a number above all that a client used
unopened : (role : Role) (received sent : List Item) (i : ℕ) → role ≡ Client
    → greatest_block sent < i → list_any (is_block_on i) (openings role received sent) ≡ false
unopened Client received sent i is above =
    false_from_ne_true _ (λ some. let low = block_below i sent some in omega arith)
unopened Server received sent i is above = cc

-- Numbers above all that a client used are clear.
clear_of : (role : Role) (values : Values) (log : Log) → IsLog role values log → log.failed ≡ None
    → log.role ≡ Client → (i : ℕ) → greatest_block log.sent < i
    → IsClear (core log) i
clear_of role values log came up client i above =
    let represents = log_represents role values log came in
    let up_log = up_log_of role values log came up in
    let unseen = up_log.clear client i above in
    let with_sent : AllowedHistory Client log.received log.sent = subst
    (λ (r : Role). AllowedHistory r log.received log.sent) client represents.with_sent in
    let sent = sent_low log.received log.sent i with_sent above in
    let unused = idle_above log.role i log.received log.sent client above in
    let nonzero : i ≢ 0 = λ none. omega arith in
    let gave = increments_read log.role i nonzero log.received log.sent represents.with_sent in
    let taken_none = unseen.no_data in
    record {
      ended_in = unseen.ended;
      reset_in = unseen.reset;
      given = unseen.given;
      taken_in = unseen.no_data;
      ended_out = sent.0;
      reset_out = false_from_ne_true _ (λ some. both_ways _ unused
          (resets_used log.role i log.received log.sent represents.with_sent some));
      granted = omega arith;
      taken_out = sent.1;
      unnamed = unseen.unnamed;
      owed = unreleased_none log i ((represents.good up).opened i (unopened _ _ _ i client above));
    }

-- Every log that hasn't failed is sound.
sound_of : (role : Role) (values : Values) (log : Log) → IsLog role values log
    → log.failed ≡ None → IsSound log
sound_of role values log came up =
    let up_log = up_log_of role values log came up in
    assumption (active_processed role values log came up, clear_of role values log came up, up_log)

-- After each call an end represents its log.
pub calls_represent : (values : Values) (e : End) (log : Log) (act : Act) (answer : Answer)
    → Represents values e log → IsTypedAct act → MayAnswer log act answer
    → Represents values (end_after e act answer) (with_call log act answer)
calls_represent values e log act answer represents typed may =
    call_law values e log act answer (sound_of _ _ log represents.came) represents typed may
