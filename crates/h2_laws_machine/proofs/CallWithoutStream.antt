-- The calls that concern no stream preserve that an end represents its log.
use Rattle.h2_laws_machine.proofs.Names
use Names.{◌≡◌, ◌+◌, ◌-◌, ◌≤◌, min, [], ◌∷◌, sym, ap, ◌∙◌, End, Act, View, Log}
use Names.{ℕ, IsTypedAct, SendGoAway, value_read, with_items, conditions, queue_output, size-update}
use Names.{true, List, drop, Some, None, refl, arith, Code, Ping, alone, total, Count, Done, acked}
use Names.{false, subst, GoAway, Values, Answer, PutOut, active, output, called, log_view, both_by}
use Names.{if◌then◌else◌, length-append, WindowUpdate, before_put_out, stream_of_act, changed_pairs}
use Names.{length, encoding_of_items, encoder_after_call, returns_before_put_out, before_put_out_at}
use Names.{Option, reported_total, ChangeSettings, settings_count, last_processed, max_payload_sent}
use Names.{Settings, is_server, with_sent, MayAnswer, with_call, refusal_of, after_call, Represents}
use Names.{Widen, widened, end_view, one_ping, one_pong, SendPing, waiting, released, first_of}
use Names.{items_of, answer_of}
use Rattle.std.proofs.lemmas.List.{drop-drop, drop_min, length-drop}
use Rattle.h2_spec_log.specs.CallRules.{update_size}
use Rattle.h2_laws_log.proofs.CreditCases.{put_out_cases}
use Rattle.h2_laws_machine.proofs.LogCore.{core, core_facts, runs}
use Rattle.h2_laws_machine.proofs.OwedAtClose.{owes_none}
use Rattle.h2_laws_machine.proofs.RepresentedSteps.{called_going, Up, up_of, represents_made}
use Rattle.h2_laws_machine.proofs.RepresentedSteps.{wrote_up, called_up, ready_up}
use Rattle.h2_laws_machine.proofs.RepresentedSteps.{nothing_unreturned, views_of_up}
use Rattle.h2_laws_machine.proofs.SentConnectionItems.{ping_advances, goaway_advances}
use Rattle.h2_laws_machine.proofs.SentConnectionItems.{settings_advance, widened_advances}
use Rattle.h2_laws_machine.proofs.SentQuietItems.{called_streams, granted_advances}
use Rattle.h2_laws_machine.proofs.WaitingOutput.{OutputOf}

-- A PING is sent.
pub ping_up : (e : End) (log : Log) (octets : List ℕ)
    → reported_total one_pong log.reported ≤ total one_ping log.sent → Up e log
    → Up (after_call e (SendPing octets)) (with_call log (SendPing octets) Done)
unfolding after_call with_call with_items items_of stream_of_act encoder_after_call released
    widened
ping_up e log octets enough is =
    let base = called log (SendPing octets) Done in
    let went = called_going e log (SendPing octets) Done e.output.encoder is.going.encoder
    (λ i. refl) refl is.going in
    nothing_unreturned _ log _ 0 (owes_none log _)
    (wrote_up e (record e { ping = Some octets }) base (alone (Ping false octets) ∷ []) is.role
    is.up is.same refl is.waits is.started
    (ping_advances (core_facts e) (core base) octets enough went))

-- GOAWAY is sent.
pub goaway_up : (e : End) (log : Log) → (is_server log.role ≡ true → (i : ℕ) → active log i ≡ true
    → i ≤ last_processed log) → Up e log
    → Up (after_call e SendGoAway) (with_call log SendGoAway Done)
unfolding after_call with_call with_items items_of stream_of_act encoder_after_call released
    widened last_processed
goaway_up e log low is =
    let base = called log SendGoAway Done in
    let went = called_going e log SendGoAway Done e.output.encoder is.going.encoder (λ i. refl)
    refl is.going in
    let all : Up (record (queue_output e (alone (GoAway (last_processed log) 0 []) ∷ []))
    { goaway = record e.goaway { sent = Some (last_processed log) } })
    (with_sent base (alone (GoAway (last_processed log) 0 []) ∷ [])) =
    wrote_up e (record e { goaway = record e.goaway { sent = Some (last_processed log) } }) base
    (alone (GoAway (last_processed log) 0 []) ∷ []) is.role is.up is.same refl is.waits is.started
    (goaway_advances (core_facts e) (core base) (last_processed log) 0 low went) in
    nothing_unreturned _ log _ 0 (owes_none log _)
    (subst (λ (n : ℕ). Up (record (queue_output e (alone (GoAway n 0 []) ∷ []))
    { goaway = record e.goaway { sent = Some n } })
    (with_sent base (alone (GoAway (last_processed log) 0 []) ∷ [])))
    (sym is.going.streams.last_processed) all)

-- Settings are changed.
pub settings_up : (e : End) (log : Log) (values : Values) → acked log ≤ settings_count log.sent
    → 1 ≤ settings_count log.sent → Up e log
    → Up (after_call e (ChangeSettings values)) (with_call log (ChangeSettings values) Done)
unfolding after_call with_call with_items items_of stream_of_act encoder_after_call released
    widened
settings_up e log values enough some is =
    let base = called log (ChangeSettings values) Done in
    let went = called_going e log (ChangeSettings values) Done e.output.encoder is.going.encoder
    (λ i. refl) refl is.going in
    let written = value_read 5 16384 log.sent in
    let item = alone (Settings false (changed_pairs log.role written values)) in
    let all : Up (record (queue_output e (item ∷ []))
    { own = record e.own { awaited = Some values } }) (with_sent base (item ∷ [])) =
    wrote_up e (record e { own = record e.own { awaited = Some values } }) base (item ∷ []) is.role
    is.up is.same refl is.waits is.started
    (settings_advance (core_facts e) (core base) values enough some went) in
    nothing_unreturned _ log _ 0 (owes_none log _) (subst (λ (view : View). Up
    (record (queue_output e (items_of view (ChangeSettings values) Done))
    { own = record e.own { awaited = Some values } }) (with_sent base (item ∷ [])))
    (sym (views_of_up e log is)) all)

-- The connection's window is widened.
pub widen_up : (e : End) (log : Log) (count : ℕ) → Up e log
    → Up (after_call e (Widen count)) (with_call log (Widen count) Done)
unfolding after_call with_call with_items items_of stream_of_act encoder_after_call
widen_up e log count is =
    let base = called log (Widen count) Done in
    let granted = granted_advances (core_facts e) (core log) count is.going in
    let wide = widened_advances (core_facts (record e {
      windows = record e.windows { granted = e.windows.granted + count };
    })) (core base) count granted in
    nothing_unreturned _ log _ 0 (owes_none log _)
    (wrote_up e (record e {
      windows = record e.windows {
        recv = e.windows.recv + count;
        granted = e.windows.granted + count;
      };
    }) base (alone (WindowUpdate 0 count) ∷ []) is.role is.up is.same refl is.waits is.started wide)

-- Octets are put out of what waits.
put_out_waits : (e : End) (log : Log) (count n : ℕ) → n ≡ min count (waiting log) → OutputOf e log
    → OutputOf (record e { output = record e.output { waiting = drop count e.output.waiting } })
    (record log { given = log.given + n })
unfolding waiting output
put_out_waits e log count n is w =
    let size : length (drop log.given log.written) ≡ length log.written - log.given = length-drop _
    _ in
    let most : min count (length (drop log.given log.written)) ≡ n = rw size (sym is) in
    let within = w.given in
    record {
      waiting = ap (drop count) w.waiting ∙ sym (drop_min count (drop log.given log.written)) ∙ ap
          (λ (k : ℕ). drop k (drop log.given log.written)) most ∙ drop-drop n log.given log.written;
      given = omega arith;
    }

-- Making ready puts nothing out.
pub ready_given : (log : Log) → (before_put_out log).given ≡ log.given
unfolding with_sent
ready_given log =
    put_out_cases (λ ready. ready.given ≡ log.given) log (λ returns. refl) (λ keeps. refl)

-- As much waits once a call is recorded.
ready_waits : (log : Log) (act : Act) (answer : Answer)
    → waiting (before_put_out (called log act answer)) ≡ waiting (before_put_out log)
unfolding before_put_out waiting output with_sent
ready_waits log act answer =
    both_by (λ (one other : Log). waiting one ≡ waiting other)
    (returns_before_put_out (log_view log)) refl refl

-- An end that hasn't failed puts octets out.
put_out_up : (e : End) (log : Log) (count n : ℕ) → n ≡ min count (waiting (before_put_out log))
    → Up e log
    → Up (after_call e (PutOut count)) (with_call log (PutOut count) (Count n))
unfolding after_call with_call encoder_after_call released widened
put_out_up e log count n is up =
    let base = called log (PutOut count) (Count n) in
    let made = ready_up e base (called_up e log (PutOut count) (Count n) refl (λ i. refl) refl up) in
    let waits = put_out_waits (before_put_out_at e) (before_put_out base) count n (is
    ∙ ap (min count) (sym (ready_waits log (PutOut count) (Count n)))) made.waits in
    let all : Up (record (before_put_out_at e) {
      output = record (before_put_out_at e).output
          { waiting = drop count (before_put_out_at e).output.waiting };
    }) (record (before_put_out base) { given = (before_put_out base).given + n }) =
    assumption (waits, made) in
    subst (λ (k : ℕ). Up (record (before_put_out_at e) {
      output = record (before_put_out_at e).output
          { waiting = drop count (before_put_out_at e).output.waiting };
    }) (record (before_put_out base) { given = k + n })) (ready_given base) all

-- As much waits once an end is ready as the rules say.
ready_size : (log : Log) → log.given ≤ length log.written
    → waiting (before_put_out log) ≡ waiting log +
    (if returns_before_put_out (log_view log) then update_size else 0)
unfolding before_put_out waiting output with_sent
ready_size log given =
    let update = alone (WindowUpdate 0 log.unreturned) ∷ [] in
    let size : length (encoding_of_items (max_payload_sent log) update) ≡ 13 = size-update _ 0 _ in
    let more = length-append log.written (encoding_of_items (max_payload_sent log) update) in
    both_by (λ (ready : Log) (n : ℕ). waiting ready ≡ waiting log + n)
    (returns_before_put_out (log_view log)) (omega (arith, more, size, given)) (omega arith)

-- An end that has failed is ready.
pub ready_failed_at : (e : End) (code : Code) → e.failed ≡ Some code → before_put_out_at e ≡ e
unfolding before_put_out_at
ready_failed_at e code is = rw is refl

-- So is its log.
pub ready_failed : (log : Log) (code : Code) → log.failed ≡ Some code → before_put_out log ≡ log
unfolding before_put_out
ready_failed log code is = rw is refl

-- A call that puts octets out is never refused.
pub never_refused : (e : End) (count : ℕ) → refusal_of (end_view e) (PutOut count) ≡ None
unfolding conditions first_of
never_refused e count = refl

-- Octets are put out, by whether the end has failed.
put_out_by : (values : Values) (e : End) (log : Log) (count n : ℕ) (x : Option Code) → e.failed ≡ x
    → n ≡ min count (waiting (before_put_out log))
    → Represents values e log → IsTypedAct (PutOut count) → MayAnswer log (PutOut count) (Count n)
    → Represents values (after_call e (PutOut count)) (with_call log (PutOut count) (Count n))
unfolding after_call with_call released
put_out_by values e log count n None up is represents typed may =
    let made = put_out_up e log count n is (up_of values e log represents up) in
    represents_made values e log (PutOut count) (Count n) represents typed may (never_refused e
    count) made.role (made.up ∙ sym made.same) made.waits made.going.streams
    (λ up. runs _ _ made.started made.going)
put_out_by values e log count n (Some code) failed is represents typed may =
    let base = called log (PutOut count) (Count n) in
    let here = ready_failed_at e code failed in
    let with_failure : log.failed ≡ Some code = sym represents.failed ∙ failed in
    let there = ready_failed base code with_failure in
    let same : waiting base ≡ waiting (before_put_out log) = ap waiting (sym there) ∙ ready_waits
    log (PutOut count) (Count n) in
    let waits : OutputOf (record e {
      output = record e.output { waiting = drop count e.output.waiting };
    }) (record base { given = log.given + n }) =
    put_out_waits e base count n (is ∙ ap (min count) (sym same)) represents.output in
    represents_made values e log (PutOut count) (Count n) represents typed may (never_refused e
    count) (ap (λ (x : End). x.role) here ∙ represents.role ∙ sym (ap (λ (x : Log). x.role) there))
    (ap (λ (x : End). x.failed) here ∙ represents.failed ∙ sym (ap (λ (x : Log). x.failed) there))
    (rw (here, there) waits) (rw (here, there) (called_streams _ (core log) _
    (λ i. refl) represents.streams))
    (λ up. let wrong : Some code ≡ None = sym failed ∙ sym (ap (λ (x : End). x.failed) here)
    ∙ up in absurd (cc))

-- Octets are put out, as many as the rules say.
pub put_out_represents : (values : Values) (e : End) (log : Log) (count : ℕ)
    → Represents values e log → IsTypedAct (PutOut count)
    → MayAnswer log (PutOut count) (answer_of (log_view log) (PutOut count))
    → Represents values (after_call e (PutOut count))
    (with_call log (PutOut count) (answer_of (log_view log) (PutOut count)))
put_out_represents values e log count represents typed may =
    put_out_by values e log count _ e.failed refl
    (ap (min count) (sym (ready_size log represents.output.given))) represents typed may
