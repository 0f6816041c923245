-- An end that is up represents its log: what is written joins what waits, and what is unreturned is
-- returned.
use Rattle.h2_laws_machine.proofs.Names
use Names.{◌==◌, not, ◌≡◌, ℕ, ◌+◌, List, [], ◌∷◌, ◌++◌, length, None, refl, sym, ap, subst, ◌∙◌}
use Names.{widened}
use Names.{arith, WindowUpdate, Item, alone, end_view, End, log_view, View, Values, Act, Answer}
use Names.{IsTypedAct, Log, active, released, unreleased, max_payload_sent, is_active, with_sent}
use Names.{with_unreturned, with_credit_returned, owed_at_close, called, before_put_out, MayAnswer}
use Names.{with_call, encoder_after_call, refusal_of, answer_of, items_of, returns_before_put_out}
use Names.{called_one, queue_output, with_encoder, return_credit, add_unreturned, after_call}
use Names.{before_put_out_at, EncoderState, Represents, RepresentsWhileUp, both_by, log_represents}
use Rattle.h2_laws_machine.proofs.ConservedBySteps.{call_holds, holds, is_whole}
use Rattle.h2_laws_machine.proofs.LogCore.{core, core_facts, StreamsOf, Going, going, runs}
use Rattle.h2_laws_machine.proofs.SentConnectionItems.{widened_advances}
use Rattle.h2_laws_machine.proofs.SentQuietItems.{unreturned_advances, called_advances}
use Rattle.h2_laws_machine.proofs.ViewsAgree.{view_beside, views_agree, payload_agrees}
use Rattle.h2_laws_machine.proofs.WaitingOutput.{OutputOf, wrote_output, waits_much}

-- An end that hasn't failed represents a log, but for what the log's history and the connection's
-- window add.
pub record Up (e : End) (log : Log) : Type 0 where
  pub role : e.role ≡ log.role
  pub up : e.failed ≡ None
  pub same : log.failed ≡ None
  pub waits : OutputOf e log
  pub started : e.reading.started ≡ not (length log.frames == 0)
  pub going : Going e (core log)

-- An end that represents a log and hasn't failed is such a one.
pub up_of : (values : Values) (e : End) (log : Log) → Represents values e log → e.failed ≡ None
    → Up e log
up_of values e log represents up =
    assumption (
      up,
      sym represents.failed ∙ up,
      (represents.running up).started,
      going e log represents.streams (represents.running up),
      represents,
    )

-- After a call that is accepted, an end represents its log where what they keep is the same.
pub represents_made : (values : Values) (e : End) (log : Log) (act : Act) (answer : Answer)
    → Represents values e log → IsTypedAct act → MayAnswer log act answer
    → refusal_of (end_view e) act ≡ None → (after_call e act).role ≡ (with_call log act answer).role
    → (after_call e act).failed ≡ (with_call log act answer).failed
    → OutputOf (after_call e act) (with_call log act answer)
    → StreamsOf (after_call e act).streams (core (with_call log act answer))
    → ((after_call e act).failed ≡ None
    → RepresentsWhileUp (after_call e act) (with_call log act answer))
    → Represents values (after_call e act) (with_call log act answer)
represents_made values e log act answer represents typed may accepted role failed waits streams run
    =
    let came = called_one represents.came act answer typed may in
    let same : (after_call e act).role ≡ e.role = role
    ∙ (log_represents e.role values _ came).own in
    let whole = is_whole (after_call e act) (call_holds e act accepted
    (holds e (record { whole = represents.whole; used = represents.used }))) in
    record {
      came = rw same came;
      role = role;
      failed = failed;
      output = waits;
      streams = streams;
      running = run;
      whole = whole.whole;
      used = whole.used;
    }

-- Where it hasn't failed, it represents its log.
pub represents_after : (values : Values) (e : End) (log : Log) (act : Act) (answer : Answer)
    → Represents values e log → IsTypedAct act → MayAnswer log act answer
    → refusal_of (end_view e) act ≡ None → Up (after_call e act) (with_call log act answer)
    → Represents values (after_call e act) (with_call log act answer)
represents_after values e log act answer represents typed may accepted is =
    represents_made values e log act answer represents typed may accepted is.role (is.up
    ∙ sym is.same) is.waits is.going.streams (λ up. runs _ _ is.started is.going)

-- Items are written, where the end represents the log with them but for what waits.
pub wrote_up : (e f : End) (log : Log) (items : List Item) → f.role ≡ log.role → f.failed ≡ None
    → log.failed ≡ None → f.peer ≡ e.peer → OutputOf e log
    → f.reading.started ≡ not (length log.frames == 0)
    → Going f (record (core log) { sent = items ++ log.sent })
    → Up (record f { output = record f.output { waiting = (queue_output e items).output.waiting } })
    (with_sent log items)
unfolding with_sent
wrote_up e f log items role up same peer waits started run =
    let most : (end_view e).max_payload ≡ max_payload_sent log =
    rw (← peer) (payload_agrees f.peer log.received run.peer) in
    by items (wrote_output e log items most waits) run
  where
    by : (items : List Item) → OutputOf (queue_output e items) (with_sent log items)
        → Going f (record (core log) { sent = items ++ log.sent })
        → Up (record f {
          output = record f.output { waiting = (queue_output e items).output.waiting };
        }) (with_sent log items)
    by [] waits run = assumption (role, up, same, waits, started, run)
    by (item ∷ items) waits run = assumption (role, up, same, waits, started, run)

-- All that is unreturned is returned.
return_credit_up : (e : End) (log : Log) → Up e log
    → Up (return_credit e) (with_credit_returned log)
unfolding with_sent
return_credit_up e log is =
    let g = is.going in
    let paid = unreturned_advances (core_facts e) (core log) 0 0 refl g in
    let wide = widened_advances (core_facts (record e {
      windows = record e.windows { unreturned = 0 };
    })) (record (core log) { unreturned = 0 }) e.windows.unreturned paid in
    let all : Up (return_credit e)
    (with_sent (record log { unreturned = 0 }) (alone (WindowUpdate 0 e.windows.unreturned) ∷ [])) =
    wrote_up e (record e {
      windows = record e.windows { unreturned = 0; recv = e.windows.recv + e.windows.unreturned };
    }) (record log { unreturned = 0 }) (alone (WindowUpdate 0 e.windows.unreturned) ∷ [])
    is.role is.up is.same refl is.waits is.started wide in
    subst (λ (n : ℕ). Up (return_credit e)
    (with_sent (record log { unreturned = 0 }) (alone (WindowUpdate 0 n) ∷ [])))
    g.windows.unreturned all

-- More is unreturned.
unreturned_up : (e : End) (log : Log) (more : ℕ) → Up e log
    → Up (record e { windows = record e.windows { unreturned = e.windows.unreturned + more } })
    (record log { unreturned = log.unreturned + more })
unreturned_up e log more is =
    assumption (
      unreturned_advances (core_facts e) (core log) (e.windows.unreturned + more)
          (log.unreturned + more) (ap (λ (n : ℕ). n + more) is.going.windows.unreturned) is.going,
      is,
    )

-- What is unreturned is added.
pub with_unreturned_up : (e : End) (log : Log) (here there : ℕ) → here ≡ there → Up e log
    → Up (add_unreturned here e) (with_unreturned there log)
unfolding add_unreturned with_unreturned
with_unreturned_up e log here there same is =
    rw (← same, ← (waits_much e log is.waits)) (both_by Up _
    (return_credit_up _ _ (unreturned_up e log here is)) (unreturned_up e log here is))

-- Nothing more is unreturned.
with_unreturned_none : (log : Log) → with_unreturned 0 log ≡ log
unfolding with_unreturned
with_unreturned_none log = let none : log.unreturned + 0 ≡ log.unreturned =
    omega arith in ap (λ (n : ℕ). record log { unreturned = n }) none

-- A call that closes no stream leaves a log as it is.
pub nothing_unreturned : (e : End) (log after : Log) (i : ℕ) → owed_at_close log after i ≡ 0
    → Up e after → Up e (with_unreturned (owed_at_close log after i) after)
nothing_unreturned e log after i none is = rw (none, with_unreturned_none after) is

module _ (e : End) (log : Log) (act : Act) (answer : Answer) where
  -- The call is recorded, with the encoder after it.
  pub called_going : (encoder : EncoderState) → encoder ≡ encoder_after_call log.encoder act answer
      → ((i : ℕ) → released i ((act, answer) ∷ log.calls) ≡ released i log.calls)
      → widened ((act, answer) ∷ log.calls) ≡ widened log.calls → Going e (core log)
      → Going (record e { output = record e.output { encoder = encoder } })
      (core (called log act answer))
  called_going encoder is same wide g =
      rw is (called_advances (core_facts e) (core log) _ _ same wide g)

  -- The call is recorded.
  pub called_up : log.encoder ≡ encoder_after_call log.encoder act answer
      → ((i : ℕ) → released i ((act, answer) ∷ log.calls) ≡ released i log.calls)
      → widened ((act, answer) ∷ log.calls) ≡ widened log.calls → Up e log
      → Up e (called log act answer)
  called_up keeps same wide is = assumption (
    called_going e.output.encoder (is.going.encoder ∙ keeps) same wide is.going,
    is,
  )

-- An end that is up is viewed as its log is.
pub views_of_up : (e : End) (log : Log) → Up e log → end_view e ≡ view_beside e log
views_of_up e log is =
    views_agree e log is.role (is.up ∙ sym is.same) (waits_much e log is.waits) is.going.streams
    (runs e log is.started is.going)

-- the end with what a call writes, by a view
abbrev pub queue_by : End → View → Act → End
queue_by e view act =
    queue_output (with_encoder e (encoder_after_call view.encoder act (answer_of view act)))
    (items_of view act (answer_of view act))

-- An end makes ready to put octets out.
pub ready_up : (e : End) (log : Log) → Up e log → Up (before_put_out_at e) (before_put_out log)
unfolding before_put_out_at before_put_out
ready_up e log is =
    let test : returns_before_put_out (end_view e) ≡ returns_before_put_out (log_view log) =
    ap (λ (view : View). returns_before_put_out view) (views_of_up e log is) in
    rw test (both_by Up (returns_before_put_out (log_view log)) (return_credit_up e log is) is)

-- What is active after items that are written.
pub wrote_active : (log : Log) (items : List Item) (i : ℕ)
    → active (with_sent log items) i ≡ is_active log.role i log.received (items ++ log.sent)
    log.reported
unfolding with_sent
wrote_active log [] i = refl
wrote_active log (item ∷ items) i = refl

-- Writing releases nothing.
pub wrote_owes : (log : Log) (items : List Item) (i : ℕ)
    → unreleased (with_sent log items) i ≡ unreleased log i
unfolding with_sent unreleased
wrote_owes log [] i = refl
wrote_owes log (item ∷ items) i = refl
