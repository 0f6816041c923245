-- Calls leave a stream active, unless they end or reset it; they make one active only where they
-- answer its number; and one that is refused isn't active afterwards.
use Rattle.h2_laws_end.proofs.Names
use Names.{◌≡◌, true, List, ◌++◌, Some, None, refl, Reset, alone, Count, Event, lacks, fails, IsLog}
use Names.{Widen}
use Names.{◌≢◌, ℕ, ◌≤◌, not, [], ◌∷◌, sym, ap, ◌∙◌, Code, Item, Role, Act, Open, Done, Log, View}
use Names.{◌==◌, list_any, and_left, SendData, SendPing, is_active, MayAnswer, any_after, with_call}
use Names.{Bool, false, arith, subst, Field, Server, Values, Answer, Refuse, Number, active, resets}
use Names.{Option, eq-eqb, ne_eqb, GoAway, Release, log_view, accepts, refuses, items_of, last_is}
use Names.{both_ways, and_parts, none_some, Refusal, SendFields, SendGoAway, refusal_of, conditions}
use Names.{or_left, InternalError, code_number, ResetStream, active_parts, active_used, lasts_parts}
use Names.{false_from_ne_true, list_any-append, ChangeSettings, greatest_processed, last_processed}
use Rattle.std.specs.Option.{is_some}
use Rattle.h2_spec_log.specs.declared.refusal.Refusal.TheVariants.{NoSuchStream, Closed}
use Rattle.h2_spec_log.specs.States.{when}
use Rattle.h2_spec_log.specs.View.{StreamView}
use Rattle.h2_spec_log.specs.CallRules.{first_of, may_lack_memory}
use Rattle.h2_laws_end.specs.Activity.{call_may_close}
use Rattle.h2_laws_end.proofs.OverCalls.{items_no_block, opens_other}
use Rattle.h2_laws_end.proofs.OverLists.{IsInactive, inactive_sent}
use Rattle.h2_laws_end.proofs.OverNumbers.{fields_active}
use Rattle.h2_laws_end.proofs.OverSteps.{call_keeps}
use Rattle.h2_laws_end.proofs.ActivityFrames.{active_added}
use Rattle.h2_laws_end.proofs.ActivityLogs.{known_of_logs}
use Rattle.h2_laws_end.proofs.ActivityStays.{AreHarmless, harmless_append, harmless_credit}
use Rattle.h2_laws_end.proofs.ActivityStays.{harmless_block, harmless_body, harmless_reset}
use Rattle.h2_laws_end.proofs.ActivityStays.{harmless_goaway, harmless_settings, harmless_ping}
use Rattle.h2_laws_end.proofs.ActivityStays.{harmless_release, harmless_update, stays_active}
use Rattle.h2_laws_end.proofs.ActivitySteps.{AfterCall, was_refused, was_broken, was_accepted}
use Rattle.h2_laws_end.proofs.ActivitySteps.{call_after}

-- What a call writes closes no stream, unless it ends or resets it; what it opens is another one.
items_harmless : (role : Role) (i : ℕ) (view : View) (act : Act) (answer : Answer)
    → call_may_close i act answer ≡ false
    → ((fields : List Field) (end : Bool) (id : ℕ) → act ≡ Open fields end → answer ≡ Number id
    → (id == i) ≡ false)
    → (role ≡ Server → i ≤ view.last_processed) → AreHarmless role i (items_of view act answer)
unfolding items_of call_may_close
items_harmless role i view (Open fields end) (Number id) none opens low =
    (harmless_block role i id end _ (and_left (id == i) end (opens fields end id refl refl)), tt)
items_harmless role i view (SendFields id fields end) Done none opens low =
    (harmless_block role i id end _ none, tt)
items_harmless role i view (SendData id octets end) (Count count) none opens low =
    harmless_body role i view.max_payload id octets end count none
items_harmless role i view (Release id count) Done none opens low = harmless_release _ _ _ _ _
items_harmless role i view (ResetStream id code) Done none opens low =
    (harmless_reset role i id code none, tt)
items_harmless role i view (Refuse id code) Done none opens low = (harmless_reset _ _ _ _ none, tt)
items_harmless role i view (SendPing octets) Done none opens low = (harmless_ping _ _ false _, tt)
items_harmless role i view SendGoAway Done none opens low = (harmless_goaway _ _ _ 0 low, tt)
items_harmless role i view (ChangeSettings values) Done none opens low =
    (harmless_settings role i false _, tt)
items_harmless role i view (Widen count) Done none opens low = (harmless_update _ _ 0 count, tt)
items_harmless role i view act answer none opens low = tt

pub active_low : (role : Role) (values : Values) (log : Log) (i : ℕ) → IsLog role values log
    → active log i ≡ true → log.role ≡ Server → i ≤ last_processed log
unfolding last_processed
active_low role values log i is alive server =
    let low = (known_of_logs role values log is i).processed server alive in
    let same = last_is log.role (greatest_processed log.reported) server in
    omega (arith, low, same)

-- A stream stays active after a call that doesn't close it.
stays_by : (log after : Log) (act : Act) (answer : Answer) (i : ℕ) → AfterCall log act answer after
    → active log i ≡ true → AreHarmless log.role i (items_of (log_view log) act answer)
    → (log.role ≡ Server → i ≤ last_processed log) → active after i ≡ true
stays_by log after act answer i (was_refused refusal is adds) alive harmless low =
    active_added log after [] [] [] i adds ∙ alive
stays_by log after act answer i (was_broken code adds failed) alive harmless low =
    active_added log after [] _ [] i adds ∙ stays_active log.role i []
    (alone (GoAway (last_processed log) (code_number code) []) ∷ []) log.received log.sent []
    log.reported alive refl refl (harmless_goaway _ _ _ (code_number code) low, tt) refl
stays_by log after act answer i (was_accepted credit is_credit none is adds) alive harmless low =
    active_added _ _ [] _ [] _ adds ∙ stays_active _ _ [] _ _ _ [] _ alive refl refl
    (harmless_append _ _ credit _ (harmless_credit _ _ credit is_credit) harmless) refl

pub active_by_call : (role : Role) (values : Values) (log : Log) (act : Act) (answer : Answer)
    (i : ℕ) → IsLog role values log → MayAnswer log act answer → active log i ≡ true
    → call_may_close i act answer ≡ false → active (with_call log act answer) i ≡ true
active_by_call role values log act answer i is may alive none =
    let low = active_low _ _ _ _ is alive in
    stays_by _ _ _ _ _ (call_after _ _ _ may) alive
    (items_harmless _ _ _ _ _ none (opens_other _ _ _ _ may (active_used _ _ _ _ _ alive)) low) low

-- A stream that isn't active is so after a call only if the call answers its number.
pub inactive_by_call : (log : Log) (act : Act) (answer : Answer) (i : ℕ)
    → MayAnswer log act answer → active log i ≡ false → answer ≢ Number i
    → active (with_call log act answer) i ≡ false
inactive_by_call log act answer i may inactive other =
    call_keeps i (IsInactive i) (inactive_sent i) log act answer (items_no_block _ _ _ answer
    (λ fields end id is answers. ne_eqb id i (λ equal. other (answers ∙ ap Number equal)))
    (λ id fields end is answers.
    let writes : MayAnswer log (SendFields id fields end) Done = rw (is, answers) at may in
    ne_eqb id i (λ equal. both_ways _ inactive
    (subst (λ (j : ℕ). active log j ≡ true) equal (fields_active log id fields end writes)))))
    inactive

-- A stream that was reset isn't active.
reset_inactive : (role : Role) (i : ℕ) (received sent : List Item) (reported : List Event)
    → list_any (resets i) sent ≡ true → is_active role i received sent reported ≡ false
reset_inactive role i received sent reported reset =
    false_from_ne_true _ (λ alive.
    let parts = active_parts role i received sent reported alive in
    both_ways _ (lasts_parts i received sent parts.lasts).kept reset)

-- A refusal that is accepted resets the stream, or the connection fails.
refusal_resets : (log after : Log) (id code : ℕ)
    → AfterCall log (Refuse id code) Done after → after.failed ≡ None → active after id ≡ false
unfolding items_of resets
refusal_resets log after id code (was_refused refusal is adds) up = cc
refusal_resets log after id code (was_broken fault adds failed) up =
    none_some fault (sym up ∙ failed)
refusal_resets log after id code (was_accepted credit is_credit none is adds) up =
    let reset = alone (Reset id code) ∷ [] in
    let here : list_any (resets id) reset ≡ true = or_left (id == id) false (eq-eqb id id refl) in
    let there : list_any (resets id) ((credit ++ reset) ++ log.sent) ≡ true = list_any-append
    (resets id) (credit ++ reset) log.sent ∙ or_left _ (list_any (resets id) log.sent)
    (any_after (resets id) credit reset here) in
    active_added log after [] (credit ++ reset) [] id adds ∙ reset_inactive _ _ _ _ _ there

-- A refusal that is refused is of a stream that isn't active, where the connection is up.
no_stream_by : (b : Bool) (stream : StreamView) → not (is_some (when b stream)) ≡ true → b ≡ false
no_stream_by true stream is = absurd (both_ways false refl is)
no_stream_by false stream is = refl

refused_by : (failed : Option Code) (b : Bool) (refusal : Refusal) → failed ≡ None
    → first_of ((is_some failed, Closed) ∷ (b, NoSuchStream) ∷ []) ≡ Some refusal → b ≡ true
unfolding first_of
refused_by None true refusal up is = refl
refused_by None false refusal up is = cc
refused_by (Some code) b refusal up is = none_some code (sym up)

refused_inactive : (log : Log) (id code : ℕ) (refusal : Refusal) → log.failed ≡ None
    → refusal_of (log_view log) (Refuse id code) ≡ Some refusal → active log id ≡ false
unfolding conditions
refused_inactive log id code refusal up is =
    no_stream_by _ _ (and_parts (not (code == code_number InternalError)) _
    (refused_by log.failed _ refusal up is)).1

-- After a refusal the stream isn't active, unless the connection has failed.
pub inactive_by_refusal : (log : Log) (id code : ℕ) (answer : Answer)
    → MayAnswer log (Refuse id code) answer
    → (with_call log (Refuse id code) answer).failed ≡ None
    → active (with_call log (Refuse id code) answer) id ≡ false
unfolding with_call may_lack_memory
inactive_by_refusal log id code answer (accepts none same) up =
    let after : AfterCall log (Refuse id code) Done (with_call log (Refuse id code) Done) =
    call_after log (Refuse id code) Done (accepts none refl) in
    rw same (refusal_resets log (with_call log (Refuse id code) Done) id code after (rw same at up))
inactive_by_refusal log id code answer (refuses refusal condition same) up =
    rw same (refused_inactive log id code refusal (rw same at up) condition)
inactive_by_refusal log id code answer (lacks none may same) up = absurd (both_ways false refl may)
inactive_by_refusal log id code answer (fails none may same) up =
    none_some InternalError (sym (rw same at up))
