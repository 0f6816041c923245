-- After each call an end represents its log.
use Rattle.h2_laws_machine.proofs.Names
use Names.{◌≡◌, ℕ, ◌%◌, ◌≤◌, ◌<◌, Bool, true, if◌then◌else◌, List, None, refl, sym, ap, subst, ◌∙◌}
use Names.{Field, both_ways, or_parts, log_view, one_ping, total, greatest_block, one_pong}
use Names.{reported_total, Values, Act, Answer, IsTypedAct, Open, SendFields, SendData, Release}
use Names.{ResetStream, Refuse, SendPing, SendGoAway, PutOut, ChangeSettings, Widen, Number}
use Names.{OutOfMemory}
use Names.{Refused, is_server, settings_count, Log, acked, active, last_processed, next_number}
use Names.{conditions, refusal_of, answer_of, may_fail_for_memory, MayAnswer, accepts, refuses}
use Names.{lacks, fails, with_call, End, after_call, Represents, Role, Client, Server, Refusal}
use Names.{end_after, log_represents, none_since, stream_is_active, Memory, none_holds, Fail}
use Rattle.h2_laws_log.proofs.AllowedHistories.{wrote_settings}
use Rattle.h2_laws_log.proofs.InvariantSends.{client_since}
use Rattle.h2_laws_log.proofs.CallConditions.{first_none}
use Rattle.h2_laws_log.proofs.LogViewLemmas.{open_out}
use Rattle.h2_laws_log.proofs.StreamNumbers.{next_odd}
use Rattle.h2_laws_machine.proofs.CallFailing.{refused_represents, out_of_memory_represents}
use Rattle.h2_laws_machine.proofs.CallFailing.{refuse_represents, end_represents}
use Rattle.h2_laws_machine.proofs.CallOpen.{IsClear, open_up}
use Rattle.h2_laws_machine.proofs.CallRefusals.{refusal_same}
use Rattle.h2_laws_machine.proofs.CallRelease.{release_up}
use Rattle.h2_laws_machine.proofs.CallReset.{reset_call_up}
use Rattle.h2_laws_machine.proofs.CallSend.{fields_up, data_up}
use Rattle.h2_laws_machine.proofs.CallWithoutStream.{ping_up, goaway_up, settings_up}
use Rattle.h2_laws_machine.proofs.CallWithoutStream.{put_out_represents, widen_up}
use Rattle.h2_laws_machine.proofs.LogCore.{core}
use Rattle.h2_laws_machine.proofs.RepresentedSteps.{Up, up_of, represents_after}

-- What a log that hasn't failed has, besides.
pub record IsSound (log : Log) : Type 0 where
  pub acks : acked log ≤ settings_count log.sent
  pub pongs : reported_total one_pong log.reported ≤ total one_ping log.sent
  pub processed : is_server log.role ≡ true → (i : ℕ) → active log i ≡ true
      → i ≤ last_processed log
  pub clear : log.role ≡ Client → (i : ℕ) → greatest_block log.sent < i → IsClear (core log) i

-- A log that refuses no call, other than one that puts output out, hasn't failed.
pub up_since : (log : Log) (act : Act) → ((count : ℕ) → act ≡ PutOut count → ⊥)
    → refusal_of (log_view log) act ≡ None → log.failed ≡ None
unfolding conditions
up_since log (PutOut count) other none = absurd (other count refl)
up_since log act other none = none_since log.failed (first_none _ _ _ none).0

-- the next number of a client
next_of_client : (role : Role) (n : ℕ) → role ≡ Client → (if is_server role then 0 else n) ≡ n
next_of_client Client n is = refl
next_of_client Server n is = cc

-- A stream is opened by a client, with a number that has nothing yet.
opened_up : (values : Values) (e : End) (log : Log) (fields : List Field) (end : Bool)
    → Represents values e log
    → log.role ≡ Client → IsSound log → Up e log
    → Up (after_call e (Open fields end))
    (with_call log (Open fields end) (Number (log_view log).next_number))
opened_up values e log fields end represents client sound up =
    let written = (log_represents e.role values log represents.came).with_sent in
    let next = next_odd log written in
    let same : (log_view log).next_number ≡ next_number log = next_of_client _ _ client in
    let odd : (log_view log).next_number % 2 ≡ 1 = subst (λ (n : ℕ). n % 2 ≡ 1) (sym same) next.0 in
    let above : greatest_block log.sent < (log_view log).next_number = subst
    (λ (n : ℕ). greatest_block log.sent < n) (sym same) next.1 in
    open_up e log fields end client odd above (sound.clear client (log_view log).next_number above)
    up

-- a call that neither refuses a stream nor ends the connection
abbrev LeavesConnection : Act → Type 0
LeavesConnection (Refuse id code) = ⊥
LeavesConnection (Fail code) = ⊥
LeavesConnection act = Unit {0}

-- After such a call that is accepted, and doesn't put out output, an end that is up represents its
-- log.
call_up : (values : Values) (e : End) (log : Log) (act : Act) → Represents values e log
    → refusal_of (log_view log) act ≡ None → IsSound log → ((count : ℕ) → act ≡ PutOut count → ⊥)
    → LeavesConnection act → Up e log
    → Up (after_call e act) (with_call log act (answer_of (log_view log) act))
unfolding conditions
call_up values e log (Open fields end) represents none sound no_put leaves up =
    let holds = none_holds _ none in
    let server = or_parts (is_server log.role) _ holds.1.1.0 in
    opened_up values e log fields end represents (client_since log.role server.0) sound up
call_up values e log (SendFields id fields end) represents none sound no_put leaves up =
    let holds = none_holds _ none in
    let active = stream_is_active log id holds.1.0 in
    fields_up e log id fields end active (open_out log id active holds.1.1.0) up
call_up values e log (SendData id octets end) represents none sound no_put leaves up =
    let holds = none_holds _ none in
    let active = stream_is_active log id holds.1.0 in
    data_up e log id octets end active (open_out log id active holds.1.1.0) up
call_up values e log (Release id count) represents none sound no_put leaves up =
    let holds = none_holds _ none in
    release_up e log id count (stream_is_active log id holds.1.0) up
call_up values e log (ResetStream id code) represents none sound no_put leaves up =
    let holds = none_holds _ none in
    reset_call_up e log id code (stream_is_active log id holds.1.0) up
call_up values e log (Refuse id code) represents none sound no_put leaves up = absurd leaves
call_up values e log (Fail code) represents none sound no_put leaves up = absurd leaves
call_up values e log (SendPing octets) represents none sound no_put leaves up =
    ping_up e log octets sound.pongs up
call_up values e log SendGoAway represents none sound no_put leaves up =
    goaway_up e log sound.processed up
call_up values e log (PutOut count) represents none sound no_put leaves up =
    absurd (no_put count refl)
call_up values e log (ChangeSettings others) represents none sound no_put leaves up =
    let written = (log_represents e.role values log represents.came).with_sent in
    settings_up e log others sound.acks (wrote_settings log.role log.received log.sent written) up
call_up values e log (Widen count) represents none sound no_put leaves up =
    widen_up e log count up

-- the answer of the rules to a call
abbrev answer_by : Log → Act → Answer
answer_by log act = answer_of (log_view log) act

-- After such a call an end represents its log.
plain_law : (values : Values) (e : End) (log : Log) (act : Act) → Represents values e log
    → IsTypedAct act
    → MayAnswer log act (answer_by log act) → refusal_of (log_view log) act ≡ None
    → (log.failed ≡ None → IsSound log)
    → ((count : ℕ) → act ≡ PutOut count → ⊥) → LeavesConnection act
    → Represents values (after_call e act) (with_call log act (answer_by log act))
plain_law values e log act represents typed may none sound no_put leaves =
    let log_up = up_since _ _ no_put none in
    let up = up_of _ _ _ represents (represents.failed ∙ log_up) in
    represents_after _ _ _ _ _ represents typed may (refusal_same _ _ _ _ represents ∙ none)
    (call_up _ _ _ _ represents none (sound log_up) no_put leaves up)

-- After each call that is accepted it does.
accepted_law : (values : Values) (e : End) (log : Log) (act : Act) → Represents values e log
    → IsTypedAct act
    → MayAnswer log act (answer_by log act) → refusal_of (log_view log) act ≡ None
    → (log.failed ≡ None → IsSound log)
    → Represents values (end_after e act (answer_by log act))
    (with_call log act (answer_by log act))
unfolding end_after
accepted_law values e log (Refuse id code) represents typed may none sound =
    let log_up = up_since log (Refuse id code) (λ count same. cc) none in
    refuse_represents values e log id code represents typed may
    (refusal_same values e log (Refuse id code) represents ∙ none) none (represents.failed ∙ log_up)
accepted_law values e log (Fail code) represents typed may none sound =
    end_represents values e log code represents typed may
    (represents.failed ∙ up_since log (Fail code) (λ count same. cc) none)
accepted_law values e log (PutOut count) represents typed may none sound = put_out_represents values
    e log count represents typed may
accepted_law values e log act represents typed may none sound =
    plain_law _ _ _ act represents typed may none sound (λ count same. cc) tt

module _ (values : Values) (e : End) (log : Log) (act : Act) where
  -- After a call that is refused it does.
  refused_law : (refusal : Refusal) → Represents values e log → IsTypedAct act
      → MayAnswer log act (Refused refusal)
      → Represents values (end_after e act (Refused refusal)) (with_call log act (Refused refusal))
  unfolding end_after
  refused_law refusal represents typed may = refused_represents values e log act
      refusal represents typed may

  -- After a call in which an allocation was refused, and by which the connection fails, it does.
  failing_law : Represents values e log → IsTypedAct act → MayAnswer log act OutOfMemory
      → refusal_of (log_view log) act ≡ None → may_fail_for_memory (log_view log) act ≡ true
      → Represents values (end_after e act OutOfMemory) (with_call log act OutOfMemory)
  unfolding end_after may_fail_for_memory
  failing_law represents typed may none fails_so =
      let log_up = up_since log act (λ count same. both_ways _
      (ap (may_fail_for_memory (log_view log)) same) fails_so) none in
      out_of_memory_represents values e log act represents typed may (represents.failed ∙ log_up)

  -- After each call an end represents its log, if that is sound.
  pub call_law : (answer : Answer) → (log.failed ≡ None → IsSound log) → Represents values e log
      → IsTypedAct act → MayAnswer log act answer
      → Represents values (end_after e act answer) (with_call log act answer)
  call_law answer sound represents typed (accepts none is) =
      subst (λ (a : Answer). Represents values (end_after e act a) (with_call log act a)) (sym is)
      (accepted_law values e log act represents typed (accepts none refl) none sound)
  call_law answer sound represents typed (refuses refusal why is) =
      subst (λ (a : Answer). Represents values (end_after e act a) (with_call log act a)) (sym is)
      (refused_law refusal represents typed (refuses refusal why refl))
  call_law answer sound represents typed (lacks none may is) =
      subst (λ (a : Answer). Represents values (end_after e act a) (with_call log act a)) (sym is)
      (refused_law Memory represents typed (lacks none may refl))
  call_law answer sound represents typed (fails none may is) =
      subst (λ (a : Answer). Represents values (end_after e act a) (with_call log act a)) (sym is)
      (failing_law represents typed (fails none may refl) none may)
