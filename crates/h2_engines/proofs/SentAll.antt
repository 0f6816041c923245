-- Once all was given back and sent, and the output isn't full, nothing is owed and nothing more can
-- be sent; and it stays so while output is put out.
use Rattle.h2_engines.proofs.Names
use Names.{◌≡◌, ◌≤◌, ◌<◌, ℕ, false, List, [], ◌∷◌, Option, None, Ok, sym, ap, subst, inl, both_ways}
use Names.{drop, inr, refl, arith, length, full_output, Refusal, Values, Answer, PutOut, MayAnswer}
use Names.{Log, Result, EndRefusal, EndLog, end_with_log, Pumps, pumps_no_more, pumps_trailers}
use Names.{trailers_refused, releases_one, releases_refused, and_parts, Role, active, owed}
use Names.{with_call, Token, HasSentAll, HasSentWaiting, output, waiting, MayPump, MayReleaseAll}
use Names.{releases_no_more, length-append, no_room_by_call, tokens_said, call_adds_none}
use Names.{pumps_data, data_refused, Releases, IsStuckOn, cases_Bool, and_from, OctetToken}
use Names.{EndToken, tokens_of_call}
use Rattle.h2_laws_pair.specs.Tokens.{FieldsToken}
use Rattle.h2_spec_log.specs.Histories.{IsLog, called_one}
use Rattle.h2_engines.specs.Sending.{sends_more, sends_nothing}
use Rattle.h2_engines.specs.declared.sending.Credit.TheVariants.{All}
use Rattle.h2_laws_end.specs.Over.{has_room}
use Rattle.h2_laws_end.proofs.ActivityOwed.{none_owed_by_call}
use Rattle.h2_laws_end.proofs.OverCalls.{items_no_block}
use Rattle.h2_laws_end.proofs.OverLists.{IsInactive, inactive_sent}
use Rattle.h2_laws_end.proofs.OverSteps.{call_keeps}
use Rattle.h2_laws_pair.specs.Quiet.{NoneCouldGo}
use Rattle.h2_engines.proofs.ServeLinkLogs.{StaysOn, pumped_stays}

-- Output that is put out gives nothing room,
put_goes : (log : Log) (count : ℕ) (answer : Answer) (i : ℕ) (tokens : List Token)
    → NoneCouldGo log i tokens → NoneCouldGo (with_call log (PutOut count) answer) i tokens
put_goes log count answer i [] never = tt
put_goes log count answer i (OctetToken octet ∷ tokens) never =
    λ could. elim (cases_Bool (has_room log i)) [
      | inl room ↦ never (and_parts _ _ room)
      | inr none ↦ both_ways _ (no_room_by_call _ _ _ i none) (and_from _ _ could.0 could.1)
    ]
put_goes log count answer i (FieldsToken list end ∷ tokens) never = never
put_goes log count answer i (EndToken ∷ tokens) never = never

-- and makes no stream active.
put_closed : (log : Log) (count : ℕ) (answer : Answer) (i : ℕ) → active log i ≡ false
    → active (with_call log (PutOut count) answer) i ≡ false
put_closed log count answer i over =
    call_keeps i (IsInactive i) (inactive_sent i) log (PutOut count) answer (items_no_block _ _ _ _
    (λ fields ends id wrong answers. cc) (λ id fields ends wrong answers. cc)) over

put_stuck : (end : EndLog) (count : ℕ) (answer : Answer) (i : ℕ) → IsStuckOn end i
    → IsStuckOn (end_with_log end (with_call end.log (PutOut count) answer)) i
unfolding tokens_of_call
put_stuck end count answer i stuck =
    λ alive. elim (cases_Bool (active end.log i)) [
      | inl was ↦ subst (λ (tokens : List Token). NoneCouldGo
          (with_call end.log (PutOut count) answer) i (drop (length tokens) (tokens_said end i)))
          (sym (call_adds_none _ _ _ _ refl)) (put_goes _ _ _ _ _ (stuck was))
      | inr over ↦ absurd (both_ways _ (put_closed _ _ _ _ over) alive)
    ]

module _ {role : Role} {values : Values} where
  -- A release leaves a log that comes about.
  released_log : {before : EndLog} {refused : Option Refusal} {after : EndLog}
      → Releases before refused after → IsLog role values before.log → IsLog role values after.log
  released_log (releases_no_more end) is = is
  released_log (releases_one end id refused after next typed may rest) is =
      released_log rest (called_one is _ _ typed may)
  released_log (releases_refused end id refusal next typed may) is = called_one is _ _ typed may

  -- Where nothing is owed on a stream, nothing is after a pump.
  pumped_owes : {before : EndLog} {count : ℕ} {refused : Option Refusal} {after : EndLog} (i : ℕ)
      → Pumps before count refused after → IsLog role values before.log → owed before.log i ≡ 0
      → owed after.log i ≡ 0
  pumped_owes i (pumps_no_more end) is none = none
  pumped_owes i
      (pumps_data end id sent more octets ends refused after next typed waits may rest) is none =
      pumped_owes i rest (called_one is _ _ typed may)
      (none_owed_by_call role values end.log _ _ i is may none)
  pumped_owes i
      (pumps_trailers end id more list refused after next typed wait may rest) is none =
      pumped_owes i rest (called_one is _ _ typed may)
      (none_owed_by_call role values end.log _ _ i is may none)
  pumped_owes i (data_refused end id octets ends refusal next typed waits may) is none =
      none_owed_by_call role values end.log _ _ i is may none
  pumped_owes i (trailers_refused end id list refusal next typed wait may) is none =
      none_owed_by_call role values end.log _ _ i is may none

  -- Output that is put out makes nothing owed.
  pub put_sent : (end : EndLog) (count : ℕ) (answer : Answer) → IsLog role values end.log
      → MayAnswer end.log (PutOut count) answer → HasSentAll end
      → HasSentAll (end_with_log end (with_call end.log (PutOut count) answer))
  put_sent end count answer is may sent =
      record {
        none_owed = λ i.
            none_owed_by_call role values end.log (PutOut count) answer i is may (sent.none_owed i);
        stuck = λ i. put_stuck end count answer i (sent.stuck i);
      }

-- No less output waits after a pump.
waits_more : {before after : EndLog} → StaysOn before after
    → waiting before.log ≤ waiting after.log
unfolding waiting output
waits_more {before} stays =
    let writes = stays.goes.writes in
    omega (
      arith,
      ap (λ (octets : List ℕ). length octets) writes.written,
      length-append before.log.written writes.octets,
      writes.given,
    )

-- All was sent.
pub all_sent : {role : Role} {values : Values} {before after : EndLog} {done : Unit {0}}
    → HasSentWaiting All before after (Ok done) → before.log.failed ≡ None
    → IsLog role values before.log → waiting after.log < full_output → HasSentAll after
unfolding MayReleaseAll MayPump
all_sent (sends_nothing failed same) up is few = absurd (failed up)
all_sent {before} {after} (sends_more middle released sent running may (inl all) pumps) up is few =
    let gave = subst (λ (one : Result (Unit {0}) EndRefusal). MayReleaseAll before one middle)
    all may in
    elim pumps.1 [
      | inl full ↦ absurd (omega (arith, few, full.1))
      | inr stuck ↦ record {
        none_owed = λ i. pumped_owes i stuck.0 (released_log gave.1 is) (gave.2 i);
        stuck = stuck.1;
      }
    ]
all_sent {before} {after} (sends_more middle released sent running may (inr full) pumps) up is few =
    let gave = subst (λ (one : Result (Unit {0}) EndRefusal). MayReleaseAll before one middle)
    full may in
    let more = waits_more (pumped_stays middle (Ok sent) after pumps) in
    absurd (omega (arith, few, gave.2, more))
