-- What a call and what taking octets leave of what was sent on a stream, and of the role.
use Rattle.h2_ends.proofs.Names
use Names.{◌≡◌, ℕ, List, [], ◌++◌, refl, ap, ◌∙◌, append-nil, Item, Role, Refusal, Act, Answer}
use Names.{Open, SendFields, SendData, Refused, Event, Log, with_call, TakeAnswer, MayTake}
use Names.{reports_unprocessed, ends_no_frame, ends_frame, meets_fault, Token, call_calls}
use Names.{tokens_of_call, tokens_sent, has_failed, runs_out_of_memory, HoldsRead}
use Rattle.h2_spec_log.specs.Verdicts.{Verdict, ConnectionFault, StreamFault, NoEvent, Reported}
use Rattle.h2_laws_machine.specs.Machines.{log_after}
use Rattle.h2_laws_pair.proofs.HeardCalls.{step_calls}
use Rattle.h2_laws_machine.specs.Machines as steps

module _ (i : ℕ) (log : Log) (act : Act) (answer : Answer) where
  -- After a call its tokens follow those that were sent before.
  pub call_tokens : tokens_sent i (with_call log act answer).calls ≡ tokens_sent i log.calls
      ++ tokens_of_call i act answer
  unfolding tokens_sent
  call_tokens = ap (tokens_sent i) (call_calls log act answer)

  -- A call without tokens leaves those that were sent.
  pub call_adds_none : tokens_of_call i act answer ≡ []
      → tokens_sent i (with_call log act answer).calls ≡ tokens_sent i log.calls
  call_adds_none none = call_tokens ∙ ap (λ (more : List Token). tokens_sent i log.calls ++ more)
      none ∙ append-nil (tokens_sent i log.calls)

-- A call that is refused has none.
pub refused_tokens : (i : ℕ) (act : Act) (refusal : Refusal)
    → tokens_of_call i act (Refused refusal) ≡ []
unfolding tokens_of_call
refused_tokens i (Open fields end) refusal = refl
refused_tokens i (SendFields id fields end) refusal = refl
refused_tokens i (SendData id octets end) refusal = refl
refused_tokens i act refusal = refl

-- Nor has one that sends no part of a message.
abbrev pub SendsNoPart : Act → Type 0
SendsNoPart (Open fields end) = ⊥
SendsNoPart (SendFields id fields end) = ⊥
SendsNoPart (SendData id octets end) = ⊥
SendsNoPart act = Unit {0}

pub no_part_tokens : (i : ℕ) (act : Act) (answer : Answer) → SendsNoPart act
    → tokens_of_call i act answer ≡ []
unfolding tokens_of_call
no_part_tokens i (Open fields end) answer none = absurd none
no_part_tokens i (SendFields id fields end) answer none = absurd none
no_part_tokens i (SendData id octets end) answer none = absurd none
no_part_tokens i act answer none = refl

module _ (log after : Log) (piece : List ℕ) (answer : TakeAnswer) where
  -- Taking octets is no call.
  pub take_calls : MayTake log piece answer after → after.calls ≡ log.calls
  unfolding log_after
  take_calls (has_failed code failed answers same) = ap (λ (new : Log). new.calls) same
  take_calls (reports_unprocessed up some answers same) = ap (λ (new : Log). new.calls) same
      ∙ step_calls log steps.reports_unprocessed (λ act said wrong. cc)
  take_calls (ends_no_frame takes unparsed part answers same) = ap (λ (new : Log). new.calls) same
      ∙ step_calls log (steps.uses_part piece unparsed) (λ act said wrong. cc)
  take_calls (ends_frame takes octets unused joined frame decoded framed sees same answers) =
      ap (λ (new : Log). new.calls) same
      ∙ step_calls log (steps.ends_frame octets frame decoded) (λ act said wrong. cc)
  take_calls (meets_fault takes octets unused joined fault at answers same) =
      ap (λ (new : Log). new.calls) same
      ∙ step_calls log (steps.meets_fault octets fault) (λ act said wrong. cc)
  take_calls (runs_out_of_memory up octets unused joined may answers same) =
      ap (λ (new : Log). new.calls) same
      ∙ step_calls log (steps.runs_out_of_memory octets) (λ act said wrong. cc)

-- The end has this role.
abbrev HasRole : Role → Role → List Item → List Item → List Event → Type 0
HasRole one role received sent reported = role ≡ one

-- Reading leaves the role.
role_by : (one : Role) (log : Log) (item : Item) (verdict : Verdict) → log.role ≡ one
    → HoldsRead (HasRole one) log item verdict
role_by one log item (ConnectionFault code) is = tt
role_by one log item (StreamFault code) is = is
role_by one log item NoEvent is = is
role_by one log item Reported is = is
