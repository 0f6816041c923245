-- What a request that is refused leaves of a client.
use Rattle.h2_engines.proofs.Names
use Names.{Err, refl, inl, inr, Act, Refused, Refusal, EndRefusal, EndLog, SentMessage, MayAsk}
use Names.{MayRequest, Open, SendFields, end_with_log, with_call}
use Rattle.h2_ends.specs.EndCalls.{IsHeadCall, IsUnchanged}
use Rattle.h2_engines.proofs.LinkInvariants.{CallsKeep, sends_quietly}
use Rattle.h2_engines.proofs.ServeLinkLogs.{StaysOn, call_goes, stays_none, stays_twice}
use Rattle.h2_engines.proofs.TakeMessages.{keeps_by_call}
use Rattle.h2_ends.specs.declared.refusal.EndRefusal.TheVariants as refusals

-- What each call that sends a part of a message keeps of a client, a head that is refused does,
module _ (P : EndLog → Type 0) (keep : CallsKeep P) (before : EndLog) where
  head_keeps : (act : Act) (refusal : Refusal) → IsHeadCall act → P before
      → P (end_with_log before (with_call before.log act (Refused refusal)))
  head_keeps (Open fields end) refusal head holds =
      keep before (Open fields end) (Refused refusal) tt holds
  head_keeps (SendFields id fields end) refusal head holds =
      keep before (SendFields id fields end) (Refused refusal) tt holds
  head_keeps act refusal head holds = absurd head

  -- and so does a request that is refused;
  pub refused_keeps : (message : SentMessage) (refusal : EndRefusal) (after : EndLog)
      → MayRequest before message (Err refusal) after → P before → P after
  unfolding MayAsk IsUnchanged
  refused_keeps message (refusals.BadMessage rule) after may holds = rw may.1 holds
  refused_keeps message (refusals.Conn refusal) after may holds = elim may.2 [
    | inl same ↦ rw same holds
    | inr called ↦ rw called.5 (head_keeps called.0 called.1 called.3 holds)
  ]
  refused_keeps message other after may holds = absurd may

-- so nothing of a message has happened.
pub refused_stays : (before after : EndLog) (message : SentMessage) (refusal : EndRefusal)
    → MayRequest before message (Err refusal) after → StaysOn before after
refused_stays before after message refusal may =
    refused_keeps (StaysOn before) (λ end act answer sends stays. stays_twice stays (record {
      goes = call_goes end.log act answer (sends_quietly act answer sends);
      accepted = refl;
      handed = refl;
      calls = keeps_by_call end.log act answer;
    })) before message refusal after may (stays_none before)
