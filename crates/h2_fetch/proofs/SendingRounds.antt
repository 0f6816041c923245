-- What is sent over a link in rounds: credit and what waits of the request, and then all output.
use Rattle.h2_engines.proofs.Names
use Names.{◌≡◌, ◌≤◌, ℕ, ◌+◌, ◌-◌, ◌^◌, List, length, None, Result, Ok, Err, ◌∙◌, inl, inr, arith}
use Names.{◌⊎◌, refl, ap, Values, End, EndLog, EndRepresents, LinkError, EndsWriting}
use Names.{IsSameOfMessages, StallsWriting, Traffic, IsLinked, HasSentWaiting, SendsWaiting}
use Names.{WritesOver}
use Rattle.h2_engines.proofs.MachineWrites.{written_links}
use Rattle.h2_engines.proofs.ResponderEnds.{given_first, given_within, same_itself, same_twice}
use Rattle.h2_engines.proofs.ServeLinkLogs.{goes_links}
use Rattle.h2_fetch.specs.Sends.{AllowsCredit, Asking, HasAsked, HasReturned, SentOver}
use Rattle.h2_fetch.specs.Sends.{StopsSending}
use Rattle.h2_engines.specs.declared.sending.Credit.{Credit}
use Rattle.h2_engines.proofs.WithoutLinkSends.{sent_error, sent_same, sent_stays, sent_turns}
use Rattle.h2_fetch.proofs.RequestsStay.{sent_asks}
use Rattle.h2_fetch.proofs.Writing.{asked_written}
use Rattle.h2_link.specs.declared.error.LinkError.TheVariants as errors

-- What ends writing ends sending so.
pub stops_by : (now : Traffic) (end : EndLog) (error : LinkError) → EndsWriting error
    → StallsWriting {A = Unit {0}} now end (Err error)
    → StopsSending {A = Unit {0}} now end (Err error)
stops_by now end errors.Memory writing stalls = inr stalls
stops_by now end errors.NoProgress writing stalls = stalls
stops_by now end error writing stalls = tt

-- The link took all that the client has given out, in so many rounds, and the connection is up.
pub record IsSending (credit : Credit) (values : Values) (asking : Asking) (start now : Traffic)
    (before : EndLog) (new : End) (unused : List ℕ) (rounds : ℕ) : Type 0 where
  pub after : EndLog
  pub asks : HasAsked values asking after
  pub represents : EndRepresents values new after
  pub same : IsSameOfMessages before after
  pub linked : IsLinked start now after.log unused
  pub turns : rounds + length before.log.turns ≤ length after.log.turns
  pub up : after.log.failed ≡ None
  pub returned : (after ≡ before) ⊎ HasReturned credit before after

-- The same, and credit was returned and what waits was sent in this round.
pub record HasWaited (credit : Credit) (values : Values) (asking : Asking) (start now : Traffic)
    (before : EndLog) (new : End) (unused : List ℕ) (rounds : ℕ) : Type 0 where
  pub so : IsSending credit values asking start now before new unused rounds
  pub returned : HasReturned credit before so.after

-- What was returned stays so.
still_returned : {credit : Credit} {before one two : EndLog} → HasReturned credit before one
    → IsSameOfMessages one two → HasReturned credit before two
still_returned returned same =
    record {
      first = returned.first;
      result = returned.result;
      sent = returned.sent;
      on = same_twice returned.on same;
    }

-- The first round returns credit; the others don't undo it.
returns_first : {credit : Credit} {before one two : EndLog}
    {result : Result (Unit {0}) LinkError} → (one ≡ before) ⊎ HasReturned credit before one
    → HasSentWaiting credit one two result → HasReturned credit before two
returns_first {two = two} {result} (inl same) sent =
    record { first = two; result = result; sent = rw same at sent; on = same_itself two }
returns_first (inr returned) sent = still_returned returned (sent_same sent)

-- Whatever had happened at first, it is so now.
abbrev pub SendsFrom : Credit → (before now : Traffic) → (old new : End) → (rounds : ℕ) → Type 0
SendsFrom credit before now old new rounds =
    (values : Values) (asking : Asking) (start : Traffic) (end : EndLog) (unused : List ℕ)
    → EndRepresents values old end → HasAsked values asking end → AllowsCredit credit asking
    → IsLinked start before end.log unused → end.log.failed ≡ None
    → IsSending credit values asking start now end new unused rounds

-- Nothing was sent yet.
pub sends_first : (credit : Credit) (now : Traffic) (end : End)
    → SendsFrom credit now now end end 0
sends_first credit now old values asking start end unused is was allows linked up =
    record {
      after = end;
      asks = was;
      represents = is;
      same = same_itself end;
      linked = linked;
      turns = omega arith;
      up = up;
      returned = inl refl;
    }

module _ {values : Values} {asking : Asking} {start now : Traffic} {before : EndLog}
    {old : End} (new : End) {unused : List ℕ} {rounds : ℕ} (credit : Credit)
    (allows : AllowsCredit credit asking)
    (on : IsSending credit values asking start now before old unused rounds) where
  -- Credit is returned, and what waits is sent;
  pub waited : (result : Result (Unit {0}) LinkError) → SendsWaiting credit old new result
      → HasWaited credit values asking start now before new unused rounds
  waited result waits =
      let sent = waits values on.after on.represents in
      let stays = sent_stays sent.2 in
      let returned = returns_first on.returned sent.2 in
      record {
        so = record {
          after = sent.0;
          asks = sent_asks values asking on.asks allows sent.2;
          represents = sent.1;
          same = same_twice on.same (sent_same sent.2);
          linked = goes_links (given_within on.represents) stays.goes on.linked;
          turns = omega (arith, on.turns, sent_turns sent.2);
          up = stays.goes.failed ∙ on.up;
          returned = inr returned;
        };
        returned = returned;
      }

  -- or there is no memory for that.
  pub not_waited : (error : LinkError) → SendsWaiting credit old new (Err error)
      → SentOver credit values asking start now before new unused (Err error)
  not_waited error waits =
      let went = waited (Err error) waits in
      let then = went.so in
      let sent = waits values on.after on.represents in
      record {
        after = then.after;
        returned = went.returned;
        asks = then.asks;
        represents = then.represents;
        same = then.same;
        given = then.linked.given;
        taken = given_first start now then.after.log then.linked.taken;
        turns = tt;
        why = rw (sent_error sent.2) (inl (inl then.up));
      }

module _ {values : Values} {asking : Asking} {start middle : Traffic} (now : Traffic)
    {before : EndLog} {old : End} (new : End) {unused : List ℕ} {rounds : ℕ} {credit : Credit}
    (waited : HasWaited credit values asking start middle before old unused rounds) where
  -- All that waits is written,
  pub wrote_on : (done : Unit {0}) → WritesOver middle now old new (Ok done)
      → IsSending credit values asking start now before new unused (rounds + 1)
  wrote_on done writes =
      let on = waited.so in
      let wrote = asked_written writes values asking start on.after unused on.represents
      on.asks on.linked in
      record {
        after = wrote.after;
        asks = wrote.happened;
        represents = wrote.represents;
        same = same_twice on.same wrote.same;
        linked = written_links unused wrote.given wrote.taken;
        turns = omega (arith, on.turns, wrote.turns);
        up = wrote.same.failed ∙ on.up;
        returned = inr (still_returned waited.returned wrote.same);
      }

  -- with which all was sent,
  pub wrote_all : (done : Unit {0}) → WritesOver middle now old new (Ok done)
      → SentOver credit values asking start now before new unused (Ok done)
  wrote_all done writes =
      let on = waited.so in
      let wrote = asked_written writes values asking start on.after unused on.represents
      on.asks on.linked in
      record {
        after = wrote.after;
        asks = wrote.happened;
        represents = wrote.represents;
        same = same_twice on.same wrote.same;
        returned = still_returned waited.returned wrote.same;
        given = wrote.given;
        taken = wrote.taken;
        turns = omega (arith, on.turns, wrote.turns);
        why = tt;
      }

  -- or it can't be.
  pub not_written : (error : LinkError) → EndsWriting error
      → WritesOver middle now old new (Err error)
      → SentOver credit values asking start now before new unused (Err error)
  not_written error writing writes =
      let on = waited.so in
      let wrote = asked_written writes values asking start on.after unused on.represents
      on.asks on.linked in
      record {
        after = wrote.after;
        asks = wrote.happened;
        represents = wrote.represents;
        same = same_twice on.same wrote.same;
        returned = still_returned waited.returned wrote.same;
        given = wrote.given;
        taken = wrote.taken;
        turns = tt;
        why = stops_by now wrote.after error writing wrote.stalls;
      }

-- There were as many rounds as may be.
pub no_round : {values : Values} {asking : Asking} {start : Traffic} (now : Traffic)
    {before : EndLog} (new : End) {unused : List ℕ} {rounds : ℕ} {credit : Credit}
    → 2 ^ 64 - 1 ≤ rounds → IsSending credit values asking start now before new unused rounds
    → SentOver credit values asking start now before new unused (Err errors.NoProgress)
no_round {start = start} now {before} new all on =
    record {
      after = on.after;
      returned = elim on.returned [
        | inl same ↦
            let turns = ap (λ (end : EndLog). length end.log.turns) same in
            absurd (omega (arith, all, on.turns, turns))
        | inr returned ↦ returned
      ];
      asks = on.asks;
      represents = on.represents;
      same = on.same;
      given = on.linked.given;
      taken = given_first start now on.after.log on.linked.taken;
      turns = tt;
      why = inr (omega (arith, all, on.turns));
    }
