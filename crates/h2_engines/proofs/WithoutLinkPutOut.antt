-- What an end without a link puts out, and that a server and a client go on then.
use Rattle.h2_engines.proofs.Names
use Names.{◌≡◌, ◌<◌, ℕ, ◌^◌, List, ◌++◌, Result, Ok, Err, refl, ap, ◌∙◌, Refusal, Values, PutOut}
use Names.{Count, Refused, Log, SentMessage, given_out, EndLog, end_with_log, EndAnswers, LinkError}
use Names.{Fetcher, Next, Responder, error_after, IsSameOfMessages, SendsWaiting, PutsOutNext}
use Names.{refused_failed, IsTypedAct, with_call, KeepsNext, Conn, MessageState, Serving, Fetching}
use Names.{MachineState, Course, Keeps, GivesOut, PutsWaiting}
use Rattle.h2_engines.specs.WithoutLink.{PutOutSo, ServerPutsOut, ClientPutsOut}
use Rattle.h2_engines.proofs.MachineLaws.{puts_at, keeps_same}
use Rattle.h2_engines.proofs.MachineViews.{server_held, client_held, no_message, begun}
use Rattle.h2_engines.proofs.ResponderEnds.{same_twice, same_by_call, given_within}
use Rattle.h2_engines.proofs.ResponderOutput.{put_out_failed}
use Rattle.h2_engines.proofs.ResponderStalls.{put_out_ends}
use Rattle.h2_engines.proofs.WithoutLinkOutput.{puts_out}
use Rattle.h2_engines.proofs.WithoutLinkSends.{sent_same, sent_given, sent_error, sends_at}
use Rattle.h2_engines.specs.declared.request.Next.TheVariants as nexts
use Rattle.h2_engines.specs.declared.sending.Credit.TheVariants.{All}

-- The same octets had been given out before.
puts_after : (one : Log) {two three : Log} {count given : ℕ} {before now : List ℕ}
    → given_out two ≡ given_out one → PutsOutNext two three count given before now
    → PutsOutNext one three count given before now
puts_after one same puts =
    record {
      octets = puts.octets;
      appended = puts.appended;
      next = puts.next ∙ ap (λ (octets : List ℕ). octets ++ puts.octets) same;
      counted = puts.counted;
      within = puts.within;
      all = puts.all;
    }

-- A machine has put octets out;
pub machine_put : (old middle new : MachineState) (count given : ℕ) (before now : List ℕ)
    (done : Unit {0}) → count < 2 ^ 64 → SendsWaiting All old.end middle.end (Ok done)
    → EndAnswers middle.end (PutOut count) (Count given) new.end
    → GivesOut middle.end.conn count given before now
    → PutsWaiting old new count before now (Ok given)
unfolding IsTypedAct PutOutSo
machine_put old middle new count given before now done typed sends answers gives course end is was =
    let sent = sends course.values end is in
    let call = answers course.values sent.0 sent.1 in
    let after = end_with_log sent.0 (with_call sent.0.log (PutOut count) (Count given)) in
    let same = same_by_call _ _ (Count given) (put_out_failed sent.0.log count given) in
    record {
      after = after;
      happened = puts_at course old.kept sent.0 count (Count given)
          (sends_at course old.kept was sent.2) typed call.0;
      represents = call.1;
      same = same_twice (sent_same sent.2) same;
      so = (
        (sent.0, sent.2, same),
        puts_after end.log (sent_given (given_within is) sent.2) (puts_out before now
            (given_within sent.1) call.0 (gives course.values sent.0.log sent.1.streams.conn)),
      );
    }

-- or that is refused, when out of memory;
refused_given : (log : Log) (count : ℕ) (refusal : Refusal)
    → given_out (with_call log (PutOut count) (Refused refusal)) ≡ given_out log
unfolding with_call
refused_given log count refusal = refl

pub machine_refused : (old middle new : MachineState) (count : ℕ) (refusal : Refusal)
    {before now : List ℕ} (done : Unit {0}) {error : LinkError} → count < 2 ^ 64
    → SendsWaiting All old.end middle.end (Ok done)
    → EndAnswers middle.end (PutOut count) (Refused refusal) new.end
    → error ≡ error_after (Conn refusal) → now ≡ before
    → PutsWaiting old new count before now (Err error)
unfolding IsTypedAct PutOutSo
machine_refused old middle new count refusal done typed sends answers why nothing course end is was
    =
    let sent = sends course.values end is in
    let call = answers course.values sent.0 sent.1 in
    let after = end_with_log sent.0 (with_call sent.0.log (PutOut count) (Refused refusal)) in
    record {
      after = after;
      happened = puts_at course old.kept sent.0 count (Refused refusal)
          (sends_at course old.kept was sent.2) typed call.0;
      represents = call.1;
      same = same_twice (sent_same sent.2) (same_by_call sent.0 (PutOut count) (Refused refusal)
          (refused_failed sent.0.log (PutOut count) refusal));
      so = (
        put_out_ends call.0 why,
        nothing,
        refused_given sent.0.log count refusal ∙ sent_given (given_within is) sent.2,
      );
    }

-- or what waits can't be sent.
pub machine_unsent : (old new : MachineState) (count : ℕ) (before now : List ℕ) (error : LinkError)
    → SendsWaiting All old.end new.end (Err error) → now ≡ before
    → PutsWaiting old new count before now (Err error)
unfolding PutOutSo
machine_unsent old new count before now error sends nothing course end is was =
    let sent = sends course.values end is in
    record {
      after = sent.0;
      happened = sends_at course old.kept was sent.2;
      represents = sent.1;
      same = sent_same sent.2;
      so = (
        sent_error sent.2,
        nothing,
        sent_given (given_within is) sent.2,
      );
    }

-- It goes on then.
goes_as : (course : Course) {old new : MessageState} {before after : EndLog} (next : Next)
    → new ≡ old → IsSameOfMessages before after → Keeps course.message old before next
    → Keeps course.message new after next
goes_as course {old} {before} {after} next kept same keeps =
    rw kept (keeps_same course.message old before after next same keeps)

-- what is driven without a link
abbrev pub unlinked : Values → SentMessage → Course
unlinked values message = record { values = values; message = message; start = begun }

-- A server has put octets out, and goes on,
pub server_has : (old new : Responder) (count : ℕ) (before now : List ℕ)
    (result : Result ℕ LinkError)
    → Serving new.requests new.answered ≡ Serving old.requests old.answered
    → PutsWaiting (server_held old) (server_held new) count before now result
    → ServerPutsOut old new count before now result
unfolding Keeps KeepsNext
server_has old new count before now result kept puts values end is was =
    let course = unlinked values no_message in
    let put = puts course end is was in
    record {
      after = put.after;
      responding = put.happened;
      represents = put.represents;
      same = put.same;
      so = put.so;
      goes_on = λ serving.
          let keeps = goes_as course nexts.Again kept put.same (serving.keeps, serving.count) in
          record {
            responding = put.happened;
            represents = put.represents;
            up = put.same.failed ∙ serving.up;
            keeps = keeps.0;
            count = keeps.1;
          };
    }

-- and so has a client.
pub client_has : (old new : Fetcher) (count : ℕ) (before now : List ℕ) (result : Result ℕ LinkError)
    → Fetching new.id new.coming new.whole ≡ Fetching old.id old.coming old.whole
    → PutsWaiting (client_held old) (client_held new) count before now result
    → ClientPutsOut old new count before now result
unfolding Keeps
client_has old new count before now result kept puts values message end is was =
    let course = unlinked values message in
    let put = puts course end is was in
    let goes = λ (next : Next). goes_as course next kept put.same in
    record {
      after = put.after;
      fetching = put.happened;
      represents = put.represents;
      same = put.same;
      so = put.so;
      goes_on = λ way.
          let keeps = goes nexts.Again (way.accepted, way.come, way.unfinished) in
          record {
            fetching = put.happened;
            represents = put.represents;
            accepted = keeps.0;
            up = put.same.failed ∙ way.up;
            come = keeps.1;
            unfinished = keeps.2;
          };
      fetched = λ whole.
          let keeps = goes nexts.Whole (whole.accepted, whole.response, whole.noted) in
          record {
            fetching = put.happened;
            represents = put.represents;
            accepted = keeps.0;
            response = keeps.1;
            noted = keeps.2;
          };
    }
