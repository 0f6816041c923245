-- What each call of a server's connection and each take of octets keeps, whatever was accepted,
-- the steps of a server with its handler keep.
use Rattle.h2_engines.proofs.Names
use Names.{true, false}
use Names.{ℕ, Bool, List, Option, Ok, Err, Result, inl, inr, Act, Answer}
use Names.{SendData, SendFields, ResetStream, PutOut, Count, Done, Refused, Log, EndLog, Handed}
use Names.{EndAnswer, EndMayTake, EndRefusal, MayReply, Malformed, Said, with_call, take}
use Names.{MayAnswer, OutOfMemory, length}
use Rattle.std.specs.Global.{Global}
use Rattle.std.specs.Prelude.{Vec}
use Rattle.hpack.specs.declared.types.field.Field.{Field}
use Rattle.h2_ends.specs.EndCalls.{IsHeadCall, IsUnchanged, MaySendBody, MaySendTrailers}
use Rattle.h2_ends.specs.Passes.{Halt, Shares, PassesOver, Passes, MayPumpSome, shares_octets}
use Rattle.h2_ends.specs.Passes.{shares_some, share_is_cut, shares_rest, shares_trailers}
use Rattle.h2_ends.specs.Passes.{octets_refused, list_refused, passes_no_more, passes_on}
use Rattle.h2_ends.specs.Passes.{passes_halt, passes_part, passes_round, share_act}
use Rattle.h2_ends.specs.declared.refusal.EndRefusal.TheVariants as refusals
use Rattle.h2_spec_log.specs.declared.refusal.Refusal.TheVariants as reasons
use Rattle.h2_frame.specs.Codes.{code_number}
use Rattle.h2_engines.proofs.LinkInvariants.{CallsKeep, SendsOrReleases, released_keeps}
use Rattle.h2_server.specs.declared.exchange.Stage.{Stage}
use Rattle.h2_server.specs.declared.exchange.Stage.TheVariants as stages
use Rattle.h2_server.specs.declared.handler.HandlerFault.{HandlerFault}
use Rattle.h2_server.specs.declared.handler.Part.{Part}
use Rattle.h2_server.specs.declared.handler.Part.TheVariants as parts
use Rattle.h2_server.specs.declared.stop.Stop.{Stop}
use Rattle.h2_server.specs.Exchanges.{Handling, Relations}
use Rattle.h2_server.specs.Giving.{GivesHead, GivesStageSo}
use Rattle.h2_server.specs.Steps.{HandledStep, IsOwnCall, SendsPart, Steps}
use Rattle.h2_server.specs.Steps as steps

-- A call that puts output out may have this answer.
abbrev pub PutsSo : Log → Act → Answer → Type 0
PutsSo log (PutOut count) answer = MayAnswer log (PutOut count) answer
PutsSo log act answer = Unit {0}

-- A call that sends, releases, or is the connection's own, puts none out.
sends_puts : (log : Log) (act : Act) (answer : Answer) → SendsOrReleases act answer
    → PutsSo log act answer
sends_puts log act OutOfMemory sends = absurd sends
sends_puts log (PutOut count) answer sends = absurd sends
sends_puts log act answer sends = tt

head_puts : (log : Log) (act : Act) (answer : Answer) → IsHeadCall act → PutsSo log act answer
head_puts log (PutOut count) answer head = absurd head
head_puts log act answer head = tt

own_puts : (log : Log) (act : Act) (answer : Answer) → IsOwnCall act → PutsSo log act answer
own_puts log (PutOut count) answer own = absurd own
own_puts log act answer own = tt

-- Each call keeps this of a log and of what was handed out,
abbrev pub CallsKeepLog : (Log → List Handed → Type 0) → Type 0
CallsKeepLog P =
    (log : Log) (handed : List Handed) (act : Act) (answer : Answer) → PutsSo log act answer
    → P log handed → P (with_call log act answer) handed

-- and so does each call of `take`.
abbrev pub TakesKeepLog : (Log → List Handed → Type 0) → Type 0
TakesKeepLog P =
    (before : EndLog) (piece : List ℕ) (answer : EndAnswer) (after : EndLog)
    → EndMayTake before piece answer after → P before.log before.handed
    → P after.log after.handed

module _ (P : Log → List Handed → Type 0) (call : CallsKeepLog P) (take_one : TakesKeepLog P)
  where
    -- what is kept, of an end
    abbrev At : EndLog → Type 0
    At end = P end.log end.handed

    calls_keep : CallsKeep At
    calls_keep end act answer sends holds =
        call end.log end.handed act answer (sends_puts end.log act answer sends) holds

    -- A share and a pass are calls,
    share_keeps : {most id : ℕ} {before : EndLog} {count : ℕ} {halt : Option Halt}
        {after : EndLog} → Shares most id before count halt after → At before → At after
    share_keeps {most} {id} (shares_octets end octets ends sent typed waits may all more) holds =
        call end.log end.handed (share_act most id octets ends) (Count sent) tt holds
    share_keeps {most} {id} (shares_some end octets ends sent typed waits may fewer over) holds =
        call end.log end.handed (share_act most id octets ends) (Count sent) tt holds
    share_keeps {most} {id} (share_is_cut end octets ends sent typed waits may fewer over) holds =
        call end.log end.handed (share_act most id octets ends) (Count sent) tt holds
    share_keeps {most} {id} (shares_rest end octets halt after typed waits may few rest) holds =
        share_keeps rest
        (call end.log end.handed (share_act most id octets false) (Count (length octets)) tt holds)
    share_keeps {most} {id} (shares_trailers end list typed wait may) holds =
        call end.log end.handed (SendFields id list true) Done tt holds
    share_keeps {most} {id} (octets_refused end octets ends refusal typed waits may) holds =
        call end.log end.handed (share_act most id octets ends) (Refused refusal) tt holds
    share_keeps {most} {id} (list_refused end list refusal typed wait may) holds =
        call end.log end.handed (SendFields id list true) (Refused refusal) tt holds

    span_keeps : {sizes : ℕ → ℕ} {before : EndLog} {low high count : ℕ}
        {halt : Option (ℕ × Halt)} {after : EndLog}
        → PassesOver sizes before low high count halt after → At before → At after
    span_keeps (passes_no_more end low high none) holds = holds
    span_keeps (passes_on end between low high id sent more halt after first share rest) holds =
        span_keeps rest (share_keeps share holds)
    span_keeps (passes_halt end low high id sent halt after first share) holds =
        share_keeps share holds

    pass_keeps : {sizes : ℕ → ℕ} {before : EndLog} {count : ℕ} {halt : Option (ℕ × Halt)}
        {after : EndLog} → Passes sizes before count halt after → At before → At after
    pass_keeps (passes_part count id halt after part) holds = span_keeps part holds
    pass_keeps (passes_round above below between halt after one two) holds =
        span_keeps two (span_keeps one holds)

    pumped_keeps : (most : ℕ) (before : EndLog) (result : Result ℕ EndRefusal) (after : EndLog)
        → MayPumpSome most before result after → At before → At after
    unfolding MayPumpSome
    pumped_keeps most before (Ok count) after (up, halt, passed, went, calm, same) holds =
        rw same (pass_keeps went holds)
    pumped_keeps most before (Err (refusals.Conn reasons.Closed)) after (down, same) holds =
        rw same holds
    pumped_keeps most before (Err (refusals.Conn reasons.Memory)) after
        (up, count, id, rest, passed, went, same) holds = rw same (pass_keeps went holds)
    pumped_keeps most before (Err other) after may holds = absurd may

    -- and so is what gives a message, whole or in parts.
    unchanged_keeps : (before after : EndLog) → IsUnchanged before after → At before → At after
    unfolding IsUnchanged
    unchanged_keeps before after (inl same) holds = rw same holds
    unchanged_keeps before after (inr called) holds =
        rw called.5 (call before.log before.handed called.0 (Refused called.1)
        (head_puts before.log called.0 (Refused called.1) called.3) holds)

    reply_keeps : (broken : Option Malformed) (before : EndLog) (id : ℕ) (said : Said)
        (result : Result (Unit {0}) EndRefusal) (after : EndLog)
        → MayReply broken before id said result after → At before → At after
    unfolding MayReply
    reply_keeps broken before id said (Ok done) after may holds =
        rw may.5 (call before.log before.handed _ _ tt holds)
    reply_keeps broken before id said (Err refusals.NotAsked) after may holds = rw may.1 holds
    reply_keeps broken before id said (Err refusals.Answered) after may holds = rw may.2 holds
    reply_keeps broken before id said (Err (refusals.BadMessage rule)) after may holds =
        rw may.3 holds
    reply_keeps broken before id said (Err (refusals.Conn refusal)) after may holds =
        unchanged_keeps before after may.4 holds

    body_keeps : (before : EndLog) (id : ℕ) (octets : List ℕ) (ends : Bool)
        (result : Result ℕ EndRefusal) (after : EndLog)
        → MaySendBody before id octets ends result after → At before → At after
    unfolding MaySendBody
    body_keeps before id octets ends (Ok count) after may holds =
        rw may.5 (call before.log before.handed (SendData id octets ends) (Count count) tt holds)
    body_keeps before id octets ends (Err refusals.NotAsked) after may holds = rw may.1 holds
    body_keeps before id octets ends (Err refusals.Answered) after may holds = absurd may
    body_keeps before id octets ends (Err (refusals.BadMessage rule)) after may holds =
        rw may.5 holds
    body_keeps before id octets ends (Err (refusals.Conn refusal)) after may holds =
        rw may.5
        (call before.log before.handed (SendData id octets ends) (Refused refusal) tt holds)

    trailers_keep : (before : EndLog) (id : ℕ) (list : List Field)
        (result : Result (Unit {0}) EndRefusal) (after : EndLog)
        → MaySendTrailers before id list result after → At before → At after
    unfolding MaySendTrailers
    trailers_keep before id list (Ok done) after may holds =
        rw may.5 (call before.log before.handed (SendFields id list true) Done tt holds)
    trailers_keep before id list (Err refusals.NotAsked) after may holds = rw may.1 holds
    trailers_keep before id list (Err refusals.Answered) after may holds = absurd may
    trailers_keep before id list (Err (refusals.BadMessage rule)) after may holds =
        rw may.4 holds
    trailers_keep before id list (Err (refusals.Conn refusal)) after may holds =
        rw may.5
        (call before.log before.handed (SendFields id list true) (Refused refusal) tt holds)

    -- So the head of a response in parts is given,
    head_keeps : (before : EndLog) (id : ℕ) (to_head : Bool) (head : Vec Field Global)
        (result : Result Stage Stop) (after : EndLog)
        → GivesHead to_head before id head result after → At before → At after
    head_keeps before id true head result after gives holds =
        reply_keeps _ before id _ gives.answer after gives.responds holds
    head_keeps before id false head result after gives holds =
        reply_keeps _ before id _ gives.0 after gives.1 holds

    -- the next of an answer,
    stage_keeps : (before : EndLog) (id : ℕ) (to_head refused : Bool) (stage : Stage)
        (result : Result Stage Stop) (after : EndLog)
        → GivesStageSo before id to_head refused stage result after → At before → At after
    stage_keeps before id to_head refused (stages.Answers message) result after gives holds =
        reply_keeps _ before id _ gives.answer after gives.responds holds
    stage_keeps before id to_head refused (stages.Fails status) result after (inl none) holds =
        rw none.1 holds
    stage_keeps before id to_head refused (stages.Fails status) result after (inr gives) holds =
        reply_keeps _ before id _ gives.answer after gives.responds holds
    stage_keeps before id to_head refused (stages.Begins head) result after gives holds =
        head_keeps before id to_head head result after gives holds
    stage_keeps before id to_head refused (stages.Trails list) result after gives holds =
        trailers_keep before id list.items gives.0 after gives.1 holds
    stage_keeps before id to_head refused (stages.Resets code) result after gives holds =
        rw gives.3
        (call before.log before.handed (ResetStream id (code_number code)) gives.0 tt holds)
    stage_keeps before id to_head refused stage result after gives holds = rw gives.1 holds

    -- and a part is sent.
    part_keeps : (before : EndLog) (id : ℕ) (part : Result Part HandlerFault) (room : List ℕ)
        (stage : Stage) (after : EndLog) → SendsPart before id part room stage after → At before
        → At after
    part_keeps before id (Ok (parts.Octets count)) room stage after (inl none) holds =
        rw none.2 holds
    part_keeps before id (Ok (parts.Octets count)) room stage after (inr sends) holds =
        body_keeps before id (take count room) false sends.answer after sends.sends holds
    part_keeps before id (Ok (parts.Last count)) room stage after sends holds =
        body_keeps before id (take count room) true sends.answer after sends.sends holds
    part_keeps before id (Ok (parts.Trailers list)) room stage after sends holds =
        rw sends.1 holds
    part_keeps before id (Ok parts.Later) room stage after sends holds = rw sends.1 holds
    part_keeps before id (Err fault) room stage after sends holds = rw sends.1 holds

    module _ {H W : Type 0} {rel : Relations H W} where
      -- A step of a server with its handler is one of these,
      step_keeps : {loses : Bool} {used given : List ℕ} {end after : EndLog}
          {old new : Handling H W}
          → HandledStep rel loses used given end old after new → At end → At after
      step_keeps (steps.notes is so) holds = rw is holds
      step_keeps {end = before} {after = last} (steps.takes piece used answer may uses nothing so)
          holds = take_one before piece answer last may holds
      step_keeps {end = before} {after = last} (steps.tells piece used count handed may uses told)
          holds = take_one before piece _ last may holds
      step_keeps {end = before} {after = last}
          (steps.lacks_memory piece used count handed may uses so) holds =
          take_one before piece _ last may holds
      step_keeps {end = before} {after = last} (steps.gives id one) holds =
          stage_keeps before id one.kept.to_head one.kept.refused one.kept.stage one.result last
          one.gives holds
      step_keeps {end = before} {after = last} (steps.asks id one) holds =
          part_keeps before id one.part one.room one.stage last one.sends holds
      step_keeps (steps.ends id cause over is now) holds = rw now holds
      step_keeps (steps.stops_reading id kept was may now handler is) holds = rw is holds
      step_keeps (steps.wakes id kept was now handler is) holds = rw is holds
      step_keeps {end = before} {after = last} (steps.releases answer may so) holds =
          released_keeps At calls_keep before answer last may holds
      step_keeps {end = before} {after = last} (steps.pumps most answer may so) holds =
          pumped_keeps most before answer last may holds
      step_keeps {end = before} (steps.calls act answer own may is so) holds =
          rw is
          (call before.log before.handed act answer (own_puts before.log act answer own) holds)
      step_keeps {end = before} (steps.puts_out count answer may is so) holds =
          rw is (call before.log before.handed (PutOut count) answer may holds)

      -- and so are steps, one after another.
      pub steps_keep : {loses : Bool} {after : EndLog} {new : Handling H W}
          {used given : List ℕ} {end : EndLog} {old : Handling H W}
          → Steps rel loses after new used given end old → At end → At after
      steps_keep steps.none holds = holds
      steps_keep (steps.more step rest) holds = steps_keep rest (step_keeps step holds)
