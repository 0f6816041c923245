-- A stream of which fields or octets were reported is active as long as a server's connection is
-- up, unless the server has sent the end of its message, or the stream was reset. So where none is
-- active any more, each request was answered whole, or its stream reset.
use Rattle.h2_engines.proofs.Names
use Names.{◌≡◌, ◌≢◌, ◌⊎◌, ℕ, ◌==◌, Bool, true, false, if◌then◌else◌, List, [], ◌∷◌, ◌++◌, Option}
use Names.{None, Some, refl, sym, ap, ◌∙◌, subst, inl, inr, append-nil, append_assoc, cases_Bool}
use Names.{both_ways, eq-eqb, eqb-true, list_any, or_left, Server, Values, Event, Log, Item, alone}
use Names.{active, MayTake, Took, Failed, TakeAnswer, log_after_take, log_view, grows_call, End}
use Names.{EndLog, EndRepresents, next_unprocessed, is_server, opened, with_sent, used, Token}
use Names.{OctetToken, EndToken, Said, SentMessage, said_tokens, said_for, tokens_given}
use Names.{tokens_out, Role}
use Rattle.std.proofs.Common.{map as each}
use Rattle.std.proofs.lemmas.List.{append_cancel_right}
use Rattle.h2_block.specs.Grouping.{block}
use Rattle.h2_frame.specs.Frames.{Data, Frame}
use Rattle.h2_spec_log.proofs.StreamLemmas.{stream_of_log}
use Rattle.h2_spec_log.specs.Events.{FieldsEvent, DataEvent, reports_unprocessed}
use Rattle.h2_spec_log.specs.Histories.{IsLog, called_one, begins, took_some, took_one, met_fault}
use Rattle.h2_spec_log.specs.Histories.{ran_out_of_memory, reported_one, TakesFrame}
use Rattle.h2_spec_log.specs.ItemEffects.{events_of}
use Rattle.h2_spec_log.specs.ItemRules.{Decoded, verdict_by_rules, verdict_of}
use Rattle.h2_spec_log.specs.Log.{state}
use Rattle.h2_spec_log.specs.LogSteps.{took_none, took_fault, took_frame, took_part}
use Rattle.h2_spec_log.specs.LogSteps.{took_out_of_memory}
use Rattle.h2_spec_log.specs.Verdicts.{Verdict, ConnectionFault, Reported}
use Rattle.h2_laws_log.proofs.ReaderStates.{state_is_active}
use Rattle.h2_laws_end.proofs.ActivityOpened.{active_by_fields}
use Rattle.h2_laws_end.proofs.ActivitySteps.{AfterFrame, stays_same, has_broken, has_read}
use Rattle.h2_laws_end.proofs.ActivitySteps.{frame_after, frame_used, none_adds}
use Rattle.h2_laws_end.proofs.OverEvents.{no_event}
use Rattle.h2_laws_end.proofs.ReadVerdicts.{Says, says_data, says_of}
use Rattle.h2_laws_end.proofs.TakeAnswers.{some_answer}
use Rattle.h2_laws_machine.specs.Machines.{log_after}
use Rattle.h2_laws_machine.specs.Machines as steps
use Rattle.h2_laws_pair.specs.Tokens.{Form, AtOnce, Begun, Ended, FieldsToken, is_begun}
use Rattle.h2_laws_pair.specs.Tokens.{tokens_heard, tokens_of_event, trailers_tokens}
use Rattle.h2_laws_pair.proofs.HeardCalls.{step_calls}
use Rattle.h2_laws_pair.proofs.HeardMessages.{is_end, unended}
use Rattle.h2_laws_pair.proofs.NamedUnprocessed.{log_named}
use Rattle.h2_ends.specs.Ends.{tokens_handed}
use Rattle.h2_ends.specs.Represents.{IsSent, HandsInOrder}
use Rattle.h2_engines.proofs.SpokenStreams.{IsSpoken, goes_on, has_ended, was_reset, was_asked}
use Rattle.h2_engines.proofs.SpokenStreams.{was_named, read_keeps, frame_adds, frame_read}
use Rattle.h2_engines.proofs.SpokenStreams.{call_keeps, is_down}
use Rattle.h2_serve.specs.Answered.{AnswersEach, StreamWasReset}
use Rattle.h2_serve.specs.Answered as answered
use Rattle.h2_serve.proofs.HandedParts.{AreHeard}

-- By the rules DATA that is reported is of an active stream;
data_by_rules : (log : Log) (decoded : Option Decoded) (stream : ℕ) (end : Bool)
    (octets : List ℕ) (pad : Option ℕ)
    → Says (Unit {0}) (Unit {0}) (active log stream ≡ true)
    (verdict_by_rules (log_view log) decoded (alone (Data stream end octets pad)))
unfolding verdict_by_rules
data_by_rules log decoded stream end octets pad =
    says_data (Unit {0}) (Unit {0}) (active log stream ≡ true) (state log stream) _ _ _
    (λ active. tt) (λ closed. tt) (λ active. state_is_active _ _ _ active)

-- by the verdict,
data_by_verdict : (log : Log) (decoded : Option Decoded) (item : Item) (verdict : Verdict)
    (id flow : ℕ) (octets : List ℕ) (end : Bool)
    → verdict_of (log_view log) decoded item ≡ verdict
    → events_of (log_view log) decoded verdict item ≡ DataEvent id octets flow end ∷ []
    → active log id ≡ true
unfolding events_of
data_by_verdict log decoded item (ConnectionFault code) id flow octets end is one = cc
data_by_verdict log decoded (alone (Data stream last body pad)) Reported id flow octets end is one
    =
    let same : stream ≡ id = cc in
    subst (λ (j : ℕ). active log j ≡ true) same
    (subst (Says (Unit {0}) (Unit {0}) (active log stream ≡ true)) is
    (says_of (Unit {0}) (Unit {0}) (active log stream ≡ true) log decoded
    (alone (Data stream last body pad)) (data_by_rules log decoded stream last body pad)))
data_by_verdict log decoded (block stream last body) Reported id flow octets end is one = cc
data_by_verdict log decoded item verdict id flow octets end is one = cc

-- and after a frame.
data_by_frame : (before after : Log) (decoded : Option Decoded) (id flow : ℕ) (octets : List ℕ)
    (end : Bool) → AfterFrame before decoded after
    → after.reported ≡ DataEvent id octets flow end ∷ before.reported → active before id ≡ true
data_by_frame before after decoded id flow octets end (stays_same adds failed) one =
    no_event _ before.reported (sym adds.reported ∙ one)
data_by_frame before after decoded id flow octets end (has_broken code last up adds failed) one =
    no_event _ before.reported (sym adds.reported ∙ one)
data_by_frame before after decoded id flow octets end
    (has_read item verdict credit is on is_credit adds failed) one =
    data_by_verdict before decoded item verdict id flow octets end is
    (append_cancel_right _ (DataEvent id octets flow end ∷ []) before.reported
    (sym adds.reported ∙ one))

-- Of two lists that are not empty together one is not.
one_has_some : {X : Type 0} (xs ys : List X) → xs ++ ys ≢ [] → (xs ≢ []) ⊎ (ys ≢ [])
one_has_some [] ys some = inr some
one_has_some (x ∷ xs) ys some = inl (λ none. cc)

-- What is there under a condition is there where that holds.
holds_where_some : {X : Type 0} (b : Bool) (xs : List X) → (if b then xs else []) ≢ []
    → b ≡ true
holds_where_some true xs some = refl
holds_where_some false xs some = absurd (some refl)

-- A stream that is reported as unprocessed was named so.
named_next : (log : Log)
    → list_any (reports_unprocessed (next_unprocessed log)) (took_none log).reported ≡ true
unfolding reports_unprocessed
named_next log = rw (none_adds log).2.reported (or_left _ _ (eq-eqb (next_unprocessed log) _ refl))

module _ (values : Values) (i : ℕ) where
  module _ (log : Log) (is : IsLog Server values log) (octets : List ℕ)
      (frame : Frame) (decoded : Option Decoded) where
    -- the log after a frame
    abbrev after_it : Log
    after_it = took_frame log octets decoded frame

    module _ (up : after_it.failed ≡ None) where
      -- What is known of a stream stays known after it.
      frame_keeps : IsSpoken i log → IsSpoken i after_it
      unfolding used log_after
      frame_keeps =
          let after = frame_after log octets decoded frame in
          let adds = frame_adds after in
          let calls = step_calls log (steps.ends_frame octets frame decoded)
          (λ act said wrong. cc) in
          read_keeps Server values log after_it i is calls adds.0 adds.1
          (λ alive goes. elim (frame_read (frame_used log octets frame) after_it decoded i alive
          goes after up) [
            | inl stays ↦ goes_on stays
            | inr said ↦ was_reset said.0 said.1 said.2
          ])

      -- Where fields or octets of a stream are reported that wasn't active, it is active then.
      event_opens : (event : Event) (piece : List ℕ) (count : ℕ)
          → MayTake log piece (Took count (Some event)) after_it
          → after_it.reported ≡ event ∷ log.reported → tokens_of_event i event ≢ []
          → active log i ≡ false → active after_it i ≡ true
      unfolding tokens_of_event
      event_opens (FieldsEvent id list end) piece count may reported some inactive =
          let same = eqb-true id i (holds_where_some (id == i) _ some) in
          subst (λ (j : ℕ). active after_it j ≡ true) same
          (active_by_fields Server values log after_it piece count id list end is may
          (subst (λ (j : ℕ). active log j ≡ false) (sym same) inactive)).1
      event_opens (DataEvent id body flow end) piece count may reported some inactive =
          let same = eqb-true id i (holds_where_some (id == i) _ some) in
          absurd (both_ways (active log i) inactive (subst (λ (j : ℕ). active log j ≡ true) same
          (data_by_frame (frame_used log octets frame) after_it decoded id flow body end
          (frame_after log octets decoded frame) reported)))
      event_opens event piece count may reported some inactive = absurd (some refl)

      -- So it is known of a stream of which something was reported, by the answer.
      frame_heard : (answer : TakeAnswer) → MayTake log octets answer after_it
          → (tokens_heard i log.reported ≢ [] → IsSpoken i log)
          → tokens_heard i after_it.reported ≢ [] → IsSpoken i after_it
      unfolding tokens_heard
      frame_heard (Failed code) may before some =
          absurd (is_down after_it (log_after_take log after_it octets (Failed code) may).5 up)
      frame_heard (Took count None) may before some =
          let reported : after_it.reported ≡ log.reported =
          (log_after_take log after_it octets (Took count None) may).5 in
          frame_keeps (before (rw reported at some))
      frame_heard (Took count (Some event)) may before some =
          let reported : after_it.reported ≡ event ∷ log.reported =
          (log_after_take log after_it octets (Took count (Some event)) may).5 in
          elim (one_has_some (tokens_heard i log.reported) (tokens_of_event i event)
          (rw reported at some)) [
            | inl was ↦ frame_keeps (before was)
            | inr now ↦ elim (cases_Bool (active log i)) [
              | inl alive ↦ frame_keeps (goes_on alive)
              | inr inactive ↦
                  goes_on (event_opens event octets count may reported now inactive)
            ]
          ]

  -- Every log of a server.
  heard_by_logs : (log : Log) → IsLog Server values log → log.failed ≡ None
      → tokens_heard i log.reported ≢ [] → IsSpoken i log
  unfolding used tokens_heard opened with_sent
  heard_by_logs _ (begins in_range) up some = absurd (some refl)
  heard_by_logs _ (took_some {log = log} is takes octets unparsed read) up some =
      read_keeps Server values log (took_part log octets unparsed) i is refl [] refl
      (λ alive goes. goes_on alive) (heard_by_logs log is up some)
  heard_by_logs _ (took_one {log = log} is takes octets frame decoded read sees) up some =
      let own = (stream_of_log Server values log is).role in
      let (answer, may) = some_answer log octets frame decoded takes
      (subst (λ (r : Role). TakesFrame r log octets frame) (sym own) read) sees in
      frame_heard log is octets frame decoded up answer may (heard_by_logs log is takes.up) some
  heard_by_logs _ (met_fault {log = log} is takes octets fault at) up some =
      absurd (is_down (took_fault log octets fault) refl up)
  heard_by_logs _ (ran_out_of_memory {log = log} is running octets may) up some =
      absurd (is_down (took_out_of_memory log octets) refl up)
  heard_by_logs _ (reported_one {log = log} is running names) up some =
      let after = reported_one is running names in
      let role = (stream_of_log Server values (took_none log) after).role in
      let named = (log_named Server values (took_none log) after (next_unprocessed log)
      (named_next log)).0 in
      absurd (both_ways (is_server (took_none log).role) named (ap is_server role))
  heard_by_logs _ (called_one {log = log} is act answer typed may) up some =
      let grows = grows_call log act answer in
      call_keeps Server values log act answer i is may
      (heard_by_logs log is (grows.up up) (rw grows.reported at some))

-- The tokens of a message that was begun and has no end yet, and then its end.
ended_more : (message : SentMessage) (number : Option ℕ)
    → said_tokens (record { message = message; form = Ended })
    ≡ said_tokens (record { message = message; form = Begun number }) ++ EndToken ∷ []
unfolding said_tokens
ended_more message number =
    let body = each OctetToken message.body in
    let trailers = trailers_tokens message.trailers in
    ap (λ (line : List Token). FieldsToken message.head false ∷ line)
    (sym (append_assoc body (trailers ++ []) (EndToken ∷ [])
    ∙ ap (λ (line : List Token). body ++ (line ++ EndToken ∷ [])) (append-nil trailers)))

-- What has its end among its tokens was given whole.
whole_by : (form : Form) (message : SentMessage)
    → list_any is_end (said_tokens (record { message = message; form = form })) ≡ true
    → is_begun form ≡ false
whole_by AtOnce message ended = refl
whole_by Ended message ended = refl
whole_by (Begun number) message ended =
    absurd (unended (record { message = message; form = Ended })
    (said_tokens (record { message = message; form = Begun number })) EndToken []
    (ended_more message number) ended)

-- The first tokens of none have no end.
none_ended : (tokens waiting : List Token) → [] ≡ tokens ++ waiting
    → list_any is_end tokens ≡ true → ⊥
none_ended [] waiting is ended = both_ways false refl ended
none_ended (token ∷ tokens) waiting is ended = cc

-- So where the end was sent, all of the message was.
sent_by : {end : EndLog} {i : ℕ} (waiting : List Token) (said : Option Said)
    → said_for i end.accepted ≡ said → tokens_given said ≡ tokens_out end i ++ waiting
    → list_any is_end (tokens_out end i) ≡ true → IsSent end i
unfolding tokens_given
sent_by {end} {i} waiting None given prefix ended =
    absurd (none_ended (tokens_out end i) waiting prefix ended)
sent_by {end} {i} (token ∷ others) (Some said) given prefix ended =
    absurd (unended said (tokens_out end i) token others prefix ended)
sent_by {end} {i} [] (Some said) given prefix ended =
    let all : said_tokens said ≡ tokens_out end i = prefix ∙ append-nil (tokens_out end i) in
    record {
      said = said;
      accepted = given;
      whole = whole_by said.form said.message (rw all ended);
      out = all;
    }

-- What was handed out of a stream was reported of it.
some_first : (tokens rest : List Token) → tokens ≢ [] → tokens ++ rest ≢ []
some_first [] rest some = absurd (some refl)
some_first (token ∷ tokens) rest some = λ none. cc

heard_of : {end : EndLog} {i : ℕ} → HandsInOrder end i → tokens_handed end i ≢ []
    → tokens_heard i end.log.reported ≢ []
heard_of (inl same) some = rw same some
heard_of {end} {i} (inr cut) some =
    rw cut.prefix.1 (some_first (tokens_handed end i) cut.prefix.0 some)

module _ {values : Values} {server : End} {end : EndLog}
    (represents : EndRepresents values server end) (role : end.log.role ≡ Server)
    (up : end.log.failed ≡ None) (none_active : (i : ℕ) → active end.log i ≡ false) where
  -- The log of a server's end comes about at a server.
  came_there : IsLog Server values end.log
  came_there =
      let came = represents.streams.conn.machine.came in
      subst (λ (r : Role). IsLog r values end.log)
      (sym (stream_of_log _ values end.log came).role ∙ role) came

  -- What is known of a stream: it was answered, or reset.
  over_by : (i : ℕ) → IsSpoken i end.log → StreamWasReset end.log i ⊎ IsSent end i
  over_by i (goes_on alive) = absurd (both_ways (active end.log i) (none_active i) alive)
  over_by i (has_ended ended) =
      let sends = represents.streams.sent i in
      inr (sent_by sends.waiting (said_for i end.accepted) refl sends.prefix ended)
  over_by i (was_reset code ours here) = inl (answered.was_reported code ours here)
  over_by i (was_asked code asked) = inl (answered.was_asked code asked)
  over_by i (was_named named) =
      absurd (both_ways (is_server end.log.role)
      (log_named Server values end.log came_there i named).0 (ap is_server role))

  -- Each request was.
  pub answers_each : AreHeard end.handed → AnswersEach end
  answers_each heard i some =
      over_by i (heard_by_logs values i end.log came_there up
      (heard_of ((represents.in_step i).handed) (heard i some)))
