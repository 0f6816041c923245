-- What a call of an end makes of what it has accepted and of what it has handed out.
use Rattle.h2_message.specs.declared.malformed.Malformed.{Malformed}
use Rattle.h2_joined.proofs.Names
use Names.{◌∷◌, Option, Result, Ok, Err, inl, inr, refl, sym, ap, ◌∙◌, Refusal, Log, Said, Act}
use Names.{Field, Malformed}
use Names.{EndRefusal, EndLog, Handed, EndAnswer, EndTook, EndFailed, EndMayTake, hands_nothing}
use Names.{hands_out, refusal_fails, runs_out_of_memory, pumps_no_more, pumps_data, pumps_trailers}
use Names.{data_refused, trailers_refused, Releases, releases_no_more, releases_one}
use Names.{releases_refused, MayAsk, MayReply, MaySendBody, MaySendTrailers, MayPump, MayReleaseAll}
use Names.{IsUnchanged, Pumps}
use Rattle.std.specs.Prelude.{suc}
use Rattle.h2_ends.specs.Passes.{Halt, Stopped, Shares, PassesOver, Passes, end_with_turn, numbers}
use Rattle.h2_ends.specs.Passes.{share_size, shares_octets, shares_some, share_is_cut, shares_rest}
use Rattle.h2_ends.specs.Passes.{shares_trailers, octets_refused, passes_no_more}
use Rattle.h2_ends.specs.Passes as turns
use Rattle.h2_ends.specs.Passes.{passes_on, passes_halt, passes_part, passes_round}
unfoldable use Rattle.h2_ends.specs.Passes.{MayPumpSome}
use Names.{◌≡◌, ◌==◌, ℕ, Bool, true, List, length, take, Some, None, fails, passes, refuses}
use Names.{is_begun, said_for, SendFields, Refused, with_call, end_with_log}
use Rattle.std.specs.Prelude.{◌&&◌}
use Rattle.h2_spec_log.specs.Acts.{SendData}
use Rattle.h2_ends.specs.Ends.{replaced}
use Rattle.h2_ends.specs.EndCalls.{with_octets, with_trailers}
use Rattle.h2_spec_log.specs.declared.refusal.Refusal.TheVariants as reasons
use Rattle.h2_ends.specs.declared.refusal.EndRefusal.TheVariants as refusals

-- The end has accepted and handed out nothing more.
pub record SaysNothing (before after : EndLog) : Type 0 where
  pub accepted : after.accepted ≡ before.accepted
  pub handed : after.handed ≡ before.handed

says_itself : (before after : EndLog) → after ≡ before → SaysNothing before after
says_itself before after same =
    record {
      accepted = ap (λ (end : EndLog). end.accepted) same;
      handed = ap (λ (end : EndLog). end.handed) same;
    }

-- Calls of its connection say nothing.
pump_says : (before : EndLog) (count : ℕ) (refused : Option Refusal) (after : EndLog)
    → Pumps before count refused after → SaysNothing before after
pump_says before count refused after (pumps_no_more end) =
    record { accepted = refl; handed = refl }
pump_says before count refused after (pumps_data end id sent more octets ends refusal last next
    typed waits may rest) =
    let says = pump_says _ more refusal last rest in
    record { accepted = says.accepted; handed = says.handed }
pump_says before count refused after (pumps_trailers end id more list refusal last next typed wait
    may rest) =
    let says = pump_says _ more refusal last rest in
    record { accepted = says.accepted; handed = says.handed }
pump_says before count refused after
    (data_refused end id octets ends refusal next typed waits may) =
    record { accepted = refl; handed = refl }
pump_says before count refused after
    (trailers_refused end id list refusal next typed wait may) =
    record { accepted = refl; handed = refl }

pub pumped_says : (before : EndLog) (result : Result ℕ EndRefusal) (after : EndLog)
    → MayPump before result after → SaysNothing before after
unfolding MayPump
pumped_says before (Ok count) after may =
    elim may.1 [
      | inl all ↦ pump_says before count _ after all.0
      | inr all ↦ pump_says before count _ after all.0
    ]
pumped_says before (Err (refusals.Conn reasons.Closed)) after may = says_itself _ _ may.1
pumped_says before (Err (refusals.Conn reasons.Memory)) after may = pump_says _ may.1 _ _ may.2
pumped_says before (Err other) after may = absurd may

share_says : (most id : ℕ) (before : EndLog) (count : ℕ) (halt : Option Halt) (after : EndLog)
    → Shares most id before count halt after → SaysNothing before after
share_says most id _ _ _ _ (shares_octets end octets ends sent typed waits may all more) =
    record { accepted = refl; handed = refl }
share_says most id _ _ _ _ (shares_some end octets ends sent typed waits may fewer not_over) =
    record { accepted = refl; handed = refl }
share_says most id _ _ _ _ (share_is_cut end octets ends sent typed waits may fewer over) =
    record { accepted = refl; handed = refl }
share_says most id _ _ _ after (shares_rest end octets halt _ typed waits may few rest) =
    let says = share_says most id _ 0 halt after rest in
    record { accepted = says.accepted; handed = says.handed }
share_says most id _ _ _ _ (shares_trailers end list typed wait may) =
    record { accepted = refl; handed = refl }
share_says most id _ _ _ _ (octets_refused end octets ends refusal typed waits may) =
    record { accepted = refl; handed = refl }
share_says most id _ _ _ _ (turns.list_refused end list refusal typed wait may) =
    record { accepted = refl; handed = refl }

span_says : (sizes : ℕ → ℕ) (before : EndLog) (low high count : ℕ) (halt : Option (ℕ × Halt))
    (after : EndLog) → PassesOver sizes before low high count halt after → SaysNothing before after
span_says sizes _ _ _ _ _ _ (passes_no_more end low high none) =
    record { accepted = refl; handed = refl }
span_says sizes _ _ _ _ _ after
    (passes_on end between low high id sent more halt _ first share rest) =
    let one = share_says (sizes id) id end sent None between share in
    let others = span_says sizes between (suc id) high more halt after rest in
    record {
      accepted = others.accepted ∙ one.accepted;
      handed = others.handed ∙ one.handed;
    }
span_says sizes _ _ _ _ _ after (passes_halt end low high id sent halt _ first share) =
    share_says (sizes id) id end sent (Some halt) after share

pass_says : (sizes : ℕ → ℕ) (before : EndLog) (count : ℕ) (halt : Option (ℕ × Halt))
    (after : EndLog)
    → Passes sizes before count halt after → SaysNothing before after
pass_says sizes before _ _ after (passes_part count id halt _ part) =
    span_says sizes before before.turn.id numbers count (Some (id, halt)) after part
pass_says sizes before _ _ after (passes_round above below between halt _ one two) =
    let first = span_says sizes before before.turn.id numbers above None between one in
    let second = span_says sizes between 0 before.turn.id below halt after two in
    record {
      accepted = second.accepted ∙ first.accepted;
      handed = second.handed ∙ first.handed;
    }

turned_says : (before passed after : EndLog) (halt : Option (ℕ × Halt))
    → after ≡ end_with_turn passed halt → SaysNothing before passed → SaysNothing before after
turned_says before passed after halt same says =
    record {
      accepted = ap (λ (end : EndLog). end.accepted) same ∙ says.accepted;
      handed = ap (λ (end : EndLog). end.handed) same ∙ says.handed;
    }

pub passed_says : (most : ℕ) (before : EndLog) (result : Result ℕ EndRefusal) (after : EndLog)
    → MayPumpSome most before result after → SaysNothing before after
unfolding MayPumpSome
passed_says most before (Ok count) after (up, halt, passed, went, calm, same) =
    turned_says before passed after halt same
    (pass_says (share_size before.turn most) before count halt passed went)
passed_says most before (Err (refusals.Conn reasons.Closed)) after (down, same) =
    says_itself _ _ same
passed_says most before (Err (refusals.Conn reasons.Memory)) after
    (up, count, id, rest, passed, went, same) =
    turned_says before passed after (Some (id, Stopped reasons.Memory rest)) same
    (pass_says (share_size before.turn most) before count
    (Some (id, Stopped reasons.Memory rest)) passed went)
passed_says most before (Err other) after may = absurd may

release_says : (before : EndLog) (refused : Option Refusal) (after : EndLog)
    → Releases before refused after → SaysNothing before after
release_says before refused after (releases_no_more end) =
    record { accepted = refl; handed = refl }
release_says before refused after (releases_one end id refusal last next typed may rest) =
    let says = release_says _ refusal last rest in
    record { accepted = says.accepted; handed = says.handed }
release_says before refused after (releases_refused end id refusal next typed may) =
    record { accepted = refl; handed = refl }

module _ (before : EndLog) where
  pub released_says : (result : Result (Unit {0}) EndRefusal) (after : EndLog)
      → MayReleaseAll before result after → SaysNothing before after
  unfolding MayReleaseAll
  released_says (Ok done) after may = release_says before _ after may.1
  released_says (Err (refusals.Conn reasons.Closed)) after may = says_itself before after may.1
  released_says (Err (refusals.Conn reasons.OutputFull)) after may =
      release_says before _ after may.1
  released_says (Err (refusals.Conn reasons.Memory)) after may = release_says before _ after may.1
  released_says (Err other) after may = absurd may

  -- What is refused changes nothing, but that the connection may have refused a call.
  unchanged_says : (after : EndLog) → IsUnchanged before after → SaysNothing before after
  unfolding IsUnchanged
  unchanged_says after (inl same) = says_itself before after same
  unchanged_says after (inr called) =
      record {
        accepted = ap (λ (end : EndLog). end.accepted) called.5;
        handed = ap (λ (end : EndLog). end.handed) called.5;
      }

  pub ask_refused : (broken : Option Malformed) (said : Said) (refusal : EndRefusal)
      (after : EndLog) → MayAsk broken before said (Err refusal) after → SaysNothing before after
  unfolding MayAsk
  ask_refused broken said (refusals.BadMessage rule) after may = says_itself before after may.1
  ask_refused broken said (refusals.Conn refusal) after may = unchanged_says after may.2
  ask_refused broken said other after may = absurd may

  pub reply_refused : (broken : Option Malformed) (id : ℕ) (said : Said) (refusal : EndRefusal)
      (after : EndLog) → MayReply broken before id said (Err refusal) after
      → SaysNothing before after
  unfolding MayReply
  reply_refused broken id said refusals.NotAsked after may = says_itself before after may.1
  reply_refused broken id said refusals.Answered after may = says_itself before after may.2
  reply_refused broken id said (refusals.BadMessage rule) after may =
      says_itself before after may.3
  reply_refused broken id said (refusals.Conn refusal) after may = unchanged_says after may.4

  -- So it is with a part more that is refused.
  call_refused : (act : Act) (refusal : Refusal) (after : EndLog)
      → after ≡ end_with_log before (with_call before.log act (Refused refusal))
      → SaysNothing before after
  call_refused act refusal after same = record {
    accepted = ap (λ (end : EndLog). end.accepted) same;
    handed = ap (λ (end : EndLog). end.handed) same;
  }

  pub body_refused : (id : ℕ) (octets : List ℕ) (ends : Bool) (refusal : EndRefusal)
      (after : EndLog) → MaySendBody before id octets ends (Err refusal) after
      → SaysNothing before after
  unfolding MaySendBody
  body_refused id octets ends refusals.NotAsked after may = says_itself before after may.1
  body_refused id octets ends refusals.Answered after may = absurd may
  body_refused id octets ends (refusals.BadMessage rule) after may =
      says_itself before after may.5
  body_refused id octets ends (refusals.Conn refusal) after may =
      call_refused (SendData id octets ends) refusal after may.5

  pub list_refused : (id : ℕ) (list : List Field) (refusal : EndRefusal)
      (after : EndLog) → MaySendTrailers before id list (Err refusal) after
      → SaysNothing before after
  unfolding MaySendTrailers
  list_refused id list refusals.NotAsked after may = says_itself before after may.1
  list_refused id list refusals.Answered after may = absurd may
  list_refused id list (refusals.BadMessage rule) after may =
      says_itself before after may.4
  list_refused id list (refusals.Conn refusal) after may =
      call_refused (SendFields id list true) refusal after may.5

-- The end has accepted this for a stream.
pub record Says (before : EndLog) (id : ℕ) (said : Said) (after : EndLog) : Type 0 where
  pub accepted : after.accepted ≡ (id, said) ∷ before.accepted
  pub handed : after.handed ≡ before.handed

pub ask_accepted : (broken : Option Malformed) (before : EndLog) (said : Said) (id : ℕ)
    (after : EndLog) → MayAsk broken before said (Ok id) after → Says before id said after
unfolding MayAsk
ask_accepted broken before said id after may =
    record {
      accepted = ap (λ (end : EndLog). end.accepted) may.3;
      handed = ap (λ (end : EndLog). end.handed) may.3;
    }

pub reply_accepted : (broken : Option Malformed) (before : EndLog) (id : ℕ) (said : Said)
    (done : Unit {0}) (after : EndLog) → MayReply broken before id said (Ok done) after
    → Says before id said after
unfolding MayReply
reply_accepted broken before id said done after may =
    record {
      accepted = ap (λ (end : EndLog). end.accepted) may.5;
      handed = ap (λ (end : EndLog). end.handed) may.5;
    }

-- The end has accepted a part more of what was begun on a stream.
pub record SaysMore (before : EndLog) (id : ℕ) (more : Said → Said) (after : EndLog) : Type 0 where
  pub said : Said
  pub was : said_for id before.accepted ≡ Some said
  pub goes : is_begun said.form ≡ true
  pub accepted : after.accepted ≡ replaced id (more said) before.accepted
  pub handed : after.handed ≡ before.handed

pub body_accepted : (before : EndLog) (id : ℕ) (octets : List ℕ) (ends : Bool) (count : ℕ)
    (after : EndLog) → MaySendBody before id octets ends (Ok count) after
    → SaysMore before id
    (λ said. with_octets said (take count octets) (ends && count == length octets)) after
unfolding MaySendBody
body_accepted before id octets ends count after (said, number, is_open, fits, may, same) =
    record {
      said = said;
      was = is_open.accepted;
      goes = ap is_begun is_open.form;
      accepted = ap (λ (end : EndLog). end.accepted) same;
      handed = ap (λ (end : EndLog). end.handed) same;
    }

pub trailers_accepted : (before : EndLog) (id : ℕ) (list : List Field) (done : Unit {0})
    (after : EndLog) → MaySendTrailers before id list (Ok done) after
    → SaysMore before id (λ said. with_trailers said list) after
unfolding MaySendTrailers
trailers_accepted before id list done after (said, number, is_open, fits, may, same) =
    record {
      said = said;
      was = is_open.accepted;
      goes = ap is_begun is_open.form;
      accepted = ap (λ (end : EndLog). end.accepted) same;
      handed = ap (λ (end : EndLog). end.handed) same;
    }

-- what was handed out once a call of `take` has this answer
abbrev pub handed_after : EndAnswer → List Handed → List Handed
handed_after (EndTook count (Some one)) handed = one ∷ handed
handed_after (EndTook count None) handed = handed
handed_after (EndFailed code) handed = handed

-- A call of `take` has accepted nothing, and has handed out what it answers.
pub record SaysTaken (before : EndLog) (answer : EndAnswer) (after : EndLog) : Type 0 where
  pub accepted : after.accepted ≡ before.accepted
  pub handed : after.handed ≡ handed_after answer before.handed

-- By its answer, and what has happened then.
taken_as : (before : EndLog) (answer is : EndAnswer) (log : Log) (handed : List Handed)
    (last : Option (ℕ × Malformed)) (after : EndLog) → answer ≡ is
    → after ≡ record before { log = log; handed = handed; malformed = last }
    → handed ≡ handed_after is before.handed → SaysTaken before answer after
taken_as before answer is log handed last after same now says =
    record {
      accepted = ap (λ (end : EndLog). end.accepted) now;
      handed = ap (λ (end : EndLog). end.handed) now ∙ says
          ∙ ap (λ (one : EndAnswer). handed_after one before.handed) (sym same);
    }

module _ (before : EndLog) (piece : List ℕ) (answer : EndAnswer) (after : EndLog) where
  pub taken_says : EndMayTake before piece answer after → SaysTaken before answer after
  taken_says (fails code log takes same now) = taken_as before answer _ log _ _ after same now refl
  taken_says (hands_nothing count log takes same now) =
      taken_as before answer _ log _ _ after same now refl
  taken_says (passes count event log takes none same now) =
      taken_as before answer _ log _ _ after same now refl
  taken_says (hands_out count event log takes id part is readable same now) =
      taken_as before answer _ log _ _ after same now refl
  taken_says (refuses count event log takes id part is broken refused may up same now) =
      taken_as before answer _ _ _ _ after same now refl
  taken_says (refusal_fails count event log takes id part is broken
      refused may code down same now) = taken_as before answer _ _ _ _ after same now refl
  taken_says (runs_out_of_memory count id list ends log takes role none
      readable refused may same now) = taken_as before answer _ _ _ _ after same now refl
