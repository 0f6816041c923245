-- The connection's own calls, that send no part of a message.
use Rattle.h2_ends.proofs.Names
use Names.{◌≡◌, ◌≢◌, ℕ, false, [], refl, sym, ne_eqb, Refusal, Values, Act, Answer, Number, Done}
use Names.{Refused, MayAnswer, with_call, ConnAnswers, answer_by, tokens_of_call, End, EndLog}
use Names.{end_with_log, EndRepresents, RepresentsBut, call_may_close, Release, Result, Ok, Err}
use Rattle.h2_spec_log.specs.Acts.{ResetStream, SendPing, SendGoAway, Fail, ChangeSettings, PutOut}
use Rattle.h2_spec_log.specs.Acts.{Widen}
use Rattle.h2_ends.specs.Represents.{EndAnswers}
use Rattle.h2_ends.proofs.EndTokens.{no_part_tokens}
use Rattle.h2_ends.proofs.InSteps.{called_as, called_but}

-- A call that sends no part of a message and closes no stream.
abbrev pub ClosesNone : Act → Type 0
ClosesNone (SendPing octets) = Unit {0}
ClosesNone SendGoAway = Unit {0}
ClosesNone (Fail code) = Unit {0}
ClosesNone (ChangeSettings own) = Unit {0}
ClosesNone (PutOut count) = Unit {0}
ClosesNone (Release id count) = Unit {0}
ClosesNone (Widen count) = Unit {0}
ClosesNone act = ⊥

pub closes_none : (act : Act) (answer : Answer) (i : ℕ) → ClosesNone act
    → (tokens_of_call i act answer ≡ []) × (call_may_close i act answer ≡ false)
unfolding tokens_of_call call_may_close
closes_none (SendPing octets) answer i is = (refl, refl)
closes_none SendGoAway answer i is = (refl, refl)
closes_none (Fail code) answer i is = (refl, refl)
closes_none (ChangeSettings own) answer i is = (refl, refl)
closes_none (PutOut count) answer i is = (refl, refl)
closes_none (Release id count) answer i is = (refl, refl)
closes_none (Widen count) answer i is = (refl, refl)
closes_none act answer i is = absurd is

-- None of the connection's calls opens a stream: what they answer is no number.
opens_none : {A : Type 0} (said : A → Answer) (result : Result A Refusal)
    → ((given : A) (i : ℕ) → said given ≢ Number i) → (i : ℕ) → answer_by said result ≢ Number i
opens_none said (Ok given) other i = other given i
opens_none said (Err refusal) other i = λ is. cc

-- A reset closes none but its own, and that only where it is done.
reset_closes : (id code i : ℕ) (refusal : Refusal)
    → call_may_close i (ResetStream id code) (Refused refusal) ≡ false
unfolding call_may_close
reset_closes id code i refusal = refl

reset_closes_one : (id code i : ℕ) → i ≢ id → call_may_close i (ResetStream id code) Done ≡ false
unfolding call_may_close
reset_closes_one id code i other = ne_eqb id i (λ same. other (sym same))

module _ (old new : End) (role : new.role ≡ old.role) (streams : new.streams ≡ old.streams)
    (spans : new.spans ≡ old.spans) where
  -- So each of them is answered by the end as by its connection.
  pub controls : {A : Type 0} (said : A → Answer) (act : Act) (result : Result A Refusal)
      → ConnAnswers old.conn act (answer_by said result) new.conn
      → ((given : A) (i : ℕ) → said given ≢ Number i) → ClosesNone act
      → EndAnswers old act (answer_by said result) new
  controls said act result answers other is_one = λ values end is.
      let made = answers values end.log is.streams.conn in (
        made.0,
        called_as values old new end act _ is made.0 made.1 role streams spans
            (λ i. (closes_none act _ i is_one).0) (opens_none said result other)
            (λ i. (closes_none act _ i is_one).1),
      )

  -- So is a reset that is refused; one that is done may close the stream.
  pub reset_is_refused : (id code : ℕ) (refusal : Refusal)
      → ConnAnswers old.conn (ResetStream id code) (Refused refusal) new.conn
      → EndAnswers old (ResetStream id code) (Refused refusal) new
  reset_is_refused id code refusal answers = λ values end is.
      let made = answers values end.log is.streams.conn in (
        made.0,
        called_as values old new end (ResetStream id code) _ is made.0 made.1 role streams spans
            (λ i. no_part_tokens i (ResetStream id code) _ tt) (λ i wrong. cc)
            (λ i. reset_closes id code i refusal),
      )

  pub reset_is_done : (values : Values) (end : EndLog) (id code : ℕ)
      → EndRepresents values old end → ConnAnswers old.conn (ResetStream id code) Done new.conn
      → MayAnswer end.log (ResetStream id code) Done
      × RepresentsBut values new (end_with_log end (with_call end.log (ResetStream id code) Done))
      id
  reset_is_done values end id code is answers =
      let made = answers values end.log is.streams.conn in (
        made.0,
        called_but values old new end (ResetStream id code) Done is made.0 made.1 role streams
            spans (λ i. no_part_tokens i (ResetStream id code) Done tt) (λ i wrong. cc) id
            (reset_closes_one id code),
      )
