-- A stream that is refused at an end, and what the connection is then.
use Rattle.h2_ends.specs.declared.taking.Unread.{Unread}
use Rattle.h2_ends.specs.Taking.{refused_last as last_after, with_unread}
use Rattle.h2_ends.proofs.Names
use Names.{◌≡◌, ◌≢◌, ◌⊎◌, ℕ, true, false, Option, Some, None, ◌∷◌, List, arith, inl, inr, refl, ap}
use Names.{both_ways, cases_eq, Code, InternalError, Values, Act, Answer, Refuse, Number, Count}
use Names.{Done, Refused, Log, log_view, MayAnswer, accepts, lacks, grows_call, IsOver}
use Names.{is_number_used, used_by_call, tokens_heard, IsPrefixOfTokens, call_calls, End, EndLog}
use Names.{tokens_handed, end_with_log, RepresentsBut, IsInStep, WasRefused, MustRefuse, with_call}
use Names.{call_may_close, refuses, fails, Contains, IsCutShort, OutOfMemory, refused_with}
use Rattle.h2_spec_log.specs.CallRules.{first_of, conditions, refuse_fault, may_lack_memory}
use Rattle.h2_laws_end.proofs.ActivityCalls.{inactive_by_refusal}
use Rattle.h2_conn.specs.Conn.{ConnShows}
use Rattle.h2_ends.proofs.EndTokens.{no_part_tokens}
use Rattle.h2_ends.proofs.EndSteps.{kept, quiet_call, all_same}
use Rattle.h2_ends.proofs.InSteps.{in_step_called, active_called, owes_called, handed_by}
use Rattle.h2_ends.proofs.TakeInStep.{differs}

-- A refusal opens no stream.
refuse_opens_none : (log : Log) (id code i : ℕ) (answer : Answer)
    → MayAnswer log (Refuse id code) answer → answer ≢ Number i
refuse_opens_none log id code i answer (accepts none is) opens = cc
refuse_opens_none log id code i answer (refuses refusal some is) opens = cc
refuse_opens_none log id code i answer (lacks none may is) opens = cc
refuse_opens_none log id code i answer (fails none may is) opens = cc

-- It closes no other one.
refuse_closes_one : (id code i : ℕ) (answer : Answer) → i ≢ id
    → call_may_close i (Refuse id code) answer ≡ false
unfolding call_may_close
refuse_closes_one id code i (Number n) other = refl
refuse_closes_one id code i (Count n) other = refl
refuse_closes_one id code i Done other = differs i id other
refuse_closes_one id code i OutOfMemory other = refl
refuse_closes_one id code i (Refused refusal) other = refl

-- The newest call is among the calls.
newest_is : (calls : List (Act × Answer)) (call : Act × Answer) → Contains (call ∷ calls) call
newest_is calls call = (0, omega arith, refl)

was_refused : (log : Log) (id code : ℕ) (one : Answer)
    → WasRefused (with_call log (Refuse id code) one) id
was_refused log id code one = (
  code,
  one,
  rw (call_calls log (Refuse id code) one)
      (newest_is log.calls (Refuse id code, one)),
)

-- Once it is refused, the stream is over, or the connection has failed.
refused_last : (log : Log) (id code : ℕ) (one : Answer) (failed : Option Code)
    → MayAnswer log (Refuse id code) one → is_number_used log id ≡ true
    → (with_call log (Refuse id code) one).failed ≡ failed
    → IsOver (with_call log (Refuse id code) one) id
    ⊎ ((with_call log (Refuse id code) one).failed ≢ None)
refused_last log id code one None may was is =
    inl (record {
      was_used = used_by_call log (Refuse id code) one id was;
      not_active = inactive_by_refusal log id code one may is;
    })
refused_last log id code one (Some failed) may was is = inr (λ none. cc)

-- So what was handed out of it is all that will be.
pub cut_short : (end : EndLog) (id code : ℕ) (one : Answer)
    → MayAnswer end.log (Refuse id code) one → is_number_used end.log id ≡ true
    → IsPrefixOfTokens (tokens_handed end id) (tokens_heard id end.log.reported)
    → IsCutShort (end_with_log end (with_call end.log (Refuse id code) one)) id
cut_short end id code one may was prefix =
    record {
      refused = was_refused end.log id code one;
      last = refused_last end.log id code one _ may was refl;
      prefix = rw (grows_call end.log (Refuse id code) one).reported prefix;
    }

refused_in_step : (values : Values) (old : End) (id code : ℕ) (one : Answer) (end : EndLog)
    → MustRefuse values old end id → MayAnswer end.log (Refuse id code) one
    → IsInStep old.spans (kept old id)
    (end_with_log end (with_call end.log (Refuse id code) one)) id
refused_in_step values old id code one end is may =
    record {
      all = λ up active none.
          both_ways _ (inactive_by_refusal end.log id code one may up) active;
      handed = inr (cut_short end id code one may is.was_used is.prefix);
      within = is.others.within;
      owes = owes_called _ values old.spans.owing end.log (Refuse id code) one id
          is.streams.conn.machine.came may is.others.owes;
      turn = is.others.turn;
      malformed = is.others.malformed;
    }

-- An end that keeps for which cause it refuses the stream.
abbrev pub end_unread : End → ℕ → Unread → End
end_unread end id unread =
    record end {
      spans = record end.spans { malformed = last_after id unread end.spans.malformed };
    }

pub kept_unread : (values : Values) (old : End) (id : ℕ) (unread : Unread) (end : EndLog)
    → MustRefuse values old end id
    → MustRefuse values (end_unread old id unread) (with_unread end id unread) id
kept_unread values old id unread end is =
    let after = with_unread end id unread in
    let last = λ (i : ℕ) (other : i ≢ id). ap (last_after id unread)
    (is.others.others i other).malformed in
    record {
      streams = all_same values old (end_unread old id unread) end after is.streams is.streams.conn
          refl refl (λ i past. past) (λ i. record {
            handed = refl;
            accepted = refl;
            sent = refl;
            role = refl;
            used_still = λ was. was;
          });
      others = record {
        others = λ i other. record {
          all = (is.others.others i other).all;
          handed = handed_by end after i refl refl (is.others.others i other).handed;
          within = (is.others.others i other).within;
          owes = (is.others.others i other).owes;
          turn = (is.others.others i other).turn;
          malformed = last i other;
        };
        active = is.others.active;
        within = is.others.within;
        owes = is.others.owes;
        turn = is.others.turn;
        malformed = ap (last_after id unread) is.others.malformed;
      };
      was_used = is.was_used;
      prefix = is.prefix;
    }

-- The end represents what has happened with the refusal, but for what is kept of that stream.
pub refused : (values : Values) (old new : End) (id code : ℕ) (answer : Answer) (end : EndLog)
    → ConnShows old.conn (Refuse id code) answer new.conn → new.role ≡ old.role
    → new.streams ≡ old.streams → new.spans ≡ old.spans → MustRefuse values old end id
    → (one : Answer) × MayAnswer end.log (Refuse id code) one
    × RepresentsBut values new (end_with_log end (with_call end.log (Refuse id code) one)) id
refused values old new id code answer end shows role streams waiting is =
    let made = shows values end.log is.streams.conn in (
      made.0,
      made.2,
      record {
        streams = quiet_call values old new end (Refuse id code) made.0 is.streams made.2 made.3
            role streams (λ i. no_part_tokens i (Refuse id code) made.0 tt);
        in_step = λ i. elim (cases_eq i id) [
          | inl here ↦ rw (here, streams, waiting)
              (refused_in_step values old id code made.0 end is made.2)
          | inr other ↦ rw (streams, waiting) (in_step_called _ values old.spans (kept old i)
              end (Refuse id code) made.0 end.accepted i is.streams.conn.machine.came made.2
              (refuse_opens_none end.log id code i made.0 made.2) (is.others.others i other))
        ];
        active = λ i other. rw streams (active_called _ values end.log (Refuse id code) made.0
            (kept old i) i is.streams.conn.machine.came made.2
            (refuse_closes_one id code i made.0 other) (is.others.active i other));
      },
    )

-- With INTERNAL_ERROR the connection fails, if it hasn't.
up_is : (log : Log) → log.failed ≡ None → (log_view log).failed ≡ None
up_is log up = up

pub memory_fails : (log : Log) (id : ℕ) (one : Answer) → log.failed ≡ None
    → MayAnswer log (Refuse id 2) one
    → (with_call log (Refuse id 2) one).failed ≡ Some InternalError
unfolding with_call refused_with refuse_fault first_of conditions may_lack_memory
memory_fails log id one up (accepts none is) =
    rw is refl
memory_fails log id one up (refuses refusal some is) =
    let none_failed = up_is log up in absurd (cc)
memory_fails log id one up (lacks none may is) = absurd (both_ways false refl may)
memory_fails log id one up (fails none may is) =
    rw is refl
