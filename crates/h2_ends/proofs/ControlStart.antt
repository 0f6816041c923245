-- A new end represents that nothing has happened.
use Rattle.h2_ends.proofs.Names.{◌≡◌, ℕ, List, [], ◌++◌, None, refl, sym, ap, ◌∙◌, inl, inr}
use Rattle.h2_ends.proofs.Names.{both_ways, Role, Values, ConnRepresents, Token, End, Spans}
use Rattle.h2_ends.proofs.Names.{EndRepresents, IsInStep, SendsInOrder, owed_inactive, tokens_sent}
use Rattle.h2_ends.proofs.Names.{tokens_heard, said_for, parts_on, tokens_given, tokens_of_parts}
use Rattle.h2_ends.proofs.Names.{IsKept, new_end_log, opened}
use Rattle.h2_spec_log.specs.LogSteps.{with_sent}
use Rattle.h2_laws_machine.proofs.NewEnd.{new_is_active as none_active}

-- The log of a new end has its role, and no call.
opened_role : (role : Role) (values : Values) → (opened role values).role ≡ role
unfolding opened with_sent
opened_role role values = refl

opened_calls : (role : Role) (values : Values) → (opened role values).calls ≡ []
unfolding opened with_sent
opened_calls role values = refl

-- Without calls nothing was sent.
pub none_sent : (i : ℕ) → tokens_sent i [] ≡ []
unfolding tokens_sent
none_sent i = refl

-- Nothing is kept of any stream, and nothing has happened on it.
nothing_kept : (role : Role) (values : Values) (i : ℕ) → IsKept (new_end_log role values) i None
unfolding IsKept parts_on said_for
nothing_kept role values i =
    record {
      unread = refl;
      unsaid = refl;
      unsent = ap (tokens_sent i) (opened_calls role values) ∙ none_sent i;
    }

pub none_given : (i : ℕ) → said_for i [] ≡ None
unfolding said_for
none_given i = refl

-- So all that it was given to say is said,
new_sends : (role : Role) (values : Values) (i : ℕ) → SendsInOrder (new_end_log role values) i
unfolding tokens_given
new_sends role values i =
    let none = ap (tokens_sent i) (opened_calls role values) ∙ none_sent i in
    record {
      waiting = [];
      prefix = ap tokens_given (none_given i)
          ∙ ap (λ (tokens : List Token). tokens ++ []) (sym none);
      begun = λ given. absurd (given (none_given i));
    }

-- nothing was heard, and no stream is active.
new_in_step : (spans : Spans) (role : Role) (values : Values) (i : ℕ) →
    spans.turn ≡ record { id = 0; rest = 0 } → spans.malformed ≡ None
    → IsInStep spans None (new_end_log role values) i
unfolding opened with_sent tokens_heard tokens_of_parts parts_on
new_in_step spans role values i turn none =
    record {
      all = λ up alive. absurd (both_ways _ (none_active role values i) alive);
      handed = inl refl;
      within = λ waiting waits. cc;
      owes = λ some. absurd (some (owed_inactive (new_end_log role values).log i
          (none_active role values i)));
      turn = turn;
      malformed = none;
    }

pub starts : (role : Role) (values : Values) (end : End)
    → ConnRepresents values end.conn (opened role values) → end.role ≡ role
    → end.streams.entries ≡ [] → end.spans.turn ≡ record { id = 0; rest = 0 }
    → end.spans.malformed ≡ None
    → EndRepresents values end (new_end_log role values)
starts role values end conn is none turn unrefused =
    record {
      streams = record {
        conn = conn;
        role = is ∙ sym (opened_role role values);
        streams = λ i. inr (rw none (nothing_kept role values i));
        sent = new_sends role values;
      };
      in_step = λ i. rw none (new_in_step end.spans role values i turn unrefused);
      active = λ i. rw none (λ some. absurd (some refl));
    }
