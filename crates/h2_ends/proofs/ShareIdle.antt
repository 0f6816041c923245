-- A stream on which nothing waits gets no share.
use Rattle.h2_ends.proofs.Names
use Names.{◌≡◌, ◌≢◌, inl, inr, ℕ, [], Option, Some, refl, sym, ap, ◌∙◌, both_ways}
use Names.{drop-append_seam, append-nil, drop, length, kept_at, Values}
use Names.{Said, End, Stream, Waiting, Outgoing, Idle, EndLog, Ok, said_for}
use Names.{said_tokens, tokens_out, tokens_waiting, keeps_of, EndRepresents, IsOutgoing}
use Names.{outgoing_in, NoneWaits, subst, KeepsActive, IsInStep}
use Rattle.h2_numbers.specs.Entries.{NumberEntries}
use Rattle.h2_ends.specs.declared.passing.Pass.{Pass}
use Rattle.h2_ends.specs.Passes.{Waits}
unfoldable use Rattle.h2_ends.specs.Passing.{IsShared}
use Rattle.h2_ends.specs.Passing.{GivesShare}
use Rattle.h2_ends.proofs.EndSteps.{outgoing_kept}
use Rattle.h2_ends.proofs.PumpEnds.{by_end, to_end}
use Rattle.h2_ends.proofs.PumpTokens.{said_is, none_unsaid}
use Rattle.h2_ends.proofs.SendingStreams.{with_streams, all_as}
use Rattle.h2_ends.specs.declared.outgoing.Outgoing.TheVariants as outgoings

-- Where all that was given was sent, no token waits.
none_out : (end : EndLog) (id : ℕ) (said : Said) → said_for id end.accepted ≡ Some said
    → said_tokens said ≡ tokens_out end id → tokens_waiting end id ≡ []
none_out end id said accepted all =
    ap (drop (length (tokens_out end id)))
    (said_is end id said accepted ∙ all ∙ sym (append-nil (tokens_out end id)))
    ∙ drop-append_seam (tokens_out end id) []

-- So it is where no message waits.
none_by : (end : EndLog) (id : ℕ) (outgoing : Outgoing) → IsOutgoing end id outgoing
    → ((waits : Waiting) → outgoing ≢ outgoings.Waiting waits) → tokens_waiting end id ≡ []
unfolding IsOutgoing
none_by end id outgoings.NotGiven is other = none_unsaid end id is.0
none_by end id (outgoings.Open rest) is other = none_out end id is.said is.accepted is.out
none_by end id (outgoings.Waiting waits) is other = absurd (other waits refl)
none_by end id outgoings.Sent is other = none_out end id is.said is.accepted is.out

pub none_waits : (values : Values) (end : End) (happened : EndLog) (i : ℕ)
    → EndRepresents values end happened → NoneWaits end i → Waits happened i → ⊥
none_waits values end happened i is none waits = elim (is.streams.streams i) [
  | inl past ↦ both_ways _ past.not_active waits.active
  | inr here ↦ waits.some (none_by happened i (outgoing_in (keeps_of end i))
      (outgoing_kept happened i (keeps_of end i) here) none)
]

-- An end that keeps the same of each stream represents the same.
pub same_represents : (values : Values) (old : End) (streams : NumberEntries Stream)
    (happened : EndLog) → ((i : ℕ) → kept_at i streams.entries ≡ keeps_of old i)
    → EndRepresents values old happened
    → EndRepresents values (with_streams old old.conn streams) happened
same_represents values old streams happened same is =
    record {
      streams = to_end values (with_streams old old.conn streams) (keeps_of old) happened
          (by_end values old happened is.streams) same;
      in_step = λ i. subst (λ (x : Option Stream). IsInStep old.spans x happened i) (sym (same i))
          (is.in_step i);
      active = λ i. subst (λ (x : Option Stream). KeepsActive happened.log x i) (sym (same i))
          (is.active i);
    }

-- The pass goes on past it.
pub idle_share : (old : End) (id : ℕ) (pass : Pass) (streams : NumberEntries Stream)
    → ((i : ℕ) → kept_at i streams.entries ≡ keeps_of old i) → NoneWaits old id
    → GivesShare old id pass (Ok Idle) (with_streams old old.conn streams) pass
unfolding IsShared
idle_share old id pass streams same none =
    record {
      waits = all_as old old.conn streams id same;
      same = record { most = refl; turn = refl };
      left = refl;
      shared = λ values happened is up alive few. (
        happened,
        (
          refl,
          none_waits values old happened id is none,
          λ waits waiting_is. none waits (ap outgoing_in (sym (same id)) ∙ waiting_is),
          refl,
          same_represents values old streams happened same is,
        ),
      );
    }
