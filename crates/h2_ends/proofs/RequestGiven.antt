-- What an end keeps of a stream that was given a message.
use Rattle.h2_ends.proofs.Names.{◌≡◌, ℕ, Some, None, refl, ◌∙◌, End, Stream, Span, InSpan}
use Rattle.h2_ends.proofs.Names.{Outgoing, Waiting, kept_at, IsGiven, given_stream}
use Rattle.h2_ends.specs.declared.outgoing.Outgoing.TheVariants as outgoings
use Rattle.h2_ends.proofs.TableSteps.{SetsValue, keeps_but}

-- The span of those that wait has the number too, where something waits, and all else is as
-- before.
pub record IsWidened (old : End) (id : ℕ) (outgoing : Outgoing) (new : End) : Type 0 where
  pub conn : new.conn ≡ old.conn
  pub role : new.role ≡ old.role
  pub streams : new.streams ≡ old.streams
  pub more : (i : ℕ) → InSpan old.spans.waiting i → InSpan new.spans.waiting i
  pub here : (waiting : Waiting) → outgoing ≡ outgoings.Waiting waiting
      → InSpan new.spans.waiting id
  pub owing : new.spans.owing ≡ old.spans.owing
  pub turn : new.spans.turn ≡ old.spans.turn
  pub malformed : new.spans.malformed ≡ old.spans.malformed

-- So it is by the test whether something waits.
pub with_span : (old : End) (id : ℕ) (outgoing : Outgoing) (span : Span) → InSpan span id
    → ((i : ℕ) → InSpan old.spans.waiting i → InSpan span i)
    → IsWidened old id outgoing (record old { spans = record old.spans { waiting = span } })
with_span old id outgoing span here more =
    record {
      conn = refl;
      role = refl;
      streams = refl;
      more = more;
      here = λ waiting waits. here;
      owing = refl;
      turn = refl;
      malformed = refl;
    }

pub with_none : (old : End) (id : ℕ) (outgoing : Outgoing)
    → ((waiting : Waiting) → outgoing ≡ outgoings.Waiting waiting → ⊥)
    → IsWidened old id outgoing old
with_none old id outgoing none =
    record {
      conn = refl;
      role = refl;
      streams = refl;
      more = λ i within. within;
      here = λ waiting waits. absurd (none waiting waits);
      owing = refl;
      turn = refl;
      malformed = refl;
    }

-- This is given to the stream of which something is kept.
pub given_here : (old mid new : End) (id : ℕ) (outgoing : Outgoing) (stream set : Stream)
    → IsWidened old id outgoing mid → Some stream ≡ kept_at id mid.streams.entries
    → set ≡ given_stream outgoing stream → new.conn ≡ mid.conn → new.role ≡ mid.role
    → new.spans ≡ mid.spans
    → SetsValue id (Some set) mid.streams.entries new.streams.entries
    → IsGiven old id outgoing new
given_here old mid new id outgoing stream set widened was is conn role waiting changes =
    let keeps = keeps_but mid new id (Some set) changes in
    record {
      conn = conn ∙ widened.conn;
      role = role ∙ widened.role;
      keeps = record {
        one = rw (← widened.streams, ← was, ← is) keeps.one;
        others = λ i other. rw (← widened.streams) (keeps.others i other);
      };
      more = rw waiting widened.more;
      here = rw waiting widened.here;
      owing = rw waiting widened.owing;
      turn = rw waiting widened.turn;
      malformed = rw waiting widened.malformed;
    }

-- Where nothing is kept of the stream, all else is as before.
pub given_nowhere : (old mid new : End) (id : ℕ) (outgoing : Outgoing)
    → IsWidened old id outgoing mid → None ≡ kept_at id mid.streams.entries
    → new.conn ≡ mid.conn → new.role ≡ mid.role → new.streams ≡ mid.streams
    → new.spans ≡ mid.spans → IsGiven old id outgoing new
given_nowhere old mid new id outgoing widened none conn role same waiting =
    record {
      conn = conn ∙ widened.conn;
      role = role ∙ widened.role;
      keeps = record {
        one = rw (← widened.streams, same, ← none) refl;
        others = λ i other. rw (← widened.streams, same) refl;
      };
      more = rw waiting widened.more;
      here = rw waiting widened.here;
      owing = rw waiting widened.owing;
      turn = rw waiting widened.turn;
      malformed = rw waiting widened.malformed;
    }
