-- What an end represents that keeps of each stream what another one keeps.
use Rattle.h2_ends.proofs.Names.{◌≡◌, ℕ, ◌∙◌, End, EndLog, Values, EndRepresents, kept_at}

-- What is kept of each stream as before is represented as before.
pub kept_alike : (values : Values) (end new : End) (happened : EndLog)
    → EndRepresents values end happened → new.conn ≡ end.conn → new.role ≡ end.role
    → new.spans ≡ end.spans
    → ((i : ℕ) → kept_at i new.streams.entries ≡ kept_at i end.streams.entries)
    → EndRepresents values new happened
kept_alike values end new happened is conn role waiting same =
    record {
      streams = record {
        conn = rw conn is.streams.conn;
        role = role ∙ is.streams.role;
        streams = λ i. rw (same i) (is.streams.streams i);
        sent = is.streams.sent;
      };
      in_step = λ i. rw (waiting, same i) (is.in_step i);
      active = λ i. rw (same i) (is.active i);
    }
