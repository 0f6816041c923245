-- What is reported is handed out, or the stream is refused.
use Rattle.h2_ends.proofs.Names.{◌≡◌, [], refl, sym, ap, ResetEvent, Conn, end_with_log, Option}
use Rattle.h2_ends.proofs.Names.{code_unread, tokens_of_event, part_of_event, take_has_fields}
use Rattle.h2_ends.proofs.Names.{take_has_data, take_may_close, event_may_close, UnprocessedEvent}
use Rattle.h2_ends.proofs.Names.{GoAwayEvent, AckedEvent, PongEvent, Some, None, List, ℕ, true}
use Rattle.h2_ends.proofs.Names.{false, both_ways}
use Rattle.std.proofs.Common.{is_some}
use Rattle.h2_ends.specs.Loans.{BodyLiesIn, IsBodyIn}
use Rattle.h2_ends.proofs.TakeHands.{fields_on, data_on, event_passed, plain_passed, fields_handed}
use Rattle.h2_ends.proofs.TakeHands.{part_lies, fields_not_handed, data_handed, data_not_handed}
use Rattle.h2_ends.proofs.TakeHands.{reset_lies}
use Rattle.h2_ends.proofs.TakeInStep.{reset_but, unprocessed_but}
use Rattle.h2_ends.proofs.end.End.hand_out.Goals as goal

pub returns-in-Ok-read_data-clause-lies : goal.returns-in-Ok-read_data-clause-lies
unfolding BodyLiesIn
returns-in-Ok-read_data-clause-lies c =
    rw c.read_data.ensures.conn (rw c.in-Data.is at c.requires.lies)

pub returns-in-Ok-read_data-clause-hands : goal.returns-in-Ok-read_data-clause-hands
unfolding IsBodyIn
returns-in-Ok-read_data-clause-hands c = λ octets body.
    let lies = rw c.read_data.ensures.conn at body in (
      octets,
      rw c.in-Data.is lies,
      λ values end count log reported.
          let said = rw c.in-Data.is at reported in
          data_handed values c.args.self.now c.read_data.new.self end c.args.piece.now count
          c.in-Data.id octets c.in-Data.flow c.in-Data.end log said
          (c.in-Ok-read_data.ensures.reads values (end_with_log end log) octets
          (sym (c.body_len.ensures c.args.self.now.conn.cutter _ octets lies))
          (data_on values c.args.self.now end c.args.piece.now count c.in-Data.id octets
          c.in-Data.flow c.in-Data.end log c.with-self.result c.with-self.ensures.here
          c.with-self.ensures.more said)),
    )

pub returns-in-Err-read_data-clause-lies : goal.returns-in-Err-read_data-clause-lies
returns-in-Err-read_data-clause-lies c =
    reset_lies _ c.args.piece.now c.in-Data.id (code_unread c.in-Err-read_data.unread)
    c.refuse-in-Err-read_data.result c.refuse-in-Err-read_data.ensures.resets

-- octets that are there
octets_there : (octets : Option (List ℕ)) → is_some octets ≡ true
    → (some : List ℕ) × (octets ≡ Some some)
octets_there (Some octets) there = (octets, refl)
octets_there None there = absurd (both_ways false refl there)

pub returns-in-Err-read_data-clause-hands : goal.returns-in-Err-read_data-clause-hands
returns-in-Err-read_data-clause-hands c = λ octets none.
    let there = octets_there _ (rw c.in-Data.is at c.requires.lies) in
    let lent = there.0 in (
      lent,
      rw c.in-Data.is there.1,
      λ values end count log reported.
          let said = rw c.in-Data.is at reported in
          data_not_handed values c.args.self.now c.read_data.new.self
          c.refuse-in-Err-read_data.new.self end c.args.piece.now count c.in-Data.id lent
          c.in-Data.flow c.in-Data.end
          c.in-Err-read_data.unread log _ octets c.refuse-in-Err-read_data.result said
          (c.in-Err-read_data.ensures.reads values (end_with_log end log) lent
          (sym (c.body_len.ensures c.args.self.now.conn.cutter _ lent there.1))
          (data_on values c.args.self.now end c.args.piece.now count c.in-Data.id lent
          c.in-Data.flow c.in-Data.end log c.with-self.result c.with-self.ensures.here
          c.with-self.ensures.more said))
          (c.refuse-in-Err-read_data.ensures.answers values (end_with_log end log))
          c.refuse-in-Err-read_data.ensures.resets,
    )

pub returns-in-Ok-clause-lies : goal.returns-in-Ok-clause-lies
returns-in-Ok-clause-lies c =
    rw c.part_at.ensures
    (part_lies _ c.args.piece.now c.in-Ok.place c.in-Fields.id c.in-Fields.end)

pub returns-in-Ok-clause-hands : goal.returns-in-Ok-clause-hands
returns-in-Ok-clause-hands c = λ octets none. (
  [],
  rw c.in-Fields.is tt,
  λ values end count log reported.
      let said = rw c.in-Fields.is at reported in
      rw c.part_at.ensures (fields_handed values c.args.self.now c.read_fields.new.self end
      c.args.piece.now count c.in-Fields.id _ c.in-Fields.end c.in-Ok.place log said
      (c.in-Ok.ensures.reads values (end_with_log end log)
      (fields_on values c.args.self.now end c.args.piece.now count c.in-Fields.id _
      c.in-Fields.end log said)) _ octets
      (ap (λ (conn : Conn). conn.end.list) c.read_fields.ensures.conn)),
)

pub returns-in-Err-clause-lies : goal.returns-in-Err-clause-lies
returns-in-Err-clause-lies c =
    reset_lies _ c.args.piece.now c.in-Fields.id (code_unread c.in-Err.unread) c.refuse.result
    c.refuse.ensures.resets

pub returns-in-Err-clause-hands : goal.returns-in-Err-clause-hands
returns-in-Err-clause-hands c = λ octets none. (
  [],
  rw c.in-Fields.is tt,
  λ values end count log reported.
      let said = rw c.in-Fields.is at reported in
      fields_not_handed values c.args.self.now c.read_fields.new.self c.refuse.new.self end
      c.args.piece.now count c.in-Fields.id _ c.in-Fields.end c.in-Err.unread log _ octets
      c.refuse.result said
      (c.in-Err.ensures.reads values (end_with_log end log)
      (fields_on values c.args.self.now end c.args.piece.now count c.in-Fields.id _
      c.in-Fields.end log said))
      (c.refuse.ensures.answers values (end_with_log end log)) c.refuse.ensures.resets,
)

pub returns-in-Reset : goal.returns-in-Reset
unfolding BodyLiesIn part_of_event
returns-in-Reset c =
    record {
      lies = tt;
      hands = λ octets none. rw c.in-Reset.is (
        [],
        tt,
        λ values end count log said. event_passed values c.args.self.now c.forget_if_over.new.self
            end c.args.piece.now count (ResetEvent c.in-Reset.id c.in-Reset.code c.in-Reset.ours)
            log said refl (c.forget_if_over.ensures.represents values (end_with_log end log)
            (reset_but values c.args.self.now end c.args.piece.now count c.in-Reset.id
            c.in-Reset.code c.in-Reset.ours log said)),
      );
    }

pub returns-in-Unprocessed : goal.returns-in-Unprocessed
unfolding BodyLiesIn part_of_event
returns-in-Unprocessed c =
    record {
      lies = tt;
      hands = λ octets none. rw c.in-Unprocessed.is (
        [],
        tt,
        λ values end count log said. event_passed values c.args.self.now
            c.forget_if_over-in-Unprocessed.new.self end c.args.piece.now count
            (UnprocessedEvent c.in-Unprocessed.id) log said refl
            (c.forget_if_over-in-Unprocessed.ensures.represents values (end_with_log end log)
            (unprocessed_but values c.args.self.now end c.args.piece.now count c.in-Unprocessed.id
            log said)),
      );
    }

pub returns-in-GoAway : goal.returns-in-GoAway
unfolding BodyLiesIn part_of_event tokens_of_event take_has_fields take_has_data take_may_close
    event_may_close
returns-in-GoAway c =
    record {
      lies = tt;
      hands = λ octets none. rw c.in-GoAway.is (
        [],
        tt,
        λ values end count log said. plain_passed values c.args.self.now end c.args.piece.now count
            (GoAwayEvent c.in-GoAway.last c.in-GoAway.code) log said refl (λ i. refl) (λ i. refl)
            (λ i. refl) (λ i. refl),
      );
    }

pub returns-in-Acked : goal.returns-in-Acked
unfolding BodyLiesIn part_of_event tokens_of_event take_has_fields take_has_data take_may_close
    event_may_close
returns-in-Acked c =
    record {
      lies = tt;
      hands = λ octets none. rw c.in-Acked.is (
        [],
        tt,
        λ values end count log said. plain_passed values c.args.self.now end c.args.piece.now count
            AckedEvent log said refl (λ i. refl) (λ i. refl) (λ i. refl) (λ i. refl),
      );
    }

pub returns-in-Pong : goal.returns-in-Pong
unfolding BodyLiesIn part_of_event tokens_of_event take_has_fields take_has_data take_may_close
    event_may_close
returns-in-Pong c =
    record {
      lies = tt;
      hands = λ octets none. rw c.in-Pong.is (
        [],
        tt,
        λ values end count log said. plain_passed values c.args.self.now end c.args.piece.now count
            (PongEvent c.in-Pong.octets) log said refl (λ i. refl) (λ i. refl) (λ i. refl)
            (λ i. refl),
      );
    }
