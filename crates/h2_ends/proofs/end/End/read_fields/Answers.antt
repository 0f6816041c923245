use Rattle.h2_ends.proofs.Names.{◌≡◌, Some, refl, sym, ap, Values, EndLog, FieldsPart, Place}
use Rattle.h2_ends.proofs.Names.{parts_on, IsReadOn, reads_on, ReadsFields, place_after}
use Rattle.std.specs.Option.{is_some}
use Rattle.h2_ends.proofs.TableSteps.{keeps_but}
use Rattle.h2_ends.proofs.TakeReads.{IsReadBut, with_reading, fields_taken, fields_refused}
use Rattle.h2_ends.proofs.InSteps.{represents_all}
use Rattle.h2_ends.proofs.end.End.read_fields.Goals.{After-fields}
use Rattle.h2_ends.proofs.end.End.read_fields.Goals as goal

pub returns-in_default-fields-clause-reads : goal.returns-in_default-fields-clause-reads
returns-in_default-fields-clause-reads c = λ values happened is.
    let stream = c.in-Some.stream.now in
    let found = sym c.in-Some.ensures.value in
    let holds = c.get_mut.follows.holds (with_reading stream c.fields.new.self) in
    fields_refused values c.args.self.now _ happened c.args.id c.args.end stream c.fields.new.self
    found (keeps_but c.args.self.now _ c.args.id (Some (with_reading stream c.fields.new.self))
    (holds.changes (ap is_some found))) refl refl refl _ c.broken_by_fields-rule.result is
    (λ reads parts follows. rw c.list.ensures at c.in_default-fields.ensures reads parts follows)
    (λ reads parts follows.
    rw c.list-in_default-fields.ensures at c.broken_by_fields-rule.ensures reads parts follows)

-- What is kept once the fields were read.
taken : (c : After-fields) (place : Place) → c.fields.result ≡ Some place → (values : Values)
    (happened : EndLog)
    → IsReadOn values c.args.self.now happened c.args.id
    (FieldsPart c.args.self.now.conn.end.list, c.args.end)
    → IsReadBut values happened c.args.id
    (FieldsPart c.args.self.now.conn.end.list, c.args.end) (record c.args.self.now {
      streams = c.get_mut.follows.lender (with_reading c.in-Some.stream.now c.fields.new.self);
    })
    × (place ≡ place_after (reads_on happened c.args.id) (parts_on c.args.id happened.handed)
    c.args.self.now.conn.end.list)
taken c place read values happened is =
    let stream = c.in-Some.stream.now in
    let found = sym c.in-Some.ensures.value in
    let holds = c.get_mut.follows.holds (with_reading stream c.fields.new.self) in
    fields_taken values c.args.self.now _ happened c.args.id c.args.end stream c.fields.new.self
    found (keeps_but c.args.self.now _ c.args.id (Some (with_reading stream c.fields.new.self))
    (holds.changes (ap is_some found))) refl refl refl _ place is
    (λ reads parts follows. rw (c.list.ensures, read) at c.fields.ensures reads parts follows)

pub returns-then-end-clause-reads : goal.returns-then-end-clause-reads
unfolding ReadsFields
returns-then-end-clause-reads c = λ values happened is.
    let read = taken (goal.at.returns-then-end-clause-reads c).After-fields
    c.in-Some-fields.place c.in-Some-fields.is values happened is in
    ((read.0.0, c.forget_if_over.ensures.represents values _ read.0.1), read.1)

pub returns-else-end-clause-reads : goal.returns-else-end-clause-reads
unfolding ReadsFields
returns-else-end-clause-reads c = λ values happened is.
    let read = taken (goal.at.returns-else-end-clause-reads c).After-fields
    c.in-Some-fields.place c.in-Some-fields.is values happened is in (
      (read.0.0, represents_all values _ _ c.args.id read.0.1 (read.0.2 c.if-end.false)),
      read.1,
    )
