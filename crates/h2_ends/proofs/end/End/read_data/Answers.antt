use Rattle.h2_ends.proofs.Names.{◌≡◌, ℕ, List, length, true, Some, refl, sym, ap, Values, EndLog}
use Rattle.h2_ends.proofs.Names.{OctetsPart, IsReadOn, ReadsData}
use Rattle.std.specs.Option.{is_some}
use Rattle.h2_ends.proofs.TableSteps.{keeps_but}
use Rattle.h2_ends.proofs.TakeReads.{IsReadBut, with_reading, first_data, data_taken, data_refused}
use Rattle.h2_ends.proofs.InSteps.{represents_all}
use Rattle.h2_ends.proofs.end.End.read_data.Goals.{After-data}
use Rattle.h2_ends.proofs.end.End.read_data.Goals as goal

pub returns-in_default-clause-reads : goal.returns-in_default-clause-reads
returns-in_default-clause-reads c = λ values happened octets counted is.
    rw c.get_mut.follows.holds-at-none
    (first_data values c.args.self.now happened c.args.id octets c.args.end is
    (sym c.in_default.ensures.value))

pub returns-then-not-data-clause-reads : goal.returns-then-not-data-clause-reads
returns-then-not-data-clause-reads c = λ values happened octets counted is.
    let stream = c.in-Some.stream.now in
    let found = sym c.in-Some.ensures.value in
    let holds = c.get_mut.follows.holds (with_reading stream c.data.new.self) in
    data_refused values c.args.self.now _ happened c.args.id c.args.end stream c.data.new.self
    found (keeps_but c.args.self.now _ c.args.id (Some (with_reading stream c.data.new.self))
    (holds.changes (ap is_some found))) refl refl refl octets c.broken_by_data-rule.result is
    (λ reads parts follows.
    rw c.if-not-data.true at c.data.ensures reads parts octets counted follows)
    (λ reads parts follows. c.broken_by_data-rule.ensures reads parts octets counted follows)

-- What is kept once the octets were read.
taken : (c : After-data) → c.data.result ≡ true → (values : Values) (happened : EndLog)
    (octets : List ℕ) → length octets ≡ c.args.count
    → IsReadOn values c.args.self.now happened c.args.id (OctetsPart octets, c.args.end)
    → IsReadBut values happened c.args.id (OctetsPart octets, c.args.end) (record c.args.self.now {
      streams = c.get_mut.follows.lender (with_reading c.in-Some.stream.now c.data.new.self);
    })
taken c read values happened octets counted is =
    let stream = c.in-Some.stream.now in
    let found = sym c.in-Some.ensures.value in
    let holds = c.get_mut.follows.holds (with_reading stream c.data.new.self) in
    data_taken values c.args.self.now _ happened c.args.id c.args.end stream c.data.new.self found
    (keeps_but c.args.self.now _ c.args.id (Some (with_reading stream c.data.new.self))
    (holds.changes (ap is_some found))) refl refl refl octets is
    (λ reads parts follows. rw read at c.data.ensures reads parts octets counted follows)

pub returns-then-end-clause-reads : goal.returns-then-end-clause-reads
unfolding ReadsData
returns-then-end-clause-reads c = λ values happened octets counted is.
    let read = taken (goal.at.returns-then-end-clause-reads c).After-data c.if-not-data.false
    values happened octets counted is in
    (read.0, c.forget_if_over.ensures.represents values _ read.1)

pub returns-else-end-clause-reads : goal.returns-else-end-clause-reads
unfolding ReadsData
returns-else-end-clause-reads c = λ values happened octets counted is.
    let read = taken (goal.at.returns-else-end-clause-reads c).After-data c.if-not-data.false
    values happened octets counted is in
    (read.0, represents_all values _ _ c.args.id read.1 (read.2 c.if-end.false))
