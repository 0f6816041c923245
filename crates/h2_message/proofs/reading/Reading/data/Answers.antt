use Rattle.h2_message.proofs.Names.{◌≡◌, sym, ◌∙◌, refl, InBody, phase_after, phase_after_data}
use Rattle.h2_message.proofs.Names.{phase_in_body}
use Rattle.h2_message.proofs.ReadingParts.{no_octets, too_many, octets_of_any, octets_of_some}
use Rattle.h2_message.proofs.ReadingParts.{nothing_else}
use Rattle.h2_message.proofs.ReadingFollows.{data_follows, data_refused}
use Rattle.h2_message.proofs.reading.Reading.data.Goals as goal
use Rattle.h2_message.proofs.reading.Reading.data.Goals.{in-None, in-Some-2}

pub returns-in_default : goal.returns-in_default
returns-in_default c reads parts octets counted follows =
    data_refused reads parts octets c.args.end c.args.self.now.phase c.args.self.now c.args.self.now
    follows refl (no_octets reads c.args.self.now.phase octets c.args.end c.in_default.not-InBody)
    refl

pub returns-in-Some : goal.returns-in-Some
unfolding phase_after
returns-in-Some c reads parts octets counted follows =
    let left = c.in-InBody.left in
    data_refused reads parts octets c.args.end (InBody left) c.args.self.now c.args.self.now follows
    c.in-InBody.is (rw counted
    (too_many left c.in-Some.number c.args.count c.args.end c.in-Some.is c.if-number-count.true))
    refl

pub returns-in_default-in_body : goal.returns-in_default-in_body
unfolding phase_after
returns-in_default-in_body c reads parts octets counted follows =
    let left = c.in-InBody.left in
    let rest = c.match-left.rest in
    let end = c.args.end in
    let same : phase_in_body rest end ≡ phase_after_data left c.args.count end =
    elim c.match-left.branch [
      | in-None w ↦ octets_of_any left rest c.args.count end w.in-None.is w.rest-is
      | in-Some-2 w ↦
          octets_of_some left rest w.in-Some.number w.in-Some-2.number c.args.count end w.in-Some.is
          w.in-Some-2.is w.if-number-count.false w.rest-is
    ] in
    data_refused reads parts octets end (InBody left) c.args.self.now c.args.self.now follows
    c.in-InBody.is (rw counted (sym same ∙ sym c.in_body.ensures
    ∙ nothing_else c.in_body.result c.in_default-in_body.not-Some)) refl

pub returns : goal.returns
returns c reads parts octets counted follows =
    let left = c.in-InBody.left in
    let rest = c.match-left.rest in
    let end = c.args.end in
    let same : phase_in_body rest end ≡ phase_after_data left c.args.count end =
    elim c.match-left.branch [
      | in-None w ↦ octets_of_any left rest c.args.count end w.in-None.is w.rest-is
      | in-Some-2 w ↦
          octets_of_some left rest w.in-Some.number w.in-Some-2.number c.args.count end w.in-Some.is
          w.in-Some-2.is w.if-number-count.false w.rest-is
    ] in
    data_follows reads parts octets end left c.args.self.now _ follows c.in-InBody.is
    (rw counted (sym same ∙ sym c.in-Some-in_body.ensures)) refl refl
