-- By what is kept of the stream, and the lemmas on an end that has sent the head of a response.
use Rattle.h2_ends.proofs.Names.{refl, sym, ◌∙◌, Done, message_value, end_with_said, at_once}
use Rattle.h2_ends.proofs.Names.{given_stream}
use Rattle.h2_ends.specs.EndCalls.{answered_with, broken_by_answer}
use Rattle.h2_ends.proofs.LentStreams.{as_lent, given_lent, given_waiting}
use Rattle.h2_ends.proofs.RequestHeads.{respond_given, respond_waits}
use Rattle.h2_ends.proofs.RequestSent.{left_of_message, alone_waits_not}
use Rattle.h2_ends.proofs.RespondHeads.{nothing_asked, replies_not}
use Rattle.h2_ends.specs.declared.refusal.EndRefusal.TheVariants as refusals
use Rattle.h2_ends.proofs.end.End.respond.Goals as goal

pub returns-in_default : goal.returns-in_default
returns-in_default c = (
  refl,
  λ values end is.
      let message = message_value c.args.message in (
        end,
        replies_not (broken_by_answer end c.args.id message) end c.args.id (at_once message)
            refusals.NotAsked (nothing_asked end c.args.id
            (rw (← c.in_default.ensures.value) at (is.streams.streams c.args.id))),
        rw c.get_mut.follows.holds-at-none is,
      ),
)

pub returns-in-Err : goal.returns-in-Err
returns-in-Err c = (
  refl,
  λ values end is.
      let answers = c.in-Err.ensures values c.args.self.now end is refl refl
      c.in-Some.ensures.value in (
        answers.0,
        answers.1,
        as_lent c.args.self.now c.args.id c.in-Some.stream.now _ c.in-Some.ensures.value
            (c.get_mut.follows.holds c.in-Some.stream.now) values c.answer.new.conn answers.0
            answers.2,
      ),
)

pub returns-then-is_whole : goal.returns-then-is_whole
returns-then-is_whole c = (
  tt,
  λ values end is.
      let said = at_once (message_value c.args.message) in
      let id = c.args.id in
      let old = c.args.self.now in
      let stream = c.in-Some.stream.now in
      let outgoing = c.outgoing_of.result in
      let was = c.in-Some.ensures.value in
      let both = c.in_default-answer.ensures values old end is refl refl was in
      let after = end_with_said end (answered_with id said) Done id said in
      let gives = given_lent old id stream _ was c.answer.new.conn outgoing
      (alone_waits_not c.args.message outgoing c.outgoing_of.ensures
      (sym c.is_head_alone-is_whole.ensures ∙ c.if-is_whole.true))
      (c.get_mut.follows.holds (given_stream outgoing stream)) in (
        after,
        both.1,
        c.forget_if_over.ensures.represents values after (respond_given values old
            (record old { conn = c.answer.new.conn }) _ end id said outgoing is both.0 gives
            (left_of_message after id c.args.message outgoing c.outgoing_of.ensures
            both.0.fits)),
      ),
)

pub returns : goal.returns
returns c = (
  tt,
  λ values end is.
      let said = at_once (message_value c.args.message) in
      let id = c.args.id in
      let old = c.args.self.now in
      let stream = c.in-Some.stream.now in
      let outgoing = c.outgoing_of.result in
      let was = c.in-Some.ensures.value in
      let both = c.in_default-answer.ensures values old end is refl refl was in
      let after = end_with_said end (answered_with id said) Done id said in
      let gives = given_waiting old id stream _ was c.answer.new.conn outgoing c.with-self.result
      c.with-self.ensures.here c.with-self.ensures.more
      (c.get_mut.follows.holds (given_stream outgoing stream)) in (
        after,
        both.1,
        respond_waits values old (record old { conn = c.answer.new.conn }) _ end id said outgoing
            (sym c.is_head_alone-is_whole.ensures ∙ c.if-is_whole.false) is both.0 gives
            (left_of_message after id c.args.message outgoing c.outgoing_of.ensures both.0.fits),
      ),
)
