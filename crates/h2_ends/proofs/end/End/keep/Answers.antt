-- This is given to the stream where something is kept of it.
use Rattle.h2_ends.proofs.Names.{ap, sym, refl}
use Rattle.std.specs.Option.{is_some}
use Rattle.h2_ends.proofs.RequestGiven.{IsWidened, with_span, with_none, given_here, given_nowhere}
use Rattle.h2_ends.proofs.Names.{both_ways}
use Rattle.h2_ends.proofs.end.End.keep.Goals.{in-Waiting, in_default, then-matches, else-matches}
use Rattle.h2_ends.proofs.end.End.keep.Goals as goal

pub returns-in-Some : goal.returns-in-Some
returns-in-Some c =
    let widened : IsWidened c.args.self.now c.args.id c.args.outgoing c.if-matches.self =
    elim c.if-matches.branch [
      | then-matches w ↦ rw w.self-is (with_span c.args.self.now c.args.id
          c.args.outgoing w.with-self.result w.with-self.ensures.here w.with-self.ensures.more)
      | else-matches w ↦ rw w.self-is (with_none c.args.self.now c.args.id c.args.outgoing
          (λ waiting waits. elim c.match-matches.branch [
            | in-Waiting v ↦ both_ways _ w.if-matches.false v.matches-is
            | in_default v ↦ v.in_default.not-Waiting waiting waits
          ]))
    ] in
    let stream = record c.in-Some.stream.now { outgoing = c.args.outgoing } in
    let holds = c.get_mut.follows.holds stream in
    let some = ap is_some (sym c.in-Some.ensures.value) in
    given_here c.args.self.now c.if-matches.self _ c.args.id c.args.outgoing
    c.in-Some.stream.now stream widened c.in-Some.ensures.value refl
    refl refl refl (holds.changes some)

pub returns-in_default-get_mut : goal.returns-in_default-get_mut
returns-in_default-get_mut c =
    let widened : IsWidened c.args.self.now c.args.id c.args.outgoing c.if-matches.self =
    elim c.if-matches.branch [
      | then-matches w ↦ rw w.self-is (with_span c.args.self.now c.args.id
          c.args.outgoing w.with-self.result w.with-self.ensures.here w.with-self.ensures.more)
      | else-matches w ↦ rw w.self-is (with_none c.args.self.now c.args.id c.args.outgoing
          (λ waiting waits. elim c.match-matches.branch [
            | in-Waiting v ↦ both_ways _ w.if-matches.false v.matches-is
            | in_default v ↦ v.in_default.not-Waiting waiting waits
          ]))
    ] in
    given_nowhere c.args.self.now c.if-matches.self _ c.args.id c.args.outgoing widened
    c.in_default-get_mut.ensures.value refl refl c.get_mut.follows.holds-at-none refl
