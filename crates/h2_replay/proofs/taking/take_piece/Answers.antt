-- By the lemmas on a call of `take`, and what is kept of it.
use Rattle.h2_replay.proofs.Names.{sym, subst, take, length, Next, GoesOn, IsWithinPiece}
use Rattle.h2_replay.proofs.Names.{taken_answer, taken_events}
use Rattle.h2_replay.proofs.StepTakes.{take_adds}
use Rattle.h2_replay.proofs.TakingLemmas.{goes_on_of, is_within, take_keeps, used_are, joined_are}
use Rattle.h2_replay.proofs.TakingLemmas.{same_events}
use Rattle.h2_replay.proofs.taking.take_piece.Goals as goal

pub returns-clause-within : goal.returns-clause-within
returns-clause-within c =
    subst (λ (n : Next). IsWithinPiece n (length c.args.piece.now)) (sym c.in_ok-next.ensures.next)
    (is_within c.in_ok-taking.taking (length c.args.piece.now) c.in_ok-taking.ensures.used)

pub returns-clause-takes : goal.returns-clause-takes
returns-clause-takes c values log represents =
    let taking = c.in_ok-taking.taking in
    let piece = c.args.piece.now in
    let from = c.in_ok-taking.ensures.takes values log represents in
    let adds = take_adds log from.after piece (taken_answer taking) from.may in
    record {
      after = from.after;
      goes_on = subst (λ (n : Next). GoesOn log piece n from.after)
          (sym c.in_ok-next.ensures.next)
          (goes_on_of log from.after piece taking from.may c.in_ok-taking.ensures.used);
      keeps = take_keeps log from.after (taken_answer taking) (take taking.used piece)
          c.in_ok-joined.joined.items (taken_events taking) _ _ adds
          (used_are log from.after (taken_answer taking) (take taking.used piece) adds from.input)
          (joined_are log from.after (taken_answer taking) c.waiting-waited.result
          c.in_ok-joined.joined.items adds represents.machine.output.given
          (c.waiting-waited.ensures.count values log represents)
          (c.in_ok-joined.ensures values from.after from.represents))
          (same_events taking) c.in_ok-next.ensures.kept;
      represents = from.represents;
    }
