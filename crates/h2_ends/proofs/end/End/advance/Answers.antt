-- What the connection answers is handed out.
use Rattle.h2_ends.proofs.Names.{[], refl, err_from_is_err_and}
use Rattle.h2_ends.specs.Loans.{BodyLiesThere, IsBodyHanded, BodyLiesIn}
use Rattle.h2_ends.proofs.TakeSteps.{fails_so, nothing_so, reports_so}
use Rattle.h2_ends.proofs.end.End.advance.Goals as goal

pub returns-in_err-progress : goal.returns-in_err-progress
unfolding BodyLiesThere
returns-in_err-progress c =
    let answer = err_from_is_err_and c.from_residual.result c.from_residual.ensures.1 in
    rw (answer.1, answer.2) (record {
      used = tt;
      lies = tt;
      takes = λ octets none values end is. fails_so values c.args.self.now
          (record c.args.self.now { conn = c.advance.new.self }) end c.args.piece.now is refl refl
          refl _ (c.in_err-progress.ensures.takes [] tt values end.log is.streams.conn);
    })

pub returns-in-None : goal.returns-in-None
unfolding BodyLiesThere BodyLiesIn
returns-in-None c =
    record {
      used = c.in_ok-progress.ensures.used;
      lies = tt;
      takes = λ octets none values end is. nothing_so values c.args.self.now
          (record c.args.self.now { conn = c.advance.new.self }) end c.args.piece.now is refl refl
          refl c.in_ok-progress.progress.used
          (rw c.in-None.is at (c.in_ok-progress.ensures.takes []
          (rw c.in-None.is tt) values end.log is.streams.conn));
    }

pub returns-in_err-hand_out-in-Some : goal.returns-in_err-hand_out-in-Some
unfolding BodyLiesThere
returns-in_err-hand_out-in-Some c =
    let answer = err_from_is_err_and c.from_residual-in_err-hand_out-in-Some.result
    c.from_residual-in_err-hand_out-in-Some.ensures.1 in
    let hands = c.in_err-hand_out-in-Some.ensures.hands [] tt in
    rw (answer.1, answer.2) (record {
      used = tt;
      lies = tt;
      takes = λ octets none values end is.
          let told = rw c.in-Some.is at (c.in_ok-progress.ensures.takes hands.0
          (rw c.in-Some.is hands.1) values end.log is.streams.conn) in
          hands.2 values end c.in_ok-progress.progress.used told.0
          (reports_so values c.args.self.now (record c.args.self.now { conn = c.advance.new.self })
          end c.args.piece.now is refl refl refl c.in_ok-progress.progress.used _ told);
    })

pub returns-in_ok-hand_out-in-Some : goal.returns-in_ok-hand_out-in-Some
unfolding BodyLiesThere IsBodyHanded
returns-in_ok-hand_out-in-Some c =
    record {
      used = c.in_ok-progress.ensures.used;
      lies = c.in_ok-hand_out-in-Some.ensures.lies;
      takes = λ octets body values end is.
          let hands = c.in_ok-hand_out-in-Some.ensures.hands octets body in
          let told = rw c.in-Some.is at (c.in_ok-progress.ensures.takes hands.0
          (rw c.in-Some.is hands.1) values end.log is.streams.conn) in
          hands.2 values end c.in_ok-progress.progress.used told.0
          (reports_so values c.args.self.now (record c.args.self.now { conn = c.advance.new.self })
          end c.args.piece.now is refl refl refl c.in_ok-progress.progress.used _ told);
    }
