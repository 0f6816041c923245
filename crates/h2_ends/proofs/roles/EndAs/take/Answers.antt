-- What is lent is what is handed out.
use Rattle.h2_ends.proofs.Names.{[], length, refl, ap, err_from_is_err_and, EndFailed}
use Rattle.h2_ends.specs.Loans.{BodyLiesThere, IsBodyHanded}
use Rattle.h2_ends.proofs.TakeMemory.{never_at_ends}
use Rattle.h2_ends.proofs.TakeSteps.{lent_so, used_so}
use Rattle.h2_ends.proofs.roles.EndAs.take.Goals as goal

pub returns-in_err-progress : goal.returns-in_err-progress
unfolding IsBodyHanded
returns-in_err-progress g c =
    let answer = err_from_is_err_and c.from_residual.result c.from_residual.ensures.1 in
    rw (answer.1, answer.2) (
      (refl, λ _. tt, λ values end is. c.in_err-progress.ensures.takes [] tt values end is),
      record {
        used = tt;
        after = tt;
        promised = λ values end is promised failed.
            let taken = c.in_err-progress.ensures.takes [] tt values end is in
            never_at_ends end taken.0 c.args.piece.now _ taken.1 promised (ap EndFailed failed);
      },
    )

pub lend-requires : goal.lend-requires
unfolding BodyLiesThere
lend-requires g c = record { lies = c.in_ok-progress.ensures.lies }

pub returns : goal.returns
unfolding IsBodyHanded
returns g c = (
  (
    refl,
    λ _. tt,
    λ values end is. lent_so values end c.args.piece.now _ _ _ c.lend.ensures.2
        (c.in_ok-progress.ensures.takes c.lend.ensures.0 c.lend.ensures.1 values end is),
  ),
  record {
    used = used_so c.in_ok-progress.progress.used (length c.args.piece.now) c.lend.result.used _ _
        c.lend.ensures.2 c.in_ok-progress.ensures.used;
    after = tt;
    promised = λ values end is promised. tt;
  },
)
