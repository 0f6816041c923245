-- What is lent is what has happened.
use Rattle.h2_conn.proofs.Names.{◌∙◌, ℕ, refl, sym, ap, Some, List, [], err_from_is_err_and, ◌≡◌}
use Rattle.h2_conn.proofs.Names.{option_map, happened_value, Event, CutterState, body_at, Complete}
use Rattle.h2_conn.proofs.Names.{IfSome, None, Option, IsSome}
use Rattle.h2_conn.specs.Loans.{frame_in}
use Rattle.h2_conn.proofs.TakeParts.{said_so}
use Rattle.h2_conn.proofs.conn.Conn.take.Goals as goal

pub returns-in_err-progress : goal.returns-in_err-progress
returns-in_err-progress c =
    let answer = err_from_is_err_and c.from_residual.result c.from_residual.ensures.1 in
    rw (answer.1, answer.2) (
      (refl, λ _. tt, λ values log p. c.in_err-progress.ensures.takes [] tt values log p),
      record { used = tt; after = tt; promised = c.in_err-progress.ensures.promised },
    )

pub returns-in_default : goal.returns-in_default
returns-in_default c =
    let value = option_map (happened_value c.advance.new.self.end.list
    []) in (
      (
        refl,
        λ _. tt,
        λ values log p. said_so values log c.args.piece.now c.in_ok-progress.progress.used _ _ _ _
            (sym (ap value c.in_default.is))
            (c.in_ok-progress.ensures.takes [] (rw c.in_default.is tt) values log p),
      ),
      record {
        used = c.in_ok-progress.ensures.used;
        after = tt;
        promised = λ values log p promised. tt;
      },
    )

-- The octets of a body that lies there.
some_of : (body : Option (List ℕ)) → IsSome body → (octets : List ℕ) × (body ≡ Some octets)
some_of None lies = cc
some_of (Some octets) lies = (octets, refl)

body_of : (cutter : CutterState) (piece : List ℕ) (frame : Option Complete)
    → IfSome frame (λ one. IsSome (body_at cutter piece one))
    → (octets : List ℕ) × IfSome frame (λ one. body_at cutter piece one ≡ Some octets)
body_of cutter piece None lies = ([], tt)
body_of cutter piece (Some one) lies = some_of (body_at cutter piece one) lies

pub returns : goal.returns
returns c =
    let body = body_of c.advance.new.self.cutter c.args.piece.now
    (frame_in (Some c.in-Some.event)) (rw c.in-Some.is at c.in_ok-progress.ensures.lies) in (
      (
        refl,
        λ _. tt,
        λ values log p. said_so values log c.args.piece.now c.in_ok-progress.progress.used _ _ _ _
            (ap (λ (o : Event). Some o) (c.lent.ensures body.0 body.1)
            ∙ sym (ap (option_map (happened_value c.advance.new.self.end.list body.0))
            c.in-Some.is))
            (c.in_ok-progress.ensures.takes body.0 (rw c.in-Some.is body.1) values log p),
      ),
      record {
        used = c.in_ok-progress.ensures.used;
        after = tt;
        promised = λ values log p promised. tt;
      },
    )
