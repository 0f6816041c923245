-- The configuration is the default one.
use Rattle.std.proofs.Common.{◌≡◌, [], Result, Ok, Err, IfOk, IsErrAnd, MatchResult}
use Rattle.h2_spec_log.specs.declared.role.Role.TheVariants.{Client, Server}
use Rattle.h2_events.specs.Replayer.{EndReplays}
use Rattle.h2_events.proofs.ReplayLemmas.{new_replays}
use Rattle.h2_events.proofs.replayer.new_end.Goals.{in-Client, in-Server}
use Rattle.h2_events.proofs.replayer.new_end.Goals as goal

-- What is said of a value stays where an error is another one.
mapped : {A E F : Type 0} (P : A → Type 0) (Q : E → F → Type 0) (made : Result A E)
    (result : Result A F) → IfOk made P
    → MatchResult made (λ x. result ≡ Ok x) (λ e. IsErrAnd result (Q e)) → IfOk result P
mapped P Q (Ok value) result ok is = rw is ok
mapped P Q (Err error) (Ok value) ok is = absurd is
mapped P Q (Err error) (Err other) ok is = tt

pub returns-clause-ok : goal.returns-clause-ok
returns-clause-ok c =
    let new : IfOk c.match-role.made (EndReplays c.args.role []) = elim c.match-role.branch [
      | in-Client w ↦
          rw (w.made-is, w.in-Client.is) (new_replays Client w.default.result
          w.client-made.result w.default.ensures w.client-made.ensures.ok)
      | in-Server w ↦
          rw (w.made-is, w.in-Server.is) (new_replays Server w.default-in-Server.result
          w.server-made.result w.default-in-Server.ensures w.server-made.ensures.ok)
    ] in
    mapped (EndReplays c.args.role []) _ c.match-role.made c.map_err.result new
    c.map_err.ensures.cases
