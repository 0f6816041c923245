-- Where driving has ended with no end named and no memory refused, rounds have led to quiet ends.
use Rattle.std.proofs.Common.{◌≡◌, ℕ, Bool, false, List, Option, None}
use Rattle.h2_joined.specs.declared.act.Side.{Side}
use Rattle.h2_joined.specs.Headline.{AreQuiet}
use Rattle.h2_joined.specs.Joints.{JointEnd, Made}
use Rattle.h2_laws_quiet.specs.Rounds.{AreRounds}
use Rattle.h2_settle.specs.Settling.{HasSettled, settles, stops, had_failed, fails, refused}
use Rattle.h2_settle.proofs.Driven.{rounds_of}

pub settled_quiet : (client server new_client new_server : JointEnd) (rounds : ℕ)
    (failed : Option Side) (memory : Bool) (acts : List Made)
    → HasSettled client server rounds failed memory acts new_client new_server → failed ≡ None
    → memory ≡ false
    → AreRounds client server rounds new_client new_server × AreQuiet new_client new_server
settled_quiet client server new_client new_server rounds _ _ acts (settles needed quiet) none kept =
    (rounds_of client server new_client new_server rounds acts needed, quiet)
settled_quiet client server new_client new_server rounds _ _ _ (stops needed busy (had_failed named))
    none kept = absurd (cc)
settled_quiet client server new_client new_server rounds _ _ _
    (stops needed busy (fails others well act begin next got named)) none kept = absurd (cc)
settled_quiet client server new_client new_server rounds _ _ _
    (stops needed busy (refused others well act begin next not_got)) none kept = absurd (cc)
