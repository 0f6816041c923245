-- By the lemma on all acts of a list.
use Rattle.h2_joined.proofs.Names.{values_of, new_joint_end}
use Rattle.h2_joined.proofs.RunActs.{runs_all}
use Rattle.h2_spec_log.specs.declared.role.Role.TheVariants as roles
use Rattle.h2_joined.proofs.running.run.Goals as goal

pub returns-in-Ok : goal.returns-in-Ok
returns-in-Ok c =
    runs_all (values_of c.args.client) (values_of c.args.server) c.args.acts.now
    c.in_ok-joined.joined c.act_all.new.self
    (new_joint_end roles.Client (values_of c.args.client))
    (new_joint_end roles.Server (values_of c.args.server)) c.in_ok-joined.ensures
    c.in-Ok.ensures.ok
