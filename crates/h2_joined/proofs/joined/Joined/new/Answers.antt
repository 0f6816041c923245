-- Two new ends with the pipes between them, and nothing is kept of them yet.
use Rattle.h2_joined.proofs.Names.{values_of, begins}
use Rattle.h2_spec_log.specs.declared.role.Role.TheVariants as roles
use Rattle.h2_joined.proofs.joined.Joined.new.Goals as goal

pub returns : goal.returns
returns c =
    record {
      joint = begins c.args.client.in_range c.args.server.in_range;
      client_represents = c.in-Ok.ensures.ok;
      server_represents = c.in-Ok-new.ensures.ok;
      client_kept = c.new-3.ensures roles.Client (values_of c.args.client);
      server_kept = c.new-4.ensures roles.Server (values_of c.args.server);
    }
