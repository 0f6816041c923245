-- Each end of a pair has a log that comes about by itself.
use Rattle.h2_laws_pair.proofs.Names.{◌≡◌, subst, Role, Client, Server, Values, Log, IsLog}
use Rattle.h2_laws_pair.proofs.Names.{stream_of_log, MachineStep, uses_part, ends_frame}
use Rattle.h2_laws_pair.proofs.Names.{meets_fault, runs_out_of_memory, reports_unprocessed}
use Rattle.h2_laws_pair.proofs.Names.{is_called, MayStep, log_after, Half, HalfStep, calls, takes}
use Rattle.h2_laws_pair.proofs.Names.{loses, IsPair, begins, client_steps, server_steps}
use Rattle.h2_spec_log.specs.Histories.{begins as log_begins, took_some, took_one, met_fault}
use Rattle.h2_spec_log.specs.Histories.{ran_out_of_memory, reported_one, called_one}
use Rattle.h2_spec_log.specs.Histories.{MayRunOutOfMemory}

-- A log comes about by a step that may be the next one, by the role that it has.
step_of : (role : Role) (values : Values) (log : Log) (step : MachineStep) → log.role ≡ role
    → IsLog role values log → MayStep log step → IsLog role values (log_after log step)
unfolding MayStep log_after
step_of role values log (uses_part octets unparsed) own is (up, part) =
    took_some is up octets unparsed (rw own at part)
step_of role values log (ends_frame octets frame decoded) own is (up, read, sees) =
    took_one is up octets frame decoded (rw own at read) sees
step_of role values log (meets_fault octets fault) own is (up, at) =
    met_fault is up octets fault (rw own at at)
step_of role values log (runs_out_of_memory octets) own is (up, may) =
    ran_out_of_memory is up octets (subst (λ (r : Role). MayRunOutOfMemory r log octets) own may)
step_of role values log reports_unprocessed own is (up, some) = reported_one is up some
step_of role values log (is_called act answer) own is (typed, may) =
    called_one is act answer typed may

-- A log comes about by a step that may be the next one.
pub step_comes_about : (role : Role) (values : Values) (log : Log) (step : MachineStep)
    → IsLog role values log → MayStep log step → IsLog role values (log_after log step)
step_comes_about role values log step is may = step_of _ _ _ _ (stream_of_log _ _ _ is).role is may

-- The end that makes a step has a log that comes about.
pub half_comes_about : (role : Role) (values : Values) (one other : Half) {new new_other : Half}
    → IsLog role values one.log → HalfStep one other new new_other → IsLog role values new.log
half_comes_about role values one other is (calls act answer typed may) =
    called_one is act answer typed may
half_comes_about role values one other is (takes step rest may uncalled came) =
    step_comes_about role values one.log step is may
half_comes_about role values one other is (loses octets rest failed came) = is

-- The other one has the log that it had.
pub other_same : (one other : Half) {new new_other : Half} → HalfStep one other new new_other
    → (P : Log → Type 0) → P other.log → P new_other.log
other_same one other (calls act answer typed may) P is = is
other_same one other step P is = is

-- Both logs of a pair come about.
pub record BothLogs (client_values server_values : Values) (client server : Half) : Type 0 where
  pub client_log : IsLog Client client_values client.log
  pub server_log : IsLog Server server_values server.log

pub both_logs : (client_values server_values : Values) (client server : Half)
    → IsPair client_values server_values client server
    → BothLogs client_values server_values client server
both_logs client_values server_values _ _ (begins in_range others_in_range) =
    record { client_log = log_begins in_range; server_log = log_begins others_in_range }
both_logs client_values server_values _ _
    (client_steps {client = client} {server = server} is step) =
    let both = both_logs client_values server_values client server is in
    record {
      client_log = half_comes_about Client client_values client server both.client_log step;
      server_log = other_same client server step (IsLog Server server_values) both.server_log;
    }
both_logs client_values server_values _ _
    (server_steps {client = client} {server = server} is step) =
    let both = both_logs client_values server_values client server is in
    record {
      client_log = other_same server client step (IsLog Client client_values) both.client_log;
      server_log = half_comes_about Server server_values server client both.server_log step;
    }
