-- By what either end has read and written.
use Rattle.h2_laws_quiet.proofs.QuietStreams.{are_level, same_active, server_active, client_active}
use Rattle.h2_laws_quiet.proofs.QuietStreams.{of_active}
use Rattle.std.proofs.Common.{◌≡◌, refl}
use Rattle.h2_spec_log.specs.States.{Active}
use Rattle.h2_laws_quiet.proofs.windows.quiet_ends_have_the_same_streams.Goals as goal

pub returns-clause-same : goal.returns-clause-same
returns-clause-same c = λ client_values server_values client server i pair client_up server_up
    quiet.
    same_active client.log server.log i
    (are_level client_values server_values client server pair client_up server_up quiet)

pub returns-clause-at_server : goal.returns-clause-at_server
returns-clause-at_server c = λ client_values server_values client server i pair client_up server_up
    quiet alive.
    of_active (λ s. s ≡ Active) server.log i (server_active client.log server.log i
    (are_level client_values server_values client server pair client_up server_up quiet) alive) refl

pub returns-clause-at_client : goal.returns-clause-at_client
returns-clause-at_client c = λ client_values server_values client server i pair client_up server_up
    quiet alive.
    of_active (λ s. s ≡ Active) client.log i (client_active client.log server.log i
    (are_level client_values server_values client server pair client_up server_up quiet) alive) refl
