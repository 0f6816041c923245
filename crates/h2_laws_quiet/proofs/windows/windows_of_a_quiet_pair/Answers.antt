-- By what is conserved of each window.
use Rattle.h2_laws_quiet.proofs.QuietWindows.{client_open, server_open}
use Rattle.h2_laws_quiet.proofs.windows.windows_of_a_quiet_pair.Goals as goal

pub returns-clause-at_client : goal.returns-clause-at_client
returns-clause-at_client c = client_open

pub returns-clause-at_server : goal.returns-clause-at_server
returns-clause-at_server c = server_open
