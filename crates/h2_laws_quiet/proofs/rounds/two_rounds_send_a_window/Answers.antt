use Rattle.h2_laws_quiet.proofs.rounds.two_rounds_send_a_window.Goals as goal
use Rattle.h2_laws_quiet.proofs.FewLaws.{window_to_server, window_to_client}

pub returns-clause-to_server : goal.returns-clause-to_server
returns-clause-to_server c client_values server_values made old_client old_server client server
    mid_client mid_server new_client new_server i joint before one two client_up server_up =
    window_to_server client_values server_values made old_client old_server client server
    mid_client mid_server new_client new_server joint before one two client_up server_up i

pub returns-clause-to_client : goal.returns-clause-to_client
returns-clause-to_client c client_values server_values made old_client old_server client server
    mid_client mid_server new_client new_server i joint before one two client_up server_up =
    window_to_client client_values server_values made old_client old_server client server
    mid_client mid_server new_client new_server joint before one two client_up server_up i
