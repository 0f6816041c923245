-- By what two rounds send, and four.
use Rattle.h2_laws_quiet.proofs.FewQuiet.{few_lead}
use Rattle.h2_laws_quiet.proofs.rounds.few_rounds_lead_to_quiet.Goals as goal

pub returns : goal.returns
returns c client_values server_values made count client server new_client new_server joint rounds
    client_up server_up enough =
    few_lead client_values server_values new_client new_server client_up server_up made client
    server count joint rounds enough
