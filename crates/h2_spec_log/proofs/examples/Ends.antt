-- The ends that several examples begin with.
use Rattle.h2_spec_log.proofs.Names.{true, false, [], ◌∷◌, ◌++◌, List, ℕ, codes, None, empty_table}
use Rattle.h2_spec_log.proofs.Names.{Data, Settings, Client, Server, Open, Release, Number, Done}
use Rattle.h2_spec_log.proofs.Names.{Log, View, log_view, with_call, opened, takes, takes_block}
use Rattle.h2_spec_log.proofs.Names.{Bool}
use Rattle.h2_spec_log.proofs.examples.Octets.{octets}
use Rattle.h2_spec_log.proofs.examples.Words.{default_values, short_request, get_block, request}
use Rattle.h2_spec_log.proofs.examples.Words.{request_block, table_with_authority, abcd}
use Rattle.h2_spec_log.proofs.examples.Words.{preface_octets, client_settings, server_settings}
use Rattle.h2_spec_log.proofs.examples.Words.{empty_settings, acknowledgment, short_request_octets}

-- a new client, and a new server
abbrev pub new_client : Log
new_client = opened Client default_values

abbrev pub new_server : Log
new_server = opened Server default_values

-- a server that has read a client's preface and SETTINGS
abbrev pub settled_server : Log
settled_server = takes new_server (Settings false [])

-- a server on which stream 1 is active; what has come to it, and what it has written
abbrev pub active_server : Log
active_server = takes_block settled_server 1 false get_block short_request (empty_table 4096)

abbrev pub active_octets : List ℕ
active_octets = preface_octets ++ empty_settings ++ short_request_octets

abbrev pub active_output : List ℕ
active_output = server_settings ++ acknowledgment

abbrev pub active_view : View
active_view = log_view active_server

-- it reads DATA of four octets, which ends the stream or doesn't, and they are released
abbrev pub server_with_body : Bool → Log
server_with_body end = takes active_server (Data 1 end abcd None)

abbrev pub server_with_release : Bool → Log
server_with_release end = with_call (server_with_body end) (Release 1 4) Done

-- a server that has read a request which ends its stream, and hasn't answered it
abbrev pub server_with_request : Log
server_with_request =
    takes_block (takes new_server (Settings false ((1, 4096) ∷ (2, 0) ∷ (4, 65535) ∷
    (6, 65536) ∷ []))) 1 true request_block request table_with_authority

-- a client that has read a server's SETTINGS and has opened stream 1; what it has written
abbrev pub asking_client : Log
asking_client = with_call (takes new_client (Settings false [])) (Open short_request false)
    (Number 1)

abbrev pub asked_output : List ℕ
asked_output = preface_octets ++ client_settings ++ acknowledgment ++ short_request_octets

abbrev pub asking_view : View
asking_view = log_view asking_client

-- it opens stream 3 as well
abbrev pub client_with_two : Log
client_with_two = with_call asking_client (Open short_request false) (Number 3)

abbrev pub two_asked_output : List ℕ
two_asked_output = asked_output ++ octets (codes "000003 01 04 00000003 828684")
