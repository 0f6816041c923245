-- What stands in one direction between two ends, and every step at either end keeps, stands in both
-- directions between the ends of every pair.
use Rattle.h2_laws_pair.proofs.Names.{◌≡◌, not, [], refl, Role, Client, Server, Values, is_server}
use Rattle.h2_laws_pair.proofs.Names.{opened, IsLog, Half, HalfStep, IsPair, begins, client_steps}
use Rattle.h2_laws_pair.proofs.Names.{server_steps}
use Rattle.h2_laws_pair.proofs.PairLogs.{both_logs}

-- Two ends of opposite roles, whose logs come about.
pub record AreEnds (writer reader : Half) : Type 0 where
  pub writer_role : Role
  pub reader_role : Role
  pub writer_values : Values
  pub reader_values : Values
  pub opposite : is_server reader_role ≡ not (is_server writer_role)
  pub writer_log : IsLog writer_role writer_values writer.log
  pub reader_log : IsLog reader_role reader_values reader.log

-- The ends of a pair, one way and the other.
pub ends_to_server : (client_values server_values : Values) (client server : Half)
    → IsPair client_values server_values client server → AreEnds client server
ends_to_server client_values server_values client server is =
    let both = both_logs client_values server_values client server is in
    record {
      writer_role = Client;
      reader_role = Server;
      writer_values = client_values;
      reader_values = server_values;
      opposite = refl;
      writer_log = both.client_log;
      reader_log = both.server_log;
    }

pub ends_to_client : (client_values server_values : Values) (client server : Half)
    → IsPair client_values server_values client server → AreEnds server client
ends_to_client client_values server_values client server is =
    let both = both_logs client_values server_values client server is in
    record {
      writer_role = Server;
      reader_role = Client;
      writer_values = server_values;
      reader_values = client_values;
      opposite = refl;
      writer_log = both.server_log;
      reader_log = both.client_log;
    }

-- One direction of a pair: from the end that writes to the one that reads.
pub data IsDirection : Half → Half → Type 0 where
  to_server : {client_values server_values : Values} {client server : Half}
      → IsPair client_values server_values client server → IsDirection client server
  to_client : {client_values server_values : Values} {client server : Half}
      → IsPair client_values server_values client server → IsDirection server client

-- Its ends, and the other direction.
pub ends_of : (writer reader : Half) → IsDirection writer reader → AreEnds writer reader
ends_of _ _ (to_server is) = ends_to_server _ _ _ _ is
ends_of _ _ (to_client is) = ends_to_client _ _ _ _ is

pub back_of : (writer reader : Half) → IsDirection writer reader → IsDirection reader writer
back_of _ _ (to_server is) = to_client is
back_of _ _ (to_client is) = to_server is

-- a new end
abbrev pub new_half : Role → Values → Half
new_half role values = record { log = opened role values; incoming = []; lost = [] }

-- What stands between new ends, and steps at either end keep: of each the pair before and after is
-- known.
pub record IsKept (P : Half → Half → Type 0) : Type 0 where
  pub at_first : (role other : Role) (values others : Values)
      → P (new_half role values) (new_half other others)
  pub by_writer : (writer reader : Half) {new_writer new_reader : Half}
      → IsDirection writer reader → IsDirection new_writer new_reader
      → HalfStep writer reader new_writer new_reader → P writer reader → P new_writer new_reader
  pub by_reader : (writer reader : Half) {new_writer new_reader : Half}
      → IsDirection writer reader → IsDirection new_writer new_reader
      → HalfStep reader writer new_reader new_writer → P writer reader → P new_writer new_reader

-- It stands in both directions between the ends of every pair.
pub both_ways : (P : Half → Half → Type 0) → IsKept P → (client_values server_values : Values)
    (client server : Half) → IsPair client_values server_values client server
    → P client server × P server client
both_ways P kept client_values server_values _ _ (begins in_range others_in_range) = (
  kept.at_first Client Server client_values server_values,
  kept.at_first Server Client server_values client_values,
)
both_ways P kept client_values server_values _ _
    (client_steps {client = client} {server = server} is step) =
    let before = both_ways P kept client_values server_values client server is in
    let after = client_steps is step in (
      kept.by_writer client server (to_server is) (to_server after) step before.0,
      kept.by_reader server client (to_client is) (to_client after) step before.1,
    )
both_ways P kept client_values server_values _ _
    (server_steps {client = client} {server = server} is step) =
    let before = both_ways P kept client_values server_values client server is in
    let after = server_steps is step in (
      kept.by_reader client server (to_server is) (to_server after) step before.0,
      kept.by_writer server client (to_client is) (to_client after) step before.1,
    )

-- So it stands in each direction.
pub each_way : (P : Half → Half → Type 0) → IsKept P → (writer reader : Half)
    → IsDirection writer reader → P writer reader
each_way P kept _ _ (to_server is) = (both_ways P kept _ _ _ _ is).0
each_way P kept _ _ (to_client is) = (both_ways P kept _ _ _ _ is).1
