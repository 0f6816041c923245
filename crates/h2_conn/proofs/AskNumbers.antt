-- The number of the stream that a client opens next, as a connection returns it.
use Rattle.h2_conn.proofs.Names.{◌≡◌, ℕ, false, List, Some, is_some, ap, Item, Role, Client, Server}
use Rattle.h2_conn.proofs.Names.{Values, Log, is_server, End, Represents, rules}
use Rattle.h2_spec_log.specs.Items.{greatest_block}
use Rattle.h2_spec_log.specs.Log.{next_number}
use Rattle.h2_spec_log.specs.States.{openings}
use Rattle.h2_spec_machine.specs.End.{number_after}
use Rattle.h2_conn.specs.Conn.{reader_next_number}

-- A client's greatest number is that of the blocks that it has sent.
client_number : (role : Role) (highest : ℕ) (received sent : List Item) → is_server role ≡ false
    → highest ≡ greatest_block (openings role received sent)
    → number_after highest ≡ number_after (greatest_block sent)
client_number Client highest received sent client is = ap number_after is
client_number Server highest received sent client is = absurd (cc)

-- The next number, where the connection is up and a client's.
pub number_by : (values : Values) (e : End) (log : Log) → Represents values e log
    → is_some e.failed ≡ false → is_server e.role ≡ false
    → Some (number_after e.streams.highest) ≡ reader_next_number log
unfolding next_number
number_by values e log represents up client = search rules
