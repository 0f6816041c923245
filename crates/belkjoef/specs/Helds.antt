-- What a place holds.
use Rattle.std.specs.Prelude.{◌≡◌, ℕ, List, Option, None, Some}
use Rattle.h2_numbers.specs.Entries.{value_at}
use Rattle.h2_spec_log.specs.declared.role.Role.{Role}
use Rattle.h2_spec_log.specs.declared.role.Role.TheVariants as roles
use Rattle.h2_ends.specs.declared.end.End.{End}
use Rattle.belkjoef.specs.declared.held.Held.{Held}
use Rattle.belkjoef.specs.declared.held.Side.{Side}
use Rattle.belkjoef.specs.declared.held.Side.TheVariants.{Client, Server}

-- the end of a client or a server
abbrev pub end_in : Side → End
end_in (Client client) = client.end
end_in (Server server) = server.end

abbrev pub held_end : Held → End
held_end held = end_in held.side

-- which of the two it is
abbrev pub side_role : Side → Role
side_role (Client client) = roles.Client
side_role (Server server) = roles.Server

-- It is of the same role, and C's numbers beside streams are the same.
pub record KeepsAllElse (old new : Held) : Type 0 where
  pub role : side_role new.side ≡ side_role old.side
  pub users : new.users ≡ old.users

-- the number of C's beside a stream; 0 where there is none
abbrev pub user_in : Option ℕ → ℕ
user_in None = 0
user_in (Some user) = user

abbrev pub user_at : List (ℕ × ℕ) → ℕ → ℕ
user_at entries id = user_in (value_at id entries)
