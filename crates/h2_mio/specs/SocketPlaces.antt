-- Which socket a connection has.
use Rattle.std.specs.Prelude.{◌≡◌, ◌≢◌, ◌==◌, ℕ, List, Option, Some, None, slice_get}
use Rattle.std.specs.Prelude.{if◌then◌else◌}
use Rattle.h2_host.specs.declared.token.Token.{Token}
use Rattle.h2_mio.specs.declared.sockets.Socket.{Socket}

-- a socket, where it is of a connection of this generation
abbrev pub socket_if : {S : Type 0} → (generation : ℕ) → Option (Socket S) → Option (Socket S)
socket_if generation None = None
socket_if generation (Some socket) =
    if socket.generation == generation then Some socket else None

-- what a place keeps, if there is such a place
abbrev pub kept_socket : {S : Type 0} → Option (Option (Socket S)) → Option (Socket S)
kept_socket None = None
kept_socket (Some kept) = kept

-- The socket of a connection: that of its place, where it is of its generation. So a token of a
-- connection that is gone has none, whoever has its place now.
-- rule: hosts (own) An old token names no socket
abbrev pub socket_of_token : {S : Type 0} → List (Option (Socket S)) → Token → Option (Socket S)
socket_of_token slots token =
    socket_if token.generation (kept_socket (slice_get slots token.place))

-- Each other place keeps what it had.
abbrev pub KeepsOtherSockets : {S : Type 0} → (old new : List (Option (Socket S))) → Token
    → Type 0
KeepsOtherSockets old new token =
    (other : Token) → other.place ≢ token.place
    → socket_of_token new other ≡ socket_of_token old other
