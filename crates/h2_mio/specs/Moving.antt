-- What a read or a write of a socket came to.
use Rattle.std.specs.Prelude.{◌≤◌, ℕ}
use Rattle.std.specs.declared.io.ErrorKind.{ErrorKind}
use Rattle.std.specs.declared.io.ErrorKind.TheVariants as kinds
use Rattle.h2_mio.specs.declared.moved.Moved.{Moved}
use Rattle.h2_mio.specs.declared.moved.Moved.TheVariants.{Octets, Nothing, Interrupted, Broken}

-- So many octets were moved, one at least, and no more than there was room for.
abbrev pub MovesWithin : (room : ℕ) → Moved → Type 0
MovesWithin room (Octets count) = (1 ≤ count) × (count ≤ room)
MovesWithin room other = Unit {0}

-- how many octets were moved
abbrev pub count_moved : Moved → ℕ
count_moved (Octets count) = count
count_moved other = 0

-- What a read or a write came to that has failed. Where the socket would have waited it may be made
-- again once the socket has an event; where a signal interrupted it, at once, since no event will
-- follow; every other error is the socket's end.
-- rule: hosts (own) A socket that would wait is asked again; one that fails is closed
abbrev pub moved_at : ErrorKind → Moved
moved_at kinds.WouldBlock = Nothing
moved_at kinds.Interrupted = Interrupted
moved_at kind = Broken
