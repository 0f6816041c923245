-- When an end is quiet (RFC 9113, sections 6.9 and 8.1).
use Rattle.std.specs.Prelude.{◌≡◌, ℕ, ℤ, pos, int_lt, true, length, Option, Some, None}
use Rattle.h2_spec_log.specs.Log.{owed}
use Rattle.h2_ends.specs.Ends.{EndLog}
use Rattle.h2_ends.specs.EndCalls.{IsStuckOn}

-- The connection is up, all of its output was given out, nothing is owed on any stream and nothing
-- is to be returned to the connection's window, and of what waits nothing could go.
-- rule: 8.1 (own) An end is quiet where nothing waits, is owed or could be sent
-- rule: joined (own) Two joined ends are quiet where both are, and both pipes are empty
pub record IsQuietEnd (end : EndLog) : Type 0 where
  pub up : end.log.failed ≡ None
  pub given : end.log.given ≡ length end.log.written
  pub none_owed : (i : ℕ) → owed end.log i ≡ 0
  pub none_unreturned : end.log.unreturned ≡ 0
  pub stuck : (i : ℕ) → IsStuckOn end i

-- The window lets an octet go.
abbrev pub HasRoom : Option ℤ → Type 0
HasRoom None = ⊥
HasRoom (Some room) = int_lt (pos 0) room ≡ true
