-- When two joined ends are quiet, which streams were reset, and what an end that reports no fault
-- has handed out (RFC 9113, sections 5.1, 5.4 and 6.8).
use Rattle.std.specs.Prelude.{◌≡◌, ◌⊎◌, ℕ, pos, ◌+ℤ◌, true, false, List, [], None}
use Rattle.std.specs.List.{Contains}
use Rattle.h2_spec_log.specs.Acts.{ResetStream}
use Rattle.h2_spec_log.specs.Events.{ResetEvent, UnprocessedEvent}
use Rattle.h2_spec_log.specs.Log.{Log, owed, granted}
use Rattle.h2_spec_log.specs.Windows.{connection_send_window}
use Rattle.h2_laws_log.specs.Sums.{sum_below}
use Rattle.h2_ends.specs.Ends.{EndLog, Passed}
use Rattle.h2_ends.specs.Quiet.{IsQuietEnd}
use Rattle.h2_joined.specs.declared.act.Side.{Side}
use Rattle.h2_joined.specs.declared.act.Acted.TheVariants.{Done}
use Rattle.h2_joined.specs.Joints.{Calls, JointEnd, Made}

-- Both ends are quiet, both pipes are empty, and the last delivery to either end has not stopped
-- before all its octets were used.
-- rule: joined (own) Two joined ends are quiet where both are, and both pipes are empty
pub record AreQuiet (client server : JointEnd) : Type 0 where
  pub quiet_client : IsQuietEnd client.happened
  pub quiet_server : IsQuietEnd server.happened
  pub to_client : client.incoming ≡ []
  pub to_server : server.incoming ≡ []
  pub finished_client : client.unfinished ≡ false
  pub finished_server : server.unfinished ≡ false

-- What the writer may send on the connection, and what the reader owes on its streams (of numbers
-- below a bound), are 65,535 octets and what the reader widened the window by.
-- rule (law): joined (own) What slow readers hold of the window is all that others lack
abbrev pub HoldsTheRest : (writer reader : Log) (bound : ℕ) → Type 0
HoldsTheRest writer reader bound =
    connection_send_window writer.received writer.sent +ℤ pos (sum_below bound (owed reader))
    ≡ pos (granted reader)

-- A Reset of the stream was made at the end, with the code, and was done.
abbrev pub WasResetAt : List Made → Side → (id code : ℕ) → Type 0
WasResetAt made side id code =
    Contains made (record { side = side; doing = Calls (ResetStream id code); acted = Done })

-- A Reset of the stream was made at either end, or the client has reported that the server does
-- not process it.
-- rule: joined (own) What one end has handed out is a prefix of what the other accepted
abbrev pub WasResetIn : List Made → (client : JointEnd) → ℕ → Type 0
WasResetIn made client i =
    ((side : Side) × (code : ℕ) × WasResetAt made side i code)
    ⊎ Contains client.happened.handed (Passed (UnprocessedEvent i))

-- The end reports no fault: its connection has not failed, it has handed out no reset of its own,
-- and each reset that the peer made was made by a Reset there.
-- rule: joined (own) What one end has handed out is a prefix of what the other accepted
pub record ReportsNoFault (made : List Made) (end : EndLog) (peer : Side) : Type 0 where
  pub up : end.log.failed ≡ None
  pub no_reset_of_ours : (id code : ℕ) → Contains end.handed (Passed (ResetEvent id code true)) → ⊥
  pub asked : (id code : ℕ) → Contains end.handed (Passed (ResetEvent id code false))
      → WasResetAt made peer id code
