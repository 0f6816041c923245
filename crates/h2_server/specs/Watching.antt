-- What is watched of a connection, and what is known of its transport, after a call.
use Rattle.std.specs.Prelude.{ℕ, Bool, true, false, List, max, length, nat_le, ◌&&◌, ◌||◌}
use Rattle.h2_host.specs.declared.party.Own.{Own}
use Rattle.h2_host.specs.declared.party.Own.TheVariants as owns
use Rattle.h2_server.specs.declared.deadlines.Activity.{Activity}
use Rattle.h2_server.specs.declared.floods.FloodCounts.{FloodCounts}
use Rattle.h2_server.specs.declared.limits.ConnectionLimits.{ConnectionLimits}
use Rattle.h2_server.specs.declared.watch.Readiness.{Readiness}
use Rattle.h2_server.specs.declared.watch.Watch.{Watch}
use Rattle.h2_server.specs.Deadlines.{deadlines_after, new_deadlines}
use Rattle.h2_server.specs.Floods.{budget_after, new_budget}

-- what is watched of a new connection
abbrev pub new_watch : ConnectionLimits → (now : ℕ) → Watch
new_watch limits now = record {
  limits = limits;
  deadlines = new_deadlines;
  budget = new_budget now;
  time = now;
  went = 0;
  moved = 0;
}

-- what is watched once time has passed, as this is counted: a time never goes back, and a period of
-- the budget may begin
abbrev pub watch_passed : Watch → FloodCounts → (now : ℕ) → Watch
watch_passed watch counts now = record watch {
  time = max watch.time now;
  budget = budget_after watch.budget counts watch.limits.floods.stretch (max watch.time now);
}

-- what is watched once this goes on
abbrev pub watch_noted : Watch → Activity → Watch
watch_noted watch activity = record watch {
  deadlines = deadlines_after watch.deadlines activity watch.limits.times.least_body watch.time;
}

-- what is known of a new transport: that it can be written
abbrev pub new_readiness : Readiness
new_readiness = record { reads = false; writes = true; ended = false; took = false }

-- a read of fewer octets is taken to have read all that can be read now
abbrev pub full_read : ℕ
full_read = 16384

-- what is known of the transport after a call, with these octets, of a connection that kept none
-- that came before, or did
abbrev pub readiness_after : Own → (octets : List ℕ) → (kept_none : Bool) → Readiness → Readiness
readiness_after (owns.Ready reads writes) octets kept_none readiness =
    record readiness { reads = reads || readiness.reads; writes = writes || readiness.writes }
readiness_after owns.Came octets kept_none readiness = record readiness {
  reads = readiness.reads && nat_le full_read (length octets);
  took = readiness.took || kept_none;
}
readiness_after owns.NoneCame octets kept_none readiness = record readiness { reads = false }
readiness_after owns.Ended octets kept_none readiness =
    record readiness { reads = false; ended = true }
readiness_after owns.Turn octets kept_none readiness = record readiness { took = false }
readiness_after owns.NoneWent octets kept_none readiness = record readiness { writes = false }
readiness_after own octets kept_none readiness = readiness
