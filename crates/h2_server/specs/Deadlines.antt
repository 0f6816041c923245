-- The timers of what goes on at a connection, and what has taken too long.
use Rattle.std.specs.Prelude.{ℕ, ◌-◌, ◌||◌, ◌&&◌, nat_lt, nat_le, not, is_none, Bool, false}
use Rattle.std.specs.Prelude.{if◌then◌else◌, Option, Some, None}
use Rattle.h2_server.specs.declared.limits.TimeLimits.{TimeLimits}
use Rattle.h2_server.specs.declared.deadlines.Timeout.{Timeout}
use Rattle.h2_server.specs.declared.deadlines.Timeout.TheVariants.{Opening, Frame, Body, Writing}
use Rattle.h2_server.specs.declared.deadlines.Timeout.TheVariants.{Answering, Idle}
use Rattle.h2_server.specs.declared.deadlines.Activity.{Activity}
use Rattle.h2_server.specs.declared.deadlines.Timer.{Timer}
use Rattle.h2_server.specs.declared.deadlines.Deadlines.{Deadlines}

-- a timer that does not run
abbrev pub new_timer : Timer
new_timer = record { at = None; mark = 0 }

-- the timers of a new connection
abbrev pub new_deadlines : Deadlines
new_deadlines = record {
  opening = new_timer;
  frame = new_timer;
  body = new_timer;
  writing = new_timer;
  answering = new_timer;
  idle = new_timer;
}

-- A timer restarts where it did not run before, or progress was at least so much.
abbrev pub restarts : Timer → (mark least : ℕ) → Bool
restarts since mark least = is_none since.at || nat_le least (mark - since.mark)

-- a timer after a step
abbrev pub timer_after : Timer → (goes_on : Bool) → (mark least now : ℕ) → Timer
timer_after since goes_on mark least now =
    if not goes_on then record { at = None; mark = mark }
    else if restarts since mark least then record { at = Some now; mark = mark }
    else since

-- all timers after a step at which this goes on
abbrev pub deadlines_after : Deadlines → Activity → (least_body now : ℕ) → Deadlines
deadlines_after times p least now = record {
  opening = timer_after times.opening (not p.opened) 0 1 now;
  frame = timer_after times.frame p.in_frame p.frames 1 now;
  body = timer_after times.body p.reading p.body least now;
  writing = timer_after times.writing p.waits p.went 1 now;
  answering = timer_after times.answering p.answering p.sent 1 now;
  idle = timer_after times.idle (not p.busy) p.requests 1 now;
}

-- Whether it has gone on for so long; 0 is no limit.
unfoldable pub is_late : Option ℕ → (limit now : ℕ) → Bool
is_late None limit now = false
is_late (Some at) limit now = nat_lt 0 limit && nat_le limit (now - at)

-- what has taken too long, the first of several
-- rule: hosts (own) What has taken too long is the first of what is late
abbrev pub overdue_of : Deadlines → TimeLimits → (now : ℕ) → Option Timeout
overdue_of times limits now =
    if is_late times.opening.at limits.opening now then Some Opening
    else if is_late times.frame.at limits.frame now then Some Frame
    else if is_late times.body.at limits.body now then Some Body
    else if is_late times.writing.at limits.writing now then Some Writing
    else if is_late times.answering.at limits.answering now then Some Answering
    else if is_late times.idle.at limits.idle now then Some Idle
    else None
