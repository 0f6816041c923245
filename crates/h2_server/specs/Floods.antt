-- What a peer sends that asks for work and brings nothing, against its budget.
use Rattle.std.specs.Prelude.{ℕ, ◌-◌, ◌/◌, ◌||◌, nat_lt, nat_le, Bool, if◌then◌else◌, Option, Some}
use Rattle.std.specs.Prelude.{None}
use Rattle.h2_server.specs.declared.floods.FloodBudget.{FloodBudget}
use Rattle.h2_server.specs.declared.floods.FloodCounts.{FloodCounts}
use Rattle.h2_server.specs.declared.floods.Flood.{Flood}
use Rattle.h2_server.specs.declared.floods.Flood.TheVariants.{Resets, Empty, Refused, Replies}
use Rattle.h2_server.specs.declared.limits.FloodLimits.{FloodLimits}

-- what is above its budget, of what had come as the stretch began and what has come now
-- rule: hosts (own) What is above its budget in a stretch is a flood
abbrev pub flood_of : (began now : FloodCounts) → FloodLimits → Option Flood
flood_of began now limits =
    if nat_lt limits.resets (now.resets - began.resets) then Some Resets
    else if nat_lt limits.empty (now.empty - began.empty) then Some Empty
    else if nat_lt limits.refused (now.refused - began.refused) then Some Refused
    else if nat_lt limits.replies (now.replies - began.replies) then Some Replies
    else None

-- Whether more than a tenth of some budget is spent.
abbrev pub is_near_flood : (began now : FloodCounts) → FloodLimits → Bool
is_near_flood began now limits =
    nat_lt (limits.resets / 10) (now.resets - began.resets)
    || (nat_lt (limits.empty / 10) (now.empty - began.empty)
    || (nat_lt (limits.refused / 10) (now.refused - began.refused)
    || nat_lt (limits.replies / 10) (now.replies - began.replies)))

-- the budget of a new connection, of which nothing was counted
abbrev pub new_budget : (now : ℕ) → FloodBudget
new_budget now = record {
  began = now;
  before = record { resets = 0; empty = 0; refused = 0; replies = 0 };
}

-- the budget as time passes: a new stretch once this one is over
abbrev pub budget_after : FloodBudget → FloodCounts → (stretch now : ℕ) → FloodBudget
budget_after budget counts stretch now =
    if nat_le stretch (now - budget.began) then record { began = now; before = counts } else budget
