-- No limits of a served connection.
use Rattle.std.specs.Prelude.{◌-◌, ◌^◌}
use Rattle.h2_server.specs.declared.limits.FloodLimits.{FloodLimits}
use Rattle.h2_server.specs.declared.limits.TimeLimits.{TimeLimits}

-- Nothing takes too long: each time is 0, which is no limit.
abbrev pub no_times : TimeLimits
no_times = record {
  opening = 0;
  frame = 0;
  body = 0;
  least_body = 0;
  writing = 0;
  answering = 0;
  idle = 0;
  deferred = 0;
}

-- Nothing is a flood: no count is above the greatest of its type.
abbrev pub no_floods : FloodLimits
no_floods = record {
  stretch = 2 ^ 64 - 1;
  resets = 2 ^ 32 - 1;
  empty = 2 ^ 32 - 1;
  refused = 2 ^ 32 - 1;
  replies = 2 ^ 64 - 1;
}
