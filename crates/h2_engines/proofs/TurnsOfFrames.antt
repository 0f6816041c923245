-- A frame that is read undoes no turn.
use Rattle.h2_engines.proofs.Names.{◌≤◌, ◌<◌, ℕ, [], ◌∷◌, length, Option, arith, Event, Log}
use Rattle.h2_engines.proofs.Names.{length-append, map, Frame, Happened}
use Rattle.h2_spec_log.specs.ItemRules.{Decoded}
use Rattle.h2_spec_log.specs.LogSteps.{with_reported, with_unreturned, with_frame}
use Rattle.h2_laws_log.proofs.GrowthBySteps.{HoldsOfReads, holds_unreturned, holds_frame}

-- The second log has no fewer turns.
abbrev HasNoFewer : Log → Log → Type 0
HasNoFewer log next = length log.turns ≤ length next.turns

-- Each change of a log keeps its turns.
no_fewer : HoldsOfReads HasNoFewer
no_fewer =
    record {
      failures = record {
        writes = record {
          none = λ log. omega arith;
          twice = λ one two three a b. omega (arith, a, b);
          sent = λ log item items. omega arith;
          unreturned = λ log count. omega arith;
        };
        failed = λ log code. omega arith;
      };
      used = λ log octets unparsed. omega arith;
      framed = λ log frames. omega arith;
      begun = λ log begun. omega arith;
      read = λ log decoded item. omega arith;
      reported = λ log event events. omega (
        arith,
        length-append (map Happened (event ∷ events)) log.turns,
      );
    }

-- An event that is reported is one more.
pub turns_of_event : (n : ℕ) (log : Log) (event : Event) → n ≤ length log.turns
    → n < length (with_reported log (event ∷ [])).turns
unfolding with_reported
turns_of_event n log event so = omega arith

-- What is due is returned in a turn, or in none.
pub turns_of_due : (n more : ℕ) (log : Log) → n ≤ length log.turns
    → n ≤ length (with_unreturned more log).turns
turns_of_due n more log so =
    omega (arith, so, holds_unreturned HasNoFewer no_fewer.failures.writes more log)

-- A frame undoes none.
pub turns_of_frame : (n : ℕ) (log : Log) (decoded : Option Decoded) (frame : Frame)
    → n ≤ length log.turns → n ≤ length (with_frame log decoded frame).turns
turns_of_frame n log decoded frame so =
    omega (arith, so, holds_frame HasNoFewer no_fewer log decoded frame)
