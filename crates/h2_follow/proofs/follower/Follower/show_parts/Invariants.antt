-- The stretches so far are all of the octets that were used.
use Rattle.h2_follow.proofs.Names.{◌≡◌, ◌++◌, length, take, Stretches, output_of}
use Rattle.std.proofs.Common.{◌≤◌, ◌-◌}
use Rattle.h2_follow.specs.Follower.{FollowerReadsMore}
use Rattle.h2_follow.specs.Stretches.{AreOf, octets_read}
use Rattle.h2_follow.proofs.follower.Follower.show_parts.Given as goal

abbrev pub invariant-loop-done : goal.invariant-loop-done
invariant-loop-done l =
    record {
      within : l.done ≤ length l.octets;
      read : (newer : Stretches) × AreOf l.side newer × (take l.done l.octets ≡ octets_read newer)
          × (l.self.lines.items ≡ l.initial.self.lines.items ++ output_of newer)
          × FollowerReadsMore l.initial.self l.self newer;
      client : l.self.client ≡ l.initial.self.client;
      least : l.self.least ≡ l.initial.self.least;
    }

abbrev pub decreases-loop-done : goal.decreases-loop-done
decreases-loop-done l = length l.octets - l.done
