-- The link is drained, and all but the stream is as it was.
use Rattle.std.proofs.Common.{◌≡◌, true}
use Rattle.h2_net.proofs.stream_link.StreamLink.drain.Given as goal

abbrev pub invariant-loop : goal.invariant-loop
invariant-loop g l = l.self ≡ record l.initial.self { stream = l.self.stream; drained = true }
