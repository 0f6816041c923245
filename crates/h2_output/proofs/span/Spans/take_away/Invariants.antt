-- What is left to be taken of what is left, and how much of the queue was passed.
use Rattle.std.proofs.Common.{◌≡◌, ◌+◌, ◌≤◌, List, ℕ, length, drop}
use Rattle.h2_output.specs.Woven.{weave, octets_before, octets_shared}
use Rattle.h2_output.proofs.span.Spans.take_away.Given as goal

abbrev pub invariant-loop-span : goal.invariant-loop-span
invariant-loop-span l =
    record {
      counted : l.left + l.queued ≤ l.count;
      before : l.self.before ≡ octets_before l.self.all.items;
      shared : l.self.shared ≡ octets_shared l.self.all.items;
      less : l.self.shared ≤ l.initial.self.shared;
      passed : l.self.before + l.queued ≡ l.initial.self.before;
      enough : (queue : List ℕ) → l.initial.self.before ≤ length queue
          → l.count ≤ length (weave l.initial.self.all.items queue)
          → l.left ≤ length (weave l.self.all.items (drop l.queued queue));
      woven : (queue : List ℕ) → l.initial.self.before ≤ length queue
          → drop l.count (weave l.initial.self.all.items queue)
          ≡ drop l.left (weave l.self.all.items (drop l.queued queue));
    }

abbrev pub decreases-loop-span : goal.decreases-loop-span
decreases-loop-span l = length l.self.all.items
