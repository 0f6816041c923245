-- The peaks that are left are those so far but for some below the number.
use Rattle.std.proofs.Common.{◌≡◌, ◌<◌}
use Rattle.std.specs.VecDeque.{deque_capacity, deque_len}
use Rattle.h2_follow.proofs.PeakLemmas.{Falls, kept_from}
use Rattle.h2_follow.proofs.peaks.push_peak.Given as goal

abbrev pub invariant-loop-peaks : goal.invariant-loop-peaks
invariant-loop-peaks l = record {
  kept : kept_from l.number l.peaks.items ≡ kept_from l.number l.initial.peaks.items;
  falls : Falls l.initial.peaks.items → Falls l.peaks.items;
  room : deque_len l.peaks < deque_capacity l.peaks;
}

abbrev pub decreases-loop-peaks : goal.decreases-loop-peaks
decreases-loop-peaks l = deque_len l.peaks
