-- What was added, and the frames of what is left, are those of all octets.
use Rattle.h2_core.proofs.Names.{◌≡◌, ◌+◌, ◌*◌, ◌/◌, ◌≤◌, ◌++◌, length, false}
use Rattle.h2_core.proofs.CallData.{data_octets}
use Rattle.h2_core.proofs.shared_calls.add_shared_frames.Given as goal

abbrev pub invariant-loop-rest : goal.invariant-loop-rest
invariant-loop-rest l = record {
  up : l.output.ended ≡ false;
  written : l.output.waiting ++ data_octets l.most l.id l.rest l.end
      ≡ l.initial.output.waiting ++ data_octets l.most l.id l.fn.octets l.end;
  room : length l.rest + 9 * (1 + length l.rest / 16384) ≤ l.output.spare;
  spare : l.initial.output.spare + (length l.rest + 9 * (1 + length l.rest / 16384))
      ≤ l.output.spare + (length l.fn.octets + 9 * (1 + length l.fn.octets / 16384));
}

abbrev pub decreases-loop-rest : goal.decreases-loop-rest
decreases-loop-rest l = length l.rest
