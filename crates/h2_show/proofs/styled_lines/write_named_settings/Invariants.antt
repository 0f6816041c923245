-- The pairs so far are written, and the others are to come.
use Rattle.h2_show.proofs.Names.{◌≡◌, ◌++◌, pairs_left}
use Rattle.h2_show.specs.StyledLines.{named_pairs}
use Rattle.std.specs.Fmt.{HasWritten, IsPlainFormatter}
use Rattle.h2_show.proofs.styled_lines.write_named_settings.Given as goal

abbrev pub invariant-loop-id : goal.invariant-loop-id
invariant-loop-id g l =
    record {
      written : IsPlainFormatter l.initial.f
          → HasWritten g.W.Write.write_str_gives l.initial.f (named_pairs l.yielded) l.f;
      left : l.yielded ++ pairs_left l.id-iterator ≡ pairs_left l.initial.id-iterator;
    }
