-- The value so far, and the lines of the name that are left, are the joined value.
use Rattle.std.proofs.Common.{◌≡◌, option_map}
use Rattle.h2_folder.specs.Lines.{joined_on, joined_value}
use Rattle.h2_folder.proofs.lines.joined_value.Given as goal

abbrev pub invariant-loop-field : goal.invariant-loop-field
invariant-loop-field l =
    joined_on (option_map (λ value. value.items) l.value) l.fn.name l.field-iterator
    ≡ joined_value l.fn.name l.fn.list
