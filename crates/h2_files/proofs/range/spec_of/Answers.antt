-- The first dash divides a range.
use Rattle.std.proofs.Common.{◌≡◌, ◌≤◌, length, refl, ◌∙◌, ap₂, arith}
use Rattle.std.proofs.lemmas.Bool.{le-ltb, lt-ltb}
use Rattle.std.specs.List.{position_or_len}
use Rattle.h2_files.specs.Cuts.{is_octet}
use Rattle.h2_files.specs.Ranges.{spec_of, spec_of_texts}
use Rattle.h2_files.proofs.range.spec_of.Goals as goal

pub returns-in_err-first : goal.returns-in_err-first
unfolding spec_of
returns-in_err-first c =
    let text = c.args.text.now in
    let ends : position_or_len (is_octet 45) text ≡ length text =
    rw c.in_err-first.was at c.divide.ensures in
    let least : length text ≤ position_or_len (is_octet 45) text = omega arith in
    rw (
      c.from_residual.ensures,
      le-ltb (position_or_len (is_octet 45) text) (length text) least,
    ) refl

pub returns : goal.returns
unfolding spec_of
returns c =
    let text = c.args.text.now in
    let parts = rw c.in_ok-first.was at c.divide.ensures in
    rw (lt-ltb (position_or_len (is_octet 45) text) (length text) parts.0)
    (c.spec_of_texts.ensures ∙ ap₂ spec_of_texts parts.1 parts.2)
