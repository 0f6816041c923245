-- The blanks at both ends are taken off.
use Rattle.std.proofs.Common.{refl}
use Rattle.std.proofs.lemmas.Str.Ascii.{trim_ascii_is}
use Rattle.h2_files.proofs.version.trimmed.Goals as goal

pub returns : goal.returns
returns c =
    trim_ascii_is c.args.element.now c.trim_ascii.result.now _ refl c.trim_ascii.ensures.value
