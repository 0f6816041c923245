-- What the examples open to compute.
use Rattle.std.specs.Prelude.{⊤}
use Rattle.std.specs.Fmt.{digits}
use Rattle.std.specs.Path.{path_extension, path_file_name, rsplit_once, split_last_component}
use Rattle.std.specs.Path.{trim_trailing}
use Rattle.std.specs.Str.{chars, is_utf8}
use lib.Utf8.{encode}
use Rattle.percent_encoding.proofs.OnLiterals.{percent_encoding_on_literals}
use Rattle.httpdate.proofs.OnLiterals.{httpdate_on_literals}
use Rattle.h2_files.specs.MediaTypes.{type_of_extension}
use Rattle.h2_files.specs.Paths.{checked_name, last_name_of, name_fault, name_of_segment}
use Rattle.h2_files.specs.Paths.{names_of_path}
use Rattle.h2_files.specs.Ranges.{after_unit, number_of_digits, octets_of_range, spec_of}
use Rattle.h2_files.specs.Ranges.{spec_of_texts}
use Rattle.h2_files.specs.Tags.{opaque_part}

-- opens all that computes
unfoldable pub computing : ⊤
unfolding percent_encoding_on_literals httpdate_on_literals chars encode is_utf8 digits
    path_extension path_file_name rsplit_once split_last_component trim_trailing
    type_of_extension checked_name name_fault last_name_of name_of_segment names_of_path
    after_unit number_of_digits octets_of_range spec_of spec_of_texts opaque_part
computing = tt
