-- The lines of `h2 show` in a style, one after another.
use Rattle.std.specs.Prelude.{◌≡◌, ℕ, ◌+◌, List, [], ◌∷◌, ◌++◌, Option}
use Rattle.std.specs.Io.KnownBytes.{Appends}
use Rattle.h2_wire.specs.Cutter.{saturated}
use Rattle.h2_show.specs.declared.options.Style.{Style}
use Rattle.h2_show.specs.declared.options.Style.TheVariants.{Plain, Text, Json}
use Rattle.h2_show.specs.ShownLines.{ShowLine, octets_of_line}
use Rattle.h2_show.specs.Lines.{plain_line}
use Rattle.h2_show.specs.StyledLines.{styled_line}
use Rattle.h2_show.specs.JsonLines.{json_line}

-- a line in a style, of which the first octet of the input stands at `at`, counted from 1
-- rule: show (own) The words choose names, places, colors and JSON
abbrev pub line_text : Style → (at : ℕ) → ShowLine → List ℕ
line_text Plain at line = plain_line line
line_text (Text style) at line = styled_line style at line
line_text Json at line = json_line at line

-- the place of the octet after those of a line, in a style that shows places; the plain one has none
-- rule: show (own) The words choose names, places, colors and JSON
abbrev pub place_past : Style → (at : ℕ) → ShowLine → ℕ
place_past Plain at line = at
place_past (Text style) at line = saturated (at + octets_of_line line)
place_past Json at line = saturated (at + octets_of_line line)

-- lines in a style, the first of which shows the octet at `at`
-- rule: show (own) The words choose names, places, colors and JSON
abbrev pub text_from : Style → (at : ℕ) → List ShowLine → List ℕ
text_from style at [] = []
text_from style at (line ∷ lines) =
    line_text style at line ++ text_from style (place_past style at line) lines

-- the place of the octet after those of lines
abbrev pub places_past : Style → (at : ℕ) → List ShowLine → ℕ
places_past style at [] = at
places_past style at (line ∷ lines) = places_past style (place_past style at line) lines

-- all lines of an input in a style
-- rule: show (own) The words choose names, places, colors and JSON
abbrev pub styled_text : Style → List ShowLine → List ℕ
styled_text style lines = text_from style 1 lines

-- What was appended is these lines in this style; the octets that they show go from `at` to before
-- `after`.
abbrev pub AppendsLines : Style → (at after : ℕ) → (old new : Option (List ℕ)) → List ShowLine
    → Type 0
AppendsLines style at after old new lines =
    Appends old new (text_from style at lines) × (after ≡ places_past style at lines)
