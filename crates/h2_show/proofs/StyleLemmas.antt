-- Lines in a style, one after another.
use Rattle.h2_show.proofs.Names.{◌≡◌, ℕ, ◌&&◌, Bool, true, List, [], ◌∷◌, ◌++◌, Option, refl, sym, ◌∙◌}
use Rattle.h2_show.proofs.Names.{ap, subst, append_assoc, append-nil, Appends, Appends-trans}
use Rattle.h2_show.proofs.Names.{Appends-nil, Style, ShowLine, text_from, places_past}
use Rattle.h2_show.proofs.Names.{AppendsLines, due_line, rules}
use Rattle.h2_show.proofs.Names.{◌-◌, codes, drop, length, take, take_rest}
use Rattle.h2_show.specs.StyledLines.{first_in_bold, first_length, look_if}
use Rattle.h2_show.proofs.Names.{arith, false}
use Rattle.std.specs.Prelude.{replicate}
use Rattle.std.specs.Fmt.{char_count, format_spec, padded_integral}
use Rattle.h2_show.specs.Styles.{line_text, place_past}

-- the text of lines and of others after them
pub text_append : (style : Style) (at : ℕ) (first second : List ShowLine)
    → text_from style at (first ++ second)
    ≡ text_from style at first ++ text_from style (places_past style at first) second
text_append style at [] second = refl
text_append style at (line ∷ first) second =
    ap (λ (text : List ℕ). line_text style at line ++ text)
    (text_append style (place_past style at line) first second)
    ∙ sym (append_assoc (line_text style at line) _ _)

-- the place after lines and others after them
pub places_append : (style : Style) (at : ℕ) (first second : List ShowLine)
    → places_past style at (first ++ second)
    ≡ places_past style (places_past style at first) second
places_append style at [] second = refl
places_append style at (line ∷ first) second =
    places_append style (place_past style at line) first second

-- no lines are printed
pub lines_none : (style : Style) (at : ℕ) (known : Option (List ℕ))
    → AppendsLines style at at known known []
lines_none style at known = (Appends-nil known, refl)

-- lines that are printed, and others after them
pub lines_trans : (style : Style) (at mid after : ℕ) (start text ended : Option (List ℕ))
    (first second : List ShowLine) → AppendsLines style at mid start text first
    → AppendsLines style mid after text ended second
    → AppendsLines style at after start ended (first ++ second)
lines_trans style at mid after start text ended first second one two = (
  subst (λ (all : List ℕ). Appends start ended all) (sym (text_append style at first second))
      (Appends-trans start text ended _ _ one.0
      (subst (λ (place : ℕ). Appends text ended (text_from style place second)) one.1 two.0)),
  two.1 ∙ ap (λ (place : ℕ). places_past style place second) one.1
      ∙ sym (places_append style at first second),
)

-- the same in a style that is the same
pub lines_styled : (style same : Style) (at after : ℕ) (start ended : Option (List ℕ))
    (lines : List ShowLine) → same ≡ style → AppendsLines same at after start ended lines
    → AppendsLines style at after start ended lines
lines_styled style same at after start ended lines is printed =
    subst (λ (some : Style). AppendsLines some at after start ended lines) is printed

and_true : (one : Bool) → (one && true) ≡ one
and_true one = search rules

-- the lines of a frame, after that of the preface where it is due, in printers of one style
pub frame_written : (style same kept : Style) (at next mid after : ℕ)
    (start before one two : Option (List ℕ)) (due : Bool) (printed : List ShowLine)
    (line : ShowLine) → same ≡ style → kept ≡ same
    → AppendsLines style at next start before printed
    → AppendsLines same next mid before one (due_line (due && true))
    → AppendsLines kept mid after one two (line ∷ [])
    → AppendsLines style at after start two (printed ++ (due_line due ++ line ∷ []))
frame_written style same kept at next mid after start before one two due printed line is alike first
    second third =
    lines_trans style at next after start before two printed (due_line due ++ line ∷ []) first
    (lines_trans style next mid after before one two (due_line due) (line ∷ [])
    (subst (λ (some : Bool). AppendsLines style next mid before one (due_line some)) (and_true due)
    (lines_styled style same next mid before one _ is second))
    (lines_styled style kept mid after one two (line ∷ []) (alike ∙ is) third))

-- text that is appended after lines that were printed
pub text_after : (style same : Style) (at mid : ℕ) (start text ended : Option (List ℕ))
    (first second : List ShowLine) → same ≡ style → AppendsLines style at mid start text first
    → Appends text ended (text_from same mid second)
    → Appends start ended (text_from style at (first ++ second))
text_after style same at mid start text ended first second is one two =
    subst (λ (all : List ℕ). Appends start ended all) (sym (text_append style at first second))
    (Appends-trans start text ended _ _ one.0
    (subst (λ (place : ℕ). Appends text ended (text_from style place second)) one.1
    (subst (λ (some : Style). Appends text ended (text_from some mid second)) is two)))

-- four texts one after another, the first three of which belong together
pub four_written : (start one two three ended : Option (List ℕ)) (first second third fourth : List ℕ)
    → Appends start one first → Appends one two second → Appends two three third
    → Appends three ended fourth → Appends start ended ((first ++ second ++ third) ++ fourth)
four_written start one two three ended first second third fourth a b c d =
    Appends-trans start three ended _ fourth (Appends-trans start two three _ third
    (Appends-trans start one two first second a b) c) d

-- a line alone
pub line_alone : (style : Style) (at : ℕ) (line : ShowLine) (start ended : Option (List ℕ))
    → Appends start ended (line_text style at line)
    → Appends start ended (text_from style at (line ∷ []))
line_alone style at line start ended written =
    subst (λ (text : List ℕ). Appends start ended text) (sym (append-nil (line_text style at line)))
    written

-- words of which the first is bold
pub bold_written : (colors : Bool) (words : List ℕ) (end : ℕ)
    (start one two three ended : Option (List ℕ)) → end ≡ first_length words
    → Appends start one (look_if colors (codes "1")) → Appends one two (take end words)
    → Appends two three (look_if colors (codes "0"))
    → Appends three ended (take (length words - end) (drop end words))
    → Appends start ended (first_in_bold colors words)
bold_written colors words end start one two three ended is a b c d =
    subst (λ (count : ℕ). Appends start ended
    ((look_if colors (codes "1") ++ take count words ++ look_if colors (codes "0"))
    ++ drop count words)) is
    (four_written start one two three ended _ (take end words) _ (drop end words) a b c
    (subst (λ (text : List ℕ). Appends three ended text) (take_rest words end) d))

-- what `{:010}` writes: zeros before the digits
pub padded_place : (numeral : List ℕ)
    → padded_integral (format_spec 32 0 4 10 18446744073709551615) false [] numeral
    ≡ replicate (10 - length numeral) 48 ++ numeral
unfolding padded_integral char_count
padded_place numeral =
    let short : 10 - length numeral - 0 - 0 ≡ 10 - length numeral = omega arith in
    ap (λ (count : ℕ). replicate count 48 ++ (numeral ++ [])) short
    ∙ ap (λ (rest : List ℕ). replicate (10 - length numeral) 48 ++ rest) (append-nil numeral)
