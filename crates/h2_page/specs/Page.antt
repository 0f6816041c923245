-- The page of `h2 show --follow --page`: its head, the lines with each octet that HTML gives a meaning
-- escaped, and its end. What stands in the lines is read by the page's script alone, as text.
-- contract: h2_page::page_of
use Rattle.std.specs.Prelude.{ℕ, ◌==◌, ◌||◌, Bool, if◌then◌else◌, List, [], ◌∷◌, ◌++◌, flat_map}
use Rattle.std.specs.Prelude.{◌≡◌, codes}
use Rattle.hex.specs.Hex.{encode_lower}
use Rattle.h2_page.specs.declared.template.TheConstants.{HEAD, END}

-- an octet that HTML gives a meaning: `<`, `>`, `&`, `"` or `'`
-- rule: page (own) No octet of a peer has a meaning in HTML
abbrev pub has_meaning : ℕ → Bool
has_meaning octet = octet == 60 || octet == 62 || octet == 38 || octet == 34 || octet == 39

-- an octet as it is, or as `\x` and two hexadecimal digits
-- rule: page (own) No octet of a peer has a meaning in HTML
abbrev pub escaped_octet : ℕ → List ℕ
escaped_octet octet =
    if has_meaning octet then 92 ∷ 120 ∷ encode_lower (octet ∷ []) else octet ∷ []

-- rule: page (own) No octet of a peer has a meaning in HTML
abbrev pub escaped : List ℕ → List ℕ
escaped lines = flat_map escaped_octet lines

-- the page of lines, between its head and its end
-- rule: page (own) A page is its head, the lines, escaped, and its end
abbrev pub page_of : (lines : List ℕ) → List ℕ
page_of lines = HEAD.now ++ (escaped lines ++ END.now)

-- The head of a page: a document of HTML begins, and at its end a script of plain text, which a
-- browser neither runs nor shows.
-- rule: page (own) A page is its head, the lines, escaped, and its end
abbrev pub IsPageHead : List ℕ → Type 0
IsPageHead octets =
    (more : List ℕ) × (octets ≡ codes "<!doctype html>\n" ++ (more
    ++ codes "<script type='text/plain' id='lines'>\n"))

-- The end of a page: first the script of plain text ends, and last the document.
-- rule: page (own) A page is its head, the lines, escaped, and its end
abbrev pub IsPageEnd : List ℕ → Type 0
IsPageEnd octets =
    (more : List ℕ) × (octets ≡ codes "</script>\n" ++ (more ++ codes "</html>\n"))
