-- Types by names.
use Rattle.std.specs.Prelude.{◌≡◌, [], ◌∷◌, map, codes, replicate, refl}
use Rattle.h2_files.specs.MediaTypes.{any_octets, media_type}
use Rattle.h2_files.proofs.examples.Computing.{computing}

-- Texts have their charset, others have none.
-- rule: files (own) The type of a file goes by the extension of its name
types :
    map media_type (codes "index.html" ∷ codes "a.b.css" ∷ codes "a.svg" ∷ codes "b.json" ∷ [])
    ≡ codes "text/html; charset=utf-8" ∷ codes "text/css; charset=utf-8"
    ∷ codes "image/svg+xml" ∷ codes "application/json" ∷ []
unfolding computing
types = refl

-- The last extension alone is seen, in lower case, and a name alone is none.
others :
    map media_type (
    codes "a" ∷ codes "html" ∷ codes "a.html.gz" ∷ codes "a.HTML" ∷ codes "a." ∷ [])
    ≡ replicate 5 any_octets
unfolding computing
others = refl
