-- Methods, whose case matters.
use Rattle.std.specs.Prelude.{◌≡◌, [], ◌∷◌, ◌++◌, map, codes, replicate, Some, None, refl}
use Rattle.h2_files.specs.declared.methods.Method.TheVariants.{Get, Head}
use Rattle.h2_files.specs.Methods.{file_method}

-- GET, HEAD, and others.
-- rule: HTTP 15.5.6 GET and HEAD are served, and another method has 405
methods :
    map file_method (
    codes "GET" ∷ codes "HEAD" ∷ codes "get" ∷ codes "POST" ∷ codes "GETS" ∷ [] ∷ [])
    ≡ Some Get ∷ Some Head ∷ replicate 4 None
methods = refl
