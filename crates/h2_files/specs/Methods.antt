-- The methods that a folder has (RFC 9110, sections 9.1 and 15.5.6).
use Rattle.std.specs.Prelude.{ℕ, List, codes, Option, Some, None, if◌then◌else◌}
use Rattle.std.specs.Str.{bytes_eq}
use Rattle.h2_files.specs.declared.methods.Method.{Method}
use Rattle.h2_files.specs.declared.methods.Method.TheVariants.{Get, Head}

-- GET, HEAD, and no other, which is answered with 405
-- rule: HTTP 15.5.6 GET and HEAD are served, and another method has 405
abbrev pub file_method : (name : List ℕ) → Option Method
file_method name =
    if bytes_eq name (codes "GET") then Some Get
    else if bytes_eq name (codes "HEAD") then Some Head
    else None
