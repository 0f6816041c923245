-- The type of a file by its name (RFC 9110, section 8.3).
use Rattle.std.specs.Prelude.{ℕ, List, codes, Option, Some, None, ◌||◌, if◌then◌else◌}
use Rattle.std.specs.Path.{path_extension}
use Rattle.std.specs.Str.{bytes_eq}

-- the type of octets of which nothing is known
abbrev pub any_octets : List ℕ
any_octets = codes "application/octet-stream"

-- the type by the extension of a name; texts have the charset UTF-8
-- rule: files (own) The type of a file goes by the extension of its name
unfoldable pub type_of_extension : (extension : List ℕ) → List ℕ
type_of_extension e =
    if bytes_eq e (codes "html") || bytes_eq e (codes "htm") then codes "text/html; charset=utf-8"
    else if bytes_eq e (codes "css") then codes "text/css; charset=utf-8"
    else if bytes_eq e (codes "js") || bytes_eq e (codes "mjs")
    then codes "text/javascript; charset=utf-8"
    else if bytes_eq e (codes "txt") then codes "text/plain; charset=utf-8"
    else if bytes_eq e (codes "md") then codes "text/markdown; charset=utf-8"
    else if bytes_eq e (codes "csv") then codes "text/csv; charset=utf-8"
    else if bytes_eq e (codes "json") then codes "application/json"
    else if bytes_eq e (codes "xml") then codes "application/xml"
    else if bytes_eq e (codes "pdf") then codes "application/pdf"
    else if bytes_eq e (codes "wasm") then codes "application/wasm"
    else if bytes_eq e (codes "svg") then codes "image/svg+xml"
    else if bytes_eq e (codes "png") then codes "image/png"
    else if bytes_eq e (codes "jpg") || bytes_eq e (codes "jpeg") then codes "image/jpeg"
    else if bytes_eq e (codes "gif") then codes "image/gif"
    else if bytes_eq e (codes "webp") then codes "image/webp"
    else if bytes_eq e (codes "ico") then codes "image/x-icon"
    else if bytes_eq e (codes "woff2") then codes "font/woff2"
    else if bytes_eq e (codes "mp4") then codes "video/mp4"
    else any_octets

-- the type by what stands after a name's last dot, if it has one
abbrev pub type_or_any : (extension : Option (List ℕ)) → List ℕ
type_or_any None = any_octets
type_or_any (Some extension) = type_of_extension extension

-- the type of a file by its name
abbrev pub media_type : (name : List ℕ) → List ℕ
media_type name = type_or_any (path_extension name)
