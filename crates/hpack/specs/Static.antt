-- The static table (RFC 7541, appendix A), and the entry that an index names (section 2.3.3).
use Rattle.std.specs.Prelude.{ℕ, zero, suc, List, [], ◌∷◌, ◌++◌, Option, None, slice_get, codes}
use Rattle.hpack.specs.Entry.{Entry}

-- the static table, from its first entry on
-- rule: HPACK A The static table has 61 entries
unfoldable pub static_entries : List Entry
static_entries =
    record { name = codes ":authority"; value = [] } ∷
    record { name = codes ":method"; value = codes "GET" } ∷
    record { name = codes ":method"; value = codes "POST" } ∷
    record { name = codes ":path"; value = codes "/" } ∷
    record { name = codes ":path"; value = codes "/index.html" } ∷
    record { name = codes ":scheme"; value = codes "http" } ∷
    record { name = codes ":scheme"; value = codes "https" } ∷
    record { name = codes ":status"; value = codes "200" } ∷
    record { name = codes ":status"; value = codes "204" } ∷
    record { name = codes ":status"; value = codes "206" } ∷
    record { name = codes ":status"; value = codes "304" } ∷
    record { name = codes ":status"; value = codes "400" } ∷
    record { name = codes ":status"; value = codes "404" } ∷
    record { name = codes ":status"; value = codes "500" } ∷
    record { name = codes "accept-charset"; value = [] } ∷
    record { name = codes "accept-encoding"; value = codes "gzip, deflate" } ∷
    record { name = codes "accept-language"; value = [] } ∷
    record { name = codes "accept-ranges"; value = [] } ∷
    record { name = codes "accept"; value = [] } ∷
    record { name = codes "access-control-allow-origin"; value = [] } ∷
    record { name = codes "age"; value = [] } ∷
    record { name = codes "allow"; value = [] } ∷
    record { name = codes "authorization"; value = [] } ∷
    record { name = codes "cache-control"; value = [] } ∷
    record { name = codes "content-disposition"; value = [] } ∷
    record { name = codes "content-encoding"; value = [] } ∷
    record { name = codes "content-language"; value = [] } ∷
    record { name = codes "content-length"; value = [] } ∷
    record { name = codes "content-location"; value = [] } ∷
    record { name = codes "content-range"; value = [] } ∷
    record { name = codes "content-type"; value = [] } ∷
    record { name = codes "cookie"; value = [] } ∷
    record { name = codes "date"; value = [] } ∷
    record { name = codes "etag"; value = [] } ∷
    record { name = codes "expect"; value = [] } ∷
    record { name = codes "expires"; value = [] } ∷
    record { name = codes "from"; value = [] } ∷
    record { name = codes "host"; value = [] } ∷
    record { name = codes "if-match"; value = [] } ∷
    record { name = codes "if-modified-since"; value = [] } ∷
    record { name = codes "if-none-match"; value = [] } ∷
    record { name = codes "if-range"; value = [] } ∷
    record { name = codes "if-unmodified-since"; value = [] } ∷
    record { name = codes "last-modified"; value = [] } ∷
    record { name = codes "link"; value = [] } ∷
    record { name = codes "location"; value = [] } ∷
    record { name = codes "max-forwards"; value = [] } ∷
    record { name = codes "proxy-authenticate"; value = [] } ∷
    record { name = codes "proxy-authorization"; value = [] } ∷
    record { name = codes "range"; value = [] } ∷
    record { name = codes "referer"; value = [] } ∷
    record { name = codes "refresh"; value = [] } ∷
    record { name = codes "retry-after"; value = [] } ∷
    record { name = codes "server"; value = [] } ∷
    record { name = codes "set-cookie"; value = [] } ∷
    record { name = codes "strict-transport-security"; value = [] } ∷
    record { name = codes "transfer-encoding"; value = [] } ∷
    record { name = codes "user-agent"; value = [] } ∷
    record { name = codes "vary"; value = [] } ∷
    record { name = codes "via"; value = [] } ∷
    record { name = codes "www-authenticate"; value = [] } ∷
    []

-- The entry that an index names: the static table from 1 on, then the dynamic one, its newest entry
-- first.
-- rule: HPACK 2.3.3 Indices 1 to 61 name the static table, those from 62 the dynamic
unfoldable pub entry : List Entry → ℕ → Option Entry
entry entries zero = None
entry entries (suc place) = slice_get (static_entries ++ entries) place
