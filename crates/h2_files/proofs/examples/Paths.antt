-- Paths of requests: the names that each gives, or why it is refused.
use Rattle.std.specs.Prelude.{◌≡◌, [], ◌∷◌, ◌++◌, map, codes, replicate, Ok, Err, refl}
use Rattle.h2_files.specs.declared.fault.PathFault.TheVariants as faults
use Rattle.h2_files.specs.Paths.{names_of}
use Rattle.h2_files.proofs.examples.Computing.{computing}

-- A file, one in a folder, and the index of a folder and of the root.
-- rule: files (own) A path is cut at its slashes, and a segment decoded once
files :
    map names_of (codes "/a" ∷ codes "/b/a.txt" ∷ codes "/b/" ∷ codes "/" ∷ [])
    ≡ Ok (codes "a" ∷ []) ∷ Ok (codes "b" ∷ codes "a.txt" ∷ [])
    ∷ Ok (codes "b" ∷ codes "index.html" ∷ []) ∷ Ok (codes "index.html" ∷ []) ∷ []
unfolding computing
files = refl

-- The query is dropped, with slashes and dots in it; a mark that is escaped is part of a name.
queries :
    map names_of (codes "/a?b" ∷ codes "/a?/../b" ∷ codes "/?a" ∷ codes "/a%3Fb" ∷ [])
    ≡ Ok (codes "a" ∷ []) ∷ Ok (codes "a" ∷ []) ∷ Ok (codes "index.html" ∷ [])
    ∷ Ok (codes "a?b" ∷ []) ∷ []
unfolding computing
queries = refl

-- Escapes are decoded once, in any case: what comes out of one is no escape.
-- rule: files (own) A path is cut at its slashes, and a segment decoded once
escapes :
    map names_of (codes "/%61" ∷ codes "/%4a%4A" ∷ codes "/a%20b" ∷ codes "/%2561" ∷
    codes "/%252e%252e/a" ∷ codes "/a+b" ∷ codes "/%C3%A9" ∷ [])
    ≡ Ok (codes "a" ∷ []) ∷ Ok (codes "JJ" ∷ []) ∷ Ok (codes "a b" ∷ []) ∷ Ok (codes "%61" ∷ [])
    ∷ Ok (codes "%2e%2e" ∷ codes "a" ∷ []) ∷ Ok (codes "a+b" ∷ [])
    ∷ Ok ((0xc3 ∷ 0xa9 ∷ []) ∷ []) ∷ []
unfolding computing
escapes = refl

-- An escape has two hexadecimal digits.
bad_escapes :
    map names_of (codes "/%" ∷ codes "/a%6" ∷ codes "/%6g" ∷ codes "/%g6" ∷ codes "/%%61" ∷
    codes "/a%/b" ∷ codes "/a%6?1" ∷ [])
    ≡ replicate 7 (Err faults.BadEscape)
unfolding computing
bad_escapes = refl

-- Names that begin with a dot, by themselves or out of escapes, in any place; one in a name does
-- not matter.
-- rule: files (own) A name that leaves its folder, or is hidden, is refused
dots :
    (map names_of (codes "/." ∷ codes "/.." ∷ codes "/../a" ∷ codes "/a/../b" ∷ codes "/a/.." ∷
    codes "/%2e%2e/a" ∷ codes "/%2E./a" ∷ codes "/a/%2e" ∷ codes "/.git/config" ∷
    codes "/..." ∷ [])
    ≡ replicate 10 (Err faults.Dot))
    × (map names_of (codes "/a.." ∷ codes "/a./b" ∷ [])
    ≡ Ok (codes "a.." ∷ []) ∷ Ok (codes "a." ∷ codes "b" ∷ []) ∷ [])
unfolding computing
dots = (refl, refl)

-- Slashes out of escapes, and backslashes.
-- rule: files (own) A name that leaves its folder, or is hidden, is refused
separators :
    map names_of (codes "/a%2Fb" ∷ codes "/a%2fb" ∷ codes "/%2f" ∷ codes "/a\\b" ∷ codes "/a%5Cb" ∷
    codes "/a%5c..%5cb" ∷ [])
    ≡ replicate 6 (Err faults.Separator)
unfolding computing
separators = refl

-- Control characters, as NUL, and octets that aren't UTF-8, out of escapes or not.
octets :
    (map names_of (codes "/a%00" ∷ codes "/%0a" ∷ codes "/%1F" ∷ codes "/%7f" ∷
    (codes "/a" ++ 0x00 ∷ []) ∷ [])
    ≡ replicate 5 (Err faults.Control))
    × (map names_of (codes "/%ff" ∷ codes "/%C3" ∷ codes "/%c0%ae" ∷ (codes "/" ++ 0xff ∷ []) ∷ [])
    ≡ replicate 4 (Err faults.NotText))
unfolding computing
octets = (refl, refl)

-- Empty names before the last; and what does not begin with a slash.
empty_names :
    (map names_of (codes "//" ∷ codes "//a" ∷ codes "/a//b" ∷ [])
    ≡ replicate 3 (Err faults.Empty))
    × (map names_of ([] ∷ codes "*" ∷ codes "a/b" ∷ codes "?" ∷ codes "%2Fa" ∷ [])
    ≡ replicate 5 (Err faults.NotAbsolute))
unfolding computing
empty_names = (refl, refl)

-- Names of 255 and of 256 octets, which are counted once they are decoded.
long_names :
    (names_of (codes "/" ++ replicate 255 0x61) ≡ Ok (replicate 255 0x61 ∷ []))
    × (names_of (codes "/" ++ replicate 256 0x61) ≡ Err faults.LongName)
unfolding computing
long_names = (refl, refl)
