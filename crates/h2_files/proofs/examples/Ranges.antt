-- What fields `range` ask for (RFC 9110, section 14.1.2).
use Rattle.std.specs.Prelude.{◌≡◌, [], ◌∷◌, map, codes, replicate, refl}
use Rattle.h2_files.specs.declared.range.Ranged.TheVariants.{Ignored, Part, Unsatisfiable}
use Rattle.h2_files.specs.Ranges.{content_range, range_of, unsatisfied_range}
use Rattle.h2_files.proofs.examples.Computing.{computing}

-- Of 10,000 octets: the section's own examples.
-- rule: HTTP 14.2 One range gives octets of the file, is ignored, or has 416
of_ten_thousand :
    map (λ value. range_of value 10000) (codes "bytes=0-499" ∷ codes "bytes=500-999" ∷
    codes "bytes=-500" ∷ codes "bytes=9500-" ∷ codes "bytes=0-0" ∷ codes "bytes=-1" ∷ [])
    ≡ Part 0 499 ∷ Part 500 999 ∷ Part 9500 9999 ∷ Part 9500 9999 ∷ Part 0 0
    ∷ Part 9999 9999 ∷ []
unfolding computing
of_ten_thousand = refl

-- The end: a last octet at it and beyond it, a first octet at the last and after it, suffixes that
-- are as long as the file, longer, and empty.
-- rule: HTTP 14.2 One range gives octets of the file, is ignored, or has 416
at_the_end :
    map (λ value. range_of value 10) (codes "bytes=0-" ∷ codes "bytes=0-9" ∷ codes "bytes=0-10" ∷
    codes "bytes=9-" ∷ codes "bytes=10-" ∷ codes "bytes=10-11" ∷ codes "bytes=-10" ∷
    codes "bytes=-11" ∷ codes "bytes=-0" ∷ [])
    ≡ Part 0 9 ∷ Part 0 9 ∷ Part 0 9 ∷ Part 9 9 ∷ Unsatisfiable ∷ Unsatisfiable ∷ Part 0 9
    ∷ Part 0 9 ∷ Unsatisfiable ∷ []
unfolding computing
at_the_end = refl

-- An empty file.
of_nothing :
    map (λ value. range_of value 0) (codes "bytes=0-" ∷ codes "bytes=-1" ∷ codes "bytes=-0" ∷ [])
    ≡ Unsatisfiable ∷ Ignored ∷ Unsatisfiable ∷ []
unfolding computing
of_nothing = refl

-- What is ignored: another unit, none, several ranges, blanks, signs, a first octet after the
-- last.
-- rule: HTTP 14.2 One range gives octets of the file, is ignored, or has 416
ignored :
    map (λ value. range_of value 10) (
    [] ∷ codes "bytes" ∷ codes "bytes=" ∷ codes "bytes=-" ∷ codes "lines=0-1" ∷ codes "0-1" ∷
    codes "bytes=0-1,3-4" ∷ codes "bytes=0-1," ∷ codes "bytes= 0-1" ∷ codes "bytes=0 -1" ∷
    codes "bytes=0-1 " ∷ codes "bytes =0-1" ∷ codes "bytes=+0-1" ∷ codes "bytes=5-4" ∷
    codes "bytes=11-10" ∷ codes "bytes=0--1" ∷ codes "bytes=--1" ∷ codes "bytes=0" ∷
    codes "bytes=0x1-2" ∷ [])
    ≡ replicate 19 Ignored
unfolding computing
ignored = refl

-- The unit in any case; leading zeros; numbers at 2^64, which is the first that is none.
numbers :
    map (λ value. range_of value 10) (
    codes "BYTES=1-2" ∷ codes "bytes=0000000000000000000000001-2" ∷
    codes "bytes=0-18446744073709551615" ∷ codes "bytes=18446744073709551615-" ∷
    codes "bytes=0-18446744073709551616" ∷ codes "bytes=99999999999999999999-" ∷ [])
    ≡ Part 1 2 ∷ Part 1 2 ∷ Part 0 9 ∷ Unsatisfiable ∷ Ignored ∷ Ignored ∷ []
unfolding computing
numbers = refl

-- The fields `content-range`.
written :
    content_range 0 499 1234 ∷ unsatisfied_range 47022 ∷ []
    ≡ codes "bytes 0-499/1234" ∷ codes "bytes */47022" ∷ []
unfolding computing
written = refl
