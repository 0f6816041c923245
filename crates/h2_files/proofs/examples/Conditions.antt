-- Which answer a request has (RFC 9110, sections 8.8.3, 13.1 and 13.2.2).
use Rattle.std.specs.Prelude.{◌≡◌, [], ◌∷◌, map, codes, replicate, true, false, refl}
use Rattle.std.specs.Prelude.{Some, None}
use Rattle.h2_files.specs.declared.conditions.Answer.TheVariants.{NotModified, Part}
use Rattle.h2_files.specs.declared.conditions.Answer.TheVariants.{PreconditionFailed}
use Rattle.h2_files.specs.declared.conditions.Answer.TheVariants.{Unsatisfiable, Whole}
use Rattle.h2_files.specs.declared.methods.Method.TheVariants.{Get, Head}
use Rattle.h2_files.specs.Conditions.{Asked, file_answer, holds_match, holds_none_match}
use Rattle.h2_files.specs.Conditions.{holds_range}
use Rattle.h2_files.specs.Conditions.{holds_modified_since, holds_unmodified_since}
use Rattle.h2_files.specs.Tags.{Validators, entity_tag, validators}
use Rattle.h2_files.proofs.examples.Computing.{computing}

-- A file of 10 octets that was modified at the second of section 5.6.7's dates: a strong version
-- and a weak one.
abbrev strong : Validators
strong = validators 10 784111777 false

abbrev weak : Validators
weak = validators 10 784111777 true

-- The tags that are written.
tags :
    entity_tag strong ∷ entity_tag weak ∷ []
    ≡ codes "\"784111777-10\"" ∷ codes "W/\"784111777-10\"" ∷ []
unfolding computing
tags = refl

-- `if-match` compares strongly: the tag, in a list, and any; not another one, a weak one, nothing,
-- nor `*` in a list.
-- rule: HTTP 8.8.3 A tag means a version by the strong or the weak comparison
matches :
    (map (holds_match strong) (codes "\"784111777-10\"" ∷ codes "\"a\" , \"784111777-10\"" ∷
    codes "*" ∷ codes " *" ∷ [])
    ≡ replicate 4 true)
    × (map (holds_match strong) (codes "\"784111777-11\"" ∷ codes "W/\"784111777-10\"" ∷
    codes "784111777-10" ∷ [] ∷ codes "\"784111777-10\"\"" ∷ codes "\"a\", *" ∷ codes "*,*" ∷ [])
    ≡ replicate 7 false)
    × (map (holds_match weak) (codes "\"784111777-10\"" ∷ codes "W/\"784111777-10\"" ∷
    codes "*" ∷ [])
    ≡ false ∷ false ∷ true ∷ [])
unfolding computing
matches = (refl, refl, refl)

-- `if-none-match` compares weakly.
-- rule: HTTP 8.8.3 A tag means a version by the strong or the weak comparison
none_matches :
    (map (holds_none_match strong) (codes "\"784111777-10\"" ∷ codes "W/\"784111777-10\"" ∷
    codes "\"a\",,\"784111777-10\"" ∷ codes "*" ∷ [])
    ≡ replicate 4 false)
    × (map (holds_none_match weak) (codes "\"784111777-10\"" ∷ codes "W/\"784111777-10\"" ∷ [])
    ≡ replicate 2 false)
    × (map (holds_none_match strong) (codes "\"784111777-1\"" ∷ codes "w/\"784111777-10\"" ∷
    codes "W/W/\"784111777-10\"" ∷ codes "\"a\"" ∷ [] ∷ codes "\"a\",*,\"b\"" ∷ [])
    ≡ replicate 6 true)
unfolding computing
none_matches = (refl, refl, refl)

-- Dates, in their three forms, a second earlier and later, and what is none.
dates :
    (map (holds_modified_since strong) (codes "Sun, 06 Nov 1994 08:49:36 GMT" ∷
    codes "Sun, 06 Nov 1994 08:49:37 GMT" ∷ codes "Sunday, 06-Nov-94 08:49:37 GMT" ∷
    codes "Sun Nov  6 08:49:37 1994" ∷ codes "Sun, 06 Nov 1994 08:49:38 GMT" ∷
    codes "yesterday" ∷ [])
    ≡ true ∷ false ∷ false ∷ false ∷ false ∷ true ∷ [])
    × (map (holds_unmodified_since strong) (codes "Sun, 06 Nov 1994 08:49:36 GMT" ∷
    codes "Sun, 06 Nov 1994 08:49:37 GMT" ∷ codes "Sun, 06 Nov 1994 08:49:38 GMT" ∷
    codes "yesterday" ∷ [])
    ≡ false ∷ true ∷ true ∷ true ∷ [])
unfolding computing
dates = (refl, refl)

-- `if-range`: its tag or its very date, and neither of a weak version.
ranges :
    (map (holds_range strong) (codes "\"784111777-10\"" ∷ codes "Sun, 06 Nov 1994 08:49:37 GMT" ∷
    codes "Sun, 06 Nov 1994 08:49:38 GMT" ∷ codes "W/\"784111777-10\"" ∷ codes "\"a\"" ∷
    codes "*" ∷ [])
    ≡ true ∷ true ∷ false ∷ false ∷ false ∷ false ∷ [])
    × (map (holds_range weak) (codes "\"784111777-10\"" ∷ codes "Sun, 06 Nov 1994 08:49:37 GMT" ∷
    codes "W/\"784111777-10\"" ∷ [])
    ≡ replicate 3 false)
unfolding computing
ranges = (refl, refl)

-- a request without conditions
abbrev plain : Asked
plain = record {
  if_match = None;
  if_unmodified_since = None;
  if_none_match = None;
  if_modified_since = None;
  range = None;
  if_range = None;
}

-- a range of the first two octets
abbrev two : Asked
two = record plain { range = Some (codes "bytes=0-1") }

-- Without conditions: the whole file, and with a range of GET its part; HEAD has no range.
without_conditions :
    file_answer strong Get plain ∷ file_answer strong Get two ∷ file_answer strong Head two
    ∷ file_answer strong Get (record plain { range = Some (codes "bytes=10-") }) ∷ []
    ≡ Whole ∷ Part 0 1 ∷ Whole ∷ Unsatisfiable ∷ []
unfolding computing
without_conditions = refl

-- The first two steps go before the next two, and these before a range; a tag goes before a date.
-- rule: HTTP 13.2.2 Conditions are evaluated in one order, before a range
orders :
    map (file_answer strong Get) (
    record two { if_match = Some (codes "\"a\""); if_none_match = Some (codes "*") }
    ∷ record two { if_match = Some (codes "*"); if_none_match = Some (codes "*") }
    ∷ record two { if_unmodified_since = Some (codes "Sun, 06 Nov 1994 08:49:36 GMT") }
    ∷ record two {
      if_match = Some (codes "*");
      if_unmodified_since = Some (codes "Sun, 06 Nov 1994 08:49:36 GMT");
    }
    ∷ record two { if_modified_since = Some (codes "Sun, 06 Nov 1994 08:49:37 GMT") }
    ∷ record two {
      if_none_match = Some (codes "\"a\"");
      if_modified_since = Some (codes "Sun, 06 Nov 1994 08:49:37 GMT");
    }
    ∷ record plain { range = Some (codes "bytes=10-"); if_none_match = Some (codes "*") } ∷ [])
    ≡ PreconditionFailed ∷ NotModified ∷ PreconditionFailed ∷ Part 0 1 ∷ NotModified ∷ Part 0 1
    ∷ NotModified ∷ []
unfolding computing
orders = refl

-- Another tag is no reason for 304; a range goes where `if-range` holds, and without a range that
-- says nothing.
-- rule: HTTP 13.2.2 Conditions are evaluated in one order, before a range
ranges_of_versions :
    map (file_answer strong Get) (
    record plain { if_none_match = Some (codes "\"a\"") }
    ∷ record two { if_range = Some (codes "\"784111777-10\"") }
    ∷ record two { if_range = Some (codes "\"a\"") }
    ∷ record plain { if_range = Some (codes "\"784111777-10\"") }
    ∷ record plain {
      range = Some (codes "bytes=10-");
      if_range = Some (codes "\"a\"");
    } ∷ [])
    ≡ Whole ∷ Part 0 1 ∷ Whole ∷ Whole ∷ Whole ∷ []
unfolding computing
ranges_of_versions = refl
