-- A response that is fetched part by part.
use Rattle.std.specs.Prelude.{◌≡◌, ℕ, ◌==◌, Bool, false, if◌then◌else◌, List, [], ◌∷◌, ◌++◌}
use Rattle.std.specs.Prelude.{Option, Some, None}
use Rattle.h2_ends.specs.Ends.{Handed, Passed, InterimHanded, HeadHanded, BodyHanded}
use Rattle.h2_ends.specs.Ends.{TrailersHanded}
use Rattle.h2_fetch.specs.declared.part.ResponsePart.{ResponsePart}
use Rattle.h2_fetch.specs.declared.part.ResponsePart.TheVariants.{Interim, Head, Body, Trailers}

-- the part as it was handed out on a stream
-- rule: engines (own) A response in parts is what is handed out, in order
abbrev pub handed_of : ℕ → ResponsePart → Handed
handed_of id (Interim list) = InterimHanded id list.items
handed_of id (Head list end) = HeadHanded id list.items end
handed_of id (Body octets end) = BodyHanded id octets.items end
handed_of id (Trailers list) = TrailersHanded id list.items

-- whether what was handed out is a part of the message on a stream
abbrev pub is_on : ℕ → Handed → Bool
is_on i (InterimHanded id list) = id == i
is_on i (HeadHanded id list end) = id == i
is_on i (BodyHanded id octets end) = id == i
is_on i (TrailersHanded id list) = id == i
is_on i (Passed event) = false

-- what was handed out on a stream, the first part first
-- rule: engines (own) A response in parts is what is handed out, in order
unfoldable pub handed_on : ℕ → List Handed → List Handed
handed_on i [] = []
handed_on i (one ∷ handed) = handed_on i handed ++ (if is_on i one then one ∷ [] else [])

-- What was handed out is this part of the response on a stream; or it is none of it, or nothing was
-- handed out.
-- rule: engines (own) A response in parts is what is handed out, in order
abbrev pub HandsPart : ℕ → Option Handed → Option ResponsePart → Type 0
HandsPart id None None = Unit {0}
HandsPart id None (Some part) = ⊥
HandsPart id (Some handed) None = is_on id handed ≡ false
HandsPart id (Some handed) (Some part) = handed ≡ handed_of id part
