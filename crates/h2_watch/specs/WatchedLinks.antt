-- What is shown of the octets of a link.
use Rattle.std.specs.Prelude.{◌≡◌, ℕ, true, List, [], flat_map, take, Option, Some, None, IfSome}
use Rattle.std.specs.Prelude.{Result, Ok, Err}
use Rattle.std.specs.Io.KnownBytes.{Appends}
use Rattle.h2_link.specs.declared.link.LinkFault.{LinkFault}
use Rattle.h2_show.specs.declared.options.Side.{Side}
use Rattle.h2_follow.specs.Follows.{marked, mark_of}
use Rattle.h2_watch.specs.declared.watch.Watch.{Watch}
use Rattle.h2_watch.specs.Watches.{ShowsMore}

-- the octets that a call of a link says that it has read or written
abbrev pub octets_by : Result ℕ LinkFault → List ℕ → List ℕ
octets_by (Ok count) octets = take count octets
octets_by (Err fault) octets = []

-- texts, one after another
abbrev pub texts_joined : List (List ℕ) → List ℕ
texts_joined texts = flat_map (λ text. text) texts

-- what is printed of texts of a side: the lines of each, after the side's mark
-- rule: engines (own) get -v shows the frames of both sides as they come
abbrev pub marked_texts : Side → List (List ℕ) → List ℕ
marked_texts side texts = flat_map (marked (mark_of side) true) texts

-- Octets of a side have come, in some parts, and this was printed of them, the lines of each part
-- after the side's mark.
-- rule: engines (own) get -v shows the frames of both sides as they come
pub record ShowsParts (old new : Watch) (side : Side) (octets : List ℕ)
    (before after : Option (List ℕ)) : Type 0 where
  pub texts : List (List ℕ)
  pub printed : Appends before after (marked_texts side texts)
  pub shows : ShowsMore old new side octets (texts_joined texts)

-- Where octets were shown so far, these were too, unless something could not be shown; where that
-- was so before, nothing is printed.
-- rule: engines (own) get -v shows the frames of both sides as they come
abbrev pub ShowsStill : (old new : Option Watch) → Side → (octets : List ℕ)
    → (before after : Option (List ℕ)) → Type 0
ShowsStill None new side octets before after = (new ≡ None) × (after ≡ before)
ShowsStill (Some watch) new side octets before after =
    IfSome new (λ later. ShowsParts watch later side octets before after)
