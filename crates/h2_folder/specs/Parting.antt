-- What a part of a file under way is.
use Rattle.std.specs.Prelude.{◌≡◌, ◌≢◌, ◌≤◌, ◌+◌, ◌⊎◌, ℕ, List, length, take, Option, Some, IfSome}
use Rattle.std.specs.Io.KnownBytes.{Consumes}

-- A file whose place is known is read on from the octet with this number, or, for the first one,
-- from where it was.
-- rule: files (own) A file's octets are sent from the one that the answer's head states
abbrev pub BeginsAt : (first : ℕ) → (place_before place_after : Option ℕ) → Type 0
BeginsAt first place_before place_after =
    ((first ≡ 0) × (place_after ≡ place_before))
    ⊎ ((first ≢ 0) × IfSome place_before (λ place. place_after ≡ Some first))

-- So many octets, which are the next of the file, lie at the front of the room, and so many fewer
-- are left; there are none only where there is no room or nothing was left.
-- rule: hosts (own) A file is sent in parts, as many octets as its head says
pub record GivesPart (known_before known_after : Option (List ℕ)) (left_before left_after : ℕ)
    (room : List ℕ) (count : ℕ) : Type 0 where
  pub within : count ≤ length room
  pub left : left_after + count ≡ left_before
  pub next : Consumes known_before known_after (take count room)
  pub some : count ≡ 0 → (length room ≡ 0) ⊎ (left_before ≡ 0)
