-- What the calls of a link say: the octets that it gives and takes, and whether it fails.
use Rattle.std.specs.Prelude.{◌≡◌, ◌≤◌, ℕ, ◌+◌, ◌==◌, nat_lt, Bool, true, ◌&&◌, ◌||◌, List, []}
use Rattle.std.specs.Prelude.{length, take, Option, Result, Ok, Err}
use Rattle.std.specs.Io.KnownBytes.{Appends}
use Rattle.h2_link.specs.declared.link.LinkFault.{LinkFault}
use Rattle.h2_link.specs.declared.error.LinkError.{LinkError}
use Rattle.h2_link.specs.declared.error.LinkError.TheVariants as errors

-- how often a link has failed, after a call
-- rule: links (own) A link counts the calls that fail
-- rule: engines (own) A link over TCP counts the calls that have failed
abbrev pub failures_after : {A : Type 0} → ℕ → Result A LinkFault → ℕ
failures_after failures (Ok value) = failures
failures_after failures (Err fault) = failures + 1

-- whether none of these octets were read or written, and there were some
-- rule: links (own) The end of the input is a read that gives nothing
abbrev pub is_none_of : (octets count : ℕ) → Bool
is_none_of octets count = nat_lt 0 octets && (count == 0)

-- whether a read has met the end of the input, after one with room for so many octets
-- rule: links (own) The end of the input is a read that gives nothing
-- rule: engines (own) A link over TCP counts the calls that have failed
abbrev pub ended_after : Bool → (room : ℕ) → Result ℕ LinkFault → Bool
ended_after ended room (Ok count) = is_none_of room count || ended
ended_after ended room (Err fault) = ended

-- whether a write of octets has taken none, after one of so many
-- rule: links (own) Writing all octets ends once they are taken, or with N1 or N5
-- rule: engines (own) A link over TCP counts the calls that have failed
abbrev pub stalled_after : Bool → (octets : ℕ) → Result ℕ LinkFault → Bool
stalled_after stalled octets (Ok count) = is_none_of octets count || stalled
stalled_after stalled octets (Err fault) = stalled

-- A read gave the first octets of the buffer, at most all of them; one that failed gave none.
-- rule: links (own) A link gives and takes octets in order
abbrev pub Gives : (before after : Option (List ℕ)) → Result ℕ LinkFault → List ℕ → Type 0
Gives before after (Ok count) buffer = (count ≤ length buffer) × Appends before after
    (take count buffer)
Gives before after (Err fault) buffer = Appends before after []

-- The link took the first octets, so many of them.
pub record TakesFirst (before after : Option (List ℕ)) (octets : List ℕ) (count : ℕ) : Type 0 where
  pub within : count ≤ length octets
  pub took : Appends before after (take count octets)

-- A write took the first octets, as many as it says; one that failed took some first ones, or none.
-- rule: links (own) A link gives and takes octets in order
abbrev pub Takes : (before after : Option (List ℕ)) → Result ℕ LinkFault → List ℕ → Type 0
Takes before after (Ok count) octets = TakesFirst before after octets count
Takes before after (Err fault) octets = (count : ℕ) × TakesFirst before after octets count

-- N5 is answered only where a write of octets has taken none.
-- rule: links (own) Writing all octets ends once they are taken, or with N1 or N5
abbrev pub StallsAtNoProgress : {A : Type 0} → Result A LinkError → (stalled : Bool) → Type 0
StallsAtNoProgress (Err errors.NoProgress) stalled = stalled ≡ true
StallsAtNoProgress result stalled = Unit {0}

-- All octets were taken; or some first ones, or none: the link has failed, or has taken nothing in
-- a call.
-- rule: links (own) Writing all octets ends once they are taken, or with N1 or N5
unfoldable pub WritesAll : (before after : Option (List ℕ)) → (failures failures_now : ℕ)
    → Result (Unit {0}) LinkError → List ℕ → Type 0
WritesAll before after failures failures_now (Ok done) octets =
    Appends before after octets × (failures_now ≡ failures)
WritesAll before after failures failures_now (Err errors.Device) octets =
    ((count : ℕ) × TakesFirst before after octets count) × (failures_now ≡ failures + 1)
WritesAll before after failures failures_now (Err errors.NoProgress) octets =
    ((count : ℕ) × TakesFirst before after octets count) × (failures_now ≡ failures)
WritesAll before after failures failures_now (Err other) octets = ⊥
