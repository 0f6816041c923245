-- How connections are served one after another.
use Rattle.std.specs.Prelude.{◌≡◌, ◌⊎◌, ℕ, false, List, [], ◌∷◌, length, None, Result, Ok, Err}
use Rattle.std.specs.List.{AllByRecursion}
use Rattle.h2_cli.specs.declared.status.Status.{Status}
use Rattle.h2_cli.specs.declared.status.Status.TheVariants.{Good, Device}
use Rattle.h2_link.specs.declared.error.LinkError.{LinkError}
use Rattle.h2_link.specs.declared.error.LinkError.TheVariants as errors
use Rattle.h2_engines.specs.Linked.{Traffic, traffic}
use Rattle.h2_engines.specs.Serves.{Serves}
use Rattle.h2_net.specs.Endings.{EndsStream, status_with}
use Rattle.h2_net.specs.Fetching.{default_values}

-- A connection was served over a new link, and has ended so; or none could be accepted, or there
-- was no memory for its link.
-- rule: engines (own) h2 serve serves COUNT connections, one after another
abbrev pub ServesConnection : Result (Unit {0}) LinkError → Type 0
ServesConnection result = (result ≡ Err errors.Device) ⊎ ((result ≡ Err errors.Memory)
    ⊎ ((served : Result ℕ LinkError) × EndsStream served result × (now : Traffic)
    × Serves default_values (traffic None None false) now served))

-- the status of the first of some connections that has ended early; the first is the oldest
-- rule: engines (own) h2 serve serves COUNT connections, one after another
abbrev pub status_of_first : (ended : List (Result (Unit {0}) LinkError)) → Status
status_of_first [] = Good
status_of_first (Ok done ∷ later) = status_of_first later
status_of_first (Err error ∷ later) = status_with error

-- So many connections were served, and the status is that of the first that has ended early.
-- Nothing ties them to what a listener has accepted: that is tested.
-- rule: engines (own) h2 serve serves COUNT connections, one after another
pub record ServesConnections (count : ℕ) (status : Status) : Type 0 where
  pub ended : List (Result (Unit {0}) LinkError)
  pub counted : length ended ≡ count
  pub served : AllByRecursion ServesConnection ended
  pub first : status ≡ status_of_first ended

-- The port can't be had; or so many connections to it were served.
-- rule: engines (own) h2 serve serves COUNT connections, one after another
abbrev pub ServesPort : (count : ℕ) → Status → Type 0
ServesPort count status = (status ≡ Device) ⊎ ServesConnections count status
