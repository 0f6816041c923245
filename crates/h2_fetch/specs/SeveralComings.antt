-- How the steps of a client that makes several requests follow one another.
use Rattle.std.specs.Prelude.{◌≡◌, ◌<◌, ◌≤◌, ℕ, List, [], ◌++◌, length, Option, Some, None}
use Rattle.std.specs.Prelude.{Result, Ok, Err}
use Rattle.h2_frame.specs.declared.code.Code.{Code}
use Rattle.h2_spec_log.specs.Acts.{Values}
use Rattle.h2_ends.specs.Ends.{EndLog}
use Rattle.h2_ends.specs.Represents.{EndRepresents}
use Rattle.h2_link.specs.declared.error.LinkError.{LinkError}
use Rattle.h2_link.specs.declared.error.LinkError.TheVariants as errors
use Rattle.h2_engines.specs.Linked.{Traffic, IsLinked, IsOutOfRounds}
use Rattle.h2_engines.specs.ServerSteps.{error_with}
use Rattle.h2_fetch.specs.declared.connection.Came.{Came}
use Rattle.h2_fetch.specs.declared.connection.ClientConnection.{ClientConnection}
use Rattle.h2_engines.specs.declared.sending.Credit.TheVariants.{On}
use Rattle.h2_fetch.specs.Credits.{credit_before}
use Rattle.h2_fetch.specs.Sends.{HasReturned}
use Rattle.h2_fetch.specs.Several.{AnsweredOn, AreComing, AskedOn, CameSo, HaveStopped, all_on}
use Rattle.h2_fetch.specs.Several.{IsFetchingSeveral, kept_on, several_unused}

-- Why a client can take no more, by which no part is lost, unless memory was refused: the
-- connection has failed, or it is out of rounds.
pub data TakesNoneMore (end : EndLog) (lost : AnsweredOn) (error : LinkError) : Type 0 where
  fails : (code : Code) → end.log.failed ≡ Some code → error ≡ error_with code
      → ((id : ℕ) → lost id ≡ []) → TakesNoneMore end lost error
  lacks_memory : end.log.failed ≡ None → error ≡ errors.Memory → TakesNoneMore end lost error
  out_of_rounds : end.log.failed ≡ None → error ≡ errors.NoProgress → IsOutOfRounds end
      → ((id : ℕ) → lost id ≡ []) → TakesNoneMore end lost error

-- A client has taken its last octets.
pub record HaveTakenLast (values : Values) (wide : ℕ) (start now : Traffic) (asked : List AskedOn)
    (fetch : ClientConnection) (end : EndLog) (answered : AnsweredOn)
    (error : LinkError) : Type 0 where
  pub fetching : IsFetchingSeveral values wide asked end
  pub represents : EndRepresents values fetch.client.end end
  pub unused : List ℕ
  pub linked : IsLinked start now end.log unused
  pub lost : AnsweredOn
  pub parts : (id : ℕ)
      → all_on id end.handed ≡ answered id ++ (kept_on id fetch.kept.entries ++ lost id)
  pub why : TakesNoneMore end lost error

-- what came of the octets that were read: something on a stream, or none, where none is kept
unfoldable pub TookCame : Values → (wide : ℕ) → (start now : Traffic) → List AskedOn →
    ClientConnection
    → ℕ → (before : EndLog) → AnsweredOn → Result (Option Came) LinkError → Type 0
TookCame values wide start now asked fetch id before answered (Ok (Some came)) =
    CameSo values wide start now asked fetch id answered (Ok came)
TookCame values wide start now asked fetch id before answered (Ok None) =
    (after : EndLog) × AreComing values wide start now asked fetch after answered
    × (kept_on id fetch.kept.entries ≡ []) × (several_unused fetch ≡ [])
    × (length before.log.turns ≤ length after.log.turns)
TookCame values wide start now asked fetch id before answered (Err error) =
    (after : EndLog) × HaveTakenLast values wide start now asked fetch after answered error

-- Whatever has happened at a client that fetches and keeps nothing of a stream, it takes what was
-- read until something has come there.
abbrev pub TakesUntilCame : (old new : ClientConnection) → ℕ → Result (Option Came) LinkError →
    Type 0
TakesUntilCame old new id result =
    (values : Values) (wide : ℕ) (start now : Traffic) (asked : List AskedOn) (end : EndLog)
    (answered : AnsweredOn) → AreComing values wide start now asked old end answered
    → kept_on id old.kept.entries ≡ []
    → TookCame values wide start now asked new id end answered result

-- A piece was read, in a turn at least, or the fetch has ended early; nothing was handed out.
unfoldable pub FilledSo : Values → (wide : ℕ) → (start now : Traffic) → List AskedOn →
    ClientConnection
    → (before after : EndLog) → AnsweredOn → Result (Unit {0}) LinkError → Type 0
FilledSo values wide start now asked fetch before after answered (Ok done) =
    AreComing values wide start now asked fetch after answered
    × (length before.log.turns < length after.log.turns)
FilledSo values wide start now asked fetch before after answered (Err error) =
    HaveStopped values wide start now asked fetch after answered error

abbrev pub FillsSeveral : (before now : Traffic) → (old new : ClientConnection) → (id : ℕ)
    → Result (Unit {0}) LinkError → Type 0
FillsSeveral before now old new id result =
    (values : Values) (wide : ℕ) (start : Traffic) (asked : List AskedOn) (end : EndLog)
    (answered : AnsweredOn) → AreComing values wide start before asked old end answered
    → several_unused old ≡ []
    → (after : EndLog)
    × HasReturned (credit_before end.log id old.filled (On id)) end after
    × FilledSo values wide start now asked new end after answered result

-- The next of a stream is asked for of which nothing is kept.
abbrev pub WaitsFor : (before now : Traffic) → (old new : ClientConnection) → ℕ
    → Result Came LinkError → Type 0
WaitsFor before now old new id result =
    (values : Values) (wide : ℕ) (start : Traffic) (asked : List AskedOn) (end : EndLog)
    (answered : AnsweredOn) → AreComing values wide start before asked old end answered
    → kept_on id old.kept.entries ≡ []
    → CameSo values wide start now asked new id answered result
