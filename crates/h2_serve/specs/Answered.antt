-- What has become of the requests of a connection that has come to rest.
use Rattle.std.specs.Prelude.{◌≢◌, ◌⊎◌, ℕ, Bool, []}
use Rattle.std.specs.List.{Contains}
use Rattle.h2_spec_log.specs.Events.{ResetEvent}
use Rattle.h2_spec_log.specs.Log.{Log}
use Rattle.h2_laws_pair.specs.Undisturbed.{WasAsked}
use Rattle.h2_ends.specs.Ends.{EndLog, parts_on}
use Rattle.h2_ends.specs.Represents.{IsSent}

-- The stream was reset: this end has reported it, or was asked to reset it.
pub data StreamWasReset (log : Log) (id : ℕ) : Type 0 where
  was_reported : (code : ℕ) (ours : Bool) → Contains log.reported (ResetEvent id code ours)
      → StreamWasReset log id
  was_asked : (code : ℕ) → WasAsked log.calls id code → StreamWasReset log id

-- Each request of which something was handed out was answered, and its answer was sent whole, with
-- its end; unless its stream was reset.
-- rule: engines (own) Where serving ends well each request was answered whole or reset
abbrev pub AnswersEach : EndLog → Type 0
AnswersEach end = (id : ℕ) → parts_on id end.handed ≢ [] → StreamWasReset end.log id ⊎ IsSent end id
