-- How a connection over a link may end early, and how often the link has failed then.
-- contract: h2_engines::fetch_link
-- contract: h2_engines::serve_link
use Rattle.std.specs.Prelude.{◌≡◌, ◌⊎◌, ℕ, ◌+◌, Bool, true, List, ◌∷◌, Some, None, Result, Err}
use Rattle.h2_frame.specs.declared.code.Code.TheVariants.{InternalError}
use Rattle.h2_spec_log.specs.declared.refusal.Refusal.TheVariants.{Memory}
use Rattle.h2_spec_log.specs.Acts.{Act, Answer, PutOut, Refused}
use Rattle.h2_spec_log.specs.Log.{Log}
use Rattle.h2_ends.specs.declared.refusal.EndRefusal.{EndRefusal}
use Rattle.h2_ends.specs.declared.refusal.EndRefusal.TheVariants as refusals
use Rattle.h2_link.specs.declared.error.LinkError.{LinkError}
use Rattle.h2_link.specs.declared.error.LinkError.TheVariants as errors

-- N1 is answered exactly where the link has failed, once, in the call.
-- rule: engines (own) N1 comes exactly where a call of the link has failed
abbrev pub failures_at_end : {A : Type 0} → ℕ → Result A LinkError → ℕ
failures_at_end failures (Err errors.Device) = failures + 1
failures_at_end failures result = failures

-- the same of an error alone
abbrev pub failures_by : ℕ → LinkError → ℕ
failures_by failures errors.Device = failures + 1
failures_by failures error = failures

-- The connection is up, or it has failed with INTERNAL_ERROR, as it does where memory was refused.
-- rule: engines (own) N2 has the code with which the connection failed; memory is N3
abbrev pub HasNoConnectionFault : Log → Type 0
HasNoConnectionFault log = (log.failed ≡ None) ⊎ (log.failed ≡ Some InternalError)

-- The last call was to put output out, and was refused for memory: so not all of it was written,
-- even where the connection has failed with another code.
-- rule: engines (own) N2 has the code with which the connection failed; memory is N3
pub record CannotPutOut (log : Log) : Type 0 where
  pub count : ℕ
  pub before : List (Act × Answer)
  pub last : log.calls ≡ (PutOut count, Refused Memory) ∷ before

-- Over a link N3 is answered only so; which allocation was refused no log says.
-- rule: engines (own) N2 has the code with which the connection failed; memory is N3
abbrev pub IsOutOfMemory : Log → Type 0
IsOutOfMemory log = HasNoConnectionFault log ⊎ CannotPutOut log

-- N4 is answered only where the link has met the end of its input.
-- rule: engines (own) N4 comes only where the input ended early
abbrev pub CutsOffAtEnd : {A : Type 0} → Result A LinkError → (ended : Bool) → Type 0
CutsOffAtEnd (Err errors.CutOff) ended = ended ≡ true
CutsOffAtEnd result ended = Unit {0}

-- A connection that is served may end so: not with N6 and N7, which are of a request.
-- rule: engines (own) N1 comes exactly where a call of the link has failed
abbrev pub EndsServing : LinkError → Type 0
EndsServing (errors.Reset code) = ⊥
EndsServing errors.Refused = ⊥
EndsServing error = Unit {0}

-- It ends so by itself, whatever the link does: not with N1 either.
-- rule: engines (own) N1 comes exactly where a call of the link has failed
abbrev pub IsOfServer : LinkError → Type 0
IsOfServer errors.Device = ⊥
IsOfServer (errors.Reset code) = ⊥
IsOfServer errors.Refused = ⊥
IsOfServer error = Unit {0}

-- A fetch ends so by itself.
-- rule: engines (own) N1 comes exactly where a call of the link has failed
abbrev pub IsOfClient : LinkError → Type 0
IsOfClient errors.Device = ⊥
IsOfClient error = Unit {0}

-- A call of an end ends a connection so alone: memory was refused, or nothing goes on.
abbrev pub IsOfCall : LinkError → Type 0
IsOfCall errors.Memory = Unit {0}
IsOfCall errors.NoProgress = Unit {0}
IsOfCall error = ⊥

-- how a call of an end that was refused for this ends the connection
-- rule: engines (own) N5 comes only where a write has taken nothing
abbrev pub error_after : EndRefusal → LinkError
error_after (refusals.Conn Memory) = errors.Memory
error_after refusal = errors.NoProgress

-- What writes to a link ends it so alone: as a call, or since the link has failed.
abbrev pub EndsWriting : LinkError → Type 0
EndsWriting errors.Device = Unit {0}
EndsWriting errors.Memory = Unit {0}
EndsWriting errors.NoProgress = Unit {0}
EndsWriting error = ⊥
