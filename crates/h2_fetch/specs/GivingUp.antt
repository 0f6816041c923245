-- A response is given up.
use Rattle.std.specs.Prelude.{◌≡◌, ◌==◌, ◌++◌, ℕ, List, [], if◌then◌else◌, Result, Ok, Err, OnOk}
use Rattle.h2_frame.specs.declared.code.Code.TheVariants.{Cancel}
use Rattle.h2_frame.specs.Codes.{code_number}
use Rattle.h2_spec_log.specs.declared.refusal.Refusal.{Refusal}
use Rattle.h2_spec_log.specs.declared.refusal.Refusal.TheVariants.{NoSuchStream}
use Rattle.h2_spec_log.specs.Acts.{Values, Act, Done, ResetStream}
use Rattle.h2_spec_log.specs.LogCalls.{MayAnswer, with_call}
use Rattle.h2_conn.specs.Conn.{answer_by}
use Rattle.h2_ends.specs.Ends.{EndLog}
use Rattle.h2_ends.specs.EndTakes.{end_with_log}
use Rattle.h2_ends.specs.Represents.{EndRepresents}
use Rattle.h2_engines.specs.Linked.{Traffic}
use Rattle.h2_fetch.specs.declared.connection.ClientConnection.{ClientConnection}
use Rattle.h2_fetch.specs.declared.kept.Queue.{Queue}
use Rattle.h2_fetch.specs.Several.{AnsweredOn, AreComing, AskedOn, kept_on}

-- the call that resets a stream whose response is no longer needed (RFC 9113, section 7)
abbrev pub cancels : (id : ℕ) → Act
cancels id = ResetStream id (code_number Cancel)

-- what is returned where that was answered so: on a stream that isn't active there is nothing to
-- reset
abbrev pub unless_over : Result (Unit {0}) Refusal → Result (Unit {0}) Refusal
unless_over (Err NoSuchStream) = Ok tt
unless_over result = result

-- the log of a client once it was answered so
abbrev pub end_cancelled : EndLog → (id : ℕ) → Result (Unit {0}) Refusal → EndLog
end_cancelled end id reset =
    end_with_log end (with_call end.log (cancels id) (answer_by (λ done. Done) reset))

-- what was answered of each stream, where all that is kept of one counts as answered
abbrev pub answered_all : AnsweredOn → (id : ℕ) → (kept : List (ℕ × Queue)) → AnsweredOn
answered_all answered id kept i = answered i ++ (if id == i then kept_on id kept else [])

-- the same by the result of the call: where it was refused nothing more was answered
abbrev pub answered_since : AnsweredOn → (id : ℕ) → (kept : List (ℕ × Queue))
    → Result (Unit {0}) Refusal → AnsweredOn
answered_since answered id kept (Ok done) = answered_all answered id kept
answered_since answered id kept (Err refusal) = answered

-- Whatever has happened at a client that makes several requests, one stream is reset with CANCEL,
-- or is not active; then nothing is kept of it, and what was counts as answered. Or the call is
-- refused. The client fetches on, and of the other streams nothing has changed.
-- rule: engines (own) Responses of several requests are what is handed out, each in order
pub record GivesUp (id : ℕ) (result : Result (Unit {0}) Refusal) (old new : ClientConnection)
    (values : Values) (end : EndLog) : Type 0 where
  pub reset : Result (Unit {0}) Refusal
  pub may : MayAnswer end.log (cancels id) (answer_by (λ done. Done) reset)
  pub returns : result ≡ unless_over reset
  pub represents : EndRepresents values new.client.end (end_cancelled end id reset)
  pub none : OnOk result (kept_on id new.kept.entries ≡ [])
  pub goes_on : (wide : ℕ) (start now : Traffic) (asked : List AskedOn) (answered : AnsweredOn)
      → AreComing values wide start now asked old end answered
      → AreComing values wide start now asked new (end_cancelled end id reset)
      (answered_since answered id old.kept.entries result)

abbrev pub GivesUpOn : (id : ℕ) → Result (Unit {0}) Refusal → (old new : ClientConnection)
    → Type 0
GivesUpOn id result old new =
    (values : Values) (end : EndLog) → EndRepresents values old.client.end end
    → GivesUp id result old new values end
