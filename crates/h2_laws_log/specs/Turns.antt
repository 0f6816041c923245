-- What the turns of a log tell, the newest first.
use Rattle.std.specs.Prelude.{◌≡◌, not, ℕ, List, [], ◌∷◌, ◌++◌}
use Rattle.h2_wire.specs.Streams.{expected_preface}
use Rattle.h2_spec_log.specs.Events.{Event}
use Rattle.h2_spec_log.specs.Acts.{Act, Answer, shown, Turn, In, Out, Called, Answered, Happened}
use Rattle.h2_spec_log.specs.Settings.{is_server}
use Rattle.h2_spec_log.specs.Log.{Log}
use Rattle.h2_laws_log.specs.Payloads.{encoding_by}

-- the octets that were used, joined, the first one first
unfoldable pub octets_in : List Turn → List ℕ
octets_in [] = []
octets_in (In octets ∷ turns) = octets_in turns ++ octets
octets_in (_ ∷ turns) = octets_in turns

-- the octets that joined the output
unfoldable pub octets_out : List Turn → List ℕ
octets_out [] = []
octets_out (Out octets ∷ turns) = octets_out turns ++ octets
octets_out (_ ∷ turns) = octets_out turns

-- the events, newest first
unfoldable pub events_in : List Turn → List Event
events_in [] = []
events_in (Happened event ∷ turns) = event ∷ events_in turns
events_in (_ ∷ turns) = events_in turns

-- the calls, newest first
unfoldable pub acts_in : List Turn → List Act
acts_in [] = []
acts_in (Called act ∷ turns) = act ∷ acts_in turns
acts_in (_ ∷ turns) = acts_in turns

-- what the calls showed, newest first
unfoldable pub answers_in : List Turn → List Answer
answers_in [] = []
answers_in (Answered answer ∷ turns) = answer ∷ answers_in turns
answers_in (_ ∷ turns) = answers_in turns

-- the calls of a log, and what they showed
unfoldable pub acts_of : List (Act × Answer) → List Act
acts_of [] = []
acts_of (call ∷ calls) = call.0 ∷ acts_of calls

unfoldable pub answers_of : List (Act × Answer) → List Answer
answers_of [] = []
answers_of (call ∷ calls) = shown call.1 ∷ answers_of calls

-- The turns tell all of a log, and the output is a client's preface and the items as they are
-- written, each with its greatest payload.
pub record TurnsRecord (log : Log) : Type 0 where
  pub input : octets_in log.turns ≡ log.input
  pub output : octets_out log.turns ≡ log.written
  pub events : events_in log.turns ≡ log.reported
  pub acts : acts_in log.turns ≡ acts_of log.calls
  pub answers : answers_in log.turns ≡ answers_of log.calls
  pub items : log.written ≡ expected_preface (not (is_server log.role))
      ++ encoding_by log.payloads log.sent
