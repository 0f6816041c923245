-- An end's role, whether it has failed, and what waits of its output, are the log's: what steps
-- make
-- of them.
use Rattle.h2_laws_machine.proofs.Names
use Names.{◌≡◌, ℕ, ◌+◌, List, [], ◌∷◌, ◌++◌, Some, refl, ap, sym, ◌∙◌, Code, Item, Role, Log, End}
use Names.{length, Option, arith, Frame, GoAway, alone, Event, waiting, output, with_sent, Values}
use Names.{length-append, encoding_of_items, max_payload_sent, with_reported, with_credit_returned}
use Names.{length-drop, code_number, WindowUpdate, with_failure, end_view, queue_output, Represents}
use Rattle.h2_spec_log.proofs.SentPayloads.{alone_alike}
use Rattle.h2_spec_machine.specs.Represents.{RepresentsOutput}
use Rattle.std.proofs.Common.{append-nil}
use Rattle.std.proofs.lemmas.List.{drop-append-le}

-- An end's role, whether it has failed, and what waits, are these of a log.
pub record SameConnection (role log_role : Role) (failed log_failed : Option Code)
    (octets : List ℕ) (log_given : ℕ) (written : List ℕ) : Type 0 where
  pub same_role : role ≡ log_role
  pub same_failed : failed ≡ log_failed
  pub output : RepresentsOutput octets log_given written

-- the same of a log
abbrev pub ConnectionFacts : Role → Option Code → List ℕ → Log → Type 0
ConnectionFacts role failed octets log = SameConnection role log.role failed log.failed octets
    log.given log.written

-- and of an end
abbrev pub Waits : End → Log → Type 0
Waits e log = ConnectionFacts e.role e.failed e.output.waiting log

-- what waits alone
abbrev pub OutputOf : End → Log → Type 0
OutputOf e log = RepresentsOutput e.output.waiting log.given log.written

-- A machine that represents a log has them.
pub waits_of : (values : Values) (e : End) (log : Log) → Represents values e log → Waits e log
waits_of values e log s = record { same_role = s.role; same_failed = s.failed; output = s.output }

-- Octets that are written wait.
output_more : (octets : List ℕ) (given : ℕ) (written more : List ℕ)
    → RepresentsOutput octets given written → RepresentsOutput (octets ++ more) given (written ++
    more)
output_more octets given written more s = record {
  waiting = ap (λ (xs : List ℕ). xs ++ more) s.waiting
      ∙ sym (drop-append-le given written more s.given);
  given = omega (arith, s.given, length-append written more);
}

-- So do items, where the end has the log's greatest payload.
pub wrote_output : (e : End) (log : Log) (items : List Item)
    → (end_view e).max_payload ≡ max_payload_sent log → OutputOf e log
    → OutputOf (queue_output e items) (with_sent log items)
unfolding with_sent encoding_of_items
wrote_output e log [] same is =
    record { waiting = append-nil e.output.waiting ∙ is.waiting; given = is.given }
wrote_output e log (item ∷ items) same is =
    let more = output_more _ _ _ (encoding_of_items (max_payload_sent log) (item ∷ items)) is in
    record {
      waiting = ap (λ (most : ℕ). e.output.waiting ++ encoding_of_items most (item ∷ items)) same
          ∙ more.waiting;
      given = more.given;
    }

-- As much waits as the log says.
pub waits_much : (e : End) (log : Log) → OutputOf e log → length e.output.waiting ≡ waiting log
unfolding waiting output
waits_much e log w = ap length w.waiting ∙ length-drop log.given log.written

module _ (role : Role) (failed : Option Code) (waits : List ℕ) (log : Log) where
  -- A frame alone that is written waits, whatever the greatest payload is.
  pub wrote_connection : (most : ℕ) (frame : Frame) → ConnectionFacts role failed waits log
      → ConnectionFacts role failed (waits ++ encoding_of_items most (alone frame ∷ []))
      (with_sent log (alone frame ∷ []))
  unfolding with_sent
  wrote_connection most frame s = record {
    same_role = s.same_role;
    same_failed = s.same_failed;
    output = rw (alone_alike most (max_payload_sent log) frame) (output_more waits log.given
        log.written (encoding_of_items (max_payload_sent log) (alone frame ∷ [])) s.output);
  }

  -- Where the connection fails, GOAWAY waits.
  pub fails_connection : (most : ℕ) (code : Code) (last other : ℕ) → last ≡ other
      → ConnectionFacts role failed waits log
      → ConnectionFacts role (Some code) (waits ++ encoding_of_items most
      (alone (GoAway last (code_number code) []) ∷ [])) (with_failure code other log)
  unfolding with_sent
  fails_connection most code last other same s =
      let wrote = wrote_connection most (GoAway other (code_number code) []) s
      in
      rw same (record { same_role = wrote.same_role; same_failed = refl; output = wrote.output })

  -- Events wait for nothing.
  pub reports_connection : (events : List Event) → ConnectionFacts role failed waits log
      → ConnectionFacts role failed waits (with_reported log events)
  unfolding with_reported
  reports_connection [] s = s
  reports_connection (event ∷ events) s = s

  -- What is unreturned is returned.
  pub credit_connection : (most more unreturned : ℕ) → unreturned ≡ log.unreturned
      → ConnectionFacts role failed waits log
      → ConnectionFacts role failed (waits ++ encoding_of_items most
      (alone (WindowUpdate 0 (unreturned + more)) ∷ [])) (with_credit_returned
      (record log { unreturned = log.unreturned + more }))
  unfolding with_sent
  credit_connection most more unreturned same s =
      rw same (wrote_connection most (WindowUpdate 0 (log.unreturned + more)) s)
