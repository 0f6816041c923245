-- After octets that end no frame, or that make the connection fail, a machine represents the log
-- with them.
use Rattle.h2_laws_machine.proofs.Names
use Names.{◌≡◌, ◌≤◌, true, List, None, sym, Code, Role, Log, used, IsLog, End, fail}
use Names.{ℕ, InternalError, wire_fault_code, last_processed, with_failure, Represents, TakesOctets}
use Names.{subst, Values, is_server, active, took_some, met_fault, Streams, TakesPart, TakesFault}
use Names.{ran_out_of_memory, end_view, RepresentsWhileUp, KeepsConnectionWindow, MayRunOutOfMemory}
use Rattle.h2_wire.specs.declared.fault.WireFault.{WireFault}
use Rattle.h2_spec_log.specs.LogSteps.{took_part, took_fault, took_out_of_memory}
use Rattle.h2_laws_machine.proofs.GoAwaysSent.{active_processed}
use Rattle.h2_laws_machine.proofs.LogCore.{core, StreamsOf, going, runs}
use Rattle.h2_laws_machine.proofs.SentConnectionItems.{failing_streams}
use Rattle.h2_laws_machine.proofs.WaitingOutput.{Waits, waits_of, fails_connection}

-- A machine represents a log that comes about, by its parts.
pub represents_by : (values : Values) (e : End) (log : Log) → IsLog e.role values log → Waits e log
    → StreamsOf e.streams (core log)
    → (e.failed ≡ None → RepresentsWhileUp e log)
    → KeepsConnectionWindow e → Represents values e log
represents_by values e log came connection_facts streams running whole =
    assumption (came, streams, running, connection_facts, whole)

-- An end that keeps what the log says keeps what it says after octets that are used.
used_running : (e : End) (log : Log) (octets unparsed : List ℕ) → StreamsOf e.streams (core log)
    → RepresentsWhileUp e log → RepresentsWhileUp e (used log octets unparsed)
unfolding used
used_running e log octets unparsed streams r = runs _ _ r.started (going e log streams r)

-- A machine represents the log after octets that end no frame.
pub part_represents : (values : Values) (e : End) (log : Log) (octets unparsed : List ℕ)
    → Represents values e log → TakesOctets log
    → TakesPart log.role log octets unparsed → Represents values e (took_part log octets unparsed)
unfolding used
part_represents values e log octets unparsed s takes part =
    represents_by values e (used log octets unparsed) (took_some s.came takes octets unparsed
    (subst (λ (role : Role). TakesPart role log octets unparsed) (sym s.role) part))
    (waits_of _ _ _ s) s.streams (λ up. used_running e log octets unparsed s.streams (s.running up))
    (record { whole = s.whole; used = s.used })

-- A machine that makes the connection fail represents a log that fails with the same code and the
-- same last stream.
failing_represents : (values : Values) (e : End) (log : Log) (code : Code) (last other : ℕ)
    → IsLog e.role values (with_failure code other log)
    → last ≡ other → Waits e log
    → (is_server log.role ≡ true → (i : ℕ) → active log i ≡ true → i ≤ other)
    → StreamsOf e.streams (core log) → KeepsConnectionWindow e → Represents values (fail code last
    e) (with_failure code other log)
failing_represents values e log code last other came same connection_facts low streams whole =
    represents_by values (fail code last e) (with_failure code other log) came
    (fails_connection e.role e.failed e.output.waiting log (end_view e).max_payload code last other
    same connection_facts) (failing_streams e.streams log code other low streams)
    (λ up. absurd (cc)) (record { whole = whole.whole; used = whole.used })

-- The last stream that was processed is the log's.
processed_same : (s : Streams) (log : Log) → StreamsOf s (core log)
    → s.last_processed ≡ last_processed log
unfolding last_processed
processed_same s log are = are.last_processed

-- A machine represents the log after octets that make a fault.
pub fault_represents : (values : Values) (e : End) (log : Log) (octets : List ℕ) (fault : WireFault)
    → Represents values e log → TakesOctets log
    → TakesFault log.role log octets fault → Represents values (fail (wire_fault_code fault)
    e.streams.last_processed e) (took_fault log octets fault)
unfolding used
fault_represents values e log octets fault s takes at =
    failing_represents _ _ _ _ _ _ (met_fault s.came takes octets fault
    (subst (λ (role : Role). TakesFault role log octets fault) (sym s.role) at))
    (processed_same _ _ s.streams) (waits_of _ _ _ s) (active_processed _ _ _ s.came takes.up)
    s.streams (record { whole = s.whole; used = s.used })

-- A machine represents the log after octets at which memory runs out.
pub out_of_memory_represents : (values : Values) (e : End) (log : Log) (octets : List ℕ)
    → Represents values e log → log.failed ≡ None → MayRunOutOfMemory log.role log octets
    → Represents values (fail InternalError e.streams.last_processed e) (took_out_of_memory log
    octets)
unfolding used
out_of_memory_represents values e log octets s up may =
    failing_represents _ _ _ InternalError _ _ (ran_out_of_memory s.came up octets
    (subst (λ (role : Role). MayRunOutOfMemory role log octets) (sym s.role) may))
    (processed_same _ _ s.streams) (waits_of _ _ _ s) (active_processed _ _ _ s.came up) s.streams
    (record { whole = s.whole; used = s.used })
