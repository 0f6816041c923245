-- Taking octets, on the parts of a connection: it is a step of each log that they represent.
use Rattle.h2_conn.proofs.Names.{◌≡◌, ◌≢◌, ℕ, ◌≤◌, true, false, List, [], ◌∷◌, ◌++◌, length}
use Rattle.h2_conn.proofs.Names.{take, drop}
use Rattle.h2_conn.proofs.Names.{Option, inl, inr, Some, None, refl, ap, sym, subst, ◌∙◌}
use Rattle.h2_conn.proofs.Names.{take-append-drop, length-take-le, take-length, option_map, Field}
use Rattle.h2_conn.proofs.Names.{Code, InternalError, Frame, WireFault, wire_fault_code, Limits}
use Rattle.h2_conn.proofs.Names.{CutterState, CutterRepresents, CutterLimited, saturated, none_some}
use Rattle.h2_conn.proofs.Names.{Values, most_max_frame, Event, Decoded, is_server, Log}
use Rattle.h2_conn.proofs.Names.{limits_from, took_frame, log_view, credit_needs_memory, View}
use Rattle.h2_conn.proofs.Names.{IsDecodedFor, End, end_view, payload_limit_of, after_frame, fail}
use Rattle.h2_conn.proofs.Names.{close_unprocessed, unprocessed_of_end, Represents, views_alike}
use Rattle.h2_conn.proofs.Names.{Failed, FailsWithoutMemory, LocatedEvent, happened_value}
use Rattle.h2_conn.proofs.Names.{PartsFit, PartsRepresent, used, with_sent, rules, Counts}
use Rattle.h2_conn.proofs.Names.{CountsFrames, Why, rule_of_frame, rule_of_octets}
use Rattle.h2_conn.specs.declared.why.Why.TheVariants.{OutOfMemory}
use Rattle.h2_conn.specs.Why.{for_octets, for_memory, for_a_frame}
use Rattle.h2_conn.proofs.PartsFit.{fit_of, with_reason}
use Rattle.h2_conn.proofs.Reasons.{came_of, said_for, why_up}
use Rattle.h2_spec_log.specs.LogSteps.{took_part, took_fault, took_none, took_out_of_memory}
use Rattle.std.proofs.Common.{◌⊎◌, append-nil}
use Rattle.std.specs.Option.{MatchOption}
use Rattle.h2_wire.specs.Cutter.{CutterContinues, CutterFaults, CutterFails}
use Rattle.h2_spec_log.specs.Events.{UnprocessedEvent}
use Rattle.h2_spec_log.specs.Log.{next_unprocessed}
use Rattle.h2_spec_log.specs.Histories.{TakesOctets, TakesFrame, LacksMemory, to_report, to_keep}
use Rattle.h2_spec_log.specs.Histories.{to_take}
use Rattle.h2_spec_log.proofs.StreamLemmas.{Keeps-frame, Keeps-none}
use Rattle.h2_laws_machine.specs.Machines.{uses_part, meets_fault as a_fault}
use Rattle.h2_laws_machine.specs.Machines.{runs_out_of_memory as no_memory}
use Rattle.h2_laws_machine.specs.Machines.{reports_unprocessed as one_unprocessed, MayStep}
use Rattle.h2_laws_machine.specs.Machines.{log_after, machine_after}
use Rattle.h2_laws_machine.proofs.EveryStep.{steps_represent, frames_represent}
use Rattle.h2_laws_machine.proofs.NextUnprocessed.{next_same}
use Rattle.h2_laws_machine.proofs.ReadLimits.{own_of_unprocessed}
use Rattle.h2_laws_end.specs.Takes.{TakeAnswer, Took, events_answered, MayTake, has_failed}
use Rattle.h2_laws_end.specs.Takes.{reports_unprocessed, ends_no_frame, ends_frame, meets_fault}
use Rattle.h2_laws_end.specs.Takes.{runs_out_of_memory}
use Rattle.h2_laws_end.proofs.NotInternal.{frame_up}
use Rattle.h2_laws_end.proofs.Failures.{reported_failed, unreturned_failed}
use Rattle.h2_laws_end.proofs.PieceLogs.{limits_used}
use Rattle.h2_core.specs.Failure.{FailsAlike}
use Rattle.h2_core.specs.Frames.{FrameFails, FrameLacksMemory}
use Rattle.h2_conn.proofs.AskLimits.{cuts_same, parts_kept}
use Rattle.h2_conn.proofs.SetLimits.{HasCut, parts_limited}
use Rattle.h2_conn.proofs.TakeFaults.{fault_in}
use Rattle.h2_conn.proofs.TakeFrames.{happened_events, FrameHappens}
use Rattle.h2_conn.proofs.TakeMemory.{CutterLacks, keeps_octets, frame_needs}
use Rattle.h2_conn.proofs.TakeReports.{frame_reported, decoded_for}
use Rattle.h2_wire.specs.declared.fault.WireFault.TheVariants as faults
use denote.Enum.Bare.{sameb}
use Rattle.h2_frame.specs.contracts.code.Code.{the_type}

-- A call of `take` may have this answer, and the parts represent the log with it.
abbrev pub Takes : Values → Log → List ℕ → TakeAnswer → CutterState → Counts → Option Why → End
    → Type 0
Takes values log piece answer cutter counts why e =
    (after : Log) × MayTake log piece answer after × PartsRepresent values cutter counts why e after

-- An end that has failed as another has represents what that one does.
represents_alike : (values : Values) (e other : End) (log : Log) → Represents values e log
    → FailsAlike e other → Represents values other log
represents_alike values e other log s alike = search rules

-- The cutter's place is that of the last octet that the log has used.
abbrev pub IsAtEnd : CutterState → Log → Type 0
IsAtEnd cutter log = cutter.place ≡ saturated (length log.input)

-- So it is of a log that has used the same octets.
end_kept : (place : ℕ) (input after : List ℕ) → after ≡ input
    → place ≡ saturated (length input) → place ≡ saturated (length after)
end_kept place input after same at_end = rw same at_end

-- The octets that are used with a failure.
lacking_input : (log : Log) (octets : List ℕ)
    → (took_out_of_memory log octets).input ≡ log.input ++ octets
unfolding used with_sent
lacking_input log octets = refl

fault_input : (log : Log) (octets : List ℕ) (fault : WireFault)
    → (took_fault log octets fault).input ≡ log.input ++ octets
unfolding used with_sent
fault_input log octets fault = refl

-- A frame leaves the role.
frame_role : (log : Log) (octets : List ℕ) (decoded : Option Decoded) (frame : Frame)
    → (took_frame log octets decoded frame).role ≡ log.role
unfolding used
frame_role log octets decoded frame = (Keeps-frame (used log octets []) decoded frame).role

module _ (values : Values) where
  -- Of a connection that has failed only the machine and the place count.
  pub failed_parts : {counts : Counts} (cutter : CutterState) (e : End) (log : Log)
      → Represents values e log
      → e.failed ≢ None → IsAtEnd cutter log → CountsFrames counts log.frames
      → PartsFit values cutter counts e log
  failed_parts cutter e log s down at_end counts_are = search rules

  alike_parts : {counts : Counts} (cutter : CutterState) (e other : End) (log : Log)
      → Represents values e log
      → FailsAlike e other → IsAtEnd cutter log → CountsFrames counts log.frames
      → PartsFit values cutter counts other log
  alike_parts cutter e other log s alike at_end counts_are = search rules

  -- An end takes octets where it is up and has reported all unprocessed streams.
  pub takes_octets : (e : End) (log : Log) → Represents values e log → e.failed ≡ None
      → unprocessed_of_end e.role e.streams.entries e.goaway.received ≡ 0 → TakesOctets log
  takes_octets e log s up reported =
      let log_up : log.failed ≡ None = sym s.failed ∙ up in
      record { up = log_up; all_reported = sym (next_same values e log s log_up) ∙ reported }

  -- Octets that end no frame.
  pub no_frame_taken : {counts : Counts} {why : Option Why} (cutter new : CutterState) (e : End)
      (log : Log) (piece : List ℕ) (count : ℕ)
      → PartsRepresent values cutter counts why e log → TakesOctets log → e.failed ≡ None
      → count ≡ length piece → CutterContinues cutter (take count piece) [] new
      → Takes values log piece (Took count None) new counts why e
  unfolding MayStep log_after machine_after used
  no_frame_taken cutter new e log piece count p takes up all continues =
      let all_of : take count piece ≡ piece =
      ap (λ (n : ℕ). take n piece) all ∙ take-length piece in
      let now : CutterRepresents new (is_server log.role) (limits_from log) (log.input ++ piece)
      log.frames = cuts_same new log.role log.role (limits_from log) (limits_from log)
      (log.input ++ take count piece) (log.input ++ piece) (log.frames ++ []) log.frames refl refl
      (ap (λ (o : List ℕ). log.input ++ o) (sym all_of)) (sym (append-nil log.frames))
      (continues.represents (is_server log.role) (limits_from log) log.input log.frames
      (p.cut takes.up)) in
      let after : Log = took_part log piece new.unparsed in
      let machine : Represents values e after =
      steps_represent values e log (uses_part piece new.unparsed) p.machine (takes, now.split) in (
        after,
        ends_no_frame takes new.unparsed now.split (ap (λ (n : ℕ). Took n None) all) refl,
        record {
          machine = machine;
          cut = λ going. cuts_same new log.role log.role (limits_from log) (limits_from after)
              (log.input ++ piece) (log.input ++ piece) log.frames log.frames refl
              (limits_used log piece new.unparsed) refl refl now;
          unparsed = λ going. refl;
          greatest = λ going. rw continues.same_greatest (p.greatest takes.up);
          place = now.place;
          counted = p.counted;
          reason = why_up values log after _ p.reason takes.up takes.up;
        },
      )

-- A frame that was cut out of a piece.
pub record IsCut (cutter new : CutterState) (piece : List ℕ) (count : ℕ) (frame : Frame) : Type 0
  where
    pub continues : CutterContinues cutter (take count piece) (frame ∷ []) new
    pub within : count ≤ length piece
    pub none : new.unparsed ≡ []

module _ (values : Values) (cutter new : CutterState) (e : End) (log : Log) (piece : List ℕ)
    (count : ℕ) (frame : Frame) where
  cut_now : {counts : Counts} → PartsFit values cutter counts e log → log.failed ≡ None
      → IsCut cutter new piece count frame
      → CutterRepresents new (is_server log.role) (limits_from log) (log.input ++ take count piece)
      (log.frames ++ frame ∷ [])
  cut_now p up cut =
      cut.continues.represents (is_server log.role) (limits_from log) log.input log.frames
      (p.cut up)

  -- The cutter's place then.
  cut_end : {counts : Counts} (decoded : Option Decoded)
      → PartsFit values cutter counts e log → log.failed ≡ None
      → IsCut cutter new piece count frame
      → IsAtEnd new (took_frame log (take count piece) decoded frame)
  unfolding used
  cut_end decoded p up cut = end_kept new.place (log.input ++ take count piece) _
      (Keeps-frame (used log (take count piece) []) decoded frame).input (cut_now p up cut).place

  read_of : {counts : Counts} → PartsFit values cutter counts e log → log.failed ≡ None
      → IsCut cutter new piece count frame → TakesFrame log.role log (take count piece) frame
  read_of p up cut = search rules

-- what has happened, as the event that is returned
answered : (list : List Field) (octets : List ℕ) (happened : Option LocatedEvent)
    → events_answered (option_map (happened_value list octets) happened)
    ≡ happened_events list octets happened
answered list octets None = refl
answered list octets (Some happened) = refl

-- After a frame that the connection outlives the cutter has cut the octets of the log.
has_cut_frame : {counts : Counts} (values : Values) (cutter new : CutterState) (e : End)
    (log : Log)
    (piece : List ℕ) (count : ℕ) (frame : Frame) (decoded : Option Decoded)
    → PartsFit values cutter counts e log → log.failed ≡ None
    → IsCut cutter new piece count frame
    → HasCut new (took_frame log (take count piece) decoded frame)
unfolding used
has_cut_frame values cutter new e log piece count frame decoded p up cut =
    let octets : List ℕ = take count piece in
    let after : Log = took_frame log octets decoded frame in
    let keeps = Keeps-frame (used log octets []) decoded frame in
    record {
      limits = limits_from log;
      cut = cuts_same new log.role after.role (limits_from log) (limits_from log)
          (log.input ++ octets) after.input (log.frames ++ frame ∷ []) after.frames keeps.role refl
          keeps.input keeps.frames (cut_now values cutter new e log piece count frame p up cut);
      same = λ place within. ap (λ (limits : Limits). limits place) keeps.limits;
      unparsed = cut.none ∙ sym keeps.unparsed;
      greatest = rw cut.continues.same_greatest (p.greatest up);
    }

-- Counts that have counted some frames count one more.
abbrev pub CountsOneMore : Counts → Frame → Counts → Type 0
CountsOneMore counts frame more =
    (frames : List Frame) → CountsFrames counts frames → CountsFrames more (frames ++ frame ∷ [])

-- So they count a frame that was taken.
counts_frame : {counts more : Counts} (log : Log) (octets : List ℕ) (decoded : Option Decoded)
    (frame : Frame) → CountsFrames counts log.frames → CountsOneMore counts frame more
    → CountsFrames more (took_frame log octets decoded frame).frames
unfolding used
counts_frame {more = more} log octets decoded frame were counts_it =
    subst (λ (frames : List Frame). CountsFrames more frames)
    (sym (Keeps-frame (used log octets []) decoded frame).frames) (counts_it log.frames were)

-- A frame that the connection outlives, after which the cutter is given the limit in force.
pub frame_taken : {counts more : Counts} {why : Option Why} (values : Values)
    (cutter new limited : CutterState)
    (e other : End) (log : Log)
    (piece : List ℕ) (count : ℕ) (frame : Frame) (list : List Field) (octets : List ℕ)
    (happened : Option LocatedEvent) → PartsRepresent values cutter counts why e log
    → TakesOctets log → e.failed ≡ None → IsCut cutter new piece count frame
    → FrameHappens e frame list octets happened other
    → CutterLimited new (payload_limit_of other.own) limited
    → payload_limit_of other.own ≤ most_max_frame → CountsOneMore counts frame more
    → Takes values log piece (Took count (option_map (happened_value list octets) happened)) limited
    more why other
frame_taken values cutter new limited e other log piece count frame list octets happened parts
    takes up cut h set within counts_it =
    let p = fit_of values cutter _ _ e log parts in
    let taken : List ℕ = take count piece in
    let read = read_of values cutter new e log piece count frame p takes.up cut in
    let sees : IsDecodedFor log h.decoded frame =
    decoded_for values e log h.decoded frame p.machine up h.says in
    let after : Log = took_frame log taken h.decoded frame in
    let machine : Represents values other after =
    subst (λ (x : End). Represents values x after) (sym h.after)
    (frames_represent values e log taken frame h.decoded p.machine takes read sees) in
    let going : after.failed ≡ None = sym machine.failed ∙ h.up in
    let reported : after.reported
    ≡ events_answered (option_map (happened_value list octets) happened) ++ log.reported =
    frame_reported values e log taken h.decoded frame p.machine up going
    ∙ ap (λ (events : List Event). events ++ log.reported)
    (sym h.events ∙ sym (answered list octets happened)) in (
      after,
      ends_frame takes taken (drop count piece) (sym (take-append-drop count piece)) frame
          h.decoded read sees refl (sym (length-take-le count piece cut.within), going, reported),
      with_reason values limited _ _ other after
          (parts_limited values new limited other after machine
          (λ going. has_cut_frame values cutter new e log piece count frame h.decoded p takes.up
          cut) (cut_end values cutter new e log piece count frame h.decoded p takes.up cut) set
          (λ going. within) (counts_frame log taken h.decoded frame p.counted counts_it))
          (why_up values log after _ parts.reason takes.up going),
    )

module _ (values : Values) (cutter new : CutterState) (e other : End) (log : Log)
    (piece : List ℕ) where
  -- A frame with which the connection fails.
  pub frame_fails : {counts more : Counts} (count : ℕ) (frame : Frame) (code : Code)
      → PartsFit values cutter counts e log
      → TakesOctets log → e.failed ≡ None → IsCut cutter new piece count frame
      → FrameFails e frame code other → CountsOneMore counts frame more
      → (code ≢ InternalError)
      × Takes values log piece (Failed code) new more (Some (rule_of_frame (log_view log) frame code))
      other
  frame_fails count frame code p takes up cut h counts_it =
      let taken : List ℕ = take count piece in
      let read = read_of values cutter new e log piece count frame p takes.up cut in
      let sees : IsDecodedFor log h.decoded frame =
      decoded_for values e log h.decoded frame p.machine up h.says in
      let after : Log = took_frame log taken h.decoded frame in
      let machine : Represents values (after_frame e h.decoded frame) after =
      frames_represent values e log taken frame h.decoded p.machine takes read sees in
      let fails : after.failed ≡ Some code = sym machine.failed ∙ h.fails in (
        λ internal. frame_up log taken h.decoded frame takes.up
            (fails ∙ ap (λ (c : Code). Some c) internal),
        (
          after,
          ends_frame takes taken (drop count piece) (sym (take-append-drop count piece)) frame
              h.decoded read sees refl fails,
          with_reason values new _ _ other after
              (alike_parts values new (after_frame e h.decoded frame) other after machine h.after
              (cut_end values cutter new e log piece count frame h.decoded p takes.up cut)
              (counts_frame log taken h.decoded frame p.counted counts_it))
              (said_for values log.role after _
              (frame_role log taken h.decoded frame)
              (for_a_frame (came_of values e log p.machine) takes taken frame h.decoded code read
              sees fails)),
        ),
      )

  -- Memory was refused with these octets.
  pub memory_refused : {counts : Counts} (octets unused : List ℕ) (code : Code)
      → PartsFit values cutter counts e log
      → log.failed ≡ None → piece ≡ octets ++ unused → LacksMemory log.role log octets unused
      → new.place ≡ saturated (length (log.input ++ octets)) → FailsWithoutMemory e code other
      → Takes values log piece (Failed code) new counts (Some OutOfMemory) other
  unfolding MayStep log_after machine_after used with_sent
  memory_refused octets unused code p up joined may place h =
      let after : Log = took_out_of_memory log octets in
      let machine : Represents values (fail InternalError e.streams.last_processed e) after =
      steps_represent values e log (no_memory octets) p.machine (up, (unused, may)) in (
        after,
        runs_out_of_memory up octets unused joined may (ap Failed h.lacks) refl,
        with_reason values new _ _ other after
            (alike_parts values new (fail InternalError e.streams.last_processed e) other after
            machine h.after
            (end_kept new.place (log.input ++ octets) _ (lacking_input log octets) place)
            p.counted)
            (for_memory (came_of values e log p.machine) up octets (unused, may)),
      )

  -- Memory was refused with a frame.
  pub frame_lacks : {counts : Counts} (count : ℕ) (frame : Frame) (code : Code)
      → PartsFit values cutter counts e log
      → TakesOctets log → e.failed ≡ None → IsCut cutter new piece count frame
      → FrameLacksMemory e frame code other
      → Takes values log piece (Failed code) new counts (Some OutOfMemory) other
  frame_lacks count frame code p takes up cut lacks =
      memory_refused (take count piece) (drop count piece) code p
      takes.up (sym (take-append-drop count piece))
      (to_take takes frame (read_of values cutter new e log piece count frame p takes.up cut)
      (frame_needs values e log frame p.machine up lacks.needs))
      (cut_now values cutter new e log piece count frame p takes.up cut).place lacks.fails

  -- Either of them; the frame is counted where memory was not refused to it.
  pub frame_stops : {counts more after : Counts} {why : Option Why} (count : ℕ) (frame : Frame)
      (code : Code)
      → PartsFit values cutter counts e log
      → TakesOctets log → e.failed ≡ None → IsCut cutter new piece count frame
      → FrameFails e frame code other ⊎ FrameLacksMemory e frame code other
      → CountsOneMore counts frame more → (code ≢ InternalError → after ≡ more)
      → (code ≡ InternalError → after ≡ counts)
      → (code ≢ InternalError → FrameFails e frame code other
      → why ≡ Some (rule_of_frame (log_view log) frame code))
      → (code ≡ InternalError → why ≡ Some OutOfMemory)
      → Takes values log piece (Failed code) new after why other
  frame_stops count frame code p takes up cut (inl fails) counts_it counted_it kept broken lacking =
      let made = frame_fails count frame code p takes up cut fails counts_it in
      rw (counted_it made.0, broken made.0 fails) made.1
  frame_stops count frame code p takes up cut (inr lacks) counts_it counted_it kept broken lacking =
      rw (kept lacks.fails.lacks, lacking lacks.fails.lacks)
      (frame_lacks count frame code p takes up cut lacks)

  -- A fault of the stream.
  pub fault_taken : {counts : Counts} (fault : WireFault)
      → PartsFit values cutter counts e log → TakesOctets log
      → CutterFaults cutter piece fault new
      → other ≡ fail (wire_fault_code fault) e.streams.last_processed e
      → Takes values log piece (Failed (wire_fault_code fault)) new counts
      (Some (rule_of_octets fault)) other
  unfolding MayStep log_after machine_after used with_sent
  fault_taken fault p takes met failed =
      let cut = p.cut takes.up in
      let at = met.at (is_server log.role) (limits_from log) log.input log.frames cut in
      let made = fault_in (is_server log.role) (limits_from log) log.input piece cutter.unparsed
      log.frames at.0 fault cut.split at.1 in
      let after : Log = took_fault log made.0 fault in
      let machine : Represents values other after =
      subst (λ (x : End). Represents values x after) (sym failed)
      (steps_represent values e log (a_fault made.0 fault) p.machine (takes, made.3)) in
      let down : other.failed ≢ None =
      λ up. none_some (wire_fault_code fault) (sym up ∙ ap (λ (x : End). x.failed) failed) in (
        after,
        meets_fault takes made.0 made.1 made.2 fault made.3 refl refl,
        with_reason values new _ _ other after (failed_parts values new other after machine down
            (end_kept new.place (log.input ++ made.0) _ (fault_input log made.0 fault)
            (at.2 ∙ ap saturated made.4)) p.counted)
            (for_octets (came_of values e log p.machine) takes made.0 fault made.3),
      )

-- The test whether a code is that of refused memory.
pub is_internal : (code : Code) → sameb the_type code InternalError ≡ true → code ≡ InternalError
is_internal InternalError is = refl
is_internal code is = cc

pub not_internal : (code : Code) → sameb the_type code InternalError ≡ false → code ≢ InternalError
not_internal code is same =
    let wrong : true ≡ false =
    subst (λ (other : Code). sameb the_type other InternalError ≡ false) same is in
    cc

-- The same end fails in the same way.
fails_alike : (e other : End) (code : Code) → other ≡ fail code e.streams.last_processed e
    → FailsAlike (fail code e.streams.last_processed e) other
fails_alike e other code same = search rules

-- A cutter without fault that fails has met one.
first_fault : (known : Option WireFault) (Meets Stays : Type 0) → known ≡ None
    → MatchOption known Meets (λ fault. Stays) → Meets
first_fault None Meets Stays none h = h
first_fault (Some fault) Meets Stays none h = cc

-- A connection that has failed returns its code again.
pub failed_again : {counts : Counts} {why : Option Why} (values : Values) (cutter : CutterState)
    (e : End) (log : Log) (piece : List ℕ)
    (code : Code) → PartsRepresent values cutter counts why e log → e.failed ≡ Some code
    → Takes values log piece (Failed code) cutter counts why e
failed_again values cutter e log piece code p down =
    (log, has_failed code (sym p.machine.failed ∙ down) refl refl, p)

-- A stream that is reported as unprocessed fails nothing.
none_failed : (log : Log) → (took_none log).failed ≡ log.failed
none_failed log = reported_failed _ _ ∙ unreturned_failed _ log

-- A stream that the peer doesn't process is reported.
pub unprocessed_taken : {counts : Counts} {why : Option Why} (values : Values)
    (cutter : CutterState) (e other : End) (log : Log)
    (piece : List ℕ) (id : ℕ) → PartsRepresent values cutter counts why e log → e.failed ≡ None
    → id ≡ unprocessed_of_end e.role e.streams.entries e.goaway.received → id ≢ 0
    → other ≡ close_unprocessed e id
    → Takes values log piece (Took 0 (Some (UnprocessedEvent id))) cutter counts why other
unfolding MayStep log_after machine_after
unprocessed_taken values cutter e other log piece id parts up next some closed =
    let p = fit_of values cutter _ _ e log parts in
    let log_up : log.failed ≡ None = sym p.machine.failed ∙ up in
    let named : id ≡ next_unprocessed log = next ∙ next_same values e log p.machine log_up in
    let of_log : next_unprocessed log ≢ 0 = λ none. some (named ∙ none) in
    let after : Log = took_none log in
    let machine : Represents values other after =
    subst (λ (x : End). Represents values x after)
    (sym (closed ∙ ap (λ (i : ℕ). close_unprocessed e i) next))
    (steps_represent values e log one_unprocessed p.machine (log_up, of_log)) in
    let own : other.own ≡ e.own =
    ap (λ (x : End). x.own) closed ∙ own_of_unprocessed e id in (
      after,
      reports_unprocessed log_up of_log
          (ap (λ (i : ℕ). Took 0 (Some (UnprocessedEvent i))) named) refl,
      with_reason values cutter _ _ other after
          (parts_kept values cutter e other log after p (Keeps-none log) own machine)
          (why_up values log after _ parts.reason log_up (none_failed log ∙ log_up)),
    )

-- No octet more was used.
used_none : (cutter : CutterState) (log : Log) → IsAtEnd cutter log
    → cutter.place ≡ saturated (length (log.input ++ []))
used_none cutter log at_end = search rules

-- Or memory is refused to it.
pub unprocessed_lacks : {counts : Counts} (values : Values) (cutter : CutterState) (e other : End)
    (log : Log)
    (piece : List ℕ) (id : ℕ) (code : Code) → PartsFit values cutter counts e log
    → e.failed ≡ None → id ≡ unprocessed_of_end e.role e.streams.entries e.goaway.received
    → id ≢ 0 → FailsWithoutMemory e code other × (credit_needs_memory (end_view e) id ≡ true)
    → Takes values log piece (Failed code) cutter counts (Some OutOfMemory) other
unprocessed_lacks values cutter e other log piece id code p up next some (fails, due) =
    let log_up : log.failed ≡ None = sym p.machine.failed ∙ up in
    let named : id ≡ next_unprocessed log = next ∙ next_same values e log p.machine log_up in
    let due_there : credit_needs_memory (log_view log) (next_unprocessed log) ≡ true =
    ap (λ (i : ℕ). credit_needs_memory (log_view log) i) (sym named)
    ∙ sym (ap (λ (view : View). credit_needs_memory view id)
    (views_alike values e log p.machine up)) ∙ due in
    memory_refused values cutter cutter e other log piece [] piece code p log_up refl
    (to_report refl (λ none. some (named ∙ none)) due_there) (used_none cutter log p.place) fails

-- What stops the cutter.
pub cut_stopped : {counts : Counts} (values : Values) (cutter new : CutterState) (e other : End)
    (log : Log) (piece : List ℕ) (fault : WireFault) → PartsFit values cutter counts e log
    → TakesOctets log
    → CutterFails cutter piece fault new → (fault ≡ faults.Memory → CutterLacks cutter piece)
    → other ≡ fail (wire_fault_code fault) e.streams.last_processed e
    → Takes values log piece (Failed (wire_fault_code fault)) new counts
    (Some (rule_of_octets fault)) other
cut_stopped values cutter new e other log piece faults.Memory p takes fails lacks failed =
    memory_refused values cutter new e other log piece [] piece InternalError p takes.up refl
    (to_keep refl takes (keeps_octets values cutter e log piece p takes.up (lacks refl)))
    (ap (λ (state : CutterState). state.place) fails
    ∙ used_none cutter log p.place)
    (record { lacks = refl; after = fails_alike e other InternalError failed })
cut_stopped values cutter new e other log piece fault p takes fails lacks failed =
    fault_taken values cutter new e other log piece fault p takes
    (first_fault cutter.fault (CutterFaults cutter piece fault new) (new ≡ cutter)
    (p.cut takes.up).sound fails) failed

-- The event that is returned may be given in another form.
pub said_so : {counts : Counts} {why : Option Why} (values : Values) (log : Log) (piece : List ℕ)
    (count : ℕ) (event other : Option Event)
    (cutter : CutterState) (e : End) → event ≡ other
    → Takes values log piece (Took count other) cutter counts why e
    → Takes values log piece (Took count event) cutter counts why e
said_so {counts} {why} values log piece count event other cutter e same takes =
    subst (λ (o : Option Event). Takes values log piece (Took count o) cutter counts why e)
    (sym same) takes
