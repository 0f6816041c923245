-- What a machine makes of a piece, part by part, over a link or without one.
use Rattle.h2_engines.proofs.Names
use Names.{◌≡◌, ◌≤◌, ℕ, ◌+◌, ◌-◌, ◌^◌, Bool, true, false, List, length, take, drop, Some, None}
use Names.{Result, Ok, Err, refl, sym, ◌∙◌, subst, inl, inr, arith, drop_all, Code, SentMessage}
use Names.{EndLog, EndRepresents, LinkError, Heard, Next, EndsWriting, failures_at_end, failures_by}
use Names.{Traffic, HasTakenAll, Happens, WritesOut, KeepsNext, take_rest, drop-drop, ◌≢◌}
use Names.{MessageState, Serving, Fetching, MachineState, Course, IsDriven, EndsBeforeResponse}
use Names.{EndsFor, lacks_memory, has_stalled, stops_itself, HasEnded, HearsNoMore, gives_up, Hears}
use Names.{IsDue, Responds, WritesWaiting, Keeps, HearsSo, RespondedSo, TakenSo, has_failed}
use Rattle.h2_engines.specs.Machines.{fails, HasHeardLast, flow, WritesAndResponds, EndsEarly}
use Rattle.h2_engines.proofs.MachineLaws.{keeps_same, holds_same, holds_due, ends_linked}
use Rattle.h2_engines.proofs.MachineLaws.{ends_going, writing_ends}
use Rattle.h2_engines.proofs.MachineWrites.{written_links}
use Rattle.h2_engines.proofs.ResponderRefusals.{waits_none}
use Rattle.h2_link.specs.declared.error.LinkError.TheVariants as errors
use Rattle.h2_engines.specs.declared.request.Next.TheVariants as nexts

-- All that waits was written, and the machine is driven on.
pub written_driven : {course : Course} {before now : Traffic} {old : MachineState}
    (new : MachineState) {end : EndLog} {unused : List ℕ} {next : Next} {done : Unit {0}}
    → IsDriven course before old end unused next → new.kept ≡ old.kept
    → (wrote : WritesOut (Happens course old.kept) course.values course.start now end new.end
    unused (Ok done)) → IsDriven course now new wrote.after unused next
written_driven {course} {old} new {end} {unused} {next} is kept wrote =
    record {
      happened = rw kept wrote.happened;
      represents = wrote.represents;
      linked = written_links unused wrote.given wrote.taken;
      up = wrote.same.failed ∙ is.up;
      keeps = rw kept (keeps_same _ _ _ _ _ wrote.same is.keeps);
    }

-- It could not be written.
pub ends_unwritten : (course : Course) {now : Traffic} (old new : MachineState) {end : EndLog}
    {unused : List ℕ} {error : LinkError} → new.kept ≡ old.kept
    → (wrote : WritesOut (Happens course old.kept) course.values course.start now end new.end
    unused (Err error)) → EndsWriting error → EndsBeforeResponse course.message old.kept end error
    → HasEnded true course now new wrote.after error
ends_unwritten course {now} old new {unused} {error} kept wrote writing holds =
    record {
      happened = rw kept wrote.happened;
      represents = wrote.represents;
      unused = unused;
      given = wrote.given;
      taken = wrote.taken;
      alone = λ none. absurd (cc);
      holds = rw kept (holds_same course.message old.kept error wrote.same holds);
      why = writing_ends course.start now new.kept wrote.after error writing wrote.stalls;
    }

-- What is due is done once all that waits was written,
pub wrote_due : (before now : Traffic) (old mid new : MachineState) (due : Next) (done : Unit {0})
    (result : Result (Unit {0}) LinkError) → mid.kept ≡ old.kept
    → WritesWaiting before now old mid (Ok done) → Responds mid new due result
    → WritesAndResponds true before now old new due result
wrote_due before now old mid new due done result kept writes acts course base end unused is driven
    =
    let wrote = writes course end unused driven.represents driven.happened driven.linked in
    let acted = acts true course now wrote.after unused is (λ said. waits_none wrote.taken)
    (written_driven mid driven kept wrote) in
    (acted.0, omega (arith, wrote.turns, acted.1), acted.2)

-- or not, where that can't be written;
pub unwritten_due : (before now : Traffic) (old new : MachineState) (due : Next) (error : LinkError)
    → new.kept ≡ old.kept → WritesWaiting before now old new (Err error) → EndsWriting error
    → WritesAndResponds true before now old new due (Err error)
unfolding RespondedSo
unwritten_due before now old new due error kept writes writing course base end unused is driven =
    let wrote = writes course end unused driven.represents driven.happened driven.linked in (
      wrote.after,
      omega (arith, wrote.turns),
      ends_unwritten course old new kept wrote writing
          (holds_due course.message old.kept end due error is driven.keeps),
    )

-- without a link it is done at once.
pub plain_due : (before now : Traffic) (old new : MachineState) (due : Next)
    (result : Result (Unit {0}) LinkError) → Responds old new due result
    → WritesAndResponds false before now old new due result
plain_due before now old new due result acts course base end unused is driven =
    acts false course base end unused is (λ said. absurd (cc)) driven

-- Why it can't hear on, and what holds then.
holds_last : {message : SentMessage} {kept : MessageState} {end : EndLog} {error : LinkError}
    → HearsNoMore message kept end error → EndsBeforeResponse message kept end error
holds_last {error} (fails code failed is holds) = holds error
holds_last (gives_up up holds why) = holds

why_last : (writes : Bool) (course : Course) (now : Traffic) {kept : MessageState} {end : EndLog}
    {error : LinkError}
    → ((code : Code) → end.log.failed ≡ Some code → writes ≡ true → HasTakenAll course.start now
    end.log) → HearsNoMore course.message kept end error
    → EndsFor writes course.start now kept end error
why_last writes course now taken (fails code failed is holds) =
    has_failed code failed is (taken code failed)
why_last writes course now taken (gives_up up holds (inl memory)) =
    lacks_memory memory (inl up)
why_last writes course now taken (gives_up up holds (inr why)) = stops_itself (why writes)

ends_last : (writes : Bool) {course : Course} {now : Traffic} {held : MachineState} {end : EndLog}
    {error : LinkError}
    → ((code : Code) → end.log.failed ≡ Some code → writes ≡ true → HasTakenAll course.start now
    end.log) → HasHeardLast course now held end error → HasEnded writes course now held end error
ends_last writes {course} {now} {held} taken last =
    ends_linked course held last.happened last.represents last.linked (holds_last last.why)
    (why_last writes course now taken last.why)

-- Without a link it has ended so,
pub ends_alone : (before now : Traffic) (held : MachineState) (error : LinkError)
    → EndsEarly false before now held held error error
ends_alone before now held error course base end last =
    (end, omega arith, ends_last false (λ code failed said. absurd (cc)) last)

-- over a link while the connection is up,
pub ends_up : (now : Traffic) (held : MachineState) (error : LinkError)
    → ((course : Course) (end : EndLog) → EndRepresents course.values held.end end
    → end.log.failed ≡ None)
    → EndsEarly true now now held held error error
ends_up now held error up course base end last =
    let none = up course end last.represents in (
      end,
      omega arith,
      ends_last true (λ code failed said. absurd (cc)) last,
    )

-- and once it has failed where all was written,
written_why : (course : Course) (now : Traffic) {kept : MessageState} {before : EndLog}
    (after : EndLog) {error : LinkError} → before.log.failed ≢ None
    → after.log.failed ≡ before.log.failed → HasTakenAll course.start now after.log
    → HearsNoMore course.message kept before error → EndsFor true course.start now kept after error
written_why course now after failed same taken (fails code is error_is holds) =
    has_failed code (same ∙ is) error_is (λ said. taken)
written_why course now after failed same taken (gives_up up holds why) = absurd (failed up)

pub ends_written : (before now : Traffic) (old new : MachineState) (error : LinkError)
    (done : Unit {0})
    → ((course : Course) (end : EndLog) → EndRepresents course.values old.end end → end.log.failed
    ≢ None) → new.kept ≡ old.kept → WritesWaiting before now old new (Ok done)
    → EndsEarly true before now old new error error
ends_written before now old new error done failed kept writes course base end last =
    let wrote = writes course end last.unused last.represents last.happened last.linked in
    let holds = holds_same course.message old.kept error wrote.same (holds_last last.why) in
    let why = written_why course now wrote.after (failed course end last.represents)
    wrote.same.failed wrote.taken.taken last.why in (
      wrote.after,
      omega (arith, wrote.turns),
      ends_linked course new (rw kept wrote.happened) wrote.represents
          (written_links last.unused wrote.given wrote.taken) (subst
          (λ (one : MessageState). EndsBeforeResponse course.message one wrote.after error)
          (sym kept) holds)
          (subst (λ (one : MessageState). EndsFor true course.start now one wrote.after error)
          (sym kept) why),
    )

-- or could not be.
holds_failed : (course : Course) {kept : MessageState} {end : EndLog} {error : LinkError}
    (other : LinkError) → end.log.failed ≢ None → HearsNoMore course.message kept end error
    → EndsBeforeResponse course.message kept end other
holds_failed course other failed (fails code is error_is holds) = holds other
holds_failed course other failed (gives_up up holds why) = absurd (failed up)

pub ends_not_written : (before now : Traffic) (old new : MachineState) (error other : LinkError)
    → ((course : Course) (end : EndLog) → EndRepresents course.values old.end end
    → end.log.failed ≢ None)
    → new.kept ≡ old.kept → WritesWaiting before now old new (Err other) → EndsWriting other
    → EndsEarly true before now old new error other
ends_not_written before now old new error other failed kept writes writing course base end last =
    let wrote = writes course end last.unused last.represents last.happened last.linked in (
      wrote.after,
      omega (arith, wrote.turns),
      ends_unwritten course old new kept wrote writing
          (holds_failed course other (failed course end last.represents) last.why),
    )

-- How often the link has failed doesn't depend on what else is answered.
pub failures_err : (A : Type 0) (failures : ℕ) (error : LinkError)
    → failures_at_end {A = A} failures (Err error) ≡ failures_by failures error
failures_err A failures errors.Device = refl
failures_err A failures error = refl

-- A machine is driven, so many octets weren't used, and this is to be done; a turn has passed at
-- least in each round.
pub record IsTaking (writes : Bool) (course : Course) (now base : Traffic) (held : MachineState)
    (end : EndLog) (unused : List ℕ) (next : Next) (rounds : ℕ) : Type 0 where
  pub after : EndLog
  pub turns : rounds + length end.log.turns ≤ length after.log.turns
  pub driven : IsDriven course (flow writes now base) held after unused next

-- Whatever had happened at first, it is so now.
abbrev pub TakesOn : (writes : Bool) → (rounds : ℕ) → (before now : Traffic)
    → (old new : MachineState) → (piece unused : List ℕ) → Next → Type 0
TakesOn writes rounds before now old new piece unused next =
    (course : Course) (base : Traffic) (end : EndLog)
    → IsDriven course (flow writes before base) old end piece nexts.Again
    → IsTaking writes course now base new end unused next rounds

-- how a piece was taken
abbrev pub Taken : (writes : Bool) → Course → (now base : Traffic) → MachineState → EndLog
    → Result Bool LinkError → Type 0
Taken writes course now base held end result =
    (after : EndLog) × (length end.log.turns ≤ length after.log.turns)
    × TakenSo writes course (flow writes now base) held after result

-- Nothing was taken yet.
pub takes_first : (writes : Bool) (now : Traffic) (held : MachineState) (piece : List ℕ)
    → TakesOn writes 0 now now held held piece piece nexts.Again
takes_first writes now held piece course base end is =
    record { after = end; turns = omega arith; driven = is }

hears_rest : (old new : MachineState) (piece : List ℕ) (used : ℕ) (result : Result Heard LinkError)
    → Hears old new (take (length piece - used) (drop used piece)) result
    → Hears old new (drop used piece) result
hears_rest old new piece used result hears =
    subst (λ (octets : List ℕ). Hears old new octets result) (take_rest piece used) hears

-- The rest of a piece was heard of;
pub heard_rest : {writes : Bool} {course : Course} {now base : Traffic} {self : MachineState}
    (new : MachineState) {end : EndLog} (piece : List ℕ) (used : ℕ) (heard : Heard) {rounds : ℕ}
    → IsTaking writes course now base self end (drop used piece) nexts.Again rounds
    → Hears self new (take (length piece - used) (drop used piece)) (Ok heard)
    → IsTaking writes course now base new end (drop (used + heard.used) piece) heard.next
    (rounds + 1)
unfolding HearsSo
heard_rest {writes} {course} {now} {base} {self} new piece used heard on hears =
    let next = hears_rest _ new piece used (Ok heard) hears _ _ on.after on.driven in
    record {
      after = next.0;
      turns = omega (arith, on.turns, next.1.1);
      driven = subst (λ (unused : List ℕ). IsDriven course (flow writes now base) new next.0 unused
          heard.next) (drop-drop heard.used used piece) next.1.0;
    }

-- all of it was used;
again_of_done : (message : SentMessage) (kept : MessageState) (end : EndLog)
    → Keeps message kept end nexts.Done → Keeps message kept end nexts.Again
unfolding Keeps KeepsNext
again_of_done message (Serving requests answered) end keeps = keeps
again_of_done message (Fetching id coming whole) end keeps = keeps

pub done_rest : {writes : Bool} {course : Course} {now base : Traffic} {self : MachineState}
    (new : MachineState) {end : EndLog} (piece : List ℕ) (used : ℕ) (heard : Heard) {rounds : ℕ}
    → IsTaking writes course now base self end (drop used piece) nexts.Again rounds
    → Hears self new (take (length piece - used) (drop used piece)) (Ok heard)
    → heard.next ≡ nexts.Done → Taken writes course now base new end (Ok false)
unfolding HearsSo TakenSo
done_rest {writes} {course} {now} {base} {self} new piece used heard on hears done =
    let rest = drop used piece in
    let next = hears_rest _ new piece used (Ok heard) hears _ _ on.after on.driven in
    let all : length rest ≤ heard.used = omega (arith, next.1.2 done) in
    let driven = subst
    (λ (unused : List ℕ). IsDriven course (flow writes now base) new next.0 unused heard.next)
    (drop_all heard.used rest all) next.1.0 in (
      next.0,
      omega (arith, on.turns, next.1.1),
      record {
        happened = driven.happened;
        represents = driven.represents;
        linked = driven.linked;
        up = driven.up;
        keeps = again_of_done course.message new.kept next.0
            (subst (λ (one : Next). Keeps course.message new.kept next.0 one) done driven.keeps);
      },
    )

-- the response is whole;
pub whole_rest : {writes : Bool} {course : Course} {now base : Traffic} {new : MachineState}
    {end : EndLog} (unused : List ℕ) {rounds : ℕ}
    → IsTaking writes course now base new end unused nexts.Whole rounds
    → Taken writes course now base new end (Ok true)
unfolding TakenSo
whole_rest unused on = (on.after, omega (arith, on.turns), (unused, on.driven))

-- or something is due, which is done,
pub due_rest : {writes : Bool} {course : Course} {middle now base : Traffic}
    {self new : MachineState} {end : EndLog} {unused : List ℕ} {due : Next} {rounds : ℕ}
    (done : Unit {0}) → IsDue due → IsTaking writes course middle base self end unused due rounds
    → WritesAndResponds writes middle now self new due (Ok done)
    → IsTaking writes course now base new end unused nexts.Again rounds
unfolding RespondedSo
due_rest {course} {base} {unused} done is_due on does =
    let now_is = does course base on.after unused is_due on.driven in
    record { after = now_is.0; turns = omega (arith, on.turns, now_is.1); driven = now_is.2 }

-- or can't be;
pub not_done_rest : {writes : Bool} {course : Course} {middle : Traffic} (now : Traffic)
    {base : Traffic} {self : MachineState} (new : MachineState) {end : EndLog} {unused : List ℕ}
    {due : Next} {rounds : ℕ} (error : LinkError) → IsDue due
    → IsTaking writes course middle base self end unused due rounds
    → WritesAndResponds writes middle now self new due (Err error)
    → Taken writes course now base new end (Err error)
unfolding RespondedSo TakenSo
not_done_rest {course} now {base} new {unused} error is_due on does =
    let now_is = does course base on.after unused is_due on.driven in
    (now_is.0, omega (arith, on.turns, now_is.1), now_is.2)

-- the machine can't hear on;
pub last_rest : {writes : Bool} {course : Course} {middle : Traffic} (now : Traffic)
    {base : Traffic} {self : MachineState} (mid new : MachineState) {end : EndLog}
    (piece : List ℕ) (used : ℕ) (error result : LinkError) {rounds : ℕ}
    → IsTaking writes course middle base self end (drop used piece) nexts.Again rounds
    → Hears self mid (take (length piece - used) (drop used piece)) (Err error)
    → EndsEarly writes middle now mid new error result
    → Taken writes course now base new end (Err result)
unfolding HearsSo TakenSo
last_rest {writes} {course} {middle} now {base} {self} mid new piece used error result on hears ends
    =
    let last = hears_rest self mid piece used (Err error) hears course (flow writes middle base)
    on.after on.driven in
    let ended = ends course base last.0 last.1.0 in
    (ended.0, omega (arith, on.turns, last.1.1, ended.1), ended.2)

-- or no further round is made.
pub no_round_rest : {writes : Bool} {course : Course} {now base : Traffic} {new : MachineState}
    {end : EndLog} {unused : List ℕ} {rounds : ℕ} → 2 ^ 64 - 1 ≤ rounds
    → IsTaking writes course now base new end unused nexts.Again rounds
    → Taken writes course now base new end (Err errors.NoProgress)
unfolding TakenSo
no_round_rest all on =
    let out : 2 ^ 64 - 1 ≤ length on.after.log.turns = omega (arith, all, on.turns) in
    (on.after, omega (arith, on.turns), ends_going on.driven (has_stalled refl (inr out)))

-- Where branches of the code join, a machine and a link are those of a branch.
pub moved_to : {M : Type 0} {L : Type 0} → (P : M → L → Type 0) → {self after : M} → {link now : L}
    → after ≡ self → now ≡ link → P self link → P after now
moved_to {M = M} {L = L} P {after} {link} same is holds = rw is (rw same holds)
