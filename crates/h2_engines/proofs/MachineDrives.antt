-- What each round of a machine that is driven over a link makes of it: output is written, octets
-- are read and taken, credit is returned, and what waits is sent.
use Rattle.h2_engines.proofs.Names
use Names.{◌≡◌, ◌≤◌, ℕ, ◌+◌, ◌-◌, ◌^◌, Bool, true, false, List, [], ◌++◌, length, take, Option}
use Names.{Result, Ok, Err, refl, sym, ap, ◌∙◌, subst, append-nil, inl, inr, arith, Appends}
use Names.{Appends-trans, Log, Values, given_out, full_output, EndLog, LinkError, ◌<◌, waiting}
use Names.{ConnRepresents, EndsWriting, failures_at_end, Traffic, IsLinked, HasTakenAll}
use Names.{HasReturnedAll, HasSentAll, SendsWaiting, take-append_seam, ended_after, MachineState}
use Names.{Course, IsDriven, lacks_memory, link_fails, has_stalled, WritesWaiting}
use Names.{MachineTakesPiece, MessageState, HasSentFor, Serving, Fetching, TakenSo, DrivenSo}
use Rattle.h2_engines.proofs.MachineLaws.{holds_again, stays_driven, ends_going}
use Rattle.h2_engines.proofs.MachineTakes.{written_driven, ends_unwritten}
use Rattle.h2_engines.proofs.SentAll.{all_sent}
use Rattle.h2_engines.proofs.WithoutLinkSends.{sends_at, sent_stays, sent_turns, sent_error}
use Rattle.h2_link.specs.declared.error.LinkError.TheVariants as errors
use Rattle.h2_engines.specs.declared.request.Next.TheVariants as nexts
use Rattle.h2_engines.specs.declared.sending.Credit.TheVariants.{All}

-- What the loop keeps: the machine is driven, these octets weren't used yet, and in each round a
-- turn has passed at least.
pub record IsGoing (course : Course) (now : Traffic) (held : MachineState) (unused : List ℕ)
    (rounds : ℕ) : Type 0 where
  pub end : EndLog
  pub turns : rounds ≤ length end.log.turns
  pub driven : IsDriven course now held end unused nexts.Again

-- The same, where what could be sent was sent, unless the output is full.
pub record IsPumped (course : Course) (now : Traffic) (held : MachineState) (rounds : ℕ) : Type 0
  where
    pub going : IsGoing course now held [] rounds
    pub sent : waiting going.end.log < full_output → HasSentFor held.kept going.end

-- The same, where what could be sent was sent, credit was returned and the link took the whole
-- output.
pub record IsSent (course : Course) (now : Traffic) (held : MachineState) (rounds : ℕ) : Type 0
  where
    pub going : IsGoing course now held [] rounds
    pub all : HasTakenAll course.start now going.end.log
    pub returned : HasReturnedAll going.end.log
    pub sent : HasSentFor held.kept going.end

-- Whatever had happened at first, it goes on now.
abbrev pub DrivesOn : (before now : Traffic) → (old new : MachineState) → (rounds : ℕ) → Type 0
DrivesOn before now old new rounds =
    (course : Course) (end : EndLog) → IsDriven course before old end [] nexts.Again
    → HasSentFor old.kept end → IsPumped course now new rounds

-- Where all that could be was sent, a machine has sent what it must;
sent_for : (kept : MessageState) {end : EndLog} → HasSentAll end → HasSentFor kept end
sent_for (Serving requests answered) sent = sent
sent_for (Fetching id coming whole) sent = λ some. sent

-- and it still has where no more octets were used and nothing more could be sent.
sent_still : (kept : MessageState) {before after : EndLog}
    → after.log.input ≡ before.log.input → (HasSentAll before → HasSentAll after)
    → HasSentFor kept before → HasSentFor kept after
sent_still (Serving requests answered) same keep sent = keep sent
sent_still (Fetching id coming whole) same keep sent = λ some.
    keep (sent (λ none. some (same ∙ none)))

-- how the driving has ended
abbrev pub Ends : Course → (now : Traffic) → MachineState → Result Bool LinkError → Type 0
Ends course now held result = (after : EndLog) × DrivenSo course now held after result

-- At first it is driven;
pub drives_first : (now : Traffic) (held : MachineState) → DrivesOn now now held held 0
drives_first now held course end is sent =
    record {
      going = record { end = end; turns = omega arith; driven = is };
      sent = λ few. sent;
    }

-- it ends early where it goes on,
pub going_ends : {course : Course} (now : Traffic) (held : MachineState) {unused : List ℕ}
    {rounds : ℕ} (error : LinkError) → error ≡ errors.Memory
    → IsGoing course now held unused rounds → Ends course now held (Err error)
unfolding DrivenSo
going_ends now held error memory go =
    (go.end, ends_going go.driven (lacks_memory memory (inl go.driven.up)))

pub no_round : {course : Course} (now : Traffic) (held : MachineState) {unused : List ℕ}
    {rounds : ℕ}
    → 2 ^ 64 - 1 ≤ rounds → IsGoing course now held unused rounds
    → Ends course now held (Err errors.NoProgress)
unfolding DrivenSo
no_round now held all go =
    let out : 2 ^ 64 - 1 ≤ length go.end.log.turns = omega (arith, all, go.turns) in
    (go.end, ends_going go.driven (has_stalled refl (inr out)))

module _ {course : Course} {now : Traffic} {self : MachineState} (new : MachineState) {rounds : ℕ}
    (go : IsGoing course now self [] rounds) (kept : new.kept ≡ self.kept) where
  -- Credit is returned, and what waits of messages is sent,
  waited_on : (result : Result (Unit {0}) LinkError) → SendsWaiting All self.end new.end result
      → IsGoing course now new [] rounds
  waited_on result sends =
      let sent = sends course.values go.end go.driven.represents in
      record {
        end = sent.0;
        turns = omega (arith, go.turns, sent_turns sent.2);
        driven = stays_driven new go.driven kept (sent_stays sent.2)
            (sends_at course self.kept go.driven.happened sent.2) sent.1;
      }

  pub waiting_on : {done : Unit {0}} → SendsWaiting All self.end new.end (Ok done)
      → IsPumped course now new rounds
  unfolding waited_on
  waiting_on {done} sends =
      let sent = sends course.values go.end go.driven.represents in
      record {
        going = waited_on (Ok done) sends;
        sent = λ few. sent_for new.kept
            (all_sent sent.2 go.driven.up go.driven.represents.streams.conn.machine.came few);
      }

  -- or there is no memory for that.
  pub waiting_last : (error : LinkError) → SendsWaiting All self.end new.end (Err error)
      → Ends course now new (Err error)
  waiting_last error sends =
      let sent = sends course.values go.end go.driven.represents in
      going_ends now new error (sent_error sent.2) (waited_on (Err error) sends)

-- What waits is written,
pub written_on : {course : Course} {middle now : Traffic} {self : MachineState}
    (new : MachineState) {rounds : ℕ} {done : Unit {0}} → IsPumped course middle self rounds
    → new.kept ≡ self.kept → WritesWaiting middle now self new (Ok done)
    → IsGoing course now new [] (rounds + 1)
written_on {course} new pumped kept sends =
    let go = pumped.going in
    let wrote = sends course go.end [] go.driven.represents go.driven.happened go.driven.linked in
    record {
      end = wrote.after;
      turns = omega (arith, go.turns, wrote.turns);
      driven = written_driven new go.driven kept wrote;
    }

-- all of it where the output isn't full,
pub sent_on : {course : Course} {middle now : Traffic} {self : MachineState} (new : MachineState)
    {rounds : ℕ} {done : Unit {0}} {count : ℕ}
    → ((values : Values) (log : Log) → ConnRepresents values self.end.conn log
    → count ≡ waiting log) → count < full_output → IsPumped course middle self rounds
    → new.kept ≡ self.kept
    → WritesWaiting middle now self new (Ok done) → IsSent course now new (rounds + 1)
unfolding written_on
sent_on {course} {self = self} new {count = count} reads few pumped kept sends =
    let go = pumped.going in
    let wrote = sends course go.end [] go.driven.represents go.driven.happened go.driven.linked in
    let waits = reads course.values go.end.log go.driven.represents.streams.conn in
    record {
      going = written_on new pumped kept sends;
      all = wrote.taken.taken;
      returned = wrote.taken.returned (wrote.same.failed ∙ go.driven.up);
      sent = rw kept (sent_still self.kept wrote.same.used wrote.sent
          (pumped.sent (omega (arith, waits, few))));
    }

-- or can't be.
pub sent_last : {course : Course} {middle : Traffic} (now : Traffic) {self : MachineState}
    (new : MachineState) {rounds : ℕ} (error : LinkError) → IsPumped course middle self rounds
    → new.kept ≡ self.kept → WritesWaiting middle now self new (Err error) → EndsWriting error
    → Ends course now new (Err error)
unfolding DrivenSo
sent_last {course} now {self} new error pumped kept sends writing =
    let go = pumped.going in
    let wrote = sends course go.end [] go.driven.represents go.driven.happened go.driven.linked in (
      wrote.after,
      ends_unwritten course self new kept wrote writing (holds_again _ _ _ _ go.driven.keeps),
    )

-- The link gives octets, and takes none.
appends_as : (one two : Option (List ℕ)) (octets is : List ℕ) → octets ≡ is
    → Appends one two octets → Appends one two is
appends_as one two octets is same appends = subst (Appends one two) same appends

read_links : {start before : Traffic} (now : Traffic) {log : Log} {octets : List ℕ}
    → IsLinked start before log [] → Appends before.given now.given octets
    → Appends before.taken now.taken [] → IsLinked start now log octets
read_links {start} {before} now {log} {octets} linked gives takes =
    record {
      given = appends_as start.given now.given ((log.input ++ []) ++ octets) (log.input ++ octets)
          (ap (λ (input : List ℕ). input ++ octets) (append-nil log.input)) (Appends-trans
          start.given before.given now.given (log.input ++ []) octets linked.given gives);
      taken = appends_as _ now.taken _ (given_out log) (append-nil (given_out log))
          (Appends-trans start.taken before.taken now.taken (given_out log) [] linked.taken takes);
    }

read_driven : {course : Course} {before : Traffic} (now : Traffic) {held : MachineState}
    {end : EndLog} {octets : List ℕ} → IsDriven course before held end [] nexts.Again
    → Appends before.given now.given octets → Appends before.taken now.taken []
    → IsDriven course now held end octets nexts.Again
read_driven now is gives takes =
    record {
      happened = is.happened;
      represents = is.represents;
      linked = read_links now is.linked gives takes;
      up = is.up;
      keeps = is.keeps;
    }

pub read_on : {course : Course} {middle : Traffic} (now : Traffic) {self : MachineState}
    {octets : List ℕ} {rounds : ℕ} → IsGoing course middle self [] rounds
    → Appends middle.given now.given octets → Appends middle.taken now.taken []
    → IsGoing course now self octets rounds
read_on now go gives takes =
    record {
      end = go.end;
      turns = go.turns;
      driven = read_driven now go.driven gives takes;
    }

-- It gives none, at the end of the input,
pub read_ends : {course : Course} {middle : Traffic} (now : Traffic) (self : MachineState)
    {rounds : ℕ} → IsSent course middle self rounds → Appends middle.given now.given []
    → Appends middle.taken now.taken [] → Ends course now self (Ok false)
unfolding DrivenSo
read_ends {course} {middle} now self sent gives takes =
    let log = sent.going.end.log in (
      sent.going.end,
      (
        read_driven now sent.going.driven gives takes,
        appends_as _ now.taken _ log.written (append-nil log.written)
            (Appends-trans course.start.taken middle.taken now.taken log.written [] sent.all takes),
        sent.returned,
        sent.sent,
      ),
    )

-- or where a read has failed.
pub read_fails : {course : Course} {middle : Traffic} (now : Traffic) (self : MachineState)
    {rounds : ℕ} → IsGoing course middle self [] rounds → Appends middle.given now.given []
    → Appends middle.taken now.taken [] → Ends course now self (Err errors.Device)
unfolding DrivenSo
read_fails now self go gives takes =
    (go.end, ends_going (read_driven now go.driven gives takes) (link_fails refl refl))

-- A piece is taken,
pub taken_on : {course : Course} {middle now : Traffic} {self new : MachineState} {piece : List ℕ}
    {rounds : ℕ} {whole : Bool} → whole ≡ false → IsGoing course middle self piece rounds
    → MachineTakesPiece true middle now self new piece (Ok whole) → IsGoing course now new [] rounds
unfolding TakenSo
taken_on {course} {middle} {now} {self} {new} {piece} not go takes =
    let so = subst (λ (one : Bool). MachineTakesPiece true middle now self new piece
    (Ok one)) not takes
    course middle go.end go.driven in
    record { end = so.0; turns = omega (arith, go.turns, so.1); driven = so.2 }

-- up to the end of a response that is whole,
pub taken_whole : {course : Course} {middle : Traffic} (now : Traffic) {self : MachineState}
    (new : MachineState) (piece : List ℕ) {rounds : ℕ} {whole : Bool} → whole ≡ true
    → IsGoing course middle self piece rounds
    → MachineTakesPiece true middle now self new piece (Ok whole) → Ends course now new (Ok true)
unfolding TakenSo DrivenSo
taken_whole {course} {middle} now {self} new piece said go takes =
    let so = subst (λ (one : Bool). MachineTakesPiece true middle now self new piece
    (Ok one)) said takes
    course middle go.end go.driven in
    let driven : (unused : List ℕ) × IsDriven course now new so.0 unused nexts.Whole = so.2 in
    (so.0, driven)

-- or with it the machine ends.
pub taken_last : {course : Course} {middle : Traffic} (now : Traffic) {self : MachineState}
    (new : MachineState) (piece : List ℕ) {rounds : ℕ} (error : LinkError)
    → IsGoing course middle self piece rounds
    → MachineTakesPiece true middle now self new piece (Err error) → Ends course now new (Err error)
unfolding TakenSo DrivenSo
taken_last {course} {middle} now new piece error go takes =
    let so = takes course middle go.end go.driven in (so.0, so.2)

-- What the link gave of a buffer: nothing,
pub gives_none : (one two : Option (List ℕ)) (buffer : List ℕ) (count : ℕ) → count ≡ 0
    → Appends one two (take count buffer) → Appends one two []
gives_none one two buffer count none gives =
    subst (λ (n : ℕ). Appends one two (take n buffer)) none gives

-- or the first octets of what was lent to it.
pub gives_piece : (one two : Option (List ℕ)) (count size : ℕ) (buffer others octets : List ℕ)
    → octets ≡ take size (buffer ++ others) → length buffer ≡ size
    → Appends one two (take count buffer) → Appends one two (take count octets)
gives_piece one two count size buffer others octets is all gives =
    let same : octets ≡ buffer =
    is ∙ ap (λ (n : ℕ). take n (buffer ++ others)) (sym all) ∙ take-append_seam buffer others in
    rw same gives

-- A read with room that gives nothing has met the end of the input.
pub meets_end : (before : Bool) {now : Bool} {room count : ℕ}
    → now ≡ ended_after before room (Ok count) → count ≡ 0 → room ≡ 16384 → now ≡ true
meets_end before {count} is none all =
    is ∙ ap (λ (n : ℕ). ended_after before n (Ok count)) all ∙ ap
    (λ (n : ℕ). ended_after before 16384 (Ok n)) none

-- How often the link has failed doesn't depend on what else is answered.
pub failures_same : (A B : Type 0) (failures : ℕ) (error : LinkError)
    → failures_at_end {A = A} failures (Err error) ≡ failures_at_end {A = B} failures (Err error)
failures_same A B failures errors.Device = refl
failures_same A B failures error = refl
