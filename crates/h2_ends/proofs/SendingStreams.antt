-- One stream of a pump: what the end keeps of it is written back once sending on it stops.
use Rattle.h2_ends.proofs.Names
use Names.{◌≡◌, ◌≢◌, inl, inr, ℕ, ◌==◌, Bool, true, Option, Some, ◌+◌, ◌≤◌, if◌then◌else◌, refl}
use Names.{sym, ap, ◌∙◌, subst, cases_eq, nat_eq, nat_eq_equiv, Refusal, OutputFull}
use Names.{Memory, Values, full_output, active, waiting, Conn, End, Stream, Waiting, SendState}
use Names.{Idle, Sent, Stuck, Full, EndLog, IsStuckOn, IsInStep, KeepsActive, outgoing_in}
use Names.{with_outgoing, keeps_with, IsPumping, IsStopped, LacksSpace, KeepsActiveOnly}
use Names.{KeepsActiveBut, Sends, PumpsOn, PumpGoes, NoneWaits, WaitsAsBefore, keeps_of, HasGone}
use Names.{HasPumped, IsPumped, Result, Ok, Err, kept_at}
use Rattle.h2_numbers.specs.Entries.{NumberEntries}
use Rattle.h2_numbers.specs.Lends.{WritesThrough}
use Rattle.h2_ends.proofs.PumpCalls.{pump_keeps, pump_passes}
use Rattle.h2_ends.proofs.PumpEnds.{same_by, stuck_unless_waiting, to_end}
use Rattle.h2_ends.proofs.PumpSends.{send_begins, sent_is_stuck, none_waits_sent}
use Rattle.h2_ends.specs.declared.outgoing.Outgoing.TheVariants as outgoings

-- A number is found by its own test.
test_of : (id i : ℕ) → nat_eq id i ≡ (i == id)
test_of id i = nat_eq_equiv.symm id i

-- What the map keeps once a stream was written through what it lent.
pub written : (old new : NumberEntries Stream) (id : ℕ) (one stream : Stream) (i : ℕ)
    → kept_at id old.entries ≡ Some one → WritesThrough id old stream new
    → kept_at i new.entries ≡ keeps_with (λ j. kept_at j old.entries) id stream i
written old new id one stream i here writes =
    writes.changes (rw here refl) i
    ∙ ap (λ (b : Bool). if b then Some stream else kept_at i old.entries) (test_of id i)

-- It keeps the same if that is what was there.
pub unwritten : (old new : NumberEntries Stream) (id : ℕ) (one : Stream) (i : ℕ)
    → kept_at id old.entries ≡ Some one → WritesThrough id old one new
    → kept_at i new.entries ≡ kept_at i old.entries
unwritten old new id one i here writes =
    written old new id one one i here writes
    ∙ sym (same_by (λ j. kept_at j old.entries) id one i (i == id) refl here)

-- an end with another connection and other streams
abbrev pub with_streams : End → Conn → NumberEntries Stream → End
with_streams end conn streams = record end { conn = conn; streams = streams }

-- Where the same is kept, messages wait as before.
pub all_as : (old : End) (conn : Conn) (streams : NumberEntries Stream) (id : ℕ)
    → ((i : ℕ) → kept_at i streams.entries ≡ keeps_of old i)
    → WaitsAsBefore old (with_streams old conn streams) id
all_as old conn streams id same = record { spans = refl; others = λ i other. same i }

module _ (old : End) (id count : ℕ) where
  -- On a stream on which nothing waits, nothing could go.
  pub none_goes : (streams : NumberEntries Stream)
      → ((i : ℕ) → kept_at i streams.entries ≡ keeps_of old i) → NoneWaits old id
      → PumpsOn old id count (Ok Idle) (with_streams old old.conn streams) count
  unfolding HasPumped
  none_goes streams same other = λ values start happened is active alive.
      let keeps = keeps_of old in
      let keeps_now = keeps_of (with_streams old old.conn streams) in
      let stuck = stuck_unless_waiting values old.conn old.role keeps happened id is.represents
      other in
      let passes = pump_passes values start count old.conn old.role old.spans keeps happened id is
      stuck in (
        happened,
        (
          pump_keeps values start count old.conn old.role old.spans keeps keeps_now happened
              (id + 1) passes same,
          λ i. subst (λ (x : Option Stream). KeepsActive happened.log x i) (sym (same i))
              (active i),
          λ waits waiting_is. other waits (ap outgoing_in (sym (same id)) ∙ waiting_is),
        ),
      )

  module _ (stream : Stream) (waits : Waiting) (here : keeps_of old id ≡ Some stream)
      (waiting_is : stream.outgoing ≡ outgoings.Waiting waits) (conn : Conn) (left : Waiting)
      (sum : ℕ) (streams : NumberEntries Stream) where
    -- what the end is then
    abbrev new_end : End
    new_end = with_streams old conn streams

    -- Another stream was written through what the map lent.
    abbrev pub Writes : Stream → Type 0
    Writes other = WritesThrough id old.streams other streams

    written_so : (other : Stream) → Writes other → (i : ℕ)
        → keeps_of new_end i ≡ keeps_with (keeps_of old) id other i
    written_so other writes i = written old.streams streams id stream other i here writes

    -- What waits is sent,
    goes_on : (result : Result SendState Refusal)
        → Sends old.conn id waits count result conn left sum
        → (values : Values) (start happened : EndLog)
        → PumpGoes values start count old happened id
        → KeepsActiveOnly happened.log (keeps_of old) → active happened.log id ≡ true
        → (after : EndLog)
        × HasGone values start old.role old.spans (keeps_of old) id stream result sum conn after
        left
    goes_on result sends values start happened is keeps_active alive =
        sends values start old.role old.spans (keeps_of old) stream happened
        (send_begins values start old.role old.spans (keeps_of old) id stream count old.conn
        happened waits is keeps_active here waiting_is alive)

    -- What sending answered is that.
    at_that : (progress other : SendState) → progress ≡ other
        → Sends old.conn id waits count (Ok progress) conn left sum
        → Sends old.conn id waits count (Ok other) conn left sum
    at_that progress other same sends =
        subst (λ (p : SendState). Sends old.conn id waits count (Ok p) conn left sum) same sends

    -- The pump passes the stream, on which nothing could go.
    passes_on : (keeps : ℕ → Option Stream) (values : Values) (start after : EndLog)
        → ((i : ℕ) → keeps_of new_end i ≡ keeps i)
        → IsPumping values start sum conn old.role old.spans keeps after id
        → IsStuckOn after id → PumpGoes values start sum new_end after (id + 1)
    passes_on keeps values start after same is stuck =
        pump_keeps values start sum conn old.role old.spans keeps (keeps_of new_end) after
        (id + 1) (pump_passes values start sum conn old.role old.spans keeps after id is stuck)
        same

    -- What is kept is of active streams but this one, or of these alone.
    others_keep : (keeps : ℕ → Option Stream) (after : EndLog)
        → ((i : ℕ) → keeps_of new_end i ≡ keeps i) → KeepsActiveBut after.log keeps id
        → KeepsActiveBut after.log (keeps_of new_end) id
    others_keep keeps after same is = λ i other.
        subst (λ (x : Option Stream). KeepsActive after.log x i) (sym (same i)) (is i other)

    all_keep : (after : EndLog) → KeepsActiveBut after.log (keeps_of new_end) id
        → active after.log id ≡ true → KeepsActiveOnly after.log (keeps_of new_end)
    all_keep after is alive = λ i. elim (cases_eq i id) [
      | inl same ↦ λ some. subst (λ (j : ℕ). active after.log j ≡ true) (sym same) alive
      | inr other ↦ is i other
    ]

    -- all of it,
    pub all_goes : (progress : SendState) → progress ≡ Sent
        → Sends old.conn id waits count (Ok progress) conn left sum
        → Writes (with_outgoing stream outgoings.Sent) → PumpsOn old id count (Ok Sent) new_end sum
    unfolding HasGone HasPumped
    all_goes progress is_that sends writes = λ values start happened is keeps_active alive.
        let same = written_so _ writes in
        let keeps = keeps_with (keeps_of old) id (with_outgoing stream outgoings.Sent) in
        let (after, gone) = goes_on (Ok Sent) (at_that progress Sent is_that sends)
        values start happened is keeps_active alive in (
          after,
          (
            passes_on keeps values start after same gone.pumping
                (sent_is_stuck values start old.role old.spans (keeps_of old) id stream sum conn
                after gone),
            others_keep keeps after same gone.others,
            λ other waiting_is. none_waits_sent values start old.role old.spans (keeps_of old) id
                stream other (ap outgoing_in (sym (same id)) ∙ waiting_is),
          ),
        )

    module _ (writes : Writes (with_outgoing stream (outgoings.Waiting left))) where
      -- or some, and no more can go,
      pub some_goes : (progress : SendState) → progress ≡ Stuck
          → Sends old.conn id waits count (Ok progress) conn left sum
          → PumpsOn old id count (Ok Stuck) new_end sum
      unfolding HasGone HasPumped
      some_goes progress is_that sends = λ values start happened is keeps_active alive.
          let keeps = keeps_with (keeps_of old) id (with_outgoing stream (outgoings.Waiting left))
          in
          let same = written_so _ writes in
          let (after, gone) = goes_on (Ok Stuck) (at_that progress Stuck is_that sends)
          values start happened is keeps_active alive in (
            after,
            (
              passes_on keeps values start after same gone.0.pumping gone.1,
              all_keep after (others_keep keeps after same gone.0.others) gone.0.alive,
            ),
          )

      pumped : (values : Values) (start after : EndLog) (refusal : Refusal)
          → IsStopped values start old.role old.spans (keeps_of old) id stream sum conn after
          left refusal → IsPumped values start sum refusal new_end after
      pumped values start after refusal is =
          record {
            represents = record {
              streams = to_end values new_end _ after is.represents (written_so _ writes);
              in_step = λ i. subst (λ (x : Option Stream). IsInStep old.spans x after i)
                  (sym (written_so _ writes i)) (is.in_step i);
              active = λ i. subst (λ (x : Option Stream). KeepsActive after.log x i)
                  (sym (written_so _ writes i)) (is.active i);
            };
            calls = is.calls;
          }

      -- or the output is full,
      pub full_there : (progress : SendState) → progress ≡ Full
          → Sends old.conn id waits count (Ok progress) conn left sum
          → PumpsOn old id count (Ok Full) new_end sum
      unfolding HasGone HasPumped
      full_there progress is_that sends = λ values start happened is keeps_active alive.
          let (after, gone) = goes_on (Ok Full) (at_that progress Full is_that sends)
          values start happened is keeps_active alive in
          (after, (pumped values start after OutputFull gone, is_full after gone.lacks))
        where
          is_full : (after : EndLog) → LacksSpace after.log OutputFull
              → full_output ≤ waiting after.log
          is_full after (inl (is, full)) = full
          is_full after (inr wrong) = cc

      -- or memory was refused.
      pub memory_lacks : (refusal : Refusal)
          → Sends old.conn id waits count (Err refusal) conn left sum
          → PumpsOn old id count (Err refusal) new_end sum
      unfolding HasGone HasPumped
      memory_lacks refusal sends = λ values start happened is keeps_active alive.
          let (after, gone) = goes_on (Err refusal) sends values start happened is keeps_active
          alive in
          (after, (pumped values start after refusal gone.0, is_memory after gone.0.lacks gone.1))
        where
          is_memory : (after : EndLog) → LacksSpace after.log refusal → refusal ≢ OutputFull
              → refusal ≡ Memory
          is_memory after (inl (is, full)) other = absurd (other is)
          is_memory after (inr is) other = is

    -- Sending on a stream does not answer that nothing waited.
    pub not_idle : (progress : SendState) → progress ≡ Idle
        → Sends old.conn id waits count (Ok progress) conn left sum
        → PumpsOn old id count (Ok Idle) new_end sum
    unfolding HasGone
    not_idle progress is_that sends = λ values start happened is keeps_active alive.
        let (after, gone) = goes_on (Ok Idle) (at_that progress Idle is_that sends)
        values start happened is keeps_active alive in absurd gone

-- Nothing waits where something else is kept.
pub other_here : (old : End) (id : ℕ) (one : Stream) → keeps_of old id ≡ Some one
    → ((waits : Waiting) → one.outgoing ≢ outgoings.Waiting waits) → NoneWaits old id
other_here old id one kept other waits waiting_is =
    other waits (sym (ap outgoing_in kept) ∙ waiting_is)
