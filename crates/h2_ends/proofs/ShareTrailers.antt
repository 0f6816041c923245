-- What each share makes of an end, and what one does where no octets are left.
use Rattle.h2_ends.proofs.Names
use Names.{◌≡◌, ◌≢◌, ◌⊎◌, inl, inr, ℕ, ◌-◌, ◌≤◌, true, List, [], ◌∷◌, length, Option, Some, None}
use Names.{refl, sym, ap, ◌∙◌, arith, min, length-drop, Values, Act, Answer, IsTypedAct}
use Names.{SendFields, Done, Refused, active, waiting, Log, Refusal, Conn, ConnAnswers, End}
use Names.{Stream, Waiting, SendState, Sent, Stuck, Full, EndLog, Result, Ok, StopsBy}
use Names.{end_after_call, with_outgoing, keeps_of, KeepsOne, EndRepresents, WaitsAsBefore}
use Names.{outgoing_in, option_map, Field, LacksSpace, subst, Vec, Global}
use Rattle.h2_numbers.specs.Entries.{NumberEntries}
use Rattle.h2_numbers.specs.Lends.{WritesThrough}
use Rattle.h2_ends.specs.declared.passing.Pass.{Pass}
use Rattle.h2_ends.specs.Passes.{Waits, Halt, Stopped, shares_trailers, list_refused, IsNoError}
use Rattle.h2_ends.specs.Passes.{rest_of}
unfoldable use Rattle.h2_ends.specs.Passing.{IsShared}
use Rattle.h2_ends.specs.Passing.{GivesShare, HasShare, SendsShare, stream_left, IsSamePass}
use Rattle.h2_ends.proofs.PumpEnds.{keeps_here, keeps_other}
use Rattle.h2_ends.proofs.PumpTokens.{octets_left, trailers_wait, trailers_left, waiting_is_kept}
use Rattle.h2_ends.proofs.PumpTokens.{some_kept, trailers_fit, waiting_goes_on}
use Rattle.h2_ends.proofs.PumpWindows.{fields_wait, fields_failed, refused_waits, refused_failed}
use Rattle.h2_ends.proofs.RequestSteps.{refused_fields_keep}
use Rattle.h2_ends.proofs.SendingStreams.{with_streams, written}
use Rattle.h2_ends.proofs.ShareSteps.{waiting_here, list_goes, share_refused}
use Rattle.h2_ends.specs.declared.outgoing.Outgoing.TheVariants as outgoings
use Rattle.h2_ends.proofs.PumpRefusals as refused

-- What the end keeps once a stream was written.
pub keeps_written : (old : End) (conn : Conn) (streams : NumberEntries Stream) (id : ℕ)
    (one stream : Stream) → keeps_of old id ≡ Some one
    → WritesThrough id old.streams stream streams
    → KeepsOne old (with_streams old conn streams) id (Some stream)
keeps_written old conn streams id one stream here writes =
    record {
      one = written old.streams streams id one stream id here writes
          ∙ keeps_here (keeps_of old) id stream;
      others = λ i other. written old.streams streams id one stream i here writes
          ∙ keeps_other (keeps_of old) id stream i other;
    }

-- What the share has left is what the pass says, where it ended there.
pub rest_by : (halt stop : Halt) (rest : ℕ) → rest ≡ rest_of halt → Some halt ≡ Some stop
    → rest ≡ rest_of stop
rest_by halt stop rest is same = is ∙ ap rest_of (let one : halt ≡ stop = cc in one)

-- A call was refused: the pass ends there.
pub stopped_at : (values : Values) (happened : EndLog) (id : ℕ) (pass then : Pass)
    (refusal : Refusal) (result : Result SendState Refusal) → StopsBy refusal result → (new : End)
    (after : EndLog) (log : Log) (rest : ℕ)
    → HasShare happened id pass then (Some (Stopped refusal rest)) after
    → EndRepresents values new after → LacksSpace log refusal
    → IsShared values happened id pass result new then after
unfolding IsShared IsNoError
stopped_at values happened id pass then refusal result (inl (full, is)) new after log rest has
    represents lacks = rw is (Stopped refusal rest, has, full, represents)
stopped_at values happened id pass then refusal result (inr (other, is)) new after log rest has
    represents (inl (full, wait)) = absurd (other full)
stopped_at values happened id pass then refusal result (inr (other, is)) new after log rest has
    represents (inr memory) = rw is (rest, has, memory, represents)

module _ (old : End) (id : ℕ) (pass then : Pass) (stream : Stream) (waits : Waiting)
    (here : keeps_of old id ≡ Some stream) (outgoing : stream.outgoing ≡ outgoings.Waiting waits)
    (goes : IsSamePass pass then) (left : then.left ≡ pass.left) where
  -- Something waits.
  pub waits_now : (values : Values) (happened : EndLog) → EndRepresents values old happened
      → active happened.log id ≡ true → Waits happened id
  waits_now values happened is alive =
      record {
        active = alive;
        some = λ none.
            let kept = waiting_is_kept happened id waits
            (waiting_here values old happened id stream waits is here alive outgoing) in
            let some = some_kept waits in
            let wrong : [] ≡ some.0 ∷ some.1 = sym none ∙ kept ∙ some.2 in cc;
      }

  as_before : (conn : Conn) (streams : NumberEntries Stream) (next : Stream)
      → WritesThrough id old.streams next streams
      → WaitsAsBefore old (with_streams old conn streams) id
  as_before conn streams next writes =
      record {
        spans = refl;
        others = (keeps_written old conn streams id stream next here writes).others;
      }

  -- The other streams are as they were: what is left to show is what holds of this one.
  pub gives : (conn : Conn) (streams : NumberEntries Stream) (next : Stream)
      (result : Result SendState Refusal)
      → WritesThrough id old.streams next streams
      → ((values : Values) (happened : EndLog) → EndRepresents values old happened
      → happened.log.failed ≡ None → active happened.log id ≡ true
      → pass.count ≤ waiting happened.log
      → (after : EndLog) × IsShared values happened id pass result (with_streams old conn streams)
      then after) → GivesShare old id pass result (with_streams old conn streams) then
  gives conn streams next result writes shared =
      record {
        waits = as_before conn streams next writes;
        same = goes;
        left = left;
        shared = shared;
      }

  -- No octets are left.
  module _ (none : length waits.body.items ≤ waits.sent) (same : then.count ≡ pass.count) where
    -- So trailers are.
    pub nothing_left : (conn : Conn) (streams : NumberEntries Stream) (next : Stream)
        → waits.trailers ≡ None → WritesThrough id old.streams next streams
        → GivesShare old id pass (Ok Sent) (with_streams old conn streams) then
    nothing_left conn streams next no_trailers writes =
        gives conn streams next (Ok Sent) writes (λ values happened is up alive few.
        absurd (trailers_left happened id waits
        (waiting_here values old happened id stream waits is here alive outgoing) none
        no_trailers))

    module _ (list : List Field) (typed : IsTypedAct (SendFields id list true))
        (are : option_map (λ one. one.items) waits.trailers ≡ Some list) (conn : Conn)
        (streams : NumberEntries Stream) where
      no_octets : length (octets_left waits) ≡ 0
      no_octets =
          let is_left = length-drop waits.sent waits.body.items in omega (arith, is_left, none)

      -- They were sent,
      pub list_sent : ConnAnswers old.conn (SendFields id list true) Done conn
          → WritesThrough id old.streams (with_outgoing stream outgoings.Sent)
          streams → GivesShare old id pass (Ok Sent) (with_streams old conn streams) then
      unfolding IsShared
      list_sent answers writes =
          gives conn streams _ (Ok Sent) writes (λ values happened is up alive few.
          let act = SendFields id list true in
          let both = answers values happened.log is.streams.conn in
          let keeps = keeps_written old conn streams id stream _ here writes in
          let waiting_is = waiting_here values old happened id stream waits is here alive outgoing
          in
          let more = fields_wait happened.log id list true
          is.streams.conn.machine.output.given in (
            end_after_call happened act Done,
            (
              record {
                waits = waits_now values happened is alive;
                sent = 0;
                shares = shares_trailers happened list typed
                    (trailers_wait happened id waits list waiting_is no_octets are) both.0;
                rest = λ stop none. cc;
                sum = omega (arith, same);
                few = omega (arith, same, few, more);
                up = fields_failed happened.log id list true ∙ up;
              },
              none_sent keeps.one,
              list_goes values old (with_streams old conn streams) happened id stream waits is here
                  alive outgoing refl refl list no_octets are both.0 both.1 keeps,
            ),
          ))
        where
          none_sent : {kept : Option Stream} → kept ≡ Some (with_outgoing stream outgoings.Sent)
              → (other : Waiting) → outgoing_in kept ≢ outgoings.Waiting other
          none_sent same other is = cc

      -- or refused.
      pub list_is_stopped : (refusal : Refusal) (result : Result SendState Refusal)
          → StopsBy refusal result → then.rest ≡ 0 → ConnAnswers old.conn
          (SendFields id list true) (Refused refusal) conn → WritesThrough id old.streams
          (with_outgoing stream (outgoings.Waiting waits)) streams
          → GivesShare old id pass result (with_streams old conn streams) then
      list_is_stopped refusal result stops none_left_of answers writes =
          gives conn streams _ result writes (λ values happened is up alive few.
          let act = SendFields id list true in
          let after = end_after_call happened act (Refused refusal) in
          let both = answers values happened.log is.streams.conn in
          let keeps = keeps_written old conn streams id stream _ here writes in
          let waiting_is = waiting_here values old happened id stream waits is here alive outgoing
          in
          let kept_on = refused_waits happened.log act refusal in (
            after,
            stopped_at values happened id pass then refusal result stops
                (with_streams old conn streams) after _ 0 (record {
                  waits = waits_now values happened is alive;
                  sent = 0;
                  shares = list_refused happened list refusal typed
                      (trailers_wait happened id waits list waiting_is no_octets are) both.0;
                  rest = λ stop is_that. rest_by
                      (Stopped refusal 0) stop then.rest none_left_of is_that;
                  sum = omega (arith, same);
                  few = omega (arith, same, few, kept_on);
                  up = refused_failed happened.log act refusal ∙ up;
                }) (share_refused values old (with_streams old conn streams) happened id stream
                waits is here alive outgoing refl refl act refusal both.0 both.1 keeps
                (λ i. refused_fields_keep i id list true refusal))
                (refused.fields_refused happened.log id list true refusal up alive
                (waiting_goes_on _ values happened id waits is.streams.conn.machine.came
                waiting_is) (trailers_fit happened id waits list waiting_is are) both.0),
          ))

-- What sending is said to make of a state that is the same.
pub sent_as : (conn new : Conn) (id : ℕ) (waits left : Waiting) (pass then : Pass)
    (state other : SendState) → state ≡ other
    → SendsShare conn id waits pass (Ok state) new left then
    → SendsShare conn id waits pass (Ok other) new left then
sent_as conn new id waits left pass then state other same sends =
    subst (λ (s : SendState). SendsShare conn id waits pass (Ok s) new left then) same sends

-- Where a call was refused, what is left of the message is kept.
pub as_left : (old : End) (id : ℕ) (pass then : Pass) (conn : Conn) (stream : Stream)
    (lend : Stream → NumberEntries Stream) (refusal : Refusal) (result : Result SendState Refusal)
    (waits : Waiting) → StopsBy refusal result
    → GivesShare old id pass result
    (with_streams old conn (lend (with_outgoing stream (outgoings.Waiting waits)))) then
    → GivesShare old id pass result
    (with_streams old conn (lend (stream_left stream result waits))) then
as_left old id pass then conn stream lend refusal result waits (inl (full, is)) gives =
    rw is (rw is at gives)
as_left old id pass then conn stream lend refusal result waits (inr (other, is)) gives =
    rw is (rw is at gives)

-- What the tests say of numbers of octets.
pub all_by : {size n : ℕ} → (most : ℕ) (rest left part whole : List ℕ) → size ≤ n
    → size ≡ min (length rest) most → length whole ≡ min most (length left)
    → length rest ≡ length left → n ≤ length part → length part ≡ length whole
    → n ≡ length whole
all_by most rest left part whole few least size same within is_part = omega
    (arith, few, least, size, same, within, is_part)

-- The trailers are the same.
pub trailers_as : {one other : Option (Vec Field Global)} → {list : List Field} → one ≡ other
    → option_map (λ fields. fields.items) other ≡ Some list
    → option_map (λ fields. fields.items) one ≡ Some list
trailers_as same are = rw same are

-- So it is where fewer octets went than a share has.
pub as_state : (old : End) (id : ℕ) (pass then : Pass) (conn : Conn) (stream : Stream)
    (lend : Stream → NumberEntries Stream) (state : SendState) (waits : Waiting)
    → (state ≡ Full) ⊎ (state ≡ Stuck) → GivesShare old id pass (Ok state)
    (with_streams old conn (lend (with_outgoing stream (outgoings.Waiting waits)))) then
    → GivesShare old id pass (Ok state)
    (with_streams old conn (lend (stream_left stream (Ok state) waits))) then
as_state old id pass then conn stream lend state waits (inl full) gives =
    rw full (rw full at gives)
as_state old id pass then conn stream lend state waits (inr stuck) gives =
    rw stuck (rw stuck at gives)

-- Of the same connection the same is answered.
pub for_conn : {one other : Conn} → (new : Conn) → {act : Act} → {answer : Answer} → one ≡ other
    → ConnAnswers other act answer new → ConnAnswers one act answer new
for_conn new same answers = rw same answers
