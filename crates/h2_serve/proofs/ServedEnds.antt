-- How a connection is served at its beginning and at its end.
use Rattle.h2_engines.proofs.Names
use Names.{◌≡◌, ◌<◌, ◌≤◌, ◌≢◌, ℕ, [], List, Ok, Err, Option, Some, None, Result, refl, sym, ◌∙◌, inl, inr}
use Names.{Appends-nil, Bool, true, false, Server, EndLog, EndRepresents, LinkError, Traffic}
use Names.{CutsOffAtEnd, EndsServing, IfErr, OnOk, failures_at_end, new_end_log, reader_held, ◌==◌}
use Names.{reader_next_live, ConnRepresents, Log, ap, nat_lt, or_left, and_from, subst}
use Rattle.std.proofs.Common.{is_some}
use Rattle.std.specs.Option.{option_map}
use Rattle.h2_spec_log.specs.Log.{reader_block_stream}
use Rattle.std.specs.Prelude.{MatchBool}
use Rattle.std.proofs.lemmas.Bool.{lt-ltb}
use Rattle.h2_host.specs.declared.party.Own.TheVariants as owns
use Rattle.h2_link.specs.Links.{ended_after, is_none_of}
use Rattle.h2_engines.specs.Serves.{IsAtRest, IsCutOff}
use Rattle.h2_engines.specs.ServerSteps.{FinishedSo}
use Rattle.h2_engines.proofs.MachineViews.{not_cut}
use Rattle.h2_engines.proofs.ResponderFinishes.{finishes_active, finishes_at_rest}
use Rattle.h2_link.specs.declared.error.LinkError.TheVariants as errors
use Rattle.h2_server.specs.declared.connection.Connection.{Connection}
use Rattle.h2_server.specs.declared.connection.Phase.TheVariants.{Open}
use Rattle.h2_server.specs.Connections.{Calls, input_kept}
use Rattle.h2_server.specs.Exchanges.{IsEmptied, Relations, handling_of}
use Rattle.h2_server.specs.Phases.{is_phase_down, is_phase_over}
use Rattle.h2_server.specs.Steps.{none}
use Rattle.h2_server.specs.Turns.{LosesSo}
use Rattle.h2_serve.specs.Endings.{CountsServed, IsErrorOf, IsInputCut, IsInputWhole}
use Rattle.h2_serve.specs.Endings.{IsOfDriving}
use Rattle.h2_serve.specs.Serving.{Beginning, HasServed, HasWritten, IsLost, IsServing}
use Rattle.h2_serve.specs.Serving.{StopsServingFor, handling_first, has_stopped, is_cut_off}
use Rattle.h2_serve.specs.Serving.{is_served}
use Rattle.h2_serve.proofs.AskedStreams.{answers_each}
use Rattle.h2_serve.proofs.CallsMade.{over_down}
use Rattle.h2_serve.proofs.HandedParts.{steps_heard}
use Rattle.h2_serve.proofs.Serving.{error_so, stops_so}
use Rattle.h2_serve.proofs.TurnsGiven.{none_queued}

-- It is served at first, with nothing read.
pub serving_first : {H W : Type 0} {rel : Relations H W} (begin : Beginning H)
    (connection : Connection H W)
    → EndRepresents begin.values connection.server.end (new_end_log Server begin.values)
    → handling_of connection.exchanges ≡ handling_first begin.handler
    → input_kept connection ≡ [] → connection.phase ≡ Open
    → IsServing rel begin begin.start connection
serving_first begin connection represents first kept phase = record {
  after = new_end_log Server begin.values;
  used = [];
  rest = [];
  given = [];
  loses = false;
  has = record { steps = rw first none };
  represents = represents;
  kept = inl (sym kept);
  closed = λ lost. absurd (cc);
  failing = rw phase (λ fails. absurd (cc));
  told = rw phase (λ down. absurd (cc));
  input = Appends-nil _;
  output = Appends-nil _;
}

-- A read with room that gives nothing has met the end of the input.
pub ends_input : (before : Bool) {now : Bool} (room : ℕ) {count : ℕ}
    → now ≡ ended_after before room (Ok count) → count ≡ 0 → 0 < room → now ≡ true
ends_input before room is nothing some =
    is ∙ ap (λ (n : ℕ). ended_after before room (Ok n)) nothing
    ∙ or_left (is_none_of room 0) before
    (and_from (nat_lt 0 room) (0 == 0) (lt-ltb 0 room some) refl)

-- What ends it while it is driven ends no input early,
driving_goes : (error : LinkError) → IsOfDriving error → error ≢ errors.CutOff
driving_goes errors.CutOff is same = is
driving_goes errors.Device is same = cc
driving_goes errors.Memory is same = cc
driving_goes errors.NoProgress is same = cc
driving_goes (errors.Stream number) is same = cc
driving_goes other is same = absurd is

pub driving_cut : (A : Type 0) (error : LinkError) (ended : Bool) → IsOfDriving error
    → CutsOffAtEnd {A = A} (Err error) ended
driving_cut A error ended is = not_cut A error ended (driving_goes error is)

-- and may end serving.
pub driving_ends : (error : LinkError) → IsOfDriving error → EndsServing error
driving_ends errors.Device is = tt
driving_ends errors.Memory is = tt
driving_ends errors.NoProgress is = tt
driving_ends (errors.Stream number) is = tt
driving_ends other is = absurd is

-- Where it ends well, the input has ended.
pub ends_well : (result : Result ℕ LinkError) (ended : Bool) → ended ≡ true
    → OnOk result (ended ≡ true)
ends_well (Ok count) ended at = at
ends_well (Err error) ended at = tt

-- So may the error of a connection that has ended, and N4, which ends the input early.
pub counted_cut : {H W : Type 0} (connection : Connection H W) (result : Result ℕ LinkError)
    (ended : Bool) → CountsServed connection result → ended ≡ true → CutsOffAtEnd result ended
counted_cut connection (Err errors.CutOff) ended is at = at
counted_cut connection result ended is at = tt

pub counted_ends : {H W : Type 0} (connection : Connection H W) (result : Result ℕ LinkError)
    → CountsServed connection result → IfErr result EndsServing
counted_ends connection (Ok count) is = tt
counted_ends connection (Err errors.CutOff) is = tt
counted_ends connection (Err errors.Memory) is = tt
counted_ends connection (Err (errors.Stream number)) is = tt
counted_ends connection (Err other) is = absurd is

-- No call of the link has failed by them.
pub counted_none : {H W : Type 0} (connection : Connection H W) (result : Result ℕ LinkError)
    (failures : ℕ) → CountsServed connection result → failures_at_end failures result ≡ failures
counted_none connection (Err errors.Device) failures is = absurd is
counted_none connection result failures is = refl

-- an end with a log
abbrev one_with : Log → EndLog
one_with log = record {
  log = log;
  accepted = [];
  handed = [];
  turn = record { id = 0; rest = 0 };
  malformed = None;
}

-- Whether the input of an end that is up has ended where it may not, by what it answers of itself.
pub cut_off_so : (log : Log) (held : ℕ) (next : Option ℕ) (some : Bool) → held ≡ reader_held log
    → held ≤ 0 → next ≡ reader_next_live log 0 → some ≡ is_some next → log.failed ≡ None
    → MatchBool some (IsCutOff log) (IsAtRest log)
unfolding FinishedSo
cut_off_so log held next true holds few lives is up =
    (finishes_active (one_with log) 0 lives (sym is)).1 up
cut_off_so log held next false holds few lives is up =
    (finishes_at_rest (one_with log) 0 holds lives few (sym is)).1 up

-- No block has begun where none is answered.
block_none : {A : Type 0} (stream : A → ℕ) (begun : Option A)
    → false ≡ is_some (option_map stream begun) → begun ≡ None
block_none stream None is = refl
block_none stream (Some one) is = absurd (cc)

-- It has ended where it may not inside a field block too.
pub block_so : (log : Log) (block : Option ℕ) (some : Bool) → block ≡ reader_block_stream log
    → some ≡ is_some block → log.failed ≡ None → IsAtRest log
    → MatchBool some (IsInputCut log) (IsInputWhole log)
block_so log block true is some up rests =
    inr (
      up,
      λ none. let at : reader_block_stream log ≡ None = rw (up, none) refl in
          let wrong : true ≡ is_some block = some in absurd (cc),
    )
block_so log block false is some up rests =
    record {
      rests = rests;
      no_block = block_none (λ begun. begun.stream) log.begun (rw up at (rw is at some));
    }

module _ {H W : Type 0} {rel : Relations H W} {begin : Beginning H} {now : Traffic}
    (connection lost : Connection H W) (is : HasWritten rel begin now connection)
    (ends : IsLost rel connection lost) where
  -- What the connection answers of itself is so of what has happened at it.
  conn_is : ConnRepresents begin.values connection.server.end.conn is.serving.after.log
  conn_is = is.serving.represents.streams.conn

  -- It has ended with an error,
  served_stops : (error : LinkError) → IsErrorOf connection error
      → HasServed rel begin now (Err error)
  served_stops error so =
      has_stopped connection lost error
      (stops_so error is.serving
      (subst (λ (untaken : List ℕ). StopsServingFor now is.serving.after connection untaken error)
      (sym (none_queued connection.server.end.conn conn_is is.all))
      (error_so begin.values now connection error so is.serving.after is.serving.represents)))
      ends

  -- or its input has.
  pub has_served : (result : Result ℕ LinkError) → CountsServed connection result
      → HasServed rel begin now result
  has_served (Ok count) (counted, rests) =
      let after = is.serving.after in
      let at_rest = rests begin.values after.log conn_is in
      let (role, heard) = steps_heard begin.values is.serving.has.steps in
      rw counted (is_served connection lost is ends at_rest
      (answers_each is.serving.represents role at_rest.rests.up at_rest.rests.none_active heard))
  has_served (Err errors.CutOff) cut =
      is_cut_off connection lost is ends (cut begin.values is.serving.after.log conn_is)
  has_served (Err error) so = served_stops error so

-- It was lost, so each of its exchanges is over.
pub is_lost : {H W : Type 0} {rel : Relations H W} (connection lost : Connection H W)
    → Calls rel owns.Lost [] connection lost → LosesSo rel connection lost
    → is_phase_over lost.phase ≡ true
    → (is_phase_down connection.phase ≡ true → IsEmptied (handling_of connection.exchanges))
    → IsLost rel connection lost
is_lost connection lost calls loses over told =
    record { calls = calls; loses = loses; told = calls.told told (over_down lost.phase over) }
