-- Whether something that waits on a stream could be sent: those of the span are looked at in
-- rising order, as in a pump that has sent nothing.
use Rattle.h2_ends.proofs.Names
use Names.{◌≡◌, ◌≢◌, ◌↔◌, ℕ, ◌+◌, ◌-◌, ◌<◌, ◌≤◌, true, false, Bool, List, [], ◌∷◌, ◌++◌, length}
use Names.{Option, Some, None, refl, sym, ap, ◌∙◌, inl, inr, subst, length-drop, arith, both_ways}
use Names.{Field, Values, reader_room, Log, active, log_view, Conn, ConnRepresents, Token}
use Names.{FieldsToken, OctetToken, EndToken, End, Outgoing, Stream, Waiting, EndLog}
use Names.{tokens_waiting, IsStuckOn, HasRoom, EndRepresents, IsWaiting, kept_at, outgoing_in}
use Names.{IsNextIn, PumpGoes, keeps_of, trailers_tokens, IsOutgoing, option_map, drop_all}
use Rattle.h2_laws_pair.specs.Quiet.{NoneCouldGo, CouldGo}
use Rattle.std.proofs.Common.{map as each}
use Rattle.h2_ends.proofs.EndSteps.{outgoing_kept}
use Rattle.h2_ends.proofs.PumpCalls.{pump_begins, pump_comes, pump_passes, all_stuck}
use Rattle.h2_ends.proofs.PumpEnds.{by_end, stuck_unless_waiting}
use Rattle.h2_ends.proofs.PumpSteps.{next_kept, none_active}
use Rattle.h2_ends.proofs.PumpTokens.{octets_left, tail_kept, waiting_is_kept, some_octet}
use Rattle.h2_ends.proofs.PumpTokens.{stuck_waiting, trailers_left}
use Rattle.h2_ends.proofs.QuietRoom.{has_both, no_room_of_all, no_room_of_stream}
use Rattle.h2_ends.specs.declared.outgoing.Outgoing.TheVariants as outgoings

-- A stream isn't stuck that is active and where the next token could go.
could_go : (end : EndLog) (i : ℕ) (token : Token) (rest : List Token)
    → tokens_waiting end i ≡ token ∷ rest → active end.log i ≡ true → CouldGo end.log i token
    → IsStuckOn end i → ⊥
could_go end i token rest is alive could stuck =
    let none : NoneCouldGo end.log i (token ∷ rest) =
    subst (λ (tokens : List Token). NoneCouldGo end.log i tokens) is (stuck alive) in
    none could

-- Where no octets are left, the trailers come next,
trailers_next : (trailers : Option (List Field)) → trailers ≢ None
    → (list : List Field) × (trailers_tokens trailers ≡ FieldsToken list true ∷ [])
unfolding trailers_tokens
trailers_next None some = absurd (some refl)
trailers_next (Some list) some = (list, refl)

some_mapped : {A B : Type 0} (f : A → B) (some : Option A) → some ≢ None
    → option_map f some ≢ None
some_mapped f None is none = is refl
some_mapped f (Some x) is none = cc

trailers_go : (end : EndLog) (id : ℕ) (waiting : Waiting) → IsWaiting end id waiting
    → length waiting.body.items ≤ waiting.sent → active end.log id ≡ true → IsStuckOn end id → ⊥
trailers_go end id waiting waits none alive =
    let next = trailers_next (option_map (λ fields. fields.items) waiting.trailers)
    (some_mapped _ waiting.trailers (trailers_left end id waiting waits none)) in
    could_go end id (FieldsToken next.0 true) (EndToken ∷ [])
    (waiting_is_kept end id waiting waits
    ∙ ap (λ (octets : List ℕ). each OctetToken octets ++ tail_kept waiting)
    (drop_all waiting.sent waiting.body.items none)
    ∙ ap (λ (tokens : List Token). tokens ++ EndToken ∷ []) next.1) alive tt

-- else an octet, where there is room for it.
some_left : (waiting : Waiting) → waiting.sent < length waiting.body.items
    → length (octets_left waiting) ≢ 0
some_left waiting some none =
    let left = length-drop waiting.sent waiting.body.items in omega (arith, some, none, left)

octet_goes : (end : EndLog) (id : ℕ) (waiting : Waiting) → IsWaiting end id waiting
    → waiting.sent < length waiting.body.items → active end.log id ≡ true
    → HasRoom (reader_room (log_view end.log) 0) → HasRoom (reader_room (log_view end.log) id)
    → IsStuckOn end id → ⊥
octet_goes end id waiting waits some alive all here =
    let next = some_octet (octets_left waiting) (some_left waiting some) in
    could_go end id (OctetToken next.0) (each OctetToken next.1 ++ tail_kept waiting)
    (waiting_is_kept end id waiting waits
    ∙ ap (λ (octets : List ℕ). each OctetToken octets ++ tail_kept waiting) next.2) alive
    (has_both end.log id alive all here)

-- What `has_room` answers of any log that the connection represents.
abbrev pub ReadsRoom : Conn → ℕ → Bool → Type 0
ReadsRoom conn id room =
    (values : Values) (log : Log) → ConnRepresents values conn log
    → (room ≡ true) ↔ HasRoom (reader_room (log_view log) id)

-- What is kept of a stream, by what was found of it: a message that waits,
module _ (end : End) (id : ℕ) (stream : Stream)
    (here : Some stream ≡ kept_at id end.streams.entries) where
  module _ (waiting : Waiting) (waits : stream.outgoing ≡ outgoings.Waiting waiting)
      (values : Values) (happened : EndLog) (is : EndRepresents values end happened) where
    waits_here : active happened.log id ≡ true → IsWaiting happened id waiting
    unfolding IsOutgoing
    waits_here alive = elim (is.streams.streams id) [
      | inl over ↦ absurd (both_ways _ over.not_active alive)
      | inr kept ↦ subst (λ (outgoing : Outgoing). IsOutgoing happened id outgoing)
          (ap outgoing_in (sym here) ∙ waits)
          (outgoing_kept happened id (kept_at id end.streams.entries) kept)
    ]

    -- of which trailers could go, or octets,
    pub sends_trailers : length waiting.body.items ≤ waiting.sent
        → active happened.log id ≡ true → IsStuckOn happened id → ⊥
    sends_trailers none alive =
        trailers_go happened id waiting (waits_here alive) none alive

    module _ (some : waiting.sent < length waiting.body.items) where
      pub sends_octets : (all one : Bool) → ReadsRoom end.conn 0 all → ReadsRoom end.conn id one
          → all ≡ true → one ≡ true → active happened.log id ≡ true → IsStuckOn happened id → ⊥
      sends_octets all one reads_all reads_one all_is one_is alive =
          let conn = is.streams.conn in
          octet_goes happened id waiting (waits_here alive) some alive
          ((reads_all values happened.log conn).0 all_is)
          ((reads_one values happened.log conn).0 one_is)

      -- or octets without room, on the connection
      pub stuck_by_all : (all : Bool) → ReadsRoom end.conn 0 all → all ≡ false
          → happened.log.failed ≡ None → IsStuckOn happened id
      stuck_by_all all reads full up = λ alive.
          stuck_waiting happened id waiting (waits_here alive) (some_left waiting some)
          (no_room_of_all happened.log id up (λ room. both_ways _ full
          ((reads values happened.log is.streams.conn).1 room))) alive

      -- or on the stream;
      pub stuck_by_one : (one : Bool) → ReadsRoom end.conn id one → one ≡ false
          → happened.log.failed ≡ None → IsStuckOn happened id
      stuck_by_one one reads full up = λ alive.
          stuck_waiting happened id waiting (waits_here alive) (some_left waiting some)
          (no_room_of_stream happened.log id up alive (λ room. both_ways _ full
          ((reads values happened.log is.streams.conn).1 room))) alive

  -- or none.
  pub stuck_without : ((waiting : Waiting) → stream.outgoing ≢ outgoings.Waiting waiting)
      → (values : Values) (happened : EndLog) → EndRepresents values end happened
      → IsStuckOn happened id
  stuck_without none values happened is =
      stuck_unless_waiting values end.conn end.role (keeps_of end) happened id
      (by_end values end happened is.streams)
      (λ waiting waits. none waiting (ap outgoing_in here ∙ waits))

-- Nothing could go on streams below a number.
abbrev pub StuckTo : End → (id : ℕ) → Type 0
StuckTo end id =
    (values : Values) (happened : EndLog) → EndRepresents values end happened
    → happened.log.failed ≡ None → PumpGoes values happened 0 end happened id

-- The look begins at the span's first stream,
pub stuck_begins : (end : End) (last : ℕ) → last ≡ end.spans.waiting.first - 1
    → StuckTo end (last + 1)
stuck_begins end last first = λ values happened is up.
    subst (λ (n : ℕ). PumpGoes values happened 0 end happened (n + 1)) (sym first)
    (pump_begins values happened end is up)

-- passes the next active one, where nothing could go,
pub stuck_passes : (end : End) (last id : ℕ) → StuckTo end (last + 1)
    → IsNextIn end end.spans.waiting last (Some id)
    → ((values : Values) (happened : EndLog) → EndRepresents values end happened
    → happened.log.failed ≡ None → IsStuckOn happened id) → StuckTo end (id + 1)
stuck_passes end last id looked next stuck = λ values happened is up.
    pump_passes values happened 0 end.conn end.role end.spans (keeps_of end) happened id
    (pump_comes values happened 0 end happened last id (looked values happened is up)
    (next_kept end.spans end end.spans.waiting happened last id is.in_step is.active up next.0))
    (stuck values happened is up)

-- and ends where none of the span is left.
pub stuck_everywhere : (end : End) (last : ℕ) → StuckTo end (last + 1)
    → IsNextIn end end.spans.waiting last None → (values : Values) (happened : EndLog)
    → EndRepresents values end happened → happened.log.failed ≡ None
    → (i : ℕ) → IsStuckOn happened i
stuck_everywhere end last looked next = λ values happened is up.
    all_stuck values happened 0 end happened last (looked values happened is up) is.active
    (none_active end.spans end happened last end.spans.waiting is.in_step up next.1)

-- The stream that is looked at is active.
pub goes_there : (end : End) (last id : ℕ) → IsNextIn end end.spans.waiting last (Some id)
    → (values : Values) (happened : EndLog) → EndRepresents values end happened
    → (active happened.log id ≡ true → IsStuckOn happened id → ⊥)
    → (i : ℕ) × (IsStuckOn happened i → ⊥)
goes_there end last id next values happened is goes =
    (id, goes (is.active id next.0.kept))
