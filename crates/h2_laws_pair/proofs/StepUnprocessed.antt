-- Streams that are named unprocessed: where a call of `take` reports nothing, none is left; and no
-- other call leaves one.
use Rattle.h2_laws_log.proofs.NextStreams.{least_passes}
use Rattle.std.proofs.lemmas.Bool.{true_from_ne_false, false_from_ne_true}
use Rattle.std.proofs.lemmas.List.{append_cancel_right}
use Rattle.h2_spec_log.specs.Log.{goaway_read}
use Rattle.h2_spec_log.specs.LogCalls.{lacks, fails}
use Rattle.h2_laws_log.proofs.CallConditions.{neither_other}
use Rattle.h2_laws_log.proofs.LogViewLemmas.{when_some}
use Rattle.h2_laws_log.proofs.LogInvariant.{active_before}
use Rattle.h2_laws_log.proofs.StreamNumbers.{last_none, next_of}
use Rattle.h2_laws_end.specs.Takes.{TakeAnswer, Took, MayTake, has_failed, reports_unprocessed}
use Rattle.h2_laws_end.specs.Takes.{ends_no_frame, ends_frame, meets_fault, runs_out_of_memory}
use Rattle.h2_laws_end.proofs.OverCalls.{items_no_block}
use Rattle.h2_laws_end.proofs.OverLists.{IsInactive, inactive_sent, inactive_reported}
use Rattle.h2_laws_end.proofs.OverNumbers.{fields_active}
use Rattle.h2_laws_end.proofs.OverSteps.{Holds, HoldsRead, call_keeps, take_keeps}
use Rattle.h2_laws_pair.proofs.Names
use Names.{◌≡◌, ◌≢◌, ◌<◌, ◌≤◌, ℕ, zero, suc, ◌==◌, nat_lt, ◌&&◌, Bool, true, false, List, [], ◌∷◌}
use Names.{◌++◌, Option, None, refl, sym, ap, ◌∙◌, arith, ltb-false, list_any, both_ways, and_parts}
use Names.{ltb-true, ne_eqb, Field, Code, GoAway, Item, alone, Role, Client, Server, Act, Answer}
use Names.{Open, SendFields, Number, Done, Event, is_block_on, is_server, Log, active}
use Names.{next_unprocessed, least_goaway, View, log_view, Verdict, ConnectionFault, StreamFault}
use Names.{NoEvent, Reported, Decoded, FrameStep, frame_step, verdict_by_rules, events_of}
use Names.{conditions, used, with_step, with_frame, with_call, MayAnswer, accepts, refuses}
use Names.{none_holds, grows_call, fails_down, active_parts, Says, says_of, says_any, least_block}
use Names.{greatest_number}
use Rattle.h2_laws_pair.proofs.NamedUnprocessed.{none_above}
use Rattle.h2_laws_pair.proofs.FrameSteps.{has_item, kept_by_step}

-- A number that can't be other than 0 is 0.
none_if : (n : ℕ) → (n ≢ 0 → ⊥) → n ≡ 0
none_if zero none = refl
none_if (suc n) none = absurd (none (λ is. absurd (omega (arith, is))))

-- The least last stream stays, and whatever is active above it at a client was so before.
pub record KeepsReported (old new : Log) : Type 0 where
  pub role : new.role ≡ old.role
  pub least : least_goaway new.received ≡ least_goaway old.received
  pub active : old.role ≡ Client → (i : ℕ) → least_goaway old.received < i
      → active new i ≡ true → active old i ≡ true

-- Where none was left to report, none is.
pub none_left : (old new : Log) → KeepsReported old new → next_unprocessed old ≡ 0
    → next_unprocessed new ≡ 0
unfolding next_unprocessed
none_left old new keeps none = none_if _ (λ some.
    let both = next_of new.role _ some in
    let client : old.role ≡ Client = sym keeps.role ∙ both.0 in
    let i : ℕ = least_block (λ j. active new j && nat_lt (least_goaway new.received) j) new.sent in
    let passes = and_parts _ _ (least_passes (λ j. active new j && nat_lt
    (least_goaway new.received) j) new.sent both.1) in
    let high : least_goaway old.received < i =
    rw (← keeps.least) (ltb-true (least_goaway new.received) i passes.1) in
    none_above old i client none high (keeps.active client i high passes.0))

-- At a client a stream that isn't active stays so:
abbrev IsInactiveAtClient : ℕ → Role → List Item → List Item → List Event → Type 0
IsInactiveAtClient i role received sent reported =
    (role ≡ Client) × IsInactive i role received sent reported

-- where items are written without a block on it,
client_sent : (i : ℕ) (role : Role) (received sent : List Item) (reported : List Event)
    (items : List Item) → list_any (is_block_on i) items ≡ false
    → IsInactiveAtClient i role received sent reported
    → IsInactiveAtClient i role received (items ++ sent) reported
client_sent i role received sent reported items none (client, is) =
    (client, inactive_sent i role received sent reported items none is)

-- where events are reported,
client_reported : (i : ℕ) (role : Role) (received sent : List Item) (reported events : List Event)
    → IsInactiveAtClient i role received sent reported
    → IsInactiveAtClient i role received sent (events ++ reported)
client_reported i role received sent reported events (client, is) =
    (client, inactive_reported i role received sent reported events is)

-- and where an item is read.
client_read : (i : ℕ) (role : Role) (item : Item) (received sent : List Item)
    (reported : List Event) → IsInactiveAtClient i role received sent reported
    → IsInactiveAtClient i role (item ∷ received) sent reported
client_read i Client item received sent reported (client, is) = (
  client,
  false_from_ne_true _ (λ now. both_ways _ is
      (active_before Client i (item ∷ []) [] received sent [] reported now
      (active_parts Client i (item ∷ received) sent reported now).opened)),
)
client_read i Server item received sent reported (client, is) = absurd (cc)

-- So it is with any item, by the rules.
client_by_rules : (i : ℕ) (log : Log) (decoded : Option Decoded) (item : Item)
    → Holds (IsInactiveAtClient i) log
    → HoldsRead (IsInactiveAtClient i) log item (verdict_by_rules (log_view log) decoded item)
client_by_rules i log decoded item is = says_any _ _ (client_read _ _ _ _ _ _ is)

-- So a call of `take` makes no stream active at a client.
active_by_take : (log after : Log) (piece : List ℕ) (answer : TakeAnswer) (i : ℕ)
    → MayTake log piece answer after → log.role ≡ Client → active after i ≡ true
    → active log i ≡ true
active_by_take log after piece answer i may client now =
    true_from_ne_false _ (λ is. both_ways _
    (take_keeps i (IsInactiveAtClient i) (client_sent i) (client_reported i) (client_by_rules i)
    log after piece answer may (client, is)).1 now)

-- The item leaves the least last stream: it is no GOAWAY below it.
abbrev KeepsLeast : List Item → Item → Type 0
KeepsLeast received item = least_goaway (item ∷ received) ≡ least_goaway received

-- What only has to be said of an item of which nothing is reported.
says_silent : (S : Type 0) (verdict : Verdict) → S → Says (Unit {0}) S (Unit {0}) verdict
says_silent S NoEvent is = is
says_silent S verdict is = tt

-- Whatever isn't reported leaves it, since a GOAWAY is.
silent_least : (log : Log) (decoded : Option Decoded) (item : Item)
    → Says (Unit {0}) (KeepsLeast log.received item) (Unit {0})
    (verdict_by_rules (log_view log) decoded item)
unfolding verdict_by_rules least_goaway
silent_least log decoded (alone (GoAway last code debug)) = tt
silent_least log decoded item = says_silent _ (verdict_by_rules (log_view log) decoded item) refl

-- So does what is reported by no event.
reported_least : (view : View) (decoded : Option Decoded) (received : List Item) (item : Item)
    → events_of view decoded Reported item ≡ [] → KeepsLeast received item
unfolding events_of least_goaway
reported_least view decoded received (alone (GoAway last code debug)) none = absurd (cc)
reported_least view decoded received item none = refl

-- Nothing was reported, and the connection is up.
record IsSilentStep (log after : Log) : Type 0 where
  pub up : after.failed ≡ None
  pub same : after.reported ≡ log.reported

-- So does an item with no event, by its verdict.
verdict_least : (log : Log) (decoded : Option Decoded) (item : Item) (verdict : Verdict)
    → ((code : Code) → verdict ≡ ConnectionFault code → ⊥)
    → Says (Unit {0}) (KeepsLeast log.received item) (Unit {0}) verdict
    → events_of (log_view log) decoded verdict item ≡ [] → KeepsLeast log.received item
unfolding events_of
verdict_least log decoded item (ConnectionFault code) none says silent = absurd (none code refl)
verdict_least log decoded item (StreamFault code) none says silent = absurd (cc)
verdict_least log decoded item NoEvent none says silent = says
verdict_least log decoded item Reported none says silent =
    reported_least (log_view log) decoded log.received item silent

-- So does what a frame makes of the block that has begun.
step_least : (log : Log) (decoded : Option Decoded) (step : FrameStep)
    → IsSilentStep log (with_step log decoded step)
    → least_goaway (with_step log decoded step).received ≡ least_goaway log.received
step_least log decoded step =
    kept_by_step (λ new. IsSilentStep log new
    → least_goaway new.received ≡ least_goaway log.received) log decoded step (record {
      failed = λ begun code last fails silent.
          absurd (fails_down code last (record log { begun = begun }) silent.up);
      begun = λ begun same silent. refl;
      read = λ item verdict more completed same none silent.
          let ready = record log { begun = None } in
          let has = has_item ready decoded item verdict more in
          ap least_goaway has.received ∙ verdict_least ready decoded item verdict none
          (rw same at (says_of _ _ _ ready decoded item (silent_least ready decoded item)))
          (append_cancel_right _ [] log.reported (sym has.reported ∙ silent.same));
    })

module _ (log after : Log) (piece : List ℕ) where
  -- So does a call of `take` that reports nothing; and none was left to report before it.
  least_by_take : (count : ℕ) → MayTake log piece (Took count None) after
      → (next_unprocessed log ≡ 0) × (least_goaway after.received ≡ least_goaway log.received)
  unfolding used with_frame
  least_by_take count (has_failed code failed answers same) = absurd (cc)
  least_by_take count (reports_unprocessed up some answers same) = absurd (cc)
  least_by_take count (ends_no_frame takes unparsed part answers same) =
      (takes.all_reported, ap (λ (new : Log). least_goaway new.received) same)
  least_by_take count
      (ends_frame takes octets unused joined frame decoded framed sees same answers) = (
        takes.all_reported,
        ap (λ (new : Log). least_goaway new.received) same
            ∙ step_least (record (used log octets []) { frames = log.frames ++ frame ∷ [] }) decoded
            (frame_step (log_view (used log octets [])) frame) (record {
              up = ap (λ (new : Log). new.failed) (sym same) ∙ answers.1;
              same = ap (λ (new : Log). new.reported) (sym same) ∙ answers.2;
            }),
      )
  least_by_take count (meets_fault takes octets unused joined fault at answers same) = absurd (cc)
  least_by_take count (runs_out_of_memory up octets unused joined may answers same) = absurd (cc)

  -- A call of `take` keeps the role.
  pub role_by_take : (answer : TakeAnswer) → MayTake log piece answer after → after.role ≡ log.role
  role_by_take answer may = take_keeps 0 (λ role received sent reported. role ≡ log.role)
      (λ role received sent reported items none same. same)
      (λ role received sent reported events same. same)
      (λ now decoded item same. says_any _ (verdict_by_rules (log_view now) decoded item) same)
      log after piece answer may refl

-- Once a call of `take` reports nothing, no stream is left that is to be named unprocessed.
pub take_reports_all : (log after : Log) (piece : List ℕ) (count : ℕ)
    → MayTake log piece (Took count None) after → next_unprocessed after ≡ 0
take_reports_all log after piece count may =
    let least = least_by_take log after piece count may in
    none_left log after (record {
      role = role_by_take log after piece (Took count None) may;
      least = least.1;
      active = λ client i high now. active_by_take log after piece (Took count None) i may client
          now;
    }) least.0

-- The number that a call answers.
number_is : (id n : ℕ) → Number id ≡ Number n → id ≡ n
number_is id n same = cc

-- A call opens a stream only where no GOAWAY was read, and on no greater number than the greatest.
opens_low : (log : Log) (fields : List Field) (end : Bool) (id : ℕ)
    → MayAnswer log (Open fields end) (Number id)
    → (id ≤ greatest_number) × (goaway_read log ≡ false)
unfolding conditions
opens_low log fields end id (accepts none is) =
    let holds = none_holds _ none in
    let next : ℕ = (log_view log).next_number in
    let low : next ≤ greatest_number = ltb-false greatest_number next
    (neither_other (is_server log.role) (nat_lt greatest_number next) holds.1.1.0) in
    let same : id ≡ next = number_is id next is in (
      omega (arith, low, same),
      sym (when_some _ _) ∙ neither_other _ _ holds.1.1.1.0,
    )
opens_low log fields end id (refuses refusal holds is) = absurd (cc)
opens_low log fields end id (lacks none may is) = absurd (cc)
opens_low log fields end id (fails none may is) = absurd (cc)

-- So it opens none above the least last stream,
opens_other : (log : Log) (i : ℕ) (act : Act) (answer : Answer) → MayAnswer log act answer
    → least_goaway log.received < i → (fields : List Field) (end : Bool) (id : ℕ)
    → act ≡ Open fields end → answer ≡ Number id → (id == i) ≡ false
opens_other log i act answer may high fields end id is answers =
    let opens : MayAnswer log (Open fields end) (Number id) = rw (is, answers) at may in
    let both = opens_low log fields end id opens in
    let low = both.0 in
    let least = last_none log.received both.1 in
    ne_eqb id i (λ same. omega (arith, low, least, high, same))

-- and writes fields only on a stream that is active.
writes_other : (log : Log) (i : ℕ) (act : Act) (answer : Answer) → MayAnswer log act answer
    → active log i ≡ false → (id : ℕ) (fields : List Field) (end : Bool)
    → act ≡ SendFields id fields end → answer ≡ Done → (id == i) ≡ false
writes_other log i act answer may inactive id fields end is answers =
    let writes : MayAnswer log (SendFields id fields end) Done = rw (is, answers) at may in
    let alive = fields_active log id fields end writes in
    ne_eqb id i (λ same. both_ways _ inactive (rw same at alive))

-- So a call makes no stream active above the least last one.
active_by_call : (log : Log) (act : Act) (answer : Answer) (i : ℕ) → MayAnswer log act answer
    → least_goaway log.received < i → active (with_call log act answer) i ≡ true
    → active log i ≡ true
active_by_call log act answer i may high now =
    true_from_ne_false _ (λ is. both_ways _ (call_keeps _ (IsInactive i) (inactive_sent i) _ _ _
    (items_no_block _ _ _ _ (opens_other _ _ _ _ may high) (writes_other _ _ _ _ may is)) is) now)

-- And it leaves no stream that is to be named unprocessed.
pub call_reports_all : (log : Log) (act : Act) (answer : Answer) → MayAnswer log act answer
    → next_unprocessed log ≡ 0 → next_unprocessed (with_call log act answer) ≡ 0
call_reports_all log act answer may none =
    let grows = grows_call log act answer in
    none_left log (with_call log act answer) (record {
      role = grows.role;
      least = ap least_goaway grows.received;
      active = λ client i high now. active_by_call log act answer i may high now;
    }) none
