-- What items without a block on a stream keep, and events, and items that are read by their
-- verdicts, a call of `take` keeps, and any other that writes no such block.
use Rattle.h2_laws_end.proofs.Names
use Names.{◌≡◌, ℕ, ◌+◌, false, List, [], ◌∷◌, ◌++◌, Option, Some, None, refl, inl, inr, subst}
use Names.{list_any, Code, InternalError, code_number, WindowUpdate, wire_fault_code, Item, alone}
use Names.{Role, Event, Act, Answer, Refuse, PutOut, Count, OutOfMemory, Refused, Log, log_view}
use Names.{Verdict, Decoded, verdict_by_rules, items_of, with_unreturned, with_failure, took_none}
use Names.{called, credit_cases, put_out_cases, TakeAnswer, MayTake, has_failed}
use Names.{reports_unprocessed, ends_no_frame, ends_frame, meets_fault, runs_out_of_memory, Fail}
use Names.{IsCredit, none_both, GoAway, UnprocessedEvent, next_unprocessed, is_block_on, with_sent}
use Names.{with_items, refused_with, before_put_out, with_call, goaway_no_block, replies_no_block}
use Rattle.h2_laws_end.proofs.ReadVerdicts.{Says, says_of, says_one}
use Rattle.h2_laws_end.proofs.ActivitySteps.{AfterFrame, stays_same, has_broken, has_read}
use Rattle.h2_laws_end.proofs.ActivitySteps.{frame_used, frame_after, part_after, fault_after}
use Rattle.h2_laws_end.proofs.ActivitySteps.{none_adds}

-- What may hold of a log.
abbrev pub Holds : (Role → List Item → List Item → List Event → Type 0) → Log → Type 0
Holds P log = P log.role log.received log.sent log.reported

-- What may hold once an item was read, as long as it is no fault of the connection.
abbrev pub HoldsRead : (Role → List Item → List Item → List Event → Type 0) → Log → Item
    → Verdict → Type 0
HoldsRead P log item verdict =
    Says (P log.role (item ∷ log.received) log.sent log.reported)
    (P log.role (item ∷ log.received) log.sent log.reported)
    (P log.role (item ∷ log.received) log.sent log.reported) verdict

-- WINDOW_UPDATE and GOAWAY are no blocks.
credit_no_block : (i count : ℕ)
    → list_any (is_block_on i) (alone (WindowUpdate 0 count) ∷ []) ≡ false
unfolding is_block_on
credit_no_block i count = refl

pub credit_without_block : (i : ℕ) (items : List Item) → IsCredit items
    → list_any (is_block_on i) items ≡ false
credit_without_block i items (inl none) = rw none refl
credit_without_block i items (inr (count, is)) = rw is (credit_no_block i count)

module _ (i : ℕ) (P : Role → List Item → List Item → List Event → Type 0)
    (sends : (role : Role) (received sent : List Item) (reported : List Event)
    (items : List Item) → list_any (is_block_on i) items ≡ false → P role received sent reported
    → P role received (items ++ sent) reported) where
  -- Items are written.
  sent_keeps : (log : Log) (items : List Item) → list_any (is_block_on i) items ≡ false
      → Holds P log → Holds P (with_sent log items)
  unfolding with_sent
  sent_keeps log [] none is = is
  sent_keeps log (item ∷ items) none is =
      sends log.role log.received log.sent log.reported (item ∷ items) none is

  -- What is due.
  unreturned_keeps : (more : ℕ) (log : Log) → Holds P log → Holds P (with_unreturned more log)
  unreturned_keeps more log is =
      credit_cases (Holds P) more log
      (λ returns. sent_keeps (record log { unreturned = 0 }) _
      (credit_no_block i (log.unreturned + more)) is)
      (λ keeps. is)

  -- A failure.
  failure_keeps : (code : Code) (last : ℕ) (log : Log) → Holds P log
      → Holds P (with_failure code last log)
  failure_keeps code last log is =
      sent_keeps log _ (goaway_no_block i last (code_number code)) is

  -- A call that writes no block on the stream.
  items_keep : (log : Log) (act : Act) (answer : Answer)
      → list_any (is_block_on i) (items_of (log_view log) act answer) ≡ false → Holds P log
      → Holds P (with_items log act answer)
  unfolding with_items
  items_keep log act answer none is =
      unreturned_keeps _ _ (sent_keeps (called log act answer) _ none is)

  refused_keeps : (log : Log) (act : Act) (answer : Answer) (fault : Option Code)
      → list_any (is_block_on i) (items_of (log_view log) act answer) ≡ false → Holds P log
      → Holds P (refused_with log act answer fault)
  unfolding refused_with
  refused_keeps log act answer (Some code) none is = failure_keeps code _ (called log act answer) is
  refused_keeps log act answer None none is = items_keep log act answer none is

  ready_keeps : (log : Log) → Holds P log → Holds P (before_put_out log)
  ready_keeps log is =
      put_out_cases (Holds P) log
      (λ returns. sent_keeps (record log { unreturned = 0 }) _ (credit_no_block i log.unreturned)
      is)
      (λ keeps. is)

  pub call_keeps : (log : Log) (act : Act) (answer : Answer)
      → list_any (is_block_on i) (items_of (log_view log) act answer) ≡ false → Holds P log
      → Holds P (with_call log act answer)
  unfolding with_call
  call_keeps log act (Refused refusal) none is = is
  call_keeps log act OutOfMemory none is =
      failure_keeps InternalError _ (called log act OutOfMemory) is
  call_keeps log (Refuse id code) answer none is = refused_keeps log (Refuse id code) answer _ none
      is
  call_keeps log (Fail code) answer none is =
      failure_keeps code _ (called log (Fail code) answer) is
  call_keeps log (PutOut count) (Count given) none is =
      ready_keeps (called log (PutOut count) (Count given)) is
  call_keeps log act answer none is = items_keep log act answer none is

  module _ (reports : (role : Role) (received sent : List Item) (reported events : List Event)
      → P role received sent reported → P role received sent (events ++ reported))
      (reads : (log : Log) (decoded : Option Decoded) (item : Item) → Holds P log
      → HoldsRead P log item (verdict_by_rules (log_view log) decoded item)) where
    -- What a frame may do.
    after_keeps : (before after : Log) (decoded : Option Decoded)
        → AfterFrame before decoded after → Holds P before → Holds P after
    after_keeps before after decoded (stays_same adds failed) is =
        rw (adds.role, adds.received, adds.sent, adds.reported) is
    after_keeps before after decoded (has_broken code last most adds failed) is =
        rw (adds.role, adds.received, adds.sent, adds.reported)
        (sends before.role before.received before.sent before.reported
        (alone (GoAway last (code_number code) []) ∷ [])
        (goaway_no_block i last (code_number code)) is)
    after_keeps before after decoded
        (has_read item verdict credit same on is_credit adds failed) is =
        let says = subst (HoldsRead P before item) same
        (says_of _ _ _ before decoded item (reads before decoded item is)) in
        rw (adds.role, adds.received, adds.sent, adds.reported)
        (reports before.role (item ∷ before.received) _ before.reported _
        (sends before.role (item ∷ before.received) before.sent before.reported _
        (none_both (is_block_on i) credit _ (credit_without_block i credit is_credit)
        (replies_no_block i verdict item)) (says_one verdict on says)))

    -- A stream that the peer doesn't process.
    none_keeps : (log : Log) → Holds P log → Holds P (took_none log)
    none_keeps log is =
        let adds = none_adds log in
        rw (adds.2.role, adds.2.received, adds.2.sent, adds.2.reported)
        (reports log.role log.received _ log.reported
        (UnprocessedEvent (next_unprocessed log) ∷ [])
        (sends log.role log.received log.sent log.reported adds.0
        (credit_without_block i adds.0 adds.1) is))

    -- A call of `take`.
    pub take_keeps : (log after : Log) (piece : List ℕ) (answer : TakeAnswer)
        → MayTake log piece answer after → Holds P log → Holds P after
    take_keeps log after piece answer (has_failed code failed answers same) is = rw same is
    take_keeps log after piece answer (reports_unprocessed up some answers same) is =
        rw same (none_keeps log is)
    take_keeps log after piece answer (ends_no_frame takes unparsed part answers same) is =
        rw same (after_keeps log _ None (part_after log piece unparsed) is)
    take_keeps log after piece answer
        (ends_frame takes octets unused joined frame decoded framed sees same answers) is =
        rw same (after_keeps (frame_used log octets frame) _ decoded
        (frame_after log octets decoded frame) is)
    take_keeps log after piece answer
        (meets_fault takes octets unused joined fault at answers same) is =
        rw same (after_keeps log _ None (fault_after log octets (wire_fault_code fault)) is)
    take_keeps log after piece answer
        (runs_out_of_memory up octets unused joined may answers same) is =
        rw same (after_keeps log _ None (fault_after log octets InternalError) is)
