-- A stream is active once a call has answered its number; or, where it wasn't active, once fields
-- of it were reported: at a server.
use Rattle.h2_laws_end.proofs.Names
use Names.{◌≡◌, list_any, and_left, log_view, answer_of, MayAnswer, with_call, none_both, events_of}
use Names.{ℕ, ◌==◌, Bool, true, List, ◌++◌, Some, refl, Code, Data, Item, Role, lacks, fails, IsLog}
use Names.{◌%◌, Reported, Decoded, accepts, refuses, MayTake, IsCredit, is_above, is_used, items_of}
use Names.{false, subst, Field, alone, block, Client, Server, Values, Number, resets, Event, active}
use Names.{[], ◌∷◌, sym, ◌∙◌, Open, ends, Log, Took}
use Names.{Option, and_parts, is_active, verdict_of, grows_call, has_failed, ends_frame, lasts_from}
use Names.{both_ways, is_block_on, FieldsEvent, replies_to, ends_no_frame, meets_fault, active_from}
use Names.{or_from, false_from_ne_true, append_cancel_right, written_is_allowed, runs_out_of_memory}
use Names.{is_goaway_below, Verdict, ConnectionFault, AllowedHistory, stream_of_log, is_number_used}
use Rattle.h2_spec_log.specs.Events.{reports_unprocessed}
use Rattle.h2_laws_log.proofs.OpenedStreams.{block_first, block_resets, ends_used, no_goaway_below}
use Rattle.h2_laws_log.proofs.OpenedStreams.{open_at_server, server_of}
use Rattle.h2_laws_log.proofs.ReplyInvariant.{resets_used}
use Rattle.h2_laws_end.specs.Takes.{reports_unprocessed as named_one}
use Rattle.h2_laws_end.proofs.OverNumbers.{opened_is_new, block_there}
use Rattle.h2_laws_end.proofs.ActivityFrames.{active_added}
use Rattle.h2_laws_end.proofs.ActivityItems.{new_reported, events_name_none}
use Rattle.h2_laws_end.proofs.ActivityLogs.{LogIsKnown, known_of_logs}
use Rattle.h2_laws_end.proofs.ActivityStays.{harmless_append, harmless_credit, harmless_replies}
use Rattle.h2_laws_end.proofs.ActivityStays.{none_ends, none_resets, none_below}
use Rattle.h2_laws_end.proofs.ActivitySteps.{Adds, AfterFrame, stays_same, has_broken, has_read}
use Rattle.h2_laws_end.proofs.ActivitySteps.{frame_used, frame_after}
use Rattle.h2_laws_end.proofs.WrittenSteps.{call_writes}
use Rattle.h2_laws_end.proofs.OverEvents.{no_event}

-- Nothing was written of a number that wasn't used.
pub record IsUnwritten (i : ℕ) (sent : List Item) : Type 0 where
  pub unended : list_any (ends i) sent ≡ false
  pub unreset : list_any (resets i) sent ≡ false

unused_unwritten : (role : Role) (values : Values) (log : Log) (i : ℕ)
    → IsLog role values log → is_number_used log i ≡ false → IsUnwritten i log.sent
unused_unwritten role values log i is unused =
    let own = (stream_of_log role values log is).role in
    let allowed : AllowedHistory log.role log.received log.sent = subst
    (λ (r : Role). AllowedHistory r log.received log.sent) (sym own)
    (written_is_allowed role values log is) in
    record {
      unended = false_from_ne_true _ (λ some. both_ways _ unused (ends_used _ _ _ _ allowed some));
      unreset = false_from_ne_true _ (λ some. both_ways _ unused
          (resets_used log.role i log.received log.sent allowed some));
    }

-- A client's stream is active once its block was written.
open_at_client : (role : Role) (i : ℕ) (received sent : List Item) (reported : List Event)
    → role ≡ Client → i % 2 == 1 ≡ true → list_any (is_block_on i) sent ≡ true
    → list_any (ends i) received ≡ false → list_any (resets i) received ≡ false
    → list_any (resets i) sent ≡ false → list_any (reports_unprocessed i) reported ≡ false
    → is_active role i received sent reported ≡ true
unfolding is_above
open_at_client Server i received sent reported client odd here unended unreset kept unnamed = cc
open_at_client Client i received sent reported client odd here unended unreset kept unnamed =
    active_from Client i received sent reported (record {
      odd = odd;
      opened = here;
      below = refl;
      lasts = lasts_from i received sent (record {
        ended = and_left (list_any (ends i) received) (list_any (ends i) sent) unended;
        unreset = unreset;
        kept = kept;
      });
      unnamed = unnamed;
    })

-- A number that was used is odd.
pub used_odd : (role : Role) (i : ℕ) (received sent : List Item)
    → is_used role i received sent ≡ true → i % 2 == 1 ≡ true
unfolding is_used
used_odd role i received sent was = (and_parts _ _ was).0

-- The answer is the one of the rules.
open_rules : (log : Log) (fields : List Field) (end : Bool) (id : ℕ)
    → MayAnswer log (Open fields end) (Number id)
    → Number id ≡ answer_of (log_view log) (Open fields end)
open_rules log fields end id (accepts none is) = is
open_rules log fields end id (refuses refusal holds is) = cc
open_rules log fields end id (lacks none may is) = cc
open_rules log fields end id (fails none may is) = cc

-- A stream is active once a call has answered its number.
pub active_by_open : (role : Role) (values : Values) (log : Log) (fields : List Field)
    (end : Bool) (id : ℕ) → IsLog role values log → MayAnswer log (Open fields end) (Number id)
    → active (with_call log (Open fields end) (Number id)) id ≡ true
unfolding items_of
active_by_open role values log fields end id is may =
    let act = Open fields end in
    let new = opened_is_new role values log fields end id is may in
    let odd = used_odd _ id _ _ new.3 in
    let known = known_of_logs role values log is id in
    let unwritten = unused_unwritten role values log id is new.2 in
    let grows = grows_call log act (Number id) in
    let writes = call_writes log act (Number id) (open_rules log fields end id may)
    (λ other code wrong. cc) (λ code wrong. cc) in
    let kept = none_both (resets id) writes.credit (block id end _ ∷ log.sent)
    (none_resets log.role id writes.credit (harmless_credit log.role id writes.credit
    writes.is_credit)) (or_from _ _ (block_resets id id end _) unwritten.unreset) in
    rw (grows.role, grows.received, grows.reported, writes.sent) (open_at_client _ _ _ _ _ new.0 odd
    (block_there id end _ writes.credit log.sent) (known.unended new.2) (known.unreset new.2) kept
    (known.unnamed new.2))

module _ (before after : Log) (decoded : Option Decoded) where
  -- A block that was reported has opened its stream, where that wasn't active.
  block_opens : (i : ℕ) (end : Bool) (octets : List ℕ) (credit : List Item)
      → verdict_of (log_view before) decoded (block i end octets) ≡ Reported → IsCredit credit
      → Adds before after (block i end octets ∷ []) (credit ++ replies_to Reported
      (block i end octets)) (events_of (log_view before) decoded Reported (block i end octets))
      → active before i ≡ false → LogIsKnown i before
      → (is_number_used before i ≡ false → IsUnwritten i before.sent) → (before.role ≡ Server)
      × (active after i ≡ true)
  block_opens i end octets credit is is_credit adds inactive known unwritten =
      let item = block i end octets in
      let items = credit ++ replies_to Reported item in
      let new = new_reported before decoded i end octets is inactive in
      let server = server_of before.role (i % 2 == 1) new.0 in
      let unsaid = unwritten new.2 in
      let replies = harmless_replies before.role i Reported item
      (λ wrong. absurd (both_ways false refl wrong)) in
      let harmless = harmless_append before.role i credit (replies_to Reported item)
      (harmless_credit before.role i credit is_credit) replies in (
        server,
        active_added before after (item ∷ []) items _ i adds
            ∙ open_at_server before.role i (item ∷ before.received) (items ++ before.sent) _ server
            (and_parts _ _ new.0).1 (block_first i end octets before.received)
            (none_both (is_goaway_below i) items before.sent
            (none_below before.role i items server harmless) (no_goaway_below i before.sent new.1))
            (none_both (ends i) items before.sent (none_ends before.role i items harmless)
            unsaid.unended) (or_from _ _ (block_resets i i end octets) (known.unreset new.2))
            (none_both (resets i) items before.sent (none_resets before.role i items harmless)
            unsaid.unreset) (none_both (reports_unprocessed i)
            (events_of (log_view before) decoded Reported item) before.reported
            (events_name_none (log_view before) decoded Reported item i) (known.unnamed new.2)),
      )

  -- An item of which fields are reported.
  read_opens : (item : Item) (verdict : Verdict) (credit : List Item) (id : ℕ) (list : List Field)
      (end : Bool) → verdict_of (log_view before) decoded item ≡ verdict
      → ((code : Code) → verdict ≡ ConnectionFault code → ⊥) → IsCredit credit
      → Adds before after (item ∷ []) (credit ++ replies_to verdict item)
      (events_of (log_view before) decoded verdict item)
      → events_of (log_view before) decoded verdict item ≡ FieldsEvent id list end ∷ []
      → active before id ≡ false → LogIsKnown id before
      → (is_number_used before id ≡ false → IsUnwritten id before.sent) → (before.role ≡ Server)
      × (active after id ≡ true)
  unfolding events_of
  read_opens item (ConnectionFault code) credit id list end is on is_credit adds
      one inactive known unwritten = absurd (on code refl)
  read_opens (block stream last octets) Reported credit id list end is on
      is_credit adds one inactive known unwritten =
      let same : id ≡ stream = cc in
      let now = block_opens stream last octets credit is is_credit adds
      (subst (λ (j : ℕ). active before j ≡ false) same inactive)
      (subst (λ (j : ℕ). LogIsKnown j before) same known)
      (subst (λ (j : ℕ). is_number_used before j ≡ false
      → IsUnwritten j before.sent) same unwritten) in
      (now.0, subst (λ (j : ℕ). active after j ≡ true) (sym same) now.1)
  read_opens (alone (Data stream last octets pad)) Reported credit id list end is
      on is_credit adds one inactive known unwritten = cc
  read_opens item verdict credit id list end is on is_credit adds one inactive known unwritten = cc

  -- A frame of which fields are reported.
  frame_opens_it : (id : ℕ) (list : List Field) (end : Bool) → AfterFrame before decoded after
      → after.reported ≡ FieldsEvent id list end ∷ before.reported → active before id ≡ false
      → LogIsKnown id before → (is_number_used before id ≡ false → IsUnwritten id before.sent)
      → (before.role ≡ Server) × (active after id ≡ true)
  frame_opens_it id list end (stays_same adds failed) one inactive known
      unwritten = no_event _ before.reported (sym adds.reported ∙ one)
  frame_opens_it id list end (has_broken code last up adds failed) one inactive
      known unwritten = no_event _ before.reported (sym adds.reported ∙ one)
  frame_opens_it id list end (has_read item verdict credit is on is_credit adds failed) one inactive
      known unwritten = read_opens item verdict credit id list end is on is_credit adds
      (append_cancel_right _ (FieldsEvent id list end ∷ []) before.reported
      (sym adds.reported ∙ one)) inactive known unwritten

module _ (role : Role) (values : Values) (log after : Log) (piece : List ℕ) (count id : ℕ)
    (list : List Field) (end : Bool) where
  -- A stream of which fields are reported, and that wasn't active, is active then: at a server.
  pub active_by_fields : IsLog role values log
      → MayTake log piece (Took count (Some (FieldsEvent id list end))) after
      → active log id ≡ false → (log.role ≡ Server) × (active after id ≡ true)
  active_by_fields is (has_failed code failed answers same) inactive = cc
  active_by_fields is (named_one up some answers same) inactive = cc
  active_by_fields is (ends_no_frame takes unparsed part answers same) inactive = cc
  active_by_fields is (ends_frame takes octets unused joined frame decoded framed sees same answers)
      inactive = frame_opens_it (frame_used log octets frame) after decoded id list end
      (rw same (frame_after log octets decoded frame)) answers.2 inactive
      (known_of_logs role values log is id) (unused_unwritten role values log id is)
  active_by_fields is (meets_fault takes octets unused joined fault at answers same) inactive = cc
  active_by_fields is (runs_out_of_memory up octets unused joined may answers same) inactive = cc
