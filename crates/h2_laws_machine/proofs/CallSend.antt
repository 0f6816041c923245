-- The calls that send on an active stream preserve that an end represents its log: fields and a
-- body.
use Rattle.std.specs.FinMap as map
use Rattle.h2_laws_machine.proofs.Names
use Names.{◌≡◌, ℕ, suc, ◌+◌, ◌-◌, ◌≤◌, ◌==◌, not, ◌&&◌, Bool, true, false, if◌then◌else◌, List, []}
use Names.{widened}
use Names.{◌∷◌, ◌++◌, length, take, ℤ, pos, ◌-ℤ◌, Option, Some, None, refl, sym, ap, subst, ◌∙◌}
use Names.{arith, list_any, ints, length-take-le, Field, block_of, after_block, Item, block, End}
use Names.{end_view, active_entry, owed_entry, log_view, stream_of_log, data_on, data_of, ends}
use Names.{total, SendFields, SendData, Count, Done, given_on, given_on_connection, window, Log}
use Names.{active, send_window, unreleased, released, answer_of, items_of, stream_of_act}
use Names.{encoder_after_call, data_frames, data_items, at_least_none, with_sent, with_unreturned}
use Names.{owed_at_close, called, with_items, with_call, StreamView, View, queue_output, set_stream}
use Names.{close_stream, update_stream, after_fields_sent, after_data, after_call, active_parts}
use Names.{get_set_same, data_count, stream_there}
use Rattle.h2_laws_log.proofs.LogViewLemmas.{natural_by}
use Rattle.h2_laws_machine.proofs.CallSendItems.{adds_block, adds_all}
use Rattle.h2_laws_machine.proofs.LogCore.{core, core_facts, Going}
use Rattle.h2_laws_machine.proofs.OwedAtClose.{owes_active, owes_all}
use Rattle.h2_laws_machine.proofs.RepresentedSteps.{called_going, Up, views_of_up, queue_by}
use Rattle.h2_laws_machine.proofs.RepresentedSteps.{wrote_up, called_up, with_unreturned_up}
use Rattle.h2_laws_machine.proofs.RepresentedSteps.{nothing_unreturned, wrote_active, wrote_owes}
use Rattle.h2_laws_machine.proofs.SentStreamItems.{set_advances, over_advances, Adds, stream_with}
use Rattle.h2_laws_machine.proofs.SentStreamItems.{active_here, closed_here}
use Rattle.h2_laws_machine.proofs.ViewsAgree.{view_beside, payload_agrees}
use Rattle.h2_laws_machine.proofs.WaitingOutput.{OutputOf}

-- an end with items that join its output, and another send window
abbrev with_send_window : End → End → List Item → ℕ → End
with_send_window e f items here = record f {
  windows = record f.windows { send = here };
  output = record f.output { waiting = (queue_output e items).output.waiting };
}

module _ (e f : End) (log base : Log) (id : ℕ) (items : List Item) (n : ℕ) (end : Bool)
    (send_window : ℤ) (here : ℕ) (was : active log id ≡ true) (active_is : active base id ≡ true)
    (is : send_window ≡ window (given_on id base.received) (n + total (data_on id) base.sent))
    (a : Adds base.role base.received id base.sent (items ++ base.sent) n end)
    (conserved : here + (n + total data_of base.sent) ≡ given_on_connection base.received)
    (role : f.role ≡ base.role) (up : f.failed ≡ None) (same : base.failed ≡ None)
    (peer : f.peer ≡ e.peer) (waits : OutputOf e base)
    (started : f.reading.started ≡ not (length base.frames == 0)) (run : Going f (core base)) where
  -- Items are written on an active stream, which continues or is closed, by the test.
  sent_by : (b : Bool) → (list_any (ends id) base.received && end) ≡ b
      → Up (if b then close_stream
      (set_stream (with_send_window e f items here) id (stream_with (core base) id send_window end))
      id 0
      else set_stream (with_send_window e f items here) id (stream_with (core base) id send_window
      end)) (with_unreturned (owed_at_close log (with_sent base items) id) (with_sent base items))
  unfolding unreleased
  sent_by true over =
      let s = stream_with (core base) id send_window end in
      let ran = over_advances (core_facts f) (core base) _ _ _ _ s _ active_is over a conserved run
      in
      let wrote_them = wrote_up e (record f {
        streams = record f.streams {
          entries = map.remove (map.insert f.streams.entries id (active_entry s)) id;
          active_count = f.streams.active_count - 1;
        };
        windows = record f.windows { send = here };
      }) base items role up same peer waits started ran in
      let closed : active (with_sent base items) id ≡ false = wrote_active base items id
      ∙ closed_here (core base) id (items ++ base.sent) n end over a in
      let owing : owed_at_close log (with_sent base items) id ≡ unreleased base id = owes_all log
      (with_sent base items) id was closed ∙ wrote_owes base items id in
      let owed : 0 + owed_entry (map.get (map.insert f.streams.entries id (active_entry s)) id)
      ≡ unreleased base id =
      rw (get_set_same f.streams.entries id (active_entry s)) (omega arith) in
      with_unreturned_up _ (with_sent base items) _ _ (owed ∙ sym owing) wrote_them
  sent_by false goes =
      let s = stream_with (core base) id send_window end in
      let ran = set_advances (core_facts f) (core base) id (items ++ base.sent) n end send_window
      here active_is goes is a conserved run in
      let wrote_them = wrote_up e (record f {
        streams = record f.streams { entries = map.insert f.streams.entries id (active_entry s) };
        windows = record f.windows { send = here };
      }) base items role up same peer waits started ran in
      let still : active (with_sent base items) id ≡ true = wrote_active base items id ∙ active_here
      (core base) id (items ++ base.sent) n end active_is goes a in
      nothing_unreturned _ _ _ id (owes_active log (with_sent base items) id still) wrote_them

  sent_up : Up (update_stream (with_send_window e f items here) id
      (stream_with (core base) id send_window end))
      (with_unreturned (owed_at_close log (with_sent base items) id) (with_sent base items))
  sent_up = sent_by (list_any (ends id) base.received && end) refl

-- Further fields are sent.
pub fields_up : (e : End) (log : Log) (id : ℕ) (fields : List Field) (end : Bool)
    → active log id ≡ true → list_any (ends id) log.sent ≡ false → Up e log
    → Up (after_call e (SendFields id fields end)) (with_call log (SendFields id fields end) Done)
unfolding after_call with_call with_items items_of stream_of_act encoder_after_call released
    widened unreleased
fields_up e log id fields end active_is goes is =
    let run = is.going in
    let base = called log (SendFields id fields end) Done in
    let ran = called_going e log (SendFields id fields end) Done (after_block log.encoder fields)
    refl (λ i. refl) refl run in
    let opened = (active_parts log.role id log.received log.sent log.reported active_is).opened in
    let conserved : e.windows.send + (0 + total data_of log.sent) ≡ given_on_connection log.received
    = omega (arith, run.windows.send) in
    let consumed : 0 + total (data_on id) log.sent ≡ total (data_on id) log.sent = omega arith in
    let sent_data = sent_up e (record e
    { output = record e.output { encoder = after_block log.encoder fields } }) log base id
    (block id end (block_of log.encoder fields) ∷ []) 0 end (send_window log id) e.windows.send
    active_is active_is (ap (window (given_on id log.received)) (sym consumed))
    (adds_block log.role log.received id end (block_of log.encoder fields) log.sent opened goes)
    conserved is.role is.up is.same refl is.waits is.started ran in
    let act = SendFields id fields end in
    let call = with_call log act Done in
    let there : Up (after_fields_sent (queue_by e (view_beside e log) act) id end
    ((log_view log).stream id)) call = subst (λ (stream : Option StreamView). Up
    (after_fields_sent (queue_by e (view_beside e log) act) id end stream) call)
    (sym (stream_there log id active_is)) sent_data in
    subst (λ (view : View). Up (after_fields_sent (queue_by e view act) id end (view.stream id))
    call) (sym (views_of_up _ _ is)) there

-- How many octets go is within each of these.
record IsWithin (e : End) (log : Log) (id most count : ℕ) : Type 0 where
  pub whole : count ≤ most
  pub send_window : count ≤ e.windows.send

-- As many octets are sent as the windows let through.
count_within : (e : End) (log : Log) (id count : ℕ) → Going e (core log)
    → IsWithin e log id count (data_count (log_view log) (Some (stream_of_log log id)) count)
count_within e log id count h =
    let given = given_on_connection log.received in
    let taken = total data_of log.sent in
    let part : at_least_none (window given taken) ≡ given - taken = natural_by _ _ taken refl in
    let send_window = h.windows.send in
    record { whole = omega arith; send_window = omega arith }

-- a window with fewer octets
less_send_window : (given consumed count : ℕ)
    → window given consumed -ℤ pos count ≡ window given (count + consumed)
less_send_window given consumed count = omega (arith, ints)

-- Octets of a body go, or none, by the test.
data_by : (e : End) (log : Log) (id : ℕ) (octets : List ℕ) (end : Bool) (count : ℕ) (b : Bool)
    → active log id ≡ true → list_any (ends id) log.sent ≡ false
    → IsWithin e log id (length octets) count → Up e log
    → Up (if b then e else update_stream
    (record (queue_output e (if b then [] else data_frames (suc count) (end_view e).max_payload id
    (take count octets) (end && count == length octets)))
    { windows = record e.windows { send = e.windows.send - count } })
    id (record (stream_of_log log id) {
      send_window = send_window log id -ℤ pos count;
      ended_out = end && count == length octets;
    })) (with_unreturned (owed_at_close log
    (with_sent (called log (SendData id octets end) (Count count))
    (if b then [] else data_frames (suc count) (end_view e).max_payload id (take count octets)
    (end && count == length octets))) id)
    (with_sent (called log (SendData id octets end) (Count count))
    (if b then [] else data_frames (suc count) (end_view e).max_payload id (take count octets)
    (end && count == length octets))))
unfolding with_sent released widened encoder_after_call unreleased
data_by e log id octets end count true active_is goes within is =
    let base = called log (SendData id octets end) (Count count) in
    nothing_unreturned _ _ _ _ (owes_active _ _ _ active_is) (called_up _ _ _ _ refl (λ i. refl)
    refl is)
data_by e log id octets end count false active_is goes within is =
    let run = is.going in
    let base = called log (SendData id octets end) (Count count) in
    let ran = called_going e log (SendData id octets end) (Count count) e.output.encoder run.encoder
    (λ i. refl) refl run in
    let last = end && count == length octets in
    let size : length (take count octets) ≡ count = length-take-le count octets within.whole in
    let items = data_frames (suc count) (end_view e).max_payload id (take count octets) last in
    let adds : Adds log.role log.received id log.sent (items ++ log.sent) count last = subst
    (λ (n : ℕ). Adds log.role log.received id log.sent (items ++ log.sent) n last) size
    (adds_all (suc count) log.role log.received id (end_view e).max_payload last (take count octets)
    log.sent goes (omega arith) (omega arith)) in
    let fits = within.send_window in
    let conserved : (e.windows.send - count) + (count + total data_of log.sent)
    ≡ given_on_connection log.received = omega (arith, run.windows.send) in
    sent_up e e log base id items count last (send_window log id -ℤ pos count)
    (e.windows.send - count) active_is active_is (less_send_window _ _ count) adds conserved is.role
    is.up is.same refl is.waits is.started ran

-- Octets of a body are sent.
pub data_up : (e : End) (log : Log) (id : ℕ) (octets : List ℕ) (end : Bool) → active log id ≡ true
    → list_any (ends id) log.sent ≡ false → Up e log
    → Up (after_call e (SendData id octets end))
    (with_call log (SendData id octets end) (answer_of (log_view log) (SendData id octets end)))
unfolding after_call with_call with_items items_of stream_of_act data_items
data_up e log id octets end active_is goes is =
    let act = SendData id octets end in
    let stream = stream_of_log log id in
    let count = data_count (log_view log) (Some stream) (length octets) in
    let base = called log act (Count count) in
    let b = count == 0 && not (length octets == 0 && end) in
    let last = end && count == length octets in
    let sent_data = data_by e log id octets end count b active_is goes
    (count_within e log id (length octets) is.going) is in
    let all : Up (after_data e id octets end count (Some stream)) (with_call log act (Count count))
    = subst (λ (m : ℕ). Up (after_data e id octets end count (Some stream))
    (with_unreturned (owed_at_close log
    (with_sent base (if b then [] else data_frames (suc count) m id (take count octets) last)) id)
    (with_sent base (if b then [] else data_frames (suc count) m id (take count octets) last))))
    (payload_agrees e.peer log.received is.going.peer) sent_data in
    let there : Up (after_data e id octets end (data_count (log_view log) ((log_view log).stream id)
    (length octets)) ((log_view log).stream id))
    (with_call log act (Count (data_count (log_view log) ((log_view log).stream id)
    (length octets)))) = subst (λ (x : Option StreamView). Up
    (after_data e id octets end (data_count (log_view log) x (length octets)) x)
    (with_call log act (Count (data_count (log_view log) x (length octets)))))
    (sym (stream_there log id active_is)) all in
    subst (λ (view : View). Up (after_data e id octets end
    (data_count view (view.stream id) (length octets)) (view.stream id))
    (with_call log act (answer_of (log_view log) act))) (sym (views_of_up e log is)) there
