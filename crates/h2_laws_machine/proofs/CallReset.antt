-- The calls that reset a stream preserve that an end represents its log.
use Rattle.std.specs.FinMap as map
use Rattle.h2_laws_machine.proofs.Names
use Names.{◌≡◌, ◌≢◌, ℕ, ◌+◌, ◌-◌, Bool, true, false, List, [], ◌∷◌, is_some, refl, sym, ap, ◌∙◌}
use Names.{widened}
use Names.{arith, false_from_ne_true, both_ways, eq-eqb, list_any, Reset, Item, alone, resets}
use Names.{one_reset, first_window, Log, active, unreleased, released, ResetStream, Done, with_sent}
use Names.{with_unreturned, owed_at_close, with_items, with_call, items_of, stream_of_act}
use Names.{encoder_after_call, End, reset_entry, stream_at, owed_entry, StreamView, is_one}
use Names.{reset_stream, queue_output, after_call, entry_by, active_parts, lasts_parts, total_one}
use Rattle.h2_laws_machine.proofs.ItemsApart.{reset_apart}
use Rattle.h2_laws_machine.proofs.LogCore.{Core, core, CoreFacts, core_facts, Advances, confirmed}
use Rattle.h2_laws_machine.proofs.LogCore.{active_by_items, said, kept_back}
use Rattle.h2_laws_machine.proofs.OneItemMore.{own_quiet}
use Rattle.h2_laws_machine.proofs.OwedAtClose.{owes_all}
use Rattle.h2_laws_machine.proofs.RepresentedSteps.{Up, wrote_up, called_up, with_unreturned_up}
use Rattle.h2_laws_machine.proofs.RepresentedSteps.{wrote_active, wrote_owes}
use Rattle.h2_laws_machine.proofs.SentConnectionItems.{computing}
use Rattle.h2_laws_machine.proofs.SentQuietItems.{sends, same_sent, used_wrote, windows_sent}
use Rattle.h2_laws_machine.proofs.SentQuietItems.{own_sent, goaways_sent, ping_sent}
use Rattle.h2_laws_machine.proofs.StreamsSame.{SameAt, said_reset, streams_closed}
use Rattle.h2_laws_machine.proofs.ViewsAgree.{active_agrees}

-- The log says the same of them.
pub others_same : (c : Core) (id code i : ℕ) → i ≢ id → SameAt i c (sends c (alone (Reset id code)))
unfolding computing
others_same c id code i other =
    same_sent i c (alone (Reset id code)) (reset_apart id code i other) refl (λ alive. refl)
    (own_quiet 4 first_window (confirmed c) (alone (Reset id code)) c.sent refl)

-- The stream was reset.
pub reset_here : (id code : ℕ) (sent : List Item)
    → list_any (resets id) (alone (Reset id code) ∷ sent)
    ≡ true
unfolding resets
reset_here id code sent = rw (eq-eqb id id refl) refl

-- It isn't active.
closed_here : (c : Core) (id code : ℕ)
    → active_by_items (sends c (alone (Reset id code))) id ≡ false
closed_here c id code =
    false_from_ne_true _ (λ active_is.
    let news = alone (Reset id code) ∷ c.sent in
    let lasts = lasts_parts id c.received news (active_parts _ _ _ _ c.reported active_is).lasts in
    both_ways _ lasts.kept (reset_here id code c.sent))

-- An active stream was reset.
reset_advances : (h : CoreFacts) (c : Core) (id code count : ℕ) → active_by_items c id ≡ true
    → count ≡ 1 → Advances h c
    → Advances (record h {
      streams = record h.streams {
        entries = map.insert h.streams.entries id reset_entry;
        active_count = h.streams.active_count - count;
        resets = h.streams.resets + 1;
      };
    }) (sends c (alone (Reset id code)))
unfolding computing
reset_advances h c id code count active_is one g =
    let item : Item = alone (Reset id code) in
    record {
      reading = g.reading;
      encoder = g.encoder;
      streams = rw one (streams_closed h.streams id _ _ c (sends c item) (others_same c id code)
          active_is (closed_here c id code) (said_reset _ _ c (sends c item) g.streams.entries
          (others_same c id code) (closed_here c id code) (reset_here id code c.sent))
          (used_wrote c.role item c.received c.sent (λ items. refl)) refl
          (omega (arith, g.streams.resets, total_one one_reset item c.sent)) g.streams);
      windows = windows_sent h.windows c.received c.sent c.calls c.unreturned item h.windows.recv refl
          (omega arith) g.windows;
      peer = g.peer;
      own = own_sent h.own c.role (confirmed c) c.sent item refl g.own;
      goaway = goaways_sent h.goaway c.received c.sent item refl refl g.goaway;
      ping = ping_sent h.ping c item refl refl g.ping;
    }

-- What is owed where a number is active.
entry_owes : (l r : Bool) (s : StreamView) → l ≡ true → owed_entry (entry_by l r s) ≡ s.owed
entry_owes true r s is = refl
entry_owes false r s is = cc

-- A active stream is reset, and what it owes is unreturned.
pub reset_up : (e : End) (log base : Log) (id code : ℕ) → active log id ≡ true
    → active base id ≡ true → Up e base
    → Up (reset_stream (queue_output e (alone (Reset id code) ∷ [])) id 0)
    (with_unreturned (owed_at_close log (with_sent base (alone (Reset id code) ∷ [])) id)
    (with_sent base (alone (Reset id code) ∷ [])))
unfolding unreleased
reset_up e log base id code was active_is is =
    let items = alone (Reset id code) ∷ [] in
    let one : is_one (is_some (stream_at e id)) ≡ 1 = ap is_one
    (active_agrees e base id is.going.streams ∙ active_is) in
    let wrote_it = wrote_up e (record e {
      streams = record e.streams {
        entries = map.insert e.streams.entries id reset_entry;
        active_count = e.streams.active_count - is_one (is_some (stream_at e id));
        resets = e.streams.resets + 1;
      };
    }) base items is.role is.up is.same refl is.waits is.started
    (reset_advances (core_facts e) (core base) id code _ active_is one is.going) in
    let closed : active (with_sent base items) id ≡ false = wrote_active base items id ∙ closed_here
    (core base) id code in
    let owing : owed_at_close log (with_sent base items) id ≡ unreleased base id = owes_all log
    (with_sent base items) id was closed ∙ wrote_owes base items id in
    let entry : owed_entry (map.get e.streams.entries id) ≡ kept_back (core base) id = ap owed_entry
    (is.going.streams.entries id) ∙ entry_owes _ _ (said (core base) id) active_is in
    let owed : 0 + owed_entry (map.get e.streams.entries id) ≡ unreleased base id = omega
    (arith, entry) in
    with_unreturned_up _ (with_sent base items) _ _ (owed ∙ sym owing) wrote_it

-- A stream is reset by a call.
pub reset_call_up : (e : End) (log : Log) (id code : ℕ) → active log id ≡ true → Up e log
    → Up (after_call e (ResetStream id code)) (with_call log (ResetStream id code) Done)
unfolding after_call with_call with_items items_of stream_of_act encoder_after_call released
    widened
reset_call_up e log id code active_is is =
    reset_up _ _ _ _ _ active_is active_is (called_up _ _ _ Done refl (λ i. refl) refl is)
