-- The call that opens a stream preserves that an end represents its log.
use Rattle.std.specs.FinMap as map
use Rattle.h2_laws_machine.proofs.Names
use Names.{◌≡◌, ◌≢◌, zero, ◌||◌, Bool, true, List, refl, ints, Item, Role, ends, Event, Open, View}
use Names.{widened}
use Names.{ℕ, increment_on, greatest_block, first_window, stream_of_act, active_entry, with_encoder}
use Names.{suc, ◌+◌, ◌-◌, ◌≤◌, ◌<◌, ◌%◌, [], ◌∷◌, pos, sym, ap, ◌∙◌, Log, End}
use Names.{false, subst, arith, Field, block, Client, Server, resets, total, window, Number, called}
use Names.{zero-add, and_left, one_reset, own_value, with_call, StreamView, new_stream, after_call}
use Names.{false_from_ne_true, reports_unprocessed, granted_on, encoder_after_call, active_by_parts}
use Names.{eq-eqb, list_any, block_of, data_on, openings, given_on, released, log_view, items_of}
use Names.{after_block, is_block_on, count_below, unreleased, with_items, active_parts, block_below}
use Rattle.h2_spec_machine.specs.Machine.{open_stream}
use Rattle.h2_laws_log.proofs.LogViewLemmas.{client_above}
use Rattle.std.proofs.Common.{suc-add}
use Rattle.h2_laws_machine.proofs.ItemsApart.{block_apart}
use Rattle.h2_laws_machine.proofs.LogCore.{Core, core, CoreFacts, core_facts, Advances, confirmed}
use Rattle.h2_laws_machine.proofs.LogCore.{active_by_items, greatest_used, said, kept_back}
use Rattle.h2_laws_machine.proofs.OneItemMore.{total_quiet, own_quiet}
use Rattle.h2_laws_machine.proofs.OwedAtClose.{owes_none}
use Rattle.h2_laws_machine.proofs.RepresentedSteps.{called_going, Up, views_of_up, queue_by}
use Rattle.h2_laws_machine.proofs.RepresentedSteps.{wrote_up, nothing_unreturned}
use Rattle.h2_laws_machine.proofs.SentConnectionItems.{computing}
use Rattle.h2_laws_machine.proofs.SentQuietItems.{sends, same_sent, windows_sent, own_sent}
use Rattle.h2_laws_machine.proofs.SentQuietItems.{goaways_sent, ping_sent}
use Rattle.h2_laws_machine.proofs.StreamsSame.{count_apart, SameAt, same_stream, said_set}
use Rattle.h2_laws_machine.proofs.ViewsAgree.{view_beside}

-- Nothing was read, written or reported of a number, and nothing is kept back of it.
pub record IsClearBy (received sent : List Item) (reported : List Event) (kept i : ℕ) : Type 0 where
  pub ended_in : list_any (ends i) received ≡ false
  pub reset_in : list_any (resets i) received ≡ false
  pub given : total (increment_on i) received ≡ 0
  pub taken_in : total (data_on i) received ≡ 0
  pub ended_out : list_any (ends i) sent ≡ false
  pub reset_out : list_any (resets i) sent ≡ false
  pub granted : total (increment_on i) sent ≡ 0
  pub taken_out : total (data_on i) sent ≡ 0
  pub unnamed : list_any (reports_unprocessed i) reported ≡ false
  pub owed : kept ≡ 0

-- the same of a core
abbrev pub IsClear : Core → ℕ → Type 0
IsClear c i = IsClearBy c.received c.sent c.reported (kept_back c i) i

-- a client's block opens its stream
block_here : (role : Role) (i : ℕ) (end : Bool) (octets : List ℕ) (received sent : List Item)
    → role ≡ Client
    → list_any (is_block_on i) (openings role received (block i end octets ∷ sent)) ≡ true
unfolding is_block_on
block_here Client i end octets received sent is = rw (eq-eqb i i refl) refl
block_here Server i end octets received sent is = cc

-- the greatest number at a client
greatest_client : (role : Role) (received sent : List Item) → role ≡ Client
    → greatest_block (openings role received sent) ≡ greatest_block sent
greatest_client Client received sent is = refl
greatest_client Server received sent is = cc

-- the greatest number with a greater one
greatest_more : (i : ℕ) (end : Bool) (octets : List ℕ) (sent : List Item) → greatest_block sent < i
    → greatest_block (block i end octets ∷ sent) ≡ i
unfolding greatest_block
greatest_more i end octets sent above = omega arith

-- No more numbers pass above those that do.
pub count_high : (more n : ℕ) (f : ℕ → Bool) → ((j : ℕ) → n ≤ j → f j ≡ false)
    → count_below (more + n) f ≡ count_below n f
unfolding count_below
count_high zero n f none = rw (zero-add n) refl
count_high (suc more) n f none =
    rw (suc-add more n, none (more + n) (omega arith), count_high more n f none) (omega arith)

-- One number more passes, above all others.
pub count_added : (n i : ℕ) (f g : ℕ → Bool) → n ≤ i → ((j : ℕ) → n ≤ j → f j ≡ false) → g i ≡ true
    → ((j : ℕ) → j ≢ i → g j ≡ f j)
    → count_below (i + 1) g ≡ count_below n f + 1
unfolding count_below
count_added n i f g low none is same =
    let next : i + 1 ≡ suc i = omega arith in
    let far : (i - n) + n ≡ i = omega arith in
    let below : count_below i g ≡ count_below i f = count_apart i i g f (omega arith) same in
    let high : count_below i f ≡ count_below n f = ap (λ (k : ℕ). count_below k f) (sym far)
    ∙ count_high (i - n) n f none in
    rw (next, is, below, high) (omega arith)

-- The new stream is active.
active_new : (c : Core) (i : ℕ) (end : Bool) (octets : List ℕ) → c.role ≡ Client → i % 2 ≡ 1
    → IsClear c i → active_by_items (sends c (block i end octets)) i ≡ true
unfolding computing
active_new c i end octets client odd clear =
    let item = block i end octets in
    active_by_parts _ _ _ _ _ (eq-eqb (i % 2) 1 odd) (block_here _ _ _ _ _ _ client)
    (client_above _ _ _ client) (and_left _ _ clear.ended_in) clear.reset_in clear.reset_out
    clear.unnamed

-- The log says the same of other streams.
others_same : (c : Core) (j i : ℕ) (end : Bool) (octets : List ℕ) → j ≢ i
    → SameAt j c (sends c (block i end octets))
unfolding computing
others_same c j i end octets other =
    let item = block i end octets in
    same_sent j c item (block_apart i end octets j other) refl (λ alive. refl) (own_quiet 4
    first_window (confirmed c) item c.sent refl)

-- a window that is untouched: nothing was consumed, and nothing was added
pub untouched_window : (own more consumed : ℕ) → more ≡ 0 → consumed ≡ 0
    → pos own ≡ window (own + more) consumed
untouched_window own more consumed none too = omega (arith, ints)

-- nothing more
pub end_or : (a b : Bool) → b ≡ false → a ≡ (a || b)
end_or true b is = refl
end_or false b is = sym is

-- the stream that is opened
abbrev opened_stream : CoreFacts → Bool → StreamView
opened_stream h end = record {
  send_window = pos h.peer.initial_window;
  recv_window = pos h.own.in_force.initial_window;
  owed = 0;
  ended_in = false;
  ended_out = end;
}

-- The new stream is what the log says.
new_is : (h : CoreFacts) (c : Core) (i : ℕ) (end : Bool) (octets : List ℕ) → IsClear c i
    → Advances h c
    → opened_stream h end ≡ said (sends c (block i end octets)) i
unfolding computing given_on granted_on
new_is h c i end octets clear g =
    let item = block i end octets in
    same_stream (opened_stream h end) (said (sends c item) i)
    (ap (λ (n : ℕ). pos n) g.peer.initial_window ∙ untouched_window _ _ _ clear.given
    (total_quiet (data_on i) item c.sent refl ∙ clear.taken_out))
    (ap (λ (n : ℕ). pos n) (g.own.in_force.initial_window
    ∙ sym (own_quiet 4 first_window (confirmed c) item c.sent refl))
    ∙ untouched_window (own_value 4 first_window (confirmed c) (item ∷ c.sent))
    (total (increment_on i) (item ∷ c.sent)) (total (data_on i) c.received)
    (total_quiet (increment_on i) item c.sent refl ∙ clear.granted) clear.taken_in)
    (sym clear.owed) (sym clear.ended_in)
    (rw (eq-eqb i i refl) (end_or end (list_any (ends i) c.sent) clear.ended_out))

-- Nothing above the greatest number is active.
pub none_above : (c : Core) (j : ℕ) → greatest_used c < j → active_by_items c j ≡ false
none_above c j above =
    false_from_ne_true (active_by_items c j) (λ active_is.
    let low = block_below j (openings c.role c.received c.sent)
    (active_parts c.role j c.received c.sent c.reported active_is).opened in omega arith)

-- One stream more is active.
active_count_more : (c : Core) (i : ℕ) (end : Bool) (octets : List ℕ) → c.role ≡ Client
    → i % 2 ≡ 1 → greatest_block c.sent < i → IsClear c i
    → count_below (greatest_used c + 1) (active_by_items c) + 1
    ≡ count_below (greatest_used (sends c (block i end octets)) + 1)
    (active_by_items (sends c (block i end octets)))
active_count_more c i end octets client odd above clear =
    let item = block i end octets in
    let before = greatest_client c.role c.received c.sent client in
    let after = greatest_client c.role c.received (item ∷ c.sent) client
    ∙ greatest_more i end octets c.sent above in
    let more = count_added (greatest_block c.sent + 1) i (active_by_items c)
    (active_by_items (sends c item)) (omega arith)
    (λ j high. none_above c j (omega (arith, before))) (active_new c i end octets client odd clear)
    (λ j other. (others_same c j i end octets other).active) in
    rw (before, after) (sym more)

-- A stream was opened.
open_advances : (h : CoreFacts) (c : Core) (i : ℕ) (end : Bool) (octets : List ℕ)
    → c.role ≡ Client → i % 2 ≡ 1 → greatest_block c.sent < i → IsClear c i → Advances h c
    → Advances (record h {
      streams = record h.streams {
        entries = map.insert h.streams.entries i (active_entry (opened_stream h end));
        active_count = h.streams.active_count + 1;
        highest = i;
      };
    }) (sends c (block i end octets))
unfolding computing
open_advances h c i end octets client odd above clear g =
    let item = block i end octets in
    let more = active_count_more c i end octets client odd above clear in
    record {
      reading = g.reading;
      encoder = g.encoder;
      streams = record {
        entries = said_set h.streams.entries i (opened_stream h end) c (sends c item)
            g.streams.entries (λ j other. others_same c j i end octets other)
            (active_new c i end octets client odd clear) (new_is h c i end octets clear g);
        active_count = ap (λ (n : ℕ). n + 1) g.streams.active_count ∙ more;
        highest = sym (greatest_client _ _ _ client ∙ greatest_more i end octets c.sent above);
        last_processed = g.streams.last_processed;
        resets = g.streams.resets ∙ sym (total_quiet one_reset item c.sent refl);
      };
      windows = windows_sent h.windows c.received c.sent c.calls c.unreturned item h.windows.recv refl
          (omega arith) g.windows;
      peer = g.peer;
      own = own_sent h.own c.role (confirmed c) c.sent item refl g.own;
      goaway = goaways_sent h.goaway c.received c.sent item refl refl g.goaway;
      ping = ping_sent h.ping c item refl refl g.ping;
    }

-- A stream is opened.
pub open_up : (e : End) (log : Log) (fields : List Field) (end : Bool) → log.role ≡ Client
    → (log_view log).next_number % 2 ≡ 1 → greatest_block log.sent < (log_view log).next_number
    → IsClear (core log) (log_view log).next_number → Up e log
    → Up (after_call e (Open fields end))
    (with_call log (Open fields end) (Number (log_view log).next_number))
unfolding after_call with_call with_items items_of stream_of_act encoder_after_call released
    widened unreleased
open_up e log fields end client odd above clear is =
    let act = Open fields end in
    let id = (log_view log).next_number in
    let base = called log act (Number id) in
    let octets = block_of log.encoder fields in
    let went = called_going e log act (Number id) (after_block log.encoder fields) refl (λ i. refl)
    refl is.going in
    let f = with_encoder e (after_block log.encoder fields) in
    let opened_one = record f {
      streams = record f.streams {
        entries = map.insert e.streams.entries id (active_entry (new_stream e false end));
        active_count = e.streams.active_count + 1;
        highest = id;
      };
    } in
    let made = wrote_up e opened_one base (block id end octets ∷ []) is.role is.up is.same refl
    is.waits is.started
    (open_advances (core_facts f) (core base) id end octets client odd above clear went) in
    let call = with_call log act (Number id) in
    let all : Up (open_stream (queue_by e (view_beside e log) act) id end) call =
    nothing_unreturned _ log _ 0 (owes_none log _) made in
    subst (λ (view : View). Up (open_stream (queue_by e view act) view.next_number end) call)
    (sym (views_of_up e log is)) all
