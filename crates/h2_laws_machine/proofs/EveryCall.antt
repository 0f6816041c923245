-- What each small change of an end keeps, each call keeps.
use Rattle.h2_laws_machine.proofs.Names
use Names.{◌≡◌, ℕ, ◌+◌, ◌-◌, ◌<◌, ◌≤◌, not, ◌∷◌, pos, Code, Item, Act, Open, Done, End, Fail}
use Names.{◌==◌, IsTypedAct, data_items, conditions, refusal_of, max_output, max_resets, StreamView}
use Names.{nat_lt, encoder_after_call, returns_before_put_out, ConnectionWindows, after_fields_sent}
use Names.{◌&&◌, SendData, SendPing, items_of, max_list, is_server, stream_in, stream_at, and_other}
use Names.{if◌then◌else◌, block_of, ChangeSettings, at_least_none, update_stream, before_put_out_at}
use Names.{Bool, true, List, ◌+ℤ◌, ◌-ℤ◌, Some, None, refl, arith, Field, Reset, Ping, alone, block}
use Names.{false, cond_both, set_stream, after_data, after_call, none_since, data_count, none_holds}
use Names.{[], refuse_fault, with_encoder, queue_output, reset_stream, after_release, neither_other}
use Names.{length, Option, is_some, ap, GoAway, Release, Refuse, PutOut, owed_on, end_view, size_of}
use Names.{after_block, SendFields, ResetStream, SendGoAway, full_output, after_refuse, size-goaway}
use Names.{Widen, size-update}
use Rattle.std.proofs.Common.{leb-false, ltb-false, ltb-true}
use Rattle.hpack.proofs.WrittenBlocks.{block_goes_on}
use Rattle.h2_spec_log.specs.CallRules.{is_full, is_no_stream}
use Rattle.h2_laws_log.proofs.BlockSizes.{block_is_gathered}
use Rattle.h2_laws_log.proofs.CallConditions.{AreFalse}
use Rattle.h2_laws_log.proofs.ItemSizes.{size-block, size-reset, size-ping, size-change}
use Rattle.h2_laws_log.proofs.RulesByTests.{is_active_by, count_few, count_lets, data_size}
use Rattle.h2_laws_log.proofs.RulesByTests.{release_size, refuse_fits, returns_says}
use Rattle.hpack.specs.Lists.{list_size}
use Rattle.h2_laws_machine.proofs.EndInvariants.{IsEndInvariant}
use Rattle.h2_laws_machine.proofs.RulesAtEnds.{active_used, client_opens_by}
use Rattle.h2_laws_machine.proofs.StreamRanges.{sent_fits_stream, released_fits_stream}
use Rattle.h2_laws_machine.proofs.EveryEnd.{credited, reset_keeps, updated, ended}

module _ {Typed Seen : Type 0} {P : ℕ → End → Type 0} {Q : End → Type 0}
    (steady : IsEndInvariant Typed Seen P Q) where
  -- Fields were sent.
  fields_sent : (e : End) (i : ℕ) (end : Bool) (x : Option StreamView) → stream_at e i ≡ x → P 0 e
      → P 0 (after_fields_sent e i end x)
  fields_sent e i end None active h = h
  fields_sent e i end (Some stream) active h = ended steady e i stream stream.ended_in end active h

  -- One of two ends, by a test.
  either : (b : Bool) (x y : End) → P 0 x → P 0 y → P 0 (if b then x else y)
  either true x y this that = this
  either false x y this that = that

  -- Octets of a body were sent, as many as the window lets through, or none.
  data_sent : (e : End) (i : ℕ) (octets : List ℕ) (end : Bool) (count : ℕ) (x : Option StreamView)
      → stream_at e i ≡ x
      → ((stream : StreamView) → x ≡ Some stream → count ≤ at_least_none stream.send_window) → P 0 e
      → P 0 (queue_output e (data_items (end_view e).max_payload i octets end count))
      → P 0 (after_data e i octets end count x)
  data_sent e i octets end count None active lets h wrote = h
  data_sent e i octets end count (Some stream) active lets h wrote =
      let windows : ConnectionWindows = record e.windows { send = e.windows.send - count } in
      let after : End =
      record (queue_output e (data_items (end_view e).max_payload i octets end count)) {
        windows = windows;
      } in
      let next : StreamView =
      record stream {
        send_window = stream.send_window -ℤ pos count;
        ended_out = end && count == length octets;
      } in
      either (count == 0 && not (length octets == 0 && end)) e (update_stream after i next) h
      (updated steady after 0 i stream next active (omega arith)
      (λ apart peer own. sent_fits_stream _ _ stream count (end && count == length octets)
      (lets stream refl) peer)
      (steady.windows _ 0 0 windows refl (λ most. omega (arith, most)) (λ wide. wide) wrote))

  -- Octets were released, of those that are owed.
  released : (e : End) (i count : ℕ) (x : Option StreamView) → stream_at e i ≡ x
      → count ≤ owed_on x → P 0 e → P 0 (after_release e i count x)
  released e i count None active most h = h
  released e i count (Some stream) active most h =
      let next : StreamView =
      record stream {
        owed = stream.owed - count;
        recv_window =
            if stream.ended_in then stream.recv_window else stream.recv_window +ℤ pos count;
      } in
      steady.windows (set_stream e i next) count 0
      (record e.windows { recv = e.windows.recv + count }) (omega arith) (λ within. within)
      (λ wide. wide)
      (steady.set e 0 count i stream next active (omega (arith, most))
      (λ apart peer own. released_fits_stream _ _ stream count most) h)

  -- A call that resets a stream, where RST_STREAM fits and fewer were reset than may be.
  reset_by_call : (e : End) (i code : ℕ) → is_no_stream (end_view e) i ≡ false
      → (length e.output.waiting + 13 ≤ max_output) → e.streams.resets < max_resets → P 0 e
      → P 0 (reset_stream (queue_output e (alone (Reset i code) ∷ [])) i 0)
  reset_by_call e i code is fits few h =
      let active = is_active_by (stream_at e i) is in
      reset_keeps steady (queue_output e (alone (Reset i code) ∷ [])) i 0
      (active_used e i active.0 active.1) few (steady.joined e 0 (alone (Reset i code) ∷ [])
      (λ typed within. omega (arith, fits, size-reset (end_view e).max_payload i code)) h)

  -- A stream was refused, or the connection ended.
  refused_by : (e : End) (i code : ℕ) (x : Option Code) → refuse_fault (end_view e) code ≡ x
      → (not (code == 2) && is_no_stream (end_view e) i) ≡ false → P 0 e
      → Q (after_refuse e i code x)
  refused_by e i code None is active h =
      let fits = refuse_fits (end_view e) code is in
      steady.kept _ (reset_by_call e i code
      (and_other (code == 2) (is_no_stream (end_view e) i) active fits.0) fits.2 fits.1 h)
  refused_by e i code (Some fault) is active h = steady.failed e fault e.streams.last_processed h

  -- The end is ready to put output out.
  ready : (e : End) → Q e → Q (before_put_out_at e)
  unfolding before_put_out_at
  ready e h =
      cond_both (returns_before_put_out (end_view e)) _ _ Q (λ returns.
      let says = returns_says e.failed _ _ returns in
      steady.kept _ (credited steady e (ltb-true _ _ says.1) (steady.up e says.0 h))) (λ keeps. h)

  -- A call's items join the output where that isn't full.
  written : (e : End) (items : List Item) → is_full (end_view e) ≡ false
      → (Typed → full_output + size_of (end_view e).max_payload items ≤ max_output) → P 0 e
      → P 0 (queue_output e items)
  written e items space few =
      steady.joined e 0 items (λ typed within. omega (arith, few, leb-false))

  -- A block of a list that may be sent joins the output where that isn't full.
  block_written : (e : End) (i : ℕ) (end : Bool) (fields : List Field)
      → is_full (end_view e) ≡ false → nat_lt max_list (list_size fields) ≡ false → P 0 e
      → P 0 (queue_output (with_encoder e (after_block e.output.encoder fields))
      (block i end (block_of e.output.encoder fields) ∷ []))
  block_written e i end fields space few h =
      written (with_encoder e (after_block e.output.encoder fields))
      (block i end (block_of e.output.encoder fields) ∷ []) space (λ typed. omega (
        arith,
        size-block (end_view e).max_payload i end (block_of e.output.encoder fields) (omega arith),
        block_is_gathered e.output.encoder fields (ltb-false max_list (list_size fields) few),
      )) (steady.encoded e (after_block e.output.encoder fields)
      (block_goes_on e.output.encoder fields) h)

  -- The connection hasn't failed, by a call's first condition.
  up_since : (e : End) → is_some e.failed ≡ false → Q e → P 0 e
  up_since e going = steady.up e (none_since e.failed going)

  -- A call was made none of whose conditions holds.
  made : (e : End) (act : Act) → AreFalse (conditions (end_view e) act) → (Typed → IsTypedAct act)
      → Q e → Q (after_call e act)
  unfolding conditions after_call IsTypedAct items_of encoder_after_call
  made e (Open fields end) none typed h =
      let i : ℕ = (end_view e).next_number in
      let next = client_opens_by (is_server e.role) _ e.streams.highest none.1.0 none.1.1.0 in
      steady.kept _ (steady.opened _ i false end i e.streams.last_processed
      (λ clear. ap stream_in (clear i next.1)) (omega (arith, next.1)) (omega arith)
      (λ seen within. next.2) (λ within. omega (arith, within, next.1))
      (λ zero. omega (arith, next.1, zero)) (λ own peer. omega (arith, peer, leb-false _ _ next.0))
      (block_written e i end fields none.1.1.1.1.0 none.1.1.1.1.1.0 (up_since e none.0 h)))
  made e (SendFields id fields end) none typed h =
      steady.kept _ (fields_sent _ id end (stream_at e id) refl
      (block_written e id end fields none.1.1.1.0 none.1.1.1.1.0 (up_since e none.0 h)))
  made e (SendData id octets end) none typed h =
      let count : ℕ = data_count (end_view e) (stream_at e id) (length octets) in
      steady.kept _ (data_sent e id octets end count (stream_at e id) refl
      (λ stream is. count_lets (end_view e) stream (length octets) (stream_at e id) is)
      (up_since e none.0 h)
      (written e (data_items (end_view e).max_payload id octets end count) none.1.1.1.0
      (λ good. omega (arith, data_size, count_few)) (up_since e none.0 h)))
  made e (Release id count) none typed h =
      steady.kept _ (released _ id count (stream_at e id) refl
      (ltb-false _ _ (neither_other (count == 0) _ none.1.1.1.0))
      (written e (items_of (end_view e) (Release id count) Done) none.1.1.0
      (λ good. omega (arith, release_size)) (up_since e none.0 h)))
  made e (ResetStream id code) none typed h =
      steady.kept _ (reset_by_call e id code none.1.0
      (omega (arith, leb-false full_output (length e.output.waiting) none.1.1.0))
      (leb-false _ _ none.1.1.1.0) (up_since e none.0 h))
  made e (Refuse id code) none typed h =
      refused_by e id code (refuse_fault (end_view e) code) refl none.1.0 (up_since e none.0 h)
  made e (SendPing octets) none typed h =
      steady.kept _ (steady.beside _ (Some octets) e.goaway.received
      (written e (alone (Ping false octets) ∷ []) none.1.0
      (λ good. omega (arith, size-ping, typed good)) (up_since e none.0 h)))
  made e SendGoAway none typed h =
      steady.kept _ (steady.goaway_sent _
      (written e (alone (GoAway e.streams.last_processed 0 []) ∷ []) none.1.1.0
      (λ good. omega (arith, size-goaway)) (up_since e none.0 h)))
  made e (Fail code) none typed h =
      steady.failed e code e.streams.last_processed (up_since e none.0 h)
  made e (PutOut count) none typed h = steady.put_out (before_put_out_at e) count (ready e h)
  made e (ChangeSettings values) none typed h =
      let view = end_view e in
      steady.kept _ (steady.awaits _ values typed
      (written e (items_of view (ChangeSettings values) Done) none.1.0
      (λ good. omega (arith, size-change)) (up_since e none.0 h)))
  made e (Widen count) none typed h =
      let view = end_view e in
      let wide : ConnectionWindows =
      record e.windows {
        recv = e.windows.recv + count;
        granted = e.windows.granted + count;
      } in
      steady.kept _ (steady.windows _ 0 0 wide (omega arith) (λ most. most)
      (λ within. ltb-false _ _ (neither_other (count == 0) _ none.1.1.0))
      (written e (items_of view (Widen count) Done) none.1.0
      (λ good. omega (arith, size-update)) (up_since e none.0 h)))

  -- A call that isn't refused was made.
  pub call_keeps : (e : End) (act : Act) → refusal_of (end_view e) act ≡ None
      → (Typed → IsTypedAct act) → Q e → Q (after_call e act)
  call_keeps e act is = made e act (none_holds (conditions (end_view e) act) is)
