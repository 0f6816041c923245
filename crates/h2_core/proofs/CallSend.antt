-- Calls that send on an active stream: when none of their conditions holds, and the end after
-- them.
use Rattle.h2_core.proofs.Names.{ap, sym, ◌∙◌, suc, ◌+◌, take, add-one, ◌≡◌, ℕ, ◌-◌, ◌≤◌, ◌<◌, ◌==◌}
use Rattle.h2_core.proofs.Names.{not, ◌&&◌, Bool, true, false, List, [], ◌∷◌, length, pos, ◌-ℤ◌}
use Rattle.h2_core.proofs.Names.{Some, None, lt-leb, lt-ltb, le-ltb, Field, block_of, after_block}
use Rattle.h2_core.proofs.Names.{list_size, Item, block, refusal_of, data_frames, StreamView, End}
use Rattle.h2_core.proofs.Names.{end_view, stream_at, update_stream, queue_output, with_encoder}
use Rattle.h2_core.proofs.Names.{first_of, conditions, items_of, encoder_after_call, after_call}
use Rattle.h2_spec_log.specs.CallRules.{data_count, data_items}
use Rattle.std.proofs.lemmas.List.{length-take-le}
use Rattle.h2_spec_log.specs.declared.refusal.Refusal.TheVariants.{ListTooLarge}
use Rattle.h2_spec_log.specs.Acts.{SendFields, SendData}
use Rattle.h2_core.proofs.Names.{rules}

module _ (e : End) (id : ℕ) (stream : StreamView) (fields : List Field) (end : Bool) where
  -- No condition refuses fields.
  pub fields_free : e.failed ≡ None → stream_at e id ≡ Some stream → stream.ended_out ≡ false
      → length e.output.waiting < 65536 → list_size fields ≤ 65536
      → refusal_of (end_view e) (SendFields id fields end) ≡ None
  unfolding first_of conditions
  fields_free up active goes room small = search rules

  -- A list that is too large, where nothing else refuses fields.
  pub fields_large : e.failed ≡ None → stream_at e id ≡ Some stream → stream.ended_out ≡ false
      → length e.output.waiting < 65536 → 65536 < list_size fields
      → refusal_of (end_view e) (SendFields id fields end) ≡ Some ListTooLarge
  unfolding first_of conditions
  fields_large up active goes room large = search rules

-- No condition refuses DATA.
pub data_free : (e : End) (id : ℕ) (stream : StreamView) (octets : List ℕ) (end : Bool)
    → e.failed ≡ None → stream_at e id ≡ Some stream → stream.ended_out ≡ false
    → length e.output.waiting < 65536 → refusal_of (end_view e) (SendData id octets end) ≡ None
unfolding first_of conditions
data_free e id stream octets end up active goes room = search rules

-- the end once the block is written
pub fields_sent : (e : End) (id : ℕ) (stream : StreamView) (fields : List Field) (end : Bool)
    → stream_at e id ≡ Some stream
    → after_call e (SendFields id fields end)
    ≡ update_stream
    (queue_output (with_encoder e (after_block e.output.encoder fields))
    (block id end (block_of e.output.encoder fields) ∷ []))
    id (record stream { ended_out = end })
unfolding after_call items_of encoder_after_call
fields_sent e id stream fields end active = rw active

-- Nothing is sent.
pub data_unsent : (e : End) (id : ℕ) (stream : StreamView) (octets : List ℕ) (end : Bool)
    (count : ℕ)
    → stream_at e id ≡ Some stream
    → count ≡ data_count (end_view e) (Some stream) (length octets)
    → (count == 0 && not (length octets == 0 && end)) ≡ true
    → after_call e (SendData id octets end) ≡ e
unfolding after_call
data_unsent e id stream octets end count active is none = rw (active, ← is, none)

-- an end after DATA: `items` are queued, and both send windows are less by `count`
abbrev pub after_sent : End → ℕ → StreamView → List Item → ℕ → Bool → End
after_sent e id stream items count ends =
    update_stream
    (record (queue_output e items) {
      windows = record e.windows { send = e.windows.send - count };
    })
    id (record stream { send_window = stream.send_window -ℤ pos count; ended_out = ends })

-- the end once `count` octets are written
data_sent : (e : End) (id : ℕ) (stream : StreamView) (octets : List ℕ) (end : Bool) (count : ℕ)
    → stream_at e id ≡ Some stream
    → count ≡ data_count (end_view e) (Some stream) (length octets)
    → (count == 0 && not (length octets == 0 && end)) ≡ false
    → after_call e (SendData id octets end)
    ≡ after_sent e id stream (data_items (end_view e).max_payload id octets end count) count
    (end && count == length octets)
unfolding after_call
data_sent e id stream octets end count active is some = rw (active, ← is, some)

-- the items of octets of which some are sent, or none and the stream ends
items_sent : (most id : ℕ) (octets : List ℕ) (end : Bool) (count : ℕ)
    → (count == 0 && not (length octets == 0 && end)) ≡ false
    → data_items most id octets end count
    ≡ data_frames (suc count) most id (take count octets) (end && count == length octets)
unfolding data_items
items_sent most id octets end count some = rw some

-- The end once the octets that may be sent are written, as many as there are of them.
pub data_written : (e : End) (id : ℕ) (stream : StreamView) (octets : List ℕ) (end : Bool)
    (count : ℕ) (ends : Bool)
    → stream_at e id ≡ Some stream
    → count ≡ data_count (end_view e) (Some stream) (length octets)
    → (count == 0 && not (length octets == 0 && end)) ≡ false
    → count ≤ length octets → ends ≡ (end && count == length octets)
    → after_sent e id stream
    (data_frames (length (take count octets) + 1) (end_view e).max_payload id (take count octets)
    ends)
    (length (take count octets)) ends
    ≡ after_call e (SendData id octets end)
data_written e id stream octets end count ends active is some within last =
    let most = (end_view e).max_payload in
    let counted : length (take count octets) ≡ count = length-take-le count octets within in
    ap (λ (n : ℕ). after_sent e id stream (data_frames (n + 1) most id (take count octets) ends) n
    ends) counted
    ∙ ap (λ (n : ℕ). after_sent e id stream (data_frames n most id (take count octets) ends) count
    ends) (add-one count)
    ∙ ap (λ (b : Bool). after_sent e id stream (data_frames (suc count) most id (take count octets)
    b) count b) last
    ∙ ap (λ items. after_sent e id stream items count (end && count == length octets))
    (sym (items_sent most id octets end count some))
    ∙ sym (data_sent e id stream octets end count active is some)
