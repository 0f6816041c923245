-- Items whose field blocks decode in order, one after another: in parts, to one list each, and
-- whatever their reader sends later.
use Rattle.h2_laws_pair.proofs.Names.{◌≡◌, ℕ, ◌+◌, ◌≤◌, List, [], ◌∷◌, ◌++◌, length, refl, sym, ap}
use Rattle.h2_laws_pair.proofs.Names.{◌∙◌, arith, Field, Entries, one_block_lem, Item, alone, block}
use Rattle.h2_laws_pair.proofs.Names.{total, own_value, one_ack, settings_count, total_one}
use Rattle.h2_laws_pair.proofs.Names.{total-append, block_count, DecodeInOrder}
use Rattle.h2_laws_log.proofs.SettingsLists.{own_older}

-- Items and others before them, each with lists of their own and a table in between.
pub record DecodeInParts (sent : List Item) (count : ℕ) (first : Entries) (newer older : List Item)
    (lists : List (List Field)) (last : Entries) : Type 0 where
  pub newer_lists : List (List Field)
  pub older_lists : List (List Field)
  pub between : Entries
  pub joined : lists ≡ newer_lists ++ older_lists
  pub decode_older : DecodeInOrder sent count first older older_lists between
  pub decode_newer : DecodeInOrder sent (count + total one_ack older) between newer newer_lists last

-- the limit at a place, by the acknowledgments before it
limit_here : (sent : List Item) (count : ℕ) (newer older : List Item)
    → own_value 1 4096 (count + total one_ack (newer ++ older)) sent
    ≡ own_value 1 4096 ((count + total one_ack older) + total one_ack newer) sent
limit_here sent count newer older =
    ap (λ (all : ℕ). own_value 1 4096 all sent) (omega (arith, total-append one_ack newer older))

-- The same lists and the same last table.
pub record AreSame (lists others : List (List Field)) (last other : Entries) : Type 0 where
  pub same_lists : lists ≡ others
  pub same_last : last ≡ other

module _ (sent : List Item) (count : ℕ) (first : Entries) where
  -- There are as many lists as blocks.
  pub lists_counted : (items : List Item) (lists : List (List Field)) (last : Entries)
      → DecodeInOrder sent count first items lists last → length lists ≡ block_count items
  unfolding block_count
  lists_counted [] lists last decode = rw decode.0 refl
  lists_counted (alone frame ∷ items) lists last decode = lists_counted items lists last decode
  lists_counted (block stream end octets ∷ items) lists last decode =
      rw decode.3 (omega (arith, lists_counted items decode.1 decode.2 decode.4))

  -- Items and others before them decode so.
  pub in_parts : (newer older : List Item) (lists : List (List Field)) (last : Entries)
      → DecodeInOrder sent count first (newer ++ older) lists last
      → DecodeInParts sent count first newer older lists last
  in_parts [] older lists last decode =
      record {
        newer_lists = [];
        older_lists = lists;
        between = last;
        joined = refl;
        decode_older = decode;
        decode_newer = (refl, refl);
      }
  in_parts (alone frame ∷ newer) older lists last decode =
      let parts = in_parts newer older lists last decode in
      record {
        newer_lists = parts.newer_lists;
        older_lists = parts.older_lists;
        between = parts.between;
        joined = parts.joined;
        decode_older = parts.decode_older;
        decode_newer = parts.decode_newer;
      }
  in_parts (block stream end octets ∷ newer) older lists last decode =
      let parts = in_parts newer older decode.1 decode.2 decode.4 in
      record {
        newer_lists = decode.0 ∷ parts.newer_lists;
        older_lists = parts.older_lists;
        between = parts.between;
        joined = decode.3 ∙ ap (λ (others : List (List Field)). decode.0 ∷ others) parts.joined;
        decode_older = parts.decode_older;
        decode_newer = (
          decode.0,
          parts.newer_lists,
          decode.2,
          refl,
          parts.decode_newer,
          rw (limit_here sent count newer older) at decode.5,
        );
      }

  -- They decode to one list each, and leave one table.
  pub one_decoding : (items : List Item) (lists others : List (List Field))
      (last other : Entries)
      → DecodeInOrder sent count first items lists last
      → DecodeInOrder sent count first items others other → AreSame lists others last other
  one_decoding [] lists others last other a b =
      record { same_lists = a.0 ∙ sym b.0; same_last = a.1 ∙ sym b.1 }
  one_decoding (alone frame ∷ items) lists others last other a b =
      one_decoding items lists others last other a b
  one_decoding (block stream end octets ∷ items) lists others last other a b =
      let before = one_decoding items a.1 b.1 a.2 b.2 a.4 b.4 in
      let limit = own_value 1 4096 (count + total one_ack items) sent in
      let first_block = rw before.same_last at a.5 in
      let same = one_block_lem b.2 last other limit octets a.0 b.0 first_block b.5 in
      let fields = same.0 in
      let older = before.same_lists in
      let one = a.3 in
      let two = b.3 in
      record { same_lists = cc; same_last = same.1 }

-- What their reader sends later changes no limit, if as many SETTINGS stood before as are
-- acknowledged.
pub decode_more : (newer sent : List Item) (count : ℕ) (first : Entries) (items : List Item)
    (lists : List (List Field)) (last : Entries)
    → count + total one_ack items ≤ settings_count sent
    → DecodeInOrder sent count first items lists last
    → DecodeInOrder (newer ++ sent) count first items lists last
decode_more newer sent count first [] lists last within decode = decode
decode_more newer sent count first (alone frame ∷ items) lists last within decode =
    decode_more newer sent count first items lists last
    (omega (arith, within, total_one one_ack (alone frame) items)) decode
decode_more newer sent count first (block stream end octets ∷ items) lists last within decode =
    let few : count + total one_ack items ≤ settings_count sent =
    omega (arith, within, total_one one_ack (block stream end octets) items) in (
      decode.0,
      decode.1,
      decode.2,
      decode.3,
      decode_more newer sent count first items decode.1 decode.2 few decode.4,
      rw (own_older 1 4096 (count + total one_ack items) newer sent few) decode.5,
    )
