-- Frames are taken one by one, and their lines are shown.
use Rattle.h2_show.proofs.Names.{◌≡◌, ℕ, Bool, true, List, [], ◌∷◌, ◌++◌, Option, None, Some, refl, sym}
use Rattle.h2_show.proofs.Names.{◌∙◌, ap, subst, append_assoc, append-nil, map, arith}
use Rattle.h2_show.proofs.Names.{nat_tests, map-append, Listing, Frame, Item, alone, block, Begun}
use Rattle.h2_show.proofs.Names.{Field, DecodesInto, HoldsList, Entries, Blocks}
use Rattle.h2_show.proofs.Names.{BlocksRepresent, ShowLine, frame_shown, listing_of, decoded_listing}
use Rattle.h2_show.proofs.Names.{BlocksShow, AreShown, frame_lines, common_steps, rules}
use Rattle.h2_block.specs.Grouping.{IsLeft, IsItem, is_standalone, AreItems}
use Rattle.h2_block.specs.Gather.{GatherState, GatherRepresents}
use Rattle.hpack.specs.declared.types.field.Decoded.{Decoded}
use Rattle.hpack.specs.Blocks.{Block}
use Rattle.h2_show.specs.Blocks.{ItemsDecode}

-- items that are shown, and others after them, are shown together
shown_append : (table mid after : Entries) (items others : List Item) (frames more : List Frame)
    (lines rest : List ShowLine) → AreShown table items frames mid lines
    → AreShown mid others more after rest
    → AreShown table (items ++ others) (frames ++ more) after (lines ++ rest)
shown_append table mid after [] others frames more lines rest (none, same, empty) later =
    rw (none, empty, ← same) later
shown_append table mid after (alone frame ∷ items) others frames more lines rest
    (following, text, joined, is, all, one) later = (
      following ++ more,
      text ++ rest,
      ap (λ (some : List Frame). some ++ more) joined,
      is,
      ap (λ (some : List ShowLine). some ++ rest) all,
      shown_append table mid after items others following more text rest one later,
    )
shown_append table mid after (block stream end octets ∷ items) others frames more lines rest
    (first, last, following, text, fields, next, joined, is, decoded, all, one) later = (
      first,
      last,
      following ++ more,
      text ++ rest,
      fields,
      next,
      ap (λ (some : List Frame). some ++ more) joined
          ∙ append_assoc (first ++ last ∷ []) following more,
      is,
      decoded,
      ap (λ (some : List ShowLine). some ++ rest) all ∙ append_assoc (frame_lines first) _ rest,
      shown_append next mid after items others following more text rest one later,
    )

-- items that are shown are items
pub shown_items : (table after : Entries) (items : List Item) (frames : List Frame)
    (lines : List ShowLine) → AreShown table items frames after lines → AreItems items frames
shown_items table after [] frames lines (none, same, empty) = none
shown_items table after (alone frame ∷ items) frames lines
    (following, text, joined, is, all, one) =
    (frame ∷ [], following, joined, is, shown_items table after items following text one)
shown_items table after (block stream end octets ∷ items) frames lines
    (first, last, following, text, fields, next, joined, is, decoded, all, one) =
    (first ++ last ∷ [], following, joined, is, shown_items next after items following text one)

-- items that are shown decode
pub shown_decode : (table after : Entries) (items : List Item) (frames : List Frame)
    (lines : List ShowLine) → AreShown table items frames after lines → ItemsDecode table items after
shown_decode table after [] frames lines (none, same, empty) = same
shown_decode table after (alone frame ∷ items) frames lines
    (following, text, joined, is, all, one) = shown_decode table after items following text one
shown_decode table after (block stream end octets ∷ items) frames lines
    (first, last, following, text, fields, next, joined, is, decoded, all, one) =
    (fields, next, decoded, shown_decode next after items following text one)

-- blocks that show frames represent them
pub show_represents : (blocks : Blocks) (frames : List Frame) (lines : List ShowLine)
    → BlocksShow blocks frames lines → BlocksRepresent blocks frames
show_represents blocks frames lines shows = grind (arith, common_steps, shown_items, shown_decode)

-- before a frame that is passed on no block has begun
none_begun : (begun : Option Begun) (left others : List Frame) (frame passed : Frame)
    → IsLeft begun left → is_standalone passed ≡ true → left ++ frame ∷ [] ≡ passed ∷ others
    → left ≡ []
unfolding is_standalone
none_begun begun left others frame passed none standalone joined = search rules

-- the frames that are left are a block that has begun, and nothing precedes them
only_left : (blocks : Blocks) (frames : List Frame) (lines : List ShowLine)
    → (shows : BlocksShow blocks frames lines) → GatherRepresents blocks.gather shows.left []
only_left blocks frames lines shows = search rules

-- the lines so far where no frame is left
none_left : (blocks : Blocks) (frames : List Frame) (lines : List ShowLine)
    → (shows : BlocksShow blocks frames lines) → shows.left ≡ []
    → (frames ≡ shows.complete) × (lines ≡ shows.first)
none_left blocks frames lines shows none = grind (arith, common_steps, append-nil, map)

-- a frame that is passed on
pub show_alone : (blocks : Blocks) (gather : GatherState) (frame passed : Frame)
    (frames : List Frame) (lines : List ShowLine)
    → ((so_far : List Frame) (items : List Item) → GatherRepresents blocks.gather so_far items
    → GatherRepresents gather (so_far ++ frame ∷ []) (items ++ alone passed ∷ []))
    → BlocksShow blocks frames lines
    → BlocksShow (record { gather = gather; decoder = blocks.decoder; list = blocks.list })
    (frames ++ frame ∷ []) (lines ++ frame_shown frame None ∷ [])
show_alone blocks gather frame passed frames lines continues shows =
    let after = continues shows.left [] (only_left _ _ _ shows) in
    let (one, others, whole, is, none) = after.split.grouped in
    let joined : shows.left ++ frame ∷ [] ≡ passed ∷ after.split.left = after.split.joined ∙ ap
    (λ (some : List Frame). some ++ after.split.left) (whole ∙ (λ i. is.1 i ++ none i)) in
    let nothing = none_begun _ shows.left after.split.left _ _ shows.unfinished is.0 joined in
    let same : frame ∷ [] ≡ passed ∷ after.split.left = sym
    (ap (λ (some : List Frame). some ++ frame ∷ []) nothing) ∙ joined in
    let itself : frame ≡ passed = cc in
    let ended : after.split.left ≡ [] = cc in
    let known = none_left _ _ _ shows nothing in
    record {
      grouping = after.sound;
      decoding = shows.decoding;
      limit = shows.limit;
      items = shows.items ++ alone frame ∷ [];
      complete = shows.complete ++ frame ∷ [];
      left = [];
      first = shows.first ++ frame_shown frame None ∷ [];
      joined = ap (λ (some : List Frame). some ++ frame ∷ []) known.0 ∙ sym (append-nil _);
      shown = shown_append _ _ _ shows.items _ shows.complete _ shows.first _ shows.shown
          ([], [], refl, (ap is_standalone itself ∙ is.0, refl), refl, (refl, refl, refl));
      unfinished = subst (λ (some : List Frame). IsLeft gather.begun some) ended
          after.split.unfinished;
      all = ap (λ (some : List ShowLine). some ++ frame_shown frame None ∷ []) known.1
          ∙ sym (append-nil _);
    }

-- a frame of a block that isn't complete
pub show_more : (blocks : Blocks) (gather : GatherState) (frame : Frame)
    (frames : List Frame) (lines : List ShowLine)
    → ((so_far : List Frame) (items : List Item) → GatherRepresents blocks.gather so_far items
    → GatherRepresents gather (so_far ++ frame ∷ []) (items ++ []))
    → BlocksShow blocks frames lines
    → BlocksShow (record { gather = gather; decoder = blocks.decoder; list = blocks.list })
    (frames ++ frame ∷ []) (lines ++ frame_shown frame None ∷ [])
show_more blocks gather frame frames lines continues shows =
    let after = continues shows.left [] (only_left blocks frames lines shows) in
    let nothing : after.split.complete ≡ [] = after.split.grouped in
    let same : shows.left ++ frame ∷ [] ≡ after.split.left =
    after.split.joined ∙ ap (λ (some : List Frame). some ++ after.split.left) nothing in
    record {
      grouping = after.sound;
      decoding = shows.decoding;
      limit = shows.limit;
      items = shows.items;
      complete = shows.complete;
      left = shows.left ++ frame ∷ [];
      first = shows.first;
      joined = ap (λ (some : List Frame). some ++ frame ∷ []) shows.joined
          ∙ append_assoc shows.complete shows.left (frame ∷ []);
      shown = shows.shown;
      unfinished = subst (λ (some : List Frame). IsLeft gather.begun some) (sym same)
          after.split.unfinished;
      all = ap (λ (some : List ShowLine). some ++ frame_shown frame None ∷ []) shows.all
          ∙ append_assoc shows.first (frame_lines shows.left) (frame_shown frame None ∷ [])
          ∙ ap (λ (some : List ShowLine). shows.first ++ some)
          (sym (map-append (λ (one : Frame). frame_shown one None) shows.left (frame ∷ [])));
    }

-- what is shown of a list that holds a block's fields is what is shown of the fields
decoded_is : (fields list : List Field) (decoded : Decoded) → HoldsList 65536 fields decoded list
    → decoded_listing (Some decoded) list ≡ Some (listing_of fields)
decoded_is fields list decoded holds = grind (arith, common_steps, nat_tests)

-- a frame that ends a block, which decodes
pub show_block : (blocks new : Blocks) (gather : GatherState) (frame : Frame)
    (frames : List Frame) (lines : List ShowLine) (stream : ℕ) (end : Bool) (octets : List ℕ)
    (decoded : Decoded) (list : List Field)
    → ((so_far : List Frame) (items : List Item) → GatherRepresents blocks.gather so_far items
    → GatherRepresents gather (so_far ++ frame ∷ []) (items ++ block stream end octets ∷ []))
    → gather.begun ≡ None → new.gather ≡ gather
    → DecodesInto blocks.decoder octets 65536 decoded list new.decoder
    → BlocksShow blocks frames lines
    → BlocksShow new (frames ++ frame ∷ [])
    (lines ++ frame_shown frame (decoded_listing (Some decoded) list) ∷ [])
show_block blocks new gather frame frames lines stream end octets decoded list continues ended same
    decodes shows =
    let after = continues shows.left [] (only_left blocks frames lines shows) in
    let (one, others, whole, is, none) = after.split.grouped in
    let nothing : after.split.left ≡ [] = subst
    (λ (begun : Option Begun). IsLeft begun after.split.left) ended after.split.unfinished in
    let joined : shows.left ++ frame ∷ [] ≡ one = after.split.joined ∙ (λ i. whole i ++ nothing i) ∙
    append-nil (one ++ others) ∙ ap (λ (some : List Frame). one ++ some) none ∙ append-nil one in
    let line : ShowLine = frame_shown frame (decoded_listing (Some decoded) list) in
    let listing = decoded_is decodes.fields list decoded decodes.holds in
    record {
      grouping = rw same after.sound;
      decoding = rw decodes.state refl;
      limit = rw decodes.state shows.limit;
      items = shows.items ++ block stream end octets ∷ [];
      complete = shows.complete ++ (shows.left ++ frame ∷ []);
      left = [];
      first = shows.first ++ (frame_lines shows.left ++ line ∷ []);
      joined = ap (λ (some : List Frame). some ++ frame ∷ []) shows.joined ∙ append_assoc
          shows.complete shows.left (frame ∷ []) ∙ sym (append-nil _);
      shown = shown_append _ _ _ shows.items (block stream end octets ∷ []) shows.complete
          (shows.left ++ frame ∷ []) shows.first (frame_lines shows.left ++ line ∷ []) shows.shown (
            shows.left,
            frame,
            [],
            [],
            decodes.fields,
            decodes.after,
            sym (append-nil (shows.left ++ frame ∷ [])),
            subst (λ (some : List Frame). IsItem (block stream end octets) some) (sym joined) is,
            subst (λ (limit : ℕ). Block blocks.decoder.table limit octets decodes.fields
                decodes.after) shows.limit decodes.block,
            ap (λ (some : Option Listing). frame_lines shows.left ++ frame_shown frame some ∷ [])
                listing,
            (refl, rw decodes.state refl, refl),
          );
      unfinished = rw (same, ended) refl;
      all = ap (λ (some : List ShowLine). some ++ line ∷ []) shows.all
          ∙ append_assoc shows.first (frame_lines shows.left) (line ∷ [])
          ∙ sym (append-nil (shows.first ++ (frame_lines shows.left ++ line ∷ [])));
    }
