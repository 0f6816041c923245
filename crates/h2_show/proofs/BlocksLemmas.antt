-- Frames are taken one by one: they group, and their blocks decode.
use Rattle.h2_show.proofs.Names.{◌≡◌, ℕ, Bool, false, List, [], ◌∷◌, ◌++◌, None, MatchOption, refl}
use Rattle.h2_show.proofs.Names.{subst, inr, Frame, Item, alone, block, Entries, DecodesInto}
use Rattle.h2_show.proofs.Names.{Blocks, BlockError, EndsWithBlockError, BlocksRepresent}
use Rattle.h2_show.proofs.Names.{BlockErrorReports, Field, rules}
use Rattle.h2_block.specs.declared.fault.BlockFault.{BlockFault}
use Rattle.h2_block.specs.declared.fault.BlockFault.TheVariants as grouping
use Rattle.h2_block.specs.Gather.{GatherState, GatherRepresents, GatherFaults, GatherFails}
use Rattle.h2_block.specs.Gather.{block_fault_code}
use Rattle.hpack.specs.declared.types.field.Decoded.{Decoded}
use Rattle.h2_show.specs.declared.blocks.BlockError.TheVariants as errors
use Rattle.h2_show.specs.Blocks.{ItemsDecode, error_of_grouping, DecodingErrorReports}

-- items that decode, and others after them, decode together
decode_append : (table mid after : Entries) (items others : List Item)
    → ItemsDecode table items mid → ItemsDecode mid others after
    → ItemsDecode table (items ++ others) after
decode_append table mid after [] others first then =
    subst (λ (from : Entries). ItemsDecode from others after) first then
decode_append table mid after (alone frame ∷ items) others first then =
    decode_append table mid after items others first then
decode_append table mid after (block stream end octets ∷ items) others (fields, next, one, more)
    then = (fields, next, one, decode_append next mid after items others more then)

-- a frame that is passed on
pub represent_alone : (blocks : Blocks) (gather : GatherState) (frame passed : Frame)
    (frames : List Frame)
    → ((so_far : List Frame) (items : List Item) → GatherRepresents blocks.gather so_far items
    → GatherRepresents gather (so_far ++ frame ∷ []) (items ++ alone passed ∷ []))
    → BlocksRepresent blocks frames
    → BlocksRepresent (record { gather = gather; decoder = blocks.decoder; list = blocks.list })
    (frames ++ frame ∷ [])
represent_alone blocks gather frame passed frames continues represents =
    let decoded = represents.decoded in
    let after = continues frames decoded.items
    (record { sound = represents.grouping; split = decoded.grouped }) in
    record {
      grouping = after.sound;
      decoding = represents.decoding;
      limit = represents.limit;
      decoded = record {
        items = decoded.items ++ alone passed ∷ [];
        grouped = after.split;
        decoded = decode_append _ blocks.decoder.table _ decoded.items (alone passed ∷ [])
            decoded.decoded refl;
      };
    }

-- a frame of a block that isn't complete
pub represent_more : (blocks : Blocks) (gather : GatherState) (frame : Frame)
    (frames : List Frame)
    → ((so_far : List Frame) (items : List Item) → GatherRepresents blocks.gather so_far items
    → GatherRepresents gather (so_far ++ frame ∷ []) (items ++ []))
    → BlocksRepresent blocks frames
    → BlocksRepresent (record { gather = gather; decoder = blocks.decoder; list = blocks.list })
    (frames ++ frame ∷ [])
represent_more blocks gather frame frames continues represents =
    let decoded = represents.decoded in
    let after = continues frames decoded.items
    (record { sound = represents.grouping; split = decoded.grouped }) in
    record {
      grouping = after.sound;
      decoding = represents.decoding;
      limit = represents.limit;
      decoded = record {
        items = decoded.items ++ [];
        grouped = after.split;
        decoded = decode_append _ blocks.decoder.table _ decoded.items [] decoded.decoded refl;
      };
    }

-- a frame that ends a block, which decodes
pub represent_block : (blocks new : Blocks) (gather : GatherState) (frame : Frame)
    (frames : List Frame) (stream : ℕ) (end : Bool) (octets : List ℕ) (ended : Decoded)
    (fields : List Field)
    → ((so_far : List Frame) (items : List Item) → GatherRepresents blocks.gather so_far items
    → GatherRepresents gather (so_far ++ frame ∷ []) (items ++ block stream end octets ∷ []))
    → new.gather ≡ gather → DecodesInto blocks.decoder octets 65536 ended fields new.decoder
    → BlocksRepresent blocks frames → BlocksRepresent new (frames ++ frame ∷ [])
represent_block blocks new gather frame frames stream end octets ended fields continues same
    decodes represents =
    let decoded = represents.decoded in
    let after = continues frames decoded.items
    (record { sound = represents.grouping; split = decoded.grouped }) in
    let table : new.decoder.table ≡ decodes.after = rw decodes.state refl in
    record {
      grouping = rw same after.sound;
      decoding = rw decodes.state refl;
      limit = rw decodes.state represents.limit;
      decoded = record {
        items = decoded.items ++ block stream end octets ∷ [];
        grouped = rw same after.split;
        decoded = decode_append _ blocks.decoder.table _ decoded.items
            (block stream end octets ∷ []) decoded.decoded
            (decodes.fields, decodes.after, rw represents.limit at decodes.block, table);
      };
    }

-- where the gatherer had no fault, a frame that it refuses doesn't group
misgrouped : (blocks : Blocks) (gather : GatherState) (frame : Frame) (frames : List Frame)
    (fault : BlockFault)
    → MatchOption blocks.gather.fault (GatherFaults blocks.gather frame fault gather)
    (λ known. gather ≡ blocks.gather)
    → BlocksRepresent blocks frames
    → EndsWithBlockError (frames ++ frame ∷ []) (block_fault_code fault)
misgrouped blocks gather frame frames fault fails represents = search rules

-- what the gatherer's fault reports of the frames
pub grouping_error_reports : (blocks : Blocks) (gather : GatherState) (frame : Frame)
    (frames : List Frame) (fault : BlockFault) → GatherFails blocks.gather frame fault gather
    → BlocksRepresent blocks frames
    → BlockErrorReports (frames ++ frame ∷ []) (error_of_grouping fault)
grouping_error_reports blocks gather frame frames grouping.Memory fails represents = tt
grouping_error_reports blocks gather frame frames fault fails represents =
    misgrouped blocks gather frame frames fault fails represents

-- what an error of decoding a block reports of the frames
pub decoding_error_reports : (blocks : Blocks) (gather : GatherState) (frame : Frame)
    (frames : List Frame) (stream : ℕ) (end : Bool) (octets : List ℕ) (error : BlockError)
    → ((so_far : List Frame) (items : List Item) → GatherRepresents blocks.gather so_far items
    → GatherRepresents gather (so_far ++ frame ∷ []) (items ++ block stream end octets ∷ []))
    → gather.begun ≡ None
    → (blocks.decoder.failed ≡ false → DecodingErrorReports blocks.decoder octets error)
    → BlocksRepresent blocks frames → BlockErrorReports (frames ++ frame ∷ []) error
decoding_error_reports blocks gather frame frames stream end octets errors.Memory continues ended
    undecoded represents = tt
decoding_error_reports blocks gather frame frames stream end octets (errors.Fault code) continues
    ended undecoded represents =
    let decoded = represents.decoded in
    let after = continues frames decoded.items
    (record { sound = represents.grouping; split = decoded.grouped }) in
    let known = undecoded represents.decoding in
    inr (record {
      items = decoded.items;
      table = blocks.decoder.table;
      stream = stream;
      end = end;
      octets = octets;
      grouped = rw ended at after.split;
      decoded = decoded.decoded;
      none = rw represents.limit at known.0;
      coded = known.1;
    })
