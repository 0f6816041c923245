-- By the count of the frames' octets; a payload longer than every block makes no other frames.
use Rattle.std.proofs.Common.{◌≡◌, ◌≤◌, Bool, List, ℕ, ◌++◌, length, ap, ◌∙◌, arith, min}
use Rattle.h2_frame.specs.Frames.{Frame}
use Rattle.h2_block.specs.Spread.{spread_frames, encoding_of_frames}
use Rattle.h2_block.proofs.SpreadLemmas.{spread_frames-capped}
use Rattle.h2_block.proofs.SpreadLengths.{length-spread_frames}
use Rattle.h2_block.proofs.spreading.spread.Goals as goal

-- the frames are those of the payload that the caller names
capped : (payload most stream : ℕ) (end : Bool) (octets : List ℕ) → payload ≡ min most 65552
    → length octets ≤ 65552
    → spread_frames payload stream end octets ≡ spread_frames most stream end octets
capped payload most stream end octets is within =
    ap (λ (n : ℕ). spread_frames n stream end octets) is
    ∙ spread_frames-capped most 65552 stream end octets within

pub returns-then-is_err-clause-room : goal.returns-then-is_err-clause-room
returns-then-is_err-clause-room c = λ enough.
    let same =
    capped c.min-payload.result c.args.most c.args.stream c.args.end c.args.octets.now
    c.min-payload.ensures c.requires.length in
    let counted =
    length-spread_frames c.min-payload.result c.args.stream c.args.end c.args.octets.now
    (omega (arith, c.min-payload.ensures, c.requires.payload)) in
    let needed = ap (λ (frames : List Frame). length (encoding_of_frames frames)) same in
    let succeeds =
    c.reserve.ensures.succeeds (omega (arith, counted, needed, enough, c.encoded_len.ensures)) in
    let failed = c.if-is_err.ensures.negation in
    grind arith

pub append_block-requires-clause-room : goal.append_block-requires-clause-room
append_block-requires-clause-room c =
    let counted =
    length-spread_frames c.min-payload.result c.args.stream c.args.end c.args.octets.now
    (omega (arith, c.min-payload.ensures, c.requires.payload)) in
    let reserved = c.reserve.ensures.ok in
    let failed = c.if-is_err.ensures.negation in
    grind (arith, counted)

pub returns-clause-ok : goal.returns-clause-ok
returns-clause-ok c =
    let same =
    capped c.min-payload.result c.args.most c.args.stream c.args.end c.args.octets.now
    c.min-payload.ensures c.requires.length in
    rw (← same) (c.append_block.ensures.items
    ∙ ap (λ (items : List ℕ). items ++ encoding_of_frames
    (spread_frames c.min-payload.result c.args.stream c.args.end c.args.octets.now))
    c.reserve.ensures.items)
