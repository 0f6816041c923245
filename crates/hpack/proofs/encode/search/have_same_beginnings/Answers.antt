use Rattle.hpack.proofs.Names.{arith}
use Rattle.hpack.proofs.WordLemmas.{words_same, octets_drop, left_same, left_more}
use Rattle.hpack.proofs.encode.search.have_same_beginnings.Goals as goal

pub loop-left-preserved : goal.loop-left-preserved
loop-left-preserved c =
    let left = c.loop-left.left.now in
    let others_left = c.loop-left.others_left.now in
    let more = c.in-Some-Some.more.now in
    let others_more = c.in-Some-Some.others_more.now in
    let one = c.in-Some-Some.ensures.cases in
    let two = c.in-Some-Some.ensures'.cases in
    let same = words_same left others_left c.in-Some-Some.word.now c.in-Some-Some.other.now more
    others_more c.from_le_bytes.result c.from_le_bytes-in-loop-left.result one.0 one.1 one.2 two.0
    two.1 two.2 c.loop-left.invariant.octets c.loop-left.invariant.others c.from_le_bytes.ensures
    c.from_le_bytes-in-loop-left.ensures c.if-from_le_bytes.false in
    record {
      left = left_more c.args.octets.now c.args.others.now left others_left more others_more
          c.loop-left.invariant.left one.1 one.2 two.1 same;
      length = omega (arith, one.2, two.2, c.loop-left.invariant.length);
      octets = octets_drop 8 left more one.1 c.loop-left.invariant.octets;
      others = octets_drop 8 others_left others_more two.1 c.loop-left.invariant.others;
    }

pub returns : goal.returns
returns c =
    left_same c.args.octets.now c.args.others.now c.loop-left.left.now c.loop-left.others_left.now
    c.loop-left.invariant.left c.requires.long c.loop-left-test.false c.requires.last
