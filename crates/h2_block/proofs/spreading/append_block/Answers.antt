-- HEADERS and CONTINUATIONs are appended one after another, and none is left at the end.
use Rattle.std.proofs.Common.{None, length, arith, vec_capacity, sym}
use Rattle.std.proofs.lemmas.Bool.{eqb-true}
use Rattle.h2_frame.specs.Frames.{Headers, Continuation}
use Rattle.h2_block.proofs.SpreadLemmas.{cut_at, cut_few, some_left, spread_frames-cut}
use Rattle.h2_block.proofs.SpreadLemmas.{left_frames-cut, headers_writable, continuation_writable}
use Rattle.h2_block.proofs.SpreadLemmas.{so_far-first, so_far-more, so_far-all, so_far-room}
use Rattle.h2_block.proofs.SpreadLemmas.{first-room}
use Rattle.h2_block.proofs.spreading.append_block.Goals as goal

pub append-requires : goal.append-requires
append-requires c =
    let cut =
    cut_at _ _ _ _ _ _ c.min.ensures c.split_at.ensures.front c.split_at.ensures.back
    c.is_empty.ensures in
    record {
      writable = (headers_writable c.args.most c.args.stream c.args.end c.is_empty.result
          c.split_at.result.0.now c.requires.payload_length c.requires.at_least c.requires.at_most
          (cut_few _ _ _ _ _ cut)).0;
      room = first-room _ _ _ _
          (Headers c.args.stream c.args.end c.is_empty.result c.split_at.result.0.now None None)
          c.args.stream c.split_at.result.1.now
          (spread_frames-cut c.args.most c.args.stream c.args.end c.args.octets.now _ _ _
          c.requires.payload cut) c.requires.room;
    }

pub loop-rest-init : goal.loop-rest-init
loop-rest-init c =
    let cut =
    cut_at _ _ _ _ _ _ c.min.ensures c.split_at.ensures.front c.split_at.ensures.back
    c.is_empty.ensures in
    record {
      so_far =
          so_far-first _ _ _ _
          (Headers c.args.stream c.args.end c.is_empty.result c.split_at.result.0.now None None)
          c.args.stream c.split_at.result.1.now
          (spread_frames-cut c.args.most c.args.stream c.args.end c.args.octets.now _ _ _
          c.requires.payload cut) c.append.ensures.items;
      capacity = c.append.ensures.capacity;
    }

pub append-requires-in-loop-rest : goal.append-requires-in-loop-rest
append-requires-in-loop-rest c =
    let rest = c.loop-rest.rest.now in
    let cut =
    cut_at _ _ _ _ _ _ c.min-in-loop-rest.ensures c.split_at-in-loop-rest.ensures.front
    c.split_at-in-loop-rest.ensures.back c.is_empty-in-loop-rest-2.ensures in
    let split =
    left_frames-cut c.args.most c.args.stream rest _ _ _ c.requires.payload
    (some_left (length rest) c.loop-rest-test.ensures) cut in
    let enough =
    so_far-room _ _ _ _ c.args.stream rest _
    (Continuation c.args.stream c.is_empty-in-loop-rest-2.result
    c.split_at-in-loop-rest.result.0.now)
    (vec_capacity c.loop-rest.out) c.loop-rest.invariant.so_far split
    (omega (arith, c.requires.room, c.loop-rest.invariant.capacity, c.args.out.now.ok.0)) in
    record {
      writable = (continuation_writable c.args.most c.args.stream c.is_empty-in-loop-rest-2.result
          c.split_at-in-loop-rest.result.0.now c.requires.payload_length c.requires.at_least
          c.requires.at_most (cut_few _ _ _ _ _ cut)).0;
      room = omega (arith, enough, c.loop-rest.out.ok.0);
    }

pub loop-rest-preserved : goal.loop-rest-preserved
loop-rest-preserved c =
    let rest = c.loop-rest.rest.now in
    let cut =
    cut_at _ _ _ _ _ _ c.min-in-loop-rest.ensures c.split_at-in-loop-rest.ensures.front
    c.split_at-in-loop-rest.ensures.back c.is_empty-in-loop-rest-2.ensures in
    let split =
    left_frames-cut c.args.most c.args.stream rest _ _ _ c.requires.payload
    (some_left (length rest) c.loop-rest-test.ensures) cut in
    record {
      so_far =
          so_far-more _ _ _ _ _ c.args.stream rest _
          (Continuation c.args.stream c.is_empty-in-loop-rest-2.result
          c.split_at-in-loop-rest.result.0.now)
          c.loop-rest.invariant.so_far split c.append-in-loop-rest.ensures.items;
      capacity = omega (
        arith,
        c.loop-rest.invariant.capacity,
        c.append-in-loop-rest.ensures.capacity,
      );
    }

pub returns-clause-items : goal.returns-clause-items
returns-clause-items c =
    so_far-all _ _ _ _ c.args.stream c.loop-rest.rest.now c.loop-rest.invariant.so_far
    (eqb-true (length c.loop-rest.rest.now) 0 (sym c.loop-rest-test.ensures))
