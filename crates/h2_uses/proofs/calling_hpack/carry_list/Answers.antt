-- The block that was encoded is one of the list, and octets are one block at most.
use Rattle.std.proofs.Common.{◌≡◌, ◌≤◌, arith, vec_items}
use Rattle.std.proofs.lemmas.Result.{IfOk-weaker}
use Rattle.hpack.specs.Blocks.{Block}
use Rattle.hpack.specs.Lists.{IsList, empty_table}
use Rattle.h2_uses.proofs.calling_hpack.carry_list.Goals as goal

pub returns : goal.returns
returns c =
    let within : c.in_ok-encoder.encoder.limit ≤ 4096 =
    rw c.in_ok-encoder.ensures.ok (omega arith) in
    let sent : Block (empty_table 4096) 4096 (vec_items c.encode.new.out) c.args.fields.now
    c.encode.new.self.table =
    rw (c.in_ok-encode.ensures.ok.0, c.new-block.ensures.items, c.in_ok-encoder.ensures.ok)
    (rw c.in_ok-encoder.ensures.ok at (c.in_ok-encode.ensures.block 4096 within)) in
    IfOk-weaker c.decode.result _ (λ list. IsList 65536 c.args.fields.now list)
    (λ list given.
    let read : Block (empty_table 4096) 4096 (vec_items c.encode.new.out) given.1.fields
    given.1.after =
    rw (c.in_ok-decoder.ensures.ok, c.deref.ensures.value) at given.1.block in
    let same : c.args.fields.now ≡ given.1.fields =
    (c.one_block.ensures (empty_table 4096) c.encode.new.self.table given.1.after 4096
    (vec_items c.encode.new.out) c.args.fields.now given.1.fields sent read).0 in
    rw same given.1.handed)
    c.decode.ensures.ok
