use Rattle.hpack.proofs.decode.block.decode_block.Goals as goal

pub into_list-built-requires : goal.into_list-built-requires
into_list-built-requires c =
    (c.in_default.ensures.ok.2 c.args.list_limit c.in_room_of-builder.ensures).within

pub returns-clause-ok : goal.returns-clause-ok
returns-clause-ok c =
    let built = c.in_default.ensures.ok in (
      built.0,
      built.1,
      c.into_list-built.ensures c.args.list_limit built.0
          (built.2 c.args.list_limit c.in_room_of-builder.ensures),
    )
