use Rattle.std.proofs.Common.{inl, inr, refl, ◌∙◌}
use Rattle.h2_server.specs.Exchanges.{handling_of}
use Rattle.h2_server.specs.Deferring.{is_expired_at, kept_in_time}
use Rattle.h2_server.proofs.Asked.{changed_all, changed_begin, changed_emptied, changed_on}
use Rattle.h2_server.proofs.Asked.{none_to_begin}
use Rattle.h2_server.proofs.Expired.{none_expired_all, none_expired_on}
use Rattle.h2_server.proofs.exchanges.Exchanges.expire.Goals as goal

pub loop-id-init : goal.loop-id-init
loop-id-init g c = record {
  handler = refl;
  changed = changed_begin (kept_in_time c.args.limit c.args.now) c.args.self.now.kept.entries;
  sends = inl (none_to_begin (is_expired_at c.args.limit c.args.now) refl _);
  keeps = λ noted. noted;
}

pub loop-id-preserved : goal.loop-id-preserved
loop-id-preserved g c = record {
  handler = c.expire_on.ensures.alters.handler ∙ c.loop-id.invariant.handler;
  changed = changed_on (kept_in_time c.args.limit c.args.now) c.args.self.now.kept.entries
      c.loop-id.self.kept.entries c.expire_on.new.self.kept.entries c.loop-id.above c.in-Some.id
      c.loop-id.invariant.changed c.in-Some.ensures.next c.expire_on.ensures.alters.now.at
      c.expire_on.ensures.alters.now.others;
  sends = elim c.loop-id.invariant.sends [
    | inl before ↦ elim c.expire_on.ensures.more [
      | inl this ↦
          inl (none_expired_on c.args.limit c.args.now c.args.self.now.kept.entries
          c.loop-id.self.kept.entries c.loop-id.above c.in-Some.id c.loop-id.invariant.changed
          c.in-Some.ensures.next before this)
      | inr noted ↦ inr noted
    ]
    | inr noted ↦ inr (c.expire_on.ensures.keeps noted)
  ];
  keeps = λ noted. c.expire_on.ensures.keeps (c.loop-id.invariant.keeps noted);
}

pub returns : goal.returns
returns g c = record {
  each = record {
    handler = c.loop-id.invariant.handler;
    each = changed_all (kept_in_time c.args.limit c.args.now) c.args.self.now.kept.entries
        c.loop-id.self.kept.entries c.loop-id.above c.loop-id.invariant.changed
        c.in_default.ensures.next;
  };
  more = elim c.loop-id.invariant.sends [
    | inl before ↦
        inl (none_expired_all c.args.limit c.args.now c.args.self.now.kept.entries
        c.loop-id.self.kept.entries c.loop-id.above c.loop-id.invariant.changed
        c.in_default.ensures.next before)
    | inr noted ↦ inr noted
  ];
  keeps = c.loop-id.invariant.keeps;
  emptied = changed_emptied (kept_in_time c.args.limit c.args.now) (handling_of c.args.self.now)
      (handling_of c.loop-id.self) c.loop-id.above c.loop-id.invariant.changed
      c.in_default.ensures.next;
}
