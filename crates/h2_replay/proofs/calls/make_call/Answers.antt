-- By the lemmas on each call.
use Rattle.h2_replay.proofs.Names.{refl, subst, List, ℕ, arith, Field, SendData, Number, Count}
use Rattle.h2_replay.proofs.Names.{Done, ConnAnswers, answer_by, IsTypedAct}
use Rattle.h2_spec_log.specs.Acts.{Open, SendFields}
use Rattle.hpack.specs.Written.{AreOctets}
use Rattle.std.specs.List.{AllByRecursion}
use Rattle.hpack_text.specs.Bits.{IsOctet}
use Rattle.h2_replay.proofs.CallLemmas.{answered_call, shown_call, put_out_call, typed_as, makes_as}
use Rattle.h2_replay.proofs.CallLemmas.{shows_itself}
use Rattle.h2_replay.proofs.calls.make_call.Goals as goal

pub returns-in-Open-clause-typed : goal.returns-in-Open-clause-typed
unfolding IsTypedAct
returns-in-Open-clause-typed c =
    typed_as _ _ c.in-Open.is (subst (λ (f : List Field). AreOctets f) c.deref.ensures.value
    c.open.ensures.octets)

pub returns-in-Open-clause-makes : goal.returns-in-Open-clause-makes
returns-in-Open-clause-makes c =
    makes_as _ _ c.args.conn.now c.open.new.self _ _ c.in-Open.is
    (answered_call c.args.conn.now c.open.new.self _ _ _ _ c.opened.ensures
    (shows_itself (λ id. Number id) c.open.result (λ id. refl)) tt c.requires.none
    (subst (λ (f : List Field). ConnAnswers c.args.conn.now (Open f c.in-Open.end)
    (answer_by (λ id. Number id) c.open.result) c.open.new.self) c.deref.ensures.value
    c.open.ensures.answers))

pub returns-in-Fields-clause-typed : goal.returns-in-Fields-clause-typed
unfolding IsTypedAct
returns-in-Fields-clause-typed c =
    typed_as _ _ c.in-Fields.is (
      omega arith,
      subst (λ (f : List Field). AreOctets f)
          c.deref-in-Fields.ensures.value c.fields.ensures.octets,
    )

pub returns-in-Fields-clause-makes : goal.returns-in-Fields-clause-makes
returns-in-Fields-clause-makes c =
    makes_as _ _ c.args.conn.now c.fields.new.self _ _ c.in-Fields.is
    (answered_call c.args.conn.now c.fields.new.self _ _ _ _ c.done.ensures
    (shows_itself (λ done. Done) c.fields.result (λ id. refl)) tt c.requires.none
    (subst (λ (f : List Field). ConnAnswers c.args.conn.now (SendFields c.in-Fields.id f
    c.in-Fields.end) (answer_by (λ done. Done) c.fields.result) c.fields.new.self)
    c.deref-in-Fields.ensures.value c.fields.ensures.answers))

pub returns-in-Data-clause-typed : goal.returns-in-Data-clause-typed
unfolding IsTypedAct
returns-in-Data-clause-typed c =
    typed_as _ _ c.in-Data.is (
      omega arith,
      subst (λ (o : List ℕ). AllByRecursion IsOctet o)
          c.deref-in-Data.ensures.value c.data.ensures.octets,
    )

pub returns-in-Data-clause-makes : goal.returns-in-Data-clause-makes
returns-in-Data-clause-makes c =
    makes_as _ _ c.args.conn.now c.data.new.self _ _ c.in-Data.is
    (answered_call c.args.conn.now c.data.new.self _ _ _ _ c.counted.ensures
    (shows_itself (λ count. Count count) c.data.result (λ id. refl)) tt c.requires.none
    (subst (λ (o : List ℕ). ConnAnswers c.args.conn.now (SendData c.in-Data.id o c.in-Data.end)
    (answer_by (λ count. Count count) c.data.result) c.data.new.self)
    c.deref-in-Data.ensures.value c.data.ensures.answers))

pub returns-in-Release-clause-typed : goal.returns-in-Release-clause-typed
unfolding IsTypedAct
returns-in-Release-clause-typed c = typed_as _ _ c.in-Release.is (omega arith, omega arith)

pub returns-in-Release-clause-makes : goal.returns-in-Release-clause-makes
returns-in-Release-clause-makes c =
    makes_as _ _ c.args.conn.now c.release.new.self _ _ c.in-Release.is
    (answered_call c.args.conn.now c.release.new.self _ _ _ _ c.done-in-Release.ensures
    (shows_itself (λ done. Done) c.release.result (λ id. refl)) tt c.requires.none
    c.release.ensures)

pub returns-in-Widen-clause-typed : goal.returns-in-Widen-clause-typed
unfolding IsTypedAct
returns-in-Widen-clause-typed c = typed_as _ _ c.in-Widen.is (omega arith)

pub returns-in-Widen-clause-makes : goal.returns-in-Widen-clause-makes
returns-in-Widen-clause-makes c =
    makes_as _ _ c.args.conn.now c.widen.new.self _ _ c.in-Widen.is
    (answered_call c.args.conn.now c.widen.new.self _ _ _ _ c.done-in-Widen.ensures
    (shows_itself (λ done. Done) c.widen.result (λ id. refl)) tt c.requires.none c.widen.ensures)

pub returns-in-Reset-clause-typed : goal.returns-in-Reset-clause-typed
unfolding IsTypedAct
returns-in-Reset-clause-typed c = typed_as _ _ c.in-Reset.is (omega arith, omega arith)

pub returns-in-Reset-clause-makes : goal.returns-in-Reset-clause-makes
returns-in-Reset-clause-makes c =
    makes_as _ _ c.args.conn.now c.reset.new.self _ _ c.in-Reset.is
    (answered_call c.args.conn.now c.reset.new.self _ _ _ _ c.done-in-Reset.ensures
    (shows_itself (λ done. Done) c.reset.result (λ id. refl)) tt c.requires.none c.reset.ensures)

pub returns-in-Refuse-clause-typed : goal.returns-in-Refuse-clause-typed
unfolding IsTypedAct
returns-in-Refuse-clause-typed c = typed_as _ _ c.in-Refuse.is (omega arith, omega arith)

pub returns-in-Refuse-clause-makes : goal.returns-in-Refuse-clause-makes
returns-in-Refuse-clause-makes c =
    makes_as _ _ c.args.conn.now c.refuse.new.self _ _ c.in-Refuse.is
    (shown_call c.args.conn.now c.refuse.new.self _ _ _ _ c.done-in-Refuse.ensures
    tt c.requires.none c.refuse.ensures)

pub returns-in-Ping-clause-typed : goal.returns-in-Ping-clause-typed
returns-in-Ping-clause-typed c = typed_as _ _ c.in-Ping.is c.pinged.ensures.typed

pub returns-in-Ping-clause-makes : goal.returns-in-Ping-clause-makes
returns-in-Ping-clause-makes c =
    makes_as _ _ c.args.conn.now c.pinged.new.conn _ _ c.in-Ping.is
    (rw c.requires.none c.pinged.ensures.makes)

pub returns-in-GoAway-clause-typed : goal.returns-in-GoAway-clause-typed
unfolding IsTypedAct
returns-in-GoAway-clause-typed c = typed_as _ _ c.in-GoAway.is tt

pub returns-in-GoAway-clause-makes : goal.returns-in-GoAway-clause-makes
returns-in-GoAway-clause-makes c =
    makes_as _ _ c.args.conn.now c.go_away.new.self _ _ c.in-GoAway.is
    (answered_call c.args.conn.now c.go_away.new.self _ _ _ _ c.done-in-GoAway.ensures
    (shows_itself (λ done. Done) c.go_away.result (λ id. refl)) tt c.requires.none
    c.go_away.ensures)

pub returns-in-Fail-clause-typed : goal.returns-in-Fail-clause-typed
unfolding IsTypedAct
returns-in-Fail-clause-typed c = typed_as _ _ c.in-Fail.is tt

pub returns-in-Fail-clause-makes : goal.returns-in-Fail-clause-makes
returns-in-Fail-clause-makes c =
    makes_as _ _ c.args.conn.now c.fail.new.self _ _ c.in-Fail.is
    (answered_call c.args.conn.now c.fail.new.self _ _ _ _ c.done-in-Fail.ensures
    (shows_itself (λ done. Done) c.fail.result (λ id. refl)) tt c.requires.none
    c.fail.ensures)

pub returns-in-PutOut-clause-typed : goal.returns-in-PutOut-clause-typed
unfolding IsTypedAct
returns-in-PutOut-clause-typed c = typed_as _ _ c.in-PutOut.is (omega arith)

pub returns-in-PutOut-clause-makes : goal.returns-in-PutOut-clause-makes
returns-in-PutOut-clause-makes c =
    makes_as _ _ c.args.conn.now c.put_out.new.self _ _ c.in-PutOut.is
    (put_out_call c.put_out.result c.args.conn.now c.put_out.new.self _ _ _ _
    c.counted-in-PutOut.ensures c.requires.none c.put_out.ensures.answers c.put_out.ensures.ok
    c.put_out.ensures.err)

pub returns-in-ChangeSettings-clause-typed : goal.returns-in-ChangeSettings-clause-typed
unfolding IsTypedAct
returns-in-ChangeSettings-clause-typed c =
    typed_as _ _ c.in-ChangeSettings.is c.in-ChangeSettings.config.in_range

pub returns-in-ChangeSettings-clause-makes : goal.returns-in-ChangeSettings-clause-makes
returns-in-ChangeSettings-clause-makes c =
    makes_as _ _ c.args.conn.now c.change_settings.new.self _ _ c.in-ChangeSettings.is
    (answered_call c.args.conn.now c.change_settings.new.self _ _ _ _
    c.done-in-ChangeSettings.ensures (shows_itself (λ done. Done) c.change_settings.result
    (λ id. refl)) tt c.requires.none c.change_settings.ensures)
