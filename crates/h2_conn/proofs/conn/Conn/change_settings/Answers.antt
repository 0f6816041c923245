-- By the lemmas on a call's answer, and on the cutter's limit that is set.
use Rattle.h2_conn.proofs.Names.{refl, err_from_is_err_and, ChangeSettings, values_of, end_of}
use Rattle.h2_conn.proofs.Names.{limit_in_range, IsTypedAct, may_lack_memory}
use Rattle.h2_conn.proofs.AskCalls.{change_answers, refused_answers, up_if_free}
use Rattle.h2_conn.proofs.AskSound.{call_kept, sound_by}
use Rattle.h2_conn.proofs.WhyCalls.{represented}
use Rattle.h2_conn.proofs.conn.Conn.change_settings.Goals as goal

pub invariant_of-self : goal.invariant_of-self
unfolding IsTypedAct
invariant_of-self c =
    assumption (call_kept c.change_settings.result _ _
    (ChangeSettings (values_of c.args.config)) _ refl
    c.args.config.in_range
    c.args.self.now.sound c.args.self.now.cuts
    c.change_settings.ensures.ok c.change_settings.ensures.err)

pub returns-in_err-change_settings : goal.returns-in_err-change_settings
unfolding IsTypedAct may_lack_memory
returns-in_err-change_settings c =
    let answer = err_from_is_err_and c.from_residual.result c.from_residual.ensures.1 in
    rw (answer.1, answer.2) (represented {act = ChangeSettings (values_of c.args.config)} refl
    c.args.config.in_range (refused_answers _ _ _ (ChangeSettings (values_of c.args.config))
    c.in_err-change_settings.field-0.0 refl c.args.config.in_range (λ memory. refl)
    c.in_err-change_settings.ensures.err))

pub returns : goal.returns
unfolding IsTypedAct
returns c =
    let e = end_of c.args.self.now.end in
    let new = end_of c.change_settings.new.self in
    let act = ChangeSettings (values_of c.args.config) in
    let accepted = c.in_ok-change_settings.ensures.ok in
    let sound = sound_by c.change_settings.result e new act c.args.config.in_range
    (c.args.self.now.sound (up_if_free e act refl accepted.free))
    c.change_settings.ensures.ok c.change_settings.ensures.err in
    rw (
      c.limit_payloads.ensures.end,
      c.limit_payloads.ensures.counts,
      c.limit_payloads.ensures.why,
    ) (represented {act = act} refl c.args.config.in_range (change_answers
    c.args.self.now.cutter c.limit_payloads.new.self.cutter e new (values_of c.args.config)
    c.args.config.in_range accepted c.limit_payloads.ensures.cutter
    (limit_in_range new sound.ranges)))
