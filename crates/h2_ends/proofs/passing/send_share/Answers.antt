-- By what the calls of the connection answer.
use Rattle.h2_ends.proofs.Names.{inl, inr, refl, sym, ap, ◌∙◌, arith, length, is_none, Count}
use Rattle.h2_ends.proofs.Names.{true, ne_eqb, Refused, Waiting}
use Rattle.std.proofs.Common.{length-take}
use Rattle.h2_ends.proofs.SendingBody.{left_size, fields_are, typed_data, none_by}
use Rattle.h2_ends.proofs.RequestSends.{fields_typed}
use Rattle.h2_ends.proofs.PumpTokens.{octets_left}
use Rattle.h2_ends.proofs.ShareCases.{share_octets, share_ends_by, as_share, typed_share}
use Rattle.h2_ends.proofs.ShareCases.{some_octets, all_octets, last_octets, both_go, list_stopped}
use Rattle.h2_ends.proofs.ShareCases.{octets_stopped}
use Rattle.h2_ends.proofs.ShareTrailers.{all_by, trailers_as, for_conn, as_left, as_state}
use Rattle.h2_ends.proofs.ShareTrailers.{nothing_left, list_sent, list_is_stopped}
use Rattle.h2_ends.specs.Passing.{size_of}
use Rattle.h2_ends.proofs.passing.send_share.Goals.{then-size-left, else-size-left}
use Rattle.h2_ends.proofs.passing.send_share.Goals.{else-waiting-len}
use Rattle.h2_ends.proofs.passing.send_share.Goals.{then-waiting-len+in-Ok+else-sent-size+else-waiting-len-2}
use Rattle.h2_ends.proofs.passing.send_share.Goals as goal

pub returns-then-sent-size : goal.returns-then-sent-size
returns-then-sent-size c = λ old stream lend same here outgoing writes.
    let waits = c.args.waiting.now in
    let pass = c.args.pass.now in
    let most = size_of pass c.args.id in
    let left = octets_left waits in
    let whole = left_size waits _ c.len-all.ensures in
    let least = rw whole at (rw c.share_size-most.ensures at c.min-size.ensures) in
    let octets = share_octets most left left c.min-size.result refl least in
    let ends = share_ends_by most c.min-size.result left left c.if-size-left.ends
    (is_none waits.trailers) refl least
    (elim c.if-size-left.branch [
      | then-size-left u ↦ inl (
        u.if-size-left.true ∙ whole,
        u.ends-is ∙ none_by waits.trailers _
            u.is_none-ends.ensures,
      )
      | else-size-left u ↦ inr (
        (λ same. u.if-size-left.false (same ∙ sym whole)),
        u.ends-is
            ∙ ne_eqb _ _ u.if-size-left.false,
      )
    ]) in
    let typed = typed_share most c.args.id left _ (is_none waits.trailers) _ octets ends
    (typed_data c.args.id _ _ (omega arith) c.send.ensures.octets) in
    let size = length-take most left in
    let same_size = whole in
    as_state old c.args.id pass _ c.send.new.conn stream lend c.unless_spent.result _
    c.unless_spent.ensures.or
    (some_octets old c.args.id pass _ stream waits here outgoing
    (record { most = refl; turn = refl }) refl
    (omega (arith, c.if-waiting-len.true)) typed c.in-Ok.sent c.send.new.conn
    (for_conn c.send.new.conn same (as_share c.args.conn.now c.send.new.conn most c.args.id left _
    (is_none waits.trailers) _ (Count c.in-Ok.sent) octets ends c.in-Ok.ensures.answers))
    c.saturating_add-pass.ensures (lend _) (writes _) c.unless_spent.result
    (rw c.share_size-most.ensures at c.saturating_sub-pass.ensures)
    (omega (
      arith,
      c.if-sent-size.true,
      c.min-size.ensures,
      c.share_size-most.ensures,
      size,
      same_size,
    ))
    c.unless_spent.ensures.full c.unless_spent.ensures.or)

pub returns-in-Err : goal.returns-in-Err
returns-in-Err c = λ old stream lend same here outgoing writes.
    let waits = c.args.waiting.now in
    let pass = c.args.pass.now in
    let most = size_of pass c.args.id in
    let left = octets_left waits in
    let whole = left_size waits _ c.len-all.ensures in
    let least = rw whole at (rw c.share_size-most.ensures at c.min-size.ensures) in
    let octets = share_octets most left left c.min-size.result refl least in
    let ends = share_ends_by most c.min-size.result left left c.if-size-left.ends
    (is_none waits.trailers) refl least
    (elim c.if-size-left.branch [
      | then-size-left u ↦ inl (
        u.if-size-left.true ∙ whole,
        u.ends-is ∙ none_by waits.trailers _
            u.is_none-ends.ensures,
      )
      | else-size-left u ↦ inr (
        (λ same. u.if-size-left.false (same ∙ sym whole)),
        u.ends-is
            ∙ ne_eqb _ _ u.if-size-left.false,
      )
    ]) in
    let typed = typed_share most c.args.id left _ (is_none waits.trailers) _ octets ends
    (typed_data c.args.id _ _ (omega arith) c.send.ensures.octets) in
    let size = length-take most left in
    let same_size = whole in
    as_left old c.args.id pass _ c.send.new.conn stream lend c.in-Err.refusal
    c.stopped_by.result waits c.stopped_by.ensures
    (octets_stopped old c.args.id pass _ stream waits here outgoing
    (record { most = refl; turn = refl }) refl
    (omega (arith, c.if-waiting-len.true)) typed c.send.new.conn (lend _) c.in-Err.refusal
    c.stopped_by.result c.stopped_by.ensures
    (for_conn c.send.new.conn same (as_share c.args.conn.now c.send.new.conn most c.args.id left _
    (is_none waits.trailers) _ (Refused c.in-Err.refusal) octets ends c.in-Err.ensures.answers))
    refl c.share_size-most.ensures (writes _))

pub returns-then-waiting-len-2 : goal.returns-then-waiting-len-2
returns-then-waiting-len-2 c = λ old stream lend same here outgoing writes.
    let waits = c.args.waiting.now in
    let pass = c.args.pass.now in
    let most = size_of pass c.args.id in
    let left = octets_left waits in
    let whole = left_size waits _ c.len-all.ensures in
    let least = rw whole at (rw c.share_size-most.ensures at c.min-size.ensures) in
    let octets = share_octets most left left c.min-size.result refl least in
    let ends = share_ends_by most c.min-size.result left left c.if-size-left.ends
    (is_none waits.trailers) refl least
    (elim c.if-size-left.branch [
      | then-size-left u ↦ inl (
        u.if-size-left.true ∙ whole,
        u.ends-is ∙ none_by waits.trailers _
            u.is_none-ends.ensures,
      )
      | else-size-left u ↦ inr (
        (λ same. u.if-size-left.false (same ∙ sym whole)),
        u.ends-is
            ∙ ne_eqb _ _ u.if-size-left.false,
      )
    ]) in
    let typed = typed_share most c.args.id left _ (is_none waits.trailers) _ octets ends
    (typed_data c.args.id _ _ (omega arith) c.send.ensures.octets) in
    let size = length-take most left in
    let same_size = whole in
    let within = c.in-Ok.ensures.part in
    let part = ap length octets in
    all_octets old c.args.id pass _ stream waits here outgoing
    (record { most = refl; turn = refl }) refl
    (omega (arith, c.if-waiting-len.true)) typed c.in-Ok.sent c.send.new.conn
    (for_conn c.send.new.conn same (as_share c.args.conn.now c.send.new.conn most c.args.id left _
    (is_none waits.trailers) _ (Count c.in-Ok.sent) octets ends c.in-Ok.ensures.answers))
    c.saturating_add-pass.ensures (lend _) (writes _)
    (omega (
      arith,
      c.if-sent-size.false,
      c.min-size.ensures,
      c.share_size-most.ensures,
      size,
      same_size,
      within,
      part,
    ))
    (omega (arith, c.if-waiting-len-2.true))

pub returns-in_default : goal.returns-in_default
returns-in_default c = λ old stream lend same here outgoing writes.
    elim c.if-waiting-len.branch [
      | then-waiting-len+in-Ok+else-sent-size+else-waiting-len-2 w ↦
          let waits = c.args.waiting.now in
          let pass = c.args.pass.now in
          let most = size_of pass c.args.id in
          let left = octets_left waits in
          let whole = left_size waits _ w.len-all.ensures in
          let least = rw whole at (rw c.share_size-most.ensures at w.min-size.ensures) in
          let octets = share_octets most left left w.min-size.result refl least in
          let ends = share_ends_by most w.min-size.result left left w.if-size-left.ends
          (is_none waits.trailers) refl least
          (elim w.if-size-left.branch [
            | then-size-left u ↦ inl (
              u.if-size-left.true ∙ whole,
              u.ends-is ∙ none_by waits.trailers _
                  u.is_none-ends.ensures,
            )
            | else-size-left u ↦ inr (
              (λ same. u.if-size-left.false (same ∙ sym whole)),
              u.ends-is
                  ∙ ne_eqb _ _ u.if-size-left.false,
            )
          ]) in
          let typed = typed_share most c.args.id left _ (is_none waits.trailers) _ octets ends
          (typed_data c.args.id _ _ (omega arith) w.send.ensures.octets) in
          let size = length-take most left in
          let same_size = whole in
          let within = w.in-Ok.ensures.part in
          let part = ap length octets in
          let all = all_by most left left _ _ w.if-sent-size.false
          least size refl within part in
          let answers = for_conn w.send.new.conn same
          (as_share c.args.conn.now w.send.new.conn most c.args.id left _
          (is_none waits.trailers) _ (Count w.in-Ok.sent) octets ends w.in-Ok.ensures.answers) in
          let trailers = ap (λ (one : Waiting). one.trailers) (sym w.waiting-is) in
          rw (w.conn-is, w.pass-is) (last_octets old c.args.id pass _ stream waits here outgoing
          (record { most = refl; turn = refl })
          refl (omega (arith, w.if-waiting-len.true)) typed w.in-Ok.sent w.send.new.conn answers
          w.saturating_add-pass.ensures (lend _)
          (writes _) all (omega (arith, w.if-waiting-len-2.false)) (trailers ∙ c.in_default.is))
      | else-waiting-len w ↦
          let waits = c.args.waiting.now in
          let pass = c.args.pass.now in
          let most = size_of pass c.args.id in
          let trailers = ap (λ (one : Waiting). one.trailers) (sym w.waiting-is) in
          rw (w.conn-is, w.pass-is) (nothing_left old c.args.id pass _ stream waits here outgoing
          (record { most = refl; turn = refl }) refl
          (omega (arith, w.if-waiting-len.false)) refl c.args.conn.now (lend _) _
          (trailers ∙ c.in_default.is) (writes _))
    ]

pub returns-in-Ok-fields : goal.returns-in-Ok-fields
returns-in-Ok-fields c = λ old stream lend same here outgoing writes.
    let are = fields_are c.if-waiting-len.waiting.trailers c.in-Some.trailers _ c.in-Some.is
    c.deref.ensures.value in
    let list_typed = fields_typed c.args.id _ true (omega arith) c.fields.ensures.octets in
    elim c.if-waiting-len.branch [
      | then-waiting-len+in-Ok+else-sent-size+else-waiting-len-2 w ↦
          let waits = c.args.waiting.now in
          let pass = c.args.pass.now in
          let most = size_of pass c.args.id in
          let left = octets_left waits in
          let whole = left_size waits _ w.len-all.ensures in
          let least = rw whole at (rw c.share_size-most.ensures at w.min-size.ensures) in
          let octets = share_octets most left left w.min-size.result refl least in
          let ends = share_ends_by most w.min-size.result left left w.if-size-left.ends
          (is_none waits.trailers) refl least
          (elim w.if-size-left.branch [
            | then-size-left u ↦ inl (
              u.if-size-left.true ∙ whole,
              u.ends-is ∙ none_by waits.trailers _
                  u.is_none-ends.ensures,
            )
            | else-size-left u ↦ inr (
              (λ same. u.if-size-left.false (same ∙ sym whole)),
              u.ends-is
                  ∙ ne_eqb _ _ u.if-size-left.false,
            )
          ]) in
          let typed = typed_share most c.args.id left _ (is_none waits.trailers) _ octets ends
          (typed_data c.args.id _ _ (omega arith) w.send.ensures.octets) in
          let size = length-take most left in
          let same_size = whole in
          let within = w.in-Ok.ensures.part in
          let part = ap length octets in
          let all = all_by most left left _ _ w.if-sent-size.false
          least size refl within part in
          let answers = for_conn w.send.new.conn same
          (as_share c.args.conn.now w.send.new.conn most c.args.id left _
          (is_none waits.trailers) _ (Count w.in-Ok.sent) octets ends w.in-Ok.ensures.answers) in
          let trailers = ap (λ (one : Waiting). one.trailers) (sym w.waiting-is) in
          rw (w.pass-is) (both_go old c.args.id pass _ stream waits here outgoing
          (record { most = refl; turn = refl })
          refl (omega (arith, w.if-waiting-len.true)) typed w.in-Ok.sent w.send.new.conn answers
          w.saturating_add-pass.ensures (lend _)
          (lend _) (writes _) all (omega (arith, w.if-waiting-len-2.false)) _ list_typed
          (trailers_as trailers are) c.fields.new.self
          (rw w.conn-is at c.in-Ok-fields.ensures.answers) (writes _))
      | else-waiting-len w ↦
          let waits = c.args.waiting.now in
          let pass = c.args.pass.now in
          let most = size_of pass c.args.id in
          let trailers = ap (λ (one : Waiting). one.trailers) (sym w.waiting-is) in
          rw (w.pass-is) (list_sent old c.args.id pass _ stream waits here outgoing
          (record { most = refl; turn = refl }) refl
          (omega (arith, w.if-waiting-len.false)) refl _ list_typed
          (trailers_as trailers are) c.fields.new.self (lend _)
          (for_conn c.fields.new.self same (rw w.conn-is at c.in-Ok-fields.ensures.answers))
          (writes _))
    ]

pub returns-in-Err-fields : goal.returns-in-Err-fields
returns-in-Err-fields c = λ old stream lend same here outgoing writes.
    let are = fields_are c.if-waiting-len.waiting.trailers c.in-Some.trailers _ c.in-Some.is
    c.deref.ensures.value in
    let list_typed = fields_typed c.args.id _ true (omega arith) c.fields.ensures.octets in
    elim c.if-waiting-len.branch [
      | then-waiting-len+in-Ok+else-sent-size+else-waiting-len-2 w ↦
          let waits = c.args.waiting.now in
          let pass = c.args.pass.now in
          let most = size_of pass c.args.id in
          let left = octets_left waits in
          let whole = left_size waits _ w.len-all.ensures in
          let least = rw whole at (rw c.share_size-most.ensures at w.min-size.ensures) in
          let octets = share_octets most left left w.min-size.result refl least in
          let ends = share_ends_by most w.min-size.result left left w.if-size-left.ends
          (is_none waits.trailers) refl least
          (elim w.if-size-left.branch [
            | then-size-left u ↦ inl (
              u.if-size-left.true ∙ whole,
              u.ends-is ∙ none_by waits.trailers _
                  u.is_none-ends.ensures,
            )
            | else-size-left u ↦ inr (
              (λ same. u.if-size-left.false (same ∙ sym whole)),
              u.ends-is
                  ∙ ne_eqb _ _ u.if-size-left.false,
            )
          ]) in
          let typed = typed_share most c.args.id left _ (is_none waits.trailers) _ octets ends
          (typed_data c.args.id _ _ (omega arith) w.send.ensures.octets) in
          let size = length-take most left in
          let same_size = whole in
          let within = w.in-Ok.ensures.part in
          let part = ap length octets in
          let all = all_by most left left _ _ w.if-sent-size.false
          least size refl within part in
          let answers = for_conn w.send.new.conn same
          (as_share c.args.conn.now w.send.new.conn most c.args.id left _
          (is_none waits.trailers) _ (Count w.in-Ok.sent) octets ends w.in-Ok.ensures.answers) in
          let trailers = ap (λ (one : Waiting). one.trailers) (sym w.waiting-is) in
          rw (w.pass-is, w.waiting-is) (as_left old c.args.id pass _ c.fields.new.self stream lend
          c.in-Err-fields.refusal c.stopped_by-in-Err-fields.result _
          c.stopped_by-in-Err-fields.ensures
          (list_stopped old c.args.id pass _ stream waits here outgoing
          (record { most = refl; turn = refl })
          refl (omega (arith, w.if-waiting-len.true)) typed w.in-Ok.sent w.send.new.conn answers
          w.saturating_add-pass.ensures (lend _)
          (lend _) (writes _) all (omega (arith, w.if-waiting-len-2.false)) _ list_typed
          (trailers_as trailers are) c.fields.new.self
          c.in-Err-fields.refusal c.stopped_by-in-Err-fields.result
          c.stopped_by-in-Err-fields.ensures refl
          (rw w.conn-is at c.in-Err-fields.ensures.answers) (writes _)))
      | else-waiting-len w ↦
          let waits = c.args.waiting.now in
          let pass = c.args.pass.now in
          let most = size_of pass c.args.id in
          let trailers = ap (λ (one : Waiting). one.trailers) (sym w.waiting-is) in
          rw (w.pass-is, w.waiting-is) (as_left old c.args.id pass _ c.fields.new.self stream lend
          c.in-Err-fields.refusal c.stopped_by-in-Err-fields.result _
          c.stopped_by-in-Err-fields.ensures
          (list_is_stopped old c.args.id pass _ stream waits here outgoing
          (record { most = refl; turn = refl }) refl
          (omega (arith, w.if-waiting-len.false)) refl _ list_typed
          (trailers_as trailers are) c.fields.new.self (lend _)
          c.in-Err-fields.refusal c.stopped_by-in-Err-fields.result
          c.stopped_by-in-Err-fields.ensures refl
          (for_conn c.fields.new.self same (rw w.conn-is at c.in-Err-fields.ensures.answers))
          (writes _)))
    ]
