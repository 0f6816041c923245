-- What is held was sent, and then the first octets of the parts, as the write answers.
use Rattle.std.proofs.Common.{◌≡◌, length, ap, ◌∙◌, arith, sym, rules, eqb-true}
use Rattle.std.proofs.lemmas.List.{nil_from_length}
use Rattle.std.specs.Prelude.{min, vec_len}
use Rattle.h2_net.proofs.SendingLemmas.{sent_directly}
use Rattle.h2_net.proofs.PartsSent.{written_bytes, written_within, takes_nothing}
use Rattle.h2_net.proofs.PartsSent.{sent_held_first}
use Rattle.std.specs.Io.Slices.{io_slice_bytes}
use Rattle.h2_net.proofs.stream_link.StreamLink.send_parts.Goals as goal

pub returns-then-not-are_many-clause-holds : goal.returns-then-not-are_many-clause-holds
returns-then-not-are_many-clause-holds g c = takes_nothing _ _

pub returns-then-is_empty-clause-holds : goal.returns-then-is_empty-clause-holds
returns-then-is_empty-clause-holds g c =
    let held = c.args.self.now.held in
    let counted : vec_len held ≡ 0 =
    eqb-true (vec_len held) 0 (sym c.is_empty.ensures ∙ c.if-is_empty.true) in
    let none = nil_from_length held.items (omega (arith, counted, held.ok.0)) in
    rw c.unwrap_or.ensures (sent_directly _ _ held.items _ _ none
    (written_within c.write_parts.result _ c.write_parts.ensures.bound)
    (written_bytes _ _ c.write_parts.result _ c.write_parts.ensures.bytes))

pub returns-clause-holds : goal.returns-clause-holds
returns-clause-holds g c =
    let held = c.args.self.now.held in
    let counted : c.len.result ≡ length held.items = omega (arith, c.len.ensures, held.ok.0) in
    let first : io_slice_bytes c.new.result ≡ held.items = search rules in
    rw (c.remove_first.ensures, c.unwrap_or-sent.ensures)
    (sent_held_first _ _ held.items c.new.result c.part_at.result c.part_at-2.result
    c.part_at-3.result c.args.parts.now c.write_parts-2.result _ first c.part_at.ensures
    c.part_at-2.ensures c.part_at-3.ensures
    (rw (← c.unwrap_or-sent.ensures) (c.min-of_held.ensures
    ∙ ap (min c.unwrap_or-sent.result) counted)) c.write_parts-2.ensures.bound
    c.write_parts-2.ensures.bytes)
