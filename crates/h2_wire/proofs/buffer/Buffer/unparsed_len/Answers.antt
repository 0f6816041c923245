-- What was matched of the preface, or what is kept of a frame.
use Rattle.h2_wire.proofs.Names.{◌≡◌, ◌<◌, length, take, arith, sym, ◌∙◌, length-take, FitsPhase}
use Rattle.h2_wire.proofs.Names.{IsPartialPayload}
use Rattle.h2_wire.specs.Streams.{preface}
use Rattle.h2_wire.specs.declared.buffer.Phase.TheVariants as phases
use Rattle.h2_wire.proofs.buffer.Buffer.unparsed_len.Goals as goal

pub returns-in-Preface-clause-value : goal.returns-in-Preface-clause-value
unfolding preface
returns-in-Preface-clause-value c =
    let buffer = c.args.self.now in
    let matched = c.in-Preface.matched in
    let fits : FitsPhase buffer.greatest (phases.Preface c.in-Preface.matched) buffer.octets.items =
    rw c.in-Preface.is at c.requires.fits in
    let few = fits.0 in
    let counted : length (take c.in-Preface.matched preface) ≡ c.in-Preface.matched =
    length-take c.in-Preface.matched preface ∙ omega arith in
    rw c.in-Preface.is (sym counted)

pub returns-in-Payload-clause-frame : goal.returns-in-Payload-clause-frame
returns-in-Payload-clause-frame c = λ after.
    let buffer = c.args.self.now in
    let kept : IsPartialPayload buffer.greatest c.in-Payload._head buffer.octets.items =
    rw c.in-Payload.is at c.requires.fits in
    let short = kept.short in
    let within = kept.within in
    omega (arith, short, within, c.args.self.now.octets.ok.0)

pub returns-in-Head-clause-frame : goal.returns-in-Head-clause-frame
returns-in-Head-clause-frame c = λ after.
    let buffer = c.args.self.now in
    let few : length buffer.octets.items < 9 = rw c.in-Head.is at c.requires.fits in
    omega (arith, few, c.args.self.now.octets.ok.0)
