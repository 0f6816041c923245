-- By the lemma on the encoding of WINDOW_UPDATE.
use Rattle.std.proofs.Common.{◌≡◌, ◌++◌, ◌∙◌, ap, rules, append_assoc}
use Rattle.h2_frame.specs.Frames.{WindowUpdate}
use Rattle.h2_frame.specs.Encoding.{encoding_of, payload_of}
use Rattle.h2_output.proofs.EncodingLemmas.{window-update}
use Rattle.h2_output.proofs.output.Output.add_window_update.Goals as goal

pub returns-clause-waiting : goal.returns-clause-waiting
unfolding payload_of
returns-clause-waiting c =
    let frame = encoding_of (WindowUpdate c.args.stream c.args.increment) in
    let queue = c.self.inside.queue.items in
    let octets : c.octets.result ++ c.word_octets.result ≡ frame =
    rw (c.octets.ensures, c.word_octets.ensures)
    (window-update c.args.stream c.args.increment) in
    let items : c.extend_reserved-2.new.self.items ≡ queue ++ frame =
    c.extend_reserved-2.ensures.items
    ∙ ap (λ q. q ++ c.word_octets.result) c.extend_reserved.ensures.items
    ∙ append_assoc queue c.octets.result c.word_octets.result ∙ ap (λ f. queue ++ f) octets in
    search rules
