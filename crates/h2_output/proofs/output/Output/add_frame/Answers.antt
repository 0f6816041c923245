-- By the length of WINDOW_UPDATE.
use Rattle.std.proofs.Common.{◌≡◌, ◌∙◌, length, ap, arith}
use Rattle.h2_frame.specs.Frames.{frame_of}
use Rattle.h2_frame.specs.Encoding.{encoding_of}
use Rattle.h2_output.proofs.EncodingLemmas.{length-update}
use Rattle.h2_output.proofs.output.Output.add_frame.Goals as goal

pub add_window_update-requires-clause-room : goal.add_window_update-requires-clause-room
add_window_update-requires-clause-room c =
    let w = c.in-WindowUpdate in
    let size : length (encoding_of (frame_of c.args.frame)) ≡ 13 =
    ap (λ f. length (encoding_of (frame_of f))) w.is ∙ length-update w.stream w.increment in
    omega (arith, size, c.requires.room)

pub returns-in-WindowUpdate-clause-spare : goal.returns-in-WindowUpdate-clause-spare
returns-in-WindowUpdate-clause-spare c =
    let w = c.in-WindowUpdate in
    let size : length (encoding_of (frame_of c.args.frame)) ≡ 13 =
    ap (λ f. length (encoding_of (frame_of f))) w.is ∙ length-update w.stream w.increment in
    omega (arith, size, c.add_window_update.ensures.spare)
