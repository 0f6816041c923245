-- The head and the pairs are the frame.
use Rattle.h2_core.proofs.Names.{◌≡◌, ◌*◌, ◌++◌, [], ℕ, List, length, drop, flat_map, Bool, true}
use Rattle.h2_core.proofs.Names.{false, refl, ◌∙◌, append_assoc, append-nil, arith, pair_octets}
use Rattle.h2_core.proofs.Names.{encoding_of, payload_of, kind_of_frame, flags_of, stream_of}
use Rattle.std.proofs.lemmas.List.{drop_all}
use Rattle.std.specs.Int.{from_bool}
use Rattle.h2_frame.specs.Frames.{Settings}
use Rattle.h2_frame.specs.Heads.{head_octets}
use Rattle.h2_frame.proofs.FramePartsLemmas.{length-pair_octets}
use Rattle.h2_frame.specs.declared.kind.Kind.TheVariants as kinds
use Rattle.h2_core.proofs.settings_frame.add_settings.Goals as goal

-- The head and the pairs, after the queued output.
written : (before : List ℕ) (ack : Bool) (pairs : List (ℕ × ℕ))
    → (before ++ head_octets kinds.Settings (from_bool ack) 0 (6 * length pairs))
    ++ flat_map pair_octets pairs
    ≡ before ++ encoding_of (Settings ack pairs)
unfolding encoding_of payload_of kind_of_frame flags_of stream_of
written before true pairs = rw (append_assoc, length-pair_octets) refl
written before false pairs = rw (append_assoc, length-pair_octets) refl

pub returns-clause-waiting : goal.returns-clause-waiting
returns-clause-waiting c =
    let pairs = c.args.pairs.now in
    let none : drop c.loop-pair.pair-index pairs ≡ [] = drop_all _ pairs (omega arith) in
    let all = rw (none, append-nil) at c.loop-pair.invariant.written in
    all ∙ rw (c.add_octets.ensures.waiting, c.octets.ensures, c.from.ensures)
    (written c.args.output.now.waiting c.args.ack pairs)
