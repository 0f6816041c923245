-- The frame is one that its octets encode, and the octets of DATA are its body.
use Rattle.h2_wire.proofs.Names.{◌≡◌, List, ℕ, drop, ap, subst, frame_of, Carries, state_of}
use Rattle.h2_wire.proofs.Names.{CutterState, octets_of}
use Rattle.h2_wire.proofs.CutLemmas.{good_frame}
use Rattle.h2_wire.proofs.BodyLemmas.{data_is_body}
use Rattle.h2_wire.proofs.cutter.Cutter.frame.Goals as goal

pub returns-clause-good : goal.returns-clause-good
returns-clause-good c =
    let piece = c.args.piece.now in
    let octets = octets_of c.args.self.now piece c.args.frame in
    let same : octets_of (state_of c.self.inside.buffer) piece c.args.frame ≡ octets =
    ap (λ (state : CutterState). octets_of state piece c.args.frame) c.self.view_is in
    let carried : Carries c.args.frame.head (drop 9 octets) (frame_of c.payload_frame.result) =
    subst (λ (o : List ℕ). Carries c.args.frame.head (drop 9 o)
    (frame_of c.payload_frame.result)) same
    (rw c.payload-payload.ensures at c.payload_frame.ensures) in
    good_frame octets c.args.frame.head (frame_of c.payload_frame.result)
    c.requires.is_head c.requires.bounded c.requires.complete carried

pub returns-clause-body : goal.returns-clause-body
returns-clause-body c =
    let piece = c.args.piece.now in
    let octets = octets_of c.args.self.now piece c.args.frame in
    let same : octets_of (state_of c.self.inside.buffer) piece c.args.frame ≡ octets =
    ap (λ (state : CutterState). octets_of state piece c.args.frame) c.self.view_is in
    let carried : Carries c.args.frame.head (drop 9 octets) (frame_of c.payload_frame.result) =
    subst (λ (o : List ℕ). Carries c.args.frame.head (drop 9 o)
    (frame_of c.payload_frame.result)) same
    (rw c.payload-payload.ensures at c.payload_frame.ensures) in
    data_is_body c.args.self.now piece c.args.frame (frame_of c.payload_frame.result)
    c.requires carried
