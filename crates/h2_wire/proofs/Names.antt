-- The names of std and of the crates below that several proofs cite, passed on from one place.
pub use Rattle.h2_frame.proofs.HeadLemmas.{form_fault-head_fault, head_of-append, length-head_fault}
pub use Rattle.h2_frame.specs.Frames.{Carries, Encodes, Frame, frame_of, pad_of, payload_fault}
pub use Rattle.h2_frame.specs.Heads.{head_fault, head_of}
pub use Rattle.h2_frame.specs.declared.code.Code.{Code}
pub use Rattle.h2_frame.specs.declared.head_faults.HeadFault.{HeadFault}
pub use Rattle.h2_frame.specs.declared.heads.Head.{Head}
pub use Rattle.h2_wire.specs.Buffer.{fault_of, FitsPhase, is_in_preface, IsPartialPayload, state_of}
pub use Rattle.h2_wire.specs.Buffer.{unparsed_of}
pub use Rattle.h2_wire.specs.Cutter.{CutterCompletes, CutterContinues, CutterFails, CutterFaults}
pub use Rattle.h2_wire.specs.Cutter.{CutterPasses, CutterRepresents, CutterState, octets_at}
pub use Rattle.h2_wire.specs.Cutter.{octets_of, saturated}
pub use Rattle.h2_wire.specs.Step.{BufferTakes, Opens}
pub use Rattle.h2_wire.specs.Streams.{AreFrames, EndsWithFault, expected_preface, Frames}
pub use Rattle.h2_wire.specs.Streams.{IsAfterPreface, IsFrame, IsInsidePreface, IsPartial, IsSound}
pub use Rattle.h2_wire.specs.Streams.{Limits, preface}
pub use Rattle.h2_wire.specs.declared.buffer.Buffer.{Buffer}
pub use Rattle.h2_wire.specs.declared.buffer.Phase.{Phase}
pub use Rattle.h2_wire.specs.declared.cut.Advance.{Advance}
pub use Rattle.h2_wire.specs.declared.cut.Complete.{Complete}
pub use Rattle.h2_wire.specs.declared.cut.Source.{Source}
pub use Rattle.h2_wire.specs.declared.fault.WireFault.{WireFault}
pub use Rattle.std.proofs.Common.{[], ap, append-nil, append_assoc, arith, Bool, drop, drop-drop}
pub use Rattle.std.proofs.Common.{Err, false, IfSome, inl, inr, length, length-append, length-drop}
pub use Rattle.std.proofs.Common.{length-take, List, MatchOption, nat_lt, None, Ok, Option, refl}
pub use Rattle.std.proofs.Common.{Result, Some, subst, sym, take, true, ℕ, ◌&&◌, ◌++◌, ◌+◌, ◌-◌}
pub use Rattle.std.proofs.Common.{◌<◌, ◌∙◌, ◌∷◌, ◌≡◌, ◌≢◌, ◌≤◌}
pub use Rattle.std.proofs.Math.Seq.{drop-append_seam}
pub use Rattle.std.proofs.lemmas.Bool.{le-leb}
pub use Rattle.std.proofs.lemmas.List.{drop-take, take-append-drop, take_all, take_rest}
