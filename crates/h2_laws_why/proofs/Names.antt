-- The names of std and of the crates below that several proofs cite, passed on from one place.
unfoldable pub use Rattle.h2_spec_log.specs.LogCalls.{opened, with_call}
unfoldable pub use Rattle.h2_spec_log.specs.LogSteps.{used, with_reported, with_sent}
pub use Rattle.h2_frame.specs.Frames.{Frame}
pub use Rattle.h2_frame.specs.declared.code.Code.{Code}
pub use Rattle.h2_frame.specs.declared.code.Code.TheVariants.{InternalError}
pub use Rattle.h2_laws_end.specs.Scripts.{AreSameButTurns, Call, Mark, Octet, Unprocessed}
pub use Rattle.h2_laws_log.proofs.GrowthBySteps.{holds_frame}
pub use Rattle.h2_laws_log.proofs.PartsStay.{call_calls, calls_read, SameCalls}
pub use Rattle.h2_spec_log.proofs.StreamLemmas.{Keeps-call}
pub use Rattle.h2_spec_log.specs.Acts.{Act, Answer, Answered, Called, In, Out, shown, Turn, Values}
pub use Rattle.h2_spec_log.specs.Histories.{begins, called_one, IsLog, met_fault}
pub use Rattle.h2_spec_log.specs.Histories.{ran_out_of_memory, reported_one, TakesFault, took_one}
pub use Rattle.h2_spec_log.specs.Histories.{took_some}
pub use Rattle.h2_spec_log.specs.ItemRules.{Decoded}
pub use Rattle.h2_spec_log.specs.Log.{last_processed, Log}
pub use Rattle.h2_spec_log.specs.LogSteps.{took_fault, took_frame, with_failure}
pub use Rattle.h2_spec_log.specs.LogView.{log_view}
pub use Rattle.h2_spec_log.specs.View.{View}
pub use Rattle.h2_spec_log.specs.declared.role.Role.{Role}
pub use Rattle.h2_wire.proofs.ReadingLemmas.{none_some}
pub use Rattle.h2_wire.specs.Faults.{wire_fault_code}
pub use Rattle.h2_wire.specs.declared.fault.WireFault.{WireFault}
pub use Rattle.std.proofs.Common.{ap, ap₂, Bool, false, List, None, Option, refl, Some, sym, true}
pub use Rattle.std.proofs.Common.{ℕ, [], ◌++◌, ◌∙◌, ◌∷◌, ◌≡◌}
