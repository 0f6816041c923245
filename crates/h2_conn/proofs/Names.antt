-- The names of std and of the crates below that several proofs cite, passed on from one place.
pub use Rattle.h2_block.specs.Grouping.{alone, block, Item}
pub use Rattle.h2_conn.specs.Conn.{answer_by}
pub use Rattle.h2_conn.specs.Counts.{CountsFrames}
pub use Rattle.h2_conn.specs.Events.{happened_value, LocatedEvent}
pub use Rattle.h2_conn.proofs.PartsFit.{PartsFit}
pub use Rattle.h2_conn.specs.Parts.{PartsRepresent}
unfoldable pub use Rattle.h2_conn.specs.Why.{rule_of_frame}
pub use Rattle.h2_conn.specs.Why.{rule_of_octets}
pub use Rattle.h2_conn.specs.declared.counts.Counts.{Counts}
pub use Rattle.h2_conn.specs.declared.why.Why.{Why}
pub use Rattle.h2_core.specs.Calls.{CallAccepted, CallRefused, CallRefuses}
pub use Rattle.h2_core.specs.Endpoint.{end_of, IsSoundEnd}
pub use Rattle.h2_core.specs.Events.{FrameEvent}
pub use Rattle.h2_core.specs.Frames.{FailsWithoutMemory, frame_events, FrameTaken, IsDecodedBy}
pub use Rattle.h2_core.specs.Frames.{step_events}
pub use Rattle.h2_core.specs.Readers.{Consumes}
pub use Rattle.h2_flow.specs.ConfigValues.{values_of}
pub use Rattle.h2_frame.specs.Frames.{Frame}
pub use Rattle.h2_frame.specs.declared.code.Code.{Code}
pub use Rattle.h2_frame.specs.declared.code.Code.TheVariants.{InternalError}
pub use Rattle.h2_laws_end.specs.Takes.{Failed}
pub use Rattle.h2_laws_machine.proofs.AlikeAnswers.{views_alike, waiting_alike}
pub use Rattle.h2_laws_machine.proofs.AlikeFrames.{step_alike}
pub use Rattle.h2_laws_machine.proofs.CallRefusals.{refusal_same}
pub use Rattle.h2_laws_machine.proofs.CallWithoutStream.{never_refused}
pub use Rattle.h2_laws_machine.proofs.ConservedBySteps.{holds, is_whole}
pub use Rattle.h2_laws_machine.proofs.CountedBySteps.{counted, is_counted}
pub use Rattle.h2_laws_machine.proofs.RangesOfSteps.{are_in_range, fits}
pub use Rattle.h2_laws_machine.proofs.ReadLimits.{limit_agrees, limit_in_range}
unfoldable pub use Rattle.h2_laws_machine.specs.Machines.{end_after}
pub use Rattle.h2_spec_log.proofs.StreamLemmas.{Keeps}
pub use Rattle.h2_spec_log.specs.Acts.{Act, Answer, AreInRange, ChangeSettings, Count, Done, Open}
pub use Rattle.h2_spec_log.specs.Acts.{PutOut, Refuse, Refused, Values}
unfoldable pub use Rattle.h2_spec_log.specs.Acts.{IsTypedAct}
pub use Rattle.h2_spec_log.specs.CallRules.{refusal_of, returns_before_put_out}
unfoldable pub use Rattle.h2_spec_log.specs.CallRules.{may_lack_memory}
pub use Rattle.h2_spec_log.specs.Events.{Event}
pub use Rattle.h2_spec_log.specs.Histories.{IsDecodedFor}
unfoldable pub use Rattle.h2_spec_log.specs.ItemEffects.{events_of}
pub use Rattle.h2_spec_log.specs.ItemRules.{begins_block, completes, Decoded, fails_with}
pub use Rattle.h2_spec_log.specs.ItemRules.{frame_step, FrameStep, verdict_of}
pub use Rattle.h2_spec_log.specs.Limits.{most_max_frame}
pub use Rattle.h2_spec_log.specs.Log.{acked, Log}
pub use Rattle.h2_spec_log.specs.LogCalls.{MayAnswer}
unfoldable pub use Rattle.h2_spec_log.specs.LogCalls.{with_call}
pub use Rattle.h2_spec_log.specs.LogSteps.{limits_from, took_frame}
unfoldable pub use Rattle.h2_spec_log.specs.LogSteps.{used, with_sent}
pub use Rattle.h2_spec_log.specs.LogView.{log_view}
pub use Rattle.h2_spec_log.specs.Memory.{credit_needs_memory}
pub use Rattle.h2_spec_log.specs.Settings.{is_server, payload_limit}
pub use Rattle.h2_spec_log.specs.Verdicts.{ConnectionFault, Verdict}
pub use Rattle.h2_spec_log.specs.View.{View}
pub use Rattle.h2_spec_log.specs.declared.refusal.Refusal.{Refusal}
pub use Rattle.h2_spec_log.specs.declared.refusal.Refusal.TheVariants.{Memory}
pub use Rattle.h2_spec_log.specs.declared.role.Role.{Role}
pub use Rattle.h2_spec_log.specs.declared.role.Role.TheVariants.{Client, Server}
pub use Rattle.h2_spec_machine.specs.End.{End, end_view, payload_limit_of}
pub use Rattle.h2_spec_machine.specs.Machine.{after_frame, close_unprocessed, fail, return_credit}
pub use Rattle.h2_spec_machine.specs.Machine.{unprocessed_of_end, with_begun}
unfoldable pub use Rattle.h2_spec_machine.specs.Machine.{after_call, before_put_out_at}
pub use Rattle.h2_spec_machine.specs.Represents.{Represents}
pub use Rattle.h2_wire.proofs.ReadingLemmas.{none_some}
pub use Rattle.h2_wire.specs.Cutter.{body_at, CutterLimited, CutterRepresents, CutterState}
pub use Rattle.h2_wire.specs.Cutter.{data_of_frame, saturated}
pub use Rattle.h2_wire.specs.Faults.{wire_fault_code}
pub use Rattle.h2_wire.specs.Streams.{Frames, Limits}
pub use Rattle.h2_wire.specs.declared.cut.Complete.{Complete}
pub use Rattle.h2_wire.specs.declared.fault.WireFault.{WireFault}
pub use Rattle.hpack.specs.declared.types.field.Field.{Field}
pub use Rattle.hpack_text.proofs.ReadLemmas.{all_octets}
pub use Rattle.std.proofs.Common.{[], ap, arith, Bool, drop, Err, false, IfOk, IfSome}
pub use Rattle.std.proofs.Common.{if◌then◌else◌, inl, inr, is_some, IsSome, length, List, min}
pub use Rattle.std.proofs.Common.{nat_le, nat_lt, None, not, Ok, Option, refl, Result, rules, Some}
pub use Rattle.std.proofs.Common.{subst, suc, sym, take, true, ℕ, ◌++◌, ◌+◌, ◌||◌, ◌∙◌, ◌∷◌, ◌≡◌}
pub use Rattle.std.proofs.Common.{◌≢◌, ◌≤◌}
pub use Rattle.std.proofs.Math.Seq.{take-length}
pub use Rattle.std.proofs.lemmas.Bool.Decides.{nat_tests}
pub use Rattle.std.proofs.lemmas.List.{length-take-le, take-append-drop}
pub use Rattle.std.proofs.lemmas.Result.{err_from_is_err_and}
pub use Rattle.std.specs.Option.{option_map}
