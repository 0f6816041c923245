-- The names of std and of the crates below that several proofs cite, passed on from one place.
pub use Rattle.h2_block.specs.Gather.{block_fault_code, ReportsFault}
pub use Rattle.h2_block.specs.Grouping.{alone, Begun, block, Groups, Item, max_block_octets}
pub use Rattle.h2_block.specs.Grouping.{next_fault}
unfoldable pub use Rattle.h2_block.specs.Grouping.{fault_inside, fault_outside, is_standalone}
pub use Rattle.h2_block.specs.declared.fault.BlockFault.{BlockFault}
pub use Rattle.h2_core.specs.Blocks.{TakesBlock}
pub use Rattle.h2_core.specs.Calls.{CallRefused}
pub use Rattle.h2_core.specs.DataFrames.{frame_of_data}
pub use Rattle.h2_core.specs.Endpoint.{end_of, IsSoundEnd, streams_allowed_by}
pub use Rattle.h2_core.specs.Events.{FrameEvent}
pub use Rattle.h2_core.specs.Failure.{FailsAlike}
pub use Rattle.h2_core.specs.Frames.{FailsWithoutMemory, FrameLacksMemory}
pub use Rattle.h2_core.specs.Items.{item_events, ItemTaken, TakesItem}
pub use Rattle.h2_core.specs.Resets.{is_over_limits, ResetsForFault}
unfoldable pub use Rattle.h2_core.specs.Settings.{with_values}
pub use Rattle.h2_core.specs.Stops.{FailsBy, IsSmall}
pub use Rattle.h2_core.specs.declared.endpoint.Endpoint.{Endpoint}
pub use Rattle.h2_core.specs.declared.step_error.StepError.{StepError}
pub use Rattle.h2_core.specs.declared.step_error.StepError.TheVariants.{Fault, OutOfMemory}
pub use Rattle.h2_flow.specs.ConfigValues.{values_of}
unfoldable pub use Rattle.h2_flow.specs.Settings.{with_value}
pub use Rattle.h2_flow.specs.declared.stream_state.StreamState.{StreamState}
pub use Rattle.h2_frame.specs.Codes.{code_number}
pub use Rattle.h2_frame.specs.Encoding.{pair_octets}
unfoldable pub use Rattle.h2_frame.specs.Encoding.{encoding_of, flags_of, has_good_values}
unfoldable pub use Rattle.h2_frame.specs.Encoding.{kind_of_frame, payload_of, refusal, stream_of}
pub use Rattle.h2_frame.specs.Frames.{Continuation, Data, Frame, frame_of, GoAway, Headers, Ping}
pub use Rattle.h2_frame.specs.Frames.{Priority, Unknown, WindowUpdate}
unfoldable pub use Rattle.h2_frame.specs.Heads.{fits_stream}
pub use Rattle.h2_frame.specs.Pairs.{lent_pairs, pairs_left}
pub use Rattle.h2_frame.specs.declared.code.Code.{Code}
pub use Rattle.h2_frame.specs.declared.code.Code.TheVariants.{EnhanceYourCalm, FlowControlError}
pub use Rattle.h2_frame.specs.declared.code.Code.TheVariants.{InternalError, ProtocolError}
pub use Rattle.h2_frame.specs.declared.code.Code.TheVariants.{StreamClosed}
pub use Rattle.h2_frame.specs.declared.frame.FrameRef.{FrameRef}
pub use Rattle.h2_laws_log.proofs.ItemSizes.{size-reset}
pub use Rattle.h2_laws_machine.specs.Ranges.{StreamIsInRange}
pub use Rattle.h2_spec_log.specs.Acts.{Act, Release, ResetStream, SendGoAway, SendPing, Values}
pub use Rattle.h2_spec_log.specs.CallRules.{data_frames, is_no_stream, refusal_of, returns_credit}
unfoldable pub use Rattle.h2_spec_log.specs.CallRules.{changed_pairs, conditions}
unfoldable pub use Rattle.h2_spec_log.specs.CallRules.{encoder_after_call, first_of, items_of}
unfoldable pub use Rattle.h2_spec_log.specs.CallRules.{with_max_frame}
unfoldable pub use Rattle.h2_spec_log.specs.ItemEffects.{encoder_after_settings, events_of}
pub use Rattle.h2_spec_log.specs.ItemRules.{begins_block, completes, Decoded, exceeds, fails_with}
pub use Rattle.h2_spec_log.specs.ItemRules.{FrameStep, is_at_capacity, is_awaited_ping, is_idle}
pub use Rattle.h2_spec_log.specs.ItemRules.{is_stream_fault, overflows_by, peer_opens}
unfoldable pub use Rattle.h2_spec_log.specs.ItemRules.{grouped, may_be_first, opened_by}
unfoldable pub use Rattle.h2_spec_log.specs.ItemRules.{over_limits, replies_to, settings_fault}
unfoldable pub use Rattle.h2_spec_log.specs.ItemRules.{verdict_by_rules, verdict_of}
unfoldable pub use Rattle.h2_spec_log.specs.Items.{encoding_of_item, encoding_of_items}
unfoldable pub use Rattle.h2_spec_log.specs.Items.{stream_of_item}
pub use Rattle.h2_spec_log.specs.Limits.{max_frame_size_sent, max_list, max_output}
pub use Rattle.h2_spec_log.specs.Memory.{needs_memory, step_needs_memory}
pub use Rattle.h2_spec_log.specs.Settings.{is_server, peer_of, value_fault}
unfoldable pub use Rattle.h2_spec_log.specs.Settings.{value_after}
pub use Rattle.h2_spec_log.specs.States.{Active, Idle, State}
pub use Rattle.h2_spec_log.specs.Verdicts.{ConnectionFault, NoEvent, Reported, StreamFault, Verdict}
unfoldable pub use Rattle.h2_spec_log.specs.Verdicts.{opening_verdict}
pub use Rattle.h2_spec_log.specs.View.{ended_in, owed_on, StreamView, View}
pub use Rattle.h2_spec_log.specs.Windows.{greatest_window}
pub use Rattle.h2_spec_log.specs.declared.refusal.Refusal.{Refusal}
pub use Rattle.h2_spec_log.specs.declared.refusal.Refusal.TheVariants.{Memory}
pub use Rattle.h2_spec_log.specs.declared.role.Role.{Role}
pub use Rattle.h2_spec_log.specs.declared.role.Role.TheVariants.{Client, Server}
pub use Rattle.h2_spec_machine.proofs.SetEntries.{get_removed, get_set, get_set_same}
pub use Rattle.h2_spec_machine.specs.End.{active_entry, End, end_view, is_above_goaway, owed_entry}
pub use Rattle.h2_spec_machine.specs.End.{reset_entry, state_at, state_by_entry, stream_at}
pub use Rattle.h2_spec_machine.specs.End.{stream_in, StreamEntry, StreamMap}
pub use Rattle.h2_spec_machine.specs.Machine.{after_item, apply_own_settings, close_stream, fail}
pub use Rattle.h2_spec_machine.specs.Machine.{first_allowed, is_fresh, is_one, more_unreturned}
pub use Rattle.h2_spec_machine.specs.Machine.{narrow_recv_window, new_stream, queue_output}
pub use Rattle.h2_spec_machine.specs.Machine.{receive_block, reset_stream, return_credit}
pub use Rattle.h2_spec_machine.specs.Machine.{set_stream, update_stream, widen_send_window}
pub use Rattle.h2_spec_machine.specs.Machine.{with_begun, with_encoder}
unfoldable pub use Rattle.h2_spec_machine.specs.Machine.{add_unreturned, after_call, after_ignored}
unfoldable pub use Rattle.h2_spec_machine.specs.Machine.{after_reported, after_stream_fault}
unfoldable pub use Rattle.h2_spec_machine.specs.Machine.{after_verdict, before_put_out_at}
pub use Rattle.h2_streams.specs.Streams.{is_far, stream_view}
pub use Rattle.h2_streams.specs.Table.{TableState}
pub use Rattle.h2_streams.specs.declared.entry.Stream.{Stream}
pub use Rattle.hpack.specs.Choice.{after_block, block_of}
pub use Rattle.hpack.specs.Lists.{DecoderState, EncoderState, list_size}
pub use Rattle.hpack.specs.Tables.{Entries}
pub use Rattle.hpack.specs.declared.types.field.Field.{Field}
pub use Rattle.std.proofs.Common.{[], add-one, ap, append-nil, append_assoc, ap₂, arith, Bool, drop}
pub use Rattle.std.proofs.Common.{false, flat_map, if◌then◌else◌, inl, inr, length, length-append}
pub use Rattle.std.proofs.Common.{List, ltb-true, max, min, None, not, Option, pos, refl, rules}
pub use Rattle.std.proofs.Common.{Some, subst, suc, sym, take, true, zero, ℕ, ℤ, ◌%◌, ◌&&◌, ◌*◌}
pub use Rattle.std.proofs.Common.{◌++◌, ◌+ℤ◌, ◌+◌, ◌-ℤ◌, ◌-◌, ◌/◌, ◌<◌, ◌==◌, ◌^◌, ◌||◌, ◌∙◌, ◌∷◌}
pub use Rattle.std.proofs.Common.{◌≡◌, ◌≢◌, ◌≤◌, ◌⊎◌}
pub use Rattle.std.proofs.lemmas.Bool.{and_parts, cases_lt, le-leb, le-ltb, lt-leb, lt-ltb}
pub use Rattle.std.proofs.lemmas.Bool.Decides.{nat_tests}
pub use Rattle.std.proofs.lemmas.Int.{ints, to_z-of_z}
pub use Rattle.std.proofs.lemmas.Result.{err_from_is_err_and}
pub use Rattle.std.specs.Cmp.{nat_cmp_total}
pub use Rattle.std.specs.Option.{option_map}
pub use Rattle.std.specs.Result.{is_err, OnOk}
pub use denote.Enum.Bare.{sameb}
