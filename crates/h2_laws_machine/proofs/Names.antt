-- The names of std, of the crates below and of this crate that several proofs cite, passed on from
-- one place.
unfoldable pub use Rattle.h2_block.specs.Grouping.{fault_inside, fault_outside}
unfoldable pub use Rattle.h2_frame.specs.Encoding.{stream_of}
unfoldable pub use Rattle.h2_laws_log.specs.Sums.{sum_below}
unfoldable pub use Rattle.h2_laws_machine.specs.Machines.{end_after, machine_after, MayStep}
pub use Rattle.h2_spec_log.specs.Acts.{Widen}
unfoldable pub use Rattle.h2_spec_log.specs.Acts.{IsTypedAct}
unfoldable pub use Rattle.h2_spec_log.specs.CallRules.{changed_pairs, conditions, data_frames}
unfoldable pub use Rattle.h2_spec_log.specs.CallRules.{data_items, encoder_after_call, first_of}
unfoldable pub use Rattle.h2_spec_log.specs.CallRules.{items_of, may_fail_for_memory, opening_pairs}
unfoldable pub use Rattle.h2_spec_log.specs.CallRules.{refuse_fault, stream_of_act}
unfoldable pub use Rattle.h2_spec_log.specs.Events.{flow_on, greatest_processed, one_acked}
unfoldable pub use Rattle.h2_spec_log.specs.Events.{one_pong, processed_by, reported_total}
unfoldable pub use Rattle.h2_spec_log.specs.Events.{reports_unprocessed}
unfoldable pub use Rattle.h2_spec_log.specs.ItemEffects.{discarded_flow, events_of}
unfoldable pub use Rattle.h2_spec_log.specs.ItemRules.{frame_step, grouped, grouping_step}
unfoldable pub use Rattle.h2_spec_log.specs.ItemRules.{may_be_first, opened_by, replies_to}
unfoldable pub use Rattle.h2_spec_log.specs.ItemRules.{settings_fault, verdict_by_rules, verdict_of}
unfoldable pub use Rattle.h2_spec_log.specs.Items.{data_of, data_on, ends, one_ping, resets, total}
unfoldable pub use Rattle.h2_spec_log.specs.Items.{encoding_of_item, encoding_of_items, is_block_on}
unfoldable pub use Rattle.h2_spec_log.specs.Items.{greatest_block, is_goaway_below, stream_of_item}
unfoldable pub use Rattle.h2_spec_log.specs.Items.{increment_on, is_goaway, one_reset, opens_from}
unfoldable pub use Rattle.h2_spec_log.specs.Log.{active_count, last_processed, least_goaway, output}
unfoldable pub use Rattle.h2_spec_log.specs.Log.{allowed_by, newest_ping, next_active, next_number}
unfoldable pub use Rattle.h2_spec_log.specs.Log.{max_payload_sent_by, max_streams, next_unprocessed}
unfoldable pub use Rattle.h2_spec_log.specs.Log.{released, widened, unreleased, waiting}
unfoldable pub use Rattle.h2_spec_log.specs.LogCalls.{before_put_out, opened, with_call, with_items}
unfoldable pub use Rattle.h2_spec_log.specs.LogSteps.{owed_at_close, used, with_frame}
unfoldable pub use Rattle.h2_spec_log.specs.LogSteps.{with_reported, with_sent, with_step}
unfoldable pub use Rattle.h2_spec_log.specs.LogSteps.{with_unreturned, with_verdict}
unfoldable pub use Rattle.h2_spec_log.specs.Settings.{one_settings, settings_count, value_after}
unfoldable pub use Rattle.h2_spec_log.specs.Settings.{value_read}
unfoldable pub use Rattle.h2_spec_log.specs.States.{count_below, is_above, is_active}
unfoldable pub use Rattle.h2_spec_log.specs.States.{is_closed_by_us, is_over, is_used, least_block}
unfoldable pub use Rattle.h2_spec_log.specs.Verdicts.{block_verdict, connection_update_verdict}
unfoldable pub use Rattle.h2_spec_log.specs.Verdicts.{data_verdict, opening_verdict, reset_verdict}
unfoldable pub use Rattle.h2_spec_log.specs.Verdicts.{update_verdict}
unfoldable pub use Rattle.h2_spec_log.specs.Windows.{given_on, given_on_connection, granted_on}
unfoldable pub use Rattle.h2_spec_log.specs.Windows.{granted_on_connection}
unfoldable pub use Rattle.h2_spec_machine.specs.End.{any_above, owed_sum}
unfoldable pub use Rattle.h2_spec_machine.specs.Machine.{add_unreturned, after_call, after_frame}
unfoldable pub use Rattle.h2_spec_machine.specs.Machine.{after_ignored, after_reported, after_step}
unfoldable pub use Rattle.h2_spec_machine.specs.Machine.{after_stream_fault, after_verdict}
unfoldable pub use Rattle.h2_spec_machine.specs.Machine.{before_put_out_at, new_end}
unfoldable pub use Rattle.h2_spec_machine.specs.Represents.{goaway_sent_last}
unfoldable pub use Rattle.h2_wire.specs.Streams.{expected_preface}
pub use Rattle.h2_block.specs.Gather.{block_fault_code}
pub use Rattle.h2_block.specs.Grouping.{alone, Begun, block, Item, max_block_octets, next_fault}
pub use Rattle.h2_block.specs.declared.fault.BlockFault.TheVariants.{Interrupted}
pub use Rattle.h2_frame.specs.Codes.{code_number}
pub use Rattle.h2_frame.specs.Encoding.{payload_of}
pub use Rattle.h2_frame.specs.Frames.{Continuation, Data, Frame, GoAway, Headers, Ping, Reset}
pub use Rattle.h2_frame.specs.Frames.{Settings, WindowUpdate}
pub use Rattle.h2_frame.specs.declared.code.Code.{Code}
pub use Rattle.h2_frame.specs.declared.code.Code.TheVariants.{FlowControlError, InternalError}
pub use Rattle.h2_frame.specs.declared.code.Code.TheVariants.{ProtocolError}
pub use Rattle.h2_laws_log.proofs.AllowedHistories.{increment_here, increments_read}
pub use Rattle.h2_laws_log.proofs.CallConditions.{and_other, neither_other, none_holds}
pub use Rattle.h2_laws_log.proofs.CreditCases.{both_by}
pub use Rattle.h2_laws_log.proofs.InvariantLogs.{log_represents}
pub use Rattle.h2_laws_log.proofs.ItemLists.{total_one}
pub use Rattle.h2_laws_log.proofs.ItemSizes.{size-goaway, size-update, size_of}
pub use Rattle.h2_laws_log.proofs.LogGrowth.{grows_wrote}
pub use Rattle.h2_laws_log.proofs.LogHistory.{none_both, processed_after, reported_append}
pub use Rattle.h2_laws_log.proofs.LogInvariant.{active_before}
pub use Rattle.h2_laws_log.proofs.LogViewLemmas.{closed_by_us_is, closed_used, events_unnamed}
pub use Rattle.h2_laws_log.proofs.LogViewLemmas.{stream_is_active, stream_there, when_some}
pub use Rattle.h2_laws_log.proofs.NoGoAways.{items_none, replies_none}
pub use Rattle.h2_laws_log.proofs.ReaderStates.{active_by_parts, active_parts, active_used}
pub use Rattle.h2_laws_log.proofs.ReaderStates.{lasts_parts, state_idle}
pub use Rattle.h2_laws_log.proofs.ReleasedCredit.{gives_elsewhere}
pub use Rattle.h2_laws_log.proofs.ReplyInvariant.{chosen_low, resets_used}
pub use Rattle.h2_laws_log.proofs.RulesByTests.{same_some, within_window}
pub use Rattle.h2_laws_log.proofs.SettingsLists.{own_next, own_of_all, settings_one, value_changed}
pub use Rattle.h2_laws_log.proofs.SettingsLists.{value_kept, value_named}
pub use Rattle.h2_laws_log.proofs.StreamNumbers.{block_below, last_none, opens_low}
pub use Rattle.h2_laws_log.proofs.UpByLogs.{IsUpInvariant, up_by_logs}
pub use Rattle.h2_laws_machine.specs.Bounds.{goaway_size, IsBounded, KeepsConnectionWindow}
pub use Rattle.h2_laws_machine.specs.Bounds.{max_active}
pub use Rattle.h2_laws_machine.specs.Machines.{ends_frame, is_called, MachineStep, meets_fault}
pub use Rattle.h2_laws_machine.specs.Machines.{runs_out_of_memory, uses_part}
pub use Rattle.h2_laws_machine.specs.Ranges.{CountsEntries, IsDecodedAt, ValuesAreInRange}
pub use Rattle.h2_spec_log.proofs.StreamLemmas.{Keeps-frame}
pub use Rattle.h2_spec_log.specs.Acts.{Act, Count, Done, Number, Open, PutOut, Refuse, Values}
pub use Rattle.h2_spec_log.specs.Acts.{Answer, AreInRange, ChangeSettings, OutOfMemory, ResetStream}
pub use Rattle.h2_spec_log.specs.Acts.{Refused, Release, SendData, SendFields, SendGoAway, SendPing}
pub use Rattle.h2_spec_log.specs.Acts.{Fail}
pub use Rattle.h2_spec_log.specs.Allowed.{Allowed, AllowedHistory, reads, starts, writes}
pub use Rattle.h2_spec_log.specs.CallRules.{answer_of, at_least_none, data_count, refusal_of}
pub use Rattle.h2_spec_log.specs.CallRules.{returns_before_put_out, returns_credit}
pub use Rattle.h2_spec_log.specs.Events.{Event, FieldsEvent, ResetEvent, UnprocessedEvent}
pub use Rattle.h2_spec_log.specs.Histories.{begins, called_one, IsDecodedFor, IsLog}
pub use Rattle.h2_spec_log.specs.Histories.{MayRunOutOfMemory, met_fault, ran_out_of_memory}
pub use Rattle.h2_spec_log.specs.Histories.{reported_one, TakesFault, TakesFrame, TakesOctets}
pub use Rattle.h2_spec_log.specs.Histories.{TakesPart, took_one, took_some}
pub use Rattle.h2_spec_log.specs.ItemEffects.{decoded_fields, encoder_after_settings, least_last}
pub use Rattle.h2_spec_log.specs.ItemEffects.{table_after}
pub use Rattle.h2_spec_log.specs.ItemRules.{begins_block, Decoded, exceeds_stream, is_awaited_ping}
pub use Rattle.h2_spec_log.specs.ItemRules.{completes, exceeds, fails_with, FrameStep, overflows_by}
pub use Rattle.h2_spec_log.specs.ItemRules.{overflows_stream, verdict_of_block, verdict_of_fault}
pub use Rattle.h2_spec_log.specs.Limits.{full_output, max_frame_size_sent, max_list, max_output}
pub use Rattle.h2_spec_log.specs.Limits.{max_resets, most_max_frame}
pub use Rattle.h2_spec_log.specs.Log.{acked, active, Log, max_payload_sent, send_window, state}
pub use Rattle.h2_spec_log.specs.LogCalls.{accepts, called, fails, lacks, MayAnswer, refuses}
pub use Rattle.h2_spec_log.specs.LogSteps.{read, took_frame, took_none, with_credit_returned}
pub use Rattle.h2_spec_log.specs.LogSteps.{with_failure}
pub use Rattle.h2_spec_log.specs.LogView.{log_view, stream_of_log}
pub use Rattle.h2_spec_log.specs.Settings.{is_server, own_value}
pub use Rattle.h2_spec_log.specs.States.{Active, ClosedByUs, greatest_number, Idle, openings, State}
pub use Rattle.h2_spec_log.specs.States.{when}
pub use Rattle.h2_spec_log.specs.Verdicts.{ConnectionFault, NoEvent, Reported, StreamFault, Verdict}
pub use Rattle.h2_spec_log.specs.View.{ended_in, owed_on, StreamView, View}
pub use Rattle.h2_spec_log.specs.Windows.{connection_recv_window, connection_send_window}
pub use Rattle.h2_spec_log.specs.Windows.{first_window, greatest_window, window}
pub use Rattle.h2_spec_log.specs.declared.refusal.Refusal.{Refusal}
pub use Rattle.h2_spec_log.specs.declared.refusal.Refusal.TheVariants.{Memory}
pub use Rattle.h2_spec_log.specs.declared.role.Role.{Role}
pub use Rattle.h2_spec_log.specs.declared.role.Role.TheVariants.{Client, Server}
pub use Rattle.h2_spec_machine.proofs.ChangedEntries.{changed, changed_entry, entries_changed}
pub use Rattle.h2_spec_machine.proofs.ChangedEntries.{get_each}
pub use Rattle.h2_spec_machine.proofs.SetEntries.{get_removed, get_removed_none, get_removed_other}
pub use Rattle.h2_spec_machine.proofs.SetEntries.{get_removed_same, get_set, get_set_other}
pub use Rattle.h2_spec_machine.proofs.SetEntries.{get_set_same}
pub use Rattle.h2_spec_machine.proofs.SortedEntries.{both_same, first, first_found, not_found}
pub use Rattle.h2_spec_machine.proofs.SortedEntries.{second}
pub use Rattle.h2_spec_machine.specs.End.{above_by_shift, active_entry, ConnectionWindows, End}
pub use Rattle.h2_spec_machine.specs.End.{end_view, GoAways, is_beyond, number_after, owed_entry}
pub use Rattle.h2_spec_machine.specs.End.{owed_total, OwnSettings, PeerSettings, reset_entry}
pub use Rattle.h2_spec_machine.specs.End.{state_at, state_by_entry, stream_at, stream_in}
pub use Rattle.h2_spec_machine.specs.End.{StreamEntry, StreamMap, Streams}
pub use Rattle.h2_spec_machine.specs.Machine.{after_data, close_stream, first_active, queue_output}
pub use Rattle.h2_spec_machine.specs.Machine.{after_fields_sent, apply_settings, unprocessed_of_end}
pub use Rattle.h2_spec_machine.specs.Machine.{after_refuse, shifted_entry, update_stream, with_flow}
pub use Rattle.h2_spec_machine.specs.Machine.{after_release, apply_own_settings, recv_shifted_entry}
pub use Rattle.h2_spec_machine.specs.Machine.{close_unprocessed, is_active_entry, widen_send_window}
pub use Rattle.h2_spec_machine.specs.Machine.{each_entry, receive_data, reset_stream, with_encoder}
pub use Rattle.h2_spec_machine.specs.Machine.{fail, receive_block, return_credit, with_table_after}
pub use Rattle.h2_spec_machine.specs.Machine.{is_fresh, is_one, new_stream, set_stream, with_begun}
pub use Rattle.h2_spec_machine.specs.Represents.{AwaitsValues, entry_by, NoneAboveHighest}
pub use Rattle.h2_spec_machine.specs.Represents.{Represents, RepresentsGoAways, RepresentsOwn}
pub use Rattle.h2_spec_machine.specs.Represents.{RepresentsPeer, RepresentsReading}
pub use Rattle.h2_spec_machine.specs.Represents.{RepresentsWhileUp, RepresentsWindows}
pub use Rattle.h2_wire.specs.Faults.{wire_fault_code}
pub use Rattle.hpack.proofs.Tests.{none_since}
pub use Rattle.hpack.specs.Blocks.{Block}
pub use Rattle.hpack.specs.Choice.{after_block, block_of}
pub use Rattle.hpack.specs.Lists.{EncoderState}
pub use Rattle.hpack.specs.Sizes.{table_size}
pub use Rattle.hpack.specs.Tables.{Entries}
pub use Rattle.hpack.specs.Written.{IsValidEncoder}
pub use Rattle.hpack.specs.declared.types.field.Field.{Field}
pub use Rattle.std.proofs.Common.{[], ap, ap₂, arith, Bool, cond, drop, Equal, false, Greater}
pub use Rattle.std.proofs.Common.{if◌then◌else◌, inl, inr, is_some, length, length-append}
pub use Rattle.std.proofs.Common.{length-drop, Less, List, max, min, nat_le, nat_lt, None, not}
pub use Rattle.std.proofs.Common.{Option, Ordering, pos, refl, Some, subst, suc, sym, T, take, true}
pub use Rattle.std.proofs.Common.{zero, zero-add, ℕ, ℤ, ◌%◌, ◌&&◌, ◌++◌, ◌+ℤ◌, ◌+◌, ◌-ℤ◌, ◌-◌, ◌<◌}
pub use Rattle.std.proofs.Common.{◌==◌, ◌||◌, ◌∙◌, ◌∷◌, ◌≡◌, ◌≢◌, ◌≤◌, ◌⊎◌}
pub use Rattle.std.proofs.lemmas.Bool.{and_from, cond_both, eq-eqb, eqb-false, leb-false, ltb-false}
pub use Rattle.std.proofs.lemmas.Bool.{and_left, cases_eq, eqb-true, ltb-true, or_cases, or_parts}
pub use Rattle.std.proofs.lemmas.Bool.{and_parts, and_right, both_ways, false_from_ne_true, or_from}
pub use Rattle.std.proofs.lemmas.Bool.{le-ltb, lt-ltb, ne_eqb, or_left, or_right}
pub use Rattle.std.proofs.lemmas.Bool.Decides.{nat_tests}
pub use Rattle.std.proofs.lemmas.Int.{ints}
pub use Rattle.std.proofs.lemmas.List.{length-take-le}
pub use Rattle.std.specs.Cmp.{nat_cmp_total}
pub use Rattle.std.specs.FinMap.Entries.{below_all, by_order}
pub use Rattle.std.specs.List.{list_any}
pub use Rattle.std.specs.Ordering.{is_eq, nat_cmp}
