-- The names of std, of the crates below and of the specs that several proofs cite, passed on from
-- one place.
unfoldable pub use Rattle.hpack.specs.Choice.{after_block}
unfoldable pub use Rattle.h2_wire.specs.Streams.{expected_preface}
unfoldable pub use Rattle.h2_block.specs.Grouping.{fault_inside, fault_outside}
unfoldable pub use Rattle.h2_spec_log.proofs.Computing.{computing}
unfoldable pub use Rattle.h2_spec_log.specs.CallRules.{conditions, items_of, data_frames}
unfoldable pub use Rattle.h2_spec_log.specs.CallRules.{data_items}
unfoldable pub use Rattle.h2_spec_log.specs.ItemEffects.{events_of}
unfoldable pub use Rattle.h2_spec_log.specs.ItemRules.{replies_to, frame_step, verdict_by_rules}
unfoldable pub use Rattle.h2_spec_log.specs.ItemRules.{verdict_of}
unfoldable pub use Rattle.h2_spec_log.specs.Items.{total, is_block_on, is_goaway_below, data_on}
unfoldable pub use Rattle.h2_spec_log.specs.Items.{ends, encoding_of_items, resets, one_answer}
unfoldable pub use Rattle.h2_spec_log.specs.Items.{one_ping, one_reset, stream_of_item}
unfoldable pub use Rattle.h2_spec_log.specs.Log.{next_unprocessed, waiting, output, least_goaway}
unfoldable pub use Rattle.h2_spec_log.specs.Log.{last_processed, max_payload_sent_by, unreleased}
unfoldable pub use Rattle.h2_spec_log.specs.LogCalls.{opened, with_call}
unfoldable pub use Rattle.h2_spec_log.specs.LogSteps.{with_sent, used, with_frame, with_step}
unfoldable pub use Rattle.h2_spec_log.specs.LogSteps.{with_reported}
unfoldable pub use Rattle.h2_spec_log.specs.Settings.{one_ack, value_read, payload_limit}
unfoldable pub use Rattle.h2_spec_log.specs.Settings.{one_settings}
unfoldable pub use Rattle.h2_spec_log.specs.States.{is_above, is_closed_by_us, is_used}
unfoldable pub use Rattle.h2_laws_log.specs.Sums.{sum_below}
unfoldable pub use Rattle.h2_laws_end.specs.Sendings.{lists_accepted, settings_received}
unfoldable pub use Rattle.h2_laws_end.specs.Sendings.{changes_encoder}
unfoldable pub use Rattle.h2_laws_machine.specs.Machines.{log_after, MayStep}
unfoldable pub use Rattle.h2_laws_pair.specs.HeaderTables.{block_count}
unfoldable pub use Rattle.h2_laws_pair.specs.Tokens.{tokens_written, tokens_heard, tokens_sent}
unfoldable pub use Rattle.h2_laws_pair.specs.Tokens.{end_tokens, tokens_of_call, tokens_of_event}
pub use Rattle.h2_laws_pair.specs.Tokens.{Said}
unfoldable pub use Rattle.h2_laws_pair.specs.Tokens.{said_tokens}
unfoldable pub use Rattle.h2_laws_pair.specs.Undisturbed.{IsUndisturbed, IsUndisturbedStep}
pub use Rattle.std.proofs.Common.{List, ◌≡◌, [], refl, ◌∷◌, ℕ, ◌++◌, None, ◌∙◌, arith, sym, false}
pub use Rattle.std.proofs.Common.{true, length, ap, ◌≤◌, Bool, inl, inr, Option, append_assoc, ◌+◌}
pub use Rattle.std.proofs.Common.{Some, append-nil, if◌then◌else◌, not, ◌==◌, ◌≢◌, length-append}
pub use Rattle.std.proofs.Common.{subst, take, ◌⊎◌, drop, ◌<◌, ◌&&◌, nat_le, nat_lt, pos, suc, zero}
pub use Rattle.std.proofs.Common.{◌-◌, ℤ, ◌+ℤ◌, length-drop, min, ◌%◌, ltb-false, rules, ◌^◌}
pub use Rattle.std.proofs.lemmas.Bool.{both_ways, eqb-true, and_parts, cases_Bool, or_cases}
pub use Rattle.std.proofs.lemmas.Bool.{and_from, or_parts, le-ltb, ltb-true, or_left, or_right}
pub use Rattle.std.proofs.lemmas.Bool.{cases_lt, eq-eqb, leb-false, lt-ltb, ne_eqb, or_from}
pub use Rattle.std.proofs.lemmas.Bool.Decides.{nat_tests}
pub use Rattle.std.proofs.lemmas.Int.{ints}
pub use Rattle.std.proofs.lemmas.List.{take-append-drop, length-take}
pub use Rattle.std.proofs.lemmas.List.Folds.{list_any-append}
pub use Rattle.std.specs.List.{AllByRecursion, list_any, Contains}
pub use Rattle.std.specs.Prelude.{codes, map, replicate}
pub use Rattle.hpack.proofs.BlockLemmas.{one_block_lem}
pub use Rattle.hpack.proofs.WrittenBlocks.{block_encodes}
pub use Rattle.hpack.specs.Blocks.{Block}
pub use Rattle.hpack.specs.Choice.{block_of}
pub use Rattle.hpack.specs.Lists.{empty_table, list_size, EncoderState}
pub use Rattle.hpack.specs.Tables.{Entries}
pub use Rattle.hpack.specs.declared.types.field.Field.{Field}
pub use Rattle.h2_frame.specs.Codes.{code_number}
pub use Rattle.h2_frame.specs.Frames.{Settings, Data, Frame, Reset, Ping, WindowUpdate, GoAway}
pub use Rattle.h2_frame.specs.Frames.{Headers, Continuation}
pub use Rattle.h2_frame.specs.Heads.{head_of}
pub use Rattle.h2_frame.specs.declared.code.Code.{Code}
pub use Rattle.h2_frame.specs.declared.code.Code.TheVariants.{InternalError}
pub use Rattle.h2_frame.specs.declared.heads.Head.{Head}
pub use Rattle.h2_wire.proofs.FaultLemmas.{one_reading_lem}
pub use Rattle.h2_wire.proofs.ReadingLemmas.{none_some}
pub use Rattle.h2_wire.specs.Faults.{wire_fault_code}
pub use Rattle.h2_wire.specs.Streams.{Frames, Limits, IsSound}
pub use Rattle.h2_wire.specs.declared.fault.WireFault.{WireFault}
pub use Rattle.h2_block.proofs.RunLemmas.{one_grouping_lem}
pub use Rattle.h2_block.specs.Grouping.{Item, alone, block, Groups, Begun, next_fault}
pub use Rattle.h2_message.specs.Messages.{SentMessage}
pub use Rattle.h2_spec_log.proofs.StreamLemmas.{stream_of_log, Keeps-frame}
pub use Rattle.h2_spec_log.proofs.examples.Octets.{octets}
pub use Rattle.h2_spec_log.proofs.examples.Settings.{remembered_answer, tableless_values}
pub use Rattle.h2_spec_log.proofs.examples.Words.{default_values, get_block, short_answer}
pub use Rattle.h2_spec_log.proofs.examples.Words.{short_request, acknowledgment, answered, request}
pub use Rattle.h2_spec_log.proofs.examples.Words.{request_block, server_settings}
pub use Rattle.h2_spec_log.proofs.examples.Words.{table_with_authority}
pub use Rattle.h2_spec_log.specs.Acts.{Values, Act, Answer, Open, PutOut, SendFields, Done}
pub use Rattle.h2_spec_log.specs.Acts.{SendData, Release, ChangeSettings, Count, Number}
pub use Rattle.h2_spec_log.specs.Acts.{OutOfMemory, Refuse, ResetStream, Refused, SendGoAway, Fail}
pub use Rattle.h2_spec_log.specs.Allowed.{AllowedHistory, reads, starts, writes, Allowed}
pub use Rattle.h2_spec_log.specs.CallRules.{answer_of, opening_pairs, refusal_of, data_count}
pub use Rattle.h2_spec_log.specs.Events.{Event, AckedEvent, FieldsEvent, UnprocessedEvent}
pub use Rattle.h2_spec_log.specs.Events.{ResetEvent}
pub use Rattle.h2_spec_log.specs.Histories.{IsLog, IsDecodedIn, IsDecoded, IsDecodedFor}
pub use Rattle.h2_spec_log.specs.Histories.{table_limit}
pub use Rattle.h2_spec_log.specs.ItemRules.{Decoded, FrameStep, completes, begins_block, fails_with}
pub use Rattle.h2_spec_log.specs.ItemRules.{verdict_of_fault}
pub use Rattle.h2_spec_log.specs.Items.{increment_on, data_of, greatest_block}
pub use Rattle.h2_spec_log.specs.Limits.{max_frame_size_sent, max_list, full_output}
pub use Rattle.h2_spec_log.specs.Log.{Log, acked, max_payload_sent, active, owed, send_window}
pub use Rattle.h2_spec_log.specs.Log.{granted}
unfoldable pub use Rattle.h2_spec_log.specs.Log.{widened}
pub use Rattle.h2_spec_log.specs.Acts.{Widen}
pub use Rattle.h2_spec_log.specs.LogCalls.{called, MayAnswer, accepts, refuses}
pub use Rattle.h2_spec_log.specs.LogSteps.{read, with_unreturned, limits_from, took_none}
pub use Rattle.h2_spec_log.specs.LogSteps.{with_failure}
pub use Rattle.h2_spec_log.specs.LogView.{log_view}
pub use Rattle.h2_spec_log.specs.Settings.{is_server, settings_count, own_value, peer_of}
pub use Rattle.h2_spec_log.specs.States.{openings, greatest_number, least_block}
pub use Rattle.h2_spec_log.specs.Verdicts.{Verdict, NoEvent, ConnectionFault, StreamFault, Reported}
pub use Rattle.h2_spec_log.specs.Verdicts.{is_fault}
pub use Rattle.h2_spec_log.specs.View.{View, ended_in}
pub use Rattle.h2_spec_log.specs.Windows.{connection_send_window, first_window}
pub use Rattle.h2_spec_log.specs.declared.role.Role.{Role}
pub use Rattle.h2_spec_log.specs.declared.role.Role.TheVariants.{Client, Server}
pub use Rattle.h2_laws_log.proofs.CallConditions.{none_holds}
pub use Rattle.h2_laws_log.proofs.InvariantLogs.{written_is_allowed, log_represents}
pub use Rattle.h2_laws_log.proofs.ItemLists.{any_after, total_none, total_one}
pub use Rattle.h2_laws_log.proofs.LogGrowth.{grows_wrote, Grows, fails_down, grows_call}
pub use Rattle.h2_laws_log.proofs.LogGrowth.{grows_with_unreturned}
pub use Rattle.h2_laws_log.proofs.LogHistory.{any_either, settings_append}
pub use Rattle.h2_laws_log.proofs.LogInduction.{IsLogInvariant, kept_by_logs, MayReport, WritesNone}
pub use Rattle.h2_laws_log.proofs.LogInduction.{fails_instead, no_memory, of_item, of_unprocessed}
pub use Rattle.h2_laws_log.proofs.LogInduction.{puts_out, refused, ends_connection}
pub use Rattle.h2_laws_log.proofs.PayloadsOfLogs.{written_by_payloads}
pub use Rattle.h2_laws_log.proofs.ReaderStates.{active_parts, active_from, lasts_from}
pub use Rattle.h2_laws_log.proofs.WindowsOfTwoEnds.{total-append}
pub use Rattle.h2_laws_log.specs.Sending.{IsSendable, frames_by, oldest_first, AreSendable}
pub use Rattle.h2_laws_log.specs.Sending.{frames_of_item}
pub use Rattle.h2_laws_end.proofs.Grouped.{groups_now, items_grouped}
pub use Rattle.h2_laws_end.proofs.GroupedPrefixes.{prefix_grouped}
pub use Rattle.h2_laws_end.proofs.OutputPrefixes.{output_grouped, output_read}
pub use Rattle.h2_laws_end.proofs.Overlaps.{overlap}
pub use Rattle.h2_laws_end.proofs.PieceLogs.{read_here}
pub use Rattle.h2_laws_end.proofs.ReadVerdicts.{Says, says_of, says_any}
pub use Rattle.h2_laws_end.proofs.SendableCalls.{written_sendable_by, payloads_may}
pub use Rattle.h2_laws_end.proofs.SendableCalls.{written_sendable}
pub use Rattle.h2_laws_end.proofs.SendableItems.{IsPayload}
pub use Rattle.h2_laws_end.proofs.Sendings.{log_sent}
pub use Rattle.h2_laws_end.proofs.Unread.{reads_fails, reads_unprocessed}
pub use Rattle.h2_laws_end.specs.Sendings.{EncodesInOrder, sent_acknowledgment, sent_block}
pub use Rattle.h2_laws_end.specs.Sendings.{sent_nothing, sent_other}
pub use Rattle.h2_laws_machine.proofs.EveryStep.{every_log_has_machine}
pub use Rattle.h2_laws_machine.specs.Machines.{MachineStep, ends_frame, is_called}
pub use Rattle.h2_laws_machine.specs.Machines.{runs_out_of_memory, meets_fault, reports_unprocessed}
pub use Rattle.h2_laws_machine.specs.Machines.{uses_part}
pub use Rattle.h2_laws_pair.specs.Directions.{AreUnderWay, CarriesOctets, ConservesConnection}
pub use Rattle.h2_laws_pair.specs.Directions.{ConservesStream}
pub use Rattle.h2_laws_pair.specs.HeaderTables.{HeaderTablesInStep, DecodeInOrder}
pub use Rattle.h2_laws_pair.specs.Pairs.{Half, IsPair, HalfStep, takes, calls, loses, client_steps}
pub use Rattle.h2_laws_pair.specs.Pairs.{server_steps, begins, octets_used, given_since}
pub use Rattle.h2_laws_pair.specs.Quiet.{IsQuiet, WasReset}
pub use Rattle.h2_laws_pair.specs.Tokens.{Token, FieldsToken, OctetToken, EndToken}
pub use Rattle.h2_laws_pair.specs.Tokens.{IsPrefixOfTokens}
pub use Rattle.h2_laws_pair.specs.Undisturbed.{LeavesUp, WasAsked}
pub use Rattle.std.proofs.lemmas.Grind.{common_steps}
