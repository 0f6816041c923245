-- The names of std, of the crates below and of this crate that several proofs cite, passed on from
-- one place.
unfoldable pub use Rattle.hpack.specs.Choice.{block_of, after_block}
unfoldable pub use Rattle.h2_frame.specs.Encoding.{payload_of, encoding_of, stream_of, refusal}
unfoldable pub use Rattle.h2_spec_log.specs.Acts.{IsTypedAct}
unfoldable pub use Rattle.h2_spec_log.specs.CallRules.{items_of, changed_pairs, opening_pairs}
unfoldable pub use Rattle.h2_spec_log.specs.CallRules.{data_frames, data_items, conditions}
unfoldable pub use Rattle.h2_spec_log.specs.CallRules.{stream_of_act, with_max_frame, refuse_fault}
unfoldable pub use Rattle.h2_spec_log.specs.Events.{flow_on, reported_total, reports_unprocessed}
unfoldable pub use Rattle.h2_spec_log.specs.Events.{one_pong, one_acked, greatest_processed}
unfoldable pub use Rattle.h2_spec_log.specs.Events.{processed_by}
unfoldable pub use Rattle.h2_spec_log.specs.ItemEffects.{events_of, encoder_after_settings}
unfoldable pub use Rattle.h2_spec_log.specs.ItemRules.{replies_to, verdict_by_rules, frame_step}
unfoldable pub use Rattle.h2_spec_log.specs.ItemRules.{verdict_of, settings_fault, opened_by}
unfoldable pub use Rattle.h2_spec_log.specs.ItemRules.{over_limits}
unfoldable pub use Rattle.h2_spec_log.specs.Items.{total, increment_on, is_block_on, data_on, ends}
unfoldable pub use Rattle.h2_spec_log.specs.Items.{is_goaway, one_answer, data_of}
unfoldable pub use Rattle.h2_spec_log.specs.Items.{encoding_of_items, is_goaway_below, resets}
unfoldable pub use Rattle.h2_spec_log.specs.Items.{one_ping, encoding_of_item, greatest_block}
unfoldable pub use Rattle.h2_spec_log.specs.Items.{opens_from, stream_of_item}
unfoldable pub use Rattle.h2_spec_log.specs.Log.{least_goaway, released, widened, last_processed}
unfoldable pub use Rattle.h2_spec_log.specs.Log.{max_payload_sent_by, next_unprocessed, waiting}
unfoldable pub use Rattle.h2_spec_log.specs.Log.{unreleased, active_count, allowed_by, next_number}
unfoldable pub use Rattle.h2_spec_log.specs.Log.{max_streams, next_active, output}
unfoldable pub use Rattle.h2_spec_log.specs.LogCalls.{opened, with_call, refused_with, with_items}
unfoldable pub use Rattle.h2_spec_log.specs.LogCalls.{before_put_out}
unfoldable pub use Rattle.h2_spec_log.specs.LogSteps.{with_sent, with_reported, used}
unfoldable pub use Rattle.h2_spec_log.specs.LogSteps.{with_unreturned, owed_at_close, with_frame}
unfoldable pub use Rattle.h2_spec_log.specs.LogSteps.{with_step, with_verdict}
unfoldable pub use Rattle.h2_spec_log.specs.LogView.{overflows}
unfoldable pub use Rattle.h2_spec_log.specs.Settings.{one_ack, settings_count, value_read}
unfoldable pub use Rattle.h2_spec_log.specs.Settings.{one_settings, value_after, value_fault}
unfoldable pub use Rattle.h2_spec_log.specs.States.{is_used, is_active, is_above, count_below}
unfoldable pub use Rattle.h2_spec_log.specs.States.{is_closed_by_us, least_block, any_block}
unfoldable pub use Rattle.h2_spec_log.specs.States.{is_over}
unfoldable pub use Rattle.h2_spec_log.specs.Verdicts.{block_verdict, data_verdict}
unfoldable pub use Rattle.h2_spec_log.specs.Verdicts.{connection_update_verdict, opening_verdict}
unfoldable pub use Rattle.h2_spec_log.specs.Verdicts.{reset_verdict, update_verdict}
unfoldable pub use Rattle.h2_laws_log.specs.Sums.{sum_below}
unfoldable pub use Rattle.h2_spec_log.specs.Windows.{given_on, given_on_connection, granted_on}
unfoldable pub use Rattle.h2_spec_log.specs.Windows.{granted_on_connection}
pub use Rattle.std.proofs.Common.{ap, subst, length-drop, ◌≡◌, ◌⊎◌, ◌≢◌, ℕ, zero, suc, ◌+◌, ◌≤◌}
pub use Rattle.std.proofs.Common.{◌<◌, nat_lt, Bool, true, false, if◌then◌else◌, List, [], ◌++◌}
pub use Rattle.std.proofs.Common.{length, Option, None, Some, refl, ◌∙◌, inl, inr, arith, ◌%◌, ◌==◌}
pub use Rattle.std.proofs.Common.{◌&&◌, nat_le, max, ◌∷◌, sym, length-append, ◌||◌, not, ◌-◌, min}
pub use Rattle.std.proofs.Common.{take, drop, ◌^◌, zero-add, ◌*◌, length-take, pos, ◌+ℤ◌, ◌-ℤ◌}
pub use Rattle.std.proofs.Common.{rules}
pub use Rattle.std.proofs.lemmas.Bool.{both_ways, and_parts, or_from, eq-eqb, ne_eqb, or_cases}
pub use Rattle.std.proofs.lemmas.Bool.{or_parts, and_right, cases_eq, eqb-true, ltb-false, ltb-true}
pub use Rattle.std.proofs.lemmas.Bool.{or_left, and_from, false_from_ne_true, le-ltb, and_left}
pub use Rattle.std.proofs.lemmas.Bool.{not-true, or_right, cases_Bool, cases_lt, leb-false}
pub use Rattle.std.proofs.lemmas.Bool.{leb-true, lt-ltb, true_from_ne_false, cond_both, lt-leb}
pub use Rattle.std.proofs.lemmas.Bool.Decides.{nat_tests}
pub use Rattle.std.proofs.lemmas.Int.{ints}
pub use Rattle.std.specs.List.{list_any, AllByRecursion}
pub use Rattle.std.specs.Option.{is_some}
pub use Rattle.hpack.proofs.LimitLemmas.{limit_preserves, fold_limits}
pub use Rattle.hpack.proofs.Tests.{none_since}
pub use Rattle.hpack.specs.Limits.{after_limit}
pub use Rattle.hpack.specs.Lists.{list_size, EncoderState}
pub use Rattle.hpack.specs.Written.{IsValidEncoder}
pub use Rattle.h2_frame.specs.Codes.{code_number}
pub use Rattle.h2_frame.specs.Encoding.{IsTyped}
pub use Rattle.h2_frame.specs.Frames.{Settings, WindowUpdate, GoAway, Data, Ping, Reset, Frame}
pub use Rattle.h2_frame.specs.Frames.{Headers, Continuation}
pub use Rattle.h2_frame.specs.declared.code.Code.{Code}
pub use Rattle.h2_frame.specs.declared.code.Code.TheVariants.{InternalError, EnhanceYourCalm}
pub use Rattle.h2_frame.specs.declared.code.Code.TheVariants.{ProtocolError, FlowControlError}
pub use Rattle.h2_wire.specs.Streams.{expected_preface, AreFrames, Frames, Limits}
pub use Rattle.h2_block.specs.Grouping.{Item, alone, block, Begun, next_fault}
pub use Rattle.h2_spec_log.specs.Acts.{Act, Values, Answer, AreInRange, Done, Release, Count, Open}
pub use Rattle.h2_spec_log.specs.Acts.{Widen}
pub use Rattle.h2_spec_log.specs.Acts.{OutOfMemory, PutOut, Refuse, SendData, SendGoAway, Happened}
pub use Rattle.h2_spec_log.specs.Acts.{Number, Refused, SendFields, ChangeSettings, In, ResetStream}
pub use Rattle.h2_spec_log.specs.Acts.{SendPing, Turn, Out, shown, Fail}
pub use Rattle.h2_spec_log.specs.Allowed.{AllowedHistory, writes, HasAcknowledged, MayContinue}
pub use Rattle.h2_spec_log.specs.Allowed.{Allowed, IsReader, starts, MayOpen, MayReset}
pub use Rattle.h2_spec_log.specs.Allowed.{active_by_items, reads, MayUpdateWindow}
pub use Rattle.h2_spec_log.specs.Allowed.{MayChangeSettings, MaySendData}
pub use Rattle.h2_spec_log.specs.CallRules.{answer_of, refusal_of, data_count, returns_credit}
pub use Rattle.h2_spec_log.specs.CallRules.{at_least_none}
pub use Rattle.h2_spec_log.specs.Events.{Event, ResetEvent, UnprocessedEvent, DataEvent}
pub use Rattle.h2_spec_log.specs.Histories.{IsLog, IsDecodedIn, TakesFrame, begins, took_some}
pub use Rattle.h2_spec_log.specs.Histories.{took_one, met_fault, ran_out_of_memory, reported_one}
pub use Rattle.h2_spec_log.specs.Histories.{called_one}
pub use Rattle.h2_spec_log.specs.ItemEffects.{least_last}
pub use Rattle.h2_spec_log.specs.ItemRules.{Decoded, FrameStep, completes, verdict_of_fault}
pub use Rattle.h2_spec_log.specs.ItemRules.{begins_block, fails_with, peer_opens, is_at_capacity}
pub use Rattle.h2_spec_log.specs.Limits.{max_list, full_output, max_data, max_frame_size_sent}
pub use Rattle.h2_spec_log.specs.Log.{Log, active, goaway_written, max_payload_sent, state, acked}
pub use Rattle.h2_spec_log.specs.Log.{settings_wait, goaway_read, send_window, streams_allowed}
pub use Rattle.h2_spec_log.specs.LogCalls.{called, MayAnswer, accepts, fails, lacks, refuses}
pub use Rattle.h2_spec_log.specs.LogSteps.{read, with_failure, with_credit_returned, limits_from}
pub use Rattle.h2_spec_log.specs.LogSteps.{took_none}
pub use Rattle.h2_spec_log.specs.LogView.{log_view, stream_of_log}
pub use Rattle.h2_spec_log.specs.Settings.{is_server, own_value, peer_of}
pub use Rattle.h2_spec_log.specs.States.{Idle, openings, State, Active, greatest_number, ClosedByUs}
pub use Rattle.h2_spec_log.specs.States.{state_by, Closed, stream_state, when}
pub use Rattle.h2_spec_log.specs.Verdicts.{Verdict, NoEvent, Reported, ConnectionFault, StreamFault}
pub use Rattle.h2_spec_log.specs.Verdicts.{is_fault}
pub use Rattle.h2_spec_log.specs.View.{View, ended_in, StreamView, owed_on}
pub use Rattle.h2_spec_log.specs.declared.refusal.Refusal.{Refusal}
pub use Rattle.h2_spec_log.specs.declared.role.Role.{Role}
pub use Rattle.h2_spec_log.specs.declared.role.Role.TheVariants.{Client, Server}
pub use Rattle.h2_laws_log.specs.Payloads.{encoding_by, PayloadHistory}
pub use Rattle.h2_spec_log.specs.Windows.{first_window, greatest_window, passes, is_above_greatest}
pub use Rattle.h2_spec_log.specs.Windows.{connection_send_window}
pub use Rattle.hpack.specs.declared.types.field.Field.{Field}
pub use Rattle.hpack.proofs.WrittenBlocks.{block_goes_on}
pub use Rattle.h2_wire.specs.Faults.{wire_fault_code}
pub use Rattle.h2_block.specs.Spread.{encoding_of_frames}
pub use Rattle.std.proofs.lemmas.Grind.{common_steps}
