-- The names of std and of the crates below that several proofs cite, passed on from one place.
unfoldable pub use Rattle.h2_block.specs.Grouping.{fault_inside, fault_outside}
unfoldable pub use Rattle.h2_frame.specs.Encoding.{payload_of, stream_of}
unfoldable pub use Rattle.h2_laws_end.specs.Activity.{event_may_close}
unfoldable pub use Rattle.h2_laws_end.specs.Readings.{events_of_items, events_read, fault_codes}
unfoldable pub use Rattle.h2_laws_end.specs.Readings.{items_read}
unfoldable pub use Rattle.h2_laws_end.specs.Replies.{replies_among, replies_owed}
unfoldable pub use Rattle.h2_laws_end.specs.Sendings.{changes_encoder}
unfoldable pub use Rattle.h2_spec_log.specs.CallRules.{conditions, data_frames, data_items}
unfoldable pub use Rattle.h2_spec_log.specs.CallRules.{items_of, opening_pairs, refuse_fault}
unfoldable pub use Rattle.h2_spec_log.specs.Events.{flow_on, greatest_processed, processed_by}
unfoldable pub use Rattle.h2_spec_log.specs.Events.{reported_total}
unfoldable pub use Rattle.h2_spec_log.specs.ItemEffects.{events_of}
unfoldable pub use Rattle.h2_spec_log.specs.ItemRules.{frame_step, grouped, grouping_step}
unfoldable pub use Rattle.h2_spec_log.specs.ItemRules.{opened_by, replies_to, settings_fault}
unfoldable pub use Rattle.h2_spec_log.specs.ItemRules.{verdict_by_rules, verdict_of}
unfoldable pub use Rattle.h2_spec_log.specs.Items.{data_of, is_block_on, opens_from, stream_of_item}
unfoldable pub use Rattle.h2_spec_log.specs.Items.{data_on, ends, is_goaway, resets, total}
unfoldable pub use Rattle.h2_spec_log.specs.Items.{encoding_of_items, increment_on, is_goaway_below}
unfoldable pub use Rattle.h2_spec_log.specs.Log.{active_count, last_processed, max_streams}
unfoldable pub use Rattle.h2_spec_log.specs.Log.{next_number, next_unprocessed, output, owed}
unfoldable pub use Rattle.h2_spec_log.specs.Log.{released, unreleased, waiting}
unfoldable pub use Rattle.h2_spec_log.specs.LogCalls.{before_put_out, opened, refused_with}
unfoldable pub use Rattle.h2_spec_log.specs.LogCalls.{with_call, with_items}
unfoldable pub use Rattle.h2_spec_log.specs.LogSteps.{used, with_frame, with_reported, with_sent}
unfoldable pub use Rattle.h2_spec_log.specs.LogSteps.{with_step, with_unreturned, with_verdict}
unfoldable pub use Rattle.h2_spec_log.specs.LogView.{overflows}
unfoldable pub use Rattle.h2_spec_log.specs.States.{is_above, is_active, is_closed_by_us, is_used}
unfoldable pub use Rattle.h2_spec_log.specs.Verdicts.{block_verdict, connection_update_verdict}
unfoldable pub use Rattle.h2_spec_log.specs.Verdicts.{data_verdict, opening_verdict, reset_verdict}
unfoldable pub use Rattle.h2_spec_log.specs.Verdicts.{update_verdict}
unfoldable pub use Rattle.h2_spec_log.specs.Windows.{given_on, given_on_connection}
pub use Rattle.h2_block.specs.Gather.{block_fault_code}
pub use Rattle.h2_block.specs.Grouping.{alone, Begun, block, Groups, Item, max_block_octets}
pub use Rattle.h2_block.specs.Grouping.{next_fault}
pub use Rattle.h2_block.specs.declared.fault.BlockFault.{BlockFault}
pub use Rattle.h2_block.specs.declared.fault.BlockFault.TheVariants.{Interrupted}
pub use Rattle.h2_frame.proofs.HeadLemmas.{head_of-append}
pub use Rattle.h2_frame.specs.Codes.{code_number}
pub use Rattle.h2_frame.specs.Frames.{Continuation, Data, Frame, GoAway, Headers, Ping, Reset}
pub use Rattle.h2_frame.specs.Frames.{Settings, WindowUpdate}
pub use Rattle.h2_frame.specs.Heads.{head_of}
pub use Rattle.h2_frame.specs.declared.code.Code.{Code}
pub use Rattle.h2_frame.specs.declared.code.Code.TheVariants.{EnhanceYourCalm, FlowControlError}
pub use Rattle.h2_frame.specs.declared.code.Code.TheVariants.{InternalError, ProtocolError}
pub use Rattle.h2_laws_end.specs.Over.{is_number_used, IsOver}
pub use Rattle.h2_laws_end.specs.Readings.{AreEventsOf, ItemRead, its_pong}
pub use Rattle.h2_laws_end.specs.Replays.{calls, goes_on, has_fault, is_done, IsReplay, ReplayAct}
pub use Rattle.h2_laws_end.specs.Replays.{starts, Take, takes, TakesAll}
pub use Rattle.h2_laws_end.specs.Scripts.{AreSameButTurns, Call, Mark, Octet, Unprocessed}
pub use Rattle.h2_laws_end.specs.Scripts.{without_turns}
pub use Rattle.h2_laws_end.specs.Takes.{AnswersFrame, ends_frame, ends_no_frame, events_answered}
pub use Rattle.h2_laws_end.specs.Takes.{Failed, has_failed, MayTake, meets_fault}
pub use Rattle.h2_laws_end.specs.Takes.{reports_unprocessed, runs_out_of_memory, TakeAnswer, Took}
pub use Rattle.h2_laws_end.specs.Written.{IsCredit}
pub use Rattle.h2_laws_log.proofs.CallConditions.{none_holds}
pub use Rattle.h2_laws_log.proofs.CreditCases.{credit_cases, put_out_cases}
pub use Rattle.h2_laws_log.proofs.FitItems.{comes_fit, IsFitItem}
pub use Rattle.h2_laws_log.proofs.GrowthBySteps.{holds_call, holds_failure, holds_frame, holds_none}
pub use Rattle.h2_laws_log.proofs.GrowthBySteps.{holds_sent, holds_unreturned, holds_used}
pub use Rattle.h2_laws_log.proofs.GrowthBySteps.{HoldsOfWrites}
pub use Rattle.h2_laws_log.proofs.InvariantCalls.{active_some}
pub use Rattle.h2_laws_log.proofs.InvariantLogs.{log_represents, written_is_allowed}
pub use Rattle.h2_laws_log.proofs.InvariantSteps.{update_elsewhere}
pub use Rattle.h2_laws_log.proofs.ItemLists.{any_after, goaway_no_block, replies_no_block}
pub use Rattle.h2_laws_log.proofs.ItemLists.{total_after, total_none}
pub use Rattle.h2_laws_log.proofs.ItemsThatCome.{comes_as_before}
pub use Rattle.h2_laws_log.proofs.LogGrowth.{grows_call}
pub use Rattle.h2_laws_log.proofs.LogHistory.{any_either, History, history_of, none_both}
pub use Rattle.h2_laws_log.proofs.LogHistory.{reported_append}
pub use Rattle.h2_laws_log.proofs.LogInduction.{fails_instead, IsLogInvariant, IsPendingInvariant}
pub use Rattle.h2_laws_log.proofs.LogInduction.{kept_by_logs, no_memory, pending_by_logs, puts_out}
pub use Rattle.h2_laws_log.proofs.LogInduction.{refused, Replies, WritesNone, ends_connection}
pub use Rattle.h2_laws_log.proofs.LogInvariant.{active_before, Good}
pub use Rattle.h2_laws_log.proofs.LogViewLemmas.{closed_by_us_is, count_by_sums, last_is}
pub use Rattle.h2_laws_log.proofs.LogViewLemmas.{owed_there, stream_is_active}
pub use Rattle.h2_laws_log.proofs.PartsStay.{call_calls, SamePart, stays_written}
pub use Rattle.h2_laws_log.proofs.PayloadsOfLogs.{written_by_payloads}
pub use Rattle.h2_laws_log.proofs.ReaderStates.{active_from, active_parts, active_used, lasts_from}
pub use Rattle.h2_laws_log.proofs.ReaderStates.{lasts_parts, state_is_active}
pub use Rattle.h2_laws_log.proofs.ReleasedCredit.{released_here, unreleased_is}
pub use Rattle.h2_laws_log.proofs.ReplyInvariant.{chosen_low, idle_unused, used_here, used_more}
pub use Rattle.h2_laws_log.proofs.RulesByTests.{second_false}
pub use Rattle.h2_laws_log.proofs.StreamNumbers.{next_odd}
pub use Rattle.h2_laws_log.proofs.WindowsOfTwoEnds.{total-append}
pub use Rattle.h2_laws_log.specs.Sending.{AreSendable, IsSendable, oldest_first}
pub use Rattle.h2_spec_log.proofs.SentPayloads.{most_between}
pub use Rattle.h2_spec_log.proofs.StreamLemmas.{Keeps-call, Keeps-frame, Keeps-none, stream_of_log}
pub use Rattle.h2_spec_log.specs.Acts.{Act, Answer, Answered, AreInRange, Called, ChangeSettings}
pub use Rattle.h2_spec_log.specs.Acts.{Count, Done, Happened, In, Number, Open, Out, OutOfMemory}
pub use Rattle.h2_spec_log.specs.Acts.{PutOut, Refuse, Refused, Release, ResetStream, SendData}
pub use Rattle.h2_spec_log.specs.Acts.{SendFields, SendGoAway, SendPing, TakeAnswered, TakeCalled}
pub use Rattle.h2_spec_log.specs.Acts.{Turn, Values, Fail}
pub use Rattle.h2_spec_log.specs.Allowed.{AllowedHistory}
pub use Rattle.h2_spec_log.specs.CallRules.{answer_of, refusal_of}
pub use Rattle.h2_spec_log.specs.Events.{DataEvent, Event, FieldsEvent, UnprocessedEvent}
pub use Rattle.h2_spec_log.specs.Histories.{begins, IsLog, to_keep, to_take, took_one, took_some}
pub use Rattle.h2_spec_log.specs.Histories.{called_one, IsDecodedIn, reported_one, TakesOctets}
pub use Rattle.h2_spec_log.specs.Histories.{IsDecodedFor, MayRunOutOfMemory, ran_out_of_memory}
pub use Rattle.h2_spec_log.specs.Histories.{met_fault, TakesFault, TakesFrame, TakesPart, to_report}
pub use Rattle.h2_spec_log.specs.ItemRules.{begins_block, completes, Decoded, fails_with, FrameStep}
pub use Rattle.h2_spec_log.specs.ItemRules.{is_stream_fault, may_be_first, peer_opens}
pub use Rattle.h2_spec_log.specs.ItemRules.{verdict_of_fault}
pub use Rattle.h2_spec_log.specs.Limits.{max_frame_size_sent, max_list}
pub use Rattle.h2_spec_log.specs.Log.{acked, active, Log, max_payload_sent, max_payload_sent_by}
pub use Rattle.h2_spec_log.specs.Log.{send_window, state}
pub use Rattle.h2_spec_log.specs.LogCalls.{accepts, called, fails, lacks, MayAnswer, refuses}
pub use Rattle.h2_spec_log.specs.LogSteps.{limits_from, read, took_fault, took_frame, took_none}
pub use Rattle.h2_spec_log.specs.LogSteps.{took_out_of_memory, with_credit_returned, with_failure}
pub use Rattle.h2_spec_log.specs.LogSteps.{with_item}
pub use Rattle.h2_spec_log.specs.LogView.{log_view}
pub use Rattle.h2_spec_log.specs.Settings.{is_server, own_value}
pub use Rattle.h2_spec_log.specs.States.{Active, Closed, ClosedByUs, greatest_number, Idle}
pub use Rattle.h2_spec_log.specs.States.{openings, State, state_by}
pub use Rattle.h2_spec_log.specs.Verdicts.{ConnectionFault, NoEvent, Reported, StreamFault, Verdict}
pub use Rattle.h2_spec_log.specs.View.{ended_in, owed_on, View}
pub use Rattle.h2_spec_log.specs.Windows.{first_window, greatest_window}
unfoldable pub use Rattle.h2_spec_log.specs.Windows.{granted_on_connection}
pub use Rattle.h2_spec_log.specs.Acts.{Widen}
pub use Rattle.h2_spec_log.specs.declared.refusal.Refusal.{Refusal}
pub use Rattle.h2_spec_log.specs.declared.refusal.Refusal.TheVariants.{Memory}
pub use Rattle.h2_spec_log.specs.declared.role.Role.{Role}
pub use Rattle.h2_spec_log.specs.declared.role.Role.TheVariants.{Client, Server}
pub use Rattle.h2_wire.proofs.FaultLemmas.{one_reading_lem}
pub use Rattle.h2_wire.proofs.ReadingLemmas.{none_some, one_some, same_following, same_prefix}
pub use Rattle.h2_wire.specs.Faults.{wire_fault_code}
pub use Rattle.h2_wire.specs.Streams.{AreFrames, EndsWithFault, expected_preface, Frames, IsFrame}
pub use Rattle.h2_wire.specs.Streams.{IsPartial, Limits, WireFaultAt}
pub use Rattle.h2_wire.specs.declared.fault.WireFault.{WireFault}
pub use Rattle.hpack.proofs.Tests.{none_since}
pub use Rattle.hpack.specs.Choice.{block_of}
pub use Rattle.hpack.specs.declared.types.field.Field.{Field}
pub use Rattle.std.proofs.Common.{[], ap, append-nil, append_assoc, ap₂, arith, Bool, drop, false}
pub use Rattle.std.proofs.Common.{if◌then◌else◌, inl, inr, length, length-append, List, max, min}
pub use Rattle.std.proofs.Common.{nat_le, nat_lt, None, not, Option, pos, refl, Some, subst, suc}
pub use Rattle.std.proofs.Common.{sym, take, true, zero, ℕ, ◌%◌, ◌&&◌, ◌++◌, ◌+ℤ◌, ◌+◌, ◌-ℤ◌, ◌-◌}
pub use Rattle.std.proofs.Common.{◌<◌, ◌==◌, ◌^◌, ◌||◌, ◌∙◌, ◌∷◌, ◌≡◌, ◌≢◌, ◌≤◌, ◌⊎◌}
pub use Rattle.std.proofs.lemmas.Bool.{and_left, and_parts, and_right, both_ways, cases_Bool}
pub use Rattle.std.proofs.lemmas.Bool.{cases_eq, cond_both, eq-eqb, eqb-true, false_from_ne_true}
pub use Rattle.std.proofs.lemmas.Bool.{le-ltb, leb-false, leb-true, lt-ltb, ltb-false, ltb-true}
pub use Rattle.std.proofs.lemmas.Bool.{ne_eqb, or_cases, or_from, or_left, or_parts, or_right}
pub use Rattle.std.proofs.lemmas.Bool.Decides.{nat_tests}
pub use Rattle.std.proofs.lemmas.Int.{ints}
pub use Rattle.std.proofs.lemmas.List.{append_cancel_right, length-take-le}
pub use Rattle.std.proofs.lemmas.List.Folds.{list_any-append}
pub use Rattle.std.specs.List.{AllByRecursion, list_any}
pub use Rattle.std.specs.Prelude.{int_lt}
