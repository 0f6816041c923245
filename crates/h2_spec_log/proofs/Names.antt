-- The names of std and of the crates below that several proofs cite, passed on from one place.
unfoldable pub use Rattle.h2_frame.specs.Encoding.{encoding_of, refusal, payload_of}
unfoldable pub use Rattle.h2_spec_log.specs.Acts.{IsTypedAct}
unfoldable pub use Rattle.h2_spec_log.specs.CallRules.{data_frames, items_of, changed_pairs}
unfoldable pub use Rattle.h2_spec_log.specs.CallRules.{data_items, may_lack_memory}
unfoldable pub use Rattle.h2_spec_log.specs.CallRules.{may_fail_for_memory, opening_pairs}
unfoldable pub use Rattle.h2_spec_log.specs.CallRules.{refuse_fault, stream_of_act}
unfoldable pub use Rattle.h2_spec_log.specs.ItemRules.{frame_step, replies_to, settings_fault}
unfoldable pub use Rattle.h2_spec_log.specs.ItemRules.{grouped, grouping_step, may_be_first}
unfoldable pub use Rattle.h2_spec_log.specs.ItemRules.{opened_by, verdict_of}
unfoldable pub use Rattle.h2_spec_log.specs.Log.{active_count, next_unprocessed, output, waiting}
unfoldable pub use Rattle.h2_spec_log.specs.Log.{last_processed, max_payload_sent_by, max_streams}
unfoldable pub use Rattle.h2_spec_log.specs.LogCalls.{opened, with_call, before_put_out}
unfoldable pub use Rattle.h2_spec_log.specs.LogCalls.{refused_with, with_items}
unfoldable pub use Rattle.h2_spec_log.specs.Settings.{payload_limit, settings_of}
unfoldable pub use Rattle.h2_spec_log.specs.WrittenFrames.{takes, takes_block, before}
unfoldable pub use Rattle.h2_wire.specs.Streams.{preface, expected_preface}
unfoldable pub use Rattle.h2_block.specs.Grouping.{fault_outside}
unfoldable pub use Rattle.h2_block.specs.Spread.{continuations}
unfoldable pub use Rattle.h2_spec_log.specs.States.{lesser_number}
unfoldable pub use Rattle.h2_spec_log.specs.Items.{encoding_of_item, encoding_of_items}
unfoldable pub use Rattle.h2_spec_log.specs.ItemEffects.{encoder_after_settings}
unfoldable pub use Rattle.h2_spec_log.specs.LogSteps.{owed_at_close, used, with_frame}
unfoldable pub use Rattle.h2_spec_log.specs.LogSteps.{with_reported, with_sent, with_step}
unfoldable pub use Rattle.h2_spec_log.specs.LogSteps.{with_unreturned, with_verdict}
pub use Rattle.std.proofs.Common.{Bool, Option, ap, arith, length, nat_le, nat_lt, suc, sym, ◌&&◌}
pub use Rattle.std.proofs.Common.{◌<◌, ◌==◌, ◌∙◌, ◌≤◌, subst, inl, inr, append-nil, length-drop}
pub use Rattle.std.proofs.Common.{is_none}
pub use Rattle.std.proofs.lemmas.Bool.Decides.{nat_tests}
pub use Rattle.std.specs.Prelude.{List, None, Some, [], codes, false, map, negsuc, pos, refl}
pub use Rattle.std.specs.Prelude.{replicate, true, ℕ, ◌*◌, ◌++◌, ◌+◌, ◌-◌, ◌∷◌, ◌≡◌, ℤ}
pub use Rattle.std.proofs.lemmas.Bool.{and_parts, eqb-true}
pub use Rattle.std.proofs.lemmas.List.{nil_from_length}
pub use Rattle.h2_block.specs.Grouping.{Item, alone, block}
pub use Rattle.h2_frame.specs.Frames.{Continuation, Data, Frame, GoAway, Headers, Ping, Priority}
pub use Rattle.h2_frame.specs.Frames.{Reset, Settings, WindowUpdate, Unknown}
pub use Rattle.h2_frame.specs.declared.code.Code.TheVariants.{EnhanceYourCalm, FlowControlError}
pub use Rattle.h2_frame.specs.declared.code.Code.TheVariants.{InternalError, NoError, ProtocolError}
pub use Rattle.h2_frame.specs.declared.code.Code.TheVariants.{StreamClosed}
pub use Rattle.h2_frame.specs.declared.head_faults.HeadFault.TheVariants.{WrongLength}
pub use Rattle.h2_spec_log.specs.Acts.{Act, ChangeSettings, Count, Done, Number, Open, OutOfMemory}
pub use Rattle.h2_spec_log.specs.Acts.{PutOut, Refuse, Refused, Release, ResetStream, SendData}
pub use Rattle.h2_spec_log.specs.Acts.{SendFields, SendGoAway, SendPing, Values, Answer, Fail}
pub use Rattle.h2_spec_log.specs.Events.{DataEvent, Event, FieldsEvent, ResetEvent, AckedEvent}
pub use Rattle.h2_spec_log.specs.Events.{GoAwayEvent, UnprocessedEvent}
pub use Rattle.h2_spec_log.specs.Histories.{IsLog, begins, called_one, took_one, IsDecodedFor}
pub use Rattle.h2_spec_log.specs.Histories.{met_fault, ran_out_of_memory, reported_one}
pub use Rattle.h2_spec_log.specs.ItemRules.{Decoded, completes, fails_with, begins_block}
pub use Rattle.h2_spec_log.specs.Log.{Log, recv_window, send_window, state, acked}
pub use Rattle.h2_spec_log.specs.LogSteps.{took_frame, took_none, limits_from, took_out_of_memory}
pub use Rattle.h2_spec_log.specs.LogView.{log_view}
pub use Rattle.h2_spec_log.specs.States.{Active, Closed, ClosedByUs, Idle}
pub use Rattle.h2_spec_log.specs.Verdicts.{ConnectionFault, NoEvent, Reported, StreamFault, Verdict}
pub use Rattle.h2_spec_log.specs.View.{View, StreamView}
pub use Rattle.h2_spec_log.specs.declared.refusal.Refusal.TheVariants.{NotOwed, GoingAway}
pub use Rattle.h2_spec_log.specs.declared.refusal.Refusal.TheVariants.{OutputFull, Memory}
pub use Rattle.h2_spec_log.specs.declared.refusal.Refusal.TheVariants.{PingWaits, NoSuchStream}
pub use Rattle.h2_spec_log.specs.declared.refusal.Refusal.TheVariants.{SettingsWait}
pub use Rattle.h2_spec_log.specs.declared.role.Role.{Role}
pub use Rattle.h2_spec_log.specs.declared.role.Role.TheVariants.{Client, Server}
pub use Rattle.hpack.specs.Lists.{empty_table, EncoderState}
pub use Rattle.hpack.specs.Tables.{Entries}
pub use Rattle.hpack.specs.declared.types.field.Field.{Field}
pub use Rattle.h2_frame.specs.Encoding.{IsTyped}
pub use Rattle.h2_wire.specs.Streams.{Limits, Frames, WireFaultAt}
pub use Rattle.h2_spec_log.specs.Settings.{is_server}
pub use Rattle.h2_spec_log.specs.Limits.{max_frame_size_sent}
pub use Rattle.h2_frame.specs.declared.code.Code.{Code}
pub use Rattle.h2_spec_log.specs.LogCalls.{called, fails, lacks}
pub use Rattle.h2_spec_log.specs.CallRules.{refusal_of, answer_of}
pub use Rattle.h2_wire.specs.declared.fault.WireFault.TheVariants.{BadPreface}
