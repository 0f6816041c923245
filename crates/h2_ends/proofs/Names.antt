-- The names of std and of the crates below that several proofs cite, passed on from one place.
pub use Rattle.h2_block.specs.Grouping.{alone, block, Item}
pub use Rattle.h2_conn.specs.Conn.{answer_by, ConnAnswers, ConnRepresents, reader_next_number}
pub use Rattle.h2_conn.specs.declared.conn.Conn.{Conn}
unfoldable pub use Rattle.h2_ends.specs.EndCalls.{MayPump, MayReleaseAll}
pub use Rattle.h2_ends.specs.EndCalls.{BodyWaits, end_with_said, IsNextOwed, IsStuckOn, Pumps}
pub use Rattle.h2_ends.specs.EndCalls.{end_with_more, IsNotOpen, IsOpen, with_octets}
pub use Rattle.h2_ends.specs.EndCalls.{with_trailers, answered_with, answer_reads, begun}
pub use Rattle.h2_ends.specs.EndCalls.{opened_with}
pub use Rattle.h2_message.specs.Lengths.{broken_by_head}
pub use Rattle.h2_ends.specs.EndCalls.{RefusesMessage, TrailersWait}
pub use Rattle.h2_ends.specs.EndEvents.{end_event_with_parts, LocatedPart}
pub use Rattle.h2_ends.specs.EndTakes.{end_with_handed, end_with_log, hands_nothing, hands_out}
pub use Rattle.h2_ends.specs.EndTakes.{IsReadableWith, passes, refusal_fails}
unfoldable pub use Rattle.h2_ends.specs.Ends.{asked_head, handed_as, handed_at, replaced, said_for}
unfoldable pub use Rattle.h2_ends.specs.Ends.{part_of_event, part_on, parts_on, reads_on}
unfoldable pub use Rattle.h2_ends.specs.Ends.{tokens_given, tokens_of_part, tokens_of_parts}
pub use Rattle.h2_ends.specs.Ends.{BodyHanded, EndAnswer, EndFailed, EndLog, EndTook, Handed}
pub use Rattle.h2_ends.specs.Ends.{Passed, tokens_handed, tokens_out, tokens_said, tokens_waiting}
pub use Rattle.h2_ends.specs.Heads.{given_stream, IsAnswered, IsGiven, IsOpened, KeepsOne}
pub use Rattle.h2_ends.specs.Heads.{OpensStream, outgoing_for, SendsHead}
pub use Rattle.h2_ends.specs.Pumping.{end_after_call, HasSent, IsPumping, IsSendingOn, IsStopped}
pub use Rattle.h2_ends.specs.Pumping.{IsStuckBelow, keeps_with, KeepsActiveBut, KeepsActiveOnly}
pub use Rattle.h2_ends.specs.Pumping.{LacksSpace, PumpsSoFar, sends_data, sends_nothing}
pub use Rattle.h2_ends.specs.Pumping.{sends_trailers, with_outgoing}
pub use Rattle.h2_ends.specs.Quiet.{HasRoom, IsQuietEnd}
unfoldable pub use Rattle.h2_ends.specs.Represents.{IsKept, IsOutgoing}
pub use Rattle.h2_ends.specs.Represents.{EndPumps, EndReleases, EndRepresents, HandsInOrder}
pub use Rattle.h2_ends.specs.Represents.{InSpan, IsCutShort, IsInStep, IsStream, IsUntouched}
pub use Rattle.h2_ends.specs.Represents.{IsWaiting, KeepsActive, kept_at, new_end_log, outgoing_in}
pub use Rattle.h2_ends.specs.Represents.{OwesWithin, reads_of_new, RepresentsBut}
pub use Rattle.h2_ends.specs.Represents.{RepresentsMessages, SendsInOrder, tokens_kept}
pub use Rattle.h2_ends.specs.Represents.{WaitsWithin, WasRefused}
unfoldable pub use Rattle.h2_ends.specs.Sends.{HasGone, HasPumped}
pub use Rattle.h2_ends.specs.Sends.{IsNextIn, IsNextKept, IsPumped, keeps_of, NoneWaits, PumpGoes}
pub use Rattle.h2_ends.specs.Sends.{PumpsOn, Sends, StopsBy, WaitsAsBefore}
unfoldable pub use Rattle.h2_ends.specs.Taking.{AnswersRefusal, ReadsData, ReadsFields}
pub use Rattle.h2_ends.specs.Taking.{code_unread, end_with_part, HasReported, IsReadOn, MustRefuse}
pub use Rattle.h2_ends.specs.declared.end.End.{End}
pub use Rattle.h2_ends.specs.declared.outgoing.Outgoing.{Outgoing}
pub use Rattle.h2_ends.specs.declared.outgoing.Stream.{Stream}
pub use Rattle.h2_ends.specs.declared.outgoing.Waiting.{Waiting}
pub use Rattle.h2_ends.specs.declared.sending.SendState.{SendState}
pub use Rattle.h2_ends.specs.declared.sending.SendState.TheVariants.{Full, Idle, Sent, Stuck}
pub use Rattle.h2_ends.specs.declared.span.Span.{Span}
pub use Rattle.h2_ends.specs.declared.span.Spans.{Spans}
pub use Rattle.h2_frame.specs.Frames.{Data, Frame, GoAway, Ping, Reset, Settings, WindowUpdate}
pub use Rattle.h2_frame.specs.declared.code.Code.{Code}
pub use Rattle.h2_frame.specs.declared.code.Code.TheVariants.{InternalError}
pub use Rattle.h2_laws_end.proofs.ActivityCalls.{active_by_call, inactive_by_call}
pub use Rattle.h2_laws_end.proofs.OverCalls.{items_no_block, over_by_call, used_by_call}
pub use Rattle.h2_laws_end.proofs.OverEvents.{data_in_use, fields_in_use}
pub use Rattle.h2_laws_end.proofs.OverRoom.{no_room_by_call, owed_inactive, window_test}
pub use Rattle.h2_laws_end.proofs.OverSteps.{call_keeps, HoldsRead}
pub use Rattle.h2_laws_end.proofs.TakeAnswers.{log_after_take}
pub use Rattle.h2_laws_end.proofs.WrittenSteps.{call_writes}
unfoldable pub use Rattle.h2_laws_end.specs.Activity.{call_may_close, event_may_close}
unfoldable pub use Rattle.h2_laws_end.specs.Activity.{take_has_data, take_has_fields}
unfoldable pub use Rattle.h2_laws_end.specs.Activity.{take_may_close}
pub use Rattle.h2_laws_end.specs.Over.{has_room, is_number_used, IsOver}
pub use Rattle.h2_laws_end.specs.Takes.{AfterTake, ends_frame, ends_no_frame, Failed, has_failed}
pub use Rattle.h2_laws_end.specs.Takes.{MayTake, meets_fault, reports_unprocessed}
pub use Rattle.h2_laws_end.specs.Takes.{runs_out_of_memory, TakeAnswer, Took}
pub use Rattle.h2_laws_end.specs.Written.{IsCredit, Writes}
pub use Rattle.h2_laws_log.proofs.CallConditions.{neither_other, none_holds}
pub use Rattle.h2_laws_log.proofs.LogGrowth.{grows_call}
pub use Rattle.h2_laws_log.proofs.PartsStay.{call_calls}
pub use Rattle.h2_laws_log.proofs.ReaderStates.{active_parts, state_is_active}
unfoldable pub use Rattle.h2_laws_pair.specs.Tokens.{end_tokens, said_tokens, tokens_heard}
unfoldable pub use Rattle.h2_laws_pair.specs.Tokens.{tokens_of_call, tokens_of_event, tokens_sent}
unfoldable pub use Rattle.h2_laws_pair.specs.Tokens.{trailers_tokens}
pub use Rattle.h2_laws_pair.specs.Tokens.{EndToken, FieldsToken, is_head_alone, IsPrefixOfTokens}
pub use Rattle.h2_laws_pair.specs.Tokens.{AtOnce, at_once, Begun, Ended, Form, is_begun, Said}
pub use Rattle.h2_laws_pair.specs.Tokens.{given_end, is_ended_by_head}
pub use Rattle.h2_laws_pair.specs.Tokens.{OctetToken, Token}
pub use Rattle.h2_message.proofs.LawSent.{sent_request, sent_response}
pub use Rattle.h2_message.proofs.PhaseSteps.{after_both, after_none}
pub use Rattle.h2_message.proofs.PhaseWhole.{body_parts, ended_more, not_readable}
unfoldable pub use Rattle.h2_message.specs.Messages.{trailer_fields}
pub use Rattle.h2_message.specs.Messages.{asks_head, broken_by_request, broken_by_response}
pub use Rattle.h2_message.specs.Messages.{first_broken, interim_rules, SentMessage, trailer_rules}
unfoldable pub use Rattle.h2_message.specs.Phases.{phase_after_all, phase_after_final}
unfoldable pub use Rattle.h2_message.specs.Phases.{phase_after_head, place_at_head, place_in}
pub use Rattle.h2_message.specs.Phases.{Follows, place_after}
unfoldable pub use Rattle.h2_message.specs.Reading.{final_rules}
pub use Rattle.h2_message.specs.Reading.{compared_length, FieldsPart, IsReadable, OctetsPart, Part}
pub use Rattle.h2_message.specs.Values.{message_value}
pub use Rattle.h2_message.specs.declared.malformed.Malformed.{Malformed}
pub use Rattle.h2_message.specs.declared.message.Message.{Message}
pub use Rattle.h2_message.specs.declared.reading.Phase.{Phase}
pub use Rattle.h2_message.specs.declared.reading.Phase.TheVariants.{AtEnd, AtHead, InBody}
pub use Rattle.h2_message.specs.declared.reading.Place.{Place}
pub use Rattle.h2_message.specs.declared.reading.Reading.{Reading}
pub use Rattle.h2_message.specs.declared.reading.Reads.{Reads}
pub use Rattle.h2_message.specs.declared.reading.Reads.TheVariants.{Requests, Responses}
unfoldable pub use Rattle.h2_spec_log.specs.Acts.{IsTypedAct}
pub use Rattle.h2_spec_log.specs.Acts.{Act, Answer, Count, Done, Number, Open, OutOfMemory, Refuse}
pub use Rattle.h2_spec_log.specs.Acts.{Refused, Release, SendData, SendFields, Values}
unfoldable pub use Rattle.h2_spec_log.specs.CallRules.{data_frames, data_items, items_of}
pub use Rattle.h2_spec_log.specs.CallRules.{has_all_streams, is_full, is_no_stream, is_too_large}
pub use Rattle.h2_spec_log.specs.CallRules.{reader_due, reader_owed, reader_room, refusal_of}
pub use Rattle.h2_spec_log.specs.Events.{AckedEvent, DataEvent, Event, FieldsEvent, GoAwayEvent}
pub use Rattle.h2_spec_log.specs.Events.{PongEvent, ResetEvent, UnprocessedEvent}
pub use Rattle.h2_spec_log.specs.Histories.{IsLog}
pub use Rattle.h2_spec_log.specs.Items.{data_of, data_on, ends, is_block_on, total}
pub use Rattle.h2_spec_log.specs.Limits.{full_output, max_data}
unfoldable pub use Rattle.h2_spec_log.specs.Log.{output, owed, released, unreleased, waiting}
pub use Rattle.h2_spec_log.specs.Log.{active, Log, max_payload_sent, next_number}
unfoldable pub use Rattle.h2_spec_log.specs.LogCalls.{opened, refused_with, with_call}
pub use Rattle.h2_spec_log.specs.LogCalls.{accepts, fails, lacks, MayAnswer, refuses, with_items}
pub use Rattle.h2_spec_log.specs.LogView.{log_view, stream_of_log}
pub use Rattle.h2_spec_log.specs.Settings.{is_server}
pub use Rattle.h2_spec_log.specs.States.{when}
pub use Rattle.h2_spec_log.specs.View.{ended_out, owed_on, StreamView, View}
pub use Rattle.h2_spec_log.specs.contracts.role.Role.{the_type}
pub use Rattle.h2_spec_log.specs.declared.refusal.Refusal.{Refusal}
pub use Rattle.h2_spec_log.specs.declared.refusal.Refusal.TheVariants.{Closed, Ended, Memory}
pub use Rattle.h2_spec_log.specs.declared.refusal.Refusal.TheVariants.{NoSuchStream, OutputFull}
pub use Rattle.h2_spec_log.specs.declared.role.Role.{Role}
pub use Rattle.h2_spec_log.specs.declared.role.Role.TheVariants.{Client, Server}
pub use Rattle.hpack.specs.declared.types.field.Field.{Field}
pub use Rattle.std.proofs.Common.{[], ap, append-nil, append_assoc, arith, Bool, cond, drop, Err}
pub use Rattle.std.proofs.Common.{false, Global, IfOk, if◌then◌else◌, inl, inr, is_none, is_some}
pub use Rattle.std.proofs.Common.{leb-true, length, length-drop, List, ltb-false, ltb-true, min}
pub use Rattle.std.proofs.Common.{nat_eq, nat_le, nat_lt, None, not, Ok, Option, option_map, refl}
pub use Rattle.std.proofs.Common.{Result, Some, subst, suc, sym, take, true, Vec, zero, ℕ, ◌&&◌}
pub use Rattle.std.proofs.Common.{◌++◌, ◌+◌, ◌-◌, ◌<◌, ◌==◌, ◌^◌, ◌||◌, ◌↔◌, ◌∙◌, ◌∷◌, ◌≡◌, ◌≢◌}
pub use Rattle.std.proofs.Common.{◌≤◌, ◌⊎◌}
pub use Rattle.std.proofs.Math.Seq.{drop-append_seam, take-length}
pub use Rattle.std.proofs.lemmas.Bool.{and_from, and_parts, and_right, both_ways, cases_Bool}
pub use Rattle.std.proofs.lemmas.Bool.{cases_eq, eq-eqb, eqb-true, false_from_ne_true, le-ltb}
pub use Rattle.std.proofs.lemmas.Bool.{lt-ltb, ne_eqb, or_from}
pub use Rattle.std.proofs.lemmas.Bool.Decides.{nat_tests}
pub use Rattle.std.proofs.lemmas.List.{drop_all, length-append}
pub use Rattle.std.proofs.lemmas.Result.{err_from_is_err_and}
pub use Rattle.std.specs.Cmp.{nat_eq_equiv}
pub use Rattle.std.specs.List.{AllByRecursion, Contains, list_any}
pub use denote.Enum.Bare.{sameb}
