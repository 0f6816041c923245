-- The names of std and of the crates below that several proofs cite, passed on from one place.
unfoldable pub use Rattle.h2_ends.specs.EndCalls.{IsUnchanged, MayAsk, MayPump, MayReleaseAll}
unfoldable pub use Rattle.h2_ends.specs.EndCalls.{MayReply, MaySendBody, MaySendTrailers}
unfoldable pub use Rattle.h2_ends.specs.Ends.{handed_as, handed_at, IsNoEmptyPart, said_for}
unfoldable pub use Rattle.h2_ends.specs.Ends.{part_of_event, part_on, parts_on, reads_on}
unfoldable pub use Rattle.h2_ends.specs.Ends.{tokens_given, tokens_of_part, tokens_of_parts}
unfoldable pub use Rattle.h2_ends.specs.MessageTokens.{parts_heard, parts_said}
unfoldable pub use Rattle.h2_ends.specs.SoundSaid.{IsSoundSaid}
unfoldable pub use Rattle.h2_joined.specs.Stored.{event_kept, Fits, IsEventPlace, stored_field}
unfoldable pub use Rattle.h2_laws_pair.specs.Steps.{AreUndisturbed}
unfoldable pub use Rattle.h2_laws_pair.specs.Tokens.{end_tokens, IsNoEmptyData, said_tokens}
unfoldable pub use Rattle.h2_laws_pair.specs.Tokens.{tokens_heard, tokens_sent}
unfoldable pub use Rattle.h2_laws_pair.specs.Undisturbed.{IsUndisturbed, IsUndisturbedStep}
unfoldable pub use Rattle.h2_spec_log.specs.Acts.{IsTypedAct}
unfoldable pub use Rattle.h2_spec_log.specs.Log.{next_unprocessed}
unfoldable pub use Rattle.h2_spec_log.specs.LogCalls.{opened, with_call}
unfoldable pub use Rattle.h2_spec_log.specs.LogSteps.{with_sent}
unfoldable pub use Rattle.h2_spec_log.specs.States.{is_used}
pub use Rattle.h2_block.specs.Grouping.{alone, block, Item}
pub use Rattle.h2_conn.specs.Conn.{answer_by}
pub use Rattle.h2_ends.proofs.EndOrder.{KeepsOrder, no_part_next}
pub use Rattle.h2_ends.proofs.EndParts.{handed_elsewhere, part_tokens, readable_here, tokens_with}
pub use Rattle.h2_ends.proofs.TakeRefusing.{memory_fails}
pub use Rattle.h2_ends.specs.EndCalls.{data_refused, end_with_said, Pumps, pumps_data}
pub use Rattle.h2_ends.specs.EndCalls.{pumps_no_more}
pub use Rattle.h2_ends.specs.EndCalls.{pumps_trailers, Releases, releases_no_more, releases_one}
pub use Rattle.h2_ends.specs.EndCalls.{releases_refused, trailers_refused}
pub use Rattle.h2_ends.specs.EndTakes.{end_with_handed, end_with_log, EndMayTake, fails}
pub use Rattle.h2_ends.specs.EndTakes.{hands_nothing, hands_out, IsReadableWith, passes}
pub use Rattle.h2_ends.specs.EndTakes.{refusal_fails, refuses, runs_out_of_memory}
pub use Rattle.h2_ends.specs.Ends.{BodyHanded, EndAnswer, EndFailed, EndLog, EndTook, Handed}
pub use Rattle.h2_ends.specs.Ends.{HeadHanded, InterimHanded, Passed, tokens_handed, tokens_out}
pub use Rattle.h2_ends.specs.Ends.{tokens_said, TrailersHanded}
pub use Rattle.h2_ends.specs.Loans.{event_handed}
pub use Rattle.h2_ends.specs.MessageTokens.{IsPrefixOfParts, MessageToken}
pub use Rattle.h2_ends.specs.Quiet.{IsQuietEnd}
pub use Rattle.h2_ends.specs.Represents.{EndAnswers, EndPumps, EndReleases, EndRepresents}
pub use Rattle.h2_ends.specs.Represents.{EndRequests, EndResponds, new_end_log, SendsInOrder}
pub use Rattle.h2_ends.specs.declared.end.End.{End}
pub use Rattle.h2_ends.specs.declared.refusal.EndRefusal.{EndRefusal}
pub use Rattle.h2_flow.specs.ConfigValues.{values_of}
pub use Rattle.h2_frame.specs.declared.code.Code.{Code}
pub use Rattle.h2_frame.specs.declared.code.Code.TheVariants.{InternalError}
pub use Rattle.h2_joined.specs.Delivering.{ChangesOnly, IsKeptAt, PutsPipe, TakesDelivery}
pub use Rattle.h2_joined.specs.Delivering.{TakesNext}
pub use Rattle.h2_joined.specs.Headline.{AreQuiet, ReportsNoFault, WasResetAt, WasResetIn}
pub use Rattle.h2_joined.specs.Joints.{acted_as, acted_by, at_client, at_server, begins, Calls}
pub use Rattle.h2_joined.specs.Joints.{continues, Delivers, delivers, Delivery, delivery_fails}
pub use Rattle.h2_joined.specs.Joints.{delivery_stops, Doing, Fails, half_of, has_failed}
pub use Rattle.h2_joined.specs.Joints.{IsControlCall, IsDelivered, IsJoint, IsNextAct, JointEnd}
pub use Rattle.h2_joined.specs.Joints.{Made, MayDo, MemorySufficed, moves, new_joint_end}
pub use Rattle.h2_joined.specs.Joints.{no_copy_of_a_request, no_copy_of_a_response, pumps}
pub use Rattle.h2_joined.specs.Joints.{releases_all, Requests, requests, Responds, responds, Stops}
pub use Rattle.h2_joined.specs.Joints.{Whole, with_answer, with_given, with_happened}
pub use Rattle.h2_joined.specs.Kept.{accepted_shown, end_at, HoldsOctets, JoinedRepresents}
pub use Rattle.h2_joined.specs.Kept.{KeepsEnd, KeepsHanded, kept_of, made, MakesAct, other_side}
pub use Rattle.h2_joined.specs.Kept.{said_shown, Shown}
pub use Rattle.h2_joined.specs.Runs.{MakesAll}
pub use Rattle.h2_joined.specs.Stored.{AreStored, EventPlace, events_kept, HasRoomForEvent}
pub use Rattle.h2_joined.specs.Stored.{IsFieldPlace, IsSpan, KeepsMore, items_in, stored_fields}
pub use Rattle.h2_joined.specs.declared.act.Acted.{Acted}
pub use Rattle.h2_joined.specs.declared.act.Side.{Side}
pub use Rattle.h2_joined.specs.declared.act.Side.TheVariants.{Client, Server}
pub use Rattle.h2_joined.specs.declared.joined.Joined.{Joined}
pub use Rattle.h2_joined.specs.declared.kept.Accepted.{Accepted}
pub use Rattle.h2_joined.specs.declared.kept.Kept.{Kept}
pub use Rattle.h2_joined.specs.declared.pipe.Pipe.{Pipe}
pub use Rattle.h2_joined.specs.declared.store.FieldPlace.{FieldPlace}
pub use Rattle.h2_joined.specs.declared.store.Span.{Span}
pub use Rattle.h2_joined.specs.declared.store.Store.{Store}
pub use Rattle.h2_laws_end.proofs.OverNumbers.{opened_is_new}
pub use Rattle.h2_laws_end.proofs.TakeAnswers.{log_after_take}
pub use Rattle.h2_laws_end.specs.Over.{is_number_used}
pub use Rattle.h2_laws_end.specs.Takes.{Failed, MayTake, Took}
pub use Rattle.h2_laws_log.proofs.LogGrowth.{grows_call}
pub use Rattle.h2_laws_pair.proofs.BothWays.{ends_to_client, ends_to_server}
pub use Rattle.h2_laws_pair.proofs.FaultsInvariant.{first_or_later}
pub use Rattle.h2_laws_pair.proofs.FaultsOfPairs.{faultless_client, faultless_server}
pub use Rattle.h2_laws_pair.proofs.HeardPairs.{begins_message, client_hears, server_hears}
pub use Rattle.h2_laws_pair.proofs.PairLogs.{both_logs}
pub use Rattle.h2_laws_pair.proofs.StepCalls.{call_gives_nothing}
pub use Rattle.h2_laws_pair.specs.Pairs.{calls, given_since, Half, IsPair}
pub use Rattle.h2_laws_pair.specs.Tokens.{is_begun, IsPrefixOfTokens, Said, Token, tokens_of_event}
pub use Rattle.h2_laws_pair.specs.Undisturbed.{WasAsked}
pub use Rattle.h2_message.specs.Messages.{asks_head, broken_by_request, broken_by_response}
pub use Rattle.h2_message.specs.Messages.{SentMessage}
pub use Rattle.h2_message.specs.declared.malformed.Malformed.{Malformed}
pub use Rattle.h2_message.specs.Reading.{FieldsPart, IsReadable, OctetsPart, Part}
pub use Rattle.h2_message.specs.Values.{message_value}
pub use Rattle.h2_message.specs.declared.reading.Place.{Place}
pub use Rattle.h2_message.specs.declared.reading.Reads.{Reads}
pub use Rattle.h2_message.specs.declared.reading.Reads.TheVariants.{Responses}
pub use Rattle.h2_spec_log.proofs.StreamLemmas.{stream_of_log}
pub use Rattle.h2_spec_log.specs.Acts.{Act, Answer, ChangeSettings, Count, Done, Number, Open}
pub use Rattle.h2_spec_log.specs.Acts.{OutOfMemory, PutOut, Refuse, Refused, ResetStream}
pub use Rattle.h2_spec_log.specs.Acts.{SendFields, SendGoAway, SendPing, Values, Widen, Fail}
pub use Rattle.h2_spec_log.specs.Events.{DataEvent, Event, FieldsEvent, ResetEvent}
pub use Rattle.h2_spec_log.specs.Events.{UnprocessedEvent}
pub use Rattle.h2_spec_log.specs.Histories.{IsLog}
pub use Rattle.h2_spec_log.specs.Log.{Log}
pub use Rattle.h2_spec_log.specs.LogCalls.{MayAnswer}
pub use Rattle.h2_spec_log.specs.LogView.{log_view}
pub use Rattle.h2_spec_log.specs.Settings.{is_server}
pub use Rattle.h2_spec_log.specs.States.{openings}
pub use Rattle.h2_spec_log.specs.View.{View}
pub use Rattle.h2_spec_log.specs.declared.refusal.Refusal.{Refusal}
pub use Rattle.h2_spec_log.specs.declared.role.Role.{Role}
pub use Rattle.hpack.specs.Lists.{list_size}
pub use Rattle.hpack.specs.Written.{AreOctets}
pub use Rattle.hpack.specs.declared.types.field.Field.{Field}
pub use Rattle.hpack_text.proofs.ReadLemmas.{all_octets}
pub use Rattle.std.proofs.Common.{[], add-one, ap, append-nil, append_assoc, ap₂, arith, Bool, drop}
pub use Rattle.std.proofs.Common.{Err, false, IfOk, if◌then◌else◌, inl, inr, length, List, map}
pub use Rattle.std.proofs.Common.{None, Ok, Option, refl, Result, reverse, rules, Some, subst, suc}
pub use Rattle.std.proofs.Common.{sym, take, true, ℕ, ◌++◌, ◌+◌, ◌-◌, ◌<◌, ◌==◌, ◌^◌, ◌∙◌, ◌∷◌, ◌≡◌}
pub use Rattle.std.proofs.Common.{◌≢◌, ◌≤◌, ◌⊎◌}
pub use Rattle.std.proofs.Math.Seq.{drop-append_seam}
pub use Rattle.std.proofs.lemmas.Bool.{both_ways, cases_Bool, cases_eq}
pub use Rattle.std.proofs.lemmas.List.{drop-append-le, drop-drop, drop_min, length-append}
pub use Rattle.std.proofs.lemmas.List.{length-drop, length-take, map-append, reverse-append}
pub use Rattle.std.proofs.lemmas.List.{take-append-drop, take_all}
pub use Rattle.std.proofs.lemmas.List.Elements.{Contains-append_right}
pub use Rattle.std.specs.List.{AllByRecursion, Contains, list_any, slice_get}
