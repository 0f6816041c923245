-- The names of std and of the crates below that several proofs cite, passed on from one place.
pub use Rattle.h2_block.specs.Grouping.{alone, Item}
pub use Rattle.h2_conn.specs.Conn.{answer_by, ConnRepresents, GivesOut}
pub use Rattle.h2_conn.specs.declared.taken.ConnFault.{ConnFault}
pub use Rattle.h2_ends.proofs.EndTokens.{call_adds_none, call_tokens, take_calls}
pub use Rattle.h2_ends.proofs.PumpWindows.{data_active, refused_failed}
pub use Rattle.h2_ends.proofs.TakeRefusing.{memory_fails}
unfoldable pub use Rattle.h2_ends.specs.EndCalls.{MayAsk, MayPump, MayReleaseAll, MayReply}
pub use Rattle.h2_ends.specs.EndCalls.{data_refused, end_with_said, IsStuckOn, MayRequest}
pub use Rattle.h2_ends.specs.EndCalls.{MayRespond, Pumps, pumps_data}
pub use Rattle.h2_ends.specs.EndCalls.{pumps_no_more, pumps_trailers, refusal_of_message}
pub use Rattle.h2_ends.specs.EndCalls.{RefusesMessage, Releases, releases_no_more, releases_one}
pub use Rattle.h2_ends.specs.EndCalls.{releases_refused, trailers_refused}
pub use Rattle.h2_ends.specs.EndEvents.{LentPart}
pub use Rattle.h2_ends.specs.EndTakes.{end_with_log, EndMayTake}
unfoldable pub use Rattle.h2_ends.specs.Ends.{handed_as, handed_at, part_of_event, said_for}
unfoldable pub use Rattle.h2_ends.specs.Ends.{part_on, parts_on, reads_on, tokens_given}
pub use Rattle.h2_ends.specs.Ends.{asked_head, BodyHanded, EndAnswer, EndFailed, EndLog, EndTook}
pub use Rattle.h2_ends.specs.Ends.{Handed, HeadHanded, InterimHanded, Passed, tokens_out}
pub use Rattle.h2_ends.specs.Ends.{tokens_said, TrailersHanded}
pub use Rattle.h2_ends.specs.Loans.{event_handed}
pub use Rattle.h2_ends.specs.Represents.{EndAnswers, EndRepresents, EndRequests}
pub use Rattle.h2_ends.specs.Represents.{EndResponds, EndTakes, new_end_log}
pub use Rattle.h2_ends.specs.declared.end.End.{End}
pub use Rattle.h2_ends.specs.declared.event.EndTaken.{EndTaken}
pub use Rattle.h2_ends.specs.declared.refusal.EndRefusal.{EndRefusal}
pub use Rattle.h2_ends.specs.declared.refusal.EndRefusal.TheVariants.{Conn}
unfoldable pub use Rattle.h2_engines.specs.Answers.{answer_to, answer_with, body_in, body_of_parts}
unfoldable pub use Rattle.h2_engines.specs.Answers.{is_too_large_body}
pub use Rattle.h2_engines.specs.Answers.{IsRequest, text_of}
unfoldable pub use Rattle.h2_engines.specs.ClientSteps.{ErrsFetching, FetchedSo, KeepsResponse}
pub use Rattle.h2_engines.specs.ClientSteps.{ClientHears, HasRequested, IsFetchedOf, notes_body}
pub use Rattle.h2_engines.specs.ClientSteps.{notes_head, notes_interim, notes_nothing}
pub use Rattle.h2_engines.specs.ClientSteps.{notes_trailers, NotesPart}
pub use Rattle.h2_engines.specs.Failures.{CutsOffAtEnd, EndsServing, EndsWriting, error_after}
pub use Rattle.h2_engines.specs.Failures.{failures_at_end, failures_by, IsOfCall, IsOfServer}
pub use Rattle.h2_engines.specs.Fetches.{EndsUnfinished, IsNotAccepted, refused_stream}
pub use Rattle.h2_engines.specs.Linked.{HasGiven, HasTakenAll, HasTakenFirst, IsLinked}
pub use Rattle.h2_engines.specs.Linked.{IsLinkedInPart, StallsWriting, Traffic, traffic}
unfoldable pub use Rattle.h2_engines.specs.Machines.{DrivenSo, HearsSo, Keeps, RespondedSo, TakenSo}
pub use Rattle.h2_engines.specs.Machines.{Course, Drives, EndsBeforeResponse, EndsFor, Fetching}
pub use Rattle.h2_engines.specs.Machines.{gives_up, Happens, has_failed, has_stalled, HasEnded}
pub use Rattle.h2_engines.specs.Machines.{HasSentFor, Hears, HearsNoMore, IsDriven, IsDue}
pub use Rattle.h2_engines.specs.Machines.{lacks_memory, link_fails, MachineState, MachineTakesPiece}
pub use Rattle.h2_engines.specs.Machines.{MayEnd, MessageState, PutsWaiting, reset_refused}
pub use Rattle.h2_engines.specs.Machines.{Responds, Serving, stops_itself, WritesWaiting}
unfoldable pub use Rattle.h2_engines.specs.PartialMessages.{AddsOctets, EndsKept, EndsRequest}
unfoldable pub use Rattle.h2_engines.specs.PartialMessages.{KeepsNext, NotesHanded, NotesTaken}
pub use Rattle.h2_engines.specs.PartialMessages.{AreHeadsSoFar, body_room, ChangesAt, comes}
pub use Rattle.h2_engines.specs.PartialMessages.{data_parts_of, has_not_come, HasCome}
pub use Rattle.h2_engines.specs.PartialMessages.{head_and_body, interim_parts, interims_alone}
pub use Rattle.h2_engines.specs.PartialMessages.{IsLonger, IsToAnswer, IsWhole, KeepsOthers}
pub use Rattle.h2_engines.specs.PartialMessages.{KeepsRequests, request_at, RequestState}
pub use Rattle.h2_engines.specs.PartialMessages.{was_answered, was_given_up}
pub use Rattle.h2_engines.specs.Sending.{HasPutOutSince, HasSentWaiting, ReturnsCredit}
pub use Rattle.h2_engines.specs.Sending.{SendsWaiting, WritesOut, WritesOver}
pub use Rattle.h2_engines.specs.ServerHistories.{AnswersAll, begins, calm, IsResponding}
pub use Rattle.h2_engines.specs.ServerHistories.{WasAnswered, WasReportedReset, WasTooLarge}
unfoldable pub use Rattle.h2_engines.specs.ServerSteps.{EndsAfter, FinishedSo, ResetSo}
pub use Rattle.h2_engines.specs.ServerSteps.{error_with, IsSameOfMessages, IsWrittenOut, PumpsSome}
pub use Rattle.h2_engines.specs.ServerSteps.{ServerFinishes}
pub use Rattle.h2_engines.specs.Serves.{CannotReset, EndsServingSo, HasReturnedAll, HasSentAll}
pub use Rattle.h2_engines.specs.Serves.{HasSentWhole, SendsAll, Serves}
pub use Rattle.h2_engines.specs.WithoutLink.{IsServingAlone, PutsOutNext}
pub use Rattle.h2_engines.specs.declared.fetcher.Coming.{Coming}
pub use Rattle.h2_engines.specs.declared.fetcher.Fetched.{Fetched}
pub use Rattle.h2_engines.specs.declared.fetcher.Fetcher.{Fetcher}
pub use Rattle.h2_engines.specs.declared.machine.Heard.{Heard}
pub use Rattle.h2_engines.specs.declared.request.Next.{Next}
pub use Rattle.h2_engines.specs.declared.request.Request.{Request}
pub use Rattle.h2_engines.specs.declared.request.Requests.{Requests}
pub use Rattle.h2_engines.specs.declared.responder.Responder.{Responder}
pub use Rattle.h2_frame.specs.Frames.{Frame, Reset, WindowUpdate}
pub use Rattle.h2_frame.specs.declared.code.Code.{Code}
pub use Rattle.h2_frame.specs.declared.code.Code.TheVariants.{InternalError}
pub use Rattle.h2_laws_end.proofs.Failures.{items_failed}
pub use Rattle.h2_laws_end.proofs.OverRoom.{no_room_by_call, owed_inactive}
pub use Rattle.h2_laws_end.proofs.TakeAnswers.{log_after_take}
pub use Rattle.h2_laws_end.specs.Takes.{ends_frame, ends_no_frame, Failed, MayTake, meets_fault}
pub use Rattle.h2_laws_end.specs.Takes.{reports_unprocessed, TakeAnswer, Took}
pub use Rattle.h2_laws_log.proofs.LogGrowth.{grows_call}
pub use Rattle.h2_laws_log.proofs.PartsStay.{call_calls}
pub use Rattle.h2_laws_pair.proofs.FaultsInvariant.{first_in, later_in}
pub use Rattle.h2_laws_pair.proofs.StepCalls.{call_failed, call_given}
pub use Rattle.h2_laws_pair.specs.Pairs.{given_out}
unfoldable pub use Rattle.h2_laws_pair.specs.Tokens.{end_tokens, said_tokens, tokens_of_call}
pub use Rattle.h2_laws_pair.specs.Tokens.{at_once, EndToken, is_head_alone, OctetToken, Said}
pub use Rattle.h2_laws_pair.specs.Tokens.{Token, tokens_sent}
pub use Rattle.h2_laws_pair.specs.Undisturbed.{WasAsked}
pub use Rattle.h2_link.specs.Links.{ended_after, StallsAtNoProgress}
pub use Rattle.h2_link.specs.declared.error.LinkError.{LinkError}
pub use Rattle.h2_message.proofs.PhaseSteps.{after_both, after_none}
pub use Rattle.h2_message.specs.Messages.{first_broken, interim_rules, SentMessage}
unfoldable pub use Rattle.h2_message.specs.Phases.{ends_message, phase_after, phase_after_all}
unfoldable pub use Rattle.h2_message.specs.Phases.{phase_after_head, place_at_head, place_in}
pub use Rattle.h2_message.specs.Phases.{place_after}
pub use Rattle.h2_message.specs.Reading.{BreakNone, FieldsPart, IsReadable, OctetsPart, Part}
pub use Rattle.h2_message.specs.Values.{message_value}
pub use Rattle.h2_message.specs.declared.malformed.Malformed.{Malformed}
pub use Rattle.h2_message.specs.declared.message.Message.{Message}
pub use Rattle.h2_message.specs.declared.reading.Phase.{Phase}
pub use Rattle.h2_message.specs.declared.reading.Place.{Place}
pub use Rattle.h2_message.specs.declared.reading.Reads.{Reads}
pub use Rattle.h2_spec_log.proofs.StreamLemmas.{Keeps-call}
unfoldable pub use Rattle.h2_spec_log.specs.Acts.{IsTypedAct}
pub use Rattle.h2_spec_log.specs.Acts.{Act, Answer, AreInRange, Count, Done, Happened, Number, Open}
pub use Rattle.h2_spec_log.specs.Acts.{OutOfMemory, PutOut, Refuse, Refused, Release, ResetStream}
pub use Rattle.h2_spec_log.specs.Acts.{SendData, SendFields, Turn, Values, Fail}
unfoldable pub use Rattle.h2_spec_log.specs.CallRules.{conditions, first_of}
pub use Rattle.h2_spec_log.specs.CallRules.{refusal_of, returns_before_put_out, update_size}
pub use Rattle.h2_spec_log.specs.Events.{Event, ResetEvent}
pub use Rattle.h2_spec_log.specs.Limits.{full_output, max_resets}
unfoldable pub use Rattle.h2_spec_log.specs.Log.{output, waiting}
pub use Rattle.h2_spec_log.specs.Log.{active, Log, max_payload_sent, next_active, next_unprocessed}
pub use Rattle.h2_spec_log.specs.Log.{owed, reader_held, reader_next_live, resets_written}
unfoldable pub use Rattle.h2_spec_log.specs.LogCalls.{opened, with_call}
pub use Rattle.h2_spec_log.specs.LogCalls.{accepts, fails, lacks, MayAnswer, refuses}
unfoldable pub use Rattle.h2_spec_log.specs.LogSteps.{used, with_sent}
pub use Rattle.h2_spec_log.specs.LogView.{log_view}
pub use Rattle.h2_spec_log.specs.Settings.{is_server}
pub use Rattle.h2_spec_log.specs.declared.refusal.Refusal.{Refusal}
pub use Rattle.h2_spec_log.specs.declared.refusal.Refusal.TheVariants.{Memory, TooManyResets}
pub use Rattle.h2_spec_log.specs.declared.role.Role.{Role}
pub use Rattle.h2_spec_log.specs.declared.role.Role.TheVariants.{Client, Server}
pub use Rattle.hpack.specs.declared.types.field.Field.{Field}
pub use Rattle.std.proofs.Common.{[], ap, append-nil, append_assoc, arith, Bool, Bor, cond, drop}
pub use Rattle.std.proofs.Common.{Err, false, if◌then◌else◌, inl, inr, IsOk, length, length-append}
pub use Rattle.std.proofs.Common.{List, map, None, Ok, Option, option_map, refl, Result, rules}
pub use Rattle.std.proofs.Common.{Some, subst, sym, take, true, vec_len, ℕ, ◌++◌, ◌+◌, ◌-◌, ◌<◌}
pub use Rattle.std.proofs.Common.{◌^◌, ◌∙◌, ◌∷◌, ◌≡◌, ◌≢◌, ◌≤◌}
pub use Rattle.std.proofs.KnownBytes.{Appends-nil, Appends-trans}
pub use Rattle.std.proofs.Math.Seq.{drop-append_seam, take-append-add, take-append_seam}
pub use Rattle.std.proofs.lemmas.Bool.{and_cases, and_from, and_parts, and_right, both_ways}
pub use Rattle.std.proofs.lemmas.Bool.{cases_Bool, cases_eq, eq-eqb, eqb-true, false_from_ne_true}
pub use Rattle.std.proofs.lemmas.Bool.{leb-true, ne_eqb, or_from, or_left, or_parts, or_right}
pub use Rattle.std.proofs.lemmas.List.{drop-drop, drop-take, drop_all, drop_more, map_push}
pub use Rattle.std.proofs.lemmas.List.{take-append-drop, take-append-le, take_more, take_rest}
pub use Rattle.std.proofs.lemmas.List.Folds.{concat-append, list_any-append}
pub use Rattle.std.proofs.lemmas.Result.{err_from_is_err_and}
pub use Rattle.std.specs.Io.KnownBytes.{Appends}
pub use Rattle.std.specs.List.{AllByRecursion, concat, Contains, list_any, slice_get}
pub use Rattle.std.specs.Prelude.{codes, IfErr, nat_le, nat_lt, OnErr, OnOk, ◌&&◌, ◌==◌, ◌⊎◌}
pub use Rattle.std.specs.Str.{bytes_eq}
