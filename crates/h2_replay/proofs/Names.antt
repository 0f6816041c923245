-- The names of std and of the crates below that several proofs cite, passed on from one place.
pub use Rattle.h2_block.specs.Grouping.{Item}
pub use Rattle.h2_conn.specs.Conn.{answer_by, ConnAnswers, ConnRepresents}
pub use Rattle.h2_conn.specs.declared.conn.Conn.{Conn}
pub use Rattle.h2_flow.specs.ConfigValues.{values_of}
pub use Rattle.h2_frame.specs.declared.code.Code.{Code}
pub use Rattle.h2_laws_end.proofs.ReplayedLogs.{replay_closed}
pub use Rattle.h2_laws_end.proofs.ReplayedOctets.{replay_recorded}
pub use Rattle.h2_laws_end.proofs.TakeAnswers.{log_after_take}
pub use Rattle.h2_laws_end.specs.Replays.{calls, IsReplay, Make, ReplayAct, starts, Take, takes}
pub use Rattle.h2_laws_end.specs.Takes.{Failed, MayTake, TakeAnswer, Took}
pub use Rattle.h2_output.proofs.PieceLemmas.{drop-parts}
pub use Rattle.h2_replay.specs.Calls.{call_of, MakesCall}
pub use Rattle.h2_replay.specs.Recording.{Records}
pub use Rattle.h2_replay.specs.Replay.{by_octets}
unfoldable pub use Rattle.h2_replay.specs.Replay.{all_by_octets, each_octet, kept_by_octets}
pub use Rattle.h2_replay.specs.Taking.{GoesOn, IsWithinPiece, KeepsNews, ReplayTakesOctets}
pub use Rattle.h2_replay.specs.Taking.{taken_answer, taken_events}
pub use Rattle.h2_replay.specs.Values.{kept_event_value, KeptEvent, turn_value}
unfoldable pub use Rattle.h2_replay.specs.Values.{acts_made}
pub use Rattle.h2_replay.specs.declared.taking.Next.{Next}
pub use Rattle.h2_spec_log.specs.Acts.{Act, Answer, Count, Done, Happened, In, Number, Out}
pub use Rattle.h2_spec_log.specs.Acts.{OutOfMemory, PutOut, Refused, SendData, shown, TakeAnswered}
pub use Rattle.h2_spec_log.specs.Acts.{Values}
unfoldable pub use Rattle.h2_spec_log.specs.Acts.{IsTypedAct}
pub use Rattle.h2_spec_log.specs.Events.{Event}
pub use Rattle.h2_spec_log.specs.Log.{Log}
unfoldable pub use Rattle.h2_spec_log.specs.Log.{output, waiting}
unfoldable pub use Rattle.h2_spec_log.specs.LogCalls.{opened, with_call}
pub use Rattle.h2_spec_log.specs.LogSteps.{with_unreturned}
unfoldable pub use Rattle.h2_spec_log.specs.LogSteps.{with_sent}
pub use Rattle.h2_spec_log.specs.declared.role.Role.{Role}
pub use Rattle.hpack.specs.declared.types.field.Field.{Field}
pub use Rattle.std.proofs.Common.{[], ap, append-nil, append_assoc, arith, Bool, drop, false}
pub use Rattle.std.proofs.Common.{length, length-drop, List, map, None, Option, refl, reverse, Some}
pub use Rattle.std.proofs.Common.{subst, sym, take, ℕ, ◌++◌, ◌+◌, ◌-◌, ◌∙◌, ◌∷◌, ◌≡◌, ◌≤◌}
pub use Rattle.std.proofs.Math.Seq.{take-length}
pub use Rattle.std.proofs.lemmas.List.{drop-take}
pub use Rattle.std.specs.List.{slice_get}
