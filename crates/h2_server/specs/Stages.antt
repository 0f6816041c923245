-- How far the answer of an exchange is, and what an answer of its handler makes of that.
use Rattle.std.specs.Prelude.{ℕ, Bool, true, false, Result, Ok, Err, not}
use Rattle.h2_frame.specs.declared.code.Code.{Code}
use Rattle.h2_frame.specs.declared.code.Code.TheVariants.{InternalError}
use Rattle.h2_server.specs.declared.exchange.Stage.{Stage}
use Rattle.h2_server.specs.declared.exchange.Stage.TheVariants as stages
use Rattle.h2_server.specs.declared.handler.HandlerFault.{HandlerFault}
use Rattle.h2_server.specs.declared.handler.Reply.{Reply}
use Rattle.h2_server.specs.declared.handler.Reply.TheVariants as replies

-- the status of a request at which the handler has failed, and of one whose authority names a user
abbrev pub server_error : ℕ
server_error = 500

abbrev pub bad_request : ℕ
bad_request = 400

-- after a second answer: what was given whole, or reset, stays so; else the stream is reset with
-- code 2
abbrev pub second_answer : Stage → Stage
second_answer stages.Given = stages.Given
second_answer (stages.Gone code) = stages.Gone code
second_answer stage = stages.Resets InternalError

-- after a fault of the handler: status 500 where no head of an answer went
-- rule: handlers (own) A fault of a handler is a 500 before its answer, and a reset in it
abbrev pub stage_of_fault : Stage → Stage
stage_of_fault stages.Asked = stages.Fails server_error
stage_of_fault stage = second_answer stage

-- after no answer: status 500 where the request is whole and none was given
abbrev pub stage_once_later : (whole : Bool) → Stage → Stage
stage_once_later true stages.Asked = stages.Fails server_error
stage_once_later whole stage = stage

-- after a reset that the handler asks for
abbrev pub stage_reset : Stage → Code → Stage
stage_reset (stages.Gone before) code = stages.Gone before
stage_reset stage code = stages.Resets code

-- what follows where the first answer is given, and else
abbrev pub stage_once : (first : Stage) → Stage → Stage
stage_once first stages.Asked = first
stage_once first stage = second_answer stage

-- after this answer of the handler
-- rule: handlers (own) A fault of a handler is a 500 before its answer, and a reset in it
abbrev pub stage_after : (whole : Bool) → Stage → Result Reply HandlerFault → Stage
stage_after whole stage (Ok replies.Later) = stage_once_later whole stage
stage_after whole stage (Ok replies.Deferred) = stage
stage_after whole stage (Ok (replies.Reset code)) = stage_reset stage code
stage_after whole stage (Ok (replies.Whole message)) = stage_once (stages.Answers message) stage
stage_after whole stage (Ok (replies.Refuse message)) = stage_once (stages.Answers message) stage
stage_after whole stage (Ok (replies.Parts head)) = stage_once (stages.Begins head) stage
stage_after whole stage (Err fault) = stage_of_fault stage

-- Whether the rest of a request is not wanted after this answer of the handler: it was refused
-- before, or this is the first answer and refuses it.
-- rule: 8.1 (own) What comes of a request that was refused is dropped
abbrev pub refused_after : (refused : Bool) → Stage → Result Reply HandlerFault → Bool
refused_after refused stages.Asked (Ok (replies.Refuse message)) = true
refused_after refused stage reply = refused

-- once its handler may be asked again
abbrev pub stage_awake : Stage → Stage
stage_awake (stages.Parts later) = stages.Parts false
stage_awake stage = stage

-- Whether its handler had no part of it when it was asked.
abbrev pub is_part_later : Stage → Bool
is_part_later (stages.Parts later) = later
is_part_later stage = false

-- Whether a part of it is due: its handler gives it in parts, and may be asked for one.
abbrev pub is_part_due : Stage → Bool
is_part_due (stages.Parts later) = not later
is_part_due stage = false
