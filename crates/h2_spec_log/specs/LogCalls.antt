-- What an end's log is after a call with its answer, and at first.
use Rattle.std.specs.Prelude.{◌≡◌, ℕ, ◌+◌, not, false, true, if◌then◌else◌, List, [], ◌∷◌, ◌++◌}
use Rattle.std.specs.Prelude.{Option, Some, None}
use Rattle.hpack.specs.Lists.{empty_table}
use Rattle.h2_frame.specs.declared.code.Code.{Code}
use Rattle.h2_frame.specs.declared.code.Code.TheVariants.{InternalError}
use Rattle.h2_frame.specs.Frames.{Settings}
use Rattle.h2_wire.specs.Streams.{expected_preface}
use Rattle.h2_block.specs.Grouping.{alone}
use Rattle.h2_spec_log.specs.Items.{encoding_of_items}
use Rattle.h2_spec_log.specs.Acts.{shown, Values, Act, Answer, Out, Refuse, Fail, PutOut, Count}
use Rattle.h2_spec_log.specs.Acts.{OutOfMemory, Refused, Called, Answered}
use Rattle.h2_spec_log.specs.Settings.{is_server}
use Rattle.h2_spec_log.specs.Log.{Log, last_processed, max_payload_sent_by}
use Rattle.h2_spec_log.specs.LogView.{log_view}
use Rattle.h2_spec_log.specs.CallRules.{refusal_of, answer_of, items_of, refuse_fault}
use Rattle.h2_spec_log.specs.CallRules.{stream_of_act, encoder_after_call, may_lack_memory}
use Rattle.h2_spec_log.specs.CallRules.{may_fail_for_memory, returns_before_put_out, opening_pairs}
use Rattle.h2_spec_log.specs.LogSteps.{with_sent, with_unreturned, with_credit_returned}
use Rattle.h2_spec_log.specs.LogSteps.{owed_at_close, with_failure}
use Rattle.h2_spec_log.specs.declared.role.Role.{Role}
use Rattle.h2_spec_log.specs.declared.refusal.Refusal.{Refusal}
use Rattle.h2_spec_log.specs.declared.refusal.Refusal.TheVariants.{Memory}

-- the log with a call and its answer
abbrev pub called : Log → Act → Answer → Log
called log act answer =
    record log {
      calls =
          (act, answer) ∷ log.calls;
      encoder = encoder_after_call log.encoder act answer;
      turns = Answered (shown answer) ∷ Called act ∷ log.turns;
    }

-- the log with what a call writes, and what it makes due where it closes a stream
unfoldable pub with_items : Log → Act → Answer → Log
with_items log act answer =
    let written = with_sent (called log act answer) (items_of (log_view log) act answer) in
    with_unreturned (owed_at_close log written (stream_of_act act)) written

-- the log in which the layer above refused a stream
unfoldable pub refused_with : Log → Act → Answer → Option Code → Log
refused_with log act answer (Some code) = with_failure code (last_processed log)
    (called log act answer)
refused_with log act answer None = with_items log act answer

-- What is unreturned is returned at the start of a call that puts output out.
unfoldable pub before_put_out : Log → Log
before_put_out log = if returns_before_put_out (log_view log) then with_credit_returned log else log

-- the log after a call with its answer
-- rule: calls (own) A call does what it says, or is refused for its first condition
-- rule: calls (own) The layer above ends the connection with a code of its own
unfoldable pub with_call : Log → Act → Answer → Log
with_call log act (Refused refusal) = called log act (Refused refusal)
with_call log act OutOfMemory = with_failure InternalError (last_processed log)
    (called log act OutOfMemory)
with_call log (Refuse id code) answer = refused_with log (Refuse id code) answer (refuse_fault
    (log_view log) code)
with_call log (Fail code) answer = with_failure code (last_processed log)
    (called log (Fail code) answer)
with_call log (PutOut count) (Count given) = record (before_put_out (called log (PutOut count)
    (Count given))) { given = log.given + given }
with_call log act answer = with_items log act answer

-- The call may have this answer: the rules' where no condition holds, and otherwise the refusal for
-- the first one that does; or an allocation was refused where no condition holds and the call takes
-- memory, and the call is refused for it, or, of `Refuse`, the connection fails.
-- rule: calls (own) A call does what it says, or is refused for its first condition
pub data MayAnswer (log : Log) (act : Act) (answer : Answer) : Type 0 where
  accepts : refusal_of (log_view log) act ≡ None → answer ≡ answer_of (log_view log) act
      → MayAnswer log act answer
  refuses : (refusal : Refusal) → refusal_of (log_view log) act ≡ Some refusal → answer
      ≡ Refused refusal → MayAnswer log act answer
  lacks : refusal_of (log_view log) act ≡ None → may_lack_memory (log_view log) act ≡ true → answer
      ≡ Refused Memory → MayAnswer log act answer
  fails : refusal_of (log_view log) act ≡ None → may_fail_for_memory (log_view log) act ≡ true
      → answer ≡ OutOfMemory → MayAnswer log act answer

-- the log of an end that has written nothing but a client's preface
-- rule: 3.4 Both ends begin with SETTINGS
abbrev pub before_opening : Role → Log
before_opening role =
    record {
      role = role;
      input = [];
      limits = λ place. 16384;
      frames = [];
      unparsed = [];
      begun = None;
      received = [];
      sent = [];
      written = expected_preface (not (is_server role));
      payloads = [];
      reported = [];
      calls = [];
      table = empty_table 4096;
      encoder = record { table = empty_table 4096; least = 4096; limit = 4096 };
      unreturned = 0;
      given = 0;
      failed = None;
      turns = [];
    }

-- the log of a new end: its one turn is the output of its opening
unfoldable pub opened : Role → Values → Log
opened role values =
    let settings = alone (Settings false (opening_pairs role values)) ∷ [] in
    record (with_sent (before_opening role) settings) {
      turns = Out (expected_preface (not (is_server role))
          ++ encoding_of_items (max_payload_sent_by []) settings) ∷ [];
    }
