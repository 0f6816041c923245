-- The steps of the examples: calls with the rules' answers, frames that are delivered, and output
-- that is put out; and that pairs come about by them.
use Rattle.h2_spec_log.specs.LogSteps.{took_frame}
use Rattle.h2_spec_log.specs.Histories.{TakesFrame, TakesOctets}
use Rattle.h2_frame.specs.Encoding.{payload_of, encoding_of, refusal, IsTyped}
use Rattle.h2_spec_log.specs.declared.refusal.Refusal.{Refusal}
use Rattle.h2_spec_log.specs.Acts.{AreInRange, IsTypedAct}
use Rattle.h2_spec_log.specs.WrittenFrames.{before}
use Rattle.h2_spec_log.proofs.EncodingLemmas.{taken_frame}
use Rattle.h2_spec_log.proofs.examples.Words.{answer_by}
use Rattle.h2_spec_log.proofs.examples.Coming.{within}
use Rattle.h2_laws_pair.proofs.Names
use Names.{◌≡◌, ℕ, nat_le, true, List, [], ◌∷◌, ◌++◌, length, drop, Option, None, Some, Bool, false}
use Names.{if◌then◌else◌, refl, sym, subst, Field, Entries, Frame, Headers, Role, Client, Server}
use Names.{is_server, payload_limit, Values, Act, Answer, OutOfMemory, View, Log, acked}
use Names.{next_unprocessed, log_view, MayAnswer, accepts, refuses, with_call, opened, limits_from}
use Names.{used, refusal_of, answer_of, Decoded, IsLog, IsDecodedFor, stream_of_log, Keeps-frame}
use Names.{answered, Frames, ends_frame, runs_out_of_memory, is_called, MayStep, log_after, Half}
use Names.{HalfStep, calls, takes, IsPair, begins, client_steps, server_steps, given_since}
use Names.{IsUndisturbed, IsUndisturbedStep, LeavesUp, ◌≢◌}
use Rattle.h2_laws_pair.proofs.PairLogs.{both_logs}
use Rattle.h2_laws_log.proofs.CallConditions.{answer_in_memory}

-- two ends
pub record Pair : Type 0 where
  pub client : Half
  pub server : Half

-- two new ends
abbrev pub new_pair : (client_values server_values : Values) → Pair
new_pair client_values server_values = record {
  client = record { log = opened Client client_values; incoming = []; lost = [] };
  server = record { log = opened Server server_values; incoming = []; lost = [] };
}

-- the log after a call with the answer of the rules
abbrev pub log_called : Log → Act → Log
log_called log act = with_call log act (answered (log_view log) act)

-- the end of a call
abbrev pub caller : Half → Act → Half
caller one act = record one { log = log_called one.log act }

-- and the other one
abbrev pub other_of_call : (one other : Half) → Act → Half
other_of_call one other act =
    record other { incoming = other.incoming ++ given_since one.log (log_called one.log act) }

-- the octets of a frame that is the next one
abbrev pub next_octets : Log → Frame → List ℕ
next_octets log frame = before log ++ encoding_of frame

-- the end to which a frame is delivered, of which this was decoded
abbrev pub reader : Half → Option Decoded → Frame → Half
reader one decoded frame = record one {
  log = took_frame one.log (next_octets one.log frame) decoded frame;
  incoming = drop (length (next_octets one.log frame)) one.incoming;
}

-- a call at the client, and at the server
abbrev pub client_calls : Pair → Act → Pair
client_calls pair act =
    record { client = caller pair.client act; server = other_of_call pair.client pair.server act }

abbrev pub server_calls : Pair → Act → Pair
server_calls pair act =
    record { client = other_of_call pair.server pair.client act; server = caller pair.server act }

-- a frame is delivered to the client, and to the server
abbrev pub client_takes : Pair → Frame → Pair
client_takes pair frame = record pair { client = reader pair.client None frame }

abbrev pub server_takes : Pair → Frame → Pair
server_takes pair frame = record pair { server = reader pair.server None frame }

-- a field block is, in one HEADERS frame
abbrev pub client_takes_block : Pair → (stream : ℕ) (end : Bool) (octets : List ℕ) → List Field
    → Entries → Pair
client_takes_block pair stream end octets fields after = record pair {
  client = reader pair.client (Some (record { fields = fields; after = after }))
      (Headers stream end true octets None None);
}

abbrev pub server_takes_block : Pair → (stream : ℕ) (end : Bool) (octets : List ℕ) → List Field
    → Entries → Pair
server_takes_block pair stream end octets fields after = record pair {
  server = reader pair.server (Some (record { fields = fields; after = after }))
      (Headers stream end true octets None None);
}

-- The pair comes about, and was never disturbed.
pub record Comes (client_values server_values : Values) (pair : Pair) : Type 0 where
  pub steps : IsPair client_values server_values pair.client pair.server
  pub undisturbed : IsUndisturbed steps

-- Two new ends are such a pair.
pub new_pair_comes : (client_values server_values : Values) → AreInRange client_values
    → AreInRange server_values
    → Comes client_values server_values (new_pair client_values server_values)
unfolding IsUndisturbed
new_pair_comes client_values server_values in_range others_in_range =
    record { steps = begins in_range others_in_range; undisturbed = tt }

-- An answer of the rules may be had.
may_answer_by : (log : Log) (act : Act) (refused : Option Refusal)
    → refusal_of (log_view log) act ≡ refused
    → MayAnswer log act (answer_by refused (answer_of (log_view log) act))
may_answer_by log act None none = accepts none refl
may_answer_by log act (Some refusal) some = refuses refusal some refl

may_answer : (log : Log) (act : Act) → MayAnswer log act (answered (log_view log) act)
may_answer log act = may_answer_by log act (refusal_of (log_view log) act) refl

in_memory_by : (view : View) (act : Act) (refused : Option Refusal)
    → answer_by refused (answer_of view act) ≢ OutOfMemory
in_memory_by view act None same = answer_in_memory view act same
in_memory_by view act (Some refusal) same = cc

-- So calls come about.
pub client_calls_comes : {client_values server_values : Values} (pair : Pair) (act : Act)
    → Comes client_values server_values pair → IsTypedAct act → LeavesUp pair.client.log act
    → Comes client_values server_values (client_calls pair act)
unfolding IsUndisturbed IsUndisturbedStep
client_calls_comes pair act comes typed up = record {
  steps = client_steps comes.steps (calls act _ typed (may_answer pair.client.log act));
  undisturbed = (comes.undisturbed, (in_memory_by (log_view pair.client.log) act _, up));
}

pub server_calls_comes : {client_values server_values : Values} (pair : Pair) (act : Act)
    → Comes client_values server_values pair → IsTypedAct act → LeavesUp pair.server.log act
    → Comes client_values server_values (server_calls pair act)
unfolding IsUndisturbed IsUndisturbedStep
server_calls_comes pair act comes typed up = record {
  steps = server_steps comes.steps (calls act _ typed (may_answer pair.server.log act));
  undisturbed = (comes.undisturbed, (in_memory_by (log_view pair.server.log) act _, up));
}

-- What is tested of a frame that is delivered, for P to hold: the end takes octets and has no part
-- of a frame; the frame can be written, and stands first on the pipe; and the end doesn't fail.
abbrev pub OfNext : (one : Half) (decoded : Option Decoded) (frame : Frame) (P : Type 0) → Type 0
OfNext one decoded frame P =
    one.log.failed ≡ None → next_unprocessed one.log ≡ 0 → one.log.unparsed ≡ [] → IsTyped frame
    → refusal frame ≡ None
    → nat_le (length (payload_of frame)) (payload_limit (acked one.log) one.log.sent) ≡ true
    → IsDecodedFor one.log decoded frame
    → one.incoming ≡ next_octets one.log frame
    ++ drop (length (next_octets one.log frame)) one.incoming
    → (took_frame one.log (next_octets one.log frame) decoded frame).failed ≡ None → P

-- The octets of such a frame are those with which it ends.
frame_taken : (role : Role) (values : Values) (log : Log) (decoded : Option Decoded) (frame : Frame)
    → IsLog role values log → TakesOctets log → log.unparsed ≡ [] → IsTyped frame
    → refusal frame ≡ None
    → nat_le (length (payload_of frame)) (payload_limit (acked log) log.sent) ≡ true
    → IsDecodedFor log decoded frame
    → (took_frame log (next_octets log frame) decoded frame).failed ≡ None
    → TakesFrame log.role log (next_octets log frame) frame
unfolding used
frame_taken role values log decoded frame is opened whole typed writable fits says up =
    let after = taken_frame role values log frame decoded is opened whole typed writable
    (within _ _ fits) says in
    let k = Keeps-frame (used log (next_octets log frame) []) decoded frame in
    let framed = (stream_of_log role values _ after).framed up in
    let here : Frames (is_server role) (limits_from log) (log.input ++ next_octets log frame)
    (log.frames ++ frame ∷ []) [] = rw (k.limits, k.input, k.frames, k.unparsed) at framed in
    subst (λ (r : Role). Frames (is_server r) (limits_from log)
    (log.input ++ next_octets log frame) (log.frames ++ frame ∷ []) [])
    (sym (stream_of_log role values log is).role) here

-- It is no call.
no_call : (octets : List ℕ) (frame : Frame) (decoded : Option Decoded) (act : Act)
    (answer : Answer) → ends_frame octets frame decoded ≢ is_called act answer
no_call octets frame decoded act answer same = cc

-- It is not refused memory.
in_memory : (taken : List ℕ) (frame : Frame) (decoded : Option Decoded) (octets : List ℕ)
    → ends_frame taken frame decoded ≢ runs_out_of_memory octets
in_memory taken frame decoded octets same = cc

-- So a frame that is delivered comes about, and is not disturbed.
half_takes : (role : Role) (values : Values) (one other : Half) (decoded : Option Decoded)
    (frame : Frame) → IsLog role values one.log → OfNext one decoded frame
    ((step : HalfStep one other (reader one decoded frame) other)
    × IsUndisturbedStep one other step)
unfolding log_after MayStep IsUndisturbedStep
half_takes role values one other decoded frame is up reported whole typed writable fits says first
    stays =
    let next : TakesOctets one.log = record { up = up; all_reported = reported } in (
      takes (ends_frame (next_octets one.log frame) frame decoded) _ (
        next,
        frame_taken role values one.log decoded frame is next whole typed writable fits says stays,
        says,
      ) (no_call _ frame decoded) first,
      in_memory _ frame decoded,
    )

pub client_takes_comes : {client_values server_values : Values} (pair : Pair)
    (decoded : Option Decoded) (frame : Frame) → Comes client_values server_values pair
    → OfNext pair.client decoded frame (Comes client_values server_values
    (record pair { client = reader pair.client decoded frame }))
unfolding IsUndisturbed
client_takes_comes {client_values} {server_values} pair decoded frame comes up reported whole typed
    writable fits says first stays =
    let both = both_logs client_values server_values pair.client pair.server comes.steps in
    let step = half_takes Client client_values pair.client pair.server decoded frame
    both.client_log up reported whole typed writable fits says first stays in
    record {
      steps = client_steps comes.steps step.0;
      undisturbed = (comes.undisturbed, step.1);
    }

pub server_takes_comes : {client_values server_values : Values} (pair : Pair)
    (decoded : Option Decoded) (frame : Frame) → Comes client_values server_values pair
    → OfNext pair.server decoded frame (Comes client_values server_values
    (record pair { server = reader pair.server decoded frame }))
unfolding IsUndisturbed
server_takes_comes {client_values} {server_values} pair decoded frame comes up reported whole typed
    writable fits says first stays =
    let both = both_logs client_values server_values pair.client pair.server comes.steps in
    let step = half_takes Server server_values pair.server pair.client decoded frame
    both.server_log up reported whole typed writable fits says first stays in
    record {
      steps = server_steps comes.steps step.0;
      undisturbed = (comes.undisturbed, step.1);
    }

-- 0 whatever is tested
pub either_zero : (test : Bool) → ◌≡◌ {A = ℕ} (if test then 0 else 0) 0
either_zero true = refl
either_zero false = refl
