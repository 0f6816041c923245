-- What each call keeps of a server or a client over a link holds whatever has happened at it; so it
-- stays a server's end or a client's.
use Rattle.h2_engines.proofs.Names
use Names.{◌≡◌, ℕ, List, Option, Result, Ok, Err, refl, ap, ◌∙◌, inl, inr, Refusal, Server, Client}
use Names.{Values, Act, Answer, Refuse, PutOut, true, Count, Done, OutOfMemory, Refused}
use Names.{SentMessage, EndRefusal, EndLog, EndAnswer, EndMayTake, end_with_log, Pumps}
use Names.{pumps_no_more, pumps_trailers, trailers_refused, releases_one, releases_refused}
use Names.{new_end_log, Open, SendFields, SendData, owed, with_call, IsResponding, opened}
use Names.{with_sent, MayAsk, MayRequest, MayReply, MayRespond, MayPump, MayReleaseAll, Release}
use Names.{pumps_data, data_refused, Releases, releases_no_more, Fail}
use Rattle.h2_ends.specs.EndCalls.{IsUnchanged, IsHeadCall}
use Rattle.h2_engines.specs.ClientHistories.{IsFetching}
use Rattle.h2_engines.proofs.TakeMessages.{role_by_call, taken_role}
use Rattle.h2_spec_log.specs.declared.refusal.Refusal.TheVariants as reasons
use Rattle.h2_ends.specs.declared.refusal.EndRefusal.TheVariants as refusals
use Rattle.h2_engines.specs.ClientHistories as client
use Rattle.h2_engines.specs.ServerHistories as server

-- A call puts no output out, refuses no stream, does not end the connection, and was not left
-- without memory.
abbrev pub IsQuiet : Act → Answer → Type 0
IsQuiet act OutOfMemory = ⊥
IsQuiet (PutOut count) answer = ⊥
IsQuiet (Refuse id code) answer = ⊥
IsQuiet (Fail code) answer = ⊥
IsQuiet act answer = Unit {0}

-- A call sends a part of a message or releases octets, and was not left without memory: so it is
-- quiet.
abbrev pub SendsOrReleases : Act → Answer → Type 0
SendsOrReleases act OutOfMemory = ⊥
SendsOrReleases (Open fields end) answer = Unit {0}
SendsOrReleases (SendFields id fields end) answer = Unit {0}
SendsOrReleases (SendData id octets end) answer = Unit {0}
SendsOrReleases (Release id count) answer = Unit {0}
SendsOrReleases act answer = ⊥

pub sends_quietly : (act : Act) (answer : Answer) → SendsOrReleases act answer → IsQuiet act answer
sends_quietly act OutOfMemory sends = sends
sends_quietly (Open fields end) answer sends = tt
sends_quietly (SendFields id fields end) answer sends = tt
sends_quietly (SendData id octets end) answer sends = tt
sends_quietly (Release id count) answer sends = tt
sends_quietly act answer sends = absurd sends

-- Each such call of its connection keeps this of an end,
abbrev pub CallsKeep : (EndLog → Type 0) → Type 0
CallsKeep P =
    (end : EndLog) (act : Act) (answer : Answer) → SendsOrReleases act answer → P end
    → P (end_with_log end (with_call end.log act answer))

-- or each call at all.
abbrev pub AllKeep : (EndLog → Type 0) → Type 0
AllKeep P =
    (end : EndLog) (act : Act) (answer : Answer) → P end
    → P (end_with_log end (with_call end.log act answer))

quietly : (P : EndLog → Type 0) → AllKeep P → CallsKeep P
quietly P keep end act answer sends holds = keep end act answer holds

module _ (P : EndLog → Type 0) (keep : CallsKeep P) where
  -- So do the calls of a pump and of a release,
  pump_keeps : {before : EndLog} {count : ℕ} {refused : Option Refusal} {after : EndLog}
      → Pumps before count refused after → P before → P after
  pump_keeps (pumps_no_more end) holds = holds
  pump_keeps (pumps_data end id sent more octets ends refusal last next typed wait may rest) holds =
      pump_keeps rest (keep end (SendData id octets ends) (Count sent) tt holds)
  pump_keeps (pumps_trailers end id more list refusal last next typed wait may rest) holds =
      pump_keeps rest (keep end (SendFields id list true) Done tt holds)
  pump_keeps (data_refused end id octets ends refusal next typed waits may) holds =
      keep end (SendData id octets ends) (Refused refusal) tt holds
  pump_keeps (trailers_refused end id list refusal next typed wait may) holds =
      keep end (SendFields id list true) (Refused refusal) tt holds

  pub pumped_keeps : (before : EndLog) (result : Result ℕ EndRefusal) (after : EndLog)
      → MayPump before result after → P before → P after
  unfolding MayPump
  pumped_keeps before (Ok count) after may holds = elim may.1 [
    | inl all ↦ pump_keeps all.0 holds
    | inr all ↦ pump_keeps all.0 holds
  ]
  pumped_keeps before (Err (refusals.Conn reasons.Closed)) after may holds = rw may.1 holds
  pumped_keeps before (Err (refusals.Conn reasons.Memory)) after may holds = pump_keeps may.2 holds
  pumped_keeps before (Err other) after may holds = absurd may

  release_keeps : {before : EndLog} {refused : Option Refusal} {after : EndLog}
      → Releases before refused after → P before → P after
  release_keeps (releases_no_more end) holds = holds
  release_keeps (releases_one end id refusal last next typed may rest) holds =
      release_keeps rest (keep end (Release id (owed end.log id)) Done tt holds)
  release_keeps (releases_refused end id refusal next typed may) holds =
      keep end (Release id (owed end.log id)) (Refused refusal) tt holds

  pub released_keeps : (before : EndLog) (result : Result (Unit {0}) EndRefusal) (after : EndLog)
      → MayReleaseAll before result after → P before → P after
  unfolding MayReleaseAll
  released_keeps before (Ok done) after may holds = release_keeps may.1 holds
  released_keeps before (Err (refusals.Conn reasons.Closed)) after may holds = rw may.1 holds
  released_keeps before (Err (refusals.Conn reasons.OutputFull)) after may holds =
      release_keeps may.1 holds
  released_keeps before (Err (refusals.Conn reasons.Memory)) after may holds =
      release_keeps may.1 holds
  released_keeps before (Err other) after may holds = absurd may

-- and an answer that is refused.
head_sends : (act : Act) (refusal : Refusal) → IsHeadCall act
    → SendsOrReleases act (Refused refusal)
head_sends (Open fields end) refusal head = tt
head_sends (SendFields id fields end) refusal head = tt
head_sends act refusal head = absurd head

-- An answer that is taken keeps this, and a request that is accepted does.
abbrev pub AnswersKeep : (EndLog → Type 0) → Type 0
AnswersKeep P =
    (before : EndLog) (id : ℕ) (message : SentMessage) (done : Unit {0}) (after : EndLog)
    → MayRespond before id message (Ok done) after → P before → P after

abbrev RequestsKeep : (EndLog → Type 0) → Type 0
RequestsKeep P =
    (before : EndLog) (message : SentMessage) (id : ℕ) (after : EndLog)
    → MayRequest before message (Ok id) after → P before → P after

module _ (P : EndLog → Type 0) (keep : CallsKeep P) where
  unchanged_keeps : (before after : EndLog) → IsUnchanged before after → P before → P after
  unfolding IsUnchanged
  unchanged_keeps before after (inl same) holds = rw same holds
  unchanged_keeps before after (inr called) holds =
      rw called.5
      (keep before called.0 (Refused called.1) (head_sends called.0 called.1 called.3) holds)

  pub responded_keeps : AnswersKeep P → (before : EndLog) (id : ℕ) (message : SentMessage)
      (result : Result (Unit {0}) EndRefusal) (after : EndLog)
      → MayRespond before id message result after → P before → P after
  unfolding MayReply
  responded_keeps answer before id message (Ok done) after may holds =
      answer before id message done after may holds
  responded_keeps answer before id message (Err refusals.NotAsked) after may holds = rw may.1 holds
  responded_keeps answer before id message (Err refusals.Answered) after may holds = rw may.2 holds
  responded_keeps answer before id message (Err (refusals.BadMessage rule)) after may holds =
      rw may.3 holds
  responded_keeps answer before id message (Err (refusals.Conn refusal)) after may holds =
      unchanged_keeps before after may.4 holds

  requested_keeps : RequestsKeep P → (before : EndLog) (message : SentMessage)
      (result : Result ℕ EndRefusal) (after : EndLog)
      → MayRequest before message result after → P before → P after
  unfolding MayAsk
  requested_keeps request before message (Ok id) after may holds =
      request before message id after may holds
  requested_keeps request before message (Err (refusals.BadMessage rule)) after may holds =
      rw may.1 holds
  requested_keeps request before message (Err (refusals.Conn refusal)) after may holds =
      unchanged_keeps before after may.2 holds
  requested_keeps request before message (Err other) after may holds = absurd may

-- A call of `take` keeps this.
abbrev pub TakesKeep : (EndLog → Type 0) → Type 0
TakesKeep P =
    (before : EndLog) (piece : List ℕ) (answer : EndAnswer) (after : EndLog)
    → EndMayTake before piece answer after → P before → P after

module _ (P : EndLog → Type 0) (keep : AllKeep P) (take : TakesKeep P) {values : Values} where
  -- Whatever has happened at a server over a link, what each call keeps holds of it,
  pub holds_responding : AnswersKeep P → P (new_end_log Server values)
      → {end : EndLog} → IsResponding values end → P end
  holds_responding answer new (server.begins range) = new
  holds_responding answer new (server.takes {end = before} {after = after} was piece said may) =
      take before piece said after may (holds_responding answer new was)
  holds_responding answer new
      (server.answers {end = before} {after = after} was id message result whole fits asked may) =
      responded_keeps P (quietly P keep) answer before id message result after may
      (holds_responding answer new was)
  holds_responding answer new (server.resets {end = before} was id said large typed may) =
      keep before _ _ (holds_responding answer new was)
  holds_responding answer new (server.releases {end = before} {after = after} was result may) =
      released_keeps P (quietly P keep) before result after may (holds_responding answer new was)
  holds_responding answer new (server.pumps {end = before} {after = after} was result may) =
      pumped_keeps P (quietly P keep) before result after may (holds_responding answer new was)
  holds_responding answer new (server.gives_out {end = before} was count said typed may) =
      keep before _ _ (holds_responding answer new was)

  -- and so it is with a client.
  holds_fetching : RequestsKeep P → P (new_end_log Client values)
      → {message : SentMessage} {wide : ℕ} {end : EndLog} → IsFetching values message wide end
      → P end
  holds_fetching request new (client.begins range) = new
  holds_fetching request new {message} {end} (client.requests range result may) =
      requested_keeps P (quietly P keep) request (new_end_log Client values) message result end may
      new
  holds_fetching request new (client.takes {end = before} {after = after} was piece said may) =
      take before piece said after may (holds_fetching request new was)
  holds_fetching request new (client.releases {end = before} {after = after} was result may) =
      released_keeps P (quietly P keep) before result after may (holds_fetching request new was)
  holds_fetching request new (client.pumps {end = before} {after = after} was result may) =
      pumped_keeps P (quietly P keep) before result after may (holds_fetching request new was)
  holds_fetching request new (client.gives_out {end = before} was count said typed may) =
      keep before _ _ (holds_fetching request new was)
  holds_fetching request new (client.widens {end = before} was count said typed may) =
      keep before _ _ (holds_fetching request new was)

-- A new end has its role, and a message that is accepted keeps it.
new_server : (values : Values) → (opened Server values).role ≡ Server
unfolding opened with_sent
new_server values = refl

new_client : (values : Values) → (opened Client values).role ≡ Client
unfolding opened with_sent
new_client values = refl

role_as : (before : EndLog) {after is : EndLog} → after ≡ is → is.log.role ≡ before.log.role
    → after.log.role ≡ before.log.role
role_as before same role = ap (λ (end : EndLog). end.log.role) same ∙ role

responded_role : (before : EndLog) (id : ℕ) (message : SentMessage) (done : Unit {0})
    (after : EndLog) → MayRespond before id message (Ok done) after
    → after.log.role ≡ before.log.role
unfolding MayReply
responded_role before id message done after may =
    role_as before may.5 (role_by_call before.log _ _)

requested_role : (before : EndLog) (message : SentMessage) (id : ℕ) (after : EndLog)
    → MayRequest before message (Ok id) after → after.log.role ≡ before.log.role
unfolding MayAsk
requested_role before message id after may =
    role_as before may.3 (role_by_call before.log _ _)

-- Whatever has happened at a server it is a server's end, and at a client a client's.
pub kept_role : {values : Values} {end : EndLog} → IsResponding values end → end.log.role ≡ Server
kept_role {values} responding =
    holds_responding (λ one. one.log.role ≡ Server)
    (λ one act answer was. role_by_call one.log act answer ∙ was)
    (λ before piece answer after may was. taken_role may ∙ was)
    (λ before id message done after may was. responded_role before id message done after may ∙ was)
    (new_server values) responding

pub fetching_role : {values : Values} {message : SentMessage} {wide : ℕ} {end : EndLog}
    → IsFetching values message wide end → end.log.role ≡ Client
fetching_role {values} fetching =
    holds_fetching (λ one. one.log.role ≡ Client)
    (λ one act answer was. role_by_call one.log act answer ∙ was)
    (λ before piece answer after may was. taken_role may ∙ was)
    (λ before sent id after may was. requested_role before sent id after may ∙ was)
    (new_client values) fetching
