-- What an ordinary call of the connection keeps, an act of such calls keeps.
use Rattle.h2_joined.proofs.Names
use Names.{inl, pumps_no_more, pumps_trailers, trailers_refused, releases_no_more, releases_refused}
use Names.{inr, IsTypedAct, SendFields, EndRefusal, pumps_data, IsUnchanged, MayAsk, MayReply}
use Names.{true, Bool, List, Field, Said, MaySendBody, MaySendTrailers, Malformed, end_with_log}
use Names.{data_refused, releases_one, no_part_next, MayReleaseAll}
use Names.{Option, Result, subst, Refusal, Answer, Refused, MayAnswer, with_call, Releases, MayPump}
use Names.{Ok, Err, sym, Act, Open, Count, Done, EndLog, Pumps, ℕ, Some, None}
use Rattle.h2_ends.specs.declared.span.Turn.{Turn}
use Rattle.h2_ends.specs.EndCalls.{IsHeadCall}
use Rattle.h2_spec_log.specs.declared.refusal.Refusal.TheVariants.{Closed, OutputFull, Memory}
use Rattle.h2_spec_log.specs.Acts.{SendData, Release}
use Rattle.h2_spec_log.specs.Log.{owed}
use Rattle.h2_ends.proofs.EndOrder.{SendsNext, data_next, trailers_next, refused_next, share_next}
use Rattle.std.specs.Prelude.{suc, length, false}
use Rattle.h2_ends.specs.Passes.{Halt, Stopped, Shares, PassesOver, Passes, numbers, share_size}
use Rattle.h2_ends.specs.Passes.{shares_octets, shares_some, share_is_cut, shares_rest, share_act}
use Rattle.h2_ends.specs.Passes.{shares_trailers, octets_refused, list_refused, passes_no_more}
use Rattle.h2_ends.specs.Passes.{passes_on, passes_halt, passes_part, passes_round, next_turn}
unfoldable use Rattle.h2_ends.specs.Passes.{MayPumpSome}
use Rattle.h2_joined.proofs.JointCalls.{IsOrdinary}
use Rattle.h2_ends.specs.declared.refusal.EndRefusal.TheVariants as refusals

-- An ordinary call that sends what waits keeps what holds of an end.
abbrev pub KeptByCalls : (EndLog → Type 0) → Type 0
KeptByCalls Holds =
    (end : EndLog) (act : Act) (answer : Answer) → Holds end → IsOrdinary act → IsTypedAct act
    → MayAnswer end.log act answer → SendsNext end act answer
    → Holds (end_with_log end (with_call end.log act answer))

-- So do the calls of a pump,
holds_by_pumps : (Holds : EndLog → Type 0) → KeptByCalls Holds → (end after : EndLog) (count : ℕ)
    (refused : Option Refusal) → Pumps end count refused after → Holds end → Holds after
holds_by_pumps Holds kept _ _ _ _ (pumps_no_more end) holds = holds
holds_by_pumps Holds kept _ _ _ _
    (pumps_data end id sent more octets ends refused after next typed waits may others) holds =
    holds_by_pumps _ kept _ _ more
    refused others (kept end (SendData id octets ends) (Count sent) holds tt typed may
    (data_next end id octets ends sent waits))
holds_by_pumps Holds kept _ _ _ _
    (pumps_trailers end id more list refused after next typed wait may others) holds =
    holds_by_pumps _ kept _ _ more refused others
    (kept end (SendFields id list true) Done holds tt typed may (trailers_next end id list wait))
holds_by_pumps Holds kept _ _ _ _
    (data_refused end id octets ends refusal next typed waits may) holds =
    kept end (SendData id octets ends) (Refused refusal) holds tt typed may
    (refused_next end (SendData id octets ends) refusal)
holds_by_pumps Holds kept _ _ _ _
    (trailers_refused end id list refusal next typed wait may) holds =
    kept end (SendFields id list true) (Refused refusal) holds tt typed may
    (refused_next end (SendFields id list true) refusal)

-- and those of a release of all that is owed.
holds_by_releases : (Holds : EndLog → Type 0) → KeptByCalls Holds → (end after : EndLog)
    (refused : Option Refusal) → Releases end refused after → Holds end → Holds after
holds_by_releases Holds kept _ _ _ (releases_no_more end) holds = holds
holds_by_releases Holds kept _ _ _ (releases_one end id refused after next typed may others) holds =
    holds_by_releases _ kept _ _ refused others
    (kept end (Release id (owed end.log id)) Done holds tt typed may
    (no_part_next end (Release id (owed end.log id)) Done tt))
holds_by_releases Holds kept _ _ _ (releases_refused end id refusal next typed may) holds =
    kept end (Release id (owed end.log id)) (Refused refusal) holds tt typed may
    (refused_next end (Release id (owed end.log id)) refusal)

-- A call that sends a head is ordinary.
ordinary_head : (act : Act) → IsHeadCall act → IsOrdinary act
ordinary_head (Open fields end) head = tt
ordinary_head (SendFields id fields end) head = tt
ordinary_head act head = absurd head

-- Where nothing has happened, but that a head was refused, what holds is kept.
holds_unchanged : (Holds : EndLog → Type 0) → KeptByCalls Holds → (end after : EndLog)
    → IsUnchanged end after → Holds end → Holds after
unfolding IsUnchanged
holds_unchanged Holds kept end after (inl same) holds = subst Holds (sym same) holds
holds_unchanged Holds kept end after (inr (act, refusal, typed, head, may, same)) holds =
    subst Holds (sym same) (kept end act (Refused refusal) holds (ordinary_head act head) typed may
    (refused_next end act refusal))

-- So it is with a pump,
pub holds_by_pump : (Holds : EndLog → Type 0) → KeptByCalls Holds → (end after : EndLog)
    (result : Result ℕ EndRefusal) → MayPump end result after → Holds end → Holds after
unfolding MayPump
holds_by_pump Holds kept end after (Ok count) (up, inl (pumps, full)) holds =
    holds_by_pumps Holds kept end after count (Some OutputFull) pumps holds
holds_by_pump Holds kept end after (Ok count) (up, inr (pumps, stuck)) holds =
    holds_by_pumps Holds kept end after count None pumps holds
holds_by_pump Holds kept end after (Err (refusals.Conn Closed)) (failed, same) holds =
    subst Holds (sym same) holds
holds_by_pump Holds kept end after (Err (refusals.Conn Memory)) (up, count, pumps) holds =
    holds_by_pumps Holds kept end after count (Some Memory) pumps holds
holds_by_pump Holds kept end after (Err other) may holds = absurd may

-- with a pass, where it doesn't matter with which stream the next one begins,
abbrev pub KeptByTurn : (EndLog → Type 0) → Type 0
KeptByTurn Holds = (end : EndLog) (turn : Turn) → Holds end → Holds (record end { turn = turn })

holds_by_share : (Holds : EndLog → Type 0) → KeptByCalls Holds → (most id : ℕ)
    (end : EndLog) (count : ℕ) (halt : Option Halt) (after : EndLog)
    → Shares most id end count halt after → Holds end → Holds after
holds_by_share Holds kept most id _ _ _ _
    (shares_octets end octets ends sent typed waits may all more) holds =
    kept end (share_act most id octets ends) (Count sent) holds tt typed may
    (share_next end most id octets ends sent waits may)
holds_by_share Holds kept most id _ _ _ _
    (shares_some end octets ends sent typed waits may fewer not_over) holds =
    kept end (share_act most id octets ends) (Count sent) holds tt typed may
    (share_next end most id octets ends sent waits may)
holds_by_share Holds kept most id _ _ _ _
    (share_is_cut end octets ends sent typed waits may fewer over) holds =
    kept end (share_act most id octets ends) (Count sent) holds tt typed may
    (share_next end most id octets ends sent waits may)
holds_by_share Holds kept most id _ _ _ after
    (shares_rest end octets halt _ typed waits may few rest) holds =
    holds_by_share Holds kept most id _ 0 halt after rest
    (kept end (share_act most id octets false) (Count (length octets)) holds tt typed may
    (share_next end most id octets false (length octets) waits may))
holds_by_share Holds kept most id _ _ _ _ (shares_trailers end list typed wait may) holds =
    kept end (SendFields id list true) Done holds tt typed may (trailers_next end id list wait)
holds_by_share Holds kept most id _ _ _ _
    (octets_refused end octets ends refusal typed waits may) holds =
    kept end (share_act most id octets ends) (Refused refusal) holds tt typed may
    (refused_next end (share_act most id octets ends) refusal)
holds_by_share Holds kept most id _ _ _ _ (list_refused end list refusal typed wait may) holds =
    kept end (SendFields id list true) (Refused refusal) holds tt typed may
    (refused_next end (SendFields id list true) refusal)

holds_by_span : (Holds : EndLog → Type 0) → KeptByCalls Holds → (sizes : ℕ → ℕ) (end : EndLog)
    (low high count : ℕ) (halt : Option (ℕ × Halt)) (after : EndLog)
    → PassesOver sizes end low high count halt after → Holds end → Holds after
holds_by_span Holds kept sizes _ _ _ _ _ _ (passes_no_more end low high none) holds = holds
holds_by_span Holds kept sizes _ _ _ _ _ after
    (passes_on end between low high id sent more halt _ first share rest) holds =
    holds_by_span Holds kept sizes between (suc id) high more halt after rest
    (holds_by_share Holds kept (sizes id) id end sent None between share holds)
holds_by_span Holds kept sizes _ _ _ _ _ after (passes_halt end low high id sent halt _ first share)
    holds = holds_by_share Holds kept (sizes id) id end sent (Some halt) after share holds

holds_by_pass : (Holds : EndLog → Type 0) → KeptByCalls Holds → (sizes : ℕ → ℕ) (end : EndLog)
    (count : ℕ) (halt : Option (ℕ × Halt)) (after : EndLog) → Passes sizes end count halt after
    → Holds end → Holds after
holds_by_pass Holds kept sizes end _ _ after (passes_part count id halt _ part) holds =
    holds_by_span Holds kept sizes end end.turn.id numbers count (Some (id, halt)) after part holds
holds_by_pass Holds kept sizes end _ _ after (passes_round above below between halt _ one two)
    holds =
    holds_by_span Holds kept sizes between 0 end.turn.id below halt after two
    (holds_by_span Holds kept sizes end end.turn.id numbers above None between one holds)

pub holds_by_pump_some : (Holds : EndLog → Type 0) → KeptByCalls Holds → KeptByTurn Holds
    → (most : ℕ) (end after : EndLog) (result : Result ℕ EndRefusal)
    → MayPumpSome most end result after → Holds end → Holds after
unfolding MayPumpSome
holds_by_pump_some Holds kept turned most end after (Ok count)
    (up, halt, passed, passes, calm, same) holds =
    subst Holds (sym same) (turned passed (next_turn passed.turn halt)
    (holds_by_pass Holds kept (share_size end.turn most) end count halt passed passes holds))
holds_by_pump_some Holds kept turned most end after (Err (refusals.Conn Closed))
    (down, same) holds =
    subst Holds (sym same) holds
holds_by_pump_some Holds kept turned most end after (Err (refusals.Conn Memory))
    (up, count, id, rest, passed, passes, same) holds =
    subst Holds (sym same) (turned passed (record { id = id; rest = rest })
    (holds_by_pass Holds kept (share_size end.turn most) end count
    (Some (id, Stopped Memory rest)) passed passes
    holds))
holds_by_pump_some Holds kept turned most end after (Err other) may holds = absurd may

-- with a release of all that is owed,
pub holds_by_release : (Holds : EndLog → Type 0) → KeptByCalls Holds → (end after : EndLog)
    (result : Result (Unit {0}) EndRefusal) → MayReleaseAll end result after → Holds end
    → Holds after
unfolding MayReleaseAll
holds_by_release Holds kept end after (Ok done) (up, releases, none) holds =
    holds_by_releases Holds kept end after None releases holds
holds_by_release Holds kept end after (Err (refusals.Conn Closed)) (failed, same) holds =
    subst Holds (sym same) holds
holds_by_release Holds kept end after (Err (refusals.Conn OutputFull)) (up, releases, full, some)
    holds = holds_by_releases Holds kept end after (Some OutputFull) releases holds
holds_by_release Holds kept end after (Err (refusals.Conn Memory)) (up, releases) holds =
    holds_by_releases Holds kept end after (Some Memory) releases holds
holds_by_release Holds kept end after (Err other) may holds = absurd may

-- with what is given and refused,
pub holds_by_refused_ask : (Holds : EndLog → Type 0) → KeptByCalls Holds
    → (broken : Option Malformed) (end after : EndLog) (said : Said) (refusal : EndRefusal)
    → MayAsk broken end said (Err refusal) after → Holds end → Holds after
unfolding MayAsk
holds_by_refused_ask Holds kept broken end after said (refusals.BadMessage rule) (breaks, same)
    holds = subst Holds (sym same) holds
holds_by_refused_ask Holds kept broken end after said (refusals.Conn refusal)
    (well, refuses, unchanged) holds = holds_unchanged Holds kept end after unchanged holds
holds_by_refused_ask Holds kept broken end after said other may holds = absurd may

pub holds_by_refused_reply : (Holds : EndLog → Type 0) → KeptByCalls Holds
    → (broken : Option Malformed) (end after : EndLog) (id : ℕ) (said : Said)
    (refusal : EndRefusal) → MayReply broken end id said (Err refusal) after → Holds end
    → Holds after
unfolding MayReply
holds_by_refused_reply Holds kept broken end after id said refusals.NotAsked (unasked, same)
    holds = subst Holds (sym same) holds
holds_by_refused_reply Holds kept broken end after id said refusals.Answered (asked, some, same)
    holds = subst Holds (sym same) holds
holds_by_refused_reply Holds kept broken end after id said (refusals.BadMessage rule)
    (asked, none, breaks, same) holds = subst Holds (sym same) holds
holds_by_refused_reply Holds kept broken end after id said (refusals.Conn refusal)
    (asked, none, well, refuses, unchanged) holds = holds_unchanged _ kept _ after unchanged holds

-- and with a part more that is.
pub holds_by_refused_body : (Holds : EndLog → Type 0) → KeptByCalls Holds → (end after : EndLog)
    (id : ℕ) (octets : List ℕ) (ends : Bool) (refusal : EndRefusal)
    → IsTypedAct (SendData id octets ends)
    → MaySendBody end id octets ends (Err refusal) after → Holds end → Holds after
unfolding MaySendBody
holds_by_refused_body Holds kept end after id octets ends refusals.NotAsked typed (none, same)
    holds = subst Holds (sym same) holds
holds_by_refused_body Holds kept end after id octets ends refusals.Answered typed may holds =
    absurd may
holds_by_refused_body Holds kept end after id octets ends (refusals.BadMessage rule) typed
    (said, number, is, breaks, rule_is, same) holds = subst Holds (sym same) holds
holds_by_refused_body Holds kept end after id octets ends (refusals.Conn refusal) typed
    (said, number, is, fits, may, same) holds =
    let act = SendData id octets ends in
    subst Holds (sym same) (kept end act (Refused refusal) holds tt typed may
    (refused_next end act refusal))

pub holds_by_refused_trailers : (Holds : EndLog → Type 0) → KeptByCalls Holds
    → (end after : EndLog) (id : ℕ) (list : List Field) (refusal : EndRefusal)
    → IsTypedAct (SendFields id list true)
    → MaySendTrailers end id list (Err refusal) after → Holds end → Holds after
unfolding MaySendTrailers
holds_by_refused_trailers Holds kept end after id list refusals.NotAsked typed (none, same)
    holds = subst Holds (sym same) holds
holds_by_refused_trailers Holds kept end after id list refusals.Answered typed may holds =
    absurd may
holds_by_refused_trailers Holds kept end after id list (refusals.BadMessage rule) typed
    (said, number, is, breaks, same) holds = subst Holds (sym same) holds
holds_by_refused_trailers Holds kept end after id list (refusals.Conn refusal) typed
    (said, number, is, fits, may, same) holds =
    let act = SendFields id list true in
    subst Holds (sym same) (kept end act (Refused refusal) holds tt typed may
    (refused_next end act refusal))
