-- A call of `take` uses the first octets of a piece, and gives nothing out.
use Rattle.h2_engines.proofs.Names.{◌≡◌, ◌≤◌, ℕ, List, ◌++◌, length, drop, Option, None, sym, ap}
use Rattle.h2_engines.proofs.Names.{◌∙◌, subst, append_assoc, Appends, Answer, Refuse, Event, Log}
use Rattle.h2_engines.proofs.Names.{Keeps-call, log_after_take, EndLog, EndAnswer, EndTook}
use Rattle.h2_engines.proofs.Names.{EndFailed, EndMayTake, drop-append_seam, with_call, Traffic}
use Rattle.h2_engines.proofs.Names.{HasGiven, IsLinked, MayTake, Took, Failed, TakeAnswer}
use Rattle.h2_engines.proofs.ServeLinkLogs.{Writes, writes_twice, writes_given, call_writes}
use Rattle.h2_engines.proofs.ServeLinkLogs.{take_writes}
use Rattle.h2_engines.proofs.TakeMessages.{SaysOf, taken_says, holds_called}

-- The first octets of a piece were used.
pub record UsesFirst (before after : Log) (piece : List ℕ) : Type 0 where
  pub octets : List ℕ
  pub unused : List ℕ
  pub split : piece ≡ octets ++ unused
  pub input : after.input ≡ before.input ++ octets
  pub writes : Writes before after

-- They are as many as is answered, and the connection is up; or it has failed.
abbrev pub SaysUsed : EndAnswer → List ℕ → Log → Type 0
SaysUsed (EndTook count handed) octets after = (length octets ≡ count) × (after.failed ≡ None)
SaysUsed (EndFailed code) octets after = Unit {0}

pub record TakesFirst (before after : Log) (piece : List ℕ) (answer : EndAnswer) : Type 0 where
  pub uses : UsesFirst before after piece
  pub says : SaysUsed answer uses.octets after

-- They are as many as the connection has answered,
record Uses (before after : Log) (piece : List ℕ) (took : TakeAnswer) : Type 0 where
  uses : UsesFirst before after piece
  counts : (count : ℕ) (event : Option Event) → took ≡ Took count event → length uses.octets ≡ count

took_first : (before log : Log) (piece : List ℕ) (took : TakeAnswer)
    → MayTake before piece took log → Uses before log piece took
took_first before log piece (Took n heard) may =
    let says = log_after_take before log piece (Took n heard) may in
    record {
      uses = record {
        octets = says.0;
        unused = says.1;
        split = says.2;
        input = says.4;
        writes = take_writes may;
      };
      counts = λ count event same. let counted = says.3 in cc;
    }
took_first before log piece (Failed code) may =
    let says = log_after_take before log piece (Failed code) may in
    record {
      uses = record {
        octets = says.0;
        unused = says.1;
        split = says.2;
        input = says.3;
        writes = take_writes may;
      };
      counts = λ count event same. cc;
    }

-- and the same once a stream was refused.
called_first : {before log : Log} {piece : List ℕ} {took : TakeAnswer} (id code : ℕ)
    (answer : Answer) → Uses before log piece took
    → Uses before (with_call log (Refuse id code) answer) piece took
called_first {log} id code answer is =
    record {
      uses = record {
        octets = is.uses.octets;
        unused = is.uses.unused;
        split = is.uses.split;
        input = (Keeps-call log (Refuse id code) answer).input ∙ is.uses.input;
        writes = writes_twice is.uses.writes (call_writes _ _ answer (λ count wrong. cc));
      };
      counts = is.counts;
    }

-- Whatever a call of `take` answers, it has used the first octets.
says_first : (before : EndLog) {piece : List ℕ} (answer : EndAnswer) {after : Log}
    {took : TakeAnswer} → SaysOf before took answer after → Uses before.log after piece took
    → TakesFirst before.log after piece answer
says_first before (EndTook count handed) says is =
    record { uses = is.uses; says = (is.counts count says.0 says.1, says.2) }
says_first before (EndFailed code) says is = record { uses = is.uses; says = tt }

pub takes_first : {before : EndLog} {piece : List ℕ} {answer : EndAnswer} {after : EndLog}
    → EndMayTake before piece answer after → TakesFirst before.log after.log piece answer
takes_first {before} {piece} {answer} may =
    let is = taken_says may in
    says_first _ _ is.says (holds_called (λ (log : Log). Uses before.log log piece is.took) is
    (took_first before.log is.log piece is.took is.takes)
    (λ log id code said uses. called_first id code said uses))

-- The octets that weren't used are those that are left of what the link gave.
given_first : (start now : Traffic) {before after : Log} {piece : List ℕ}
    → HasGiven start now before piece → (uses : UsesFirst before after piece)
    → HasGiven start now after uses.unused
given_first start now {before} given uses =
    subst (Appends start.given now.given) (ap (λ (octets : List ℕ). before.input ++ octets)
    uses.split ∙ sym (append_assoc before.input uses.octets uses.unused) ∙ ap
    (λ (octets : List ℕ). octets ++ uses.unused) (sym uses.input)) given

-- An end over a link is over it once it has taken octets.
pub links_first : {start now : Traffic} {before after : Log} {piece : List ℕ}
    → before.given ≤ length before.written → IsLinked start now before piece
    → (uses : UsesFirst before after piece) → IsLinked start now after uses.unused
links_first {start} {now} within linked uses =
    record {
      given = given_first start now linked.given uses;
      taken = rw ((writes_given within uses.writes)) linked.taken;
    }

-- So many octets are dropped.
unused_is : {piece : List ℕ} (octets unused : List ℕ) {count : ℕ} → piece ≡ octets ++ unused
    → length octets ≡ count → unused ≡ drop count piece
unused_is {piece} octets unused split counted =
    sym (drop-append_seam octets unused) ∙ ap (λ (all : List ℕ). drop (length octets) all)
    (sym split) ∙ ap (λ (n : ℕ). drop n piece) counted

pub took_links : {start now : Traffic} {before after : Log} {piece : List ℕ} {count : ℕ}
    → before.given ≤ length before.written → IsLinked start now before piece
    → (uses : UsesFirst before after piece) → length uses.octets ≡ count
    → IsLinked start now after (drop count piece)
took_links {start} {now} {after} within linked uses counted =
    subst (λ (unused : List ℕ). IsLinked start now after unused)
    (unused_is uses.octets uses.unused uses.split counted) (links_first within linked uses)
