-- Why calls of a pump and of a release may be refused: the output is full, or memory was refused.
use Rattle.h2_ends.proofs.Names
use Names.{◌≡◌, ◌≢◌, inl, inr, ℕ, ◌==◌, Bool, true, false, if◌then◌else◌, List, [], ◌∷◌, Some}
use Names.{None, refl, sym, ap, ◌∙◌, arith, list_any, nat_tests, Field, Refusal, OutputFull}
use Names.{Closed, SendFields, SendData, Release, Refused, ends, full_output, Log, active}
use Names.{unreleased, waiting, owed_on, when, log_view, stream_of_log, refusal_of, is_full}
use Names.{is_too_large, reader_owed, is_no_stream, MayAnswer, accepts, lacks, LacksSpace, owed}
use Names.{nat_lt, ◌||◌, is_some, leb-true, StreamView, refuses, fails, NoSuchStream}
use Rattle.h2_spec_log.specs.CallRules.{conditions, first_of, is_not_owed}
use Rattle.h2_laws_log.proofs.LogViewLemmas.{owed_there}
use Rattle.h2_spec_log.specs.declared.refusal.Refusal.TheVariants.{NotOwed}

-- The one condition left, by its test.
full_by : (b : Bool) (refusal : Refusal) → (if b then Some OutputFull else None) ≡ Some refusal
    → (refusal ≡ OutputFull) × (b ≡ true)
full_by true refusal is = (cc, refl)
full_by false refusal is = cc

lacks_by : (log : Log) (refusal : Refusal)
    → (if is_full (log_view log) then Some OutputFull else None) ≡ Some refusal
    → LacksSpace log refusal
lacks_by log refusal is =
    let both = full_by (is_full (log_view log)) refusal is in
    inl (both.0, leb-true full_output (waiting log) both.1)

-- A call that sends octets on an active stream that this end hasn't ended.
data_rule : (log : Log) (id : ℕ) (octets : List ℕ) (end : Bool) → log.failed ≡ None
    → active log id ≡ true → list_any (ends id) log.sent ≡ false
    → refusal_of (log_view log) (SendData id octets end)
    ≡ (if is_full (log_view log) then Some OutputFull else None)
unfolding conditions first_of
data_rule log id octets end up alive goes = rw (up, alive, goes) refl

pub data_refused : (log : Log) (id : ℕ) (octets : List ℕ) (end : Bool) (refusal : Refusal)
    → log.failed ≡ None → active log id ≡ true → list_any (ends id) log.sent ≡ false
    → MayAnswer log (SendData id octets end) (Refused refusal) → LacksSpace log refusal
data_refused log id octets end refusal up alive goes (accepts none is) = cc
data_refused log id octets end refusal up alive goes (refuses other holds is) =
    let same : other ≡ refusal = cc in
    lacks_by log refusal (sym (data_rule log id octets end up alive goes) ∙ holds ∙ ap Some same)
data_refused log id octets end refusal up alive goes (lacks none may is) = inr cc
data_refused log id octets end refusal up alive goes (fails none may is) = cc

-- One that sends fields that aren't too large.
fields_rule : (log : Log) (id : ℕ) (fields : List Field) (end : Bool) → log.failed ≡ None
    → active log id ≡ true → list_any (ends id) log.sent ≡ false → is_too_large fields ≡ false
    → refusal_of (log_view log) (SendFields id fields end)
    ≡ (if is_full (log_view log) then Some OutputFull else None)
unfolding conditions first_of
fields_rule log id fields end up alive goes small = rw (up, alive, goes, small) refl

pub fields_refused : (log : Log) (id : ℕ) (fields : List Field) (end : Bool) (refusal : Refusal)
    → log.failed ≡ None → active log id ≡ true → list_any (ends id) log.sent ≡ false
    → is_too_large fields ≡ false
    → MayAnswer log (SendFields id fields end) (Refused refusal) → LacksSpace log refusal
fields_refused log id fields end refusal up alive goes small (accepts none is) = cc
fields_refused log id fields end refusal up alive goes small (refuses other holds is) =
    let same : other ≡ refusal = cc in
    lacks_by log refusal
    (sym (fields_rule log id fields end up alive goes small) ∙ holds ∙ ap Some same)
fields_refused log id fields end refusal up alive goes small (lacks none may is) = inr cc
fields_refused log id fields end refusal up alive goes small (fails none may is) = cc

-- On a stream on which something is owed, which is active, that is what wasn't released.
owed_by : (b : Bool) (n : ℕ) → (if b then n else 0) ≢ 0
    → (b ≡ true) × ((if b then n else 0) ≡ n)
owed_by true n some = (refl, refl)
owed_by false n some = absurd (some refl)

pub owed_active : (log : Log) (id : ℕ) → owed log id ≢ 0
    → (active log id ≡ true) × (owed log id ≡ unreleased log id)
unfolding owed
owed_active log id some = owed_by (active log id) (unreleased log id) some

-- All that is owed may be released.
owed_rule : (log : Log) (id : ℕ) → owed log id ≢ 0
    → is_not_owed (log_view log) id (owed log id) ≡ false
owed_rule log id some =
    let both = owed_active log id some in
    let on : owed_on ((log_view log).stream id) ≡ owed log id =
    owed_there log id both.0 ∙ sym both.1 in
    rw on (not_less (owed log id) some)
  where
    not_less : (n : ℕ) → n ≢ 0 → (n == 0 || nat_lt n n) ≡ false
    not_less n some = grind (arith, nat_tests)

release_if : (failed gone full other : Bool) → failed ≡ false → gone ≡ false → other ≡ false
    → first_of ((failed, Closed) ∷ (gone, NoSuchStream) ∷ (full, OutputFull) ∷ (other, NotOwed)
    ∷ []) ≡ (if full then Some OutputFull else None)
unfolding first_of
release_if failed gone full other up here owes = rw (up, here, owes) refl

there_by : (log : Log) (id : ℕ) → active log id ≡ true → is_no_stream (log_view log) id ≡ false
there_by log id alive = rw alive refl

release_rule : (log : Log) (id : ℕ) → log.failed ≡ None → owed log id ≢ 0
    → refusal_of (log_view log) (Release id (owed log id))
    ≡ (if is_full (log_view log) then Some OutputFull else None)
unfolding conditions
release_rule log id up some =
    release_if _ _ (is_full (log_view log)) _ (ap is_some up)
    (there_by log id (owed_active log id some).0) (owed_rule log id some)

pub release_refused : (log : Log) (id : ℕ) (refusal : Refusal) → log.failed ≡ None
    → owed log id ≢ 0 → MayAnswer log (Release id (owed log id)) (Refused refusal)
    → LacksSpace log refusal
release_refused log id refusal up some (accepts none is) = cc
release_refused log id refusal up some (refuses other holds is) =
    let same : other ≡ refusal = cc in
    lacks_by log refusal (sym (release_rule log id up some) ∙ holds ∙ ap Some same)
release_refused log id refusal up some (lacks none may is) = inr cc
release_refused log id refusal up some (fails none may is) = cc

-- What the reader answers is owed, as long as the connection is up.
reader_by : (failed alive : Bool) (stream : StreamView) → failed ≡ false
    → (if failed then 0 else owed_on (when alive stream)) ≡ (if alive then stream.owed else 0)
reader_by failed true stream up = rw up refl
reader_by failed false stream up = rw up refl

pub owed_read : (log : Log) (id : ℕ) → log.failed ≡ None
    → reader_owed (log_view log) id ≡ owed log id
unfolding owed
owed_read log id up = reader_by (is_some log.failed) (active log id) (stream_of_log log id)
    (ap is_some up)
