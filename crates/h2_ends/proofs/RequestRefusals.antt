-- Why the connection refuses a message: as the call that sends its head, and C10 of its trailers.
use Rattle.h2_ends.proofs.Names
use Names.{◌≡◌, ◌⊎◌, ℕ, ◌<◌, ◌≤◌, ◌^◌, ◌-◌, min, Bool, true, false, List, [], ◌∷◌, ◌++◌}
use Names.{if◌then◌else◌, Option, Some, None, refl, sym, ap, ◌∙◌, inl, inr, arith, both_ways}
use Names.{Field, Refusal, Memory, Closed, OutputFull, Act, Answer, Open, SendFields, Refused}
use Names.{is_server, View, Log, next_number, log_view, refusal_of, is_too_large, is_full}
use Names.{is_no_stream, MayAnswer, accepts, lacks, reader_next_number, SentMessage}
use Names.{trailer_fields, RefusesMessage, ◌||◌, ended_out, refuses, fails, or_from, lt-ltb}
use Names.{le-ltb, NoSuchStream, Ended, none_holds, has_all_streams}
use Rattle.h2_spec_log.specs.CallRules.{conditions, first_of, has_failed, has_no_number, answer_of}
use Rattle.h2_spec_log.specs.declared.refusal.Refusal.TheVariants.{ListTooLarge, TooManyStreams}
use Rattle.h2_spec_log.specs.declared.refusal.Refusal.TheVariants.{StreamsExhausted, GoingAway}
use Rattle.h2_laws_log.proofs.CallConditions.{neither_one, first_kept as first_stays}
use Rattle.std.specs.Prelude.{is_some}
use Rattle.hpack.specs.Lists.{list_size}

-- a list of conditions, with C10 of a list at its end
abbrev with_size : List (Bool × Refusal) → Bool → List (Bool × Refusal)
with_size conditions large = conditions ++ (large, ListTooLarge) ∷ []

-- Where C10 holds last, one condition holds.
some_by : (b : Bool) (refusal : Refusal) (after : Option Refusal)
    → ((other : Refusal) × (after ≡ Some other))
    → (other : Refusal) × ((if b then Some refusal else after) ≡ Some other)
some_by true refusal after is = (refusal, refl)
some_by false refusal after is = is

some_first : (conditions : List (Bool × Refusal))
    → (refusal : Refusal) × (first_of (with_size conditions true) ≡ Some refusal)
unfolding first_of
some_first [] = (ListTooLarge, refl)
some_first ((b, refusal) ∷ conditions) =
    some_by b refusal (first_of (with_size conditions true)) (some_first conditions)

-- Then C10 of a list before it changes nothing.
same_by : (b : Bool) (refusal : Refusal) (one other : Option Refusal) → one ≡ other
    → (if b then Some refusal else one) ≡ (if b then Some refusal else other)
same_by b refusal one other same = rw same refl

two_sizes : (conditions : List (Bool × Refusal)) (large : Bool)
    → first_of (with_size (with_size conditions large) true)
    ≡ first_of (with_size conditions true)
unfolding first_of
two_sizes [] true = refl
two_sizes [] false = refl
two_sizes ((b, refusal) ∷ conditions) large =
    same_by b refusal _ _ (two_sizes conditions large)

-- C10 that doesn't hold changes nothing.
no_size : (conditions : List (Bool × Refusal))
    → first_of (with_size conditions false) ≡ first_of conditions
unfolding first_of
no_size [] = refl
no_size ((b, refusal) ∷ conditions) = same_by b refusal _ _ (no_size conditions)

-- A condition that holds comes before those after it.
first_by : (b : Bool) (one : Refusal) (before after : Option Refusal) (refusal : Refusal)
    → (before ≡ Some refusal → after ≡ Some refusal)
    → (if b then Some one else before) ≡ Some refusal
    → (if b then Some one else after) ≡ Some refusal
first_by true one before after refusal goes is = is
first_by false one before after refusal goes is = goes is

-- What refuses a message whose trailers may be sent is what refuses its head.
pub refuses_fitting : (log : Log) (act : Act) (message : SentMessage) (refusal : Refusal)
    → is_too_large (trailer_fields message.trailers) ≡ false
    → (refusal_of (log_view log) act ≡ Some refusal)
    ⊎ ((refusal_of (log_view log) act ≡ None) × (refusal ≡ Memory))
    → RefusesMessage log act message refusal
refuses_fitting log act message refusal fits is =
    rw (fits, no_size (conditions (log_view log) act)) is

-- What refuses the head alone refuses the message.
pub refuses_head : (log : Log) (act : Act) (message : SentMessage) (refusal : Refusal)
    → refusal_of (log_view log) act ≡ Some refusal → RefusesMessage log act message refusal
refuses_head log act message refusal is =
    inl (first_stays (conditions (log_view log) act) _ refusal is)

-- Where the trailers are too large, they are refused for what refuses the message.
sized_alike : (conditions : List (Bool × Refusal)) (head trailers : Bool) (refusal : Refusal)
    → trailers ≡ true → first_of (with_size conditions trailers) ≡ Some refusal
    → first_of (with_size (with_size conditions head) trailers) ≡ Some refusal
sized_alike conditions head trailers refusal large is =
    rw large (two_sizes conditions head ∙ (rw large at is))

-- the conditions before the size of a list
abbrev before_open : View → List (Bool × Refusal)
before_open view =
    (has_failed view, Closed) ∷ (has_all_streams view, TooManyStreams)
    ∷ (has_no_number view, StreamsExhausted)
    ∷ (view.goaway_sent || is_some view.goaway_received, GoingAway) ∷ (is_full view, OutputFull)
    ∷ []

abbrev before_fields : View → ℕ → List (Bool × Refusal)
before_fields view id =
    (has_failed view, Closed) ∷ (is_no_stream view id, NoSuchStream)
    ∷ (ended_out (view.stream id), Ended) ∷ (is_full view, OutputFull) ∷ []

pub trailers_refuse_open : (log : Log) (message : SentMessage) (end : Bool) (refusal : Refusal)
    → is_too_large (trailer_fields message.trailers) ≡ true
    → refusal_of (log_view log) (Open (trailer_fields message.trailers) true) ≡ Some refusal
    → RefusesMessage log (Open message.head end) message refusal
unfolding conditions
trailers_refuse_open log message end refusal large is =
    inl (sized_alike (before_open (log_view log)) (is_too_large message.head)
    (is_too_large (trailer_fields message.trailers)) refusal large is)

pub trailers_refuse_fields : (log : Log) (id : ℕ) (message : SentMessage) (end : Bool)
    (refusal : Refusal) → is_too_large (trailer_fields message.trailers) ≡ true
    → refusal_of (log_view log) (SendFields id (trailer_fields message.trailers) true)
    ≡ Some refusal → RefusesMessage log (SendFields id message.head end) message refusal
unfolding conditions
trailers_refuse_fields log id message end refusal large is =
    inl (sized_alike (before_fields (log_view log) id) (is_too_large message.head)
    (is_too_large (trailer_fields message.trailers)) refusal large is)

-- Such a list is refused for sure.
pub open_too_large : (view : View) (fields : List Field) (end : Bool)
    → is_too_large fields ≡ true
    → (refusal : Refusal) × (refusal_of view (Open fields end) ≡ Some refusal)
unfolding conditions
open_too_large view fields end large = rw large (some_first (before_open view))

pub fields_too_large : (view : View) (id : ℕ) (fields : List Field) (end : Bool)
    → is_too_large fields ≡ true
    → (refusal : Refusal) × (refusal_of view (SendFields id fields end) ≡ Some refusal)
unfolding conditions
fields_too_large view id fields end large = rw large (some_first (before_fields view id))

-- A call for which a condition holds is refused for the first one.
pub is_refused : (log : Log) (act : Act) (answer : Answer) (refusal : Refusal)
    → refusal_of (log_view log) act ≡ Some refusal → MayAnswer log act answer
    → answer ≡ Refused refusal
is_refused log act answer refusal holds (accepts none is) = cc
is_refused log act answer refusal holds (refuses other holds_other is) =
    let same : other ≡ refusal = cc in is ∙ ap Refused same
is_refused log act answer refusal holds (lacks none may is) = cc
is_refused log act answer refusal holds (fails none may is) = cc

-- A call that is refused, though a list that fits would not be: for the first condition, or since
-- memory was refused.
pub refused_so : (log : Log) (act : Act) (refusal : Refusal)
    → (Refused refusal ≡ answer_of (log_view log) act → ⊥) → MayAnswer log act (Refused refusal)
    → (refusal_of (log_view log) act ≡ Some refusal)
    ⊎ ((refusal_of (log_view log) act ≡ None) × (refusal ≡ Memory))
refused_so log act refusal apart (accepts none is) = absurd (apart is)
refused_so log act refusal apart (refuses other holds is) =
    let same : refusal ≡ other = cc in inl (holds ∙ ap Some (sym same))
refused_so log act refusal apart (lacks none may is) = inr (none, cc)
refused_so log act refusal apart (fails none may is) = cc

-- The size of a list by what is computed of it.
pub is_large : (fields : List Field) (size : ℕ) → size ≡ min (list_size fields) (2 ^ 64 - 1)
    → 65536 < size → is_too_large fields ≡ true
is_large fields size is above = lt-ltb 65536 (list_size fields) (omega (arith, is, above))

pub is_small : (fields : List Field) (size : ℕ) → size ≡ min (list_size fields) (2 ^ 64 - 1)
    → size ≤ 65536 → is_too_large fields ≡ false
is_small fields size is below = le-ltb 65536 (list_size fields) (omega (arith, is, below))

-- Where no number comes next, no stream is opened.
no_number_by : (log : Log) (fields : List Field) (end : Bool) (b : Bool)
    → (is_some log.failed || is_server log.role) ≡ b
    → (if b then None else Some (next_number log)) ≡ None
    → refusal_of (log_view log) (Open fields end) ≡ None → ⊥
unfolding conditions
no_number_by log fields end true is none goes =
    both_ways _ (or_from _ _ (none_holds _ goes).0
    (neither_one _ _ (none_holds _ goes).1.1.0)) is
no_number_by log fields end false is none goes = cc

-- A condition that isn't none.
some_of : {A : Type 0} (o : Option A) → (o ≡ None → ⊥) → (value : A) × (o ≡ Some value)
some_of None is = absurd (is refl)
some_of (Some value) is = (value, refl)

pub no_number_refuses : (log : Log) (fields : List Field) (end : Bool)
    → reader_next_number log ≡ None
    → (refusal : Refusal) × (refusal_of (log_view log) (Open fields end) ≡ Some refusal)
no_number_refuses log fields end none =
    some_of _ (no_number_by log fields end (is_some log.failed || is_server log.role) refl none)

-- What refuses a list of fields does so whether the stream ends or not.
pub whatever_end : (view : View) (fields : List Field) (one other : Bool)
    → refusal_of view (Open fields one) ≡ refusal_of view (Open fields other)
unfolding conditions
whatever_end view fields one other = refl
