-- What opening a stream with the head of a request makes of an end.
use Rattle.h2_ends.proofs.Names
use Names.{◌≡◌, ◌⊎◌, ℕ, Bool, true, false, if◌then◌else◌, List, [], Option, Some, None, refl, sym}
use Names.{ap, ◌∙◌, inl, inr, arith, both_ways, cases_eq, false_from_ne_true, Field, Refusal}
use Names.{Memory, Client, Values, IsTypedAct, Open, Number, Refused, is_server, is_too_large}
use Names.{refusal_of, Log, next_number, log_view, MayAnswer, with_call, is_number_used}
use Names.{ConnRepresents, answer_by, reader_next_number, Reading, Responses, Said}
use Names.{trailer_fields, asks_head, Follows, End, Stream, EndLog, end_with_log, RefusesMessage}
use Names.{is_ended_by_head, EndRepresents, kept_at, KeepsOne, ◌||◌, OpensStream, neither_other}
use Rattle.std.specs.Prelude.{Result, Ok, Err, is_some, is_err, OnOk, OnErr, unwrap_or}
use Rattle.h2_laws_end.proofs.OverNumbers.{open_answer, used_below}
use Rattle.h2_ends.specs.EndCalls.{opened_with}
use Rattle.h2_ends.proofs.EndTokens.{refused_tokens}
use Rattle.h2_ends.proofs.InSteps.{called_as}
use Rattle.h2_ends.proofs.RequestTable.{kept_alike}
use Rattle.h2_ends.proofs.RequestSteps.{refused_open_keeps}
use Rattle.h2_ends.proofs.RequestHeads.{untouched}
use Rattle.h2_ends.proofs.RequestRefusals.{is_refused, refused_so, refuses_fitting, refuses_head}
use Rattle.h2_ends.proofs.RequestRefusals.{open_too_large, trailers_refuse_open}
use Rattle.h2_ends.proofs.RequestRefusals.{no_number_refuses}
use Rattle.h2_ends.proofs.RequestSends.{unchanged_by}
use Rattle.h2_ends.proofs.TableSteps.{SetsValue, keeps_but}
use Rattle.h2_laws_log.proofs.InvariantSends.{client_since as client_by}
use Rattle.h2_ends.specs.declared.outgoing.Outgoing.TheVariants as outgoings

-- What holds of a result, by its test.
pub on_err : {A E : Type 0} (result : Result A E) (P : Type 0) → is_err result ≡ true
    → OnErr result P → P
on_err (Ok value) P is holds = absurd (both_ways false refl is)
on_err (Err fault) P is holds = holds

pub on_ok : {A E : Type 0} (result : Result A E) (P : Type 0) → is_err result ≡ false
    → OnOk result P → P
on_ok (Ok value) P is holds = holds
on_ok (Err fault) P is holds = absurd (both_ways true is refl)

-- Where memory was refused, that is said only where nothing else refuses.
pub or_memory : (first found : Option Refusal) (refusal : Refusal) → found ≡ first
    → refusal ≡ unwrap_or found Memory
    → (first ≡ Some refusal) ⊎ ((first ≡ None) × (refusal ≡ Memory))
or_memory first None refusal same is = inr (sym same, is)
or_memory first (Some one) refusal same is = inl (sym same ∙ ap Some (sym is))

module _ (values : Values) (old new : End) (end : EndLog) (said : Said) where
  -- The call is refused for sure, and so the message.
  opens_surely : (list : List Field) (ends : Bool) (result : Result ℕ Refusal)
      → (refusal : Refusal) × (refusal_of (log_view end.log) (Open list ends) ≡ Some refusal)
      → ((refusal : Refusal) → refusal_of (log_view end.log) (Open list ends) ≡ Some refusal
      → RefusesMessage end.log (opened_with said) said.message refusal)
      → IsTypedAct (Open list ends) → EndRepresents values old end
      → MayAnswer end.log (Open list ends) (answer_by (λ id. Number id) result)
      → ConnRepresents values new.conn (with_call end.log (Open list ends)
      (answer_by (λ id. Number id) result))
      → new.role ≡ old.role → new.streams ≡ old.streams → new.spans ≡ old.spans
      → OpensStream values end said old result new
  opens_surely list ends (Ok id) first refuses typed is may conn role streams waiting =
      let wrong = is_refused end.log (Open list ends) (Number id) first.0 first.1 may in cc
  opens_surely list ends (Err refusal) first refuses typed is may conn role streams waiting =
      let act = Open list ends in
      let same : Refused refusal ≡ Refused first.0 =
      is_refused end.log act (Refused refusal) first.0 first.1 may in
      let one : first.0 ≡ refusal = cc in (
        end_with_log end (with_call end.log act (Refused refusal)),
        refuses refusal (first.1 ∙ ap Some one),
        unchanged_by end act refusal typed tt may,
        called_as values old new end act (Refused refusal) is may conn role streams waiting
            (λ i. refused_tokens i act refusal) (λ i wrong. cc)
            (λ i. refused_open_keeps i list ends refusal),
      )

  -- Trailers that are too large are refused in place of the message.
  pub opens_trailers : (result : Result ℕ Refusal)
      → is_too_large (trailer_fields said.message.trailers) ≡ true
      → IsTypedAct (Open (trailer_fields said.message.trailers) true)
      → EndRepresents values old end
      → MayAnswer end.log (Open (trailer_fields said.message.trailers) true)
      (answer_by (λ id. Number id) result)
      → ConnRepresents values new.conn (with_call end.log
      (Open (trailer_fields said.message.trailers) true) (answer_by (λ id. Number id) result))
      → new.role ≡ old.role → new.streams ≡ old.streams → new.spans ≡ old.spans
      → OpensStream values end said old result new
  opens_trailers result large typed is may conn role streams waiting =
      opens_surely (trailer_fields said.message.trailers) true result
      (open_too_large (log_view end.log) (trailer_fields said.message.trailers) true large)
      (λ refusal holds. trailers_refuse_open end.log said.message
      (is_ended_by_head said.form said.message) refusal large holds)
      typed is may conn role streams waiting

  -- Where no number comes next, the head is refused.
  pub opens_nowhere : (result : Result ℕ Refusal) → reader_next_number end.log ≡ None
      → IsTypedAct (opened_with said) → EndRepresents values old end
      → MayAnswer end.log (opened_with said) (answer_by (λ id. Number id) result)
      → ConnRepresents values new.conn (with_call end.log (opened_with said)
      (answer_by (λ id. Number id) result))
      → new.role ≡ old.role → new.streams ≡ old.streams → new.spans ≡ old.spans
      → OpensStream values end said old result new
  opens_nowhere result none typed is may conn role streams waiting =
      let ends = is_ended_by_head said.form said.message in
      opens_surely said.message.head ends result
      (no_number_refuses end.log said.message.head ends none)
      (λ refusal holds. refuses_head end.log (opened_with said) said.message refusal holds)
      typed is may conn role streams waiting

next_by : (log : Log) (id : ℕ) (b : Bool) → (is_some log.failed || is_server log.role) ≡ b
    → (if b then None else Some (next_number log)) ≡ Some id
    → (log.role ≡ Client) × (id ≡ next_number log)
next_by log id true is next = cc
next_by log id false is next = (client_by log.role (neither_other _ _ is), cc)

pub next_is_new : (log : Log) (id : ℕ) → reader_next_number log ≡ Some id
    → (id ≡ next_number log) × (is_number_used log id ≡ false)
next_is_new log id next =
    let both = next_by log id (is_some log.failed || is_server log.role) refl next in
    let same = both.1 in (
      same,
      false_from_ne_true _ (λ was. let low = used_below log id both.0 was in
          omega (arith, low, same)),
    )

-- The stream that was inserted and removed again is none.
pub keeps_none : (old mid new : End) (id : ℕ) (stream : Stream)
    → SetsValue id (Some stream) old.streams.entries mid.streams.entries
    → SetsValue id None mid.streams.entries new.streams.entries → KeepsOne old new id None
keeps_none old mid new id stream put away =
    let first = keeps_but old mid id (Some stream) put in
    let last = keeps_but mid new id None away in
    record {
      one = last.one;
      others = λ i other. last.others i other ∙ first.others i other;
    }

-- Where nothing was kept of a number, and nothing is, all is kept as before.
kept_as_before : (old new : End) (id : ℕ) → kept_at id old.streams.entries ≡ None
    → KeepsOne old new id None → (i : ℕ)
    → kept_at i new.streams.entries ≡ kept_at i old.streams.entries
kept_as_before old new id none keeps i =
    elim (cases_eq i id) [
      | inl here ↦ rw here (keeps.one ∙ sym none)
      | inr other ↦ keeps.others i other
    ]

module _ (values : Values) (old new : End) (end : EndLog) (said : Said) (id : ℕ) where
  -- The connection refuses the head.
  pub opens_not : (result : Result ℕ Refusal) → is_err result ≡ true
      → is_too_large (trailer_fields said.message.trailers) ≡ false
      → reader_next_number end.log ≡ Some id
      → IsTypedAct (opened_with said) → EndRepresents values old end
      → MayAnswer end.log (opened_with said)
      (answer_by (λ id. Number id) result)
      → ConnRepresents values new.conn (with_call end.log (opened_with said)
      (answer_by (λ id. Number id) result))
      → new.role ≡ old.role → new.spans ≡ old.spans → KeepsOne old new id None
      → OpensStream values end said old result new
  opens_not (Ok number) err fits next typed is may conn role waiting
      keeps = absurd (both_ways false refl err)
  opens_not (Err refusal) err fits next typed is may conn role waiting
      keeps =
      let act = opened_with said in
      let none = (untouched values old end id is (next_is_new end.log id next).1).1 in
      let mid = record old { conn = new.conn } in (
        end_with_log end (with_call end.log act (Refused refusal)),
        refuses_fitting end.log act said.message refusal fits
            (refused_so end.log act refusal (λ same. cc) may),
        unchanged_by end act refusal typed tt may,
        kept_alike values mid new (end_with_log end (with_call end.log act (Refused refusal)))
            (called_as values old mid end act (Refused refusal) is may conn refl refl refl
            (λ i. refused_tokens i act refusal) (λ i wrong. cc)
            (λ i. refused_open_keeps i said.message.head
            (is_ended_by_head said.form said.message) refusal)) refl role
            waiting (kept_as_before old new id none keeps),
      )

  -- The connection has opened the stream.
  pub opens_new : (result : Result ℕ Refusal) (reading : Reading) → is_err result ≡ false
      → is_too_large (trailer_fields said.message.trailers) ≡ false
      → reader_next_number end.log ≡ Some id
      → MayAnswer end.log (opened_with said)
      (answer_by (λ id. Number id) result)
      → ConnRepresents values new.conn (with_call end.log
      (opened_with said) (answer_by (λ id. Number id) result))
      → new.role ≡ old.role → new.spans ≡ old.spans
      → Follows (Responses (asks_head said.message.head)) [] reading
      → KeepsOne old new id (Some (record { reading = reading; outgoing = outgoings.NotGiven }))
      → OpensStream values end said old result new
  opens_new (Ok number) reading ok fits next may conn role waiting follows keeps =
      let same : id ≡ number = (next_is_new end.log id next).0
      ∙ sym (open_answer end.log said.message.head (is_ended_by_head said.form said.message)
      number may).1 in
      record {
        fits = fits;
        answers = may;
        conn = conn;
        role = role;
        spans = waiting;
        reading = reading;
        follows = follows;
        keeps = rw same at keeps;
      }
  opens_new (Err refusal) reading ok fits next may conn role waiting
      follows keeps = absurd (both_ways true ok refl)
