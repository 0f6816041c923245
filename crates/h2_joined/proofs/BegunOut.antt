-- Of a message that was begun all that was given so far was sent, whatever call comes next.
use Rattle.h2_joined.proofs.Names
use Names.{◌≡◌, ◌≢◌, ℕ, List, Option, drop, length, cases_eq, true, [], ◌∷◌, Some, None, refl}
use Names.{sym, ap, ◌∙◌, inl, inr, subst}
use Names.{append-nil, Act, Answer, with_call, Refuse, Said, is_begun}
use Names.{said_tokens, drop-append_seam, tokens_sent, Took, Failed, FieldsEvent, EndLog}
use Names.{EndAnswer, EndMayTake, said_for, tokens_out}
use Names.{end_with_log, end_with_said, fails, hands_nothing, passes, hands_out, refuses}
use Names.{refusal_fails, runs_out_of_memory}
use Rattle.h2_laws_pair.specs.Tokens.{Begun, tokens_of_call}
use Rattle.h2_ends.specs.declared.span.Turn.{Turn}
use Rattle.h2_ends.specs.EndCalls.{end_with_more}
use Rattle.h2_ends.specs.Ends.{tokens_waiting, replaced}
use Rattle.h2_ends.proofs.EndOrder.{SendsNext, none_begins}
use Rattle.h2_ends.proofs.EndTokens.{call_adds_none, no_part_tokens, take_calls}
use Rattle.h2_ends.proofs.PumpTokens.{said_is}
use Rattle.h2_ends.proofs.RequestSent.{head_tokens, sent_first, accepted_here, accepted_elsewhere}
use Rattle.h2_ends.proofs.PartSends.{one_said, replaced_here, replaced_elsewhere}
use Rattle.h2_joined.proofs.KeptEnds.{taken_says}

-- All that was given of a message was sent, and it has no trailers yet.
pub record IsAllOut (end : EndLog) (i : ℕ) (said : Said) : Type 0 where
  pub trailers : said.message.trailers ≡ None
  pub out : said_tokens said ≡ tokens_out end i

-- So it is with each message of which more may follow.
abbrev pub SendsBegun : EndLog → Type 0
SendsBegun end =
    (i : ℕ) (said : Said) → said_for i end.accepted ≡ Some said → is_begun said.form ≡ true
    → IsAllOut end i said

-- What was begun is so.
pub begun_by : (said : Said) (number : Option ℕ) → said.form ≡ Begun number
    → is_begun said.form ≡ true
begun_by said number form = ap is_begun form

-- It is so where the same was sent and accepted.
same_out : (end after : EndLog) (i : ℕ) (said : Said) → tokens_out after i ≡ tokens_out end i
    → IsAllOut end i said → IsAllOut after i said
same_out end after i said same is =
    record { trailers = is.trailers; out = is.out ∙ sym same }

-- What was sent of it leaves nothing that waits.
none_waits : (end : EndLog) (i : ℕ) (said : Said) → said_for i end.accepted ≡ Some said
    → IsAllOut end i said → tokens_waiting end i ≡ []
none_waits end i said accepted is =
    ap (drop (length (tokens_out end i)))
    (said_is end i said accepted ∙ is.out ∙ sym (append-nil (tokens_out end i)))
    ∙ drop-append_seam (tokens_out end i) []

-- A call that sends what waits on a stream sends nothing there.
pub begun_by_call : (end : EndLog) (act : Act) (answer : Answer) → SendsBegun end
    → SendsNext end act answer → SendsBegun (end_with_log end (with_call end.log act answer))
begun_by_call end act answer is next i said accepted begun =
    let was = is i said accepted begun in
    let none = none_begins (tokens_of_call i act answer) (next i).0
    (sym (none_waits end i said accepted was) ∙ (next i).1) in
    same_out end _ i said (call_adds_none i end.log act answer none) was

-- It doesn't matter for it with which stream the next pass begins.
pub begun_turned : (end : EndLog) (turn : Turn) → SendsBegun end
    → SendsBegun (record end { turn = turn })
begun_turned end turn is i said accepted begun =
    same_out end (record end { turn = turn }) i said refl (is i said accepted begun)

-- A call of `take` sends nothing.
take_out : (end after : EndLog) (piece : List ℕ) (answer : EndAnswer) (i : ℕ)
    → EndMayTake end piece answer after → tokens_out after i ≡ tokens_out end i
take_out end after piece answer i (fails code log may answers same) =
    ap (λ (e : EndLog). tokens_out e i) same
    ∙ ap (tokens_sent i) (take_calls end.log log piece (Failed code) may)
take_out end after piece answer i (hands_nothing count log may answers same) =
    ap (λ (e : EndLog). tokens_out e i) same
    ∙ ap (tokens_sent i) (take_calls end.log log piece (Took count None) may)
take_out end after piece answer i (passes count event log may unread answers same) =
    ap (λ (e : EndLog). tokens_out e i) same
    ∙ ap (tokens_sent i) (take_calls end.log log piece (Took count (Some event)) may)
take_out end after piece answer i
    (hands_out count event log may id part of readable answers same) =
    ap (λ (e : EndLog). tokens_out e i) same
    ∙ ap (tokens_sent i) (take_calls end.log log piece (Took count (Some event)) may)
take_out end after piece answer i
    (refuses count event log may id part of stops refused answers_it up answers same) =
    ap (λ (e : EndLog). tokens_out e i) same
    ∙ call_adds_none i log (Refuse id 1) refused (no_part_tokens i (Refuse id 1) refused tt)
    ∙ ap (tokens_sent i) (take_calls end.log log piece (Took count (Some event)) may)
take_out end after piece answer i
    (refusal_fails count event log may id part of stops refused answers_it code down answers
    same) =
    ap (λ (e : EndLog). tokens_out e i) same
    ∙ call_adds_none i log (Refuse id 1) refused (no_part_tokens i (Refuse id 1) refused tt)
    ∙ ap (tokens_sent i) (take_calls end.log log piece (Took count (Some event)) may)
take_out end after piece answer i
    (runs_out_of_memory count id list ends log may server first readable refused answers_it
    answers same) =
    ap (λ (e : EndLog). tokens_out e i) same
    ∙ call_adds_none i log (Refuse id 2) refused (no_part_tokens i (Refuse id 2) refused tt)
    ∙ ap (tokens_sent i)
    (take_calls end.log log piece (Took count (Some (FieldsEvent id list ends))) may)

pub begun_by_take : (end after : EndLog) (piece : List ℕ) (answer : EndAnswer) → SendsBegun end
    → EndMayTake end piece answer after → SendsBegun after
begun_by_take end after piece answer is may i said accepted begun =
    let says = taken_says end piece answer after may in
    same_out end after i said (take_out end after piece answer i may)
    (is i said (sym (ap (said_for i) says.accepted) ∙ accepted) begun)

-- What is begun with its head is out once that was sent.
abbrev pub BeginsOut : Said → Type 0
BeginsOut said =
    is_begun said.form ≡ true
    → (said.message.trailers ≡ None) × (said_tokens said ≡ head_tokens said)

pub begun_by_head : (end : EndLog) (act : Act) (answer : Answer) (id : ℕ) (said : Said)
    → SendsBegun end → tokens_out end id ≡ []
    → ((i : ℕ) → i ≢ id → tokens_of_call i act answer ≡ [])
    → tokens_of_call id act answer ≡ head_tokens said → BeginsOut said
    → SendsBegun (end_with_said end act answer id said)
begun_by_head end act answer id said is unsent others head begins i one accepted begun =
    elim (cases_eq i id) [
      | inl here ↦
          let same : said ≡ one =
          one_said _ said one (accepted_here id said end.accepted)
          (ap (λ (j : ℕ). said_for j ((id, said) ∷ end.accepted)) (sym here) ∙ accepted) in
          let all = begins (ap (λ (any : Said). is_begun any.form) same ∙ begun) in
          subst (λ (any : Said). IsAllOut (end_with_said end act answer id said) i any) same
          (record {
            trailers = all.0;
            out = all.1 ∙ sym (sent_first end act answer ((id, said) ∷ end.accepted) id
                (head_tokens said) unsent head)
                ∙ ap (λ (j : ℕ). tokens_out (end_with_said end act answer id said) j) (sym here);
          })
      | inr other ↦ same_out end _ i one
          (call_adds_none i end.log act answer (others i other))
          (is i one (sym (accepted_elsewhere i id said end.accepted other) ∙ accepted) begun)
    ]

-- So it is after a part more of one that was begun, which is what was given before with what the
-- call has sent.
pub begun_by_more : (end : EndLog) (act : Act) (answer : Answer) (id : ℕ) (said more : Said)
    → SendsBegun end → said_for id end.accepted ≡ Some said
    → ((i : ℕ) → i ≢ id → tokens_of_call i act answer ≡ [])
    → (is_begun more.form ≡ true → IsAllOut (end_with_more end act answer id more) id more)
    → SendsBegun (end_with_more end act answer id more)
begun_by_more end act answer id said more is was others all i one accepted begun =
    elim (cases_eq i id) [
      | inl here ↦
          let same : more ≡ one = one_said _ more one
          (replaced_here id more said end.accepted was)
          (ap (λ (j : ℕ). said_for j (replaced id more end.accepted)) (sym here) ∙ accepted) in
          subst (λ (any : Said). IsAllOut (end_with_more end act answer id more) i any) same
          (subst (λ (j : ℕ). IsAllOut (end_with_more end act answer id more) j more) (sym here)
          (all (ap (λ (any : Said). is_begun any.form) same ∙ begun)))
      | inr other ↦ same_out end _ i one
          (call_adds_none i end.log act answer (others i other))
          (is i one (sym (replaced_elsewhere i id more end.accepted other) ∙ accepted) begun)
    ]
