-- What was sent and handed out at an end keeps the order, after each call that sends what waits
-- and each call of `take`.
use Rattle.h2_ends.proofs.Names
use Names.{◌≡◌, ◌≢◌, ℕ, ◌==◌, ◌&&◌, Bool, true, false, List, [], ◌∷◌, ◌++◌, length, take, drop}
use Names.{Option, Some, None, inl, inr, refl, sym, ap, ◌∙◌, append_assoc, append-nil}
use Names.{drop-append_seam, and_parts, cases_eq, eqb-true, Field, Refusal, Act, Answer}
use Names.{SendFields, SendData, Refuse, Count, Done, Refused, Event, FieldsEvent, DataEvent}
use Names.{ResetEvent, Log, MayAnswer, with_call, IsOver, is_number_used, TakeAnswer, MayTake}
use Names.{Took, Failed, fields_in_use, data_in_use, log_after_take, Said, Part, FieldsPart}
use Names.{OctetsPart, Token, OctetToken, EndToken, tokens_of_call, tokens_of_event, tokens_heard}
use Names.{trailers_tokens, IsPrefixOfTokens, EndLog, Passed, EndAnswer, parts_on, reads_on}
use Names.{handed_as, tokens_of_part, tokens_handed, tokens_out, said_for, tokens_waiting}
use Names.{IsReadableWith, end_with_log, end_with_handed, hands_nothing, passes, hands_out}
use Names.{refusal_fails, BodyWaits, TrailersWait, end_with_said, end_after_call, SendsInOrder}
use Names.{HandsInOrder, end_tokens, part_of_event, tokens_given, is_none}
use Rattle.h2_ends.specs.EndTakes.{EndMayTake, fails, refuses, runs_out_of_memory}
use Rattle.h2_message.specs.declared.malformed.Malformed.{Malformed}
use Rattle.std.proofs.Common.{map as each}
use Rattle.h2_ends.proofs.EndParts.{handed_elsewhere, readable_here, same_part, no_tokens}
use Rattle.h2_ends.proofs.EndParts.{part_tokens, other_tokens}
use Rattle.h2_ends.proofs.EndSteps.{passed_none, same_sent, same_taken, sent_handed}
use Rattle.h2_ends.proofs.EndTokens.{SendsNoPart, refused_tokens, no_part_tokens, call_adds_none}
use Rattle.h2_ends.proofs.InSteps.{tokens_reported, handed_called, handed_taken, handed_no_part}
use Rattle.h2_ends.proofs.InSteps.{handed_by}
use Rattle.h2_ends.proofs.PumpStuck.{out_after, data_none, fields_none}
use Rattle.h2_ends.proofs.PumpTokens.{begun_more, data_tokens, fields_tokens, octets_split}
use Rattle.h2_ends.proofs.PumpTokens.{octets_all}
use Rattle.h2_ends.proofs.PumpWindows.{data_within}
use Rattle.h2_ends.proofs.ShareSteps.{share_tokens}
use Rattle.h2_ends.specs.Passes.{share_act}
use Rattle.h2_ends.specs.declared.span.Turn.{Turn}
use Rattle.std.specs.Prelude.{nat_le}
use Rattle.h2_ends.proofs.RequestSent.{head_tokens, sent_in_order, sent_first, accepted_here}
use Rattle.h2_ends.proofs.RequestSent.{accepted_elsewhere}
use Rattle.h2_ends.proofs.TakeInStep.{up_before, handed_so_far, heard_then, handed_then}
use Rattle.h2_ends.proofs.TakeRefusing.{cut_short}

-- What was sent and handed out at an end on each stream keeps the order.
pub record KeepsOrder (end : EndLog) : Type 0 where
  pub sends : (i : ℕ) → SendsInOrder end i
  pub hands : (i : ℕ) → HandsInOrder end i

-- What a call sends on a stream is the beginning of what waits there.
abbrev pub SendsNext : EndLog → Act → Answer → Type 0
SendsNext end act answer =
    (i : ℕ) → IsPrefixOfTokens (tokens_of_call i act answer) (tokens_waiting end i)

-- Nothing is the beginning of whatever waits.
none_first : (tokens waiting : List Token) → tokens ≡ [] → IsPrefixOfTokens tokens waiting
none_first tokens waiting none = (
  waiting,
  ap (λ (line : List Token). line ++ waiting) (sym none),
)

pub refused_next : (end : EndLog) (act : Act) (refusal : Refusal)
    → SendsNext end act (Refused refusal)
refused_next end act refusal i =
    none_first _ (tokens_waiting end i) (refused_tokens i act refusal)

pub no_part_next : (end : EndLog) (act : Act) (answer : Answer) → SendsNoPart act
    → SendsNext end act answer
no_part_next end act answer none i =
    none_first _ (tokens_waiting end i) (no_part_tokens i act answer none)

-- The first octets of a body begin it, with the end where they are all and no trailers follow.
octets_begin : (octets : List ℕ) (trailers : Option (List Field)) (n : ℕ) (ended : Bool)
    → (is_none trailers && n == length octets) ≡ ended
    → IsPrefixOfTokens (each OctetToken (take n octets) ++ end_tokens ended)
    (each OctetToken octets ++ (trailers_tokens trailers ++ EndToken ∷ []))
unfolding end_tokens
octets_begin octets trailers n true is =
    let parts = and_parts _ _ is in (
      [],
      sym (append-nil (each OctetToken (take n octets) ++ EndToken ∷ [])
          ∙ octets_all octets trailers n (eqb-true n (length octets) parts.1) parts.0),
    )
octets_begin octets trailers n false is =
    let first = each OctetToken (take n octets) in
    let tail = trailers_tokens trailers ++ EndToken ∷ [] in (
      each OctetToken (drop n octets) ++ tail,
      sym (ap (λ (line : List Token). line ++ (each OctetToken (drop n octets) ++ tail))
          (append-nil first) ∙ octets_split octets tail n),
    )

-- So they do where the rest of the body waits,
pub data_next : (end : EndLog) (id : ℕ) (octets : List ℕ) (ends : Bool) (n : ℕ)
    → BodyWaits end id octets ends → SendsNext end (SendData id octets ends) (Count n)
data_next end id octets ends n waits i = elim (cases_eq i id) [
  | inl here ↦ rw (here, data_tokens id octets ends n, waits.waits, waits.ends_is)
      (octets_begin octets waits.trailers n _ refl)
  | inr other ↦ none_first _ (tokens_waiting end i) (data_none i id octets ends (Count n) other)
]

-- and a share of it,
pub share_next : (end : EndLog) (most id : ℕ) (octets : List ℕ) (ends : Bool) (n : ℕ)
    → BodyWaits end id octets ends → MayAnswer end.log (share_act most id octets ends) (Count n)
    → SendsNext end (share_act most id octets ends) (Count n)
share_next end most id octets ends n waits may i = elim (cases_eq i id) [
  | inl here ↦ rw (
    here,
    share_tokens most id octets ends n (data_within end.log id
        (take most octets) (ends && nat_le (length octets) most) n may),
  )
      (data_next end id octets ends n waits id)
  | inr other ↦ none_first _ (tokens_waiting end i) (data_none i id (take most octets)
      (ends && nat_le (length octets) most) (Count n) other)
]

-- and trailers where they wait.
pub trailers_next : (end : EndLog) (id : ℕ) (list : List Field) → TrailersWait end id list
    → SendsNext end (SendFields id list true) Done
trailers_next end id list wait i = elim (cases_eq i id) [
  | inl here ↦ rw (here, fields_tokens id list, wait) ([], refl)
  | inr other ↦ none_first _ (tokens_waiting end i) (fields_none i id list true Done other)
]

-- What waits on a stream follows what was sent.
pub waiting_of : (end : EndLog) (i : ℕ) (sends : SendsInOrder end i)
    → tokens_waiting end i ≡ sends.waiting
waiting_of end i sends =
    ap (drop (length (tokens_out end i))) sends.prefix
    ∙ drop-append_seam (tokens_out end i) sends.waiting

-- Where nothing is said on a stream, nothing was sent: a prefix of nothing is nothing.
pub none_begins : (tokens rest : List Token) → [] ≡ tokens ++ rest → tokens ≡ []
none_begins [] rest is = refl
none_begins (token ∷ tokens) rest is = absurd (cc)

pub unsaid_unsent : (end : EndLog) (i : ℕ) → SendsInOrder end i
    → said_for i end.accepted ≡ None → tokens_out end i ≡ []
unfolding tokens_given
unsaid_unsent end i is none =
    none_begins (tokens_out end i) is.waiting (sym (ap tokens_given none) ∙ is.prefix)

-- A call that sends what waits on a stream keeps the order of what is sent.
sends_called : (end : EndLog) (act : Act) (answer : Answer) (i : ℕ) → SendsInOrder end i
    → IsPrefixOfTokens (tokens_of_call i act answer) (tokens_waiting end i)
    → SendsInOrder (end_after_call end act answer) i
sends_called end act answer i is (rest, next) =
    let out = tokens_out end i in
    let more = tokens_of_call i act answer in
    let after = out_after end act answer i in
    record {
      waiting = rest;
      prefix = is.prefix
          ∙ ap (λ (line : List Token). out ++ line) (sym (waiting_of end i is) ∙ next)
          ∙ sym (append_assoc out more rest)
          ∙ ap (λ (line : List Token). line ++ rest) (sym after);
      begun = λ given none. begun_more out more (is.begun given) (sym after ∙ none);
    }

-- So it keeps the order.
pub order_by_call : (end : EndLog) (act : Act) (answer : Answer) → KeepsOrder end
    → MayAnswer end.log act answer → SendsNext end act answer
    → KeepsOrder (end_after_call end act answer)
order_by_call end act answer is may next =
    record {
      sends = λ i. sends_called end act answer i (is.sends i) (next i);
      hands = λ i. handed_called end act answer end.accepted i may (is.hands i);
    }

-- It doesn't matter for it with which stream the next pass begins.
pub order_turned : (end : EndLog) (turn : Turn) → KeepsOrder end
    → KeepsOrder (record end { turn = turn })
order_turned end turn is =
    record {
      sends = λ i. same_sent end (record end { turn = turn }) i (record {
        handed = refl;
        accepted = refl;
        sent = refl;
        role = refl;
        used_still = λ was. was;
      }) (is.sends i);
      hands = λ i. handed_by end (record end { turn = turn }) i refl refl (is.hands i);
    }

-- So it does whatever part was refused last.
pub order_named : (end : EndLog) (last : Option (ℕ × Malformed)) → KeepsOrder end
    → KeepsOrder (record end { malformed = last })
order_named end last is =
    record {
      sends = λ i. same_sent end (record end { malformed = last }) i (record {
        handed = refl;
        accepted = refl;
        sent = refl;
        role = refl;
        used_still = λ was. was;
      }) (is.sends i);
      hands = λ i. handed_by end (record end { malformed = last }) i refl refl (is.hands i);
    }

-- So does one that sends the head of what is given, where nothing was sent on its stream before.
pub order_by_head : (end : EndLog) (act : Act) (answer : Answer) (id : ℕ) (said : Said)
    → KeepsOrder end → MayAnswer end.log act answer → tokens_out end id ≡ []
    → ((i : ℕ) → i ≢ id → tokens_of_call i act answer ≡ [])
    → tokens_of_call id act answer ≡ head_tokens said
    → KeepsOrder (end_with_said end act answer id said)
order_by_head end act answer id said is may unsent others head =
    let accepted = (id, said) ∷ end.accepted in
    let after = end_with_said end act answer id said in
    record {
      sends = λ i. elim (cases_eq i id) [
        | inl here ↦ rw here (sent_in_order after id said
            (accepted_here id said end.accepted)
            (sent_first end act answer accepted id (head_tokens said) unsent head))
        | inr other ↦ record {
          waiting = (is.sends i).waiting;
          prefix = rw (
            accepted_elsewhere i id said end.accepted other,
            call_adds_none i end.log act answer (others i other),
          ) (is.sends i).prefix;
          begun = rw (
            accepted_elsewhere i id said end.accepted other,
            call_adds_none i end.log act answer (others i other),
          ) (is.sends i).begun;
        }
      ];
      hands = λ i. handed_called end act answer accepted i may (is.hands i);
    }

-- Octets that were taken are no call.
sends_taken : (end : EndLog) (piece : List ℕ) (answer : TakeAnswer) (log : Log)
    → MayTake end.log piece answer log → KeepsOrder end → (i : ℕ)
    → SendsInOrder (end_with_log end log) i
sends_taken end piece answer log may is i =
    same_sent end (end_with_log end log) i (same_taken end piece answer log i may) (is.sends i)

-- The stream of a part of a message was not over, and is used.
pub part_in_use : (before after : Log) (piece : List ℕ) (count : ℕ) (event : Event) (id : ℕ)
    (part : Part × Bool) → MayTake before piece (Took count (Some event)) after
    → part_of_event event ≡ Some (id, part) → (IsOver before id
    → ⊥) × (is_number_used after id ≡ true)
unfolding part_of_event
part_in_use before after piece count (FieldsEvent stream list end) id part may of =
    let same = same_part (stream, (FieldsPart list, end)) (id, part) of in
    rw (← same.0) (fields_in_use before after piece count stream list end may)
part_in_use before after piece count (DataEvent stream octets flow end) id part may of =
    let same = same_part (stream, (OctetsPart octets, end)) (id, part) of in
    rw (← same.0) (data_in_use before after piece count stream octets flow end may)
part_in_use before after piece count event id part may of = absurd (cc)

module _ (end : EndLog) (piece : List ℕ) (count : ℕ) (event : Event) (log : Log)
    (may : MayTake end.log piece (Took count (Some event)) log) (is : KeepsOrder end) where
  -- Something is passed on that is no part of a message,
  order_passed : part_of_event event ≡ None
      → KeepsOrder (end_with_handed end log (Passed event))
  order_passed none =
      let taken = end_with_log end log in
      record {
        sends = λ i. sent_handed taken (Passed event) i
            (sends_taken end piece (Took count (Some event)) log may is i);
        hands = λ i. handed_no_part taken (Passed event) i (passed_none i event)
            (handed_taken end piece (Took count (Some event)) log i may (no_tokens i event none)
            (is.hands i));
      }

  module _ (id : ℕ) (part : Part × Bool) (of : part_of_event event ≡ Some (id, part)) where
    -- or a part has come, which follows those that were handed out.
    part_heard : tokens_heard id log.reported ≡ tokens_handed end id ++ tokens_of_part part
    part_heard =
        heard_then id event end.log.reported log.reported
        (log_after_take end.log log piece (Took count (Some event)) may).5
        ∙ ap (λ (tokens : List Token). tokens ++ tokens_of_event id event)
        (handed_so_far end id (part_in_use end.log log piece count event id part may of).0
        (up_before end.log log piece count event may) (is.hands id))
        ∙ ap (λ (tokens : List Token). tokens_handed end id ++ tokens)
        (part_tokens event id part of)

    -- On another stream nothing has come.
    none_heard : (i : ℕ) → i ≢ id → HandsInOrder (end_with_log end log) i
    none_heard i other =
        handed_taken end piece (Took count (Some event)) log i may
        (other_tokens event i id part of other) (is.hands i)

    -- The part is handed out,
    order_handed : IsReadableWith end id part → KeepsOrder (end_with_handed end log
        (handed_as (reads_on end id) (parts_on id end.handed) id part))
    order_handed readable =
        let taken = end_with_log end log in
        let reads = reads_on end id in
        let parts = parts_on id end.handed in
        let handed = handed_as reads parts id part in
        record {
          sends = λ i. sent_handed taken handed i
              (sends_taken end piece (Took count (Some event)) log may is i);
          hands = λ i. elim (cases_eq i id) [
            | inl here ↦ rw here (inl (part_heard ∙ sym (handed_then taken handed id part
                (readable_here reads parts id part readable))))
            | inr other ↦ handed_no_part taken handed i
                (handed_elsewhere reads parts i id part other) (none_heard i other)
          ];
        }

    -- or its stream is refused, and what was handed out of that is cut short.
    order_refused : (code : ℕ) (refused : Answer) → MayAnswer log (Refuse id code) refused
        → KeepsOrder (end_with_log end (with_call log (Refuse id code) refused))
    order_refused code refused may_refuse =
        let taken = end_with_log end log in
        record {
          sends = λ i. sends_called taken (Refuse id code) refused i
              (sends_taken end piece (Took count (Some event)) log may is i)
              (no_part_next taken (Refuse id code) refused tt i);
          hands = λ i. elim (cases_eq i id) [
            | inl here ↦ rw here (inr (cut_short taken id code refused may_refuse
                (part_in_use end.log log piece count event id part may of).1
                (tokens_of_part part, part_heard)))
            | inr other ↦ handed_called taken (Refuse id code) refused end.accepted i may_refuse
                (none_heard i other)
          ];
        }

-- That this end has reset it is handed out.
order_reset : (end : EndLog) (log : Log) (id : ℕ) → KeepsOrder (end_with_log end log)
    → KeepsOrder (end_with_handed end log (Passed (ResetEvent id 1 true)))
order_reset end log id is =
    let refused = end_with_log end log in
    let handed = Passed (ResetEvent id 1 true) in
    record {
      sends = λ i. sent_handed refused handed i (is.sends i);
      hands = λ i. handed_no_part refused handed i (passed_none i (ResetEvent id 1 true))
          (is.hands i);
    }

-- Nothing is reported.
order_taken : (end : EndLog) (piece : List ℕ) (answer : TakeAnswer) (log : Log)
    → MayTake end.log piece answer log → ((i : ℕ) → tokens_reported i answer ≡ [])
    → KeepsOrder end → KeepsOrder (end_with_log end log)
order_taken end piece answer log may none is =
    record {
      sends = sends_taken end piece answer log may is;
      hands = λ i. handed_taken end piece answer log i may (none i) (is.hands i);
    }

-- So a call of `take` keeps the order.
pub order_by_take : (end : EndLog) (piece : List ℕ) (answer : EndAnswer) (after : EndLog)
    → KeepsOrder end → EndMayTake end piece answer after → KeepsOrder after
unfolding part_of_event
order_by_take end piece answer after is (fails code log may answers same) =
    rw same (order_taken end piece (Failed code) log may (λ i. refl) is)
order_by_take end piece answer after is (hands_nothing count log may answers same) =
    rw same (order_taken end piece (Took count None) log may (λ i. refl) is)
order_by_take end piece answer after is (passes count event log may none answers same) =
    rw same (order_passed end piece count event log may is none)
order_by_take end piece answer after is
    (hands_out count event log may id part of readable answers same) =
    rw same (order_handed end piece count event log may is id part of readable)
order_by_take end piece answer after is
    (refuses count event log may id part of stops refused may_refuse up answers same) =
    rw same (order_named _ _ (order_reset end (with_call log (Refuse id 1) refused) id
    (order_refused end piece count event log may is id part of 1 refused may_refuse)))
order_by_take end piece answer after is
    (refusal_fails count event log may id part of stops refused may_refuse code down answers
    same) =
    rw same (order_named _ _
    (order_refused end piece count event log may is id part of 1 refused may_refuse))
order_by_take end piece answer after is
    (runs_out_of_memory count id list ends log may role first readable refused may_refuse answers
    same) =
    rw same (order_refused end piece count (FieldsEvent id list ends) log may is id
    (FieldsPart list, ends) refl 2 refused may_refuse)
