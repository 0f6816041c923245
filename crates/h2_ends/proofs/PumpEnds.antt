-- An end in the middle of a pump: its connection and one of its streams are ahead of the rest.
use Rattle.h2_ends.proofs.Names
use Names.{◌≡◌, ◌≢◌, ◌⊎◌, inl, inr, ℕ, ◌==◌, Bool, true, false, [], Option, Some, if◌then◌else◌}
use Names.{refl, sym, ap, ◌∙◌, subst, append-nil, both_ways, eq-eqb, eqb-true, ne_eqb, cases_eq}
use Names.{Role, Values, Act, Answer, active, MayAnswer, with_call, grows_call, IsOver}
use Names.{used_by_call, over_by_call, Conn, ConnRepresents, Reads, Said, Follows}
use Names.{tokens_of_call, End, Outgoing, Stream, Waiting, EndLog, parts_on, tokens_out}
use Names.{said_for, IsStuckOn}
use Names.{RepresentsMessages, IsStream, SendsInOrder, tokens_kept, outgoing_in, end_after_call}
use Names.{with_outgoing, keeps_with, said_tokens, reads_on, tokens_given, IsKept, IsOutgoing}
use Rattle.h2_ends.specs.Pumping.{RepresentsBy}
use Rattle.h2_ends.proofs.EndSteps.{kept, IsSame, same_kept, same_sent, outgoing_kept}
use Rattle.h2_ends.proofs.PumpStuck.{out_same, stuck_inactive}
use Rattle.h2_ends.proofs.PumpTokens.{stuck_sent, stuck_unsaid}
use Rattle.h2_ends.specs.declared.outgoing.Outgoing.TheVariants as outgoings

-- An end does so,
pub by_end : (values : Values) (end : End) (happened : EndLog)
    → RepresentsMessages values end happened
    → RepresentsBy values end.conn end.role (kept end) happened
by_end values end happened is =
    record { represents = is.conn; same_role = is.role; streams = is.streams; sent = is.sent }

-- and what does is an end that keeps the same.
pub to_end : (values : Values) (new : End) (keeps : ℕ → Option Stream) (happened : EndLog)
    → RepresentsBy values new.conn new.role keeps happened → ((i : ℕ) → kept new i ≡ keeps i)
    → RepresentsMessages values new happened
to_end values new keeps happened is same =
    record {
      conn = is.represents;
      role = is.same_role;
      streams = λ i. subst (λ (x : Option Stream). IsOver happened.log i ⊎ IsKept happened i x)
          (sym (same i)) (is.streams i);
      sent = is.sent;
    }

module _ (keeps : ℕ → Option Stream) (id : ℕ) (stream : Stream) where
  -- The stream with the number is that one, and any other is as before.
  pub keeps_here : keeps_with keeps id stream id ≡ Some stream
  keeps_here = ap (λ (b : Bool). if b then Some stream else keeps id) (eq-eqb id id refl)

  pub keeps_other : (i : ℕ) → i ≢ id → keeps_with keeps id stream i ≡ keeps i
  keeps_other i other = ap (λ (b : Bool). if b then Some stream else keeps i) (ne_eqb i id other)

-- A stream that is active is kept as is said.
pub kept_is : (values : Values) (conn : Conn) (role : Role) (keeps : ℕ → Option Stream)
    (happened : EndLog) (id : ℕ) (x : Option Stream)
    → RepresentsBy values conn role keeps happened → keeps id ≡ x → active happened.log id ≡ true
    → IsKept happened id x
kept_is values conn role keeps happened id x is same alive = elim (is.streams id) [
  | inl over ↦ absurd (both_ways _ (over.not_active) alive)
  | inr here ↦ subst (λ (y : Option Stream). IsKept happened id y) same here
]

-- Nothing changes where one is kept already.
pub same_by : (keeps : ℕ → Option Stream) (id : ℕ) (stream : Stream) (i : ℕ) (b : Bool)
    → (i == id) ≡ b → keeps id ≡ Some stream → keeps i ≡ (if b then Some stream else keeps i)
same_by keeps id stream i true is here = ap keeps (eqb-true i id is) ∙ here
same_by keeps id stream i false is here = refl

-- A stream on which no message waits is stuck.
stuck_outgoing : (end : EndLog) (id : ℕ) (outgoing : Outgoing) → IsOutgoing end id outgoing
    → ((waits : Waiting) → outgoing ≢ outgoings.Waiting waits) → IsStuckOn end id
unfolding IsOutgoing
stuck_outgoing end id outgoings.NotGiven is other = stuck_unsaid end id is.0
stuck_outgoing end id (outgoings.Waiting waits) is other = absurd (other waits refl)
stuck_outgoing end id (outgoings.Open rest) is other =
    stuck_sent end id is.said is.accepted is.out
stuck_outgoing end id outgoings.Sent is other = stuck_sent end id is.said is.accepted is.out

pub stuck_unless_waiting : (values : Values) (conn : Conn) (role : Role)
    (keeps : ℕ → Option Stream) (happened : EndLog) (id : ℕ)
    → RepresentsBy values conn role keeps happened
    → ((waits : Waiting) → outgoing_in (keeps id) ≢ outgoings.Waiting waits)
    → IsStuckOn happened id
stuck_unless_waiting values conn role keeps happened id is other = elim (is.streams id) [
  | inl over ↦ stuck_inactive happened id over.not_active
  | inr here ↦ stuck_outgoing happened id (outgoing_in (keeps id))
      (outgoing_kept happened id (keeps id) here) other
]

-- What is read on a stream is the same after a call.
reads_after : (end : EndLog) (act : Act) (answer : Answer) (i : ℕ)
    → reads_on (end_after_call end act answer) i ≡ reads_on end i
unfolding reads_on
reads_after end act answer i = rw ((grows_call end.log act answer).role) refl

-- What is kept of a stream, with something else to send.
pub stream_after : (end : EndLog) (act : Act) (answer : Answer) (id : ℕ) (stream : Stream)
    (outgoing : Outgoing) → IsStream end id stream
    → IsOutgoing (end_after_call end act answer) id outgoing
    → IsStream (end_after_call end act answer) id (with_outgoing stream outgoing)
stream_after end act answer id stream outgoing is sends =
    record {
      was_used = used_by_call end.log act answer id is.was_used;
      reading = subst (λ (reads : Reads). Follows reads (parts_on id end.handed) stream.reading)
          (sym (reads_after end act answer id)) is.reading;
      outgoing = sends;
      asked = λ server. is.asked (sym (grows_call end.log act answer).role ∙ server);
    }

-- Of what is accepted the head was sent, and what was sent is a prefix of it.
some_tokens : (said : Said) → said_tokens said ≢ []
unfolding said_tokens
some_tokens said = λ none. cc

-- Where all of it was sent, nothing waits.
all_out : (end : EndLog) (id : ℕ) (said : Said) → said_for id end.accepted ≡ Some said
    → said_tokens said ≡ tokens_out end id → SendsInOrder end id
unfolding tokens_given
all_out end id said accepted all =
    record {
      waiting = [];
      prefix = ap tokens_given accepted ∙ all ∙ sym (append-nil (tokens_out end id));
      begun = λ some none. some_tokens said (all ∙ none);
    }

pub sends_of : (end : EndLog) (id : ℕ) (outgoing : Outgoing) → IsOutgoing end id outgoing
    → SendsInOrder end id
unfolding IsOutgoing tokens_given
sends_of end id outgoings.NotGiven is =
    record {
      waiting = [];
      prefix = ap tokens_given is.0 ∙ sym is.1 ∙ sym (append-nil (tokens_out end id));
      begun = λ some none. some is.0;
    }
sends_of end id (outgoings.Waiting waits) is =
    record {
      waiting = tokens_kept waits;
      prefix = ap tokens_given is.accepted ∙ is.rest;
      begun = λ some. is.begun;
    }
sends_of end id (outgoings.Open rest) is = all_out end id is.said is.accepted is.out
sends_of end id outgoings.Sent is = all_out end id is.said is.accepted is.out

-- A call that sends nothing on a stream leaves what is kept of it.
pub same_by_call : (end : EndLog) (act : Act) (answer : Answer) (i : ℕ)
    → tokens_of_call i act answer ≡ [] → IsSame end (end_after_call end act answer) i
same_by_call end act answer i none =
    record {
      handed = refl;
      accepted = refl;
      sent = out_same end act answer i none;
      role = (grows_call end.log act answer).role;
      used_still = used_by_call end.log act answer i;
    }

-- One call on the stream.
pub call_represents : (values : Values) (conn new : Conn) (role : Role)
    (keeps : ℕ → Option Stream) (happened : EndLog) (act : Act) (answer : Answer) (id : ℕ)
    (stream : Stream) (outgoing : Outgoing)
    → RepresentsBy values conn role (keeps_with keeps id stream) happened
    → active happened.log id ≡ true → MayAnswer happened.log act answer
    → ConnRepresents values new (with_call happened.log act answer)
    → ((i : ℕ) → i ≢ id → tokens_of_call i act answer ≡ [])
    → IsOutgoing (end_after_call happened act answer) id outgoing
    → RepresentsBy values new role (keeps_with keeps id (with_outgoing stream outgoing))
    (end_after_call happened act answer)
unfolding IsKept
call_represents values conn new role keeps happened act answer id stream outgoing is alive may
    conn_is others sends =
    let next = with_outgoing stream outgoing in
    let after = end_after_call happened act answer in
    let here : IsStream happened id stream =
    kept_is values conn role (keeps_with keeps id stream) happened id (Some stream) is
    (keeps_here keeps id stream) alive in
    record {
      represents = conn_is;
      same_role = is.same_role ∙ sym (grows_call happened.log act answer).role;
      streams = λ i. elim (cases_eq i id) [
        | inl same ↦ inr (subst (λ (j : ℕ). IsKept after j (keeps_with keeps id next j)) (sym same)
            (subst (λ (x : Option Stream). IsKept after id x) (sym (keeps_here keeps id next))
            (stream_after happened act answer id stream outgoing here sends)))
        | inr other ↦ elim (is.streams i) [
          | inl over ↦ inl (over_by_call happened.log act answer i may over)
          | inr kept ↦ inr (subst (λ (x : Option Stream). IsKept after i x)
              (keeps_other keeps id stream i other ∙ sym (keeps_other keeps id next i other))
              (same_kept happened after i (keeps_with keeps id stream i)
              (same_by_call happened act answer i (others i other)) kept))
        ]
      ];
      sent = λ i. elim (cases_eq i id) [
        | inl same ↦ subst (λ (j : ℕ). SendsInOrder after j) (sym same)
            (sends_of after id outgoing sends)
        | inr other ↦ same_sent happened after i
            (same_by_call happened act answer i (others i other)) (is.sent i)
      ];
    }
