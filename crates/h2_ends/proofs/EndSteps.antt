-- What a step leaves of what an end represents: each stream but the one that it is of.
use Rattle.h2_ends.proofs.Names
use Names.{◌≡◌, ◌≢◌, ◌⊎◌, ℕ, Bool, true, false, List, [], ◌∷◌, ◌++◌, Option, Some, None, refl, sym}
use Names.{ap, ◌∙◌, inl, inr, append-nil, cases_eq, Values, Act, Answer, Event, Log, active}
use Names.{MayAnswer, with_call, TakeAnswer, MayTake, IsOver, is_number_used, ConnRepresents}
use Names.{Said, Part, Follows, tokens_of_call, tokens_sent, End, Outgoing, Stream, EndLog}
use Names.{Passed, said_for, handed_as, Handed, tokens_out, end_with_log, end_with_handed}
use Names.{RepresentsMessages, SendsInOrder, kept_at, outgoing_in, KeepsOne, over_by_call}
use Names.{used_by_call, grows_call, parts_on, part_on, reads_on, IsKept, IsOutgoing}
use Rattle.h2_laws_end.proofs.OverReads.{over_by_take, used_by_take}
use Rattle.h2_ends.proofs.EndTokens.{call_adds_none, take_calls}
use Rattle.h2_laws_pair.proofs.StepUnprocessed.{role_by_take as take_role}
use Rattle.h2_ends.proofs.EndParts.{handed_elsewhere, handed_here}
use Rattle.h2_ends.specs.declared.outgoing.Outgoing.TheVariants as outgoings

-- what an end keeps of a stream
abbrev pub kept : End → ℕ → Option Stream
kept end i = kept_at i end.streams.entries

-- Of a stream the same was given, sent and handed out, and it is still used.
pub record IsSame (old new : EndLog) (i : ℕ) : Type 0 where
  pub handed : parts_on i new.handed ≡ parts_on i old.handed
  pub accepted : said_for i new.accepted ≡ said_for i old.accepted
  pub sent : tokens_out new i ≡ tokens_out old i
  pub role : new.log.role ≡ old.log.role
  pub used_still : is_number_used old.log i ≡ true → is_number_used new.log i ≡ true

-- Then the same is read on it, sent of it and kept of it.
pub same_reads : (old new : EndLog) (i : ℕ) → IsSame old new i → reads_on new i ≡ reads_on old i
unfolding reads_on
same_reads old new i same = rw (same.role, same.accepted) refl

pub same_outgoing : (old new : EndLog) (i : ℕ) (outgoing : Outgoing) → IsSame old new i
    → IsOutgoing old i outgoing → IsOutgoing new i outgoing
unfolding IsOutgoing
same_outgoing old new i outgoings.NotGiven same is =
    (same.accepted ∙ is.0, same.sent ∙ is.1)
same_outgoing old new i (outgoings.Open rest) same is =
    record {
      said = is.said;
      number = is.number;
      accepted = same.accepted ∙ is.accepted;
      form = is.form;
      bare = is.bare;
      out = is.out ∙ sym same.sent;
      left = is.left;
    }
same_outgoing old new i (outgoings.Waiting waiting) same is =
    record {
      said = is.said;
      accepted = same.accepted ∙ is.accepted;
      whole = is.whole;
      rest = rw same.sent is.rest;
      begun = rw same.sent is.begun;
      some = is.some;
      fits = is.fits;
    }
same_outgoing old new i outgoings.Sent same is =
    record {
      said = is.said;
      accepted = same.accepted ∙ is.accepted;
      whole = is.whole;
      out = is.out ∙ sym same.sent;
    }

pub same_kept : (old new : EndLog) (i : ℕ) (stream : Option Stream) → IsSame old new i
    → IsKept old i stream → IsKept new i stream
unfolding IsKept
same_kept old new i None same is =
    record {
      unread = same.handed ∙ is.unread;
      unsaid = same.accepted ∙ is.unsaid;
      unsent = same.sent ∙ is.unsent;
    }
same_kept old new i (Some stream) same is =
    record {
      was_used = same.used_still is.was_used;
      reading = rw (same_reads old new i same, same.handed) is.reading;
      outgoing = same_outgoing old new i stream.outgoing same is.outgoing;
      asked = rw (same.role, same.handed) is.asked;
    }

pub same_sent : (old new : EndLog) (i : ℕ) → IsSame old new i → SendsInOrder old i
    → SendsInOrder new i
same_sent old new i same is =
    record {
      waiting = is.waiting;
      prefix = rw (same.sent, same.accepted) is.prefix;
      begun = rw (same.sent, same.accepted) is.begun;
    }

-- What is the same of all streams is kept.
pub all_same : (values : Values) (end new : End) (old happened : EndLog)
    → RepresentsMessages values end old → ConnRepresents values new.conn happened.log
    → new.role ≡ end.role → new.streams ≡ end.streams
    → ((i : ℕ) → IsOver old.log i → IsOver happened.log i) → ((i : ℕ) → IsSame old happened i)
    → RepresentsMessages values new happened
all_same values end new old happened is conn role streams over same =
    record {
      conn = conn;
      role = role ∙ is.role ∙ sym (same 0).role;
      streams = λ i. rw streams (elim (is.streams i) [
        | inl past ↦ inl (over i past)
        | inr kept ↦ inr (same_kept old happened i _ (same i) kept)
      ]);
      sent = λ i. same_sent old happened i (same i) (is.sent i);
    }

-- So is what is the same of all but one, where that is over or this is kept of it.
pub most_same : (values : Values) (end new : End) (old happened : EndLog) (id : ℕ)
    (stream : Option Stream) → RepresentsMessages values end old
    → ConnRepresents values new.conn happened.log → new.role ≡ end.role
    → happened.log.role ≡ old.log.role → KeepsOne end new id stream
    → ((i : ℕ) → IsOver old.log i → IsOver happened.log i)
    → ((i : ℕ) → i ≢ id → IsSame old happened i)
    → IsOver happened.log id ⊎ IsKept happened id stream
    → SendsInOrder happened id → RepresentsMessages values new happened
most_same values end new old happened id stream is conn role same_role keeps over same one sent =
    record {
      conn = conn;
      role = role ∙ is.role ∙ sym same_role;
      streams = λ i. elim (cases_eq i id) [
        | inl here ↦ rw (here, keeps.one) one
        | inr other ↦ rw (keeps.others i other) (elim (is.streams i) [
          | inl past ↦ inl (over i past)
          | inr kept ↦ inr (same_kept old happened i _ (same i other) kept)
        ])
      ];
      sent = λ i. elim (cases_eq i id) [
        | inl here ↦ rw here sent
        | inr other ↦ same_sent old happened i (same i other) (is.sent i)
      ];
    }

-- what has happened after a call of the connection, where these messages are accepted
abbrev pub called_end : EndLog → Act → Answer → List (ℕ × Said) → EndLog
called_end happened act answer accepted = record happened {
  log = with_call happened.log act answer;
  accepted = accepted;
}

module _ (values : Values) (end new : End) (happened : EndLog) (act : Act) (answer : Answer) where
  -- A call that sends tokens on one stream at most leaves all that is kept of the others.
  pub stepped : (id : ℕ) (stream : Option Stream) (accepted : List (ℕ × Said))
      → RepresentsMessages values end happened → MayAnswer happened.log act answer
      → ConnRepresents values new.conn (with_call happened.log act answer) → new.role ≡ end.role
      → KeepsOne end new id stream → ((i : ℕ) → i ≢ id → tokens_of_call i act answer ≡ [])
      → ((i : ℕ) → i ≢ id → said_for i accepted ≡ said_for i happened.accepted)
      → IsOver (with_call happened.log act answer) id
      ⊎ IsKept (called_end happened act answer accepted) id stream
      → SendsInOrder (called_end happened act answer accepted) id
      → RepresentsMessages values new (called_end happened act answer accepted)
  stepped id stream accepted is may conn role keeps none given one
      sent =
      most_same values end new happened (called_end happened act answer accepted) id stream is conn
      role (grows_call happened.log act answer).role keeps
      (λ i past. over_by_call happened.log act answer i may past)
      (λ i other. record {
        handed = refl;
        accepted = given i other;
        sent = call_adds_none i happened.log act answer (none i other);
        role = (grows_call happened.log act answer).role;
        used_still = used_by_call happened.log act answer i;
      }) one sent

  -- A call that sends no token leaves all that is kept.
  pub quiet_call : RepresentsMessages values end happened → MayAnswer happened.log act answer
      → ConnRepresents values new.conn (with_call happened.log act answer) → new.role ≡ end.role
      → new.streams ≡ end.streams → ((i : ℕ) → tokens_of_call i act answer ≡ [])
      → RepresentsMessages values new (end_with_log happened (with_call happened.log act answer))
  quiet_call is may conn role streams none =
      all_same values end new happened (end_with_log happened (with_call happened.log act answer))
      is conn role streams (λ i past. over_by_call happened.log act answer i may past)
      (λ i. record {
        handed = refl;
        accepted = refl;
        sent = call_adds_none i happened.log act answer (none i);
        role = (grows_call happened.log act answer).role;
        used_still = used_by_call happened.log act answer i;
      })

-- Nothing has happened.
pub same_itself : (happened : EndLog) (i : ℕ) → IsSame happened happened i
same_itself happened i =
    record {
      handed = refl;
      accepted = refl;
      sent = refl;
      role = refl;
      used_still = λ is. is;
    }

-- A stream that isn't active is over, or nothing was kept of it.
pub over_or_none : (happened : EndLog) (id : ℕ) (stream : Option Stream)
    → active happened.log id ≡ false → IsOver happened.log id ⊎ IsKept happened id stream
    → IsOver happened.log id ⊎ IsKept happened id None
unfolding IsKept
over_or_none happened id stream still (inl past) = inl past
over_or_none happened id None still (inr kept) = inr kept
over_or_none happened id (Some stream) still (inr kept) =
    inl (record { was_used = kept.was_used; not_active = still })

-- A stream that isn't active may be forgotten.
pub forgotten : (values : Values) (end new : End) (happened : EndLog) (id : ℕ)
    → RepresentsMessages values end happened → active happened.log id ≡ false → new.conn ≡ end.conn
    → new.role ≡ end.role → KeepsOne end new id None → RepresentsMessages values new happened
forgotten values end new happened id is still conn role keeps =
    most_same values end new happened happened id None is (rw conn is.conn) role refl keeps
    (λ i past. past) (λ i other. same_itself happened i)
    (over_or_none happened id (kept end id) still (is.streams id)) (is.sent id)

-- Taking octets leaves what is the same of each stream.
pub same_taken : (happened : EndLog) (piece : List ℕ) (answer : TakeAnswer) (log : Log) (i : ℕ)
    → MayTake happened.log piece answer log → IsSame happened (end_with_log happened log) i
same_taken happened piece answer log i may =
    record {
      handed = refl;
      accepted = refl;
      sent = ap (tokens_sent i) (take_calls happened.log log piece answer may);
      role = take_role happened.log log piece answer may;
      used_still = used_by_take happened.log log piece answer i may;
    }

-- So what is kept of a stream is, also where it is over then.
pub taken_kept : (happened : EndLog) (piece : List ℕ) (answer : TakeAnswer) (log : Log) (i : ℕ)
    (stream : Option Stream) → MayTake happened.log piece answer log
    → IsOver happened.log i ⊎ IsKept happened i stream
    → IsOver happened.log i ⊎ IsKept (end_with_log happened log) i stream
taken_kept happened piece answer log i stream may (inl past) = inl past
taken_kept happened piece answer log i stream may (inr kept) =
    inr (same_kept happened (end_with_log happened log) i stream
    (same_taken happened piece answer log i may) kept)

-- Taking octets leaves all that is kept.
pub taken : (values : Values) (end new : End) (happened : EndLog) (piece : List ℕ)
    (answer : TakeAnswer) (log : Log) → RepresentsMessages values end happened
    → MayTake happened.log piece answer log → ConnRepresents values new.conn log
    → new.role ≡ end.role → new.streams ≡ end.streams
    → RepresentsMessages values new (end_with_log happened log)
taken values end new happened piece answer log is may conn role streams =
    all_same values end new happened (end_with_log happened log) is conn role streams
    (λ i past. over_by_take happened.log log piece answer i may past)
    (λ i. same_taken happened piece answer log i may)

-- Something is handed out that is no part of the message of a stream.
pub same_handed : (happened : EndLog) (handed : Handed) (i : ℕ) → part_on i handed ≡ []
    → IsSame happened (end_with_handed happened happened.log handed) i
unfolding parts_on
same_handed happened handed i none =
    record {
      handed = ap (λ (more : List (Part × Bool)). parts_on i happened.handed ++ more) none
          ∙ append-nil (parts_on i happened.handed);
      accepted = refl;
      sent = refl;
      role = refl;
      used_still = λ is. is;
    }

-- What is passed on is no part of a message.
pub passed_none : (i : ℕ) (event : Event) → part_on i (Passed event) ≡ []
unfolding part_on
passed_none i event = refl

-- What is no part of a message may be handed out.
pub passed_on : (values : Values) (end : End) (happened : EndLog) (event : Event)
    → RepresentsMessages values end happened
    → RepresentsMessages values end (end_with_handed happened happened.log (Passed event))
passed_on values end happened event is =
    all_same values end end happened
    (end_with_handed happened happened.log (Passed event)) is is.conn refl refl (λ i past. past)
    (λ i. same_handed happened (Passed event) i (passed_none i event))

-- What is kept of the message that is sent on a stream.
pub outgoing_kept : (happened : EndLog) (id : ℕ) (stream : Option Stream)
    → IsKept happened id stream → IsOutgoing happened id (outgoing_in stream)
unfolding IsKept IsOutgoing
outgoing_kept happened id None kept = (kept.unsaid, kept.unsent)
outgoing_kept happened id (Some stream) kept = kept.outgoing

module _ (happened : EndLog) (handed : Handed) (id : ℕ) where
  -- What is sent is the same, whatever is handed out.
  pub outgoing_handed : (outgoing : Outgoing) → IsOutgoing happened id outgoing
      → IsOutgoing (end_with_handed happened happened.log handed) id outgoing
  unfolding IsOutgoing
  outgoing_handed outgoings.NotGiven is = is
  outgoing_handed (outgoings.Open rest) is =
      record {
        said = is.said;
        number = is.number;
        accepted = is.accepted;
        form = is.form;
        bare = is.bare;
        out = is.out;
        left = is.left;
      }
  outgoing_handed (outgoings.Waiting waiting) is =
      record {
        said = is.said;
        accepted = is.accepted;
        whole = is.whole;
        rest = is.rest;
        begun = is.begun;
        some = is.some;
        fits = is.fits;
      }
  outgoing_handed outgoings.Sent is =
      record { said = is.said; accepted = is.accepted; whole = is.whole; out = is.out }

  -- So is how it is sent, and what is read.
  pub sent_handed : SendsInOrder happened id
      → SendsInOrder (end_with_handed happened happened.log handed) id
  sent_handed is = record { waiting = is.waiting; prefix = is.prefix; begun = is.begun }

  pub reads_handed : reads_on (end_with_handed happened happened.log handed) id ≡ reads_on happened
      id
  unfolding reads_on
  reads_handed = refl

  -- The part follows those that were handed out before.
  pub parts_handed : (part : Part × Bool) → part_on id handed ≡ part ∷ []
      → parts_on id (handed ∷ happened.handed) ≡ parts_on id happened.handed ++ part ∷ []
  unfolding parts_on
  parts_handed part is = ap (λ (more : List (Part × Bool)). parts_on id happened.handed ++ more) is

-- Parts with one more are some.
pub not_empty : (parts : List (Part × Bool)) (part : Part × Bool) → parts ++ part ∷ [] ≢ []
not_empty [] part is = cc
not_empty (first ∷ parts) part is = cc

-- This is kept of a stream once a part of its message is handed out.
pub kept_handed : (happened : EndLog) (handed : Handed) (id : ℕ) (part : Part × Bool)
    (stream : Stream) → part_on id handed ≡ part ∷ [] → is_number_used happened.log id ≡ true
    → Follows (reads_on happened id) (parts_on id happened.handed ++ part ∷ []) stream.reading
    → IsOutgoing happened id stream.outgoing
    → IsKept (end_with_handed happened happened.log handed) id (Some stream)
unfolding IsKept
kept_handed happened handed id part stream here was follows outgoing =
    let parts = parts_handed happened handed id part here in
    record {
      was_used = was;
      reading = rw (reads_handed happened handed id, parts) follows;
      outgoing = outgoing_handed happened handed id stream.outgoing outgoing;
      asked = λ server none. not_empty (parts_on id happened.handed) part (sym parts ∙ none);
    }

-- A part of a message that a reading has taken may be handed out, also where that has ended the
-- stream.
pub handed_on : (values : Values) (end new : End) (happened : EndLog) (id : ℕ)
    (part : Part × Bool) (stream : Stream) → RepresentsMessages values end happened
    → IsKept happened id (kept end id) → is_number_used happened.log id ≡ true
    → Follows (reads_on happened id) (parts_on id happened.handed ++ part ∷ []) stream.reading
    → stream.outgoing ≡ outgoing_in (kept end id) → KeepsOne end new id (Some stream)
    → new.conn ≡ end.conn → new.role ≡ end.role
    → RepresentsMessages values new (end_with_handed happened happened.log
    (handed_as (reads_on happened id) (parts_on id happened.handed) id part))
handed_on values end new happened id part stream is keeps_one was follows outgoing keeps conn
    role =
    let reads = reads_on happened id in
    let parts = parts_on id happened.handed in
    let handed = handed_as reads parts id part in
    let sends : IsOutgoing happened id stream.outgoing =
    rw outgoing (outgoing_kept happened id (kept end id) keeps_one) in
    most_same values end new happened (end_with_handed happened happened.log handed) id
    (Some stream) is (rw conn is.conn) role refl keeps (λ i past. past)
    (λ i other. same_handed happened handed i (handed_elsewhere reads parts i id part other))
    (inr (kept_handed happened handed id part stream
    (handed_here reads parts id part stream.reading follows) was follows sends))
    (sent_handed happened handed id (is.sent id))
