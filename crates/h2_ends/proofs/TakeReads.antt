-- A part of a message that an end reads.
use Rattle.h2_ends.proofs.Names
use Names.{◌≡◌, ℕ, Bool, true, false, if◌then◌else◌, List, [], ◌∷◌, ◌++◌, Option, Some, None, refl}
use Names.{sym, ap, subst, ◌∙◌, inl, inr, cases_eq, Field, Role, Client, Server, Values, is_server}
use Names.{Place, Reads, Requests, Responses, Reading, Said, Part, FieldsPart, OctetsPart}
use Names.{Follows, End, Stream, EndLog, said_for, parts_on, tokens_of_part, IsReadableWith}
use Names.{RepresentsMessages, RepresentsBut, IsStream, IsUntouched, KeepsActive, kept_at}
use Names.{outgoing_in, IsReadOn, MustRefuse, end_with_part, KeepsOne, reads_on, asked_head}
use Names.{IsKept, ReadsFields, ReadsData, reads_of_new, Ok, Err, IsReadable, place_after}
use Rattle.h2_message.specs.Reading.{trailers_parts, ended, message_parts, final_parts}
use Rattle.h2_message.specs.Phases.{FollowsFields, FollowsData, phase_after_all}
use Rattle.h2_message.specs.Broken.{broken_after, broken_in, rules_of_part}
use Rattle.h2_message.specs.Messages.{first_broken}
use Rattle.h2_message.specs.declared.malformed.Malformed.{Malformed}
use Rattle.h2_message.specs.declared.malformed.Malformed.TheVariants.{BadOrder}
use Rattle.std.proofs.Common.{map as each}
use Rattle.h2_ends.proofs.EndSteps.{kept}
use Rattle.h2_ends.proofs.InSteps.{represents_all}
use Rattle.h2_ends.proofs.TakeInStep.{part_but}
use Rattle.h2_ends.specs.declared.outgoing.Outgoing.TheVariants as outgoings
use Rattle.h2_ends.specs.declared.taking.Unread.TheVariants as unreads

-- A stream of which this is kept.
stream_of : (values : Values) (end : End) (happened : EndLog) (id : ℕ) (part : Part × Bool)
    (stream : Stream) → IsReadOn values end happened id part → kept end id ≡ Some stream
    → IsStream happened id stream
unfolding IsKept
stream_of values end happened id part stream is found = subst (IsKept happened id) found is.kept

untouched : (values : Values) (end : End) (happened : EndLog) (id : ℕ) (part : Part × Bool)
    → IsReadOn values end happened id part → kept end id ≡ None → IsUntouched happened id
unfolding IsKept
untouched values end happened id part is found = subst (IsKept happened id) found is.kept

-- An end that keeps the same represents the same.
streams_alike : (values : Values) (end new : End) (happened : EndLog)
    → RepresentsMessages values end happened → new.conn ≡ end.conn → new.role ≡ end.role
    → ((i : ℕ) → kept new i ≡ kept end i) → RepresentsMessages values new happened
streams_alike values end new happened is conn role alike =
    record {
      conn = rw conn is.conn;
      role = role ∙ is.role;
      streams = λ i. rw (alike i) (is.streams i);
      sent = is.sent;
    }

-- Where it doesn't hand out the part that has come, the stream is to be refused.
must_refuse : (values : Values) (end new : End) (happened : EndLog) (id : ℕ) (part : Part × Bool)
    → IsReadOn values end happened id part → new.conn ≡ end.conn → new.role ≡ end.role
    → new.spans ≡ end.spans → ((i : ℕ) → kept new i ≡ kept end i)
    → MustRefuse values new happened id
must_refuse values end new happened id part is conn role waiting alike =
    record {
      streams = streams_alike values end new happened is.streams conn role alike;
      others = record {
        others = λ i other. rw (alike i, waiting) (is.others.others i other);
        active = λ i other. rw (alike i) (is.others.active i other);
        within = rw (alike id, waiting) is.others.within;
        owes = rw waiting is.others.owes;
        turn = rw waiting is.others.turn;
        malformed = rw waiting is.others.malformed;
      };
      was_used = is.was_used;
      prefix = (tokens_of_part part, is.heard);
    }

-- A part is read and handed out, and of its stream something may be kept that the part has closed.
abbrev pub IsReadBut : Values → EndLog → ℕ → (Part × Bool) → End → Type 0
IsReadBut values happened id part new =
    IsReadableWith happened id part
    × RepresentsBut values new (end_with_part happened id part) id
    × (part.1 ≡ false → KeepsActive happened.log (kept new id) id)

-- What is kept of the stream with another reading.
abbrev pub with_reading : Stream → Reading → Stream
with_reading stream reading = record stream { reading = reading }

-- The same reading again.
same_again : (end new : End) (id : ℕ) (stream : Stream) (reading : Reading)
    → kept end id ≡ Some stream → reading ≡ stream.reading
    → KeepsOne end new id (Some (with_reading stream reading)) → (i : ℕ)
    → kept new i ≡ kept end i
same_again end new id stream reading found same keeps i = elim (cases_eq i id) [
  | inl here ↦ rw here
      (keeps.one ∙ ap (λ (one : Reading). Some (with_reading stream one)) same ∙ sym found)
  | inr other ↦ keeps.others i other
]

module _ (values : Values) (end new : End) (happened : EndLog) (id : ℕ) (last : Bool)
    (stream : Stream) (reading : Reading) (found : kept end id ≡ Some stream)
    (keeps : KeepsOne end new id (Some (with_reading stream reading)))
    (conn : new.conn ≡ end.conn) (role : new.role ≡ end.role) (waiting : new.spans ≡ end.spans)
  where
    -- A part is read by the reading that is kept,
    part_taken : (part : Part × Bool) → IsReadOn values end happened id part
        → Follows (reads_on happened id) (parts_on id happened.handed ++ part ∷ []) reading
        → IsReadBut values happened id part new
    part_taken part is more = (
      more.readable,
      part_but values end new happened id part (with_reading stream reading) is more
          (sym (ap outgoing_in found)) keeps conn role waiting,
      λ last some. is.goes_on last
          (λ none. let wrong : Some stream ≡ None = sym found ∙ none in cc),
    )

    -- or it isn't.
    part_refused : (part : Part × Bool) → IsReadOn values end happened id part
        → reading ≡ stream.reading → MustRefuse values new happened id
    part_refused part is same =
        must_refuse values end new happened id part is conn role waiting
        (same_again end new id stream reading found same keeps)

    -- So it is with a field block,
    pub fields_taken : (list : List Field) (place : Place)
        → IsReadOn values end happened id (FieldsPart list, last)
        → ((reads : Reads) (parts : List (Part × Bool)) → Follows reads parts stream.reading
        → FollowsFields reads parts list last (Some place) stream.reading reading)
        → IsReadBut values happened id (FieldsPart list, last) new
        × (place ≡ place_after (reads_on happened id) (parts_on id happened.handed) list)
    unfolding FollowsFields
    fields_taken list place is follows =
        let now = stream_of values end happened id _ stream is found in
        let more = follows (reads_on happened id) (parts_on id happened.handed) now.reading in
        (part_taken _ is more.0, more.1)

    pub fields_refused : (list : List Field) (rule : Option Malformed)
        → IsReadOn values end happened id (FieldsPart list, last)
        → ((reads : Reads) (parts : List (Part × Bool)) → Follows reads parts stream.reading
        → FollowsFields reads parts list last None stream.reading reading)
        → ((reads : Reads) (parts : List (Part × Bool)) → Follows reads parts reading
        → rule ≡ broken_after reads parts (FieldsPart list, last))
        → ReadsFields values happened id list last (Err (unreads.Malformed rule)) new
    unfolding ReadsFields FollowsFields
    fields_refused list rule is follows named =
        let reads = reads_on happened id in
        let parts = parts_on id happened.handed in
        let now = stream_of values end happened id _ stream is found in
        let more = follows reads parts now.reading in
        ((more.0, part_refused _ is more.1), named reads parts (rw more.1 now.reading))

    -- and with octets of a body.
    pub data_taken : (octets : List ℕ) → IsReadOn values end happened id (OctetsPart octets, last)
        → ((reads : Reads) (parts : List (Part × Bool)) → Follows reads parts stream.reading
        → FollowsData reads parts octets last true stream.reading reading)
        → IsReadBut values happened id (OctetsPart octets, last) new
    unfolding FollowsData
    data_taken octets is follows =
        let now = stream_of values end happened id _ stream is found in
        part_taken _ is (follows (reads_on happened id) (parts_on id happened.handed) now.reading)

    pub data_refused : (octets : List ℕ) (rule : Option Malformed)
        → IsReadOn values end happened id (OctetsPart octets, last)
        → ((reads : Reads) (parts : List (Part × Bool)) → Follows reads parts stream.reading
        → FollowsData reads parts octets last false stream.reading reading)
        → ((reads : Reads) (parts : List (Part × Bool)) → Follows reads parts reading
        → rule ≡ broken_after reads parts (OctetsPart octets, last))
        → ReadsData values happened id octets last (Err (unreads.Malformed rule)) new
    unfolding ReadsData FollowsData
    data_refused octets rule is follows named =
        let reads = reads_on happened id in
        let parts = parts_on id happened.handed in
        let now = stream_of values end happened id _ stream is found in
        let more = follows reads parts now.reading in
        ((more.0, part_refused _ is more.1), named reads parts (rw more.1 now.reading))

-- What is read on a stream on which nothing has happened.
reads_by : (role : Role) (given : Option Said) → given ≡ None
    → (if is_server role then Requests else Responses (asked_head given)) ≡ reads_of_new role
unfolding asked_head
reads_by Client given none = rw none refl
reads_by Server given none = refl

reads_first : (values : Values) (end : End) (happened : EndLog) (id : ℕ)
    → RepresentsMessages values end happened → IsUntouched happened id
    → reads_of_new end.role ≡ reads_on happened id
unfolding reads_on
reads_first values end happened id is none =
    rw is.role (sym (reads_by happened.log.role (said_for id happened.accepted) none.unsaid))

-- A new reading follows what was read of it.
follows_first : (values : Values) (end : End) (happened : EndLog) (id : ℕ) (part : Part × Bool)
    (reading : Reading) → IsReadOn values end happened id part → kept end id ≡ None
    → Follows (reads_of_new end.role) [] reading
    → Follows (reads_on happened id) (parts_on id happened.handed) reading
follows_first values end happened id part reading is found follows =
    let none = untouched values end happened id part is found in
    rw (none.unread, ← reads_first values end happened id is.streams none) follows

-- The first field block of a stream.
abbrev pub first_stream : Reading → Stream
first_stream reading = record { reading = reading; outgoing = outgoings.NotGiven }

module _ (values : Values) (end : End) (happened : EndLog) (id : ℕ) (list : List Field)
    (last : Bool) (old reading : Reading)
    (is : IsReadOn values end happened id (FieldsPart list, last)) (found : kept end id ≡ None)
    (start : Follows (reads_of_new end.role) [] old) where
  -- what a new reading makes of it
  abbrev pub ReadsFirst : Option Place → Type 0
  ReadsFirst result =
      (reads : Reads) (parts : List (Part × Bool)) → Follows reads parts old
      → FollowsFields reads parts list last result old reading

  pub first_taken : (new : End) (place : Place) → ReadsFirst (Some place)
      → KeepsOne end new id (Some (first_stream reading)) → new.conn ≡ end.conn
      → new.role ≡ end.role → new.spans ≡ end.spans
      → ReadsFields values happened id list last (Ok place) new
  unfolding ReadsFields FollowsFields
  first_taken new place follows keeps conn role waiting =
      let part : Part × Bool = (FieldsPart list, last) in
      let now = follows_first values end happened id part old is found start in
      let more = follows (reads_on happened id) (parts_on id happened.handed) now in (
        (
          more.0.readable,
          represents_all values new (end_with_part happened id part) id
              (part_but values end new happened id part (first_stream reading) is more.0
              (sym (ap outgoing_in found)) keeps conn role waiting)
              (λ some. (is.first found).1),
        ),
        more.1,
      )

  pub first_refused : (rule : Option Malformed) → ReadsFirst None
      → ((reads : Reads) (parts : List (Part × Bool)) → Follows reads parts reading
      → rule ≡ broken_after reads parts (FieldsPart list, last))
      → ReadsFields values happened id list last (Err (unreads.Malformed rule)) end
  unfolding ReadsFields FollowsFields
  first_refused rule follows named =
      let part : Part × Bool = (FieldsPart list, last) in
      let reads = reads_on happened id in
      let parts = parts_on id happened.handed in
      let now = follows_first values end happened id part old is found start in
      let more = follows reads parts now in (
        (more.0, must_refuse values end end happened id part is refl refl refl (λ i. refl)),
        named reads parts (rw more.1 now),
      )

  -- Memory was refused to a field block that could be read.
  pub first_lacks : (new : End) (place : Place) → ReadsFirst (Some place)
      → new.conn ≡ end.conn → new.role ≡ end.role → new.spans ≡ end.spans
      → new.streams.entries ≡ end.streams.entries
      → ReadsFields values happened id list last (Err unreads.OutOfMemory) new
  unfolding ReadsFields FollowsFields
  first_lacks new place follows conn role waiting same =
      let part : Part × Bool = (FieldsPart list, last) in
      let now = follows_first values end happened id part old is found start in
      let more = follows (reads_on happened id) (parts_on id happened.handed) now in (
        more.0.readable,
        must_refuse values end new happened id part is conn role waiting
            (λ i. ap (kept_at i) same),
        (is.first found).0,
        (untouched values end happened id part is found).unread,
      )

-- the first part
abbrev first_part : List (Part × Bool) → Option Part
first_part [] = None
first_part (part ∷ parts) = Some part.0

-- No message begins with octets of a body.
not_octets : (first : Part × Bool) (rest : List (Part × Bool)) (head : List Field)
    (octets : List ℕ) (last : Bool) (more : List (Part × Bool)) → first.0 ≡ FieldsPart head
    → first ∷ rest ≡ (OctetsPart octets, last) ∷ more → ⊥
not_octets first rest head octets last more fields is =
    let one : Some first.0 ≡ Some (OctetsPart octets) = ap first_part is in absurd (cc)

begins_with_fields : (interims : List (List Field)) (head : List Field) (rest : List Part)
    (octets : List ℕ) (last : Bool) (more : List (Part × Bool))
    → each (λ (fields : List Field). (FieldsPart fields, false)) interims
    ++ ended (FieldsPart head ∷ rest) ≡ (OctetsPart octets, last) ∷ more → ⊥
unfolding ended
begins_with_fields [] head [] octets last more is =
    not_octets (FieldsPart head, true) [] head octets last more refl is
begins_with_fields [] head (next ∷ rest) octets last more is =
    not_octets (FieldsPart head, false) (ended (next ∷ rest)) head octets last more refl is
begins_with_fields (interim ∷ interims) head rest octets last more is =
    not_octets (FieldsPart interim, false) _ interim octets last more refl is

no_data_first : (reads : Reads) (octets : List ℕ) (last : Bool)
    → IsReadable reads ((OctetsPart octets, last) ∷ []) → ⊥
unfolding message_parts final_parts
no_data_first reads octets last is =
    begins_with_fields is.message.interims is.message.head
    (each OctetsPart is.message.data_parts ++ trailers_parts is.message.trailers) octets last
    is.more is.begins

pub first_data : (values : Values) (end : End) (happened : EndLog) (id : ℕ)
    (octets : List ℕ) (last : Bool)
    → IsReadOn values end happened id (OctetsPart octets, last) → kept end id ≡ None
    → ReadsData values happened id octets last (Err (unreads.Malformed (Some BadOrder))) end
unfolding ReadsData broken_in rules_of_part first_broken phase_after_all
first_data values end happened id octets last is found =
    let part : Part × Bool = (OctetsPart octets, last) in
    let none = untouched values end happened id part is found in (
      (
        λ goes. no_data_first (reads_on happened id) octets last (rw none.unread at goes),
        must_refuse values end end happened id part is refl refl refl (λ i. refl),
      ),
      rw none.unread refl,
    )
