-- How the parts of one of several responses come one after another.
use Rattle.std.proofs.Common.{◌≡◌, ◌<◌, ◌≤◌, ℕ, ◌+◌, ◌-◌, ◌^◌, ◌==◌, Bool, true, false, List, []}
use Rattle.std.proofs.Common.{◌∷◌, ◌++◌, length, take, if◌then◌else◌, Option, Some, None}
use Rattle.std.proofs.Common.{Ok, Err, refl, sym, ap, ◌∙◌, subst, arith, append-nil, append_assoc}
use Rattle.std.proofs.Common.{inr, Vec, Global, length-append}
use Rattle.std.proofs.KnownBytes.{Appends-trans}
use Rattle.std.proofs.Math.Seq.{take-append-add}
use Rattle.std.proofs.lemmas.Bool.{eq-eqb}
use Rattle.std.proofs.lemmas.List.{length-map, map-append}
use Rattle.std.specs.Io.KnownBytes.{Appends}
use Rattle.hpack.specs.declared.types.field.Field.{Field}
use Rattle.h2_spec_log.specs.Acts.{Values, Number, PutOut, Release, ResetStream, Widen}
use Rattle.h2_spec_log.specs.Events.{ResetEvent, UnprocessedEvent}
use Rattle.h2_laws_pair.specs.Tokens.{at_once}
use Rattle.h2_ends.specs.EndCalls.{MayAsk, opened_with}
use Rattle.h2_ends.specs.EndTakes.{EndMayTake}
use Rattle.h2_ends.specs.Ends.{BodyHanded, EndAnswer, EndFailed, EndLog, EndTook, Handed}
use Rattle.h2_ends.specs.Ends.{InterimHanded, Passed}
use Rattle.h2_link.specs.declared.error.LinkError.{LinkError}
use Rattle.h2_link.specs.declared.error.LinkError.TheVariants as errors
use Rattle.h2_engines.specs.Linked.{Traffic}
use Rattle.h2_engines.proofs.LinkInvariants.{CallsKeep, pumped_keeps, released_keeps}
use Rattle.h2_engines.proofs.MachineViews.{all_in_part}
use Rattle.h2_engines.proofs.TakeMessages.{taken_says}
use Rattle.h2_engines.proofs.TurnsPassed.{turns_of_answer, turns_of_call, turns_of_take}
use Rattle.h2_fetch.specs.declared.part.ResponsePart.{ResponsePart}
use Rattle.h2_fetch.specs.declared.connection.Came.TheVariants.{Dropped, Part}
use Rattle.h2_fetch.specs.declared.connection.ClientConnection.{ClientConnection}
use Rattle.h2_fetch.specs.Parts.{handed_of, is_on}
use Rattle.h2_fetch.specs.Several.{AnsweredOn, AnswersNextOn, AreComing, AskedOn, CameSo, DropOn}
use Rattle.h2_fetch.specs.Several.{HaveStopped, IsFetchingSeveral, OnStream, PartOn, all_on, as_on}
use Rattle.h2_fetch.specs.Several.{begins, gives_out, kept_on, pumps, refuses, releases}
use Rattle.h2_fetch.specs.Several.{releases_on, requests, resets, takes, widens}
use Rattle.h2_fetch.proofs.RefusedRequests.{refused_keeps}
use Rattle.h2_get.specs.declared.pass_error.PassError.{PassError}
use Rattle.h2_get.specs.declared.pass_error.PassError.TheVariants as passes
use Rattle.h2_get.specs.declared.pass_error.Passed.TheVariants.{Whole}
use Rattle.h2_get.specs.declared.pass_error.ResponseHead.{ResponseHead}
use Rattle.h2_get.specs.Receives.{EndsBody, HasNoHead, HeadCame, PassesPart, body_handed}
use Rattle.h2_get.specs.Receives.{body_of_part, fields_in_trailers, head_in}
use Rattle.h2_get.specs.Several.{AnswersPartOn, HeadComesOn, HeadOnSo, PartOnSo}
use Rattle.h2_get.specs.Several.{PassedOnSo, PassesBodyOn, StopsOn, all_stop, answered_more}
use Rattle.h2_get.specs.Several.{one_is_dropped, parts_came}
use Rattle.h2_engines.specs.Fetches.{refused_stream}
use Rattle.h2_get.proofs.Receiving.{Written, body_and_one, ends_body, handed_head, writes_one}

-- The same was answered of each stream.
abbrev pub IsSame : (one two : AnsweredOn) → Type 0
IsSame one two = (i : ℕ) → one i ≡ two i

-- A client fetches still where the same was answered.
pub coming_same : {values : Values} {wide : ℕ} {start now : Traffic} {asked : List AskedOn}
    {fetch : ClientConnection} {end : EndLog} {one : AnsweredOn} (two : AnsweredOn) → IsSame one two
    → AreComing values wide start now asked fetch end one
    → AreComing values wide start now asked fetch end two
coming_same {fetch = fetch} two same is =
    record {
      fetching = is.fetching;
      represents = is.represents;
      accepted = is.accepted;
      up = is.up;
      linked = is.linked;
      parts = λ i. is.parts i
          ∙ ap (λ (first : List OnStream). first ++ kept_on i fetch.kept.entries) (same i);
      dropped = is.dropped;
    }

-- So it is where the fetch has ended early.
pub stopped_same : {values : Values} {wide : ℕ} {start now : Traffic} {asked : List AskedOn}
    {fetch : ClientConnection} {end : EndLog} {one : AnsweredOn} {error : LinkError}
    (two : AnsweredOn) → IsSame one two
    → HaveStopped values wide start now asked fetch end one error
    → HaveStopped values wide start now asked fetch end two error
stopped_same {fetch = fetch} two same is =
    record {
      fetching = is.fetching;
      represents = is.represents;
      linked = is.linked;
      lost = is.lost;
      parts = λ i. is.parts i
          ∙ ap (λ (first : List OnStream). first ++ (kept_on i fetch.kept.entries ++ is.lost i))
          (same i);
      all = is.all;
      so = is.so;
    }

-- The same has come of one stream more.
more_same : {one : AnsweredOn} (two : AnsweredOn) → IsSame one two → (id : ℕ)
    (more : List OnStream) → IsSame (answered_more one id more) (answered_more two id more)
more_same two same id more i =
    ap (λ (first : List OnStream). first ++ (if id == i then more else [])) (same i)

pub stops_same : {values : Values} {wide : ℕ} {start now : Traffic} {asked : List AskedOn}
    {fetch : ClientConnection} {id : ℕ} {one : AnsweredOn} {error : LinkError}
    (two : AnsweredOn) → IsSame one two → StopsOn values wide start now asked fetch id one error
    → StopsOn values wide start now asked fetch id two error
stops_same two same (all_stop after stopped) = all_stop after (stopped_same two same stopped)
stops_same {id = id} two same (one_is_dropped after code is coming dropped) =
    one_is_dropped after code is
    (coming_same (answered_more two id (DropOn code ∷ []))
    (more_same two same id (DropOn code ∷ [])) coming) dropped

-- What was answered of a stream one after another was answered together.
join_at : (here : Bool) (before first second : List OnStream)
    → (before ++ (if here then first else [])) ++ (if here then second else [])
    ≡ before ++ (if here then first ++ second else [])
join_at true before first second = append_assoc before first second
join_at false before first second = append-nil (before ++ [])

pub joined : (answered : AnsweredOn) (id : ℕ) (first second : List OnStream)
    → IsSame (answered_more (answered_more answered id first) id second)
    (answered_more answered id (first ++ second))
joined answered id first second i = join_at (id == i) (answered i) first second

-- So it is of parts.
pub parts_joined : (answered : AnsweredOn) (id : ℕ) (first second : List Handed)
    → IsSame (answered_more (answered_more answered id (parts_came first)) id (parts_came second))
    (answered_more answered id (parts_came (first ++ second)))
parts_joined answered id first second i =
    joined answered id (parts_came first) (parts_came second) i
    ∙ ap (λ (more : List OnStream). answered_more answered id more i)
    (sym (map-append PartOn first second))

pub coming_joined : {values : Values} {wide : ℕ} {start now : Traffic} {asked : List AskedOn}
    {fetch : ClientConnection} {end : EndLog} (answered : AnsweredOn) (id : ℕ)
    (first second : List Handed)
    → AreComing values wide start now asked fetch end
    (answered_more (answered_more answered id (parts_came first)) id (parts_came second))
    → AreComing values wide start now asked fetch end
    (answered_more answered id (parts_came (first ++ second)))
coming_joined answered id first second =
    coming_same (answered_more answered id (parts_came (first ++ second)))
    (parts_joined answered id first second)

none_at : (here : Bool) (before : List OnStream) → before ≡ before ++ (if here then [] else [])
none_at true before = sym (append-nil before)
none_at false before = sym (append-nil before)

-- Nothing more was answered.
pub none_answered : (answered : AnsweredOn) (id : ℕ)
    → IsSame answered (answered_more answered id [])
none_answered answered id i = none_at (id == i) (answered i)

-- what was answered of the stream itself
here_answered : (answered : AnsweredOn) (id : ℕ) (more : List OnStream)
    → answered_more answered id more id ≡ answered id ++ more
here_answered answered id more = rw (eq-eqb id id refl) refl

-- No more was handed out than turns have passed.
abbrev IsWithinTurns : EndLog → Type 0
IsWithinTurns end = length end.handed ≤ length end.log.turns

calls_within : CallsKeep IsWithinTurns
calls_within end act answer sends within =
    omega (arith, within, turns_of_call end.log act answer)

take_within : {before after : EndLog} {piece : List ℕ} (answer : EndAnswer)
    → EndMayTake before piece answer after → IsWithinTurns before → IsWithinTurns after
take_within (EndFailed code) may within =
    rw (taken_says may).handed (omega (arith, within, turns_of_answer may))
take_within (EndTook count None) may within =
    rw (taken_says may).handed (omega (arith, within, turns_of_take may))
take_within (EndTook count (Some one)) may within =
    rw (taken_says may).handed (omega (arith, within, turns_of_take may))

handed_within : {values : Values} {wide : ℕ} {asked : List AskedOn} {end : EndLog}
    → IsFetchingSeveral values wide asked end → IsWithinTurns end
unfolding MayAsk
handed_within (begins range) = omega arith
handed_within (requests {end = before} was id message may) =
    rw may.3 (omega (
      arith,
      handed_within was,
      turns_of_call before.log (opened_with (at_once message)) (Number id),
    ))
handed_within (refuses {end = before} {after = after} was message refusal may) =
    refused_keeps IsWithinTurns calls_within before message refusal after may (handed_within was)
handed_within (takes was piece answer may) = take_within answer may (handed_within was)
handed_within (releases {end = before} {after = after} was result may) =
    released_keeps IsWithinTurns calls_within before result after may (handed_within was)
handed_within (releases_on {end = before} was id count answer typed may) =
    omega (arith, handed_within was, turns_of_call before.log (Release id count) answer)
handed_within (pumps {end = before} {after = after} was result may) =
    pumped_keeps IsWithinTurns calls_within before result after may (handed_within was)
handed_within (gives_out {end = before} was count answer typed may) =
    omega (arith, handed_within was, turns_of_call before.log (PutOut count) answer)
handed_within (widens {end = before} was count answer typed may) =
    omega (arith, handed_within was, turns_of_call before.log (Widen count) answer)
handed_within (resets {end = before} was id code answer typed may) =
    omega (arith, handed_within was, turns_of_call before.log (ResetStream id code) answer)

one_at_most : (here : Bool) (one : OnStream) → length (if here then one ∷ [] else []) ≤ 1
one_at_most true one = omega arith
one_at_most false one = omega arith

on_one : (id : ℕ) (one : Handed) → length (as_on id one) ≤ 1
on_one id (InterimHanded i list) = omega arith
on_one id (BodyHanded i [] false) = omega arith
on_one id (BodyHanded i [] true) =
    one_at_most (is_on id (BodyHanded i [] true)) (PartOn (BodyHanded i [] true))
on_one id (BodyHanded i (octet ∷ octets) end) =
    one_at_most (is_on id (BodyHanded i (octet ∷ octets) end))
    (PartOn (BodyHanded i (octet ∷ octets) end))
on_one id (Passed (ResetEvent i code ours)) = one_at_most (i == id) (DropOn code)
on_one id (Passed (UnprocessedEvent i)) = one_at_most (i == id) (DropOn refused_stream)
on_one id one = one_at_most (is_on id one) (PartOn one)

-- Of a stream no more has come than was handed out.
on_at_most : (id : ℕ) (handed : List Handed) → length (all_on id handed) ≤ length handed
unfolding all_on
on_at_most id [] = omega arith
on_at_most id (one ∷ handed) =
    omega (
      arith,
      on_at_most id handed,
      length-append (all_on id handed) (as_on id one),
      on_one id one,
    )

-- No more was answered of a stream than turns have passed.
answered_within : {values : Values} {wide : ℕ} {start now : Traffic} {asked : List AskedOn}
    {fetch : ClientConnection} {end : EndLog} (answered : AnsweredOn) (id : ℕ) (came : List Handed)
    → AreComing values wide start now asked fetch end (answered_more answered id (parts_came came))
    → length came ≤ length end.log.turns
answered_within {fetch = fetch} {end} answered id came is =
    let kept = kept_on id fetch.kept.entries in
    let parts : all_on id end.handed ≡ (answered id ++ parts_came came) ++ kept =
    is.parts id
    ∙ ap (λ (first : List OnStream). first ++ kept)
    (here_answered answered id (parts_came came)) in
    omega (
      arith,
      ap length parts,
      length-append (answered id ++ parts_came came) kept,
      length-append (answered id) (parts_came came),
      length-map came PartOn,
      on_at_most id end.handed,
      handed_within is.fetching,
    )

-- The next part, or how the stream or the fetch has ended.
pub part_comes : (before now : Traffic) (old new : ClientConnection) (id : ℕ) (part : ResponsePart)
    → AnswersNextOn before now old new id (Ok (Part part))
    → AnswersPartOn before now old new id (Ok part)
unfolding CameSo PartOnSo
part_comes before now old new id part answers values wide start asked end answered is =
    let so = answers values wide start asked end answered is in (so.0, so.1)

pub part_dropped : (before now : Traffic) (old new : ClientConnection) (id code : ℕ)
    → AnswersNextOn before now old new id (Ok (Dropped code))
    → AnswersPartOn before now old new id (Err (errors.Reset code))
unfolding CameSo PartOnSo
part_dropped before now old new id code answers values wide start asked end answered is =
    let so = answers values wide start asked end answered is in
    one_is_dropped so.0 code refl so.1 (so.2 code refl)

pub part_stops : (before now : Traffic) (old new : ClientConnection) (id : ℕ) (error : LinkError)
    → AnswersNextOn before now old new id (Err error)
    → AnswersPartOn before now old new id (Err error)
unfolding CameSo PartOnSo
part_stops before now old new id error answers values wide start asked end answered is =
    let so = answers values wide start asked end answered is in all_stop so.0 so.1

-- The client fetches still, and these parts, one in each round, have come of a stream, for which
-- something holds.
pub record IsPassingOn (P : List Handed → Type 0) (values : Values) (wide : ℕ) (start now : Traffic)
    (asked : List AskedOn) (fetch : ClientConnection) (id : ℕ) (answered : AnsweredOn) (rounds : ℕ)
    : Type 0 where
  pub after : EndLog
  pub came : List Handed
  pub coming : AreComing values wide start now asked fetch after
      (answered_more answered id (parts_came came))
  pub holds : P came
  pub count : rounds ≡ length came

-- Whatever had happened at first, it is so now.
abbrev pub PartsOn : (P : List Handed → Type 0) → (before now : Traffic)
    → (old new : ClientConnection) → (id rounds : ℕ) → Type 0
PartsOn P before now old new id rounds =
    (values : Values) (wide : ℕ) (start : Traffic) (asked : List AskedOn) (end : EndLog)
    (answered : AnsweredOn) → AreComing values wide start before asked old end answered
    → IsPassingOn P values wide start now asked new id answered rounds

pub parts_first : (P : List Handed → Type 0) (now : Traffic) (fetch : ClientConnection) (id : ℕ) →
    P []
    → PartsOn P now now fetch fetch id 0
parts_first P now fetch id holds values wide start asked end answered is =
    record {
      after = end;
      came = [];
      coming = coming_same (answered_more answered id []) (none_answered answered id) is;
      holds = holds;
      count = refl;
    }

-- Parts came, something holds for them, and then the response has ended early.
abbrev pub PartsStop : (P : List Handed → Type 0) → (before now : Traffic)
    → (old new : ClientConnection) → (id : ℕ) → LinkError → Type 0
PartsStop P before now old new id error =
    (values : Values) (wide : ℕ) (start : Traffic) (asked : List AskedOn) (end : EndLog)
    (answered : AnsweredOn) → AreComing values wide start before asked old end answered
    → (came : List Handed)
    × StopsOn values wide start now asked new id (answered_more answered id (parts_came came)) error
    × P came

module _ (P : List Handed → Type 0) (before middle now : Traffic) (old self new : ClientConnection)
    (id rounds : ℕ) (on : PartsOn P before middle old self id rounds) where
  -- One part more has come,
  pub parts_one : (Q : List Handed → Type 0) (part : ResponsePart)
      → ((came : List Handed) → P came → Q (came ++ handed_of id part ∷ []))
      → AnswersPartOn middle now self new id (Ok part)
      → PartsOn Q before now old new id (rounds + 1)
  unfolding PartOnSo
  parts_one Q part holds answers values wide start asked end answered is =
      let go = on values wide start asked end answered is in
      let one = handed_of id part in
      let next = answers values wide start asked go.after
      (answered_more answered id (parts_came go.came)) go.coming in
      record {
        after = next.0;
        came = go.came ++ one ∷ [];
        coming = coming_joined answered id go.came (one ∷ []) next.1;
        holds = holds go.came go.holds;
        count = omega (arith, go.count, length-append go.came (one ∷ []));
      }

  -- or the response has ended early.
  pub parts_stop : (error : LinkError) → AnswersPartOn middle now self new id (Err error)
      → PartsStop P before now old new id error
  unfolding PartOnSo
  parts_stop error answers values wide start asked end answered is =
      let go = on values wide start asked end answered is in (
        go.came,
        answers values wide start asked go.after (answered_more answered id (parts_came go.came))
            go.coming,
        go.holds,
      )

-- There were as many rounds as may be.
pub no_part_left : (P : List Handed → Type 0) (before now : Traffic) (old new : ClientConnection)
    (id rounds : ℕ) → 2 ^ 64 - 1 ≤ rounds
    → PartsOn P before now old new id rounds → PartsStop P before now old new id errors.NoProgress
no_part_left P before now old new id rounds all on values wide start asked end answered
    is =
    let go = on values wide start asked end answered is in
    let within = answered_within answered id go.came go.coming in (
      go.came,
      all_stop go.after (record {
        fetching = go.coming.fetching;
        represents = go.coming.represents;
        linked = all_in_part go.coming.linked;
        lost = λ i. [];
        parts = λ i. go.coming.parts i
            ∙ ap (λ (rest : List OnStream). answered_more answered id (parts_came go.came) i
            ++ rest)
            (sym (append-nil (kept_on i new.kept.entries)));
        all = λ other i. refl;
        so = inr (omega (arith, all, go.count, within));
      }),
      go.holds,
    )

-- The head has come,
pub head_comes_on : (before now : Traffic) (old new : ClientConnection) (id rounds : ℕ)
    (head : ResponseHead)
    → PartsOn (λ came. HeadCame id came head) before now old new id rounds
    → HeadComesOn before now old new id (Ok head)
unfolding HeadOnSo
head_comes_on before now old new id rounds head on values wide start asked end answered is =
    let go = on values wide start asked end answered is in
    (go.came, ((go.after, go.coming), go.holds))

pub head_came : (id : ℕ) (part : ResponsePart) (head : ResponseHead) → head_in part ≡ Some head
    → (came : List Handed) → HasNoHead came → HeadCame id (came ++ handed_of id part ∷ []) head
head_came id part head is came none =
    record {
      first = came;
      none = none;
      last = ap (λ (last : Handed). came ++ last ∷ []) (handed_head id part head is);
    }

-- or the response has ended early.
pub head_stops_on : (before now : Traffic) (old new : ClientConnection) (id : ℕ) (error : LinkError)
    → PartsStop HasNoHead before now old new id error
    → HeadComesOn before now old new id (Err error)
unfolding HeadOnSo
head_stops_on before now old new id error stops values wide start asked end answered is =
    let so = stops values wide start asked end answered is in (so.0, (so.1, so.2))

-- The body has ended, and all of it was written;
abbrev pub EndsWritten : (id : ℕ) → (written now : Option (List ℕ)) → Option (Vec Field Global)
    → List Handed → Type 0
EndsWritten id written now trailers came =
    EndsBody id came (fields_in_trailers trailers) × Written written now came

pub ends_written : (id : ℕ) (start written written_now : Option (List ℕ)) (part : ResponsePart)
    (trailers : Option (Vec Field Global))
    → PassesPart part written written_now (Ok (Whole trailers)) → (came : List Handed)
    → Written start written came
    → EndsWritten id start written_now trailers (came ++ handed_of id part ∷ [])
ends_written id start written written_now part trailers passes came all = (
  ends_body id came part trailers passes.1,
  writes_one id start written written_now part passes.0 came all,
)

pub body_whole_on : (before now : Traffic) (old new : ClientConnection) (id rounds : ℕ)
    (written written_now : Option (List ℕ)) (trailers : Option (Vec Field Global))
    → PartsOn (EndsWritten id written written_now trailers) before now old new id rounds
    → PassesBodyOn before now old new id written written_now (Ok trailers)
unfolding PassedOnSo
body_whole_on before now old new id rounds written written_now trailers on values wide start asked
    end answered is =
    let go = on values wide start asked end answered is in
    (go.came, ((go.after, go.coming), go.holds.0, go.holds.1))

-- or only its first octets were written, and then a write has failed,
abbrev pub WritesFirst : (written now : Option (List ℕ)) → List Handed → Type 0
WritesFirst written now came =
    (count : ℕ) × (count < length (body_handed came))
    × Appends written now (take count (body_handed came))

pub writes_first : (id : ℕ) (start written written_now : Option (List ℕ)) (part : ResponsePart)
    (error : PassError) → PassesPart part written written_now (Err error) → (came : List Handed)
    → Written start written came → WritesFirst start written_now (came ++ handed_of id part ∷ [])
writes_first id start written written_now part error passes came all =
    let xs = body_handed came in
    let ys = body_of_part part in
    let count = passes.1.0 in
    let whole = body_and_one id came part in (
      length xs + count,
      rw (whole, length-append xs ys) (omega (arith, passes.1.1)),
      subst (λ (body : List ℕ). Appends start written_now (take (length xs + count) body))
          (sym whole)
          (subst (Appends start written_now) (sym (take-append-add xs ys count))
          (Appends-trans start written written_now _ _ all passes.1.2)),
    )

pub body_first_on : (before now : Traffic) (old new : ClientConnection) (id rounds : ℕ)
    (written written_now : Option (List ℕ))
    → PartsOn (WritesFirst written written_now) before now old new id rounds
    → PassesBodyOn before now old new id written written_now (Err passes.Output)
unfolding PassedOnSo
body_first_on before now old new id rounds written written_now on values wide start asked end
    answered is =
    let go = on values wide start asked end answered is in
    (go.came, ((go.after, go.coming), go.holds))

-- or the response has ended early.
pub body_stops_on : (before now : Traffic) (old new : ClientConnection) (id : ℕ)
    (start written : Option (List ℕ)) (error : LinkError)
    → PartsStop (Written start written) before now old new id error
    → PassesBodyOn before now old new id start written (Err (passes.Link error))
unfolding PassedOnSo
body_stops_on before now old new id start written error stops values wide first asked end answered
    is =
    let so = stops values wide first asked end answered is in (so.0, (so.1, so.2))
