-- The loop that sends a message on a stream, whatever had happened in the pump when it began.
use Rattle.h2_ends.proofs.Names
use Names.{◌≡◌, inl, inr, ℕ, ◌+◌, ◌<◌, ◌≤◌, ◌^◌, Bool, true, false, List, length, take, drop}
use Names.{length-drop, ◌-◌, Vec, Global, Option, Some, None, min, refl, sym, ap, ◌∙◌, subst}
use Names.{arith, take-length, AllByRecursion, Field, Role, Refusal, Values, Act, Answer}
use Names.{SendFields, SendData, Count, Done, Refused, Conn, ConnAnswers, Stream, Waiting, Spans}
use Names.{Sent, Stuck, SendState, EndLog, end_after_call, IsStopped, Sends, IsTypedAct, HasGone}
use Names.{StopsBy, not, is_some, is_none, option_map, Result, Ok, IsSendingOn, HasSent}
use Rattle.hpack_text.specs.Bits.{IsOctet}
use Rattle.h2_ends.proofs.PumpCalls.{pump_is_short}
use Rattle.h2_ends.proofs.PumpSends.{IsUnderWay, data_act, data_goes, data_is_stuck}
use Rattle.h2_ends.proofs.PumpSends.{data_is_refused, fields_go, fields_are_refused}
use Rattle.h2_ends.proofs.PumpSends.{ends_or_trailers}
use Rattle.h2_ends.proofs.PumpTokens.{octets_left, sent_more}

-- Whatever had happened when it began, the message is under way or was sent.
abbrev pub IsGoing : (conn : Conn) (id : ℕ) (waits : Waiting) (count : ℕ) (now : Conn)
    (left : Waiting) (sum : ℕ) → Type 0
IsGoing conn id waits count now left sum =
    (values : Values) (start : EndLog) (role : Role) (spans : Spans) (keeps : ℕ → Option Stream)
    (stream : Stream) (happened : EndLog)
    → IsSendingOn values start role spans keeps id stream count conn happened waits
    → (after : EndLog) × IsUnderWay values start role spans keeps id stream sum now after left

pub going_begins : (conn : Conn) (id : ℕ) (waits : Waiting) (count : ℕ)
    → IsGoing conn id waits count conn waits count
going_begins conn id waits count =
    λ values start role spans keeps stream happened is. (happened, inl is)

-- Whether there are no trailers, by the test.
pub none_by : {A : Type 0} → (trailers : Option A) (b : Bool) → is_some trailers ≡ not b
    → b ≡ is_none trailers
none_by None true is = refl
none_by None false is = cc
none_by (Some list) true is = cc
none_by (Some list) false is = refl

-- What the list of the trailers is.
pub fields_are : (trailers : Option (Vec Field Global)) (list : Vec Field Global)
    (fields : List Field) → trailers ≡ Some list → fields ≡ list.items
    → option_map (λ one. one.items) trailers ≡ Some fields
fields_are trailers list fields is items =
    ap (option_map (λ (one : Vec Field Global). one.items)) is ∙ ap Some (sym items)

-- The slice of the body from what was sent on is what is left.
pub rest_is : (left : Waiting) (body : List ℕ) → body ≡ left.body.items
    → take (length body - left.sent) (drop left.sent body) ≡ octets_left left
rest_is left body is =
    subst (λ (n : ℕ). take n (drop left.sent body) ≡ drop left.sent body)
    (length-drop left.sent body) (take-length (drop left.sent body))
    ∙ ap (λ (line : List ℕ). drop left.sent line) is

-- So is what is left of it, where so many octets are sent.
pub left_is : (left : Waiting) (count : ℕ) → count ≡ length left.body.items - left.sent
    → take count (drop left.sent left.body.items) ≡ octets_left left
left_is left count is = ap (λ (n : ℕ). take n (drop left.sent left.body.items)) is
    ∙ rest_is left left.body.items refl

-- How many octets are left.
pub left_size : (left : Waiting) (count : ℕ) → count ≡ length left.body.items
    → count - left.sent ≡ length (octets_left left)
left_size left count is = omega (arith, is, length-drop left.sent left.body.items)

-- So few octets were sent that their sum is exact.
exact : (sum n total : ℕ) → total ≡ min (sum + n) 18446744073709551615 → sum + n ≤ 262161
    → sum + n ≡ total
exact sum n total is few = omega (arith, is, few)

-- Numbers of streams and octets are those of their types.
pub typed_data : (id : ℕ) (octets : List ℕ) (end : Bool) → id < 2 ^ 32
    → AllByRecursion IsOctet octets → IsTypedAct (SendData id octets end)
unfolding IsTypedAct
typed_data id octets end low are = (low, are)

module _ (values : Values) (start : EndLog) (role : Role) (spans : Spans)
    (keeps : ℕ → Option Stream) (id : ℕ) (stream : Stream) (sum : ℕ) (now : Conn) (after : EndLog)
    (left : Waiting) where
  -- Octets are left, so it is under way.
  has_octets : IsUnderWay values start role spans keeps id stream sum now after left
      → left.sent < length left.body.items
      → IsSendingOn values start role spans keeps id stream sum now after left
  has_octets (inl is) some = is
  has_octets (inr is) some = let none = is.2 in absurd (omega (arith, none, some))

  -- Trailers are left.
  has_trailers : (fields : List Field)
      → IsUnderWay values start role spans keeps id stream sum now after left
      → option_map (λ list. list.items) left.trailers ≡ Some fields
      → IsSendingOn values start role spans keeps id stream sum now after left
  has_trailers fields (inl is) are = is
  has_trailers fields (inr is) are =
      absurd (none_some (sym (ap (option_map (λ list. list.items)) is.1) ∙ are))
    where
      none_some : None ≡ Some fields → ⊥
      none_some wrong = cc

  -- Nothing is left.
  all_sent : IsUnderWay values start role spans keeps id stream sum now after left
      → length left.body.items ≤ left.sent → left.trailers ≡ None
      → HasSent values start role spans keeps id stream sum now after
  all_sent (inl is) none no_trailers =
      absurd (ends_or_trailers values start role spans keeps id stream sum now after left is none
      no_trailers)
  all_sent (inr is) none no_trailers = is.0

  -- A call was refused.
  gone_by : (refusal : Refusal) (result : Result SendState Refusal) → StopsBy refusal result
      → IsStopped values start role spans keeps id stream sum now after left refusal
      → HasGone values start role spans keeps id stream result sum now after left
  unfolding HasGone
  gone_by refusal result (inl (full, stops)) is =
      subst (λ (r : Result SendState Refusal).
      HasGone values start role spans keeps id stream r sum now after left) (sym stops)
      (subst (λ (r : Refusal). IsStopped values start role spans keeps id stream sum now after left
      r) full is)
  gone_by refusal result (inr (other, stops)) is =
      subst (λ (r : Result SendState Refusal).
      HasGone values start role spans keeps id stream r sum now after left) (sym stops) (is, other)

  few_sent : IsUnderWay values start role spans keeps id stream sum now after left → sum ≤ 262161
  few_sent (inl is) = pump_is_short values start sum now role spans _ after id is.pumping
  few_sent (inr is) = pump_is_short values start sum now role spans _ after id is.0.pumping

module _ (conn : Conn) (id : ℕ) (waits : Waiting) (count : ℕ) (now new : Conn) (left : Waiting)
    (sum : ℕ) (goes : IsGoing conn id waits count now left sum) where
  module _ (octets : List ℕ) (end : Bool) (some : left.sent < length left.body.items)
      (rest : octets ≡ octets_left left) (last : end ≡ is_none left.trailers)
      (typed : IsTypedAct (SendData id octets end)) where
    -- The call is the one that sends what is left.
    the_rest : SendData id octets end ≡ data_act id left
    the_rest = rw (rest, last) refl

    typed_rest : IsTypedAct (data_act id left)
    typed_rest = subst IsTypedAct the_rest typed

    of_the_rest : (answer : Answer) → ConnAnswers now (SendData id octets end) answer new
        → ConnAnswers now (data_act id left) answer new
    of_the_rest answer answers =
        subst (λ (act : Act). ConnAnswers now act answer new) the_rest answers

    -- It sends octets,
    pub going_on : (n total : ℕ) → total ≡ min (sum + n) 18446744073709551615
        → ConnAnswers now (SendData id octets end) (Count n) new
        → IsGoing conn id waits count new (sent_more left n) total
    going_on n total is answers = λ values start role spans keeps stream happened begun.
        let (after, way) = goes values start role spans keeps stream happened begun in
        let sends = has_octets values start role spans keeps id stream sum now after left way
        some in
        let both = of_the_rest (Count n) answers values after.log
        sends.pumping.represents.represents in
        let then = end_after_call after (data_act id left) (Count n) in
        let next = data_goes values start role spans keeps id stream sum now after left sends new n
        typed_rest both.0 both.1 some in
        let few = few_sent values start role spans keeps id stream (sum + n) new then
        (sent_more left n) next in (
          then,
          subst (λ (c : ℕ). IsUnderWay values start role spans keeps id stream c new then
              (sent_more left n)) (exact sum n total is few) next,
        )

    -- or none,
    pub going_stuck : (n : ℕ) → n ≡ 0 → ConnAnswers now (SendData id octets end) (Count n) new
        → Sends conn id waits count (Ok Stuck) new left sum
    unfolding HasGone
    going_stuck n zero answers = λ values start role spans keeps stream happened begun.
        let (after, way) = goes values start role spans keeps stream happened begun in
        let sends = has_octets values start role spans keeps id stream sum now after left way
        some in
        let both = of_the_rest (Count 0)
        (subst (λ (m : ℕ). ConnAnswers now (SendData id octets end) (Count m) new) zero answers)
        values after.log sends.pumping.represents.represents in (
          end_after_call after (data_act id left) (Count 0),
          data_is_stuck values start role spans keeps id stream sum now after left sends new
              typed_rest both.0 both.1 some,
        )

    -- or is refused: the output is full, or memory was refused.
    pub going_refused : (refusal : Refusal) (result : Result SendState Refusal)
        → StopsBy refusal result → ConnAnswers now (SendData id octets end) (Refused refusal) new
        → Sends conn id waits count result new left sum
    going_refused refusal result stops answers =
        λ values start role spans keeps stream happened begun.
        let (after, way) = goes values start role spans keeps stream happened begun in
        let sends = has_octets values start role spans keeps id stream sum now after left way
        some in
        let both = of_the_rest (Refused refusal) answers values after.log
        sends.pumping.represents.represents in
        let then = end_after_call after (data_act id left) (Refused refusal) in (
          then,
          gone_by values start role spans keeps id stream sum new then left refusal result stops
              (data_is_refused values start role spans keeps id stream sum now after left sends new
              refusal some typed_rest both.0 both.1),
        )

  -- Once no octets are left, there are no trailers,
  pub going_ends : length left.body.items ≤ left.sent → left.trailers ≡ None
      → Sends conn id waits count (Ok Sent) now left sum
  unfolding HasGone
  going_ends none no_trailers = λ values start role spans keeps stream happened begun.
      let (after, way) = goes values start role spans keeps stream happened begun in (
        after,
        all_sent values start role spans keeps id stream sum now after left way none no_trailers,
      )

  module _ (fields : List Field) (none : length left.body.items ≤ left.sent)
      (are : option_map (λ list. list.items) left.trailers ≡ Some fields)
      (typed : IsTypedAct (SendFields id fields true)) where
    -- or these are sent,
    pub trailers_go : ConnAnswers now (SendFields id fields true) Done new
        → Sends conn id waits count (Ok Sent) new left sum
    unfolding HasGone
    trailers_go answers = λ values start role spans keeps stream happened begun.
        let (after, way) = goes values start role spans keeps stream happened begun in
        let sends = has_trailers values start role spans keeps id stream sum now after left fields
        way are in
        let both = answers values after.log sends.pumping.represents.represents in (
          end_after_call after (SendFields id fields true) Done,
          fields_go values start role spans keeps id stream sum now after left sends new fields
              typed are none both.0 both.1,
        )

    -- or refused.
    pub trailers_refused : (refusal : Refusal) (result : Result SendState Refusal)
        → StopsBy refusal result
        → ConnAnswers now (SendFields id fields true) (Refused refusal) new
        → Sends conn id waits count result new left sum
    trailers_refused refusal result stops answers =
        λ values start role spans keeps stream happened begun.
        let (after, way) = goes values start role spans keeps stream happened begun in
        let sends = has_trailers values start role spans keeps id stream sum now after left fields
        way are in
        let both = answers values after.log sends.pumping.represents.represents in
        let then = end_after_call after (SendFields id fields true) (Refused refusal) in (
          then,
          gone_by values start role spans keeps id stream sum new then left refusal result stops
              (fields_are_refused values start role spans keeps id stream sum now after left sends
              new fields typed are refusal none both.0 both.1),
        )
