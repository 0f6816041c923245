-- Streams on which nothing of what waits can go: a call on another one leaves them so.
use Rattle.h2_ends.proofs.Names
use Names.{◌≡◌, ◌≢◌, inl, inr, ℕ, Bool, false, List, [], ◌∷◌, ◌++◌, length, drop, refl, sym, ap}
use Names.{◌∙◌, append-nil, subst, list_any, both_ways, and_parts, and_from, cases_Bool, ne_eqb}
use Names.{Field, Act, Answer, SendFields, SendData, Count, Done, is_block_on, Log, active}
use Names.{log_view, items_of, with_call, has_room, no_room_by_call, Token, FieldsToken}
use Names.{OctetToken, EndToken, call_calls, EndLog, tokens_out, tokens_said, tokens_waiting}
use Names.{IsStuckOn, end_after_call, tokens_of_call, tokens_sent, items_no_block, call_keeps}
use Rattle.h2_laws_pair.specs.Quiet.{NoneCouldGo}
use Rattle.h2_laws_end.proofs.OverLists.{IsInactive, inactive_sent}

module _ (end : EndLog) (act : Act) (answer : Answer) (i : ℕ) where
  -- What is sent with a call is more of it.
  pub out_after : tokens_out (end_after_call end act answer) i ≡ tokens_out end i ++ tokens_of_call
      i act answer
  unfolding tokens_sent
  out_after = ap (tokens_sent i) (call_calls end.log act answer)

  pub out_same : tokens_of_call i act answer ≡ []
      → tokens_out (end_after_call end act answer) i ≡ tokens_out end i
  out_same none = out_after ∙ ap (λ (line : List Token). tokens_out end i ++ line) none
      ∙ append-nil (tokens_out end i)

  -- As much waits then.
  pub waiting_same : tokens_of_call i act answer ≡ []
      → tokens_waiting (end_after_call end act answer) i ≡ tokens_waiting end i
  waiting_same none = ap (λ (line : List Token). drop (length line) (tokens_said end i))
      (out_same none)

-- A call that sends octets sends nothing on another stream, whatever it answers.
pub data_none : (i id : ℕ) (octets : List ℕ) (end : Bool) (answer : Answer) → i ≢ id
    → tokens_of_call i (SendData id octets end) answer ≡ []
unfolding tokens_of_call
data_none i id octets end (Count count) other = rw (ne_eqb id i (λ same. other (sym same))) refl
data_none i id octets end answer other = refl

-- Nor does one that sends fields.
pub fields_none : (i id : ℕ) (fields : List Field) (end : Bool) (answer : Answer) → i ≢ id
    → tokens_of_call i (SendFields id fields end) answer ≡ []
unfolding tokens_of_call
fields_none i id fields end Done other = rw (ne_eqb id i (λ same. other (sym same))) refl
fields_none i id fields end answer other = refl

-- Neither writes a block there, and the first none at all.
data_no_block : (log : Log) (i id : ℕ) (octets : List ℕ) (end : Bool) (answer : Answer)
    → list_any (is_block_on i) (items_of (log_view log) (SendData id octets end) answer) ≡ false
data_no_block log i id octets end answer =
    items_no_block i (log_view log) (SendData id octets end) answer
    (λ fields ends other wrong answers. cc) (λ other fields ends wrong answers. cc)

fields_no_block : (log : Log) (i id : ℕ) (fields : List Field) (end : Bool) (answer : Answer)
    → i ≢ id
    → list_any (is_block_on i) (items_of (log_view log) (SendFields id fields end) answer) ≡ false
fields_no_block log i id fields end answer other =
    items_no_block i (log_view log) (SendFields id fields end) answer
    (λ list ends one wrong answers. cc)
    (λ one list ends is answers. let same : id ≡ one = cc in
    ne_eqb one i (λ equal. other (sym equal ∙ sym same)))

-- Where nothing could go, nothing can after what gives no room.
none_goes : (log after : Log) (i : ℕ) (tokens : List Token)
    → (has_room log i ≡ false → has_room after i ≡ false) → NoneCouldGo log i tokens
    → NoneCouldGo after i tokens
none_goes log after i [] keeps never = tt
none_goes log after i (OctetToken octet ∷ tokens) keeps never = λ could.
    elim (cases_Bool (has_room log i)) [
      | inl room ↦ never (and_parts _ _ room)
      | inr none ↦ both_ways _ (keeps none) (and_from _ _ could.0 could.1)
    ]
none_goes log after i (FieldsToken list end ∷ tokens) keeps never = never
none_goes log after i (EndToken ∷ tokens) keeps never = never

-- A call that writes no block on a stream, and sends nothing of it, leaves it stuck.
pub stuck_by : (end : EndLog) (act : Act) (answer : Answer) (i : ℕ)
    → list_any (is_block_on i) (items_of (log_view end.log) act answer) ≡ false
    → tokens_of_call i act answer ≡ [] → IsStuckOn end i
    → IsStuckOn (end_after_call end act answer) i
stuck_by end act answer i closed none stuck = λ after_active.
    elim (cases_Bool (active end.log i)) [
      | inl alive ↦ subst (λ (tokens : List Token). NoneCouldGo (with_call end.log act answer) i
          tokens) (sym (waiting_same end act answer i none))
          (none_goes end.log (with_call end.log act answer) i (tokens_waiting end i)
          (no_room_by_call end.log act answer i) (stuck alive))
      | inr over ↦ absurd (both_ways _ (call_keeps i (IsInactive i) (inactive_sent i) end.log act
          answer closed over) after_active)
    ]

module _ (end : EndLog) (id : ℕ) where
  -- So it is with sending on another stream, accepted or refused.
  pub stuck_by_data : (octets : List ℕ) (ends : Bool) (answer : Answer) (i : ℕ) → i ≢ id
      → IsStuckOn end i → IsStuckOn (end_after_call end (SendData id octets ends) answer) i
  stuck_by_data octets ends answer i other = stuck_by end (SendData id octets ends) answer i
      (data_no_block end.log i id octets ends answer) (data_none i id octets ends answer other)

  pub stuck_by_fields : (fields : List Field) (ends : Bool) (answer : Answer) (i : ℕ) → i ≢ id
      → IsStuckOn end i → IsStuckOn (end_after_call end (SendFields id fields ends) answer) i
  stuck_by_fields fields ends answer i other = stuck_by end (SendFields id fields ends) answer i
      (fields_no_block end.log i id fields ends answer other)
      (fields_none i id fields ends answer other)

-- A stream is stuck that isn't active,
pub stuck_inactive : (end : EndLog) (i : ℕ) → active end.log i ≡ false → IsStuckOn end i
stuck_inactive end i over = λ alive. absurd (both_ways _ over alive)

-- on which nothing waits,
pub stuck_empty : (end : EndLog) (i : ℕ) → tokens_waiting end i ≡ [] → IsStuckOn end i
stuck_empty end i none = λ alive.
    subst (λ (tokens : List Token). NoneCouldGo end.log i tokens) (sym none) tt

-- or on which an octet waits and has no room.
pub stuck_octet : (end : EndLog) (i octet : ℕ) (tokens : List Token)
    → tokens_waiting end i ≡ OctetToken octet ∷ tokens → has_room end.log i ≡ false
    → IsStuckOn end i
stuck_octet end i octet tokens is none = λ alive.
    subst (λ (line : List Token). NoneCouldGo end.log i line) (sym is)
    (λ could. both_ways _ none (and_from _ _ could.0 could.1))
