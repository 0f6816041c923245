-- What an end has heard on a stream is what the items that it has read carry, as long as it hasn't
-- closed the stream; and a prefix of that from then on.
use Rattle.h2_frame.specs.Encoding.{stream_of}
use Rattle.h2_spec_log.specs.States.{Idle, Active}
use Rattle.h2_spec_log.specs.Log.{state}
use Rattle.h2_spec_log.specs.ItemRules.{peer_opens}
use Rattle.h2_spec_log.specs.ItemEffects.{decoded_fields}
use Rattle.h2_laws_log.proofs.ReaderStates.{not_idle, state_is_active}
use Rattle.h2_laws_log.proofs.ReplyInvariant.{used_more, used_here}
use Rattle.h2_laws_end.proofs.OverReads.{OfMessage}
use Rattle.h2_laws_end.proofs.ReadVerdicts.{says_block, says_data}
use Rattle.h2_laws_end.proofs.ReadingRules.{IsFaulty, IsUnreported, IsSaid}
use Rattle.h2_laws_end.proofs.ReceiveWindows.{active_unclosed}
use Rattle.h2_laws_pair.proofs.Names
use Names.{◌≡◌, ◌⊎◌, inl, inr, ℕ, ◌==◌, true, List, [], ◌∷◌, ◌++◌, Option, Some, None, refl, sym}
use Names.{append_assoc, append-nil, subst, both_ways, eqb-true, cases_Bool, Field, Code}
use Names.{code_number, Data, Reset, Item, alone, block, Role, Event, stream_of_item, Log, log_view}
use Names.{View, Verdict, ConnectionFault, StreamFault, NoEvent, Reported, Decoded, replies_to}
use Names.{verdict_by_rules, events_of, Says, says_any, is_used, is_closed_by_us, Token}
use Names.{tokens_written, tokens_of_event, tokens_heard, IsPrefixOfTokens}
use Rattle.h2_laws_pair.proofs.HeardTokens.{frame_tokens, item_tokens, alone_adds, prefix_same}
use Rattle.h2_laws_log.proofs.LogViewLemmas.{closed_used}
use Rattle.h2_laws_end.proofs.ActivityFrames.{closed_more}
use Rattle.h2_laws_end.proofs.ReceiveWindowSteps.{reset_closed}

-- This end has closed the stream, and its number is used.
pub record IsGone (role : Role) (i : ℕ) (received sent : List Item) : Type 0 where
  pub closed : is_closed_by_us role i sent ≡ true
  pub used : is_used role i received sent ≡ true

-- It stays so.
pub gone_more : (role : Role) (i : ℕ) (news items received sent : List Item)
    → IsGone role i received sent → IsGone role i (news ++ received) (items ++ sent)
gone_more role i news items received sent gone = record {
  closed = closed_more role i items sent gone.closed;
  used = used_more role i news items received sent gone.used;
}

-- All that the items carry was heard, or the stream is gone and a prefix was.
pub data AreHeard (role : Role) (i : ℕ) (received sent : List Item) (reported : List Event)
    (lists : List (List Field)) : Type 0 where
  all_heard : tokens_heard i reported ≡ tokens_written i received lists
      → AreHeard role i received sent reported lists
  some_heard : IsGone role i received sent
      → IsPrefixOfTokens (tokens_heard i reported) (tokens_written i received lists)
      → AreHeard role i received sent reported lists

-- the lists after an item
abbrev pub lists_after : Option Decoded → Item → List (List Field) → List (List Field)
lists_after decoded (alone frame) lists = lists
lists_after decoded (block stream end octets) lists = decoded_fields decoded ∷ lists

-- An item adds its tokens.
item_carries : (i : ℕ) (decoded : Option Decoded) (item : Item) (received : List Item)
    (lists : List (List Field))
    → tokens_written i (item ∷ received) (lists_after decoded item lists)
    ≡ tokens_written i received lists ++ item_tokens i item (decoded_fields decoded)
unfolding tokens_written item_tokens
item_carries i decoded (alone frame) received lists = alone_adds i frame received lists
item_carries i decoded (block stream end octets) received lists = refl

-- What is reported of it adds the same.
reported_carries : (i : ℕ) (view : View) (decoded : Option Decoded) (item : Item)
    (reported : List Event)
    → tokens_heard i (events_of view decoded Reported item ++ reported)
    ≡ tokens_heard i reported ++ item_tokens i item (decoded_fields decoded)
unfolding events_of tokens_heard tokens_of_event item_tokens frame_tokens
reported_carries i view decoded (block stream end octets) reported = refl
reported_carries i view decoded (alone (Data stream end octets pad)) reported = refl
reported_carries i view decoded (alone frame) reported = simp append-nil

-- A stream's fault is no part of a message.
fault_carries : (i : ℕ) (view : View) (decoded : Option Decoded) (code : Code) (item : Item)
    (reported : List Event)
    → tokens_heard i (events_of view decoded (StreamFault code) item ++ reported)
    ≡ tokens_heard i reported
unfolding events_of tokens_heard tokens_of_event
fault_carries i view decoded code item reported = append-nil (tokens_heard i reported)

-- What the stream of an item has, it has where the item is part of a message.
of_stream : (P : ℕ → Type 0) (item : Item) → P (stream_of_item item) → OfMessage P item
unfolding stream_of_item stream_of
of_stream P (block stream end octets) is = is
of_stream P (alone (Data stream end octets pad)) is = is
of_stream P (alone frame) is = tt

-- An item carries nothing on a stream, or the stream has the property.
nothing_or : (P : ℕ → Type 0) (i : ℕ) (item : Item) (list : List Field) → OfMessage P item
    → (item_tokens i item list ≡ []) ⊎ P i
unfolding item_tokens frame_tokens
nothing_or P i (block stream end octets) list is = elim (cases_Bool (stream == i)) [
  | inl same ↦ inr (subst P (eqb-true stream i same) is)
  | inr other ↦ inl (rw other refl)
]
nothing_or P i (alone (Data stream end octets pad)) list is = elim (cases_Bool (stream == i)) [
  | inl same ↦ inr (subst P (eqb-true stream i same) is)
  | inr other ↦ inl (rw other refl)
]
nothing_or P i (alone frame) list is = inl refl

-- What two facts say of a verdict, both say.
pub says_both : (F S T A B C : Type 0) (verdict : Verdict) → Says F S T verdict → Says A B C verdict
    → Says (F × A) (S × B) (T × C) verdict
says_both F S T A B C (ConnectionFault code) one other = tt
says_both F S T A B C verdict one other = (one, other)

-- An active stream isn't gone, nor is an idle one.
active_stays : (log : Log) (i : ℕ) → state log i ≡ Active
    → IsGone log.role i log.received log.sent → ⊥
active_stays log i is gone =
    both_ways _ (active_unclosed _ _ _ _ log.reported (state_is_active _ _ _ is)) gone.closed

idle_stays : (log : Log) (i : ℕ) → state log i ≡ Idle → IsGone log.role i log.received log.sent → ⊥
idle_stays log i is gone = not_idle _ _ _ gone.used is

-- The number of an item is used once it is read.
abbrev pub IsUsedBy : Log → Item → ℕ → Type 0
IsUsedBy log item i = is_used log.role i (item ∷ log.received) log.sent ≡ true

-- The stream isn't gone.
abbrev pub Stays : Log → ℕ → Type 0
Stays log i = IsGone log.role i log.received log.sent → ⊥

-- What is silent of a message is on a used stream, and what is reported is on one that isn't gone.
pub rules_used : (log : Log) (decoded : Option Decoded) (item : Item)
    → Says (Unit {0}) (OfMessage (IsUsedBy log item) item) (OfMessage (Stays log) item)
    (verdict_by_rules (log_view log) decoded item)
unfolding verdict_by_rules
rules_used log None (block stream end octets) = tt
rules_used log (Some decoded) (block stream end octets) =
    let item = block stream end octets in
    says_block (Unit {0}) _ _ _ (peer_opens (log_view log) stream) _ _ _ _ (λ idle opens. (
      tt,
      λ left. used_here log.role stream end octets log.received log.sent opens,
      λ stays. idle_stays log stream idle,
    )) (λ is. (tt, active_stays log stream is))
    (λ is. used_more log.role stream (item ∷ []) [] log.received log.sent (closed_used _ _ _ is))
rules_used log decoded (alone (Data stream end octets pad)) =
    let item = alone (Data stream end octets pad) in
    says_data (Unit {0}) _ _ (state log stream) _ _ _ (λ is. tt)
    (λ is. used_more log.role stream (item ∷ []) [] log.received log.sent (closed_used _ _ _ is))
    (active_stays log stream)
rules_used log decoded (alone frame) =
    says_any (Unit {0}) (verdict_by_rules (log_view log) decoded (alone frame)) tt

-- What is silent of a message is on a stream that is gone.
abbrev IsSilent : Log → Item → ℕ → Type 0
IsSilent log item i = IsGone log.role i (item ∷ log.received) log.sent

silent_gone : (log : Log) (item : Item) → IsUnreported log item
    → OfMessage (IsUsedBy log item) item → OfMessage (IsSilent log item) item
silent_gone log (block stream end octets) closed used = record { closed = closed; used = used }
silent_gone log (alone (Data stream end octets pad)) closed used =
    record { closed = closed; used = used }
silent_gone log (alone frame) closed used = tt

-- A prefix, where what goes on is longer.
pub prefix_by : (tokens heard whole all more : List Token) → heard ≡ tokens → all ≡ whole ++ more
    → IsPrefixOfTokens tokens whole → IsPrefixOfTokens heard all
prefix_by tokens heard whole all more same is (rest, before) =
    (rest ++ more, rw (is, before, same, append_assoc) refl)

-- What was heard is a prefix.
pub heard_prefix : (role : Role) (i : ℕ) (received sent : List Item) (reported : List Event)
    (lists : List (List Field)) → AreHeard role i received sent reported lists
    → IsPrefixOfTokens (tokens_heard i reported) (tokens_written i received lists)
heard_prefix role i received sent reported lists (all_heard same) = prefix_same _ _ same
heard_prefix role i received sent reported lists (some_heard gone prefix) = prefix

module _ (role : Role) (i : ℕ) (received sent after : List Item) (reported : List Event)
    (lists : List (List Field)) (decoded : Option Decoded) (item : Item)
    (goes : IsGone role i received sent → IsGone role i (item ∷ received) after) where
  -- After an item of which nothing of a message is reported.
  heard_silent : (events : List Event) → tokens_heard i events ≡ tokens_heard i reported
      → (item_tokens i item (decoded_fields decoded) ≡ []) ⊎ IsGone role i (item ∷ received) after
      → AreHeard role i received sent reported lists
      → AreHeard role i (item ∷ received) after events (lists_after decoded item lists)
  heard_silent events same (inr gone) before =
      some_heard gone (prefix_by _ _ _ _ _ same (item_carries i decoded item received lists)
      (heard_prefix role i received sent reported lists before))
  heard_silent events same (inl none) (all_heard is) =
      all_heard (rw (same, is, item_carries i decoded item received lists, none)
      (sym (append-nil (tokens_written i received lists))))
  heard_silent events same (inl none) (some_heard gone prefix) =
      some_heard (goes gone) (prefix_by _ _ _ _ _ same
      (item_carries i decoded item received lists) prefix)

  -- After an item that is reported.
  heard_reported : (view : View)
      → (item_tokens i item (decoded_fields decoded) ≡ []) ⊎ (IsGone role i received sent → ⊥)
      → AreHeard role i received sent reported lists
      → AreHeard role i (item ∷ received) after (events_of view decoded Reported item ++ reported)
      (lists_after decoded item lists)
  heard_reported view stays (all_heard is) =
      all_heard (rw (reported_carries i view decoded item reported, is)
      (sym (item_carries i decoded item received lists)))
  heard_reported view (inr stays) (some_heard gone prefix) = absurd (stays gone)
  heard_reported view (inl none) (some_heard gone prefix) =
      let same : tokens_heard i (events_of view decoded Reported item ++ reported)
      ≡ tokens_heard i reported =
      rw (reported_carries i view decoded item reported, none) (append-nil _) in
      some_heard (goes gone) (prefix_by _ _ _ _ _ same
      (item_carries i decoded item received lists) prefix)

-- A fault of a stream carries nothing on the others, and the stream is gone.
fault_goes : (log : Log) (i : ℕ) (item : Item) (code : ℕ) (due : List Item) (list : List Field)
    → IsFaulty log item → (item_tokens i item list ≡ []) ⊎ IsGone log.role i (item ∷ log.received)
    (due ++ (alone (Reset (stream_of_item item) code) ∷ log.sent))
fault_goes log i item code due list used =
    let stream = stream_of_item item in
    let reset = alone (Reset stream code) in
    nothing_or (λ j. IsGone log.role j (item ∷ log.received) (due ++ (reset ∷ log.sent))) i item
    list (of_stream _ item (gone_more _ _ [] _ _ (reset ∷ log.sent) (record {
      closed = reset_closed log.role stream code log.sent;
      used = used_more log.role stream [] (reset ∷ []) (item ∷ log.received) log.sent used;
    })))

-- What is known of an item that is read.
abbrev pub IsRuled : Log → Item → Verdict → Type 0
IsRuled log item verdict =
    Says (IsFaulty log item × Unit {0}) (IsUnreported log item × OfMessage (IsUsedBy log item) item)
    (IsSaid log item × OfMessage (Stays log) item) verdict

-- What was silent is gone, after more was written.
silent_goes : (log : Log) (i : ℕ) (item : Item) (items : List Item) (list : List Field)
    → IsUnreported log item → OfMessage (IsUsedBy log item) item
    → (item_tokens i item list ≡ []) ⊎ IsGone log.role i (item ∷ log.received) (items ++ log.sent)
silent_goes log i item items list closed used =
    elim (nothing_or (IsSilent log item) i item list (silent_gone log item closed used)) [
      | inl none ↦ inl none
      | inr gone ↦ inr (gone_more log.role i [] items (item ∷ log.received) log.sent gone)
    ]

-- What was heard at a log.
abbrev pub LogHeard : ℕ → Log → List (List Field) → Type 0
LogHeard i log lists = AreHeard log.role i log.received log.sent log.reported lists

-- After an item, what is replied to it, what else is written, and its events, by its verdict.
pub heard_item : (i : ℕ) (log : Log) (decoded : Option Decoded) (item : Item) (verdict : Verdict)
    (due : List Item) (lists : List (List Field))
    → ((code : Code) → verdict ≡ ConnectionFault code → ⊥) → IsRuled log item verdict
    → LogHeard i log lists
    → AreHeard log.role i (item ∷ log.received) (due ++ (replies_to verdict item ++ log.sent))
    (events_of (log_view log) decoded verdict item ++ log.reported)
    (lists_after decoded item lists)
unfolding replies_to events_of
heard_item i log decoded item (ConnectionFault code) due lists none ruled before =
    absurd (none code refl)
heard_item i log decoded item (StreamFault code) due lists none ruled before =
    let reset = alone (Reset (stream_of_item item) (code_number code)) in
    heard_silent log.role i log.received log.sent (due ++ (reset ∷ log.sent)) log.reported lists
    decoded item (λ gone. gone_more log.role i (item ∷ []) due log.received (reset ∷ log.sent)
    (gone_more log.role i [] (reset ∷ []) log.received log.sent gone)) _
    (fault_carries i (log_view log) decoded code item log.reported)
    (fault_goes log i item (code_number code) due (decoded_fields decoded) ruled.0) before
heard_item i log decoded item NoEvent due lists none ruled before =
    let replies = replies_to NoEvent item in
    rw (← append_assoc due replies log.sent)
    (heard_silent log.role i log.received log.sent ((due ++ replies) ++ log.sent) log.reported lists
    decoded item (gone_more log.role i (item ∷ []) (due ++ replies) log.received log.sent)
    log.reported refl
    (silent_goes log i item (due ++ replies) (decoded_fields decoded) ruled.0 ruled.1) before)
heard_item i log decoded item Reported due lists none ruled before =
    heard_reported log.role i log.received log.sent (due ++ log.sent) log.reported lists decoded
    item (gone_more log.role i (item ∷ []) due log.received log.sent) (log_view log)
    (nothing_or (Stays log) i item (decoded_fields decoded) ruled.1) before
