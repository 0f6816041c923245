-- What a stream on which something was sent is like, and how a message ends.
use Rattle.std.proofs.Common.{map as each}
use Rattle.h2_spec_log.specs.Allowed.{MayContinue, MayOpen}
use Rattle.h2_laws_pair.specs.Tokens.{Form, AtOnce, Begun, Ended, Said, is_ended_by_head}
use Rattle.h2_laws_pair.specs.Tokens.{given_end, said_tokens, trailers_tokens}
use Rattle.h2_laws_pair.proofs.Names
use Names.{◌≡◌, inl, inr, ℕ, ◌==◌, ◌%◌, Bool, true, false, List, [], ◌∷◌, ◌++◌, Option, None, Some}
use Names.{refl, sym, ◌∙◌, append_assoc, append-nil, arith, length, list_any, both_ways, or_parts}
use Names.{or_cases}
use Names.{eqb-true, eq-eqb, or_left, or_right, or_from, and_parts, list_any-append, Field, Data}
use Names.{Settings, Item, alone, block, Role, AllowedHistory, Allowed, starts, reads, writes}
use Names.{is_block_on, ends, any_after, active_parts, block_count, openings, Token}
use Names.{FieldsToken, OctetToken, EndToken, end_tokens, tokens_written}
use Rattle.h2_laws_pair.proofs.HeardTokens.{item_tokens, frame_tokens, alone_adds}
use Rattle.h2_laws_pair.proofs.HeardGoAways.{speaks}
use Rattle.h2_laws_end.proofs.ActivityStays.{opened_after}

-- The stream was opened, with an odd number.
pub record IsOpened (role : Role) (i : ℕ) (received sent : List Item) : Type 0 where
  pub odd : i % 2 == 1 ≡ true
  pub opened : list_any (is_block_on i) (openings role received sent) ≡ true

-- It stays so.
opened_more : (role : Role) (i : ℕ) (news items received sent : List Item)
    → IsOpened role i received sent → IsOpened role i (news ++ received) (items ++ sent)
opened_more role i news items received sent is =
    record { odd = is.odd; opened = opened_after role i news items received sent is.opened }

-- A stream on which an end goes on was opened.
goes_opened : (role : Role) (i : ℕ) (received sent : List Item) → MayContinue role i received sent
    → IsOpened role i received sent
goes_opened role i received sent goes =
    let parts = active_parts role i received sent [] goes.active in
    record { odd = parts.odd; opened = parts.opened }

-- One that it opens is.
open_opened : (role : Role) (i : ℕ) (end : Bool) (octets : List ℕ) (received sent : List Item)
    → MayOpen role i received sent → IsOpened role i received (block i end octets ∷ sent)
unfolding is_block_on
open_opened role i end octets received sent may = record {
  odd = eq-eqb (i % 2) 1 may.odd;
  opened = rw may.client (or_left (i == i) _ (eq-eqb i i refl));
}

-- An item that is part of a message is on a stream that was opened.
one_opened : (role : Role) (i : ℕ) (item : Item) (received sent : List Item)
    → Allowed role received sent item → speaks i item ≡ true
    → IsOpened role i received (item ∷ sent)
unfolding speaks
one_opened role i (block stream end octets) received sent (returned, how, small) here =
    rw (← eqb-true stream i here) (elim how [
      | inl opens ↦ open_opened role stream end octets received sent opens
      | inr goes ↦ opened_more role stream [] (block stream end octets ∷ []) received sent
          (goes_opened role stream received sent goes)
    ])
one_opened role i (alone (Data stream end octets pad)) received sent allowed here =
    rw (← eqb-true stream i here)
    (opened_more role stream [] (alone (Data stream end octets pad) ∷ []) received sent
    (goes_opened role stream received sent allowed.1.goes_on))
one_opened role i item received sent allowed here = absurd (both_ways false refl here)

settings_silent : (i : ℕ) (pairs : List (ℕ × ℕ))
    → list_any (speaks i) (alone (Settings false pairs) ∷ []) ≡ false
unfolding speaks
settings_silent i pairs = refl

pub spoken_opened : (role : Role) (i : ℕ) (received sent : List Item)
    → AllowedHistory role received sent → list_any (speaks i) sent ≡ true
    → IsOpened role i received sent
spoken_opened role i _ _ (starts values ok) here = absurd (both_ways _ (settings_silent i _) here)
spoken_opened role i _ sent (reads {received = received} item history) here =
    opened_more _ _ (item ∷ []) [] _ sent (spoken_opened role i received sent history here)
spoken_opened role i received _ (writes {sent = sent} item history allowed) here =
    elim (or_cases (speaks i item) (list_any (speaks i) sent) here) [
      | inl now ↦ one_opened _ _ item _ _ allowed now
      | inr before ↦ opened_more _ _ [] (item ∷ []) _ _ (spoken_opened _ _ _ _ history before)
    ]

-- Items that are no part of a message on a stream carry nothing on it.
item_silent : (i : ℕ) (item : Item) (list : List Field) → speaks i item ≡ false
    → item_tokens i item list ≡ []
unfolding speaks item_tokens frame_tokens
item_silent i (block stream end octets) list none = rw none refl
item_silent i (alone (Data stream end octets pad)) list none = rw none refl
item_silent i (alone frame) list none = refl

pub silent_tokens : (i : ℕ) (items : List Item) (lists : List (List Field))
    → list_any (speaks i) items ≡ false → tokens_written i items lists ≡ []
unfolding tokens_written item_tokens
silent_tokens i [] lists none = refl
silent_tokens i (alone frame ∷ items) lists none =
    let parts = or_parts (speaks _ _) (list_any (speaks i) items) none in
    rw (alone_adds _ _ _ _, silent_tokens _ _ _ parts.1) (item_silent _ _ [] parts.0)
silent_tokens i (block stream end octets ∷ items) [] none =
    silent_tokens i items [] (or_parts (speaks _ _) (list_any (speaks i) items) none).1
silent_tokens i (block stream end octets ∷ items) (list ∷ lists) none =
    let parts = or_parts (speaks i (block stream end octets)) (list_any (speaks i) items) none in
    rw (silent_tokens i items lists parts.1) (item_silent i (block stream end octets) list parts.0)

-- Whether a token is the end.
unfoldable pub is_end : Token → Bool
is_end EndToken = true
is_end (FieldsToken list end) = false
is_end (OctetToken octet) = false

-- An item with END_STREAM carries the end.
item_ending : (i : ℕ) (item : Item) (list : List Field) → ends i item ≡ true
    → list_any is_end (item_tokens i item list) ≡ true
unfolding ends item_tokens frame_tokens end_tokens is_end
item_ending i (block stream end octets) list here =
    let both = and_parts (stream == i) end here in rw (both.0, both.1) refl
item_ending i (alone (Data stream end octets pad)) list here =
    let both = and_parts (stream == i) end here in
    rw (both.0, both.1) (any_after is_end (each OctetToken octets) (EndToken ∷ []) refl)
item_ending i item list here = absurd (both_ways false refl here)

-- So do items, with a list for each block.
in_front : (one other : List Token) → list_any is_end one ≡ true
    → list_any is_end (one ++ other) ≡ true
in_front one other here = list_any-append is_end one other ∙ or_left _ _ here

pub ended_tokens : (i : ℕ) (items : List Item) (lists : List (List Field))
    → length lists ≡ block_count items → list_any (ends i) items ≡ true
    → list_any is_end (tokens_written i items lists) ≡ true
unfolding tokens_written item_tokens block_count
ended_tokens i [] lists many here = absurd (both_ways false refl here)
ended_tokens i (alone frame ∷ items) lists many here =
    rw (alone_adds i frame items lists)
    (elim (or_cases (ends i (alone frame)) (list_any (ends i) items) here) [
      | inl now ↦ any_after is_end _ _ (item_ending i (alone frame) [] now)
      | inr before ↦ in_front (tokens_written i items lists) _
          (ended_tokens i items lists many before)
    ])
ended_tokens i (block stream end octets ∷ items) [] many here = absurd (omega (arith, many))
ended_tokens i (block stream end octets ∷ items) (list ∷ lists) many here =
    elim (or_cases (ends i (block stream end octets)) (list_any (ends i) items) here) [
      | inl now ↦ any_after is_end _ _ (item_ending i (block stream end octets) list now)
      | inr before ↦ in_front (tokens_written i items lists) _
          (ended_tokens i items lists (omega (arith, many)) before)
    ]

-- What was given of a message has its end last.
abbrev before_end : Said → List Token
before_end said =
    FieldsToken said.message.head (is_ended_by_head said.form said.message)
    ∷ (each OctetToken said.message.body ++ trailers_tokens said.message.trailers)

said_ends : (said : Said) → said_tokens said ≡ before_end said ++ given_end said.form
unfolding said_tokens
said_ends said = rw append_assoc refl

body_endless : (octets : List ℕ) → list_any is_end (each OctetToken octets) ≡ false
unfolding is_end
body_endless [] = refl
body_endless (octet ∷ octets) = body_endless octets

trailers_endless : (trailers : Option (List Field))
    → list_any is_end (trailers_tokens trailers) ≡ false
unfolding trailers_tokens is_end
trailers_endless None = refl
trailers_endless (Some list) = refl

front_endless : (said : Said) → list_any is_end (before_end said) ≡ false
unfolding is_end
front_endless said =
    list_any-append is_end (each OctetToken said.message.body)
    (trailers_tokens said.message.trailers)
    ∙ or_from _ _ (body_endless said.message.body) (trailers_endless said.message.trailers)

-- What stands before a last token, stands before.
not_more : (tokens : List Token) (token last : Token) (others : List Token)
    → tokens ++ token ∷ others ≡ last ∷ [] → list_any is_end tokens ≡ true → ⊥
not_more [] token last others is here = both_ways false refl here
not_more (first ∷ []) token last others is here = cc
not_more (first ∷ (second ∷ tokens)) token last others is here = cc

proper_front : (tokens front : List Token) (token last : Token) (others : List Token)
    → tokens ++ token ∷ others ≡ front ++ last ∷ [] → list_any is_end tokens ≡ true
    → list_any is_end front ≡ true
proper_front [] front token last others is here = absurd (both_ways false refl here)
proper_front (first ∷ tokens) [] token last others is here =
    absurd (not_more (first ∷ tokens) token last others is here)
proper_front (first ∷ tokens) (one ∷ front) token last others is here =
    let same : first ≡ one = cc in
    let after : tokens ++ token ∷ others ≡ front ++ last ∷ [] = cc in
    elim (or_cases (is_end first) (list_any is_end tokens) here) [
      | inl now ↦ or_left (is_end one) _ (rw (← same) now)
      | inr before ↦ or_right (is_end one) _
          (proper_front tokens front token last others after before)
    ]

-- Where it has no end last, what stands before stands before.
any_front : (tokens front : List Token) (token : Token) (others : List Token)
    → tokens ++ token ∷ others ≡ front → list_any is_end tokens ≡ true
    → list_any is_end front ≡ true
any_front tokens front token others is here =
    rw (← is) (list_any-append is_end tokens (token ∷ others) ∙ or_left _ _ here)

-- As long as something waits of what was given, the end wasn't sent.
unended_by : (said : Said) (form : Form) (tokens : List Token) (token : Token)
    (others : List Token) → before_end said ++ given_end form ≡ tokens ++ token ∷ others
    → list_any is_end tokens ≡ true → list_any is_end (before_end said) ≡ true
unended_by said AtOnce tokens token others is here =
    proper_front tokens (before_end said) token EndToken others (sym is) here
unended_by said Ended tokens token others is here =
    proper_front tokens (before_end said) token EndToken others (sym is) here
unended_by said (Begun length) tokens token others is here =
    any_front tokens (before_end said) token others (sym is ∙ append-nil _) here

pub unended : (said : Said) (tokens : List Token) (token : Token) (others : List Token)
    → said_tokens said ≡ tokens ++ token ∷ others → list_any is_end tokens ≡ true → ⊥
unended said tokens token others is here =
    both_ways _ (front_endless said)
    (unended_by said said.form tokens token others (sym (said_ends said) ∙ is) here)
