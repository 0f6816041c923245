-- What an end hears of what the other one has accepted can be read, since that breaks no rule.
use Rattle.h2_joined.proofs.Names
use Names.{true, AllByRecursion, tokens_of_event, IsPrefixOfTokens, begins_message, tokens_of_parts}
use Names.{[], ◌∷◌, inl, inr, sym, ap, ◌∙◌, Side, Made, ◌≡◌, ◌≢◌, ℕ, Bool, List, Some, None, ◌++◌}
use Names.{refl, Values, Part, Half, Token, EndLog, parts_on, reads_on, false, Client, Server}
use Names.{Option, said_for, tokens_said, SendsInOrder, part_tokens, tokens_heard, tokens_given}
use Names.{Event, Responses, asks_head, FieldsPart, OctetsPart, IsReadable, tokens_with, end_tokens}
use Names.{Said, IsNoEmptyData, part_of_event, IsReadableWith, IsNoEmptyPart, tokens_of_part}
use Rattle.h2_laws_pair.specs.Tokens.{OctetToken, EndToken}
use Rattle.h2_ends.specs.Ends.{asked_head}
use Rattle.std.proofs.Common.{map as each}
use Rattle.h2_message.specs.declared.reading.Reads.TheVariants.{Requests}
use Rattle.h2_joined.proofs.HoldsParts.{says_with, part_says}
use Rattle.h2_joined.proofs.HoldsSides.{IsPairAt, role_at, hears_at, reports_at}
use Rattle.h2_joined.proofs.JointHolds.{EndHolds, AcceptAt}
use Rattle.h2_ends.proofs.SoundParts.{sound_parts_are_readable}
use Rattle.h2_spec_log.specs.declared.role.Role.TheVariants as roles

-- Tokens of a part that says something are some.
octets_some : (octets : List ℕ) (more : List Token) → octets ≢ []
    → each OctetToken octets ++ more ≢ []
octets_some [] more some none = some refl
octets_some (octet ∷ octets) more some none = cc

end_some : (octets : List ℕ) → each OctetToken octets ++ EndToken ∷ [] ≢ []
end_some [] none = cc
end_some (octet ∷ octets) none = cc

part_some : (part : Part × Bool) → IsNoEmptyPart part → tokens_of_part part ≢ []
unfolding IsNoEmptyPart tokens_of_part end_tokens
part_some (FieldsPart list, end) some none = cc
part_some (OctetsPart octets, end) (inl some) none = octets_some octets (end_tokens end) some none
part_some (OctetsPart octets, true) (inr last) none = end_some octets none
part_some (OctetsPart octets, false) (inr last) none = cc

-- So are those of parts with one more.
some_with : (tokens more : List Token) → more ≢ [] → tokens ++ more ≢ []
some_with [] more some none = some none
some_with (token ∷ tokens) more some none = cc

-- Where some tokens are a prefix of what an end was given to say, it was given something.
something_given : (given : Option Said) (tokens : List Token) → tokens ≢ []
    → IsPrefixOfTokens tokens (tokens_given given) → (said : Said) × (given ≡ Some said)
unfolding tokens_given
something_given (Some said) tokens some prefix = (said, refl)
something_given None [] some prefix = absurd (some refl)
something_given None (token ∷ tokens) some (rest, is) = absurd (cc)

-- That is what is said.
said_is : (end : EndLog) (i : ℕ) (said : Said) (tokens : List Token)
    → said_for i end.accepted ≡ Some said → IsPrefixOfTokens tokens (tokens_said end i)
    → IsPrefixOfTokens tokens (tokens_given (Some said))
said_is end i said tokens is prefix = rw is at prefix

-- What an end reads, by its role: a server requests, and a client responses to what it has asked.
reads_requests : (end : EndLog) (i : ℕ) → end.log.role ≡ roles.Server
    → reads_on end i ≡ Requests
unfolding reads_on
reads_requests end i role = rw role refl

reads_responses : (end : EndLog) (i : ℕ) (request : Said) → end.log.role ≡ roles.Client
    → said_for i end.accepted ≡ Some request
    → reads_on end i ≡ Responses (asks_head request.message.head)
unfolding reads_on asked_head
reads_responses end i request role is = rw (role, is) refl

-- Parts can be read whose tokens are a prefix of what the other end was given to say, where they
-- are some and say something each.
read_at : (side : Side) (end other : EndLog) (i : ℕ) (parts : List (Part × Bool))
    → end.log.role ≡ role_at side → AcceptAt side end other → tokens_of_parts parts ≢ []
    → AllByRecursion IsNoEmptyPart parts
    → IsPrefixOfTokens (tokens_of_parts parts) (tokens_said other i)
    → IsReadable (reads_on end i) parts
unfolding tokens_given
read_at Client end other i parts role accept some says prefix =
    let given = something_given (said_for i other.accepted) (tokens_of_parts parts) some prefix in
    let answers = accept.answers i given.0 given.1 in
    rw (reads_responses end i answers.request role answers.accepted)
    (sound_parts_are_readable (Responses (asks_head answers.request.message.head)) given.0 parts
    answers.well says (said_is other i given.0 (tokens_of_parts parts) given.1 prefix))
read_at Server end other i parts role accept some says prefix =
    let given = something_given (said_for i other.accepted) (tokens_of_parts parts) some prefix in
    rw (reads_requests end i role)
    (sound_parts_are_readable Requests given.0 parts (accept.requests i given.0 given.1) says
    (said_is other i given.0 (tokens_of_parts parts) given.1 prefix))

-- What is heard with one event more, by what was handed out before.
heard_then : (id : ℕ) (event : Event) (part : Part × Bool) (parts : List (Part × Bool))
    (before after : List Event) → after ≡ event ∷ before
    → part_of_event event ≡ Some (id, part) → tokens_heard id before ≡ tokens_of_parts parts
    → tokens_heard id after ≡ tokens_of_parts (parts ++ part ∷ [])
unfolding tokens_heard
heard_then id event part parts before after more of heard =
    ap (tokens_heard id) more ∙ ap (λ (tokens : List Token). tokens ++ tokens_of_event id event)
    heard ∙ ap (λ (tokens : List Token). tokens_of_parts parts ++ tokens)
    (part_tokens event id part of) ∙ sym (tokens_with _ _)

-- An event that was reported says something.
newest_says : (event : Event) (before after : List Event) (id : ℕ) (part : Part × Bool)
    → after ≡ event ∷ before → AllByRecursion IsNoEmptyData after
    → part_of_event event ≡ Some (id, part) → IsNoEmptyPart part
newest_says event before after id part more all of =
    let first = rw more at all in part_says event id part of first.0

-- The part that has come can be read, and says something.
pub readable_at : (side : Side) (client_values server_values : Values) (one other_half : Half)
    (calm : Type 0) (made : List Made) (end other : EndLog) (event : Event) (id : ℕ)
    (part : Part × Bool) → IsPairAt side client_values server_values one other_half calm
    → other_half.log ≡ other.log → one.log.reported ≡ event ∷ end.log.reported
    → end.log.role ≡ role_at side → EndHolds made side end → AcceptAt side end other
    → SendsInOrder other id → part_of_event event ≡ Some (id, part)
    → IsReadableWith end id part × IsNoEmptyPart part
readable_at side client_values server_values one other_half calm made end other event id part pair
    same more role holds accept order of =
    let says = newest_says event end.log.reported one.log.reported id part more
    (reports_at side client_values server_values one other_half calm pair) of in
    let parts = parts_on id end.handed in
    let heard = heard_then id event part parts end.log.reported one.log.reported more of
    (holds.heard id) in
    let sent = hears_at side client_values server_values one other_half calm id pair in
    let prefix = begins_message _ _ order.waiting _ (rw same at sent) order.prefix in (
      read_at side end other id (parts ++ part ∷ []) role accept
          (rw (tokens_with parts part) (some_with (tokens_of_parts parts) (tokens_of_part part)
          (part_some part says))) (says_with parts part (holds.says id) says) (rw heard at prefix),
      says,
    )
