-- How many octets of a body wait on a stream, by what an end keeps of it.
use Rattle.h2_ends.proofs.Names
use Names.{◌≡◌, ◌≢◌, ◌⊎◌, ℕ, ◌+◌, ◌-◌, List, [], ◌∷◌, ◌++◌, length, drop, Option}
use Names.{Some, None, refl, sym, ap, ◌∙◌, inl, inr, arith, both_ways, option_map, length-drop}
use Names.{Field}
use Names.{active, IsOver, Outgoing, Stream, Waiting, Token, OctetToken, EndToken, trailers_tokens}
use Names.{EndLog, IsOutgoing, IsKept, EndRepresents, End, Values, kept_at}
use Names.{outgoing_in}
use Names.{cases_Bool, tokens_out, drop-append_seam, append-nil, Said, said_for, said_tokens}
use Names.{tokens_waiting}
use Rattle.std.proofs.Common.{map as each}
use Rattle.h2_ends.specs.EndCalls.{octets_among, unsent_on}
use Rattle.h2_ends.specs.Represents.{KeepsActive}
use Rattle.h2_ends.proofs.EndSteps.{outgoing_kept}
use Rattle.h2_ends.proofs.PumpTokens.{said_is, waiting_is_kept, none_unsaid}
use Rattle.h2_ends.specs.declared.outgoing.Outgoing.TheVariants as outgoings

-- how many octets of a body are left of what is kept
unfoldable pub octets_kept : Outgoing → ℕ
octets_kept (outgoings.Waiting waiting) = length waiting.body.items - waiting.sent
octets_kept outgoing = 0

-- They are some only where a message waits.
pub none_kept : (outgoing : Outgoing)
    → ((waiting : Waiting) → outgoing ≡ outgoings.Waiting waiting → ⊥) → octets_kept outgoing ≡ 0
unfolding octets_kept
none_kept outgoings.NotGiven other = refl
none_kept (outgoings.Open rest) other = refl
none_kept (outgoings.Waiting waiting) other = absurd (other waiting refl)
none_kept outgoings.Sent other = refl

pub some_kept : (outgoing : Outgoing) (waiting : Waiting) → outgoing ≡ outgoings.Waiting waiting
    → octets_kept outgoing ≡ length waiting.body.items - waiting.sent
unfolding octets_kept
some_kept outgoing waiting is = rw is refl

-- Octets count, and then what follows them, where trailers and the end do not.
pub octets_then : (octets : List ℕ) (tail : List Token)
    → octets_among (each OctetToken octets ++ tail) ≡ length octets + octets_among tail
unfolding octets_among
octets_then [] tail = omega arith
octets_then (octet ∷ octets) tail = omega (arith, octets_then octets tail)

pub tail_without : (trailers : Option (List Field))
    → octets_among (trailers_tokens trailers ++ EndToken ∷ []) ≡ 0
unfolding octets_among trailers_tokens
tail_without None = refl
tail_without (Some list) = refl

-- Where all that was accepted was sent, none wait.
none_out : (end : EndLog) (id : ℕ) (said : Said) → said_for id end.accepted ≡ Some said
    → said_tokens said ≡ tokens_out end id → octets_among (tokens_waiting end id) ≡ 0
unfolding octets_among
none_out end id said accepted all =
    ap octets_among (ap (drop (length (tokens_out end id)))
    (said_is end id said accepted ∙ all ∙ sym (append-nil (tokens_out end id)))
    ∙ drop-append_seam (tokens_out end id) [])

among_kept : (end : EndLog) (id : ℕ) (outgoing : Outgoing) → IsOutgoing end id outgoing
    → octets_kept outgoing ≡ octets_among (tokens_waiting end id)
unfolding IsOutgoing octets_kept octets_among
among_kept end id outgoings.NotGiven is = sym (ap octets_among (none_unsaid end id is.0))
among_kept end id (outgoings.Open rest) is = sym (none_out end id is.said is.accepted is.out)
among_kept end id (outgoings.Waiting waiting) is =
    sym (ap octets_among (waiting_is_kept end id waiting is)
    ∙ octets_then (drop waiting.sent waiting.body.items) (trailers_tokens (option_map
    (λ fields. fields.items) waiting.trailers) ++ EndToken ∷ [])
    ∙ ap (λ (n : ℕ). length (drop waiting.sent waiting.body.items) + n)
    (tail_without (option_map (λ fields. fields.items) waiting.trailers))
    ∙ omega (arith, length-drop waiting.sent waiting.body.items))
among_kept end id outgoings.Sent is = sym (none_out end id is.said is.accepted is.out)

-- Of a stream that isn't active nothing is kept.
none_inactive : (kept : Option Stream) → (kept ≢ None → ⊥) → octets_kept (outgoing_in kept) ≡ 0
unfolding octets_kept
none_inactive None none = refl
none_inactive (Some stream) none = absurd (none (λ same. cc))

-- What waits on the stream, by what is kept of it.
unsent_by : (end : EndLog) (id : ℕ) (kept : Option Stream) → KeepsActive end.log kept id
    → IsOver end.log id ⊎ IsKept end id kept → octets_kept (outgoing_in kept) ≡ unsent_on end id
unfolding unsent_on
unsent_by end id kept keeps is = elim (cases_Bool (active end.log id)) [
  | inl alive ↦ rw alive (elim is [
    | inl past ↦ absurd (both_ways _ past.not_active alive)
    | inr here ↦ among_kept end id (outgoing_in kept) (outgoing_kept end id kept here)
  ])
  | inr over ↦ rw over (none_inactive kept (λ some. both_ways _ over (keeps some)))
]

pub unsent_here : (values : Values) (now : End) (end : EndLog) (id : ℕ) (kept : Option Stream)
    → kept ≡ kept_at id now.streams.entries → EndRepresents values now end
    → octets_kept (outgoing_in kept) ≡ unsent_on end id
unsent_here values now end id kept was is =
    unsent_by end id kept (rw was (is.active id)) (rw was (is.streams.streams id))
