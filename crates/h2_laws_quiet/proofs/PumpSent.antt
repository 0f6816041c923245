-- What a pump sends on a stream it sends of what waits, and it stays sent.
use Rattle.std.proofs.Common.{◌≡◌, inl, inr, ℕ, ◌+◌, ◌==◌}
use Rattle.std.proofs.Common.{◌&&◌}
use Rattle.std.proofs.Common.{Bool, true, false, List, []}
use Rattle.std.proofs.Common.{◌∷◌, ◌++◌, length, Option, refl, sym, ap, ◌∙◌}
use Rattle.std.proofs.Common.{append-nil, append_assoc, subst, map as each}
use Rattle.std.proofs.Common.{take, drop, drop-drop, length-append, is_none}
use Rattle.std.proofs.Math.Seq.{drop-append_seam}
use Rattle.std.proofs.lemmas.Bool.{cases_eq, and_parts}
use Rattle.std.proofs.lemmas.Bool.{eqb-true}
use Rattle.hpack.specs.declared.types.field.Field.{Field}
use Rattle.h2_spec_log.specs.declared.refusal.Refusal.{Refusal}
use Rattle.h2_spec_log.specs.Acts.{Act, Answer, SendFields, SendData, Count, Done, Refused}
unfoldable use Rattle.h2_spec_log.specs.Log.{waiting, output}
use Rattle.h2_laws_pair.specs.Tokens.{Token, OctetToken, EndToken}
unfoldable use Rattle.h2_laws_pair.specs.Tokens.{tokens_of_call, end_tokens, trailers_tokens}
use Rattle.h2_ends.specs.Ends.{EndLog, tokens_out, tokens_said, tokens_waiting}
use Rattle.h2_ends.specs.EndCalls.{BodyWaits, TrailersWait, Pumps}
use Rattle.h2_ends.specs.EndCalls.{pumps_no_more, pumps_data, pumps_trailers, data_refused}
use Rattle.h2_ends.specs.EndCalls.{trailers_refused}
unfoldable use Rattle.h2_ends.specs.EndCalls.{MayPump, octets_among, unsent_on}
use Rattle.h2_ends.specs.Pumping.{end_after_call}
use Rattle.h2_ends.proofs.EndTokens.{refused_tokens}
use Rattle.h2_ends.proofs.PumpStuck.{out_after}
use Rattle.h2_ends.proofs.PumpStuck.{data_none, fields_none}
use Rattle.h2_ends.proofs.PumpTokens.{data_tokens, fields_tokens, octets_split}
use Rattle.h2_ends.proofs.PumpTokens.{octets_all}
use Rattle.h2_laws_quiet.proofs.PumpOctets.{among_both}

-- These tokens were sent on a stream since, of what waited.
pub record SentSince (before after : EndLog) (i : ℕ) (more : List Token) : Type 0 where
  pub out : tokens_out after i ≡ tokens_out before i ++ more
  pub waited : tokens_waiting before i ≡ more ++ tokens_waiting after i

-- So as many octets of a body less wait as are among them.
pub among_since : (before after : EndLog) (i : ℕ) (more : List Token)
    → SentSince before after i more → octets_among (tokens_waiting before i)
    ≡ octets_among more + octets_among (tokens_waiting after i)
among_since before after i more since =
    ap octets_among since.waited ∙ among_both more (tokens_waiting after i)

pub sent_then : (one two three : EndLog) (i : ℕ) (first then : List Token)
    → SentSince one two i first → SentSince two three i then
    → SentSince one three i (first ++ then)
sent_then one two three i first then a b = record {
  out = b.out ∙ ap (λ (line : List Token). line ++ then) a.out
      ∙ append_assoc (tokens_out one i) first then;
  waited = a.waited ∙ ap (λ (line : List Token). first ++ line) b.waited
      ∙ sym (append_assoc first then (tokens_waiting three i));
}

module _ (end : EndLog) (act : Act) (answer : Answer) (i : ℕ) where
  -- Where what a call sends is first of what waits, the rest waits after it.
  pub waits_then : (rest : List Token) → tokens_waiting end i ≡ tokens_of_call i act answer ++ rest
      → tokens_waiting (end_after_call end act answer) i ≡ rest
  waits_then rest is =
      let call = tokens_of_call i act answer in
      ap (λ (n : ℕ). drop n (tokens_said end i))
      (ap length (out_after end act answer i) ∙ length-append (tokens_out end i) call)
      ∙ sym (drop-drop (length call) (length (tokens_out end i)) (tokens_said end i))
      ∙ ap (drop (length call)) is ∙ drop-append_seam call rest

  sent_by : (rest : List Token) → tokens_waiting end i ≡ tokens_of_call i act answer ++ rest
      → SentSince end (end_after_call end act answer) i (tokens_of_call i act answer)
  sent_by rest is = record {
    out = out_after end act answer i;
    waited = is ∙ ap (λ (line : List Token). tokens_of_call i act answer ++ line)
        (sym (waits_then rest is));
  }

  -- A call that sends nothing there leaves what waits.
  sent_none_by : tokens_of_call i act answer ≡ []
      → SentSince end (end_after_call end act answer) i (tokens_of_call i act answer)
  sent_none_by none =
      sent_by (tokens_waiting end i)
      (ap (λ (line : List Token). line ++ tokens_waiting end i) (sym none))

-- What is sent of a body, without the end or whole and with it, is first of what waits.
body_rest : (octets : List ℕ) (trailers : Option (List Field)) (n : ℕ) (ended : Bool)
    → (ended ≡ true → (n ≡ length octets) × (is_none trailers ≡ true))
    → (rest : List Token)
    × (each OctetToken octets ++ (trailers_tokens trailers ++ EndToken ∷ [])
    ≡ (each OctetToken (take n octets) ++ end_tokens ended) ++ rest)
unfolding end_tokens
body_rest octets trailers n true whole =
    ([], sym (append-nil _ ∙ octets_all octets trailers n (whole refl).0 (whole refl).1))
body_rest octets trailers n false whole =
    let tail = trailers_tokens trailers ++ EndToken ∷ [] in (
      each OctetToken (drop n octets) ++ tail,
      sym (ap (λ (line : List Token). line ++ (each OctetToken (drop n octets) ++ tail))
          (append-nil (each OctetToken (take n octets))) ∙ octets_split octets tail n),
    )

module _ (end : EndLog) (id : ℕ) where
  -- Octets that a pump sends are of what waits on their stream, and nothing goes on another one.
  pub data_sent : (sent : ℕ) (octets : List ℕ) (ends : Bool) (i : ℕ) → BodyWaits end id octets ends
      → SentSince end (end_after_call end (SendData id octets ends) (Count sent)) i
      (tokens_of_call i (SendData id octets ends) (Count sent))
  data_sent sent octets ends i waits = elim (cases_eq i id) [
    | inl same ↦ subst (λ (j : ℕ). SentSince end
        (end_after_call end (SendData id octets ends) (Count sent)) j
        (tokens_of_call j (SendData id octets ends) (Count sent))) (sym same) here
    | inr other ↦
        sent_none_by end (SendData id octets ends) (Count sent) i
        (data_none i id octets ends (Count sent) other)
  ]
    where
      here : SentSince end (end_after_call end (SendData id octets ends) (Count sent)) id
          (tokens_of_call id (SendData id octets ends) (Count sent))
      here =
          let split = body_rest octets waits.trailers sent (ends && sent == length octets)
          (λ all. let parts = and_parts _ _ all in
          (eqb-true sent (length octets) parts.1, sym waits.ends_is ∙ parts.0)) in
          sent_by end (SendData id octets ends) (Count sent) id split.0
          (waits.waits ∙ split.1 ∙ ap (λ (line : List Token). line ++ split.0)
          (sym (data_tokens id octets ends sent)))

  -- Trailers are all that waits.
  pub all_waited : (list : List Field) → TrailersWait end id list
      → tokens_waiting end id ≡ tokens_of_call id (SendFields id list true) Done ++ []
  all_waited list wait = wait ∙ sym (append-nil _ ∙ fields_tokens id list)

  pub trailers_sent : (list : List Field) (i : ℕ) → TrailersWait end id list
      → SentSince end (end_after_call end (SendFields id list true) Done) i
      (tokens_of_call i (SendFields id list true) Done)
  trailers_sent list i wait = elim (cases_eq i id) [
    | inl same ↦ subst (λ (j : ℕ). SentSince end
        (end_after_call end (SendFields id list true) Done) j
        (tokens_of_call j (SendFields id list true) Done)) (sym same)
        (sent_by end (SendFields id list true) Done id [] (all_waited list wait))
    | inr other ↦
        sent_none_by end (SendFields id list true) Done i
        (fields_none i id list true Done other)
  ]

-- What a pump sends on a stream it sends of what waits, and it stays sent.
pub stays_out : (end after : EndLog) (count : ℕ) (refused : Option Refusal) (i : ℕ)
    → Pumps end count refused after → (more : List Token) × SentSince end after i more
stays_out end _ _ _ i (pumps_no_more _) =
    ([], record { out = sym (append-nil (tokens_out end i)); waited = refl })
stays_out end _ _ _ i (pumps_data _ id sent more octets ends refused after next typed waits may
    pumps) =
    let rest = stays_out _ after more refused i pumps in
    (_, sent_then end _ after i _ rest.0 (data_sent end id sent octets ends i waits) rest.1)
stays_out end _ _ _ i (pumps_trailers _ id more list refused after next typed wait may pumps) =
    let rest = stays_out _ after more refused i pumps in
    (_, sent_then end _ after i _ rest.0 (trailers_sent end id list i wait) rest.1)
stays_out end _ _ _ i (data_refused _ id octets ends refusal next typed waits may) = (
  _,
  sent_none_by end (SendData id octets ends) (Refused refusal) i
      (refused_tokens i (SendData id octets ends) refusal),
)
stays_out end _ _ _ i (trailers_refused _ id list refusal next typed wait may) = (
  _,
  sent_none_by end (SendFields id list true) (Refused refusal) i
      (refused_tokens i (SendFields id list true) refusal),
)

-- Where nothing waits, nothing does later in the pump.
pub none_later : (between after : EndLog) (i : ℕ) (more : List Token)
    → tokens_waiting between i ≡ [] → SentSince between after i more → tokens_waiting after i ≡ []
none_later between after i more none since =
    last_none more (tokens_waiting after i) (sym since.waited ∙ none)
  where
    last_none : (more rest : List Token) → more ++ rest ≡ [] → rest ≡ []
    last_none [] rest is = is
    last_none (token ∷ more) rest is = cc
