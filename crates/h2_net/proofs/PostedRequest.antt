-- The request that posts octets is refused for no rule and for no size.
use Rattle.std.proofs.Common.{◌≡◌, ◌≢◌, ◌+◌, ◌%◌, ◌++◌, ◌∷◌, inl, inr, ℕ, [], None, Err, refl}
use Rattle.std.proofs.Common.{Bool, true, false, Some, subst}
use native.Mathlib.Numerals.{unary_clauses}
use Rattle.h2_spec_log.specs.Acts.{Values}
use Rattle.h2_spec_log.specs.CallRules.{conditions, first_of}
use Rattle.h2_spec_log.specs.declared.refusal.Refusal.TheVariants.{Closed, TooManyStreams}
use Rattle.h2_spec_log.specs.declared.refusal.Refusal.TheVariants.{StreamsExhausted, GoingAway}
use Rattle.h2_spec_log.specs.declared.refusal.Refusal.TheVariants.{OutputFull, ListTooLarge}
use Rattle.h2_message.specs.Messages.{SentMessage, broken_by_request, trailer_fields}
use Rattle.h2_message.proofs.examples.Words.{computing}
use Rattle.h2_link.specs.declared.error.LinkError.{LinkError}
use Rattle.h2_link.specs.declared.error.LinkError.TheVariants as errors
use Rattle.h2_engines.specs.Fetches.{IsNotAccepted, IsRefusedMessage, refusal_of_request}
use Rattle.h2_net.specs.Fetching.{default_values}
use Rattle.h2_net.specs.Loopback.{post_request, posted_octets}

abbrev pub same_values : (table window streams frame : ℕ) → Values
same_values table window streams frame = record {
  table_limit = table;
  initial_window = window;
  max_streams = streams;
  max_frame = frame;
}

breaks_no_rule : (count : ℕ) → broken_by_request (post_request count) ≡ None
unfolding computing
breaks_no_rule count = refl

-- Of the conditions of a call that opens a stream the last two don't hold.
never_large : (failed many exhausted going full : Bool)
    → first_of ((failed, Closed) ∷ (many, TooManyStreams) ∷ (exhausted, StreamsExhausted)
    ∷ (going, GoingAway) ∷ (full, OutputFull) ∷ (false, ListTooLarge) ∷ (false, ListTooLarge) ∷ [])
    ≡ Some ListTooLarge → ⊥
unfolding first_of
never_large true many exhausted going full same = absurd (cc)
never_large false true exhausted going full same = absurd (cc)
never_large false false true going full same = absurd (cc)
never_large false false false true full same = absurd (cc)
never_large false false false false true same = absurd (cc)
never_large false false false false false same = absurd (cc)

not_large : (count : ℕ)
    → refusal_of_request default_values (post_request count) ≡ Some ListTooLarge → ⊥
unfolding conditions trailer_fields
not_large count = never_large _ _ _ _ _

not_refused : (count : ℕ) → IsRefusedMessage default_values (post_request count) → ⊥
not_refused count (inl breaks) = breaks (breaks_no_rule count)
not_refused count (inr large) = not_large count large

not_refused_so : (count : ℕ) (error : LinkError)
    → IsNotAccepted default_values (post_request count) (Err error) → error ≢ errors.Refused
not_refused_so count errors.Refused not = absurd (not_refused count not)
not_refused_so count (errors.Stream code) not = absurd not
not_refused_so count errors.Memory not = λ same. cc
not_refused_so count errors.CutOff not = absurd not
not_refused_so count errors.NoProgress not = λ same. cc
not_refused_so count errors.Device not = absurd not
not_refused_so count (errors.Reset code) not = absurd not

pub post_not_refused : (count : ℕ) (values : Values) (message : SentMessage) (error : LinkError)
    → values ≡ default_values → message ≡ post_request count
    → IsNotAccepted values message (Err error) → error ≢ errors.Refused
post_not_refused count values message error same posts not =
    let so = subst (λ (one : Values). IsNotAccepted one message (Err error)) same not in
    not_refused_so count error
    (subst (λ (one : SentMessage). IsNotAccepted default_values one (Err error)) posts so)

-- The values of a default configuration are these.
pub of_fields : (table window streams frame : ℕ) → table ≡ 4096 → window ≡ 65535 → streams ≡ 100
    → frame ≡ 16384 → same_values table window streams frame ≡ default_values
of_fields table window streams frame a b c d = rw (a, b, c, d) refl

-- Each octet is followed by the next one.
pub one_more_octet : (place : ℕ)
    → posted_octets (place + 1) ≡ posted_octets place ++ place % 251 ∷ []
unfolding posted_octets
one_more_octet place = simp unary_clauses refl
