-- What is to come of a message, in each phase, and that something can always come.
use Rattle.std.proofs.Common.{replicate}
use Rattle.std.specs.Prelude.{codes}
use Rattle.h2_message.specs.Octets.{is_bad_value}
use Rattle.h2_message.proofs.Names
use Names.{◌≡◌, ℕ, Bool, true, false, List, [], ◌∷◌, length, Option, None, Some, refl, sym, arith}
use Names.{sum_by, length-replicate, sum_by-cons, Field, Reads, Requests, Responses, Phase, AtHead}
use Names.{InBody, AtEnd, is_bad_in_name, is_bad_after_first, is_bad_name, is_bad_in_value}
use Names.{is_blank, begins_blank, is_token_octet, is_token, is_bad_method}
use Names.{begins_with_slash, is_bad_path, is_status_code, is_bad_status, is_interim_status}
use Names.{is_colon_first, is_pseudo, is_regular, is_named, value_of, pseudo_names, required_names}
use Names.{has_bad_name, has_bad_value, has_late_pseudo, is_unknown_pseudo, has_unknown_pseudo}
use Names.{has_pseudo_twice, lacks_pseudo, or_nothing, value_or_nothing, has_bad_method}
use Names.{has_bad_path, has_bad_status, is_interim, connection_names, is_connection_field}
use Names.{has_connection_field, lengths_of, differ, has_bad_length, first_number, declared_length}
use Names.{first_broken, head_rules, request_head_rules, response_head_rules, is_without_content}
use Names.{Part, BreakNone, ReadMessage, final_rules, compared_length, IsDeclared, AreSoundTrailers}
use Names.{AreSoundInterims, IsWellRead, message_parts, ended}
use Rattle.h2_message.proofs.PhaseWhole.{body_parts}

-- the rest of a body
pub record WholeBody (left : Option ℕ) (rest : List (Part × Bool)) : Type 0 where
  pub data_parts : List (List ℕ)
  pub trailers : Option (List Field)
  pub declared : IsDeclared left (sum_by length data_parts)
  pub sound : AreSoundTrailers trailers
  pub some : body_parts data_parts trailers ≡ [] → ⊥
  pub parts : rest ≡ ended (body_parts data_parts trailers)

-- a message from its head on
pub record WholeMessage (reads : Reads) (rest : List (Part × Bool)) : Type 0 where
  pub message : ReadMessage
  pub well : IsWellRead reads message
  pub parts : rest ≡ message_parts message

-- What can come next, to the end of the message.
abbrev pub Completes : Reads → Phase → List (Part × Bool) → Type 0
Completes reads AtHead rest = WholeMessage reads rest
Completes reads (InBody left) rest = WholeBody left rest
Completes reads AtEnd rest = rest ≡ []

-- The sum of one length.
pub one_sum : (octets : List ℕ) → sum_by length (octets ∷ []) ≡ length octets
one_sum octets = rw sum_by-cons (omega arith)

-- a head that breaks no rule and declares no length
abbrev some_head : Reads → List Field
some_head Requests = record { name = codes ":method"; value = codes "GET"; sensitive = false }
    ∷ record { name = codes ":scheme"; value = codes "http"; sensitive = false }
    ∷ record { name = codes ":path"; value = codes "/"; sensitive = false } ∷ []
some_head (Responses to_head) =
    record { name = codes ":status"; value = codes "200"; sensitive = false } ∷ []

some_head_sound : (reads : Reads) → BreakNone (final_rules reads (some_head reads))
unfolding first_broken final_rules request_head_rules response_head_rules head_rules has_bad_name
    has_bad_value has_late_pseudo has_unknown_pseudo has_pseudo_twice lacks_pseudo has_bad_method
    has_bad_path has_bad_status is_interim has_connection_field has_bad_length is_colon_first
    is_pseudo is_regular is_named value_of pseudo_names required_names is_unknown_pseudo or_nothing
    value_or_nothing connection_names is_connection_field lengths_of differ is_bad_in_name
    is_bad_after_first is_bad_name is_bad_in_value is_blank begins_blank is_bad_value is_token_octet
    is_token is_bad_method begins_with_slash is_bad_path is_status_code is_bad_status
    is_interim_status
some_head_sound Requests = refl
some_head_sound (Responses to_head) = refl

some_head_length : (reads : Reads) → IsDeclared (compared_length reads (some_head reads)) 0
unfolding compared_length declared_length lengths_of first_number is_named is_without_content
    value_of or_nothing value_or_nothing IsDeclared
some_head_length Requests = tt
some_head_length (Responses true) = tt
some_head_length (Responses false) = tt

-- No interim response.
pub no_interims : (reads : Reads) → AreSoundInterims reads []
unfolding AreSoundInterims
no_interims Requests = refl
no_interims (Responses to_head) = tt

-- octets that end a body
last_octets : (left : Option ℕ) → (octets : List ℕ) × IsDeclared left (length octets)
unfolding IsDeclared
last_octets None = ([], tt)
last_octets (Some number) = (replicate number 0, sym (length-replicate number 0))

-- Something can come next.
pub something_comes : (reads : Reads) (phase : Phase)
    → (rest : List (Part × Bool)) × Completes reads phase rest
unfolding AreSoundTrailers
something_comes reads AtHead =
    let message : ReadMessage = record {
      interims = [];
      head = some_head reads;
      data_parts = [];
      trailers = None;
    } in (
      message_parts message,
      record {
        message = message;
        well = record {
          interims = no_interims reads;
          head = some_head_sound reads;
          trailers = tt;
          declared = some_head_length reads;
        };
        parts = refl;
      },
    )
something_comes reads (InBody left) =
    let last = last_octets left in (
      ended (body_parts (last.0 ∷ []) None),
      record {
        data_parts = last.0 ∷ [];
        trailers = None;
        declared = rw one_sum last.1;
        sound = tt;
        some = (λ none. cc);
        parts = refl;
      },
    )
something_comes reads AtEnd = ([], refl)
