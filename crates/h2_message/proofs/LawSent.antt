-- A message that breaks no rule as it is sent breaks none as it is read.
use Rattle.std.specs.Prelude.{◌==◌, nat_lt, if◌then◌else◌}
use Rattle.h2_message.proofs.Names
use Names.{◌≡◌, ℕ, Bool, true, false, List, length, Option, None, Some, sym, ◌∙◌, sum_by}
use Names.{or_parts, eqb-true, Field, Requests, Responses, has_bad_name, has_bad_value}
use Names.{has_late_pseudo, has_pseudo, has_connection_field, has_bad_length, declared_length}
use Names.{SentMessage, trailer_fields, differs_from, has_wrong_body, is_without_content}
use Names.{head_rules, request_head_rules, response_head_rules, trailer_rules, request_rules}
use Names.{response_rules, broken_by_request, broken_by_response, IsWellRead, as_read, final_rules}
use Names.{BreakNone, compared_length, IsDeclared, AreSoundTrailers}
use Rattle.h2_message.proofs.ReadingRules.{none_hold, none_broken}
use Rattle.h2_message.proofs.ReadingWhole.{no_interims}
use Rattle.hpack.proofs.Tests.{not_false as same_by_test}

-- Trailers that break no rule are sound, and so are none.
pub sound_trailers : (trailers : Option (List Field))
    → BreakNone (trailer_rules (trailer_fields trailers)) → AreSoundTrailers trailers
unfolding AreSoundTrailers trailer_fields
sound_trailers None none = tt
sound_trailers (Some fields) none = none

-- A length that doesn't differ is the declared one.
declared_same : (declared : Option ℕ) (sum count : ℕ) → differs_from declared count ≡ false
    → sum ≡ count → IsDeclared declared sum
unfolding differs_from IsDeclared
declared_same None sum count same counted = tt
declared_same (Some number) sum count same counted =
    eqb-true number count (same_by_test (number == count) same) ∙ sym counted

pub sent_request : (message : SentMessage) (data_parts : List (List ℕ))
    → broken_by_request message ≡ None → sum_by length data_parts ≡ length message.body
    → IsWellRead Requests (as_read message data_parts)
unfolding request_rules final_rules request_head_rules head_rules trailer_rules compared_length
sent_request message data_parts none counted =
    let trailers = trailer_fields message.trailers in
    let hold = none_hold (request_rules message) none in
    let name = or_parts (has_bad_name message.head) (has_bad_name trailers) hold.0 in
    let value = or_parts (has_bad_value message.head) (has_bad_value trailers) hold.1.0 in
    let place = or_parts (has_late_pseudo message.head) (has_pseudo trailers) hold.1.1.0 in
    let others = hold.1.1.1 in
    let last = others.1.1.1.1.1 in
    let connection =
    or_parts (has_connection_field message.head) (has_connection_field trailers) last.0 in
    let lengths = or_parts (has_bad_length message.head)
    (differs_from (declared_length message.head) (length message.body)) last.1.0 in
    record {
      interims = no_interims Requests;
      head = none_broken (request_head_rules message.head) (
        name.0,
        (
          value.0,
          (
            place.0,
            (
              others.0,
              (
                others.1.0,
                (
                  others.1.1.0,
                  (
                    others.1.1.1.0,
                    (
                      others.1.1.1.1.0,
                      (connection.0, (lengths.0, tt)),
                    ),
                  ),
                ),
              ),
            ),
          ),
        ),
      );
      trailers = sound_trailers message.trailers (
          none_broken (trailer_rules trailers) (name.1, (value.1, (place.1, (connection.1, tt))))
          );
      declared = declared_same (declared_length message.head) (sum_by length data_parts)
          (length message.body) lengths.1 counted;
    }

-- The length that is compared of a response.
response_declared : (declared : Option ℕ) (without wrong : Bool) (sum count : ℕ)
    → (if without then wrong else differs_from declared count) ≡ false → sum ≡ count
    → IsDeclared (if without then None else declared) sum
unfolding IsDeclared
response_declared declared true wrong sum count none counted = tt
response_declared declared false wrong sum count none counted =
    declared_same declared sum count none counted

pub sent_response : (to_head : Bool) (message : SentMessage) (data_parts : List (List ℕ))
    → broken_by_response to_head message ≡ None → sum_by length data_parts ≡ length message.body
    → IsWellRead (Responses to_head) (as_read message data_parts)
unfolding response_rules final_rules response_head_rules head_rules trailer_rules compared_length
    has_wrong_body
sent_response to_head message data_parts none counted =
    let trailers = trailer_fields message.trailers in
    let hold = none_hold (response_rules to_head message) none in
    let name = or_parts (has_bad_name message.head) (has_bad_name trailers) hold.0 in
    let value = or_parts (has_bad_value message.head) (has_bad_value trailers) hold.1.0 in
    let place = or_parts (has_late_pseudo message.head) (has_pseudo trailers) hold.1.1.0 in
    let others = hold.1.1.1 in
    let last = others.1.1.1.1 in
    let connection =
    or_parts (has_connection_field message.head) (has_connection_field trailers) last.0 in
    let lengths =
    or_parts (has_bad_length message.head) (has_wrong_body to_head message) last.1.0 in
    record {
      interims = no_interims (Responses to_head);
      head = none_broken (response_head_rules message.head) (
        name.0,
        (
          value.0,
          (
            place.0,
            (
              others.0,
              (
                others.1.0,
                (
                  others.1.1.0,
                  (
                    others.1.1.1.0,
                    (
                      connection.0,
                      (lengths.0, tt),
                    ),
                  ),
                ),
              ),
            ),
          ),
        ),
      );
      trailers = sound_trailers message.trailers (
          none_broken (trailer_rules trailers) (name.1, (value.1, (place.1, (connection.1, tt))))
          );
      declared = response_declared (declared_length message.head)
          (is_without_content to_head message.head) (nat_lt 0 (length message.body))
          (sum_by length data_parts) (length message.body) lengths.1 counted;
    }
