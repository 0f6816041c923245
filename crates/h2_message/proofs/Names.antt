-- The names of std, of the crates below and of definitions that several proofs cite, in one place.
unfoldable pub use Rattle.h2_message.specs.Classes.{method_class, path_class, status_class}
unfoldable pub use Rattle.h2_message.specs.Fields.{value_of, is_named, value_or_nothing}
unfoldable pub use Rattle.h2_message.specs.Fields.{has_bad_status, is_interim, declared_length}
unfoldable pub use Rattle.h2_message.specs.Fields.{has_bad_length, is_colon_first, or_nothing}
unfoldable pub use Rattle.h2_message.specs.Fields.{is_pseudo, pseudo_names, has_unknown_pseudo}
unfoldable pub use Rattle.h2_message.specs.Fields.{has_pseudo_twice, has_late_pseudo}
unfoldable pub use Rattle.h2_message.specs.Fields.{has_connection_field, is_unknown_pseudo}
unfoldable pub use Rattle.h2_message.specs.Fields.{lacks_pseudo, has_bad_method, has_bad_path}
unfoldable pub use Rattle.h2_message.specs.Fields.{has_bad_name, has_bad_value, is_regular}
unfoldable pub use Rattle.h2_message.specs.Fields.{connection_names, lengths_of, differ}
unfoldable pub use Rattle.h2_message.specs.Fields.{first_number, has_pseudo, required_names}
unfoldable pub use Rattle.h2_message.specs.Fields.{is_connection_field}
unfoldable pub use Rattle.h2_message.specs.Lengths.{length_to_send, breaks_length, length_after}
unfoldable pub use Rattle.h2_message.specs.Lengths.{broken_by_trailers}
unfoldable pub use Rattle.h2_message.specs.Messages.{first_broken, head_rules, interim_rules}
unfoldable pub use Rattle.h2_message.specs.Messages.{is_without_content, response_head_rules}
unfoldable pub use Rattle.h2_message.specs.Messages.{trailer_rules, differs_from}
unfoldable pub use Rattle.h2_message.specs.Messages.{request_head_rules, trailer_fields}
unfoldable pub use Rattle.h2_message.specs.Messages.{has_wrong_body, request_rules, response_rules}
unfoldable pub use Rattle.h2_message.specs.Octets.{number_written, is_bad_after_first}
unfoldable pub use Rattle.h2_message.specs.Octets.{is_bad_in_value, is_bad_length, is_bad_in_name}
unfoldable pub use Rattle.h2_message.specs.Octets.{is_bad_name, is_token_octet, is_bad_method}
unfoldable pub use Rattle.h2_message.specs.Octets.{is_bad_path, is_bad_status, is_interim_status}
unfoldable pub use Rattle.h2_message.specs.Octets.{begins_blank, is_blank, is_token}
unfoldable pub use Rattle.h2_message.specs.Octets.{begins_with_slash, is_status_code}
unfoldable pub use Rattle.h2_message.specs.Phases.{phase_in_body, phase_after, phase_after_all}
unfoldable pub use Rattle.h2_message.specs.Phases.{phase_after_data, is_short, phase_after_head}
unfoldable pub use Rattle.h2_message.specs.Phases.{phase_after_final, asks_head_first, ends_message}
unfoldable pub use Rattle.h2_message.specs.Phases.{place_at_head, place_in}
unfoldable pub use Rattle.h2_message.specs.Reading.{compared_length, final_rules, IsDeclared}
unfoldable pub use Rattle.h2_message.specs.Reading.{AreSoundTrailers, ended, message_parts}
unfoldable pub use Rattle.h2_message.specs.Reading.{AreSoundInterims, trailers_parts, final_parts}
unfoldable pub use Rattle.h2_message.specs.Octets.{is_low, is_unusual}
unfoldable pub use Rattle.h2_message.specs.Scans.{HasPseudo}
pub use Rattle.std.proofs.Common.{◌∙◌, ◌≡◌, sym, refl, false, true, ap, ℕ, Bool, List, Some, Option}
pub use Rattle.std.proofs.Common.{None, [], codes, ◌||◌, ◌∷◌, length, not, arith, ◌++◌, ◌<◌, ◌≤◌}
pub use Rattle.std.proofs.Common.{◌&&◌, drop, ap₂, ◌+◌, cond, inl, inr, get_or, ◌-◌, take, eqb}
pub use Rattle.std.proofs.Common.{if◌then◌else◌, nat_eq, ◌^◌, leb, bit_or, ◌⊎◌, map, reverse, rules}
pub use Rattle.std.proofs.Math.Bool.{or-false, or-true, and-false, and-true}
pub use Rattle.std.proofs.Math.ListN.{drop_of_length-le}
pub use Rattle.std.proofs.lemmas.Bool.{le-ltb, lt-ltb, eqb-true, or_parts, false≢true, true≢false}
pub use Rattle.std.proofs.lemmas.Grind.{common_steps}
pub use Rattle.std.proofs.lemmas.List.{drop_more, drop_all, length-replicate}
pub use Rattle.std.proofs.lemmas.List.Folds.{list_any-append, list_any_at}
pub use Rattle.std.proofs.lemmas.List.Sums.{sum_by-cons, sum_by-append}
pub use Rattle.std.proofs.lemmas.Slice.Eq.{bytes_eq-Decides}
pub use Rattle.std.specs.Cmp.Lexicographic.{pointwise}
pub use Rattle.std.specs.List.{list_any, sum_by, AllByRecursion, count_by, filter}
pub use Rattle.std.specs.Option.{is_some, option_or, unwrap_or, option_eq, option_map}
pub use Rattle.std.specs.Str.{bytes_eq, all_ascii_digits, str_eq_ignore_ascii_case, byte}
pub use Rattle.h2_message.specs.Fields.{status_of}
pub use Rattle.h2_message.specs.Lengths.{broken_by_head}
pub use Rattle.h2_message.specs.Messages.{broken_by_request, broken_by_response, SentMessage}
pub use Rattle.h2_message.specs.Messages.{asks_head}
pub use Rattle.h2_message.specs.Octets.{is_bad_value}
pub use Rattle.h2_message.specs.Phases.{place_after}
pub use Rattle.h2_message.specs.Reading.{Part, FieldsPart, OctetsPart, IsWellRead, BreakNone}
pub use Rattle.h2_message.specs.Reading.{IsReadable, ReadMessage, as_read}
pub use Rattle.h2_message.specs.Scans.{IsScan}
pub use Rattle.h2_message.specs.declared.classes.Path.{Path}
pub use Rattle.h2_message.specs.declared.kind.Kind.{Kind}
pub use Rattle.h2_message.specs.declared.kind.Kind.TheVariants.{Request, Response}
pub use Rattle.h2_message.specs.declared.malformed.Malformed.{Malformed}
pub use Rattle.h2_message.specs.declared.malformed.Malformed.TheVariants.{BadName, BadValue}
pub use Rattle.h2_message.specs.declared.malformed.Malformed.TheVariants.{PseudoPlace}
pub use Rattle.h2_message.specs.declared.malformed.Malformed.TheVariants.{PseudoUnknown}
pub use Rattle.h2_message.specs.declared.malformed.Malformed.TheVariants.{PseudoTwice}
pub use Rattle.h2_message.specs.declared.malformed.Malformed.TheVariants.{PseudoMissing}
pub use Rattle.h2_message.specs.declared.malformed.Malformed.TheVariants.{ConnectionField}
pub use Rattle.h2_message.specs.declared.malformed.Malformed.TheVariants.{BadLength, BadMethod}
pub use Rattle.h2_message.specs.declared.malformed.Malformed.TheVariants.{BadPath, BadStatus}
pub use Rattle.h2_message.specs.declared.reading.Phase.{Phase}
pub use Rattle.h2_message.specs.declared.reading.Phase.TheVariants.{AtHead, InBody, AtEnd}
pub use Rattle.h2_message.specs.declared.reading.Reads.{Reads}
pub use Rattle.h2_message.specs.declared.reading.Reads.TheVariants.{Responses, Requests}
pub use Rattle.h2_message.specs.declared.scan.Scan.{Scan}
pub use Rattle.hpack.specs.declared.types.field.Field.{Field}
pub use denote.Enum.Bare.{sameb}
pub use Rattle.h2_message.specs.ScanSteps.{with_field, HasSeenPseudo, IsSameOfPseudo}
