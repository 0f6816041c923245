-- The names of std, of the crates below and of definitions that several proofs cite, in one place.
unfoldable pub use Rattle.hpack.specs.Chains.{LeadsTo, AreLinked}
unfoldable pub use Rattle.hpack.specs.Choice.{choice, size_updates, encoding_of_fields, block_of}
unfoldable pub use Rattle.hpack.specs.Choice.{after_fields, after_block, least_index}
unfoldable pub use Rattle.hpack.specs.FieldLists.{field_of}
unfoldable pub use Rattle.hpack.specs.Hashes.{mixed, hash_words, short_word, hash_from}
unfoldable pub use Rattle.hpack.specs.Limits.{updates_for_limits}
unfoldable pub use Rattle.hpack.specs.Sizes.{fit}
unfoldable pub use Rattle.hpack.specs.Sought.{first_index}
unfoldable pub use Rattle.hpack.specs.Static.{static_entries, entry}
unfoldable pub use Rattle.hpack_text.specs.Integers.{integer, continuation_of}
unfoldable pub use Rattle.hpack_text.specs.Strings.{string}
pub use Rattle.std.proofs.Common.{arith, ◌≡◌, length, ◌∙◌, sym, ap, ℕ, List, refl, ◌<◌, ◌∷◌, ◌++◌}
pub use Rattle.std.proofs.Common.{[], take, ◌≤◌, ◌+◌, subst, ◌-◌, false, Bool, get_or, drop, true}
pub use Rattle.std.proofs.Common.{Some, ◌^◌, suc, ◌==◌, length-append, if◌then◌else◌, append_assoc}
pub use Rattle.std.proofs.Common.{inl, inr, Option, zero, None, nat_lt, ◌/◌, length-drop, min, ◌*◌}
pub use Rattle.std.proofs.Common.{◌&&◌, append-nil, ap₂, ◌⊎◌, not, ◌%◌, reverse, Result, Ok, Err}
pub use Rattle.std.proofs.Common.{OnOk, max, take_all, nat_eq, position, ◌≢◌, rules, eq-eqb, set}
pub use Rattle.std.proofs.Math.ListN.{drop_of_length-le}
pub use Rattle.std.proofs.lemmas.Bool.{cases_lt, and_parts, ne_eqb, lt-ltb, le-ltb, lt-leb}
pub use Rattle.std.proofs.lemmas.Bool.{eqb-true, cases_eq, leb-true, ltb-false, le-leb, false≢true}
pub use Rattle.std.proofs.lemmas.Bool.Decides.{nat_tests}
pub use Rattle.std.proofs.lemmas.Grind.{common_steps}
pub use Rattle.std.proofs.lemmas.List.{drop_more, drop-drop, get_or-drop, take_more, length-take-le}
pub use Rattle.std.proofs.lemmas.List.Sums.{sum_by-cons, sum_by-append, sum_by_push}
pub use Rattle.std.proofs.lemmas.Nat.{le_bytes_8, one_shl}
pub use Rattle.std.proofs.lemmas.Option.{slice_get-get_or, get_or_from_slice_get, slice_get_past}
pub use Rattle.std.proofs.lemmas.Result.{err_from_is_err_and, IfErr-weaker, IfOk-weaker}
pub use Rattle.std.specs.List.{slice_get, AllByRecursion, flat_map, sum_by, prefix_len}
pub use Rattle.std.specs.Option.{option_map_or, option_map, option_copied}
pub use Rattle.circular_buffer.specs.Buffer.{Buffer, buffer}
pub use Rattle.hpack.specs.Blocks.{Step, FirstOctet, Block, LiteralName, after_literal, Update}
pub use Rattle.hpack.specs.Blocks.{Fields, Updates, LiteralHead, is_sensitive, by_index, by_literal}
pub use Rattle.hpack.specs.Chains.{name_bucket, bucket_by, IsIndexOf, AreChains}
pub use Rattle.hpack.specs.Choice.{same_octets, encoding_of_field, after_choice, Choice, indexed}
pub use Rattle.hpack.specs.Choice.{literal, after_updates, exact_index, name_index, literal_head}
pub use Rattle.hpack.specs.Choice.{most_octets}
pub use Rattle.hpack.specs.Entry.{Entry}
pub use Rattle.hpack.specs.FieldLists.{fields_of, AreWithin, IsWithin, octets_between}
pub use Rattle.hpack.specs.Hashes.{bucket_of, word_of}
pub use Rattle.hpack.specs.Lists.{EncoderState, list_size, empty_table, IsList}
pub use Rattle.hpack.specs.OwnedLists.{RepresentsOwned, AddsOwned}
pub use Rattle.hpack.specs.PendingTable.{represented, newest_first, IsPendingTable, capacity_of}
pub use Rattle.hpack.specs.PendingTable.{all_added, PreservesAdded}
pub use Rattle.hpack.specs.Prefixes.{IsStep, IsIndex, IsLiteral, NoPrefix, IsInt, UpdatesSoFar}
pub use Rattle.hpack.specs.Prefixes.{IsStr, IsName, prefix_bits_of}
pub use Rattle.hpack.specs.Sizes.{table_size, entry_size, add}
pub use Rattle.hpack.specs.Sought.{is_sought, AreOctetsByPlace}
pub use Rattle.hpack.specs.Tables.{Entries, resized, after_maxima}
pub use Rattle.hpack.specs.Written.{IsValidEncoder, AreOctets}
pub use Rattle.hpack.specs.declared.encode.pending_table.PendingTable.{PendingTable}
pub use Rattle.hpack.specs.declared.encode.search.Sought.{Sought}
pub use Rattle.hpack.specs.declared.encode.search.Sought.TheVariants.{Exact, Name}
pub use Rattle.hpack.specs.declared.types.fault.Fault.{Fault}
pub use Rattle.hpack.specs.declared.types.field.Field.{Field}
pub use Rattle.hpack.specs.declared.types.field_place.FieldPlace.{FieldPlace}
pub use Rattle.hpack.specs.declared.types.literal.Literal.{Literal}
pub use Rattle.hpack.specs.declared.types.literal.Literal.TheVariants.{WithIndexing}
pub use Rattle.hpack.specs.declared.types.literal.Literal.TheVariants.{WithoutIndexing}
pub use Rattle.hpack.specs.declared.types.literal.Literal.TheVariants.{NeverIndexed}
pub use Rattle.hpack.specs.declared.types.read_field.ReadField.{ReadField}
pub use Rattle.hpack_text.proofs.IntegerLemmas.{Int-unique}
pub use Rattle.hpack_text.proofs.StringLemmas.{Str-unique, string_encodes}
pub use Rattle.hpack_text.specs.Appended.{IsExtended}
pub use Rattle.hpack_text.specs.Bits.{IsOctet}
pub use Rattle.hpack_text.specs.Integers.{Int, all_ones}
pub use Rattle.hpack_text.specs.Strings.{Str}
