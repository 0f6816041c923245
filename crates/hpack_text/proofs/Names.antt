-- The names of std, of the crates below and of definitions that several proofs cite, in one place.
unfoldable pub use Rattle.hpack_text.specs.Bits.{bits_of, octets_of_bits, number_of_bits}
unfoldable pub use Rattle.hpack_text.specs.Huffman.{code, huffman_bits, groups, code_in}
unfoldable pub use Rattle.hpack_text.specs.Integers.{integer, continuation_of}
unfoldable pub use Rattle.hpack_text.specs.Tree.{tree}
pub use Rattle.std.proofs.Common.{arith, ◌≡◌, ℕ, ◌≤◌, ap, ◌∙◌, List, ◌++◌, length, ◌<◌, sym, refl}
pub use Rattle.std.proofs.Common.{◌+◌, ◌*◌, subst, take, ◌^◌, Bool, [], ◌∷◌, suc, length-append}
pub use Rattle.std.proofs.Common.{rules, get_or, zero, true, ◌%◌, ap₂, ◌-◌, ◌/◌, append_assoc}
pub use Rattle.std.proofs.Common.{append-nil, drop, Option, vec_capacity, false, replicate, Some}
pub use Rattle.std.proofs.Common.{None, inr, ◌&&◌, nat_lt, if◌then◌else◌, pow_pos, inl, Result}
pub use Rattle.std.proofs.Common.{nat_le, ltb-true, Ok, Err, MatchResult, pow_mono, leb-true, OnErr}
pub use Rattle.std.proofs.Common.{below_more, vec_len}
pub use Rattle.std.proofs.lemmas.Bool.{and_parts, false≢true, cases_lt, lt-leb}
pub use Rattle.std.proofs.lemmas.Grind.{common_steps, flat_map-append}
pub use Rattle.std.proofs.lemmas.List.{length-take-le, take-append-drop, take_all, take_more}
pub use Rattle.std.proofs.lemmas.Result.{err_from_is_err_and, on_ok_weaker, on_err_weaker}
pub use Rattle.std.specs.List.{AllByRecursion}
pub use Rattle.hpack_text.specs.Appended.{Appends, IsExtended, AppendsPadded}
pub use Rattle.hpack_text.specs.Bits.{IsOctet, bits}
pub use Rattle.hpack_text.specs.Huffman.{codes, HasEndSymbol}
pub use Rattle.hpack_text.specs.Integers.{continuation_value, all_ones, Int, AreContinuation}
pub use Rattle.hpack_text.specs.States.{prefix_of, stepped, ReadsBits, IsHalfStep, code_if_some}
pub use Rattle.hpack_text.specs.declared.fault.TextFault.{TextFault}
