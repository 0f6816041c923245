-- The names of std and of the crates below that several proofs cite, passed on from one place.
pub use Rattle.h2_spec_machine.proofs.SortedEntries.{above_found, both_same}
pub use Rattle.h2_spec_machine.specs.End.{active_entry, any_above, reset_entry, stream_in}
pub use Rattle.h2_spec_machine.specs.End.{StreamEntry, StreamMap}
pub use Rattle.h2_streams.specs.Streams.{is_above_by_shift, stream_view}
pub use Rattle.h2_streams.specs.Table.{active_at, greater_of, is_far_offset, is_reset, IsKeptWell}
pub use Rattle.h2_streams.specs.Table.{IsNearKept, view_of_kept}
unfoldable pub use Rattle.h2_streams.specs.Table.{active_map, with_resets}
pub use Rattle.h2_streams.specs.declared.table.Kept.{Kept}
pub use Rattle.std.proofs.Common.{[], ap, arith, Bool, cond, false, IfSome, int_lt, IsSome, length}
pub use Rattle.std.proofs.Common.{List, nat_eq, nat_lt, None, Option, pos, refl, rules, Some, sym}
pub use Rattle.std.proofs.Common.{true, ℕ, ℤ, ◌+ℤ◌, ◌+◌, ◌-ℤ◌, ◌<◌, ◌^◌, ◌∙◌, ◌∷◌, ◌≡◌, ◌≤ℤ◌}
pub use Rattle.std.proofs.lemmas.Bool.{both_ways, ltb-false, ltb-true}
pub use Rattle.std.proofs.lemmas.Int.{ints, to_z-of_z}
pub use Rattle.std.proofs.lemmas.List.{length_push}
pub use Rattle.std.proofs.lemmas.Map.Entries.{hash_map_get_place, place_from_lookup}
pub use Rattle.std.proofs.lemmas.Map.Iter.{iter_end, iter_turn}
pub use Rattle.std.proofs.lemmas.Option.{slice_get-map, slice_get_within}
pub use Rattle.std.specs.Cmp.{nat_cmp_total, nat_eq_equiv, unsigned_tied}
pub use Rattle.std.specs.HashMap.{HashMap, IsUnique}
pub use Rattle.std.specs.List.{slice_get}
pub use Rattle.std.specs.Map.{keys_of, values_of}
pub use Rattle.std.specs.Map.Iter.{deref}
pub use Rattle.std.specs.Option.{is_some, option_map}
pub use Rattle.std.specs.Ordering.{nat_cmp}
pub use mir.Syntax.{w64}
pub use mir.Val.{of_z, SFits, to_z}
