-- The names of std, of the crates below and of definitions that several proofs cite, in one place.
unfoldable pub use Rattle.h2_show.specs.Lines.{frame_words}
unfoldable pub use Rattle.h2_wire.specs.Streams.{expected_preface, preface}
pub use Rattle.std.proofs.Common.{◌≡◌, [], ℕ, List, ◌++◌, refl, sym, ◌∷◌, length, ◌∙◌, ap, Bool}
pub use Rattle.std.proofs.Common.{false, None, subst, append_assoc, append-nil, take, Option, Some}
pub use Rattle.std.proofs.Common.{if◌then◌else◌, true, arith, not, inl, inr, flat_map, ◌&&◌, drop}
pub use Rattle.std.proofs.Common.{length-append, ◌+◌, rules, ◌-◌, codes, MatchOption, ◌==◌, ◌<◌}
pub use Rattle.std.proofs.Common.{◌≤◌, map, length-take, nat_le, ◌≢◌, IfSome, Result, Ok, Err, IfOk}
pub use Rattle.std.proofs.KnownBytes.{Appends-trans, Consumes-trans, Consumes-whole, Appends-nil}
pub use Rattle.std.proofs.Math.Seq.{take-append_seam, take-add}
pub use Rattle.std.proofs.lemmas.Bool.{not-true, not-false, cases_Bool, false≢true}
pub use Rattle.std.proofs.lemmas.Bool.Decides.{nat_tests}
pub use Rattle.std.proofs.lemmas.Grind.{flat_map-append, common_steps}
pub use Rattle.std.proofs.lemmas.List.{take-append-drop, take-append-le, take_rest, map-append}
pub use Rattle.std.proofs.lemmas.Result.{err_from_is_err_and, on_ok_weaker}
pub use Rattle.std.specs.Io.KnownBytes.{Appends, Consumes, IsAtEnd, Keeps, append_known}
pub use Rattle.std.specs.Option.{is_some}
pub use Rattle.h2_block.specs.Grouping.{Item, alone, block, Begun}
pub use Rattle.h2_frame.specs.Frames.{Frame, Reset, Settings, Ping, GoAway, WindowUpdate, frame_of}
pub use Rattle.h2_frame.specs.Pairs.{pairs_left, lent_pairs}
pub use Rattle.h2_frame.specs.declared.code.Code.{Code}
pub use Rattle.h2_frame.specs.declared.frame.FrameRef.{FrameRef}
pub use Rattle.h2_show.specs.Blocks.{BlocksRepresent, BlockErrorReports, EndsWithBlockError}
pub use Rattle.h2_show.specs.Lines.{frame_line, field_line, pair_words, listing_lines, fault_line}
pub use Rattle.h2_show.specs.Lines.{rest_line, unfinished_line, shown_octets, flag_word}
pub use Rattle.h2_show.specs.ShownLines.{ShowLine, preface_shown, frame_shown, fault_shown}
pub use Rattle.h2_show.specs.ShownLines.{rest_shown, unfinished_shown, Listing, listing_of}
pub use Rattle.h2_show.specs.ShownLines.{decoded_listing}
pub use Rattle.h2_show.specs.Styles.{text_from, styled_text, places_past, AppendsLines}
pub use Rattle.h2_show.specs.declared.options.Style.{Style}
pub use Rattle.h2_show.specs.Printed.{ViewerPrints, BlocksShow, ViewerShows, due_line, error_lines}
pub use Rattle.h2_show.specs.Printed.{end_lines, ShowsAfter, ViewerFailsWith}
pub use Rattle.h2_show.specs.Report.{begins_with_preface, limits_of, StatusReportsOctets}
pub use Rattle.h2_show.specs.Shown.{preface_lines, frame_lines, Shows, AreShown, ShowsInput}
pub use Rattle.h2_show.specs.Viewer.{ViewerContinues, IsStreamFault, ViewerFails}
pub use Rattle.h2_show.specs.declared.blocks.BlockError.{BlockError}
pub use Rattle.h2_show.specs.declared.blocks.Blocks.{Blocks}
pub use Rattle.h2_show.specs.declared.options.ShowOptions.{ShowOptions}
pub use Rattle.h2_show.specs.declared.show.Shown.{Shown}
pub use Rattle.h2_cli.specs.declared.status.Status.{Status}
pub use Rattle.h2_cli.specs.declared.status.Status.TheVariants.{Fault, Good}
pub use Rattle.h2_show.specs.declared.viewer.ShowError.{ShowError}
pub use Rattle.h2_show.specs.declared.viewer.ShowError.TheVariants.{Wire, Block}
pub use Rattle.h2_wire.specs.Cutter.{CutterState, CutterRepresents, CutterFaults, CutterContinues}
pub use Rattle.h2_wire.specs.Cutter.{CutterAdvances, CutterFails}
pub use Rattle.h2_wire.specs.Streams.{Limits, Frames}
pub use Rattle.h2_wire.specs.declared.cut.Cut.{Cut}
pub use Rattle.h2_wire.specs.declared.fault.WireFault.{WireFault}
pub use Rattle.hpack.specs.Lists.{DecodesInto, list_size, HoldsList}
pub use Rattle.hpack.specs.Tables.{Entries}
pub use Rattle.hpack.specs.declared.types.field.Field.{Field}
