-- The names of std, of the crates below and of definitions that several proofs cite, in one place.
pub use Rattle.std.proofs.Common.{◌≡◌, ◌≢◌, ◌∙◌, ◌++◌, ◌∷◌, ◌&&◌, ◌||◌, ◌==◌, ◌+◌, ℕ, [], List}
pub use Rattle.std.proofs.Common.{refl, sym, ap}
pub use Rattle.std.proofs.Common.{subst, append_assoc, append-nil, Bool, true, false, not, length}
pub use Rattle.std.proofs.Common.{Option, Some, None, if◌then◌else◌, rules, arith, MatchBool, map}
pub use Rattle.std.proofs.Common.{inl, inr, ◌⊎◌, take, Result, Ok, Err, IfOk, IfErr, IfSome, OnOk}
pub use Rattle.std.proofs.lemmas.Grind.{common_steps}
pub use Rattle.std.specs.Option.{is_some}
pub use Rattle.std.specs.Io.KnownBytes.{Appends}
pub use Rattle.h2_cli.specs.declared.status.Status.{Status}
pub use Rattle.h2_cli.specs.declared.status.Status.TheVariants.{Good, Fault}
pub use Rattle.h2_show.specs.declared.options.Side.{Side}
pub use Rattle.h2_show.specs.declared.options.Side.TheVariants.{Client, Server}
pub use Rattle.h2_show.specs.declared.viewer.ShowError.{ShowError}
pub use Rattle.h2_show.specs.declared.viewer.Viewer.{Viewer}
pub use Rattle.h2_show.specs.declared.options.Style.{Style}
pub use Rattle.h2_show.specs.Printed.{ViewerShows, ViewerPrints, ViewerFailsWith, error_lines}
pub use Rattle.h2_show.specs.ShownLines.{ShowLine}
pub use Rattle.h2_show.specs.Styles.{places_past, text_from, styled_text}
pub use Rattle.h2_show.specs.Printed.{end_lines}
pub use Rattle.h2_show.specs.Report.{begins_with_preface}
pub use Rattle.h2_show.specs.Viewer.{IsStreamFault}
pub use Rattle.h2_follow.specs.declared.one_side.OneSide.{OneSide}
pub use Rattle.h2_follow.specs.FollowText.{Line, OfSide, Piece}
pub use Rattle.h2_follow.specs.Follower.{SideAdvances, EndsSide, SideShows, FollowerReads}
pub use Rattle.h2_follow.specs.Follows.{marked_of, output_of}
pub use Rattle.h2_follow.specs.InForce.{Bound}
pub use Rattle.h2_follow.specs.Stretches.{Stretches, Stretch}
pub use Rattle.h2_frame.specs.Frames.{Frame}
pub use Rattle.h2_follow.specs.declared.text.Node.{Node}
pub use Rattle.h2_follow.specs.declared.follower.Follower.{Follower}
pub use Rattle.h2_follow.specs.FollowText.{client_of, sided, side_of_node}
pub use Rattle.h2_follow.specs.Follower.{FollowerShows, FollowerTakes, KnowsClient}
pub use Rattle.h2_follow.specs.Follower.{ChoosesClient}
