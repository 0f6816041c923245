-- The names of std and of the crates below that several proofs cite, passed on from one place.
pub use Rattle.clap.proofs.CallerReads.{signed_reads}
pub use Rattle.clap.proofs.OnLiterals.{clap_on_literals}
pub use Rattle.clap.proofs.WalkLemmas.{first_value-rows, one_text-rows}
pub use Rattle.clap.specs.Built.{IsAuto}
pub use Rattle.clap.specs.Walk.{is_empty}
pub use Rattle.clap.specs.Words.{Accepts, App, app_of, args_of, fault_of, first_of, found_of}
pub use Rattle.clap.specs.Words.{HasKind, is_simple_and_free, IsParsedFrom, one_of, one_text}
pub use Rattle.clap.specs.Words.{read_as, reading_of, ReadsOne, Row, rows_of, Rule, rule_of, Text}
pub use Rattle.clap.specs.Words.{without_minus}
pub use Rattle.clap.specs.declared.builder.arg.Arg.{Arg}
pub use Rattle.clap.specs.declared.builder.command.Command.{Command}
pub use Rattle.clap.specs.declared.builder.value_parser.ValueParser.{ValueParser}
pub use Rattle.clap.specs.declared.builder.value_parser.ValueParser.TheVariants.{Signed}
pub use Rattle.clap.specs.declared.error.kind.ErrorKind.TheVariants.{ArgumentConflict, DisplayHelp}
pub use Rattle.clap.specs.declared.error.kind.ErrorKind.TheVariants.{UnknownArgument}
pub use Rattle.clap.specs.declared.error.kind.ErrorKind.TheVariants.{ValueValidation}
pub use Rattle.clap.specs.declared.parser.matches.ArgMatches.{ArgMatches}
pub use Rattle.clap.specs.declared.parser.matches.Found.{Found}
pub use Rattle.h2_args.specs.Commands.{follow_app, get_app, loop_app, number_option_rule}
pub use Rattle.h2_args.specs.Commands.{number_rule, replay_app, required_rule, serve_app, show_app}
pub use Rattle.h2_args.specs.Commands.{host_app, show_names, sides}
pub use Rattle.h2_args.specs.Words.{follow_faults, number_given, program_faults, replay_faults}
pub use Rattle.h2_args.specs.Words.{show_faults}
pub use Rattle.std.proofs.Common.{[], ap, arith, Bool, codes, false, IfErr, inl, inr, is_some}
pub use Rattle.std.proofs.Common.{length, List, map, None, Option, refl, rules, Some, string_bytes}
pub use Rattle.std.proofs.Common.{subst, sym, true, ℕ, ◌<◌, ◌∙◌, ◌∷◌, ◌≡◌, ◌≤◌}
pub use Rattle.std.proofs.lemmas.Result.{IfErr-weaker}
pub use Rattle.std.proofs.lemmas.Slice.Eq.{bytes_eq-Decides}
pub use Rattle.std.specs.List.{slice_index_or}
pub use Rattle.std.specs.Prelude.{Ok, pos, Result, unwrap_or, ◌^◌}
pub use Rattle.std.specs.Str.{bytes_eq}
pub use Rattle.std.specs.Str.Parse.{digits_value, ExplainsUnsignedError, HasUnsignedDigitsIfOk}
pub use Rattle.std.specs.Str.Parse.{ParsesUnsigned, without_leading_plus}
