-- Each argument is one more rule, and the names are those that the two parsers lend.
use Rattle.h2_args.proofs.Names.{◌≡◌, ◌∙◌, false, App, app_of, Arg, Command, Rule, rule_of}
use Rattle.std.proofs.Common.{ap₂}
use Rattle.std.proofs.lemmas.Result.{IfOk-weaker}
use Rattle.clap.specs.Words.{AddsArg, with_rule}
use Rattle.h2_args.proofs.show.styled_command.Goals as goal

-- one more argument
added : (old : Command) (arg : Arg) (new : Command) (before : App) (rule : Rule)
    → AddsArg old arg new → arg.global ≡ false → app_of old ≡ before → rule_of arg ≡ rule
    → app_of new ≡ with_rule before rule
added old arg new before rule adds local is ruled = adds.shape local ∙ ap₂ with_rule is ruled

pub returns : goal.returns
returns c =
    let shown = c.in_ok-shown_input_command.ensures in
    let colors = c.color_arg.ensures.rule in
    let file = added _ _ _ _ _ c.in_ok-arg.ensures c.valued_arg.ensures.local shown.2
    c.valued_arg.ensures.rule in
    let named = added _ _ _ _ _ c.in_ok-arg-2.ensures c.flag_arg.ensures.local file
    c.flag_arg.ensures.rule in
    let placed = added _ _ _ _ _ c.in_ok-arg-3.ensures c.flag_arg-2.ensures.local named
    c.flag_arg-2.ensures.rule in
    let colored = added _ _ _ _ _ c.in_ok-arg-4.ensures c.color_arg.ensures.local placed colors.2 in
    IfOk-weaker c.arg-5.result _ _ (λ r adds. (
      (shown.0, colors.0),
      (shown.1, colors.1),
      added _ _ r _ _ adds c.flag_arg-3.ensures.local colored c.flag_arg-3.ensures.rule,
    )) c.arg-5.ensures
