-- The files of both sides are two more rules.
use Rattle.h2_args.proofs.Names.{◌≡◌, ◌∙◌, false, App, app_of, Arg, Command, Rule, rule_of}
use Rattle.std.proofs.Common.{ap₂}
use Rattle.std.proofs.lemmas.Result.{IfOk-weaker}
use Rattle.clap.specs.Words.{AddsArg, with_rule}
use Rattle.h2_args.proofs.show.show_command.Goals as goal

-- one more argument
added : (old : Command) (arg : Arg) (new : Command) (before : App) (rule : Rule)
    → AddsArg old arg new → arg.global ≡ false → app_of old ≡ before → rule_of arg ≡ rule
    → app_of new ≡ with_rule before rule
added old arg new before rule adds local is ruled = adds.shape local ∙ ap₂ with_rule is ruled

pub returns : goal.returns
returns c =
    let styled = c.in_ok-styled_command.ensures in
    let client = added _ _ _ _ _ c.in_ok-arg.ensures c.valued_arg.ensures.local styled.2
    c.valued_arg.ensures.rule in
    IfOk-weaker c.arg-2.result _ _ (λ r adds. (
      styled.0,
      styled.1,
      added _ _ r _ _ adds c.valued_arg-2.ensures.local client c.valued_arg-2.ensures.rule,
    )) c.arg-2.ensures
