use Rattle.h2_args.proofs.Names.{◌≡◌, ◌∙◌, ap, App, app_of, Command, get_app, loop_app, replay_app}
use Rattle.h2_args.proofs.Names.{host_app, serve_app, show_app}
use Rattle.std.proofs.Common.{ap₂, Ok, Result, subst}
use Rattle.std.specs.Prelude.{IfOk}
use Rattle.std.proofs.lemmas.Result.{IfOk-weaker}
use Rattle.clap.specs.Words.{AddsSubcommand, with_subcommand}
use Rattle.h2_args.specs.Commands.{bare_program}
use Rattle.h2_args.proofs.CommandLemmas.{get_is_alone, host_is_alone, loop_is_alone, replay_is_alone}
use Rattle.h2_args.proofs.CommandLemmas.{serve_is_alone, show_is_alone}
use Rattle.h2_args.proofs.RequiredLemmas.{IsAlone, simple}
use Rattle.h2_args.proofs.program.program_command.Goals as goal

-- one more subcommand
added : (old sub new : Command) (before a : App) → AddsSubcommand old sub new → IsAlone a
    → app_of old ≡ before → app_of sub ≡ a → app_of new ≡ with_subcommand before a.top
added old sub new before a adds alone is sub_is = adds.shape (simple a sub sub_is alone).globals
    ∙ ap₂ with_subcommand is (ap (λ (x : App). x.top) sub_is)

-- a command that there is is what it is said to be
there : (P : Command → Type 0) {E : Type 0} (made : Result Command E) (command : Command)
    → IfOk made P → made ≡ Ok command → P command
there P {E} made command has is = subst (λ (r : Result Command E). IfOk r P) is has

pub returns : goal.returns
returns c =
    let show = c.in_ok-shown.ensures in
    let replay = c.in_ok-replayed.ensures in
    let serve = c.in_ok-served.ensures in
    let get = c.in_ok-fetched.ensures in
    let loops = c.in_ok-looped.ensures in
    let shown = there _ _ show.0 c.show_command.ensures show.1 in
    let replayed = there _ _ replay.0 c.replay_command.ensures replay.1 in
    let one = added _ _ _ bare_program (show_app shown.0) show.2 (show_is_alone shown.0)
    c.in_ok-program.ensures shown.2 in
    let two = added _ _ _ _ (replay_app replayed.0) replay.2 (replay_is_alone replayed.0) one
    replayed.2 in
    let three = added _ _ _ _ serve_app serve.2 serve_is_alone two
    (there _ _ serve.0 c.serve_command.ensures serve.1) in
    let four = added _ _ _ _ get_app get.2 get_is_alone three
    (there _ _ get.0 c.get_command.ensures get.1) in
    let five = added _ _ _ _ loop_app loops.2 loop_is_alone four
    (there _ _ loops.0 c.loop_command.ensures loops.1) in
    IfOk-weaker c.with_command-6.result _ _ (λ r host. (
      shown.0,
      replayed.0,
      shown.1,
      replayed.1,
      added _ _ r _ host_app host.2 host_is_alone five
          (there _ _ host.0 c.host_command.ensures host.1),
    )) c.with_command-6.ensures
