-- Words that begin with `show`, `replay`, `get`, `loop` or `host` are that command's; words without
-- a command have a fault.
use Rattle.std.proofs.Common.{◌≡◌, ◌∷◌, ℕ, List, codes, map, refl, string_bytes, subst, rules}
use Rattle.h2_tool.specs.Commands.{EndsHost, EndsLoop, EndsReplay, EndsShow}
use Rattle.h2_tool.specs.GetsSeveral.{EndsGet}
use Rattle.h2_tool.proofs.ProgramLemmas.{never_pass}
use Rattle.h2_tool.proofs.WordLemmas.{program_fails}
use Rattle.h2_tool.proofs.program.run.Goals as goal

pub returns-in-show-clause-show : goal.returns-in-show-clause-show
returns-in-show-clause-show g c = λ others same.
    let following : map string_bytes c.in-Some.others.now ≡ others = search rules in
    subst (λ (words : List (List ℕ)). EndsShow c.args.terminals.colored words
    (g.R.Read.remaining c.args.input.now)
    (g.R.Read.remaining c.cmd_show.new.input) (g.W.Write.contents c.args.out.now)
    (g.W.Write.contents c.cmd_show.new.out) c.cmd_show.result) following c.cmd_show.ensures

pub returns-in-replay-clause-replay : goal.returns-in-replay-clause-replay
returns-in-replay-clause-replay g c = λ others same.
    let following : map string_bytes c.in-Some.others.now ≡ others = search rules in
    subst (λ (words : List (List ℕ)). EndsReplay words (g.R.Read.remaining c.args.input.now)
    (g.R.Read.remaining c.cmd_replay.new.input) (g.W.Write.contents c.args.out.now)
    (g.W.Write.contents c.cmd_replay.new.out) c.cmd_replay.result) following c.cmd_replay.ensures

pub returns-in-get-clause-get : goal.returns-in-get-clause-get
returns-in-get-clause-get g c = λ others same.
    let following : map string_bytes c.in-Some.others.now ≡ others = search rules in
    subst (λ (words : List (List ℕ)). EndsGet words (g.R.Read.remaining c.args.input.now)
    (g.W.Write.contents c.args.out.now) (g.W.Write.contents c.cmd_get.new.out) c.cmd_get.result)
    following c.cmd_get.ensures.ends

-- `get` reads nothing but for `-d @-`.
pub returns-in-get-clause-unread : goal.returns-in-get-clause-unread
returns-in-get-clause-unread g c = λ none.
    let same : map string_bytes c.args.words.now
    ≡ codes "get" ∷ map string_bytes c.in-Some.others.now = search rules in
    c.cmd_get.ensures.unread ((rw same at none).1.1 refl)

pub returns-in-loop-clause-post : goal.returns-in-loop-clause-post
returns-in-loop-clause-post g c = λ others same.
    let following : map string_bytes c.in-Some.others.now ≡ others = search rules in
    subst (λ (words : List (List ℕ)). EndsLoop words (g.W.Write.contents c.args.out.now)
    (g.W.Write.contents c.cmd_loop.new.out) c.cmd_loop.result) following c.cmd_loop.ensures

pub returns-in-host-clause-host : goal.returns-in-host-clause-host
returns-in-host-clause-host g c = λ others same.
    let following : map string_bytes c.in-Some.others.now ≡ others = search rules in
    subst (λ (words : List (List ℕ)). EndsHost words (g.W.Write.contents c.args.out.now)
    (g.W.Write.contents c.cmd_host.new.out) c.cmd_host.result) following c.cmd_host.ensures

pub returns-in-Err-clause-none : goal.returns-in-Err-clause-none
returns-in-Err-clause-none g c = λ none.
    program_fails _ _ _ c.in-Err.error c.answer.result c.in-Err.ensures.err c.answer.ensures

pub returns-in-Ok-clause-none : goal.returns-in-Ok-clause-none
returns-in-Ok-clause-none g c = λ none. absurd (never_pass _ none c.in-Ok.ensures.ok)
