use Rattle.h2_args.proofs.Names.{◌≡◌, ◌∙◌, refl, ap, sym, codes, arith, Some, None}
use Rattle.h2_args.proofs.Names.{ExplainsUnsignedError, HasUnsignedDigitsIfOk, ParsesUnsigned}
use Rattle.h2_args.proofs.Names.{found_of, rows_of, loop_app, Bool, ℕ}
use Rattle.h2_args.specs.declared.sockets.LoopOptions.{LoopOptions}
use Rattle.h2_args.specs.Words.{loop_options_in}
use Rattle.h2_args.proofs.CommandLemmas.{loop_is_alone, loop_wants_number}
use Rattle.h2_args.proofs.GivenLemmas.{given_by-Ok}
use Rattle.h2_args.proofs.RequiredLemmas.{GivesNumber, required_number}
use Rattle.h2_args.proofs.sockets.loop_args.Goals.{After-get_one}
use Rattle.h2_args.proofs.sockets.loop_args.Goals as goal

number : (c : After-get_one)
    → GivesNumber c.get_one.result 0 1048576 (codes "N")
    (rows_of (found_of c.in_ok-matches.matches))
number c = required_number loop_app c.in_ok-command.command c.in_ok-command.ensures loop_is_alone
    c.in_ok-matches.matches c.in_ok-matches.ensures.parsed 0 (codes "N") 0 1048576 loop_wants_number
    _ (λ bs r. ParsesUnsigned 32 10 bs r × ExplainsUnsignedError 10 bs r
    × HasUnsignedDigitsIfOk bs r)
    32 c.get_one.result c.get_one.ensures.value (λ u x gives. gives.0) (omega arith)

-- options that say the same are equal
same_options : {count count_now : ℕ} {each_way each_way_now : Bool} → count ≡ count_now
    → each_way ≡ each_way_now
    → ◌≡◌ {A = LoopOptions} (record { count = count; each_way = each_way })
    (record { count = count_now; each_way = each_way_now })
same_options a b = λ i. record { count = a i; each_way = b i }

pub unreachable-requires : goal.unreachable-requires
unreachable-requires c =
    let some = (number (goal.at.unreachable-requires c).After-get_one).given in
    let bad : None ≡ Some (number (goal.at.unreachable-requires c).After-get_one).number =
    sym c.in_default.is ∙ some in
    cc

pub returns-clause-ok : goal.returns-clause-ok
returns-clause-ok c =
    let n = number (goal.at.returns-clause-ok c).After-get_one in
    let same : c.in-Some.count ≡ n.number = cc in
    given_by-Ok loop_app loop_options_in _ c.in_ok-command.command
    c.in_ok-matches.matches c.in_ok-command.ensures refl refl c.in_ok-matches.ensures.matches
    c.in_ok-matches.ensures.kinds
    ∙ ap Some (same_options (sym (same ∙ n.read)) (sym c.is_set-each_way.ensures))

pub returns-clause-most : goal.returns-clause-most
returns-clause-most c =
    let n = number (goal.at.returns-clause-most c).After-get_one in
    let same : c.in-Some.count ≡ n.number = cc in
    omega (arith, n.high)
