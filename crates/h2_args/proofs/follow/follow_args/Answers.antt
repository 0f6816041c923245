use Rattle.h2_args.proofs.Names.{◌≡◌, ◌∙◌, ℕ, refl, ap, sym, Some}
use Rattle.h2_args.proofs.Names.{arith, codes, ExplainsUnsignedError, HasUnsignedDigitsIfOk}
use Rattle.h2_args.proofs.Names.{ParsesUnsigned, found_of, rows_of, follow_app}
use Rattle.h2_args.proofs.Names.{Option, Text, first_value-rows}
use Rattle.h2_args.specs.Words.{FollowAsked, follow_asked_in}
use Rattle.h2_args.proofs.CommandLemmas.{follow_is_alone, follow_names_limit}
use Rattle.h2_args.proofs.GivenLemmas.{given_by-Ok}
use Rattle.h2_args.proofs.NumberOptionLemmas.{GivesNumberOr, option_number}
use Rattle.h2_args.proofs.follow.follow_args.Goals.{After-get_one}
use Rattle.h2_args.proofs.follow.follow_args.Goals as goal

-- the limit of payloads is the number that is given, or 16,384
limit : (c : After-get_one)
    → GivesNumberOr c.get_one.result 16384 16384 1048576 (codes "max-frame")
    (rows_of (found_of c.in_ok-matches.matches))
limit c =
    option_number follow_app c.in_ok-command.command c.in_ok-command.ensures follow_is_alone
    c.in_ok-matches.matches c.in_ok-matches.ensures.parsed 1 (codes "max-frame") 16384 16384 1048576
    follow_names_limit _ (λ bs r. ParsesUnsigned 32 10 bs r × ExplainsUnsignedError 10 bs r
    × HasUnsignedDigitsIfOk bs r)
    32 c.get_one.result c.get_one.ensures.none c.get_one.ensures.value (λ u x gives. gives.0)
    (omega arith) (omega arith) (omega arith)

-- what is asked for in equal words is equal
same_follow : {most most_now : ℕ} {page page_now : Option Text} → most ≡ most_now → page ≡ page_now
    → ◌≡◌ {A = FollowAsked} (record { options = record { max_frame = most }; page = page })
    (record { options = record { max_frame = most_now }; page = page_now })
same_follow a b = λ i. record { options = record { max_frame = a i }; page = b i }

pub returns-clause-ok : goal.returns-clause-ok
returns-clause-ok c =
    let given = limit (goal.at.returns-clause-ok c).After-get_one in
    let read = sym (c.unwrap_or-max_frame.ensures ∙ given.read) in
    let page = sym (c.get_str-page.ensures
    ∙ first_value-rows (found_of c.in_ok-matches.matches) (codes "page")) in
    given_by-Ok follow_app follow_asked_in _ c.in_ok-command.command c.in_ok-matches.matches
    c.in_ok-command.ensures refl refl c.in_ok-matches.ensures.matches
    c.in_ok-matches.ensures.kinds ∙ ap Some (same_follow read page)

pub returns-clause-least : goal.returns-clause-least
returns-clause-least c =
    let given = limit (goal.at.returns-clause-least c).After-get_one in
    omega (arith, c.unwrap_or-max_frame.ensures, given.low)

pub returns-clause-most : goal.returns-clause-most
returns-clause-most c =
    let given = limit (goal.at.returns-clause-most c).After-get_one in
    omega (arith, c.unwrap_or-max_frame.ensures, given.high)
