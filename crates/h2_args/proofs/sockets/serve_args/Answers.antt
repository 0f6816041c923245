use Rattle.h2_args.proofs.Names.{◌≡◌, ◌∙◌, refl, ap, sym, codes, arith, Some, None}
use Rattle.h2_args.proofs.Names.{ExplainsUnsignedError, HasUnsignedDigitsIfOk, ParsesUnsigned}
use Rattle.h2_args.proofs.Names.{found_of, rows_of, serve_app}
use Rattle.h2_args.specs.Words.{serve_options_in}
use Rattle.h2_args.specs.declared.sockets.ServeOptions.{ServeOptions}
use Rattle.h2_args.proofs.CommandLemmas.{serve_is_alone, serve_wants_count, serve_wants_port}
use Rattle.h2_args.proofs.GivenLemmas.{given_by-Ok}
use Rattle.h2_args.proofs.RequiredLemmas.{GivesNumber, required_number}
use Rattle.h2_args.proofs.sockets.serve_args.Goals.{After-get_one, After-get_one-2}
use Rattle.h2_args.proofs.sockets.serve_args.Goals as goal

-- the first number of the words is the port
port_of : (c : After-get_one) → GivesNumber c.get_one.result 1 65535 (codes "PORT")
    (rows_of (found_of c.in_ok-matches.matches))
port_of c = required_number serve_app c.in_ok-command.command c.in_ok-command.ensures serve_is_alone
    c.in_ok-matches.matches c.in_ok-matches.ensures.parsed 0 (codes "PORT") 1 65535
    serve_wants_port _
    (λ bs r. ParsesUnsigned 16 10 bs r × ExplainsUnsignedError 10 bs r × HasUnsignedDigitsIfOk bs r)
    16 c.get_one.result c.get_one.ensures.value (λ u x gives. gives.0) (omega arith)

-- the second is the count
count_of : (c : After-get_one-2) → GivesNumber c.get_one-2.result 1 65535 (codes "COUNT")
    (rows_of (found_of c.in_ok-matches.matches))
count_of c = required_number serve_app c.in_ok-command.command c.in_ok-command.ensures
    serve_is_alone c.in_ok-matches.matches c.in_ok-matches.ensures.parsed 1 (codes "COUNT") 1 65535
    serve_wants_count
    _
    (λ bs r. ParsesUnsigned 16 10 bs r × ExplainsUnsignedError 10 bs r × HasUnsignedDigitsIfOk bs r)
    16 c.get_one-2.result c.get_one-2.ensures.value (λ u x gives. gives.0) (omega arith)

pub unreachable-requires : goal.unreachable-requires
unreachable-requires c =
    let n = port_of (goal.at.unreachable-requires c).After-get_one in
    let bad : None ≡ Some n.number = sym c.in_default.is ∙ n.given in
    cc

pub unreachable-requires-in_default-get_one : goal.unreachable-requires-in_default-get_one
unreachable-requires-in_default-get_one c =
    let n = count_of (goal.at.unreachable-requires-in_default-get_one c).After-get_one-2 in
    let bad : None ≡ Some n.number = sym c.in_default-get_one.is ∙ n.given in
    cc

pub returns-clause-ok : goal.returns-clause-ok
returns-clause-ok c =
    let at = goal.at.returns-clause-ok c in
    let port = port_of at.After-get_one in
    let count = count_of at.After-get_one-2 in
    let same_port : c.in-Some.port ≡ port.number = cc in
    let same_count : c.in-Some-get_one.count ≡ count.number = cc in
    let rows = rows_of (found_of c.in_ok-matches.matches) in
    let read : ◌≡◌ {A = ServeOptions} (serve_options_in rows)
    (record { port = c.in-Some.port; count = c.in-Some-get_one.count }) =
    λ i. record { port = sym (same_port ∙ port.read) i; count = sym (same_count ∙ count.read) i }
    in
    given_by-Ok serve_app serve_options_in _ c.in_ok-command.command c.in_ok-matches.matches
    c.in_ok-command.ensures refl refl c.in_ok-matches.ensures.matches
    c.in_ok-matches.ensures.kinds ∙ ap Some read

pub returns-clause-port : goal.returns-clause-port
returns-clause-port c =
    let n = port_of (goal.at.returns-clause-port c).After-get_one in
    let same : c.in-Some.port ≡ n.number = cc in
    (omega (arith, n.low), omega (arith, n.high))

pub returns-clause-count : goal.returns-clause-count
returns-clause-count c =
    let n = count_of (goal.at.returns-clause-count c).After-get_one-2 in
    let same : c.in-Some-get_one.count ≡ n.number = cc in
    (omega (arith, n.low), omega (arith, n.high))
