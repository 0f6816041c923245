-- What the getters read is what the words ask for.
use Rattle.h2_args.proofs.Names.{◌≡◌, ◌∙◌, ◌≤◌, ℕ, Option, refl, ap, sym, codes, Some, None, arith}
use Rattle.h2_args.proofs.Names.{Text, found_of, rows_of, first_value-rows, host_app}
use Rattle.h2_args.proofs.Names.{ExplainsUnsignedError, HasUnsignedDigitsIfOk, ParsesUnsigned}
use Rattle.h2_args.proofs.Names.{App, HasKind, fault_of, is_simple_and_free, map, string_bytes, subst}
use Rattle.std.proofs.lemmas.Result.{err_from_is_err_and}
use Rattle.std.specs.Prelude.{Bool, IfSome}
use Rattle.h2_args.specs.Words.{HostAsked, host_faults, host_words_in}
use Rattle.h2_args.proofs.CommandLemmas.{host_is_alone, host_names_connections, host_names_idle}
use Rattle.h2_args.proofs.CommandLemmas.{host_wants_port}
use Rattle.h2_args.proofs.GivenLemmas.{given_by-Ok}
use Rattle.h2_args.proofs.NumberOptionLemmas.{GivesNumberIf, option_number_if}
use Rattle.h2_args.proofs.RequiredLemmas.{GivesNumber, required_number}
use Rattle.h2_args.proofs.host.host_args.Goals.{After-get_one, After-get_one-2, After-get_one-3}
use Rattle.h2_args.proofs.host.host_args.Goals as goal

-- the number of the words is the port
port_of : (c : After-get_one) → GivesNumber c.get_one.result 1 65535 (codes "PORT")
    (rows_of (found_of c.in_ok-matches.matches))
port_of c = required_number host_app c.in_ok-command.command c.in_ok-command.ensures host_is_alone
    c.in_ok-matches.matches c.in_ok-matches.ensures.parsed 0 (codes "PORT") 1 65535
    host_wants_port _
    (λ bs r. ParsesUnsigned 16 10 bs r × ExplainsUnsignedError 10 bs r × HasUnsignedDigitsIfOk bs r)
    16 c.get_one.result c.get_one.ensures.value (λ u x gives. gives.0) (omega arith)

-- the number of connections is the one that is given, if one is
connections_of : (c : After-get_one-2)
    → GivesNumberIf c.get_one-2.result 1 1048576 (codes "connections")
    (rows_of (found_of c.in_ok-matches.matches))
connections_of c = option_number_if host_app c.in_ok-command.command c.in_ok-command.ensures
    host_is_alone c.in_ok-matches.matches c.in_ok-matches.ensures.parsed 3 (codes "connections") 1
    1048576 host_names_connections _
    (λ bs r. ParsesUnsigned 32 10 bs r × ExplainsUnsignedError 10 bs r × HasUnsignedDigitsIfOk bs r)
    32 c.get_one-2.result c.get_one-2.ensures.none c.get_one-2.ensures.value (λ u x gives. gives.0)
    (omega arith) (omega arith)

-- the seconds are those that are given, if they are
idle_of : (c : After-get_one-3)
    → GivesNumberIf c.get_one-3.result 0 86400 (codes "idle")
    (rows_of (found_of c.in_ok-matches.matches))
idle_of c = option_number_if host_app c.in_ok-command.command c.in_ok-command.ensures
    host_is_alone c.in_ok-matches.matches c.in_ok-matches.ensures.parsed 4 (codes "idle") 0 86400
    host_names_idle _
    (λ bs r. ParsesUnsigned 32 10 bs r × ExplainsUnsignedError 10 bs r × HasUnsignedDigitsIfOk bs r)
    32 c.get_one-3.result c.get_one-3.ensures.none c.get_one-3.ensures.value (λ u x gives. gives.0)
    (omega arith) (omega arith)

-- words that ask for equal things are equal
same_host_words : {port port_now : ℕ} {root root_now address address_now : Option Text}
    {connections connections_now idle idle_now : Option ℕ}
    {log log_now until_closed until_closed_now : Bool} {window window_now : Option Text} → port ≡ port_now → root ≡ root_now
    → address ≡ address_now → connections ≡ connections_now → idle ≡ idle_now → log ≡ log_now
    → until_closed ≡ until_closed_now → window ≡ window_now
    → ◌≡◌ {A = HostAsked} (record {
      port = port;
      root = root;
      address = address;
      connections = connections;
      idle = idle;
      log = log;
      until_closed = until_closed;
      window = window;
    }) (record {
      port = port_now;
      root = root_now;
      address = address_now;
      connections = connections_now;
      idle = idle_now;
      log = log_now;
      until_closed = until_closed_now;
      window = window_now;
    })
same_host_words a b c d e f g h = λ i. record {
  port = a i;
  root = b i;
  address = c i;
  connections = d i;
  idle = e i;
  log = f i;
  until_closed = g i;
  window = h i;
}

pub unreachable-requires : goal.unreachable-requires
unreachable-requires c =
    let n = port_of (goal.at.unreachable-requires c).After-get_one in
    let bad : None ≡ Some n.number = sym c.in_default.is ∙ n.given in
    cc

pub returns-clause-port : goal.returns-clause-port
returns-clause-port c =
    let n = port_of (goal.at.returns-clause-port c).After-get_one in
    let same : c.in-Some.port ≡ n.number = cc in
    (omega (arith, n.low), omega (arith, n.high))

pub returns-clause-connections : goal.returns-clause-connections
returns-clause-connections c =
    let given = connections_of (goal.at.returns-clause-connections c).After-get_one-2 in
    within c.get_one-2.result given.low given.high
  where
    within : (r : Option ℕ) → IfSome r (λ number. 1 ≤ number)
        → IfSome r (λ number. number ≤ 1048576)
        → IfSome r (λ number. (1 ≤ number) × (number ≤ 1048576))
    within None low high = tt
    within (Some number) low high = (low, high)

pub returns-clause-idle : goal.returns-clause-idle
returns-clause-idle c =
    let given = idle_of (goal.at.returns-clause-idle c).After-get_one-3 in
    given.high

pub returns-clause-ok : goal.returns-clause-ok
returns-clause-ok c =
    let found = found_of c.in_ok-matches.matches in
    let at = goal.at.returns-clause-ok c in
    let port = port_of at.After-get_one in
    let same_port : c.in-Some.port ≡ port.number = cc in
    let connections = connections_of at.After-get_one-2 in
    let idle = idle_of at.After-get_one-3 in
    let root = sym (first_value-rows found (codes "root")) ∙ sym c.get_str.ensures in
    let address = sym (first_value-rows found (codes "address")) ∙ sym c.get_str-2.ensures in
    let window = sym (first_value-rows found (codes "window")) ∙ sym c.get_str-3.ensures in
    given_by-Ok host_app host_words_in _ c.in_ok-command.command c.in_ok-matches.matches
    c.in_ok-command.ensures refl refl c.in_ok-matches.ensures.matches
    c.in_ok-matches.ensures.kinds ∙ ap Some (same_host_words (sym (same_port ∙ port.read)) root
    address (sym connections.read) (sym idle.read) (sym c.is_set.ensures)
    (sym c.is_set-2.ensures) window)

pub returns-in_err-matches-clause-err : goal.returns-in_err-matches-clause-err
returns-in_err-matches-clause-err c =
    let words = map string_bytes c.args.words.now in
    let is = c.in_ok-command.ensures in
    let kinds = c.in_err-matches.ensures.kinds (ap is_simple_and_free is) in
    let faults : HasKind (host_faults words) c.in_err-matches.field-0.0 =
    subst (λ (a : App). HasKind (fault_of a words) c.in_err-matches.field-0.0) is kinds in
    let answer = err_from_is_err_and c.from_residual-in_err-matches.result
    c.from_residual-in_err-matches.ensures.1 in
    rw (answer.1, answer.2) faults
