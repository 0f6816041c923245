-- What the getters read is what the words ask for.
use Rattle.h2_args.proofs.Names.{◌≡◌, ◌∙◌, ◌≤◌, ℕ, [], List, Option, ap, sym, codes, true}
use Rattle.h2_args.proofs.Names.{is_some, false, Some, None, unwrap_or, arith, Text, first_of}
use Rattle.h2_args.proofs.Names.{found_of, rows_of}
use Rattle.h2_args.proofs.Names.{first_value-rows, get_app, required_rule, ExplainsUnsignedError}
use Rattle.h2_args.proofs.Names.{HasUnsignedDigitsIfOk, ParsesUnsigned}
use Rattle.std.specs.Prelude.{Bool, IfSome}
use Rattle.h2_args.specs.Words.{GetWords}
use Rattle.h2_args.proofs.CommandLemmas.{get_is_alone, get_names_port, get_names_timeout}
use Rattle.h2_args.proofs.CommandLemmas.{get_wants_url}
use Rattle.h2_args.proofs.NumberOptionLemmas.{GivesNumberIf, option_number_if}
use Rattle.h2_args.proofs.RequiredLemmas.{required_value}
use Rattle.h2_args.proofs.get.options_of.Goals.{After-get_one, After-get_one-2}
use Rattle.h2_args.proofs.get.options_of.Goals as goal

pub unreachable-requires : goal.unreachable-requires
unreachable-requires c =
    let m = c.args.matches.now in
    let some : is_some (first_of (codes "URL") (rows_of (found_of m))) ≡ true =
    required_value get_app c.requires.0 c.requires.1 get_is_alone m
    c.requires.2 0 (required_rule (codes "URL")) get_wants_url in
    let none : first_of (codes "URL") (rows_of (found_of m)) ≡ None =
    sym (first_value-rows (found_of m) (codes "URL")) ∙ sym c.in_default.ensures in
    let bad : false ≡ true = ap (λ (o : Option Text). is_some o) (sym none) ∙ some in
    cc

-- words that ask for equal things are equal
same_words : {url url_now : Text} {include include_now : Bool} {fields fields_now : List Text}
    {method method_now body body_now : Option Text} {fail fail_now : Bool}
    {port port_now : Option ℕ} {output output_now : Option Text} {stream stream_now : Bool}
    {timeout timeout_now : Option ℕ} {verbose verbose_now : Bool}
    {others others_now : List Text} {window window_now : Option Text} → url ≡ url_now → include ≡ include_now → fields ≡ fields_now
    → method ≡ method_now → body ≡ body_now → fail ≡ fail_now → port ≡ port_now
    → output ≡ output_now → stream ≡ stream_now → timeout ≡ timeout_now
    → verbose ≡ verbose_now → others ≡ others_now → window ≡ window_now
    → ◌≡◌ {A = GetWords} (record {
      url = url;
      include = include;
      fields = fields;
      method = method;
      body = body;
      fail = fail;
      port = port;
      output = output;
      stream = stream;
      timeout = timeout;
      verbose = verbose;
      others = others;
      window = window;
    }) (record {
      url = url_now;
      include = include_now;
      fields = fields_now;
      method = method_now;
      body = body_now;
      fail = fail_now;
      port = port_now;
      output = output_now;
      stream = stream_now;
      timeout = timeout_now;
      verbose = verbose_now;
      others = others_now;
      window = window_now;
    })
same_words a b c d e f g h k l m n o = λ i. record {
  url = a i;
  include = b i;
  fields = c i;
  method = d i;
  body = e i;
  fail = f i;
  port = g i;
  output = h i;
  stream = k i;
  timeout = l i;
  verbose = m i;
  others = n i;
  window = o i;
}

-- the port is the number that is given, if one is
port_of : (c : After-get_one)
    → GivesNumberIf c.get_one.result 1 65535 (codes "port")
    (rows_of (found_of c.args.matches.now))
port_of c = option_number_if get_app c.requires.0 c.requires.1 get_is_alone
    c.args.matches.now c.requires.2 6 (codes "port") 1 65535 get_names_port _
    (λ bs r. ParsesUnsigned 16 10 bs r × ExplainsUnsignedError 10 bs r × HasUnsignedDigitsIfOk bs r)
    16 c.get_one.result c.get_one.ensures.none c.get_one.ensures.value (λ u x gives. gives.0)
    (omega arith) (omega arith)

-- and so are the seconds
timeout_of : (c : After-get_one-2)
    → GivesNumberIf c.get_one-2.result 1 65535 (codes "timeout")
    (rows_of (found_of c.args.matches.now))
timeout_of c =
    option_number_if get_app c.requires.0 c.requires.1 get_is_alone
    c.args.matches.now c.requires.2 9 (codes "timeout") 1 65535
    get_names_timeout _
    (λ bs r. ParsesUnsigned 16 10 bs r × ExplainsUnsignedError 10 bs r × HasUnsignedDigitsIfOk bs r)
    16 c.get_one-2.result c.get_one-2.ensures.none c.get_one-2.ensures.value (λ u x gives. gives.0)
    (omega arith) (omega arith)

-- a number that is given lies between these
within : (r : Option ℕ) → IfSome r (λ number. 1 ≤ number) → IfSome r (λ number. number ≤ 65535)
    → IfSome r (λ number. (1 ≤ number) × (number ≤ 65535))
within None low high = tt
within (Some number) low high = (low, high)

pub returns-clause-port : goal.returns-clause-port
returns-clause-port c =
    let given = port_of (goal.at.returns-clause-port c).After-get_one in
    within c.get_one.result given.low given.high

pub returns-clause-timeout : goal.returns-clause-timeout
returns-clause-timeout c =
    let given = timeout_of (goal.at.returns-clause-timeout c).After-get_one-2 in
    within c.get_one-2.result given.low given.high

pub returns-clause-ok : goal.returns-clause-ok
returns-clause-ok c =
    let found = found_of c.args.matches.now in
    let given = port_of (goal.at.returns-clause-ok c).After-get_one in
    let time = timeout_of (goal.at.returns-clause-ok c).After-get_one-2 in
    let url : unwrap_or (first_of (codes "URL") (rows_of found)) [] ≡ c.in-Some.url.now =
    ap (λ (o : Option Text). unwrap_or o [])
    (sym (first_value-rows found (codes "URL")) ∙ sym c.in-Some.ensures) in
    let method = sym (first_value-rows found (codes "request")) ∙ sym c.get_str-2.ensures in
    let body = sym (first_value-rows found (codes "data")) ∙ sym c.get_str-3.ensures in
    let output = sym (first_value-rows found (codes "output")) ∙ sym c.get_str-4.ensures in
    let window = sym (first_value-rows found (codes "window")) ∙ sym c.get_str-5.ensures in
    same_words url (sym c.is_set.ensures)
    (sym c.in_ok-fields.ensures) method body (sym c.is_set-2.ensures) (sym given.read) output
    (sym c.is_set-3.ensures) (sym time.read) (sym c.is_set-4.ensures)
    (sym c.in_ok-others.ensures) window
