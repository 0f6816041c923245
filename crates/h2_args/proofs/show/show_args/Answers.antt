use Rattle.h2_args.proofs.Names.{◌≡◌, ◌∙◌, ℕ, IfErr, map, string_bytes, refl, ap, sym, rules, Some}
use Rattle.h2_args.proofs.Names.{arith, codes, IfErr-weaker, ExplainsUnsignedError}
use Rattle.h2_args.proofs.Names.{HasUnsignedDigitsIfOk, ParsesUnsigned, HasKind, found_of, rows_of}
use Rattle.h2_args.proofs.Names.{show_app, show_names, show_faults, Option, Text, App, fault_of}
use Rattle.h2_args.proofs.Names.{is_simple_and_free, subst, first_value-rows}
use Rattle.std.proofs.lemmas.Result.{err_from_is_err_and}
use Rattle.h2_show.specs.declared.options.ShowOptions.{ShowOptions}
use Rattle.h2_args.specs.Words.{ShowAsked, show_asked_in, show_options_in}
use Rattle.h2_args.proofs.CommandLemmas.{show_is_alone, show_names_limit}
use Rattle.h2_args.proofs.GivenLemmas.{given_by-Ok}
use Rattle.h2_args.proofs.NumberOptionLemmas.{GivesNumberOr, option_number}
use Rattle.h2_args.proofs.show.show_args.Goals.{After-get_one}
use Rattle.h2_args.proofs.show.show_args.Goals as goal

-- the limit of payloads is the number that is given, or 16,384
limit : (c : After-get_one)
    → GivesNumberOr c.get_one.result 16384 16384 1048576 (codes "max-frame")
    (rows_of (found_of c.in_ok-matches.matches))
limit c =
    let is = c.in_ok-command.ensures in
    option_number (show_app is.0) c.in_ok-command.command is.2 (show_is_alone is.0)
    c.in_ok-matches.matches c.in_ok-matches.ensures.parsed 2 (codes "max-frame") 16384 16384 1048576
    (show_names_limit is.0) _ (λ bs r. ParsesUnsigned 32 10 bs r × ExplainsUnsignedError 10 bs r
    × HasUnsignedDigitsIfOk bs r)
    32 c.get_one.result c.get_one.ensures.none c.get_one.ensures.value (λ u x gives. gives.0)
    (omega arith) (omega arith) (omega arith)

-- what is asked for in equal words is equal
same_asked : {options options_now : ShowOptions} {file file_now client client_now : Option Text}
    {server server_now : Option Text}
    → options ≡ options_now → file ≡ file_now → client ≡ client_now → server ≡ server_now
    → ◌≡◌ {A = ShowAsked}
    (record { options = options; file = file; client = client; server = server })
    (record { options = options_now; file = file_now; client = client_now; server = server_now })
same_asked a b c d = λ i. record { options = a i; file = b i; client = c i; server = d i }

pub returns-clause-ok : goal.returns-clause-ok
returns-clause-ok c =
    let is = c.in_ok-command.ensures in
    let rows = rows_of (found_of c.in_ok-matches.matches) in
    let given = limit (goal.at.returns-clause-ok c).After-get_one in
    let read : show_options_in c.args.colored rows ≡ c.options_of-options.result =
    sym (c.options_of-options.ensures
    ∙ ap (λ (n : ℕ). record (show_options_in c.args.colored rows) { max_frame = n })
    (c.unwrap_or-max_frame.ensures ∙ given.read)) in (
      is.0,
      is.1,
      given_by-Ok (show_app is.0) (show_asked_in c.args.colored) _ c.in_ok-command.command
          c.in_ok-matches.matches is.2 refl refl c.in_ok-matches.ensures.matches
          c.in_ok-matches.ensures.kinds ∙ ap Some (same_asked read (sym c.file_of-file.ensures)
          (sym (c.get_str-client.ensures
          ∙ first_value-rows (found_of c.in_ok-matches.matches) (codes "client")))
          (sym (c.get_str-server.ensures
          ∙ first_value-rows (found_of c.in_ok-matches.matches) (codes "server")))),
    )

pub returns-clause-least : goal.returns-clause-least
returns-clause-least c =
    let given = limit (goal.at.returns-clause-least c).After-get_one in
    let same : c.options_of-options.result.max_frame ≡ c.unwrap_or-max_frame.result =
    ap (λ (options : ShowOptions). options.max_frame) c.options_of-options.ensures in
    omega (arith, same, c.unwrap_or-max_frame.ensures, given.low)

pub returns-clause-most : goal.returns-clause-most
returns-clause-most c =
    let given = limit (goal.at.returns-clause-most c).After-get_one in
    let same : c.options_of-options.result.max_frame ≡ c.unwrap_or-max_frame.result =
    ap (λ (options : ShowOptions). options.max_frame) c.options_of-options.ensures in
    omega (arith, same, c.unwrap_or-max_frame.ensures, given.high)

pub returns-in_err-command-clause-err : goal.returns-in_err-command-clause-err
returns-in_err-command-clause-err c =
    let words = map string_bytes c.args.words.now in
    let fails : IfErr c.from_residual.result (HasKind (show_faults show_names words)) =
    search rules in
    IfErr-weaker c.from_residual.result _ _ (λ e h. (show_names, (refl, refl), h)) fails

pub returns-in_err-matches-clause-err : goal.returns-in_err-matches-clause-err
returns-in_err-matches-clause-err c =
    let is = c.in_ok-command.ensures in
    let words = map string_bytes c.args.words.now in
    let kinds = c.in_err-matches.ensures.kinds (ap is_simple_and_free is.2) in
    let faults : HasKind (show_faults is.0 words) c.in_err-matches.field-0.0 =
    subst (λ (a : App). HasKind (fault_of a words) c.in_err-matches.field-0.0) is.2 kinds in
    let answer = err_from_is_err_and c.from_residual-in_err-matches.result
    c.from_residual-in_err-matches.ensures.1 in
    rw (answer.1, answer.2) (is.0, is.1, faults)
