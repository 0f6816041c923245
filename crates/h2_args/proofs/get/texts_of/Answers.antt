-- The values are those of the row, or there are none.
use Rattle.h2_args.proofs.Names.{◌≡◌, ◌∙◌, [], ap, map, found_of, rows_of, List, Option}
use Rattle.h2_args.proofs.Names.{None, Text, unwrap_or}
use Rattle.std.proofs.lemmas.Result.{IfOk-weaker}
use Rattle.clap.proofs.WalkLemmas.{raw_values-rows}
use Rattle.clap.specs.Words.{all_of}
use Rattle.h2_args.proofs.get.texts_of.Goals as goal

pub returns-in-Some : goal.returns-in-Some
returns-in-Some c =
    let some = c.in-Some.ensures
    ∙ raw_values-rows (found_of c.args.matches.now) c.args.option.now in
    IfOk-weaker c.from_slice.result _ _ (λ texts same. ap (map (λ text. text.now)) same
    ∙ ap (λ (o : Option (List Text)). unwrap_or o []) some) c.from_slice.ensures.items

pub returns-in-None : goal.returns-in-None
returns-in-None c =
    let none : None ≡ all_of c.args.option.now (rows_of (found_of c.args.matches.now)) =
    c.in-None.ensures ∙ raw_values-rows (found_of c.args.matches.now) c.args.option.now in
    ap (map (λ text. text.now)) c.new.ensures.items
    ∙ ap (λ (o : Option (List Text)). unwrap_or o []) none
