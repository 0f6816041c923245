use Rattle.h2_args.proofs.Names.{◌∙◌, ap, Option, Text, found_of, first_value-rows}
use Rattle.h2_args.specs.Words.{has_value}
use Rattle.h2_args.proofs.options.is_named.Goals as goal

pub returns-in-Some : goal.returns-in-Some
returns-in-Some c = c.eq.ensures ∙ ap (λ (o : Option Text). has_value c.args.name.now o)
    (c.in-Some.ensures ∙ first_value-rows (found_of c.args.matches.now) c.args.option.now)

pub returns-in-None : goal.returns-in-None
returns-in-None c = ap (λ (o : Option Text). has_value c.args.name.now o)
    (c.in-None.ensures ∙ first_value-rows (found_of c.args.matches.now) c.args.option.now)
