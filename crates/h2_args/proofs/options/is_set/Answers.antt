use Rattle.h2_args.proofs.Names.{◌∙◌, found_of}
use Rattle.h2_args.proofs.OptionLemmas.{flag_read}
use Rattle.h2_args.proofs.options.is_set.Goals as goal

pub returns : goal.returns
returns c = c.unwrap_or.ensures ∙ flag_read _ (found_of c.args.matches.now) c.args.flag.now
    c.get_one.result c.get_one.ensures.none c.get_one.ensures.value
