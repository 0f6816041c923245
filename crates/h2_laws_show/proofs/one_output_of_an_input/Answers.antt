-- By the lemma on outcomes.
use Rattle.h2_laws_show.proofs.Outcomes.{one_output_of_input}
use Rattle.h2_laws_show.proofs.one_output_of_an_input.Goals as goal

pub returns : goal.returns
returns c = λ options given status other output another shows again.
    one_output_of_input options.hex options given status other output another shows again
