-- Words after `replay`, written out.
use Rattle.h2_args.proofs.Names.{◌≡◌, [], ◌∷◌, true, false, codes, refl, Some, ArgumentConflict}
use Rattle.h2_args.proofs.Names.{DisplayHelp, UnknownArgument, sides, replay_faults}
use Rattle.clap.proofs.OnLiterals.{clap_on_literals}
use Rattle.clap.specs.declared.error.kind.ErrorKind.TheVariants.{InvalidValue}
use Rattle.h2_spec_log.specs.declared.role.Role.TheVariants.{Client, Server}
use Rattle.h2_args.specs.Words.{asks_messages, replay_options_of}

no_words : replay_options_of sides [] ≡ Some (record { hex = false; role = Server })
unfolding clap_on_literals
no_words = refl

-- rule (best): replay (own) The words of replay choose the end and hexadecimal
as_client : replay_options_of sides (codes "--hex" ∷ codes "--as=client" ∷ [])
    ≡ Some (record { hex = true; role = Client })
unfolding clap_on_literals
as_client = refl

as_server : replay_options_of sides (codes "--as" ∷ codes "server" ∷ [])
    ≡ Some (record { hex = false; role = Server })
unfolding clap_on_literals
as_server = refl

-- rule (best): messages (own) The word --messages has the rules of messages checked
with_messages : replay_options_of sides (codes "--messages" ∷ codes "--as=client" ∷ [])
    ≡ Some (record { hex = false; role = Client })
unfolding clap_on_literals
with_messages = refl

asked_messages : asks_messages (codes "--as=client" ∷ codes "--messages" ∷ []) ≡ true
asked_messages = refl

-- no value of an option is the word
word_as_side : replay_faults sides (codes "--as" ∷ codes "--messages" ∷ []) ≡ InvalidValue ∷ []
unfolding clap_on_literals
word_as_side = refl

side_twice : replay_faults sides (codes "--as=client" ∷ codes "--as=client" ∷ [])
    ≡ ArgumentConflict ∷ []
unfolding clap_on_literals
side_twice = refl

option_of_show : replay_faults sides (codes "--from=client" ∷ []) ≡ UnknownArgument ∷ []
unfolding clap_on_literals
option_of_show = refl

help : replay_faults sides (codes "--help" ∷ []) ≡ DisplayHelp ∷ []
unfolding clap_on_literals
help = refl
