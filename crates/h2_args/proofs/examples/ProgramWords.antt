-- Words that begin with no command's name, written out.
use Rattle.h2_args.proofs.Names.{◌≡◌, [], ◌∷◌, codes, refl, DisplayHelp, UnknownArgument, sides}
use Rattle.h2_args.proofs.Names.{show_names}
use Rattle.h2_args.proofs.Names.{program_faults}
use Rattle.clap.proofs.OnLiterals.{clap_on_literals}
use Rattle.clap.specs.declared.error.kind.ErrorKind.TheVariants.{DisplayVersion, InvalidSubcommand}
use Rattle.clap.specs.declared.error.kind.ErrorKind.TheVariants as kind

no_words : program_faults show_names sides []
    ≡ kind.DisplayHelpOnMissingArgumentOrSubcommand ∷ []
unfolding clap_on_literals
no_words = refl

help : program_faults show_names sides (codes "--help" ∷ []) ≡ DisplayHelp ∷ []
unfolding clap_on_literals
help = refl

version : program_faults show_names sides (codes "--version" ∷ []) ≡ DisplayVersion ∷ []
unfolding clap_on_literals
version = refl

-- clap lists both kinds for `help` as a command, whatever follows it
help_of_a_command : program_faults show_names sides (codes "help" ∷ codes "show" ∷ [])
    ≡ DisplayHelp ∷ InvalidSubcommand ∷ []
unfolding clap_on_literals
help_of_a_command = refl

no_such_command : program_faults show_names sides (codes "shows" ∷ [])
    ≡ UnknownArgument ∷ InvalidSubcommand ∷ []
unfolding clap_on_literals
no_such_command = refl
