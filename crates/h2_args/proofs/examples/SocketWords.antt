-- Words after `serve` and `loop`, written out.
use Rattle.h2_args.proofs.Names.{◌≡◌, [], ◌∷◌, codes, false, true, refl, Some, UnknownArgument, ValueValidation}
use Rattle.clap.proofs.OnLiterals.{clap_on_literals}
use Rattle.clap.specs.declared.error.kind.ErrorKind.TheVariants.{MissingRequiredArgument}
use Rattle.h2_args.specs.Words.{loop_faults, loop_options_of, serve_faults, serve_options_of}

-- rule: engines (own) serve, get and loop have their words
port_and_count : serve_options_of (codes "9001" ∷ codes "2" ∷ [])
    ≡ Some (record { port = 9001; count = 2 })
unfolding clap_on_literals
port_and_count = refl

greatest_port : serve_options_of (codes "65535" ∷ codes "1" ∷ [])
    ≡ Some (record { port = 65535; count = 1 })
unfolding clap_on_literals
greatest_port = refl

port_above_the_greatest : serve_faults (codes "65536" ∷ codes "1" ∷ []) ≡ ValueValidation ∷ []
unfolding clap_on_literals
port_above_the_greatest = refl

no_connections : serve_faults (codes "9001" ∷ codes "0" ∷ []) ≡ ValueValidation ∷ []
unfolding clap_on_literals
no_connections = refl

no_count : serve_faults (codes "9001" ∷ []) ≡ MissingRequiredArgument ∷ []
unfolding clap_on_literals
no_count = refl

one_word_too_many : serve_faults (codes "1" ∷ codes "2" ∷ codes "3" ∷ []) ≡ UnknownArgument ∷ []
unfolding clap_on_literals
one_word_too_many = refl

no_octets : loop_options_of (codes "0" ∷ []) ≡ Some (record { count = 0; each_way = false })
unfolding clap_on_literals
no_octets = refl

most_octets : loop_options_of (codes "1048576" ∷ []) ≡ Some (record { count = 1048576; each_way = false })
unfolding clap_on_literals
most_octets = refl

above_the_most : loop_faults (codes "1048577" ∷ []) ≡ ValueValidation ∷ []
unfolding clap_on_literals
above_the_most = refl

negative_after_dashes : loop_options_of (codes "--" ∷ codes "-0" ∷ []) ≡ Some (record { count = 0; each_way = false })
unfolding clap_on_literals
negative_after_dashes = refl

each_way : loop_options_of (codes "--each-way" ∷ codes "7" ∷ [])
    ≡ Some (record { count = 7; each_way = true })
unfolding clap_on_literals
each_way = refl
