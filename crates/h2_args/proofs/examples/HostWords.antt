-- Words after `host`, written out.
use Rattle.h2_args.proofs.Names.{◌≡◌, [], ◌∷◌, false, true, codes, refl, Some, None}
use Rattle.h2_args.proofs.Names.{UnknownArgument, ValueValidation}
use Rattle.clap.proofs.OnLiterals.{clap_on_literals}
use Rattle.clap.specs.declared.error.kind.ErrorKind.TheVariants.{MissingRequiredArgument}
use Rattle.h2_args.specs.Words.{host_faults, host_words_of}

-- rule: hosts (own) The words of host say what is served, where, and for how long
port_alone : host_words_of (codes "9001" ∷ []) ≡ Some (record {
  port = 9001;
  root = None;
  address = None;
  connections = None;
  idle = None;
  log = false;
  until_closed = false;
  window = None;
})
unfolding clap_on_literals
port_alone = refl

-- rule: hosts (own) The words of host say what is served, where, and for how long
all_words : host_words_of (codes "--root" ∷ codes "site" ∷ codes "--address=::1"
    ∷ codes "--connections" ∷ codes "1048576" ∷ codes "--idle=0" ∷ codes "--log"
    ∷ codes "--until-closed" ∷ codes "65535" ∷ []) ≡ Some (record {
      port = 65535;
      root = Some (codes "site");
      address = Some (codes "::1");
      connections = Some 1048576;
      idle = Some 0;
      log = true;
      until_closed = true;
      window = None;
    })
unfolding clap_on_literals
all_words = refl

no_port : host_faults (codes "--log" ∷ []) ≡ MissingRequiredArgument ∷ []
unfolding clap_on_literals
no_port = refl

port_zero : host_faults (codes "0" ∷ []) ≡ ValueValidation ∷ []
unfolding clap_on_literals
port_zero = refl

no_connections : host_faults (codes "9001" ∷ codes "--connections=0" ∷ []) ≡ ValueValidation ∷ []
unfolding clap_on_literals
no_connections = refl

too_many_connections : host_faults (codes "9001" ∷ codes "--connections=1048577" ∷ [])
    ≡ ValueValidation ∷ []
unfolding clap_on_literals
too_many_connections = refl

idle_for_more_than_a_day : host_faults (codes "9001" ∷ codes "--idle=86401" ∷ [])
    ≡ ValueValidation ∷ []
unfolding clap_on_literals
idle_for_more_than_a_day = refl

two_ports : host_faults (codes "9001" ∷ codes "9002" ∷ []) ≡ UnknownArgument ∷ []
unfolding clap_on_literals
two_ports = refl

window_word : host_words_of (codes "--window" ∷ codes "16m" ∷ codes "9001" ∷ []) ≡ Some (record {
  port = 9001;
  root = None;
  address = None;
  connections = None;
  idle = None;
  log = false;
  until_closed = false;
  window = Some (codes "16m");
})
unfolding clap_on_literals
window_word = refl
