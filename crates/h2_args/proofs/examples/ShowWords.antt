-- Words after `show`, written out.
use Rattle.h2_args.proofs.Names.{◌≡◌, [], ◌∷◌, true, false, codes, refl, Some, None}
use Rattle.h2_args.proofs.Names.{ArgumentConflict, DisplayHelp, UnknownArgument, ValueValidation}
use Rattle.h2_args.proofs.Names.{show_names, show_faults}
use Rattle.clap.proofs.OnLiterals.{clap_on_literals}
use Rattle.clap.specs.declared.error.kind.ErrorKind.TheVariants.{InvalidValue, TooManyValues}
use Rattle.h2_show.specs.declared.options.Side.TheVariants.{Client, Server}
use Rattle.h2_show.specs.declared.options.Style.TheVariants.{Plain, Text, Json}
use Rattle.h2_args.specs.Words.{show_asked_of}

no_words : show_asked_of false show_names []
    ≡ Some (record {
      options = record { hex = false; from = Client; max_frame = 16384; style = Plain };
      file = None;
      client = None;
      server = None;
    })
unfolding clap_on_literals
no_words = refl

hexadecimal : show_asked_of false show_names (codes "--hex" ∷ [])
    ≡ Some (record {
      options = record { hex = true; from = Client; max_frame = 16384; style = Plain };
      file = None;
      client = None;
      server = None;
    })
unfolding clap_on_literals
hexadecimal = refl

from_server : show_asked_of false show_names (codes "--from" ∷ codes "server" ∷ [])
    ≡ Some (record {
      options = record { hex = false; from = Server; max_frame = 16384; style = Plain };
      file = None;
      client = None;
      server = None;
    })
unfolding clap_on_literals
from_server = refl

from_client : show_asked_of false show_names (codes "--from" ∷ codes "client" ∷ [])
    ≡ Some (record {
      options = record { hex = false; from = Client; max_frame = 16384; style = Plain };
      file = None;
      client = None;
      server = None;
    })
unfolding clap_on_literals
from_client = refl

-- rule: show (own) The words choose the end and hexadecimal
both_options : show_asked_of false show_names (codes "--from=server" ∷ codes "--hex" ∷ [])
    ≡ Some (record {
      options = record { hex = true; from = Server; max_frame = 16384; style = Plain };
      file = None;
      client = None;
      server = None;
    })
unfolding clap_on_literals
both_options = refl

-- rule: show (own) The words choose the limit of payloads
greatest_limit : show_asked_of false show_names (codes "--max-frame" ∷ codes "1048576" ∷ [])
    ≡ Some (record {
      options = record { hex = false; from = Client; max_frame = 1048576; style = Plain };
      file = None;
      client = None;
      server = None;
    })
unfolding clap_on_literals
greatest_limit = refl

least_limit : show_asked_of false show_names (codes "--max-frame=16384" ∷ codes "--hex" ∷ [])
    ≡ Some (record {
      options = record { hex = true; from = Client; max_frame = 16384; style = Plain };
      file = None;
      client = None;
      server = None;
    })
unfolding clap_on_literals
least_limit = refl

limit_below_the_least : show_faults show_names (codes "--max-frame" ∷ codes "16383" ∷ [])
    ≡ ValueValidation ∷ []
unfolding clap_on_literals
limit_below_the_least = refl

-- rule: show (own) The words choose the limit of payloads
limit_above_the_greatest : show_faults show_names (codes "--max-frame" ∷ codes "1048577" ∷ [])
    ≡ ValueValidation ∷ []
unfolding clap_on_literals
limit_above_the_greatest = refl

-- rule: show (own) The words choose the end and hexadecimal
hex_twice : show_faults show_names (codes "--hex" ∷ codes "--hex" ∷ []) ≡ ArgumentConflict ∷ []
unfolding clap_on_literals
hex_twice = refl

hex_with_a_value : show_faults show_names (codes "--hex=yes" ∷ []) ≡ TooManyValues ∷ []
unfolding clap_on_literals
hex_with_a_value = refl

no_side : show_faults show_names (codes "--from" ∷ codes "x" ∷ []) ≡ InvalidValue ∷ []
unfolding clap_on_literals
no_side = refl

side_in_capitals : show_asked_of false show_names (codes "--from" ∷ codes "Server" ∷ []) ≡ None
unfolding clap_on_literals
side_in_capitals = refl

a_file : show_faults show_names (codes "file" ∷ []) ≡ UnknownArgument ∷ []
unfolding clap_on_literals
a_file = refl

help : show_faults show_names (codes "--help" ∷ []) ≡ DisplayHelp ∷ []
unfolding clap_on_literals
help = refl

short_help : show_faults show_names (codes "--hex" ∷ codes "-h" ∷ []) ≡ DisplayHelp ∷ []
unfolding clap_on_literals
short_help = refl

-- rule: show (own) The words choose names, places, colors and JSON
names_and_offsets : show_asked_of false show_names (codes "--offsets" ∷ codes "--names" ∷ [])
    ≡ Some (record {
      options = record {
        hex = false;
        from = Client;
        max_frame = 16384;
        style = Text (record { names = true; places = true; colors = false });
      };
      file = None;
      client = None;
      server = None;
    })
unfolding clap_on_literals
names_and_offsets = refl

colors_alone : show_asked_of false show_names (codes "--color" ∷ codes "always" ∷ [])
    ≡ Some (record {
      options = record {
        hex = false;
        from = Client;
        max_frame = 16384;
        style = Text (record { names = false; places = false; colors = true });
      };
      file = None;
      client = None;
      server = None;
    })
unfolding clap_on_literals
colors_alone = refl

no_colors : show_asked_of false show_names (codes "--color=never" ∷ [])
    ≡ show_asked_of false show_names []
unfolding clap_on_literals
no_colors = refl

json_with_names : show_asked_of false show_names (codes "--json" ∷ codes "--names" ∷ [])
    ≡ show_asked_of false show_names (codes "--json" ∷ [])
unfolding clap_on_literals
json_with_names = refl

json : show_asked_of false show_names (codes "--json" ∷ codes "--file" ∷ codes "a" ∷ [])
    ≡ Some (record {
      options = record { hex = false; from = Client; max_frame = 16384; style = Json };
      file = Some (codes "a");
      client = None;
      server = None;
    })
unfolding clap_on_literals
json = refl

-- rule: show (own) With --file the input is that of a file
standard_input : show_asked_of false show_names (codes "--file" ∷ codes "-" ∷ [])
    ≡ show_asked_of false show_names []
unfolding clap_on_literals
standard_input = refl

no_such_color : show_faults show_names (codes "--color" ∷ codes "some" ∷ []) ≡ InvalidValue ∷ []
unfolding clap_on_literals
no_such_color = refl

json_twice : show_faults show_names (codes "--json" ∷ codes "--json" ∷ []) ≡ ArgumentConflict ∷ []
unfolding clap_on_literals
json_twice = refl

-- rule: show (own) With --color auto there are colors where the output is a terminal
colors_of_a_terminal : show_asked_of true show_names (codes "--color" ∷ codes "auto" ∷ [])
    ≡ show_asked_of false show_names (codes "--color" ∷ codes "always" ∷ [])
unfolding clap_on_literals
colors_of_a_terminal = refl

no_terminal : show_asked_of false show_names (codes "--color" ∷ codes "auto" ∷ [])
    ≡ show_asked_of false show_names []
unfolding clap_on_literals
no_terminal = refl

terminal_alone : show_asked_of true show_names [] ≡ show_asked_of false show_names []
unfolding clap_on_literals
terminal_alone = refl

-- rule: sides (own) --client and --server go together, and without --file
both_files : show_asked_of false show_names
    (codes "--client" ∷ codes "a" ∷ codes "--server=b" ∷ codes "--hex" ∷ [])
    ≡ Some (record {
      options = record { hex = true; from = Client; max_frame = 16384; style = Plain };
      file = None;
      client = Some (codes "a");
      server = Some (codes "b");
    })
unfolding clap_on_literals
both_files = refl
