-- Words after `get`, written out.
use Rattle.h2_args.proofs.Names.{◌≡◌, [], ◌∷◌, true, false, codes, refl, Some, None}
use Rattle.h2_args.proofs.Names.{ArgumentConflict, DisplayHelp, UnknownArgument, ValueValidation}
use Rattle.clap.proofs.OnLiterals.{clap_on_literals}
use Rattle.clap.specs.declared.error.kind.ErrorKind.TheVariants.{MissingRequiredArgument}
use Rattle.h2_args.specs.Words.{get_faults, get_words_of}

-- rule: engines (own) serve, get and loop have their words
url_alone : get_words_of (codes "http://h:1/a" ∷ []) ≡ Some (record {
  url = codes "http://h:1/a";
  include = false;
  fields = [];
  method = None;
  body = None;
  fail = false;
  port = None;
  output = None;
  stream = false;
  timeout = None;
  verbose = false;
  others = [];
  window = None;
})
unfolding clap_on_literals
url_alone = refl

-- rule: engines (own) The words of get make its request and say what is printed
short_words : get_words_of (codes "-i" ∷ codes "-H" ∷ codes "A: b" ∷ codes "-Hc:d" ∷ codes "-X"
    ∷ codes "PUT" ∷ codes "-d" ∷ codes "x=y" ∷ codes "http://h/" ∷ []) ≡ Some (record {
      url = codes "http://h/";
      include = true;
      fields = codes "A: b" ∷ codes "c:d" ∷ [];
      method = Some (codes "PUT");
      body = Some (codes "x=y");
      fail = false;
      port = None;
      output = None;
      stream = false;
      timeout = None;
      verbose = false;
      others = [];
      window = None;
    })
unfolding clap_on_literals
short_words = refl

long_words : get_words_of (codes "--include" ∷ codes "--header=a:b" ∷ codes "--request=HEAD"
    ∷ codes "--data=" ∷ codes "--fail" ∷ codes "--port=9001" ∷ codes "http://h/" ∷ [])
    ≡ Some (record {
      url = codes "http://h/";
      include = true;
      fields = codes "a:b" ∷ [];
      method = Some (codes "HEAD");
      body = Some [];
      fail = true;
      port = Some 9001;
      output = None;
      stream = false;
      timeout = None;
      verbose = false;
      others = [];
      window = None;
    })
unfolding clap_on_literals
long_words = refl

parts_words : get_words_of (codes "-o" ∷ codes "a" ∷ codes "--stream" ∷ codes "--timeout=20"
    ∷ codes "-v" ∷ codes "http://h/" ∷ codes "http://h/b" ∷ codes "http://h/c" ∷ [])
    ≡ Some (record {
      url = codes "http://h/";
      include = false;
      fields = [];
      method = None;
      body = None;
      fail = false;
      port = None;
      output = Some (codes "a");
      stream = true;
      timeout = Some 20;
      verbose = true;
      others = codes "http://h/b" ∷ codes "http://h/c" ∷ [];
      window = None;
    })
unfolding clap_on_literals
parts_words = refl

no_url : get_faults (codes "-i" ∷ []) ≡ MissingRequiredArgument ∷ []
unfolding clap_on_literals
no_url = refl

two_urls : get_faults (codes "http://h:1/" ∷ codes "http://h:2/" ∷ []) ≡ []
unfolding clap_on_literals
two_urls = refl

two_methods : get_faults (codes "-X" ∷ codes "PUT" ∷ codes "-X" ∷ codes "PUT" ∷ codes "http://h:1/"
    ∷ []) ≡ ArgumentConflict ∷ []
unfolding clap_on_literals
two_methods = refl

port_above_the_greatest : get_faults (codes "--port" ∷ codes "65536" ∷ codes "http://h/" ∷ [])
    ≡ ValueValidation ∷ []
unfolding clap_on_literals
port_above_the_greatest = refl

port_zero : get_faults (codes "--port=0" ∷ codes "http://h/" ∷ []) ≡ ValueValidation ∷ []
unfolding clap_on_literals
port_zero = refl

help : get_faults (codes "-h" ∷ []) ≡ DisplayHelp ∷ []
unfolding clap_on_literals
help = refl

-- the size stays as it was written
window_word : get_words_of (codes "--window=64k" ∷ codes "http://h/" ∷ []) ≡ Some (record {
  url = codes "http://h/";
  include = false;
  fields = [];
  method = None;
  body = None;
  fail = false;
  port = None;
  output = None;
  stream = false;
  timeout = None;
  verbose = false;
  others = [];
  window = Some (codes "64k");
})
unfolding clap_on_literals
window_word = refl
