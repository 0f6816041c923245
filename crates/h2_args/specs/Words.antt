-- What the words after a command's name give.
use Rattle.std.specs.Prelude.{◌≡◌, ℕ, Bool, false, List, Option, Some, None, []}
use Rattle.std.specs.Prelude.{◌||◌, ◌&&◌, if◌then◌else◌, codes, map, option_map, unwrap_or}
use Rattle.std.specs.List.{list_any}
use Rattle.std.specs.Str.{bytes_eq}
use Rattle.std.specs.Str.Parse.{digits_value, without_leading_plus}
use Rattle.clap.specs.Words.{App, HasKind, Kinds, Row, Text, all_of, fault_of, first_of}
use Rattle.clap.specs.Words.{matches_of, one_of}
use Rattle.clap.specs.Walk.{is_empty}
use Rattle.clap.specs.declared.error.Error.{Error}
use Rattle.h2_show.specs.declared.options.ShowOptions.{ShowOptions}
use Rattle.h2_show.specs.declared.options.Side.TheVariants.{Client, Server}
use Rattle.h2_events.specs.declared.options.ReplayOptions.{ReplayOptions}
use Rattle.h2_spec_log.specs.declared.role.Role.TheVariants as role
use Rattle.h2_follow.specs.declared.follow.FollowOptions.{FollowOptions}
use Rattle.h2_show.specs.declared.options.Style.{Style}
use Rattle.h2_show.specs.declared.options.Style.TheVariants.{Plain, Text as Marked, Json}
use Rattle.h2_args.specs.Commands.{AreSides, SideNames, program_app, replay_app, show_app}
use Rattle.h2_args.specs.Commands.{AreShowNames, ShowNames}
use Rattle.h2_args.specs.declared.follow.FollowWords.{FollowWords}
use Rattle.h2_args.specs.declared.show.ShowWords.{ShowWords}
use Rattle.h2_args.specs.Commands.{follow_app, serve_app, get_app, loop_app}
use Rattle.h2_args.specs.Commands.{host_app}
use Rattle.h2_args.specs.declared.host.HostWords.{HostWords}
use Rattle.h2_args.specs.declared.get.GetOptions.{GetOptions}
use Rattle.h2_args.specs.declared.sockets.LoopOptions.{LoopOptions}
use Rattle.h2_args.specs.declared.sockets.ServeOptions.{ServeOptions}

-- What the command's matches of the words give, where clap lists no fault of these words.
abbrev pub given_by : {T : Type 0} → App → (List Row → T) → List Text → Option T
given_by app read words =
    if is_empty (fault_of app words) then Some (read (matches_of app words)) else None

-- the flag was given
abbrev pub is_set : Option Text → Bool
is_set (Some text) = bytes_eq text (codes "true")
is_set None = false

-- the option has this value
abbrev pub has_value : Text → Option Text → Bool
has_value name (Some text) = bytes_eq text name
has_value name None = false

-- the number that an option's value writes in decimal digits, or this one where it isn't given
abbrev pub number_or : ℕ → Option Text → ℕ
number_or default (Some text) = digits_value 10 (without_leading_plus text)
number_or default None = default

-- How lines are printed, by what the matches of `show` say: JSON has names and places always, and
-- no colors, whatever else is asked for.
-- rule: show (own) The words choose names, places, colors and JSON
abbrev pub style_of : (json names places colors : Bool) → Style
style_of json names places colors =
    if json then Json
    else if names || places || colors then
    Marked (record { names = names; places = places; colors = colors })
    else Plain

-- whether there are colors, by the value of `--color`; `colored` says what `auto` stands for
-- rule: show (own) With --color auto there are colors where the output is a terminal
abbrev pub colors_of : (colored : Bool) → Option Text → Bool
colors_of colored value =
    has_value (codes "always") value || colored && has_value (codes "auto") value

abbrev pub style_in : (colored : Bool) → List Row → Style
style_in colored rows = style_of (is_set (one_of (codes "json") rows))
    (is_set (one_of (codes "names") rows)) (is_set (one_of (codes "offsets") rows))
    (colors_of colored (first_of (codes "color") rows))

-- What the matches of `show` say. Payloads have at most 16,384 octets where no number is given.
-- rule: show (own) The words choose the limit of payloads
abbrev pub show_options_in : (colored : Bool) → List Row → ShowOptions
show_options_in colored rows = record {
  hex = is_set (one_of (codes "hex") rows);
  from = if has_value (codes "server") (first_of (codes "from") rows) then Server else Client;
  max_frame = number_or 16384 (one_of (codes "max-frame") rows);
  style = style_in colored rows;
}

-- the file that is read, where the value names one: `-` is standard input
-- rule: show (own) With --file the input is that of a file
abbrev pub file_of : Option Text → Option Text
file_of None = None
file_of (Some text) = if bytes_eq text (codes "-") then None else Some text

-- What the words after `show` ask for: how the input is shown, the file that has it, where it is not
-- standard input, and the files that have the octets of both sides, where they are given.
-- rule: show (own) With --file the input is that of a file
-- rule: sides (own) --client and --server go together, and without --file
pub record ShowAsked : Type 0 where
  pub options : ShowOptions
  pub file : Option Text
  pub client : Option Text
  pub server : Option Text

abbrev pub show_asked_in : (colored : Bool) → List Row → ShowAsked
show_asked_in colored rows = record {
  options = show_options_in colored rows;
  file = file_of (first_of (codes "file") rows);
  client = first_of (codes "client") rows;
  server = first_of (codes "server") rows;
}

-- What the words after `show` ask for, if they have no fault.
-- rule: show (own) The words choose the end and hexadecimal
abbrev pub show_asked_of : (colored : Bool) → ShowNames → List Text → Option ShowAsked
show_asked_of colored names = given_by (show_app names) (show_asked_in colored)

-- the kinds of error that the words after `show` may have
-- rule: show (own) The words choose the end and hexadecimal
abbrev pub show_faults : ShowNames → List Text → Kinds
show_faults names = fault_of (show_app names)

-- the words after `show` ask for this
-- rule: show (own) The words choose the end and hexadecimal
abbrev pub ShowWordsAsk : (colored : Bool) → List Text → ShowAsked → Type 0
ShowWordsAsk colored words asked =
    (names : ShowNames) × AreShowNames names × (show_asked_of colored names words ≡ Some asked)

-- what words of the code ask for
abbrev pub show_asked_by : ShowWords → ShowAsked
show_asked_by asked = record {
  options = asked.options;
  file = option_map (λ file. file.now) asked.file;
  client = option_map (λ file. file.now) asked.client;
  server = option_map (λ file. file.now) asked.server;
}

-- the words after `show` have a fault of the error's kind, or memory ran out
abbrev pub ShowWordsFail : List Text → Error → Type 0
ShowWordsFail words error =
    (names : ShowNames) × AreShowNames names × HasKind (show_faults names words) error

-- Whether one of the words is this one.
abbrev pub has_word : List Text → Text → Bool
has_word words wanted = list_any (λ word. bytes_eq word wanted) words

-- One of the words after `show` is `--follow`.
-- rule: follow (own) The word --follow excludes --hex and --from
abbrev pub asks_follow : List Text → Bool
asks_follow words = has_word words (codes "--follow")

-- What words with `--follow` ask for: how the text is shown, and the file that a page is written to.
-- rule: page (own) With --page a page is written to a file in place of the lines
pub record FollowAsked : Type 0 where
  pub options : FollowOptions
  pub page : Option Text

-- what the matches of `show --follow` say
-- rule: follow (own) The word --follow excludes --hex and --from
abbrev pub follow_asked_in : List Row → FollowAsked
follow_asked_in rows = record {
  options = record { max_frame = number_or 16384 (one_of (codes "max-frame") rows) };
  page = first_of (codes "page") rows;
}

-- What words with `--follow` ask for, if they have no fault.
-- rule: follow (own) The word --follow excludes --hex and --from
abbrev pub follow_asked_of : List Text → Option FollowAsked
follow_asked_of = given_by follow_app follow_asked_in

-- what words of the code ask for
abbrev pub follow_asked_by : FollowWords → FollowAsked
follow_asked_by asked =
    record { options = asked.options; page = option_map (λ file. file.now) asked.page }

-- the kinds of error that they may have
-- rule: follow (own) The word --follow excludes --hex and --from
abbrev pub follow_faults : List Text → Kinds
follow_faults = fault_of follow_app

-- what the matches of `replay` say
abbrev pub replay_options_in : List Row → ReplayOptions
replay_options_in rows = record {
  hex = is_set (one_of (codes "hex") rows);
  role = if has_value (codes "client") (first_of (codes "as") rows) then role.Client
      else role.Server;
}

-- The options that the words after `replay` give, if they have no fault.
-- rule: replay (own) The words of replay choose the end and hexadecimal
abbrev pub replay_options_of : SideNames → List Text → Option ReplayOptions
replay_options_of names = given_by (replay_app names) replay_options_in

-- the kinds of error that the words after `replay` may have
abbrev pub replay_faults : SideNames → List Text → Kinds
replay_faults names = fault_of (replay_app names)

-- the words after `replay` give these options
-- rule: replay (own) The words of replay choose the end and hexadecimal
abbrev pub ReplayWordsGive : List Text → ReplayOptions → Type 0
ReplayWordsGive words options =
    (names : SideNames) × AreSides names × (replay_options_of names words ≡ Some options)

-- the words after `replay` have a fault of the error's kind, or memory ran out
abbrev pub ReplayWordsFail : List Text → Error → Type 0
ReplayWordsFail words error =
    (names : SideNames) × AreSides names × HasKind (replay_faults names words) error

-- One of the words after `replay` is `--messages`. Where they have no fault, that is the flag: no
-- value of an option is that word.
-- rule: messages (own) The word --messages has the rules of messages checked
abbrev pub asks_messages : List Text → Bool
asks_messages words = has_word words (codes "--messages")

-- the number that an argument's value writes in decimal digits
abbrev pub number_given : Text → List Row → ℕ
number_given id rows = digits_value 10 (without_leading_plus (unwrap_or (one_of id rows) []))

-- what the matches of `serve` say
abbrev pub serve_options_in : List Row → ServeOptions
serve_options_in rows =
    record { port = number_given (codes "PORT") rows; count = number_given (codes "COUNT") rows }

-- The port and the count that the words after `serve` give, if they have no fault.
-- rule: engines (own) serve, get and loop have their words
abbrev pub serve_options_of : List Text → Option ServeOptions
serve_options_of = given_by serve_app serve_options_in

-- the kinds of error that the words after `serve` may have
abbrev pub serve_faults : List Text → Kinds
serve_faults = fault_of serve_app

-- What the words after `get` ask for: a URL; whether the response's fields are printed; the fields
-- of the request, each as it was written; its method and its body, where they are given; whether a
-- status of 400 or above is a failure; the port where the URL names none; the file that the body
-- goes into, if one is named; whether the body is printed as it comes; in how many seconds all is to
-- be done, where that is given; and the size of the window, as it was written.
-- rule: engines (own) serve, get and loop have their words
pub record GetWords : Type 0 where
  pub url : Text
  pub include : Bool
  pub fields : List Text
  pub method : Option Text
  pub body : Option Text
  pub fail : Bool
  pub port : Option ℕ
  pub output : Option Text
  pub stream : Bool
  pub timeout : Option ℕ
  pub verbose : Bool
  pub others : List Text
  pub window : Option Text

-- the number that an option's value writes in decimal digits, where it is given
abbrev pub number_if : Option Text → Option ℕ
number_if = option_map (λ text. digits_value 10 (without_leading_plus text))

-- what the matches of `get` say
abbrev pub get_words_in : List Row → GetWords
get_words_in rows = record {
  url = unwrap_or (first_of (codes "URL") rows) [];
  include = is_set (one_of (codes "include") rows);
  fields = unwrap_or (all_of (codes "header") rows) [];
  method = first_of (codes "request") rows;
  body = first_of (codes "data") rows;
  fail = is_set (one_of (codes "fail") rows);
  port = number_if (one_of (codes "port") rows);
  output = first_of (codes "output") rows;
  stream = is_set (one_of (codes "stream") rows);
  timeout = number_if (one_of (codes "timeout") rows);
  verbose = is_set (one_of (codes "verbose") rows);
  others = unwrap_or (all_of (codes "URLS") rows) [];
  window = first_of (codes "window") rows;
}

-- What the words after `get` ask for, if they have no fault.
-- rule: engines (own) serve, get and loop have their words
abbrev pub get_words_of : List Text → Option GetWords
get_words_of = given_by get_app get_words_in

-- what options of the code ask for
abbrev pub asked_by : GetOptions → GetWords
asked_by options = record {
  url = options.url.now;
  include = options.include;
  fields = map (λ field. field.now) options.fields.items;
  method = option_map (λ method. method.now) options.method;
  body = option_map (λ body. body.now) options.body;
  fail = options.fail;
  port = options.port;
  output = option_map (λ output. output.now) options.output;
  stream = options.stream;
  timeout = options.timeout;
  verbose = options.verbose;
  others = map (λ url. url.now) options.others.items;
  window = option_map (λ window. window.now) options.window;
}

-- the kinds of error that the words after `get` may have
abbrev pub get_faults : List Text → Kinds
get_faults = fault_of get_app

-- what the matches of `loop` say
abbrev pub loop_options_in : List Row → LoopOptions
loop_options_in rows = record {
  count = number_given (codes "N") rows;
  each_way = is_set (one_of (codes "each-way") rows);
}

-- What the words after `loop` give, if they have no fault: the number of octets, and whether
-- megabytes and seconds are printed.
-- rule: engines (own) serve, get and loop have their words
abbrev pub loop_options_of : List Text → Option LoopOptions
loop_options_of = given_by loop_app loop_options_in

-- the kinds of error that the words after `loop` may have
abbrev pub loop_faults : List Text → Kinds
loop_faults = fault_of loop_app

-- What the words after `host` ask for: a port; a folder and an address, where they are given; how
-- many connections, and after how many seconds an idle one ends, where that is given; whether a
-- line a request is printed; whether the host ends with standard input; and the size of a window, as
-- it was written.
-- rule: hosts (own) The words of host say what is served, where, and for how long
pub record HostAsked : Type 0 where
  pub port : ℕ
  pub root : Option Text
  pub address : Option Text
  pub connections : Option ℕ
  pub idle : Option ℕ
  pub log : Bool
  pub until_closed : Bool
  pub window : Option Text

-- what the matches of `host` say
abbrev pub host_words_in : List Row → HostAsked
host_words_in rows = record {
  port = number_given (codes "PORT") rows;
  root = first_of (codes "root") rows;
  address = first_of (codes "address") rows;
  connections = number_if (one_of (codes "connections") rows);
  idle = number_if (one_of (codes "idle") rows);
  log = is_set (one_of (codes "log") rows);
  until_closed = is_set (one_of (codes "until-closed") rows);
  window = first_of (codes "window") rows;
}

-- What the words after `host` ask for, if they have no fault.
-- rule: hosts (own) The words of host say what is served, where, and for how long
abbrev pub host_words_of : List Text → Option HostAsked
host_words_of = given_by host_app host_words_in

-- what options of the code ask for
abbrev pub host_asked_by : HostWords → HostAsked
host_asked_by options = record {
  port = options.port;
  root = option_map (λ root. root.now) options.root;
  address = option_map (λ address. address.now) options.address;
  connections = options.connections;
  idle = options.idle;
  log = options.log;
  until_closed = options.until_closed;
  window = option_map (λ window. window.now) options.window;
}

-- the kinds of error that the words after `host` may have
abbrev pub host_faults : List Text → Kinds
host_faults = fault_of host_app

-- the kinds of error that the words of the program may have
abbrev pub program_faults : ShowNames → SideNames → List Text → Kinds
program_faults shown replayed = fault_of (program_app shown replayed)

-- the words of the program have no fault
abbrev pub ProgramWordsPass : List Text → Type 0
ProgramWordsPass words = (shown : ShowNames) × (replayed : SideNames) × AreShowNames shown
    × AreSides replayed
    × (program_faults shown replayed words ≡ [])

-- the words of the program have a fault of the error's kind, or memory ran out
abbrev pub ProgramWordsFail : List Text → Error → Type 0
ProgramWordsFail words error = (shown : ShowNames) × (replayed : SideNames)
    × AreShowNames shown × AreSides replayed
    × HasKind (program_faults shown replayed words) error
