-- The commands of `h2` as clap reads them: of words that begin with no program's name.
use Rattle.std.specs.Prelude.{◌≡◌, ℕ, true, List, [], ◌∷◌, Some, pos, codes, map}
use Rattle.std.specs.Borrow.{Bor}
use Rattle.clap.specs.Words.{App, Rule, Text, new_app, new_rule, with_rule, with_subcommand}
use Rattle.clap.specs.Simple.{on_top}
use Rattle.clap.specs.declared.builder.action.ArgAction.TheVariants.{Append, Set, SetTrue}
use Rattle.clap.specs.declared.builder.value_parser.ValueParser.{ValueParser}
use Rattle.clap.specs.declared.builder.value_parser.ValueParser.TheVariants.{Names, Signed}

-- a command of this name with no arguments yet
abbrev pub named_app : Text → App
named_app name = on_top (λ s. record s { no_binary_name = true }) (new_app name)

-- the flag `--hex`
abbrev pub hex_rule : Rule
hex_rule = record (new_rule (codes "hex")) { long = Some (codes "hex"); action = Some SetTrue }

-- a value that stands at no place in memory
abbrev pub at_no_place : {X : Type 0} → X → Bor X
at_no_place x = record { ref_ptr = (0, 0); now = x }

-- Names of a side, as a parser lends them: where they stand in memory isn't known.
abbrev pub SideNames : Type 0
SideNames = Bor (List (Bor Text))

-- the names are `client` and `server`
abbrev pub AreSides : SideNames → Type 0
AreSides names = map (λ name. name.now) names.now ≡ codes "client" ∷ codes "server" ∷ []

-- the names where they stand at no place in memory
abbrev pub sides : SideNames
sides = at_no_place (at_no_place (codes "client") ∷ at_no_place (codes "server") ∷ [])

-- an option that names a side, with the name that it has where it isn't given
abbrev pub side_rule : Text → Text → SideNames → Rule
side_rule name default names = record (new_rule name) {
  long = Some name;
  value_names = 1;
  parser = Some (Names names);
  defaults = default ∷ [];
}

-- the rule is that of an option that names a side
abbrev pub IsSideRule : Text → Text → Rule → Type 0
IsSideRule name default rule =
    (names : SideNames) × AreSides names × (rule ≡ side_rule name default names)

-- an option of a number from `least` to `most`
abbrev pub number_option_rule : Text → ℕ → ℕ → Rule
number_option_rule name least most = record (new_rule name) {
  long = Some name;
  value_names = 1;
  parser = Some (Signed (pos least) (pos most));
}

-- the flag `--follow`
abbrev pub follow_rule : Rule
follow_rule =
    record (new_rule (codes "follow")) { long = Some (codes "follow"); action = Some SetTrue }

-- a flag without a letter
abbrev pub flag_rule : Text → Rule
flag_rule name = record (new_rule name) { long = Some name; action = Some SetTrue }

-- the words that say when there are colors
abbrev pub AreColorWords : SideNames → Type 0
AreColorWords names =
    map (λ name. name.now) names.now ≡ codes "always" ∷ codes "never" ∷ codes "auto" ∷ []

-- these words where they stand at no place in memory
abbrev pub color_words : SideNames
color_words = at_no_place
    (at_no_place (codes "always") ∷ at_no_place (codes "never") ∷ at_no_place (codes "auto") ∷ [])

-- the option of colors
-- rule: show (own) The words choose names, places, colors and JSON
abbrev pub color_rule : SideNames → Rule
color_rule names = record (new_rule (codes "color")) {
  long = Some (codes "color");
  value_names = 1;
  parser = Some (Names names);
}

-- the rule is that of the option of colors
abbrev pub IsColorRule : Rule → Type 0
IsColorRule rule = (names : SideNames) × AreColorWords names × (rule ≡ color_rule names)

-- an option whose value is any text, without a letter
abbrev pub path_rule : Text → Rule
path_rule name = record (new_rule name) { long = Some name; value_names = 1 }

-- The sides, and the words of colors, as the parsers of `show` lend them.
abbrev pub ShowNames : Type 0
ShowNames = SideNames × SideNames

abbrev pub AreShowNames : ShowNames → Type 0
AreShowNames names = AreSides names.0 × AreColorWords names.1

abbrev pub show_names : ShowNames
show_names = (sides, color_words)

-- `show [--hex] [--from SIDE] [--max-frame N]`, of the client where no side is given; the number is
-- from 16,384 to 1,048,576. Words with `--follow` are not of this command but of `follow_app`: it
-- has the flag for its help.
-- rule: show (own) The words choose the end and hexadecimal
-- rule: show (own) The words choose the limit of payloads
abbrev pub shown_input_app : SideNames → App
shown_input_app names = with_rule
    (with_rule
    (with_rule (with_rule (named_app (codes "show")) hex_rule)
    (side_rule (codes "from") (codes "client") names))
    (number_option_rule (codes "max-frame") 16384 1048576)) follow_rule

-- `show [--file FILE] [--names] [--offsets] [--color WHEN] [--json]` beside these
-- rule: show (own) The words choose names, places, colors and JSON
-- rule: show (own) With --file the input is that of a file
abbrev pub styled_app : ShowNames → App
styled_app names = with_rule
    (with_rule
    (with_rule
    (with_rule (with_rule (shown_input_app names.0) (path_rule (codes "file")))
    (flag_rule (codes "names")))
    (flag_rule (codes "offsets")))
    (color_rule names.1)) (flag_rule (codes "json"))

-- `show [--client FILE] [--server FILE]` beside all of these
-- rule: sides (own) --client and --server go together, and without --file
abbrev pub show_app : ShowNames → App
show_app names = with_rule (with_rule (styled_app names) (path_rule (codes "client")))
    (path_rule (codes "server"))

-- `show --follow [--max-frame N] [--page FILE]`
-- rule: follow (own) The word --follow excludes --hex and --from
-- rule: page (own) With --page a page is written to a file in place of the lines
abbrev pub follow_app : App
follow_app = with_rule
    (with_rule (with_rule (named_app (codes "show")) follow_rule)
    (number_option_rule (codes "max-frame") 16384 1048576)) (path_rule (codes "page"))

-- the command is `show`
abbrev pub IsShowCommand : App → Type 0
IsShowCommand a = (names : ShowNames) × AreShowNames names × (a ≡ show_app names)

-- the command is `show` without the files of both sides
abbrev pub IsStyledCommand : App → Type 0
IsStyledCommand a = (names : ShowNames) × AreShowNames names × (a ≡ styled_app names)

-- the command is `show` with its first options
abbrev pub IsShownInputCommand : App → Type 0
IsShownInputCommand a = (names : SideNames) × AreSides names × (a ≡ shown_input_app names)

-- the flag `--messages`
abbrev pub messages_rule : Rule
messages_rule =
    record (new_rule (codes "messages")) { long = Some (codes "messages"); action = Some SetTrue }

-- `replay [--hex] [--as SIDE] [--messages]`, at the server where no side is given
-- rule: replay (own) The words of replay choose the end and hexadecimal
-- rule: messages (own) The word --messages has the rules of messages checked
abbrev pub replay_app : SideNames → App
replay_app names = with_rule
    (with_rule (with_rule (named_app (codes "replay")) hex_rule)
    (side_rule (codes "as") (codes "server") names)) messages_rule

-- the command is `replay`
abbrev pub IsReplayCommand : App → Type 0
IsReplayCommand a = (names : SideNames) × AreSides names × (a ≡ replay_app names)

-- a required positional argument
abbrev pub required_rule : Text → Rule
required_rule name =
    record (new_rule name) { value_names = 1; required = true; action = Some Set }

-- the argument with the requirements of its numbers
abbrev pub with_numbers : Rule → ValueParser → Rule
with_numbers rule numbers = record rule { parser = Some numbers }

-- a required number from `least` to `most`
abbrev pub number_rule : Text → ℕ → ℕ → Rule
number_rule name least most = with_numbers (required_rule name) (Signed (pos least) (pos most))

-- `serve PORT COUNT`, each number from 1 to 65,535
-- rule: engines (own) serve, get and loop have their words
abbrev pub serve_app : App
serve_app = with_rule (with_rule (named_app (codes "serve")) (number_rule (codes "PORT") 1 65535))
    (number_rule (codes "COUNT") 1 65535)

-- the flag `--include`, or `-i`
abbrev pub include_rule : Rule
include_rule = record (flag_rule (codes "include")) { short = Some 105 }

-- an option whose value is any text, with a letter
abbrev pub text_option_rule : Text → (letter : ℕ) → Rule
text_option_rule name letter =
    record (new_rule name) { long = Some name; short = Some letter; value_names = 1 }

-- the option `--header NAME:VALUE`, or `-H`, which may be given several times
abbrev pub header_rule : Rule
header_rule = record (text_option_rule (codes "header") 72) { action = Some Append }

-- `get [-i] [-H NAME:VALUE].. URL`
-- rule: engines (own) serve, get and loop have their words
abbrev pub url_and_print_app : App
url_and_print_app = with_rule
    (with_rule (with_rule (named_app (codes "get")) (required_rule (codes "URL"))) include_rule)
    header_rule

-- `get [-i] [-H NAME:VALUE].. [-X METHOD] [-d DATA] [--fail] [--port N] URL`; the number is from 1
-- to 65,535
-- rule: engines (own) serve, get and loop have their words
abbrev pub asking_app : App
asking_app = with_rule
    (with_rule
    (with_rule (with_rule url_and_print_app (text_option_rule (codes "request") 88))
    (text_option_rule (codes "data") 100))
    (flag_rule (codes "fail")))
    (number_option_rule (codes "port") 1 65535)

-- the same with `[-o FILE] [--stream]`
-- rule: engines (own) serve, get and loop have their words
abbrev pub streaming_app : App
streaming_app = with_rule (with_rule asking_app (text_option_rule (codes "output") 111))
    (flag_rule (codes "stream"))

-- the flag `--verbose`, or `-v`
abbrev pub verbose_rule : Rule
verbose_rule = record (flag_rule (codes "verbose")) { short = Some 118 }

-- more URLs, after the first one
abbrev pub others_rule : Rule
others_rule = record (new_rule (codes "URLS")) { value_names = 1; action = Some Append }

-- the same with `[--timeout SECONDS] [-v] [--window SIZE]` and more URLs; the seconds are from 1 to
-- 65,535
-- rule: engines (own) serve, get and loop have their words
abbrev pub get_app : App
get_app = with_rule
    (with_rule
    (with_rule (with_rule streaming_app (number_option_rule (codes "timeout") 1 65535))
    verbose_rule) others_rule)
    (path_rule (codes "window"))

-- `loop N [--each-way]`; the number is from 0 to 1,048,576
-- rule: engines (own) serve, get and loop have their words
abbrev pub loop_app : App
loop_app = with_rule (with_rule (named_app (codes "loop")) (number_rule (codes "N") 0 1048576))
    (flag_rule (codes "each-way"))

-- `host PORT [--root DIR] [--address A]`; the port is from 1 to 65,535
abbrev pub served_app : App
served_app = with_rule
    (with_rule (with_rule (named_app (codes "host")) (number_rule (codes "PORT") 1 65535))
    (path_rule (codes "root")))
    (path_rule (codes "address"))

-- `host PORT [--root DIR] [--address A] [--connections N] [--idle SECONDS] [--log]`; the number is
-- from 1 to 1,048,576, and the seconds are from 0 to 86,400
-- rule: hosts (own) The words of host say what is served, where, and for how long
abbrev pub limited_app : App
limited_app = with_rule
    (with_rule (with_rule served_app (number_option_rule (codes "connections") 1 1048576))
    (number_option_rule (codes "idle") 0 86400))
    (flag_rule (codes "log"))

-- the same with `[--until-closed] [--window SIZE]`
-- rule: hosts (own) The words of host say what is served, where, and for how long
abbrev pub host_app : App
host_app = with_rule (with_rule limited_app (flag_rule (codes "until-closed")))
    (path_rule (codes "window"))

-- `h2` with any words: it has a version
abbrev pub named_program : App
named_program = on_top (λ s. record s { no_binary_name = true; has_version = true })
    (new_app (codes "h2"))

-- `h2 COMMAND`, with no command yet: it has a version, and no words ask for help
abbrev pub bare_program : App
bare_program = on_top (λ s. record s { subcommand_required = true; arg_required_else_help = true })
    named_program

-- the program with its commands
abbrev pub program_app : ShowNames → SideNames → App
program_app shown replayed = with_subcommand (with_subcommand (with_subcommand (with_subcommand
    (with_subcommand (with_subcommand bare_program (show_app shown).top) (replay_app replayed).top)
    serve_app.top) get_app.top) loop_app.top) host_app.top

-- the command is the program with its commands
abbrev pub IsProgram : App → Type 0
IsProgram a = (shown : ShowNames) × (replayed : SideNames) × AreShowNames shown × AreSides replayed
    × (a ≡ program_app shown replayed)
