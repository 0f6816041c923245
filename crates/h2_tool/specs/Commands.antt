-- What the commands of `h2` do, by the words that follow their names and the status with which they
-- end.
use Rattle.std.specs.Prelude.{◌≡◌, ◌≢◌, ◌⊎◌, ℕ, Bool, true, false, List, [], ◌∷◌, Option, Some}
use Rattle.std.specs.Prelude.{None, Ok, Err, IfSome, MatchBool, MatchOption, codes}
use Rattle.std.specs.Io.KnownBytes.{Appends}
use Rattle.clap.specs.Words.{IsAmong, Kinds}
use Rattle.clap.specs.declared.error.kind.ErrorKind.{ErrorKind}
use Rattle.clap.specs.declared.error.kind.ErrorKind.TheVariants as kinds
use Rattle.h2_show.specs.declared.options.ShowOptions.{ShowOptions}
use Rattle.h2_cli.specs.declared.status.Status.{Status}
use Rattle.h2_cli.specs.declared.status.Status.TheVariants.{Good, Fault, Usage, Device, Memory}
use Rattle.h2_cli.specs.Hexadecimal.{IsBadHex}
use Rattle.h2_show.specs.Shown.{ShowsInput}
use Rattle.h2_follow.specs.declared.follow.FollowOptions.{FollowOptions}
use Rattle.h2_follow.specs.declared.hint.FollowHint.{FollowHint}
use Rattle.h2_follow.specs.Follows.{FollowsText, FollowsToBadLine}
use Rattle.h2_follow.specs.Sides.{HasBadHex, ShowsSides}
use Rattle.h2_events.specs.declared.options.ReplayOptions.{ReplayOptions}
use Rattle.h2_events.specs.Report.{ReplayReportsInput}
use Rattle.h2_conn.specs.declared.why.Why.{Why}
use Rattle.h2_messages.specs.Messages.{MessagesOfInput}
use Rattle.h2_args.specs.Commands.{AreSides, SideNames, AreShowNames, ShowNames}
use Rattle.h2_args.specs.Words.{ShowAsked, ShowWordsAsk, show_faults, ReplayWordsGive}
use Rattle.h2_args.specs.Words.{replay_faults}
use Rattle.h2_args.specs.Words.{serve_options_of, serve_faults, GetWords, get_words_of}
use Rattle.h2_args.specs.Words.{loop_options_of, asks_messages}
use Rattle.h2_args.specs.declared.sockets.LoopOptions.{LoopOptions}
use Rattle.h2_args.specs.Words.{FollowAsked, asks_follow, follow_asked_of, follow_faults}
use Rattle.h2_args.specs.Words.{HostAsked, host_faults, host_words_of, loop_faults, program_faults}
use Rattle.h2_args.specs.Windows.{window_or}
use Rattle.h2_args.specs.declared.sockets.ServeOptions.{ServeOptions}
use Rattle.h2_hosting.specs.Ending.{EndsHosting}
use Rattle.h2_link.specs.declared.error.LinkError.{LinkError}
use Rattle.h2_engines.specs.declared.fetcher.Fetched.{Fetched}
use Rattle.h2_net.specs.Endings.{IsServingStatus, status_with}
use Rattle.h2_net.specs.Loopback.{ExchangesPost}
use Rattle.h2_net.specs.Printing.{exchange_line}
use Rattle.h2_net.specs.Serving.{ServesPort}
use Rattle.h2_get.specs.Requests.{reads_input}

-- A kind of clap's error that asks for help, or for the version.
abbrev pub IsOfHelp : ErrorKind → Type 0
IsOfHelp kind = (kind ≡ kinds.DisplayHelp) ⊎ (kind ≡ kinds.DisplayVersion)

-- A kind of a word that is wrong, or required and absent.
abbrev pub IsOfWrongWords : ErrorKind → Type 0
IsOfWrongWords kind = (kind ≢ kinds.OutOfMemory) × ((kind ≢ kinds.DisplayHelp)
    × (kind ≢ kinds.DisplayVersion))

-- How words that give no options end, by the kind of clap's error. Where they ask for help or the
-- version, nothing is said of what is printed; else nothing is printed on standard output, whose
-- contents are known before and after; and memory that ran out is no fault of the words. What can't
-- be printed is `Device`.
-- rule: show (own) The words choose the end and hexadecimal
abbrev pub AnswersWords : ErrorKind → (before after : Option (List ℕ)) → Status → Type 0
AnswersWords kind before after Good = IsOfHelp kind
AnswersWords kind before after Fault = ⊥
AnswersWords kind before after Usage = IsOfWrongWords kind × (after ≡ before)
AnswersWords kind before after Device =
    IsOfHelp kind ⊎ (IsOfWrongWords kind × (after ≡ before))
AnswersWords kind before after Memory = (kind ≡ kinds.OutOfMemory) × (after ≡ before)

-- Of the kinds of error that the words may have, one is that help is asked for, or the version.
abbrev pub AsksHelp : Kinds → Type 0
AsksHelp faults = IsAmong kinds.DisplayHelp faults ⊎ IsAmong kinds.DisplayVersion faults

-- One of them is that a word is wrong, or required and absent.
abbrev pub HasWrongWords : Kinds → Type 0
HasWrongWords faults = (kind : ErrorKind) × IsAmong kind faults × IsOfWrongWords kind

-- How a command ends whose words give it nothing to do, by the kinds of error that they may have:
-- they ask for help or the version; or a word is wrong, or memory ran out, and nothing is printed
-- on standard output.
-- rule: show (own) The words choose the end and hexadecimal
-- rule: engines (own) serve, get and loop have their words
abbrev pub EndsByWords : (faults : Kinds) → (before after : Option (List ℕ)) → Status → Type 0
EndsByWords faults before after Good = AsksHelp faults
EndsByWords faults before after Fault = ⊥
EndsByWords faults before after Usage = HasWrongWords faults × (after ≡ before)
EndsByWords faults before after Device =
    AsksHelp faults ⊎ (HasWrongWords faults × (after ≡ before))
EndsByWords faults before after Memory = after ≡ before

-- These are the kinds of error that the words after `show` may have.
abbrev pub ShowFaults : (words : List (List ℕ)) → Kinds → Type 0
ShowFaults words faults =
    (names : ShowNames) × AreShowNames names × (show_faults names words ≡ faults)

-- These are those of the words after `replay`.
abbrev pub ReplayFaults : (words : List (List ℕ)) → Kinds → Type 0
ReplayFaults words faults =
    (names : SideNames) × AreSides names × (replay_faults names words ≡ faults)

-- These are those of words that begin with no command's name.
abbrev pub ProgramFaults : (words : List (List ℕ)) → Kinds → Type 0
ProgramFaults words faults = (shown : ShowNames) × (replayed : SideNames) × AreShowNames shown
    × AreSides replayed
    × (program_faults shown replayed words ≡ faults)

-- What was appended to the output is the lines of an input under these options.
abbrev pub PrintsLines : ShowOptions → (given : List ℕ) → (before after : Option (List ℕ)) → Status
    → Type 0
PrintsLines options given before after status =
    (lines : List ℕ) × ShowsInput options given status lines × Appends before after lines

-- How showing an input ends under these options: of a reader whose octets are known, and a writer
-- whose contents are, before and after. `Usage` comes only where the input was to be hexadecimal,
-- and isn't.
-- rule: show (own) The words choose the end and hexadecimal
abbrev pub ShowsSo : ShowOptions → (remaining before after : Option (List ℕ)) → Status → Type 0
ShowsSo options remaining before after Good =
    IfSome remaining (λ given. PrintsLines options given before after Good)
ShowsSo options remaining before after Fault =
    IfSome remaining (λ given. PrintsLines options given before after Fault)
ShowsSo options remaining before after Usage =
    IfSome remaining (λ given. (options.hex ≡ true) × IsBadHex given)
ShowsSo options remaining before after Device = Unit {0}
ShowsSo options remaining before after Memory = Unit {0}

-- What was appended to the output is the lines of the inputs of both sides.
abbrev pub PrintsSides : ShowOptions → (client server before after : Option (List ℕ)) → Status
    → Type 0
PrintsSides options client server before after status = IfSome client (λ one. IfSome server (λ two.
    (lines : List ℕ) × ShowsSides options one two status lines × Appends before after lines))

-- How showing a file ends under these options. It can't be opened, and nothing is printed; or what
-- it holds, of which nothing is said, is shown. Standard input is not read.
-- rule: show (own) With --file the input is that of a file
pub data ShowsFile (options : ShowOptions) (remaining left before after : Option (List ℕ))
    (status : Status) : Type 0 where
  is_unopened : status ≡ Device → after ≡ before → left ≡ remaining
      → ShowsFile options remaining left before after status
  is_shown : (held : Option (List ℕ)) → ShowsSo options held before after status
      → left ≡ remaining → ShowsFile options remaining left before after status

-- How showing the octets of both sides ends: of readers whose octets are known, and a writer whose
-- contents are, before and after. `Usage` comes only where an input was to be hexadecimal, and
-- isn't.
-- rule: sides (own) The client's input is shown whole, and then the server's
abbrev pub SidesSo : ShowOptions → (client server before after : Option (List ℕ)) → Status → Type 0
SidesSo options client server before after Good =
    PrintsSides options client server before after Good
SidesSo options client server before after Fault =
    PrintsSides options client server before after Fault
SidesSo options client server before after Usage = IfSome client (λ one.
    IfSome server (λ two. HasBadHex options (Some one) (Some two)))
SidesSo options client server before after Device = Unit {0}
SidesSo options client server before after Memory = Unit {0}

-- How showing the files of both sides ends. One can't be opened, and nothing is printed; or what
-- they hold, of which nothing is said, is shown. Standard input is not read.
-- rule: sides (own) --client and --server go together, and without --file
pub data ShowsFiles (options : ShowOptions) (remaining left before after : Option (List ℕ))
    (status : Status) : Type 0 where
  are_unopened : status ≡ Device → after ≡ before → left ≡ remaining
      → ShowsFiles options remaining left before after status
  are_shown : (client server : Option (List ℕ)) → SidesSo options client server before after status
      → left ≡ remaining → ShowsFiles options remaining left before after status

-- The files can't be given so: nothing is read, and nothing printed on standard output.
-- rule: sides (own) --client and --server go together, and without --file
abbrev pub RefusesFiles : (remaining left before after : Option (List ℕ)) → Status → Type 0
RefusesFiles remaining left before after status =
    (status ≡ Usage) × (after ≡ before) × (left ≡ remaining)

-- How showing what is asked for ends: standard input, a file, or the files of both sides.
-- rule: show (own) With --file the input is that of a file
-- rule: sides (own) --client and --server go together, and without --file
abbrev pub ShowsGiven : ShowOptions → (file client server : Option (List ℕ))
    → (remaining left before after : Option (List ℕ)) → Status → Type 0
ShowsGiven options None None None remaining left before after status =
    ShowsSo options remaining before after status
ShowsGiven options (Some file) None None remaining left before after status =
    ShowsFile options remaining left before after status
ShowsGiven options None (Some client) (Some server) remaining left before after status =
    ShowsFiles options remaining left before after status
ShowsGiven options (Some file) (Some client) (Some server) remaining left before after status =
    RefusesFiles remaining left before after status
ShowsGiven options file (Some client) None remaining left before after status =
    RefusesFiles remaining left before after status
ShowsGiven options file None (Some server) remaining left before after status =
    RefusesFiles remaining left before after status

abbrev pub ShowsAsked : ShowAsked → (remaining left before after : Option (List ℕ)) → Status
    → Type 0
ShowsAsked asked remaining left before after status =
    ShowsGiven asked.options asked.file asked.client asked.server remaining left before after status

-- The words after `show` ask for something, and it ends so; `colored` says whether `--color auto`
-- has colors.
pub record ShowsAsAsked (colored : Bool) (words : List (List ℕ))
    (remaining left before after : Option (List ℕ)) (status : Status) : Type 0 where
  pub asked : ShowAsked
  pub given : ShowWordsAsk colored words asked
  pub so : ShowsAsked asked remaining left before after status

-- How `h2 show` ends without `--follow`: of a reader whose octets are known, `remaining` of which
-- `left` are not read, and a writer whose contents are, before and after. Words that give no
-- options read nothing.
-- rule: show (own) The words choose the end and hexadecimal
abbrev pub EndsShowOne : (colored : Bool) → (words : List (List ℕ))
    → (remaining left : Option (List ℕ)) → (before after : Option (List ℕ)) → Status → Type 0
EndsShowOne colored words remaining left before after status =
    ShowsAsAsked colored words remaining left before after status
    ⊎ ((faults : Kinds) × ShowFaults words faults × (left ≡ remaining)
    × EndsByWords faults before after status)

-- What was appended to the output is the lines of both sides of a text.
abbrev pub PrintsBoth : FollowOptions → (text : List ℕ) → (before after : Option (List ℕ)) → Status
    → Type 0
PrintsBoth options text before after status =
    (lines : List ℕ) × FollowsText options.max_frame text status lines
    × Appends before after lines

-- What was appended to the output is the lines of both sides of a text up to a line that is
-- refused.
-- rule: follow (own) A line that is not of tshark's text ends all, with its number
abbrev pub PrintsToBadLine : FollowOptions → (text : List ℕ) → (before after : Option (List ℕ))
    → Type 0
PrintsToBadLine options text before after =
    (hint : Option FollowHint) × (lines : List ℕ)
    × FollowsToBadLine options.max_frame text hint lines × Appends before after lines

-- How showing both sides of a text ends under these options: of a reader whose octets are known,
-- and a writer whose contents are, before and after. `Usage` comes only where a line isn't of
-- tshark's text.
-- rule: follow (own) The status is 0 only where both sides are good to their ends
abbrev pub FollowsSo : FollowOptions → (remaining before after : Option (List ℕ)) → Status → Type 0
FollowsSo options remaining before after Good =
    IfSome remaining (λ text. PrintsBoth options text before after Good)
FollowsSo options remaining before after Fault =
    IfSome remaining (λ text. PrintsBoth options text before after Fault)
FollowsSo options remaining before after Usage =
    IfSome remaining (λ text. PrintsToBadLine options text before after)
FollowsSo options remaining before after Device = Unit {0}
FollowsSo options remaining before after Memory = Unit {0}

-- How writing a page ends: nothing is printed, and the page is made of the lines that showing the
-- text prints, of which the status is, unless the file can't be written.
-- rule: page (own) With --page a page is written to a file in place of the lines
pub record PagesSo (options : FollowOptions) (remaining before after : Option (List ℕ))
    (status : Status) : Type 0 where
  pub lines : Option (List ℕ)
  pub so : FollowsSo options remaining (Some []) lines status
  pub unwritten : after ≡ before

-- How it ends with what is asked for: lines, or a page.
abbrev pub FollowsAsked : FollowAsked → (remaining before after : Option (List ℕ)) → Status → Type 0
FollowsAsked asked remaining before after status = MatchOption asked.page
    (FollowsSo asked.options remaining before after status)
    (λ file. PagesSo asked.options remaining before after status)

-- The words with `--follow` ask for something, and it ends so.
pub record FollowsAsAsked (words : List (List ℕ)) (remaining before after : Option (List ℕ))
    (status : Status) : Type 0 where
  pub asked : FollowAsked
  pub given : follow_asked_of words ≡ Some asked
  pub so : FollowsAsked asked remaining before after status

-- How `h2 show` ends with `--follow`. Words that give no options read nothing.
-- rule: follow (own) The word --follow excludes --hex and --from
abbrev pub EndsFollow : (words : List (List ℕ)) → (remaining left : Option (List ℕ))
    → (before after : Option (List ℕ)) → Status → Type 0
EndsFollow words remaining left before after status =
    FollowsAsAsked words remaining before after status
    ⊎ ((left ≡ remaining) × EndsByWords (follow_faults words) before after status)

-- How `h2 show` ends; `colored` says whether `--color auto` has colors.
-- rule: show (own) The words choose the end and hexadecimal
-- rule: follow (own) The word --follow excludes --hex and --from
abbrev pub EndsShow : (colored : Bool) → (words : List (List ℕ))
    → (remaining left : Option (List ℕ)) → (before after : Option (List ℕ)) → Status → Type 0
EndsShow colored words remaining left before after status =
    MatchBool (asks_follow words)
    (EndsFollow words remaining left before after status)
    (EndsShowOne colored words remaining left before after status)

-- How an end that takes an input ends under these options, of a reader whose octets are known.
-- rule: replay (own) The words of replay choose the end and hexadecimal
abbrev pub ReplaysSo : ReplayOptions → (remaining : Option (List ℕ)) → Status → Type 0
ReplaysSo options remaining Good =
    IfSome remaining (λ given. ReplayReportsInput options given Good)
ReplaysSo options remaining Fault =
    IfSome remaining (λ given. ReplayReportsInput options given Fault)
ReplaysSo options remaining Usage =
    IfSome remaining (λ given. (options.hex ≡ true) × IsBadHex given)
ReplaysSo options remaining Device = Unit {0}
ReplaysSo options remaining Memory = Unit {0}

-- The words after `replay` give options, and it ends so under these.
pub record ReplaysAsAsked (words : List (List ℕ)) (remaining : Option (List ℕ))
    (status : Status) : Type 0
  where
    pub options : ReplayOptions
    pub asked : ReplayWordsGive words options
    pub so : ReplaysSo options remaining status

-- How `h2 replay` ends without `--messages`. Words that give no options read nothing.
-- rule: replay (own) The words of replay choose the end and hexadecimal
abbrev pub EndsReplayOne : (words : List (List ℕ)) → (remaining left : Option (List ℕ))
    → (before after : Option (List ℕ)) → Status → Type 0
EndsReplayOne words remaining left before after status =
    ReplaysAsAsked words remaining status
    ⊎ ((faults : Kinds) × ReplayFaults words faults × (left ≡ remaining)
    × EndsByWords faults before after status)

-- What was appended to the output is what a client or a server of messages makes of the input.
abbrev pub PrintsOfMessages : ReplayOptions → (given : List ℕ) → (before after : Option (List ℕ))
    → Status → Type 0
PrintsOfMessages options given before after status =
    (why : Option Why) × (output : List ℕ) × MessagesOfInput options given status why output
    × Appends before after output

-- How a client or a server of messages that takes an input ends under these options: of a reader
-- whose octets are known, and a writer whose contents are, before and after.
-- rule: messages (own) The word --messages has the rules of messages checked
abbrev pub MessagesSo : ReplayOptions → (remaining before after : Option (List ℕ)) → Status → Type 0
MessagesSo options remaining before after Good =
    IfSome remaining (λ given. PrintsOfMessages options given before after Good)
MessagesSo options remaining before after Fault =
    IfSome remaining (λ given. PrintsOfMessages options given before after Fault)
MessagesSo options remaining before after Usage =
    IfSome remaining (λ given. (options.hex ≡ true) × IsBadHex given)
MessagesSo options remaining before after Device = Unit {0}
MessagesSo options remaining before after Memory = Unit {0}

-- The words after `replay` give options, and it ends so under these.
pub record MessagesAsAsked (words : List (List ℕ)) (remaining before after : Option (List ℕ))
    (status : Status) : Type 0 where
  pub options : ReplayOptions
  pub asked : ReplayWordsGive words options
  pub so : MessagesSo options remaining before after status

-- How `h2 replay` ends with `--messages`. Words that give no options read nothing.
-- rule: messages (own) The word --messages has the rules of messages checked
abbrev pub EndsMessages : (words : List (List ℕ)) → (remaining left : Option (List ℕ))
    → (before after : Option (List ℕ)) → Status → Type 0
EndsMessages words remaining left before after status =
    MessagesAsAsked words remaining before after status
    ⊎ ((faults : Kinds) × ReplayFaults words faults × (left ≡ remaining)
    × EndsByWords faults before after status)

-- How `h2 replay` ends.
-- rule: replay (own) The words of replay choose the end and hexadecimal
-- rule: messages (own) The word --messages has the rules of messages checked
abbrev pub EndsReplay : (words : List (List ℕ)) → (remaining left : Option (List ℕ))
    → (before after : Option (List ℕ)) → Status → Type 0
EndsReplay words remaining left before after status =
    MatchBool (asks_messages words)
    (EndsMessages words remaining left before after status)
    (EndsReplayOne words remaining left before after status)

-- The words after `serve` give a port and a count: that number of connections were served, or the
-- port can't be had. Nothing is printed on standard output.
-- rule: engines (own) serve, get and loop have their words
pub record ServesCount (words : List (List ℕ)) (before after : Option (List ℕ))
    (status : Status) : Type 0 where
  pub options : ServeOptions
  pub asked : serve_options_of words ≡ Some options
  pub may : IsServingStatus status
  pub so : ServesPort options.count status
  pub unwritten : after ≡ before

-- How `h2 serve` ends.
-- rule: engines (own) serve, get and loop have their words
abbrev pub EndsServe : (words : List (List ℕ)) → (before after : Option (List ℕ)) → Status → Type 0
EndsServe words before after status =
    ServesCount words before after status ⊎ EndsByWords (serve_faults words) before after status

-- The exchange has ended early, with an error of this status, and nothing was printed.
pub record FailsToPost (count : ℕ) (before after : Option (List ℕ)) (status : Status) : Type 0 where
  pub error : LinkError
  pub got : ExchangesPost count (Err error)
  pub status_is : status_with error ≡ status
  pub unwritten : after ≡ before

-- How the posting of `count` octets ends, with a writer whose contents are known: never with
-- `Usage`, and with `Device` for N1 and N5, and where the line could not be printed.
-- rule: engines (own) serve, get and loop have their words
abbrev pub PostsSo : (count : ℕ) → (before after : Option (List ℕ)) → Status → Type 0
PostsSo count before after Good =
    (fetched : Fetched) × ExchangesPost count (Ok fetched)
    × Appends before after (exchange_line count fetched)
PostsSo count before after Fault = FailsToPost count before after Fault
PostsSo count before after Usage = ⊥
PostsSo count before after Device =
    FailsToPost count before after Device
    ⊎ ((fetched : Fetched) × ExchangesPost count (Ok fetched))
PostsSo count before after Memory = FailsToPost count before after Memory

-- How `h2 loop` ends.
-- rule: engines (own) serve, get and loop have their words
abbrev pub EndsLoop : (words : List (List ℕ)) → (before after : Option (List ℕ)) → Status → Type 0
EndsLoop words before after status =
    ((options : LoopOptions) × (loop_options_of words ≡ Some options)
    × PostsSo options.count before after status)
    ⊎ EndsByWords (loop_faults words) before after status

-- the window of a connection that the words ask for, if that is the size of one: 1 MiB without
-- --window
-- rule: engines (own) The size of --window is a number of octets, with k or m for more
abbrev pub host_window : HostAsked → Option ℕ
host_window asked = window_or asked.window 1048576

-- The status with words that have no fault: that of a host; or its address is none, or the size of
-- its window, for which nothing is served.
-- rule: hosts (own) A host ends with one of three statuses
pub record EndsHostAsked (asked : HostAsked) (status : Status) : Type 0 where
  pub ends : EndsHosting status ⊎ (status ≡ Usage)
  pub window : host_window asked ≡ None → status ≡ Usage
  pub serves : asked.address ≡ None → host_window asked ≢ None → EndsHosting status

-- How `h2 host` ends: by its words; or, with words that have no fault, as a host does, or since its
-- address or the size of its window is none.
-- rule: hosts (own) The words of host say what is served, where, and for how long
abbrev pub EndsHost : (words : List (List ℕ)) → (before after : Option (List ℕ)) → Status → Type 0
EndsHost words before after status =
    ((asked : HostAsked) × (host_words_of words ≡ Some asked) × EndsHostAsked asked status)
    ⊎ EndsByWords (host_faults words) before after status

-- The first of the words, if there is one, is no command's name.
abbrev pub NamesNoCommand : (words : List (List ℕ)) → Type 0
NamesNoCommand [] = Unit {0}
NamesNoCommand (name ∷ others) =
    (name ≢ codes "show") × ((name ≢ codes "replay") × ((name ≢ codes "serve")
    × ((name ≢ codes "get") × ((name ≢ codes "loop") × (name ≢ codes "host")))))

-- The words after `get` don't ask for a body that standard input gives.
-- rule: engines (own) The words of get make its request and say what is printed
abbrev pub ReadNoInput : (words : List (List ℕ)) → Type 0
ReadNoInput words =
    (asked : GetWords) → get_words_of words ≡ Some asked → reads_input asked ≡ false

-- The first of the words, if there is one, names no command that reads standard input: not `show`,
-- not `replay`, and not `get` with `-d @-`.
-- rule: show (own) The words choose the end and hexadecimal
-- rule: engines (own) The words of get make its request and say what is printed
abbrev pub NamesNoReader : (words : List (List ℕ)) → Type 0
NamesNoReader [] = Unit {0}
NamesNoReader (name ∷ others) = (name ≢ codes "show")
    × ((name ≢ codes "replay") × (name ≡ codes "get" → ReadNoInput others))

-- How the program ends with words that name no command: they ask for help or the version, or are
-- wrong.
-- rule: show (own) The words choose the end and hexadecimal
abbrev pub EndsProgram : (words : List (List ℕ)) → (before after : Option (List ℕ)) → Status
    → Type 0
EndsProgram words before after status =
    (faults : Kinds) × ProgramFaults words faults × EndsByWords faults before after status
