-- How `show` and `replay` end with an input that was read.
use Rattle.std.proofs.Common.{◌≡◌, inl, ℕ, Bool, true, false, List, Option, Some, None, refl}
use Rattle.std.proofs.Common.{IfErr, IfOk, IfSome, MatchBool, MatchResult, Result, Ok, Err, ap}
use Rattle.std.proofs.Common.{subst, sym}
use Rattle.std.specs.Io.KnownBytes.{Appends}
use Rattle.h2_cli.specs.declared.failure.Failure.{Failure}
use Rattle.h2_cli.specs.declared.failure.Failure.TheVariants as failures
use Rattle.h2_show.specs.declared.options.ShowOptions.{ShowOptions}
use Rattle.h2_show.specs.declared.show.Shown.{Shown}
use Rattle.h2_cli.specs.declared.status.Status.{Status}
use Rattle.h2_cli.specs.declared.status.Status.TheVariants.{Good, Fault, Usage, Device, Memory}
use Rattle.h2_cli.specs.Status.{failure_status}
use Rattle.h2_cli.specs.Hexadecimal.{IsBadHex}
use Rattle.h2_show.specs.Report.{StatusReportsInput, StatusReportsOctets, StatusReportsText}
use Rattle.h2_show.specs.Shown.{ShowsInput}
use Rattle.h2_spec_log.specs.declared.role.Role.{Role}
use Rattle.h2_events.specs.declared.options.ReplayOptions.{ReplayOptions}
use Rattle.h2_events.specs.Report.{ReplayReportsInput, ReplayReportsOctets, ReplayReportsText}
use Rattle.h2_messages.specs.declared.messages.Replayed.{Replayed}
use Rattle.h2_messages.specs.Messages.{MessagesOfInput, MessagesOfOctets, MessagesOfText}
use Rattle.h2_conn.specs.declared.why.Why.{Why}
use Rattle.h2_args.specs.Words.{ShowAsked, ShowWordsAsk, ReplayWordsGive}
use Rattle.h2_follow.specs.declared.follow.FollowOptions.{FollowOptions}
use Rattle.h2_follow.specs.declared.follow.Followed.{Followed}
use Rattle.h2_follow.specs.declared.follow.Unfollowed.{Unfollowed}
use Rattle.h2_follow.specs.Follows.{FollowsToBadLine, status_of_both}
use Rattle.h2_args.specs.Words.{FollowAsked, follow_asked_of}
use Rattle.h2_follow.specs.Sides.{HasBadHex}
use Rattle.h2_tool.specs.Commands.{PagesSo, PrintsSides, ShowsAsked, SidesSo}
use Rattle.h2_tool.specs.Commands.{EndsShowOne, EndsFollow, EndsReplayOne, EndsMessages, FollowsSo}
use Rattle.h2_tool.specs.Commands.{MessagesSo, PrintsBoth, PrintsOfMessages, PrintsToBadLine}
use Rattle.h2_tool.specs.Commands.{ReplaysSo, ShowsSo}

-- No input has the status of wrong words.
no_usage : (hex : Bool) (options : ShowOptions) (given : List ℕ)
    → MatchBool hex (StatusReportsText options given Usage)
    (StatusReportsOctets options given Usage) → ⊥
no_usage true options given reports = reports.2
no_usage false options given reports = reports

no_usage_replayed : (hex : Bool) (role : Role) (given : List ℕ)
    → MatchBool hex (ReplayReportsText role given Usage) (ReplayReportsOctets role given Usage) → ⊥
no_usage_replayed true role given reports = reports.2
no_usage_replayed false role given reports = reports

-- The input was shown.
shows_so : (options : ShowOptions) (remaining before after : Option (List ℕ)) (status : Status)
    → IfSome remaining (λ given. StatusReportsInput options given status)
    → IfSome remaining (λ given. (lines : List ℕ) × ShowsInput options given status lines
    × Appends before after lines) → ShowsSo options remaining before after status
shows_so options remaining before after Good reports shows = shows
shows_so options remaining before after Fault reports shows = shows
shows_so options None before after Usage reports shows = tt
shows_so options (Some given) before after Usage reports shows =
    absurd (no_usage options.hex options given reports)
shows_so options remaining before after Device reports shows = tt
shows_so options remaining before after Memory reports shows = tt

-- It was not.
bad_hex_shown : (options : ShowOptions) (remaining before after : Option (List ℕ))
    (failure : Failure)
    → (failure ≡ failures.BadHex → (options.hex ≡ true) × IfSome remaining IsBadHex)
    → ShowsSo options remaining before after (failure_status failure)
bad_hex_shown options remaining before after failures.Device bad = tt
bad_hex_shown options remaining before after failures.Memory bad = tt
bad_hex_shown options None before after failures.BadHex bad = tt
bad_hex_shown options (Some given) before after failures.BadHex bad = bad refl

-- So showing an input ends with what came of it.
pub input_ends_so : (options : ShowOptions) (remaining before after : Option (List ℕ))
    (shown : Result Shown Failure) (status : Status)
    → IfOk shown (λ one. IfSome remaining (λ given. StatusReportsInput options given one.status))
    → IfOk shown (λ one. IfSome remaining (λ given. (lines : List ℕ)
    × ShowsInput options given one.status lines × Appends before after lines))
    → (shown ≡ Err failures.BadHex → (options.hex ≡ true) × IfSome remaining IsBadHex)
    → MatchResult shown (λ one. status ≡ one.status) (λ failure. status ≡ failure_status failure)
    → ShowsSo options remaining before after status
input_ends_so options remaining before after (Ok one) status reports shows bad so =
    subst (ShowsSo options remaining before after) (sym so)
    (shows_so options remaining before after one.status reports shows)
input_ends_so options remaining before after (Err failure) status reports shows bad so =
    subst (ShowsSo options remaining before after) (sym so)
    (bad_hex_shown options remaining before after failure (λ is. bad (ap Err is)))

-- So `show` ends with what is asked for.
pub show_ends_so : (colored : Bool) (asked : ShowAsked) (words : List (List ℕ))
    (remaining left before after : Option (List ℕ)) (status : Status)
    → ShowWordsAsk colored words asked → ShowsAsked asked remaining left before after status
    → EndsShowOne colored words remaining left before after status
show_ends_so colored asked words remaining left before after status given so = inl (record {
  asked = asked;
  given = given;
  so = so;
})

-- Two sides have no status of wrong words.
no_usage_of_both : (client server : Status) → Usage ≡ status_of_both client server → ⊥
no_usage_of_both Good Good same = cc
no_usage_of_both Good Fault same = cc
no_usage_of_both Good Usage same = cc
no_usage_of_both Good Device same = cc
no_usage_of_both Good Memory same = cc
no_usage_of_both Fault server same = cc
no_usage_of_both Usage server same = cc
no_usage_of_both Device server same = cc
no_usage_of_both Memory server same = cc

-- The inputs of both sides were shown.
sides_so : (options : ShowOptions) (client server before after : Option (List ℕ))
    (status : Status) → PrintsSides options client server before after status
    → SidesSo options client server before after status
sides_so options client server before after Good prints = prints
sides_so options client server before after Fault prints = prints
sides_so options None server before after Usage prints = tt
sides_so options (Some one) None before after Usage prints = tt
sides_so options (Some one) (Some two) before after Usage prints =
    absurd (no_usage_of_both prints.1.client_status prints.1.server_status prints.1.both)
sides_so options client server before after Device prints = tt
sides_so options client server before after Memory prints = tt

-- They were not.
bad_hex_of_sides : (options : ShowOptions) (client server before after : Option (List ℕ))
    (failure : Failure) → (failure ≡ failures.BadHex → HasBadHex options client server)
    → SidesSo options client server before after (failure_status failure)
bad_hex_of_sides options client server before after failures.Device bad = tt
bad_hex_of_sides options client server before after failures.Memory bad = tt
bad_hex_of_sides options None server before after failures.BadHex bad = tt
bad_hex_of_sides options (Some one) None before after failures.BadHex bad = tt
bad_hex_of_sides options (Some one) (Some two) before after failures.BadHex bad = bad refl

-- So showing the inputs of both sides ends with what came of them.
pub sides_end_so : (options : ShowOptions) (client server before after : Option (List ℕ))
    (shown : Result Shown Failure) (status : Status)
    → IfOk shown (λ one. PrintsSides options client server before after one.status)
    → (shown ≡ Err failures.BadHex → HasBadHex options client server)
    → MatchResult shown (λ one. status ≡ one.status) (λ failure. status ≡ failure_status failure)
    → SidesSo options client server before after status
sides_end_so options client server before after (Ok one) status prints bad so =
    subst (SidesSo options client server before after) (sym so)
    (sides_so options client server before after one.status prints)
sides_end_so options client server before after (Err failure) status prints bad so =
    subst (SidesSo options client server before after) (sym so)
    (bad_hex_of_sides options client server before after failure (λ is. bad (ap Err is)))

-- The input was replayed.
replays_so : (options : ReplayOptions) (remaining : Option (List ℕ)) (status : Status)
    → IfSome remaining (λ given. ReplayReportsInput options given status)
    → ReplaysSo options remaining status
replays_so options remaining Good reports = reports
replays_so options remaining Fault reports = reports
replays_so options None Usage reports = tt
replays_so options (Some given) Usage reports =
    absurd (no_usage_replayed options.hex options.role given reports)
replays_so options remaining Device reports = tt
replays_so options remaining Memory reports = tt

replay_ends : (options : ReplayOptions) (words : List (List ℕ))
    (remaining left before after : Option (List ℕ)) (status : Status)
    → ReplayWordsGive words options
    → IfSome remaining (λ given. ReplayReportsInput options given status)
    → EndsReplayOne words remaining left before after status
replay_ends options words remaining left before after status asked reports = inl (record {
  options = options;
  asked = asked;
  so = replays_so options remaining status reports;
})

-- It was not.
bad_hex_replayed : (options : ReplayOptions) (remaining : Option (List ℕ)) (failure : Failure)
    → (failure ≡ failures.BadHex → (options.hex ≡ true) × IfSome remaining IsBadHex)
    → ReplaysSo options remaining (failure_status failure)
bad_hex_replayed options remaining failures.Device bad = tt
bad_hex_replayed options remaining failures.Memory bad = tt
bad_hex_replayed options None failures.BadHex bad = tt
bad_hex_replayed options (Some given) failures.BadHex bad = bad refl

replay_gives_up : (options : ReplayOptions) (words : List (List ℕ))
    (remaining left before after : Option (List ℕ)) (failure : Failure)
    → ReplayWordsGive words options
    → (failure ≡ failures.BadHex → (options.hex ≡ true) × IfSome remaining IsBadHex)
    → EndsReplayOne words remaining left before after (failure_status failure)
replay_gives_up options words remaining left before after failure asked bad = inl (record {
  options = options;
  asked = asked;
  so = bad_hex_replayed options remaining failure bad;
})

-- So `replay` ends with what came of its input.
pub replay_ends_so : (options : ReplayOptions) (words : List (List ℕ))
    (remaining left before after : Option (List ℕ)) (shown : Result Shown Failure)
    (status : Status) → ReplayWordsGive words options
    → IfOk shown (λ one. IfSome remaining (λ given. ReplayReportsInput options given one.status))
    → (shown ≡ Err failures.BadHex → (options.hex ≡ true) × IfSome remaining IsBadHex)
    → MatchResult shown (λ one. status ≡ one.status) (λ failure. status ≡ failure_status failure)
    → EndsReplayOne words remaining left before after status
replay_ends_so options words remaining left before after (Ok one) status asked reports bad so =
    subst (EndsReplayOne words remaining left before after) (sym so)
    (replay_ends options words remaining left before after one.status asked reports)
replay_ends_so options words remaining left before after (Err failure) status asked reports bad so =
    subst (EndsReplayOne words remaining left before after) (sym so)
    (replay_gives_up options words remaining left before after failure asked
    (λ is. bad (ap Err is)))

-- The input was handed to a client or a server of messages.
no_usage_of_messages : (hex : Bool) (role : Role) (given : List ℕ) (why : Option Why)
    (output : List ℕ)
    → MatchBool hex (MessagesOfText role given Usage why output)
    (MessagesOfOctets role given Usage why output) → ⊥
no_usage_of_messages true role given why output reports = reports.2
no_usage_of_messages false role given why output reports = reports

messages_so : (options : ReplayOptions) (remaining before after : Option (List ℕ))
    (status : Status) → IfSome remaining (λ given. PrintsOfMessages options given before after
    status)
    → MessagesSo options remaining before after status
messages_so options remaining before after Good prints = prints
messages_so options remaining before after Fault prints = prints
messages_so options None before after Usage prints = tt
messages_so options (Some given) before after Usage prints =
    absurd (no_usage_of_messages options.hex options.role given prints.0 prints.1 prints.2)
messages_so options remaining before after Device prints = tt
messages_so options remaining before after Memory prints = tt

-- It was not.
bad_hex_of_messages : (options : ReplayOptions) (remaining before after : Option (List ℕ))
    (failure : Failure)
    → (failure ≡ failures.BadHex → (options.hex ≡ true) × IfSome remaining IsBadHex)
    → MessagesSo options remaining before after (failure_status failure)
bad_hex_of_messages options remaining before after failures.Device bad = tt
bad_hex_of_messages options remaining before after failures.Memory bad = tt
bad_hex_of_messages options None before after failures.BadHex bad = tt
bad_hex_of_messages options (Some given) before after failures.BadHex bad = bad refl

-- the reason, among what is said of known octets
with_reason : (had before after : Option (List ℕ)) (options : ReplayOptions) (one : Replayed)
    → IfSome had (λ given. (output : List ℕ)
    × MessagesOfInput options given one.status one.why output × Appends before after output)
    → IfSome had (λ given. PrintsOfMessages options given before after one.status)
with_reason None before after options one told = tt
with_reason (Some given) before after options one told = (one.why, told.0, told.1, told.2)

-- So `replay --messages` ends with what came of its input.
pub messages_end_so : (options : ReplayOptions) (words : List (List ℕ))
    (remaining left before after : Option (List ℕ)) (replayed : Result Replayed Failure)
    (status : Status) → ReplayWordsGive words options
    → IfOk replayed (λ one. IfSome remaining (λ given. (output : List ℕ)
    × MessagesOfInput options given one.status one.why output × Appends before after output))
    → (replayed ≡ Err failures.BadHex → (options.hex ≡ true) × IfSome remaining IsBadHex)
    → MatchResult replayed (λ one. status ≡ one.status) (λ failure. status ≡ failure_status failure)
    → EndsMessages words remaining left before after status
messages_end_so options words remaining left before after (Ok one) status asked told bad so =
    inl (record {
      options = options;
      asked = asked;
      so = subst (λ (some : Status). MessagesSo options remaining before after some) (sym so)
          (messages_so options remaining before after one.status
          (with_reason remaining before after options one told));
    })
messages_end_so options words remaining left before after (Err failure) status asked told bad so =
    inl (record {
      options = options;
      asked = asked;
      so = subst (λ (some : Status). MessagesSo options remaining before after some) (sym so)
          (bad_hex_of_messages options remaining before after failure (λ is. bad (ap Err is)));
    })

-- Both sides of a text were shown; a text has no other status.
follows_so : (options : FollowOptions) (remaining before after : Option (List ℕ)) (status : Status)
    → IfSome remaining (λ text. PrintsBoth options text before after status)
    → FollowsSo options remaining before after status
follows_so options remaining before after Good prints = prints
follows_so options remaining before after Fault prints = prints
follows_so options None before after Usage prints = tt
follows_so options (Some text) before after Usage prints = absurd (no_usage_followed prints)
  where
    no_usage_followed : PrintsBoth options text before after Usage → ⊥
    no_usage_followed prints =
        no_usage_of_both prints.1.2.client_status prints.1.2.server_status prints.1.2.ended
follows_so options remaining before after Device prints = tt
follows_so options remaining before after Memory prints = tt

-- They were not.
bad_line_so : (options : FollowOptions) (remaining before after : Option (List ℕ))
    (failure : Failure)
    → (failure ≡ failures.BadHex
    → IfSome remaining (λ text. PrintsToBadLine options text before after))
    → FollowsSo options remaining before after (failure_status failure)
bad_line_so options remaining before after failures.Device bad = tt
bad_line_so options remaining before after failures.Memory bad = tt
bad_line_so options remaining before after failures.BadHex bad = bad refl

-- So showing a text ends with what came of it.
pub text_ends_so : (options : FollowOptions) (remaining before after : Option (List ℕ))
    (followed : Result Followed Unfollowed) (status : Status)
    → IfOk followed (λ one. IfSome remaining (λ text.
    PrintsBoth options text before after one.status))
    → IfErr followed (λ one. one.failure ≡ failures.BadHex
    → IfSome remaining (λ text. (lines : List ℕ)
    × FollowsToBadLine options.max_frame text one.hint lines × Appends before after lines))
    → MatchResult followed (λ one. status ≡ one.status)
    (λ one. status ≡ failure_status one.failure)
    → FollowsSo options remaining before after status
text_ends_so options remaining before after (Ok one) status follows bad so =
    subst (λ (some : Status). FollowsSo options remaining before after some) (sym so)
    (follows_so options remaining before after one.status follows)
text_ends_so options remaining before after (Err one) status follows bad so =
    subst (λ (some : Status). FollowsSo options remaining before after some) (sym so)
    (bad_line_so options remaining before after one.failure (λ is. with_hint remaining (bad is)))
  where
    with_hint : (known : Option (List ℕ))
        → IfSome known (λ text. (lines : List ℕ)
        × FollowsToBadLine options.max_frame text one.hint lines × Appends before after lines)
        → IfSome known (λ text. PrintsToBadLine options text before after)
    with_hint None prints = tt
    with_hint (Some text) prints = (one.hint, prints.0, prints.1, prints.2)

-- So `show --follow` ends with lines,
pub follow_ends_so : (asked : FollowAsked) (words : List (List ℕ))
    (remaining left before after : Option (List ℕ)) (status : Status)
    → follow_asked_of words ≡ Some asked → asked.page ≡ None
    → FollowsSo asked.options remaining before after status
    → EndsFollow words remaining left before after status
follow_ends_so asked words remaining left before after status given none so =
    inl (record { asked = asked; given = given; so = rw none so })

-- and with a page.
pub follow_ends_with_page : (asked : FollowAsked) (words : List (List ℕ)) (file : List ℕ)
    (remaining left before after : Option (List ℕ)) (status : Status)
    → follow_asked_of words ≡ Some asked → asked.page ≡ Some file
    → PagesSo asked.options remaining before after status
    → EndsFollow words remaining left before after status
follow_ends_with_page asked words file remaining left before after status given some so =
    inl (record { asked = asked; given = given; so = rw some so })
