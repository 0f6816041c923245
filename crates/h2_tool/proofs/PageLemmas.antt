-- How writing the page of a text ends.
use Rattle.std.proofs.Common.{◌≡◌, ℕ, [], List, Option, Some, None, Result, IfErr, IfOk, IfSome}
use Rattle.std.proofs.Common.{MatchResult, refl, subst, sym}
use Rattle.std.specs.Io.KnownBytes.{Appends}
use Rattle.h2_cli.specs.declared.failure.Failure.TheVariants as failures
use Rattle.h2_cli.specs.declared.status.Status.{Status}
use Rattle.h2_cli.specs.declared.status.Status.TheVariants.{Device}
use Rattle.h2_cli.specs.Status.{failure_status}
use Rattle.h2_follow.specs.declared.follow.FollowOptions.{FollowOptions}
use Rattle.h2_follow.specs.declared.follow.Followed.{Followed}
use Rattle.h2_follow.specs.declared.follow.Unfollowed.{Unfollowed}
use Rattle.h2_follow.specs.Follows.{FollowsToBadLine}
use Rattle.h2_tool.specs.Commands.{FollowsSo, PagesSo, PrintsBoth}
use Rattle.h2_tool.proofs.InputLemmas.{text_ends_so}

-- A page is made of the lines that showing the text prints to no lines,
pub page_so : (options : FollowOptions) (remaining known : Option (List ℕ)) (none lines : List ℕ)
    (followed : Result Followed Unfollowed) (status : Status) → none ≡ []
    → IfOk followed (λ one. IfSome remaining (λ text.
    PrintsBoth options text (Some none) (Some lines) one.status))
    → IfErr followed (λ one. one.failure ≡ failures.BadHex
    → IfSome remaining (λ text. (printed : List ℕ)
    × FollowsToBadLine options.max_frame text one.hint printed
    × Appends (Some none) (Some lines) printed))
    → MatchResult followed (λ one. status ≡ one.status)
    (λ one. status ≡ failure_status one.failure)
    → PagesSo options remaining known known status
page_so options remaining known none lines followed status is_none follows bad so = record {
  lines = Some lines;
  so = subst (λ (before : List ℕ). FollowsSo options remaining (Some before) (Some lines) status)
      is_none (text_ends_so options remaining (Some none) (Some lines) followed status follows
      bad so);
  unwritten = refl;
}

-- or can't be written.
pub page_unwritten : (options : FollowOptions) (remaining known : Option (List ℕ))
    (status : Status) → status ≡ Device → PagesSo options remaining known known status
page_unwritten options remaining known status is_device = record {
  lines = None;
  so = subst (λ (some : Status). FollowsSo options remaining (Some []) None some) (sym is_device)
      tt;
  unwritten = refl;
}
