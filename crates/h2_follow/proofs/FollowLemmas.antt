-- What is shown of a text, by what was read of it.
use Rattle.h2_follow.proofs.Names.{◌≡◌, ◌∙◌, ◌++◌, ◌∷◌, ◌+◌, ◌==◌, ℕ, [], List, refl, ap}
use Rattle.h2_follow.proofs.Names.{subst}
use Rattle.h2_follow.proofs.Names.{Stretches, output_of, length, if◌then◌else◌, Option, Some, None}
use Rattle.h2_follow.proofs.Names.{Result, Ok}
use Rattle.h2_follow.proofs.Names.{Err, IfOk, IfErr, IfSome, Appends, Line, Piece, Follower}
use Rattle.h2_follow.proofs.Names.{EndsSide, FollowerShows, marked_of, Status, Client, Server}
use Rattle.std.proofs.KnownBytes.{Appends-trans}
use Rattle.std.specs.Io.KnownBytes.{prepend_known}
use Rattle.std.specs.Io.Buffered.{reader_buffer, reader_capacity, reader_inner, reader_remaining}
use Rattle.std.specs.declared.io.buffered.BufReader.{BufReader}
use Rattle.h2_cli.specs.declared.failure.Failure.TheVariants as failures
use Rattle.h2_follow.specs.declared.follow.Followed.{Followed}
use Rattle.h2_follow.specs.declared.follow.Unfollowed.{Unfollowed}
use Rattle.h2_follow.specs.declared.hint.FollowHint.{FollowHint}
use Rattle.std.specs.Io.KnownBytes.{IsAtEnd}
use Rattle.h2_follow.specs.declared.text.Part.{Part}
use Rattle.h2_follow.specs.FollowText.{IsRefusedLine, LinesSoFar}
use Rattle.h2_follow.specs.Follower.{ReadsLines}
use Rattle.h2_follow.specs.Stretches.{AreFollowed}
use Rattle.h2_follow.specs.Follows.{FollowsText, FollowsToBadLine, hint_of_line, status_of_both}
use Rattle.h2_follow.proofs.FollowerLemmas.{followed}
use Rattle.h2_follow.proofs.LinesLemmas.{text_read}

-- the end of a text
pub ended_told : (before middle start written ended : Option (List ℕ)) (first follower : Follower)
    (lines : List Line) (pieces : List Piece) (log : Stretches) (part : Part) (status : Status)
    → ReadsLines before middle lines → LinesSoFar part lines pieces
    → Appends start written (output_of log)
    → ((least : ℕ) → FollowerShows first least [] []
    → FollowerShows follower least pieces log)
    → IsAtEnd middle
    → (client : Status) × (server : Status) × (one : List ℕ) × (two : List ℕ)
    × (status ≡ status_of_both client server)
    × EndsSide follower.client_side client one × EndsSide follower.server_side server two
    × Appends written ended (marked_of (Client, one) ++ marked_of (Server, two))
    → IfSome before (λ text. (least : ℕ) → FollowerShows first least [] []
    → (shown : List ℕ) × FollowsText least text status shown × Appends start ended shown)
ended_told None middle start written ended first follower lines pieces log part status reads read
    one shows at_end last = tt
ended_told (Some text) middle start written ended first follower lines pieces log part status
    reads read one shows at_end last = λ least none. (
      _,
      (
        pieces,
        text_read (Some text) middle lines part pieces reads at_end read,
        followed follower least pieces log last.0 last.1 status last.2 last.3
            (shows least none) last.4 last.5 last.6,
      ),
      Appends-trans start written ended _ _ one last.7,
    )

-- a line that can't follow was read
pub refused_told : (before middle start written : Option (List ℕ)) (first follower : Follower)
    (lines : List Line) (line : Line) (pieces : List Piece) (log : Stretches) (part : Part)
    (number : ℕ) (hint : Option FollowHint) → ReadsLines before middle (lines ++ line ∷ [])
    → LinesSoFar part lines pieces → Appends start written (output_of log)
    → ((least : ℕ) → FollowerShows first least [] []
    → FollowerShows follower least pieces log)
    → IsRefusedLine part line → number ≡ length lines + 1 → hint ≡ Some (hint_of_line number line)
    → IfSome before (λ text. (least : ℕ) → FollowerShows first least [] []
    → (shown : List ℕ) × FollowsToBadLine least text hint shown × Appends start written shown)
refused_told None middle start written first follower lines line pieces log part number hint reads
    read one shows refused counted reports = tt
refused_told (Some text) None start written first follower lines line pieces log part number hint
    reads read one shows refused counted reports = absurd reads
refused_told (Some text) (Some rest) start written first follower lines line pieces log part number
    hint reads read one shows refused counted reports = λ least none. (
      _,
      record {
        number = number;
        bad = record {
          part = part;
          before = lines;
          pieces = pieces;
          line = line;
          rest = rest;
          begins = reads;
          read = read;
          refused = refused;
          counted = counted;
        };
        log = log;
        parts = (shows least none).parts;
        is_log = subst (λ (some : ℕ). AreFollowed some log) (shows least none).same
            (shows least none).reads.is_log;
        all = refl;
        reports = reports;
      },
      one,
    )

-- nothing before known octets
none_before : (known : Option (List ℕ)) → prepend_known [] known ≡ known
none_before None = refl
none_before (Some octets) = refl

-- a reader with nothing in its buffer has the octets of the reader inside
pub same_octets : {T A : Type 0} (remaining : T → Option (List ℕ)) (reader : BufReader T A)
    (inner : T) → reader_inner reader ≡ inner → reader_buffer reader ≡ []
    → reader_capacity reader ≡ 65536 → reader_remaining remaining reader ≡ remaining inner
same_octets remaining reader inner is none some =
    ap (λ (count : ℕ). if count == 0 then None
    else prepend_known (reader_buffer reader) (remaining (reader_inner reader))) some
    ∙ ap (λ (first : List ℕ). prepend_known first (remaining (reader_inner reader))) none
    ∙ none_before (remaining (reader_inner reader)) ∙ ap remaining is

-- What holds of the octets of one reader, where nothing was shown before, holds of those of the
-- other.
same_told : (known given : Option (List ℕ)) (first : Follower) (least : ℕ)
    (says : (most : ℕ) → List ℕ → Type 0) → known ≡ given → FollowerShows first least [] []
    → IfSome known (λ text. (most : ℕ) → FollowerShows first most [] [] → says most text)
    → IfSome given (λ text. says least text)
same_told known given first least says same none told = by given
    (subst (λ (octets : Option (List ℕ)). IfSome octets (λ text.
    (most : ℕ) → FollowerShows first most [] [] → says most text)) same told)
  where
    by : (octets : Option (List ℕ))
        → IfSome octets (λ text. (most : ℕ) → FollowerShows first most [] [] → says most text)
        → IfSome octets (λ text. says least text)
    by None so = tt
    by (Some text) so = so least none

-- what is shown of the octets of one reader is what is shown of those of the other
pub follows_told : {E : Type 0} (result : Result Followed E) (known given : Option (List ℕ))
    (start ended : Option (List ℕ)) (first : Follower) (least : ℕ) → known ≡ given
    → FollowerShows first least [] []
    → IfOk result (λ followed. IfSome known (λ text. (most : ℕ) → FollowerShows first most [] []
    → (shown : List ℕ) × FollowsText most text followed.status shown
    × Appends start ended shown))
    → IfOk result (λ followed. IfSome given (λ text. (shown : List ℕ)
    × FollowsText least text followed.status shown × Appends start ended shown))
follows_told (Err error) known given start ended first least same none told = tt
follows_told (Ok some) known given start ended first least same none told =
    same_told known given first least (λ most text. (shown : List ℕ)
    × FollowsText most text some.status shown × Appends start ended shown) same none told

-- the same where a line is refused
pub refusal_told : {T : Type 0} (result : Result T Unfollowed) (known given : Option (List ℕ))
    (start ended : Option (List ℕ)) (first : Follower) (least : ℕ) → known ≡ given
    → FollowerShows first least [] []
    → IfErr result (λ unfollowed. unfollowed.failure ≡ failures.BadHex
    → IfSome known (λ text. (most : ℕ) → FollowerShows first most [] []
    → (shown : List ℕ) × FollowsToBadLine most text unfollowed.hint shown
    × Appends start ended shown))
    → IfErr result (λ unfollowed. unfollowed.failure ≡ failures.BadHex
    → IfSome given (λ text. (shown : List ℕ)
    × FollowsToBadLine least text unfollowed.hint shown × Appends start ended shown))
refusal_told (Ok some) known given start ended first least same none told = tt
refusal_told (Err bad) known given start ended first least same none told = λ is.
    same_told known given first least (λ most text. (shown : List ℕ)
    × FollowsToBadLine most text bad.hint shown × Appends start ended shown) same none (told is)
