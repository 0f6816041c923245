-- The lines of each side's input, with their side.
use Rattle.h2_follow.proofs.Names.{◌≡◌, ◌∙◌, ◌++◌, ℕ, [], List, refl, sym, ap, false, Option, Some}
use Rattle.h2_follow.proofs.Names.{None, Result, Ok, Err, IfSome, OnOk, Appends, Status, Side, Client}
use Rattle.h2_follow.proofs.Names.{Server, subst}
use Rattle.std.specs.Result.{is_err}
use Rattle.h2_show.specs.declared.options.ShowOptions.{ShowOptions}
use Rattle.h2_show.specs.Shown.{ShowsInput}
use Rattle.h2_follow.specs.Follows.{status_of_both}
use Rattle.h2_follow.specs.Sides.{ShowsSides, options_from, side_text}

-- what holds where it went well
well : {A E : Type 0} (P : Type 0) (result : Result A E) → OnOk result P → is_err result ≡ false → P
well P (Ok value) told good = told
well P (Err error) told good = cc

-- the lines of a side's input were added, each with its side
pub side_added : {E : Type 0} (result : Result (Unit {0}) E) (known : Option (List ℕ))
    (options options_now : ShowOptions) (side : Side) (status : Status)
    (cleared text lent old new : List ℕ) → options_now ≡ options_from side options → cleared ≡ []
    → lent ≡ text
    → IfSome known (λ given. (lines : List ℕ) × ShowsInput options_now given status lines
    × Appends (Some cleared) (Some text) lines)
    → OnOk result (new ≡ old ++ side_text options.style side lent) → is_err result ≡ false
    → IfSome known (λ given. (lines : List ℕ)
    × ShowsInput (options_from side options) given status lines
    × (new ≡ old ++ side_text options.style side lines))
side_added result None options options_now side status cleared text lent old new same none is shows
    added good = tt
side_added result (Some given) options options_now side status cleared text lent old new same none is
    (lines, shown, appended) added good = (
      lines,
      subst (λ (some : ShowOptions). ShowsInput some given status lines) same shown,
      well _ result added good
          ∙ ap (λ (one : List ℕ). old ++ side_text options.style side one)
          (is ∙ appended ∙ ap (λ (one : List ℕ). one ++ lines) none),
    )

-- the lines of both sides were written
pub both_written : {E : Type 0} (result : Result (Unit {0}) E) (one two : Option (List ℕ))
    (options : ShowOptions) (client server status : Status) (cleared middle text lent : List ℕ)
    (before after : Option (List ℕ)) → cleared ≡ [] → lent ≡ text
    → IfSome one (λ given. (lines : List ℕ)
    × ShowsInput (options_from Client options) given client lines
    × (middle ≡ cleared ++ side_text options.style Client lines))
    → IfSome two (λ given. (lines : List ℕ)
    × ShowsInput (options_from Server options) given server lines
    × (text ≡ middle ++ side_text options.style Server lines))
    → OnOk result (Appends before after lent) → is_err result ≡ false
    → status ≡ status_of_both client server
    → IfSome one (λ first. IfSome two (λ second. (lines : List ℕ)
    × ShowsSides options first second status lines × Appends before after lines))
both_written result None two options client server status cleared middle text lent before after none
    is shows_one shows_two written good both = tt
both_written result (Some first) None options client server status cleared middle text lent before
    after none is shows_one shows_two written good both = tt
both_written result (Some first) (Some second) options client server status cleared middle text lent
    before after none is (client_lines, client_shows, one_is) (server_lines, server_shows, two_is)
    written good both = (
      text,
      record {
        client_status = client;
        server_status = server;
        client_lines = client_lines;
        server_lines = server_lines;
        client_shows = client_shows;
        server_shows = server_shows;
        both = both;
        all = two_is ∙ ap (λ (some : List ℕ). some ++ side_text options.style Server server_lines)
            (one_is
            ∙ ap (λ (some : List ℕ). some ++ side_text options.style Client client_lines) none);
      },
      subst (λ (some : List ℕ). Appends before after some) is (well _ result written good),
    )
