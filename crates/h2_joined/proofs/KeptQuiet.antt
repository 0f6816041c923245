-- Two joined ends are quiet where both are, and both pipes are empty.
use Rattle.h2_joined.proofs.Names.{◌≤◌, ◌<◌, true, [], ◌∷◌, length, refl, sym, ap, arith, ◌∙◌}
use Rattle.h2_joined.proofs.Names.{both_ways, Values, End, EndLog, IsQuietEnd, EndRepresents}
use Rattle.h2_joined.proofs.Names.{Joined, Pipe, AreQuiet, JointEnd, Made, HoldsOctets}
use Rattle.h2_joined.proofs.Names.{JoinedRepresents, ◌≡◌, ℕ, Bool, false, List}
use Rattle.std.specs.Prelude.{◌↔◌}

-- what `len` of a pipe answers
abbrev pub CountsPipe : Pipe → ℕ → Type 0
CountsPipe pipe count = (octets : List ℕ) → HoldsOctets pipe octets → count ≡ length octets

-- what `is_quiet` of an end answers
abbrev pub TellsQuiet : End → Bool → Type 0
TellsQuiet end quiet = (values : Values) (log : EndLog) → EndRepresents values end log
    → (quiet ≡ true) ↔ IsQuietEnd log

-- whatever has happened at the two ends
abbrev pub TellsBoth : Joined → Bool → Type 0
TellsBoth joined quiet = (client_values server_values : Values) (made : List Made)
    (client server : JointEnd)
    → JoinedRepresents client_values server_values joined made client server
    → (quiet ≡ true) ↔ AreQuiet client server

-- No octets are on the pipe to an end.
none_on_pipe : (octets : List ℕ) (count : ℕ) → count ≡ length octets → count ≤ 0 → octets ≡ []
none_on_pipe [] count same none = refl
none_on_pipe (octet ∷ octets) count same none = absurd (omega (arith, same, none))

-- Octets are on the pipe to an end.
some_octets : (octets : List ℕ) (count : ℕ) → count ≡ length octets → 0 < count
    → octets ≡ [] → ⊥
some_octets octets count same some none = omega (arith, same, some, ap length none)

pub waits_for_client : (joined : Joined) (to_client : ℕ)
    → CountsPipe joined.at_client.incoming to_client → 0 < to_client → TellsBoth joined false
waits_for_client joined to_client counts some client_values server_values made client server
    is = (
      λ never. absurd (both_ways false refl never),
      λ quiet. absurd (some_octets client.incoming to_client
          (counts client.incoming is.client_kept.incoming) some quiet.to_client),
    )

pub waits_for_server : (joined : Joined) (to_server : ℕ)
    → CountsPipe joined.at_server.incoming to_server → 0 < to_server → TellsBoth joined false
waits_for_server joined to_server counts some client_values server_values made client server
    is = (
      λ never. absurd (both_ways false refl never),
      λ quiet. absurd (some_octets server.incoming to_server
          (counts server.incoming is.server_kept.incoming) some quiet.to_server),
    )

pub busy_client : (joined : Joined) (one : Bool) → TellsQuiet joined.client.end one
    → one ≡ false → TellsBoth joined one
busy_client joined one tells busy client_values server_values made client server is = (
  λ never. absurd (both_ways one busy never),
  λ quiet. (tells client_values client.happened is.client_represents).1 quiet.quiet_client,
)

pub both_quiet : (joined : Joined) (to_client to_server : ℕ) (one other : Bool)
    → CountsPipe joined.at_client.incoming to_client
    → CountsPipe joined.at_server.incoming to_server
    → TellsQuiet joined.client.end one → TellsQuiet joined.server.end other
    → to_client ≤ 0 → to_server ≤ 0 → joined.at_client.unfinished ≡ false
    → joined.at_server.unfinished ≡ false → one ≡ true → TellsBoth joined other
both_quiet joined to_client to_server one other counts_client counts_server tells_client
    tells_server none_client none_server finished_client finished_server quiet_client
    client_values server_values made client server is = (
      λ quiet. record {
        quiet_client =
            (tells_client client_values client.happened is.client_represents).0 quiet_client;
        quiet_server = (tells_server server_values server.happened is.server_represents).0 quiet;
        to_client = none_on_pipe client.incoming to_client
            (counts_client client.incoming is.client_kept.incoming) none_client;
        to_server = none_on_pipe server.incoming to_server
            (counts_server server.incoming is.server_kept.incoming) none_server;
        finished_client = sym is.client_kept.unfinished ∙ finished_client;
        finished_server = sym is.server_kept.unfinished ∙ finished_server;
      },
      λ quiet. (tells_server server_values server.happened is.server_represents).1
          quiet.quiet_server,
    )
