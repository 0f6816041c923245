-- What a URL names, or why it can't be fetched, where it spells a URI.
use Rattle.std.proofs.Common.{ℕ, List, Result, Ok, Err}
use Rattle.std.specs.Prelude.{IfOk, IfErr}
use Rattle.http_uri.specs.declared.uri.Uri.{Uri}
use Rattle.http_uri.specs.Uri.{Spells}
use Rattle.h2_net.specs.declared.location.Location.{Location}
use Rattle.h2_net.specs.declared.location.TargetFault.{TargetFault}
use Rattle.h2_net.specs.declared.location.TargetFault.TheVariants as faults
use Rattle.h2_net.specs.Locations.{IsLocationOf, IsRefusedUri, IsRefusedUrl, Names}

-- A location of a URI that a URL spells is one that the URL names.
pub names_of : (result : Result Location TargetFault) (uri : Uri) (url : List ℕ) → Spells url uri
    → IfOk result (IsLocationOf uri) → IfOk result (Names url)
names_of (Ok location) uri url spells is = (uri, spells, is)
names_of (Err fault) uri url spells is = tt

-- A URL that spells a refused URI is refused for the same reason.
pub refused_of : (result : Result Location TargetFault) (uri : Uri) (url : List ℕ)
    → Spells url uri → IfErr result (IsRefusedUri uri) → IfErr result (IsRefusedUrl url)
refused_of (Ok location) uri url spells is = tt
refused_of (Err faults.Unread) uri url spells is = absurd is
refused_of (Err faults.Memory) uri url spells is = tt
refused_of (Err faults.OtherScheme) uri url spells is = (uri, spells, is)
refused_of (Err faults.NoHost) uri url spells is = (uri, spells, is)
refused_of (Err faults.NoPort) uri url spells is = (uri, spells, is)
refused_of (Err faults.UserInfo) uri url spells is = (uri, spells, is)
