-- A pair as one of its ends sees it, whichever of the two that is: this end, and the other one.
use Rattle.h2_joined.proofs.Names.{AllByRecursion, stream_of_log, AreUndisturbed, IsNoEmptyData, ℕ}
use Rattle.h2_joined.proofs.Names.{Role, Half, IsPair, tokens_sent, Side, ◌≡◌, Client, Server}
use Rattle.h2_joined.proofs.Names.{Values, tokens_heard, IsUndisturbed, client_hears, server_hears}
use Rattle.h2_joined.proofs.Names.{IsPrefixOfTokens, faultless_client, faultless_server, both_logs}
use Rattle.h2_joined.proofs.Names.{IsLog}
use Rattle.h2_laws_pair.specs.Steps.{HalfSteps}
use Rattle.h2_laws_pair.proofs.NoEmptyHeard.{client_reports, server_reports}
use Rattle.h2_laws_pair.proofs.StepPairs.{client_goes_on, server_goes_on}
use Rattle.h2_laws_pair.specs.Undisturbed.{IsFaultless}
use Rattle.h2_spec_log.specs.declared.role.Role.TheVariants as roles

-- An end on this side and the other one are a pair, which is undisturbed where this holds.
abbrev pub IsPairAt : Side → (client_values server_values : Values) → (one other : Half)
    → (calm : Type 0) → Type 0
IsPairAt Client client_values server_values one other calm =
    (pair : IsPair client_values server_values one other) × (calm → IsUndisturbed pair)
IsPairAt Server client_values server_values one other calm =
    (pair : IsPair client_values server_values other one) × (calm → IsUndisturbed pair)

-- the role of the end on a side
abbrev pub role_at : Side → Role
role_at Client = roles.Client
role_at Server = roles.Server

-- its settings at first
abbrev pub values_at : Side → (client_values server_values : Values) → Values
values_at Client client_values server_values = client_values
values_at Server client_values server_values = server_values

-- Steps at this end make a pair of it again.
pub goes_on_at : (side : Side) (client_values server_values : Values)
    (one other new new_other : Half) (calm later : Type 0)
    → IsPairAt side client_values server_values one other calm
    → (steps : HalfSteps one other new new_other) → (later → calm × AreUndisturbed steps)
    → IsPairAt side client_values server_values new new_other later
goes_on_at Client client_values server_values one other new new_other calm later pair steps both =
    let after = client_goes_on client_values server_values one other new new_other pair.0 steps in
    (after.0, λ had. after.1 (pair.1 (both had).0) (both had).1)
goes_on_at Server client_values server_values one other new new_other calm later pair steps both =
    let after = server_goes_on client_values server_values other one new_other new pair.0 steps in
    (after.0, λ had. after.1 (pair.1 (both had).0) (both had).1)

-- A role is one of the two.
pub one_role : (role : Role) → role ≡ roles.Client → role ≡ roles.Server → ⊥
one_role role client server = cc

-- This end's log comes about, with the role of its side.
pub log_at : (side : Side) (client_values server_values : Values) (one other : Half)
    (calm : Type 0) → IsPairAt side client_values server_values one other calm
    → IsLog (role_at side) (values_at side client_values server_values) one.log
log_at Client client_values server_values one other calm pair =
    (both_logs client_values server_values one other pair.0).client_log
log_at Server client_values server_values one other calm pair =
    (both_logs client_values server_values other one pair.0).server_log

pub has_role_at : (side : Side) (client_values server_values : Values) (one other : Half)
    (calm : Type 0) → IsPairAt side client_values server_values one other calm
    → one.log.role ≡ role_at side
has_role_at side client_values server_values one other calm pair =
    (stream_of_log _ _ _ (log_at side client_values server_values one other calm pair)).role

-- What it has heard on a stream is a prefix of what the other one has sent there.
pub hears_at : (side : Side) (client_values server_values : Values) (one other : Half)
    (calm : Type 0) (i : ℕ) → IsPairAt side client_values server_values one other calm
    → IsPrefixOfTokens (tokens_heard i one.log.reported) (tokens_sent i other.log.calls)
hears_at Client client_values server_values one other calm i pair =
    client_hears client_values server_values one other i pair.0
hears_at Server client_values server_values one other calm i pair =
    server_hears client_values server_values other one i pair.0

-- It reports no DATA that is empty, unless that has END_STREAM.
pub reports_at : (side : Side) (client_values server_values : Values) (one other : Half)
    (calm : Type 0) → IsPairAt side client_values server_values one other calm
    → AllByRecursion IsNoEmptyData one.log.reported
reports_at Client client_values server_values one other calm pair =
    client_reports client_values server_values one other pair.0
reports_at Server client_values server_values one other calm pair =
    server_reports client_values server_values other one pair.0

-- Its connection has no fault, where the pair is undisturbed.
pub faultless_at : (side : Side) (client_values server_values : Values) (one other : Half)
    (calm : Type 0) → IsPairAt side client_values server_values one other calm → calm
    → IsFaultless one.log other.log
faultless_at Client client_values server_values one other calm pair had =
    faultless_client client_values server_values one other pair.0 (pair.1 had)
faultless_at Server client_values server_values one other calm pair had =
    faultless_server client_values server_values other one pair.0 (pair.1 had)
