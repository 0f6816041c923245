-- A new end represents the log of one, and its values are sound.
use Rattle.h2_conn.proofs.Names.{None}
use Rattle.h2_conn.proofs.Names.{◌≡◌, ℕ, Bool, List, [], ◌∷◌, ◌++◌, refl, sym, subst, inl, inr}
use Rattle.h2_conn.proofs.Names.{arith, Limits, Frames, CutterState, CutterRepresents}
use Rattle.h2_conn.proofs.Names.{CutterLimited, Role, Client, Server, Values, AreInRange, is_server}
use Rattle.h2_conn.proofs.Names.{End, payload_limit_of, Represents, is_whole, is_counted}
use Rattle.h2_conn.proofs.Names.{are_in_range, limit_in_range, IsSoundEnd, PartsFit}
use Rattle.h2_conn.proofs.Names.{with_sent, rules, Counts, CountsFrames}
use denote.Enum.Bare.{sameb}
use Rattle.h2_spec_log.specs.contracts.role.Role.{the_type}
use Rattle.h2_spec_log.specs.LogCalls.{opened}
use Rattle.h2_spec_machine.specs.Machine.{new_end}
use Rattle.h2_laws_machine.proofs.BoundsOfSteps.{new_bounded}
use Rattle.h2_laws_machine.proofs.ConservedBySteps.{new_holds}
use Rattle.h2_laws_machine.proofs.CountedBySteps.{new_counts}
use Rattle.h2_laws_machine.proofs.NewEnd.{new_represents}
use Rattle.h2_laws_machine.proofs.RangesOfSteps.{new_fits}
use Rattle.h2_conn.proofs.SetLimits.{HasCut, parts_limited}
use Rattle.std.proofs.lemmas.Grind.{common_steps}

-- Whether an end is a server.
pub is_a_server : (role : Role) → sameb the_type role Server ≡ is_server role
is_a_server Client = refl
is_a_server Server = refl

-- The values of a new end are sound.
pub new_sound : (e : End) (role : Role) (values : Values) → AreInRange values
    → e ≡ new_end role values → IsSoundEnd e
new_sound e role values in_range new =
    let sound : IsSoundEnd (new_end role values) = record {
      bounded = new_bounded role values
          in_range;
      window = is_whole (new_end role values) (new_holds role values);
      ranges = are_in_range
          (new_end role values) (new_fits role values in_range);
      counts = is_counted (new_end role values)
          (new_counts role values);
    } in
    search rules

-- the limits of payloads before an end's first SETTINGS
abbrev pub first_limits : Limits
first_limits = λ place. 16384

-- Of no octets none are left.
none_joined : (part unparsed : List ℕ) → [] ≡ part ++ unparsed → unparsed ≡ []
none_joined [] unparsed joined = sym joined
none_joined (first ∷ part) unparsed joined = cc

none_left : (unparsed : List ℕ) (expects : Bool) → Frames expects first_limits [] [] unparsed
    → unparsed ≡ []
none_left unparsed expects (inl inside) = inside.all
none_left unparsed expects (inr after) = none_joined after.part unparsed after.joined

-- A cutter that has used nothing has cut the octets of a new end's log.
opened_cut : (cutter : CutterState) (role : Role) (values : Values)
    → CutterRepresents cutter (is_server role) first_limits [] [] → cutter.greatest ≡ 16384
    → HasCut cutter (opened role values)
unfolding opened with_sent
opened_cut cutter role values cut greatest = grind (arith, common_steps)

-- A new end has not failed.
pub opened_up : (role : Role) (values : Values) → (opened role values).failed ≡ None
unfolding opened with_sent
opened_up role values = refl

-- A new end represents its log, with such a cutter that is given the limit in force.
pub new_parts : {counts : Counts} (cutter limited : CutterState) (e : End) (role : Role)
    (values : Values)
    → AreInRange values → e ≡ new_end role values
    → CutterRepresents cutter (is_server role) first_limits [] [] → cutter.greatest ≡ 16384
    → CutterLimited cutter (payload_limit_of e.own) limited → CountsFrames counts []
    → PartsFit values limited counts e (opened role values)
unfolding opened with_sent
new_parts cutter limited e role values in_range new cut greatest set counts_none =
    let machine : Represents values e (opened role values) =
    subst (λ (x : End). Represents values x (opened role values)) (sym new)
    (new_represents role values in_range) in
    parts_limited values cutter limited e (opened role values) machine
    (λ up. opened_cut cutter role values cut greatest) cut.place set
    (λ up. limit_in_range e (new_sound e role values in_range new).ranges) counts_none
