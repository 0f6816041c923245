-- At a client the preface precedes SETTINGS.
use Rattle.h2_core.proofs.Names.{◌≡◌, true, false, not, [], refl, is_server, Role, Client, Server}
use Rattle.h2_core.proofs.Names.{sameb}
use Rattle.h2_wire.specs.Streams.{expected_preface, preface}
use Rattle.h2_spec_log.specs.contracts.role.Role.{the_type}
use Rattle.h2_core.proofs.new.first_output.Goals.{then-eq, else-eq}
use Rattle.h2_core.proofs.new.first_output.Goals as goal

at_client : (role : Role) → true ≡ sameb the_type role Client
    → expected_preface (not (is_server role)) ≡ preface
unfolding expected_preface
at_client Client is = refl
at_client Server is = cc

at_server : (role : Role) → false ≡ sameb the_type role Client
    → expected_preface (not (is_server role)) ≡ []
unfolding expected_preface
at_server Client is = cc
at_server Server is = refl

pub returns : goal.returns
unfolding preface
returns c =
    let role = c.args.role in
    let empty = c.in_ok-output.ensures.0 in
    let last = c.add_opening_settings.ensures in
    let kept = c.reserve.ensures.waiting in
    elim c.if-eq.branch [
      | then-eq w ↦
          let first = w.add_octets.ensures.waiting in
          let opening = at_client role w.if-eq.ensures in (
            last.ended,
            rw (last.waiting, w.output-is, first, kept, empty, opening) refl,
          )
      | else-eq w ↦ (
        last.ended,
        rw (last.waiting, w.output-is, kept, empty, at_server role w.if-eq.ensures) refl,
      )
    ]
