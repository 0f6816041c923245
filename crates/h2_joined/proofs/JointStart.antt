-- Of two new ends all of it holds.
use Rattle.h2_joined.proofs.Names.{inl, inr, [], refl, Role, Values, new_end_log, KeepsOrder, Side}
use Rattle.h2_joined.proofs.Names.{new_joint_end, next_unprocessed, opened, with_sent, tokens_sent}
use Rattle.h2_joined.proofs.Names.{tokens_heard, IsUndisturbed, said_for, parts_on, tokens_given}
use Rattle.h2_joined.proofs.Names.{tokens_of_parts, ◌≡◌}
use Rattle.h2_spec_log.specs.Acts.{AreInRange}
use Rattle.h2_spec_log.specs.States.{least_block}
use Rattle.h2_laws_pair.specs.Pairs.{begins}
use Rattle.h2_laws_pair.proofs.FaultsInvariant.{none_in}
use Rattle.h2_joined.proofs.BegunOut.{SendsBegun}
use Rattle.h2_joined.proofs.JointHolds.{JointHolds, EndHolds, AcceptWell}
use Rattle.h2_spec_log.specs.declared.role.Role.TheVariants as roles

-- A new end has said and handed out nothing,
new_order : (role : Role) (values : Values) → KeepsOrder (new_end_log role values)
unfolding opened with_sent tokens_sent tokens_heard said_for parts_on tokens_given
    tokens_of_parts
new_order role values =
    record {
      sends = λ i. record { waiting = []; prefix = refl; begun = λ given. absurd (given refl) };
      hands = λ i. inl refl;
    }

new_begun : (role : Role) (values : Values) → SendsBegun (new_end_log role values)
unfolding said_for
new_begun role values i said is goes = absurd (cc)

-- was asked for nothing,
new_holds : (side : Side) (role : Role) (values : Values)
    → EndHolds [] side (new_end_log role values)
unfolding opened with_sent tokens_heard parts_on tokens_of_parts
new_holds side role values =
    record {
      heard = λ i. refl;
      says = λ i. tt;
      passed = λ event here. absurd (none_in _ here);
      reported = λ event none here. absurd (none_in _ here);
      asked = λ id code here. elim here [
        | inl reset ↦ absurd (none_in _ reset)
        | inr refusal ↦ absurd (none_in _ refusal)
      ];
    }

-- and has accepted nothing.
new_accepted : (client_values server_values : Values)
    → AcceptWell (new_end_log roles.Client client_values) (new_end_log roles.Server server_values)
unfolding said_for
new_accepted client_values server_values =
    record {
      requests = λ i said is. absurd (cc);
      answers = λ i said is. absurd (cc);
    }

-- No stream is to be reported.
new_reported : (values : Values) → next_unprocessed (opened roles.Client values) ≡ 0
unfolding opened with_sent next_unprocessed least_block
new_reported values = refl

pub new_ends_hold : (client_values server_values : Values) → AreInRange client_values
    → AreInRange server_values
    → JointHolds client_values server_values [] (new_joint_end roles.Client client_values)
    (new_joint_end roles.Server server_values)
unfolding IsUndisturbed
new_ends_hold client_values server_values client_range server_range =
    record {
      stays = record {
        lost = [];
        other_lost = [];
        pair = (begins client_range server_range, λ had. tt);
        calm = λ had. record {
          holds = new_holds _ roles.Client client_values;
          other_holds = new_holds _ roles.Server server_values;
          accepted = new_accepted client_values server_values;
          reported = λ finished. new_reported client_values;
        };
      };
      order = new_order roles.Client client_values;
      other_order = new_order roles.Server server_values;
      begun = new_begun roles.Client client_values;
      other_begun = new_begun roles.Server server_values;
    }
