-- Turns of a connection: none, a step, and one after another.
use Rattle.std.specs.Prelude.{◌++◌, ℕ, List, [], Option}
use Rattle.std.proofs.Common.{subst, sym, append_assoc}
use Rattle.std.proofs.KnownBytes.{Appends-trans}
use Rattle.std.specs.Io.KnownBytes.{Appends}
use Rattle.h2_host.specs.declared.host.Reply.{Reply}
use Rattle.h2_host.specs.declared.party.Answer.{Answer}
use Rattle.h2_host.specs.declared.party.Own.{Own}
use Rattle.h2_host.specs.declared.state.HostState.{HostState}
use Rattle.h2_host.specs.declared.token.Token.{Token}
use Rattle.h2_host.specs.Steps.{AnswersOwn}
use Rattle.h2_mio.specs.DriverRuns.{MakesOwnSteps, MakesTurn, MovesNone}
use Rattle.h2_mio.specs.DriverRuns.{no_own_step, octets_came, octets_went, another_step}

module _ {P : Type 0} (steps : P → Own → List ℕ → Answer → P → Type 0) (held_of : P → ℕ)
    (output_of : P → List ℕ) (token : Token) where
  -- Steps that were made after steps are steps.
  own_steps_then : (mid new old : HostState P) (came went more_came more_went : List ℕ)
      → MakesOwnSteps steps held_of output_of token mid came went old
      → MakesOwnSteps steps held_of output_of token new more_came more_went mid
      → MakesOwnSteps steps held_of output_of token new (came ++ more_came) (went ++ more_went) old
  own_steps_then mid new old came went more_came more_went no_own_step later = later
  own_steps_then mid new old came went more_came more_went
      (octets_came {came = others} start next octets answer is rest) later =
      subst
      (λ all. MakesOwnSteps steps held_of output_of token new all (went ++ more_went) old)
      (sym (append_assoc octets others more_came))
      (octets_came old next octets answer is
      (own_steps_then mid new next others went more_came more_went rest later))
  own_steps_then mid new old came went more_came more_went
      (octets_went {went = others} start next first answer now firsts is rest) later =
      subst
      (λ all. MakesOwnSteps steps held_of output_of token new (came ++ more_came) all old)
      (sym (append_assoc first others more_went))
      (octets_went old next first answer now firsts is
      (own_steps_then mid new next came others more_came more_went rest later))
  own_steps_then mid new old came went more_came more_went
      (another_step start next own reply none is rest) later =
      another_step old next own reply none is
      (own_steps_then mid new next came went more_came more_went rest later)

  -- What was done in a turn, and then what was done after it, is a turn.
  pub turn_then : (given_a given_b given_c taken_a taken_b taken_c : Option (List ℕ))
      (mid new old : HostState P)
      → MakesTurn steps held_of output_of token given_a given_b taken_a taken_b mid old
      → MakesTurn steps held_of output_of token given_b given_c taken_b taken_c new mid
      → MakesTurn steps held_of output_of token given_a given_c taken_a taken_c new old
  turn_then given_a given_b given_c taken_a taken_b taken_c mid new old one two = record {
    came = one.came ++ two.came;
    went = one.went ++ two.went;
    made = own_steps_then mid new old one.came one.went two.came two.went one.made two.made;
    gave = Appends-trans given_a given_b given_c one.came two.came one.gave two.gave;
    took = Appends-trans taken_a taken_b taken_c one.went two.went one.took two.took;
  }

  -- A turn in which no step is made, and no octets go over the transport.
  pub no_turn : (given_old given_new taken_old taken_new : Option (List ℕ)) (host : HostState P)
      → Appends given_old given_new [] → Appends taken_old taken_new []
      → MakesTurn steps held_of output_of token given_old given_new taken_old taken_new host host
  no_turn given_old given_new taken_old taken_new host gave took =
      record { came = []; went = []; made = no_own_step; gave = gave; took = took }

  -- A step with which no octets go over the transport.
  pub other_turn : (given_old given_new taken_old taken_new : Option (List ℕ))
      (new old : HostState P) (own : Own) (reply : Reply P) → MovesNone own
      → AnswersOwn steps held_of old new token own [] reply
      → Appends given_old given_new [] → Appends taken_old taken_new []
      → MakesTurn steps held_of output_of token given_old given_new taken_old taken_new new old
  other_turn given_old given_new taken_old taken_new new old own reply none is gave took =
      record {
        came = [];
        went = [];
        made = another_step old new own reply none is no_own_step;
        gave = gave;
        took = took;
      }
