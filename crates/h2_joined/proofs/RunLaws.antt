-- The laws of two joined ends.
use Rattle.h2_joined.specs.Joints.{NoneWasEnded}
use Rattle.h2_joined.proofs.Names.{[], ◌∷◌, ◌++◌, subst, Values, IsPrefixOfTokens, ends_to_server}
use Rattle.h2_joined.proofs.Names.{ends_to_client, tokens_handed, tokens_said, JointEnd, Made}
use Rattle.h2_joined.proofs.Names.{IsJoint, continues, MemorySufficed, half_of, AreQuiet}
use Rattle.h2_joined.proofs.Names.{WasResetIn, ReportsNoFault, ◌≡◌, ℕ, List, begins}
use Rattle.h2_laws_end.specs.WithinWindows.{KeepsWindows}
use Rattle.h2_laws_end.proofs.WithinWindows.{keeps_windows}
use Rattle.h2_joined.proofs.Unparsed.{none_unparsed}
use Rattle.h2_laws_pair.proofs.BothWays.{to_server, to_client}
use Rattle.h2_laws_pair.proofs.CarriedOctets.{carried}
use Rattle.h2_joined.specs.Runs.{ActsLeadTo, leads_nowhere, leads_on}
use Rattle.h2_joined.proofs.JointActs.{joint_holds}
use Rattle.h2_joined.proofs.JointLaws.{server_has_all, client_has_all, faultless_end}
use Rattle.h2_joined.proofs.JointMemory.{none_was_ended, had_memory}
use Rattle.h2_joined.proofs.JointOrder.{hands_at}
use Rattle.h2_joined.proofs.JointHolds.{log_of, turned, HoldsAt, JointHolds}
use Rattle.h2_joined.specs.declared.act.Side.TheVariants as sides

-- Two quiet ends are up, so that memory was not refused to their connections.
pub quiet_had_memory : (client server : JointEnd) → AreQuiet client server
    → MemorySufficed client server
quiet_had_memory client server quiet =
    let client_up = quiet.quiet_client.up in
    let server_up = quiet.quiet_server.up in
    record { client_went_on = λ failed. cc; server_went_on = λ failed. cc }

module _ (client_values server_values : Values) (made : List Made) (client server : JointEnd)
    (joint : IsJoint client_values server_values made client server) where
  -- What holds, as either end sees it.
  at_client : JointHolds client_values server_values made client server
  at_client = joint_holds client_values server_values made client server joint

  at_server : HoldsAt sides.Server client_values server_values made server client
  at_server = turned sides.Client client_values server_values made client server at_client

  pub prefix_at_server : (i : ℕ)
      → IsPrefixOfTokens (tokens_handed server.happened i) (tokens_said client.happened i)
  prefix_at_server i = hands_at sides.Server client_values server_values made server client i
      at_server

  pub prefix_at_client : (i : ℕ)
      → IsPrefixOfTokens (tokens_handed client.happened i) (tokens_said server.happened i)
  prefix_at_client i = hands_at sides.Client client_values server_values made client server i
      at_client

  pub client_no_fault : MemorySufficed client server → NoneWasEnded made
      → ReportsNoFault made client.happened sides.Server
  client_no_fault had none =
      faultless_end sides.Client client_values server_values made client server at_client (had_memory client_values server_values made client server joint had none)

  pub server_no_fault : MemorySufficed client server → NoneWasEnded made
      → ReportsNoFault made server.happened sides.Client
  server_no_fault had none =
      faultless_end sides.Server client_values server_values made server client at_server (had_memory client_values server_values made client server joint had none)

  -- No DATA of either end passes its windows.
  client_keeps : KeepsWindows client.happened.log
  client_keeps = keeps_windows _ _ _
      (log_of sides.Client client_values server_values made client server at_client.stays)

  server_keeps : KeepsWindows server.happened.log
  server_keeps = keeps_windows _ _ _
      (log_of sides.Server client_values server_values made server client at_server.stays)

  -- Two quiet ends hold no octets of a frame that isn't complete.
  pub hold_nothing : AreQuiet client server
      → (client.happened.log.unparsed ≡ []) × (server.happened.log.unparsed ≡ [])
  hold_nothing quiet =
      let pair = at_client.stays.pair.0 in
      let one = half_of client at_client.stays.lost in
      let other = half_of server at_client.stays.other_lost in (
        none_unparsed other one (ends_to_client client_values server_values one other pair)
            (carried other one (to_client pair)) quiet.quiet_client.up quiet.to_client
            quiet.quiet_server.given,
        none_unparsed one other (ends_to_server client_values server_values one other pair)
            (carried one other (to_server pair)) quiet.quiet_server.up quiet.to_server
            quiet.quiet_client.given,
      )

  -- They have handed out all that the other one has accepted, unless the stream was reset.
  pub whole_at_server : (i : ℕ) → AreQuiet client server → (WasResetIn made client i → ⊥)
      → tokens_handed server.happened i ≡ tokens_said client.happened i
  whole_at_server i quiet = server_has_all client_values server_values made client server i
      at_client (had_memory client_values server_values made client server joint
      (quiet_had_memory client server quiet) (none_was_ended client_values server_values made client
      server joint quiet.quiet_client.up quiet.quiet_server.up)) quiet

  pub whole_at_client : (i : ℕ) → AreQuiet client server → (WasResetIn made client i → ⊥)
      → tokens_handed client.happened i ≡ tokens_said server.happened i
  whole_at_client i quiet = client_has_all client_values server_values made client server i
      at_client (had_memory client_values server_values made client server joint
      (quiet_had_memory client server quiet) (none_was_ended client_values server_values made client
      server joint quiet.quiet_client.up quiet.quiet_server.up)) quiet

-- Both did so after each act.
pub keep_at : (client_values server_values : Values) (made : List Made) (client server : JointEnd)
    → IsJoint client_values server_values made client server → (later before : List Made)
    → made ≡ later ++ before
    → (then_client then_server : JointEnd)
    × IsJoint client_values server_values before then_client then_server
    × ActsLeadTo then_client then_server later client server
    × KeepsWindows then_client.happened.log × KeepsWindows then_server.happened.log
keep_at client_values server_values made client server joint [] before split = (
  client,
  server,
  subst (λ (it : List Made). IsJoint client_values server_values it client server) split joint,
  leads_nowhere,
  client_keeps client_values server_values made client server joint,
  server_keeps client_values server_values made client server joint,
)
keep_at client_values server_values _ client server (begins client_range server_range)
    (one ∷ later) before split = absurd (cc)
keep_at client_values server_values _ client server
    (continues {history = history} joint act next) (one ∷ later) before split =
    let same : act ≡ one = cc in
    let others : history ≡ later ++ before = cc in
    let (then_client, then_server, then_joint, leads, client_kept, server_kept) =
    keep_at client_values server_values history _ _ joint later before others in (
      then_client,
      then_server,
      then_joint,
      subst (λ (it : Made). ActsLeadTo then_client then_server (it ∷ later) client server) same
          (leads_on leads act next),
      client_kept,
      server_kept,
    )
