-- What an end has handed out on a stream is a prefix of what the other has accepted for it, and all
-- of it where both are quiet: part by part, where the head, interim heads and trailers are told
-- apart.
use Rattle.h2_joined.proofs.Names.{refl, ◌∙◌, Values, is_server, said_for, parts_on, parts_heard}
use Rattle.h2_joined.proofs.Names.{parts_said, IsPrefixOfParts, JointEnd, Made, IsJoint, AreQuiet}
use Rattle.h2_joined.proofs.Names.{WasResetIn, ◌≡◌, ℕ, List}
use Rattle.h2_ends.proofs.MessageTokensSaid.{parts_prefix, parts_whole}
use Rattle.h2_joined.proofs.JointPlaces.{joint_places}
use Rattle.h2_joined.proofs.RunLaws.{prefix_at_server, prefix_at_client, whole_at_server}
use Rattle.h2_joined.proofs.RunLaws.{whole_at_client}
use Rattle.h2_spec_log.specs.declared.role.Role.TheVariants as roles

module _ (client_values server_values : Values) (made : List Made) (client server : JointEnd) where
  -- What a server has handed out begins what the client has accepted,
  pub parts_begin_at_server : (i : ℕ) → IsJoint client_values server_values made client server
      → IsPrefixOfParts (parts_heard i server.happened.handed)
      (parts_said (said_for i client.happened.accepted))
  parts_begin_at_server i joint =
      let keeps = (joint_places client_values server_values made client server joint).1 in
      rw (keeps.placed i) (parts_prefix (is_server roles.Server) (parts_on i server.happened.handed)
      (said_for i client.happened.accepted) (λ said is. refl)
      (prefix_at_server client_values server_values made client server joint i))

  -- and what a client has begins what the server has.
  pub parts_begin_at_client : (i : ℕ) → IsJoint client_values server_values made client server
      → IsPrefixOfParts (parts_heard i client.happened.handed)
      (parts_said (said_for i server.happened.accepted))
  parts_begin_at_client i joint =
      let both = joint_places client_values server_values made client server joint in
      rw (both.0.placed i)
      (parts_prefix (is_server roles.Client) (parts_on i client.happened.handed)
      (said_for i server.happened.accepted) (both.1.final refl i)
      (prefix_at_client client_values server_values made client server joint i))

  -- It is all of that once both are quiet, unless the stream was reset: at the server,
  pub parts_whole_at_server : (i : ℕ) → IsJoint client_values server_values made client server
      → AreQuiet client server → (WasResetIn made client i → ⊥)
      → parts_heard i server.happened.handed ≡ parts_said (said_for i client.happened.accepted)
  parts_whole_at_server i joint quiet not_reset =
      let keeps = (joint_places client_values server_values made client server joint).1 in
      keeps.placed i ∙ parts_whole (is_server roles.Server) (parts_on i server.happened.handed)
      (said_for i client.happened.accepted) (λ said is. refl)
      (whole_at_server client_values server_values made client server joint i quiet not_reset)

  -- and at the client.
  pub parts_whole_at_client : (i : ℕ) → IsJoint client_values server_values made client server
      → AreQuiet client server → (WasResetIn made client i → ⊥)
      → parts_heard i client.happened.handed ≡ parts_said (said_for i server.happened.accepted)
  parts_whole_at_client i joint quiet not_reset =
      let both = joint_places client_values server_values made client server joint in
      both.0.placed i ∙ parts_whole (is_server roles.Client) (parts_on i client.happened.handed)
      (said_for i server.happened.accepted) (both.1.final refl i)
      (whole_at_client client_values server_values made client server joint i quiet not_reset)
