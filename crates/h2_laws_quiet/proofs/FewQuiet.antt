-- Few rounds lead to quiet: while something waits, two rounds take a share, once all credit comes
-- back; and until then four rounds take two.
use Rattle.std.proofs.Common.{◌≡◌, ◌⊎◌, inl, inr, ℕ, zero, suc, ◌+◌, ◌*◌, ◌≤◌, List, ◌++◌, None}
use Rattle.std.proofs.Common.{refl, ap, ◌∙◌, arith, subst}
use Rattle.std.proofs.lemmas.Bool.{cases_eq}
use Rattle.h2_spec_log.specs.declared.role.Role.TheVariants.{Client, Server}
use Rattle.h2_spec_log.specs.Acts.{Values}
use Rattle.h2_spec_log.specs.Log.{Log}
use Rattle.h2_ends.specs.Ends.{EndLog}
use Rattle.h2_joined.specs.Joints.{JointEnd, Made, IsJoint}
use Rattle.h2_joined.specs.Headline.{AreQuiet}
use Rattle.h2_laws_quiet.specs.MostRounds.{octets_left, pieces_left, shares, shares_left}
use Rattle.h2_laws_quiet.specs.MostRounds.{most_rounds}
use Rattle.h2_laws_quiet.specs.Room.{window_ahead}
use Rattle.h2_laws_quiet.specs.Rounds.{IsRound, AreRounds}
use Rattle.h2_laws_quiet.specs.Work.{tokens_left}
use Rattle.h2_laws_quiet.proofs.FewEnds.{none_waits_there}
use Rattle.h2_laws_quiet.proofs.FewPieces.{shares_more, shares_fewer}
use Rattle.h2_laws_quiet.proofs.FewProgress.{window_some, window_kept}
use Rattle.h2_laws_quiet.proofs.FewRegular.{Regular, Loses, first_round, up_then}
use Rattle.h2_laws_quiet.proofs.FewRegular.{shares_both, regular_then, kept_then, client_stays}
use Rattle.h2_laws_quiet.proofs.FewRegular.{server_stays, client_returns, server_returns}
use Rattle.h2_laws_quiet.proofs.FewRegular.{client_less, server_less, no_work_then}
use Rattle.h2_laws_quiet.proofs.FewRegular.{client_progress, server_progress, next_joint}
use Rattle.h2_laws_quiet.proofs.FewRegular.{come_to_server, come_to_client, both_kept}
use Rattle.h2_laws_quiet.proofs.FewRegular.{client_room, server_room, next_regular}
use Rattle.h2_laws_quiet.proofs.FewRegular.{client_does, server_does}
use Rattle.h2_laws_quiet.proofs.ManyRounds.{get_quiet, joint_after}

-- An end has sent much for some rounds: a piece at least, or so many octets.
record HasLost (base now : EndLog) (rounds : ℕ) : Type 0 where
  octets : octets_left now ≤ octets_left base
  pieces : pieces_left now ≤ pieces_left base
  much : (pieces_left now + 1 ≤ pieces_left base)
      ⊎ (octets_left now + 17200 * rounds ≤ octets_left base)

lost_none : (base : EndLog) → HasLost base base 0
lost_none base =
    record { octets = omega arith; pieces = omega arith; much = inr (omega arith) }

lost_more : (base now next : EndLog) (rounds : ℕ) → HasLost base now rounds
    → (octets_left next ≤ octets_left now) × (pieces_left next ≤ pieces_left now)
    → Loses now next → HasLost base next (suc rounds)
lost_more base now next rounds lost less loses =
    let octets = lost.octets in
    let pieces = lost.pieces in
    record {
      octets = omega (arith, octets, less.0);
      pieces = omega (arith, pieces, less.1);
      much = elim loses [
        | inl piece ↦ inl (omega (arith, piece, pieces))
        | inr many ↦ elim lost.much [
          | inl piece ↦ inl (omega (arith, piece, less.1))
          | inr before ↦ inr (omega (arith, many, before))
        ]
      ];
    }

-- In four rounds that is a share at least.
lost_share : (base now : EndLog) (reader later : Log) → HasLost base now 4
    → window_ahead later ≡ window_ahead reader → 1 ≤ window_ahead reader
    → shares_left now later + 1 ≤ shares_left base reader
lost_share base now reader later lost same some =
    let octets = lost.octets in
    let pieces = lost.pieces in
    let kept = ap (λ (u : ℕ). shares (octets_left now) u (octets_left now)) same in
    elim lost.much [
      | inl piece ↦
          let fewer = shares_more (octets_left now) (octets_left base) (window_ahead reader)
          (octets_left now) (octets_left base) some (omega arith) (omega arith) octets in
          omega (arith, piece, fewer, kept)
      | inr many ↦
          let fewer = shares_fewer (octets_left now) (octets_left base) (window_ahead reader)
          (octets_left now) (octets_left base) some (omega arith) (omega arith)
          (omega (arith, many)) in
          omega (arith, pieces, fewer, kept)
    ]

-- Where nothing waits at an end it has not sent much.
loses_none : (before after : EndLog) → tokens_left before ≡ 0 → Loses before after → ⊥
loses_none before after none loses =
    let nothing = none_waits_there before none in
    elim loses [
      | inl piece ↦ omega (arith, piece, nothing.1)
      | inr many ↦ omega (arith, many, nothing.0)
    ]

module _ (client_values server_values : Values) (new_client new_server : JointEnd)
    (client_up : new_client.happened.log.failed ≡ None)
    (server_up : new_server.happened.log.failed ≡ None) where
  -- One round of some, which leaves two ends that are up.
  record Next (client server : JointEnd) (count : ℕ) : Type 0 where
    then_client : JointEnd
    then_server : JointEnd
    round : IsRound client server then_client then_server
    rest : AreRounds then_client then_server count new_client new_server
    then_client_up : then_client.happened.log.failed ≡ None
    then_server_up : then_server.happened.log.failed ≡ None

  next_of : (made : List Made) (client server : JointEnd) (count : ℕ)
      → IsJoint client_values server_values made client server
      → AreRounds client server (suc count) new_client new_server → Next client server count
  next_of made client server count joint rounds =
      let first = first_round client server count new_client new_server rounds in
      let up = up_then client_values server_values (first.round.acts ++ made) first.mid_client
      first.mid_server count new_client new_server
      (joint_after client_values server_values made client server first.round.acts
      first.mid_client first.mid_server joint first.round.leads) first.rest client_up server_up in
      record {
        then_client = first.mid_client;
        then_server = first.mid_server;
        round = first.round;
        rest = first.rest;
        then_client_up = up.0;
        then_server_up = up.1;
      }

  -- what is asked of two ends with so many rounds to come
  abbrev HasRounds : (client server : JointEnd) → ℕ → Type 0
  HasRounds client server count = AreRounds client server count new_client new_server

  -- Where nothing is unreturned at either end.
  all_returned : (most count : ℕ) (client server : JointEnd)
      → Regular client_values server_values client server → HasRounds client server count
      → client.happened.log.unreturned ≡ 0 → server.happened.log.unreturned ≡ 0 → count ≤ most
      → 2 * shares_both client server + 2 ≤ count → AreQuiet new_client new_server
  all_returned zero count client server regular rounds client_none server_none few enough =
      absurd (omega (arith, few, enough))
  all_returned (suc most) zero client server regular rounds client_none server_none few enough =
      absurd (omega (arith, enough))
  all_returned (suc most) (suc zero) client server regular rounds client_none server_none few
      enough = absurd (omega (arith, enough))
  all_returned (suc most) (suc (suc count)) client server regular rounds client_none server_none
      few enough =
      let one = next_of regular.made client server (suc count) regular.joint rounds in
      let first = regular_then client_values server_values client server one.then_client
      one.then_server regular one.round one.then_client_up one.then_server_up in
      let two = next_of first.made one.then_client one.then_server count first.joint one.rest in
      let second = regular_then client_values server_values one.then_client one.then_server
      two.then_client two.then_server first two.round two.then_client_up two.then_server_up in
      let client_then = client_stays client_values server_values one.then_client one.then_server
      two.then_client two.then_server first two.round two.then_client_up two.then_server_up
      (client_stays client_values server_values client server one.then_client one.then_server
      regular one.round one.then_client_up one.then_server_up client_none) in
      let server_then = server_stays client_values server_values one.then_client one.then_server
      two.then_client two.then_server first two.round two.then_client_up two.then_server_up
      (server_stays client_values server_values client server one.then_client one.then_server
      regular one.round one.then_client_up one.then_server_up server_none) in
      elim (cases_eq (tokens_left client.happened) 0) [
        | inr some ↦
            let less = client_progress client_values server_values client server one.then_client
            one.then_server two.then_client two.then_server regular one.round two.round
            one.then_client_up one.then_server_up two.then_client_up two.then_server_up
            server_none some in
            all_returned most count two.then_client two.then_server second two.rest client_then
            server_then (omega (arith, few)) (omega (arith, less, enough))
        | inl client_empty ↦ elim (cases_eq (tokens_left server.happened) 0) [
          | inr some ↦
              let less = server_progress client_values server_values client server
              one.then_client one.then_server two.then_client two.then_server regular one.round
              two.round one.then_client_up one.then_server_up two.then_client_up
              two.then_server_up client_none some in
              all_returned most count two.then_client two.then_server second two.rest client_then
              server_then (omega (arith, few)) (omega (arith, less, enough))
          | inl server_empty ↦
              let none = no_work_then client_values server_values client server one.then_client
              one.then_server regular one.round one.then_client_up one.then_server_up client_none
              server_none client_empty server_empty in
              get_quiet client_values server_values first.made (suc count) one.then_client
              one.then_server new_client new_server first.joint one.rest client_up server_up
              (omega (arith, none))
        ]
      ]

  -- Where nothing is unreturned at the server,
  server_returned : (most count : ℕ) (client server : JointEnd)
      → Regular client_values server_values client server → HasRounds client server count
      → server.happened.log.unreturned ≡ 0 → count ≤ most
      → 2 * shares_both client server + 3 ≤ count → AreQuiet new_client new_server
  server_returned zero count client server regular rounds none few enough =
      absurd (omega (arith, few, enough))
  server_returned (suc most) zero client server regular rounds none few enough =
      absurd (omega (arith, enough))
  server_returned (suc most) (suc zero) client server regular rounds none few enough =
      absurd (omega (arith, enough))
  server_returned (suc most) (suc (suc count)) client server regular rounds none few enough =
      let one = next_of regular.made client server (suc count) regular.joint rounds in
      let first = regular_then client_values server_values client server one.then_client
      one.then_server regular one.round one.then_client_up one.then_server_up in
      let server_first = server_stays client_values server_values client server one.then_client
      one.then_server regular one.round one.then_client_up one.then_server_up none in
      elim (cases_eq (tokens_left client.happened) 0) [
        | inl empty ↦ elim (client_returns client_values server_values client server
            one.then_client one.then_server regular one.round one.then_client_up
            one.then_server_up) [
              | inl client_none ↦
                  let kept = kept_then client_values server_values client server one.then_client
                  one.then_server regular one.round one.then_client_up one.then_server_up in
                  all_returned (suc count) (suc count) one.then_client one.then_server first
                  one.rest client_none server_first (omega arith) (omega (arith, kept, enough))
              | inr loses ↦ absurd (loses_none client.happened one.then_client.happened empty
                  loses)
            ]
        | inr some ↦
            let two = next_of first.made one.then_client one.then_server count first.joint
            one.rest in
            let second = regular_then client_values server_values one.then_client one.then_server
            two.then_client two.then_server first two.round two.then_client_up
            two.then_server_up in
            let less = client_progress client_values server_values client server one.then_client
            one.then_server two.then_client two.then_server regular one.round two.round
            one.then_client_up one.then_server_up two.then_client_up two.then_server_up none
            some in
            server_returned most count two.then_client two.then_server second two.rest
            (server_stays client_values server_values one.then_client one.then_server
            two.then_client two.then_server first two.round two.then_client_up two.then_server_up
            server_first) (omega (arith, few)) (omega (arith, less, enough))
      ]

  -- and at the client.
  client_returned : (most count : ℕ) (client server : JointEnd)
      → Regular client_values server_values client server → HasRounds client server count
      → client.happened.log.unreturned ≡ 0 → count ≤ most
      → 2 * shares_both client server + 3 ≤ count → AreQuiet new_client new_server
  client_returned zero count client server regular rounds none few enough =
      absurd (omega (arith, few, enough))
  client_returned (suc most) zero client server regular rounds none few enough =
      absurd (omega (arith, enough))
  client_returned (suc most) (suc zero) client server regular rounds none few enough =
      absurd (omega (arith, enough))
  client_returned (suc most) (suc (suc count)) client server regular rounds none few enough =
      let one = next_of regular.made client server (suc count) regular.joint rounds in
      let first = regular_then client_values server_values client server one.then_client
      one.then_server regular one.round one.then_client_up one.then_server_up in
      let client_first = client_stays client_values server_values client server one.then_client
      one.then_server regular one.round one.then_client_up one.then_server_up none in
      elim (cases_eq (tokens_left server.happened) 0) [
        | inl empty ↦ elim (server_returns client_values server_values client server
            one.then_client one.then_server regular one.round one.then_client_up
            one.then_server_up) [
              | inl server_none ↦
                  let kept = kept_then client_values server_values client server one.then_client
                  one.then_server regular one.round one.then_client_up one.then_server_up in
                  all_returned (suc count) (suc count) one.then_client one.then_server first
                  one.rest client_first server_none (omega arith) (omega (arith, kept, enough))
              | inr loses ↦ absurd (loses_none server.happened one.then_server.happened empty
                  loses)
            ]
        | inr some ↦
            let two = next_of first.made one.then_client one.then_server count first.joint
            one.rest in
            let second = regular_then client_values server_values one.then_client one.then_server
            two.then_client two.then_server first two.round two.then_client_up
            two.then_server_up in
            let less = server_progress client_values server_values client server one.then_client
            one.then_server two.then_client two.then_server regular one.round two.round
            one.then_client_up one.then_server_up two.then_client_up two.then_server_up none
            some in
            client_returned most count two.then_client two.then_server second two.rest
            (client_stays client_values server_values one.then_client one.then_server
            two.then_client two.then_server first two.round two.then_client_up two.then_server_up
            client_first) (omega (arith, few)) (omega (arith, less, enough))
      ]

  -- Until then both ends send much in each round, and so two shares in four.
  none_returned : (most count rounds : ℕ) (base_client base_server client server : JointEnd)
      → Regular client_values server_values client server → HasRounds client server count
      → HasLost base_client.happened client.happened rounds
      → HasLost base_server.happened server.happened rounds
      → window_ahead server.happened.log ≡ window_ahead base_server.happened.log
      → window_ahead client.happened.log ≡ window_ahead base_client.happened.log
      → shares_both client server ≤ shares_both base_client base_server → rounds ≤ 3
      → count ≤ most → 2 * shares_both base_client base_server + 7 ≤ count + rounds
      → AreQuiet new_client new_server
  none_returned zero count rounds base_client base_server client server regular to_come lost
      lost_there same same_there kept early few enough = absurd (omega (arith, few, enough, early))
  none_returned (suc most) zero rounds base_client base_server client server regular to_come lost
      lost_there same same_there kept early few enough = absurd (omega (arith, enough, early))
  none_returned (suc most) (suc count) rounds base_client base_server client server regular to_come
      lost lost_there same same_there kept early few enough =
      let one = next_of regular.made client server count regular.joint to_come in
      let first = regular_then client_values server_values client server one.then_client
      one.then_server regular one.round one.then_client_up one.then_server_up in
      let kept_once = kept_then client_values server_values client server one.then_client
      one.then_server regular one.round one.then_client_up one.then_server_up in
      let client_turns = client_does client_values server_values client server one.then_client
      one.then_server regular one.round one.then_client_up one.then_server_up in
      let server_turns = server_does client_values server_values client server one.then_client
      one.then_server regular one.round one.then_client_up one.then_server_up in
      let later = window_kept Client Server client_values server_values client.happened
      server.happened one.then_client.happened one.then_server.happened client_turns ∙ same in
      let later_there = window_kept Server Client server_values client_values server.happened
      client.happened one.then_server.happened one.then_client.happened server_turns ∙ same_there
      in
      elim (server_returns client_values server_values client server one.then_client
      one.then_server regular one.round one.then_client_up one.then_server_up) [
        | inl none ↦ server_returned count count one.then_client one.then_server first one.rest
            none (omega arith) (omega (arith, kept, kept_once, early, enough))
        | inr server_loses ↦ elim (client_returns client_values server_values client server
            one.then_client one.then_server regular one.round one.then_client_up
            one.then_server_up) [
              | inl none ↦ client_returned count count one.then_client one.then_server first
                  one.rest none (omega arith) (omega (arith, kept, kept_once, early, enough))
              | inr client_loses ↦
                  let lost_now = lost_more base_client.happened client.happened
                  one.then_client.happened rounds lost (client_less client_values server_values
                  client server one.then_client one.then_server regular one.round
                  one.then_client_up one.then_server_up) client_loses in
                  let lost_now_there = lost_more base_server.happened server.happened
                  one.then_server.happened rounds lost_there (server_less client_values
                  server_values client server one.then_client one.then_server regular one.round
                  one.then_client_up one.then_server_up) server_loses in
                  elim (cases_eq rounds 3) [
                    | inl all ↦
                        let some = window_some Server server_values server.happened.log
                        client_turns.r_log in
                        let some_there = window_some Client client_values client.happened.log
                        server_turns.r_log in
                        let share = lost_share base_client.happened one.then_client.happened
                        base_server.happened.log one.then_server.happened.log
                        (subst (λ (n : ℕ). HasLost base_client.happened
                        one.then_client.happened (suc n)) all lost_now) later
                        (omega (arith, some, same)) in
                        let share_there = lost_share base_server.happened
                        one.then_server.happened base_client.happened.log
                        one.then_client.happened.log
                        (subst (λ (n : ℕ). HasLost base_server.happened
                        one.then_server.happened (suc n)) all lost_now_there) later_there
                        (omega (arith, some_there, same_there)) in
                        none_returned most count 0 one.then_client one.then_server
                        one.then_client one.then_server first one.rest
                        (lost_none one.then_client.happened) (lost_none one.then_server.happened)
                        refl refl (omega arith) (omega arith) (omega (arith, few))
                        (omega (arith, share, share_there, enough, all))
                    | inr other ↦
                        none_returned most count (suc rounds) base_client base_server
                        one.then_client one.then_server first one.rest lost_now lost_now_there
                        later later_there (omega (arith, kept, kept_once))
                        (omega (arith, early, other)) (omega (arith, few))
                        (omega (arith, enough))
                  ]
            ]
      ]

  -- After three rounds there is room, and so after few rounds the ends are quiet.
  pub few_lead : (made : List Made) (client server : JointEnd) (count : ℕ)
      → IsJoint client_values server_values made client server → HasRounds client server count
      → most_rounds client.happened server.happened ≤ count → AreQuiet new_client new_server
  few_lead made client server zero joint rounds enough = absurd (omega (arith, enough))
  few_lead made client server (suc zero) joint rounds enough = absurd (omega (arith, enough))
  few_lead made client server (suc (suc zero)) joint rounds enough =
      absurd (omega (arith, enough))
  few_lead made client server (suc (suc (suc count))) joint rounds enough =
      let one = next_of made client server (suc (suc count)) joint rounds in
      let joint_one = next_joint client_values server_values made client server one.then_client
      one.then_server joint one.round one.then_client_up one.then_server_up in
      let to_server = come_to_server client_values server_values made client server
      one.then_client one.then_server joint one.round one.then_client_up one.then_server_up in
      let to_client = come_to_client client_values server_values made client server
      one.then_client one.then_server joint one.round one.then_client_up one.then_server_up in
      let kept_one = both_kept client_values server_values made client server one.then_client
      one.then_server joint one.round one.then_client_up one.then_server_up in
      let made_one = one.round.acts ++ made in
      let two = next_of made_one one.then_client one.then_server (suc count) joint_one one.rest in
      let joint_two = next_joint client_values server_values made_one one.then_client
      one.then_server two.then_client two.then_server joint_one two.round two.then_client_up
      two.then_server_up in
      let to_server_then = come_to_server client_values server_values made_one one.then_client
      one.then_server two.then_client two.then_server joint_one two.round two.then_client_up
      two.then_server_up in
      let to_client_then = come_to_client client_values server_values made_one one.then_client
      one.then_server two.then_client two.then_server joint_one two.round two.then_client_up
      two.then_server_up in
      let kept_two = both_kept client_values server_values made_one one.then_client
      one.then_server two.then_client two.then_server joint_one two.round two.then_client_up
      two.then_server_up in
      let client_has = client_room client_values server_values made_one one.then_client
      one.then_server two.then_client two.then_server joint_one two.round two.then_client_up
      two.then_server_up to_server to_client in
      let server_has = server_room client_values server_values made_one one.then_client
      one.then_server two.then_client two.then_server joint_one two.round two.then_client_up
      two.then_server_up to_server to_client in
      let made_two = two.round.acts ++ made_one in
      let three = next_of made_two two.then_client two.then_server count joint_two two.rest in
      let regular = next_regular client_values server_values made_two two.then_client
      two.then_server three.then_client three.then_server joint_two three.round
      three.then_client_up three.then_server_up to_server_then to_client_then client_has
      server_has in
      let kept_three = both_kept client_values server_values made_two two.then_client
      two.then_server three.then_client three.then_server joint_two three.round
      three.then_client_up three.then_server_up in
      none_returned count count 0 three.then_client three.then_server three.then_client
      three.then_server regular three.rest (lost_none three.then_client.happened)
      (lost_none three.then_server.happened) refl refl (omega arith) (omega arith) (omega arith)
      (omega (arith, kept_one, kept_two, kept_three, enough))
