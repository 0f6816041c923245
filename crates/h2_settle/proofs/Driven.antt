-- Two ends that are driven, round by round.
use Rattle.std.proofs.Common.{◌≡◌, inl, inr, ℕ, suc, ◌+◌, ◌≤◌, ◌<◌, true, false, List, []}
use Rattle.std.proofs.Common.{◌++◌, Some, None, refl, arith, add-one}
use Rattle.std.proofs.Common.{ltb-true, ltb-false, nat_lt}
use Rattle.std.proofs.Common.{append_assoc}
use Rattle.std.proofs.lemmas.Bool.{both_ways, cases_Bool}
use Rattle.h2_spec_log.specs.Acts.{Values}
use Rattle.h2_joined.specs.declared.act.Side.{Side}
use Rattle.h2_joined.specs.declared.joined.Joined.{Joined}
use Rattle.h2_joined.specs.Headline.{AreQuiet}
use Rattle.h2_joined.specs.Joints.{JointEnd, Made}
use Rattle.h2_joined.specs.Kept.{JoinedRepresents}
use Rattle.h2_joined.proofs.KeptQuiet.{TellsBoth}
use Rattle.h2_laws_quiet.specs.Rounds.{AreRounds, no_round, one_more}
use Rattle.h2_laws_quiet.specs.MostRounds.{most_rounds}
use Rattle.h2_laws_quiet.specs.Work.{work_left}
use Rattle.h2_laws_quiet.proofs.FewQuiet.{few_lead}
use Rattle.h2_laws_quiet.proofs.ManyRounds.{get_quiet}
use Rattle.h2_settle.specs.declared.rounds.Ending.TheVariants.{Whole, Failed, NoMemory}
use Rattle.h2_settle.specs.Settling.{AreNeeded, Settles, none_needed, one_needed, settles, stops}
use Rattle.h2_settle.specs.RoundEndings.{FailedIs, MakesRound}

-- Rounds that were needed are rounds.
pub rounds_of : (client server new_client new_server : JointEnd) (rounds : ℕ) (acts : List Made)
    → AreNeeded client server rounds acts new_client new_server
    → AreRounds client server rounds new_client new_server
rounds_of client server _ _ _ _ none_needed = no_round
rounds_of client server new_client new_server _ _
    (one_needed {count = count} {acts = acts} {mid_client = mid_client} {mid_server = mid_server}
    needed up busy round still_up) =
    one_more (rounds_of client server mid_client mid_server count acts needed) round

-- So many rounds were made at two ends, and each was needed: no more than the work that was left, and one, and no more
-- than what waited needs.
pub record DrivenFor (client_values server_values : Values) (before : List Made)
    (first_client first_server : JointEnd) (rounds : ℕ) (now : Joined) : Type 0 where
  pub acts : List Made
  pub client : JointEnd
  pub server : JointEnd
  pub represents : JoinedRepresents client_values server_values now (acts ++ before) client server
  pub are_needed : AreNeeded first_client first_server rounds acts client server
  pub few : rounds ≤ suc (work_left first_client.happened first_server.happened)
  pub fewest : rounds ≤ most_rounds first_client.happened first_server.happened

-- The same whatever had happened.
abbrev pub DrivesFor : (first : Joined) → ℕ → (now : Joined) → Type 0
DrivesFor first rounds now =
    (client_values server_values : Values) (before : List Made) (client server : JointEnd)
    → JoinedRepresents client_values server_values first before client server
    → DrivenFor client_values server_values before client server rounds now

-- No round was made yet.
pub drives_none : (joined : Joined) → DrivesFor joined 0 joined
drives_none joined client_values server_values before client server is = record {
  acts = [];
  client = client;
  server = server;
  represents = is;
  are_needed = none_needed;
  few = omega arith;
  fewest = omega arith;
}

-- Ends that are up and not quiet were not driven for more rounds than the work that was left.
few_rounds : (client_values server_values : Values) (before : List Made)
    (first_client first_server : JointEnd) (rounds : ℕ) (first now : Joined)
    → JoinedRepresents client_values server_values first before first_client first_server
    → (driven : DrivenFor client_values server_values before first_client first_server rounds now)
    → TellsBoth now false → FailedIs None driven.client driven.server
    → rounds ≤ work_left first_client.happened first_server.happened
few_rounds client_values server_values before first_client first_server rounds first now is driven
    busy up =
    let work = work_left first_client.happened first_server.happened in
    elim (cases_Bool (nat_lt work rounds)) [
      | inl more ↦
          let quiet = get_quiet client_values server_values before rounds first_client first_server
          driven.client driven.server is.joint (rounds_of first_client first_server
          driven.client driven.server rounds driven.acts driven.are_needed) up.0 up.1
          (ltb-true work rounds more) in
          absurd (both_ways false refl ((busy client_values server_values (driven.acts ++ before)
          driven.client driven.server driven.represents).1 quiet))
      | inr few ↦ ltb-false work rounds few
    ]

-- Nor were they for as many as what waited needs.
fewer_rounds : (client_values server_values : Values) (before : List Made)
    (first_client first_server : JointEnd) (rounds : ℕ) (first now : Joined)
    → JoinedRepresents client_values server_values first before first_client first_server
    → (driven : DrivenFor client_values server_values before first_client first_server rounds now)
    → TellsBoth now false → FailedIs None driven.client driven.server
    → rounds < most_rounds first_client.happened first_server.happened
fewer_rounds client_values server_values before first_client first_server rounds first now is driven
    busy up =
    let most = most_rounds first_client.happened first_server.happened in
    elim (cases_Bool (nat_lt rounds most)) [
      | inl fewer ↦ ltb-true rounds most fewer
      | inr enough ↦
          let quiet = few_lead client_values server_values driven.client driven.server up.0 up.1
          before first_client first_server rounds is.joint (rounds_of first_client first_server
          driven.client driven.server rounds driven.acts driven.are_needed)
          (ltb-false rounds most enough) in
          absurd (both_ways false refl ((busy client_values server_values (driven.acts ++ before)
          driven.client driven.server driven.represents).1 quiet))
    ]

-- The two ends that were driven so far are not quiet.
not_quiet : (client_values server_values : Values) (before : List Made)
    (first_client first_server : JointEnd) (rounds : ℕ) (now : Joined)
    → (driven : DrivenFor client_values server_values before first_client first_server rounds now)
    → TellsBoth now false → AreQuiet driven.client driven.server → ⊥
not_quiet client_values server_values before first_client first_server rounds now driven busy
    quiet =
    both_ways false refl ((busy client_values server_values (driven.acts ++ before) driven.client
    driven.server driven.represents).1 quiet)

-- A round more.
pub drives_more : (first old new : Joined) (rounds : ℕ) → DrivesFor first rounds old
    → TellsBoth old false → MakesRound old Whole new → DrivesFor first (rounds + 1) new
drives_more first old new rounds drives busy makes client_values server_values before client server
    is =
    let driven = drives client_values server_values before client server is in
    let (acts, new_client, new_server, after, (up, still_up, round, are)) =
    makes client_values server_values (driven.acts ++ before) driven.client driven.server
    driven.represents in
    let few = few_rounds client_values server_values before client server rounds first old is
    driven busy up in
    let fewer = fewer_rounds client_values server_values before client server rounds first old is
    driven busy up in
    record {
      acts = acts ++ driven.acts;
      client = new_client;
      server = new_server;
      represents = rw append_assoc after;
      are_needed = rw (add-one, ← are) (one_needed driven.are_needed up (not_quiet client_values
          server_values before client server rounds old driven busy) round still_up);
      few = omega (arith, few);
      fewest = omega (arith, fewer);
    }

-- The two ends are quiet.
pub settles_quiet : (first now : Joined) (rounds most : ℕ) → rounds < most
    → DrivesFor first rounds now → TellsBoth now true
    → Settles first most (record { rounds = rounds; failed = None; memory = false }) now
settles_quiet first now rounds most within drives quiet client_values server_values before client
    server is =
    let driven = drives client_values server_values before client server is in (
      driven.acts,
      driven.client,
      driven.server,
      driven.represents,
      inl (
        within,
        settles driven.are_needed ((quiet client_values server_values (driven.acts ++ before)
            driven.client driven.server driven.represents).0 refl),
      ),
      driven.few,
      driven.fewest,
    )

module _ (first old new : Joined) (rounds most : ℕ) (within : rounds < most)
    (drives : DrivesFor first rounds old) (busy : TellsBoth old false) where
  -- An end had failed before the next round, or has in it.
  pub settles_failed : (side : Side) → MakesRound old (Failed side) new
      → Settles first most (record { rounds = rounds; failed = Some side; memory = false }) new
  settles_failed side makes client_values server_values before client server is =
      let driven = drives client_values server_values before client server is in
      let (acts, new_client, new_server, after, stops_so) =
      makes client_values server_values (driven.acts ++ before) driven.client driven.server
      driven.represents in (
        acts ++ driven.acts,
        new_client,
        new_server,
        rw append_assoc after,
        inl (
          within,
          stops driven.are_needed (not_quiet client_values server_values before client server
              rounds old driven busy) stops_so,
        ),
        driven.few,
        driven.fewest,
      )

  -- An act of the next round was refused memory.
  pub settles_without_memory : MakesRound old NoMemory new
      → Settles first most (record { rounds = rounds; failed = None; memory = true }) new
  settles_without_memory makes client_values server_values before client server is =
      let driven = drives client_values server_values before client server is in
      let (acts, new_client, new_server, after, stops_so) =
      makes client_values server_values (driven.acts ++ before) driven.client driven.server
      driven.represents in (
        acts ++ driven.acts,
        new_client,
        new_server,
        rw append_assoc after,
        inl (
          within,
          stops driven.are_needed (not_quiet client_values server_values before client server
              rounds old driven busy) stops_so,
        ),
        driven.few,
        driven.fewest,
      )

-- As many rounds were made as were asked for.
pub settles_at_most : (first now : Joined) (rounds most : ℕ) → DrivesFor first rounds now
    → rounds ≡ most
    → Settles first most (record { rounds = most; failed = None; memory = false }) now
settles_at_most first now rounds most drives all client_values server_values before client server
    is =
    let driven = drives client_values server_values before client server is in (
      driven.acts,
      driven.client,
      driven.server,
      driven.represents,
      inr (record {
        rounds = refl;
        failed = refl;
        memory = refl;
        are_needed = rw (← all) driven.are_needed;
      }),
      rw (← all) driven.few,
      rw (← all) driven.fewest,
    )
