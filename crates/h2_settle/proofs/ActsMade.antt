-- The acts of a round that are made one after another.
use Rattle.std.proofs.Common.{◌≡◌, ℕ, ◌+◌, ◌<◌, ◌≤◌, List, [], ◌∷◌, ◌++◌, length, reverse, get_or}
use Rattle.std.proofs.Common.{take, drop, Some, None, refl, sym, ap, ◌∙◌, subst, arith}
use Rattle.std.proofs.Common.{map as each}
use Rattle.std.proofs.lemmas.List.{length-map, length-reverse, map-append}
use Rattle.std.proofs.lemmas.List.{reverse-append, take-append-drop, take_all, take_more}
use Rattle.std.specs.List.{AllByRecursion}
use Rattle.h2_spec_log.specs.Acts.{Values}
use Rattle.h2_joined.specs.declared.act.Acted.{Acted}
use Rattle.h2_joined.specs.declared.act.JointAct.{JointAct}
use Rattle.h2_joined.specs.declared.act.Side.{Side}
use Rattle.h2_joined.specs.declared.joined.Joined.{Joined}
use Rattle.h2_joined.specs.Joints.{IsNextAct, JointEnd, Made}
use Rattle.h2_joined.specs.Kept.{JoinedRepresents, MakesAct, made_of}
use Rattle.h2_joined.specs.Runs.{GotMemory, act_made, joint_act_value}
use Rattle.h2_laws_quiet.specs.Rounds.{round_doings}
use Rattle.h2_settle.specs.declared.rounds.Ending.{Ending}
use Rattle.h2_settle.specs.declared.rounds.Ending.TheVariants.{Whole, Failed, NoMemory}
use Rattle.h2_settle.specs.Settling.{BeginRound, GoWell, fails, had_failed, refused}
use Rattle.h2_settle.specs.RoundEndings.{FailedIs, FindsFailed, EndsAct, MakesRound}
use Rattle.h2_settle.proofs.Emptied.{LeadsWithin, within_none, within_next, leads_of, few_on_pipe}
use Rattle.h2_settle.proofs.Emptied.{both_emptied}

-- The acts of a list were made, one after another, at two ends that were up; each got its memory,
-- and neither end has failed.
pub record MadeSoFar (client_values server_values : Values) (before : List Made)
    (first_client first_server : JointEnd) (acts : List JointAct) (now : Joined) : Type 0 where
  pub made : List Made
  pub client : JointEnd
  pub server : JointEnd
  pub represents : JoinedRepresents client_values server_values now (made ++ before) client server
  pub within : LeadsWithin first_client first_server made client server
  pub acts_are : each act_made made ≡ reverse (each joint_act_value acts)
  pub got : AllByRecursion (λ act. GotMemory act.acted) made
  pub first_up : FailedIs None first_client first_server
  pub up : FailedIs None client server

-- The same whatever had happened.
abbrev pub MakesSoFar : (first : Joined) → List JointAct → (now : Joined) → Type 0
MakesSoFar first acts now =
    (client_values server_values : Values) (before : List Made) (client server : JointEnd)
    → JoinedRepresents client_values server_values first before client server
    → MadeSoFar client_values server_values before client server acts now

-- None was made yet.
pub makes_no_act : (joined : Joined) → FindsFailed joined None → MakesSoFar joined [] joined
makes_no_act joined finds client_values server_values before client server is = record {
  made = [];
  client = client;
  server = server;
  represents = is;
  within = within_none;
  acts_are = refl;
  got = tt;
  first_up = finds client_values server_values before client server is;
  up = finds client_values server_values before client server is;
}

-- What is done by some acts and then by later ones, the newest first.
values_of_both : (acts later : List JointAct)
    → reverse (each joint_act_value (acts ++ later))
    ≡ reverse (each joint_act_value later) ++ reverse (each joint_act_value acts)
values_of_both acts later =
    ap reverse (map-append joint_act_value acts later)
    ∙ reverse-append (each joint_act_value acts) (each joint_act_value later)

-- The acts with one more.
record OneMore (client_values server_values : Values) (before : List Made)
    (first_client first_server old_client old_server : JointEnd) (acts : List JointAct)
    (act : Made) (others : List Made) (new : Joined) : Type 0 where
  client : JointEnd
  server : JointEnd
  next : IsNextAct old_client old_server act client server
  represents : JoinedRepresents client_values server_values new (act ∷ others ++ before) client
      server
  within : LeadsWithin first_client first_server (act ∷ others) client server
  acts_are : each act_made (act ∷ others) ≡ reverse (each joint_act_value acts)

one_more : (client_values server_values : Values) (before : List Made)
    (first_client first_server : JointEnd) (acts : List JointAct) (act : JointAct)
    (acted : Acted) (old new : Joined)
    → (so_far : MadeSoFar client_values server_values before first_client first_server acts old)
    → MakesAct old (made_of act acted) new
    → OneMore client_values server_values before first_client first_server so_far.client
    so_far.server (acts ++ act ∷ []) (made_of act acted) so_far.made new
one_more client_values server_values before first_client first_server acts act acted old new so_far
    makes =
    let (client, server, next, after) =
    makes client_values server_values (so_far.made ++ before) so_far.client so_far.server
    so_far.represents in
    record {
      client = client;
      server = server;
      next = next;
      represents = after;
      within = within_next so_far.within
          (few_on_pipe old.at_client.incoming so_far.client.incoming
          so_far.represents.client_kept.incoming)
          (few_on_pipe old.at_server.incoming so_far.server.incoming
          so_far.represents.server_kept.incoming) (made_of act acted) next;
      acts_are = ap (λ values. joint_act_value act ∷ values) so_far.acts_are
          ∙ sym (values_of_both acts (act ∷ []));
    }

-- It got its memory, and neither end has failed.
makes_one : (first old new : Joined) (acts : List JointAct) (act : JointAct)
    → MakesSoFar first acts old → EndsAct old act Whole new
    → MakesSoFar first (acts ++ act ∷ []) new
makes_one first old new acts act makes ends client_values server_values before client server is =
    let so_far = makes client_values server_values before client server is in
    let more = one_more client_values server_values before client server acts act ends.0 old new
    so_far ends.1 in
    record {
      made = made_of act ends.0 ∷ so_far.made;
      client = more.client;
      server = more.server;
      represents = more.represents;
      within = more.within;
      acts_are = more.acts_are;
      got = (ends.2.0, so_far.got);
      first_up = so_far.first_up;
      up = ends.2.1 client_values server_values (made_of act ends.0 ∷ so_far.made ++ before)
          more.client more.server more.represents;
    }

-- The acts are the first of a round's.
begins : (acts later : List JointAct) (made : List Made)
    → reverse (each joint_act_value (acts ++ later)) ≡ round_doings
    → each act_made made ≡ reverse (each joint_act_value acts) → BeginRound made
begins acts later made round are = (
  reverse (each joint_act_value later),
  sym round ∙ values_of_both acts later
      ∙ ap (λ values. reverse (each joint_act_value later) ++ values) (sym are),
)

-- The acts that were made went well.
went_well : (client_values server_values : Values) (before : List Made)
    (first_client first_server : JointEnd) (acts : List JointAct) (now : Joined)
    → (so_far : MadeSoFar client_values server_values before first_client first_server acts now)
    → GoWell first_client first_server so_far.made so_far.client so_far.server
went_well client_values server_values before first_client first_server acts now so_far = record {
  up_before = so_far.first_up;
  leads = leads_of first_client first_server so_far.client so_far.server so_far.made
      so_far.within;
  memory = so_far.got;
  up = so_far.up;
}

-- It was refused memory, or an end has failed.
stops_there : (first old new : Joined) (acts later : List JointAct) (act : JointAct)
    (ending : Ending) → reverse (each joint_act_value ((acts ++ act ∷ []) ++ later)) ≡ round_doings
    → MakesSoFar first acts old → EndsAct old act ending new → (ending ≡ Whole → ⊥)
    → MakesRound first ending new
stops_there first old new acts later act Whole round makes ends stopped client_values server_values
    before client server is = absurd (stopped refl)
stops_there first old new acts later act (Failed side) round makes ends stopped client_values
    server_values before client server is =
    let so_far = makes client_values server_values before client server is in
    let more = one_more client_values server_values before client server acts act ends.0 old new
    so_far ends.1 in
    let made : List Made = made_of act ends.0 ∷ so_far.made in (
      made,
      more.client,
      more.server,
      more.represents,
      fails so_far.made
          (went_well client_values server_values before client server acts old so_far)
          (made_of act ends.0) (begins (acts ++ act ∷ []) later made round more.acts_are)
          more.next ends.2.0
          (ends.2.1 client_values server_values (made ++ before) more.client more.server
          more.represents),
    )
stops_there first old new acts later act NoMemory round makes ends stopped client_values
    server_values before client server is =
    let so_far = makes client_values server_values before client server is in
    let more = one_more client_values server_values before client server acts act ends.0 old new
    so_far ends.1 in
    let made : List Made = made_of act ends.0 ∷ so_far.made in (
      made,
      more.client,
      more.server,
      more.represents,
      refused so_far.made
          (went_well client_values server_values before client server acts old so_far)
          (made_of act ends.0) (begins (acts ++ act ∷ []) later made round more.acts_are)
          more.next ends.2,
    )

-- A round has eight acts.
eight_acts : (acts : List JointAct) → reverse (each joint_act_value acts) ≡ round_doings
    → length acts ≡ 8
eight_acts acts round =
    let same = ap length round in
    omega (
      arith,
      same,
      length-reverse (each joint_act_value acts),
      length-map acts joint_act_value,
    )

module _ (acts : List JointAct) (round : reverse (each joint_act_value acts) ≡ round_doings)
    (place : ℕ) where
  module _ (within : place < 8) (other : JointAct) where
    -- The next act of a round, by its place.
    next_taken : take (place + 1) acts ≡ take place acts ++ get_or acts place other ∷ []
    next_taken = take_more acts place other (omega (arith, within, eight_acts acts round))

    pub makes_next : (first old new : Joined) → MakesSoFar first (take place acts) old
        → EndsAct old (get_or acts place other) Whole new
        → MakesSoFar first (take (place + 1) acts) new
    makes_next first old new makes ends =
        subst (λ (so_far : List JointAct). MakesSoFar first so_far new) (sym next_taken)
        (makes_one first old new (take place acts) (get_or acts place other) makes ends)

    -- It is the last one that was made.
    pub stops_at : (first old new : Joined) (ending : Ending)
        → MakesSoFar first (take place acts) old → EndsAct old (get_or acts place other) ending new
        → (ending ≡ Whole → ⊥) → MakesRound first ending new
    stops_at first old new ending makes ends stopped =
        let all : (take place acts ++ get_or acts place other ∷ []) ++ drop (place + 1) acts
        ≡ acts = ap (λ (so_far : List JointAct). so_far ++ drop (place + 1) acts) (sym next_taken)
        ∙ take-append-drop (place + 1) acts in
        stops_there first old new (take place acts) (drop (place + 1) acts)
        (get_or acts place other) ending
        (ap (λ (so_far : List JointAct). reverse (each joint_act_value so_far)) all ∙ round)
        makes ends stopped

  -- All were made.
  pub makes_round : (first now : Joined) → 8 ≤ place → MakesSoFar first (take place acts) now
      → MakesRound first Whole now
  makes_round first now over makes client_values server_values before client server is =
      let all = subst (λ (so_far : List JointAct). MakesSoFar first so_far now)
      (take_all place acts (omega (arith, over, eight_acts acts round))) makes in
      let so_far = all client_values server_values before client server is in
      let are : each act_made so_far.made ≡ round_doings = so_far.acts_are ∙ round in
      let empty = both_emptied client server so_far.client so_far.server so_far.made
      (drop 2 round_doings) so_far.within are so_far.got so_far.up in (
        so_far.made,
        so_far.client,
        so_far.server,
        so_far.represents,
        (
          so_far.first_up,
          so_far.up,
          record {
            acts = so_far.made;
            leads = leads_of client server so_far.client so_far.server so_far.made so_far.within;
            acts_are = are;
            memory = so_far.got;
            to_client = empty.0;
            to_server = empty.1;
          },
          refl,
        ),
      )

-- No act was made, since an end has failed before.
pub makes_none_failed : (joined : Joined) (side : Side) → FindsFailed joined (Some side)
    → MakesRound joined (Failed side) joined
makes_none_failed joined side finds client_values server_values before client server is = (
  [],
  client,
  server,
  is,
  had_failed (finds client_values server_values before client server is),
)
