-- A list of acts that is made, act by act.
use Rattle.h2_joined.proofs.Names.{◌+◌, add-one, map-append, take_all, JointEnd, MakesAct, MakesAll}
use Rattle.h2_joined.proofs.Names.{◌<◌, ◌≤◌, [], ◌∷◌, refl, sym, ap, ◌∙◌, Side, Made, ◌≡◌, List}
use Rattle.h2_joined.proofs.Names.{◌++◌, length, take, drop, subst, Values, Acted, Joined, Doing, ℕ}
use Rattle.h2_joined.proofs.Names.{append-nil, reverse-append, take-append-drop, JoinedRepresents}
use Rattle.std.proofs.Common.{map as each}
use Rattle.std.proofs.Math.Seq.{take-suc}
use Rattle.std.specs.Prelude.{reverse, get_or}
use Rattle.h2_joined.specs.declared.act.JointAct.{JointAct}
use Rattle.h2_joined.specs.Kept.{made_of}
use Rattle.h2_joined.specs.Runs.{Runs, GotMemory, joint_act_value, MoreActs, StopsAtAct}
use Rattle.h2_joined.proofs.RunHeadline.{has_headline}

-- None was made yet.
pub makes_none : (joined : Joined) → MakesAll joined [] joined
makes_none joined client_values server_values before client server is = (
  record { news = []; client = client; server = server; represents = is; acts_are = refl },
  tt,
)

-- One act more.
more_acts : (acts : List JointAct) (act : JointAct)
    → reverse (each joint_act_value (acts ++ act ∷ []))
    ≡ joint_act_value act ∷ reverse (each joint_act_value acts)
more_acts acts act =
    ap (λ (values : List (Side
    × Doing)). reverse values) (map-append joint_act_value acts (act ∷ []))
    ∙ reverse-append (each joint_act_value acts) (joint_act_value act ∷ [])

one_more : (client_values server_values : Values) (before : List Made) (acts : List JointAct)
    (act : JointAct) (answer : Acted) (old new : Joined)
    → (so_far : MoreActs client_values server_values old before acts)
    → MakesAct old (made_of act answer) new
    → (more : MoreActs client_values server_values new before (acts ++ act ∷ []))
    × (more.news ≡ made_of act answer ∷ so_far.news)
one_more client_values server_values before acts act answer old new so_far does =
    let (new_client, new_server, next, after) =
    does client_values server_values (so_far.news ++ before) so_far.client so_far.server
    so_far.represents in (
      record {
        news = made_of act answer ∷ so_far.news;
        client = new_client;
        server = new_server;
        represents = after;
        acts_are = ap (λ (values : List (Side
            × Doing)). joint_act_value act ∷ values) so_far.acts_are
            ∙ sym (more_acts acts act);
      },
      refl,
    )

makes_one : (acts : List JointAct) (act : JointAct) (answer : Acted) (first old new : Joined)
    → MakesAll first acts old → MakesAct old (made_of act answer) new → GotMemory answer
    → MakesAll first (acts ++ act ∷ []) new
makes_one acts act answer first old new makes does memory client_values server_values before client
    server is =
    let so_far = makes client_values server_values before client server is in
    let more = one_more client_values server_values before acts act answer old new so_far.0 does in
    (more.0, rw more.1 (memory, so_far.1))

module _ (acts : List JointAct) (place : ℕ) (act : JointAct) where
  -- The next act of a list, by its place.
  next_taken : place < length acts → act ≡ get_or acts place act
      → take (place + 1) acts ≡ take place acts ++ act ∷ []
  next_taken within is = rw add-one (take-suc acts place act within
      ∙ ap (λ (item : JointAct). take place acts ++ item ∷ []) (sym is))

  pub makes_next : (answer : Acted) (first old new : Joined) → place < length acts
      → act ≡ get_or acts place act → MakesAll first (take place acts) old
      → MakesAct old (made_of act answer) new → GotMemory answer
      → MakesAll first (take (place + 1) acts) new
  makes_next answer first old new within is makes does memory =
      subst (λ (so_far : List JointAct). MakesAll first so_far new) (sym (next_taken within is))
      (makes_one (take place acts) act answer first old new makes does memory)

  -- It is the last one, where it hasn't got its memory.
  pub stops_there : (answer : Acted) (first old new : Joined) → place < length acts
      → act ≡ get_or acts place act → MakesAll first (take place acts) old
      → MakesAct old (made_of act answer) new → (GotMemory answer → ⊥) → StopsAtAct first acts new
  stops_there answer first old new within is makes does lacks = (
    take place acts ++ act ∷ [],
    drop (place + 1) acts,
    sym (take-append-drop (place + 1) acts)
        ∙ ap (λ (so_far : List JointAct). so_far ++ drop (place + 1) acts) (next_taken within is),
    λ client_values server_values before client server both.
        let so_far = makes client_values server_values before client server both in
        let more = one_more client_values server_values before (take place acts) act answer old new
        so_far.0 does in
        (more.0, made_of act answer, so_far.0.news, more.1, lacks, so_far.1),
  )

-- All were made.
pub makes_all : (acts : List JointAct) (place : ℕ) (first joined : Joined) → length acts ≤ place
    → MakesAll first (take place acts) joined → MakesAll first acts joined
makes_all acts place first joined over makes =
    subst (λ (so_far : List JointAct). MakesAll first so_far joined) (take_all _ _ over) makes

-- The headline holds then of two ends that were new.
pub runs_all : (client_values server_values : Values) (acts : List JointAct) (first joined : Joined)
    (client server : JointEnd)
    → JoinedRepresents client_values server_values first [] client server
    → MakesAll first acts joined → Runs client_values server_values acts joined
runs_all client_values server_values acts first joined client server is makes =
    let all = makes client_values server_values [] client server is in
    let none = append-nil all.0.news in
    let represents = rw none at all.0.represents in
    record {
      runs = record {
        made = all.0.news;
        client = all.0.client;
        server = all.0.server;
        represents = represents;
        acts_are = all.0.acts_are;
        memory = all.1;
      };
      headline = has_headline _ _ _ _ _ all.0.server represents;
    }
