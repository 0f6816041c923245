-- A pipe is empty once all that was on it was delivered.
use Rattle.std.proofs.Common.{◌≡◌, ℕ, ◌≤◌, List, [], ◌∷◌, length, Option, Some, None, refl}
use Rattle.std.proofs.Common.{sym, ap, ◌∙◌, subst, arith, map as each}
use Rattle.std.proofs.lemmas.List.{drop_all, length-append}
use Rattle.std.specs.List.{AllByRecursion}
use Rattle.h2_joined.proofs.Names.{Code}
use Rattle.h2_joined.specs.declared.act.Acted.{Acted}
use Rattle.h2_joined.specs.declared.act.Side.{Side}
use Rattle.h2_joined.specs.declared.act.Side.TheVariants.{Client, Server}
use Rattle.h2_joined.specs.declared.pipe.Pipe.{Pipe}
use Rattle.h2_joined.specs.Joints.{Delivers, Doing, IsNextAct, JointEnd, Made, MayDo}
use Rattle.h2_joined.specs.Joints as joints
use Rattle.h2_joined.specs.Kept.{HoldsOctets}
use Rattle.h2_joined.specs.Runs.{ActsLeadTo, GotMemory, act_made, leads_nowhere, leads_on}
use Rattle.h2_laws_quiet.specs.Rounds.{all_octets}
use Rattle.h2_settle.specs.RoundEndings.{FailedIs}

-- A pipe holds no more octets than a delivery of all is asked for.
pub few_on_pipe : (pipe : Pipe) (octets : List ℕ) → HoldsOctets pipe octets
    → length octets ≤ all_octets
few_on_pipe pipe octets holds =
    let all = ap length holds.items in
    let sum = length-append holds.delivered octets in
    omega (arith, all, sum, pipe.octets.ok.0)

-- From two ends these acts, the newest first, lead to two ends, and as each of them was made
-- neither pipe held more octets than that.
pub data LeadsWithin (first_client first_server : JointEnd) : (acts : List Made)
    → (client server : JointEnd) → Type 0 where
  within_none : LeadsWithin first_client first_server [] first_client first_server
  within_next : {acts : List Made} → {client server new_client new_server : JointEnd}
      → LeadsWithin first_client first_server acts client server
      → length client.incoming ≤ all_octets → length server.incoming ≤ all_octets
      → (act : Made) → IsNextAct client server act new_client new_server
      → LeadsWithin first_client first_server (act ∷ acts) new_client new_server

-- So they lead there.
pub leads_of : (first_client first_server client server : JointEnd) (acts : List Made)
    → LeadsWithin first_client first_server acts client server
    → ActsLeadTo first_client first_server acts client server
leads_of first_client first_server _ _ _ within_none = leads_nowhere
leads_of first_client first_server new_client new_server _
    (within_next {acts = acts} {client = client} {server = server} within few_client few_server act
    next) = leads_on (leads_of first_client first_server client server acts within) act next

-- The last of some acts, by what they are.
record LastWithin (first_client first_server new_client new_server : JointEnd) (side : Side)
    (doing : Doing) (others : List (Side × Doing)) : Type 0 where
  client : JointEnd
  server : JointEnd
  acts : List Made
  within : LeadsWithin first_client first_server acts client server
  few_client : length client.incoming ≤ all_octets
  few_server : length server.incoming ≤ all_octets
  act : Made
  next : IsNextAct client server act new_client new_server
  act_is : act_made act ≡ (side, doing)
  acts_are : each act_made acts ≡ others
  got : GotMemory act.acted
  all_got : AllByRecursion (λ made. GotMemory made.acted) acts

last_within : (first_client first_server new_client new_server : JointEnd) (acts : List Made)
    (side : Side) (doing : Doing) (others : List (Side × Doing))
    → LeadsWithin first_client first_server acts new_client new_server
    → each act_made acts ≡ (side, doing) ∷ others
    → AllByRecursion (λ made. GotMemory made.acted) acts
    → LastWithin first_client first_server new_client new_server side doing others
last_within first_client first_server _ _ _ side doing others within_none are got = absurd (cc)
last_within first_client first_server new_client new_server _ side doing others
    (within_next {acts = acts} {client = client} {server = server} within few_client few_server act
    next) are got = record {
      client = client;
      server = server;
      acts = acts;
      within = within;
      few_client = few_client;
      few_server = few_server;
      act = act;
      next = next;
      act_is = cc;
      acts_are = cc;
      got = got.0;
      all_got = got.1;
    }

-- What the act of a side is at its end.
at_client_does : (client server new_client new_server : JointEnd) (act : Made) (doing : Doing)
    → IsNextAct client server act new_client new_server → act_made act ≡ (Client, doing)
    → MayDo client server doing act.acted new_client new_server
at_client_does client server new_client new_server _ doing (joints.at_client did answer may) is =
    let same : did ≡ doing = ap (λ (both : Side × Doing). both.1) is in
    subst (λ (it : Doing). MayDo client server it answer new_client new_server) same may
at_client_does client server new_client new_server _ doing (joints.at_server did answer may) is =
    let same : Server ≡ Client = ap (λ (both : Side × Doing). both.0) is in absurd (cc)

at_server_does : (client server new_client new_server : JointEnd) (act : Made) (doing : Doing)
    → IsNextAct client server act new_client new_server → act_made act ≡ (Server, doing)
    → MayDo server client doing act.acted new_server new_client
at_server_does client server new_client new_server _ doing (joints.at_server did answer may) is =
    let same : did ≡ doing = ap (λ (both : Side × Doing). both.1) is in
    subst (λ (it : Doing). MayDo server client it answer new_server new_client) same may
at_server_does client server new_client new_server _ doing (joints.at_client did answer may) is =
    let same : Client ≡ Server = ap (λ (both : Side × Doing). both.0) is in absurd (cc)

-- A delivery of as many octets as are on the pipe, or more, to an end that is up after it empties
-- the pipe, and leaves the other end as it was.
emptied : (one other : JointEnd) (count : ℕ) (new new_other : JointEnd) (answer : Acted)
    → MayDo one other (Delivers count) answer new new_other → GotMemory answer
    → new.happened.log.failed ≡ None → length one.incoming ≤ count
    → (new.incoming ≡ []) × (new_other ≡ other)
emptied one other count _ _ _ (joints.delivers _ after was_up delivered) got up few =
    (drop_all count one.incoming few, refl)
emptied one other count _ _ _ (joints.delivery_fails _ code after was_up delivered) got up few =
    (drop_all count one.incoming few, refl)
emptied one other count _ _ _ (joints.has_failed _ code failed) got up few =
    let never : ◌≡◌ {A = Option Code} None (Some code) = sym up ∙ failed in absurd (cc)
emptied one other count _ _ _ (joints.delivery_stops _ unused after was_up delivered) got up few =
    absurd (got.act refl)

-- After acts of which the last two deliver all to the server and to the client both pipes are
-- empty, where both ends are up.
pub both_emptied : (first_client first_server client server : JointEnd) (acts : List Made)
    (others : List (Side × Doing)) → LeadsWithin first_client first_server acts client server
    → each act_made acts
    ≡ (Client, Delivers all_octets) ∷ (Server, Delivers all_octets) ∷ others
    → AllByRecursion (λ made. GotMemory made.acted) acts → FailedIs None client server
    → (client.incoming ≡ []) × (server.incoming ≡ [])
both_emptied first_client first_server client server acts others within are got up =
    let last = last_within first_client first_server client server acts Client
    (Delivers all_octets) ((Server, Delivers all_octets) ∷ others) within are got in
    let preceding = last_within first_client first_server last.client last.server last.acts Server
    (Delivers all_octets) others last.within last.acts_are last.all_got in
    let to_client = emptied last.client last.server all_octets client server last.act.acted
    (at_client_does last.client last.server client server last.act (Delivers all_octets)
    last.next last.act_is) last.got up.0 last.few_client in
    let server_up : last.server.happened.log.failed ≡ None =
    ap (λ (end : JointEnd). end.happened.log.failed) (sym to_client.1) ∙ up.1 in
    let to_server = emptied preceding.server preceding.client all_octets last.server last.client
    preceding.act.acted (at_server_does preceding.client preceding.server last.client last.server
    preceding.act (Delivers all_octets) preceding.next preceding.act_is) preceding.got server_up
    preceding.few_server in
    (to_client.0, ap (λ (end : JointEnd). end.incoming) to_client.1 ∙ to_server.0)
