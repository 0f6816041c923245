-- Whatever acts were made, what was handed out at each of two joined ends is what its place says,
-- and what the server has accepted has a final head.
use Rattle.h2_message.specs.declared.malformed.Malformed.{Malformed}
use Rattle.h2_joined.proofs.Names
use Names.{◌⊎◌, Refuse, PutOut, EndLog, Handed, Passed, Acted, Doing, Whole, opened, Failed, passes}
use Names.{inl, inr, ◌∷◌, Err, sym, ap, ◌∙◌, Log, ◌≡◌, List, Some, None, ◌==◌, true, ◌++◌, refl}
use Names.{Role, Took, Part, Made, Fails, Stops, MayDo, Bool, false, fails, if◌then◌else◌, []}
use Names.{IsReadableWith, end_with_handed, runs_out_of_memory, handed_elsewhere, Result, Values}
use Names.{Event, JointEnd, Delivery, IsJoint, part_on, parts_on, reads_on, refuses, Ok}
use Names.{FieldsEvent, end_with_log, hands_nothing, refusal_fails, MessageToken, readable_here}
use Names.{subst, ResetEvent, with_call, grows_call, EndRefusal, EndMayTake, MayAsk, MayReply}
use Names.{append-nil, cases_Bool, Said, Act, Answer, Option, Malformed, Field, IsTypedAct}
use Names.{SendFields, MaySendBody, MaySendTrailers, new_end_log, IsDelivered, said_for}
use Names.{parts_heard}
use Names.{cases_eq, is_server, Responses, EndAnswer, handed_as, hands_out, IsNextAct, with_sent, ℕ}
use Rattle.h2_ends.specs.MessageTokens.{parts_heard_in}
use Rattle.h2_laws_end.proofs.OverNumbers.{open_answer}
use Rattle.h2_message.specs.declared.reading.Reads.TheVariants.{Requests}
use Rattle.h2_message.proofs.PhaseWhole.{not_readable}
use Rattle.h2_laws_pair.proofs.StepUnprocessed.{role_by_take as take_role}
use Rattle.h2_ends.proofs.EndParts.{has_phase}
use Rattle.h2_ends.proofs.MessageTokensPlaced.{place_where, begun_after, placed_part, parts_placed}
use Rattle.h2_ends.proofs.MessageTokensPlaced.{placed_more, reads_requests, heard_here}
use Rattle.h2_ends.proofs.MessageTokensPlaced.{heard_elsewhere}
use Rattle.h2_ends.proofs.MessageTokensSaid.{response_final, head_final}
use Rattle.h2_spec_log.specs.Acts.{SendData}
use Rattle.h2_laws_pair.specs.Tokens.{at_once}
use Rattle.h2_ends.specs.Ends.{replaced}
use Rattle.h2_ends.specs.EndCalls.{answer_reads, begun, end_with_more}
use Rattle.h2_ends.proofs.PartSends.{one_said, replaced_here, replaced_elsewhere}
use Rattle.h2_joined.proofs.JointChains.{KeptByCalls, KeptByTurn, holds_by_pump}
use Rattle.h2_joined.proofs.JointChains.{holds_by_pump_some, holds_by_release}
use Rattle.h2_joined.proofs.JointChains.{holds_by_refused_ask, holds_by_refused_reply}
use Rattle.h2_joined.proofs.JointChains.{holds_by_refused_body, holds_by_refused_trailers}
use Rattle.h2_joined.proofs.HoldsSides.{one_role}
use Rattle.h2_spec_log.specs.declared.role.Role.TheVariants as roles
use Rattle.h2_message.specs.declared.reading.Place.TheVariants as places
use Rattle.h2_joined.specs.Joints as joints

-- What was handed out at an end on each stream is what its place says, and where it is a server
-- what it has accepted has a final head.
pub record KeepsPlaces (role : Role) (end : EndLog) : Type 0 where
  pub role_is : end.log.role ≡ role
  pub placed : (i : ℕ) → parts_heard i end.handed
      ≡ parts_placed false (is_server role) (parts_on i end.handed)
  pub final : role ≡ roles.Server → (i : ℕ) (said : Said) → said_for i end.accepted ≡ Some said
      → place_where false false said.message.head ≡ places.Head

module _ (server : Bool) (before : List Handed) where
  -- Of the stream either nothing is handed out, or a part that is what its place says.
  abbrev IsPlaced : ℕ → Handed → Type 0
  IsPlaced i handed = ((part_on i handed ≡ []) × (parts_heard_in i handed ≡ []))
      ⊎ ((part : Part × Bool) × (part_on i handed ≡ part ∷ [])
      × (parts_heard_in i handed
      ≡ placed_part (begun_after false server (parts_on i before)) server part))

  -- So all parts are, with what is handed out.
  placed_with : (i : ℕ) (handed : Handed) → IsPlaced i handed
      → parts_heard i before ≡ parts_placed false server (parts_on i before)
      → parts_heard i (handed ∷ before) ≡ parts_placed false server (parts_on i (handed ∷ before))
  unfolding parts_heard parts_on
  placed_with i handed (inl none) is = rw (none.0, none.1) (append-nil (parts_heard i before) ∙ is
      ∙ ap (parts_placed false server) (sym (append-nil (parts_on i before))))
  placed_with i handed (inr one) is = rw (one.1, one.2) (ap (λ (tokens : List MessageToken). tokens
      ++ placed_part (begun_after false server (parts_on i before)) server one.0) is
      ∙ sym (placed_more false server (parts_on i before) one.0))

-- Where the connection goes on, and nothing is handed out, it stays so,
places_with_log : (role : Role) (end : EndLog) (log : Log) → log.role ≡ end.log.role
    → KeepsPlaces role end → KeepsPlaces role (end_with_log end log)
places_with_log role end log same keeps =
    record { role_is = same ∙ keeps.role_is; placed = keeps.placed; final = keeps.final }

places_turned : (role : Role) → KeptByTurn (KeepsPlaces role)
places_turned role end turn keeps =
    record { role_is = keeps.role_is; placed = keeps.placed; final = keeps.final }

-- whatever part was refused last,
places_named : (role : Role) (end : EndLog) (last : Option (ℕ × Malformed)) → KeepsPlaces role end
    → KeepsPlaces role (record end { malformed = last })
places_named role end last keeps =
    record { role_is = keeps.role_is; placed = keeps.placed; final = keeps.final }

-- and where something is.
places_with : (role : Role) (end : EndLog) (log : Log) (handed : Handed)
    → log.role ≡ end.log.role → ((i : ℕ) → IsPlaced (is_server role) end.handed i handed)
    → KeepsPlaces role end → KeepsPlaces role (end_with_handed end log handed)
places_with role end log handed same is keeps =
    record {
      role_is = same ∙ keeps.role_is;
      placed = λ i. placed_with (is_server role) end.handed i handed (is i) (keeps.placed i);
      final = keeps.final;
    }

-- What is passed on is no part of a message.
passed_placed : (server : Bool) (before : List Handed) (event : Event) (i : ℕ)
    → IsPlaced server before i (Passed event)
unfolding part_on parts_heard_in
passed_placed server before event i = inl (refl, refl)

-- A server reads requests, and a client none.
requests_by : (server to_head : Bool)
    → reads_requests (if server then Requests else Responses to_head) ≡ server
requests_by true to_head = refl
requests_by false to_head = refl

requests_read : (role : Role) (end : EndLog) (i : ℕ) → end.log.role ≡ role
    → reads_requests (reads_on end i) ≡ is_server role
unfolding reads_on
requests_read role end i same = requests_by _ _ ∙ ap is_server same

-- A part that can be read is handed out on its stream, as what its place says.
part_placed : (role : Role) (end : EndLog) (id : ℕ) (part : Part × Bool)
    → end.log.role ≡ role → IsReadableWith end id part → (i : ℕ)
    → IsPlaced (is_server role) end.handed i
    (handed_as (reads_on end id) (parts_on id end.handed) id part)
part_placed role end id part same readable i =
    let reads = reads_on end id in
    let parts = parts_on id end.handed in
    let taken = has_phase _ (λ none. not_readable reads (parts ++ part ∷ []) none readable) in
    let here = readable_here reads parts id part readable in
    elim (cases_eq i id) [
      | inl is ↦ rw is (inr (
        part,
        here,
        subst (λ (server : Bool). parts_heard_in id (handed_as reads parts id part)
            ≡ placed_part (begun_after false server parts) server part)
            (requests_read role end id same) (heard_here reads parts id part taken.0 taken.1 here),
      ))
      | inr other ↦ inl (
        handed_elsewhere reads parts i id part other,
        heard_elsewhere reads parts i id part other,
      )
    ]

-- A call leaves the role.
call_places : (role : Role) → KeptByCalls (KeepsPlaces role)
call_places role end act answer keeps ordinary typed may next =
    places_with_log role end (with_call end.log act answer) (grows_call end.log act answer).role
    keeps

module _ (role : Role) (end after : EndLog) (piece : List ℕ) (answer : EndAnswer) where
  -- So does any call of `take`.
  take_places : EndMayTake end piece answer after → KeepsPlaces role end → KeepsPlaces role after
  take_places (fails code log may answers same) keeps = subst (KeepsPlaces role) (sym same)
      (places_with_log role end log (take_role end.log log piece (Failed code) may) keeps)
  take_places (hands_nothing count log may answers same) keeps = subst (KeepsPlaces role) (sym same)
      (places_with_log role end log (take_role end.log log piece (Took count None) may) keeps)
  take_places (passes count event log may unread answers same) keeps =
      subst (KeepsPlaces role) (sym same) (places_with role end log (Passed event)
      (take_role end.log log piece (Took count (Some event)) may)
      (passed_placed (is_server role) end.handed event) keeps)
  take_places (hands_out count event log may id part of readable answers same) keeps =
      subst (KeepsPlaces role) (sym same) (places_with role end log _
      (take_role end.log log piece (Took count (Some event)) may)
      (part_placed role end id part keeps.role_is readable) keeps)
  take_places (refuses count event log may id part of stops refused answers_it up answers same)
      keeps = subst (KeepsPlaces role) (sym same) (places_named role _ _
      (places_with role end (with_call log (Refuse id 1) refused) (Passed (ResetEvent id 1 true))
      ((grows_call log (Refuse id 1) refused).role
      ∙ take_role end.log log piece (Took count (Some event)) may)
      (passed_placed (is_server role) end.handed (ResetEvent id 1 true)) keeps))
  take_places
      (refusal_fails count event log may id part of stops refused answers_it code down answers same)
      keeps = subst (KeepsPlaces role) (sym same) (places_named role _ _
      (places_with_log role end (with_call log (Refuse id 1) refused)
      ((grows_call log (Refuse id 1) refused).role
      ∙ take_role end.log log piece (Took count (Some event)) may) keeps))
  take_places
      (runs_out_of_memory count id list ends log may server first readable refused answers_it
      answers same) keeps = subst (KeepsPlaces role) (sym same)
      (places_with_log role end (with_call log (Refuse id 2) refused)
      ((grows_call log (Refuse id 2) refused).role
      ∙ take_role end.log log piece (Took count (Some (FieldsEvent id list ends))) may) keeps)

-- So it stays so where octets are delivered.
delivery_places : (role : Role) (calls : ℕ) (end after : EndLog) (octets : List ℕ)
    (delivery : Delivery) → IsDelivered calls end octets delivery after → KeepsPlaces role end
    → KeepsPlaces role after
delivery_places role _ end after _ _ (joints.is_whole calls octets few may) keeps =
    take_places role end after octets _ may keeps
delivery_places role _ end after _ _
    (joints.goes_on {between = between} calls octets count handed delivery few may more delivered)
    keeps =
    delivery_places _ _ between _ _ _ delivered (take_places role end between octets _ may keeps)
delivery_places role _ end after _ _ (joints.fails calls octets code few may) keeps =
    take_places role end after octets _ may keeps
delivery_places role _ end _ _ _ (joints.stops calls octets) keeps = keeps

-- A request is accepted only at a client,
ask_places : (role : Role) (broken : Option Malformed) (end after : EndLog) (said : Said)
    (result : Result ℕ EndRefusal) → MayAsk broken end said result after → KeepsPlaces role end
    → KeepsPlaces role after
unfolding MayAsk
ask_places role broken end after said (Ok id) (unbroken, fits, may, same) keeps =
    subst (KeepsPlaces role) (sym same) (record {
      role_is = (grows_call end.log _ _).role ∙ keeps.role_is;
      placed = keeps.placed;
      final = λ server i one is. absurd (one_role role
          (sym keeps.role_is ∙ (open_answer _ _ _ id may).0) server);
    })
ask_places role broken end after said (Err refusal) may keeps =
    holds_by_refused_ask _ (call_places role) _ _ _ said refusal may keeps

-- and a response has a final head.
final_with : (id : ℕ) (said : Said) (accepted : List (ℕ × Said))
    → place_where false false said.message.head ≡ places.Head
    → ((i : ℕ) (one : Said) → said_for i accepted ≡ Some one
    → place_where false false one.message.head ≡ places.Head)
    → (i : ℕ) (one : Said) → said_for i ((id, said) ∷ accepted) ≡ Some one
    → place_where false false one.message.head ≡ places.Head
unfolding said_for
final_with id said accepted final all i one is = elim (cases_Bool (id == i)) [
  | inl here ↦
      let same : said ≡ one = let given = rw here at is in cc in
      subst (λ (any : Said). place_where false false any.message.head ≡ places.Head) same final
  | inr other ↦ all i one (rw other at is)
]

reply_places : (role : Role) (broken : Option Malformed) (end after : EndLog) (id : ℕ)
    (said : Said) (result : Result (Unit {0}) EndRefusal)
    → (broken ≡ None → place_where false false said.message.head ≡ places.Head)
    → MayReply broken end id said result after → KeepsPlaces role end → KeepsPlaces role after
unfolding MayReply
reply_places role broken end after id said (Ok done) final (asked, none, well, fits, may, same)
    keeps =
    subst (KeepsPlaces role) (sym same) (record {
      role_is = (grows_call end.log _ _).role ∙ keeps.role_is;
      placed = keeps.placed;
      final = λ server. final_with id said end.accepted (final well) (keeps.final server);
    })
reply_places role broken end after id said (Err refusal) final may keeps =
    holds_by_refused_reply _ (call_places role) _ _ _ _ said refusal may keeps

-- A part more leaves the head.
more_places : (role : Role) (end : EndLog) (act : Act) (answer : Answer) (id : ℕ)
    (said more : Said) → said_for id end.accepted ≡ Some said
    → more.message.head ≡ said.message.head → KeepsPlaces role end
    → KeepsPlaces role (end_with_more end act answer id more)
more_places role end act answer id said more was head keeps =
    record {
      role_is = (grows_call end.log act answer).role ∙ keeps.role_is;
      placed = keeps.placed;
      final = λ server i one is. elim (cases_eq i id) [
        | inl here ↦
            let same = one_said _ more one (replaced_here id more said end.accepted was)
            (subst (λ (j : ℕ). said_for j (replaced id more end.accepted) ≡ Some one) here is) in
            ap (λ (any : Said). place_where false false any.message.head) (sym same)
            ∙ ap (place_where false false) head ∙ keeps.final server id said was
        | inr other ↦ keeps.final server i one
            (sym (replaced_elsewhere i id more end.accepted other) ∙ is)
      ];
    }

body_places : (role : Role) (end after : EndLog) (id : ℕ) (octets : List ℕ) (ends : Bool)
    (result : Result ℕ EndRefusal) → IsTypedAct (SendData id octets ends)
    → MaySendBody end id octets ends result after → KeepsPlaces role end → KeepsPlaces role after
unfolding MaySendBody
body_places role end after id octets ends (Ok count) typed (said, number, is, fits, may, same)
    keeps = subst (KeepsPlaces role) (sym same)
    (more_places role end _ _ id said _ is.accepted refl keeps)
body_places role end after id octets ends (Err refusal) typed may keeps =
    holds_by_refused_body _ (call_places role) _ _ _ _ _ refusal typed may keeps

trailers_places : (role : Role) (end after : EndLog) (id : ℕ) (list : List Field)
    (result : Result (Unit {0}) EndRefusal) → IsTypedAct (SendFields id list true)
    → MaySendTrailers end id list result after → KeepsPlaces role end → KeepsPlaces role after
unfolding MaySendTrailers
trailers_places role end after id list (Ok done) typed (said, number, is, fits, may, same) keeps =
    subst (KeepsPlaces role) (sym same)
    (more_places role end _ _ id said _ is.accepted refl keeps)
trailers_places role end after id list (Err refusal) typed may keeps =
    holds_by_refused_trailers _ (call_places role) _ _ _ _ refusal typed may keeps

-- So it stays with each act, at both ends.
act_places : (role peer : Role) (one other new_one new_other : JointEnd) (doing : Doing)
    (answer : Acted) → MayDo one other doing answer new_one new_other
    → KeepsPlaces role one.happened → KeepsPlaces peer other.happened
    → KeepsPlaces role new_one.happened × KeepsPlaces peer new_other.happened
act_places role peer one other _ _ _ _ (joints.requests message result after typed may) keeps
    there = (ask_places role _ one.happened after (at_once message) result may keeps, there)
act_places role peer one other _ _ _ _ (joints.responds id message result after small typed may)
    keeps there = (
      reply_places role _ one.happened after id (at_once message) result
          (response_final _ message) may keeps,
      there,
    )
act_places role peer one other _ _ _ _ (joints.begins_request head result after typed may) keeps
    there = (ask_places role _ one.happened after (begun Requests head) result may keeps, there)
act_places role peer one other _ _ _ _ (joints.begins_answer id head result after small typed may)
    keeps there = (
      reply_places role _ one.happened after id (begun (answer_reads one.happened id) head) result
          (head_final _ head) may keeps,
      there,
    )
act_places role peer one other _ _ _ _ (joints.sends_body id octets ends result after typed may)
    keeps there = (body_places role one.happened after id octets ends result typed may keeps, there)
act_places role peer one other _ _ _ _ (joints.sends_trailers id list result after typed may) keeps
    there = (trailers_places role one.happened after id list result typed may keeps, there)
act_places role peer one other _ _ _ _ (joints.pumps result after may) keeps there = (
  holds_by_pump (KeepsPlaces role) (call_places role) one.happened after result may keeps,
  there,
)
act_places role peer one other _ _ _ _ (joints.pumps_some most result after may) keeps there = (
  holds_by_pump_some (KeepsPlaces role) (call_places role) (places_turned role) most one.happened
      after result may keeps,
  there,
)
act_places role peer one other _ _ _ _ (joints.releases_all result after may) keeps there = (
  holds_by_release (KeepsPlaces role) (call_places role) one.happened after result may keeps,
  there,
)
act_places role peer one other _ _ _ _ (joints.calls act answer call typed may) keeps there = (
  places_with_log role one.happened (with_call one.happened.log act answer)
      (grows_call one.happened.log act answer).role keeps,
  there,
)
act_places role peer one other _ _ _ _ (joints.moves count answer typed may) keeps there = (
  places_with_log role one.happened (with_call one.happened.log (PutOut count) answer)
      (grows_call one.happened.log (PutOut count) answer).role keeps,
  there,
)
act_places role peer one other _ _ _ _ (joints.delivers count after up delivered) keeps there =
    (delivery_places role 0 one.happened after _ Whole delivered keeps, there)
act_places role peer one other _ _ _ _ (joints.delivery_fails count code after up delivered) keeps
    there = (delivery_places role 0 one.happened after _ (Fails code) delivered keeps, there)
act_places role peer one other _ _ _ _ (joints.has_failed count code failed) keeps there =
    (keeps, there)
act_places role peer one other _ _ _ _ (joints.delivery_stops count unused after up delivered)
    keeps there = (delivery_places _ 0 _ after _ (Stops unused) delivered keeps, there)
act_places role peer one other _ _ _ _ (joints.no_copy_of_a_request message) keeps there =
    (keeps, there)
act_places role peer one other _ _ _ _ (joints.no_copy_of_a_response id message) keeps there =
    (keeps, there)
act_places role peer one other _ _ _ _ (joints.no_copy_of_a_head head) keeps there = (keeps, there)
act_places role peer one other _ _ _ _ (joints.no_copy_of_an_answer id head) keeps there =
    (keeps, there)
act_places role peer one other _ _ _ _ (joints.no_copy_of_octets id octets ends) keeps there =
    (keeps, there)
act_places role peer one other _ _ _ _ (joints.no_copy_of_trailers id list) keeps there =
    (keeps, there)

-- At a new end nothing was handed out or accepted.
new_places : (role : Role) (values : Values) → KeepsPlaces role (new_end_log role values)
unfolding opened with_sent parts_heard parts_on parts_placed said_for
new_places role values =
    record { role_is = refl; placed = λ i. refl; final = λ server i said is. absurd (cc) }

-- So it is at both ends, whatever acts were made.
next_places : (client server new_client new_server : JointEnd) (act : Made)
    → IsNextAct client server act new_client new_server
    → KeepsPlaces roles.Client client.happened × KeepsPlaces roles.Server server.happened
    → KeepsPlaces roles.Client new_client.happened × KeepsPlaces roles.Server new_server.happened
next_places client server new_client new_server _ (joints.at_client doing answer may) both =
    act_places roles.Client roles.Server _ _ _ new_server doing answer may both.0 both.1
next_places client server new_client new_server _ (joints.at_server doing answer may) both =
    let after = act_places roles.Server roles.Client server client new_server new_client doing
    answer may both.1 both.0 in (after.1, after.0)

pub joint_places : (client_values server_values : Values) (made : List Made)
    (client server : JointEnd) → IsJoint client_values server_values made client server
    → KeepsPlaces roles.Client client.happened × KeepsPlaces roles.Server server.happened
joint_places client_values server_values _ _ _ (joints.begins client_range server_range) =
    (new_places roles.Client client_values, new_places roles.Server server_values)
joint_places client_values server_values _ new_client new_server
    (joints.continues {history = made} {client = client} {server = server} is act next) =
    next_places _ _ _ _ act next (joint_places client_values server_values made client server is)
