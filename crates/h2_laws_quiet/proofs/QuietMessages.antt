-- At two quiet ends nothing waits, and all that was accepted has arrived.
use Rattle.std.proofs.Common.{◌≡◌, inl, inr, ℕ, ◌≤◌, true, false, List, [], ◌∷◌}
use Rattle.std.proofs.Common.{◌++◌, pos}
use Rattle.std.proofs.lemmas.Bool.Decides.{nat_tests}
use Rattle.std.proofs.lemmas.Int.{ints}
use Rattle.std.specs.Prelude.{int_lt}
use Rattle.std.proofs.Common.{length, Option, None, Some, refl, sym, ap, ◌∙◌, arith, append-nil}
use Rattle.std.proofs.Common.{append_assoc, length-append, subst}
use Rattle.std.proofs.lemmas.Bool.{both_ways}
use Rattle.std.specs.List.{list_any}
use Rattle.hpack.specs.declared.types.field.Field.{Field}
use Rattle.h2_spec_log.specs.declared.role.Role.{Role}
use Rattle.h2_spec_log.specs.declared.role.Role.TheVariants as roles
use Rattle.h2_spec_log.specs.Acts.{Values}
use Rattle.h2_spec_log.specs.Histories.{IsLog}
use Rattle.h2_spec_log.specs.Items.{ends}
use Rattle.h2_spec_log.specs.Log.{Log, active, granted}
use Rattle.h2_spec_log.specs.Settings.{is_server, value_read}
use Rattle.h2_spec_log.specs.Windows.{first_window}
use Rattle.h2_laws_end.proofs.ReceiveWindows.{active_unclosed}
use Rattle.h2_laws_pair.specs.Pairs.{Half, IsPair}
use Rattle.h2_laws_pair.specs.Quiet.{IsQuiet, CouldGo, IsStuck}
use Rattle.h2_laws_pair.specs.Tokens.{Token, FieldsToken, OctetToken, EndToken, Said}
use Rattle.h2_laws_pair.specs.Tokens.{tokens_sent, tokens_heard, tokens_written, IsPrefixOfTokens}
use Rattle.h2_laws_pair.proofs.BothWays.{IsDirection, to_server, to_client, ends_of}
use Rattle.h2_laws_pair.proofs.HeardPairs.{is_heard, given_in_order, server_hears, client_hears}
use Rattle.h2_laws_pair.proofs.HeardReads.{AreHeard, all_heard, some_heard}
use Rattle.h2_laws_pair.proofs.PairLogs.{both_logs}
use Rattle.h2_ends.specs.Ends.{EndLog, said_for, parts_on, tokens_given, tokens_said, tokens_out}
use Rattle.h2_ends.specs.Ends.{tokens_handed}
use Rattle.h2_ends.specs.EndCalls.{IsStuckOn}
use Rattle.h2_ends.specs.MessageTokens.{parts_heard, parts_said}
use Rattle.h2_ends.specs.Represents.{SendsInOrder}
use Rattle.h2_ends.proofs.EndOrder.{waiting_of}
use Rattle.h2_ends.proofs.MessageTokensSaid.{parts_whole}
use Rattle.h2_joined.specs.Joints.{JointEnd, Made, IsJoint, half_of}
use Rattle.h2_joined.specs.Headline.{AreQuiet}
use Rattle.h2_joined.proofs.JointActs.{joint_holds}
use Rattle.h2_joined.proofs.JointHolds.{JointHolds, AllHadMemory}
use Rattle.h2_joined.proofs.JointLaws.{server_has_all, client_has_all}
use Rattle.h2_joined.proofs.JointMemory.{had_memory, none_was_ended}
use Rattle.h2_joined.proofs.JointPlaces.{joint_places}
use Rattle.h2_laws_quiet.specs.Arrived.{HasArrived, WasSpared}
use Rattle.h2_laws_quiet.specs.OpenWindows.{HasOpenWindows}
use Rattle.h2_laws_quiet.proofs.QuietStreams.{AreLevel, are_level, server_active}
use Rattle.h2_laws_quiet.proofs.QuietStreams.{client_active}
use Rattle.h2_laws_quiet.proofs.QuietWindows.{client_open, server_open}
use Rattle.h2_laws_pair.proofs.HeardQuiet.{goes_on_by as goes_on}
use Rattle.h2_joined.proofs.JointLaws.{quiet_pair}
use Rattle.h2_joined.proofs.RunLaws.{quiet_had_memory}

-- The same of what was accepted for a stream, if anything was.
pub goes_on_by : (role : Role) (values : Values) (log : Log) (i : ℕ) (given : Option Said)
    (token : Token) (others : List Token) → IsLog role values log
    → tokens_given given ≡ tokens_sent i log.calls ++ token ∷ others
    → list_any (ends i) log.sent ≡ false
unfolding tokens_given
goes_on_by role values log i None token others is waits =
    absurd (not_nothing (tokens_sent i log.calls) waits)
  where
    not_nothing : (tokens : List Token) → [] ≡ tokens ++ token ∷ others → ⊥
    not_nothing [] wrong = cc
    not_nothing (first ∷ tokens) wrong = cc
goes_on_by role values log i (Some said) token others is waits =
    goes_on role values log i said token others is waits

-- Where all windows are open, each token could go on an active stream that wasn't ended.
above_none : (n : ℕ) → 1 ≤ n → int_lt (pos 0) (pos n) ≡ true
above_none n some = grind (arith, nat_tests, ints)

could_go : (log theirs : Log) (i : ℕ) (token : Token) → HasOpenWindows log theirs
    → active log i ≡ true
    → list_any (ends i) log.sent ≡ false → CouldGo log i token
could_go log theirs i (OctetToken octet) wide alive goes = (
  rw (wide.streams i alive goes) (above_none (value_read 4 first_window log.received) wide.some),
  rw wide.connection (above_none (granted theirs) (omega arith)),
)
could_go log theirs i (FieldsToken list end) wide alive goes = tt
could_go log theirs i EndToken wide alive goes = tt

-- So nothing waits on an active stream of a quiet end whose windows are all open.
nothing_by : (end : EndLog) (theirs : Log) (i : ℕ) (role : Role) (values : Values) (waiting : List Token)
    → IsLog role values end.log → HasOpenWindows end.log theirs → active end.log i ≡ true
    → tokens_said end i ≡ tokens_out end i ++ waiting → IsStuck end.log i waiting → waiting ≡ []
nothing_by end theirs i role values [] is wide alive prefix stuck = refl
nothing_by end theirs i role values (token ∷ others) is wide alive prefix stuck =
    absurd (stuck alive (could_go end.log theirs i token wide alive
    (goes_on_by role values end.log i (said_for i end.accepted) token others is prefix)))

nothing_waits : (end : EndLog) (theirs : Log) (i : ℕ) (role : Role) (values : Values)
    → IsLog role values end.log → HasOpenWindows end.log theirs → active end.log i ≡ true
    → (sends : SendsInOrder end i) → IsStuckOn end i → sends.waiting ≡ []
nothing_waits end theirs i role values is wide alive sends stuck =
    nothing_by end theirs i role values sends.waiting is wide alive sends.prefix
    (subst (λ (waiting : List Token). IsStuck end.log i waiting) (waiting_of end i sends) stuck)

-- Where nothing waits, all was sent.
all_out : (end : EndLog) (i : ℕ) (sends : SendsInOrder end i) → sends.waiting ≡ []
    → tokens_out end i ≡ tokens_said end i
all_out end i sends none =
    sym (sends.prefix ∙ ap (λ (more : List Token). tokens_out end i ++ more) none
    ∙ append-nil (tokens_out end i))

-- An end that has read all, and at which the stream is active, has heard all that was sent.
heard_all : (writer reader : Half) (i : ℕ) → IsDirection writer reader
    → reader.log.received ≡ writer.log.sent → active reader.log i ≡ true
    → tokens_heard i reader.log.reported ≡ tokens_sent i writer.log.calls
unfolding tokens_written
heard_all writer reader i is all alive =
    let heard = is_heard writer reader is in
    whole heard.lists (heard.heard i) ∙ sym (given_in_order i _ _ writer.log reader.log []
    (ends_of writer reader is).writer_log (sym all) heard ∙ append-nil _)
  where
    whole : (lists : List (List Field)) → AreHeard reader.log.role i reader.log.received
        reader.log.sent reader.log.reported lists
        → tokens_heard i reader.log.reported ≡ tokens_written i reader.log.received lists
    whole lists (all_heard same) = same
    whole lists (some_heard gone prefix) =
        absurd (both_ways _ (active_unclosed reader.log.role i reader.log.received reader.log.sent
        reader.log.reported alive) gone.closed)

-- A list that is the beginning of itself has nothing more.
none_more : (tokens more : List Token) → tokens ≡ tokens ++ more → more ≡ []
none_more tokens more same =
    empty more (omega (arith, ap length same, length-append tokens more))
  where
    empty : (line : List Token) → length line ≡ 0 → line ≡ []
    empty [] none = refl
    empty (token ∷ line) none = absurd (omega (arith, none))

-- Where all that was said was heard, and only what was sent was, all was sent.
none_left : (heard out said waiting : List Token) → heard ≡ said → IsPrefixOfTokens heard out
    → said ≡ out ++ waiting → waiting ≡ []
none_left heard out said waiting whole (rest, is) prefix =
    last_of rest waiting (none_more said (rest ++ waiting)
    (prefix ∙ ap (λ (line : List Token). line ++ waiting) is
    ∙ append_assoc heard rest waiting
    ∙ ap (λ (line : List Token). line ++ (rest ++ waiting)) whole))
  where
    last_of : (one other : List Token) → one ++ other ≡ [] → other ≡ []
    last_of [] other none = none
    last_of (token ∷ one) other none = cc

-- What is known of an end at which nothing waits on a stream.
arrived : (one other : EndLog) (i : ℕ) (sends : SendsInOrder one i) → sends.waiting ≡ []
    → parts_heard i other.handed ≡ parts_said (said_for i one.accepted) → HasArrived one other i
arrived one other i sends none parts = record {
  none_waits = waiting_of one i sends ∙ none;
  sent = all_out one i sends none;
  handed = parts;
}

module _ (client_values server_values : Values) (made : List Made) (client server : JointEnd)
    (i : ℕ) (joint : IsJoint client_values server_values made client server)
    (quiet : AreQuiet client server) where
  holds : JointHolds client_values server_values made client server
  holds = joint_holds client_values server_values made client server joint

  had : AllHadMemory made
  had = had_memory client_values server_values made client server joint
      (quiet_had_memory client server quiet) (none_was_ended client_values server_values made
      client
      server joint quiet.quiet_client.up quiet.quiet_server.up)

  -- the two ends as a pair
  abbrev client_half : Half
  client_half = half_of client holds.stays.lost

  abbrev server_half : Half
  server_half = half_of server holds.stays.other_lost

  pair : IsPair client_values server_values client_half server_half
  pair = holds.stays.pair.0

  is_quiet : IsQuiet client_half server_half
  is_quiet = quiet_pair client_values server_values made client server holds had quiet

  level : AreLevel client.happened.log server.happened.log
  level = are_level client_values server_values client_half server_half pair
      quiet.quiet_client.up quiet.quiet_server.up is_quiet

  -- Nothing waits at the client, and all was handed out at the server: on a stream that is active,
  client_active_none : active client.happened.log i ≡ true → (holds.order.sends i).waiting ≡ []
  client_active_none alive =
      nothing_waits client.happened server.happened.log i roles.Client client_values
      (both_logs client_values server_values client_half server_half pair).client_log
      (client_open client_values server_values client_half server_half pair quiet.quiet_client.up
      quiet.quiet_server.up is_quiet) alive (holds.order.sends i) (quiet.quiet_client.stuck i)

  server_active_all : active client.happened.log i ≡ true
      → tokens_handed server.happened i ≡ tokens_said client.happened i
  server_active_all alive =
      sym ((holds.stays.calm had).other_holds.heard i)
      ∙ heard_all client_half server_half i (to_server pair) level.to_server
      (server_active client.happened.log server.happened.log i level alive)
      ∙ all_out client.happened i (holds.order.sends i) (client_active_none alive)

  -- or that was not reset.
  client_spared_none : tokens_handed server.happened i ≡ tokens_said client.happened i
      → (holds.order.sends i).waiting ≡ []
  client_spared_none all =
      none_left (tokens_heard i server.happened.log.reported) (tokens_out client.happened i)
      (tokens_said client.happened i) (holds.order.sends i).waiting
      ((holds.stays.calm had).other_holds.heard i ∙ all)
      (server_hears client_values server_values client_half server_half i pair)
      (holds.order.sends i).prefix

  pub at_client : WasSpared made client client i → HasArrived client.happened server.happened i
  at_client spared =
      let all : tokens_handed server.happened i ≡ tokens_said client.happened i =
      elim spared [
        | inl alive ↦ server_active_all alive
        | inr unreset ↦ server_has_all client_values server_values made client server i holds had
            quiet unreset
      ] in
      let keeps = (joint_places client_values server_values made client server joint).1 in
      arrived client.happened server.happened i (holds.order.sends i) (client_spared_none all)
      (keeps.placed i ∙ parts_whole (is_server roles.Server) (parts_on i server.happened.handed)
      (said_for i client.happened.accepted) (λ said is. refl) all)

  -- So it is at the server.
  server_active_none : active server.happened.log i ≡ true
      → (holds.other_order.sends i).waiting ≡ []
  server_active_none alive =
      nothing_waits server.happened client.happened.log i roles.Server server_values
      (both_logs client_values server_values client_half server_half pair).server_log
      (server_open client_values server_values client_half server_half pair quiet.quiet_client.up
      quiet.quiet_server.up is_quiet) alive (holds.other_order.sends i)
      (quiet.quiet_server.stuck i)

  client_active_all : active server.happened.log i ≡ true
      → tokens_handed client.happened i ≡ tokens_said server.happened i
  client_active_all alive =
      sym ((holds.stays.calm had).holds.heard i)
      ∙ heard_all server_half client_half i (to_client pair) level.to_client
      (client_active client.happened.log server.happened.log i level alive)
      ∙ all_out server.happened i (holds.other_order.sends i) (server_active_none alive)

  server_spared_none : tokens_handed client.happened i ≡ tokens_said server.happened i
      → (holds.other_order.sends i).waiting ≡ []
  server_spared_none all =
      none_left (tokens_heard i client.happened.log.reported) (tokens_out server.happened i)
      (tokens_said server.happened i) (holds.other_order.sends i).waiting
      ((holds.stays.calm had).holds.heard i ∙ all)
      (client_hears client_values server_values client_half server_half i pair)
      (holds.other_order.sends i).prefix

  pub at_server : WasSpared made client server i → HasArrived server.happened client.happened i
  at_server spared =
      let all : tokens_handed client.happened i ≡ tokens_said server.happened i =
      elim spared [
        | inl alive ↦ client_active_all alive
        | inr unreset ↦ client_has_all client_values server_values made client server i holds had
            quiet unreset
      ] in
      let both = joint_places client_values server_values made client server joint in
      arrived server.happened client.happened i (holds.other_order.sends i)
      (server_spared_none all)
      (both.0.placed i ∙ parts_whole (is_server roles.Client) (parts_on i client.happened.handed)
      (said_for i server.happened.accepted) (both.1.final refl i) all)
