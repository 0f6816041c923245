-- What has happened at a server with its handler since its connection began: turns pass, it stays
-- a server, and of each stream of which a part was handed out something was heard.
use Rattle.h2_engines.proofs.Names
use Names.{◌≡◌, ◌≢◌, ◌≤◌, ℕ, Bool, List, [], ◌∷◌, ◌++◌, length, Some, None, inl, inr, ◌∙◌}
use Names.{arith, append-nil, refl, sym, subst, Event, Passed}
use Names.{Server, Log, EndLog, EndAnswer, EndTook, EndFailed}
use Names.{Handed, Part, FieldsPart, OctetsPart, IsReadable, Reads, parts_on, Values}
use Names.{part_on, phase_after_all, phase_after, new_end_log, opened, with_sent}
use Names.{TakeAnswer, handed_as, reads_on, Token}
use Rattle.std.proofs.lemmas.Bool.{cases_eq}
use Rattle.h2_message.specs.declared.reading.Phase.TheVariants.{AtHead}
use Rattle.h2_message.proofs.PhaseWhole.{not_readable}
use Rattle.h2_ends.specs.Ends.{tokens_of_parts, tokens_of_part}
use Rattle.h2_ends.proofs.EndParts.{handed_elsewhere, readable_here, tokens_with}
use Rattle.h2_engines.proofs.TakeMessages.{HandsAsRead, handed_after, hands_event, hands_part}
use Rattle.h2_engines.proofs.TakeMessages.{role_by_call, taken_role, taken_says, SaysOf}
use Rattle.h2_engines.proofs.TurnsPassed.{turns_of_answer, turns_of_call}
use Rattle.h2_server.specs.Exchanges.{Handling, Relations}
use Rattle.h2_server.specs.Steps.{Steps}
use Rattle.h2_serve.proofs.StepsKeep.{steps_keep}

-- Of each stream of which a part was handed out a token was.
abbrev pub AreHeard : List Handed → Type 0
AreHeard handed =
    (i : ℕ) → parts_on i handed ≢ [] → tokens_of_parts (parts_on i handed) ≢ []

-- No message that is read begins with octets,
octets_first : (reads : Reads) (octets : List ℕ) (last : Bool)
    → phase_after_all reads (Some AtHead) ((OctetsPart octets, last) ∷ []) ≡ None
unfolding phase_after_all phase_after
octets_first reads octets last = refl

-- so its first part has a token, and so have parts that begin with others that do.
front_some : (tokens more : List Token) → tokens ≢ [] → tokens ++ more ≢ []
front_some [] more some = absurd (some refl)
front_some (token ∷ tokens) more some = λ none. cc

heard_with : (reads : Reads) (before : List (Part × Bool)) (part : Part × Bool)
    → IsReadable reads (before ++ part ∷ [])
    → (before ≢ [] → tokens_of_parts before ≢ []) → tokens_of_parts (before ++ part ∷ []) ≢ []
unfolding tokens_of_parts tokens_of_part
heard_with reads [] (FieldsPart list, last) readable was = λ none. cc
heard_with reads [] (OctetsPart octets, last) readable was =
    absurd (not_readable reads ((OctetsPart octets, last) ∷ []) (octets_first reads octets last)
    readable)
heard_with reads (first ∷ before) part readable was =
    rw (tokens_with (first ∷ before) part)
    (front_some (tokens_of_parts (first ∷ before)) _ (was (λ none. cc)))

-- What is handed out as it was read keeps that.
parts_more : (i : ℕ) (one : Handed) (handed : List Handed)
    → parts_on i (one ∷ handed) ≡ parts_on i handed ++ part_on i one
unfolding parts_on
parts_more i one handed = refl

event_none : (event : Event) → (i : ℕ) → part_on i (Passed event) ≡ []
unfolding part_on
event_none event i = refl

heard_more : (i : ℕ) (one : Handed) (handed : List Handed) (more : List (Part × Bool))
    → part_on i one ≡ more → (parts_on i handed ++ more ≢ []
    → tokens_of_parts (parts_on i handed ++ more) ≢ []) → parts_on i (one ∷ handed) ≢ []
    → tokens_of_parts (parts_on i (one ∷ handed)) ≢ []
heard_more i one handed more is holds = rw (parts_more i one handed, is) holds

same_heard : (i : ℕ) (one : Handed) (handed : List Handed) → part_on i one ≡ []
    → AreHeard handed → parts_on i (one ∷ handed) ≢ []
    → tokens_of_parts (parts_on i (one ∷ handed)) ≢ []
same_heard i one handed none was =
    heard_more i one handed [] none (rw (append-nil (parts_on i handed)) (was i))

hands_heard : (end : EndLog) (one : Handed) → HandsAsRead end one → AreHeard end.handed
    → AreHeard (one ∷ end.handed)
hands_heard end _ (hands_event event) was i =
    same_heard i (Passed event) end.handed (event_none event i) was
hands_heard end _ (hands_part id part readable) was i =
    let reads = reads_on end id in
    let before = parts_on id end.handed in
    let one = handed_as reads before id part in
    elim (cases_eq i id) [
      | inl here ↦ subst (λ (j : ℕ). parts_on j (one ∷ end.handed) ≢ []
          → tokens_of_parts (parts_on j (one ∷ end.handed)) ≢ []) (sym here)
          (heard_more id one end.handed (part ∷ []) (readable_here reads before id part readable)
          (λ some. heard_with reads before part readable (was id)))
      | inr other ↦ same_heard i one end.handed
          (handed_elsewhere reads before i id part other) was
    ]

-- It is a server, of which that is so.
record IsServer (log : Log) (handed : List Handed) : Type 0 where
  pub role : log.role ≡ Server
  pub heard : AreHeard handed

heard_taken : (before : EndLog) (answer : EndAnswer) (handed : List Handed) (took : TakeAnswer)
    (log : Log) → handed ≡ handed_after answer before.handed → SaysOf before took answer log
    → AreHeard before.handed → AreHeard handed
heard_taken before (EndTook count (Some one)) handed took log same says was =
    rw same (hands_heard before one says.3 was)
heard_taken before (EndTook count None) handed took log same says was = rw same was
heard_taken before (EndFailed code) handed took log same says was = rw same was

-- Nothing was handed out at first.
new_heard : (values : Values) → IsServer (new_end_log Server values).log []
unfolding opened with_sent parts_on
new_heard values = record { role = refl; heard = λ i some. absurd (some refl) }

module _ {H W : Type 0} {rel : Relations H W} {loses : Bool} {used given : List ℕ} where
  -- No step of a server with its handler undoes a turn,
  pub steps_turns : {end after : EndLog} {old new : Handling H W}
      → Steps rel loses after new used given end old
      → length end.log.turns ≤ length after.log.turns
  steps_turns {end} {after} made =
      steps_keep (λ (log : Log) (handed : List Handed). length end.log.turns ≤ length log.turns)
      (λ log handed act answer puts so. omega (arith, so, turns_of_call log act answer))
      (λ before piece answer next may so. omega (arith, so, turns_of_answer may)) made
      (omega arith)

  -- and after those of a new one it is a server, and that is so.
  pub steps_heard : (values : Values) {after : EndLog} {old new : Handling H W}
      → Steps rel loses after new used given (new_end_log Server values) old
      → (after.log.role ≡ Server) × AreHeard after.handed
  steps_heard values {after} made =
      let is = steps_keep IsServer
      (λ log handed act answer puts was. record {
        role = role_by_call log act answer ∙ was.role;
        heard = was.heard;
      })
      (λ before piece answer next may was.
      let says = taken_says may in record {
        role = taken_role may ∙ was.role;
        heard = heard_taken before answer next.handed says.took next.log says.handed says.says
            was.heard;
      }) made (new_heard values) in
      (is.role, is.heard)
