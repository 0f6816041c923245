-- No token of a host is given twice.
use Rattle.std.specs.Prelude.{◌≡◌, ◌≢◌, ◌⊎◌, ℕ, List, [], ◌∷◌, Bool}
use Rattle.std.specs.List.{AllByRecursion}
use Rattle.std.proofs.Common.{refl, sym, ap, subst, arith, inl, inr, ◌∙◌}
use Rattle.std.proofs.lemmas.Bool.{cases_eq}
use Rattle.h2_host.specs.declared.host.Made.{Made}
use Rattle.h2_host.specs.declared.host.Reply.{Reply}
use Rattle.h2_host.specs.declared.host.Reply.TheVariants as replies
use Rattle.h2_host.specs.declared.host.Step.{Step}
use Rattle.h2_host.specs.declared.host.Step.TheVariants as host_steps
use Rattle.h2_host.specs.declared.party.Answer.{Answer}
use Rattle.h2_host.specs.declared.party.Own.{Own}
use Rattle.h2_host.specs.declared.state.HostState.{HostState}
use Rattle.h2_host.specs.declared.table.Slot.{Slot}
use Rattle.h2_host.specs.declared.token.Token.{Token}
use Rattle.h2_host.specs.Isolation.{HappensAt, nothing, moved, opened, left, noted, IsSameOfParties}
use Rattle.h2_host.specs.Isolation.{KeepsOtherPlaces, LeavesPlace, MoveOf, Move, OpensPlace}
use Rattle.h2_host.specs.Isolation.{StepsOne}
use Rattle.h2_host.specs.Runs.{AreNew, RunsWhile, none_made, one_made, tokens_opened}
use Rattle.h2_host.specs.Steps.{AnswersStep, slots_of}
use Rattle.h2_host.specs.Tokens.{IsNow, WasGiven, slot_at}
use Rattle.h2_host.proofs.Places.{one_slot}
use Rattle.h2_host.proofs.RunsApart.{answers_happen}

module _ {P : Type 0} where
  -- What was given of a place that is kept was given still.
  given_kept : (old new : List (Slot P)) (place : ℕ) (token : Token)
      → KeepsOtherPlaces old new place
      → token.place ≢ place → WasGiven old token → WasGiven new token
  given_kept old new place token keeps differs given =
      let same = keeps token.place differs in
      record {
        slot = given.slot;
        at = same ∙ given.at;
        before = elim given.before [
          | inl less ↦ inl less
          | inr now ↦ inr (
            now.0,
            record {
              slot = now.1.slot;
              at = same ∙ now.1.at;
              generation = now.1.generation;
              taken = now.1.taken;
            },
          )
        ];
      }

  -- What was given of a place whose connection has made a step.
  given_stepped : (steps : P → Own → List ℕ → Answer → P → Type 0) (old new : List (Slot P))
      (moving token : Token) (move : Move) → StepsOne steps old new moving move
      → WasGiven old token → WasGiven new token
  given_stepped steps old new moving token move one given =
      elim (cases_eq token.place moving.place) [
        | inl same ↦
            let was = one_slot old token.place given.slot one.at.slot given.at
            (ap (slot_at old) same ∙ one.at.at) in
            let generation = ap (λ (s : Slot _). s.generation) was
            ∙ one.at.generation ∙ sym one.is.generation in
            record {
              slot = one.is.slot;
              at = ap (slot_at new) same ∙ one.is.at;
              before = elim given.before [
                | inl less ↦ inl (omega (arith, less, generation))
                | inr now ↦
                    let there = one_slot old token.place now.1.slot given.slot now.1.at given.at in
                    inr (
                      one.after,
                      record {
                        slot = one.is.slot;
                        at = ap (slot_at new) same ∙ one.is.at;
                        generation = sym generation
                            ∙ (sym (ap (λ (s : Slot _). s.generation) there)
                            ∙ now.1.generation);
                        taken = one.is.taken;
                      },
                    )
              ];
            }
        | inr differs ↦ given_kept old new moving.place token one.others differs given
      ]

  -- What was given of a place that a connection gets.
  given_opened : (old new : List (Slot P)) (opening token : Token) (party : P)
      → OpensPlace old new opening party → WasGiven old token → WasGiven new token
  given_opened old new opening token party one given =
      elim (cases_eq token.place opening.place) [
        | inl same ↦
            let generation =
            one.generation given.slot (ap (slot_at old) (sym same) ∙ given.at)
            ∙ sym one.is.generation in
            record {
              slot = one.is.slot;
              at = ap (slot_at new) same ∙ one.is.at;
              before = elim given.before [
                | inl less ↦ inl (omega (arith, less, generation))
                | inr now ↦ absurd (one.free now.0 token.generation (record {
                  slot = now.1.slot;
                  at = ap (slot_at old) (sym same) ∙ now.1.at;
                  generation = now.1.generation;
                  taken = now.1.taken;
                }))
              ];
            }
        | inr differs ↦ given_kept old new opening.place token one.others differs given
      ]

  -- What was given of a place that a connection leaves.
  given_left : (old new : List (Slot P)) (leaving token : Token) → LeavesPlace old new leaving
      → WasGiven old token → WasGiven new token
  given_left old new leaving token one given =
      elim (cases_eq token.place leaving.place) [
        | inl same ↦
            let was = one_slot old token.place given.slot one.at.slot given.at
            (ap (slot_at old) same ∙ one.at.at) in
            let generation = ap (λ (s : Slot _). s.generation) was ∙ one.at.generation in
            let older = one.older in
            record {
              slot = one.slot;
              at = ap (slot_at new) same ∙ one.is;
              before = elim given.before [
                | inl less ↦ inl (omega (arith, less, generation, older))
                | inr now ↦
                    let there = ap (λ (s : Slot _). s.generation)
                    (one_slot old token.place now.1.slot given.slot now.1.at given.at) in
                    let is = now.1.generation in
                    inl (omega (arith, there, is, generation, older))
              ];
            }
        | inr differs ↦ given_kept old new leaving.place token one.others differs given
      ]

  -- What was given where nothing but notes has changed.
  given_noted : (old new : List (Slot P)) (token : Token) → IsSameOfParties old new
      → WasGiven old token → WasGiven new token
  given_noted old new token same given =
      let there = same token.place given.slot given.at in
      let generation = there.2 in
      record {
        slot = there.0;
        at = there.1;
        before = elim given.before [
          | inl less ↦ inl (omega (arith, less, generation))
          | inr now ↦
              let here = same token.place now.1.slot now.1.at in
              inr (
                now.0,
                record {
                  slot = here.0;
                  at = here.1;
                  generation = here.2 ∙ now.1.generation;
                  taken = here.3 ∙ now.1.taken;
                },
              )
        ];
      }

  -- Whatever happens, a token that was given stays so.
  pub given_stays : (steps : P → Own → List ℕ → Answer → P → Type 0) (new old : List (Slot P))
      (moves : List MoveOf) → HappensAt steps new old moves → (token : Token) → WasGiven old token
      → WasGiven new token
  given_stays steps new old moves nothing token given = given
  given_stays steps new old moves (moved start next others moving move one rest) token given =
      given_stays steps new next others rest token
      (given_stepped steps old next moving token move one given)
  given_stays steps new old moves (opened start next others opening party one rest) token given =
      given_stays steps new next others rest token
      (given_opened old next opening token party one given)
  given_stays steps new old moves (left start next others leaving one rest) token given =
      given_stays steps new next others rest token (given_left old next leaving token one given)
  given_stays steps new old moves (noted start next others same rest) token given =
      given_stays steps new next others rest token (given_noted old next token same given)

  -- A token of now was given.
  pub now_given : (slots : List (Slot P)) (token : Token) → IsNow slots token
      → WasGiven slots token
  now_given slots token now =
      record { slot = now.1.slot; at = now.1.at; before = inr now }

  -- Tokens that are new to a later host are new to an earlier one.
  new_earlier : (old new : HostState P) (tokens : List Token)
      → ((token : Token) → WasGiven (slots_of old) token → WasGiven (slots_of new) token)
      → AreNew new tokens → AreNew old tokens
  unfolding AreNew
  new_earlier old new [] stays are = tt
  new_earlier old new (token ∷ tokens) stays are = (
    (λ given. are.0 (stays token given)),
    are.1,
    new_earlier old new tokens stays are.2,
  )

  -- A token that was given is none of those that are new.
  others_than : (host : HostState P) (tokens : List Token) (token : Token) → AreNew host tokens
      → WasGiven (slots_of host) token → AllByRecursion (λ later. later ≢ token) tokens
  unfolding AreNew
  others_than host [] token are given = tt
  others_than host (later ∷ tokens) token are given = (
    (λ same. are.0 (subst (WasGiven (slots_of host)) (sym same) given)),
    others_than host tokens token are.2 given,
  )

-- A step gives no token; or one that was not given before, and is then.
abbrev pub GivesNew : {P : Type 0} → (old new : HostState P) → Reply P → List (Reply P) → Type 0
GivesNew old new reply rest =
    (tokens_opened (reply ∷ rest) ≡ tokens_opened rest)
    ⊎ ((token : Token) × (tokens_opened (reply ∷ rest) ≡ token ∷ tokens_opened rest)
    × (WasGiven (slots_of old) token → ⊥) × IsNow (slots_of new) token)

module _ {P : Type 0} (steps : P → Own → List ℕ → Answer → P → Type 0) (held_of : P → ℕ)
    (ready_of : P → Bool) where
  opened_new : (old new : HostState P) (step : Step P) (octets : List ℕ) (token : Token)
      (rest : List (Reply P))
      → AnswersStep steps held_of ready_of old new step octets (replies.Opened token)
      → GivesNew old new (replies.Opened token) rest
  unfolding tokens_opened
  opened_new old new (host_steps.Opened party) octets token rest is =
      inr (token, refl, is.1, (party, is.0))
  opened_new old new (host_steps.Own other own) octets token rest is = absurd is
  opened_new old new (host_steps.Passed now) octets token rest is = absurd is
  opened_new old new (host_steps.Closed other) octets token rest is = absurd is
  opened_new old new host_steps.NextTurn octets token rest is = absurd is

  gives_new : (old new : HostState P) (step : Step P) (octets : List ℕ) (reply : Reply P)
      (rest : List (Reply P)) → AnswersStep steps held_of ready_of old new step octets reply
      → GivesNew old new reply rest
  unfolding tokens_opened
  gives_new old new step octets (replies.Opened token) rest is =
      opened_new old new step octets token rest is
  gives_new old new step octets (replies.Full back) rest is = inl refl
  gives_new old new step octets (replies.Own answer) rest is = inl refl
  gives_new old new step octets replies.Stale rest is = inl refl
  gives_new old new step octets replies.NotNow rest is = inl refl
  gives_new old new step octets replies.Passed rest is = inl refl
  gives_new old new step octets replies.Closed rest is = inl refl
  gives_new old new step octets (replies.Turn next) rest is = inl refl

  -- No token is given twice, and none that was given before.
  pub run_new : (holds : HostState P → Type 0) (new old : HostState P) (made : List (Made P))
      (answers : List (Reply P))
      → RunsWhile steps held_of ready_of holds new old made answers
      → AreNew old (tokens_opened answers)
  unfolding AreNew tokens_opened
  run_new holds new old made answers (none_made held) = tt
  run_new holds new old made answers (one_made start next one more reply rest held is later) =
      let others = run_new holds new next more rest later in
      let happens = answers_happen steps held_of ready_of old next one.step one.octets.items reply
      is in
      let stays = given_stays steps (slots_of next) (slots_of old) happens.0 happens.1 in
      let earlier = new_earlier old next (tokens_opened rest) stays others in
      elim (gives_new old next one.step one.octets.items reply rest is) [
        | inl same ↦ subst (AreNew old) (sym same) earlier
        | inr (token, same, fresh, now) ↦ subst (AreNew old) (sym same) (
          fresh,
          others_than next (tokens_opened rest) token others
              (now_given (slots_of next) token now),
          earlier,
        )
      ]
