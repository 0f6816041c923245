-- Connections that hold too much are refused, one after another.
use Rattle.std.specs.Prelude.{◌≡◌, ◌<◌, ◌≤◌, ◌+◌, ◌^◌, ◌++◌, [], ℕ, List, Bool}
use Rattle.std.specs.Prelude.{Option}
use Rattle.std.specs.Prelude.{Some, None, slice_set}
use Rattle.std.proofs.Common.{refl, sym, ap, subst, arith, inl, inr, ◌∙◌}
use Rattle.std.proofs.lemmas.Bool.{cases_eq}
use Rattle.std.proofs.lemmas.List.{append-nil, append_assoc}
use Rattle.h2_host.specs.declared.party.Answer.{Answer}
use Rattle.h2_host.specs.declared.party.Bound.TheVariants.{Held, HeldInAll}
use Rattle.h2_host.specs.declared.party.Own.{Own}
use Rattle.h2_host.specs.declared.party.Own.TheVariants.{Refused}
use Rattle.h2_host.specs.declared.state.HostState.{HostState}
use Rattle.h2_host.specs.declared.table.Slot.{Slot}
use Rattle.h2_host.specs.declared.token.Token.{Token}
use Rattle.h2_host.specs.Bounds.{EachWithin, held_by, slot_held}
use Rattle.h2_host.specs.Isolation.{KeepsOtherPlaces, MoveOf}
use Rattle.h2_host.specs.Moves.{HoldsAt, HoldsMost, IsMadeOne, KeepsFrame, MakesOne, OthersWithin}
use Rattle.h2_host.specs.Moves.{IsMade, RefusesOwn}
use Rattle.h2_host.specs.Sound.{IsSoundHost, IsSteady}
use Rattle.h2_host.specs.Steps.{AreRefused, FitsAll, FitsOne, none_refused, one_refused, slots_of}
use Rattle.h2_host.specs.Tokens.{IsAt, slot_at}
use Rattle.h2_host.specs.Parties.{IsGivenUp, IsRefusal}
use Rattle.h2_host.proofs.Places.{get_unwritten, get_written, one_slot}

module _ {P : Type 0} where
  -- Nothing but the places has changed.
  pub frame_itself : (host : HostState P) → KeepsFrame host host
  frame_itself host = record {
    turn = refl;
    kept = record { limits = refl; added = []; queue = sym (append-nil host.queue.items) };
  }

  pub frame_twice : (a b c : HostState P) → KeepsFrame a b → KeepsFrame b c → KeepsFrame a c
  frame_twice a b c one two = record {
    turn = two.turn ∙ one.turn;
    kept = record {
      limits = two.kept.limits ∙ one.kept.limits;
      added = one.kept.added ++ two.kept.added;
      queue = two.kept.queue ∙ (ap (λ q. q ++ two.kept.added) one.kept.queue
          ∙ append_assoc a.queue.items one.kept.added two.kept.added);
    };
  }

module _ {P : Type 0} (steps : P → Own → List ℕ → Answer → P → Type 0) (held_of : P → ℕ)
    (ready_of : P → Bool) where
  -- A step of one connection is made where its place is written with what that makes of it.
  pub makes_one : (old new : HostState P) (token : Token) (own : Own) (octets : List ℕ)
      (answer : Answer) (slot next : Slot P) (before after : P)
      → slot_at (slots_of old) token.place ≡ Some slot → slot.party ≡ Some before
      → slot.generation ≡ token.generation → next.generation ≡ slot.generation
      → next.party ≡ Some after → steps before own octets answer after
      → slots_of new ≡ slice_set (slots_of old) token.place next
      → new.held + held_of before ≡ old.held + held_of after → held_of after < 2 ^ 64
      → (IsRefusal own → IsGivenUp answer (held_of after) (ready_of after))
      → MakesOne steps held_of ready_of old new token own octets answer
  makes_one old new token own octets answer slot next before after at taken generation same party
      so written sum small given_up =
      record {
        step = record {
          before = before;
          after = after;
          at = record { slot = slot; at = at; generation = generation; taken = taken };
          is = record {
            slot = next;
            at = ap (λ s. slot_at s token.place) written
                ∙ get_written (slots_of old) token.place slot next at;
            generation = same ∙ generation;
            taken = party;
          };
          so = so;
          others = λ other differs.
              ap (λ s. slot_at s other) written
              ∙ get_unwritten (slots_of old) token.place other next differs;
        };
        sum = sum;
        small = small;
        given_up = given_up;
      }

  -- What a connection holds is what its place does.
  held_at_party : (slots : List (Slot P)) (token : Token) (party : P) (is : IsAt slots token party)
      → slot_held held_of is.slot ≡ held_of party
  held_at_party slots token party is = ap (held_by held_of) is.taken

  -- No place holds more than one may after a step of a connection that doesn't.
  pub each_stepped : (old new : List (Slot P)) (token : Token) (after : P) (most : ℕ)
      → OthersWithin held_of old most token.place → KeepsOtherPlaces old new token.place
      → IsAt new token after → held_of after ≤ most → EachWithin held_of new most
  each_stepped old new token after most within others is small = λ place slot at.
      elim (cases_eq place token.place) [
        | inl same ↦
            let there = one_slot new place slot is.slot at (ap (slot_at new) same ∙ is.at) in
            let held = ap (slot_held held_of) there ∙ held_at_party new token after is in
            omega (arith, held, small)
        | inr differs ↦ within place slot differs (sym (others place differs) ∙ at)
      ]

  -- The others are within as before.
  pub others_stepped : (old new : List (Slot P)) (token : Token) (most : ℕ)
      → EachWithin held_of old most → KeepsOtherPlaces old new token.place
      → OthersWithin held_of new most token.place
  others_stepped old new token most within others = λ place slot differs at.
      within place slot (sym (others place differs) ∙ at)

  -- A connection that holds more than one may is refused, and holds nothing then.
  pub refuses_own : (old new : HostState P) (token : Token) (held : ℕ) (answer : Answer)
      → HoldsAt held_of (slots_of old) token.place held → old.limits.held < held
      → MakesOne steps held_of ready_of old new token (Refused Held) [] answer
      → RefusesOwn steps held_of old new token
  refuses_own old new token held answer holds above makes = λ party is.
      let a = holds is.slot is.at in
      let b = held_at_party (slots_of old) token party is in
      inr (omega (arith, a, b, above), (answer, makes.step))

  -- One that doesn't is not.
  pub refuses_none : (old : HostState P) (token : Token) (held : ℕ)
      → HoldsAt held_of (slots_of old) token.place held → held ≤ old.limits.held
      → RefusesOwn steps held_of old old token
  refuses_none old token held holds small = λ party is.
      let a = holds is.slot is.at in
      let b = held_at_party (slots_of old) token party is in
      inl (omega (arith, a, b, small), refl)

  -- Where it was refused no place holds more than one may.
  pub each_refused : (old new : HostState P) (token : Token) (answer : Answer)
      → OthersWithin held_of (slots_of old) old.limits.held token.place
      → new.limits ≡ old.limits
      → MakesOne steps held_of ready_of old new token (Refused Held) [] answer
      → EachWithin held_of (slots_of new) new.limits.held
  each_refused old new token answer within limits makes =
      subst (λ l. EachWithin held_of (slots_of new) l.held) (sym limits)
      (each_stepped (slots_of old) (slots_of new) token makes.step.after old.limits.held within
      makes.step.others makes.step.is
      (let none = (makes.given_up tt).holds_none in omega (arith, none)))

  -- Where it was not, neither does any.
  pub each_kept : (old : HostState P) (token : Token) (held : ℕ)
      → OthersWithin held_of (slots_of old) old.limits.held token.place
      → HoldsAt held_of (slots_of old) token.place held → held ≤ old.limits.held
      → EachWithin held_of (slots_of old) old.limits.held
  each_kept old token held within holds small = λ place slot at.
      elim (cases_eq place token.place) [
        | inl same ↦
            let is = holds slot (ap (slot_at (slots_of old)) (sym same) ∙ at) in
            omega (arith, is, small)
        | inr differs ↦ within place slot differs at
      ]

  -- So far these were refused, each since all held too much.
  pub record Fitting (start now : HostState P) : Type 0 where
    pub steady : IsSteady held_of ready_of now
    pub each : EachWithin held_of (slots_of now) now.limits.held
    pub few : now.held ≤ start.held
    pub frame : KeepsFrame start now
    pub moves : List MoveOf
    pub refused : AreRefused steps held_of start.limits.held_in_all (slots_of start)
        (slots_of now) moves

  pub fitting_begins : (start : HostState P) → IsSteady held_of ready_of start
      → EachWithin held_of (slots_of start) start.limits.held → Fitting start start
  fitting_begins start steady each = record {
    steady = steady;
    each = each;
    few = omega arith;
    frame = frame_itself start;
    moves = [];
    refused = none_refused;
  }

  -- The one that is refused held something.
  refused_less : (now next : HostState P) (token : Token) (answer : Answer)
      → HoldsMost held_of (slots_of now) token
      → MakesOne steps held_of ready_of now next token (Refused HeldInAll) [] answer
      → next.held < now.held
  refused_less now next token answer most makes =
      let slot = one_slot (slots_of now) token.place most.greatest.slot makes.step.at.slot
      most.greatest.at makes.step.at.at in
      let held = ap (slot_held held_of) slot
      ∙ held_at_party (slots_of now) token makes.step.before makes.step.at in
      let some = most.some in
      let sum = makes.sum in
      let none = (makes.given_up tt).holds_none in omega (arith, held, some, sum, none)

  pub fitting_on : (start now next : HostState P) (token : Token) (answer : Option Answer)
      → Fitting start now → now.limits.held_in_all < now.held
      → HoldsMost held_of (slots_of now) token
      → IsMadeOne steps held_of ready_of now next token (Refused HeldInAll) [] answer
      → IsSteady held_of ready_of next → KeepsFrame now next
      → Fitting start next × (next.held < now.held)
  fitting_on start now next token None so_far above most makes steady frame = absurd makes
  fitting_on start now next token (Some answer) so_far above most makes steady frame =
      let less = refused_less now next token answer most makes in
      let few = so_far.few in
      let sum = so_far.steady.sum in
      let limits = ap (λ l. l.held_in_all) so_far.frame.kept.limits in (
        record {
          steady = steady;
          each = subst (λ l. EachWithin held_of (slots_of next) l.held) (sym frame.kept.limits)
              (each_stepped (slots_of now) (slots_of next) token makes.step.after
              now.limits.held (λ place slot differs at. so_far.each place slot at)
              makes.step.others makes.step.is
              (let none = (makes.given_up tt).holds_none in omega (arith, none)));
          few = omega (arith, less, few);
          frame = frame_twice start now next so_far.frame frame;
          moves = _;
          refused = one_refused (slots_of now) (slots_of next) so_far.moves token answer
              so_far.refused (omega (arith, above, sum, limits)) most.greatest makes.step;
        },
        less,
      )

  pub fitting_over : (start now : HostState P) → Fitting start now
      → now.held ≤ now.limits.held_in_all
      → FitsAll steps held_of start.limits.held_in_all (slots_of start) (slots_of now)
      × IsSoundHost held_of ready_of now × KeepsFrame start now
  fitting_over start now so_far fits =
      let sum = so_far.steady.sum in
      let limits = ap (λ l. l.held_in_all) so_far.frame.kept.limits in (
        record {
          moves = so_far.moves;
          refused = so_far.refused;
          fits = omega (arith, fits, sum, limits);
        },
        record { steady = so_far.steady; each = so_far.each; all = fits },
        so_far.frame,
      )

  -- A connection that holds more than one may is refused: what follows of it.
  pub own_refused : (old new : HostState P) (token : Token) (held : ℕ) (answer : Option Answer)
      → OthersWithin held_of (slots_of old) old.limits.held token.place
      → HoldsAt held_of (slots_of old) token.place held → old.limits.held < held
      → IsMadeOne steps held_of ready_of old new token (Refused Held) [] answer
      → KeepsFrame old new
      → RefusesOwn steps held_of old new token × (new.held ≤ old.held)
      × EachWithin held_of (slots_of new) new.limits.held
  own_refused old new token held None within holds above makes frame = absurd makes
  own_refused old new token held (Some answer) within holds above makes frame =
      let sum = makes.sum in
      let none = (makes.given_up tt).holds_none in (
        refuses_own old new token held answer holds above makes,
        omega (arith, sum, none),
        each_refused old new token answer within frame.kept.limits makes,
      )

  -- A step of one connection, and then what it is refused for itself and others for all.
  pub made_steps : (old mid between new : HostState P) (token : Token) (own : Own)
      (octets : List ℕ) (answer : Answer)
      → MakesOne steps held_of ready_of old mid token own octets answer → KeepsFrame old mid
      → RefusesOwn steps held_of mid between token → KeepsFrame mid between
      → FitsAll steps held_of between.limits.held_in_all (slots_of between) (slots_of new)
      → IsMade steps held_of old new token own octets (Some answer)
  made_steps old mid between new token own octets answer makes one refuses two fits =
      let limits = two.kept.limits ∙ one.kept.limits in
      record {
        next = slots_of mid;
        step = makes.step;
        between = slots_of between;
        fits_one = subst
            (λ l. FitsOne steps held_of l.held (slots_of mid) (slots_of between) token
            makes.step.after)
            one.kept.limits (refuses makes.step.after makes.step.is);
        fits_all = subst
            (λ l. FitsAll steps held_of l.held_in_all (slots_of between) (slots_of new)) limits
            fits;
      }

  -- All hold little enough for one more step.
  pub few_of : (host : HostState P) → IsSoundHost held_of ready_of host → host.held < 2 ^ 66
  few_of host is =
      let all = is.all in
      let sized = is.steady.sized in omega (arith, all, sized)

  -- After a step of one connection the sum is not too large for refusals.
  pub few_after : (old new : HostState P) (token : Token) (own : Own) (octets : List ℕ)
      (answer : Answer) → IsSoundHost held_of ready_of old
      → MakesOne steps held_of ready_of old new token own octets answer → new.held < 2 ^ 66
  few_after old new token own octets answer is makes =
      let all = is.all in
      let sized = is.steady.sized in
      let sum = makes.sum in
      let small = makes.small in omega (arith, all, sized, sum, small)

  -- The others hold no more than one may after it.
  pub others_after : (old new : HostState P) (token : Token) (own : Own) (octets : List ℕ)
      (answer : Answer) → IsSoundHost held_of ready_of old
      → MakesOne steps held_of ready_of old new token own octets answer → KeepsFrame old new
      → OthersWithin held_of (slots_of new) new.limits.held token.place
  others_after old new token own octets answer is makes frame =
      subst (λ l. OthersWithin held_of (slots_of new) l.held token.place) (sym frame.kept.limits)
      (others_stepped (slots_of old) (slots_of new) token old.limits.held is.each
      makes.step.others)
