-- What a call makes of a served connection: first of itself, and then by what follows from it.
use Rattle.h2_engines.proofs.Names
use Names.{◌≡◌, ◌⊎◌, ℕ, Bool, true, false, List, [], ◌++◌, refl, sym, ap, ◌∙◌, inl, inr, subst}
use Names.{append-nil, EndLog, Values}
use Rattle.std.specs.Prelude.{◌||◌}
use Rattle.h2_host.specs.declared.party.Own.{Own}
use Rattle.h2_server.specs.declared.connection.Connection.{Connection}
use Rattle.h2_server.specs.declared.connection.Phase.{Phase}
use Rattle.h2_server.specs.declared.connection.Phase.TheVariants.{Failing, Over}
use Rattle.h2_server.specs.Connections.{Calls, MadeOwn, MadeSo, Makes, NotesPhaseFrom, input_kept}
use Rattle.h2_server.specs.Exchanges.{Handling, Relations, handling_of}
use Rattle.h2_server.specs.Phases.{is_phase_down, is_phase_failing, is_phase_over}
use Rattle.h2_server.specs.Steps.{Steps}
use Rattle.h2_server.proofs.StepsMade.{steps_may_lose, steps_then}

-- What is closed is down.
pub over_down : (phase : Phase) → is_phase_over phase ≡ true → is_phase_down phase ≡ true
over_down (Over why) over = refl
over_down phase over = absurd (cc)

-- What is up is not closed, and has not failed.
pub up_open : (phase : Phase) → is_phase_down phase ≡ false → is_phase_over phase ≡ false
up_open (Over why) up = absurd (cc)
up_open phase up = refl

pub up_goes_on : (phase : Phase) → is_phase_down phase ≡ false → is_phase_failing phase ≡ false
up_goes_on (Failing why since) up = absurd (cc)
up_goes_on phase up = refl

-- What follows from a call opens nothing again.
notes_over : {H W : Type 0} (phase : Phase) (old : Connection H W) (new : Phase)
    → NotesPhaseFrom phase old new → is_phase_over phase ≡ true → is_phase_over new ≡ true
notes_over (Over why) old new is over = ap is_phase_over is
notes_over phase old new is over = absurd (cc)

notes_down : {H W : Type 0} (phase : Phase) (old : Connection H W) (new : Phase)
    → NotesPhaseFrom phase old new → is_phase_down phase ≡ true → is_phase_down new ≡ true
notes_down (Failing why since) old new (inl is) down = ap is_phase_down is.1
notes_down (Failing why since) old new (inr is) down = ap is_phase_down is.1
notes_down (Over why) old new is down = ap is_phase_down is
notes_down phase old new is down = absurd (cc)

-- If one of two loses something, it is closed then.
both_closed : (one two : Bool) (mid new : Phase) → (one ≡ true → is_phase_over mid ≡ true)
    → (is_phase_over mid ≡ true → is_phase_over new ≡ true)
    → (two ≡ true → is_phase_over new ≡ true) → (one || two) ≡ true → is_phase_over new ≡ true
both_closed true two mid new first stays second lost = stays (first refl)
both_closed false two mid new first stays second lost = second lost

-- What was left over is kept, where it is kept on.
left_kept : (rest mid new : List ℕ) (phase after : Phase)
    → (rest ≡ mid) ⊎ (is_phase_down phase ≡ true) → (new ≡ mid) ⊎ (is_phase_down after ≡ true)
    → (is_phase_down phase ≡ true → is_phase_down after ≡ true)
    → (rest ≡ new) ⊎ (is_phase_down after ≡ true)
left_kept rest mid new phase after (inl is) (inl same) stays = inl (is ∙ sym same)
left_kept rest mid new phase after (inl is) (inr down) stays = inr down
left_kept rest mid new phase after (inr down) second stays = inr (stays down)

module _ {H W : Type 0} {rel : Relations H W} where
  -- Steps of one, and then of another, in which what either loses may be lost.
  both_steps : (one two : Bool) {used given more_used more_given : List ℕ}
      {end mid last : EndLog} {a b c : Handling H W} → Steps rel one mid b used given end a
      → Steps rel two last c more_used more_given mid b
      → Steps rel (one || two) last c (used ++ more_used) (given ++ more_given) end a
  both_steps true two first second = steps_then first (steps_may_lose second)
  both_steps false true first second = steps_then (steps_may_lose first) second
  both_steps false false first second = steps_then first second

  -- The call was made, with what follows.
  pub calls_make : {own : Own} {octets : List ℕ} {old new : Connection H W}
      (calls : Calls rel own octets old new) → Makes rel octets calls.gone old new
  calls_make {old} {new} calls values end is =
      let gone = calls.gone in
      let a = calls.makes values end is in
      let b = calls.notes values a.after a.represents in
      let mid = calls.mid in
      record {
        used = a.used;
        rest = a.rest;
        order = a.order;
        kept = left_kept a.rest (input_kept mid) (input_kept new) mid.phase new.phase a.kept b.kept
            (notes_down mid.phase mid new.phase calls.noted);
        loses = a.loses || b.loses;
        closed = both_closed a.loses b.loses mid.phase new.phase a.closed
            (notes_over mid.phase mid new.phase calls.noted) b.closed;
        after = b.after;
        steps = subst (λ (octets : List ℕ). Steps rel (a.loses || b.loses) b.after
            (handling_of new.exchanges) octets gone end (handling_of old.exchanges))
            (append-nil a.used)
            (subst (λ (octets : List ℕ). Steps rel (a.loses || b.loses) b.after
            (handling_of new.exchanges) (a.used ++ []) octets end (handling_of old.exchanges))
            (append-nil gone) (both_steps a.loses b.loses a.steps b.steps));
        represents = b.represents;
        failing = λ so. b.failing (a.failing so);
      }

  -- A call that has nothing to give out.
  pub calls_make_none : {own : Own} {octets : List ℕ} {old new : Connection H W}
      (calls : Calls rel own octets old new) → calls.gone ≡ [] → Makes rel octets [] old new
  calls_make_none {octets = came} {old} {new} calls none =
      subst (λ (gone : List ℕ). Makes rel came gone old new) none (calls_make calls)

  -- What was made without input was made, where none came.
  pub own_so : {gone : List ℕ} {values : Values} {end : EndLog} {old new : Connection H W}
      → MadeOwn rel gone values end old new → MadeSo rel [] gone values end old new
  own_so {old} made = record {
    used = [];
    rest = input_kept old;
    order = append-nil (input_kept old);
    kept = elim made.kept [ inl is ↦ inl (sym is) | inr down ↦ inr down ];
    loses = made.loses;
    closed = made.closed;
    after = made.after;
    steps = made.steps;
    represents = made.represents;
    failing = made.failing;
  }
