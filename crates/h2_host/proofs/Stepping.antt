-- A step of one connection, where its turn allows it, and time that passes for all.
use Rattle.std.specs.Prelude.{◌≡◌, ◌||◌, ◌+◌, ◌<◌, ◌≤◌, ◌==◌, nat_lt, ℕ, List, [], ◌∷◌, length}
use Rattle.std.specs.Prelude.{Bool, true, Option, Some, None}
use Rattle.std.proofs.Common.{refl, sym, ap, subst, arith, inl, inr, ◌∙◌}
use Rattle.std.proofs.lemmas.Bool.{cases_Bool, eqb-true, eqb-false}
use Rattle.std.proofs.lemmas.List.{append-nil}
use Rattle.std.proofs.lemmas.Option.{slice_get_within}
use Rattle.h2_host.specs.declared.host.Reply.TheVariants as replies
use Rattle.h2_host.specs.declared.party.Answer.{Answer}
use Rattle.h2_host.specs.declared.party.Own.{Own}
use Rattle.h2_host.specs.declared.party.Own.TheVariants as owns
use Rattle.h2_host.specs.declared.state.HostState.{HostState}
use Rattle.h2_host.specs.declared.token.Token.{Token}
use Rattle.h2_host.specs.declared.turn.Turn.{Turn}
use Rattle.h2_host.specs.declared.table.Slot.{Slot}
use Rattle.h2_host.specs.Isolation.{HostMoves, PassesTime, moves_of, times_in, times_of}
use Rattle.h2_host.specs.Moves.{IsMade, KeepsFrame, NobodyAt, NowAt}
use Rattle.h2_host.specs.Sound.{IsSoundHost}
use Rattle.h2_host.specs.Steps.{AnswersOwn, slots_of}
use Rattle.h2_host.specs.Turns.{ReadyWait, has_turn, turn_left}
use Rattle.h2_host.specs.Tokens.{IsNow, slot_at}
use Rattle.h2_host.proofs.HappensMade.{host_moves_joined, no_host_moves, time_made, times_append}
use Rattle.h2_host.proofs.Places.{one_slot}
use Rattle.h2_host.proofs.Refusals.{frame_twice}
use Rattle.h2_host.proofs.RunsAlone.{one_token}
use Rattle.h2_host.proofs.SoundKept.{counted_of, sound_of}
use Rattle.h2_host.proofs.TurnsBounded.{let_through, not_stopped}

-- The turn is that of the same connection.
same_token : (turn next : Turn) → Some turn ≡ Some next → next.token ≡ turn.token
same_token turn next is = let same : turn ≡ next = cc in ap (λ (t : Turn). t.token) (sym same)

-- A step that the turns allow leaves the turn with whoever has it.
pub turn_kept : (turn next : Turn) (token : Token) (own : Own) (octets : ℕ)
    → turn_left turn token own octets ≡ Some next → next.token ≡ turn.token
turn_kept turn next token owns.Came octets is =
    let may = not_stopped (turn.came || nat_lt 32786 octets) (record turn { came = true }) next
    (let_through (has_turn turn.token token) _ next is) in
    ap (λ (t : Turn). t.token) (sym may.same)
turn_kept turn next token owns.Turn octets is =
    let may = not_stopped turn.asked (record turn { asked = true }) next
    (let_through (has_turn turn.token token) _ next is) in
    ap (λ (t : Turn). t.token) (sym may.same)
turn_kept turn next token (owns.Went count) octets is =
    let may = not_stopped (nat_lt 65536 (turn.gave + count))
    (record turn { gave = turn.gave + count }) next
    (let_through (has_turn turn.token token) _ next is) in
    ap (λ (t : Turn). t.token) (sym may.same)
turn_kept turn next token (owns.Ready reads writes) octets is = same_token turn next is
turn_kept turn next token owns.NoneCame octets is = same_token turn next is
turn_kept turn next token owns.Ended octets is = same_token turn next is
turn_kept turn next token owns.NoneWent octets is = same_token turn next is
turn_kept turn next token owns.Lost octets is = same_token turn next is
turn_kept turn next token (owns.Refused bound) octets is = same_token turn next is
turn_kept turn next token (owns.Passed now) octets is = absurd (let no = is in cc)

-- Two tokens of now at one place are the same.
same_at : {P : Type 0} (slots : List (Slot P)) (a b : Token) → IsNow slots a → IsNow slots b
    → a.place ≡ b.place → a ≡ b
same_at slots a b x y place =
    let slot = one_slot slots a.place x.1.slot y.1.slot x.1.at
    (ap (slot_at slots) place ∙ y.1.at) in
    one_token a b place
    (sym x.1.generation ∙ ap (λ s. s.generation) slot ∙ y.1.generation)

module _ {P : Type 0} (steps : P → Own → List ℕ → Answer → P → Type 0) (held_of : P → ℕ)
    (ready_of : P → Bool) where
  -- A host is sound still where its turn was counted.
  pub sound_turned : (host : HostState P) (turn : Turn) → IsSoundHost held_of ready_of host
      → turn.token ≡ host.turn.token → IsSoundHost held_of ready_of (record host { turn = turn })
  sound_turned host turn is same =
      sound_of held_of ready_of host turn (counted_of held_of ready_of host is)
      (subst (ReadyWait ready_of (slots_of host)) (sym same) is.steady.ready)

  -- A host is sound at any time.
  pub sound_timed : (host : HostState P) (time : ℕ) → IsSoundHost held_of ready_of host
      → IsSoundHost held_of ready_of (record host { time = time })
  sound_timed host time is = record {
    steady = record {
      sum = is.steady.sum;
      queue = is.steady.queue;
      ready = is.steady.ready;
      space = is.steady.space;
      places = is.steady.places;
      few = is.steady.few;
      sized = is.steady.sized;
    };
    each = is.each;
    all = is.all;
  }

  -- A step that was made answers so.
  pub own_answered : (old new : HostState P) (turn : Turn) (token : Token) (own : Own)
      (octets : List ℕ) (answer : Answer)
      → turn_left old.turn token own (length octets) ≡ Some turn
      → IsMade steps held_of (record old { turn = turn }) new token own octets (Some answer)
      → KeepsFrame (record old { turn = turn }) new
      → AnswersOwn steps held_of old new token own octets (replies.Own answer)
  own_answered old new turn token own octets answer may makes frame = (
    makes,
    may ∙ ap (λ t. Some t) (sym frame.turn),
    record {
      limits = frame.kept.limits;
      added = frame.kept.added;
      queue = frame.kept.queue;
    },
  )

  -- So far those below this place have seen the time, once, and nobody else; and only moves of the
  -- host's own were made.
  pub record PassesSo (start now : HostState P) (time place : ℕ) : Type 0 where
    pub sound : IsSoundHost held_of ready_of now
    pub frame : KeepsFrame start now
    pub moves : HostMoves steps (slots_of start) (slots_of now)
    pub seen : (token : Token) → IsNow (slots_of start) token → token.place < place
        → times_of token moves.moves ≡ time ∷ []
    pub unseen : (token : Token) → place ≤ token.place → times_of token moves.moves ≡ []

  pub passes_begins : (host : HostState P) (time : ℕ) → IsSoundHost held_of ready_of host
      → PassesSo host (record host { time = time }) time 0
  unfolding moves_of times_in no_host_moves
  passes_begins host time is = record {
    sound = sound_timed host time is;
    frame = record {
      turn = refl;
      kept = record {
        limits = refl;
        added = [];
        queue = sym (append-nil host.queue.items);
      };
    };
    moves = no_host_moves steps (slots_of host);
    seen = λ token is below. absurd (omega (arith, below));
    unseen = λ token above. refl;
  }

  -- One more has seen the time.
  pub passes_on : (start now next : HostState P) (token : Token) (time place : ℕ)
      (answer : Option Answer) → PassesSo start now time place
      → NowAt (slots_of now) place token
      → IsMade steps held_of now next token (owns.Passed time) [] answer
      → IsSoundHost held_of ready_of next → KeepsFrame now next
      → PassesSo start next time (place + 1)
  unfolding host_moves_joined
  passes_on start now next token time place None so_far here makes sound frame = absurd makes
  passes_on start now next token time place (Some answer) so_far here makes sound frame =
      let made = time_made steps held_of now.limits.held now.limits.held_in_all (slots_of now)
      (slots_of next) token time answer makes in
      record {
        sound = sound;
        frame = frame_twice start now next so_far.frame frame;
        moves = host_moves_joined steps (slots_of start) (slots_of now) (slots_of next)
            so_far.moves made.host;
        seen = λ other is below. times_append other so_far.moves.moves made.host.moves
            ∙ elim (cases_Bool (other.place == place)) [
              | inl same ↦
                  let place_is = eqb-true other.place place same ∙ sym here.1 in
                  let one = same_at (slots_of now) other token (so_far.moves.stay other is) here.0
                  place_is in
                  rw (
                    so_far.unseen other (omega (arith, eqb-true other.place place same)),
                    one,
                    made.once,
                  ) refl
              | inr differs ↦
                  let not_here = eqb-false other.place place differs in
                  rw (
                    so_far.seen other is (omega (arith, below, not_here)),
                    made.others other (λ is_place. not_here (is_place ∙ here.1)),
                  ) refl
            ];
        unseen = λ other above. times_append other so_far.moves.moves made.host.moves
            ∙ rw (
              so_far.unseen other (omega (arith, above)),
              made.others other (λ is_place. absurd (omega (arith, above, is_place, here.1))),
            ) refl;
      }

  -- Nobody is at a place.
  pub passes_over : (start now : HostState P) (time place : ℕ) → PassesSo start now time place
      → NobodyAt (slots_of now) place → PassesSo start now time (place + 1)
  passes_over start now time place so_far nobody = record {
    sound = so_far.sound;
    frame = so_far.frame;
    moves = so_far.moves;
    seen = λ token is below. elim (cases_Bool (token.place == place)) [
      | inl same ↦
          let at = (so_far.moves.stay token is).1 in
          let none = nobody at.slot
          (ap (slot_at (slots_of now)) (sym (eqb-true token.place place same)) ∙ at.at) in
          absurd (let some = at.taken in cc)
      | inr differs ↦
          so_far.seen token is (omega (arith, below, eqb-false token.place place differs))
    ];
    unseen = λ token above. so_far.unseen token (omega (arith, above));
  }

  -- All have seen it once all places were passed.
  pub passes_over_all : (start now : HostState P) (time place : ℕ)
      → PassesSo start now time place → length (slots_of start) ≤ place
      → PassesTime steps (slots_of start) (slots_of now) time
  passes_over_all start now time place so_far all = record {
    host = so_far.moves;
    each = λ token is.
        let within = slice_get_within (slots_of start) token.place is.1.slot is.1.at in
        so_far.seen token is (omega (arith, within, all));
  }
