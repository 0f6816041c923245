-- What happens at the places of a host in a step of it.
use Rattle.std.specs.Prelude.{◌≡◌, ◌≢◌, ◌==◌, ℕ, List, [], ◌∷◌, ◌++◌}
use Rattle.std.specs.List.{AllByRecursion}
use Rattle.std.proofs.Common.{refl, sym, subst, inl, inr, ap, ◌∙◌}
use Rattle.std.proofs.lemmas.Bool.{cases_Bool, eq-eqb, ne_eqb, eqb-true, eqb-false}
use Rattle.std.proofs.lemmas.List.{append_assoc}
use Rattle.h2_host.specs.declared.party.Answer.{Answer}
use Rattle.h2_host.specs.declared.party.Bound.{Bound}
use Rattle.h2_host.specs.declared.party.Bound.TheVariants.{Held, HeldInAll}
use Rattle.h2_host.specs.declared.party.Own.{Own}
use Rattle.h2_host.specs.declared.party.Own.TheVariants as owns
use Rattle.h2_host.specs.declared.table.Slot.{Slot}
use Rattle.h2_host.specs.declared.token.Token.{Token}
use Rattle.h2_host.specs.Isolation.{HappensAt, nothing, moved, opened, left, noted, HostMoves}
use Rattle.h2_host.specs.Isolation.{IsOfHost, Move, MoveOf, StepsOne, moves_of}
use Rattle.h2_host.specs.Isolation.{time_of, times_in, times_of}
use Rattle.h2_host.specs.Tokens.{IsNow, is_same_token, slot_at}
use Rattle.h2_host.proofs.Places.{one_slot}
use Rattle.h2_host.specs.Steps.{AreRefused, FitsOne, MakesSteps, none_refused, one_refused}

-- What happens after what has happened.
pub happens_joined : {P : Type 0} (steps : P → Own → List ℕ → Answer → P → Type 0)
    (mid new old : List (Slot P)) (a b : List MoveOf) → HappensAt steps mid old a
    → HappensAt steps new mid b → HappensAt steps new old (a ++ b)
happens_joined steps mid new old a b nothing then_b = then_b
happens_joined steps mid new old a b (moved start next others token move one rest) then_b =
    moved old next (others ++ b) token move one
    (happens_joined steps mid new next others b rest then_b)
happens_joined steps mid new old a b (opened start next others token party one rest) then_b =
    opened old next (a ++ b) token party one (happens_joined steps mid new next a b rest then_b)
happens_joined steps mid new old a b (left start next others token one rest) then_b =
    left old next (a ++ b) token one (happens_joined steps mid new next a b rest then_b)
happens_joined steps mid new old a b (noted start next others same rest) then_b =
    noted old next (a ++ b) same (happens_joined steps mid new next a b rest then_b)

-- Moves of the host's own, and others after them.
pub own_joined : (a b : List MoveOf) → AllByRecursion (λ m. IsOfHost m.move) a
    → AllByRecursion (λ m. IsOfHost m.move) b → AllByRecursion (λ m. IsOfHost m.move) (a ++ b)
own_joined [] b one other = other
own_joined (x ∷ a) b one other = (one.0, own_joined a b one.1 other)

-- Whoever was there is there after a step of one connection.
pub step_stays : {P : Type 0} (steps : P → Own → List ℕ → Answer → P → Type 0)
    (old new : List (Slot P)) (token : Token) (move : Move) → StepsOne steps old new token move
    → (other : Token) → IsNow old other → IsNow new other
step_stays steps old new token move step other (party, at) =
    elim (cases_Bool (other.place == token.place)) [
      | inl here ↦
          let place = eqb-true other.place token.place here in
          let slot = one_slot old other.place at.slot step.at.slot at.at
          (ap (slot_at old) place ∙ step.at.at) in
          let generation = sym at.generation ∙ ap (λ s. s.generation) slot ∙ step.at.generation in (
            step.after,
            record {
              slot = step.is.slot;
              at = ap (slot_at new) place ∙ step.is.at;
              generation = step.is.generation ∙ sym generation;
              taken = step.is.taken;
            },
          )
      | inr there ↦ (
        party,
        record {
          slot = at.slot;
          at = step.others other.place (eqb-false other.place token.place there) ∙ at.at;
          generation = at.generation;
          taken = at.taken;
        },
      )
    ]

-- No moves were made.
unfoldable pub no_host_moves : {P : Type 0} (steps : P → Own → List ℕ → Answer → P → Type 0)
    (slots : List (Slot P)) → HostMoves steps slots slots
no_host_moves steps slots =
    record { moves = []; happens = nothing; own = tt; stay = λ token is. is }

-- One move of the host's own.
unfoldable pub one_host_move : {P : Type 0} (steps : P → Own → List ℕ → Answer → P → Type 0)
    (old new : List (Slot P)) (token : Token) (move : Move) → IsOfHost move
    → StepsOne steps old new token move → HostMoves steps old new
one_host_move steps old new token move is step = record {
  moves = record { token = token; move = move } ∷ [];
  happens = moved old new [] token move step nothing;
  own = (is, tt);
  stay = step_stays steps old new token move step;
}

-- Moves of the host's own after others.
unfoldable pub host_moves_joined : {P : Type 0} (steps : P → Own → List ℕ → Answer → P → Type 0)
    (old mid new : List (Slot P)) → HostMoves steps old mid → HostMoves steps mid new
    → HostMoves steps old new
host_moves_joined steps old mid new one other = record {
  moves = one.moves ++ other.moves;
  happens = happens_joined steps mid new old one.moves other.moves one.happens other.happens;
  own = own_joined one.moves other.moves one.own other.own;
  stay = λ token is. other.stay token (one.stay token is);
}

-- The times that a connection sees in moves after others are those of both.
pub times_append : (token : Token) (a b : List MoveOf)
    → times_of token (a ++ b) ≡ times_of token a ++ times_of token b
unfolding moves_of times_in
times_append token [] b = refl
times_append token (x ∷ a) b = elim (cases_Bool (is_same_token x.token token)) [
  | inl same ↦ rw same
      (ap (λ (t : List ℕ). time_of x.move.own ++ t) (times_append token a b)
      ∙ sym (append_assoc (time_of x.move.own) (times_of token a) (times_of token b)))
  | inr other ↦ rw other (times_append token a b)
]

-- In a refusal nobody sees a time.
refusal_is_silent : (token other : Token) (bound : Bound) (answer : Answer)
    → times_of other (record {
      token = token;
      move = record { own = owns.Refused bound; octets = []; answer = answer };
    } ∷ []) ≡ []
unfolding moves_of times_in
refusal_is_silent token other bound answer = elim (cases_Bool (is_same_token token other)) [
  | inl same ↦ rw same refl
  | inr other_one ↦ rw other_one refl
]

-- As time passes for one connection, it sees that time, and one at another place sees none.
pub sees_time : (token : Token) (time : ℕ) (answer : Answer)
    → times_of token (record {
      token = token;
      move = record { own = owns.Passed time; octets = []; answer = answer };
    } ∷ []) ≡ time ∷ []
unfolding moves_of times_in
sees_time token time answer =
    rw (eq-eqb token.place token.place refl, eq-eqb token.generation token.generation refl) refl

pub sees_none : (token other : Token) (time : ℕ) (answer : Answer) → other.place ≢ token.place
    → times_of other (record {
      token = token;
      move = record { own = owns.Passed time; octets = []; answer = answer };
    } ∷ []) ≡ []
unfolding moves_of times_in
sees_none token other time answer apart =
    rw (ne_eqb token.place other.place (λ same. apart (sym same))) refl

-- Refusals that were made: moves of the host's own in which nobody sees a time.
pub record RefusalMoves {P : Type 0} (steps : P → Own → List ℕ → Answer → P → Type 0)
    (old new : List (Slot P)) : Type 0 where
  pub host : HostMoves steps old new
  pub silent : (token : Token) → times_of token host.moves ≡ []

no_refusals : {P : Type 0} (steps : P → Own → List ℕ → Answer → P → Type 0)
    (slots : List (Slot P)) → RefusalMoves steps slots slots
unfolding moves_of times_in no_host_moves
no_refusals steps slots =
    record { host = no_host_moves steps slots; silent = λ token. refl }

one_refusal : {P : Type 0} (steps : P → Own → List ℕ → Answer → P → Type 0)
    (old new : List (Slot P)) (token : Token) (bound : Bound) (answer : Answer)
    → StepsOne steps old new token
    (record { own = owns.Refused bound; octets = []; answer = answer })
    → RefusalMoves steps old new
unfolding one_host_move
one_refusal steps old new token bound answer step = record {
  host = one_host_move steps old new token
      (record { own = owns.Refused bound; octets = []; answer = answer }) tt step;
  silent = λ other. refusal_is_silent token other bound answer;
}

refusals_joined : {P : Type 0} (steps : P → Own → List ℕ → Answer → P → Type 0)
    (old mid new : List (Slot P)) → RefusalMoves steps old mid → RefusalMoves steps mid new
    → RefusalMoves steps old new
unfolding host_moves_joined
refusals_joined steps old mid new one other = record {
  host = host_moves_joined steps old mid new one.host other.host;
  silent = λ token. times_append token one.host.moves other.host.moves
      ∙ rw (one.silent token, other.silent token) refl;
}

-- Those for what all hold.
pub refusals_made : {P : Type 0} (steps : P → Own → List ℕ → Answer → P → Type 0)
    (held_of : P → ℕ) (most : ℕ) (old new : List (Slot P)) (moves : List MoveOf)
    → AreRefused steps held_of most old new moves → RefusalMoves steps old new
refusals_made steps held_of most old new moves none_refused = no_refusals steps old
refusals_made steps held_of most old new moves
    (one_refused mid last others token answer before above greatest step) =
    refusals_joined steps old mid new
    (refusals_made steps held_of most old mid others before)
    (one_refusal steps mid new token HeldInAll answer step)

-- That of one connection for what it holds itself.
pub refusal_made : {P : Type 0} (steps : P → Own → List ℕ → Answer → P → Type 0)
    (held_of : P → ℕ) (most : ℕ) (old new : List (Slot P)) (token : Token) (party : P)
    → FitsOne steps held_of most old new token party → RefusalMoves steps old new
refusal_made steps held_of most old new token party (inl fits) =
    subst (RefusalMoves steps old) (sym fits.1) (no_refusals steps old)
refusal_made steps held_of most old new token party (inr above) =
    one_refusal steps old new token Held above.1.0 above.1.1

-- What follows a step of one connection are refusals.
pub refusals_after : {P : Type 0} (steps : P → Own → List ℕ → Answer → P → Type 0)
    (held_of : P → ℕ) (most most_in_all : ℕ) (old new : List (Slot P)) (token : Token) (move : Move)
    (makes : MakesSteps steps held_of most most_in_all old new token move)
    → RefusalMoves steps makes.next new
refusals_after steps held_of most most_in_all old new token move makes =
    refusals_joined steps makes.next makes.between new
    (refusal_made steps held_of most makes.next makes.between token makes.step.after makes.fits_one)
    (refusals_made steps held_of most_in_all makes.between new makes.fits_all.moves
    makes.fits_all.refused)

-- A step of one connection, and what follows it, happens at the places.
pub steps_happen : {P : Type 0} (steps : P → Own → List ℕ → Answer → P → Type 0)
    (held_of : P → ℕ) (most most_in_all : ℕ) (old new : List (Slot P)) (token : Token) (move : Move)
    → MakesSteps steps held_of most most_in_all old new token move
    → (moves : List MoveOf) × HappensAt steps new old moves
steps_happen steps held_of most most_in_all old new token move makes =
    let after = refusals_after steps held_of most most_in_all old new token move makes in (
      record { token = token; move = move } ∷ after.host.moves,
      moved old makes.next after.host.moves token move makes.step after.host.happens,
    )

-- Time that passes for one connection, and what follows it: it sees that time once, and one at
-- another place none.
pub record TimedMoves {P : Type 0} (steps : P → Own → List ℕ → Answer → P → Type 0)
    (old new : List (Slot P)) (token : Token) (time : ℕ) : Type 0 where
  pub host : HostMoves steps old new
  pub once : times_of token host.moves ≡ time ∷ []
  pub others : (other : Token) → other.place ≢ token.place → times_of other host.moves ≡ []

pub time_made : {P : Type 0} (steps : P → Own → List ℕ → Answer → P → Type 0)
    (held_of : P → ℕ) (most most_in_all : ℕ) (old new : List (Slot P)) (token : Token) (time : ℕ)
    (answer : Answer) → MakesSteps steps held_of most most_in_all old new token
    (record { own = owns.Passed time; octets = []; answer = answer })
    → TimedMoves steps old new token time
unfolding host_moves_joined one_host_move
time_made steps held_of most most_in_all old new token time answer makes =
    let move : Move = record { own = owns.Passed time; octets = []; answer = answer } in
    let first = one_host_move steps old makes.next token move tt makes.step in
    let after = refusals_after steps held_of most most_in_all old new token move makes in
    record {
      host = host_moves_joined steps old makes.next new first after.host;
      once = times_append token first.moves after.host.moves
          ∙ rw (sees_time token time answer, after.silent token) refl;
      others = λ other apart. times_append other first.moves after.host.moves
          ∙ rw (sees_none token other time answer apart, after.silent other) refl;
    }
