-- Worked examples of the definitions, each with a neighbour that is wrong.
use Rattle.std.specs.Prelude.{◌≡◌, ◌≤◌, ◌<◌, ℕ, zero, suc, List, [], ◌∷◌, Bool, true, false}
use Rattle.std.specs.Prelude.{Some, None}
use Rattle.std.proofs.Common.{refl, sym, ap, inl, inr, arith, ◌∙◌}
use Rattle.h2_host.specs.declared.host.Reply.TheVariants as replies
use Rattle.h2_host.specs.declared.host.Step.TheVariants as host_steps
use Rattle.h2_host.specs.declared.party.Answer.TheVariants.{Goes}
use Rattle.h2_host.specs.declared.party.Own.TheVariants as owns
use Rattle.h2_host.specs.declared.table.Slot.{Slot}
use Rattle.h2_host.specs.declared.token.Token.{Token}
use Rattle.h2_host.specs.Bounds.{held_in_all, slot_held, IsGreatestHolder}
use Rattle.h2_host.specs.Isolation.{MoveOf, moves_of}
use Rattle.h2_host.specs.Runs.{GetsTurnBefore, given_by_step, taken_by_step}
use Rattle.h2_host.specs.Steps.{IsFirstReady}
use Rattle.h2_host.specs.Tokens.{is_same_token, slot_at, token_number}
use Rattle.h2_host.specs.Turns.{WaitOnce, WaitsIn, queue_more, turn_left}
use Rattle.h2_host.specs.Turns.{turn_of}

-- Three tokens: two of one place, one of another.
first : Token
first = record { place = 0; generation = 0 }

second : Token
second = record { place = 0; generation = 1 }

third : Token
third = record { place = 7; generation = 0 }

-- Tokens of one place and two generations are two, and so are their numbers.
generations_differ :
    (is_same_token first first ≡ true) × (is_same_token first second ≡ false)
    × (is_same_token first third ≡ false) × (token_number first ≡ 0)
    × (token_number second ≡ 4294967296) × (token_number third ≡ 7)
unfolding first second third
generations_differ = (refl, refl, refl, refl, refl, refl)

-- A turn takes 32,786 octets, and no more; and once.
takes_once :
    (turn_left (turn_of (Some first)) first owns.Came 32786
    ≡ Some (record { token = Some first; came = true; asked = false; gave = 0 }))
    × (turn_left (turn_of (Some first)) first owns.Came 32787 ≡ None)
    × (turn_left (record { token = Some first; came = true; asked = false; gave = 0 }) first
    owns.Came 1 ≡ None)
unfolding first
takes_once = (refl, refl, refl)

-- It gives 65,536 octets in all, and no more.
gives_so_much :
    (turn_left (turn_of (Some first)) first (owns.Went 65536) 0
    ≡ Some (record { token = Some first; came = false; asked = false; gave = 65536 }))
    × (turn_left (turn_of (Some first)) first (owns.Went 65537) 0 ≡ None)
    × (turn_left (record { token = Some first; came = false; asked = false; gave = 65536 }) first
    (owns.Went 1) 0 ≡ None)
unfolding first
gives_so_much = (refl, refl, refl)

-- Another connection has nothing of it, nor has a later one at its place; what needs no turn goes
-- at any time, and time is no step of one connection.
turn_of_one :
    (turn_left (turn_of (Some first)) third owns.Turn 0 ≡ None)
    × (turn_left (turn_of (Some first)) second owns.Turn 0 ≡ None)
    × (turn_left (turn_of (Some first)) third owns.Ended 0 ≡ Some (turn_of (Some first)))
    × (turn_left (turn_of (Some first)) first (owns.Passed 5) 0 ≡ None)
unfolding first second third
turn_of_one = (refl, refl, refl, refl)

-- Two places of parties that are numbers: how much they hold.
holds : ℕ → Slot ℕ
holds n = record { generation = 0; party = Some n; queued = false }

empty : Slot ℕ
empty = record { generation = 3; party = None; queued = false }

-- What is there holds what it does.
held_there : (there one : Slot ℕ) → Some there ≡ Some one
    → slot_held (λ n. n) one ≡ slot_held (λ n. n) there
held_there there one is = let same : there ≡ one = cc in ap (slot_held (λ n. n)) (sym same)

-- The sum is that of all connections.
sum_of_places : held_in_all (λ n. n) (holds 3 ∷ empty ∷ holds 5 ∷ []) ≡ 8
unfolding holds empty
sum_of_places = refl

-- No place holds more than place 2, and each lower one less.
most : (other : ℕ) (one : Slot ℕ) → slot_at (holds 3 ∷ empty ∷ holds 5 ∷ []) other ≡ Some one
    → slot_held (λ n. n) one ≤ 5
unfolding holds empty
most zero one is = let held = held_there (holds 3) one is in omega (arith, held)
most (suc zero) one is = let held = held_there empty one is in omega (arith, held)
most (suc (suc zero)) one is = let held = held_there (holds 5) one is in omega (arith, held)
most (suc (suc (suc other))) one is = absurd (let no = is in cc)

lowest : (other : ℕ) (one : Slot ℕ) → slot_at (holds 3 ∷ empty ∷ holds 5 ∷ []) other ≡ Some one
    → other < 2 → slot_held (λ n. n) one < 5
unfolding holds empty
lowest zero one is below = let held = held_there (holds 3) one is in omega (arith, held)
lowest (suc zero) one is below = let held = held_there empty one is in omega (arith, held)
lowest (suc (suc other)) one is below = absurd (omega (arith, below))

-- The greatest holder is at place 2.
greatest : IsGreatestHolder (λ n. n) (holds 3 ∷ empty ∷ holds 5 ∷ []) 2
unfolding holds empty
greatest = record {
  slot = holds 5;
  at = refl;
  most = most;
  lowest = lowest;
}

-- Of two that hold as much it is not the second.
not_the_second : IsGreatestHolder (λ n. n) (holds 5 ∷ holds 5 ∷ []) 1 → ⊥
unfolding holds
not_the_second is =
    let less = is.lowest 0 (holds 5) refl (omega arith) in
    let held = held_there (holds 5) is.slot is.at in omega (arith, less, held)

-- A queue in which no place waits twice, and one in which one does.
waits_once : WaitOnce (4 ∷ 2 ∷ [])
unfolding WaitOnce WaitsIn
waits_once = ((λ there. elim there [ inl same ↦ cc | inr none ↦ none ]), ((λ none. none), tt))

waits_twice : WaitOnce (4 ∷ 2 ∷ 4 ∷ []) → ⊥
unfolding WaitOnce WaitsIn
waits_twice once = once.0 (inr (inl refl))

-- Two places of parties that are ready or not.
party : Bool → Slot Bool
party ready = record { generation = 0; party = Some ready; queued = true }

-- A place is put into the queue where its connection is ready and it isn't there.
is_put :
    (queue_more (λ b. b) (record { generation = 0; party = Some true; queued = false }) 6 ≡ 6 ∷ [])
    × (queue_more (λ b. b) (record { generation = 0; party = Some false; queued = false }) 6 ≡ [])
    × (queue_more (λ b. b) (record { generation = 0; party = Some true; queued = true }) 6 ≡ [])
is_put = (refl, refl, refl)

-- The first that is ready gets the turn, and one that isn't does not.
passes_idle :
    IsFirstReady (λ b. b) (party false ∷ party true ∷ []) (0 ∷ 1 ∷ []) (0 ∷ [])
    (Some (record { place = 1; generation = 0 })) []
unfolding party WaitsIn
passes_idle = (
  refl,
  (λ no. no),
  (true, record { slot = party true; at = refl; generation = refl; taken = refl }, refl),
)

none_for_idle : (rest : List ℕ)
    → IsFirstReady (λ b. b) (party false ∷ []) (0 ∷ []) []
    (Some (record { place = 0; generation = 0 })) rest → ⊥
unfolding party
none_for_idle rest is =
    let there : Some (party false) ≡ Some is.2.1.slot = is.2.1.at in
    let same : party false ≡ is.2.1.slot = cc in
    let ready : Some false ≡ Some is.2.0 = ap (λ (s : Slot Bool). s.party) same ∙ is.2.1.taken in
    let yes = is.2.2 in
    let no : false ≡ true = let it : false ≡ is.2.0 = cc in it ∙ yes in cc

-- A connection's moves are its own.
move_of : Token → ℕ → MoveOf
move_of token n =
    record { token = token; move = record { own = owns.Went n; octets = []; answer = Goes } }

own_moves :
    moves_of first (move_of first 1 ∷ move_of second 2 ∷ move_of third 3 ∷ move_of first 4 ∷ [])
    ≡ (move_of first 1).move ∷ (move_of first 4).move ∷ []
unfolding first second third move_of moves_of
own_moves = refl

-- The first gets a turn before the other; and does not.
gets_first :
    GetsTurnBefore {P = ℕ} first third
    (replies.Turn (Some first) ∷ replies.Turn (Some third) ∷ [])
unfolding first third GetsTurnBefore
gets_first = inl refl

gets_late :
    GetsTurnBefore {P = ℕ} first third
    (replies.Turn (Some third) ∷ replies.Turn (Some first) ∷ []) → ⊥
unfolding first third GetsTurnBefore
gets_late is = elim is [
  | inl same ↦
      let places : ◌≡◌ {A = ℕ} 7 0 = ap (λ (t : Token). t.place) same in omega (arith, places)
  | inr later ↦ later.0 refl
]

-- A step that was not made takes nothing.
takes_if_made :
    (taken_by_step {P = ℕ} (host_steps.Own first owns.Came) 5 (replies.Own Goes) ≡ 5)
    × (taken_by_step {P = ℕ} (host_steps.Own first owns.Came) 5 replies.NotNow ≡ 0)
    × (given_by_step {P = ℕ} (host_steps.Own first (owns.Went 9)) (replies.Own Goes) ≡ 9)
    × (given_by_step {P = ℕ} (host_steps.Own first (owns.Went 9)) replies.Stale ≡ 0)
unfolding taken_by_step given_by_step
takes_if_made = (refl, refl, refl, refl)
