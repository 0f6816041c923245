-- The states and the table of steps are those of the code.
use Rattle.hpack_text.proofs.Names.{◌≡◌, ℕ, zero, suc, ◌+◌, ◌*◌, ◌/◌, ◌%◌, ◌<◌, ◌≤◌, if◌then◌else◌}
use Rattle.hpack_text.proofs.Names.{Bool, true, false, ◌&&◌, nat_lt, nat_le, List, [], ◌∷◌, ◌++◌}
use Rattle.hpack_text.proofs.Names.{length, Option, Some, None, get_or, drop, replicate, refl, sym}
use Rattle.hpack_text.proofs.Names.{ap, ◌∙◌, subst, arith, leb-true, ltb-true, length-append, rules}
use Rattle.hpack_text.proofs.Names.{and_parts, lt-leb, false≢true, AllByRecursion, IsOctet, bits_of}
use Rattle.hpack_text.proofs.Names.{code, codes, tree, prefix_of, stepped, IsHalfStep}
use Rattle.std.proofs.Common.{le-leb}
use Rattle.std.proofs.lemmas.List.{get_or-drop}
use Rattle.hpack_text.specs.declared.huffman.steps.TheConstants.{STEPS}
use Rattle.hpack_text.specs.States.{paths_from, states, BeginsWithEnd}
use Rattle.hpack_text.proofs.TreeLemmas.{computing_tree, same_bits, same_bits-true, first_symbol}
use Rattle.hpack_text.proofs.TreeLemmas.{first_symbol-code, same_symbol}
use Rattle.hpack_text.proofs.CodeLemmas.{IsOpen}
use Rattle.hpack_text.proofs.TableLemmas.{all_below, all_below-at}

-- opens the states, for facts that are computed
unfoldable pub computing_states : Unit {0}
unfolding paths_from states
computing_states = tt

-- computed: there are 256 states
pub states_counted : length states ≡ 256
unfolding computing_tree computing_states
states_counted = refl

-- computed: the first state has no bits
pub first_state : prefix_of 0 ≡ []
unfolding computing_tree computing_states
first_state = refl

-- whether bits are what a step says
unfoldable step_holds : ℕ → List Bool → Bool
step_holds step bit_list =
    if nat_le 131072 step then same_bits bit_list (code 256 ++ drop 30 bit_list)
    else if nat_le 65536 step then
    same_bits bit_list (code (step / 256 % 256) ++ get_or states (step % 256) [])
    else same_bits bit_list (get_or states (step % 256) [])

-- whether the first n steps are those of a state, from some half octet on
unfoldable row_holds : ℕ → ℕ → List ℕ → List Bool → Bool
row_holds zero half steps path = true
row_holds (suc n) half [] path = false
row_holds (suc n) half (step ∷ steps) path =
    step_holds step (path ++ bits_of 4 half) && row_holds n (suc half) steps path

-- whether the steps are those of states, sixteen for each
unfoldable rows_hold : List ℕ → List (List Bool) → Bool
rows_hold steps [] = true
rows_hold steps (path ∷ paths) = row_holds 16 0 steps path && rows_hold (drop 16 steps) paths

-- computed: the table's steps are those of the states
all_steps_hold : rows_hold STEPS states ≡ true
unfolding computing_tree computing_states step_holds row_holds rows_hold
all_steps_hold = refl

-- Each step of a row that holds is the one of its half octet.
row_holds-at : (n half : ℕ) (steps : List ℕ) (path : List Bool)
    → row_holds n half steps path ≡ true → (k : ℕ) → k < n
    → step_holds (get_or steps k 0) (path ++ bits_of 4 (half + k)) ≡ true
unfolding row_holds
row_holds-at zero half steps path h k lt = absurd (omega arith)
row_holds-at (suc n) half [] path h k lt = absurd (false≢true h)
row_holds-at (suc n) half (step ∷ steps) path h zero lt = search rules
row_holds-at (suc n) half (step ∷ steps) path h (suc k) lt =
    let same : suc half + k ≡ half + suc k = omega arith in
    let parts = and_parts (step_holds step (path ++ bits_of 4 half))
    (row_holds n (suc half) steps path) h in
    subst (λ m. step_holds (get_or steps k 0) (path ++ bits_of 4 m) ≡ true) same
    (row_holds-at n (suc half) steps path parts.1 k (omega arith))

-- Each step of a table that holds is the one of its state and its half octet.
rows_hold-at : (steps : List ℕ) (paths : List (List Bool)) → rows_hold steps paths ≡ true
    → (state half : ℕ) → state < length paths → half < 16
    → step_holds (get_or steps (16 * state + half) 0) (get_or paths state [] ++ bits_of 4 half)
    ≡ true
unfolding rows_hold
rows_hold-at steps [] h state half lt few = absurd (omega arith)
rows_hold-at steps (path ∷ paths) h zero half lt few =
    let place : half ≡ 16 * 0 + half = omega arith in
    let first : 0 + half ≡ half = omega arith in
    let parts = and_parts (row_holds 16 0 steps path) (rows_hold (drop 16 steps) paths) h in
    subst (λ m. step_holds (get_or steps m 0) (path ++ bits_of 4 half) ≡ true) place
    (subst (λ m. step_holds (get_or steps half 0) (path ++ bits_of 4 m) ≡ true) first
    (row_holds-at 16 0 steps path parts.0 half few))
rows_hold-at steps (path ∷ paths) h (suc state) half lt few =
    let place : 16 + (16 * state + half) ≡ 16 * suc state + half = omega arith in
    let parts = and_parts (row_holds 16 0 steps path) (rows_hold (drop 16 steps) paths) h in
    let same :
    get_or (drop 16 steps) (16 * state + half) 0 ≡ get_or steps (16 * suc state + half) 0 =
    get_or-drop 16 steps (16 * state + half) 0 ∙ ap (λ (m : ℕ). get_or steps m 0) place in
    subst (λ step. step_holds step (get_or paths state [] ++ bits_of 4 half) ≡ true) same
    (rows_hold-at (drop 16 steps) paths parts.1 state half (omega arith) few)

-- a choice that is true, and whose test is true
chosen_true : (b x y : Bool) → (if b then x else y) ≡ true → b ≡ true → x ≡ true
chosen_true b x y h e = search rules

-- a choice that is true, and whose test is false
chosen_false : (b x y : Bool) → (if b then x else y) ≡ true → b ≡ false → y ≡ true
chosen_false b x y h e = search rules

-- A step that holds of the bits of a state and of four more is a step from that state.
step_is : (state half step : ℕ) → step_holds step (stepped state half) ≡ true
    → IsHalfStep state half step
unfolding step_holds
step_is state half step h =
    let bit_list = stepped state half in
    let at_end = same_bits bit_list (code 256 ++ drop 30 bit_list) in
    let at_symbol = same_bits bit_list (code (step / 256 % 256) ++ prefix_of (step % 256)) in
    let in_code = same_bits bit_list (prefix_of (step % 256)) in
    let no_end : step < 131072 → (if nat_le 65536 step then at_symbol else in_code) ≡ true =
    λ below. chosen_false (nat_le 131072 step) at_end
    (if nat_le 65536 step then at_symbol else in_code) h (lt-leb 131072 step below) in
    record {
      ended = λ least. (
        drop 30 bit_list,
        same_bits-true bit_list (code 256 ++ drop 30 bit_list)
            (chosen_true (nat_le 131072 step) at_end
            (if nat_le 65536 step then at_symbol else in_code) h (le-leb 131072 step least)),
      );
      symbol = λ least below.
          same_bits-true bit_list (code (step / 256 % 256) ++ prefix_of (step % 256))
          (chosen_true (nat_le 65536 step) at_symbol in_code (no_end below)
          (le-leb 65536 step least));
      within = λ below. same_bits-true bit_list (prefix_of (step % 256))
          (chosen_false (nat_le 65536 step) at_symbol in_code (no_end (omega arith))
          (lt-leb 65536 step below));
    }

-- The table's step from a state by a half octet is one of them.
pub table_step : (state half : ℕ) → state < 256 → half < 16
    → IsHalfStep state half (get_or STEPS (state * 16 + half) 0)
table_step state half lt few =
    let place : 16 * state + half ≡ state * 16 + half = omega arith in
    subst (λ m. IsHalfStep state half (get_or STEPS m 0)) place
    (step_is state half (get_or STEPS (16 * state + half) 0)
    (rows_hold-at STEPS states all_steps_hold state half (omega (arith, states_counted)) few))

-- whether nothing was found
unfoldable is_nothing : Option (ℕ × List Bool) → Bool
is_nothing None = true
is_nothing (Some found) = false

-- whether no code begins any of the paths
unfoldable all_open : List (List Bool) → Bool
all_open [] = true
all_open (path ∷ paths) = is_nothing (first_symbol tree path) && all_open paths

-- computed: no code begins a state
all_states_open : all_open states ≡ true
unfolding computing_tree computing_states is_nothing all_open
all_states_open = refl

-- what holds of all paths holds of each
all_open-at : (paths : List (List Bool)) → all_open paths ≡ true → (k : ℕ) → k < length paths
    → is_nothing (first_symbol tree (get_or paths k [])) ≡ true
unfolding all_open
all_open-at [] h k lt = absurd (omega arith)
all_open-at (path ∷ paths) h zero lt =
    (and_parts (is_nothing (first_symbol tree path)) (all_open paths) h).0
all_open-at (path ∷ paths) h (suc k) lt =
    all_open-at paths (and_parts (is_nothing (first_symbol tree path)) (all_open paths) h).1 k
    (omega arith)

-- No code begins the bits of a state.
pub state_open : (state : ℕ) → state < 256 → IsOpen (prefix_of state)
unfolding is_nothing
state_open state lt symbol more small e =
    let open_there = all_open-at states all_states_open state (omega (arith, states_counted)) in
    let found : first_symbol tree (prefix_of state) ≡ Some (symbol, more) =
    ap (first_symbol tree) e ∙ first_symbol-code symbol more small in
    false≢true (sym (ap is_nothing found) ∙ open_there)

-- The bits of a state don't begin with the code of EOS.
pub no_end_within : (next : ℕ) (bit_list : List Bool) → next < 256 → bit_list ≡ prefix_of next
    → BeginsWithEnd bit_list → ⊥
no_end_within next bit_list lt e ends =
    state_open next lt 256 ends.0 (omega arith) (sym e ∙ ends.1)

-- Bits that begin with the code of an octet don't begin with the code of EOS.
pub no_end_at_symbol : (symbol next : ℕ) (bit_list : List Bool) → symbol < 256
    → bit_list ≡ code symbol ++ prefix_of next → BeginsWithEnd bit_list → ⊥
no_end_at_symbol symbol next bit_list small e ends = search (rules, same_symbol, prefix_of)

-- whether bits are at most seven ones
unfoldable is_padding : List Bool → Bool
is_padding path = same_bits path (replicate (length path) true) && nat_le (length path) 7

-- whether only a state below 8 is at most seven ones
unfoldable pads_below_eight : ℕ → Bool
pads_below_eight state =
    if is_padding (get_or states state []) then nat_lt state 8 else true

-- computed: only the first eight states are at most seven ones
only_eight_pad : all_below pads_below_eight 256 ≡ true
unfolding computing_tree computing_states all_below is_padding pads_below_eight
only_eight_pad = refl

-- whether so many ones are padding, and are the state of that number
unfoldable has_ones : ℕ → Bool
has_ones n = is_padding (replicate n true) && same_bits (get_or states n []) (replicate n true)

-- computed: the first eight states are ones
first_eight_are_ones : all_below has_ones 8 ≡ true
unfolding computing_tree computing_states all_below is_padding has_ones
first_eight_are_ones = refl

-- The first eight states are so many ones.
pub state_ones : (n : ℕ) → n ≤ 7 → prefix_of n ≡ replicate n true
unfolding has_ones
state_ones n few =
    same_bits-true (prefix_of n) (replicate n true)
    (and_parts (is_padding (replicate n true)) (same_bits (get_or states n []) (replicate n true))
    (all_below-at has_ones 8 first_eight_are_ones n (omega arith))).1

-- Other states aren't at most seven ones.
pub state_no_padding : (state n : ℕ) → 7 < state → state < 256 → n ≤ 7
    → prefix_of state ≡ replicate n true → ⊥
unfolding has_ones pads_below_eight
state_no_padding state n least lt few e =
    let ones = (and_parts (is_padding (replicate n true))
    (same_bits (get_or states n []) (replicate n true))
    (all_below-at has_ones 8 first_eight_are_ones n (omega arith))).0 in
    let padding : is_padding (prefix_of state) ≡ true = ap is_padding e ∙ ones in
    let below = ltb-true state 8 (chosen_true (is_padding (prefix_of state)) (nat_lt state 8) true
    (all_below-at pads_below_eight 256 only_eight_pad state lt) padding) in
    omega arith

-- whether a symbol's code has five bits at least
unfoldable has_five : ℕ → Bool
has_five symbol = nat_le 5 (length (code symbol))

-- computed: each code has five bits at least
all_have_five : all_below has_five 256 ≡ true
unfolding computing_tree all_below has_five
all_have_five = refl

-- The codes of a text are five times as long at least.
pub five_bits : (text : List ℕ) → AllByRecursion IsOctet text
    → 5 * length text ≤ length (codes text)
unfolding has_five
five_bits [] all = omega arith
five_bits (octet ∷ text) all =
    let five = leb-true 5 (length (code octet))
    (all_below-at has_five 256 all_have_five octet all.0) in
    omega (arith, length-append (code octet) (codes text), five, five_bits text all.1)
