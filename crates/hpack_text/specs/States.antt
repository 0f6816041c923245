-- The states of a reader of the code by half octets: the bits of a code that isn't complete yet.
use Rattle.std.specs.Prelude.{◌≡◌, ℕ, ◌/◌, ◌%◌, ◌<◌, ◌≤◌, Bool, true, false, List, [], ◌∷◌, ◌++◌}
use Rattle.std.specs.Prelude.{reverse, get_or, Option, Some, None}
use Rattle.std.specs.List.{AllByRecursion}
use Rattle.hpack_text.specs.Bits.{IsOctet, bits_of}
use Rattle.hpack_text.specs.Huffman.{code, codes, end_symbol}
use Rattle.hpack_text.specs.Tree.{Tree, leaf, node, tree}

-- The paths to the inner nodes of a tree: first its own, then those after a one, then those after a
-- zero. The path to the tree is given, its last bit first.
unfoldable pub paths_from : Tree → List Bool → List (List Bool)
paths_from (leaf symbol) path = []
paths_from (node after_zero after_one) path =
    reverse path ∷ paths_from after_one (true ∷ path) ++ paths_from after_zero (false ∷ path)

-- The states: the 256 proper prefixes of codes. A state's number is its place: 0 for no bits, and n
-- for n ones, up to 29.
-- rule: HPACK B The code is read by half octets, from state to state
unfoldable pub states : List (List Bool)
states = paths_from tree []

-- the bits of a state
-- rule: HPACK B The code is read by half octets, from state to state
abbrev pub prefix_of : ℕ → List Bool
prefix_of state = get_or states state []

-- the bits of a state, and four more
-- rule: HPACK B The code is read by half octets, from state to state
abbrev pub stepped : ℕ → ℕ → List Bool
stepped state half = prefix_of state ++ bits_of 4 half

-- the code of a symbol, if there is one
abbrev pub code_if_some : Option ℕ → List Bool
code_if_some (Some symbol) = code symbol
code_if_some None = []

-- The bits begin with the code of EOS.
-- rule: HPACK B The code is read by half octets, from state to state
abbrev pub BeginsWithEnd : List Bool → Type 0
BeginsWithEnd bit_list = (more : List Bool) × (bit_list ≡ code end_symbol ++ more)

-- A step as it is packed: the next state, 256 times the symbol, and 65536 where there is a symbol;
-- or 131072 where the bits begin with the code of EOS.
-- rule: HPACK B The code is read by half octets, from state to state
pub record IsHalfStep (state half step : ℕ) : Type 0 where
  pub ended : 131072 ≤ step → BeginsWithEnd (stepped state half)
  pub symbol : 65536 ≤ step → step < 131072
      → stepped state half ≡ code (step / 256 % 256) ++ prefix_of (step % 256)
  pub within : step < 65536 → stepped state half ≡ prefix_of (step % 256)

-- From a state these bits were read: the octets that were appended, and the state after them.
pub record ReadsBits (old new : List ℕ) (state : ℕ) (bit_list : List Bool) (next : ℕ) : Type 0 where
  pub added : List ℕ
  pub joined : new ≡ old ++ added
  pub octets : AllByRecursion IsOctet added
  pub encoded : codes added ++ prefix_of next ≡ prefix_of state ++ bit_list

-- From a state these bits were read: the octets that were appended, and after them the code of EOS.
pub record ReadsEnd (old new : List ℕ) (state : ℕ) (bit_list : List Bool) : Type 0 where
  pub added : List ℕ
  pub joined : new ≡ old ++ added
  pub octets : AllByRecursion IsOctet added
  pub more : List Bool
  pub encoded : prefix_of state ++ bit_list ≡ codes added ++ (code end_symbol ++ more)
