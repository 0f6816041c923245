-- The code as a tree, built from the table.
use Rattle.std.specs.Prelude.{ℕ, zero, suc, Bool, true, false, List, [], ◌∷◌}
use Rattle.hpack_text.specs.Huffman.{code}

-- A walk goes left at a zero and right at a one.
pub data Tree : Type 0 where
  leaf : ℕ → Tree
  node : Tree → Tree → Tree

-- the tree with a path to the symbol; 512 stands where no path leads yet
unfoldable pub insert_path : List Bool → ℕ → Tree → Tree
insert_path [] symbol t = leaf symbol
insert_path (false ∷ path) symbol (leaf other) =
    node (insert_path path symbol (leaf 512)) (leaf 512)
insert_path (true ∷ path) symbol (leaf other) = node (leaf 512) (insert_path path symbol (leaf 512))
insert_path (false ∷ path) symbol (node l r) = node (insert_path path symbol l) r
insert_path (true ∷ path) symbol (node l r) = node l (insert_path path symbol r)

-- the tree with the codes of all symbols below n
unfoldable pub insert_codes : ℕ → Tree → Tree
insert_codes zero t = t
insert_codes (suc n) t = insert_codes n (insert_path (code n) n t)

unfoldable pub tree : Tree
tree = insert_codes 257 (leaf 512)
