-- The code as a tree, built from the table: each code leads to its symbol, and thirty bits lead to
-- some symbol.
use Rattle.hpack_text.proofs.Names.{◌≡◌, ℕ, zero, suc, ◌<◌, ◌≤◌, Bool, true, false, ◌&&◌, nat_lt}
use Rattle.hpack_text.proofs.Names.{List, [], ◌∷◌, ◌++◌, length, Option, Some, None, refl, sym, ap}
use Rattle.hpack_text.proofs.Names.{◌∙◌, subst, arith, below_more, ltb-true, append_assoc, rules}
use Rattle.hpack_text.proofs.Names.{and_parts, false≢true, bits_of, groups, code_in, code, tree}
use Rattle.std.proofs.Common.{max, ◌==◌, eqb-true}
use Rattle.hpack_text.specs.Tree.{Tree, leaf, node, insert_path, insert_codes}

-- the symbol to which the bits lead, and the bits that are left
unfoldable pub first_symbol : Tree → List Bool → Option (ℕ × List Bool)
first_symbol (leaf symbol) bit_list = Some (symbol, bit_list)
first_symbol (node l r) [] = None
first_symbol (node l r) (false ∷ more) = first_symbol l more
first_symbol (node l r) (true ∷ more) = first_symbol r more

-- whether the path leads to the symbol, and ends there
unfoldable pub leads_to : Tree → List Bool → ℕ → Bool
leads_to (leaf other) [] symbol = other == symbol
leads_to (leaf other) (bit ∷ path) symbol = false
leads_to (node l r) [] symbol = false
leads_to (node l r) (false ∷ path) symbol = leads_to l path symbol
leads_to (node l r) (true ∷ path) symbol = leads_to r path symbol

-- whether the code of each symbol below n leads to it
unfoldable pub codes_lead : ℕ → Tree → Bool
codes_lead zero t = true
codes_lead (suc n) t = leads_to t (code n) n && codes_lead n t

unfoldable pub same_bit : Bool → Bool → Bool
same_bit true bit = bit
same_bit false true = false
same_bit false false = true

unfoldable pub same_bits : List Bool → List Bool → Bool
same_bits [] [] = true
same_bits [] (y ∷ ys) = false
same_bits (x ∷ xs) [] = false
same_bits (x ∷ xs) (y ∷ ys) = same_bit x y && same_bits xs ys

-- whether each leaf is a symbol whose code is the leaf's path, after the path to the tree
unfoldable pub leaves_hold : Tree → List Bool → Bool
leaves_hold (leaf symbol) path = nat_lt symbol 257 && same_bits path (code symbol)
leaves_hold (node l r) path =
    leaves_hold l (path ++ false ∷ []) && leaves_hold r (path ++ true ∷ [])

unfoldable pub depth : Tree → ℕ
depth (leaf symbol) = 0
depth (node l r) = suc (max (depth l) (depth r))

-- opens the code and the tree, for facts that are computed
unfoldable pub computing_tree : Unit {0}
unfolding bits_of groups code_in code insert_path insert_codes tree first_symbol leads_to codes_lead
    same_bit same_bits leaves_hold depth
computing_tree = tt

-- computed: each code leads to its symbol
all_codes_lead : codes_lead 257 tree ≡ true
unfolding computing_tree
all_codes_lead = refl

-- computed: each leaf is a symbol, at the end of its code
all_leaves_hold : leaves_hold tree [] ≡ true
unfolding computing_tree
all_leaves_hold = refl

-- computed: no code is longer than thirty bits
tree_depth : depth tree ≡ 30
unfolding computing_tree
tree_depth = refl

-- bits that pass the test are equal
pub same_bits-true : (xs ys : List Bool) → same_bits xs ys ≡ true → xs ≡ ys
unfolding same_bits same_bit
same_bits-true [] [] h = refl
same_bits-true [] (y ∷ ys) h = absurd (false≢true h)
same_bits-true (x ∷ xs) [] h = absurd (false≢true h)
same_bits-true (true ∷ xs) (true ∷ ys) h = ap (λ zs. true ∷ zs) (same_bits-true xs ys h)
same_bits-true (true ∷ xs) (false ∷ ys) h = absurd (false≢true h)
same_bits-true (false ∷ xs) (true ∷ ys) h = absurd (false≢true h)
same_bits-true (false ∷ xs) (false ∷ ys) h = ap (λ zs. false ∷ zs) (same_bits-true xs ys h)

-- a test of all symbols below n holds of each
codes_lead-at : (n : ℕ) (t : Tree) → codes_lead n t ≡ true → (symbol : ℕ) → symbol < n
    → leads_to t (code symbol) symbol ≡ true
unfolding codes_lead
codes_lead-at zero t h symbol lt = absurd (omega arith)
codes_lead-at (suc n) t h symbol lt =
    let parts = and_parts (leads_to t (code n) n) (codes_lead n t) h in
    below_more (λ k. leads_to t (code k) k ≡ true) n (codes_lead-at n t parts.1) parts.0 symbol
    (omega arith)

-- A path that leads to a symbol is read as that symbol.
first_symbol-path : (t : Tree) (path more : List Bool) (symbol : ℕ) → leads_to t path symbol ≡ true
    → first_symbol t (path ++ more) ≡ Some (symbol, more)
unfolding leads_to first_symbol
first_symbol-path (leaf other) [] more symbol h =
    ap (λ (s : ℕ). let o : Option (ℕ × List Bool) = Some (s, more) in o) (eqb-true other symbol h)
first_symbol-path (leaf other) (bit ∷ path) more symbol h = absurd (false≢true h)
first_symbol-path (node l r) [] more symbol h = absurd (false≢true h)
first_symbol-path (node l r) (false ∷ path) more symbol h = first_symbol-path l path more symbol h
first_symbol-path (node l r) (true ∷ path) more symbol h = first_symbol-path r path more symbol h

-- What begins with a code is read as its symbol.
pub first_symbol-code : (symbol : ℕ) (more : List Bool) → symbol < 257
    → first_symbol tree (code symbol ++ more) ≡ Some (symbol, more)
first_symbol-code symbol more lt = search (rules, first_symbol-path, codes_lead-at, all_codes_lead)

-- the bits begin with the code of a symbol
abbrev pub BeginsWithCode : List Bool → Type 0
BeginsWithCode bit_list =
    (symbol : ℕ) × (more : List Bool) × (symbol < 257) × (bit_list ≡ code symbol ++ more)

-- Bits that are as many as a tree is deep lead to a leaf of it.
reaches_leaf : (t : Tree) (path bit_list : List Bool) → leaves_hold t path ≡ true
    → depth t ≤ length bit_list → BeginsWithCode (path ++ bit_list)
unfolding leaves_hold depth
reaches_leaf (leaf symbol) path bit_list h deep =
    let parts = and_parts (nat_lt symbol 257) (same_bits path (code symbol)) h in (
      symbol,
      bit_list,
      ltb-true symbol 257 parts.0,
      ap (λ (xs : List Bool). xs ++ bit_list) (same_bits-true path (code symbol) parts.1),
    )
reaches_leaf (node l r) path [] h deep = absurd (omega arith)
reaches_leaf (node l r) path (false ∷ more) h deep =
    let parts = and_parts (leaves_hold l (path ++ false ∷ [])) (leaves_hold r (path ++ true ∷ []))
    h in
    subst BeginsWithCode (append_assoc path (false ∷ []) more)
    (reaches_leaf l (path ++ false ∷ []) more parts.0 (omega arith))
reaches_leaf (node l r) path (true ∷ more) h deep =
    let parts = and_parts (leaves_hold l (path ++ false ∷ [])) (leaves_hold r (path ++ true ∷ []))
    h in
    subst BeginsWithCode (append_assoc path (true ∷ []) more)
    (reaches_leaf r (path ++ true ∷ []) more parts.1 (omega arith))

-- The code is complete.
pub begins_with_code : (bit_list : List Bool) → 30 ≤ length bit_list → BeginsWithCode bit_list
begins_with_code bit_list long =
    reaches_leaf tree [] bit_list all_leaves_hold (omega (arith, tree_depth))

-- No code begins another: what follows is the same too.
pub same_symbol : (symbol other : ℕ) (more following : List Bool) → symbol < 257 → other < 257
    → code symbol ++ more ≡ code other ++ following → (symbol ≡ other) × (more ≡ following)
same_symbol symbol other more following lt lt' e =
    let p : ◌≡◌ {A = Option (ℕ × List Bool)} (Some (symbol, more)) (Some (other, following)) =
    sym (first_symbol-code symbol more lt)
    ∙ (ap (first_symbol tree) e ∙ first_symbol-code other following lt') in
    let q : ◌≡◌ {A = ℕ × List Bool} (symbol, more) (other, following) = cc in
    (ap (λ (x : ℕ × List Bool). x.0) q, ap (λ (x : ℕ × List Bool). x.1) q)
