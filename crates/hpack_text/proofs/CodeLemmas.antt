-- Texts and their codes: which text octets encode, what stands after the longest text, and which
-- octets are written.
use Rattle.hpack_text.proofs.Names.{◌≡◌, ℕ, ◌+◌, ◌-◌, ◌*◌, ◌<◌, ◌≤◌, Bool, true, List, [], ◌∷◌}
use Rattle.hpack_text.proofs.Names.{◌++◌, length, replicate, Option, Some, None, refl, sym, ap, ap₂}
use Rattle.hpack_text.proofs.Names.{◌∙◌, arith, append_assoc, append-nil, length-append, rules}
use Rattle.hpack_text.proofs.Names.{AllByRecursion, TextFault, IsOctet, bits, octets_of_bits, code}
use Rattle.hpack_text.proofs.Names.{codes, HasEndSymbol, huffman_bits, tree, common_steps}
use Rattle.std.proofs.lemmas.List.{length-replicate, replicate-append-replicate, nil_from_length}
use Rattle.hpack_text.specs.declared.fault.TextFault.TheVariants as faults
use Rattle.hpack_text.specs.Huffman.{Huff, IsLongest, HasBadPadding, HuffFault, padding_of}
use Rattle.hpack_text.specs.Huffman.{huffman_length}
use Rattle.hpack_text.proofs.BitLemmas.{length-bits, octets_of-bits, are_octets, AreOctets}
use Rattle.hpack_text.proofs.TreeLemmas.{computing_tree, first_symbol, first_symbol-code}
use Rattle.hpack_text.proofs.TreeLemmas.{same_symbol}

-- No code of a symbol begins the bits, EOS included.
abbrev pub IsOpen : List Bool → Type 0
IsOpen bit_list = (symbol : ℕ) (more : List Bool) → symbol < 257
    → bit_list ≡ code symbol ++ more → ⊥

-- No code of an octet begins the bits.
abbrev pub IsStuck : List Bool → Type 0
IsStuck bit_list = (symbol : ℕ) (more : List Bool) → symbol < 256 → bit_list ≡ code symbol ++ more
    → ⊥

-- what is after the longest text, where other codes begin the same bits
abbrev pub After : List ℕ → List ℕ → List Bool → List Bool → Type 0
After text other following more =
    (tail : List ℕ) × AllByRecursion IsOctet tail × (text ≡ other ++ tail)
    × (more ≡ codes tail ++ following)

-- Where nothing can be read after a text, each other text that begins the bits begins that text.
pub other_begins : (text other : List ℕ) (following more : List Bool) → AllByRecursion IsOctet text
    → AllByRecursion IsOctet other → IsStuck following
    → codes text ++ following ≡ codes other ++ more → After text other following more
other_begins [] [] following more all all' stuck e = ([], tt, refl, sym e)
other_begins [] (o ∷ others) following more all all' stuck e =
    absurd (stuck o (codes others ++ more) all'.0 (e ∙ append_assoc (code o) (codes others) more))
other_begins (t ∷ texts) [] following more all all' stuck e = (t ∷ texts, all, refl, sym e)
other_begins (t ∷ texts) (o ∷ others) following more all all' stuck e =
    let joined : code t ++ (codes texts ++ following) ≡ code o ++ (codes others ++ more) =
    sym (append_assoc (code t) (codes texts) following)
    ∙ (e ∙ append_assoc (code o) (codes others) more) in
    let (same, next) =
    same_symbol t o (codes texts ++ following) (codes others ++ more) (omega (arith, all.0))
    (omega (arith, all'.0)) joined in
    let (tail, octets, split, after) =
    other_begins texts others following more all.1 all'.1 stuck next in
    (tail, octets, ap₂ (λ (x : ℕ) (xs : List ℕ). x ∷ xs) same split, after)

-- A text after which nothing can be read is the longest.
pub longest : (bit_list : List Bool) (text : List ℕ) (following : List Bool)
    → AllByRecursion IsOctet text → bit_list ≡ codes text ++ following → IsStuck following
    → IsLongest bit_list text following
longest bit_list text following all split stuck = search (rules, other_begins, length-append)

-- computed: seven ones lead to no symbol
seven_ones : first_symbol tree (replicate 7 true) ≡ None
unfolding computing_tree
seven_ones = refl

-- No code begins at most seven ones.
pub ones_open : (n : ℕ) → n ≤ 7 → IsOpen (replicate n true)
ones_open n few symbol more lt e =
    let fill = replicate (7 - n) true in
    let count : n + (7 - n) ≡ 7 = omega arith in
    let padded : replicate 7 true ≡ code symbol ++ (more ++ fill) =
    ap (λ (k : ℕ). replicate k true) (sym count)
    ∙ (sym (replicate-append-replicate n (7 - n) true)
    ∙ (ap (λ (xs : List Bool). xs ++ fill) e ∙ append_assoc (code symbol) more fill)) in
    let impossible : ◌≡◌ {A = Option (ℕ × List Bool)} None (Some (symbol, more ++ fill)) =
    sym seven_ones ∙ (ap (first_symbol tree) padded ∙ first_symbol-code symbol (more ++ fill) lt) in
    cc

-- No text but the empty one begins at most seven ones.
ones_hold_no_text : (n : ℕ) (text : List ℕ) (following : List Bool) → n ≤ 7
    → AllByRecursion IsOctet text → replicate n true ≡ codes text ++ following → text ≡ []
ones_hold_no_text n [] following few all e = refl
ones_hold_no_text n (t ∷ text) following few all e = search (rules, ones_open, append_assoc)

-- After a text that nothing can follow, at most seven ones are read as they are.
ones_after : (text other : List ℕ) (following : List Bool) (n : ℕ) → n ≤ 7
    → AllByRecursion IsOctet text → AllByRecursion IsOctet other → IsStuck following
    → codes text ++ following ≡ codes other ++ replicate n true
    → (text ≡ other) × (following ≡ replicate n true)
ones_after text other following n few all all' stuck e =
    search (rules, other_begins, ones_hold_no_text, append-nil)

-- Nothing can be read where no code begins.
pub stuck_of_open : (bit_list : List Bool) → IsOpen bit_list → IsStuck bit_list
stuck_of_open bit_list is_open symbol more lt e = is_open symbol more (omega arith) e

-- The code of an octet doesn't begin what the code of EOS begins.
pub end_stuck : (more : List Bool) → IsStuck (code 256 ++ more)
end_stuck more symbol following lt e = grind (arith, common_steps, same_symbol)

-- Octets encode one text at most.
pub one_text_lem : (text other octets : List ℕ) → Huff text octets → Huff other octets
    → text ≡ other
one_text_lem text other octets h h' = search (rules, ones_after, stuck_of_open, ones_open)

-- Octets in which the code of EOS stands after a text have that fault.
pub end_symbol_fault : (octets text : List ℕ) (more : List Bool) → AllByRecursion IsOctet text
    → bits octets ≡ codes text ++ (code 256 ++ more) → HasEndSymbol octets
end_symbol_fault octets text more all split = record {
  none = λ other h.
      let after = ones_after text other (code 256 ++ more) h.padding h.short all h.text_octets
      (end_stuck more) (sym split ∙ h.encoded) in
      ones_open h.padding h.short 256 more (omega arith) (sym after.1);
  text = text;
  more = more;
  longest = longest (bits octets) text (code 256 ++ more) all split (end_stuck more);
}

-- Octets in which no code stands after a text, and no padding either, have that fault.
pub bad_padding_fault : (octets text : List ℕ) (following : List Bool) → AllByRecursion IsOctet text
    → bits octets ≡ codes text ++ following → IsOpen following
    → ((n : ℕ) → n ≤ 7 → following ≡ replicate n true → ⊥) → HasBadPadding octets
bad_padding_fault octets text following all split is_open no_padding = record {
  none = λ other h.
      let after = ones_after text other following h.padding h.short all h.text_octets
      (stuck_of_open following is_open) (sym split ∙ h.encoded) in
      no_padding h.padding h.short after.1;
  text = text;
  following = following;
  longest = longest (bits octets) text following all split (stuck_of_open following is_open);
  no_end = λ more e. is_open 256 more (omega arith) e;
}

-- No octets have both faults.
pub one_coding_fault_lem : (octets : List ℕ) → HasEndSymbol octets → HasBadPadding octets → ⊥
one_coding_fault_lem octets e p =
    let (tail, all, split, after) =
    other_begins e.text p.text (code 256 ++ e.more) p.following e.longest.text_octets
    p.longest.text_octets
    (end_stuck e.more) (sym e.longest.split ∙ p.longest.split) in
    let bound : length e.text ≤ length p.text =
    p.longest.longest e.text (code 256 ++ e.more) e.longest.text_octets e.longest.split in
    let counted : length e.text ≡ length p.text + length tail =
    ap (λ (xs : List ℕ). length xs) split ∙ length-append p.text tail in
    let none : tail ≡ [] = nil_from_length tail (omega arith) in
    p.no_end e.more (after ∙ ap (λ (xs : List ℕ). codes xs ++ (code 256 ++ e.more)) none)

-- Where octets encode a text, no fault but running out of memory is one of theirs.
pub only_huff_memory : (octets text : List ℕ) (fault : TextFault) → Huff text octets
    → HuffFault octets fault → fault ≡ faults.Memory
only_huff_memory octets text faults.Memory encoded h = refl
only_huff_memory octets text faults.EndSymbol encoded h = absurd (h.none text encoded)
only_huff_memory octets text faults.BadPadding encoded h = absurd (h.none text encoded)
only_huff_memory octets text fault encoded h = search rules

-- the bits of a text's codes, and the ones that pad the last octet
abbrev pub padded : List ℕ → List Bool
padded text = codes text ++ replicate (padding_of (length (codes text))) true

-- The ones pad the last octet.
length-padded : (text : List ℕ) → length (padded text) ≡ 8 * huffman_length text
length-padded text = grind (arith, common_steps)

-- What is written is a full number of octets.
pub padded_octets : (text : List ℕ) → AreOctets (padded text) (huffman_length text)
padded_octets text = are_octets (huffman_length text) (padded text) (length-padded text)

-- What is written encodes the text.
pub huffman_bits_encode : (text : List ℕ) → AllByRecursion IsOctet text
    → Huff text (huffman_bits text)
unfolding huffman_bits
huffman_bits_encode text all = grind (arith, common_steps, padded_octets, padding_of)

-- as many octets as the bits take, rounded up
pub length-huffman_bits : (text : List ℕ) → length (huffman_bits text) ≡ huffman_length text
unfolding huffman_bits
length-huffman_bits text = (padded_octets text).counted

-- Octets whose bits are the codes and a padding of at most seven ones are those that are written.
pub is_huffman_bits : (text octets : List ℕ) (padding : ℕ) → AllByRecursion IsOctet octets
    → padding ≤ 7 → bits octets ≡ codes text ++ replicate padding true → octets ≡ huffman_bits text
unfolding huffman_bits
is_huffman_bits text octets padding all short encoded =
    let counted : 8 * length octets ≡ length (codes text) + padding =
    sym (length-bits octets)
    ∙ (ap (λ (xs : List Bool). length xs) encoded
    ∙ (length-append (codes text) (replicate padding true)
    ∙ ap (λ n. length (codes text) + n) (length-replicate padding true))) in
    let same : padding ≡ padding_of (length (codes text)) = omega arith in
    sym (octets_of-bits octets all)
    ∙ ap octets_of_bits (encoded ∙ ap (λ (n : ℕ). codes text ++ replicate n true) same)

-- A text has one encoding.
pub only_huffman_bits : (text octets : List ℕ) → Huff text octets → octets ≡ huffman_bits text
only_huffman_bits text octets h =
    is_huffman_bits text octets h.padding h.octets_octets h.short h.encoded
