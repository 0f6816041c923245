-- Reading half octets as a text: what was read so far, and what EOS means for all octets.
use Rattle.hpack_text.proofs.Names.{◌≡◌, ℕ, suc, ◌+◌, ◌*◌, ◌/◌, ◌%◌, ◌<◌, ◌≤◌, Bool, List, [], ◌∷◌}
use Rattle.hpack_text.proofs.Names.{◌++◌, length, get_or, take, drop, sym, ap, ◌∙◌, subst, Option}
use Rattle.hpack_text.proofs.Names.{Some, None, arith, append_assoc, append-nil, length-append}
use Rattle.hpack_text.proofs.Names.{rules, flat_map-append, common_steps, take-append-drop}
use Rattle.hpack_text.proofs.Names.{AllByRecursion, IsOctet, bits_of, bits, code, codes}
use Rattle.hpack_text.proofs.Names.{HasEndSymbol, prefix_of, stepped, ReadsBits}
use Rattle.std.proofs.Common.{Fits, w8, MatchOption}
use Rattle.hpack_text.specs.States.{BeginsWithEnd, ReadsEnd}
use Rattle.hpack_text.proofs.BitLemmas.{length-bits_of, bits_of-split}
use Rattle.hpack_text.proofs.CodeLemmas.{end_symbol_fault}
use Rattle.hpack_text.proofs.StateLemmas.{first_state, five_bits}
use Rattle.hpack_text.proofs.WriteLemmas.{all_octets-append}

-- what is read where no code ends
pub reads_within : (old : List ℕ) (state half next : ℕ) → stepped state half ≡ prefix_of next
    → ReadsBits old old state (bits_of 4 half) next
reads_within old state half next e = search rules

-- what is read where the code of an octet ends
pub reads_symbol : (old new : List ℕ) (state half symbol next : ℕ) → new ≡ old ++ symbol ∷ []
    → symbol < 256 → stepped state half ≡ code symbol ++ prefix_of next
    → ReadsBits old new state (bits_of 4 half) next
reads_symbol old new state half symbol next pushed small e = search rules

-- what is read where the code of EOS ends
pub reads_end : (old : List ℕ) (state half : ℕ) → BeginsWithEnd (stepped state half)
    → ReadsEnd old old state (bits_of 4 half)
reads_end old state half ends = record {
  added = [];
  joined = sym (append-nil old);
  octets = tt;
  more = ends.0;
  encoded = ends.1;
}

-- Where there is room for the bits read before, there is room for one octet more.
pub room_for_symbol : (len state half symbol next capacity : ℕ) → symbol < 256
    → stepped state half ≡ code symbol ++ prefix_of next
    → 5 * len + length (prefix_of state) ≤ 5 * capacity → len < capacity
room_for_symbol len state half symbol next capacity small e room =
    omega (
      arith,
      five_bits (symbol ∷ []) (small, tt),
      ap (λ (xs : List Bool). length xs) (append-nil (code symbol)),
      ap (λ (xs : List Bool). length xs) e,
      length-append (code symbol) (prefix_of next),
      length-append (prefix_of state) (bits_of 4 half),
      length-bits_of 4 half,
    )

-- An octet's bits are those of its halves.
pub octet_halves : (octet : ℕ) → bits_of 8 octet ≡ bits_of 4 (octet / 16) ++ bits_of 4 (octet % 16)
octet_halves octet = bits_of-split 4 4 octet

-- What is read in two steps is read.
pub reads_both : (old mid new : List ℕ) (state between next : ℕ) (first second : List Bool)
    → ReadsBits old mid state first between → ReadsBits mid new between second next
    → ReadsBits old new state (first ++ second) next
reads_both old mid new state between next first second a b =
    search (rules, append_assoc, all_octets-append, prefix_of, flat_map-append)

-- EOS in the second step is EOS.
pub reads_then_end : (old mid new : List ℕ) (state between : ℕ) (first second : List Bool)
    → ReadsBits old mid state first between → ReadsEnd mid new between second
    → ReadsEnd old new state (first ++ second)
reads_then_end old mid new state between first second a b =
    search (rules, append_assoc, all_octets-append, prefix_of, flat_map-append)

-- EOS is EOS however many bits follow.
pub end_then_more : (old new : List ℕ) (state : ℕ) (first second : List Bool)
    → ReadsEnd old new state first → ReadsEnd old new state (first ++ second)
end_then_more old new state first second a = record {
  added = a.added;
  joined = a.joined;
  octets = a.octets;
  more = a.more ++ second;
  encoded = sym (append_assoc (prefix_of state) first second)
      ∙ (ap (λ (xs : List Bool). xs ++ second) a.encoded
      ∙ (append_assoc (codes a.added) (code 256 ++ a.more) second
      ∙ ap (λ (xs : List Bool). codes a.added ++ xs) (append_assoc (code 256) a.more second)));
}

-- EOS in the first half of an octet is EOS in the octet.
pub end_in_first_half : (old new : List ℕ) (state octet : ℕ)
    → ReadsEnd old new state (bits_of 4 (octet / 16)) → ReadsEnd old new state (bits_of 8 octet)
end_in_first_half old new state octet a =
    subst (ReadsEnd old new state) (sym (octet_halves octet))
    (end_then_more old new state (bits_of 4 (octet / 16)) (bits_of 4 (octet % 16)) a)

-- What the second half of an octet leads to is what the octet leads to.
pub read_second_half : (result : Option ℕ) (old mid new : List ℕ) (state between octet : ℕ)
    → ReadsBits old mid state (bits_of 4 (octet / 16)) between
    → MatchOption result (ReadsEnd mid new between (bits_of 4 (octet % 16)))
    (ReadsBits mid new between (bits_of 4 (octet % 16)))
    → MatchOption result (ReadsEnd old new state (bits_of 8 octet))
    (ReadsBits old new state (bits_of 8 octet))
read_second_half None old mid new state between octet first second =
    subst (ReadsEnd old new state) (sym (octet_halves octet))
    (reads_then_end old mid new state between (bits_of 4 (octet / 16)) (bits_of 4 (octet % 16))
    first second)
read_second_half (Some next) old mid new state between octet first second =
    grind (arith, common_steps, octet_halves, reads_both, bits_of)

-- how long what was appended is at most
pub reads_length : (old new : List ℕ) (state next : ℕ) (bit_list : List Bool)
    → ReadsBits old new state bit_list next
    → 5 * length new + length (prefix_of next)
    ≤ 5 * length old + length (prefix_of state) + length bit_list
reads_length old new state next bit_list a =
    omega (
      arith,
      five_bits a.added a.octets,
      ap (λ (xs : List ℕ). length xs) a.joined,
      length-append old a.added,
      ap (λ (xs : List Bool). length xs) a.encoded,
      length-append (codes a.added) (prefix_of next),
      length-append (prefix_of state) bit_list,
    )

-- the bits of the first octets, and of one more
pub bits-take-more : (octets : List ℕ) (i : ℕ) → i < length octets
    → bits (take (i + 1) octets) ≡ bits (take i octets) ++ bits_of 8 (get_or octets i 0)
bits-take-more octets i lt = grind (arith, common_steps)

-- The bits of octets are those of the first ones, of the next one and of the others.
pub bits-split : (octets : List ℕ) (i : ℕ) → i < length octets
    → bits octets ≡ (bits (take i octets) ++ bits_of 8 (get_or octets i 0))
    ++ bits (drop (i + 1) octets)
bits-split octets i lt =
    ap (λ (xs : List ℕ). bits xs) (sym (take-append-drop (i + 1) octets))
    ∙ (flat_map-append (bits_of 8) (take (i + 1) octets) (drop (i + 1) octets)
    ∙ ap (λ (xs : List Bool). xs ++ bits (drop (i + 1) octets)) (bits-take-more octets i lt))

-- Before any octet nothing was read.
pub reads_none : (old octets : List ℕ) → ReadsBits old old 0 (bits (take 0 octets)) 0
reads_none old octets = search rules

-- One octet more was read.
pub reads_octet : (old mid new octets : List ℕ) (state next i : ℕ) → i < length octets
    → ReadsBits old mid 0 (bits (take i octets)) state
    → ReadsBits mid new state (bits_of 8 (get_or octets i 0)) next
    → ReadsBits old new 0 (bits (take (i + 1) octets)) next
reads_octet old mid new octets state next i lt a b =
    subst (λ xs. ReadsBits old new 0 xs next) (sym (bits-take-more octets i lt))
    (reads_both old mid new 0 state next (bits (take i octets)) (bits_of 8 (get_or octets i 0)) a b)

-- The bits that were read from the first state are the codes and the bits of the state after them.
pub read_bits : (old new : List ℕ) (bit_list : List Bool) (next : ℕ)
    → (read : ReadsBits old new 0 bit_list next) → bit_list ≡ codes read.added ++ prefix_of next
read_bits old new bit_list next read =
    ap (λ (xs : List Bool). xs ++ bit_list) (sym first_state) ∙ sym read.encoded

-- EOS in the next octet is the fault of all octets.
pub octet_fault : (old mid new octets : List ℕ) (state i : ℕ) → i < length octets
    → ReadsBits old mid 0 (bits (take i octets)) state
    → ReadsEnd mid new state (bits_of 8 (get_or octets i 0)) → HasEndSymbol octets
octet_fault old mid new octets state i lt a b =
    let next = bits_of 8 (get_or octets i 0) in
    let following = bits (drop (i + 1) octets) in
    let ends =
    end_then_more old new 0 (bits (take i octets) ++ next) following
    (reads_then_end old mid new 0 state (bits (take i octets)) next a b) in
    end_symbol_fault octets ends.added ends.more ends.octets
    (bits-split octets i lt
    ∙ (ap (λ (xs : List Bool). xs ++ ((bits (take i octets) ++ next) ++ following))
    (sym first_state)
    ∙ ends.encoded))

-- Each number of a slice of octets is an octet.
pub all_octets : (xs : List ℕ) → ((i : ℕ) → Fits w8 (get_or xs i 0)) → AllByRecursion IsOctet xs
all_octets [] h = tt
all_octets (x ∷ xs) h = (omega (arith, h 0), all_octets xs (λ i. h (suc i)))
