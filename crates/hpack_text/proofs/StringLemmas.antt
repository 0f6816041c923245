-- Strings: no encoding begins a different one, what a fault says, and what is written.
use Rattle.hpack_text.proofs.Names.{◌≡◌, ℕ, zero, suc, ◌+◌, ◌-◌, ◌^◌, ◌<◌, ◌≤◌, nat_le}
use Rattle.hpack_text.proofs.Names.{if◌then◌else◌, inl, inr, Bool, true, false, List, [], ◌∷◌, ◌++◌}
use Rattle.hpack_text.proofs.Names.{length, get_or, take, drop, Result, Ok, Err, MatchResult, OnErr}
use Rattle.hpack_text.proofs.Names.{refl, sym, ap, ap₂, ◌∙◌, subst, arith, append-nil}
use Rattle.hpack_text.proofs.Names.{length-append, rules, cases_lt, lt-leb, false≢true}
use Rattle.hpack_text.proofs.Names.{length-take-le, AllByRecursion, TextFault, IsOctet}
use Rattle.hpack_text.proofs.Names.{HasEndSymbol, huffman_bits, Int, integer, common_steps}
use Rattle.std.proofs.Common.{OnOk, IsOk, is_ok, le-leb, take_at, take-add, take-append-drop}
use Rattle.std.proofs.lemmas.List.{append_cancel_left, take_rest}
use Rattle.hpack_text.specs.declared.fault.TextFault.TheVariants as faults
use Rattle.hpack_text.specs.Huffman.{Huff, HasBadPadding}
use Rattle.hpack_text.specs.Strings.{has_bit_h, Holds, Str, IsShort, HasHuffmanFault, StrFault}
use Rattle.hpack_text.specs.Strings.{BodyFault, LacksRoom, most_text, string}
use Rattle.hpack_text.proofs.CodeLemmas.{one_text_lem, huffman_bits_encode}
use Rattle.hpack_text.proofs.IntegerLemmas.{LeadingInt, Int-unique, truncated_encodes_none}
use Rattle.hpack_text.proofs.IntegerLemmas.{too_long_encodes_none}
use Rattle.hpack_text.proofs.IntegerWriting.{integer_encodes, integer-short, integer-long}

-- Fronts of one line, of equal length, are equal.
same_fronts : (line xs ys more following : List ℕ) → line ≡ xs ++ more → line ≡ ys ++ following
    → length xs ≡ length ys → xs ≡ ys
same_fronts line xs ys more following one other lengths =
    sym (take_at xs more (length xs) refl)
    ∙ (ap (take (length xs)) (sym one ∙ other)
    ∙ (ap (λ (n : ℕ). take n (ys ++ following)) lengths
    ∙ take_at ys following (length ys) refl))

-- the same head, and as much after it
pub record SameParts (head other : List ℕ) (after others : List ℕ) (count counts : ℕ) : Type 0 where
  pub heads : head ≡ other
  pub following : after ≡ others
  pub lengths : count ≡ counts

-- Heads of strings at the start of the same octets are one.
same_parts : (head other after others : List ℕ) (count counts : ℕ) → Int 7 count head
    → Int 7 counts other → head ++ after ≡ other ++ others
    → SameParts head other after others count counts
same_parts head other after others count counts h h' e =
    let (heads, lengths) = Int-unique 7 count counts head other after others h h' e in
    record {
      heads = heads;
      following = append_cancel_left other after others
          (ap (λ (xs : List ℕ). xs ++ after) (sym heads) ∙ e);
      lengths = lengths;
    }

-- Octets hold one text.
Holds-unique : (is_huffman : Bool) (text other body : List ℕ) → Holds is_huffman text body
    → Holds is_huffman other body → text ≡ other
Holds-unique true text other body h h' = one_text_lem text other body h h'
Holds-unique false text other body h h' = h.0 ∙ sym h'.0

-- A string at the start of octets, and what is after it.
pub record BeginsWithStr (text octets : List ℕ) (following : List ℕ) : Type 0 where
  pub head : List ℕ
  pub body : List ℕ
  pub joined : octets ≡ head ++ (body ++ following)
  pub head_length : Int 7 (length body) head
  pub holds : Holds (has_bit_h head) text body

-- A string that is encoded is at the start of what begins with it.
pub begins_with_str : (text encoding following octets : List ℕ) → Str text encoding
    → octets ≡ encoding ++ following → BeginsWithStr text octets following
begins_with_str text encoding following octets s e = grind (arith, common_steps)

-- Strings at the start of the same octets are one.
pub Str-unique : (text other octets others more following : List ℕ) → Str text octets
    → Str other others → octets ++ more ≡ others ++ following → (octets ≡ others) × (text ≡ other)
unfolding begins_with_str
Str-unique text other octets others more following s s' e =
    let begins = begins_with_str text octets more (octets ++ more) s refl in
    let begins' = begins_with_str other others following (octets ++ more) s' e in
    let parts = same_parts s.head s'.head (s.body ++ more) (s'.body ++ following) (length s.body)
    (length s'.body) s.head_length s'.head_length (sym begins.joined ∙ begins'.joined) in
    let bodies = same_fronts _ s.body s'.body more following refl parts.following parts.lengths in
    let holds : Holds (has_bit_h s'.head) text s'.body =
    subst (λ xs. Holds (has_bit_h xs) text s'.body) parts.heads
    (subst (λ xs. Holds (has_bit_h s.head) text xs) bodies s.holds) in (
      s.joined ∙ (ap₂ (λ (xs : List ℕ) (ys : List ℕ). xs ++ ys) parts.heads bodies ∙ sym s'.joined),
      Holds-unique (has_bit_h s'.head) text other s'.body holds s'.holds,
    )

-- Where a head names more octets than there are, no string is at the start.
short_encodes_none : (text octets following : List ℕ) → IsShort octets
    → BeginsWithStr text octets following → ⊥
short_encodes_none text octets following short s = search (rules, same_parts, length-append)

-- Where the Huffman-encoded string has a fault, no string is at the start.
huffman_fault_encodes_none : (Fault : List ℕ → Type 0) (text octets following : List ℕ)
    → ((body : List ℕ) → Fault body → Huff text body → ⊥) → HasHuffmanFault Fault octets
    → BeginsWithStr text octets following → ⊥
huffman_fault_encodes_none Fault text octets following none h s =
    let parts = same_parts h.head s.head (h.body ++ h.more) (s.body ++ following) (length h.body)
    (length s.body) h.head_length s.head_length (sym h.joined ∙ s.joined) in
    let bodies = same_fronts _ h.body s.body h.more following refl parts.following parts.lengths in
    let is_huffman : has_bit_h s.head ≡ true = ap has_bit_h (sym parts.heads) ∙ h.has_bit_h in
    let holds : Huff text s.body = subst (λ b. Holds b text s.body) is_huffman s.holds in
    none h.body h.fault (subst (λ xs. Huff text xs) (sym bodies) holds)

-- what is said of a string at the start of the octets
abbrev pub LeadingStr : List ℕ → List ℕ → ℕ → Type 0
LeadingStr octets text count = (count ≤ length octets) × Str text (take count octets)

module _ (octets text : List ℕ) where
  -- Where a string is at the start, no fault but running out of memory is one of the octets.
  pub only_memory : (count : ℕ) (fault : TextFault) → Str text (take count octets)
      → StrFault octets fault → fault ≡ faults.Memory
  only_memory count faults.Truncated encoded (inl cut) =
      let begins = begins_with_str text (take count octets) (drop count octets) octets encoded
      (sym (take-append-drop count octets)) in
      absurd (truncated_encodes_none 7 (length begins.body) octets begins.head
      (begins.body ++ drop count octets) cut begins.joined begins.head_length)
  only_memory count faults.Truncated encoded (inr short) =
      let begins = begins_with_str text (take count octets) (drop count octets) octets encoded
      (sym (take-append-drop count octets)) in
      absurd (short_encodes_none text octets (drop count octets) short begins)
  only_memory count faults.TooLong encoded h =
      let begins = begins_with_str text (take count octets) (drop count octets) octets encoded
      (sym (take-append-drop count octets)) in
      absurd (too_long_encodes_none 7 (length begins.body) octets begins.head
      (begins.body ++ drop count octets) h begins.joined begins.head_length)
  only_memory count faults.BadPadding encoded h =
      let begins = begins_with_str text (take count octets) (drop count octets) octets encoded
      (sym (take-append-drop count octets)) in
      absurd (huffman_fault_encodes_none HasBadPadding text octets (drop count octets)
      (λ body fault. fault.none text) h begins)
  only_memory count faults.EndSymbol encoded h =
      let begins = begins_with_str text (take count octets) (drop count octets) octets encoded
      (sym (take-append-drop count octets)) in
      absurd (huffman_fault_encodes_none HasEndSymbol text octets (drop count octets)
      (λ body fault. fault.none text) h begins)
  only_memory count faults.Memory encoded h = refl

  -- A string that was read is the one that is at the start.
  pub only_one_str : (other : List ℕ) (count used : ℕ) → LeadingStr octets other used
      → count ≤ length octets → Str text (take count octets) → (other ≡ text) × (used ≡ count)
  only_one_str other count used h within encoded =
      let whole = take-append-drop used octets ∙ sym (take-append-drop count octets) in
      let (same, texts) =
      Str-unique other text (take used octets) (take count octets) (drop used octets)
      (drop count octets) h.1 encoded whole in (
        texts,
        sym (length-take-le used octets h.0)
            ∙ (ap (λ (xs : List ℕ). length xs) same ∙ length-take-le count octets within),
      )

-- what is said of a string whose text was appended
abbrev pub AppendsStr : List ℕ → List ℕ → List ℕ → ℕ → Type 0
AppendsStr old new octets count =
    (text : List ℕ) × (new ≡ old ++ text) × (count ≤ length octets) × Str text (take count octets)

-- Where a string is at the start, a right answer is that string, unless memory ran out.
pub only_str : (old new octets text : List ℕ) (count : ℕ) (result : Result ℕ TextFault)
    → MatchResult result (λ used. AppendsStr old new octets used) (StrFault octets)
    → count ≤ length octets → Str text (take count octets)
    → MatchResult result (λ used. (new ≡ old ++ text) × (used ≡ count))
    (λ fault. fault ≡ faults.Memory)
only_str old new octets text count (Ok used) (other, joined, least, found) within encoded =
    let (texts, counts) = only_one_str octets text other count used (least, found) within encoded in
    (joined ∙ ap (λ (xs : List ℕ). old ++ xs) texts, counts)
only_str old new octets text count (Err fault) h within encoded = search (rules, only_memory)

-- The head of a Huffman-encoded string has the bit H.
huffman_head : (value : ℕ) (more : List ℕ) → has_bit_h (integer 7 128 value ++ more) ≡ true
huffman_head value more =
    elim (cases_lt value 127) [
      | inl short ↦ ap (λ (xs : List ℕ). has_bit_h (xs ++ more)) (integer-short 7 128 value short)
          ∙ le-leb 128 (128 + value) (omega arith)
      | inr long ↦ ap (λ (xs : List ℕ). has_bit_h (xs ++ more)) (integer-long 7 128 value long)
    ]

-- The head of a raw text has not.
raw_head : (value : ℕ) (more : List ℕ) → has_bit_h (integer 7 0 value ++ more) ≡ false
raw_head value more =
    elim (cases_lt value 127) [
      | inl short ↦ ap (λ (xs : List ℕ). has_bit_h (xs ++ more)) (integer-short 7 0 value short)
          ∙ lt-leb 128 (0 + value) (omega arith)
      | inr long ↦ ap (λ (xs : List ℕ). has_bit_h (xs ++ more)) (integer-long 7 0 value long)
    ]

-- what is written for a text that isn't longer Huffman-encoded
pub string-huffman_bits : (text : List ℕ) → length (huffman_bits text) ≤ length text
    → string text ≡ integer 7 128 (length (huffman_bits text)) ++ huffman_bits text
unfolding string
string-huffman_bits text le = search rules

-- what is written for another text
pub string-raw : (text : List ℕ) → length text < length (huffman_bits text)
    → string text ≡ integer 7 0 (length text) ++ text
unfolding string
string-raw text lt = search rules

module _ (text : List ℕ) where
  -- What is written for a string encodes it.
  pub string_encodes : AllByRecursion IsOctet text → length text < 2 ^ 35 → Str text (string text)
  string_encodes all lt = elim (cases_lt (length text) (length (huffman_bits text))) [
    | inl longer ↦ record {
      head = integer 7 0 (length text);
      body = text;
      joined = string-raw text longer;
      head_length = integer_encodes 7 0 (length text) (omega arith) (omega arith) refl lt;
      holds = subst (λ b. Holds b text text)
          (sym (ap has_bit_h (sym (append-nil (integer 7 0 (length text))))
          ∙ raw_head (length text) [])) (refl, all);
    }
    | inr no_longer ↦ record {
      head = integer 7 128 (length (huffman_bits text));
      body = huffman_bits text;
      joined = string-huffman_bits text no_longer;
      head_length =
          integer_encodes 7 128 (length (huffman_bits text)) (omega arith) (omega arith) refl
          (omega arith);
      holds = subst (λ b. Holds b text (huffman_bits text))
          (sym (ap has_bit_h (sym (append-nil (integer 7 128 (length (huffman_bits text)))))
          ∙ huffman_head (length (huffman_bits text)) [])) (huffman_bits_encode text all);
    }
  ]

  -- A string is written Huffman-encoded exactly where that isn't longer.
  pub string_huffman_where : has_bit_h (string text) ≡ nat_le (length (huffman_bits text))
      (length text)
  string_huffman_where = elim (cases_lt (length text) (length (huffman_bits text))) [
    | inl longer ↦ ap has_bit_h (string-raw text longer) ∙ (raw_head (length text) text
        ∙ sym (lt-leb (length (huffman_bits text)) (length text) longer))
    | inr no_longer ↦ ap has_bit_h (string-huffman_bits text no_longer)
        ∙ (huffman_head (length (huffman_bits text)) (huffman_bits text)
        ∙ sym (le-leb (length (huffman_bits text)) (length text) no_longer))
  ]

-- what is after the first octets, as a slice up to the end
drop_whole : (octets : List ℕ) (count : ℕ)
    → take (length octets - count) (drop count octets) ≡ drop count octets
drop_whole octets count = take_rest octets count

-- The bit H stands in the first octet.
has_bit_h-take : (octets : List ℕ) (count value : ℕ) → Int 7 value (take count octets)
    → has_bit_h (take count octets) ≡ nat_le 128 (get_or octets 0 0)
has_bit_h-take octets zero value h = absurd h
has_bit_h-take [] (suc count) value h = absurd h
has_bit_h-take (x ∷ octets) (suc count) value h = refl

-- Where fewer octets are there than the head names, that is the fault.
pub short_string : (octets : List ℕ) (count named : ℕ) → LeadingInt 7 octets named count
    → length (take (length octets - count) (drop count octets)) < named → IsShort octets
short_string octets count named h short = record {
  head = take count octets;
  following = drop count octets;
  named = named;
  joined = sym (take-append-drop count octets);
  head_length = h.1;
  short = subst (λ xs. length xs < named) (drop_whole octets count) short;
}

-- the octets of a string's text, after its head
pub record HasBody (octets : List ℕ) (count named : ℕ) (body : List ℕ) : Type 0 where
  pub as_long : length body ≡ named
  pub joined : take (count + named) octets ≡ take count octets ++ body
  pub all_octets : octets ≡ take count octets ++ (body ++ drop named (drop count octets))
  pub within : count + named ≤ length octets

-- As many octets as the head names are those of the text.
has_body : (octets : List ℕ) (count named : ℕ) → count ≤ length octets
    → named ≤ length (take (length octets - count) (drop count octets))
    → HasBody octets count named (take named (take (length octets - count) (drop count octets)))
has_body octets count named within enough =
    grind (arith, common_steps, drop_whole, length-take-le, take-add, take-append-drop)

-- A head, and a text after it, are a string.
pub found_string : (octets text : List ℕ) (count named : ℕ) → LeadingInt 7 octets named count
    → named ≤ length (take (length octets - count) (drop count octets))
    → Holds (nat_le 128 (get_or octets 0 0)) text
    (take named (take (length octets - count) (drop count octets)))
    → LeadingStr octets text (count + named)
found_string octets text count named h enough holds =
    let body = has_body octets count named h.0 enough in (
      body.within,
      record {
        head = take count octets;
        body = take named (take (length octets - count) (drop count octets));
        joined = body.joined;
        head_length = subst (λ n. Int 7 n (take count octets)) (sym body.as_long) h.1;
        holds = subst (λ b.
            Holds b text (take named (take (length octets - count) (drop count octets))))
            (sym (has_bit_h-take octets count named h.1)) holds;
      },
    )

-- A fault of the Huffman-encoded string is one of the string.
coded_fault : (Fault : List ℕ → Type 0) (octets : List ℕ) (count named : ℕ)
    → LeadingInt 7 octets named count
    → named ≤ length (take (length octets - count) (drop count octets))
    → nat_le 128 (get_or octets 0 0) ≡ true
    → Fault (take named (take (length octets - count) (drop count octets)))
    → HasHuffmanFault Fault octets
coded_fault Fault octets count named h enough is_true fault =
    let body = has_body octets count named h.0 enough in
    record {
      head = take count octets;
      body = take named (take (length octets - count) (drop count octets));
      more = drop named (drop count octets);
      joined = body.all_octets;
      head_length = subst (λ n. Int 7 n (take count octets)) (sym body.as_long) h.1;
      has_bit_h = has_bit_h-take octets count named h.1 ∙ is_true;
      fault = fault;
    }

-- A fault of the text is one of the string.
pub body_fault : (octets : List ℕ) (count named : ℕ) (fault : TextFault)
    → LeadingInt 7 octets named count
    → named ≤ length (take (length octets - count) (drop count octets))
    → BodyFault (nat_le 128 (get_or octets 0 0))
    (take named (take (length octets - count) (drop count octets))) fault → StrFault octets fault
body_fault octets count named faults.BadPadding h enough fault = search (rules, coded_fault)
body_fault octets count named faults.EndSymbol h enough fault = search (rules, coded_fault)
body_fault octets count named faults.Memory h enough fault =
    let body = has_body octets count named h.0 enough in
    record {
      head = take count octets;
      body = take named (take (length octets - count) (drop count octets));
      more = drop named (drop count octets);
      joined = body.all_octets;
      head_length = subst (λ n. Int 7 n (take count octets)) (sym body.as_long) h.1;
    }
body_fault octets count named faults.Truncated h enough fault = absurd fault
body_fault octets count named faults.TooLong h enough fault = absurd fault

-- Where the room for a string's text is lacking, the string is there.
pub lacks_room : (octets : List ℕ) (count named len capacity : ℕ) → LeadingInt 7 octets named count
    → named ≤ length (take (length octets - count) (drop count octets))
    → capacity < len + most_text (nat_le 128 (get_or octets 0 0))
    (length (take named (take (length octets - count) (drop count octets))))
    → LacksRoom octets len capacity
lacks_room octets count named len capacity h enough lacks =
    grind (arith, common_steps, has_body, most_text, has_bit_h-take)

-- a call that succeeds where there is room, and failed
pub no_room : (need capacity : ℕ) → (need ≤ capacity → false ≡ true) → capacity < need
no_room need capacity succeeds = search rules

-- the same of a call's result
pub full_on_err : {T E : Type 0} (result : Result T E) (need capacity : ℕ)
    → (need ≤ capacity → IsOk result) → OnErr result (capacity < need)
full_on_err (Ok value) need capacity succeeds = tt
full_on_err (Err fault) need capacity succeeds = no_room need capacity succeeds

-- A head and what is after it are what is written for the text.
pub record AreParts (text head body : List ℕ) : Type 0 where
  pub counted : length (string text) ≡ length head + length body
  pub appended : (old mid new : List ℕ) → mid ≡ old ++ head → new ≡ mid ++ body
      → new ≡ old ++ string text

-- parts that are joined
are_parts : (text head body : List ℕ) → string text ≡ head ++ body → AreParts text head body
are_parts text head body e = grind (arith, common_steps)

-- the parts of a text that is written Huffman-encoded
pub huffman_parts : (text : List ℕ) (count : ℕ) → count ≡ length (huffman_bits text)
    → count ≤ length text → AreParts text (integer 7 128 count) (huffman_bits text)
huffman_parts text count same le =
    grind (arith, common_steps, are_parts, huffman_bits, string-huffman_bits)

-- the parts of a text that is written as it is
pub raw_parts : (text : List ℕ) (count : ℕ) → count ≡ length (huffman_bits text)
    → length text < count → AreParts text (integer 7 0 (length text)) text
raw_parts text count same lt = grind (arith, common_steps, are_parts, string-raw)
