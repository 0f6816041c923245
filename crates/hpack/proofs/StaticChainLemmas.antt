-- Chains through the entries of the static table.
use Rattle.hpack.proofs.Names.{◌≡◌, ◌≢◌, ℕ, zero, suc, ◌+◌, ◌<◌, ◌==◌, ◌&&◌, not, Bool, true, false}
use Rattle.hpack.proofs.Names.{List, [], ◌∷◌, length, get_or, refl, sym, ap, ◌∙◌, arith, and_parts}
use Rattle.hpack.proofs.Names.{Entry, static_entries, mixed, hash_words, short_word, hash_from}
use Rattle.hpack.proofs.Names.{bucket_of, Field, Sought, is_sought, LeadsTo, AreLinked, name_bucket}
use Rattle.std.proofs.Common.{map, eqb-true}
use Rattle.std.proofs.lemmas.Bool.{eq-eqb}
use Rattle.hpack.specs.declared.encode.static_chains.TheConstants.{FIRST_PLACES, SKIPS}
use Rattle.hpack.specs.declared.encode.static_chains.TheConstants.{VALUE_LENGTHS}
use Rattle.hpack.proofs.IndexLemmas.{sought_name}

-- the buckets of the static table's names
unfoldable buckets : List ℕ
buckets =
    45 ∷ 63 ∷ 63 ∷ 78 ∷ 78 ∷ 94 ∷ 94 ∷ 88 ∷ 88 ∷ 88 ∷ 88 ∷ 88 ∷ 88 ∷ 88 ∷ 105 ∷ 24 ∷ 17 ∷ 115 ∷
    65 ∷ 71 ∷ 36 ∷ 30 ∷ 75 ∷ 64 ∷ 0 ∷ 19 ∷ 90 ∷ 104 ∷ 97 ∷ 29 ∷ 80 ∷ 11 ∷ 95 ∷ 122 ∷ 13 ∷ 4 ∷ 72
    ∷ 61 ∷ 15 ∷ 60 ∷ 50 ∷ 57 ∷ 66 ∷ 51 ∷ 27 ∷ 52 ∷ 16 ∷ 112 ∷ 67 ∷ 25 ∷ 37 ∷ 6 ∷ 46 ∷ 21 ∷ 119 ∷
    121 ∷ 85 ∷ 5 ∷ 12 ∷ 87 ∷ 42 ∷ []

-- computed: these are their buckets
buckets_of_names : map name_bucket static_entries ≡ buckets
unfolding buckets static_entries mixed hash_words short_word hash_from
buckets_of_names = refl

-- whether the first one that is sought is at the place, or none where that is past the end
unfoldable leads : ℕ → List ℕ → ℕ → Bool
leads sought [] place = true
leads sought (one ∷ others) zero = one == sought
leads sought (one ∷ others) (suc place) = not (one == sought) && leads sought others place

-- whether each of the places is that of its bucket
unfoldable all_lead : ℕ → List ℕ → List ℕ → Bool
all_lead sought ones [] = true
all_lead sought ones (place ∷ places) = leads sought ones place && all_lead (suc sought) ones places

-- whether each number leads to the next one that is the same
unfoldable all_linked : List ℕ → List ℕ → Bool
all_linked [] skips = true
all_linked (one ∷ others) [] = false
all_linked (one ∷ others) (skip ∷ skips) = leads one others skip && all_linked others skips

-- computed: the places are those of the buckets
places_lead : all_lead 0 buckets FIRST_PLACES ≡ true
unfolding buckets leads all_lead
places_lead = refl

-- computed: the entries are linked
skips_link : all_linked buckets SKIPS ≡ true
unfolding buckets leads all_linked
skips_link = refl

-- A test that fails says that two numbers differ.
pub differs : (one sought : ℕ) → not (one == sought) ≡ true → one ≢ sought
differs one sought is = λ same.
    let yes : (one == sought) ≡ true = eq-eqb one sought same in
    (cc)

-- what the test says of entries
leads_to : (bucket : Entry → ℕ) (sought : ℕ) (entries : List Entry) (place : ℕ)
    → leads sought (map bucket entries) place ≡ true → LeadsTo bucket sought entries place
unfolding leads LeadsTo
leads_to bucket sought [] place is = tt
leads_to bucket sought (one ∷ entries) zero is = eqb-true (bucket one) sought is
leads_to bucket sought (one ∷ entries) (suc place) is =
    let both = and_parts (not (bucket one == sought)) (leads sought
    (map bucket entries) place) is in
    (differs (bucket one) sought both.0, leads_to bucket sought entries place both.1)

-- one of the places
lead_at : (sought place : ℕ) (ones places : List ℕ) → all_lead sought ones places ≡ true
    → place < length places → leads (sought + place) ones (get_or places place 0) ≡ true
unfolding all_lead
lead_at sought place ones [] is lt = absurd (omega arith)
lead_at sought zero ones (first ∷ places) is lt =
    let both = and_parts (leads sought ones first) (all_lead (suc sought) ones places) is in
    ap (λ (n : ℕ). leads n ones first) (let e : sought + 0 ≡ sought = omega arith in e) ∙ both.0
lead_at sought (suc place) ones (first ∷ places) is lt =
    let both = and_parts (leads sought ones first) (all_lead (suc sought) ones places) is in
    ap (λ (n : ℕ). leads n ones (get_or places place 0))
    (let e : sought + suc place ≡ suc sought + place = omega arith in e)
    ∙ lead_at (suc sought) place ones places both.1 (omega arith)

-- The place of a bucket is that of its first entry.
pub place_leads : (bucket : ℕ) → bucket < 128
    → LeadsTo name_bucket bucket static_entries (get_or FIRST_PLACES bucket 0)
place_leads bucket lt =
    let number : bucket ≡ 0 + bucket = omega arith in
    let at : leads bucket buckets (get_or FIRST_PLACES bucket 0) ≡ true =
    ap (λ (n : ℕ). leads n buckets (get_or FIRST_PLACES bucket 0)) number
    ∙ lead_at 0 bucket buckets FIRST_PLACES places_lead lt in
    leads_to name_bucket bucket static_entries (get_or FIRST_PLACES bucket 0)
    (ap (λ (ks : List ℕ). leads bucket ks (get_or FIRST_PLACES bucket 0)) buckets_of_names ∙ at)

-- what the test of links says of entries
are_linked : (bucket : Entry → ℕ) (entries : List Entry) (skips : List ℕ)
    → all_linked (map bucket entries) skips ≡ true → AreLinked bucket entries skips
unfolding all_linked AreLinked
are_linked bucket [] skips is = tt
are_linked bucket (one ∷ entries) [] is = (cc)
are_linked bucket (one ∷ entries) (skip ∷ skips) is =
    let both = and_parts (leads (bucket one) (map bucket entries) skip)
    (all_linked (map bucket entries) skips) is in
    (leads_to bucket (bucket one) entries skip both.0, are_linked bucket entries skips both.1)

-- The entries of the static table are linked.
pub static_linked : AreLinked name_bucket static_entries SKIPS
static_linked =
    are_linked name_bucket static_entries SKIPS
    (ap (λ (ks : List ℕ). all_linked ks SKIPS) buckets_of_names ∙ skips_link)

-- There are 61.
pub static_length : length static_entries ≡ 61
unfolding static_entries
static_length = refl

-- The name that is sought is in the bucket of its hash.
pub name_in_bucket : (sought : Sought) (field : Field) (hash : ℕ) → hash ≡ hash_from 0 field.name
    → (one : Entry) → is_sought sought field one ≡ true → name_bucket one ≡ bucket_of 128 hash
name_in_bucket sought field hash is one same =
    ap (λ (n : List ℕ). bucket_of 128 (hash_from 0 n)) (sought_name sought field one same)
    ∙ sym (ap (bucket_of 128) is)

-- computed: how many octets the values have
lengths_of_values : map (λ (one : Entry). length one.value) static_entries ≡ VALUE_LENGTHS
unfolding static_entries
lengths_of_values = refl

-- one of the lengths
length_at : (entries : List Entry) (place : ℕ) (other : Entry) → place < length entries
    → get_or (map (λ (one : Entry). length one.value) entries) place 0
    ≡ length (get_or entries place other).value
length_at [] place other lt = absurd (omega arith)
length_at (one ∷ entries) zero other lt = refl
length_at (one ∷ entries) (suc place) other lt = length_at entries place other (omega arith)

-- The length of the value of an entry.
pub value_length : (place : ℕ) (other : Entry) → place < 61
    → get_or VALUE_LENGTHS place 0 ≡ length (get_or static_entries place other).value
value_length place other lt =
    ap (λ (ns : List ℕ). get_or ns place 0) (sym lengths_of_values)
    ∙ length_at static_entries place other (omega (arith, lt, static_length))
