-- Octets that are compared by words.
use Rattle.hpack.proofs.Names.{◌≡◌, ◌≢◌, ℕ, zero, suc, ◌+◌, ◌-◌, ◌<◌, ◌≤◌, ◌==◌, ◌&&◌, nat_eq, Bool}
use Rattle.hpack.proofs.Names.{true, false, List, [], ◌∷◌, length, get_or, take, drop, refl, sym}
use Rattle.hpack.proofs.Names.{ap, ◌∙◌, subst, arith, length-drop, and_parts, ne_eqb, get_or-drop}
use Rattle.hpack.proofs.Names.{inl, inr, cases_eq, Field, Entry, is_sought, Exact}
use Rattle.hpack.proofs.Names.{length-take-le, drop-drop, le_bytes_8, same_octets, AreOctetsByPlace}
use Rattle.std.specs.Int.{w32, w64, from_le_bytes, to_le_bytes}
use Rattle.std.proofs.lemmas.Nat.{le_bytes_4}
use Rattle.std.proofs.lemmas.Bool.{eq-eqb}
use Rattle.hpack.proofs.SearchLemmas.{fails}
use Rattle.hpack.proofs.WrittenTables.{same_octets-true}

-- Lists of the same octets have the same length.
same_octets-length : (xs ys : List ℕ) → same_octets xs ys ≡ true → length xs ≡ length ys
same_octets-length [] [] same = refl
same_octets-length [] (y ∷ ys) same = (cc)
same_octets-length (x ∷ xs) [] same = (cc)
same_octets-length (x ∷ xs) (y ∷ ys) same =
    ap suc (same_octets-length xs ys (and_parts (x == y) (same_octets xs ys) same).1)

-- Lists of other lengths aren't the same octets.
pub other_lengths : (xs ys : List ℕ) → length xs ≢ length ys
    → nat_eq (length xs) (length ys) ≡ same_octets xs ys
other_lengths xs ys other =
    ne_eqb (length xs) (length ys) other
    ∙ sym (fails (same_octets xs ys) (λ same. other (same_octets-length xs ys same)))

-- An entry whose value has another length isn't sought with the value.
pub other_value : (field : Field) (one : Entry) → length one.value ≢ length field.value
    → false ≡ is_sought Exact field one
other_value field one other =
    sym (fails (is_sought Exact field one) (λ same. other (same_octets-length one.value field.value
    (and_parts (same_octets one.name field.name) (same_octets one.value field.value) same).1)))

-- Where the first octets are the same, the others decide.
same_rest : (count : ℕ) (xs ys : List ℕ) → count ≤ length xs → count ≤ length ys
    → take count xs ≡ take count ys
    → same_octets (drop count xs) (drop count ys) ≡ same_octets xs ys
same_rest zero xs ys long other_long same = refl
same_rest (suc count) [] ys long other_long same = absurd (omega arith)
same_rest (suc count) (x ∷ xs) [] long other_long same = absurd (omega arith)
same_rest (suc count) (x ∷ xs) (y ∷ ys) long other_long same =
    let first : x ≡ y = ap (λ (os : List ℕ). get_or os 0 x) same in
    let others : take count xs ≡ take count ys = ap (λ (os : List ℕ). drop 1 os) same in
    same_rest count xs ys (omega arith) (omega arith) others
    ∙ sym (ap (λ (b : Bool). b && same_octets xs ys) (eq-eqb x y first))

-- The first octets of octets are octets.
octets_take : (count : ℕ) (xs : List ℕ) → AreOctetsByPlace xs → (place : ℕ)
    → get_or (take count xs) place 0 < 256
octets_take zero xs octets place = omega arith
octets_take (suc count) [] octets place = omega arith
octets_take (suc count) (x ∷ xs) octets zero = octets 0
octets_take (suc count) (x ∷ xs) octets (suc place) =
    octets_take count xs (λ one. octets (suc one)) place

-- The octets after some are octets.
pub octets_drop : (count : ℕ) (xs more : List ℕ) → more ≡ drop count xs → AreOctetsByPlace xs
    → AreOctetsByPlace more
octets_drop count xs more is octets = λ place.
    subst (λ (os : List ℕ). get_or os place 0 < 256) (sym is)
    (subst (λ (n : ℕ). n < 256) (sym (get_or-drop count xs place 0)) (octets (count + place)))

-- Words of eight octets are the same.
pub words_same : (xs ys word other more others_more : List ℕ) (one two : ℕ)
    → word ≡ take 8 xs → more ≡ drop 8 xs → length more + 8 ≡ length xs
    → other ≡ take 8 ys → others_more ≡ drop 8 ys → length others_more + 8 ≡ length ys
    → AreOctetsByPlace xs → AreOctetsByPlace ys
    → one ≡ from_le_bytes w64 word → two ≡ from_le_bytes w64 other → one ≡ two
    → same_octets more others_more ≡ same_octets xs ys
words_same xs ys word other more others_more one two is_word is_more count is_other is_others_more
    others_count octets others is_one is_two same =
    let first : to_le_bytes w64 one ≡ take 8 xs =
    le_bytes_8 (take 8 xs) one (omega (arith, length-take-le 8 xs (omega (arith, count))))
    (octets_take 8 xs octets) (is_one ∙ ap (λ (os : List ℕ). from_le_bytes w64 os) is_word) in
    let second : to_le_bytes w64 two ≡ take 8 ys =
    le_bytes_8 (take 8 ys) two (omega (arith, length-take-le 8 ys (omega (arith, others_count))))
    (octets_take 8 ys others) (is_two ∙ ap (λ (os : List ℕ). from_le_bytes w64 os) is_other) in
    let both : take 8 xs ≡ take 8 ys = sym first ∙ (ap (to_le_bytes w64) same ∙ second) in
    ap (λ (os : List ℕ). same_octets os others_more) is_more
    ∙ (ap (λ (os : List ℕ). same_octets (drop 8 xs) os) is_others_more
    ∙ same_rest 8 xs ys (omega (arith, count)) (omega (arith, others_count)) both)

-- The last eight octets of octets, by their word.
pub last_same : (xs ys last others_last : List ℕ) (one two : ℕ) → 8 ≤ length xs
    → length xs ≡ length ys → last ≡ drop (length xs - 8) xs
    → others_last ≡ drop (length ys - 8) ys → AreOctetsByPlace xs → AreOctetsByPlace ys
    → one ≡ from_le_bytes w64 last → two ≡ from_le_bytes w64 others_last → one ≡ two
    → drop (length xs - 8) xs ≡ drop (length xs - 8) ys
last_same xs ys last others_last one two long same_length is_last is_others_last octets others
    is_one is_two same =
    let count : length (drop (length xs - 8) xs) ≡ 8 =
    omega (arith, length-drop (length xs - 8) xs) in
    let others_count : length (drop (length ys - 8) ys) ≡ 8 =
    omega (arith, length-drop (length ys - 8) ys) in
    let first : to_le_bytes w64 one ≡ drop (length xs - 8) xs =
    le_bytes_8 (drop (length xs - 8) xs) one count
    (octets_drop (length xs - 8) xs (drop (length xs - 8) xs) refl octets)
    (is_one ∙ ap (λ (os : List ℕ). from_le_bytes w64 os) is_last) in
    let second : to_le_bytes w64 two ≡ drop (length ys - 8) ys =
    le_bytes_8 (drop (length ys - 8) ys) two others_count
    (octets_drop (length ys - 8) ys (drop (length ys - 8) ys) refl others)
    (is_two ∙ ap (λ (os : List ℕ). from_le_bytes w64 os) is_others_last) in
    sym first ∙ (ap (to_le_bytes w64) same ∙ (second
    ∙ ap (λ (n : ℕ). drop (n - 8) ys) (sym same_length)))

-- What octets have in common decides where it differs.
differs_by : (word : List ℕ → ℕ) (xs ys : List ℕ) → (word xs ≡ word ys → ⊥)
    → false ≡ same_octets xs ys
differs_by word xs ys differ =
    sym (fails (same_octets xs ys) (λ same. differ (ap word (same_octets-true xs ys same))))

-- The same octets are the same.
same_octets-refl : (xs : List ℕ) → true ≡ same_octets xs xs
same_octets-refl [] = refl
same_octets-refl (x ∷ xs) =
    same_octets-refl xs ∙ sym (ap (λ (b : Bool). b && same_octets xs xs) (eq-eqb x x refl))

-- What is left of octets: of so many the ones from here on.
pub record IsLeft (all others left others_left : List ℕ) : Type 0 where
  pub from : left ≡ drop (length all - length left) all
  pub others_from : others_left ≡ drop (length all - length left) others
  pub within : length left ≤ length all
  pub same : same_octets left others_left ≡ same_octets all others

-- Where the last eight octets are the same and no more are left, all are the same.
pub left_same : (all others left others_left : List ℕ) → IsLeft all others left others_left
    → 8 ≤ length all → length left ≤ 8
    → drop (length all - 8) all ≡ drop (length all - 8) others → true ≡ same_octets all others
left_same all others left others_left is long short last =
    let skip = 8 - length left in
    let place : length all - 8 + skip ≡ length all - length left = omega (arith, is.within) in
    let mine : left ≡ drop skip (drop (length all - 8) all) =
    is.from ∙ sym (drop-drop skip (length all - 8) all ∙ ap (λ (n : ℕ). drop n all) place) in
    let theirs : others_left ≡ drop skip (drop (length all - 8) others) = is.others_from
    ∙ sym (drop-drop skip (length all - 8) others ∙ ap (λ (n : ℕ). drop n others) place) in
    let equal : left ≡ others_left =
    mine ∙ (ap (λ (os : List ℕ). drop skip os) last ∙ sym theirs) in
    same_octets-refl left ∙ (ap (λ (os : List ℕ). same_octets left os) equal ∙ is.same)

-- Eight octets fewer are left.
pub left_more : (all others left others_left more others_more : List ℕ)
    → IsLeft all others left others_left → more ≡ drop 8 left → length more + 8 ≡ length left
    → others_more ≡ drop 8 others_left
    → same_octets more others_more ≡ same_octets left others_left
    → IsLeft all others more others_more
left_more all others left others_left more others_more is is_more count is_others_more same =
    let place : length all - length left + 8 ≡ length all - length more =
    omega (arith, is.within, count) in
    record {
      from = is_more ∙ (ap (λ (os : List ℕ). drop 8 os) is.from
          ∙ (drop-drop 8 (length all - length left) all ∙ ap (λ (n : ℕ). drop n all) place));
      others_from = is_others_more ∙ (ap (λ (os : List ℕ). drop 8 os) is.others_from
          ∙ (drop-drop 8 (length all - length left) others ∙ ap (λ (n : ℕ). drop n others) place));
      within = omega (arith, is.within, count);
      same = same ∙ is.same;
    }

-- Octets aren't the same whose last eight aren't.
pub last_differs : (xs ys last others_last : List ℕ) (one two : ℕ)
    → last ≡ drop (length xs - 8) xs → others_last ≡ drop (length ys - 8) ys
    → one ≡ from_le_bytes w64 last → two ≡ from_le_bytes w64 others_last → (one ≡ two → ⊥)
    → false ≡ same_octets xs ys
last_differs xs ys last others_last one two is_last is_others_last is_one is_two differ =
    let word = λ (os : List ℕ). from_le_bytes w64 (drop (length os - 8) os) in
    let first : one ≡ word xs = is_one ∙ ap (λ (os : List ℕ). from_le_bytes w64 os) is_last in
    let second : two ≡ word ys =
    is_two ∙ ap (λ (os : List ℕ). from_le_bytes w64 os) is_others_last in
    sym (fails (same_octets xs ys)
    (λ same. differ (first ∙ (ap word (same_octets-true xs ys same) ∙ sym second))))

-- Octets aren't the same whose first four aren't.
pub halves_differ : (xs ys : List ℕ) (first others_first : ℕ)
    → first ≡ from_le_bytes w32 (take 4 xs) → others_first ≡ from_le_bytes w32 (take 4 ys)
    → (first ≡ others_first → ⊥) → false ≡ same_octets xs ys
halves_differ xs ys first others_first is_first is_others_first differ =
    differs_by (λ (os : List ℕ). from_le_bytes w32 (take 4 os)) xs ys
    (λ same. differ (is_first ∙ (same ∙ sym is_others_first)))

-- Four octets, by their word.
fours_same : (xs ys : List ℕ) → length xs ≡ 4 → length ys ≡ 4 → AreOctetsByPlace xs
    → AreOctetsByPlace ys → from_le_bytes w32 xs ≡ from_le_bytes w32 ys → xs ≡ ys
fours_same xs ys count others_count octets others same =
    sym (le_bytes_4 xs (from_le_bytes w32 xs) count octets refl)
    ∙ (ap (to_le_bytes w32) same
    ∙ le_bytes_4 ys (from_le_bytes w32 ys) others_count others refl)

-- Fewer than eight octets are the same whose first four and last four are.
halves_same : (xs ys : List ℕ) → 4 ≤ length xs → length xs < 8 → length xs ≡ length ys
    → AreOctetsByPlace xs → AreOctetsByPlace ys
    → from_le_bytes w32 (take 4 xs) ≡ from_le_bytes w32 (take 4 ys)
    → from_le_bytes w32 (drop (length xs - 4) xs) ≡ from_le_bytes w32 (drop (length ys - 4) ys)
    → true ≡ same_octets xs ys
halves_same xs ys long short same_length octets others first last =
    let front : take 4 xs ≡ take 4 ys = fours_same (take 4 xs) (take 4 ys)
    (length-take-le 4 xs long) (length-take-le 4 ys (omega (arith, same_length)))
    (octets_take 4 xs octets) (octets_take 4 ys others) first in
    let back : drop (length xs - 4) xs ≡ drop (length ys - 4) ys =
    fours_same (drop (length xs - 4) xs) (drop (length ys - 4) ys)
    (omega (arith, length-drop (length xs - 4) xs)) (omega (arith, length-drop (length ys - 4) ys))
    (octets_drop (length xs - 4) xs (drop (length xs - 4) xs) refl octets)
    (octets_drop (length ys - 4) ys (drop (length ys - 4) ys) refl others) last in
    let skip = 8 - length xs in
    let place : length xs - 4 + skip ≡ 4 = omega arith in
    let others_place : length ys - 4 + skip ≡ 4 = omega (arith, same_length) in
    let mine : drop skip (drop (length xs - 4) xs) ≡ drop 4 xs =
    drop-drop skip (length xs - 4) xs ∙ ap (λ (n : ℕ). drop n xs) place in
    let theirs : drop skip (drop (length ys - 4) ys) ≡ drop 4 ys =
    drop-drop skip (length ys - 4) ys ∙ ap (λ (n : ℕ). drop n ys) others_place in
    let rest : drop 4 xs ≡ drop 4 ys =
    sym mine ∙ (ap (λ (os : List ℕ). drop skip os) back ∙ theirs) in
    same_octets-refl (drop 4 xs) ∙ (ap (λ (os : List ℕ). same_octets (drop 4 xs) os) rest
    ∙ same_rest 4 xs ys long (omega (arith, same_length)) front)

-- Of fewer than eight octets whose first four are the same, the last four decide.
pub halves_decide : (xs ys : List ℕ) (first others_first last others_last : ℕ)
    → 4 ≤ length xs → length xs < 8 → length xs ≡ length ys
    → AreOctetsByPlace xs → AreOctetsByPlace ys
    → first ≡ from_le_bytes w32 (take 4 xs) → others_first ≡ from_le_bytes w32 (take 4 ys)
    → last ≡ from_le_bytes w32 (drop (length xs - 4) xs)
    → others_last ≡ from_le_bytes w32 (drop (length ys - 4) ys)
    → first ≡ others_first → nat_eq last others_last ≡ same_octets xs ys
halves_decide xs ys first others_first last others_last long short same_length octets others
    is_first is_others_first is_last is_others_last same = elim (cases_eq last others_last) [
      | inl e ↦ eq-eqb last others_last e ∙ halves_same xs ys long short same_length octets others
          (sym is_first ∙ (same ∙ is_others_first)) (sym is_last ∙ (e ∙ is_others_last))
      | inr other ↦ ne_eqb last others_last other
          ∙ differs_by (λ (os : List ℕ). from_le_bytes w32 (drop (length os - 4) os)) xs ys
          (λ e. other (is_last ∙ (e ∙ sym is_others_last)))
    ]
