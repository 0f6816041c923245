-- How the lines are put together.
use Rattle.h2_show.proofs.Names.{◌≡◌, ℕ, ◌+◌, ◌-◌, ◌<◌, ◌≤◌, not, Bool, true, false, if◌then◌else◌}
use Rattle.h2_show.proofs.Names.{List, [], ◌∷◌, ◌++◌, length, take, drop, flat_map, length-take}
use Rattle.h2_show.proofs.Names.{Option, Some, None, refl, sym, ◌∙◌, ap, subst, arith, append_assoc}
use Rattle.h2_show.proofs.Names.{append-nil, codes, Appends-trans, not-true, not-false}
use Rattle.h2_show.proofs.Names.{nat_tests, common_steps, flat_map-append, take_rest}
use Rattle.h2_show.proofs.Names.{take-append-drop, Appends, Reset, Settings, Ping, GoAway}
use Rattle.h2_show.proofs.Names.{WindowUpdate, shown_octets, flag_word, pair_words, frame_words}
use Rattle.h2_show.proofs.Names.{rules, Field}
use Rattle.std.proofs.Common.{◌/◌, get_or, position, suc, decimal, ◌*◌}
use Rattle.std.proofs.lemmas.List.{take_more, get_or-take}
use Rattle.std.proofs.lemmas.List.Quantifiers.{position-Some}
use Rattle.std.proofs.lemmas.List.Sums.{fails_before_first}
use Rattle.std.proofs.lemmas.Fmt.{decimal_digit}
use Rattle.std.proofs.lemmas.Option.{slice_get_within, get_or_from_slice_get}
use Rattle.std.specs.List.{slice_get}
use Rattle.hex.specs.Hex.{encode_lower}
use Rattle.h2_frame.specs.Pairs.{pairs_of}
use Rattle.h2_show.specs.Lines.{is_plain, shown_octet}
use Rattle.h2_frame.proofs.PairLemmas.{length-pairs_in}

-- whether an octet is escaped
abbrev is_escaped : ℕ → Bool
is_escaped octet = not (is_plain octet)

shown_as_it_is : (octet : ℕ) → is_escaped octet ≡ false → shown_octet octet ≡ octet ∷ []
shown_as_it_is octet plain =
    let known : is_plain octet ≡ true = not-false (is_plain octet) plain in
    ap (λ (b : Bool). if b then octet ∷ [] else 92 ∷ 120 ∷ encode_lower (octet ∷ [])) known

shown_escaped : (octet : ℕ) → is_escaped octet ≡ true
    → shown_octet octet ≡ 92 ∷ 120 ∷ encode_lower (octet ∷ [])
shown_escaped octet escaped =
    let known : is_plain octet ≡ false = not-true (is_plain octet) escaped in
    ap (λ (b : Bool). if b then octet ∷ [] else 92 ∷ 120 ∷ encode_lower (octet ∷ [])) known

-- octets of which none is escaped
shown_plain : (octets : List ℕ)
    → ((k : ℕ) → k < length octets → is_escaped (get_or octets k 0) ≡ false)
    → shown_octets octets ≡ octets
shown_plain [] plain = refl
shown_plain (octet ∷ octets) plain =
    rw (shown_as_it_is octet (plain 0 (omega arith)))
    (ap (λ (others : List ℕ). octet ∷ others)
    (shown_plain octets (λ k within. plain (suc k) (omega arith))))

-- octets where no place is found
pub shown_unescaped : (octets : List ℕ) → position (λ octet. not (is_plain octet)) octets ≡ None
    → shown_octets octets ≡ octets
shown_unescaped octets none = search (rules, nat_tests, shown_plain, fails_before_first)

-- octets up to the first that is escaped, and what follows it
shown_first : (octets : List ℕ) (count : ℕ) → count < length octets
    → is_escaped (get_or octets count 0) ≡ true
    → ((k : ℕ) → k < count → is_escaped (get_or octets k 0) ≡ false)
    → shown_octets (take (count + 1) octets)
    ≡ take count octets ++ (92 ∷ 120 ∷ encode_lower (get_or octets count 0 ∷ []))
shown_first octets count within escaped plain =
    let before : shown_octets (take count octets) ≡ take count octets =
    shown_plain (take count octets) (λ k lower.
    let small : k < count = omega (arith, simp length-take at lower) in
    rw get_or-take (plain k (omega arith))) in
    ap shown_octets (take_more octets count 0 within) ∙ flat_map-append shown_octet
    (take count octets) (get_or octets count 0 ∷ []) ∙ (λ i. before i ++ (append-nil _
    ∙ shown_escaped (get_or octets count 0) escaped) i)

-- a turn of writing octets: those as they are, and one that is escaped
pub text_step : (octets prefix rest : List ℕ) (count : ℕ) (escape : List ℕ)
    (start before middle after : Option (List ℕ))
    → octets ≡ prefix ++ rest → Appends start before (shown_octets prefix)
    → position (λ octet. not (is_plain octet)) rest ≡ Some count
    → Appends before middle (take count rest)
    → escape ≡ 92 ∷ 120 ∷ encode_lower (get_or rest count 0 ∷ []) → Appends middle after escape
    → (shown : List ℕ)
    × (octets ≡ shown ++ take (length rest - (count + 1)) (drop (count + 1) rest))
    × Appends start after (shown_octets shown)
text_step octets prefix rest count escape start before middle after joined shown found plain is
    escaped =
    let place = position-Some is_escaped rest count 0 found in
    let more = shown_first rest count place.0 place.1 place.2 in
    let turn : Appends before after (shown_octets (take (count + 1) rest)) =
    rw more (Appends-trans before middle after (take count rest) _ plain
    (subst (λ (octets : List ℕ). Appends middle after octets) is escaped)) in (
      prefix ++ take (count + 1) rest,
      joined ∙ ap (λ (others : List ℕ). prefix ++ others) (sym (take-append-drop (count + 1) rest))
          ∙ sym (append_assoc prefix (take (count + 1) rest) (drop (count + 1) rest)) ∙ ap
          (λ (others : List ℕ). (prefix ++ take (count + 1) rest) ++ others)
          (sym (take_rest rest (count + 1))),
      rw (flat_map-append shown_octet _ _) (Appends-trans start before after _ _ shown turn),
    )

-- the last turn, where none of the rest is escaped
pub text_end : (octets prefix rest : List ℕ) (start before after : Option (List ℕ))
    → octets ≡ prefix ++ rest → Appends start before (shown_octets prefix)
    → position (λ octet. not (is_plain octet)) rest ≡ None → Appends before after rest
    → Appends start after (shown_octets octets)
text_end octets prefix rest start before after joined shown none last =
    grind (arith, common_steps, shown_unescaped, flat_map-append, Appends-trans)

-- the words of the frames whose lengths or streams are fixed

two_words : (name space stream count word value : List ℕ)
    → (name ++ space ++ stream ++ space ++ count) ++ word ++ value
    ≡ name ++ (space ++ (stream ++ (space ++ (count ++ (word ++ value)))))
two_words name space stream count word value = simp append_assoc

pub reset_words : (stream code : ℕ)
    → codes "RST_STREAM " ++ (decimal stream ++ (codes " 4 code=" ++ decimal code))
    ≡ frame_words (Reset stream code)
unfolding frame_words
reset_words stream code =
    ap (λ (count : List ℕ). codes "RST_STREAM " ++ (decimal stream ++ (codes " " ++ (count
    ++ (codes " code=" ++ decimal code)))))
    (sym (decimal_digit 4 (omega arith)))
    ∙ sym (two_words (codes "RST_STREAM") (codes " ") (decimal stream) (decimal 4)
    (codes " code=") (decimal code))

pub window_words : (stream increment : ℕ)
    → codes "WINDOW_UPDATE " ++ (decimal stream ++ (codes " 4 add=" ++ decimal increment))
    ≡ frame_words (WindowUpdate stream increment)
unfolding frame_words
window_words stream increment =
    ap (λ (count : List ℕ). codes "WINDOW_UPDATE " ++ (decimal stream ++ (codes " " ++ (count
    ++ (codes " add=" ++ decimal increment)))))
    (sym (decimal_digit 4 (omega arith)))
    ∙ sym (two_words (codes "WINDOW_UPDATE") (codes " ") (decimal stream) (decimal 4)
    (codes " add=") (decimal increment))

three_words : (name space stream count first second third : List ℕ)
    → (name ++ space ++ stream ++ space ++ count) ++ first ++ second ++ third
    ≡ name ++ (space ++ (stream ++ (space ++ (count ++ (first ++ (second ++ third))))))
three_words name space stream count first second third = simp append_assoc

pub ping_words : (ack : Bool) (octets : List ℕ)
    → codes "PING 0 8" ++ (flag_word ack (codes "ack") ++ (codes " " ++ encode_lower octets))
    ≡ frame_words (Ping ack octets)
unfolding frame_words
ping_words ack octets =
    ap (λ (stream : List ℕ). codes "PING " ++ (stream ++ (codes " 8" ++ (flag_word ack (codes "ack")
    ++ (codes " " ++ encode_lower octets)))))
    (sym (decimal_digit 0 (omega arith)))
    ∙ ap (λ (count : List ℕ). codes "PING " ++ (decimal 0 ++ (codes " " ++ (count
    ++ (flag_word ack (codes "ack") ++ (codes " " ++ encode_lower octets))))))
    (sym (decimal_digit 8 (omega arith)))
    ∙ sym (three_words (codes "PING") (codes " ") (decimal 0) (decimal 8)
    (flag_word ack (codes "ack")) (codes " ") (encode_lower octets))

six_words : (name space stream count first second third fourth fifth sixth : List ℕ)
    → (name ++ space ++ stream ++ space ++ count) ++ first ++ second ++ third ++ fourth ++ fifth
    ++ sixth
    ≡ name ++ (space ++ (stream ++ (space ++ (count ++ (first ++ (second ++ (third ++ (fourth
    ++ (fifth ++ sixth)))))))))
six_words name space stream count first second third fourth fifth sixth = simp append_assoc

pub goaway_words : (last code : ℕ) (debug : List ℕ)
    → codes "GOAWAY 0 " ++ (decimal (8 + length debug) ++ (codes " last=" ++ (decimal last
    ++ (codes " code=" ++ (decimal code ++ (codes " debug=" ++ decimal (length debug)))))))
    ≡ frame_words (GoAway last code debug)
unfolding frame_words
goaway_words last code debug =
    ap (λ (stream : List ℕ). codes "GOAWAY " ++ (stream ++ (codes " "
    ++ (decimal (8 + length debug) ++ (codes " last=" ++ (decimal last
    ++ (codes " code=" ++ (decimal code ++ (codes " debug=" ++ decimal (length debug))))))))))
    (sym (decimal_digit 0 (omega arith)))
    ∙ sym (six_words (codes "GOAWAY") (codes " ") (decimal 0) (decimal (8 + length debug))
    (codes " last=") (decimal last) (codes " code=") (decimal code) (codes " debug=")
    (decimal (length debug)))

pub one_word : (name space stream count first pairs : List ℕ)
    → (name ++ space ++ stream ++ space ++ count) ++ first ++ pairs
    ≡ (name ++ (space ++ (stream ++ (space ++ (count ++ first))))) ++ pairs
one_word name space stream count first pairs = simp append_assoc

pub settings_words : (ack : Bool) (pairs : List (ℕ × ℕ))
    → (codes "SETTINGS 0 " ++ (decimal (6 * length pairs) ++ flag_word ack (codes "ack")))
    ++ pair_words pairs ≡ frame_words (Settings ack pairs)
unfolding frame_words
settings_words ack pairs =
    ap (λ (stream : List ℕ). (codes "SETTINGS " ++ (stream ++ (codes " "
    ++ (decimal (6 * length pairs) ++ flag_word ack (codes "ack"))))) ++ pair_words pairs)
    (sym (decimal_digit 0 (omega arith)))
    ∙ sym (one_word (codes "SETTINGS") (codes " ") (decimal 0) (decimal (6 * length pairs))
    (flag_word ack (codes "ack")) (pair_words pairs))

-- the octets of the pairs are no more than the octets that they lie in
pub pairs_fit : (octets : List ℕ) → 6 * length (pairs_of octets) ≤ length octets
pairs_fit octets = rw (length-pairs_in (length octets / 6) octets) (omega arith)

-- the lines of fields and of the next one, which is written
pub next_field : (line : Field → List ℕ) (list : List Field) (place : ℕ) (next : Field)
    (start before after : Option (List ℕ)) → slice_get list place ≡ Some next
    → Appends start before (flat_map line (take place list)) → Appends before after (line next)
    → Appends start after (flat_map line (take (place + 1) list))
next_field line list place next start before after there written last =
    let within = slice_get_within list place next there in
    subst (λ (text : List ℕ). Appends start after text)
    (sym (ap (flat_map line) (take_more list place next within)
    ∙ flat_map-append line (take place list) (get_or list place next ∷ [])
    ∙ ap (λ (text : List ℕ). flat_map line (take place list) ++ text)
    (append-nil (line (get_or list place next))
    ∙ ap line (get_or_from_slice_get list place next next there))))
    (Appends-trans start before after _ _ written last)
