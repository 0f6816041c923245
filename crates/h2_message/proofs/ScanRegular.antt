-- What one more field changes of what a scan has seen of regular fields.
use Rattle.std.proofs.Common.{◌==◌}
use Rattle.std.proofs.lemmas.Bool.{or_from}
use Rattle.std.proofs.lemmas.List.{map-append, append-nil}
use Rattle.std.proofs.lemmas.List.Elements.{filter-append}
use Rattle.h2_message.specs.ScanSteps.{HasSeenLength, HasSeenRegular, IsSameOfRegular}
use Rattle.h2_message.proofs.Names
use Names.{◌≡◌, ℕ, not, ◌||◌, ◌&&◌, cond, Bool, true, false, if◌then◌else◌, List, [], ◌∷◌}
use Names.{◌++◌, map, codes, Option, Some, None, refl, sym, ap, ap₂, ◌∙◌, list_any, filter}
use Names.{option_or, bytes_eq, str_eq_ignore_ascii_case, or-false, or-true, or_parts, false≢true}
use Names.{bytes_eq-Decides, Field, Scan, is_bad_length, number_written, is_named, lengths_of}
use Names.{differ, has_bad_length, first_number, declared_length, is_connection_field}
use Names.{connection_names, has_connection_field, is_colon_first, with_field}
use Rattle.h2_message.proofs.ScanLists.{any-push, or-swap}
use Rattle.h2_message.proofs.ScanPseudo.{other-colon}

-- the lengths of fields and of a `content-length`
lengths-named : (fields : List Field) (field : Field)
    → is_named (codes "content-length") field ≡ true
    → lengths_of (fields ++ field ∷ []) ≡ lengths_of fields ++ field.value ∷ []
unfolding lengths_of
lengths-named fields field is =
    ap (map (λ f. f.value)) (filter-append (is_named (codes "content-length")) fields (field ∷ []))
    ∙ (map-append (λ f. f.value) (filter (is_named (codes "content-length")) fields)
    (filter (is_named (codes "content-length")) (field ∷ []))
    ∙ ap (λ (b : Bool). lengths_of fields ++ map (λ f. f.value) (cond b (field ∷ []) [])) is)

-- the lengths of fields and of another field
pub lengths-other : (fields : List Field) (field : Field)
    → is_named (codes "content-length") field ≡ false
    → lengths_of (fields ++ field ∷ []) ≡ lengths_of fields ++ []
unfolding lengths_of
lengths-other fields field is =
    ap (map (λ f. f.value)) (filter-append (is_named (codes "content-length")) fields (field ∷ []))
    ∙ (map-append (λ f. f.value) (filter (is_named (codes "content-length")) fields)
    (filter (is_named (codes "content-length")) (field ∷ []))
    ∙ ap (λ (b : Bool). lengths_of fields ++ map (λ f. f.value) (cond b (field ∷ []) [])) is)

-- Whether lengths are wrong.
abbrev pub bad_lengths : List (List ℕ) → Bool
bad_lengths values = list_any is_bad_length values || differ (map number_written values)

-- Whether a number is another than the first one.
abbrev pub is_other : Option ℕ → ℕ → Bool
is_other None number = false
is_other (Some first) number = not (number == first)

differ-push : (values : List (List ℕ)) (value : List ℕ)
    → differ (map number_written (values ++ value ∷ []))
    ≡ (differ (map number_written values) || is_other (first_number values) (number_written value))
unfolding differ first_number
differ-push [] value = refl
differ-push (first ∷ values) value =
    ap (list_any (λ other. not (other == number_written first)))
    (map-append number_written values (value ∷ []))
    ∙ any-push (λ other. not (other == number_written first)) (map number_written values)
    (number_written value)

-- Lengths are wrong with one more.
lengths-push : (values : List (List ℕ)) (value : List ℕ)
    → bad_lengths (values ++ value ∷ [])
    ≡ (bad_lengths values || (is_bad_length value
    || is_other (first_number values) (number_written value)))
lengths-push values value =
    ap₂ (λ (a b : Bool). a || b) (any-push is_bad_length values value) (differ-push values value)
    ∙ or-swap (list_any is_bad_length values) (is_bad_length value)
    (differ (map number_written values)) (is_other (first_number values) (number_written value))

first-push : (values : List (List ℕ)) (value : List ℕ)
    → first_number (values ++ value ∷ [])
    ≡ option_or (first_number values) (Some (number_written value))
unfolding first_number
first-push [] value = refl
first-push (first ∷ values) value = refl

other-stored : (bad : Bool) (stored declared : Option ℕ) (number : ℕ)
    → (bad ≡ false → stored ≡ declared)
    → (bad || is_other stored number) ≡ (bad || is_other declared number)
other-stored true stored declared number same = refl
other-stored false stored declared number same =
    ap (λ (o : Option ℕ). is_other o number) (same refl)

-- what is said by the call that reads a length
number-if : (bad : Bool) (number : ℕ) (result : Option ℕ) (read : ℕ)
    → result ≡ (if bad then None else Some number) → result ≡ Some read
    → (bad ≡ false) × (read ≡ number)
number-if true number result read is was = absurd cc
number-if false number result read is was = (refl, cc)

none-if : (bad : Bool) (number : ℕ) (result : Option ℕ)
    → result ≡ (if bad then None else Some number) → result ≡ None → bad ≡ true
none-if true number result is was = refl
none-if false number result is was = absurd cc

module _ (fields : List Field) where
  -- A `content-length` was added that is none.
  pub bad-length-added : (value : List ℕ) (sensitive : Bool) (old : Scan) (result : Option ℕ)
      → result ≡ (if is_bad_length value then None else Some (number_written value))
      → result ≡ None → HasSeenLength fields old
      → HasSeenLength (with_field fields (codes "content-length") value sensitive) (record old {
        bad_length = true;
      })
  unfolding has_bad_length is_named
  bad-length-added value sensitive old result read none seen =
      let field : Field = record {
        name = codes "content-length";
        value = value;
        sensitive = sensitive;
      } in
      let bad : has_bad_length (fields ++ field ∷ []) ≡ true =
      ap bad_lengths (lengths-named fields field refl) ∙ (lengths-push (lengths_of fields) value
      ∙ (ap (λ (b : Bool). bad_lengths (lengths_of fields)
      || (b || is_other (first_number (lengths_of fields)) (number_written value)))
      (none-if (is_bad_length value) (number_written value) result read none)
      ∙ or-true (bad_lengths (lengths_of fields)))) in
      record { bad_length = sym bad; length = λ good. absurd (false≢true (sym good ∙ bad)) }

  -- A `content-length` was added that is one.
  pub length-added : (value : List ℕ) (sensitive : Bool) (old new : Scan) (result : Option ℕ)
      (number : ℕ) → result ≡ (if is_bad_length value then None else Some (number_written value))
      → result ≡ Some number → new.bad_length ≡ (old.bad_length || is_other old.length number)
      → new.length ≡ option_or old.length (Some number) → HasSeenLength fields old
      → HasSeenLength (with_field fields (codes "content-length") value sensitive) new
  unfolding has_bad_length is_named declared_length
  length-added value sensitive old new result number read some bad kept seen =
      let field : Field = record {
        name = codes "content-length";
        value = value;
        sensitive = sensitive;
      } in
      let is = number-if (is_bad_length value) (number_written value) result number read some in
      let lengths = lengths_of fields in
      let pushed : has_bad_length (fields ++ field ∷ [])
      ≡ (has_bad_length fields || is_other (first_number lengths) number) =
      ap bad_lengths (lengths-named fields field refl) ∙ (lengths-push lengths value
      ∙ ap₂ (λ (b : Bool) (n : ℕ). bad_lengths lengths || (b || is_other (first_number lengths) n))
      is.0 (sym is.1)) in
      record {
        bad_length = bad ∙ (ap (λ (b : Bool). b || is_other old.length number) seen.bad_length
            ∙ (other-stored (has_bad_length fields) old.length (declared_length fields) number
            seen.length ∙ sym pushed));
        length = λ good. kept ∙ (ap₂ (λ (o : Option ℕ) (n : ℕ). option_or o (Some n))
            (seen.length (or_parts (has_bad_length fields) _ (sym pushed ∙ good)).0) is.1
            ∙ (sym (first-push lengths value)
            ∙ sym (ap first_number (lengths-named fields field refl))));
      }

  -- A field that is specific to one connection is one of the fields, or the last one.
  connection-push : (field : Field)
      → has_connection_field (fields ++ field ∷ []) ≡ (has_connection_field fields ||
      is_connection_field field)
  unfolding has_connection_field
  connection-push field = any-push is_connection_field fields field

  -- A `content-length` was added.
  pub regular-length : (name value : List ℕ) (sensitive : Bool) (old new : Scan)
      → bytes_eq name (codes "content-length") ≡ true → new.connection_field ≡ old.connection_field
      → HasSeenLength (with_field fields (codes "content-length") value sensitive) new
      → HasSeenRegular fields old → HasSeenRegular (with_field fields name value sensitive) new
  unfolding is_connection_field is_named connection_names
  regular-length name value sensitive old new is same lengths seen =
      let field : Field = record {
        name = codes "content-length";
        value = value;
        sensitive = sensitive;
      } in
      rw ((bytes_eq-Decides name (codes "content-length")).0 is) record {
        connection_field = same ∙ (seen.connection_field
            ∙ (sym (or-false (has_connection_field fields)) ∙ sym (connection-push field)));
        has_length = lengths;
      }

  -- Another field was added.
  pub regular-other : (field : Field) (old new : Scan) (specific : Bool)
      → is_named (codes "content-length") field ≡ false → is_connection_field field ≡ specific
      → new.connection_field ≡ (old.connection_field || specific) → new.bad_length ≡ old.bad_length
      → new.length ≡ old.length → HasSeenRegular fields old
      → HasSeenRegular (fields ++ field ∷ []) new
  unfolding has_bad_length declared_length
  regular-other field old new specific other is connection bad kept seen =
      let same : lengths_of (fields ++ field ∷ []) ≡ lengths_of fields =
      lengths-other fields field other ∙ append-nil (lengths_of fields) in
      record {
        connection_field = connection ∙ (ap₂ (λ (a b : Bool). a || b) seen.connection_field (sym is)
            ∙ sym (connection-push field));
        has_length = record {
          bad_length = bad ∙ (seen.has_length.bad_length ∙ ap bad_lengths (sym same));
          length = λ good. kept ∙ (seen.has_length.length (ap bad_lengths (sym same) ∙ good)
              ∙ ap first_number (sym same));
        };
      }

-- A field was added whose name is specific to one connection.
pub regular-connection : (fields : List Field) (name value : List ℕ) (sensitive : Bool)
    (old : Scan) → bytes_eq name (codes "content-length") ≡ false
    → list_any (λ other. bytes_eq name other) connection_names ≡ true
    → HasSeenRegular fields old
    → HasSeenRegular (with_field fields name value sensitive) (record old {
      connection_field = true;
    })
unfolding is_connection_field is_named
regular-connection fields name value sensitive old other is seen =
    let field : Field = record { name = name; value = value; sensitive = sensitive } in
    regular-other fields field old (record old { connection_field = true }) true other
    (ap (λ (b : Bool). b || (bytes_eq name (codes "te")
    && not (str_eq_ignore_ascii_case value (codes "trailers")))) is)
    (sym (or-true old.connection_field)) refl refl seen

-- A `te` was added.
pub regular-te : (fields : List Field) (name value : List ℕ) (sensitive : Bool) (old : Scan)
    (same : Bool) → bytes_eq name (codes "content-length") ≡ false
    → list_any (λ other. bytes_eq name other) connection_names ≡ false
    → bytes_eq name (codes "te") ≡ true
    → same ≡ str_eq_ignore_ascii_case value (codes "trailers")
    → HasSeenRegular fields old
    → HasSeenRegular (with_field fields name value sensitive) (record old {
      connection_field = old.connection_field || not same;
    })
unfolding is_connection_field is_named
regular-te fields name value sensitive old same other none te says seen =
    let field : Field = record { name = name; value = value; sensitive = sensitive } in
    regular-other fields field old
    (record old { connection_field = old.connection_field || not same }) (not same) other
    (ap₂ (λ (a b : Bool). a || (b && not (str_eq_ignore_ascii_case value (codes "trailers"))))
    none te ∙ ap not (sym says)) refl refl refl seen

-- Any other regular field was added.
pub regular-any : (fields : List Field) (name value : List ℕ) (sensitive : Bool) (old new : Scan)
    → IsSameOfRegular old new → bytes_eq name (codes "content-length") ≡ false
    → list_any (λ other. bytes_eq name other) connection_names ≡ false
    → bytes_eq name (codes "te") ≡ false → HasSeenRegular fields old
    → HasSeenRegular (with_field fields name value sensitive) new
unfolding is_connection_field is_named
regular-any fields name value sensitive old new same other none te seen =
    let field : Field = record { name = name; value = value; sensitive = sensitive } in
    regular-other fields field old new false other
    (ap₂ (λ (a b : Bool). a || (b && not (str_eq_ignore_ascii_case value (codes "trailers"))))
    none te) (same.connection_field ∙ sym (or-false old.connection_field)) same.bad_length
    same.length seen

-- A pseudo-field was added, which is no regular one.
pub regular-pseudo : (fields : List Field) (name value : List ℕ) (sensitive : Bool)
    (old new : Scan) → IsSameOfRegular old new → is_colon_first name ≡ true
    → HasSeenRegular fields old → HasSeenRegular (with_field fields name value sensitive) new
unfolding connection_names
regular-pseudo fields name value sensitive old new same colon seen =
    regular-any fields name value sensitive old new same (other-colon name _ _ colon refl)
    (or_from _ _ (other-colon name _ _ colon refl) (or_from _ _ (other-colon name _ _ colon refl)
    (or_from _ _ (other-colon name _ _ colon refl) (or_from _ _ (other-colon name _ _ colon refl)
    (or_from _ _ (other-colon name _ _ colon refl) refl))))) (other-colon name _ _ colon refl) seen
