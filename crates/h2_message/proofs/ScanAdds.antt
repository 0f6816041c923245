-- What a scan has seen after one more field.
use Rattle.std.proofs.Common.{slice_get, Bor, subst}
use Rattle.std.specs.Option.{option_copied}
use Rattle.std.proofs.lemmas.List.{take_more, take_all}
use Rattle.std.proofs.lemmas.Option.{slice_get-get_or}
use Rattle.h2_message.specs.ScanSteps.{HasSeenRegular, IsSameOfAll, IsSameOfRegular}
use Rattle.h2_message.proofs.Names
use Names.{◌≡◌, ℕ, nat_eq, ◌||◌, ◌&&◌, not, Bool, true, false, List, [], ◌∷◌, ◌++◌, Option, Some}
use Names.{None, refl, sym, ap, ap₂, ◌∙◌, ◌+◌, ◌<◌, ◌≤◌, length, take, get_or, list_any, option_eq}
use Names.{or-false, or-true, and-false, and-true, Field, Kind, Request, Response, Scan}
use Names.{is_bad_name, is_bad_value, is_pseudo, is_regular, is_colon_first, has_bad_name}
use Names.{has_bad_value, has_pseudo, has_late_pseudo, has_unknown_pseudo, has_pseudo_twice}
use Names.{pseudo_names, value_of, has_connection_field, has_bad_length, declared_length}
use Names.{lengths_of, differ, first_number, IsScan, HasPseudo, with_field, HasSeenPseudo}
use Names.{IsSameOfPseudo}
use Rattle.h2_message.proofs.ScanLists.{any-push, late-push}
use Rattle.h2_message.proofs.ScanPseudo.{same-pseudo}
use Rattle.h2_message.proofs.ScanRegular.{regular-pseudo}
use Rattle.h2_message.proofs.ScanRequests.{request-regular}
use Rattle.h2_message.proofs.ScanResponses.{response-regular}

-- What the comparison of the first octet says.
pub colon-from : (name : List ℕ) (first : Option (Bor ℕ)) (colon : Bor ℕ) (result : Bool)
    → result ≡ option_eq (λ (x y : Bor ℕ). nat_eq x.now y.now) first (Some colon)
    → colon.now ≡ 58 → option_copied first ≡ slice_get name 0 → result ≡ is_colon_first name
unfolding is_colon_first
colon-from [] None colon result is now same = is
colon-from [] (Some octet) colon result is now same = absurd cc
colon-from (octet ∷ name) None colon result is now same = absurd cc
colon-from (octet ∷ name) (Some found) colon result is now same =
    let equal : found.now ≡ octet = cc in
    is ∙ ap₂ (λ (a b : ℕ). nat_eq a b) equal now

-- what every field says
record HasSeenAll (fields : List Field) (scan : Scan) : Type 0 where
  bad_name : scan.bad_name ≡ has_bad_name fields
  bad_value : scan.bad_value ≡ has_bad_value fields
  regular : scan.regular ≡ list_any is_regular fields
  pseudo : scan.pseudo ≡ has_pseudo fields
  late_pseudo : scan.late_pseudo ≡ has_late_pseudo fields

-- what every field and one more say
all-added : (kind : Kind) (fields : List Field) (field : Field) (old new : Scan) (bad-name bad-value
    pseudo : Bool) → IsScan kind fields old → bad-name ≡ is_bad_name field.name
    → bad-value ≡ is_bad_value field.value → is_pseudo field ≡ pseudo
    → new.bad_name ≡ (old.bad_name || bad-name) → new.bad_value ≡ (old.bad_value || bad-value)
    → new.regular ≡ (old.regular || not pseudo) → new.pseudo ≡ (old.pseudo || pseudo)
    → new.late_pseudo ≡ (old.late_pseudo || (old.regular && pseudo))
    → HasSeenAll (fields ++ field ∷ []) new
unfolding has_bad_name has_bad_value is_regular has_pseudo
all-added kind fields field old new bad-name bad-value pseudo scan name value colon n v r p l =
    record {
      bad_name = n ∙ (ap₂ (λ (a b : Bool). a || b) scan.bad_name name
          ∙ sym (any-push (λ f. is_bad_name f.name) fields field));
      bad_value = v ∙ (ap₂ (λ (a b : Bool). a || b) scan.bad_value value
          ∙ sym (any-push (λ f. is_bad_value f.value) fields field));
      regular = r ∙ (ap₂ (λ (a b : Bool). a || not b) scan.regular (sym colon)
          ∙ sym (any-push is_regular fields field));
      pseudo = p ∙ (ap₂ (λ (a b : Bool). a || b) scan.pseudo (sym colon)
          ∙ sym (any-push is_pseudo fields field));
      late_pseudo = l ∙ (rw (scan.late_pseudo, scan.regular, ← colon)
          (sym (late-push fields field)));
    }

-- the three parts of what a scan has seen
whole : (kind : Kind) (fields : List Field) (scan : Scan) → HasSeenAll fields scan
    → HasSeenPseudo kind fields scan → HasSeenRegular fields scan → IsScan kind fields scan
whole kind fields scan all pseudo regular = record {
  bad_name = all.bad_name;
  bad_value = all.bad_value;
  regular = all.regular;
  pseudo = all.pseudo;
  late_pseudo = all.late_pseudo;
  unknown_pseudo = pseudo.unknown_pseudo;
  pseudo_twice = pseudo.pseudo_twice;
  has_pseudo = pseudo.has_pseudo;
  connection_field = regular.connection_field;
  bad_length = regular.has_length.bad_length;
  length = regular.has_length.length;
}

-- the scan as a pseudo-field is begun to be added
abbrev pub with_pseudo : Scan → (bad-value : Bool) → Scan
with_pseudo old bad-value = record old {
  bad_value = old.bad_value || bad-value;
  pseudo = true;
  late_pseudo = old.late_pseudo || old.regular;
}

-- the scan as a regular field is begun to be added
abbrev pub with_regular : Scan → (bad-name bad-value : Bool) → Scan
with_regular old bad-name bad-value = record old {
  bad_name = old.bad_name || bad-name;
  bad_value = old.bad_value || bad-value;
  regular = true;
}

seen-pseudo : (kind : Kind) (fields : List Field) (old new : Scan) → IsSameOfPseudo old new
    → IsScan kind fields old → HasSeenPseudo kind fields new
seen-pseudo kind fields old new same scan = same-pseudo kind fields old new same record {
  unknown_pseudo = scan.unknown_pseudo;
  pseudo_twice = scan.pseudo_twice;
  has_pseudo = scan.has_pseudo;
}

seen-regular : (kind : Kind) (fields : List Field) (scan : Scan) → IsScan kind fields scan
    → HasSeenRegular fields scan
seen-regular kind fields scan seen = record {
  connection_field = seen.connection_field;
  has_length = record { bad_length = seen.bad_length; length = seen.length };
}

-- A regular field is no pseudo-field of any kind.
kind-regular : (kind : Kind) (fields : List Field) (name value : List ℕ) (sensitive : Bool)
    (scan : Scan) → is_colon_first name ≡ false → HasSeenPseudo kind fields scan
    → HasSeenPseudo kind (with_field fields name value sensitive) scan
kind-regular Request fields name value sensitive scan colon seen =
    request-regular fields name value sensitive scan colon seen
kind-regular Response fields name value sensitive scan colon seen =
    response-regular fields name value sensitive scan colon seen

module _ (kind : Kind) (fields : List Field) (name value : List ℕ) (sensitive : Bool) where
  -- A pseudo-field was added, and then its name was looked at.
  pub pseudo-added : (old mid : Scan) (bad-name bad-value : Bool) → IsScan kind fields old
      → bad-name ≡ is_bad_name name → bad-value ≡ is_bad_value value → is_colon_first name ≡ true
      → (is_colon_first name ≡ true → HasSeenPseudo kind fields (with_pseudo old bad-value)
      → HasSeenPseudo kind (with_field fields name value sensitive) mid)
      → IsSameOfAll (with_pseudo old bad-value) mid
      → IsSameOfRegular (with_pseudo old bad-value) mid
      → IsScan kind (with_field fields name value sensitive)
      (record mid { bad_name = mid.bad_name || bad-name })
  unfolding is_pseudo
  pseudo-added old mid bad-name bad-value scan name-is value-is colon step all regular =
      let field : Field = record { name = name; value = value; sensitive = sensitive } in
      let new : Scan = record mid { bad_name = mid.bad_name || bad-name } in
      whole kind (fields ++ field ∷ []) new
      (all-added kind fields field old new bad-name bad-value true scan name-is value-is colon
      (ap (λ (b : Bool). b || bad-name) all.bad_name) all.bad_value
      (all.regular ∙ sym (or-false old.regular)) (all.pseudo ∙ sym (or-true old.pseudo))
      (all.late_pseudo ∙ ap (λ (b : Bool). old.late_pseudo || b) (sym (and-true old.regular))))
      (same-pseudo kind (fields ++ field ∷ []) mid new record {
        unknown_pseudo = refl;
        pseudo_twice = refl;
        method = refl;
        scheme = refl;
        path = refl;
        authority = refl;
        status = refl;
      } (step colon (seen-pseudo kind fields old (with_pseudo old bad-value) record {
        unknown_pseudo = refl;
        pseudo_twice = refl;
        method = refl;
        scheme = refl;
        path = refl;
        authority = refl;
        status = refl;
      } scan))) (regular-pseudo fields name value sensitive old new record {
        connection_field = regular.connection_field;
        bad_length = regular.bad_length;
        length = regular.length;
      } colon (seen-regular kind fields old scan))

  -- A regular field was added.
  pub regular-added : (old new : Scan) (bad-name bad-value : Bool) → IsScan kind fields old
      → bad-name ≡ is_bad_name name → bad-value ≡ is_bad_value value → is_colon_first name ≡ false
      → (HasSeenRegular fields (with_regular old bad-name bad-value) → HasSeenRegular
      (with_field fields name value sensitive) new)
      → IsSameOfAll (with_regular old bad-name bad-value) new
      → IsSameOfPseudo (with_regular old bad-name bad-value) new
      → IsScan kind (with_field fields name value sensitive) new
  unfolding is_pseudo
  regular-added old new bad-name bad-value scan name-is value-is colon step all pseudo =
      let field : Field = record { name = name; value = value; sensitive = sensitive } in
      whole kind (fields ++ field ∷ []) new
      (all-added kind fields field old new bad-name bad-value false scan name-is value-is colon
      all.bad_name all.bad_value (all.regular ∙ sym (or-true old.regular))
      (all.pseudo ∙ sym (or-false old.pseudo)) (all.late_pseudo ∙ (sym (or-false old.late_pseudo)
      ∙ ap (λ (b : Bool). old.late_pseudo || b) (sym (and-false old.regular)))))
      (kind-regular kind fields name value sensitive new colon
      (seen-pseudo kind fields old new record {
        unknown_pseudo = pseudo.unknown_pseudo;
        pseudo_twice = pseudo.pseudo_twice;
        method = pseudo.method;
        scheme = pseudo.scheme;
        path = pseudo.path;
        authority = pseudo.authority;
        status = pseudo.status;
      } scan)) (step record {
        connection_field = scan.connection_field;
        has_length = record { bad_length = scan.bad_length; length = scan.length };
      })

-- The fields up to an index were seen, and so was the next one.
pub scan-step : (kind : Kind) (fields : List Field) (index : ℕ) (field : Field)
    (name value : List ℕ) (scan : Scan) → index < length fields
    → field ≡ get_or fields index field → name ≡ field.name → value ≡ field.value
    → IsScan kind (take index fields ++ record {
      name = name;
      value = value;
      sensitive = field.sensitive;
    } ∷ []) scan → IsScan kind (take (index + 1) fields) scan
scan-step kind fields index field name value scan within is named valued seen =
    let last : ◌≡◌ {A = Field} record {
      name = name;
      value = value;
      sensitive = field.sensitive;
    } (get_or fields index field) =
    ap₂ (λ (n v : List ℕ). record { name = n; value = v; sensitive = field.sensitive }) named valued
    ∙ is in
    subst (λ (fs : List Field). IsScan kind fs scan)
    (ap (λ (f : Field). take index fields ++ f ∷ []) last
    ∙ sym (take_more fields index field within)) seen

-- All fields were seen.
pub scan-end : (kind : Kind) (fields : List Field) (index : ℕ) (scan : Scan)
    → length fields ≤ index → IsScan kind (take index fields) scan → IsScan kind fields scan
scan-end kind fields index scan past seen =
    subst (λ (fs : List Field). IsScan kind fs scan) (take_all index fields past) seen

-- the field at a place of a list
pub field-at : (fields : List Field) (place : ℕ) (field : Field) → place < length fields
    → slice_get fields place ≡ Some field → field ≡ get_or fields place field
field-at fields place field within is =
    let same : Some field ≡ Some (get_or fields place field) =
    sym is ∙ slice_get-get_or fields place field within in
    cc

-- what is seen of no fields
abbrev pub no-scan : Scan
no-scan = record {
  bad_name = false;
  bad_value = false;
  regular = false;
  pseudo = false;
  late_pseudo = false;
  unknown_pseudo = false;
  pseudo_twice = false;
  method = None;
  scheme = false;
  path = None;
  authority = false;
  status = None;
  connection_field = false;
  bad_length = false;
  length = None;
}

pub nothing-seen : (kind : Kind) → IsScan kind [] no-scan
unfolding has_bad_name has_bad_value has_pseudo has_late_pseudo has_unknown_pseudo
    has_pseudo_twice pseudo_names HasPseudo value_of has_connection_field has_bad_length
    declared_length lengths_of differ first_number
nothing-seen Request = record {
  bad_name = refl;
  bad_value = refl;
  regular = refl;
  pseudo = refl;
  late_pseudo = refl;
  unknown_pseudo = refl;
  pseudo_twice = refl;
  has_pseudo = record { method = refl; scheme = refl; path = refl; authority = refl };
  connection_field = refl;
  bad_length = refl;
  length = λ good. refl;
}
nothing-seen Response = record {
  bad_name = refl;
  bad_value = refl;
  regular = refl;
  pseudo = refl;
  late_pseudo = refl;
  unknown_pseudo = refl;
  pseudo_twice = refl;
  has_pseudo = record { status = refl };
  connection_field = refl;
  bad_length = refl;
  length = λ good. refl;
}
