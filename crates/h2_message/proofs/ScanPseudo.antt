-- What one more field changes of the pseudo-fields that a scan has seen.
use Rattle.std.proofs.Common.{nat_lt}
use Rattle.h2_message.proofs.Names
use Names.{◌≡◌, ℕ, nat_eq, ◌||◌, ◌&&◌, cond, Bool, true, false, List, [], ◌∷◌, ◌++◌, Option, Some}
use Names.{None, refl, sym, ap, ◌∙◌, pointwise, list_any, count_by, option_or, option_map, is_some}
use Names.{bytes_eq, eqb-true, bytes_eq-Decides, Field, Kind, Request, Response, Scan, is_named}
use Names.{is_unknown_pseudo, pseudo_names, is_colon_first, has_unknown_pseudo, has_pseudo_twice}
use Names.{value_of, HasPseudo, HasSeenPseudo, IsSameOfPseudo}
use Rattle.h2_message.proofs.ScanLists.{any-push, value-push, value-any, twice-push, any-or}
use Rattle.h2_message.proofs.ScanLists.{any-same}

-- What `==` says of two texts.
pub compared : (name slice text : List ℕ) (result answer : Bool)
    → result ≡ pointwise nat_eq name slice → slice ≡ text → result ≡ answer
    → bytes_eq name text ≡ answer
compared name slice text result answer is same was =
    ap (λ (t : List ℕ). bytes_eq name t) (sym same) ∙ (sym is ∙ was)

-- A name that is one text is no other.
pub other-name : (name text other : List ℕ) → bytes_eq name text ≡ true
    → bytes_eq text other ≡ false → bytes_eq name other ≡ false
other-name name text other is differs =
    ap (λ (n : List ℕ). bytes_eq n other) ((bytes_eq-Decides name text).0 is) ∙ differs

-- What is the same of two scans was seen by both.
pub same-pseudo : (kind : Kind) (fields : List Field) (old new : Scan) → IsSameOfPseudo old new
    → HasSeenPseudo kind fields old → HasSeenPseudo kind fields new
unfolding HasPseudo
same-pseudo Request fields old new same seen = record {
  unknown_pseudo = same.unknown_pseudo ∙ seen.unknown_pseudo;
  pseudo_twice = same.pseudo_twice ∙ seen.pseudo_twice;
  has_pseudo = record {
    method = same.method ∙ seen.has_pseudo.method;
    scheme = same.scheme ∙ seen.has_pseudo.scheme;
    path = same.path ∙ seen.has_pseudo.path;
    authority = same.authority ∙ seen.has_pseudo.authority;
  };
}
same-pseudo Response fields old new same seen = record {
  unknown_pseudo = same.unknown_pseudo ∙ seen.unknown_pseudo;
  pseudo_twice = same.pseudo_twice ∙ seen.pseudo_twice;
  has_pseudo = record { status = same.status ∙ seen.has_pseudo.status };
}

module _ (kind : Kind) (fields : List Field) (field : Field) where
  -- A pseudo-field that is none of the kind is one of the fields, or the last one.
  pub unknown-push : has_unknown_pseudo kind (fields ++ field ∷ [])
      ≡ (has_unknown_pseudo kind fields || is_unknown_pseudo kind field)
  unfolding has_unknown_pseudo
  unknown-push = any-push (is_unknown_pseudo kind) fields field

  -- A pseudo-field stands twice where one did, or where the last one stood already.
  pub two-push : has_pseudo_twice kind (fields ++ field ∷ [])
      ≡ (has_pseudo_twice kind fields || list_any (λ name. list_any (is_named name) fields &&
      is_named name field) (pseudo_names kind))
  unfolding has_pseudo_twice
  two-push = any-same (λ name. nat_lt 1 (count_by (is_named name) (fields ++ field ∷ [])))
      (λ name. nat_lt 1 (count_by (is_named name) fields)
      || (list_any (is_named name) fields && is_named name field))
      (λ name. twice-push (is_named name) fields field) (pseudo_names kind)
      ∙ any-or (λ name. nat_lt 1 (count_by (is_named name) fields))
      (λ name. list_any (is_named name) fields && is_named name field) (pseudo_names kind)

some-map : {X : Type 0} (g : List ℕ → X) (o : Option (List ℕ))
    → is_some (option_map g o) ≡ is_some o
some-map g None = refl
some-map g (Some value) = refl

or-map : {X : Type 0} (g : List ℕ → X) (o : Option (List ℕ)) (named : Bool) (value : List ℕ)
    → option_or (option_map g o) (cond named (Some (g value)) None)
    ≡ option_map g (option_or o (cond named (Some value) None))
or-map g None true value = refl
or-map g None false value = refl
or-map g (Some first) named value = refl

pub or-nothing : {X : Type 0} (kept : Option X) → option_or kept None ≡ kept
or-nothing None = refl
or-nothing (Some x) = refl

-- What is kept of the first value is there where a field has the name.
pub kept-any : {X : Type 0} (g : List ℕ → X) (name : List ℕ) (fields : List Field) (kept : Option X)
    → kept ≡ option_map g (value_of name fields)
    → is_some kept ≡ list_any (is_named name) fields
kept-any g name fields kept is =
    ap is_some is ∙ (some-map g (value_of name fields) ∙ value-any name fields)

-- What is kept of the first value after one more field.
pub kept-push : {X : Type 0} (g : List ℕ → X) (name : List ℕ) (fields : List Field) (field : Field)
    (kept : Option X) → kept ≡ option_map g (value_of name fields)
    → option_or kept (cond (is_named name field) (Some (g field.value)) None)
    ≡ option_map g (value_of name (fields ++ field ∷ []))
kept-push {X} g name fields field kept is =
    ap (λ (o : Option X). option_or o (cond (is_named name field) (Some (g field.value)) None)) is
    ∙ (or-map g (value_of name fields) (is_named name field) field.value
    ∙ ap (option_map g) (sym (value-push name fields field)))

-- A name that begins with no colon is none that does.
pub no-colon : (name octets : List ℕ) → is_colon_first name ≡ false
    → bytes_eq name (58 ∷ octets) ≡ false
unfolding is_colon_first
no-colon [] octets colon = refl
no-colon (first ∷ name) octets colon = ap (λ (b : Bool). b && bytes_eq name octets) colon

-- A name that begins with a colon is none that begins with another octet.
pub other-colon : (name octets : List ℕ) (other : ℕ) → is_colon_first name ≡ true
    → nat_eq 58 other ≡ false → bytes_eq name (other ∷ octets) ≡ false
unfolding is_colon_first
other-colon [] octets other colon differs = refl
other-colon (first ∷ name) octets other colon differs =
    ap (λ (n : ℕ). nat_eq n other && bytes_eq name octets) (eqb-true first 58 colon)
    ∙ ap (λ (b : Bool). b && bytes_eq name octets) differs
