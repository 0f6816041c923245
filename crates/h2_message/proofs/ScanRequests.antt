-- What one more field changes of the pseudo-fields of a request.
use Rattle.h2_message.specs.declared.classes.Method.{Method}
use Rattle.h2_message.proofs.Names
use Names.{◌≡◌, ℕ, not, ◌||◌, ◌&&◌, cond, Bool, true, false, List, [], ◌∷◌, ◌++◌, codes, Option}
use Names.{Some, None, refl, sym, ap, ◌∙◌, list_any, option_or, is_some, bytes_eq, or-false}
use Names.{or-true, and-false, and-true, Field, Path, Request, Scan, method_class, path_class}
use Names.{is_pseudo, is_named, is_unknown_pseudo, pseudo_names, is_colon_first}
use Names.{has_pseudo_twice, HasPseudo, with_field, HasSeenPseudo, IsSameOfPseudo}
use Rattle.h2_message.proofs.ScanLists.{any-push}
use Rattle.h2_message.proofs.ScanPseudo.{other-name, same-pseudo, unknown-push, two-push, kept-any}
use Rattle.h2_message.proofs.ScanPseudo.{kept-push, or-nothing, no-colon}

-- the pseudo-fields of a request after one more field
abbrev pub after_request : Scan → List ℕ → (pseudo method scheme path authority : Bool) → Scan
after_request old value pseudo method scheme path authority = record old {
  unknown_pseudo = old.unknown_pseudo
      || (pseudo && not (method || (scheme || (path || (authority || false)))));
  pseudo_twice = old.pseudo_twice
      || ((is_some old.method && method) || ((old.scheme && scheme)
      || ((is_some old.path && path) || ((old.authority && authority) || false))));
  method = option_or old.method (cond method (Some (method_class value)) None);
  scheme = old.scheme || scheme;
  path = option_or old.path (cond path (Some (path_class value)) None);
  authority = old.authority || authority;
}

module _ (fields : List Field) (field : Field) (old : Scan) where
  same-twice : is_some old.method ≡ list_any (is_named (codes ":method")) fields
      → is_some old.path ≡ list_any (is_named (codes ":path")) fields
      → HasSeenPseudo Request fields old
      → (after_request old field.value (is_pseudo field) (is_named (codes ":method") field)
      (is_named (codes ":scheme") field) (is_named (codes ":path") field)
      (is_named (codes ":authority") field)).pseudo_twice ≡ (has_pseudo_twice Request fields ||
      list_any (λ name. list_any (is_named name) fields && is_named name field)
      (pseudo_names Request))
  unfolding HasPseudo pseudo_names
  same-twice method path seen =
      rw (method, path, seen.pseudo_twice, seen.has_pseudo.scheme, seen.has_pseudo.authority)

  pub request-push : HasSeenPseudo Request fields old
      → HasSeenPseudo Request (fields ++ field ∷ []) (after_request old field.value
      (is_pseudo field) (is_named (codes ":method") field) (is_named (codes ":scheme") field)
      (is_named (codes ":path") field) (is_named (codes ":authority") field))
  unfolding HasPseudo is_unknown_pseudo pseudo_names
  request-push seen = record {
    unknown_pseudo = ap (λ (b : Bool). b || is_unknown_pseudo Request field) seen.unknown_pseudo
        ∙ sym (unknown-push Request fields field);
    pseudo_twice = same-twice
        (kept-any method_class (codes ":method") fields old.method seen.has_pseudo.method)
        (kept-any path_class (codes ":path") fields old.path seen.has_pseudo.path) seen
        ∙ sym (two-push Request fields field);
    has_pseudo = record {
      method = kept-push method_class (codes ":method") fields field old.method
          seen.has_pseudo.method;
      scheme = ap (λ (b : Bool). b || is_named (codes ":scheme") field) seen.has_pseudo.scheme
          ∙ sym (any-push (is_named (codes ":scheme")) fields field);
      path = kept-push path_class (codes ":path") fields field old.path seen.has_pseudo.path;
      authority =
          ap (λ (b : Bool). b || is_named (codes ":authority") field) seen.has_pseudo.authority
          ∙ sym (any-push (is_named (codes ":authority")) fields field);
    };
  }

  -- The pseudo-fields of a request after a field, by the names that it has.
  request-with : (new : Scan) (pseudo method scheme path authority : Bool)
      → HasSeenPseudo Request fields old → is_pseudo field ≡ pseudo
      → is_named (codes ":method") field ≡ method → is_named (codes ":scheme") field ≡ scheme
      → is_named (codes ":path") field ≡ path → is_named (codes ":authority") field ≡ authority
      → IsSameOfPseudo (after_request old field.value pseudo method scheme path authority) new
      → HasSeenPseudo Request (fields ++ field ∷ []) new
  request-with new pseudo method scheme path authority seen colon m s p a same =
      same-pseudo Request (fields ++ field ∷ [])
      (after_request old field.value pseudo method scheme path authority) new same
      (rw (← colon, ← m, ← s, ← p, ← a) (request-push seen))

-- A `:method` was added.
pub method-added : (fields : List Field) (name value : List ℕ) (sensitive : Bool) (old : Scan)
    (some : Bool) (class : Method) (first : Option Method) → bytes_eq name (codes ":method") ≡ true
    → is_colon_first name ≡ true → some ≡ is_some old.method → class ≡ method_class value
    → first ≡ option_or old.method (Some class) → HasSeenPseudo Request fields old
    → HasSeenPseudo Request (with_field fields name value sensitive) (record old {
      pseudo_twice = old.pseudo_twice || some;
      method = first;
    })
unfolding is_pseudo is_named
method-added fields name value sensitive old some class first is colon was says kept seen =
    let field : Field = record { name = name; value = value; sensitive = sensitive } in
    let new : Scan = record old { pseudo_twice = old.pseudo_twice || some; method = first } in
    request-with fields field old new true true false false false seen colon is
    (other-name name (codes ":method") (codes ":scheme") is refl)
    (other-name name (codes ":method") (codes ":path") is refl)
    (other-name name (codes ":method") (codes ":authority") is refl) record {
      unknown_pseudo = sym (or-false old.unknown_pseudo);
      pseudo_twice = simp (and-false, and-true, or-false) (ap (λ (b : Bool). old.pseudo_twice || b)
          was);
      method = kept ∙ ap (λ (c : Method). option_or old.method (Some c)) says;
      scheme = sym (or-false old.scheme);
      path = sym (or-nothing old.path);
      authority = sym (or-false old.authority);
      status = refl;
    }

-- A `:path` was added.
pub path-added : (fields : List Field) (name value : List ℕ) (sensitive : Bool) (old : Scan)
    (some : Bool) (class : Path) (first : Option Path) → bytes_eq name (codes ":path") ≡ true
    → is_colon_first name ≡ true → some ≡ is_some old.path → class ≡ path_class value
    → first ≡ option_or old.path (Some class) → HasSeenPseudo Request fields old
    → HasSeenPseudo Request (with_field fields name value sensitive) (record old {
      pseudo_twice = old.pseudo_twice || some;
      path = first;
    })
unfolding is_pseudo is_named
path-added fields name value sensitive old some class first is colon was says kept seen =
    let field : Field = record { name = name; value = value; sensitive = sensitive } in
    let new : Scan = record old { pseudo_twice = old.pseudo_twice || some; path = first } in
    request-with fields field old new true false false true false seen colon
    (other-name name (codes ":path") (codes ":method") is refl)
    (other-name name (codes ":path") (codes ":scheme") is refl) is
    (other-name name (codes ":path") (codes ":authority") is refl) record {
      unknown_pseudo = sym (or-false old.unknown_pseudo);
      pseudo_twice = simp (and-false, and-true, or-false) (ap (λ (b : Bool). old.pseudo_twice || b)
          was);
      method = sym (or-nothing old.method);
      scheme = sym (or-false old.scheme);
      path = kept ∙ ap (λ (c : Path). option_or old.path (Some c)) says;
      authority = sym (or-false old.authority);
      status = refl;
    }

-- A `:scheme` was added.
pub scheme-added : (fields : List Field) (name value : List ℕ) (sensitive : Bool) (old : Scan)
    → bytes_eq name (codes ":scheme") ≡ true → is_colon_first name ≡ true
    → HasSeenPseudo Request fields old
    → HasSeenPseudo Request (with_field fields name value sensitive) (record old {
      pseudo_twice = old.pseudo_twice || old.scheme;
      scheme = true;
    })
unfolding is_pseudo is_named
scheme-added fields name value sensitive old is colon seen =
    let field : Field = record { name = name; value = value; sensitive = sensitive } in
    let new : Scan = record old { pseudo_twice = old.pseudo_twice || old.scheme; scheme = true } in
    request-with fields field old new true false true false false seen colon
    (other-name name (codes ":scheme") (codes ":method") is refl) is
    (other-name name (codes ":scheme") (codes ":path") is refl)
    (other-name name (codes ":scheme") (codes ":authority") is refl) record {
      unknown_pseudo = sym (or-false old.unknown_pseudo);
      pseudo_twice = simp (and-false, and-true, or-false);
      method = sym (or-nothing old.method);
      scheme = sym (or-true old.scheme);
      path = sym (or-nothing old.path);
      authority = sym (or-false old.authority);
      status = refl;
    }

-- An `:authority` was added.
pub authority-added : (fields : List Field) (name value : List ℕ) (sensitive : Bool) (old : Scan)
    → bytes_eq name (codes ":authority") ≡ true → is_colon_first name ≡ true
    → HasSeenPseudo Request fields old
    → HasSeenPseudo Request (with_field fields name value sensitive) (record old {
      pseudo_twice = old.pseudo_twice || old.authority;
      authority = true;
    })
unfolding is_pseudo is_named
authority-added fields name value sensitive old is colon seen =
    let field : Field = record { name = name; value = value; sensitive = sensitive } in
    let new : Scan = record old {
      pseudo_twice = old.pseudo_twice || old.authority;
      authority = true;
    } in
    request-with fields field old new true false false false true seen colon
    (other-name name (codes ":authority") (codes ":method") is refl)
    (other-name name (codes ":authority") (codes ":scheme") is refl)
    (other-name name (codes ":authority") (codes ":path") is refl) is record {
      unknown_pseudo = sym (or-false old.unknown_pseudo);
      pseudo_twice = simp (and-false, and-true, or-false);
      method = sym (or-nothing old.method);
      scheme = sym (or-false old.scheme);
      path = sym (or-nothing old.path);
      authority = sym (or-true old.authority);
      status = refl;
    }

-- A pseudo-field was added that no request has.
pub unknown-added : (fields : List Field) (name value : List ℕ) (sensitive : Bool) (old : Scan)
    → bytes_eq name (codes ":method") ≡ false → bytes_eq name (codes ":scheme") ≡ false
    → bytes_eq name (codes ":path") ≡ false → bytes_eq name (codes ":authority") ≡ false
    → is_colon_first name ≡ true → HasSeenPseudo Request fields old
    → HasSeenPseudo Request (with_field fields name value sensitive) (record old {
      unknown_pseudo = true;
    })
unfolding is_pseudo is_named
unknown-added fields name value sensitive old m s p a colon seen =
    let field : Field = record { name = name; value = value; sensitive = sensitive } in
    let new : Scan = record old { unknown_pseudo = true } in
    request-with fields field old new true false false false false seen colon m s p a record {
      unknown_pseudo = sym (or-true old.unknown_pseudo);
      pseudo_twice = simp (and-false, or-false);
      method = sym (or-nothing old.method);
      scheme = sym (or-false old.scheme);
      path = sym (or-nothing old.path);
      authority = sym (or-false old.authority);
      status = refl;
    }

-- A regular field changes nothing of them.
pub request-regular : (fields : List Field) (name value : List ℕ) (sensitive : Bool) (scan : Scan)
    → is_colon_first name ≡ false → HasSeenPseudo Request fields scan
    → HasSeenPseudo Request (with_field fields name value sensitive) scan
unfolding is_pseudo is_named
request-regular fields name value sensitive scan colon seen =
    let field : Field = record { name = name; value = value; sensitive = sensitive } in
    request-with fields field scan scan false false false false false seen colon
    (no-colon name _ colon) (no-colon name _ colon) (no-colon name _ colon) (no-colon name _ colon)
    record {
      unknown_pseudo = sym (or-false scan.unknown_pseudo);
      pseudo_twice = simp (and-false, or-false);
      method = sym (or-nothing scan.method);
      scheme = sym (or-false scan.scheme);
      path = sym (or-nothing scan.path);
      authority = sym (or-false scan.authority);
      status = refl;
    }
