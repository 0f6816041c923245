-- What one more field changes of the pseudo-fields of a response.
use Rattle.h2_message.specs.declared.classes.Status.{Status}
use Rattle.h2_message.proofs.Names
use Names.{◌≡◌, ℕ, not, ◌||◌, ◌&&◌, cond, Bool, true, false, List, [], ◌∷◌, ◌++◌, codes, Option}
use Names.{Some, None, refl, sym, ap, ap₂, ◌∙◌, option_or, is_some, bytes_eq, or-false}
use Names.{or-true, and-false, and-true, Field, Response, Scan, status_class, is_pseudo, is_named}
use Names.{is_unknown_pseudo, pseudo_names, is_colon_first}
use Names.{HasPseudo, with_field, HasSeenPseudo, IsSameOfPseudo}
use Rattle.h2_message.proofs.ScanPseudo.{same-pseudo, unknown-push, two-push, kept-any}
use Rattle.h2_message.proofs.ScanPseudo.{kept-push, or-nothing, no-colon}

-- the pseudo-fields of a response after one more field
abbrev pub after_response : Scan → List ℕ → (pseudo status : Bool) → Scan
after_response old value pseudo status = record old {
  unknown_pseudo = old.unknown_pseudo || (pseudo && not (status || false));
  pseudo_twice = old.pseudo_twice || ((is_some old.status && status) || false);
  status = option_or old.status (cond status (Some (status_class value)) None);
}

pub response-push : (fields : List Field) (field : Field) (old : Scan)
    → HasSeenPseudo Response fields old
    → HasSeenPseudo Response (fields ++ field ∷ []) (after_response old field.value
    (is_pseudo field) (is_named (codes ":status") field))
unfolding HasPseudo is_unknown_pseudo pseudo_names
response-push fields field old seen =
    let status = kept-any status_class (codes ":status") fields old.status seen.has_pseudo.status in
    record {
      unknown_pseudo = ap (λ (b : Bool). b || is_unknown_pseudo Response field) seen.unknown_pseudo
          ∙ sym (unknown-push Response fields field);
      pseudo_twice = ap₂ (λ (twice some : Bool). twice
          || ((some && is_named (codes ":status") field) || false)) seen.pseudo_twice status
          ∙ sym (two-push Response fields field);
      has_pseudo = record {
        status = kept-push status_class (codes ":status") fields field old.status
            seen.has_pseudo.status;
      };
    }

-- The pseudo-fields of a response after a field, by the name that it has.
response-with : (fields : List Field) (field : Field) (old new : Scan) (pseudo status : Bool)
    → HasSeenPseudo Response fields old
    → is_pseudo field ≡ pseudo → is_named (codes ":status") field ≡ status
    → IsSameOfPseudo (after_response old field.value pseudo status) new
    → HasSeenPseudo Response (fields ++ field ∷ []) new
response-with fields field old new pseudo status seen colon s same =
    same-pseudo Response (fields ++ field ∷ []) (after_response old field.value pseudo status)
    new same (rw (← colon, ← s) (response-push fields field old seen))

-- A `:status` was added.
pub status-added : (fields : List Field) (name value : List ℕ) (sensitive : Bool) (old : Scan)
    (some : Bool) (class : Status) (first : Option Status) → bytes_eq name (codes ":status") ≡ true
    → is_colon_first name ≡ true → some ≡ is_some old.status → class ≡ status_class value
    → first ≡ option_or old.status (Some class) → HasSeenPseudo Response fields old
    → HasSeenPseudo Response (with_field fields name value sensitive) (record old {
      pseudo_twice = old.pseudo_twice || some;
      status = first;
    })
unfolding is_pseudo is_named
status-added fields name value sensitive old some class first is colon was says kept seen =
    let field : Field = record { name = name; value = value; sensitive = sensitive } in
    let new : Scan = record old { pseudo_twice = old.pseudo_twice || some; status = first } in
    response-with fields field old new true true seen colon is record {
      unknown_pseudo = sym (or-false old.unknown_pseudo);
      pseudo_twice = simp (and-true, or-false) (ap (λ (b : Bool). old.pseudo_twice || b) was);
      method = refl;
      scheme = refl;
      path = refl;
      authority = refl;
      status = kept ∙ ap (λ (c : Status). option_or old.status (Some c)) says;
    }

-- A pseudo-field was added that no response has.
pub unknown-added : (fields : List Field) (name value : List ℕ) (sensitive : Bool) (old : Scan)
    → bytes_eq name (codes ":status") ≡ false → is_colon_first name ≡ true
    → HasSeenPseudo Response fields old
    → HasSeenPseudo Response (with_field fields name value sensitive) (record old {
      unknown_pseudo = true;
    })
unfolding is_pseudo is_named
unknown-added fields name value sensitive old s colon seen =
    let field : Field = record { name = name; value = value; sensitive = sensitive } in
    let new : Scan = record old { unknown_pseudo = true } in
    response-with fields field old new true false seen colon s record {
      unknown_pseudo = sym (or-true old.unknown_pseudo);
      pseudo_twice = simp (and-false, or-false);
      method = refl;
      scheme = refl;
      path = refl;
      authority = refl;
      status = sym (or-nothing old.status);
    }

-- A regular field changes nothing of them.
pub response-regular : (fields : List Field) (name value : List ℕ) (sensitive : Bool) (scan : Scan)
    → is_colon_first name ≡ false → HasSeenPseudo Response fields scan
    → HasSeenPseudo Response (with_field fields name value sensitive) scan
unfolding is_pseudo is_named
response-regular fields name value sensitive scan colon seen =
    let field : Field = record { name = name; value = value; sensitive = sensitive } in
    response-with fields field scan scan false false seen colon (no-colon name _ colon) record {
      unknown_pseudo = sym (or-false scan.unknown_pseudo);
      pseudo_twice = simp (and-false, or-false);
      method = refl;
      scheme = refl;
      path = refl;
      authority = refl;
      status = sym (or-nothing scan.status);
    }
