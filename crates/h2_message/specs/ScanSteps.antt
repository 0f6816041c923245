-- What one more field changes of a scan.
use Rattle.std.specs.Prelude.{◌≡◌, ℕ, Bool, false, List, [], ◌∷◌, ◌++◌}
use Rattle.hpack.specs.declared.types.field.Field.{Field}
use Rattle.h2_message.specs.declared.kind.Kind.{Kind}
use Rattle.h2_message.specs.declared.scan.Scan.{Scan}
use Rattle.h2_message.specs.Fields.{has_unknown_pseudo, has_pseudo_twice, has_connection_field}
use Rattle.h2_message.specs.Fields.{has_bad_length, declared_length}
use Rattle.h2_message.specs.Scans.{HasPseudo}

-- the fields and one more
abbrev pub with_field : List Field → (name value : List ℕ) → (sensitive : Bool) → List Field
with_field fields name value sensitive = fields ++ record {
  name = name;
  value = value;
  sensitive = sensitive;
} ∷ []

-- what a scan has seen of the pseudo-fields of a list
pub record HasSeenPseudo (kind : Kind) (fields : List Field) (scan : Scan) : Type 0 where
  pub unknown_pseudo : scan.unknown_pseudo ≡ has_unknown_pseudo kind fields
  pub pseudo_twice : scan.pseudo_twice ≡ has_pseudo_twice kind fields
  pub has_pseudo : HasPseudo kind fields scan

-- what it has seen of the lengths
pub record HasSeenLength (fields : List Field) (scan : Scan) : Type 0 where
  pub bad_length : scan.bad_length ≡ has_bad_length fields
  pub length : has_bad_length fields ≡ false → scan.length ≡ declared_length fields

-- what it has seen of the regular fields
pub record HasSeenRegular (fields : List Field) (scan : Scan) : Type 0 where
  pub connection_field : scan.connection_field ≡ has_connection_field fields
  pub has_length : HasSeenLength fields scan

-- What two scans say of every field is the same.
pub record IsSameOfAll (old new : Scan) : Type 0 where
  pub bad_name : new.bad_name ≡ old.bad_name
  pub bad_value : new.bad_value ≡ old.bad_value
  pub regular : new.regular ≡ old.regular
  pub pseudo : new.pseudo ≡ old.pseudo
  pub late_pseudo : new.late_pseudo ≡ old.late_pseudo

-- What they say of pseudo-fields is the same.
pub record IsSameOfPseudo (old new : Scan) : Type 0 where
  pub unknown_pseudo : new.unknown_pseudo ≡ old.unknown_pseudo
  pub pseudo_twice : new.pseudo_twice ≡ old.pseudo_twice
  pub method : new.method ≡ old.method
  pub scheme : new.scheme ≡ old.scheme
  pub path : new.path ≡ old.path
  pub authority : new.authority ≡ old.authority
  pub status : new.status ≡ old.status

-- What they say of regular fields is the same.
pub record IsSameOfRegular (old new : Scan) : Type 0 where
  pub connection_field : new.connection_field ≡ old.connection_field
  pub bad_length : new.bad_length ≡ old.bad_length
  pub length : new.length ≡ old.length
