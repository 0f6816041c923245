-- What a scan has seen of a list of fields.
use Rattle.std.specs.Prelude.{◌≡◌, false, List, codes, option_map}
use Rattle.std.specs.List.{list_any}
use Rattle.hpack.specs.declared.types.field.Field.{Field}
use Rattle.h2_message.specs.declared.kind.Kind.{Kind}
use Rattle.h2_message.specs.declared.kind.Kind.TheVariants.{Request, Response}
use Rattle.h2_message.specs.declared.scan.Scan.{Scan}
use Rattle.h2_message.specs.Classes.{method_class, path_class, status_class}
use Rattle.h2_message.specs.Fields.{has_bad_name, has_bad_value, is_regular, has_pseudo, is_named}
use Rattle.h2_message.specs.Fields.{has_late_pseudo, has_unknown_pseudo, has_pseudo_twice, value_of}
use Rattle.h2_message.specs.Fields.{has_connection_field, has_bad_length, declared_length}

-- what a request's pseudo-fields are
pub record HasRequest (fields : List Field) (scan : Scan) : Type 0 where
  pub method : scan.method ≡ option_map method_class (value_of (codes ":method") fields)
  pub scheme : scan.scheme ≡ list_any (is_named (codes ":scheme")) fields
  pub path : scan.path ≡ option_map path_class (value_of (codes ":path") fields)
  pub authority : scan.authority ≡ list_any (is_named (codes ":authority")) fields

-- what a response's are
pub record HasResponse (fields : List Field) (scan : Scan) : Type 0 where
  pub status : scan.status ≡ option_map status_class (value_of (codes ":status") fields)

unfoldable pub HasPseudo : Kind → List Field → Scan → Type 0
HasPseudo Request fields scan = HasRequest fields scan
HasPseudo Response fields scan = HasResponse fields scan

pub record IsScan (kind : Kind) (fields : List Field) (scan : Scan) : Type 0 where
  pub bad_name : scan.bad_name ≡ has_bad_name fields
  pub bad_value : scan.bad_value ≡ has_bad_value fields
  pub regular : scan.regular ≡ list_any is_regular fields
  pub pseudo : scan.pseudo ≡ has_pseudo fields
  pub late_pseudo : scan.late_pseudo ≡ has_late_pseudo fields
  pub unknown_pseudo : scan.unknown_pseudo ≡ has_unknown_pseudo kind fields
  pub pseudo_twice : scan.pseudo_twice ≡ has_pseudo_twice kind fields
  pub has_pseudo : HasPseudo kind fields scan
  pub connection_field : scan.connection_field ≡ has_connection_field fields
  pub bad_length : scan.bad_length ≡ has_bad_length fields
  pub length : has_bad_length fields ≡ false → scan.length ≡ declared_length fields
