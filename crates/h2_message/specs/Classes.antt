-- What the values of `:method`, `:path` and `:status` say, each in one of a few cases.
use Rattle.std.specs.Prelude.{ℕ, ◌||◌, if◌then◌else◌, List, codes}
use Rattle.std.specs.Str.{bytes_eq}
use Rattle.h2_message.specs.declared.classes.Method.{Method}
use Rattle.h2_message.specs.declared.classes.Method.TheVariants as methods
use Rattle.h2_message.specs.declared.classes.Path.{Path}
use Rattle.h2_message.specs.declared.classes.Path.TheVariants as paths
use Rattle.h2_message.specs.declared.classes.Status.{Status}
use Rattle.h2_message.specs.declared.classes.Status.TheVariants as statuses
use Rattle.h2_message.specs.Octets.{is_bad_method, begins_with_slash, is_bad_status}
use Rattle.h2_message.specs.Octets.{is_interim_status}

unfoldable pub method_class : List ℕ → Method
method_class value =
    if is_bad_method value then methods.Bad
    else if bytes_eq value (codes "HEAD") then methods.Head
    else if bytes_eq value (codes "OPTIONS") then methods.Options
    else methods.Other

unfoldable pub path_class : List ℕ → Path
path_class value =
    if begins_with_slash value then paths.Slash
    else if bytes_eq value (codes "*") then paths.Asterisk
    else paths.Bad

unfoldable pub status_class : List ℕ → Status
status_class value =
    if is_bad_status value then statuses.Bad
    else if is_interim_status value then statuses.Interim
    else if bytes_eq value (codes "204") || bytes_eq value (codes "304") then statuses.NoContent
    else statuses.Final
