-- An entry of a table: a name and a value (RFC 7541, section 1.3).
use Rattle.std.specs.Prelude.{ℕ, List}

pub record Entry : Type 0 where
  pub name : List ℕ
  pub value : List ℕ
