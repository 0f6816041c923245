-- What has gone over a link since a connection began.
use Rattle.std.specs.Prelude.{◌≡◌, ◌≤◌, ◌-◌, ◌^◌, ◌⊎◌, ℕ, Bool, true, List, ◌++◌, length}
use Rattle.std.specs.Prelude.{Option, Result, Err}
use Rattle.std.specs.Io.KnownBytes.{Appends}
use Rattle.h2_spec_log.specs.Log.{Log}
use Rattle.h2_ends.specs.Ends.{EndLog}
use Rattle.h2_link.specs.declared.error.LinkError.{LinkError}
use Rattle.h2_link.specs.declared.error.LinkError.TheVariants as errors
use Rattle.h2_laws_pair.specs.Pairs.{given_out}
use Rattle.h2_engines.specs.Failures.{CannotPutOut}

-- the octets that a link has given and taken so far, where it says so; and whether a write of
-- octets has taken none
pub record Traffic : Type 0 where
  pub given : Option (List ℕ)
  pub taken : Option (List ℕ)
  pub stalled : Bool

abbrev pub traffic : (given taken : Option (List ℕ)) → (stalled : Bool) → Traffic
traffic given taken stalled = record { given = given; taken = taken; stalled = stalled }

-- All octets that the link gave were used, but these.
-- rule: engines (own) Over a link input is used in order and all output is written
abbrev pub HasGiven : (start now : Traffic) → Log → (unused : List ℕ) → Type 0
HasGiven start now log unused = Appends start.given now.given (log.input ++ unused)

-- The end has used the octets that the link gave, but these; and the link has taken all that the
-- end has given out.
pub record IsLinked (start now : Traffic) (log : Log) (unused : List ℕ) : Type 0 where
  pub given : HasGiven start now log unused
  pub taken : Appends start.taken now.taken (given_out log)

-- The link has taken the first octets of the end's output.
-- rule: engines (own) Over a link input is used in order and all output is written
pub record HasTakenFirst (start now : Traffic) (log : Log) : Type 0 where
  pub first : List ℕ
  pub rest : List ℕ
  pub output : log.written ≡ first ++ rest
  pub taken : Appends start.taken now.taken first

-- The end has used the first of the octets that the link gave, and the link has taken the first of
-- those of its output.
-- rule: engines (own) Over a link input is used in order and all output is written
pub record IsLinkedInPart (start now : Traffic) (log : Log) : Type 0 where
  pub unused : List ℕ
  pub given : HasGiven start now log unused
  pub taken : HasTakenFirst start now log

-- The link has taken all of the end's output.
-- rule: engines (own) Over a link input is used in order and all output is written
abbrev pub HasTakenAll : (start now : Traffic) → Log → Type 0
HasTakenAll start now log = Appends start.taken now.taken log.written

-- 2^64 - 1 turns have passed at the end: each round of a loop is one at least.
-- rule: engines (own) N5 comes only where a write has taken nothing
abbrev pub IsOutOfRounds : EndLog → Type 0
IsOutOfRounds end = 2 ^ 64 - 1 ≤ length end.log.turns

-- A write of octets has taken none, or the end is out of rounds.
-- rule: engines (own) N5 comes only where a write has taken nothing
abbrev pub HasStalled : (now : Traffic) → EndLog → Type 0
HasStalled now end = (now.stalled ≡ true) ⊎ IsOutOfRounds end

-- Where what waits is written, N3 and N5 are answered only so.
abbrev pub StallsWriting : {A : Type 0} → (now : Traffic) → EndLog → Result A LinkError → Type 0
StallsWriting now end (Err errors.Memory) = CannotPutOut end.log
StallsWriting now end (Err errors.NoProgress) = HasStalled now end
StallsWriting now end result = Unit {0}
