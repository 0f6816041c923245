-- What the calls of a link over a stream make of the stream, and of the octets that are held.
use Rattle.std.specs.Prelude.{◌≡◌, ◌⊎◌, ◌≤◌, ◌<◌, ◌-◌, ℕ, List, [], ◌++◌, length, take, drop}
use Rattle.std.specs.Prelude.{Option, Result, Ok, Err}
use Rattle.std.specs.Io.KnownBytes.{Appends, Consumes, IsAtEnd, append_known}
use Rattle.h2_link.specs.declared.link.LinkFault.{LinkFault}
use Rattle.h2_net.specs.declared.stream_link.StreamLink.{StreamLink}

-- the octets that a link has taken: what its stream holds, where that is known, and what is held
-- rule: engines (own) A link over TCP holds 65,536 octets at most, then sends them
abbrev pub octets_passed : {S : Type 0} → (S → Option (List ℕ)) → StreamLink S → Option (List ℕ)
octets_passed contents link = append_known (contents link.stream) link.held.items

-- Some first octets of those held were sent, or none or all, and the others are held.
-- rule: engines (own) A link over TCP sends octets in order and once
pub record SendsFirst (before after : Option (List ℕ)) (held held_now : List ℕ) : Type 0 where
  pub count : ℕ
  pub within : count ≤ length held
  pub sent : Appends before after (take count held)
  pub unsent : held_now ≡ drop count held

-- All octets held were sent; or sending has failed, and some octets are still held.
-- rule: engines (own) A link over TCP holds 65,536 octets at most, then sends them
-- rule: engines (own) A link over TCP sends octets in order and once
abbrev pub SendsThrough : (before after : Option (List ℕ)) → Result (Unit {0}) LinkFault
    → (held held_now : List ℕ) → Type 0
SendsThrough before after (Ok done) held held_now = Appends before after held × (held_now ≡ [])
SendsThrough before after (Err fault) held held_now =
    SendsFirst before after held held_now × (0 < length held_now)

-- All octets held were sent, and the next ones of the stream were then read to the front of the
-- buffer: none only at its end, or where there was no room.
-- rule: engines (own) A link over TCP holds 65,536 octets at most, then sends them
pub record ReadsNext {S : Type 0} (contents remaining : S → Option (List ℕ)) (before after : S)
    (held : List ℕ) (count : ℕ) (buffer : List ℕ) : Type 0 where
  pub between : S
  pub sent : Appends (contents before) (contents between) held
  pub next : Consumes (remaining between) (remaining after) (take count buffer)
  pub end : count ≡ 0 → 0 < length buffer → IsAtEnd (remaining after)

-- A read sent all octets held before it; one that failed sent some first ones, or none or all.
-- rule: engines (own) A link over TCP holds 65,536 octets at most, then sends them
abbrev pub ReadsThrough : {S : Type 0} → (contents remaining : S → Option (List ℕ))
    → (before after : S)
    → Result ℕ LinkFault → (held held_now buffer : List ℕ) → Type 0
ReadsThrough contents remaining before after (Ok count) held held_now buffer =
    ReadsNext contents remaining before after held count buffer × (held_now ≡ [])
ReadsThrough {S = S} contents remaining before after (Err fault) held held_now buffer =
    (between : S) × SendsFirst (contents before) (contents between) held held_now

-- Of the first octets that are kept, with those of a piece: as many as are missing to 24; or none,
-- where memory for them was refused.
abbrev pub KeepsFirst : (kept piece kept_now : List ℕ) → Type 0
KeepsFirst kept piece kept_now =
    (kept_now ≡ kept ++ take (24 - length kept) piece) ⊎ (kept_now ≡ kept)

-- The first octets that are kept after a read: with those that it gave.
abbrev pub KeepsRead : (kept : List ℕ) → Result ℕ LinkFault → (buffer kept_now : List ℕ) → Type 0
KeepsRead kept (Ok count) buffer kept_now = KeepsFirst kept (take count buffer) kept_now
KeepsRead kept (Err fault) buffer kept_now = kept_now ≡ kept
