-- Whose turn it is: the order in which passes give streams their shares (RFC 9113, section 5.2.1).
use Rattle.std.specs.Prelude.{◌≡◌, ◌≢◌, ◌⊎◌, ◌≤◌, ◌<◌, ℕ, pos, int_lt, true, Option, Some, None}
use Rattle.h2_spec_log.specs.declared.refusal.Refusal.{Refusal}
use Rattle.h2_spec_log.specs.declared.role.Role.{Role}
use Rattle.h2_spec_log.specs.Acts.{Values}
use Rattle.h2_spec_log.specs.Histories.{IsLog}
use Rattle.h2_spec_log.specs.Log.{send_window}
use Rattle.h2_spec_log.specs.Windows.{connection_send_window}
use Rattle.h2_ends.specs.Ends.{EndLog}
use Rattle.h2_ends.specs.Passes.{Waits, Halt, PassesOver, Passes, passes_no_more, passes_on}
use Rattle.h2_ends.specs.Passes.{Stopped, passes_halt, passes_part, passes_round, next_turn}
use Rattle.h2_ends.specs.Passes.{share_size}
use Rattle.h2_ends.specs.declared.span.Turn.{Turn}

-- In a pass from a turn one stream comes before another: both are from the turn up, or both below
-- it, in rising order; or the first one is from the turn up, and the other below it.
-- rule (law): 8.1 (own) Between two shares of a stream each other that waits gets one
abbrev pub ComesBefore : (turn i j : ℕ) → Type 0
ComesBefore turn i j =
    ((turn ≤ i) × (i < j)) ⊎ (((turn ≤ i) × (j < turn)) ⊎ ((i < j) × (j < turn)))

module _ (sizes : ℕ → ℕ) where
  -- The stream got its share, and the pass went on after it.
  unfoldable pub GotShareOver : {end after : EndLog} → {low high count : ℕ}
      → {halt : Option (ℕ × Halt)} → PassesOver sizes end low high count halt after → ℕ → Type 0
  GotShareOver (passes_no_more end low high none) i = ⊥
  GotShareOver (passes_on end between low high id sent more halt after first share rest) i =
      (i ≡ id) ⊎ GotShareOver rest i
  GotShareOver (passes_halt end low high id sent halt after first share) i = ⊥

  -- rule (law): 8.1 (own) Between two shares of a stream each other that waits gets one
  unfoldable pub GotShare : {end after : EndLog} → {count : ℕ} → {halt : Option (ℕ × Halt)}
      → Passes sizes end count halt after → ℕ → Type 0
  GotShare (passes_part count id halt after part) i = GotShareOver part i
  GotShare (passes_round above below between halt after one two) i =
      GotShareOver one i ⊎ GotShareOver two i

-- A pass of shares of this size, at an end whose connection's log comes about.
pub record Pass : Type 0 where
  pub most : ℕ
  pub end : EndLog
  pub count : ℕ
  pub halt : Option (ℕ × Halt)
  pub after : EndLog
  pub passes : Passes (share_size end.turn most) end count halt after
  pub role : Role
  pub values : Values
  pub came : IsLog role values end.log

-- with which stream the pass after it begins, and how many octets of its share that has left
abbrev pub turn_after : Pass → Turn
turn_after pass = next_turn pass.end.turn pass.halt

-- at which stream it ended, if not after all
abbrev pub halt_stream : Option (ℕ × Halt) → Option ℕ
halt_stream None = None
halt_stream (Some (id, halt)) = Some id

-- The stream got its share in the pass, which went on after it.
abbrev pub GetsShare : Pass → ℕ → Type 0
GetsShare pass i = GotShare (share_size pass.end.turn pass.most) pass.passes i

-- The pass ended at the stream, with a part of its share or none of it.
abbrev pub EndsAt : Pass → ℕ → Type 0
EndsAt pass i = halt_stream pass.halt ≡ Some i

-- Passes one after another from a turn to another one, whatever happens between them. In none of
-- them the one stream got a share, nor the other, on which something waited as each of them began.
-- rule (law): 8.1 (own) Between two shares of a stream each other that waits gets one
pub data Meanwhile (i j : ℕ) : (turn last : Turn) → Type 0 where
  no_pass : (turn : Turn) → Meanwhile i j turn turn
  one_pass : (pass : Pass) (last : Turn) → Waits pass.end j → (GetsShare pass i → ⊥)
      → (GetsShare pass j → ⊥) → Meanwhile i j (turn_after pass) last
      → Meanwhile i j pass.end.turn last

-- The share was not refused.
abbrev pub IsNotStopped : Option Halt → Type 0
IsNotStopped halt = (refusal : Refusal) (rest : ℕ) → halt ≢ Some (Stopped refusal rest)

-- An octet could go on the stream: both windows let it.
abbrev pub HasRoomFor : EndLog → ℕ → Type 0
HasRoomFor end id =
    (int_lt (pos 0) (send_window end.log id) ≡ true)
    × (int_lt (pos 0) (connection_send_window end.log.received end.log.sent) ≡ true)
