-- What is kept of exchanges, and what a handler may do.
use Rattle.std.specs.Prelude.{◌≡◌, ◌≢◌, ℕ, Bool, false, List, Option, Some, None}
use Rattle.std.specs.Prelude.{option_map}
use Rattle.h2_numbers.specs.Entries.{value_at}
use Rattle.h2_server.specs.declared.exchange.Exchange.{Exchange}
use Rattle.h2_server.specs.declared.exchange.Stage.{Stage}
use Rattle.h2_server.specs.declared.exchanges.Exchanges.{Exchanges}
use Rattle.h2_server.specs.declared.handler.Handler.{Ghosts}
use Rattle.h2_server.specs.Stages.{is_part_due, stage_awake}

-- what a handler may do: the relations that it declares of itself
abbrev pub Relations : (H W : Type 0) → Type 1
Relations H W = Ghosts H W

-- what is kept of an exchange, without what is counted of it: what its handler keeps; whether its
-- request is whole, has the method HEAD, and was refused, so that its rest is not wanted; how far
-- its answer is; and since when that has been deferred
pub record Kept (W : Type 0) : Type 0 where
  pub work : Option W
  pub whole : Bool
  pub to_head : Bool
  pub refused : Bool
  pub stage : Stage
  pub since : Option ℕ

abbrev pub exchange_kept : {W : Type 0} → Exchange W → Kept W
exchange_kept exchange = record {
  work = exchange.work;
  whole = exchange.whole;
  to_head = exchange.to_head;
  refused = exchange.refused;
  stage = exchange.stage;
  since = exchange.since;
}

-- what is kept of one whose handler may be asked again
abbrev pub awake : {W : Type 0} → Kept W → Kept W
awake kept = record kept { stage = stage_awake kept.stage }

-- what is kept of the exchange on a stream
abbrev pub exchange_at : {W : Type 0} → ℕ → List (ℕ × Exchange W) → Option (Kept W)
exchange_at id entries = option_map exchange_kept (value_at id entries)

-- Whether a part of the answer on a stream is due.
abbrev pub is_part_due_at : {W : Type 0} → Option (Kept W) → Bool
is_part_due_at (Some kept) = is_part_due kept.stage
is_part_due_at None = false

-- Of one stream this is kept now, or nothing; of each other what was kept before.
pub record SetsKept {W : Type 0} (id : ℕ) (kept : Option (Kept W)) (old new : List (ℕ × Exchange W))
    : Type 0 where
  pub at : exchange_at id new ≡ kept
  pub others : (i : ℕ) → i ≢ id → exchange_at i new ≡ exchange_at i old

-- Of each stream the same is kept.
abbrev pub SameKept : {W : Type 0} → (old new : List (ℕ × Exchange W)) → Type 0
SameKept old new = (i : ℕ) → exchange_at i new ≡ exchange_at i old

-- what is kept of the exchanges of a connection, with its handler
pub record Handling (H W : Type 0) : Type 0 where
  pub handler : H
  pub entries : List (ℕ × Exchange W)

abbrev pub handling_of : {H W : Type 0} → Exchanges H W → Handling H W
handling_of exchanges =
    record { handler = exchanges.handler; entries = exchanges.kept.entries }

-- Nothing was told to the handler, and the same is kept.
pub record IsSameHandling {H W : Type 0} (old new : Handling H W) : Type 0 where
  pub handler : new.handler ≡ old.handler
  pub kept : SameKept old.entries new.entries

-- No exchange is kept.
abbrev pub IsEmptied : {H W : Type 0} → Handling H W → Type 0
IsEmptied handling = (i : ℕ) → exchange_at i handling.entries ≡ None
