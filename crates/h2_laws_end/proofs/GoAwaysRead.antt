-- The last stream of a GOAWAY that is read has 31 bits, and the least so far is the one reported.
use Rattle.h2_laws_end.proofs.Names.{◌≡◌, ℕ, ◌≤◌, List, ◌∷◌, arith, GoAway, Item, alone, block, Log}
use Rattle.h2_laws_end.proofs.Names.{log_view, IsFitItem, greatest_number}
use Rattle.h2_spec_log.specs.Log.{least_goaway}
use Rattle.h2_spec_log.specs.ItemEffects.{least_last}
use Rattle.h2_laws_log.proofs.StreamNumbers.{last_none}
use Rattle.h2_laws_log.proofs.LogViewLemmas.{least_by}

-- A GOAWAY's last stream is no greater than the greatest number.
abbrev pub IsTypedGoAway : Item → Type 0
IsTypedGoAway (alone (GoAway last code debug)) = last ≤ greatest_number
IsTypedGoAway item = Unit {0}

-- That of a fit item is.
pub item_typed : (item : Item) → IsFitItem item → IsTypedGoAway item
item_typed (block stream end octets) fit = tt
item_typed (alone (GoAway last code debug)) fit = omega (arith, fit)
item_typed (alone frame) fit = tt

pub least_reported : (log : Log) (last code : ℕ) (debug : List ℕ) → last ≤ greatest_number
    → least_last last (log_view log).goaway_received
    ≡ least_goaway (alone (GoAway last code debug) ∷ log.received)
unfolding least_goaway
least_reported log last code debug low = least_by _ _ _ low (last_none log.received)
