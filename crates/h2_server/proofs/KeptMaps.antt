-- What is kept of exchanges after one of the entries was changed.
use Rattle.std.proofs.Common.{◌≡◌, ◌≢◌, ℕ, Bool, Option, Some, None, List, refl, sym, ap, ◌∙◌, cond}
use Rattle.std.proofs.lemmas.Bool.{eq-eqb, ne_eqb}
use Rattle.std.specs.Option.{is_some}
use Rattle.std.specs.Prelude.{option_map}
use Rattle.h2_numbers.specs.Entries.{NumberEntries, SetsValue, value_at}
use Rattle.h2_numbers.specs.Lends.{WritesThrough}
use Rattle.h2_server.specs.declared.exchange.Exchange.{Exchange}
use Rattle.h2_server.specs.Exchanges.{Kept, exchange_kept, exchange_at, SetsKept, SameKept, awake}

module _ {W : Type 0} where
  -- The number has this value, and each other one what it had.
  pub sets_at : (id : ℕ) (value : Option (Exchange W)) (old new : List (ℕ × Exchange W))
      → SetsValue id value old new → value_at id new ≡ value
  sets_at id value old new changes =
      changes id ∙ ap (λ (b : Bool). cond b value (value_at id old)) (eq-eqb id id refl)

  pub sets_other : (id : ℕ) (value : Option (Exchange W)) (old new : List (ℕ × Exchange W))
      → SetsValue id value old new → (i : ℕ) → i ≢ id → value_at i new ≡ value_at i old
  sets_other id value old new changes i other =
      changes i
      ∙ ap (λ (b : Bool). cond b value (value_at i old)) (ne_eqb id i (λ same. other (sym same)))

  -- So what is kept is set there.
  pub sets_kept : (id : ℕ) (value : Option (Exchange W)) (old new : List (ℕ × Exchange W))
      → SetsValue id value old new → SetsKept id (option_map exchange_kept value) old new
  sets_kept id value old new changes =
      record {
        at = ap (λ (v : Option (Exchange W)). option_map exchange_kept v)
            (sets_at id value old new changes);
        others = λ i other. ap (λ (v : Option (Exchange W)). option_map exchange_kept v)
            (sets_other id value old new changes i other);
      }

  -- What was lent is kept.
  pub found_kept : (id : ℕ) (old : List (ℕ × Exchange W)) (one : Exchange W)
      → Some one ≡ value_at id old → exchange_at id old ≡ Some (exchange_kept one)
  found_kept id old one found =
      ap (λ (v : Option (Exchange W)). option_map exchange_kept v) (sym found)

  pub none_kept : (id : ℕ) (old : List (ℕ × Exchange W)) → None ≡ value_at id old
      → exchange_at id old ≡ None
  none_kept id old found = ap (λ (v : Option (Exchange W)). option_map exchange_kept v) (sym found)

  -- What was written through what was lent is kept there.
  pub written_kept : (id : ℕ) (old new : NumberEntries (Exchange W)) (one next : Exchange W)
      → Some one ≡ value_at id old.entries → WritesThrough id old next new
      → SetsKept id (Some (exchange_kept next)) old.entries new.entries
  written_kept id old new one next found writes =
      sets_kept id (Some next) old.entries new.entries (writes.changes (ap is_some (sym found)))

  -- Two changes of one number are the later one.
  pub set_twice : (id : ℕ) (first kept : Option (Kept W)) (old mid new : List (ℕ × Exchange W))
      → SetsKept id first old mid → SetsKept id kept mid new → SetsKept id kept old new
  set_twice id first kept old mid new one two =
      record { at = two.at; others = λ i other. two.others i other ∙ one.others i other }

  -- What is kept of an exchange that was found has its stage.
  pub stage_found : (id : ℕ) (entries : List (ℕ × Exchange W)) (one : Exchange W)
      → Some one ≡ value_at id entries → (kept : Kept W) → exchange_at id entries ≡ Some kept
      → kept.stage ≡ one.stage
  stage_found id entries one found kept was =
      let same : Some kept ≡ Some (exchange_kept one) = sym was ∙ found_kept id entries one found in
      let is : kept ≡ exchange_kept one = cc in
      ap (λ (k : Kept W). k.stage) is

  -- What is kept of an exchange that was found is that.
  pub kept_found : (id : ℕ) (entries : List (ℕ × Exchange W)) (one : Exchange W)
      → Some one ≡ value_at id entries → (kept : Kept W) → exchange_at id entries ≡ Some kept
      → kept ≡ exchange_kept one
  kept_found id entries one found kept was =
      let same : Some kept ≡ Some (exchange_kept one) = sym was ∙ found_kept id entries one found in
      cc

  -- Where the map is the same, so is what is kept.
  pub same_map : (old new : NumberEntries (Exchange W)) → new ≡ old
      → SameKept old.entries new.entries
  same_map old new is i = ap (λ (m : NumberEntries (Exchange W)). exchange_at i m.entries) is

  -- One that was written so that its handler may be asked again.
  pub written_awake : (id : ℕ) (old new : NumberEntries (Exchange W)) (one next : Exchange W)
      → Some one ≡ value_at id old.entries → WritesThrough id old next new
      → exchange_kept next ≡ awake (exchange_kept one)
      → SetsKept id (Some (awake (exchange_kept one))) old.entries new.entries
  written_awake id old new one next found writes is =
      rw (← is) (written_kept id old new one next found writes)
