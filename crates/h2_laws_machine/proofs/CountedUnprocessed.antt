-- The counts of an end are those of its entries after a stream that is reported as unprocessed.
use Rattle.std.specs.FinMap as map
use Rattle.h2_laws_machine.proofs.Names
use Names.{◌≡◌, active_entry, close_unprocessed, unprocessed_of_end, is_active_entry, CountsEntries}
use Names.{◌≢◌, Option, Some, None, refl, ap, ◌∙◌, true, Role, Client, Server, End, stream_at}
use Names.{ℕ, StreamView, StreamEntry, StreamMap, reset_entry, stream_in, first_active, first_found}
use Rattle.h2_laws_machine.proofs.CountedBySteps.{counted, is_counted, counts_ended}

-- An active entry has a stream.
stream_of_entry : (y : Option StreamEntry) (x : StreamEntry) → y ≡ Some x → is_active_entry x ≡ true
    → (stream : StreamView) × (stream_in y ≡ Some stream)
stream_of_entry None x is active = absurd (cc)
stream_of_entry (Some (active_entry stream)) x is active = (stream, refl)
stream_of_entry (Some reset_entry) x is active = let same : reset_entry ≡ x = cc in absurd (cc)

-- The next stream that is reported as unprocessed is active, by the role and the least GOAWAY.
next_active : (role : Role) (m : StreamMap) (received : Option ℕ)
    → unprocessed_of_end role m received ≢ 0
    → (stream : StreamView)
    × (stream_in (map.get m (unprocessed_of_end role m received)) ≡ Some stream)
next_active role m None some = absurd (some refl)
next_active Server m (Some last) some = absurd (some refl)
next_active Client m (Some last) some =
    let n : ℕ = first_active last (map.entries m) in
    let f = first_found last (map.entries m) (map.entries_sorted m) some in
    stream_of_entry (map.get m n) f.x (map.get-entries m n ∙ f.found) f.active

-- The next stream that is reported as unprocessed is over.
pub unprocessed_counts : (e : End) (i : ℕ)
    → i ≡ unprocessed_of_end e.role e.streams.entries e.goaway.received → i ≢ 0
    → CountsEntries e → CountsEntries (close_unprocessed e i)
unprocessed_counts e i is some h =
    let active = next_active _ _ e.goaway.received (λ zero. some (is ∙ zero)) in
    let same : stream_at e i ≡ Some active.0 = ap (λ (j : ℕ). stream_at e j) is ∙ active.1 in
    is_counted (close_unprocessed e i) (counts_ended e i 0 active.0 same (counted e h))
