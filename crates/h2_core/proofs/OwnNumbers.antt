-- The first active number above another, among entries in the order of their numbers.
use Rattle.h2_core.proofs.Names.{◌≡◌, ◌≢◌, ℕ, true, Option, Some, None, refl, sym, ap, ◌∙◌, Role}
use Rattle.h2_core.proofs.Names.{Client, Server, StreamEntry, active_entry, reset_entry, StreamMap}
use Rattle.h2_core.proofs.Names.{stream_in}
use Rattle.h2_spec_machine.specs.Machine.{first_active, is_active_entry, unprocessed_of_end}
use Rattle.h2_spec_machine.proofs.SortedEntries.{first_found}
use Rattle.std.specs.FinMap as map

-- An active entry has a stream.
active_stream : (x : StreamEntry) → is_active_entry x ≡ true → stream_in (Some x) ≢ None
active_stream (active_entry stream) is none = cc
active_stream reset_entry is none = cc

-- The next stream that the peer doesn't process is active.
pub unprocessed_active : (role : Role) (streams : StreamMap) (received : Option ℕ)
    → unprocessed_of_end role streams received ≢ 0
    → stream_in (map.get streams (unprocessed_of_end role streams received)) ≢ None
unprocessed_active Client streams None some = absurd (some refl)
unprocessed_active Server streams None some = absurd (some refl)
unprocessed_active Server streams (Some last) some = absurd (some refl)
unprocessed_active Client streams (Some last) some =
    let entries = map.entries streams in
    let n : ℕ = first_active last entries in
    let f = first_found last entries (map.entries_sorted streams) some in
    λ none. active_stream f.x f.active
    (sym (ap stream_in (map.get-entries streams n ∙ f.found)) ∙ none)
