-- The logs of servers with many streams come about.
use Rattle.std.proofs.Common.{◌≡◌, ℕ, zero, ◌+◌, ◌*◌, true, false, List, [], None, refl, not}
use Rattle.std.proofs.lemmas.Bool.{not-true}
use Rattle.hpack.specs.Entry.{Entry}
use Rattle.h2_spec_log.specs.Histories.{table_limit}
use Rattle.h2_spec_log.proofs.Names.{suc, ◌==◌, ◌&&◌, Bool, length, ap, ◌∙◌, Entries, empty_table}
use Rattle.h2_spec_log.proofs.Names.{Data, Headers, Log, takes_block, is_none, subst, and_parts}
use Rattle.h2_spec_log.proofs.Names.{eqb-true, nil_from_length, fault_outside, may_be_first}
use Rattle.h2_spec_log.proofs.Names.{frame_step, grouping_step, grouped}
use Rattle.h2_spec_log.proofs.examples.Octets.{octets_after}
use Rattle.h2_spec_log.proofs.examples.Words.{short_request, get_block, abcd}
use Rattle.h2_spec_log.proofs.examples.Ends.{settled_server}
use Rattle.h2_spec_log.proofs.examples.ManyStreams.{server_with_streams, server_with_one_too_many}
use Rattle.h2_spec_log.proofs.examples.ManyStreams.{server_with_refused_body}
use Rattle.h2_spec_log.proofs.examples.Coming.{ServerComes, block_comes, comes, coming, none_by}
use Rattle.h2_spec_log.proofs.examples.Coming.{receives, short_block}
use Rattle.h2_spec_log.proofs.examples.ServersCome.{settled_server_comes}

-- Whether a server takes the short request on a stream, with nothing else to do before it, and with
-- tables as they were at first.
is_ready : Log → ℕ → Bool
is_ready log stream =
    not (length log.frames == 0) && (is_none log.begun && (length log.table.entries == 0
    && (log.table.maximum == 4096 && (table_limit log == 4096
    && receives log (Headers stream false true get_block None None)))))

-- a table, by its entries and its maximum
table_by : (table : Entries) → length table.entries ≡ 0 → table.maximum ≡ 4096 → table
    ≡ empty_table 4096
table_by table empty maximum =
    ap (λ (entries : List Entry). record { entries = entries; maximum = table.maximum })
    (nil_from_length table.entries empty)
    ∙ ap (λ (bound : ℕ). record { entries = []; maximum = bound }) maximum

-- Such a server takes it.
ready_comes : (log : Log) (stream : ℕ) → ServerComes log → is_ready log stream
    ≡ true
    → ServerComes (takes_block log stream false get_block short_request
    (empty_table 4096))
unfolding is_ready fault_outside may_be_first frame_step grouping_step grouped octets_after
ready_comes log stream is able =
    let (later, ready1) = and_parts _ _ able in
    let (begun, ready2) = and_parts _ _ ready1 in
    let (entries, ready3) = and_parts _ _ ready2 in
    let (maximum, ready4) = and_parts _ _ ready3 in
    let (limit, reads) = and_parts _ _ ready4 in
    let frames : length log.frames == 0 ≡ false = not-true (length log.frames == 0) later in
    let outside : log.begun ≡ None = none_by _ begun in
    let table : log.table
    ≡ empty_table 4096 = table_by log.table (eqb-true _ _ entries) (eqb-true _ _ maximum) in
    let bound : table_limit log ≡ 4096 = eqb-true _ _ limit in
    block_comes is stream false get_block short_request (empty_table 4096) reads
    (rw (frames, outside, table, bound) short_block)

-- a server's log, and whether it took each request so far
record Run : Type 0 where
  log : Log
  ready : Bool

-- one request more
run_on : ℕ → Run → Run
run_on count run = record {
  log = takes_block run.log (2 * count + 1) false get_block short_request (empty_table 4096);
  ready = run.ready && is_ready run.log (2 * count + 1);
}

-- so many requests
run_of : ℕ → Run
run_of zero = record { log = settled_server; ready = true }
run_of (suc count) = run_on count (run_of count)

-- the log of the run
run_log : (count : ℕ) → (run_of count).log ≡ server_with_streams count
unfolding run_of run_on server_with_streams
run_log zero = refl
run_log (suc count) = ap (λ (log : Log). takes_block log
    (2 * count + 1) false get_block short_request (empty_table 4096)) (run_log count)

-- Where all were taken the log comes about.
run_comes : (count : ℕ) → (run_of count).ready
    ≡ true → ServerComes (run_of count).log
unfolding run_of run_on
run_comes zero h = settled_server_comes
run_comes (suc count) h =
    let (before, now) = and_parts _ _ h in
    ready_comes (run_of count).log (2 * count + 1) (run_comes count before) now

-- The server takes a hundred.
all_taken : (run_of 100).ready ≡ true
unfolding coming is_ready run_of run_on
all_taken = refl

-- server with a hundred streams
pub server_with_hundred_comes : ServerComes (server_with_streams 100)
server_with_hundred_comes = subst (λ (log : Log). ServerComes log) (run_log 100)
    (run_comes 100 all_taken)

-- server with one too many, and DATA on its stream
servers_with_one_too_many_come :
    ServerComes server_with_one_too_many × ServerComes server_with_refused_body
unfolding coming server_with_streams
servers_with_one_too_many_come =
    let refused = block_comes server_with_hundred_comes 201 false get_block short_request
    (empty_table 4096) refl short_block in
    (refused, comes refused (Data 201 false abcd None) tt refl refl)
