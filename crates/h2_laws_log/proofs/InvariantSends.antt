-- The invariant of a log holds after a call that sends fields or a body.
use Rattle.h2_laws_log.proofs.Names
use Names.{list_any, both_ways, or_parts, ltb-false, leb-false, false_from_ne_true, list_size}
use Names.{block_of, Data, Item, alone, block, Role, Client, Server, increment_on, one_answer, ends}
use Names.{is_goaway, greatest_block, one_ack, is_server, Act, Answer, Open, SendFields, SendData}
use Names.{Number, Count, Done, openings, count_below, greatest_number, Log, active, active_count}
use Names.{released, widened, next_number, allowed_by, streams_allowed, goaway_written, goaway_read}
use Names.{max_payload_sent, log_view, conditions, refusal_of, items_of, stream_of_act, data_items}
use Names.{with_sent, max_list, with_call, AllowedHistory, writes, MayContinue, active_by_items}
use Names.{none_since, ◌≡◌, ℕ, ◌+◌, ◌≤◌, ◌<◌, nat_lt, Bool, true, false, if◌then◌else◌, List, []}
use Names.{◌∷◌, length, None, refl, sym, ◌∙◌, inl, inr, arith, Field, rules}
use Rattle.h2_laws_log.proofs.BlockSizes.{block_is_gathered}
use Rattle.h2_laws_log.proofs.CallConditions.{none_holds, and_other}
use Rattle.h2_laws_log.proofs.DataOfCalls.{count_of, data_ack, none_of_items, data_items_written}
use Rattle.h2_laws_log.proofs.InvariantCalls.{writes_only, writes_one, items_represent}
use Rattle.h2_laws_log.proofs.InvariantCalls.{active_is_active}
use Rattle.h2_laws_log.proofs.ItemLists.{count_below_more}
use Rattle.h2_laws_log.proofs.LogHistory.{History, history_of}
use Rattle.h2_laws_log.proofs.LogInvariant.{Good, Represents, Moves}
use Rattle.h2_laws_log.proofs.LogViewLemmas.{when_some, stream_is_active, open_out}
use Rattle.h2_laws_log.proofs.ReaderStates.{active_parts, active_from}
use Rattle.h2_laws_log.proofs.StreamNumbers.{next_odd}

-- A stream on which this end goes on.
active_goes : (log : Log) (i : ℕ) → active log i ≡ true → list_any (ends i) log.sent ≡ false
    → MayContinue log.role i log.received log.sent
active_goes log i active ended = record { active = active_is_active log i active; goes = ended }

-- the role of an end that isn't a server
pub client_since : (role : Role) → is_server role ≡ false → role ≡ Client
client_since Client is = refl
client_since Server is = absurd (both_ways true is refl)

-- Where no GOAWAY was read, a stream that is active by its items is active.
is_active_active : (log : Log) → Good (history_of log) → list_any is_goaway log.received ≡ false
    → (j : ℕ) → active_by_items log.role j log.received log.sent ≡ true → active log j ≡ true
is_active_active log good stays j active =
    search (rules, active_parts, active_from, false_from_ne_true, both_ways)

-- what a client counts
count_of_client : (role : Role) (received sent : List Item) (n : ℕ) (test : ℕ → Bool)
    → is_server role ≡ false
    → count_below (greatest_block (openings role received sent) + 1) test < n
    → count_below (greatest_block sent + 1) test < n
count_of_client Client received sent n test is few = few
count_of_client Server received sent n test is few = absurd (both_ways true is refl)

-- a client's streams are fewer than the server allows
few_active : (log : Log) → Good (history_of log) → list_any is_goaway log.received ≡ false
    → is_server log.role ≡ false → active_count log < streams_allowed log
    → count_below (greatest_block log.sent + 1)
    (λ j. active_by_items log.role j log.received log.sent) < allowed_by log.received
unfolding active_count
few_active log good stays client few =
    let counts = count_of_client log.role log.received log.sent (streams_allowed log)
    (active log) client few in
    let fewer = count_below_more (greatest_block log.sent + 1)
    (λ j. active_by_items log.role j log.received log.sent) (active log)
    (is_active_active log good stays) in
    omega (arith, counts, fewer)

-- A block acknowledges, answers and gives nothing.
block_writes : (v : History) (i id : ℕ) (end : Bool) (octets : List ℕ) (calls : List (Act
    × Answer)) → AllowedHistory v.role v.received (block id end octets ∷ v.sent)
    → ((j : ℕ) → released j calls ≡ released j v.calls) → widened calls ≡ widened v.calls
    → Moves v i [] (block id end octets ∷ []) [] calls 0
unfolding one_ack one_answer increment_on
block_writes v i id end octets calls with_sent same wide = search (rules, writes_one)

-- The invariant holds after opening a stream with a number that is the next one.
open_with : (role : Role) (log : Log) (fields : List Field) (end : Bool) (number : ℕ)
    → Represents role (history_of log) → log.failed ≡ None
    → is_server log.role ≡ false → nat_lt greatest_number number ≡ false → (goaway_written log
    ≡ false) × (goaway_read log ≡ false)
    → active_count log < streams_allowed log → list_size fields ≤ max_list → number
    ≡ next_number log
    → Represents role (history_of (with_call log (Open fields end) (Number number)))
unfolding with_call items_of stream_of_act released widened
open_with role log fields end number represents up server low went few small is =
    let good = represents.good up in
    let next = next_odd log represents.with_sent in
    items_represent role log (Open fields end) (Number number) (block number end
    (block_of log.encoder fields) ∷ []) represents up refl (block_writes (history_of log) _ _ _ _ _
    (writes (block number end (block_of log.encoder fields)) represents.with_sent (
      good.returned,
      inl (record {
        client = client_since log.role server;
        odd = rw is next.0;
        rises = omega (arith, next.1, is);
        low = ltb-false greatest_number number low;
        few = few_active log good went.1 server few;
        stays = went.0;
        reported_to_stay = went.1;
      }),
      block_is_gathered log.encoder fields small,
    )) (λ j. refl) refl)

-- a choice that fails
pub client_number : (b : Bool) (n : ℕ) → b ≡ false → (if b then 0 else n) ≡ n
client_number true n is = absurd (both_ways true is refl)
client_number false n is = refl

-- the number of a client's next stream
number_of_client : (log : Log) → is_server log.role ≡ false → (log_view log).next_number
    ≡ next_number log
number_of_client log server = client_number (is_server log.role) (next_number log) server

-- The invariant holds after opening a stream.
pub open_represents : (role : Role) (log : Log) (fields : List Field) (end : Bool)
    → Represents role (history_of log)
    → refusal_of (log_view log) (Open fields end) ≡ None
    → Represents role (history_of (with_call log (Open fields end) (Number
    (log_view log).next_number)))
unfolding conditions
open_represents role log fields end represents none =
    let view = log_view log in
    let holds = none_holds _ none in
    let server = or_parts _ _ holds.1.1.0 in
    let went = or_parts _ _ holds.1.1.1.0 in
    let read : goaway_read log ≡ false = sym (when_some _ _) ∙ went.1 in
    open_with _ _ _ _ _ represents (none_since log.failed holds.0) server.0 server.1 (went.0, read)
    (leb-false _ _ (and_other _ _ holds.1.0 server.0))
    (ltb-false max_list (list_size fields) holds.1.1.1.1.1.0) (number_of_client log server.0)

-- The invariant holds after writing further fields.
pub fields_represent : (role : Role) (log : Log) (id : ℕ) (fields : List Field) (end : Bool)
    → Represents role (history_of log)
    → refusal_of (log_view log) (SendFields id fields end) ≡ None
    → Represents role (history_of (with_call log (SendFields id fields end) Done))
unfolding conditions with_call items_of stream_of_act released widened
fields_represent role log id fields end represents none =
    let holds = none_holds _ none in
    let up = none_since log.failed holds.0 in
    let good = represents.good up in
    items_represent _ _ _ Done (block id end (block_of log.encoder fields) ∷ []) represents up refl
    (block_writes (history_of log) _ id end (block_of log.encoder fields) _ (writes (block id end
    (block_of log.encoder fields)) represents.with_sent (
      good.returned,
      inr (active_goes log id (stream_is_active log id holds.1.0) (open_out log id
          (stream_is_active log id holds.1.0) holds.1.1.0)),
      block_is_gathered log.encoder fields (ltb-false max_list (list_size fields) holds.1.1.1.1.0),
    )) (λ j. refl) refl)

-- DATA answers nothing
data_answer : (id : ℕ) (end : Bool) (octets : List ℕ)
    → one_answer (alone (Data id end octets None)) ≡ 0
unfolding one_answer
data_answer id end octets = refl

-- DATA gives nothing
pub data_gives : (j id : ℕ) (end : Bool) (octets : List ℕ)
    → increment_on j (alone (Data id end octets None)) ≡ 0
unfolding increment_on
data_gives j id end octets = refl

-- The invariant holds after writing a body.
pub data_represents : (role : Role) (log : Log) (id : ℕ) (octets : List ℕ) (end : Bool)
    → Represents role (history_of log)
    → refusal_of (log_view log) (SendData id octets end) ≡ None
    → Represents role (history_of (with_call log (SendData id octets end) (Count (count_of log id
    (length octets)))))
unfolding conditions with_call items_of stream_of_act released widened
data_represents role log id octets end represents none =
    let holds = none_holds _ none in
    let up = none_since log.failed holds.0 in
    let good = represents.good up in
    let count = count_of log id (length octets) in
    let alive = stream_is_active log id holds.1.0 in
    items_represent role log (SendData id octets end) (Count (count_of log id (length octets)))
    (data_items (max_payload_sent log) id octets end (count_of log id
    (length octets))) represents up refl
    (writes_only (history_of log) _ (data_items (max_payload_sent log) id octets end
    (count_of log id (length octets))) _
    (data_items_written log id octets end alive represents.with_sent good.returned
    (active_goes log id alive (open_out log id alive holds.1.1.0)))
    (none_of_items one_ack data_ack (max_payload_sent log) id octets end count)
    (none_of_items one_answer data_answer (max_payload_sent log) id octets end count)
    (λ j. none_of_items (increment_on j) (data_gives j)
    (max_payload_sent log) id octets end count) (λ j. refl) refl)
