-- What every log that hasn't failed has: no more is acknowledged and answered than was sent, and so
-- on; and what keeps it.
use Rattle.h2_laws_machine.proofs.Names
use Names.{◌≡◌, ℕ, ◌+◌, ◌≤◌, ◌<◌, ◌==◌, ◌%◌, ◌||◌, Bool, true, false, List, [], ◌∷◌, ◌++◌, refl}
use Names.{sym, ap, ◌∙◌, arith, list_any, both_ways, and_right, false_from_ne_true, Item, alone}
use Names.{block, data_on, increment_on, is_block_on, opens_from, ends, resets, is_goaway, one_ping}
use Names.{total, greatest_block, Event, one_acked, one_pong, reported_total, greatest_processed}
use Names.{reports_unprocessed, is_server, settings_count, openings, is_active, is_used, Log, Role}
use Names.{Client, Server, active_parts, lasts_parts, active_before, opens_low, reported_append}
use Names.{none_both, processed_after}
use Rattle.h2_laws_log.proofs.LogGrowth.{Grows}
use Rattle.h2_laws_log.proofs.ItemLists.{none_after, settings_after, total_after}
use Rattle.h2_laws_machine.proofs.OneItemMore.{any_quiet, total_quiet}

-- Nothing was read or reported of a number.
pub record IsUnseen (received : List Item) (reported : List Event) (i : ℕ) : Type 0 where
  pub ended : list_any (ends i) received ≡ false
  pub reset : list_any (resets i) received ≡ false
  pub given : total (increment_on i) received ≡ 0
  pub no_data : total (data_on i) received ≡ 0
  pub unnamed : list_any (reports_unprocessed i) reported ≡ false

-- What every log has that hasn't failed.
pub record IsUpLogBy (role : Role) (received sent : List Item) (reported : List Event) : Type 0
  where
    pub acks : reported_total one_acked reported ≤ settings_count sent
    pub pongs : reported_total one_pong reported ≤ total one_ping sent
    pub processed : is_server role ≡ true → list_any is_goaway sent ≡ false → (i : ℕ)
        → is_active role i received sent reported ≡ true → i ≤ greatest_processed reported
    pub clear : role ≡ Client → (i : ℕ) → greatest_block sent < i → IsUnseen received reported i

-- the same of a log
abbrev pub IsUpLog : Log → Type 0
IsUpLog log = IsUpLogBy log.role log.received log.sent log.reported

-- a server's openings are what it reads
pub openings_server : (role : Role) (received sent : List Item) → is_server role ≡ true
    → openings role received sent ≡ received
openings_server Client received sent is = absurd (both_ways false refl is)
openings_server Server received sent is = refl

-- More items have no lesser greatest number.
pub greatest_after : (more items : List Item)
    → greatest_block items ≤ greatest_block (more ++ items)
unfolding greatest_block
greatest_after [] items = omega arith
greatest_after (alone frame ∷ more) items = greatest_after more items
greatest_after (block stream end octets ∷ more) items = omega (arith, greatest_after more items)

-- More that was written keeps this.
pub up_log_more : (role : Role) (received items sent : List Item) (reported : List Event)
    → IsUpLogBy role received sent reported → IsUpLogBy role received (items ++ sent) reported
up_log_more role received items sent reported f = record {
  acks = omega (arith, f.acks, settings_after items sent);
  pongs = omega (arith, f.pongs, total_after one_ping items sent);
  processed = λ server none i active_is.
      let parts = active_parts role i received (items ++ sent) reported active_is in
      let opened : list_any (is_block_on i) (openings role received sent) ≡ true =
      ap (list_any (is_block_on i)) (openings_server role received sent server
      ∙ sym (openings_server role received (items ++ sent) server)) ∙ parts.opened in
      f.processed server (none_after is_goaway items sent none) i
      (active_before role i [] items received sent [] reported active_is opened);
  clear = λ client i above. let low = greatest_after items sent in f.clear client i
      (omega arith);
}

-- A log that grows keeps this.
pub up_log_grown : (old new : Log) → Grows old new → IsUpLog old → IsUpLog new
up_log_grown old new g f = rw (g.role, g.received, g.reported, g.sent)
    (up_log_more old.role old.received g.items old.sent old.reported f)

-- What an item that is read, and what is reported of it, must keep to.
pub record Reads (role : Role) (received sent news : List Item) (reported events : List Event)
    (item : Item) : Type 0 where
  pub acks : reported_total one_acked events + reported_total one_acked reported ≤ settings_count
      sent
  pub pongs : reported_total one_pong events + reported_total one_pong reported ≤ total one_ping
      sent
  pub processed : (i : ℕ) → is_block_on i item ≡ true → is_server role ≡ true
      → list_any is_goaway sent ≡ false → list_any (resets i) news ≡ false
      → is_active role i (item ∷ received) news (events ++ reported) ≡ true
      → i ≤ greatest_processed (events ++ reported)
  pub clear : role ≡ Client → (i : ℕ) → greatest_block sent < i → IsUnseen (item ∷ []) events i

-- A test that one item doesn't pass.
one_none : {X : Type 0} (p : X → Bool) (x : X) → list_any p (x ∷ []) ≡ false → p x ≡ false
one_none p x none = by (p x) none where
  by : (b : Bool) → (b || false) ≡ false → b ≡ false
  by true is = is
  by false is = refl

-- A number of one item.
one_total : (f : Item → ℕ) (item : Item) → total f (item ∷ []) ≡ 0 → f item ≡ 0
unfolding total
one_total f item none = omega (arith, none)

-- what is active after an item was, or it is the item's stream, by the item
active_processed_by : (role : Role) (received items sent news : List Item)
    (reported events : List Event) (item : Item) (i : ℕ) (b : Bool)
    → news ≡ items ++ sent → is_block_on i item ≡ b
    → IsUpLogBy role received sent reported → Reads role received sent news reported events item
    → is_server role ≡ true → list_any is_goaway news ≡ false
    → list_any (resets i) news ≡ false
    → is_active role i (item ∷ received) news (events ++ reported) ≡ true
    → i ≤ greatest_processed (events ++ reported)
active_processed_by role received items sent news reported events item i true is test f r server
    none kept active_is =
    r.processed i test server (none_after is_goaway items sent (ap (list_any is_goaway) (sym is)
    ∙ none)) kept active_is
active_processed_by role received items sent news reported events item i false is test f r server
    none kept active_is =
    let before : is_active role i (item ∷ received) (items ++ sent) (events ++ reported) ≡ true = ap
    (λ (line : List Item). is_active role i (item ∷ received) line (events ++ reported)) (sym is)
    ∙ active_is in
    let parts = active_parts role i (item ∷ received) (items ++ sent) (events ++ reported) before in
    let opened : list_any (is_block_on i) (openings role received sent) ≡ true = ap
    (list_any (is_block_on i)) (openings_server role received sent server) ∙ sym
    (any_quiet (is_block_on i) item received test) ∙ ap (list_any (is_block_on i))
    (sym (openings_server role (item ∷ received) (items ++ sent) server)) ∙ parts.opened in
    let was = f.processed server (none_after is_goaway _ _ (ap (list_any is_goaway) (sym is)
    ∙ none)) i
    (active_before role i (item ∷ []) items received sent events reported before opened) in
    omega (arith, was, processed_after events reported)

-- What is active wasn't reset.
active_unreset : (role : Role) (i : ℕ) (received sent : List Item) (reported : List Event)
    → is_active role i received sent reported ≡ true → list_any (resets i) sent ≡ false
active_unreset role i received sent reported active_is =
    (lasts_parts i received sent (active_parts role i received sent reported active_is).lasts).kept

-- An item that is read keeps this.
pub up_log_read : (role : Role) (received items sent news : List Item)
    (reported events : List Event) (item : Item) → news ≡ items ++ sent
    → IsUpLogBy role received sent reported → Reads role received sent news reported events item
    → IsUpLogBy role (item ∷ received) news (events ++ reported)
up_log_read role received items sent news reported events item is f r =
    record {
      acks = omega (arith, reported_append, settings_after, ap settings_count is);
      pongs = omega (arith, reported_append, total_after, ap (total one_ping) is);
      processed = λ server none i active_is.
          let lasts = active_unreset role i (item ∷ received) news (events ++ reported) active_is in
          active_processed_by role received items sent news reported events item i (is_block_on i
          item)
          is refl f r server none lasts active_is;
      clear = λ client i above.
          let low = greatest_after items sent in
          let same = ap greatest_block is in
          let before = f.clear client i (omega arith) in
          let here = r.clear client i (omega arith) in
          record {
            ended = any_quiet (ends i) item received (one_none (ends i) item here.ended) ∙
                before.ended;
            reset = any_quiet (resets i) _ _ (one_none (resets i) item here.reset) ∙ before.reset;
            given = total_quiet (increment_on i) item received
                (one_total (increment_on i) item here.given) ∙ before.given;
            no_data = total_quiet (data_on i) item received (one_total (data_on i) item
                here.no_data)
                ∙ before.no_data;
            unnamed = none_both (reports_unprocessed i) events reported here.unnamed before.unnamed;
          };
    }

-- At a client a number above all that were used is idle.
pub idle_above : (role : Role) (i : ℕ) (received sent : List Item) → role ≡ Client
    → greatest_block sent < i → is_used role i received sent ≡ false
unfolding is_used
idle_above Client i received sent is above =
    and_right (i % 2 == 1) _ (false_from_ne_true (list_any (opens_from i) sent)
    (λ some. let low = opens_low i sent some in omega arith))
idle_above Server i received sent is above = cc
