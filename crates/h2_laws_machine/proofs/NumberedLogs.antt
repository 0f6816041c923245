-- What every log that hasn't failed has of GOAWAYs, of the numbers that were used, and of what was
-- released; and what keeps it.
use Rattle.h2_laws_machine.proofs.Names
use Names.{◌≡◌, is_goaway_below, greatest_block, ConnectionFault, goaway_sent_last, reported_append}
use Names.{◌≢◌, Bool, true, ◌&&◌, ◌||◌, List, ◌++◌, Some, None, refl, Code, Data, Item, Role, state}
use Names.{◌⊎◌, ◌≤◌, ◌%◌, [], ◌∷◌, sym, ◌∙◌, inl, inr, ends, Act, Idle, Log, read}
use Names.{ℕ, nat_lt, Option, ne_eqb, GoAway, flow_on, is_used, Verdict, NoEvent, Reported, Decoded}
use Names.{◌==◌, WindowUpdate, increment_on, data_verdict, with_reported, active_parts, closed_used}
use Names.{false, subst, arith, Reset, alone, block, resets, total, Event, Answer, State, Active}
use Names.{list_any, or_cases, eqb-true, cases_eq, or_parts, data_on, log_view, released, none_both}
use Names.{both_ways, and_parts, is_goaway, is_server, ClosedByUs, with_sent, state_idle, total_one}
use Names.{ProtocolError, reported_total, StreamFault, block_verdict, reset_verdict, update_verdict}
use Names.{is_block_on, greatest_processed, reports_unprocessed, verdict_by_rules, verdict_of_block}
use Rattle.h2_laws_log.proofs.LogHistory.{processed_append}
use Rattle.h2_laws_log.proofs.ItemLists.{below_quiet}
use Rattle.h2_laws_log.proofs.ReplyInvariant.{used_here}
use Rattle.h2_laws_machine.proofs.LogCore.{core}
use Rattle.h2_laws_machine.proofs.OneItemMore.{any_quiet}
use Rattle.h2_laws_machine.proofs.QuietNumbers.{AreOdd, unused_before}
use Rattle.h2_laws_machine.proofs.RecvItems.{active_in, used_odd}
use Rattle.h2_laws_machine.proofs.RecvVerdictCases.{block_is_reported, block_is_fault}
use Rattle.h2_laws_machine.proofs.RecvVerdictCases.{block_is_ignored}

-- There is one GOAWAY at most, whose last stream is no greater than this number.
pub record OneGoAway (n : ℕ) (sent : List Item) : Type 0 where
  pub above : (i : ℕ) → list_any (is_goaway_below i) sent
      ≡ (list_any is_goaway sent && nat_lt (goaway_sent_last sent) i)
  pub last : list_any is_goaway sent ≡ true → goaway_sent_last sent ≤ n

-- Nothing was read of a number.
pub record IsUnheard (i : ℕ) (received : List Item) : Type 0 where
  pub unreset : list_any (resets i) received ≡ false
  pub unended : list_any (ends i) received ≡ false
  pub increments : total (increment_on i) received ≡ 0
  pub come : total (data_on i) received ≡ 0

-- What every log has that hasn't failed.
pub record Numbered (role : Role) (received sent : List Item) (reported : List Event)
    (calls : List (Act × Answer)) : Type 0 where
  pub goaways : OneGoAway (greatest_block received) sent
  pub processed : is_server role ≡ true → greatest_processed reported ≤ greatest_block received
  pub odd : is_server role ≡ true → AreOdd received
  pub unnamed : is_server role ≡ true → (i : ℕ) → list_any (reports_unprocessed i) reported ≡ false
  pub unread : (i : ℕ) → i ≢ 0 → is_used role i received sent ≡ false → IsUnheard i received
  pub released : (i : ℕ) → released i calls ≤ reported_total (flow_on i) reported

-- the same of a log
abbrev pub IsNumbered : Log → Type 0
IsNumbered log = Numbered log.role log.received log.sent log.reported log.calls

-- It leaves the last stream of the newest one.
last_quiet : (item : Item) (sent : List Item) → is_goaway item ≡ false
    → goaway_sent_last (item ∷ sent) ≡ goaway_sent_last sent
unfolding is_goaway goaway_sent_last
last_quiet (alone (GoAway last code debug)) sent none = absurd (both_ways true none refl)
last_quiet item sent none = refl

-- Such an item is sent.
one_more : (n : ℕ) (item : Item) (sent : List Item) → is_goaway item ≡ false → OneGoAway n sent
    → OneGoAway n (item ∷ sent)
one_more n item sent none g = record {
  above = λ i. rw (below_quiet i item none, none, last_quiet item sent none) (g.above i);
  last = λ some. rw (last_quiet item sent none) (g.last (rw none at some));
}

-- Such items are sent.
more_sent : (n : ℕ) (items sent : List Item) → list_any is_goaway items ≡ false → OneGoAway n sent
    → OneGoAway n (items ++ sent)
more_sent n [] sent none g = g
more_sent n (item ∷ items) sent none g =
    let both = or_parts (is_goaway item) (list_any is_goaway items) none in
    one_more n item (items ++ sent) both.0 (more_sent n items sent both.1 g)

-- nothing more
or_nothing : (b : Bool) → (b || false) ≡ b
or_nothing true = refl
or_nothing false = refl

-- GOAWAY is sent where none was.
pub goaway_sent : (n last : ℕ) (sent : List Item) → list_any is_goaway sent ≡ false → last ≤ n
    → OneGoAway n sent → OneGoAway n (alone (GoAway last 0 []) ∷ sent)
unfolding is_goaway is_goaway_below goaway_sent_last
goaway_sent n last sent none low g =
    record { above = λ i. rw (g.above i, none) (or_nothing (nat_lt last i)); last = λ some. low }

-- A greater number keeps it.
one_up : (n m : ℕ) (sent : List Item) → n ≤ m → OneGoAway n sent → OneGoAway m sent
one_up n m sent less g =
    record { above = g.above; last = λ some. let low = g.last some in omega (arith, less, low) }

-- Items without GOAWAY that are sent keep it.
pub sent_numbered : (log : Log) (items : List Item) → list_any is_goaway items ≡ false
    → IsNumbered log → IsNumbered (with_sent log items)
unfolding with_sent
sent_numbered log [] none f = f
sent_numbered log (item ∷ items) none f = record {
  goaways = more_sent (greatest_block log.received) (item ∷ items) log.sent none f.goaways;
  processed = f.processed;
  odd = f.odd;
  unnamed = f.unnamed;
  unread = λ i some unused. f.unread i some
      (unused_before log.role i [] (item ∷ items) log.received log.sent unused);
  released = f.released;
}

-- What events must keep to.
pub record EventsFit (role : Role) (received : List Item) (events : List Event) : Type 0 where
  pub processed : is_server role ≡ true → greatest_processed events ≤ greatest_block received
  pub unnamed : is_server role ≡ true → (i : ℕ) → list_any (reports_unprocessed i) events ≡ false

-- Events that are reported keep it.
pub reported_numbered : (log : Log) (events : List Event) → EventsFit log.role log.received events
    → IsNumbered log → IsNumbered (with_reported log events)
unfolding with_reported
reported_numbered log [] fit f = f
reported_numbered log (event ∷ events) fit f = record {
  goaways = f.goaways;
  processed = λ server. processed_append (event ∷ events) log.reported _ (fit.processed server)
      (f.processed server);
  odd = f.odd;
  unnamed = λ server i. none_both (reports_unprocessed i) (event ∷ events) log.reported
      (fit.unnamed server i) (f.unnamed server i);
  unread = f.unread;
  released = λ i.
      let before = f.released i in
      omega (arith, before, reported_append (flow_on i) (event ∷ events) log.reported);
}

-- The verdict isn't a fault of the connection.
abbrev pub Continues : Verdict → Type 0
Continues v = (code : Code) → v ≡ ConnectionFault code → ⊥

-- The stream of a block that is no fault of the connection is active, or closed by this end, or a
-- new one that the peer may open.
block_state : (s : State) (opens left full ended large : Bool) (v : Verdict)
    → block_verdict s opens left full ended large ≡ v → Continues v
    → (s ≡ Active) ⊎ ((s ≡ ClosedByUs) ⊎ ((s ≡ Idle) × (opens ≡ true)))
block_state s opens left full ended large (ConnectionFault code) is on = absurd (on code refl)
block_state s opens left full ended large (StreamFault code) is on =
    elim (block_is_fault s opens left full ended large code is) [
      | inl here ↦ inl here
      | inr (idle, may, stays) ↦ inr (inr (idle, may))
    ]
block_state s opens left full ended large NoEvent is on =
    elim (block_is_ignored s opens left full ended large is) [
      | inl closed ↦ inr (inl closed)
      | inr (idle, may, stays) ↦ inr (inr (idle, may))
    ]
block_state s opens left full ended large Reported is on =
    elim (block_is_reported s opens left full ended large is) [
      | inl here ↦ inl here
      | inr (idle, may, stays) ↦ inr (inr (idle, may))
    ]

-- The same of a log.
block_log_state : (log : Log) (decoded : Option Decoded) (i : ℕ) (v : Verdict)
    → verdict_of_block (log_view log) i decoded ≡ v → Continues v
    → (state log i ≡ Active) ⊎ ((state log i ≡ ClosedByUs)
    ⊎ ((state log i ≡ Idle) × ((is_server log.role && i % 2 == 1) ≡ true)))
block_log_state log None i v is on = absurd (on _ (sym is))
block_log_state log (Some decoded) i v is on = block_state (state log i) _ _ _ _ _ v is on

-- Its number is odd.
block_number_odd : (log : Log) (decoded : Option Decoded) (i : ℕ) (v : Verdict)
    → verdict_of_block (log_view log) i decoded ≡ v → Continues v → i % 2 ≡ 1
block_number_odd log decoded i v is on = elim (block_log_state log decoded i v is on) [
  | inl here ↦ eqb-true (i % 2) 1
      (active_parts log.role i log.received log.sent log.reported (active_in log i here)).odd
  | inr (inl closed) ↦ eqb-true (i % 2) 1
      (used_odd log.role i (core log) (closed_used _ _ _ closed))
  | inr (inr (idle, opens)) ↦ eqb-true (i % 2) 1 (and_parts _ _ opens).1
]

-- Blocks that are read have odd numbers.
read_odd : (log : Log) (decoded : Option Decoded) (item : Item) (v : Verdict)
    → verdict_by_rules (log_view log) decoded item ≡ v → Continues v → AreOdd log.received
    → AreOdd (item ∷ log.received)
unfolding verdict_by_rules is_block_on
read_odd log decoded (alone frame) v is on odd j here = odd j here
read_odd log decoded (block i end octets) v is on odd j here =
    elim (or_cases (i == j) (list_any (is_block_on j) log.received) here) [
      | inl same ↦ rw (← (eqb-true i j same)) (block_number_odd log decoded i v is on)
      | inr before ↦ odd j before
    ]

-- What an item says of a number.
abbrev SaysNothing : ℕ → Item → Type 0
SaysNothing i item = (ends i item ≡ false) × (resets i item ≡ false) × (increment_on i item ≡ 0)
    × (data_on i item ≡ 0)

-- An item that isn't a fault of the connection says nothing of a number that is idle after it.
says_nothing : (log : Log) (decoded : Option Decoded) (item : Item) (v : Verdict) (i : ℕ)
    → verdict_by_rules (log_view log) decoded item ≡ v → Continues v → i ≢ 0
    → state log i ≡ Idle → is_used log.role i (item ∷ log.received) log.sent ≡ false
    → SaysNothing i item
unfolding verdict_by_rules ends resets increment_on data_on data_verdict reset_verdict
    update_verdict
says_nothing log decoded (block stream end octets) v i is on some idle unused =
    elim (cases_eq stream i) [
      | inl same ↦
          let here : is_used log.role stream (block stream end octets ∷ log.received) log.sent
          ≡ false =
          subst (λ (j : ℕ). is_used log.role j (block stream end octets ∷ log.received) log.sent
          ≡ false) (sym same) unused in
          let idle_here : state log stream ≡ Idle = subst (λ (j : ℕ). state log j ≡ Idle) (sym same)
          idle in
          elim (block_log_state log decoded stream v is on) [
            | inl wrong ↦ let both : Idle ≡ Active = sym idle_here ∙ wrong in cc
            | inr (inl wrong) ↦ let both : Idle ≡ ClosedByUs = sym idle_here ∙ wrong in cc
            | inr (inr (again, opens)) ↦ absurd (both_ways _ here (used_here _ _ _ _ _ _ opens))
          ]
      | inr other ↦ (rw (ne_eqb stream i other) refl, refl, refl, refl)
    ]
says_nothing log decoded (alone (Data stream end octets pad)) v i is on some idle unused =
    elim (cases_eq stream i) [
      | inl same ↦
          let idle_here : state log stream ≡ Idle =
          subst (λ (j : ℕ). state log j ≡ Idle) (sym same) idle in
          absurd (on ProtocolError (sym is ∙ rw idle_here refl))
      | inr other ↦ (rw (ne_eqb stream i other) refl, refl, refl, rw (ne_eqb stream i other) refl)
    ]
says_nothing log decoded (alone (Reset stream code)) v i is on some idle unused =
    elim (cases_eq stream i) [
      | inl same ↦
          let idle_here : state log stream ≡ Idle =
          subst (λ (j : ℕ). state log j ≡ Idle) (sym same) idle in
          absurd (on ProtocolError (sym is ∙ rw idle_here refl))
      | inr other ↦ (refl, ne_eqb stream i other, refl, refl)
    ]
says_nothing log decoded (alone (WindowUpdate stream increment)) v i is on some idle unused =
    elim (cases_eq stream i) [
      | inl same ↦
          let idle_here : state log stream ≡ Idle =
          subst (λ (j : ℕ). state log j ≡ Idle) (sym same) idle in
          let number : (stream == 0) ≡ false = ne_eqb stream 0 (λ zero. some (sym same ∙ zero)) in
          absurd (on ProtocolError (sym is ∙ rw (number, idle_here) refl))
      | inr other ↦ (refl, refl, rw (ne_eqb stream i other) refl, refl)
    ]
says_nothing log decoded (alone frame) v i is on some idle unused = (refl, refl, refl, refl)

-- An item lessens no greatest number.
greatest_read : (item : Item) (received : List Item)
    → greatest_block received ≤ greatest_block (item ∷ received)
unfolding greatest_block
greatest_read (alone frame) received = omega arith
greatest_read (block i end octets) received = omega arith

-- An item that is read keeps it.
pub read_numbered : (log : Log) (decoded : Option Decoded) (item : Item) (v : Verdict)
    → verdict_by_rules (log_view log) decoded item ≡ v → Continues v → IsNumbered log
    → IsNumbered (read log decoded item)
read_numbered log decoded item v is on f =
    let more = greatest_read item log.received in
    record {
      goaways = one_up _ _ log.sent more f.goaways;
      processed = λ server. let low = f.processed server in omega (arith, low, more);
      odd = λ server. read_odd log decoded item v is on (f.odd server);
      unnamed = f.unnamed;
      unread = λ i some unused.
          let before = unused_before log.role i (item ∷ []) [] log.received log.sent unused in
          let here = says_nothing log decoded item v i is on some (state_idle _ _ _ before) unused
          in
          let was = f.unread i some before in
          record {
            unreset = any_quiet (resets i) item log.received here.1 ∙ was.unreset;
            unended = any_quiet (ends i) item log.received here.0 ∙ was.unended;
            increments = omega (arith, total_one);
            come = omega (arith, total_one (data_on i) item log.received, here.3, was.come);
          };
      released = f.released;
    }
