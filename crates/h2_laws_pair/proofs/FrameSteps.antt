-- What a step of a frame makes of a log: the connection fails, a field block begins or goes on, or
-- an item is read that is no fault of the connection.
use Rattle.h2_laws_pair.proofs.Names.{◌≡◌, ◌⊎◌, inl, inr, ℕ, List, ◌∷◌, ◌++◌, Option, Some, None}
use Rattle.h2_laws_pair.proofs.Names.{refl, ap, ◌∙◌, Code, Item, Begun, Event, Log, log_view}
use Rattle.h2_laws_pair.proofs.Names.{Verdict, ConnectionFault, Decoded, FrameStep, fails_with}
use Rattle.h2_laws_pair.proofs.Names.{begins_block, completes, verdict_of, replies_to, events_of}
use Rattle.h2_laws_pair.proofs.Names.{read, with_sent, with_reported, with_unreturned, with_failure}
use Rattle.h2_laws_pair.proofs.Names.{with_step, grows_wrote, grows_with_unreturned}
use Rattle.h2_spec_log.specs.LogSteps.{with_verdict}
use Rattle.h2_laws_log.proofs.LogHistory.{History, reports_view, wrote_view}
use Rattle.h2_laws_end.proofs.Failures.{sent_failed, reported_failed, unreturned_failed}

-- The step is a fault with this code, or completes an item that is one.
abbrev pub FailsBy : Log → Option Decoded → FrameStep → Code → Type 0
FailsBy log decoded step code = (step ≡ fails_with code) ⊎ ((item : Item)
    × (step ≡ completes item) × (verdict_of (log_view log) decoded item ≡ ConnectionFault code))

-- the log after an item with a verdict: it is replied to, so much credit becomes due, and its
-- events are reported
abbrev pub with_item : Log → Option Decoded → Item → Verdict → ℕ → Log
with_item log decoded item verdict more =
    with_reported (with_unreturned more
    (with_sent (read log decoded item) (replies_to verdict item)))
    (events_of (log_view log) decoded verdict item)

-- What the log after an item has, by the log before.
pub record HasItem (log : Log) (decoded : Option Decoded) (item : Item) (verdict : Verdict)
    (new : Log) : Type 0 where
  pub role : new.role ≡ log.role
  pub received : new.received ≡ item ∷ log.received
  -- what is written after the replies: credit that is returned
  pub due : List Item
  pub sent : new.sent ≡ due ++ (replies_to verdict item ++ log.sent)
  pub reported : new.reported ≡ events_of (log_view log) decoded verdict item ++ log.reported
  pub failed : new.failed ≡ log.failed

pub has_item : (log : Log) (decoded : Option Decoded) (item : Item) (verdict : Verdict) (more : ℕ)
    → HasItem log decoded item verdict (with_item log decoded item verdict more)
has_item log decoded item verdict more =
    let start = read log decoded item in
    let sent = with_sent start (replies_to verdict item) in
    let events = events_of (log_view log) decoded verdict item in
    let wrote = grows_wrote start (replies_to verdict item) in
    let due = grows_with_unreturned more sent in
    let view = reports_view (with_unreturned more sent) events in
    record {
      role = ap (λ (v : History). v.role) view ∙ due.role ∙ wrote.role;
      received = ap (λ (v : History). v.received) view ∙ due.received ∙ wrote.received;
      due = due.items;
      sent = ap (λ (v : History). v.sent) view ∙ due.sent
          ∙ ap (λ (items : List Item). due.items ++ items)
          (ap (λ (v : History). v.sent) (wrote_view start (replies_to verdict item)));
      reported = ap (λ (v : History). v.reported) view
          ∙ ap (λ (reported : List Event). events ++ reported) (due.reported ∙ wrote.reported);
      failed = reported_failed _ events ∙ unreturned_failed more sent ∙ sent_failed start _;
    }

-- What P needs to hold of what this step of a frame makes of a log.
pub record IsKeptByStep (P : Log → Type 0) (log : Log) (decoded : Option Decoded)
    (step : FrameStep) : Type 0 where
  -- the connection fails, with the block that has begun, or none
  pub failed : (begun : Option Begun) (code : Code) (last : ℕ)
      → FailsBy (record log { begun = None }) decoded step code
      → P (with_failure code last (record log { begun = begun }))
  -- a field block begins or goes on
  pub begun : (begun : Begun) → step ≡ begins_block begun → P (record log { begun = Some begun })
  -- an item is read that is no fault of the connection
  pub read : (item : Item) (verdict : Verdict) (more : ℕ) → step ≡ completes item
      → verdict_of (log_view (record log { begun = None })) decoded item ≡ verdict
      → ((code : Code) → verdict ≡ ConnectionFault code → ⊥)
      → P (with_item (record log { begun = None }) decoded item verdict more)

module _ (P : Log → Type 0) (log : Log) (decoded : Option Decoded) where
  -- An item, by its verdict.
  verdict_kept : (step : FrameStep) (item : Item) (verdict : Verdict)
      → IsKeptByStep P log decoded step → step ≡ completes item
      → verdict_of (log_view (record log { begun = None })) decoded item ≡ verdict
      → P (with_verdict (record log { begun = None }) decoded item verdict)
  unfolding with_verdict
  verdict_kept step item (ConnectionFault code) kept same is =
      kept.failed None code _ (inr (item, same, is))
  verdict_kept step item verdict kept same is = kept.read item verdict _ same is (λ other wrong. cc)

  -- A step of a frame.
  pub kept_by_step : (step : FrameStep) → IsKeptByStep P log decoded step
      → P (with_step log decoded step)
  unfolding with_step
  kept_by_step (fails_with code) kept = kept.failed log.begun code _ (inl refl)
  kept_by_step (begins_block begun) kept = kept.begun begun refl
  kept_by_step (completes item) kept = verdict_kept (completes item) item _ kept refl refl
