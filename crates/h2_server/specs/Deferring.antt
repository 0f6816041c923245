-- Answers that come later than the request: given by a call, or for want of one by the time.
use Rattle.std.specs.Prelude.{◌≡◌, ◌≢◌, ◌&&◌, ◌||◌, ℕ, Bool, true, false, List, Option, Some}
use Rattle.std.specs.Prelude.{None, not, if◌then◌else◌, option_map, Result, Ok, Err}
use Rattle.h2_frame.specs.declared.code.Code.{Code}
use Rattle.h2_server.specs.declared.deferring.ExchangeRefusal.{ExchangeRefusal}
use Rattle.h2_server.specs.declared.deferring.ExchangeRefusal.TheVariants as refusals
use Rattle.h2_server.specs.declared.exchange.Exchange.{Exchange}
use Rattle.h2_server.specs.declared.exchange.Stage.TheVariants as stages
use Rattle.h2_server.specs.declared.handler.Reply.{Reply}
use Rattle.h2_server.specs.declared.handler.Reply.TheVariants as replies
use Rattle.h2_server.specs.Activity.{has_answer}
use Rattle.h2_server.specs.Deadlines.{is_late}
use Rattle.h2_server.specs.Exchanges.{Handling, Kept, SetsKept, exchange_at}
use Rattle.h2_server.specs.Stages.{is_part_later, refused_after, stage_after, stage_reset}

-- the status of a request whose answer was deferred for too long
abbrev pub gateway_timeout : ℕ
gateway_timeout = 504

-- Whether an answer is waited for: the request is whole, and none was given.
abbrev pub is_deferred : {W : Type 0} → Kept W → Bool
is_deferred kept = kept.whole && not (has_answer kept.stage)

-- Whether its handler, or whoever drives the connection, has still to give an answer to a whole
-- request, or had no part of one when it was asked.
abbrev pub is_pending : {W : Type 0} → Kept W → Bool
is_pending kept = is_deferred kept || is_part_later kept.stage

abbrev pub is_pending_at : {W : Type 0} → Option (Kept W) → Bool
is_pending_at (Some kept) = is_pending kept
is_pending_at None = false

-- Whether some exchange is.
abbrev pub IsPending : {W : Type 0} → List (ℕ × Exchange W) → Bool → Type 0
IsPending entries true = (id : ℕ) × (is_pending_at (exchange_at id entries) ≡ true)
IsPending entries false = (id : ℕ) → id ≢ 0 → is_pending_at (exchange_at id entries) ≡ false

-- Whether an answer is given by it, or a reset.
abbrev pub is_response : Reply → Bool
is_response replies.Later = false
is_response replies.Deferred = false
is_response reply = true

-- what is kept once this answer was given by a call: the same as if the handler had given it
-- rule: handlers (own) An answer that was deferred is given by a call, once
abbrev pub kept_answered : {W : Type 0} → Kept W → Reply → Kept W
kept_answered kept reply = record kept {
  refused = refused_after kept.refused kept.stage (Ok reply);
  stage = stage_after kept.whole kept.stage (Ok reply);
}

-- what is kept once a reset was asked for by a call
abbrev pub kept_reset : {W : Type 0} → Kept W → Code → Kept W
kept_reset kept code = record kept { stage = stage_reset kept.stage code }

-- What is kept of the exchange on a stream, if there is one, has changed so; its handler is as it
-- was, and of each other stream the same is kept.
pub record Alters {H W : Type 0} (id : ℕ) (change : Kept W → Kept W) (old new : Handling H W)
    : Type 0 where
  pub handler : new.handler ≡ old.handler
  pub now : SetsKept id (option_map change (exchange_at id old.entries)) old.entries new.entries

-- There is an exchange, and no answer was given.
abbrev pub IsUnanswered : {W : Type 0} → Option (Kept W) → Type 0
IsUnanswered {W} at = (kept : Kept W) × (at ≡ Some kept) × (has_answer kept.stage ≡ false)

-- Why an answer was not accepted: it is none, there is no exchange on the stream, or it has one
-- already.
abbrev pub IsExchangeRefused : {W : Type 0} → ExchangeRefusal → Reply → Option (Kept W) → Type 0
IsExchangeRefused refusals.NoResponse reply at = is_response reply ≡ false
IsExchangeRefused refusals.Over reply at = at ≡ None
IsExchangeRefused {W} refusals.Answered reply at =
    (kept : Kept W) × (at ≡ Some kept) × (has_answer kept.stage ≡ true)

-- An answer was given by a call, where none was given before; or nothing has changed.
-- rule: handlers (own) An answer that was deferred is given by a call, once
abbrev pub RespondsBy : {H W : Type 0} → (id : ℕ) → Reply → (old : Handling H W)
    → Result (Unit {0}) ExchangeRefusal → (new : Handling H W) → Type 0
RespondsBy id reply old (Ok done) new =
    (is_response reply ≡ true) × IsUnanswered (exchange_at id old.entries)
    × Alters id (λ kept. kept_answered kept reply) old new
RespondsBy id reply old (Err refusal) new =
    (new ≡ old) × IsExchangeRefused refusal reply (exchange_at id old.entries)

-- A reset was asked for by a call, of an exchange that there is; or nothing has changed.
abbrev pub ResetsBy : {H W : Type 0} → (id : ℕ) → Code → (old : Handling H W)
    → Result (Unit {0}) ExchangeRefusal → (new : Handling H W) → Type 0
ResetsBy id code old (Ok done) new =
    (exchange_at id old.entries ≢ None) × Alters id (λ kept. kept_reset kept code) old new
ResetsBy id code old (Err refusal) new =
    (new ≡ old) × (refusal ≡ refusals.Over) × (exchange_at id old.entries ≡ None)

-- what is kept at a time of an answer that is waited for: since when it is; and once that is so
-- long ago, status 504 is to be the answer
-- rule: handlers (own) An answer that was deferred for too long is status 504
abbrev pub kept_waiting : {W : Type 0} → (limit now : ℕ) → Kept W → (since : Option ℕ) → Kept W
kept_waiting limit now kept None = record kept { since = Some now }
kept_waiting limit now kept (Some at) =
    if is_late (Some at) limit now then record kept { stage = stages.Fails gateway_timeout }
    else kept

-- The same of each exchange: of one whose answer is not waited for nothing changes.
abbrev pub kept_in_time : {W : Type 0} → (limit now : ℕ) → Kept W → Kept W
kept_in_time limit now kept =
    if is_deferred kept then kept_waiting limit now kept kept.since else kept

-- Whether status 504 is to be the answer at this time.
abbrev pub is_expired : {W : Type 0} → (limit now : ℕ) → Kept W → Bool
is_expired limit now kept = is_deferred kept && is_late kept.since limit now

abbrev pub is_expired_at : {W : Type 0} → (limit now : ℕ) → Option (Kept W) → Bool
is_expired_at limit now (Some kept) = is_expired limit now kept
is_expired_at limit now None = false

abbrev pub NoneExpires : {W : Type 0} → (limit now : ℕ) → List (ℕ × Exchange W) → Type 0
NoneExpires limit now entries =
    (id : ℕ) → id ≢ 0 → is_expired_at limit now (exchange_at id entries) ≡ false

-- Time has passed for each exchange.
pub record ExpiresEach {H W : Type 0} (limit now : ℕ) (old new : Handling H W) : Type 0 where
  pub handler : new.handler ≡ old.handler
  pub each : (id : ℕ) → id ≢ 0 → exchange_at id new.entries
      ≡ option_map (kept_in_time limit now) (exchange_at id old.entries)
