-- The encoder of a log: what each step makes of it and of what was read.
use Rattle.h2_spec_log.specs.CallRules.{encoder_after_call}
use Rattle.h2_laws_log.proofs.Names
use Names.{EncoderState, after_block, IsValidEncoder, after_limit, limit_preserves, Headers}
use Names.{Settings, Item, alone, block, Event, Act, Answer, Open, SendFields, Number, Done}
use Names.{value_read, value_after, Log, Decoded, read, with_sent, with_reported, ◌≡◌, ℕ, ◌==◌, min}
use Names.{Bool, true, false, if◌then◌else◌, List, [], ◌∷◌, Option, refl, ◌∙◌, arith, block_goes_on}
use Names.{encoder_after_settings, rules}

-- An encoder writes blocks, and its limit is the value that was read last, 4,096 at most.
pub record IsLimited (encoder : EncoderState) (received : List Item) : Type 0 where
  pub writing : IsValidEncoder encoder
  pub limit : encoder.limit ≡ min (value_read 1 4096 received) 4096

-- the same of a log
abbrev pub LogIsLimited : Log → Type 0
LogIsLimited log = IsLimited log.encoder log.received

-- Items that are written change neither.
pub wrote_limited : (log : Log) (items : List Item) → LogIsLimited log
    → LogIsLimited (with_sent log items)
unfolding with_sent
wrote_limited log [] is = is
wrote_limited log (item ∷ items) is = is

-- Nor do events.
pub reports_limited : (log : Log) (events : List Event) → LogIsLimited log
    → LogIsLimited (with_reported log events)
unfolding with_reported
reports_limited log [] is = is
reports_limited log (event ∷ events) is = is

-- Pairs of SETTINGS set the limit, by the test whether a pair names it.
pair_limited : (encoder : EncoderState) (before id value : ℕ) (b : Bool) → IsValidEncoder encoder
    → encoder.limit ≡ min before 4096
    → IsValidEncoder (if b then after_limit encoder (min value 4096) else encoder)
    × ((if b then after_limit encoder (min value 4096) else encoder).limit
    ≡ min (if b then value else before) 4096)
pair_limited encoder before id value true writing is = (
  limit_preserves encoder (min value 4096) (omega arith) writing,
  refl,
)
pair_limited encoder before id value false writing is = (writing, is)

-- Pairs of SETTINGS set the limit.
pub pairs_limited : (encoder : EncoderState) (before : ℕ) (pairs : List (ℕ × ℕ))
    → IsValidEncoder encoder → encoder.limit ≡ min before 4096
    → IsValidEncoder (encoder_after_settings encoder pairs)
    × ((encoder_after_settings encoder pairs).limit ≡ min (value_after 1 before pairs) 4096)
unfolding encoder_after_settings value_after
pairs_limited encoder before [] writing is = (writing, is)
pairs_limited encoder before (pair ∷ pairs) writing is =
    let one = pair_limited encoder before pair.0 pair.1 (pair.0 == 1) writing is in
    pairs_limited (if pair.0 == 1 then after_limit encoder (min pair.1 4096) else encoder)
    (if pair.0 == 1 then pair.1 else before) pairs one.0 one.1

-- An item that is read: SETTINGS set the limit, and nothing else does.
pub read_limited : (log : Log) (decoded : Option Decoded) (item : Item) → LogIsLimited log
    → LogIsLimited (read log decoded item)
unfolding value_read
read_limited log decoded (alone (Settings false pairs)) is =
    let both = pairs_limited _ _ pairs is.writing is.limit in record {
      writing = both.0;
      limit = both.1;
    }
read_limited log decoded (alone (Headers stream end whole fragment pad priority)) is = search rules
read_limited log decoded
    (block stream end octets) is = record { writing = is.writing; limit = is.limit }
read_limited log decoded (alone frame) is = record { writing = is.writing; limit = is.limit }

-- A block that is written leaves an encoder that writes blocks, with its limit.
block_limited : (encoder : EncoderState) (act : Act) (answer : Answer) → IsValidEncoder encoder
    → IsValidEncoder (encoder_after_call encoder act answer)
    × ((encoder_after_call encoder act answer).limit ≡ encoder.limit)
unfolding encoder_after_call after_block
block_limited encoder (Open fields end) (Number id) writing =
    (block_goes_on encoder fields writing, refl)
block_limited encoder (SendFields i fields end) Done writing =
    (block_goes_on encoder fields writing, refl)
block_limited encoder act answer writing = (writing, refl)

-- A call, accepted or refused.
pub call_limited : (encoder : EncoderState) (received : List Item) (act : Act) (answer : Answer)
    → IsLimited encoder received
    → IsLimited (encoder_after_call encoder act answer) received
call_limited encoder received act answer is =
    let both = block_limited encoder act answer is.writing in record {
      writing = both.0;
      limit = both.1 ∙ is.limit;
    }
