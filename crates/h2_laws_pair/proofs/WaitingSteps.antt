-- How much output of one end waits: what calls add before it is full, and replies.
use Rattle.h2_laws_pair.proofs.Names.{◌≡◌, ℕ, ◌+◌, ◌≤◌, ◌<◌, true, List, [], ◌∷◌, length, refl}
use Rattle.h2_laws_pair.proofs.Names.{arith, length-append, WindowUpdate, Item, alone, full_output}
use Rattle.h2_laws_pair.proofs.Names.{Log, output, waiting, max_payload_sent, with_sent}
use Rattle.h2_spec_log.specs.LogSteps.{with_credit_returned}
use Rattle.h2_laws_log.proofs.ItemSizes.{size_of, size_by, size_by-more, size-update}
use Rattle.h2_laws_pair.proofs.WaitingReplies.{is_reply, reply_size, replies_left, replies_fall}

-- what calls may add to an output that isn't full, and what waits then
abbrev pub most_of_calls : ℕ
most_of_calls = 65535 + 131113

-- The output has so many octets, and the items; and what waits is at most what calls make of an
-- output that isn't full, and replies.
pub record Fits (before : ℕ) (log : Log) : Type 0 where
  pub written : length log.written ≡ before + size_by log.payloads log.sent
  pub waits : before + size_by log.payloads log.sent
      ≤ log.given + (most_of_calls + replies_left before log.given log.payloads log.sent)

-- A log with the same output.
pub fits_same : (before : ℕ) (old new : Log) → new.written ≡ old.written → new.sent ≡ old.sent
    → new.payloads ≡ old.payloads → new.given ≡ old.given → Fits before old → Fits before new
fits_same before old new written sent payloads given fits = record {
  written = rw (written, sent, payloads) fits.written;
  waits = rw (sent, payloads, given) fits.waits;
}

-- The octets that are added where items are sent.
sent_length : (before : ℕ) (log : Log) (items : List Item) → Fits before log
    → length (with_sent log items).written
    ≡ before + size_by (with_sent log items).payloads (with_sent log items).sent
unfolding with_sent
sent_length before log [] fits = fits.written
sent_length before log (item ∷ items) fits =
    let size = size_by-more (max_payload_sent log) (item ∷ items) log.sent log.payloads in
    omega (arith, length-append {A = ℕ})

-- A reply is sent.
pub fits_reply : (before : ℕ) (log : Log) (item : Item) → is_reply item ≡ true → Fits before log
    → Fits before (with_sent log (item ∷ []))
unfolding with_sent
fits_reply before log item is fits =
    let most = max_payload_sent log in
    let all : reply_size most item ≡ size_of most (item ∷ []) = rw is refl in
    record {
      written = sent_length before log (item ∷ []) fits;
      waits = omega (arith, size_by-more most (item ∷ []) log.sent log.payloads);
    }

-- Where less than the full output waits.
pub has_space : (log : Log) → waiting log < full_output
    → length log.written < log.given + full_output
unfolding waiting output
has_space log space = omega (arith, space)

-- Items are sent where the output isn't full.
pub fits_small : (before : ℕ) (log : Log) (items : List Item)
    → length log.written < log.given + full_output → size_of (max_payload_sent log) items ≤ 131113
    → Fits before log → Fits before (with_sent log items)
unfolding with_sent
fits_small before log [] space small fits = fits
fits_small before log (item ∷ items) space small fits =
    let size = size_by-more (max_payload_sent log) (item ∷ items) log.sent log.payloads in
    record { written = sent_length before log (item ∷ items) fits; waits = omega arith }

-- Credit is returned where the output isn't full.
pub fits_returned : (before : ℕ) (log : Log) → waiting log < full_output → Fits before log
    → Fits before (with_credit_returned log)
fits_returned before log space fits =
    fits_small before (record log { unreturned = 0 }) (alone (WindowUpdate 0 log.unreturned) ∷ [])
    (has_space log space) (omega (arith, size-update (max_payload_sent log) 0 log.unreturned))
    (fits_same before log (record log { unreturned = 0 }) refl refl refl refl fits)

-- Output is given out.
pub fits_given : (before : ℕ) (log : Log) (more : ℕ) → Fits before log
    → Fits before (record log { given = log.given + more })
fits_given before log more fits = record {
  written = fits.written;
  waits = omega (arith, replies_fall before log.given more log.payloads log.sent);
}
