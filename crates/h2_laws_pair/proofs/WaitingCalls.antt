-- After a call that is accepted no more output waits than calls and replies make.
use Rattle.std.proofs.Common.{leb-false}
use Rattle.h2_spec_log.specs.Acts.{SendPing, Widen, IsTypedAct}
use Rattle.h2_spec_log.specs.CallRules.{is_full}
use Rattle.h2_spec_log.proofs.SentPayloads.{most_between}
use Rattle.h2_laws_log.proofs.BlockSizes.{block_is_gathered}
use Rattle.h2_laws_log.proofs.CallConditions.{AreFalse}
use Rattle.h2_laws_log.proofs.ItemSizes.{size_of, size-block, size-ping, size-goaway, size-change}
use Rattle.h2_laws_log.proofs.ItemSizes.{size-update}
use Rattle.h2_laws_log.proofs.RulesByTests.{data_size, release_size, count_few}
use Rattle.h2_laws_pair.proofs.Names
use Names.{◌≡◌, ℕ, ◌≤◌, false, length, refl, arith, ltb-false, list_size, block_of, Reset, alone}
use Names.{Act, Open, SendFields, SendData, Release, ResetStream, Refuse, PutOut, ChangeSettings}
use Names.{full_output, max_list, Log, last_processed, waiting, max_payload_sent, log_view}
use Names.{ended_in, conditions, answer_of, items_of, data_count, with_sent, called, Bool, List, []}
use Names.{◌∷◌, nat_lt, Field, block, SendGoAway, Fail}
use Rattle.h2_laws_pair.proofs.WaitingReplies.{is_reply}
use Rattle.h2_laws_pair.proofs.WaitingSteps.{Fits, fits_same, fits_reply, fits_small, has_space}

-- the log with what an accepted call writes
abbrev with_accepted : Log → Act → Log
with_accepted log act =
    with_sent (called log act (answer_of (log_view log) act))
    (items_of (log_view log) act (answer_of (log_view log) act))

-- A payload that is sent may have more octets than a frame's head.
some_octets : (log : Log) → 9 ≤ max_payload_sent log
some_octets log = omega (arith, (most_between log.received).0)

-- A call wrote what an output that isn't full takes.
fits_items : (before : ℕ) (log : Log) (act : Act) → is_full (log_view log) ≡ false
    → size_of (max_payload_sent log) (items_of (log_view log) act (answer_of (log_view log) act))
    ≤ 131113 → Fits before log → Fits before (with_accepted log act)
fits_items before log act space small fits =
    fits_small _ _ _ (has_space log (leb-false full_output (waiting log) space)) small
    (fits_same before log _ refl refl refl refl fits)

-- A field block is no larger.
block_small : (log : Log) (stream : ℕ) (end : Bool) (fields : List Field)
    → nat_lt max_list (list_size fields) ≡ false
    → size_of (max_payload_sent log) (block stream end (block_of log.encoder fields) ∷ []) ≤ 131113
block_small log stream end fields small =
    let few = block_is_gathered log.encoder fields (ltb-false max_list (list_size fields) small) in
    omega (
      arith,
      size-block (max_payload_sent log) stream end (block_of log.encoder fields) (some_octets log),
    )

-- A call was accepted.
pub fits_accepted : (before : ℕ) (log : Log) (act : Act) → IsTypedAct act
    → AreFalse (conditions (log_view log) act) → Fits before log
    → Fits before (with_accepted log act)
unfolding IsTypedAct conditions items_of is_reply with_sent
fits_accepted before log (Open fields end) typed none fits =
    fits_items before log (Open fields end) none.1.1.1.1.0
    (block_small log (log_view log).next_number end fields none.1.1.1.1.1.0) fits
fits_accepted before log (SendFields id fields end) typed none fits =
    fits_items before log (SendFields id fields end) none.1.1.1.0
    (block_small log id end fields none.1.1.1.1.0) fits
fits_accepted before log (SendData id octets end) typed none fits =
    let count : ℕ = data_count (log_view log) ((log_view log).stream id) (length octets) in
    let few = count_few (log_view log) ((log_view log).stream id) (length octets) in
    let small = data_size (max_payload_sent log) id octets end count (some_octets log) in
    fits_items before log (SendData id octets end) none.1.1.1.0 (omega arith) fits
fits_accepted before log (Release id count) typed none fits =
    let ended = ended_in ((log_view log).stream id) in
    fits_items before log (Release id count) none.1.1.0
    (omega (arith, release_size (max_payload_sent log) id count ended)) fits
fits_accepted before log (ResetStream id code) typed none fits =
    fits_reply _ _ (alone (Reset id code)) refl (fits_same before log _ refl refl refl refl fits)
fits_accepted before log (Refuse id code) typed none fits =
    fits_reply _ _ (alone (Reset id code)) refl (fits_same before log _ refl refl refl refl fits)
fits_accepted before log (SendPing octets) typed none fits =
    fits_items before log (SendPing octets) none.1.0
    (omega (arith, size-ping (max_payload_sent log) false octets, typed.0)) fits
fits_accepted before log SendGoAway typed none fits =
    fits_items before log SendGoAway none.1.1.0
    (omega (arith, size-goaway (max_payload_sent log) (last_processed log) 0)) fits
fits_accepted before log (Fail code) typed none fits = fits_same _ _ _ refl refl refl refl fits
fits_accepted before log (PutOut count) typed none fits = fits_same _ _ _ refl refl refl refl fits
fits_accepted before log (ChangeSettings values) typed none fits =
    fits_items before log (ChangeSettings values) none.1.0 (omega (arith, size-change)) fits
fits_accepted before log (Widen count) typed none fits =
    fits_items before log (Widen count) none.1.0
    (omega (arith, size-update (max_payload_sent log) 0 count)) fits
