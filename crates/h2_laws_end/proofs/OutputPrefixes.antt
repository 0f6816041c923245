-- A prefix of what an end has written.
use Rattle.h2_laws_end.proofs.Names.{◌≡◌, ℕ, ◌≤◌, not, List, [], ◌∷◌, ◌++◌, None, arith}
use Rattle.h2_laws_end.proofs.Names.{AllByRecursion, Frame, Limits, Frames, expected_preface, Item}
use Rattle.h2_laws_end.proofs.Names.{Groups, Role, Values, is_server, max_frame_size_sent, Log}
use Rattle.h2_laws_end.proofs.Names.{IsLog, stream_of_log, min, oldest_first, written_by_payloads}
use Rattle.h2_laws_log.specs.Payloads.{encoding_by}
use Rattle.h2_laws_log.specs.Sending.{frames_by}
use Rattle.h2_laws_log.proofs.OutputRead.{items_read_by, items_grouped_by}
use Rattle.h2_laws_end.specs.Prefixes.{IsPrefixOfItems}
use Rattle.h2_laws_end.proofs.ReadPrefixes.{prefix_read}
use Rattle.h2_laws_end.proofs.GroupedPrefixes.{prefix_grouped}
use Rattle.h2_laws_end.proofs.SendableItems.{IsPayload}
use Rattle.h2_laws_end.proofs.SendableCalls.{payloads_may, written_sendable_by}

-- A prefix of octets that are read as frames that group to items.
items_begin : (role : Role) (limits : Limits) (octets more : List ℕ) (frames : List Frame)
    (sent : List Item) → Frames (not (is_server role)) limits (octets ++ more) frames []
    → Groups frames (oldest_first sent) None → IsPrefixOfItems role limits octets sent
items_begin role limits octets more frames sent read groups =
    let prefix = prefix_read (not (is_server role)) limits frames [] octets more read in
    let grouped = prefix_grouped prefix.first prefix.later (oldest_first sent) None
    (rw prefix.frames_are at groups) in
    record {
      frames = prefix.first;
      unparsed = prefix.left;
      items = grouped.first;
      begun = grouped.begun;
      later = grouped.later;
      read = prefix.read;
      groups = grouped.groups;
      first = grouped.items_are;
    }

-- What is written of a log, of its role.
pub written_of : (role : Role) (log : Log) → log.role ≡ role → log.written
    ≡ expected_preface (not (is_server log.role)) ++ encoding_by log.payloads log.sent
    → log.written
    ≡ expected_preface (not (is_server role)) ++ encoding_by log.payloads log.sent
written_of role log same written = rw same at written

-- Greatest payloads that are bounded twice are within the lesser bound.
within_both : (bound other : ℕ) (payloads : List ℕ)
    → AllByRecursion (λ most. most ≤ bound) payloads
    → AllByRecursion (λ most. (16384 ≤ most) × (most ≤ other)) payloads
    → AllByRecursion (λ most. (16384 ≤ most) × (most ≤ min bound other)) payloads
within_both bound other [] within between = tt
within_both bound other (most ∷ payloads) within between =
    let one = within.0 in let both = between.0 in (
      (both.0, omega (arith, one, both.1)),
      within_both bound other payloads within.1 between.1,
    )

-- All that a log has written is read as the frames of its items, each with its greatest payload,
-- where payloads may be read that are as long as all of these.
pub output_read_within : (role : Role) (values : Values) (log : Log) (limits : Limits)
    → IsLog role values log → (bound : ℕ) → AllByRecursion (λ most. most ≤ bound) log.payloads
    → ((place : ℕ) → bound ≤ limits place)
    → Frames (not (is_server role)) limits log.written (frames_by log.payloads log.sent) []
output_read_within role values log limits is bound within high =
    rw (written_of role log (stream_of_log role values log is).role
    (written_by_payloads role values log is).written) (items_read_by _ _ _ _
    log.sent (omega arith) (λ place. omega (arith, high place))
    (within_both bound max_frame_size_sent log.payloads within (payloads_may role values log is))
    (written_sendable_by role values log is))

-- No greatest payload is above the own limit.
within_own : (payloads : List ℕ) → AllByRecursion IsPayload payloads
    → AllByRecursion (λ most. most ≤ max_frame_size_sent) payloads
within_own [] between = tt
within_own (most ∷ payloads) between = ((between.0).1, within_own payloads between.1)

-- So it is where payloads may be read that are as long as the own limit.
pub output_read : (role : Role) (values : Values) (log : Log) (limits : Limits)
    → IsLog role values log → ((place : ℕ) → max_frame_size_sent ≤ limits place)
    → Frames (not (is_server role)) limits log.written (frames_by log.payloads log.sent) []
output_read role values log limits is high =
    output_read_within role values log limits is max_frame_size_sent
    (within_own log.payloads (payloads_may role values log is)) high

-- These frames group to the items.
pub output_grouped : (role : Role) (values : Values) (log : Log) → IsLog role values log
    → Groups (frames_by log.payloads log.sent) (oldest_first log.sent) None
output_grouped role values log is =
    items_grouped_by max_frame_size_sent _ _ (payloads_may _ _ _ is) (written_sendable_by _ _ _ is)

-- A prefix of what a log has written, where payloads may be read that are as long as all of its
-- greatest payloads.
pub output_begins_within : (role : Role) (values : Values) (log : Log) (limits : Limits)
    (octets more : List ℕ) → IsLog role values log → log.written ≡ octets ++ more
    → (bound : ℕ) → AllByRecursion (λ most. most ≤ bound) log.payloads
    → ((place : ℕ) → bound ≤ limits place) → IsPrefixOfItems role limits octets log.sent
output_begins_within role values log limits octets more is joined bound within high =
    items_begin role limits octets more (frames_by log.payloads log.sent) log.sent
    (rw joined at (output_read_within _ _ _ _ is _ within high)) (output_grouped role values log is)

-- So it is where payloads may be read that are as long as the own limit.
pub output_begins : (role : Role) (values : Values) (log : Log) (limits : Limits)
    (octets more : List ℕ) → IsLog role values log → log.written ≡ octets ++ more
    → ((place : ℕ) → max_frame_size_sent ≤ limits place)
    → IsPrefixOfItems role limits octets log.sent
output_begins role values log limits octets more is joined high =
    output_begins_within role values log limits octets more is joined max_frame_size_sent
    (within_own log.payloads (payloads_may role values log is)) high
