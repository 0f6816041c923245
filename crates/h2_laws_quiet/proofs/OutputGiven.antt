-- Where an end has received all that the other has sent, all output of that was given out and
-- delivered; and a call that puts out as much as it may gives out all.
use Rattle.std.proofs.Common.{◌≡◌, ◌≢◌, inl, inr, ℕ, ◌+◌, ◌-◌, ◌≤◌, not, Bool, true, false, List}
use Rattle.std.proofs.Common.{[], ◌∷◌, ◌++◌, length, drop, min, None, refl, sym, ap, ◌∙◌, arith}
use Rattle.std.proofs.Common.{append_assoc, length-append, length-take, if◌then◌else◌}
use Rattle.std.proofs.lemmas.List.{nil_from_length, take-append-drop}
use Rattle.h2_frame.specs.Frames.{WindowUpdate}
use Rattle.h2_wire.specs.Streams.{expected_preface}
use Rattle.h2_block.specs.Grouping.{Item, alone}
use Rattle.h2_spec_log.specs.declared.role.Role.{Role}
use Rattle.h2_spec_log.specs.Acts.{Values, PutOut, Count}
use Rattle.h2_spec_log.specs.Allowed.{AllowedHistory, starts, reads, writes}
use Rattle.h2_spec_log.specs.CallRules.{returns_before_put_out, update_size}
use Rattle.h2_spec_log.specs.Histories.{IsLog}
use Rattle.h2_spec_log.specs.Items.{encoding_of_items}
use Rattle.h2_spec_log.specs.Log.{Log, max_payload_sent}
unfoldable use Rattle.h2_spec_log.specs.Log.{waiting, output}
use Rattle.h2_spec_log.specs.LogCalls.{MayAnswer, accepts, refuses, lacks, fails, called}
use Rattle.h2_spec_log.specs.LogCalls.{before_put_out}
unfoldable use Rattle.h2_spec_log.specs.LogCalls.{with_call}
unfoldable use Rattle.h2_spec_log.specs.LogSteps.{with_sent}
use Rattle.h2_spec_log.specs.LogView.{log_view}
use Rattle.h2_spec_log.specs.Settings.{is_server}
use Rattle.h2_spec_log.proofs.StreamLemmas.{stream_of_log}
use Rattle.h2_laws_log.specs.Payloads.{encoding_by}
use Rattle.h2_laws_log.proofs.CreditCases.{put_out_cases}
use Rattle.h2_laws_log.proofs.InvariantLogs.{written_is_allowed}
use Rattle.h2_laws_log.proofs.ItemSizes.{size_by, size-update}
use Rattle.h2_laws_log.proofs.PayloadsOfLogs.{written_by_payloads}
use Rattle.h2_laws_machine.proofs.BoundedLogs.{few_wait}
use Rattle.h2_laws_pair.specs.Pairs.{Half}
use Rattle.h2_laws_pair.proofs.BothWays.{IsDirection, ends_of}
use Rattle.h2_laws_pair.proofs.CarriedOctets.{carried}
use Rattle.h2_laws_pair.proofs.StepsOfLogs.{given_within}
use Rattle.h2_laws_pair.proofs.WaitingCarried.{received_lie}

-- An end has sent something: its SETTINGS at least.
some_sent : (role : Role) (received sent : List Item) → AllowedHistory role received sent
    → sent ≢ []
some_sent role _ _ (starts values ok) none = cc
some_sent role _ sent (reads {received = received} item history) none =
    some_sent role received sent history none
some_sent role received _ (writes {sent = sent} item history allowed) none = cc

-- Numbers that are given and are no fewer than all.
all_of : (given used lost incoming all : ℕ) → given ≤ all → lost ≡ 0
    → used + (lost + incoming) ≡ min given all → all ≤ used → (given ≡ all) × (incoming ≡ 0)
all_of given used lost incoming all within none sum most =
    (omega (arith, within, none, sum, most), omega (arith, within, none, sum, most))

no_payloads : (news olds : List ℕ) → length news ≡ 0 → news ++ olds ≡ olds
no_payloads [] olds none = refl
no_payloads (most ∷ news) olds none = absurd (omega (arith, none))

-- The same items with the same greatest payloads take as many octets.
same_sizes : (role other : Role) (payloads others : List ℕ) (sent received : List Item) (used : ℕ)
    → role ≡ other → payloads ≡ others → sent ≡ received
    → length (expected_preface (not (is_server other))) + size_by others received ≤ used
    → length (expected_preface (not (is_server role))) + size_by payloads sent ≤ used
same_sizes role other payloads others sent received used own paid same fits =
    rw (own, paid, same) fits

-- What an end has used by then is all that the other has written.
all_used : (writer reader : Half) → IsDirection writer reader → reader.log.failed ≡ None
    → writer.log.sent ≡ reader.log.received
    → length writer.log.written ≤ length reader.log.input
all_used writer reader is up same =
    let ends = ends_of writer reader is in
    let octets = carried writer reader is in
    let later = drop writer.log.given writer.log.written in
    let joined : writer.log.written ≡ reader.log.input ++ ((reader.lost ++ reader.incoming)
    ++ later) = sym (take-append-drop writer.log.given writer.log.written)
    ∙ ap (λ (front : List ℕ). front ++ later) (sym octets.carried)
    ∙ append_assoc reader.log.input (reader.lost ++ reader.incoming) later in
    let lie = received_lie writer reader ((reader.lost ++ reader.incoming) ++ later) [] ends same
    joined up in
    let by = written_by_payloads ends.writer_role ends.writer_values writer.log ends.writer_log in
    let all : writer.log.payloads ≡ lie.olds =
    lie.paid ∙ no_payloads lie.news lie.olds lie.each_one in
    let role = (stream_of_log ends.writer_role ends.writer_values writer.log ends.writer_log).role
    in
    elim lie.within [
      | inl none ↦ absurd (some_sent ends.writer_role writer.log.received writer.log.sent
          (written_is_allowed ends.writer_role ends.writer_values writer.log ends.writer_log)
          (same ∙ none))
      | inr fits ↦
          let sum = ap length by.written in
          let parts = length-append (expected_preface (not (is_server writer.log.role)))
          (encoding_by writer.log.payloads writer.log.sent) in
          let fits_all = same_sizes writer.log.role ends.writer_role writer.log.payloads lie.olds
          writer.log.sent reader.log.received (length reader.log.input) role all same fits in
          omega (arith, sum, parts, fits_all)
    ]

-- So it was given out and delivered.
pub all_given : (writer reader : Half) → IsDirection writer reader → reader.log.failed ≡ None
    → writer.log.sent ≡ reader.log.received
    → (writer.log.given ≡ length writer.log.written) × (reader.incoming ≡ [])
all_given writer reader is up same =
    let ends = ends_of writer reader is in
    let octets = carried writer reader is in
    let sum = ap length octets.carried in
    let one = length-append reader.log.input (reader.lost ++ reader.incoming) in
    let two = length-append reader.lost reader.incoming in
    let most = length-take writer.log.given writer.log.written in
    let both = all_of writer.log.given (length reader.log.input) (length reader.lost)
    (length reader.incoming) (length writer.log.written)
    (given_within ends.writer_role ends.writer_values writer.log ends.writer_log)
    (ap length (octets.none_lost up)) (omega (arith, sum, one, two, most))
    (all_used writer reader is up same) in
    (both.0, nil_from_length reader.incoming both.1)

-- As many octets wait as were written and not given out.
pub waits_as : (log : Log) (n : ℕ) → log.given + n ≡ length log.written → waiting log ≡ n
unfolding waiting output
waits_as log n all = omega (arith, all)

-- Credit that is returned first makes the output longer by one WINDOW_UPDATE.
returned_size : (log : Log) (returns : Bool) → returns_before_put_out (log_view log) ≡ returns
    → length (before_put_out log).written
    ≡ length log.written + (if returns then update_size else 0)
unfolding with_sent
returned_size log returns test =
    put_out_cases (λ (next : Log). length next.written ≡ length log.written
    + (if returns then update_size else 0)) log (λ does.
    let update = alone (WindowUpdate 0 log.unreturned) ∷ [] in
    let size : length (encoding_of_items (max_payload_sent log) update) ≡ 13 = size-update _ 0 _ in
    rw (← test, does) (omega (
      arith,
      length-append log.written (encoding_of_items (max_payload_sent log) update),
      size,
    ))) (λ keeps. rw (← test, keeps) (omega arith))

answered : (log : Log) (count given : ℕ) → MayAnswer log (PutOut count) (Count given)
    → given ≡ min count
    (waiting log + (if returns_before_put_out (log_view log) then update_size else 0))
answered log count given (accepts none is) = cc
answered log count given (refuses refusal some is) = cc
answered log count given (lacks none may is) = cc
answered log count given (fails none may is) = cc

at_most : (test : Bool) → (if test then update_size else 0) ≤ 13
at_most true = omega arith
at_most false = omega arith

sums : (before given written more count all : ℕ) → all ≡ written + more → before ≤ written
    → written - before ≤ 262161 → more ≤ 13 → 262174 ≤ count
    → given ≡ min count ((written - before) + more) → before + given ≡ all
sums before given written more count all size within few update many put =
    omega (arith, size, within, few, update, many, put)

-- A call that may put out 262,174 octets or more puts out all.
pub all_put_out : (role : Role) (values : Values) (log : Log) (count given : ℕ)
    → IsLog role values log → 262174 ≤ count → MayAnswer log (PutOut count) (Count given)
    → (with_call log (PutOut count) (Count given)).given
    ≡ length (with_call log (PutOut count) (Count given)).written
unfolding with_call waiting output
all_put_out role values log count given is many may =
    let size : length (before_put_out (called log (PutOut count) (Count given))).written
    ≡ length log.written + (if returns_before_put_out (log_view log) then update_size else 0) =
    returned_size (called log (PutOut count) (Count given)) _ refl in
    let few : length log.written - log.given ≤ 262161 = few_wait role values log is in
    let more : (if returns_before_put_out (log_view log) then update_size else 0) ≤ 13 =
    at_most (returns_before_put_out (log_view log)) in
    let put : given ≡ min count ((length log.written - log.given)
    + (if returns_before_put_out (log_view log) then update_size else 0)) =
    answered log count given may in
    let all : log.given + given
    ≡ length (before_put_out (called log (PutOut count) (Count given))).written =
    sums log.given given (length log.written)
    (if returns_before_put_out (log_view log) then update_size else 0) count _ size
    (given_within role values log is) few more many put in
    all
