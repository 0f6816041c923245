-- Once all output was given out and delivered, an end that is up has received all that was sent.
use Rattle.h2_laws_pair.proofs.Names.{◌≡◌, ℕ, not, List, [], ◌++◌, length, take, None, sym, ◌∙◌}
use Rattle.h2_laws_pair.proofs.Names.{arith, append-nil, one_reading_lem, Groups, one_grouping_lem}
use Rattle.h2_laws_pair.proofs.Names.{is_server, frames_by, oldest_first, groups_now, output_read}
use Rattle.h2_laws_pair.proofs.Names.{output_grouped, Half, CarriesOctets}
use Rattle.std.proofs.lemmas.List.{take_all}
use Rattle.h2_laws_end.proofs.Grouped.{items_grouped as log_grouped}
use Rattle.h2_laws_pair.proofs.BothWays.{AreEnds}
use Rattle.h2_laws_pair.proofs.WiderLimits.{wider_limits}
use Rattle.h2_laws_pair.proofs.ItemsRead.{frames_received, newest_before}

-- An end that is up, and has used the whole output of the other.
all_received : (writer reader : Half) → AreEnds writer reader
    → reader.log.input ≡ writer.log.written → reader.log.failed ≡ None
    → oldest_first reader.log.received ≡ oldest_first writer.log.sent
all_received writer reader ends joined up =
    let expects = not (is_server ends.writer_role) in
    let limits = wider_limits reader.log in
    let frames = frames_by writer.log.payloads writer.log.sent in
    let framed = frames_received _ _ reader.log expects ends.opposite ends.reader_log up in
    let all =
    rw (← joined) at (output_read _ _ writer.log limits ends.writer_log (λ place. omega arith)) in
    let one = one_reading_lem expects limits reader.log.input reader.log.frames frames
    reader.log.unparsed [] framed all in
    let groups : Groups frames (oldest_first reader.log.received) reader.log.begun =
    rw (← one.0) (groups_now reader.log (log_grouped _ _ reader.log ends.reader_log) up) in
    (one_grouping_lem frames (oldest_first reader.log.received) (oldest_first writer.log.sent)
    reader.log.begun None groups (output_grouped _ _ writer.log ends.writer_log)).0

-- The whole output came in.
all_used : (input lost incoming written : List ℕ) (given : ℕ) → lost ≡ [] → incoming ≡ []
    → given ≡ length written → input ++ (lost ++ incoming) ≡ take given written → input ≡ written
all_used input lost incoming written given none empty all is =
    sym (append-nil input) ∙ rw (none, empty) at is ∙ take_all given written (omega (arith, all))

-- Once all was given out and delivered, all was received.
pub all_arrived : (writer reader : Half) → AreEnds writer reader → CarriesOctets writer reader
    → reader.log.failed ≡ None → reader.incoming ≡ []
    → writer.log.given ≡ length writer.log.written → reader.log.received ≡ writer.log.sent
all_arrived writer reader ends octets up empty all =
    let same = all_received writer reader ends
    (all_used reader.log.input reader.lost reader.incoming writer.log.written writer.log.given
    (octets.none_lost up) empty all octets.carried) up in
    sym (newest_before writer.log.sent reader.log.received []
    (sym same ∙ sym (append-nil (oldest_first reader.log.received))))
