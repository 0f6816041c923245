-- Where all that an end has written was given out and delivered, the other one, while it is up,
-- holds no octets of a frame that isn't complete.
use Rattle.h2_joined.proofs.Names.{[], ◌++◌, length, take, sym, ◌∙◌, arith, append-nil, subst}
use Rattle.h2_joined.proofs.Names.{take_all, is_server, Half, ◌≡◌, ℕ, List, None}
use Rattle.std.proofs.Common.{not}
use Rattle.h2_wire.specs.Streams.{Frames}
use Rattle.h2_wire.proofs.FaultLemmas.{one_reading_lem}
use Rattle.h2_laws_log.specs.Sending.{frames_by}
use Rattle.h2_laws_end.proofs.OutputPrefixes.{output_read}
use Rattle.h2_laws_pair.specs.Directions.{CarriesOctets}
use Rattle.h2_laws_pair.proofs.BothWays.{AreEnds}
use Rattle.h2_laws_pair.proofs.WiderLimits.{wider_limits}
use Rattle.h2_laws_pair.proofs.ItemsRead.{frames_received}

-- All that was written came in.
came_in : (writer reader : Half) → CarriesOctets writer reader → reader.log.failed ≡ None
    → reader.incoming ≡ [] → writer.log.given ≡ length writer.log.written
    → writer.log.written ≡ reader.log.input
came_in writer reader octets up empty all =
    let first : reader.log.input ++ [] ≡ take writer.log.given writer.log.written = rw
    (octets.none_lost up, empty) at octets.carried in
    sym (take_all _ _ (omega (arith, all))) ∙ sym first ∙ append-nil reader.log.input

-- It is whole frames, and so read.
pub none_unparsed : (writer reader : Half) → AreEnds writer reader → CarriesOctets writer reader
    → reader.log.failed ≡ None → reader.incoming ≡ []
    → writer.log.given ≡ length writer.log.written → reader.log.unparsed ≡ []
none_unparsed writer reader ends octets up empty all =
    let expects = not (is_server ends.writer_role) in
    let limits = wider_limits reader.log in
    let frames = frames_by writer.log.payloads writer.log.sent in
    let written = subst (λ (stream : List ℕ). Frames expects limits stream frames [])
    (came_in writer reader octets up empty all)
    (output_read _ _ writer.log limits ends.writer_log (λ place. omega arith)) in
    (one_reading_lem expects limits reader.log.input reader.log.frames frames reader.log.unparsed []
    (frames_received _ _ reader.log expects ends.opposite ends.reader_log up) written).1
