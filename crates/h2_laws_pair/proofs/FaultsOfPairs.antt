-- Neither end of an undisturbed pair faults.
use Rattle.std.proofs.lemmas.List.Elements.{Contains-append_right}
use Rattle.h2_laws_pair.specs.Undisturbed.{IsFaultless}
use Rattle.h2_laws_pair.proofs.Names
use Names.{◌≡◌, ◌≢◌, ℕ, not, true, false, List, [], ◌∷◌, ◌++◌, drop, Option, None, refl, sym, ◌∙◌}
use Names.{append_assoc, both_ways, Frame, Reset, alone, Role, Client, Server, Values}
use Names.{AllowedHistory, Event, ResetEvent, max_frame_size_sent, is_server, peer_of, Log, waiting}
use Names.{output, log_view, used, with_sent, with_frame, took_none, opened, Decoded, FrameStep}
use Names.{fails_with, begins_block, completes, frame_step, IsDecodedIn, stream_of_log, IsSendable}
use Names.{written_is_allowed, lists_accepted, written_sendable, uses_part, ends_frame, meets_fault}
use Names.{runs_out_of_memory, reports_unprocessed, is_called, MachineStep, MayStep, log_after}
use Names.{Half, HalfStep, calls, takes, loses, IsPair, begins, client_steps, server_steps}
use Names.{octets_used, IsUndisturbedStep, IsUndisturbed}
use Rattle.h2_laws_pair.proofs.PairLogs.{other_same}
use Rattle.h2_laws_pair.proofs.StepsOfLogs.{IsNoCall}
use Rattle.h2_laws_pair.proofs.BothWays.{IsDirection, to_server, to_client, ends_of, back_of}
use Rattle.h2_laws_pair.proofs.CarriedOctets.{carried}
use Rattle.h2_laws_pair.proofs.CarriedItems.{way_of}
use Rattle.h2_laws_pair.proofs.NamedUnprocessed.{log_named}
use Rattle.h2_laws_pair.proofs.WaitingBound.{waiting_is_bounded}
use Rattle.h2_laws_pair.proofs.TablesOfPairs.{in_step, tables_of}
use Rattle.h2_laws_pair.proofs.Lists.{all_older, one_of_all}
use Rattle.h2_laws_pair.proofs.TablesWritten.{IsEncodable}
use Rattle.h2_laws_pair.proofs.TablesLists.{lists_of_log}
use Rattle.h2_laws_pair.proofs.FaultsInvariant.{IsAsked, IsHeard, LogIsClean, clean_unreturned}
use Rattle.h2_laws_pair.proofs.FaultsInvariant.{clean_reported}
use Rattle.h2_laws_pair.proofs.FaultsOfCalls.{call_clean}
use Rattle.h2_laws_pair.proofs.FaultsOfWire.{octets_joined, no_wire_fault, next_frame}
use Rattle.h2_laws_pair.proofs.FaultsOfGrouping.{IsNextStep, step_is_next}
use Rattle.h2_laws_pair.proofs.FaultsOfItems.{item_decodable, item_sound}
use Rattle.h2_laws_pair.proofs.FaultsOfReads.{IsSoundStep, step_clean}

-- Opposite roles are each other's peers.
peers : (role other : Role) → is_server other ≡ not (is_server role) → other ≡ peer_of role
peers Client Server opposite = refl
peers Server Client opposite = refl
peers Client Client opposite = absurd (both_ways false refl opposite)
peers Server Server opposite = absurd (both_ways true opposite refl)

-- An end that has used octets, with a frame more.
abbrev with_one : (log : Log) (octets : List ℕ) (frame : Frame) → Log
with_one log octets frame = record (used log octets []) { frames = log.frames ++ frame ∷ [] }

-- A step that is the next one is no fault.
step_sound : (writer reader : Half) → IsDirection writer reader → reader.log.failed ≡ None
    → (octets : List ℕ) (frame : Frame) (decoded : Option Decoded) (step : FrameStep)
    → IsNextStep writer.log reader.log step → IsDecodedIn reader.log decoded step
    → IsSoundStep (with_one reader.log octets frame) decoded step
unfolding used waiting output
step_sound writer reader is up octets frame decoded (fails_with code) next sees = next
step_sound writer reader is up octets frame decoded (begins_block begun) next sees = tt
step_sound writer reader is up octets frame decoded (completes item) (newer, line) sees =
    let ends = ends_of writer reader is in
    let back = way_of reader writer (back_of writer reader is) in
    let reader_role = (stream_of_log _ _ reader.log ends.reader_log).role in
    let decodable = item_decodable writer.log reader.log newer item decoded
    (λ fields here. (one_of_all IsEncodable (lists_accepted writer.log.calls) fields
    (lists_of_log _ _ writer.log ends.writer_log) here).small)
    (tables_of writer reader (newer ++ item ∷ []) is (line ∙ sym (append_assoc newer _ _))) sees in
    let history : AllowedHistory reader.log.role reader.log.received reader.log.sent = rw
    reader_role (written_is_allowed _ _ reader.log ends.reader_log) in
    let ready = record (with_one reader.log octets frame) { begun = None } in (
      item_sound ends.writer_role writer.log ready newer back.0 item decoded
          (written_is_allowed _ _ writer.log ends.writer_log) line back.1
          (reader_role ∙ peers ends.writer_role ends.reader_role ends.opposite) history
          (in_step writer reader is).awaited (log_named _ _ reader.log ends.reader_log) decodable,
      (all_older (IsSendable max_frame_size_sent) newer (item ∷ reader.log.received)
          (rw line at (written_sendable _ _ writer.log ends.writer_log))).0,
      waiting_is_bounded reader writer (back_of writer reader is) up,
    )

-- A stream that is named unprocessed is no reset.
unprocessed_clean : (log : Log) → LogIsClean log → LogIsClean (took_none log)
unfolding IsHeard
unprocessed_clean log clean = clean_reported _ _ (tt, tt) (clean_unreturned _ log clean)

-- The octets that come next begin what is left of the output.
joined_next : (writer reader : Half) → IsDirection writer reader → reader.log.failed ≡ None
    → (octets rest : List ℕ) → reader.incoming ≡ octets ++ rest
    → writer.log.written ≡ (reader.log.input ++ octets) ++ (rest ++ drop writer.log.given
    writer.log.written)
joined_next writer reader is up octets rest came =
    let carries = carried writer reader is in
    octets_joined _ _ _ _ _ _ writer.log.given (carries.none_lost up) came carries.carried

-- A step of the reader that takes octets, or reports a stream.
takes_clean : (writer reader : Half) → IsDirection writer reader
    → (step : MachineStep) (rest : List ℕ)
    → MayStep reader.log step → IsNoCall step → reader.incoming ≡ octets_used step ++ rest
    → ((octets : List ℕ) → step ≢ runs_out_of_memory octets) → LogIsClean reader.log
    → LogIsClean (log_after reader.log step)
unfolding MayStep log_after used with_frame frame_step
takes_clean writer reader is (uses_part octets unparsed) rest may none came calm clean = clean
takes_clean writer reader is (ends_frame octets frame decoded) rest (up, read, sees) none came calm
    clean =
    let ends = ends_of _ _ is in
    let next = next_frame _ _ _ _ _ ends (joined_next _ _ is clean.up _ _ came) read in
    let step = frame_step (log_view reader.log) frame in
    step_clean _ _ _ (step_sound _ _ is clean.up _ _ _ _
    (step_is_next _ _ _ _ _ _ _ ends.writer_log ends.reader_log clean.up next) sees) clean
takes_clean writer reader is (meets_fault octets fault) rest (up, at) none came calm clean =
    absurd (no_wire_fault _ _ _ _ _ is clean.up (joined_next _ _ is clean.up _ _ came) at)
takes_clean writer reader is (runs_out_of_memory octets) rest may none came calm clean =
    absurd (calm octets refl)
takes_clean writer reader is reports_unprocessed rest may none came calm clean =
    unprocessed_clean reader.log clean
takes_clean writer reader is (is_called act answer) rest may none came calm clean =
    absurd (none act answer refl)

-- Any step of the reader.
half_clean : (writer reader : Half) {new_reader new_writer : Half} → IsDirection writer reader
    → (step : HalfStep reader writer new_reader new_writer)
    → IsUndisturbedStep reader writer step → LogIsClean reader.log → LogIsClean new_reader.log
unfolding IsUndisturbedStep
half_clean writer reader is (calls act answer typed may) (memory, up) clean =
    call_clean reader.log act answer may memory up clean
half_clean writer reader is (takes step rest may none came) calm clean =
    takes_clean writer reader is step rest may none came calm clean
half_clean writer reader is (loses octets rest failed came) calm clean = clean

-- A new end is without faults.
opened_clean : (role : Role) (values : Values) → LogIsClean (opened role values)
unfolding opened with_sent IsAsked
opened_clean role values = record { up = refl; heard = tt; asked = (tt, tt) }

-- Both ends of a pair are.
pub record AreClean (client server : Half) : Type 0 where
  pub client_clean : LogIsClean client.log
  pub server_clean : LogIsClean server.log

-- Every undisturbed pair.
pub pair_clean : (client_values server_values : Values) (client server : Half)
    (pair : IsPair client_values server_values client server) → IsUndisturbed pair
    → AreClean client server
unfolding IsUndisturbed
pair_clean client_values server_values _ _ (begins in_range others_in_range) calm = record {
  client_clean = opened_clean Client client_values;
  server_clean = opened_clean Server server_values;
}
pair_clean client_values server_values _ _
    (client_steps {client = client} {server = server} is step) (before, now) =
    let clean = pair_clean client_values server_values client server is before in
    record {
      client_clean = half_clean server client (to_client is) step now clean.client_clean;
      server_clean = other_same client server step LogIsClean clean.server_clean;
    }
pair_clean client_values server_values _ _
    (server_steps {client = client} {server = server} is step) (before, now) =
    let clean = pair_clean client_values server_values client server is before in
    record {
      client_clean = other_same server client step LogIsClean clean.client_clean;
      server_clean = half_clean client server (to_server is) step now clean.server_clean;
    }

-- An end without faults reports none, since the other has sent what it has received.
faultless_of : (writer reader : Half) → IsDirection writer reader → LogIsClean writer.log
    → LogIsClean reader.log → IsFaultless reader.log writer.log
unfolding IsHeard IsAsked
faultless_of writer reader is writer_clean clean =
    let way = way_of writer reader is in
    let heard = λ (event : Event).
    one_of_all (IsHeard reader.log.received) reader.log.reported event clean.heard in
    record {
      up = clean.up;
      no_stream_fault = λ id code. heard (ResetEvent id code true);
      asked = λ id code here.
          one_of_all (IsAsked writer.log.calls) writer.log.sent (alone (Reset id code))
          writer_clean.asked (rw way.1 (Contains-append_right way.0 reader.log.received _
          (heard (ResetEvent id code false) here)));
    }

-- Neither end faults.
pub faultless_client : (client_values server_values : Values) (client server : Half)
    (pair : IsPair client_values server_values client server) → IsUndisturbed pair
    → IsFaultless client.log server.log
faultless_client client_values server_values client server pair calm =
    let clean = pair_clean client_values server_values client server pair calm in
    faultless_of server client (to_client pair) clean.server_clean clean.client_clean

pub faultless_server : (client_values server_values : Values) (client server : Half)
    (pair : IsPair client_values server_values client server) → IsUndisturbed pair
    → IsFaultless server.log client.log
faultless_server client_values server_values client server pair calm =
    let clean = pair_clean client_values server_values client server pair calm in
    faultless_of client server (to_server pair) clean.client_clean clean.server_clean
