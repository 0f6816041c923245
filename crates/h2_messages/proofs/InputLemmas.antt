-- An input is handed to an end piece by piece, and what that prints.
use Rattle.std.proofs.Common.{◌≡◌, ◌≢◌, ℕ, List, [], ◌∷◌, ◌++◌, take, drop, Option, Some}
use Rattle.std.proofs.Common.{None, Result, Ok, Err, IfOk, IfSome, IsOk, refl, sym, ap, subst}
use Rattle.std.proofs.Common.{append-nil, arith, slice_index, ◌/◌, ◌%◌}
use Rattle.std.proofs.KnownBytes.{Appends-trans, Appends-nil, Appends-kept, Consumes-trans}
use Rattle.std.proofs.KnownBytes.{Consumes-whole}
use Rattle.std.proofs.lemmas.Grind.{common_steps}
use Rattle.std.specs.Io.KnownBytes.{Appends, Consumes, IsAtEnd, Keeps}
use Rattle.std.specs.Io.Buffered.{writer_buffer, writer_contents, writer_inner}
use Rattle.std.specs.declared.io.buffered.BufWriter.{BufWriter}
use Rattle.hex.specs.Hex.{decode_of, encode_lower, encode_with, lower_digits}
use Rattle.h2_cli.specs.Hexadecimal.{without_blanks}
use Rattle.h2_frame.specs.declared.code.Code.{Code}
use Rattle.h2_frame.specs.declared.code.Code.TheVariants.{InternalError}
use Rattle.h2_flow.specs.declared.config.Config.{Config}
use Rattle.h2_flow.specs.ConfigValues.{values_of}
use Rattle.h2_spec_log.specs.declared.role.Role.{Role}
use Rattle.h2_spec_log.specs.Acts.{Values}
use Rattle.h2_spec_log.specs.LogCalls.{opened}
use Rattle.h2_spec_log.specs.LogSteps.{with_sent}
use Rattle.h2_conn.specs.declared.why.Why.{Why}
use Rattle.h2_conn.specs.Why.{IsWhy}
use Rattle.h2_show.specs.declared.show.Lent.{Lent}
use Rattle.h2_show.proofs.InputLemmas.{buffered, lent_appended, lent_contents}
use Rattle.h2_laws_end.proofs.TakeAnswers.{log_after_take}
use Rattle.h2_ends.specs.declared.end.End.{End}
use Rattle.h2_ends.specs.Ends.{EndLog, Handed, EndTook, EndFailed}
use Rattle.h2_ends.specs.EndTakes.{EndMayTake, fails, hands_nothing, passes, hands_out, refuses}
use Rattle.h2_ends.specs.EndTakes.{refusal_fails, runs_out_of_memory}
use Rattle.h2_ends.specs.Represents.{EndRepresents, new_end_log}
use Rattle.h2_events.specs.Replayer.{first_values}
use Rattle.h2_events.specs.Report.{replay_status}
use Rattle.h2_events.proofs.ReplayLemmas.{values_first}
use Rattle.h2_messages.specs.declared.end.MessageEnd.{MessageEnd}
use Rattle.h2_messages.specs.declared.messages.Replayed.{Replayed}
use Rattle.h2_messages.specs.Messages.{TakesMessages, is_done, goes_on, has_fault}
use Rattle.h2_messages.specs.Messages.{PrintsMessages, begins, takes}
use Rattle.h2_messages.specs.Messages.{MessagesReport, MessagesOfOctets}
use Rattle.h2_messages.specs.Messages.{MessagesOfText, fault_lines, output_line}
use Rattle.h2_messages.specs.Taking.{MessageEndRepresents, TakesGivenPiece}

-- A call that the connection doesn't fail in leaves it up.
took_up : (end next : EndLog) (piece : List ℕ) (count : ℕ) (handed : Option Handed)
    → EndMayTake end piece (EndTook count handed) next → next.log.failed ≡ None
took_up end next piece count handed (fails code log may is after_is) = absurd (not is)
  where
    not : EndTook count handed ≡ EndFailed code → ⊥
    not is = cc
took_up end next piece count handed (hands_nothing used log may is after_is) =
    let (octets, unused, split, size, input, reported, up) =
    log_after_take end.log log piece _ may in rw after_is up
took_up end next piece count handed (passes used event log may none is after_is) =
    let (octets, unused, split, size, input, reported, up) =
    log_after_take end.log log piece _ may in rw after_is up
took_up end next piece count handed
    (hands_out used event log may id part some readable is after_is) =
    let (octets, unused, split, size, input, reported, up) =
    log_after_take end.log log piece _ may in rw after_is up
took_up end next piece count handed
    (refuses used event log may id part some not answer refused up is after_is) = rw after_is up
took_up end next piece count handed
    (refusal_fails used event log may id part some not answer refused code failed is after_is) =
    absurd (took_not is)
  where
    took_not : EndTook count handed ≡ EndFailed code → ⊥
    took_not is = cc
took_up end next piece count handed
    (runs_out_of_memory used id list ends log may server first readable refused answers is _) =
    absurd (took_not is)
  where
    took_not : EndTook count handed ≡ EndFailed InternalError → ⊥
    took_not is = cc

-- In one that it fails in, for another code than that of an end without memory, it has that code.
failed_with : (end next : EndLog) (piece : List ℕ) (code : Code)
    → EndMayTake end piece (EndFailed code) next → code ≢ InternalError
    → next.log.failed ≡ Some code
failed_with end next piece code (fails other log may is after_is) theirs =
    let (octets, unused, split, input, reported, failed) =
    log_after_take end.log log piece _ may in
    let same : code ≡ other = cc in
    rw (after_is, same) failed
failed_with end next piece code (hands_nothing used log may is after_is) theirs = absurd (cc)
failed_with end next piece code (passes used event log may none is after_is) theirs = absurd (cc)
failed_with end next piece code (hands_out used event log may id part some readable is after_is)
    theirs = absurd (cc)
failed_with end next piece code
    (refuses used event log may id part some not answer refused up is after_is) theirs = absurd (cc)
failed_with end next piece code
    (refusal_fails used event log may id part some not answer refused other failed is after_is)
    theirs =
    let same : code ≡ other = cc in
    rw (after_is, same) failed
failed_with end next piece code
    (runs_out_of_memory used id list ends log may server first readable refused answers is after_is)
    theirs = absurd (theirs (cc))

-- So it is after a piece.
up_after : {end after : EndLog} (piece lines : List ℕ) → TakesMessages end piece None lines after
    → after.log.failed ≡ None
up_after piece _ (is_done _ may) = took_up _ _ _ _ _ may
up_after piece _ (goes_on _ count handed _ lines may again more) =
    up_after (drop count piece) lines more

failed_after : {end after : EndLog} (piece lines : List ℕ) (code : Code)
    → TakesMessages end piece (Some code) lines after → code ≢ InternalError
    → after.log.failed ≡ Some code
failed_after piece _ code (goes_on _ count handed _ lines may again more) theirs =
    failed_after (drop count piece) lines code more theirs
failed_after piece _ code (has_fault _ _ may) theirs = failed_with _ _ _ code may theirs

-- An end to which the octets were handed, and whose lines were written.
pub record HasPrinted (role : Role) (octets lines : List ℕ) (one : MessageEnd) : Type 0 where
  pub happened : EndLog
  pub prints : PrintsMessages role octets lines happened
  pub up : happened.log.failed ≡ None
  pub represents : MessageEndRepresents one happened

-- a new end
pub printed_none : (role : Role) (one : MessageEnd)
    → MessageEndRepresents one (new_end_log role first_values)
    → HasPrinted role [] [] one
unfolding opened with_sent
printed_none role one represents =
    record {
      happened = new_end_log role first_values;
      prints = begins;
      up = refl;
      represents = represents;
    }

-- a piece more, with the lines that were written of it
pub record PrintsMore (role : Role) (octets lines piece : List ℕ) (one : MessageEnd)
    (before after : Option (List ℕ)) : Type 0 where
  pub more : List ℕ
  pub prints : HasPrinted role (octets ++ piece) (lines ++ more) one
  pub written : Appends before after more

pub printed_more : (role : Role) (octets lines piece : List ℕ) (old new : MessageEnd)
    (before after : Option (List ℕ)) → HasPrinted role octets lines old
    → TakesGivenPiece old piece None new before after
    → PrintsMore role octets lines piece new before after
printed_more role octets lines piece old new before after so_far takes_it =
    let next = takes_it so_far.happened so_far.represents in
    record {
      more = next.lines;
      prints = record {
        happened = next.next;
        prints = takes so_far.prints piece next.lines next.takes;
        up = up_after piece next.lines next.takes;
        represents = next.represents;
      };
      written = next.written;
    }

-- What is reported of known octets, with the lines that were written.
pub record Reported (role : Role) (octets : List ℕ) (fault : Option Code) (why : Option Why)
    (before after : Option (List ℕ)) : Type 0 where
  pub lines : List ℕ
  pub report : MessagesReport role octets fault why lines
  pub written : Appends before after lines

-- at the end of the octets
pub reported_all : (role : Role) (octets lines : List ℕ) (one : MessageEnd)
    (before after : Option (List ℕ)) → HasPrinted role octets lines one
    → Appends before after lines → Reported role octets None None before after
reported_all role octets lines one before after so_far written =
    record {
      lines = lines;
      report = (
        refl,
        record { end = so_far.happened; prints = so_far.prints; up = so_far.up },
      );
      written = written;
    }

-- where the connection fails in a piece, whatever follows
pub reported_fault : (role : Role) (octets lines piece unread : List ℕ) (old new : MessageEnd)
    (code : Code) (why : Option Why) (before middle after : Option (List ℕ))
    → HasPrinted role octets lines old → Appends before middle lines
    → TakesGivenPiece old piece (Some code) new middle after → code ≢ InternalError
    → ((end : EndLog) → MessageEndRepresents new end → IsWhy first_values end.log why)
    → Reported role ((octets ++ piece) ++ unread) (Some code) why before after
reported_fault role octets lines piece unread old new code why before middle after so_far written
    takes_it theirs because =
    let next = takes_it so_far.happened so_far.represents in
    record {
      lines = lines ++ next.lines;
      report = record {
        taken = octets;
        piece = piece;
        unread = unread;
        split = refl;
        end = so_far.happened;
        after = next.next;
        first = lines;
        last = next.lines;
        prints = so_far.prints;
        fails = next.takes;
        all = refl;
        failed = failed_after piece next.lines code next.takes theirs;
        theirs = theirs;
        reason = because next.next next.represents;
      };
      written = Appends-trans before middle after lines next.lines written next.written;
    }

-- the same of the octets that a reader had, at its end
pub end_reported : (role : Role) (octets lines : List ℕ) (one : MessageEnd)
    (had middle has : Option (List ℕ)) (buffer : List ℕ) (count : ℕ)
    (before after : Option (List ℕ)) → Consumes had middle octets
    → Consumes middle has (take count buffer) → count ≡ 0 → IsAtEnd has
    → HasPrinted role octets lines one → Appends before after lines
    → IfSome had (λ all. (printed : List ℕ) × MessagesReport role all None None printed
    × Appends before after printed)
end_reported role octets lines one had middle has buffer count before after first none zero at_end
    so_far written =
    let all : Consumes had has octets = subst (Consumes had has) (append-nil octets)
    (Consumes-trans had middle has octets [] first
    (subst (λ (n : ℕ). Consumes middle has (take n buffer)) zero none)) in
    let said = reported_all role octets lines one before after so_far written in
    Consumes-whole had has octets (λ given. (printed : List ℕ)
    × MessagesReport role given None None printed × Appends before after printed) all at_end
    (said.lines, said.report, said.written)

-- and where the connection fails in a piece
pub fault_reported : (role : Role) (octets lines piece : List ℕ) (old new : MessageEnd)
    (code : Code) (why : Option Why) (had has before middle after : Option (List ℕ))
    → Consumes had has (octets ++ piece) → HasPrinted role octets lines old
    → Appends before middle lines → TakesGivenPiece old piece (Some code) new middle after
    → code ≢ InternalError
    → ((end : EndLog) → MessageEndRepresents new end → IsWhy first_values end.log why)
    → IfSome had (λ all. (printed : List ℕ) × MessagesReport role all (Some code) why printed
    × Appends before after printed)
fault_reported role octets lines piece old new code why None has before middle after read so_far
    written takes_it theirs because = tt
fault_reported role octets lines piece old new code why (Some all) None before middle after read
    so_far written takes_it theirs because = absurd read
fault_reported role octets lines piece old new code why (Some all) (Some unread) before middle after
    read so_far written takes_it theirs because =
    let said = reported_fault role octets lines piece unread old new code why before middle after
    so_far written takes_it theirs because in (
      said.lines,
      subst (λ (given : List ℕ). MessagesReport role given (Some code) why said.lines) (sym read)
          said.report,
      said.written,
    )

-- the whole output: the lines, that of the fault, and that of the output
whole_output : (role : Role) (octets : List ℕ) (fault : Option Code) (why : Option Why)
    (lines put_out : List ℕ) → MessagesReport role octets fault why lines
    → MessagesOfOctets role octets (replay_status fault) why
    (lines ++ (fault_lines fault ++ output_line put_out))
whole_output role octets None why lines put_out report =
    record { lines = lines; put_out = put_out; report = report; all = refl }
whole_output role octets (Some code) why lines put_out report =
    (code, record { lines = lines; put_out = put_out; report = report; all = refl })

-- octets that were handed to a new end all at once
pub piece_told : (role : Role) (old new : MessageEnd) (octets : List ℕ)
    (before after : Option (List ℕ)) → MessageEndRepresents old (new_end_log role first_values)
    → TakesGivenPiece old octets None new before after
    → (printed : List ℕ) × MessagesReport role octets None None printed
    × Appends before after printed
piece_told role old new octets before after starts takes_it =
    let more = printed_more role [] [] octets old new before after
    (printed_none role old starts) takes_it in
    let said = reported_all role octets more.more new before after more.prints more.written in
    (said.lines, said.report, said.written)

-- and in which it fails
pub piece_fails_told : (role : Role) (old new : MessageEnd) (octets : List ℕ) (code : Code)
    (why : Option Why) (before after : Option (List ℕ))
    → MessageEndRepresents old (new_end_log role first_values)
    → TakesGivenPiece old octets (Some code) new before after → code ≢ InternalError
    → ((end : EndLog) → MessageEndRepresents new end → IsWhy first_values end.log why)
    → (printed : List ℕ) × MessagesReport role octets (Some code) why printed
    × Appends before after printed
piece_fails_told role old new octets code why before after starts takes_it theirs because =
    let said = reported_fault role [] [] octets [] old new code why before before after
    (printed_none role old starts) (Appends-nil before) takes_it theirs because in (
      said.lines,
      subst (λ (given : List ℕ). MessagesReport role given (Some code) why said.lines)
          (append-nil octets) said.report,
      said.written,
    )

-- what a result says of octets
pub octets_told : {E : Type 0} (role : Role) (octets : List ℕ) (fault : Option Code)
    (why : Option Why) (before middle after : Option (List ℕ)) (result : Result Replayed E)
    → (printed : List ℕ) × MessagesReport role octets fault why printed
    × Appends before middle printed
    → IfOk result (λ one. one.status ≡ replay_status fault)
    → IfOk result (λ one. one.why ≡ why)
    → IfOk result (λ one. (put_out : List ℕ) × Appends middle after
    (fault_lines fault ++ output_line put_out))
    → IfOk result (λ one. (output : List ℕ)
    × MessagesOfOctets role octets one.status one.why output × Appends before after output)
octets_told role octets fault why before middle after (Err error) report status reason written = tt
octets_told role octets fault why before middle after (Ok one) report status reason written = (
  report.0 ++ (fault_lines fault ++ output_line written.0),
  rw (status, reason) (whole_output role octets fault why report.0 written.0 report.1),
  Appends-trans before middle after _ _ report.2 written.1,
)

-- the same of the octets that a reader had
pub reader_told : {E : Type 0} (role : Role) (had : Option (List ℕ)) (fault : Option Code)
    (why : Option Why) (before middle after : Option (List ℕ)) (result : Result Replayed E)
    → IfSome had (λ octets. (printed : List ℕ) × MessagesReport role octets fault why printed
    × Appends before middle printed)
    → IfOk result (λ one. one.status ≡ replay_status fault)
    → IfOk result (λ one. one.why ≡ why)
    → IfOk result (λ one. (put_out : List ℕ) × Appends middle after
    (fault_lines fault ++ output_line put_out))
    → IfOk result (λ one. IfSome had (λ octets. (output : List ℕ)
    × MessagesOfOctets role octets one.status one.why output × Appends before after output))
reader_told role had fault why before middle after (Err error) report status reason written = tt
reader_told role None fault why before middle after (Ok one) report status reason written = tt
reader_told {E = E} role (Some octets) fault why before middle after (Ok one) report status reason
    written =
    octets_told {E = E} role octets fault why before middle after (Ok one) report status reason
    written

-- the same of text that gives octets
pub text_told : {E : Type 0} (role : Role) (had : Option (List ℕ)) (octets : List ℕ)
    (before after : Option (List ℕ)) (result : Result Replayed E)
    → IfSome had (λ text. decode_of (without_blanks text) ≡ Ok octets)
    → IfOk result (λ one. (output : List ℕ)
    × MessagesOfOctets role octets one.status one.why output × Appends before after output)
    → IfOk result (λ one. IfSome had (λ text. (output : List ℕ)
    × MessagesOfText role text one.status one.why output × Appends before after output))
text_told role had octets before after (Err error) decoded told = tt
text_told role None octets before after (Ok one) decoded told = tt
text_told role (Some text) octets before after (Ok one) decoded told =
    (told.0, (octets, decoded, told.1), told.2)

-- lines that are appended stay so where a flush keeps what is known
pub kept_told : {E : Type 0} (P : List ℕ → Replayed → List ℕ → Type 0)
    (had before middle after : Option (List ℕ)) (result : Result Replayed E)
    → IfOk result (λ one. IfSome had (λ given. (output : List ℕ) × P given one output
    × Appends before middle output))
    → Keeps middle after
    → IfOk result (λ one. IfSome had (λ given. (output : List ℕ) × P given one output
    × Appends before after output))
kept_told P had before middle after result told same = grind (arith, common_steps, Appends-kept)

-- what a buffer over a lent writer has taken, all of it written, the writer has
pub lent_told : {W A E : Type 0} (contents : W → Option (List ℕ))
    (P : List ℕ → Replayed → List ℕ → Type 0) (had : Option (List ℕ))
    (first last : BufWriter (Lent W) A) (old_lent new_lent : Lent W) (start final : W)
    (result : Result Replayed E)
    → IfOk result (λ one. IfSome had (λ given. (output : List ℕ) × P given one output
    × Appends (writer_contents (lent_contents contents) first)
    (writer_contents (lent_contents contents) last) output))
    → writer_inner first ≡ old_lent → writer_buffer first ≡ [] → old_lent.out.now ≡ start
    → writer_inner last ≡ new_lent → (IsOk result → writer_buffer last ≡ [])
    → (new_lent.out.ghost_name ≡ old_lent.out.ghost_name → final ≡ new_lent.out.now)
    → IfOk result (λ one. IfSome had (λ given. (output : List ℕ) × P given one output
    × Appends (contents start) (contents final) output))
lent_told contents P had first last old_lent new_lent start final result told one two three four
    five six = grind (arith, common_steps, buffered, lent_appended)

-- the digits of octets that are put out in several parts
pub digits_append : (first more : List ℕ)
    → encode_lower first ++ encode_lower more ≡ encode_lower (first ++ more)
unfolding encode_with
digits_append [] more = refl
digits_append (octet ∷ first) more =
    ap (λ (digits : List ℕ). slice_index lower_digits (octet / 16)
    ∷ slice_index lower_digits (octet % 16) ∷ digits) (digits_append first more)

-- a new end, by the values of the default configuration
pub new_represents : (role : Role) (config : Config) (end : End)
    → (config.table_limit ≡ 4096) × (config.initial_window ≡ 65535)
    × (config.max_streams ≡ 100) × (config.max_frame ≡ 16384)
    → EndRepresents (values_of config) end (new_end_log role (values_of config))
    → EndRepresents first_values end (new_end_log role first_values)
new_represents role config end (table, window, streams, frame) represents =
    subst (λ (values : Values). EndRepresents values end (new_end_log role values))
    (values_first config table window streams frame) represents
