-- What is made of one call of `take`.
use Rattle.std.proofs.Common.{◌≡◌, ◌≢◌, ◌⊎◌, ℕ, List, ◌++◌, Option, Some, None}
use Rattle.std.proofs.Common.{Ok, Err, refl, ap, ◌∙◌, subst, append-nil}
use Rattle.std.proofs.Common.{inl, inr}
use Rattle.std.proofs.KnownBytes.{Appends-trans, Appends-nil}
use Rattle.std.specs.Io.KnownBytes.{Appends}
use Rattle.std.specs.Option.{option_map}
use Rattle.h2_frame.specs.declared.code.Code.{Code}
use Rattle.h2_frame.specs.declared.code.Code.TheVariants as codes
use Rattle.h2_cli.specs.declared.failure.Failure.TheVariants as failures
use Rattle.h2_conn.specs.declared.taken.ConnFault.{ConnFault}
use Rattle.h2_conn.specs.Counts.{last_flow}
use Rattle.h2_ends.specs.declared.end.End.{End}
use Rattle.h2_ends.specs.declared.event.EndTaken.{EndTaken}
use Rattle.h2_ends.specs.Ends.{EndLog, Handed, EndTook}
use Rattle.h2_ends.specs.EndTakes.{EndMayTake}
use Rattle.h2_ends.specs.Loans.{event_handed}
use Rattle.h2_ends.specs.Represents.{EndTakes}
use Rattle.h2_events.specs.Replayer.{first_values}
use Rattle.h2_messages.specs.declared.end.MessageEnd.{MessageEnd}
use Rattle.h2_messages.specs.declared.handing.Handing.{Handing}
use Rattle.h2_messages.specs.declared.handing.Handing.TheVariants as handings
use Rattle.h2_messages.specs.declared.parts.Unwritten.{Unwritten}
use Rattle.h2_messages.specs.declared.taking.TakeError.TheVariants as errors
use Rattle.h2_messages.specs.Rules.{RefusedPart, refused_in, refusal_lines}
use Rattle.h2_messages.specs.PartLines.{call_lines, handed_lines, lent_lines, unwritten_lines}
use Rattle.h2_messages.specs.PartLines.{unwritten_of}
use Rattle.h2_messages.specs.Taking.{CallsTake, HandsOut, MessageEndRepresents, SaysHands}
use Rattle.h2_messages.specs.Taking.{inner_end}
use Rattle.h2_messages.specs.Taking.{error_of_code, hands_in, taken_of, unwritten_in}
use Rattle.h2_messages.proofs.PartLemmas.{both_lines, none_refused, refused_or_not, says_some}

-- the call has used octets, and what it lends is written
pub hands_took : (old new : End) (piece : List ℕ) (taken : EndTaken) (later : Unwritten)
    (before after : Option (List ℕ))
    → later ≡ unwritten_of (option_map event_handed taken.event)
    → Appends before after (lent_lines (option_map event_handed taken.event))
    → EndTakes old piece (Ok taken) new
    → HandsOut old piece (handings.Took taken.used later) new before after
hands_took old new piece taken later before after is written takes end represents =
    let (next, may, now) = takes first_values end represents in
    record {
      next = next;
      handed = option_map event_handed taken.event;
      may = may;
      leaves = is;
      represents = now;
      written = written;
    }

-- the connection has failed in the call
pub hands_fault : (old new : End) (piece : List ℕ) (fault : ConnFault) (before : Option (List ℕ))
    → EndTakes old piece (Err fault) new
    → HandsOut old piece (handings.Failed fault.code) new before before
hands_fault old new piece fault before takes end represents =
    let (next, may, now) = takes first_values end represents in
    record {
      next = next;
      handed = None;
      may = may;
      leaves = refl;
      represents = now;
      written = Appends-nil before;
    }

-- the lines of a call, as they are written
lines_of_call : (end next : EndLog) (piece : List ℕ) (count : ℕ) (handed : Option Handed)
    → EndMayTake end piece (EndTook count handed) next
    → (lent_lines handed ++ refusal_lines (refused_in end.malformed next.malformed))
    ++ unwritten_lines (last_flow next.log.frames) (unwritten_of handed)
    ≡ call_lines end next handed
lines_of_call end next piece count handed may =
    elim (refused_or_not end next piece count handed may) [
      | inl same ↦
          let none : refused_in end.malformed next.malformed ≡ None =
          none_refused end.malformed next.malformed same in
          rw none (ap (λ (lent : List ℕ). lent ++ unwritten_lines (last_flow next.log.frames)
          (unwritten_of handed)) (append-nil (lent_lines handed))
          ∙ both_lines (last_flow next.log.frames) handed)
      | inr none ↦
          let rest = both_lines (last_flow next.log.frames) handed in
          let alone : unwritten_lines (last_flow next.log.frames) (unwritten_of handed)
          ≡ handed_lines (last_flow next.log.frames) handed = rw none at rest in
          rw none (ap (λ (more : List ℕ). refusal_lines (refused_in end.malformed next.malformed)
          ++ more) alone)
    ]

-- What is answered says whether something was handed out.
says_hands : (used : ℕ) (later : Unwritten) (handed : Option Handed)
    → later ≡ unwritten_of handed
    → SaysHands (record { used = used; hands = hands_in later }) handed
says_hands used later None is = ap hands_in is
says_hands used later (Some handed) is = ap hands_in is ∙ says_some handed

-- how a code ends the input
error_of : (code : Code) → (error_of_code code ≡ errors.Failed failures.Memory)
    ⊎ ((error_of_code code ≡ errors.Fault code) × (code ≢ codes.InternalError))
error_of codes.InternalError = inl refl
error_of codes.NoError = inr (refl, λ is. cc)
error_of codes.ProtocolError = inr (refl, λ is. cc)
error_of codes.FlowControlError = inr (refl, λ is. cc)
error_of codes.SettingsTimeout = inr (refl, λ is. cc)
error_of codes.StreamClosed = inr (refl, λ is. cc)
error_of codes.FrameSizeError = inr (refl, λ is. cc)
error_of codes.RefusedStream = inr (refl, λ is. cc)
error_of codes.Cancel = inr (refl, λ is. cc)
error_of codes.CompressionError = inr (refl, λ is. cc)
error_of codes.ConnectError = inr (refl, λ is. cc)
error_of codes.EnhanceYourCalm = inr (refl, λ is. cc)
error_of codes.InadequateSecurity = inr (refl, λ is. cc)
error_of codes.Http11Required = inr (refl, λ is. cc)

memory_is_not : failures.Memory ≢ failures.BadHex
memory_is_not is = cc

-- so much is known of an end while the lines of a call are written
pub record KnownAt (new : MessageEnd) (last : Option RefusedPart) (flow : ℕ) : Type 0 where
  pub malformed : (end : EndLog) → MessageEndRepresents new end → last ≡ end.malformed
  pub flows : (end : EndLog) → MessageEndRepresents new end → flow ≡ last_flow end.log.frames

-- a call, all lines of which are written
pub calls_take : (old new : MessageEnd) (piece : List ℕ) (handing : Handing)
    (start one two ended : Option (List ℕ)) (before after : Option RefusedPart) (flow : ℕ)
    → ((end : EndLog) → MessageEndRepresents old end → before ≡ end.malformed)
    → KnownAt new after flow
    → HandsOut (inner_end old) piece handing (inner_end new) start one
    → Appends one two (refusal_lines (refused_in before after))
    → Appends two ended (unwritten_lines flow (unwritten_in handing))
    → CallsTake old piece (taken_of handing) new start ended
calls_take old new piece (handings.Took used later) start one two ended before after flow was now
    hands refusal more = λ end represents.
    let call = hands end represents in
    let lines = Appends-trans start two ended _ _
    (Appends-trans start one two _ _ call.written refusal) more in
    record {
      next = call.next;
      handed = call.handed;
      may = call.may;
      says = says_hands used later call.handed call.leaves;
      represents = call.represents;
      written = subst (λ (text : List ℕ). Appends start ended text)
          (rw (
            was end represents,
            now.malformed call.next call.represents,
            now.flows call.next call.represents,
            call.leaves,
          )
          (lines_of_call end call.next piece used call.handed call.may)) lines;
    }
calls_take old new piece (handings.Failed code) start one two ended before after flow was now hands
    refusal more = elim (error_of code) [
      | inl memory ↦ rw memory memory_is_not
      | inr fault ↦
          rw fault.0 (
            λ end represents.
                let call = hands end represents in
                let lines = Appends-trans start two ended _ _
                (Appends-trans start one two _ _ call.written refusal) more in
                record {
                  next = call.next;
                  may = call.may;
                  represents = call.represents;
                  written = subst (λ (text : List ℕ). Appends start ended text)
                      (rw (was end represents, now.malformed call.next call.represents, call.leaves)
                      refl) lines;
                },
            fault.1,
          )
    ]
