-- A piece is handed to an end call by call.
use Rattle.std.proofs.Common.{◌≡◌, ◌≢◌, ◌⊎◌, ℕ, ◌+◌, ◌≤◌, ◌<◌, true, false}
use Rattle.std.proofs.Common.{List, [], ◌++◌, length, drop, Option, Some, None, Result, Ok, Err}
use Rattle.std.proofs.Common.{refl, sym, ◌∙◌, subst, append_assoc, inl, inr, arith}
use Rattle.std.proofs.Common.{length-drop, IfErr, IsErrAnd}
use Rattle.std.proofs.KnownBytes.{Appends-trans, Appends-nil, Appends-kept}
use Rattle.std.proofs.lemmas.List.{take_rest, drop-drop}
use Rattle.std.proofs.lemmas.Bool.{false≢true}
use Rattle.std.specs.Io.KnownBytes.{Appends, Keeps}
use Rattle.h2_frame.specs.declared.code.Code.{Code}
use Rattle.h2_ends.specs.Ends.{Handed, EndTook, EndFailed, EndAnswer}
use Rattle.h2_ends.specs.EndTakes.{EndMayTake}
use Rattle.h2_events.proofs.TakeLemmas.{left}
use Rattle.h2_messages.specs.declared.end.MessageEnd.{MessageEnd}
use Rattle.h2_messages.specs.declared.taking.TakeError.{TakeError}
use Rattle.h2_messages.specs.declared.taking.TakeError.TheVariants as errors
use Rattle.h2_messages.specs.declared.taking.Taken.{Taken}
use Rattle.h2_messages.specs.Messages.{TakesMessages, is_done, goes_on, has_fault}
use Rattle.h2_messages.specs.PartLines.{call_lines}
use Rattle.h2_messages.specs.Taking.{CallsTake, SaysHands, TakesBeginning, TakesGivenPiece}
use Rattle.h2_messages.specs.Taking.{TakeErrorReports}

-- before the first call
pub takes_none : (end : MessageEnd) (piece : List ℕ) (start : Option (List ℕ))
    → TakesBeginning end piece 0 end start start
takes_none one piece start end represents =
    record {
      between = end;
      first = [];
      represents = represents;
      written = Appends-nil start;
      continues = λ fault more next takes. takes;
    }

-- a call is followed by another one: something was handed out, or octets remain
called_again : (piece : List ℕ) (done : ℕ) (taken : Taken) (handed : Option Handed)
    → done ≤ length piece → taken.used ≤ length (left piece done) → SaysHands taken handed
    → (taken.hands ≡ true) ⊎ (done + taken.used ≢ length piece)
    → (taken.used < length (drop done piece)) ⊎ (handed ≢ None)
called_again piece done taken (Some handed) within unused says again = inr (λ none. cc)
called_again piece done taken None within unused says (inl hands) =
    absurd (false≢true (sym says ∙ hands))
called_again piece done taken None within unused says (inr other) =
    let unused_length : taken.used ≤ length (drop done piece) = rw take_rest at unused in
    inl (simp length-drop (omega (arith, other, simp length-drop at unused_length)))

-- the lines of what was taken, of a call and of what follows
in_order : (first one more : List ℕ) → first ++ (one ++ more) ≡ (first ++ one) ++ more
in_order first one more = simp append_assoc

-- after a call
pub takes_more : (old now new : MessageEnd) (piece : List ℕ) (done : ℕ) (taken : Taken)
    (start middle ended : Option (List ℕ)) → done ≤ length piece
    → taken.used ≤ length (left piece done)
    → (taken.hands ≡ true) ⊎ (done + taken.used ≢ length piece)
    → TakesBeginning old piece done now start middle
    → CallsTake now (left piece done) (Ok taken) new middle ended
    → TakesBeginning old piece (done + taken.used) new start ended
takes_more old now new piece done taken start middle ended within unused again before call end
    represents =
    let so_far = before end represents in
    let one = call so_far.between so_far.represents in
    let may : EndMayTake so_far.between (drop done piece) (EndTook taken.used one.handed) one.next =
    subst (λ (octets : List ℕ). EndMayTake so_far.between octets (EndTook taken.used one.handed)
    one.next) (take_rest piece done) one.may in
    let lines = call_lines so_far.between one.next one.handed in
    record {
      between = one.next;
      first = so_far.first ++ lines;
      represents = one.represents;
      written = Appends-trans start middle ended so_far.first lines so_far.written one.written;
      continues = λ fault more next takes.
          subst (λ (text : List ℕ). TakesMessages end piece fault text next)
          (in_order so_far.first lines more)
          (so_far.continues fault (lines ++ more) next (goes_on (drop done piece) taken.used
          one.handed fault more may
          (called_again piece done taken one.handed within unused one.says again)
          (subst (λ (octets : List ℕ). TakesMessages one.next octets fault more next)
          (sym (drop-drop taken.used done piece)) takes)));
    }

-- once the piece was used and nothing is handed out
pub takes_all : (old now new : MessageEnd) (piece : List ℕ) (done : ℕ) (taken : Taken)
    (start middle ended : Option (List ℕ)) → done ≤ length piece
    → taken.hands ≡ false → done + taken.used ≡ length piece
    → TakesBeginning old piece done now start middle
    → CallsTake now (left piece done) (Ok taken) new middle ended
    → TakesGivenPiece old piece None new start ended
takes_all old now new piece done taken start middle ended within quiet same before call end
    represents =
    let so_far = before end represents in
    let one = call so_far.between so_far.represents in
    let count : taken.used ≡ length (drop done piece) =
    simp length-drop (omega (arith, same, within)) in
    let none : one.handed ≡ None = silent one.handed one.says quiet in
    let whole : EndMayTake so_far.between (drop done piece) (EndTook taken.used one.handed)
    one.next = subst (λ (octets : List ℕ). EndMayTake so_far.between octets (EndTook taken.used one.handed)
    one.next) (take_rest piece done) one.may in
    let may : EndMayTake so_far.between (drop done piece) (EndTook (length (drop done piece)) None)
    one.next =
    subst (λ (answer : EndAnswer). EndMayTake so_far.between (drop done piece) answer one.next)
    (rw (count, none) refl) whole in
    let lines = call_lines so_far.between one.next None in
    record {
      next = one.next;
      lines = so_far.first ++ lines;
      takes = so_far.continues None lines one.next (is_done (drop done piece) may);
      represents = one.represents;
      written = Appends-trans start middle ended so_far.first lines so_far.written
          (subst (λ (handed : Option Handed). Appends middle ended (call_lines so_far.between
          one.next handed)) none one.written);
    }
  where
    silent : (handed : Option Handed) → SaysHands taken handed → taken.hands ≡ false
        → handed ≡ None
    silent None says quiet = refl
    silent (Some handed) says quiet = absurd (false≢true (sym quiet ∙ says))

-- a flush keeps what is written
pub takes_kept : (old new : MessageEnd) (piece : List ℕ) (fault : Option Code)
    (start middle ended : Option (List ℕ)) → TakesGivenPiece old piece fault new start middle
    → Keeps middle ended → TakesGivenPiece old piece fault new start ended
takes_kept old new piece fault start middle ended takes kept end represents =
    let one = takes end represents in
    record {
      next = one.next;
      lines = one.lines;
      takes = one.takes;
      represents = one.represents;
      written = Appends-kept start middle ended one.lines one.written kept;
    }

-- where the connection fails, or a call can't be made or written
pub takes_fault : (old now new : MessageEnd) (piece : List ℕ) (done : ℕ) (error : TakeError)
    (start middle ended : Option (List ℕ)) → TakesBeginning old piece done now start middle
    → CallsTake now (left piece done) (Err error) new middle ended
    → TakeErrorReports old piece error new start ended
takes_fault old now new piece done (errors.Failed failure) start middle ended before call = call
takes_fault old now new piece done (errors.Fault code) start middle ended before call = (
  λ end represents.
      let so_far = before end represents in
      let one = call.0 so_far.between so_far.represents in
      let may : EndMayTake so_far.between (drop done piece) (EndFailed code) one.next =
      subst (λ (octets : List ℕ). EndMayTake so_far.between octets (EndFailed code) one.next)
      (take_rest piece done) one.may in
      let lines = call_lines so_far.between one.next None in
      record {
        next = one.next;
        lines = so_far.first ++ lines;
        takes = so_far.continues (Some code) lines one.next (has_fault (drop done piece) code may);
        represents = one.represents;
        written = Appends-trans start middle ended so_far.first lines so_far.written one.written;
      },
  call.1,
)

-- the same of a result with this error
pub error_reported : (old now new : MessageEnd) (piece : List ℕ) (done : ℕ) (error : TakeError)
    (result : Result Unit TakeError) (start middle ended : Option (List ℕ))
    → IsErrAnd result (λ other. other ≡ error)
    → TakesBeginning old piece done now start middle
    → CallsTake now (left piece done) (Err error) new middle ended
    → IfErr result (λ other. TakeErrorReports old piece other new start ended)
error_reported old now new piece done error (Ok value) start middle ended is before call = tt
error_reported old now new piece done error (Err other) start middle ended is before call =
    subst (λ (one : TakeError). TakeErrorReports old piece one new start ended) (sym is)
    (takes_fault old now new piece done error start middle ended before call)
