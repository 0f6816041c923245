-- What a client whose response comes in parts makes of octets, by what `take` has answered.
use Rattle.h2_engines.proofs.Names
use Names.{◌≡◌, ◌≢◌, ℕ, Bool, true, false, List, [], ◌∷◌, ◌++◌, length, Option, Some, None, Ok, Err}
use Names.{refl, sym, ap, ◌∙◌, append-nil, eq-eqb, if◌then◌else◌, End, EndTook, EndFailed}
use Names.{Handed, EndTaken, EndTakes, ErrsFetching, LentPart, LinkError, ConnFault, event_handed}
use Names.{error_with}
use Rattle.h2_engines.proofs.TakeMessages.{handed_after}
use Rattle.h2_fetch.specs.Parts.{HandsPart, handed_of, handed_on, is_on}
use Rattle.h2_fetch.specs.Takes.{TakesPartOnce, TakesSo, part_in}
use Rattle.h2_fetch.specs.declared.fetch.PartNext.{PartNext}
use Rattle.h2_fetch.specs.declared.fetch.PartNext.TheVariants as nexts
use Rattle.h2_fetch.specs.declared.part.ResponsePart.{ResponsePart}
use Rattle.h2_fetch.specs.declared.part.ResponsePart.TheVariants as parts

module _ (old new : End) (id : ℕ) (piece : List ℕ) (taken : EndTaken) where
  -- Nothing was handed out, with some octets left or none.
  pub took_nothing : (next : PartNext) → taken.event ≡ None → part_in next ≡ None
      → (next ≡ nexts.Done → taken.used ≡ length piece) → EndTakes old piece (Ok taken) new
      → TakesPartOnce old new id piece (Ok (record { used = taken.used; next = next }))
  unfolding TakesSo
  took_nothing next none no_part all takes values end represents =
      let (after, may, now) = takes values end represents in
      let took = rw none at may in (after, now, (None, took, rw no_part tt, all))

  -- Something was, which is a part of the response or not;
  pub took_part : (event : LentPart) (next : PartNext) → taken.event ≡ Some event
      → next ≢ nexts.Done → HandsPart id (Some (event_handed event)) (part_in next)
      → EndTakes old piece (Ok taken) new
      → TakesPartOnce old new id piece (Ok (record { used = taken.used; next = next }))
  unfolding TakesSo
  took_part event next some goes_on hands takes values end represents =
      let (after, may, now) = takes values end represents in
      let took = rw some at may in
      (after, now, (Some (event_handed event), took, hands, λ is. absurd (goes_on is)))

  -- or with it the fetch ends,
  pub took_error : (event : LentPart) (error : LinkError) → taken.event ≡ Some event
      → ErrsFetching (EndTook taken.used (Some (event_handed event))) id error
      → EndTakes old piece (Ok taken) new → TakesPartOnce old new id piece (Err error)
  unfolding TakesSo
  took_error event error some errs takes values end represents =
      let (after, may, now) = takes values end represents in
      let took = rw some at may in
      (after, now, (EndTook taken.used (Some (event_handed event)), took, errs))

-- as it does where the connection has failed.
pub took_fault : (old new : End) (id : ℕ) (piece : List ℕ) (fault : ConnFault) {error : LinkError}
    → error ≡ error_with fault.code → EndTakes old piece (Err fault) new
    → TakesPartOnce old new id piece (Err error)
unfolding TakesSo ErrsFetching
took_fault old new id piece fault is takes values end represents =
    let (after, may, now) = takes values end represents in
    (after, now, (EndFailed fault.code, may, is))

-- What was handed out last is one more on its stream, or none.
on_one : (id : ℕ) (one : Handed) (handed : List Handed) (is : Bool) → is_on id one ≡ is
    → handed_on id (one ∷ handed) ≡ handed_on id handed ++ (if is then one ∷ [] else [])
unfolding handed_on
on_one id one handed is same = rw same refl

is_of_part : (id : ℕ) (part : ResponsePart) → is_on id (handed_of id part) ≡ true
is_of_part id (parts.Interim list) = eq-eqb id id refl
is_of_part id (parts.Head list end) = eq-eqb id id refl
is_of_part id (parts.Body octets end) = eq-eqb id id refl
is_of_part id (parts.Trailers list) = eq-eqb id id refl

-- the parts that were handed out with this one
abbrev pub answered : ℕ → Option ResponsePart → List Handed
answered id None = []
answered id (Some part) = handed_of id part ∷ []

pub hands_on : (id count : ℕ) (handed : Option Handed) (part : Option ResponsePart)
    (before : List Handed) {after : List Handed} → after ≡ handed_after
    (EndTook count handed) before
    → HandsPart id handed part → handed_on id after ≡ handed_on id before ++ answered id part
hands_on id count None None before same hands =
    ap (handed_on id) same ∙ sym (append-nil (handed_on id before))
hands_on id count None (Some part) before same hands = absurd hands
hands_on id count (Some one) None before same hands =
    ap (handed_on id) same ∙ on_one id one before false hands
hands_on id count (Some one) (Some part) before same hands =
    ap (handed_on id) same
    ∙ on_one id one before true (ap (is_on id) hands ∙ is_of_part id part)
    ∙ ap (λ (last : Handed). handed_on id before ++ last ∷ []) hands

-- What is no part of a message is none on a stream.
pub hands_none : (id : ℕ) (one : Handed) {before after : List Handed} → after ≡ one ∷ before
    → is_on id one ≡ false → handed_on id after ≡ handed_on id before ++ []
hands_none id one {before} same none = ap (handed_on id) same ∙ on_one id one before false none

-- Whatever was handed out last, what was before is the beginning.
pub hands_some : (id : ℕ) (one : Handed) {before after : List Handed} → after ≡ one ∷ before
    → handed_on id after
    ≡ handed_on id before ++ (if is_on id one then one ∷ [] else [])
hands_some id one {before} same = ap (handed_on id) same ∙ on_one id one before _ refl
