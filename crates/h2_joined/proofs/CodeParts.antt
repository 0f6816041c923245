-- Calls of an end that give parts of a message, with what is kept before and after them.
use Rattle.h2_joined.proofs.Names
use Names.{◌≡◌, ◌≤◌, ◌+◌, ◌==◌, ℕ, Bool, true, List, length, take, Option, Some, None, Ok, Err}
use Names.{refl}
use Names.{sym, ap, ◌∙◌, subst, arith, Accepted, Side, Joined, End, Kept, Field, EndRefusal}
use Names.{MakesAct, made, end_at, IsTypedAct, SendFields, Shown}
use Rattle.std.specs.Prelude.{◌&&◌, vec_len, IfSome}
use Rattle.std.specs.Vec.{vec_capacity}
use Rattle.h2_spec_log.specs.Acts.{SendData}
use Rattle.h2_ends.specs.Represents.{EndSendsBody, EndSendsTrailers}
use Rattle.h2_joined.specs.Joints.{SendsBody, SendsTrailers}
use Rattle.h2_joined.specs.Parts.{ChangesShown, shown_at, shown_of, grown, shown_with_octets}
use Rattle.h2_joined.specs.Parts.{shown_with_trailers, HasRoomInBody, last_for, CallsEnd}
use Rattle.h2_joined.proofs.KeptActs.{ChangesEnd, ChangesAccepted}
use Rattle.h2_joined.proofs.CodeMessages.{body_is_refused, body_is_accepted, trailers_are_refused}
use Rattle.h2_joined.proofs.CodeMessages.{trailers_are_accepted}
use Rattle.h2_joined.specs.declared.act.Acted.TheVariants as acted

-- The same is shown where nothing was done,
pub shows_itself : (side : Side) (old : Joined) → ChangesShown side old (shown_at side old) old
shows_itself side old =
    record {
      one_end = refl;
      other_end = refl;
      kept = record { incoming = refl; accepted = refl; handed = refl; unfinished = refl };
      other_kept = refl;
    }

-- and only the end has changed where the same is.
pub changes_shown : (side : Side) (old new : Joined)
    → ChangesShown side old (shown_at side old) new → ChangesEnd side old new
changes_shown side old new same =
    record {
      other_end = same.other_end;
      kept = record {
        incoming = same.kept.incoming;
        accepted = same.kept.accepted;
        handed = same.kept.handed;
        unfinished = same.kept.unfinished;
      };
      other_kept = same.other_kept;
    }

-- There is room for fewer octets where there is for more.
room_by : (last : Option Accepted) (count fewer : ℕ) → fewer ≤ count
    → IfSome last (λ one. vec_len one.message.body + count ≤ vec_capacity one.message.body)
    → IfSome last (λ one. vec_len one.message.body + fewer ≤ vec_capacity one.message.body)
room_by None count fewer less room = tt
room_by (Some one) count fewer less room = omega (arith, less, room)

pub room_for_fewer : (items : List Accepted) (id count fewer : ℕ) → fewer ≤ count
    → HasRoomInBody items id count → HasRoomInBody items id fewer
room_for_fewer items id count fewer less room = room_by (last_for id items) count fewer less room

-- Room may have been made at first, and then the end was called.
module _ (side : Side) (old room sent : Joined)
    (roomy : ChangesShown side old (shown_at side old) room) (calls : CallsEnd side room sent) where
  changes_called : ChangesEnd side old sent
  changes_called = record {
    other_end = calls.other_end ∙ roomy.other_end;
    kept = record {
      incoming = ap (λ (k : Kept). k.incoming) calls.kept ∙ roomy.kept.incoming;
      accepted = ap (λ (k : Kept). shown_of k.accepted.items) calls.kept ∙ roomy.kept.accepted;
      handed = ap (λ (k : Kept). k.handed) calls.kept ∙ roomy.kept.handed;
      unfinished = ap (λ (k : Kept). k.unfinished) calls.kept ∙ roomy.kept.unfinished;
    };
    other_kept = calls.other_kept ∙ roomy.other_kept;
  }

  -- It has refused them,
  pub body_refused_acts : (id : ℕ) (octets : List ℕ) (ends : Bool) (refusal : EndRefusal)
      → IsTypedAct (SendData id octets ends)
      → EndSendsBody (end_at side room) id octets ends (Err refusal) (end_at side sent)
      → MakesAct old (made side (SendsBody id octets ends) (acted.Refused refusal)) sent
  body_refused_acts id octets ends refusal typed does =
      body_is_refused side old sent id octets ends refusal changes_called typed
      (subst (λ (e : End). EndSendsBody e id octets ends (Err refusal) (end_at side sent))
      roomy.one_end does)

  pub trailers_refused_act : (id : ℕ) (list : List Field) (refusal : EndRefusal)
      → IsTypedAct (SendFields id list true)
      → EndSendsTrailers (end_at side room) id list (Err refusal) (end_at side sent)
      → MakesAct old (made side (SendsTrailers id list) (acted.Refused refusal)) sent
  trailers_refused_act id list refusal typed does =
      trailers_are_refused side old sent id list refusal changes_called typed
      (subst (λ (e : End). EndSendsTrailers e id list (Err refusal) (end_at side sent))
      roomy.one_end does)

  module _ (new : Joined) (shown : List Shown) (keeps : ChangesShown side sent shown new) where
    changes_kept : ChangesAccepted side old new
    changes_kept = record {
      other_end = keeps.other_end ∙ changes_called.other_end;
      incoming = keeps.kept.incoming ∙ changes_called.kept.incoming;
      handed = keeps.kept.handed ∙ changes_called.kept.handed;
      unfinished = keeps.kept.unfinished ∙ changes_called.kept.unfinished;
      other_kept = keeps.other_kept ∙ changes_called.other_kept;
    }

    -- or sent the first ones, which are kept,
    pub body_acts : (id : ℕ) (octets first : List ℕ) (ends ended : Bool) (count : ℕ)
        → first ≡ take count octets → ended ≡ (ends && count == length octets)
        → shown ≡ grown id (shown_with_octets first ended) (shown_at side sent)
        → IsTypedAct (SendData id octets ends)
        → EndSendsBody (end_at side room) id octets ends (Ok count) (end_at side sent)
        → MakesAct old (made side (SendsBody id octets ends) (acted.Count count)) new
    body_acts id octets first ends ended count first_is ended_is shows typed does =
        body_is_accepted side old new id octets ends count
        (keeps.kept.accepted ∙ shows
        ∙ ap (λ (l : List ℕ). grown id (shown_with_octets l ended) (shown_at side sent)) first_is
        ∙ ap (λ (b : Bool). grown id (shown_with_octets (take count octets) b) (shown_at side sent))
        ended_is
        ∙ ap (grown id (shown_with_octets (take count octets) (ends && count == length octets)))
        changes_called.kept.accepted)
        changes_kept typed
        (subst (λ (e : End). EndSendsBody e id octets ends (Ok count) (end_at side new))
        roomy.one_end
        (subst (λ (e : End). EndSendsBody (end_at side room) id octets ends (Ok count) e)
        (sym keeps.one_end) does))

    -- or the trailers, which are.
    pub trailers_act : (id : ℕ) (list : List Field) (done : Unit {0})
        → shown ≡ grown id (shown_with_trailers list) (shown_at side sent)
        → IsTypedAct (SendFields id list true)
        → EndSendsTrailers (end_at side room) id list (Ok done) (end_at side sent)
        → MakesAct old (made side (SendsTrailers id list) acted.Done) new
    trailers_act id list done shows typed does =
        trailers_are_accepted side old new id list done
        (keeps.kept.accepted ∙ shows
        ∙ ap (grown id (shown_with_trailers list)) changes_called.kept.accepted)
        changes_kept typed
        (subst (λ (e : End). EndSendsTrailers e id list (Ok done) (end_at side new)) roomy.one_end
        (subst (λ (e : End). EndSendsTrailers (end_at side room) id list (Ok done) e)
        (sym keeps.one_end) does))
