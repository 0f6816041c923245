-- A call of `take` of an end, and what is kept of it then.
use Rattle.std.proofs.Common.{◌+◌, ◌^◌, min, is_some, if◌then◌else◌}
use Rattle.h2_conn.specs.declared.conn.Conn.{Conn}
use Rattle.h2_conn.specs.Conn.{ConnRepresents}
use Rattle.h2_spec_log.specs.Log.{Log, reader_held}
use Rattle.h2_joined.proofs.Names
use Names.{◌<◌, ◌≤◌, true, [], ◌∷◌, length, Option, Ok, Err, refl, sym, ap, ◌∙◌, subst, inl, inr}
use Names.{arith, reverse-append, Code, Values, End, EndLog, Handed, EndTook, EndFailed, EndMayTake}
use Names.{event_handed, EndRepresents, Side, Store, Joined, AreStored, Fits, HasRoomForEvent}
use Names.{KeepsMore, events_kept, KeepsHanded, end_at, kept_of, ChangesOnly, IsKeptAt, TakesNext}
use Names.{◌≡◌, ℕ, Bool, false, List, reverse, Some, None}
use Rattle.std.proofs.Common.{option_map}
use Rattle.h2_conn.specs.declared.taken.ConnFault.{ConnFault}
use Rattle.h2_ends.specs.EndEvents.{LentPart}
use Rattle.h2_ends.specs.declared.event.EndTaken.{EndTaken}
use Rattle.h2_ends.specs.Represents.{EndTakes}
use Rattle.h2_joined.specs.declared.octets.Taking.{Taking}
use Rattle.h2_joined.specs.Delivering.{TakesOnce, IsTaken, MakesRoom, TookAt, most_body}
use Rattle.h2_joined.proofs.KeptEnds.{taken_says}
use Rattle.h2_joined.proofs.KeptStore.{same_handed}
use Rattle.h2_joined.proofs.TakenSizes.{taken_fits, hands_up}
use Rattle.h2_joined.specs.declared.octets.Taking.TheVariants as takings
use Rattle.h2_joined.specs.declared.octets.Next.TheVariants as nexts

-- Nothing more was handed out, and the store is the same.
keeps_still : (store : Store) (handed now : List Handed) → now ≡ handed
    → KeepsHanded store handed → KeepsHanded store now
keeps_still store handed now same keeps =
    subst (λ (all : List Handed). KeepsHanded store all) (sym same) keeps

-- One more was, and is kept.
keeps_one_more : (old new : Store) (one : Handed) (handed now : List Handed)
    → KeepsMore old one new → now ≡ one ∷ handed → KeepsHanded old handed → KeepsHanded new now
keeps_one_more old new one handed now more says keeps =
    record {
      same = says ∙ ap (λ (all : List Handed). one ∷ all) keeps.same
          ∙ sym (reverse-append (events_kept old) (one ∷ []))
          ∙ ap (λ (events : List Handed). reverse events) (sym more.more);
      stored = more.stored;
    }

-- What a call answers, where nothing is handed out.
pub took_nothing : (old new : End) (store : Store) (piece : List ℕ) (taken : EndTaken)
    → taken.event ≡ None → EndTakes old piece (Ok taken) new
    → TakesOnce old store piece (takings.Took taken.used false) new store
took_nothing old new store piece taken none takes values end represents =
    let (after, one, now) = takes values end represents in
    let may = subst (λ (handed : Option Handed). EndMayTake end piece (EndTook taken.used handed)
    after) (ap (option_map event_handed) none) one in
    let says = taken_says end piece (EndTook taken.used None) after may in
    record {
      after = after;
      handed = None;
      may = may;
      says = refl;
      represents = now;
      kept = λ room keeps. keeps_still store end.handed after.handed says.handed keeps;
    }

-- Where something is, that is kept.
pub took_event : (old new : End) (store new_store : Store) (piece : List ℕ) (taken : EndTaken)
    (event : LentPart) → taken.event ≡ Some event
    → ((body : ℕ) → HasRoomForEvent body store → Fits body (event_handed event) → AreStored store
    → KeepsMore store (event_handed event) new_store)
    → EndTakes old piece (Ok taken) new
    → TakesOnce old store piece (takings.Took taken.used true) new new_store
took_event old new store new_store piece taken event some keep takes values end represents =
    let (after, one, now) = takes values end represents in
    let handed = event_handed event in
    let may = subst (λ (all : Option Handed). EndMayTake end piece (EndTook taken.used all)
    after) (ap (option_map event_handed) some) one in
    let says = taken_says end piece (EndTook taken.used (Some handed)) after may in
    record {
      after = after;
      handed = Some handed;
      may = may;
      says = λ none. cc;
      represents = now;
      kept = λ room keeps. keeps_one_more store new_store handed end.handed after.handed
          (keep (most_body end piece) (room (hands_up end after piece _ taken.used handed may refl))
          (taken_fits values old end piece taken.used handed after represents may)
          keeps.stored) says.handed keeps;
    }

pub took_fault : (old new : End) (store : Store) (piece : List ℕ) (fault : ConnFault)
    → EndTakes old piece (Err fault) new
    → TakesOnce old store piece (takings.Failed fault.code) new store
took_fault old new store piece fault takes values end represents =
    let (after, may, now) = takes values end represents in
    let says = taken_says end piece (EndFailed fault.code) after may in
    record {
      after = after;
      handed = None;
      may = may;
      says = refl;
      represents = now;
      kept = λ room keeps. keeps_still store end.handed after.handed says.handed keeps;
    }

-- What a connection holds of a frame, and a piece, are all that a body can have.
pub held_body : (values : Values) (old : End) (conn : Conn) (end : EndLog) (piece : List ℕ)
    (held body : ℕ) → conn ≡ old.conn → EndRepresents values old end → end.log.failed ≡ None
    → ((vs : Values) (log : Log) → ConnRepresents vs conn log → held ≡ reader_held log)
    → ((vs : Values) (log : Log) → ConnRepresents vs conn log → held ≤ 1048585)
    → length piece < 2 ^ 63 → body ≡ min (held + length piece) 18446744073709551615
    → body ≡ most_body end piece
held_body values old conn end piece held body same represents up value bound fits sum =
    let parts : ConnRepresents values conn end.log = rw same represents.streams.conn in
    let few = bound values end.log parts in
    let is : held ≡ length end.log.unparsed = value values end.log parts
    ∙ ap (λ (failed : Option Code). if is_some failed then 0 else length end.log.unparsed) up in
    omega (arith, few, is, fits, sum)

-- both changes, one after the other
pub both_only : (side : Side) (old mid new : Joined) → ChangesOnly side old mid
    → ChangesOnly side mid new → ChangesOnly side old new
both_only side old mid new first second =
    record {
      other_end = second.other_end ∙ first.other_end;
      other_kept = second.other_kept ∙ first.other_kept;
      accepted = second.accepted ∙ first.accepted;
      incoming = second.incoming ∙ first.incoming;
      unfinished = second.unfinished ∙ first.unfinished;
    }

-- Where room was made for it, the same is kept.
roomy : (side : Side) (old mid : Joined) (piece : List ℕ) (made : Bool) (values : Values)
    (end : EndLog) → MakesRoom side old piece made mid → IsKeptAt values side old end
    → IsKeptAt values side mid end
roomy side old mid piece made values end makes keeps =
    record {
      represents = subst (λ (e : End). EndRepresents values e end) (sym makes.one_end)
          keeps.represents;
      handed = same_handed (kept_of side old).handed (kept_of side mid).handed end.handed
          makes.items keeps.handed;
    }

module _ (side : Side) (old mid new : Joined) (piece : List ℕ) (made : Bool)
    (makes : MakesRoom side old piece made mid) (has : made ≡ true) where
  -- The call was made, and what was handed out is kept.
  taken_of : (values : Values) (end : EndLog) (taking : Taking) → TookAt side mid piece taking new
      → IsKeptAt values side old end
      → IsTaken values end (kept_of side mid).handed piece taking (end_at side new)
      (kept_of side new).handed
  taken_of values end taking took keeps =
      took.takes values end (roomy side old mid piece made values end makes keeps).represents

  is_kept : (values : Values) (end : EndLog) (taking : Taking)
      (took : TookAt side mid piece taking new) (keeps : IsKeptAt values side old end)
      → IsKeptAt values side new (taken_of values end taking took keeps).after
  is_kept values end taking took keeps =
      let taken = taken_of values end taking took keeps in
      record {
        represents = taken.represents;
        handed = taken.kept (makes.room has values end keeps.represents)
            (roomy side old mid piece made values end makes keeps).handed;
      }

  -- How a delivery goes on, where something was handed out: with what is left of the piece.
  pub next_handed : (used : ℕ) → TookAt side mid piece (takings.Took used true) new
      → TakesNext side old piece (nexts.Again used) new
  next_handed used took =
      record {
        within = took.within;
        only = both_only side old mid new makes.only took.only;
        takes = λ values end keeps.
            let taken = taken_of values end (takings.Took used true) took keeps in
            record {
              after = taken.after;
              goes_on = (taken.handed, taken.may, inr taken.says);
              accepted =
                  (taken_says end piece (EndTook used taken.handed) taken.after taken.may).accepted;
              kept = is_kept values end (takings.Took used true) took keeps;
            };
      }

  -- Where nothing was,
  pub next_again : (used : ℕ) → TookAt side mid piece (takings.Took used false) new
      → used < length piece → TakesNext side old piece (nexts.Again used) new
  next_again used took below =
      record {
        within = took.within;
        only = both_only side old mid new makes.only took.only;
        takes = λ values end keeps.
            let taken = taken_of values end (takings.Took used false) took keeps in
            record {
              after = taken.after;
              goes_on = (taken.handed, taken.may, inl below);
              accepted =
                  (taken_says end piece (EndTook used taken.handed) taken.after taken.may).accepted;
              kept = is_kept values end (takings.Took used false) took keeps;
            };
      }

  -- and nothing is left.
  pub next_whole : (used : ℕ) → TookAt side mid piece (takings.Took used false) new
      → length piece ≤ used → TakesNext side old piece nexts.Whole new
  next_whole used took all =
      record {
        within = tt;
        only = both_only side old mid new makes.only took.only;
        takes = λ values end keeps.
            let taken = taken_of values end (takings.Took used false) took keeps in
            let whole : used ≡ length piece = omega (arith, took.within, all) in
            let one = subst (λ (handed : Option Handed).
            EndMayTake end piece (EndTook used handed) taken.after) taken.says taken.may in
            record {
              after = taken.after;
              goes_on = subst (λ (n : ℕ). EndMayTake end piece (EndTook n None) taken.after) whole
                  one;
              accepted = (taken_says end piece (EndTook used None) taken.after one).accepted;
              kept = is_kept values end (takings.Took used false) took keeps;
            };
      }

  -- The connection has failed.
  pub next_failed : (code : Code) → TookAt side mid piece (takings.Failed code) new
      → TakesNext side old piece (nexts.Failed code) new
  next_failed code took =
      record {
        within = tt;
        only = both_only side old mid new makes.only took.only;
        takes = λ values end keeps.
            let taken = taken_of values end (takings.Failed code) took keeps in
            record {
              after = taken.after;
              goes_on = taken.may;
              accepted = (taken_says end piece (EndFailed code) taken.after taken.may).accepted;
              kept = is_kept values end (takings.Failed code) took keeps;
            };
      }
