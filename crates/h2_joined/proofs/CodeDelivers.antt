-- Octets of a pipe that are delivered to an end.
use Rattle.h2_joined.proofs.Names
use Names.{true, ◌++◌, length, take, drop, Option, refl, sym, ap, ◌∙◌, subst, drop_min, length-take}
use Names.{take-append-drop, drop-append-le, Code, Values, Log, End, EndLog, EndRepresents, Side}
use Names.{Acted, Kept, Pipe, Store, Joined, JointEnd, Delivers, MayDo, IsDelivered}
use Names.{delivers, delivery_fails, delivery_stops, HoldsOctets, KeepsHanded, KeepsEnd, MakesAct}
use Names.{made, end_at, kept_of, other_side, said_shown, PutsPipe, TakesDelivery, IsKeptAt}
use Names.{◌≡◌, ℕ, Bool, false, List, Some, None, has_failed}
use Rattle.std.proofs.Common.{map as each}
use Rattle.h2_conn.specs.Conn.{ConnRepresents}
use Rattle.h2_joined.specs.declared.octets.Delivered.{Delivered}
use Rattle.h2_joined.specs.Parts.{shown_of}
use Rattle.h2_joined.specs.Delivering.{TakesPipe, EndsWithin, delivery_of}
use Rattle.h2_joined.proofs.KeptActs.{acts_by, acts_on_end, changes_end}
use Rattle.h2_joined.specs.declared.act.Acted.TheVariants as acted
use Rattle.h2_joined.specs.declared.octets.Delivered.TheVariants as delivered

-- how many octets of so many were used, and what is answered
abbrev pub used_by : Delivered → ℕ → ℕ
used_by delivered.Whole size = size
used_by (delivered.Failed code) size = size
used_by (delivered.Stopped used) size = used

abbrev pub answered_by : Delivered → ℕ → Acted
answered_by delivered.Whole size = acted.Count size
answered_by (delivered.Failed code) size = acted.Failed code
answered_by (delivered.Stopped used) size = acted.Memory

-- What is left on the pipe.
abbrev left_by : Delivered → ℕ → List ℕ → List ℕ
left_by delivered.Whole count octets = drop count octets
left_by (delivered.Failed code) count octets = drop count octets
left_by (delivered.Stopped used) count octets = drop used (take count octets) ++ drop count octets

drop_size : (count : ℕ) (octets : List ℕ)
    → drop (length (take count octets)) octets ≡ drop count octets
drop_size count octets = rw (length-take count octets) (drop_min count octets)

left_is : (of : Delivered) (count : ℕ) (octets : List ℕ)
    → EndsWithin of (length (take count octets))
    → drop (used_by of (length (take count octets))) octets ≡ left_by of count octets
left_is delivered.Whole count octets within = drop_size count octets
left_is (delivered.Failed code) count octets within = drop_size count octets
left_is (delivered.Stopped used) count octets within =
    ap (drop used) (sym (take-append-drop count octets))
    ∙ drop-append-le used (take count octets) (drop count octets) within

-- whether it has stopped
abbrev pub unfinished_by : Delivered → Bool
unfinished_by delivered.Whole = false
unfinished_by (delivered.Failed code) = false
unfinished_by (delivered.Stopped used) = true

-- The end once octets were delivered.
abbrev pub delivered_to : Delivered → ℕ → JointEnd → EndLog → JointEnd
delivered_to of count one after = record {
  happened = after;
  incoming = left_by of count one.incoming;
  unfinished = unfinished_by of;
}

-- The end may have done so.
may_deliver : (one other : JointEnd) (count : ℕ) (of : Delivered) (after : EndLog)
    → one.happened.log.failed ≡ None
    → IsDelivered 0 one.happened (take count one.incoming)
    (delivery_of of (take count one.incoming)) after
    → MayDo one other (Delivers count) (answered_by of (length (take count one.incoming)))
    (delivered_to of count one after) other
may_deliver one other count delivered.Whole after up is = delivers count after up is
may_deliver one other count (delivered.Failed code) after up is =
    delivery_fails count code after up is
may_deliver one other count (delivered.Stopped used) after up is =
    delivery_stops count (drop used (take count one.incoming)) after up is

-- The connection of an end has failed so, whatever log it represents.
abbrev pub HasFailed : Side → Joined → Option Code → Type 0
HasFailed side joined failed =
    (values : Values) (log : Log) → ConnRepresents values (end_at side joined).conn log
    → failed ≡ log.failed

-- The pipe was taken out, octets of it were handed to the end, and it was put back.
pub record DeliversAt (side : Side) (old : Joined) (count : ℕ) (octets : List ℕ) (of : Delivered)
    (new : Joined) : Type 0 where
  pub pipe : Pipe
  pub left : Pipe
  pub before : Joined
  pub after : Joined
  pub up : HasFailed side old None
  pub out : TakesPipe side old pipe before
  pub first : (all : List ℕ) → HoldsOctets pipe all → octets ≡ take count all
  pub takes : TakesDelivery side before octets of after
  pub rest : (all : List ℕ) → HoldsOctets pipe all
      → HoldsOctets left (drop (used_by of (length octets)) all)
  pub back : PutsPipe side after left (unfinished_by of) new

-- What is kept of an end is the same.
keeps_other : (old new : Kept) (one : JointEnd) → new ≡ old → KeepsEnd old one → KeepsEnd new one
keeps_other old new one same keeps = subst (λ (k : Kept). KeepsEnd k one) (sym same) keeps

module _ (side : Side) (old new : Joined) (count : ℕ) (octets : List ℕ) (of : Delivered)
    (at : DeliversAt side old count octets of new) where
  -- At first.
  kept_before : (values : Values) (one : JointEnd)
      → EndRepresents values (end_at side old) one.happened
      → KeepsEnd (kept_of side old) one → IsKeptAt values side at.before one.happened
  kept_before values one represents keeps =
      record {
        represents = subst (λ (e : End). EndRepresents values e one.happened)
            (sym at.out.one_end) represents;
        handed = subst (λ (s : Store). KeepsHanded s one.happened.handed) (sym at.out.handed)
            keeps.handed;
      }

  -- At last.
  kept_after : (values : Values) (one : JointEnd) (after : EndLog)
      → KeepsEnd (kept_of side old) one → IsKeptAt values side at.after after
      → after.accepted ≡ one.happened.accepted
      → HoldsOctets at.left (left_by of count one.incoming)
      → KeepsEnd (kept_of side new) (delivered_to of count one after)
  kept_after values one after keeps kept says holds =
      record {
        incoming = subst (λ (p : Pipe). HoldsOctets p (left_by of count one.incoming))
            (sym at.back.pipe_is) holds;
        accepted = ap (each said_shown) says ∙ keeps.accepted
            ∙ sym (ap (λ a. shown_of a.items)
            (at.back.accepted ∙ at.takes.only.accepted ∙ at.out.accepted));
        handed = subst (λ (s : Store). KeepsHanded s after.handed) (sym at.back.handed)
            kept.handed;
        unfinished = at.back.unfinished_is;
      }

  pub delivers_acts : MakesAct old (made side (Delivers count) (answered_by of (length octets))) new
  delivers_acts =
      acts_by side old new (Delivers count) (answered_by of (length octets))
      (at.back.other_end ∙ at.takes.only.other_end ∙ at.out.other_end)
      (λ values one other represents begun keeps other_keeps.
      let holds = subst (λ (p : Pipe). HoldsOctets p one.incoming) (sym at.out.pipe_is)
      keeps.incoming in
      let are = at.first one.incoming holds in
      let done = at.takes.takes values one.happened (kept_before values one represents keeps) in
      let size = ap length are in
      let within = subst (λ (o : List ℕ). EndsWithin of (length o)) are at.takes.within in
      let left = left_is of count one.incoming within in
      record {
        new_one = delivered_to of count one done.after;
        new_other = other;
        may = subst (λ (n : ℕ). MayDo one other (Delivers count) (answered_by of n)
            (delivered_to of count one done.after) other)
            (sym size) (may_deliver one other count of done.after
            (sym (at.up values one.happened.log represents.streams.conn))
            (subst (λ (o : List ℕ). IsDelivered 0 one.happened o (delivery_of of o) done.after)
            are done.delivers));
        represents = subst (λ (e : End). EndRepresents values e done.after)
            (sym at.back.one_end) done.kept.represents;
        kept = kept_after values one done.after keeps done.kept done.accepted
            (subst (λ (o : List ℕ). HoldsOctets at.left o)
            (ap (λ (o : List ℕ). drop (used_by of (length o)) one.incoming) are ∙ left)
            (at.rest one.incoming holds));
        happened = refl;
        other_kept = keeps_other (kept_of (other_side side) old) (kept_of (other_side side) new)
            other (at.back.other_kept ∙ at.takes.only.other_kept ∙ at.out.other_kept)
            other_keeps;
      })

-- None is delivered to an end that has failed.
pub none_delivered : (side : Side) (old : Joined) (count : ℕ) (code : Code)
    → HasFailed side old (Some code)
    → MakesAct old (made side (Delivers count) (acted.Failed code)) old
none_delivered side old count code failed =
    acts_on_end side old old (Delivers count) (acted.Failed code)
    (changes_end side old old refl refl refl refl refl refl)
    (λ values one other represents.
    record {
      after = one.happened;
      may = has_failed count code
          (sym (failed values one.happened.log represents.streams.conn));
      represents = represents;
      accepted = refl;
      handed = refl;
    })
