-- An act at one end of two joined ends is one more act of both.
use Rattle.h2_joined.proofs.Names
use Names.{[], ◌∷◌, ◌++◌, refl, sym, ap, ap₂, ◌∙◌, subst, reverse-append, Values, End, EndLog}
use Names.{Handed, EndRepresents, Side, Acted, Accepted, Kept, Pipe, Store, Joined, Doing, JointEnd}
use Names.{MayDo, with_happened, at_client, at_server, continues, HoldsOctets, KeepsHanded}
use Names.{KeepsEnd}
use Names.{MakesAct, made, end_at, kept_of, other_side, ◌≡◌, ◌==◌, ℕ, Bool, List, Some, reverse}
use Names.{accepted_shown, said_shown, Shown, Said, SentMessage, is_begun, said_for, cases_Bool}
use Names.{inl, inr}
use Rattle.std.proofs.Common.{map as each}
use Rattle.std.proofs.lemmas.Bool.{eqb-true}
use Rattle.std.proofs.lemmas.List.{map_push}
use Rattle.h2_ends.specs.Ends.{replaced}
use Rattle.h2_joined.specs.Parts.{shown_of, grown}
use Rattle.h2_joined.proofs.BegunOut.{SendsBegun}
use Rattle.h2_joined.proofs.JointActs.{joint_holds}
use Rattle.h2_joined.specs.declared.act.Side.TheVariants as sides
use Rattle.h2_joined.specs.declared.act.Acted.TheVariants as acted

-- What an act at one end has to show: it may be made, and both ends and what is kept are as it
-- says.
pub record DoesAt (values : Values) (side : Side) (one other : JointEnd) (doing : Doing)
    (answer : Acted) (new : Joined) : Type 0 where
  pub new_one : JointEnd
  pub new_other : JointEnd
  pub may : MayDo one other doing answer new_one new_other
  pub represents : EndRepresents values (end_at side new) new_one.happened
  pub kept : KeepsEnd (kept_of side new) new_one
  pub happened : new_other.happened ≡ other.happened
  pub other_kept : KeepsEnd (kept_of (other_side side) new) new_other

-- whatever has happened at both
abbrev pub DoesAll : Side → (old new : Joined) → Doing → Acted → Type 0
DoesAll side old new doing answer =
    (values : Values) (one other : JointEnd) → EndRepresents values (end_at side old) one.happened
    → SendsBegun one.happened → KeepsEnd (kept_of side old) one
    → KeepsEnd (kept_of (other_side side) old) other
    → DoesAt values side one other doing answer new

-- The other end represents the same.
other_represents : (values : Values) (old new : End) (before after : EndLog) → new ≡ old
    → after ≡ before → EndRepresents values old before → EndRepresents values new after
other_represents values old new before after same stays represents =
    subst (λ (end : End). EndRepresents values end after) (sym same)
    (subst (λ (happened : EndLog). EndRepresents values old happened) (sym stays) represents)

pub acts_by : (side : Side) (old new : Joined) (doing : Doing) (answer : Acted)
    → end_at (other_side side) new ≡ end_at (other_side side) old
    → DoesAll side old new doing answer → MakesAct old (made side doing answer) new
acts_by sides.Client old new doing answer same does ours theirs before client server both =
    let holds = joint_holds ours theirs before client server both.joint in
    let done = does ours client server both.client_represents holds.begun both.client_kept
    both.server_kept in
    let next = at_client doing answer done.may in (
      done.new_one,
      done.new_other,
      next,
      record {
        joint = continues both.joint (made sides.Client doing answer) next;
        client_represents = done.represents;
        server_represents = other_represents theirs old.server.end new.server.end
            server.happened done.new_other.happened same done.happened both.server_represents;
        client_kept = done.kept;
        server_kept = done.other_kept;
      },
    )
acts_by sides.Server old new doing answer same does theirs ours before client server both =
    let holds = joint_holds theirs ours before client server both.joint in
    let done = does ours server client both.server_represents holds.other_begun both.server_kept
    both.client_kept in
    let next = at_server doing answer done.may in (
      done.new_other,
      done.new_one,
      next,
      record {
        joint = continues both.joint (made sides.Server doing answer) next;
        client_represents = other_represents theirs old.client.end new.client.end
            client.happened done.new_other.happened same done.happened both.client_represents;
        server_represents = done.represents;
        client_kept = done.other_kept;
        server_kept = done.kept;
      },
    )

-- What is kept of an end is the same, but for where it lies.
pub record SameKept (old new : Kept) : Type 0 where
  pub incoming : new.incoming ≡ old.incoming
  pub accepted : shown_of new.accepted.items ≡ shown_of old.accepted.items
  pub handed : new.handed ≡ old.handed
  pub unfinished : new.unfinished ≡ old.unfinished

pub same_kept : (old new : Kept) → new ≡ old → SameKept old new
same_kept old new same =
    record {
      incoming = ap (λ (k : Kept). k.incoming) same;
      accepted = ap (λ (k : Kept). shown_of k.accepted.items) same;
      handed = ap (λ (k : Kept). k.handed) same;
      unfinished = ap (λ (k : Kept). k.unfinished) same;
    }

-- Only this end has changed, and nothing that is kept.
pub record ChangesEnd (side : Side) (old new : Joined) : Type 0 where
  pub other_end : end_at (other_side side) new ≡ end_at (other_side side) old
  pub kept : SameKept (kept_of side old) (kept_of side new)
  pub other_kept : kept_of (other_side side) new ≡ kept_of (other_side side) old

pub changes_end : (side : Side) (old new : Joined)
    → (kept_of side new).accepted.items ≡ (kept_of side old).accepted.items
    → end_at (other_side side) new ≡ end_at (other_side side) old
    → (kept_of side new).incoming ≡ (kept_of side old).incoming
    → (kept_of side new).handed ≡ (kept_of side old).handed
    → (kept_of side new).unfinished ≡ (kept_of side old).unfinished
    → kept_of (other_side side) new ≡ kept_of (other_side side) old → ChangesEnd side old new
changes_end side old new items end incoming handed unfinished other =
    record {
      other_end = end;
      kept = record {
        incoming = incoming;
        accepted = ap shown_of items;
        handed = handed;
        unfinished = unfinished;
      };
      other_kept = other;
    }

-- What is kept stays so, where the end has accepted and handed out nothing.
pub keeps_same : (old new : Kept) (one new_one : JointEnd) → KeepsEnd old one → SameKept old new
    → new_one.incoming ≡ one.incoming → new_one.happened.accepted ≡ one.happened.accepted
    → new_one.happened.handed ≡ one.happened.handed → new_one.unfinished ≡ one.unfinished
    → KeepsEnd new new_one
keeps_same old new one new_one keeps same incoming accepted handed unfinished =
    record {
      incoming = subst (λ (pipe : Pipe). HoldsOctets pipe new_one.incoming) (sym same.incoming)
          (subst (λ (octets : List ℕ). HoldsOctets old.incoming octets) (sym incoming)
          keeps.incoming);
      accepted = ap (each said_shown) accepted ∙ keeps.accepted ∙ sym same.accepted;
      handed = subst (λ (store : Store). KeepsHanded store new_one.happened.handed)
          (sym same.handed)
          (subst (λ (all : List Handed). KeepsHanded old.handed all) (sym handed) keeps.handed);
      unfinished = same.unfinished ∙ keeps.unfinished ∙ sym unfinished;
    }

-- What a call of one end has to show, that accepts and hands out nothing.
pub record HappensAt (values : Values) (new : End) (one other : JointEnd) (doing : Doing)
    (answer : Acted) : Type 0 where
  pub after : EndLog
  pub may : MayDo one other doing answer (with_happened one after) other
  pub represents : EndRepresents values new after
  pub accepted : after.accepted ≡ one.happened.accepted
  pub handed : after.handed ≡ one.happened.handed

module _ (side : Side) (old new : Joined) (doing : Doing) where
  pub acts_on_end : (answer : Acted) → ChangesEnd side old new
      → ((values : Values) (one other : JointEnd) → EndRepresents values (end_at side old)
      one.happened → HappensAt values (end_at side new) one other doing answer)
      → MakesAct old (made side doing answer) new
  acts_on_end answer changes happens = acts_by side old new doing answer changes.other_end
      (λ values one other represents begun keeps other_keeps.
      let does = happens values one other represents in
      record {
        new_one = with_happened one does.after;
        new_other = other;
        may = does.may;
        represents = does.represents;
        kept = keeps_same (kept_of side old) (kept_of side new) one (with_happened one does.after)
            keeps changes.kept refl does.accepted does.handed refl;
        happened = refl;
        other_kept = keeps_same (kept_of (other_side side) old) (kept_of (other_side side) new)
            other other other_keeps (same_kept (kept_of (other_side side) old)
            (kept_of (other_side side) new) changes.other_kept) refl refl refl refl;
      })

  -- Memory was refused to copy a message, before anything was done.
  pub acts_without_copy : ((one other : JointEnd) → MayDo one other doing acted.Memory one other)
      → end_at side new ≡ end_at side old → ChangesEnd side old new
      → MakesAct old (made side doing acted.Memory) new
  acts_without_copy may same changes = acts_on_end acted.Memory changes
      (λ values one other represents.
      record {
        after = one.happened;
        may = may one other;
        represents = subst (λ (end : End). EndRepresents values end one.happened) (sym same)
            represents;
        accepted = refl;
        handed = refl;
      })

-- Only this end has changed, and of what is kept of it only what was accepted.
pub record ChangesAccepted (side : Side) (old new : Joined) : Type 0 where
  pub other_end : end_at (other_side side) new ≡ end_at (other_side side) old
  pub incoming : (kept_of side new).incoming ≡ (kept_of side old).incoming
  pub handed : (kept_of side new).handed ≡ (kept_of side old).handed
  pub unfinished : (kept_of side new).unfinished ≡ (kept_of side old).unfinished
  pub other_kept : kept_of (other_side side) new ≡ kept_of (other_side side) old

-- What a call of one end has to show, that accepts something: what is kept as accepted shows it.
pub record SaysAt (values : Values) (side : Side) (old new : Joined) (one other : JointEnd)
    (doing : Doing) (answer : Acted) : Type 0 where
  pub after : EndLog
  pub may : MayDo one other doing answer (with_happened one after) other
  pub represents : EndRepresents values (end_at side new) after
  pub says : each said_shown one.happened.accepted ≡ shown_of (kept_of side old).accepted.items
      → each said_shown after.accepted ≡ shown_of (kept_of side new).accepted.items
  pub handed : after.handed ≡ one.happened.handed

pub acts_accepting : (side : Side) (old new : Joined) (doing : Doing) (answer : Acted)
    → ChangesAccepted side old new
    → ((values : Values) (one other : JointEnd)
    → EndRepresents values (end_at side old) one.happened → SendsBegun one.happened
    → SaysAt values side old new one other doing answer)
    → MakesAct old (made side doing answer) new
acts_accepting side old new doing answer changes says =
    acts_by side old new doing answer changes.other_end
    (λ values one other represents begun keeps other_keeps.
    let does = says values one other represents begun in
    let before = kept_of side old in
    let after = kept_of side new in
    let same = keeps_same before (record after { accepted = before.accepted }) one
    (with_happened one (record does.after { accepted = one.happened.accepted })) keeps (record {
      incoming = changes.incoming;
      accepted = refl;
      handed = changes.handed;
      unfinished = changes.unfinished;
    }) refl refl does.handed refl in
    record {
      new_one = with_happened one does.after;
      new_other = other;
      may = does.may;
      represents = does.represents;
      kept = record {
        incoming = same.incoming;
        accepted = does.says keeps.accepted;
        handed = same.handed;
        unfinished = same.unfinished;
      };
      happened = refl;
      other_kept = keeps_same _ _ other other other_keeps (same_kept (kept_of (other_side side) old)
          (kept_of (other_side side) new) changes.other_kept) refl refl refl refl;
    })

-- One more is the newest.
newest : {A B : Type 0} (value : A → B) (items : List A) (one : A)
    → reverse (each value (items ++ one ∷ [])) ≡ value one ∷ reverse (each value items)
newest value items one =
    ap reverse (map_push value items one) ∙ reverse-append (each value items) (value one ∷ [])

-- What is accepted is shown, where it is kept last,
pub shows_newest : (accepted new : List (ℕ × Said)) (one : ℕ × Said) (items items_then
    : List Accepted) (kept : Accepted) → new ≡ one ∷ accepted → said_shown one ≡ accepted_shown kept
    → items_then ≡ items ++ kept ∷ [] → each said_shown accepted ≡ shown_of items
    → each said_shown new ≡ shown_of items_then
shows_newest accepted new one items items_then kept now same more shown =
    ap (each said_shown) now
    ∙ ap₂ (λ (first : Shown) (others : List Shown). first ∷ others) same shown
    ∙ sym (newest accepted_shown items kept) ∙ ap shown_of (sym more)

-- and a part more of a message that was begun.
grown_said : (id : ℕ) (said more : Said) (grow : SentMessage × Bool → SentMessage × Bool)
    (accepted : List (ℕ × Said)) → said_for id accepted ≡ Some said
    → grow (said.message, is_begun said.form) ≡ (more.message, is_begun more.form)
    → each said_shown (replaced id more accepted) ≡ grown id grow (each said_shown accepted)
unfolding said_for replaced grown
grown_said id said more grow [] is grows = absurd (cc)
grown_said id said more grow ((i, one) ∷ accepted) is grows = elim (cases_Bool (i == id)) [
  | inl here ↦
      let same : one ≡ said = let given = rw here at is in cc in
      rw (here, same, grows) (ap
      (λ (j : ℕ). (j, (more.message, is_begun more.form)) ∷ each said_shown accepted)
      (sym (eqb-true i id here)))
  | inr other ↦ rw other (ap
      (λ (others : List Shown). (i, (one.message, is_begun one.form)) ∷ others)
      (grown_said id said more grow accepted (rw other at is) grows))
]

pub shows_grown : (accepted new : List (ℕ × Said)) (id : ℕ) (said more : Said)
    (grow : SentMessage × Bool → SentMessage × Bool) (items items_then : List Accepted)
    → said_for id accepted ≡ Some said → new ≡ replaced id more accepted
    → grow (said.message, is_begun said.form) ≡ (more.message, is_begun more.form)
    → shown_of items_then ≡ grown id grow (shown_of items)
    → each said_shown accepted ≡ shown_of items → each said_shown new ≡ shown_of items_then
shows_grown accepted new id said more grow items items_then was now grows kept shown =
    ap (each said_shown) now ∙ grown_said id said more grow accepted was grows
    ∙ ap (grown id grow) shown ∙ sym kept
