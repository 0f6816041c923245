-- The calls of a release of all that is owed, one more at their end.
use Rattle.h2_ends.proofs.Names
use Names.{◌≡◌, ◌≢◌, ◌⊎◌, inl, inr, ℕ, ◌+◌, ◌<◌, ◌-◌, false, Option, Some, None, refl, sym, ◌∙◌}
use Names.{subst, arith, ltb-true, ltb-false, cases_Bool, cases_eq, Refusal, Values, IsTypedAct}
use Names.{Release, Done, Refused, Log, active, MayAnswer, ConnRepresents, End, EndLog, Span}
use Names.{EndRepresents, InSpan, end_after_call, LacksSpace, owed_inactive, owed, unreleased}
use Names.{with_call, MayReleaseAll, released, IsNextOwed, Ok, Err, nat_lt}
use Rattle.h2_ends.specs.EndCalls.{Releases, releases_no_more, releases_one, releases_refused}
use Rattle.h2_laws_end.proofs.OverRoom.{none_owed, none_owed_more}
use Rattle.h2_ends.proofs.ControlSteps.{closes_none}
use Rattle.h2_ends.proofs.InSteps.{called_as}
use Rattle.h2_ends.proofs.PumpRefusals.{release_refused}
use Rattle.h2_ends.proofs.PumpSteps.{IsNext, zero_inactive}
use Rattle.h2_ends.proofs.PumpWindows.{release_failed, refused_waits}
use Rattle.h2_ends.specs.declared.refusal.EndRefusal.TheVariants as refusals

-- Nothing is owed on any lower stream.
abbrev pub OwesNoneBelow : EndLog → ℕ → Type 0
OwesNoneBelow end id = (j : ℕ) → j < id → owed end.log j ≡ 0

-- the end after all that is owed on a stream was released
abbrev pub after_release : EndLog → ℕ → EndLog
after_release end id = end_after_call end (Release id (owed end.log id)) Done

-- the end after that was refused
abbrev pub after_refusal : EndLog → ℕ → Refusal → EndLog
after_refusal end id refusal = end_after_call end (Release id (owed end.log id)) (Refused refusal)

-- The calls so far, none of which was refused: as Releases, with the newest last.
pub data Releasing (start : EndLog) : (now : EndLog) → Type 0 where
  releases_nothing : Releasing start start
  releases_more : {now : EndLog} → Releasing start now → (id : ℕ) → IsNextOwed now id
      → IsTypedAct (Release id (owed now.log id))
      → MayAnswer now.log (Release id (owed now.log id)) Done
      → Releasing start (after_release now id)

-- Calls after them are calls of the release.
pub releases_after : (start now after : EndLog) (refused : Option Refusal) → Releasing start now
    → Releases now refused after → Releases start refused after
releases_after start _ after refused releases_nothing releases = releases
releases_after start _ after refused (releases_more {now = now} releasing id owes typed may)
    releases =
    releases_after start now after refused releasing
    (releases_one now id refused after owes typed may releases)

pub releases_all : (start now : EndLog) → Releasing start now → Releases start None now
releases_all start now releasing =
    releases_after start now now None releasing (releases_no_more now)

pub releases_until_refused : (start now : EndLog) (id : ℕ) (refusal : Refusal)
    → Releasing start now → IsNextOwed now id → IsTypedAct (Release id (owed now.log id))
    → MayAnswer now.log (Release id (owed now.log id)) (Refused refusal)
    → Releases start (Some refusal) (after_refusal now id refusal)
releases_until_refused start now id refusal releasing owes typed may =
    releases_after start now _ (Some refusal) releasing
    (releases_refused now id refusal owes typed may)

-- The end represents what has happened so far, and nothing is owed on a stream below this one.
pub record IsReleasing (values : Values) (start : EndLog) (end : End) (happened : EndLog)
    (id : ℕ) : Type 0 where
  pub represents : EndRepresents values end happened
  pub calls : Releasing start happened
  pub up : happened.log.failed ≡ None
  pub below : OwesNoneBelow happened id

-- Nothing is owed below the span, which begins above that number, unless both are 0.
none_below : (values : Values) (end : End) (start : EndLog) (j : ℕ)
    → EndRepresents values end start → j < (end.spans.owing.first - 1) + 1
    → owed start.log j ≡ 0
none_below values end start j is low = elim (cases_eq (owed start.log j) 0) [
  | inl none ↦ none
  | inr some ↦ elim (cases_eq j 0) [
    | inl zero ↦ subst (λ (i : ℕ). owed start.log i ≡ 0) (sym zero)
        (owed_inactive start.log 0 (zero_inactive start.log))
    | inr above ↦ let here = ((is.in_step j).owes some).first in
        omega (arith, here, low, above)
  ]
]

-- It begins,
pub release_begins : (values : Values) (start : EndLog) (end : End)
    → EndRepresents values end start → start.log.failed ≡ None
    → IsReleasing values start end start ((end.spans.owing.first - 1) + 1)
release_begins values start end is up =
    record {
      represents = is;
      calls = releases_nothing;
      up = up;
      below = λ j low. none_below values end start j is low;
    }

-- comes to the next active stream,
pub below_or : (j last : ℕ) → (j < last + 1) ⊎ (last < j)
below_or j last = elim (cases_Bool (nat_lt last j)) [
  | inl above ↦ inr (ltb-true last j above)
  | inr low ↦ inl (let few = ltb-false last j low in omega (arith, few))
]

pub release_comes : (values : Values) (start : EndLog) (end : End) (happened : EndLog)
    (last id : ℕ) → IsReleasing values start end happened (last + 1)
    → IsNext happened.log last id → IsReleasing values start end happened id
release_comes values start end happened last id is next =
    record {
      represents = is.represents;
      calls = is.calls;
      up = is.up;
      below = λ j low. elim (below_or j last) [
        | inl here ↦ is.below j here
        | inr above ↦ owed_inactive happened.log j (next.between j above low)
      ];
    }

-- passes it, where nothing is owed on it,
pub release_passes : (values : Values) (start : EndLog) (end : End) (happened : EndLog) (id : ℕ)
    → IsReleasing values start end happened id → owed happened.log id ≡ 0
    → IsReleasing values start end happened (id + 1)
release_passes values start end happened id is none =
    record {
      represents = is.represents;
      calls = is.calls;
      up = is.up;
      below = λ j low. elim (below_or id j) [
        | inl up ↦ absurd_or j low up
        | inr under ↦ is.below j under
      ];
    }
  where
    absurd_or : (j : ℕ) → j < id + 1 → id < j + 1 → owed happened.log j ≡ 0
    absurd_or j low up = let same : id ≡ j = omega (arith, low, up) in
        subst (λ (i : ℕ). owed happened.log i ≡ 0) same none

-- or once that was released.
pub release_goes_on : (values : Values) (start : EndLog) (end new : End) (happened : EndLog)
    (id : ℕ) → IsReleasing values start end happened id → owed happened.log id ≢ 0
    → IsTypedAct (Release id (owed happened.log id))
    → MayAnswer happened.log (Release id (owed happened.log id)) Done
    → ConnRepresents values new.conn (after_release happened id).log
    → new.role ≡ end.role → new.streams ≡ end.streams → new.spans ≡ end.spans
    → IsReleasing values start new (after_release happened id) (id + 1)
release_goes_on values start end new happened id is some typed may conn role streams spans =
    release_passes values start new (after_release happened id) id (record {
      represents = called_as values end new happened (Release id (owed happened.log id)) Done
          is.represents may conn role streams spans
          (λ i. (closes_none (Release id (owed happened.log id)) Done i tt).0) (λ i number. cc)
          (λ i. (closes_none (Release id (owed happened.log id)) Done i tt).1);
      calls = releases_more is.calls id (record { some = some; below = is.below }) typed may;
      up = release_failed happened.log id (owed happened.log id) ∙ is.up;
      below = λ j low.
          none_owed_more happened.log id (owed happened.log id) j Done (is.below j low);
    }) (none_owed happened.log id)

module _ (values : Values) (start : EndLog) (end : End) (happened : EndLog) (last : ℕ) where
  -- It ends where no active stream of the span is left,
  pub none_is_owed : IsReleasing values start end happened (last + 1)
      → ((j : ℕ) → last < j → InSpan end.spans.owing j → active happened.log j ≡ false) → (i : ℕ)
      → owed happened.log i ≡ 0
  none_is_owed is none i = elim (below_or i last) [
    | inl here ↦ is.below i here
    | inr above ↦ elim (cases_eq (owed happened.log i) 0) [
      | inl zero ↦ zero
      | inr some ↦ owed_inactive happened.log i
          (none i above ((is.represents.in_step i).owes some))
    ]
  ]

  pub release_ends : start.log.failed ≡ None → IsReleasing values start end happened (last + 1)
      → ((j : ℕ) → last < j → InSpan end.spans.owing j → active happened.log j ≡ false)
      → MayReleaseAll start (Ok (record {})) happened
  unfolding MayReleaseAll
  release_ends up is none = (up, releases_all start happened is.calls, none_is_owed is none)

-- where the span may be any,
pub none_owing : (values : Values) (end : End) (happened : EndLog) (span : Span)
    → EndRepresents values end happened → ((i : ℕ) → owed happened.log i ≡ 0)
    → EndRepresents values (record end { spans = record end.spans { owing = span } }) happened
none_owing values end happened span is none =
    record {
      streams = record {
        conn = is.streams.conn;
        role = is.streams.role;
        streams = is.streams.streams;
        sent = is.streams.sent;
      };
      in_step = λ i. record {
        all = (is.in_step i).all;
        handed = (is.in_step i).handed;
        within = (is.in_step i).within;
        owes = λ some. absurd (some (none i));
        turn = (is.in_step i).turn;
        malformed = (is.in_step i).malformed;
      };
      active = is.active;
    }

-- or with a call that is refused.
pub refusal_represents : (values : Values) (start : EndLog) (end new : End) (happened : EndLog)
    (id : ℕ) (refusal : Refusal) → IsReleasing values start end happened id
    → MayAnswer happened.log (Release id (owed happened.log id)) (Refused refusal)
    → ConnRepresents values new.conn (after_refusal happened id refusal).log
    → new.role ≡ end.role → new.streams ≡ end.streams → new.spans ≡ end.spans
    → EndRepresents values new (after_refusal happened id refusal)
refusal_represents values start end new happened id refusal is may conn role streams spans =
    called_as values end new happened (Release id (owed happened.log id)) (Refused refusal)
    is.represents may conn role streams spans
    (λ i. (closes_none (Release id (owed happened.log id)) (Refused refusal) i tt).0)
    (λ i number. cc)
    (λ i. (closes_none (Release id (owed happened.log id)) (Refused refusal) i tt).1)

-- As much is owed then.
refused_owes : (log : Log) (id count : ℕ) (refusal : Refusal)
    → owed (with_call log (Release id count) (Refused refusal)) id ≡ owed log id
unfolding owed unreleased released with_call
refused_owes log id count refusal = refl

refused_by : (start now : EndLog) (id : ℕ) (refusal : Refusal) → start.log.failed ≡ None
    → owed now.log id ≢ 0 → Releases start (Some refusal) (after_refusal now id refusal)
    → LacksSpace now.log refusal
    → MayReleaseAll start (Err (refusals.Conn refusal)) (after_refusal now id refusal)
unfolding MayReleaseAll
refused_by start now id refusal up some calls (inl (is, full)) =
    let after = after_refusal now id refusal in
    let same = refused_waits now.log (Release id (owed now.log id)) refusal in
    subst (λ (r : Refusal). MayReleaseAll start (Err (refusals.Conn r)) after) (sym is) (
      up,
      subst (λ (r : Refusal). Releases start (Some r) after) is calls,
      omega (arith, full, same),
      (id, λ none. some (sym (refused_owes now.log id (owed now.log id) refusal) ∙ none)),
    )
refused_by start now id refusal up some calls (inr is) =
    let after = after_refusal now id refusal in
    subst (λ (r : Refusal). MayReleaseAll start (Err (refusals.Conn r)) after) (sym is)
    (up, subst (λ (r : Refusal). Releases start (Some r) after) is calls)

pub release_is_refused : (values : Values) (start : EndLog) (end : End) (happened : EndLog)
    (id : ℕ) (refusal : Refusal) → start.log.failed ≡ None
    → IsReleasing values start end happened id → owed happened.log id ≢ 0
    → IsTypedAct (Release id (owed happened.log id))
    → MayAnswer happened.log (Release id (owed happened.log id)) (Refused refusal)
    → MayReleaseAll start (Err (refusals.Conn refusal)) (after_refusal happened id refusal)
release_is_refused values start end happened id refusal up is some typed may =
    refused_by start happened id refusal up some
    (releases_until_refused start happened id refusal is.calls
    (record { some = some; below = is.below }) typed may)
    (release_refused happened.log id refusal is.up some may)
