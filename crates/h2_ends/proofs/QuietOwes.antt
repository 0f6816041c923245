-- Whether something is owed on a stream: those of the span are looked at in rising order, as in a
-- release that has released nothing.
use Rattle.h2_ends.proofs.Names.{◌≡◌, ◌≢◌, ◌⊎◌, inl, inr, ℕ, ◌+◌, ◌-◌, true, false, Bool, Option}
use Rattle.h2_ends.proofs.Names.{Some, None, if◌then◌else◌, refl, sym, ◌∙◌, subst, Code, Values}
use Rattle.h2_ends.proofs.Names.{reader_owed, owed, log_view, End, EndLog, EndRepresents, IsNextIn}
use Rattle.h2_ends.proofs.Names.{is_some}
use Rattle.h2_ends.proofs.PumpSteps.{next_kept, none_active}
use Rattle.h2_ends.proofs.ReleaseSteps.{IsReleasing, release_begins, release_comes, release_passes}
use Rattle.h2_ends.proofs.ReleaseSteps.{none_is_owed}
use Rattle.h2_ends.proofs.SendingRelease.{ReadsOwed, owed_read}

-- Nothing is owed on streams below a number.
abbrev pub OwesNoneTo : End → (id : ℕ) → Type 0
OwesNoneTo end id =
    (values : Values) (happened : EndLog) → EndRepresents values end happened
    → happened.log.failed ≡ None → IsReleasing values happened end happened id

-- The look begins at the span's first stream,
pub owes_begins : (end : End) (last : ℕ) → last ≡ end.spans.owing.first - 1
    → OwesNoneTo end (last + 1)
owes_begins end last first = λ values happened is up.
    subst (λ (n : ℕ). IsReleasing values happened end happened (n + 1)) (sym first)
    (release_begins values happened end is up)

-- passes the next active one, where nothing is owed,
pub owes_passes : (end : End) (last id count : ℕ) → OwesNoneTo end (last + 1)
    → IsNextIn end end.spans.owing last (Some id) → ReadsOwed end.conn id count
    → count ≡ 0 → OwesNoneTo end (id + 1)
owes_passes end last id count looked next reads none = λ values happened is up.
    release_passes values happened end happened id
    (release_comes values happened end happened last id (looked values happened is up)
    (next_kept end.spans end end.spans.owing happened last id is.in_step is.active up next.0))
    (sym (owed_read happened.log id count up (reads values happened.log is.streams.conn)) ∙ none)

-- and ends where none of the span is left.
pub owes_nowhere : (end : End) (last : ℕ) → OwesNoneTo end (last + 1)
    → IsNextIn end end.spans.owing last None → (values : Values) (happened : EndLog)
    → EndRepresents values end happened → happened.log.failed ≡ None
    → (i : ℕ) → owed happened.log i ≡ 0
owes_nowhere end last looked next = λ values happened is up.
    none_is_owed values happened end happened last (looked values happened is up)
    (none_active end.spans end happened last end.spans.owing is.in_step up next.1)

-- Where the connection answers that something is owed, it is.
up_or : (failed : Option Code) → (failed ≡ None) ⊎ (is_some failed ≡ true)
up_or None = inl refl
up_or (Some code) = inr refl

none_by : (down : Bool) (count some : ℕ) → down ≡ true → count ≡ (if down then 0 else some)
    → count ≡ 0
none_by true count some down is = is
none_by false count some down is = cc

pub owes_here : (end : End) (id count : ℕ) → ReadsOwed end.conn id count → count ≢ 0
    → (values : Values) (happened : EndLog) → EndRepresents values end happened
    → (i : ℕ) × (owed happened.log i ≢ 0)
owes_here end id count reads some = λ values happened is.
    let read : count ≡ reader_owed (log_view happened.log) id =
    reads values happened.log is.streams.conn in
    elim (up_or happened.log.failed) [
      | inl up ↦ (id, λ none. some (owed_read happened.log id count up read ∙ none))
      | inr down ↦ absurd (some (none_by (is_some happened.log.failed) count _ down read))
    ]
