-- Steps after which credit has been returned, stream by stream.
use Rattle.std.proofs.Common.{◌≡◌, ◌⊎◌, ◌≤◌, ◌-◌, ℕ, false, Option, Some, None}
use Rattle.std.proofs.Common.{Ok, Err, [], refl, sym, subst, inl, inr, arith}
use Rattle.std.proofs.lemmas.Bool.{cases_lt, cases_eq}
use Rattle.std.specs.Prelude.{List, Result, OnOk}
use Rattle.h2_spec_log.specs.Acts.{Values, Release, Done, Refused}
use Rattle.h2_spec_log.specs.CallRules.{reader_owed}
use Rattle.h2_spec_log.specs.Limits.{full_output}
use Rattle.h2_spec_log.specs.Log.{Log, owed, reader_next_live, waiting}
use Rattle.h2_spec_log.specs.LogCalls.{with_call}
use Rattle.h2_spec_log.specs.LogView.{log_view}
use Rattle.h2_spec_log.specs.declared.refusal.Refusal.{Refusal}
use Rattle.h2_spec_log.specs.declared.refusal.Refusal.TheVariants.{OutputFull}
use Rattle.h2_conn.specs.Conn.{ConnRepresents, answer_by}
use Rattle.h2_ends.proofs.PumpWindows.{refused_waits}
use Rattle.h2_ends.specs.declared.end.End.{End}
use Rattle.h2_ends.specs.declared.refusal.EndRefusal.{EndRefusal}
use Rattle.h2_ends.specs.declared.refusal.EndRefusal.TheVariants.{Conn}
use Rattle.h2_ends.specs.EndCalls.{MayReleaseAll}
use Rattle.h2_ends.specs.EndTakes.{end_with_log}
use Rattle.h2_ends.specs.Ends.{EndLog}
use Rattle.h2_ends.specs.Represents.{EndAnswers, EndReleases, EndRepresents}
use Rattle.h2_server.specs.Credit.{HandlesCredit, HandlesCreditOn, IsDoneOrFull}
use Rattle.h2_server.specs.Credit.{IsEndDoneOrFull, OwesAtMost, unused_at}
use Rattle.h2_server.specs.Exchanges.{Handling, Relations}
use Rattle.h2_server.specs.Steps.{Handles, Steps}
use Rattle.h2_server.specs.Steps as steps
use Rattle.h2_server.specs.declared.exchange.Exchange.{Exchange}
use Rattle.h2_server.specs.declared.stop.Stop.{Stop}
use Rattle.h2_server.proofs.CreditReturned.{full_by_refusal, none_owed_above, none_owed_at_zero}
use Rattle.h2_server.proofs.CreditReturned.{none_owed_between, nothing_owed, refused_reads}
use Rattle.h2_server.proofs.CreditReturned.{released_less, released_on_it}
use Rattle.h2_server.proofs.StepsMade.{same, steps_then}

-- What `owed`, `is_full` and `next_live` answer of any log that the connection of an end
-- represents.
abbrev pub ReadsOwed : End → (id count : ℕ) → Type 0
ReadsOwed end id count =
    (values : Values) (log : Log) → ConnRepresents values end.conn log
    → count ≡ reader_owed (log_view log) id

abbrev pub ReadsFull : End → Type 0
ReadsFull end =
    (values : Values) (log : Log) → ConnRepresents values end.conn log
    → full_output ≤ waiting log

abbrev pub ReadsNotFull : End → Type 0
ReadsNotFull end =
    (values : Values) (log : Log) → ConnRepresents values end.conn log
    → full_output ≤ waiting log → ⊥

abbrev pub ReadsNext : End → (above : ℕ) → Option ℕ → Type 0
ReadsNext end above next =
    (values : Values) (log : Log) → ConnRepresents values end.conn log
    → next ≡ reader_next_live log above

-- Credit was returned on each stream up to a number.
abbrev pub HandlesUpTo : {H W : Type 0} → Relations H W → (old_end : End) → Handling H W
    → (above : ℕ) → (new_end : End) → Type 0
HandlesUpTo rel old_end handling above new_end =
    (values : Values) (end : EndLog) → EndRepresents values old_end end
    → (after : EndLog) × Steps rel false after handling [] [] end handling
    × EndRepresents values new_end after
    × ((full_output ≤ waiting after.log)
    ⊎ ((i : ℕ) → i ≤ above → reader_owed (log_view after.log) i ≤ unused_at i handling.entries))

on_any : {P : Type 0} (result : Result (Unit {0}) Stop) → P → OnOk result P
on_any (Ok done) holds = holds
on_any (Err stop) holds = tt

-- What is owed up to the next active stream.
next_owes : {W : Type 0} (entries : List (ℕ × Exchange W)) (above id : ℕ) (mid after : Log) (i : ℕ)
    → reader_next_live mid above ≡ Some id
    → ((j : ℕ) → j ≤ above → reader_owed (log_view mid) j ≤ unused_at j entries)
    → ((j : ℕ) → reader_owed (log_view after) j ≤ reader_owed (log_view mid) j)
    → reader_owed (log_view after) id ≤ unused_at id entries → i ≤ id
    → reader_owed (log_view after) i ≤ unused_at i entries
next_owes entries above id mid after i next so less here low = elim (cases_lt above i) [
  | inl later ↦ elim (cases_eq i id) [
    | inl it ↦
        subst (λ (n : ℕ). reader_owed (log_view after) n ≤ unused_at n entries) (sym it) here
    | inr other ↦ omega (
      arith,
      less i,
      none_owed_between mid above id i next later (omega (arith, low, other)),
    )
  ]
  | inr before ↦ omega (arith, less i, so i (omega (arith, before)))
]

-- What a release of all leaves owed: nothing; or the output is full.
none_left : (end after : EndLog) → MayReleaseAll end (Ok tt) after → (i : ℕ)
    → owed after.log i ≡ 0
unfolding MayReleaseAll
none_left end after may = may.2

full_then : (end after : EndLog) → MayReleaseAll end (Err (Conn OutputFull)) after
    → full_output ≤ waiting after.log
unfolding MayReleaseAll
full_then end after may = may.2

all_so : (most : ℕ → ℕ) (end after : EndLog) (answer : Result (Unit {0}) EndRefusal)
    → MayReleaseAll end answer after → IsEndDoneOrFull answer → OwesAtMost after.log most
all_so most end after answer may (inl done) =
    inr (λ i. omega (
      arith,
      nothing_owed after.log i (none_left end after
          (subst (λ (one : Result (Unit {0}) EndRefusal). MayReleaseAll end one after) done may) i),
    ))
all_so most end after answer may (inr full) =
    inl (full_then end after
    (subst (λ (one : Result (Unit {0}) EndRefusal). MayReleaseAll end one after) full may))

module _ {H W : Type 0} {rel : Relations H W} where
  -- There was nothing to return,
  pub kept_on : {one : End} (a : Handling H W) (id unused count : ℕ) → ReadsOwed one id count
      → count - unused ≡ 0 → HandlesCreditOn rel id unused one a one (Ok tt)
  kept_on a id unused count reads none values end is = (
    end,
    steps.none,
    is,
    record {
      less = λ i. omega arith;
      full = λ full. full;
      on = inr (omega (arith, none, reads values end.log is.streams.conn));
    },
  )

  -- or the output was full,
  pub full_on : {one : End} (a : Handling H W) (id unused : ℕ) → ReadsFull one
      → HandlesCreditOn rel id unused one a one (Ok tt)
  full_on a id unused reads values end is = (
    end,
    steps.none,
    is,
    record {
      less = λ i. omega arith;
      full = λ full. full;
      on = inl (reads values end.log is.streams.conn);
    },
  )

  -- or a call was made for it.
  pub returned_on : {one two : End} (a : Handling H W) (id unused count : ℕ)
      (answer : Result (Unit {0}) Refusal) (result : Result (Unit {0}) Stop)
      → ReadsOwed one id count → ReadsNotFull one
      → EndAnswers one (Release id (count - unused)) (answer_by (λ done. Done) answer) two
      → OnOk result (IsDoneOrFull answer)
      → HandlesCreditOn rel id unused one a two result
  returned_on a id unused count (Ok done) result reads free answers so values end is =
      let made = answers values end is in (
        end_with_log end (with_call end.log (Release id (count - unused)) Done),
        steps.more (steps.calls (Release id (count - unused)) Done tt made.0 refl (same a))
            steps.none,
        made.1,
        record {
          less = λ i. released_less end.log id (count - unused) i made.0;
          full = λ full. absurd (free values end.log is.streams.conn full);
          on = on_any result (inr (omega (
            arith,
            released_on_it end.log id (count - unused) made.0,
            reads values end.log is.streams.conn,
          )));
        },
      )
  returned_on a id unused count (Err refusal) (Ok done) reads free answers so values end is =
      let made = answers values end is in
      let act = Release id (count - unused) in
      let refused : refusal ≡ OutputFull = elim so [
        | inl wrong ↦ cc
        | inr is_full ↦ cc
      ] in
      let full = full_by_refusal end.log id (count - unused) (rw refused at made.0) in (
        end_with_log end (with_call end.log act (Refused refusal)),
        steps.more (steps.calls act (Refused refusal) tt made.0 refl (same a)) steps.none,
        made.1,
        record {
          less = λ i. omega (arith, refused_reads end.log id (count - unused) i refusal);
          full = λ full. omega (arith, full, refused_waits end.log act refusal);
          on = inl (omega (arith, full, refused_waits end.log act refusal));
        },
      )
  returned_on a id unused count (Err refusal) (Err stop) reads free answers so values end is =
      let made = answers values end is in
      let act = Release id (count - unused) in (
        end_with_log end (with_call end.log act (Refused refusal)),
        steps.more (steps.calls act (Refused refusal) tt made.0 refl (same a)) steps.none,
        made.1,
        record {
          less = λ i. omega (arith, refused_reads end.log id (count - unused) i refusal);
          full = λ full. omega (arith, full, refused_waits end.log act refusal);
          on = tt;
        },
      )

  -- These are steps of the server.
  pub on_handles : {one two : End} {a : Handling H W} {id unused : ℕ}
      {result : Result (Unit {0}) Stop} → HandlesCreditOn rel id unused one a two result
      → Handles rel [] one a two a
  on_handles made values end is =
      let (after, did, there, so) = made values end is in (after, did, there)

  pub up_to_handles : {one two : End} {a : Handling H W} {above : ℕ}
      → HandlesUpTo rel one a above two → Handles rel [] one a two a
  up_to_handles made values end is =
      let (after, did, there, so) = made values end is in (after, did, there)

  -- It begins,
  pub begun_up_to : (one : End) (a : Handling H W) → HandlesUpTo rel one a 0 one
  begun_up_to one a values end is = (
    end,
    steps.none,
    is,
    inr (λ i low.
        let zero : 0 ≡ i = omega (arith, low) in
        subst (λ (n : ℕ). reader_owed (log_view end.log) n ≤ unused_at n a.entries) zero
        (omega (arith, none_owed_at_zero end.log))),
  )

  -- goes on with the next active stream,
  pub next_up_to : {one two three : End} {a : Handling H W} (above id : ℕ)
      → HandlesUpTo rel one a above two → ReadsNext two above (Some id)
      → HandlesCreditOn rel id (unused_at id a.entries) two a three (Ok tt)
      → HandlesUpTo rel one a id three
  next_up_to {a} above id first reads then values end is =
      let (mid, made, there, so) = first values end is in
      let (after, more_made, now, returns) = then values mid there in
      let next = sym (reads values mid.log there.streams.conn) in (
        after,
        steps_then made more_made,
        now,
        elim so [
          | inl full ↦ inl (returns.full full)
          | inr low ↦ elim returns.on [
            | inl full ↦ inl full
            | inr here ↦
                inr (λ i. next_owes a.entries above id mid.log after.log i next low returns.less
                here)
          ]
        ],
      )

  -- and ends where there is none.
  pub all_up_to : {one two : End} {a : Handling H W} (above : ℕ)
      → HandlesUpTo rel one a above two → ReadsNext two above None
      → HandlesCredit rel one a two a
  all_up_to {a} above made reads values end is =
      let (after, did, there, so) = made values end is in
      let next = sym (reads values after.log there.streams.conn) in (
        after,
        did,
        there,
        elim so [
          | inl full ↦ inl full
          | inr low ↦ inr (λ i. elim (cases_lt above i) [
            | inl later ↦ omega (arith, none_owed_above after.log above i next later)
            | inr before ↦ low i (omega (arith, before))
          ])
        ],
      )

  -- All that is owed was released, or the output is full.
  all_returned : {one two : End} (a : Handling H W) (answer : Result (Unit {0}) EndRefusal)
      → EndReleases one answer two → IsEndDoneOrFull answer → HandlesCredit rel one a two a
  all_returned a answer made so values end is =
      let (after, may, there) = made values end is in (
        after,
        steps.more {next = after} (steps.releases answer may (same a)) steps.none,
        there,
        all_so (λ i. unused_at i a.entries) end after answer may so,
      )

  -- Steps before that.
  pub then_credit : {one two three : End} {a b c : Handling H W} → Handles rel [] one a two b
      → HandlesCredit rel two b three c → HandlesCredit rel one a three c
  then_credit first second values end is =
      let (mid, made, there) = first values end is in
      let (after, more_made, then, so) = second values mid there in
      (after, steps_then made more_made, then, so)

  pub then_credit_on : {one two : End} {a b : Handling H W} (three : End) (c : Handling H W)
      (result : Result (Unit {0}) Stop) → Handles rel [] one a two b
      → OnOk result (HandlesCredit rel two b three c)
      → OnOk result (HandlesCredit rel one a three c)
  then_credit_on three c (Ok done) first second = then_credit first second
  then_credit_on three c (Err stop) first second = tt

pub all_returned_on : {H W : Type 0} (rel : Relations H W) {one two : End} (a : Handling H W)
    (answer : Result (Unit {0}) EndRefusal) (result : Result (Unit {0}) Stop)
    → EndReleases one answer two → OnOk result (IsEndDoneOrFull answer)
    → OnOk result (HandlesCredit rel one a two a)
all_returned_on rel a answer (Ok done) made so = all_returned a answer made so
all_returned_on rel a answer (Err stop) made so = tt
