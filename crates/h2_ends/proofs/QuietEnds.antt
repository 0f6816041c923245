-- Whether an end is quiet, by what its connection answers and its streams say.
use Rattle.h2_ends.proofs.Names.{◌≡◌, ◌≢◌, ◌↔◌, ℕ, ◌≤◌, ◌==◌, Bool, true, false, arith, length}
use Rattle.h2_ends.proofs.Names.{Option, None, if◌then◌else◌, refl, sym, ap, ◌∙◌, both_ways}
use Rattle.h2_ends.proofs.Names.{eqb-true, eq-eqb, Code, Values, Log, owed, log_view, Conn}
use Rattle.h2_ends.proofs.Names.{ConnRepresents, End, EndLog, IsStuckOn, EndRepresents, waiting}
use Rattle.h2_ends.proofs.Names.{output, not, is_some, IsQuietEnd, reader_due}
use Rattle.h2_ends.proofs.SendingRelease.{ReadsFailed, up_by}
use Rattle.hpack.proofs.Tests.{not_false}

-- What `waiting` and `due` answer of any log that the connection represents.
abbrev pub ReadsWaiting : Conn → ℕ → Type 0
ReadsWaiting conn count =
    (values : Values) (log : Log) → ConnRepresents values conn log → count ≡ waiting log

abbrev pub ReadsDue : Conn → ℕ → Type 0
ReadsDue conn count =
    (values : Values) (log : Log) → ConnRepresents values conn log
    → count ≡ reader_due (log_view log)

-- All output was given out exactly where none waits.
none_waits : (log : Log) → log.given ≡ length log.written → waiting log ≡ 0
unfolding waiting output
none_waits log all = omega (arith, all)

all_given : (log : Log) → log.given ≤ length log.written → waiting log ≡ 0
    → log.given ≡ length log.written
unfolding waiting output
all_given log within none = omega (arith, within, none)

-- As long as the connection is up, `due` answers what is unreturned.
due_read : (log : Log) (count : ℕ) → log.failed ≡ None → count ≡ reader_due (log_view log)
    → count ≡ log.unreturned
due_read log count up is =
    is ∙ ap (λ (b : Bool). if b then 0 else log.unreturned) (ap is_some up)

-- A test that fails, where its opposite is the fact.
opposite : (fact test : Bool) → fact ≡ not test → test ≡ false → fact ≡ true
opposite true test is fails = refl
opposite false test is fails = is ∙ ap not fails

opposite_of : (fact test : Bool) → fact ≡ not test → test ≡ true → fact ≡ false
opposite_of true test is holds = is ∙ ap not holds
opposite_of false test is holds = refl

module _ (end : End) where
  -- The answer is whether the end is quiet, whatever has happened.
  abbrev pub TellsQuiet : Bool → Type 0
  TellsQuiet answer =
      (values : Values) (happened : EndLog) → EndRepresents values end happened
      → (answer ≡ true) ↔ IsQuietEnd happened

  abbrev pub IsNeverQuiet : Type 0
  IsNeverQuiet =
      (values : Values) (happened : EndLog) → EndRepresents values end happened
      → IsQuietEnd happened → ⊥

  pub tells_not : (answer : Bool) → answer ≡ false → IsNeverQuiet → TellsQuiet answer
  tells_not answer says_no never = λ values happened is. (
    λ says_yes. absurd (both_ways _ says_no says_yes),
    λ quiet. absurd (never values happened is quiet),
  )

  -- It isn't once the connection has failed,
  module _ (failed : Option Code) (up : Bool) (reads_failed : ReadsFailed end.conn failed)
      (tests : is_some failed ≡ not up) where
    pub not_quiet_down : up ≡ false → IsNeverQuiet
    not_quiet_down down = λ values happened is quiet.
        let none : failed ≡ None = reads_failed values happened.log is.streams.conn ∙ quiet.up in
        both_ways _ (ap is_some none) (opposite (is_some failed) up tests down)

    -- where output waits,
    module _ (waits : ℕ) (reads_waiting : ReadsWaiting end.conn waits) where
      pub not_quiet_waiting : (waits == 0) ≡ false → IsNeverQuiet
      not_quiet_waiting some = λ values happened is quiet.
          let none = reads_waiting values happened.log is.streams.conn
          ∙ none_waits happened.log quiet.given in
          both_ways _ some (eq-eqb waits 0 none)

      -- where something is to be returned,
      module _ (due : ℕ) (reads_due : ReadsDue end.conn due) where
        pub not_quiet_due : (due == 0) ≡ false → IsNeverQuiet
        not_quiet_due some = λ values happened is quiet.
            let none = due_read happened.log due quiet.up
            (reads_due values happened.log is.streams.conn) ∙ quiet.none_unreturned in
            both_ways _ some (eq-eqb due 0 none)

        -- or where something is owed; else it is, unless something could be sent.
        pub not_quiet_owing : (owes : Bool)
            → ((values : Values) (happened : EndLog) → EndRepresents values end happened
            → owes ≡ true → (i : ℕ) × (owed happened.log i ≢ 0)) → not owes ≡ false → IsNeverQuiet
        not_quiet_owing owes some answers = λ values happened is quiet.
            let here = some values happened is (not_false owes answers) in
            here.1 (quiet.none_owed here.0)

        pub quiet_unless : (owes sends : Bool) → up ≡ true → (waits == 0) ≡ true
            → (due == 0) ≡ true → not owes ≡ true
            → ((values : Values) (happened : EndLog) → EndRepresents values end happened
            → happened.log.failed ≡ None → owes ≡ false → (i : ℕ) → owed happened.log i ≡ 0)
            → ((values : Values) (happened : EndLog) → EndRepresents values end happened
            → sends ≡ true → (i : ℕ) × (IsStuckOn happened i → ⊥))
            → ((values : Values) (happened : EndLog) → EndRepresents values end happened
            → happened.log.failed ≡ None → sends ≡ false → (i : ℕ) → IsStuckOn happened i)
            → TellsQuiet (not sends)
        quiet_unless owes sends is_up none_waiting none_due none_owing owes_none sends_some
            sends_none = λ values happened is.
            let conn = is.streams.conn in
            let running : happened.log.failed ≡ None =
            sym (reads_failed values happened.log conn)
            ∙ up_by failed (sym (opposite_of (is_some failed) up tests is_up)) in (
              λ answer. record {
                up = running;
                given = all_given happened.log conn.machine.output.given
                    (sym (reads_waiting values happened.log conn) ∙ eqb-true waits 0 none_waiting);
                none_owed = owes_none values happened is running
                    (opposite_of owes (not owes) (twice owes) none_owing);
                none_unreturned = sym (due_read happened.log due running
                    (reads_due values happened.log conn)) ∙ eqb-true due 0 none_due;
                stuck = sends_none values happened is running
                    (opposite_of sends (not sends) (twice sends) answer);
              },
              λ quiet. answer_of_none sends (λ yes.
                  let there = sends_some values happened is yes in
                  there.1 (quiet.stuck there.0)),
            )
          where
            twice : (b : Bool) → b ≡ not (not b)
            twice true = refl
            twice false = refl

            answer_of_none : (b : Bool) → (b ≡ true → ⊥) → not b ≡ true
            answer_of_none true none = absurd (none refl)
            answer_of_none false none = refl
