-- Octets of an output that are put on a pipe.
use Rattle.h2_joined.proofs.Names
use Names.{◌+◌, ◌<◌, ◌^◌, [], ◌++◌, take, drop, Result, Ok, Err, refl, sym, ap, ◌∙◌, subst}
use Names.{append_assoc, append-nil, arith, length-take, Refusal, Values, PutOut, Count, Refused}
use Names.{Log, answer_by, given_since, EndLog, EndAnswers, EndRepresents, Side, Acted, Pipe}
use Names.{Joined, acted_as, moves, with_answer, with_given, HoldsOctets, MakesAct, made, end_at}
use Names.{kept_of, other_side, IsTypedAct, with_call, ◌≡◌, ℕ, List, IfOk, length-append}
use Rattle.std.specs.Result.{OnErr}
use Rattle.std.proofs.lemmas.List.{drop_all}
use Rattle.h2_conn.specs.Conn.{GivesOut}
use Rattle.h2_joined.specs.Joints.{Moves}
use Rattle.h2_joined.specs.Parts.{shown_of}
use Rattle.h2_joined.proofs.KeptActs.{acts_by, keeps_same, same_kept}

-- More octets are on a pipe.
pub record PipesMore (old new : Pipe) (more : List ℕ) : Type 0 where
  pub items : new.octets.items ≡ old.octets.items ++ more
  pub used : new.used ≡ old.used

holds_more : (old new : Pipe) (octets more : List ℕ) → PipesMore old new more
    → HoldsOctets old octets → HoldsOctets new (octets ++ more)
holds_more old new octets more pipes holds =
    record {
      delivered = holds.delivered;
      items = pipes.items ∙ ap (λ (all : List ℕ). all ++ more) holds.items
          ∙ append_assoc holds.delivered octets more;
      count = pipes.used ∙ holds.count;
      half = omega (arith, holds.half, length-append octets more);
    }

-- The call was made at one end, and what it gave out is on the pipe to the other.
pub record MovesAt (side : Side) (old : Joined) (count : ℕ) (result : Result ℕ Refusal)
    (new : Joined) : Type 0 where
  pub answers : EndAnswers (end_at side old) (PutOut count)
      (answer_by (λ given. Count given) result) (end_at side new)
  pub other_end : end_at (other_side side) new ≡ end_at (other_side side) old
  pub kept : kept_of side new ≡ kept_of side old
  pub accepted : (kept_of (other_side side) new).accepted
      ≡ (kept_of (other_side side) old).accepted
  pub handed : (kept_of (other_side side) new).handed ≡ (kept_of (other_side side) old).handed
  pub used : (kept_of (other_side side) new).incoming.used
      ≡ (kept_of (other_side side) old).incoming.used
  pub unfinished : (kept_of (other_side side) new).unfinished
      ≡ (kept_of (other_side side) old).unfinished
  pub gives : IfOk result (λ given. GivesOut (end_at side old).conn count given
      (kept_of (other_side side) old).incoming.octets.items
      (kept_of (other_side side) new).incoming.octets.items)
  pub gives_none : OnErr result ((kept_of (other_side side) new).incoming.octets.items
      ≡ (kept_of (other_side side) old).incoming.octets.items)

-- Those octets are the ones that the end has given out since.
given_ok : (log : Log) (count given : ℕ)
    → drop log.given (take (log.given + given) (with_call log (PutOut count) (Count given)).written)
    ≡ given_since log (with_call log (PutOut count) (Count given))
unfolding with_call
given_ok log count given = refl

given_none : (log : Log) (count : ℕ) (refusal : Refusal)
    → given_since log (with_call log (PutOut count) (Refused refusal)) ≡ []
unfolding with_call
given_none log count refusal =
    drop_all log.given (take log.given log.written)
    (omega (arith, length-take log.given log.written))

moved : (values : Values) (side : Side) (old new : Joined) (count : ℕ) (one : EndLog)
    (result : Result ℕ Refusal) → MovesAt side old count result new
    → EndRepresents values (end_at side old) one
    → PipesMore (kept_of (other_side side) old).incoming (kept_of (other_side side) new).incoming
    (given_since one.log
    (with_call one.log (PutOut count) (answer_by (λ given. Count given) result)))
moved values side old new count one (Ok given) at represents =
    record {
      items = at.gives values one.log represents.streams.conn
          ∙ ap (λ (more : List ℕ). (kept_of (other_side side) old).incoming.octets.items ++ more)
          (given_ok one.log count given);
      used = at.used;
    }
moved values side old new count one (Err refusal) at represents =
    record {
      items = at.gives_none ∙ sym (append-nil (kept_of (other_side side) old).incoming.octets.items)
          ∙ ap (λ (more : List ℕ). (kept_of (other_side side) old).incoming.octets.items ++ more)
          (sym (given_none one.log count refusal));
      used = at.used;
    }

pub moves_acts : (side : Side) (old new : Joined) (count : ℕ) (result : Result ℕ Refusal)
    (answer : Acted) → answer ≡ acted_as (answer_by (λ given. Count given) result)
    → count < 2 ^ 64 → MovesAt side old count result new
    → MakesAct old (made side (Moves count) answer) new
unfolding IsTypedAct
moves_acts side old new count result answer same fits at =
    let answered = answer_by (λ given. Count given) result in
    subst (λ (a : Acted). MakesAct old (made side (Moves count) a) new) (sym same)
    (acts_by _ _ _ _ (acted_as answered) at.other_end
    (λ values one other represents begun keeps other_keeps.
    let (may, now) = at.answers values one.happened represents in
    let ours = kept_of side old in
    let theirs = kept_of (other_side side) old in
    let after = kept_of (other_side side) new in
    let stays = keeps_same theirs (record after { incoming = theirs.incoming }) other other
    other_keeps (record {
      incoming = refl;
      accepted = ap (λ a. shown_of a.items) at.accepted;
      handed = at.handed;
      unfinished = at.unfinished;
    }) refl refl refl refl in
    record {
      new_one = with_answer one (PutOut count) answered;
      new_other = with_given other one (PutOut count) answered;
      may = moves count answered fits may;
      represents = now;
      kept = keeps_same _ _ one _ keeps (same_kept _ _ at.kept) refl refl refl refl;
      happened = refl;
      other_kept = record {
        incoming = holds_more _ _ other.incoming _
            (moved values _ _ _ _ one.happened _ at represents) other_keeps.incoming;
        accepted = stays.accepted;
        handed = stays.handed;
        unfinished = stays.unfinished;
      };
    }))
