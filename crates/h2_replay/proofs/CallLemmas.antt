-- A connection after a call, and the octets that it puts out.
use Rattle.h2_replay.proofs.Names.{◌≡◌, ℕ, ◌+◌, List, [], ◌++◌, take, drop, refl, sym, ap, subst}
use Rattle.h2_replay.proofs.Names.{◌∙◌, drop-take, Act, Answer, PutOut, Count, Refused, shown}
use Rattle.h2_replay.proofs.Names.{IsTypedAct, Log, with_call, Conn, ConnAnswers, answer_by}
use Rattle.h2_replay.proofs.Names.{call_of, MakesCall}
use Rattle.std.proofs.Common.{Result, Ok, Err, IfOk, OnErr}
use Rattle.h2_spec_log.specs.declared.refusal.Refusal.{Refusal}
use Rattle.h2_conn.specs.Conn.{ConnShows, GivesOut}
use Rattle.h2_replay.proofs.StepOutput.{given_by, writes_call}
use Rattle.h2_replay.specs.declared.acts.Act as code

-- It gives nothing out.
abbrev pub GivesNone : Act → Type 0
GivesNone (PutOut count) = ⊥
GivesNone act = Unit {0}

none_given : (answer : Answer) (act : Act) → GivesNone act → given_by answer act ≡ 0
none_given (Count given) (PutOut count) none = absurd none
none_given (Count given) act none = refl
none_given answer act none = refl

-- The octets that were put out, as many as were.
given_octets : (octets written : List ℕ) (before after count : ℕ) → after ≡ before + count
    → octets ≡ drop before (take (before + count) written)
    → octets ≡ drop before (take after written)
given_octets octets written before after count is are =
    are ∙ ap (λ (n : ℕ). drop before (take n written)) (sym is)

-- None.
no_octets : (written : List ℕ) (before : ℕ) → [] ≡ drop before (take (before + 0) written)
no_octets written before = sym (drop-take before 0 written)

gives_none : (log : Log) (act : Act) (one : Answer) (octets : List ℕ) → GivesNone act
    → octets ≡ [] → octets ≡ drop log.given
    (take (with_call log act one).given (with_call log act one).written)
gives_none log act one octets none are =
    given_octets octets (with_call log act one).written log.given (with_call log act one).given 0
    ((writes_call log act one).given
    ∙ ap (λ (n : ℕ). log.given + n) (none_given one act none))
    (are ∙ no_octets (with_call log act one).written log.given)

-- What an answer shows is itself, but where memory was refused.
pub shows_itself : {A : Type 0} (f : A → Answer) (result : Result A Refusal)
    → ((value : A) → shown (f value) ≡ f value) → shown (answer_by f result) ≡ answer_by f result
shows_itself f (Ok value) same = same value
shows_itself f (Err refusal) same = refl

-- A call that gives nothing out.
pub answered_call : (old new : Conn) (act : Act) (value answer : Answer) (octets : List ℕ)
    → value ≡ answer → shown answer ≡ answer → GivesNone act → octets ≡ []
    → ConnAnswers old act answer new → MakesCall old act value octets new
answered_call old new act value answer octets is shows none are answers values log represents =
    let made = answers values log represents in
    record {
      one = answer;
      shows = shows ∙ sym is;
      may = made.0;
      represents = made.1;
      given = gives_none log act answer octets none are;
    }

-- The same of a call that shows an answer.
pub shown_call : (old new : Conn) (act : Act) (value answer : Answer) (octets : List ℕ)
    → value ≡ answer → GivesNone act → octets ≡ []
    → ConnShows old act answer new → MakesCall old act value octets new
shown_call old new act value answer octets is none are shows values log represents =
    let made = shows values log represents in
    record {
      one = made.0;
      shows = made.1 ∙ sym is;
      may = made.2;
      represents = made.3;
      given = gives_none log act made.0 octets none are;
    }

-- Octets are put out.
put_out_by : (result : Result ℕ Refusal) (old new : Conn) (count : ℕ) (before after : List ℕ)
    → before ≡ [] → ConnAnswers old (PutOut count) (answer_by (λ given. Count given) result) new
    → IfOk result (λ given. GivesOut old count given before after)
    → OnErr result (after ≡ before)
    → MakesCall old (PutOut count) (answer_by (λ given. Count given) result) after new
put_out_by (Ok given) old new count before after none answers ok err values log represents =
    let made = answers values log represents in
    let written = (with_call log (PutOut count) (Count given)).written in
    record {
      one = Count given;
      shows = refl;
      may = made.0;
      represents = made.1;
      given = given_octets after written log.given _ given
          (writes_call log (PutOut count) (Count given)).given
          (ok values log represents
          ∙ ap (λ (o : List ℕ). o ++ drop log.given (take (log.given + given) written)) none);
    }
put_out_by (Err refusal) old new count before after none answers ok err values log represents =
    let made = answers values log represents in
    let written = (with_call log (PutOut count) (Refused refusal)).written in
    record {
      one = Refused refusal;
      shows = refl;
      may = made.0;
      represents = made.1;
      given = given_octets after written log.given _ 0
          (writes_call log (PutOut count) (Refused refusal)).given
          (err ∙ none ∙ no_octets written log.given);
    }

pub put_out_call : (result : Result ℕ Refusal) (old new : Conn) (count : ℕ) (value : Answer)
    (before after : List ℕ) → value ≡ answer_by (λ given. Count given) result → before ≡ []
    → ConnAnswers old (PutOut count) (answer_by (λ given. Count given) result) new
    → IfOk result (λ given. GivesOut old count given before after)
    → OnErr result (after ≡ before) → MakesCall old (PutOut count) value after new
put_out_call result old new count value before after is none answers ok err =
    subst (λ (v : Answer). MakesCall old (PutOut count) v after new) (sym is)
    (put_out_by result old new count before after none answers ok err)

-- The same act, said otherwise.
pub typed_as : (act other : code.Act) → act ≡ other → IsTypedAct (call_of other)
    → IsTypedAct (call_of act)
typed_as act other same typed = rw same typed

pub makes_as : (act other : code.Act) (old new : Conn) (answer : Answer) (octets : List ℕ)
    → act ≡ other → MakesCall old (call_of other) answer octets new
    → MakesCall old (call_of act) answer octets new
makes_as act other old new answer octets same makes =
    subst (λ (a : code.Act). MakesCall old (call_of a) answer octets new) (sym same) makes
