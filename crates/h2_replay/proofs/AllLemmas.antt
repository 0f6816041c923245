-- Octets that are handed to `take` again and again.
use Rattle.h2_replay.proofs.Names.{◌≡◌, ℕ, ◌-◌, List, [], ◌++◌, length, take, drop, Option, Some}
use Rattle.h2_replay.proofs.Names.{None, refl, sym, ap, subst, ◌∙◌, append_assoc, append-nil, Code}
use Rattle.h2_replay.proofs.Names.{Values, Log, Conn, ConnRepresents, Next, kept_by_octets}
use Rattle.h2_replay.proofs.Names.{KeepsNews, GoesOn, all_by_octets}
use Rattle.h2_laws_end.specs.Replays.{TakesAll, is_done, goes_on, has_fault}
use Rattle.h2_replay.specs.declared.turns.Turn.{Turn}
use Rattle.h2_replay.specs.Taking.{TakesPieceOf, TakesAllOf}
use Rattle.h2_replay.proofs.StepOutput.{all_joined}
use Rattle.h2_replay.proofs.Octets.{rest_of}
use Rattle.h2_spec_log.specs.Acts as logs
use Rattle.h2_replay.specs.declared.taking.Next.TheVariants as nexts
use Rattle.h2_replay.specs.declared.turns.Answer.TheVariants as answers

-- Some octets were used, and it goes on with the rest.
pub record TakesSome (values : Values) (log : Log) (octets rest : List ℕ) (old turns : List Turn)
    (new : Conn) : Type 0 where
  pub between : Log
  pub represents : ConnRepresents values new between
  pub keeps : KeepsNews log between old turns
  pub goes_on : (fault : Option Code) (after : Log) → TakesAll between rest fault after
      → TakesAll log octets fault after

-- Nothing is new.
pub keeps_none : (log : Log) (turns : List Turn) → KeepsNews log log turns turns
unfolding all_by_octets
keeps_none log turns =
    record { news = []; turns = refl; same = sym (append-nil (kept_by_octets turns)) }

-- One step after another.
pub keeps_twice : (one two three : Log) (first second third : List Turn)
    → KeepsNews one two first second → KeepsNews two three second third
    → KeepsNews one three first third
keeps_twice one two three first second third a b =
    record {
      news = b.news ++ a.news;
      turns = b.turns ∙ ap (λ (turns : List logs.Turn). b.news ++ turns) a.turns
          ∙ sym (append_assoc b.news a.news one.turns);
      same = b.same ∙ ap (λ (all : List logs.Turn). all ++ all_by_octets b.news) a.same
          ∙ append_assoc (kept_by_octets first) (all_by_octets a.news) (all_by_octets b.news)
          ∙ ap (λ (all : List logs.Turn). kept_by_octets first ++ all)
          (sym (all_joined b.news a.news));
    }

-- At first.
pub takes_first : (values : Values) (log : Log) (octets : List ℕ) (turns : List Turn) (conn : Conn)
    → ConnRepresents values conn log → TakesSome values log octets octets turns turns conn
takes_first values log octets turns conn represents =
    record {
      between = log;
      represents = represents;
      keeps = keeps_none log turns;
      goes_on = λ fault after all. all;
    }

-- After one more call that goes on.
pub takes_again : (values : Values) (log : Log) (octets rest left : List ℕ)
    (old turns more : List Turn) (conn new : Conn) (used : ℕ) (next : Next)
    → next ≡ nexts.Again used → left ≡ take (length rest - used) (drop used rest)
    → (some : TakesSome values log octets rest old turns conn)
    → TakesPieceOf values some.between rest turns next more new
    → TakesSome values log octets left old more new
takes_again values log octets rest left old turns more conn new used next is is_left some piece =
    let on = subst (λ (n : Next). GoesOn some.between rest n piece.after) is piece.goes_on in
    let same : drop used rest ≡ left = sym (is_left ∙ rest_of used rest) in
    record {
      between = piece.after;
      represents = piece.represents;
      keeps = keeps_twice log some.between piece.after old turns more some.keeps piece.keeps;
      goes_on = λ fault after all. some.goes_on fault after
          (goes_on rest used on.0 fault on.1 on.3
          (subst (λ (o : List ℕ). TakesAll piece.after o fault after) (sym same) all));
    }

-- After the last one.
pub takes_done : (values : Values) (log : Log) (octets rest : List ℕ) (old turns more : List Turn)
    (conn new : Conn) (next : Next) → next ≡ nexts.Done
    → (some : TakesSome values log octets rest old turns conn)
    → TakesPieceOf values some.between rest turns next more new
    → TakesAllOf values log octets old answers.Done more new
takes_done values log octets rest old turns more conn new next is some piece =
    record {
      after = piece.after;
      all = some.goes_on None piece.after (is_done rest
          (subst (λ (n : Next). GoesOn some.between rest n piece.after) is piece.goes_on));
      keeps = keeps_twice log some.between piece.after old turns more some.keeps piece.keeps;
      represents = piece.represents;
    }

-- After one with which the connection has failed.
pub takes_fault : (values : Values) (log : Log) (octets rest : List ℕ)
    (old turns more : List Turn) (conn new : Conn) (code : Code) (next : Next)
    → next ≡ nexts.Failed code → (some : TakesSome values log octets rest old turns conn)
    → TakesPieceOf values some.between rest turns next more new
    → TakesAllOf values log octets old (answers.Fault code) more new
takes_fault values log octets rest old turns more conn new code next is some piece =
    record {
      after = piece.after;
      all = some.goes_on (Some code) piece.after (has_fault rest code
          (subst (λ (n : Next). GoesOn some.between rest n piece.after) is piece.goes_on));
      keeps = keeps_twice log some.between piece.after old turns more some.keeps piece.keeps;
      represents = piece.represents;
    }
