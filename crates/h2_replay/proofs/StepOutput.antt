-- What the steps of a log add to its output, octet by octet.
use Rattle.h2_replay.proofs.Names.{◌≡◌, ℕ, ◌+◌, List, [], ◌∷◌, ◌++◌, refl, sym, ap, ◌∙◌}
use Rattle.h2_replay.proofs.Names.{append_assoc, append-nil, Code, Item, Act, Answer, PutOut, Count}
use Rattle.h2_replay.proofs.Names.{Number, Done, OutOfMemory, Refused, Out, Log, with_sent}
use Rattle.h2_replay.proofs.Names.{with_unreturned, by_octets, with_call, each_octet, all_by_octets}
use Rattle.h2_spec_log.specs.LogCalls.{called}
use Rattle.std.proofs.Common.{add-zero}
use Rattle.std.proofs.lemmas.List.{map-append}
use Rattle.h2_spec_log.specs.Items.{encoding_of_items}
use Rattle.h2_spec_log.specs.Acts.{Refuse, Fail, Turn}
use Rattle.h2_spec_log.specs.Log.{max_payload_sent}
use Rattle.h2_spec_log.specs.LogSteps.{with_failure}
use Rattle.h2_laws_log.proofs.GrowthBySteps.{HoldsOfFailures, holds_unreturned, holds_failure}
use Rattle.h2_laws_log.proofs.GrowthBySteps.{holds_sent_unreturned, holds_refused, holds_ready}
use Rattle.h2_laws_log.proofs.GrowthBySteps.{holds_items}

-- Octets after others.
pub each_joined : (turn : List ℕ → Turn) (octets more : List ℕ)
    → each_octet turn (octets ++ more) ≡ each_octet turn octets ++ each_octet turn more
unfolding each_octet
each_joined turn octets more = map-append (λ (octet : ℕ). turn (octet ∷ [])) octets more

-- Turns after others.
pub all_joined : (news turns : List Turn)
    → all_by_octets (news ++ turns) ≡ all_by_octets turns ++ all_by_octets news
unfolding all_by_octets
all_joined [] turns = sym (append-nil (all_by_octets turns))
all_joined (turn ∷ news) turns =
    ap (λ (all : List Turn). all ++ by_octets turn) (all_joined news turns)
    ∙ append_assoc (all_by_octets turns) (all_by_octets news) (by_octets turn)

-- Turns of two steps.
pub both_joined : (news more turns : List Turn) (first second : List Turn)
    → all_by_octets turns ≡ first → all_by_octets news ≡ second
    → all_by_octets (news ++ turns) ≡ first ++ second
both_joined news more turns first second before after =
    all_joined news turns ∙ ap (λ (all : List Turn). all ++ all_by_octets news) before
    ∙ ap (λ (all : List Turn). first ++ all) after

-- The second log has written more, and nothing else is new.
pub record AddsOutput (log next : Log) : Type 0 where
  pub news : List Turn
  pub octets : List ℕ
  pub turns : next.turns ≡ news ++ log.turns
  pub outs : all_by_octets news ≡ each_octet Out octets
  pub written : next.written ≡ log.written ++ octets
  pub given : next.given ≡ log.given
  pub input : next.input ≡ log.input
  pub reported : next.reported ≡ log.reported

-- A log with the same turns and output.
pub writes_none : (log next : Log) → next.turns ≡ log.turns → next.written ≡ log.written
    → next.given ≡ log.given → next.input ≡ log.input → next.reported ≡ log.reported
    → AddsOutput log next
unfolding all_by_octets each_octet
writes_none log next turns written given input reported =
    record {
      news = [];
      octets = [];
      turns = turns;
      outs = refl;
      written = written ∙ sym (append-nil log.written);
      given = given;
      input = input;
      reported = reported;
    }

-- Each change of a log that gives nothing out.
adds_output : HoldsOfFailures AddsOutput
unfolding all_by_octets
adds_output =
    record {
      writes = record {
        none = λ log. writes_none log log refl refl refl refl refl;
        twice = λ one two three a b. record {
          news = b.news ++ a.news;
          octets = a.octets ++ b.octets;
          turns = b.turns ∙ ap (λ (turns : List Turn). b.news ++ turns) a.turns
              ∙ sym (append_assoc b.news a.news one.turns);
          outs = both_joined b.news [] a.news (each_octet Out a.octets)
              (each_octet Out b.octets) a.outs b.outs
              ∙ sym (each_joined Out a.octets b.octets);
          written = b.written ∙ ap (λ (octets : List ℕ). octets ++ b.octets) a.written
              ∙ append_assoc one.written a.octets b.octets;
          given = b.given ∙ a.given;
          input = b.input ∙ a.input;
          reported = b.reported ∙ a.reported;
        };
        sent = λ log item items. record {
          news = Out (encoding_of_items (max_payload_sent log) (item ∷ items)) ∷ [];
          octets = encoding_of_items (max_payload_sent log) (item ∷ items);
          turns = refl;
          outs = refl;
          written = refl;
          given = refl;
          input = refl;
          reported = refl;
        };
        unreturned = λ log count. writes_none log _ refl refl refl refl refl;
      };
      failed = λ log code. writes_none log _ refl refl refl refl refl;
    }

-- What is unreturned is added.
pub writes_unreturned : (more : ℕ) (log : Log) → AddsOutput log (with_unreturned more log)
writes_unreturned = holds_unreturned AddsOutput adds_output.writes

-- The connection fails.
pub writes_failure : (code : Code) (last : ℕ) (log : Log)
    → AddsOutput log (with_failure code last log)
writes_failure = holds_failure AddsOutput adds_output

-- Items are written, and what is unreturned is added.
pub writes_more : (log : Log) (items : List Item) (more : ℕ)
    → AddsOutput log (with_unreturned more (with_sent log items))
writes_more = holds_sent_unreturned AddsOutput adds_output.writes

-- how many octets a call puts out
abbrev pub given_by : Answer → Act → ℕ
given_by (Count given) (PutOut count) = given
given_by answer act = 0

-- What a call writes after its answer, and how many octets it puts out.
pub record AddsCall (log : Log) (act : Act) (answer : Answer) : Type 0 where
  pub news : List Turn
  pub octets : List ℕ
  pub turns : (with_call log act answer).turns ≡ news ++ (called log act answer).turns
  pub outs : all_by_octets news ≡ each_octet Out octets
  pub written : (with_call log act answer).written ≡ log.written ++ octets
  pub given : (with_call log act answer).given ≡ log.given + given_by answer act

-- Of a call that gives nothing out.
gives_none : (log : Log) (act : Act) (answer : Answer) → given_by answer act ≡ 0
    → AddsOutput (called log act answer) (with_call log act answer) → AddsCall log act answer
gives_none log act answer none adds =
    record {
      news = adds.news;
      octets = adds.octets;
      turns = adds.turns;
      outs = adds.outs;
      written = adds.written;
      given = adds.given ∙ sym (add-zero log.given) ∙ ap (λ (n : ℕ). log.given + n) (sym none);
    }

-- Of one that gives octets out.
gives_some : (log : Log) (count given : ℕ) → AddsCall log (PutOut count) (Count given)
unfolding with_call
gives_some log count given =
    let ready = holds_ready AddsOutput adds_output.writes
    (called log (PutOut count) (Count given)) in
    record {
      news = ready.news;
      octets = ready.octets;
      turns = ready.turns;
      outs = ready.outs;
      written = ready.written;
      given = refl;
    }

-- What each call writes.
pub writes_call : (log : Log) (act : Act) (answer : Answer) → AddsCall log act answer
unfolding with_call
writes_call log act (Refused refusal) =
    gives_none log act (Refused refusal) refl (adds_output.writes.none _)
writes_call log act OutOfMemory = gives_none log act OutOfMemory refl (writes_failure _ _ _)
writes_call log (Refuse id code) (Count count) =
    gives_none log (Refuse id code) (Count count) refl (holds_refused _ adds_output log _ _ _)
writes_call log (Refuse id code) (Number number) =
    gives_none log (Refuse id code) (Number number) refl (holds_refused _ adds_output log _ _ _)
writes_call log (Refuse id code) Done =
    gives_none log (Refuse id code) Done refl (holds_refused _ adds_output log _ _ _)
writes_call log (Fail code) answer =
    gives_none log (Fail code) answer refl (writes_failure _ _ _)
writes_call log (PutOut count) (Count given) = gives_some log count given
writes_call log act answer =
    gives_none log act answer refl (holds_items _ adds_output.writes log act answer)
