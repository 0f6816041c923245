-- What a log has written and given out, as steps add to it: each step adds octets at the end of the
-- output, and only a call that puts output out gives more out.
use Rattle.h2_laws_pair.proofs.Names.{◌≡◌, ◌≤◌, ℕ, List, [], ◌∷◌, ◌++◌, length, refl, sym, ◌∙◌}
use Rattle.h2_laws_pair.proofs.Names.{arith, append_assoc, append-nil, length-append, Item}
use Rattle.h2_laws_pair.proofs.Names.{encoding_of_items, Act, Answer, Log, max_payload_sent, called}
use Rattle.h2_laws_pair.proofs.Names.{with_call}
use Rattle.h2_laws_log.proofs.GrowthBySteps.{HoldsOfFailures, HoldsOfReads, holds_call}
use Rattle.std.proofs.Common.{map as each}
use Rattle.std.proofs.lemmas.List.{length-map}

-- Octets were added to the output, and items in front of what was sent, each with its greatest
-- payload; G says what was given out.
pub record Writes (G : ℕ → ℕ → Type 0) (old new : Log) : Type 0 where
  pub octets : List ℕ
  pub written : new.written ≡ old.written ++ octets
  pub given : G old.given new.given
  pub items : List Item
  pub sent : new.sent ≡ items ++ old.sent
  pub payloads : List ℕ
  pub paid : new.payloads ≡ payloads ++ old.payloads
  pub each_one : length payloads ≡ length items

-- As much was given out.
abbrev pub Adds : Log → Log → Type 0
Adds = Writes (λ before after. after ≡ before)

-- No less was given out.
abbrev pub Gives : Log → Log → Type 0
Gives = Writes (λ before after. before ≤ after)

-- Nothing was written.
writes_none : (G : ℕ → ℕ → Type 0) (old new : Log) → new.written ≡ old.written
    → G old.given new.given → new.sent ≡ old.sent → new.payloads ≡ old.payloads → Writes G old new
writes_none G old new written given sent paid = record {
  octets = [];
  written = written ∙ sym (append-nil old.written);
  given = given;
  items = [];
  sent = sent;
  payloads = [];
  paid = paid;
  each_one = refl;
}

-- Each change by which no output is put out writes.
writes_failures : (G : ℕ → ℕ → Type 0) → ((count : ℕ) → G count count)
    → ((one two three : ℕ) → G one two → G two three → G one three) → HoldsOfFailures (Writes G)
writes_failures G same further = record {
  writes = record {
    none = λ log. writes_none G log log refl (same log.given) refl refl;
    twice = λ one two three a b. record {
      octets = a.octets ++ b.octets;
      written = rw (b.written, a.written, append_assoc) refl;
      given = further one.given two.given three.given a.given b.given;
      items = b.items ++ a.items;
      sent = rw (b.sent, a.sent, append_assoc) refl;
      payloads = b.payloads ++ a.payloads;
      paid = rw (b.paid, a.paid, append_assoc) refl;
      each_one = omega (arith, length-append {A = ℕ}, length-append {A = Item});
    };
    sent = λ log item items. record {
      octets = encoding_of_items (max_payload_sent log) (item ∷ items);
      written = refl;
      given = same log.given;
      items = item ∷ items;
      sent = refl;
      payloads = each (λ one. max_payload_sent log) (item ∷ items);
      paid = refl;
      each_one = length-map (item ∷ items) (λ one. max_payload_sent log);
    };
    unreturned = λ log count. writes_none G log _ refl (same log.given) refl refl;
  };
  failed = λ log code. writes_none G log _ refl (same log.given) refl refl;
}

-- So does what is read.
writes_reads : (G : ℕ → ℕ → Type 0) → ((count : ℕ) → G count count)
    → ((one two three : ℕ) → G one two → G two three → G one three) → HoldsOfReads (Writes G)
writes_reads G same further = record {
  failures = writes_failures G same further;
  used = λ log octets unparsed. writes_none G log _ refl (same log.given) refl refl;
  framed = λ log frames. writes_none G log _ refl (same log.given) refl refl;
  begun = λ log begun. writes_none G log _ refl (same log.given) refl refl;
  read = λ log decoded item. writes_none G log _ refl (same log.given) refl refl;
  reported = λ log event events. writes_none G log _ refl (same log.given) refl refl;
}

pub adds_reads : HoldsOfReads Adds
adds_reads = writes_reads _ (λ count. refl) (λ one two three a b. b ∙ a)

pub gives_reads : HoldsOfReads Gives
gives_reads = writes_reads _ (λ count. omega arith) (λ one two three a b. omega (arith, a, b))

-- After a call.
pub gives_call : (log : Log) (act : Act) (answer : Answer) → Gives log (with_call log act answer)
gives_call log act answer =
    gives_reads.failures.writes.twice log (called log act answer) _
    (writes_none _ log _ refl (omega arith) refl refl) (holds_call Gives (record {
      failures = gives_reads.failures;
      given = λ log more. writes_none _ log _ refl (omega arith) refl refl;
    }) log act answer)
