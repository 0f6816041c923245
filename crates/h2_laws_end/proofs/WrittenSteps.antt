-- What each step writes: what is owed, and credit.
use Rattle.h2_laws_end.proofs.Names
use Names.{◌≡◌, ℕ, List, [], ◌∷◌, ◌++◌, Option, None, refl, sym, ap, ◌∙◌, inl, inr, append_assoc}
use Names.{append-nil, subst, ◌+◌, Code, WindowUpdate, Item, alone, Event, Act, Answer, Refuse}
use Names.{PutOut, Count, Done, Log, max_payload_sent, max_payload_sent_by, log_view, Verdict}
use Names.{ConnectionFault, Decoded, replies_to, verdict_of, answer_of, refuse_fault, read}
use Names.{with_unreturned, called, credit_cases, put_out_cases, IsCredit, encoding_of_items}
use Names.{items_of, with_sent, with_reported, with_item, with_credit_returned, with_verdict}
use Names.{with_items, refused_with, with_call, Fail, ◌≢◌}
use Rattle.h2_laws_log.proofs.TurnsOfLogs.{written_after}
use Rattle.h2_laws_end.specs.Written.{Writes}

-- These items were written, and nothing was read.
pub record Puts (before after : Log) (items : List Item) : Type 0 where
  pub received : after.received ≡ before.received
  pub sent : after.sent ≡ items ++ before.sent
  pub written : after.written
      ≡ before.written ++ encoding_of_items (max_payload_sent after) items

-- Nothing was.
puts_none : (before after : Log) → after.received ≡ before.received → after.sent ≡ before.sent
    → after.written ≡ before.written → Puts before after []
unfolding encoding_of_items
puts_none before after received sent written = record {
  received = received;
  sent = sent;
  written = written ∙ sym (append-nil before.written);
}

-- One step after another.
puts_twice : (one two three : Log) (older newer : List Item) → Puts one two older
    → Puts two three newer → Puts one three (newer ++ older)
puts_twice one two three older newer a b =
    let most = max_payload_sent three in
    let before : two.written ≡ one.written ++ encoding_of_items most older =
    a.written ∙ ap (λ (received : List Item). one.written
    ++ encoding_of_items (max_payload_sent_by received) older) (sym b.received) in
    record {
      received = b.received ∙ a.received;
      sent = b.sent ∙ ap (λ (items : List Item). newer ++ items) a.sent ∙ sym
          (append_assoc _ _ one.sent);
      written = b.written ∙ ap (λ (octets : List ℕ). octets ++ encoding_of_items most newer) before
          ∙ append_assoc one.written (encoding_of_items most older) (encoding_of_items most newer)
          ∙ ap (λ (octets : List ℕ). one.written ++ octets) (sym (written_after most newer older));
    }

-- Items are written.
puts_sent : (log : Log) (items : List Item) → Puts log (with_sent log items) items
unfolding with_sent
puts_sent log [] = puts_none log log refl refl refl
puts_sent log (item ∷ items) = record { received = refl; sent = refl; written = refl }

-- Credit is returned, or nothing is written.
pub record PutsCredit (before after : Log) : Type 0 where
  pub items : List Item
  pub is_credit : IsCredit items
  pub puts : Puts before after items

-- Nothing is.
credit_none : (log next : Log) → next.received ≡ log.received → next.sent ≡ log.sent
    → next.written ≡ log.written → PutsCredit log next
credit_none log next received sent written =
    record { items = []; is_credit = inl refl; puts = puts_none log next received sent written }

-- What is unreturned is returned.
credit_returned : (log other : Log) → other.received ≡ log.received → other.sent ≡ log.sent
    → other.written ≡ log.written → PutsCredit log (with_credit_returned other)
credit_returned log other received sent written = record {
  items = alone (WindowUpdate 0 other.unreturned) ∷ [];
  is_credit = inr (other.unreturned, refl);
  puts = puts_twice log (record other { unreturned = 0 }) (with_credit_returned other) []
      (alone (WindowUpdate 0 other.unreturned) ∷ [])
      (puts_none log (record other { unreturned = 0 }) received sent written)
      (puts_sent (record other { unreturned = 0 }) _);
}

-- What is unreturned is added.
credit_of : (more : ℕ) (log : Log) → PutsCredit log (with_unreturned more log)
credit_of more log =
    credit_cases (PutsCredit log) more log
    (λ returns. credit_returned log (record log { unreturned = log.unreturned + more }) refl refl
    refl)
    (λ keeps. credit_none log (record log { unreturned = log.unreturned + more }) refl refl refl)

-- Items are written, and then credit.
pub puts_items : (log base : Log) (items : List Item) (more : ℕ) → base.received ≡ log.received
    → base.sent ≡ log.sent → base.written ≡ log.written
    → (credit : PutsCredit (with_sent base items) (with_unreturned more (with_sent base items)))
    × Puts log (with_unreturned more (with_sent base items)) (credit.items ++ items)
puts_items log base items more received sent written =
    let credit = credit_of more (with_sent base items) in (
      credit,
      puts_twice _ _ _ items credit.items (record {
        received = (puts_sent base items).received ∙ received;
        sent = (puts_sent base items).sent ∙ ap (λ (older : List Item). items ++ older) sent;
        written = (puts_sent base items).written ∙ ap (λ (octets : List ℕ). octets
            ++ encoding_of_items (max_payload_sent (with_sent base items)) items) written;
      }) credit.puts,
    )

-- What was written is the items, and credit after them.
writes_last : (before after : Log) (items : List Item) (credit : List Item) → IsCredit credit
    → Puts before after (credit ++ items) → Writes before after items
writes_last before after items credit is puts = record {
  credit = credit;
  is_credit = is;
  sent = puts.sent ∙ append_assoc credit items before.sent;
  written = puts.written;
}

-- It is credit alone.
writes_credit : (before after : Log) → PutsCredit before after → Writes before after []
writes_credit before after credit = record {
  credit = credit.items;
  is_credit = credit.is_credit;
  sent = credit.puts.sent;
  written = credit.puts.written ∙ ap (λ (items : List Item). before.written
      ++ encoding_of_items (max_payload_sent after) items) (sym (append-nil credit.items));
}

-- The same from another log with the same output.
writes_from : (log base after : Log) (items : List Item) → base.sent ≡ log.sent
    → base.written ≡ log.written → Writes base after items → Writes log after items
writes_from log base after items sent written writes = record {
  credit = writes.credit;
  is_credit = writes.is_credit;
  sent = writes.sent ∙ ap (λ (older : List Item). writes.credit ++ (items ++ older)) sent;
  written = writes.written ∙ ap (λ (octets : List ℕ). octets
      ++ encoding_of_items (max_payload_sent after) (writes.credit ++ items)) written;
}

-- Items are written, and then credit, whatever was read.
writes_items : (log base : Log) (items : List Item) (more : ℕ) → base.sent ≡ log.sent
    → base.written ≡ log.written → Writes log (with_unreturned more (with_sent base items)) items
writes_items log base items more sent written =
    let puts = puts_items base base items more refl refl refl in
    writes_from _ _ _ _ sent written (writes_last base _ items puts.0.items puts.0.is_credit puts.1)

-- What a call owes is written.
call_items : (log : Log) (act : Act) (answer : Answer)
    → Writes log (with_items log act answer) (items_of (log_view log) act answer)
unfolding with_items
call_items log act answer = writes_items _ _ (items_of (log_view log) act answer) _ refl refl

-- A call that puts output out writes credit alone.
put_out_writes : (log : Log) (count given : ℕ)
    → Writes log (with_call log (PutOut count) (Count given)) []
unfolding with_call with_sent
put_out_writes log count given =
    let put = called log (PutOut count) (Count given) in
    writes_credit log _
    (put_out_cases (λ ready. PutsCredit log (record ready { given = log.given + given })) put
    (λ returns. credit_returned log (record put { given = log.given + given }) refl refl refl)
    (λ keeps. credit_none log (record put { given = log.given + given }) refl refl refl))

-- A call with the answer of the rules.
answered_writes : (log : Log) (act : Act)
    → ((id code : ℕ) → act ≡ Refuse id code → refuse_fault (log_view log) code ≡ None)
    → ((code : Code) → act ≢ Fail code)
    → Writes log (with_call log act (answer_of (log_view log) act)) (items_of (log_view log) act
    (answer_of (log_view log) act))
unfolding with_call items_of refused_with
answered_writes log (Refuse id code) up goes_on = rw (up id code refl) (call_items _ _ Done)
answered_writes log (Fail code) up goes_on = absurd (goes_on code refl)
answered_writes log (PutOut count) up goes_on = put_out_writes log count _
answered_writes log act up goes_on = call_items log act _

-- A call that is accepted writes what it owes, and credit.
pub call_writes : (log : Log) (act : Act) (answer : Answer)
    → answer ≡ answer_of (log_view log) act
    → ((id code : ℕ) → act ≡ Refuse id code → refuse_fault (log_view log) code ≡ None)
    → ((code : Code) → act ≢ Fail code)
    → Writes log (with_call log act answer) (items_of (log_view log) act answer)
call_writes log act answer is up goes_on =
    subst (λ (a : Answer). Writes log (with_call log act a) (items_of (log_view log) act a))
    (sym is) (answered_writes log act up goes_on)

-- Events write nothing.
reported_writes : (before log : Log) (events : List Event) (items : List Item)
    → Writes before log items → Writes before (with_reported log events) items
unfolding with_reported
reported_writes before log [] items writes = writes
reported_writes before log (event ∷ events) items writes = record {
  credit = writes.credit;
  is_credit = writes.is_credit;
  sent = writes.sent;
  written = writes.written;
}

-- What is replied to an item is written, by the verdict.
verdict_writes : (log : Log) (decoded : Option Decoded) (item : Item) (verdict : Verdict)
    → ((code : Code) → verdict ≡ ConnectionFault code → ⊥)
    → Writes log (with_verdict log decoded item verdict) (replies_to verdict item)
unfolding with_verdict
verdict_writes log decoded item (ConnectionFault code) up = absurd (up code refl)
verdict_writes log decoded item verdict up =
    reported_writes log _ _ _ (writes_items log (read log decoded item) _ _ refl refl)

-- An item that is no fault of the connection writes what is replied to it, and credit.
pub item_writes : (log : Log) (decoded : Option Decoded) (item : Item)
    → ((code : Code) → verdict_of (log_view log) decoded item ≡ ConnectionFault code → ⊥)
    → Writes log (with_item log decoded item)
    (replies_to (verdict_of (log_view log) decoded item) item)
item_writes log decoded item up = verdict_writes _ _ _ (verdict_of (log_view log) decoded item) up
