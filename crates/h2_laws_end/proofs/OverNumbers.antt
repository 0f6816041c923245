-- The numbers of streams that calls open: each is the next one, which is above all that were used.
use Rattle.h2_laws_end.proofs.Names
use Names.{◌≡◌, ℕ, ◌≤◌, ◌<◌, ◌+◌, ◌%◌, ◌==◌, Bool, true, false, if◌then◌else◌, List, ◌∷◌, ◌++◌}
use Names.{refl, sym, ap, ◌∙◌, arith, subst, list_any, or_left, and_parts, eqb-true, eq-eqb}
use Names.{false_from_ne_true, Field, Item, block, Role, Client, Server, Values, Open, SendFields}
use Names.{Number, Done, is_server, Log, active, MayAnswer, accepts, refuses, lacks, fails}
use Names.{with_call, AllowedHistory, IsLog, stream_of_log, none_holds, written_is_allowed}
use Names.{any_after, grows_call, stream_is_active, is_number_used, is_block_on, is_used}
use Names.{next_number, conditions, items_of, next_odd}
use Rattle.std.proofs.lemmas.Bool.{and_from}
use Rattle.h2_spec_log.specs.Items.{greatest_block}
use Rattle.h2_laws_log.proofs.CallConditions.{neither_one}
use Rattle.h2_laws_log.proofs.ReaderStates.{opens_here}
use Rattle.h2_laws_log.proofs.StreamNumbers.{opens_low}
use Rattle.h2_laws_log.proofs.InvariantSends.{client_since}
use Rattle.h2_laws_end.proofs.WrittenSteps.{call_writes}

-- The number that a client's call answers.
number_by : (role : Role) (id n : ℕ) → role ≡ Client
    → Number id ≡ Number (if is_server role then 0 else n) → id ≡ n
number_by Client id n is same = cc
number_by Server id n is same = cc

number_from : (role : Role) (id n : ℕ) → role ≡ Client → id ≡ n
    → Number id ≡ Number (if is_server role then 0 else n)
number_from Client id n is same = ap Number same
number_from Server id n is same = cc

-- A call that opens a stream answers the next number, at a client.
pub open_answer : (log : Log) (fields : List Field) (end : Bool) (id : ℕ)
    → MayAnswer log (Open fields end) (Number id) → (log.role ≡ Client) × (id ≡ next_number log)
unfolding conditions
open_answer log fields end id (accepts none is) =
    let client = client_since log.role (neither_one _ _ (none_holds _ none).1.1.0) in
    (client, number_by log.role id (next_number log) client is)
open_answer log fields end id (refuses refusal holds is) = cc
open_answer log fields end id (lacks none may is) = cc
open_answer log fields end id (fails none may is) = cc

-- A call that writes further fields is on an active stream.
pub fields_active : (log : Log) (id : ℕ) (fields : List Field) (end : Bool)
    → MayAnswer log (SendFields id fields end) Done → active log id ≡ true
unfolding conditions
fields_active log id fields end (accepts none is) = stream_is_active log id (none_holds _ none).1.0
fields_active log id fields end (refuses refusal holds is) = cc
fields_active log id fields end (lacks none may is) = cc
fields_active log id fields end (fails none may is) = cc

-- What is odd and no greater than the greatest is below the next, by whether there is a greatest.
below_by : (i n : ℕ) (b : Bool) → n == 0 ≡ b → i % 2 ≡ 1 → i ≤ n
    → i < (if b then 1 else n + 2)
below_by i n true is odd low = absurd (omega (arith, eqb-true n 0 is))
below_by i n false is odd low = omega arith

-- At a client a number that was used is below the next.
used_by : (role : Role) (i : ℕ) (received sent : List Item) → role ≡ Client
    → is_used role i received sent ≡ true → (i % 2 ≡ 1) × (i ≤ greatest_block sent)
unfolding is_used
used_by Client i received sent client was =
    let both = and_parts _ _ was in
    (eqb-true (i % 2) 1 both.0, opens_low i sent both.1)
used_by Server i received sent client was = cc

pub used_below : (log : Log) (i : ℕ) → log.role ≡ Client → is_number_used log i ≡ true
    → i < next_number log
unfolding next_number
used_below log i client was =
    let both = used_by log.role i log.received log.sent client was in
    below_by i (greatest_block log.sent) (greatest_block log.sent == 0) refl both.0 both.1

-- A block on the number, among what a client wrote, uses it.
opening_uses : (role : Role) (i : ℕ) (received sent : List Item) → role ≡ Client → i % 2 ≡ 1
    → list_any (is_block_on i) sent ≡ true → is_used role i received sent ≡ true
unfolding is_used
opening_uses Client i received sent client odd here =
    and_from _ _ (eq-eqb (i % 2) 1 odd) (opens_here i sent (eq-eqb (i % 2) 1 odd) here)
opening_uses Server i received sent client odd here = cc

-- It stands there, behind what was written after it.
pub block_there : (i : ℕ) (end : Bool) (octets : List ℕ) (credit sent : List Item)
    → list_any (is_block_on i) (credit ++ (block i end octets ∷ sent)) ≡ true
unfolding is_block_on
block_there i end octets credit sent =
    any_after (is_block_on i) credit (block i end octets ∷ sent) (or_left _ _ (eq-eqb i i refl))

-- After a call that opens a stream, its number is used.
opened_used : (log : Log) (fields : List Field) (end : Bool) (id : ℕ) → log.role ≡ Client
    → id ≡ next_number log → id % 2 ≡ 1
    → is_number_used (with_call log (Open fields end) (Number id)) id ≡ true
unfolding items_of
opened_used log fields end id client is odd =
    let act = Open fields end in
    let grows = grows_call log act (Number id) in
    let writes = call_writes log act (Number id)
    (number_from log.role id (next_number log) client is) (λ other code wrong. cc)
    (λ code wrong. cc) in
    opening_uses (with_call log act (Number id)).role id
    (with_call log act (Number id)).received (with_call log act (Number id)).sent
    (grows.role ∙ client) odd (rw (writes.sent) (block_there id end _ writes.credit log.sent))

-- A call that opens a stream answers a new number.
pub opened_is_new : (role : Role) (values : Values) (log : Log) (fields : List Field)
    (end : Bool) (id : ℕ) → IsLog role values log → MayAnswer log (Open fields end) (Number id)
    → (log.role ≡ Client) × (id ≡ next_number log) × (is_number_used log id ≡ false)
    × (is_number_used (with_call log (Open fields end) (Number id)) id ≡ true)
opened_is_new role values log fields end id is may =
    let both = open_answer log fields end id may in
    let own = (stream_of_log role values log is).role in
    let allowed : AllowedHistory log.role log.received log.sent =
    subst (λ (r : Role). AllowedHistory r log.received log.sent) (sym own)
    (written_is_allowed role values log is) in
    let odd = (next_odd log allowed).0 in (
      both.0,
      both.1,
      false_from_ne_true _ (λ was. let low = used_below log id both.0 was in
          let same = both.1 in omega (arith, low, same)),
      opened_used log fields end id both.0 both.1 (rw (both.1) odd),
    )
