-- What is kept of requests after one of the entries was changed.
use Rattle.h2_engines.proofs.Names.{◌≡◌, ℕ, Bool, true, List, Option, Some, None, ◌≤◌, length, ap}
use Rattle.h2_engines.proofs.Names.{◌∙◌, inr, Request, Next, IsLonger, body_room, EndsKept}
use Rattle.h2_engines.proofs.Names.{EndsRequest, AddsOctets, cond, Requests, ChangesAt, request_at}
use Rattle.std.proofs.Common.{refl, sym, ne_eqb}
use Rattle.std.proofs.lemmas.Bool.{eq-eqb}
use Rattle.h2_numbers.specs.Entries.{SetsValue, value_at}
use Rattle.h2_numbers.specs.Tables.{all_of}
use Rattle.h2_engines.specs.declared.request.Next.TheVariants as nexts

-- Other entries with another one at a number keep all but that one.
pub changes_one : (old new : Requests) (id : ℕ) (now : Option Request)
    → SetsValue id now (all_of old.kept) (all_of new.kept) → ChangesAt old new id now
changes_one old new id now changes =
    record {
      at = changes id
          ∙ ap (λ (b : Bool). cond b now (request_at id old)) (eq-eqb id id refl);
      others = λ i other. changes i
          ∙ ap (λ (b : Bool). cond b now (request_at i old))
          (ne_eqb id i (λ same. other (sym same)));
    }

-- What was changed twice at a number, was changed there.
pub changes_twice : {old next new : Requests} {id : ℕ} {first now : Option Request}
    → ChangesAt old next id first → ChangesAt next new id now → ChangesAt old new id now
changes_twice one two =
    record {
      at = two.at;
      others = λ i other. two.others i other ∙ one.others i other;
    }

-- Where nothing is kept, nothing changes.
pub changes_none : (old new : Requests) (id : ℕ) → request_at id old ≡ None
    → all_of new.kept ≡ all_of old.kept → ChangesAt old new id None
changes_none old new id none same =
    record {
      at = ap (λ (entries : List (ℕ × Request)). value_at id entries) same ∙ none;
      others = λ i other.
          ap (λ (entries : List (ℕ × Request)). value_at i entries) same;
    }

-- The last octets: the longer one is kept, and then taken out.
pub adds_last : {old next : Requests} (new : Requests) {id : ℕ} (octets : List ℕ)
    {kept : Option Request} (request : Request) {longer : Request} (result : Next)
    → kept ≡ Some request → length octets ≤ body_room request → IsLonger request octets longer
    → ChangesAt old next id (Some longer) → EndsKept next new id (request_at id next) result
    → AddsOctets old new id octets true kept result
unfolding AddsOctets EndsRequest EndsKept
adds_last {next} new {id} octets request {longer} result is enough more changes ends =
    let ended : (result ≡ nexts.Answer id longer) × ChangesAt next new id None =
    rw changes.at at ends in
    rw is (inr (
      enough,
      (
        longer,
        more,
        (
          ended.0,
          changes_twice changes ended.1,
        ),
      ),
    ))
