-- What an end of an undisturbed pair keeps: it is up, reports no stream fault, has read each reset
-- that it reports, and was asked for each reset that it wrote.
use Rattle.h2_laws_pair.proofs.Names.{◌≡◌, inl, inr, ℕ, true, false, List, [], ◌∷◌, Option, None}
use Rattle.h2_laws_pair.proofs.Names.{AllByRecursion, Contains, Code, Reset, Item, alone, Act}
use Rattle.h2_laws_pair.proofs.Names.{Answer, Event, ResetEvent, Log, with_sent, with_reported}
use Rattle.h2_laws_pair.proofs.Names.{with_unreturned, WasAsked}
use Rattle.h2_laws_log.proofs.LogInduction.{IsKeptByCredit, kept_by_credit}
use Rattle.h2_laws_pair.proofs.Lists.{all_both}
pub use Rattle.h2_laws_pair.proofs.Lists.{none_in, one_in, first_in, later_in, first_or_later}

-- An item that is a reset was asked for by one of these calls.
unfoldable pub IsAsked : List (Act × Answer) → Item → Type 0
IsAsked calls (alone (Reset id code)) = WasAsked calls id code
IsAsked calls item = Unit {0}

-- An event that is a reset is for no stream fault, and is one of these items.
unfoldable pub IsHeard : List Item → Event → Type 0
IsHeard received (ResetEvent id code true) = ⊥
IsHeard received (ResetEvent id code false) = Contains received (alone (Reset id code))
IsHeard received event = Unit {0}

-- With more calls, and with more items.
pub asked_later : (call : Act × Answer) (calls : List (Act × Answer)) (item : Item)
    → IsAsked calls item → IsAsked (call ∷ calls) item
unfolding IsAsked
asked_later call calls (alone (Reset id code)) asked = elim asked [
  | inl reset ↦ inl (later_in call calls _ reset)
  | inr refused ↦ inr (later_in call calls _ refused)
]
asked_later call calls item asked = asked

pub heard_later : (item : Item) (received : List Item) (event : Event) → IsHeard received event
    → IsHeard (item ∷ received) event
unfolding IsHeard
heard_later item received (ResetEvent id code true) heard = heard
heard_later item received (ResetEvent id code false) heard = later_in item received _ heard
heard_later item received event heard = heard

-- What an end keeps that is up and without faults.
pub record IsClean (failed : Option Code) (received sent : List Item) (reported : List Event)
    (calls : List (Act × Answer)) : Type 0 where
  pub up : failed ≡ None
  pub heard : AllByRecursion (IsHeard received) reported
  pub asked : AllByRecursion (IsAsked calls) sent

-- the same of a log
abbrev pub LogIsClean : Log → Type 0
LogIsClean log = IsClean log.failed log.received log.sent log.reported log.calls

-- Items are written.
pub clean_sent : (log : Log) (items : List Item) → AllByRecursion (IsAsked log.calls) items
    → LogIsClean log → LogIsClean (with_sent log items)
unfolding with_sent
clean_sent log [] asked clean = clean
clean_sent log (item ∷ items) asked clean = record {
  up = clean.up;
  heard = clean.heard;
  asked = all_both (IsAsked log.calls) (item ∷ items) log.sent asked clean.asked;
}

-- Credit keeps it.
pub clean_credit : IsKeptByCredit LogIsClean
unfolding IsAsked
clean_credit = record {
  unreturned = λ log count clean. clean;
  returned = λ log returns. clean_sent (record log { unreturned = 0 }) _ (tt, tt);
}

-- What is due is returned, or not.
pub clean_unreturned : (more : ℕ) (log : Log) → LogIsClean log
    → LogIsClean (with_unreturned more log)
clean_unreturned = kept_by_credit LogIsClean clean_credit

-- Events are reported.
pub clean_reported : (log : Log) (events : List Event)
    → AllByRecursion (IsHeard log.received) events → LogIsClean log
    → LogIsClean (with_reported log events)
unfolding with_reported
clean_reported log [] heard clean = clean
clean_reported log (event ∷ events) heard clean = record {
  up = clean.up;
  heard = all_both (IsHeard log.received) (event ∷ events) log.reported heard clean.heard;
  asked = clean.asked;
}
