-- Octets that are handed to `take` again and again.
use Rattle.h2_joined.proofs.Names.{suc, ◌+◌, ◌≤◌, ◌<◌, length, drop, refl, sym, ◌∙◌, subst, arith}
use Rattle.h2_joined.proofs.Names.{drop-drop, Code, Values, EndLog, Side, Joined, Delivery}
use Rattle.h2_joined.proofs.Names.{IsDelivered, Whole, Fails, Stops, ChangesOnly, IsKeptAt}
use Rattle.h2_joined.proofs.Names.{TakesNext, TakesDelivery, ◌≡◌, ℕ, List, length-drop}
use Rattle.h2_joined.specs.Joints.{is_whole, goes_on, fails, stops, most_calls}
use Rattle.h2_joined.proofs.CodeTakes.{both_only}
use Rattle.h2_joined.specs.declared.octets.Next.TheVariants as nexts
use Rattle.h2_joined.specs.declared.octets.Delivered.TheVariants as delivered

-- So many octets were delivered so far, by so many calls: the rest goes on from there.
pub record TakesSome (values : Values) (side : Side) (end : EndLog) (octets : List ℕ)
    (calls taken : ℕ) (now : Joined) : Type 0 where
  pub between : EndLog
  pub kept : IsKeptAt values side now between
  pub accepted : between.accepted ≡ end.accepted
  pub delivers : (delivery : Delivery) (after : EndLog)
      → IsDelivered calls between (drop taken octets) delivery after
      → IsDelivered 0 end octets delivery after

-- The same whatever has happened at the end, with what has changed.
pub record TakesSoFar (side : Side) (old : Joined) (octets : List ℕ) (calls taken : ℕ)
    (now : Joined) : Type 0 where
  pub within : taken ≤ length octets
  pub only : ChangesOnly side old now
  pub takes : (values : Values) (end : EndLog) → IsKeptAt values side old end
      → TakesSome values side end octets calls taken now

pub takes_first : (side : Side) (old : Joined) (octets : List ℕ)
    → TakesSoFar side old octets 0 0 old
takes_first side old octets =
    record {
      within = omega arith;
      only = record {
        other_end = refl;
        other_kept = refl;
        accepted = refl;
        incoming = refl;
        unfinished = refl;
      };
      takes = λ values end keeps.
          record {
            between = end;
            kept = keeps;
            accepted = refl;
            delivers = λ delivery after delivers. delivers;
          };
    }

module _ (side : Side) (old now new : Joined) (octets : List ℕ) (calls taken : ℕ)
    (sofar : TakesSoFar side old octets calls taken now) (few : calls < most_calls) where
  pub takes_more : (used : ℕ)
      → TakesNext side now (drop taken octets) (nexts.Again used) new
      → TakesSoFar side old octets (suc calls) (taken + used) new
  takes_more used next =
      let rest = drop-drop used taken octets in
      let left = length-drop taken octets in
      record {
        within = omega (arith, sofar.within, next.within, left);
        only = both_only side old now new sofar.only next.only;
        takes = λ values end keeps.
            let some = sofar.takes values end keeps in
            let more = next.takes values some.between some.kept in
            let (handed, may, progress) = more.goes_on in
            record {
              between = more.after;
              kept = more.kept;
              accepted = more.accepted ∙ some.accepted;
              delivers = λ delivery after delivers.
                  some.delivers delivery after (goes_on calls (drop taken octets) used handed
                  delivery few may progress (subst (λ (o : List ℕ).
                  IsDelivered (suc calls) more.after o delivery after) (sym rest) delivers));
            };
      }

  pub takes_whole : TakesNext side now (drop taken octets) nexts.Whole new
      → TakesDelivery side old octets delivered.Whole new
  takes_whole next =
      record {
        within = tt;
        only = both_only side old now new sofar.only next.only;
        takes = λ values end keeps.
            let some = sofar.takes values end keeps in
            let more = next.takes values some.between some.kept in
            record {
              after = more.after;
              delivers = some.delivers Whole more.after (is_whole calls (drop taken octets)
                  few more.goes_on);
              accepted = more.accepted ∙ some.accepted;
              kept = more.kept;
            };
      }

  pub takes_failed : (code : Code)
      → TakesNext side now (drop taken octets) (nexts.Failed code) new
      → TakesDelivery side old octets (delivered.Failed code) new
  takes_failed code next =
      record {
        within = tt;
        only = both_only side old now new sofar.only next.only;
        takes = λ values end keeps.
            let some = sofar.takes values end keeps in
            let more = next.takes values some.between some.kept in
            record {
              after = more.after;
              delivers = some.delivers (Fails code) more.after (fails calls (drop taken octets)
                  code few more.goes_on);
              accepted = more.accepted ∙ some.accepted;
              kept = more.kept;
            };
      }

-- There is no room for what the next call may hand out.
pub takes_stopped : (side : Side) (old now new : Joined) (octets : List ℕ) (calls taken : ℕ)
    → TakesSoFar side old octets calls taken now
    → TakesNext side now (drop taken octets) nexts.Stopped new
    → TakesDelivery side old octets (delivered.Stopped taken) new
takes_stopped side old now new octets calls taken sofar next =
    record {
      within = sofar.within;
      only = both_only side old now new sofar.only next.only;
      takes = λ values end keeps.
          let some = sofar.takes values end keeps in
          let more = next.takes values some.between some.kept in
          record {
            after = more.after;
            delivers = subst (λ (after : EndLog).
                IsDelivered 0 end octets (Stops (drop taken octets)) after) (sym more.goes_on)
                (some.delivers (Stops (drop taken octets)) some.between
                (stops calls (drop taken octets)));
            accepted = more.accepted ∙ some.accepted;
            kept = more.kept;
          };
    }

-- No call is left.
pub takes_no_more : (side : Side) (old now : Joined) (octets : List ℕ) (calls taken : ℕ)
    → TakesSoFar side old octets calls taken now
    → TakesDelivery side old octets (delivered.Stopped taken) now
takes_no_more side old now octets calls taken sofar =
    record {
      within = sofar.within;
      only = sofar.only;
      takes = λ values end keeps.
          let some = sofar.takes values end keeps in
          record {
            after = some.between;
            delivers = some.delivers (Stops (drop taken octets)) some.between
                (stops calls (drop taken octets));
            accepted = some.accepted;
            kept = some.kept;
          };
    }
