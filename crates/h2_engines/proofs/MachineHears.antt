-- What a machine that is driven makes of octets, by what a call of `take` has made of its end.
use Rattle.h2_engines.proofs.Names.{◌≡◌, ℕ, List, length, Option, Ok, Err, EndLog, Handed}
use Rattle.h2_engines.proofs.Names.{EndAnswer, EndTook, EndMayTake, EndRepresents, LinkError, Heard}
use Rattle.h2_engines.proofs.Names.{Traffic, Happens, MachineState, Course, Keeps, IsDriven}
use Rattle.h2_engines.proofs.Names.{HearsNoMore, HearsSo}
use Rattle.h2_engines.proofs.ResponderEnds.{given_within}
use Rattle.h2_engines.proofs.ServeLinkTakes.{SaysUsed, takes_first, took_links, links_first}
use Rattle.h2_engines.proofs.TurnsPassed.{turns_of_take, turns_of_answer}
use Rattle.h2_engines.specs.declared.request.Next.TheVariants as nexts

-- It goes on,
pub hears_on : {course : Course} {now : Traffic} {old : MachineState} (new : MachineState)
    {end after : EndLog} {piece : List ℕ} (heard : Heard) (handed : Option Handed)
    → IsDriven course now old end piece nexts.Again
    → EndMayTake end piece (EndTook heard.used handed) after
    → EndRepresents course.values new.end after → Happens course new.kept after
    → Keeps course.message new.kept after heard.next
    → (heard.next ≡ nexts.Done → heard.used ≡ length piece)
    → HearsSo course now end piece new after (Ok heard)
unfolding HearsSo
hears_on new heard handed is may represents happened keeps done =
    let first = takes_first may in (
      record {
        happened = happened;
        represents = represents;
        linked = took_links (given_within is.represents) is.linked first.uses first.says.0;
        up = first.says.1;
        keeps = keeps;
      },
      turns_of_take may,
      done,
    )

-- or can't hear on.
pub hears_last : {course : Course} {now : Traffic} {old : MachineState} (new : MachineState)
    {end after : EndLog} {piece : List ℕ} {answer : EndAnswer} (error : LinkError)
    → IsDriven course now old end piece nexts.Again → EndMayTake end piece answer after
    → EndRepresents course.values new.end after → Happens course new.kept after
    → ((octets : List ℕ) → SaysUsed answer octets after.log → HearsNoMore course.message new.kept
    after error) → HearsSo course now end piece new after (Err error)
unfolding HearsSo
hears_last new error is may represents happened why =
    let first = takes_first may in (
      record {
        happened = happened;
        represents = represents;
        unused = first.uses.unused;
        linked = links_first (given_within is.represents) is.linked first.uses;
        why = why first.uses.octets first.says;
      },
      turns_of_answer may,
    )
