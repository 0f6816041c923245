-- What stays of a machine where nothing of messages has happened at its end, and what may happen
-- there.
use Rattle.h2_engines.proofs.Names
use Names.{◌≡◌, ℕ, Bool, true, false, List, length, Result, Err, refl, sym, ap, ◌∙◌, subst, inr}
use Names.{SentMessage, EndRefusal, EndLog, Handed, EndRepresents, LinkError, ends_message}
use Names.{said_for, parts_on, MayPump, MayReleaseAll, Next, EndsWriting, Traffic, IsLinked}
use Names.{StallsWriting, Happens, HasCome, IsWhole, IsSameOfMessages, ◌≢◌, EndsUnfinished}
use Names.{MessageState, Serving, Fetching, MachineState, Course, IsDriven, EndsBeforeResponse}
use Names.{IsDue, EndsFor, lacks_memory, link_fails, has_stalled, HasEnded, Keeps}
use Rattle.h2_engines.proofs.FetchLinkParts.{come_not_whole}
use Rattle.h2_engines.proofs.ResponderEnds.{given_first, given_within}
use Rattle.h2_engines.proofs.ResponderWrites.{MayPutOut}
use Rattle.h2_engines.proofs.SameRequests.{kept_same_next}
use Rattle.h2_engines.proofs.ServeLinkLogs.{goes_links, StaysOn, stays_same}
use Rattle.h2_link.specs.declared.error.LinkError.TheVariants as errors
use Rattle.h2_engines.specs.declared.request.Next.TheVariants as nexts
use Rattle.h2_engines.specs.ClientHistories as client
use Rattle.h2_engines.specs.ServerHistories as server

-- Whatever has happened at a machine, output may be put out then, what waits sent, and what is owed
-- given back.
pub puts_at : (course : Course) (kept : MessageState) → MayPutOut (Happens course kept)
puts_at course (Serving requests answered) end count answer was typed may =
    server.gives_out was count answer typed may
puts_at course (Fetching id coming whole) end count answer was typed may =
    client.gives_out was count answer typed may

module _ (course : Course) where
  pub pumps_at : (kept : MessageState) (end after : EndLog) (result : Result ℕ EndRefusal)
      → Happens course kept end → MayPump end result after → Happens course kept after
  pumps_at (Serving requests answered) end after result was may = server.pumps was result may
  pumps_at (Fetching id coming whole) end after result was may = client.pumps was result may

  pub releases_at : (kept : MessageState) (end after : EndLog)
      (result : Result (Unit {0}) EndRefusal) → Happens course kept end
      → MayReleaseAll end result after → Happens course kept after
  releases_at (Serving requests answered) end after result was may = server.releases was result may
  releases_at (Fetching id coming whole) end after result was may = client.releases was result may

-- What is kept holds still where nothing of messages has happened,
pub keeps_same : (message : SentMessage) (kept : MessageState) (before after : EndLog) (next : Next)
    → IsSameOfMessages before after → Keeps message kept before next
    → Keeps message kept after next
unfolding Keeps
keeps_same message (Serving requests answered) before after next same keeps = (
  kept_same_next requests next same keeps.0,
  keeps.1 ∙ ap length (sym same.accepted),
)
keeps_same message (Fetching id coming whole) before after nexts.Whole same keeps = (
  ap (said_for id) same.accepted ∙ keeps.0,
  subst (λ (handed : List Handed). IsWhole coming (parts_on id handed)) (sym same.handed) keeps.1,
  keeps.2,
)
keeps_same message (Fetching id coming whole) before after (nexts.Answer stream request) same keeps
    = absurd keeps
keeps_same message (Fetching id coming whole) before after (nexts.Reset stream) same keeps =
    absurd keeps
keeps_same message (Fetching id coming whole) before after next same keeps = (
  ap (said_for id) same.accepted ∙ keeps.0,
  subst (λ (handed : List Handed). HasCome coming (parts_on id handed)) (sym same.handed) keeps.1,
  keeps.2,
)

-- and so does what holds of an early end.
unfinished_same : (before after : EndLog) (id : ℕ) (error : LinkError)
    → after.handed ≡ before.handed → EndsUnfinished before id (Err error)
    → EndsUnfinished after id (Err error)
unfinished_same before after id errors.Memory same is = tt
unfinished_same before after id error same is =
    ap (λ (handed : List Handed). ends_message (parts_on id handed)) same ∙ is

pub holds_same : (message : SentMessage) (kept : MessageState) {before after : EndLog}
    (error : LinkError) → IsSameOfMessages before after
    → EndsBeforeResponse message kept before error
    → EndsBeforeResponse message kept after error
holds_same message (Serving requests answered) error same holds = tt
holds_same message (Fetching id coming whole) {before} {after} error same holds = (
  ap (said_for id) same.accepted ∙ holds.0,
  unfinished_same before after id error same.handed holds.1,
)

-- It holds whenever a machine goes on,
pub unfinished : (end : EndLog) (id : ℕ) (error : LinkError)
    → ends_message (parts_on id end.handed) ≡ false
    → EndsUnfinished end id (Err error)
unfinished end id errors.Memory is = tt
unfinished end id error is = is

pub holds_again : (message : SentMessage) (kept : MessageState) (end : EndLog) (error : LinkError)
    → Keeps message kept end nexts.Again → EndsBeforeResponse message kept end error
unfolding Keeps
holds_again message (Serving requests answered) end error keeps = tt
holds_again message (Fetching id coming whole) end error keeps =
    (keeps.0, unfinished end id error (come_not_whole keeps.1))

-- or something is due.
pub holds_due : (message : SentMessage) (kept : MessageState) (end : EndLog) (due : Next)
    (error : LinkError) → IsDue due → Keeps message kept end due
    → EndsBeforeResponse message kept end error
unfolding Keeps
holds_due message (Serving requests answered) end due error is keeps = tt
holds_due message (Fetching id coming whole) end (nexts.Answer stream request) error is keeps =
    absurd keeps
holds_due message (Fetching id coming whole) end (nexts.Reset stream) error is keeps = absurd keeps
holds_due message (Fetching id coming whole) end due error is keeps = absurd is

-- What is neither to be gone on with, nor done, nor whole, is due.
pub is_due : (next : Next) → next ≢ nexts.Again → next ≢ nexts.Done → next ≢ nexts.Whole
    → IsDue next
is_due nexts.Again again done whole = absurd (again refl)
is_due nexts.Done again done whole = absurd (done refl)
is_due nexts.Whole again done whole = absurd (whole refl)
is_due (nexts.Answer id request) again done whole = tt
is_due (nexts.Reset id) again done whole = tt

-- After a call at which nothing of messages has happened a machine is driven on.
pub stays_driven : {course : Course} {now : Traffic} {old : MachineState} (new : MachineState)
    {end after : EndLog} {unused : List ℕ} {next : Next} → IsDriven course now old end unused next
    → new.kept ≡ old.kept → StaysOn end after → Happens course old.kept after
    → EndRepresents course.values new.end after → IsDriven course now new after unused next
stays_driven {course} {old} new {end} {after} {next} is kept stays happened represents =
    record {
      happened = rw kept happened;
      represents = represents;
      linked = goes_links (given_within is.represents) stays.goes is.linked;
      up = stays.goes.failed ∙ is.up;
      keeps = rw kept (keeps_same _ _ _ _ next (stays_same stays) is.keeps);
    }

-- A machine ends early, and its link took all that was given out.
pub ends_linked : {writes : Bool} (course : Course) {now : Traffic} (held : MachineState)
    {end : EndLog} {unused : List ℕ} {error : LinkError} → Happens course held.kept end
    → EndRepresents course.values held.end end → IsLinked course.start now end.log unused
    → EndsBeforeResponse course.message held.kept end error
    → EndsFor writes course.start now held.kept end error
    → HasEnded writes course now held end error
ends_linked course {now} held {end} {unused} happened represents linked holds why =
    record {
      happened = happened;
      represents = represents;
      unused = unused;
      given = linked.given;
      taken = given_first course.start now end.log linked.taken;
      alone = λ none. linked;
      holds = holds;
      why = why;
    }

pub ends_going : {writes : Bool} {course : Course} {now : Traffic} {held : MachineState}
    {end : EndLog} {unused : List ℕ} {error : LinkError}
    → IsDriven course now held end unused nexts.Again
    → EndsFor writes course.start now held.kept end error
    → HasEnded writes course now held end error
ends_going {course} {held} {end} {error} is why =
    ends_linked course held is.happened is.represents is.linked (holds_again _ _ _ _ is.keeps) why

-- What writes ends it so.
pub writing_ends : (start now : Traffic) (kept : MessageState) (end : EndLog) (error : LinkError)
    → EndsWriting error → StallsWriting {A = Unit {0}} now end (Err error)
    → EndsFor true start now kept end error
writing_ends start now kept end errors.Device is stalls = link_fails refl refl
writing_ends start now kept end errors.Memory is stalls =
    lacks_memory refl (inr (refl, stalls))
writing_ends start now kept end errors.NoProgress is stalls = has_stalled refl stalls
writing_ends start now kept end error is stalls = absurd is
