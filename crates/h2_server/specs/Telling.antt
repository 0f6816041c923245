-- What a handler is told of what its connection hands out, and what is kept then.
use Rattle.std.specs.Prelude.{◌≡◌, ◌≢◌, ◌⊎◌, ◌||◌, ℕ, Bool, true, false, List, Option, Some, None}
use Rattle.std.specs.Prelude.{Result, Ok, Err, codes}
use Rattle.hpack.specs.declared.types.field.Field.{Field}
use Rattle.h2_spec_log.specs.Events.{ResetEvent}
use Rattle.h2_ends.specs.Ends.{Handed, HeadHanded, BodyHanded, TrailersHanded, Passed}
use Rattle.h2_message.specs.Fields.{value_or_nothing}
use Rattle.h2_message.specs.Messages.{asks_head}
use Rattle.h2_message.specs.Octets.{names_user}
use Rattle.h2_server.specs.declared.exchange.Stage.TheVariants as stages
use Rattle.h2_server.specs.declared.handler.Cause.{Cause}
use Rattle.h2_server.specs.declared.handler.Cause.TheVariants as causes
use Rattle.h2_server.specs.declared.handler.HandlerFault.{HandlerFault}
use Rattle.h2_server.specs.declared.handler.HandlerFault.TheVariants.{Failed}
use Rattle.h2_server.specs.declared.handler.Part.{Part}
use Rattle.h2_server.specs.declared.handler.Reply.{Reply}
use Rattle.h2_server.specs.Exchanges.{Relations, Kept, exchange_at, SetsKept, Handling}
use Rattle.h2_server.specs.Exchanges.{IsSameHandling}
use Rattle.h2_server.specs.Stages.{stage_after, refused_after, bad_request}

-- Whether the authority of a request names a user.
abbrev pub authority_names_user : List Field → Bool
authority_names_user list = names_user (value_or_nothing (codes ":authority") list)

-- what is kept of an exchange of which the handler was told nothing yet
abbrev pub kept_new : {W : Type 0} → (whole to_head : Bool) → Kept W
kept_new whole to_head = record {
  work = None;
  whole = whole;
  to_head = to_head;
  refused = false;
  stage = stages.Asked;
  since = None;
}

-- the same after this answer to the head
abbrev pub kept_begun : {W : Type 0} → Kept W → Result (W × Reply) HandlerFault → Kept W
kept_begun kept (Ok (work, reply)) = record kept {
  work = Some work;
  refused = refused_after kept.refused kept.stage (Ok reply);
  stage = stage_after kept.whole kept.stage (Ok reply);
}
kept_begun kept (Err fault) = record kept { stage = stage_after kept.whole kept.stage (Err fault) }

-- The head of a request was told to the handler; or it wasn't, since the authority names a user,
-- and status 400 is to be the answer.
-- rule: handlers (own) An authority that names a user is a 400 of which no handler is told
abbrev pub ToldHead : {H W : Type 0} → Relations H W → ℕ → List Field → (ends : Bool)
    → (old new : H) → (kept next : Kept W) → Type 0
ToldHead {H} {W} rel id list ends old new kept next =
    ((authority_names_user list ≡ true) × (new ≡ old)
    × (next ≡ record kept { stage = stages.Fails bad_request }))
    ⊎ ((authority_names_user list ≡ false) × ((answer : Result (W × Reply) HandlerFault)
    × rel.heads old id list ends answer new × (next ≡ kept_begun kept answer)))

-- what is kept after more of its request was told: with this work, and after this answer
abbrev pub kept_more : {W : Type 0} → Kept W → (ends : Bool) → (work : W)
    → Result Reply HandlerFault → Kept W
kept_more kept ends work reply = record {
  work = Some work;
  whole = ends || kept.whole;
  to_head = kept.to_head;
  refused = refused_after kept.refused kept.stage reply;
  stage = stage_after (ends || kept.whole) kept.stage reply;
  since = kept.since;
}

-- the same where the handler wasn't told
abbrev pub kept_untold : {W : Type 0} → Kept W → (ends : Bool) → Kept W
kept_untold kept ends = record kept { whole = ends || kept.whole }

-- More of a request was told to the handler, with what it keeps of that exchange; or it wasn't,
-- since it keeps nothing of it, or has refused the rest.
-- rule: 8.1 (own) What comes of a request that was refused is dropped
abbrev pub ToldMore : {H W : Type 0} → (told : H → W → Result Reply HandlerFault → W → H → Type 0)
    → (ends : Bool) → (old new : H) → (kept next : Kept W) → Type 0
ToldMore {H} {W} told ends old new kept next =
    (((kept.work ≡ None) ⊎ (kept.refused ≡ true)) × (new ≡ old) × (next ≡ kept_untold kept ends))
    ⊎ ((work after : W) × (reply : Result Reply HandlerFault) × (kept.work ≡ Some work)
    × (kept.refused ≡ false) × told old work reply after new
    × (next ≡ kept_more kept ends after reply))

abbrev pub ToldBody : {H W : Type 0} → Relations H W → List ℕ → (ends : Bool) → (old new : H)
    → (kept next : Kept W) → Type 0
ToldBody rel octets ends old new kept next =
    ToldMore (λ handler work reply after then. rel.bodies handler work octets ends reply after then)
    ends old new kept next

abbrev pub ToldTrailers : {H W : Type 0} → Relations H W → List Field → (old new : H)
    → (kept next : Kept W) → Type 0
ToldTrailers rel list old new kept next =
    ToldMore (λ handler work reply after then. rel.trails handler work list reply after then) true
    old new kept next

-- The handler was asked for the next part of a response; or not, since it keeps nothing of that
-- exchange.
abbrev pub AskedPart : {H W : Type 0} → Relations H W → (room : List ℕ)
    → Result Part HandlerFault → (old new : H) → (kept next : Kept W) → Type 0
AskedPart {H} {W} rel room part old new kept next =
    ((kept.work ≡ None) × (new ≡ old) × (part ≡ Err Failed) × (next ≡ kept))
    ⊎ ((work after : W) × (kept.work ≡ Some work) × rel.gives old work part room after new
    × (next ≡ record kept { work = Some after }))

-- Something was told of the exchange on a stream, and of no other.
pub record ChangesOne {H W : Type 0} (told : (old new : H) → (kept next : Kept W) → Type 0)
    (id : ℕ) (old new : Handling H W) : Type 0 where
  pub kept : Kept W
  pub next : Kept W
  pub was : exchange_at id old.entries ≡ Some kept
  pub told_so : told old.handler new.handler kept next
  pub now : SetsKept id (Some next) old.entries new.entries

-- So it was, or there is no such exchange.
abbrev pub ChangesAny : {H W : Type 0} → (told : (old new : H) → (kept next : Kept W) → Type 0)
    → (id : ℕ) → (old new : Handling H W) → Type 0
ChangesAny told id old new =
    ChangesOne told id old new ⊎ ((exchange_at id old.entries ≡ None) × IsSameHandling old new)

-- A handler has learned that an exchange is over, if it was told of it at all.
abbrev pub LearnsOver : {H W : Type 0} → Relations H W → (old : H) → Option W → Cause → (new : H)
    → Type 0
LearnsOver rel old None cause new = new ≡ old
LearnsOver rel old (Some work) cause new = rel.ends old work cause new

-- An exchange is over: nothing is kept of it any more, and its handler has learned why, once.
-- rule: handlers (own) Of each exchange a handler learns once that it is over, and why
pub record EndsOne {H W : Type 0} (rel : Relations H W) (id : ℕ) (cause : Cause)
    (old new : Handling H W) : Type 0 where
  pub kept : Kept W
  pub was : exchange_at id old.entries ≡ Some kept
  pub learns : LearnsOver rel old.handler kept.work cause new.handler
  pub gone : SetsKept id None old.entries new.entries

-- An exchange is over, or there is none.
abbrev pub EndsAny : {H W : Type 0} → Relations H W → ℕ → Cause → (old new : Handling H W)
    → Type 0
EndsAny rel id cause old new =
    EndsOne rel id cause old new ⊎ ((exchange_at id old.entries ≡ None) × IsSameHandling old new)

-- Exchanges end, one after another, since the connection is over.
pub data EndsEach {H W : Type 0} (rel : Relations H W) (new : Handling H W)
    : (old : Handling H W) → Type 0 where
  no_more : EndsEach rel new new
  goes_on : {old next : Handling H W} → IsSameHandling old next → EndsEach rel new next
      → EndsEach rel new old
  ends_one : {old next : Handling H W} (id : ℕ) → EndsOne rel id causes.Closed old next
      → EndsEach rel new next → EndsEach rel new old

-- A new exchange has begun.
pub record BeginsOne {H W : Type 0} (rel : Relations H W) (id : ℕ) (list : List Field)
    (ends : Bool) (old new : Handling H W) : Type 0 where
  pub next : Kept W
  pub none : exchange_at id old.entries ≡ None
  pub told_so : ToldHead rel id list ends old.handler new.handler
      (kept_new ends (asks_head list)) next
  pub now : SetsKept id (Some next) old.entries new.entries

-- So it has, or there was one.
abbrev pub BeginsAny : {H W : Type 0} → Relations H W → ℕ → List Field → (ends : Bool)
    → (old new : Handling H W) → Type 0
BeginsAny rel id list ends old new =
    BeginsOne rel id list ends old new
    ⊎ ((exchange_at id old.entries ≢ None) × IsSameHandling old new)

-- What was handed out was told to the handler: on its own stream, and nothing else. Of the rest of
-- a request it isn't told where it keeps nothing of that exchange: it has failed at its head, or
-- the authority names a user; nor where the exchange is over.
-- rule: handlers (own) A handler is told of each stream what was handed out of it, in order
abbrev pub Tells : {H W : Type 0} → Relations H W → Handed → (old new : Handling H W) → Type 0
Tells rel (HeadHanded id list ends) old new = BeginsAny rel id list ends old new
Tells rel (BodyHanded id octets ends) old new = ChangesAny (ToldBody rel octets ends) id old new
Tells rel (TrailersHanded id list) old new = ChangesAny (ToldTrailers rel list) id old new
Tells rel (Passed (ResetEvent id code ours)) old new =
    EndsAny rel id (causes.Reset code ours) old new
Tells rel handed old new = IsSameHandling old new
