-- What a handler of whole requests keeps, and how it answers them.
use Rattle.std.specs.Prelude.{◌≡◌, ◌⊎◌, ◌<◌, ◌≤◌, ◌-◌, ℕ, Bool, true, false, List, [], ◌++◌, length}
use Rattle.std.specs.Prelude.{Option, Some, None, option_map, Result, Ok, Err}
use Rattle.hpack.specs.declared.types.field.Field.{Field}
use Rattle.h2_message.specs.declared.message.Message.{Message}
use Rattle.h2_message.specs.Values.{message_value}
use Rattle.h2_server.specs.declared.buffered.Buffered.{Buffered}
use Rattle.h2_server.specs.declared.buffered.BufferedRequest.{BufferedRequest}
use Rattle.h2_server.specs.declared.buffered.Request.{Request}
use Rattle.h2_server.specs.declared.handler.HandlerFault.{HandlerFault}
use Rattle.h2_server.specs.declared.handler.HandlerFault.TheVariants.{Memory, Failed}
use Rattle.h2_server.specs.declared.handler.Part.{Part}
use Rattle.h2_server.specs.declared.handler.Reply.{Reply}
use Rattle.h2_server.specs.declared.handler.Reply.TheVariants as replies
use Rattle.h2_server.specs.Giving.{status_alone}

-- what a service says of itself: that a request with this head, body and trailers may be answered
-- so
abbrev pub ServiceSays : (A : Type 0) → Type 1
ServiceSays A =
    A → (head : List Field) → (body : List ℕ) → (trailers : Option (List Field))
    → Result Message HandlerFault → A → Type 0

-- the trailers of a request, if it has any
abbrev pub trailers_of : Request → Option (List Field)
trailers_of request = option_map (λ list. list.items) request.trailers

-- This is kept of a request: this head, these octets of its body, and these trailers.
pub record IsGathered (request : Request) (head : List Field) (body : List ℕ)
    (trailers : Option (List Field)) : Type 0 where
  pub head_is : request.head.items ≡ head
  pub body_is : request.body.items ≡ body
  pub trailers_are : trailers_of request ≡ trailers

-- The answer is what the service has said of the request, as a whole message; or its fault.
-- rule: handlers (own) A whole request is answered by what has come of it, all and in order
abbrev pub AnswersGathered : {A : Type 0} → ServiceSays A → Request → (old : A)
    → Result Reply HandlerFault → (new : A) → Type 0
AnswersGathered answers request old (Ok reply) new =
    (message : Message) × (reply ≡ replies.Whole message)
    × answers old request.head.items request.body.items (trailers_of request) (Ok message) new
AnswersGathered answers request old (Err fault) new =
    answers old request.head.items request.body.items (trailers_of request) (Err fault) new

-- The request is whole, and is answered so; or it isn't, and waits.
abbrev pub AnswersIfWhole : {A : Type 0} → ServiceSays A → (whole : Bool) → Request
    → (old : Buffered A) → Result Reply HandlerFault → (new : Buffered A) → Type 0
AnswersIfWhole answers true request old result new =
    AnswersGathered answers request old.service result new.service × (new.most ≡ old.most)
AnswersIfWhole answers false request old result new =
    (result ≡ Ok replies.Later) × (new ≡ old)

-- The request was whole, and the service has failed; or there was no memory for what has come, and
-- the service is as it was.
abbrev pub FailsGathering : {A : Type 0} → ServiceSays A → (whole : Bool) → (head : List Field)
    → (body : List ℕ) → (trailers : Option (List Field)) → (old : Buffered A) → HandlerFault
    → (new : Buffered A) → Type 0
FailsGathering answers whole head body trailers old fault new =
    ((fault ≡ Memory) × (new ≡ old))
    ⊎ ((whole ≡ true) × answers old.service head body trailers (Err fault) new.service
    × (new.most ≡ old.most))

-- This is kept of a request now, and it is answered where it is whole.
pub record GathersOn {A : Type 0} (answers : ServiceSays A) (whole : Bool) (head : List Field)
    (body : List ℕ) (trailers : Option (List Field)) (old : Buffered A) (reply : Reply)
    (next : Option BufferedRequest) (new : Buffered A) : Type 0 where
  pub gathered : BufferedRequest
  pub kept : next ≡ Some gathered
  pub is : IsGathered gathered.request head body trailers
  pub so : AnswersIfWhole answers whole gathered.request old (Ok reply) new

-- The head of a request has come: it is kept, and the request is answered where it is whole.
-- rule: handlers (own) A whole request is answered by what has come of it, all and in order
abbrev pub GathersHead : {A : Type 0} → ServiceSays A → (old : Buffered A) → (list : List Field)
    → (whole : Bool) → Result (Option BufferedRequest × Reply) HandlerFault → (new : Buffered A)
    → Type 0
GathersHead answers old list whole (Ok (next, reply)) new =
    GathersOn answers whole list [] None old reply next new
GathersHead answers old list whole (Err fault) new =
    FailsGathering answers whole list [] None old fault new

-- Whether octets of a body are too many for what is kept.
abbrev pub AreTooMany : {A : Type 0} → Buffered A → Request → (octets : List ℕ) → Type 0
AreTooMany gather request octets = gather.most - length request.body.items < length octets

-- the status of a request whose body has too many octets
abbrev pub too_large : ℕ
too_large = 413

-- A request is refused, and the answer is this status alone.
abbrev pub RefusesAs : (status : ℕ) → Reply → Type 0
RefusesAs status reply =
    (message : Message) × (reply ≡ replies.Refuse message)
    × (message_value message ≡ status_alone status)

-- Octets of its body have come: they are kept after those that came before, and the request is
-- answered where it is whole. One whose body has too many octets is refused, with status 413. Then,
-- and after a fault, nothing is kept, and the service is not asked any more.
-- rule: HTTP 15.5.14 (own) A body above what is gathered is refused with status 413
-- rule: handlers (own) A whole request is answered by what has come of it, all and in order
abbrev pub GathersBody : {A : Type 0} → ServiceSays A → (old : Buffered A) → Option BufferedRequest
    → (octets : List ℕ) → (whole : Bool) → Result Reply HandlerFault
    → (next : Option BufferedRequest) → (new : Buffered A) → Type 0
GathersBody answers old None octets whole result next new =
    (result ≡ Ok replies.Later) × (next ≡ None) × (new ≡ old)
GathersBody answers old (Some gathered) octets whole (Ok reply) next new =
    let request = gathered.request in
    (AreTooMany old request octets × RefusesAs too_large reply × (next ≡ None) × (new ≡ old))
    ⊎ ((length octets ≤ old.most - length request.body.items)
    × GathersOn answers whole request.head.items (request.body.items ++ octets)
    (trailers_of request) old reply next new)
GathersBody answers old (Some gathered) octets whole (Err fault) next new =
    let request = gathered.request in
    (AreTooMany old request octets × (fault ≡ Memory) × (next ≡ None) × (new ≡ old))
    ⊎ ((length octets ≤ old.most - length request.body.items) × (next ≡ None)
    × FailsGathering answers whole request.head.items (request.body.items ++ octets)
    (trailers_of request) old fault new)

-- Its trailers have come: the request is whole, and is answered.
-- rule: handlers (own) A whole request is answered by what has come of it, all and in order
abbrev pub GathersTrailers : {A : Type 0} → ServiceSays A → (old : Buffered A)
    → Option BufferedRequest → (list : List Field) → Result Reply HandlerFault
    → (next : Option BufferedRequest) → (new : Buffered A) → Type 0
GathersTrailers answers old None list result next new =
    (result ≡ Ok replies.Later) × (next ≡ None) × (new ≡ old)
GathersTrailers answers old (Some gathered) list (Ok reply) next new =
    GathersOn answers true gathered.request.head.items gathered.request.body.items (Some list) old
    reply next new
GathersTrailers answers old (Some gathered) list (Err fault) next new =
    (next ≡ None)
    × FailsGathering answers true gathered.request.head.items gathered.request.body.items
    (Some list) old fault new

-- It gives no response in parts.
abbrev pub GivesNoPart : {A : Type 0} → (old : Buffered A) → Option BufferedRequest
    → Result Part HandlerFault → (next : Option BufferedRequest) → (new : Buffered A) → Type 0
GivesNoPart old work part next new = (part ≡ Err Failed) × (next ≡ work) × (new ≡ old)
