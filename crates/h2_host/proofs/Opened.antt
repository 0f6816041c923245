-- What a host answers where a connection is opened, or its transport was closed.
use Rattle.std.specs.Prelude.{◌≡◌, ◌≤◌, ◌+◌, ◌-◌, ℕ, List, [], ◌++◌, length, Bool}
use Rattle.std.specs.VecDeque.{deque_capacity}
use Rattle.std.proofs.Common.{refl, sym, ap, subst, ◌∙◌}
use Rattle.std.proofs.lemmas.List.{append-nil}
use Rattle.h2_host.specs.declared.host.Reply.TheVariants as replies
use Rattle.h2_host.specs.declared.party.Answer.{Answer}
use Rattle.h2_host.specs.declared.party.Own.{Own}
use Rattle.h2_host.specs.declared.state.HostState.{HostState}
use Rattle.h2_host.specs.declared.token.Token.{Token}
use Rattle.h2_host.specs.Openings.{EmptiesPlace, MakesPlace, TakesPlace}
use Rattle.h2_host.specs.Queueing.{QueuesPlace}
use Rattle.h2_host.specs.Sound.{IsSoundHost}
use Rattle.h2_host.specs.Steps.{AnswersClosing, AnswersOpening, slots_of}
use Rattle.h2_host.specs.Isolation.{left, nothing}
use Rattle.h2_host.specs.Turns.{ReadyWait}
use Rattle.h2_host.proofs.OpeningsKept.{counted_freed, counted_made, counted_taken, is_fresh}
use Rattle.h2_host.proofs.OpeningsKept.{leaves_freed, left_no_more, opens_happen, opens_taken}
use Rattle.h2_host.proofs.OpeningsKept.{others_taken, same_made, wait_freed, wait_made}
use Rattle.h2_host.proofs.Places.{at_kept}
use Rattle.h2_host.proofs.SoundKept.{IsCounted, counted_of, counted_queued, longer_queued}
use Rattle.h2_host.proofs.SoundKept.{same_queued, sound_of, wait_queued}

module _ {P : Type 0} (steps : P → Own → List ℕ → Answer → P → Type 0) (held_of : P → ℕ)
    (ready_of : P → Bool) where
  -- A place was made, perhaps, and nothing else has changed.
  pub record MadePlace (old new : HostState P) : Type 0 where
    pub made : MakesPlace (slots_of old) (slots_of new) old.limits.connections
    pub queue : new.queue.items ≡ old.queue.items
    pub space : length (slots_of new) ≤ deque_capacity new.queue
    pub held : new.held ≡ old.held
    pub limits : new.limits ≡ old.limits
    pub turn : new.turn ≡ old.turn

  -- A connection is handed back, and a place made for nobody, perhaps.
  pub full_answered : (old new : HostState P) (party : P) → IsSoundHost held_of ready_of old
      → MadePlace old new
      → AnswersOpening steps old new party (replies.Full party)
      × IsSoundHost held_of ready_of new
  full_answered old new party is made = (
    (
      refl,
      same_made (slots_of old) (slots_of new) old.limits.connections made.made,
      made.turn,
      record {
        limits = made.limits;
        added = [];
        queue = made.queue ∙ sym (append-nil old.queue.items);
      },
    ),
    sound_of held_of ready_of new new.turn
        (counted_made held_of ready_of old new (counted_of held_of ready_of old is) made.made
        made.queue made.space made.held made.limits)
        (subst (λ t. ReadyWait ready_of (slots_of new) t.token) (sym made.turn)
        (wait_made held_of ready_of (slots_of old) (slots_of new) old.limits.connections
        old.turn.token made.made is.steady.ready)),
  )

  -- It got the place, before that was put into the queue.
  pub record TookPlace (old mid next : HostState P) (token : Token) (party : P) : Type 0 where
    pub place : MadePlace old mid
    pub takes : TakesPlace (slots_of mid) (slots_of next) token party
    pub queue : next.queue ≡ mid.queue
    pub limits : next.limits ≡ mid.limits
    pub turn : next.turn ≡ mid.turn
    pub held : next.held ≡ mid.held + held_of party
    pub small : held_of party ≤ mid.limits.held
    pub fits : next.held ≤ mid.limits.held_in_all

  -- What is counted of the host then.
  pub counted_took : (old mid next : HostState P) (token : Token) (party : P)
      → IsSoundHost held_of ready_of old → TookPlace old mid next token party
      → IsCounted held_of next
  counted_took old mid next token party is took =
      let place = took.place in
      counted_taken held_of ready_of mid next token party
      (counted_made held_of ready_of old mid (counted_of held_of ready_of old is) place.made
      place.queue place.space place.held place.limits) took.takes took.queue took.limits took.held
      took.small took.fits

  -- A connection is opened, and put into the queue where it is ready.
  pub opened_answered : (old mid next new : HostState P) (token : Token) (party : P)
      → IsSoundHost held_of ready_of old → TookPlace old mid next token party
      → QueuesPlace ready_of next new token.place
      → AnswersOpening steps old new party (replies.Opened token)
      × IsSoundHost held_of ready_of new
  opened_answered old mid next new token party is took queues =
      let place = took.place in
      let same = same_made (slots_of old) (slots_of mid) old.limits.connections place.made in
      let opens = opens_taken (slots_of mid) (slots_of next) token party took.takes in
      let kept = same_queued held_of ready_of next new token.place queues in
      let longer = longer_queued held_of ready_of next new token.place queues in
      let turn = queues.turn ∙ (took.turn ∙ place.turn) in
      let waits = wait_made held_of ready_of (slots_of old) (slots_of mid) old.limits.connections
      old.turn.token place.made is.steady.ready in
      let others = others_taken held_of ready_of (slots_of mid) (slots_of next) token party
      old.turn.token took.takes waits in (
        (
          at_kept (slots_of next) (slots_of new) token party kept opens.is,
          is_fresh (slots_of old) (slots_of mid) (slots_of next) token party same opens,
          opens_happen steps (slots_of old) (slots_of mid) (slots_of next) (slots_of new) token
              party same opens kept,
          turn,
          record {
            limits = queues.beside.limits ∙ (took.limits ∙ place.limits);
            added = longer.0;
            queue = longer.1 ∙ ap (λ q. q ++ longer.0)
                (ap (λ d. d.items) took.queue ∙ place.queue);
          },
        ),
        sound_of held_of ready_of new new.turn
            (counted_queued held_of ready_of next new token.place
            (counted_took old mid next token party is took) queues)
            (subst (λ t. ReadyWait ready_of (slots_of new) t.token) (sym turn)
            (wait_queued held_of ready_of next new token.place old.turn.token queues others)),
      )

  -- A transport was closed: its connection is gone.
  pub closed_answered : (old new : HostState P) (token : Token) (party : P)
      → IsSoundHost held_of ready_of old
      → EmptiesPlace (slots_of old) (slots_of new) token party → new.queue ≡ old.queue
      → new.limits ≡ old.limits → new.turn ≡ old.turn → new.held ≡ old.held - held_of party
      → AnswersClosing steps old new token replies.Closed × IsSoundHost held_of ready_of new
  closed_answered old new token party is empties queue limits turn held =
      let leaves = leaves_freed (slots_of old) (slots_of new) token party empties in (
        (
          (leaves.party, leaves.at),
          left_no_more (slots_of old) (slots_of new) token leaves,
          left (slots_of old) (slots_of new) [] token leaves nothing,
          turn,
          record {
            limits = limits;
            added = [];
            queue = ap (λ d. d.items) queue ∙ sym (append-nil old.queue.items);
          },
        ),
        sound_of held_of ready_of new new.turn
            (counted_freed held_of ready_of old new token party
            (counted_of held_of ready_of old is) empties queue limits held)
            (subst (λ t. ReadyWait ready_of (slots_of new) t.token) (sym turn)
            (wait_freed held_of ready_of (slots_of old) (slots_of new) token party old.turn.token
            empties is.steady.ready)),
      )
