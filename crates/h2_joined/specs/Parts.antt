-- What is kept of a message that is given in parts, with a part more.
use Rattle.std.specs.Prelude.{map as each, ◌≡◌, ◌≢◌, ◌≤◌, ◌+◌, ℕ, ◌==◌, Bool, false}
use Rattle.std.specs.Prelude.{if◌then◌else◌, List, [], ◌∷◌, ◌++◌, length, reverse, Option, Some}
use Rattle.std.specs.Prelude.{None, IfSome, vec_len}
use Rattle.std.specs.Option.{option_or}
use Rattle.std.specs.List.{AllByRecursion}
use Rattle.std.specs.Vec.{vec_capacity}
use Rattle.hpack.specs.declared.types.field.Field.{Field}
use Rattle.h2_message.specs.Messages.{SentMessage}
use Rattle.h2_joined.specs.declared.kept.Accepted.{Accepted}
use Rattle.h2_joined.specs.declared.kept.Kept.{Kept}
use Rattle.h2_joined.specs.declared.act.Side.{Side}
use Rattle.h2_joined.specs.declared.joined.Joined.{Joined}
use Rattle.h2_joined.specs.Kept.{Shown, accepted_shown, end_at, kept_of, other_side}

-- what was accepted, the newest first
abbrev pub shown_of : List Accepted → List Shown
shown_of accepted = reverse (each accepted_shown accepted)

-- the same with more of what was accepted for a stream
unfoldable pub grown : ℕ → (SentMessage × Bool → SentMessage × Bool) → List Shown → List Shown
grown id more [] = []
grown id more ((i, shown) ∷ accepted) =
    if i == id then (i, more shown) ∷ accepted else (i, shown) ∷ grown id more accepted

-- At this place is the last of what was accepted for a stream.
pub record IsLastAt (accepted : List Accepted) (id place : ℕ) : Type 0 where
  pub before : List Accepted
  pub one : Accepted
  pub later : List Accepted
  pub is : accepted ≡ before ++ one ∷ later
  pub at : length before ≡ place
  pub of : one.id ≡ id
  pub others : AllByRecursion (λ other. other.id ≢ id) later

-- There it is, if anything was accepted for the stream.
abbrev pub IsPlaceOf : List Accepted → ℕ → Option ℕ → Type 0
IsPlaceOf accepted id None = AllByRecursion (λ one. one.id ≢ id) accepted
IsPlaceOf accepted id (Some place) = IsLastAt accepted id place

-- the last of what was accepted for a stream, if anything was
unfoldable pub last_for : ℕ → List Accepted → Option Accepted
last_for id [] = None
last_for id (one ∷ later) =
    option_or (last_for id later) (if one.id == id then Some one else None)

-- There is room for so many octets more of its body, if anything was.
abbrev pub HasRoomInBody : List Accepted → ℕ → (count : ℕ) → Type 0
HasRoomInBody accepted id count =
    IfSome (last_for id accepted)
    (λ one. vec_len one.message.body + count ≤ vec_capacity one.message.body)

-- Of what is kept only what was accepted has changed, and that is shown so now.
pub record ShowsAccepted (old : Kept) (shown : List Shown) (new : Kept) : Type 0 where
  pub incoming : new.incoming ≡ old.incoming
  pub accepted : shown_of new.accepted.items ≡ shown
  pub handed : new.handed ≡ old.handed
  pub unfinished : new.unfinished ≡ old.unfinished

-- a message with octets of its body more, after which it goes on or not
abbrev pub shown_with_octets : List ℕ → (ended : Bool) → SentMessage × Bool → SentMessage × Bool
shown_with_octets octets ended (message, begun) = (
  record {
    head = message.head;
    body = message.body ++ octets;
    trailers = message.trailers;
  },
  if ended then false else begun,
)

-- a message with these trailers, which end it
abbrev pub shown_with_trailers : List Field → SentMessage × Bool → SentMessage × Bool
shown_with_trailers list (message, begun) = (
  record { head = message.head; body = message.body; trailers = Some list },
  false,
)

-- Only what is kept as accepted at this end has changed, and that is shown so now.
pub record ChangesShown (side : Side) (old : Joined) (shown : List Shown) (new : Joined) : Type 0
  where
    pub one_end : end_at side new ≡ end_at side old
    pub other_end : end_at (other_side side) new ≡ end_at (other_side side) old
    pub kept : ShowsAccepted (kept_of side old) shown (kept_of side new)
    pub other_kept : kept_of (other_side side) new ≡ kept_of (other_side side) old

-- what is shown of what an end has accepted
abbrev pub shown_at : Side → Joined → List Shown
shown_at side joined = shown_of (kept_of side joined).accepted.items

-- A call of an end was made, and nothing that is kept has changed.
pub record CallsEnd (side : Side) (old new : Joined) : Type 0 where
  pub other_end : end_at (other_side side) new ≡ end_at (other_side side) old
  pub kept : kept_of side new ≡ kept_of side old
  pub other_kept : kept_of (other_side side) new ≡ kept_of (other_side side) old
