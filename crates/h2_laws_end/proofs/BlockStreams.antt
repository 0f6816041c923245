-- The stream of a field block is that of the frame that ends it.
use Rattle.h2_laws_end.proofs.Names
use Names.{◌≡◌, ℕ, ◌==◌, nat_lt, ◌⊎◌, not, max, Bool, true, false, if◌then◌else◌, Option, Some}
use Names.{None, refl, sym, ◌∙◌, inl, inr, arith, eqb-true, ltb-false, Code, ProtocolError, Frame}
use Names.{Headers, Continuation, BlockFault, Item, alone, block, Begun, next_fault, View, Decoded}
use Names.{FrameStep, fails_with, begins_block, completes, ltb-true, stream_of, Interrupted}
use Names.{fault_inside, grouped, grouping_step, frame_step, opened_by}
use Rattle.h2_block.proofs.GroupLemmas.{none_some}

-- An item that is a block is on the frame's stream.
abbrev pub IsItemOn : Frame → Item → Type 0
IsItemOn frame (block stream end octets) = stream ≡ stream_of frame
IsItemOn frame (alone other) = Unit {0}

-- So is an item that a step completes.
abbrev pub IsStepOn : Frame → FrameStep → Type 0
IsStepOn frame (fails_with code) = Unit {0}
IsStepOn frame (begins_block begun) = Unit {0}
IsStepOn frame (completes item) = IsItemOn frame item

-- What continues a block is on its stream.
inside_by : (b : Bool) (n m : ℕ) (other : Option BlockFault) → (n == m) ≡ b
    → (if not b then Some Interrupted else other) ≡ None → m ≡ n
inside_by true n m other same none = sym (eqb-true n m same)
inside_by false n m other same none = none_some Interrupted (sym none)

grouped_on : (begun : Option Begun) (frame : Frame) → next_fault begun frame ≡ None
    → IsStepOn frame (grouped begun frame)
unfolding grouped stream_of fault_inside
grouped_on None (Headers stream end true fragment pad priority) sound = refl
grouped_on (Some begun) (Continuation stream true fragment) sound =
    inside_by (stream == begun.stream) stream begun.stream _ refl sound
grouped_on None other sound = tt
grouped_on (Some begun) other sound = tt

step_by : (begun : Option Begun) (frame : Frame) (fault : Option BlockFault)
    → next_fault begun frame ≡ fault → IsStepOn frame (grouping_step begun frame fault)
unfolding grouping_step
step_by begun frame None sound = grouped_on begun frame sound
step_by begun frame (Some fault) sound = tt

first_by : (b : Bool) (frame : Frame) (step : FrameStep) (code : Code) → IsStepOn frame step
    → IsStepOn frame (if b then fails_with code else step)
first_by true frame step code on = tt
first_by false frame step code on = on

pub step_on : (view : View) (frame : Frame) → IsStepOn frame (frame_step view frame)
unfolding frame_step
step_on view frame = first_by _ _ _ ProtocolError (step_by _ _ _ refl)

-- The stream that an item opens is none, or that of its frame.
opened_if : (b : Bool) (stream other : ℕ) → stream ≡ other
    → ((if b then stream else 0) ≡ 0) ⊎ ((if b then stream else 0) ≡ other)
opened_if true stream other is = inr is
opened_if false stream other is = inl refl

pub opened_on : (view : View) (decoded : Option Decoded) (item : Item) (frame : Frame)
    → IsItemOn frame item
    → (opened_by view decoded item ≡ 0) ⊎ (opened_by view decoded item ≡ stream_of frame)
unfolding opened_by
opened_on view None (block stream end octets) frame on = inl refl
opened_on view (Some decoded) (block stream end octets) frame on = opened_if _ _ _ on
opened_on view None (alone other) frame on = inl refl
opened_on view (Some decoded) (alone other) frame on = inl refl

-- The greater of two numbers is one of them.
greater_by : (n m : ℕ) (b : Bool) → nat_lt n m ≡ b → (max n m ≡ n) ⊎ (max n m ≡ m)
greater_by n m true less = inr (omega (arith, ltb-true n m less))
greater_by n m false less = inl (omega (arith, ltb-false n m less))

-- So is the greater of a number and of none, or of another.
pub greater_is : (n m other : ℕ) → (m ≡ 0) ⊎ (m ≡ other) → (max n m ≡ n) ⊎ (max n m ≡ other)
greater_is n m other (inl none) = inl (omega (arith, none))
greater_is n m other (inr is) =
    elim (greater_by n m (nat_lt n m) refl) [
      | inl same ↦ inl same
      | inr same ↦ inr (same ∙ is)
    ]
