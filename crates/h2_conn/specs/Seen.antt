-- What a connection sees of its end before a frame, and after one that has failed it.
use Rattle.std.specs.Prelude.{◌≡◌, ℕ, pos, length}
use Rattle.std.specs.Option.{option_map, option_map_or}
use Rattle.h2_spec_log.specs.ItemRules.{is_idle}
use Rattle.h2_spec_log.specs.View.{View}
use Rattle.h2_spec_machine.specs.End.{End, end_view, state_at}
use Rattle.h2_conn.specs.declared.why_of_frame.Before.{Before}

-- What was seen before the frame: whether it is the first, and the block that has begun.
pub record SeesBefore (view : View) (before : Before) : Type 0 where
  pub started : before.started ≡ view.started
  pub stream : before.stream ≡ option_map (λ begun. begun.stream) view.begun
  pub octets : before.octets ≡ option_map_or (λ begun. length begun.octets) view.begun 0

-- What is the same after a failure as it was before it.
pub record SeesAfter (view : View) (e : End) : Type 0 where
  pub role : e.role ≡ view.role
  pub idle : (id : ℕ) → is_idle (state_at e id) ≡ is_idle (view.state id)
  pub window : pos e.windows.recv ≡ view.recv_window
  pub resets : e.streams.resets ≡ view.resets
  pub overflows : (initial : ℕ) → (end_view e).overflows initial ≡ view.overflows initial
