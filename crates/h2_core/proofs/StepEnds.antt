-- An end with a part of it changed: its table, or the queued output.
use Rattle.h2_core.proofs.Names.{◌≡◌, ℕ, List, [], ◌∷◌, ◌++◌, sym, ap, ◌∙◌, alone, Frame}
use Rattle.h2_core.proofs.Names.{encoding_of, encoding_of_items, End, TableState}
use Rattle.h2_core.proofs.StepFrames.{one-item}

-- an end whose table is this one
abbrev pub with_table : End → TableState → End
with_table e table =
    record e {
      streams = record e.streams { entries = table.entries };
      peer = record e.peer { initial_window = table.send_initial };
      own = record e.own {
        in_force = record e.own.in_force { initial_window = table.recv_initial };
      };
    }

-- an end with this output
abbrev pub with_waiting : End → List ℕ → End
with_waiting e waiting = record e { output = record e.output { waiting = waiting } }

-- A frame that is added is the item that is written.
pub item-added : (most : ℕ) (frame : Frame) (old reserved new : List ℕ) → reserved ≡ old
    → new ≡ reserved ++ encoding_of frame → new ≡ old ++ encoding_of_items most (alone frame ∷ [])
item-added most frame old reserved new same added =
    added ∙ ap (λ (waiting : List ℕ). waiting ++ encoding_of frame) same
    ∙ ap (λ (octets : List ℕ). old ++ octets) (sym (one-item most frame))
