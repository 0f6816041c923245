use Rattle.h2_core.proofs.Names.{◌≡◌, ◌≤◌, ◌+◌, length, true, ap, inl}
use Rattle.h2_core.proofs.Names.{inr, arith, frame_of, FrameRef, end_of, payload_of}
use Rattle.h2_frame.specs.Encoding.{padded}
use Rattle.h2_core.proofs.DataFlow.{flow_with}
use Rattle.h2_core.proofs.FrameWritable.{writable, data_number, update_number, update_increment}
use Rattle.h2_core.proofs.FrameWritable.{is_quiet, quiet_taken}
use Rattle.h2_core.proofs.endpoint.Endpoint.take_alone.Goals.{Joined-pad, in-Some, in-None}
use Rattle.h2_core.proofs.endpoint.Endpoint.take_alone.Goals as goal

pub take_data-requires-clause-number : goal.take_data-requires-clause-number
take_data-requires-clause-number c =
    data_number c.in-Data.stream c.in-Data.end c.in-Data.octets.now c.in-Data.pad
    (rw c.in-Data.is at c.requires.good)

pub take_window_update-requires-clause-number : goal.take_window_update-requires-clause-number
take_window_update-requires-clause-number c =
    update_number c.in-WindowUpdate.stream c.in-WindowUpdate.increment
    (rw c.in-WindowUpdate.is at c.requires.good)

pub take_window_update-requires-clause-increment :
    goal.take_window_update-requires-clause-increment
take_window_update-requires-clause-increment c =
    update_increment c.in-WindowUpdate.stream c.in-WindowUpdate.increment
    (rw c.in-WindowUpdate.is at c.requires.good)

pub returns-in-Headers : goal.returns-in-Headers
returns-in-Headers c =
    let quiet : is_quiet (frame_of c.args.frame) ≡ true =
    elim c.in-Headers.is [
      | inl h ↦ ap (λ (f : FrameRef). is_quiet (frame_of f)) h.6
      | inr more ↦ elim more [
        | inl h ↦ ap (λ (f : FrameRef). is_quiet (frame_of f)) h.3
        | inr last ↦ elim last [
          | inl h ↦ ap (λ (f : FrameRef). is_quiet (frame_of f)) h.2
          | inr h ↦ ap (λ (f : FrameRef). is_quiet (frame_of f)) h.4
        ]
      ]
    ] in
    quiet_taken (end_of c.args.self.now) (frame_of c.args.frame) c.args.self.now.list quiet

-- What DATA takes of the windows is its payload.
counted : (c : Joined-pad) → length c.in-Data.octets.now + c.match-pad.padding
    ≡ length (padded c.in-Data.octets.now c.in-Data.pad)
counted c = elim c.match-pad.branch [
  | in-Some w ↦ rw (w.padding-is, w.from.ensures, w.in-Some.is) (flow_with _ c.in-Data.octets.now)
  | in-None w ↦ rw (w.padding-is, w.in-None.is) (omega arith)
]

short : (c : Joined-pad) → length (padded c.in-Data.octets.now c.in-Data.pad) ≤ 16777215
unfolding payload_of
short c =
    let good = writable (frame_of c.args.frame) c.requires.good in
    let within : length (payload_of (frame_of c.args.frame)) ≤ 16777215 = good.payload in
    rw c.in-Data.is at within

pub overflow_cast-octets : goal.overflow_cast-octets
overflow_cast-octets c =
    let at = (goal.at.overflow_cast-octets c).Joined-pad in omega (arith, counted at, short at)

pub overflow_add-octets : goal.overflow_add-octets
overflow_add-octets c =
    let at = (goal.at.overflow_add-octets c).Joined-pad in omega (arith, counted at, short at)

pub returns-after-pad : goal.returns-after-pad
unfolding payload_of
returns-after-pad c =
    rw c.in-Data.is
    (c.take_data.ensures c.in-Data.pad (counted (goal.at.returns-after-pad c).Joined-pad))
