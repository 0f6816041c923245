-- Putting output out: what is unreturned is returned first, then the octets leave the queue.
use Rattle.h2_core.proofs.Names.{◌≡◌, ℕ, ◌+◌, min, Bool, true, false, List, [], ◌∷◌, ◌++◌, length}
use Rattle.h2_core.proofs.Names.{take, drop, refl, arith, length-append, if◌then◌else◌, OnOk}
use Rattle.h2_core.proofs.Names.{is_err, WindowUpdate, alone, End, end_view, return_credit}
use Rattle.h2_core.proofs.Names.{encoding_of, kind_of_frame, flags_of, stream_of, payload_of}
use Rattle.h2_core.proofs.Names.{encoding_of_items, encoding_of_item, after_call, before_put_out_at}
use Rattle.h2_spec_log.specs.CallRules.{returns_before_put_out}
use Rattle.std.proofs.Common.{Result, Ok, Err}
use Rattle.std.proofs.lemmas.List.{drop_min}
use Rattle.h2_core.specs.Readers.{Consumes, PutsOut}

-- What holds of a success holds where there is no error.
pub without_error : {A E P : Type 0} (result : Result A E) → false ≡ is_err result
    → OnOk result P → P
without_error (Ok x) none holds = holds
without_error (Err x) none holds = cc

-- WINDOW_UPDATE has 13 octets.
length-update : (most increment : ℕ)
    → length (encoding_of_items most (alone (WindowUpdate 0 increment) ∷ [])) ≡ 13
unfolding encoding_of_items encoding_of_item encoding_of kind_of_frame flags_of stream_of payload_of
length-update most increment = refl

length_by : (e : End) (returns : Bool)
    → length (if returns then return_credit e else e).output.waiting
    ≡ length e.output.waiting + (if returns then 13 else 0)
length_by e true =
    let update = length-update (end_view e).max_payload e.windows.unreturned in
    rw length-append (rw update refl)
length_by e false = omega arith

-- The number of queued octets once the end is ready to put output out.
pub length-ready : (e : End)
    → length (before_put_out_at e).output.waiting
    ≡ length e.output.waiting + (if returns_before_put_out (end_view e) then 13 else 0)
unfolding before_put_out_at
length-ready e = length_by e (returns_before_put_out (end_view e))

pub waiting_ready : (e ready : End) (waiting update : ℕ) → ready ≡ before_put_out_at e
    → waiting ≡ length e.output.waiting
    → update ≡ (if returns_before_put_out (end_view e) then 13 else 0)
    → length ready.output.waiting ≡ waiting + update
waiting_ready e ready waiting update is size more = rw (is, size, more) (length-ready e)

-- The first of the queued octets are consumed,
pub consumed : (e ready new : End) (count given : ℕ) → ready ≡ before_put_out_at e
    → given ≡ min count (length ready.output.waiting)
    → new ≡ record ready {
      output = record ready.output { waiting = drop given ready.output.waiting };
    }
    → Consumes e count given new
unfolding after_call
consumed e ready new count given is size machine =
    record {
      answer = rw (size, is, length-ready e) refl;
      machine = rw (machine, size, drop_min count ready.output.waiting, is) refl;
    }

-- and put out.
pub given_out : (e ready new : End) (count given : ℕ) (before after : List ℕ)
    → ready ≡ before_put_out_at e → given ≡ min count (length ready.output.waiting)
    → after ≡ before ++ take given ready.output.waiting
    → new ≡ record ready {
      output = record ready.output { waiting = drop given ready.output.waiting };
    }
    → PutsOut e count given before after new
given_out e ready new count given before after is size octets machine =
    record {
      consumed = consumed e ready new count given is size machine;
      octets = rw (← is) octets;
    }
