-- What was written encodes the frame, and so does what is read of it: octets encode one frame.
use Rattle.std.proofs.Common.{◌≡◌, ◌+◌, ◌≤◌, ◌++◌, ℕ, List, length, take, drop, None, refl, sym, arith}
use Rattle.std.proofs.lemmas.List.{take-append-drop, take_rest, length-take-le, length-drop}
use Rattle.h2_frame.specs.Heads.{head_of}
use Rattle.h2_frame.specs.declared.heads.Head.{Head}
use Rattle.h2_frame.specs.declared.frame.PayloadError.{PayloadError}
use Rattle.h2_frame.specs.declared.frame.PayloadError.TheVariants as errors
use Rattle.h2_frame.specs.Frames.{Encodes, Carries, Refuses, frame_of, owned_frame}
use Rattle.h2_frame.specs.Frames.{payload_fault}
use Rattle.h2_frame.specs.Encoding.{encoding_of, payload_of}
use Rattle.h2_uses.proofs.calling_frame.read_back.Goals as goal

-- A head is that of its nine octets.
head_of_nine : (octets : List ℕ) → ((nine more : List ℕ) → 9 ≤ length nine
    → head_of (nine ++ more) ≡ head_of nine) → 9 ≤ length octets
    → head_of (take 9 octets) ≡ head_of octets
head_of_nine octets law long =
    let nine : 9 ≤ length (take 9 octets) = rw (length-take-le 9 octets long) (omega arith) in
    sym (rw (take-append-drop 9 octets) at (law (take 9 octets) (drop 9 octets) nine))

-- A payload without a fault is not refused.
not_refused : (head : Head) (payload : List ℕ) (error : PayloadError)
    → payload_fault head payload ≡ None → Refuses head payload error → ⊥
not_refused head payload (errors.Code code) none some = cc

pub read_payload-requires-clause-form : goal.read_payload-requires-clause-form
read_payload-requires-clause-form c =
    let frame = owned_frame c.args.frame.now in
    let long : 9 ≤ length (encoding_of frame) =
    rw (c.written_frame_is_read.ensures.length frame) (omega arith) in
    let written : c.write.new.out.items ≡ encoding_of frame =
    rw (c.in_ok-write.ensures.ok.1, c.clear.ensures.items) refl in
    let head : c.head.result ≡ head_of (encoding_of frame) =
    rw (
      c.head.ensures.value,
      c.copy_from_slice.ensures.after,
      c.deref.ensures.value,
      written,
    ) (head_of_nine (encoding_of frame) c.nine_octets.ensures long) in
    rw head (c.within_limit.ensures.form (head_of (encoding_of frame)) (length (payload_of frame))
    (c.written_frame_is_read.ensures.sound_head frame (length (payload_of frame))
    c.in_ok-write.ensures.typed c.in_ok-write.ensures.ok.0 (omega arith)))

pub read_payload-requires-clause-complete : goal.read_payload-requires-clause-complete
read_payload-requires-clause-complete c =
    let frame = owned_frame c.args.frame.now in
    let long : 9 ≤ length (encoding_of frame) =
    rw (c.written_frame_is_read.ensures.length frame) (omega arith) in
    let written : c.write.new.out.items ≡ encoding_of frame =
    rw (c.in_ok-write.ensures.ok.1, c.clear.ensures.items) refl in
    let head : c.head.result ≡ head_of (encoding_of frame) =
    rw (
      c.head.ensures.value,
      c.copy_from_slice.ensures.after,
      c.deref.ensures.value,
      written,
    ) (head_of_nine (encoding_of frame) c.nine_octets.ensures long) in
    let encodes : Encodes frame (encoding_of frame) =
    c.written_frame_is_read.ensures.encodes frame c.in_ok-write.ensures.typed
    c.in_ok-write.ensures.ok.0 in
    let complete : length (encoding_of frame) ≡ 9 + (head_of (encoding_of frame)).length =
    encodes.complete in
    rw (
      take_rest c.deref-2.result.now 9,
      c.deref-2.ensures.value,
      written,
      head,
      length-drop 9 (encoding_of frame),
    ) (omega arith)

pub returns-clause-ok : goal.returns-clause-ok
returns-clause-ok c =
    let frame = owned_frame c.args.frame.now in
    let long : 9 ≤ length (encoding_of frame) =
    rw (c.written_frame_is_read.ensures.length frame) (omega arith) in
    let written : c.write.new.out.items ≡ encoding_of frame =
    rw (c.in_ok-write.ensures.ok.1, c.clear.ensures.items) refl in
    let head : c.head.result ≡ head_of (encoding_of frame) =
    rw (
      c.head.ensures.value,
      c.copy_from_slice.ensures.after,
      c.deref.ensures.value,
      written,
    ) (head_of_nine (encoding_of frame) c.nine_octets.ensures long) in
    let encodes : Encodes frame (encoding_of frame) =
    c.written_frame_is_read.ensures.encodes frame c.in_ok-write.ensures.typed
    c.in_ok-write.ensures.ok.0 in
    let carried : Carries (head_of (encoding_of frame)) (drop 9 (encoding_of frame))
    (frame_of c.in-Ok.read) =
    rw (take_rest c.deref-2.result.now 9, c.deref-2.ensures.value, written, head)
    at (rw c.in-Ok.is at c.read_payload.ensures).1 in
    c.one_frame.ensures (frame_of c.in-Ok.read) frame (encoding_of frame)
    record { complete = encodes.complete; carried = carried } encodes

pub unreachable-requires : goal.unreachable-requires
unreachable-requires c =
    let frame = owned_frame c.args.frame.now in
    let long : 9 ≤ length (encoding_of frame) =
    rw (c.written_frame_is_read.ensures.length frame) (omega arith) in
    let written : c.write.new.out.items ≡ encoding_of frame =
    rw (c.in_ok-write.ensures.ok.1, c.clear.ensures.items) refl in
    let head : c.head.result ≡ head_of (encoding_of frame) =
    rw (
      c.head.ensures.value,
      c.copy_from_slice.ensures.after,
      c.deref.ensures.value,
      written,
    ) (head_of_nine (encoding_of frame) c.nine_octets.ensures long) in
    not_refused (head_of (encoding_of frame)) (drop 9 (encoding_of frame)) _
    (c.written_frame_is_read.ensures.sound_payload frame c.in_ok-write.ensures.typed
    c.in_ok-write.ensures.ok.0)
    (rw (take_rest c.deref-2.result.now 9, c.deref-2.ensures.value, written, head)
    at (rw c.in-Err.is at c.read_payload.ensures))
