-- A head continues: it isn't complete yet, or is at fault, or has no fault.
use Rattle.h2_wire.proofs.Names.{◌≡◌, ◌+◌, ◌-◌, ◌<◌, ◌≤◌, length, take, drop, arith, ◌++◌, Some}
use Rattle.h2_wire.proofs.Names.{refl, sym, ◌∙◌, ap, length-drop, length-append, take_rest, Head}
use Rattle.h2_wire.proofs.Names.{head_of, head_fault, form_fault-head_fault, length-head_fault}
use Rattle.h2_wire.proofs.Names.{Buffer, state_of}
use Rattle.h2_wire.proofs.BufferLemmas.{keeps_piece, fails_head, read_head}
use Rattle.h2_wire.proofs.CallLemmas.{fails_at}
use Rattle.h2_wire.proofs.ReadingLemmas.{none_some, one_some}
use Rattle.h2_wire.proofs.StepLemmas.{wrong_head, limit_ahead}
use Rattle.h2_wire.specs.declared.buffer.Phase.TheVariants as phases
use Rattle.h2_wire.specs.declared.fault.WireFault.TheVariants as faults
use Rattle.h2_wire.proofs.buffer.Buffer.take_head.Goals as goal

pub returns-then-following-lacking-clause-takes : goal.returns-then-following-lacking-clause-takes
returns-then-following-lacking-clause-takes c =
    let old = c.args.self.now in
    let piece = c.args.piece.now in
    let following : take (length piece - c.args.start) (drop c.args.start piece)
    ≡ drop c.args.start piece = take_rest piece c.args.start in
    let items = rw following at c.in_ok-append.ensures.ok in
    let limit = ap (λ (b : Buffer). b.limit) c.in_ok-append.ensures.same in
    let greatest = ap (λ (b : Buffer). b.greatest) c.in_ok-append.ensures.same in
    let missing = rw following at c.if-following-lacking.true in
    let few : length old.octets.items + length (drop c.args.start piece) < 9 =
    omega (arith, missing, c.len-kept.ensures, old.octets.ok.0) in
    let short : length (old.octets.items ++ drop c.args.start piece) < 9 = rw length-append few in
    record {
      invariant = rw c.pass.ensures (record {
        within = rw (limit, greatest) c.requires.starts.invariant.within;
        fits = rw items short;
      });
      makes = keeps_piece old c.append.new.self c.pass.new.self piece c.args.start phases.Head
          c.in_ok-append.ensures.same
          c.pass.ensures items refl refl refl
          (λ expects limits stream so_far represented. (
            c.requires.starts.opens expects limits stream so_far represented,
            λ nine. absurd (omega (arith, short)),
          ));
    }

pub returns-in-Some-clause-takes : goal.returns-in-Some-clause-takes
returns-in-Some-clause-takes c =
    let old = c.args.self.now in
    let piece = c.args.piece.now in
    let starts = c.requires.starts in
    let (nine, is_head) =
    read_head old.octets.items c.deref.result.now c.args.piece.now _ _ _ c.len-kept.result
    c.args.start c.head-head.result (omega (arith, c.len-kept.ensures, old.octets.ok.0))
    c.requires.starts.few (omega (arith, c.if-following-lacking.false)) c.deref.ensures.value
    c.copy_from_slice.ensures.after c.copy_from_slice-2.ensures.after c.head-head.ensures.value in
    let few : length old.octets.items < 9 = starts.few in
    let within : c.args.start ≤ length piece = starts.within in
    let faulty : head_fault (head_of (old.octets.items ++ drop c.args.start piece)) old.limit
    ≡ Some c.in-Some.fault =
    ap (λ (head : Head). head_fault head old.limit) (sym is_head) ∙ sym c.head_fault.ensures.value
    ∙ c.in-Some.is in
    let used : c.args.start + (9 - c.len-kept.result)
    ≡ c.args.start + (9 - length old.octets.items) =
    omega (arith, c.len-kept.ensures, old.octets.ok.0) in
    record {
      invariant =
          rw c.fail.ensures.after (record { within = starts.invariant.within; fits = tt });
      makes = rw (c.fail.ensures.fault, c.fail.ensures.after, used)
          (fails_head (state_of old) piece c.in-Some.fault _ starts.sound
          (fails_at (state_of old) _ piece (faults.HeadFault c.in-Some.fault)
          (c.args.start + (9 - length old.octets.items)) refl refl refl refl refl
          (omega (arith, nine, within, length-drop c.args.start piece)) refl
          (wrong_head (state_of old) piece old.octets.items c.args.start c.in-Some.fault
          starts.opens few nine faulty)));
    }

pub take_payload-requires : goal.take_payload-requires
take_payload-requires c =
    let old = c.args.self.now in
    let piece = c.args.piece.now in
    let starts = c.requires.starts in
    let (nine, is_head) =
    read_head old.octets.items c.deref.result.now c.args.piece.now _ _ _ c.len-kept.result
    c.args.start c.head-head.result (omega (arith, c.len-kept.ensures, old.octets.ok.0))
    c.requires.starts.few (omega (arith, c.if-following-lacking.false)) c.deref.ensures.value
    c.copy_from_slice.ensures.after c.copy_from_slice-2.ensures.after c.head-head.ensures.value in
    let few : length old.octets.items < 9 = starts.few in
    let sound = sym c.head_fault.ensures.value ∙ c.in_default.is in
    let length = length-head_fault c.head-head.result old.limit sound in
    record {
      starts = record {
        invariant = starts.invariant;
        sound = starts.sound;
        within = starts.within;
        short = omega (arith, few);
        nine = nine;
        is_head = is_head;
        bounded = c.head-head.ensures.bounds.0;
        form = form_fault-head_fault c.head-head.result old.limit sound;
        within_greatest = omega (arith, length, starts.invariant.within);
        opens = λ expects limits stream so_far represented.
            let past = starts.opens expects limits stream so_far represented in (
              past,
              rw (limit_ahead (state_of old) expects limits stream so_far
                  (take c.args.start piece) old.octets.items represented past few) sound,
            );
      };
    }

pub returns-in-Some-clause-checked : goal.returns-in-Some-clause-checked
returns-in-Some-clause-checked c = λ fault faulty.
    let old = c.args.self.now in
    let is_head =
    (read_head old.octets.items c.deref.result.now c.args.piece.now _ _ _ c.len-kept.result
    c.args.start c.head-head.result (omega (arith, c.len-kept.ensures, old.octets.ok.0))
    c.requires.starts.few (omega (arith, c.if-following-lacking.false)) c.deref.ensures.value
    c.copy_from_slice.ensures.after c.copy_from_slice-2.ensures.after c.head-head.ensures.value).1
    in
    let reported : head_fault c.head-head.result old.limit ≡ Some c.in-Some.fault =
    sym c.head_fault.ensures.value ∙ c.in-Some.is in
    let found : head_fault c.head-head.result old.limit ≡ Some fault =
    ap (λ (head : Head). head_fault head old.limit) is_head ∙ faulty.faulty in
    let same : c.in-Some.fault ≡ fault = one_some _ _ (sym reported ∙ found) in
    rw (c.fail.ensures.fault, same) refl

pub returns-clause-checked : goal.returns-clause-checked
returns-clause-checked c = λ fault faulty.
    let old = c.args.self.now in
    let is_head =
    (read_head old.octets.items c.deref.result.now c.args.piece.now _ _ _ c.len-kept.result
    c.args.start c.head-head.result (omega (arith, c.len-kept.ensures, old.octets.ok.0))
    c.requires.starts.few (omega (arith, c.if-following-lacking.false)) c.deref.ensures.value
    c.copy_from_slice.ensures.after c.copy_from_slice-2.ensures.after c.head-head.ensures.value).1
    in
    let found : head_fault c.head-head.result old.limit ≡ Some fault =
    ap (λ (head : Head). head_fault head old.limit) is_head ∙ faulty.faulty in
    none_some fault (sym (sym c.head_fault.ensures.value ∙ c.in_default.is) ∙ found)

pub returns-clause-lent : goal.returns-clause-lent
returns-clause-lent c = λ none nine enough.
    let old = c.args.self.now in
    let is_head =
    (read_head old.octets.items c.deref.result.now c.args.piece.now _ _ _ c.len-kept.result
    c.args.start c.head-head.result (omega (arith, c.len-kept.ensures, old.octets.ok.0))
    c.requires.starts.few (omega (arith, c.if-following-lacking.false)) c.deref.ensures.value
    c.copy_from_slice.ensures.after c.copy_from_slice-2.ensures.after c.head-head.ensures.value).1
    in
    c.take_payload.ensures.lent none (rw (is_head, none) enough)
