-- Inside the preface: it is complete, or continues, or an octet is wrong.
use Rattle.h2_wire.proofs.Names.{◌≡◌, ◌+◌, ◌<◌, length, take, drop, arith, refl, sym, ◌∙◌, true}
use Rattle.h2_wire.proofs.Names.{subst, List, ℕ, None, length-drop, take_all, state_of, fault_of}
use Rattle.h2_wire.proofs.Names.{is_in_preface, unparsed_of, FitsPhase, Opens}
use Rattle.h2_wire.specs.Streams.{preface}
use Rattle.h2_wire.proofs.BufferLemmas.{fails_preface, goes_past_preface, follows_preface}
use Rattle.h2_wire.proofs.BufferLemmas.{short_of_preface, unlike_preface}
use Rattle.h2_wire.proofs.CallLemmas.{fails_at}
use Rattle.h2_wire.proofs.StepLemmas.{opens_first, continues_preface, wrong_preface}
use Rattle.h2_wire.specs.declared.fault.WireFault.TheVariants as faults
use Rattle.h2_wire.specs.declared.buffer.Phase.TheVariants as phases
use Rattle.h2_wire.proofs.buffer.Buffer.take_preface.Goals as goal

-- the preface ends with the octets that match
ends : (matched count : ℕ) (piece : List ℕ) → take count piece ≡ take count (drop matched preface)
    → matched + count ≡ 24 → take count piece ≡ drop matched preface
unfolding preface
ends matched count piece same all =
    same ∙ take_all count (drop matched preface) (rw length-drop (omega (arith, all)))

pub take_head-requires : goal.take_head-requires
take_head-requires c =
    let old = c.args.self.now in
    let count = c.matching_octets-count.result in
    let fits : FitsPhase old.greatest (phases.Preface c.args.matched) old.octets.items =
    rw c.requires.phase at c.requires.invariant.fits in
    let inside : is_in_preface old.phase ≡ true = rw c.requires.phase refl in
    let unparsed : unparsed_of old.phase old.octets.items ≡ take c.args.matched preface =
    rw c.requires.phase refl in
    let same = ends c.args.matched count c.args.piece.now c.matching_octets-count.ensures.same
    (omega arith) in
    record {
      starts = record {
        invariant = c.requires.invariant;
        sound = rw c.requires.phase refl;
        within = c.matching_octets-count.ensures.within;
        few = rw fits.1 (omega arith);
        opens = subst (λ (items : List ℕ). Opens (state_of old) (take count c.args.piece.now) items)
            (sym fits.1)
            (opens_first (state_of old) c.args.matched
            (take count c.args.piece.now) inside unparsed same);
      };
    }

pub returns-then-matched-count-eq24-clause-preface
    : goal.returns-then-matched-count-eq24-clause-preface
returns-then-matched-count-eq24-clause-preface c = λ memory.
    let old = c.args.self.now in
    let count = c.matching_octets-count.result in
    let unparsed : unparsed_of old.phase old.octets.items ≡ take c.args.matched preface =
    rw c.requires.phase refl in
    let same = ends c.args.matched count c.args.piece.now c.matching_octets-count.ensures.same
    (omega arith) in
    goes_past_preface c.args.matched count (unparsed_of old.phase old.octets.items)
    c.args.piece.now unparsed same (λ none. c.take_head.ensures.none none memory)

pub returns-then-count-piece-clause-takes : goal.returns-then-count-piece-clause-takes
returns-then-count-piece-clause-takes c =
    let old = c.args.self.now in
    let piece = c.args.piece.now in
    let count = c.matching_octets-count.result in
    let inside : is_in_preface old.phase ≡ true = rw c.requires.phase refl in
    let sound : fault_of old.phase ≡ None = rw c.requires.phase refl in
    let unparsed : unparsed_of old.phase old.octets.items ≡ take c.args.matched preface =
    rw c.requires.phase refl in
    let few : c.args.matched + c.matching_octets-count.result < 24 =
    omega (arith, c.matching_octets-count.ensures.bound) in
    let less : c.matching_octets-count.result < length piece = omega arith in
    record {
      invariant =
          rw c.fail.ensures.after (record { within = c.requires.invariant.within; fits = tt });
      makes = rw (c.fail.ensures.fault, c.fail.ensures.after)
          (fails_preface (state_of old) piece _ sound
          (fails_at (state_of old) _ piece faults.BadPreface (count + 1) refl refl refl refl refl
          (omega (arith, less)) refl
          (wrong_preface (state_of old) c.args.matched count piece inside unparsed less few
          c.matching_octets-count.ensures.same
          (c.matching_octets-count.ensures.differs less few))));
    }

pub returns-clause-takes : goal.returns-clause-takes
returns-clause-takes c =
    let old = c.args.self.now in
    let piece = c.args.piece.now in
    let count = c.matching_octets-count.result in
    let fits : FitsPhase old.greatest (phases.Preface c.args.matched) old.octets.items =
    rw c.requires.phase at c.requires.invariant.fits in
    let inside : is_in_preface old.phase ≡ true = rw c.requires.phase refl in
    let sound : fault_of old.phase ≡ None = rw c.requires.phase refl in
    let unparsed : unparsed_of old.phase old.octets.items ≡ take c.args.matched preface =
    rw c.requires.phase refl in
    let all : c.matching_octets-count.result ≡ length piece =
    omega (arith, c.matching_octets-count.ensures.within) in
    let few : c.args.matched + c.matching_octets-count.result < 24 =
    omega (arith, c.matching_octets-count.ensures.bound) in
    let few_now : c.args.matched + length piece < 24 = rw all at few in
    let same : piece ≡ take (length piece) (drop c.args.matched preface) =
    sym (take_all (length piece) piece (omega arith))
    ∙ rw all at c.matching_octets-count.ensures.same in
    record {
      invariant =
          rw c.pass.ensures
          (record { within = c.requires.invariant.within; fits = (few, fits.1) });
      makes = rw (c.pass.ensures, all) (record {
        all = refl;
        continues =
            continues_preface (state_of old) _ c.args.matched piece refl inside refl refl refl refl
            unparsed few_now same refl;
      });
    }

pub returns-then-matched-count-eq24-clause-checked
    : goal.returns-then-matched-count-eq24-clause-checked
returns-then-matched-count-eq24-clause-checked c = λ code begins faulty.
    let old = c.args.self.now in
    let fits : FitsPhase old.greatest (phases.Preface c.args.matched) old.octets.items =
    rw c.requires.phase at c.requires.invariant.fits in
    let count = c.matching_octets-count.result in
    let follows = follows_preface c.args.matched count c.args.piece.now (omega arith) in
    c.take_head.ensures.checked code (rw fits.1 (rw follows at faulty))

pub returns-then-matched-count-eq24-clause-lent : goal.returns-then-matched-count-eq24-clause-lent
returns-then-matched-count-eq24-clause-lent c = λ begins nine enough.
    let old = c.args.self.now in
    let fits : FitsPhase old.greatest (phases.Preface c.args.matched) old.octets.items =
    rw c.requires.phase at c.requires.invariant.fits in
    let count = c.matching_octets-count.result in
    let follows = follows_preface c.args.matched count c.args.piece.now (omega arith) in
    c.take_head.ensures.lent fits.1 (rw follows at nine) (rw follows at enough)

pub returns-then-count-piece-clause-checked : goal.returns-then-count-piece-clause-checked
returns-then-count-piece-clause-checked c = λ code begins faulty.
    let count = c.matching_octets-count.result in
    let few : c.args.matched + c.matching_octets-count.result < 24 =
    omega (arith, c.matching_octets-count.ensures.bound) in
    let less : c.matching_octets-count.result < length c.args.piece.now = omega arith in
    absurd (unlike_preface c.args.matched count c.args.piece.now few
    (c.matching_octets-count.ensures.differs less few) begins)

pub returns-clause-checked : goal.returns-clause-checked
returns-clause-checked c = λ code begins faulty.
    let few : c.args.matched + length c.args.piece.now < 24 =
    omega (arith, c.matching_octets-count.ensures.bound, c.matching_octets-count.ensures.within) in
    absurd (short_of_preface c.args.matched c.args.piece.now few begins)
