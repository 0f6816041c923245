use Rattle.hpack_text.proofs.Names.{◌≡◌, ◌++◌, ℕ, List, Bool, length, take, refl, sym, ap, ◌∙◌}
use Rattle.hpack_text.proofs.Names.{arith, length-take-le, bits, codes, prefix_of}
use Rattle.std.proofs.Common.{take_all}
use Rattle.hpack_text.proofs.BitLemmas.{length-bits}
use Rattle.hpack_text.proofs.CodeLemmas.{bad_padding_fault}
use Rattle.hpack_text.proofs.ReadLemmas.{all_octets, octet_fault, read_bits, reads_length}
use Rattle.hpack_text.proofs.ReadLemmas.{reads_none, reads_octet}
use Rattle.hpack_text.proofs.StateLemmas.{first_state, state_open, state_ones, state_no_padding}
use Rattle.hpack_text.proofs.huffman.reader.read_text.Goals as goal

pub loop-octet-init : goal.loop-octet-init
loop-octet-init c = record {
  read = reads_none c.args.out.now.items c.args.octets.now;
  small = omega arith;
  capacity = refl;
}

pub read_octet-requires : goal.read_octet-requires
read_octet-requires c =
    let octets = c.args.octets.now in
    let index = c.loop-octet.octet-index in
    record {
      room = omega (
        arith,
        reads_length c.args.out.now.items c.loop-octet.out.items 0 c.loop-octet.state
            (bits (take index octets)) c.loop-octet.invariant.read,
        ap (λ (xs : List Bool). length xs) first_state,
        length-bits (take index octets),
        length-take-le index octets (omega arith),
        c.requires.room,
        c.loop-octet.invariant.capacity,
        c.loop-octet-test.true,
        c.args.out.now.ok.0,
        c.loop-octet.out.ok.0,
      );
    }

pub returns-in_default-clause-answer : goal.returns-in_default-clause-answer
returns-in_default-clause-answer c =
    octet_fault c.args.out.now.items c.loop-octet.out.items c.read_octet.new.out.items
    c.args.octets.now c.loop-octet.state c.loop-octet.octet-index c.loop-octet-test.true
    c.loop-octet.invariant.read c.in_default.ensures.answer

pub loop-octet-preserved : goal.loop-octet-preserved
loop-octet-preserved c = record {
  read = reads_octet c.args.out.now.items c.loop-octet.out.items c.read_octet.new.out.items
      c.args.octets.now c.loop-octet.state c.in-Some.next c.loop-octet.octet-index
      c.loop-octet-test.true c.loop-octet.invariant.read c.in-Some.ensures.answer;
  small = omega arith;
  capacity = c.in-Some.ensures.capacity ∙ c.loop-octet.invariant.capacity;
}

pub returns-then-state-gt-MAX_PADDING-clause-answer :
    goal.returns-then-state-gt-MAX_PADDING-clause-answer
returns-then-state-gt-MAX_PADDING-clause-answer c =
    let octets = c.args.octets.now in
    let state = c.loop-octet.state in
    let read = c.loop-octet.invariant.read in
    let all : take c.loop-octet.octet-index octets ≡ octets =
    take_all c.loop-octet.octet-index octets c.loop-octet-test.false in
    bad_padding_fault octets read.added (prefix_of state) read.octets
    (ap (λ (xs : List ℕ). bits xs) (sym all)
    ∙ read_bits c.args.out.now.items c.loop-octet.out.items
    (bits (take c.loop-octet.octet-index octets)) state read)
    (state_open state c.loop-octet.invariant.small)
    (λ n few. state_no_padding state n c.if-state-gt-MAX_PADDING.true c.loop-octet.invariant.small
    few)

pub returns-clause-answer : goal.returns-clause-answer
returns-clause-answer c =
    let octets = c.args.octets.now in
    let state = c.loop-octet.state in
    let read = c.loop-octet.invariant.read in
    let all : take c.loop-octet.octet-index octets ≡ octets =
    take_all c.loop-octet.octet-index octets c.loop-octet-test.false in (
      read.added,
      read.joined,
      record {
        text_octets = read.octets;
        octets_octets = all_octets octets c.type_inv.octets;
        padding = state;
        short = c.if-state-gt-MAX_PADDING.false;
        encoded = ap (λ (xs : List ℕ). bits xs) (sym all)
            ∙ (read_bits c.args.out.now.items c.loop-octet.out.items
            (bits (take c.loop-octet.octet-index octets)) state read
            ∙ ap (λ (xs : List Bool). codes read.added ++ xs)
            (state_ones state c.if-state-gt-MAX_PADDING.false));
      },
    )
