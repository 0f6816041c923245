-- Padding, priority and body, counted; and six octets for each pair.
use Rattle.std.proofs.Common.{◌/◌, length, arith}
use Rattle.h2_frame.specs.Pairs.{pairs_of}
use Rattle.h2_frame.specs.Encoding.{payload_of, prioritized}
use Rattle.h2_frame.proofs.PaddingLemmas.{length-padded_body, length-prioritized_fragment}
use Rattle.h2_frame.proofs.PairLemmas.{length-pairs_in}
use Rattle.h2_frame.proofs.FramePartsLemmas.{length-pair_octets}
use Rattle.h2_frame.proofs.frame.FrameRef.payload_len.Goals as goal

pub returns-in-Data : goal.returns-in-Data
unfolding payload_of
returns-in-Data c =
    let padded = length-padded_body c.in-Data.octets.now c.in-Data.pad in
    rw c.in-Data.is (omega (arith, c.padding_len.ensures.value, padded))

pub returns-in-Headers : goal.returns-in-Headers
unfolding payload_of
returns-in-Headers c =
    let fragment = c.in-Headers.fragment.now in
    let body = prioritized fragment c.in-Headers.priority in
    let padded = length-padded_body body c.in-Headers.pad in
    let counted = length-prioritized_fragment fragment c.in-Headers.priority in
    let pad = c.padding_len-in-Headers.ensures.value in
    rw c.in-Headers.is (omega (arith, pad, c.priority_len.ensures.value, padded, counted))

pub returns-in-Settings : goal.returns-in-Settings
unfolding payload_of
returns-in-Settings c =
    let octets = c.in-Settings.pairs.octets.now in
    let six = length-pair_octets (pairs_of octets) in
    let count = length-pairs_in (length octets / 6) octets in
    rw c.in-Settings.is (omega (arith, six, count))
