-- Each turn writes the digits of the octets that are put out.
use Rattle.std.proofs.Common.{ℕ, List, [], ◌++◌, subst}
use Rattle.std.proofs.KnownBytes.{Appends-nil, Appends-trans}
use Rattle.std.specs.Io.KnownBytes.{Appends}
use Rattle.hex.specs.Hex.{encode_with}
use Rattle.h2_messages.proofs.InputLemmas.{digits_append}
use Rattle.h2_messages.proofs.output.write_output.Goals as goal

pub loop-init : goal.loop-init
unfolding encode_with
loop-init g c = ([], Appends-nil _)

pub loop-preserved : goal.loop-preserved
loop-preserved g c =
    let (octets, written) = c.loop.invariant in
    let more = c.put_out.new.out.items in
    let digits = rw (c.as_bytes.ensures.value, c.in_ok-text.ensures, c.as_slice.ensures.value)
    at c.in_ok-write_all-2.ensures.bytes in (
      octets ++ more,
      subst (λ (text : List ℕ). Appends (g.W.Write.contents c.write_all.new.self)
          (g.W.Write.contents c.write_all-in-loop.new.self) text) (digits_append octets more)
          (Appends-trans _ _ _ _ _ written digits),
    )

pub returns-clause-line : goal.returns-clause-line
returns-clause-line g c =
    let (octets, written) = c.loop.invariant in (
      octets,
      Appends-trans _ _ _ _ _
          (Appends-trans _ _ _ _ _ c.in_ok-write_all.ensures.bytes written)
          c.in_ok-write_all-3.ensures.bytes,
    )
