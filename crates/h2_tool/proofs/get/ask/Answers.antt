-- The response was printed as it came, or once it was whole.
use Rattle.std.proofs.Common.{◌∙◌, sym}
use Rattle.h2_net.specs.Endings.{without_hint}
use Rattle.h2_get.specs.Streams.{without_stream_hint}
use Rattle.h2_tool.proofs.get.ask.Goals as goal

pub returns-then-is_in_parts : goal.returns-then-is_in_parts
returns-then-is_in_parts g c =
    rw (sym c.is_in_parts.ensures ∙ c.if-is_in_parts.true) (
      without_stream_hint c.stream_location-got.result,
      c.stream_location-got.ensures,
      c.end_stream.ensures,
    )

pub returns : goal.returns
returns g c =
    rw (sym c.is_in_parts.ensures ∙ c.if-is_in_parts.false) (
      without_hint c.gather_location-got.result,
      c.gather_location-got.ensures.gathers,
      c.end_get.ensures,
    )
