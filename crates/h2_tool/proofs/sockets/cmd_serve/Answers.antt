-- The words are refused, or connections are served.
use Rattle.std.proofs.Common.{inl, inr, refl}
use Rattle.h2_tool.proofs.WordLemmas.{ends_by_words}
use Rattle.h2_tool.proofs.sockets.cmd_serve.Goals as goal

pub returns-in-Err : goal.returns-in-Err
returns-in-Err g c =
    inr (ends_by_words c.in-Err.error _ _ _ c.answer.result c.in-Err.ensures.err c.answer.ensures)

pub returns-in-Ok : goal.returns-in-Ok
returns-in-Ok g c = inl (record {
  options = c.in-Ok.options;
  asked = c.in-Ok.ensures.ok;
  may = c.serve_port.ensures.status;
  so = c.serve_port.ensures.serves;
  unwritten = refl;
})
