-- The words are refused, the exchange has ended early, or the line is printed.
use Rattle.std.proofs.Common.{inl, inr, Ok, Err}
use Rattle.h2_net.specs.Loopback.{ExchangesPost}
use Rattle.h2_tool.proofs.WordLemmas.{ends_by_words}
use Rattle.h2_tool.proofs.SocketLemmas.{loop_ends_early, loop_prints}
use Rattle.h2_tool.proofs.sockets.cmd_loop.Goals as goal

pub returns-in-Err : goal.returns-in-Err
returns-in-Err g c =
    inr (ends_by_words c.in-Err.error _ _ _ c.answer.result c.in-Err.ensures.err c.answer.ensures)

pub returns-in-Ok-exchange : goal.returns-in-Ok-exchange
returns-in-Ok-exchange g c =
    let got : ExchangesPost c.in-Ok.options.count (Ok c.in-Ok-exchange.fetched) =
    rw c.in-Ok-exchange.is at c.exchange.ensures in
    inl (
      c.in-Ok.options,
      c.in-Ok.ensures.ok,
      loop_prints c.in-Ok.options.count _ _ c.in-Ok-exchange.fetched c.print_exchange-printed.result
          c.status_of_end.result got c.print_exchange-printed.ensures.prints
          c.print_exchange-printed.ensures.err c.status_of_end.ensures,
    )

pub returns-in-Err-exchange : goal.returns-in-Err-exchange
returns-in-Err-exchange g c =
    let got : ExchangesPost c.in-Ok.options.count (Err c.in-Err-exchange.error) =
    rw c.in-Err-exchange.is at c.exchange.ensures in
    inl (
      c.in-Ok.options,
      c.in-Ok.ensures.ok,
      rw c.report.ensures (loop_ends_early c.in-Ok.options.count _ c.in-Err-exchange.error got),
    )
