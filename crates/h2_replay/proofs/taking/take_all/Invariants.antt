-- So far what has happened is that of the octets before the rest, and it goes on with the rest.
use Rattle.h2_replay.proofs.Names.{◌≤◌, Values, Log, ConnRepresents}
use Rattle.std.proofs.Common.{vec_len}
use Rattle.h2_replay.proofs.AllLemmas.{TakesSome}
use Rattle.h2_replay.proofs.taking.take_all.Given as goal

abbrev pub invariant-loop-round : goal.invariant-loop-round
invariant-loop-round l = record {
  rounds : l._round ≤ vec_len l.turns;
  some : (values : Values) (log : Log) → ConnRepresents values l.fn.conn log
      → TakesSome values log l.octets l.rest l.fn.turns.items l.turns.items l.conn;
}
