-- None of the words so far is the wanted one: what is left decides.
use Rattle.h2_args.proofs.Names.{◌≡◌, map, string_bytes}
use Rattle.std.proofs.Common.{drop}
use Rattle.h2_args.specs.Words.{has_word}
use Rattle.h2_args.proofs.options.has_word.Given as goal

abbrev pub invariant-loop-word : goal.invariant-loop-word
invariant-loop-word l =
    has_word (map string_bytes (drop l.word-index l.words)) l.wanted
    ≡ has_word (map string_bytes l.words) l.wanted
