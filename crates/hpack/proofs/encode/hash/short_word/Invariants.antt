use Rattle.hpack.proofs.Names.{◌≡◌, take, word_of}
use Rattle.hpack.proofs.encode.hash.short_word.Given as goal

abbrev pub invariant-loop-octet : goal.invariant-loop-octet
invariant-loop-octet l = l.word ≡ word_of (take l.octet-index l.octets)
