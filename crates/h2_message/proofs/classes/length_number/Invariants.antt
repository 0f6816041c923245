use Rattle.h2_message.proofs.Names.{◌≡◌, ◌<◌, ◌^◌, drop, all_ascii_digits, number_written}
use Rattle.h2_message.proofs.ClassLemmas.{number_from}
use Rattle.h2_message.proofs.classes.length_number.Given as goal

abbrev pub invariant-loop-digit : goal.invariant-loop-digit
invariant-loop-digit l =
    (l.number < 10 ^ l.digit-index)
    × (number_from l.number (drop l.digit-index l.value) ≡ number_written l.value)
    × (all_ascii_digits (drop l.digit-index l.value) ≡ all_ascii_digits l.value)
