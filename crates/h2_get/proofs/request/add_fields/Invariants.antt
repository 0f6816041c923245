-- The fields of the words so far are added, and each has a colon.
use Rattle.std.proofs.Common.{◌≡◌, ◌++◌, take, map, true}
use Rattle.std.specs.List.{list_all}
use Rattle.h2_get.specs.Requests.{field_of_word, has_colon}
use Rattle.h2_get.proofs.request.add_fields.Given as goal

abbrev pub invariant-loop-word : goal.invariant-loop-word
invariant-loop-word l =
    (l.head.items ≡ l.initial.head.items
    ++ map field_of_word (map (λ word. word.now) (take l.word-index l.words)))
    × (list_all has_colon (map (λ word. word.now) (take l.word-index l.words)) ≡ true)
