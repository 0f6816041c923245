-- The input that is kept, where a turn takes of it, and what there is to do.
use Rattle.std.proofs.Common.{◌≡◌, ◌∙◌, refl, sym, ap, take, drop}
use Rattle.std.proofs.lemmas.List.{drop-drop, drop_all, drop_min, take-append-drop}
use Rattle.std.specs.Prelude.{ℕ, List, [], ◌++◌, ◌+◌, ◌≤◌, length, min}
use Rattle.std.specs.Prelude.{Bool, true, false, ◌&&◌, ◌||◌, if◌then◌else◌}

-- So many octets were used of what was kept, and the others are left.
pub kept_split : (items : List ℕ) (used from count : ℕ) → from ≡ min used (length items)
    → drop used items ≡ take count (drop from items) ++ drop (from + count) items
kept_split items used from count is =
    sym (ap (λ (n : ℕ). drop n items) is ∙ drop_min used items)
    ∙ sym (take-append-drop count (drop from items))
    ∙ ap (λ (rest : List ℕ). take count (drop from items) ++ rest) (drop-drop count from items)

-- All were.
pub kept_used : (items : List ℕ) (used from count : ℕ) → from ≡ min used (length items)
    → length items ≤ from + count → drop used items ≡ take count (drop from items) ++ []
kept_used items used from count is all =
    kept_split items used from count is
    ∙ ap (λ (rest : List ℕ). take count (drop from items) ++ rest)
    (drop_all (from + count) items all)

-- What was appended is there.
pub kept_appended : (items all more : List ℕ) (done : Bool) → done ≡ true
    → all ≡ (if done then items ++ more else items) → all ≡ items ++ more
kept_appended items all more true done is = is
kept_appended items all more false done is = absurd (cc)

-- Both are so, or one is not.
pub and_true : (a b w : Bool) → a ≡ true → w ≡ b → w ≡ (a && b)
and_true true b w is same = same
and_true false b w is same = absurd (cc)

pub and_false : (a b w : Bool) → a ≡ false → w ≡ false → w ≡ (a && b)
and_false true b w is same = absurd (cc)
and_false false b w is same = same

-- It is as the first of two, which is so; or as the second, where the first is not.
pub as_first : (a b w : Bool) → w ≡ a → a ≡ true → w ≡ (a || b)
as_first true b w same is = same
as_first false b w same is = absurd (cc)

pub as_second : (a b w : Bool) → w ≡ b → a ≡ false → w ≡ (a || b)
as_second true b w same is = absurd (cc)
as_second false b w same is = same

-- One of the first two is so, or neither.
pub either_is : (a b c w : Bool) → w ≡ (a || b) → w ≡ true → w ≡ (a || (b || c))
either_is true b c w is so = is
either_is false true c w is so = is
either_is false false c w is so = absurd (cc)

pub neither_is : (a b c w : Bool) → w ≡ (a || b) → w ≡ false → c ≡ (a || (b || c))
neither_is true b c w is so = absurd (cc)
neither_is false true c w is so = absurd (cc)
neither_is false false c w is so = refl
