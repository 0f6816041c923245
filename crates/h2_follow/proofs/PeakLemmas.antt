-- The peaks of a queue, as numbers come and go.
use Rattle.std.proofs.Common.{◌≡◌, ◌∙◌, ◌++◌, ◌∷◌, ◌≤◌, ◌<◌, ◌⊎◌, ℕ, [], List, refl, sym, ap, subst, arith}
use Rattle.std.proofs.Common.{true, false, Option, Some, None, option_to_list, max, inl, inr}
use Rattle.std.proofs.Common.{nat_lt, if◌then◌else◌, length, ◌-◌, slice_index_or}
use Rattle.std.proofs.lemmas.Grind.{common_steps}
use Rattle.std.proofs.lemmas.Bool.{cases_lt}
use Rattle.h2_follow.specs.Peaks.{ends_below, greatest_of, peaks_of, with_peak}

-- None of the numbers is above this one.
abbrev AllUpTo : (most : ℕ) → List ℕ → Type 0
AllUpTo most [] = Unit {0}
AllUpTo most (number ∷ numbers) = (number ≤ most) × AllUpTo most numbers

-- None of the numbers is above one before it.
abbrev pub Falls : List ℕ → Type 0
Falls [] = Unit {0}
Falls (number ∷ numbers) = AllUpTo number numbers × Falls numbers

-- the peaks that are not below a number, from the first on
abbrev pub kept_from : (number : ℕ) → (peaks : List ℕ) → List ℕ
kept_from number [] = []
kept_from number (peak ∷ peaks) = if nat_lt peak number then [] else peak ∷ kept_from number peaks

-- a peak that is no greater stays after a number, and a greater one hides it
with_below : (number peak : ℕ) (peaks : List ℕ) → peak ≤ number
    → with_peak number (peak ∷ peaks) ≡ number ∷ peak ∷ peaks
with_below number peak peaks is = grind (arith, common_steps)

with_above : (number peak : ℕ) (peaks : List ℕ) → number < peak
    → with_peak number (peak ∷ peaks) ≡ peak ∷ peaks
with_above number peak peaks is = grind (arith, common_steps)

kept_below : (number peak : ℕ) (peaks : List ℕ) → peak < number
    → kept_from number (peak ∷ peaks) ≡ []
kept_below number peak peaks is = grind (arith, common_steps)

kept_above : (number peak : ℕ) (peaks : List ℕ) → number ≤ peak
    → kept_from number (peak ∷ peaks) ≡ peak ∷ kept_from number peaks
kept_above number peak peaks is = grind (arith, common_steps)

-- no number is above a greater one either
all_above : (low high : ℕ) (numbers : List ℕ) → low ≤ high → AllUpTo low numbers
    → AllUpTo high numbers
all_above low high [] is all = tt
all_above low high (number ∷ numbers) is (first, others) =
    (omega (arith, is, first), all_above low high numbers is others)

-- the peaks fall, with a number before them
falls_with : (number : ℕ) (peaks : List ℕ) → Falls peaks → Falls (with_peak number peaks)
falls_with number [] falls = (tt, tt)
falls_with number (peak ∷ peaks) falls = by (cases_lt number peak)
  where
    by : (number < peak) ⊎ (peak ≤ number) → Falls (with_peak number (peak ∷ peaks))
    by (inl above) = subst Falls (sym (with_above number peak peaks above)) falls
    by (inr below) = subst Falls (sym (with_below number peak peaks below))
        ((below, all_above peak number peaks below falls.0), falls)

falls_peaks : (numbers : List ℕ) → Falls (peaks_of numbers)
falls_peaks [] = tt
falls_peaks (number ∷ numbers) = falls_with number (peaks_of numbers) (falls_peaks numbers)

-- and the first of them do
all_front : (most : ℕ) (front more : List ℕ) → AllUpTo most (front ++ more) → AllUpTo most front
all_front most [] more all = tt
all_front most (number ∷ front) more (first, others) = (first, all_front most front more others)

falls_front : (front more : List ℕ) → Falls (front ++ more) → Falls front
falls_front [] more falls = tt
falls_front (number ∷ front) more (first, others) =
    (all_front number front more first, falls_front front more others)

-- where the last peak is not below a number, none is
first_above : (number peak : ℕ) (peaks : List ℕ) → Falls (peak ∷ peaks)
    → ends_below number (peak ∷ peaks) ≡ false → number ≤ peak
first_above number peak [] falls is = grind (arith, common_steps)
first_above number peak (next ∷ peaks) ((first, others), falls) is =
    let above = first_above number next peaks falls is in omega (arith, above, first)

-- and all are kept
kept_all : (number : ℕ) (peaks : List ℕ) → Falls peaks → ends_below number peaks ≡ false
    → kept_from number peaks ≡ peaks
kept_all number [] falls is = refl
kept_all number (peak ∷ []) falls is =
    kept_above number peak [] (first_above number peak [] falls is)
kept_all number (peak ∷ next ∷ peaks) falls is =
    kept_above number peak (next ∷ peaks) (first_above number peak (next ∷ peaks) falls is)
    ∙ ap (λ (all : List ℕ). peak ∷ all) (kept_all number (next ∷ peaks) falls.1 is)

-- the last peak is dropped where it is below a number
kept_front : (number last : ℕ) (front : List ℕ) → last < number
    → kept_from number (front ++ last ∷ []) ≡ kept_from number front
kept_front number last [] is = kept_below number last [] is
kept_front number last (peak ∷ front) is =
    by (cases_lt peak number) (kept_front number last front is)
  where
    by : (peak < number) ⊎ (number ≤ peak)
        → kept_from number (front ++ last ∷ []) ≡ kept_from number front
        → kept_from number (peak ∷ (front ++ last ∷ [])) ≡ kept_from number (peak ∷ front)
    by (inl below) same =
        kept_below number peak (front ++ last ∷ []) below ∙ sym (kept_below number peak front below)
    by (inr above) same =
        kept_above number peak (front ++ last ∷ []) above
        ∙ ap (λ (all : List ℕ). peak ∷ all) same
        ∙ sym (kept_above number peak front above)

-- the last of peaks
ends_last : (number last : ℕ) (front : List ℕ) → ends_below number (front ++ last ∷ []) ≡ true
    → last < number
ends_last number last [] is = grind (arith, common_steps)
ends_last number last (peak ∷ []) is = grind (arith, common_steps)
ends_last number last (peak ∷ next ∷ front) is = ends_last number last (next ∷ front) is

-- peaks whose last one was taken, since it is below a number
pub kept_popped : (number : ℕ) (popped : Option ℕ) (old new : List ℕ) → ends_below number old ≡ true
    → old ≡ new ++ option_to_list popped → kept_from number new ≡ kept_from number old
kept_popped number None old new is taken = by (sym (append_none new) ∙ sym taken)
  where
    append_none : (all : List ℕ) → all ++ [] ≡ all
    append_none [] = refl
    append_none (first ∷ all) = ap (λ (more : List ℕ). first ∷ more) (append_none all)

    by : new ≡ old → kept_from number new ≡ kept_from number old
    by same = ap (kept_from number) same
kept_popped number (Some last) old new is taken =
    sym (ap (kept_from number) taken
    ∙ kept_front number last new
    (ends_last number last new (ap (ends_below number) (sym taken) ∙ is)))

-- they fall still
pub falls_popped : (popped : Option ℕ) (old new : List ℕ) → old ≡ new ++ option_to_list popped
    → Falls old → Falls new
falls_popped popped old new taken falls =
    falls_front new (option_to_list popped) (subst Falls taken falls)

-- A number comes before a queue's peaks, and another one at its end.
with_both : (number last : ℕ) (peaks : List ℕ) → with_peak number (kept_from last peaks ++ last ∷ [])
    ≡ kept_from last (with_peak number peaks) ++ last ∷ []
with_both number last [] = by (cases_lt number last)
  where
    by : (number < last) ⊎ (last ≤ number) → with_peak number (last ∷ [])
        ≡ kept_from last (number ∷ []) ++ last ∷ []
    by (inl below) = with_above number last [] below
        ∙ ap (λ (all : List ℕ). all ++ last ∷ []) (sym (kept_below last number [] below))
    by (inr above) = with_below number last [] above
        ∙ ap (λ (all : List ℕ). all ++ last ∷ []) (sym (kept_above last number [] above))
with_both number last (peak ∷ peaks) = by (cases_lt peak last) (cases_lt number peak)
    (cases_lt number last)
  where
    by : (peak < last) ⊎ (last ≤ peak) → (number < peak) ⊎ (peak ≤ number)
        → (number < last) ⊎ (last ≤ number)
        → with_peak number (kept_from last (peak ∷ peaks) ++ last ∷ [])
        ≡ kept_from last (with_peak number (peak ∷ peaks)) ++ last ∷ []
    by (inl low) (inl above) (inl under) =
        ap (λ (all : List ℕ). with_peak number (all ++ last ∷ [])) (kept_below last peak peaks low)
        ∙ with_above number last [] under
        ∙ sym (ap (λ (all : List ℕ). kept_from last all ++ last ∷ [])
        (with_above number peak peaks above)
        ∙ ap (λ (all : List ℕ). all ++ last ∷ []) (kept_below last peak peaks low))
    by (inl low) (inl above) (inr over) = absurd (omega (arith, low, above, over))
    by (inl low) (inr below) (inl under) =
        ap (λ (all : List ℕ). with_peak number (all ++ last ∷ [])) (kept_below last peak peaks low)
        ∙ with_above number last [] under
        ∙ sym (ap (λ (all : List ℕ). kept_from last all ++ last ∷ [])
        (with_below number peak peaks below)
        ∙ ap (λ (all : List ℕ). all ++ last ∷ []) (kept_below last number (peak ∷ peaks) under))
    by (inl low) (inr below) (inr over) =
        ap (λ (all : List ℕ). with_peak number (all ++ last ∷ [])) (kept_below last peak peaks low)
        ∙ with_below number last [] over
        ∙ sym (ap (λ (all : List ℕ). kept_from last all ++ last ∷ [])
        (with_below number peak peaks below)
        ∙ ap (λ (all : List ℕ). all ++ last ∷ []) (kept_above last number (peak ∷ peaks) over)
        ∙ ap (λ (all : List ℕ). number ∷ (all ++ last ∷ [])) (kept_below last peak peaks low))
    by (inr high) (inl above) under =
        ap (λ (all : List ℕ). with_peak number (all ++ last ∷ [])) (kept_above last peak peaks high)
        ∙ with_above number peak (kept_from last peaks ++ last ∷ []) above
        ∙ sym (ap (λ (all : List ℕ). kept_from last all ++ last ∷ [])
        (with_above number peak peaks above)
        ∙ ap (λ (all : List ℕ). all ++ last ∷ []) (kept_above last peak peaks high))
    by (inr high) (inr below) (inl under) = absurd (omega (arith, high, below, under))
    by (inr high) (inr below) (inr over) =
        ap (λ (all : List ℕ). with_peak number (all ++ last ∷ [])) (kept_above last peak peaks high)
        ∙ with_below number peak (kept_from last peaks ++ last ∷ []) below
        ∙ sym (ap (λ (all : List ℕ). kept_from last all ++ last ∷ [])
        (with_below number peak peaks below)
        ∙ ap (λ (all : List ℕ). all ++ last ∷ []) (kept_above last number (peak ∷ peaks) over)
        ∙ ap (λ (all : List ℕ). number ∷ (all ++ last ∷ [])) (kept_above last peak peaks high))

-- the peaks of a queue with one more number: those that are not below it, and then it
peaks_more : (numbers : List ℕ) (last : ℕ)
    → peaks_of (numbers ++ last ∷ []) ≡ kept_from last (peaks_of numbers) ++ last ∷ []
peaks_more [] last = refl
peaks_more (number ∷ numbers) last =
    ap (with_peak number) (peaks_more numbers last) ∙ with_both number last (peaks_of numbers)

-- the number is put at the end, once no peak is below it
pub peaks_pushed : (old now new numbers : List ℕ) (number : ℕ)
    → kept_from number now ≡ kept_from number old → (Falls old → Falls now)
    → ends_below number now ≡ false → new ≡ now ++ number ∷ [] → old ≡ peaks_of numbers
    → new ≡ peaks_of (numbers ++ number ∷ [])
peaks_pushed old now new numbers number kept falls none added is =
    added
    ∙ ap (λ (all : List ℕ). all ++ number ∷ [])
    (sym (kept_all number now (falls (subst Falls (sym is) (falls_peaks numbers))) none)
    ∙ kept ∙ ap (kept_from number) is)
    ∙ sym (peaks_more numbers number)

-- the greatest number, by the first peak
abbrev pub first_or : (most : ℕ) → List ℕ → ℕ
first_or most [] = most
first_or most (peak ∷ peaks) = max most peak

first_with : (most number : ℕ) (peaks : List ℕ)
    → first_or (max most number) peaks ≡ first_or most (with_peak number peaks)
first_with most number [] = refl
first_with most number (peak ∷ peaks) = by (cases_lt number peak)
  where
    by : (number < peak) ⊎ (peak ≤ number) → max (max most number) peak
        ≡ first_or most (with_peak number (peak ∷ peaks))
    by (inl above) = (omega (arith, above))
        ∙ ap (first_or most) (sym (with_above number peak peaks above))
    by (inr below) = (omega (arith, below))
        ∙ ap (first_or most) (sym (with_below number peak peaks below))

pub greatest_first : (most : ℕ) (numbers : List ℕ)
    → greatest_of most numbers ≡ first_or most (peaks_of numbers)
greatest_first most [] = refl
greatest_first most (number ∷ numbers) =
    greatest_first (max most number) numbers ∙ first_with most number (peaks_of numbers)

-- the last peak as it is lent
pub ends_lent : (number last : ℕ) (peaks : List ℕ) → 0 < length peaks
    → last ≡ slice_index_or peaks (length peaks - 1) last
    → nat_lt last number ≡ ends_below number peaks
ends_lent number last [] some is = absurd (omega (arith, some))
ends_lent number last (peak ∷ []) some is = grind (arith, common_steps)
ends_lent number last (peak ∷ next ∷ peaks) some is =
    ends_lent number last (next ∷ peaks) (grind (arith, common_steps)) (grind (arith, common_steps))

-- the greatest number, by the first peak as it is lent
pub greatest_lent : (most first result : ℕ) (peaks numbers : List ℕ) → result ≡ max most first
    → 0 < length peaks → first ≡ slice_index_or peaks 0 first → peaks ≡ peaks_of numbers
    → result ≡ greatest_of most numbers
greatest_lent most first result [] numbers made some is known = absurd (omega (arith, some))
greatest_lent most first result (peak ∷ peaks) numbers made some is known =
    made ∙ ap (max most) is ∙ ap (first_or most) known ∙ sym (greatest_first most numbers)

-- and where there is none
pub greatest_none : (most : ℕ) (peaks numbers : List ℕ) → length peaks ≡ 0
    → peaks ≡ peaks_of numbers → most ≡ greatest_of most numbers
greatest_none most [] numbers none known =
    ap (first_or most) known ∙ sym (greatest_first most numbers)
greatest_none most (peak ∷ peaks) numbers none known = absurd (omega (arith, none))
