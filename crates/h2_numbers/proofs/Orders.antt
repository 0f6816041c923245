-- The numbers of a map in rising order: what stays of them where the map changes.
use Rattle.std.proofs.Common.{◌≡◌, ◌≢◌, ℕ, ◌+◌, ◌-◌, ◌<◌, ◌≤◌, Bool, true, false, cond, nat_eq, List}
use Rattle.std.proofs.Common.{length, Option, Some, None, IsSome, refl, sym, ap, ◌∙◌, arith, inl}
use Rattle.std.proofs.Common.{inr, eqb-true}
use Rattle.std.specs.List.{slice_index}
use Rattle.std.specs.Option.{is_some}
use Rattle.std.proofs.lemmas.Bool.{both_ways, cases_Bool, cases_eq, cases_lt, eq-eqb}
use Rattle.h2_numbers.specs.Entries.{value_at, SetsValue, Ascends, HasPlace, IsOrderOf}
use Rattle.h2_numbers.specs.Entries.{IsFirstAbove}

-- What a search for the first number above another keeps: the numbers before it are no higher, and
-- those after it are above.
pub record Searches (order : List ℕ) (number low high : ℕ) : Type 0 where
  pub from : low ≤ high
  pub to : high ≤ length order
  pub below : (k : ℕ) → k < low → slice_index order k ≤ number
  pub above : (k : ℕ) → high ≤ k → k < length order → number < slice_index order k

-- Where the same numbers have values the order stays.
pub order_kept : {V : Type 0} → (old new : List (ℕ × V)) (order : List ℕ)
    → ((q : ℕ) → IsSome (value_at q new) → IsSome (value_at q old))
    → ((q : ℕ) → IsSome (value_at q old) → IsSome (value_at q new)) → IsOrderOf old order
    → IsOrderOf new order
order_kept old new order was stays is =
    record {
      ascends = is.ascends;
      all = λ q some. is.all q (was q some);
      only = λ k within. stays (slice_index order k) (is.only k within);
    }

-- What has a value once one was put at a number: that one, and those that had one.
module _ {V : Type 0} (old new : List (ℕ × V)) (id : ℕ) (value : V)
    (changes : SetsValue id (Some value) old new) where
  some_here : (q : ℕ) → nat_eq id q ≡ true → IsSome (value_at q new)
  some_here q same = ap is_some (changes q
      ∙ ap (λ (b : Bool). cond b (Some value) (value_at q old)) same)

  same_there : (q : ℕ) → nat_eq id q ≡ false
      → is_some (value_at q new) ≡ is_some (value_at q old)
  same_there q other = ap is_some (changes q
      ∙ ap (λ (b : Bool). cond b (Some value) (value_at q old)) other)

  some_stays : (q : ℕ) → IsSome (value_at q old) → IsSome (value_at q new)
  some_stays q some = elim (cases_Bool (nat_eq id q)) [
    | inl same ↦ some_here q same
    | inr other ↦ same_there q other ∙ some
  ]

-- The places of another list that has one number more.
pub record HasOneMore (old new : List ℕ) (number place : ℕ) : Type 0 where
  pub count : length new ≡ length old + 1
  pub below : (k : ℕ) → k < place → slice_index new k ≡ slice_index old k
  pub here : slice_index new place ≡ number
  pub above : (k : ℕ) → place < k → slice_index new k ≡ slice_index old (k - 1)

-- With a number that is none of them, at the place of the first one above it, the numbers ascend,
ascends_with : (old new : List ℕ) (number place : ℕ) → Ascends old
    → ((k : ℕ) → k < length old → slice_index old k ≢ number) → IsFirstAbove old number place
    → HasOneMore old new number place → Ascends new
ascends_with old new number place ascends apart first more j k lower within =
    elim (cases_lt k place) [
      | inl below ↦ rw (more.below j (omega (arith, lower, below)), more.below k below)
          (ascends j k lower (omega (arith, below, first.within)))
      | inr from ↦ elim (cases_eq k place) [
        | inl same ↦ rw (same, more.here, more.below j (omega (arith, lower, same)))
            (omega (
              arith,
              first.below j (omega (arith, lower, same)),
              apart j (omega (arith, lower, same, first.within)),
            ))
        | inr other ↦ rw (more.above k (omega (arith, from, other))) (elim (cases_lt j place) [
          | inl low ↦ rw (more.below j low)
              (ascends j (k - 1) (omega (arith, low, from, other)) (omega (
                arith,
                within,
                more.count,
                lower,
              )))
          | inr high ↦ elim (cases_eq j place) [
            | inl at ↦ rw (at, more.here) (first.above (k - 1)
                (omega (arith, from, other)) (omega (arith, within, more.count, lower)))
            | inr past ↦ rw (more.above j (omega (arith, high, past)))
                (ascends (j - 1) (k - 1) (omega (arith, lower, high, past))
                (omega (arith, within, more.count, lower)))
          ]
        ])
      ]
    ]

-- and each number of the list before has a place.
placed_with : (old new : List ℕ) (number place q : ℕ) → HasOneMore old new number place
    → HasPlace old q → HasPlace new q
placed_with old new number place q more is = elim (cases_lt is.place place) [
  | inl below ↦ record {
    place = is.place;
    within = omega (arith, is.within, more.count);
    is = more.below is.place below ∙ is.is;
  }
  | inr from ↦ record {
    place = is.place + 1;
    within = omega (arith, is.within, more.count);
    is = more.above (is.place + 1) (omega (arith, from))
        ∙ ap (slice_index old) (omega arith) ∙ is.is;
  }
]

pub order_with : {V : Type 0} → (old new : List (ℕ × V)) (value : V) (before after : List ℕ)
    (id place : ℕ) → IsOrderOf old before → value_at id old ≡ None
    → SetsValue id (Some value) old new → IsFirstAbove before id place
    → HasOneMore before after id place → IsOrderOf new after
order_with old new value before after id place is none changes first more =
    record {
      ascends = ascends_with before after id place is.ascends (λ k within same. both_ways _
          (ap is_some (ap (λ (i : ℕ). value_at i old) same ∙ none)) (is.only k within)) first more;
      all = λ q some. elim (cases_Bool (nat_eq id q)) [
        | inl same ↦ record {
          place = place;
          within = omega (arith, first.within, more.count);
          is = more.here ∙ eqb-true id q same;
        }
        | inr other ↦ placed_with before after id place q more
            (is.all q (sym (same_there old new id value changes q other) ∙ some))
      ];
      only = λ k within. elim (cases_lt k place) [
        | inl below ↦ rw (more.below k below) (some_stays old new id value changes _
            (is.only k (omega (arith, below, first.within))))
        | inr from ↦ elim (cases_eq k place) [
          | inl same ↦ rw (same, more.here)
              (some_here old new id value changes id (eq-eqb id id refl))
          | inr other ↦ rw (more.above k (omega (arith, from, other)))
              (some_stays old new id value changes _
              (is.only (k - 1) (omega (arith, within, more.count, from, other))))
        ]
      ];
    }

-- The places of another list that has one number less.
pub record HasOneLess (old new : List ℕ) (place : ℕ) : Type 0 where
  pub within : place < length old
  pub count : length new + 1 ≡ length old
  pub below : (k : ℕ) → k < place → slice_index new k ≡ slice_index old k
  pub above : (k : ℕ) → place ≤ k → slice_index new k ≡ slice_index old (k + 1)

-- Each place of it has the number of another place of the list before.
came_from : (old new : List ℕ) (place k : ℕ) → HasOneLess old new place → k < length new
    → (j : ℕ) × (j < length old) × (j ≢ place) × (slice_index new k ≡ slice_index old j)
came_from old new place k less within = elim (cases_lt k place) [
  | inl below ↦ (
    k,
    omega (arith, within, less.count),
    λ same. omega (arith, below, same),
    less.below k below,
  )
  | inr from ↦ (
    k + 1,
    omega (arith, within, less.count),
    λ same. omega (arith, from, same),
    less.above k from,
  )
]

ascends_without : (old new : List ℕ) (place : ℕ) → Ascends old → HasOneLess old new place
    → Ascends new
ascends_without old new place ascends less j k lower within = elim (cases_lt k place) [
  | inl below ↦ rw (less.below j (omega (arith, lower, below)), less.below k below)
      (ascends j k lower (omega (arith, within, less.count)))
  | inr from ↦ rw (less.above k from) (elim (cases_lt j place) [
    | inl low ↦ rw (less.below j low)
        (ascends j (k + 1) (omega (arith, lower)) (omega (arith, within, less.count)))
    | inr high ↦ rw (less.above j high)
        (ascends (j + 1) (k + 1) (omega (arith, lower)) (omega (arith, within, less.count)))
  ])
]

placed_without : (old new : List ℕ) (place q : ℕ) → HasOneLess old new place → (is : HasPlace old q)
    → is.place ≢ place → HasPlace new q
placed_without old new place q less is other = elim (cases_lt is.place place) [
  | inl below ↦ record {
    place = is.place;
    within = omega (arith, below, less.count, less.within);
    is = less.below is.place below ∙ is.is;
  }
  | inr from ↦ record {
    place = is.place - 1;
    within = omega (arith, from, other, less.count, is.within);
    is = less.above (is.place - 1) (omega (arith, from, other))
        ∙ ap (slice_index old) (omega (arith, from, other)) ∙ is.is;
  }
]

-- Numbers at two places differ.
differ : (order : List ℕ) (j k : ℕ) → Ascends order → j < length order → k < length order → j ≢ k
    → slice_index order j ≢ slice_index order k
differ order j k ascends within along other same = elim (cases_lt j k) [
  | inl below ↦ omega (arith, ascends j k below along, same)
  | inr from ↦ omega (arith, ascends k j (omega (arith, from, other)) within, same)
]

-- A number that has a value once another's was taken out is not that one, and had it.
still : {V : Type 0} → (old new : List (ℕ × V)) (id q : ℕ) → SetsValue id None old new
    → IsSome (value_at q new) → (nat_eq id q ≡ false) × IsSome (value_at q old)
still old new id q changes some = elim (cases_Bool (nat_eq id q)) [
  | inl same ↦ absurd (both_ways _ (ap is_some (changes q
      ∙ ap (λ (b : Bool). cond b None (value_at q old)) same)) some)
  | inr other ↦ (
    other,
    sym (ap is_some (changes q ∙ ap (λ (b : Bool). cond b None (value_at q old)) other)) ∙ some,
  )
]

-- Each other number that had a value has it still.
others_stay : {V : Type 0} → (old new : List (ℕ × V)) (id q : ℕ) → SetsValue id None old new
    → q ≢ id → IsSome (value_at q old) → IsSome (value_at q new)
others_stay old new id q changes other some = elim (cases_Bool (nat_eq id q)) [
  | inl same ↦ absurd (other (sym (eqb-true id q same)))
  | inr apart ↦ ap is_some (changes q
      ∙ ap (λ (b : Bool). cond b None (value_at q old)) apart) ∙ some
]

-- Without a number at its place the order is that of the numbers that have a value.
pub order_without : {V : Type 0} → (old new : List (ℕ × V)) (before after : List ℕ) (id place : ℕ)
    → IsOrderOf old before → SetsValue id None old new → slice_index before place ≡ id
    → HasOneLess before after place → IsOrderOf new after
order_without old new before after id place is changes here less =
    record {
      ascends = ascends_without before after place is.ascends less;
      all = λ q some.
          let kept = still old new id q changes some in
          let placed = is.all q kept.1 in
          placed_without before after place q less placed (λ same. both_ways _ kept.0
          (eq-eqb id q (sym here ∙ ap (slice_index before) (sym same) ∙ placed.is)));
      only = λ k within.
          let from = came_from before after place k less within in
          rw from.3 (others_stay old new id (slice_index before from.0) changes
          (λ same. differ before from.0 place is.ascends from.1 less.within from.2
          (same ∙ sym here)) (is.only from.0 from.1));
    }

-- What is not there is none.
pub none_of : {V : Type 0} → (found : Option V) → is_some found ≡ false → found ≡ None
none_of None none = refl
none_of (Some value) none = absurd (both_ways true none refl)
