-- Which exchanges there are, which of them are so, and how all of them change.
use Rattle.std.proofs.Common.{◌≡◌, ◌≢◌, ◌<◌, ◌≤◌, ◌==◌, ◌⊎◌, ℕ, Bool, List, true, false, Some, None}
use Rattle.std.proofs.Common.{Option, ap, sym, refl, ◌∙◌, inl, inr, arith}
use Rattle.std.proofs.lemmas.Bool.{cases_Bool, eqb-true, eqb-false, cases_lt}
use Rattle.std.specs.Prelude.{if◌then◌else◌, is_some, option_map}
use Rattle.h2_numbers.specs.Entries.{IsNextAbove, value_at}
use Rattle.h2_server.specs.declared.exchange.Exchange.{Exchange}
use Rattle.h2_server.specs.Activity.{IsBusy}
use Rattle.h2_server.specs.Exchanges.{Handling, IsEmptied, Kept, exchange_at, exchange_kept}
use Rattle.h2_server.specs.Exchanges.{is_part_due_at}
use Rattle.h2_server.specs.Sending.{NoneCanAsk, asked_on, windows_allow}
use Rattle.h2_spec_log.specs.Log.{Log}

module _ {W : Type 0} where
  -- What has a value is kept.
  some_kept : (value : Option (Exchange W)) → is_some value ≡ true
      → (kept : Kept W) × (option_map exchange_kept value ≡ Some kept)
  some_kept None some = absurd (cc)
  some_kept (Some one) some = (exchange_kept one, refl)

  none_kept : (entries : List (ℕ × Exchange W)) (i : ℕ) → value_at i entries ≡ None
      → exchange_at i entries ≡ None
  none_kept entries i none = ap (λ (v : Option (Exchange W)). option_map exchange_kept v) none

  -- Some exchange is kept where there is a first one.
  pub busy_next : (entries : List (ℕ × Exchange W)) (next : Option ℕ) → IsNextAbove entries 0 next
      → IsBusy entries (is_some next)
  busy_next entries None is = λ id other. none_kept entries id (is id (omega (arith, other)))
  busy_next entries (Some id) is =
      let (kept, at) = some_kept (value_at id entries) is.1 in (id, kept, at)

module _ {W : Type 0} (p : Option (Kept W) → Bool) (nothing : p None ≡ false) where
  -- None of those up to this stream is so.
  abbrev pub NoneTo : List (ℕ × Exchange W) → ℕ → Type 0
  NoneTo entries above = (i : ℕ) → i ≢ 0 → i ≤ above → p (exchange_at i entries) ≡ false

  none_here : (entries : List (ℕ × Exchange W)) (i : ℕ) → value_at i entries ≡ None
      → p (exchange_at i entries) ≡ false
  none_here entries i none = ap p (none_kept entries i none) ∙ nothing

  pub none_to_begin : (entries : List (ℕ × Exchange W)) → NoneTo entries 0
  none_to_begin entries i other within = absurd (omega (arith, other, within))

  pub none_to_on : (entries : List (ℕ × Exchange W)) (above id : ℕ)
      → NoneTo entries above → IsNextAbove entries above (Some id)
      → p (exchange_at id entries) ≡ false → NoneTo entries id
  none_to_on entries above id so_far is this i other within =
      elim (cases_Bool (i == id)) [
        | inl here ↦ ap (λ (n : ℕ). p (exchange_at n entries)) (eqb-true i id here) ∙ this
        | inr there ↦ elim (cases_lt above i) [
          | inl later ↦ none_here entries i (is.2 i later
              (omega (arith, within, eqb-false i id there)))
          | inr before ↦ so_far i other (omega (arith, before))
        ]
      ]

  -- No exchange is.
  pub none_to_all : (entries : List (ℕ × Exchange W)) (above : ℕ) → NoneTo entries above
      → IsNextAbove entries above None → (id : ℕ) → id ≢ 0 → p (exchange_at id entries) ≡ false
  none_to_all entries above so_far is id other = elim (cases_lt above id) [
    | inl later ↦ none_here entries id (is id later)
    | inr before ↦ so_far id other (omega (arith, before))
  ]

module _ {W : Type 0} (f : Kept W → Kept W) where
  -- What is kept has changed so,
  pub changed_at : (id : ℕ) (old new : List (ℕ × Exchange W)) (kept : Kept W)
      → exchange_at id old ≡ Some kept → exchange_at id new ≡ Some (f kept)
      → exchange_at id new ≡ option_map f (exchange_at id old)
  changed_at id old new kept was now =
      now ∙ sym (ap (λ (k : Option (Kept W)). option_map f k) was)

  -- and where nothing is there is nothing to change.
  pub changed_none : (id : ℕ) (old new : List (ℕ × Exchange W)) → exchange_at id old ≡ None
      → exchange_at id new ≡ exchange_at id old
      → exchange_at id new ≡ option_map f (exchange_at id old)
  changed_none id old new none same =
      same ∙ none ∙ sym (ap (λ (k : Option (Kept W)). option_map f k) none)

  -- So far those up to this stream have changed so, and the others are as they were.
  pub record ChangedTo (start now : List (ℕ × Exchange W)) (above : ℕ) : Type 0 where
    pub changed : (i : ℕ) → 0 < i → i ≤ above
        → exchange_at i now ≡ option_map f (exchange_at i start)
    pub others : (i : ℕ) → (i ≡ 0) ⊎ (above < i) → exchange_at i now ≡ exchange_at i start

  pub changed_begin : (start : List (ℕ × Exchange W)) → ChangedTo start start 0
  changed_begin start = record {
    changed = λ i some none. absurd (omega (arith, some, none));
    others = λ i after. refl;
  }

  -- One more.
  pub changed_on : (start now next : List (ℕ × Exchange W)) (above id : ℕ)
      → ChangedTo start now above → IsNextAbove now above (Some id)
      → exchange_at id next ≡ option_map f (exchange_at id now)
      → ((i : ℕ) → i ≢ id → exchange_at i next ≡ exchange_at i now) → ChangedTo start next id
  changed_on start now next above id so_far is at others = record {
    changed = λ i some within. elim (cases_Bool (i == id)) [
      | inl here ↦
          ap (λ (n : ℕ). exchange_at n next) (eqb-true i id here) ∙ at
          ∙ ap (λ (k : Option (Kept W)). option_map f k) (so_far.others id (inr is.0))
          ∙ sym (ap (λ (n : ℕ). option_map f (exchange_at n start)) (eqb-true i id here))
      | inr there ↦ others i (eqb-false i id there) ∙ elim (cases_lt above i) [
        | inl later ↦
            let none = none_kept now i (is.2 i later
            (omega (arith, within, eqb-false i id there))) in
            none
            ∙ sym (ap (λ (k : Option (Kept W)). option_map f k)
            (sym (so_far.others i (inr later)) ∙ none))
        | inr before ↦ so_far.changed i some (omega (arith, before))
      ]
    ];
    others = λ i after. elim after [
      | inl zero_one ↦
          others i (let above = is.0 in omega (arith, zero_one, above))
          ∙ so_far.others i (inl zero_one)
      | inr later ↦
          others i (omega (arith, later))
          ∙ so_far.others i (inr (let above = is.0 in omega (arith, later, above)))
    ];
  }

  -- All have changed so,
  pub changed_all : (start now : List (ℕ × Exchange W)) (above : ℕ) → ChangedTo start now above
      → IsNextAbove now above None → (i : ℕ) → i ≢ 0
      → exchange_at i now ≡ option_map f (exchange_at i start)
  changed_all start now above so_far is i other = elim (cases_lt above i) [
    | inl later ↦
        let none = none_kept now i (is i later) in
        none
        ∙ sym (ap (λ (k : Option (Kept W)). option_map f k)
        (sym (so_far.others i (inr later)) ∙ none))
    | inr before ↦ so_far.changed i (omega (arith, other)) (omega (arith, before))
  ]

-- and where nothing was kept, nothing is.
pub changed_emptied : {H W : Type 0} (f : Kept W → Kept W) (start now : Handling H W) (above : ℕ)
    → ChangedTo f start.entries now.entries above → IsNextAbove now.entries above None
    → IsEmptied start → IsEmptied now
changed_emptied {W} f start now above so_far is none i = elim (cases_Bool (i == 0)) [
  | inl zero_one ↦ so_far.others i (inl (eqb-true i 0 zero_one)) ∙ none i
  | inr some ↦
      changed_all f start.entries now.entries above so_far is i (eqb-false i 0 some)
      ∙ ap (λ (k : Option (Kept W)). option_map f k) (none i)
]

module _ {W : Type 0} where
  -- Where no exchange is kept none can be asked.
  no_entry_asks : (log : Log) (entries : List (ℕ × Exchange W)) (i : ℕ)
      → value_at i entries ≡ None → asked_on log i entries ≡ 0
  no_entry_asks log entries i none =
      ap (λ (v : Option (Exchange W)). if is_part_due_at (option_map exchange_kept v)
      then windows_allow log i else 0) none

  -- None of those up to this stream can be asked,
  abbrev pub NoneCanAskTo : Log → (from above : ℕ) → List (ℕ × Exchange W) → Type 0
  NoneCanAskTo log from above entries =
      (i : ℕ) → from < i → i ≤ above → asked_on log i entries ≡ 0

  pub none_can_ask_on : (log : Log) (entries : List (ℕ × Exchange W)) (from above id : ℕ)
      → NoneCanAskTo log from above entries → IsNextAbove entries above (Some id)
      → asked_on log id entries ≡ 0 → NoneCanAskTo log from id entries
  none_can_ask_on log entries from above id so_far is this i after within =
      elim (cases_Bool (i == id)) [
        | inl here ↦
            ap (λ (n : ℕ). asked_on log n entries) (eqb-true i id here) ∙ this
        | inr there ↦ elim (cases_lt above i) [
          | inl later ↦ no_entry_asks log entries i (is.2 i later
              (omega (arith, within, eqb-false i id there)))
          | inr before ↦ so_far i after (omega (arith, before))
        ]
      ]

  -- and no other.
  pub none_can_ask : (log : Log) (entries : List (ℕ × Exchange W)) (from above : ℕ)
      → NoneCanAskTo log from above entries → IsNextAbove entries above None
      → NoneCanAsk log from entries
  none_can_ask log entries from above so_far is id after = elim (cases_lt above id) [
    | inl later ↦ no_entry_asks log entries id (is id later)
    | inr before ↦ so_far id after (omega (arith, before))
  ]
