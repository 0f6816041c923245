-- Which streams get their shares in a pass, and which come first in the next one.
use Rattle.h2_ends.proofs.Names
use Names.{◌≡◌, ◌≢◌, ◌⊎◌, inl, inr, ℕ, suc, ◌≤◌, ◌<◌, Option, Some, None, sym, subst, arith}
use Names.{cases_eq, Role, Values, Act, Answer, SendFields, Count, Done, Refused, IsTypedAct}
use Names.{MayAnswer, with_call, IsLog, active_by_call, EndLog, tokens_of_call, call_may_close}
use Names.{end_with_log, false, List, [], Field, true, ◌∙◌, Bool}
use Rattle.std.specs.Prelude.{take, ◌&&◌, nat_le, length}
use Rattle.h2_spec_log.specs.Histories.{called_one}
use Rattle.h2_ends.specs.Passes.{Waits, Halt, Shares, PassesOver, Passes, share_act, shares_octets}
use Rattle.h2_ends.specs.Passes.{IsFirst}
use Rattle.h2_ends.specs.Passes.{shares_some, share_is_cut, shares_rest, shares_trailers, numbers}
use Rattle.h2_ends.specs.Passes.{octets_refused, list_refused, passes_no_more, passes_on}
use Rattle.h2_ends.specs.Passes.{passes_halt, passes_part, passes_round, next_turn}
unfoldable use Rattle.h2_ends.specs.Turns.{GotShareOver, GotShare}
use Rattle.h2_ends.specs.Turns.{ComesBefore, Pass, GetsShare, EndsAt, Meanwhile, no_pass, one_pass}
use Rattle.h2_ends.specs.Turns.{turn_after, halt_stream}
use Rattle.h2_ends.specs.Passes.{share_size}
use Rattle.h2_ends.specs.declared.span.Turn.{Turn}
use Rattle.h2_ends.proofs.PumpSends.{data_elsewhere, fields_elsewhere}
use Rattle.h2_ends.proofs.PumpSteps.{up_to_or}
use Rattle.h2_ends.proofs.PumpStuck.{waiting_same, data_none, fields_none}
use Rattle.h2_ends.proofs.TurnOrder.{before_or, before_both, both_served, none_served}
use Rattle.h2_ends.proofs.TurnOrder.{later_served}

-- The log comes about, and something waits on the stream.
record StillWaits (role : Role) (values : Values) (end : EndLog) (i : ℕ) : Type 0 where
  pub came : IsLog role values end.log
  pub waits : Waits end i

-- What waits and isn't the first one comes after it.
past : (end : EndLog) (low high id i : ℕ) → IsFirst end low high id → low ≤ i → Waits end i
    → i ≢ id → suc id ≤ i
past end low high id i first from waits other = elim (up_to_or (suc id) i) [
  | inl above ↦ above
  | inr below ↦ absurd (first.none i from (omega (arith, below, other)) waits)
]

module _ (role : Role) (values : Values) where
  -- A call on another stream leaves what waits on this one.
  other_call : (end : EndLog) (act : Act) (answer : Answer) (i : ℕ)
      → StillWaits role values end i → IsTypedAct act → MayAnswer end.log act answer
      → call_may_close i act answer ≡ false → tokens_of_call i act answer ≡ []
      → StillWaits role values (end_with_log end (with_call end.log act answer)) i
  other_call end act answer i still typed may stays none =
      record {
        came = called_one still.came act answer typed may;
        waits = record {
          active = active_by_call role values end.log act answer i still.came may
              still.waits.active stays;
          some = λ empty. still.waits.some (sym (waiting_same end act answer i none) ∙ empty);
        };
      }

  module _ (most id i : ℕ) (other : i ≢ id) where
    -- So it is with octets and trailers,
    other_octets : (end : EndLog) (octets : List ℕ) (ends : Bool) (answer : Answer)
        → StillWaits role values end i → IsTypedAct (share_act most id octets ends)
        → MayAnswer end.log (share_act most id octets ends) answer → StillWaits role values
        (end_with_log end (with_call end.log (share_act most id octets ends) answer)) i
    other_octets end octets ends answer still typed may =
        other_call end (share_act most id octets ends) answer i still typed may
        (data_elsewhere i id (take most octets) (ends && nat_le (length octets) most) answer other)
        (data_none i id (take most octets) (ends && nat_le (length octets) most) answer other)

    other_list : (end : EndLog) (list : List Field) (answer : Answer)
        → StillWaits role values end i → IsTypedAct (SendFields id list true)
        → MayAnswer end.log (SendFields id list true) answer → StillWaits role values
        (end_with_log end (with_call end.log (SendFields id list true) answer)) i
    other_list end list answer still typed may =
        other_call end (SendFields id list true) answer i still typed may
        (fields_elsewhere i id list true answer other) (fields_none i id list true answer other)

    -- and with a share of another stream.
    other_share : (end : EndLog) (count : ℕ) (halt : Option Halt) (after : EndLog)
        → Shares most id end count halt after → StillWaits role values end i
        → StillWaits role values after i
    other_share _ _ _ _ (shares_octets end octets ends sent typed waits may all more) still =
        other_octets end octets ends (Count sent) still typed may
    other_share _ _ _ _ (shares_some end octets ends sent typed waits may fewer on) still =
        other_octets end octets ends (Count sent) still typed may
    other_share _ _ _ _ (share_is_cut end octets ends sent typed waits may fewer over) still =
        other_octets end octets ends (Count sent) still typed may
    other_share _ _ _ after (shares_rest end octets halt _ typed waits may few rest) still =
        other_share _ 0 halt after rest
        (other_octets end octets false (Count (length octets)) still typed may)
    other_share _ _ _ _ (shares_trailers end list typed wait may) still =
        other_list end list Done still typed may
    other_share _ _ _ _ (octets_refused end octets ends refusal typed waits may) still =
        other_octets end octets ends (Refused refusal) still typed may
    other_share _ _ _ _ (list_refused end list refusal typed wait may) still =
        other_list end list (Refused refusal) still typed may

  module _ (sizes : ℕ → ℕ) where
    -- A pass over other streams leaves what waits.
    passes_by : (end : EndLog) (low high count : ℕ) (halt : Option (ℕ × Halt)) (after : EndLog)
        (i : ℕ) → PassesOver sizes end low high count halt after → i < low
        → StillWaits role values end i → StillWaits role values after i
    passes_by _ _ _ _ _ _ i (passes_no_more end low high none) below still = still
    passes_by _ _ _ _ _ after i
        (passes_on end between low high id sent more halt _ first share rest) below still =
        let from = first.from in
        passes_by between (suc id) high more halt after i rest (omega (arith, below, from))
        (other_share (sizes id) id i (λ same. omega (arith, below, from, same)) end sent None
        between
        share still)
    passes_by _ _ _ _ _ after i (passes_halt end low high id sent halt _ first share) below still =
        let from = first.from in
        other_share (sizes id) id i (λ same. omega (arith, below, from, same)) end sent
        (Some halt) after
        share still

    -- A stream on which something waits gets its share, up to that at which the pass ends.
    all_get : (end : EndLog) (low high count : ℕ) (after : EndLog) (i : ℕ)
        → (passes : PassesOver sizes end low high count None after) → low ≤ i → i < high
        → StillWaits role values end i → GotShareOver sizes passes i
    unfolding GotShareOver
    all_get _ _ _ _ _ i (passes_no_more end low high none) from below still =
        none i from below still.waits
    all_get _ _ _ _ after i (passes_on end between low high id sent more _ _ first share rest)
        from below still = elim (cases_eq i id) [
          | inl here ↦ inl here
          | inr other ↦ inr (all_get between (suc id) high more after i rest
              (past end low high id i first from still.waits other) below
              (other_share (sizes id) id i other end sent None between share still))
        ]

    some_get : (end : EndLog) (low high count s : ℕ) (stop : Halt) (after : EndLog) (i : ℕ)
        → (passes : PassesOver sizes end low high count (Some (s, stop)) after) → low ≤ i → i < s
        → StillWaits role values end i → GotShareOver sizes passes i
    unfolding GotShareOver
    some_get _ _ _ _ s stop after i
        (passes_on end between low high id sent more _ _ first share rest) from below still =
        elim (cases_eq i id) [
          | inl here ↦ inl here
          | inr other ↦ inr (some_get between (suc id) high more s stop after i rest
              (past end low high id i first from still.waits other) below
              (other_share (sizes id) id i other end sent None between share still))
        ]
    some_get _ _ _ _ s stop after i (passes_halt end low high id sent _ _ first share) from below
        still = first.none i from below still.waits

module _ (sizes : ℕ → ℕ) where
  -- What gets its share is among the streams, and comes before that at which the pass ends.
  got_from : (end : EndLog) (low high count : ℕ) (halt : Option (ℕ × Halt)) (after : EndLog)
      (i : ℕ) → (passes : PassesOver sizes end low high count halt after)
      → GotShareOver sizes passes i → (low ≤ i) × (i < high)
  unfolding GotShareOver
  got_from _ _ _ _ _ _ i (passes_no_more end low high none) got = absurd got
  got_from _ _ _ _ _ after i (passes_on end between low high id sent more halt _ first share rest)
      (inl here) =
      let from = first.from in
      let below = first.below in
      (omega (arith, from, here), omega (arith, below, here))
  got_from _ _ _ _ _ after i (passes_on end between low high id sent more halt _ first share rest)
      (inr got) =
      let (above, below) = got_from between (suc id) high more halt after i rest got in
      let from = first.from in (omega (arith, from, above), below)
  got_from _ _ _ _ _ _ i (passes_halt end low high id sent halt _ first share) got = absurd got

  halts_from : (end : EndLog) (low high count s : ℕ) (stop : Halt) (after : EndLog)
      → PassesOver sizes end low high count (Some (s, stop)) after → (low ≤ s) × (s < high)
  halts_from _ _ _ _ s stop after (passes_on end between low high id sent more _ _ first share
      rest) =
      let (above, below) = halts_from between (suc id) high more s stop after rest in
      let from = first.from in (omega (arith, from, above), below)
  halts_from _ _ _ _ s stop after (passes_halt end low high id sent _ _ first share) =
      (first.from, first.below)

  got_before : (end : EndLog) (low high count s : ℕ) (stop : Halt) (after : EndLog) (i : ℕ)
      → (passes : PassesOver sizes end low high count (Some (s, stop)) after)
      → GotShareOver sizes passes i → i < s
  unfolding GotShareOver
  got_before _ _ _ _ s stop after i (passes_on end between low high id sent more _ _ first share
      rest)
      (inl here) =
      let from = (halts_from between (suc id) high more s stop after rest).0 in
      omega (arith, from, here)
  got_before _ _ _ _ s stop after i (passes_on end between low high id sent more _ _ first share
      rest)
      (inr got) = got_before between (suc id) high more s stop after i rest got
  got_before _ _ _ _ s stop after i (passes_halt end low high id sent _ _ first share) got =
      absurd got

  -- Of a whole pass the same.
  pub served_before : (end : EndLog) (count s : ℕ) (stop : Halt) (after : EndLog) (i : ℕ)
      → (passes : Passes sizes end count (Some (s, stop)) after) → GotShare sizes passes i
      → ComesBefore end.turn.id i s
  unfolding GotShare
  served_before end _ s stop after i (passes_part count _ _ _ part) got =
      inl (
        (got_from end end.turn.id numbers count (Some (s, stop)) after i part got).0,
        got_before end end.turn.id numbers count s stop after i part got,
      )
  served_before end _ s stop after i (passes_round above below between _ _ one two) (inl got) =
      inr (inl (
        (got_from end end.turn.id numbers above None between i one got).0,
        (halts_from between 0 end.turn.id below s stop after two).1,
      ))
  served_before end _ s stop after i (passes_round above below between _ _ one two) (inr got) =
      inr (inr (
        got_before between 0 end.turn.id below s stop after i two got,
        (halts_from between 0 end.turn.id below s stop after two).1,
      ))

  module _ (role : Role) (values : Values) where
    pub waits_are_served : (end : EndLog) (count : ℕ) (after : EndLog) (i : ℕ)
        → (passes : Passes sizes end count None after) → IsLog role values end.log → i < numbers
        → Waits end i → GotShare sizes passes i
    unfolding GotShare
    waits_are_served end _ after i (passes_round above below between _ _ one two) came low waits =
        elim (up_to_or end.turn.id i) [
          | inl from ↦ inl (all_get role values sizes end end.turn.id numbers above between i one
              from
              low (record { came = came; waits = waits }))
          | inr under ↦ inr (all_get role values sizes between 0 end.turn.id below after i two
              (omega arith) under (passes_by role values sizes end end.turn.id numbers above None
              between
              i one under (record { came = came; waits = waits })))
        ]

    pub waits_before_served : (end : EndLog) (count s : ℕ) (stop : Halt) (after : EndLog) (i : ℕ)
        → (passes : Passes sizes end count (Some (s, stop)) after) → IsLog role values end.log
        → i < numbers → Waits end i → ComesBefore end.turn.id i s → GotShare sizes passes i
    unfolding GotShare
    waits_before_served end _ s stop after i (passes_part count _ _ _ part) came low waits
        (inl (from, before)) =
        some_get role values sizes end end.turn.id numbers count s stop after i part from before
        (record { came = came; waits = waits })
    waits_before_served end _ s stop after i (passes_part count _ _ _ part) came low waits
        (inr (inl (from, under))) =
        let at = (halts_from end end.turn.id numbers count s stop after part).0 in
        absurd (omega (arith, at, under))
    waits_before_served end _ s stop after i (passes_part count _ _ _ part) came low waits
        (inr (inr (before, under))) =
        let at = (halts_from end end.turn.id numbers count s stop after part).0 in
        absurd (omega (arith, at, under))
    waits_before_served end _ s stop after i (passes_round above below between _ _ one two) came
        low waits (inl (from, before)) =
        let at = (halts_from between 0 end.turn.id below s stop after two).1 in
        absurd (omega (arith, at, from, before))
    waits_before_served end _ s stop after i (passes_round above below between _ _ one two) came
        low waits (inr (inl (from, under))) =
        inl (all_get role values sizes end end.turn.id numbers above between i one from low
        (record { came = came; waits = waits }))
    waits_before_served end _ s stop after i (passes_round above below between _ _ one two) came
        low waits (inr (inr (before, under))) =
        inr (some_get role values sizes between 0 end.turn.id below s stop after i two
        (omega arith) before
        (passes_by role values sizes end end.turn.id numbers above None between i one
        (omega (arith, before, under)) (record { came = came; waits = waits })))

-- What a pass leaves of the order.
module _ (i j : ℕ) (low : j < numbers) where
  module _ (sizes : ℕ → ℕ) (end : EndLog) (count : ℕ) (after : EndLog) (role : Role)
      (values : Values)
      (came : IsLog role values end.log) (waits : Waits end j) where
    -- Where the one got a share and the other none after it, the other comes first in the next
    -- pass,
    first_turn : (halt : Option (ℕ × Halt)) → (passes : Passes sizes end count halt after)
        → GotShare sizes passes i → (GotShare sizes passes j → ComesBefore end.turn.id j i)
        → ComesBefore (next_turn end.turn halt).id j i
    first_turn None passes got none_after =
        none_after (waits_are_served sizes role values end count after j passes came low waits)
    first_turn (Some (s, stop)) passes got none_after =
        let before = served_before sizes end count s stop after i passes got in
        elim (before_or end.turn.id j s) [
          | inl earlier ↦ both_served end.turn.id j i s
              (none_after (waits_before_served sizes role values end count s stop after j passes
              came
              low waits earlier)) before
          | inr later ↦ later_served end.turn.id j i s before later
        ]

    -- and it still does where it got none in a pass.
    next_turn_too : (halt : Option (ℕ × Halt)) → (passes : Passes sizes end count halt after)
        → (GotShare sizes passes j → ⊥) → ComesBefore end.turn.id j i
        → ComesBefore (next_turn end.turn halt).id j i
    next_turn_too None passes none before =
        absurd (none (waits_are_served sizes role values end count after j passes came low waits))
    next_turn_too (Some (s, stop)) passes none before = elim (before_or end.turn.id j s) [
      | inl earlier ↦ absurd (none (waits_before_served sizes role values end count s stop after j
          passes came low waits earlier))
      | inr later ↦ none_served end.turn.id j i s before later
    ]

    -- So it gets its share before the other does again,
    last_turn : (halt : Option (ℕ × Halt)) → (passes : Passes sizes end count halt after)
        → GotShare sizes passes i → ComesBefore end.turn.id j i → GotShare sizes passes j
    last_turn None passes got before =
        waits_are_served sizes role values end count after j passes came low waits
    last_turn (Some (s, stop)) passes got before =
        waits_before_served sizes role values end count s stop after j passes came low waits
        (before_both end.turn.id j i s before (served_before sizes end count s stop after i passes
        got))

    -- or before a pass ends at that.
    end_turn : (halt : Option (ℕ × Halt)) → (passes : Passes sizes end count halt after)
        → halt_stream halt ≡ Some i → ComesBefore end.turn.id j i → GotShare sizes passes j
    end_turn None passes is before = cc
    end_turn (Some (s, stop)) passes is before =
        let same : i ≡ s = cc in
        waits_before_served sizes role values end count s stop after j passes came low waits
        (subst (λ (k : ℕ). ComesBefore end.turn.id j k) same before)

  meanwhile_kept : (turn last : Turn) → Meanwhile i j turn last → ComesBefore turn.id j i
      → ComesBefore last.id j i
  meanwhile_kept _ _ (no_pass turn) before = before
  meanwhile_kept _ _ (one_pass pass last waits none_here none rest) before =
      meanwhile_kept (turn_after pass) last rest
      (next_turn_too (share_size pass.end.turn pass.most) pass.end pass.count pass.after pass.role
      pass.values pass.came waits pass.halt pass.passes none before)

  pub share_between : (first last : Pass) → GetsShare first i → Waits first.end j
      → (GetsShare first j → ComesBefore first.end.turn.id j i)
      → Meanwhile i j (turn_after first) last.end.turn → GetsShare last i ⊎ EndsAt last i
      → Waits last.end j → GetsShare last j × ComesBefore last.end.turn.id j i
  share_between first last got waits none_after meanwhile again waits_still =
      let before = meanwhile_kept (turn_after first) last.end.turn meanwhile
      (first_turn (share_size first.end.turn first.most) first.end first.count first.after
      first.role first.values first.came waits first.halt first.passes got none_after) in (
        elim again [
          | inl gets ↦ last_turn (share_size last.end.turn last.most) last.end last.count
              last.after last.role last.values last.came waits_still last.halt last.passes gets
              before
          | inr ends ↦ end_turn (share_size last.end.turn last.most) last.end last.count last.after
              last.role last.values last.came waits_still last.halt last.passes ends before
        ],
        before,
      )
