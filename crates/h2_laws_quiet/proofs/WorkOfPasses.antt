-- A pass over the streams on which something waits leaves no more work at an end, whatever the
-- peer.
use Rattle.std.proofs.Common.{◌≡◌, ℕ, suc, ◌<◌, Bool, true, false, ◌&&◌, List, length}
use Rattle.std.proofs.Common.{take, Option, None, Some, Result, Ok, Err, arith, length-take}
use Rattle.std.proofs.Common.{refl, ◌==◌, nat_lt, ltb-true, if◌then◌else◌}
use Rattle.std.proofs.lemmas.Bool.{and_parts}
use Rattle.std.specs.Prelude.{nat_le, min}
use Rattle.h2_spec_log.specs.declared.refusal.Refusal.TheVariants.{Closed, Memory}
use Rattle.h2_spec_log.specs.declared.role.Role.{Role}
use Rattle.h2_spec_log.specs.Acts.{Values, SendFields, Count, Done, IsTypedAct}
use Rattle.h2_spec_log.specs.Histories.{IsLog, called_one}
use Rattle.h2_spec_log.specs.LogCalls.{MayAnswer}
use Rattle.h2_laws_end.proofs.OverNumbers.{fields_active}
use Rattle.h2_ends.specs.declared.refusal.EndRefusal.{EndRefusal}
use Rattle.h2_ends.specs.declared.refusal.EndRefusal.TheVariants as refusals
use Rattle.h2_ends.specs.Ends.{EndLog}
use Rattle.h2_ends.specs.EndCalls.{BodyWaits}
use Rattle.h2_ends.specs.Pumping.{end_after_call}
use Rattle.h2_ends.specs.Passes.{Halt, Stopped, Shares, PassesOver, Passes, numbers, share_act}
use Rattle.h2_ends.specs.Passes.{share_most, share_size, shares_octets, shares_some}
use Rattle.h2_ends.specs.Passes.{share_is_cut, shares_rest, shares_trailers, octets_refused}
use Rattle.h2_ends.specs.Passes.{list_refused, passes_no_more, passes_on, passes_halt}
use Rattle.h2_ends.specs.Passes.{passes_part, passes_round, end_with_turn}
unfoldable use Rattle.h2_ends.specs.Passes.{MayPumpSome}
unfoldable use Rattle.h2_laws_quiet.specs.Work.{tokens_on}
use Rattle.h2_laws_quiet.proofs.WorkOfEnds.{EndDrives, ends_none, ends_twice, octets_fall}
use Rattle.h2_laws_quiet.proofs.WorkOfEnds.{body_waits, some_length, fields_fall, refused_falls}

-- A share has one octet at least.
by_rest : (here : Bool) (rest most : ℕ) → 0 < most
    → 0 < (if here && nat_lt 0 rest then min rest most else most)
by_rest here rest most some = by_test (here && nat_lt 0 rest) refl
  where
    by_test : (b : Bool) → (here && nat_lt 0 rest) ≡ b → 0 < (if b then min rest most else most)
    by_test true is =
        let more : 0 < rest = ltb-true 0 rest (and_parts here (nat_lt 0 rest) is).1 in
        omega (arith, more, some)
    by_test false is = some

some_size : (end : EndLog) (most i : ℕ) → 0 < share_size end.turn most i
some_size end most i = by_rest (i == end.turn.id) end.turn.rest (share_most most) (omega arith)

module _ (role : Role) (values : Values) where
  -- Octets of a share, of one at least.
  share_falls : (end : EndLog) (most id sent : ℕ) (octets : List ℕ) (ends : Bool) → 0 < most
      → IsLog role values end.log → IsTypedAct (share_act most id octets ends)
      → BodyWaits end id octets ends
      → MayAnswer end.log (share_act most id octets ends) (Count sent)
      → EndDrives end (end_after_call end (share_act most id octets ends) (Count sent))
  share_falls end most id sent octets ends some is typed waits may =
      let all = some_length octets waits.some in
      let first = length-take most octets in
      let waiting = body_waits end id octets ends waits in
      octets_fall role values end id (take most octets) (ends && nat_le (length octets) most) sent
      is typed (λ none. omega (arith, none, all, first, some)) (omega (arith, first, waiting)) may

  -- One share.
  shares_fall : (most id : ℕ) → 0 < most → (end : EndLog) (count : ℕ) (halt : Option Halt)
      (after : EndLog) → Shares most id end count halt after → IsLog role values end.log
      → EndDrives end after
  shares_fall most id some _ _ _ _
      (shares_octets end octets ends sent typed waits may all more) is =
      share_falls end most id sent octets ends some is typed waits may
  shares_fall most id some _ _ _ _
      (shares_some end octets ends sent typed waits may fewer not_over) is =
      share_falls end most id sent octets ends some is typed waits may
  shares_fall most id some _ _ _ _
      (share_is_cut end octets ends sent typed waits may fewer over) is =
      share_falls end most id sent octets ends some is typed waits may
  shares_fall most id some _ _ _ after
      (shares_rest end octets halt _ typed waits may few rest) is =
      let act = share_act most id octets false in
      ends_twice end (end_after_call end act (Count (length octets))) after
      (share_falls end most id (length octets) octets false some is typed waits may)
      (shares_fall most id some (end_after_call end act (Count (length octets))) 0 halt after rest
      (called_one is act (Count (length octets)) typed may))
  shares_fall most id some _ _ _ _ (shares_trailers end list typed wait may) is =
      fields_fall role values end id list is typed (fields_active end.log id list true may) wait
      may
  shares_fall most id some _ _ _ _ (octets_refused end octets ends refusal typed waits may) is =
      refused_falls end (share_act most id octets ends) refusal may
  shares_fall most id some _ _ _ _ (list_refused end list refusal typed wait may) is =
      refused_falls end (SendFields id list true) refusal may

  -- The log after a share comes about.
  shares_come : (most id : ℕ) (end : EndLog) (count : ℕ) (halt : Option Halt) (after : EndLog)
      → Shares most id end count halt after → IsLog role values end.log
      → IsLog role values after.log
  shares_come most id _ _ _ _ (shares_octets end octets ends sent typed waits may all more) is =
      called_one is (share_act most id octets ends) (Count sent) typed may
  shares_come most id _ _ _ _
      (shares_some end octets ends sent typed waits may fewer not_over) is =
      called_one is (share_act most id octets ends) (Count sent) typed may
  shares_come most id _ _ _ _ (share_is_cut end octets ends sent typed waits may fewer over) is =
      called_one is (share_act most id octets ends) (Count sent) typed may
  shares_come most id _ _ _ after (shares_rest end octets halt _ typed waits may few rest) is =
      let act = share_act most id octets false in
      shares_come most id (end_after_call end act (Count (length octets))) 0 halt after rest
      (called_one is act (Count (length octets)) typed may)
  shares_come most id _ _ _ _ (shares_trailers end list typed wait may) is =
      called_one is (SendFields id list true) Done typed may
  shares_come most id _ _ _ _ (octets_refused end octets ends refusal typed waits may) is =
      called_one is (share_act most id octets ends) _ typed may
  shares_come most id _ _ _ _ (list_refused end list refusal typed wait may) is =
      called_one is (SendFields id list true) _ typed may

  module _ (sizes : ℕ → ℕ) (some : (i : ℕ) → 0 < sizes i) where
    -- The shares of a span,
    span_falls : (end : EndLog) (low high count : ℕ) (halt : Option (ℕ × Halt)) (after : EndLog)
        → PassesOver sizes end low high count halt after → IsLog role values end.log
        → EndDrives end after
    span_falls _ _ _ _ _ _ (passes_no_more end low high none) is = ends_none end
    span_falls _ _ _ _ _ after
        (passes_on end between low high id sent more halt _ first share rest) is =
        ends_twice end between after
        (shares_fall (sizes id) id (some id) end sent None between share is)
        (span_falls between (suc id) high more halt after rest
        (shares_come (sizes id) id end sent None between share is))
    span_falls _ _ _ _ _ after (passes_halt end low high id sent halt _ first share) is =
        shares_fall (sizes id) id (some id) end sent (Some halt) after share is

    span_comes : (end : EndLog) (low high count : ℕ) (halt : Option (ℕ × Halt)) (after : EndLog)
        → PassesOver sizes end low high count halt after → IsLog role values end.log
        → IsLog role values after.log
    span_comes _ _ _ _ _ _ (passes_no_more end low high none) is = is
    span_comes _ _ _ _ _ after
        (passes_on end between low high id sent more halt _ first share rest) is =
        span_comes between (suc id) high more halt after rest
        (shares_come (sizes id) id end sent None between share is)
    span_comes _ _ _ _ _ after (passes_halt end low high id sent halt _ first share) is =
        shares_come (sizes id) id end sent (Some halt) after share is

    -- and of a pass.
    pass_falls : (end : EndLog) (count : ℕ) (halt : Option (ℕ × Halt)) (after : EndLog)
        → Passes sizes end count halt after → IsLog role values end.log → EndDrives end after
    pass_falls end _ _ after (passes_part count id halt _ part) is =
        span_falls end end.turn.id numbers count (Some (id, halt)) after part is
    pass_falls end _ _ after (passes_round above below between halt _ one two) is =
        ends_twice end between after
        (span_falls end end.turn.id numbers above None between one is)
        (span_falls between 0 end.turn.id below halt after two
        (span_comes end end.turn.id numbers above None between one is))

  -- It doesn't matter with which stream the next pass begins.
  turned_falls : (end passed : EndLog) (halt : Option (ℕ × Halt)) → EndDrives end passed
      → EndDrives end (end_with_turn passed halt)
  unfolding tokens_on
  turned_falls end passed halt drives = record {
    gone = drives.gone;
    drives = drives.drives;
    tokens = drives.tokens;
    each = drives.each;
    same = drives.same;
  }

  -- So it is with `pump_some`, whatever it answers.
  pub pump_some_falls : (most : ℕ) (end after : EndLog) (result : Result ℕ EndRefusal)
      → MayPumpSome most end result after → IsLog role values end.log → EndDrives end after
  unfolding MayPumpSome
  pump_some_falls most end after (Ok count) (up, halt, passed, passes, calm, same) is =
      rw same (turned_falls end passed halt
      (pass_falls (share_size end.turn most) (some_size end most) end count halt passed passes is))
  pump_some_falls most end after (Err (refusals.Conn Closed)) (down, same) is =
      rw same (ends_none end)
  pump_some_falls most end after (Err (refusals.Conn Memory))
      (up, count, id, rest, passed, passes, same) is =
      rw same (turned_falls end passed (Some (id, Stopped Memory rest))
      (pass_falls (share_size end.turn most) (some_size end most) end count
      (Some (id, Stopped Memory rest)) passed passes is))
  pump_some_falls most end after (Err other) may is = absurd may
