-- An item that is no fault keeps an end without faults, whatever waits of its output within the
-- bound of a pair.
use Rattle.h2_frame.specs.declared.code.Code.TheVariants.{EnhanceYourCalm}
use Rattle.h2_spec_log.specs.Limits.{max_output}
use Rattle.h2_spec_log.specs.ItemRules.{over_limits}
use Rattle.h2_laws_log.proofs.ItemSizes.{size_of, size-ack, size-ping}
use Rattle.h2_laws_pair.proofs.Names
use Names.{◌≡◌, ℕ, ◌+◌, ◌≤◌, nat_lt, ◌&&◌, Bool, true, false, if◌then◌else◌, List, [], ◌∷◌, Option}
use Names.{None, refl, ap, ◌∙◌, arith, inl, inr, AllByRecursion, both_ways, le-ltb, Code, Reset}
use Names.{Settings, Ping, Item, alone, Act, Answer, encoding_of_items, max_frame_size_sent, Log}
use Names.{waiting, log_view, View, Verdict, ConnectionFault, StreamFault, NoEvent, Reported}
use Names.{is_fault, Decoded, replies_to, verdict_by_rules, verdict_of, FrameStep, fails_with}
use Names.{begins_block, completes, events_of, read, with_sent, with_unreturned, with_step}
use Names.{IsSendable, grows_wrote, grows_with_unreturned, rules}
use Rattle.h2_laws_pair.proofs.Lists.{all_mapped, first_in}
use Rattle.h2_laws_pair.proofs.FrameSteps.{FailsBy, with_item, kept_by_step}
use Rattle.h2_laws_pair.proofs.FaultsInvariant.{IsAsked, IsHeard, heard_later, LogIsClean}
use Rattle.h2_laws_pair.proofs.FaultsInvariant.{clean_sent, clean_unreturned, clean_reported}

-- What is replied to nothing has no octets.
none_small : size_of max_frame_size_sent [] ≤ 17
unfolding encoding_of_items
none_small = omega arith

-- PING has eight octets.
ping_small : (octets : List ℕ) → IsSendable max_frame_size_sent (alone (Ping false octets))
    → size_of max_frame_size_sent (alone (Ping true octets) ∷ []) ≤ 17
ping_small octets (standalone, sound, typed, small) =
    omega (arith, size-ping max_frame_size_sent true octets, typed)

-- A reply to an item that is no fault has no more octets than the answer to a PING.
reply_small : (verdict : Verdict) (item : Item) → is_fault verdict ≡ false
    → IsSendable max_frame_size_sent item
    → size_of max_frame_size_sent (replies_to verdict item) ≤ 17
unfolding replies_to
reply_small (ConnectionFault code) item sound sendable = absurd (both_ways true sound refl)
reply_small (StreamFault code) item sound sendable = absurd (both_ways true sound refl)
reply_small NoEvent (alone (Settings false pairs)) sound sendable =
    omega (arith, size-ack max_frame_size_sent)
reply_small NoEvent (alone (Ping false octets)) sound sendable = ping_small octets sendable
reply_small verdict item sound sendable = none_small

-- Where the reply stays below the limit, the limit changes nothing.
below_limit : (some above : Bool) (verdict : Verdict) → above ≡ false
    → (if some && above then ConnectionFault EnhanceYourCalm else verdict) ≡ verdict
below_limit true above verdict none = rw none refl
below_limit false above verdict none = refl

limits_change_nothing : (resets waits size : ℕ) (verdict : Verdict) → is_fault verdict ≡ false
    → waits ≤ 210000 → size ≤ 17 → over_limits resets waits size verdict ≡ verdict
unfolding over_limits
limits_change_nothing resets waits size (ConnectionFault code) sound low small =
    absurd (both_ways true sound refl)
limits_change_nothing resets waits size (StreamFault code) sound low small =
    absurd (both_ways true sound refl)
limits_change_nothing resets waits size verdict sound low small =
    below_limit (nat_lt 0 size) (nat_lt max_output (waits + size)) verdict
    (le-ltb max_output (waits + size) (omega (arith, low, small)))

-- So the verdict is that of the rules.
verdict_is : (view : View) (decoded : Option Decoded) (item : Item)
    → is_fault (verdict_by_rules view decoded item) ≡ false → view.waiting ≤ 210000
    → IsSendable max_frame_size_sent item
    → verdict_of view decoded item ≡ verdict_by_rules view decoded item
unfolding verdict_of
verdict_is view decoded item sound low sendable =
    limits_change_nothing view.resets view.waiting _ (verdict_by_rules view decoded item) sound low
    (reply_small (verdict_by_rules view decoded item) item sound sendable)

-- What is replied to such an item is no reset.
replies_asked : (calls : List (Act × Answer)) (verdict : Verdict) (item : Item)
    → is_fault verdict ≡ false → AllByRecursion (IsAsked calls) (replies_to verdict item)
unfolding replies_to IsAsked
replies_asked calls (ConnectionFault code) item sound = absurd (both_ways true sound refl)
replies_asked calls (StreamFault code) item sound = absurd (both_ways true sound refl)
replies_asked calls NoEvent (alone (Settings false pairs)) sound = (tt, tt)
replies_asked calls NoEvent (alone (Ping false octets)) sound = (tt, tt)
replies_asked calls verdict item sound = tt

-- What is reported of it is no stream fault, and a reset is the item.
events_heard : (view : View) (decoded : Option Decoded) (verdict : Verdict) (item : Item)
    (items : List Item) → is_fault verdict ≡ false
    → AllByRecursion (IsHeard (item ∷ items)) (events_of view decoded verdict item)
unfolding events_of IsHeard
events_heard view decoded (ConnectionFault code) item items sound =
    absurd (both_ways true sound refl)
events_heard view decoded (StreamFault code) item items sound = absurd (both_ways true sound refl)
events_heard view decoded Reported (alone (Reset stream code)) items sound =
    (first_in (alone (Reset stream code)) items, tt)
events_heard view decoded verdict item items sound = search rules

-- After an item that is no fault, what is replied to it, what is due, and its events.
read_clean : (log : Log) (decoded : Option Decoded) (item : Item) (verdict : Verdict) (more : ℕ)
    → is_fault verdict ≡ false → LogIsClean log
    → LogIsClean (with_item log decoded item verdict more)
read_clean log decoded item verdict more sound clean =
    let start = read log decoded item in
    let replies = replies_to verdict item in
    let sent = with_sent start replies in
    let begun : LogIsClean start = record {
      up = clean.up;
      heard = all_mapped (IsHeard log.received) (IsHeard (item ∷ log.received)) log.reported
          (heard_later item log.received) clean.heard;
      asked = clean.asked;
    } in
    clean_reported (with_unreturned more sent) _
    (rw ((grows_with_unreturned more sent).received, (grows_wrote start replies).received)
    (events_heard (log_view log) decoded verdict item log.received sound))
    (clean_unreturned more sent (clean_sent start replies
    (replies_asked log.calls verdict item sound) begun))

-- What a frame makes is no fault.
abbrev pub IsSoundStep : (log : Log) (decoded : Option Decoded) → FrameStep → Type 0
IsSoundStep log decoded (fails_with code) = ⊥
IsSoundStep log decoded (begins_block begun) = Unit {0}
IsSoundStep log decoded (completes item) =
    (is_fault (verdict_by_rules (log_view (record log { begun = None })) decoded item) ≡ false)
    × IsSendable max_frame_size_sent item × (waiting (record log { begun = None }) ≤ 210000)

-- An item is none by its verdict then.
sound_verdict : (log : Log) (decoded : Option Decoded) (item : Item)
    → IsSoundStep log decoded (completes item)
    → is_fault (verdict_of (log_view (record log { begun = None })) decoded item) ≡ false
sound_verdict log decoded item (sound, sendable, low) =
    ap is_fault (verdict_is (log_view (record log { begun = None })) decoded item sound low
    sendable) ∙ sound

-- So the connection doesn't fail.
no_fault : (log : Log) (decoded : Option Decoded) (step : FrameStep) (code : Code)
    → IsSoundStep log decoded step → FailsBy (record log { begun = None }) decoded step code → ⊥
no_fault log decoded step code sound (inl fails) = rw fails at sound
no_fault log decoded step code sound (inr (item, completed, is)) =
    both_ways true (rw is at (sound_verdict log decoded item (rw completed at sound))) refl

-- So the end stays without faults.
pub step_clean : (log : Log) (decoded : Option Decoded) (step : FrameStep)
    → IsSoundStep log decoded step → LogIsClean log → LogIsClean (with_step log decoded step)
step_clean log decoded step sound clean =
    kept_by_step LogIsClean log decoded step (record {
      failed = λ begun code last fails. absurd (no_fault log decoded step code sound fails);
      begun = λ begun same. clean;
      read = λ item verdict more completed same none.
          read_clean (record log { begun = None }) decoded item verdict more
          (rw same at (sound_verdict log decoded item (rw completed at sound))) clean;
    })
