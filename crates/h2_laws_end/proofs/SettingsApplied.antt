-- SETTINGS that are read are at fault, or acknowledged; other items are replied to with nothing
-- that changes the encoder.
use Rattle.h2_laws_end.proofs.Names.{◌≡◌, Bool, true, false, Option, Some, None, refl, list_any}
use Rattle.h2_laws_end.proofs.Names.{both_ways, Code, Settings, Ping, Item, alone, View, Verdict}
use Rattle.h2_laws_end.proofs.Names.{ConnectionFault, StreamFault, NoEvent, Reported, Decoded}
use Rattle.h2_laws_end.proofs.Names.{verdict_of_fault, settings_fault, verdict_of, replies_to}
use Rattle.h2_laws_end.proofs.Names.{verdict_by_rules, changes_encoder}
use Rattle.h2_laws_end.proofs.ReadVerdicts.{by_limits}

-- Whether an item is SETTINGS to be acknowledged.
abbrev pub is_settings : Item → Bool
is_settings (alone (Settings false pairs)) = true
is_settings item = false

-- Replies change no encoder, but to SETTINGS.
pub replies_stay : (verdict : Verdict) (item : Item) → is_settings item ≡ false
    → list_any changes_encoder (replies_to verdict item) ≡ false
unfolding replies_to changes_encoder
replies_stay NoEvent (alone (Settings false pairs)) other = absurd (both_ways true other refl)
replies_stay NoEvent (alone (Ping false octets)) other = refl
replies_stay verdict item other = refl

-- SETTINGS are at fault, or acknowledged.
abbrev pub IsApplied : Verdict → Item → Type 0
IsApplied (ConnectionFault code) item = Unit {0}
IsApplied NoEvent item = Unit {0}
IsApplied (StreamFault code) item = is_settings item ≡ false
IsApplied Reported item = is_settings item ≡ false

other_applied : (verdict : Verdict) (item : Item) → is_settings item ≡ false
    → IsApplied verdict item
other_applied (ConnectionFault code) item other = tt
other_applied NoEvent item other = tt
other_applied (StreamFault code) item other = other
other_applied Reported item other = other

settings_applied : (fault : Option Code) (item : Item) → IsApplied (verdict_of_fault fault) item
settings_applied (Some code) item = tt
settings_applied None item = tt

rules_applied : (view : View) (decoded : Option Decoded) (item : Item)
    → IsApplied (verdict_by_rules view decoded item) item
unfolding verdict_by_rules
rules_applied view decoded (alone (Settings false pairs)) =
    settings_applied (settings_fault view pairs) (alone (Settings false pairs))
rules_applied view decoded item = other_applied (verdict_by_rules view decoded item) item refl

pub verdict_applied : (view : View) (decoded : Option Decoded) (item : Item)
    → IsApplied (verdict_of view decoded item) item
verdict_applied view decoded item =
    by_limits (λ verdict. IsApplied verdict item) view decoded item tt
    (rules_applied view decoded item)
