-- The numbers of errors, as belkjoef.h has them.
use Rattle.std.specs.Prelude.{ℕ, ℤ, pos, negsuc, Result, Ok, Err}
use Rattle.h2_spec_log.specs.declared.refusal.Refusal.{Refusal}
use Rattle.h2_spec_log.specs.declared.refusal.Refusal.TheVariants as refusals
use Rattle.h2_flow.specs.declared.config.BadConfig.{BadConfig}
use Rattle.h2_flow.specs.declared.config.BadConfig.TheVariants as configs
use Rattle.h2_message.specs.declared.malformed.Malformed.{Malformed}
use Rattle.h2_message.specs.declared.malformed.Malformed.TheVariants as rules
use Rattle.h2_ends.specs.declared.refusal.EndRefusal.{EndRefusal}
use Rattle.h2_ends.specs.declared.refusal.EndRefusal.TheVariants as ends

abbrev pub ok : ℤ
ok = pos 0

-- -1: the place holds nothing
abbrev pub empty : ℤ
empty = negsuc 0

-- -2: it holds one already
abbrev pub held : ℤ
held = negsuc 1

-- -3: the call is of the other role
abbrev pub other_role : ℤ
other_role = negsuc 2

-- -4: the connection has failed
abbrev pub failed : ℤ
failed = negsuc 3

-- -5: there is no such field
abbrev pub no_field : ℤ
no_field = negsuc 4

-- -6: there is none
abbrev pub none : ℤ
none = negsuc 5

-- -7: no error code has the number
abbrev pub bad_code : ℤ
bad_code = negsuc 6

-- -30, of C10: the field list is too large
abbrev pub list_too_large : ℤ
list_too_large = negsuc 29

-- -71, of P1: the octets are no field block
abbrev pub compression : ℤ
compression = negsuc 70

-- -72, of P3: an earlier block failed
abbrev pub broken : ℤ
broken = negsuc 71

-- -32, of C12: memory was refused
abbrev pub no_memory : ℤ
no_memory = negsuc 31

-- -11 to -14, of K1 to K4
-- rule: c (own) Each error has its number
abbrev pub config_number : BadConfig → ℤ
config_number configs.TableLimit = negsuc 10
config_number configs.InitialWindow = negsuc 11
config_number configs.MaxStreams = negsuc 12
config_number configs.MaxFrame = negsuc 13

-- -21 to -34, of C1 to C14
-- rule: c (own) Each error has its number
abbrev pub refusal_number : Refusal → ℤ
refusal_number refusals.Closed = negsuc 20
refusal_number refusals.NoSuchStream = negsuc 21
refusal_number refusals.Ended = negsuc 22
refusal_number refusals.TooManyStreams = negsuc 23
refusal_number refusals.StreamsExhausted = negsuc 24
refusal_number refusals.GoingAway = negsuc 25
refusal_number refusals.OutputFull = negsuc 26
refusal_number refusals.PingWaits = negsuc 27
refusal_number refusals.TooManyResets = negsuc 28
refusal_number refusals.ListTooLarge = negsuc 29
refusal_number refusals.NotOwed = negsuc 30
refusal_number refusals.Memory = negsuc 31
refusal_number refusals.SettingsWait = negsuc 32
refusal_number refusals.WindowTooLarge = negsuc 33

-- -41 to -52, of M1 to M12
-- rule: c (own) Each error has its number
abbrev pub rule_number : Malformed → ℤ
rule_number rules.BadName = negsuc 40
rule_number rules.BadValue = negsuc 41
rule_number rules.PseudoPlace = negsuc 42
rule_number rules.PseudoUnknown = negsuc 43
rule_number rules.PseudoTwice = negsuc 44
rule_number rules.PseudoMissing = negsuc 45
rule_number rules.BadMethod = negsuc 46
rule_number rules.BadPath = negsuc 47
rule_number rules.BadStatus = negsuc 48
rule_number rules.ConnectionField = negsuc 49
rule_number rules.BadLength = negsuc 50
rule_number rules.BadOrder = negsuc 51

-- those, and -61 and -62, of E3 and E4
-- rule: c (own) Each error has its number
abbrev pub end_number : EndRefusal → ℤ
end_number (ends.BadMessage rule) = rule_number rule
end_number (ends.Conn refusal) = refusal_number refusal
end_number ends.NotAsked = negsuc 60
end_number ends.Answered = negsuc 61

-- 0, or the number of the refusal
abbrev pub answer_number : {A : Type 0} → Result A Refusal → ℤ
answer_number (Ok value) = ok
answer_number (Err refusal) = refusal_number refusal

abbrev pub end_answer_number : {A : Type 0} → Result A EndRefusal → ℤ
end_answer_number (Ok value) = ok
end_answer_number (Err refusal) = end_number refusal

-- how many, which is 0 where it was refused
abbrev pub count_in : {E : Type 0} → Result ℕ E → ℕ
count_in (Ok count) = count
count_in (Err refusal) = 0
