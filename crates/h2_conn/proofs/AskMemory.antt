-- Calls that take no memory, and how many octets are kept at most.
use Rattle.h2_conn.proofs.Names.{◌≡◌, ◌≢◌, ◌∙◌, ◌+◌, ◌≤◌, ℕ, Bool, true, false, List, Option, Some}
use Rattle.h2_conn.proofs.Names.{None, is_some, Result, Err, refl, ap, sym, arith, Code, Refusal}
use Rattle.h2_conn.proofs.Names.{Memory, Values, returns_before_put_out, Log, log_view, View, End}
use Rattle.h2_conn.proofs.Names.{end_view, Represents, views_alike, CutterState, PartsFit}
use Rattle.h2_conn.proofs.Names.{IsSome, rules, Counts}
use Rattle.h2_spec_log.specs.declared.refusal.Refusal.TheVariants.{Closed}
use Rattle.h2_spec_log.specs.CallRules.{sends_no_data}

-- Whether credit is returned before output is put out is the same at a machine as at its log, by
-- whether the connection has failed.
returns_by : (values : Values) (e : End) (log : Log) (failed : Option Code) → e.failed ≡ failed
    → Represents values e log
    → returns_before_put_out (end_view e) ≡ returns_before_put_out (log_view log)
returns_by values e log (Some code) is represents = rw (sym represents.failed, is) refl
returns_by values e log None is represents =
    ap (λ (view : View). returns_before_put_out view) (views_alike values e log represents is)

pub returns_alike : (values : Values) (e : End) (log : Log) → Represents values e log
    → returns_before_put_out (end_view e) ≡ returns_before_put_out (log_view log)
returns_alike values e log represents = returns_by values e log e.failed refl represents

-- A call that sends nothing takes no memory, by whether the connection has failed.
nothing_by : (values : Values) (e : End) (log : Log) (id : ℕ) (octets : List ℕ) (end : Bool)
    (result : Result ℕ Refusal) (failed : Option Code) → e.failed ≡ failed
    → Represents values e log → (IsSome e.failed → result ≡ Err Closed)
    → (sends_no_data (end_view e) id octets end ≡ true → result ≢ Err Memory)
    → sends_no_data (log_view log) id octets end ≡ true → result ≢ Err Memory
nothing_by values e log id octets end result (Some code) is represents closed free none =
    search rules
nothing_by values e log id octets end result None is represents closed free none =
    free (ap (λ (view : View). sends_no_data view id octets end)
    (views_alike values e log represents is) ∙ none)

pub nothing_taken : (values : Values) (e : End) (log : Log) (id : ℕ) (octets : List ℕ) (end : Bool)
    (result : Result ℕ Refusal) → Represents values e log
    → (IsSome e.failed → result ≡ Err Closed)
    → (sends_no_data (end_view e) id octets end ≡ true → result ≢ Err Memory)
    → sends_no_data (log_view log) id octets end ≡ true → result ≢ Err Memory
nothing_taken values e log id octets end result represents closed free none =
    nothing_by values e log id octets end result e.failed refl represents closed free none

-- A head and the greatest payload that may be configured are kept at most.
held_by : (inside : Bool) (count greatest : ℕ) → (inside ≡ true → count ≤ 24)
    → (inside ≡ false → count ≤ 9 + greatest) → greatest ≤ 1048576 → count ≤ 1048585
held_by true count greatest few most within = omega (arith, few refl)
held_by false count greatest few most within = omega (arith, most refl, within)

pub none_of : (value : Option Code) → is_some value ≡ false → value ≡ None
none_of None is = refl
none_of (Some code) is = cc

pub held_at_most : {counts : Counts} (values : Values) (cutter : CutterState) (e : End) (log : Log)
    (count : ℕ)
    → PartsFit values cutter counts e log → log.failed ≡ None
    → (cutter.in_preface ≡ true → count ≤ 24)
    → (cutter.in_preface ≡ false → count ≤ 9 + cutter.greatest) → count ≤ 1048585
held_at_most values cutter e log count p up few most = search rules
