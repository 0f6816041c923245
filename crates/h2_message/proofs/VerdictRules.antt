-- Which rules a scan says that a list breaks.
use Rattle.h2_message.proofs.Names
use Names.{◌≡◌, ℕ, ◌+◌, ◌<◌, ◌≤◌, not, ◌||◌, Bool, true, false, cond, List, length, drop, get_or}
use Names.{codes, Some, None, refl, sym, ap, ◌∙◌, list_any, is_some, or-false, drop_of_length-le}
use Names.{drop_more, Field, Request, Response, Malformed, Scan, method_class, path_class}
use Names.{status_class, is_named, lacks_pseudo, required_names, first_broken, IsScan, HasPseudo}
use Rattle.h2_message.proofs.ScanPseudo.{kept-any}

three-lack : (a b c : Bool)
    → ((not a || not b) || not c) ≡ (not a || (not b || (not c || false)))
three-lack false b c = refl
three-lack true false c = refl
three-lack true true true = refl
three-lack true true false = refl

regrouped : (a b c d e f : Bool) → a ≡ d → b ≡ e → c ≡ f
    → ((not a || not b) || not c) ≡ (not d || (not e || (not f || false)))
regrouped a b c d e f one two three = rw (one, two, three) (three-lack d e f)

-- A request lacks a pseudo-field where a scan of it does.
pub lacks-request : (fields : List Field) (scan : Scan) → IsScan Request fields scan
    → ((not (is_some scan.method) || not scan.scheme) || not (is_some scan.path))
    ≡ lacks_pseudo Request fields
unfolding lacks_pseudo required_names HasPseudo
lacks-request fields scan seen =
    regrouped (is_some scan.method) scan.scheme (is_some scan.path)
    (list_any (is_named (codes ":method")) fields) (list_any (is_named (codes ":scheme")) fields)
    (list_any (is_named (codes ":path")) fields)
    (kept-any method_class (codes ":method") fields scan.method seen.has_pseudo.method)
    seen.has_pseudo.scheme
    (kept-any path_class (codes ":path") fields scan.path seen.has_pseudo.path)

-- A response lacks it where a scan of it does.
pub lacks-response : (fields : List Field) (scan : Scan) → IsScan Response fields scan
    → not (is_some scan.status) ≡ lacks_pseudo Response fields
unfolding lacks_pseudo required_names HasPseudo
lacks-response fields scan seen =
    ap not (kept-any status_class (codes ":status") fields scan.status seen.has_pseudo.status)
    ∙ sym (or-false (not (list_any (is_named (codes ":status")) fields)))

-- A rule that is broken is the first one of the rest.
pub broken-here : (rules : List (Bool × Malformed)) (index : ℕ) (other : Bool × Malformed)
    → index < length rules → (get_or rules index other).0 ≡ true
    → first_broken (drop index rules) ≡ first_broken rules
    → Some (get_or rules index other).1 ≡ first_broken rules
unfolding first_broken
broken-here rules index other within holds so_far =
    sym (ap (λ (b : Bool). cond b (Some (get_or rules index other).1)
    (first_broken (drop (index + 1) rules))) holds)
    ∙ (sym (ap first_broken (drop_more rules index other within)) ∙ so_far)

-- One that is not broken is passed over.
pub broken-later : (rules : List (Bool × Malformed)) (index : ℕ) (other : Bool × Malformed)
    → index < length rules → (get_or rules index other).0 ≡ false
    → first_broken (drop index rules) ≡ first_broken rules
    → first_broken (drop (index + 1) rules) ≡ first_broken rules
unfolding first_broken
broken-later rules index other within fails so_far =
    sym (ap (λ (b : Bool). cond b (Some (get_or rules index other).1)
    (first_broken (drop (index + 1) rules))) fails)
    ∙ (sym (ap first_broken (drop_more rules index other within)) ∙ so_far)

-- None is broken at the end.
pub none-broken : (rules : List (Bool × Malformed)) (index : ℕ) → length rules ≤ index
    → first_broken (drop index rules) ≡ first_broken rules → None ≡ first_broken rules
unfolding first_broken
none-broken rules index past so_far = sym (ap first_broken (drop_of_length-le rules past)) ∙ so_far

-- Twice not is so.
pub not-twice : (b : Bool) → not (not b) ≡ b
not-twice true = refl
not-twice false = refl
