-- Which conditions hold where no rule is broken.
use Rattle.h2_message.proofs.Names.{◌≡◌, Bool, true, false, List, [], ◌∷◌, Option, None, Some, refl}
use Rattle.h2_message.proofs.Names.{◌⊎◌, inl, inr, sym, ap, ◌∙◌, AllByRecursion, Field}
use Rattle.h2_message.proofs.Names.{Malformed, first_broken, head_rules, response_head_rules}
use Rattle.h2_message.proofs.Names.{interim_rules, is_without_content, has_bad_status, is_interim}
use Rattle.h2_message.proofs.Names.{BreakNone}
use Rattle.std.specs.Prelude.{is_some, not, ◌||◌}

-- No condition of a rule holds.
abbrev pub NoneHold : List (Bool × Malformed) → Type 0
NoneHold rules = AllByRecursion (λ rule. rule.0 ≡ false) rules

pub none_hold : (rules : List (Bool × Malformed)) → BreakNone rules → NoneHold rules
unfolding first_broken
none_hold [] none = tt
none_hold ((true, rule) ∷ rules) none = cc
none_hold ((false, rule) ∷ rules) none = (refl, none_hold rules none)

pub none_broken : (rules : List (Bool × Malformed)) → NoneHold rules → BreakNone rules
unfolding first_broken
none_broken [] none = refl
none_broken ((true, rule) ∷ rules) none = let wrong : true ≡ false = none.0 in cc
none_broken ((false, rule) ∷ rules) none = none_broken rules none.1

-- What is not nothing is something.
pub some_not_none : {X : Type 0} (option : Option X) → (option ≡ None → ⊥)
    → is_some option ≡ true
some_not_none None other = absurd (other refl)
some_not_none (Some value) other = refl

-- Whether the rule that is found is one.
pub known_rule : (found rule : Option Malformed) (test : Bool) → test ≡ is_some found → found ≡ rule
    → is_some rule ≡ test
known_rule found rule test is same = ap is_some (sym same) ∙ sym is

-- Two tests that cannot fail together.
or_not : (bad interim : Bool) → (bad || interim) ≡ false → (bad || not interim) ≡ false → ⊥
or_not true interim none nothing = cc
or_not false true none nothing = cc
or_not false false none nothing = cc

-- the condition of a final head, and that of an interim one
pub final_status : (head : List Field) → BreakNone (response_head_rules head)
    → (has_bad_status head || is_interim head) ≡ false
unfolding response_head_rules head_rules
final_status head none = (none_hold (response_head_rules head) none).1.1.1.1.1.1.0

pub interim_status : (head : List Field) → BreakNone (interim_rules head)
    → (has_bad_status head || not (is_interim head)) ≡ false
unfolding interim_rules head_rules
interim_status head none = (none_hold (interim_rules head) none).1.1.1.1.1.1.0

-- No list is both a final head and an interim one.
pub not_both : (head : List Field) → BreakNone (response_head_rules head)
    → BreakNone (interim_rules head) → ⊥
not_both head final interim =
    or_not (has_bad_status head) (is_interim head) (final_status head final)
    (interim_status head interim)

-- Whether a response has no content: to HEAD, or by its status.
pub no_content : (to_head : Bool) (head : List Field)
    → ((to_head ≡ true) ⊎ (is_without_content false head ≡ true))
    → is_without_content to_head head ≡ true
unfolding is_without_content
no_content true head none = refl
no_content false head (inl none) = cc
no_content false head (inr none) = none

pub some_content : (to_head : Bool) (head : List Field) → to_head ≡ false
    → is_without_content false head ≡ false → is_without_content to_head head ≡ false
some_content to_head head final some = rw final some
