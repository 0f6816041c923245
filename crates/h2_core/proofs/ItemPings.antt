-- PING: whether it is the one that is awaited, as the code asks it, and the verdict on it.
use Rattle.h2_core.proofs.Names.{◌≡◌, ℕ, ◌+◌, ◌<◌, ◌≤◌, ◌==◌, not, Bool, true, false, if◌then◌else◌}
use Rattle.h2_core.proofs.Names.{List, [], ◌∷◌, length, Option, Some, None, refl, sym, ◌∙◌, arith}
use Rattle.h2_core.proofs.Names.{nat_tests, EnhanceYourCalm, Ping, alone, max_frame_size_sent}
use Rattle.h2_core.proofs.Names.{max_output, ConnectionFault, NoEvent, is_awaited_ping, End}
use Rattle.h2_core.proofs.Names.{end_view, verdict_by_rules, verdict_of, over_limits, replies_to}
use Rattle.std.proofs.Common.{nat_eq, nat_lt}
use Rattle.std.specs.Cmp.Lexicographic.{pointwise}
use Rattle.std.specs.Option.{option_eq}
use Rattle.hpack.specs.Choice.{same_octets}
use Rattle.h2_laws_log.proofs.ItemSizes.{size-ping}
use Rattle.hpack.proofs.Tests.{not_back as back}

-- Numbers are compared in either order.
eq_back : (x y : ℕ) → (x == y) ≡ nat_eq y x
eq_back x y = grind (arith, nat_tests)

-- Lists are.
compared : (xs ys : List ℕ) → same_octets xs ys ≡ pointwise nat_eq ys xs
compared [] [] = refl
compared [] (y ∷ ys) = refl
compared (x ∷ xs) [] = refl
compared (x ∷ xs) (y ∷ ys) = rw (compared xs ys, eq_back x y) refl

-- So is the awaited PING.
awaited : (octets : List ℕ) (ping : Option (List ℕ))
    → is_awaited_ping octets ping ≡ option_eq (pointwise nat_eq) ping (Some octets)
awaited octets None = refl
awaited octets (Some one) = compared octets one

-- It isn't the one that is awaited where they differ, and is where they don't.
pub awaited_is : (octets : List ℕ) (ping : Option (List ℕ)) (differs : Bool) {other : Bool}
    → other ≡ not (option_eq (pointwise nat_eq) ping (Some octets)) → other ≡ differs
    → is_awaited_ping octets ping ≡ not differs
awaited_is octets ping differs {other} is same =
    awaited octets ping ∙ back differs _ (sym same ∙ is)

-- A PING is too much where its answer would bring the output above its limit.
ping_verdict : (e : End) (octets : List ℕ) → length octets ≡ 8
    → verdict_of (end_view e) None (alone (Ping false octets))
    ≡ (if nat_lt max_output (length e.output.waiting + 17) then ConnectionFault EnhanceYourCalm
    else NoEvent)
unfolding verdict_of verdict_by_rules over_limits replies_to
ping_verdict e octets eight = rw (size-ping max_frame_size_sent true octets, eight) refl

pub ping_too_much : (e : End) (octets : List ℕ) → length octets ≡ 8
    → max_output < length e.output.waiting + 17
    → verdict_of (end_view e) None (alone (Ping false octets)) ≡ ConnectionFault EnhanceYourCalm
ping_too_much e octets eight much =
    let test : nat_lt max_output (length e.output.waiting + 17) ≡ true =
    grind (arith, nat_tests) in
    rw (ping_verdict e octets eight, test) refl

pub ping_answered : (e : End) (octets : List ℕ) → length octets ≡ 8
    → length e.output.waiting + 17 ≤ max_output
    → verdict_of (end_view e) None (alone (Ping false octets)) ≡ NoEvent
ping_answered e octets eight few =
    let test : nat_lt max_output (length e.output.waiting + 17) ≡ false =
    grind (arith, nat_tests) in
    rw (ping_verdict e octets eight, test) refl
