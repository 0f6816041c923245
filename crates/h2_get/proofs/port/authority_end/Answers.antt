-- The first octet that ends the authority, or the end of the URL.
use Rattle.std.proofs.Common.{◌≡◌, ◌∙◌, ℕ, ◌+◌, List, length, drop, Option, Some, None, ap, subst}
use Rattle.std.proofs.Common.{position, unwrap_or, option_map}
use Rattle.std.proofs.lemmas.List.{take_rest}
use Rattle.std.specs.Prelude.{min}
use Rattle.h2_get.specs.Ports.{authority_end, ends_authority}
use Rattle.h2_get.proofs.port.authority_end.Goals as goal

-- the end, by where the search begins and what it finds
end_by : (url : List ℕ) (start : ℕ) (found : Option ℕ) → start ≡ min 7 (length url)
    → found ≡ position ends_authority (drop start url)
    → unwrap_or (option_map (λ place. start + place) found) (length url) ≡ authority_end url
end_by url start found begins finds = subst
    (λ (n : ℕ). unwrap_or (option_map (λ place. start + place) found) (length url)
    ≡ unwrap_or (option_map (λ place. n + place) (position ends_authority (drop n url)))
    (length url)) begins
    (ap (λ (o : Option ℕ). unwrap_or (option_map (λ place. start + place) o) (length url)) finds)

pub returns-in-Some-clause-end : goal.returns-in-Some-clause-end
returns-in-Some-clause-end c =
    end_by c.args.url.now c.min-start.result (Some c.in-Some.place) c.min-start.ensures
    (c.in-Some.ensures ∙ ap (position ends_authority) (take_rest c.args.url.now c.min-start.result))

pub returns-in-None-clause-end : goal.returns-in-None-clause-end
returns-in-None-clause-end c =
    end_by c.args.url.now c.min-start.result None c.min-start.ensures
    (c.in-None.ensures ∙ ap (position ends_authority) (take_rest c.args.url.now c.min-start.result))
