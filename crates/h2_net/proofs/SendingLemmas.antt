-- What sending octets that are held makes of all that a link has taken.
use Rattle.std.proofs.Common.{◌≡◌, ◌≤◌, ℕ, List, [], ◌++◌, length, take, Option}
use Rattle.std.proofs.Common.{Result, Ok, Err, IsErr, refl, sym, ap, ◌∙◌, subst, le_refl, take_all}
use Rattle.std.proofs.Common.{drop_of_length-le, take-append-drop}
use Rattle.std.specs.Io.KnownBytes.{Appends, Keeps, append_known}
use Rattle.std.proofs.KnownBytes.{Appends-kept, Keeps-refl, append_known-moved}
use Rattle.std.proofs.KnownBytes.{append_known-grown}
use Rattle.h2_link.specs.declared.link.LinkFault.{LinkFault}
use Rattle.h2_link.specs.Links.{Takes, TakesFirst}
use Rattle.h2_net.specs.StreamLinks.{SendsFirst}

-- octets that were all sent are first ones, and none is left
pub all_sent : (before after : Option (List ℕ)) (held held_now : List ℕ)
    → Appends before after held → held_now ≡ [] → SendsFirst before after held held_now
all_sent before after held held_now sent none =
    let all = take_all (length held) held (le_refl (length held)) in
    record {
      count = length held;
      within = le_refl (length held);
      sent = subst (Appends before after) (sym all) sent;
      unsent = none ∙ sym (drop_of_length-le held (le_refl (length held)));
    }

-- what is sent of what is held stays taken
pub sent_is_taken : (before after : Option (List ℕ)) (held held_now : List ℕ)
    → SendsFirst before after held held_now
    → Keeps (append_known before held) (append_known after held_now)
sent_is_taken before after held held_now sends =
    let both = sym (take-append-drop sends.count held)
    ∙ ap (λ l. take sends.count held ++ l) (sym sends.unsent) in
    append_known-moved before after (take sends.count held) held_now held sends.sent both

-- octets that were added to what is held are taken, where some of it all is sent then
pub held_is_taken : (before after : Option (List ℕ)) (held added held_now : List ℕ)
    → SendsFirst before after (held ++ added) held_now
    → Appends (append_known before held) (append_known after held_now) added
held_is_taken before after held added held_now sends =
    let known = append_known before held in
    let grown
    = append_known-grown known before held (held ++ added) added (Keeps-refl known) refl in
    Appends-kept known (append_known before (held ++ added)) (append_known after held_now) added
    grown (sent_is_taken before after (held ++ added) held_now sends)

-- a write whose octets are held, and which then could not send them, has taken them
pub takes_held : (before after : Option (List ℕ)) (held grown held_now octets : List ℕ)
    (count : ℕ) (result : Result ℕ LinkFault) → IsErr result → count ≤ length octets
    → grown ≡ held ++ take count octets → SendsFirst before after grown held_now
    → Takes (append_known before held) (append_known after held_now) result octets
takes_held before after held grown held_now octets count (Ok value) failed within grows sends =
    absurd (cc)
takes_held before after held grown held_now octets count (Err fault) failed within grows sends =
    let both = subst (λ l. SendsFirst before after l held_now) grows sends in (
      count,
      record {
        within = within;
        took = held_is_taken before after held (take count octets) held_now both;
      },
    )

-- octets that were sent where none are held are taken
pub sent_directly : (before after : Option (List ℕ)) (held octets : List ℕ) (count : ℕ)
    → held ≡ [] → count ≤ length octets → Appends before after (take count octets)
    → TakesFirst (append_known before held) (append_known after held) octets count
sent_directly before after held octets count none within sent =
    rw none (record {
      within = within;
      took = held_is_taken before after [] (take count octets) []
          (all_sent before after (take count octets) [] sent refl);
    })
