-- A response of which so much is kept isn't whole.
use Rattle.h2_engines.proofs.Names.{◌≡◌, ℕ, Bool, false, List, [], ◌∷◌, ◌++◌, refl, Field, Part}
use Rattle.h2_engines.proofs.Names.{FieldsPart, Coming, HasCome, interims_alone, head_and_body}
use Rattle.h2_engines.proofs.Names.{interim_parts, data_parts_of, ends_message}
use Rattle.std.proofs.Common.{map as each}

-- No part ends the stream.
unfoldable GoOn : List (Part × Bool) → Type 0
GoOn [] = Unit {0}
GoOn ((part, end) ∷ parts) = (end ≡ false) × GoOn parts

go_on_both : (one two : List (Part × Bool)) → GoOn one → GoOn two → GoOn (one ++ two)
unfolding GoOn
go_on_both [] two first second = second
go_on_both ((part, end) ∷ one) two first second =
    (first.0, go_on_both one two first.1 second)

interims_go_on : (interims : List (List Field)) → GoOn (interim_parts interims)
unfolding GoOn
interims_go_on [] = tt
interims_go_on (list ∷ interims) = (refl, interims_go_on interims)

data_go_on : (data_parts : List (List ℕ)) → GoOn (data_parts_of data_parts)
unfolding GoOn
data_go_on [] = tt
data_go_on (octets ∷ data_parts) = (refl, data_go_on data_parts)

none_ends : (parts : List (Part × Bool)) → GoOn parts → ends_message parts ≡ false
unfolding GoOn ends_message
none_ends [] goes = refl
none_ends ((part, end) ∷ []) goes = goes.0
none_ends ((part, end) ∷ (next ∷ parts)) goes = none_ends (next ∷ parts) goes.1

body_goes_on : (head : List Field) (data_parts : List (List ℕ))
    → GoOn ((FieldsPart head, false) ∷ data_parts_of data_parts)
unfolding GoOn
body_goes_on head data_parts = (refl, data_go_on data_parts)

pub come_not_whole : {coming : Coming} {parts : List (Part × Bool)} → HasCome coming parts
    → ends_message parts ≡ false
come_not_whole {coming} (interims_alone are no_head no_body no_trailers) =
    none_ends _ (interims_go_on (each (λ list. list.items) coming.interims.items))
come_not_whole {coming} (head_and_body are head data_parts head_is body_is no_trailers) =
    none_ends _ (go_on_both _ _ (interims_go_on (each (λ list. list.items) coming.interims.items))
    (body_goes_on head data_parts))
