-- The segments of a path, one after another.
use Rattle.std.proofs.Common.{◌≡◌, ℕ, ◌<◌, ◌+◌, Bool, true, false, List, [], ◌∷◌, ◌++◌, length}
use Rattle.std.proofs.Common.{not}
use Rattle.std.proofs.Common.{Result, Ok, Err, refl, sym, ap, ◌∙◌, arith, append_assoc, cond}
use Rattle.std.proofs.lemmas.List.Splits.{length-slice_split, slice_split_first}
use Rattle.std.specs.List.{before_first, after_first, position_or_len, slice_split}
use Rattle.h2_files.specs.Cuts.{is_octet}
use Rattle.h2_files.specs.declared.fault.PathFault.{PathFault}
use Rattle.h2_files.specs.Paths.{name_of_segment, last_name_of, names_of_segments, segments}
use Rattle.h2_files.specs.declared.fault.PathFault.TheVariants as faults
use Rattle.h2_files.specs.Paths.{IsFaultOrMemory, with_name}

-- names before those that are read, unless there is a fault
abbrev pub with_front :
    List (List ℕ) → Result (List (List ℕ)) PathFault → Result (List (List ℕ)) PathFault
with_front front (Ok names) = Ok (front ++ names)
with_front front (Err fault) = Err fault

-- Without names before them they are what is read.
pub with_no_front : (read : Result (List (List ℕ)) PathFault) → with_front [] read ≡ read
with_no_front (Ok names) = refl
with_no_front (Err fault) = refl

-- A name that is read first stands after those before.
pub front_and_name : (front : List (List ℕ)) (name : List ℕ)
    (read : Result (List (List ℕ)) PathFault)
    → with_front front (with_name (Ok name) read) ≡ with_front (front ++ (name ∷ [])) read
front_and_name front name (Ok names) = rw append_assoc refl
front_and_name front name (Err fault) = refl

-- A segment that others follow gives its name, and they give theirs.
before_others : (segment : List ℕ) (parts : List (List ℕ)) → 0 < length parts
    → names_of_segments (segment ∷ parts)
    ≡ with_name (name_of_segment segment) (names_of_segments parts)
before_others segment [] some = absurd (omega arith)
before_others segment (part ∷ parts) some = refl

-- Where there is a slash: the name of what stands before it, and those of what stands after.
pub names_divided : (octets : List ℕ)
    → position_or_len (is_octet 47) octets < length octets
    → names_of_segments (segments octets)
    ≡ with_name (name_of_segment (before_first (is_octet 47) octets))
    (names_of_segments (segments (after_first (is_octet 47) octets)))
names_divided octets within =
    let rest = after_first (is_octet 47) octets in
    ap names_of_segments (slice_split_first (is_octet 47) octets 0 within)
    ∙ before_others _ (segments rest) (omega (arith, length-slice_split (is_octet 47) rest))

-- a first element that does not pass, and one that does
first_fails : (test : Bool) (places count : ℕ) → cond (not test) (1 + places) 0 ≡ 1 + count
    → (test ≡ false) × (places ≡ count)
first_fails true places count is = absurd (omega arith)
first_fails false places count is = (refl, omega arith)

-- Where no element passes, there is one part.
one_part : (p : ℕ → Bool) (xs : List ℕ) → position_or_len p xs ≡ length xs
    → slice_split p xs ≡ xs ∷ []
one_part p [] none = refl
one_part p (x ∷ xs) none =
    let parts = first_fails (p x) (position_or_len p xs) (length xs) (omega (arith, none)) in
    rw (parts.0, one_part p xs parts.1) refl

-- Without a slash: the name of the last segment.
pub name_undivided : (octets : List ℕ) → position_or_len (is_octet 47) octets ≡ length octets
    → names_of_segments (segments octets) ≡ with_name (last_name_of octets) (Ok [])
name_undivided octets none = ap names_of_segments (one_part (is_octet 47) octets none)

-- A segment that is read stands after the names so far.
pub segment_read : (front : List (List ℕ)) (octets segment after name : List ℕ)
    (all : Result (List (List ℕ)) PathFault)
    → (position_or_len (is_octet 47) octets < length octets)
    × (segment ≡ before_first (is_octet 47) octets) × (after ≡ after_first (is_octet 47) octets)
    → name_of_segment segment ≡ Ok name
    → with_front front (names_of_segments (segments octets)) ≡ all
    → with_front (front ++ (name ∷ [])) (names_of_segments (segments after)) ≡ all
segment_read front octets segment after name all divided read known =
    let rest = names_of_segments (segments after) in
    let whole : names_of_segments (segments octets) ≡ with_name (Ok name) rest =
    names_divided octets divided.0
    ∙ ap (λ s. with_name (name_of_segment s)
    (names_of_segments (segments (after_first (is_octet 47) octets)))) (sym divided.1)
    ∙ ap (λ s. with_name (name_of_segment segment) (names_of_segments (segments s)))
    (sym divided.2)
    ∙ ap (λ r. with_name r rest) read in
    sym (front_and_name front name rest) ∙ ap (with_front front) (sym whole) ∙ known

-- The first segment that is refused is the fault of all.
pub segment_refused : (front : List (List ℕ)) (octets segment : List ℕ) (fault : PathFault)
    (all : Result (List (List ℕ)) PathFault)
    → position_or_len (is_octet 47) octets < length octets
    → segment ≡ before_first (is_octet 47) octets
    → with_front front (names_of_segments (segments octets)) ≡ all
    → name_of_segment segment ≡ Err fault → all ≡ Err fault
segment_refused front octets segment fault all within first known refused =
    let rest = names_of_segments (segments (after_first (is_octet 47) octets)) in
    let whole : names_of_segments (segments octets) ≡ with_name (Err fault) rest =
    names_divided octets within
    ∙ ap (λ s. with_name (name_of_segment s) rest) (sym first)
    ∙ ap (λ r. with_name r rest) refused in
    sym known ∙ ap (with_front front) whole

-- The last segment is read after the names so far.
pub last_read : (front : List (List ℕ)) (octets name : List ℕ)
    (all : Result (List (List ℕ)) PathFault)
    → position_or_len (is_octet 47) octets ≡ length octets → last_name_of octets ≡ Ok name
    → with_front front (names_of_segments (segments octets)) ≡ all
    → all ≡ Ok (front ++ (name ∷ []))
last_read front octets name all none read known =
    let whole : names_of_segments (segments octets) ≡ with_name (Ok name) (Ok []) =
    name_undivided octets none ∙ ap (λ r. with_name r (Ok [])) read in
    sym known ∙ ap (with_front front) whole

-- The last segment is refused.
pub last_refused : (front : List (List ℕ)) (octets : List ℕ) (fault : PathFault)
    (all : Result (List (List ℕ)) PathFault)
    → position_or_len (is_octet 47) octets ≡ length octets
    → with_front front (names_of_segments (segments octets)) ≡ all
    → last_name_of octets ≡ Err fault → all ≡ Err fault
last_refused front octets fault all none known refused =
    let whole : names_of_segments (segments octets) ≡ with_name (Err fault) (Ok []) =
    name_undivided octets none ∙ ap (λ r. with_name r (Ok [])) refused in
    sym known ∙ ap (with_front front) whole

-- The fault of a part is that of all where it is not for memory.
pub fault_given : {X Y : Type 0} (fault : PathFault) (part : Result X PathFault)
    (all : Result Y PathFault) → IsFaultOrMemory fault part
    → (part ≡ Err fault → all ≡ Err fault) → IsFaultOrMemory fault all
fault_given faults.Memory part all given goes = tt
fault_given faults.TooLong part all given goes = goes given
fault_given faults.NotAbsolute part all given goes = goes given
fault_given faults.BadEscape part all given goes = goes given
fault_given faults.Control part all given goes = goes given
fault_given faults.NotText part all given goes = goes given
fault_given faults.Empty part all given goes = goes given
fault_given faults.Dot part all given goes = goes given
fault_given faults.Separator part all given goes = goes given
fault_given faults.LongName part all given goes = goes given
