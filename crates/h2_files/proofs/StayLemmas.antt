-- No name that is answered leaves its folder.
use Rattle.std.proofs.Common.{◌≡◌, ℕ, ◌∷◌, Bool, true, false, List, []}
use Rattle.std.proofs.Common.{length, Option, Some, None, Result, Ok, Err, refl, sym, codes}
use Rattle.std.proofs.Common.{if◌then◌else◌, All, Contains, IfOk, eqb, ltb}
use Rattle.std.proofs.lemmas.List.Elements.{All-cons, All-nil}
use Rattle.std.proofs.lemmas.List.Folds.{list_any-from_Any}
use Rattle.std.specs.Char.{is_ascii_control}
use Rattle.std.specs.List.{list_any}
use Rattle.std.specs.Str.{byte, is_utf8}
use Rattle.h2_files.specs.declared.fault.PathFault.{PathFault}
use Rattle.h2_files.specs.declared.fault.PathFault.TheVariants as faults
use Rattle.h2_files.specs.Paths.{StaysInFolder, begins_with_dot, checked_name, is_separator}
use Rattle.h2_files.specs.Paths.{last_name_of, most_of_name, name_fault, name_of_segment}
use Rattle.h2_files.specs.Paths.{names_of_path, names_of_segments, segments}
use Rattle.h2_files.specs.Paths.{text_unless, with_name, are_escapes, GivesUnlessMemory}
use Rattle.percent_encoding.specs.Percent.{percent_decode}

-- Where there is no fault, no test has found one.
all_fail : (empty dot long separator control : Bool)
    → (if empty then Some faults.Empty else if dot then Some faults.Dot
    else if long then Some faults.LongName else if separator then Some faults.Separator
    else if control then Some faults.Control else None)
    ≡ None
    → (empty ≡ false) × (dot ≡ false) × (separator ≡ false) × (control ≡ false)
all_fail true dot long separator control none = absurd (cc)
all_fail false true long separator control none = absurd (cc)
all_fail false false true separator control none = absurd (cc)
all_fail false false false true control none = absurd (cc)
all_fail false false false false true none = absurd (cc)
all_fail false false false false false none = (refl, refl, refl, refl)

-- Where something is answered, a test that refuses has failed.
none_refused : {X : Type 0} (test : Bool) (fault : PathFault) (more : Result X PathFault) (x : X)
    → (if test then Err fault else more) ≡ Ok x → more ≡ Ok x
none_refused true fault more x read = absurd (cc)
none_refused false fault more x read = read

-- Where something is answered, a test without which all is refused holds.
accepted : {X : Type 0} (test : Bool) (fault : PathFault) (more : Result X PathFault) (x : X)
    → (if test then more else Err fault) ≡ Ok x → more ≡ Ok x
accepted true fault more x read = read
accepted false fault more x read = absurd (cc)

-- An element that passes is found.
found : (p : ℕ → Bool) (xs : List ℕ) (x : ℕ) → list_any p xs ≡ false → p x ≡ true
    → Contains xs x → ⊥
found p xs x none passes has =
    let any : list_any p xs ≡ true =
    list_any-from_Any p xs (has.0, x, has.1, has.2, passes) in
    absurd (cc)

-- A name without a fault stays in its folder.
stays : (name : List ℕ) → name_fault name ≡ None → StaysInFolder name
unfolding name_fault
stays name none =
    let failed = all_fail (eqb (length name) 0) (begins_with_dot name)
    (ltb most_of_name (length name)) (list_any is_separator name)
    (list_any is_ascii_control name) none in
    record {
      some = λ empty. let wrong : true ≡ false = rw empty at failed.0 in absurd (cc);
      no_dot = λ dot. let wrong : true ≡ false = rw dot at failed.1 in absurd (cc);
      no_parent = λ dots. let wrong : true ≡ false = rw dots at failed.1 in absurd (cc);
      no_slash = found is_separator name (byte "/") failed.2 refl;
      no_nul = found is_ascii_control name 0 failed.3 refl;
    }

-- A text that is answered is what was read, without a fault.
text_stays : (fault : Option PathFault) (octets name : List ℕ)
    → text_unless fault octets ≡ Ok name → (fault ≡ None) × (octets ≡ name)
text_stays (Some fault) octets name read = absurd (cc)
text_stays None octets name read =
    let same : Ok octets ≡ Ok name = accepted (is_utf8 octets) _ (Ok octets) name read in
    (refl, cc)

-- A name that is answered stays in its folder.
name_stays : (segment name : List ℕ) → name_of_segment segment ≡ Ok name → StaysInFolder name
unfolding name_of_segment checked_name
name_stays segment name read =
    let checked : text_unless (name_fault (percent_decode segment)) (percent_decode segment)
    ≡ Ok name = accepted (are_escapes 0 segment) _ _ name read in
    let parts = text_stays _ _ _ checked in
    rw (sym parts.1) (stays (percent_decode segment) parts.0)

-- The index stays in its folder.
index_stays : StaysInFolder (codes "index.html")
unfolding name_fault
index_stays = stays (codes "index.html") refl

-- one of two names is answered
either_name : (test : Bool) (segment name : List ℕ)
    → (if test then Ok (codes "index.html") else name_of_segment segment) ≡ Ok name
    → StaysInFolder name
either_name true segment name read =
    let same : codes "index.html" ≡ name = cc in rw (sym same) index_stays
either_name false segment name read = name_stays segment name read

-- The last name stays in its folder.
last_stays : (segment name : List ℕ) → last_name_of segment ≡ Ok name → StaysInFolder name
unfolding last_name_of
last_stays segment name read = either_name (eqb (length segment) 0) segment name read

-- A name and those after it that are answered.
both_named : (first : Result (List ℕ) PathFault) (rest : Result (List (List ℕ)) PathFault)
    (names : List (List ℕ)) → with_name first rest ≡ Ok names
    → ((name : List ℕ) → first ≡ Ok name → StaysInFolder name)
    → ((more : List (List ℕ)) → rest ≡ Ok more → All StaysInFolder more)
    → All StaysInFolder names
both_named (Ok name) (Ok more) names read one others =
    let same : name ∷ more ≡ names = cc in
    rw (sym same) (All-cons StaysInFolder name more (one name refl) (others more refl))
both_named (Ok name) (Err fault) names read one others = absurd (cc)
both_named (Err fault) rest names read one others = absurd (cc)

-- No names stay.
none_stays : (more : List (List ℕ))
    → ◌≡◌ {A = Result (List (List ℕ)) PathFault} (Ok []) (Ok more) → All StaysInFolder more
none_stays more read =
    let same : [] ≡ more = cc in rw (sym same) (All-nil StaysInFolder)

-- The names of segments stay in their folders.
pub all_stay : (parts names : List (List ℕ)) → names_of_segments parts ≡ Ok names
    → All StaysInFolder names
all_stay [] names read = none_stays names read
all_stay (segment ∷ []) names read =
    both_named (last_name_of segment) (Ok []) names read (last_stays segment)
    none_stays
all_stay (segment ∷ next ∷ more) names read =
    both_named (name_of_segment segment) (names_of_segments (next ∷ more)) names read
    (name_stays segment) (all_stay (next ∷ more))

-- The names of a path stay in their folders.
pub path_stays : (path : List ℕ) (names : List (List ℕ)) → names_of_path path ≡ Ok names
    → All StaysInFolder names
unfolding names_of_path
path_stays [] names read = absurd (cc)
path_stays (first ∷ rest) names read =
    all_stay (segments rest) names
    (accepted (eqb first 47) _ _ names (none_refused _ _ _ names read))

-- What is answered stays.
pub answer_stays : {X : Type 0} (view : X → List (List ℕ)) (answer : Result X PathFault)
    (path : List ℕ) → GivesUnlessMemory view answer (names_of_path path)
    → IfOk answer (λ x. All StaysInFolder (view x))
answer_stays view (Ok x) path read = path_stays path (view x) read
answer_stays view (Err fault) path read = tt
