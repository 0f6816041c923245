-- What a scan says of the method and the path of a request.
use Rattle.h2_message.proofs.Names.{◌≡◌, ℕ, not, ◌&&◌, Bool, true, false, if◌then◌else◌, List}
use Rattle.h2_message.proofs.Names.{codes, Option, Some, None, refl, sym, ap, ◌∙◌, option_map}
use Rattle.h2_message.proofs.Names.{option_eq, unwrap_or, bytes_eq, true≢false, bytes_eq-Decides}
use Rattle.h2_message.proofs.Names.{sameb, Path, method_class, path_class, is_token, is_token_octet}
use Rattle.h2_message.proofs.Names.{is_bad_method, is_bad_path, begins_with_slash, or_nothing}
use Rattle.h2_message.specs.declared.classes.Method.{Method}
use Rattle.h2_message.specs.declared.classes.Method.TheVariants as methods
use Rattle.h2_message.specs.declared.classes.Path.TheVariants as paths
use Rattle.h2_message.specs.contracts.classes.Method.{the_type}
use Rattle.h2_message.specs.contracts.classes.MethodPartialEq.TheImpl.{eq-value}

-- the method of three tests
abbrev by-tests : (bad head options : Bool) → Method
by-tests bad head options =
    if bad then methods.Bad else if head then methods.Head
    else if options then methods.Options else methods.Other

bad-by : (bad head options : Bool) → sameb the_type (by-tests bad head options) methods.Bad ≡ bad
bad-by true head options = refl
bad-by false true options = refl
bad-by false false true = refl
bad-by false false false = refl

head-by : (bad head options : Bool) → (head ≡ true → bad ≡ false)
    → eq-value.it (by-tests bad head options) methods.Head ≡ head
head-by true true options good = absurd (true≢false (good refl))
head-by true false options good = refl
head-by false true options good = refl
head-by false false true good = refl
head-by false false false good = refl

options-by : (bad head options : Bool) → (options ≡ true → bad ≡ false)
    → (options ≡ true → head ≡ false)
    → eq-value.it (by-tests bad head options) methods.Options ≡ options
options-by true head true good other = absurd (true≢false (good refl))
options-by true head false good other = refl
options-by false true true good other = absurd (true≢false (other refl))
options-by false true false good other = refl
options-by false false true good other = refl
options-by false false false good other = refl

-- A scan's method is bad where the value of `:method` is.
pub bad-method : (value : Option (List ℕ)) (method : Option Method) (was : Method) (answer : Bool)
    → method ≡ option_map method_class value → was ≡ unwrap_or method methods.Bad
    → answer ≡ sameb the_type was methods.Bad → answer ≡ is_bad_method (or_nothing value)
unfolding method_class is_bad_method is_token or_nothing
bad-method None method was answer is kept says =
    says ∙ ap (λ (m : Method). sameb the_type m methods.Bad)
    (kept ∙ ap (λ (m : Option Method). unwrap_or m methods.Bad) is)
bad-method (Some value) method was answer is kept says =
    says ∙ (ap (λ (m : Method). sameb the_type m methods.Bad)
    (kept ∙ ap (λ (m : Option Method). unwrap_or m methods.Bad) is)
    ∙ bad-by (is_bad_method value) (bytes_eq value (codes "HEAD"))
    (bytes_eq value (codes "OPTIONS")))

-- A value that is a text has the tests of that text.
is-text : (test : List ℕ → Bool) (value text : List ℕ) → test text ≡ false
    → bytes_eq value text ≡ true → test value ≡ false
is-text test value text fails is = ap test ((bytes_eq-Decides value text).0 is) ∙ fails

-- A scan's method is HEAD where the value of `:method` is.
pub head-method : (value : Option (List ℕ)) (method : Option Method) (answer : Bool)
    → method ≡ option_map method_class value
    → answer ≡ option_eq eq-value.it method (Some methods.Head)
    → answer ≡ bytes_eq (or_nothing value) (codes "HEAD")
unfolding method_class is_bad_method is_token is_token_octet or_nothing
head-method None method answer is says =
    says ∙ ap (λ (m : Option Method). option_eq eq-value.it m (Some methods.Head)) is
head-method (Some value) method answer is says =
    says ∙ (ap (λ (m : Option Method). option_eq eq-value.it m (Some methods.Head)) is
    ∙ head-by (is_bad_method value) (bytes_eq value (codes "HEAD"))
    (bytes_eq value (codes "OPTIONS")) (is-text is_bad_method value (codes "HEAD") refl))

-- A scan's method is OPTIONS where the value of `:method` is.
pub options-method : (value : Option (List ℕ)) (method : Option Method)
    → method ≡ option_map method_class value
    → option_eq eq-value.it method (Some methods.Options)
    ≡ bytes_eq (or_nothing value) (codes "OPTIONS")
unfolding method_class is_bad_method is_token is_token_octet or_nothing
options-method None method is =
    ap (λ (m : Option Method). option_eq eq-value.it m (Some methods.Options)) is
options-method (Some value) method is =
    ap (λ (m : Option Method). option_eq eq-value.it m (Some methods.Options)) is
    ∙ options-by (is_bad_method value) (bytes_eq value (codes "HEAD"))
    (bytes_eq value (codes "OPTIONS")) (is-text is_bad_method value (codes "OPTIONS") refl)
    (is-text (λ v. bytes_eq v (codes "HEAD")) value (codes "OPTIONS") refl)

-- the path of two tests
abbrev path-by : (slash star : Bool) → Path
path-by slash star = if slash then paths.Slash else if star then paths.Asterisk else paths.Bad

slash-by : (slash star options : Bool) → path-by slash star ≡ paths.Slash
    → (not slash && not (star && options)) ≡ false
slash-by true star options is = refl
slash-by false true options is = absurd cc
slash-by false false options is = absurd cc

star-by : (slash star options : Bool) → path-by slash star ≡ paths.Asterisk
    → (not slash && not (star && options)) ≡ not options
star-by true star options is = absurd cc
star-by false true options is = refl
star-by false false options is = absurd cc

none-by : (slash star options : Bool) → path-by slash star ≡ paths.Bad
    → (not slash && not (star && options)) ≡ true
none-by true star options is = absurd cc
none-by false true options is = absurd cc
none-by false false options is = refl

-- A path that begins with a slash is one.
pub slash-path : (method : List ℕ) (value : Option (List ℕ)) (path : Option Path) (was : Path)
    → path ≡ option_map path_class value → was ≡ unwrap_or path paths.Bad → was ≡ paths.Slash
    → is_bad_path method (or_nothing value) ≡ false
unfolding path_class is_bad_path or_nothing
slash-path method None path was is kept slash = absurd cc
slash-path method (Some value) path was is kept slash =
    slash-by (begins_with_slash value) (bytes_eq value (codes "*"))
    (bytes_eq method (codes "OPTIONS"))
    (sym (ap (λ (p : Option Path). unwrap_or p paths.Bad) is) ∙ (sym kept ∙ slash))

-- An asterisk is one of OPTIONS.
pub star-path : (method : List ℕ) (value : Option (List ℕ)) (path : Option Path) (was : Path)
    → path ≡ option_map path_class value → was ≡ unwrap_or path paths.Bad → was ≡ paths.Asterisk
    → is_bad_path method (or_nothing value) ≡ not (bytes_eq method (codes "OPTIONS"))
unfolding path_class is_bad_path or_nothing
star-path method None path was is kept star = absurd cc
star-path method (Some value) path was is kept star =
    star-by (begins_with_slash value) (bytes_eq value (codes "*"))
    (bytes_eq method (codes "OPTIONS"))
    (sym (ap (λ (p : Option Path). unwrap_or p paths.Bad) is) ∙ (sym kept ∙ star))

-- Any other path is none.
pub no-path : (method : List ℕ) (value : Option (List ℕ)) (path : Option Path) (was : Path)
    → path ≡ option_map path_class value → was ≡ unwrap_or path paths.Bad → was ≡ paths.Bad
    → is_bad_path method (or_nothing value) ≡ true
unfolding path_class is_bad_path begins_with_slash or_nothing
no-path method None path was is kept none = refl
no-path method (Some value) path was is kept none =
    none-by (begins_with_slash value) (bytes_eq value (codes "*"))
    (bytes_eq method (codes "OPTIONS"))
    (sym (ap (λ (p : Option Path). unwrap_or p paths.Bad) is) ∙ (sym kept ∙ none))
