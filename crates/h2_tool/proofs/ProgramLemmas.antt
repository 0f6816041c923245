-- Words that begin with no command's name have a fault.
use Rattle.std.proofs.Common.{◌≡◌, ◌≢◌, ℕ, Bool, true, false, List, [], ◌∷◌, refl, sym, subst}
use Rattle.std.proofs.Common.{Option, Some, None, if◌then◌else◌, codes, length}
use Rattle.std.specs.Prelude.{slice_get, zero, option_map, ◌||◌}
use Rattle.std.specs.Str.{bytes_eq, chars}
use Rattle.std.specs.Option.{option_map_or}
use Rattle.std.proofs.lemmas.Bool.{false_from_ne_true}
use Rattle.std.proofs.lemmas.Slice.Eq.{bytes_eq-Decides}
use Rattle.clap.specs.Words.{App, Kinds, Rule, Shape, Text, built, fault_of}
use Rattle.clap.specs.Kinds.{or_else}
use Rattle.clap.specs.Faults.{built_fault, bundle_fault, bundle_step_fault, flag_word_fault}
use Rattle.clap.specs.Faults.{flags_fault, long_fault, other_fault, short_fault, step_fault}
use Rattle.clap.specs.Faults.{walk_fault}
use Rattle.clap.specs.Lexer.{long_of, short_of}
use Rattle.clap.specs.Simple.{filled, help_rule, names_of, version_rule, with_index}
use Rattle.clap.specs.Walk.{Held, Names, Step, after_flag, bundle_met, bundle_step, idle}
use Rattle.clap.specs.Walk.{long_or_other, nothing_held, plain, short_or_plain, subcommand_met}
use Rattle.clap.specs.Walk.{subcommand_or_other, trailing, walk_from}
use Rattle.clap.specs.declared.error.kind.ErrorKind.{ErrorKind}
use Rattle.clap.proofs.OnLiterals.{clap_on_literals}
use Rattle.h2_args.specs.Commands.{ShowNames, SideNames, program_app}
use Rattle.h2_args.specs.Words.{ProgramWordsPass}
use Rattle.h2_tool.specs.Commands.{NamesNoCommand}

-- Of two faults one is there.
some_kind : {kind : ErrorKind} {kinds : Kinds} → kind ∷ kinds ≡ [] → ⊥
some_kind none = cc

first_there : (one two : Kinds) → (one ≡ [] → ⊥) → or_else one two ≡ [] → ⊥
first_there [] two there none = there refl
first_there (kind ∷ kinds) two there none = some_kind none

-- The program as it is built, whose own arguments ask for help and the version.
abbrev program : ShowNames → SideNames → App
program shown replayed = built (program_app shown replayed)

abbrev names : ShowNames → SideNames → Names
names shown replayed = names_of (program shown replayed)

abbrev help : Rule
help = with_index 1 (filled help_rule)

abbrev version : Rule
version = with_index 1 (filled version_rule)

abbrev rules : List Rule
rules = help ∷ version ∷ []

abbrev one_of_both : Bool → Bool → Option Rule
one_of_both is_help is_version =
    if is_help then Some help else (if is_version then Some version else None)

-- So has each option,
long_there : (is_help is_version : Bool) (value : Option Text)
    → long_fault rules false (one_of_both is_help is_version) value nothing_held ≡ [] → ⊥
long_there true is_version None none = some_kind none
long_there true is_version (Some value) none = some_kind none
long_there false true None none = some_kind none
long_there false true (Some value) none = some_kind none
long_there false false value none = some_kind none

short_there : (is_help is_version : Bool) (rest : Text) (next : Held → Kinds)
    → short_fault rules false (one_of_both is_help is_version) rest nothing_held next ≡ [] → ⊥
short_there true is_version rest next none = some_kind none
short_there false true rest next none = some_kind none
short_there false false rest next none = some_kind none

-- the command that a word names, by its tests
abbrev one_met : (show replay serve get loop host help : Bool) → Option Text
one_met show replay serve get loop host help = option_map (λ (one : Text × List Text). one.0)
    (if show || false then Some (codes "show", [])
    else (if replay || false then Some (codes "replay", [])
    else (if serve || false then Some (codes "serve", [])
    else (if get || false then Some (codes "get", [])
    else (if loop || false then Some (codes "loop", [])
    else (if host || false then Some (codes "host", [])
    else (if help || false then Some (codes "help", []) else None)))))))

abbrev met_by : (is_help : Bool) → Option Text
met_by is_help = if is_help then Some (codes "help") else None

met_last : (is_help : Bool) → one_met false false false false false false is_help ≡ met_by is_help
met_last true = refl
met_last false = refl

met_none : (show replay serve get loop host is_help : Bool) → show ≡ false → replay ≡ false
    → serve ≡ false → get ≡ false → loop ≡ false → host ≡ false
    → one_met show replay serve get loop host is_help ≡ met_by is_help
met_none show replay serve get loop host is_help a b c d e f =
    rw (a, b, c, d, e, f) (met_last is_help)

no_name : (name word : Text) → word ≢ name → bytes_eq name word ≡ false
no_name name word other = false_from_ne_true (bytes_eq name word)
    (λ same. other (sym ((bytes_eq-Decides name word).0 same)))

module _ (shown : ShowNames) (replayed : SideNames) where
  abbrev top : Shape
  top = (program shown replayed).top

  abbrev fault_after : Kinds → Held × Step → Kinds
  fault_after before met = or_else before (step_fault top 1 met.0 met.1)

  flags_there : (first : Option ℕ) (word flags : Text) (most : ℕ)
      → fault_after
      (bundle_step_fault rules false first flags zero nothing_held (flags_fault rules false most))
      (after_flag rules idle word
      (bundle_step rules first flags zero plain nothing_held (bundle_met rules most)).0
      (bundle_step rules first flags zero plain nothing_held (bundle_met rules most)).1) ≡ [] → ⊥
  flags_there None word flags most none = some_kind none
  flags_there (Some first) word flags most none =
      first_there _ _ (short_there _ _ _ (flags_fault rules false most _ 0)) none

  shorts_there : (flags : Option Text) (word : Text)
      → fault_after (option_map_or (λ one. bundle_fault rules false one nothing_held) flags [])
      (short_or_plain rules idle word flags nothing_held) ≡ [] → ⊥
  unfolding clap_on_literals
  shorts_there None word none = some_kind none
  shorts_there (Some []) word none = some_kind none
  shorts_there (Some (octet ∷ octets)) word none =
      flags_there (slice_get (chars (octet ∷ octets)) 0) word (octet ∷ octets) (length octets) none

  longs_there : (long : Option (Text × Option Text)) (word : Text)
      → fault_after (flag_word_fault rules false long word nothing_held)
      (long_or_other rules idle word long nothing_held) ≡ [] → ⊥
  longs_there None word none = shorts_there (short_of word) word none
  longs_there (Some long) word none = first_there _ _ (long_there _ _ long.1) none

  -- and each other word but `--`,
  abbrev fault_of_word : (met : Option Text) (word : Text) → Kinds
  fault_of_word met word = fault_after (other_fault top met word nothing_held)
      (subcommand_or_other rules met idle 1 word nothing_held)

  abbrev fault_by_dashes : (dashes : Bool) (word : Text) → Kinds
  fault_by_dashes dashes word = fault_after
      (if dashes then [] else flag_word_fault rules false (long_of word) word nothing_held)
      (if dashes then (nothing_held, trailing 1)
      else long_or_other rules idle word (long_of word) nothing_held)

  word_there : (is_help : Bool) (word : Text) → bytes_eq word (45 ∷ 45 ∷ []) ≡ false
      → fault_of_word (met_by is_help) word ≡ [] → ⊥
  word_there true word other none = some_kind none
  word_there false word other none =
      longs_there (long_of word) word
      (subst (λ (dashes : Bool). fault_by_dashes dashes word ≡ []) other none)

  met_so : (word : Text) → word ≢ codes "show" → word ≢ codes "replay" → word ≢ codes "serve"
      → word ≢ codes "get" → word ≢ codes "loop" → word ≢ codes "host"
      → subcommand_met (names shown replayed) idle word
      ≡ met_by (bytes_eq (codes "help") word)
  met_so word a b c d e f =
      met_none _ _ _ _ _ _ (bytes_eq (codes "help") word) (no_name _ word a) (no_name _ word b)
      (no_name _ word c) (no_name _ word d) (no_name _ word e) (no_name _ word f)

  -- behind which a word has a fault, and without which a command lacks.
  dashes_there : (rest : List Text)
      → built_fault (program shown replayed) nothing_held ((45 ∷ 45 ∷ []) ∷ rest) ≡ [] → ⊥
  unfolding clap_on_literals
  dashes_there [] none = some_kind none
  dashes_there (word ∷ rest) none = some_kind none

  none_there : fault_of (program_app shown replayed) [] ≡ [] → ⊥
  unfolding clap_on_literals
  none_there none = some_kind none

  walk_there : (word : Text) (rest : List Text) → bytes_eq word (45 ∷ 45 ∷ []) ≡ false
      → subcommand_met (names shown replayed) idle word ≡ met_by (bytes_eq (codes "help") word)
      → walk_fault top (names shown replayed) (walk_from nothing_held) (word ∷ rest) ≡ [] → ⊥
  unfolding clap_on_literals
  walk_there word rest other met none =
      first_there (fault_of_word (subcommand_met (names shown replayed) idle word) word) _
      (λ turn. word_there (bytes_eq (codes "help") word) word other
      (subst (λ (one : Option Text). fault_of_word one word ≡ []) met turn)) none

  words_there : (dashes : Bool) (word : Text) (rest : List Text)
      → bytes_eq word (45 ∷ 45 ∷ []) ≡ dashes
      → subcommand_met (names shown replayed) idle word ≡ met_by (bytes_eq (codes "help") word)
      → fault_of (program_app shown replayed) (word ∷ rest) ≡ [] → ⊥
  words_there true word rest is met none =
      let same = (bytes_eq-Decides word (45 ∷ 45 ∷ [])).0 is in
      let fault = λ (one : Text). built_fault (program shown replayed) nothing_held (one ∷ rest) in
      dashes_there rest (subst (λ (one : Text). fault one ≡ []) same none)
  words_there false word rest is met none =
      first_there (walk_fault top (names shown replayed) (walk_from nothing_held) (word ∷ rest)) _
      (walk_there word rest is met) none

  words_fail : (word : Text) (rest : List Text) → word ≢ codes "show"
      → word ≢ codes "replay" → word ≢ codes "serve" → word ≢ codes "get" → word ≢ codes "loop"
      → word ≢ codes "host" → fault_of (program_app shown replayed) (word ∷ rest) ≢ []
  words_fail word rest a b c d e f none =
      words_there (bytes_eq word (45 ∷ 45 ∷ [])) word rest refl (met_so word a b c d e f) none

-- So words that name no command never pass.
pub never_pass : (words : List Text) → NamesNoCommand words → ProgramWordsPass words → ⊥
never_pass [] none passes = none_there passes.0 passes.1 passes.4
never_pass (word ∷ rest) none passes =
    words_fail passes.0 passes.1 word rest none.0 none.1.0 none.1.1.0 none.1.1.1.0 none.1.1.1.1.0
    none.1.1.1.1.1 passes.4
