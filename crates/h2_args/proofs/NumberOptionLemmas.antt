-- What a parse gives an option of a number, by what clap reads of the command.
use Rattle.h2_args.proofs.Names.{◌≡◌, ◌∙◌, ◌<◌, ◌≤◌, ℕ, Bool, true, refl, sym, ap, subst, arith}
use Rattle.h2_args.proofs.Names.{inl, inr, List, [], ◌∷◌, length, Option, Some, None}
use Rattle.h2_args.proofs.Names.{slice_index_or, bytes_eq, ParsesUnsigned, digits_value}
use Rattle.h2_args.proofs.Names.{without_leading_plus, pos, unwrap_or, Result, Ok, ◌^◌}
use Rattle.h2_args.proofs.Names.{bytes_eq-Decides, App, IsParsedFrom, Row, Rule, Text, Accepts}
use Rattle.h2_args.proofs.Names.{app_of, args_of, found_of, one_of, one_text, read_as, reading_of}
use Rattle.h2_args.proofs.Names.{rows_of, rule_of, ReadsOne, without_minus, IsAuto, Arg, Command}
use Rattle.h2_args.proofs.Names.{ValueParser, Signed, ArgMatches, Found, signed_reads}
use Rattle.h2_args.proofs.Names.{one_text-rows, number_option_rule}
use Rattle.std.proofs.Common.{option_map}
use Rattle.std.specs.List.{All}
use Rattle.std.specs.Borrow.{Bor}
use Rattle.std.specs.Prelude.{IfSome, slice_get}
use Rattle.std.proofs.lemmas.List.Elements.{All-get_or}
use Rattle.clap.specs.Words.{SameRules, groups_of, matched_of, parser_of}
use Rattle.clap.specs.Facts.{Entry, EntryPasses, HasReading, PassesArg, ValuesPass, parser_of_value}
use Rattle.clap.specs.declared.builder.value_parser.Reading.{Reading}
use Rattle.clap.specs.declared.parser.matches.MatchedArg.{MatchedArg}
use Rattle.clap.proofs.CallerLemmas.{entry_by_id, same_rules_by_id}
use Rattle.h2_args.specs.Words.{number_if, number_or}
use Rattle.h2_args.proofs.RequiredLemmas.{IsAlone, IsNamedAt, head, inside, named, own, plain, rule}
use Rattle.h2_args.proofs.RequiredLemmas.{simple, unique}

-- the argument at a place
abbrev arg_at : Command → ℕ → Arg → Arg
arg_at c k d = slice_index_or (args_of c) k d

-- the first value of an entry is one that passed
first_passed : (P : Bor Text → Type 0) (how : Reading) (vs : List (Bor Text)) (u : Text) → All P vs
    → option_map (λ s. read_as how s.now) (slice_get vs 0) ≡ Some u
    → (v : Bor Text) × (u ≡ read_as how v.now) × P v
first_passed P how [] u all first = cc
first_passed P how (v ∷ vs) u all first =
    let same : read_as how v.now ≡ u = cc in
    (v, sym same, All-get_or P (v ∷ vs) 0 v (omega arith) all)

-- so it is read as the entry says
first_read : (P Q : Text → Type 0) (how : Reading) (x : MatchedArg) (u : Text)
    → All (λ v. P v.now) x.vals.items
    → option_map (λ s. read_as x.reading s.now) (slice_get x.vals.items 0) ≡ Some u
    → x.reading ≡ how → ((v : Text) → P v → Q v) → (t : Text) × (u ≡ read_as how t) × Q t
first_read P Q how x u all first reading accepts =
    let (v, is, passed) = first_passed (λ v. P v.now) x.reading x.vals.items u all first in
    (v.now, is ∙ ap (λ (r : Reading). read_as r v.now) reading, accepts v.now passed)

-- what the parser of the built argument accepts, that of the caller's accepts
accepted : (a built : Arg) (q : ValueParser) (t : Text) → SameRules a built
    → a.value_parser ≡ Some q → Accepts built.ignore_case (parser_of built) t
    → Accepts a.ignore_case q t
accepted a built q t same parser accepts =
    let is : parser_of built ≡ q = ap parser_of_value (same.parser q parser) in
    subst (λ (b : Bool). Accepts b q t) same.ignore_case
    (subst (λ (w : ValueParser). Accepts built.ignore_case w t) is accepts)

-- an argument of the caller's, whose id no other argument has
record IsOne (old : Command) (k : ℕ) (d : Arg) : Type 0 where
  inside : k < length (args_of old)
  unique : (j : ℕ) (f : Arg) → j < length (args_of old)
      → bytes_eq (slice_index_or (args_of old) j f).id.now
      (arg_at old k d).id.now ≡ true → j ≡ k
  named : (arg_at old k d).id.now ≡ [] → ⊥
  own : IsAuto (arg_at old k d) → ⊥

-- a value of the entry of such an argument is one that its parser accepts
passed_accepted : (old : Command) (m : ArgMatches) (p : IsParsedFrom old m) (k : ℕ) (d : Arg)
    → IsOne old k d → (q : ValueParser)
    → (arg_at old k d).value_parser ≡ Some q → (v : Text)
    → PassesArg p.built (arg_at old k d).id.now v
    → Accepts (arg_at old k d).ignore_case q v
passed_accepted old m p k d one q parser v pass =
    accepted _ pass.1 q v
    (same_rules_by_id old m p k d one.inside one.unique one.own pass.0 pass.1 pass.2 pass.3
    pass.4.0) parser pass.4.1

-- and it is read as its parser says
read_by : (old : Command) (m : ArgMatches) (p : IsParsedFrom old m) (k : ℕ) (d : Arg)
    → IsOne old k d → (q : ValueParser)
    → (arg_at old k d).value_parser ≡ Some q → (how : Reading)
    → HasReading p.built (arg_at old k d).id.now how → how ≡ reading_of q
read_by old m p k d one q parser how any =
    let same =
    same_rules_by_id old m p k d one.inside one.unique one.own any.0 any.1 any.2 any.3 any.4.0 in
    let is : parser_of any.1 ≡ q = ap parser_of_value (same.parser q parser) in
    sym any.4.1 ∙ ap reading_of is

-- what an entry of a command without groups gives
entry_reads : (c : Command) (id : Text) (Q : Text → Type 0) (how : Reading) (x : MatchedArg)
    (e : Entry) (u : Text) → groups_of c ≡ [] → (id ≡ [] → ⊥)
    → ((r : Reading) → HasReading c id r → r ≡ how) → ((v : Text) → PassesArg c id v → Q v)
    → option_map (λ s. read_as x.reading s.now) (slice_get x.vals.items 0) ≡ Some u → e.1 ≡ x
    → e.0.now ≡ id → EntryPasses c e → (t : Text) × (u ≡ read_as how t) × Q t
entry_reads c id Q how x e u no_groups named reads accepts first same key_id pass =
    let no_group : e.1.is_group ≡ true → ⊥ = λ g. elim (pass.3 g) [
      | inl empty ↦ named (sym key_id ∙ empty)
      | inr lots ↦
          let bad : 0 < 0 = rw no_groups at lots in
          absurd (omega arith)
    ] in
    let all : All (λ v. PassesArg c id v.now) x.vals.items = elim pass.0 [
      | inl g ↦ absurd (no_group g)
      | inr vals ↦
          subst (λ (w : Text). All (λ v. PassesArg c w v.now) x.vals.items) key_id
          (rw same at vals)
    ] in
    let reading : e.1.reading ≡ how = elim pass.4 [
      | inl g ↦ absurd (no_group g)
      | inr h ↦
          reads e.1.reading (subst (λ (w : Text). HasReading c w e.1.reading) key_id h)
    ] in
    first_read (PassesArg c id) Q how x u all first
    (ap (λ (y : MatchedArg). y.reading) (sym same) ∙ reading) accepts

-- what the entry of an id gives
id_reads : (c : Command) (f : Found) (id : Text) (Q : Text → Type 0) (how : Reading) (u : Text)
    → ValuesPass c f → groups_of c ≡ [] → (id ≡ [] → ⊥)
    → ((r : Reading) → HasReading c id r → r ≡ how) → ((v : Text) → PassesArg c id v → Q v)
    → one_text f id ≡ Some u → (t : Text) × (u ≡ read_as how t) × Q t
id_reads c f id Q how u values no_groups named reads accepts given =
    go (matched_of f id) refl given
  where
    step : (x : MatchedArg)
        → option_map (λ s. read_as x.reading s.now) (slice_get x.vals.items 0) ≡ Some u
        → ((e : Entry) × (e.1 ≡ x) × (bytes_eq e.0.now id ≡ true) × EntryPasses c e)
        → (t : Text) × (u ≡ read_as how t) × Q t
    step x first got =
        entry_reads c id Q how x got.0 u no_groups named reads accepts first got.1
        ((bytes_eq-Decides got.0.0.now id).0 got.2) got.3

    go : (o : Option MatchedArg) → matched_of f id ≡ o → one_text f id ≡ Some u
        → (t : Text) × (u ≡ read_as how t) × Q t
    go None e h =
        let bad : None ≡ Some u = rw e at h in
        cc
    go (Some x) e h =
        step x (rw e at h) (entry_by_id (EntryPasses c) f.entries.items id x values e)

-- An argument of the caller's that has a value has one that its parser accepts, and is read as that
-- says.
given_reads : (old : Command) (m : ArgMatches) (p : IsParsedFrom old m)
    → ValuesPass p.built (found_of m) → groups_of p.built ≡ [] → (k : ℕ) (d : Arg) → IsOne old k d
    → (q : ValueParser) → (arg_at old k d).value_parser ≡ Some q → (u : Text)
    → one_text (found_of m) (arg_at old k d).id.now ≡ Some u
    → (t : Text) × (u ≡ read_as (reading_of q) t) × Accepts (arg_at old k d).ignore_case q t
given_reads old m p values no_groups k d one q parser u given =
    id_reads p.built (found_of m) (arg_at old k d).id.now (Accepts (arg_at old k d).ignore_case q)
    (reading_of q) u values no_groups one.named (read_by old m p k d one q parser)
    (passed_accepted old m p k d one q parser) given

-- So has a value of the command's argument with this rule.
option_reading : (a : App) (c : Command) (e : app_of c ≡ a) (alone : IsAlone a) (m : ArgMatches)
    (p : IsParsedFrom c m) (k : ℕ) (r : Rule) (is : IsNamedAt a k r) (d : Arg) (q : ValueParser)
    → r.parser ≡ Some q → (u : Text) → one_text (found_of m) r.id ≡ Some u
    → (t : Text) × (u ≡ read_as (reading_of q) t) × Accepts r.ignore_case q t
option_reading a c e alone m p k r is d q parser u given =
    let same : rule_of (arg_at c k d) ≡ r = rule a c e alone k r is d in
    let one : IsOne c k d = record {
      inside = inside a c e alone k r is;
      unique = unique a c e alone k r is d;
      named = named a c e alone k r is d;
      own = own a c e alone k r is d;
    } in
    let parsed = p.parsed (p.from.globals ∙ (simple a c e alone).globals) in
    let id : (arg_at c k d).id.now ≡ r.id = ap (λ (x : Rule). x.id) same in
    let got = given_reads c m p parsed.values (p.from.plain (plain a c e alone)).1 k d one q
    (ap (λ (x : Rule). x.parser) same ∙ parser) u
    (subst (λ (w : Text). one_text (found_of m) w ≡ Some u) (sym id) given) in
    (got.0, got.1, subst (λ (x : Rule). Accepts x.ignore_case q got.0) same got.2)

-- what a typed getter gives of an option's value, or else this number: one in the range
pub record GivesNumberOr (r : Option ℕ) (default least most : ℕ) (name : Text) (rows : List Row)
    : Type 0 where
  pub low : least ≤ unwrap_or r default
  pub high : unwrap_or r default ≤ most
  pub read : unwrap_or r default ≡ number_or default (one_of name rows)

-- A number in a range that the type holds is read from an option.
pub option_number : (a : App) (c : Command) (e : app_of c ≡ a) (alone : IsAlone a)
    (m : ArgMatches) (p : IsParsedFrom c m) (k : ℕ) (name : Text) (default least most : ℕ)
    → IsNamedAt a k (number_option_rule name least most)
    → (E : Type 0) (gives : Text → Result ℕ E → Type 0) (bits : ℕ) (r : Option ℕ)
    → (one_text (found_of m) name ≡ None → r ≡ None)
    → ((t : Text) → one_text (found_of m) name ≡ Some t → ReadsOne gives t r)
    → ((u : Text) (x : Result ℕ E) → gives u x → ParsesUnsigned bits 10 u x) → most < 2 ^ bits
    → least ≤ default → default ≤ most
    → GivesNumberOr r default least most name (rows_of (found_of m))
option_number a c e alone m p k name default least most is E gives bits r none reads parses fits low
    high = go (one_text (found_of m) name) refl
  where
    go : (o : Option Text) → one_text (found_of m) name ≡ o
        → GivesNumberOr r default least most name (rows_of (found_of m))
    go None absent =
        let missing : unwrap_or r default ≡ default = rw (none absent) refl in
        let row : one_of name (rows_of (found_of m)) ≡ None =
        sym (one_text-rows (found_of m) name) ∙ absent in
        record {
          low = rw missing low;
          high = rw missing high;
          read = missing ∙ ap (λ (o : Option Text). number_or default o) (sym row);
        }
    go (Some u) given =
        let got = option_reading a c e alone m p k (number_option_rule name least most) is
        (head (args_of c) k (inside a c e alone k (number_option_rule name least most) is))
        (Signed (pos least) (pos most)) refl u given in
        let read = subst (λ (w : Text). ReadsOne gives w r) got.1 (reads u given) in
        let number = signed_reads E gives bits least most got.0 r read parses fits got.2 in
        let shown : unwrap_or r default ≡ number.0 =
        ap (λ (o : Option ℕ). unwrap_or o default) number.1 in
        let row : one_of name (rows_of (found_of m)) ≡ Some u =
        sym (one_text-rows (found_of m) name) ∙ given in
        let digits = parses _ (Ok number.0)
        (subst (ReadsOne gives (without_minus got.0)) number.1 read) in
        record {
          low = rw shown number.2;
          high = rw shown number.3;
          read = shown ∙ digits.1
              ∙ ap (λ (t : Text). digits_value 10 (without_leading_plus t)) (sym got.1)
              ∙ ap (λ (o : Option Text). number_or default o) (sym row);
        }

-- what a typed getter gives of an option's value, if it is given: a number in the range
pub record GivesNumberIf (r : Option ℕ) (least most : ℕ) (name : Text) (rows : List Row)
    : Type 0 where
  pub low : IfSome r (λ number. least ≤ number)
  pub high : IfSome r (λ number. number ≤ most)
  pub read : r ≡ number_if (one_of name rows)

-- Two defaults that differ tell whether a number was given.
if_given : (r : Option ℕ) (o : Option Text) (least most : ℕ) → least < most
    → unwrap_or r least ≡ number_or least o → unwrap_or r most ≡ number_or most o
    → r ≡ number_if o
if_given None None least most differ low high = refl
if_given None (Some text) least most differ low high = absurd (omega arith)
if_given (Some number) None least most differ low high = absurd (omega arith)
if_given (Some number) (Some text) least most differ low high = ap Some low

low_if : (r : Option ℕ) (default least : ℕ) → least ≤ unwrap_or r default
    → IfSome r (λ number. least ≤ number)
low_if None default least low = tt
low_if (Some number) default least low = low

high_if : (r : Option ℕ) (default most : ℕ) → unwrap_or r default ≤ most
    → IfSome r (λ number. number ≤ most)
high_if None default most high = tt
high_if (Some number) default most high = high

-- A number in a range that the type holds is read from an option, if it is given.
pub option_number_if : (a : App) (c : Command) (e : app_of c ≡ a) (alone : IsAlone a)
    (m : ArgMatches) (p : IsParsedFrom c m) (k : ℕ) (name : Text) (least most : ℕ)
    → IsNamedAt a k (number_option_rule name least most)
    → (E : Type 0) (gives : Text → Result ℕ E → Type 0) (bits : ℕ) (r : Option ℕ)
    → (one_text (found_of m) name ≡ None → r ≡ None)
    → ((t : Text) → one_text (found_of m) name ≡ Some t → ReadsOne gives t r)
    → ((u : Text) (x : Result ℕ E) → gives u x → ParsesUnsigned bits 10 u x) → most < 2 ^ bits
    → least < most → GivesNumberIf r least most name (rows_of (found_of m))
option_number_if a c e alone m p k name least most is E gives bits r none reads parses fits differ =
    let one = option_number a c e alone m p k name least least most is E gives bits r none reads
    parses fits (omega arith) (omega arith) in
    let two = option_number a c e alone m p k name most least most is E gives bits r none reads
    parses fits (omega arith) (omega arith) in
    record {
      low = low_if r least least one.low;
      high = high_if r least most one.high;
      read = if_given r (one_of name (rows_of (found_of m))) least most differ one.read two.read;
    }
