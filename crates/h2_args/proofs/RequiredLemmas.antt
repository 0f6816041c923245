-- What a parse gives a required argument, by what clap reads of the command.
use Rattle.h2_args.proofs.Names.{◌≡◌, ◌∙◌, ◌<◌, ◌≤◌, ℕ, true, false, refl, sym, ap, subst, arith}
use Rattle.h2_args.proofs.Names.{inl, inr, List, [], ◌∷◌, length, Option, Some, None, codes}
use Rattle.h2_args.proofs.Names.{is_some, slice_index_or, bytes_eq, ParsesUnsigned, digits_value}
use Rattle.h2_args.proofs.Names.{without_leading_plus, pos, unwrap_or, Result, Ok, ◌^◌, App}
use Rattle.h2_args.proofs.Names.{IsParsedFrom, Rule, Text, Accepts, app_of, args_of, first_of}
use Rattle.h2_args.proofs.Names.{found_of, one_of, one_text, read_as, reading_of, rows_of, rule_of}
use Rattle.h2_args.proofs.Names.{ReadsOne, Row, without_minus, is_empty, IsAuto, Arg, Command}
use Rattle.h2_args.proofs.Names.{ValueParser, Signed, ArgMatches, signed_reads, first_value-rows}
use Rattle.h2_args.proofs.Names.{one_text-rows, number_rule, number_given}
use Rattle.std.proofs.Common.{◌||◌}
use Rattle.std.specs.List.{list_all}
use Rattle.std.proofs.lemmas.List.{get_or-map, length-map}
use Rattle.clap.specs.Words.{IsPlain, first_value}
use Rattle.clap.specs.Simple.{IsSimple, is_ready, is_ready_leaf}
use Rattle.clap.specs.Facts.{least_values, unwrap_or_range}
use Rattle.clap.specs.Faults.{has_free_rules}
use Rattle.clap.specs.declared.builder.action.ArgAction.TheVariants.{Set}
use Rattle.clap.proofs.CallerLemmas.{required_has_value}
use Rattle.clap.proofs.CallerReads.{required_reads}
use Rattle.clap.proofs.FaultLemmas.{free_args}
use Rattle.clap.proofs.SimpleLemmas.{ready_simple, simple_groups}
use Rattle.clap.proofs.WalkLemmas.{both}

-- the command has no rule of one argument on another, and no argument that changes how words are
-- read
pub record IsAlone (a : App) : Type 0 where
  pub ready : is_ready a.top ≡ true
  pub leaves : list_all is_ready_leaf a.subs ≡ true
  pub free : has_free_rules a.top ≡ true
  pub negates : a.top.subcommand_negates_reqs ≡ false

-- place k of the command has the rule r, of an argument whose id no other has
pub record IsNamedAt (a : App) (k : ℕ) (r : Rule) : Type 0 where
  pub inside : k < length a.top.rules
  pub at : (d : Rule) → slice_index_or a.top.rules k d ≡ r
  pub unique : (j : ℕ) (d : Rule) → j < length a.top.rules
      → bytes_eq (slice_index_or a.top.rules j d).id r.id ≡ true → j ≡ k
  pub named : is_empty r.id ≡ false
  pub own : (bytes_eq r.id (codes "help") || bytes_eq r.id (codes "version")) ≡ false

-- place k of the command has the rule r, of a required argument of one value, whose id no other has
pub record IsRequiredAt (a : App) (k : ℕ) (r : Rule) : Type 0 where
  pub inside : k < length a.top.rules
  pub at : (d : Rule) → slice_index_or a.top.rules k d ≡ r
  pub required : r.required ≡ true
  pub action : r.action ≡ Some Set
  pub range : r.range ≡ None
  pub simple : r.is_simple ≡ true
  pub unique : (j : ℕ) (d : Rule) → j < length a.top.rules
      → bytes_eq (slice_index_or a.top.rules j d).id r.id ≡ true → j ≡ k
  pub named : is_empty r.id ≡ false
  pub own : (bytes_eq r.id (codes "help") || bytes_eq r.id (codes "version")) ≡ false

-- so the argument has an id that no other has
named_at : (a : App) (k : ℕ) (r : Rule) → IsRequiredAt a k r → IsNamedAt a k r
named_at a k r is = record {
  inside = is.inside;
  at = is.at;
  unique = is.unique;
  named = is.named;
  own = is.own;
}

-- some argument of a list that has one
pub head : (xs : List Arg) (k : ℕ) → k < length xs → Arg
head [] k lt = absurd (omega arith)
head (x ∷ xs) k lt = x

module _ (a : App) (c : Command) (e : app_of c ≡ a) (alone : IsAlone a) where
  -- the command is simple
  pub simple : IsSimple c
  simple = ready_simple c (ap (λ (x : App). is_ready x.top) e ∙ alone.ready)
      (ap (λ (x : App). list_all is_ready_leaf x.subs) e ∙ alone.leaves)

  -- nothing in the command excludes anything
  pub plain : IsPlain c
  plain =
      let free = free_args c simple (ap (λ (x : App). has_free_rules x.top) e ∙ alone.free) in
      let rules = (both _ _ ((both _ _ (ap (λ (x : App). is_ready x.top) e ∙ alone.ready)).0)).1 in
      let groups = simple_groups c rules in (
        λ k d lt. (
          (free k d lt).exclusive,
          (free k d lt).conflicts,
          (free k d lt).overrides,
          groups k d lt,
        ),
        simple.groups,
      )

  -- the rule of an argument
  rule_of_place : (j : ℕ) (d : Arg) → j < length (args_of c)
      → rule_of (slice_index_or (args_of c) j d) ≡ slice_index_or a.top.rules j (rule_of d)
  rule_of_place j d lt = sym (get_or-map rule_of (args_of c) j d (rule_of d) lt)
      ∙ ap (λ (x : App). slice_index_or x.top.rules j (rule_of d)) e

  -- as many arguments as rules
  as_many : length (args_of c) ≡ length a.top.rules
  as_many = sym (length-map (args_of c) rule_of) ∙ ap (λ (x : App). length x.top.rules) e

  module _ (k : ℕ) (r : Rule) (is : IsNamedAt a k r) where
    -- the place is one of the command's
    pub inside : k < length (args_of c)
    inside = subst (λ n. k < n) (sym as_many) is.inside

    module _ (d : Arg) where
      -- the argument's rule
      pub rule : rule_of (slice_index_or (args_of c) k d) ≡ r
      rule = rule_of_place k d inside ∙ is.at (rule_of d)

      -- no other argument has its id
      pub unique : (j : ℕ) (f : Arg) → j < length (args_of c)
          → bytes_eq (slice_index_or (args_of c) j f).id.now
          (slice_index_or (args_of c) k d).id.now ≡ true → j ≡ k
      unique j f lt same = is.unique j (rule_of f) (subst (λ n. j < n) as_many lt)
          (subst (λ (x : Rule). bytes_eq x.id r.id ≡ true) (rule_of_place j f lt)
          (subst (λ (x : Rule). bytes_eq (slice_index_or (args_of c) j f).id.now x.id ≡ true) rule
          same))

      -- its id isn't empty
      pub named : (slice_index_or (args_of c) k d).id.now ≡ [] → ⊥
      named empty =
          let bad : true ≡ false = ap (λ (t : Text). is_empty t)
          (sym (sym (ap (λ (x : Rule). x.id) rule) ∙ empty)) ∙ is.named in
          cc

      -- it is no flag that building adds
      pub own : IsAuto (slice_index_or (args_of c) k d) → ⊥
      own auto = elim auto [
        | inl h ↦
            let bad : true ≡ false = is_flag (sym (sym (ap (λ (x : Rule). x.id) rule) ∙ h)) in
            cc
        | inr h ↦
            let bad : true ≡ false = is_flag (sym (sym (ap (λ (x : Rule). x.id) rule) ∙ h)) in
            cc
      ]
        where
          is_flag : {t : Text} → t ≡ r.id
              → (bytes_eq t (codes "help") || bytes_eq t (codes "version")) ≡ false
          is_flag h = ap (λ (t : Text). bytes_eq t (codes "help") || bytes_eq t (codes "version")) h
              ∙ is.own

  module _ (m : ArgMatches) (p : IsParsedFrom c m) (k : ℕ) (r : Rule)
      (is : IsRequiredAt a k r) where
    -- the argument has an id that no other has
    at : IsNamedAt a k r
    at = named_at a k r is

    module _ (d : Arg) where
      -- its use takes a value
      least : 1 ≤ least_values (slice_index_or (args_of c) k d)
      least = subst (λ o. 1 ≤ (unwrap_or_range o).start_inclusive)
          (sym (ap (λ (x : Rule). x.range) (rule k r at d) ∙ is.range)) (omega arith)

      -- it has a value
      value_at : is_some (first_of r.id (rows_of (found_of m))) ≡ true
      value_at =
          let has = required_has_value c m p plain simple.globals
          (ap (λ (x : App). x.top.subcommand_negates_reqs) e ∙ alone.negates) k d (inside k r at)
          (ap (λ (x : Rule). x.required) (rule k r at d) ∙ is.required)
          (ap (λ (x : Rule). x.action) (rule k r at d) ∙ is.action)
          (simple.args k d (inside k r at)).delimiter least (unique k r at d) (named k r at d)
          (own k r at d) in
          ap (λ o. is_some o) (sym (first_value-rows (found_of m) r.id))
          ∙ subst (λ (x : Rule). is_some (first_value (found_of m) x.id) ≡ true) (rule k r at d) has

      -- the value has passed its parser, and is read as that says
      reading_at : (q : ValueParser) → r.parser ≡ Some q → (t : Text)
          × (one_of r.id (rows_of (found_of m)) ≡ Some (read_as (reading_of q) t))
          × Accepts r.ignore_case q t
      reading_at q parser =
          let got = required_reads c m p plain simple.globals
          (ap (λ (x : App). x.top.subcommand_negates_reqs) e ∙ alone.negates) k d (inside k r at)
          (ap (λ (x : Rule). x.required) (rule k r at d) ∙ is.required)
          (ap (λ (x : Rule). x.action) (rule k r at d) ∙ is.action)
          (simple.args k d (inside k r at)).delimiter least (unique k r at d) (named k r at d)
          (own k r at d) q
          (ap (λ (x : Rule). x.parser) (rule k r at d) ∙ parser) in (
            got.0,
            sym (one_text-rows (found_of m) r.id)
                ∙ subst (λ (x : Rule). one_text (found_of m) x.id
                ≡ Some (read_as (reading_of q) got.0))
                (rule k r at d) got.1,
            subst (λ (x : Rule). Accepts x.ignore_case q got.0) (rule k r at d) got.2,
          )

    -- a required argument has a value
    pub required_value : is_some (first_of r.id (rows_of (found_of m))) ≡ true
    required_value = value_at (head (args_of c) k (inside k r at))

    -- its value has passed its parser, and is read as that says
    pub required_reading : (q : ValueParser) → r.parser ≡ Some q → (t : Text)
        × (one_of r.id (rows_of (found_of m)) ≡ Some (read_as (reading_of q) t))
        × Accepts r.ignore_case q t
    required_reading = reading_at (head (args_of c) k (inside k r at))

-- what a typed getter gives of an argument's value: a number in its range
pub record GivesNumber (r : Option ℕ) (least most : ℕ) (name : Text) (rows : List Row)
    : Type 0 where
  pub number : ℕ
  pub given : r ≡ Some number
  pub low : least ≤ number
  pub high : number ≤ most
  pub read : number ≡ number_given name rows

-- A number in a range that the type holds is read from a required argument.
pub required_number : (a : App) (c : Command) (e : app_of c ≡ a) (alone : IsAlone a)
    (m : ArgMatches) (p : IsParsedFrom c m) (k : ℕ) (name : Text) (least most : ℕ)
    → IsRequiredAt a k (number_rule name least most)
    → (E : Type 0) (gives : Text → Result ℕ E → Type 0) (bits : ℕ) (r : Option ℕ)
    → ((t : Text) → one_text (found_of m) name ≡ Some t → ReadsOne gives t r)
    → ((u : Text) (x : Result ℕ E) → gives u x → ParsesUnsigned bits 10 u x) → most < 2 ^ bits
    → GivesNumber r least most name (rows_of (found_of m))
required_number a c e alone m p k name least most is E gives bits r reads parses fits =
    let rows = rows_of (found_of m) in
    let q = Signed (pos least) (pos most) in
    let got = required_reading a c e alone m p k (number_rule name least most) is q refl in
    let one : one_text (found_of m) name ≡ Some (without_minus got.0) =
    one_text-rows (found_of m) name ∙ got.1 in
    let read = reads (without_minus got.0) one in
    let number = signed_reads E gives bits least most got.0 r read parses fits got.2 in
    let given = subst (ReadsOne gives (without_minus got.0)) number.1 read in
    let parsed = parses _ (Ok number.0) given in
    record {
      number = number.0;
      given = number.1;
      low = number.2;
      high = number.3;
      read = parsed.1
          ∙ ap (λ (o : Option Text). digits_value 10 (without_leading_plus (unwrap_or o [])))
          (sym got.1);
    }
