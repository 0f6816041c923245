-- What has come of a response, one part on.
use Rattle.h2_engines.proofs.Names
use Names.{◌≡◌, ℕ, Bool, true, false, List, [], ◌∷◌, ◌++◌, Option, Some, None, option_map, refl}
use Names.{sym, ap, ◌∙◌, subst, append_assoc, append-nil, AllByRecursion, eq-eqb, map_push, Field}
use Names.{first_broken, interim_rules, Part, FieldsPart, OctetsPart, BreakNone, Handed, HeadHanded}
use Names.{BodyHanded, TrailersHanded, Passed, Coming, NotesPart, notes_interim, notes_head}
use Names.{notes_body, notes_trailers, notes_nothing, AreHeadsSoFar, HasCome, interims_alone}
use Names.{head_and_body, IsWhole, interim_parts, data_parts_of, part_on, InterimHanded, ◌≢◌}
use Names.{if◌then◌else◌, ◌==◌, concat, concat-append}
use Rattle.h2_message.specs.Reading.{ended, message_parts, final_parts, trailers_parts}
use Rattle.std.proofs.Common.{Vec, Global, map as each}
use Rattle.h2_engines.proofs.FetcherPlaces.{head_there}

-- What may be handed out of the response: interim responses and its head, as long as no head has
-- come; octets and trailers after that.
abbrev pub MayHand : Coming → (id : ℕ) → Handed → Type 0
MayHand coming id (InterimHanded i list) =
    i ≡ id → (coming.head ≡ None) × BreakNone (interim_rules list)
MayHand coming id (HeadHanded i list end) =
    i ≡ id → (coming.head ≡ None) × (first_broken (interim_rules list) ≢ None)
MayHand coming id (BodyHanded i octets end) = i ≡ id → coming.head ≢ None
MayHand coming id (TrailersHanded i list) = i ≡ id → coming.head ≢ None
MayHand coming id (Passed event) = Unit {0}

-- What is kept, where the response is whole, and where it isn't.
abbrev pub KeepsSoFar : Coming → List (Part × Bool) → (whole : Bool) → Type 0
KeepsSoFar coming parts true = IsWhole coming parts
KeepsSoFar coming parts false = HasCome coming parts

-- The interim responses, as fields, and one more of them.
abbrev lists_of : Vec (Vec Field Global) Global → List (List Field)
lists_of interims = each (λ (list : Vec Field Global). list.items) interims.items

all_and_one : (P : List Field → Type 0) (lists : List (List Field)) (list : List Field)
    → AllByRecursion P lists → P list → AllByRecursion P (lists ++ list ∷ [])
all_and_one P [] list all one = (one, tt)
all_and_one P (first ∷ lists) list all one = (all.0, all_and_one P lists list all.1 one)

-- An interim response has come.
on_interim : {old : Coming} (new : Coming) {parts : List (Part × Bool)} (list : List Field)
    → lists_of new.interims ≡ lists_of old.interims ++ list ∷ [] → new.head ≡ old.head
    → new.body ≡ old.body → new.trailers ≡ old.trailers → old.head ≡ None
    → BreakNone (interim_rules list) → HasCome old parts
    → HasCome new (parts ++ (FieldsPart list, false) ∷ [])
on_interim {old} new list interims head body trailers none sound
    (interims_alone heads nothing empty end) =
    let all = all_and_one (λ fields. BreakNone (interim_rules fields)) _ _ heads.interims sound in
    let now : new.head ≡ None = head ∙ none in
    let come : HasCome new (interim_parts (lists_of new.interims)) = interims_alone (record {
      interims = rw interims all;
      head = λ one is. absurd
          (head_there (λ (list : Vec Field Global). list.items) new.head one is now);
    }) now (ap (λ (body : Vec ℕ Global). body.items) body ∙ empty) (trailers ∙ end) in
    subst (HasCome new) (ap interim_parts interims ∙ map_push
    (λ (fields : List Field). (FieldsPart fields, false)) (lists_of old.interims) list) come
on_interim {old} new list interims head body trailers none sound
    (head_and_body heads one data_parts came octets end) =
    absurd (head_there (λ (list : Vec Field Global). list.items) old.head one came none)

-- The response is whole with this head.
is_whole : (coming : Coming) (head : Vec Field Global) {parts : List (Part × Bool)}
    (data_parts : List (List ℕ)) {trailers : Option (List Field)} → coming.head ≡ Some head
    → option_map (λ (list : Vec Field Global). list.items) coming.trailers ≡ trailers
    → parts ≡ message_parts (record {
      interims = lists_of coming.interims;
      head = head.items;
      data_parts = data_parts;
      trailers = trailers;
    }) → coming.body.items ≡ concat data_parts → IsWhole coming parts
is_whole coming head data_parts {trailers} there after are body = (
  record {
    interims = coming.interims;
    head = head;
    body = coming.body;
    trailers = coming.trailers;
  },
  there,
  refl,
  refl,
  refl,
  record {
    data_parts = data_parts;
    whole = are ∙ ap (λ (trailers : Option (List Field)). message_parts (record {
      interims = lists_of coming.interims;
      head = head.items;
      data_parts = data_parts;
      trailers = trailers;
    })) (sym after);
    body = body;
  },
)

-- The head of which these are the fields.
head_of : (option : Option (Vec Field Global)) (list : List Field)
    → option_map (λ (one : Vec Field Global). one.items) option ≡ Some list
    → (head : Vec Field Global) × (option ≡ Some head) × (head.items ≡ list)
head_of None list came = absurd (cc)
head_of (Some head) list came = (head, refl, cc)

-- A message whose last part is this one, after the head and octets.
ended_with : (first : Part) (data_parts : List (List ℕ)) (last : Part)
    → ended (first ∷ (each OctetsPart data_parts ++ last ∷ []))
    ≡ (first, false) ∷ (data_parts_of data_parts ++ (last, true) ∷ [])
unfolding ended
ended_with first [] last = refl
ended_with first (octets ∷ data_parts) last =
    ap (λ (line : List (Part × Bool)). (first, false) ∷ line)
    (ended_with (OctetsPart octets) data_parts last)

-- What is read of a message without trailers, and with them.
read_head : (interims : List (List Field)) (head : List Field)
    → message_parts (record { interims = interims; head = head; data_parts = []; trailers = None })
    ≡ interim_parts interims ++ (FieldsPart head, true) ∷ []
unfolding message_parts final_parts trailers_parts ended
read_head interims head = refl

module _ (interims : List (List Field)) (head : List Field) (data_parts : List (List ℕ)) where
  read_octets : (octets : List ℕ)
      → message_parts (record {
        interims = interims;
        head = head;
        data_parts = data_parts ++ octets ∷ [];
        trailers = None;
      }) ≡ interim_parts interims ++ (FieldsPart head, false)
      ∷ (data_parts_of data_parts ++ (OctetsPart octets, true) ∷ [])
  unfolding message_parts final_parts trailers_parts
  read_octets octets =
      ap (λ (line : List Part). interim_parts interims ++ ended (FieldsPart head ∷ line))
      (append-nil (each OctetsPart (data_parts ++ octets ∷ []))
      ∙ map_push OctetsPart data_parts octets)
      ∙ ap (λ (parts : List (Part × Bool)). interim_parts interims ++ parts)
      (ended_with (FieldsPart head) data_parts (OctetsPart octets))

  read_trailers : (list : List Field)
      → message_parts (record {
        interims = interims;
        head = head;
        data_parts = data_parts;
        trailers = Some list;
      }) ≡ interim_parts interims ++ (FieldsPart head, false)
      ∷ (data_parts_of data_parts ++ (FieldsPart list, true) ∷ [])
  unfolding message_parts final_parts trailers_parts
  read_trailers list = ap (λ (parts : List (Part × Bool)). interim_parts interims ++ parts)
      (ended_with (FieldsPart head) data_parts (FieldsPart list))

-- The head has come.
on_head : {old : Coming} (new : Coming) {parts : List (Part × Bool)} (list : List Field)
    (end : Bool) → option_map (λ (one : Vec Field Global). one.items) new.head ≡ Some list
    → new.interims ≡ old.interims → new.body.items ≡ [] → new.trailers ≡ old.trailers
    → old.head ≡ None → first_broken (interim_rules list) ≢ None → HasCome old parts
    → KeepsSoFar new (parts ++ (FieldsPart list, end) ∷ []) end
on_head {old} new list true head interims body trailers none final
    (interims_alone heads nothing empty end) =
    let is = head_of new.head list head in
    is_whole new is.0 [] is.1
    (ap (option_map (λ (one : Vec Field Global). one.items)) (trailers ∙ end))
    (rw (interims, is.2) (sym (read_head (lists_of old.interims) list))) body
on_head new list false head interims body trailers none final
    (interims_alone heads nothing empty end) =
    rw (← interims) (head_and_body (record {
      interims = rw interims heads.interims;
      head = λ one is.
          let same : list ≡ one = cc in
          subst (λ (fields : List Field). first_broken (interim_rules fields) ≢ None) same final;
    }) list [] head body (trailers ∙ end))
on_head {old} new list end head interims body trailers none final
    (head_and_body heads one data_parts came octets no_end) =
    absurd (head_there (λ (list : Vec Field Global). list.items) old.head one came none)

-- The same heads are.
same_heads : {old : Coming} (new : Coming) → new.interims ≡ old.interims → new.head ≡ old.head
    → AreHeadsSoFar old → AreHeadsSoFar new
same_heads new interims head heads =
    record {
      interims = rw interims heads.interims;
      head = λ one is. heads.head one
          (ap (option_map (λ (one : Vec Field Global). one.items)) (sym head) ∙ is);
    }

-- Parts after the head, and one more.
after_parts : (interims : List (List Field)) (head : List Field) (data_parts : List (List ℕ))
    (part : Part × Bool)
    → (interim_parts interims ++ (FieldsPart head, false) ∷ data_parts_of data_parts) ++ part ∷ []
    ≡ interim_parts interims ++ (FieldsPart head, false)
    ∷ (data_parts_of data_parts ++ part ∷ [])
after_parts interims head data_parts part = append_assoc _ _ (part ∷ [])

joined_one : (data_parts : List (List ℕ)) (octets : List ℕ)
    → concat (data_parts ++ octets ∷ []) ≡ concat data_parts ++ octets
joined_one data_parts octets =
    concat-append data_parts (octets ∷ [])
    ∙ ap (λ (more : List ℕ). concat data_parts ++ more) (append-nil octets)

-- Octets have come.
on_octets : {old : Coming} (new : Coming) {parts : List (Part × Bool)} (octets : List ℕ)
    (end : Bool) → new.body.items ≡ old.body.items ++ octets → new.interims ≡ old.interims
    → new.head ≡ old.head → new.trailers ≡ old.trailers → old.head ≢ None → HasCome old parts
    → KeepsSoFar new (parts ++ (OctetsPart octets, end) ∷ []) end
on_octets new octets end body interims head trailers some
    (interims_alone heads nothing empty no_end) = absurd (some nothing)
on_octets {old} new octets true body interims head trailers some
    (head_and_body heads one data_parts came before no_end) =
    let value = option_map (λ (one : Vec Field Global). one.items) in
    let is = head_of new.head one (ap value head ∙ came) in
    is_whole new is.0 (data_parts ++ octets ∷ []) is.1 (ap value (trailers ∙ no_end))
    (rw (interims, is.2) (after_parts (lists_of old.interims) one data_parts
    (OctetsPart octets, true) ∙ sym (read_octets (lists_of old.interims) one data_parts octets)))
    (rw (body, before) (sym (joined_one data_parts octets)))
on_octets {old} new octets false body interims head trailers some
    (head_and_body heads one data_parts came before no_end) =
    let value = option_map (λ (one : Vec Field Global). one.items) in
    let pushed : data_parts_of (data_parts ++ octets ∷ [])
    ≡ data_parts_of data_parts ++ (OctetsPart octets, false) ∷ [] =
    map_push (λ (octets : List ℕ). (OctetsPart octets, false)) data_parts octets in
    rw (
      after_parts (lists_of old.interims) one data_parts (OctetsPart octets, false),
      ← pushed,
      ← interims,
    ) (head_and_body (same_heads new interims head heads) one (data_parts ++ octets ∷ [])
    (ap value head ∙ came) (rw (body, before) (sym (joined_one data_parts octets)))
    (trailers ∙ no_end))

-- Trailers have come.
on_trailers : {old : Coming} (new : Coming) {parts : List (Part × Bool)} (list : List Field)
    → option_map (λ (one : Vec Field Global). one.items) new.trailers ≡ Some list
    → new.interims ≡ old.interims → new.head ≡ old.head → new.body ≡ old.body → old.head ≢ None
    → HasCome old parts → IsWhole new (parts ++ (FieldsPart list, true) ∷ [])
on_trailers new list trailers interims head body some (interims_alone heads nothing empty no_end) =
    absurd (some nothing)
on_trailers {old} new list trailers interims head body some
    (head_and_body heads one data_parts came before no_end) =
    let value = option_map (λ (one : Vec Field Global). one.items) in
    let is = head_of new.head one (ap value head ∙ came) in
    is_whole new is.0 data_parts is.1 trailers (rw (interims, is.2) (after_parts _ one data_parts _
    ∙ sym (read_trailers (lists_of old.interims) one data_parts list)))
    (ap (λ (octets : Vec ℕ Global). octets.items) body ∙ before)

-- What was handed out is on its stream.
on_stream : (coming : Coming) (parts : List (Part × Bool)) (id : ℕ) (part : Part × Bool)
    (whole : Bool) → KeepsSoFar coming (parts ++ part ∷ []) whole
    → KeepsSoFar coming (parts ++ (if id == id then part ∷ [] else [])) whole
on_stream coming parts id part whole keeps = rw ((eq-eqb id id refl)) keeps

-- So much is kept of the response after one part more.
pub notes_on : {id : ℕ} {old new : Coming} {parts : List (Part × Bool)} {handed : Handed}
    {whole : Bool} → HasCome old parts → MayHand old id handed → NotesPart id old new handed whole
    → KeepsSoFar new (parts ++ part_on id handed) whole
unfolding part_on
notes_on {id} {new} {parts} come may (notes_interim list interims head body trailers) =
    let say = may refl in
    on_stream new parts id (FieldsPart list, false) false
    (on_interim new list interims head body trailers say.0 say.1 come)
notes_on {id} {new} {parts} come may (notes_head list end head interims body trailers) =
    let say = may refl in
    on_stream new parts id (FieldsPart list, end) end
    (on_head new list end head interims body trailers say.0 say.1 come)
notes_on {id} {new} {parts} come may (notes_body octets end body interims head trailers) =
    on_stream new parts id (OctetsPart octets, end) end
    (on_octets new octets end body interims head trailers (may refl) come)
notes_on {id} {new} {parts} come may (notes_trailers list trailers interims head body) =
    on_stream new parts id (FieldsPart list, true) true
    (on_trailers new list trailers interims head body (may refl) come)
notes_on {id} {old} {parts} {handed} come may (notes_nothing one none same) =
    rw same (rw ((ap (λ (more : List (Part × Bool)). parts ++ more) none ∙ append-nil parts)) come)
