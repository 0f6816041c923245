-- Blocks: the fields, the updates before them, and that octets are one block at most.
use Rattle.hpack.proofs.Names.{◌≡◌, ℕ, ◌<◌, ◌≤◌, ◌==◌, true, false, List, [], ◌∷◌, ◌++◌, length}
use Rattle.hpack.proofs.Names.{take, refl, sym, ap, ◌∙◌, subst, arith, eq-eqb, append_assoc}
use Rattle.hpack.proofs.Names.{append-nil, length-append, false≢true, nat_tests, Int, Int-unique}
use Rattle.hpack.proofs.Names.{Field, Fault, Entries, resized, FirstOctet, Update, Step, Fields}
use Rattle.hpack.proofs.Names.{Updates, Block, NoPrefix, IsInt, IsStep, UpdatesSoFar}
use Rattle.hpack.specs.declared.types.fault.Fault.TheVariants as faults
use Rattle.hpack.specs.Lists.{NoBlock, DecodeFault}
use Rattle.hpack.specs.Prefixes.{PrefixFault, FieldsFault, BeginsUpdate}
use Rattle.hpack.proofs.PrefixLemmas.{octets_after, split_at_count, same_following}
use Rattle.hpack.proofs.StepLemmas.{prefix_first_octet, int_first, int_long, no_update_step}
use Rattle.hpack.proofs.StepLemmas.{step_long, step_unique}

-- What was read of fields so far: followed by the fields of the unparsed octets they are all
-- fields, and all fields end with fields of these.
pub record ReadsSoFar (table : Entries) (octets : List ℕ) (now : Entries) (unparsed : List ℕ)
    (done : List Field) : Type 0 where
  pub sound : (fields : List Field) (after : Entries) → Fields now unparsed fields after
      → Fields table octets (done ++ fields) after
  pub complete : (fields : List Field) (after : Entries) → Fields table octets fields after
      → (others : List Field) × Fields now unparsed others after

-- In the beginning nothing was read.
pub reads_none : (table : Entries) (octets : List ℕ) → ReadsSoFar table octets table octets []
reads_none table octets = record {
  sound = λ fields after h. h;
  complete = λ fields after h. (fields, h);
}

-- Octets with a nonempty prefix aren't empty.
prefix_long : (octets prefix others : List ℕ) → octets ≡ prefix ++ others → 0 < length prefix
    → 0 < length octets
prefix_long octets prefix others e long =
    omega (arith, ap (λ (xs : List ℕ). length xs) e, length-append prefix others)

-- the fields after the first one
fields_following : (table next after : Entries) (octets prefix unparsed : List ℕ) (field : Field)
    (fields : List Field) → octets ≡ prefix ++ unparsed → Step table prefix field next
    → Fields table octets fields after
    → (others : List Field) × (fields ≡ field ∷ others) × Fields next unparsed others after
fields_following table next after octets prefix unparsed field [] e step h =
    absurd (let long = prefix_long octets prefix unparsed e
    (step_long table next prefix field step) in
    omega (arith, long, ap (λ (xs : List ℕ). length xs) h.0))
fields_following table next after octets prefix unparsed field (one ∷ fields) e step
    (first, others, between, joined, one_step, encoded) =
    let same = step_unique table between next octets first prefix others unparsed one field joined e
    one_step step in
    let rests : others ≡ unparsed =
    same_following first prefix others unparsed same.prefixes (sym joined ∙ e) in (
      fields,
      ap (λ (f : Field). f ∷ fields) same.fields,
      subst (λ t. Fields t unparsed fields after) same.tables
          (subst (λ xs. Fields between xs fields after) rests encoded),
    )

-- One field more was read.
pub reads_more : (table now next : Entries) (octets unparsed prefix others : List ℕ)
    (done : List Field) (field : Field) → unparsed ≡ prefix ++ others → Step now prefix field next
    → ReadsSoFar table octets now unparsed done
    → ReadsSoFar table octets next others (done ++ field ∷ [])
reads_more table now next octets unparsed prefix others done field e step so_far = record {
  sound = λ fields after h.
      subst (λ fs. Fields table octets fs after) (sym (append_assoc done (field ∷ []) fields))
      (so_far.sound (field ∷ fields) after (prefix, others, next, e, step, h));
  complete = λ fields after h.
      let (left, encoded) = so_far.complete fields after h in
      let (more, same, following) = fields_following now next after unparsed prefix others field
      left e step encoded in
      (more, following);
}

-- At the end all is read.
pub reads_all : (table now : Entries) (octets unparsed : List ℕ) (done : List Field)
    → length unparsed ≡ 0 → ReadsSoFar table octets now unparsed done → Fields table octets done now
reads_all table now octets [] done empty so_far =
    subst (λ fs. Fields table octets fs now) (append-nil done) (so_far.sound [] now (refl, refl))
reads_all table now octets (x ∷ unparsed) done empty so_far = absurd (omega arith)

-- Where no prefix of octets is a field, they aren't fields.
no_fields : (table : Entries) (octets : List ℕ) (fields : List Field) (after : Entries)
    → (length octets ≡ 0 → ⊥) → NoPrefix (IsStep table) octets → Fields table octets fields after
    → ⊥
no_fields table octets [] after more none h = more (ap (λ (xs : List ℕ). length xs) h.0)
no_fields table octets (field ∷ fields) after more none
    (first, others, between, joined, step, encoded) =
    none first others joined (field, between, step)

-- A fault of the next field is one of all the fields.
pub reads_fault : (table now : Entries) (octets unparsed : List ℕ) (done : List Field)
    (fault : Fault) → (length unparsed ≡ 0 → ⊥) → ReadsSoFar table octets now unparsed done
    → PrefixFault (IsStep now) unparsed fault → FieldsFault table octets fault
reads_fault table now octets unparsed done faults.Compression more so_far none = λ fields after h.
    let (left, encoded) = so_far.complete fields after h in
    no_fields now unparsed left after more none encoded
reads_fault table now octets unparsed done faults.Memory more so_far none = tt
reads_fault table now octets unparsed done faults.Failed more so_far none = none

-- An update is no field.
update_no_field : (table after : Entries) (octets prefix others update more : List ℕ) (maximum : ℕ)
    (field : Field) → octets ≡ prefix ++ others → Step table prefix field after
    → octets ≡ update ++ more → Update maximum update → ⊥
update_no_field table after octets prefix others update more maximum field e step d is_update =
    let first = prefix_first_octet 0x20 0x40 octets update more d is_update.0 in
    no_update_step table octets first.0 first.1 prefix others e (field, after, step)

-- An update has an octet.
update_long : (maximum : ℕ) (prefix : List ℕ) → Update maximum prefix → 0 < length prefix
update_long maximum prefix is_update = int_long 5 maximum prefix is_update.1

-- Fields don't begin as an update does.
fields_begin_otherwise : (table after : Entries) (octets : List ℕ) (fields : List Field)
    → BeginsUpdate octets → Fields table octets fields after → ⊥
fields_begin_otherwise table after octets [] begins h =
    subst (λ xs. FirstOctet 0x20 0x40 xs) h.0 begins
fields_begin_otherwise table after octets (field ∷ fields) begins
    (first, others, between, joined, step, encoded) =
    let range = prefix_first_octet 0x20 0x40 octets octets [] (sym (append-nil octets)) begins in
    no_update_step table octets range.0 range.1 first others joined (field, between, step)

-- Fields don't begin with an update.
fields_no_update : (table after : Entries) (octets update more : List ℕ) (maximum : ℕ)
    (fields : List Field) → octets ≡ update ++ more → Update maximum update
    → Fields table octets fields after → ⊥
fields_no_update table after octets update more maximum [] e is_update h =
    let long = prefix_long octets update more e (update_long maximum update is_update) in
    omega (arith, long, ap (λ (xs : List ℕ). length xs) h.0)
fields_no_update table after octets update more maximum (field ∷ fields) e is_update
    (first, others, between, joined, step, encoded) =
    update_no_field table between octets first others update more maximum field joined step e
    is_update

-- An update and a block are a block.
block_with : (table : Entries) (limit maximum : ℕ) (octets prefix others : List ℕ)
    (fields : List Field) (after : Entries) → octets ≡ prefix ++ others → Update maximum prefix
    → maximum ≤ limit → Block (resized table maximum) limit others fields after
    → Block table limit octets fields after
block_with table limit maximum octets prefix others fields after e is_update within block = record {
  maxima = maximum ∷ block.maxima;
  updated = block.updated;
  others = block.others;
  updates = (prefix, others, e, is_update, within, block.updates);
  within = block.within;
  encoded = block.encoded;
}

-- what follows the first update of a block
pub record AfterUpdate (table : Entries) (limit maximum : ℕ) (others : List ℕ) (fields : List Field)
    (after : Entries) : Type 0 where
  pub allowed : maximum ≤ limit
  pub block : Block (resized table maximum) limit others fields after

-- A block that begins with an update has it.
block_after_updates : (table : Entries) (limit maximum : ℕ) (octets prefix others : List ℕ)
    (fields : List Field) (after updated : Entries) (maxima left : List ℕ)
    → octets ≡ prefix ++ others → Update maximum prefix
    → Updates limit table octets maxima updated left → updated.maximum ≤ limit
    → Fields updated left fields after
    → AfterUpdate table limit maximum others fields after
block_after_updates table limit maximum octets prefix others fields after updated [] left e
    is_update updates within encoded =
    absurd (fields_no_update updated after left prefix others maximum fields (updates.1 ∙ e)
    is_update encoded)
block_after_updates table limit maximum octets prefix others fields after updated (one ∷ maxima)
    left e is_update (first, more, joined, one_update, allowed, updates) within encoded =
    let (prefixes, maximums) = Int-unique 5 one maximum first prefix more others one_update.1
    is_update.1 (sym joined ∙ e) in
    let rests : more ≡ others = same_following first prefix more others prefixes (sym joined ∙ e) in
    record {
      allowed = omega arith;
      block = record {
        maxima = maxima;
        updated = updated;
        others = left;
        updates = subst (λ n. Updates limit (resized table n) others maxima updated left) maximums
            (subst (λ xs. Updates limit (resized table one) xs maxima updated left) rests updates);
        within = within;
        encoded = encoded;
      };
    }

-- the same of a block
after_update : (table : Entries) (limit maximum : ℕ) (octets prefix others : List ℕ)
    (fields : List Field) (after : Entries) → octets ≡ prefix ++ others → Update maximum prefix
    → Block table limit octets fields after → AfterUpdate table limit maximum others fields after
after_update table limit maximum octets prefix others fields after e is_update block =
    block_after_updates table limit maximum octets prefix others fields after block.updated
    block.maxima block.others e is_update block.updates block.within block.encoded

module _ (table now : Entries) (limit maximum : ℕ) (octets unparsed prefix others : List ℕ) where
  -- One update more was read.
  pub updates_more : unparsed ≡ prefix ++ others → Update maximum prefix → maximum ≤ limit
      → UpdatesSoFar table limit octets now unparsed
      → UpdatesSoFar table limit octets (resized now maximum) others
  updates_more e is_update allowed so_far =
      record {
        sound = λ fields after h. so_far.sound fields after
            (block_with now limit maximum unparsed prefix others fields after e is_update allowed
            h);
        complete =
            λ fields after h. (after_update now limit maximum unparsed prefix others fields after e
            is_update (so_far.complete fields after h)).block;
      }

  -- An update above the limit is a fault.
  pub updates_above : unparsed ≡ prefix ++ others → Update maximum prefix → limit < maximum
      → UpdatesSoFar table limit octets now unparsed → NoBlock table limit octets
  updates_above e is_update above so_far = λ fields after h.
      let allowed = (after_update now limit maximum unparsed prefix others fields after e is_update
      (so_far.complete fields after h)).allowed in
      omega arith

-- The first octet of a prefix is that of the octets.
first_octet_of_prefix : (low high : ℕ) (octets prefix others : List ℕ) → octets ≡ prefix ++ others
    → FirstOctet low high prefix → FirstOctet low high octets
first_octet_of_prefix low high octets [] others e h = absurd h
first_octet_of_prefix low high octets (x ∷ prefix) others e h =
    subst (λ xs. FirstOctet low high xs) (sym e) h

-- An integer that begins as an update does is one.
pub update_read : (maximum count : ℕ) (octets : List ℕ) → BeginsUpdate octets
    → Int 5 maximum (take count octets) → Update maximum (take count octets)
update_read maximum count octets begins int =
    let range = prefix_first_octet 0x20 0x40 octets octets [] (sym (append-nil octets)) begins in (
      int_first 0x20 0x40 5 maximum octets (take count octets) (octets_after octets count)
          (split_at_count octets count) int range.0 range.1,
      int,
    )

-- Where an update should begin and no integer is, no block is.
no_update_block : (maxima : List ℕ) (table updated after : Entries) (limit : ℕ)
    (octets left : List ℕ) (fields : List Field) → BeginsUpdate octets → NoPrefix (IsInt 5) octets
    → Updates limit table octets maxima updated left → Fields updated left fields after → ⊥
no_update_block [] table updated after limit octets left fields begins none updates encoded =
    fields_begin_otherwise updated after octets fields begins
    (subst (λ xs. Fields updated xs fields after) updates.1 encoded)
no_update_block (one ∷ maxima) table updated after limit octets left fields begins none
    (first, more, joined, is_update, allowed, updates) encoded =
    none first more joined (one, is_update.1)

-- the fault of an update that can't be read
pub updates_fault : (table now : Entries) (limit : ℕ) (octets unparsed : List ℕ) (fault : Fault)
    → BeginsUpdate unparsed → UpdatesSoFar table limit octets now unparsed
    → PrefixFault (IsInt 5) unparsed fault → DecodeFault table limit octets fault
updates_fault table now limit octets unparsed faults.Compression begins so_far none =
    λ fields after h.
    let block = so_far.complete fields after h in
    no_update_block block.maxima now block.updated after limit unparsed block.others fields begins
    none block.updates block.encoded
updates_fault table now limit octets unparsed faults.Memory begins so_far none = tt
updates_fault table now limit octets unparsed faults.Failed begins so_far none = none

-- A block that begins with no update is its fields.
pub record IsFields (table : Entries) (limit : ℕ) (octets : List ℕ) (fields : List Field)
    (after : Entries) : Type 0 where
  pub within : table.maximum ≤ limit
  pub encoded : Fields table octets fields after

-- the same by the list of maxima
no_updates : (table updated after : Entries) (limit : ℕ) (octets left maxima : List ℕ)
    (fields : List Field) → (BeginsUpdate octets → ⊥)
    → Updates limit table octets maxima updated left
    → updated.maximum ≤ limit → Fields updated left fields after
    → IsFields table limit octets fields after
no_updates table updated after limit octets left [] fields none updates within encoded = record {
  within = subst (λ t. t.maximum ≤ limit) updates.0 within;
  encoded = subst (λ t. Fields t octets fields after) updates.0
      (subst (λ xs. Fields updated xs fields after) updates.1 encoded);
}
no_updates table updated after limit octets left (one ∷ maxima) fields none
    (first, more, joined, is_update, allowed, updates) within encoded =
    absurd (none (first_octet_of_prefix 0x20 0x40 octets first more joined is_update.0))

-- A block without updates.
pub block_fields : (table : Entries) (limit : ℕ) (octets : List ℕ) (fields : List Field)
    (after : Entries) → (BeginsUpdate octets → ⊥) → Block table limit octets fields after
    → IsFields table limit octets fields after
block_fields table limit octets fields after none block =
    no_updates table block.updated after limit octets block.others block.maxima fields none
    block.updates block.within block.encoded

-- Fields at a table that is within the limit are a block.
pub fields_block : (table : Entries) (limit : ℕ) (octets : List ℕ) (fields : List Field)
    (after : Entries) → table.maximum ≤ limit → Fields table octets fields after
    → Block table limit octets fields after
fields_block table limit octets fields after within encoded = record {
  maxima = [];
  updated = table;
  others = octets;
  updates = (refl, refl);
  within = within;
  encoded = encoded;
}

-- the same fields and the same table
abbrev pub SameFields : List Field → List Field → Entries → Entries → Type 0
SameFields fields others after other = (fields ≡ others) × (after ≡ other)

-- Octets are fields in one way at most.
fields_unique : (table after other : Entries) (octets : List ℕ) (fields others : List Field)
    → Fields table octets fields after → Fields table octets others other
    → SameFields fields others after other
fields_unique table after other octets [] [] a b = (refl, a.1 ∙ sym b.1)
fields_unique table after other octets [] (one ∷ others) a
    (first, more, between, joined, step, encoded) =
    absurd (let long = prefix_long octets first more joined
    (step_long table between first one step) in
    omega (arith, long, ap (λ (xs : List ℕ). length xs) a.0))
fields_unique table after other octets (field ∷ fields) others
    (first, more, between, joined, step, encoded) b =
    let (left, same, following) = fields_following table between other octets first more field
    others joined step b in
    let (rests, tables) = fields_unique between after other more fields left encoded following in
    (ap (λ (fs : List Field). field ∷ fs) rests ∙ sym same, tables)

-- Octets that are fields are no block with updates, and these fields as a block.
fields_or_block : (maxima : List ℕ) (table updated after other : Entries) (limit : ℕ)
    (octets left : List ℕ) (fields others : List Field) → Fields table octets fields after
    → Updates limit table octets maxima updated left → Fields updated left others other
    → SameFields fields others after other
fields_or_block [] table updated after other limit octets left fields others a updates b =
    fields_unique table after other octets fields others a
    (subst (λ t. Fields t octets others other) updates.0
    (subst (λ xs. Fields updated xs others other) updates.1 b))
fields_or_block (one ∷ maxima) table updated after other limit octets left fields others a
    (first, more, joined, is_update, allowed, updates) b =
    absurd (fields_no_update table after octets first more one fields joined is_update a)

-- Octets are a block in one way at most, by the list of maxima.
block_unique : (maxima : List ℕ) (table updated after other : Entries) (limit : ℕ)
    (octets left : List ℕ) (fields others : List Field)
    → Updates limit table octets maxima updated left → updated.maximum ≤ limit
    → Fields updated left fields after → Block table limit octets others other
    → SameFields fields others after other
block_unique [] table updated after other limit octets left fields others updates within encoded
    block =
    fields_or_block block.maxima table block.updated after other limit octets block.others fields
    others (subst (λ t. Fields t octets fields after) updates.0
    (subst (λ xs. Fields updated xs fields after) updates.1 encoded)) block.updates block.encoded
block_unique (one ∷ maxima) table updated after other limit octets left fields others
    (first, more, joined, is_update, allowed, updates) within encoded block =
    block_unique maxima (resized table one) updated after other limit more left fields others
    updates within encoded
    (after_update table limit one octets first more others other joined is_update block).block

-- Octets are one block at most.
pub one_block_lem : (table after other : Entries) (limit : ℕ) (octets : List ℕ)
    (fields others : List Field) → Block table limit octets fields after
    → Block table limit octets others other
    → SameFields fields others after other
one_block_lem table after other limit octets fields others a b =
    block_unique a.maxima table a.updated after other limit octets a.others fields others a.updates
    a.within a.encoded b

-- A table above the limit, and no update: no block.
pub above_limit : (table now : Entries) (limit : ℕ) (octets unparsed : List ℕ) → limit < now.maximum
    → (BeginsUpdate unparsed → ⊥) → UpdatesSoFar table limit octets now unparsed
    → NoBlock table limit octets
above_limit table now limit octets unparsed above none so_far = λ fields after h.
    let within = (block_fields now limit unparsed fields after none
    (so_far.complete fields after h)).within in
    omega arith

-- The fields after the updates are the block's.
pub block_read : (table now after : Entries) (limit : ℕ) (octets unparsed : List ℕ)
    (fields : List Field) → now.maximum ≤ limit → UpdatesSoFar table limit octets now unparsed
    → Fields now unparsed fields after → Block table limit octets fields after
block_read table now after limit octets unparsed fields within so_far encoded =
    so_far.sound fields after (fields_block now limit unparsed fields after within encoded)

-- A fault of the fields after the updates is one of the block.
pub block_fault : (table now : Entries) (limit : ℕ) (octets unparsed : List ℕ) (fault : Fault)
    → (BeginsUpdate unparsed → ⊥) → UpdatesSoFar table limit octets now unparsed
    → FieldsFault now unparsed fault → DecodeFault table limit octets fault
block_fault table now limit octets unparsed faults.Compression none so_far wrong = λ fields after h.
    wrong fields after (block_fields now limit unparsed fields after none
    (so_far.complete fields after h)).encoded
block_fault table now limit octets unparsed faults.Memory none so_far wrong = tt
block_fault table now limit octets unparsed faults.Failed none so_far wrong = wrong

-- No octet is left.
pub none_left : (n : ℕ) → true ≡ (n == 0) → n ≡ 0
none_left n e = grind (arith, nat_tests)

-- Some octet is left.
pub some_left : (n : ℕ) → false ≡ (n == 0) → n ≡ 0 → ⊥
some_left n e zero_left = false≢true (e ∙ eq-eqb n 0 zero_left)

-- Only running out of memory is a fault of a block.
pub fault_of_block : (table after : Entries) (limit : ℕ) (octets : List ℕ) (fields : List Field)
    → Block table limit octets fields after → (fault : Fault)
    → DecodeFault table limit octets fault → fault ≡ faults.Memory
fault_of_block table after limit octets fields block faults.Compression none =
    absurd (none fields after block)
fault_of_block table after limit octets fields block faults.Memory none = refl
fault_of_block table after limit octets fields block faults.Failed none = absurd none

-- Fields and then an update aren't fields.
no_fields_then_update : (table after other : Entries) (octets update others joined : List ℕ)
    (maximum : ℕ) (fields more : List Field) → joined ≡ octets ++ (update ++ others)
    → Fields table octets fields after → Update maximum update → Fields table joined more other → ⊥
no_fields_then_update table after other octets update others joined maximum [] more e a is_update
    b = fields_no_update table other joined update others maximum more
    (e ∙ ap (λ (xs : List ℕ). xs ++ (update ++ others)) a.0) is_update b
no_fields_then_update table after other octets update others joined maximum (field ∷ fields) more e
    (first, rest, between, split, step, encoded) is_update b =
    let tail = update ++ others in
    let at : joined ≡ first ++ (rest ++ tail) =
    e ∙ (ap (λ (xs : List ℕ). xs ++ tail) split ∙ append_assoc first rest tail)
    in
    let (left, same, following) =
    fields_following table between other joined first (rest ++ tail) field more at step b
    in
    no_fields_then_update between after other rest update others (rest ++ tail) maximum fields left
    refl encoded is_update following

-- the same of a block, by the maxima of its updates
no_update_by : (maxima : List ℕ) (table updated after : Entries) (limit maximum : ℕ)
    (octets left update others joined : List ℕ) (field : Field) (fields : List Field)
    → joined ≡ octets ++ (update ++ others) → Updates limit table octets maxima updated left
    → Fields updated left (field ∷ fields) after → Update maximum update
    → NoBlock table limit joined
no_update_by [] table updated after limit maximum octets left update others joined field fields e
    updates encoded is_update = λ more other block.
    let here : Fields table octets (field ∷ fields) after =
    subst (λ t. Fields t octets (field ∷ fields) after) updates.0
    (subst (λ xs. Fields updated xs (field ∷ fields) after) updates.1 encoded)
    in
    let (first, rest, between, split, step, _) = here in
    let tail = update ++ others in
    let at : joined ≡ first ++ (rest ++ tail) =
    e ∙ (ap (λ (xs : List ℕ). xs ++ tail) split ∙ append_assoc first rest tail)
    in
    let none : BeginsUpdate joined → ⊥ = λ begins.
    let range = prefix_first_octet 0x20 0x40 joined joined [] (sym (append-nil joined)) begins in
    no_update_step table joined range.0 range.1 first (rest ++ tail) at (field, between, step)
    in
    no_fields_then_update table after other octets update others joined maximum (field ∷ fields)
    more e here is_update (block_fields table limit joined more other none block).encoded
no_update_by (one ∷ maxima) table updated after limit maximum octets left update others joined field
    fields e (first, more, split, one_update, allowed, updates) encoded is_update =
    λ ms other block.
    let tail = update ++ others in
    let at : joined ≡ first ++ (more ++ tail) =
    e ∙ (ap (λ (xs : List ℕ). xs ++ tail) split ∙ append_assoc first more tail)
    in
    no_update_by maxima (resized table one) updated after limit maximum more left update others
    (more ++ tail) field fields refl updates encoded is_update ms other
    (after_update table limit one joined first (more ++ tail) ms other at one_update block).block

-- A block with a field, and then an update: no block.
pub no_update_after_fields : (table after : Entries) (limit maximum : ℕ)
    (octets update others : List ℕ) (field : Field) (fields : List Field)
    → Block table limit octets (field ∷ fields) after → Update maximum update
    → NoBlock table limit (octets ++ (update ++ others))
no_update_after_fields table after limit maximum octets update others field fields block is_update =
    no_update_by block.maxima table block.updated after limit maximum octets block.others update
    others (octets ++ (update ++ others)) field fields refl block.updates block.encoded is_update
