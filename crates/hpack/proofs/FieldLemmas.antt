-- Fields that are written one after another.
use Rattle.hpack.proofs.Names.{◌≡◌, ℕ, ◌+◌, ◌<◌, ◌≤◌, List, ◌++◌, length, drop, sym, ap, ◌∙◌}
use Rattle.hpack.proofs.Names.{get_or, append_assoc, append-nil, drop_more, drop_of_length-le}
use Rattle.hpack.proofs.Names.{IsExtended, Field, Entries, choice, encoding_of_field, after_choice}
use Rattle.hpack.proofs.Names.{encoding_of_fields, after_fields}

module _ (table : Entries) (fields : List Field) (index : ℕ) (field : Field) where
  -- what is written for fields, the first of them first
  encoding_of_field-drop : index < length fields → field ≡ get_or fields index field
      → encoding_of_fields table (drop index fields) ≡ encoding_of_field (choice table field) field
      ++ encoding_of_fields (after_choice table (choice table field) field)
      (drop (index + 1) fields)
  unfolding encoding_of_fields
  encoding_of_field-drop lt is = ap (encoding_of_fields table) (drop_more fields index field lt)
      ∙ ap (λ (f : Field). encoding_of_field (choice table f) f
      ++ encoding_of_fields (after_choice table (choice table f) f) (drop (index + 1) fields))
      (sym is)

  -- the table after fields, the first of them first
  after-drop : index < length fields → field ≡ get_or fields index field
      → after_fields table (drop index fields) ≡ after_fields
      (after_choice table (choice table field) field) (drop (index + 1) fields)
  unfolding after_fields
  after-drop lt is = ap (after_fields table) (drop_more fields index field lt)
      ∙ ap (λ (f : Field). after_fields (after_choice table (choice table f) f)
      (drop (index + 1) fields)) (sym is)

-- One more field is written.
pub write_step : (old out new : List ℕ) (table after : Entries) (fields : List Field) (index : ℕ)
    (field : Field) (all : List ℕ) → index < length fields → field ≡ get_or fields index field
    → new ≡ out ++ encoding_of_field (choice table field) field
    → after ≡ after_choice table (choice table field) field
    → out ++ encoding_of_fields table (drop index fields) ≡ all
    → new ++ encoding_of_fields after (drop (index + 1) fields) ≡ all
write_step old out new table after fields index field all lt is wrote changed so_far =
    let rest = drop (index + 1) fields in
    ap (λ (o : List ℕ). o ++ encoding_of_fields after rest) wrote
    ∙ (append_assoc out (encoding_of_field (choice table field) field)
    (encoding_of_fields after rest)
    ∙ (ap (λ (t : Entries). out ++ (encoding_of_field (choice table field) field
    ++ encoding_of_fields t rest)) changed
    ∙ (ap (λ (o : List ℕ). out ++ o) (sym (encoding_of_field-drop table fields index field lt is))
    ∙ so_far)))

-- The table after one more field.
pub after_step : (table after end : Entries) (fields : List Field) (index : ℕ) (field : Field)
    → index < length fields → field ≡ get_or fields index field
    → after ≡ after_choice table (choice table field) field
    → after_fields table (drop index fields) ≡ end
    → after_fields after (drop (index + 1) fields) ≡ end
after_step table after end fields index field lt is changed so_far =
    ap (λ (t : Entries). after_fields t (drop (index + 1) fields)) changed
    ∙ (sym (after-drop table fields index field lt is) ∙ so_far)

-- All fields are written.
pub write_end : (out all : List ℕ) (table : Entries) (fields : List Field) (index : ℕ)
    → length fields ≤ index → out ++ encoding_of_fields table (drop index fields) ≡ all → out ≡ all
unfolding encoding_of_fields
write_end out all table fields index past so_far =
    sym (append-nil out)
    ∙ (ap (λ (f : List Field). out ++ encoding_of_fields table f)
    (sym (drop_of_length-le fields past)) ∙ so_far)

-- The table after all fields.
pub after_end : (table end : Entries) (fields : List Field) (index : ℕ) → length fields ≤ index
    → after_fields table (drop index fields) ≡ end → table ≡ end
unfolding after_fields
after_end table end fields index past so_far =
    ap (after_fields table) (sym (drop_of_length-le fields past)) ∙ so_far

-- What was added twice was added.
pub extended_more : (old out new more : List ℕ) → IsExtended old out → new ≡ out ++ more
    → IsExtended old new
extended_more old out new more (added, is) wrote =
    (added ++ more, wrote ∙ (ap (λ (o : List ℕ). o ++ more) is ∙ append_assoc old added more))
