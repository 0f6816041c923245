-- The index of a table's entries.
use Rattle.hpack.proofs.Names
use Names.{◌≡◌, ℕ, suc, ◌+◌, ◌-◌, ◌<◌, ◌≤◌, ◌⊎◌, inl, inr, List, [], ◌∷◌, ◌++◌, length, take, drop}
use Names.{Some, sym, ap, ◌∙◌, subst, arith, reverse, true, and_parts, slice_get, drop_more}
use Names.{get_or_from_slice_get, drop_of_length-le, Entry, Exact, Name, Field, Sought, fit}
use Names.{same_octets, is_sought, bucket_of, LeadsTo, AreLinked, AreChains, IsIndexOf, bucket_by}
use Rattle.std.proofs.lemmas.List.{reverse-append}
use Rattle.hpack.specs.declared.types.chains.Chains.{Chains}
use Rattle.hpack.specs.declared.types.chains.Index.{Index}
use Rattle.hpack.specs.Chains.{sought_hash}
use Rattle.hpack.proofs.ChainLemmas.{leads_prefix, linked_prefix}
use Rattle.hpack.proofs.SizeLemmas.{fit-prefix}
use Rattle.hpack.proofs.WrittenTables.{same_octets-true}

-- All chains are those of no entries.
pub chains_empty : (bucket : Entry → ℕ) (chains : Chains) → AreChains bucket [] chains
unfolding LeadsTo AreLinked
chains_empty bucket chains = record { heads = λ one lt. tt; linked = tt }

-- Every index is that of no entries.
pub index_empty : (index : Index) (entries : List Entry) → entries ≡ [] → IsIndexOf index entries
index_empty index entries none =
    subst (λ (es : List Entry). IsIndexOf index es) (sym none) (record {
      names = chains_empty (bucket_by Name (length index.names.newest.items)) index.names;
      exacts = chains_empty (bucket_by Exact (length index.exacts.newest.items)) index.exacts;
    })

-- The chains are those of the entries that are left.
chains_prefix : (bucket : Entry → ℕ) (entries others : List Entry) (chains : Chains)
    → AreChains bucket (entries ++ others) chains → AreChains bucket entries chains
chains_prefix bucket entries others chains are = record {
  heads = λ one lt. leads_prefix bucket one entries others _ (are.heads one lt);
  linked = linked_prefix bucket entries others chains.skips.items are.linked;
}

-- The index is that of the entries that are left.
pub index_prefix : (index : Index) (all entries others : List Entry) → all ≡ entries ++ others
    → IsIndexOf index all → IsIndexOf index entries
index_prefix index all entries others split is =
    let both = subst (λ (es : List Entry). IsIndexOf index es) split is in
    record {
      names = chains_prefix (bucket_by Name (length index.names.newest.items)) entries others
          index.names both.names;
      exacts = chains_prefix (bucket_by Exact (length index.exacts.newest.items)) entries others
          index.exacts both.exacts;
    }

-- the entries from one place further to the front on
pub drop_back : (entries : List Entry) (place : ℕ) (one : Entry) → 0 < place
    → place ≤ length entries → slice_get entries (place - 1) ≡ Some one
    → drop (place - 1) entries ≡ one ∷ drop place entries
drop_back entries place one some within is =
    let next : place - 1 + 1 ≡ place = omega arith in
    drop_more entries (place - 1) one (omega arith)
    ∙ (ap (λ (e : Entry). e ∷ drop (place - 1 + 1) entries)
    (get_or_from_slice_get entries (place - 1) one one is)
    ∙ ap (λ (n : ℕ). one ∷ drop n entries) next)

-- No entry is left at the end.
pub drop_end : (entries : List Entry) (place : ℕ) → length entries ≤ place
    → drop place entries ≡ []
drop_end entries place past = drop_of_length-le entries past

-- A place that names no entry is the first.
pub drop_all : (index : Index) (entries : List Entry) (place : ℕ)
    → (place ≡ 0) ⊎ (length entries < place) → place ≤ length entries
    → IsIndexOf index (drop place entries) → IsIndexOf index entries
drop_all index entries place (inl first) within is =
    subst (λ (n : ℕ). IsIndexOf index (drop n entries)) first is
drop_all index entries place (inr past) within is = absurd (omega arith)

-- What is sought has the field's name.
pub sought_name : (sought : Sought) (field : Field) (one : Entry)
    → is_sought sought field one ≡ true → one.name ≡ field.name
sought_name Exact field one same =
    same_octets-true one.name field.name
    (and_parts (same_octets one.name field.name) (same_octets one.value field.value) same).0
sought_name Name field one same = same_octets-true one.name field.name same

-- What is sought is in the bucket of its hash.
pub sought_bucket : (sought : Sought) (field : Field) (count hash : ℕ)
    → hash ≡ sought_hash sought field.name field.value → (one : Entry)
    → is_sought sought field one ≡ true → bucket_by sought count one ≡ bucket_of count hash
sought_bucket Exact field count hash is one same =
    let both = and_parts (same_octets one.name field.name) (same_octets one.value field.value) same
    in
    let name : one.name ≡ field.name = same_octets-true one.name field.name both.0 in
    let value : one.value ≡ field.value = same_octets-true one.value field.value both.1 in
    ap (λ (n : List ℕ). bucket_of count (sought_hash Exact n one.value)) name
    ∙ (ap (λ (v : List ℕ). bucket_of count (sought_hash Exact field.name v)) value
    ∙ sym (ap (bucket_of count) is))
sought_bucket Name field count hash is one same =
    let name : one.name ≡ field.name = same_octets-true one.name field.name same in
    ap (λ (n : List ℕ). bucket_of count (sought_hash Name n one.value)) name
    ∙ sym (ap (bucket_of count) is)

-- The index is that of the entries that fit.
pub index_fit : (index : Index) (all fitting : List Entry) (bound : ℕ) → fitting ≡ fit all bound
    → IsIndexOf index all → IsIndexOf index fitting
index_fit index all fitting bound same is =
    let (left, split) = fit-prefix all bound in
    subst (λ (es : List Entry). IsIndexOf index es) (sym same)
    (index_prefix index all (fit all bound) left split is)

-- One entry more.
pub added_length : (added new_added own : List Entry) (entry : Entry)
    → new_added ≡ added ++ entry ∷ []
    → length (reverse new_added ++ own) ≡ length (reverse added ++ own) + 1
added_length added new_added own entry more =
    let first : reverse new_added ++ own ≡ entry ∷ (reverse added ++ own) =
    ap (λ (es : List Entry). reverse es ++ own) more
    ∙ ap (λ (es : List Entry). es ++ own) (reverse-append added (entry ∷ [])) in
    omega (arith, ap (λ (es : List Entry). length es) first)

-- The index is that of the entries that fit, with the one that was added.
pub index_added : (index : Index) (added new_added own : List Entry) (entry : Entry)
    (live left bound : ℕ) → new_added ≡ added ++ entry ∷ []
    → take left (reverse new_added ++ own) ≡ fit (take (live + 1) (reverse new_added ++ own)) bound
    → IsIndexOf index (entry ∷ take live (reverse added ++ own))
    → IsIndexOf index (take left (reverse new_added ++ own))
index_added index added new_added own entry live left bound more fitting is =
    let first : reverse new_added ++ own ≡ entry ∷ (reverse added ++ own) =
    ap (λ (es : List Entry). reverse es ++ own) more
    ∙ ap (λ (es : List Entry). es ++ own) (reverse-append added (entry ∷ [])) in
    let next : live + 1 ≡ suc live = omega arith in
    let all : take (live + 1) (reverse new_added ++ own)
    ≡ entry ∷ take live (reverse added ++ own) = ap (λ (es : List Entry). take (live + 1) es) first
    ∙ ap (λ (n : ℕ). take n (entry ∷ (reverse added ++ own))) next in
    index_fit index (take (live + 1) (reverse new_added ++ own))
    (take left (reverse new_added ++ own)) bound fitting
    (subst (λ (es : List Entry). IsIndexOf index es) (sym all) is)
