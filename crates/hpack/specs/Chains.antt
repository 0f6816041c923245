-- Chains through the entries of a table: from a bucket to the newest entry in it, and from each
-- entry to the next older one in its bucket.
use Rattle.std.specs.Prelude.{◌≡◌, ◌≢◌, ℕ, zero, suc, ◌-◌, ◌<◌, List, [], ◌∷◌, length}
use Rattle.std.specs.Prelude.{get_or}
use Rattle.hpack.specs.Entry.{Entry}
use Rattle.hpack.specs.declared.encode.search.Sought.{Sought}
use Rattle.hpack.specs.declared.encode.search.Sought.TheVariants.{Exact, Name}
use Rattle.hpack.specs.declared.types.chains.Chains.{Chains}
use Rattle.hpack.specs.declared.types.chains.Index.{Index}
use Rattle.hpack.specs.declared.types.chains.Hashes.{Hashes}
use Rattle.hpack.specs.Hashes.{hash_from, bucket_of}

-- The first of the entries in the bucket is the one at this place. Where there is no entry at the
-- place, none is in the bucket.
-- rule: HPACK 6.1 (own) A field with an exact entry is its least index
unfoldable pub LeadsTo : (Entry → ℕ) → ℕ → List Entry → ℕ → Type 0
LeadsTo bucket sought [] place = Unit {0}
LeadsTo bucket sought (one ∷ others) zero = bucket one ≡ sought
LeadsTo bucket sought (one ∷ others) (suc place) =
    (bucket one ≢ sought) × LeadsTo bucket sought others place

-- Each entry leads to the next one in its bucket: the number says how many entries lie between.
unfoldable pub AreLinked : (Entry → ℕ) → List Entry → List ℕ → Type 0
AreLinked bucket [] skips = Unit {0}
AreLinked bucket (one ∷ others) [] = ⊥
AreLinked bucket (one ∷ others) (skip ∷ skips) =
    LeadsTo bucket (bucket one) others skip × AreLinked bucket others skips

-- Each bucket leads to its newest entry, which is named by how many were pushed up to it.
abbrev pub AreHeads : (Entry → ℕ) → List Entry → List ℕ → ℕ → Type 0
AreHeads bucket entries newest pushed = (one : ℕ) → one < length newest
    → LeadsTo bucket one entries (pushed - get_or newest one 0)

-- The chains are those of the entries, newest first.
pub record AreChains (bucket : Entry → ℕ) (entries : List Entry) (chains : Chains) : Type 0 where
  pub heads : AreHeads bucket entries chains.newest.items chains.pushed
  pub linked : AreLinked bucket entries chains.skips.items

-- the hash of what is sought: of a name, or of a name and a value
abbrev pub sought_hash : Sought → List ℕ → List ℕ → ℕ
sought_hash Exact name value = hash_from (hash_from 0 name) value
sought_hash Name name value = hash_from 0 name

-- the bucket of an entry, among so many
abbrev pub bucket_by : Sought → ℕ → Entry → ℕ
bucket_by sought count one = bucket_of count (sought_hash sought one.name one.value)

-- the bucket of an entry's name, among those of the static table's names
abbrev pub name_bucket : Entry → ℕ
name_bucket one = bucket_of 128 (hash_from 0 one.name)

-- The chains by names, and those by names and values, are those of the entries.
-- rule: HPACK 6.1 (own) A field with an exact entry is its least index
pub record IsIndexOf (index : Index) (entries : List Entry) : Type 0 where
  pub names : AreChains (bucket_by Name (length index.names.newest.items)) entries index.names
  pub exacts : AreChains (bucket_by Exact (length index.exacts.newest.items)) entries index.exacts

-- the hashes of a name and a value
pub record AreHashes (hashes : Hashes) (name value : List ℕ) : Type 0 where
  pub of_name : hashes.name ≡ sought_hash Name name value
  pub of_both : hashes.exact ≡ sought_hash Exact name value
