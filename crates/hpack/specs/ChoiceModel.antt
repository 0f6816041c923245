-- What the code of the encoder chooses, as the choices and updates of the definitions.
use Rattle.std.specs.Prelude.{ℕ, ◌/◌, ◌<◌, ◌≤◌, List, [], ◌∷◌}
use Rattle.hpack.specs.declared.encode.choice.Choice.{Choice as Chosen}
use Rattle.hpack.specs.declared.encode.choice.Choice.TheVariants.{Indexed, Literal}
use Rattle.hpack.specs.declared.types.literal.Literal.TheVariants.{WithIndexing, WithoutIndexing}
use Rattle.hpack.specs.declared.types.literal.Literal.TheVariants.{NeverIndexed}
use Rattle.hpack.specs.declared.encode.size_updates.SizeUpdates.{SizeUpdates}
use Rattle.hpack.specs.declared.encode.size_updates.SizeUpdates.TheVariants.{Nothing, Once, Twice}
use Rattle.hpack.specs.declared.types.chains.Hashes.{Hashes}
use Rattle.hpack.specs.Choice.{Choice, indexed, literal}
use Rattle.hpack.specs.Chains.{AreHashes}

-- the choice
abbrev pub choice_of : Chosen → Choice
choice_of (Indexed index) = indexed index
choice_of (Literal kind index) = literal kind index

-- the index that is written
abbrev pub index_of : Chosen → ℕ
index_of (Indexed index) = index
index_of (Literal kind index) = index

-- What is added isn't larger than the maximum.
abbrev pub FitsIfAdded : Chosen → ℕ → ℕ → Type 0
FitsIfAdded (Indexed index) size maximum = Unit {0}
FitsIfAdded (Literal WithIndexing index) size maximum = size ≤ maximum
FitsIfAdded (Literal WithoutIndexing index) size maximum = Unit {0}
FitsIfAdded (Literal NeverIndexed index) size maximum = Unit {0}

-- What is added has these hashes.
abbrev pub HashedIfAdded : Chosen → Hashes → List ℕ → List ℕ → Type 0
HashedIfAdded (Indexed index) hashes name value = Unit {0}
HashedIfAdded (Literal WithIndexing index) hashes name value = AreHashes hashes name value
HashedIfAdded (Literal WithoutIndexing index) hashes name value = Unit {0}
HashedIfAdded (Literal NeverIndexed index) hashes name value = Unit {0}

-- There is room for tables with these maxima, where the number of their entries is below this one.
abbrev pub AreBelow : SizeUpdates → ℕ → Type 0
AreBelow Nothing capacity = Unit {0}
AreBelow (Once maximum) capacity = maximum / 32 < capacity
AreBelow (Twice first last) capacity = (first / 32 < capacity) × (last / 32 < capacity)

-- the maxima of the updates
abbrev pub maxima_of : SizeUpdates → List ℕ
maxima_of Nothing = []
maxima_of (Once maximum) = maximum ∷ []
maxima_of (Twice first last) = first ∷ last ∷ []
