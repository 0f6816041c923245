-- The blocks of the examples: what is written for lists, at which tables and limits it decodes, and
-- which tables it leaves.
use Rattle.h2_laws_pair.proofs.Names.{◌≡◌, ℕ, ◌^◌, nat_lt, nat_le, true, List, refl, codes, Field}
use Rattle.h2_laws_pair.proofs.Names.{Block, block_of, after_block, EncoderState, empty_table}
use Rattle.h2_laws_pair.proofs.Names.{list_size, Entries, block_encodes, computing, octets}
use Rattle.h2_laws_pair.proofs.Names.{short_answer, [], ◌∷◌, remembered_answer}
use Rattle.hpack.specs.Sizes.{table_size}
use Rattle.h2_spec_log.proofs.examples.Coming.{are_octets, fields_are_octets, fields_are, within}
use Rattle.h2_frame.proofs.EncodingLemmas.{below_test as below}

-- What an encoder writes, whose limits and table are tested.
block_written : (state : EncoderState) (limit : ℕ) (fields : List Field)
    → nat_le state.least state.limit ≡ true → nat_lt state.limit (2 ^ 32) ≡ true
    → nat_lt state.table.maximum (2 ^ 32) ≡ true
    → nat_le (table_size state.table.entries) state.table.maximum ≡ true
    → fields_are_octets fields ≡ true → nat_lt (list_size fields) (2 ^ 35) ≡ true
    → nat_le state.limit limit ≡ true
    → Block state.table limit (block_of state fields) fields (after_block state fields).table
block_written state limit fields least small maximum size octets few le =
    block_encodes state limit fields (record {
      least = within _ _ least;
      limit = below _ _ small;
      maximum = below _ _ maximum;
      within = within _ _ size;
    }) (fields_are fields octets) (below _ _ few) (within _ _ le)

-- the table that has the answer's second field
abbrev pub remembering_table : Entries
remembering_table =
    record { entries = record { name = codes "x"; value = codes "y" } ∷ []; maximum = 4096 }

-- An answer, once the limit has become 0: a size update precedes it.
pub tableless_answer : Block (empty_table 4096) 0 (octets (codes "2088")) short_answer
    (empty_table 0)
unfolding computing are_octets fields_are_octets
tableless_answer =
    block_written (record { table = empty_table 4096; least = 0; limit = 0 }) 0 short_answer
    refl refl refl refl refl refl refl

-- An answer whose second field joins the table.
pub remembered_block : Block (empty_table 4096) 4096 (octets (codes "884081f381f5"))
    remembered_answer remembering_table
unfolding computing are_octets fields_are_octets
remembered_block =
    block_written (record { table = empty_table 4096; least = 4096; limit = 4096 }) 4096
    remembered_answer refl refl refl refl refl refl refl

-- The same answer, once the limit has become 0: the table loses all, and the field isn't added.
pub forgetting_block : Block remembering_table 0 (octets (codes "20880081f381f5"))
    remembered_answer (empty_table 0)
unfolding computing are_octets fields_are_octets
forgetting_block =
    block_written (record { table = remembering_table; least = 0; limit = 0 }) 0
    remembered_answer refl refl refl refl refl refl refl

-- An answer, once the limit is 4,096 again.
pub growing_answer : Block (empty_table 0) 4096 (octets (codes "3fe11f88")) short_answer
    (empty_table 4096)
unfolding computing are_octets fields_are_octets
growing_answer =
    block_written (record { table = empty_table 0; least = 0; limit = 4096 }) 4096 short_answer
    refl refl refl refl refl refl refl
