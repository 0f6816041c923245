-- A complete block that is written by a pending table.
use Rattle.hpack.proofs.Names.{◌≡◌, ℕ, List, [], ◌++◌, sym, ap, ◌∙◌, append_assoc, flat_map}
use Rattle.hpack.proofs.Names.{integer, Entry, Field, PendingTable, Entries, EncoderState}
use Rattle.hpack.proofs.Names.{encoding_of_fields, after_fields, size_updates, after_updates}
use Rattle.hpack.proofs.Names.{block_of, after_block, represented, all_added, PreservesAdded}

-- A pending table was made of the encoder's, and the updates were applied to it.
pub record IsBegun (state : EncoderState) (maxima : List ℕ) (begun updated : PendingTable) : Type 0
  where
    pub due : maxima ≡ size_updates state
    pub same : represented begun state.table ≡ state.table
    pub updates : represented updated state.table
        ≡ after_updates (represented begun state.table) maxima

module _ (state : EncoderState) (maxima : List ℕ) (begun updated : PendingTable) where
  -- the pending table after the updates
  begun_table : IsBegun state maxima begun updated
      → represented updated state.table ≡ after_updates state.table (size_updates state)
  begun_table is = is.updates ∙ (ap (λ (t : Entries). after_updates t maxima) is.same
      ∙ ap (λ (ns : List ℕ). after_updates state.table ns) is.due)

  -- The updates and the fields are the block.
  pub block_is_written : (fields : List Field) (old between new : List ℕ)
      → IsBegun state maxima begun updated → between ≡ old ++ flat_map (integer 5 0x20) maxima
      → new ≡ between ++ encoding_of_fields (represented updated state.table) fields
      → new ≡ old ++ block_of state fields
  unfolding block_of
  block_is_written fields old between new is first then =
      let updates = flat_map (integer 5 0x20) (size_updates state) in
      let rest = encoding_of_fields (after_updates state.table (size_updates state)) fields in
      then ∙ (ap (λ (t : Entries). between ++ encoding_of_fields t fields) (begun_table is)
      ∙ (ap (λ (o : List ℕ). o ++ rest) (first ∙ ap
      (λ (ns : List ℕ). old ++ flat_map (integer 5 0x20) ns) is.due)
      ∙ append_assoc old updates rest))

-- an encoder after a block
encoder_after : EncoderState → Entries → EncoderState
encoder_after state table = record { table = table; least = state.limit; limit = state.limit }

-- Where the updates and the additions are applied to the table, it is the one after the block.
pub block_is_done : (state : EncoderState) (maxima : List ℕ) (begun updated ended : PendingTable)
    (fields : List Field) (between table : Entries) → IsBegun state maxima begun updated
    → begun.added.items ≡ [] → updated.added ≡ begun.added
    → PreservesAdded state.table updated ended
    → represented ended state.table ≡ after_fields (represented updated state.table) fields
    → between ≡ after_updates state.table maxima → table ≡ all_added between ended.added.items
    → record { table = table; least = state.limit; limit = state.limit } ≡ after_block state fields
unfolding after_block encoder_after
block_is_done state maxima begun updated ended fields between table is none same_added preserves
    after updates added =
    let start : represented updated state.table ≡ after_updates state.table (size_updates state) =
    begun_table state maxima begun updated is in
    let nothing : all_added between updated.added.items ≡ between =
    ap (λ v. all_added between v.items) same_added
    ∙ ap (λ (es : List Entry). all_added between es) none in
    let same : between ≡ represented updated state.table = updates
    ∙ (ap (λ (ns : List ℕ). after_updates state.table ns) is.due ∙ sym start) in
    ap (λ (t : Entries). encoder_after state t) (added
    ∙ (preserves between (nothing ∙ same) ∙ (after
    ∙ ap (λ (t : Entries). after_fields t fields) start)))
