-- A client writes DATA only on a stream that it has opened before, so that whoever has read DATA on
-- a stream has read what opened it.
use Rattle.h2_laws_pair.proofs.Names.{◌≡◌, inl, inr, ℕ, false, List, [], ◌∷◌, ◌++◌, refl, ap, ◌∙◌}
use Rattle.h2_laws_pair.proofs.Names.{arith, list_any, both_ways, or_parts, Data, Item, alone}
use Rattle.h2_laws_pair.proofs.Names.{Client, data_on, is_block_on, total, AllowedHistory}
use Rattle.h2_laws_pair.proofs.Names.{total_none, total_one}
use Rattle.std.proofs.lemmas.Bool.{false_from_ne_true}
use Rattle.h2_laws_log.proofs.AllowedHistories.{wrote_front}
use Rattle.h2_laws_pair.proofs.HeardGoAways.{speaks}
use Rattle.h2_laws_pair.proofs.HeardMessages.{spoken_opened}

-- Items that are no part of a message on the stream take nothing of its window.
item_takes : (i : ℕ) (item : Item) → speaks i item ≡ false → data_on i item ≡ 0
unfolding data_on speaks
item_takes i (alone (Data stream end octets pad)) silent = rw silent refl
item_takes i item silent = refl

silent_takes : (i : ℕ) (items : List Item) → list_any (speaks i) items ≡ false
    → total (data_on i) items ≡ 0
silent_takes i [] silent = total_none (data_on i)
silent_takes i (item ∷ items) silent =
    let parts = or_parts (speaks i item) (list_any (speaks i) items) silent in
    omega (arith, total_one, item_takes i item parts.0, silent_takes i items parts.1)

-- Nothing is taken of a stream that a client hasn't opened.
unopened_takes : (i : ℕ) (received sent : List Item) → AllowedHistory Client received sent
    → list_any (is_block_on i) sent ≡ false → total (data_on i) sent ≡ 0
unopened_takes i received sent history none =
    silent_takes i sent (false_from_ne_true _ (λ spoken.
    both_ways _ none (spoken_opened Client i received sent history spoken).opened))

-- And the oldest of it.
pub unopened_read : (i : ℕ) (received sent way older : List Item)
    → AllowedHistory Client received sent → sent ≡ way ++ older
    → list_any (is_block_on i) older ≡ false → total (data_on i) older ≡ 0
unopened_read i received sent way older history joined none =
    elim (wrote_front Client received way older sent history joined) [
      | inl nothing ↦ ap (total (data_on i)) nothing ∙ total_none (data_on i)
      | inr some ↦ unopened_takes i some.0 older some.1 none
    ]
