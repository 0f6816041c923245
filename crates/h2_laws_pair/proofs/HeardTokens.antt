-- The tokens of items, with one list for each field block.
use Rattle.std.proofs.Common.{map as each}
use Rattle.h2_laws_pair.proofs.Names
use Names.{◌≡◌, ℕ, ◌==◌, if◌then◌else◌, List, [], ◌∷◌, ◌++◌, length, refl, sym, ap, ◌∙◌}
use Names.{append_assoc, append-nil, arith, Field, Frame, Data, Item, alone, block, block_count}
use Names.{Token, FieldsToken, OctetToken, end_tokens, tokens_written, IsPrefixOfTokens}

-- what a frame that is no part of a field block carries on the stream
unfoldable pub frame_tokens : ℕ → Frame → List Token
frame_tokens i (Data stream end octets pad) =
    if stream == i then each OctetToken octets ++ end_tokens end else []
frame_tokens i frame = []

-- what an item carries on the stream; a field block carries this list
unfoldable pub item_tokens : ℕ → Item → List Field → List Token
item_tokens i (block stream end octets) list =
    if stream == i then FieldsToken list end ∷ end_tokens end else []
item_tokens i (alone frame) list = frame_tokens i frame

-- An item that is no field block adds what its frame carries.
pub alone_adds : (i : ℕ) (frame : Frame) (items : List Item) (lists : List (List Field))
    → tokens_written i (alone frame ∷ items) lists
    ≡ tokens_written i items lists ++ item_tokens i (alone frame) []
unfolding tokens_written item_tokens frame_tokens
alone_adds i (Data stream end octets pad) items lists = refl
alone_adds i frame items lists = sym (append-nil (tokens_written i items lists))

-- Where the newer items have as many lists as blocks, their tokens follow those of the others.
pub tokens_split : (i : ℕ) (newer older : List Item) (lists others : List (List Field))
    → length lists ≡ block_count newer → tokens_written i (newer ++ older) (lists ++ others)
    ≡ tokens_written i older others ++ tokens_written i newer lists
unfolding tokens_written item_tokens block_count
tokens_split i [] older [] others many = sym (append-nil (tokens_written i older others))
tokens_split i [] older (list ∷ lists) others many = absurd (omega (arith, many))
tokens_split i (alone frame ∷ newer) older lists others many =
    rw (
      alone_adds i frame (newer ++ older) (lists ++ others),
      tokens_split i newer older lists others many,
      alone_adds i frame newer lists,
      append_assoc,
    ) refl
tokens_split i (block stream end octets ∷ newer) older [] others many = absurd (omega (arith, many))
tokens_split i (block stream end octets ∷ newer) older (list ∷ lists) others many =
    rw (tokens_split i newer older lists others (omega arith), append_assoc) refl

-- A list is a prefix of itself.
pub prefix_same : (tokens whole : List Token) → tokens ≡ whole → IsPrefixOfTokens tokens whole
prefix_same tokens whole same = ([], sym same ∙ sym (append-nil tokens))

-- A prefix is one of what goes on.
pub prefix_more : (tokens whole more : List Token) → IsPrefixOfTokens tokens whole
    → IsPrefixOfTokens tokens (whole ++ more)
prefix_more tokens whole more (rest, is) =
    (rest ++ more, ap (λ (line : List Token). line ++ more) is ∙ append_assoc tokens rest more)
