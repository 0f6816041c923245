-- The lines so far, and the next one.
use Rattle.h2_follow.proofs.Names.{◌≡◌, ◌∙◌, ◌++◌, ◌∷◌, ◌||◌, ℕ, [], List, refl, sym, ap, subst}
use Rattle.h2_follow.proofs.Names.{append_assoc, append-nil, Bool, true, false, arith, common_steps}
use Rattle.h2_follow.proofs.Names.{Line, Piece, Ok, take, length}
use Rattle.std.proofs.Common.{min}
use Rattle.std.specs.List.{list_all}
use Rattle.hex.specs.Hex.{decode_of}
use Rattle.h2_cli.specs.Hexadecimal.{without_blanks}
use Rattle.h2_follow.specs.declared.text.Node.{Node}
use Rattle.h2_follow.specs.declared.text.Part.{Part}
use Rattle.h2_follow.specs.declared.text.Part.TheVariants.{Head, Octets, Last}
use Rattle.h2_follow.specs.FollowText.{GivePieces, GivesPiece, LinesSoFar, is_empty_line}
use Rattle.h2_follow.specs.FollowText.{is_head_line, is_last_line, node_of, part_after}
use Rattle.h2_follow.specs.FollowText.{begins_with_space, belongs}

-- lines of octets, and one more
give_next : (lines : List Line) (pieces : List Piece) (line : Line) (piece : Piece)
    → GivePieces lines pieces → GivesPiece line piece
    → GivePieces (lines ++ line ∷ []) (pieces ++ piece ∷ [])
give_next [] [] line piece none gives = (gives, refl)
give_next [] (other ∷ pieces) line piece none gives = absurd (cc)
give_next (first ∷ lines) [] line piece given gives = absurd given
give_next (first ∷ lines) (other ∷ pieces) line piece given gives =
    (given.0, give_next lines pieces line piece given.1 gives)

-- a line that belongs is one more of those that pass
all_next : (test : Line → Bool) (lines : List Line) (line : Line) → list_all test lines ≡ true
    → test line ≡ true → list_all test (lines ++ line ∷ []) ≡ true
all_next test lines line all one = grind (arith, common_steps)

-- some lines with one more are some
some_more : (lines : List Line) (line : Line) → lines ++ line ∷ [] ≡ [] → ⊥
some_more [] line none = cc
some_more (first ∷ lines) line none = cc

-- the lines so far, and one more at their end
joined_more : (lines head given last : List Line) (line : Line) → lines ≡ head ++ (given ++ last)
    → lines ++ line ∷ [] ≡ head ++ (given ++ (last ++ line ∷ []))
joined_more lines head given last line joined =
    ap (λ (all : List Line). all ++ line ∷ []) joined
    ∙ append_assoc head (given ++ last) (line ∷ [])
    ∙ ap (λ (rest : List Line). head ++ rest) (append_assoc given last (line ∷ []))

-- the same where none have followed the octets
joined_last : (lines head given last : List Line) (line : Line) → lines ≡ head ++ (given ++ last)
    → last ≡ [] → lines ++ line ∷ [] ≡ head ++ (given ++ line ∷ [])
joined_last lines head given last line joined none =
    joined_more lines head given last line joined
    ∙ ap (λ (some : List Line). head ++ (given ++ (some ++ line ∷ []))) none

-- the pieces stay
gives_same : (given : List Line) (pieces : List Piece) → GivePieces given pieces
    → GivePieces given (pieces ++ [])
gives_same given pieces gives =
    subst (λ (all : List Piece). GivePieces given all) (sym (append-nil pieces)) gives

-- a line without octets
pub read_other : (part : Part) (lines : List Line) (pieces : List Piece) (line : Line)
    → belongs part line ≡ true → LinesSoFar part lines pieces
    → LinesSoFar (part_after part) (lines ++ line ∷ []) (pieces ++ [])
read_other Head lines pieces line passed read = record {
  head = read.head ++ line ∷ [];
  given = [];
  last = [];
  joined = joined_last lines read.head read.given read.last line read.joined read.ends.1
      ∙ ap (λ (some : List Line). read.head ++ (some ++ line ∷ [])) read.ends.0
      ∙ sym (append-nil (read.head ++ line ∷ []));
  heads = all_next is_head_line read.head line read.heads passed;
  gives = subst (λ (given : List Line). GivePieces given (pieces ++ [])) read.ends.0
      (gives_same read.given pieces read.gives);
  lasts = refl;
  ends = (refl, refl);
}
read_other Octets lines pieces line passed read = record {
  head = read.head;
  given = read.given;
  last = line ∷ [];
  joined = joined_last lines read.head read.given read.last line read.joined read.ends.1;
  heads = read.heads;
  gives = gives_same read.given pieces read.gives;
  lasts = all_next is_last_line [] line refl passed;
  ends = (read.ends.0, some_more [] line);
}
read_other Last lines pieces line passed read = record {
  head = read.head;
  given = read.given;
  last = read.last ++ line ∷ [];
  joined = joined_more lines read.head read.given read.last line read.joined;
  heads = read.heads;
  gives = gives_same read.given pieces read.gives;
  lasts = all_next is_last_line read.last line read.lasts passed;
  ends = (read.ends.0, some_more read.last line);
}

-- a line of octets where none have followed them
read_octets : (part : Part) (lines : List Line) (pieces : List Piece) (line : Line) (piece : Piece)
    → GivesPiece line piece → (read : LinesSoFar part lines pieces) → read.last ≡ []
    → LinesSoFar Octets (lines ++ line ∷ []) (pieces ++ piece ∷ [])
read_octets part lines pieces line piece gives read none = record {
  head = read.head;
  given = read.given ++ line ∷ [];
  last = [];
  joined = joined_last lines read.head read.given read.last line read.joined none
      ∙ ap (λ (some : List Line). read.head ++ some) (sym (append-nil (read.given ++ line ∷ [])));
  heads = read.heads;
  gives = give_next read.given pieces line piece read.gives gives;
  lasts = refl;
  ends = (some_more read.given line, refl);
}

or_left : (one other : Bool) → one || other ≡ false → one ≡ false
or_left true other neither = neither
or_left false other neither = refl

-- a line of octets
pub read_piece : (part : Part) (lines : List Line) (pieces : List Piece) (line : Line)
    (node : Node) (octets : List ℕ) → (part ≡ Last → ⊥) → belongs part line ≡ false
    → begins_with_space line ≡ false → node ≡ node_of line
    → decode_of (without_blanks line) ≡ Ok octets → LinesSoFar part lines pieces
    → LinesSoFar Octets (lines ++ line ∷ []) (pieces ++ (node, octets) ∷ [])
read_piece Head lines pieces line node octets inside other begins node_is decoded read =
    read_octets Head lines pieces line (node, octets)
    (or_left (is_empty_line line) _ (or_left (is_last_line line) _ other), begins, node_is, decoded)
    read read.ends.1
read_piece Octets lines pieces line node octets inside other begins node_is decoded read =
    read_octets Octets lines pieces line (node, octets)
    (or_left (is_empty_line line) _ other, begins, node_is, decoded) read read.ends.1
read_piece Last lines pieces line node octets inside other begins node_is decoded read =
    absurd (inside refl)

-- the first octets, of which there may be fewer
pub take_least : (octets : List ℕ) (count : ℕ)
    → take (min (length octets) count) octets ≡ take count octets
take_least octets count = grind (arith, common_steps)
