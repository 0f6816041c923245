-- The lines of a text, one after another.
use Rattle.h2_follow.proofs.Names.{◌≡◌, ◌≢◌, ◌∙◌, ◌++◌, ◌∷◌, ◌+◌, ℕ, [], List, refl, sym, ap, subst}
use Rattle.h2_follow.proofs.Names.{length, Option, Some, None, IfSome, Line, Piece, arith}
use Rattle.h2_follow.proofs.Names.{common_steps}
use Rattle.h2_follow.specs.declared.text.Part.TheVariants.{Head}
use Rattle.std.specs.Io.BufRead.{take_through, drop_through, DropsThrough}
use Rattle.std.specs.Io.KnownBytes.{IsAtEnd}
use Rattle.h2_follow.specs.declared.text.Part.{Part}
use Rattle.h2_follow.specs.FollowText.{BeginsWithLines, FollowText, LinesSoFar}
use Rattle.h2_follow.specs.Follower.{ReadsLines}

-- a text begins with one more line
begins_next : (text rest : List ℕ) (lines : List Line) (line : Line)
    → BeginsWithLines text lines rest → rest ≢ [] → line ≡ take_through 10 rest
    → BeginsWithLines text (lines ++ line ∷ []) (drop_through 10 rest)
begins_next text rest [] line begins some is = (
  λ none. some (begins ∙ none),
  is ∙ ap (take_through 10) begins,
  ap (drop_through 10) begins,
)
begins_next text rest (first ∷ lines) line begins some is =
    (begins.0, begins.1, begins_next (drop_through 10 text) rest lines line begins.2 some is)

-- where a line has octets, some were left
some_left : (rest line : List ℕ) → line ≡ take_through 10 rest → length line ≢ 0 → rest ≢ []
some_left rest line is some none =
    some (ap length (is ∙ ap (take_through 10) none))

-- a line is read
pub reads_next : (before middle after : Option (List ℕ)) (lines : List Line)
    (cleared line : List ℕ) → ReadsLines before middle lines → cleared ≡ []
    → IfSome middle (λ left. line ≡ cleared ++ take_through 10 left)
    → DropsThrough middle after 10 → length line ≢ 0
    → ReadsLines before after (lines ++ line ∷ [])
reads_next None middle after lines cleared line reads none is rest some = tt
reads_next (Some text) None after lines cleared line reads none is rest some = absurd reads
reads_next (Some text) (Some left) after lines cleared line reads none is rest some =
    let taken : line ≡ take_through 10 left =
    is ∙ ap (λ (first : List ℕ). first ++ take_through 10 left) none in
    subst (λ (known : Option (List ℕ)). ReadsLines (Some text) known (lines ++ line ∷ []))
    (sym rest)
    (begins_next text left lines line reads (some_left left line taken some) taken)

-- all lines are read
pub text_read : (before after : Option (List ℕ)) (lines : List Line) (part : Part)
    (pieces : List Piece) → ReadsLines before after lines → IsAtEnd after
    → LinesSoFar part lines pieces → IfSome before (λ text. FollowText text pieces)
text_read None after lines part pieces reads ended read = tt
text_read (Some text) None lines part pieces reads ended read = absurd reads
text_read (Some text) (Some rest) lines part pieces reads ended read = record {
  part = part;
  lines = lines;
  begins = subst (λ (left : List ℕ). BeginsWithLines text lines left) ended reads;
  read = read;
}

-- before any line is read
pub none_read : (known : Option (List ℕ)) → ReadsLines known known []
none_read None = tt
none_read (Some text) = refl

pub read_none : LinesSoFar Head [] []
read_none = record {
  head = [];
  given = [];
  last = [];
  joined = refl;
  heads = refl;
  gives = refl;
  lasts = refl;
  ends = (refl, refl);
}

-- the number of lines, with one more
pub counted_next : (count : ℕ) (lines : List Line) (line : Line) → count ≡ length lines
    → count + 1 ≡ length (lines ++ line ∷ [])
counted_next count lines line counted = grind (arith, common_steps)
