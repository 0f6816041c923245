-- What is shown of octets that come in several parts.
use Rattle.std.proofs.Common.{◌≡◌, ℕ, ◌+◌, ◌-◌, ◌<◌, min, true, List, [], ◌∷◌, ◌++◌, length, take}
use Rattle.std.proofs.Common.{drop, get_or, Option, Some, None, IfSome, refl, sym, ap, ◌∙◌, subst}
use Rattle.std.proofs.Common.{append_assoc, append-nil, arith, inl, inr}
use Rattle.std.proofs.KnownBytes.{Appends-nil, Appends-trans}
use Rattle.std.proofs.Math.Seq.{take-append-add, take-length}
use Rattle.std.proofs.lemmas.Bool.{cases_lt}
use Rattle.std.proofs.lemmas.Grind.{flat_map-append}
use Rattle.std.proofs.lemmas.List.{drop_more, take-append-le}
use Rattle.std.specs.Io.KnownBytes.{Appends}
use Rattle.std.specs.Io.Slices.{io_slice_bytes, io_slices_bytes}
use Rattle.std.specs.declared.io.slices.IoSlice.{IoSlice}
use Rattle.h2_show.specs.declared.options.Side.{Side}
use Rattle.h2_follow.specs.Follows.{marked, mark_of}
use Rattle.h2_watch.specs.declared.watch.Watch.{Watch}
use Rattle.h2_watch.specs.Watches.{HasShown, ShowsMore, side_in}
use Rattle.h2_watch.specs.WatchedLinks.{ShowsParts, ShowsStill}

-- no octets have no lines
more_none : (watch : Watch) (side : Side) → ShowsMore watch watch side [] []
more_none watch side = (
  λ before text has. subst (λ (octets : List ℕ).
      HasShown side (side_in watch side) octets (text ++ [])) (sym (append-nil before))
      (subst (λ (all : List ℕ). HasShown side (side_in watch side) before all)
      (sym (append-nil text)) has),
  refl,
)

-- octets, and then more of the same side
more_then : (old mid new : Watch) (side : Side) (first second one two : List ℕ)
    → ShowsMore old mid side first one → ShowsMore mid new side second two
    → ShowsMore old new side (first ++ second) (one ++ two)
more_then old mid new side first second one two shows follows = (
  λ before text has. subst (λ (octets : List ℕ).
      HasShown side (side_in new side) octets (text ++ (one ++ two)))
      (append_assoc before first second)
      (subst (λ (all : List ℕ).
      HasShown side (side_in new side) ((before ++ first) ++ second) all)
      (append_assoc text one two)
      (follows.0 (before ++ first) (text ++ one) (shows.0 before text has))),
  follows.1 ∙ shows.1,
)

-- octets that came at once
pub shows_once : (old new : Watch) (side : Side) (octets : List ℕ) (before after : Option (List ℕ))
    → ((printed : List ℕ) × Appends before after (marked (mark_of side) true printed)
    × ShowsMore old new side octets printed)
    → ShowsParts old new side octets before after
shows_once old new side octets before after (printed, written, shows) = record {
  texts = printed ∷ [];
  printed = subst (Appends before after) (sym (append-nil (marked (mark_of side) true printed)))
      written;
  shows = subst (ShowsMore old new side octets) (sym (append-nil printed)) shows;
}

-- no octets
shows_none : (watch : Watch) (side : Side) (before : Option (List ℕ))
    → ShowsParts watch watch side [] before before
shows_none watch side before = record {
  texts = [];
  printed = Appends-nil before;
  shows = more_none watch side;
}

-- octets, and then more
shows_then : (old mid new : Watch) (side : Side) (first second : List ℕ)
    (before middle after : Option (List ℕ)) → ShowsParts old mid side first before middle
    → ShowsParts mid new side second middle after
    → ShowsParts old new side (first ++ second) before after
shows_then old mid new side first second before middle after shows follows = record {
  texts = shows.texts ++ follows.texts;
  printed = subst (Appends before after)
      (sym (flat_map-append (marked (mark_of side) true) shows.texts follows.texts))
      (Appends-trans before middle after _ _ shows.printed follows.printed);
  shows = subst (ShowsMore old new side (first ++ second))
      (sym (flat_map-append (λ (text : List ℕ). text) shows.texts follows.texts))
      (more_then old mid new side first second _ _ shows.shows follows.shows);
}

-- where no octets have come nothing was shown
pub still_none : (watch : Option Watch) (side : Side) (before : Option (List ℕ))
    → ShowsStill watch watch side [] before before
still_none None side before = (refl, refl)
still_none (Some watch) side before = shows_none watch side before

-- where octets were shown, and more of the same side after them
pub still_then : (old mid new : Option Watch) (side : Side) (first second : List ℕ)
    (before middle after : Option (List ℕ)) → ShowsStill old mid side first before middle
    → ShowsStill mid new side second middle after
    → ShowsStill old new side (first ++ second) before after
still_then None mid new side first second before middle after (none, kept) follows =
    let (still, same) = subst (λ (some : Option Watch).
    ShowsStill some new side second middle after) none follows in
    (still, same ∙ kept)
still_then (Some watch) None new side first second before middle after shows (still, same) =
    subst (λ (some : Option Watch). IfSome some (λ later.
    ShowsParts watch later side (first ++ second) before after)) (sym still) tt
still_then (Some watch) (Some mid) None side first second before middle after shows follows = tt
still_then (Some watch) (Some mid) (Some new) side first second before middle after shows follows =
    shows_then watch mid new side first second before middle after shows follows

-- so many first octets are as many of the first part as it has, and the others of what follows it
take_over : (part rest : List ℕ) (left : ℕ)
    → take left (part ++ rest)
    ≡ take (min left (length part)) part ++ take (left - min left (length part)) rest
take_over part rest left = elim (cases_lt (length part) left) [
  | inl over ↦
      let few : min left (length part) ≡ length part = omega (arith, over) in
      let all : left ≡ length part + (left - length part) = omega (arith, over) in
      ap (λ (n : ℕ). take n (part ++ rest)) all
      ∙ take-append-add part rest (left - length part)
      ∙ sym ((λ i. take (few i) part ++ take (left - few i) rest)
      ∙ ap (λ (l : List ℕ). l ++ take (left - length part) rest) (take-length part))
  | inr within ↦
      let few : min left (length part) ≡ left = omega (arith, within) in
      let none : left - left ≡ 0 = omega arith in
      take-append-le left part rest within
      ∙ sym ((λ i. take (few i) part ++ take (left - few i) rest)
      ∙ ap (λ (n : ℕ). take left part ++ take n rest) none
      ∙ append-nil (take left part))
]

-- the octets of the parts from one on are its own, and those of the parts after it
pub next_part : (parts : List IoSlice) (at : ℕ) (none : IoSlice) (part : List ℕ)
    → at < length parts → part ≡ io_slice_bytes (get_or parts at none)
    → io_slices_bytes (drop at parts) ≡ part ++ io_slices_bytes (drop (at + 1) parts)
next_part parts at none part within is =
    ap io_slices_bytes (drop_more parts at none within)
    ∙ ap (λ (first : List ℕ). first ++ io_slices_bytes (drop (at + 1) parts)) (sym is)

-- what was shown, and then as many octets of the next part as are to be, and the others after it
pub part_shown : (done next part rest all : List ℕ) (left count : ℕ)
    → count ≡ min left (length part) → next ≡ part ++ rest → done ++ take left next ≡ all
    → (done ++ take count part) ++ take (left - count) rest ≡ all
part_shown done next part rest all left count few joins is =
    (λ i. (done ++ take (few i) part) ++ take (left - few i) rest)
    ∙ append_assoc done _ _
    ∙ ap (λ (more : List ℕ). done ++ more)
    (sym (take_over part rest left) ∙ ap (take left) (sym joins))
    ∙ is
