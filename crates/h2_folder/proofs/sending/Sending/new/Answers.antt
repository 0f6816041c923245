-- A file is read from where it was, or was moved to the first octet.
use Rattle.std.proofs.Common.{◌≡◌, ◌∙◌, ℕ, List, Option, None, Some, Ok, ap, refl, inl, inr}
use Rattle.std.specs.Prelude.{IfSome}
use Rattle.std.specs.Io.Seek.{SeekMoves}
use Rattle.std.specs.declared.io.Error.{Error}
use Rattle.std.specs.declared.io.traits.SeekFrom.TheVariants.{Start}
use Rattle.h2_folder.proofs.sending.Sending.new.Goals as goal

-- a place that is known has become the first octet's
moved : (old new : Option ℕ) (bytes : Option (List ℕ)) (first n : ℕ)
    → SeekMoves {E = Error} old new bytes (Start first) (Ok n)
    → IfSome old (λ place. new ≡ Some first)
moved None new bytes first n moves = tt
moved (Some place) new bytes first n moves = moves.1 ∙ ap Some moves.0

pub returns-then-first-eq0 : goal.returns-then-first-eq0
returns-then-first-eq0 g c = (refl, refl, inl (c.if-first-eq0.true, refl))

pub returns-in-Ok : goal.returns-in-Ok
returns-in-Ok g c = (
  refl,
  refl,
  inr (
    c.if-first-eq0.false,
    moved (g.F.Seek.stream_position c.args.file)
        (g.F.Seek.stream_position c.seek.new.self) (g.F.Seek.stream_bytes c.args.file) c.args.first
        c.in-Ok.field-0 c.in-Ok.ensures.moves,
  ),
)
