-- What is kept is the file, or was kept before: places that were made just now hold none.
use Rattle.std.proofs.Common.{Contains, Some, inl, inr, subst}
use Rattle.h2_folder.specs.declared.recent.RecentFiles.{RecentFiles}
use Rattle.h2_folder.proofs.RecentLemmas.{kept_or_put}
use Rattle.h2_folder.proofs.recent.RecentFiles.keep.Goals as goal
use Rattle.h2_folder.proofs.recent.RecentFiles.keep.Goals.{then-is_empty+in-Ok, else-is_empty}

pub returns-in-Some : goal.returns-in-Some
returns-in-Some c = λ one found.
    let before : Contains c.if-is_empty.self.places.items (Some one)
    → Contains c.args.self.now.places.items (Some one) = λ there.
    elim c.if-is_empty.branch [
      | then-is_empty+in-Ok w ↦ absurd (w.in-Ok.ensures one
          (subst (λ (files : RecentFiles). Contains files.places.items (Some one)) w.self-is
          there))
      | else-is_empty w ↦ subst (λ (files : RecentFiles).
          Contains files.places.items (Some one)) w.self-is there
    ] in
    elim (kept_or_put c.if-is_empty.self.places.items c.place.result c.args.file one found) [
      | inl same ↦ inl same
      | inr there ↦ inr (before there)
    ]

pub returns-in_default : goal.returns-in_default
returns-in_default c = λ one found. inr (
    elim c.if-is_empty.branch [
      | then-is_empty+in-Ok w ↦ absurd (w.in-Ok.ensures one
          (subst (λ (files : RecentFiles). Contains files.places.items (Some one)) w.self-is found))
      | else-is_empty w ↦ subst (λ (files : RecentFiles). Contains files.places.items (Some one))
          w.self-is found
    ]
    )
