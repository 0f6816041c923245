-- The copy is of the file that is kept.
use Rattle.h2_folder.proofs.recent.RecentFiles.copy_at.Goals as goal

pub returns-clause-kept : goal.returns-clause-kept
returns-clause-kept c =
    (c.in_ok-file.file.now, c.in_ok-file.ensures, c.in_ok-octets.ensures.same, c.modified.ensures)
