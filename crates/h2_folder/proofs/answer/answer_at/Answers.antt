-- The version is that of the length and the time that were found.
use Rattle.std.proofs.Common.{ℕ, subst}
use Rattle.std.proofs.lemmas.Result.{IfOk-weaker}
use Rattle.h2_files.specs.Dates.{IsLastModified}
use Rattle.h2_files.specs.Paths.{texts}
use Rattle.h2_files.specs.Tags.{validators_of}
use Rattle.h2_folder.specs.FoundFiles.{found_length, found_modified}
use Rattle.h2_folder.specs.Lines.{asked_in}
use Rattle.h2_folder.specs.Times.{stated_second}
use Rattle.h2_folder.proofs.AnswerLemmas.{some_file}
use Rattle.h2_folder.proofs.answer.answer_at.Goals as goal

pub returns : goal.returns
returns g c =
    let last = subst (λ (m : ℕ). IsLastModified (stated_second m c.args.now) c.modified_of.result)
    c.modified.ensures c.modified_of.ensures in
    IfOk-weaker c.answer_found.result _ _ (λ answered answers. some_file c.args.method
    (texts c.args.names.now) (asked_in c.args.list.now) (found_length c.args.found)
    (found_modified c.args.found) c.args.now (validators_of c.in_ok-version.version)
    c.kind_of.result.now c.args.date c.modified_of.result answered c.in_ok-version.ensures
    c.kind_of.ensures c.requires.date last answers) c.answer_found.ensures
