-- What is kept is answered to a GET without conditions.
use Rattle.std.proofs.Common.{◌≡◌, rules, true}
use Rattle.h2_files.specs.Paths.{texts}
use Rattle.h2_folder.specs.Lines.{asked_in}
use Rattle.h2_folder.proofs.AnswerLemmas.{plain_file}
use Rattle.h2_folder.proofs.answer.kept_answer.Goals as goal

pub returns : goal.returns
returns g c =
    let plain : c.is_plain.result ≡ true = search rules in
    plain_file _ c.args.method (texts c.args.names.now) (asked_in c.args.list.now) c.args.now
    c.in_ok-message.ensures.0 c.in_ok-message.message c.in-Get.is (c.is_plain.ensures plain)
    c.in_ok-message.ensures.1
