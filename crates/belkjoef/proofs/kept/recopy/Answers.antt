use Rattle.std.proofs.Common.{◌∙◌, sym}
use Rattle.std.proofs.lemmas.Result.{on_ok_weaker}
use Rattle.belkjoef.proofs.CopiedFields.{copied_all}
use Rattle.belkjoef.proofs.kept.recopy.Goals as goal

pub returns : goal.returns
returns c = on_ok_weaker c.copy_rest.result
    (copied_all c.args.fields.now c.len-kept.result _
    (sym (c.len-kept.ensures ∙ c.truncate.new.self.ok.0))
    (c.in_ok-recopy_first.ensures))
    c.copy_rest.ensures
