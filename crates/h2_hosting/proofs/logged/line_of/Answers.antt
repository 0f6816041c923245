-- The line is that of an entry which says of the exchange what was noted.
use Rattle.std.proofs.Common.{◌∙◌, ap, refl}
use Rattle.std.proofs.lemmas.Result.{IfOk-weaker}
use Rattle.std.specs.Net.Text.{ip_text}
use Rattle.h2_folder.specs.declared.log.LogEntry.{LogEntry}
use Rattle.h2_hosting.proofs.logged.line_of.Goals as goal

pub returns : goal.returns
returns g c =
    let note = c.args.note.now in
    let entry : LogEntry = record {
      peer = c.as_str.result;
      time = c.seconds_now.result;
      method = c.deref.result;
      path = c.deref-2.result;
      status = note.status;
      octets = note.octets;
    } in
    let peer = c.as_str.ensures.value ∙ c.in_ok-peer.ensures.ok ∙ ap ip_text c.ip.ensures in
    IfOk-weaker c.log_line.result _ _
    (λ line is. (entry, peer, c.deref.ensures.value, c.deref-2.ensures.value, refl, refl, is))
    c.log_line.ensures
