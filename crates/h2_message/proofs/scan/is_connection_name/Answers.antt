use Rattle.h2_message.proofs.Names.{◌≡◌, codes, ◌||◌, sym, ◌∙◌, bytes_eq, connection_names}
use Rattle.h2_message.proofs.ScanNames.{compared-as, or-then, or-else, or-five}
use Rattle.h2_message.proofs.scan.is_connection_name.Goals as goal
use Rattle.h2_message.proofs.scan.is_connection_name.Goals.{then-eq, else-eq, then-eq-2, else-eq-2}
use Rattle.h2_message.proofs.scan.is_connection_name.Goals.{then-eq-3, else-eq-3}

pub returns-then-eq-4 : goal.returns-then-eq-4
unfolding connection_names
returns-then-eq-4 c =
    let name = c.args.name.now in
    let first = compared-as name _ (codes "connection") _ c.eq.ensures c.as_slice.ensures in
    let two : c.if-eq.value ≡ (bytes_eq name (codes "connection")
    || bytes_eq name (codes "proxy-connection")) =
    elim c.if-eq.branch [
      | then-eq w ↦ or-then _ _ _ (sym first ∙ w.if-eq.true) (w.value-is ∙ w.if-eq.true)
      | else-eq w ↦ or-else _ _ _ (sym first ∙ w.if-eq.false) (w.value-is
          ∙ compared-as name _ (codes "proxy-connection") _ w.eq-else-eq.ensures
          w.as_slice-else-eq.ensures)
    ] in
    let three : c.if-eq-2.value ≡ (c.if-eq.value || bytes_eq name (codes "keep-alive")) =
    elim c.if-eq-2.branch [
      | then-eq-2 w ↦ or-then _ _ _ w.if-eq-2.true (w.value-is ∙ w.if-eq-2.true)
      | else-eq-2 w ↦ or-else _ _ _ w.if-eq-2.false (w.value-is
          ∙ compared-as name _ (codes "keep-alive") _ w.eq-else-eq-2.ensures
          w.as_slice-else-eq-2.ensures)
    ] in
    let four : c.if-eq-3.value ≡ (c.if-eq-2.value || bytes_eq name (codes "transfer-encoding")) =
    elim c.if-eq-3.branch [
      | then-eq-3 w ↦ or-then _ _ _ w.if-eq-3.true (w.value-is ∙ w.if-eq-3.true)
      | else-eq-3 w ↦ or-else _ _ _ w.if-eq-3.false (w.value-is
          ∙ compared-as name _ (codes "transfer-encoding") _ w.eq-else-eq-3.ensures
          w.as_slice-else-eq-3.ensures)
    ] in
    or-five _ _ _ _ (bytes_eq name (codes "upgrade")) _ _ _ _ two three four
    (or-then _ _ _ c.if-eq-4.true c.if-eq-4.true)

pub returns-else-eq-4 : goal.returns-else-eq-4
unfolding connection_names
returns-else-eq-4 c =
    let name = c.args.name.now in
    let first = compared-as name _ (codes "connection") _ c.eq.ensures c.as_slice.ensures in
    let two : c.if-eq.value ≡ (bytes_eq name (codes "connection")
    || bytes_eq name (codes "proxy-connection")) =
    elim c.if-eq.branch [
      | then-eq w ↦ or-then _ _ _ (sym first ∙ w.if-eq.true) (w.value-is ∙ w.if-eq.true)
      | else-eq w ↦ or-else _ _ _ (sym first ∙ w.if-eq.false) (w.value-is
          ∙ compared-as name _ (codes "proxy-connection") _ w.eq-else-eq.ensures
          w.as_slice-else-eq.ensures)
    ] in
    let three : c.if-eq-2.value ≡ (c.if-eq.value || bytes_eq name (codes "keep-alive")) =
    elim c.if-eq-2.branch [
      | then-eq-2 w ↦ or-then _ _ _ w.if-eq-2.true (w.value-is ∙ w.if-eq-2.true)
      | else-eq-2 w ↦ or-else _ _ _ w.if-eq-2.false (w.value-is
          ∙ compared-as name _ (codes "keep-alive") _ w.eq-else-eq-2.ensures
          w.as_slice-else-eq-2.ensures)
    ] in
    let four : c.if-eq-3.value ≡ (c.if-eq-2.value || bytes_eq name (codes "transfer-encoding")) =
    elim c.if-eq-3.branch [
      | then-eq-3 w ↦ or-then _ _ _ w.if-eq-3.true (w.value-is ∙ w.if-eq-3.true)
      | else-eq-3 w ↦ or-else _ _ _ w.if-eq-3.false (w.value-is
          ∙ compared-as name _ (codes "transfer-encoding") _ w.eq-else-eq-3.ensures
          w.as_slice-else-eq-3.ensures)
    ] in
    or-five _ _ _ _ _ _ _ _ _ two three four (or-else _ _ _ c.if-eq-4.false
    (compared-as name _ (codes "upgrade") _ c.eq-else-eq-4.ensures c.as_slice-else-eq-4.ensures))
