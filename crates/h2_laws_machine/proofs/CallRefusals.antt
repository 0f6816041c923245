-- A machine refuses a call just where the log that it represents does.
use Rattle.h2_laws_machine.proofs.Names.{◌≡◌, ap, sym, ◌∙◌, refl, Option, Some, None, Code, Values}
use Rattle.h2_laws_machine.proofs.Names.{Act, PutOut, View, Log, log_view, first_of, conditions}
use Rattle.h2_laws_machine.proofs.Names.{refusal_of, end_view, End, Represents}
use Rattle.h2_laws_machine.proofs.ViewsAgree.{view_beside, views_agree}
use Rattle.h2_laws_machine.proofs.WaitingOutput.{waits_much}

-- No condition looks at states, or at windows that would overflow.
beside_refuses : (e : End) (log : Log) (act : Act)
    → refusal_of (view_beside e log) act ≡ refusal_of (log_view log) act
unfolding conditions first_of
beside_refuses e log (PutOut count) = refl
beside_refuses e log act = refl

-- Any two views that have failed refuse the same.
failed_refuses : (view other : View) (act : Act) (code : Code) → view.failed ≡ Some code
    → other.failed ≡ Some code
    → refusal_of view act ≡ refusal_of other act
unfolding conditions first_of
failed_refuses view other (PutOut count) code is too = refl
failed_refuses view other act code is too = rw (is, too) refl

-- the same, by whether the end has failed
refusal_by : (values : Values) (e : End) (log : Log) (act : Act) (failed : Option Code)
    → e.failed ≡ failed
    → Represents values e log → refusal_of (end_view e) act ≡ refusal_of (log_view log) act
refusal_by values e log act (Some code) is represents =
    failed_refuses (end_view e) (log_view log) act code is (sym represents.failed ∙ is)
refusal_by values e log act None is represents =
    let waits = waits_much e log represents.output in
    let views = views_agree e log represents.role represents.failed waits represents.streams
    (represents.running is) in
    ap (λ (view : View). refusal_of view act) views ∙ beside_refuses e log act

-- A machine refuses a call just where its log does.
pub refusal_same : (values : Values) (e : End) (log : Log) (act : Act) → Represents values e log
    → refusal_of (end_view e) act ≡ refusal_of (log_view log) act
refusal_same values e log act represents = refusal_by values e log act e.failed refl represents
