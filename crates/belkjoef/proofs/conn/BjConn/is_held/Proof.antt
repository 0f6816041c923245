use Rattle.belkjoef.proofs.Steps.{◌≡◌, List, [], ◌∷◌, refl, sym, proved}
use Rattle.belkjoef.proofs.Steps.{full_share, ftrue, flft, named, Val, tables, ‵, ◌⊛◌}
use Rattle.belkjoef.proofs.Steps.{◌$◌, ◌∵◌, !, qed, done, move, keep, use1, split, join}
use Rattle.belkjoef.proofs.Steps.{fsplit, fsplit3, fjoin, feq_i, rewrite, suffices, frame}
use Rattle.belkjoef.proofs.Steps.{group, enter, of_opd, bin, load, stop, fld}
use Rattle.belkjoef.proofs.Steps.{returns, alloc_all, pass_all, free_all, look_at, get, through}
use Rattle.belkjoef.proofs.Steps.{sets, shows, MutRef, mut_vals, mut_Tells, plain}
use Rattle.belkjoef.proofs.Steps.{nothing, opens, closes, peeks, Stays, walk_of, stay_ref}
use Rattle.belkjoef.proofs.Steps.{Goes-ref, ends_at, whole, sub, look_in, cell_at}
use Rattle.std.proofs.Common.{◌==◌}
use Rattle.std.specs.Option.{is_some}
use mir.Val.{vbool}
use Rattle.core.proofs.mem.Facts.{says_two}
use Rattle.belkjoef.proofs.Steps.{heard, raw, fact, well_typed}
use Rattle.belkjoef.proofs.PlaceSteps.{holds_lit, state_tells}
use Rattle.belkjoef.specs.Places.{place_owns, holds_one}
use Rattle.belkjoef.specs.contracts.conn.HeldConn as I
use Rattle.belkjoef.specs.contracts.conn.BjConn.is_held as f
use Rattle.belkjoef.proofs.conn.BjConn.is_held.Statement.{statement}
use Rattle.belkjoef.proofs.conn.BjConn.is_held.Code as code
use Rattle.belkjoef.specs.contracts.conn.BjConn.{the_row as R}
use Rattle.belkjoef.proofs.conn.BjConn.TheLaws.{lowers}

abbrev stayed : Stays f.ended.signature.params f.ended.kept
stayed = (stay_ref (0 ∷ []) tt (plain (λ _. R)), tt)

pub is_held_spec : {M : Type 1} → statement M
is_held_spec 𝓤 𝓛 𝓜 𝓡 wired =
    let c = f.clauses 𝓛 𝓜.mem 𝓡.returns in let W = walk_of 𝓛 f.ended stayed c in let 𝓣 =
    tables 𝓤 𝓛.H 𝓜 𝓡 𝓡.env in
    proved 𝓛 f.ended stayed c 𝓜 𝓡 (Goes-ref 𝓛 1 0 tt (plain (λ _. R)), tt)
    f.Key.name code.function (code.unfolded 𝓤 𝓛.H 𝓜 𝓡 wired)
    (λ κs. (mut_vals, tt)) (λ κs. (mut_Tells (named 0) κs.0 R, tt)) (λ κs qs bounds a _ are.
    let b = a.0.ref_ptr.0 in let o = a.0.ref_ptr.1 in let h = a.0.now in let vs = mut_vals a.0 in
    let y : W.Ghost = ((κs, qs, bounds, a, (vs, tt)), tt) in
    qed 𝓛 (((‵ (flft κs.0 qs.0) ⊛ ‵ ftrue) ⊛ ‵
    ((MutRef (named 0) κs.0 R).own_val a.0 vs) ⊛ ‵ ftrue) ∷ ‵ ftrue ∷ []) ∵
    split ! $ split ! $ move ! (2 ∷ []) $ split ! $ keep ! (0 ∷ 2 ∷ []) $
    enter ! _ _ _ _ _ $ alloc_all ! (λ l. pass_all ! refl ((tt, tt), tt) $
    fsplit3 ! $ move ! (1 ∷ 2 ∷ 3 ∷ []) $ opens ! tt R b o (λ us.
    move ! (1 ∷ []) $ peeks ! R _ (shows 𝓛 R) h us (λ is. fsplit ! $ move ! (1 ∷ []) $
    let P = (h.state == holds_one) ≡ is_some h.held in
    use1 𝓛 (raw (fact 𝓤 P) ⊛ ‵ (place_owns I.the_row h.at h.state h.held))
    (state_tells 𝓛 I.the_row h.at h.state h.held) $ split ! $ heard ! P (λ e.
    let word = lowers.val_is h us is in
    let Cell = λ (ws : List Val). ‵ (cell_at full_share R.mir ws b o) in
    rewrite ! 2 Cell word refl $ move ! (2 ∷ []) $ well_typed ! (λ ok.
    sets ! (of_opd ! (load ! (through ! refl (fld ! refl (stop !)))
    (look_in ! 0 (sub ! 1 refl (whole !))))) refl (tt, ok.1.1.0) $
    sets ! (bin ! (get ! refl) (holds_lit !) tt) refl (tt, tt) $
    move ! (1 ∷ 2 ∷ 0 ∷ []) $ rewrite ! 2 Cell (sym word) refl $ move ! (1 ∷ []) $ fjoin ! $ move !
    (1 ∷ []) $ closes ! tt R h us b o $
    returns ! (look_at ! 0 refl) $ free_all ! refl $ move ! (3 ∷ []) $
    suffices ! _ (ends_at 𝓛 f.ended stayed c y (vbool (h.state == holds_one)) (h.state == holds_one)
    (h, tt) (tt, tt)) $ says_two ! (e, refl) $
    group ! 3 $ nothing ! $ move ! (1 ∷ 0 ∷ []) $ join ! $ nothing ! $ move !
    (2 ∷ 0 ∷ []) $ join ! $ frame ! $ frame ! $
    feq_i ! _ (vbool (h.state == holds_one) ∷ []) _ refl $ done !))))))
