use Rattle.belkjoef.proofs.Steps.{◌≡◌, ℕ, List, [], ◌∷◌, refl, sym, subst, lit<, proved}
use Rattle.belkjoef.proofs.Steps.{full_share, id⊢, ftrue, flft, named, Val, vint, vptr, vunit}
use Rattle.belkjoef.proofs.Steps.{tables, ‵, raw, fact, heard, ◌⊛◌, ◌$◌, ◌∵◌, !, qed, done}
use Rattle.belkjoef.proofs.Steps.{move, keep, drop, split, join, fsplit, fsplit3, fjoin}
use Rattle.belkjoef.proofs.Steps.{feq_i, rewrite, suffices, frame, group, enter, of_opd}
use Rattle.belkjoef.proofs.Steps.{unit_lit, stop, fld, assigns, returns}
use Rattle.belkjoef.proofs.Steps.{alloc_all, pass_all, free_all, look_at, get, through, sets}
use Rattle.belkjoef.proofs.Steps.{shows, block_ptr, MutRef, mut_vals, mut_Tells, plain}
use Rattle.belkjoef.proofs.Steps.{nothing, opens, closes, peeks, Stays, walk_of, says, stay_ref}
use Rattle.belkjoef.proofs.Steps.{stay_dropped, Goes-ref, ends_at, whole, sub, cell_at}
use Rattle.std.specs.Prelude.{None, Some}
use base.Logic.{SProp, ent}
use prog.Wp.{WpFn}
use denote.Exit.{no}
use types.Kit.{split3}
use types.Part.{store_in}
use mir.Syntax.{w64}
use mir.Val.{vstruct, vcons, vnil}
use types.Kit.{fpack}
use denote.Builtin.{u64}
use denote.Plain.{uint_Makes}
use denote.RawPtr.{RawPtr}
use denote.RattleType.{Valss}
use denote.Steps.{owned}
use denote.Struct.Struct.{within}
use denote.Struct.Owning.{shape}
use Rattle.belkjoef.specs.contracts.place.BjEnd.{the_type as S}
use types.ByLocal.{get_in}
use Rattle.core.proofs.alloc.Calls.{Goes-blank}
use Rattle.belkjoef.proofs.LooseValues.{both, loose_good, loose_out}
use Rattle.std.specs.contracts.alloc.Global.{the_row as G}
use Rattle.std.specs.contracts.impls.GlobalAllocator.TheImpl.{ghosts}
use Rattle.std.proofs.alloc.Global.TheLaws as GL
use Rattle.belkjoef.specs.contracts.held.Held.{the_row as I}
use Rattle.belkjoef.proofs.held.Held.TheLaws as IL
use Rattle.belkjoef.specs.contracts.loose.Loose.{the_row as L}
use Rattle.belkjoef.proofs.loose.Loose.TheLaws as LL
use Rattle.belkjoef.proofs.PlaceSteps.{holds_lit}
use Rattle.belkjoef.specs.Places.{holds_one}
use Rattle.belkjoef.specs.contracts.place.BjEnd.put as f
use Rattle.belkjoef.proofs.place.BjEnd.put.Statement.{statement}
use Rattle.belkjoef.proofs.place.BjEnd.put.Code as code
use Rattle.belkjoef.specs.contracts.place.BjEnd.{the_row as R}
use Rattle.belkjoef.proofs.place.BjEnd.TheLaws.{lowers}

abbrev Lo : denote.RattleType.RattleType
Lo = L I G ghosts

abbrev stayed : Stays f.ended.signature.params f.ended.kept
stayed = (stay_ref (0 ∷ []) tt (plain (λ _. R)), (stay_dropped (plain (λ _. Lo)) no, tt))

pub put_spec : {M : Type 1} → statement M
put_spec 𝓤 𝓛 𝓜 𝓡 wired =
    let c = f.clauses 𝓛 𝓜.mem 𝓡.returns in let W = walk_of 𝓛 f.ended stayed c in let 𝓣 =
    tables 𝓤 𝓛.H 𝓜 𝓡 𝓡.env in
    let low = LL.lowers I G ghosts IL.the_row_laws GL.the_row_laws GL.the_told in
    proved 𝓛 f.ended stayed c 𝓜 𝓡 (
      Goes-ref 𝓛 1 0 tt (plain (λ _. R)),
      (Goes-blank 𝓛 1 (plain (λ _. Lo)) no (λ κs x f. tt), tt),
    )
    f.Key.name code.function (code.unfolded 𝓤 𝓛.H 𝓜 𝓡 wired)
    (λ κs. (mut_vals, ((λ d. low.lowered d ∷ []), tt)))
    (λ κs. (mut_Tells (named 0) κs.0 R, (low.val_is, tt))) (λ κs qs bounds a _ are.
    let b = a.0.ref_ptr.0 in let o = a.0.ref_ptr.1 in let h = a.0.now in let vs = mut_vals a.0 in
    let d = a.1.0 in
    let y : W.Ghost = ((κs, qs, bounds, a, (vs, (low.lowered d ∷ [], tt))), tt) in
    let Run : List Val → SProp 𝓤 = λ ws. WpFn 𝓤 𝓛.H 𝓣.C 𝓣.Λ code.function (vptr b o ∷ ws)
    (W.post y) in
    let P = h.held ≡ None in
    qed 𝓛 (((‵ (flft κs.0 qs.0) ⊛ ‵ ftrue) ⊛ ‵ ((MutRef (named 0) κs.0 R).own_val a.0 vs) ⊛ ‵
    (Lo.own_val d (low.lowered d ∷ [])) ⊛ ‵ ftrue) ∷ raw (fact 𝓤 P) ∷ []) ∵
    split ! $ split ! $ move ! (2 ∷ []) $ split3 ! $ move ! (5 ∷ []) $ heard ! P
    (λ none. move ! (1 ∷ []) $
    loose_out I G GL.the_row_laws ghosts ! d (low.lowered d ∷ []) (λ lb lo hh e ws fits.
    keep ! (0 ∷ 2 ∷ 4 ∷ []) $
    suffices ! (Run (both (vptr lb lo) hh ∷ []))
    (subst (λ (us : List Val). ent 𝓤 (Run (both (vptr lb lo) hh ∷ [])) (Run us)) (sym ws)
    (id⊢ 𝓤 (Run (both (vptr lb lo) hh ∷ [])))) $
    enter ! _ _ _ _ _ $ alloc_all ! (λ l. pass_all ! refl
    ((tt, tt), (loose_good I G GL.the_row_laws ghosts lb lo hh fits, tt)) $
    sets ! (of_opd ! (get_in ! (fld ! refl (stop !)) (sub ! 0 refl (whole !)))) refl (tt, tt) $
    sets ! (of_opd ! (get ! refl)) refl (tt, tt) $
    move ! (1 ∷ []) $ fsplit3 ! $ move ! (1 ∷ 2 ∷ 4 ∷ []) $ opens ! tt R b o (λ us.
    move ! (1 ∷ []) $ peeks ! R _ (shows 𝓛 R) h us (λ is. fsplit ! $ move ! (1 ∷ []) $ drop ! $
    let Cell = λ (ws : List Val). ‵ (cell_at full_share R.mir ws b o) in
    rewrite ! 1 Cell (lowers.val_is h us is) refl $
    assigns ! (of_opd ! (get ! refl)) (through ! refl (fld ! refl (stop !)))
    (store_in ! 1 (sub ! 0 refl (whole !)) (tt, tt)) $
    assigns ! (of_opd ! (holds_lit !)) (through ! refl (fld ! refl (stop !)))
    (store_in ! 1 (sub ! 1 refl (whole !)) (tt, record { fits = lit< tt })) $
    sets ! (of_opd ! (unit_lit !)) refl (tt, tt) $
    -- [the old fields; the cell; the open borrow, in three entries; self's first part; the box]
    drop ! $ move ! (5 ∷ []) $ feq_i ! ℕ holds_one holds_one refl $ fjoin ! $
    let V : Val = vstruct (vcons (vptr lb lo) (vcons (vint w64 holds_one) vnil)) in
    nothing ! $ owned ! u64 _ (uint_Makes 𝓛 w64) holds_one _ (refl, lit< tt) $ fjoin ! $
    feq_i ! (List Val) (vptr lb lo ∷ []) _ refl $ fjoin ! $ feq_i ! (List Val) (V ∷ [])
    (V ∷ []) refl $ fjoin ! $
    fpack ! (Valss (RawPtr ∷ u64 ∷ []))
    (within (shape S) (block_ptr lb lo, (holds_one, tt)) (V ∷ []))
    (vptr lb lo ∷ [], (vint w64 holds_one ∷ [], tt)) $ fjoin ! $
    let h' : R.Denot = record { at = block_ptr lb lo; state = holds_one; held = Some d.value } in
    move ! (1 ∷ []) $ closes ! tt R h' (V ∷ []) b o $
    returns ! (look_at ! 0 refl) $ free_all ! refl $ move ! (3 ∷ []) $
    suffices ! _ (ends_at 𝓛 f.ended stayed c y vunit tt (h', (tt, tt)) (tt, (tt, tt))) $ says !
    refl $
    group ! 3 $ nothing ! $ nothing ! $ join ! $ move ! (1 ∷ 0 ∷ []) $ join ! $ nothing ! $ move !
    (2 ∷ 0 ∷ []) $ join ! $ frame ! $ frame ! $
    feq_i ! _ (vunit ∷ []) _ refl $ done !))))))
