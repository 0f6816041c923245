use Rattle.std.proofs.Common.{Bool, not, false, ◌==◌}
use lib.Dec.{T}
use mir.Syntax.{impl, tnil, dnil}
use Rattle.belkjoef.proofs.Steps.{◌≡◌, List, [], ◌∷◌, refl, sym, ap, subst, ◌∙◌, lit<, proved}
use Rattle.belkjoef.proofs.Steps.{full_share, id⊢, ftrue, flft, named, Val, vint, vptr}
use Rattle.belkjoef.proofs.Steps.{tables, ‵, raw, fact, heard, ◌⊛◌, ◌$◌, ◌∵◌, !, qed, done}
use Rattle.belkjoef.proofs.Steps.{move, keep, drop, split, join, fsplit, fsplit3, fjoin}
use Rattle.belkjoef.proofs.Steps.{feq_i, rewrite, suffices, frame, group, enter, of_opd}
use Rattle.belkjoef.proofs.Steps.{lit, load, stop, fld, assigns, returns}
use Rattle.belkjoef.proofs.Steps.{alloc_all, pass_all, free_all, look_at, get, through, sets}
use Rattle.belkjoef.proofs.Steps.{shows, Ptr, block_ptr, MutRef, mut_vals, mut_Tells, plain}
use Rattle.belkjoef.proofs.Steps.{nothing, opens, closes, peeks, Stays, walk_of, stay_ref}
use Rattle.belkjoef.proofs.Steps.{stay_dropped, Goes-ref, ends_at, whole, sub, look_in, cell_at}
use Rattle.belkjoef.proofs.Steps.{in_a_block, and_then, no_more}
use Rattle.std.specs.Prelude.{Option, None, Some, IsSome}
use base.Logic.{SProp, ent, never, fst∗}
use prog.Wp.{WpFn}
use denote.Exit.{yes}
use types.Kit.{split3, fpack}
use types.Part.{store_in, agg}
use types.Logic.{sem}
use mir.Syntax.{w64}
use mir.Raw.{raw as bare}
use mir.Val.{vstruct, vcons, vnil}
use denote.Builtin.{u64}
use denote.Memory.{lone}
use denote.Plain.{uint_Makes}
use denote.RawPtr.{RawPtr, null_ptr}
use denote.RattleType.{Valss}
use denote.Steps.{owned}
use denote.Struct.Struct.{within}
use denote.Struct.Owning.{shape}
use Rattle.libc.specs.Heap.{chunk}
use Rattle.std_alloc.specs.Box.Ownership.{box_owns}
use Rattle.core.proofs.alloc.Calls.{Goes-blank, handle_tells, Al}
use Rattle.core.proofs.mem.Facts.{says_two}
use Rattle.belkjoef.proofs.LooseValues.{both, loose_good, loose_in}
use Rattle.belkjoef.specs.Places.{place_owns, holds_one}
use Rattle.std.specs.contracts.alloc.Global.{the_row as G}
use Rattle.std.specs.contracts.impls.GlobalAllocator.TheImpl.{ghosts}
use Rattle.std.proofs.alloc.Global.TheLaws as GL
use Rattle.belkjoef.specs.contracts.conn.HeldConn.{the_row as I}
use Rattle.belkjoef.specs.contracts.loose.Loose.{the_row as L}
use Rattle.belkjoef.specs.contracts.conn.BjConn.take as f
use Rattle.belkjoef.proofs.conn.BjConn.take.Statement.{statement}
use Rattle.belkjoef.proofs.conn.BjConn.take.Code as code
use Rattle.belkjoef.specs.contracts.conn.BjConn.{the_row as R}
use Rattle.belkjoef.specs.contracts.conn.BjConn.{the_type as S}
use Rattle.belkjoef.proofs.conn.BjConn.TheLaws.{lowers}

abbrev Lo : denote.RattleType.RattleType
Lo = L I G ghosts

abbrev stayed : Stays f.ended.signature.params f.ended.kept
stayed = (stay_ref (0 ∷ []) tt (plain (λ _. R)), (stay_dropped (plain (λ _. G)) yes, tt))

found : {X : Type 0} (o : Option X) → IsSome o → (v : X) × (o ≡ Some v)
found None is = absurd (subst (λ (b : Bool). T (not b)) is tt)
found (Some v) is = (v, refl)

pub take_spec : {M : Type 1} → statement M
take_spec 𝓤 𝓛 𝓜 𝓡 wired =
    let c = f.clauses 𝓛 𝓜.mem 𝓡.returns in let W = walk_of 𝓛 f.ended stayed c in let 𝓣 =
    tables 𝓤 𝓛.H 𝓜 𝓡 𝓡.env in
    let t = GL.the_told in
    proved 𝓛 f.ended stayed c 𝓜 𝓡 (
      Goes-ref 𝓛 1 0 tt (plain (λ _. R)),
      (Goes-blank 𝓛 1 (plain (λ _. G)) yes (λ κs x f. tt), tt),
    )
    f.Key.name code.function (code.unfolded 𝓤 𝓛.H 𝓜 𝓡 wired)
    (λ κs. (mut_vals, ((λ d. t.val d ∷ []), tt)))
    (λ κs. (mut_Tells (named 0) κs.0 R, (t.tells, tt))) (λ κs qs bounds a _ are.
    let b = a.0.ref_ptr.0 in let o = a.0.ref_ptr.1 in let h = a.0.now in let vs = mut_vals a.0 in
    let d = a.1.0 in
    let al : Al = record {
      row = G;
      laws = GL.the_row_laws;
      g = ghosts;
      d =
          impl [] tnil dnil;
      drops = impl [] tnil dnil;
    } in
    let y : W.Ghost = ((κs, qs, bounds, a, (vs, (t.val d ∷ [], tt))), tt) in
    let Run : List Val → SProp 𝓤 = λ ws. WpFn 𝓤 𝓛.H 𝓣.C 𝓣.Λ code.function (vptr b o ∷ ws)
    (W.post y) in
    let P = IsSome h.held in
    qed 𝓛 (((‵ (flft κs.0 qs.0) ⊛ ‵ ftrue) ⊛ ‵ ((MutRef (named 0) κs.0 R).own_val a.0 vs) ⊛ ‵
    (G.own_val d (t.val d ∷ [])) ⊛ ‵ ftrue) ∷ raw (fact 𝓤 P) ∷ []) ∵
    split ! $ split ! $ move ! (2 ∷ []) $ split3 ! $ move ! (5 ∷ []) $ heard ! P
    (λ one. move ! (1 ∷ []) $
    let v = (found h.held one).0 in let at_v = (found h.held one).1 in
    handle_tells al ! d (t.val d ∷ []) (λ hh eh fits.
    keep ! (0 ∷ 1 ∷ 3 ∷ []) $
    suffices ! (Run (hh ∷ [])) (subst (λ (us : List Val). ent 𝓤 (Run (hh ∷ [])) (Run us)) (sym eh)
    (id⊢ 𝓤 (Run (hh ∷ [])))) $
    enter ! _ _ _ _ _ $ alloc_all ! (λ l. pass_all ! refl ((tt, tt), (fits, tt)) $
    move ! (1 ∷ []) $ fsplit3 ! $ move ! (1 ∷ 2 ∷ 4 ∷ []) $ opens ! tt R b o (λ us.
    move ! (1 ∷ []) $ peeks ! R _ (shows 𝓛 R) h us (λ is. fsplit ! $ move ! (1 ∷ []) $
    rewrite ! 0 (λ (w : Option I.Denot). ‵ (place_owns I h.at h.state w)) at_v refl $ fsplit ! $
    drop ! $
    in_a_block ! h.at (λ p. box_owns chunk I p v)
    (fst∗ 𝓤 (never 𝓤) (sem 𝓛 (chunk (bare (lone I.mir)) null_ptr))) (λ lb lo e.
    -- [the box; the fields; the cell; the open borrow, in three entries; self's first part; the
    -- handle]
    let word = lowers.val_is h us is ∙ ap (λ (p : Ptr). lowers.lowered (record h { at = p }) ∷ [])
    e in
    let Cell = λ (ws : List Val). ‵ (cell_at full_share R.mir ws b o) in
    rewrite ! 2 Cell word refl $
    assigns ! (of_opd ! (lit ! tt)) (through ! refl (fld ! refl (stop !)))
    (store_in ! 2 (sub ! 1 refl (whole !)) (tt, record { fits = lit< tt })) $
    sets ! (of_opd ! (load ! (through ! refl (fld ! refl (stop !)))
    (look_in ! 2 (sub ! 0 refl (whole !))))) refl (tt, tt) $
    sets ! (of_opd ! (get ! refl)) refl (tt, tt) $
    sets ! (agg ! (and_then ! (get ! refl) (and_then ! (get ! refl) (no_more !)))) refl
    (loose_good I G GL.the_row_laws ghosts lb lo hh fits) $
    move ! (7 ∷ []) $ move ! (1 ∷ 0 ∷ []) $ loose_in I G GL.the_row_laws ghosts ! lb lo hh d v $
    -- [the box by its pointer; the fields; the cell; the open borrow; self's first part]
    move ! (1 ∷ []) $ drop ! $
    let V : Val = vstruct (vcons (vptr lb lo) (vcons (vint w64 0) vnil)) in
    feq_i ! Bool (0 == holds_one) false refl $
    nothing ! $ owned ! u64 _ (uint_Makes 𝓛 w64) 0 _ (refl, lit< tt) $ fjoin ! $
    feq_i ! (List Val) (vptr lb lo ∷ []) _ refl $ fjoin ! $ feq_i ! (List Val) (V ∷ [])
    (V ∷ []) refl $ fjoin ! $
    fpack ! (Valss (RawPtr ∷ u64 ∷ [])) (within (shape S) (block_ptr lb lo, (0, tt)) (V ∷ []))
    (vptr lb lo ∷ [], (vint w64 0 ∷ [], tt)) $ fjoin ! $
    let h' : R.Denot = record { at = block_ptr lb lo; state = 0; held = None } in
    let W' : Val = both (vptr lb lo) hh in
    let made : Lo.Denot = record { at = block_ptr lb lo; alloc = d; value = v } in
    move ! (2 ∷ 0 ∷ 3 ∷ 4 ∷ 5 ∷ []) $ closes ! tt R h' (V ∷ []) b o $
    returns ! (look_at ! 0 refl) $ free_all ! refl $ move ! (4 ∷ 0 ∷ 1 ∷ 2 ∷ []) $
    suffices ! _ (ends_at 𝓛 f.ended stayed c y W' made (h', (tt, tt)) (tt, (tt, tt))) $ says_two !
    (refl, sym at_v) $
    group ! 3 $ nothing ! $ nothing ! $ join ! $ move ! (1 ∷ 0 ∷ []) $ join ! $ nothing ! $ move !
    (2 ∷ 0 ∷ []) $ join ! $ frame ! $ frame ! $ done !)))))))
