-- `free` gives the allocator its block and the right to free it.
use Rattle.std.proofs.Common.{ℕ, ◌*◌, ◌^◌, ◌<◌, T, List, [], ◌∷◌, length, refl, sym, ap, subst, lit<, arith}
use Rattle.std.proofs.raw_atomic.Walks.{proved, leaves}
use Rattle.std.proofs.alloc.Calls.{Goes-blank}
use Rattle.std.proofs.alloc.Shapes.{after}
use base.Fraction.{full_share}
use base.Logic.{SProp, emp, never, fst∗, id⊢}
use base.Fml.{Lft, Share, ftrue, feq, fsep, flft, froom}
use contract.Monad.{fact, fact_i}
use contract.Running.{tables}
use mir.Syntax.{Ty, named, w16, w64, ty_int, ty_array, ty_unit}
use mir.Val.{Val, vint, vptr, vunit, has_ty, WT}
use prog.Capped.{capped_is}
use prog.Wp.{WpFn}
use types.Logic.{sem}
use types.Kit.{‵, raw, ◌⊛◌, some, later, prop, at_ret, ◌$◌, ◌∵◌, !, qed, by, move, keep, drop, split, join, fsplit, fjoin, regoal, use0, use1, rewrite, await, pick, feq_i, feq_l, flt_i, flt_l}
use types.Part.{whole, sub}
use types.Run.{stop, fld, lit, bin, unit_lit, of_opd, no_more, and_then, first, blocks, exec, returns, enter}
use types.ByLocal.{alloc_all, pass_all, free_all, look_at, get, get_in, sets, lands_last, env}
use denote.Array.{Array}
use denote.ArrayMemory.{Array-apart}
use denote.Builtin.{RefOf, unit, u16}
use denote.RattleType.{owns}
use denote.RawPtr.{Ptr, block_ptr, null_ptr, lies_at, in_a_block}
use denote.Ref.{shr_vals, shr_Tells}
use denote.Signature.{plain, types_at}
use denote.Steps.{nothing, only}
use denote.Triple.Call.{calls_at_last}
use denote.Triple.Clauses.{lasts}
use denote.Triple.Spec.{triple_of}
use denote.Triple.Table.{framed}
use denote.Triple.Walked.{Stays, stay_dropped, walk_of, Goes-dropped}
use Rattle.std.specs.Allocator.{HasLayout}
use Rattle.std.specs.contracts.alloc.Global as heap
use Rattle.std.specs.contracts.impls.GlobalAllocator.deallocate as gives
use Rattle.std.specs.contracts.impls.GlobalAllocator.TheImpl.{ghosts}
use Rattle.std.proofs.impls.GlobalAllocator.deallocate.Met as gives_met
use Rattle.st_cells.specs.inside.Owned.{words_type}
use Rattle.st_cells.specs.contracts.region.Region as region
use Rattle.st_cells.specs.contracts.region.Region.free as f
use Rattle.st_cells.proofs.Fields.{region_val, told}
use Rattle.st_cells.proofs.SideBySide.{words_at, room_of_words}
use Rattle.st_cells.proofs.region.Region.free.Statement.{statement}
use Rattle.st_cells.proofs.region.Region.free.Code as code

pub free_spec : {M : Type 1} → statement M
free_spec 𝓤 𝓛 𝓜 𝓡 wired =
    let H = 𝓛.H in let 𝓣 = tables 𝓤 H 𝓜 𝓡 𝓡.env in let c = f.clauses 𝓛 𝓜.mem 𝓡.returns in let fn = code.function in let fm = framed 𝓤 H 𝓜 𝓣 in
    let own = plain (λ _. region.the_row) in let self = RefOf (0 ∷ []) tt (plain (λ _. heap.the_row)) (λ _. tt) in
    let hs : Stays f.ended.signature.params f.ended.kept = (stay_dropped own f.ended.kept.0, (stay_dropped self f.ended.kept.1.0, tt)) in
    proved 𝓛 f.ended hs c 𝓜 𝓡 (Goes-blank 𝓛 1 own f.ended.kept.0 (λ κs x w. tt), (Goes-dropped 𝓛 1 self f.ended.kept.1.0 (λ κs x w. refl), tt)) f.Key.name fn (code.unfolded 𝓤 H 𝓜 𝓡 wired)
    (λ κs. ((λ h. region_val h.at h.len ∷ []), (shr_vals, tt))) (λ κs. ((λ h vs is. (told h.at h.len vs is.0).0), (shr_Tells (named 0) κs.0 heap.the_row, tt))) (λ κs qs bounds a g are.
    let κ : Lft = κs.0 in let q : Share = qs.0 in let h = a.0 in let p : Ptr = h.at in let n : ℕ = h.len in let ws : List ℕ = h.words in let r = a.1.0 in let here : Val = vptr r.ref_ptr.0 r.ref_ptr.1 in let τ : Ty = words_type n in
    let fits : n < 2 ^ 64 = (told p n (region_val p n ∷ []) are.0.0).1 in let token = ghosts.dealloc_token h.alloc τ in
    let y : (walk_of 𝓛 f.ended hs c).Ghost = ((κs, qs, bounds, a, (region_val p n ∷ [], (here ∷ [], tt))), g) in let Post : Val → SProp 𝓤 = (walk_of 𝓛 f.ended hs c).post y in
    let Gives = triple_of 𝓛 gives.signature (gives.spec 𝓛 𝓜.mem 𝓡.returns) in
    qed 𝓛 (((‵ (flft κ q) ⊛ ‵ ftrue) ⊛ ‵ (owns (types_at f.ended.signature.params κs) a y.0.4)) ∷ raw ((c κs a).requires g) ∷ []) ∵
    split ! $ split ! $ move ! (2 ∷ []) $ fsplit ! $ fsplit ! $ drop ! $ fsplit ! $ flt_l ! (λ few. in_a_block ! p (λ x. fsep (lies_at (Array u16 n) full_share x ws) (token x)) (fst∗ 𝓤 (never 𝓤) (sem 𝓛 (token null_ptr))) (λ b o e. fsplit ! $
    use1 𝓛 (‵ (fsep (feq ℕ (length ws) n) (words_at ws b o))) (Array-apart 𝓛 u16 full_share tt n ws b o) $ fsplit ! $ feq_l ! (λ long.
    use1 𝓛 (‵ (froom (ty_array (ty_int w16) (length ws)) b o)) (room_of_words 𝓛 ws b o) $ rewrite ! 0 (λ (k : ℕ). ‵ (froom (ty_array (ty_int w16) k) b o)) long refl $
    move ! (2 ∷ []) $ fsplit ! $ keep ! (2 ∷ 3 ∷ 0 ∷ 4 ∷ []) $
    -- [the block; the right to free it; the `&` to the allocator; the token]
    let bytes : n * 2 < 2 ^ 64 = omega (arith, few) in
    regoal ! (λ (x : Ptr). prop (WpFn 𝓤 H 𝓣.C 𝓣.Λ fn (region_val x n ∷ here ∷ []) Post)) e refl $
    enter ! 𝓣.C 𝓣.Λ fn (region_val (block_ptr b o) n ∷ here ∷ []) Post $ alloc_all ! (λ l. pass_all ! refl ((tt, (tt, (record { fits = fits }, tt))), ((tt, tt), tt)) $ let En = env fn.locals l in
    sets ! (of_opd ! (get_in ! (fld ! refl (stop !)) (sub ! 0 refl (whole !)))) refl (tt, tt) $ sets ! (of_opd ! (get_in ! (fld ! refl (stop !)) (sub ! 1 refl (whole !)))) refl (tt, record { fits = fits }) $
    first ! $ blocks ! $ sets ! (of_opd ! (get ! refl)) refl (tt, tt) $ sets ! (bin ! (get ! refl) (lit ! tt) (record { fits = bytes })) refl (tt, record { fits = bytes }) $
    fjoin ! $ use0 𝓛 (raw (fact 𝓤 (HasLayout τ (n * 2) 2))) (fact_i 𝓤 (HasLayout τ (n * 2) 2) (emp 𝓤) (capped_is (n * 2) bytes, refl)) $ join ! $
    nothing ! $ flt_i ! 2 (2 ^ 64) (lit< tt) $ feq_i ! (List Val) (vint w64 2 ∷ []) (vint w64 2 ∷ []) refl $ fjoin ! $ fjoin ! $ flt_i ! (n * 2) (2 ^ 64) bytes $ feq_i ! (List Val) (vint w64 (n * 2) ∷ []) (vint w64 (n * 2) ∷ []) refl $ fjoin ! $ fjoin ! $
    feq_i ! (List Val) (vptr b o ∷ []) (vptr b o ∷ []) refl $ fjoin ! $ move ! (2 ∷ 0 ∷ []) $ fjoin ! $ move ! (2 ∷ []) $ nothing ! $ move ! (1 ∷ 0 ∷ []) $ join ! $ join ! $ join ! $
    let z : Gives.Ghost = (((κ, tt), (q, tt), tt, (r, (block_ptr b o, (n * 2, (2, tt)))), (here ∷ [], (vptr b o ∷ [], (vint w64 (n * 2) ∷ [], (vint w64 2 ∷ [], tt))))), τ) in
    use1 𝓛 (raw (Gives.pre z)) (id⊢ 𝓤 _) $
    calls_at_last ! fm Gives (gives_met.met 𝓤 𝓛 𝓜 𝓡 (code.calls-std_heap::GlobalAllocator::deallocate 𝓡.env wired)) z (and_then ! (get ! refl) (and_then ! (get ! refl) (and_then ! (get ! refl) (and_then ! (lit ! tt) (no_more !))))) (λ v.
    use1 𝓛 (later (some (λ (d : Unit {0}). ((‵ (flft κ q) ⊛ ‵ ftrue) ⊛ ‵ (unit.own_val d (v ∷ []))) ⊛ some (λ (us : Unit {0} × (Unit {0} × (Unit {0} × (Unit {0} × Unit {0})))). ‵ (lasts gives.ended (κ, tt) z.0.3 us) ⊛ ‵ ftrue)))) (id⊢ 𝓤 _) $ await ! tt $ pick ! (λ d.
    split ! $ split ! $ move ! (1 ∷ []) $ feq_l ! (λ is_unit. move ! (1 ∷ []) $ pick ! (λ us. drop ! $
    lands_last ! refl (subst (λ (m : Val). T (has_ty ty_unit m) × WT m) (sym (ap only is_unit)) (tt, tt)) $ exec ! 𝓣.C 𝓣.Λ En (after 3 fn.body) (at_ret En Post) $
    sets ! (of_opd ! (unit_lit !)) refl (tt, tt) $ returns ! (look_at ! 0 refl) $ free_all ! refl $
    feq_i ! (List Val) (vunit ∷ []) (vunit ∷ []) refl $ nothing ! $ nothing ! $ nothing ! $ fjoin ! $ nothing ! $ fjoin ! $ keep ! (3 ∷ 0 ∷ 2 ∷ 1 ∷ []) $
    by ! (leaves 𝓛 f.ended hs c y vunit tt (tt, (tt, tt)) (tt, (tt, tt))))))))))))
