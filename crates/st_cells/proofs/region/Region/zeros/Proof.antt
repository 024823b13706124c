-- `zeros` takes a block from the allocator and writes all of it.
use Rattle.std.proofs.Common.{◌≡◌, ℕ, ◌*◌, ◌^◌, ◌<◌, T, true, false, List, [], ◌∷◌, replicate, refl, sym, ap, subst, lit<, arith, w64}
use Rattle.std.proofs.raw_atomic.Walks.{proved, leaves}
use Rattle.std.proofs.alloc.Calls.{Answer, Answer-typed}
use Rattle.std.proofs.alloc.Shapes.{after, head, arm_body}
use Rattle.std.proofs.ResultValues.{ok_of, err_of}
use base.Fraction.{full_share}
use base.Logic.{SProp, emp, id⊢}
use base.Fml.{Lft, Share, ftrue, flft}
use contract.Monad.{fact, fact_i}
use contract.Running.{tables}
use mir.Syntax.{Ty, named, ty_unit}
use mir.Val.{Val, vint, vptr, vstruct, vcons, vnil, has_ty, WT}
use prog.Capped.{capped_is}
use prog.Wp.{Wp, at_return, after_seq}
use types.Kit.{any_q, ‵, raw, ◌⊛◌, some, later, at_ret, ◌$◌, ◌∵◌, !, qed, by, move, keep, drop, split, join, fsplit, fjoin, use0, use1, await, pick, feq_i, feq_l, flt_i}
use types.Part.{whole, agg}
use types.Match.{live, vrt, in_variant}
use types.Run.{stop, fld, lit, bin, of_opd, no_more, and_then, first, blocks, switches_on, exec, returns, enter}
use types.ByLocal.{alloc_all, pass_all, free_all, look_at, get, get_in, get_tag, sets, sets_last, lands_as, lands_last, env}
use denote.Array.{Array}
use denote.Builtin.{RefOf, unit, usize, u16}
use denote.Laws.{Is}
use denote.Memory.{part_at}
use denote.Plain.{uint_vals, uint_Tells}
use denote.RattleType.{RattleType, owns}
use denote.RawPtr.{Ptr, block_ptr}
use denote.Ref.{shr_vals, shr_Tells}
use denote.Signature.{plain, types_at, type_at}
use denote.Steps.{nothing, heard, only, owned}
use denote.Struct.Declared as Declared
use denote.Struct.Struct.{Struct, Struct-Makes}
use denote.Triple.Call.{calls_at, calls_at_last}
use denote.Triple.Clauses.{lasts}
use denote.Triple.Spec.{triple_of}
use denote.Triple.Table.{framed}
use denote.Triple.Walked.{Stays, stay_dropped, walk_of, Goes-dropped}
use Rattle.std.specs.Allocator.{HasLayout, block_if_ok}
use Rattle.std.specs.Prelude.{Ok, Err}
use Rattle.std.specs.contracts.alloc.Global as heap
use Rattle.std.specs.contracts.alloc.AllocError as AE
use Rattle.std.specs.contracts.impls.GlobalAllocator.allocate as takes
use Rattle.std.specs.contracts.impls.GlobalAllocator.TheImpl.{ghosts}
use Rattle.std.proofs.impls.GlobalAllocator.allocate.Met as takes_met
use Rattle.st_cells.specs.inside.Owned.{words_type}
use Rattle.st_cells.specs.contracts.region.Region as region
use Rattle.st_cells.specs.contracts.region.write_zeros as fills
use Rattle.st_cells.specs.contracts.region.Region.zeros as f
use Rattle.st_cells.proofs.Answered.{by_answer}
use Rattle.st_cells.proofs.Fields.{Data, region_val, made}
use Rattle.st_cells.proofs.region.write_zeros.Met as fills_met
use Rattle.st_cells.proofs.region.Region.zeros.Statement.{statement}
use Rattle.st_cells.proofs.region.Region.zeros.Code as code

pub zeros_spec : {M : Type 1} → statement M
zeros_spec 𝓤 𝓛 𝓜 𝓡 wired =
    let H = 𝓛.H in let 𝓣 = tables 𝓤 H 𝓜 𝓡 𝓡.env in let c = f.clauses 𝓛 𝓜.mem 𝓡.returns in let fn = code.function in let fm = framed 𝓤 H 𝓜 𝓣 in
    let self = RefOf (0 ∷ []) tt (plain (λ _. heap.the_row)) (λ _. tt) in
    let hs : Stays f.ended.signature.params f.ended.kept = (stay_dropped self f.ended.kept.0, (stay_dropped (plain (λ _. usize)) f.ended.kept.1.0, tt)) in
    proved 𝓛 f.ended hs c 𝓜 𝓡 (Goes-dropped 𝓛 1 self f.ended.kept.0 (λ κs x w. refl), (Goes-dropped 𝓛 1 (plain (λ _. usize)) f.ended.kept.1.0 (λ κs x w. refl), tt)) f.Key.name fn (code.unfolded 𝓤 H 𝓜 𝓡 wired)
    (λ κs. (shr_vals, (uint_vals w64, tt))) (λ κs. (shr_Tells (named 0) κs.0 heap.the_row, (uint_Tells w64, tt))) (λ κs qs bounds a g are.
    let κ : Lft = κs.0 in let q : Share = qs.0 in let r = a.0 in let n : ℕ = a.1.0 in let fits : n < 2 ^ 64 = are.1.0.1 in let here : Val = vptr r.ref_ptr.0 r.ref_ptr.1 in let τ : Ty = words_type n in let token = ghosts.dealloc_token r.now in
    let y : (walk_of 𝓛 f.ended hs c).Ghost = ((κs, qs, bounds, a, (here ∷ [], (vint w64 n ∷ [], tt))), g) in let Post : Val → SProp 𝓤 = (walk_of 𝓛 f.ended hs c).post y in
    let Takes = triple_of 𝓛 takes.signature (takes.spec 𝓛 𝓜.mem 𝓡.returns) in let Fills = triple_of 𝓛 fills.signature (fills.spec 𝓛 𝓜.mem 𝓡.returns) in
    qed 𝓛 (((‵ (flft κ q) ⊛ ‵ ftrue) ⊛ ‵ (owns (types_at f.ended.signature.params κs) a y.0.4)) ∷ raw (fact 𝓤 (n < 2 ^ 62)) ∷ []) ∵
    move ! (1 ∷ []) $ heard ! (n < 2 ^ 62) (λ small. split ! $ move ! (1 ∷ []) $ fsplit ! $ move ! (1 ∷ []) $ drop ! $
    let bytes : n * 2 < 2 ^ 64 = omega arith in let few : n * 2 < 2 ^ 63 = omega arith in
    -- [the `&` to the allocator; the token]
    enter ! 𝓣.C 𝓣.Λ fn (here ∷ vint w64 n ∷ []) Post $ alloc_all ! (λ l. pass_all ! refl ((tt, tt), ((tt, record { fits = fits }), tt)) $ let En = env fn.locals l in
    sets ! (bin ! (get ! refl) (lit ! tt) (record { fits = bytes })) refl (tt, record { fits = bytes }) $
    nothing ! $ flt_i ! 2 (2 ^ 64) (lit< tt) $ feq_i ! (List Val) (vint w64 2 ∷ []) (vint w64 2 ∷ []) refl $ fjoin ! $ fjoin ! $ flt_i ! (n * 2) (2 ^ 64) bytes $ feq_i ! (List Val) (vint w64 (n * 2) ∷ []) (vint w64 (n * 2) ∷ []) refl $ fjoin ! $ fjoin ! $
    move ! (1 ∷ 0 ∷ []) $ fjoin ! $ move ! (1 ∷ 0 ∷ []) $ join ! $ use0 𝓛 (raw (fact 𝓤 (HasLayout τ (n * 2) 2))) (fact_i 𝓤 (HasLayout τ (n * 2) 2) (emp 𝓤) (capped_is (n * 2) bytes, refl)) $ move ! (1 ∷ 0 ∷ []) $ join ! $
    let z : Takes.Ghost = (((κ, tt), (q, tt), tt, (r, (n * 2, (2, tt))), (here ∷ [], (vint w64 (n * 2) ∷ [], (vint w64 2 ∷ [], tt)))), τ) in
    use1 𝓛 (raw (Takes.pre z)) (id⊢ 𝓤 _) $ calls_at ! fm Takes (takes_met.met 𝓤 𝓛 𝓜 𝓡 (code.calls-std_heap::GlobalAllocator::allocate 𝓡.env wired)) z (and_then ! (get ! refl) (and_then ! (get ! refl) (and_then ! (lit ! tt) (no_more !)))) (λ v.
    use1 𝓛 (later (some (λ (s : Answer.Denot). ((‵ (flft κ q) ⊛ ‵ ftrue) ⊛ ‵ (Answer.own_val s (v ∷ []))) ⊛ some (λ (ws : Unit {0} × (Unit {0} × (Unit {0} × Unit {0}))). ‵ (lasts takes.ended (κ, tt) z.0.3 ws) ⊛ ‵ (block_if_ok token τ s))))) (id⊢ 𝓤 _) $ await ! tt $ pick ! (λ s.
    split ! $ move ! (1 ∷ []) $ pick ! (λ ws. split ! $ drop ! $ move ! (1 ∷ []) $ split ! $ move ! (1 ∷ 2 ∷ []) $
    -- [what was answered; what comes with it; the token]
    let both = head (after 2 fn.body) in let Then = any_q (after_seq 𝓤 H (Wp 𝓤 H 𝓣.C 𝓣.Λ En (after 3 fn.body) (at_return 𝓤 H En Post)) (at_return 𝓤 H En Post)) in
    by_answer token τ v ! s
    (λ b o e. let p : Ptr = block_ptr b o in let x : region.the_row.Denot = record { at = p; len = n; alloc = r.now; words = replicate n 0 } in
    lands_as ! e refl (Answer-typed true b o) $ first ! $ switches_on ! (get_tag ! (vrt ! refl (fld ! refl (stop !))) (whole !)) $ exec ! 𝓣.C 𝓣.Λ En (arm_body 0 both) Then $
    sets ! (of_opd ! (get_in ! (vrt ! refl (fld ! refl (stop !))) (in_variant ! 0 0 refl refl (whole !)))) refl (tt, tt) $ sets ! (of_opd ! (get ! refl)) refl (tt, tt) $
    use0 𝓛 (raw (fact 𝓤 (n < 2 ^ 62))) (fact_i 𝓤 (n < 2 ^ 62) (emp 𝓤) small) $ join ! $ nothing ! $ flt_i ! n (2 ^ 64) fits $ feq_i ! (List Val) (vint w64 n ∷ []) (vint w64 n ∷ []) refl $ fjoin ! $ fjoin ! $
    feq_i ! (List Val) (vptr b o ∷ []) (vptr b o ∷ []) refl $ fjoin ! $ nothing ! $ join ! $ join ! $
    let w : Fills.Ghost = ((tt, tt, tt, (p, (n, tt)), (vptr b o ∷ [], (vint w64 n ∷ [], tt))), tt) in
    use1 𝓛 (raw (Fills.pre w)) (id⊢ 𝓤 _) $ first ! $ blocks ! $ calls_at_last ! fm Fills (fills_met.met 𝓤 𝓛 𝓜 𝓡 (code.calls-st_cells::region::write_zeros 𝓡.env wired)) w (and_then ! (get ! refl) (and_then ! (get ! refl) (no_more !))) (λ u.
    use1 𝓛 (later (some (λ (d : Unit {0}). (‵ ftrue ⊛ ‵ (unit.own_val d (u ∷ []))) ⊛ some (λ (ws' : Unit {0} × (Unit {0} × Unit {0})). ‵ (lasts fills.ended tt w.0.3 ws') ⊛ ‵ (part_at (Array u16 n) full_share (replicate n 0) b o))))) (id⊢ 𝓤 _) $ await ! tt $ pick ! (λ d.
    split ! $ split ! $ drop ! $ feq_l ! (λ is_unit. pick ! (λ ws'. split ! $ drop ! $
    -- [the words; the right to give the block back; the token]
    lands_last ! refl (subst (λ (m : Val). T (has_ty ty_unit m) × WT m) (sym (ap only is_unit)) (tt, tt)) $ exec ! 𝓣.C 𝓣.Λ En (after 3 (arm_body 0 both)) Then $
    sets ! (agg ! (and_then ! (get ! refl) (and_then ! (get ! refl) (no_more !)))) refl (tt, (tt, (record { fits = fits }, tt))) $
    sets_last ! (agg ! (and_then ! (lit ! tt) (and_then ! (get ! refl) (no_more !)))) refl (tt, (record { fits = lit< tt }, ((tt, (record { fits = fits }, tt)), tt))) $
    exec ! 𝓣.C 𝓣.Λ En (after 3 fn.body) (at_ret En Post) $ sets ! (of_opd ! (get ! refl)) refl (tt, (record { fits = lit< tt }, ((tt, (record { fits = fits }, tt)), tt))) $
    fjoin ! $ flt_i ! (n * 2) (2 ^ 63) few $ fjoin ! $ use0 𝓛 (‵ (Data.own_val (p, (n, tt)) (region_val p n ∷ []))) (made 𝓛 p n fits) $ fjoin ! $
    let out : Val = live 0 (vcons (region_val p n) vnil) in use1 𝓛 (‵ ((type_at f.ended.signature.result κs).own_val (Ok x) (out ∷ []))) (ok_of 𝓛 region.the_row AE.the_row x (region_val p n)) $
    -- [the result; the token]
    use0 𝓛 (raw (fact 𝓤 (x.words ≡ x.words))) (fact_i 𝓤 (x.words ≡ x.words) (emp 𝓤) refl) $ nothing ! $ nothing ! $ fjoin ! $ nothing ! $ fjoin ! $
    returns ! (look_at ! 0 refl) $ free_all ! refl $ keep ! (3 ∷ 0 ∷ 2 ∷ 1 ∷ []) $
    by ! (leaves 𝓛 f.ended hs c y out (Ok x) (tt, (tt, tt)) (tt, (tt, tt))))))))
    (λ e. let Refusal : RattleType = Struct (Declared.shape AE.the_type) in let out : Val = live 1 (vcons (vstruct vnil) vnil) in
    lands_as ! e refl (Answer-typed false 0 0) $ first ! $ switches_on ! (get_tag ! (vrt ! refl (fld ! refl (stop !))) (whole !)) $ exec ! 𝓣.C 𝓣.Λ En (arm_body 1 both) Then $
    sets ! (of_opd ! (get_in ! (vrt ! refl (fld ! refl (stop !))) (in_variant ! 1 0 refl refl (whole !)))) refl (tt, tt) $
    sets_last ! (agg ! (and_then ! (lit ! tt) (and_then ! (get ! refl) (no_more !)))) refl (tt, (record { fits = lit< tt }, (tt, tt))) $
    exec ! 𝓣.C 𝓣.Λ En (after 3 fn.body) (at_ret En Post) $ sets ! (of_opd ! (get ! refl)) refl (tt, (record { fits = lit< tt }, (tt, tt))) $
    owned ! Refusal (Is Refusal) (Struct-Makes 𝓛 (Declared.shape AE.the_type) tt) tt (vstruct vnil ∷ []) (tt, (refl, tt)) $
    use1 𝓛 (‵ ((type_at f.ended.signature.result κs).own_val (Err (record {})) (out ∷ []))) (err_of 𝓛 region.the_row AE.the_row (record {}) (vstruct vnil)) $
    use0 𝓛 (raw (fact 𝓤 (Unit {0}))) (fact_i 𝓤 (Unit {0}) (emp 𝓤) tt) $ nothing ! $ nothing ! $ fjoin ! $ nothing ! $ fjoin ! $
    returns ! (look_at ! 0 refl) $ free_all ! refl $ keep ! (3 ∷ 0 ∷ 2 ∷ 1 ∷ []) $ by ! (leaves 𝓛 f.ended hs c y out (Err (record {})) (tt, (tt, tt)) (tt, (tt, tt))))))))))
