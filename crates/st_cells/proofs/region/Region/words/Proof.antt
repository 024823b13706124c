-- `words` shows the words for as long as the region is borrowed.
use Rattle.std.proofs.Common.{◌≡◌, ℕ, ◌*◌, ◌^◌, ◌<◌, List, [], ◌∷◌, length, sym, refl, ap, subst, ◌∙◌}
use Rattle.std.proofs.raw_atomic.Walks.{proved, leaves}
use mir.Syntax.{named}
use mir.Val.{Val, vptr}
use base.Logic.{SProp, emp}
use base.Fml.{Lft, ftrue, flft, fhide}
use contract.Monad.{fact, fact_i}
use contract.Running.{tables}
use types.Kit.{‵, raw, ◌⊛◌, at_ret, ◌$◌, ◌∵◌, !, qed, by, move, keep, split, join, fsplit, fjoin, use0, use1, rewrite, feq_i, feq_l, flt_i, flt_l}
use types.Part.{whole, sub, look_in, agg}
use types.Run.{stop, fld, load, of_opd, no_more, and_then, first, blocks, exec, returns, enter}
use types.ByLocal.{alloc_all, pass_all, free_all, look_at, get, through, sets, sets_last, env}
use denote.Builtin.{RefOf}
use denote.Exit.{yes}
use denote.Laws.{Is, shows}
use denote.Memory.{cell_at, hidden_shr}
use denote.Opens.{unhide, hide}
use denote.RattleType.{owns}
use denote.RawPtr.{Ptr, InBlock, block_ptr, block_of, count_of, at_block}
use denote.Ref.{shr_vals, shr_Tells}
use denote.Signature.{plain, types_at}
use denote.Slice.{slice_val}
use denote.Steps.{nothing, heard, peeks, looks, shuts}
use denote.Struct.Lending.{lent_out, in_block_says}
use denote.Triple.Walked.{Stays, stay_dropped, walk_of, Goes-dropped}
use Rattle.std.proofs.Shapes.{after}
use Rattle.st_cells.specs.inside.Owned.{words_lent}
use Rattle.st_cells.specs.contracts.region.Region as region
use Rattle.st_cells.specs.contracts.region.Region.words as f
use Rattle.st_cells.proofs.Fields.{Data, region_val, told, opened}
use Rattle.st_cells.proofs.region.Region.words.Statement.{statement}
use Rattle.st_cells.proofs.region.Region.words.Code as code

pub words_spec : {M : Type 1} → statement M
words_spec 𝓤 𝓛 𝓜 𝓡 wired =
    let 𝓣 = tables 𝓤 𝓛.H 𝓜 𝓡 𝓡.env in let c = f.clauses 𝓛 𝓜.mem 𝓡.returns in let fn = code.function in
    let self = RefOf (0 ∷ []) tt (plain (λ _. region.the_row)) (λ _. tt) in let hs : Stays f.ended.signature.params f.ended.kept = (stay_dropped self yes, tt) in
    proved 𝓛 f.ended hs c 𝓜 𝓡 (Goes-dropped 𝓛 1 self yes (λ κs x w. refl), tt) f.Key.name fn (code.unfolded 𝓤 𝓛.H 𝓜 𝓡 wired)
    (λ κs. (shr_vals, tt)) (λ κs. (shr_Tells (named 0) κs.0 region.the_row, tt)) (λ κs qs bounds a g are.
    let κ : Lft = κs.0 in let b : ℕ = a.0.ref_ptr.0 in let o : ℕ = a.0.ref_ptr.1 in let d = a.0.now in let p : Ptr = d.at in let n : ℕ = d.len in let ws : List ℕ = d.words in
    let y : (walk_of 𝓛 f.ended hs c).Ghost = ((κs, qs, bounds, a, (vptr b o ∷ [], tt)), g) in let Post : Val → SProp 𝓤 = (walk_of 𝓛 f.ended hs c).post y in
    let there : ℕ × ℕ = (block_of p, count_of p) in
    qed 𝓛 (((‵ (flft κ qs.0) ⊛ ‵ ftrue) ⊛ ‵ (owns (types_at f.ended.signature.params κs) a y.0.4)) ∷ raw ((c κs a).requires g) ∷ []) ∵
    split ! $ split ! $ move ! (2 ∷ []) $ fsplit ! $ fsplit ! $ keep ! (1 ∷ 3 ∷ []) $
    enter ! 𝓣.C 𝓣.Λ fn (vptr b o ∷ []) Post $ alloc_all ! (λ l. pass_all ! refl ((tt, tt), tt) $ let Ev = env fn.locals l in
    use1 𝓛 (‵ (hidden_shr Data κ (p, (n, tt)) b o) ⊛ ‵ (fhide (words_lent p n ws κ))) (lent_out 𝓛 region.struct region.the_codes region.the_heap region.the_lent κ d b o) $
    split ! $ move ! (1 ∷ []) $ unhide ! $ fsplit ! $ flt_l ! (λ fit. fsplit ! $ use1 𝓛 (raw (fact 𝓤 (InBlock p))) (in_block_says 𝓛 p) $ heard ! (InBlock p) (λ inb. fsplit ! $ feq_l ! (λ long. hide ! $
    -- [the fields; the token; the words]
    move ! (1 ∷ 2 ∷ []) $ looks ! tt Data (opened 𝓛) (p, (n, tt)) b o (λ q vs. move ! (1 ∷ []) $ peeks ! Data (Is Data) (shows 𝓛 Data) (p, (n, tt)) vs (λ is.
    let so = told p n vs is in let fits : n < 2 ^ 64 = so.1 in
    let ev : vs ≡ region_val (block_ptr (block_of p) (count_of p)) n ∷ [] = so.0 ∙ ap (λ (r : Ptr). region_val r n ∷ []) (at_block p inb) in
    rewrite ! 1 (λ (us : List Val). ‵ (cell_at q Data.mir us b o)) ev refl $ first ! $ blocks ! $
    sets ! (of_opd ! (load ! (through ! refl (fld ! refl (stop !))) (look_in ! 1 (sub ! 0 refl (whole !))))) refl (tt, tt) $
    sets ! (of_opd ! (load ! (through ! refl (fld ! refl (stop !))) (look_in ! 1 (sub ! 1 refl (whole !))))) refl (tt, record { fits = fits }) $
    sets_last ! (agg ! (and_then ! (get ! refl) (and_then ! (get ! refl) (no_more !)))) refl (tt, (tt, (record { fits = fits }, tt))) $
    exec ! 𝓣.C 𝓣.Λ Ev (after 1 fn.body) (at_ret Ev Post) $ sets ! (of_opd ! (get ! refl)) refl (tt, (tt, (record { fits = fits }, tt))) $
    rewrite ! 1 (λ (us : List Val). ‵ (cell_at q Data.mir us b o)) (sym ev) refl $ move ! (1 ∷ 0 ∷ 2 ∷ []) $ shuts ! tt Data q (p, (n, tt)) vs b o $
    -- [the token; the fields; the words]
    nothing ! $ move ! (1 ∷ 0 ∷ []) $ join ! $ move ! (2 ∷ []) $
    flt_i ! (length ws * 2) (2 ^ 63) (subst (λ (k : ℕ). k * 2 < 2 ^ 63) (sym long) fit) $ flt_i ! (length ws) (2 ^ 64) (subst (λ (k : ℕ). k < 2 ^ 64) (sym long) fits) $ fjoin ! $
    feq_i ! (List Val) (slice_val there n ∷ []) (slice_val there (length ws) ∷ []) (ap (λ (k : ℕ). slice_val there k ∷ []) (sym long)) $ fjoin ! $ fjoin ! $
    use0 𝓛 (raw (fact 𝓤 (ws ≡ ws))) (fact_i 𝓤 (ws ≡ ws) (emp 𝓤) refl) $ nothing ! $ nothing ! $ fjoin ! $
    returns ! (look_at ! 0 refl) $ free_all ! refl $ keep ! (3 ∷ 0 ∷ 2 ∷ 1 ∷ []) $
    by ! (leaves 𝓛 f.ended hs c y (slice_val there n) (record { ref_ptr = there; now = ws }) (tt, tt) (tt, tt)))))))))
