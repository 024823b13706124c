-- `words_mut` lends the words, and the region follows what is written.
use Rattle.std.proofs.Common.{◌≡◌, ℕ, ◌*◌, ◌^◌, ◌<◌, List, [], ◌∷◌, length, sym, refl, ap, subst, ◌∙◌}
use Rattle.std.proofs.raw_atomic.Walks.{proved, leaves}
use seplogic.Ra.Ura.{Ura}
use base.Fraction.{full_share}
use mir.Syntax.{named}
use mir.Val.{Val, vptr}
use base.Logic.{SProp, ent, sep, emp, never, fst∗, id⊢}
use base.Fml.{Lft, GName, Share, Fml, ftrue, fsep, feq, flft}
use contract.Monad.{fact, fact_i}
use contract.Running.{tables}
use types.Logic.{Logic, sem}
use types.Kit.{‵, raw, ◌⊛◌, some, later, at_ret, ◌$◌, ◌∵◌, !, qed, by, move, keep, drop, split, split3, join, fsplit, fsplit3, fjoin, fpack, use0, use1, rewrite, group, await, pick, feq_i, feq_l, flt_i, flt_l, done}
use types.Part.{whole, sub, look_in, agg}
use types.Run.{stop, fld, load, of_opd, no_more, and_then, first, blocks, exec, returns, enter}
use types.ByLocal.{alloc_all, pass_all, free_all, look_at, get, through, sets, sets_last, env}
use types.SemTy.{cells}
use denote.Array.{Array}
use denote.ArrayMemory.{Array-apart, Array-whole}
use denote.Builtin.{u16}
use denote.Exit.{no}
use denote.Follow.{follows}
use denote.FollowSlice.{Elements, lends_Elements}
use denote.Index.{whole_in, whole_out}
use denote.Laws.{Is, shows}
use denote.Memory.{cell_at, part_at, part_of, mem}
use denote.RattleType.{owns}
use denote.RawPtr.{Ptr, block_ptr, null_ptr, lies_at, in_a_block}
use denote.Ref.{MutBor, mut_vals, mut_Tells}
use denote.Signature.{plain, types_at}
use denote.Slice.{MutSlice, slice_val}
use denote.Steps.{nothing, opens, peeks}
use denote.Triple.Walked.{Stays, stay_dropped, walk_of, Goes-spent_ref}
use denote.Signature.{mut_ref_to}
use Rattle.std.proofs.Shapes.{after}
use Rattle.std.specs.contracts.impls.GlobalAllocator.TheImpl.{ghosts}
use Rattle.st_cells.specs.inside.Lent.{with_words}
use Rattle.st_cells.specs.inside.Owned.{words_owned, words_type}
use Rattle.st_cells.specs.contracts.region.Region as region
use Rattle.st_cells.specs.contracts.region.Region.words_mut as f
use Rattle.st_cells.proofs.Fields.{Data, region_val, told}
use Rattle.st_cells.proofs.SideBySide.{words_at}
use Rattle.st_cells.proofs.region.Region.words_mut.Statement.{statement}
use Rattle.st_cells.proofs.region.Region.words_mut.Code as code

module _ {M : Type 1} {𝓤 : Ura M} (𝓛 : Logic 𝓤) (h : region.the_row.Denot) (rb ro b o : ℕ) (at_b : h.at ≡ block_ptr b o) (long : length h.words ≡ h.len) (small : h.len * 2 < 2 ^ 63) where
  abbrev token : Fml
  token = ghosts.dealloc_token h.alloc (words_type h.len) (block_ptr b o)

  abbrev val : List Val
  val = region_val (block_ptr b o) h.len ∷ []

  -- what stays with the lender: the right to free the block, the fields, and the region's own memory
  abbrev Rest : Fml
  Rest = fsep token (fsep (Data.own_val (h.at, (h.len, tt)) val) (cell_at full_share region.the_row.mir val rb ro))

  back : (vs : List ℕ) → length vs ≡ length h.words → ent 𝓤 (sep 𝓤 (sem 𝓛 (cells (mem u16) vs b o)) (sem 𝓛 Rest)) (sem 𝓛 ((mem region.the_row).own_at (with_words h vs) rb ro))
  unfolding part_of
  back vs e = qed 𝓛 (‵ (cells (mem u16) vs b o) ∷ ‵ Rest ∷ []) ∵ use1 𝓛 (‵ (words_at vs b o)) (whole_out 𝓛 u16 vs b o) $ move ! (1 ∷ []) $ fsplit3 ! $ move ! (3 ∷ []) $
      -- [the words; the right to free; the fields; the memory]
      feq_i ! ℕ (length vs) h.len (e ∙ long) $ fjoin ! $ use1 𝓛 (‵ (part_at (Array u16 h.len) full_share vs b o)) (Array-whole 𝓛 u16 full_share h.len vs b o) $ fjoin ! $
      flt_i ! (h.len * 2) (2 ^ 63) small $ fjoin ! $ rewrite ! 0 (λ (p : Ptr). ‵ (words_owned h.alloc p h.len vs)) (sym at_b) refl $ move ! (1 ∷ 0 ∷ []) $ fjoin ! $ move ! (1 ∷ 0 ∷ []) $ fjoin ! $
      fpack ! (List Val) (λ us. fsep (cell_at full_share region.the_row.mir us rb ro) (region.the_row.own_val (with_words h vs) us)) val $ done !

pub words_mut_spec : {M : Type 1} → statement M
words_mut_spec 𝓤 𝓛 𝓜 𝓡 wired =
    let 𝓣 = tables 𝓤 𝓛.H 𝓜 𝓡 𝓡.env in let c = f.clauses 𝓛 𝓜.mem 𝓡.returns in let fn = code.function in let Rg = region.the_row in
    let hs : Stays f.ended.signature.params f.ended.kept = (stay_dropped (mut_ref_to (0 ∷ []) tt (plain (λ _. Rg))) no, tt) in
    proved 𝓛 f.ended hs c 𝓜 𝓡 (Goes-spent_ref 𝓛 1 (0 ∷ []) tt (plain (λ _. Rg)), tt) f.Key.name fn (code.unfolded 𝓤 𝓛.H 𝓜 𝓡 wired)
    (λ κs. (mut_vals, tt)) (λ κs. (mut_Tells (named 0) κs.0 Rg, tt)) (λ κs qs bounds a g are.
    let κ : Lft = κs.0 in let q : Share = qs.0 in let r = a.0 in let rb : ℕ = r.ref_ptr.0 in let ro : ℕ = r.ref_ptr.1 in let γ : GName = r.ghost_name in let h = r.now in let n : ℕ = h.len in let ws : List ℕ = h.words in
    let y : (walk_of 𝓛 f.ended hs c).Ghost = ((κs, qs, bounds, a, (vptr rb ro ∷ [], tt)), g) in let Post : Val → SProp 𝓤 = (walk_of 𝓛 f.ended hs c).post y in
    qed 𝓛 (((‵ (flft κ q) ⊛ ‵ ftrue) ⊛ ‵ (owns (types_at f.ended.signature.params κs) a y.0.4)) ∷ raw ((c κs a).requires g) ∷ []) ∵
    split ! $ split ! $ move ! (2 ∷ []) $ fsplit ! $ keep ! (0 ∷ 2 ∷ []) $
    enter ! 𝓣.C 𝓣.Λ fn (vptr rb ro ∷ []) Post $ alloc_all ! (λ l. pass_all ! refl ((tt, tt), tt) $ let Ev = env fn.locals l in
    fsplit3 ! $ drop ! $ opens ! tt Rg rb ro (λ us. move ! (1 ∷ []) $ peeks ! Rg (Is Rg) (shows 𝓛 Rg) h us (λ is.
    let so = told h.at n us is.0 in let fits : n < 2 ^ 64 = so.1 in
    fsplit ! $ move ! (1 ∷ []) $ fsplit ! $ flt_l ! (λ fit. in_a_block ! h.at (λ p. fsep (lies_at (Array u16 n) full_share p ws) (ghosts.dealloc_token h.alloc (words_type n) p)) (fst∗ 𝓤 (never 𝓤) (sem 𝓛 (ghosts.dealloc_token h.alloc (words_type n) null_ptr))) (λ b o e. fsplit ! $
    use1 𝓛 (‵ (fsep (feq ℕ (length ws) n) (words_at ws b o))) (Array-apart 𝓛 u16 full_share tt n ws b o) $ fsplit ! $ feq_l ! (λ long.
    let ev : us ≡ region_val (block_ptr b o) n ∷ [] = so.0 ∙ ap (λ (p : Ptr). region_val p n ∷ []) e in
    -- [the words; the right to free; the fields; the memory; the open borrow, in three entries]
    rewrite ! 2 (λ (vs : List Val). ‵ (Data.own_val (h.at, (n, tt)) vs)) ev refl $ rewrite ! 3 (λ (vs : List Val). ‵ (cell_at full_share Rg.mir vs rb ro)) ev refl $
    first ! $ blocks ! $
    sets ! (of_opd ! (load ! (through ! refl (fld ! refl (stop !))) (look_in ! 3 (sub ! 0 refl (whole !))))) refl (tt, tt) $
    sets ! (of_opd ! (load ! (through ! refl (fld ! refl (stop !))) (look_in ! 3 (sub ! 1 refl (whole !))))) refl (tt, record { fits = fits }) $
    sets_last ! (agg ! (and_then ! (get ! refl) (and_then ! (get ! refl) (no_more !)))) refl (tt, (tt, (record { fits = fits }, tt))) $
    exec ! 𝓣.C 𝓣.Λ Ev (after 1 fn.body) (at_ret Ev Post) $ sets ! (of_opd ! (get ! refl)) refl (tt, (tt, (record { fits = fits }, tt))) $
    let roomy : length ws < 2 ^ 64 = subst (λ (k : ℕ). k < 2 ^ 64) (sym long) fits in let fitting : length ws * 2 < 2 ^ 63 = subst (λ (k : ℕ). k * 2 < 2 ^ 63) (sym long) fit in
    use1 𝓛 (‵ (cells (mem u16) ws b o)) (whole_in 𝓛 u16 ws b o) $ move ! (2 ∷ 3 ∷ []) $ fjoin ! $ move ! (2 ∷ 0 ∷ []) $ fjoin ! $
    -- [the lender's rest; the words; the open borrow]
    move ! (2 ∷ 3 ∷ 4 ∷ 1 ∷ 0 ∷ []) $ group ! 5 $
    let kept = sem 𝓛 (Rest 𝓛 h rb ro b o e long fit) in let gives = back 𝓛 h rb ro b o e long fit in
    use1 𝓛 (later (some (λ (δ : GName). raw (Elements 𝓛 Rg u16 (with_words h) (named 0) κ q rb ro b o γ ws (roomy, fitting) kept gives δ))))
    (lends_Elements 𝓛 Rg u16 (with_words h) (named 0) κ q rb ro b o γ ws (roomy, fitting) kept gives (Rg.coded.code h) (Rg.coded.code h)) $ await ! tt $ pick ! (λ δ.
    returns ! (look_at ! 0 refl) $ free_all ! refl $ keep ! (0 ∷ []) $
    let lent : MutBor (List ℕ) = record { ref_ptr = (b, o); ghost_name = δ; now = ws } in let Lent = λ (k : ℕ). ‵ ((MutSlice (named 0) κ u16).own_val lent (slice_val (b, o) k ∷ [])) in
    use1 𝓛 (Lent (length ws) ⊛ ‵ (flft κ q) ⊛ ‵ (follows Rg (Array u16 0) γ δ (with_words h))) (id⊢ 𝓤 _) $ split3 ! $ rewrite ! 0 Lent long refl $
    move ! (1 ∷ []) $ nothing ! $ move ! (1 ∷ 0 ∷ []) $ join ! $ nothing ! $ nothing ! $ fjoin ! $ use0 𝓛 (raw (fact 𝓤 (ws ≡ ws))) (fact_i 𝓤 (ws ≡ ws) (emp 𝓤) refl) $
    -- [the fact; the parameters; the token; the slice; what the region follows]
    move ! (4 ∷ 0 ∷ []) $ join ! $ keep ! (2 ∷ 1 ∷ 3 ∷ 0 ∷ []) $ by ! (leaves 𝓛 f.ended hs c y (slice_val (b, o) n) lent (tt, tt) (tt, tt))))))))))
