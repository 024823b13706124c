-- `write_zeros` writes the words one by one, from the first on.
use Rattle.std.proofs.Common.{◌≡◌, ℕ, zero, suc, ◌+◌, ◌-◌, ◌*◌, ◌≤◌, ◌<◌, ◌^◌, List, [], ◌∷◌, ◌++◌, length, replicate, refl, sym, ap, subst, lit<, ltb→lt, nltb→le, arith, w16, w64}
use Rattle.std.proofs.ptr.Rows.{one_more}
use mathlib.Core.WellFounded.InvImage
use lib.WfN.{lt-wf_rel}
use lib.ListN.{length-replicate}
use seplogic.Ra.Ura.{Ura}
use base.Fraction.{full_share}
use base.Logic.{SProp, ent, never, id⊢}
use base.Fml.{ftrue, fat, froom}
use mir.Syntax.{Ty, Body, ty_int, ty_array}
use mir.Val.{Val, vunit, vint, vptr}
use prog.Memory.{Memory}
use prog.Routine.{Routine}
use prog.Wp.{Env, Out, Wp, WpFn, Tables, at_return, after_seq, after_block, after_turn}
use contract.Monad.{Fun, fact}
use contract.Running.{tables, tables_of}
use types.Logic.{Logic, sem}
use types.Kit.{Item, Sq, any_q, runs, ‵, raw, ◌⊛◌, at_ret, ◌$◌, ◌∵◌, !, qed, by, move, drop, join, split, fjoin, use1, use2, rewrite, feq_i, suffices, done}
use types.Run.{stop, lit, bin, unit_lit, of_opd, init, assigns_last, first, blocks, skips, jumps, branches, exec, returns, enter, loops, again, Below}
use types.ByLocal.{alloc_all, pass_all, free_all, look_at, get, through, sets, sets_last, env, holding, forget_but, take_at, give_at}
use denote.Array.{Array}
use denote.ArrayMemory.{Array-whole}
use denote.Builtin.{u16, usize}
use denote.Exit.{yes}
use denote.Memory.{part_at}
use denote.Plain.{uint_in, uint_vals, uint_Tells}
use denote.RattleType.{owns}
use denote.RawPtr.{Ptr, RawPtr, block_ptr, rawptr_vals, rawptr_Tells, in_a_block}
use denote.Signature.{plain, types_at}
use denote.Steps.{nothing, heard}
use denote.Triple.Clauses.{Clauses}
use denote.Triple.Spec.{triple_of}
use denote.Triple.Table.{entered}
use denote.Triple.Walked.{Stays, stay_dropped, walk_of, Goes-dropped, ends_at, walked, walk_Meets}
use sound.WpLaws.{WpFn-mono}
use Rattle.std.proofs.alloc.Shapes.{after, head}
use Rattle.st_cells.specs.inside.Owned.{block_of_words}
use Rattle.st_cells.specs.contracts.region.write_zeros as f
use Rattle.st_cells.proofs.SideBySide.{words_at, one_behind}
use Rattle.st_cells.proofs.region.write_zeros.Statement.{statement}
use Rattle.st_cells.proofs.region.write_zeros.Code as code

abbrev word : Ty
word = ty_int w16

abbrev stayed : Stays f.ended.signature.params f.ended.kept
stayed = (stay_dropped (plain (λ _. RawPtr)) yes, (stay_dropped (plain (λ _. usize)) yes, tt))

abbrev zeros : ℕ → List ℕ
zeros k = replicate k 0

zero_more : (k : ℕ) → zeros k ++ 0 ∷ [] ≡ zeros (suc k)
zero_more zero = refl
zero_more (suc k) = ap (λ (l : List ℕ). 0 ∷ l) (zero_more k)

module _ {M : Type 1} {𝓤 : Ura M} (𝓛 : Logic 𝓤) (at_mem : Memory → SProp 𝓤) (run : Routine → Fun 𝓤) (𝓣 : Tables 𝓤 𝓛.H) (n : ℕ) (fn : n < 2 ^ 64) (small : n < 2 ^ 62) where
  open 𝓛 use {H}

  abbrev c : Clauses 𝓤 f.ended
  c = f.clauses 𝓛 at_mem run

  abbrev bound : Ptr → (walk_of 𝓛 f.ended stayed c).Ghost
  bound p = ((tt, tt, tt, (p, (n, tt)), (rawptr_vals p, (vint w64 n ∷ [], tt))), tt)

  module _ (b o : ℕ) where
    abbrev Post : Val → SProp 𝓤
    Post = (walk_of 𝓛 f.ended stayed c).post (bound (block_ptr b o))

    exits : ent 𝓤 (sem 𝓛 (words_at (zeros n) b o)) (Post vunit)
    exits = qed 𝓛 (‵ (words_at (zeros n) b o) ∷ []) ∵ feq_i ! ℕ (length (zeros n)) n (length-replicate n 0) $ fjoin ! $
        use1 𝓛 (‵ (part_at (Array u16 n) full_share (zeros n) b o)) (Array-whole 𝓛 u16 full_share n (zeros n) b o) $
        suffices ! _ (ends_at 𝓛 f.ended stayed c (bound (block_ptr b o)) vunit tt (tt, (tt, tt)) (tt, (tt, tt))) $
        feq_i ! (List Val) (vunit ∷ []) (vunit ∷ []) refl $ nothing ! $ nothing ! $ fjoin ! $ nothing ! $ fjoin ! $ join ! $ nothing ! $ join ! $ join ! $ done !

    -- how many are written
    abbrev Written : Type 0
    Written = (k : ℕ) × (k ≤ n)

    abbrev Nearer : Written → Written → Type 0
    Nearer t u = n - t.0 < n - u.0

    module _ (l : ℕ → ℕ) where
      abbrev En : Env 𝓤 H
      En = env code.function.locals l

      abbrev Now : Written → List (Item 𝓤)
      Now t = ‵ (words_at (zeros t.0) b o) ∷ ‵ (froom (ty_array word (n - t.0)) b (t.0 * 2 + o)) ∷ holding 𝓛 En ((1, vptr b o) ∷ (2, vint w64 n) ∷ (3, vint w64 t.0) ∷ [])

      abbrev Turned : Written → Out → SProp 𝓤
      Turned t = after_turn 𝓤 H (Below 𝓛 Nearer Now t) (after_block 𝓤 H (after_seq 𝓤 H (Wp 𝓤 H 𝓣.C 𝓣.Λ En (after 2 code.function.body) (at_return 𝓤 H En Post)) (at_return 𝓤 H En Post)))

      abbrev turn : Body
      turn = head (head (head (after 1 code.function.body)))

      turns : (t : Written) → Sq 𝓛 (Now t) (runs 𝓣.C 𝓣.Λ En turn (any_q (Turned t)))
      unfolding after_turn
      turns t =
          let k : ℕ = t.0 in let le = t.1 in
          sets ! (bin ! (get ! refl) (get ! refl) tt) refl (tt, tt) $ first ! $ branches ! (get ! refl)
          (λ less. let h : k < n = ltb→lt k n less in let fk : k + 1 < 2 ^ 64 = omega arith in let far : k * 2 < 2 ^ 64 = omega arith in
          skips ! $ exec ! 𝓣.C 𝓣.Λ En (after 2 turn) (any_q (Turned t)) $ first ! $ blocks ! $
          sets ! (bin ! (get ! refl) (lit ! tt) (record { fits = far })) refl (tt, record { fits = far }) $ sets ! (bin ! (get ! refl) (get ! refl) tt) refl (tt, tt) $
          -- [the words so far; the room for one more; the room behind it; the locals]
          rewrite ! 1 (λ (m : ℕ). ‵ (froom (ty_array word m) b (k * 2 + o))) {x = suc (n - suc k)} {y = n - k} (omega arith) refl $ move ! (1 ∷ []) $
          use1 𝓛 (‵ (froom word b (k * 2 + o)) ⊛ ‵ (froom (ty_array word (n - suc k)) b (k * 2 + o + 2))) (𝓛.laws.room_uncons word (n - suc k) b (k * 2 + o)) $ split ! $
          assigns_last ! (of_opd ! (lit ! tt)) (through ! refl (stop !)) (init ! 0 refl (tt, record { fits = lit< tt })) $
          use1 𝓛 (‵ (part_at u16 full_share 0 b (k * 2 + o))) (uint_in 𝓛 full_share w16 0 b (k * 2 + o)) $ move ! (2 ∷ 0 ∷ []) $
          use2 𝓛 (‵ (words_at (zeros k ++ 0 ∷ []) b o)) (one_behind 𝓛 (zeros k) 0 b o (k * 2 + o) (ap (λ (m : ℕ). m * 2 + o) (sym (length-replicate k 0)))) $
          rewrite ! 0 (λ (ws : List ℕ). ‵ (words_at ws b o)) (zero_more k) refl $
          rewrite ! 1 (λ (m : ℕ). ‵ (froom (ty_array word (n - suc k)) b m)) {x = suc k * 2 + o} {y = k * 2 + o + 2} (omega arith) refl $
          exec ! 𝓣.C 𝓣.Λ En (after 3 turn) (any_q (Turned t)) $ sets_last ! (bin ! (get ! refl) (lit ! tt) (record { fits = fk })) refl (tt, record { fits = fk }) $
          forget_but ! En (1 ∷ 2 ∷ 3 ∷ []) refl $ take_at ! 3 $ rewrite ! 0 (λ (m : ℕ). ‵ (fat full_share (ty_int w64) (l 3) zero (vint w64 m))) (one_more k) refl $ give_at ! 3 $
          again ! Nearer Now t (suc k, omega arith) (omega arith))
          (λ over. let ge = nltb→le k n over in let all : k ≡ n = omega arith in
          jumps ! $ exec ! 𝓣.C 𝓣.Λ En (after 2 code.function.body) (at_ret En Post) $ rewrite ! 0 (λ (m : ℕ). ‵ (words_at (zeros m) b o)) all refl $ move ! (1 ∷ []) $ drop ! $
          sets ! (of_opd ! (unit_lit !)) refl (tt, tt) $ returns ! (look_at ! 0 refl) $ free_all ! refl $ by ! exits)

    from_room : ent 𝓤 (sem 𝓛 (froom (ty_array word n) b o)) (WpFn 𝓤 H 𝓣.C 𝓣.Λ code.function (vptr b o ∷ vint w64 n ∷ []) Post)
    from_room = qed 𝓛 (‵ (froom (ty_array word n) b o) ∷ []) ∵
        rewrite ! 0 (λ (m : ℕ). ‵ (froom (ty_array word m) b o)) {x = n - 0} {y = n} (omega arith) refl $ rewrite ! 0 (λ (m : ℕ). ‵ (froom (ty_array word (n - 0)) b m)) {x = 0 * 2 + o} {y = o} (omega arith) refl $ nothing ! $
        enter ! 𝓣.C 𝓣.Λ code.function (vptr b o ∷ vint w64 n ∷ []) _ $ alloc_all ! (λ l. pass_all ! refl ((tt, tt), ((tt, record { fits = fn }), tt)) $
        sets ! (of_opd ! (lit ! tt)) refl (tt, record { fits = lit< tt }) $
        first ! $ blocks ! $ loops ! 𝓣 Nearer (InvImage.wf (λ (t : Written). n - t.0) lt-wf_rel.wf) (Now l) (turns l) (0, omega arith))

  walk : (p : Ptr) → ent 𝓤 (sem 𝓛 (block_of_words p n)) (WpFn 𝓤 H 𝓣.C 𝓣.Λ code.function (rawptr_vals p ++ (vint w64 n ∷ [])) ((walk_of 𝓛 f.ended stayed c).post (bound p)))
  walk p = qed 𝓛 (‵ (block_of_words p n) ∷ []) ∵ in_a_block ! p (λ r. block_of_words r n) (id⊢ 𝓤 (never 𝓤)) (λ b o e.
      by ! (subst (λ (r : Ptr). ent 𝓤 (sem 𝓛 (froom (ty_array word n) b o)) (WpFn 𝓤 H 𝓣.C 𝓣.Λ code.function (rawptr_vals r ++ (vint w64 n ∷ [])) ((walk_of 𝓛 f.ended stayed c).post (bound r)))) (sym e) (from_room b o)))

pub write_zeros_spec : {M : Type 1} → statement M
unfolding tables_of
write_zeros_spec 𝓤 𝓛 𝓜 𝓡 wired =
    let 𝓣 = tables_of 𝓤 𝓛.H 𝓜 (tables 𝓤 𝓛.H 𝓜 𝓡 𝓡.env) in
    entered 𝓤 𝓛.H (triple_of 𝓛 f.signature (f.spec 𝓛 𝓜.mem 𝓡.returns)) 𝓣.C 𝓣.Λ f.Key.name code.function (code.unfolded 𝓤 𝓛.H 𝓜 𝓡 wired)
    (walk_Meets 𝓛 f.ended stayed (Goes-dropped 𝓛 0 (plain (λ _. RawPtr)) yes (λ κs x w. refl), (Goes-dropped 𝓛 0 (plain (λ _. usize)) yes (λ κs x w. refl), tt))
    (f.clauses 𝓛 𝓜.mem 𝓡.returns) (WpFn 𝓤 𝓛.H 𝓣.C 𝓣.Λ code.function) (WpFn-mono 𝓤 𝓛.H 𝓛.laws 𝓣 code.function)
    (walked 𝓛 f.ended stayed (f.clauses 𝓛 𝓜.mem 𝓡.returns) (WpFn 𝓤 𝓛.H 𝓣.C 𝓣.Λ code.function) (λ κs. (rawptr_vals, (uint_vals w64, tt))) (λ κs. (rawptr_Tells, (uint_Tells w64, tt)))
    (λ κs qs bounds a g are.
    qed 𝓛 ((‵ ftrue ⊛ ‵ (owns (types_at f.ended.signature.params κs) a (rawptr_vals a.0, (vint w64 a.1.0 ∷ [], tt)))) ∷ (raw (fact 𝓤 (a.1.0 < 2 ^ 62)) ⊛ ‵ (block_of_words a.0 a.1.0)) ∷ []) ∵
    drop ! $ split ! $ heard ! (a.1.0 < 2 ^ 62) (λ small. by ! (walk 𝓛 𝓜.mem 𝓡.returns 𝓣 a.1.0 are.1.0.1 small a.0)))))
