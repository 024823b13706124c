-- What the allocator is asked and answers, as steps of a walk.
use Rattle.std.proofs.Common.{◌≡◌, ℕ, List, [], ◌∷◌, ◌++◌, true, false, ap, ◌∙◌}
use Rattle.std.proofs.alloc.Calls.{Answer, answer_val}
use seplogic.Ra.Ura.{Ura}
use base.Logic.{never, fst∗}
use base.Fml.{Fml, fsep, froom}
use mir.Syntax.{Ty}
use mir.Val.{Val, of_list}
use types.Logic.{Logic, sem}
use types.Kit.{Item, Goal, Seq, ‵, ◌$◌, drop, fsplit, fpick, feq_l}
use types.Match.{live}
use denote.RawPtr.{Ptr, block_ptr, null_ptr, ptr_val, room_for, in_a_block}
use denote.Steps.{only}
use Rattle.std.specs.Allocator.{block_if_ok}
use Rattle.std.specs.Prelude.{Ok, Err}

module _ (token : Ty → Ptr → Fml) (τ : Ty) (v : Val) {M : Type 1} {𝓤 : Ura M} {𝓛 : Logic 𝓤} {K : Type 0} {Γ : List (Item 𝓤)} {G : Goal 𝓤 𝓛.H} where
  -- a block and the right to give it back, or nothing
  pub by_answer : K → (r : Answer.Denot)
      → ((b o : ℕ) → v ≡ answer_val true b o → Seq K 𝓛 (‵ (froom τ b o) ∷ ‵ (token τ (block_ptr b o)) ∷ Γ) G) → (v ≡ answer_val false 0 0 → Seq K 𝓛 Γ G)
      → Seq K 𝓛 (‵ (Answer.own_val r (v ∷ [])) ∷ ‵ (block_if_ok token τ r) ∷ Γ) G
  by_answer t (Ok p) ok none =
      fpick t (λ us. fsplit t $ feq_l t (λ e. fpick t (λ vss. fsplit t $ feq_l t (λ e'. fsplit t $ feq_l t (λ e''. drop t $
      in_a_block t p (λ z. fsep (room_for τ z) (token τ z)) (fst∗ 𝓤 (never 𝓤) (sem 𝓛 (token τ null_ptr))) (λ b o at. fsplit t $
      ok b o (ap only e ∙ ap (λ (ws : List Val). live 0 (of_list ws)) (e' ∙ ap (λ (ws : List Val). ws ++ []) (e'' ∙ ap (λ (z : Ptr). ptr_val z ∷ []) at)))))))))
  by_answer t (Err n) ok none =
      fpick t (λ us. fsplit t $ feq_l t (λ e. fpick t (λ vss. fsplit t $ feq_l t (λ e'. fsplit t $ fpick t (λ fs. fsplit t $ feq_l t (λ e''. drop t $ drop t $ drop t $
      none (ap only e ∙ ap (λ (ws : List Val). live 1 (of_list ws)) (e' ∙ ap (λ (ws : List Val). ws ++ []) e''))))))))
