-- Words side by side in memory: one more at their end, and the room that they leave.
use Rattle.std.proofs.Common.{◌≡◌, ℕ, ◌+◌, ◌*◌, List, [], ◌∷◌, ◌++◌, length, arith, refl, w16}
use seplogic.Ra.Ura.{Ura}
use base.Fraction.{full_share}
use base.Logic.{ent, sep}
use base.Fml.{Fml, ftrue, froom}
use mir.Syntax.{Ty, ty_int, ty_array}
use mir.Val.{vint}
use types.Logic.{Logic, sem}
use types.Kit.{‵, raw, ◌$◌, ◌∵◌, !, qed, by, move, drop, use1, use2, rewrite, fsplit, fjoin, done}
use denote.Builtin.{u16}
use denote.Index.{row}
use denote.Memory.{part_at}
use denote.Plain.{uint_out}
use denote.Steps.{nothing}

abbrev word : Ty
word = ty_int w16

-- the words from o on in the block b
abbrev pub words_at : List ℕ → ℕ → ℕ → Fml
words_at ws b o = row u16 full_share ws b o

module _ {M : Type 1} {𝓤 : Ura M} (𝓛 : Logic 𝓤) where
  open 𝓛 use {H}

  pub one_behind : (ws : List ℕ) (w b o at : ℕ) → at ≡ length ws * 2 + o
      → ent 𝓤 (sep 𝓤 (sem 𝓛 (words_at ws b o)) (sem 𝓛 (part_at u16 full_share w b at))) (sem 𝓛 (words_at (ws ++ w ∷ []) b o))
  one_behind [] w b o at e = qed 𝓛 (‵ ftrue ∷ ‵ (part_at u16 full_share w b at) ∷ []) ∵ drop ! $
      rewrite ! 0 (λ (k : ℕ). ‵ (part_at u16 full_share w b k)) {x = o} (omega (arith, e)) refl $ nothing ! $ move ! (1 ∷ 0 ∷ []) $ fjoin ! $ done !
  one_behind (v ∷ ws) w b o at e = qed 𝓛 (‵ (words_at (v ∷ ws) b o) ∷ ‵ (part_at u16 full_share w b at) ∷ []) ∵ fsplit ! $ move ! (1 ∷ 2 ∷ []) $
      use2 𝓛 (‵ (words_at (ws ++ w ∷ []) b (o + 2))) (one_behind ws w b (o + 2) at (omega (arith, e))) $ move ! (1 ∷ 0 ∷ []) $ fjoin ! $ done !

  pub room_of_words : (ws : List ℕ) (b o : ℕ) → ent 𝓤 (sem 𝓛 (words_at ws b o)) (H.room (ty_array word (length ws)) b o)
  room_of_words [] b o = 𝓛.laws.room_nil word b o
  room_of_words (w ∷ ws) b o = qed 𝓛 (‵ (words_at (w ∷ ws) b o) ∷ []) ∵ fsplit ! $
      use1 𝓛 (raw (H.at full_share word b o (vint w16 w))) (uint_out 𝓛 full_share w16 w b o) $
      use1 𝓛 (‵ (froom word b o)) (𝓛.laws.at_room word b o (vint w16 w)) $ move ! (1 ∷ []) $
      use1 𝓛 (‵ (froom (ty_array word (length ws)) b (o + 2))) (room_of_words ws b (o + 2)) $ move ! (1 ∷ 0 ∷ []) $
      by ! (𝓛.laws.room_cons word (length ws) b o)
