-- There is one text that is asked for, and one answer.
use Rattle.std.proofs.Common.{◌≡◌, ◌∙◌, ℕ, Bool, List, [], Ok, Err, refl, ap, subst}
use Rattle.std.specs.Prelude.{Option, Some, None, Result, IsErr, unwrap_or}
use Rattle.st_host.specs.inside.Telling.{Says}
use Rattle.st_host.proofs.Telling.{OnlyNow, says_none, says_begun}
use Rattle.st_host.specs.declared.host.Host.{Ghosts}
use Rattle.st_model.specs.View.{View}
use Rattle.st_chunk.specs.Asks.{Side, Ask, Object, Display, Classes, Methods, Source, Bytecodes, Senders, Until}
use Rattle.st_chunk.specs.Definitions.{Definition}
use Rattle.st_changes.proofs.Texts.{one_text}
use Rattle.st_browse.specs.inside.Answering.{Answers}
use Rattle.st_browse.specs.Asked.{IsTextFor, reply}
use Rattle.st_browse.specs.inside.MadeTexts.{IsMade, IsKeptOrMade, IsShown}

pub one_reply : (v : View) (ds : List Definition) (ask : Ask) (a b : Option (List ℕ)) → IsTextFor ds ask a → IsTextFor ds ask b → reply v a ask ≡ reply v b ask
unfolding reply
one_reply v ds (Object pointer) a b x y = refl
one_reply v ds Display a b x y = refl
one_reply v ds Classes a b x y = refl
one_reply v ds (Methods side) a b x y = refl
one_reply v ds (Source side selector) a b x y = ap (λ t. reply v t (Source side selector)) (one_text ds side.class side.meta selector a b x y)
one_reply v ds (Bytecodes side selector) a b x y = refl
one_reply v ds (Senders selector) a b x y = refl
one_reply v ds (Until cycles side selector) a b x y = refl

-- a call that failed
pub failed : {D E : Type 0} (host : Ghosts D) (answer : Option (List ℕ)) (old new : D) (result : Result Bool E) → IsErr result → Says host (unwrap_or answer []) old new → Answers host answer old new result
failed host answer old new (Ok b) err says = cc
failed host answer old new (Err e) err says = record { there = tt; all = tt; says = says }

-- nothing was said
pub unsaid : {D E : Type 0} (host : Ghosts D) (answer : Option (List ℕ)) (now : D) (e : E) → OnlyNow host now → Answers {E = E} host answer now now (Err e)
unsaid host answer now e only = failed host answer now now (Err e) refl (says_begun (unwrap_or answer []) (says_none only) refl)

-- what is shown is the text that is kept, or else one that is made
module _ (v : View) (ds : List Definition) (side : Side) (selector : List ℕ) (kept : Option (List ℕ)) where
  shown_as : (one : Option (List ℕ)) → IsTextFor ds (Source side selector) kept → kept ≡ one → (text : Option (List ℕ)) → IsShown v ds side selector text → IsKeptOrMade v side selector one text
  shown_as one is e text s =
      subst (λ (k : Option (List ℕ)). IsKeptOrMade v side selector k text) (one_text ds side.class side.meta selector s.kept kept s.is_kept is ∙ e) s.is_shown

  pub shown_kept : (one : List ℕ) → IsTextFor ds (Source side selector) kept → kept ≡ Some one → (text : Option (List ℕ)) → IsShown v ds side selector text → text ≡ Some one
  shown_kept one is e text s = shown_as (Some one) is e text s

  pub shown_made : IsTextFor ds (Source side selector) kept → kept ≡ None → (text : Option (List ℕ)) → IsShown v ds side selector text → IsMade v side selector text
  shown_made is e text s = shown_as None is e text s
