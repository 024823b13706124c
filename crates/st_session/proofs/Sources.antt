-- The text that is defined as a method's last one is that of the last definition.
use Rattle.std.proofs.Common.{◌≡◌, ℕ, Bool, true, false, true≢false, List, [], ◌∷◌, ◌++◌, get_or, drop, refl, sym, ap, subst, ◌∙◌}
use Rattle.std.specs.Prelude.{◌&&◌, bytes_eq, Option, Some, None, MatchOption, Result, Ok, Err, if◌then◌else◌}
use Rattle.std.specs.Bool.{beq}
use Rattle.std.specs.Option.{option_or}
use Rattle.std.specs.Cmp.{booleans_Decides}
use Rattle.std.specs.Cmp.Lexicographic.{bytes_decides}
use Rattle.std.proofs.lemmas.Bool.{and_parts, and_from}
use Rattle.st_scan.specs.declared.fault.Fault.{Fault}
use Rattle.st_scan.specs.Views.{MethodView}
use Rattle.st_chunk.specs.Definitions.{Definition}
use Rattle.st_chunk.specs.Asks.{Side, Ask, Object, Display, Classes, Methods, Source, Bytecodes, Senders, Until}
use Rattle.st_changes.specs.Last.{HasSelector, IsOf, IsNowhere, IsLastText}
use Rattle.st_model.specs.View.{View}
use Rattle.st_host.specs.declared.host.Host.{Ghosts}
use Rattle.st_browse.specs.Asked.{IsTextFor, reply}
use Rattle.st_browse.specs.inside.Answering.{Answers}
use Rattle.st_browse.specs.inside.MadeTexts.{IsKeptOrMade, IsShown}
use Rattle.st_session.specs.Decompiled.{made_text}
use Rattle.st_session.proofs.Written.{made_is}
use Rattle.st_grammar.specs.Syntax.{syntax}
use Rattle.st_recover.specs.Commits.{Commit, all_of}
use Rattle.st_recover.specs.Condensed.{IsCondensed}
use Rattle.st_recover.proofs.Condensing.{same_last, same_nowhere}
use Rattle.st_session.specs.Sources.{is_named, is_of, last_text, shown_text, text_for}
use Rattle.st_chunk.proofs.Cases.{by_test}
use Rattle.st_changes.proofs.KeptLast.{all_head, all_tail, all_cons}
use Rattle.st_changes.proofs.Lasts.{none_of}

-- THE SELECTOR

by_tree : (selector text : List ℕ) (r : Result MethodView Fault) → syntax text ≡ r → is_named selector r ≡ true → HasSelector text selector
by_tree selector text (Ok tree) means e = record { tree = tree; means = means; is = (bytes_decides tree.selector selector).0 e }
by_tree selector text (Err f) first e = cc

named : (selector text : List ℕ) → HasSelector text selector → is_named selector (syntax text) ≡ true
named selector text h =
    ap (λ (r : Result MethodView Fault). is_named selector r) h.means ∙ (bytes_decides h.tree.selector selector).1 h.is

-- ONE DEFINITION

module _ (side : Side) (selector : List ℕ) (d : Definition) where
  test : Bool
  test = is_named selector (syntax d.text)

  meets : is_of side selector d ≡ true → IsOf side.class side.meta selector d
  unfolding test
  meets e =
      let parts = and_parts (bytes_eq d.class side.class) (beq d.meta side.meta && test) e in
      let rest = and_parts (beq d.meta side.meta) test parts.1 in
      record {
        class_is = (bytes_decides d.class side.class).0 parts.0;
        side = (booleans_Decides d.meta side.meta).0 rest.0;
        named = by_tree selector d.text (syntax d.text) refl rest.1;
      }

  fails : is_of side selector d ≡ false → IsOf side.class side.meta selector d → ⊥
  unfolding test
  fails e h =
      let rest = and_from (beq d.meta side.meta) test ((booleans_Decides d.meta side.meta).1 h.side) (named selector d.text h.named) in
      let all = and_from (bytes_eq d.class side.class) (beq d.meta side.meta && test) ((bytes_decides d.class side.class).1 h.class_is) rest in
      true≢false (sym all ∙ e)

-- THE LAST ONE

module _ (side : Side) (selector : List ℕ) where
  abbrev IsText : List Definition → Option (List ℕ) → Type 0
  IsText ds o = MatchOption o (IsNowhere ds side.class side.meta selector) (IsLastText ds side.class side.meta selector)

  with_one : (d : Definition) (ds : List Definition) (o : Option (List ℕ)) (t : Bool) → is_of side selector d ≡ t → IsText ds o → IsText (d ∷ ds) (option_or o (if t then Some d.text else None))
  with_one d ds None true e h = record { before = []; last = d; behind = ds; is = refl; of = meets side selector d e; none = h; text_is = refl }
  with_one d ds None false e h = all_cons (λ x. IsOf side.class side.meta selector x → ⊥) d ds (fails side selector d e) h
  with_one d ds (Some text) t e h = record { before = d ∷ h.before; last = h.last; behind = h.behind; is = ap (λ (x : List Definition). d ∷ x) h.is; of = h.of; none = h.none; text_is = h.text_is }

  last_is : (ds : List Definition) → IsText ds (last_text ds side selector)
  last_is [] = none_of (λ x. IsOf side.class side.meta selector x → ⊥)
  last_is (d ∷ ds) = with_one d ds (last_text ds side selector) (is_of side selector d) refl (last_is ds)

  nothing_there : (before behind : List Definition) (d : Definition) → [] ≡ before ++ d ∷ behind → ⊥
  nothing_there [] behind d is = cc
  nothing_there (x ∷ before) behind d is = cc

  -- there is one such text, or none
  last_only : (ds : List Definition) (o : Option (List ℕ)) → IsText ds o → last_text ds side selector ≡ o
  last_only [] None h = refl
  last_only [] (Some text) h = absurd (nothing_there h.before h.behind h.last h.is)
  last_only (d ∷ ds) None h =
      let other = all_head (λ x. IsOf side.class side.meta selector x → ⊥) d ds h in
      let is : is_of side selector d ≡ false = by_test (is_of side selector d) (λ e. absurd (other (meets side selector d e))) (λ e. e) in
      ap (λ (o : Option (List ℕ)). option_or o (if is_of side selector d then Some d.text else None)) (last_only ds None (all_tail (λ x. IsOf side.class side.meta selector x → ⊥) d ds h))
      ∙ ap (λ (t : Bool). if t then Some d.text else None) is
  last_only (d ∷ ds) (Some text) h = by (λ o rest. last_only ds o rest) h.before h.last h.behind h.is h.of h.none h.text_is
    where
      by : ((o : Option (List ℕ)) → IsText ds o → last_text ds side selector ≡ o) → (before : List Definition) (e : Definition) (behind : List Definition) → d ∷ ds ≡ before ++ e ∷ behind
          → IsOf side.class side.meta selector e → IsNowhere behind side.class side.meta selector → text ≡ e.text → last_text (d ∷ ds) side selector ≡ Some text
      by only [] e behind is of none same =
          let its : d ≡ e = ap (λ (xs : List Definition). get_or xs 0 d) is in
          let others : ds ≡ behind = ap (λ (xs : List Definition). drop 1 xs) is in
          let here : is_of side selector d ≡ true =
          by_test (is_of side selector d) (λ t. t) (λ f. absurd (fails side selector d f (subst (IsOf side.class side.meta selector) (sym its) of))) in
          ap (λ (o : Option (List ℕ)). option_or o (if is_of side selector d then Some d.text else None)) (only None (subst (λ (xs : List Definition). IsNowhere xs side.class side.meta selector) (sym others) none))
          ∙ ap (λ (t : Bool). if t then Some d.text else None) here
          ∙ ap Some (ap (λ (x : Definition). x.text) its ∙ sym same)
      by only (y ∷ before) e behind is of none same =
          ap (λ (o : Option (List ℕ)). option_or o (if is_of side selector d then Some d.text else None))
          (only (Some text) (record { before = before; last = e; behind = behind; is = ap (λ (xs : List Definition). drop 1 xs) is; of = of; none = none; text_is = same }))

pub text_is : (ds : List Definition) (ask : Ask) → IsTextFor ds ask (text_for (last_text ds) ask)
text_is ds (Object pointer) = tt
text_is ds Display = tt
text_is ds Classes = tt
text_is ds (Methods side) = tt
text_is ds (Source side selector) = last_is side selector ds
text_is ds (Bytecodes side selector) = tt
text_is ds (Senders selector) = tt
text_is ds (Until cycles side selector) = tt

-- the text that is kept, or else one that is made of the code
pub shown_is : (v : View) (ds : List Definition) (side : Side) (selector : List ℕ) → IsShown v ds side selector (shown_text v ds side selector)
shown_is v ds side selector = record { kept = last_text ds side selector; is_kept = last_is side selector ds; is_shown = by (last_text ds side selector) }
  where
    by : (kept : Option (List ℕ)) → IsKeptOrMade v side selector kept (option_or kept (made_text v side selector))
    by (Some text) = refl
    by None = made_is v side selector

-- what is answered of that text, by a side of its own memory
pub shown_of : {D E : Type 0} (host : Ghosts D) (v : View) (ds : List Definition) (own side : Side) (selector : List ℕ) (old new : D) (result : Result Bool E) → own ≡ side
    → ((text : Option (List ℕ)) → IsShown v ds own selector text → Answers {E = E} host (reply v text (Source own selector)) old new result)
    → Answers {E = E} host (reply v (shown_text v ds side selector) (Source side selector)) old new result
shown_of {E = E} host v ds own side selector old new result e answers =
    subst (λ (s : Side). Answers {E = E} host (reply v (shown_text v ds s selector) (Source s selector)) old new result) e
    (answers (shown_text v ds own selector) (shown_is v ds own selector))

-- a condensed store shows the same
pub condensed_shows : (v : View) (c d : Commit) (side : Side) (selector : List ℕ) → IsCondensed c d → shown_text v (all_of d) side selector ≡ shown_text v (all_of c) side selector
condensed_shows v c d side selector is =
    ap (λ (o : Option (List ℕ)). option_or o (made_text v side selector))
    (last_only side selector (all_of d) (last_text (all_of c) side selector) (still (last_text (all_of c) side selector) (last_is side selector (all_of c))))
  where
    still : (o : Option (List ℕ)) → IsText side selector (all_of c) o → IsText side selector (all_of d) o
    still None none = same_nowhere c d is side.class side.meta selector none
    still (Some text) last = same_last c d is side.class side.meta selector text last
