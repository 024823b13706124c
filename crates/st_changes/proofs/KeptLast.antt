-- The last definition of a class, a side and a selector stays the last where those are dropped that a later one supersedes.
use Rattle.std.proofs.Common.{◌≡◌, ℕ, zero, suc, Bool, List, [], ◌∷◌, ◌++◌, drop, get_or, refl, sym, ap, ◌∙◌, subst, arith}
use Rattle.std.specs.Prelude.{All}
use Rattle.st_chunk.specs.Definitions.{Definition}
use Rattle.st_changes.specs.Last.{HasSelector, IsOf, IsNowhere, IsLastText}
use Rattle.st_changes.specs.Condensing.{IsSuperseded, Stays, Condenses}
use Rattle.st_changes.specs.Condensing as stays
use Rattle.st_changes.proofs.Lasts.{one_selector}
use Rattle.st_changes.proofs.Superseding.{member}

pub all_tail : (P : Definition → Type 0) (d : Definition) (ds : List Definition) → All P (d ∷ ds) → All P ds
all_tail P d ds all k x less = all (suc k) x (omega (arith, less))

pub all_cons : (P : Definition → Type 0) (d : Definition) (ds : List Definition) → P d → All P ds → All P (d ∷ ds)
all_cons P d ds p all zero x less = p
all_cons P d ds p all (suc k) x less = all k x (omega (arith, less))

pub all_head : (P : Definition → Type 0) (d : Definition) (ds : List Definition) → All P (d ∷ ds) → P d
all_head P d ds all = all zero d (omega arith)

-- what is last in the first list is last in the second
pub record FindsAlike (xs ys : List Definition) : Type 0 where
  pub nowhere : (c : List ℕ) (m : Bool) (s : List ℕ) → IsNowhere xs c m s → IsNowhere ys c m s
  pub last : (c : List ℕ) (m : Bool) (s t : List ℕ) → IsLastText xs c m s t → IsLastText ys c m s t

module _ (xs ys : List Definition) (d : Definition) (alike : FindsAlike xs ys) where
  -- a definition that another one supersedes isn't the last
  not_last : IsSuperseded d xs → (c : List ℕ) (m : Bool) (s : List ℕ) → IsOf c m s d → IsNowhere xs c m s → ⊥
  not_last sup c m s of none =
      let same : sup.selector ≡ s = one_selector d.text sup.selector s sup.named of.named in
      let later : IsOf c m s sup.later = record {
        class_is = sup.of.class_is ∙ of.class_is;
        side = sup.of.side ∙ of.side;
        named = subst (HasSelector sup.later.text) same sup.of.named;
      } in
      member (λ e. IsOf c m s e → ⊥) sup.between sup.after sup.later (subst (λ x. IsNowhere x c m s) sup.is none) later

  one_less : IsSuperseded d xs → FindsAlike (d ∷ xs) ys
  one_less sup = record {
    nowhere = λ c m s none. alike.nowhere c m s (all_tail (λ e. IsOf c m s e → ⊥) d xs none);
    last = λ c m s t l. by c m s t l.before l.last l.behind l.is l.of l.none l.text_is;
  }
    where
      by : (c : List ℕ) (m : Bool) (s t : List ℕ) (before : List Definition) (e : Definition) (behind : List Definition) → d ∷ xs ≡ before ++ e ∷ behind → IsOf c m s e → IsNowhere behind c m s → t ≡ e.text → IsLastText ys c m s t
      by c m s t [] e behind is of none text =
          let h : d ≡ e = ap (λ zs. get_or zs 0 d) is in
          let r : xs ≡ behind = ap (λ zs. drop 1 zs) is in
          absurd (not_last sup c m s (subst (IsOf c m s) (sym h) of) (subst (λ x. IsNowhere x c m s) (sym r) none))
      by c m s t (y ∷ before) e behind is of none text =
          alike.last c m s t (record { before = before; last = e; behind = behind; is = ap (λ zs. drop 1 zs) is; of = of; none = none; text_is = text })

  one_more : FindsAlike (d ∷ xs) (d ∷ ys)
  one_more = record {
    nowhere = λ c m s none. all_cons (λ e. IsOf c m s e → ⊥) d ys (all_head (λ e. IsOf c m s e → ⊥) d xs none) (alike.nowhere c m s (all_tail (λ e. IsOf c m s e → ⊥) d xs none));
    last = λ c m s t l. by c m s t l.before l.last l.behind l.is l.of l.none l.text_is;
  }
    where
      by : (c : List ℕ) (m : Bool) (s t : List ℕ) (before : List Definition) (e : Definition) (behind : List Definition) → d ∷ xs ≡ before ++ e ∷ behind → IsOf c m s e → IsNowhere behind c m s → t ≡ e.text → IsLastText (d ∷ ys) c m s t
      by c m s t [] e behind is of none text =
          let h : d ≡ e = ap (λ zs. get_or zs 0 d) is in
          let r : xs ≡ behind = ap (λ zs. drop 1 zs) is in
          record {
            before = [];
            last = d;
            behind = ys;
            is = refl;
            of = subst (IsOf c m s) (sym h) of;
            none = alike.nowhere c m s (subst (λ x. IsNowhere x c m s) (sym r) none);
            text_is = text ∙ ap (λ (x : Definition). x.text) (sym h);
          }
      by c m s t (y ∷ before) e behind is of none text =
          let l = alike.last c m s t (record { before = before; last = e; behind = behind; is = ap (λ zs. drop 1 zs) is; of = of; none = none; text_is = text }) in
          record { before = d ∷ l.before; last = l.last; behind = l.behind; is = ap (λ zs. d ∷ zs) l.is; of = l.of; none = l.none; text_is = l.text_is }

stays_alike : (rest front kept : List Definition) → Stays rest front kept → FindsAlike (front ++ rest) (kept ++ rest)
stays_alike rest _ _ stays.none = record { nowhere = λ c m s none. none; last = λ c m s t l. l }
stays_alike rest _ _ (stays.drops d ds ks sup k) = one_less (ds ++ rest) (ks ++ rest) d (stays_alike rest ds ks k) sup
stays_alike rest _ _ (stays.keeps d ds ks new k) = one_more (ds ++ rest) (ks ++ rest) d (stays_alike rest ds ks k)

pub condensed_alike : (ds : List Definition) (base : ℕ) (z : Condenses ds base) → FindsAlike ds (z.kept ++ z.behind)
condensed_alike ds base z = subst (λ x. FindsAlike x (z.kept ++ z.behind)) (sym z.is) (stays_alike z.behind z.front z.kept z.stays)
