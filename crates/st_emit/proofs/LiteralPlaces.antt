-- An index of literals, to which one more is put.
use Rattle.std.proofs.Common.{◌≡◌, ℕ, ◌≤◌, Bool, true, false, not, List, [], ◌∷◌, ◌++◌, length, Option, Some, None, is_some, refl, sym, ap, ◌∙◌, cond, subst, true≢false, arith}
use Rattle.std.specs.Prelude.{nat_lt, Result, Ok, Err, OnOk, OnErr}
use Rattle.std.specs.BTreeMap.{BTreeMap, UpdatesBy}
use Rattle.std.specs.Ordering.{is_eq}
use Rattle.std.specs.Map.{lookup}
use Rattle.std.proofs.lemmas.List.{length-map}
use Rattle.std.proofs.lemmas.List.Sums.{prefix_len-le-length}
use Rattle.std.proofs.lemmas.Bool.Decides.{nat_tests}
use Rattle.st_emit.specs.contracts.literal_table.KeyOrd.TheImpl.{cmp-value}
use Rattle.st_emit.specs.declared.literal.Literal.{Literal}
use Rattle.st_emit.specs.declared.literal_table.Key.{Key}
use Rattle.st_emit.specs.Literals.{LiteralView, number, character, bytes, symbol, array, named, owner, shares, place_of, with_literal}
use Rattle.st_emit.specs.Names.{or_else}
use Rattle.st_emit.specs.inside.Views.{literal_view, literals_view}
use Rattle.st_emit.specs.inside.LiteralPlaces.{key_view, shared, IsKeyOf, noted, literal_place, IsLiteralIndex, IsNoted}
use Rattle.st_emit.proofs.Keys.{shares_same, same_cmp}
use Rattle.st_emit.proofs.Noting.{same_back, at_key, at_put}
use Rattle.st_emit.proofs.Places.{no_place, place_more}

pub noted_key : (entries : List (Key × ℕ)) (k : Key) → lookup (λ q. is_eq (cmp-value.it k q)) entries ≡ noted entries (key_view k)
noted_key entries k = at_key key_view shares shares_same cmp-value.it same_cmp entries k

pub noted_put : (m n : BTreeMap Key ℕ) (k : Key) (w : Option ℕ) → UpdatesBy cmp-value.it (cmp-value.it k) m n w → (l : LiteralView) → noted n.entries l ≡ cond (shares (key_view k) l) w (noted m.entries l)
noted_put m n k w updates l = at_put key_view shares shares_same cmp-value.it same_cmp m n k w updates l

shares_back : (l m : LiteralView) → shares l m ≡ true → shares m l ≡ true
shares_back l m h = same_back key_view shares shares_same cmp-value.it same_cmp l m h

-- KEYS

-- the literal of a key
key_is : (v u : LiteralView) → Some u ≡ shared v → u ≡ v
key_is (number n) u e = cc
key_is (character b) u e = cc
key_is (symbol t) u e = cc
key_is (named p) u e = cc
key_is (bytes t) u e = absurd (true≢false (ap is_some e))
key_is (array ms) u e = absurd (true≢false (ap is_some e))
key_is owner u e = absurd (true≢false (ap is_some e))

-- nothing shares a place with a literal that has no key
keyless : (l v : LiteralView) → shared v ≡ None → shares l v ≡ false
keyless (number m) (number n) h = absurd (true≢false (ap is_some h))
keyless l (number n) h = absurd (true≢false (ap is_some h))
keyless l (character b) h = absurd (true≢false (ap is_some h))
keyless l (symbol t) h = absurd (true≢false (ap is_some h))
keyless l (named p) h = absurd (true≢false (ap is_some h))
keyless l v h = refl

pub no_literal_place : (ls : List LiteralView) (v : LiteralView) → shared v ≡ None → None ≡ literal_place ls v
no_literal_place ls v none = no_place (shares v) (λ m. by m (shares v m) refl) ls
  where
    by : (m : LiteralView) (b : Bool) → shares v m ≡ b → shares v m ≡ false
    by m true e = absurd (true≢false (sym (shares_back v m e) ∙ keyless m v none))
    by m false e = e

-- ONE MORE

pub views_more : (ls : List Literal) (l : Literal) → literals_view (ls ++ l ∷ []) ≡ literals_view ls ++ literal_view l ∷ []
views_more [] l = refl
views_more (x ∷ xs) l = ap (λ r. literal_view x ∷ r) (views_more xs l)

module _ (ls : List LiteralView) (v : LiteralView) (l : LiteralView) where
  -- a place that stays, since there was one or nothing shares it
  stays : (shares l v ≡ true → is_some (literal_place ls l) ≡ true) → literal_place ls l ≡ literal_place (ls ++ v ∷ []) l
  stays h = by (shares l v) (literal_place ls l) h ∙ sym (place_more (shares l) v ls)
    where
      by : (b : Bool) (a : Option ℕ) → (b ≡ true → is_some a ≡ true) → a ≡ or_else a (cond b (Some (length ls)) None)
      by true (Some i) f = refl
      by true None f = absurd (true≢false (sym (f refl)))
      by false (Some i) f = refl
      by false None f = refl

  -- the place of one that is new
  comes : shares l v ≡ true → literal_place ls l ≡ None → Some (length ls) ≡ literal_place (ls ++ v ∷ []) l
  comes h e = by (shares l v) (literal_place ls l) h e ∙ sym (place_more (shares l) v ls)
    where
      by : (b : Bool) (a : Option ℕ) → b ≡ true → a ≡ None → Some (length ls) ≡ or_else a (cond b (Some (length ls)) None)
      by true None f g = refl
      by true (Some i) f g = absurd (true≢false (ap is_some g))
      by false a f g = absurd (true≢false (sym f))

index_put : (ls : List LiteralView) (old new : List (Key × ℕ)) (k : Key) → IsLiteralIndex ls old → noted old (key_view k) ≡ None → IsNoted k (length ls) old new → IsLiteralIndex (ls ++ key_view k ∷ []) new
index_put ls old new k before absent put l = by (shares (key_view k) l) refl
  where
    by : (b : Bool) → shares (key_view k) l ≡ b → noted new l ≡ literal_place (ls ++ key_view k ∷ []) l
    by true h =
        put l ∙ ap (λ b. cond b (Some (length ls)) (noted old l)) h
        ∙ comes ls (key_view k) l (shares_back (key_view k) l h) (sym (before l) ∙ ap (noted old) (sym (shares_same (key_view k) l h)) ∙ absent)
    by false h =
        put l ∙ ap (λ b. cond b (Some (length ls)) (noted old l)) h ∙ before l
        ∙ stays ls (key_view k) l (λ e. absurd (true≢false (sym (shares_back l (key_view k) e) ∙ h)))

-- a new literal was put behind the others and noted, or nothing was done
pub put_either : {E : Type 0} (r : Result (Unit {0}) E) (ls now : List Literal) (old new : List (Key × ℕ)) (k : Key) (l : Literal) → IsLiteralIndex (literals_view ls) old → IsKeyOf (literal_view l) (Some k) → noted old (key_view k) ≡ None
    → OnOk r (now ≡ ls ++ l ∷ []) → OnOk r (IsNoted k (length ls) old new) → OnErr r (now ≡ ls) → OnErr r (new ≡ old) → IsLiteralIndex (literals_view now) new
put_either (Ok x) ls now old new k l before is absent literals places same same_places =
    let whole : literals_view ls ++ key_view k ∷ [] ≡ literals_view now = ap (λ v. literals_view ls ++ v ∷ []) (key_is (literal_view l) (key_view k) is) ∙ sym (views_more ls l) ∙ ap literals_view (sym literals) in
    subst (λ vs. IsLiteralIndex vs new) whole (index_put (literals_view ls) old new k before absent (subst (λ (n : ℕ). IsNoted k n old new) (sym (length-map ls literal_view)) places))
put_either (Err x) ls now old new k l before is absent literals places same same_places =
    subst (λ es. IsLiteralIndex (literals_view now) es) (sym same_places) (subst (λ xs. IsLiteralIndex (literals_view xs) old) (sym same) before)

put_plain : (ls now : List Literal) (entries : List (Key × ℕ)) (l : Literal) → now ≡ ls ++ l ∷ [] → IsLiteralIndex (literals_view ls ++ literal_view l ∷ []) entries → IsLiteralIndex (literals_view now) entries
put_plain ls now entries l e after = subst (λ vs. IsLiteralIndex vs entries) (sym (views_more ls l) ∙ ap literals_view (sym e)) after

-- a literal was put behind others of which one shares its place
pub put_again : (ls now : List Literal) (entries : List (Key × ℕ)) (k : Key) (l : Literal) → IsLiteralIndex (literals_view ls) entries → IsKeyOf (literal_view l) (Some k) → is_some (noted entries (key_view k)) ≡ true
    → now ≡ ls ++ l ∷ [] → IsLiteralIndex (literals_view now) entries
put_again ls now entries k l before is there e =
    let v = literal_view l in
    let one = ap (λ u. is_some (noted entries u)) (sym (key_is v (key_view k) is)) ∙ there in
    put_plain ls now entries l e (λ u. before u ∙ stays (literals_view ls) v u (λ h. ap is_some (sym (before u) ∙ ap (noted entries) (shares_same u v h)) ∙ one))

-- a literal that shares its place with none was put behind the others
pub put_keyless : (ls now : List Literal) (entries : List (Key × ℕ)) (l : Literal) → IsLiteralIndex (literals_view ls) entries → IsKeyOf (literal_view l) None → now ≡ ls ++ l ∷ [] → IsLiteralIndex (literals_view now) entries
put_keyless ls now entries l before is e =
    let v = literal_view l in
    put_plain ls now entries l e (λ u. before u ∙ stays (literals_view ls) v u (λ h. absurd (true≢false (sym h ∙ keyless u v (sym is)))))

-- a literal that has no place comes behind the others
pub new_place : (ls : List LiteralView) (l : LiteralView) → literal_place ls l ≡ None → (length ls ≡ place_of l ls) × (ls ++ l ∷ [] ≡ with_literal l ls)
new_place ls l none = by (nat_lt (place_of l ls) (length ls)) refl none
  where
    by : (b : Bool) → nat_lt (place_of l ls) (length ls) ≡ b → cond b (Some (place_of l ls)) None ≡ None → (length ls ≡ place_of l ls) × (ls ++ l ∷ [] ≡ cond b ls (ls ++ l ∷ []))
    by true e h = absurd (true≢false (ap is_some h))
    by false e h = let le : place_of l ls ≤ length ls = prefix_len-le-length (λ x. not (shares l x)) ls in (grind (arith, nat_tests), refl)
