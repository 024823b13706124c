-- Texts that are kept in a set, one after the other.
use Rattle.std.proofs.Common.{◌≡◌, ℕ, zero, suc, ◌+◌, ◌<◌, ◌≤◌, Bool, true, false, ◌||◌, List, [], ◌∷◌, ◌++◌, length, drop, refl, sym, ap, ◌∙◌, arith}
use Rattle.std.specs.Prelude.{bytes_eq, slice_index_or}
use Rattle.std.specs.Global.{Vec}
use Rattle.std.specs.List.{list_any}
use Rattle.std.specs.declared.cmp.Ordering.{Ordering}
use Rattle.std.specs.declared.cmp.Ordering.TheVariants.{Less, Equal, Greater}
use Rattle.std.specs.Ordering.{is_eq, nat_cmp, match_ordering}
use Rattle.std.specs.BTreeSet.{insert_key}
use Rattle.std.specs.Cmp.Lexicographic.{slice_cmp, bytes_decides, nat_list_eq_equiv}
use Rattle.std.proofs.lemmas.List.{at_drop_more, drop_all}
use Rattle.std.proofs.lemmas.Map.Text.{is_eq-slice_cmp}
use Rattle.std.proofs.lemmas.List.{length-append}
use Rattle.st_emit.specs.inside.NameViews.{texts_view}
use Rattle.st_expression_stack.specs.declared.own.Taken.{Taken}
use Rattle.st_expression_stack.specs.inside.Called.{is_kept, Keeps, IsTaken, AreFirst, listed_or, own_by}
use Rattle.st_expression_stack.specs.Names.{is_among, own_name}

or_assoc : (a b c : Bool) → ((a || b) || c) ≡ (a || (b || c))
or_assoc true b c = refl
or_assoc false b c = refl

or_swap : (a b c : Bool) → (a || (b || c)) ≡ (b || (a || c))
or_swap true true c = refl
or_swap true false c = refl
or_swap false true c = refl
or_swap false false c = refl

or_again : (a b : Bool) → (a || b) ≡ (a || (a || b))
or_again true b = refl
or_again false b = refl

or_false : (a : Bool) → (a || false) ≡ a
or_false true = refl
or_false false = refl

-- ONE MORE

abbrev by_items : Vec ℕ → Vec ℕ → Ordering
by_items x y = slice_cmp nat_cmp x.items y.items

same_key : (k x : Vec ℕ) → is_eq (by_items k x) ≡ true → k.items ≡ x.items
same_key k x e = (bytes_decides k.items x.items).0 (sym (is_eq-slice_cmp k.items x.items) ∙ e)

key_kept : (keys : List (Vec ℕ)) (k : Vec ℕ) (t : List ℕ) → is_kept (insert_key by_items keys k) t ≡ (bytes_eq t k.items || is_kept keys t)
key_kept [] k t = refl
key_kept (x ∷ xs) k t = by (by_items k x) refl (key_kept xs k t)
  where
    by : (o : Ordering) → by_items k x ≡ o → is_kept (insert_key by_items xs k) t ≡ (bytes_eq t k.items || is_kept xs t)
        → is_kept (match_ordering o (k ∷ x ∷ xs) (x ∷ xs) (x ∷ insert_key by_items xs k)) t ≡ (bytes_eq t k.items || is_kept (x ∷ xs) t)
    by Less e h = refl
    by Equal e h = or_again (bytes_eq t x.items) (is_kept xs t) ∙ ap (λ (s : List ℕ). bytes_eq t s || is_kept (x ∷ xs) t) (sym (same_key k x (ap is_eq e)))
    by Greater e h = ap (λ (b : Bool). bytes_eq t x.items || b) h ∙ or_swap (bytes_eq t x.items) (bytes_eq t k.items) (is_kept xs t)

pub keeps_one : (old new : List (Vec ℕ)) (k : Vec ℕ) (text : List ℕ) → k.items ≡ text → new ≡ insert_key by_items old k → Keeps (text ∷ []) old new
keeps_one old new k text e f t =
    ap (λ (ks : List (Vec ℕ)). is_kept ks t) f ∙ key_kept old k t
    ∙ ap (λ (b : Bool). b || is_kept old t) (ap (bytes_eq t) e ∙ nat_list_eq_equiv.symm t text ∙ sym (or_false (bytes_eq text t)))

pub found_kept : (keys : List (Vec ℕ)) (text : List ℕ) → list_any (λ q. is_eq (slice_cmp nat_cmp text q.items)) keys ≡ is_kept keys text
found_kept keys text = λ t. list_any (λ q. is_eq-slice_cmp text q.items t) keys

-- ALL OF THEM

-- those from a place on make up what all keep
abbrev pub LeftKept : List (Vec ℕ) → List (Vec ℕ) → ℕ → List (Vec ℕ) → Type 0
LeftKept texts old i keys = (t : List ℕ) → (is_among (texts_view (drop i texts)) t || is_kept keys t) ≡ (is_among (texts_view texts) t || is_kept old t)

pub kept_turn : (texts old : List (Vec ℕ)) (i : ℕ) (d : Vec ℕ) → i < length texts → (keys new : List (Vec ℕ)) → LeftKept texts old i keys → Keeps ((slice_index_or texts i d).items ∷ []) keys new → LeftKept texts old (i + 1) new
kept_turn texts old i d l keys new h k t =
    let rest : Bool = is_among (texts_view (drop (i + 1) texts)) t in
    let this : Bool = bytes_eq (slice_index_or texts i d).items t in
    ap (λ (b : Bool). rest || b) (k t ∙ ap (λ (b : Bool). b || is_kept keys t) (or_false this))
    ∙ or_swap rest this (is_kept keys t)
    ∙ sym (or_assoc this rest (is_kept keys t))
    ∙ sym (at_drop_more (λ xs. is_among (texts_view xs) t || is_kept keys t) texts i d l)
    ∙ h t

pub kept_end : (texts old : List (Vec ℕ)) (i : ℕ) (keys : List (Vec ℕ)) → length texts ≤ i → LeftKept texts old i keys → Keeps (texts_view texts) old keys
kept_end texts old i keys l h t = sym (ap (λ xs. is_among (texts_view xs) t || is_kept keys t) (drop_all i texts l)) ∙ h t

-- of two lists, one after the other
pub append_among : (xs ys : List (List ℕ)) (t : List ℕ) → is_among (xs ++ ys) t ≡ (is_among xs t || is_among ys t)
append_among [] ys t = refl
append_among (x ∷ xs) ys t = ap (λ (b : Bool). bytes_eq x t || b) (append_among xs ys t) ∙ sym (or_assoc (bytes_eq x t) (is_among xs t) (is_among ys t))

or_turn : (a b : Bool) → (b || (a || false)) ≡ (a || b)
or_turn true true = refl
or_turn true false = refl
or_turn false true = refl
or_turn false false = refl

pub kept_both : (xs ys : List (List ℕ)) (none one two : List (Vec ℕ)) → none ≡ [] → Keeps xs none one → Keeps ys one two → (t : List ℕ) → is_kept two t ≡ is_among (xs ++ ys) t
kept_both xs ys none one two e f g t =
    g t ∙ ap (λ (b : Bool). is_among ys t || b) (f t ∙ ap (λ (ks : List (Vec ℕ)). is_among xs t || is_kept ks t) e)
    ∙ or_turn (is_among xs t) (is_among ys t) ∙ sym (append_among xs ys t)

-- WHAT IS CALLED BY THEM

pub texts_length : (ts : List (Vec ℕ)) → length (texts_view ts) ≡ length ts
texts_length [] = refl
texts_length (t ∷ ts) = ap suc (texts_length ts)

pub own_called : (texts : List (List ℕ)) (t : Taken) (own : List (Vec ℕ)) → IsTaken texts t → AreFirst t own
    → (λ (k : ℕ). listed_or (texts_view own) k (own_by t k)) ≡ own_name (is_among texts) (length texts)
own_called texts t own is first =
    let one : (λ (k : ℕ). listed_or (texts_view own) k (own_by t k)) ≡ own_by t = λ i k. first k i in
    let two : own_by t ≡ own_name (is_among texts) (length texts) = λ i. own_name (λ s. is.names s i) (is.count i) in
    one ∙ two

-- what is listed of them
pub first_none : (t : Taken) (texts : List (Vec ℕ)) → texts ≡ [] → AreFirst t texts
first_none t texts e k = ap (λ (ts : List (Vec ℕ)). listed_or (texts_view ts) k (own_by t k)) e

pub one_longer : (texts : List (Vec ℕ)) (x : Vec ℕ) (n : ℕ) → length texts ≡ n → length (texts ++ x ∷ []) ≡ n + 1
one_longer texts x n e = let l = length-append texts (x ∷ []) in omega (arith, l, e)

listed_more : (texts : List (Vec ℕ)) (x : Vec ℕ) (f : ℕ → List ℕ) → ((k : ℕ) → listed_or (texts_view texts) k (f k) ≡ f k) → x.items ≡ f (length texts)
    → (k : ℕ) → listed_or (texts_view (texts ++ x ∷ [])) k (f k) ≡ f k
listed_more [] x f h e zero = e
listed_more [] x f h e (suc k) = refl
listed_more (t ∷ ts) x f h e zero = h zero
listed_more (t ∷ ts) x f h e (suc k) = listed_more ts x (λ j. f (suc j)) (λ j. h (suc j)) e k

pub first_more : (t : Taken) (texts : List (Vec ℕ)) (x : Vec ℕ) (n : ℕ) → length texts ≡ n → AreFirst t texts → x.items ≡ own_by t n → AreFirst t (texts ++ x ∷ [])
first_more t texts x n l h e = listed_more texts x (own_by t) h (e ∙ ap (own_by t) (sym l))
