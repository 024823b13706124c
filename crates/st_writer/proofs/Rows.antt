-- A written image has none of the faults that concern the file, its objects and its roots, and it gives the view that it
-- was written from.
use Rattle.std.proofs.Common.{◌≡◌, ℕ, zero, suc, ◌+◌, ◌-◌, ◌*◌, ◌/◌, ◌%◌, ◌<◌, ◌≤◌, ◌⊎◌, inl, inr, Bool, true, false, cond, not, ◌&&◌, ◌||◌, ◌==◌, nat_lt, List, [], ◌∷◌, ◌++◌, append_assoc, length, map, get_or, refl, sym, ap, ◌∙◌, arith}
use Rattle.std.specs.Prelude.{Option, Some, None, is_some, Contains, nat_le}
use Rattle.std.proofs.lemmas.Bool.{cases_lt, cases_Bool, cases_eq, eq-eqb, ne_eqb, eqb-true, both_ways, and_parts, and_left, and_right, and_from, or_from, or_cases, le-ltb, ltb-true, leb-true}
use Rattle.std.proofs.lemmas.List.Elements.{All-contains, All-append, All-map, All-cons, All-nil}
use Rattle.std.specs.List.{All}
use Rattle.st_model.specs.Limits.{most_words}
use Rattle.st_model.proofs.Made.{made_from}
use Rattle.st_model.proofs.WholeLemmas.{live_used}
use Rattle.st_model.specs.declared.kind.Kind.{Kind}
use Rattle.st_model.specs.declared.kind.Kind.TheVariants as kind
use Rattle.st_model.specs.declared.head.ImageHead.{ImageHead}
use Rattle.st_model.specs.declared.fault.ImageFault.{ImageFault}
use Rattle.st_model.specs.declared.fault.ImageFault.TheVariants as fault
use Rattle.st_model.specs.Values.{Value, Small, Ref, value_of, is_small, IsLive, AllLive}
use Rattle.st_model.specs.declared.page.PageObject.{PageObject}
use Rattle.st_model.specs.Objects.{Object, page, place_of, nil, one, is_pointers, is_method, words_of}
use Rattle.st_model.specs.Table.{Table, entry, total_used}
use Rattle.st_model.specs.Show.{IsUsed}
use Rattle.st_model.specs.View.{View, IsWhole, is_live, empty_view, table_of}
use Rattle.st_model.specs.Image.{table_end, form_of, entries_of, has_odd_length, has_pointers, is_used, place, size, class, body, literal_count, names}
use Rattle.st_model.specs.Start.{entry_in, start_view}
use Rattle.st_model.specs.Faults.{short_fails, lengths_fail, capacity_fails, size_fails, ShareWord, class_fails, is_field, field_fails, method_fails, roots, root_fails, Fails, row}
use Rattle.st_model.specs.Faults as faults
use Rattle.st_writer.specs.Written.{word_of, unit_words, words_below, used_below, root_word, zeros, padding, head_bytes, space_below, entries_below, text_of, image_of}
use Rattle.st_writer.proofs.Bodies.{words_in_parts}
use Rattle.st_writer.proofs.Placing.{length-space, length-text}
use Rattle.st_writer.proofs.Sums.{number_at, sum_below, sum_used, words_are, used_within, past_used}
use Rattle.st_writer.proofs.Entries.{head_of, IsWritable, entries_are, is_odd, words_among, marks_at, place_at, size_at, class_at, object_used}
use Rattle.st_writer.proofs.Back.{value_back, class_is, field_at, header_at, entry_back}
use Rattle.st_model.proofs.Entries.{entry-get}
use Rattle.st_model.proofs.TableLemmas.{entry_past}
use Rattle.st_model.proofs.KindTests.{method_pointers}

-- TABLES

is_some-cond : {A : Type 0} (b : Bool) (x : A) → is_some (cond b (Some x) None) ≡ b
is_some-cond true x = refl
is_some-cond false x = refl

live_field : (P : ℕ → Type 0) (xs : List Value) (i : ℕ) → AllLive P xs → i < length xs → IsLive P (get_or xs i nil)
live_field P [] i live inside = absurd (omega arith)
live_field P (x ∷ xs) zero live inside = live.0
live_field P (x ∷ xs) (suc i) live inside = live_field P xs i live.1 (omega arith)

parts_joined : (a b c d e : List ℕ) → a ++ (b ++ (c ++ (d ++ e))) ≡ (((a ++ b) ++ c) ++ d) ++ e
parts_joined a b c d e = sym (simp append_assoc)

-- KINDS

odd_bytes : (f u : ℕ) → ((u % 2 == 1) && (false || (2 + f + (u + 1) / 2 == 2))) ≡ false
odd_bytes f u = last (cases_Bool (u % 2 == 1))
  where
    last : (((u % 2 == 1) ≡ true) ⊎ ((u % 2 == 1) ≡ false)) → ((u % 2 == 1) && (false || (2 + f + (u + 1) / 2 == 2))) ≡ false
    last (inl e) = let odd = eqb-true (u % 2) 1 e in and_right _ _ (ne_eqb (2 + f + (u + 1) / 2) 2 (λ (same : 2 + f + (u + 1) / 2 ≡ 2). omega arith))
    last (inr e) = and_left _ _ e

odd_by : (k : Kind) (f u : ℕ) → (is_odd k u && (is_pointers k || (2 + f + unit_words k u == 2))) ≡ false
odd_by kind.Pointers f u = refl
odd_by kind.Words f u = refl
odd_by kind.Bytes f u = odd_bytes f u
odd_by kind.Method f u = odd_bytes f u

pointers_only : (k : Kind) (u : ℕ) → is_pointers k ≡ true → unit_words k u ≡ 0
pointers_only kind.Pointers u e = refl
pointers_only kind.Words u e = cc
pointers_only kind.Bytes u e = cc
pointers_only kind.Method u e = cc

odd_word : (x : Value) → is_small x ≡ true → (word_of x % 2 == 0) ≡ false
odd_word (Small n) small = ne_eqb ((2 * n + 1) % 2) 0 (λ (e : (2 * n + 1) % 2 ≡ 0). omega arith)
odd_word (Ref n) small = cc

module _ (v : View) (whole : IsWhole v) where
  abbrev t : Table
  t = v.objects

  abbrev n : ℕ
  n = used_below v.objects (length v.objects)

  abbrev head : ImageHead
  head = head_of t n v.head

  abbrev bytes : List ℕ
  bytes = text_of t n v.head

  pub words_total : words_below t n ≡ total_used words_of t
  words_total = words_are t n ∙ sum_used words_of t

  pub can : IsWritable t n
  can = record { formed = whole.formed; most = let a = words_total in let b = whole.words in let c = whole.most_words in omega arith }

  few : n ≤ 32768
  few = let a = used_within t (length t) in let b = whole.places in omega arith

  -- the text as the parts that are added one after the other
  pub image_parts : (entries words : ℕ) → entries ≡ n → words ≡ total_used words_of t
      → image_of v ≡ (((head_bytes words entries v.head ++ zeros 480) ++ space_below t entries) ++ zeros (padding words)) ++ entries_below t entries
  unfolding image_of
  image_parts entries words is_n is_words =
      let all : words ≡ words_below t entries = is_words ∙ sym words_total ∙ ap (words_below t) (sym is_n) in
      (λ j. text_of t (sym is_n j) v.head)
      ∙ (λ j. head_bytes (sym all j) entries v.head ++ (zeros 480 ++ (space_below t entries ++ (zeros (padding (sym all j)) ++ entries_below t entries))))
      ∙ parts_joined (head_bytes words entries v.head) (zeros 480) (space_below t entries) (zeros (padding words)) (entries_below t entries)

  pub space_small : (entries : ℕ) → entries ≡ n → length (space_below t entries) ≤ 2 * most_words
  space_small entries is_n =
      let l = length-space t can.formed entries in
      let m = can.most in
      let same : words_below t entries ≡ words_below t n = ap (words_below t) is_n in
      omega arith

  pub image_small : length (image_of v) ≤ 4 * most_words
  unfolding image_of
  image_small =
      let l = length-text t can.formed n v.head in
      let m = can.most in
      let f = few in
      omega arith

  past : (k : ℕ) → n ≤ k → entry t k ≡ None
  past k le = last (cases_lt k (length t))
    where
      last : ((k < length t) ⊎ (length t ≤ k)) → entry t k ≡ None
      last (inl less) = past_used t (length t) k le less
      last (inr more) = entry_past t k more

  back : (k : ℕ) → entry_in head bytes k ≡ entry t k
  back = entry_back t n v.head can whole.unused past

  used_same : (k : ℕ) → is_used head bytes k ≡ is_some (entry t k)
  unfolding entry_in
  used_same k = sym (is_some-cond (is_used head bytes k) _) ∙ ap is_some (back k)

  used_is : (k : ℕ) → IsUsed t k → is_used head bytes k ≡ true
  used_is k u = used_same k ∙ ap is_some u.1

  names_used : (k : ℕ) → IsUsed t k → names head bytes (2 * k) ≡ true
  unfolding names
  names_used k u =
      let half : 2 * k / 2 ≡ k = omega arith in
      and_from _ _ (eq-eqb _ _ (omega arith)) (ap (is_used head bytes) half ∙ used_is k u)

  -- THE FILE

  short_clean : short_fails head bytes ≡ false
  unfolding short_fails
  short_clean = let l = length-text t can.formed n v.head in or_from _ _ (le-ltb (length bytes) 512 (omega arith)) (le-ltb (length bytes) (table_end head) (omega arith))

  lengths_clean : lengths_fail head ≡ false
  unfolding lengths_fail form_of
  lengths_clean =
      let f = few in
      let m = can.most in
      let whole_entries : 3 * n % 3 ≡ 0 = omega arith in
      or_from _ _ (or_from _ _ (or_from _ _ refl (ap not (eq-eqb (3 * n % 3) 0 whole_entries))) (le-ltb 98304 (3 * n) (omega (arith, f)))) (le-ltb most_words (words_below t n) (omega (arith, m)))

  used_count : (m : ℕ) → faults.used_below head bytes m ≡ sum_below one t m
  used_count zero = refl
  used_count (suc m) =
      let a = used_count m in
      let b = ap (λ (x : Bool). cond x 1 0) (used_same m) ∙ one_place (entry t m) in
      omega arith
    where
      one_place : (e : Option Object) → cond (is_some e) 1 0 ≡ number_at one e
      one_place None = refl
      one_place (Some o) = refl

  capacity_clean : capacity_fails head bytes ≡ false
  unfolding capacity_fails form_of
  capacity_clean =
      let half = entries_are t n v.head can in
      let u : faults.used_below head bytes (entries_of head) ≡ total_used one t = ap (faults.used_below head bytes) half ∙ used_count n ∙ sum_used one t in
      let a = whole.entries in
      let b = whole.words in
      let w = words_total in
      or_from _ _ (or_from _ _ (or_from _ _ (le-ltb 32767 v.head.entries whole.most_entries) (le-ltb v.head.entries (faults.used_below head bytes (entries_of head)) (omega (arith, u, a)))) (le-ltb most_words v.head.words whole.most_words)) (le-ltb v.head.words (words_below t n) (omega arith))

  -- THE OBJECTS

  size_clean : (k : ℕ) → size_fails head bytes k ≡ false
  unfolding size_fails
  size_clean k = last (cases_Bool (is_used head bytes k))
    where
      inside : (o : Object) → k < n → entry t k ≡ Some o → (nat_lt (words_below t n) (place head bytes k + size head bytes k) || nat_lt (size head bytes k) 2
          || (has_odd_length head bytes k && (has_pointers head bytes k || (size head bytes k == 2)))) ≡ false
      inside o k_in e =
          let s = size_at t n v.head can k o k_in e in
          let p = place_at t n v.head can k o k_in e in
          let m = marks_at t n v.head can k o k_in e in
          let w = words_in_parts o (whole.formed k o e) in
          let a = words_among t k n o k_in e in
          or_from _ _ (or_from _ _ (le-ltb (words_below t n) (place head bytes k + size head bytes k) (omega arith)) (le-ltb (size head bytes k) 2 (omega arith)))
          ((λ j. m.odd j && (m.pointers j || ((s ∙ w) j == 2))) ∙ odd_by o.kind (length o.fields) (length o.units))

      last : ((is_used head bytes k ≡ true) ⊎ (is_used head bytes k ≡ false)) → size_fails head bytes k ≡ false
      last (inl used) = let u = object_used t n v.head can k used in and_right _ _ (inside u.2.0 u.0 u.2.1)
      last (inr free) = and_left _ _ free

  overlap_clean : (j k : ℕ) → j < k → ¬ ShareWord head bytes j k
  overlap_clean j k less share =
      let a = object_used t n v.head can j share.1.0.0 in
      let b = object_used t n v.head can k share.1.1.0 in
      let s = size_at t n v.head can j a.2.0 a.0 a.2.1 in
      let p = place_at t n v.head can j a.2.0 a.0 a.2.1 in
      let q = place_at t n v.head can k b.2.0 b.0 b.2.1 in
      let w = words_among t j k a.2.0 less a.2.1 in
      omega (arith, share.1.0.2, share.1.1.1)

  class_clean : (k : ℕ) → class_fails head bytes k ≡ false
  unfolding class_fails
  class_clean k = last (cases_Bool (is_used head bytes k))
    where
      last : ((is_used head bytes k ≡ true) ⊎ (is_used head bytes k ≡ false)) → class_fails head bytes k ≡ false
      last (inl used) =
          let u = object_used t n v.head can k used in
          let live = (whole.complete.objects k u.2.0 u.2.1).class in
          and_right _ _ (ap not (ap (names head bytes) (class_at t n v.head can k u.2.0 u.0 u.2.1) ∙ names_used u.2.0.class live))
      last (inr free) = and_left _ _ free

  -- a value that lives is no wrong field
  value_clean : (x : Value) → IsLive (IsUsed t) x → ((word_of x % 2 == 0) && not (names head bytes (word_of x))) ≡ false
  value_clean (Small m) live = and_left _ _ (odd_word (Small m) refl)
  value_clean (Ref c) live = and_right _ _ (ap not (names_used c live))

  field_clean : (k i : ℕ) → field_fails head bytes k i ≡ false
  unfolding field_fails is_field
  field_clean k i = last (cases_Bool (is_used head bytes k))
    where
      at : (o : Object) → k < n → entry t k ≡ Some o → i < length o.fields → ((body head bytes k i % 2 == 0) && not (names head bytes (body head bytes k i))) ≡ false
      at o k_in e inside =
          ap (λ (w : ℕ). (w % 2 == 0) && not (names head bytes w)) (field_at t n v.head can k o k_in e i inside)
          ∙ value_clean (get_or o.fields i nil) (live_field (IsUsed t) o.fields i (whole.complete.objects k o e).fields inside)

      inside : (o : Object) → k < n → entry t k ≡ Some o → nat_lt i (size head bytes k - 2) ≡ true
          → (has_pointers head bytes k ≡ true) ⊎ (((class head bytes k == 34) && (nat_lt 0 i && nat_le i (literal_count (body head bytes k 0)))) ≡ true) → i < length o.fields
      inside o k_in e range (inl points) =
          let s = size_at t n v.head can k o k_in e in
          let w = words_in_parts o (whole.formed k o e) in
          let m = marks_at t n v.head can k o k_in e in
          let u = pointers_only o.kind (length o.units) (sym m.pointers ∙ points) in
          let r = ltb-true _ _ range in
          omega arith
      inside o k_in e range (inr method) =
          let a = and_parts _ _ method in
          let b = and_parts _ _ a.1 in
          let le : i ≤ literal_count (body head bytes k 0) = leb-true i (literal_count (body head bytes k 0)) b.1 in
          let l = header_at t n v.head can k o k_in e (sym (class_is t n v.head can k o k_in e) ∙ a.0) in
          omega (arith, l.1)

      by_field : (o : Object) → k < n → entry t k ≡ Some o → ((is_field head bytes k i ≡ true) ⊎ (is_field head bytes k i ≡ false))
          → (is_field head bytes k i && ((body head bytes k i % 2 == 0) && not (names head bytes (body head bytes k i)))) ≡ false
      by_field o k_in e (inl field) = let a = and_parts _ _ field in and_right _ _ (at o k_in e (inside o k_in e a.0 (or_cases _ _ a.1)))
      by_field o k_in e (inr none) = and_left _ _ none

      last : ((is_used head bytes k ≡ true) ⊎ (is_used head bytes k ≡ false)) → field_fails head bytes k i ≡ false
      last (inl used) = let u = object_used t n v.head can k used in and_right _ _ (by_field u.2.0 u.0 u.2.1 (cases_Bool (is_field head bytes k i)))
      last (inr free) = and_left _ _ free

  method_clean : (k : ℕ) → method_fails head bytes k ≡ false
  unfolding method_fails
  method_clean k = last (cases_Bool (is_used head bytes k))
    where
      right : (o : Object) → k < n → entry t k ≡ Some o → (class head bytes k == 34) ≡ true
          → (has_pointers head bytes k || (size head bytes k == 2) || (body head bytes k 0 % 2 == 0) || nat_lt (size head bytes k - 3) (literal_count (body head bytes k 0))) ≡ false
      right o k_in e is =
          let method : is_method o.kind ≡ true = sym (class_is t n v.head can k o k_in e) ∙ is in
          let s = size_at t n v.head can k o k_in e in
          let w = words_in_parts o (whole.formed k o e) in
          let m = marks_at t n v.head can k o k_in e in
          let l = header_at t n v.head can k o k_in e method in
          let f = (whole.formed k o e).has_header method in
          let odd : (body head bytes k 0 % 2 == 0) ≡ false = ap (λ (x : ℕ). x % 2 == 0) (field_at t n v.head can k o k_in e 0 f) ∙ odd_word (get_or o.fields 0 nil) l.0 in
          let l1 = l.1 in
          or_from _ _ (or_from _ _ (or_from _ _ (m.pointers ∙ method_pointers o.kind method) (ne_eqb (size head bytes k) 2 (λ (same : size head bytes k ≡ 2). omega arith))) odd) (le-ltb (size head bytes k - 3) (literal_count (body head bytes k 0)) (omega arith))

      by_class : (o : Object) → k < n → entry t k ≡ Some o → (((class head bytes k == 34) ≡ true) ⊎ ((class head bytes k == 34) ≡ false))
          → ((class head bytes k == 34) && (has_pointers head bytes k || (size head bytes k == 2) || (body head bytes k 0 % 2 == 0) || nat_lt (size head bytes k - 3) (literal_count (body head bytes k 0)))) ≡ false
      by_class o k_in e (inl is) = and_right _ _ (right o k_in e is)
      by_class o k_in e (inr other) = and_left _ _ other

      last : ((is_used head bytes k ≡ true) ⊎ (is_used head bytes k ≡ false)) → method_fails head bytes k ≡ false
      last (inl used) = let u = object_used t n v.head can k used in and_right _ _ (by_class u.2.0 u.0 u.2.1 (cases_Bool (class head bytes k == 34)))
      last (inr free) = and_left _ _ free

  -- THE ROOTS

  abbrev IsRight : ℕ → Type 0
  IsRight p = root_fails head bytes p ≡ false

  root_used : (k : ℕ) → IsUsed t k → IsRight (2 * k)
  unfolding root_fails
  root_used k u = and_right _ _ (ap not (names_used k u))

  root_table : (r : Option Value) → ((x : Value) → r ≡ Some x → is_live t x ≡ true) → IsRight (root_word r)
  unfolding root_fails is_live
  root_table None live = refl
  root_table (Some (Small m)) live = let a = live (Small m) refl in cc
  root_table (Some (Ref c)) live = root_used c (live_used t c (live (Ref c) refl))

  root_clean : (p : ℕ) → Contains (roots head) p → IsRight p
  root_clean p among =
      let pages : All IsRight (map (λ (q : PageObject). 2 * place_of q) page) =
      All-map IsRight (λ (q : PageObject). 2 * place_of q) page (λ k d below. root_used _ (live_used t _ (whole.complete.page (get_or page k d)))) in
      let tables = All-cons IsRight (root_word v.head.globals) (root_word v.head.symbols ∷ []) (root_table v.head.globals whole.complete.globals)
      (All-cons IsRight (root_word v.head.symbols) [] (root_table v.head.symbols whole.complete.symbols) (All-nil IsRight)) in
      All-contains IsRight (roots head) p (All-append IsRight (map (λ (q : PageObject). 2 * place_of q) page) (root_word v.head.globals ∷ root_word v.head.symbols ∷ []) pages tables) among

  pub clean : (g : ImageFault) → row g < 10 → ¬ Fails head bytes g
  unfolding Fails
  clean fault.Short below fails = both_ways _ short_clean fails
  clean fault.Lengths below fails = both_ways _ lengths_clean fails
  clean fault.Capacity below fails = both_ways _ capacity_clean fails
  clean (fault.Size p) below fails = both_ways _ (size_clean (p / 2)) fails.1
  clean (fault.Overlap p q) below fails = overlap_clean (p / 2) (q / 2) (omega (arith, fails.0, fails.1, fails.2)) fails.3
  clean (fault.Class p) below fails = both_ways _ (class_clean (p / 2)) fails.1
  clean (fault.Field p i) below fails = both_ways _ (field_clean (p / 2) i) fails.1
  clean (fault.Method p) below fails = both_ways _ (method_clean (p / 2)) fails.1
  clean (fault.Root p) below fails = both_ways _ (root_clean p fails.0) fails.1
  clean fault.Scheduler below fails = absurd (omega arith)

  -- THE VIEW

  pub objects_back : (start_view head bytes).objects ≡ v.objects
  unfolding start_view
  objects_back = sym (made_from (entry_in head bytes) t 32768 None whole.places (λ k below. sym (entry-get t k) ∙ sym (back k)))

  table_back : (r : Option Value) → ((x : Value) → r ≡ Some x → is_live t x ≡ true) → table_of (root_word r) ≡ r
  unfolding is_live
  table_back None live = refl
  table_back (Some (Small m)) live = let a = live (Small m) refl in cc
  table_back (Some (Ref c)) live = last (cases_eq c 0)
    where
      last : ((c ≡ 0) ⊎ (c ≡ 0 → ⊥)) → cond (2 * c == 0) None (Some (value_of (2 * c))) ≡ Some (Ref c)
      last (inl z) = let a : is_some (entry t c) ≡ true = live (Ref c) refl in let b : entry t c ≡ None = ap (entry t) z ∙ whole.unused in let d = ap is_some b in cc
      last (inr other) = rw (ne_eqb (2 * c) 0 (λ e. other (omega arith))) (ap Some (value_back (Ref c)))

  pub view_head_back : (start_view head bytes).head ≡ v.head
  unfolding start_view empty_view
  view_head_back = λ j. record {
    entries = v.head.entries;
    words = v.head.words;
    globals = table_back v.head.globals whole.complete.globals j;
    symbols = table_back v.head.symbols whole.complete.symbols j;
  }
