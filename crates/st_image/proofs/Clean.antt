-- What is known of an image none of whose first nine rows fails.
use Rattle.std.proofs.Common.{◌≡◌, ◌≢◌, ℕ, ◌+◌, ◌-◌, ◌*◌, ◌/◌, ◌%◌, ◌<◌, ◌≤◌, ◌⊎◌, Bool, true, false, ◌||◌, ◌==◌, nat_lt, List, arith, refl, subst, inl, inr, lit<}
use Rattle.std.specs.Prelude.{Contains}
use Rattle.std.proofs.lemmas.Bool.{cases_eq, both_ways, false_from_ne_true, true_from_ne_false, or_parts, ltb-false, eqb-false, eq-eqb, ne_eqb, not-false}
use Rattle.st_model.specs.Limits.{most_words}
use Rattle.st_model.specs.declared.head.ImageHead.{ImageHead}
use Rattle.st_model.specs.declared.fault.ImageFault.TheVariants.{Capacity, Size, Overlap, Class, Field, Method, Root}
use Rattle.st_model.specs.Objects.{place_of}
use Rattle.st_model.specs.declared.page.PageObject.{PageObject}
use Rattle.st_model.specs.declared.page.PageObject.TheVariants.{NilObject, FalseObject, TrueObject, SchedulerAssociation, SmallIntegerClass, StringClass, ArrayClass, MethodContextClass, BlockContextClass, PointClass, LargeClass, MessageClass, MethodClass, CharacterClass, NotUnderstood, CannotReturn, Selectors, Characters, MustBeBoolean, SymbolClass}
use Rattle.st_model.specs.Image.{entries_of, has_pointers, is_used, size, class, body, names, literal_count}
use Rattle.st_model.specs.Faults.{Fails, At, ShareWord, used_below, capacity_fails, size_fails, class_fails, field_fails, method_fails, root_fails, roots}
use Rattle.st_image.specs.inside.Sizes.{AreInside}
use Rattle.st_image.specs.inside.Rows.{IsCleanBelow}
use Rattle.st_image.specs.inside.Loads.{IsSound}
use Rattle.st_image.proofs.FaultRows.{most_in_version, inside, named, named_used}
use Rattle.st_image.proofs.Shapes.{kind_method}

-- a test that no even pointer's entry passes
never : (test : ℕ → Bool) (k : ℕ) → ((p : ℕ) → ¬ At p test) → test k ≡ false
never test k none = false_from_ne_true _ (λ t.
    let e : k ≡ 2 * k / 2 = omega arith in
    none (2 * k) (omega arith, subst (λ (x : ℕ). test x ≡ true) e t))

pub clean_inside : (h : ImageHead) (bytes : List ℕ) → IsCleanBelow h bytes 10 → AreInside h bytes
unfolding Fails
clean_inside h bytes clean = inside h bytes (λ k k_in. never (size_fails h bytes) k (λ p at. clean (Size p) (omega arith) at))

-- no two objects share a word
pub clean_apart : (h : ImageHead) (bytes : List ℕ) → IsCleanBelow h bytes 10 → (j k : ℕ) → j < k → ¬ ShareWord h bytes j k
unfolding Fails
clean_apart h bytes clean j k above share =
    let a : j ≡ 2 * j / 2 = omega arith in
    let b : k ≡ 2 * k / 2 = omega arith in
    clean (Overlap (2 * j) (2 * k)) (omega arith) (
      omega arith,
      omega arith,
      omega arith,
      subst (λ (x : ℕ). ShareWord h bytes x (2 * k / 2)) a (subst (λ (y : ℕ). ShareWord h bytes j y) b share),
    )

pub clean_class : (h : ImageHead) (bytes : List ℕ) → IsCleanBelow h bytes 10 → (k : ℕ) → is_used h bytes k ≡ true → names h bytes (class h bytes k) ≡ true
unfolding Fails class_fails
clean_class h bytes clean k used =
    let a : class_fails h bytes k ≡ false = never (class_fails h bytes) k (λ p at. clean (Class p) (omega arith) at) in
    not-false _ (rw used at a)

-- an object of class 34 has no pointers, but an odd header and its literals
clean_method : (h : ImageHead) (bytes : List ℕ) → IsCleanBelow h bytes 10 → (k : ℕ) → is_used h bytes k ≡ true → (class h bytes k == 34) ≡ true
    → (has_pointers h bytes k ≡ false) × (size h bytes k ≢ 2) × ((body h bytes k 0 % 2 == 0) ≡ false) × (literal_count (body h bytes k 0) ≤ size h bytes k - 3)
unfolding Fails method_fails
clean_method h bytes clean k used is =
    let none : method_fails h bytes k ≡ false = never (method_fails h bytes) k (λ p at. clean (Method p) (omega arith) at) in
    let rest : (has_pointers h bytes k || (size h bytes k == 2) || (body h bytes k 0 % 2 == 0) || nat_lt (size h bytes k - 3) (literal_count (body h bytes k 0))) ≡ false
    = rw (used, is) at none in
    let a = or_parts _ _ rest in
    let b = or_parts _ _ a.0 in
    let d = or_parts _ _ b.0 in
    (d.0, eqb-false _ _ d.1, b.1, ltb-false _ _ a.1)

odd_from : (n : ℕ) → (n % 2 == 0) ≡ false → n % 2 ≡ 1
odd_from n e = let a : n % 2 ≡ 0 → ⊥ = eqb-false _ _ e in last (cases_eq (n % 2) 0) a
  where
    last : ((n % 2 ≡ 0) ⊎ (n % 2 ≡ 0 → ⊥)) → (n % 2 ≡ 0 → ⊥) → n % 2 ≡ 1
    last (inl z) a = absurd (a z)
    last (inr z) a = omega arith

pub clean_sound : (h : ImageHead) (bytes : List ℕ) → IsCleanBelow h bytes 10 → (k : ℕ) → k < entries_of h → is_used h bytes k ≡ true → IsSound h bytes k
clean_sound h bytes clean k k_in used =
    let c = clean_class h bytes clean k used in
    let i = clean_inside h bytes clean in
    let s = i k k_in used in
    record {
      in_table = k_in;
      inside = s;
      class_used = c;
      class_inside = i (class h bytes k / 2) (named h bytes (class h bytes k) c) (named_used h bytes (class h bytes k) c);
      pointers = λ p is. both_ways _ (clean_method h bytes clean k used (eq-eqb _ _ is)).0 p;
      header = λ m. odd_from (body h bytes k 0) (clean_method h bytes clean k used (kind_method h bytes k m)).2;
      literals = λ m.
          let a = clean_method h bytes clean k used (kind_method h bytes k m) in
          let b : size h bytes k ≡ 2 → ⊥ = a.1 in
          let d = a.3 in
          let e = s.least in
          more (size h bytes k) (literal_count (body h bytes k 0)) e b d;
    }
  where
    more : (n l : ℕ) → 2 ≤ n → (n ≡ 2 → ⊥) → l ≤ n - 3 → l + 3 ≤ n
    more n l a b d = last (cases_eq n 2)
      where
        last : ((n ≡ 2) ⊎ (n ≡ 2 → ⊥)) → l + 3 ≤ n
        last (inl z) = absurd (b z)
        last (inr z) = omega arith

pub clean_field : (h : ImageHead) (bytes : List ℕ) → IsCleanBelow h bytes 10 → (k i : ℕ) → field_fails h bytes k i ≡ false
unfolding Fails
clean_field h bytes clean k i = never (λ j. field_fails h bytes j i) k (λ p at. clean (Field p i) (omega arith) at)

-- the capacities
pub record HasCapacity (h : ImageHead) (bytes : List ℕ) : Type 0 where
  pub most_entries : h.entries ≤ 32767
  pub entries : used_below h bytes (entries_of h) ≤ h.entries
  pub most_words : h.words ≤ most_words
  pub words : h.space ≤ h.words

pub clean_capacity : (h : ImageHead) (bytes : List ℕ) → IsCleanBelow h bytes 10 → HasCapacity h bytes
unfolding Fails capacity_fails
clean_capacity h bytes clean =
    let a = or_parts _ _ (false_from_ne_true _ (clean Capacity (omega arith))) in
    let b = or_parts _ _ a.0 in
    let d = or_parts _ _ b.0 in
    record { most_entries = ltb-false _ _ d.0; entries = ltb-false _ _ d.1; most_words = most_in_version h h.words (ltb-false _ _ b.1); words = ltb-false _ _ a.1 }

-- the roots
clean_root : (h : ImageHead) (bytes : List ℕ) → IsCleanBelow h bytes 10 → (p : ℕ) → Contains (roots h) p → p ≢ 0 → names h bytes p ≡ true
unfolding Fails root_fails
clean_root h bytes clean p among zero = true_from_ne_false _ (λ e.
    clean (Root p) (omega arith) (among, rw (ne_eqb p 0 zero, e) refl))

pub clean_globals : (h : ImageHead) (bytes : List ℕ) → IsCleanBelow h bytes 10 → h.globals ≢ 0 → names h bytes h.globals ≡ true
clean_globals h bytes clean zero = clean_root h bytes clean h.globals (20, lit< tt, refl) zero

pub clean_symbols : (h : ImageHead) (bytes : List ℕ) → IsCleanBelow h bytes 10 → h.symbols ≢ 0 → names h bytes h.symbols ≡ true
clean_symbols h bytes clean zero = clean_root h bytes clean h.symbols (21, lit< tt, refl) zero

-- each object of the page is among the roots
in_roots : (h : ImageHead) (q : PageObject) → Contains (roots h) (2 * place_of q) × (2 * place_of q ≢ 0)
in_roots h NilObject = ((0, lit< tt, refl), λ e. omega arith)
in_roots h FalseObject = ((1, lit< tt, refl), λ e. omega arith)
in_roots h TrueObject = ((2, lit< tt, refl), λ e. omega arith)
in_roots h SchedulerAssociation = ((3, lit< tt, refl), λ e. omega arith)
in_roots h SmallIntegerClass = ((4, lit< tt, refl), λ e. omega arith)
in_roots h StringClass = ((5, lit< tt, refl), λ e. omega arith)
in_roots h ArrayClass = ((6, lit< tt, refl), λ e. omega arith)
in_roots h MethodContextClass = ((7, lit< tt, refl), λ e. omega arith)
in_roots h BlockContextClass = ((8, lit< tt, refl), λ e. omega arith)
in_roots h PointClass = ((9, lit< tt, refl), λ e. omega arith)
in_roots h LargeClass = ((10, lit< tt, refl), λ e. omega arith)
in_roots h MessageClass = ((11, lit< tt, refl), λ e. omega arith)
in_roots h MethodClass = ((12, lit< tt, refl), λ e. omega arith)
in_roots h CharacterClass = ((13, lit< tt, refl), λ e. omega arith)
in_roots h NotUnderstood = ((14, lit< tt, refl), λ e. omega arith)
in_roots h CannotReturn = ((15, lit< tt, refl), λ e. omega arith)
in_roots h Selectors = ((16, lit< tt, refl), λ e. omega arith)
in_roots h Characters = ((17, lit< tt, refl), λ e. omega arith)
in_roots h MustBeBoolean = ((18, lit< tt, refl), λ e. omega arith)
in_roots h SymbolClass = ((19, lit< tt, refl), λ e. omega arith)

pub clean_page : (h : ImageHead) (bytes : List ℕ) → IsCleanBelow h bytes 10 → (q : PageObject) → names h bytes (2 * place_of q) ≡ true
clean_page h bytes clean q = clean_root h bytes clean (2 * place_of q) (in_roots h q).0 (in_roots h q).1
