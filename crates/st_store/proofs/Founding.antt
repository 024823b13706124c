-- What a stop leaves while the first roots file is written.
use Rattle.std.proofs.Common.{◌≡◌, ◌≢◌, ◌⊎◌, inl, inr, ⊎_elim, ℕ, ◌+◌, ◌-◌, ◌%◌, ◌<◌, ◌≤◌, List, [], ◌∷◌, ◌++◌, length, take, slice_index, codes, Option, IsTrue, refl, sym, subst, ◌∙◌, ap, arith, lit<, lit≤}
use Rattle.std.specs.Prelude.{Some, None, Result, Ok, OnOk, replicate}
use Rattle.std.proofs.lemmas.List.{get_or_append_left, get_or-append_right, get_or_past}
use Rattle.std.proofs.lemmas.Bool.{cases_lt}
use Rattle.std.proofs.lemmas.Grind.{same_number_lists}
use Rattle.st_host.specs.Files.{bytes_of, IsWritten}
use Rattle.st_host.specs.Stops.{TornByWrite, TornByCut}
use Rattle.st_host.specs.Runs.{Touched, Writes, Cuts, ChangesBoth, IsSynced, IsAtRest, Makes}
use Rattle.st_host.specs.declared.host.Host.{Ghosts}
use Rattle.st_host.proofs.Joining.{weaker, makes_then}
use Rattle.st_store.specs.Names.{roots_file, changes_file, image_file}
use Rattle.st_store.specs.Roots.{root_at, root_bytes, Fits, Chooses}
use Rattle.st_store.specs.Stored.{Stored, Begins, Leaves, IsFirm}
use Rattle.st_store.specs.Founding.{IsNoStore, OpensMaybe, IsBlank, first_bytes, first_file, first_stored}
use Rattle.st_store.specs.declared.root.Root.{Root}
use Rattle.st_store.proofs.Bytes.{root_same, root_inside}
use Rattle.st_store.proofs.Others.{changes_roots, image_roots, image_changes}
use Rattle.st_store.proofs.Turning.{came, opens_as, firm_on, write_makes, writes_as, written_as, synced_as}
use Rattle.st_store.proofs.Clearing.{letter_is, letters_or_none}

-- the roots file without its letters
pub record Inscribed (root : Root) (file : Option (List ℕ)) : Type 0 where
  pub long : length (bytes_of file) ≡ 80
  pub zero : slice_index (bytes_of file) 0 ≡ 0
  pub gate : slice_index (bytes_of file) 8 ≡ 0
  pub names : root_at 16 (bytes_of file) ≡ root

empty_long : (xs : List ℕ) → xs ≡ [] → length xs ≡ 0
empty_long xs is = ap length is

pub empty_none : (c : Option (List ℕ)) → bytes_of c ≡ [] → IsNoStore c
empty_none c is letters = letter_is 0 (lit< tt) (sym (get_or_past (bytes_of c) 0 0 (omega (arith, empty_long (bytes_of c) is))) ∙ letters 0 (lit< tt))

pub blank_none : (c : Option (List ℕ)) → IsBlank c → IsNoStore c
blank_none c is letters = letter_is 0 (lit< tt) (sym is.zero ∙ letters 0 (lit< tt))

pub inscribed_none : (root : Root) (c : Option (List ℕ)) → Inscribed root c → IsNoStore c
inscribed_none root c is letters = letter_is 0 (lit< tt) (sym is.zero ∙ letters 0 (lit< tt))

pub blank_torn : (file d c : Option (List ℕ)) → bytes_of file ≡ [] → bytes_of d ≡ [] → TornByWrite file 0 1 d c → IsNoStore c
blank_torn file d c read was torn letters = letter_is 7 (lit< tt)
    (sym (get_or_past (bytes_of c) 7 0 (omega (arith, torn.longest, empty_long (bytes_of file) read, empty_long (bytes_of d) was))) ∙ letters 7 (lit< tt))

pub blank_written : (was now : Option (List ℕ)) → bytes_of was ≡ [] → IsWritten 0 (0 ∷ []) was now → IsBlank now
blank_written was now is written = record { long = omega (arith, written.long, empty_long (bytes_of was) is); zero = written.inside 0 (lit< tt) }

module _ (root : Root) where
  pub rest_torn : (file d c : Option (List ℕ)) → IsBlank file → IsBlank d → TornByWrite file 8 72 d c → IsNoStore c
  rest_torn file d c read was torn letters = letter_is 0 (lit< tt) (sym first ∙ letters 0 (lit< tt))
    where
      first : slice_index (bytes_of c) 0 ≡ 0
      first = ⊎_elim
          (λ some. torn.same 0 some (omega (arith, was.long)) (omega (arith, read.long)) (inl (lit< tt)) ∙ was.zero)
          (λ none. get_or_past (bytes_of c) 0 0 none)
          (cases_lt 0 (length (bytes_of c)))

  pub rest_written : (was now : Option (List ℕ)) → Fits root → IsBlank was → IsWritten 8 (first_bytes root) was now → Inscribed root now
  rest_written was now fits blank written =
      let long : length (first_bytes root) ≡ 72 = refl in
      record {
        long = omega (arith, written.long, blank.long, long);
        zero = written.outside 0 (inl (lit< tt)) ∙ blank.zero;
        gate = written.inside 0 (omega (arith, long));
        names = root_inside 16 root (bytes_of now) fits (λ i low.
            let there : 16 + i ≡ 8 + (8 + i) = omega arith in
            ap (λ (j : ℕ). slice_index (bytes_of now) j) there
            ∙ written.inside (8 + i) (omega (arith, long))
            ∙ get_or-append_right (replicate 8 0) (root_bytes root ++ replicate 32 0) 8 (8 + i) 0 refl (omega arith)
            ∙ ap (λ (j : ℕ). slice_index (root_bytes root ++ replicate 32 0) j) (let e : 8 + i - 8 ≡ i = omega arith in e)
            ∙ get_or_append_left (root_bytes root) (replicate 32 0) 0 i low);
      }

  pub letters_torn : (file d c : Option (List ℕ)) → Inscribed root file → Inscribed root d → TornByWrite file 0 8 d c → Chooses 0 root c ⊎ IsNoStore c
  letters_torn file d c read was torn = ⊎_elim
      (λ letters. inl (record {
        whole = record { long = omega (arith, torn.shortest, was.long, read.long); letters = letters };
        gate = ap (λ (x : ℕ). x % 2) (same 8 (lit< tt) (omega arith) ∙ was.gate);
        names = root_same 16 (bytes_of c) (bytes_of d) (λ i l u. same i (omega arith) (omega arith)) ∙ was.names;
      }))
      (λ none. inr none)
      (letters_or_none c 8 (omega arith))
    where
      same : (i : ℕ) → i < 80 → 8 ≤ i → slice_index (bytes_of c) i ≡ slice_index (bytes_of d) i
      same i low from = torn.same i (omega (arith, torn.shortest, was.long, read.long)) (omega (arith, was.long)) (omega (arith, read.long)) (inr (omega arith))

  pub letters_written : (was now : Option (List ℕ)) → Inscribed root was → IsWritten 0 (codes "ST80ROOT") was now → Chooses 0 root now
  letters_written was now inscribed written = record {
    whole = record {
      long = omega (arith, written.long, inscribed.long);
      letters = λ i low. let e : i ≡ 0 + i = omega arith in ap (λ (j : ℕ). slice_index (bytes_of now) j) e ∙ written.inside i low;
    };
    gate = ap (λ (x : ℕ). x % 2) (written.outside 8 (inr (omega arith)) ∙ inscribed.gate);
    names = root_same 16 (bytes_of now) (bytes_of was) (λ i l u. written.outside i (inr (omega arith))) ∙ inscribed.names;
  }

-- the letters and what was written behind them are the whole file
pub whole_written : (root : Root) (old mid new : Option (List ℕ)) → IsBlank old → IsWritten 8 (first_bytes root) old mid → IsWritten 0 (codes "ST80ROOT") mid new → new ≡ Some (first_file root)
whole_written root old mid None blank body head = let a = head.there in cc
whole_written root old mid (Some xs) blank body head = ap Some (same_number_lists xs (first_file root)
    (omega (arith, head.long, body.long, blank.long, long, whole))
    (λ i low. ⊎_elim
    (λ front. let e : i ≡ 0 + i = omega arith in
    ap (λ (j : ℕ). slice_index xs j) e ∙ head.inside i front ∙ sym (get_or_append_left (codes "ST80ROOT") (first_bytes root) 0 i front))
    (λ behind. let e : i ≡ 8 + (i - 8) = omega arith in
    head.outside i (inr behind)
    ∙ ap (λ (j : ℕ). slice_index (bytes_of mid) j) e
    ∙ body.inside (i - 8) (omega (arith, head.long, body.long, blank.long, long))
    ∙ sym (get_or-append_right (codes "ST80ROOT") (first_bytes root) 8 i 0 refl behind))
    (cases_lt i 8)))
  where
    long : length (first_bytes root) ≡ 72
    long = refl

    whole : length (first_file root) ≡ 80
    whole = refl

module _ {D R E : Type 0} (host : Ghosts D) (name : List ℕ) (a b : D) (result : Result R E) (told : IsTrue host.is_told) where
  -- while the changes file is emptied
  pub cut_makes : Cuts host (changes_file name 0) 0 a b → Leaves host a (roots_file name) (λ x. bytes_of x ≡ []) → OnOk result (IsAtRest {C = Option Stored} host (OpensMaybe name) None b)
      → Makes {C = Option Stored} host (OpensMaybe name) None None a b result
  cut_makes cuts empty after =
      let other : roots_file name ≢ changes_file name 0 = λ same. changes_roots name 0 (sym same) in
      record {
        rest = after;
        either = λ f can. inl (empty_none (f (roots_file name)) (empty (f (roots_file name)) ((cuts.run.others told).fewer (roots_file name) (f (roots_file name)) other (can (roots_file name)))));
        quiet = cuts.run.quiet told;
        moments = weaker host a b _ (Touched host (TornByCut (host.files a (changes_file name 0)) 0) (changes_file name 0) a) (cuts.run.moments told)
            (λ f s so. (so.quiet, inl (empty_none (f (roots_file name)) (empty (f (roots_file name)) (so.others (roots_file name) other)))));
      }

  pub still_empty : Cuts host (changes_file name 0) 0 a b → Leaves host a (roots_file name) (λ x. bytes_of x ≡ []) → Leaves host b (roots_file name) (λ x. bytes_of x ≡ [])
  still_empty cuts empty x can = empty x ((cuts.run.others told).fewer (roots_file name) x (λ same. changes_roots name 0 (sym same)) can)

  module _ (reads : host.may_leave a (roots_file name) (host.files a (roots_file name))) where
    pub blank_makes : Writes host (roots_file name) 0 1 a b → Leaves host a (roots_file name) (λ x. bytes_of x ≡ []) → OnOk result (IsAtRest {C = Option Stored} host (OpensMaybe name) None b)
        → Makes {C = Option Stored} host (OpensMaybe name) None None a b result
    blank_makes writes empty after = write_makes host name {C = Option Stored} (OpensMaybe name) None None 0 1 a b result told writes
        (λ f others own. inl (came (host.may_leave a (roots_file name)) (TornByWrite (host.files a (roots_file name)) 0 1) IsNoStore (f (roots_file name))
        (λ d could torn. blank_torn (host.files a (roots_file name)) d (f (roots_file name)) (empty (host.files a (roots_file name)) reads) (empty d could) torn) own))
        after

    pub rest_makes : (root : Root) → Writes host (roots_file name) 8 72 a b → Leaves host a (roots_file name) IsBlank → OnOk result (IsAtRest {C = Option Stored} host (OpensMaybe name) None b)
        → Makes {C = Option Stored} host (OpensMaybe name) None None a b result
    rest_makes root writes blank after = write_makes host name {C = Option Stored} (OpensMaybe name) None None 8 72 a b result told writes
        (λ f others own. inl (came (host.may_leave a (roots_file name)) (TornByWrite (host.files a (roots_file name)) 8 72) IsNoStore (f (roots_file name))
        (λ d could torn. rest_torn root (host.files a (roots_file name)) d (f (roots_file name)) (blank (host.files a (roots_file name)) reads) (blank d could) torn) own))
        after

    pub letters_make : (c : Stored) → Writes host (roots_file name) 0 8 a b → Leaves host a (roots_file name) (Inscribed c.root) → IsFirm host a name c
        → OnOk result (IsAtRest {C = Option Stored} host (OpensMaybe name) (Some c) b) → Makes {C = Option Stored} host (OpensMaybe name) None (Some c) a b result
    letters_make c writes inscribed firm after = write_makes host name {C = Option Stored} (OpensMaybe name) None (Some c) 0 8 a b result told writes
        (λ f others own. ⊎_elim
        (λ chooses. inr (opens_as host name a c f 0 firm others chooses))
        (λ none. inl none)
        (came (host.may_leave a (roots_file name)) (TornByWrite (host.files a (roots_file name)) 0 8) (λ x. Chooses 0 c.root x ⊎ IsNoStore x) (f (roots_file name))
        (λ d could torn. letters_torn c.root (host.files a (roots_file name)) d (f (roots_file name)) (inscribed (host.files a (roots_file name)) reads) (inscribed d could) torn) own))
        after

-- The changes file is emptied, and then one zero byte written.
pub prepare_makes : {D R E : Type 0} (host : Ghosts D) (name : List ℕ) (a b d : D) → IsTrue host.is_told → Leaves host a (roots_file name) (λ x. bytes_of x ≡ [])
    → Cuts host (changes_file name 0) 0 a b → host.may_leave b (roots_file name) (host.files b (roots_file name)) → Writes host (roots_file name) 0 1 b d
    → (result : Result R E) → OnOk result (IsAtRest {C = Option Stored} host (OpensMaybe name) None d) → Makes {C = Option Stored} host (OpensMaybe name) None None a d result
prepare_makes {E = E} host name a b d told empty cuts reads writes result after =
    let first : Result Unit E = Ok tt in
    let still = still_empty host name a b first told cuts empty in
    makes_then host (OpensMaybe name) None None a b d first result
    (cut_makes host name a b first told cuts empty (record { opens_as = λ f can. empty_none (f (roots_file name)) (still (f (roots_file name)) (can (roots_file name))) }))
    (blank_makes host name b d result told reads writes still after)

-- the roots file behind its letters was written and synced
pub record Behind {D : Type 0} (host : Ghosts D) (name : List ℕ) (root : Root) (a b : D) : Type 0 where
  pub writes : Writes host (roots_file name) 8 72 a b
  pub inscribed : Leaves host b (roots_file name) (Inscribed root)

module _ {D : Type 0} (host : Ghosts D) (name : List ℕ) (a b : D) (told : IsTrue host.is_told) (reads : host.may_leave a (roots_file name) (host.files a (roots_file name)))
    (blank : Leaves host a (roots_file name) IsBlank) where
  -- as the code names the file and its bytes
  pub behind : (n bytes : List ℕ) (these root : Root) → n ≡ roots_file name → bytes ≡ first_bytes these → Fits these → root ≡ these
      → Writes host n 8 (length bytes) a b → IsWritten 8 bytes (host.files a n) (host.files b n) → IsSynced host n b → Behind host name root a b
  behind n bytes these root is are fits same writes written synced =
      let roots = roots_file name in
      let there = rest_written root (host.files a roots) (host.files b roots) (subst Fits (sym same) fits) (blank (host.files a roots) reads)
      (written_as host name n 8 bytes (first_bytes root) a b is (are ∙ ap first_bytes (sym same)) written) in
      record {
        writes = writes_as host name n 8 (length bytes) 72 a b is (ap length are) writes;
        inscribed = λ y can. subst (Inscribed root) (sym (synced_as host name n b is told synced y can)) there;
      }

  -- and then the letters
  pub first_makes : {R E : Type 0} (c : Stored) (d : D) (result : Result R E) → Behind host name c.root a b → IsFirm host a name c
      → host.may_leave b (roots_file name) (host.files b (roots_file name)) → Writes host (roots_file name) 0 8 b d → OnOk result (IsAtRest {C = Option Stored} host (OpensMaybe name) (Some c) d)
      → Makes {C = Option Stored} host (OpensMaybe name) None (Some c) a d result
  first_makes {E = E} c d result w firm reads_now letters after =
      let first : Result Unit E = Ok tt in
      makes_then host (OpensMaybe name) None (Some c) a b d first result
      (rest_makes host name a b first told reads c.root w.writes blank
      (record { opens_as = λ f can. inscribed_none c.root (f (roots_file name)) (w.inscribed (f (roots_file name)) (can (roots_file name))) }))
      (letters_make host name b d result told reads_now c letters w.inscribed (firm_on host name a b c firm (w.writes.run.others told).fewer) after)

-- what a new root names is firm where its image is
pub first_firm : {D : Type 0} (host : Ghosts D) (name : List ℕ) (a m : D) (n : ℕ) (image : List ℕ) → IsTrue host.is_told → ChangesBoth host (changes_file name 0) (roots_file name) a m
    → Leaves host a (image_file name 0) (Begins n image) → IsFirm host m name (first_stored n image)
first_firm host name a m n image told changes firm = record {
  sound = record { slot = omega arith; base = omega arith; limit = lit≤ tt };
  image = λ x can. firm x (changes.fewer told (image_file name 0) x (image_changes name 0 0) (image_roots name 0) can);
  changes = λ x can. record { long = omega arith; is = take_none (bytes_of x) };
}
  where
    take_none : (xs : List ℕ) → take 0 xs ≡ []
    take_none xs = refl

pub maybe_as : {D R E : Type 0} (host : Ghosts D) (m n : List ℕ) (c : Stored) (a b : D) (result : Result R E) → m ≡ n → Makes {C = Option Stored} host (OpensMaybe m) None (Some c) a b result
    → Makes {C = Option Stored} host (OpensMaybe n) None (Some c) a b result
maybe_as {R = R} {E = E} host m n c a b result same makes = subst (λ (x : List ℕ). Makes {C = Option Stored} {R = R} {E = E} host (OpensMaybe x) None (Some c) a b result) same makes

-- what stands before a store is made, by the name that the code has
pub before_as : {D : Type 0} (host : Ghosts D) (m n : List ℕ) (a : D) (long : ℕ) (image : List ℕ) → m ≡ n
    → Leaves host a (roots_file n) (λ file. bytes_of file ≡ []) → Leaves host a (image_file n 0) (Begins long image)
    → Leaves host a (roots_file m) (λ file. bytes_of file ≡ []) × Leaves host a (image_file m 0) (Begins long image)
before_as host m n a long image same empty firm = (
  subst (λ (y : List ℕ). Leaves host a (roots_file y) (λ file. bytes_of file ≡ [])) (sym same) empty,
  subst (λ (y : List ℕ). Leaves host a (image_file y 0) (Begins long image)) (sym same) firm,
)
