-- What a stop leaves while the other root and the gate are written.
use Rattle.std.proofs.Common.{◌≡◌, ◌≢◌, ◌⊎◌, inl, inr, ⊎_elim, ℕ, zero, suc, ◌+◌, ◌-◌, ◌%◌, ◌<◌, ◌≤◌, List, [], ◌∷◌, length, slice_index, Option, IsTrue, refl, sym, subst, ◌∙◌, ap, arith, lit<}
use Rattle.std.specs.Prelude.{Result, OnOk}
use Rattle.std.proofs.Math.Nat.{mod-eq_of_lt, mod-lt}
use Rattle.st_host.specs.Files.{Files, bytes_of, IsWritten}
use Rattle.st_host.specs.Stops.{Apart, Comes, comes, TornByWrite}
use Rattle.st_host.specs.Runs.{Touched, Writes, IsSynced, IsAtRest, Makes}
use Rattle.st_host.specs.declared.host.Host.{Ghosts}
use Rattle.st_host.proofs.Joining.{weaker}
use Rattle.st_store.specs.Names.{roots_file, changes_file, image_file}
use Rattle.st_store.specs.Roots.{place, root_at, root_bytes, IsWhole, Chooses, Fits}
use Rattle.st_store.specs.Stored.{Stored, StoreState, Opens, Leaves, IsFirm, IsChosen, IsKept, IsStaged, IsReady}
use Rattle.st_store.specs.declared.root.Root.{Root}
use Rattle.st_store.proofs.Bytes.{root_same, root_written}
use Rattle.st_store.proofs.Others.{changes_roots, image_roots}

-- one root chosen, and the other there too
pub record Both (k : ℕ) (old new : Root) (file : Option (List ℕ)) : Type 0 where
  pub chosen : Chooses k old file
  pub other : root_at (place (1 - k)) (bytes_of file) ≡ new

-- the places of the two roots are apart
out_of : (k i : ℕ) → k ≤ 1 → place k ≤ i → i < place k + 32 → (i < place (1 - k)) ⊎ (place (1 - k) + 32 ≤ i)
out_of zero i one low high = inl (omega arith)
out_of (suc zero) i one low high = inr (omega arith)
out_of (suc (suc k)) i one low high = absurd (omega arith)

either : (k low : ℕ) → k ≤ 1 → low < 2 → (low ≡ k) ⊎ (low ≡ 1 - k)
either zero zero one low = inl refl
either zero (suc zero) one low = inr refl
either (suc zero) zero one low = inr refl
either (suc zero) (suc zero) one low = inl refl
either (suc (suc k)) n one low = absurd (omega arith)
either k (suc (suc n)) one low = absurd (omega arith)

module _ (k : ℕ) (one : k ≤ 1) (old new : Root) where
  -- a write of the other root leaves the chosen one
  pub other_torn : (file d c : Option (List ℕ)) → 80 ≤ length (bytes_of file) → Chooses k old d → TornByWrite file (place (1 - k)) 32 d c → Chooses k old c
  other_torn file d c long was torn =
      let is_long : 80 ≤ length (bytes_of c) = omega (arith, torn.shortest, was.whole.long) in
      let same : (i : ℕ) → i < 80 → (i < place (1 - k)) ⊎ (place (1 - k) + 32 ≤ i) → slice_index (bytes_of c) i ≡ slice_index (bytes_of d) i =
      λ i low out. torn.same i (omega arith) (omega (arith, was.whole.long)) (omega arith) out in
      record {
        whole = record { long = is_long; letters = λ i low. same i (omega arith) (inl (omega arith)) ∙ was.whole.letters i low };
        gate = ap (λ (x : ℕ). x % 2) (same 8 (omega arith) (inl (omega arith))) ∙ was.gate;
        names = root_same (place k) (bytes_of c) (bytes_of d) (λ i l u. same i (omega arith) (out_of k i one l u)) ∙ was.names;
      }

  -- once it is there, both stand
  pub other_written : (was now : Option (List ℕ)) → Fits new → Chooses k old was → IsWritten (place (1 - k)) (root_bytes new) was now → Both k old new now
  other_written was now fits chosen written =
      let is_long : 80 ≤ length (bytes_of now) = omega (arith, written.long, chosen.whole.long) in
      let same : (i : ℕ) → (i < place (1 - k)) ⊎ (place (1 - k) + 32 ≤ i) → slice_index (bytes_of now) i ≡ slice_index (bytes_of was) i = λ i out. written.outside i out in
      record {
        chosen = record {
          whole = record { long = is_long; letters = λ i low. same i (inl (omega arith)) ∙ chosen.whole.letters i low };
          gate = ap (λ (x : ℕ). x % 2) (same 8 (inl (omega arith))) ∙ chosen.gate;
          names = root_same (place k) (bytes_of now) (bytes_of was) (λ i l u. same i (out_of k i one l u)) ∙ chosen.names;
        };
        other = root_written (place (1 - k)) new was now fits written;
      }

  -- a write of the gate leaves either
  pub gate_torn : (file d c : Option (List ℕ)) → 80 ≤ length (bytes_of file) → Both k old new d → TornByWrite file 8 1 d c → (j : ℕ) × (Chooses j old c ⊎ Chooses j new c)
  gate_torn file d c long both torn =
      let was = both.chosen in
      let is_long : 80 ≤ length (bytes_of c) = omega (arith, torn.shortest, was.whole.long) in
      let same : (i : ℕ) → i < 80 → (i < 8) ⊎ (8 + 1 ≤ i) → slice_index (bytes_of c) i ≡ slice_index (bytes_of d) i =
      λ i low out. torn.same i (omega arith) (omega (arith, was.whole.long)) (omega arith) out in
      let whole : IsWhole c = record { long = is_long; letters = λ i low. same i (omega arith) (inl low) ∙ was.whole.letters i low } in
      let names : (j : ℕ) → j ≤ 1 → root_at (place j) (bytes_of c) ≡ root_at (place j) (bytes_of d) =
      λ j le. root_same (place j) (bytes_of c) (bytes_of d) (λ i l u. same i (omega arith) (inr (omega arith))) in
      ⊎_elim
      (λ is. (k, inl (record { whole = whole; gate = is; names = names k one ∙ was.names })))
      (λ is. (1 - k, inr (record { whole = whole; gate = is; names = names (1 - k) (omega arith) ∙ both.other })))
      (either k (slice_index (bytes_of c) 8 % 2) one (mod-lt (slice_index (bytes_of c) 8) (lit< tt)))

-- once the gate is written, it chooses the root that stands there
pub gate_written : (j : ℕ) (root : Root) (was now : Option (List ℕ)) → j ≤ 1 → IsWhole was → root_at (place j) (bytes_of was) ≡ root → IsWritten 8 (j ∷ []) was now → Chooses j root now
gate_written j root was now one whole names written =
    let same : (i : ℕ) → (i < 8) ⊎ (8 + 1 ≤ i) → slice_index (bytes_of now) i ≡ slice_index (bytes_of was) i = λ i out. written.outside i out in
    let gate : slice_index (bytes_of now) 8 ≡ j = written.inside 0 (lit< tt) in
    record {
      whole = record { long = omega (arith, written.long, whole.long); letters = λ i low. same i (inl low) ∙ whole.letters i low };
      gate = ap (λ (x : ℕ). x % 2) gate ∙ mod-eq_of_lt (omega arith);
      names = root_same (place j) (bytes_of now) (bytes_of was) (λ i l u. same i (inr (omega arith))) ∙ names;
    }

-- what comes by a step from a state that has P has Q
pub came : (could : Option (List ℕ) → Type 0) (step : Option (List ℕ) → Option (List ℕ) → Type 0) (Q : Option (List ℕ) → Type 0) (c : Option (List ℕ))
    → ((d : Option (List ℕ)) → could d → step d c → Q c) → Comes step could c → Q c
came could step Q c holds (comes d was goes) = holds d was goes

module _ {D : Type 0} (host : Ghosts D) (name : List ℕ) where
  -- what a root names lies in other files than the roots
  pub opens_as : (a : D) (c : Stored) (f : Files) (j : ℕ) → IsFirm host a name c → ((n : List ℕ) → n ≢ roots_file name → host.may_leave a n (f n)) → Chooses j c.root (f (roots_file name)) → Opens name c f
  opens_as a c f j firm others chooses = record {
    number = j;
    chosen = chooses;
    sound = firm.sound;
    image = firm.image (f (image_file name c.root.slot)) (others (image_file name c.root.slot) (image_roots name c.root.slot));
    changes = firm.changes (f (changes_file name c.root.slot)) (others (changes_file name c.root.slot) (changes_roots name c.root.slot));
  }

  pub firm_on : (a b : D) (c : Stored) → IsFirm host a name c → ((n : List ℕ) (x : Option (List ℕ)) → n ≢ roots_file name → host.may_leave b n x → host.may_leave a n x) → IsFirm host b name c
  firm_on a b c firm fewer = record {
    sound = firm.sound;
    image = λ x can. firm.image x (fewer (image_file name c.root.slot) x (image_roots name c.root.slot) can);
    changes = λ x can. firm.changes x (fewer (changes_file name c.root.slot) x (changes_roots name c.root.slot) can);
  }

  -- in each state that a stop may leave a store that is at rest opens as it
  pub rests : (a : D) (k : ℕ) (c : Stored) (f : Files) → IsChosen host a name k c → ((n : List ℕ) → host.may_leave a n (f n)) → Opens name c f
  rests a k c f chosen can = opens_as a c f k chosen.firm (λ n other. can n) (chosen.roots (f (roots_file name)) (can (roots_file name)))

  -- A write to the roots file, after which every state that a stop may leave of it has Q, where this says how the files open.
  module _ {C R E : Type 0} (opens : C → Files → Type 0) (x y : C) (at n : ℕ) (a b : D) (result : Result R E) (told : IsTrue host.is_told)
      (writes : Writes host (roots_file name) at n a b)
      (opening : (f : Files) → ((m : List ℕ) → m ≢ roots_file name → host.may_leave a m (f m)) → Comes (TornByWrite (host.files a (roots_file name)) at n) (host.may_leave a (roots_file name)) (f (roots_file name)) → opens x f ⊎ opens y f)
      (after : OnOk result (IsAtRest host opens y b)) where
    pub write_makes : Makes host opens x y a b result
    write_makes = record {
      rest = after;
      either = λ f can. opening f (λ m other. (writes.run.others told).fewer m (f m) other (can m)) (writes.run.own told (f (roots_file name)) (can (roots_file name)));
      quiet = writes.run.quiet told;
      moments = weaker host a b (λ f s. (s ≡ host.said a) × (opens x f ⊎ opens y f)) (Touched host (TornByWrite (host.files a (roots_file name)) at n) (roots_file name) a) (writes.run.moments told)
          (λ f s so. (so.quiet, opening f so.others so.own));
    }

  module _ (k : ℕ) (c d : Stored) (a b : D) where
    -- in the first step the old root stays
    pub staging_opens : IsChosen host a name k c → host.may_leave a (roots_file name) (host.files a (roots_file name)) → (f : Files)
        → ((m : List ℕ) → m ≢ roots_file name → host.may_leave a m (f m)) → Comes (TornByWrite (host.files a (roots_file name)) (place (1 - k)) 32) (host.may_leave a (roots_file name)) (f (roots_file name))
        → Opens name c f
    staging_opens chosen reads f others own =
        let roots = roots_file name in
        let long = (chosen.roots (host.files a roots) reads).whole.long in
        opens_as a c f k chosen.firm others
        (came (host.may_leave a roots) (TornByWrite (host.files a roots) (place (1 - k)) 32) (Chooses k c.root) (f roots)
        (λ x could torn. other_torn k chosen.which c.root d.root (host.files a roots) x (f roots) long (chosen.roots x could) torn) own)

    pub staged : IsChosen host a name k c → IsFirm host a name d → host.may_leave a (roots_file name) (host.files a (roots_file name)) → Fits d.root
        → Apart (roots_file name) (host.files a) (host.files b) (host.may_leave a) (host.may_leave b)
        → IsWritten (place (1 - k)) (root_bytes d.root) (host.files a (roots_file name)) (host.files b (roots_file name))
        → Leaves host b (roots_file name) (λ x. x ≡ host.files b (roots_file name)) → IsStaged host b name k c d
    staged chosen firm reads fits apart written synced =
        let roots = roots_file name in
        let both = other_written k chosen.which c.root d.root (host.files a roots) (host.files b roots) fits (chosen.roots (host.files a roots) reads) written in
        record {
          chosen = record {
            which = chosen.which;
            roots = λ x can. subst (λ (y : Option (List ℕ)). Chooses k c.root y) (sym (synced x can)) both.chosen;
            firm = firm_on a b c chosen.firm apart.fewer;
          };
          other = λ x can. ap (λ (y : Option (List ℕ)). root_at (place (1 - k)) (bytes_of y)) (synced x can) ∙ both.other;
          firm = firm_on a b d firm apart.fewer;
        }

    -- in the second step either stands
    pub turning_opens : IsStaged host a name k c d → host.may_leave a (roots_file name) (host.files a (roots_file name)) → (f : Files)
        → ((m : List ℕ) → m ≢ roots_file name → host.may_leave a m (f m)) → Comes (TornByWrite (host.files a (roots_file name)) 8 1) (host.may_leave a (roots_file name)) (f (roots_file name))
        → Opens name c f ⊎ Opens name d f
    turning_opens st reads f others own =
        let roots = roots_file name in
        let chosen = st.chosen in
        let long = (chosen.roots (host.files a roots) reads).whole.long in
        let one = came (host.may_leave a roots) (TornByWrite (host.files a roots) 8 1) (λ x. (j : ℕ) × (Chooses j c.root x ⊎ Chooses j d.root x)) (f roots)
        (λ x could torn. gate_torn k chosen.which c.root d.root (host.files a roots) x (f roots) long (record { chosen = chosen.roots x could; other = st.other x could }) torn) own in
        ⊎_elim
        (λ was. inl (opens_as a c f one.0 chosen.firm others was))
        (λ is. inr (opens_as a d f one.0 st.firm others is))
        one.1

    -- whichever stands, it names what is firm
    pub turning_ready : IsTrue host.is_told → Writes host (roots_file name) 8 1 a b → IsStaged host a name k c d → host.may_leave a (roots_file name) (host.files a (roots_file name)) → IsReady host b name
    turning_ready told writes st reads x can letters =
        let roots = roots_file name in
        let chosen = st.chosen in
        let long = (chosen.roots (host.files a roots) reads).whole.long in
        let fewer = (writes.run.others told).fewer in
        let one = came (host.may_leave a roots) (TornByWrite (host.files a roots) 8 1) (λ y. (j : ℕ) × (Chooses j c.root y ⊎ Chooses j d.root y)) x
        (λ y could torn. gate_torn k chosen.which c.root d.root (host.files a roots) y x long (record { chosen = chosen.roots y could; other = st.other y could }) torn)
        (writes.run.own told x can) in
        ⊎_elim
        (λ was. (one.0, c, was, firm_on a b c chosen.firm fewer))
        (λ is. (one.0, d, is, firm_on a b d st.firm fewer))
        one.1

    -- once the gate is written and synced
    pub turned : (j : ℕ) (e : Stored) → j ≤ 1 → IsStaged host a name k c d → host.may_leave a (roots_file name) (host.files a (roots_file name))
        → IsFirm host a name e → root_at (place j) (bytes_of (host.files a (roots_file name))) ≡ e.root
        → Apart (roots_file name) (host.files a) (host.files b) (host.may_leave a) (host.may_leave b)
        → IsWritten 8 (j ∷ []) (host.files a (roots_file name)) (host.files b (roots_file name))
        → Leaves host b (roots_file name) (λ x. x ≡ host.files b (roots_file name)) → IsChosen host b name j e
    turned j e one st reads firm there apart written synced =
        let roots = roots_file name in
        let whole = (st.chosen.roots (host.files a roots) reads).whole in
        record {
          which = one;
          roots = λ x can. subst (λ (y : Option (List ℕ)). Chooses j e.root y) (sym (synced x can)) (gate_written j e.root (host.files a roots) (host.files b roots) one whole there written);
          firm = firm_on a b e firm apart.fewer;
        }

  -- a file beside the roots file that was synced stays so
  pub synced_beside : (n : List ℕ) (a b : D) → n ≢ roots_file name → (IsTrue host.is_told → Apart (roots_file name) (host.files a) (host.files b) (host.may_leave a) (host.may_leave b))
      → IsSynced host n a → IsSynced host n b
  synced_beside n a b other apart synced = record { is = λ told x can. synced.is told x ((apart told).fewer n x other can) ∙ sym ((apart told).files n other) }

  -- the same facts, by the name and the number of bytes that the code has
  pub writes_as : (n : List ℕ) (at k l : ℕ) (a b : D) → n ≡ roots_file name → k ≡ l → Writes host n at k a b → Writes host (roots_file name) at l a b
  writes_as n at k l a b is long writes = subst (λ (x : ℕ). Writes host (roots_file name) at x a b) long (subst (λ (x : List ℕ). Writes host x at k a b) is writes)

  pub written_as : (n : List ℕ) (at : ℕ) (bytes these : List ℕ) (a b : D) → n ≡ roots_file name → bytes ≡ these → IsWritten at bytes (host.files a n) (host.files b n)
      → IsWritten at these (host.files a (roots_file name)) (host.files b (roots_file name))
  written_as n at bytes these a b is are written =
      subst (λ (x : List ℕ). IsWritten at x (host.files a (roots_file name)) (host.files b (roots_file name))) are (subst (λ (x : List ℕ). IsWritten at bytes (host.files a x) (host.files b x)) is written)

  pub synced_as : (n : List ℕ) (b : D) → n ≡ roots_file name → IsTrue host.is_told → IsSynced host n b → Leaves host b (roots_file name) (λ x. x ≡ host.files b (roots_file name))
  synced_as n b is told synced = subst (λ (x : List ℕ). Leaves host b x (λ c. c ≡ host.files b x)) is (synced.is told)

  -- the gate was written and synced, as the code names the file
  pub gate_turned : (n : List ℕ) (k : ℕ) (c d e : Stored) (a b : D) (j : ℕ) → n ≡ roots_file name → j ≤ 1 → IsTrue host.is_told → host.may_leave a (roots_file name) (host.files a (roots_file name))
      → Writes host n 8 1 a b → IsWritten 8 (j ∷ []) (host.files a n) (host.files b n) → IsSynced host n b
      → IsStaged host a name k c d → IsFirm host a name e → root_at (place j) (bytes_of (host.files a (roots_file name))) ≡ e.root → IsChosen host b name j e
  gate_turned n k c d e a b j is one told reads writes written synced st firm there = turned k c d a b j e one st reads firm there
      ((writes_as n 8 1 1 a b is refl writes).run.others told) (written_as n 8 (j ∷ []) (j ∷ []) a b is refl written) (synced_as n b is told synced)

  module _ {R E : Type 0} (c d : Stored) (a b : D) (result : Result R E) (told : IsTrue host.is_told) (reads : host.may_leave a (roots_file name) (host.files a (roots_file name))) where
    pub staging : (k : ℕ) → IsChosen host a name k c → Writes host (roots_file name) (place (1 - k)) 32 a b → OnOk result (IsAtRest host (Opens name) c b) → Makes host (Opens name) c c a b result
    staging k chosen writes after = write_makes (Opens name) c c (place (1 - k)) 32 a b result told writes
        (λ f others own. inl (staging_opens k c d a b chosen reads f others own)) after

    pub turning : (k : ℕ) → IsStaged host a name k c d → Writes host (roots_file name) 8 1 a b → OnOk result (IsAtRest host (Opens name) d b) → Makes host (Opens name) c d a b result
    turning k st writes after = write_makes (Opens name) c d 8 1 a b result told writes
        (λ f others own. turning_opens k c d a b st reads f others own) after

pub makes_as : {D R E : Type 0} (host : Ghosts D) (m n : List ℕ) (c d : Stored) (a b : D) (result : Result R E) → m ≡ n → Makes host (Opens m) c d a b result → Makes host (Opens n) c d a b result
makes_as {R = R} {E = E} host m n c d a b result same makes = subst (λ (x : List ℕ). Makes {R = R} {E = E} host (Opens x) c d a b result) same makes

-- a store at rest and what a root names, as the code has the store
pub viewed : {D : Type 0} (host : Ghosts D) (a : D) (s t : StoreState) (c d : Stored) → s ≡ t → IsKept host a t c → IsFirm host a t.name d
    → IsChosen host a s.name s.chosen c × IsFirm host a s.name d
viewed host a s t c d same kept firm = (
  subst (λ (v : StoreState). IsChosen host a v.name v.chosen c) (sym same) kept.is,
  subst (λ (v : StoreState). IsFirm host a v.name d) (sym same) firm,
)
