-- What a stop leaves while an image is written beside the one that a store has.
use Rattle.std.proofs.Common.{◌≡◌, ◌≢◌, ℕ, zero, suc, ◌+◌, ◌%◌, ◌≤◌, List, length, codes, get_or, Option, IsTrue, refl, sym, subst, ap, ◌∙◌, arith}
use Rattle.std.specs.Prelude.{Some, Result, nat_lt}
use Rattle.std.proofs.lemmas.Bool.{lt-ltb}
use Rattle.std.proofs.lemmas.List.{append-nil, append_cancel_left, take_all}
use Rattle.st_host.specs.Runs.{ChangesOneFile, WritesAbove, IsSynced, Makes}
use Rattle.st_host.specs.declared.host.Host.{Ghosts}
use Rattle.st_host.proofs.Touching.{above_changes}
use Rattle.st_chunk.specs.Definitions.{entries}
use Rattle.st_store.specs.Names.{roots_file, changes_file, image_file}
use Rattle.st_store.specs.Stored.{StoreState, Stored, Begins, Opens, IsFirm, IsKept}
use Rattle.st_store.proofs.Beside.{beside_kept, beside_makes}
use Rattle.st_store.proofs.Others.{image_roots, image_changes}
use Rattle.st_recover.specs.Commits.{Commit, all_of, imaged, stored_of, other_image}

letters_differ : codes ".a" ≢ codes ".b"
letters_differ same = let e : 97 ≡ 98 = ap (λ (x : List ℕ). get_or x 1 0) same in absurd (omega (arith, e))

-- the two image files have different names
pub images_differ : (name : List ℕ) (slot : ℕ) → image_file name (other_image slot) ≢ image_file name slot
images_differ name zero same = letters_differ (sym (append_cancel_left name (codes ".b") (codes ".a") same))
images_differ name (suc zero) same = letters_differ (append_cancel_left name (codes ".a") (codes ".b") same)
images_differ name (suc (suc n)) same = images_differ name n same

-- with the other image file stands the same changes file
pub same_changes : (name : List ℕ) (slot : ℕ) → changes_file name (other_image slot) ≡ changes_file name slot
same_changes name zero = refl
same_changes name (suc zero) = refl
same_changes name (suc (suc n)) = refl

pub same_pair : (slot : ℕ) → nat_lt 1 (other_image slot) ≡ nat_lt 1 slot
same_pair zero = refl
same_pair (suc zero) = refl
same_pair (suc (suc n)) = lt-ltb 1 (suc (suc (other_image n))) (omega arith) ∙ sym (lt-ltb 1 (suc (suc n)) (omega arith))

one_of_four : (slot : ℕ) → slot ≤ 3 → other_image slot ≤ 3
one_of_four zero low = omega arith
one_of_four (suc zero) low = omega arith
one_of_four (suc (suc zero)) low = omega arith
one_of_four (suc (suc (suc zero))) low = omega arith
one_of_four (suc (suc (suc (suc n)))) low = absurd (omega (arith, low))

-- the lowest bit is turned
pub turned_up : (slot : ℕ) → slot % 2 ≡ 0 → other_image slot ≡ slot + 1
turned_up zero even = refl
turned_up (suc zero) even = absurd (omega (arith, even))
turned_up (suc (suc n)) even = let e = turned_up n (omega (arith, even)) in omega (arith, e)

pub turned_down : (slot : ℕ) → slot % 2 ≢ 0 → other_image slot + 1 ≡ slot
turned_down zero odd = absurd (odd refl)
turned_down (suc zero) odd = refl
turned_down (suc (suc n)) odd = let e = turned_down n (λ even. odd (omega (arith, even))) in omega (arith, e)

pub whole : (image : List ℕ) → Begins (length image) image (Some image)
whole image = record { long = omega arith; is = take_all (length image) image (omega arith) }

-- an image is written to the file that the store doesn't have
module _ {D : Type 0} (host : Ghosts D) (st : StoreState) (slot : ℕ) (c : Commit) (a b : D) (told : IsTrue host.is_told) (kept : IsKept host a st (stored_of slot c))
    (file : List ℕ) (is : file ≡ image_file st.name (other_image slot)) (writes : WritesAbove host 0 file a b) where
  other : List ℕ
  other = image_file st.name (other_image slot)

  run : ChangesOneFile host (image_file st.name (other_image slot)) a b
  run = subst (λ (n : List ℕ). ChangesOneFile host n a b) is (above_changes host file 0 a b writes)

  pub still_kept : IsKept host b st (stored_of slot c)
  still_kept = record {
    root = kept.root;
    is = beside_kept host st.name st.chosen (stored_of slot c) a b told kept.is (image_file st.name (other_image slot)) (image_roots st.name (other_image slot)) (image_changes st.name (other_image slot) slot)
        (images_differ st.name slot) run;
  }

  pub written_makes : {R E : Type 0} (result : Result R E) → Makes host (Opens st.name) (stored_of slot c) (stored_of slot c) a b result
  written_makes result = beside_makes host st.name st.chosen (stored_of slot c) a b told kept.is (image_file st.name (other_image slot)) (image_roots st.name (other_image slot)) (image_changes st.name (other_image slot) slot)
      (images_differ st.name slot) run result

  -- and once it is synced, the other slot is firm
  pub image_firm : (image : List ℕ) → host.files b file ≡ Some image → IsSynced host file b → IsFirm host b st.name (stored_of (other_image slot) (imaged c image))
  image_firm image reads synced =
      let same : entries (all_of (imaged c image)) ≡ entries (all_of c) = ap entries (append-nil (all_of c)) in
      let long : length (entries (all_of (imaged c image))) ≡ length (entries (all_of c)) = ap length same in
      let limit = still_kept.is.firm.sound.limit in
      record {
        sound = record { slot = one_of_four slot still_kept.is.firm.sound.slot; base = omega (arith, long); limit = omega (arith, long, limit) };
        image = λ x can. subst (λ (y : Option (List ℕ)). Begins (length image) image y) (sym (synced.is told x (subst (λ (n : List ℕ). host.may_leave b n x) (sym is) can) ∙ reads)) (whole image);
        changes = λ x can. subst (λ (bytes : List ℕ). Begins (length bytes) bytes x) (sym same) (still_kept.is.firm.changes x (subst (λ (n : List ℕ). host.may_leave b n x) (same_changes st.name slot) can));
      }
