-- What files open as is determined.
use Rattle.std.proofs.Common.{◌≡◌, inl, inr, ℕ, List, [], ◌∷◌, ◌++◌, length, refl, sym, ap, ◌∙◌, subst, arith, length-append}
use Rattle.std.proofs.Math.Seq.{take-append_seam}
use Rattle.st_host.specs.Files.{Files}
use Rattle.st_host.specs.declared.host.Host.{Ghosts}
use Rattle.st_chunk.specs.Definitions.{Definition, entry, entries}
use Rattle.st_store.specs.Stored.{Stored, Opens, IsOpening}
use Rattle.st_store.proofs.Determined.{one_stored}
use Rattle.st_changes.specs.Lists.{StandsAt, Lists}
use Rattle.st_changes.proofs.Determined.{same_list, lists_back}
use Rattle.st_recover.specs.Commits.{Commit, OpensAs, all_of, stored_of}
use Rattle.st_recover.specs.Openings.{OpensAmong}

-- the same definitions are cut in two at the same place where what stands before it is as long
pub one_cut : (a b x y : List Definition) → a ++ x ≡ b ++ y → length (entries a) ≡ length (entries b) → (a ≡ b) × (x ≡ y)
one_cut [] [] x y all long = (refl, all)
one_cut [] (d ∷ b) x y all long = absurd (omega (arith, long, length-append (entry d) (entries b)))
one_cut (d ∷ a) [] x y all long = absurd (omega (arith, long, length-append (entry d) (entries a)))
one_cut (d ∷ a) (e ∷ b) x y all long =
    let first : d ≡ e = cc in
    let rest : a ++ x ≡ b ++ y = cc in
    let same = ap (λ (z : Definition). length (entry z)) first in
    let more = one_cut a b x y rest (omega (arith, long, same, length-append (entry d) (entries a), length-append (entry e) (entries b))) in
    ((λ i. first i ∷ more.0 i), more.1)

pub stands : (c : Commit) → StandsAt (all_of c) (length (entries c.before))
stands c = record {
  count = length c.before;
  within = omega (arith, length-append c.before c.definitions);
  is = ap (λ (ds : List Definition). length (entries ds)) (sym (take-append_seam c.before c.definitions));
}

pub same_commit : (name : List ℕ) (c d : Commit) (f : Files) → OpensAs name c f → OpensAs name d f → c ≡ d
same_commit name c d f x y =
    let stored : stored_of x.slot c ≡ stored_of y.slot d = one_stored name (stored_of x.slot c) (stored_of y.slot d) f x.opens y.opens in
    let image : c.image ≡ d.image = ap (λ (s : Stored). s.image) stored in
    let base : length (entries c.before) ≡ length (entries d.before) = ap (λ (s : Stored). s.root.base) stored in
    let bytes : entries (all_of c) ≡ entries (all_of d) = ap (λ (s : Stored). s.changes) stored in
    let first : Lists (entries (all_of c)) (length (entries c.before)) (all_of c) = lists_back (all_of c) (length (entries c.before)) x.good (stands c) in
    let second : Lists (entries (all_of d)) (length (entries d.before)) (all_of d) = lists_back (all_of d) (length (entries d.before)) y.good (stands d) in
    let moved : Lists (entries (all_of c)) (length (entries c.before)) (all_of d) =
    subst (λ n. Lists (entries (all_of c)) n (all_of d)) (sym base) (subst (λ (t : List ℕ). Lists t (length (entries d.before)) (all_of d)) (sym bytes) second) in
    let all : all_of c ≡ all_of d = same_list (entries (all_of c)) (length (entries c.before)) (all_of c) (all_of d) first moved in
    let parts = one_cut c.before d.before c.definitions d.definitions all base in
    λ i. record { image = image i; before = parts.0 i; definitions = parts.1 i }

-- what opens as what was read opens as the commit that was read
pub opens_as_read : (name : List ℕ) (c : Commit) (x : Stored) (f g : Files) → OpensAs name c g → Opens name x g → Opens name x f → OpensAs name c f
opens_as_read name c x f g was read now = record {
  slot = was.slot;
  opens = subst (λ (s : Stored). Opens name s f) (one_stored name x (stored_of was.slot c) g read was.opens) now;
  readable = was.readable;
  good = was.good;
}

-- what could be left, and what opens as what was read, opens as one of the commits
pub kept_opening : {D : Type 0} (host : Ghosts D) (name : List ℕ) (commits : List Commit) (old : D) → ((n : List ℕ) → host.may_leave old n (host.files old n))
    → ((f : Files) → ((n : List ℕ) → host.may_leave old n (f n)) → OpensAmong name commits f) → (f : Files) → IsOpening host old name f → OpensAmong name commits f
kept_opening host name commits old reads among f (inl can) = among f can
kept_opening host name commits old reads among f (inr at) =
    let was = among (host.files old) reads in
    record { number = was.number; commit = was.commit; is_of = was.is_of; opens_as = opens_as_read name was.commit at.is f (host.files old) was.opens_as at.read at.now }
