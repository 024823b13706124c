-- Calls that say a text follow each other.
use Rattle.std.proofs.Common.{◌≡◌, ℕ, List, [], ◌++◌, ◌∙◌, IsTrue, refl, sym, subst, inl, arith}
use Rattle.std.proofs.Math.Seq.{take-append_seam}
use Rattle.st_host.specs.Files.{Files}
use Rattle.st_host.specs.Stops.{Here, SaidPart, WhileSaying}
use Rattle.st_host.specs.Runs.{SaysAll}
use Rattle.st_host.specs.inside.Telling.{Says}
use Rattle.st_host.specs.declared.host.Host.{Ghosts}
use Rattle.st_host.proofs.Joining.{alike_join, says_join, says_more}

-- what the law of a host says of this moment
abbrev pub OnlyNow : {D : Type 0} → Ghosts D → D → Type 0
OnlyNow host h = (f : Files) (s : List ℕ) → IsTrue host.is_told → host.left_since h (host.moment h) f s → Here (host.may_leave h) (host.said h) f s

pub none_said : (said : List ℕ) → SaidPart said [] said
none_said said = record {
  least = omega arith;
  begins = take-append_seam said [];
}

module _ {D : Type 0} {host : Ghosts D} where
  -- the first was said in part, and so the second was never begun
  pub says_begun : {t a : List ℕ} (b : List ℕ) {old new : D} → Says host a old new → t ≡ a ++ b → Says host t old new
  says_begun {a = a} b {old = old} {new = new} first e = rw e (record {
    part = says_more host a b old new first.part;
    alike = first.alike;
    disk_count = first.disk_count;
  })

  pub says_then : {t a b : List ℕ} {old mid new : D} → Says host a old mid → SaysAll host a old mid → Says host b mid new → t ≡ a ++ b → Says host t old new
  says_then {a = a} {b = b} {old = old} {mid = mid} {new = new} first all second e = rw e (record {
    part = says_join host a b old mid new first.part all second.part;
    alike = alike_join host old mid new first.alike second.alike;
    disk_count = second.disk_count ∙ first.disk_count;
  })

  -- no call
  pub says_none : {old : D} → OnlyNow host old → Says host [] old old
  says_none {old = old} only_now = record {
    part = record {
      disk = omega arith;
      say = omega arith;
      alike = λ calm. record { same = λ told n. refl };
      part = λ told. none_said (host.said old);
      stops = λ told. record { fewer = λ n c can. can; more = λ n c could. could };
      moments = λ told. record {
        later = omega arith;
        each = λ f s left. here f s (only_now f s told left);
        before = λ t f s le left. inl left;
      };
    };
    alike = record { same = λ told n. refl };
    disk_count = refl;
  }
    where
      here : (f : Files) (s : List ℕ) → Here (host.may_leave old) (host.said old) f s → WhileSaying (host.may_leave old) (host.said old) [] f s
      here f s now = (now.0, subst (λ x. SaidPart (host.said old) [] x) (sym now.1) (none_said (host.said old)))
