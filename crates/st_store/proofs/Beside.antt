-- While a file is changed that a store's root doesn't name, the store stays.
use Rattle.std.proofs.Common.{◌≡◌, ◌≢◌, inl, ℕ, List, Option, IsTrue, sym}
use Rattle.std.specs.Prelude.{◌⊎◌, Result}
use Rattle.st_host.specs.Files.{Files}
use Rattle.st_host.specs.Runs.{Elsewhere, ChangesOneFile, IsAtRest, Makes}
use Rattle.st_host.specs.declared.host.Host.{Ghosts}
use Rattle.st_host.proofs.Joining.{weaker, on_ok}
use Rattle.st_store.specs.Names.{roots_file, changes_file, image_file}
use Rattle.st_store.specs.Stored.{Stored, Opens, IsChosen}

module _ {D : Type 0} (host : Ghosts D) (name : List ℕ) (k : ℕ) (c : Stored) (a b : D) (told : IsTrue host.is_told) (chosen : IsChosen host a name k c)
    (file : List ℕ) (roots : file ≢ roots_file name) (changes : file ≢ changes_file name c.root.slot) (image : file ≢ image_file name c.root.slot) (run : ChangesOneFile host file a b) where
  pub beside_kept : IsChosen host b name k c
  beside_kept =
      let apart = run.others told in
      record {
        which = chosen.which;
        roots = λ x can. chosen.roots x (apart.fewer (roots_file name) x (λ e. roots (sym e)) can);
        firm = record {
          sound = chosen.firm.sound;
          image = λ x can. chosen.firm.image x (apart.fewer (image_file name c.root.slot) x (λ e. image (sym e)) can);
          changes = λ x can. chosen.firm.changes x (apart.fewer (changes_file name c.root.slot) x (λ e. changes (sym e)) can);
        };
      }

  beside_opens : (f : Files) → ((n : List ℕ) → n ≢ file → host.may_leave a n (f n)) → Opens name c f
  beside_opens f others = record {
    number = k;
    chosen = chosen.roots (f (roots_file name)) (others (roots_file name) (λ e. roots (sym e)));
    sound = chosen.firm.sound;
    image = chosen.firm.image (f (image_file name c.root.slot)) (others (image_file name c.root.slot) (λ e. image (sym e)));
    changes = chosen.firm.changes (f (changes_file name c.root.slot)) (others (changes_file name c.root.slot) (λ e. changes (sym e)));
  }

  pub beside_makes : {R E : Type 0} (result : Result R E) → Makes host (Opens name) c c a b result
  beside_makes result =
      let still : (f : Files) → ((n : List ℕ) → host.may_leave b n (f n)) → Opens name c f = λ f can. beside_opens f (λ n other. (run.others told).fewer n (f n) other (can n)) in
      record {
        rest = on_ok result (IsAtRest host (Opens name) c b) (record { opens_as = still });
        either = λ f can. inl (still f can);
        quiet = run.quiet told;
        moments = weaker host a b (λ f s. (s ≡ host.said a) × (Opens name c f ⊎ Opens name c f)) (Elsewhere host file a) (run.moments told) (λ f s so. (so.0, inl (beside_opens f so.1)));
      }
