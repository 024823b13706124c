-- What files open as is one answer.
use Rattle.std.proofs.Common.{◌≡◌, ℕ, ◌<◌, List, length, refl, ap, subst, arith}
use Rattle.std.specs.Prelude.{◌⊎◌, None}
use Rattle.st_model.specs.Image.{image_head}
use Rattle.st_model.specs.Limits.{longest_image}
use Rattle.st_model.specs.declared.fault.ImageFault.{ImageFault}
use Rattle.st_host.specs.Files.{Files}
use Rattle.st_host.specs.declared.host.Host.{Ghosts}
use Rattle.st_host.proofs.Joining.{weaker}
use Rattle.st_image.proofs.Begun.{begun}
use Rattle.st_image.proofs.FaultOrder.{determined}
use Rattle.st_store.specs.Names.{roots_file}
use Rattle.st_store.specs.Refusals.{IsWrongRoots, NamesTooMuch}
use Rattle.st_store.specs.Stored.{Stored, Opens}
use Rattle.st_store.specs.declared.fault.StoreFault.TheVariants as unmade
use Rattle.st_store.specs.declared.fault.StorePlace.TheVariants.{Roots, Changes}
use Rattle.st_store.proofs.Determined.{one_place, none_missing, none_opens, opens_there, one_stored}
use Rattle.st_changes.specs.Lists.{RefusesChanges}
use Rattle.st_changes.proofs.Determined.{one_place as one_damage}
use Rattle.st_install.specs.Defining.{installed}
use Rattle.st_recover.specs.Commits.{Commit, OpensAs, stored_of}
use Rattle.st_recover.specs.Openings.{IsReadable, IsFaulty, Reopens, RefusesOpening}
use Rattle.st_recover.specs.Replays.{Replayed, replay}
use Rattle.st_recover.specs.declared.fault.OpenFault.{OpenFault}
use Rattle.st_recover.specs.declared.fault.OpenFault.TheVariants as opening
use Rattle.st_recover.proofs.Determined.{same_commit}
use Rattle.st_session.specs.inside.OneOpening.{Opening, Gives, Refused, IsOfFiles, OpensWith, OneAnswer, OpensGives, RefusedIs, FollowedIs, StaysIs}
use Rattle.st_session.proofs.Commanded.{one_opening, changes_whole}

module _ (name : List ℕ) (f : Files) where
  -- why files aren't opened, by what was looked at
  data Why : OpenFault → Type 0 where
    missing : f (roots_file name) ≡ None → Why (opening.Store unmade.Missing)
    roots : (at : ℕ) → IsWrongRoots (f (roots_file name)) at ⊎ NamesTooMuch name f at → Why (opening.Store (unmade.NotAStore (Roots at)))
    changes : (at : ℕ) (x : Stored) → Opens name x f → IsReadable x.image → RefusesChanges x.changes x.root (unmade.NotAStore (Changes at)) → Why (opening.Store (unmade.NotAStore (Changes at)))
    image : (fault : ImageFault) (x : Stored) → Opens name x f → IsFaulty x.image fault → Why (opening.Image fault)
    large : (x : Stored) → Opens name x f → longest_image < length x.image → Why opening.TooLarge

  why_of : (a : OpenFault) → IsOfFiles a → RefusesOpening name f a → Why a
  why_of (opening.Store unmade.Missing) is why = missing why
  why_of (opening.Store unmade.Exists) is why = absurd is
  why_of (opening.Store (unmade.NotAStore (Roots at))) is why = roots at why
  why_of (opening.Store (unmade.NotAStore (Changes at))) is why = changes at why.0 why.1 why.2 why.3
  why_of (opening.Store unmade.Disk) is why = absurd is
  why_of (opening.Store unmade.OutOfMemory) is why = absurd is
  why_of (opening.Image fault) is why = image fault why.0 why.1 why.2
  why_of opening.TooLarge is why = large why.0 why.1 why.2
  why_of opening.Disk is why = absurd is
  why_of opening.OutOfMemory is why = absurd is

  -- of what two roots name
  faulty_as : (x y : Stored) (fault : ImageFault) → Opens name x f → Opens name y f → IsFaulty y.image fault → IsFaulty x.image fault
  faulty_as x y fault o p h = subst (λ (s : Stored). IsFaulty s.image fault) (one_stored name y x f p o) h

  readable_as : (x y : Stored) → Opens name x f → Opens name y f → IsReadable y.image → IsReadable x.image
  readable_as x y o p h = subst (λ (s : Stored). IsReadable s.image) (one_stored name y x f p o) h

  long_as : (x y : Stored) → Opens name x f → Opens name y f → longest_image < length y.image → longest_image < length x.image
  long_as x y o p h = subst (λ (s : Stored). longest_image < length s.image) (one_stored name y x f p o) h

  damage_as : (x y : Stored) (at : ℕ) → Opens name x f → Opens name y f → RefusesChanges y.changes y.root (unmade.NotAStore (Changes at)) → RefusesChanges x.changes x.root (unmade.NotAStore (Changes at))
  damage_as x y at o p h = subst (λ (s : Stored). RefusesChanges s.changes s.root (unmade.NotAStore (Changes at))) (one_stored name y x f p o) h

  faulty_long : (x : Stored) (fault : ImageFault) → IsFaulty x.image fault → longest_image < length x.image → ⊥
  faulty_long x fault h long = absurd (omega (arith, h.short, long))

  readable_long : (x : Stored) → IsReadable x.image → longest_image < length x.image → ⊥
  readable_long x h long = absurd (omega (arith, h.short, long))

  readable_faulty : (x : Stored) (fault : ImageFault) → IsReadable x.image → IsFaulty x.image fault → ⊥
  readable_faulty x fault h faulty = h.formed fault faulty.fault.fails

  same_why : (a b : OpenFault) → Why a → Why b → a ≡ b
  same_why a b (missing x) (missing y) = refl
  same_why a b (missing x) (roots at y) = absurd (none_missing name f at x y)
  same_why a b (missing x) (changes at s o r y) = absurd (opens_there name f s o x)
  same_why a b (missing x) (image fault s o y) = absurd (opens_there name f s o x)
  same_why a b (missing x) (large s o y) = absurd (opens_there name f s o x)
  same_why a b (roots at x) (missing y) = absurd (none_missing name f at y x)
  same_why a b (roots at x) (roots other y) = ap (λ (n : ℕ). opening.Store (unmade.NotAStore (Roots n))) (one_place name f at other x y)
  same_why a b (roots at x) (changes other s o r y) = absurd (none_opens name f at s o x)
  same_why a b (roots at x) (image fault s o y) = absurd (none_opens name f at s o x)
  same_why a b (roots at x) (large s o y) = absurd (none_opens name f at s o x)
  same_why a b (changes at s o r x) (missing y) = absurd (opens_there name f s o y)
  same_why a b (changes at s o r x) (roots other y) = absurd (none_opens name f other s o y)
  same_why a b (changes at s o r x) (changes other t p q y) = ap (λ (n : ℕ). opening.Store (unmade.NotAStore (Changes n))) (one_damage s.changes s.root at other x (damage_as s t other o p y))
  same_why a b (changes at s o r x) (image fault t p y) = absurd (readable_faulty s fault r (faulty_as s t fault o p y))
  same_why a b (changes at s o r x) (large t p y) = absurd (readable_long s r (long_as s t o p y))
  same_why a b (image fault s o x) (missing y) = absurd (opens_there name f s o y)
  same_why a b (image fault s o x) (roots other y) = absurd (none_opens name f other s o y)
  same_why a b (image fault s o x) (changes other t p q y) = absurd (readable_faulty s fault (readable_as s t o p q) x)
  same_why a b (image fault s o x) (image g t p y) = ap (λ (e : ImageFault). opening.Image e) (determined (image_head s.image) s.image fault g x.fault (faulty_as s t g o p y).fault)
  same_why a b (image fault s o x) (large t p y) = absurd (faulty_long s fault x (long_as s t o p y))
  same_why a b (large s o x) (missing y) = absurd (opens_there name f s o y)
  same_why a b (large s o x) (roots other y) = absurd (none_opens name f other s o y)
  same_why a b (large s o x) (changes other t p q y) = absurd (readable_long s (readable_as s t o p q) x)
  same_why a b (large s o x) (image g t p y) = absurd (faulty_long s g (faulty_as s t g o p y) x)
  same_why a b (large s o x) (large t p y) = refl

  -- a commit that opens isn't refused
  none_why : (c : Commit) (opens : OpensAs name c f) (a : OpenFault) → Why a → ⊥
  none_why c opens a (missing x) = opens_there name f (stored_of opens.slot c) opens.opens x
  none_why c opens a (roots at x) = none_opens name f at (stored_of opens.slot c) opens.opens x
  none_why c opens a (changes at s o r x) = changes_whole name f c opens s at o x
  none_why c opens a (image fault s o x) = readable_faulty (stored_of opens.slot c) fault opens.readable (faulty_as (stored_of opens.slot c) s fault opens.opens o x)
  none_why c opens a (large s o x) = readable_long (stored_of opens.slot c) opens.readable (long_as (stored_of opens.slot c) s opens.opens o x)

  one_of : (a b : Opening) → OpensWith name f a → OpensWith name f b → a ≡ b
  one_of (Gives c r) (Gives d q) x y =
      let one : c ≡ d = same_commit name c d f x.0 y.0 in
      let two : r ≡ q = one_opening installed d r q (subst (λ (k : Commit). Reopens installed k r) one x.1) y.1 in
      λ i. Gives (one i) (two i)
  one_of (Gives c r) (Refused b) x y = absurd (none_why c x.0 b (why_of b y.0 y.1))
  one_of (Refused a) (Gives d q) x y = absurd (none_why d y.0 a (why_of a x.0 x.1))
  one_of (Refused a) (Refused b) x y = ap (λ (e : OpenFault). Refused e) (same_why a b (why_of a x.0 x.1) (why_of b y.0 y.1))

pub one_answer : OneAnswer
one_answer name f a b x y = one_of name f a b x y

pub opens_gives : OpensGives
opens_gives name c f opens =
    let b = begun (image_head c.image) c.image opens.readable.formed in
    (replay installed b.0 (length c.before) c.definitions, (opens, record { readable = opens.readable; births = b.0; begins = b.1; replays = refl }))

module _ {D : Type 0} (host : Ghosts D) where
  pub refused_is : RefusedIs host
  refused_is name old new status at is = (is, at.why)

  pub followed_is : FollowedIs host
  followed_is name script left old new status at = (at.opens, at.reopens)

  pub stays_is : StaysIs host
  stays_is name c old new stays =
      weaker host old new (λ f s. (r : Replayed) × OpensWith name f (Gives c r)) (λ f s. OpensAs name c f) stays.moments (λ f s opens. opens_gives name c f opens)
