-- The registers are SmallIntegers or live, since they are held.
use Rattle.std.proofs.Common.{◌≡◌, ℕ, sym, subst}
use Rattle.st_model.specs.declared.place.RootPlace.TheVariants as place
use Rattle.st_model.specs.Values.{Value, Ref, value, value_of}
use Rattle.st_model.specs.Objects.{place_of}
use Rattle.st_model.specs.declared.page.PageObject.{PageObject}
use Rattle.st_model.specs.declared.page.PageObject.TheVariants.{NilObject, FalseObject, TrueObject, SchedulerAssociation}
use Rattle.st_model.proofs.Words.{value_of-nil, value_of-false, value_of-true, value_of-scheduler}
use Rattle.st_model.specs.View.{View, IsKnown, IsWhole}
use Rattle.st_frames.specs.declared.frame.Frame.{Frame}
use Rattle.st_frames.specs.inside.Shown.{IsFrame}

pub known_active : {v : View} {f : Frame} → IsWhole v → IsFrame v f → IsKnown v.objects (value f.active)
known_active {v} {f} whole frame = subst (λ (x : Value). IsKnown v.objects x) (sym frame.active) (whole.held place.Active)

pub known_home : {v : View} {f : Frame} → IsWhole v → IsFrame v f → IsKnown v.objects (value f.home)
known_home {v} {f} whole frame = subst (λ (x : Value). IsKnown v.objects x) (sym frame.home) (whole.held place.Home)

pub known_method : {v : View} {f : Frame} → IsWhole v → IsFrame v f → IsKnown v.objects (value f.method)
known_method {v} {f} whole frame = subst (λ (x : Value). IsKnown v.objects x) (sym frame.method) (whole.held place.Method)

pub known_receiver : {v : View} {f : Frame} → IsWhole v → IsFrame v f → IsKnown v.objects (value f.receiver)
known_receiver {v} {f} whole frame = subst (λ (x : Value). IsKnown v.objects x) (sym frame.receiver) (whole.held place.Receiver)

known_page : (v : View) (w : ℕ) (q : PageObject) → IsWhole v → value_of w ≡ Ref (place_of q) → IsKnown v.objects (value_of w)
known_page v w q whole e = subst (λ (x : Value). IsKnown v.objects x) (sym e) (λ big. whole.complete.page q)

pub known_nil : {v : View} → IsWhole v → IsKnown v.objects (value_of 2)
known_nil {v} whole = known_page v 2 NilObject whole value_of-nil

pub known_false : {v : View} → IsWhole v → IsKnown v.objects (value_of 4)
known_false {v} whole = known_page v 4 FalseObject whole value_of-false

pub known_true : {v : View} → IsWhole v → IsKnown v.objects (value_of 6)
known_true {v} whole = known_page v 6 TrueObject whole value_of-true

pub known_scheduler : {v : View} → IsWhole v → IsKnown v.objects (value_of 8)
known_scheduler {v} whole = known_page v 8 SchedulerAssociation whole value_of-scheduler

pub ruleset registers = (known_active, known_home, known_method, known_receiver, known_nil, known_false, known_true, known_scheduler)
