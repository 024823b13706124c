-- How the import of an image into a store ends.
use Rattle.std.specs.Prelude.{◌≡◌, ℕ, ◌<◌, List, length, IsTrue}
use Rattle.st_host.specs.declared.host.Host.{Ghosts}
use Rattle.st_model.specs.Limits.{longest_image}
use Rattle.st_model.specs.Start.{start_view}
use Rattle.st_image.specs.declared.head.HeadValues.{HeadValues}
use Rattle.st_image.specs.HeadValues.{head_over}
use Rattle.st_protocol.specs.declared.status.Status.{Status}
use Rattle.st_protocol.specs.declared.status.Status.TheVariants.{Image, TooLarge}
use Rattle.st_call.specs.Refusals.{IsReadableOver, IsFaultyOver}
use Rattle.st_session.specs.declared.making.Origin.TheVariants as origin
use Rattle.st_session.specs.Makings.{Contents, contents_in, MakingEnds}

-- it can be read, and this is what is read
pub record ReadsAs (over : HeadValues) (image : List ℕ) (c : Contents) : Type 0 where
  pub readable : IsReadableOver over image
  pub is : c ≡ contents_in (start_view (head_over over image) image)

-- the statuses in which it can't be read
abbrev pub IsWrongImage : Type 0 → HeadValues → List ℕ → Status → Type 0
IsWrongImage told over image (Image f) = told → IsFaultyOver over image f
IsWrongImage told over image TooLarge = told → longest_image < length image
IsWrongImage told over image _ = ⊥

-- How the command import ends, over the bytes of its image and the values of its options. An absent image is read as an empty one.
abbrev pub ImportEnds : {D : Type 0} → Ghosts D → HeadValues → List ℕ → List ℕ → D → D → Status → Type 0
ImportEnds host over image store = MakingEnds host origin.Image (ReadsAs over image) (IsWrongImage (IsTrue host.is_told) over image) store
