-- What the owner of a region has: its words in a block of memory, and the right to give the block back.
use Rattle.std.specs.Prelude.{ℕ, ◌*◌, ◌^◌, List}
use Rattle.std.specs.Borrow.{full_share, Array, u16}
use Rattle.std.specs.Ptr.{lies_at}
use Rattle.std.specs.declared.alloc.Global.{Global}
use Rattle.std.specs.contracts.impls.GlobalAllocator.TheImpl.{ghosts}
use mir.Syntax.{Ty, ty_array, ty_int, w16}
use base.Fml.{Lft, Fml, fsep, flt}
use denote.RawPtr.{Ptr, room_for}
use denote.Sharing.{said, beside}
use denote.Struct.Lending.{lent_at}

-- the type of a block for n words
abbrev pub words_type : ℕ → Ty
words_type n = ty_array (ty_int w16) n

-- memory at p for n words, whatever it holds
abbrev pub block_of_words : Ptr → ℕ → Fml
block_of_words p n = room_for (words_type n) p

-- the block takes fewer than 2 ^ 63 bytes
abbrev pub is_small : ℕ → Fml
is_small n = flt (n * 2) (2 ^ 63)

-- n words at p, and the right to give their block back to the allocator
abbrev pub words_owned : Global → Ptr → ℕ → List ℕ → Fml
words_owned alloc p n ws = fsep (is_small n) (fsep (lies_at (Array u16 n) full_share p ws) (ghosts.dealloc_token alloc (words_type n) p))

-- what a `&` to the owner has: the words, to be read
abbrev pub words_lent : Ptr → ℕ → List ℕ → Lft → Fml
words_lent p n ws = beside (said (is_small n)) (lent_at (Array u16 n) p ws)
