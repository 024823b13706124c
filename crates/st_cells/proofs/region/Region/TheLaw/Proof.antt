-- A `&` to a region lends its words, and not the right to give their block back.
use Rattle.std.proofs.Common.{w16}
use base.Fraction.{full_share}
use denote.Array.{Array, Array-row_laws}
use denote.Builtin.{u16}
use denote.Copied.{uint_Copied}
use denote.Plain.{uint_row_laws}
use denote.Param.Shared.{copy_shared}
use denote.RawPtr.{lies_at}
use denote.Shares.{Shares-Array}
use denote.Sharing.{said}
use denote.SharingLaws.{beside_shr_laws, said_shr_laws}
use denote.Struct.Field.{RawPtr-field, usize-field}
use denote.Struct.Laws.{RawPtr-copy, usize-copy}
use denote.Struct.Lending.{lent_at, lent_at_shr_laws, Lends-lies, Lends-said, Lends-first, Lends-both, of_Lends}
use Rattle.std.specs.contracts.impls.GlobalAllocator.TheImpl.{ghosts}
use base.Fml.{fsep}
use Rattle.st_cells.specs.inside.Owned.{is_small, words_type}
use Rattle.st_cells.specs.contracts.region.Region as region
use Rattle.st_cells.proofs.region.Region.TheLaw.Statement.{statement}

pub shares : statement
shares = of_Lends region.struct region.the_codes region.the_heap region.the_lent
    (λ d p. beside_shr_laws (said (is_small d.len)) (lent_at (Array u16 d.len) d.at d.words) (said_shr_laws (is_small d.len) tt) (lent_at_shr_laws (Array u16 d.len) (Array-row_laws u16 (uint_row_laws w16) d.len) d.at d.words))
    (copy_shared RawPtr-field RawPtr-copy, (copy_shared usize-field usize-copy, tt))
    (λ M 𝓤 𝓛 d p.
    let l = region.the_row.lives in let words = lies_at (Array u16 d.len) full_share d.at d.words in let token = ghosts.dealloc_token d.alloc (words_type d.len) d.at in let lent = lent_at (Array u16 d.len) d.at d.words in
    Lends-both 𝓛 (is_small d.len) (fsep words token) (said (is_small d.len)) lent l (Lends-said 𝓛 (is_small d.len) tt l)
    (Lends-first 𝓛 words token lent l (Lends-lies 𝓛 (Array u16 d.len) l d.at d.words (Shares-Array 𝓛 u16 tt d.len l ((uint_Copied 𝓛 w16).shares full_share l) d.words))))
