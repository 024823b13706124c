-- The deeds of a log to which an entry was appended.
use Rattle.std.proofs.Common.{◌≡◌, ℕ, ◌+◌, ◌-◌, ◌<◌, ◌≤◌, Vec, vec_capacity, List, [], ◌∷◌, ◌++◌, length, take, drop, reverse, sym, ap, ◌∙◌, arith, length-drop, length-append, refl}
use Rattle.std.proofs.lemmas.List.{reverse-append, take_all, take-append-le, drop-append-le}
use Rattle.std.proofs.Math.Seq.{take-append_seam, drop-append_seam}
use Rattle.std.specs.declared.alloc.Global.{Global}
use Rattle.st_memory_host.specs.inside.Deeds.{Deed, Put, said_after}
use Rattle.st_memory_host.specs.inside.Log.{entry_of, deed_of, rest_of, deeds_of, arena_size, said_with, IsWhole}
use Rattle.st_memory_host.specs.declared.log.Entry.{Entry}
use Rattle.st_memory_host.specs.declared.log.Kind.{Kind}
use Rattle.st_memory_host.specs.declared.log.Kind.TheVariants.{Put as PutKind, Wrote as WroteKind, Tore as ToreKind, Cut as CutKind, Synced as SyncedKind, Said as SaidKind}

arena_size-append : (log more : List Entry) → arena_size (log ++ more) ≡ arena_size log + arena_size more
arena_size-append [] more = omega arith
arena_size-append (entry ∷ later) more = omega (arith, arena_size-append later more)

module _ (kind : Kind) (name bytes : List ℕ) where
  deeds_of-append : (log : List Entry) (arena : List ℕ) → arena_size log ≡ length arena
      → deeds_of (log ++ entry_of kind name bytes ∷ []) (arena ++ (name ++ bytes)) ≡ deeds_of log arena ++ deed_of kind name bytes ∷ []
  deeds_of-append [] [] size =
      ap (λ x. deed_of kind x (take (length bytes) (drop (length name) (name ++ bytes))) ∷ []) (take-append_seam name bytes)
      ∙ ap (λ x. deed_of kind name (take (length bytes) x) ∷ []) (drop-append_seam name bytes)
      ∙ ap (λ x. deed_of kind name x ∷ []) (take_all (length bytes) bytes (omega arith))
  deeds_of-append [] (x ∷ arena) size = absurd (omega arith)
  deeds_of-append (entry ∷ later) arena size =
      let more = name ++ bytes in
      let m = entry.name in
      let n = entry.bytes in
      let front : m ≤ length arena = omega arith in
      let back : n ≤ length (drop m arena) = omega (arith, length-drop m arena) in
      let rest : arena_size later ≡ length (rest_of entry arena) = omega (arith, length-drop m arena, length-drop n (drop m arena)) in
      let after : List Entry = later ++ entry_of kind name bytes ∷ [] in
      ap (λ x. deed_of entry.kind x (take n (drop m (arena ++ more))) ∷ deeds_of after (drop n (drop m (arena ++ more)))) (take-append-le m arena more front)
      ∙ ap (λ x. deed_of entry.kind (take m arena) (take n x) ∷ deeds_of after (drop n x)) (drop-append-le m arena more front)
      ∙ ap (λ x. deed_of entry.kind (take m arena) x ∷ deeds_of after (drop n (drop m arena ++ more))) (take-append-le n (drop m arena) more back)
      ∙ ap (λ x. deed_of entry.kind (take m arena) (take n (drop m arena)) ∷ deeds_of after x) (drop-append-le n (drop m arena) more back)
      ∙ ap (λ x. deed_of entry.kind (take m arena) (take n (drop m arena)) ∷ x) (deeds_of-append later (rest_of entry arena) rest)

  -- the newest of them comes first
  pub newest_first : (log now : List Entry) (arena arena_now : List ℕ) → now ≡ log ++ entry_of kind name bytes ∷ [] → arena_now ≡ arena ++ (name ++ bytes)
      → arena_size log ≡ length arena → reverse (deeds_of now arena_now) ≡ deed_of kind name bytes ∷ reverse (deeds_of log arena)
  newest_first log now arena arena_now entry more size =
      let deeds : deeds_of now arena_now ≡ deeds_of log arena ++ deed_of kind name bytes ∷ [] = rw (entry, more) (deeds_of-append log arena size) in
      ap reverse deeds ∙ reverse-append (deeds_of log arena) (deed_of kind name bytes ∷ [])

pub put_first : (name bytes : List ℕ) (log now : List Entry) (arena arena_now : List ℕ) → now ≡ log ++ entry_of PutKind name bytes ∷ [] → arena_now ≡ arena ++ (name ++ bytes)
    → arena_size log ≡ length arena → reverse (deeds_of now arena_now) ≡ Put name bytes ∷ reverse (deeds_of log arena)
put_first name bytes log now arena arena_now entry more size = newest_first PutKind name bytes log now arena arena_now entry more size

said_after-cons : (kind : Kind) (name bytes : List ℕ) (deeds : List Deed) → said_after (deed_of kind name bytes ∷ deeds) ≡ said_with kind bytes (said_after deeds)
said_after-cons PutKind name bytes deeds = refl
said_after-cons (WroteKind end) name bytes deeds = refl
said_after-cons (ToreKind end done) name bytes deeds = refl
said_after-cons (CutKind len) name bytes deeds = refl
said_after-cons SyncedKind name bytes deeds = refl
said_after-cons SaidKind name bytes deeds = refl

-- no more is said than the bytes of a deed
said_short : (kind : Kind) (bytes said : List ℕ) → length (said_with kind bytes said) ≤ length said + length bytes
said_short PutKind bytes said = omega arith
said_short (WroteKind end) bytes said = omega arith
said_short (ToreKind end done) bytes said = omega arith
said_short (CutKind len) bytes said = omega arith
said_short SyncedKind bytes said = omega arith
said_short SaidKind bytes said = omega (arith, length-append said bytes)

-- a deed that takes room
pub whole_with : (kind : Kind) (name bytes : List ℕ) (log now : Vec Entry Global) (arena arena_now said said_now : Vec ℕ Global) (bytes_left calls_left : ℕ)
    → now.items ≡ log.items ++ entry_of kind name bytes ∷ [] → arena_now.items ≡ arena.items ++ (name ++ bytes) → said_now.items ≡ said_with kind bytes said.items
    → vec_capacity now ≡ vec_capacity log → vec_capacity arena ≤ vec_capacity arena_now → vec_capacity said ≤ vec_capacity said_now
    → length name + length bytes ≤ bytes_left → 0 < calls_left
    → IsWhole log arena said bytes_left calls_left → IsWhole now arena_now said_now (bytes_left - (length name + length bytes)) (calls_left - 1)
whole_with kind name bytes log now arena arena_now said said_now bytes_left calls_left entry more says log_room arena_room said_room fits some whole =
    let new : List Entry = entry_of kind name bytes ∷ [] in
    let long : length arena_now.items ≡ length arena.items + (length name + length bytes) = omega (arith, ap length more, length-append arena.items (name ++ bytes), length-append name bytes) in
    record {
      arena_is = ap arena_size entry ∙ arena_size-append log.items new ∙ omega (arith, whole.arena_is, long);
      said_is = ap said_after (newest_first kind name bytes log.items now.items arena.items arena_now.items entry more whole.arena_is)
          ∙ said_after-cons kind name bytes (reverse (deeds_of log.items arena.items)) ∙ ap (said_with kind bytes) whole.said_is ∙ sym says;
      arena_fits = omega (arith, whole.arena_fits, long);
      said_fits = omega (arith, whole.said_fits, ap length says, said_short kind bytes said.items);
      calls_fit = omega (arith, whole.calls_fit, length-append log.items new, ap length entry);
    }

-- a file that is put there besides the room
pub whole_put : (name bytes : List ℕ) (log now : Vec Entry Global) (arena arena_now said : Vec ℕ Global) (bytes_left calls_left : ℕ)
    → now.items ≡ log.items ++ entry_of PutKind name bytes ∷ [] → arena_now.items ≡ arena.items ++ (name ++ bytes)
    → length arena_now.items + bytes_left ≤ vec_capacity arena_now → length now.items + calls_left ≤ vec_capacity now
    → IsWhole log arena said bytes_left calls_left → IsWhole now arena_now said bytes_left calls_left
whole_put name bytes log now arena arena_now said bytes_left calls_left entry more arena_room log_room whole =
    let new : List Entry = entry_of PutKind name bytes ∷ [] in
    record {
      arena_is = ap arena_size entry ∙ arena_size-append log.items new ∙ omega (arith, whole.arena_is, ap length more, length-append arena.items (name ++ bytes), length-append name bytes);
      said_is = ap said_after (newest_first PutKind name bytes log.items now.items arena.items arena_now.items entry more whole.arena_is) ∙ whole.said_is;
      arena_fits = arena_room;
      said_fits = whole.said_fits;
      calls_fit = log_room;
    }
