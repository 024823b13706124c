-- A walk through the log, the oldest entry first, gives what the deeds give, the newest first.
use Rattle.std.proofs.Common.{◌≡◌, ℕ, Bool, true, false, if◌then◌else◌, bytes_eq, List, [], ◌∷◌, ◌++◌, reverse, Option, None, refl, sym, ap, ◌∙◌}
use Rattle.std.proofs.lemmas.List.{reverse-append}
use Rattle.st_memory_host.specs.inside.Deeds.{Deed, after_deed, files_after}
use Rattle.st_memory_host.specs.inside.Log.{deed_of, name_of, content_of, rest_of, deeds_of, changed, file_of}
use Rattle.st_memory_host.specs.declared.log.Entry.{Entry}
use Rattle.st_memory_host.specs.declared.log.Kind.{Kind}
use Rattle.st_memory_host.specs.declared.log.Kind.TheVariants.{Put as PutKind, Wrote as WroteKind, Tore as ToreKind, Cut as CutKind, Synced as SyncedKind, Said as SaidKind}

-- a file after these deeds, the newest first, which was `file` before
after : Option (List ℕ) → List Deed → List ℕ → Option (List ℕ)
after file [] n = file
after file (deed ∷ earlier) n = after_deed deed n (after file earlier n)

after-none : (deeds : List Deed) (n : List ℕ) → after None deeds n ≡ files_after deeds n
unfolding after
after-none [] n = refl
after-none (deed ∷ earlier) n = ap (after_deed deed n) (after-none earlier n)

after-append : (file : Option (List ℕ)) (deeds earlier : List Deed) (n : List ℕ) → after file (deeds ++ earlier) n ≡ after (after file earlier n) deeds n
unfolding after
after-append file [] earlier n = refl
after-append file (deed ∷ deeds) earlier n = ap (after_deed deed n) (after-append file deeds earlier n)

after-reverse : (file : Option (List ℕ)) (deed : Deed) (later : List Deed) (n : List ℕ) → after file (reverse (deed ∷ later)) n ≡ after (after_deed deed n file) (reverse later) n
unfolding after
after-reverse file deed later n = ap (λ x. after file x n) (reverse-append (deed ∷ []) later) ∙ after-append file (reverse later) (deed ∷ []) n

either : (t : Bool) (file : Option (List ℕ)) → file ≡ (if t then file else file)
either true file = refl
either false file = refl

-- a deed changes the file of its name alone
after_deed-of : (kind : Kind) (name bytes n : List ℕ) (file : Option (List ℕ))
    → after_deed (deed_of kind name bytes) n file ≡ (if bytes_eq n name then changed kind bytes file else file)
after_deed-of PutKind name bytes n file = refl
after_deed-of (WroteKind end) name bytes n file = refl
after_deed-of (ToreKind end done) name bytes n file = refl
after_deed-of (CutKind len) name bytes n file = refl
after_deed-of SyncedKind name bytes n file = either (bytes_eq n name) file
after_deed-of SaidKind name bytes n file = either (bytes_eq n name) file

walks : (file : Option (List ℕ)) (log : List Entry) (arena n : List ℕ) → after file (reverse (deeds_of log arena)) n ≡ file_of file log arena n
unfolding after
walks file [] arena n = refl
walks file (entry ∷ later) arena n =
    let deed = deed_of entry.kind (name_of entry arena) (content_of entry arena) in
    let rest = rest_of entry arena in
    after-reverse file deed (deeds_of later rest) n
    ∙ ap (λ x. after x (reverse (deeds_of later rest)) n) (after_deed-of entry.kind (name_of entry arena) (content_of entry arena) n file)
    ∙ walks (if bytes_eq n (name_of entry arena) then changed entry.kind (content_of entry arena) file else file) later rest n

pub files_after_walk : (log : List Entry) (arena n : List ℕ) → files_after (reverse (deeds_of log arena)) n ≡ file_of None log arena n
files_after_walk log arena n = sym (after-none (reverse (deeds_of log arena)) n) ∙ walks None log arena n
