-- A text that is fed byte by byte gives its chunks.
use Rattle.std.proofs.Common.{◌≡◌, ℕ, ◌+◌, ◌<◌, ◌≤◌, true, false, List, [], ◌∷◌, ◌++◌, length, sym, ap, arith, length-append}
use Rattle.std.specs.Prelude.{◌==◌, nat_lt, nat_le, if◌then◌else◌}
use Rattle.std.proofs.lemmas.Bool.{le-leb, ltb-true}
use Rattle.std.proofs.lemmas.Bool.Decides.{leb_tells}
use Rattle.st_chunk.proofs.Cases.{by_test}
use Rattle.st_chunk.specs.declared.cutting.Phase.{Phase}
use Rattle.st_chunk.specs.declared.cutting.Phase.TheVariants.{Within, Marked, Told}
use Rattle.st_chunk.specs.Texts.{mark, most, Cut, with_chunk, cut_behind, behind_mark, cut}
use Rattle.st_chunk.specs.Feeding.{State, start, with_byte, answer, Account, too_long, with_one, account_behind, account, limited}

abbrev limited_cut : Cut → Account
limited_cut c = limited c.chunks c.rest

abbrev state : List ℕ → Phase → State
state bytes phase = record { bytes = bytes; phase = phase }

abbrev behind_state : State → List ℕ → Account
behind_state s text = account_behind (λ t. account t text) s (answer s.phase)

not_short : (n : ℕ) → most < n → nat_le n most ≡ false
not_short n long = grind (arith, leb_tells n most)

longer : (before : List ℕ) (b : ℕ) → length (before ++ b ∷ []) ≡ length before + 1
longer before b = length-append before (b ∷ [])

full : (before : List ℕ) (b : ℕ) → nat_lt (length before) most ≡ false → most < length (before ++ b ∷ [])
full before b e = grind (arith, longer before b, leb_tells (length before + 1) most)

-- what stands before a text that is cut is the beginning of its first chunk, or of the rest
mutual
  long_within : (before text : List ℕ) → most < length before → limited_cut (cut_behind before text) ≡ too_long []
  long_within before [] long = rw (not_short (length before) long)
  long_within before (b ∷ text) long =
      elim (b == mark) as (λ t. limited_cut (if t then behind_mark before text else cut_behind (before ++ b ∷ []) text) ≡ too_long [])
      [ true ↦ long_marked before text long | false ↦ long_within (before ++ b ∷ []) text (omega (arith, longer before b)) ]

  long_marked : (before text : List ℕ) → most < length before → limited_cut (behind_mark before text) ≡ too_long []
  long_marked before [] long = rw (not_short (length before) long)
  long_marked before (b ∷ text) long =
      elim (b == mark) as (λ t. limited_cut (if t then cut_behind (before ++ b ∷ []) text else with_chunk before (cut_behind (b ∷ []) text)) ≡ too_long [])
      [ true ↦ long_within (before ++ b ∷ []) text (omega (arith, longer before b)) | false ↦ rw (not_short (length before) long) ]

-- a byte that belongs to the chunk, by what then comes
grown : (before : List ℕ) (b : ℕ) (text : List ℕ) → (length (before ++ b ∷ []) ≤ most → account (state (before ++ b ∷ []) Within) text ≡ limited_cut (cut_behind (before ++ b ∷ []) text))
    → behind_state (with_byte before b) text ≡ limited_cut (cut_behind (before ++ b ∷ []) text)
grown before b text goes_on = by_test (nat_lt (length before) most)
    (λ e. rw e (goes_on (omega (arith, longer before b, ltb-true (length before) most e))))
    (λ e. rw e (sym (long_within (before ++ b ∷ []) text (full before b e))))

mutual
  within : (before text : List ℕ) → length before ≤ most → account (state before Within) text ≡ limited_cut (cut_behind before text)
  within before [] short = rw (le-leb (length before) most short)
  within before (b ∷ text) short =
      elim (b == mark) as (λ t. behind_state (if t then state before Marked else with_byte before b) text ≡ limited_cut (if t then behind_mark before text else cut_behind (before ++ b ∷ []) text))
      [ true ↦ marked before text short | false ↦ grown before b text (within (before ++ b ∷ []) text) ]

  marked : (before text : List ℕ) → length before ≤ most → account (state before Marked) text ≡ limited_cut (behind_mark before text)
  marked before [] short = rw (le-leb (length before) most short)
  marked before (b ∷ text) short =
      elim (b == mark) as (λ t. behind_state (if t then with_byte before b else state before (Told b)) text ≡ limited_cut (if t then cut_behind (before ++ b ∷ []) text else with_chunk before (cut_behind (b ∷ []) text)))
      [ true ↦ grown before b text (within (before ++ b ∷ []) text) | false ↦ rw (le-leb (length before) most short) (ap (with_one before) (within (b ∷ []) text (omega arith))) ]

pub by_bytes : (text : List ℕ) → account start text ≡ limited_cut (cut text)
by_bytes text = within [] text (omega arith)
