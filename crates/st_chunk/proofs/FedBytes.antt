-- A chunk with one byte more.
use Rattle.std.proofs.Common.{◌≡◌, ℕ, ◌≤◌, Bool, true, false, List, [], ◌∷◌, ◌++◌, length, refl, ap, ◌∙◌, arith, length-append}
use Rattle.std.specs.Prelude.{◌==◌, ◌&&◌, ◌||◌, nat_lt}
use Rattle.std.proofs.lemmas.Bool.{ne_eqb, ltb-true}
use Rattle.std.proofs.lemmas.List.Folds.{list_all-append}
use Rattle.st_chunk.specs.declared.cutting.Phase.{Phase}
use Rattle.st_chunk.specs.declared.cutting.Phase.TheVariants.{Within, Marked, Told, Long, Ended}
use Rattle.st_chunk.specs.declared.cutting.Fed.TheVariants as answers
use Rattle.st_chunk.specs.Texts.{mark, most, is_blank, is_empty}
use Rattle.st_chunk.specs.Feeding.{State, with_byte, fed_in, fed, carried_from, answer, MayGoOn}
use Rattle.st_chunk.proofs.Cases.{by_test}

abbrev blank_as : State → List ℕ → ℕ → Type 0
blank_as t bytes b = is_empty t.bytes ≡ (is_empty bytes && ((length t.bytes == length bytes) || is_blank b))

same_length : (n : ℕ) → (n == n) ≡ true
same_length n = grind arith

both : (t : Bool) → t ≡ (t && true)
both true = refl
both false = refl

unchanged : (bytes : List ℕ) (b : ℕ) → is_empty bytes ≡ (is_empty bytes && ((length bytes == length bytes) || is_blank b))
unchanged bytes b = rw (same_length (length bytes)) (both (is_empty bytes))

longer : (bytes : List ℕ) (b : ℕ) → (length (bytes ++ b ∷ []) == length bytes) ≡ false
longer bytes b = ne_eqb _ _ (λ e. omega (arith, length-append bytes (b ∷ [])))

one_more : (t : Bool) → (t && true) ≡ t
one_more true = refl
one_more false = refl

kept : (bytes : List ℕ) (b : ℕ) → blank_as (with_byte bytes b) bytes b
kept bytes b = by_test (nat_lt (length bytes) most)
    (λ e. rw (e, longer bytes b) (list_all-append is_blank bytes (b ∷ []) ∙ ap (λ t. is_empty bytes && t) (one_more (is_blank b))))
    (λ e. rw e (unchanged bytes b))

pub blank_fed : (s : State) (b : ℕ) → is_empty (fed s b).bytes ≡ (is_empty s.bytes && ((length (fed s b).bytes == length s.bytes) || is_blank b))
blank_fed s b = in_phase s.phase s.bytes b
  where
    in_phase : (p : Phase) (bytes : List ℕ) (b : ℕ) → blank_as (fed_in p bytes b) bytes b
    in_phase Within bytes b = by_test (b == mark) (λ e. rw e (unchanged bytes b)) (λ e. rw e (kept bytes b))
    in_phase Marked bytes b = by_test (b == mark) (λ e. rw e (kept bytes b)) (λ e. rw e (unchanged bytes b))
    in_phase (Told c) bytes b = unchanged bytes b
    in_phase Long bytes b = unchanged bytes b
    in_phase Ended bytes b = unchanged bytes b

-- what is told of a byte that is kept
not_ended : (bytes : List ℕ) (b : ℕ) → answer (with_byte bytes b).phase ≡ answers.Chunk → (with_byte bytes b).phase ≡ Told b
not_ended bytes b told = by_test (nat_lt (length bytes) most) (λ e. let h = rw e at told in absurd cc) (λ e. let h = rw e at told in absurd cc)

pub ended_fed : (s : State) (b : ℕ) → MayGoOn s.phase → answer (fed s b).phase ≡ answers.Chunk → (fed s b).phase ≡ Told b
ended_fed s b goes told = in_phase s.phase s.bytes b goes told
  where
    in_phase : (p : Phase) (bytes : List ℕ) (b : ℕ) → MayGoOn p → answer (fed_in p bytes b).phase ≡ answers.Chunk → (fed_in p bytes b).phase ≡ Told b
    in_phase Within bytes b goes told = by_test (b == mark) (λ e. let h = rw e at told in absurd cc) (λ e. let h = rw e at told in rw e (not_ended bytes b h))
    in_phase Marked bytes b goes told = by_test (b == mark) (λ e. let h = rw e at told in rw e (not_ended bytes b h)) (λ e. rw e refl)
    in_phase (Told c) bytes b goes told = absurd goes
    in_phase Long bytes b goes told = cc
    in_phase Ended bytes b goes told = absurd goes

goes_on : (bytes : List ℕ) (b : ℕ) → MayGoOn (with_byte bytes b).phase
goes_on bytes b = by_test (nat_lt (length bytes) most) (λ e. rw e tt) (λ e. rw e tt)

pub open_fed : (s : State) (b : ℕ) → MayGoOn s.phase → answer (fed s b).phase ≡ answers.More → MayGoOn (fed s b).phase
open_fed s b goes told = in_phase s.phase s.bytes b goes told
  where
    in_phase : (p : Phase) (bytes : List ℕ) (b : ℕ) → MayGoOn p → answer (fed_in p bytes b).phase ≡ answers.More → MayGoOn (fed_in p bytes b).phase
    in_phase Within bytes b goes told = by_test (b == mark) (λ e. rw e tt) (λ e. rw e (goes_on bytes b))
    in_phase Marked bytes b goes told = by_test (b == mark) (λ e. rw e (goes_on bytes b)) (λ e. let h = rw e at told in absurd cc)
    in_phase (Told c) bytes b goes told = absurd goes
    in_phase Long bytes b goes told = tt
    in_phase Ended bytes b goes told = absurd goes

room_kept : (bytes : List ℕ) (b : ℕ) → length bytes ≤ most → length (with_byte bytes b).bytes ≤ most
room_kept bytes b short = by_test (nat_lt (length bytes) most)
    (λ e. rw e (omega (arith, length-append bytes (b ∷ []), ltb-true (length bytes) most e)))
    (λ e. rw e short)

pub short_fed : (s : State) (b : ℕ) → length s.bytes ≤ most → length (fed s b).bytes ≤ most
short_fed s b short = in_phase s.phase s.bytes b short
  where
    in_phase : (p : Phase) (bytes : List ℕ) (b : ℕ) → length bytes ≤ most → length (fed_in p bytes b).bytes ≤ most
    in_phase Within bytes b short = by_test (b == mark) (λ e. rw e short) (λ e. rw e (room_kept bytes b short))
    in_phase Marked bytes b short = by_test (b == mark) (λ e. rw e (room_kept bytes b short)) (λ e. rw e short)
    in_phase (Told c) bytes b short = short
    in_phase Long bytes b short = short
    in_phase Ended bytes b short = short

pub within_carried : (p : Phase) → (carried_from p).phase ≡ Within
within_carried (Told b) = refl
within_carried Within = refl
within_carried Marked = refl
within_carried Long = refl
within_carried Ended = refl

pub ruleset fed_rules = (blank_fed, ended_fed, open_fed, short_fed, within_carried)
