-- Rows that were copied one after the other.
use Rattle.std.proofs.Common.{◌≡◌, ◌≢◌, ℕ, suc, ◌+◌, ◌-◌, ◌*◌, ◌<◌, ◌≤◌, arith, refl, sym, ◌∙◌, ap, ◌⊎◌, inl, inr, Option, Some, None}
use Rattle.std.proofs.lemmas.Bool.{cases_order}
use Rattle.std.specs.Prelude.{◌%◌, min}
use Rattle.std.specs.Int.{bit_at}
use Rattle.std.proofs.Math.Nat.{mul-le-mul_right, suc-mul}
use Rattle.st_model.specs.Values.{Value}
use Rattle.st_model.specs.View.{View}
use Rattle.st_model.specs.Pixels.{pixel, combine}
use Rattle.st_model.proofs.Transfers.{same_or_not}
use Rattle.st_bitblt.specs.declared.rows.Layout.{Layout}
use Rattle.st_bitblt.specs.declared.rows.Pen.{Pen}
use Rattle.st_bitblt.specs.inside.Words.{words, HasWords}
use Rattle.st_bitblt.specs.inside.Copied.{Copied, shaded, pixel_from}
use Rattle.st_bitblt.specs.inside.Rows.{IsForward, FromTop, RowsCopied, tone_of}
use Rattle.st_bitblt.proofs.Words.{words_same}
use Rattle.st_bitblt.proofs.Parts.{rest_twice}

-- A row lies wholly before the next ones.
pub row_before : (step j r n : ℕ) → j < r → n ≤ step → j * step + n ≤ r * step
row_before step j r n h k =
    let s : suc j ≤ r = omega arith in
    let le : suc j * step ≤ r * step = mul-le-mul_right step s in
    omega (arith, suc-mul j step)

-- No pixel of one row of the destination is one of another.
apart : (a : Layout) (j r i : ℕ) → a.n ≤ a.along → j ≢ r → i < a.n
    → (a.p + r * a.along + i < a.p + j * a.along) ⊎ (a.p + j * a.along + a.n ≤ a.p + r * a.along + i)
apart a j r i h ne hi =
    elim (cases_order j r) [
      | inl e ↦ absurd (ne e)
      | inr s ↦ elim s [
        | inl lt ↦ inr (let b : j * a.along + a.n ≤ r * a.along = row_before a.along j r a.n lt h in omega arith)
        | inr gt ↦ inl (let b : r * a.along + a.n ≤ j * a.along = row_before a.along r j a.n gt h in omega arith)
      ]
    ]

source_stays : (pen : Pen) (source : Option Value) (dest : Value) (old new : View) (a : Layout) (done : ℕ → Type 0) (k : ℕ)
    → RowsCopied pen source dest old new a done
    → (source ≡ Some dest → (j : ℕ) → done j → (k < a.p + j * a.along) ⊎ (a.p + j * a.along + a.n ≤ k)) → pixel_from new source k ≡ pixel_from old source k
source_stays pen None dest old new a done k r out = refl
source_stays pen (Some o) dest old new a done k r out =
    elim (same_or_not o dest) [
      | inl e ↦ ap (λ x. pixel (words new x) k) e ∙ r.outside k (out (ap Some e)) ∙ ap (λ x. pixel (words old x) k) (sym e)
      | inr e ↦ ap (λ ws. pixel ws k) (r.others o e)
    ]

-- One row more. Its source must lie outside the rows that were done before.
pub row_more : (pen : Pen) (source : Option Value) (dest : Value) (old mid new : View) (a : Layout) (done : ℕ → Type 0) (r : ℕ) → HasWords old dest → a.n ≤ a.along
    → ((j : ℕ) → done j → j ≢ r)
    → (source ≡ Some dest → (j : ℕ) → done j → (a.q + r * a.across + a.n ≤ a.p + j * a.along) ⊎ (a.p + j * a.along + a.n ≤ a.q + r * a.across))
    → RowsCopied pen source dest old mid a done → Copied pen.rule (tone_of pen r) source dest mid new (a.p + r * a.along) (a.q + r * a.across) a.n
    → RowsCopied pen source dest old new a (λ j. done j ⊎ (j ≡ r))
row_more pen source dest old mid new a done r has wide other clear x y = record {
  inside = λ i j hi d. elim d [
    | inl before ↦
        elim (apart a r j i wide (λ e. other j before (sym e)) hi) [
          | inl lt ↦ y.below (a.p + j * a.along + i) lt
          | inr ge ↦ y.above (a.p + j * a.along + i) ge
        ]
        ∙ x.inside i j hi before
    | inr e ↦ now i j hi e
  ];
  outside = λ k out.
      elim (out r (inr refl)) [ inl lt ↦ y.below k lt | inr ge ↦ y.above k ge ] ∙ x.outside k (λ j d. out j (inl d));
  others = λ o h. y.others o h ∙ x.others o h;
  size = λ o. y.size o ∙ x.size o;
  fits = λ all. y.fits (x.fits all);
  there = λ o h. y.there o (x.there o h);
  rest = rest_twice dest old mid new has x.rest y.rest;
}
  where
    this : (i : ℕ) → i < a.n → pixel (words new dest) (a.p + r * a.along + i) ≡ combine pen.rule (shaded (tone_of pen r) source old (a.p + r * a.along) (a.q + r * a.across) i) (pixel (words old dest) (a.p + r * a.along + i))
    this i hi =
        y.inside i hi
        ∙ ap (λ d. combine pen.rule (shaded (tone_of pen r) source mid (a.p + r * a.along) (a.q + r * a.across) i) d) (x.outside (a.p + r * a.along + i) (λ j d. apart a j r i wide (other j d) hi))
        ∙ ap (λ s. combine pen.rule (min s (bit_at (tone_of pen r) (15 - (a.p + r * a.along + i) % 16))) (pixel (words old dest) (a.p + r * a.along + i)))
        (source_stays pen source dest old mid a done (a.q + r * a.across + i) x
        (λ h j d. elim (clear h j d) [ inl before ↦ inl (omega arith) | inr behind ↦ inr (omega arith) ]))

    now : (i j : ℕ) → i < a.n → j ≡ r → pixel (words new dest) (a.p + j * a.along + i) ≡ combine pen.rule (shaded (tone_of pen j) source old (a.p + j * a.along) (a.q + j * a.across) i) (pixel (words old dest) (a.p + j * a.along + i))
    now i j hi e = rw e (this i hi)

pub no_rows : (pen : Pen) (source : Option Value) (dest : Value) (old : View) (a : Layout) (done : ℕ → Type 0) → HasWords old dest → ((j : ℕ) → done j → ⊥) → RowsCopied pen source dest old old a done
no_rows pen source dest old a done has none = record {
  inside = λ i j hi d. absurd (none j d);
  outside = λ k out. refl;
  others = λ o h. refl;
  size = λ o. refl;
  fits = λ all. all;
  there = λ o h. h;
  rest = words_same old dest has.live;
}

-- the same rows, told otherwise.
pub rows_told : (pen : Pen) (source : Option Value) (dest : Value) (old new : View) (a : Layout) (done told : ℕ → Type 0)
    → ((j : ℕ) → told j → done j) → ((j : ℕ) → done j → told j) → RowsCopied pen source dest old new a done → RowsCopied pen source dest old new a told
rows_told pen source dest old new a done told f g x = record {
  inside = λ i j hi d. x.inside i j hi (f j d);
  outside = λ k out. x.outside k (λ j d. out j (g j d));
  others = x.others;
  size = x.size;
  fits = x.fits;
  there = x.there;
  rest = x.rest;
}

pub clear_up : (a : Layout) (j r : ℕ) → a.n ≤ a.along → j < r → IsForward a r → a.p + j * a.along + a.n ≤ a.q + r * a.across
clear_up a j r wide lt up =
    let b : j * a.along + a.n ≤ r * a.along = row_before a.along j r a.n lt wide in omega arith

pub clear_down : (a : Layout) (j r : ℕ) → a.n ≤ a.along → a.n ≤ a.across → a.q + r * a.across < a.p + r * a.along → j ≢ r → (IsForward a j ⊎ (r < j))
    → (a.q + r * a.across + a.n ≤ a.p + j * a.along) ⊎ (a.p + j * a.along + a.n ≤ a.q + r * a.across)
clear_down a j r wide narrow down ne which =
    elim (cases_order j r) [
      | inl e ↦ absurd (ne e)
      | inr s ↦ elim s [
        | inl lt ↦ elim which [
          | inl up ↦ inr (let b : j * a.across + a.n ≤ r * a.across = row_before a.across j r a.n lt narrow in omega arith)
          | inr gt ↦ absurd (omega arith)
        ]
        | inr gt ↦ inl (let b : r * a.along + a.n ≤ j * a.along = row_before a.along r j a.n gt wide in omega arith)
      ]
    ]

-- all rows that are copied from the top, and the others from row k on
abbrev pub DownTo : Layout → ℕ → ℕ → Type 0
DownTo a k = λ r. (r < a.height) × (IsForward a r ⊎ (k ≤ r))

pub split : (j r : ℕ) → r < j + 1 → (r < j) ⊎ (r ≡ j)
split j r h = elim (cases_order r j) [ inl e ↦ inr e | inr s ↦ elim s [ inl lt ↦ inl lt | inr gt ↦ absurd (omega arith) ] ]

same_row : (a : Layout) (r k : ℕ) → r ≡ k → IsForward a k → IsForward a r
same_row a r k e up = rw e up

-- `row_more`, with the row's places and pen by equations.
pub row_more_at : (pen : Pen) (source : Option Value) (dest : Value) (old mid new : View) (a : Layout) (done : ℕ → Type 0) (r : ℕ) (i : ℕ) (p q : ℕ)
    → HasWords old dest → i ≡ tone_of pen r → p ≡ a.p + r * a.along → q ≡ a.q + r * a.across → a.n ≤ a.along
    → ((j : ℕ) → done j → j ≢ r)
    → (source ≡ Some dest → (j : ℕ) → done j → (a.q + r * a.across + a.n ≤ a.p + j * a.along) ⊎ (a.p + j * a.along + a.n ≤ a.q + r * a.across))
    → RowsCopied pen source dest old mid a done → Copied pen.rule i source dest mid new p q a.n
    → RowsCopied pen source dest old new a (λ j. done j ⊎ (j ≡ r))
row_more_at pen source dest old mid new a done r i p q has ei ep eq wide other clear x y =
    let z : Copied pen.rule (tone_of pen r) source dest mid new (a.p + r * a.along) (a.q + r * a.across) a.n = rw (ei, ep, eq) at y in
    row_more pen source dest old mid new a done r has wide other clear x z

pub up_step : (pen : Pen) (source : Option Value) (dest : Value) (old mid new : View) (a : Layout) (k : ℕ) (i : ℕ) (p q : ℕ)
    → HasWords old dest → i ≡ tone_of pen k → p ≡ a.p + k * a.along → q ≡ a.q + k * a.across → a.n ≤ a.along → p ≤ q
    → RowsCopied pen source dest old mid a (FromTop a k) → Copied pen.rule i source dest mid new p q a.n → RowsCopied pen source dest old new a (FromTop a (k + 1))
up_step pen source dest old mid new a k i p q has ei ep eq wide le x y =
    let up : IsForward a k = omega arith in
    rows_told pen source dest old new a (λ r. FromTop a k r ⊎ (r ≡ k)) (FromTop a (k + 1))
    (λ r h. elim (split k r h.0) [ inl lt ↦ inl (lt, h.1) | inr e ↦ inr e ])
    (λ r d. elim d [ inl h ↦ (let l : r < k = h.0 in omega arith, h.1) | inr e ↦ (omega arith, same_row a r k e up) ])
    (row_more_at pen source dest old mid new a (FromTop a k) k i p q has ei ep eq wide (λ r h e. let l : r < k = h.0 in omega arith) (λ s r h. inr (clear_up a r k wide h.0 up)) x y)

pub up_skip : (pen : Pen) (source : Option Value) (dest : Value) (old new : View) (a : Layout) (k p q : ℕ) → p ≡ a.p + k * a.along → q ≡ a.q + k * a.across → q < p
    → RowsCopied pen source dest old new a (FromTop a k) → RowsCopied pen source dest old new a (FromTop a (k + 1))
up_skip pen source dest old new a k p q ep eq lt x =
    rows_told pen source dest old new a (FromTop a k) (FromTop a (k + 1))
    (λ r h. elim (split k r h.0) [ inl l ↦ (l, h.1) | inr e ↦ absurd (let up : IsForward a k = same_row a k r (sym e) h.1 in omega arith) ])
    (λ r h. (let l : r < k = h.0 in omega arith, h.1)) x

pub down_start : (pen : Pen) (source : Option Value) (dest : Value) (old new : View) (a : Layout) (k : ℕ) → k ≡ a.height
    → RowsCopied pen source dest old new a (FromTop a k) → RowsCopied pen source dest old new a (DownTo a a.height)
down_start pen source dest old new a k e x =
    rows_told pen source dest old new a (FromTop a k) (DownTo a a.height)
    (λ r h. let l : r < a.height = h.0 in (omega arith, elim h.1 [ inl up ↦ up | inr ge ↦ absurd (omega arith) ]))
    (λ r h. (let l : r < k = h.0 in omega arith, inl h.1)) x

down_told : (a : Layout) (k r : ℕ) → 0 < k → DownTo a (k - 1) r → DownTo a k r ⊎ (r ≡ k - 1)
down_told a k r pos h =
    elim h.1 [ inl up ↦ inl (h.0, inl up) | inr ge ↦ elim (cases_order r (k - 1)) [ inl e ↦ inr e | inr s ↦ elim s [ inl lt ↦ absurd (omega arith) | inr gt ↦ inl (h.0, inr (omega arith)) ] ] ]

down_other : (a : Layout) (k r : ℕ) → 0 < k → a.q + (k - 1) * a.across < a.p + (k - 1) * a.along → DownTo a k r → r ≢ k - 1
down_other a k r pos lt h e = elim h.1 [ inl up ↦ let u : IsForward a (k - 1) = same_row a (k - 1) r (sym e) up in omega arith | inr ge ↦ omega arith ]

pub down_step : (pen : Pen) (source : Option Value) (dest : Value) (old mid new : View) (a : Layout) (k : ℕ) (i : ℕ) (p q : ℕ)
    → HasWords old dest → i ≡ tone_of pen (k - 1) → p ≡ a.p + (k - 1) * a.along → q ≡ a.q + (k - 1) * a.across → a.n ≤ a.along → a.n ≤ a.across → q < p → 0 < k → k ≤ a.height
    → RowsCopied pen source dest old mid a (DownTo a k) → Copied pen.rule i source dest mid new p q a.n → RowsCopied pen source dest old new a (DownTo a (k - 1))
down_step pen source dest old mid new a k i p q has ei ep eq wide narrow lt pos within x y =
    let down : a.q + (k - 1) * a.across < a.p + (k - 1) * a.along = omega arith in
    rows_told pen source dest old new a (λ r. DownTo a k r ⊎ (r ≡ k - 1)) (DownTo a (k - 1))
    (λ r h. down_told a k r pos h)
    (λ r d. elim d [ inl h ↦ (h.0, elim h.1 [ inl up ↦ inl up | inr ge ↦ inr (omega arith) ]) | inr e ↦ (omega arith, inr (omega arith)) ])
    (row_more_at pen source dest old mid new a (DownTo a k) (k - 1) i p q has ei ep eq wide (λ r h. down_other a k r pos down h)
    (λ s r h. clear_down a r (k - 1) wide narrow down (down_other a k r pos down h) (elim h.1 [ inl up ↦ inl up | inr ge ↦ inr (omega arith) ])) x y)

pub down_skip : (pen : Pen) (source : Option Value) (dest : Value) (old new : View) (a : Layout) (k p q : ℕ) → p ≡ a.p + (k - 1) * a.along → q ≡ a.q + (k - 1) * a.across → p ≤ q → 0 < k → k ≤ a.height
    → RowsCopied pen source dest old new a (DownTo a k) → RowsCopied pen source dest old new a (DownTo a (k - 1))
down_skip pen source dest old new a k p q ep eq le pos within x =
    let up : IsForward a (k - 1) = omega arith in
    rows_told pen source dest old new a (DownTo a k) (DownTo a (k - 1))
    (λ r h. elim (down_told a k r pos h) [ inl d ↦ d | inr e ↦ (h.0, inl (same_row a r (k - 1) e up)) ])
    (λ r h. (h.0, elim h.1 [ inl u ↦ inl u | inr ge ↦ inr (omega arith) ])) x

pub down_end : (pen : Pen) (source : Option Value) (dest : Value) (old new : View) (a : Layout) (k : ℕ) → k ≡ 0
    → RowsCopied pen source dest old new a (DownTo a k) → RowsCopied pen source dest old new a (λ r. r < a.height)
down_end pen source dest old new a k e x =
    rows_told pen source dest old new a (DownTo a k) (λ r. r < a.height) (λ r h. (h, inr (omega arith))) (λ r h. h.0) x
