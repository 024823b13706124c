-- What no memory and no image goes past.
use Rattle.std.specs.Prelude.{ℕ, ◌^◌}

-- the most words that a memory may be asked for, and an object space of version 2 may have: 32 MiB
abbrev pub most_words : ℕ
most_words = 16777216

-- the most bytes that the file of an image may have: 128 MiB
abbrev pub longest_image : ℕ
longest_image = 2 ^ 27
