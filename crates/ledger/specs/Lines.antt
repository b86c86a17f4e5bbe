-- How many lines a Close makes at most, and how long the list for them is at least.
use Rattle.std.specs.Prelude.{ℕ, ◌*◌}

-- C11, Close: a line has six words
abbrev pub words_in_line : ℕ
words_in_line = 6

-- C16, Close: a Close makes no more lines than this: two for each of 64 obligations and one for each of 64 offers
abbrev pub most_lines : ℕ
most_lines = 192

-- C1 and C16, Close; N1, Again: the fewest words of the lent list, which are exactly enough for the most lines: 1,152
abbrev pub fewest_words : ℕ
fewest_words = words_in_line * most_lines
