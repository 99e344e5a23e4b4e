-- A walk kept in words that a caller lends: the first hold the head and what the last step told of a frame, the rest the channels' records. Any words
-- at all are some walk. None of it is a rule of document 01.
use Rattle.std.specs.Prelude.{List, ℕ, ◌+◌, drop}
use Rattle.words.specs.Words.{table_words}
use Rattle.walk.specs.Advance.{Stand, stand_of}
use Rattle.kept.specs.Words.{head_words, head_in}

-- How many words a walk has, with a record for each channel that a frame may have.
abbrev pub walk_words : ℕ
walk_words = head_words + table_words

-- Where a walk stands that words hold.
abbrev pub stand_in : List ℕ → Stand
stand_in w = stand_of (head_in w) (drop head_words w)
