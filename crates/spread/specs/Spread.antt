-- Where the samples of a channel lie (document 01, "Frames and samples"; document 02, request 2): how many are declared and how many of these are there, their
-- places and their bits, and whether they lie in a file.
use Rattle.std.specs.Prelude.{List, Bool, ℕ, ◌+◌, ◌*◌, ◌/◌, ◌%◌, ltb, leb, take, drop}
use Rattle.octets.specs.Pick.{both}
use Rattle.octets.specs.Number.{number_of}
use Rattle.values.specs.Sample.{width_of}
use Rattle.there.specs.There.{count_there}
use Rattle.standing.specs.Standing.{octets_limit}
use Rattle.spread.specs.declared.Spread.{Spread}

-- Octets per sample.
abbrev pub width_spread : Spread → ℕ
width_spread x = width_of x.datatype

-- How many samples of the channel are declared: sequences times its block length.
abbrev pub count_spread : Spread → ℕ
count_spread x = x.sequences * x.block

-- How many of these are there.
abbrev pub there_spread : Spread → ℕ
there_spread x = count_there x.sequences x.block (width_spread x) x.octets x.below x.long

-- The place of sample n: each sequence has one block of the channel, behind the blocks of lower channels.
abbrev pub place_spread : Spread → ℕ → ℕ
place_spread x n = x.place + (n / x.block * x.octets + x.below + n % x.block * width_spread x)

-- The samples there lie in a file of `size` octets: a file has no more than the limit, a sample has octets, the channel's block ends by the end of
-- its sequence, and the waveform by the end of the file.
abbrev pub lies_spread : ℕ → Spread → Bool
lies_spread size x =
    both (leb size octets_limit)
    (both (ltb 0 (width_spread x))
    (both (leb (x.below + x.block * width_spread x) x.octets) (leb (x.place + x.long) size)))

-- The bits of sample n: the octets at its place, by the byte order that stands there.
abbrev pub bits_spread : List ℕ → Spread → ℕ → ℕ
bits_spread s x n = number_of x.little (take (width_spread x) (drop (place_spread x n) s))
