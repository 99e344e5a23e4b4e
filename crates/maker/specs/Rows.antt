-- What the loops over rows are asked and answer. None of it is a rule of a paper.
use Rattle.std.specs.Prelude.{◌≡◌, true, List, ℕ, suc, ◌*◌, ◌≤◌, ℤ, pos, length, get_or, Option, Some, None}
use Rattle.octets.specs.Pick.{pick}
use Rattle.settings.specs.Settings.{channel_limit}
use Rattle.layout.specs.declared.Layout.{Layout}
use Rattle.layout.specs.Measure.{layout_of}
use Rattle.numbers.specs.Numbers.{attribute_numbers}
use Rattle.maker.specs.Given.{bit_numbers, givens_in, all_in_table, channels_made}

-- A number of the rows; past their end it is 0.
abbrev pub number_at : List ℤ → ℕ → ℤ
number_at numbers at = get_or numbers at (pos 0)

-- There is a row i.
pub record RowThere (numbers : List ℤ) (bits : List ℕ) (i : ℕ) : Type 0 where
  pub in_numbers : suc i * attribute_numbers ≤ length numbers
  pub in_bits : suc i * bit_numbers ≤ length bits
  pub few : suc i ≤ channel_limit

-- There are n rows.
pub record RowsThere (numbers : List ℤ) (bits : List ℕ) (n : ℕ) : Type 0 where
  pub in_numbers : n * attribute_numbers ≤ length numbers
  pub in_bits : n * bit_numbers ≤ length bits
  pub few : n ≤ channel_limit

-- There are n rows, and every setting of theirs is in the table.
pub record RowsFit (numbers : List ℤ) (bits : List ℕ) (n : ℕ) : Type 0 where
  pub there : RowsThere numbers bits n
  pub fit : all_in_table (givens_in n numbers bits) ≡ true

-- The layout of the channels of the first n rows, where every setting is in the table.
unfoldable pub measured : ℕ → List ℤ → List ℕ → Option Layout
measured n numbers bits =
    pick (all_in_table (givens_in n numbers bits)) (Some (layout_of 0 (channels_made n numbers bits))) None
