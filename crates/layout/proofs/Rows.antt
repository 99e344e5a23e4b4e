-- Rows of equal cells.
--     row_fits       row q of a table ends by the end of the table
--     rows-some, cells_some    a table that has a cell has rows, and rows have cells
--     cell_inside    a cell of a block of cells in each row ends by the end of the table
-- Assumes nothing.
use Rattle.std.proofs.Common.{ℕ, zero, suc, ◌+◌, ◌*◌, ◌/◌, ◌%◌, ◌<◌, ◌≤◌, mul-le-mul_right, mod-lt, suc-mul, div-lt_iff_lt-mul, mul-zero, zero-mul, arith}

pub row_fits : (G q S : ℕ) → q < S → q * G + G ≤ S * G
row_fits G q S h = rw suc-mul at (mul-le-mul_right G h)

pub rows-some : (S b n : ℕ) → n < S * b → 0 < S
rows-some zero b n h = let z : n < 0 = rw zero-mul at h in omega arith
rows-some (suc S) b n h = omega arith

pub cells_some : (S b n : ℕ) → n < S * b → 0 < b
cells_some S zero n h = let z : n < 0 = rw mul-zero at h in omega arith
cells_some S (suc b) n h = omega arith

-- Cell n of blocks of b cells of w octets, one block in each of S rows of G octets, behind `below` octets of its row.
pub cell_inside : (b w G below S n : ℕ) → below + b * w ≤ G → n < S * b → n / b * G + below + n % b * w + w ≤ S * G
cell_inside b w G below S n h k =
    let some = cells_some S b n k in
    let in_block = row_fits w (n % b) b (mod-lt n some) in
    let inAll = row_fits G (n / b) S ((div-lt_iff_lt-mul some).1 k) in
    omega arith
