-- The parts in which a group is written.
use Rattle.std.specs.Prelude.{List, ◌++◌, ℕ, suc, ◌-◌, ℤ, pos, negsuc}
use Rattle.stores.specs.Number.{field}
use Rattle.settings.specs.declared.Settings.{Settings}
use Rattle.layout.specs.Frame.{width_in, offset_bits}
use Rattle.sizes.specs.Size.{null_size}
use Rattle.groups.specs.Group.{scale_item}

-- A signed number in two's complement, where `full` numbers can be told apart.
unfoldable pub unsigned_by : ℕ → ℤ → ℕ
unsigned_by full (pos n) = n
unsigned_by full (negsuc k) = full - suc k

-- 04, 08, 09 and 0A.
abbrev pub first_items : Settings → List ℕ
first_items c = ((field 0x04 4 c.block ++ field 0x08 2 c.class) ++ field 0x09 2 c.lead) ++ field 0x0A 1 c.datatype

-- 0B and 0C.
abbrev pub scale_items : Settings → List ℕ
scale_items c = scale_item 0x0B c.interval ++ scale_item 0x0C c.resolution

-- 0D and 12.
abbrev pub last_items : Settings → List ℕ
last_items c = field 0x0D (width_in c) (offset_bits c).bits ++ field 0x12 (null_size (width_in c) c.null) c.null.bits
