-- What a stretch counts. None of it is a rule of document 01; that it is what its items count one by one is shown where a walk takes it
-- (ahead/proofs/Stretches.antt).
use Rattle.definitions.specs.declared.Attribute.{Attribute}
use Rattle.std.specs.Prelude.{ℕ, zero, suc, ◌+◌, ◌%◌, ◌^◌, true, false, List, [], ◌∷◌, Option, Some, None}
use Rattle.settings.specs.Settings.{default_settings}
use Rattle.definitions.specs.Define.{tagged, standing_in}
use Rattle.dated.specs.declared.Dates.{Dates}
use Rattle.dated.specs.Dated.{root_defined}
use Rattle.passed.specs.declared.Passed.{Passed}

-- Before the first item of a stretch.
abbrev pub passed_from : Dates → ℕ → Passed
passed_from d items = record { dates = d; items = items; defines = false }

-- One item more, by what its tag defines. A definition's time goes by its attribute alone.
abbrev pub passed_item : Option Attribute → Passed → Passed
passed_item (Some a) x = record { dates = root_defined (standing_in a default_settings) x.dates; items = (x.items + 1) % 2 ^ 64; defines = true }
passed_item None x = record { dates = x.dates; items = (x.items + 1) % 2 ^ 64; defines = x.defines }

-- The items of octets whose first so many belong to the value of an item before them.
unfoldable pub passed_in : ℕ → List ℕ → Passed → Passed
passed_in skip [] x = x
passed_in (suc skip) (o ∷ u) x = passed_in skip u x
passed_in zero (tag ∷ []) x = x
passed_in zero (tag ∷ n ∷ u) x = passed_in n u (passed_item (tagged tag) x)

-- The items of octets, each with a length of one octet.
abbrev pub passed_over : List ℕ → Passed → Passed
passed_over u x = passed_in 0 u x
