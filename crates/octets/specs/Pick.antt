-- The choice by a test, and tests joined: what definitions of every crate are written with.
use Rattle.std.specs.Prelude.{Bool, true, false}

-- The first of two where the test holds, else the second.
abbrev pub pick {ℓ} : {A : Type ℓ} → Bool → A → A → A
pick true a b = a
pick false a b = b

-- Both tests hold.
abbrev pub both : Bool → Bool → Bool
both true b = b
both false b = false

-- One of the tests holds, or both.
abbrev pub either : Bool → Bool → Bool
either true b = true
either false b = b
