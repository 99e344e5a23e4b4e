-- Laws of a channel's view.
--     LiesIn, seen_lies, lies_seen    the test whether its samples lie in a file
--     seen_inside     a sample that is there, of a view that lies in a file, lies there
--     place-sum       its place, as it is computed
--     map_seen        what is made of the answer to a question for a sample
--     AskedIn, asked-answered    a question for a sample that is declared, of a view that lies in the file
-- Assumes nothing.
use mathlib.Core.Path.{◌≡◌, refl}
use mathlib.Core.Bool.{Bool, true, false}
use Prim.Native.Nat.{ℕ, ◌+◌, ◌*◌, ◌/◌, ◌%◌, ◌≤◌, ◌<◌}
use borrow.Author.Tests.{lt-ltb}
use lib.Dec.{ltb}
use Rattle.octets.specs.Pick.{pick}
use Rattle.heads.specs.declared.Fault.TheVariants.{NoFrame, NoSample}
use Rattle.heads.specs.Answer.{answered, refused_as, map_answer}
use Rattle.layout.specs.Frame.{width_in}
use Rattle.spread.specs.declared.Spread.{Spread}
use Rattle.spread.specs.Spread.{width_spread, place_spread}
use Rattle.spread.specs.Lies.{Lies}
use Rattle.spread.proofs.Lying.{lies_in_lem, in_lies, spread_inside}
use Rattle.view.specs.declared.View.{View}
use Rattle.view.specs.View.{spread_of, count_seen, there_seen, place_seen, lies_in, asked_seen}

-- The samples lie in a file of `size` octets.
pub record LiesIn (size : ℕ) (v : View) : Type 0 where
  pub spread : Lies size (spread_of v)

module _ {size : ℕ} {v : View} where
  pub seen_lies : lies_in size v ≡ true → LiesIn size v
  unfolding lies_in
  seen_lies e = record { spread = lies_in_lem e }

  pub lies_seen : LiesIn size v → lies_in size v ≡ true
  unfolding lies_in
  lies_seen l = in_lies l.spread

-- A sample that is there, of a view that lies in a file, lies there.
pub seen_inside : {size : ℕ} {v : View} → LiesIn size v → (n : ℕ) → n < there_seen v → place_seen v n + width_in v.settings ≤ size
unfolding place_seen
seen_inside l n h = spread_inside l.spread n h

-- The place as it is computed, with the width as it was read.
pub place-sum : (x : Spread) (n width : ℕ) → width ≡ width_spread x → x.place + (n / x.block * x.octets + x.below + n % x.block * width) ≡ place_spread x n
place-sum x n width e = rw e

-- What is made of the answer to a question for a sample.
pub map_seen : {A B : Type 0} (f : A → B) (size : ℕ) (v : View) (n : ℕ) (a : A) → map_answer f (asked_seen size v n a) ≡ asked_seen size v n (f a)
map_seen f size v n a = by (ltb n (count_seen v)) (lies_in size v)
  where
    by : (s t : Bool) → map_answer f (pick s (pick t (answered a) (refused_as NoFrame 0)) (refused_as NoSample 0)) ≡ pick s (pick t (answered (f a)) (refused_as NoFrame 0)) (refused_as NoSample 0)
    by true true = refl
    by true false = refl
    by false t = refl

-- The sample is declared, and its view lies in the file.
pub record AskedIn (size : ℕ) (v : View) (n : ℕ) : Type 0 where
  pub lies : LiesIn size v
  pub number : n < count_seen v

pub asked-answered : {A : Type 0} (a : A) {size : ℕ} {v : View} {n : ℕ} → AskedIn size v n → asked_seen size v n a ≡ answered a
asked-answered a {v = v} {n = n} m = simp (lt-ltb n (count_seen v) m.number, lies_seen m.lies)
