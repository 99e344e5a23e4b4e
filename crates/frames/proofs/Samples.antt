-- Laws of writing the samples in the first octets of a waveform, which end with a sample.
--     samples_narrow    samples of one octet are as they stand
--     samples_even      samples of one width are turned round in one run
--     mixed-..          whole sequences, and then the one that is cut off
-- Assumes nothing.
use mathlib.Core.Path.{◌≡◌, refl, sym, ap, ◌∙◌}
use mathlib.Core.List.{List}
use mathlib.Core.Bool.{Bool, true, false}
use Prim.Native.Nat.{ℕ, ◌+◌, ◌*◌, ◌/◌, ◌%◌, ◌≤◌, ◌<◌}
use native.Mathlib.Nat.{min-le_left, div-one, div-mul-le_self, div-add-mod'}
use native.Mathlib.Omega.{arith}
use lib.ListN.{length, take, drop, length-take}
use Rattle.stores.specs.Storing.{Put}
use Rattle.stores.proofs.Stores.{put_then, put_long}
use Rattle.runs.specs.Turned.{turned, turned_run}
use Rattle.runs.proofs.Turned.{turned_one, run_turned, length-turned}
use Rattle.settings.specs.declared.Settings.{Settings}
use Rattle.layout.specs.Frame.{sequence_octets}
use Rattle.laid.specs.Turned.{Even, turned_all}
use Rattle.there.specs.There.{part_octets}
use Rattle.there.specs.Turned.{turned_part, turned_there}
use Rattle.there.proofs.Places.{none_of, part_fits}
use Rattle.there.proofs.Turned.{turned_run_lem, there-none}
use Rattle.frames.specs.Parts.{samples_turned}
use Rattle.frames.proofs.Coming.{length-all}

module _ (cs : List Settings) (octets : ℕ) (x : List ℕ) {sequence : ℕ} (e : sequence ≡ sequence_octets cs) (ends : part_octets cs (octets % sequence) ≡ octets % sequence) where
  ended : part_octets cs (octets % sequence_octets cs) ≡ octets % sequence_octets cs
  ended = rw e at ends

  pub samples_narrow : Even 1 cs → take octets x ≡ turned_there cs octets x
  samples_narrow h =
      sym ((turned_run_lem 1 cs octets x (omega arith) h ended).1 ∙ turned_one (octets / 1) x ∙ ap (λ (m : ℕ). take m x) (div-one octets))

  -- Whole sequences, and the part of one.
  mixed_sum : octets / sequence * sequence_octets cs + octets % sequence ≡ octets
  mixed_sum = rw (← e) (div-add-mod' octets sequence)

  pub mixed_whole : octets / sequence * sequence_octets cs ≤ octets
  mixed_whole = omega (arith, mixed_sum)

  module _ (l : octets ≤ length x) where
    module _ (v : ℕ) (p : 0 < v) (h : Even v cs) where
      even_run : turned_run v (octets / v) x ≡ turned v (octets / v) x
      even_run = run_turned v (octets / v) x (omega (arith, div-mul-le_self octets v))

      pub samples_even : turned_run v (octets / v) x ≡ turned_there cs octets x
      samples_even = even_run ∙ sym (turned_run_lem v cs octets x p h ended).1

      pub even_room : length (turned_run v (octets / v) x) ≤ octets
      even_room =
          let few = div-mul-le_self octets v in
          omega (arith, ap length even_run, length-turned v (octets / v) x (omega arith))

    pub mixed_room : {d f : List ℕ} {at a : ℕ} → at + octets ≤ length d → Put d at (turned_all cs (octets / sequence) x) a f → a + part_octets cs (octets % sequence) ≤ length f
    mixed_room h p =
        let long = length-all cs (octets / sequence) x (omega (arith, mixed_whole)) in
        omega (arith, ends, p.next, put_long p, mixed_sum)

  pub mixed_put : {d f g : List ℕ} {at a r : ℕ} → Put d at (turned_all cs (octets / sequence) x) a f → Put f a (turned_part cs (octets % sequence) (drop (octets / sequence * sequence) x)) r g → Put d at (turned_there cs octets x) r g
  unfolding turned_there
  mixed_put p q = rw (← e) (put_then p q)

  -- Sequences of no octets.
  pub mixed_none : sequence ≡ 0 → (d : List ℕ) (at : ℕ) → Put d at (turned_there cs octets x) at d
  mixed_none z d at = rw (nothing (sym e ∙ z), there-none cs x) record { next = omega arith; stored = refl }
    where
      nothing : sequence_octets cs ≡ 0 → octets ≡ 0
      nothing g =
          let G = sequence_octets cs in
          omega (arith, ended, part_fits cs (octets % G), div-add-mod' octets G, none_of (octets / G) G g)

-- A run that is no longer than asked for fits.
pub taken-room : (n at : ℕ) (x d : List ℕ) → at + n ≤ length d → at + length (take n x) ≤ length d
taken-room n at x d h = omega (arith, length-take n x, min-le_left n (length x))

pub samples_big : {little : Bool} (cs : List Settings) (octets : ℕ) (x : List ℕ) → little ≡ false → take octets x ≡ samples_turned little cs octets x
samples_big cs octets x l = rw l

pub samples-little : {little : Bool} (cs : List Settings) (octets : ℕ) (x : List ℕ) → little ≡ true → turned_there cs octets x ≡ samples_turned little cs octets x
samples-little cs octets x l = rw l
