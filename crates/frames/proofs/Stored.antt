-- Laws of a frame that is stored part by part.
--     head_put        the head is stored
--     groups-room     the groups fit
--     samples-room    the samples fit
--     frame-stored    the frame is stored
-- Assumes nothing.
use mathlib.Core.Path.{◌≡◌, sym}
use mathlib.Core.List.{List, ◌++◌, map}
use Prim.Native.Nat.{ℕ, ◌+◌, ◌≤◌}
use native.Mathlib.Omega.{arith}
use lib.IntN.{ℤ}
use lib.ListN.{length}
use Rattle.stores.specs.Storing.{Put, Putting, put_fits}
use Rattle.stores.proofs.Stores.{put_then, put_long}
use Rattle.settings.specs.declared.Settings.{Settings}
use Rattle.layout.specs.Frame.{reported}
use Rattle.sizes.specs.Size.{frame_size}
use Rattle.layout.specs.Measure.{groups_size}
use Rattle.groups.specs.Head.{head_items}
use Rattle.groups.specs.Group.{groups_octets}
use Rattle.groups.proofs.Sizes.{head-long, groups-long}
use Rattle.groups.proofs.Puts.{put_as}
use Rattle.frames.specs.Parts.{waveform_head, frame_parts}

module _ {d e : List ℕ} {at a : ℕ} (cs : List Settings) (sequences octets : ℕ) {count : ℕ} {z start : ℤ}
    (ec : length cs ≡ count) (ez : z ≡ start) (room : at + frame_size sequences (groups_size 0 cs) octets ≤ length d) (p : Putting d at (head_items count sequences z) a e) where
  head_put : Put d at (head_items count sequences z) a e
  unfolding frame_size
  head_put = put_fits (omega (arith, head-long count sequences z)) p

  pub groups-room : a + groups_size 0 cs ≤ length e
  unfolding frame_size
  groups-room = omega (arith, head-long count sequences z, head_put.next, put_long head_put)

  module _ {f g : List ℕ} {b c : ℕ} (q : Put e a (groups_octets 0 (map reported cs)) b f) (o : Putting f b (waveform_head octets) c g) where
    waveform_put : Put f b (waveform_head octets) c g
    unfolding frame_size
    waveform_put = put_fits (omega (arith, head-long count sequences z, head_put.next, put_long head_put, groups-long 0 cs, q.next, put_long q)) o

    pub samples-room : c + octets ≤ length g
    unfolding frame_size
    samples-room = omega (arith, head-long count sequences z, head_put.next, put_long head_put, groups-long 0 cs, q.next, put_long q, waveform_put.next, put_long waveform_put)

    pub frame-stored : {samples i : List ℕ} {u : ℕ} → octets ≡ length samples → Put g c samples u i → Put d at (frame_parts start sequences cs samples) u i
    frame-stored {samples} eo s =
        put_as (λ k. ((head_items (sym ec k) sequences (ez k) ++ groups_octets 0 (map reported cs)) ++ waveform_head (eo k)) ++ samples)
        (put_then (put_then (put_then head_put q) waveform_put) s)
