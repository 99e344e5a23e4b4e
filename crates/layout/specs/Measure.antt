-- What one pass over the channels of a frame tells.
use Rattle.std.specs.Prelude.{◌≡◌, ℕ, suc, ◌+◌, ◌%◌, ◌^◌, ◌<◌, true, List, [], ◌∷◌, nat_lt}
use Rattle.octets.specs.Pick.{pick, both}
use Rattle.sizes.specs.Size.{group_size}
use Rattle.settings.specs.declared.Settings.{Settings}
use Rattle.layout.specs.declared.Layout.{Layout}
use Rattle.layout.specs.Frame.{width_in, block_octets, sequence_octets, octets_below, channel_agrees, all_agree}

-- The octets that the groups of channels from k on take in the canonical file.
unfoldable pub groups_size : ℕ → List Settings → ℕ
groups_size k [] = 0
groups_size k (c ∷ cs) = group_size k (width_in c) c.null + groups_size (suc k) cs

-- Whether offsets and nulls agree with their widths, G, the octets below a channel, and the canonical groups' octets.
unfoldable pub layout_of : ℕ → List Settings → Layout
layout_of channel cs =
    record { agree = all_agree cs; octets = sequence_octets cs; below = octets_below channel cs; groups = groups_size 0 cs }

-- Of no channel.
abbrev pub no_layout : Layout
no_layout = record { agree = true; octets = 0; below = 0; groups = 0 }

-- Channel i more, in sums of 64 bits.
abbrev pub more_of : ℕ → ℕ → Settings → Layout → Layout
more_of i channel c l =
    record {
      agree = both l.agree (channel_agrees c);
      octets = (l.octets + block_octets c) % 2 ^ 64;
      below = pick (nat_lt i channel) ((l.below + block_octets c) % 2 ^ 64) l.below;
      groups = (l.groups + group_size i (width_in c) c.null) % 2 ^ 64;
    }

-- Channel i more, and that its own octets are few.
pub record More (i channel : ℕ) (c : Settings) (l r : Layout) : Type 0 where
  pub value : r ≡ more_of i channel c l
  pub octets : block_octets c < 2 ^ 36
