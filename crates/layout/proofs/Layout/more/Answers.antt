-- Each sum is one channel's octets more: a block length is below 2 ^ 32 and a width at most 8.
use Rattle.std.proofs.Common.{◌≡◌, ℕ, ◌+◌, ◌*◌, ◌%◌, ◌^◌, ◌<◌, ◌≤◌, ltb, refl, ap, ◌∙◌, mul-le-mul_left, arith}
use Rattle.octets.specs.Pick.{pick, both}
use Rattle.values.proofs.Laws.{width_le}
use Rattle.sizes.specs.Size.{group_size}
use Rattle.settings.specs.declared.Settings.{Settings}
use Rattle.layout.specs.Frame.{width_in, block_octets, channel_agrees, width_agrees}
use Rattle.layout.proofs.Layout.more.Goals as goal

narrow : (c : Settings) (w : ℕ) → w ≡ width_in c → c.block * w ≤ c.block * 8
narrow c w e = mul-le-mul_left c.block (rw e (width_le c.datatype))

pub overflow_cast-w : goal.overflow_cast-w
overflow_cast-w c =
    omega (arith, c.width-w.ensures, width_le c.args.c.datatype)

pub overflow_mul-octets : goal.overflow_mul-octets
overflow_mul-octets c = rw (c.from.ensures, c.from-2.ensures) (omega (arith, narrow c.args.c _ c.width-w.ensures))

pub returns : goal.returns
unfolding block_octets channel_agrees
returns c =
    let few : block_octets c.args.c < 2 ^ 36 =
    let x = c.args.c in omega (arith, narrow x (width_in x) refl) in
    let x = c.args.c in
    let l = c.args.self in
    let w = c.width-w.ensures in
    let own : c.from.result * c.from-2.result ≡ x.block * width_in x = rw (c.from.ensures, c.from-2.ensures, w) in
    record {
      value = λ k. record {
        agree = (c.agree_both.ensures ∙ ap (both l.agree) (c.widths_agree.ensures ∙ ap (λ (n : ℕ). both (width_agrees n x.offset) (width_agrees n x.null)) w)) k;
        octets = ap (λ (n : ℕ). (l.octets + n) % 2 ^ 64) own k;
        below = (c.added_below.ensures ∙ ap (λ (n : ℕ). pick (ltb c.args.i c.args.channel) ((l.below + n) % 2 ^ 64) l.below) own) k;
        groups = ap (λ (n : ℕ). (l.groups + n) % 2 ^ 64) (c.group_size.ensures ∙ ap (λ (n : ℕ). group_size c.args.i n x.null) w) k;
      };
      octets = few;
    }
