-- Each number is that of the lowest octets of its word.
use mathlib.Core.Path.{ap, ◌∙◌}
use Prim.Native.Nat.{◌<◌, ◌^◌}
use native.Mathlib.Nat.{mod-eq_of_lt}
use mir.Syntax.{w64}
use mir.Val.{SFits}
use mir.Facts.{to_z-of_z}
use Rattle.octets.specs.Number.{low_of}
use Rattle.walk.specs.declared.Head.{Head}
use borrow.Author.Rules.{rules}
use Rattle.kept.proofs.head_words.Goals as goal
use Rattle.kept.proofs.head_words.Goals.{After-from}

-- The numbers of a head are those of their types.
record Fit (h : Head) : Type 0 where
  counted : h.standing.counted < 2 ^ 32
  sequences : h.standing.sequences < 2 ^ 32
  start : SFits w64 h.standing.start
  continued : SFits w64 h.standing.continued
  block : h.dates.times.block < 2 ^ 32
  class : h.dates.times.class < 2 ^ 32
  lead : h.dates.times.lead < 2 ^ 32
  datatype : h.dates.times.datatype < 2 ^ 32
  interval : h.dates.times.interval < 2 ^ 32
  resolution : h.dates.times.resolution < 2 ^ 32
  offset : h.dates.times.offset < 2 ^ 32
  null : h.dates.times.null < 2 ^ 32
  cleared : h.dates.cleared < 2 ^ 32
  frames : h.frames < 2 ^ 32

fit : (c : After-from) → Fit c.args.h
fit c = search rules

pub returns : goal.returns
returns c =
    let h = c.args.h in
    let f = fit (goal.at.returns c).After-from in
    λ i. record {
      cursor = record { at = h.cursor.at; within = c.within_words-within.ensures i };
      standing = record {
        little = c.flag_word.ensures i;
        counted = (ap (low_of 4) c.from.ensures ∙ mod-eq_of_lt f.counted) i;
        sequences = (ap (low_of 4) c.from-2.ensures ∙ mod-eq_of_lt f.sequences) i;
        start = (c.signed_word.ensures ∙ to_z-of_z f.start) i;
        continued = (c.signed_word-2.ensures ∙ to_z-of_z f.continued) i;
        root = h.standing.root;
      };
      dates = record {
        times = record {
          block = (ap (low_of 4) c.from-3.ensures ∙ mod-eq_of_lt f.block) i;
          class = (ap (low_of 4) c.from-4.ensures ∙ mod-eq_of_lt f.class) i;
          lead = (ap (low_of 4) c.from-5.ensures ∙ mod-eq_of_lt f.lead) i;
          datatype = (ap (low_of 4) c.from-6.ensures ∙ mod-eq_of_lt f.datatype) i;
          interval = (ap (low_of 4) c.from-7.ensures ∙ mod-eq_of_lt f.interval) i;
          resolution = (ap (low_of 4) c.from-8.ensures ∙ mod-eq_of_lt f.resolution) i;
          offset = (ap (low_of 4) c.from-9.ensures ∙ mod-eq_of_lt f.offset) i;
          null = (ap (low_of 4) c.from-10.ensures ∙ mod-eq_of_lt f.null) i;
        };
        cleared = (ap (low_of 4) c.from-11.ensures ∙ mod-eq_of_lt f.cleared) i;
        now = h.dates.now;
      };
      items = h.items;
      frames = (ap (low_of 4) c.from-12.ensures ∙ mod-eq_of_lt f.frames) i;
    }
