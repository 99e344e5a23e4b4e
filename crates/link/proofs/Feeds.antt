-- One call of the feed.
--     feed_feeds    it takes a front of the octets, leaves what feeding those leaves, and gives out what they give, no more than there is room for
-- Assumes nothing.
use Prim.Native.Nat.{ℕ, ◌-◌, ◌≤◌}
use mathlib.Core.Path.{◌≡◌, refl, sym, ap}
use mathlib.Core.List.{List, [], ◌∷◌, ◌++◌, append-nil}
use native.Mathlib.Omega.{arith}
use borrow.Author.Tests.{ltb-false}
use lib.Dec.{ltb}
use lib.ListN.{length, take, length-append}
use Rattle.octets.specs.Pick.{either}
use Rattle.octets.proofs.Pick.{pick_cases}
use Rattle.link.specs.Link.{Link, is_decided, stepped, fed_with, Given, gives, given_by}
use Rattle.link.specs.Feed.{Fed, fed, due, feed_of}

pub record Feeds (room : ℕ) (l : Link) (s : List ℕ) (f : Fed) : Type 0 where
  pub taken : f.taken ≤ length s
  pub link : f.link ≡ fed_with l (take f.taken s)
  pub given : f.given ≡ given_by l (take f.taken s)
  pub fits : length f.given ≤ room

-- It takes nothing.
feeds_none : (room : ℕ) (l : Link) (s : List ℕ) → Feeds room l s (fed 0 l [])
unfolding fed_with given_by
feeds_none room l s = record { taken = omega arith; link = refl; given = refl; fits = omega arith }

pub feed_feeds : (room : ℕ) (l : Link) (s : List ℕ) → Feeds room l s (feed_of room l s)
unfolding feed_of fed_with given_by
feed_feeds room l [] = feeds_none room l []
feed_feeds room l (b ∷ s) =
    pick_cases (Feeds room l (b ∷ s)) (is_decided l.phase) (λ _. feeds_none room l (b ∷ s))
    (λ _. pick_cases (Feeds room l (b ∷ s)) (ltb room (length (gives l b))) (λ _. feeds_none room l (b ∷ s))
    (λ e.
    let fits = ltb-false room (length (gives l b)) e in
    pick_cases (Feeds room l (b ∷ s)) (either (is_decided (stepped l b).phase) (due l b))
    (λ _. record { taken = omega arith; link = refl; given = sym (append-nil (gives l b)); fits = fits })
    (λ _.
    let q = feed_feeds (room - length (gives l b)) (stepped l b) s in
    record {
      taken = omega (arith, q.taken);
      link = q.link;
      given = ap (λ (g : List Given). gives l b ++ g) q.given;
      fits = rw length-append (omega (arith, q.fits));
    })))
